-- What the situation tells, of a legal past of a sound script without main queues.
-- Cited by `Layers`, `told.rt`.
use Rattle.std.proofs.Common.{◌≡◌, ℕ, ◌≤◌, true, List, [], ◌∷◌, ◌++◌, refl, ◌∙◌}
use Rattle.std.specs.Option.{option_map}
use Rattle.task_base.specs.Plan.{Plan}
use Rattle.task_base.specs.declared.entry.Entry.{Entry}
use Rattle.task_base.specs.declared.entry.Kind.{Kind}
use Rattle.script_model.specs.Laws.Sound.{IsSound}
use Rattle.hist_model.specs.Allowed.{IsAllowed}
use Rattle.hist_model.specs.Legal.{IsLegal}
use Rattle.hist_model.specs.Script.{is_whole}
use Rattle.hist_model.specs.Laws.Ways.{is_due, way_on}
use Rattle.situation.specs.Alike.{without_items}
use Rattle.situation.specs.Counts.{next_of}
use Rattle.situation.specs.Situation.{Situation, is_pool_script, situation_of}
use Rattle.log_count.specs.After.{after_in}
use Rattle.log_count.specs.Ways.{is_due_in, is_whole_in, next_in, way_in}
use Rattle.log_count.proofs.After.{after_is}
use Rattle.log_count.proofs.Alike.{after_alike, without_twice}
use Rattle.log_count.proofs.Shows.{shows}
use Rattle.log_count.proofs.Ways.{due_is, next_is, way_is_told, whole_is}

pub way_told : (script : Plan) (past : List Entry) (seat : ℕ) → IsSound script → is_pool_script script ≡ true → IsLegal script past
    → option_map without_items (way_on script past seat) ≡ way_in script (situation_of script past) seat
way_told script past seat sound pool legal = way_is_told script past (situation_of script past) (shows script past sound legal) sound pool legal seat

pub due_told : (script : Plan) (past : List Entry) (kind : Kind) → IsSound script → is_pool_script script ≡ true → IsLegal script past
    → is_due script past kind ≡ is_due_in script (situation_of script past) kind
due_told script past kind sound pool legal = due_is script past (situation_of script past) (shows script past sound legal) sound pool legal kind

pub whole_told : (script : Plan) (past : List Entry) → IsSound script → is_pool_script script ≡ true → IsLegal script past
    → is_whole script past ≡ is_whole_in script (situation_of script past)
whole_told script past sound pool legal = whole_is script past (situation_of script past) (shows script past sound legal) sound pool legal

pub next_told : (script : Plan) (tick : Situation → ℕ) (past : List Entry) (seat : ℕ) → IsSound script → is_pool_script script ≡ true → IsLegal script past
    → seat ≤ script.workers
    → option_map (λ (e : Entry). without_items e.kind) (next_of script tick past seat) ≡ next_in script tick (situation_of script past) seat
next_told script tick past seat sound pool legal =
    next_is script past (situation_of script past) (shows script past sound legal) sound pool legal tick seat refl

pub after_told : (script : Plan) (past : List Entry) (e : Entry) → IsSound script → is_pool_script script ≡ true → IsLegal script past
    → IsAllowed script past e → situation_of script (past ++ e ∷ []) ≡ after_in script (situation_of script past) e.seat (without_items e.kind)
after_told script past e sound pool legal allowed =
    after_is script past (situation_of script past) (shows script past sound legal) sound pool legal e allowed
    ∙ after_alike script (situation_of script past) e.seat e.kind (without_items e.kind) (without_twice e.kind)
