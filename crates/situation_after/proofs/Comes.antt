-- What a situation says that a seat does next comes next, and what it leads to is the situation of a legal past again.
-- Cited by `onward`, `reached.rt`, `log_counting`.
use Rattle.std.proofs.Common.{◌≡◌, ℕ, ◌≤◌, Bool, true, false, cond, List, [], ◌∷◌, ◌++◌, refl, sym, ap, subst, ◌∙◌, Option, Some, None}
use Rattle.std.specs.Prelude.{option_and_then}
use Rattle.std.specs.Option.{option_map}
use Rattle.std.proofs.lemmas.Option.{none-some, same_Some}
use Rattle.task_base.specs.Plan.{Plan}
use Rattle.task_base.specs.declared.entry.Entry.{Entry}
use Rattle.task_base.specs.declared.entry.Kind.{Kind}
use Rattle.script_model.specs.Laws.Sound.{IsSound}
use Rattle.hist_model.specs.Allowed.{IsAllowed, is_allowed}
use Rattle.hist_model.specs.Laws.Ways.{way_on}
use Rattle.hist_model.proofs.Laws.Legal.{legal_next, nothing_is_legal}
use Rattle.situation.specs.Alike.{without_items}
use Rattle.situation.specs.Counts.{at_moment, if_allowed, next_of}
use Rattle.situation.specs.Situation.{Situation, is_pool_script, situation_of}
use Rattle.log_count.specs.After.{after_in}
use Rattle.log_count.specs.Ways.{next_in}
use Rattle.log_count.proofs.Promised.{after_told, next_told}
use Rattle.situation_steps.specs.Reached.{IsReached}
use Rattle.situation_after.specs.ComesNext.{ComesNext}

-- what a seat may make next is allowed, and of the seat
next_allowed : (script : Plan) (tick : Situation → ℕ) (past : List Entry) (seat : ℕ) (e : Entry) → next_of script tick past seat ≡ Some e
    → IsAllowed script past e × (e.seat ≡ seat)
next_allowed script tick past seat e next = by_way (way_on script past seat) next
  where
    made : Kind → Entry
    made way = record { seat = seat; kind = at_moment (tick (situation_of script past)) way }

    by_allowed : (way : Kind) (b : Bool) → is_allowed script past (made way) ≡ b → cond b (Some (made way)) None ≡ Some e
        → IsAllowed script past e × (e.seat ≡ seat)
    by_allowed way false is h = absurd (none-some e h)
    by_allowed way true is h =
        let same : made way ≡ e = same_Some (made way) e h in
        (subst (IsAllowed script past) same is, ap (λ (x : Entry). x.seat) (sym same))

    by_way : (o : Option Kind) → option_and_then (λ way. if_allowed script past (made way)) o ≡ Some e → IsAllowed script past e × (e.seat ≡ seat)
    by_way None h = absurd (none-some e h)
    by_way (Some way) h = by_allowed way (is_allowed script past (made way)) refl h

pub what_is_next_comes : (script : Plan) (tick : Situation → ℕ) (s : Situation) (seat : ℕ) (kind : Kind) → IsReached script s → seat ≤ script.workers
    → next_in script tick s seat ≡ Some kind → ComesNext script s seat kind
what_is_next_comes script tick s seat kind reached known next =
    by_next (next_of script tick reached.past seat) refl
    (next_told script tick reached.past seat reached.sound reached.pool reached.legal known ∙ ap (λ x. next_in script tick x seat) reached.same ∙ next)
  where
    by_next : (o : Option Entry) → next_of script tick reached.past seat ≡ o → option_map (λ (e : Entry). without_items e.kind) o ≡ Some kind
        → ComesNext script s seat kind
    by_next None is h = absurd (none-some kind h)
    by_next (Some e) is h =
        let at = next_allowed script tick reached.past seat e is in
        record { reached = reached; entry = e; allowed = at.0; seat_is = at.1; kind_is = same_Some (without_items e.kind) kind h }

pub the_next_is_reached : (script : Plan) (s : Situation) (seat : ℕ) (kind : Kind) → ComesNext script s seat kind
    → IsReached script (after_in script s seat kind)
the_next_is_reached script s seat kind c =
    let now = c.reached in
    record {
      past = now.past ++ c.entry ∷ [];
      legal = legal_next script now.past c.entry now.legal c.allowed;
      same = after_told script now.past c.entry now.sound now.pool now.legal c.allowed
          ∙ ap (λ x. after_in script x c.entry.seat (without_items c.entry.kind)) now.same
          ∙ ap (λ n. after_in script s n (without_items c.entry.kind)) c.seat_is ∙ ap (after_in script s seat) c.kind_is;
      sound = now.sound;
      pool = now.pool;
    }

pub the_start_is_reached : (script : Plan) → IsSound script → is_pool_script script ≡ true → IsReached script (situation_of script [])
the_start_is_reached script sound pool =
    record { past = []; legal = nothing_is_legal script; same = refl; sound = sound; pool = pool }
