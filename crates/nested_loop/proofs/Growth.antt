-- What one more event does to the notions of the past.
-- Cited by `Chosen`, `Deferrals`, `Front`, `Kept`, `Known`, `Left`.
use Rattle.std.proofs.Common.{◌≡◌, ℕ, ◌+◌, List, [], ◌∷◌, ◌++◌, length, refl, sym, ap, ◌∙◌, Option, Some, None, append_assoc, append-nil, arith, add-zero}
use Rattle.std.specs.Prelude.{◌||◌}
use Rattle.std.specs.List.{filter_map, list_any}
use Rattle.std.specs.Option.{option_to_list}
use Rattle.std.proofs.Math.Bool.{or-false}
use Rattle.std.proofs.lemmas.List.Folds.{list_any-append}
use Rattle.nested_loop.specs.Nest.{defers, deferred_by, is_started, posted_by, posted_from, posted_tasks, starts, was_deferred}
use Rattle.nested_loop.specs.declared.event.Event.{Event}

pub is_started_push : (past : List Event) (event : Event) (t : ℕ) → is_started (past ++ event ∷ []) t ≡ (is_started past t || starts t event)
unfolding is_started
is_started_push past event t = list_any-append (starts t) past (event ∷ []) ∙ ap (λ b. list_any (starts t) past || b) (or-false (starts t event))

pub was_deferred_push : (past : List Event) (event : Event) (t : ℕ) → was_deferred (past ++ event ∷ []) t ≡ (was_deferred past t || defers t event)
unfolding was_deferred
was_deferred_push past event t = list_any-append (defers t) past (event ∷ []) ∙ ap (λ b. list_any (defers t) past || b) (or-false (defers t event))

posted_from-append : (place : ℕ) (past : List Event) (event : Event)
    → posted_from place (past ++ event ∷ []) ≡ posted_from place past ++ posted_by (place + length past) event
posted_from-append place [] event = append-nil (posted_by place event) ∙ ap (λ n. posted_by n event) (sym (add-zero place))
posted_from-append place (e ∷ past) event =
    ap (λ ps. posted_by place e ++ ps) (posted_from-append (place + 1) past event
    ∙ ap (λ n. posted_from (place + 1) past ++ posted_by n event) (omega arith))
    ∙ sym (append_assoc (posted_by place e) (posted_from (place + 1) past) (posted_by (place + length (e ∷ past)) event))

pub posted_tasks_push : (past : List Event) (event : Event) → posted_tasks (past ++ event ∷ []) ≡ posted_tasks past ++ posted_by (length past) event
unfolding posted_tasks
posted_tasks_push past event = posted_from-append 0 past event ∙ ap (λ n. posted_from 0 past ++ posted_by n event) (omega arith)

pub deferrals_push : (past : List Event) (event : Event)
    → filter_map deferred_by (past ++ event ∷ []) ≡ filter_map deferred_by past ++ option_to_list (deferred_by event)
deferrals_push [] event = by_deferred (deferred_by event)
  where
    by_deferred : (o : Option ℕ) → Rattle.std.specs.List.cons_option o [] ≡ option_to_list o
    by_deferred None = refl
    by_deferred (Some t) = refl
deferrals_push (e ∷ past) event = by_deferred (deferred_by e) (deferrals_push past event)
  where
    by_deferred : (o : Option ℕ) → filter_map deferred_by (past ++ event ∷ []) ≡ filter_map deferred_by past ++ option_to_list (deferred_by event)
        → Rattle.std.specs.List.cons_option o (filter_map deferred_by (past ++ event ∷ []))
        ≡ Rattle.std.specs.List.cons_option o (filter_map deferred_by past) ++ option_to_list (deferred_by event)
    by_deferred None h = h
    by_deferred (Some t) h = ap (λ ts. t ∷ ts) h
