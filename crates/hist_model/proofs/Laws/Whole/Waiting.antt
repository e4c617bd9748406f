-- A task of the pool that was never taken is forbidden, not ripe, or waits in its sequence.
-- Cited by `Laws/Whole/Losing`.
use Rattle.std.proofs.Common.{◌≡◌, ℕ, Bool, true, false, cond, List}
use Rattle.std.proofs.Common.{refl, sym, ap, Option, Some, None, inl, inr}
use Rattle.std.specs.Prelude.{◌⊎◌, ◌&&◌, Contains}
use Rattle.std.specs.Option.{option_map}
use Rattle.std.proofs.lemmas.Bool.{eq-eqb}
use Rattle.std.proofs.lemmas.Option.{none-some}
use Rattle.std.proofs.lemmas.List.Elements.{All-contains}
use Rattle.task_base.specs.Plan.{Plan}
use Rattle.task_base.specs.Keys.{key_below}
use Rattle.task_base.specs.declared.entry.Entry.{Entry}
use Rattle.task_base.specs.declared.source.Key.{Key}
use Rattle.list_laws.specs.Lists.{holds_of}
use Rattle.list_laws.proofs.Made.{contains_filter, contains_filter_map, contains_not_empty}
use Rattle.task_model.specs.Time.{tick_from}
use Rattle.task_model.specs.Posts.{Posted, is_delayed, posts}
use Rattle.task_model.specs.Posts.{is_taken}
use Rattle.task_model.specs.Refusal.{is_forbidden}
use Rattle.task_model.specs.Keys.{Ready, key_at, key_of, ready}
use Rattle.task_model.specs.Sequences.{is_of, may_start, eligible, head_of}
use Rattle.task_model.specs.Seats.{runs_of, runs_sequence}
use Rattle.pool_laws.specs.Keys.{ready_below}
use Rattle.pool_laws.proofs.Seats.Running.{no_seat_runs}
use Rattle.pool_laws.proofs.Choice.Least.{head_is_least, no_head, keys_total}
use Rattle.hist_model.specs.Script.{IsWhole}
use Rattle.hist_model.specs.Legal.{IsLegal}
use Rattle.hist_model.specs.Laws.Whole.{sequence_at, IsUnripe, WaitsInSequence, LeftTask}
use Rattle.hist_model.specs.Laws.Whole.LeftTask.{Forbidden, Unripe, Waits}
use Rattle.hist_model.proofs.Laws.Whole.Rest.{nobody_runs}

-- a task that has a key is among those that have keys
is_ready : (past : List Entry) (p : Posted) (key : Key) → Contains (posts past) p → key_of past p ≡ Some key
    → Contains (ready past) (record { posted = p; key = key })
unfolding ready
is_ready past p key among is = contains_filter_map (λ q. option_map (λ k. record { posted = q; key = k }) (key_of past q)) (posts past) p
    (record { posted = p; key = key }) among (ap (option_map (λ k. record { posted = p; key = k })) is)

-- and among those that may be taken from its sequence, where it was not taken and is not forbidden
in_sequence : (script : Plan) (past : List Entry) (p : Posted) (key : Key) → Contains (posts past) p → key_of past p ≡ Some key
    → is_taken past p.task ≡ false → is_forbidden script past p ≡ false
    → Contains (eligible script past (sequence_at script p)) (record { posted = p; key = key })
unfolding eligible
in_sequence script past p key among is free allowed = contains_filter (λ r. is_of script (sequence_at script p) r.posted && may_start script past r.posted)
    (ready past) (record { posted = p; key = key }) (is_ready past p key among is)
    (rw (eq-eqb (sequence_at script p) (sequence_at script p) refl, free, allowed) refl)

no_task_runs : (script : Plan) (log : List Entry) (s : ℕ) → IsLegal script log → IsWhole script log → runs_sequence script log s ≡ false
no_task_runs script log s legal whole = no_seat_runs script log s (λ seat known. ap (holds_of (runs_of script s)) (nobody_runs script log legal whole seat))

-- of a head and a task that may be taken, the head's key is the task's own or below it
head_first : (head : Ready) (key : Key) → key_below key head.key ≡ false → (head.key ≡ key) ⊎ (key_below head.key key ≡ true)
head_first head key not_above = by_key_below (key_below head.key key) refl
  where
    by_key_below : (b : Bool) → key_below head.key key ≡ b → (head.key ≡ key) ⊎ (key_below head.key key ≡ true)
    by_key_below true is = inr is
    by_key_below false is = inl (keys_total head.key key is not_above)

waits_in_sequence : (script : Plan) (log : List Entry) (p : Posted) (key : Key) → IsLegal script log → IsWhole script log → Contains (posts log) p
    → key_of log p ≡ Some key → is_taken log p.task ≡ false → is_forbidden script log p ≡ false → WaitsInSequence script log p
waits_in_sequence script log p key legal whole among is free allowed = by_head (head_of script log (sequence_at script p)) refl
  where
    it : Ready
    it = record { posted = p; key = key }

    eligible_is : Contains (eligible script log (sequence_at script p)) it
    eligible_is = in_sequence script log p key among is free allowed

    by_head : (o : Option Ready) → head_of script log (sequence_at script p) ≡ o → WaitsInSequence script log p
    by_head None none = absurd (contains_not_empty (eligible script log (sequence_at script p)) it eligible_is (no_head script log (sequence_at script p) none))
    by_head (Some head) some = record {
      key = key;
      key_is = is;
      is_eligible = eligible_is;
      head = head;
      head_is = some;
      at_or_below = head_first head key (All-contains (λ r. ready_below r head ≡ false) (eligible script log (sequence_at script p)) it
          (head_is_least script log (sequence_at script p) head some).none_below eligible_is);
      not_running = no_task_runs script log (sequence_at script p) legal whole;
      waits = rw (no_task_runs script log (sequence_at script p) legal whole, some) refl;
    }

-- a task has no key where it is delayed and no tick has come to its ripe moment
unripe : (past : List Entry) (p : Posted) → key_of past p ≡ None → IsUnripe past p
unripe past p none = by_delayed (is_delayed p) (tick_from past p.ripe) refl refl none
  where
    by_delayed : (b : Bool) (o : Option ℕ) → is_delayed p ≡ b → tick_from past p.ripe ≡ o
        → cond b (option_map (λ place. record { place = place; ripe = p.ripe; post = p.place }) o) (Some (key_at p.place)) ≡ None → IsUnripe past p
    by_delayed false o delayed tick k = absurd (none-some (key_at p.place) (sym k))
    by_delayed true None delayed tick k = record { delayed = delayed; no_tick = tick; no_key = none }
    by_delayed true (Some place) delayed tick k = absurd (none-some _ (sym k))

pub tasks_left : (script : Plan) (log : List Entry) → IsLegal script log → IsWhole script log → (p : Posted) → Contains (posts log) p
    → is_taken log p.task ≡ false → LeftTask script log p
tasks_left script log legal whole p among free = by_forbidden (is_forbidden script log p) (key_of log p) refl refl
  where
    by_forbidden : (b : Bool) (o : Option Key) → is_forbidden script log p ≡ b → key_of log p ≡ o → LeftTask script log p
    by_forbidden true o forbidden key_is = Forbidden forbidden
    by_forbidden false None allowed no_key = Unripe (unripe log p no_key)
    by_forbidden false (Some key) allowed key_is = Waits (waits_in_sequence script log p key legal whole among key_is free allowed)
