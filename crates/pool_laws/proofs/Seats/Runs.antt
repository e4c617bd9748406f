-- What one more entry does to what is run of the pool, and of the main queues.
-- Cited by `hist_model`, `log_count`, `pool_core`, `run_summary`, `situation`.
use Rattle.std.proofs.Common.{◌≡◌, ℕ, ◌≤◌, Bool, true, false, eqb, List, [], ◌∷◌, ◌++◌, refl, sym, ap, ◌∙◌, Option, Some, None, ◌⊎◌, inl, inr, ⊎_elim, arith}
use Rattle.std.specs.Prelude.{◌||◌}
use Rattle.std.proofs.lemmas.Bool.{both_ways, eq-eqb, false_from_ne_true, or_cases, or_from, or_left, or_right, true≢false}
use Rattle.std.proofs.lemmas.List.Elements.{Contains-append_left}
use Rattle.std.proofs.lemmas.Option.{none-some, same_Some}
use Rattle.task_base.specs.Plan.{Plan}
use Rattle.task_base.specs.Runners.{sequence_of}
use Rattle.task_base.specs.declared.entry.Entry.{Entry}
use Rattle.task_base.specs.declared.entry.Kind.{Kind}
use Rattle.task_base.specs.declared.entry.Kind.TheVariants.{End, MainEnd, Take, MainTake}
use Rattle.task_model.proofs.Growth.{posts_push, main_posts_push, is_taken_push, is_ended_push, is_main_taken_push}
use Rattle.pool_laws.proofs.Keys.Posts.{is_main_ended_push}
use Rattle.task_model.specs.Posts.{is_ended}
use Rattle.pool_laws.specs.Posts.{is_main_ended}
use Rattle.task_model.specs.Seats.{Running, running, running_after, runs_sequence}
use Rattle.pool_laws.specs.Runs.{posts_as, posted_as, taken_as, takes_as, ended_as, ends_as, moves_runs, CanRun, RunsAs, RunsSingly}
use Rattle.pool_laws.proofs.Seats.Running.{seat_runs}
use Rattle.pool_laws.proofs.Seats.Whose.{RunsBehind, runs_behind}

pub posts_as_push : (main : Bool) (past : List Entry) (e : Entry) → posts_as main (past ++ e ∷ []) ≡ posts_as main past ++ posted_as main past e.kind
posts_as_push false past e = posts_push past e
posts_as_push true past e = main_posts_push past e

pub taken_as_push : (main : Bool) (past : List Entry) (e : Entry) (t : ℕ) → taken_as main (past ++ e ∷ []) t ≡ (taken_as main past t || takes_as main t e.kind)
taken_as_push false past e t = is_taken_push past e t
taken_as_push true past e t = is_main_taken_push past e t

pub ended_as_push : (main : Bool) (past : List Entry) (e : Entry) (t : ℕ) → ended_as main (past ++ e ∷ []) t ≡ (ended_as main past t || ends_as main t e.kind)
ended_as_push false past e t = is_ended_push past e t
ended_as_push true past e t = is_main_ended_push past e t

-- what can run can run later
can_stays : (script : Plan) (past : List Entry) (e : Entry) (s : ℕ) (w : Running) (main : Bool) → CanRun script past s w main
    → CanRun script (past ++ e ∷ []) s w main
can_stays script past e s w main can = record {
  accepted = can.accepted;
  posted = rw (posts_as_push main past e) (Contains-append_left (posts_as main past) (posted_as main past e.kind) can.accepted can.posted);
  task_is = can.task_is;
  home_is = can.home_is;
  worker = can.worker;
  driver = can.driver;
  known = can.known;
}

-- what runs goes on behind an entry that does not end it
runs_on : (script : Plan) (past : List Entry) (e : Entry) (s : ℕ) (w : Running) (main : Bool) → RunsAs script past s w main
    → ends_as main w.task e.kind ≡ false → RunsAs script (past ++ e ∷ []) s w main
runs_on script past e s w main r goes_on = record {
  can = can_stays script past e s w main r.can;
  taken = rw (taken_as_push main past e w.task) (or_left (taken_as main past w.task) (takes_as main w.task e.kind) r.taken);
  not_ended = rw (ended_as_push main past e w.task) (or_from (ended_as main past w.task) (ends_as main w.task e.kind) r.not_ended goes_on);
}

-- what ends was taken, so that what has ended behind the entry was
ended_behind : (script : Plan) (past : List Entry) (e : Entry) (main : Bool) → RunsSingly script past main
    → ((t : ℕ) → ends_as main t e.kind ≡ true → taken_as main past t ≡ true) → (t : ℕ) → ended_as main (past ++ e ∷ []) t ≡ true
    → taken_as main (past ++ e ∷ []) t ≡ true
ended_behind script past e main c was_taken t h = rw (taken_as_push main past e t) (or_left (taken_as main past t) (takes_as main t e.kind)
    (⊎_elim (c.taken_before_ended t) (was_taken t) (or_cases (ended_as main past t) (ends_as main t e.kind) (rw (ended_as_push main past e t) at h))))

-- an entry that takes nothing, and ends what was taken
none_taken : (script : Plan) (past : List Entry) (e : Entry) (main : Bool)
    → ((s : ℕ) (w : Running) → w.is_main ≡ main → RunsBehind past e s w → (running past s ≡ Some w) × (ends_as main w.task e.kind ≡ false))
    → ((t : ℕ) → ends_as main t e.kind ≡ true → taken_as main past t ≡ true) → RunsSingly script past main → RunsSingly script (past ++ e ∷ []) main
none_taken script past e main goes_on was_taken c = record {
  taken_before_ended = ended_behind script past e main c was_taken;
  runs = λ s w h side. let on = goes_on s w side (runs_behind past e s w h) in runs_on script past e s w main (c.runs s w on.0 side) on.1;
  alone = λ a b v w h k p q. c.alone a b v w (goes_on a v p (runs_behind past e a v h)).0 (goes_on b w q (runs_behind past e b w k)).0 p q;
}

-- an entry that neither takes nor ends one of these tasks
pub none_moved : (main : Bool) (t : ℕ) (kind : Kind) → moves_runs main kind ≡ false → (takes_as main t kind ≡ false) × (ends_as main t kind ≡ false)
none_moved false t (Take task runner found) h = absurd cc
none_moved false t (End task left) h = absurd cc
none_moved true t (MainTake task queue found) h = absurd cc
none_moved true t (MainEnd task left) h = absurd cc
none_moved false t kind h = (refl, refl)
none_moved true t kind h = (refl, refl)

pub singly_kept : (script : Plan) (past : List Entry) (e : Entry) (main : Bool) → moves_runs main e.kind ≡ false → RunsSingly script past main
    → RunsSingly script (past ++ e ∷ []) main
singly_kept script past e main still c = none_taken script past e main (λ s w side behind. (ran s w side behind, (none_moved main w.task e.kind still).1))
    (λ t ends_it. absurd (both_ways _ (none_moved main t e.kind still).1 ends_it)) c
  where
    before : (m : Bool) (kind : Kind) → moves_runs m kind ≡ false → (o : Option Running) (w : Running) → w.is_main ≡ m → running_after o kind ≡ Some w
        → o ≡ Some w
    before false (Take task runner found) h o w side is = absurd cc
    before true (Take task runner found) h o w side is = absurd (true≢false (sym side ∙ ap (λ x. x.is_main) (sym (same_Some _ w is))))
    before false (MainTake task queue found) h o w side is = absurd (true≢false (ap (λ x. x.is_main) (same_Some _ w is) ∙ side))
    before true (MainTake task queue found) h o w side is = absurd cc
    before m (End task left) h o w side is = absurd (none-some w is)
    before m (MainEnd task left) h o w side is = absurd (none-some w is)
    before m kind h o w side is = is

    ran : (s : ℕ) (w : Running) → w.is_main ≡ main → RunsBehind past e s w → running past s ≡ Some w
    ran s w side (inl x) = x.0
    ran s w side (inr x) = ap (running past) x.0 ∙ before main e.kind still (running past e.seat) w side x.1

-- an entry by which a seat ends what it runs
pub singly_at_end : (script : Plan) (past : List Entry) (e : Entry) (v : Running) (main : Bool) → running past e.seat ≡ Some v → v.is_main ≡ main
    → running_after (running past e.seat) e.kind ≡ None → ((t : ℕ) → ends_as main t e.kind ≡ true → v.task ≡ t)
    → RunsSingly script past main → RunsSingly script (past ++ e ∷ []) main
singly_at_end script past e v main runs side after ends_it c = none_taken script past e main goes_on
    (λ t h. ap (taken_as main past) (sym (ends_it t h)) ∙ (c.runs e.seat v runs side).taken) c
  where
    goes_on : (s : ℕ) (w : Running) → w.is_main ≡ main → RunsBehind past e s w → (running past s ≡ Some w) × (ends_as main w.task e.kind ≡ false)
    goes_on s w also (inl x) = (
      x.0,
      false_from_ne_true (ends_as main w.task e.kind) (λ h. both_ways (eqb e.seat s) x.1
          (eq-eqb e.seat s (c.alone e.seat s v w runs x.0 side also (inl (ends_it w.task h))))),
    )
    goes_on s w also (inr x) = absurd (none-some w (sym after ∙ x.1))

-- where a sequence does not run, no seat of the script runs a task of it
nobody_runs : (script : Plan) (past : List Entry) (s seat : ℕ) (w : Running) → runs_sequence script past s ≡ false → seat ≤ script.workers
    → running past seat ≡ Some w → w.is_main ≡ false → sequence_of script w.home w.task ≡ s → ⊥
nobody_runs script past s seat w idle known runs pool same = both_ways (runs_sequence script past s) idle
    (seat_runs script past s seat (omega (arith, known)) (rw (runs, pool, same, eq-eqb s s refl) refl))

-- what has not been taken has not ended
pub singly_unended : (script : Plan) (past : List Entry) (main : Bool) (t : ℕ) → RunsSingly script past main → taken_as main past t ≡ false
    → ended_as main past t ≡ false
singly_unended script past main t c free =
    false_from_ne_true (ended_as main past t) (λ ended. both_ways (taken_as main past t) free (c.taken_before_ended t ended))

-- an entry by which a seat takes a task that was not taken, one of the pool of a sequence that does not run
pub singly_at_take : (script : Plan) (past : List Entry) (e : Entry) (v : Running) (main : Bool) → running_after (running past e.seat) e.kind ≡ Some v
    → takes_as main v.task e.kind ≡ true → ((t : ℕ) → ends_as main t e.kind ≡ false) → CanRun script past e.seat v main
    → taken_as main past v.task ≡ false → (main ≡ false → runs_sequence script past (sequence_of script v.home v.task) ≡ false)
    → RunsSingly script past main → RunsSingly script (past ++ e ∷ []) main
singly_at_take script past e v main after takes_it no_end can free idle c = record {
  taken_before_ended = ended_behind script past e main c (λ t ends_it. absurd (both_ways _ (no_end t) ends_it));
  runs = λ s w h side. runs s w side (runs_behind past e s w h);
  alone = λ a b x y h k p q. alone a b x y p q (runs_behind past e a x h) (runs_behind past e b y k);
}
  where
    new : RunsAs script (past ++ e ∷ []) e.seat v main
    new = record {
      can = can_stays script past e e.seat v main can;
      taken = rw (taken_as_push main past e v.task) (or_right (taken_as main past v.task) (takes_as main v.task e.kind) takes_it);
      not_ended = rw (ended_as_push main past e v.task) (or_from (ended_as main past v.task) (ends_as main v.task e.kind)
          (singly_unended script past main v.task c free) (no_end v.task));
    }

    runs : (s : ℕ) (w : Running) → w.is_main ≡ main → RunsBehind past e s w → RunsAs script (past ++ e ∷ []) s w main
    runs s w side (inl x) = runs_on script past e s w main (c.runs s w x.0 side) (no_end w.task)
    runs s w side (inr x) = rw (x.0, ← same_Some v w (sym after ∙ x.1)) new

    -- another seat runs another task, of another sequence
    apart : (b : Bool) → main ≡ b → (s : ℕ) (w : Running) → running past s ≡ Some w → w.is_main ≡ main → eqb e.seat s ≡ false
        → (w.task ≡ v.task) ⊎ (sequence_of script w.home w.task ≡ sequence_of script v.home v.task) → ⊥
    apart b is s w h side other (inl same) = both_ways _ free (ap (taken_as main past) (sym same) ∙ (c.runs s w h side).taken)
    apart false is s w h side other (inr same) = nobody_runs script past _ s w (idle is) (c.runs s w h side).can.known h (side ∙ is) same
    apart true is s w h side other (inr same) = both_ways (eqb e.seat s) other (eq-eqb e.seat s (can.driver is ∙ sym ((c.runs s w h side).can.driver is)))

    alone : (a b : ℕ) (x y : Running) → x.is_main ≡ main → y.is_main ≡ main → RunsBehind past e a x → RunsBehind past e b y
        → (x.task ≡ y.task) ⊎ (sequence_of script x.home x.task ≡ sequence_of script y.home y.task) → a ≡ b
    alone a b x y p q (inl h) (inl k) same = c.alone a b x y h.0 k.0 p q same
    alone a b x y p q (inl h) (inr k) same = absurd (apart main refl a x h.0 p h.1 (rw (same_Some v y (sym after ∙ k.1)) same))
    alone a b x y p q (inr h) (inl k) same = absurd (apart main refl b y k.0 q k.1
        (rw (same_Some v x (sym after ∙ h.1)) (⊎_elim (λ t. inl (sym t)) (λ s. inr (sym s)) same)))
    alone a b x y p q (inr h) (inr k) same = h.0 ∙ sym k.0

-- before the first entry
pub singly_at_start : (script : Plan) (main : Bool) → RunsSingly script [] main
unfolding is_ended is_main_ended running
singly_at_start script main = record {
  taken_before_ended = nothing_ended main;
  runs = λ seat w h. absurd (none-some w h);
  alone = λ a b v w h. absurd (none-some v h);
}
  where
    nothing_ended : (main : Bool) (t : ℕ) → ended_as main [] t ≡ true → taken_as main [] t ≡ true
    nothing_ended false t h = absurd (true≢false (sym h))
    nothing_ended true t h = absurd (true≢false (sym h))
