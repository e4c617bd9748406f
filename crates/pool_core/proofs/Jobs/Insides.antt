-- Who is inside a job, as the past grows.
-- Cited by `Jobs/JobStands`, `Jobs/JobSteps`, `Pasts`.
use Rattle.list_laws.proofs.Values.{eqb-same, some-injective}
use Rattle.list_laws.specs.Lists.{holds_of}
use Rattle.pool_core.specs.Holdings.{AreInside, HoldsItem}
use Rattle.pool_laws.proofs.Seats.Running.{holding_here, holding_other, holding_same, running_here, running_other, running_same}
use Rattle.pool_laws.specs.Seats.{moves_holding, moves_running}
use Rattle.std.proofs.Common.{Bool, List, None, Option, Some, [], ap, arith, eqb, false, length, refl, subst, sym, true, ℕ, ◌++◌, ◌+◌, ◌<◌, ◌∙◌, ◌∷◌, ◌≡◌, ◌≤◌}
use Rattle.std.proofs.lemmas.Bool.{eqb-true, false≢true, ne_eqb, true≢false}
use Rattle.std.proofs.lemmas.Option.{none-some}
use Rattle.std.specs.Prelude.{not}
use Rattle.job_source.specs.declared.source.TheConstants.{MOST_INSIDE}
use Rattle.list_laws.proofs.Ranges.{range_all_at}
use Rattle.task_base.specs.declared.entry.Kind.TheVariants as kinds
use Rattle.task_base.specs.Plan.{Plan}
use Rattle.task_base.specs.declared.entry.Entry.{Entry}
use Rattle.task_base.specs.Entries.{next}
use Rattle.task_model.proofs.Growth.{job_post_of_push}
use Rattle.task_model.specs.Jobs.{JobPosted, holds_id, is_free_id, is_job_accepted, job_post_after, job_post_of}
use Rattle.task_model.specs.Seats.{Holding, holding, holding_after, running, running_after}

pub inside_at_start : (script : Plan) → AreInside script []
unfolding holding
inside_at_start script = record {
  holds = λ seat h is. absurd (none-some h is);
  own_number = λ a b h k is. absurd (none-some h is);
  one_thing = λ seat h worker is. absurd (none-some h is);
}

-- a job that was accepted stays so
pub accepted_grows : (past : List Entry) (e : Entry) (j : ℕ) → is_job_accepted past j ≡ true → is_job_accepted (past ++ e ∷ []) j ≡ true
accepted_grows past e j is = ap (holds_of (λ p. p.ok)) (job_post_of_push past e j) ∙ by_job_post (job_post_of past j) is
  where
    by_job_post : (o : Option JobPosted) → holds_of (λ p. p.ok) o ≡ true → holds_of (λ p. p.ok) (job_post_after j past o e.kind) ≡ true
    by_job_post None none = absurd (false≢true none)
    by_job_post (Some p) ok = ok

-- what was known of who holds an item
grows : (script : Plan) (past : List Entry) (e : Entry) (seat : ℕ) (h : Holding) → HoldsItem script past seat h → HoldsItem script (past ++ e ∷ []) seat h
grows script past e seat h known =
    record { known = known.known; declared = known.declared; fits = known.fits; accepted = accepted_grows past e h.job known.accepted }

-- no seat enters or leaves a job, or goes on to another item, and workers inside run no task
same_holdings : (script : Plan) (past : List Entry) (e : Entry) → moves_holding e.kind ≡ false
    → ((seat : ℕ) (h : Holding) → 1 ≤ seat → holding past seat ≡ Some h → running (past ++ e ∷ []) seat ≡ None) → AreInside script past
    → AreInside script (past ++ e ∷ [])
same_holdings script past e still idle inside = record {
  holds = λ seat h is. grows script past e seat h (inside.holds seat h (before seat h is));
  own_number = λ a b h k is also. inside.own_number a b h k (before a h is) (before b k also);
  one_thing = λ seat h worker is. idle seat h worker (before seat h is);
}
  where
    before : (seat : ℕ) (h : Holding) → holding (past ++ e ∷ []) seat ≡ Some h → holding past seat ≡ Some h
    before seat h is = sym (holding_same past e seat still) ∙ is

-- where no seat takes or ends a task either
pub inside_kept : (script : Plan) (past : List Entry) (e : Entry) → moves_holding e.kind ≡ false → moves_running e.kind ≡ false → AreInside script past
    → AreInside script (past ++ e ∷ [])
inside_kept script past e still runs inside = same_holdings script past e still
    (λ seat h worker is. running_same past e seat runs ∙ inside.one_thing seat h worker is) inside

-- where the entry's seat, which holds nothing, takes a task, or a seat ends one
pub inside_at_task : (script : Plan) (past : List Entry) (e : Entry) → moves_holding e.kind ≡ false
    → ((h : Holding) → holding past e.seat ≡ Some h → running_after (running past e.seat) e.kind ≡ None) → AreInside script past
    → AreInside script (past ++ e ∷ [])
inside_at_task script past e still ends inside = same_holdings script past e still (λ seat h worker is. by_seat seat h worker is (eqb e.seat seat) refl) inside
  where
    by_seat : (seat : ℕ) (h : Holding) → 1 ≤ seat → holding past seat ≡ Some h → (b : Bool) → eqb e.seat seat ≡ b → running (past ++ e ∷ []) seat ≡ None
    by_seat seat h worker is true here = running_here past e seat here ∙ ends h (ap (holding past) (eqb-true e.seat seat here) ∙ is)
    by_seat seat h worker is false other = running_other past e seat other ∙ inside.one_thing seat h worker is

-- where the driver takes or ends a task
pub inside_at_driver : (script : Plan) (past : List Entry) (e : Entry) → moves_holding e.kind ≡ false → e.seat ≡ 0 → AreInside script past
    → AreInside script (past ++ e ∷ [])
inside_at_driver script past e still driver inside = same_holdings script past e still
    (λ seat h worker is. running_other past e seat (ne_eqb e.seat seat (λ same. omega (arith, worker, driver, same)))
    ∙ inside.one_thing seat h worker is) inside

-- the entry's seat holds this item now, or none; it is known, its number is its own, and as a worker it runs no task
pub inside_moved : (script : Plan) (past : List Entry) (e : Entry) (o : Option Holding) → moves_running e.kind ≡ false
    → holding_after (holding past e.seat) e.kind ≡ o
    → ((h : Holding) → o ≡ Some h → HoldsItem script past e.seat h)
    → ((h k : Holding) (seat : ℕ) → o ≡ Some h → holding past seat ≡ Some k → h.job ≡ k.job → h.id ≡ k.id → e.seat ≡ seat)
    → (1 ≤ e.seat → running past e.seat ≡ None) → AreInside script past → AreInside script (past ++ e ∷ [])
inside_moved script past e o runs now known alone idle inside = record {
  holds = λ seat h is. holds seat h (eqb e.seat seat) refl is;
  own_number = λ a b h k is also same_job same_id. apart a b h k (eqb e.seat a) (eqb e.seat b) refl refl is also same_job same_id;
  one_thing = λ seat h worker is. running_same past e seat runs ∙ one seat h worker (eqb e.seat seat) refl is;
}
  where
    here : (seat : ℕ) (h : Holding) → eqb e.seat seat ≡ true → holding (past ++ e ∷ []) seat ≡ Some h → o ≡ Some h
    here seat h same is = sym now ∙ sym (holding_here past e seat same) ∙ is

    elsewhere : (seat : ℕ) (h : Holding) → eqb e.seat seat ≡ false → holding (past ++ e ∷ []) seat ≡ Some h → holding past seat ≡ Some h
    elsewhere seat h other is = sym (holding_other past e seat other) ∙ is

    holds : (seat : ℕ) (h : Holding) (b : Bool) → eqb e.seat seat ≡ b → holding (past ++ e ∷ []) seat ≡ Some h → HoldsItem script (past ++ e ∷ []) seat h
    holds seat h true same is =
        grows script past e seat h (subst (λ n. HoldsItem script past n h) (eqb-true e.seat seat same) (known h (here seat h same is)))
    holds seat h false other is = grows script past e seat h (inside.holds seat h (elsewhere seat h other is))

    apart : (a b : ℕ) (h k : Holding) (at at_other : Bool) → eqb e.seat a ≡ at → eqb e.seat b ≡ at_other → holding (past ++ e ∷ []) a ≡ Some h
        → holding (past ++ e ∷ []) b ≡ Some k → h.job ≡ k.job → h.id ≡ k.id → a ≡ b
    apart a b h k true true x y is also same_job same_id = sym (eqb-true e.seat a x) ∙ eqb-true e.seat b y
    apart a b h k true false x y is also same_job same_id =
        sym (eqb-true e.seat a x) ∙ alone h k b (here a h x is) (elsewhere b k y also) same_job same_id
    apart a b h k false true x y is also same_job same_id =
        sym (alone k h a (here b k y also) (elsewhere a h x is) (sym same_job) (sym same_id)) ∙ eqb-true e.seat b y
    apart a b h k false false x y is also same_job same_id =
        inside.own_number a b h k (elsewhere a h x is) (elsewhere b k y also) same_job same_id

    one : (seat : ℕ) (h : Holding) → 1 ≤ seat → (b : Bool) → eqb e.seat seat ≡ b → holding (past ++ e ∷ []) seat ≡ Some h → running past seat ≡ None
    one seat h worker true same is = rw (← eqb-true e.seat seat same) (idle (omega (arith, worker, eqb-true e.seat seat same)))
    one seat h worker false other is = inside.one_thing seat h worker (elsewhere seat h other is)

-- a seat enters a job that was accepted, under a number that nobody inside has, and as a worker it runs no task
pub inside_at_take : (script : Plan) (past : List Entry) (seat job id item : ℕ) → seat ≤ script.workers → job < length script.jobs → id < MOST_INSIDE
    → is_job_accepted past job ≡ true → is_free_id script past job id ≡ true → (1 ≤ seat → running past seat ≡ None) → AreInside script past
    → AreInside script (next past seat (kinds.JobTake job id item))
inside_at_take script past seat job id item known declared fits accepted free idle inside =
    inside_moved script past (record { seat = seat; kind = kinds.JobTake job id item }) (Some new) refl refl
    (λ h is. subst (HoldsItem script past seat) (some-injective is) (record { known = known; declared = declared; fits = fits; accepted = accepted }))
    (λ h k other is held same_job same_id. absurd (taken other k held (ap (λ x. x.job) (some-injective is) ∙ same_job)
    (ap (λ x. x.id) (some-injective is) ∙ same_id)))
    idle inside
  where
    new : Holding
    new = record { job = job; id = id; item = item }

    taken : (other : ℕ) (k : Holding) → holding past other ≡ Some k → job ≡ k.job → id ≡ k.id → ⊥
    taken other k held same_job same_id = true≢false (sym (range_all_at (λ x. not (holds_id job id (holding past x))) 0 (script.workers + 1) other free
        (omega arith)
        (omega (arith, (inside.holds other k held).known))) ∙ ap not has)
      where
        has : holds_id job id (holding past other) ≡ true
        has = rw (held, same_job, same_id, eqb-same k.job, eqb-same k.id) refl

-- a seat inside goes on to another item, or leaves
pub inside_at_step : (script : Plan) (past : List Entry) (seat value : ℕ) (h : Holding) (goes_on : Option ℕ) → holding past seat ≡ Some h
    → AreInside script past
    → AreInside script (next past seat (kinds.JobStep h.job h.id h.item value goes_on))
inside_at_step script past seat value h None held inside =
    inside_moved script past (record { seat = seat; kind = kinds.JobStep h.job h.id h.item value None }) None refl refl (λ k is. absurd (none-some k is))
    (λ k l other is. absurd (none-some k is)) (λ worker. inside.one_thing seat h worker held) inside
inside_at_step script past seat value h (Some item) held inside =
    inside_moved script past (record { seat = seat; kind = kinds.JobStep h.job h.id h.item value (Some item) }) (Some new) refl refl
    (λ k is. subst (HoldsItem script past seat) (some-injective is) (let was = inside.holds seat h held in
    record { known = was.known; declared = was.declared; fits = was.fits; accepted = was.accepted }))
    (λ k l other is also same_job same_id. inside.own_number seat other h l held also
    (ap (λ x. x.job) (some-injective is) ∙ same_job) (ap (λ x. x.id) (some-injective is) ∙ same_id))
    (λ worker. inside.one_thing seat h worker held) inside
  where
    new : Holding
    new = record { job = h.job; id = h.id; item = item }
