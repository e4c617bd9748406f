-- What is found to be against an entry of an open plan is so.
-- Cited by `cause_of`, `made`, `unmade`, `waits`, `barred`.
use Rattle.std.proofs.Common.{◌≡◌, ℕ, zero, suc, ◌≤◌, Bool, true, false, cond, List, length, Some, None, refl, sym, ap, subst, take, ◌∙◌, ⊎_elim, arith}
use Rattle.std.specs.Prelude.{◌==◌, IfSome, is_none, nat_le, slice_get}
use Rattle.std.proofs.lemmas.Bool.{and_parts, both_ways, eqb-true, lt-leb}
use Rattle.std.proofs.lemmas.Option.{same_Some}
use Rattle.task_base.specs.Entries.{entry_by}
use Rattle.task_base.specs.Plan.{Plan, opened}
use Rattle.task_base.specs.declared.entry.Entry.{Entry}
use Rattle.task_base.specs.declared.entry.Kind.{Kind}
use Rattle.task_base.specs.declared.entry.Kind.TheVariants as kinds
use Rattle.task_base.specs.declared.source.NotYet.{NotYet}
use Rattle.task_model.specs.Capacity.{priority_of}
use Rattle.task_model.specs.Jobs.{may_enter}
use Rattle.task_model.specs.Seats.{inside, runs_sequence}
use Rattle.task_model.specs.Sources.{best_of}
use Rattle.hist_model.specs.Allowed.{IsAllowed, may_come}
use Rattle.hist_model.specs.Legal.{IsLegal, first_illegal}
use Rattle.hist_model.specs.Open.{IsOpen}
use Rattle.env_check.specs.Verdicts.{prefix_verdict_at, prefix_verdict_of}
use Rattle.env_explain.proofs.Explained.{illegal_prefix, stops}
use Rattle.live_core.proofs.Every.{every_entry}
use Rattle.live_core.proofs.Exact.{lack_may_not_come, misuse_may_not_come, one_entry_of_a_call}
use Rattle.live_core.specs.Answers.{IsMadeBy, LacksFor}
use Rattle.live_core.specs.Calls.{call_of, fits, seat_of}
use Rattle.live_core.specs.StandsFor.{StandsFor}
use Rattle.live_core.specs.declared.call.Call.{Call}
use Rattle.live_core.specs.declared.call.Call.TheVariants as calls
use Rattle.live_core.specs.declared.live.LiveCore.{LiveCore}
use Rattle.live_core.specs.declared.unmade.Unmade.{Unmade}
use Rattle.live_core.specs.declared.unmade.Unmade.TheVariants as unmade
use Rattle.next_entry.proofs.Bars.{barred_there, job_is_free}
use Rattle.next_entry.specs.Bars.{bar_of, job_bar}
use Rattle.next_entry.specs.Causes.{IsBarred, is_drivers}
use Rattle.next_entry.specs.Ranks.{edge_of, is_same_source, rank_of}
use Rattle.next_entry.specs.declared.cause.Bar.{Bar}
use Rattle.next_entry.specs.declared.cause.Edge.{Edge}
use Rattle.next_entry.specs.declared.open_cause.OpenCause.{OpenCause}
use Rattle.next_entry.specs.declared.open_cause.OpenCause.TheVariants as causes
use Rattle.next_entry.specs.declared.open_cause.OpenTold.TheVariants as told
use Rattle.next_entry.specs.declared.open_cause.Part.{Part}
use Rattle.open_check.specs.Following.{IsOwnCall}
use Rattle.open_explain.proofs.Fitting.{fits_where_none_fails, told_part}
use Rattle.open_explain.specs.Parts.{part_of}
use Rattle.open_explain.specs.Told.{Bars, IsBarredByCall, IsInPlace, IsTold, NamesAllowed, RulesOut, RulesOutKind, named_by}

-- ---- the driver's entries

positive : (n : ℕ) → (0 ≡ n → ⊥) → 1 ≤ n
positive zero other = absurd (other refl)
positive (suc n) other = omega arith

-- an entry whose call is another seat's is one that the driver alone makes
pub of_driver : (seat : ℕ) (kind : Kind) → (IsOwnCall (entry_by seat kind) → ⊥) → (1 ≤ seat) × (is_drivers kind ≡ true)
of_driver seat (kinds.Post task runner delay ok) other = absurd (other refl)
of_driver seat (kinds.Main task queue delay ok) other = absurd (other refl)
of_driver seat (kinds.Take task runner found) other = absurd (other refl)
of_driver seat (kinds.End task left) other = absurd (other refl)
of_driver seat (kinds.Enter task scope) other = absurd (other refl)
of_driver seat (kinds.Leave task) other = absurd (other refl)
of_driver seat (kinds.JobStep job id item value next) other = absurd (other refl)
of_driver seat (kinds.JobTake job id item) other = absurd (other (own (seat == 0) refl))
  where
    own : (b : Bool) → (seat == 0) ≡ b → seat_of (cond b (calls.JobTake job) (calls.Take seat)) ≡ seat
    own true is = sym (eqb-true seat 0 is)
    own false is = refl
of_driver seat kind other = (positive seat other, refl)

-- and such an entry is the driver's call
drivers_call : (seat : ℕ) (kind : Kind) → is_drivers kind ≡ true → seat_of (call_of seat kind) ≡ 0
drivers_call seat (kinds.Post task runner delay ok) is = absurd cc
drivers_call seat (kinds.Main task queue delay ok) is = absurd cc
drivers_call seat (kinds.Take task runner found) is = absurd cc
drivers_call seat (kinds.End task left) is = absurd cc
drivers_call seat (kinds.Enter task scope) is = absurd cc
drivers_call seat (kinds.Leave task) is = absurd cc
drivers_call seat (kinds.JobStep job id item value next) is = absurd cc
drivers_call seat (kinds.JobTake job id item) is = absurd cc
drivers_call seat kind is = refl

-- ---- where a call makes another entry

-- a call that takes is its own seat's
takes_own : (call : Call) (taker seat : ℕ) → call ≡ calls.Take taker → seat_of call ≡ seat → call ≡ calls.Take seat
takes_own call taker seat is own = is ∙ ap (λ (n : ℕ). calls.Take n) (ap seat_of (sym is) ∙ own)

-- what is read of a script is read of its open plan
rank_opened : (script : Plan) (past : List Entry) (kind : Kind) → rank_of script past kind ≡ rank_of (opened script) past kind
unfolding priority_of inside
rank_opened script past (kinds.Take task runner found) = refl
rank_opened script past (kinds.JobTake job id item) = refl
rank_opened script past kind = refl

same_opened : (script : Plan) (next kind : Kind) → is_same_source script next kind ≡ is_same_source (opened script) next kind
same_opened script (kinds.Take t r f) (kinds.Take task runner found) = refl
same_opened script (kinds.Take t r f) kind = refl
same_opened script (kinds.JobTake j d i) (kinds.JobTake job id item) = refl
same_opened script (kinds.JobTake j d i) kind = refl
same_opened script next kind = refl

edge_opened : (script : Plan) (past : List Entry) (next kind : Kind) → edge_of script past next kind ≡ edge_of (opened script) past next kind
edge_opened script past next kind = rw (same_opened script next kind, rank_opened script past next, rank_opened script past kind) refl

pub takes_best : (script : Plan) (past : List Entry) (e : Entry) (next : Kind) (taker : ℕ) (edge : Edge) → e.seat ≤ script.workers → IsOwnCall e
    → IsInPlace (opened script) past e next → call_of e.seat e.kind ≡ calls.Take taker → edge ≡ edge_of script past next e.kind
    → Bars (causes.Best next edge) (opened script) past e
takes_best script past e next taker edge there own made is found = record {
  there = there;
  own = own;
  is = (takes_own (call_of e.seat e.kind) taker e.seat is own, made, found ∙ edge_opened script past next e.kind);
}

-- ---- where it makes none

bar_opened : (script : Plan) (past : List Entry) (seat : ℕ) (kind : Kind) → bar_of script past seat kind ≡ bar_of (opened script) past seat kind
unfolding priority_of inside runs_sequence
bar_opened script past seat (kinds.Take task runner found) = refl
bar_opened script past seat (kinds.JobTake job id item) = refl
bar_opened script past seat kind = refl

module _ (plan : Plan) (past : List Entry) (live : LiveCore) (stands : StandsFor plan past live) where
  of_worker : (seat : ℕ) (kind : Kind) (bar : Bar) → best_of plan past seat ≡ None → bar ≡ bar_of plan past seat kind → IsBarred plan past seat (Some kind) bar
  of_worker seat kind bar none is = barred_there plan past stands.pool.past_fits.in_order stands.pool.past_fits.declared seat none kind bar is

  of_join : (seat job id item : ℕ) (bar : Bar) → may_enter plan past job ≡ false → bar ≡ job_bar plan past job
      → IsBarred plan past seat (Some (kinds.JobTake job id item)) bar
  of_join seat job id item bar shut is = record {
    first = ap (λ (b : Bar). Some b) (sym is);
    no_room = λ limit. absurd (both_ways (may_enter plan past job) shut (job_is_free plan past job (sym is ∙ limit)).may);
  }

  nothing_taken : (seat : ℕ) (kind : Kind) (bar : Bar) → LacksFor plan past (call_of seat kind) unmade.Nothing → bar ≡ bar_of plan past seat kind
      → IsBarred plan past seat (Some kind) bar
  nothing_taken seat (kinds.Take task runner found) bar lacks is = of_worker seat (kinds.Take task runner found) bar lacks.1 is
  nothing_taken seat (kinds.JobTake job id item) bar lacks is = by_seat (seat == 0) lacks
    where
      by_seat : (b : Bool) → LacksFor plan past (cond b (calls.JobTake job) (calls.Take seat)) unmade.Nothing
          → IsBarred plan past seat (Some (kinds.JobTake job id item)) bar
      by_seat true lacks = of_join seat job id item bar lacks is
      by_seat false lacks = of_worker seat (kinds.JobTake job id item) bar lacks.1 is
  nothing_taken seat kind bar lacks is = absurd lacks

pub takes_nothing : (script : Plan) (past : List Entry) (live : LiveCore) (e : Entry) (bar : Bar) → StandsFor (opened script) past live
    → e.seat ≤ script.workers → IsOwnCall e → LacksFor (opened script) past (call_of e.seat e.kind) unmade.Nothing → bar ≡ bar_of script past e.seat e.kind
    → Bars (causes.NoSource bar) (opened script) past e
takes_nothing script past live e bar stands there own lacks is = record {
  there = there;
  own = own;
  is = (lacks, nothing_taken (opened script) past live stands e.seat e.kind bar lacks (is ∙ bar_opened script past e.seat e.kind));
}

-- the call may not be made, and this is the first thing that fails
pub may_not_be_made : (script : Plan) (past : List Entry) (e : Entry) (part : Part) → e.seat ≤ script.workers → IsOwnCall e
    → fits (opened script) past (call_of e.seat e.kind) ≡ false → IfSome (part_of (opened script) past e.seat e.kind) (λ p. part ≡ p)
    → Bars (causes.Unfit part) (opened script) past e
may_not_be_made script past e part there own unfit is = record {
  there = there;
  own = own;
  is = told_part (part_of (opened script) past e.seat e.kind) part
      (sym (fits_where_none_fails (opened script) past e.seat e.kind there) ∙ unfit) is;
}

-- of the calls by which the driver waits, one names no job
pub waits_for_idle : (plan : Plan) (past : List Entry) (call : Call) (not_yet : NotYet) → LacksFor plan past call (unmade.NotYet not_yet)
    → ((job : ℕ) → call ≡ calls.Cancelled job → ⊥) → ((job : ℕ) → call ≡ calls.Joined job → ⊥) → call ≡ calls.Idle
waits_for_idle plan past (calls.Cancelled job) not_yet lacks cancelled joined = absurd (cancelled job refl)
waits_for_idle plan past (calls.Joined job) not_yet lacks cancelled joined = absurd (joined job refl)
waits_for_idle plan past calls.Idle not_yet lacks cancelled joined = refl
waits_for_idle plan past call not_yet lacks cancelled joined = absurd lacks

-- what a call gives is a cause
pub by_call : (cause : OpenCause) (plan : Plan) (past : List Entry) (e : Entry) → IsBarredByCall cause plan past e → Bars cause plan past e
by_call causes.NoSeat plan past e bars = absurd bars.is
by_call causes.OnlyDriver plan past e bars = absurd bars.is
by_call cause plan past e bars = bars

-- ---- what is named, and what is ruled out

-- the entry that a cause names may come there
pub named_there : (cause : OpenCause) (plan : Plan) (past : List Entry) (e : Entry) (next : Kind) → Bars cause plan past e → named_by cause ≡ Some next
    → IsAllowed plan past (entry_by e.seat next)
named_there (causes.Makes next) plan past e other bars named = subst (λ k. IsAllowed plan past (entry_by e.seat k)) (same_Some next other named) bars.is.1
named_there (causes.Best next edge) plan past e other bars named = subst (λ k. IsAllowed plan past (entry_by e.seat k)) (same_Some next other named) bars.is.1.1
named_there cause plan past e other bars named = absurd cc

may_come_there : (plan : Plan) (past : List Entry) (seat : ℕ) (kind : Kind) → IsAllowed plan past (entry_by seat kind) → may_come plan past seat kind ≡ true
may_come_there plan past seat kind allowed = (and_parts (nat_le seat plan.workers) (may_come plan past seat kind) allowed).1

module _ (plan : Plan) (past : List Entry) (live_opened : IsOpen plan) (legal : IsLegal plan past) (e : Entry) (kind : Kind) where
  -- by what the call lacks
  by_lack : (why : Unmade) → IsOwnCall e → LacksFor plan past (call_of e.seat e.kind) why → IsMadeBy plan past (call_of e.seat e.kind) kind
      → ¬ IsAllowed plan past (entry_by e.seat kind)
  by_lack why own lacks made allowed = both_ways (may_come plan past e.seat kind)
      (ap (λ seat. may_come plan past seat kind) (sym own) ∙ lack_may_not_come plan past (call_of e.seat e.kind) why kind live_opened legal lacks made)
      (may_come_there plan past e.seat kind allowed)

  by_misuse : e.seat ≤ plan.workers → IsOwnCall e → (part : Part) → part_of plan past e.seat e.kind ≡ Some part
      → IsMadeBy plan past (call_of e.seat e.kind) kind → ¬ IsAllowed plan past (entry_by e.seat kind)
  by_misuse there own part fails made allowed = both_ways (may_come plan past e.seat kind)
      (ap (λ seat. may_come plan past seat kind) (sym own) ∙ misuse_may_not_come plan past (call_of e.seat e.kind) kind live_opened legal
      (fits_where_none_fails plan past e.seat e.kind there ∙ ap is_none fails) made)
      (may_come_there plan past e.seat kind allowed)

  by_other : (next : Kind) → IsOwnCall e → IsInPlace plan past e next → IsMadeBy plan past (call_of e.seat e.kind) kind → (kind ≡ next → ⊥)
      → ¬ IsAllowed plan past (entry_by e.seat kind)
  by_other next own there made other allowed = other (one_entry_of_a_call plan past (call_of e.seat e.kind) kind next live_opened legal made there.0
      (ap (λ seat. may_come plan past seat kind) own ∙ may_come_there plan past e.seat kind allowed)
      (ap (λ seat. may_come plan past seat next) own ∙ may_come_there plan past e.seat next there.1))

  -- no entry that the cause rules out may come there
  pub ruled_out_there : (cause : OpenCause) → Bars cause plan past e → RulesOutKind cause plan past e kind → ¬ IsAllowed plan past (entry_by e.seat kind)
  ruled_out_there causes.NoSeat bars rules allowed =
      both_ways (nat_le e.seat plan.workers) (lt-leb e.seat plan.workers bars)
      (and_parts (nat_le e.seat plan.workers) (may_come plan past e.seat kind) allowed).0
  ruled_out_there causes.OnlyDriver bars rules allowed =
      let own = (every_entry plan past e.seat kind live_opened (may_come_there plan past e.seat kind allowed)).0 in
      omega (arith, bars.0, sym (drivers_call e.seat kind rules) ∙ own)
  ruled_out_there (causes.Makes next) bars rules allowed = by_other next bars.own bars.is rules.0 rules.1 allowed
  ruled_out_there (causes.Best next edge) bars rules allowed = by_other next bars.own bars.is.1 rules.0 rules.1 allowed
  ruled_out_there (causes.NoSource bar) bars rules allowed = by_lack unmade.Nothing bars.own bars.is.0 rules allowed
  ruled_out_there causes.Over bars rules allowed = by_lack unmade.Over bars.own bars.is rules allowed
  ruled_out_there (causes.NotIdle running ready) bars rules allowed =
      by_lack (unmade.NotYet (record { running = running; ready = ready })) bars.own bars.is.1 rules allowed
  ruled_out_there (causes.Inside job seats) bars rules allowed = ⊎_elim
      (λ w. by_lack (unmade.NotYet (record { running = length (inside plan past job); ready = false })) bars.own (rw w.0 (w.1, refl, refl)) rules allowed)
      (λ w. by_lack (unmade.NotYet (record { running = length (inside plan past job); ready = may_enter plan past job })) bars.own
      (rw w.0 (w.1, refl, refl)) rules allowed)
      bars.is.0
  ruled_out_there (causes.Blocked count) bars rules allowed = by_lack (unmade.Blocked (record { count = count })) bars.own bars.is rules allowed
  ruled_out_there (causes.Unfit part) bars rules allowed = by_misuse bars.there bars.own part bars.is rules allowed

-- ---- a log that stops

-- the entries before the first one that may not come are legal
legal_before : (plan : Plan) (log : List Entry) (place : ℕ) → first_illegal plan log ≡ Some place → IsLegal plan (take place log)
unfolding prefix_verdict_of
legal_before plan log place first = (stops plan log place (illegal_prefix plan log place (ap prefix_verdict_at first)).0).legal

-- what is told of the entry there holds of it
pub told_there : (plan : Plan) (log : List Entry) (place : ℕ) (cause : OpenCause) (e : Entry) → slice_get log place ≡ Some e
    → Bars cause plan (take place log) e → IsTold plan log (told.Barred place cause)
told_there plan log place cause e there bars = (e, there, bars)

-- the entry that it names may come there
pub names_there : (plan : Plan) (log : List Entry) (place : ℕ) (cause : OpenCause) (e : Entry) → slice_get log place ≡ Some e
    → Bars cause plan (take place log) e → NamesAllowed plan log (told.Barred place cause)
names_there plan log place cause e there bars x next at named =
    named_there cause plan (take place log) x next (subst (Bars cause plan (take place log)) (same_Some e x (sym there ∙ at)) bars) named

-- and none that it rules out
pub rules_out_there : (plan : Plan) (log : List Entry) (place : ℕ) (cause : OpenCause) (e : Entry) → IsOpen plan → first_illegal plan log ≡ Some place
    → slice_get log place ≡ Some e → Bars cause plan (take place log) e → RulesOut plan log (told.Barred place cause)
rules_out_there plan log place cause e is_open first there bars x kind at rules =
    ruled_out_there plan (take place log) is_open (legal_before plan log place first) x kind cause
    (subst (Bars cause plan (take place log)) (same_Some e x (sym there ∙ at)) bars) rules
