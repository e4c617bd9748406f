-- What is kept while entries are made, and what one more does to it.
-- Cited by `make_all`, `simulate`.
use Rattle.std.proofs.Common.{◌≡◌, ◌≤◌, ◌<◌, ℕ, zero, suc, ◌+◌, ◌-◌, true, leb, List, [], ◌∷◌, ◌++◌, length, refl, sym, ap, subst, ◌∙◌, Option, Some, None, arith}
use Rattle.std.specs.Prelude.{◌&&◌}
use Rattle.std.specs.List.{range_with_len}
use Rattle.std.specs.Option.{option_map_or}
use Rattle.std.proofs.lemmas.Bool.{and_from, and_parts, leb-true}
use Rattle.list_laws.proofs.Ranges.{AllByRecursion-range}
use Rattle.std.proofs.lemmas.List.{length-append}
use Rattle.std.proofs.lemmas.List.FromFn.{get_or-range_with_len, length-range_with_len}
use Rattle.std.proofs.lemmas.Option.{none-some}
use Rattle.task_base.specs.Plan.{Plan}
use Rattle.task_base.specs.declared.limits.TheConstants.{LAST_MOMENT}
use Rattle.task_base.specs.declared.entry.Entry.{Entry}
use Rattle.task_base.specs.declared.entry.Kind.{Kind}
use Rattle.task_base.specs.declared.entry.Kind.TheVariants as kinds
use Rattle.script_model.specs.Bound.{events_bound_of}
use Rattle.script_model.specs.Laws.Sound.{IsSound}
use Rattle.task_model.specs.Time.{now_after, now_of}
use Rattle.hist_model.specs.Allowed.{may_come, IsAllowed}
use Rattle.hist_model.specs.Legal.{IsLegal}
use Rattle.hist_model.specs.Moments.{moment_behind}
use Rattle.hist_model.specs.Open.{IsClosed}
use Rattle.hist_model.specs.Laws.Progress.{IsAtEnd}
use Rattle.hist_model.specs.Laws.Ways.{but_moment, is_due}
use Rattle.hist_model.proofs.Laws.Due.{allowed_exactly}
use Rattle.hist_model.proofs.Laws.Entries.Bound.{entries_within}
use Rattle.hist_model.proofs.Laws.Legal.{legal_next}
use Rattle.env_core.specs.Views.{EnvView, Enters}
use Rattle.env_step.specs.Hands.{AreInHand}
use Rattle.env_step.specs.declared.hand.Hand.{Hand}
use Rattle.simulation.specs.Clock.{Tells}
use Rattle.simulation.specs.Draw.{Drawing, draw_of_seed, everybody, left_of}
use Rattle.simulation.specs.Schedule.{made_by}
use Rattle.simulation.specs.Simulated.{Drawn, drawn_in, next_drawn, reading_at, simulated, simulated_from}
use Rattle.simulation.specs.Turns.{AreKnown, NobodyMay}
use Rattle.simulation.specs.declared.clock.TurnClock.{TurnClock}
use Rattle.simulation.specs.declared.lots.Lots.{Lots}
use Rattle.simulation.proofs.Draws.{one_of}
use Rattle.simulation.proofs.Turns.{allowed_is_made}

-- so many entries are made, of the log that the draws give
pub record Making (script : Plan) (step : Option ℕ) (begun : Drawing) (env : EnvView) (held : List Hand) (d : Drawing) (clock : TurnClock) (made : ℕ) : Type 0 where
  pub script_is : env.script ≡ script
  pub hands : AreInHand env held
  pub tells : Tells step script env.history clock
  pub count : length env.history ≡ made
  pub goes_on : simulated_from (events_bound_of script) script step [] begun ≡ simulated_from (events_bound_of script - made) script step env.history d

-- ---- everybody

pub everybody_known : (script : Plan) (d : Drawing) → AreKnown script (everybody script.workers d)
everybody_known script d = AllByRecursion-range (λ seat. seat ≤ script.workers) 1 script.workers (λ seat from to. omega (arith, to))

pub everybody_left : (workers : ℕ) (d : Drawing) → left_of (everybody workers d) ≡ workers + 1
everybody_left workers d = omega (arith, length-range_with_len 1 workers)

-- ---- one more

-- what draws on, of which one draw has brought this
pub goes_on_by : (n : ℕ) (script : Plan) (step : Option ℕ) (past : List Entry) (d : Drawing) (next : Drawn) → next ≡ next_drawn script step past d
    → simulated_from (suc n) script step past d ≡ option_map_or (λ e. simulated_from n script step (past ++ e ∷ []) next.drawing) next.entry past
goes_on_by n script step past d next is =
    ap (λ x. option_map_or (λ e. simulated_from n script step (past ++ e ∷ []) x.drawing) x.entry past) (sym is)

-- what the draws of one more entry bring
pub brought : (script : Plan) (step : Option ℕ) (env : EnvView) (d refilled : Drawing) (reading : ℕ) (next : Drawn) → env.script ≡ script
    → refilled ≡ everybody script.workers d → reading ≡ reading_at step script env.history
    → next ≡ drawn_in (left_of refilled) env.script env.history reading refilled → next ≡ next_drawn script step env.history d
brought script step env d refilled reading next script_is refill reads is =
    is ∙ rw (script_is, refill, reads, everybody_left script.workers d) refl

-- with one more entry
pub one_more : (script : Plan) (step : Option ℕ) (begun d : Drawing) (env after : EnvView) (held held_after : List Hand) (clock clock_after : TurnClock) (made : ℕ)
    (next : Drawn) (e : Entry) → Making script step begun env held d clock made → made < events_bound_of script → next ≡ next_drawn script step env.history d
    → next.entry ≡ Some e → Enters env after e.seat e.kind → AreInHand after held_after → Tells step script (env.history ++ e ∷ []) clock_after
    → Making script step begun after held_after next.drawing clock_after (made + 1)
one_more script step begun d env after held held_after clock clock_after made next e at less next_is entry_is enters hands tells =
    let history_is : after.history ≡ env.history ++ e ∷ [] = ap (λ v. v.history) enters.entered in
    let bound = events_bound_of script in
    let fewer : bound - made ≡ suc (bound - (made + 1)) = omega (arith, less) in
    record {
      script_is = ap (λ v. v.script) enters.entered ∙ at.script_is;
      hands = hands;
      tells = subst (λ past. Tells step script past clock_after) (sym history_is) tells;
      count = omega (arith, ap length history_is, length-append env.history (e ∷ []), at.count);
      goes_on = at.goes_on ∙ ap (λ n. simulated_from n script step env.history d) fewer
          ∙ goes_on_by (bound - (made + 1)) script step env.history d next next_is
          ∙ ap (λ m. option_map_or (λ x. simulated_from (bound - (made + 1)) script step (env.history ++ x ∷ []) next.drawing) m env.history) entry_is
          ∙ ap (λ past. simulated_from (bound - (made + 1)) script step past next.drawing) (sym history_is);
    }

-- where no more entry is made, all are
pub all_made : (script : Plan) (step : Option ℕ) (begun d : Drawing) (env : EnvView) (held : List Hand) (clock : TurnClock) (made : ℕ) (next : Drawn)
    → Making script step begun env held d clock made → made < events_bound_of script → next ≡ next_drawn script step env.history d → next.entry ≡ None
    → env.history ≡ simulated_from (events_bound_of script) script step [] begun
all_made script step begun d env held clock made next at less next_is entry_is =
    let bound = events_bound_of script in
    let fewer : bound - made ≡ suc (bound - (made + 1)) = omega (arith, less) in
    sym (at.goes_on ∙ ap (λ n. simulated_from n script step env.history d) fewer
    ∙ goes_on_by (bound - (made + 1)) script step env.history d next next_is
    ∙ ap (λ m. option_map_or (λ x. simulated_from (bound - (made + 1)) script step (env.history ++ x ∷ []) next.drawing) m env.history) entry_is)

-- a tick that is allowed is at the moment before or a later one, and at most at the last one of all
tick_within : (script : Plan) (past : List Entry) (e : Entry) (now : ℕ) → IsClosed script → IsLegal script past → IsAllowed script past e → e.kind ≡ kinds.Tick now
    → (now_of past ≤ now) × (now ≤ LAST_MOMENT)
tick_within script past e now closed legal allowed is =
    let parts = and_parts (leb e.seat script.workers) (may_come script past e.seat e.kind) allowed in
    let due = ((allowed_exactly script past e.seat e.kind closed legal (leb-true e.seat script.workers parts.0)).0 parts.1).1 in
    let within = and_parts (leb (now_of past) now) (leb now LAST_MOMENT) (sym (ap (is_due script past) is) ∙ due) in
    (leb-true (now_of past) now within.0, leb-true now LAST_MOMENT within.1)

-- no entry goes back in time
pub never_back : (script : Plan) (past : List Entry) (e : Entry) → IsClosed script → IsLegal script past → IsAllowed script past e
    → now_of past ≤ now_after (now_of past) e.kind
never_back script past e closed legal allowed = by_kind e.kind refl
  where
    by_kind : (kind : Kind) → e.kind ≡ kind → now_of past ≤ now_after (now_of past) kind
    by_kind (kinds.Tick now) is = (tick_within script past e now closed legal allowed is).0
    by_kind kind is = omega arith

-- ---- nobody

-- a tick may also be at the moment that a reading becomes
other_tick : (script : Plan) (past : List Entry) (reading : ℕ) (e : Entry) (now : ℕ) → IsClosed script → IsLegal script past → IsAllowed script past e
    → e.kind ≡ kinds.Tick now → IsAllowed script past (record { seat = e.seat; kind = kinds.Tick (moment_behind (now_of past) reading) })
other_tick script past reading e now closed legal allowed is =
    let parts = and_parts (leb e.seat script.workers) (may_come script past e.seat e.kind) allowed in
    let known = leb-true e.seat script.workers parts.0 in
    let way = ((allowed_exactly script past e.seat e.kind closed legal known).0 parts.1).0 in
    let within = tick_within script past e now closed legal allowed is in
    let moment = moment_behind (now_of past) reading in
    let due : is_due script past (kinds.Tick moment) ≡ true = moment_due (now_of past) reading (omega (arith, within.0, within.1)) in
    and_from (leb e.seat script.workers) (may_come script past e.seat (kinds.Tick moment)) parts.0 ((allowed_exactly script past e.seat (kinds.Tick moment) closed legal known).1 (way ∙ ap (λ k. Some (but_moment k)) is, due))
  where
    moment_due : (before reading : ℕ) → before ≤ LAST_MOMENT
        → (leb before (moment_behind before reading) && leb (moment_behind before reading) LAST_MOMENT) ≡ true
    moment_due before reading within = grind arith

-- an entry that is allowed is made with any reading, but for its moment
some_is_made : (script : Plan) (past : List Entry) (reading : ℕ) (e : Entry) → IsClosed script → IsLegal script past → IsAllowed script past e
    → made_by script past reading e.seat ≡ None → ⊥
some_is_made script past reading e closed legal allowed none = by_kind e.kind refl
  where
    by_kind : (kind : Kind) → e.kind ≡ kind → ⊥
    by_kind (kinds.Tick now) is = none-some _ (sym none ∙ allowed_is_made script past reading e.seat (kinds.Tick (moment_behind (now_of past) reading)) closed legal
        (other_tick script past reading e now closed legal allowed is) (λ other same. cc))
    by_kind kind is = none-some _ (sym none ∙ allowed_is_made script past reading e.seat kind closed legal
        (subst (λ k. IsAllowed script past (record { seat = e.seat; kind = k })) is allowed) (λ other same. absurd cc))

pub nobody_at_end : (view : EnvView) (reading : ℕ) (d : Drawing) → IsClosed view.script → IsLegal view.script view.history
    → NobodyMay view reading (everybody view.script.workers d) → IsAtEnd view.script view.history
nobody_at_end view reading d closed legal nobody e allowed = some_is_made view.script view.history reading e closed legal allowed (by_seat e.seat refl)
  where
    P : ℕ → Type 0
    P seat = made_by view.script view.history reading seat ≡ None

    known : e.seat ≤ view.script.workers
    known = leb-true e.seat view.script.workers (and_parts (leb e.seat view.script.workers) (may_come view.script view.history e.seat e.kind) allowed).0

    by_seat : (seat : ℕ) → e.seat ≡ seat → made_by view.script view.history reading e.seat ≡ None
    by_seat zero is = rw is (nobody.driver refl)
    by_seat (suc k) is =
        let within : k < view.script.workers = omega (arith, known, is) in
        rw is (subst P (get_or-range_with_len 1 view.script.workers k 0 within ∙ omega arith)
        (one_of P (range_with_len 1 view.script.workers) k nobody.workers (rw (length-range_with_len 1 view.script.workers) within)))

-- none is allowed once the bound is reached
pub full_at_end : (script : Plan) (past : List Entry) → IsSound script → IsLegal script past → length past ≡ events_bound_of script → IsAtEnd script past
full_at_end script past sound legal full e allowed =
    omega (arith, length-append past (e ∷ []), entries_within script (past ++ e ∷ []) sound (legal_next script past e legal allowed), full)

-- ---- from the first entry on

pub simulated_is : (script : Plan) (seed : ℕ) (lots : Lots) (step : Option ℕ)
    → simulated script seed lots step ≡ simulated_from (events_bound_of script) script step [] (draw_of_seed seed lots)
unfolding simulated
simulated_is script seed lots step = refl
