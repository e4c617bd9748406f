-- Where the clock goes by a step, the ticks of the log that a seed gives are the moments of its readings.
-- Cited by `simulate`.
use Rattle.std.proofs.Common.{◌≡◌, ℕ, zero, suc, ◌+◌, ◌*◌, ◌-◌, ◌^◌, Bool, true, false, cond, List, [], ◌∷◌, ◌++◌, length, refl, sym, ap, ◌∙◌, append-nil, Option, Some, None, arith}
use Rattle.std.specs.Prelude.{fold, max, min, option_and_then}
use Rattle.std.specs.List.{cons_option}
use Rattle.std.specs.Option.{option_map_or}
use Rattle.std.proofs.lemmas.List.{length-append}
use Rattle.std.proofs.lemmas.List.Elements.{filter_map-append}
use Rattle.std.proofs.lemmas.List.FromFn.{map-range_with_len_more}
use Rattle.std.proofs.lemmas.Option.{same_Some}
use Rattle.task_base.specs.Plan.{Plan}
use Rattle.task_base.specs.declared.limits.TheConstants.{LAST_MOMENT}
use Rattle.task_base.specs.declared.entry.Entry.{Entry}
use Rattle.task_base.specs.declared.entry.Kind.{Kind}
use Rattle.task_base.specs.declared.entry.Kind.TheVariants as kinds
use Rattle.script_model.specs.Bound.{events_bound_of}
use Rattle.task_model.specs.Orders.{moment_of}
use Rattle.task_model.specs.Time.{now_after, now_of}
use Rattle.hist_model.specs.Allowed.{is_allowed}
use Rattle.hist_model.specs.Moments.{last_of, moment_behind, moments_of, ticks_of}
use Rattle.hist_model.specs.Laws.Ways.{way_on}
use Rattle.hist_model.proofs.Laws.Moments.{one_more}
use Rattle.simulation.specs.Draw.{Drawing, draw_of_seed, drawn_seat, everybody, struck}
use Rattle.simulation.specs.Schedule.{if_allowed, made_by, timed}
use Rattle.simulation.specs.Simulated.{drawn_in, next_drawn, reading_at, readings_by, simulated, simulated_from}
use Rattle.simulation.specs.declared.lots.Lots.{Lots}

-- the ticks of the past are the moments of the readings so far
abbrev IsStepped : ℕ → List Entry → Type 0
IsStepped step past = ticks_of past ≡ moments_of (readings_by step (length (ticks_of past)))

-- the last of the ticks' moments is the moment that the history has come to
last_is_now : (past : List Entry) → last_of (ticks_of past) ≡ now_of past
unfolding now_of
last_is_now past = from 0 past
  where
    from : (before : ℕ) (past : List Entry) → fold (λ last now. now) before (ticks_of past) ≡ fold (λ now e. now_after now e.kind) before past
    from before [] = refl
    from before (e ∷ past) = by_kind e.kind (λ now. from now past)
      where
        by_kind : (kind : Kind) → ((now : ℕ) → fold (λ last now. now) now (ticks_of past) ≡ fold (λ now e. now_after now e.kind) now past)
            → fold (λ last now. now) before (cons_option (moment_of kind) (ticks_of past))
            ≡ fold (λ now e. now_after now e.kind) (now_after before kind) past
        by_kind (kinds.Tick now) next = next now
        by_kind kind next = next before

-- ---- what is made

-- an entry that is made is some way on at the moment of the reading
made_timed : (script : Plan) (past : List Entry) (reading seat : ℕ) (e : Entry) → made_by script past reading seat ≡ Some e
    → (kind : Kind) × (e ≡ timed past reading seat kind)
unfolding made_by
made_timed script past reading seat e is = by_way (way_on script past seat) is
  where
    if_so : (kind : Kind) (b : Bool) → cond b (Some (timed past reading seat kind)) None ≡ Some e → e ≡ timed past reading seat kind
    if_so kind true same = sym (same_Some (timed past reading seat kind) e same)
    if_so kind false same = absurd cc

    by_way : (way : Option Kind) → option_and_then (λ kind. if_allowed script past (timed past reading seat kind)) way ≡ Some e
        → (kind : Kind) × (e ≡ timed past reading seat kind)
    by_way None same = absurd cc
    by_way (Some kind) same = (kind, if_so kind (is_allowed script past (timed past reading seat kind)) same)

-- so is what draws bring
drawn_timed : (n : ℕ) (script : Plan) (past : List Entry) (reading : ℕ) (d : Drawing) (e : Entry) → (drawn_in n script past reading d).entry ≡ Some e
    → (seat : ℕ) × (kind : Kind) × (e ≡ timed past reading seat kind)
drawn_timed zero script past reading d e is = absurd cc
drawn_timed (suc n) script past reading d e is =
    by_made (made_by script past reading (drawn_seat d)) refl is (drawn_timed n script past reading (struck d) e)
  where
    by_made : (made : Option Entry) → made_by script past reading (drawn_seat d) ≡ made
        → (option_map_or (λ x. record { entry = Some x; drawing = struck d }) made (drawn_in n script past reading (struck d))).entry ≡ Some e
        → ((drawn_in n script past reading (struck d)).entry ≡ Some e → (seat : ℕ) × (kind : Kind) × (e ≡ timed past reading seat kind))
        → (seat : ℕ) × (kind : Kind) × (e ≡ timed past reading seat kind)
    by_made None made_is same rest = rest same
    by_made (Some x) made_is same rest = let made = made_timed script past reading (drawn_seat d) e (made_is ∙ same) in (drawn_seat d, made.0, made.1)

-- ---- one more

ticks_stay : (past : List Entry) (e : Entry) → moment_of e.kind ≡ None → ticks_of (past ++ e ∷ []) ≡ ticks_of past
ticks_stay past e none = filter_map-append (λ (x : Entry). moment_of x.kind) past (e ∷ []) ∙ ap (λ more. ticks_of past ++ more) (nothing none) ∙ append-nil (ticks_of past)
  where
    nothing : moment_of e.kind ≡ None → ticks_of (e ∷ []) ≡ []
    nothing none = rw none refl

stepped_tick : (step : ℕ) (script : Plan) (past : List Entry) (seat : ℕ) → IsStepped step past
    → IsStepped step (past ++ record { seat = seat; kind = kinds.Tick (moment_behind (now_of past) (reading_at (Some step) script past)) } ∷ [])
stepped_tick step script past seat stepped =
    let n = length (ticks_of past) in
    let reading = reading_at (Some step) script past in
    let now = moment_behind (now_of past) reading in
    let e : Entry = record { seat = seat; kind = kinds.Tick now } in
    let one : ticks_of (past ++ e ∷ []) ≡ ticks_of past ++ now ∷ [] = filter_map-append (λ (x : Entry). moment_of x.kind) past (e ∷ []) in
    let longer : length (ticks_of (past ++ e ∷ [])) ≡ n + 1 = ap length one ∙ length-append (ticks_of past) (now ∷ []) in
    let readings = map-range_with_len_more (λ k. min ((k + 1) * step) (2 ^ 64 - 1)) 0 n n (omega arith) in
    let last : last_of (moments_of (readings_by step n)) ≡ now_of past = ap last_of (sym stepped) ∙ last_is_now past in
    one ∙ ap (λ ticks. ticks ++ now ∷ []) stepped
    ∙ ap (λ before. moments_of (readings_by step n) ++ min (max reading before) LAST_MOMENT ∷ []) (sym last)
    ∙ sym (one_more (readings_by step n) reading) ∙ ap moments_of (sym readings) ∙ ap (λ count. moments_of (readings_by step count)) (sym longer)

stepped_more : (step : ℕ) (script : Plan) (past : List Entry) (e : Entry) (seat : ℕ) (kind : Kind)
    → e ≡ timed past (reading_at (Some step) script past) seat kind → IsStepped step past → IsStepped step (past ++ e ∷ [])
stepped_more step script past e seat (kinds.Tick now) is stepped = rw is (stepped_tick step script past seat stepped)
stepped_more step script past e seat kind is stepped = rw (ticks_stay past e (ap (λ x. moment_of x.kind) is)) stepped

-- ---- all

stepped_from : (n : ℕ) (step : ℕ) (script : Plan) (past : List Entry) (d : Drawing) → IsStepped step past
    → IsStepped step (simulated_from n script (Some step) past d)
stepped_from zero step script past d stepped = stepped
stepped_from (suc n) step script past d stepped = by_next (next_drawn script (Some step) past d).entry refl stepped
    (λ e more. stepped_from n step script (past ++ e ∷ []) (next_drawn script (Some step) past d).drawing more)
  where
    by_next : (next : Option Entry) → (next_drawn script (Some step) past d).entry ≡ next → IsStepped step past
        → ((e : Entry) → IsStepped step (past ++ e ∷ [])
        → IsStepped step (simulated_from n script (Some step) (past ++ e ∷ []) (next_drawn script (Some step) past d).drawing))
        → IsStepped step (option_map_or (λ e. simulated_from n script (Some step) (past ++ e ∷ []) (next_drawn script (Some step) past d).drawing) next past)
    by_next None is stepped more = stepped
    by_next (Some e) is stepped more =
        let made = drawn_timed (script.workers + 1) script past (reading_at (Some step) script past) (everybody script.workers d) e is in
        more e (stepped_more step script past e made.0 made.1 made.2 stepped)

pub steps_are_moments : (script : Plan) (seed : ℕ) (lots : Lots) (step : ℕ) → IsStepped step (simulated script seed lots (Some step))
unfolding simulated moments_of
steps_are_moments script seed lots step = stepped_from (events_bound_of script) step script [] (draw_of_seed seed lots) refl
