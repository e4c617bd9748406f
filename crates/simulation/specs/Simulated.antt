-- The log that a seed gives (this project's own rule).
use Rattle.std.specs.Prelude.{ℕ, zero, suc, ◌+◌, ◌*◌, ◌-◌, ◌^◌, min, List, [], ◌∷◌, ◌++◌, length, map, Option, Some, None}
use Rattle.std.specs.List.{range_with_len}
use Rattle.std.specs.Option.{option_map_or}
use Rattle.task_base.specs.Plan.{Plan}
use Rattle.task_base.specs.declared.entry.Entry.{Entry}
use Rattle.script_model.specs.Bound.{events_bound_of}
use Rattle.hist_model.specs.Moments.{ticks_of}
use Rattle.simulation.specs.Awaited.{next_moment}
use Rattle.simulation.specs.Draw.{Drawing, draw_of_seed, drawn_seat, everybody, struck}
use Rattle.simulation.specs.Schedule.{made_by}
use Rattle.simulation.specs.declared.lots.Lots.{Lots}

-- what the clock reads for the next tick: a step more than for the one before, or where there is no step the next moment that is awaited
abbrev pub reading_at : Option ℕ → Plan → List Entry → ℕ
reading_at None script past = next_moment script past
reading_at (Some step) script past = min ((length (ticks_of past) + 1) * step) (2 ^ 64 - 1)

-- the first readings, so many, of a clock that goes by a step
abbrev pub readings_by : ℕ → ℕ → List ℕ
readings_by step count = map (λ k. min ((k + 1) * step) (2 ^ 64 - 1)) (range_with_len 0 count)

-- what some draws bring: the entry that is made, if one is, and what draws on
pub record Drawn : Type 0 where
  pub entry : Option Entry
  pub drawing : Drawing

-- at most so many draws: the first seat that may go on makes its entry, and who may not is struck out
abbrev pub drawn_in : ℕ → Plan → List Entry → ℕ → Drawing → Drawn
drawn_in zero script past reading d = record { entry = None; drawing = d }
drawn_in (suc n) script past reading d = option_map_or (λ e. record { entry = Some e; drawing = struck d }) (made_by script past reading (drawn_seat d))
    (drawn_in n script past reading (struck d))

-- what the draws of one more entry bring, in which everybody may be drawn
abbrev pub next_drawn : Plan → Option ℕ → List Entry → Drawing → Drawn
next_drawn script step past d = drawn_in (script.workers + 1) script past (reading_at step script past) (everybody script.workers d)

-- the past with at most so many entries more
abbrev pub simulated_from : ℕ → Plan → Option ℕ → List Entry → Drawing → List Entry
simulated_from zero script step past d = past
simulated_from (suc n) script step past d =
    let next = next_drawn script step past d in
    option_map_or (λ e. simulated_from n script step (past ++ e ∷ []) next.drawing) next.entry past

-- the log that a seed gives
unfoldable pub simulated : Plan → ℕ → Lots → Option ℕ → List Entry
simulated script seed lots step = simulated_from (events_bound_of script) script step [] (draw_of_seed seed lots)
