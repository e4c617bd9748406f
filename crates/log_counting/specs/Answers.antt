-- What is answered of how many whole logs a script has.
use Rattle.std.specs.Prelude.{◌≡◌, ℕ, suc, ◌<◌, ◌≤◌, length, sum_by}
use Rattle.std.specs.List.{range_with_len}
use Rattle.task_base.specs.Plan.{Plan}
use Rattle.script_model.specs.Bound.{events_bound_of}
use Rattle.situation.specs.Counts.{whole_logs}
use Rattle.situation.specs.Situation.{Situation}
use Rattle.log_count.specs.Layers.{count_of_logs, layer, whole_of_layer}
use Rattle.log_counting.specs.declared.count.LogCount.{LogCount}
use Rattle.log_counting.specs.declared.count.LogCount.TheVariants.{Whole, GaveUp}

-- how many whole logs have fewer entries than this
abbrev pub count_below : Plan → (Situation → ℕ) → ℕ → ℕ
count_below script tick n = sum_by (λ k. whole_of_layer script (layer script tick k)) (range_with_len 0 n)

-- no layer of pasts with fewer entries than this has more situations than may be kept
abbrev pub AreFew : Plan → (Situation → ℕ) → ℕ → ℕ → Type 0
AreFew script tick most n = (k : ℕ) → k < n → length (layer script tick k) ≤ most

-- the answer to how many whole logs the script has, where so many situations of a layer may be kept: their number, where each
-- layer has few; otherwise the first layer that has more, and how many whole logs have fewer entries
abbrev pub IsAnswer : Plan → (Situation → ℕ) → ℕ → LogCount → Type 0
IsAnswer script tick most (Whole number) = (number ≡ count_of_logs script tick) × AreFew script tick most (suc (events_bound_of script))
IsAnswer script tick most (GaveUp entries at_least) =
    (entries ≤ events_bound_of script) × (most < length (layer script tick entries)) × AreFew script tick most entries
    × (at_least ≡ count_below script tick entries)

-- what the answer says of the legal, whole logs themselves
abbrev pub TellsLogs : Plan → (Situation → ℕ) → LogCount → Type 0
TellsLogs script tick (Whole number) = number ≡ length (whole_logs script tick)
TellsLogs script tick (GaveUp entries at_least) = at_least ≤ length (whole_logs script tick)
