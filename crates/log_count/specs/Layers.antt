-- The pasts of a script, counted by layers: for each length, how many are in each situation (this project's own notion).
use Rattle.std.specs.Prelude.{◌≡◌, ℕ, ◌*◌, true, zero, suc, ◌+◌, if◌then◌else◌, List, [], ◌∷◌, fold, map, flat_map, sum_by}
use Rattle.std.specs.Option.{option_map}
use Rattle.std.specs.List.{filter_map, range_with_len}
use Rattle.task_base.specs.Plan.{Plan}
use Rattle.task_base.specs.declared.entry.Entry.{Entry}
use Rattle.script_model.specs.Bound.{events_bound_of}
use Rattle.task_model.specs.Seats.{all_seats}
use Rattle.situation.specs.Counts.{goings}
use Rattle.situation.specs.Situation.{Situation, situation_of}
use Rattle.log_count.specs.After.{after_in}
use Rattle.log_count.specs.Equal.{same_situation}
use Rattle.log_count.specs.Ways.{is_whole_in, next_in}

-- the legal pasts of so many entries, each once; ticks read what the situations before them tell
abbrev pub pasts : Plan → (Situation → ℕ) → ℕ → List (List Entry)
pasts script tick n = goings (λ past. true) script tick n []

-- the situations to which the entries lead that seats may make next
unfoldable pub onward : Plan → (Situation → ℕ) → Situation → List Situation
onward script tick s = filter_map (λ seat. option_map (after_in script s seat) (next_in script tick s seat)) (all_seats script)

-- how many pasts are in a situation
pub record Counted : Type 0 where
  pub situation : Situation
  pub pasts : ℕ

-- with so many more in a situation: they are added where it stands, or it comes to the end
abbrev pub with_more : Counted → List Counted → List Counted
with_more more [] = more ∷ []
with_more more (c ∷ layer) =
    if same_situation c.situation more.situation
    then record { situation = c.situation; pasts = c.pasts + more.pasts } ∷ layer
    else c ∷ with_more more layer

-- each of a list is added
abbrev pub gathered : List Counted → List Counted
gathered found = fold (λ layer c. with_more c layer) [] found

-- where the pasts of a layer go on to, one entry further
abbrev pub found_after : Plan → (Situation → ℕ) → List Counted → List Counted
found_after script tick layer = flat_map (λ c. map (λ s. record { situation = s; pasts = c.pasts }) (onward script tick c.situation)) layer

-- how many pasts of so many entries are in each situation
unfoldable pub layer : Plan → (Situation → ℕ) → ℕ → List Counted
layer script tick zero = record { situation = situation_of script []; pasts = 1 } ∷ []
layer script tick (suc n) = gathered (found_after script tick (layer script tick n))

-- how many of the pasts of a layer are whole
abbrev pub whole_of_layer : Plan → List Counted → ℕ
whole_of_layer script counted = sum_by (λ c. if is_whole_in script c.situation then c.pasts else 0) counted

-- how many whole logs a script has, by its layers
unfoldable pub count_of_logs : Plan → (Situation → ℕ) → ℕ
count_of_logs script tick = sum_by (λ n. whole_of_layer script (layer script tick n)) (range_with_len 0 (suc (events_bound_of script)))

-- two lists of counts say the same: whatever number situations have, its sum over the one is its sum over the other
abbrev pub CountAlike : List Counted → List Counted → Type 0
CountAlike one other =
    (number : Situation → ℕ) → sum_by (λ c. c.pasts * number c.situation) one ≡ sum_by (λ c. c.pasts * number c.situation) other
