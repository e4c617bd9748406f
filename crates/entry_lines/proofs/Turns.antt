-- A loop over an iterator that gives a known list. What the loop knows of its steps comes first, and the list last.
-- Cited by `plain_words`, `app_streams`, `event_text`, `run_log`.
use Rattle.std.proofs.Common.{◌≡◌, ◌<◌, List, length, get_or, map, Option, Some, None}
use Rattle.std.specs.Iterator.{Yields}
use Rattle.std.proofs.lemmas.Iterator.{YieldsList}
use Rattle.std.proofs.lemmas.Iterator.Consumers.{YieldsList-turn, YieldsList-end}

-- the item of a turn is the next of the list
pub turn_of : {S A B : Type 0} {steps : S → Option A → S → Type 0} {s : S} (v : A → B) (all : List B) (xs : List A) (t : S) → Yields steps s xs t
    → (r : Option A) (u : S) (x : A) → r ≡ Some x → steps t r u → YieldsList steps v s all → (length xs < length all) × (v x ≡ get_or all (length xs) (v x))
turn_of v all xs t y r u x some step road = YieldsList-turn road xs t y r u x some step

-- at the end the items are the whole list
pub end_of : {S A B : Type 0} {steps : S → Option A → S → Type 0} {s : S} (v : A → B) (all : List B) (xs : List A) (t : S) → Yields steps s xs t
    → (r : Option A) (u : S) → r ≡ None → steps t r u → YieldsList steps v s all → (map v xs ≡ all) × (length xs ≡ length all)
end_of v all xs t y r u none step road = YieldsList-end road xs t y r u none step
