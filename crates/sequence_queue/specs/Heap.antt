-- A heap of the numbers that are held: each number has a place, those that are held the first ones, and none of these goes before the one above it.
use Rattle.std.specs.Prelude.{◌≡◌, ◌≢◌, ◌⊎◌, ℕ, ◌+◌, ◌*◌, ◌<◌, ◌≤◌, nat_lt, Bool, true, false, List, length, slice_index, slice_index_or, Option, Some, None, is_some}
use Rattle.sequence_queue.specs.Ranked.{rank_below}
use Rattle.sequence_queue.specs.declared.heap.Heap.{Heap}
use Rattle.sequence_queue.specs.declared.rank.Rank.{Rank}

-- a rank goes before a lesser one, and before none
abbrev pub before : Option Rank → Option Rank → Bool
before (Some a) (Some b) = rank_below a b
before (Some a) None = true
before None b = false

-- the rank of a number, where it is held
abbrev pub rank_of_number : Heap → ℕ → Option Rank
rank_of_number h n = slice_index_or h.ranks.items n None

-- the rank of the number at a place
abbrev pub rank_at : Heap → ℕ → Option Rank
rank_at h i = rank_of_number h (slice_index h.order.items i)

-- how many places there are
abbrev pub size : Heap → ℕ
size h = length h.ranks.items

-- the number at one place goes before the one at another
abbrev pub ranks_first : Heap → ℕ → ℕ → Bool
ranks_first h i j = before (rank_at h i) (rank_at h j)

-- the numbers below a bound, in order
abbrev pub CountsUp : List ℕ → ℕ → Type 0
CountsUp numbers n = (length numbers ≡ n) × ((i : ℕ) → i < n → slice_index numbers i ≡ i)

-- the first place is one of the two below the second
abbrev pub IsChild : ℕ → ℕ → Type 0
IsChild c i = (c ≡ 2 * i + 1) ⊎ (c ≡ 2 * i + 2)

-- each number below n has a place, and each place a number
pub record IsPaired (order places : List ℕ) (n : ℕ) : Type 0 where
  pub order_count : length order ≡ n
  pub place_count : length places ≡ n
  pub number_within : (i : ℕ) → i < n → slice_index order i < n
  pub place_within : (m : ℕ) → m < n → slice_index places m < n
  pub there : (i : ℕ) → i < n → slice_index places (slice_index order i) ≡ i
  pub back : (m : ℕ) → m < n → slice_index order (slice_index places m) ≡ m

-- each number has a place
abbrev pub HasPlaces : Heap → Type 0
HasPlaces h = IsPaired h.order.items h.places.items (size h)

-- of so many places, the first n have a rank, and the others none
abbrev pub HasFirst : (ℕ → Option Rank) → ℕ → ℕ → Type 0
HasFirst f n places = (i : ℕ) → i < places → is_some (f i) ≡ nat_lt i n

-- the numbers that are held have the first places
pub record IsPlaced (h : Heap) : Type 0 where
  pub paired : HasPlaces h
  pub within : h.held ≤ size h
  pub held_first : HasFirst (rank_at h) h.held (size h)

-- no number goes before the one above it
abbrev pub IsOrdered : (ℕ → Option Rank) → ℕ → Type 0
IsOrdered f n = (i c : ℕ) → IsChild c i → c < n → before (f c) (f i) ≡ false

-- no number goes before the one above it, but for the one at a place; those below that place don't go before the one above it
pub record IsLoosely (f : ℕ → Option Rank) (n k : ℕ) : Type 0 where
  pub elsewhere : (i c : ℕ) → IsChild c i → c < n → c ≢ k → i ≢ k → before (f c) (f i) ≡ false
  pub around : (i c : ℕ) → IsChild k i → IsChild c k → c < n → before (f c) (f i) ≡ false

-- none below a place goes before it
abbrev pub IsAbove : (ℕ → Option Rank) → ℕ → ℕ → Type 0
IsAbove f n k = (c : ℕ) → IsChild c k → c < n → before (f c) (f k) ≡ false

-- it doesn't go before the one above it
abbrev pub IsBelow : (ℕ → Option Rank) → ℕ → Type 0
IsBelow f k = (i : ℕ) → IsChild k i → before (f k) (f i) ≡ false

-- of so many places, one has another rank
pub record Changed (f g : ℕ → Option Rank) (places k : ℕ) (rank : Option Rank) : Type 0 where
  pub there : g k ≡ rank
  pub others : (i : ℕ) → i < places → i ≢ k → g i ≡ f i

-- the numbers at two places have changed places
pub record Exchanged (f g : ℕ → Option Rank) (p q : ℕ) : Type 0 where
  pub first : g p ≡ f q
  pub second : g q ≡ f p
  pub others : (i : ℕ) → i ≢ p → i ≢ q → g i ≡ f i

-- they have, and nothing else has changed
pub record IsExchanged (h g : Heap) (p q : ℕ) : Type 0 where
  pub paired : HasPlaces g
  pub ranks : g.ranks ≡ h.ranks
  pub held : g.held ≡ h.held
  pub exchanged : Exchanged (rank_at h) (rank_at g) p q

-- of the two places below one, the one whose number goes before the other's, if there are numbers
pub record IsFirstBelow (h : Heap) (k c : ℕ) : Type 0 where
  pub child : IsChild c k
  pub least : (d : ℕ) → IsChild d k → d < h.held → (c < h.held) × (ranks_first h d c ≡ false)

-- the numbers that are held have the first places, and none of them goes before the one above it
pub record IsHeap (h : Heap) : Type 0 where
  pub placed : IsPlaced h
  pub ordered : IsOrdered (rank_at h) h.held

-- a heap, but for the number at one place
pub record IsHeapBut (h : Heap) (k : ℕ) : Type 0 where
  pub placed : IsPlaced h
  pub loose : IsLoosely (rank_at h) h.held k
  pub within : k < h.held

-- the number that goes before all others, and none where none is held
abbrev pub IsFirst : Heap → Option ℕ → Type 0
IsFirst h None = (m : ℕ) → m < size h → rank_of_number h m ≡ None
IsFirst h (Some n) = (n < size h) × ((m : ℕ) → m < size h → before (rank_of_number h m) (rank_of_number h n) ≡ false)
