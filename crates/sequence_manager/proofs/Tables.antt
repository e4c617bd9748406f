-- Lists that say at each place what is so there.
-- Cited by `AtStart`, `DelayedPosts`, `Ends`, `Fences`, `Parts`, `Posts`, `Ranks`, `Refreshing`, `Ripens`, `Takes`, `live_core`.
use Rattle.std.proofs.Common.{◌≡◌, ℕ, ◌<◌, List, length, map, sym, ap, ◌∙◌, Some, inl, inr, arith}
use Rattle.std.specs.Prelude.{◌⊎◌, slice_get, slice_set}
use Rattle.std.proofs.lemmas.Bool.{cases_eq}
use Rattle.std.proofs.lemmas.List.{length-set}
use Rattle.std.proofs.lemmas.List.FromFn.{fill_by_all, get_or-map-range_with_len, length-map-range_with_len}
use Rattle.std.proofs.lemmas.Option.{slice_get-get_or}
use Rattle.std.specs.List.{range_with_len}
use Rattle.list_laws.proofs.Places.{slice_get-set_same, slice_get-set_other}
use Rattle.list_laws.proofs.Values.{some-injective}
use Rattle.sequence_manager.specs.Queues.{IsTable}
use Rattle.sequence_manager.specs.State.{queue_at, fresh_queue}
use Rattle.sequence_manager.specs.declared.task_queue.TaskQueue.{TaskQueue}

-- the queue at a place of a table
pub queue_at_is : (at : ℕ → TaskQueue) (n : ℕ) (queues : List TaskQueue) (q : ℕ) → IsTable at n queues → q < n → queue_at queues q ≡ at q
queue_at_is at n queues q table less =
    let long : length queues ≡ n = table.all in
    some-injective (sym (slice_get-get_or queues q (fresh_queue 0 0) (omega (arith, less, long))) ∙ table.each q less)

-- one element is set to what another table says, and all others say the same
pub table_set : {A : Type 0} (f g : ℕ → A) (n : ℕ) (xs : List A) (k : ℕ) (x : A) → IsTable f n xs → k < n
    → ((i : ℕ) → i < n → (i ≡ k → ⊥) → f i ≡ g i) → x ≡ g k → IsTable g n (slice_set xs k x)
table_set {A = A} f g n xs k x table less same here = record {
  all = length-set xs k x ∙ table.all;
  each = λ i within. at_each i within (cases_eq i k);
}
  where
    long : length xs ≡ n
    long = table.all

    at_each : (i : ℕ) → i < n → (i ≡ k) ⊎ (i ≡ k → ⊥) → slice_get (slice_set xs k x) i ≡ Some (g i)
    at_each i within (inl is) = rw is (slice_get-set_same xs k x (omega (arith, less, long)) ∙ ap Some here)
    at_each i within (inr other) = slice_get-set_other xs k i x (λ is. other (sym is)) ∙ table.each i within ∙ ap Some (same i within other)

pub table_same : {A : Type 0} (f g : ℕ → A) (n : ℕ) (xs : List A) → ((i : ℕ) → i < n → f i ≡ g i) → IsTable f n xs → IsTable g n xs
table_same f g n xs same table = record { all = table.all; each = λ i less. table.each i less ∙ ap Some (same i less) }

-- a table is what its places say, and what they say is a table
pub table_is : {A : Type 0} (at : ℕ → A) (n : ℕ) (xs : List A) (d : A) → IsTable at n xs → xs ≡ map at (range_with_len 0 n)
table_is at n xs d table = fill_by_all at xs n d table.all
    (λ k less. let long : length xs ≡ n = table.all in
    some-injective (sym (slice_get-get_or xs k d (omega (arith, less, long))) ∙ table.each k less))

pub map_is_table : {A : Type 0} (at : ℕ → A) (n : ℕ) → IsTable at n (map at (range_with_len 0 n))
map_is_table at n = record {
  all = length-map-range_with_len at 0 n;
  each = λ i less. slice_get-get_or (map at (range_with_len 0 n)) i (at i) (rw (length-map-range_with_len at 0 n) less)
      ∙ ap Some (get_or-map-range_with_len at 0 n i i (at i) less (omega arith));
}
