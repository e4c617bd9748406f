-- The order of a heap: how it is lost at one place, and won back by exchanges.
-- Cited by `Steps`.
use Rattle.std.proofs.Common.{◌≡◌, ℕ, zero, suc, ◌+◌, ◌<◌, ◌≤◌, Bool, true, false, eqb, Option, Some, None, refl, sym, subst, ◌∙◌, inl, inr, arith}
use Rattle.std.specs.Prelude.{◌≢◌, ◌⊎◌, nat_lt, ◌&&◌, ◌||◌, is_some}
use Rattle.std.proofs.lemmas.Bool.{true≢false, cases_lt, le-ltb}
use Rattle.list_laws.specs.Lists.{Ranks, then_by}
use Rattle.list_laws.proofs.Ranks.{ranks_by, ranks_then_by, ranks_turned}
use Rattle.task_base.specs.Groups.{importance}
use Rattle.task_base.specs.Keys.{key_below}
use Rattle.sequence_queue.specs.declared.rank.Rank.{Rank}
use Rattle.sequence_queue.specs.Ranked.{rank_below}
use Rattle.sequence_queue.specs.Heap.{before, HasFirst, IsChild, IsOrdered, IsLoosely, IsAbove, IsBelow, Changed, Exchanged}

-- ranks are ranked
ranks_rank_below : Ranks rank_below
ranks_rank_below = ranks_turned (then_by (λ c. importance c.priority) (λ a b. inner b a))
    (ranks_then_by (λ c. importance c.priority) (λ a b. inner b a) (ranks_turned inner
    (ranks_then_by (λ c. c.inside) (λ a b. key_below a.key b.key)
    (ranks_then_by (λ c. c.key.place) _ (ranks_then_by (λ c. c.key.ripe) _ (ranks_by (λ c. c.key.post)))))))
  where
    inner : Rank → Rank → Bool
    inner a b = nat_lt a.inside b.inside || (eqb a.inside b.inside && key_below a.key b.key)

-- what does not go before one that does not go before a third does not go before that
pub through : (a b c : Option Rank) → before a b ≡ false → before b c ≡ false → before a c ≡ false
through None b c h k = refl
through (Some a) None c h k = absurd (true≢false h)
through (Some a) (Some b) None h k = absurd (true≢false k)
through (Some a) (Some b) (Some c) h k = ranks_rank_below.through a b c h k

-- of two at most one goes before the other
pub one_way : (a b : Option Rank) → before a b ≡ true → before b a ≡ false
one_way None b h = absurd (true≢false (sym h))
one_way (Some a) None h = refl
one_way (Some a) (Some b) h = ranks_rank_below.one_way a b h

-- nothing goes before itself
pub itself : (a : Option Rank) → before a a ≡ false
itself None = refl
itself (Some a) = ranks_rank_below.itself a

-- a change at one place
pub loosened : (f g : ℕ → Option Rank) (n k : ℕ) → IsOrdered f n → ((i : ℕ) → i < n → i ≢ k → g i ≡ f i) → IsLoosely g n k
loosened f g n k ordered same = record {
  elsewhere = λ i c child lt other up. rw (same c lt other, same i (grind arith) up) (ordered i c child lt);
  around = λ i c above child lt. rw (same c lt (λ is. never c child is), same i (grind arith) (λ is. never_up i above is))
      (through (f c) (f k) (f i) (ordered k c child lt) (ordered i k above (grind arith)));
}
  where
    never : (c : ℕ) → IsChild c k → c ≡ k → ⊥
    never c child is = grind arith

    never_up : (i : ℕ) → IsChild k i → i ≡ k → ⊥
    never_up i child is = grind arith

-- a place below another is another place
apart : (c i : ℕ) → IsChild c i → c ≢ i
apart c i child is = grind arith

-- a place is below one place alone
pub one_above : (c i j : ℕ) → IsChild c i → IsChild c j → i ≡ j
one_above c i j first second = grind arith

-- where none below a place goes before it, and it doesn't go before the one above it, the order is whole
pub whole : (f : ℕ → Option Rank) (n k : ℕ) → IsLoosely f n k → IsAbove f n k → IsBelow f k → IsOrdered f n
whole f n k loose above below i c child lt = grind (arith, loose.elsewhere i c child lt, above c, below i)

-- a number that goes before the one above it goes before those below it
pub is_above : (f : ℕ → Option Rank) (n k i : ℕ) → IsLoosely f n k → IsChild k i → before (f k) (f i) ≡ true → IsAbove f n k
is_above f n k i loose child goes c below lt = through (f c) (f i) (f k) (loose.around i c child below lt) (one_way (f k) (f i) goes)

-- an exchange with the place above
pub risen : (f g : ℕ → Option Rank) (n k p : ℕ) → IsLoosely f n k → IsAbove f n k → IsChild k p → k < n → before (f k) (f p) ≡ true
    → Exchanged f g k p → IsLoosely g n p × IsAbove g n p
risen f g n k p loose high child lt goes exchanged = (record { elsewhere = elsewhere; around = around }, above)
  where
    elsewhere : (i c : ℕ) → IsChild c i → c < n → c ≢ p → i ≢ p → before (g c) (g i) ≡ false
    elsewhere i c below less other up =
        grind (arith, exchanged.others c, exchanged.others i, loose.around p c child, loose.elsewhere i c below less)

    above : IsAbove g n p
    above c below less =
        let turned = one_way (f k) (f p) goes in
        grind (arith, exchanged.others c, loose.elsewhere p c below less, through (f c) (f p) (f k))

    around : (i c : ℕ) → IsChild p i → IsChild c p → c < n → before (g c) (g i) ≡ false
    around i c up below less =
        grind (arith, exchanged.others c, exchanged.others i, loose.elsewhere i p up, loose.elsewhere p c below less, through (f c) (f p) (f i))

-- an exchange with the first of the places below
pub lowered : (f g : ℕ → Option Rank) (n k b : ℕ) → IsLoosely f n k → IsChild b k → b < n
    → ((d : ℕ) → IsChild d k → d < n → before (f d) (f b) ≡ false) → Exchanged f g k b → IsLoosely g n b
lowered f g n k b loose child lt least exchanged = record { elsewhere = elsewhere; around = around }
  where
    elsewhere : (i c : ℕ) → IsChild c i → c < n → c ≢ b → i ≢ b → before (g c) (g i) ≡ false
    elsewhere i c below less other up =
        grind (arith, exchanged.others c, exchanged.others i, loose.around i b, least c, loose.elsewhere i c below less)

    around : (i c : ℕ) → IsChild b i → IsChild c b → c < n → before (g c) (g i) ≡ false
    around i c up below less = rw (one_above b i k up child) (grind (arith, exchanged.others c, loose.elsewhere b c below less))

-- an exchange with a place below that goes before it
pub sunk : (f g : ℕ → Option Rank) (k b : ℕ) → IsChild b k → before (f b) (f k) ≡ true → Exchanged f g k b → IsBelow g b
sunk f g k b child goes exchanged i up = rw (one_above b i k up child, exchanged.first, exchanged.second) (one_way (f b) (f k) goes)

-- an exchange among the first places
pub first_exchanged : (f g : ℕ → Option Rank) (n m p q : ℕ) → HasFirst f n m → n ≤ m → p < n → q < n → Exchanged f g p q → HasFirst g n m
first_exchanged f g n m p q first le p_lt q_lt exchanged i lt =
    grind (arith, first i lt, first p (omega arith), first q (omega arith), exchanged.others i)

-- what has no rank is behind the first places
pub behind : (f : ℕ → Option Rank) (n m p : ℕ) → HasFirst f n m → p < m → f p ≡ None → n ≤ p
behind f n m p first lt none = grind (arith, first p lt)

-- what has a rank is among the first places
pub among : (f : ℕ → Option Rank) (n m p : ℕ) → HasFirst f n m → p < m → is_some (f p) ≡ true → p < n
among f n m p first lt some = grind (arith, first p lt)

-- a rank behind the first places, brought to the first of them
pub inserted : (f e g : ℕ → Option Rank) (n m p : ℕ) (r : Rank) → HasFirst f n m → n ≤ p → p < m → Changed f e m p (Some r) → Exchanged e g p n
    → HasFirst g (n + 1) m
inserted f e g n m p r first le lt changed exchanged i within =
    grind (arith, first i within, first n (omega arith), changed.others i within, changed.others n (omega arith), exchanged.others i)

-- there is no place below it
pub end_is_loose : (f e g : ℕ → Option Rank) (n m p : ℕ) (r : Rank) → IsOrdered f n → n ≤ p → p < m → Changed f e m p (Some r) → Exchanged e g p n
    → IsLoosely g (n + 1) n × IsAbove g (n + 1) n
end_is_loose f e g n m p r ordered le lt changed exchanged = (
  record {
    elsewhere = λ i c below less other up. rw (kept c (grind arith), kept i (grind arith)) (ordered i c below (grind arith));
    around = λ i c up below less. grind arith;
  },
  λ c below less. grind arith,
)
  where
    kept : (i : ℕ) → i < n → g i ≡ f i
    kept i less = grind (arith, exchanged.others i, changed.others i)

-- a rank of the first places taken away, and the last of them brought to its place
pub removed : (f e g : ℕ → Option Rank) (n m p : ℕ) → HasFirst f (n + 1) m → n < m → p < n + 1 → Changed f e m p None → Exchanged e g p n
    → HasFirst g n m
removed f e g n m p first le lt changed exchanged i within =
    grind (arith, first i within, first n (omega arith), changed.others i within, changed.others n (omega arith), exchanged.others i)

-- the order is lost at that place alone
pub gap_is_loose : (f e g : ℕ → Option Rank) (n m p : ℕ) → IsOrdered f (n + 1) → n < m → Changed f e m p None → Exchanged e g p n → IsLoosely g n p
gap_is_loose f e g n m p ordered le changed exchanged =
    loosened f g n p (λ i c child lt. ordered i c child (omega arith)) (λ i lt other. grind (arith, exchanged.others i other, changed.others i))

-- it isn't lost where that place is the end
pub end_is_whole : (f : ℕ → Option Rank) (n : ℕ) → IsLoosely f n n → IsOrdered f n
end_is_whole f n loose i c child lt = grind (arith, loose.elsewhere i c child lt)

-- another rank at one of the first places
pub first_changed : (f g : ℕ → Option Rank) (n m p : ℕ) (r : Rank) → HasFirst f n m → p < n → Changed f g m p (Some r) → HasFirst g n m
first_changed f g n m p r first lt changed i within = grind (arith, first i within, changed.others i within)

-- each place but the first is below another
pub parent : (i : ℕ) → (p : ℕ) × IsChild (i + 1) p × (p ≤ i)
parent zero = (0, inl refl, omega arith)
parent (suc i) = by_parent (parent i)
  where
    by_parent : (p : ℕ) × IsChild (i + 1) p × (p ≤ i) → (p : ℕ) × IsChild (suc i + 1) p × (p ≤ suc i)
    by_parent (p, inl left, le) = (p, inr (omega (arith, left)), omega (arith, le))
    by_parent (p, inr right, le) = (p + 1, inl (omega (arith, right)), omega (arith, le))

-- what has no rank
pub is_none : (a : Option Rank) → is_some a ≡ false → a ≡ None
is_none None h = refl
is_none (Some a) h = absurd (true≢false h)

-- no place of a heap goes before its first
first_in_heap : (f : ℕ → Option Rank) (n m i : ℕ) → IsOrdered f n → i < m → i < n → before (f i) (f 0) ≡ false
first_in_heap f n zero i ordered less lt = absurd (omega (arith, less))
first_in_heap f n (suc m) zero ordered less lt = itself (f 0)
first_in_heap f n (suc m) (suc i) ordered less lt =
    let up = parent i in
    let child : IsChild (suc i) up.0 = subst (λ (x : ℕ). IsChild x up.0) (omega arith) up.1 in
    through (f (suc i)) (f up.0) (f 0) (ordered up.0 (suc i) child lt)
    (first_in_heap f n m up.0 ordered (omega (arith, less, up.2)) (omega (arith, lt, up.2)))

-- no place at all does
pub first_is_least : (f : ℕ → Option Rank) (n m i : ℕ) → IsOrdered f n → HasFirst f n m → i < m → before (f i) (f 0) ≡ false
first_is_least f n m i ordered first lt = by_order (cases_lt i n)
  where
    by_order : (i < n) ⊎ (n ≤ i) → before (f i) (f 0) ≡ false
    by_order (inl less) = first_in_heap f n (suc i) i ordered (omega arith) less
    by_order (inr le) = rw (is_none (f i) (first i lt ∙ le-ltb i n le)) refl
