-- What becomes of the lines where one list is changed and the others are kept.
-- Cited by `append_at`, `purge_at`, `put_at`, `take_at`.
use Rattle.std.proofs.Common.{◌≡◌, ◌≢◌, ℕ, zero, suc, ◌+◌, ◌<◌, List, [], ◌∷◌, length, map, get_or, refl, sym}
use Rattle.std.proofs.Common.{ap, ◌∙◌, subst, Option, arith, inl, inr, get_or-set_other, get_or-set_same}
use Rattle.std.proofs.Math.ListN.{set}
use Rattle.std.proofs.lemmas.Bool.{cases_eq}
use Rattle.std.proofs.lemmas.List.Sums.{sum_by-set}
use Rattle.std.proofs.lemmas.List.{get_or_default, get_or-map}
use Rattle.task_sequence.specs.Sequences.{Sequence, fresh}
use Rattle.task_sequence.specs.Links.{IsLinked, Apart, Keeps, KeepsOthers}
use Rattle.task_sequence.specs.Lines.{fresh_line, ends_at, sequence_of, sequences_of, IsWhole}
use Rattle.task_sequence.specs.declared.links.Node.{Node}
use Rattle.task_sequence.specs.declared.links.Ends.{Ends}
use Rattle.task_sequence.specs.declared.lines.Line.{Line}

-- two maps that give the same of each element
map-congr_at : {A B : Type 0} (f g : A → B) (xs : List A) (d : A) → ((j : ℕ) → j < length xs → g (get_or xs j d) ≡ f (get_or xs j d)) → map g xs ≡ map f xs
map-congr_at f g [] d each = refl
map-congr_at f g (x ∷ xs) d each =
    let here : g x ≡ f x = each 0 (omega arith) in
    let there = map-congr_at f g xs d (λ j within. each (suc j) (omega arith)) in
    cc

-- a mapped list where one element is replaced, and the map gives the same of each other one
map-set_one : {A B : Type 0} (f g : A → B) (xs : List A) (i : ℕ) (x d : A) → ((j : ℕ) → j ≢ i → j < length xs → g (get_or xs j d) ≡ f (get_or xs j d))
    → map g (set xs i x) ≡ set (map f xs) i (g x)
map-set_one f g [] i x d same = refl
map-set_one f g (y ∷ xs) zero x d same =
    let there = map-congr_at f g xs d (λ j within. same (suc j) (λ e. omega arith) (omega arith)) in
    cc
map-set_one f g (y ∷ xs) (suc i) x d same =
    let here : g y ≡ f y = same 0 (λ e. omega arith) (omega arith) in
    let there = map-set_one f g xs i x d (λ j ne within. same (suc j) (λ e. ne (omega arith)) (omega arith)) in
    cc

-- one list was changed, and the others were kept
pub record ChangesOne (old new : List (Option Node)) (lines : List Line) (seq : ℕ) (d : Line) (after : Ends) (held later : ℕ) : Type 0 where
  pub within : seq < length lines
  pub linked : IsLinked new after
  pub others : KeepsOthers old (get_or lines seq d).ends new after
  pub counted : later + (get_or lines seq d).ends.count ≡ held + after.count

Apart-sym : (a b : Ends) → Apart a b → Apart b a
Apart-sym a b h p q e = h q p (sym e)

Apart-at : (a b u v : Ends) → a ≡ u → b ≡ v → Apart a b → Apart u v
Apart-at a b u v e f h = subst (Apart u) f (subst (λ x. Apart x b) e h)

-- each other list was kept
other_kept : (old new : List (Option Node)) (lines : List Line) (seq : ℕ) (d : Line) (after : Ends) (held later : ℕ)
    → ChangesOne old new lines seq d after held later → IsWhole old lines held
    → (other : ℕ) → other ≢ seq → Keeps old new after (ends_at lines other)
other_kept old new lines seq d after held later change whole other ne =
    let before : (get_or lines seq d).ends ≡ ends_at lines seq = ap (λ line. line.ends) (get_or_default lines seq d fresh_line change.within) in
    change.others (ends_at lines other) (whole.linked other) (subst (Apart (ends_at lines other)) (sym before) (whole.apart other seq ne))

pub IsWhole-set : (old new : List (Option Node)) (lines : List Line) (seq : ℕ) (d : Line) (after : Line) (held later : ℕ)
    → ChangesOne old new lines seq d after.ends held later → IsWhole old lines held → IsWhole new (set lines seq after) later
IsWhole-set old new lines seq d after held later change whole = record {
  linked = λ s. elim (cases_eq s seq) [ inl e ↦ subst (λ k. IsLinked new (ends_at (set lines seq after) k)) (sym e) mine | inr ne ↦ other_linked s ne ];
  apart = λ a b ne. elim (cases_eq a seq) [
    | inl e ↦ at_seq a b e (λ f. ne (e ∙ sym f))
    | inr ne_a ↦ elim (cases_eq b seq) [
      | inl e ↦ Apart-sym (ends_at (set lines seq after) b) (ends_at (set lines seq after) a) (at_seq b a e ne_a)
      | inr ne_b ↦ Apart-at (ends_at lines a) (ends_at lines b) (ends_at (set lines seq after) a) (ends_at (set lines seq after) b)
          (sym (other_is a ne_a)) (sym (other_is b ne_b)) (whole.apart a b ne)
    ]
  ];
  counted = omega (arith, sum_by-set (λ line. line.ends.count) lines seq after d change.within, change.counted, whole.counted);
}
  where
    mine_is : ends_at (set lines seq after) seq ≡ after.ends
    mine_is = ap (λ line. line.ends) (get_or-set_same lines seq after fresh_line change.within)

    mine : IsLinked new (ends_at (set lines seq after) seq)
    mine = subst (IsLinked new) (sym mine_is) change.linked

    other_is : (s : ℕ) → s ≢ seq → ends_at (set lines seq after) s ≡ ends_at lines s
    other_is s ne = ap (λ line. line.ends) (get_or-set_other lines seq s after fresh_line ne)

    kept : (s : ℕ) → s ≢ seq → Keeps old new after.ends (ends_at lines s)
    kept = other_kept old new lines seq d after.ends held later change whole

    other_linked : (s : ℕ) → s ≢ seq → IsLinked new (ends_at (set lines seq after) s)
    other_linked s ne = subst (IsLinked new) (sym (other_is s ne)) (kept s ne).linked

    at_seq : (a b : ℕ) → a ≡ seq → b ≢ seq → Apart (ends_at (set lines seq after) a) (ends_at (set lines seq after) b)
    at_seq a b e ne = Apart-sym (ends_at (set lines seq after) b) (ends_at (set lines seq after) a)
        (Apart-at (ends_at lines b) after.ends (ends_at (set lines seq after) b) (ends_at (set lines seq after) a)
        (sym (other_is b ne)) (sym (ap (ends_at (set lines seq after)) e ∙ mine_is)) (kept b ne).apart)

-- the sequences, where one list was changed
sequences_of-set : (old new : List (Option Node)) (lines : List Line) (seq : ℕ) (d : Line) (after : Line) (held later : ℕ)
    → ChangesOne old new lines seq d after.ends held later → IsWhole old lines held
    → sequences_of new (set lines seq after) ≡ set (sequences_of old lines) seq (sequence_of new after)
sequences_of-set old new lines seq d after held later change whole =
    map-set_one (sequence_of old) (sequence_of new) lines seq after fresh_line
    (λ s ne within. ap (λ ts. record { tasks = ts; cell = (get_or lines s fresh_line).cell })
    (other_kept old new lines seq d after.ends held later change whole s ne).same)

-- one sequence is edited, and the others are as they were
pub sequences_of-edit : (old new : List (Option Node)) (lines : List Line) (seq : ℕ) (d : Line) (after : Line) (held later : ℕ) (edit : Sequence → Sequence)
    → ChangesOne old new lines seq d after.ends held later → IsWhole old lines held
    → sequence_of new after ≡ edit (sequence_of old (get_or lines seq d))
    → sequences_of new (set lines seq after) ≡ set (sequences_of old lines) seq (edit (get_or (sequences_of old lines) seq fresh))
sequences_of-edit old new lines seq d after held later edit change whole edited =
    sequences_of-set old new lines seq d after held later change whole
    ∙ ap (set (sequences_of old lines) seq) (edited ∙ ap edit (sym (get_or-map (sequence_of old) lines seq d fresh change.within)))

-- no list was changed
pub unchanged : (slots : List (Option Node)) (lines : List Line) (seq : ℕ) (d : Line) (held : ℕ) → seq < length lines → IsWhole slots lines held
    → ChangesOne slots slots lines seq d (get_or lines seq d).ends held held
unchanged slots lines seq d held within whole = record {
  within = within;
  linked = subst (λ line. IsLinked slots line.ends) (get_or_default lines seq fresh_line d within) (whole.linked seq);
  others = λ other is apart. record { linked = is; same = refl; apart = apart };
  counted = refl;
}
