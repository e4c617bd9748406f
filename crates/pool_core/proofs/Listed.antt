-- Tasks in lists: what a list has once a task has come to its front, or its first one has gone.
-- Cited by `TaskLists::pop`, `TaskLists::push`, `Calls/EmptyPool`, `Sources/Listing`, `Sources/Moves`.
use Rattle.list_laws.proofs.Pigeons.{pigeons_fit}
use Rattle.list_laws.proofs.Ranges.{range_any_at}
use Rattle.list_laws.proofs.Values.{eqb-same}
use Rattle.list_laws.specs.Lists.{count}
use Rattle.std.proofs.Common.{Bool, List, None, Option, Some, [], ap, arith, cond, false, inl, inr, length, refl, subst, suc, sym, true, zero, ℕ, ◌+◌, ◌-◌, ◌<◌, ◌∙◌, ◌∷◌, ◌≡◌, ◌≤◌}
use Rattle.std.proofs.lemmas.Bool.{cases_eq, cases_lt, eqb-true, false≢true, true≢false}
use Rattle.std.proofs.lemmas.List.{get_or-set_other, get_or-set_same, get_or_past, get_or_read, length-set}
use Rattle.std.proofs.lemmas.List.FromFn.{length-range_with_len}
use Rattle.std.specs.List.{AllByRecursion, list_any, range_with_len}
use Rattle.std.specs.Prelude.{is_some, not, slice_index_or, slice_set, unwrap_or, ◌==◌, ◌⊎◌}
use Rattle.pool_core.specs.TaskLists.{AreApart, AreAsMany, AreOthers, IsPushed, with_task, IsAmong, IsListed, IsOnce, Lists, after_of, chain, is_marked, list_of, no_line}
use Rattle.pool_core.specs.declared.task_lists.TaskLine.{TaskLine}

-- One list.

-- a list that does not have the task is as before where what comes after that changes
chain-set : (n : ℕ) (after : List (Option ℕ)) (first t : ℕ) (o : Option ℕ) → (IsAmong t (chain n after first) → ⊥)
    → chain n (slice_set after t o) first ≡ chain n after first
chain-set zero after first t o none = refl
chain-set (suc n) after first t o none =
    let same : after_of (slice_set after t o) first ≡ after_of after first =
    ap (λ q. unwrap_or q 0) (get_or-set_other after t first o None (λ is. none (inl is))) in
    ap (λ xs. first ∷ xs) (ap (λ k. chain n (slice_set after t o) k) same ∙ chain-set n after (after_of after first) t o (λ among. none (inr among)))

length-chain : (n : ℕ) (after : List (Option ℕ)) (first : ℕ) → length (chain n after first) ≡ n
length-chain zero after first = refl
length-chain (suc n) after first = ap suc (length-chain n after (after_of after first))

-- what is not among some counts for nothing, and what is there once counts at most once
counts_nothing : (t : ℕ) (xs : List ℕ) → (IsAmong t xs → ⊥) → count (λ x. x == t) xs ≡ 0
counts_nothing t [] none = refl
counts_nothing t (x ∷ xs) none = by_test (x == t) refl (counts_nothing t xs (λ among. none (inr among)))
  where
    by_test : (b : Bool) → (x == t) ≡ b → count (λ y. y == t) xs ≡ 0 → count (λ y. y == t) (x ∷ xs) ≡ 0
    by_test true is rest = absurd (none (inl (eqb-true x t is)))
    by_test false is rest = rw is rest

counts_once : (t : ℕ) (xs : List ℕ) → IsOnce xs → count (λ x. x == t) xs ≤ 1
counts_once t [] once = omega arith
counts_once t (x ∷ xs) once = by_test (x == t) refl (counts_once t xs once.1)
  where
    by_test : (b : Bool) → (x == t) ≡ b → count (λ y. y == t) xs ≤ 1 → count (λ y. y == t) (x ∷ xs) ≤ 1
    by_test true is rest =
        let none : count (λ y. y == t) xs ≡ 0 = counts_nothing t xs (subst (λ y. IsAmong y xs → ⊥) (eqb-true x t is) once.0) in
        rw is (omega (arith, none))
    by_test false is rest = rw is rest

-- so there are no more than numbers below what all are below
once_fit : (n : ℕ) (xs : List ℕ) → IsOnce xs → ((t : ℕ) → IsAmong t xs → t < n) → length xs ≤ n
once_fit n xs once below = omega (
  arith,
  length-range_with_len 0 n,
  pigeons_fit (λ p t. p == t) (range_with_len 0 n) xs (λ t. counts_once t xs once) (all xs below),
)
  where
    all : (ys : List ℕ) → ((t : ℕ) → IsAmong t ys → t < n) → AllByRecursion (λ p. list_any (λ t. p == t) (range_with_len 0 n) ≡ true) ys
    all [] less = tt
    all (y ∷ ys) less = (
      range_any_at (λ t. y == t) 0 n y (eqb-same y) (omega arith) (omega (arith, less y (inl refl))),
      all ys (λ t among. less t (inr among)),
    )

-- All lists.

-- a task that is known has a place
marked_there : (after : List (Option ℕ)) (t : ℕ) → is_marked after t → t < length after
marked_there after t marked = elim (cases_lt t (length after)) [
  | inl there ↦ there
  | inr past ↦ absurd (false≢true (ap is_some (sym (get_or_past after t None past)) ∙ marked))
]

-- a list has fewer tasks than there are, where one is in no list
room_left : (lists : Lists) (l t : ℕ) → AreApart lists → t < length lists.after → (IsListed lists l t → ⊥)
    → (slice_index_or lists.lines l no_line).count + 1 ≤ length lists.after
room_left lists l t apart there unlisted =
    let line = slice_index_or lists.lines l no_line in
    omega (
      arith,
      length-chain line.count lists.after line.first,
      once_fit (length lists.after) (t ∷ list_of lists l) (unlisted, apart.once l) below,
    )
  where
    below : (u : ℕ) → IsAmong u (t ∷ list_of lists l) → u < length lists.after
    below u (inl is) = subst (λ k. k < length lists.after) is there
    below u (inr among) = marked_there lists.after u (apart.marked l u among)

-- A task that comes to the front of a list.

-- what comes after each other task is as it was
abbrev AreMarked : Lists → Lists → ℕ → Type 0
AreMarked before now t = (u : ℕ) → (u ≡ t → ⊥) → slice_index_or now.after u None ≡ slice_index_or before.after u None

apart_with : (before now : Lists) (l t : ℕ) → AreApart before → list_of now l ≡ t ∷ list_of before l → AreOthers before now l
    → ((k : ℕ) → IsListed before k t → ⊥) → AreMarked before now t → is_marked now.after t → AreApart now
apart_with before now l t apart own others unlisted marks marked = record {
  once = λ k. elim (cases_eq k l) [
    | inl same ↦ subst IsOnce (sym (ap (list_of now) same ∙ own)) (unlisted l, apart.once l)
    | inr another ↦ subst IsOnce (sym (others k another)) (apart.once k)
  ];
  apart = λ a b u in_a in_b. both a b u (was a u in_a) (was b u in_b);
  marked = λ k u in_k. elim (was k u in_k) [
    | inl new ↦ subst (λ v. is_marked now.after v) new.1 marked
    | inr old ↦ ap is_some (marks u (λ is. unlisted k (subst (IsListed before k) is old))) ∙ apart.marked k u old
  ];
  listed = λ u is. elim (cases_eq u t) [
    | inl same ↦ (l, subst (IsAmong u) (sym own) (inl (sym same)))
    | inr another ↦ let old = apart.listed u (ap is_some (sym (marks u another)) ∙ is) in (old.0, kept old.0 u old.1)
  ];
}
  where
    was : (k u : ℕ) → IsListed now k u → ((k ≡ l) × (t ≡ u)) ⊎ IsListed before k u
    was k u among = elim (cases_eq k l) [
      | inl same ↦ elim (subst (IsAmong u) (ap (list_of now) same ∙ own) among) [
        | inl is ↦ inl (same, is)
        | inr rest ↦ inr (subst (λ n. IsListed before n u) (sym same) rest)
      ]
      | inr another ↦ inr (subst (IsAmong u) (others k another) among)
    ]

    kept : (k u : ℕ) → IsListed before k u → IsListed now k u
    kept k u among = elim (cases_eq k l) [
      | inl same ↦ subst (IsAmong u) (sym (ap (list_of now) same ∙ own)) (inr (subst (λ n. IsListed before n u) same among))
      | inr another ↦ subst (IsAmong u) (sym (others k another)) among
    ]

    both : (a b u : ℕ) → ((a ≡ l) × (t ≡ u)) ⊎ IsListed before a u → ((b ≡ l) × (t ≡ u)) ⊎ IsListed before b u → a ≡ b
    both a b u (inl x) (inl y) = x.0 ∙ sym y.0
    both a b u (inl x) (inr y) = absurd (unlisted b (subst (IsListed before b) (sym x.1) y))
    both a b u (inr x) (inl y) = absurd (unlisted a (subst (IsListed before a) (sym y.1) x))
    both a b u (inr x) (inr y) = apart.apart a b u x y

-- the lists with the task in front of one
abbrev pub pushed : Lists → ℕ → ℕ → TaskLine → Lists
pushed lists l t line = record {
  lines = slice_set lists.lines l (record { first = t; count = line.count + 1 });
  after = slice_set lists.after t (Some line.first);
}

-- what is asked where it is put there
pub record IsPut (lists : Lists) (l t : ℕ) (line : TaskLine) : Type 0 where
  pub apart : AreApart lists
  pub there : l < length lists.lines
  pub known : t < length lists.after
  pub line_is : line ≡ slice_index_or lists.lines l no_line
  pub unmarked : is_some (slice_index_or lists.after t None) ≡ false

not_listed : {lists : Lists} {l t : ℕ} {line : TaskLine} → IsPut lists l t line → (k : ℕ) → IsListed lists k t → ⊥
not_listed {t = t} put k among = true≢false (sym (put.apart.marked k t among) ∙ put.unmarked)

pub put_where : (lists now : Lists) (l t : ℕ) (line : TaskLine) (mark : Option ℕ) (b : Bool) → lists ≡ now → AreApart lists → l < length now.lines
    → t < length now.after → line ≡ slice_index_or lists.lines l line → mark ≡ slice_index_or lists.after t mark → is_some mark ≡ not b → b ≡ true
    → IsPut lists l t line
put_where lists now l t line mark b same apart there known line_is mark_is is new = record {
  apart = apart;
  there = in_lines;
  known = in_after;
  line_is = get_or_read lists.lines l line in_lines line_is no_line;
  unmarked = ap is_some (sym (get_or_read lists.after t mark in_after mark_is None)) ∙ is ∙ ap not new;
}
  where
    in_lines : l < length lists.lines
    in_lines = rw same there

    in_after : t < length lists.after
    in_after = rw same known

-- so they are as they are with the task
pub with_new : {lists now : Lists} {l t : ℕ} {line : TaskLine} → lists ≡ now → IsPut lists l t line → pushed lists l t line ≡ with_task now l t
with_new {lists = lists} {l = l} {t = t} same put = rw (← same, put.unmarked, put.line_is) refl

pub with_old : (lists now : Lists) (l t : ℕ) (mark : Option ℕ) (b : Bool) → lists ≡ now → t < length now.after
    → mark ≡ slice_index_or lists.after t mark → is_some mark ≡ not b → b ≡ false → now ≡ with_task now l t
with_old lists now l t mark b same known mark_is is old = rw (← same, ← get_or_read lists.after t mark in_after mark_is None, is, old) refl
  where
    in_after : t < length lists.after
    in_after = rw same known

pub fits : {lists : Lists} {l t : ℕ} {line : TaskLine} → IsPut lists l t line → line.count + 1 ≤ length lists.after
fits {lists = lists} {l = l} {t = t} put = rw put.line_is (room_left lists l t put.apart put.known (not_listed put l))

own_pushed : {lists : Lists} {l t : ℕ} {line : TaskLine} → IsPut lists l t line → list_of (pushed lists l t line) l ≡ t ∷ list_of lists l
own_pushed {lists = lists} {l = l} {t = t} {line = line} put =
    let later = slice_set lists.after t (Some line.first) in
    let more : line.count + 1 ≡ suc line.count = omega arith in
    let leads : after_of later t ≡ line.first = ap (λ q. unwrap_or q 0) (get_or-set_same lists.after t (Some line.first) None put.known) in
    let own : chain line.count lists.after line.first ≡ list_of lists l = ap (λ (q : TaskLine). chain q.count lists.after q.first) put.line_is in
    ap (λ (q : TaskLine). chain q.count later q.first) (get_or-set_same lists.lines l (record { first = t; count = line.count + 1 }) no_line put.there)
    ∙ ap (λ n. chain n later t) more
    ∙ ap (λ xs. t ∷ xs) (ap (chain line.count later) leads
    ∙ chain-set line.count lists.after line.first t (Some line.first) (λ among. not_listed put l (subst (IsAmong t) own among)) ∙ own)

others_pushed : {lists : Lists} {l t : ℕ} {line : TaskLine} → IsPut lists l t line → AreOthers lists (pushed lists l t line) l
others_pushed {lists = lists} {l = l} {t = t} {line = line} put k another =
    ap (λ (q : TaskLine). chain q.count (slice_set lists.after t (Some line.first)) q.first)
    (get_or-set_other lists.lines l k (record { first = t; count = line.count + 1 }) no_line another)
    ∙ chain-set (slice_index_or lists.lines k no_line).count lists.after (slice_index_or lists.lines k no_line).first t (Some line.first) (not_listed put k)

pub apart_pushed : {lists : Lists} {l t : ℕ} {line : TaskLine} → IsPut lists l t line → AreApart (pushed lists l t line)
apart_pushed {lists = lists} {l = l} {t = t} {line = line} put = apart_with lists (pushed lists l t line) l t put.apart (own_pushed put) (others_pushed put)
    (not_listed put) (λ u another. get_or-set_other lists.after t u (Some line.first) None another)
    (ap is_some (get_or-set_same lists.after t (Some line.first) None put.known))

-- in either case
pub with_task_is : (lists : Lists) (l t : ℕ) → AreApart lists → l < length lists.lines → t < length lists.after
    → IsPushed lists (with_task lists l t) l t × AreApart (with_task lists l t) × AreAsMany (with_task lists l t) lists
with_task_is lists l t apart there known = by_mark (is_some (slice_index_or lists.after t None)) refl
  where
    line : TaskLine
    line = slice_index_or lists.lines l no_line

    by_mark : (b : Bool) → is_some (slice_index_or lists.after t None) ≡ b
        → IsPushed lists (cond b lists (pushed lists l t line)) l t × AreApart (cond b lists (pushed lists l t line))
        × AreAsMany (cond b lists (pushed lists l t line)) lists
    by_mark true marked = let old = apart.listed t marked in (inr (refl, old.0, old.1), apart, record { lists = refl; tasks = refl })
    by_mark false unmarked =
        let put : IsPut lists l t line = record { apart = apart; there = there; known = known; line_is = refl; unmarked = unmarked } in (
          inl (own_pushed put, others_pushed put),
          apart_pushed put,
          record { lists = length-set lists.lines l _; tasks = length-set lists.after t _ },
        )

-- The first task of a list, which goes.

apart_without : (before now : Lists) (l t : ℕ) → AreApart before → list_of before l ≡ t ∷ list_of now l → AreOthers before now l
    → AreMarked before now t → slice_index_or now.after t None ≡ None → AreApart now
apart_without before now l t apart own others marks unmarked = record {
  once = λ k. elim (cases_eq k l) [
    | inl same ↦ subst (λ n. IsOnce (list_of now n)) (sym same) (subst IsOnce own (apart.once l)).1
    | inr another ↦ subst IsOnce (sym (others k another)) (apart.once k)
  ];
  apart = λ a b u in_a in_b. apart.apart a b u (was a u in_a) (was b u in_b);
  marked = λ k u in_k. ap is_some (marks u (λ is. gone k (subst (IsListed now k) is in_k))) ∙ apart.marked k u (was k u in_k);
  listed = λ u is. elim (cases_eq u t) [
    | inl same ↦ absurd (false≢true (ap is_some (sym unmarked) ∙ subst (is_marked now.after) same is))
    | inr another ↦ let old = apart.listed u (ap is_some (sym (marks u another)) ∙ is) in (old.0, kept old.0 u another old.1)
  ];
}
  where
    was : (k u : ℕ) → IsListed now k u → IsListed before k u
    was k u among = elim (cases_eq k l) [
      | inl same ↦ subst (λ n. IsListed before n u) (sym same) (subst (IsAmong u) (sym own) (inr (subst (λ n. IsListed now n u) same among)))
      | inr another ↦ subst (IsAmong u) (others k another) among
    ]

    kept : (k u : ℕ) → (u ≡ t → ⊥) → IsListed before k u → IsListed now k u
    kept k u other among = elim (cases_eq k l) [
      | inl same ↦ elim (subst (IsAmong u) own (subst (λ n. IsListed before n u) same among)) [
        | inl is ↦ absurd (other (sym is))
        | inr rest ↦ subst (λ n. IsListed now n u) (sym same) rest
      ]
      | inr another ↦ subst (IsAmong u) (sym (others k another)) among
    ]

    gone : (k : ℕ) → IsListed now k t → ⊥
    gone k among = elim (cases_eq k l) [
      | inl same ↦ (subst IsOnce own (apart.once l)).0 (subst (λ n. IsListed now n t) same among)
      | inr another ↦ another (apart.apart k l t (was k t among) (subst (IsAmong t) (sym own) (inl refl)))
    ]

-- the lists without the first task of one
abbrev pub popped : Lists → ℕ → TaskLine → Lists
popped lists l line = record {
  lines = slice_set lists.lines l (record { first = after_of lists.after line.first; count = line.count - 1 });
  after = slice_set lists.after line.first None;
}

-- what is asked where it is taken out
pub record IsTakenFrom (lists : Lists) (l : ℕ) (line : TaskLine) : Type 0 where
  pub apart : AreApart lists
  pub there : l < length lists.lines
  pub line_is : line ≡ slice_index_or lists.lines l no_line
  pub some : 0 < line.count

pub taken_where : (lists now : Lists) (l : ℕ) (line : TaskLine) → lists ≡ now → AreApart lists → l < length now.lines
    → line ≡ slice_index_or lists.lines l line → 0 < line.count → IsTakenFrom lists l line
taken_where lists now l line same apart there line_is some = record {
  apart = apart;
  there = in_lines;
  line_is = get_or_read lists.lines l line in_lines line_is no_line;
  some = some;
}
  where
    in_lines : l < length lists.lines
    in_lines = rw same there

-- the first one, and what comes after it
split : {lists : Lists} {l : ℕ} {line : TaskLine} → IsTakenFrom lists l line
    → list_of lists l ≡ line.first ∷ chain (line.count - 1) lists.after (after_of lists.after line.first)
split {lists = lists} {line = line} taken =
    let some : 0 < line.count = taken.some in
    let more : line.count ≡ suc (line.count - 1) = omega (arith, some) in
    ap (λ (q : TaskLine). chain q.count lists.after q.first) (sym taken.line_is) ∙ ap (λ n. chain n lists.after line.first) more

pub first_there : {lists : Lists} {l : ℕ} {line : TaskLine} → IsTakenFrom lists l line → line.first < length lists.after
first_there {lists = lists} {l = l} {line = line} taken =
    marked_there lists.after line.first (taken.apart.marked l line.first (subst (IsAmong line.first) (sym (split taken)) (inl refl)))

pub own_popped : {lists : Lists} {l : ℕ} {line : TaskLine} → IsTakenFrom lists l line → list_of lists l ≡ line.first ∷ list_of (popped lists l line) l
own_popped {lists = lists} {l = l} {line = line} taken =
    let first = after_of lists.after line.first in
    split taken ∙ ap (λ xs. line.first ∷ xs)
    (sym (ap (λ (q : TaskLine). chain q.count (slice_set lists.after line.first None) q.first)
    (get_or-set_same lists.lines l (record { first = first; count = line.count - 1 }) no_line taken.there)
    ∙ chain-set (line.count - 1) lists.after first line.first None (subst IsOnce (split taken) (taken.apart.once l)).0))

pub others_popped : {lists : Lists} {l : ℕ} {line : TaskLine} → IsTakenFrom lists l line → AreOthers lists (popped lists l line) l
others_popped {lists = lists} {l = l} {line = line} taken k another =
    let q = slice_index_or lists.lines k no_line in
    ap (λ (q : TaskLine). chain q.count (slice_set lists.after line.first None) q.first)
    (get_or-set_other lists.lines l k (record { first = after_of lists.after line.first; count = line.count - 1 }) no_line another)
    ∙ chain-set q.count lists.after q.first line.first None
    (λ among. another (taken.apart.apart k l line.first among (subst (IsAmong line.first) (sym (split taken)) (inl refl))))

pub apart_popped : {lists : Lists} {l : ℕ} {line : TaskLine} → IsTakenFrom lists l line → AreApart (popped lists l line)
apart_popped {lists = lists} {l = l} {line = line} taken = apart_without lists (popped lists l line) l line.first taken.apart (own_popped taken)
    (others_popped taken) (λ u another. get_or-set_other lists.after line.first u None None another)
    (get_or-set_same lists.after line.first None None (first_there taken))

-- lists without tasks, none of which is known
pub apart_empty : (lists : Lists) → ((l : ℕ) → list_of lists l ≡ []) → ((t : ℕ) → slice_index_or lists.after t None ≡ None) → AreApart lists
apart_empty lists empty unmarked = record {
  once = λ l. subst IsOnce (sym (empty l)) tt;
  apart = λ a b t in_a in_b. absurd (subst (IsAmong t) (empty a) in_a);
  marked = λ l t among. absurd (subst (IsAmong t) (empty l) among);
  listed = λ t marked. absurd (false≢true (ap is_some (sym (unmarked t)) ∙ marked));
}
