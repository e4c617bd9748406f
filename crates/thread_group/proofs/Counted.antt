-- The counts where one seat's work changes, and at a later moment.
-- Cited by `Group::may_start`, `Group::put`, `at_moment`.
use Rattle.std.proofs.Common.{◌≡◌, ℕ, zero, suc, ◌+◌, ◌≤◌, ◌<◌, ◌^◌, Bool, true, false, cond, List, [], ◌∷◌, ◌++◌, length}
use Rattle.std.proofs.Common.{get_or, set, take, drop, refl, sym, ap, ◌∙◌, Option, Some, None, arith, subst}
use Rattle.std.specs.Prelude.{is_some, not, ◌&&◌, ◌||◌, nat_lt}
use Rattle.std.proofs.lemmas.Bool.{leb-true, le-leb, not-false}
use Rattle.std.proofs.lemmas.List.{take_more, drop_more, take-append-drop, length-append, length-drop}
use Rattle.list_laws.specs.Lists.{count, holds_of}
use Rattle.list_laws.proofs.Counts.{count-set, count-cons, count_step, count-append, count_le}
use Rattle.task_base.specs.Groups.{has_come, is_best_effort}
use Rattle.task_base.specs.declared.step.Scope.{Scope}
use Rattle.task_base.specs.declared.step.Scope.TheVariants.{May, Will}
use Rattle.thread_group.specs.declared.work.Work.{Work}
use Rattle.thread_group.specs.declared.work.OpenScope.{OpenScope}
use Rattle.thread_group.specs.declared.counts.Counts.{Counts}
use Rattle.thread_group.specs.Work.{scope_counts, is_best, is_blocked, is_best_blocked, is_waiting}
use Rattle.thread_group.specs.Group.{has_room}
use Rattle.task_traits.specs.declared.traits.Priority.{Priority}
use Rattle.thread_group.specs.Counts.{AreCounts, IsWithin, HaveRoom, AreMoved}

-- one element counts no more than all
count_one : {A : Type 0} (p : A → Bool) (xs : List A) (i : ℕ) (d x : A) → i < length xs → x ≡ get_or xs i d → count p (x ∷ []) ≤ count p xs
count_one p [] i d x less is = absurd (omega (arith, less))
count_one p (z ∷ zs) zero d x less is = omega (arith, ap (λ w. count p (w ∷ [])) is, count-cons p z zs, count-cons p z [])
count_one p (z ∷ zs) (suc i) d x less is = omega (arith, count_one p zs i d x (omega (arith, less)) is, count-cons p z zs)

-- what a seat adds is counted
pub within_at : (threshold now : ℕ) (seats : List (Option Work)) (i : ℕ) (d x : Option Work) (counts was : Counts) → i < length seats → x ≡ get_or seats i d
    → AreCounts threshold now seats counts → AreCounts threshold now (x ∷ []) was → IsWithin was counts
within_at threshold now seats i d x counts was less is all one = record {
  running = omega (arith, all.running, one.running, count_one is_some seats i d x less is);
  best_running = omega (arith, all.best_running, one.best_running, count_one (holds_of is_best) seats i d x less is);
  blocked = omega (arith, all.blocked, one.blocked, count_one (holds_of (is_blocked threshold now)) seats i d x less is);
  best_blocked = omega (arith, all.best_blocked, one.best_blocked, count_one (holds_of (is_best_blocked threshold now)) seats i d x less is);
  waiting = omega (arith, all.waiting, one.waiting, count_one (holds_of (is_waiting threshold now)) seats i d x less is);
}

-- the seats are too few to pass the end of the numbers
pub room_for : (threshold now : ℕ) (seats xs : List (Option Work)) (counts is : Counts) → length seats < 2 ^ 31 → length xs < 2 ^ 31
    → AreCounts threshold now seats counts → AreCounts threshold now xs is → HaveRoom counts is
room_for threshold now seats xs counts is few fewer all more = record {
  running = omega (arith, all.running, more.running, count_le is_some seats, count_le is_some xs);
  best_running = omega (arith, all.best_running, more.best_running, count_le (holds_of is_best) seats, count_le (holds_of is_best) xs);
  blocked = omega (
    arith,
    all.blocked,
    more.blocked,
    count_le (holds_of (is_blocked threshold now)) seats,
    count_le (holds_of (is_blocked threshold now)) xs,
  );
  best_blocked = omega (
    arith,
    all.best_blocked,
    more.best_blocked,
    count_le (holds_of (is_best_blocked threshold now)) seats,
    count_le (holds_of (is_best_blocked threshold now)) xs,
  );
  waiting = omega (
    arith,
    all.waiting,
    more.waiting,
    count_le (holds_of (is_waiting threshold now)) seats,
    count_le (holds_of (is_waiting threshold now)) xs,
  );
}

-- one seat's work changes
pub counts-set : (threshold now : ℕ) (seats : List (Option Work)) (i : ℕ) (d x y : Option Work) (old new was is : Counts) → i < length seats
    → x ≡ get_or seats i d → AreCounts threshold now seats old → AreCounts threshold now (x ∷ []) was → AreCounts threshold now (y ∷ []) is
    → AreMoved old new was is → AreCounts threshold now (set seats i y) new
counts-set threshold now seats i d x y old new was is less at all one other moved = record {
  running = omega (arith, all.running, one.running, other.running, moved.running, count-set is_some seats i d x y less at);
  best_running = omega (
    arith,
    all.best_running,
    one.best_running,
    other.best_running,
    moved.best_running,
    count-set (holds_of is_best) seats i d x y less at,
  );
  blocked = omega (
    arith,
    all.blocked,
    one.blocked,
    other.blocked,
    moved.blocked,
    count-set (holds_of (is_blocked threshold now)) seats i d x y less at,
  );
  best_blocked = omega (
    arith,
    all.best_blocked,
    one.best_blocked,
    other.best_blocked,
    moved.best_blocked,
    count-set (holds_of (is_best_blocked threshold now)) seats i d x y less at,
  );
  waiting = omega (
    arith,
    all.waiting,
    one.waiting,
    other.waiting,
    moved.waiting,
    count-set (holds_of (is_waiting threshold now)) seats i d x y less at,
  );
}

-- each number counts the front as it is at a later moment, and the back as it is at an earlier one
pub record AreCountsOf (threshold before now : ℕ) (front back : List (Option Work)) (counts : Counts) : Type 0 where
  pub running : counts.running ≡ count is_some front + count is_some back
  pub best_running : counts.best_running ≡ count (holds_of is_best) front + count (holds_of is_best) back
  pub blocked : counts.blocked ≡ count (holds_of (is_blocked threshold now)) front + count (holds_of (is_blocked threshold before)) back
  pub best_blocked : counts.best_blocked ≡ count (holds_of (is_best_blocked threshold now)) front + count (holds_of (is_best_blocked threshold before)) back
  pub waiting : counts.waiting ≡ count (holds_of (is_waiting threshold now)) front + count (holds_of (is_waiting threshold before)) back

-- two tests of which the one looks at the front, the other at the back
step : {A : Type 0} (p q : A → Bool) (front back : List A) (x : A) (old new was is : ℕ) → old ≡ count p front + count q (x ∷ back)
    → was ≡ count q (x ∷ []) → is ≡ count p (x ∷ []) → new + was ≡ old + is → new ≡ count p (front ++ x ∷ []) + count q back
step p q front back x old new was is all one other moved = omega (
  arith,
  all,
  one,
  other,
  moved,
  count-append p front (x ∷ []),
  count-cons q x back,
  count-cons q x [],
)

-- what the next seat adds is counted
within_next : (threshold before now : ℕ) (front back : List (Option Work)) (x : Option Work) (counts was : Counts)
    → AreCountsOf threshold before now front (x ∷ back) counts → AreCounts threshold before (x ∷ []) was → IsWithin was counts
within_next threshold before now front back x counts was all one = record {
  running = omega (arith, all.running, one.running, count-cons is_some x back, count-cons is_some x []);
  best_running = omega (arith, all.best_running, one.best_running, count-cons (holds_of is_best) x back, count-cons (holds_of is_best) x []);
  blocked = omega (
    arith,
    all.blocked,
    one.blocked,
    count-cons (holds_of (is_blocked threshold before)) x back,
    count-cons (holds_of (is_blocked threshold before)) x [],
  );
  best_blocked = omega (
    arith,
    all.best_blocked,
    one.best_blocked,
    count-cons (holds_of (is_best_blocked threshold before)) x back,
    count-cons (holds_of (is_best_blocked threshold before)) x [],
  );
  waiting = omega (
    arith,
    all.waiting,
    one.waiting,
    count-cons (holds_of (is_waiting threshold before)) x back,
    count-cons (holds_of (is_waiting threshold before)) x [],
  );
}

-- one seat more is looked at
counts_next : (threshold before now : ℕ) (front back : List (Option Work)) (x : Option Work) (old new was is : Counts)
    → AreCountsOf threshold before now front (x ∷ back) old → AreCounts threshold before (x ∷ []) was → AreCounts threshold now (x ∷ []) is
    → AreMoved old new was is → AreCountsOf threshold before now (front ++ x ∷ []) back new
counts_next threshold before now front back x old new was is all one other moved = record {
  running = step is_some is_some front back x _ _ _ _ all.running one.running other.running moved.running;
  best_running = step (holds_of is_best) (holds_of is_best) front back x _ _ _ _ all.best_running one.best_running other.best_running moved.best_running;
  blocked = step (holds_of (is_blocked threshold now)) (holds_of (is_blocked threshold before)) front back x _ _ _ _
      all.blocked one.blocked other.blocked moved.blocked;
  best_blocked = step (holds_of (is_best_blocked threshold now)) (holds_of (is_best_blocked threshold before)) front back x _ _ _ _
      all.best_blocked one.best_blocked other.best_blocked moved.best_blocked;
  waiting = step (holds_of (is_waiting threshold now)) (holds_of (is_waiting threshold before)) front back x _ _ _ _
      all.waiting one.waiting other.waiting moved.waiting;
}

-- the counts of the seats, of which the first i have been looked at
abbrev pub AreCountsAt : ℕ → ℕ → ℕ → List (Option Work) → ℕ → Counts → Type 0
AreCountsAt threshold before now seats i counts = AreCountsOf threshold before now (take i seats) (drop i seats) counts

pub within_at_step : (threshold before now : ℕ) (seats : List (Option Work)) (i : ℕ) (counts was : Counts) → i < length seats
    → AreCountsAt threshold before now seats i counts → AreCounts threshold before (get_or seats i None ∷ []) was → IsWithin was counts
within_at_step threshold before now seats i counts was less all one =
    within_next threshold before now (take i seats) (drop (i + 1) seats) (get_or seats i None) counts was (rw (drop_more seats i None less) at all) one

pub counts_step : (threshold before now : ℕ) (seats : List (Option Work)) (i : ℕ) (old new was is : Counts) → i < length seats
    → AreCountsAt threshold before now seats i old → AreCounts threshold before (get_or seats i None ∷ []) was
    → AreCounts threshold now (get_or seats i None ∷ []) is → AreMoved old new was is → AreCountsAt threshold before now seats (i + 1) new
counts_step threshold before now seats i old new was is less all one other moved = rw (take_more seats i None less)
    (counts_next threshold before now (take i seats) (drop (i + 1) seats) (get_or seats i None) old new was is
    (rw (drop_more seats i None less) at all) one other moved)

-- the seats left that wait
pub waiting_step : (threshold before : ℕ) (seats : List (Option Work)) (i waiting : ℕ) (was : Counts) → i < length seats
    → waiting ≡ count (holds_of (is_waiting threshold before)) (drop i seats) → AreCounts threshold before (get_or seats i None ∷ []) was
    → waiting ≡ was.waiting + count (holds_of (is_waiting threshold before)) (drop (i + 1) seats)
waiting_step threshold before seats i waiting was less left one =
    let cut : waiting ≡ count (holds_of (is_waiting threshold before)) (get_or seats i None ∷ drop (i + 1) seats) = rw (drop_more seats i None less) at left in
    omega (
      arith,
      cut,
      one.waiting,
      count-cons (holds_of (is_waiting threshold before)) (get_or seats i None) (drop (i + 1) seats),
      count-cons (holds_of (is_waiting threshold before)) (get_or seats i None) [],
    )

-- the seats are too few to pass the end of the numbers
pub room_at_step : (threshold before now : ℕ) (seats : List (Option Work)) (i : ℕ) (x : Option Work) (counts is : Counts) → length seats < 2 ^ 31
    → AreCountsAt threshold before now seats i counts → AreCounts threshold now (x ∷ []) is → HaveRoom counts is
room_at_step threshold before now seats i x counts is few all one = record {
  running = omega (arith, all.running, one.running, bound is_some is_some);
  best_running = omega (arith, all.best_running, one.best_running, bound (holds_of is_best) (holds_of is_best));
  blocked = omega (arith, all.blocked, one.blocked, bound (holds_of (is_blocked threshold now)) (holds_of (is_blocked threshold before)));
  best_blocked = omega (
    arith,
    all.best_blocked,
    one.best_blocked,
    bound (holds_of (is_best_blocked threshold now)) (holds_of (is_best_blocked threshold before)),
  );
  waiting = omega (arith, all.waiting, one.waiting, bound (holds_of (is_waiting threshold now)) (holds_of (is_waiting threshold before)));
}
  where
    bound : (p q : Option Work → Bool) → count p (take i seats) + count q (drop i seats) + count p (x ∷ []) < 2 ^ 32
    bound p q = omega (
      arith,
      few,
      count_le p (take i seats),
      count_le q (drop i seats),
      count_le p (x ∷ []),
      sym (length-append (take i seats) (drop i seats)) ∙ ap length (take-append-drop i seats),
    )

pub counts_start : (threshold before now : ℕ) (seats : List (Option Work)) (counts : Counts) → AreCounts threshold before seats counts
    → AreCountsAt threshold before now seats 0 counts
counts_start threshold before now seats counts all = record {
  running = omega (arith, all.running);
  best_running = omega (arith, all.best_running);
  blocked = omega (arith, all.blocked);
  best_blocked = omega (arith, all.best_blocked);
  waiting = omega (arith, all.waiting);
}

-- a scope that counts at a moment counts at each later one
come_later : (scope : Scope) (due before now : ℕ) → before ≤ now → has_come scope due before ≡ true → has_come scope due now ≡ true
come_later Will due before now later come = refl
come_later May due before now later come = le-leb due now (omega (arith, leb-true due before come, later))

-- two tests that say the same of one element more
count-same : {A : Type 0} (p q : A → Bool) (x : A) (xs : List A) → p x ≡ q x → count p xs ≡ count q xs → count p (x ∷ xs) ≡ count q (x ∷ xs)
count-same p q x xs here rest =
    count-cons p x xs ∙ ap (λ b. count p xs + cond b 1 0) here ∙ ap (λ n. n + cond (q x) 1 0) rest ∙ sym (count-cons q x xs)

-- work that does not wait is blocked later just where it is now, and does not wait later
same_later : (threshold before now : ℕ) (x : Option Work) → before ≤ now → holds_of (is_waiting threshold before) x ≡ false
    → (holds_of (is_blocked threshold now) x ≡ holds_of (is_blocked threshold before) x)
    × (holds_of (is_best_blocked threshold now) x ≡ holds_of (is_best_blocked threshold before) x)
    × (holds_of (is_waiting threshold now) x ≡ false)
same_later threshold before now None later not_waiting = (refl, refl, refl)
same_later threshold before now (Some work) later not_waiting = by_scope work.scope not_waiting
  where
    by_scope : (scope : Option OpenScope) → holds_of (λ opened. not (scope_counts threshold before opened)) scope ≡ false
        → (holds_of (scope_counts threshold now) scope ≡ holds_of (scope_counts threshold before) scope)
        × ((is_best work && holds_of (scope_counts threshold now) scope) ≡ (is_best work && holds_of (scope_counts threshold before) scope))
        × (holds_of (λ opened. not (scope_counts threshold now opened)) scope ≡ false)
    by_scope None is = (refl, refl, refl)
    by_scope (Some opened) is =
        let come : scope_counts threshold before opened ≡ true = not-false (scope_counts threshold before opened) is in
        let comes : scope_counts threshold now opened ≡ true = come_later opened.scope (opened.since + threshold) before now later come in
        (comes ∙ sym come, ap (λ b. is_best work && b) (comes ∙ sym come), ap not comes)

-- seats of which none waits: what the tests say of them stays
pub none_waiting : (threshold before now : ℕ) (xs : List (Option Work)) → before ≤ now → count (holds_of (is_waiting threshold before)) xs ≡ 0
    → (count (holds_of (is_blocked threshold now)) xs ≡ count (holds_of (is_blocked threshold before)) xs)
    × (count (holds_of (is_best_blocked threshold now)) xs ≡ count (holds_of (is_best_blocked threshold before)) xs)
    × (count (holds_of (is_waiting threshold now)) xs ≡ 0)
none_waiting threshold before now [] later none = (refl, refl, refl)
none_waiting threshold before now (x ∷ xs) later none =
    by_test (holds_of (is_waiting threshold before) x) refl (none_waiting threshold before now xs later)
  where
    by_test : (b : Bool) → holds_of (is_waiting threshold before) x ≡ b
        → (count (holds_of (is_waiting threshold before)) xs ≡ 0
        → (count (holds_of (is_blocked threshold now)) xs ≡ count (holds_of (is_blocked threshold before)) xs)
        × (count (holds_of (is_best_blocked threshold now)) xs ≡ count (holds_of (is_best_blocked threshold before)) xs)
        × (count (holds_of (is_waiting threshold now)) xs ≡ 0))
        → (count (holds_of (is_blocked threshold now)) (x ∷ xs) ≡ count (holds_of (is_blocked threshold before)) (x ∷ xs))
        × (count (holds_of (is_best_blocked threshold now)) (x ∷ xs) ≡ count (holds_of (is_best_blocked threshold before)) (x ∷ xs))
        × (count (holds_of (is_waiting threshold now)) (x ∷ xs) ≡ 0)
    by_test true is behind = absurd (omega (arith, none, count_step (holds_of (is_waiting threshold before)) x xs true is))
    by_test false is behind =
        let rest = behind (sym (count_step (holds_of (is_waiting threshold before)) x xs false is) ∙ none) in
        let here = same_later threshold before now x later is in (
          count-same (holds_of (is_blocked threshold now)) (holds_of (is_blocked threshold before)) x xs here.0 rest.0,
          count-same (holds_of (is_best_blocked threshold now)) (holds_of (is_best_blocked threshold before)) x xs here.1 rest.1,
          count_step (holds_of (is_waiting threshold now)) x xs false here.2 ∙ rest.2,
        )

-- the rest waits for nothing
pub counts_end : (threshold before now : ℕ) (front back : List (Option Work)) (counts : Counts) → before ≤ now
    → count (holds_of (is_waiting threshold before)) back ≡ 0 → AreCountsOf threshold before now front back counts
    → AreCounts threshold now (front ++ back) counts
counts_end threshold before now front back counts later none all =
    let same = none_waiting threshold before now back later none in record {
      running = all.running ∙ sym (count-append is_some front back);
      best_running = all.best_running ∙ sym (count-append (holds_of is_best) front back);
      blocked = omega (arith, all.blocked, same.0, count-append (holds_of (is_blocked threshold now)) front back);
      best_blocked = omega (arith, all.best_blocked, same.1, count-append (holds_of (is_best_blocked threshold now)) front back);
      waiting = omega (arith, all.waiting, none, same.2, count-append (holds_of (is_waiting threshold now)) front back);
    }

pub counts_end_at : (threshold before now : ℕ) (seats : List (Option Work)) (i waiting : ℕ) (counts : Counts) → before ≤ now
    → waiting ≡ count (holds_of (is_waiting threshold before)) (drop i seats) → waiting ≡ 0 → AreCountsAt threshold before now seats i counts
    → AreCounts threshold now seats counts
counts_end_at threshold before now seats i waiting counts later left none all =
    subst (λ xs. AreCounts threshold now xs counts) (take-append-drop i seats)
    (counts_end threshold before now (take i seats) (drop i seats) counts later (sym left ∙ none) all)

-- all seats have been looked at
pub none_left : (test : Option Work → Bool) (seats : List (Option Work)) (i waiting : ℕ) → length seats ≤ i → waiting ≡ count test (drop i seats) → waiting ≡ 0
none_left test seats i waiting past left = omega (arith, past, left, count_le test (drop i seats), length-drop i seats)

-- whether there is room, by the counts
pub has_room_by_counts : (limit best_limit threshold moment : ℕ) (seats : List (Option Work)) (counts : Counts) (priority : Priority)
    → AreCounts threshold moment seats counts
    → has_room (record { seats = seats; limit = limit; best_limit = best_limit; threshold = threshold; moment = moment }) priority
    ≡ (nat_lt counts.running (limit + counts.blocked)
    && (not (is_best_effort priority) || nat_lt counts.best_running (best_limit + counts.best_blocked)))
has_room_by_counts limit best_limit threshold moment seats counts priority all =
    rw (all.running, all.best_running, all.blocked, all.best_blocked) refl
