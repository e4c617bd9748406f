-- The steps of a search: where it stands after an event is placed, passed by or taken off, and what it may answer.
-- Cited by `Walk::back`, `Walk::is_order`, `Walk::try_head`, `go_on`, `search`, `follow_anew`, `Merged`, `Tried`, `Turned`.
use Rattle.std.proofs.Common.{◌≡◌, ℕ, ◌+◌, ◌-◌, ◌^◌, ◌<◌, ◌≤◌, Bool, true, false, eqb, List, [], ◌∷◌, ◌++◌, length, drop, take, get_or, set, refl, sym, ap, subst, ◌∙◌, append_assoc, inl, inr, arith}
use Rattle.std.specs.Prelude.{◌⊎◌, IsTrue, nat_le, reverse}
use Rattle.std.specs.List.{list_all, list_any}
use Rattle.std.proofs.lemmas.Bool.{cases_eq, cases_lt, leb-true, le-leb, ne_eqb, not_from_false, true_from_ne_false, true≢false}
use Rattle.std.proofs.lemmas.List.{append_cancel_left, drop_all, get_or-set_other, get_or-set_same, get_or_default, get_or_past, length-append, length-drop, length-map, length-set, length-take-le, map-append, map_push, reverse-append, set-get_or, set-set, take-append-drop, take_more}
use Rattle.std.proofs.lemmas.List.Elements.{recursion_from_All}
use Rattle.std.proofs.lemmas.List.Folds.{list_all_at}
use Rattle.list_laws.proofs.Tests.{list_all-from_recursion}
use Rattle.list_laws.proofs.Elements.{AllByRecursion-from_index, AllByRecursion-map, push_induction}
use Rattle.list_laws.proofs.Filters.{filter_none}
use Rattle.task_base.specs.Plan.{Plan}
use Rattle.hist_model.specs.Allowed.{is_allowed}
use Rattle.hist_model.specs.Legal.{IsLegal}
use Rattle.hist_model.proofs.Laws.Legal.{each_is_allowed, front_is_legal, legal_next}
use Rattle.order_model.specs.declared.event.Event.{Event}
use Rattle.order_model.specs.Orders.{IsBeginning, IsOrder, entries_of, is_ended, in_time, is_before, may_precede, own_events}
use Rattle.order_search.specs.Places.{IsAt}
use Rattle.order_search.specs.Seats.{earliest}
use Rattle.order_search.specs.Walk.{AllTried, AreLeft, AreTried, IsDead, IsPlaced, IsRuledOut, IsTask, Stands, Task, events_in, events_under}
use Rattle.order_search.specs.Following.{Follows, GoesOn}
use Rattle.order_search.specs.Search.{IsNext, IsWalkAt, Known}
use Rattle.order_search.specs.declared.follower.Follower.{Follower}
use Rattle.order_search.specs.declared.placed.Placed.{Placed}
use Rattle.order_search.proofs.Places.{at_index, at_within}
use Rattle.order_search.proofs.Own.{in_time_push, none_own, own_of_other, own_of_seat}
use Rattle.order_search.proofs.Times.{none_over}
use Rattle.order_search.proofs.Shares.{few_of_each}
use Rattle.order_search.proofs.Linked.{soonest_at}
use Rattle.order_search.proofs.Ruled.{AreLater, IsParted, dead, longer_ruled_out, parted, parted_next, ruled_out_more, tried_back}

-- ---- the path and the stack

-- the last one that is placed comes first
pub reverse_push : {A : Type 0} (xs : List A) (x : A) → reverse (xs ++ x ∷ []) ≡ x ∷ reverse xs
reverse_push xs x = reverse-append xs (x ∷ [])

-- the events are the same
pub same_events : (path : List Placed) → events_under (reverse path) ≡ events_in path
same_events = push_induction (λ path. events_under (reverse path) ≡ events_in path) refl
    (λ path placed same. ap events_under (reverse_push path placed) ∙ ap (λ l. l ++ placed.event ∷ []) same
    ∙ sym (map_push (λ (p : Placed). p.event) path placed))

-- ---- where nothing longer is found yet

-- what is tried stays so where the longest one that was given up grows
pub tried_more : (task : Task) (shorter longer : ℕ) (events : List Event) (heads : List ℕ) (start : ℕ) → shorter ≤ longer
    → AreTried task shorter events heads start → AreTried task longer events heads start
tried_more task shorter longer events heads start more tried seat within early e on same =
    ruled_out_more task shorter longer (events ++ e ∷ on) more (tried seat within early e on same)

stands_more : (task : Task) (shorter longer : ℕ) → shorter ≤ longer → (stack : List Placed) (heads : List ℕ) → Stands task shorter stack heads
    → Stands task longer stack heads
stands_more task shorter longer more [] heads stands = stands
stands_more task shorter longer more (placed ∷ below) heads stands = record {
  before = stands.before;
  stood = stands_more task shorter longer more below stands.before stands.stood;
  at = stands.at;
  within = stands.within;
  head = stands.head;
  moved = stands.moved;
  times = stands.times;
  tried = tried_more task shorter longer (events_under below) stands.before placed.index more stands.tried;
}

-- the search stands where it stood
pub walk_more : (task : Task) (shorter longer : ℕ) (heads : List ℕ) (path : List Placed) (start : ℕ) (follower : Follower) → shorter ≤ longer
    → IsWalkAt (record { task = task; longest = shorter }) heads path start follower
    → IsWalkAt (record { task = task; longest = longer }) heads path start follower
walk_more task shorter longer heads path start follower more walk = record {
  is = walk.is;
  stands = stands_more task shorter longer more (reverse path) heads walk.stands;
  tried = tried_more task shorter longer (events_in path) heads start more walk.tried;
  legal = walk.legal;
  follows = walk.follows;
}

-- ---- what is placed is a beginning

-- its times are right
times_here : (task : Task) (longest : ℕ) (stack : List Placed) (heads : List ℕ) (rest : List Event) → Stands task longest stack heads
    → AreLeft task heads rest → in_time rest (events_under stack) ≡ true
times_here task longest [] heads rest stands left = refl
times_here task longest (placed ∷ below) heads rest stands left = stands.times rest left

-- what the seats have
pub parted_here : {known : Known} {heads : List ℕ} {path : List Placed} {start : ℕ} {follower : Follower}
    → IsWalkAt known heads path start follower → IsParted known.task (events_in path) heads
parted_here {known} {heads} {path} walk =
    subst (λ l. IsParted known.task l heads) (same_events path) (parted known.task known.longest (reverse path) heads walk.is walk.stands)

-- no more events are placed than there are
pub few_here : {known : Known} {heads : List ℕ} {path : List Placed} {start : ℕ} {follower : Follower}
    → IsWalkAt known heads path start follower → length path ≤ length known.task.tries
few_here {known} {heads} {path} walk = omega (
  arith,
  few_of_each (events_in path) known.task.tries (λ seat. own_events seat (drop (get_or heads seat 0) known.task.tries)) (parted_here walk).parts,
  length-map path (λ (p : Placed). p.event),
)

-- so it is a beginning, and this is its rest
pub begins_here : {known : Known} {heads : List ℕ} {path : List Placed} {start : ℕ} {follower : Follower} (rest : List Event)
    → IsWalkAt known heads path start follower → AreLeft known.task heads rest
    → IsBeginning known.task.script known.task.tries (events_in path) rest
begins_here {known} {heads} {path} rest walk left = record {
  own = λ seat. ap (λ l. own_events seat (events_in path) ++ l) (left seat) ∙ (parted_here walk).parts seat;
  times = subst (λ l. in_time rest l ≡ true) (same_events path) (times_here known.task known.longest (reverse path) heads rest walk.stands left);
  legal = walk.legal;
}

-- no seat that the script has not has any event
own_none : (task : Task) (seat : ℕ) → IsTask task → task.script.workers + 1 ≤ seat → own_events seat task.tries ≡ []
own_none task seat is past = filter_none (λ (e : Event). eqb e.entry.seat seat) task.tries
    (AllByRecursion-map (λ (e : Event). e.entry.seat < task.script.workers + 1) (λ (e : Event). eqb e.entry.seat seat ≡ false) task.tries
    (λ e within. ne_eqb e.entry.seat seat (λ same. omega (arith, within, same, past)))
    (recursion_from_All (λ (e : Event). e.entry.seat < task.script.workers + 1) task.tries is.seated))

-- the head of such a seat is 0
head_past : (task : Task) (events : List Event) (heads : List ℕ) (seat : ℕ) → IsParted task events heads → task.script.workers + 1 ≤ seat → get_or heads seat 0 ≡ 0
head_past task events heads seat parts past = get_or_past heads seat 0 (omega (arith, parts.count, past))

-- each head stands past the end
abbrev pub AreAtEnd : Task → List ℕ → Type 0
AreAtEnd task heads = (seat : ℕ) → seat < task.script.workers + 1 → length task.tries ≤ get_or heads seat 0

-- then nothing is left
pub none_left : (task : Task) (events : List Event) (heads : List ℕ) → IsTask task → IsParted task events heads → AreAtEnd task heads → AreLeft task heads []
none_left task events heads is parts ends seat = by_seat (cases_lt seat (task.script.workers + 1))
  where
    by_seat : (seat < task.script.workers + 1) ⊎ (task.script.workers + 1 ≤ seat) → [] ≡ own_events seat (drop (get_or heads seat 0) task.tries)
    by_seat (inl within) = sym (ap (own_events seat) (drop_all (get_or heads seat 0) task.tries (ends seat within)))
    by_seat (inr past) =
        sym (ap (λ i. own_events seat (drop i task.tries)) (head_past task events heads seat parts past) ∙ own_none task seat is past)

-- and what is placed is an order, where it may end here or need not
pub order_here : {known : Known} {heads : List ℕ} {path : List Placed} {start : ℕ} {follower : Follower}
    → IsWalkAt known heads path start follower → AreAtEnd known.task heads
    → (known.task.prefix ≡ false → IsTrue (is_ended known.task.script (entries_of (events_in path))))
    → IsOrder known.task.script known.task.prefix known.task.tries (events_in path)
order_here {known} {heads} {path} walk ends ended = record {
  begins = begins_here [] walk (none_left known.task (events_in path) heads walk.is (parted_here walk) ends);
  ended = ended;
}

-- an order has all the events
pub ends_at_order : {known : Known} {heads : List ℕ} {path : List Placed} {start : ℕ} {follower : Follower}
    → IsWalkAt known heads path start follower → IsOrder known.task.script known.task.prefix known.task.tries (events_in path)
    → AreAtEnd known.task heads
ends_at_order {known} {heads} {path} walk order seat within = by_order (cases_lt (get_or heads seat 0) (length known.task.tries))
  where
    by_order : (get_or heads seat 0 < length known.task.tries) ⊎ (length known.task.tries ≤ get_or heads seat 0) → length known.task.tries ≤ get_or heads seat 0
    by_order (inr end) = end
    by_order (inl before) = at_some (drop (get_or heads seat 0) known.task.tries) refl
      where
        none : own_events seat (drop (get_or heads seat 0) known.task.tries) ≡ []
        none = append_cancel_left (own_events seat (events_in path)) _ _ ((parted_here walk).parts seat ∙ sym (order.begins.own seat))

        at_some : (rest : List Event) → drop (get_or heads seat 0) known.task.tries ≡ rest → length known.task.tries ≤ get_or heads seat 0
        at_some [] is = let l = ap length is in omega (arith, l, before, length-drop (get_or heads seat 0) known.task.tries)
        at_some (x ∷ rest) is =
            let at : IsAt known.task.tries (get_or heads seat 0) (get_or known.task.tries (get_or heads seat 0) x) = at_index known.task.tries (get_or heads seat 0) x before in
            let own = (parted_here walk).own seat (get_or known.task.tries (get_or heads seat 0) x) within at in
            let first = ap (own_events seat) at.is
            ∙ own_of_seat seat (get_or known.task.tries (get_or heads seat 0) x) (drop (get_or heads seat 0 + 1) known.task.tries) own in
            let nothing = none in absurd cc

-- ---- tests of all heads

-- each passes
pub each_passes : (p : ℕ → Bool) (heads : List ℕ) → list_all p heads ≡ true → (seat : ℕ) → seat < length heads → p (get_or heads seat 0) ≡ true
each_passes p heads all seat within = true_from_ne_false (p (get_or heads seat 0))
    (λ fails. true≢false (sym all ∙ list_all_at p heads seat 0 within fails))

-- where each does, all do
pub all_pass : (p : ℕ → Bool) (heads : List ℕ) → ((seat : ℕ) → seat < length heads → p (get_or heads seat 0) ≡ true) → list_all p heads ≡ true
all_pass p heads each = list_all-from_recursion p heads (AllByRecursion-from_index (λ x. p x ≡ true) heads
    (λ i d within. subst (λ x. p x ≡ true) (get_or_default heads i 0 d within) (each i within)))

-- all heads stand past the end exactly where the test says so
pub at_end_by_test : {known : Known} {heads : List ℕ} {path : List Placed} {start : ℕ} {follower : Follower} (end : ℕ)
    → IsWalkAt known heads path start follower → end ≡ length known.task.tries → list_all (λ head. nat_le end head) heads ≡ true → AreAtEnd known.task heads
at_end_by_test {known} {heads} end walk end_is all seat within =
    omega (arith, end_is, leb-true end (get_or heads seat 0) (each_passes (λ head. nat_le end head) heads all seat (omega (arith, within, (parted_here walk).count))))

pub at_end_passes : {known : Known} {heads : List ℕ} {path : List Placed} {start : ℕ} {follower : Follower} (end : ℕ)
    → IsWalkAt known heads path start follower → end ≡ length known.task.tries → AreAtEnd known.task heads → list_all (λ head. nat_le end head) heads ≡ true
at_end_passes {known} {heads} end walk end_is ends = all_pass (λ head. nat_le end head) heads (λ seat within.
    le-leb end (get_or heads seat 0) (omega (arith, end_is, ends seat (omega (arith, within, (parted_here walk).count)))))

-- ---- an event is tried

module _ {known : Known} {heads : List ℕ} {path : List Placed} {start : ℕ} {follower : Follower} (seat i : ℕ) (e : Event)
    (walk : IsWalkAt known heads path start follower) (within : seat < length heads) (head : get_or heads seat 0 ≡ i)
    (next : IsNext heads start (length known.task.tries) seat) (at : IsAt known.task.tries i e) where
  -- it is the next one of its seat
  pub its_seat : e.entry.seat ≡ seat
  its_seat = (parted_here walk).own seat e (omega (arith, within, (parted_here walk).count)) (subst (λ j. IsAt known.task.tries j e) (sym head) at)

  its_within : e.entry.seat < known.task.script.workers + 1
  its_within = omega (arith, within, (parted_here walk).count, its_seat)

  its_head : get_or heads e.entry.seat 0 ≡ i
  its_head = ap (λ s. get_or heads s 0) its_seat ∙ head

  -- what the seats have once it is placed
  parted_on : IsParted known.task (events_in path ++ e ∷ []) (set heads e.entry.seat (get_or known.task.after i 0))
  parted_on = parted_next known.task (events_in path) heads i e walk.is (parted_here walk) at its_within its_head

  -- fewer are placed than there are
  pub few_before : length (entries_of (events_in path)) < 4294967295
  few_before = omega (
    arith,
    walk.is.few,
    few_of_each (events_in path ++ e ∷ []) known.task.tries
        (λ s. own_events s (drop (get_or (set heads e.entry.seat (get_or known.task.after i 0)) s 0) known.task.tries)) parted_on.parts,
    length-append (events_in path) (e ∷ []),
    length-map (events_in path) (λ (x : Event). x.entry),
  )

  -- the test by the least latest times says whether all that is left may come later
  pub tests_later : earliest e.span ≤ 2 ^ 64 - 1 → AreLater known.task (set heads e.entry.seat (get_or known.task.after i 0)) e
      → (seat' : ℕ) → seat' < known.task.script.workers + 1
      → earliest e.span ≤ get_or known.task.least (get_or (set heads e.entry.seat (get_or known.task.after i 0)) seat' 0) (2 ^ 64 - 1)
  tests_later bound later other inside =
      let place = get_or (set heads e.entry.seat (get_or known.task.after i 0)) other 0 in
      let is = soonest_at (known.task.script.workers + 1) known.task.tries 0 known.task.heads known.task.after known.task.least place other walk.is.linked
      (omega arith) (λ x there. parted_on.own other x inside there) in
      subst (λ t. earliest e.span ≤ t) (sym is) ((none_over e (own_events other (drop place known.task.tries)) bound).0 (later other inside))

  pub later_from_tests : earliest e.span ≤ 2 ^ 64 - 1
      → ((seat' : ℕ) → seat' < known.task.script.workers + 1
      → earliest e.span ≤ get_or known.task.least (get_or (set heads e.entry.seat (get_or known.task.after i 0)) seat' 0) (2 ^ 64 - 1))
      → AreLater known.task (set heads e.entry.seat (get_or known.task.after i 0)) e
  later_from_tests bound tests other inside =
      let place = get_or (set heads e.entry.seat (get_or known.task.after i 0)) other 0 in
      let is = soonest_at (known.task.script.workers + 1) known.task.tries 0 known.task.heads known.task.after known.task.least place other walk.is.linked
      (omega arith) (λ x there. parted_on.own other x inside there) in
      (none_over e (own_events other (drop place known.task.tries)) bound).1 (subst (λ t. earliest e.span ≤ t) is (tests other inside))

  -- so does the test of all heads
  pub later_by_test : earliest e.span ≤ 2 ^ 64 - 1 → (later : List ℕ) → later ≡ set heads e.entry.seat (get_or known.task.after i 0)
      → list_all (λ head. nat_le (earliest e.span) (get_or known.task.least head (2 ^ 64 - 1))) later ≡ true
      → AreLater known.task (set heads e.entry.seat (get_or known.task.after i 0)) e
  later_by_test bound later later_is test = later_from_tests bound (λ other inside.
      let fits : other < length later = omega (arith, inside, ap length later_is, length-set heads e.entry.seat (get_or known.task.after i 0), (parted_here walk).count) in
      subst (λ l. earliest e.span ≤ get_or known.task.least (get_or l other 0) (2 ^ 64 - 1)) later_is
      (leb-true (earliest e.span) (get_or known.task.least (get_or later other 0) (2 ^ 64 - 1))
      (each_passes (λ head. nat_le (earliest e.span) (get_or known.task.least head (2 ^ 64 - 1))) later test other fits)))

  pub not_later_by_test : earliest e.span ≤ 2 ^ 64 - 1 → (later : List ℕ) → later ≡ set heads e.entry.seat (get_or known.task.after i 0)
      → list_all (λ head. nat_le (earliest e.span) (get_or known.task.least head (2 ^ 64 - 1))) later ≡ false
      → AreLater known.task (set heads e.entry.seat (get_or known.task.after i 0)) e → ⊥
  not_later_by_test bound later later_is test all =
      let each : list_all (λ head. nat_le (earliest e.span) (get_or known.task.least head (2 ^ 64 - 1))) later ≡ true =
      all_pass (λ head. nat_le (earliest e.span) (get_or known.task.least head (2 ^ 64 - 1))) later (λ other fits.
      le-leb (earliest e.span) (get_or known.task.least (get_or later other 0) (2 ^ 64 - 1))
      (subst (λ l. earliest e.span ≤ get_or known.task.least (get_or l other 0) (2 ^ 64 - 1)) (sym later_is)
      (tests_later bound all other (omega (arith, fits, ap length later_is, length-set heads e.entry.seat (get_or known.task.after i 0), (parted_here walk).count))))) in
      absurd cc

  -- the heads before it were tried
  tried_before : AreTried known.task known.longest (events_in path) heads i
  tried_before other inside early = by_start (cases_lt (get_or heads other 0) start)
    where
      by_start : (get_or heads other 0 < start) ⊎ (start ≤ get_or heads other 0) → IsDead known.task known.longest (events_in path) other
      by_start (inl less) = walk.tried other inside less
      by_start (inr more) = absurd (omega (
        arith,
        head,
        early,
        more,
        (next.found within).1,
        (next.first other (omega (arith, inside, (parted_here walk).count)) more (omega (arith, early, (next.found within).1, head))).1,
      ))

  -- it is passed by
  pub passed_by : (later : List ℕ) → later ≡ heads
      → (is_allowed known.task.script (entries_of (events_in path)) e.entry ≡ true
      → AreLater known.task (set heads e.entry.seat (get_or known.task.after i 0)) e → ⊥)
      → (after : Follower) → Follows known.task.script (entries_of (events_in path)) after → IsWalkAt known later path (i + 1) after
  passed_by later same barred after follows = subst (λ l. IsWalkAt known l path (i + 1) after) (sym same) (record {
    is = walk.is;
    stands = walk.stands;
    tried = λ other inside early. by_place other inside early (cases_lt (get_or heads other 0) i);
    legal = walk.legal;
    follows = follows;
  })
    where
      by_place : (other : ℕ) → other < known.task.script.workers + 1 → get_or heads other 0 < i + 1
          → (get_or heads other 0 < i) ⊎ (i ≤ get_or heads other 0) → IsDead known.task known.longest (events_in path) other
      by_place other inside early (inl less) = tried_before other inside less
      by_place other inside early (inr more) =
          let place : i ≡ get_or heads other 0 = omega (arith, early, more) in
          subst (IsDead known.task known.longest (events_in path)) ((parted_here walk).own other e inside (subst (λ j. IsAt known.task.tries j e) place at))
          (dead known.task known.longest (events_in path) heads i e walk.is (parted_here walk) at its_within its_head barred)

  -- what is left of the events before it is placed: it, and what is left after
  left_with : (rest : List Event) → AreLeft known.task (set heads e.entry.seat (get_or known.task.after i 0)) rest → AreLeft known.task heads (e ∷ rest)
  left_with rest left other = by_seat (cases_eq other e.entry.seat)
    where
      here : own_events e.entry.seat (drop (get_or known.task.after i 0) known.task.tries) ≡ own_events e.entry.seat (drop (i + 1) known.task.tries)
      here = (walk.is.linked.next i e (omega arith) at).same

      moved : get_or (set heads e.entry.seat (get_or known.task.after i 0)) e.entry.seat 0 ≡ get_or known.task.after i 0
      moved = get_or-set_same heads e.entry.seat (get_or known.task.after i 0) 0 (omega (arith, (parted_here walk).count, its_within))

      by_seat : (other ≡ e.entry.seat) ⊎ (other ≡ e.entry.seat → ⊥) → own_events other (e ∷ rest) ≡ own_events other (drop (get_or heads other 0) known.task.tries)
      by_seat (inl same) = subst (λ s. own_events s (e ∷ rest) ≡ own_events s (drop (get_or heads s 0) known.task.tries)) (sym same)
          (own_of_seat e.entry.seat e rest refl
          ∙ ap (λ l. e ∷ l) (left e.entry.seat ∙ ap (λ j. own_events e.entry.seat (drop j known.task.tries)) moved ∙ here)
          ∙ sym (own_of_seat e.entry.seat e (drop (i + 1) known.task.tries) refl) ∙ ap (own_events e.entry.seat) (sym at.is)
          ∙ ap (λ j. own_events e.entry.seat (drop j known.task.tries)) (sym its_head))
      by_seat (inr apart) = own_of_other other e rest (λ same. apart (sym same)) ∙ left other
          ∙ ap (λ j. own_events other (drop j known.task.tries)) (get_or-set_other heads e.entry.seat other (get_or known.task.after i 0) 0 apart)

  -- none of what is left came before it
  may_come_now : (rest : List Event) → AreLater known.task (set heads e.entry.seat (get_or known.task.after i 0)) e
      → AreLeft known.task (set heads e.entry.seat (get_or known.task.after i 0)) rest → may_precede e rest ≡ true
  may_come_now rest later left =
      not_from_false (list_any (λ (other : Event). is_before other e) rest) (none_own (λ (other : Event). is_before other e) rest
      (λ other. by_seat other (cases_lt other (known.task.script.workers + 1))))
    where
      by_seat : (other : ℕ) → (other < known.task.script.workers + 1) ⊎ (known.task.script.workers + 1 ≤ other)
          → list_any (λ (x : Event). is_before x e) (own_events other rest) ≡ false
      by_seat other (inl inside) = ap (list_any (λ (x : Event). is_before x e)) (left other) ∙ later other inside
      by_seat other (inr past) = ap (list_any (λ (x : Event). is_before x e)) (left other
          ∙ ap (λ j. own_events other (drop j known.task.tries)) (head_past known.task _ _ other parted_on past) ∙ own_none known.task other walk.is past)

  -- it is placed
  pub placed_on : AreLater known.task (set heads e.entry.seat (get_or known.task.after i 0)) e
      → is_allowed known.task.script (entries_of (events_in path)) e.entry ≡ true
      → (longer : List Placed) → longer ≡ path ++ (record { index = i; event = e }) ∷ [] → (later : List ℕ) → later ≡ set heads seat (get_or known.task.after i 0)
      → (after : Follower) → Follows known.task.script (entries_of (events_in path) ++ e.entry ∷ []) after → IsWalkAt known later longer 0 after
  placed_on later allowed longer longer_is moved moved_is after follows =
      let placed : Placed = record { index = i; event = e } in
      let moved_same : moved ≡ set heads e.entry.seat (get_or known.task.after i 0) = moved_is ∙ ap (λ s. set heads s (get_or known.task.after i 0)) (sym its_seat) in
      let events_are : events_in longer ≡ events_in path ++ e ∷ [] = ap events_in longer_is ∙ map_push (λ (p : Placed). p.event) path placed in
      let entries_are : entries_of (events_in longer) ≡ entries_of (events_in path) ++ e.entry ∷ [] =
      ap entries_of events_are ∙ map_push (λ (x : Event). x.entry) (events_in path) e in
      record {
        is = walk.is;
        stands = subst (λ stack. Stands known.task known.longest stack moved) (sym (ap reverse longer_is ∙ reverse_push path placed)) (record {
          before = heads;
          stood = walk.stands;
          at = at;
          within = its_within;
          head = its_head;
          moved = moved_same;
          times = λ rest left.
              let left_so : AreLeft known.task (set heads e.entry.seat (get_or known.task.after i 0)) rest = subst (λ l. AreLeft known.task l rest) moved_same left in
              in_time_push rest (events_under (reverse path)) e
              (times_here known.task known.longest (reverse path) heads (e ∷ rest) walk.stands (left_with rest left_so)) (may_come_now rest later left_so);
          tried = subst (λ l. AreTried known.task known.longest l heads i) (sym (same_events path)) tried_before;
        });
        tried = λ other inside early. absurd (omega (arith, early));
        legal = subst (IsLegal known.task.script) (sym entries_are) (legal_next known.task.script (entries_of (events_in path)) e.entry walk.legal allowed);
        follows = subst (λ l. Follows known.task.script l after) (sym entries_are) follows;
      }

-- ---- an event is taken off

module _ {known : Known} {heads : List ℕ} {path : List Placed} {start : ℕ} {follower : Follower} (shorter : List Placed) (placed : Placed)
    (walk : IsWalkAt known heads path start follower) (parts : path ≡ shorter ++ placed ∷ []) where
  on_top : IsPlaced known.task known.longest placed (reverse shorter) heads (Stands known.task known.longest (reverse shorter))
  on_top = subst (λ stack. Stands known.task known.longest stack heads) (ap reverse parts ∙ reverse_push shorter placed) walk.stands

  -- its seat is one of the script
  pub seat_taken_off : placed.event.entry.seat < length heads
  seat_taken_off = omega (arith, (parted_here walk).count, on_top.within)

  -- its place is within the events
  pub place_taken_off : placed.index < 2 ^ 32
  place_taken_off = omega (arith, at_within known.task.tries placed.index placed.event on_top.at, walk.is.few)

  -- the entries before it are legal
  pub legal_taken_off : IsLegal known.task.script (entries_of (events_in shorter))
  legal_taken_off =
      let longer : entries_of (events_in path) ≡ entries_of (events_in shorter) ++ placed.event.entry ∷ [] =
      ap (λ l. entries_of (events_in l)) parts ∙ ap entries_of (map_push (λ (p : Placed). p.event) shorter placed)
      ∙ map_push (λ (x : Event). x.entry) (events_in shorter) placed.event in
      front_is_legal known.task.script (entries_of (events_in shorter)) (placed.event.entry ∷ []) (subst (IsLegal known.task.script) longer walk.legal)

  -- and the search stands where it stood before it, with it ruled out
  pub taken_off : AllTried known.task heads start → IsRuledOut known.task known.longest (events_in path) → (before : List ℕ)
      → before ≡ set heads placed.event.entry.seat placed.index → (after : Follower) → Follows known.task.script (entries_of (events_in shorter)) after
      → IsWalkAt known before shorter (placed.index + 1) after
  taken_off all ruled before before_is after follows =
      let events_are : events_under (placed ∷ reverse shorter) ≡ events_in path =
      ap events_under (sym (ap reverse parts ∙ reverse_push shorter placed)) ∙ same_events path in
      let back : AreTried known.task known.longest (events_under (reverse shorter)) on_top.before (placed.index + 1) =
      tried_back known.task known.longest placed (reverse shorter) heads start walk.is on_top
      (subst (λ l. AreTried known.task known.longest l heads start) (sym events_are) walk.tried) all
      (subst (IsRuledOut known.task known.longest) (sym events_are) ruled) in
      let seat = placed.event.entry.seat in
      let restored : before ≡ on_top.before =
      before_is ∙ ap (λ l. set l seat placed.index) on_top.moved
      ∙ set-set on_top.before seat (get_or known.task.after placed.index 0) placed.index
      ∙ ap (set on_top.before seat) (sym on_top.head) ∙ set-get_or on_top.before seat 0 in
      subst (λ l. IsWalkAt known l shorter (placed.index + 1) after) (sym restored) (record {
        is = walk.is;
        stands = on_top.stood;
        tried = subst (λ l. AreTried known.task known.longest l on_top.before (placed.index + 1)) (same_events shorter) back;
        legal = legal_taken_off;
        follows = follows;
      })

-- where none is placed, all is ruled out
pub all_ruled_out : {known : Known} {heads : List ℕ} {path : List Placed} {start : ℕ} {follower : Follower}
    → IsWalkAt known heads path start follower → path ≡ [] → AllTried known.task heads start → IsRuledOut known.task known.longest (events_in path)
    → (others left : List Event) → IsBeginning known.task.script known.task.tries others left → IsRuledOut known.task known.longest others
all_ruled_out {known} {heads} {path} {start} walk none all ruled others left begins =
    let empty : events_in path ≡ [] = ap events_in none in
    longer_ruled_out known.task known.longest [] heads start (subst (λ l. IsParted known.task l heads) empty (parted_here walk))
    (subst (λ l. AreTried known.task known.longest l heads start) empty walk.tried) all (subst (IsRuledOut known.task known.longest) empty ruled) others left begins

-- ---- what has followed

-- one event more of a path was followed
pub followed_more : (plan : Plan) (path : List Placed) (k : ℕ) (d : Placed) (after : Follower) (answer : Bool) → IsLegal plan (entries_of (events_in path))
    → k < length path → GoesOn plan (entries_of (events_in (take k path))) (get_or path k d).event.entry after answer
    → Follows plan (entries_of (events_in (take (k + 1) path))) after
followed_more plan path k d after answer legal within on =
    subst (λ l. Follows plan l after) (sym longer) (on.followed (on.judged ∙ allowed))
  where
    parts : path ≡ take k path ++ get_or path k d ∷ drop (k + 1) path
    parts = sym (take-append-drop (k + 1) path) ∙ ap (λ l. l ++ drop (k + 1) path) (take_more path k d within)
        ∙ append_assoc (take k path) (get_or path k d ∷ []) (drop (k + 1) path)

    entries_are : entries_of (events_in path) ≡ entries_of (events_in (take k path)) ++ (get_or path k d).event.entry ∷ entries_of (events_in (drop (k + 1) path))
    entries_are = ap (λ l. entries_of (events_in l)) parts ∙ ap entries_of (map-append (λ (p : Placed). p.event) (take k path) (get_or path k d ∷ drop (k + 1) path))
        ∙ map-append (λ (x : Event). x.entry) (events_in (take k path)) ((get_or path k d).event ∷ events_in (drop (k + 1) path))

    longer : entries_of (events_in (take (k + 1) path)) ≡ entries_of (events_in (take k path)) ++ (get_or path k d).event.entry ∷ []
    longer = ap (λ l. entries_of (events_in l)) (take_more path k d within) ∙ ap entries_of (map_push (λ (p : Placed). p.event) (take k path) (get_or path k d))
        ∙ map_push (λ (x : Event). x.entry) (events_in (take k path)) (get_or path k d).event

    allowed : is_allowed plan (entries_of (events_in (take k path))) (get_or path k d).event.entry ≡ true
    allowed = each_is_allowed plan (entries_of (events_in (take k path))) (get_or path k d).event.entry (entries_of (events_in (drop (k + 1) path)))
        (subst (IsLegal plan) entries_are legal)

-- so many entries it has followed as are in the path before its end
pub few_followed : (path : List Placed) (k : ℕ) → k < length path → length path < 2 ^ 32 → length (entries_of (events_in (take k path))) < 4294967295
few_followed path k within few = omega (
  arith,
  within,
  few,
  length-map (events_in (take k path)) (λ (x : Event). x.entry),
  length-map (take k path) (λ (p : Placed). p.event),
  length-take-le k path (omega (arith, within)),
)
