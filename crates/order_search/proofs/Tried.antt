-- What a try leaves, by what the code has read.
-- Cited by `Walk::try_head`.
use Rattle.std.proofs.Common.{◌≡◌, ℕ, ◌+◌, ◌-◌, ◌^◌, ◌<◌, ◌≤◌, Bool, true, false, List, [], ◌∷◌, ◌++◌, get_or, length, set, arith, sym, ap, ◌∙◌}
use Rattle.std.proofs.lemmas.List.{get_or_read, set-get_or, set-set}
use Rattle.std.specs.Prelude.{nat_le}
use Rattle.std.proofs.lemmas.Bool.{true≢false}
use Rattle.std.specs.List.{list_all}
use Rattle.task_base.specs.Plan.{Plan}
use Rattle.hist_model.specs.Allowed.{is_allowed}
use Rattle.order_model.specs.declared.event.Event.{Event}
use Rattle.order_model.specs.Orders.{entries_of}
use Rattle.order_search.specs.Following.{Follows, GoesOn}
use Rattle.order_search.specs.Places.{IsAt}
use Rattle.order_search.specs.Search.{IsNext, IsWalkAt, Known, task_of}
use Rattle.order_search.specs.Seats.{earliest}
use Rattle.order_search.specs.Walk.{Task, events_in}
use Rattle.order_search.specs.declared.follower.Follower.{Follower}
use Rattle.order_search.specs.declared.placed.Placed.{Placed}
use Rattle.order_search.specs.declared.tries.Tries.{Tries}
use Rattle.order_search.proofs.Places.{at_read}
use Rattle.order_search.proofs.Ruled.{AreLater}
use Rattle.order_search.proofs.Steps.{few_before, its_seat, later_by_test, not_later_by_test, passed_by, placed_on}

module _ (plan : Plan) (tries : Tries) {known : Known} {heads : List ℕ} {path : List Placed} {start : ℕ} {follower : Follower}
    (seat i : ℕ) (e : Event) (after : ℕ) (later least : List ℕ) (task : known.task ≡ task_of plan known.task.prefix tries)
    (walk : IsWalkAt known heads path start follower) (within : seat < length heads) (next_is : IsNext heads start (length tries.events.items) seat)
    (i_is : i ≡ get_or heads seat i) (e_is : e ≡ get_or tries.events.items i e) (after_is : after ≡ get_or tries.after.items i after)
    (later_is : later ≡ set heads seat after) (least_is : least ≡ tries.least.items) (bound : earliest e.span ≤ 2 ^ 64 - 1) where
  plan_is : known.task.script ≡ plan
  plan_is = ap (λ (t : Task). t.script) task

  -- what was followed so far
  pub follows_here : Follows plan (entries_of (events_in path)) follower
  follows_here = rw (← plan_is) walk.follows

  tries_are : known.task.tries ≡ tries.events.items
  tries_are = ap (λ (t : Task). t.tries) task

  afters_are : known.task.after ≡ tries.after.items
  afters_are = ap (λ (t : Task). t.after) task

  next : IsNext heads start (length known.task.tries) seat
  next = rw tries_are next_is

  head : get_or heads seat 0 ≡ i
  head = sym (get_or_read heads seat i within i_is 0)

  i_within : i < length tries.events.items
  i_within = omega (arith, (next_is.found within).1, head)

  pub index_within : i < 2 ^ 32
  index_within = omega (arith, i_within, walk.is.few, ap length tries_are)

  at : IsAt known.task.tries i e
  at = rw tries_are (at_read tries.events.items i e i_within e_is)

  after_at : after ≡ get_or known.task.after i 0
  after_at = rw afters_are (get_or_read tries.after.items i after (omega (arith, walk.is.linked.some_after, ap length afters_are, ap length tries_are, i_within)) after_is 0)

  -- it has a number
  pub has_number : length (entries_of (events_in path)) < 4294967295
  has_number = few_before seat i e walk within head next at

  heads_are : later ≡ set heads e.entry.seat (get_or known.task.after i 0)
  heads_are = later_is ∙ ap (λ s. set heads s after) (sym (its_seat seat i e walk within head next at)) ∙ ap (set heads e.entry.seat) after_at

  least_same : least ≡ known.task.least
  least_same = least_is ∙ sym (ap (λ (t : Task). t.least) task)

  -- the times and the rules allow it: it is placed
  pub try_places : list_all (λ head. nat_le (earliest e.span) (get_or least head (2 ^ 64 - 1))) later ≡ true
      → (follower' : Follower) (answer : Bool) → GoesOn plan (entries_of (events_in path)) e.entry follower' answer → answer ≡ true
      → (longer : List Placed) → longer ≡ path ++ (record { index = i; event = e }) ∷ [] → IsWalkAt known (set heads seat after) longer 0 follower'
  try_places test follower' answer on is longer longer_is =
      placed_on seat i e walk within head next at
      (later_by_test seat i e walk within head next at bound later heads_are (rw (← least_same) test))
      (rw plan_is (sym on.judged ∙ is)) longer longer_is (set heads seat after) (ap (set heads seat) after_at) follower' (rw plan_is (on.followed is))

  restored : (now : List ℕ) → now ≡ set (set heads seat after) seat i → now ≡ heads
  restored now now_is = now_is ∙ set-set heads seat after i ∙ ap (set heads seat) (sym head) ∙ set-get_or heads seat 0

  -- else it is passed by
  passes : (is_allowed known.task.script (entries_of (events_in path)) e.entry ≡ true → AreLater known.task (set heads e.entry.seat (get_or known.task.after i 0)) e → ⊥)
      → (now : List ℕ) → now ≡ set (set heads seat after) seat i → (path' : List Placed) → path' ≡ path → (start' : ℕ) → start' ≡ i + 1
      → (follower' : Follower) → Follows plan (entries_of (events_in path)) follower' → IsWalkAt known now path' start' follower'
  passes barred now now_is path' path_is start' start_is follower' follows =
      rw (path_is, start_is) (passed_by seat i e walk within head next at now (restored now now_is) barred follower' (rw plan_is follows))

  pub times_pass : list_all (λ head. nat_le (earliest e.span) (get_or least head (2 ^ 64 - 1))) later ≡ false
      → (now : List ℕ) → now ≡ set (set heads seat after) seat i → (path' : List Placed) → path' ≡ path → (start' : ℕ) → start' ≡ i + 1
      → (follower' : Follower) → Follows plan (entries_of (events_in path)) follower' → IsWalkAt known now path' start' follower'
  times_pass test = passes (λ allowed all. not_later_by_test seat i e walk within head next at bound later heads_are (rw (← least_same) test) all)

  pub rules_pass : (tried : Follower) (answer : Bool) → GoesOn plan (entries_of (events_in path)) e.entry tried answer → answer ≡ false
      → (now : List ℕ) → now ≡ set (set heads seat after) seat i → (path' : List Placed) → path' ≡ path → (start' : ℕ) → start' ≡ i + 1
      → (follower' : Follower) → Follows plan (entries_of (events_in path)) follower' → IsWalkAt known now path' start' follower'
  rules_pass tried answer on is = passes (λ allowed all. true≢false (sym allowed ∙ rw plan_is (sym on.judged ∙ is)))
