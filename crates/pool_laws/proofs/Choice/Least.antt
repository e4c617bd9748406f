-- What the heads and the best sources are: one of their lists, and none of it goes before them; there is none only where
-- their list is empty.
--
-- The head of a sequence is one of its eligible tasks, and none of them has a key below its own. The best source waits and
-- may be taken, and no source that may be taken goes before it. Of two keys one is below the other, or they are equal.
-- Cited by `Choice/Best`, `Choice/Sources`, `Keys/Arrivals`, `hist_model`, `log_count`, `next_entry`, `pool_core`, `situation`.
use Rattle.std.proofs.Common.{◌≡◌, ℕ, Bool, true, false, eqb, List, [], ap, refl, ◌∙◌, Option, Some, None, arith}
use Rattle.std.specs.Prelude.{◌&&◌, ◌||◌, nat_lt, filter, Contains, All}
use Rattle.std.specs.Option.{option_map}
use Rattle.std.proofs.lemmas.List.Elements.{All-weaker, All-contains, All-contains_itself}
use Rattle.std.proofs.lemmas.Bool.{and_parts, false_from_ne_true}
use Rattle.std.proofs.lemmas.Option.{none-some}
use Rattle.task_base.specs.declared.source.Key.{Key}
use Rattle.list_laws.specs.Lists.{IsLeast, Ranks, then_by}
use Rattle.task_base.specs.Keys.{key_below}
use Rattle.task_model.specs.Posts.{Posted, posts}
use Rattle.task_model.specs.Keys.{Ready, ready, key_of}
use Rattle.task_model.specs.Sequences.{is_of, may_start, eligible, head_of}
use Rattle.task_base.specs.Groups.{importance}
use Rattle.task_model.specs.Sources.{Candidate, waiting, is_takeable, goes_before, best_of}
use Rattle.pool_laws.specs.Keys.{ready_below, IsHead}
use Rattle.pool_laws.specs.Choice.{IsBest}
use Rattle.task_base.specs.Plan.{Plan}
use Rattle.task_base.specs.declared.entry.Entry.{Entry}
use Rattle.list_laws.proofs.Least.{least_is_least, no_least}
use Rattle.list_laws.proofs.Made.{filter_contains, filter_map_contains, contains_filter, contains_not_empty}
use Rattle.list_laws.proofs.Values.{some-injective}
use Rattle.list_laws.proofs.Ranks.{ranks_turned, ranks_by, ranks_then_by, tied}

-- by keys
pub ranks_key : {A : Type 0} (key : A → Key) → Ranks (λ a b. key_below (key a) (key b))
ranks_key key = ranks_then_by (λ a. (key a).place) (λ a b. nat_lt (key a).ripe (key b).ripe
    || (eqb (key a).ripe (key b).ripe && nat_lt (key a).post (key b).post))
    (ranks_then_by (λ a. (key a).ripe) (λ a b. nat_lt (key a).post (key b).post) (ranks_by (λ a. (key a).post)))

-- by importance, the greater first, then by how many are inside, then by keys
pub ranks_goes_before : Ranks goes_before
ranks_goes_before = ranks_turned (then_by (λ c. importance c.priority) (λ a b. inner b a))
    (ranks_then_by (λ c. importance c.priority) (λ a b. inner b a) (ranks_turned inner
    (ranks_then_by (λ c. c.inside) (λ a b. key_below a.key b.key) (ranks_key (λ c. c.key)))))
  where
    inner : Candidate → Candidate → Bool
    inner a b = nat_lt a.inside b.inside || (eqb a.inside b.inside && key_below a.key b.key)

-- Heads, and the best.

pub head_is_least : (script : Plan) (past : List Entry) (s : ℕ) (r : Ready) → head_of script past s ≡ Some r → IsLeast ready_below (eligible script past s) r
unfolding head_of
head_is_least script past s r is = least_is_least ready_below (ranks_key (λ x. x.key)) (eligible script past s) r is

-- a head is an accepted task of its sequence, with its key, which may start
pub head_is : (script : Plan) (past : List Entry) (s : ℕ) (head : Ready) → head_of script past s ≡ Some head → IsHead script past s head
unfolding eligible ready
head_is script past s head is =
    let (among, passes) = filter_contains (λ r. is_of script s r.posted && may_start script past r.posted) (ready past) head
    (head_is_least script past s head is).member in
    let (p, posted, made) = filter_map_contains (λ p. option_map (λ key. record { posted = p; key = key }) (key_of past p)) (posts past) head among in
    let (accepted, keyed) = named p posted (key_of past p) refl made in
    let (of_sequence, free) = and_parts (is_of script s head.posted) (may_start script past head.posted) passes in
    record { accepted = accepted; keyed = keyed; of_sequence = of_sequence; free = free }
  where
    named : (p : Posted) → Contains (posts past) p → (o : Option Key) → key_of past p ≡ o
        → option_map (λ key. record { posted = p; key = key }) o ≡ Some head
        → Contains (posts past) head.posted × (key_of past head.posted ≡ Some head.key)
    named p posted None has none = absurd (none-some head none)
    named p posted (Some key) has some = rw (← some-injective some) (posted, has)

pub no_head : (script : Plan) (past : List Entry) (s : ℕ) → head_of script past s ≡ None → eligible script past s ≡ []
unfolding head_of
no_head script past s is = no_least ready_below (eligible script past s) is

pub best_is_best : (script : Plan) (past : List Entry) (seat : ℕ) (c : Candidate) → best_of script past seat ≡ Some c → IsBest script past seat c
unfolding best_of
best_is_best script past seat c is = record {
  takeable = filter_contains (is_takeable script past seat) (waiting script past) c best.member;
  none_before = All-weaker (Contains (waiting script past)) (λ d. is_takeable script past seat d ≡ true → goes_before d c ≡ false)
      (λ d waits takeable. All-contains (λ x. goes_before x c ≡ false) (filter (is_takeable script past seat) (waiting script past)) d best.none_below
      (contains_filter (is_takeable script past seat) (waiting script past) d waits takeable))
      (waiting script past) (All-contains_itself (waiting script past));
}
  where
    best : IsLeast goes_before (filter (is_takeable script past seat) (waiting script past)) c
    best = least_is_least goes_before ranks_goes_before (filter (is_takeable script past seat) (waiting script past)) c is

pub no_best : (script : Plan) (past : List Entry) (seat : ℕ) → best_of script past seat ≡ None
    → All (λ d. is_takeable script past seat d ≡ false) (waiting script past)
unfolding best_of
no_best script past seat is = All-weaker (Contains (waiting script past)) (λ d. is_takeable script past seat d ≡ false)
    (λ d waits. false_from_ne_true (is_takeable script past seat d) (λ takeable.
    contains_not_empty (filter (is_takeable script past seat) (waiting script past)) d
    (contains_filter (is_takeable script past seat) (waiting script past) d waits takeable)
    (no_least goes_before (filter (is_takeable script past seat) (waiting script past)) is)))
    (waiting script past) (All-contains_itself (waiting script past))

-- of two keys one is below the other, or they are equal
pub keys_total : (a b : Key) → key_below a b ≡ false → key_below b a ≡ false → a ≡ b
keys_total a b h k =
    let places = tied (λ x. x.place) by_ripe a b h k in
    let moments = tied (λ x. x.ripe) (λ x y. nat_lt x.post y.post) a b places.1 places.2 in
    ap (λ n. record { place = n; ripe = a.ripe; post = a.post }) places.0
    ∙ ap (λ n. record { place = b.place; ripe = n; post = a.post }) moments.0
    ∙ ap (λ n. record { place = b.place; ripe = b.ripe; post = n }) (equal a.post b.post moments.1 moments.2)
  where
    by_ripe : Key → Key → Bool
    by_ripe x y = nat_lt x.ripe y.ripe || (eqb x.ripe y.ripe && nat_lt x.post y.post)

    equal : (n m : ℕ) → nat_lt n m ≡ false → nat_lt m n ≡ false → n ≡ m
    equal n m p q = grind arith
