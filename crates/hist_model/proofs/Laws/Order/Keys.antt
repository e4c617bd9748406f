-- The tasks of a sequence are taken in the order of their keys.
-- Cited by `Laws/Order/Taken`, `next_entry`.
use Rattle.std.proofs.Common.{◌≡◌, ℕ, ◌<◌, Bool, true, false, eqb, cond, List, ◌++◌, length, take, drop, refl, sym, ap, subst, ◌∙◌, Option, Some, None, arith}
use Rattle.std.specs.Prelude.{not, ◌&&◌, ◌||◌, nat_lt, Contains}
use Rattle.std.specs.Option.{option_map}
use Rattle.std.proofs.lemmas.Bool.{eqb-true, and_parts, not-true, true≢false, both_ways, ltb-true, false_from_ne_true}
use Rattle.std.proofs.lemmas.Option.{none-some, same_Some}
use Rattle.std.proofs.lemmas.List.Elements.{All-contains}
use Rattle.task_base.specs.Plan.{Plan}
use Rattle.task_base.specs.Keys.{key_below}
use Rattle.task_base.specs.Runners.{sequence_of}
use Rattle.task_base.specs.declared.entry.Entry.{Entry}
use Rattle.task_base.specs.declared.entry.Kind.{Kind}
use Rattle.task_base.specs.declared.entry.Kind.TheVariants as kinds
use Rattle.task_base.specs.declared.source.Key.{Key}
use Rattle.task_base.specs.declared.source.TaskSource.{TaskSource}
use Rattle.task_base.specs.declared.source.TaskSource.TheVariants.{Sequence, Job}
use Rattle.list_laws.specs.Lists.{holds_of}
use Rattle.list_laws.proofs.Elements.{AllByRecursion-contains}
use Rattle.list_laws.proofs.Made.{contains_filter, contains_filter_map}
use Rattle.list_laws.proofs.Ranks.{by_less}
use Rattle.task_model.specs.Time.{tick_from}
use Rattle.task_model.specs.Posts.{Posted, is_delayed, post_behind, posts, is_taken}
use Rattle.task_model.specs.Keys.{Ready, key_at, key_of, ready}
use Rattle.task_model.specs.Refusal.{is_forbidden}
use Rattle.task_model.specs.Sequences.{is_of, may_start, eligible, head_of}
use Rattle.task_model.specs.Sources.{Candidate, best_of}
use Rattle.pool_laws.specs.Keys.{ready_below, IsHead}
use Rattle.pool_laws.proofs.Keys.Ready.{posts_within, key_within, ticked}
use Rattle.pool_laws.proofs.Choice.Least.{head_is_least, keys_total, head_is}
use Rattle.hist_model.specs.Allowed.{is_head_of, is_ready_worker, may_come}
use Rattle.hist_model.specs.Legal.{IsLegal}
use Rattle.hist_model.specs.Laws.Places.{IsAt}
use Rattle.hist_model.specs.Laws.Order.{HasKeyAt}
use Rattle.hist_model.proofs.Laws.AtPlaces.{of_past, length-past, past_is_legal, may_come_at}
use Rattle.hist_model.proofs.Laws.Choice.{Found, found}
use Rattle.hist_model.proofs.Laws.Phases.{forbidden_on}
use Rattle.hist_model.proofs.Laws.State.{same_at}
use Rattle.hist_model.proofs.Laws.Order.Pasts.{take_take, longer_past, still_taken, taken_behind, tick_early}
use Rattle.hist_model.proofs.Laws.Order.Pasts.{IsPostedAt, was_posted, posts_early, no_tick_before}

-- ---- keys

-- the key tells the place of the post
pub key_post : (past : List Entry) (p : Posted) (key : Key) → key_of past p ≡ Some key → key.post ≡ p.place
key_post past p key is = by_delayed (is_delayed p) is
  where
    late : (o : Option ℕ) → option_map (ticked p) o ≡ Some key → key.post ≡ p.place
    late None h = absurd (none-some key h)
    late (Some place) h = sym (ap (λ k. k.post) (same_Some _ key h))

    by_delayed : (b : Bool) → cond b (option_map (ticked p) (tick_from past p.ripe)) (Some (key_at p.place)) ≡ Some key → key.post ≡ p.place
    by_delayed true h = late (tick_from past p.ripe) h
    by_delayed false h = sym (ap (λ k. k.post) (same_Some _ key h))

-- a key whose place stands in the front is known in the front, and so is its task
pub key_early : (script : Plan) (past rest : List Entry) (p : Posted) (key : Key) → IsLegal script (past ++ rest) → Contains (posts (past ++ rest)) p
    → key_of (past ++ rest) p ≡ Some key → key.place < length past → Contains (posts past) p × (key_of past p ≡ Some key)
key_early script past rest p key legal among is less = by_delayed (is_delayed p) refl is
  where
    later : List Entry
    later = past ++ rest

    was : IsPostedAt false later p
    was = was_posted false later p among

    late : is_delayed p ≡ true → (o : Option ℕ) → tick_from later p.ripe ≡ o → option_map (ticked p) o ≡ Some key
        → Contains (posts past) p × (option_map (ticked p) (tick_from past p.ripe) ≡ Some key)
    late delayed None tick h = absurd (none-some key h)
    late delayed (Some place) tick h =
        let here : place ≡ key.place = ap (λ k. k.place) (same_Some _ key h) in (
          posts_early false past rest p among (omega (arith, here, less, no_tick_before script false later p place legal was delayed tick)),
          ap (option_map (ticked p)) (tick_early past rest p.ripe place tick (omega (arith, here, less))) ∙ h,
        )

    by_delayed : (b : Bool) → is_delayed p ≡ b → cond b (option_map (ticked p) (tick_from later p.ripe)) (Some (key_at p.place)) ≡ Some key
        → Contains (posts past) p × (cond b (option_map (ticked p) (tick_from past p.ripe)) (Some (key_at p.place)) ≡ Some key)
    by_delayed true delayed h = late delayed (tick_from later p.ripe) refl h
    by_delayed false immediate h = (posts_early false past rest p among (omega (arith, ap (λ k. k.place) (same_Some _ key h), less)), h)

-- ---- heads

-- the head that a take takes
pub record TakesHead (script : Plan) (past : List Entry) (task runner : ℕ) : Type 0 where
  pub head : Ready
  pub is_head : head_of script past (sequence_of script runner task) ≡ Some head
  pub task_is : head.posted.task ≡ task
  pub home_is : head.posted.home ≡ runner

pub takes_head : (script : Plan) (past : List Entry) (seat task runner value : ℕ) → may_come script past seat (kinds.Take task runner value) ≡ true
    → TakesHead script past task runner
unfolding may_come
takes_head script past seat task runner value h = of_best (found (λ c. is_head_of script past task runner value c.source) (best_of script past seat)
    (and_parts (is_ready_worker script past seat) _ h).1)
  where
    is_it : Ready → Bool
    is_it r = eqb r.posted.task task && eqb r.posted.home runner

    of_source : (source : TaskSource) → is_head_of script past task runner value source ≡ true → TakesHead script past task runner
    of_source (Job j) k = absurd cc
    of_source (Sequence s) k =
        let head = found is_it (head_of script past s) (and_parts (holds_of is_it (head_of script past s)) _ k).0 in
        let same = and_parts (eqb head.value.posted.task task) (eqb head.value.posted.home runner) head.passes in
        let task_is = eqb-true head.value.posted.task task same.0 in
        let home_is = eqb-true head.value.posted.home runner same.1 in
        record {
          head = head.value;
          is_head = ap (head_of script past) (ap (λ t. sequence_of script runner t) (sym task_is)
              ∙ ap (λ r. sequence_of script r head.value.posted.task) (sym home_is)
              ∙ eqb-true (sequence_of script head.value.posted.home head.value.posted.task) s (head_is script past s head.value head.is).of_sequence) ∙ head.is;
          task_is = task_is;
          home_is = home_is;
        }

    of_best : Found Candidate (λ c. is_head_of script past task runner value c.source) (best_of script past seat) → TakesHead script past task runner
    of_best c = of_source c.value.source c.passes

-- a task that has a key and may start is among the eligible
pub among_eligible : (script : Plan) (past : List Entry) (s : ℕ) (p : Posted) (key : Key) → Contains (posts past) p → key_of past p ≡ Some key
    → is_of script s p ≡ true → is_taken past p.task ≡ false → is_forbidden script past p ≡ false
    → Contains (eligible script past s) (record { posted = p; key = key })
unfolding eligible ready
among_eligible script past s p key among keyed of free starts = contains_filter (λ r. is_of script s r.posted && may_start script past r.posted) _ _
    (contains_filter_map (λ q. option_map (λ k. record { posted = q; key = k }) (key_of past q)) (posts past) p (record { posted = p; key = key }) among
    (ap (option_map (λ k. record { posted = p; key = k })) keyed))
    (rw (of, free, starts) refl)

-- of immediate tasks with keys one below the other the first was posted first
pub posted_first : (m n : ℕ) → key_below (key_at m) (key_at n) ≡ true → m < n
posted_first m n h = at (nat_lt m n) refl h
  where
    at : (b : Bool) → nat_lt m n ≡ b → (b || (eqb m n && b)) ≡ true → m < n
    at true less k = ltb-true m n less
    at false less k = absurd (true≢false (sym k ∙ none (eqb m n)))
      where
        none : (b : Bool) → (b && false) ≡ false
        none true = refl
        none false = refl

-- the key of an immediate task is where it was posted
pub immediate_key : (past : List Entry) (p : Posted) (key : Key) → p.delay ≡ 0 → key_of past p ≡ Some key → key_at p.place ≡ key
immediate_key past p key now is = same_Some _ key
    (ap (λ d. cond (nat_lt 0 d) (option_map (ticked p) (tick_from past p.ripe)) (Some (key_at p.place))) (sym now) ∙ is)

-- what is known of the first and of the second take
pub record Taking (script : Plan) (log : List Entry) (place task runner : ℕ) : Type 0 where
  pub p : Posted
  pub key : Key
  pub among : Contains (posts (take place log)) p
  pub keyed : key_of (take place log) p ≡ Some key
  pub task_is : p.task ≡ task
  pub home_is : p.home ≡ runner
  pub before : p.place < place
  pub seat : ℕ
  pub posted : IsAt log p.place seat (kinds.Post task runner p.delay true)
  pub same : post_behind (take p.place log) task runner p.delay ≡ p
  pub of_sequence : is_of script (sequence_of script runner task) p ≡ true
  pub free : may_start script (take place log) p ≡ true
  pub least : (r : Ready) → Contains (eligible script (take place log) (sequence_of script runner task)) r → key_below r.key key ≡ false
  pub within : key.place < place

pub taking : (script : Plan) (log : List Entry) (k seat task runner value : ℕ) → IsLegal script log → IsAt log k seat (kinds.Take task runner value)
    → Taking script log k task runner
taking script log k seat task runner value legal is = record {
  p = p;
  key = t.head.key;
  among = head.accepted;
  keyed = head.keyed;
  task_is = t.task_is;
  home_is = t.home_is;
  before = there.0;
  seat = was.seat;
  posted = there.1 ∙ ap (λ n. Some (record { seat = was.seat; kind = kinds.Post n p.home p.delay true })) t.task_is
      ∙ ap (λ r. Some (record { seat = was.seat; kind = kinds.Post task r p.delay true })) t.home_is;
  same = ap (λ before. post_behind before task runner p.delay) (sym (take_take log p.place k (omega (arith, there.0))))
      ∙ ap (λ n. post_behind (take p.place past) n runner p.delay) (sym t.task_is)
      ∙ ap (λ r. post_behind (take p.place past) p.task r p.delay) (sym t.home_is) ∙ was.same;
  of_sequence = head.of_sequence;
  free = head.free;
  least = λ r among. All-contains (λ y. ready_below y t.head ≡ false) (eligible script past s) r
      (head_is_least script past s t.head t.is_head).none_below among;
  within = subst (λ n. t.head.key.place < n) (length-past log k _ is) (ltb-true t.head.key.place (length past) (key_within past p t.head.key
      (AllByRecursion-contains (λ q. nat_lt q.place (length past) ≡ true) (posts past) p (posts_within past) head.accepted) head.keyed));
}
  where
    past : List Entry
    past = take k log

    s : ℕ
    s = sequence_of script runner task

    t : TakesHead script past task runner
    t = takes_head script past seat task runner value (may_come_at script log k _ legal is)

    p : Posted
    p = t.head.posted

    head : IsHead script past s t.head
    head = head_is script past s t.head t.is_head

    was : IsPostedAt false past p
    was = was_posted false past p head.accepted

    there : (p.place < k) × IsAt log p.place was.seat (kinds.Post p.task p.home p.delay true)
    there = of_past log p.place k _ was.is

-- the task of a post
abbrev pub posted_task : Kind → ℕ
posted_task (kinds.Post task runner delay ok) = task
posted_task kind = 0

-- the key of the first of two takes of one sequence is below that of the second
pub keys_rise : (script : Plan) (log : List Entry) (i j seat worker task other runner home value w : ℕ) → IsLegal script log → i < j
    → IsAt log i seat (kinds.Take task runner value) → IsAt log j worker (kinds.Take other home w)
    → sequence_of script runner task ≡ sequence_of script home other → (a : Taking script log i task runner) (b : Taking script log j other home)
    → key_below a.key b.key ≡ true
keys_rise script log i j seat worker task other runner home value w legal less first second one a b = at (nat_lt b.key.place i) refl
  where
    past : List Entry
    past = take i log

    rest : List Entry
    rest = drop i (take j log)

    longer : past ++ rest ≡ take j log
    longer = longer_past log i j (omega (arith, less))

    free : (not (is_taken (take j log) b.p.task) ≡ true) × (not (is_forbidden script (take j log) b.p) ≡ true)
    free = and_parts (not (is_taken (take j log) b.p.task)) (not (is_forbidden script (take j log) b.p)) b.free

    not_taken : is_taken (take j log) b.p.task ≡ false
    not_taken = not-true (is_taken (take j log) b.p.task) free.0

    -- the second task waited already when the first was taken
    waited : b.key.place < i → key_below b.key a.key ≡ false
    waited early =
        let known = key_early script past rest b.p b.key (subst (IsLegal script) (sym longer) (past_is_legal script log j _ legal second))
        (subst (λ l. Contains (posts l) b.p) (sym longer) b.among) (ap (λ l. key_of l b.p) longer ∙ b.keyed)
        (omega (arith, early, length-past log i _ first)) in
        a.least (record { posted = b.p; key = b.key }) (among_eligible script past (sequence_of script runner task) b.p b.key known.0 known.1
        (ap (λ s. is_of script s b.p) one ∙ b.of_sequence)
        (false_from_ne_true (is_taken past b.p.task) (λ h. both_ways (is_taken (take j log) b.p.task) not_taken (still_taken log i j b.p.task less h)))
        (false_from_ne_true (is_forbidden script past b.p) (λ h. both_ways (is_forbidden script (take j log) b.p) (not-true _ free.1)
        (subst (λ l. is_forbidden script l b.p ≡ true) longer (forbidden_on script past rest b.p h)))))

    -- the two have two posts
    differ : a.key ≡ b.key → ⊥
    differ same =
        let place : a.p.place ≡ b.p.place = sym (key_post past a.p a.key a.keyed) ∙ ap (λ k. k.post) same ∙ key_post (take j log) b.p b.key b.keyed in
        let task_is : task ≡ other = ap posted_task (same_at log a.p.place b.p.place a.seat b.seat _ _ place a.posted b.posted) in
        both_ways (is_taken (take j log) b.p.task) not_taken (ap (is_taken (take j log)) (b.task_is ∙ sym task_is)
        ∙ taken_behind log i j seat task runner value less first)

    settled : key_below b.key a.key ≡ false → (c : Bool) → key_below a.key b.key ≡ c → key_below a.key b.key ≡ true
    settled not_after true h = h
    settled not_after false h = absurd (differ (keys_total a.key b.key h not_after))

    at : (c : Bool) → nat_lt b.key.place i ≡ c → key_below a.key b.key ≡ true
    at true early = settled (waited (ltb-true b.key.place i early)) (key_below a.key b.key) refl
    at false late = by_less (λ k. k.place) (λ x y. nat_lt x.ripe y.ripe || (eqb x.ripe y.ripe && nat_lt x.post y.post)) a.key b.key
        (grind (arith, late, a.within))

-- the task that is taken has a key
abbrev pub has_key : (script : Plan) (log : List Entry) (place task runner : ℕ) → Taking script log place task runner → HasKeyAt log place task runner
has_key script log place task runner a = record {
  post = a.p.place;
  poster = a.seat;
  delay = a.p.delay;
  key = a.key;
  before = a.before;
  posts = a.posted;
  keyed = ap (key_of (take place log)) a.same ∙ a.keyed;
}
