-- The front of a nest is the front that the main queues choose.
-- Cited by `Kept`.
use Rattle.std.proofs.Common.{◌≡◌, ℕ, ◌<◌, length, Bool, true, false, cond, eqb, List, [], ◌∷◌, ◌++◌}
use Rattle.std.proofs.Common.{map, refl, sym, ap, ◌∙◌, subst, Option, Some, None, arith, length-append}
use Rattle.std.specs.Prelude.{◌||◌, ◌&&◌, not, nat_lt, slice_get, filter}
use Rattle.std.specs.List.{AllByRecursion}
use Rattle.std.specs.Option.{option_map, option_map_or}
use Rattle.std.proofs.lemmas.Bool.{lt-ltb}
use Rattle.std.proofs.lemmas.Option.{slice_get-map}
use Rattle.list_laws.specs.Lists.{least, least_from, then_by, Ranks}
use Rattle.list_laws.specs.Sorts.{Rises, SameMembers}
use Rattle.list_laws.proofs.Elements.{AllByRecursion-append, AllByRecursion-map, push_induction}
use Rattle.list_laws.proofs.Filters.{filter-map, filter_congr}
use Rattle.list_laws.proofs.Least.{least-map}
use Rattle.list_laws.proofs.Ranks.{ranks_by}
use Rattle.list_laws.proofs.Rises.{rises-filter}
use Rattle.list_laws.proofs.Sorts.{rises-append}
use Rattle.task_base.specs.declared.entry.Entry.{Entry}
use Rattle.task_model.specs.MainQueues.{chosen_of, voters_of}
use Rattle.queue_laws.specs.Orders.{Ordered, main_arrivals, ordered, ordered_below}
use Rattle.task_model.specs.Posts.{is_main_taken, main_posts}
use Rattle.queue_laws.proofs.Arrivals.{main_arrivals_rise}
use Rattle.sequence_manager.specs.Postings.{MainPosting}
use Rattle.nested_loop.specs.Plan.{NestPlan}
use Rattle.nested_loop.specs.Nest.{NestPosted, class_of_post, front_task, is_started, posted_by, posted_tasks, waiting_tasks, was_deferred}
use Rattle.nested_loop.specs.Waiting.{TellsEntries, posting_of_entry, posting_of_nest, queue_of_class, nest_script}
use Rattle.nested_loop.specs.declared.event.Event.{Event}
use Rattle.nested_loop.specs.declared.event.Event.TheVariants as events
use Rattle.nested_loop.proofs.Choice.{chosen_task}
use Rattle.nested_loop.proofs.Growth.{posted_tasks_push}
use Rattle.nested_loop.proofs.Plain.{IsPlain, first_class, plain_past}

-- in a list that rises, the least by a number and then by place is the first of the least number
least_from_first : {A : Type 0} (f : A → ℕ) (below : A → A → Bool) → Ranks below → (x : A) (xs : List A) → Rises below (x ∷ xs)
    → least_from (then_by f below) x xs ≡ least_from (λ a b. nat_lt (f a) (f b)) x xs
least_from_first f below ranks x [] rises = refl
least_from_first {A = A} f below ranks x (y ∷ ys) rises =
    ap (λ b. least_from (then_by f below) (cond b y x) ys) (by_order (nat_lt (f y) (f x)) (eqb (f y) (f x)) (below y x) (ranks.one_way x y rises.0.0))
    ∙ on (nat_lt (f y) (f x)) (least_from_first f below ranks y ys rises.1) (least_from_first f below ranks x ys (rises.0.1, rises.1.1))
  where
    by_order : (lt same b : Bool) → b ≡ false → (lt || (same && b)) ≡ lt
    by_order true same b is = refl
    by_order false true b is = is
    by_order false false b is = refl

    on : (b : Bool) → least_from (then_by f below) y ys ≡ least_from (λ a c. nat_lt (f a) (f c)) y ys
        → least_from (then_by f below) x ys ≡ least_from (λ a c. nat_lt (f a) (f c)) x ys
        → least_from (then_by f below) (cond b y x) ys ≡ least_from (λ a c. nat_lt (f a) (f c)) (cond b y x) ys
    on true of_y of_x = of_y
    on false of_y of_x = of_x

least_first : {A : Type 0} (f : A → ℕ) (below : A → A → Bool) → Ranks below → (xs : List A) → Rises below xs
    → least (then_by f below) xs ≡ least (λ a b. nat_lt (f a) (f b)) xs
least_first f below ranks [] rises = refl
least_first f below ranks (x ∷ xs) rises = ap Some (least_from_first f below ranks x xs rises)

-- posts stand in the order of their places
abbrev earlier : NestPosted → NestPosted → Bool
earlier p q = nat_lt p.place q.place

record PostedInOrder (past : List Event) : Type 0 where
  rises : Rises earlier (posted_tasks past)
  within : AllByRecursion (λ p. p.place < length past) (posted_tasks past)

posted_at : (place : ℕ) (event : Event) → Rises earlier (posted_by place event) × AllByRecursion (λ p. p.place ≡ place) (posted_by place event)
posted_at place (events.Post task queue) = ((tt, tt), (refl, tt))
posted_at place event = (tt, tt)

posted_in_order : (past : List Event) → PostedInOrder past
unfolding posted_tasks
posted_in_order = push_induction PostedInOrder (record { rises = tt; within = tt }) (λ past event sorted.
    let new = posted_at (length past) event in
    let grown = sym (posted_tasks_push past event) in
    record {
      rises = subst (Rises earlier) grown (rises-append earlier (posted_tasks past) (posted_by (length past) event) sorted.rises new.0
          (AllByRecursion-map (λ p. p.place < length past) (λ p. AllByRecursion (λ q. earlier p q ≡ true) (posted_by (length past) event)) (posted_tasks past)
          (λ p lt. AllByRecursion-map (λ q. q.place ≡ length past) (λ q. earlier p q ≡ true) (posted_by (length past) event)
          (λ q at. lt-ltb p.place q.place (omega (arith, lt, at))) new.1) sorted.within));
      within = subst (AllByRecursion (λ p. p.place < length (past ++ event ∷ []))) grown
          (AllByRecursion-append (λ p. p.place < length (past ++ event ∷ [])) (posted_tasks past) (posted_by (length past) event)
          (AllByRecursion-map (λ p. p.place < length past) (λ p. p.place < length (past ++ event ∷ [])) (posted_tasks past)
          (λ p lt. omega (arith, lt, length-append past (event ∷ []))) sorted.within)
          (AllByRecursion-map (λ p. p.place ≡ length past) (λ p. p.place < length (past ++ event ∷ [])) (posted_by (length past) event)
          (λ p at. omega (arith, at, length-append past (event ∷ []))) new.1));
    })

-- the class of a queue in the script is that in the nest
class_in_script : (nest : NestPlan) (q : ℕ) → first_class (nest_script nest) q ≡ option_map_or (λ class. class) (slice_get nest.classes q) 0
class_in_script nest q = ap (λ o. option_map_or (λ queue. queue.class) o 0) (slice_get-map queue_of_class nest.classes q) ∙ by_class (slice_get nest.classes q)
  where
    by_class : (o : Option ℕ) → option_map_or (λ queue. queue.class) (option_map queue_of_class o) 0 ≡ option_map_or (λ class. class) o 0
    by_class None = refl
    by_class (Some class) = refl

pub no_voters : (nest : NestPlan) (q : ℕ) → voters_of (nest_script nest) q ≡ 0
no_voters nest q = ap (λ o. option_map_or (λ queue. queue.voters) o 0) (slice_get-map queue_of_class nest.classes q) ∙ by_class (slice_get nest.classes q)
  where
    by_class : (o : Option ℕ) → option_map_or (λ queue. queue.voters) (option_map queue_of_class o) 0 ≡ 0
    by_class None = refl
    by_class (Some class) = refl

-- the class of the queue of a posting
class_of_posting : NestPlan → MainPosting → ℕ
class_of_posting nest m = first_class (nest_script nest) m.queue

abbrev lesser_class : NestPlan → MainPosting → MainPosting → Bool
lesser_class nest a b = nat_lt (class_of_posting nest a) (class_of_posting nest b)

-- what waits, as postings
postings_that_wait : NestPlan → List Event → List MainPosting
postings_that_wait nest past = map posting_of_nest (waiting_tasks past)

front_is : (nest : NestPlan) (past : List Event) → front_task nest past ≡ option_map (λ m. m.task) (least (lesser_class nest) (postings_that_wait nest past))
unfolding front_task postings_that_wait waiting_tasks class_of_posting
front_is nest past =
    ap (option_map (λ p. p.task)) (least_first (class_of_post nest) earlier (ranks_by (λ p. p.place)) (waiting_tasks past)
    (rises-filter earlier (λ p. not (was_deferred past p.task) && not (is_started past p.task)) (posted_tasks past) (posted_in_order past).rises))
    ∙ of_map (least (λ a b. nat_lt (class_of_post nest a) (class_of_post nest b)) (waiting_tasks past))
    ∙ ap (option_map (λ m. m.task))
    (sym (least-map (λ a b. nat_lt (class_of_post nest a) (class_of_post nest b)) (lesser_class nest) posting_of_nest (waiting_tasks past)
    (λ a b. ap (λ n. nat_lt n (class_of_posting nest (posting_of_nest b))) (class_in_script nest a.queue)
    ∙ ap (λ n. nat_lt (class_of_post nest a) n) (class_in_script nest b.queue))))
  where
    of_map : (o : Option NestPosted) → option_map (λ p. p.task) o ≡ option_map (λ m. m.task) (option_map posting_of_nest o)
    of_map None = refl
    of_map (Some p) = refl

map-map : {A B C : Type 0} (g : B → C) (f : A → B) (xs : List A) → map g (map f xs) ≡ map (λ x. g (f x)) xs
map-map g f [] = refl
map-map g f (x ∷ xs) = ap (λ ys. g (f x) ∷ ys) (map-map g f xs)

-- the chosen front is that of the nest
pub chosen_is_front : (nest : NestPlan) (past : List Event) (entries : List Entry) → TellsEntries past entries
    → SameMembers (main_arrivals entries) (ordered entries)
    → AllByRecursion (λ p. p.home < length (nest_script nest).queues) (main_posts entries)
    → option_map (λ f. f.task) (chosen_of (nest_script nest) entries) ≡ front_task nest past
unfolding class_of_posting postings_that_wait waiting_tasks
chosen_is_front nest past entries tells same there =
    chosen_task (nest_script nest) entries plain (no_voters nest) same there
    ∙ ap (option_map (λ o. o.posted.task)) (least_first class_of ordered_below (ranks_by (λ o. o.order)) arrivals
    (rises-filter ordered_below (λ o. not (is_main_taken entries o.posted.task)) (main_arrivals entries) (main_arrivals_rise entries)))
    ∙ of_map (least (λ a b. nat_lt (class_of a) (class_of b)) arrivals)
    ∙ ap (option_map (λ m. m.task)) (sym (least-map (λ a b. nat_lt (class_of a) (class_of b)) (lesser_class nest) posting arrivals (λ a b. refl)))
    ∙ ap (λ ms. option_map (λ m. m.task) (least (lesser_class nest) ms)) (
    sym (filter-map (λ m. not (is_main_taken entries m.task)) posting (main_arrivals entries))
    ∙ ap (filter (λ m. not (is_main_taken entries m.task)))
    (sym (map-map posting_of_entry (λ o. o.posted) (main_arrivals entries)) ∙ ap (map posting_of_entry) plain.arrivals ∙ tells.posts)
    ∙ filter-map (λ m. not (is_main_taken entries m.task)) posting_of_nest (posted_tasks past)
    ∙ ap (map posting_of_nest) (filter_congr (λ p. not (is_main_taken entries p.task)) (λ p. not (was_deferred past p.task) && not (is_started past p.task))
    (posted_tasks past) (λ p. ap not (tells.taken p.task) ∙ neither (was_deferred past p.task) (is_started past p.task))))
    ∙ sym (front_is nest past)
  where
    plain : IsPlain (nest_script nest) entries
    plain = plain_past (nest_script nest) entries tells.plain

    class_of : Ordered → ℕ
    class_of o = first_class (nest_script nest) o.posted.home

    arrivals : List Ordered
    arrivals = filter (λ o. not (is_main_taken entries o.posted.task)) (main_arrivals entries)

    posting : Ordered → MainPosting
    posting o = posting_of_entry o.posted

    of_map : (o : Option Ordered) → option_map (λ x. x.posted.task) o ≡ option_map (λ m. m.task) (option_map posting o)
    of_map None = refl
    of_map (Some o) = refl

    neither : (a b : Bool) → not (a || b) ≡ (not a && not b)
    neither true b = refl
    neither false b = refl
