-- What is chosen from a list is one of its elements.
-- Cited by `Laws/BySound`, `Laws/Entries/Tasks`, `Laws/JobEntries`, `Laws/OneThing`, `Laws/OpenPlans`, `Laws/Order/Draws`,
-- `Laws/Order/Keys`, `Laws/Progress/Coming`, `Laws/Progress/Jobs`, `Laws/Progress/Pump`, `Laws/Progress/Tasks`, `Laws/Progress/Workers`,
-- `Laws/Rising`, `Laws/Shutdown/Histories`, `Laws/State`, `Laws/Takes`, `Laws/Wants`, `Laws/Ways`, `env_core`, `live_core`, `log_count`,
-- `run_summary`, `situation`, `task_reply`.
use Rattle.std.proofs.Common.{◌≡◌, ℕ, Bool, true, false, eqb, List, [], ◌∷◌, refl, subst, Option, Some, None}
use Rattle.std.specs.Prelude.{not, length, Contains, filter, if◌then◌else◌}
use Rattle.std.specs.List.{AllByRecursion, filter_map, cons_option, range_with_len, flat_map}
use Rattle.std.specs.Option.{option_map, option_to_list}
use Rattle.std.proofs.lemmas.Bool.{eqb-true, and_parts, not-true}
use Rattle.std.proofs.lemmas.Option.{none-some, same_Some}
use Rattle.task_base.specs.Plan.{Plan}
use Rattle.task_base.specs.declared.entry.Entry.{Entry}
use Rattle.task_model.specs.Policies.{is_held}
use Rattle.task_model.specs.Seats.{runs_sequence}
use Rattle.task_model.specs.Jobs.{job_post_of, may_enter}
use Rattle.task_model.specs.Sources.{would_wait, Candidate, sequence_candidate, job_candidate, sequence_waiting}
use Rattle.task_model.specs.Sources.{job_waiting, waiting, is_takeable, goes_before, best_of}
use Rattle.list_laws.specs.Lists.{least, holds_of}
use Rattle.task_model.specs.Posts.{Posted, main_posts, is_main_taken}
use Rattle.task_base.specs.Runners.{sequence_count}
use Rattle.task_model.specs.Sequences.{head_of}
use Rattle.task_base.specs.declared.script.Lane.{Lane}
use Rattle.task_base.specs.declared.script.Lane.TheVariants.{Immediate, Delayed}
use Rattle.task_model.specs.Orders.{order_of}
use Rattle.task_model.specs.MainQueues.{choice_among, of_least_class, streak_of, Front, is_of_lane, is_immediate, is_in_lane}
use Rattle.task_model.specs.MainQueues.{front_with, order_below, front_of, fronts_of, is_open, open_fronts, class_of}
use Rattle.queue_laws.specs.Fronts.{chosen_class, chosen_fronts, IsOpen}
use Rattle.task_model.specs.MainQueues.{immediate_fronts, is_starved, chosen_of}
use Rattle.list_laws.proofs.Least.{least_from-is}
use Rattle.list_laws.proofs.Filters.{filter_passes}
use Rattle.list_laws.proofs.Elements.{AllByRecursion-filter, AllByRecursion-append, AllByRecursion-both, AllByRecursion-always, AllByRecursion-each_list}
use Rattle.list_laws.proofs.Elements.{AllByRecursion-contains_itself, AllByRecursion-map}
use Rattle.hist_model.specs.Laws.Choice.{IsWaitingSource, MayBeTaken, IsFront}

-- a value that passes the test
pub record Found (A : Type 0) (test : A → Bool) (o : Option A) : Type 0 where
  pub value : A
  pub is : o ≡ Some value
  pub passes : test value ≡ true

pub found : {A : Type 0} (test : A → Bool) (o : Option A) → holds_of test o ≡ true → Found A test o
found test None h = absurd cc
found test (Some x) h = record { value = x; is = refl; passes = h }

-- what holds of all elements holds of the least
pub of_least : {A : Type 0} (P : A → Type 0) (below : A → A → Bool) (xs : List A) (p : A) → AllByRecursion P xs → least below xs ≡ Some p → P p
of_least P below [] p all is = absurd cc
of_least P below (x ∷ xs) p all is = subst P (same_Some _ _ is) (least_from-is P below x xs all.0 all.1)

-- what a filter keeps passes the test and keeps what holds of it
pub of_filter : {A : Type 0} (P : A → Type 0) (test : A → Bool) (xs : List A) → AllByRecursion P xs
    → AllByRecursion (λ x. P x × (test x ≡ true)) (filter test xs)
of_filter P test xs all = AllByRecursion-both P (λ x. test x ≡ true) (filter test xs) (AllByRecursion-filter P test xs all) (filter_passes test xs)

-- what a partial map gives comes of an element
pub of_filter_map : {A B : Type 0} (P : A → Type 0) (Q : B → Type 0) (f : A → Option B) (xs : List A) → AllByRecursion P xs
    → ((x : A) (y : B) → P x → f x ≡ Some y → Q y) → AllByRecursion Q (filter_map f xs)
of_filter_map {A = A} {B = B} P Q f [] all step = tt
of_filter_map {A = A} {B = B} P Q f (x ∷ xs) all step = at (f x) refl (of_filter_map P Q f xs all.1 step)
  where
    at : (o : Option B) → f x ≡ o → AllByRecursion Q (filter_map f xs) → AllByRecursion Q (cons_option o (filter_map f xs))
    at None is rest = rest
    at (Some y) is rest = (step x y all.0 is, rest)

-- what an optional value is mapped to comes of it
pub option_map_some : {A B : Type 0} (f : A → B) (o : Option A) (y : B) → option_map f o ≡ Some y → (x : A) × (o ≡ Some x) × (f x ≡ y)
option_map_some f None y h = absurd (none-some y h)
option_map_some f (Some x) y h = (x, refl, same_Some (f x) y h)

sequence_waits : (script : Plan) (past : List Entry) (s : ℕ) (c : Candidate) → sequence_waiting script past s ≡ Some c → IsWaitingSource script past c.source
sequence_waits script past s c is = at (runs_sequence script past s) refl is
  where
    at : (runs : Bool) → runs_sequence script past s ≡ runs
        → (if runs then None else option_map (sequence_candidate script past s) (head_of script past s)) ≡ Some c → IsWaitingSource script past c.source
    at true runs_is e = absurd (none-some c e)
    at false runs_is e = let (r, head_is, made) = option_map_some (sequence_candidate script past s) (head_of script past s) c e in
        subst (λ x. IsWaitingSource script past x.source) made (r, head_is, runs_is)

job_waits : (script : Plan) (past : List Entry) (j : ℕ) (c : Candidate) → job_waiting script past j ≡ Some c → IsWaitingSource script past c.source
job_waits script past j c is = at (may_enter script past j) refl is
  where
    at : (enters : Bool) → may_enter script past j ≡ enters
        → (if enters then option_map (job_candidate script past j) (job_post_of past j) else None) ≡ Some c → IsWaitingSource script past c.source
    at false enters_is e = absurd (none-some c e)
    at true enters_is e = let (post, post_is, made) = option_map_some (job_candidate script past j) (job_post_of past j) c e in
        subst (λ x. IsWaitingSource script past x.source) made enters_is

-- what is known of each source that waits
each_waits : (script : Plan) (past : List Entry) → AllByRecursion (λ c. IsWaitingSource script past c.source × (not (is_held past c.priority) ≡ true))
    (waiting script past)
unfolding waiting would_wait
each_waits script past = of_filter (λ c. IsWaitingSource script past c.source) (λ c. not (is_held past c.priority)) _
    (AllByRecursion-append (λ c. IsWaitingSource script past c.source) _ _
    (of_filter_map (λ s. Unit {0}) (λ c. IsWaitingSource script past c.source) (sequence_waiting script past) _
    (AllByRecursion-always (λ s. Unit {0}) (range_with_len 0 (sequence_count script)) (λ s. tt)) (λ s c unit is. sequence_waits script past s c is))
    (of_filter_map (λ j. Unit {0}) (λ c. IsWaitingSource script past c.source) (job_waiting script past) _
    (AllByRecursion-always (λ j. Unit {0}) (range_with_len 0 (length script.jobs)) (λ j. tt)) (λ j c unit is. job_waits script past j c is)))

-- what is known of the best source
pub best_is : (script : Plan) (past : List Entry) (seat : ℕ) (c : Candidate) → best_of script past seat ≡ Some c → MayBeTaken script past seat c
unfolding best_of
best_is script past seat c is = of_least (MayBeTaken script past seat) goes_before (filter (is_takeable script past seat) (waiting script past)) c
    (AllByRecursion-map (λ x. (IsWaitingSource script past x.source × (not (is_held past x.priority) ≡ true)) × (is_takeable script past seat x ≡ true))
    (MayBeTaken script past seat) (filter (is_takeable script past seat) (waiting script past))
    (λ x all. record { waits = all.0.0; not_held = not-true (is_held past x.priority) all.0.1; takeable = all.1 })
    (of_filter _ (is_takeable script past seat) (waiting script past) (each_waits script past))) is

-- what is known of a front
front_is : (script : Plan) (past : List Entry) (q : ℕ) (lane : Lane) (f : Front) → front_of script past q lane ≡ Some f → IsFront past f
unfolding front_of
front_is script past q lane f is = of_least (IsFront past) order_below
    (filter_map (front_with script past q lane) (filter (is_in_lane past q lane) (main_posts past))) f
    (of_filter_map (λ p. Contains (main_posts past) p × (is_in_lane past q lane p ≡ true)) (IsFront past) (front_with script past q lane)
    (filter (is_in_lane past q lane) (main_posts past))
    (of_filter (Contains (main_posts past)) (is_in_lane past q lane) (main_posts past) (AllByRecursion-contains_itself (main_posts past)))
    with_order) is
  where
    with_order : (p : Posted) (g : Front) → Contains (main_posts past) p × (is_in_lane past q lane p ≡ true) → front_with script past q lane p ≡ Some g
        → IsFront past g
    with_order p g among has =
        let (order, order_is, made) = option_map_some (λ n. record { queue = q; lane = lane; task = p.task; order = n; class = class_of script past q })
        (order_of past p) g has in
        let last = and_parts _ (not (is_main_taken past p.task)) among.1 in
        subst (IsFront past) made (record {
          accepted = p;
          posted = among.0;
          task_is = refl;
          queue_is = eqb-true p.home q (and_parts (eqb p.home q) (is_of_lane lane p) last.0).0;
          not_taken = not-true (is_main_taken past p.task) last.1;
          order_is = order_is;
        })

each_front : (script : Plan) (past : List Entry) (q : ℕ) → AllByRecursion (IsFront past) (fronts_of script past q)
each_front script past q = AllByRecursion-append (IsFront past) (option_to_list (front_of script past q Immediate))
    (option_to_list (front_of script past q Delayed)) (one Immediate (front_of script past q Immediate) refl)
    (one Delayed (front_of script past q Delayed) refl)
  where
    one : (lane : Lane) (o : Option Front) → front_of script past q lane ≡ o → AllByRecursion (IsFront past) (option_to_list o)
    one lane None is = tt
    one lane (Some f) is = (front_is script past q lane f is, tt)

-- it is a front, and open
abbrev IsOpenFront : Plan → List Entry → Front → Type 0
IsOpenFront script past f = IsFront past f × IsOpen script past f

-- what is known of each open front
each_open : (script : Plan) (past : List Entry) → AllByRecursion (IsOpenFront script past) (open_fronts script past)
unfolding open_fronts
each_open script past = of_filter (IsFront past) (is_open script past) (flat_map (fronts_of script past) (range_with_len 0 (length script.queues)))
    (AllByRecursion-each_list (IsFront past) (fronts_of script past) (range_with_len 0 (length script.queues)) (each_front script past))

-- what is known of the chosen front
pub chosen_is : (script : Plan) (past : List Entry) (f : Front) → chosen_of script past ≡ Some f → IsFront past f × IsOpen script past f
unfolding choice_among of_least_class
chosen_is script past f is = of_least (IsOpenFront script past) order_below
    (if is_starved (open_fronts script past) (streak_of script past) then immediate_fronts script past else chosen_fronts script past) f
    (either (is_starved (open_fronts script past) (streak_of script past))) is
  where
    chosen : AllByRecursion (IsOpenFront script past) (chosen_fronts script past)
    chosen = AllByRecursion-filter (IsOpenFront script past) (λ g. holds_of (λ class. eqb g.class class) (chosen_class script past)) (open_fronts script past)
        (each_open script past)

    either : (b : Bool) → AllByRecursion (IsOpenFront script past) (if b then immediate_fronts script past else chosen_fronts script past)
    either true = AllByRecursion-filter (IsOpenFront script past) (λ g. is_immediate g.lane) (chosen_fronts script past) chosen
    either false = chosen
