-- The line of the pool.
-- Cited by `Choice`, `Onward/Line`, `log_count`.
use Rattle.std.proofs.Common.{◌≡◌, ℕ, ◌<◌, Bool, true, false, cond, eqb, List, [], ◌∷◌, ◌++◌, length, map, refl, sym, ap, subst, ◌∙◌, Option, Some, None, arith}
use Rattle.std.specs.Prelude.{◌&&◌, ◌||◌, nat_lt, find, filter, is_none}
use Rattle.std.specs.Option.{option_map}
use Rattle.std.specs.List.{AllByRecursion, filter_map}
use Rattle.std.proofs.lemmas.Bool.{true≢false, eqb-true}
use Rattle.std.proofs.lemmas.Option.{none-some, same_Some}
use Rattle.std.specs.Option.{option_or}
use Rattle.std.proofs.lemmas.List.{length-append}
use Rattle.std.proofs.lemmas.List.Elements.{filter_map-append}
use Rattle.std.proofs.lemmas.List.Folds.{find-append}
use Rattle.task_base.specs.Plan.{Plan}
use Rattle.task_base.specs.declared.entry.Entry.{Entry}
use Rattle.task_base.specs.declared.entry.Kind.{Kind}
use Rattle.task_base.specs.declared.entry.Kind.TheVariants as kinds
use Rattle.list_laws.specs.Lists.{Ranks, keep}
use Rattle.list_laws.specs.Sorts.{Rises}
use Rattle.list_laws.proofs.Elements.{AllByRecursion-map, AllByRecursion-append, AllByRecursion-contains, push_induction}
use Rattle.list_laws.proofs.Finds.{find_contains}
use Rattle.list_laws.proofs.Ranks.{by_less}
use Rattle.list_laws.proofs.Sorts.{rises-append, rises-map}
use Rattle.list_laws.proofs.Rises.{rises-filter}
use Rattle.task_model.specs.Past.{fold_past}
use Rattle.task_model.specs.Keys.{Ready}
use Rattle.task_model.specs.Jobs.{JobPosted, job_post_of, job_post_after}
use Rattle.task_model.proofs.Growth.{fold_past-push, job_post_of_push}
use Rattle.pool_laws.specs.Keys.{arrivals, arriving_by, ready_below}
use Rattle.pool_laws.proofs.Choice.Least.{ranks_key}
use Rattle.pool_laws.proofs.Keys.Arrivals.{arrivals_push, arrivals_rise}
use Rattle.list_laws.specs.Sorts.{SameMembers, sort_by}
use Rattle.task_base.specs.declared.source.TaskSource.{TaskSource}
use Rattle.task_base.specs.declared.source.TaskSource.TheVariants.{Sequence, Job}
use Rattle.list_laws.proofs.Elements.{AllByRecursion-always, AllByRecursion-mapped}
use Rattle.task_model.specs.Posts.{Posted, posts, ripens_before}
use Rattle.task_model.specs.Keys.{ready}
use Rattle.task_model.specs.Sequences.{is_of, may_start, head_of}
use Rattle.pool_laws.specs.Keys.{becomes_ripe, ripe_behind, ready_behind}
use Rattle.pool_laws.proofs.Keys.Arrivals.{head_is_first_arrival}
use Rattle.situation.specs.Line.{is_job_open, waits_at, first_at, line_of, Standing, TaskStands, JobStands, standing_key, stands_before, joining_by, comers}
use Rattle.situation.specs.Line.{still_stands, standing, waiter_of}

-- ---- two lists in order, alike but for their keys, put the same before the same

order_alike : {A B : Type 0} (below : A → A → Bool) (f : A → B) (t u : B → Bool) (xs ys : List A) → Ranks below → Rises below xs → Rises below ys
    → map f xs ≡ map f ys
    → (a b c d : A) → find (λ x. t (f x)) xs ≡ Some a → find (λ x. u (f x)) xs ≡ Some b → find (λ x. t (f x)) ys ≡ Some c → find (λ x. u (f x)) ys ≡ Some d
    → below a b ≡ below c d
order_alike below f t u [] ys ranks one two same a b c d is_a is_b is_c is_d = absurd (none-some a is_a)
order_alike below f t u (x ∷ xs) [] ranks one two same a b c d is_a is_b is_c is_d = absurd (none-some c is_c)
order_alike {A = A} below f t u (x ∷ xs) (y ∷ ys) ranks one two same a b c d is_a is_b is_c is_d =
    let head : f x ≡ f y = cc in
    let rest : map f xs ≡ map f ys = cc in
    by_test (t (f x)) (u (f x)) (order_alike below f t u xs ys ranks one.1 two.1 rest a b c d) is_a is_b
    (ap (λ v. cond (t v) (Some y) (find (λ z. t (f z)) ys)) head ∙ is_c) (ap (λ v. cond (u v) (Some y) (find (λ z. u (f z)) ys)) head ∙ is_d)
  where
    later : (test : A → Bool) (z e : A) (zs : List A) → Rises below (z ∷ zs) → find test zs ≡ Some e → below z e ≡ true
    later test z e zs rises is = AllByRecursion-contains (λ w. below z w ≡ true) zs e rises.0 (find_contains test zs e is)

    by_test : (p q : Bool)
        → (find (λ z. t (f z)) xs ≡ Some a → find (λ z. u (f z)) xs ≡ Some b → find (λ z. t (f z)) ys ≡ Some c → find (λ z. u (f z)) ys ≡ Some d
        → below a b ≡ below c d)
        → cond p (Some x) (find (λ z. t (f z)) xs) ≡ Some a → cond q (Some x) (find (λ z. u (f z)) xs) ≡ Some b
        → cond p (Some y) (find (λ z. t (f z)) ys) ≡ Some c → cond q (Some y) (find (λ z. u (f z)) ys) ≡ Some d → below a b ≡ below c d
    by_test true true more is_a is_b is_c is_d =
        rw (← same_Some x a is_a, ← same_Some x b is_b, ← same_Some y c is_c, ← same_Some y d is_d, ranks.itself x, ranks.itself y) refl
    by_test true false more is_a is_b is_c is_d =
        rw (← same_Some x a is_a, ← same_Some y c is_c, later (λ z. u (f z)) x b xs one is_b, later (λ z. u (f z)) y d ys two is_d) refl
    by_test false true more is_a is_b is_c is_d =
        rw (
          ← same_Some x b is_b,
          ← same_Some y d is_d,
          ranks.one_way x a (later (λ z. t (f z)) x a xs one is_a),
          ranks.one_way y c (later (λ z. t (f z)) y c ys two is_c),
        ) refl
    by_test false false more is_a is_b is_c is_d = more is_a is_b is_c is_d

-- ---- what is found among the kept

find-filter : {A : Type 0} (p q : A → Bool) (xs : List A) → find p (filter q xs) ≡ find (λ x. q x && p x) xs
find-filter p q [] = refl
find-filter {A = A} p q (x ∷ xs) = by_test (q x) (find-filter p q xs)
  where
    by_test : (b : Bool) → find p (filter q xs) ≡ find (λ z. q z && p z) xs
        → find p (cond b (x ∷ filter q xs) (filter q xs)) ≡ cond (b && p x) (Some x) (find (λ z. q z && p z) xs)
    by_test true rest = ap (λ o. cond (p x) (Some x) o) rest
    by_test false rest = rest

-- where the one test says the same of all that pass the other
find_both : {A : Type 0} (p q : A → Bool) (b : Bool) (xs : List A) → ((x : A) → p x ≡ true → q x ≡ b) → find (λ x. q x && p x) xs ≡ cond b (find p xs) None
find_both p q true [] same = refl
find_both p q false [] same = refl
find_both {A = A} p q b (x ∷ xs) same = at (p x) refl (q x) refl b refl (find_both p q b xs same)
  where
    at : (h : Bool) → p x ≡ h → (k : Bool) → q x ≡ k → (c : Bool) → b ≡ c → find (λ z. q z && p z) xs ≡ cond c (find p xs) None
        → cond (k && h) (Some x) (find (λ z. q z && p z) xs) ≡ cond c (cond h (Some x) (find p xs)) None
    at true is k kept true c_is rest = ap (λ v. cond (v && true) (Some x) (find (λ z. q z && p z) xs)) (sym kept ∙ same x is ∙ c_is)
    at true is k kept false c_is rest = ap (λ v. cond (v && true) (Some x) (find (λ z. q z && p z) xs)) (sym kept ∙ same x is ∙ c_is) ∙ rest
    at false is true kept c c_is rest = rest
    at false is false kept c c_is rest = rest

-- ---- who came

pub comers_push : (past : List Entry) (e : Entry) → comers (past ++ e ∷ []) ≡ comers past ++ joining_by past e.kind
unfolding comers
comers_push past e = fold_past-push (λ before known x. known ++ joining_by before x.kind) [] past e

-- the task of who stands, if it is one
abbrev task_part : Standing → Option Ready
task_part (TaskStands r) = Some r
task_part (JobStands j post) = None

tasks_back : (rs : List Ready) → filter_map task_part (map TaskStands rs) ≡ rs
tasks_back [] = refl
tasks_back (r ∷ rs) = ap (λ xs. r ∷ xs) (tasks_back rs)

-- the tasks among those who came are the arrivals
tasks_are_arrivals : (past : List Entry) → filter_map task_part (comers past) ≡ arrivals past
unfolding comers arrivals fold_past
tasks_are_arrivals = push_induction (λ past. filter_map task_part (comers past) ≡ arrivals past) refl
    (λ past e same. ap (filter_map task_part) (comers_push past e) ∙ filter_map-append task_part (comers past) (joining_by past e.kind)
    ∙ ap (λ xs. xs ++ filter_map task_part (joining_by past e.kind)) same ∙ ap (λ xs. arrivals past ++ xs) (joins past e.kind) ∙ sym (arrivals_push past e))
  where
    no_job : (past : List Entry) (j : ℕ) (ok b : Bool) → filter_map task_part (cond b (JobStands j (record { place = length past; ok = ok }) ∷ []) []) ≡ []
    no_job past j ok true = refl
    no_job past j ok false = refl

    joins : (past : List Entry) (kind : Kind) → filter_map task_part (joining_by past kind) ≡ arriving_by past kind
    joins past (kinds.JobPost job ok) = no_job past job ok (is_none (job_post_of past job) && ok)
    joins past kind = tasks_back (arriving_by past kind)

-- a test of tasks alone finds the task that it finds among the tasks
task_found : (test : Ready → Bool) (p : Standing → Bool) (xs : List Standing) → ((r : Ready) → p (TaskStands r) ≡ test r)
    → ((j : ℕ) (post : JobPosted) → p (JobStands j post) ≡ false) → find p xs ≡ option_map TaskStands (find test (filter_map task_part xs))
task_found test p [] tasks jobs = refl
task_found test p (TaskStands r ∷ xs) tasks jobs = at (p (TaskStands r)) (test r) (tasks r) (task_found test p xs tasks jobs)
  where
    at : (b c : Bool) → b ≡ c → find p xs ≡ option_map TaskStands (find test (filter_map task_part xs))
        → cond b (Some (TaskStands r)) (find p xs) ≡ option_map TaskStands (cond c (Some r) (find test (filter_map task_part xs)))
    at true true same rest = refl
    at false false same rest = rest
    at true false same rest = absurd (true≢false same)
    at false true same rest = absurd (true≢false (sym same))
task_found test p (JobStands j post ∷ xs) tasks jobs = rw (jobs j post) (task_found test p xs tasks jobs)

-- ---- they came in the order of their keys

-- who comes at an entry has its key there
here_is_key : (past : List Entry) (kind : Kind) → AllByRecursion (λ x. (standing_key x).place ≡ length past) (joining_by past kind)
here_is_key past (kinds.Post task runner delay true) = by_order (nat_lt 0 delay)
  where
    by_order : (b : Bool) → AllByRecursion (λ x. (standing_key x).place ≡ length past) (map TaskStands (cond b [] (ready_behind past task runner delay ∷ [])))
    by_order true = tt
    by_order false = (refl, tt)
here_is_key past (kinds.Tick moment) = AllByRecursion-mapped (λ x. (standing_key x).place ≡ length past) TaskStands (map (ripe_behind past) ripe)
    (AllByRecursion-mapped (λ r. r.key.place ≡ length past) (ripe_behind past) ripe (AllByRecursion-always (λ p. length past ≡ length past) ripe (λ p. refl)))
  where
    ripe : List Posted
    ripe = sort_by ripens_before (filter (becomes_ripe past moment) (posts past))
here_is_key past (kinds.JobPost job ok) = by_post (is_none (job_post_of past job) && ok)
  where
    by_post : (b : Bool) → AllByRecursion (λ x. (standing_key x).place ≡ length past) (cond b (JobStands job (record { place = length past; ok = ok }) ∷ []) [])
    by_post true = (refl, tt)
    by_post false = tt
here_is_key past kind = tt

-- each has its key in the past
comers_within : (past : List Entry) → AllByRecursion (λ x. (standing_key x).place < length past) (comers past)
unfolding comers fold_past
comers_within = push_induction (λ past. AllByRecursion (λ x. (standing_key x).place < length past) (comers past)) tt
    (λ past e within. subst (AllByRecursion (λ x. (standing_key x).place < length (past ++ e ∷ []))) (sym (comers_push past e))
    (AllByRecursion-append (λ x. (standing_key x).place < length (past ++ e ∷ [])) (comers past) (joining_by past e.kind)
    (AllByRecursion-map (λ x. (standing_key x).place < length past) (λ x. (standing_key x).place < length (past ++ e ∷ [])) (comers past)
    (λ x lt. omega (arith, lt, length-append past (e ∷ []))) within)
    (AllByRecursion-map (λ x. (standing_key x).place ≡ length past) (λ x. (standing_key x).place < length (past ++ e ∷ [])) (joining_by past e.kind)
    (λ x at. omega (arith, at, length-append past (e ∷ []))) (here_is_key past e.kind))))

rises_back : {A : Type 0} (below : A → A → Bool) (xs ys : List A) → Rises below (xs ++ ys) → Rises below ys
rises_back below [] ys rises = rises
rises_back below (x ∷ xs) ys rises = rises_back below xs ys rises.1

-- who comes at an entry comes in order
joining_rises : (past : List Entry) (kind : Kind) → Rises stands_before (joining_by past kind)
joining_rises past (kinds.JobPost job ok) = by_post (is_none (job_post_of past job) && ok)
  where
    by_post : (b : Bool) → Rises stands_before (cond b (JobStands job (record { place = length past; ok = ok }) ∷ []) [])
    by_post true = (tt, tt)
    by_post false = tt
joining_rises past kind = rises-map ready_below stands_before TaskStands (arriving_by past kind) (λ a b h. h)
    (rises_back ready_below (arrivals past) (arriving_by past kind)
    (subst (Rises ready_below) (arrivals_push past (record { seat = 0; kind = kind })) (arrivals_rise (past ++ record { seat = 0; kind = kind } ∷ []))))

comers_rise : (past : List Entry) → Rises stands_before (comers past)
unfolding comers fold_past
comers_rise = push_induction (λ past. Rises stands_before (comers past)) tt
    (λ past e rises. subst (Rises stands_before) (sym (comers_push past e))
    (rises-append stands_before (comers past) (joining_by past e.kind) rises (joining_rises past e.kind)
    (AllByRecursion-map (λ x. (standing_key x).place < length past) (λ x. AllByRecursion (λ y. stands_before x y ≡ true) (joining_by past e.kind)) (comers past)
    (λ x lt. AllByRecursion-map (λ y. (standing_key y).place ≡ length past) (λ y. stands_before x y ≡ true) (joining_by past e.kind)
    (λ y at. first past x y (omega (arith, lt, at))) (here_is_key past e.kind)) (comers_within past))))
  where
    first : (past : List Entry) (x y : Standing) → (standing_key x).place < (standing_key y).place → stands_before x y ≡ true
    first past x y lt = by_less (λ z. (standing_key z).place) (λ a b. nat_lt (standing_key a).ripe (standing_key b).ripe
        || (eqb (standing_key a).ripe (standing_key b).ripe && nat_lt (standing_key a).post (standing_key b).post)) x y lt

-- so the line is in the order of its keys
pub standing_rises : (script : Plan) (past : List Entry) → Rises stands_before (standing script past)
unfolding standing
standing_rises script past = rises-filter stands_before (still_stands script past) (comers past) (comers_rise past)

-- ---- who stands first of a source

-- of a sequence its head
pub first_of_sequence : (script : Plan) (past : List Entry) (s : ℕ) → SameMembers (arrivals past) (ready past)
    → first_at script past (Sequence s) ≡ option_map TaskStands (head_of script past s)
unfolding standing
first_of_sequence script past s same =
    find-filter (λ x. waits_at script (Sequence s) (waiter_of x)) (still_stands script past) (comers past)
    ∙ task_found (λ r. is_of script s r.posted && may_start script past r.posted)
    (λ x. still_stands script past x && waits_at script (Sequence s) (waiter_of x)) (comers past)
    (λ r. and_turned (may_start script past r.posted) (is_of script s r.posted)) (λ j post. and_none (is_job_open script past j))
    ∙ ap (λ rs. option_map TaskStands (find (λ r. is_of script s r.posted && may_start script past r.posted) rs)) (tasks_are_arrivals past)
    ∙ ap (option_map TaskStands) (sym (head_is_first_arrival script past s same))
  where
    and_turned : (a b : Bool) → (a && b) ≡ (b && a)
    and_turned true true = refl
    and_turned true false = refl
    and_turned false true = refl
    and_turned false false = refl

    and_none : (a : Bool) → (a && false) ≡ false
    and_none true = refl
    and_none false = refl

-- an accepted job came at its first post
job_comes : (script : Plan) (j : ℕ) (past : List Entry) → find (λ x. waits_at script (Job j) (waiter_of x)) (comers past)
    ≡ option_map (JobStands j) (keep (λ p. p.ok) (job_post_of past j))
unfolding comers job_post_of fold_past
job_comes script j = push_induction (λ past. find (λ x. waits_at script (Job j) (waiter_of x)) (comers past) ≡ option_map (JobStands j)
    (keep (λ p. p.ok) (job_post_of past j))) refl
    (λ past e same. ap (find (λ x. waits_at script (Job j) (waiter_of x))) (comers_push past e)
    ∙ find-append (λ x. waits_at script (Job j) (waiter_of x)) (comers past) (joining_by past e.kind)
    ∙ ap (λ o. option_or o (find (λ x. waits_at script (Job j) (waiter_of x)) (joining_by past e.kind))) same
    ∙ joins past e.kind (job_post_of past j) refl
    ∙ ap (λ o. option_map (JobStands j) (keep (λ p. p.ok) o)) (sym (job_post_of_push past e j)))
  where
    is_it : Standing → Bool
    is_it x = waits_at script (Job j) (waiter_of x)

    no_task : (rs : List Ready) → find is_it (map TaskStands rs) ≡ None
    no_task [] = refl
    no_task (r ∷ rs) = no_task rs

    or_none : (o : Option Standing) → option_or o None ≡ o
    or_none None = refl
    or_none (Some x) = refl

    here : List Entry → Bool → JobPosted
    here past ok = record { place = length past; ok = ok }

    found_here : (past : List Entry) (job : ℕ) (ok none : Bool) → find is_it (cond (none && ok) (JobStands job (here past ok) ∷ []) [])
        ≡ cond (none && ok) (cond (eqb job j) (Some (JobStands job (here past ok))) None) None
    found_here past job true true = refl
    found_here past job false true = refl
    found_here past job ok false = refl

    at : (past : List Entry) (job : ℕ) (same none ok : Bool) → (same ≡ true → none ≡ true) → (same ≡ true → job ≡ j)
        → cond (none && ok) (cond same (Some (JobStands job (here past ok))) None) None
        ≡ option_map (JobStands j) (keep (λ (p : JobPosted). p.ok) (cond same (Some (here past ok)) None))
    at past job false true true first is = refl
    at past job false true false first is = refl
    at past job false false ok first is = refl
    at past job true false ok first is = absurd (true≢false (sym (first refl)))
    at past job true true true first is = ap (λ k. Some (JobStands k (here past true))) (is refl)
    at past job true true false first is = refl

    nothing : (past : List Entry) (job : ℕ) (same none ok : Bool) → (same ≡ true → none ≡ false)
        → cond (none && ok) (cond same (Some (JobStands job (here past ok))) None) None ≡ None
    nothing past job false true true first = refl
    nothing past job false true false first = refl
    nothing past job same false ok first = refl
    nothing past job true true ok first = absurd (true≢false (first refl))

    joins : (past : List Entry) (kind : Kind) (o : Option JobPosted) → job_post_of past j ≡ o
        → option_or (option_map (JobStands j) (keep (λ p. p.ok) o)) (find is_it (joining_by past kind))
        ≡ option_map (JobStands j) (keep (λ p. p.ok) (job_post_after j past o kind))
    joins past (kinds.JobPost job ok) None is = found_here past job ok (is_none (job_post_of past job))
        ∙ at past job (eqb job j) (is_none (job_post_of past job)) ok
        (λ same. ap (λ k. is_none (job_post_of past k)) (eqb-true job j same) ∙ ap is_none is) (eqb-true job j)
    joins past (kinds.JobPost job ok) (Some p) is =
        ap (option_or (option_map (JobStands j) (keep (λ (q : JobPosted). q.ok) (Some p)))) (found_here past job ok (is_none (job_post_of past job))
        ∙ nothing past job (eqb job j) (is_none (job_post_of past job)) ok
        (λ same. ap (λ k. is_none (job_post_of past k)) (eqb-true job j same) ∙ ap is_none is))
        ∙ or_none _
    joins past kind None is = no_task (arriving_by past kind)
    joins past kind (Some p) is = ap (option_or (option_map (JobStands j) (keep (λ (q : JobPosted). q.ok) (Some p)))) (no_task (arriving_by past kind))
        ∙ or_none _

-- of a job that is open its first post, where that was accepted
pub first_of_job : (script : Plan) (past : List Entry) (j : ℕ)
    → first_at script past (Job j) ≡ cond (is_job_open script past j) (option_map (JobStands j) (keep (λ p. p.ok) (job_post_of past j))) None
unfolding standing
first_of_job script past j =
    find-filter (λ x. waits_at script (Job j) (waiter_of x)) (still_stands script past) (comers past)
    ∙ find_both (λ x. waits_at script (Job j) (waiter_of x)) (still_stands script past) (is_job_open script past j) (comers past) its_own
    ∙ ap (λ o. cond (is_job_open script past j) o None) (job_comes script j past)
  where
    its_own : (x : Standing) → waits_at script (Job j) (waiter_of x) ≡ true → still_stands script past x ≡ is_job_open script past j
    its_own (TaskStands r) is = absurd (true≢false (sym is))
    its_own (JobStands job post) is = ap (is_job_open script past) (eqb-true job j is)

-- two pasts of one line put the same before the same
pub order_same : (script : Plan) (past other : List Entry) (a b : TaskSource) → line_of script past ≡ line_of script other → (w x y z : Standing)
    → first_at script past a ≡ Some w → first_at script past b ≡ Some x → first_at script other a ≡ Some y → first_at script other b ≡ Some z
    → stands_before w x ≡ stands_before y z
unfolding line_of
order_same script past other a b same w x y z is_w is_x is_y is_z =
    order_alike stands_before waiter_of (waits_at script a) (waits_at script b) (standing script past) (standing script other) (ranks_key standing_key)
    (standing_rises script past) (standing_rises script other) same w x y z is_w is_x is_y is_z

-- what is found of a list as it is seen
pub found_map : {A B : Type 0} (f : A → B) (test : B → Bool) (xs : List A) → option_map f (find (λ x. test (f x)) xs) ≡ find test (map f xs)
found_map f test [] = refl
found_map {A = A} {B = B} f test (x ∷ xs) = by_test (test (f x)) (found_map f test xs)
  where
    by_test : (b : Bool) → option_map f (find (λ z. test (f z)) xs) ≡ find test (map f xs)
        → option_map f (cond b (Some x) (find (λ z. test (f z)) xs)) ≡ cond b (Some (f x)) (find test (map f xs))
    by_test true rest = refl
    by_test false rest = rest

-- and who stands first of a source in one stands first of it in the other
pub first_same : (script : Plan) (past other : List Entry) (source : TaskSource) → line_of script past ≡ line_of script other
    → option_map waiter_of (first_at script past source) ≡ option_map waiter_of (first_at script other source)
unfolding line_of
first_same script past other source same =
    found_map waiter_of (waits_at script source) (standing script past) ∙ ap (find (waits_at script source)) same
    ∙ sym (found_map waiter_of (waits_at script source) (standing script other))
