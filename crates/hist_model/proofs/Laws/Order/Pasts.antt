-- A past of a log and a later one: what was taken, which tick came first, and where accepted tasks were posted.
-- Cited by `Laws/Order/Draws`, `Laws/Order/Keys`, `Laws/Order/Lanes`, `Laws/Starts`.
use Rattle.std.proofs.Common.{◌≡◌, ℕ, zero, suc, ◌+◌, ◌<◌, ◌≤◌, Bool, true, false, leb, cond, List, [], ◌∷◌, ◌++◌, length}
use Rattle.std.proofs.Common.{take, drop, refl, sym, ap, subst, ◌∙◌, append_assoc, Option, Some, None, inl, inr, arith}
use Rattle.std.specs.Prelude.{◌⊎◌, slice_get, Contains}
use Rattle.std.specs.Option.{option_or}
use Rattle.std.specs.List.{AllByRecursion, position_from}
use Rattle.std.proofs.lemmas.Bool.{eq-eqb, ltb-true}
use Rattle.std.proofs.lemmas.Option.{none-some, same_Some, slice_get_within}
use Rattle.std.proofs.lemmas.List.{append-nil, length-append, take-append-drop, take-append-le}
use Rattle.std.proofs.lemmas.List.Elements.{Contains-append_cases}
use Rattle.std.proofs.Math.Seq.{take-append_seam}
use Rattle.task_base.specs.Plan.{Plan}
use Rattle.task_base.specs.declared.entry.Entry.{Entry}
use Rattle.task_base.specs.declared.entry.Kind.{Kind}
use Rattle.task_base.specs.declared.entry.Kind.TheVariants as kinds
use Rattle.list_laws.proofs.Elements.{slice_get-end, AllByRecursion-map, AllByRecursion-append, AllByRecursion-contains, push_induction}
use Rattle.list_laws.proofs.Options.{position-append}
use Rattle.list_laws.proofs.Places.{slice_get-more}
use Rattle.task_model.specs.Past.{fold_past}
use Rattle.task_model.specs.Time.{is_tick_from, tick_from}
use Rattle.task_model.specs.Posts.{Posted, is_delayed, post_behind, posts, main_posts, is_taken, takes}
use Rattle.hist_model.specs.Legal.{IsLegal}
use Rattle.hist_model.specs.Laws.Places.{IsAt}
use Rattle.hist_model.proofs.Laws.AtPlaces.{in_past, of_past, length-past, passes_at, passed_by, past_is_legal}
use Rattle.pool_laws.specs.Runs.{posts_as, posted_as}
use Rattle.pool_laws.proofs.Seats.Runs.{posts_as_push}
use Rattle.hist_model.proofs.Laws.Rising.{legal_rises}

-- ---- pasts of one log

-- the front of a front
pub take_take : {A : Type 0} (xs : List A) (i j : ℕ) → i ≤ j → take i (take j xs) ≡ take i xs
take_take xs zero j le = refl
take_take xs (suc i) zero le = absurd (omega (arith, le))
take_take [] (suc i) (suc j) le = refl
take_take (x ∷ xs) (suc i) (suc j) le = ap (λ rest. x ∷ rest) (take_take xs i j (omega (arith, le)))

-- the past of a later place is that of an earlier one with what stands between
pub longer_past : {A : Type 0} (xs : List A) (i j : ℕ) → i ≤ j → take i xs ++ drop i (take j xs) ≡ take j xs
longer_past xs i j le = ap (λ front. front ++ drop i (take j xs)) (sym (take_take xs i j le)) ∙ take-append-drop i (take j xs)

-- what was taken stays taken
pub still_taken : (log : List Entry) (i j t : ℕ) → i < j → is_taken (take i log) t ≡ true → is_taken (take j log) t ≡ true
unfolding is_taken
still_taken log i j t less taken =
    let at = passes_at (λ e. takes t e.kind) (take i log) taken in
    let (before, is) = of_past log at.place i at.value at.is in
    passed_by (λ e. takes t e.kind) (take j log) at.place at.value (in_past log at.place j (omega (arith, less, before)) ∙ is) at.passes

-- what is taken at a place is taken behind it
pub taken_behind : (log : List Entry) (i j seat t r v : ℕ) → i < j → IsAt log i seat (kinds.Take t r v) → is_taken (take j log) t ≡ true
unfolding is_taken
taken_behind log i j seat t r v less is = passed_by (λ e. takes t e.kind) (take j log) i _ (in_past log i j less ∙ is) (eq-eqb t t refl)

-- ---- the first tick

-- the first place is not before the start
pub position_behind : {A : Type 0} (test : A → Bool) (i : ℕ) (xs : List A) (n : ℕ) → position_from test i xs ≡ Some n → i ≤ n
position_behind test i [] n is = absurd (none-some n is)
position_behind test i (x ∷ xs) n is = by_test (test x) is (position_behind test (i + 1) xs n)
  where
    by_test : (b : Bool) → cond b (Some i) (position_from test (i + 1) xs) ≡ Some n → (position_from test (i + 1) xs ≡ Some n → i + 1 ≤ n) → i ≤ n
    by_test true h rest = omega (arith, same_Some i n h)
    by_test false h rest = omega (arith, rest h)

-- a first tick inside the front is the first tick of the front
pub tick_early : (xs rest : List Entry) (moment place : ℕ) → tick_from (xs ++ rest) moment ≡ Some place → place < length xs → tick_from xs moment ≡ Some place
unfolding tick_from
tick_early xs rest moment place is less =
    by_place (position_from test 0 xs) (sym (position-append test 0 xs rest) ∙ is)
  where
    test : Entry → Bool
    test e = is_tick_from moment e.kind

    by_place : (o : Option ℕ) → option_or o (position_from test (0 + length xs) rest) ≡ Some place → o ≡ Some place
    by_place (Some n) h = h
    by_place None h = absurd (omega (arith, less, position_behind test (0 + length xs) rest place h))

-- ---- accepted tasks

-- the post of a task of the pool, and of a main task
abbrev pub post_as : Bool → ℕ → ℕ → ℕ → Kind
post_as false task home delay = kinds.Post task home delay true
post_as true task home delay = kinds.Main task home delay true

-- the task was accepted at its place
pub record IsPostedAt (main : Bool) (past : List Entry) (p : Posted) : Type 0 where
  pub seat : ℕ
  pub is : IsAt past p.place seat (post_as main p.task p.home p.delay)
  pub same : post_behind (take p.place past) p.task p.home p.delay ≡ p

-- what an entry adds is posted by it
pub added_by : (main : Bool) (past : List Entry) (kind : Kind) → AllByRecursion (λ p. (kind ≡ post_as main p.task p.home p.delay)
    × (post_behind past p.task p.home p.delay ≡ p)) (posted_as main past kind)
added_by false past (kinds.Post task runner delay true) = ((refl, refl), tt)
added_by false past kind = tt
added_by true past (kinds.Main task queue delay true) = ((refl, refl), tt)
added_by true past kind = tt

pub nothing_posted : (main : Bool) → posts_as main [] ≡ []
unfolding posts main_posts fold_past
nothing_posted false = refl
nothing_posted true = refl

pub posted_at : (main : Bool) (past : List Entry) → AllByRecursion (IsPostedAt main past) (posts_as main past)
posted_at main = push_induction (λ past. AllByRecursion (IsPostedAt main past) (posts_as main past))
    (subst (AllByRecursion (IsPostedAt main [])) (sym (nothing_posted main)) tt)
    (λ past e all. subst (AllByRecursion (IsPostedAt main (past ++ e ∷ []))) (sym (posts_as_push main past e))
    (AllByRecursion-append (IsPostedAt main (past ++ e ∷ [])) (posts_as main past) (posted_as main past e.kind)
    (AllByRecursion-map (IsPostedAt main past) (IsPostedAt main (past ++ e ∷ [])) (posts_as main past) (λ p h. more past e p h) all)
    (AllByRecursion-map _ (IsPostedAt main (past ++ e ∷ [])) (posted_as main past e.kind) (λ p h. new past e p h.0 h.1) (added_by main past e.kind))))
  where
    more : (past : List Entry) (e : Entry) (p : Posted) → IsPostedAt main past p → IsPostedAt main (past ++ e ∷ []) p
    more past e p h = record {
      seat = h.seat;
      is = slice_get-more past (e ∷ []) p.place _ h.is;
      same = ap (λ before. post_behind before p.task p.home p.delay)
          (take-append-le p.place past (e ∷ []) (omega (arith, slice_get_within past p.place _ h.is))) ∙ h.same;
    }

    new : (past : List Entry) (e : Entry) (p : Posted) → e.kind ≡ post_as main p.task p.home p.delay → post_behind past p.task p.home p.delay ≡ p
        → IsPostedAt main (past ++ e ∷ []) p
    new past e p kind same =
        let place : length past ≡ p.place = ap (λ q. q.place) same in
        record {
          seat = e.seat;
          is = ap (slice_get (past ++ e ∷ [])) (sym place) ∙ slice_get-end past e ∙ ap (λ k. Some (record { seat = e.seat; kind = k })) kind;
          same = ap (λ n. post_behind (take n (past ++ e ∷ [])) p.task p.home p.delay) (sym place)
              ∙ ap (λ before. post_behind before p.task p.home p.delay) (take-append_seam past (e ∷ [])) ∙ same;
        }

-- the post of an accepted task
pub was_posted : (main : Bool) (past : List Entry) (p : Posted) → Contains (posts_as main past) p → IsPostedAt main past p
was_posted main past p among = AllByRecursion-contains (IsPostedAt main past) (posts_as main past) p (posted_at main past) among

-- a task whose post stands in the front is accepted in the front
pub posts_early : (main : Bool) (xs rest : List Entry) (p : Posted) → Contains (posts_as main (xs ++ rest)) p → p.place < length xs
    → Contains (posts_as main xs) p
posts_early main xs rest p among less = push_induction (λ ys. Contains (posts_as main (xs ++ ys)) p → Contains (posts_as main xs) p)
    (λ h. subst (λ ys. Contains (posts_as main ys) p) (append-nil xs) h) (λ ys e before h. before (earlier ys e h)) rest among
  where
    earlier : (ys : List Entry) (e : Entry) → Contains (posts_as main (xs ++ (ys ++ e ∷ []))) p → Contains (posts_as main (xs ++ ys)) p
    earlier ys e h = by_side (Contains-append_cases (posts_as main (xs ++ ys)) (posted_as main (xs ++ ys) e.kind) p
        (subst (λ all. Contains all p) (ap (posts_as main) (sym (append_assoc xs ys (e ∷ []))) ∙ posts_as_push main (xs ++ ys) e) h))
      where
        by_side : Contains (posts_as main (xs ++ ys)) p ⊎ Contains (posted_as main (xs ++ ys) e.kind) p → Contains (posts_as main (xs ++ ys)) p
        by_side (inl k) = k
        by_side (inr k) = let made = AllByRecursion-contains _ (posted_as main (xs ++ ys) e.kind) p (added_by main (xs ++ ys) e.kind) k in
            absurd (omega (arith, less, ap (λ q. q.place) made.1, length-append xs ys))

-- no tick at or past the ripe moment of a delayed task stands before its post
pub no_tick_before : (script : Plan) (main : Bool) (log : List Entry) (p : Posted) (place : ℕ) → IsLegal script log → IsPostedAt main log p
    → is_delayed p ≡ true
    → tick_from log p.ripe ≡ Some place → p.place ≤ place
no_tick_before script main log p place legal was delayed tick = at (leb p.place place) refl
  where
    before : List Entry
    before = take p.place log

    size : length before ≡ p.place
    size = length-past log p.place _ was.is

    none : tick_from before p.ripe ≡ None
    none = (legal_rises script before (past_is_legal script log p.place _ legal was.is)).no_tick_ahead p.ripe
        (omega (arith, ap (λ q. q.ripe) was.same, ltb-true 0 p.delay delayed))

    at : (b : Bool) → leb p.place place ≡ b → p.place ≤ place
    at true h = grind (arith, h)
    at false h = absurd (none-some place (sym none ∙ tick_early before (drop p.place log) p.ripe place
        (ap (λ all. tick_from all p.ripe) (take-append-drop p.place log) ∙ tick) (grind (arith, h, size))))
