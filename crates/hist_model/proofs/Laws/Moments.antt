-- The moments that readings become, and those of the ticks of legal logs.
-- Cited by `readings.rt`, `env_crew`, `simulation`.
use Rattle.std.proofs.Common.{◌≡◌, ℕ, zero, suc, ◌≤◌, true, leb, List, [], ◌∷◌, ◌++◌, length, refl, sym, ap, subst, ◌∙◌, Some, arith, append-nil}
use Rattle.std.specs.Prelude.{min, max, fold, slice_get}
use Rattle.std.proofs.lemmas.Bool.{leb-true, and_parts}
use Rattle.std.proofs.lemmas.Option.{none-some, same_Some}
use Rattle.std.proofs.lemmas.List.Elements.{filter_map-append}
use Rattle.task_base.specs.Plan.{Plan}
use Rattle.task_base.specs.declared.limits.TheConstants.{LAST_MOMENT}
use Rattle.task_base.specs.declared.entry.Entry.{Entry}
use Rattle.task_base.specs.declared.entry.Kind.{Kind}
use Rattle.task_base.specs.declared.entry.Kind.TheVariants as kinds
use Rattle.task_model.specs.Time.{now_of}
use Rattle.task_model.specs.Orders.{moment_of}
use Rattle.task_model.proofs.Growth.{now_of_push}
use Rattle.hist_model.specs.Allowed.{by_script, may_come}
use Rattle.hist_model.specs.Legal.{IsLegal}
use Rattle.hist_model.specs.Moments.{moment_behind, moments_from, moments_of, last_of, ticks_of}
use Rattle.hist_model.proofs.Laws.Legal.{entry_induction}

-- the last of some moments, or this one where there is none
abbrev last_from : ℕ → List ℕ → ℕ
last_from before moments = fold (λ last now. now) before moments

-- a reading becomes a moment between the one before and the last of all
capped : (before reading most : ℕ) → before ≤ most → before ≤ min (max reading before) most
capped before reading most less = omega arith

own : (before reading most : ℕ) → before ≤ reading → reading ≤ most → min (max reading before) most ≡ reading
own before reading most from to = omega arith

lowered : (n most : ℕ) → min n most ≤ most
lowered n most = omega arith

-- one moment for each reading
length-from : (before : ℕ) (readings : List ℕ) → length (moments_from before readings) ≡ length readings
length-from before [] = refl
length-from before (r ∷ rest) = ap suc (length-from (moment_behind before r) rest)

pub one_for_each : (readings : List ℕ) → length (moments_of readings) ≡ length readings
unfolding moments_of
one_for_each readings = length-from 0 readings

-- each moment is at least the one before all of them, and at most the last of all
between : (before : ℕ) (readings : List ℕ) (k m : ℕ) → before ≤ LAST_MOMENT → slice_get (moments_from before readings) k ≡ Some m
    → (before ≤ m) × (m ≤ LAST_MOMENT)
between before [] k m less is = absurd (none-some m is)
between before (r ∷ rest) zero m less is = subst (λ n. (before ≤ n) × (n ≤ LAST_MOMENT)) (same_Some (moment_behind before r) m is)
    (capped before r LAST_MOMENT less, lowered (max r before) LAST_MOMENT)
between before (r ∷ rest) (suc k) m less is =
    let later = between (moment_behind before r) rest k m (lowered (max r before) LAST_MOMENT) is in
    (through before (moment_behind before r) m (capped before r LAST_MOMENT less) later.0, later.1)
  where
    through : (a b c : ℕ) → a ≤ b → b ≤ c → a ≤ c
    through a b c p q = omega arith

pub at_most_last : (readings : List ℕ) (k m : ℕ) → slice_get (moments_of readings) k ≡ Some m → m ≤ LAST_MOMENT
unfolding moments_of
at_most_last readings k m is = (between 0 readings k m (omega arith) is).1

-- a moment is at most each that follows
rises_from : (before : ℕ) (readings : List ℕ) (i k m n : ℕ) → i ≤ k → slice_get (moments_from before readings) i ≡ Some m
    → slice_get (moments_from before readings) k ≡ Some n → m ≤ n
rises_from before [] i k m n less is later = absurd (none-some m is)
rises_from before (r ∷ rest) zero zero m n less is later = let same : m ≡ n = same_Some m n (sym is ∙ later) in omega (arith, same)
rises_from before (r ∷ rest) zero (suc k) m n less is later =
    subst (λ x. x ≤ n) (same_Some (moment_behind before r) m is)
    (between (moment_behind before r) rest k n (lowered (max r before) LAST_MOMENT) later).0
rises_from before (r ∷ rest) (suc i) zero m n less is later = absurd (omega (arith, less))
rises_from before (r ∷ rest) (suc i) (suc k) m n less is later = rises_from (moment_behind before r) rest i k m n (omega (arith, less)) is later

pub never_falls : (readings : List ℕ) (i k m n : ℕ) → i ≤ k → slice_get (moments_of readings) i ≡ Some m → slice_get (moments_of readings) k ≡ Some n
    → m ≤ n
unfolding moments_of
never_falls readings i k m n less is later = rises_from 0 readings i k m n less is later

-- one reading more adds one moment at the end
more_from : (before : ℕ) (readings : List ℕ) (r : ℕ)
    → moments_from before (readings ++ r ∷ []) ≡ moments_from before readings ++ moment_behind (last_from before (moments_from before readings)) r ∷ []
more_from before [] r = refl
more_from before (x ∷ rest) r = ap (λ ms. moment_behind before x ∷ ms) (more_from (moment_behind before x) rest r)

pub one_more : (readings : List ℕ) (r : ℕ)
    → moments_of (readings ++ r ∷ []) ≡ moments_of readings ++ min (max r (last_of (moments_of readings))) LAST_MOMENT ∷ []
unfolding moments_of
one_more readings r = more_from 0 readings r

-- a reading between the last moment and the last of all is its own moment
pub own_moment : (readings : List ℕ) (r : ℕ) → last_of (moments_of readings) ≤ r → r ≤ LAST_MOMENT
    → moments_of (readings ++ r ∷ []) ≡ moments_of readings ++ r ∷ []
own_moment readings r from to = one_more readings r ∙ ap (λ m. moments_of readings ++ m ∷ []) (own (last_of (moments_of readings)) r LAST_MOMENT from to)

-- Ticks.

-- the last moment of a longer list is the new one
last_push : (before : ℕ) (moments : List ℕ) (m : ℕ) → last_from before (moments ++ m ∷ []) ≡ m
last_push before [] m = refl
last_push before (x ∷ moments) m = last_push x moments m

-- the ticks' moments are those that they would become as readings, and the history has come to the last of them
record AreMoments (past : List Entry) : Type 0 where
  same : moments_of (ticks_of past) ≡ ticks_of past
  last : last_of (ticks_of past) ≡ now_of past

no_ticks : AreMoments []
unfolding moments_of now_of
no_ticks = record { same = refl; last = refl }

ticks_next : (script : Plan) (past : List Entry) (seat : ℕ) (kind : Kind) → may_come script past seat kind ≡ true → AreMoments past
    → AreMoments (past ++ record { seat = seat; kind = kind } ∷ [])
unfolding may_come
ticks_next script past seat (kinds.Tick now) h a =
    let told : ticks_of (past ++ e ∷ []) ≡ ticks_of past ++ now ∷ [] = filter_map-append (λ (x : Entry). moment_of x.kind) past (e ∷ []) in
    let first = and_parts _ (leb now LAST_MOMENT) h in
    let second = and_parts (by_script script past seat (kinds.Tick now)) (leb (now_of past) now) first.0 in
    let known : last_of (moments_of (ticks_of past)) ≡ now_of past = ap last_of a.same ∙ a.last in
    record {
      same = ap moments_of told
          ∙ own_moment (ticks_of past) now (subst (λ n. n ≤ now) (sym known) (leb-true (now_of past) now second.1)) (leb-true now LAST_MOMENT first.1)
          ∙ ap (λ ms. ms ++ now ∷ []) a.same ∙ sym told;
      last = ap last_of told ∙ last_push 0 (ticks_of past) now ∙ sym (now_of_push past e);
    }
  where
    e : Entry
    e = record { seat = seat; kind = kinds.Tick now }
ticks_next script past seat kind h a =
    let told : ticks_of (past ++ e ∷ []) ≡ ticks_of past
    = filter_map-append (λ (x : Entry). moment_of x.kind) past (e ∷ []) ∙ append-nil (ticks_of past) in
    record {
      same = ap moments_of told ∙ a.same ∙ sym told;
      last = ap last_of told ∙ a.last ∙ sym (now_of_push past e);
    }
  where
    e : Entry
    e = record { seat = seat; kind = kind }

ticks_are : (script : Plan) (log : List Entry) → IsLegal script log → AreMoments log
ticks_are script = entry_induction script AreMoments no_ticks (λ past e known may a. ticks_next script past e.seat e.kind may a)

-- the moments of the ticks of a legal log stay what they are when they are taken as readings
pub ticks_are_moments : (script : Plan) (log : List Entry) → IsLegal script log → moments_of (ticks_of log) ≡ ticks_of log
ticks_are_moments script log legal = (ticks_are script log legal).same

-- so they never fall, and are at most the last of all
pub ticks_never_fall : (script : Plan) (log : List Entry) (i k m n : ℕ) → IsLegal script log → i ≤ k → slice_get (ticks_of log) i ≡ Some m
    → slice_get (ticks_of log) k ≡ Some n → m ≤ n
ticks_never_fall script log i k m n legal less is later =
    let same = ticks_are_moments script log legal in
    never_falls (ticks_of log) i k m n less (ap (λ ms. slice_get ms i) same ∙ is) (ap (λ ms. slice_get ms k) same ∙ later)

pub ticks_at_most_last : (script : Plan) (log : List Entry) (k m : ℕ) → IsLegal script log → slice_get (ticks_of log) k ≡ Some m → m ≤ LAST_MOMENT
ticks_at_most_last script log k m legal is = at_most_last (ticks_of log) k m (ap (λ ms. slice_get ms k) (ticks_are_moments script log legal) ∙ is)
