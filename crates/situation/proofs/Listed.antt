-- What is listed are the whole logs that go on from a past.
-- Cited by `Once`, `logs.rt`, `moves.rt`.
use Rattle.std.proofs.Common.{◌≡◌, ℕ, zero, suc, ◌+◌, ◌≤◌, Bool, true, false, cond, leb, List, [], ◌∷◌, ◌++◌, length, map, refl, sym, ap, subst, ◌∙◌}
use Rattle.std.proofs.Common.{Option, Some, None, inl, inr, arith, append_assoc}
use Rattle.std.specs.Prelude.{◌⊎◌, Contains, flat_map, option_and_then}
use Rattle.std.specs.List.{AllByRecursion}
use Rattle.std.proofs.lemmas.Bool.{and_parts, leb-true}
use Rattle.std.proofs.lemmas.List.{append-nil}
use Rattle.std.proofs.lemmas.List.Elements.{Contains-append_left, Contains-append_right}
use Rattle.task_base.specs.Plan.{Plan}
use Rattle.task_base.specs.declared.entry.Entry.{Entry}
use Rattle.task_base.specs.declared.entry.Kind.{Kind}
use Rattle.task_base.specs.declared.entry.Kind.TheVariants as kinds
use Rattle.list_laws.proofs.Elements.{AllByRecursion-each_list, AllByRecursion-map, AllByRecursion-mapped}
use Rattle.list_laws.proofs.Made.{contains_cases, contains_range, none_contained}
use Rattle.task_model.specs.Seats.{all_seats}
use Rattle.hist_model.specs.Allowed.{is_allowed, IsAllowed, may_come}
use Rattle.hist_model.specs.Legal.{IsLegal}
use Rattle.hist_model.specs.Open.{IsClosed}
use Rattle.hist_model.specs.Script.{is_whole}
use Rattle.hist_model.specs.Laws.Ways.{but_moment, way_on}
use Rattle.hist_model.proofs.Laws.Legal.{each_is_allowed, legal_next}
use Rattle.hist_model.proofs.Laws.Ways.{way_is}
use Rattle.situation.specs.Counts.{GoesOn, IsFuture, ReadsBy, at_moment, beginning_with, futures, goings, if_allowed, next_of}
use Rattle.situation.specs.Situation.{Situation, situation_of}

-- ---- what is listed goes on to a whole log

pub listed_go_on : (test : List Entry → Bool) (script : Plan) (tick : Situation → ℕ) (n : ℕ) (past : List Entry) → IsLegal script past
    → AllByRecursion (GoesOn test script n past) (goings test script tick n past)
listed_go_on test script tick zero past legal = by_test (test past) refl
  where
    by_test : (b : Bool) → test past ≡ b → AllByRecursion (GoesOn test script zero past) (cond b ([] ∷ []) [])
    by_test false is = tt
    by_test true is = (
      record {
        legal = subst (IsLegal script) (sym (append-nil past)) legal;
        passes = ap test (append-nil past) ∙ is;
        as_long = refl;
      },
      tt,
    )
listed_go_on test script tick (suc n) past legal =
    AllByRecursion-each_list (GoesOn test script (suc n) past)
    (λ seat. beginning_with (next_of script tick past seat) (λ e. goings test script tick n (past ++ e ∷ []))) (all_seats script)
    (λ seat. at_seat (λ e allowed. listed_go_on test script tick n (past ++ e ∷ []) (legal_next script past e legal allowed)) seat (way_on script past seat))
  where
    begins : (e : Entry) (rest : List Entry) → GoesOn test script n (past ++ e ∷ []) rest → GoesOn test script (suc n) past (e ∷ rest)
    begins e rest f = record {
      legal = subst (IsLegal script) (append_assoc past (e ∷ []) rest) f.legal;
      passes = ap test (sym (append_assoc past (e ∷ []) rest)) ∙ f.passes;
      as_long = ap suc f.as_long;
    }

    by_allowed : ((e : Entry) → IsAllowed script past e → AllByRecursion (GoesOn test script n (past ++ e ∷ [])) (goings test script tick n (past ++ e ∷ [])))
        → (e : Entry)
        → (b : Bool) → is_allowed script past e ≡ b
        → AllByRecursion (GoesOn test script (suc n) past) (beginning_with (cond b (Some e) None) (λ x. goings test script tick n (past ++ x ∷ [])))
    by_allowed later e false is = tt
    by_allowed later e true is = AllByRecursion-mapped (GoesOn test script (suc n) past) (λ rest. e ∷ rest) (goings test script tick n (past ++ e ∷ []))
        (AllByRecursion-map (GoesOn test script n (past ++ e ∷ [])) (λ rest. GoesOn test script (suc n) past (e ∷ rest))
        (goings test script tick n (past ++ e ∷ []))
        (begins e) (later e is))

    at_seat : ((e : Entry) → IsAllowed script past e → AllByRecursion (GoesOn test script n (past ++ e ∷ [])) (goings test script tick n (past ++ e ∷ [])))
        → (seat : ℕ)
        → (o : Option Kind)
        → AllByRecursion (GoesOn test script (suc n) past)
        (beginning_with (option_and_then (λ way. if_allowed script past (record { seat = seat; kind = at_moment (tick (situation_of script past)) way })) o)
        (λ x. goings test script tick n (past ++ x ∷ [])))
    at_seat later seat None = tt
    at_seat later seat (Some way) = let e : Entry = record { seat = seat; kind = at_moment (tick (situation_of script past)) way } in
        by_allowed later e (is_allowed script past e) refl

-- ---- and each is listed

pub in_flat_map : {A B : Type 0} (f : A → List B) (xs : List A) (x : A) (y : B) → Contains xs x → Contains (f x) y → Contains (flat_map f xs) y
in_flat_map f [] x y among here = absurd (none_contained x among)
in_flat_map {A = A} {B = B} f (z ∷ zs) x y among here = by_cases (contains_cases z zs x among) (λ there. in_flat_map f zs x y there here)
  where
    by_cases : (z ≡ x) ⊎ Contains zs x → (Contains zs x → Contains (flat_map f zs) y) → Contains (f z ++ flat_map f zs) y
    by_cases (inl same) rest = Contains-append_left (f z) (flat_map f zs) y (subst (λ w. Contains (f w) y) (sym same) here)
    by_cases (inr there) rest = Contains-append_right (f z) (flat_map f zs) y (rest there)

in_map : {A B : Type 0} (f : A → B) (xs : List A) (x : A) → Contains xs x → Contains (map f xs) (f x)
in_map f [] x among = absurd (none_contained x among)
in_map {A = A} {B = B} f (z ∷ zs) x among = by_cases (contains_cases z zs x among) (in_map f zs x)
  where
    by_cases : (z ≡ x) ⊎ Contains zs x → (Contains zs x → Contains (map f zs) (f x)) → Contains (f z ∷ map f zs) (f x)
    by_cases (inl same) rest = (0, omega arith, ap f same)
    by_cases (inr there) rest = Contains-append_right (f z ∷ []) (map f zs) (f x) (rest there)

but_at : (moment : ℕ) (kind : Kind) → at_moment moment (but_moment kind) ≡ at_moment moment kind
but_at moment (kinds.Tick now) = refl
but_at moment kind = refl

pub goings_are_listed : (test : List Entry → Bool) (script : Plan) (tick : Situation → ℕ) (rest past : List Entry) → IsClosed script
    → IsLegal script past → ReadsBy script tick past rest
    → GoesOn test script (length rest) past rest → Contains (goings test script tick (length rest) past) rest
goings_are_listed test script tick [] past closed legal reads future =
    subst (λ b. Contains {X = List Entry} (cond b ([] ∷ []) []) []) (sym (ap test (sym (append-nil past)) ∙ future.passes)) (0, omega arith, refl)
goings_are_listed test script tick (e ∷ rest) past closed legal reads future =
    let allowed : IsAllowed script past e = each_is_allowed script past e rest future.legal in
    let parts = and_parts (leb e.seat script.workers) (may_come script past e.seat e.kind) allowed in
    let seat : e.seat ≤ script.workers = leb-true e.seat script.workers parts.0 in
    let way : way_on script past e.seat ≡ Some (but_moment e.kind) = way_is script past e.seat e.kind closed legal parts.1 in
    let kind : at_moment (tick (situation_of script past)) (but_moment e.kind) ≡ e.kind = but_at (tick (situation_of script past)) e.kind ∙ reads.0 in
    let next : next_of script tick past e.seat ≡ Some e =
    ap (option_and_then (λ w. if_allowed script past (record { seat = e.seat; kind = at_moment (tick (situation_of script past)) w }))) way
    ∙ ap (λ k. if_allowed script past (record { seat = e.seat; kind = k })) kind ∙ ap (λ b. cond b (Some e) None) allowed in
    let later : Contains (goings test script tick (length rest) (past ++ e ∷ [])) rest =
    goings_are_listed test script tick rest (past ++ e ∷ []) closed (legal_next script past e legal allowed) reads.1 (record {
      legal = subst (IsLegal script) (sym (append_assoc past (e ∷ []) rest)) future.legal;
      passes = ap test (append_assoc past (e ∷ []) rest) ∙ future.passes;
      as_long = refl;
    }) in
    in_flat_map (λ s. beginning_with (next_of script tick past s) (λ x. goings test script tick (length rest) (past ++ x ∷ []))) (all_seats script) e.seat
    (e ∷ rest)
    (contains_range (script.workers + 1) e.seat (omega (arith, seat)))
    (subst (λ o. Contains (beginning_with o (λ x. goings test script tick (length rest) (past ++ x ∷ []))) (e ∷ rest)) (sym next)
    (in_map (λ r. e ∷ r) (goings test script tick (length rest) (past ++ e ∷ [])) rest later))

-- ---- whole logs

pub listed_are_futures : (script : Plan) (tick : Situation → ℕ) (n : ℕ) (past : List Entry) → IsLegal script past
    → AllByRecursion (IsFuture script n past) (futures script tick n past)
listed_are_futures script tick n past legal =
    AllByRecursion-map (GoesOn (is_whole script) script n past) (IsFuture script n past) (futures script tick n past)
    (λ rest g. record { legal = g.legal; whole = g.passes; as_long = g.as_long }) (listed_go_on (is_whole script) script tick n past legal)

pub futures_are_listed : (script : Plan) (tick : Situation → ℕ) (rest past : List Entry) → IsClosed script → IsLegal script past
    → ReadsBy script tick past rest → IsFuture script (length rest) past rest → Contains (futures script tick (length rest) past) rest
futures_are_listed script tick rest past closed legal reads future =
    goings_are_listed (is_whole script) script tick rest past closed legal reads
    (record { legal = future.legal; passes = future.whole; as_long = future.as_long })
