-- Legal histories, entry by entry.
-- Cited by `Laws/AtPlaces`, `Laws/Claims`, `Laws/Consistent`, `Laws/Entries/Bound`, `Laws/Entries/Jobs`, `Laws/Fitting/Entries`,
-- `Laws/HoldsApart`, `Laws/Moments`, `Laws/OneSeat`, `Laws/OneThing`, `Laws/OpenPlans`, `Laws/Postings/Counts`, `Laws/Postings/Once`,
-- `Laws/Progress/Actions`, `Laws/Progress/Driver`, `Laws/Progress/Ends`, `Laws/Progress/Tasks`, `Laws/Refusals`, `Laws/Rising`,
-- `Laws/Shutdown/Histories`, `Laws/Shutdown/Places`, `Laws/Told`, `Laws/Whole/Items`, `Laws/Whole/MainTasks`, `Laws/Whole/Workers`,
-- `histories.rt`, `app_modes`, `env_app`, `env_check`, `env_core`, `env_crew`, `env_explain`, `env_threads`, `live_core`, `log_count`,
-- `log_moves`, `log_replay`, `next_entry`, `open_check`, `order_search`, `run_summary`, `simulation`, `situation`, `task_reply`,
-- `told_context`, `trace_json`, `turn_table`.
use Rattle.std.proofs.Common.{◌≡◌, ℕ, ◌≤◌, leb, cond, length, Some, Bool, true, false, List, [], ◌∷◌, ◌++◌, refl, sym, ap, subst, ◌∙◌, append_assoc, append-nil}
use Rattle.std.specs.Prelude.{◌&&◌, is_none}
use Rattle.std.proofs.Math.Bool.{and-true}
use Rattle.std.proofs.lemmas.Bool.{and_parts, leb-true}
use Rattle.std.proofs.lemmas.Option.{none-some, same_Some}
use Rattle.task_base.specs.Plan.{Plan}
use Rattle.task_base.specs.declared.entry.Entry.{Entry}
use Rattle.hist_model.specs.Allowed.{may_come, is_allowed, IsAllowed}
use Rattle.hist_model.specs.Legal.{legal_from, is_legal, illegal_from, first_illegal, IsIllegalAt, IsLegal}

legal_from_append : (script : Plan) (past xs ys : List Entry)
    → legal_from script past (xs ++ ys) ≡ (legal_from script past xs && legal_from script (past ++ xs) ys)
legal_from_append script past [] ys = ap (λ b. legal_from script b ys) (sym (append-nil past))
legal_from_append script past (x ∷ xs) ys = elim (is_allowed script past x) as
    (λ b. (b && legal_from script (past ++ x ∷ []) (xs ++ ys)) ≡ ((b && legal_from script (past ++ x ∷ []) xs) && legal_from script (past ++ x ∷ xs) ys)) [
      | true ↦ legal_from_append script (past ++ x ∷ []) xs ys ∙ ap (λ b. legal_from script (past ++ x ∷ []) xs && legal_from script b ys)
          (append_assoc past (x ∷ []) xs)
      | false ↦ refl
    ]

-- the empty history is legal
pub nothing_is_legal : (script : Plan) → IsLegal script []
unfolding is_legal
nothing_is_legal script = refl

-- a longer history is legal exactly where the shorter one is and the new entry is allowed after it
pub is_legal_push : (script : Plan) (past : List Entry) (e : Entry) → is_legal script (past ++ e ∷ []) ≡ (is_legal script past && is_allowed script past e)
unfolding is_legal
is_legal_push script past e = legal_from_append script [] past (e ∷ []) ∙ ap (λ b. legal_from script [] past && b) (and-true (is_allowed script past e))

-- so a legal history and an entry that is allowed behind it are legal
pub legal_next : (script : Plan) (past : List Entry) (e : Entry) → IsLegal script past → IsAllowed script past e → IsLegal script (past ++ e ∷ [])
legal_next script past e legal allowed = is_legal_push script past e ∙ rw (legal, allowed) refl

-- the front of a legal history is legal
pub front_is_legal : (script : Plan) (past rest : List Entry) → IsLegal script (past ++ rest) → IsLegal script past
unfolding is_legal
front_is_legal script past rest h = (and_parts (legal_from script [] past) (legal_from script past rest) (sym (legal_from_append script [] past rest) ∙ h)).0

-- each entry of a legal history is allowed after those before it
pub each_is_allowed : (script : Plan) (past : List Entry) (e : Entry) (rest : List Entry) → IsLegal script (past ++ e ∷ rest)
    → IsAllowed script past e
each_is_allowed script past e rest h =
    (and_parts (is_legal script past) (is_allowed script past e) (sym (is_legal_push script past e)
    ∙ front_is_legal script (past ++ e ∷ []) rest (ap (is_legal script) (append_assoc past (e ∷ []) rest) ∙ h))).1

-- what holds of the empty history, and of a longer one where it holds of the shorter one and the new entry is allowed,
-- holds of every legal history
pub legal_induction : (script : Plan) (P : List Entry → Type 0) → P []
    → ((past : List Entry) (e : Entry) → IsLegal script past → IsAllowed script past e → P past → P (past ++ e ∷ [])) → (past : List Entry)
    → IsLegal script past → P past
unfolding is_legal
legal_induction script P start step past h = walk [] past refl start h
  where
    walk : (front rest : List Entry) → IsLegal script front → P front → legal_from script front rest ≡ true → P (front ++ rest)
    walk front [] legal holds k = subst P (sym (append-nil front)) holds
    walk front (e ∷ rest) legal holds k =
        let parts = and_parts (is_allowed script front e) (legal_from script (front ++ e ∷ []) rest) k in
        let longer = is_legal_push script front e ∙ ap (λ b. b && is_allowed script front e) legal ∙ parts.0 in
        subst P (append_assoc front (e ∷ []) rest) (walk (front ++ e ∷ []) rest longer (step front e legal parts.0 holds) parts.1)

-- so does what an entry that may come, of a seat of the script, leaves
pub entry_induction : (script : Plan) (P : List Entry → Type 0) → P []
    → ((past : List Entry) (e : Entry) → e.seat ≤ script.workers → may_come script past e.seat e.kind ≡ true → P past → P (past ++ e ∷ []))
    → (past : List Entry) → IsLegal script past → P past
entry_induction script P start step = legal_induction script P start (λ past e legal allowed holds.
    let parts = and_parts (leb e.seat script.workers) (may_come script past e.seat e.kind) allowed in
    step past e (leb-true e.seat script.workers parts.0) parts.1 holds)

-- there is no place that is not allowed exactly where the history is legal
illegal_from_none : (script : Plan) (past rest : List Entry) → is_none (illegal_from script past rest) ≡ legal_from script past rest
illegal_from_none script past [] = refl
illegal_from_none script past (e ∷ rest) = elim (is_allowed script past e) as
    (λ b. is_none (cond b (illegal_from script (past ++ e ∷ []) rest) (Some (length past))) ≡ (b && legal_from script (past ++ e ∷ []) rest)) [
      | true ↦ illegal_from_none script (past ++ e ∷ []) rest
      | false ↦ refl
    ]

pub first_illegal_none : (script : Plan) (log : List Entry) → is_none (first_illegal script log) ≡ is_legal script log
unfolding first_illegal is_legal
first_illegal_none script log = illegal_from_none script [] log

-- the place that is not allowed has a legal past
pub first_illegal_some : (script : Plan) (log : List Entry) (place : ℕ) → first_illegal script log ≡ Some place → IsIllegalAt script log place
unfolding first_illegal is_legal
first_illegal_some script log place h = walk [] log refl h
  where
    walk : (front rest : List Entry) → IsLegal script front → illegal_from script front rest ≡ Some place → IsIllegalAt script (front ++ rest) place
    walk front [] legal k = absurd (none-some place k)
    walk front (e ∷ rest) legal k = at (is_allowed script front e) refl k
        (λ allowed later. subst (λ l. IsIllegalAt script l place) (append_assoc front (e ∷ []) rest)
        (walk (front ++ e ∷ []) rest (is_legal_push script front e ∙ ap (λ b. b && is_allowed script front e) legal ∙ allowed) later))
      where
        at : (b : Bool) → is_allowed script front e ≡ b → cond b (illegal_from script (front ++ e ∷ []) rest) (Some (length front)) ≡ Some place
            → (IsAllowed script front e → illegal_from script (front ++ e ∷ []) rest ≡ Some place → IsIllegalAt script (front ++ e ∷ rest) place)
            → IsIllegalAt script (front ++ e ∷ rest) place
        at true is m later = later is m
        at false is m later = record {
          past = front;
          entry = e;
          rest = rest;
          parts = refl;
          place_is = same_Some (length front) place m;
          legal_before = legal;
          not_allowed = is;
        }
