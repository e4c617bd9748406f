-- The verdict on a log.
-- Cited by `check_log`, `check_prefix`, `follow_all`, `env_explain`, `open_check`, `order_explain`.
use Rattle.std.proofs.Common.{◌≡◌, ◌↔◌, ℕ, ◌+◌, ◌<◌, ◌≤◌, ◌^◌, Bool, true, false, cond, List, [], ◌∷◌, ◌++◌, length, take}
use Rattle.std.proofs.Common.{drop, get_or, refl, sym, ap, ◌∙◌, append_assoc, append-nil, Option, Some, None, arith}
use Rattle.std.proofs.lemmas.List.{length-take-le, take-append-drop, take_all, take_more}
use Rattle.std.proofs.lemmas.Bool.{and_parts}
use Rattle.std.specs.Prelude.{is_none}
use Rattle.script_model.specs.Laws.Sound.{IsSound}
use Rattle.task_base.specs.Plan.{Plan}
use Rattle.task_base.specs.declared.entry.Entry.{Entry}
use Rattle.hist_model.specs.Allowed.{is_allowed}
use Rattle.hist_model.specs.Legal.{IsLegal, first_illegal, illegal_from, is_legal, legal_from}
use Rattle.hist_model.specs.Script.{IsWhole, is_whole}
use Rattle.hist_model.proofs.Laws.Entries.Bound.{entries_within_limit}
use Rattle.hist_model.proofs.Laws.Legal.{first_illegal_none, is_legal_push}
use Rattle.env_core.specs.Views.{EnvView}
use Rattle.log_replay.specs.Follows.{Follows}
use Rattle.env_check.specs.Verdicts.{prefix_verdict_at, prefix_verdict_of, verdict_at, verdict_of}
use Rattle.env_check.specs.declared.verdict.Verdict.{Verdict}
use Rattle.env_check.specs.declared.verdict.Verdict.TheVariants.{Legal, Illegal}

-- behind a legal part the first entry that is not allowed is the first of the log
illegal_behind : (script : Plan) (past xs : List Entry) (e : Entry) (rest : List Entry) → legal_from script past xs ≡ true
    → is_allowed script (past ++ xs) e ≡ false → illegal_from script past (xs ++ e ∷ rest) ≡ Some (length (past ++ xs))
illegal_behind script past [] e rest legal barred = let same = append-nil past in rw (same, rw same at barred) refl
illegal_behind script past (x ∷ xs) e rest legal barred =
    let parts = and_parts (is_allowed script past x) (legal_from script (past ++ x ∷ []) xs) legal in
    let same : (past ++ x ∷ []) ++ xs ≡ past ++ x ∷ xs = append_assoc past (x ∷ []) xs in
    rw parts.0 (illegal_behind script (past ++ x ∷ []) xs e rest parts.1 (rw same barred) ∙ ap (λ l. Some (length l)) same)

-- a log whose entry behind a legal front is not allowed is first illegal there
pub illegal_at : (script : Plan) (past : List Entry) (e : Entry) (rest : List Entry) → IsLegal script past → is_allowed script past e ≡ false
    → first_illegal script (past ++ e ∷ rest) ≡ Some (length past)
unfolding first_illegal is_legal
illegal_at script past e rest legal barred = illegal_behind script [] past e rest legal barred

-- a legal log is first illegal nowhere
pub illegal_nowhere : (script : Plan) (log : List Entry) → IsLegal script log → first_illegal script log ≡ None
illegal_nowhere script log legal = by_first_illegal (first_illegal script log) (first_illegal_none script log ∙ legal)
  where
    by_first_illegal : (o : Option ℕ) → is_none o ≡ true → o ≡ None
    by_first_illegal None none = refl
    by_first_illegal (Some place) none = absurd cc

-- one more entry that is allowed keeps a history legal
pub legal_more : (script : Plan) (past : List Entry) (e : Entry) → IsLegal script past → is_allowed script past e ≡ true → IsLegal script (past ++ e ∷ [])
legal_more script past e legal allowed = is_legal_push script past e ∙ rw (legal, allowed) refl

-- the places of a legal history are numbers of 32 bits
pub few_entries : (script : Plan) (past : List Entry) → IsSound script → IsLegal script past → length past < 2 ^ 31
few_entries script past plan legal = omega (arith, entries_within_limit script past plan legal)

-- a log is its entries before a place, the one there, and those behind it
parts_at : (log : List Entry) (i : ℕ) (d : Entry) → i < length log → log ≡ take i log ++ get_or log i d ∷ drop (i + 1) log
parts_at log i d within = sym (take-append-drop (i + 1) log) ∙ ap (λ l. l ++ drop (i + 1) log) (take_more log i d within)
    ∙ append_assoc (take i log) (get_or log i d ∷ []) (drop (i + 1) log)

-- a log was followed up to this place
pub record IsFollowed (view : EnvView) (script : Plan) (log : List Entry) (i : ℕ) : Type 0 where
  pub script_is : view.script ≡ script
  pub history_is : view.history ≡ take i log
  pub legal : IsLegal script view.history

-- where the entry there may not come, it is the first of the log that may not
pub stops_at : (view after : EnvView) (script : Plan) (log : List Entry) (i : ℕ) (d : Entry) → IsFollowed view script log i → i < length log
    → Follows view after (get_or log i d) false → first_illegal script log ≡ Some i
stops_at view after script log i d followed within follows =
    let barred : is_allowed script (take i log) (get_or log i d) ≡ false =
    sym (rw (← followed.script_is, ← followed.history_is) follows.judged) in
    ap (first_illegal script) (parts_at log i d within)
    ∙ illegal_at script (take i log) (get_or log i d) (drop (i + 1) log) (rw (← followed.history_is) followed.legal) barred
    ∙ ap Some (length-take-le i log (omega (arith, within)))

-- where it may, the log is followed one entry further
pub goes_on_at : (view after : EnvView) (script : Plan) (log : List Entry) (i : ℕ) (d : Entry) → IsFollowed view script log i → i < length log
    → Follows view after (get_or log i d) true → IsFollowed after script log (i + 1)
goes_on_at view after script log i d followed within follows =
    let next = follows.goes_on refl in
    let history : after.history ≡ view.history ++ get_or log i d ∷ [] = ap (λ v. v.history) next in
    let allowed : is_allowed script view.history (get_or log i d) ≡ true = sym (rw (← followed.script_is) follows.judged) in
    record {
      script_is = ap (λ v. v.script) next ∙ followed.script_is;
      history_is = history ∙ ap (λ l. l ++ get_or log i d ∷ []) followed.history_is ∙ sym (take_more log i d within);
      legal = rw history (legal_more script view.history (get_or log i d) followed.legal allowed);
    }

-- the places of a log that is followed are numbers of 32 bits
pub few_followed : (view : EnvView) (script : Plan) (log : List Entry) (i : ℕ) → IsSound script → IsFollowed view script log i → i < length log → i < 2 ^ 31
few_followed view script log i plan followed within =
    omega (arith, few_entries script view.history plan followed.legal, ap length followed.history_is, length-take-le i log (omega (arith, within)))

-- a log that was followed to its end is legal, and the history is the log
pub legal_at_end : (view : EnvView) (script : Plan) (log : List Entry) (i : ℕ) → IsFollowed view script log i → length log ≤ i
    → (view.history ≡ log) × IsLegal script log
legal_at_end view script log i followed end =
    let all : view.history ≡ log = followed.history_is ∙ take_all i log end in (all, rw (← all) followed.legal)

-- the verdict on a log with an entry that may not come
pub verdict_there : (script : Plan) (log : List Entry) (place : ℕ) → first_illegal script log ≡ Some place → Illegal place ≡ verdict_of script log
unfolding verdict_of
verdict_there script log place is = rw is refl

-- the verdict on a legal log
pub verdict_nowhere : (script : Plan) (log : List Entry) (whole : Bool) → first_illegal script log ≡ None → is_whole script log ≡ whole
    → cond whole Legal (Illegal (length log)) ≡ verdict_of script log
unfolding verdict_of
verdict_nowhere script log whole none is = rw (none, is) refl

-- the verdict is that of a legal, whole log exactly where the log is one
pub legal_verdict : (script : Plan) (log : List Entry) → (verdict_of script log ≡ Legal) ↔ (IsLegal script log × IsWhole script log)
unfolding verdict_of
legal_verdict script log = (there, λ both. rw (illegal_nowhere script log both.0, both.1) refl)
  where
    by_first_illegal : (o : Option ℕ) (whole : Bool) → first_illegal script log ≡ o → is_whole script log ≡ whole → verdict_at script log o ≡ Legal
        → IsLegal script log × IsWhole script log
    by_first_illegal (Some place) whole is same verdict = absurd cc
    by_first_illegal None true is same verdict = (sym (first_illegal_none script log) ∙ ap is_none is, same)
    by_first_illegal None false is same verdict = absurd cc

    there : verdict_at script log (first_illegal script log) ≡ Legal → IsLegal script log × IsWhole script log
    there verdict = by_first_illegal (first_illegal script log) (is_whole script log) refl refl verdict

-- and so is each answer that is the verdict
pub legal_answer : (script : Plan) (log : List Entry) (verdict : Verdict) → verdict ≡ verdict_of script log
    → (verdict ≡ Legal) ↔ (IsLegal script log × IsWhole script log)
legal_answer script log verdict is = rw is (legal_verdict script log)

-- the verdict on a beginning is told by where its first entry is that may not come
pub prefix_verdict_there : (script : Plan) (log : List Entry) (first : Option ℕ) → first ≡ first_illegal script log
    → prefix_verdict_at first ≡ prefix_verdict_of script log
unfolding prefix_verdict_of
prefix_verdict_there script log first is = ap prefix_verdict_at is

-- it is that of a legal log exactly where the beginning is one
pub legal_prefix : (script : Plan) (log : List Entry) → (prefix_verdict_of script log ≡ Legal) ↔ IsLegal script log
unfolding prefix_verdict_of
legal_prefix script log = (by_first_illegal (first_illegal script log) refl, λ legal. rw (illegal_nowhere script log legal) refl)
  where
    by_first_illegal : (o : Option ℕ) → first_illegal script log ≡ o → prefix_verdict_at o ≡ Legal → IsLegal script log
    by_first_illegal (Some place) is same = absurd cc
    by_first_illegal None is same = sym (first_illegal_none script log) ∙ ap is_none is

-- and so is each answer that is the verdict
pub legal_prefix_answer : (script : Plan) (log : List Entry) (verdict : Verdict) → verdict ≡ prefix_verdict_of script log
    → (verdict ≡ Legal) ↔ IsLegal script log
legal_prefix_answer script log verdict is = rw is (legal_prefix script log)
