-- Every legal past is consistent.
-- Cited by `Laws/LegalPast`, `Laws/OneSeat`, `Laws/OpenPlans`, `Laws/Postings/Once`, `Laws/Progress/Tasks`, `Laws/Rising`, `Laws/Starts`,
-- `Laws/Whole/Rest`, `seats.rt`, `call_laws`, `env_core`, `live_core`, `log_count`, `run_summary`, `situation`.
use Rattle.std.proofs.Common.{◌≡◌, ℕ, Bool, true, false, List, [], ◌∷◌, ◌++◌, refl, sym, ap, ◌∙◌, arith}
use Rattle.std.proofs.lemmas.Bool.{eqb-true, true≢false, eq-eqb}
use Rattle.task_base.specs.Plan.{Plan}
use Rattle.task_base.specs.declared.entry.Entry.{Entry}
use Rattle.task_base.specs.declared.entry.Kind.{Kind}
use Rattle.task_base.specs.declared.entry.Kind.TheVariants as kinds
use Rattle.task_model.specs.Posts.{is_main_taken}
use Rattle.pool_laws.specs.Runs.{RunsSingly}
use Rattle.pool_laws.proofs.Seats.Runs.{singly_kept, singly_at_end, singly_at_take, singly_at_start}
use Rattle.hist_model.specs.Allowed.{may_come}
use Rattle.hist_model.specs.Legal.{IsLegal}
use Rattle.hist_model.specs.Laws.Consistent.{IsConsistent}
use Rattle.hist_model.proofs.Laws.Legal.{entry_induction}
use Rattle.hist_model.proofs.Laws.Takes.{take_is, main_take_is, end_is, main_end_is}

-- an entry that is allowed keeps a past consistent
step : (script : Plan) (past : List Entry) (seat : ℕ) (kind : Kind) (main : Bool) → may_come script past seat kind ≡ true → RunsSingly script past main
    → RunsSingly script (past ++ record { seat = seat; kind = kind } ∷ []) main
step script past seat (kinds.Take task runner value) false h c =
    let t = take_is script past seat task runner value h in
    singly_at_take script past (record { seat = seat; kind = kinds.Take task runner value })
    (record { task = task; home = runner; found = value; is_main = false }) false refl (eq-eqb task task refl) (λ u. refl)
    (record {
      accepted = t.head.posted;
      posted = t.is_head.accepted;
      task_is = t.task_is;
      home_is = t.home_is;
      worker = λ is. t.worker;
      driver = λ is. absurd (true≢false (sym is));
      known = t.known;
    }) t.not_taken (λ is. t.not_running) c
step script past seat (kinds.MainTake task queue value) true h c =
    let t = main_take_is script past seat task queue value h in
    singly_at_take script past (record { seat = seat; kind = kinds.MainTake task queue value })
    (record { task = task; home = queue; found = value; is_main = true }) true refl (eq-eqb task task refl) (λ u. refl)
    (record {
      accepted = t.is_front.accepted;
      posted = t.is_front.posted;
      task_is = t.is_front.task_is ∙ t.task_is;
      home_is = t.is_front.queue_is ∙ t.queue_is;
      worker = λ is. absurd (true≢false is);
      driver = λ is. t.driver;
      known = omega (arith, t.driver);
    }) (ap (is_main_taken past) (sym t.task_is) ∙ t.is_front.not_taken) (λ is. absurd (true≢false is)) c
step script past seat (kinds.End task left) false h c =
    let (v, runs, pool, is) = end_is script past seat task left h in
    singly_at_end script past (record { seat = seat; kind = kinds.End task left }) v false runs pool refl (λ u same. is ∙ eqb-true task u same) c
step script past seat (kinds.MainEnd task left) true h c =
    let (v, runs, main, is) = main_end_is script past seat task left h in
    singly_at_end script past (record { seat = seat; kind = kinds.MainEnd task left }) v true runs main refl (λ u same. is ∙ eqb-true task u same) c
step script past seat kind false h c = singly_kept script past (record { seat = seat; kind = kind }) false refl c
step script past seat kind true h c = singly_kept script past (record { seat = seat; kind = kind }) true refl c

-- what every legal past gives
pub legal_is_consistent : (script : Plan) (past : List Entry) → IsLegal script past → IsConsistent script past
legal_is_consistent script = entry_induction script (IsConsistent script) (singly_at_start script)
    (λ past e known may c main. step script past e.seat e.kind main may (c main))
