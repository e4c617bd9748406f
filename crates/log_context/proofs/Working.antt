-- The work of a seat, and the scope of a task, one entry further.
-- Cited by `scope_of`, `work_of`.
use Rattle.std.proofs.Common.{◌≡◌, ℕ, ◌+◌, ◌<◌, Bool, true, false, List, [], ◌∷◌, ◌++◌, Option, Some, None, ap, get_or, length, refl, sym, take, ◌∙◌}
use Rattle.std.proofs.lemmas.List.{take_more}
use Rattle.std.specs.Option.{option_map}
use Rattle.std.specs.Prelude.{◌==◌, if◌then◌else◌}
use Rattle.task_base.specs.Plan.{Plan}
use Rattle.task_base.specs.declared.entry.Entry.{Entry}
use Rattle.task_base.specs.declared.entry.Kind.{Kind}
use Rattle.task_base.specs.declared.entry.Kind.TheVariants as kinds
use Rattle.task_model.proofs.Growth.{holding_push, now_of_push, open_scope_push, running_push, taken_with_push}
use Rattle.task_model.specs.Capacity.{OpenScope, open_scope, scope_after, taken_after}
use Rattle.task_model.specs.Seats.{Holding, Running, holding, holding_after, running, running_after}
use Rattle.task_model.specs.Time.{now_after, now_of}
use Rattle.log_context.specs.Work.{IsWorkOf, job_after, task_after, work_after}
use Rattle.log_context.specs.declared.work.Work.{Work}

task_follows : (w : Option Running) (kind : Kind) → task_after (option_map (λ r. r.task) w) kind ≡ option_map (λ r. r.task) (running_after w kind)
task_follows w (kinds.Take task runner found) = refl
task_follows w (kinds.MainTake task queue found) = refl
task_follows w (kinds.End task left) = refl
task_follows w (kinds.MainEnd task left) = refl
task_follows w kind = refl

job_follows : (h : Option Holding) (kind : Kind) → job_after (option_map (λ r. r.job) h) kind ≡ option_map (λ r. r.job) (holding_after h kind)
job_follows h (kinds.JobTake job id item) = refl
job_follows h (kinds.JobStep job id item value (Some next)) = refl
job_follows h (kinds.JobStep job id item value None) = refl
job_follows h kind = refl

-- where the entry is the seat's own, and where it is not
task_by : (own : Bool) (w : Option Running) (kind : Kind)
    → (if own then task_after (option_map (λ r. r.task) w) kind else option_map (λ r. r.task) w)
    ≡ option_map (λ r. r.task) (if own then running_after w kind else w)
task_by true w kind = task_follows w kind
task_by false w kind = refl

job_by : (own : Bool) (h : Option Holding) (kind : Kind)
    → (if own then job_after (option_map (λ r. r.job) h) kind else option_map (λ r. r.job) h)
    ≡ option_map (λ r. r.job) (if own then holding_after h kind else h)
job_by true h kind = job_follows h kind
job_by false h kind = refl

-- one entry further
work_follows : (script : Plan) (past : List Entry) (seat : ℕ) (work : Work) (e : Entry) → IsWorkOf script past seat work
    → IsWorkOf script (past ++ e ∷ []) seat (work_after script past seat work e)
work_follows script past seat work e is = record {
  task = ap (λ o. if e.seat == seat then task_after o e.kind else o) is.task ∙ task_by (e.seat == seat) (running past seat) e.kind
      ∙ ap (option_map (λ r. r.task)) (sym (running_push past e seat));
  taken = ap (λ o. if e.seat == seat then taken_after script past o e.kind else o) is.taken ∙ sym (taken_with_push script past e seat);
  job = ap (λ o. if e.seat == seat then job_after o e.kind else o) is.job ∙ job_by (e.seat == seat) (holding past seat) e.kind
      ∙ ap (option_map (λ r. r.job)) (sym (holding_push past e seat));
}

pub work_more : (script : Plan) (past : List Entry) (seat i : ℕ) (d : Entry) (old new : Work) → i < length past → IsWorkOf script (take i past) seat old
    → new ≡ work_after script (take i past) seat old (get_or past i d) → IsWorkOf script (take (i + 1) past) seat new
work_more script past seat i d old new below is goes = rw (goes, take_more past i d below) (work_follows script (take i past) seat old (get_or past i d) is)

-- the scope that is open, one entry further
pub scope_more : (past : List Entry) (t i : ℕ) (d : Entry) (old new : Option OpenScope) → i < length past → old ≡ open_scope (take i past) t
    → new ≡ scope_after t (take i past) old (get_or past i d).kind → new ≡ open_scope (take (i + 1) past) t
scope_more past t i d old new below is goes = rw (take_more past i d below)
    (goes ∙ ap (λ o. scope_after t (take i past) o (get_or past i d).kind) is ∙ sym (open_scope_push (take i past) (get_or past i d) t))

-- and the moment
pub moment_more : (past : List Entry) (i : ℕ) (d : Entry) (old new : ℕ) → i < length past → old ≡ now_of (take i past)
    → new ≡ now_after old (get_or past i d).kind → new ≡ now_of (take (i + 1) past)
moment_more past i d old new below is goes = rw (take_more past i d below)
    (goes ∙ ap (λ m. now_after m (get_or past i d).kind) is ∙ sym (now_of_push (take i past) (get_or past i d)))
