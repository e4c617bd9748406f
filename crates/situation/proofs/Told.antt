-- What an entry changes goes by its kind without the items of jobs, but for what a seat holds.
-- Cited by `Onward/Folds`, `Onward/Scopes`, `Onward/Tasks`, `Onward/Whole`, `log_count`.
use Rattle.std.proofs.Common.{◌≡◌, ℕ, refl, sym, ap, ◌∙◌, Option, Some, None}
use Rattle.std.specs.Prelude.{is_some}
use Rattle.std.specs.Option.{option_map}
use Rattle.task_base.specs.declared.entry.JobReply.TheVariants.{Finished}
use Rattle.task_base.specs.declared.entry.Kind.{Kind}
use Rattle.task_base.specs.declared.entry.Kind.TheVariants as kinds
use Rattle.task_base.specs.declared.policy.Policy.{Policy}
use Rattle.task_traits.specs.declared.phase.Phase.{Phase}
use Rattle.task_traits.specs.declared.traits.Priority.{Priority}
use Rattle.task_model.specs.Time.{now_after}
use Rattle.task_model.specs.Phase.{phase_after}
use Rattle.task_model.specs.Policies.{policy_after}
use Rattle.task_model.specs.Posts.{takes}
use Rattle.task_model.specs.Seats.{Running, running_after, Holding, holding_after, acts_after}
use Rattle.task_model.specs.Capacity.{priority_after}
use Rattle.task_model.specs.Jobs.{cancels, claims}
use Rattle.hist_model.specs.Script.{is_joined, is_main_end, is_main_none}
use Rattle.situation.specs.Alike.{without_items}
use Rattle.situation.specs.Onward.{job_after}

-- a notion of kinds that tells no item from another
abbrev pub Tells : {A : Type 0} → (Kind → A) → Type 0
Tells of = (kind : Kind) → of kind ≡ of (without_items kind)

module _ {A : Type 0} (of : Kind → A) (tells : Tells of) where
  pub same_told : (kind like : Kind) → without_items kind ≡ without_items like → of kind ≡ of like
  same_told kind like alike = tells kind ∙ ap of alike ∙ sym (tells like)

-- one that says nothing of jobs
pub by_jobs : {A : Type 0} (of : Kind → A) → ((job id item : ℕ) → of (kinds.JobTake job id item) ≡ of (kinds.JobTake job 0 0))
    → ((job id item value : ℕ) (next : Option ℕ) → of (kinds.JobStep job id item value next) ≡ of (kinds.JobStep job 0 0 0 (option_map (λ n. 0) next)))
    → ((job sum : ℕ) → of (kinds.Joined job (Finished sum)) ≡ of (kinds.Joined job (Finished 0))) → Tells of
by_jobs of takes steps joined (kinds.JobTake job id item) = takes job id item
by_jobs of takes steps joined (kinds.JobStep job id item value next) = steps job id item value next
by_jobs of takes steps joined (kinds.Joined job (Finished sum)) = joined job sum
by_jobs of takes steps joined (kinds.Joined job reply) = refl
by_jobs of takes steps joined kind = refl

pub now_told : (now : ℕ) (kind like : Kind) → without_items kind ≡ without_items like → now_after now kind ≡ now_after now like
now_told now = same_told (now_after now) (by_jobs (now_after now) (λ j i n. refl) (λ j i n v k. refl) (λ j s. refl))

pub phase_told : (phase : Phase) (kind like : Kind) → without_items kind ≡ without_items like → phase_after phase kind ≡ phase_after phase like
phase_told phase = same_told (phase_after phase) (by_jobs (phase_after phase) (λ j i n. refl) (λ j i n v k. refl) (λ j s. refl))

pub policy_told : (policy : Policy) (kind like : Kind) → without_items kind ≡ without_items like → policy_after policy kind ≡ policy_after policy like
policy_told policy = same_told (policy_after policy) (by_jobs (policy_after policy) (λ j i n. refl) (λ j i n v k. refl) (λ j s. refl))

pub priority_told : (runner : ℕ) (priority : Priority) (kind like : Kind) → without_items kind ≡ without_items like
    → priority_after runner priority kind ≡ priority_after runner priority like
priority_told runner priority = same_told (priority_after runner priority) (by_jobs (priority_after runner priority) (λ j i n. refl) (λ j i n v k. refl)
    (λ j s. refl))

pub running_told : (o : Option Running) (kind like : Kind) → without_items kind ≡ without_items like → running_after o kind ≡ running_after o like
running_told o = same_told (running_after o) (by_jobs (running_after o) (λ j i n. refl) (λ j i n v k. refl) (λ j s. refl))

pub acts_told : (n : ℕ) (kind like : Kind) → without_items kind ≡ without_items like → acts_after n kind ≡ acts_after n like
acts_told n = same_told (acts_after n) (by_jobs (acts_after n) (λ j i m. refl) (λ j i m v k. refl) (λ j s. refl))

pub takes_told : (t : ℕ) (kind like : Kind) → without_items kind ≡ without_items like → takes t kind ≡ takes t like
takes_told t = same_told (takes t) (by_jobs (takes t) (λ j i n. refl) (λ j i n v k. refl) (λ j s. refl))

pub cancels_told : (job : ℕ) (kind like : Kind) → without_items kind ≡ without_items like → cancels job kind ≡ cancels job like
cancels_told job = same_told (cancels job) (by_jobs (cancels job) (λ j i n. refl) (λ j i n v k. refl) (λ j s. refl))

some_mapped : (o : Option ℕ) → is_some o ≡ is_some (option_map {U = ℕ} (λ n. 0) o)
some_mapped None = refl
some_mapped (Some n) = refl

pub claims_told : (job : ℕ) (kind like : Kind) → without_items kind ≡ without_items like → claims job kind ≡ claims job like
claims_told job = same_told (claims job) (by_jobs (claims job) (λ j i n. refl) (λ j i n v k. rw (some_mapped k) refl) (λ j s. refl))

pub joins_told : (kind like : Kind) → without_items kind ≡ without_items like → is_joined kind ≡ is_joined like
joins_told = same_told is_joined (by_jobs is_joined (λ j i n. refl) (λ j i n v k. refl) (λ j s. refl))

pub main_ends_told : (kind like : Kind) → without_items kind ≡ without_items like → is_main_end kind ≡ is_main_end like
main_ends_told = same_told is_main_end (by_jobs is_main_end (λ j i n. refl) (λ j i n v k. refl) (λ j s. refl))

pub main_none_told : (kind like : Kind) → without_items kind ≡ without_items like → is_main_none kind ≡ is_main_none like
main_none_told = same_told is_main_none (by_jobs is_main_none (λ j i n. refl) (λ j i n v k. refl) (λ j s. refl))

pub job_of_holding : (o : Option Holding) (kind : Kind) → option_map (λ h. h.job) (holding_after o kind) ≡ job_after (option_map (λ (h : Holding). h.job) o) kind
job_of_holding o (kinds.JobTake job id item) = refl
job_of_holding o (kinds.JobStep job id item value (Some next)) = refl
job_of_holding o (kinds.JobStep job id item value None) = refl
job_of_holding o kind = refl

pub held_told : (a b : Option Holding) (kind like : Kind) → option_map (λ (h : Holding). h.job) a ≡ option_map (λ (h : Holding). h.job) b
    → without_items kind ≡ without_items like → option_map (λ h. h.job) (holding_after a kind) ≡ option_map (λ h. h.job) (holding_after b like)
held_told a b kind like same alike = job_of_holding a kind ∙ ap (λ o. job_after o kind) same
    ∙ same_told (job_after (option_map (λ (h : Holding). h.job) b)) (by_jobs (job_after (option_map (λ (h : Holding). h.job) b)) (λ j i n. refl) steps
    (λ j s. refl)) kind like alike
    ∙ sym (job_of_holding b like)
  where
    steps : (job id item value : ℕ) (next : Option ℕ) → job_after (option_map (λ (h : Holding). h.job) b) (kinds.JobStep job id item value next)
        ≡ job_after (option_map (λ (h : Holding). h.job) b) (kinds.JobStep job 0 0 0 (option_map (λ n. 0) next))
    steps job id item value None = refl
    steps job id item value (Some next) = refl
