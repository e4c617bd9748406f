-- The key of a source that would wait names its source: it is the key of a post to it. So no two sources that would wait, and
-- no two that wait, have one key.
-- Cited by `Choice/Best`, `hist_model`.
use Rattle.std.proofs.Common.{◌≡◌, ℕ, Bool, true, false, cond, eqb, List, [], ◌∷◌, ◌++◌, length, refl, sym, ap, ◌∙◌, Option, Some, None}
use Rattle.std.specs.Prelude.{slice_get, option_and_then, take}
use Rattle.std.specs.Option.{IfSome}
use Rattle.std.proofs.lemmas.Bool.{eqb-true}
use Rattle.std.proofs.lemmas.Option.{none-some}
use Rattle.task_base.specs.Plan.{Plan}
use Rattle.task_base.specs.declared.entry.Entry.{Entry}
use Rattle.task_base.specs.declared.entry.Kind.{Kind}
use Rattle.task_base.specs.declared.entry.Kind.TheVariants.{Post, JobPost}
use Rattle.task_base.specs.declared.source.TaskSource.{TaskSource}
use Rattle.task_base.specs.declared.source.TaskSource.TheVariants.{Sequence, Job}
use Rattle.task_model.specs.Past.{fold_past}
use Rattle.task_model.specs.Posts.{Posted}
use Rattle.task_model.specs.Keys.{Ready}
use Rattle.task_base.specs.Runners.{sequence_of}
use Rattle.task_model.specs.Sequences.{is_of, head_of}
use Rattle.task_model.specs.Jobs.{JobPosted, job_post_of, job_post_after}
use Rattle.task_model.specs.Sources.{Candidate}
use Rattle.pool_laws.specs.Choice.{IsWaiting, source_waiting, posted_source, source_at, WouldWait, post_by, post_at}
use Rattle.list_laws.proofs.Elements.{slice_get-end, push_induction}
use Rattle.list_laws.proofs.Places.{slice_get-more}
use Rattle.list_laws.proofs.Values.{some-injective}
use Rattle.pool_laws.proofs.Choice.Least.{head_is_least}
use Rattle.pool_laws.proofs.Choice.Candidates.{waiting_is_not_held, would_wait_is_candidate, waiting_sequence, waiting_job, sequence_within, job_within}
use Rattle.task_model.proofs.Growth.{job_post_of_push}
use Rattle.pool_laws.proofs.Choice.Posts.{eligible_names_post}

-- a post stays where it is
source_more : (script : Plan) (past more : List Entry) (place : ℕ) (source : TaskSource) → source_at script past place ≡ Some source
    → source_at script (past ++ more) place ≡ Some source
source_more script past more place source h = by_entry (slice_get past place) refl h
  where
    by_entry : (o : Option Entry) → slice_get past place ≡ o → option_and_then (λ e. posted_source script e.kind) o ≡ Some source
        → source_at script (past ++ more) place ≡ Some source
    by_entry None is none = absurd (none-some source none)
    by_entry (Some e) is some = rw (slice_get-more past more place e is) some

source_here : (script : Plan) (past : List Entry) (e : Entry) → source_at script (past ++ e ∷ []) (length past) ≡ posted_source script e.kind
source_here script past e = rw (slice_get-end past e) refl

-- an accepted task that stands at a place was posted there to its sequence
source_of_post : (script : Plan) (past : List Entry) (place : ℕ) (p : Posted) → post_at past place ≡ Some p
    → source_at script past place ≡ Some (Sequence (sequence_of script p.home p.task))
source_of_post script past place p is = by_entry (slice_get past place) is
  where
    of_kind : (kind : Kind) → post_by (take place past) kind ≡ Some p → posted_source script kind ≡ Some (Sequence (sequence_of script p.home p.task))
    of_kind (Post task runner delay ok) some = ap (λ q. Some (Sequence (sequence_of script q.home q.task))) (some-injective some)
    of_kind kind none = absurd (none-some p none)

    by_entry : (o : Option Entry) → option_and_then (λ e. post_by (take place past) e.kind) o ≡ Some p
        → option_and_then (λ e. posted_source script e.kind) o ≡ Some (Sequence (sequence_of script p.home p.task))
    by_entry None none = absurd (none-some p none)
    by_entry (Some e) some = of_kind e.kind some

head_stands : (script : Plan) (past : List Entry) (s : ℕ) (r : Ready) → head_of script past s ≡ Some r → source_at script past r.key.post ≡ Some (Sequence s)
head_stands script past s r is =
    let names : (post_at past r.key.post ≡ Some r.posted) × (is_of script s r.posted ≡ true) =
    eligible_names_post script past s r (head_is_least script past s r is).member in
    source_of_post script past r.key.post r.posted names.0
    ∙ ap (λ n. Some (Sequence n)) (eqb-true (sequence_of script r.posted.home r.posted.task) s names.1)

-- the post of a job stands at its place
abbrev job_stands : Plan → List Entry → ℕ → JobPosted → Type 0
job_stands script past j p = source_at script past p.place ≡ Some (Job j)

pub no_job_post : (j : ℕ) → job_post_of [] j ≡ None
unfolding job_post_of fold_past
no_job_post j = refl

job_post_stands : (script : Plan) (past : List Entry) (j : ℕ) → IfSome (job_post_of past j) (job_stands script past j)
job_post_stands script past j = push_induction (λ before. IfSome (job_post_of before j) (job_stands script before j)) (rw (no_job_post j) tt)
    (λ before e h. rw (job_post_of_push before e j) (new before e (job_post_of before j) h e.kind refl)) past
  where
    first : (before : List Entry) (e : Entry) (job : ℕ) (ok : Bool) → e.kind ≡ JobPost job ok → (b : Bool) → eqb job j ≡ b
        → IfSome (cond b (Some (record { place = length before; ok = ok })) None) (job_stands script (before ++ e ∷ []) j)
    first before e job ok is true same = rw (source_here script before e, is, eqb-true job j same) refl
    first before e job ok is false other = tt

    new : (before : List Entry) (e : Entry) (o : Option JobPosted) → IfSome o (job_stands script before j) → (kind : Kind) → e.kind ≡ kind
        → IfSome (job_post_after j before o kind) (job_stands script (before ++ e ∷ []) j)
    new before e None k (JobPost job ok) is = first before e job ok is (eqb job j) refl
    new before e None k kind is = tt
    new before e (Some p) k kind is = source_more script before (e ∷ []) p.place (Job j) k

-- the key of what would wait names the post of it, or of its head, and so its source
pub key_is_of_source : (script : Plan) (past : List Entry) (source : TaskSource) (c : Candidate) → source_waiting script past source ≡ Some c
    → source_at script past c.key.post ≡ Some source
key_is_of_source script past (Sequence s) c is =
    let parts = waiting_sequence script past s c (sequence_within script past s c is).1 in
    rw (← parts.3) (head_stands script past s parts.0 parts.2)
key_is_of_source script past (Job j) c is =
    let parts = waiting_job script past j c (job_within script past j c is).1 in
    rw (← parts.3) (rw parts.2 at (job_post_stands script past j))

-- so no two sources that would wait have one key
pub one_key_of : (script : Plan) (past : List Entry) (c d : Candidate) → WouldWait script past c → WouldWait script past d → c.key ≡ d.key → c ≡ d
one_key_of script past c d waits also same =
    some-injective (sym (would_wait_is_candidate script past c waits) ∙ ap (source_waiting script past) sources ∙ would_wait_is_candidate script past d also)
  where
    sources : c.source ≡ d.source
    sources = some-injective (sym (key_is_of_source script past c.source c (would_wait_is_candidate script past c waits))
        ∙ ap (λ key. source_at script past key.post) same ∙ key_is_of_source script past d.source d (would_wait_is_candidate script past d also))

pub one_key : (script : Plan) (past : List Entry) (c d : Candidate) → IsWaiting script past c → IsWaiting script past d → c.key ≡ d.key → c ≡ d
one_key script past c d waits also = one_key_of script past c d (waiting_is_not_held script past c waits).0 (waiting_is_not_held script past d also).0
