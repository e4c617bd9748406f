use Rattle.std.proofs.Common.{◌≡◌, ◌∙◌, ℕ, Bool, cond, false, List, None, Some, ap, length, refl, sym, true}
use Rattle.std.specs.Option.{option_map}
use Rattle.std.specs.Prelude.{not, option_and_then}
use Rattle.task_base.specs.Plan.{Plan}
use Rattle.task_base.specs.declared.entry.Entry.{Entry}
use Rattle.task_base.specs.declared.source.Key.{Key}
use Rattle.task_traits.specs.declared.traits.Priority.{Priority}
use Rattle.task_model.specs.Capacity.{priority_of_job}
use Rattle.task_model.specs.Jobs.{job_post_of}
use Rattle.task_model.specs.Keys.{key_at}
use Rattle.task_model.specs.Seats.{inside}
use Rattle.past_lookup.specs.Jobs.{job_posted}
use Rattle.past_lookup.specs.declared.jobs.JobPost.{JobPost}
use Rattle.next_entry.specs.Ranks.{accepted_rank, job_rank}
use Rattle.next_entry.specs.declared.rank.Rank.{Rank}
use Rattle.next_entry.proofs.rank.job_rank.Goals as goal

not_not : (b : Bool) → not b ≡ false → b ≡ true
not_not true is = refl
not_not false is = absurd cc

-- the parts of the rank of an accepted job are its rank
rank_told : (script : Plan) (past : List Entry) (j : ℕ) (post : JobPost) (priority : Priority) (n : ℕ) (key : Key)
    → option_map job_posted (Some post) ≡ job_post_of past j → post.ok ≡ true → priority ≡ priority_of_job script j → n ≡ length (inside script past j)
    → key ≡ key_at post.place → Some (record { priority = priority; inside = n; key = key }) ≡ job_rank script past j
rank_told script past j post priority n key is ok p i k =
    let whole : Rank = record { priority = priority_of_job script j; inside = length (inside script past j); key = key_at post.place } in
    let parts : Rank = record { priority = priority; inside = n; key = key } in
    let same : parts ≡ whole = rw (p, i, k) refl in
    ap (λ (r : Rank). Some r) same ∙ sym (ap (λ b. cond b (Some whole) None) ok) ∙ ap (option_and_then (accepted_rank script past j)) is

pub returns : goal.returns
returns c = rank_told c.args.script.now c.args.past.now c.args.job c.in_ok-post.post _ _ _ c.in_ok-post.ensures
    (not_not c.in_ok-post.post.ok c.if-not-post.false) c.job_priority.ensures
    c.requires.seats c.key_at.ensures
