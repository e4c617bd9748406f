use Rattle.std.proofs.Common.{◌≡◌, ℕ, ◌+◌, ◌<◌, ◌∙◌, List, Option, ap, arith, get_or, length, refl, sym, take}
use Rattle.std.proofs.lemmas.List.{length-take-le, take_all, take_more}
use Rattle.task_base.specs.declared.entry.Entry.{Entry}
use Rattle.task_model.specs.Jobs.{JobPosted, job_post_after, job_post_of}
use Rattle.task_model.specs.Past.{fold_past}
use Rattle.task_model.proofs.Growth.{job_post_of_push}
use Rattle.past_lookup.proofs.jobs.job_post_of.Goals as goal

-- the post behind one more entry
post_more : (past : List Entry) (i j : ℕ) (d : Entry) (old new : Option JobPosted) → i < length past → old ≡ job_post_of (take i past) j
    → new ≡ job_post_after j (take i past) old (get_or past i d).kind → new ≡ job_post_of (take (i + 1) past) j
post_more past i j d old new below is goes = rw (take_more past i d below)
    (goes ∙ ap (λ o. job_post_after j (take i past) o (get_or past i d).kind) is ∙ sym (job_post_of_push (take i past) (get_or past i d) j))

pub loop-entry-init : goal.loop-entry-init
unfolding job_post_of fold_past
loop-entry-init c = record { post_is = refl; place_is = refl }

pub loop-entry-preserved : goal.loop-entry-preserved
loop-entry-preserved c =
    let i = c.loop-entry.entry-index in
    let past = c.args.past.now in
    let now = c.loop-entry.invariant in
    let here : c.loop-entry.place ≡ length (take i past) = now.place_is ∙ sym (length-take-le i past (omega (arith, c.loop-entry-test.true))) in
    record {
      post_is = post_more past i c.args.job _ _ _ c.loop-entry-test.true now.post_is (c.job_post_after-post.ensures (take i past) here);
      place_is = omega (arith, now.place_is);
    }

pub returns : goal.returns
returns c = c.loop-entry.invariant.post_is
    ∙ ap (λ l. job_post_of l c.args.job) (take_all c.loop-entry.entry-index c.args.past.now (omega (arith, c.loop-entry-test.false)))
