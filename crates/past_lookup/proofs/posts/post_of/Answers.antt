use Rattle.std.proofs.Common.{◌≡◌, ℕ, ◌+◌, ◌<◌, ◌∙◌, ◌==◌, List, Option, ap, arith, get_or, length, refl, sym, take}
use Rattle.std.proofs.lemmas.List.{length-take-le, take_all, take_more}
use Rattle.std.proofs.lemmas.List.Folds.{find-append}
use Rattle.std.specs.Option.{option_or}
use Rattle.std.specs.Prelude.{find}
use Rattle.task_base.specs.declared.entry.Entry.{Entry}
use Rattle.task_model.specs.Past.{fold_past}
use Rattle.task_model.specs.Posts.{Posted, posted_by, posts}
use Rattle.pool_laws.specs.Posts.{post_of}
use Rattle.task_model.specs.Time.{now_after, now_of}
use Rattle.task_model.proofs.Growth.{now_of_push, posts_push}
use Rattle.past_lookup.proofs.posts.post_of.Goals as goal

-- the post behind one more entry
post_more : (past : List Entry) (i t : ℕ) (d : Entry) (old new : Option Posted) → i < length past → old ≡ post_of (take i past) t
    → new ≡ option_or old (find (λ p. p.task == t) (posted_by (take i past) (get_or past i d).kind)) → new ≡ post_of (take (i + 1) past) t
post_more past i t d old new below is grows = rw (take_more past i d below, posts_push (take i past) (get_or past i d))
    (grows ∙ ap (λ o. option_or o (find (λ p. p.task == t) (posted_by (take i past) (get_or past i d).kind))) is
    ∙ sym (find-append (λ p. p.task == t) (posts (take i past)) (posted_by (take i past) (get_or past i d).kind)))

-- and the moment
moment_more : (past : List Entry) (i : ℕ) (d : Entry) (old new : ℕ) → i < length past → old ≡ now_of (take i past)
    → new ≡ now_after old (get_or past i d).kind → new ≡ now_of (take (i + 1) past)
moment_more past i d old new below is goes = rw (take_more past i d below)
    (goes ∙ ap (λ m. now_after m (get_or past i d).kind) is ∙ sym (now_of_push (take i past) (get_or past i d)))

pub loop-entry-init : goal.loop-entry-init
unfolding posts fold_past now_of
loop-entry-init c = record { post_is = refl; moment_is = refl; place_is = refl }

pub loop-entry-preserved : goal.loop-entry-preserved
loop-entry-preserved c =
    let i = c.loop-entry.entry-index in
    let past = c.args.past.now in
    let now = c.loop-entry.invariant in
    let here : c.loop-entry.place ≡ length (take i past) = now.place_is ∙ sym (length-take-le i past (omega (arith, c.loop-entry-test.true))) in
    record {
      post_is = post_more past i c.args.task _ _ _ c.loop-entry-test.true now.post_is (c.post_after-post.ensures (take i past) here now.moment_is);
      moment_is = moment_more past i _ _ _ c.loop-entry-test.true now.moment_is c.moment_after-moment.ensures;
      place_is = omega (arith, now.place_is);
    }

pub returns : goal.returns
returns c = c.loop-entry.invariant.post_is
    ∙ ap (λ l. post_of l c.args.task) (take_all c.loop-entry.entry-index c.args.past.now (omega (arith, c.loop-entry-test.false)))
