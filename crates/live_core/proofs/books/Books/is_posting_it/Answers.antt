use Rattle.std.proofs.Common.{◌≡◌, arith, false, sym, true, ◌∙◌}
use Rattle.std.proofs.Math.Bool.{and-false}
use Rattle.hist_model.specs.Open.{is_kept, was_posted}
use Rattle.live_core.proofs.Entered.{table_get}
use Rattle.live_core.proofs.Posting.{post_declared}
use Rattle.live_core.proofs.books.Books.is_posting_it.Goals as goal
use Rattle.live_core.proofs.books.Books.is_posting_it.Goals.{then-not-is_within-via-then-not-is_within, then-not-is_within-via-else-not-is_within+then-index}

pub index-requires : goal.index-requires
index-requires c =
    let stand = c.requires.stands.2 in
    let within = sym (c.is_within.ensures c.requires.stands.0 c.requires.stands.1 stand) ∙ c.if-not-is_within.false in
    omega (arith, stand.posted.all, post_declared c.requires.stands.0 c.args.task c.args.kind c.requires.posts within)

pub returns-then-not-is_within : goal.returns-then-not-is_within
returns-then-not-is_within c = λ plan past stand. elim c.then-not-is_within.branch [
  | then-not-is_within-via-then-not-is_within w ↦
      rw (sym (c.is_within.ensures plan past stand) ∙ w.if-not-is_within.true) (sym (and-false _))
  | then-not-is_within-via-else-not-is_within+then-index w ↦
      let within = sym (c.is_within.ensures plan past stand) ∙ w.if-not-is_within.false in
      let there = post_declared plan c.args.task c.args.kind c.requires.posts within in
      let posted : was_posted past c.args.task ≡ true =
      sym (table_get (was_posted past) _ c.args.self.now.posted.items c.args.task _ stand.posted there) ∙ sym w.index.ensures ∙ w.if-index.true in
      rw (within, posted) (sym (and-false _))
]

pub index-requires-2 : goal.index-requires-2
index-requires-2 c =
    let stand = c.requires.stands.2 in
    let within = sym (c.is_within.ensures c.requires.stands.0 c.requires.stands.1 stand) ∙ c.if-not-is_within.false in
    omega (arith, stand.kept.all, post_declared c.requires.stands.0 c.args.task c.args.kind c.requires.posts within)

pub returns-then-index-2 : goal.returns-then-index-2
returns-then-index-2 c = λ plan past stand.
    let within = sym (c.is_within.ensures plan past stand) ∙ c.if-not-is_within.false in
    let there = post_declared plan c.args.task c.args.kind c.requires.posts within in
    let posted : was_posted past c.args.task ≡ false =
    sym (table_get (was_posted past) _ c.args.self.now.posted.items c.args.task _ stand.posted there) ∙ sym c.index.ensures ∙ c.if-index.false in
    let kept : is_kept plan c.args.task ≡ true =
    sym (table_get (is_kept plan) _ c.args.self.now.kept.items c.args.task _ stand.kept there) ∙ sym c.index-2.ensures ∙ c.if-index-2.true in
    rw (within, posted, kept) (c.has_own_step.ensures plan past stand)

pub returns-else-index-2 : goal.returns-else-index-2
returns-else-index-2 c = λ plan past stand.
    let within = sym (c.is_within.ensures plan past stand) ∙ c.if-not-is_within.false in
    let there = post_declared plan c.args.task c.args.kind c.requires.posts within in
    let posted : was_posted past c.args.task ≡ false =
    sym (table_get (was_posted past) _ c.args.self.now.posted.items c.args.task _ stand.posted there) ∙ sym c.index.ensures ∙ c.if-index.false in
    let kept : is_kept plan c.args.task ≡ false =
    sym (table_get (is_kept plan) _ c.args.self.now.kept.items c.args.task _ stand.kept there) ∙ sym c.index-2.ensures ∙ c.if-index-2.false in
    rw (within, posted, kept) (c.is_posting.ensures plan past stand)
