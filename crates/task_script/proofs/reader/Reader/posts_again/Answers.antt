use Rattle.std.proofs.Common.{◌≡◌, flat_map, ◌∙◌, arith}
use Rattle.std.proofs.lemmas.Grind.{common_steps}
use Rattle.std.proofs.lemmas.List.{with_items_is}
use Rattle.std.specs.Vec.{with_items}
use Rattle.script_model.specs.Laws.Postings.{posts_of_step}
use Rattle.task_script.specs.Marks.{marked}
use Rattle.task_script.specs.Reader.{draft}
use Rattle.task_script.proofs.Flags.{flags-found, flags-marked}
use Rattle.task_script.proofs.reader.Reader.posts_again.Goals as goal

pub returns-clause-found : goal.returns-clause-found
returns-clause-found c =
    let found = flags-found c.args.self.now.marks (draft c.args.self.now) c.args.steps.now c.requires.tables.flags c.requires.declared in cc

pub returns-clause-marks : goal.returns-clause-marks
returns-clause-marks c = λ none.
    let now : c.is_any_posted.new.marks ≡ marked c.args.self.now.marks.posted.items (flat_map posts_of_step c.args.steps.now) =
    let e = c.is_any_posted.ensures.marked none in cc in
    flags-marked c.args.self.now.marks (draft c.args.self.now) c.args.steps.now (with_items c.args.self.now.marks.posted c.is_any_posted.new.marks)
    c.requires.tables.flags c.requires.declared
    (with_items_is c.args.self.now.marks.posted c.is_any_posted.new.marks (grind (arith, common_steps)) ∙ now)
