use Rattle.std.proofs.Common.{◌≡◌, ◌∙◌, List, Some, ap, refl, sym}
use Rattle.std.specs.Option.{option_map}
use Rattle.task_base.specs.Plan.{Plan}
use Rattle.task_base.specs.declared.entry.Entry.{Entry}
use Rattle.task_base.specs.declared.entry.Kind.{Kind}
use Rattle.task_base.specs.declared.entry.Kind.TheVariants as kinds
use Rattle.next_entry.specs.Ranks.{edge_of}
use Rattle.next_entry.specs.declared.cause.Edge.{Edge}
use Rattle.next_entry.proofs.Bars.{barred}
use Rattle.next_entry.proofs.next.next_of_worker.Goals as goal

-- what was found of the script and the log holds of what they are
edge_told : (s script : Plan) (p past : List Entry) (next kind : Kind) (edge : Edge) → s ≡ script → p ≡ past → edge ≡ edge_of s p next kind
    → option_map (edge_of script past next) (Some kind) ≡ Some edge
edge_told s script p past next kind edge script_is past_is is = ap (λ (x : Edge). Some x)
    (sym (is ∙ ap (λ (x : Plan). edge_of x p next kind) script_is ∙ ap (λ (l : List Entry). edge_of script l next kind) past_is))

pub take-requires : goal.take-requires
take-requires c = c.requires.worker

pub returns-in-Over : goal.returns-in-Over
returns-in-Over c = (c.requires.free, c.in-Over.ensures.finished)

pub returns-in-Nothing : goal.returns-in-Nothing
returns-in-Nothing c = (
  ((c.requires.worker.worker, c.requires.free), c.in-Nothing.ensures.unfinished, c.in-Nothing.ensures.none),
  barred c.args.env.now.script c.args.env.now.history c.requires.plan c.requires.hands.legal c.args.entry.now.seat c.in-Nothing.ensures.none
      c.args.entry.now.kind c.bar_of.result (rw (c.requires.script, c.requires.past) at c.bar_of.ensures),
)

pub returns-in-Item : goal.returns-in-Item
returns-in-Item c = (
  (c.requires.worker.worker, c.requires.free),
  refl,
  rw (c.job.ensures, c.id.ensures, c.item.ensures) c.in-Item.ensures.goes_in.enters.allowed,
  edge_told c.args.script.now c.args.env.now.script c.args.past.now c.args.env.now.history (kinds.JobTake c.job.result c.id.result c.item.result)
      c.args.entry.now.kind c.edge_in_hand.result c.requires.script c.requires.past c.edge_in_hand.ensures,
)

pub returns-in-Task : goal.returns-in-Task
returns-in-Task c = (
  (c.requires.worker.worker, c.requires.free),
  refl,
  rw (c.task.ensures, c.home.ensures, c.found.ensures) c.in-Task.ensures.enters.allowed,
  edge_told c.args.script.now c.args.env.now.script c.args.past.now c.args.env.now.history (kinds.Take c.task.result c.home.result c.found.result)
      c.args.entry.now.kind c.edge_in_hand-in-Task.result c.requires.script c.requires.past c.edge_in_hand-in-Task.ensures,
)
