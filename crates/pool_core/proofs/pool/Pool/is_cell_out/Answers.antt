use Rattle.pool_core.proofs.Lines.{sequence_there}
use Rattle.std.proofs.Common.{◌≡◌, ℕ, Bool, true, false, cond, not, refl, arith, Some, None}
use Rattle.std.specs.Prelude.{is_some}
use Rattle.task_base.specs.Runners.{sequence_of}
use Rattle.pool_core.proofs.pool.Pool.is_cell_out.Goals as goal

-- a cell that is out is not at home
out : (b : Bool) (value : ℕ) → not (is_some (cond b None (Some value))) ≡ b
out true value = refl
out false value = refl

pub seq_of-requires-clause-declared : goal.seq_of-requires-clause-declared
seq_of-requires-clause-declared c = let known = c.requires.2.runner_known in rw known.stands.runners known.declared

pub seq_of-requires-clause-fits : goal.seq_of-requires-clause-fits
seq_of-requires-clause-fits c =
    let stands = c.requires.2.runner_known.stands in
    rw stands.runners (omega (arith, stands.script_fits.runners_fit, stands.script_fits.tasks_fit, c.requires.2.task_declared))

pub is_home-requires : goal.is_home-requires
is_home-requires c =
    let known = c.requires.2.runner_known in
    rw (c.seq_of.ensures, known.stands.runners, known.stands.lines.all)
    (sequence_there c.requires.0 c.args.runner c.args.task known.declared c.requires.2.task_declared)

pub returns : goal.returns
returns c script past knows =
    let known = knows.runner_known in
    let there = sequence_there script c.args.runner c.args.task known.declared knows.task_declared in
    rw (c.is_home.ensures, c.seq_of.ensures, known.stands.runners, known.stands.lines.cells (sequence_of script c.args.runner c.args.task) there) (out _ _)
