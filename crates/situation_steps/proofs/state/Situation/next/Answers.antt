use Rattle.std.proofs.Common.{arith}
use Rattle.situation_steps.proofs.state.Situation.next.Goals as goal

pub due_way-requires : goal.due_way-requires
due_way-requires c = record {
  sequences = omega (arith, c.requires.sound.limits.few_runners, c.requires.sound.limits.few_tasks);
  jobs = omega (arith, c.requires.sound.limits.few_jobs);
}
