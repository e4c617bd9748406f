use Rattle.hist_model.proofs.Laws.Own.{holding_own, running_own}
use Rattle.env_explain.proofs.explain.choice.Goals as goal

pub next_of_worker-cause-requires-clause-worker : goal.next_of_worker-cause-requires-clause-worker
next_of_worker-cause-requires-clause-worker c = rw c.into_parts-env.ensures.env (record {
  worker = c.requires.worker;
  known = c.requires.known;
  free = rw (running_own c.args.replay.history c.args.entry.now.seat, holding_own c.args.replay.history c.args.entry.now.seat) c.requires.free;
})
