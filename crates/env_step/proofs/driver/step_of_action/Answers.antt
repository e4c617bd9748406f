use Rattle.std.proofs.Common.{refl, subst}
use Rattle.env_step.specs.Steps.{IsAtAction}
use Rattle.env_step.proofs.Wants.{wants_close, wants_fence, wants_job_post, wants_main, wants_policy, wants_post}
use Rattle.env_step.proofs.Wants.{wants_rank, wants_reprio, wants_tick, wants_unfence, wants_vote}
use Rattle.env_step.proofs.Behind.{takes_nothing}
use Rattle.env_step.proofs.driver.step_of_action.Goals as goal

pub post-ok-requires : goal.post-ok-requires
post-ok-requires c ok = wants_post c.in-Post.task c.in-Post.runner c.in-Post.delay ok
    (subst (IsAtAction c.args.env.now.script c.args.env.now.history 0) c.in-Post.is c.requires.at)

pub main_post-ok-requires : goal.main_post-ok-requires
main_post-ok-requires c ok = wants_main c.in-Main.task c.in-Main.queue c.in-Main.delay ok
    (subst (IsAtAction c.args.env.now.script c.args.env.now.history 0) c.in-Main.is c.requires.at)

pub tick-now-requires : goal.tick-now-requires
tick-now-requires c now = wants_tick _ now (subst (IsAtAction c.args.env.now.script c.args.env.now.history 0) c.in-Tick.is c.requires.at)

pub policy-requires : goal.policy-requires
policy-requires c = wants_policy c.in-Policy.policy (subst (IsAtAction c.args.env.now.script c.args.env.now.history 0) c.in-Policy.is c.requires.at)

pub reprio-requires : goal.reprio-requires
reprio-requires c = wants_reprio c.in-Reprio.runner c.in-Reprio.priority
    (subst (IsAtAction c.args.env.now.script c.args.env.now.history 0) c.in-Reprio.is c.requires.at)

pub fence-requires : goal.fence-requires
fence-requires c = wants_fence c.in-Fence.queue c.in-Fence.at
    (subst (IsAtAction c.args.env.now.script c.args.env.now.history 0) c.in-Fence.is c.requires.at)

pub unfence-requires : goal.unfence-requires
unfence-requires c = wants_unfence c.in-Unfence.queue (subst (IsAtAction c.args.env.now.script c.args.env.now.history 0) c.in-Unfence.is c.requires.at)

pub vote-requires : goal.vote-requires
vote-requires c = wants_vote c.in-Vote.queue c.in-Vote.voter c.in-Vote.on
    (subst (IsAtAction c.args.env.now.script c.args.env.now.history 0) c.in-Vote.is c.requires.at)

pub rank-requires : goal.rank-requires
rank-requires c = wants_rank c.in-Rank.queue c.in-Rank.class (subst (IsAtAction c.args.env.now.script c.args.env.now.history 0) c.in-Rank.is c.requires.at)

pub close_queue-requires : goal.close_queue-requires
close_queue-requires c = wants_close c.in-Close.queue (subst (IsAtAction c.args.env.now.script c.args.env.now.history 0) c.in-Close.is c.requires.at)

pub job_post-ok-requires : goal.job_post-ok-requires
job_post-ok-requires c ok = wants_job_post c.in-StartJob.job ok
    (subst (IsAtAction c.args.env.now.script c.args.env.now.history 0) c.in-StartJob.is c.requires.at)

pub returns-in-Post : goal.returns-in-Post
returns-in-Post c = takes_nothing c.args.reading c.requires.at.free (λ now. refl) (λ now. refl) tt c.post-ok.ensures.enters

pub returns-in-Main : goal.returns-in-Main
returns-in-Main c = takes_nothing c.args.reading c.requires.at.free (λ now. refl) (λ now. refl) tt c.main_post-ok.ensures.enters

pub returns-in-Tick : goal.returns-in-Tick
returns-in-Tick c = takes_nothing c.args.reading c.requires.at.free (λ now. refl) (λ now. refl) c.tick-now.ensures.moment c.tick-now.ensures.enters

pub returns-in-Policy : goal.returns-in-Policy
returns-in-Policy c = takes_nothing c.args.reading c.requires.at.free (λ now. refl) (λ now. refl) tt c.policy.ensures

pub returns-in-Reprio : goal.returns-in-Reprio
returns-in-Reprio c = takes_nothing c.args.reading c.requires.at.free (λ now. refl) (λ now. refl) tt c.reprio.ensures

pub returns-in-Fence : goal.returns-in-Fence
returns-in-Fence c = takes_nothing c.args.reading c.requires.at.free (λ now. refl) (λ now. refl) tt c.fence.ensures

pub returns-in-Unfence : goal.returns-in-Unfence
returns-in-Unfence c = takes_nothing c.args.reading c.requires.at.free (λ now. refl) (λ now. refl) tt c.unfence.ensures

pub returns-in-Vote : goal.returns-in-Vote
returns-in-Vote c = takes_nothing c.args.reading c.requires.at.free (λ now. refl) (λ now. refl) tt c.vote.ensures

pub returns-in-Rank : goal.returns-in-Rank
returns-in-Rank c = takes_nothing c.args.reading c.requires.at.free (λ now. refl) (λ now. refl) tt c.rank.ensures

pub returns-in-Close : goal.returns-in-Close
returns-in-Close c = takes_nothing c.args.reading c.requires.at.free (λ now. refl) (λ now. refl) tt c.close_queue.ensures

pub returns-in-StartJob : goal.returns-in-StartJob
returns-in-StartJob c = takes_nothing c.args.reading c.requires.at.free (λ now. refl) (λ now. refl) tt c.job_post-ok.ensures.enters

pub flush-requires : goal.flush-requires
flush-requires c = subst (IsAtAction c.args.env.now.script c.args.env.now.history 0) c.in-Flush.is c.requires.at

pub join-requires : goal.join-requires
join-requires c = subst (IsAtAction c.args.env.now.script c.args.env.now.history 0) c.in-Join.is c.requires.at

pub cancel-requires : goal.cancel-requires
cancel-requires c = record {
  at = subst (IsAtAction c.args.env.now.script c.args.env.now.history 0) c.in-Cancel.is c.requires.at;
  counts = c.requires.counts;
}

pub shutdown-requires : goal.shutdown-requires
shutdown-requires c = record {
  at = subst (IsAtAction c.args.env.now.script c.args.env.now.history 0) c.in-Shutdown.is c.requires.at;
  counts = c.requires.counts;
}

pub pump-requires : goal.pump-requires
pump-requires c = (_, subst (IsAtAction c.args.env.now.script c.args.env.now.history 0) c.in-Pump.is c.requires.at)

pub returns-in-Pump : goal.returns-in-Pump
returns-in-Pump c = c.pump.ensures c.args.reading

pub returns-in-Flush : goal.returns-in-Flush
returns-in-Flush c = c.flush.ensures c.args.reading

pub returns-in-Join : goal.returns-in-Join
returns-in-Join c = c.join.ensures c.args.reading

pub returns-in-Cancel : goal.returns-in-Cancel
returns-in-Cancel c = c.cancel.ensures c.args.reading

pub returns-in-Shutdown : goal.returns-in-Shutdown
returns-in-Shutdown c = c.shutdown.ensures c.args.reading
