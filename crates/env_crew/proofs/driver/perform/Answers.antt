use Rattle.hist_model.proofs.Laws.Progress.Actions.{same_policy_now}
use Rattle.std.proofs.Common.{◌∙◌, ◌∷◌, ◌++◌, [], refl, ap, append_assoc}
use Rattle.list_laws.proofs.Values.{eqb-same}
use Rattle.task_base.specs.declared.entry.Entry.{Entry}
use Rattle.task_base.specs.declared.entry.Kind.TheVariants as kinds
use Rattle.task_base.specs.declared.script.Action.TheVariants as actions
use Rattle.env_crew.specs.Desk.{mine}
use Rattle.env_crew.proofs.Done.{done_by, done_by_call}
use Rattle.env_crew.proofs.Holds.{later_entered, later_trans, mine_entered}
use Rattle.env_crew.proofs.Moves.{at_more, wanted_at, wanted_first, wants_fence, wants_main, wants_post, wants_rank, wants_reprio, wants_vote}
use Rattle.env_crew.proofs.driver.perform.Goals as goal

-- A post.

pub post-requires : goal.post-requires
post-requires g c ok =
    let a = c.in-Post in
    wanted_first (g.D.Desk.desk c.args.desk.now) c.args.action (actions.Post a.task a.runner a.delay) (kinds.Post a.task a.runner a.delay ok)
    c.requires.driver a.is c.requires.at refl (wants_post (mine (g.D.Desk.desk c.args.desk.now)) a.task a.runner a.delay ok)

pub returns-in-Post-clause-done : goal.returns-in-Post-clause-done
returns-in-Post-clause-done g c =
    let a = c.in-Post in
    let made = c.post.ensures in
    rw a.is (done_by_call (actions.Post a.task a.runner a.delay) _ made.holds made.answered.enters (λ now. refl, λ now. refl, refl) refl c.requires.rests)

-- A post to a main queue.

pub main_post-requires : goal.main_post-requires
main_post-requires g c ok =
    let a = c.in-Main in
    wanted_first (g.D.Desk.desk c.args.desk.now) c.args.action (actions.Main a.task a.queue a.delay) (kinds.Main a.task a.queue a.delay ok)
    c.requires.driver a.is c.requires.at refl (wants_main (mine (g.D.Desk.desk c.args.desk.now)) a.task a.queue a.delay ok)

pub returns-in-Main-clause-done : goal.returns-in-Main-clause-done
returns-in-Main-clause-done g c =
    let a = c.in-Main in
    let made = c.main_post.ensures in
    rw a.is (done_by_call (actions.Main a.task a.queue a.delay) _ made.holds made.answered.enters (λ now. refl, λ now. refl, refl) refl c.requires.rests)

-- Another policy.

pub policy-requires : goal.policy-requires
policy-requires g c =
    let a = c.in-Policy in
    wanted_first (g.D.Desk.desk c.args.desk.now) c.args.action (actions.Policy a.policy) (kinds.Policy a.policy) c.requires.driver a.is c.requires.at refl
    (same_policy_now a.policy)

pub returns-in-Policy-clause-done : goal.returns-in-Policy-clause-done
returns-in-Policy-clause-done g c =
    let a = c.in-Policy in
    let made = c.policy.ensures in
    rw a.is (done_by_call (actions.Policy a.policy) _ made.holds made.answered (λ now. refl, λ now. refl, refl) refl c.requires.rests)

-- Another priority.

pub reprio-requires : goal.reprio-requires
reprio-requires g c =
    let a = c.in-Reprio in
    wanted_first (g.D.Desk.desk c.args.desk.now) c.args.action (actions.Reprio a.runner a.priority) (kinds.Reprio a.runner a.priority)
    c.requires.driver a.is c.requires.at refl (wants_reprio (mine (g.D.Desk.desk c.args.desk.now)) a.runner a.priority)

pub returns-in-Reprio-clause-done : goal.returns-in-Reprio-clause-done
returns-in-Reprio-clause-done g c =
    let a = c.in-Reprio in
    let made = c.reprio.ensures in
    rw a.is (done_by_call (actions.Reprio a.runner a.priority) _ made.holds made.answered (λ now. refl, λ now. refl, refl) refl c.requires.rests)

-- A fence.

pub fence-requires : goal.fence-requires
fence-requires g c =
    let a = c.in-Fence in
    wanted_first (g.D.Desk.desk c.args.desk.now) c.args.action (actions.Fence a.queue a.at) (kinds.Fence a.queue a.at) c.requires.driver a.is c.requires.at refl
    (wants_fence (mine (g.D.Desk.desk c.args.desk.now)) a.queue a.at)

pub returns-in-Fence-clause-done : goal.returns-in-Fence-clause-done
returns-in-Fence-clause-done g c =
    let a = c.in-Fence in
    let made = c.fence.ensures in
    rw a.is (done_by_call (actions.Fence a.queue a.at) _ made.holds made.answered (λ now. refl, λ now. refl, refl) refl c.requires.rests)

-- No fence.

pub unfence-requires : goal.unfence-requires
unfence-requires g c =
    let a = c.in-Unfence in
    wanted_first (g.D.Desk.desk c.args.desk.now) c.args.action (actions.Unfence a.queue) (kinds.Unfence a.queue) c.requires.driver a.is c.requires.at refl
    (eqb-same a.queue)

pub returns-in-Unfence-clause-done : goal.returns-in-Unfence-clause-done
returns-in-Unfence-clause-done g c =
    let a = c.in-Unfence in
    let made = c.unfence.ensures in
    rw a.is (done_by_call (actions.Unfence a.queue) _ made.holds made.answered (λ now. refl, λ now. refl, refl) refl c.requires.rests)

-- A vote.

pub vote-requires : goal.vote-requires
vote-requires g c =
    let a = c.in-Vote in
    wanted_first (g.D.Desk.desk c.args.desk.now) c.args.action (actions.Vote a.queue a.voter a.on) (kinds.Vote a.queue a.voter a.on)
    c.requires.driver a.is c.requires.at refl (wants_vote (mine (g.D.Desk.desk c.args.desk.now)) a.queue a.voter a.on)

pub returns-in-Vote-clause-done : goal.returns-in-Vote-clause-done
returns-in-Vote-clause-done g c =
    let a = c.in-Vote in
    let made = c.vote.ensures in
    rw a.is (done_by_call (actions.Vote a.queue a.voter a.on) _ made.holds made.answered (λ now. refl, λ now. refl, refl) refl c.requires.rests)

-- Another class.

pub rank-requires : goal.rank-requires
rank-requires g c =
    let a = c.in-Rank in
    wanted_first (g.D.Desk.desk c.args.desk.now) c.args.action (actions.Rank a.queue a.class) (kinds.Rank a.queue a.class)
    c.requires.driver a.is c.requires.at refl (wants_rank (mine (g.D.Desk.desk c.args.desk.now)) a.queue a.class)

pub returns-in-Rank-clause-done : goal.returns-in-Rank-clause-done
returns-in-Rank-clause-done g c =
    let a = c.in-Rank in
    let made = c.rank.ensures in
    rw a.is (done_by_call (actions.Rank a.queue a.class) _ made.holds made.answered (λ now. refl, λ now. refl, refl) refl c.requires.rests)

-- A queue is closed.

pub close_queue-requires : goal.close_queue-requires
close_queue-requires g c =
    let a = c.in-Close in
    wanted_first (g.D.Desk.desk c.args.desk.now) c.args.action (actions.Close a.queue) (kinds.Close a.queue) c.requires.driver a.is c.requires.at refl
    (eqb-same a.queue)

pub returns-in-Close-clause-done : goal.returns-in-Close-clause-done
returns-in-Close-clause-done g c =
    let a = c.in-Close in
    let made = c.close_queue.ensures in
    rw a.is (done_by_call (actions.Close a.queue) _ made.holds made.answered (λ now. refl, λ now. refl, refl) refl c.requires.rests)

-- Ticks.

pub tick-requires : goal.tick-requires
tick-requires g c = record {
  driver = c.requires.driver;
  at = rw c.in-Tick.is at c.requires.at;
  rests = c.requires.rests;
}

pub returns-in-Tick-clause-done : goal.returns-in-Tick-clause-done
returns-in-Tick-clause-done g c = rw c.in-Tick.is c.tick.ensures

-- A pump.

pub pump-requires : goal.pump-requires
pump-requires g c =
    let sound = rw c.in-Pump.is at c.requires.sound in
    record {
      driver = c.requires.driver;
      some = sound.0;
      at = rw c.in-Pump.is at c.requires.at;
      rests = c.requires.rests;
    }

pub returns-in-Pump-clause-done : goal.returns-in-Pump-clause-done
returns-in-Pump-clause-done g c = rw c.in-Pump.is (c.pump.ensures (g.C.Clock.readings c.args.clock.now))

-- A wait for the pool.

pub flush-requires-clause-wanted : goal.flush-requires-clause-wanted
flush-requires-clause-wanted g c κs within =
    wanted_first (g.D.Desk.desk c.args.desk.now) c.args.action actions.Flush kinds.Idle c.requires.driver c.in-Flush.is c.requires.at refl refl

pub returns-in-Flush-clause-done : goal.returns-in-Flush-clause-done
returns-in-Flush-clause-done g c =
    rw c.in-Flush.is (done_by actions.Flush _ _ c.flush.ensures.later c.flush.ensures.entered ((λ now. refl, λ now. refl, refl), tt) refl c.requires.rests)

-- A shutdown.

pub start_shutdown-requires : goal.start_shutdown-requires
start_shutdown-requires g c =
    wanted_first (g.D.Desk.desk c.args.desk.now) c.args.action actions.Shutdown kinds.Shutdown c.requires.driver c.in-Shutdown.is c.requires.at refl refl

pub finish_shutdown-requires-clause-wanted : goal.finish_shutdown-requires-clause-wanted
finish_shutdown-requires-clause-wanted g c κs within =
    let f = g.D.Desk.desk c.args.desk.now in
    let h = g.D.Desk.desk c.start_shutdown.new.self in
    let hold = c.start_shutdown.ensures.answer.holds in
    let e : Entry = record { seat = f.seat; kind = kinds.Shutdown } in
    wanted_at h actions.Shutdown c.requires.at.0 (e ∷ []) kinds.Done (hold.seat_is ∙ c.requires.driver)
    (at_more f h (actions.Shutdown ∷ c.requires.at.0) [] (e ∷ []) hold.script_is (mine_entered hold kinds.Shutdown c.start_shutdown.ensures.answer.answered)
    (rw c.in-Shutdown.is at c.requires.at.1)) refl refl

pub returns-in-Shutdown-clause-done : goal.returns-in-Shutdown-clause-done
returns-in-Shutdown-clause-done g c =
    let f = g.D.Desk.desk c.args.desk.now in
    let h = g.D.Desk.desk c.start_shutdown.new.self in
    let k = g.D.Desk.desk c.finish_shutdown.new.desk in
    let start = c.start_shutdown.ensures.answer in
    let e : Entry = record { seat = f.seat; kind = kinds.Shutdown } in
    let d : Entry = record { seat = h.seat; kind = kinds.Done } in
    rw c.in-Shutdown.is (done_by actions.Shutdown _ (e ∷ d ∷ [])
    (later_trans f h k (later_entered start.holds kinds.Shutdown start.answered) c.finish_shutdown.ensures.later)
    (c.finish_shutdown.ensures.entered ∙ ap (λ own. own ++ d ∷ []) (mine_entered start.holds kinds.Shutdown start.answered)
    ∙ append_assoc (mine f) (e ∷ []) (d ∷ [])) ((λ now. refl, λ now. refl, refl), ((λ now. refl, λ now. refl, refl), tt)) refl c.requires.rests)

-- A job is posted.

pub job_post-requires : goal.job_post-requires
job_post-requires g c ok =
    let a = c.in-StartJob in
    wanted_first (g.D.Desk.desk c.args.desk.now) c.args.action (actions.StartJob a.job) (kinds.JobPost a.job ok) c.requires.driver a.is c.requires.at refl
    (eqb-same a.job)

pub returns-in-StartJob-clause-done : goal.returns-in-StartJob-clause-done
returns-in-StartJob-clause-done g c =
    let a = c.in-StartJob in
    let made = c.job_post.ensures in
    rw a.is (done_by_call (actions.StartJob a.job) _ made.holds made.answered.enters (λ now. refl, λ now. refl, refl) refl c.requires.rests)

-- A join.

pub join-requires-clause-at : goal.join-requires-clause-at
join-requires-clause-at g c κs within = rw c.in-Join.is at c.requires.at

pub join-requires-clause-sound : goal.join-requires-clause-sound
join-requires-clause-sound g c κs within = rw c.in-Join.is at c.requires.sound

pub returns-in-Join-clause-done : goal.returns-in-Join-clause-done
returns-in-Join-clause-done g c = rw c.in-Join.is (c.join.ensures.done (g.C.Clock.readings c.args.clock.now))

-- A job is cancelled.

pub job_cancel-requires : goal.job_cancel-requires
job_cancel-requires g c =
    let a = c.in-Cancel in
    wanted_first (g.D.Desk.desk c.args.desk.now) c.args.action (actions.Cancel a.job) (kinds.JobCancel a.job) c.requires.driver a.is c.requires.at refl
    (rw (eqb-same a.job) refl)

pub finish_cancel-requires-clause-wanted : goal.finish_cancel-requires-clause-wanted
finish_cancel-requires-clause-wanted g c κs within =
    let f = g.D.Desk.desk c.args.desk.now in
    let h = g.D.Desk.desk c.job_cancel.new.self in
    let hold = c.job_cancel.ensures.holds in
    let job = c.in-Cancel.job in
    let e : Entry = record { seat = f.seat; kind = kinds.JobCancel job } in
    wanted_at h (actions.Cancel job) c.requires.at.0 (e ∷ []) (kinds.Cancelled job) (hold.seat_is ∙ c.requires.driver)
    (at_more f h (actions.Cancel job ∷ c.requires.at.0) [] (e ∷ []) hold.script_is
    (mine_entered hold (kinds.JobCancel job) c.job_cancel.ensures.answered) (rw c.in-Cancel.is at c.requires.at.1)) refl (rw (eqb-same job) refl)

pub returns-in-Cancel-clause-done : goal.returns-in-Cancel-clause-done
returns-in-Cancel-clause-done g c =
    let f = g.D.Desk.desk c.args.desk.now in
    let h = g.D.Desk.desk c.job_cancel.new.self in
    let k = g.D.Desk.desk c.finish_cancel.new.desk in
    let start = c.job_cancel.ensures in
    let job = c.in-Cancel.job in
    let e : Entry = record { seat = f.seat; kind = kinds.JobCancel job } in
    let d : Entry = record { seat = h.seat; kind = kinds.Cancelled job } in
    rw c.in-Cancel.is (done_by (actions.Cancel job) _ (e ∷ d ∷ [])
    (later_trans f h k (later_entered start.holds (kinds.JobCancel job) start.answered) c.finish_cancel.ensures.later)
    (c.finish_cancel.ensures.entered ∙ ap (λ own. own ++ d ∷ []) (mine_entered start.holds (kinds.JobCancel job) start.answered)
    ∙ append_assoc (mine f) (e ∷ []) (d ∷ [])) ((λ now. refl, λ now. refl, refl), ((λ now. refl, λ now. refl, refl), tt)) refl c.requires.rests)
