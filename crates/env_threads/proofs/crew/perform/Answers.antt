use Rattle.std.proofs.Common.{◌≡◌, ◌∙◌, ap}
use Rattle.env_threads.proofs.Seats.{driver_finished, driver_free, spare_later}
use Rattle.env_shared.proofs.Sits.{same_environment}
use Rattle.env_threads.proofs.crew.perform.Goals as goal

pub drive-requires-clause-free : goal.drive-requires-clause-free
drive-requires-clause-free g c κs within i d d_is = (c.requires.spare.each i d d_is).free

pub join_all-requires-clause-promised : goal.join_all-requires-clause-promised
join_all-requires-clause-promised g c = rw c.requires.all c.requires.promised

pub join_all-requires-clause-spare : goal.join_all-requires-clause-spare
join_all-requires-clause-spare g c =
    rw c.requires.all (spare_later c.args.shared.now _ c.args.spare.items c.drive.new.spare.items c.requires.spare c.drive.ensures.free c.drive.ensures.same)

pub returns-clause-back : goal.returns-clause-back
returns-clause-back g c =
    let key = c.args.shared.now in let first = c.into_seat-first.result in let seated = c.into_seat-first.ensures.seated in
    let split = c.requires.first in let later = c.drive.ensures.later in
    let out = c.into_seat-first.ensures.seat ∙ ap (λ d. d.seat) c.into_inner.ensures in
    let in_ = ap (λ d. d.seat) c.new-desk.ensures ∙ c.desk.ensures.seat in
    let number : first.number ≡ 0 = ap (λ s. s.number) out ∙ later.seat_is ∙ ap (λ s. s.number) in_ ∙ split.number_is in
    let script : first.of.basis ≡ key.basis = ap (λ s. s.of.basis) out ∙ later.script_is ∙ ap (λ s. s.of.basis) in_ ∙ ap (λ k. k.basis) split.of_is in
    record {
      of_is = same_environment key first (ap (λ s. s.of.table) out ∙ ap (λ o. o.table) later.origin_is ∙ ap (λ s. s.of.table) in_
          ∙ ap (λ k. k.table) split.of_is) script
          c.requires.stands seated;
      number_is = number;
      made_is = ap (λ s. s.made) out ∙ ap (λ o. o.made) later.origin_is ∙ ap (λ s. s.made) in_ ∙ split.made_is;
      finished = driver_finished key c.drive.new.desk first (ap (λ p. p.is_open) c.requires.script ∙ c.requires.plan.closed)
          out script number seated c.drive.ensures.finished;
      free = driver_free c.drive.new.desk first out seated c.drive.ensures.rests;
      all = c.join_all.ensures.all ∙ c.requires.all;
      rising = c.join_all.ensures.workers;
    }
