use Rattle.std.proofs.Common.{◌≡◌, ◌+◌, ◌-◌, ◌∙◌, ◌∷◌, [], length, ap, arith, length-append, Some, None}
use Rattle.env_shared.specs.Splits.{IsWorker}
use Rattle.env_threads.proofs.Seats.{its_own, last_left, promised_some, promised_none, refused_some, refused_none, sits_spare, spare_push}
use Rattle.env_threads.proofs.workers.start_all.Goals as goal

pub start-requires-clause-worker : goal.start-requires-clause-worker
start-requires-clause-worker g c κs within =
    let was = c.loop-seat.invariant in
    its_own _ _ _ (last_left _ _ _ _ c.in-Some.seat c.loop-seat.starts.items c.in-Some.ensures.items was.left was.all).1

pub start-requires-clause-number : goal.start-requires-clause-number
start-requires-clause-number g c κs within =
    let was = c.loop-seat.invariant in
    let last = last_left _ _ _ _ c.in-Some.seat c.loop-seat.starts.items c.in-Some.ensures.items was.left was.all in
    omega (arith, last.1.number_is, last.2, was.all)

pub start-requires-clause-known : goal.start-requires-clause-known
start-requires-clause-known g c κs within =
    let was = c.loop-seat.invariant in
    let last = last_left _ _ _ _ c.in-Some.seat c.loop-seat.starts.items c.in-Some.ensures.items was.left was.all in
    omega (arith, last.1.number_is, last.2, was.all, c.requires.known)

pub desk-requires-clause-known : goal.desk-requires-clause-known
desk-requires-clause-known g c =
    let was = c.loop-seat.invariant in
    let last = last_left _ _ _ _ c.in-Some.seat c.loop-seat.starts.items c.in-Some.ensures.items was.left was.all in
    omega (arith, c.in-Err.ensures.refused.number_is, last.1.number_is, last.2, was.all, c.requires.known)

pub loop-seat-preserved-in-Ok : goal.loop-seat-preserved-in-Ok
loop-seat-preserved-in-Ok g c =
    let was = c.loop-seat.invariant in let starts = c.loop-seat.starts.items in let handle = c.in-Ok.handle in
    let last = last_left _ _ _ _ c.in-Some.seat starts c.in-Some.ensures.items was.left was.all in
    let items = c.push_spare.ensures.items in
    let longer : length c.push_spare.new.self.items ≡ length starts + 1 = ap length items ∙ length-append starts (Some handle ∷ []) in
    record {
      left = last.0;
      all = omega (arith, was.all, last.2, longer);
      promised = rw items (promised_some (λ h. h.promise.0.value) _ _ starts handle was.promised (ap (λ v. v.of) c.in-Ok.ensures.started ∙ last.1.of_is)
          (ap (λ v. v.number) c.in-Ok.ensures.started ∙ last.1.number_is));
      spare_are = rw (items, refused_some (length c.args.seats.items) starts handle) was.spare_are;
      room = omega (arith, last.2, was.room, c.push_spare.ensures.spare);
      spare_room = omega (arith, last.2, was.spare_room);
    }

pub loop-seat-preserved : goal.loop-seat-preserved
loop-seat-preserved g c =
    let was = c.loop-seat.invariant in let starts = c.loop-seat.starts.items in let desk = c.desk.result in
    let n = length c.args.seats.items in let key = c.args.shared.now in
    let last = last_left _ _ _ _ c.in-Some.seat starts c.in-Some.ensures.items was.left was.all in
    let items = c.push_spare-in-Err.ensures.items in
    let longer : length c.push_spare-in-Err.new.self.items ≡ length starts + 1 = ap length items ∙ length-append starts (None ∷ []) in
    let worker : IsWorker key c.in-Some.seat.number desk.seat = rw c.desk.ensures.seat c.in-Err.ensures.refused in
    let number : desk.seat.number ≡ n - length starts = worker.number_is ∙ last.1.number_is in
    let one = sits_spare key c.in-Some.seat.number desk worker c.desk.ensures.seated (omega (arith, last.1.number_is, last.2, was.all))
    (omega (arith, last.1.number_is, last.2, was.all, c.requires.known)) in
    record {
      left = last.0;
      all = omega (arith, was.all, last.2, longer);
      promised = rw items (promised_none (λ h. h.promise.0.value) _ _ starts was.promised);
      spare_are = rw (items, refused_none n starts, c.push_spare-in-Err-2.ensures.items, c.new.ensures, ← number) (spare_push key _ _ desk was.spare_are one);
      room = omega (arith, last.2, was.room, c.push_spare-in-Err.ensures.spare);
      spare_room = omega (arith, last.2, was.spare_room, c.push_spare-in-Err-2.ensures.spare);
    }
