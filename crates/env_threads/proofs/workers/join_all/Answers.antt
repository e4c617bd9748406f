use Rattle.std.proofs.Common.{◌≡◌, ◌+◌, ◌-◌, ◌∙◌, ◌++◌, ◌∷◌, [], length, refl, ap, arith, length-append, Some, None}
use Rattle.list_laws.proofs.Elements.{slice_get-end}
use Rattle.env_shared.specs.Splits.{IsWorker}
use Rattle.env_shared.proofs.Splits.{workers_push}
use Rattle.env_threads.specs.Crew.{AreSpare, refused}
use Rattle.env_threads.proofs.Seats.{leaves_free, promised_front, refused_none, refused_some, spare_pop, spare_there}
use Rattle.env_threads.proofs.workers.join_all.Goals.{in-Some-start, in-None+in-Some-pop}
use Rattle.env_threads.proofs.workers.join_all.Goals as goal

pub unreachable-requires : goal.unreachable-requires
unreachable-requires g c =
    let n = length c.args.starts.items in let front = c.pop.new.self.items in
    let items : c.loop-start.starts.items ≡ front ++ None ∷ [] = c.in-Some.ensures.items ∙ ap (λ o. front ++ o ∷ []) c.in-None.is in
    spare_there c.args.shared.now (refused n front) (n - length front) c.loop-start.spare.items (c.in-None-pop.ensures.empty.0 refl)
    (rw (← refused_none n front, ← items) c.loop-start.invariant.spare)

pub loop-start-preserved : goal.loop-start-preserved
loop-start-preserved g c =
    let was = c.loop-start.invariant in let key = c.args.shared.now in let n = length c.args.starts.items in let front = c.pop.new.self.items in
    let rest = c.loop-start.rest.items in let seat = c.match-start.seat in
    let less : length c.loop-start.starts.items ≡ length front + 1 = ap length c.in-Some.ensures.items ∙ length-append front (c.in-Some.start ∷ []) in
    let longer : length c.push_spare.new.self.items ≡ length rest + 1 = ap length c.push_spare.ensures.items ∙ length-append rest (seat ∷ []) in
    let number : n - length front ≡ 1 + length rest = omega (arith, was.all, less) in
    let back : IsWorker key (1 + length rest) seat × AreSpare key (refused n front) c.match-start.spare.items = elim c.match-start.branch [
      | in-Some-start w ↦
          let handle = w.in-Some-start.handle in
          let items : c.loop-start.starts.items ≡ front ++ Some handle ∷ [] = c.in-Some.ensures.items ∙ ap (λ o. front ++ o ∷ []) w.in-Some-start.is in
          let given = was.promised (length front) handle (rw items (slice_get-end front (Some handle))) in (
            rw (w.seat-is, ← number, ← given.0, ← given.1) w.join-seat.ensures,
            rw (w.spare-is, ← refused_some n front handle, ← items) was.spare,
          )
      | in-None+in-Some-pop w ↦
          let desk = w.in-Some-pop.desk in
          let items : c.loop-start.starts.items ≡ front ++ None ∷ [] = c.in-Some.ensures.items ∙ ap (λ o. front ++ o ∷ []) w.in-None.is in
          let last = spare_pop key (refused n front) (n - length front) w.pop-in-None.new.self.items desk
          (rw (← w.in-Some-pop.ensures.items, ← refused_none n front, ← items) was.spare) in
          let out = w.into_seat.ensures.seat ∙ ap (λ d. d.seat) w.into_inner.ensures in (
            rw (w.seat-is, ← number) (leaves_free key (n - length front) w.into_seat.result (ap (λ s. s.of.table) out ∙ last.2.table_is)
                (ap (λ s. s.of.basis) out ∙ last.2.script_is) c.requires.stands
                (ap (λ s. s.number) out ∙ last.1) (rw out last.2.free) w.into_seat.ensures.seated),
            rw w.spare-is last.0,
          )
    ] in
    record {
      workers = rw c.push_spare.ensures.items (workers_push key 1 rest seat was.workers back.0);
      all = omega (arith, was.all, less, longer);
      promised = promised_front (λ h. h.promise.0.value) key n front c.in-Some.start (rw c.in-Some.ensures.items at was.promised);
      spare = back.1;
      room = omega (arith, was.room, less, c.push_spare.ensures.spare);
    }
