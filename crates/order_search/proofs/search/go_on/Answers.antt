use Rattle.std.proofs.Common.{◌≡◌, ◌+◌, ◌<◌, ◌≤◌, get_or, length, arith, refl, subst, sym, ap, ◌∙◌}
use Rattle.order_model.specs.Plans.{plan_of}
use Rattle.order_search.specs.Search.{IsNext, Keeps, Stood, task_of}
use Rattle.order_search.specs.Walk.{Task}
use Rattle.order_search.proofs.Steps.{parted_here, walk_more}
use Rattle.order_search.proofs.Turned.{all_tried, best_kept, itself_ruled_out, stood_back, without_back}
use Rattle.order_search.proofs.search.go_on.Goals as goal

pub keep-requires : goal.keep-requires
keep-requires g c =
    let task : g.task ≡ task_of (plan_of c.args.kind c.args.script.now) c.args.prefix c.args.tries.now = c.requires.1.1.0 in
    let stood : Stood g.task c.args.walk.now = c.requires.1.1.1 in
    record {
      seated = λ k d within.
          let tries : c.deref-2.result.now ≡ g.task.tries = c.deref-2.ensures.value ∙ sym (ap (λ (t : Task). t.tries) task) in
          let seated = stood.walk_is.is.seated k d (omega (arith, within, ap length tries)) in
          let seat : (get_or c.deref-2.result.now k d).entry.seat < g.task.script.workers + 1 = rw tries seated in
          omega (arith, seat, (parted_here stood.walk_is).count, ap length c.deref-4.ensures.value);
    }

pub back-requires : goal.back-requires
back-requires g c =
    let task : g.task ≡ task_of (plan_of c.args.kind c.args.script.now) c.args.prefix c.args.tries.now = c.requires.1.1.0 in
    let stood : Stood g.task c.args.walk.now = c.requires.1.1.1 in
    let keeps : Keeps c.deref-2.result.now c.deref-3.result.now c.deref-4.result.now c.args.walk.now.best c.keep.new.self = c.in_ok-keep.ensures in
    let path : c.deref-3.result.now ≡ c.args.walk.now.path.items = c.deref-3.ensures.value in
    let longer : length c.args.walk.now.path.items ≤ length c.keep.new.self.events.items = omega (arith, keeps.longer, ap length path) in
    let next : IsNext c.deref.result.now c.args.walk.now.start c.len.result c.next_seat-seat.result = c.next_seat-seat.ensures in
    let next_here : IsNext c.args.walk.now.heads.items c.args.walk.now.start c.len.result c.next_seat-seat.result =
    subst (λ l. IsNext l c.args.walk.now.start c.len.result c.next_seat-seat.result) c.deref.ensures.value next in
    let none : length c.args.walk.now.heads.items ≤ c.next_seat-seat.result = omega (arith, c.if-seat-len.false, c.len-2.ensures, c.args.walk.now.heads.ok.0) in
    let end : c.len.result ≡ length g.task.tries = omega (arith, c.len.ensures, c.args.tries.now.events.ok.0, ap (λ (t : Task). length t.tries) task) in (
      c.requires.0,
      (
        c.requires.1.0,
        (
          ap (λ (t : Task). t.script) task,
          (
            walk_more g.task _ _ _ _ _ _ keeps.no_less stood.walk_is,
            (
              all_tried c.len.result c.next_seat-seat.result stood.walk_is next_here none end,
              itself_ruled_out g.task _ _ longer (c.is_order.ensures.none c.if-is_order.false),
            ),
          ),
        ),
      ),
    )

pub returns-then-branch : goal.returns-then-branch
returns-then-branch g c =
    let task : g.task ≡ task_of (plan_of c.args.kind c.args.script.now) c.args.prefix c.args.tries.now = c.requires.1.1.0 in
    let stood : Stood g.task c.args.walk.now = c.requires.1.1.1 in
    let keeps : Keeps c.deref-2.result.now c.deref-3.result.now c.deref-4.result.now c.args.walk.now.best c.keep.new.self = c.in_ok-keep.ensures in
    let tries : c.deref-2.result.now ≡ g.task.tries = c.deref-2.ensures.value ∙ sym (ap (λ (t : Task). t.tries) task) in
    let here : Keeps c.deref-2.result.now c.args.walk.now.path.items c.args.walk.now.heads.items c.args.walk.now.best c.keep.new.self =
    subst (λ l. Keeps c.deref-2.result.now c.args.walk.now.path.items l c.args.walk.now.best c.keep.new.self) c.deref-4.ensures.value
    (subst (λ l. Keeps c.deref-2.result.now l c.deref-4.result.now c.args.walk.now.best c.keep.new.self) c.deref-3.ensures.value keeps) in
    stood_back g.task _ _ _ c.back.new.self c.in_ok-back.ensures c.if-branch.true refl
    (best_kept c.deref-2.result.now c.args.walk.now.best c.keep.new.self stood.walk_is tries here stood.best_is)

pub returns : goal.returns
returns g c =
    let task : g.task ≡ task_of (plan_of c.args.kind c.args.script.now) c.args.prefix c.args.tries.now = c.requires.1.1.0 in
    let stood : Stood g.task c.args.walk.now = c.requires.1.1.1 in
    let keeps : Keeps c.deref-2.result.now c.deref-3.result.now c.deref-4.result.now c.args.walk.now.best c.keep.new.self = c.in_ok-keep.ensures in
    let tries : c.deref-2.result.now ≡ g.task.tries = c.deref-2.ensures.value ∙ sym (ap (λ (t : Task). t.tries) task) in
    let here : Keeps c.deref-2.result.now c.args.walk.now.path.items c.args.walk.now.heads.items c.args.walk.now.best c.keep.new.self =
    subst (λ l. Keeps c.deref-2.result.now c.args.walk.now.path.items l c.args.walk.now.best c.keep.new.self) c.deref-4.ensures.value
    (subst (λ l. Keeps c.deref-2.result.now l c.deref-4.result.now c.args.walk.now.best c.keep.new.self) c.deref-3.ensures.value keeps) in
    without_back g.task _ _ _ c.back.new.self c.in_ok-back.ensures c.if-branch.false refl
    (best_kept c.deref-2.result.now c.args.walk.now.best c.keep.new.self stood.walk_is tries here stood.best_is)
