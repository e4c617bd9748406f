use Rattle.std.proofs.Common.{Bool, true, false, cond, arith, ◌≡◌, refl, ap, ◌∙◌}
use Rattle.std.specs.Prelude.{is_some}
use Rattle.std.specs.Int.{from_bool}
use Rattle.job_source.specs.Job.{inside}
use Rattle.job_source.proofs.Ids.{inside-some, IsConsistent-done}
use Rattle.job_source.proofs.source.JobSource.done.Goals as goal

pub overflow_add-self-2 : goal.overflow_add-self-2
overflow_add-self-2 c = omega (
  arith,
  c.self.invariant.parted,
  c.self.invariant.within,
  c.self.ranges,
  inside-some c.args.self.now c.args.id c.requires,
  ap inside c.self.view_is,
)

pub invariant_of-self : goal.invariant_of-self
invariant_of-self c =
    IsConsistent-done _ _ _ _ c.args.leave _ c.self.invariant (rw (← c.self.view_is) at c.requires) (rw (← c.self.view_is) at c.next_item-next.ensures)
    (c.from.ensures ∙ ap from_bool c.is_some.ensures ∙ from_bool_is (is_some c.next_item-next.result))
  where
    from_bool_is : (b : Bool) → from_bool b ≡ cond b 1 0
    from_bool_is true = refl
    from_bool_is false = refl
