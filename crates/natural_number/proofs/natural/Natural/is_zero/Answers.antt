use Rattle.std.proofs.Common.{◌∙◌, ap, lit<, sym}
use Rattle.natural_number.specs.Limbs.{number_of}
use Rattle.natural_number.proofs.Numbers.{zero_from_all, all_from_zero}
use Rattle.natural_number.proofs.natural.Natural.is_zero.Goals as goal

pub returns : goal.returns
returns c = (
  λ is. sym c.self.view_is ∙ ap number_of (sym c.as_slice.ensures.value) ∙ zero_from_all 1000000000 c.as_slice.result.now (c.are_zeros.ensures.0 is),
  λ is. c.are_zeros.ensures.1 (all_from_zero 1000000000 c.as_slice.result.now (lit< tt) (ap number_of c.as_slice.ensures.value ∙ c.self.view_is ∙ is)),
)
