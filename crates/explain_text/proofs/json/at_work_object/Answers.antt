use Rattle.std.proofs.Common.{append_assoc}
use Rattle.explain_text.proofs.json.at_work_object.Goals as goal

pub returns : goal.returns
returns c = rw (
  c.in_ok-extend_from_slice-2.ensures.items,
  c.in_ok-add_objects.ensures,
  c.in_ok-extend_from_slice.ensures.items,
  c.in_ok-add_number.ensures,
  c.new-text.ensures.items,
) (simp append_assoc)
