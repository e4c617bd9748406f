use Rattle.std.proofs.Common.{ap, inl, sym}
use Rattle.log_model.specs.LogText.{version_of}
use Rattle.app_modes.specs.Judged.{line_in}
use Rattle.app_modes.proofs.check_open.found_in.Goals as goal

pub returns-in-Right : goal.returns-in-Right
returns-in-Right c = λ prefix plan text judged.
    let right = rw c.in-Right.is at judged in
    inl (_, right.0, sym (ap (line_in (version_of text)) right.1))

pub returns-in-Wrong : goal.returns-in-Wrong
returns-in-Wrong c = λ prefix plan text judged. rw c.in-Wrong.is at judged
