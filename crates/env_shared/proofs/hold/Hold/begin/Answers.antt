use Rattle.std.proofs.Common.{rules, ◌≡◌, ◌<◌, length, Some}
use Rattle.std.specs.Prelude.{slice_get}
use Rattle.env_roster.specs.declared.note.Note.TheVariants.{Awake}
use Rattle.env_shared.proofs.Notes.{has_note}
use Rattle.env_shared.proofs.hold.Hold.begin.Goals as goal

pub invariant_of-result : goal.invariant_of-result
invariant_of-result g c =
    let within : c.number-number.result < length c.open-env.result.1 = search rules in
    let noted : slice_get c.awake.new.self c.number-number.result ≡ Some Awake
    = rw c.awake.ensures (has_note c.open-env.result.1 c.number-number.result Awake within) in
    (search rules, search rules, search rules, noted)
