use Rattle.std.proofs.Common.{arith}
use Rattle.std.specs.List.{slice_split}
use Rattle.std.specs.Str.Lines.{strip_carriage_return}
use Rattle.std.proofs.lemmas.List.{length-map}
use Rattle.line_places.specs.Bytes.{is_feed}
use Rattle.line_places.proofs.LinesOfText.{lines_few}
use Rattle.line_places.proofs.bytes.Lines.of.Goals as goal

pub returns-clause-few : goal.returns-clause-few
returns-clause-few c =
    let few = lines_few c.args.text.now in
    let same = length-map (slice_split is_feed c.args.text.now) strip_carriage_return in
    omega arith
