use Rattle.std.proofs.Common.{ap, ◌∙◌}
use Rattle.std.specs.Result.{result_ok}
use Rattle.script_model.specs.Words.{number_of}
use Rattle.script_model.specs.Places.{number_from}
use Rattle.line_words.proofs.Numerals.{result_ok-in_range}
use Rattle.nested_loop.specs.NestWords.{number_in}
use Rattle.nested_loop.proofs.numbers.number_in.Goals as goal

pub returns-clause-value : goal.returns-clause-value
unfolding number_from number_in
returns-clause-value c = c.ok.ensures.value ∙ ap result_ok c.number_from.ensures.value ∙ result_ok-in_range c.args.low c.args.high (number_of c.args.word.now)
