use Rattle.std.proofs.Common.{arith}
use Rattle.std.proofs.lemmas.List.{flat_map_more}
use Rattle.std.proofs.lemmas.List.Folds.{list_any-append}
use Rattle.task_script.proofs.reader.Reader.post.Goals as goal

pub returns : goal.returns
returns c = grind (arith, flat_map_more, list_any-append)
