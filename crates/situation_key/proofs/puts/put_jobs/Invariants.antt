use Rattle.std.proofs.Common.{◌≡◌, ◌++◌, ◌∷◌, length, take}
use Rattle.std.specs.Prelude.{flat_map}
use Rattle.situation_key.specs.Words.{job_words}
use Rattle.situation_key.proofs.puts.put_jobs.Given as goal

abbrev pub invariant-loop-job : goal.invariant-loop-job
invariant-loop-job l = l.key.items ≡ l.fn.key.items ++ (length l.jobs ∷ flat_map job_words (take l.job-index l.jobs))
