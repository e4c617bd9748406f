-- What may stand at a place, in words (this project's own).
use Rattle.std.specs.Prelude.{ℕ, List, ◌++◌, codes, decimal}
use Rattle.line_places.specs.declared.expected.Language.{Language}
use Rattle.line_places.specs.declared.expected.Language.TheVariants.{Script, Replies, Nest}
use Rattle.line_places.specs.declared.expected.Thing.{Thing}
use Rattle.line_places.specs.declared.expected.Thing.TheVariants.{Runner, Queue, Task, Job}
use Rattle.line_places.specs.declared.expected.Expected.{Expected}
use Rattle.line_places.specs.declared.expected.Expected.TheVariants.{Command, Step, Steps, Number, Id, Kind, Priority, Behaviour, MayBlock, Policy, Fence, Vote, Scope, Home, Nestable, End}

-- the name of a thing
abbrev pub thing_name : Thing → List ℕ
thing_name Runner = codes "runner"
thing_name Queue = codes "main queue"
thing_name Task = codes "task"
thing_name Job = codes "job"

-- what the number of a thing is called
abbrev pub id_noun : Thing → List ℕ
id_noun Runner = codes "runner's number"
id_noun Queue = codes "main queue's number"
id_noun Task = codes "task's number"
id_noun Job = codes "job's number"

-- what the word of a place is called
abbrev pub noun : Expected → List ℕ
noun Command = codes "command"
noun Step = codes "step"
noun Steps = codes "step"
noun (Number low high) = codes "number"
noun (Id of) = id_noun of
noun Kind = codes "kind of runner"
noun Priority = codes "priority"
noun Behaviour = codes "behaviour"
noun MayBlock = codes "word for this place"
noun Policy = codes "policy"
noun Fence = codes "place of a fence"
noun Vote = codes "vote"
noun Scope = codes "kind of scope"
noun Home = codes "home of a reply"
noun Nestable = codes "kind of task"
noun End = codes "word for this place"

-- the commands of a language
abbrev pub commands : Language → List ℕ
commands Script = codes "workers, groups, threshold, runner, queue, task, job, post, main, tick, policy, reprio, fence, unfence, vote, rank, close, pump, flush, startjob, join, cancel or shutdown"
commands Replies = codes "reply"
commands Nest = codes "queue, task, post or run"

-- the steps of a language
abbrev pub steps : Language → List ℕ
steps Script = codes "add, mul, set, post, main, block or unblock"
steps Replies = codes "none"
steps Nest = codes "say, post or loop"

-- the words that may stand at a place that takes no number
abbrev pub choices : Language → Expected → List ℕ
choices language Command = commands language
choices language Step = steps language
choices language Steps = steps language
choices language Kind = codes "parallel, sequenced or single:W, where W is 1 to 64"
choices language Priority = codes "best_effort, user_visible or user_blocking"
choices language Behaviour = codes "continue, skip or block"
choices language MayBlock = codes "mayblock"
choices language Policy = codes "all, foreground or none"
choices language Fence = codes "now or start"
choices language Vote = codes "on or off"
choices language Scope = codes "may or will"
choices language Home = codes "runner or queue"
choices language Nestable = codes "nestable or deferred"
choices language expected = codes "none"

-- the text with what may stand at a place: the words, or the least number and the greatest one
abbrev pub expected_words : List ℕ → Language → Expected → List ℕ
expected_words text language (Number low high) = text ++ decimal low ++ codes " to " ++ decimal high
expected_words text language (Id of) = text ++ decimal 0 ++ codes " to " ++ decimal 4294967295
expected_words text language expected = text ++ choices language expected
