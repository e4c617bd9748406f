-- What the past and the script have to do with an entry that may not come, as a key of a JSON object (this project's own).
use Rattle.std.specs.Prelude.{ℕ, ◌-◌, List, [], ◌∷◌, ◌++◌, codes, flat_map, length, take}
use Rattle.task_base.specs.declared.entry.Entry.{Entry}
use Rattle.log_model.specs.LogText.{json_of}
use Rattle.task_traits.specs.declared.traits.Behaviour.{Behaviour}
use Rattle.task_traits.specs.declared.traits.Priority.{Priority}
use Rattle.value_words.specs.Words.{behaviour_word, priority_word}
use Rattle.log_context.specs.declared.fact.Fact.{Fact}
use Rattle.log_context.specs.declared.fact.Fact.TheVariants as facts
use Rattle.log_context.specs.declared.fact.Limit.{Limit}
use Rattle.log_context.specs.declared.fact.Limit.TheVariants as limits
use Rattle.log_context.specs.declared.fact.Role.{Role}
use Rattle.log_context.specs.declared.fact.Role.TheVariants as roles
use Rattle.context_text.specs.Plain.{around, around_two, worded}

-- what an entry is to the one that may not come, as a word
abbrev pub role_name : Role → List ℕ
role_name roles.Itself = codes "itself"
role_name roles.Taken = codes "taken"
role_name roles.Posted = codes "posted"
role_name roles.Runs = codes "runs"
role_name roles.Due = codes "due"
role_name roles.Left = codes "left"
role_name roles.Busy = codes "busy"
role_name roles.Elsewhere = codes "elsewhere"
role_name roles.Ended = codes "ended"
role_name roles.Policy = codes "policy"
role_name roles.Shutdown = codes "shutdown"
role_name roles.Moment = codes "moment"
role_name roles.Cancelled = codes "cancelled"
role_name roles.Fence = codes "fence"
role_name roles.Off = codes "off"
role_name roles.Closed = codes "closed"
role_name roles.Before = codes "before"
role_name roles.After = codes "after"
role_name roles.Works = codes "works"
role_name roles.Waiting = codes "waiting"
role_name roles.Blocks = codes "blocks"

-- a limit, as a word
abbrev pub limit_name : Limit → List ℕ
limit_name limits.Foreground = codes "foreground"
limit_name limits.BestEffort = codes "best_effort"
limit_name limits.Background = codes "background"

-- a key, whose string has begun, with this word
abbrev pub word_key : List ℕ → List ℕ → List ℕ
word_key key word = key ++ word ++ codes "\""

-- the object of an entry that is this to the one that may not come, as a word
abbrev pub entry_object : List ℕ → ℕ → Entry → List ℕ
entry_object name place e = word_key (codes "{\"fact\":\"") name ++ codes ",\"entry\":" ++ json_of place e ++ codes "}"

-- the object of a task that is not posted
abbrev pub unposted_object : ℕ → List ℕ
unposted_object task = around (codes "{\"fact\":\"unposted\",\"task\":") task (codes "}")

-- the object of the only seat that a runner has
abbrev pub single_object : ℕ → ℕ → List ℕ
single_object runner seat = around_two (codes "{\"fact\":\"single\",\"runner\":") runner (codes ",\"seat\":") seat (codes "}")

-- the object of two priorities
abbrev pub priorities_object : ℕ → Priority → ℕ → Priority → List ℕ
priorities_object runner priority best higher =
    worded (codes "{\"fact\":\"priorities\",\"runner\":") runner (codes ",\"priority\":\"") (priority_word priority) (codes "\",")
    ++ worded (codes "\"best\":") best (codes ",\"higher\":\"") (priority_word higher) (codes "\"}")

-- the object of the limits
abbrev pub limits_object : ℕ → ℕ → ℕ → List ℕ
limits_object foreground best_effort background =
    around_two (codes "{\"fact\":\"limits\",\"foreground\":") foreground (codes ",\"best_effort\":") best_effort (codes ",")
    ++ around (codes "\"background\":") background (codes "}")

-- the object of what runs by a limit
abbrev pub room_object : Limit → ℕ → ℕ → List ℕ
room_object limit running most =
    word_key (codes "{\"fact\":\"room\",\"limit\":\"") (limit_name limit)
    ++ around_two (codes ",\"running\":") running (codes ",\"most\":") most (codes "}")

-- the object of what shutdown does with a runner's tasks
abbrev pub behaves_object : ℕ → Behaviour → List ℕ
behaves_object runner behaviour =
    worded (codes "{\"fact\":\"behaves\",\"runner\":") runner (codes ",\"behaviour\":\"") (behaviour_word behaviour) (codes "\"}")

-- the object of a fact
abbrev pub fact_object : Fact → List ℕ
fact_object (facts.Stands role place e) = entry_object (role_name role) place e
fact_object (facts.Unposted task) = unposted_object task
fact_object (facts.Single runner seat) = single_object runner seat
fact_object (facts.Priorities runner priority best higher) = priorities_object runner priority best higher
fact_object (facts.Limits foreground best_effort background) = limits_object foreground best_effort background
fact_object (facts.Room limit running most) = room_object limit running most
fact_object (facts.Behaves runner behaviour) = behaves_object runner behaviour
fact_object (facts.MayTake place e) = entry_object (codes "may_take") place e

-- the same after others
abbrev pub next_object : Fact → List ℕ
next_object fact = codes "," ++ fact_object fact

-- the same of several facts
abbrev pub fact_objects : List Fact → List ℕ
fact_objects [] = []
fact_objects (fact ∷ others) = fact_object fact ++ flat_map next_object others

-- what was told of a log, a JSON object and a line feed, with one key more
abbrev pub with_context : List ℕ → List Fact → List ℕ
with_context told known = take (length told - 2) told ++ codes ",\"context\":[" ++ fact_objects known ++ codes "]}\n"
