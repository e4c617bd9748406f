-- What the places of a line take behind its command, and those of a step behind its name, in the order of the grammars
-- (`script_model`, `task_reply`, `nested_loop`; this project's own languages).
use Rattle.std.specs.Prelude.{ℕ, ◌-◌, ◌^◌, if◌then◌else◌, List, [], ◌∷◌, codes, Option, Some, None}
use Rattle.task_base.specs.declared.limits.TheConstants.{MOST_WORKERS, MOST_MICROSECONDS}
use Rattle.script_model.specs.Words.{is_word}
use Rattle.line_places.specs.declared.expected.Language.{Language}
use Rattle.line_places.specs.declared.expected.Language.TheVariants.{Script, Replies, Nest}
use Rattle.line_places.specs.declared.expected.Thing.TheVariants.{Runner, Queue, Task, Job}
use Rattle.line_places.specs.declared.expected.Expected.{Expected}
use Rattle.line_places.specs.declared.expected.Expected.TheVariants.{Steps, Number, Id, Kind, Priority, Behaviour, MayBlock, Policy, Fence, Vote, Scope, Home, Nestable, End}

-- the places of a script's actions on main queues and the clock
unfoldable pub script_acts_on : List ℕ → Option (List Expected)
script_acts_on command =
    if is_word command (codes "tick") then Some (Number 1 65536 ∷ End ∷ [])
    else (if is_word command (codes "fence") then Some (Id Queue ∷ Fence ∷ End ∷ [])
    else (if is_word command (codes "unfence") then Some (Id Queue ∷ End ∷ [])
    else (if is_word command (codes "vote") then Some (Id Queue ∷ Number 0 255 ∷ Vote ∷ End ∷ [])
    else (if is_word command (codes "rank") then Some (Id Queue ∷ Number 0 7 ∷ End ∷ [])
    else (if is_word command (codes "close") then Some (Id Queue ∷ End ∷ [])
    else (if is_word command (codes "pump") then Some (Number 1 16384 ∷ End ∷ [])
    else None))))))

-- the places of a script's actions on tasks, jobs, runners and the pool
unfoldable pub script_acts : List ℕ → Option (List Expected)
script_acts command =
    if is_word command (codes "post") then Some (Id Task ∷ Id Runner ∷ Number 0 MOST_MICROSECONDS ∷ End ∷ [])
    else (if is_word command (codes "main") then Some (Id Task ∷ Id Queue ∷ Number 0 MOST_MICROSECONDS ∷ End ∷ [])
    else (if is_word command (codes "policy") then Some (Policy ∷ End ∷ [])
    else (if is_word command (codes "reprio") then Some (Id Runner ∷ Priority ∷ End ∷ [])
    else (if is_word command (codes "flush") then Some (End ∷ [])
    else (if is_word command (codes "startjob") then Some (Id Job ∷ End ∷ [])
    else (if is_word command (codes "join") then Some (Id Job ∷ End ∷ [])
    else (if is_word command (codes "cancel") then Some (Id Job ∷ End ∷ [])
    else (if is_word command (codes "shutdown") then Some (End ∷ [])
    else script_acts_on command))))))))

-- the places of a line of a script
unfoldable pub script_places : List ℕ → Option (List Expected)
script_places command =
    if is_word command (codes "workers") then Some (Number 1 MOST_WORKERS ∷ End ∷ [])
    else (if is_word command (codes "groups") then Some (Number 1 64 ∷ Number 1 64 ∷ Number 0 64 ∷ End ∷ [])
    else (if is_word command (codes "threshold") then Some (Number 0 MOST_MICROSECONDS ∷ End ∷ [])
    else (if is_word command (codes "runner") then Some (Id Runner ∷ Kind ∷ Priority ∷ Behaviour ∷ MayBlock ∷ End ∷ [])
    else (if is_word command (codes "queue") then Some (Id Queue ∷ Number 0 7 ∷ Number 0 16 ∷ End ∷ [])
    else (if is_word command (codes "task") then Some (Id Task ∷ Steps ∷ [])
    else (if is_word command (codes "job") then Some (Id Job ∷ Priority ∷ Behaviour ∷ Number 0 65536 ∷ Number 1 64 ∷ Steps ∷ [])
    else script_acts command))))))

-- the places of a line that says a reply
unfoldable pub reply_places : List ℕ → Option (List Expected)
reply_places command =
    if is_word command (codes "reply") then Some (Id Task ∷ Id Task ∷ Home ∷ Number 0 (2 ^ 32 - 1) ∷ End ∷ [])
    else None

-- the places of a line of a nest script
unfoldable pub nest_places : List ℕ → Option (List Expected)
nest_places command =
    if is_word command (codes "queue") then Some (Id Queue ∷ Number 0 7 ∷ End ∷ [])
    else (if is_word command (codes "task") then Some (Id Task ∷ Nestable ∷ Steps ∷ [])
    else (if is_word command (codes "post") then Some (Id Task ∷ Id Queue ∷ End ∷ [])
    else (if is_word command (codes "run") then Some (Number 1 16384 ∷ End ∷ [])
    else None)))

-- the places of a line behind its command, if the language has that command
abbrev pub places_of : Language → List ℕ → Option (List Expected)
places_of Script command = script_places command
places_of Replies command = reply_places command
places_of Nest command = nest_places command

-- the places of a step of a script
unfoldable pub script_steps : List ℕ → Option (List Expected)
script_steps name =
    if is_word name (codes "add") then Some (Number 0 (2 ^ 64 - 1) ∷ End ∷ [])
    else (if is_word name (codes "mul") then Some (Number 0 (2 ^ 64 - 1) ∷ End ∷ [])
    else (if is_word name (codes "set") then Some (Number 0 (2 ^ 64 - 1) ∷ End ∷ [])
    else (if is_word name (codes "post") then Some (Id Task ∷ Id Runner ∷ Number 0 MOST_MICROSECONDS ∷ End ∷ [])
    else (if is_word name (codes "main") then Some (Id Task ∷ Id Queue ∷ Number 0 MOST_MICROSECONDS ∷ End ∷ [])
    else (if is_word name (codes "block") then Some (Scope ∷ End ∷ [])
    else (if is_word name (codes "unblock") then Some (End ∷ [])
    else None))))))

-- the places of a step of a nest script
unfoldable pub nest_steps : List ℕ → Option (List Expected)
nest_steps name =
    if is_word name (codes "say") then Some (Number 0 (2 ^ 64 - 1) ∷ End ∷ [])
    else (if is_word name (codes "post") then Some (Id Task ∷ Id Queue ∷ End ∷ [])
    else (if is_word name (codes "loop") then Some (Number 1 16384 ∷ End ∷ [])
    else None))

-- the places of a step behind its name, if the language has that step
abbrev pub step_places : Language → List ℕ → Option (List Expected)
step_places Script name = script_steps name
step_places Replies name = None
step_places Nest name = nest_steps name
