-- Nest scripts and logs that were worked out by hand, checked by computing with all definitions open.
use Rattle.std.proofs.Common.{◌≡◌, ℕ, true, false, List, [], ◌∷◌, ◌++◌, map, refl}
use Rattle.std.specs.Prelude.{Option, Some, None, Result, Ok, codes, replicate}
use Rattle.std.specs.Fmt.{digits}
use Rattle.std.specs.Result.{result_err}
use Rattle.script_model.proofs.Worked.Tables.{Row, good, bad}
use Rattle.nested_loop.specs.declared.event.Event.TheVariants as events
use Rattle.nested_loop.specs.declared.nest.NestStep.TheVariants as steps
use Rattle.nested_loop.specs.declared.nest.NestAction.{NestAction}
use Rattle.nested_loop.specs.declared.nest.NestAction.TheVariants as actions
use Rattle.nested_loop.specs.Plan.{NestPlan, NestTaskPlan}
use Rattle.nested_loop.specs.NestReasons.{bad_nest_line, nest_out_of_order, nest_undeclared, nest_posted_twice, late, nest_too_many}
use Rattle.nested_loop.specs.NestWords.{number_in, step_named, steps_said, task_said, command_said}
use Rattle.nested_loop.specs.NestLines.{queue_added, task_added, action_added, added}
use Rattle.nested_loop.specs.NestGrammar.{empty_nest, nest_lines_read, nest_read, nest_fault}
use Rattle.nested_loop.specs.NestText.{event_lines, nest_text}

-- what the bytes are, with all open that reading takes
unfoldable opened : List ℕ → Result NestPlan (ℕ × ℕ)
unfolding number_in step_named steps_said task_said command_said queue_added task_added action_added added nest_lines_read nest_read
opened bytes = nest_read bytes

-- ---- whole scripts

-- each text has the fault that its row says, or none
abbrev AreRight : List Row → Type 0
AreRight rows = map (λ row. nest_fault row.0) rows ≡ map (λ row. row.1) rows

-- a nest whose log is worked out in another place, up to its actions
abbrev declared_text : List ℕ
declared_text = codes "queue 0 3\ntask 0 nestable say 1\ntask 1 deferred say 2\ntask 2 nestable loop 5 ; say 3\n"

-- and its posts
abbrev posted_text : List ℕ
posted_text = declared_text ++ codes "post 2 0\npost 1 0\npost 0 0\n"

-- its tasks
abbrev declared_tasks : List NestTaskPlan
declared_tasks =
    record { nestable = true; steps = steps.Say 1 ∷ [] }
    ∷ record { nestable = false; steps = steps.Say 2 ∷ [] }
    ∷ record { nestable = true; steps = steps.Loop 5 ∷ steps.Say 3 ∷ [] }
    ∷ []

-- the nest that posts all three tasks, and then does this
abbrev nest_with : List NestAction → NestPlan
nest_with runs =
    record { classes = 3 ∷ []; tasks = declared_tasks; actions = actions.Post 2 0 ∷ actions.Post 1 0 ∷ actions.Post 0 0 ∷ runs }

one_run : nest_read (posted_text ++ codes "run 5\n") ≡ Ok (nest_with (actions.Run 5 ∷ []))
unfolding opened
one_run = refl

two_runs : nest_read (posted_text ++ codes "run 1\nrun 1") ≡ Ok (nest_with (actions.Run 1 ∷ actions.Run 1 ∷ []))
unfolding opened
two_runs = refl

-- texts without a nest's lines, and tabs, comments, carriage returns and zeros in front
plain_texts : map nest_read ([] ∷ codes "\n \t\n# a\n #b" ∷ codes "\tqueue  000 07 \r\n" ∷ [])
    ≡ Ok empty_nest ∷ Ok empty_nest ∷ Ok (record empty_nest { classes = 7 ∷ [] }) ∷ []
unfolding opened
plain_texts = refl

-- ---- each reason

bad_lines : AreRight (
    bad (codes "run 0") 1 bad_nest_line  -- no tasks
    ∷ bad (codes "run 16385") 1 bad_nest_line  -- too many tasks
    ∷ good (codes "run 16384")
    ∷ bad (codes "run") 1 bad_nest_line  -- no number
    ∷ bad (codes "run 1 1") 1 bad_nest_line  -- a word more
    ∷ bad (codes "run x") 1 bad_nest_line  -- no digits
    ∷ bad (codes "run 000000000000000000001") 1 bad_nest_line  -- 21 digits
    ∷ good (codes "run 00000000000000000001")
    ∷ bad (codes "walk 1") 1 bad_nest_line  -- command
    ∷ bad (codes "run 1\nrun " ++ 200 ∷ []) 2 bad_nest_line  -- a byte above 127
    ∷ good (codes "# " ++ 255 ∷ codes "\nrun 1")  -- in a comment
    ∷ bad (codes "queue 0 8") 1 bad_nest_line  -- class
    ∷ bad (codes "queue 4294967296 0") 1 bad_nest_line  -- number of a queue, before its order
    ∷ bad (codes "queue 0 1 2") 1 bad_nest_line  -- queues have no voters
    ∷ bad (codes "task 0") 1 bad_nest_line  -- neither nestable nor deferred
    ∷ bad (codes "task 0 later") 1 bad_nest_line
    ∷ good (codes "task 0 deferred")  -- no steps
    ∷ bad (codes "task 0 nestable ;") 1 bad_nest_line  -- bare mark
    ∷ bad (codes "task 0 nestable say 1 ;") 1 bad_nest_line  -- trailing mark
    ∷ bad (codes "task 0 nestable say 1; say 2") 1 bad_nest_line  -- mark in a word
    ∷ bad (codes "task 0 nestable ; say 1") 1 bad_nest_line  -- mark in front
    ∷ bad (codes "task 0 nestable say 1 ; ; say 2") 1 bad_nest_line  -- no step between marks
    ∷ bad (codes "task 0 nestable say 18446744073709551616") 1 bad_nest_line  -- 65 bits
    ∷ good (codes "task 0 nestable say 18446744073709551615")
    ∷ bad (codes "task 0 nestable loop 0") 1 bad_nest_line
    ∷ bad (codes "task 0 nestable run 1") 1 bad_nest_line  -- an action is no step
    ∷ bad (codes "task 0 nestable\nqueue 0 0\npost 0 0 0") 3 bad_nest_line  -- a delay
    ∷ []
    )
unfolding opened
bad_lines = refl

orders : AreRight (
    bad (codes "queue 1 0") 1 nest_out_of_order
    ∷ bad (codes "queue 0 0\nqueue 0 0") 2 nest_out_of_order
    ∷ good (codes "task 0 nestable\nqueue 0 0\ntask 1 deferred\nqueue 1 0")  -- each sort by itself
    ∷ bad (codes "task 1 nestable post 5 5") 1 nest_out_of_order  -- before nest_undeclared
    ∷ []
    )
unfolding opened
orders = refl

uses : AreRight (
    bad (codes "post 0 0") 1 nest_undeclared
    ∷ bad (codes "queue 0 0\npost 0 0") 2 nest_undeclared  -- the task
    ∷ bad (codes "task 0 nestable\npost 0 0") 2 nest_undeclared  -- the queue
    ∷ bad (codes "queue 0 0\ntask 0 nestable post 0 0") 2 nest_undeclared  -- a task names itself
    ∷ bad (codes "queue 0 0\ntask 0 nestable\ntask 1 nestable post 0 0 ; post 0 1") 3 nest_undeclared  -- before posted twice
    ∷ good (codes "queue 0 0\ntask 0 nestable\ntask 1 nestable post 0 0")
    ∷ []
    )
unfolding opened
uses = refl

posts : AreRight (
    bad (codes "queue 0 0\ntask 0 nestable\npost 0 0\npost 0 0") 4 nest_posted_twice
    ∷ bad (codes "queue 0 0\ntask 0 nestable\ntask 1 nestable post 0 0\npost 0 0") 4 nest_posted_twice  -- by a step
    ∷ bad (codes "queue 0 0\ntask 0 nestable\ntask 1 nestable post 0 0 ; post 0 0") 3 nest_posted_twice  -- on one line
    ∷ bad (codes "queue 0 0\ntask 0 nestable\npost 0 0\ntask 1 nestable post 0 0") 4 nest_posted_twice  -- before late
    ∷ []
    )
unfolding opened
posts = refl

declarations : AreRight (
    bad (codes "run 1\nqueue 0 0") 2 late
    ∷ bad (codes "run 1\ntask 0 nestable") 2 late
    ∷ bad (codes "run 1\n\n# declared behind\nqueue 1 0") 4 nest_out_of_order  -- before late
    ∷ []
    )
unfolding opened
declarations = refl

-- ---- the limits

-- the fault of a text's one line behind a nest
abbrev fault_behind : NestPlan → List ℕ → Option (ℕ × ℕ)
fault_behind nest line = result_err (nest_lines_read nest 1 (line ∷ []))

-- so many queues
abbrev with_queues : ℕ → NestPlan
with_queues n = record empty_nest { classes = replicate n 0 }

-- so many tasks of so many steps
abbrev with_tasks : ℕ → ℕ → NestPlan
with_tasks n m = record empty_nest { tasks = replicate n (record { nestable = true; steps = replicate m (steps.Say 1) }) }

-- so many actions
abbrev with_actions : ℕ → NestPlan
with_actions n = record empty_nest { actions = replicate n (actions.Run 1) }

limits :
    fault_behind (with_queues 255) (codes "queue 255 0")
    ∷ fault_behind (with_queues 256) (codes "queue 256 0")
    ∷ fault_behind (with_tasks 1023 0) (codes "task 1023 nestable")
    ∷ fault_behind (with_tasks 1024 0) (codes "task 1024 nestable")
    ∷ fault_behind (with_tasks 2 8191) (codes "task 2 nestable say 1 ; say 2")
    ∷ fault_behind (with_tasks 2 8191) (codes "task 2 nestable say 1 ; say 2 ; say 3")
    ∷ fault_behind (with_actions 16383) (codes "run 1")
    ∷ fault_behind (with_actions 16384) (codes "run 1")
    ∷ fault_behind (with_actions 16384) (codes "queue 0 0")
    ∷ []
    ≡ None
    ∷ Some (1, nest_too_many)
    ∷ None
    ∷ Some (1, nest_too_many)
    ∷ None
    ∷ Some (1, nest_too_many)
    ∷ None
    ∷ Some (1, nest_too_many)
    ∷ Some (1, late)
    ∷ []
unfolding opened
limits = refl

-- ---- the text of a log

every_event : nest_text (
    events.Post 2 0
    ∷ events.Loop 1
    ∷ events.Start 2 1
    ∷ events.Say 18446744073709551615
    ∷ events.Defer 1
    ∷ events.End 2
    ∷ events.Quit 1
    ∷ []
    ) ≡ codes "0 post 2 0\n1 loop 1\n2 start 2 1\n3 say 18446744073709551615\n4 defer 1\n5 end 2\n6 quit 1\n"
unfolding digits event_lines
every_event = refl
