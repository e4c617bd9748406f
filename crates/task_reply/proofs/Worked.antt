-- Worked examples: which lines are replies, which are bad and why, and the script that replies make. A run of that script
-- is a row of the program's.
use Rattle.std.proofs.Common.{◌≡◌, ℕ, zero, suc, true, false, List, [], ◌∷◌, ◌++◌, map, refl, sym, ◌∙◌, subst, Option, Some, None, Ok, arith}
use Rattle.std.specs.Prelude.{codes, slice_get}
use Rattle.std.proofs.lemmas.Option.{none-some, same_Some}
use Rattle.task_traits.specs.declared.traits.Priority.TheVariants.{UserVisible}
use Rattle.task_traits.specs.declared.traits.Behaviour.TheVariants.{SkipOnShutdown}
use Rattle.task_base.specs.Plan.{Plan}
use Rattle.task_base.specs.declared.script.Action.TheVariants as actions
use Rattle.task_base.specs.declared.script.RunnerKind.TheVariants.{Parallel, Sequenced}
use Rattle.task_base.specs.declared.step.Scope.TheVariants.{May}
use Rattle.task_base.specs.declared.step.Step.{Step}
use Rattle.task_base.specs.declared.step.Step.TheVariants as steps
use Rattle.script_model.specs.Laws.Postings.{postings}
use Rattle.task_reply.specs.declared.reply.Home.TheVariants.{Runner, Queue}
use Rattle.task_reply.specs.declared.reply.Reply.{Reply}
use Rattle.task_reply.specs.Elaborated.{IsElaborated, reply_posting, replies_to}
use Rattle.task_reply.specs.Replies.{bad_reply_line, reply_undeclared, reply_posted_twice, reply_bad_block, home_named, id_of, is_full, line_read}
use Rattle.task_reply.specs.Replies.{lines_read, reason_against, replies_read, reply_fault, reply_of, reply_said}

-- a runner without `mayblock`, one with it, and a queue; task 1 blocks, and the script posts tasks 2 and 3
abbrev script : Plan
script = record {
  workers = 1;
  foreground = 4;
  foreground_best = 2;
  background = 0;
  threshold = 1000000;
  runners = record { kind = Sequenced; traits = record { priority = UserVisible; behaviour = SkipOnShutdown; may_block = false } }
      ∷ record { kind = Parallel; traits = record { priority = UserVisible; behaviour = SkipOnShutdown; may_block = true } } ∷ [];
  queues = record { class = 3; voters = 0 } ∷ [];
  tasks = (steps.Add 1 ∷ []) ∷ (steps.Block May ∷ steps.Unblock ∷ []) ∷ (steps.Add 2 ∷ []) ∷ (steps.Post 2 0 0 ∷ steps.Add 3 ∷ []) ∷ [];
  jobs = [];
  actions = actions.Post 3 0 0 ∷ actions.Flush ∷ actions.Pump 1 ∷ [];
  is_open = false;
}

-- what the definition says of lines, and what it is to say
abbrev pub Row : Type 0
Row = List ℕ × Option (ℕ × ℕ)

abbrev good : List ℕ → Row
good bytes = (bytes, None)

abbrev bad : List ℕ → ℕ → ℕ → Row
bad bytes line reason = (bytes, Some (line, reason))

abbrev AreRight : List Row → Type 0
AreRight rows = map (λ (row : Row). (row.0, reply_fault script row.0)) rows ≡ rows

-- lines that are replies, or are skipped
abbrev good_lines : List Row
good_lines =
    good []  -- nothing
    ∷ good (codes "\n \t\n# any " ++ 255 ∷ 10 ∷ [])  -- blanks and a comment
    ∷ good (codes "reply 3 0 queue 0")  -- no line feed at the end
    ∷ good (codes "reply\t 003 0 runner 1 \r\n")  -- blanks, zeros in front, a carriage return
    ∷ good (codes "reply 3 1 runner 1\nreply 3 0 queue 0\n")  -- two replies of a task
    ∷ good (codes "reply 2 1 runner 1\nreply 1 0 queue 0\n")  -- a reply of a reply
    ∷ []

good_lines_right : AreRight good_lines
unfolding reply_said reply_of id_of home_named reason_against line_read lines_read postings
good_lines_right = refl

-- reason 1: the line is no reply
abbrev bad_lines : List Row
bad_lines =
    bad (codes "reply 3 0 queue") 1 bad_reply_line  -- a word too few
    ∷ bad (codes "reply 3 0 queue 0 0") 1 bad_reply_line  -- a word too many
    ∷ bad (codes "\nanswer 3 0 queue 0") 2 bad_reply_line  -- another command
    ∷ bad (codes "reply 3 0 pool 0") 1 bad_reply_line  -- another home
    ∷ bad (codes "reply 3 x queue 0") 1 bad_reply_line  -- no number
    ∷ bad (codes "reply 3 0 queue 4294967296") 1 bad_reply_line  -- a number of 33 bits
    ∷ bad (codes "reply 3 000000000000000000000 queue 0") 1 bad_reply_line  -- a number of 21 digits
    ∷ bad (codes "reply 9 0 queue") 1 bad_reply_line  -- before reply_undeclared
    ∷ bad (codes "%%") 1 bad_reply_line  -- a second mark
    ∷ []

bad_lines_right : AreRight bad_lines
unfolding reply_said reply_of id_of home_named reason_against line_read lines_read postings
bad_lines_right = refl

-- reason 2: something was not declared, or not in time
abbrev undeclared_lines : List Row
undeclared_lines =
    bad (codes "reply 4 0 queue 0") 1 reply_undeclared  -- the task
    ∷ bad (codes "reply 3 0 runner 2") 1 reply_undeclared  -- the runner
    ∷ bad (codes "reply 3 0 queue 4294967295") 1 reply_undeclared  -- the queue
    ∷ bad (codes "reply 0 1 queue 0") 1 reply_undeclared  -- the reply behind the task
    ∷ bad (codes "reply 1 1 queue 0") 1 reply_undeclared  -- the reply is the task
    ∷ bad (codes "reply 3 2 queue 1") 1 reply_undeclared  -- before posted twice
    ∷ []

undeclared_lines_right : AreRight undeclared_lines
unfolding reply_said reply_of id_of home_named reason_against line_read lines_read postings
undeclared_lines_right = refl

-- reason 3: the reply is posted already
abbrev posted_lines : List Row
posted_lines =
    bad (codes "reply 3 2 queue 0") 1 reply_posted_twice  -- by a step
    ∷ bad (codes "reply 3 0 queue 0\nreply 1 0 queue 0") 2 reply_posted_twice  -- as a reply of another task
    ∷ bad (codes "reply 3 1 runner 1\n\nreply 2 1 runner 0") 3 reply_posted_twice  -- before bad block
    ∷ []

posted_lines_right : AreRight posted_lines
unfolding reply_said reply_of id_of home_named reason_against line_read lines_read postings
posted_lines_right = refl

-- reason 4: the reply blocks where none may
abbrev block_lines : List Row
block_lines =
    bad (codes "reply 3 1 queue 0") 1 reply_bad_block  -- to a queue
    ∷ bad (codes "reply 3 0 queue 0\nreply 3 1 runner 0") 2 reply_bad_block  -- to a runner without `mayblock`
    ∷ []

block_lines_right : AreRight block_lines
unfolding reply_said reply_of id_of home_named reason_against line_read lines_read postings
block_lines_right = refl

-- reason 5: the script has 6 steps, so 262,138 replies fill it
full_right : is_full script 262138 ≡ true
full_right = refl

not_full_right : is_full script 262137 ≡ false
not_full_right = refl

-- ---- the script that replies make

abbrev replies : List Reply
replies = record { task = 3; reply = 1; home = Runner 1 } ∷ record { task = 1; reply = 0; home = Queue 0 } ∷ []

replies_right : replies_read script (codes "reply 3 1 runner 1\nreply 1 0 queue 0\n") ≡ Ok replies
unfolding reply_said reply_of id_of home_named reason_against line_read lines_read postings
replies_right = refl

-- task 1 posts task 0 at its end, and task 3 posts task 1
abbrev result : Plan
result = record script {
  tasks = (steps.Add 1 ∷ []) ∷ (steps.Block May ∷ steps.Unblock ∷ steps.Main 0 0 0 ∷ []) ∷ (steps.Add 2 ∷ [])
      ∷ (steps.Post 2 0 0 ∷ steps.Add 3 ∷ steps.Post 1 1 0 ∷ []) ∷ [];
}

result_right : IsElaborated script replies result
result_right = record {
  tasks_there = (omega arith, (omega arith, tt));
  task_count = refl;
  steps_added = added;
  rest_stays = refl;
}
  where
    added : (t : ℕ) (own : List Step) → slice_get script.tasks t ≡ Some own
        → slice_get result.tasks t ≡ Some (own ++ map reply_posting (replies_to t replies))
    added zero own is = subst (λ o. slice_get result.tasks 0 ≡ Some (o ++ map reply_posting (replies_to 0 replies))) (same_Some _ own is) refl
    added (suc zero) own is = subst (λ o. slice_get result.tasks 1 ≡ Some (o ++ map reply_posting (replies_to 1 replies))) (same_Some _ own is) refl
    added (suc (suc zero)) own is = subst (λ o. slice_get result.tasks 2 ≡ Some (o ++ map reply_posting (replies_to 2 replies))) (same_Some _ own is) refl
    added (suc (suc (suc zero))) own is = subst (λ o. slice_get result.tasks 3 ≡ Some (o ++ map reply_posting (replies_to 3 replies))) (same_Some _ own is) refl
    added (suc (suc (suc (suc t)))) own is = absurd (none-some own is)

-- a post in front of the steps is no reply
front : (tasks : List (List Step)) → slice_get tasks 1 ≡ Some (steps.Main 0 0 0 ∷ steps.Block May ∷ steps.Unblock ∷ [])
    → IsElaborated script replies (record script { tasks = tasks }) → ⊥
front tasks is made = let said = sym is ∙ made.steps_added 1 _ refl in cc
