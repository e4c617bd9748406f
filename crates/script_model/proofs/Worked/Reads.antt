-- Whole scripts, each by its text, and back.
use Rattle.std.proofs.Common.{ℕ, true, false, List, [], ◌∷◌, ◌++◌, refl}
use Rattle.std.specs.Prelude.{codes}
use Rattle.task_base.specs.Plan.{Plan}
use Rattle.task_traits.specs.declared.traits.Priority.TheVariants.{BestEffort, UserVisible, UserBlocking}
use Rattle.task_traits.specs.declared.traits.Behaviour.TheVariants.{ContinueOnShutdown, SkipOnShutdown, BlockShutdown}
use Rattle.task_base.specs.declared.policy.Policy.TheVariants.{All, Foreground, Nothing}
use Rattle.task_base.specs.declared.step.Scope.TheVariants.{May, Will}
use Rattle.task_base.specs.declared.step.Step.TheVariants.{Add, Mul, Set, Post as PostStep, Main as MainStep, Block, Unblock}
use Rattle.task_base.specs.declared.script.RunnerKind.TheVariants.{Parallel, Sequenced, Single}
use Rattle.task_base.specs.declared.script.FenceAt.TheVariants.{Now, Start}
use Rattle.task_base.specs.declared.script.Action.TheVariants.{Post, Main, Tick, Policy, Reprio, Fence, Unfence, Vote, Rank}
use Rattle.task_base.specs.declared.script.Action.TheVariants.{Close, Pump, Flush, StartJob, Join, Cancel, Shutdown}
use Rattle.script_model.proofs.Worked.Tables.{opened, AreRead, AreWritten, AreValid, AreBound}

-- no bytes are the script that has the defaults and nothing else
abbrev default_script : Plan
default_script = record {
  workers = 2;
  foreground = 4;
  foreground_best = 2;
  background = 0;
  threshold = 1000000;
  runners = [];
  queues = [];
  tasks = [];
  jobs = [];
  actions = [];
  is_open = false;
}

-- one task in one sequence
abbrev first_script : Plan
first_script = record default_script {
  workers = 1;
  runners = record { kind = Sequenced; traits = record { priority = UserVisible; behaviour = SkipOnShutdown; may_block = false } } ∷ [];
  tasks = (Add 5 ∷ []) ∷ [];
  actions = Post 0 0 0 ∷ Flush ∷ [];
}

-- a script with something of each sort
abbrev page_load : Plan
page_load = record {
  workers = 4;
  foreground = 4;
  foreground_best = 2;
  background = 1;
  threshold = 1000;
  runners =
      record { kind = Parallel; traits = record { priority = UserVisible; behaviour = SkipOnShutdown; may_block = true } }
      ∷ record { kind = Sequenced; traits = record { priority = UserBlocking; behaviour = BlockShutdown; may_block = false } }
      ∷ record { kind = Single 2; traits = record { priority = BestEffort; behaviour = ContinueOnShutdown; may_block = false } }
      ∷ [];
  queues = record { class = 1; voters = 1 } ∷ record { class = 4; voters = 0 } ∷ [];
  tasks =
      (Add 1 ∷ [])
      ∷ (Add 2 ∷ [])
      ∷ (Block May ∷ Add 3 ∷ Unblock ∷ MainStep 0 0 0 ∷ [])
      ∷ (Add 4 ∷ PostStep 1 1 0 ∷ [])
      ∷ (Set 9 ∷ [])
      ∷ (Mul 2 ∷ [])
      ∷ (Add 5 ∷ [])
      ∷ [];
  jobs = record { priority = UserVisible; behaviour = BlockShutdown; items = 32; cap = 4; steps = Mul 3 ∷ Add 1 ∷ [] } ∷ [];
  actions = Main 3 1 0 ∷ Main 4 0 5 ∷ Post 2 0 0 ∷ Post 5 1 0 ∷ Post 6 2 0 ∷ StartJob 0 ∷ Pump 2 ∷ Tick 2 ∷ Join 0 ∷ Flush ∷ Pump 4 ∷ Shutdown ∷ [];
  is_open = false;
}

-- its text, without the comment at its head
abbrev page_load_text : List ℕ
page_load_text =
    codes "workers 4\ngroups 4 2 1\nthreshold 1000\nrunner 0 parallel user_visible skip mayblock\n"
    ++ codes "runner 1 sequenced user_blocking block\nrunner 2 single:2 best_effort continue\nqueue 0 1 1\nqueue 1 4 0\n"
    ++ codes "task 0 add 1\ntask 1 add 2\ntask 2 block may ; add 3 ; unblock ; main 0 0 0\ntask 3 add 4 ; post 1 1 0\n"
    ++ codes "task 4 set 9\ntask 5 mul 2\ntask 6 add 5\njob 0 user_visible block 32 4 mul 3 ; add 1\nmain 3 1 0\n"
    ++ codes "main 4 0 5\npost 2 0 0\npost 5 1 0\npost 6 2 0\nstartjob 0\npump 2\ntick 2\njoin 0\nflush\npump 4\nshutdown\n"

-- each action
abbrev all_actions : Plan
all_actions = record default_script {
  queues = record { class = 7; voters = 16 } ∷ [];
  jobs = record { priority = BestEffort; behaviour = ContinueOnShutdown; items = 0; cap = 64; steps = [] } ∷ [];
  tasks = [] ∷ [];
  runners = record { kind = Sequenced; traits = record { priority = BestEffort; behaviour = BlockShutdown; may_block = true } } ∷ [];
  actions =
      Post 0 0 1000000000000 ∷ Tick 65535 ∷ Policy Nothing ∷ Reprio 0 UserBlocking ∷ Fence 0 Now ∷ Fence 0 Start ∷ Unfence 0 ∷ Vote 0 15 true
      ∷ Vote 0 0 false ∷ Rank 0 7 ∷ Close 0 ∷ Pump 16384 ∷ Flush ∷ StartJob 0 ∷ Join 0 ∷ Cancel 0 ∷ Shutdown ∷ [];
}

-- its text, with the declarations in another order than the canonical one
abbrev all_actions_text : List ℕ
all_actions_text =
    codes "job 0 best_effort continue 0 64\ntask 0\nqueue 0 7 16\nrunner 0 sequenced best_effort block mayblock\n"
    ++ codes "post 0 0 1000000000000\ntick 65535\npolicy none\nreprio 0 user_blocking\nfence 0 now\nfence 0 start\nunfence 0\nvote 0 15 on\n"
    ++ codes "vote 0 0 off\nrank 0 7\nclose 0\npump 16384\nflush\nstartjob 0\njoin 0\ncancel 0\nshutdown\n"

-- its canonical text
abbrev all_actions_written : List ℕ
all_actions_written =
    codes "workers 2\ngroups 4 2 0\nthreshold 1000000\nrunner 0 sequenced best_effort block mayblock\nqueue 0 7 16\ntask 0\n"
    ++ codes "job 0 best_effort continue 0 64\n"
    ++ codes "post 0 0 1000000000000\ntick 65535\npolicy none\nreprio 0 user_blocking\nfence 0 now\nfence 0 start\nunfence 0\nvote 0 15 on\n"
    ++ codes "vote 0 0 off\nrank 0 7\nclose 0\npump 16384\nflush\nstartjob 0\njoin 0\ncancel 0\nshutdown\n"

-- each number at an edge of its range
abbrev edges : Plan
edges = record {
  workers = 64;
  foreground = 64;
  foreground_best = 64;
  background = 64;
  threshold = 1000000000000;
  runners = record { kind = Single 64; traits = record { priority = BestEffort; behaviour = ContinueOnShutdown; may_block = true } }
      ∷ record { kind = Single 1; traits = record { priority = UserBlocking; behaviour = BlockShutdown; may_block = false } } ∷ [];
  queues = record { class = 7; voters = 16 } ∷ record { class = 0; voters = 0 } ∷ [];
  tasks = [] ∷ (Set 18446744073709551615 ∷ Mul 0 ∷ []) ∷ (Block Will ∷ PostStep 0 1 1000000000000 ∷ Unblock ∷ Block May ∷ Unblock ∷ MainStep 1 1 1 ∷ []) ∷ [];
  jobs = record { priority = BestEffort; behaviour = ContinueOnShutdown; items = 65536; cap = 64; steps = [] }
      ∷ record { priority = UserBlocking; behaviour = SkipOnShutdown; items = 0; cap = 1; steps = Add 18446744073709551615 ∷ [] } ∷ [];
  actions =
      Post 2 0 0 ∷ Policy All ∷ Policy Foreground ∷ Reprio 1 BestEffort ∷ Reprio 0 UserVisible ∷ Rank 1 0 ∷ Vote 0 15 false ∷ Tick 65536 ∷ Pump 1 ∷ StartJob 1
      ∷ Cancel 1 ∷ Cancel 1 ∷ Join 1 ∷ Shutdown ∷ Fence 1 Start ∷ Fence 0 Now ∷ [];
  is_open = false;
}

abbrev edges_text : List ℕ
edges_text =
    codes "workers 64\ngroups 64 64 64\nthreshold 1000000000000\nrunner 0 single:64 best_effort continue mayblock\n"
    ++ codes "runner 1 single:1 user_blocking block\nqueue 0 7 16\nqueue 1 0 0\ntask 0\n"
    ++ codes "task 1 set 18446744073709551615 ; mul 0\n"
    ++ codes "task 2 block will ; post 0 1 1000000000000 ; unblock ; block may ; unblock ; main 1 1 1\n"
    ++ codes "job 0 best_effort continue 65536 64\njob 1 user_blocking skip 0 1 add 18446744073709551615\npost 2 0 0\n"
    ++ codes "policy all\npolicy foreground\nreprio 1 best_effort\nreprio 0 user_visible\nrank 1 0\nvote 0 15 off\ntick 65536\npump 1\nstartjob 1\n"
    ++ codes "cancel 1\ncancel 1\njoin 1\nshutdown\nfence 1 start\nfence 0 now\n"

-- ---- the tables

-- texts, and the scripts that they are
abbrev readings : List (List ℕ × Plan)
readings =
    ([], default_script)
    ∷ (codes "workers 1\nrunner 0 sequenced user_visible skip\ntask 0 add 5\npost 0 0 0\nflush\n", first_script)
    -- comments, blank lines, carriage returns, runs of blanks, zeros in front, and no line feed at the end
    ∷ (codes "# first\r\n\r\n  workers\t01\n \t\nrunner 00 sequenced  user_visible skip\r\ntask 0 add 005\npost 0 0 0\nflush", first_script)
    ∷ (codes "# a page load\n" ++ page_load_text, page_load)
    ∷ (all_actions_text, all_actions)
    ∷ (edges_text, edges)
    ∷ []

readings_right : AreRead readings
unfolding opened
readings_right = refl

-- scripts, and their canonical texts
abbrev writings : List (Plan × List ℕ)
writings =
    (default_script, codes "workers 2\ngroups 4 2 0\nthreshold 1000000\n")
    ∷ (page_load, page_load_text)
    ∷ (all_actions, all_actions_written)
    ∷ (edges, edges_text)
    ∷ []

writings_right : AreWritten writings
unfolding opened
writings_right = refl

-- each of them is valid
all_valid : AreValid (default_script ∷ first_script ∷ page_load ∷ all_actions ∷ edges ∷ [])
unfolding opened
all_valid = refl

-- For `all_actions`: 2 for the task, 65,535 ticks, 2 each for `cancel` and `shutdown`, and one for each of the 14
-- others.
all_bound : AreBound ((page_load, 96) ∷ (all_actions, 65555) ∷ (edges, 196638) ∷ [])
all_bound = refl
