-- Logs that were written out by hand, checked against the definitions.
use Rattle.std.proofs.Common.{◌≡◌, ℕ, true, false, None, Some, List, [], ◌∷◌, refl, arith}
use Rattle.std.specs.Prelude.{codes, map}
use Rattle.std.specs.Fmt.{digits}
use Rattle.task_traits.specs.declared.traits.Priority.TheVariants.{BestEffort, UserVisible, UserBlocking}
use Rattle.task_base.specs.declared.entry.Entry.{Entry}
use Rattle.task_base.specs.declared.entry.Kind.{Kind}
use Rattle.task_base.specs.declared.entry.Kind.TheVariants as kinds
use Rattle.task_base.specs.declared.entry.JobReply.TheVariants as replies
use Rattle.task_base.specs.declared.policy.Policy.TheVariants.{All, Foreground, Nothing}
use Rattle.task_base.specs.declared.script.FenceAt.TheVariants.{Now, Start}
use Rattle.task_base.specs.declared.step.Scope.TheVariants.{May, Will}
use Rattle.task_base.specs.Entries.{entry_by}
use Rattle.log_model.specs.declared.version.Version.TheVariants.{One, Two}
use Rattle.log_model.specs.LogText.{line_of, log_lines, log_text, version_of, json_of, log_json, IsLogLine}

-- a kind, with its line and its JSON where seat 3 makes it at place 12
record Row : Type 0 where
  kind : Kind
  line : List ℕ
  json : List ℕ

abbrev row : Kind → List ℕ → List ℕ → Row
row kind line json = record { kind = kind; line = line; json = json }

-- a row or more for each kind
abbrev rows : List Row
rows =
    row (kinds.Post 4 5 6 true) (codes "12 3 post 4 5 6 ok\n") (codes "[12,3,\"post\",4,5,6,\"ok\"]")
    ∷ row (kinds.Post 4 5 6 false) (codes "12 3 post 4 5 6 no\n") (codes "[12,3,\"post\",4,5,6,\"no\"]")
    ∷ row (kinds.Main 4 5 6 true) (codes "12 3 main 4 5 6 ok\n") (codes "[12,3,\"main\",4,5,6,\"ok\"]")
    ∷ row (kinds.Main 4 5 6 false) (codes "12 3 main 4 5 6 no\n") (codes "[12,3,\"main\",4,5,6,\"no\"]")
    ∷ row (kinds.Tick 40) (codes "12 3 tick 40\n") (codes "[12,3,\"tick\",40]")
    ∷ row (kinds.Take 4 5 6) (codes "12 3 take 4 5 6\n") (codes "[12,3,\"take\",4,5,6]")
    ∷ row (kinds.End 4 5) (codes "12 3 end 4 5\n") (codes "[12,3,\"end\",4,5]")
    ∷ row (kinds.Enter 4 May) (codes "12 3 block 4 may\n") (codes "[12,3,\"block\",4,\"may\"]")
    ∷ row (kinds.Enter 4 Will) (codes "12 3 block 4 will\n") (codes "[12,3,\"block\",4,\"will\"]")
    ∷ row (kinds.Leave 4) (codes "12 3 unblock 4\n") (codes "[12,3,\"unblock\",4]")
    ∷ row (kinds.Policy All) (codes "12 3 policy all\n") (codes "[12,3,\"policy\",\"all\"]")
    ∷ row (kinds.Policy Foreground) (codes "12 3 policy foreground\n") (codes "[12,3,\"policy\",\"foreground\"]")
    ∷ row (kinds.Policy Nothing) (codes "12 3 policy none\n") (codes "[12,3,\"policy\",\"none\"]")
    ∷ row (kinds.Reprio 4 BestEffort) (codes "12 3 reprio 4 best_effort\n") (codes "[12,3,\"reprio\",4,\"best_effort\"]")
    ∷ row (kinds.Reprio 4 UserVisible) (codes "12 3 reprio 4 user_visible\n") (codes "[12,3,\"reprio\",4,\"user_visible\"]")
    ∷ row (kinds.Reprio 4 UserBlocking) (codes "12 3 reprio 4 user_blocking\n") (codes "[12,3,\"reprio\",4,\"user_blocking\"]")
    ∷ row (kinds.Fence 4 Now) (codes "12 3 fence 4 now\n") (codes "[12,3,\"fence\",4,\"now\"]")
    ∷ row (kinds.Fence 4 Start) (codes "12 3 fence 4 start\n") (codes "[12,3,\"fence\",4,\"start\"]")
    ∷ row (kinds.Unfence 4) (codes "12 3 unfence 4\n") (codes "[12,3,\"unfence\",4]")
    ∷ row (kinds.Vote 4 5 true) (codes "12 3 vote 4 5 on\n") (codes "[12,3,\"vote\",4,5,\"on\"]")
    ∷ row (kinds.Vote 4 5 false) (codes "12 3 vote 4 5 off\n") (codes "[12,3,\"vote\",4,5,\"off\"]")
    ∷ row (kinds.Rank 4 5) (codes "12 3 rank 4 5\n") (codes "[12,3,\"rank\",4,5]")
    ∷ row (kinds.Close 4) (codes "12 3 close 4\n") (codes "[12,3,\"close\",4]")
    ∷ row (kinds.MainTake 4 5 6) (codes "12 3 maintake 4 5 6\n") (codes "[12,3,\"maintake\",4,5,6]")
    ∷ row (kinds.MainEnd 4 5) (codes "12 3 mainend 4 5\n") (codes "[12,3,\"mainend\",4,5]")
    ∷ row kinds.MainNone (codes "12 3 mainnone\n") (codes "[12,3,\"mainnone\"]")
    ∷ row (kinds.JobPost 4 true) (codes "12 3 startjob 4 ok\n") (codes "[12,3,\"startjob\",4,\"ok\"]")
    ∷ row (kinds.JobPost 4 false) (codes "12 3 startjob 4 no\n") (codes "[12,3,\"startjob\",4,\"no\"]")
    ∷ row (kinds.JobTake 4 5 6) (codes "12 3 jobtake 4 5 6\n") (codes "[12,3,\"jobtake\",4,5,6]")
    ∷ row (kinds.JobStep 4 5 6 7 (Some 8)) (codes "12 3 jobstep 4 5 6 7 8\n") (codes "[12,3,\"jobstep\",4,5,6,7,8]")
    ∷ row (kinds.JobStep 4 5 6 7 None) (codes "12 3 jobstep 4 5 6 7 -\n") (codes "[12,3,\"jobstep\",4,5,6,7,\"-\"]")
    ∷ row (kinds.JobCancel 4) (codes "12 3 cancel 4\n") (codes "[12,3,\"cancel\",4]")
    ∷ row (kinds.Cancelled 4) (codes "12 3 cancelled 4\n") (codes "[12,3,\"cancelled\",4]")
    ∷ row (kinds.Joined 4 (replies.Finished 5)) (codes "12 3 joined 4 done 5\n") (codes "[12,3,\"joined\",4,\"done\",5]")
    ∷ row (kinds.Joined 4 replies.Refused) (codes "12 3 joined 4 refused\n") (codes "[12,3,\"joined\",4,\"refused\"]")
    ∷ row (kinds.Joined 4 replies.Cancelled) (codes "12 3 joined 4 cancelled\n") (codes "[12,3,\"joined\",4,\"cancelled\"]")
    ∷ row (kinds.Joined 4 replies.Stopped) (codes "12 3 joined 4 stopped\n") (codes "[12,3,\"joined\",4,\"stopped\"]")
    ∷ row kinds.Idle (codes "12 3 idle\n") (codes "[12,3,\"idle\"]")
    ∷ row kinds.Shutdown (codes "12 3 shutdown\n") (codes "[12,3,\"shutdown\"]")
    ∷ row kinds.Done (codes "12 3 done\n") (codes "[12,3,\"done\"]")
    ∷ []

each_line : map (λ r. line_of 12 (entry_by 3 r.kind)) rows ≡ map (λ r. r.line) rows
unfolding digits
each_line = refl

each_json : map (λ r. json_of 12 (entry_by 3 r.kind)) rows ≡ map (λ r. r.json) rows
unfolding digits
each_json = refl

-- ---- one task on one runner: posted by seat 0, run by seat 1

abbrev first_run : List Entry
first_run = entry_by 0 (kinds.Post 0 0 0 true) ∷ entry_by 1 (kinds.Take 0 0 0) ∷ entry_by 1 (kinds.End 0 5) ∷ entry_by 0 kinds.Idle ∷ []

first_run_lines : log_lines first_run ≡ codes "0 0 post 0 0 0 ok\n1 1 take 0 0 0\n2 1 end 0 5\n3 0 idle\n"
unfolding log_lines digits
first_run_lines = refl

first_run_text : log_text first_run ≡ codes "taskenv log 2\n0 0 post 0 0 0 ok\n1 1 take 0 0 0\n2 1 end 0 5\n3 0 idle\ntotal 4\n"
unfolding log_text log_lines digits
first_run_text = refl

first_run_json : log_json first_run ≡ codes "[[0,0,\"post\",0,0,0,\"ok\"],[1,1,\"take\",0,0,0],[2,1,\"end\",0,5],[3,0,\"idle\"]]"
unfolding log_json digits
first_run_json = refl

-- ---- the largest numbers of a job's step

last_step : log_lines (entry_by 4294967295 (kinds.JobStep 4294967295 4294967295 4294967295 18446744073709551615 (Some 4294967295)) ∷ [])
    ≡ codes "0 4294967295 jobstep 4294967295 4294967295 4294967295 18446744073709551615 4294967295\n"
unfolding log_lines digits
last_step = refl

-- ---- ten entries: the number of the last line has two digits

abbrev ten_entries : List Entry
ten_entries = map (λ seat. entry_by seat kinds.Idle) (0 ∷ 1 ∷ 2 ∷ 3 ∷ 4 ∷ 5 ∷ 6 ∷ 7 ∷ 8 ∷ 9 ∷ [])

ten_entries_text : log_text ten_entries
    ≡ codes "taskenv log 2\n0 0 idle\n1 1 idle\n2 2 idle\n3 3 idle\n4 4 idle\n5 5 idle\n6 6 idle\n7 7 idle\n8 8 idle\n9 9 idle\ntotal 10\n"
unfolding log_text log_lines digits
ten_entries_text = refl

-- ---- the empty log

empty_lines : log_lines [] ≡ []
unfolding log_lines
empty_lines = refl

empty_text : log_text [] ≡ codes "taskenv log 2\ntotal 0\n"
unfolding log_text log_lines digits
empty_text = refl

empty_json : log_json [] ≡ codes "[]"
unfolding log_json
empty_json = refl

-- ---- a text is read by version 2 where its first line is the head, with its line feed

two_of_head : version_of (codes "taskenv log 2\n0 0 idle\n") ≡ Two
unfolding version_of
two_of_head = refl

one_of_others : map version_of ([] ∷ codes "0 0 idle\n" ∷ codes "taskenv log 2" ∷ codes "taskenv log 20\n" ∷ codes "0 taskenv log 2\n" ∷ [])
    ≡ One ∷ One ∷ One ∷ One ∷ One ∷ []
unfolding version_of
one_of_others = refl

-- ---- a class of 8 bits is a log line, a larger one is none

small_class : IsLogLine 0 (codes "0 0 rank 0 255\n") (entry_by 0 (kinds.Rank 0 255))
unfolding digits
small_class = record { same = refl; fits = record { seat = omega arith; kind = (omega arith, omega arith) } }

no_large_class : (line : List ℕ) → IsLogLine 0 line (entry_by 0 (kinds.Rank 0 256)) → ⊥
no_large_class line h = omega (arith, h.fits.kind.1)

-- a place has no zeros in front
zeros_are_no_line : IsLogLine 0 (codes "00 0 idle\n") (entry_by 0 kinds.Idle) → ⊥
unfolding digits
zeros_are_no_line h = differ h.same
  where
    differ : codes "00 0 idle\n" ≡ codes "0 0 idle\n" → ⊥
    differ e = cc
