-- What a line gives behind a draft is what its command adds to that draft.
-- Cited by `Reader::read_text`, `lint_laws`.
use Rattle.std.proofs.Common.{◌≡◌, ℕ, Bool, true, false, cond, List, [], ◌∷◌, refl, sym, ◌∙◌, Result, Ok, Err}
use Rattle.std.specs.Prelude.{not, nat_lt, codes, drop, length}
use Rattle.task_base.specs.declared.script.Action.TheVariants.{Post, Main, Tick, Policy, Reprio, Fence, Unfence, Vote, Rank}
use Rattle.task_base.specs.declared.script.Action.TheVariants.{Close, Pump, Flush, StartJob, Join, Cancel, Shutdown}
use Rattle.task_base.specs.declared.limits.TheConstants.{MOST_WORKERS}
use Rattle.script_model.specs.Words.{words_of, is_word, begins_comment, is_all_ascii}
use Rattle.script_model.specs.Reasons.{◌>>=◌, ◌>>◌, ◌&◌, refuse, not_ascii, word_count, out_of_range}
use Rattle.value_words.specs.Words.{priority_named, behaviour_named, policy_named, fence_named, vote_named}
use Rattle.script_model.specs.Places.{said_at, name_at, ends_at, number_at, id_at, time_at, kind_named, may_block_at, steps_read}
use Rattle.script_model.specs.Draft.{Draft}
use Rattle.script_model.specs.Lines.{workers_line, groups_line, threshold_line, runner_line, queue_line, task_line, job_line, post_line, main_line, tick_line}
use Rattle.script_model.specs.Lines.{policy_line, reprio_line, fence_line, unfence_line, vote_line, rank_line, close_line, pump_line, flush_line}
use Rattle.script_model.specs.Lines.{start_job_line, join_line, cancel_line, shutdown_line, queue_command_read, action_command_read, command_read, words_read}
use Rattle.script_model.specs.Lines.{line_read}
use Rattle.script_lines.specs.declared.command.Command.{Command}
use Rattle.script_lines.specs.declared.command.Command.TheVariants as commands
use Rattle.script_lines.specs.declared.fault.LineFault.{LineFault}
use Rattle.script_lines.specs.declared.fault.LineFault.TheVariants.{Bad, Memory}
use Rattle.script_lines.specs.Saying.{Says}
use Rattle.script_lines.specs.Said.{workers_said, groups_said, threshold_said, runner_said, queue_said, task_said, job_said, post_said}
use Rattle.script_lines.specs.Said.{main_said, policy_said, reprio_said, fence_said, vote_said, rank_said, number_said, id_said, bare_said}
use Rattle.script_lines.specs.Said.{queue_command_said, action_command_said, command_said, words_said, line_said}
use Rattle.task_script.specs.Reader.{Fails}
use Rattle.task_script.specs.Added.{workers_added, groups_added, threshold_added, runner_added, queue_added, task_added, job_added}
use Rattle.task_script.specs.Added.{on_runner, on_queue, on_voter, job_start, on_job, shutdown_start, action_added, added}

-- ---- commands

-- what is made of a value, and then of that
then_then : {A B C : Type 0} (r : Result A ℕ) (f : A → Result B ℕ) (g : B → Result C ℕ) → ((r >>= f) >>= g) ≡ (r >>= λ x. f x >>= g)
then_then (Ok x) f g = refl
then_then (Err reason) f g = refl

-- a refusal, and then a value and what is made of it
refused_then : {A B : Type 0} (test : Bool) (reason : ℕ) (x : A) (g : A → Result B ℕ) → ((refuse test reason >> Ok x) >>= g) ≡ (refuse test reason >> g x)
refused_then true reason x g = refl
refused_then false reason x g = refl

-- the same behind a value
then_refused : {A B C : Type 0} (r : Result A ℕ) (test : A → Bool) (reason : ℕ) (f : A → B) (g : B → Result C ℕ)
    → ((r >>= λ x. refuse (test x) reason >> Ok (f x)) >>= g) ≡ (r >>= λ x. refuse (test x) reason >> g (f x))
then_refused (Ok x) test reason f g = refused_then (test x) reason (f x) g
then_refused (Err e) test reason f g = refl

-- the same on both branches
branch : {A B : Type 0} (b : Bool) (r s : Result A ℕ) (g : A → Result B ℕ) {r' s' : Result B ℕ} → r' ≡ (r >>= g) → s' ≡ (s >>= g)
    → cond b r' s' ≡ (cond b r s >>= g)
branch true r s g p q = p
branch false r s g p q = q

-- ---- each line

workers-read : (d : Draft) (words : List (List ℕ)) → workers_line d words ≡ (workers_said words >>= added d)
unfolding workers_line workers_said added workers_added
workers-read d words =
    sym (then_then (number_at 1 MOST_WORKERS words 0 & ends_at words 1)
    (λ x. Ok (commands.Workers x.0)) (added d))

groups-read : (d : Draft) (words : List (List ℕ)) → groups_line d words ≡ (groups_said words >>= added d)
unfolding groups_line groups_said added groups_added
groups-read d words =
    sym (then_refused (number_at 1 64 words 0 & number_at 1 64 words 1 & number_at 0 64 words 2 & ends_at words 3) (λ x. nat_lt x.0 x.1.0) out_of_range
    (λ x. commands.Groups x.0 x.1.0 x.1.1.0) (added d))

threshold-read : (d : Draft) (words : List (List ℕ)) → threshold_line d words ≡ (threshold_said words >>= added d)
unfolding threshold_line threshold_said added threshold_added
threshold-read d words =
    sym (then_then (time_at words 0 & ends_at words 1)
    (λ x. Ok (commands.Threshold x.0)) (added d))

runner-read : (d : Draft) (words : List (List ℕ)) → runner_line d words ≡ (runner_said words >>= added d)
unfolding runner_line runner_said added runner_added
runner-read d words =
    sym (then_then
    (id_at words 0 & said_at kind_named words 1 & name_at priority_named words 2 & name_at behaviour_named words 3 & may_block_at words 4 & ends_at words 5)
    (λ x. Ok (commands.Runner x.0 (record { kind = x.1.0; traits = record { priority = x.1.1.0; behaviour = x.1.1.1.0; may_block = x.1.1.1.1.0 } }))) (added d))

queue-read : (d : Draft) (words : List (List ℕ)) → queue_line d words ≡ (queue_said words >>= added d)
unfolding queue_line queue_said added queue_added
queue-read d words =
    sym (then_then (id_at words 0 & number_at 0 7 words 1 & number_at 0 16 words 2 & ends_at words 3)
    (λ x. Ok (commands.Queue x.0 (record { class = x.1.0; voters = x.1.1.0 }))) (added d))

task-read : (d : Draft) (words : List (List ℕ)) → task_line d words ≡ (task_said words >>= added d)
unfolding task_line task_said added task_added
task-read d words =
    sym (then_then (id_at words 0 & steps_read (drop 1 words))
    (λ x. Ok (commands.Task x.0 x.1)) (added d))

job-read : (d : Draft) (words : List (List ℕ)) → job_line d words ≡ (job_said words >>= added d)
unfolding job_line job_said added job_added
job-read d words =
    sym (then_then
    (id_at words 0 & name_at priority_named words 1 & name_at behaviour_named words 2 & number_at 0 65536 words 3 & number_at 1 64 words 4
    & steps_read (drop 5 words))
    (λ x. Ok (commands.Job x.0 (record { priority = x.1.0; behaviour = x.1.1.0; items = x.1.1.1.0; cap = x.1.1.1.1.0; steps = x.1.1.1.1.1 }))) (added d))

post-read : (d : Draft) (words : List (List ℕ)) → post_line d words ≡ (post_said words >>= added d)
unfolding post_line post_said added action_added
post-read d words =
    sym (then_then (id_at words 0 & id_at words 1 & time_at words 2 & ends_at words 3)
    (λ x. Ok (commands.Act (Post x.0 x.1.0 x.1.1.0))) (added d))

main-read : (d : Draft) (words : List (List ℕ)) → main_line d words ≡ (main_said words >>= added d)
unfolding main_line main_said added action_added
main-read d words =
    sym (then_then (id_at words 0 & id_at words 1 & time_at words 2 & ends_at words 3)
    (λ x. Ok (commands.Act (Main x.0 x.1.0 x.1.1.0))) (added d))

policy-read : (d : Draft) (words : List (List ℕ)) → policy_line d words ≡ (policy_said words >>= added d)
unfolding policy_line policy_said added action_added
policy-read d words =
    sym (then_then (name_at policy_named words 0 & ends_at words 1)
    (λ x. Ok (commands.Act (Policy x.0))) (added d))

reprio-read : (d : Draft) (words : List (List ℕ)) → reprio_line d words ≡ (reprio_said words >>= added d)
unfolding reprio_line reprio_said added action_added on_runner
reprio-read d words =
    sym (then_then (id_at words 0 & name_at priority_named words 1 & ends_at words 2)
    (λ x. Ok (commands.Act (Reprio x.0 x.1.0))) (added d))

fence-read : (d : Draft) (words : List (List ℕ)) → fence_line d words ≡ (fence_said words >>= added d)
unfolding fence_line fence_said added action_added on_queue
fence-read d words =
    sym (then_then (id_at words 0 & name_at fence_named words 1 & ends_at words 2)
    (λ x. Ok (commands.Act (Fence x.0 x.1.0))) (added d))

vote-read : (d : Draft) (words : List (List ℕ)) → vote_line d words ≡ (vote_said words >>= added d)
unfolding vote_line vote_said added action_added on_voter
vote-read d words =
    sym (then_then (id_at words 0 & number_at 0 255 words 1 & name_at vote_named words 2 & ends_at words 3)
    (λ x. Ok (commands.Act (Vote x.0 x.1.0 x.1.1.0))) (added d))

rank-read : (d : Draft) (words : List (List ℕ)) → rank_line d words ≡ (rank_said words >>= added d)
unfolding rank_line rank_said added action_added on_queue
rank-read d words =
    sym (then_then (id_at words 0 & number_at 0 7 words 1 & ends_at words 2)
    (λ x. Ok (commands.Act (Rank x.0 x.1.0))) (added d))

tick-read : (d : Draft) (words : List (List ℕ)) → tick_line d words ≡ (number_said Tick 1 65536 words >>= added d)
unfolding tick_line added action_added
tick-read d words =
    sym (then_then (number_at 1 65536 words 0 & ends_at words 1)
    (λ x. Ok (commands.Act (Tick x.0))) (added d))

pump-read : (d : Draft) (words : List (List ℕ)) → pump_line d words ≡ (number_said Pump 1 16384 words >>= added d)
unfolding pump_line added action_added
pump-read d words =
    sym (then_then (number_at 1 16384 words 0 & ends_at words 1)
    (λ x. Ok (commands.Act (Pump x.0))) (added d))

unfence-read : (d : Draft) (words : List (List ℕ)) → unfence_line d words ≡ (id_said Unfence words >>= added d)
unfolding unfence_line added action_added on_queue
unfence-read d words =
    sym (then_then (id_at words 0 & ends_at words 1)
    (λ x. Ok (commands.Act (Unfence x.0))) (added d))

close-read : (d : Draft) (words : List (List ℕ)) → close_line d words ≡ (id_said Close words >>= added d)
unfolding close_line added action_added on_queue
close-read d words =
    sym (then_then (id_at words 0 & ends_at words 1)
    (λ x. Ok (commands.Act (Close x.0))) (added d))

start-job-read : (d : Draft) (words : List (List ℕ)) → start_job_line d words ≡ (id_said StartJob words >>= added d)
unfolding start_job_line added action_added job_start
start-job-read d words =
    sym (then_then (id_at words 0 & ends_at words 1)
    (λ x. Ok (commands.Act (StartJob x.0))) (added d))

join-read : (d : Draft) (words : List (List ℕ)) → join_line d words ≡ (id_said Join words >>= added d)
unfolding join_line added action_added on_job
join-read d words =
    sym (then_then (id_at words 0 & ends_at words 1)
    (λ x. Ok (commands.Act (Join x.0))) (added d))

cancel-read : (d : Draft) (words : List (List ℕ)) → cancel_line d words ≡ (id_said Cancel words >>= added d)
unfolding cancel_line added action_added on_job
cancel-read d words =
    sym (then_then (id_at words 0 & ends_at words 1)
    (λ x. Ok (commands.Act (Cancel x.0))) (added d))

flush-read : (d : Draft) (words : List (List ℕ)) → flush_line d words ≡ (bare_said Flush words >>= added d)
unfolding flush_line added action_added
flush-read d words = sym (refused_then (nat_lt 0 (length words)) word_count (commands.Act Flush) (added d))

shutdown-read : (d : Draft) (words : List (List ℕ)) → shutdown_line d words ≡ (bare_said Shutdown words >>= added d)
unfolding shutdown_line added action_added shutdown_start
shutdown-read d words = sym (refused_then (nat_lt 0 (length words)) word_count (commands.Act Shutdown) (added d))

-- ---- commands

queue_command-read : (d : Draft) (name : List ℕ) (words : List (List ℕ)) → queue_command_read d name words ≡ (queue_command_said name words >>= added d)
unfolding queue_command_read queue_command_said
queue_command-read d name words =
    branch (is_word name (codes "tick")) _ _ (added d) (tick-read d words)
    (branch (is_word name (codes "fence")) _ _ (added d) (fence-read d words)
    (branch (is_word name (codes "unfence")) _ _ (added d) (unfence-read d words)
    (branch (is_word name (codes "vote")) _ _ (added d) (vote-read d words)
    (branch (is_word name (codes "rank")) _ _ (added d) (rank-read d words)
    (branch (is_word name (codes "close")) _ _ (added d) (close-read d words)
    (branch (is_word name (codes "pump")) _ _ (added d) (pump-read d words) refl))))))

action_command-read : (d : Draft) (name : List ℕ) (words : List (List ℕ)) → action_command_read d name words ≡ (action_command_said name words >>= added d)
unfolding action_command_read action_command_said
action_command-read d name words =
    branch (is_word name (codes "post")) _ _ (added d) (post-read d words)
    (branch (is_word name (codes "main")) _ _ (added d) (main-read d words)
    (branch (is_word name (codes "policy")) _ _ (added d) (policy-read d words)
    (branch (is_word name (codes "reprio")) _ _ (added d) (reprio-read d words)
    (branch (is_word name (codes "flush")) _ _ (added d) (flush-read d words)
    (branch (is_word name (codes "startjob")) _ _ (added d) (start-job-read d words)
    (branch (is_word name (codes "join")) _ _ (added d) (join-read d words)
    (branch (is_word name (codes "cancel")) _ _ (added d) (cancel-read d words)
    (branch (is_word name (codes "shutdown")) _ _ (added d) (shutdown-read d words) (queue_command-read d name words)))))))))

command-read : (d : Draft) (name : List ℕ) (words : List (List ℕ)) → command_read d name words ≡ (command_said name words >>= added d)
unfolding command_read command_said
command-read d name words =
    branch (is_word name (codes "workers")) _ _ (added d) (workers-read d words)
    (branch (is_word name (codes "groups")) _ _ (added d) (groups-read d words)
    (branch (is_word name (codes "threshold")) _ _ (added d) (threshold-read d words)
    (branch (is_word name (codes "runner")) _ _ (added d) (runner-read d words)
    (branch (is_word name (codes "queue")) _ _ (added d) (queue-read d words)
    (branch (is_word name (codes "task")) _ _ (added d) (task-read d words)
    (branch (is_word name (codes "job")) _ _ (added d) (job-read d words) (action_command-read d name words)))))))

-- ---- a line

-- behind a refusal
refused_read : {A B : Type 0} (test : Bool) (reason : ℕ) (r : Result A ℕ) (g : A → Result B ℕ) {s : Result B ℕ} → s ≡ (r >>= g)
    → (refuse test reason >> s) ≡ ((refuse test reason >> r) >>= g)
refused_read true reason r g e = refl
refused_read false reason r g e = e

words-read : (d : Draft) (line : List ℕ) (words : List (List ℕ)) → words_read d line words ≡ (words_said line words >>= added d)
unfolding words_read words_said added
words-read d line [] = refl
words-read d line (name ∷ words) =
    branch (begins_comment name) _ _ (added d) refl
    (refused_read (not (is_all_ascii line)) not_ascii (command_said name words) (added d) (command-read d name words))

-- what a line gives behind a draft: what it says, added to the draft
pub line-read : (d : Draft) (line : List ℕ) → line_read d line ≡ (line_said line >>= added d)
line-read d line = words-read d line (words_of line)

-- a line that says nothing because of a fault gives nothing because of that fault
pub line-fails : (fault : LineFault) (d : Draft) (line : List ℕ) → Says (Err fault) (line_said line) → Fails fault (line_read d line)
line-fails (Bad reason) d line said = rw (line-read d line, said) refl
line-fails (Memory error) d line said = tt

-- a line that says a command gives what that adds
pub line-adds : (d : Draft) (line : List ℕ) (command : Command) → line_said line ≡ Ok command → line_read d line ≡ added d command
line-adds d line command said = line-read d line ∙ rw said refl
