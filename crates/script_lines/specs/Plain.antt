-- What a line says that has no steps.
use Rattle.std.specs.Prelude.{ℕ, if◌then◌else◌, List, codes, Result}
use Rattle.script_model.specs.Words.{is_word}
use Rattle.script_lines.specs.declared.command.Command.{Command}
use Rattle.script_lines.specs.Said.{workers_said, groups_said, threshold_said, runner_said, queue_said, action_command_said}

-- a line, by its command, which is neither `task` nor `job`, and the words behind it
abbrev pub plain_said : List ℕ → List (List ℕ) → Result Command ℕ
plain_said name words =
    if is_word name (codes "workers") then workers_said words
    else (if is_word name (codes "groups") then groups_said words
    else (if is_word name (codes "threshold") then threshold_said words
    else (if is_word name (codes "runner") then runner_said words
    else (if is_word name (codes "queue") then queue_said words
    else action_command_said name words))))
