-- What a line says whose words are right.
use Rattle.std.specs.Prelude.{ℕ, Bool, if◌then◌else◌, List, codes, Option, option_map, option_and_then}
use Rattle.script_model.specs.Words.{is_word}
use Rattle.line_places.specs.Words.{command_of, id_of, word_at}
use Rattle.task_reply.specs.declared.reply.Home.{Home}
use Rattle.task_reply.specs.declared.reply.Home.TheVariants.{Runner, Queue}
use Rattle.task_reply.specs.declared.reply.Reply.{Reply}

-- the line has the command of a reply
abbrev pub is_reply : List ℕ → Bool
is_reply line = is_word (command_of line) (codes "reply")

-- the number of 32 bits at a place, if there is one
abbrev pub id_at : List ℕ → ℕ → Option ℕ
id_at line place = option_and_then id_of (word_at line place)

-- where a reply is posted to
abbrev pub home_at : List ℕ → Option Home
home_at line =
    option_and_then (λ sort. option_map (λ id. if is_word sort (codes "runner") then Runner id else Queue id) (id_at line 5)) (word_at line 4)

-- the reply that a line says
abbrev pub reply_in : List ℕ → Option Reply
reply_in line =
    option_and_then (λ t. option_and_then (λ u. option_map (λ h. record { task = t; reply = u; home = h }) (home_at line)) (id_at line 3)) (id_at line 2)
