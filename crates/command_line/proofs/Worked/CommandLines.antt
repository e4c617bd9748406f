-- Command lines, with the command that each is, or none.
use Rattle.std.proofs.Common.{◌≡◌, ℕ, true, false, List, [], ◌∷◌, map, codes, refl, Option, Some, None}
use Rattle.std.specs.Fmt.{digits}
use Rattle.clap.proofs.OnLiterals.{clap_on_literals}
use Rattle.command_line.specs.declared.words.Command.{Command}
use Rattle.command_line.specs.declared.words.Command.TheVariants.{Run, Simulate, Check, CheckOpen, Explain, ExplainOpen, Arrange, ArrangeOpen}
use Rattle.command_line.specs.declared.words.Command.TheVariants.{Reply, Trace, TraceOpen, Nest, Lint, Generate, Bench}
use Rattle.command_line.specs.declared.options.Favour.TheVariants as favours
use Rattle.command_line.specs.declared.words.Linted.TheVariants as linted
use Rattle.command_line.specs.Options.{everything, number_named}
use Rattle.command_line.specs.CommandLine.{command_of}

-- the words behind the program's name, and the command that they are, if they are one
abbrev Row : Type 0
Row = List (List ℕ) × Option Command

-- the words are this command
abbrev good : List (List ℕ) → Command → Row
good words command = (words, Some command)

-- the words are none
abbrev bad : List (List ℕ) → Row
bad words = (words, None)

-- each line is the command that its row says, or none
abbrev AreRight : List Row → Type 0
AreRight rows = map (λ row. command_of (codes "taskenv" ∷ row.0)) rows ≡ map (λ row. row.1) rows

abbrev commands : List Row
commands =
    good (codes "run" ∷ []) (Run None false None)
    ∷ good (codes "run" ∷ codes "--json" ∷ []) (Run None true None)
    ∷ good (codes "--json" ∷ codes "run" ∷ []) (Run None true None)  -- before the mode
    ∷ good (codes "run" ∷ codes "--step" ∷ codes "10" ∷ []) (Run (Some 10) false None)
    ∷ good (codes "run" ∷ codes "--step=10" ∷ []) (Run (Some 10) false None)  -- as one word
    ∷ good (codes "run" ∷ codes "--step" ∷ codes "1000000000000" ∷ codes "--json" ∷ []) (Run (Some 1000000000000) true None)  -- the greatest step
    ∷ good (codes "--" ∷ codes "run" ∷ []) (Run None false None)  -- behind `--`, which ends the options
    ∷ good (codes "check" ∷ []) (Check false)
    ∷ good (codes "check" ∷ codes "--prefix" ∷ []) (Check true)
    ∷ good (codes "--prefix" ∷ codes "check" ∷ []) (Check true)  -- before the mode
    ∷ good (codes "check" ∷ codes "--open" ∷ []) (CheckOpen false)
    ∷ good (codes "--open" ∷ codes "check" ∷ codes "--prefix" ∷ []) (CheckOpen true)
    ∷ good (codes "explain" ∷ codes "--open" ∷ []) (ExplainOpen false false)
    ∷ good (codes "explain" ∷ codes "--json" ∷ codes "--open" ∷ codes "--prefix" ∷ []) (ExplainOpen true true)
    ∷ good (codes "arrange" ∷ codes "--open" ∷ codes "--most" ∷ codes "5" ∷ []) (ArrangeOpen false 5)
    ∷ good (codes "trace" ∷ codes "--open" ∷ codes "--full" ∷ []) (TraceOpen true false)
    ∷ good (codes "explain" ∷ []) (Explain false false)
    ∷ good (codes "explain" ∷ codes "--json" ∷ []) (Explain true false)
    ∷ good (codes "explain" ∷ codes "--prefix" ∷ []) (Explain false true)
    ∷ good (codes "--prefix" ∷ codes "explain" ∷ codes "--json" ∷ []) (Explain true true)  -- before the mode
    ∷ good (codes "arrange" ∷ []) (Arrange false 10000000)
    ∷ good (codes "arrange" ∷ codes "--prefix" ∷ codes "--most" ∷ codes "1" ∷ []) (Arrange true 1)
    ∷ good (codes "--most=1000000000000" ∷ codes "arrange" ∷ []) (Arrange false 1000000000000)  -- the most
    ∷ good (codes "reply" ∷ []) Reply
    ∷ good (codes "trace" ∷ []) (Trace false false)
    ∷ good (codes "trace" ∷ codes "--full" ∷ []) (Trace true false)
    ∷ good (codes "--full" ∷ codes "trace" ∷ codes "--prefix" ∷ []) (Trace true true)
    ∷ good (codes "trace" ∷ codes "--prefix" ∷ []) (Trace false true)
    ∷ good (codes "nest" ∷ []) Nest
    ∷ good (codes "lint" ∷ []) (Lint linted.Script)
    ∷ good (codes "lint" ∷ codes "--replies" ∷ []) (Lint linted.Replies)
    ∷ good (codes "--nest" ∷ codes "lint" ∷ []) (Lint linted.Nest)  -- before the mode
    ∷ []

commands_right : AreRight commands
unfolding clap_on_literals digits number_named command_of
commands_right = refl

abbrev made : List Row
made =
    good (codes "gen" ∷ []) (Generate 0 16 None)  -- the usual number and size
    ∷ good (codes "gen" ∷ codes "--number" ∷ codes "0" ∷ codes "--size" ∷ codes "2" ∷ []) (Generate 0 2 None)
    ∷ good (codes "--size" ∷ codes "1" ∷ codes "gen" ∷ []) (Generate 0 1 None)  -- before the mode
    ∷ good (codes "bench" ∷ codes "--number" ∷ codes "18446744073709551615" ∷ []) (Bench 18446744073709551615 16 0)  -- the greatest number
    ∷ good (codes "bench" ∷ codes "--size=8192" ∷ []) (Bench 0 8192 0)  -- the greatest size
    ∷ []

made_right : AreRight made
unfolding clap_on_literals digits number_named command_of
made_right = refl

-- a wide script, with what it has
abbrev wide : List Row
wide =
    good (codes "gen" ∷ codes "--wide" ∷ []) (Generate 0 16 (Some everything))
    ∷ good (codes "--wide" ∷ codes "gen" ∷ codes "--size=64" ∷ codes "--number" ∷ codes "7" ∷ []) (Generate 7 64 (Some everything))
    ∷ good (codes "gen" ∷ codes "--wide" ∷ codes "--no-jobs" ∷ []) (Generate 0 16 (Some (record everything { jobs = false })))
    ∷ good (codes "gen" ∷ codes "--no-main" ∷ codes "--wide" ∷ []) (Generate 0 16 (Some (record everything { main = false })))  -- before it
    ∷ good (codes "gen" ∷ codes "--wide" ∷ codes "--no-delays" ∷ codes "--no-shutdown" ∷ [])
    (Generate 0 16 (Some (record everything { delays = false; shutdown = false })))
    ∷ good (codes "gen" ∷ codes "--wide" ∷ codes "--no-scopes" ∷ []) (Generate 0 16 (Some (record everything { scopes = false })))
    ∷ []

wide_right : AreRight wide
unfolding clap_on_literals digits number_named command_of
wide_right = refl

abbrev bad_wide : List Row
bad_wide =
    bad (codes "gen" ∷ codes "--no-jobs" ∷ [])  -- of a script that is not wide
    ∷ bad (codes "gen" ∷ codes "--no-shutdown" ∷ codes "--size" ∷ codes "4" ∷ [])
    ∷ bad (codes "gen" ∷ codes "--wide" ∷ codes "--wide" ∷ [])  -- twice
    ∷ bad (codes "gen" ∷ codes "--wide" ∷ codes "--no-main" ∷ codes "--no-main" ∷ [])  -- twice
    ∷ bad (codes "gen" ∷ codes "--wide=yes" ∷ [])  -- a flag takes no value
    ∷ bad (codes "gen" ∷ codes "--wide" ∷ codes "--no-tasks" ∷ [])
    ∷ bad (codes "gen" ∷ codes "--wide" ∷ codes "--seed" ∷ codes "1" ∷ [])
    ∷ bad (codes "bench" ∷ codes "--wide" ∷ [])
    ∷ bad (codes "run" ∷ codes "--wide" ∷ [])
    ∷ bad (codes "simulate" ∷ codes "--no-delays" ∷ [])
    ∷ bad (codes "nest" ∷ codes "--no-scopes" ∷ [])
    ∷ []

bad_wide_right : AreRight bad_wide
unfolding clap_on_literals digits number_named command_of
bad_wide_right = refl

abbrev simulated : List Row
simulated =
    good (codes "simulate" ∷ []) (Simulate 0 favours.Nobody None false)
    ∷ good (codes "simulate" ∷ codes "--seed" ∷ codes "7" ∷ []) (Simulate 7 favours.Nobody None false)
    ∷ good (codes "--seed=18446744073709551615" ∷ codes "simulate" ∷ []) (Simulate 18446744073709551615 favours.Nobody None false)  -- the greatest seed
    ∷ good (codes "simulate" ∷ codes "--favour" ∷ codes "driver" ∷ []) (Simulate 0 favours.Driver None false)
    ∷ good (codes "simulate" ∷ codes "--favour=workers" ∷ codes "--seed" ∷ codes "0" ∷ []) (Simulate 0 favours.Workers None false)
    ∷ good (codes "simulate" ∷ codes "--favour" ∷ codes "none" ∷ codes "--json" ∷ []) (Simulate 0 favours.Nobody None true)
    ∷ good (codes "simulate" ∷ codes "--jump" ∷ []) (Simulate 0 favours.Nobody None false)  -- as without
    ∷ good (codes "simulate" ∷ codes "--step" ∷ codes "5" ∷ []) (Simulate 0 favours.Nobody (Some 5) false)
    ∷ good (codes "simulate" ∷ codes "--json" ∷ codes "--step=1000000000000" ∷ codes "--seed=3" ∷ codes "--favour=driver" ∷ [])
    (Simulate 3 favours.Driver (Some 1000000000000) true)  -- the greatest step
    ∷ []

simulated_right : AreRight simulated
unfolding clap_on_literals digits number_named command_of
simulated_right = refl

-- a run with pauses
abbrev shaken : List Row
shaken =
    good (codes "run" ∷ codes "--shake" ∷ codes "1" ∷ []) (Run None false (Some (record { most = 1; seed = 0 })))  -- the least
    ∷ good (codes "run" ∷ codes "--shake" ∷ codes "1000000" ∷ codes "--seed" ∷ codes "9" ∷ [])
    (Run None false (Some (record { most = 1000000; seed = 9 })))  -- the most
    ∷ good (codes "--seed" ∷ codes "18446744073709551615" ∷ codes "--shake=50" ∷ codes "run" ∷ codes "--json" ∷ codes "--step" ∷ codes "2" ∷ [])
    (Run (Some 2) true (Some (record { most = 50; seed = 18446744073709551615 })))
    ∷ []

shaken_right : AreRight shaken
unfolding clap_on_literals digits number_named command_of
shaken_right = refl

-- a benchmark whose tasks work
abbrev working : List Row
working =
    good (codes "bench" ∷ codes "--work" ∷ codes "1000" ∷ []) (Bench 0 16 1000)
    ∷ good (codes "bench" ∷ codes "--work" ∷ codes "0" ∷ []) (Bench 0 16 0)  -- as without
    ∷ good (codes "--work=1000000000" ∷ codes "bench" ∷ codes "--size" ∷ codes "1" ∷ codes "--number" ∷ codes "4" ∷ []) (Bench 4 1 1000000000)  -- the most
    ∷ []

working_right : AreRight working
unfolding clap_on_literals digits number_named command_of
working_right = refl

abbrev bad_modes : List Row
bad_modes =
    bad []
    ∷ bad (codes "--json" ∷ [])  -- no mode
    ∷ bad (codes "walk" ∷ [])
    ∷ bad (codes "Run" ∷ [])
    ∷ bad ([] ∷ [])  -- the empty word
    ∷ bad (codes "run" ∷ codes "run" ∷ [])
    ∷ bad (codes "run" ∷ codes "check" ∷ [])
    ∷ bad (codes "generate" ∷ [])
    ∷ bad (codes "replies" ∷ [])
    ∷ bad (codes "nest" ∷ codes "trace" ∷ [])
    ∷ bad (codes "lint" ∷ codes "--replies" ∷ codes "--nest" ∷ [])  -- one input of the two
    ∷ bad (codes "lint" ∷ codes "--json" ∷ [])
    ∷ bad (codes "nest" ∷ codes "--nest" ∷ [])
    ∷ bad (codes "help" ∷ [])
    ∷ []

bad_modes_right : AreRight bad_modes
unfolding clap_on_literals digits number_named command_of
bad_modes_right = refl

abbrev bad_steps : List Row
bad_steps =
    bad (codes "run" ∷ codes "--step" ∷ [])  -- no number
    ∷ bad (codes "run" ∷ codes "--step" ∷ codes "--json" ∷ [])  -- no number
    ∷ bad (codes "run" ∷ codes "--step" ∷ codes "0" ∷ [])
    ∷ bad (codes "run" ∷ codes "--step" ∷ codes "01" ∷ [])  -- a zero in front
    ∷ bad (codes "run" ∷ codes "--step" ∷ codes "+1" ∷ [])
    ∷ bad (codes "run" ∷ codes "--step=-1" ∷ [])
    ∷ bad (codes "run" ∷ codes "--step" ∷ codes "ten" ∷ [])
    ∷ bad (codes "run" ∷ codes "--step=" ∷ [])
    ∷ bad (codes "run" ∷ codes "--step" ∷ codes "1000000000001" ∷ [])  -- one more than the greatest
    ∷ bad (codes "run" ∷ codes "--step" ∷ codes "18446744073709551617" ∷ [])  -- 1 modulo 2^64
    ∷ bad (codes "run" ∷ codes "--step" ∷ codes "5" ∷ codes "--step" ∷ codes "5" ∷ [])  -- twice
    ∷ []

bad_steps_right : AreRight bad_steps
unfolding clap_on_literals digits number_named command_of
bad_steps_right = refl

abbrev bad_numbers : List Row
bad_numbers =
    bad (codes "gen" ∷ codes "--number" ∷ codes "18446744073709551616" ∷ [])  -- one more than the greatest
    ∷ bad (codes "gen" ∷ codes "--number" ∷ codes "00" ∷ [])  -- a zero in front
    ∷ bad (codes "gen" ∷ codes "--number" ∷ codes "+1" ∷ [])
    ∷ bad (codes "gen" ∷ codes "--number=" ∷ [])
    ∷ bad (codes "gen" ∷ codes "--size" ∷ codes "0" ∷ [])
    ∷ bad (codes "gen" ∷ codes "--size" ∷ codes "016" ∷ [])
    ∷ bad (codes "bench" ∷ codes "--size" ∷ codes "8193" ∷ [])
    ∷ bad (codes "bench" ∷ codes "--size" ∷ codes "2" ∷ codes "--size" ∷ codes "2" ∷ [])  -- twice
    ∷ []

bad_numbers_right : AreRight bad_numbers
unfolding clap_on_literals digits number_named command_of
bad_numbers_right = refl

abbrev bad_seeds : List Row
bad_seeds =
    bad (codes "simulate" ∷ codes "--seed" ∷ [])  -- no number
    ∷ bad (codes "simulate" ∷ codes "--seed" ∷ codes "18446744073709551616" ∷ [])  -- one more than the greatest
    ∷ bad (codes "simulate" ∷ codes "--seed" ∷ codes "-1" ∷ [])
    ∷ bad (codes "simulate" ∷ codes "--seed=-1" ∷ [])
    ∷ bad (codes "simulate" ∷ codes "--seed" ∷ codes "007" ∷ [])  -- zeros in front
    ∷ bad (codes "simulate" ∷ codes "--seed" ∷ codes "1" ∷ codes "--seed" ∷ codes "1" ∷ [])  -- twice
    ∷ bad (codes "run" ∷ codes "--seed" ∷ codes "1" ∷ [])  -- no pauses that it could be of
    ∷ bad (codes "run" ∷ codes "--shake" ∷ codes "5" ∷ codes "--seed" ∷ codes "+1" ∷ [])
    ∷ []

bad_seeds_right : AreRight bad_seeds
unfolding clap_on_literals digits number_named command_of
bad_seeds_right = refl

abbrev bad_draws : List Row
bad_draws =
    bad (codes "simulate" ∷ codes "--favour" ∷ [])  -- no word
    ∷ bad (codes "simulate" ∷ codes "--favour" ∷ codes "all" ∷ [])
    ∷ bad (codes "simulate" ∷ codes "--favour" ∷ codes "Driver" ∷ [])
    ∷ bad (codes "simulate" ∷ codes "--favour" ∷ codes "worker" ∷ [])
    ∷ bad (codes "simulate" ∷ codes "--favour=" ∷ [])  -- the empty word
    ∷ bad (codes "simulate" ∷ codes "--jump" ∷ codes "--step" ∷ codes "5" ∷ [])  -- one of the two
    ∷ bad (codes "simulate" ∷ codes "--jump=true" ∷ [])  -- a flag takes no value
    ∷ bad (codes "simulate" ∷ codes "--step" ∷ codes "0" ∷ [])
    ∷ bad (codes "simulate" ∷ codes "--step" ∷ codes "1000000000001" ∷ [])  -- one more than the greatest
    ∷ bad (codes "simulated" ∷ [])
    ∷ []

bad_draws_right : AreRight bad_draws
unfolding clap_on_literals digits number_named command_of
bad_draws_right = refl

abbrev bad_pauses : List Row
bad_pauses =
    bad (codes "run" ∷ codes "--shake" ∷ [])  -- no number
    ∷ bad (codes "run" ∷ codes "--shake" ∷ codes "0" ∷ [])
    ∷ bad (codes "run" ∷ codes "--shake" ∷ codes "1000001" ∷ [])  -- one more than the greatest
    ∷ bad (codes "run" ∷ codes "--shake" ∷ codes "010" ∷ [])  -- a zero in front
    ∷ bad (codes "bench" ∷ codes "--work" ∷ codes "1000000001" ∷ [])  -- one more than the greatest
    ∷ bad (codes "bench" ∷ codes "--work" ∷ codes "-1" ∷ [])
    ∷ bad (codes "bench" ∷ codes "--work" ∷ codes "00" ∷ [])  -- a zero in front
    ∷ []

bad_pauses_right : AreRight bad_pauses
unfolding clap_on_literals digits number_named command_of
bad_pauses_right = refl

-- an option that the mode does not take
abbrev others_options : List Row
others_options =
    bad (codes "run" ∷ codes "--size" ∷ codes "3" ∷ [])
    ∷ bad (codes "run" ∷ codes "--number" ∷ codes "0" ∷ [])
    ∷ bad (codes "run" ∷ codes "--prefix" ∷ [])
    ∷ bad (codes "check" ∷ codes "--json" ∷ [])
    ∷ bad (codes "check" ∷ codes "--step" ∷ codes "1" ∷ [])
    ∷ bad (codes "check" ∷ codes "--size" ∷ codes "3" ∷ [])
    ∷ bad (codes "explain" ∷ codes "--full" ∷ [])
    ∷ bad (codes "reply" ∷ codes "--json" ∷ [])
    ∷ bad (codes "reply" ∷ codes "--step" ∷ codes "1" ∷ [])
    ∷ bad (codes "trace" ∷ codes "--json" ∷ [])
    ∷ bad (codes "trace" ∷ codes "--full" ∷ codes "--step" ∷ codes "1" ∷ [])
    ∷ bad (codes "trace" ∷ codes "--nest" ∷ [])
    ∷ bad (codes "run" ∷ codes "--full" ∷ [])
    ∷ bad (codes "lint" ∷ codes "--full" ∷ [])
    ∷ bad (codes "trace" ∷ codes "--number" ∷ codes "0" ∷ [])
    ∷ bad (codes "nest" ∷ codes "--step" ∷ codes "1" ∷ [])
    ∷ bad (codes "nest" ∷ codes "--size" ∷ codes "3" ∷ [])
    ∷ bad (codes "gen" ∷ codes "--step" ∷ codes "1" ∷ [])
    ∷ bad (codes "gen" ∷ codes "--json" ∷ [])
    ∷ bad (codes "bench" ∷ codes "--json" ∷ [])
    ∷ bad (codes "bench" ∷ codes "--prefix" ∷ [])
    ∷ []

others_options_right : AreRight others_options
unfolding clap_on_literals digits number_named command_of
others_options_right = refl

-- the same of the options of `simulate`, of pauses and of work
abbrev others_newer_options : List Row
others_newer_options =
    bad (codes "run" ∷ codes "--favour" ∷ codes "driver" ∷ [])
    ∷ bad (codes "run" ∷ codes "--jump" ∷ [])
    ∷ bad (codes "run" ∷ codes "--work" ∷ codes "1" ∷ [])
    ∷ bad (codes "simulate" ∷ codes "--shake" ∷ codes "5" ∷ [])
    ∷ bad (codes "simulate" ∷ codes "--number" ∷ codes "0" ∷ [])
    ∷ bad (codes "simulate" ∷ codes "--prefix" ∷ [])
    ∷ bad (codes "simulate" ∷ codes "--work" ∷ codes "1" ∷ [])
    ∷ bad (codes "check" ∷ codes "--seed" ∷ codes "3" ∷ [])
    ∷ bad (codes "explain" ∷ codes "--jump" ∷ [])
    ∷ bad (codes "reply" ∷ codes "--shake" ∷ codes "5" ∷ [])
    ∷ bad (codes "trace" ∷ codes "--favour" ∷ codes "none" ∷ [])
    ∷ bad (codes "nest" ∷ codes "--jump" ∷ [])
    ∷ bad (codes "lint" ∷ codes "--seed" ∷ codes "3" ∷ [])
    ∷ bad (codes "gen" ∷ codes "--work" ∷ codes "0" ∷ [])
    ∷ bad (codes "gen" ∷ codes "--seed" ∷ codes "3" ∷ [])
    ∷ bad (codes "bench" ∷ codes "--seed" ∷ codes "3" ∷ [])
    ∷ bad (codes "bench" ∷ codes "--shake" ∷ codes "5" ∷ [])
    ∷ bad (codes "check" ∷ codes "--most" ∷ codes "5" ∷ [])
    ∷ bad (codes "arrange" ∷ codes "--json" ∷ [])
    ∷ bad (codes "arrange" ∷ codes "--most" ∷ codes "0" ∷ [])
    ∷ bad (codes "arrange" ∷ codes "--most" ∷ codes "1000000000001" ∷ [])  -- one more than the greatest
    ∷ bad (codes "run" ∷ codes "--open" ∷ [])
    ∷ bad (codes "simulate" ∷ codes "--open" ∷ [])
    ∷ bad (codes "reply" ∷ codes "--open" ∷ [])
    ∷ bad (codes "nest" ∷ codes "--open" ∷ [])
    ∷ bad (codes "arrange" ∷ codes "--open" ∷ codes "--most" ∷ codes "0" ∷ [])
    ∷ bad (codes "lint" ∷ codes "--open" ∷ [])
    ∷ bad (codes "bench" ∷ codes "--open" ∷ [])
    ∷ []

others_newer_options_right : AreRight others_newer_options
unfolding clap_on_literals digits number_named command_of
others_newer_options_right = refl

abbrev bad_options : List Row
bad_options =
    bad (codes "run" ∷ codes "--json" ∷ codes "--json" ∷ [])  -- twice
    ∷ bad (codes "check" ∷ codes "--prefix" ∷ codes "--prefix" ∷ [])  -- twice
    ∷ bad (codes "check" ∷ codes "--open" ∷ codes "--open" ∷ [])  -- twice
    ∷ bad (codes "run" ∷ codes "--json=true" ∷ [])  -- a flag takes no value
    ∷ bad (codes "run" ∷ codes "--js" ∷ [])
    ∷ bad (codes "run" ∷ codes "-s" ∷ [])
    ∷ bad (codes "--help" ∷ [])
    ∷ bad (codes "run" ∷ codes "--help" ∷ [])
    ∷ bad (codes "run" ∷ codes "-h" ∷ [])
    ∷ bad (codes "--version" ∷ [])
    ∷ bad (codes "run" ∷ codes "-V" ∷ [])
    ∷ []

bad_options_right : AreRight bad_options
unfolding clap_on_literals digits number_named command_of
bad_options_right = refl
