-- The options of a command line, and the values that their words have.
use Rattle.std.specs.Prelude.{ℕ, ◌-◌, ◌^◌, ◌≤◌, ◌&&◌, ◌||◌, nat_le, not, is_none, Bool, true, false, if◌then◌else◌}
use Rattle.std.specs.Prelude.{List, codes, Option, Some, None, option_map}
use Rattle.std.specs.Fmt.{decimal}
use Rattle.task_base.specs.declared.limits.TheConstants.{MOST_MICROSECONDS}
use Rattle.script_model.specs.Words.{is_word, number_of}
use Rattle.command_line.specs.declared.options.Favour.{Favour}
use Rattle.command_line.specs.declared.options.Favour.TheVariants as favours
use Rattle.command_line.specs.declared.options.Given.{Given}
use Rattle.command_line.specs.declared.options.Shake.{Shake}
use Rattle.command_line.specs.declared.options.Wide.{Wide}
use Rattle.command_line.specs.declared.options.TheConstants.{USUAL_SIZE, USUAL_STEPS, MOST_SIZE, MOST_SHAKE, MOST_STEPS, MOST_WORK}

infixl 10 ◌>>=◌
-- the second, made of the value of the first, if there is one
abbrev pub ◌>>=◌ : {A B : Type 0} → Option A → (A → Option B) → Option B
(Some x) >>= f = f x
None >>= f = None

-- ---- the options

-- the word of each option that has a value, and of each other whether it is there
pub record Options : Type 0 where
  pub step : Option (List ℕ)
  pub json : Bool
  pub prefix : Bool
  pub number : Option (List ℕ)
  pub size : Option (List ℕ)
  pub replies : Bool
  pub nest : Bool
  pub full : Bool
  pub seed : Option (List ℕ)
  pub favour : Option (List ℕ)
  pub jump : Bool
  pub shake : Option (List ℕ)
  pub work : Option (List ℕ)
  pub wide : Bool
  pub parts : Wide
  pub most : Option (List ℕ)
  pub is_open : Bool

-- the same, with the words behind the references
abbrev pub options_of : Given → Options
options_of g = record {
  step = option_map (λ s. s.now) g.step;
  json = g.json;
  prefix = g.prefix;
  number = option_map (λ s. s.now) g.number;
  size = option_map (λ s. s.now) g.size;
  replies = g.replies;
  nest = g.nest;
  full = g.full;
  seed = option_map (λ s. s.now) g.seed;
  favour = option_map (λ s. s.now) g.favour;
  jump = g.jump;
  shake = option_map (λ s. s.now) g.shake;
  work = option_map (λ s. s.now) g.work;
  wide = g.wide;
  parts = g.parts;
  most = option_map (λ s. s.now) g.most;
  is_open = g.is_open;
}

-- none of the options is there that have no value
abbrev pub has_no_flag : Options → Bool
has_no_flag o = not (o.json || o.prefix || o.replies || o.nest || o.full || o.jump || o.wide || o.is_open)

-- none of those is there whose value is a number
abbrev pub has_no_number : Options → Bool
has_no_number o = is_none o.step && is_none o.number && is_none o.size && is_none o.seed && is_none o.shake && is_none o.work
    && is_none o.most

-- all that a wide script may have
abbrev pub everything : Wide
everything = record { jobs = true; main = true; delays = true; scopes = true; shutdown = true }

-- a wide script has all of it
abbrev pub has_all : Wide → Bool
has_all parts = parts.jobs && parts.main && parts.delays && parts.scopes && parts.shutdown

-- no option is there
abbrev pub is_bare : Options → Bool
is_bare o = has_no_flag o && has_no_number o && is_none o.favour && has_all o.parts

-- the flag is there: clap gives it the text `true` then, and `false` where it is not
abbrev pub is_set : Option (List ℕ) → Bool
is_set None = false
is_set (Some text) = is_word text (codes "true")

-- what a wide script has, where this is the word that stands under each name: what no flag leaves out
abbrev pub parts_by : (List ℕ → Option (List ℕ)) → Wide
parts_by word_at = record {
  jobs = not (is_set (word_at (codes "no-jobs")));
  main = not (is_set (word_at (codes "no-main")));
  delays = not (is_set (word_at (codes "no-delays")));
  scopes = not (is_set (word_at (codes "no-scopes")));
  shutdown = not (is_set (word_at (codes "no-shutdown")));
}

-- the options, where this is the word that stands under each name
abbrev pub options_by : (List ℕ → Option (List ℕ)) → Options
options_by word_at = record {
  step = word_at (codes "step");
  json = is_set (word_at (codes "json"));
  prefix = is_set (word_at (codes "prefix"));
  number = word_at (codes "number");
  size = word_at (codes "size");
  replies = is_set (word_at (codes "replies"));
  nest = is_set (word_at (codes "nest"));
  full = is_set (word_at (codes "full"));
  seed = word_at (codes "seed");
  favour = word_at (codes "favour");
  jump = is_set (word_at (codes "jump"));
  shake = word_at (codes "shake");
  work = word_at (codes "work");
  wide = is_set (word_at (codes "wide"));
  parts = parts_by word_at;
  most = word_at (codes "most");
  is_open = is_set (word_at (codes "open"));
}

-- ---- the values of their words

-- the number from low to high that a word writes, in decimal digits without a sign and without zeros in front (this project's
-- own rule)
unfoldable pub number_named : ℕ → ℕ → List ℕ → Option ℕ
number_named low high word = number_of word >>= λ n. if is_word (decimal n) word && nat_le low n && nat_le n high then Some n else None

-- the microseconds of a step: from 1 to 10^12. It may be left out, and is `None` where it is there and no step
abbrev pub step_given : Option (List ℕ) → Option (Option ℕ)
step_given None = Some None
step_given (Some word) = option_map (λ n. Some n) (number_named 1 MOST_MICROSECONDS word)

-- the step of a simulated run, or none where it jumps: that says `--jump`, beside which there is no step, and so it is where
-- neither is there (this project's own rule)
abbrev pub pace_given : Option (List ℕ) → Bool → Option (Option ℕ)
pace_given step false = step_given step
pace_given None true = Some None
pace_given (Some word) true = None

-- the number that a script is made from, or the seed of draws: 0 where it is left out
abbrev pub seed_given : Option (List ℕ) → Option ℕ
seed_given None = Some 0
seed_given (Some word) = number_named 0 (2 ^ 64 - 1) word

-- how many tasks it has: the usual number where that is left out
abbrev pub size_given : Option (List ℕ) → Option ℕ
size_given None = Some USUAL_SIZE
size_given (Some word) = number_named 1 MOST_SIZE word

-- how many nanoseconds each of them works that is of the pool: none where that is left out
abbrev pub work_given : Option (List ℕ) → Option ℕ
work_given None = Some 0
work_given (Some word) = number_named 0 MOST_WORK word

-- how many steps a search for an order takes at most: the usual number where that is left out
abbrev pub steps_given : Option (List ℕ) → Option ℕ
steps_given None = Some USUAL_STEPS
steps_given (Some word) = number_named 1 MOST_STEPS word

-- how a run is shaken, by the most microseconds of a pause and a seed: not at all where both are left out. A seed alone is wrong
-- (this project's own rule)
abbrev pub shake_given : Option (List ℕ) → Option (List ℕ) → Option (Option Shake)
shake_given None None = Some None
shake_given None (Some seed) = None
shake_given (Some word) seed = do
  most ← number_named 1 MOST_SHAKE word
  s ← seed_given seed
  Some (Some (record { most = most; seed = s }))

-- whom a word favours (this project's own)
abbrev pub favour_named : List ℕ → Option Favour
favour_named word =
    if is_word word (codes "driver") then Some favours.Driver
    else (if is_word word (codes "workers") then Some favours.Workers
    else (if is_word word (codes "none") then Some favours.Nobody
    else None))

-- whom the draws of a simulated run favour: nobody where that is left out
abbrev pub favour_given : Option (List ℕ) → Option Favour
favour_given None = Some favours.Nobody
favour_given (Some word) = favour_named word

-- what a wide script has, if one is asked for: only of a wide one may something be left out (this project's own rule)
abbrev pub wide_given : Bool → Wide → Option (Option Wide)
wide_given true parts = Some (Some parts)
wide_given false parts = if has_all parts then Some None else None

-- a run that is shaken pauses from 1 to 1,000,000 microseconds at most
abbrev pub IsShake : Option Shake → Type 0
IsShake None = Unit {0}
IsShake (Some shake) = (1 ≤ shake.most) × (shake.most ≤ MOST_SHAKE)
