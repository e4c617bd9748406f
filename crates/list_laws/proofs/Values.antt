-- Equal numbers and options.
-- Cited by `Least`, `Pigeons`, `Rises`, `Sorts`, `env_core`, `env_crew`, `env_roster`, `env_shared`, `env_step`, `lint_laws`, `live_core`,
-- `live_roster`, `nested_loop`, `next_entry`, `pool_core`, `pool_laws`, `queue_laws`, `queue_selector`, `run_summary`, `script_model`,
-- `sequence_manager`, `task_script`, `task_sequence`, `worked_calls`.
use Rattle.std.proofs.Common.{◌≡◌, ℕ, true, eqb, ap, Some, arith}
use Rattle.std.specs.Option.{option_map_or}

-- a number is equal to itself, as a test
pub eqb-same : (n : ℕ) → eqb n n ≡ true
eqb-same n = grind arith

pub some-injective : {A : Type 0} {x y : A} → Some x ≡ Some y → x ≡ y
some-injective {A} {x} {y} is = ap (λ o. option_map_or (λ z. z) o x) is

pub eqb-turned : (a b : ℕ) → eqb a b ≡ eqb b a
eqb-turned a b = grind arith
