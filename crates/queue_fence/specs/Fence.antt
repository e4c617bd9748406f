-- What a fence lets pass.
use Rattle.std.specs.Prelude.{ℕ, nat_lt, Bool, true, Option, Some, None}

-- a task of the order may run: there is no fence, or the order is below it
abbrev pub lets_pass : Option ℕ → ℕ → Bool
lets_pass None order = true
lets_pass (Some fence) order = nat_lt order fence
