-- What a token is for (this project's own rules).
use Rattle.std.specs.Prelude.{ℕ}

-- an idle token, a live item, a refused begin that has not taken its count back, shutdown before start, after it, and done, or joined to another
pub data Role : Type 0 where
  idle : Role
  item : Role
  refused : Role
  control : Role
  started : Role
  done : Role
  spent : Role

-- 1 for a live item
abbrev pub one_if_item : Role → ℕ
one_if_item item = 1
one_if_item role = 0

-- 1 for a refused begin that has not taken its count back
abbrev pub one_if_refused : Role → ℕ
one_if_refused refused = 1
one_if_refused role = 0

-- 1 for shutdown before start
abbrev pub one_if_control : Role → ℕ
one_if_control control = 1
one_if_control role = 0

-- 1 for shutdown between start and done
abbrev pub one_if_started : Role → ℕ
one_if_started started = 1
one_if_started role = 0

-- 1 for shutdown that is done
abbrev pub one_if_done : Role → ℕ
one_if_done done = 1
one_if_done role = 0

-- the least width: an idle token may begin an item
abbrev pub least_width : Role → ℕ
least_width idle = 1
least_width item = 1
least_width refused = 1
least_width role = 0
