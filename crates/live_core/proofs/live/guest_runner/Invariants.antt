use Rattle.std.proofs.Common.{◌≡◌, ℕ, ◌<◌, false}
use Rattle.live_core.specs.Opening.{is_guests}
use Rattle.live_core.proofs.live.guest_runner.Given as goal

abbrev pub invariant-loop-place : goal.invariant-loop-place
invariant-loop-place l = (n : ℕ) → n < l.place → is_guests l.script n ≡ false
