-- The entries of the driver of which the rules ask no more than that the driver may enter them.
-- Cited by `env_core`, `live_core`.
use Rattle.std.proofs.Common.{◌≡◌, ℕ, Bool, true, false, List}
use Rattle.task_base.specs.Plan.{Plan}
use Rattle.task_base.specs.declared.entry.Entry.{Entry}
use Rattle.task_base.specs.declared.entry.Kind.{Kind}
use Rattle.task_base.specs.declared.entry.Kind.TheVariants as kinds
use Rattle.hist_model.specs.Allowed.{by_script, may_come}

-- the rules ask no more of such an entry than that the script or the open plan wants it of its seat
abbrev pub is_plain : Kind → Bool
is_plain (kinds.Policy policy) = true
is_plain (kinds.Reprio runner priority) = true
is_plain (kinds.Fence queue at) = true
is_plain (kinds.Unfence queue) = true
is_plain (kinds.Vote queue voter on) = true
is_plain (kinds.Rank queue class) = true
is_plain (kinds.Close queue) = true
is_plain (kinds.JobCancel job) = true
is_plain kinds.Shutdown = true
is_plain kind = false

-- it may come where it is wanted
pub plain_may_come : (plan : Plan) (past : List Entry) (seat : ℕ) (kind : Kind) → is_plain kind ≡ true → by_script plan past seat kind ≡ true
    → may_come plan past seat kind ≡ true
unfolding may_come
plain_may_come plan past seat (kinds.Policy policy) is by = by
plain_may_come plan past seat (kinds.Reprio runner priority) is by = by
plain_may_come plan past seat (kinds.Fence queue at) is by = by
plain_may_come plan past seat (kinds.Unfence queue) is by = by
plain_may_come plan past seat (kinds.Vote queue voter on) is by = by
plain_may_come plan past seat (kinds.Rank queue class) is by = by
plain_may_come plan past seat (kinds.Close queue) is by = by
plain_may_come plan past seat (kinds.JobCancel job) is by = by
plain_may_come plan past seat kinds.Shutdown is by = by
plain_may_come plan past seat kind is by = absurd cc
