-- What has followed the entries of the events that are placed.
use Rattle.std.specs.Prelude.{◌≡◌, Bool, true, false, List, [], ◌∷◌, ◌++◌}
use Rattle.task_base.specs.Plan.{Plan}
use Rattle.task_base.specs.declared.entry.Entry.{Entry}
use Rattle.hist_model.specs.Allowed.{is_allowed}
use Rattle.env_core.specs.Views.{EnvView}
use Rattle.live_core.specs.StandsFor.{StandsFor}
use Rattle.order_search.specs.declared.follower.Followed.{Followed}
use Rattle.order_search.specs.declared.follower.Followed.TheVariants.{Came, Stayed, Strayed}
use Rattle.order_search.specs.declared.follower.Follower.{Follower}
use Rattle.order_search.specs.declared.follower.Follower.TheVariants.{Closed, Open}

-- the replay is one by this script, and has followed these entries
pub record IsReplayed (script : Plan) (past : List Entry) (replay : EnvView) : Type 0 where
  pub closed : script.is_open ≡ false
  pub script_is : replay.script ≡ script
  pub history_is : replay.history ≡ past

-- it has followed these entries of the plan
abbrev pub Follows : Plan → List Entry → Follower → Type 0
Follows plan past (Closed replay) = IsReplayed plan past replay
Follows plan past (Open live) = StandsFor plan past live

-- the answer says whether the entry may come after the past, and where it may, it was followed too
pub record GoesOn (plan : Plan) (past : List Entry) (e : Entry) (after : Follower) (answer : Bool) : Type 0 where
  pub judged : answer ≡ is_allowed plan past e
  pub followed : answer ≡ true → Follows plan (past ++ e ∷ []) after

-- the entry may come, and was followed
abbrev pub came : Followed → Bool
came Came = true
came Stayed = false
came Strayed = false

-- the same of what came of an entry; where it stayed, it has followed what it had before
pub record Comes (plan : Plan) (past : List Entry) (e : Entry) (after : Follower) (answer : Followed) : Type 0 where
  pub goes_on : GoesOn plan past e after (came answer)
  pub stayed : answer ≡ Stayed → Follows plan past after
