use Rattle.std.proofs.Common.{◌≡◌, take}
use Rattle.std.specs.Option.{option_map}
use Rattle.pool_laws.specs.Posts.{post_of}
use Rattle.task_model.specs.Time.{now_of}
use Rattle.past_lookup.specs.Posts.{posted}
use Rattle.past_lookup.proofs.posts.post_of.Given as goal

abbrev pub invariant-loop-entry : goal.invariant-loop-entry
invariant-loop-entry l = record {
  post_is : option_map posted l.post ≡ post_of (take l.entry-index l.past) l.task;
  moment_is : l.moment ≡ now_of (take l.entry-index l.past);
  place_is : l.place ≡ l.entry-index;
}
