use Rattle.std.proofs.Common.{◌≡◌, ◌+◌, None, take}
use Rattle.task_model.specs.Time.{tick_from}
use Rattle.past_lookup.proofs.keys.key_of.Given as goal

abbrev pub invariant-loop-entry : goal.invariant-loop-entry
invariant-loop-entry l = record {
  none_yet : tick_from (take l.entry-index l.past) (l.post.moment + l.post.delay) ≡ None;
  place_is : l.place ≡ l.entry-index;
}
