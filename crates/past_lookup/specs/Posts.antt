-- The posts of tasks.
use Rattle.std.specs.Prelude.{◌+◌}
use Rattle.task_model.specs.Posts.{Posted}
use Rattle.past_lookup.specs.declared.posts.Post.{Post}

-- the accepted task that a post is of
abbrev pub posted : Post → Posted
posted post = record { place = post.place; task = post.task; home = post.runner; delay = post.delay; ripe = post.moment + post.delay }
