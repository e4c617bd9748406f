-- Words of the laws on lanes, their fronts, and the streak.
use Rattle.std.specs.Prelude.{ℕ, List, Option, IsTrue, filter}
use Rattle.std.specs.List.{filter_map}
use Rattle.task_base.specs.Plan.{Plan}
use Rattle.task_base.specs.declared.entry.Entry.{Entry}
use Rattle.task_base.specs.declared.script.Lane.{Lane}
use Rattle.task_model.specs.Posts.{main_posts}
use Rattle.queue_laws.specs.Orders.{Ordered}
use Rattle.task_model.specs.MainQueues.{Front, class_of, front_with, is_in_lane, is_open, least_class, of_least_class, open_fronts}

-- the tasks in a lane that have orders, and have not been taken
abbrev pub lane_of : Plan → List Entry → ℕ → Lane → List Front
lane_of script past q lane = filter_map (front_with script past q lane) (filter (is_in_lane past q lane) (main_posts past))

-- an accepted main task with its order, in its lane
abbrev pub front_for : Plan → List Entry → ℕ → Lane → Ordered → Front
front_for script past q lane o = record { queue = q; lane = lane; task = o.posted.task; order = o.order; class = class_of script past q }

-- the fact of it
abbrev pub IsOpen : Plan → List Entry → Front → Type 0
IsOpen script past f = IsTrue (is_open script past f)

-- the chosen class: the least one with an open front
abbrev pub chosen_class : Plan → List Entry → Option ℕ
chosen_class script past = least_class (open_fronts script past)

-- the open fronts of the chosen class
abbrev pub chosen_fronts : Plan → List Entry → List Front
chosen_fronts script past = of_least_class (open_fronts script past)
