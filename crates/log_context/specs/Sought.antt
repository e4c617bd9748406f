-- The first tasks that the driver waits for.
use Rattle.std.specs.Prelude.{Bool, false, true, ◌&&◌, ◌||◌, if◌then◌else◌, nat_lt, List, [], ◌∷◌, ◌++◌, length, is_some}
use Rattle.list_laws.specs.Lists.{holds_of}
use Rattle.task_base.specs.Plan.{Plan}
use Rattle.task_base.specs.declared.entry.Entry.{Entry}
use Rattle.task_base.specs.declared.entry.Kind.{Kind}
use Rattle.task_base.specs.declared.entry.Kind.TheVariants as kinds
use Rattle.task_model.specs.Blockers.{is_open_block, is_running_skip}
use Rattle.task_model.specs.Keys.{key_of}
use Rattle.task_model.specs.Past.{fold_past}
use Rattle.task_model.specs.Posts.{Posted}
use Rattle.task_model.specs.Sequences.{may_start}
use Rattle.pool_laws.specs.Posts.{post_of}
use Rattle.log_context.specs.declared.fact.Fact.{Fact}
use Rattle.log_context.specs.declared.fact.Fact.TheVariants as facts
use Rattle.log_context.specs.declared.fact.Role.{Role}
use Rattle.log_context.specs.declared.fact.Role.TheVariants as roles
use Rattle.log_context.specs.declared.sought.Sought.{Sought}
use Rattle.log_context.specs.declared.sought.Sought.TheVariants as sorts
use Rattle.log_context.specs.declared.sought.TheConstants.{MOST_SEARCHED, TASKS_SHOWN}

-- an accepted task waits to be taken: it was not taken, shutdown does not forbid it, and it is ripe
abbrev pub is_waiting : Plan → List Entry → Posted → Bool
is_waiting script past p = may_start script past p && is_some (key_of past p)

-- an accepted task blocks the end of shutdown: a block task that has not ended, or a skip task that runs
abbrev pub is_blocking : Plan → List Entry → Posted → Bool
is_blocking script past p = is_open_block script past p || is_running_skip script past p

-- an accepted task is one that is looked for
abbrev pub is_sought : Plan → List Entry → Sought → Posted → Bool
is_sought script past sorts.Waiting p = is_waiting script past p
is_sought script past sorts.Blocking p = is_blocking script past p

-- what the post of such a task is to the entry that may not come
abbrev pub role_of : Sought → Role
role_of sorts.Waiting = roles.Waiting
role_of sorts.Blocking = roles.Blocks

-- the entry posts such a task
abbrev pub posts_sought : Plan → List Entry → Sought → Kind → Bool
posts_sought script past sought (kinds.Post task runner delay true) = holds_of (is_sought script past sought) (post_of past task)
posts_sought script past sought kind = false

-- what is known after one more entry: its post too, where it is one, and few are known
abbrev pub known_after : Plan → List Entry → Sought → List Entry → List Fact → Entry → List Fact
known_after script past sought before known e =
    if nat_lt (length known) TASKS_SHOWN && posts_sought script past sought e.kind
    then known ++ facts.Stands (role_of sought) (length before) e ∷ []
    else known

-- the first posts of such tasks in a part of the past
unfoldable pub known_in : Plan → List Entry → Sought → List Entry → List Fact
known_in script past sought part = fold_past (known_after script past sought) [] part

-- the first posts of such tasks; none after a past that is too long
abbrev pub known_of : Plan → List Entry → Sought → List Fact
known_of script past sought = if nat_lt MOST_SEARCHED (length past) then [] else known_in script past sought past
