-- What is said of some facts, worked out by hand and checked by computing.
use Rattle.std.proofs.Common.{◌≡◌, true, [], ◌∷◌, refl}
use Rattle.std.specs.Prelude.{codes}
use Rattle.std.specs.Fmt.{digits}
use Rattle.task_base.specs.Entries.{entry_by as by}
use Rattle.task_base.specs.declared.entry.Kind.TheVariants as kinds
use Rattle.task_traits.specs.declared.traits.Behaviour.TheVariants as behaviours
use Rattle.task_traits.specs.declared.traits.Priority.TheVariants as priorities
use Rattle.log_context.specs.declared.fact.Fact.TheVariants.{Behaves, Limits, MayTake, Priorities, Room, Single, Stands, Unposted}
use Rattle.log_context.specs.declared.fact.Limit.TheVariants as limits
use Rattle.log_context.specs.declared.fact.Role.TheVariants as roles
use Rattle.context_text.specs.Json.{fact_object, with_context}
use Rattle.context_text.specs.Plain.{fact_line, with_lines}

taken : fact_line (Stands roles.Taken 5 (by 2 (kinds.Take 0 0 0))) ≡ codes "the task was taken before: 5 2 take 0 0 0\n"
unfolding digits
taken = refl

waiting : fact_line (Stands roles.Waiting 1 (by 0 (kinds.Post 7 3 0 true))) ≡ codes "this waits to be taken: 1 0 post 7 3 0 ok\n"
unfolding digits
waiting = refl

unposted : fact_line (Unposted 3) ≡ codes "no entry before it posts task 3\n"
unfolding digits
unposted = refl

single : fact_line (Single 2 3) ≡ codes "runner 2 is that of seat 3 alone\n"
unfolding digits
single = refl

two_priorities : fact_line (Priorities 1 priorities.BestEffort 0 priorities.UserVisible)
    ≡ codes "runner 1 has priority best_effort, and runner 0 has priority user_visible\n"
unfolding digits
two_priorities = refl

limits_there : fact_line (Limits 2 1 0) ≡ codes "the limits are: foreground 2, of which best_effort 1, background 0\n"
unfolding digits
limits_there = refl

no_room : fact_line (Room limits.BestEffort 1 1) ≡ codes "best_effort work of the foreground: 1 of 1 run\n"
unfolding digits
no_room = refl

behaves : fact_line (Behaves 4 behaviours.BlockShutdown) ≡ codes "runner 4 has shutdown behaviour block\n"
unfolding digits
behaves = refl

may_be_taken : fact_line (MayTake 4 (by 2 (kinds.JobTake 0 1 3))) ≡ codes "it may be taken by: 4 2 jobtake 0 1 3\n"
unfolding digits
may_be_taken = refl

after_the_cause : with_lines (codes "nothing may be taken by seat 1\n") (Room limits.Foreground 2 2 ∷ Limits 2 1 0 ∷ [])
    ≡ codes "nothing may be taken by seat 1\nwork of the foreground: 2 of 2 run\nthe limits are: foreground 2, of which best_effort 1, background 0\n"
unfolding digits
after_the_cause = refl

taken_object : fact_object (Stands roles.Taken 5 (by 2 (kinds.Take 0 0 0))) ≡ codes "{\"fact\":\"taken\",\"entry\":[5,2,\"take\",0,0,0]}"
unfolding digits
taken_object = refl

may_take_object : fact_object (MayTake 2 (by 1 (kinds.Take 0 0 0))) ≡ codes "{\"fact\":\"may_take\",\"entry\":[2,1,\"take\",0,0,0]}"
unfolding digits
may_take_object = refl

priorities_object : fact_object (Priorities 1 priorities.BestEffort 0 priorities.UserVisible)
    ≡ codes "{\"fact\":\"priorities\",\"runner\":1,\"priority\":\"best_effort\",\"best\":0,\"higher\":\"user_visible\"}"
unfolding digits
priorities_object = refl

in_an_object : with_context (codes "{\"line\":7}\n") (Unposted 3 ∷ Room limits.Background 1 1 ∷ [])
    ≡ codes "{\"line\":7,\"context\":[{\"fact\":\"unposted\",\"task\":3},{\"fact\":\"room\",\"limit\":\"background\",\"running\":1,\"most\":1}]}\n"
unfolding digits
in_an_object = refl
