-- Draws and moments that were worked out by hand, checked by computing.
use Rattle.std.proofs.Common.{◌≡◌, ℕ, true, false, List, [], ◌∷◌, ◌++◌, refl}
use Rattle.task_base.specs.Plan.{Plan}
use Rattle.task_base.specs.declared.entry.Entry.{Entry}
use Rattle.task_base.specs.declared.entry.Kind.TheVariants as kinds
use Rattle.task_base.specs.declared.step.Scope.TheVariants as scopes
use Rattle.task_base.specs.Entries.{entry_by as by}
use Rattle.task_model.specs.Past.{fold_past}
use Rattle.task_model.specs.Time.{now_of}
use Rattle.simulation.specs.Awaited.{counts_from, next_moment, ripe_moments}
use Rattle.simulation.specs.Draw.{Drawing, draw_of_seed, drawn_seat, everybody, struck}

-- ---- draws: the first words of seed 0 are 3837872008, 932996374 and 1548399547, of 2^32

abbrev of_seed_0 : ℕ → ℕ → Drawing
of_seed_0 driver worker = everybody 2 (draw_of_seed 0 (record { driver = driver; worker = worker }))

-- of three lots the one at 2 is drawn, which is worker 2's; then of two the driver's; and then worker 1's, the last one
worker_2_first : drawn_seat (of_seed_0 1 1) ≡ 2
worker_2_first = refl

driver_second : drawn_seat (struck (of_seed_0 1 1)) ≡ 0
driver_second = refl

worker_1_last : drawn_seat (struck (struck (of_seed_0 1 1))) ≡ 1
worker_1_last = refl

-- of ten lots, eight of them the driver's, the one at 8 is drawn: worker 1's; of seventeen, one the driver's, the one at 15: worker 2's
driver_has_eight : drawn_seat (of_seed_0 8 1) ≡ 1
driver_has_eight = refl

workers_have_eight : drawn_seat (of_seed_0 1 8) ≡ 2
workers_have_eight = refl

-- ---- moments

-- two workers, and a scope that may block counts after 5 microseconds
abbrev two_workers : Plan
two_workers = record {
  workers = 2;
  foreground = 2;
  foreground_best = 2;
  background = 0;
  threshold = 5;
  runners = [];
  queues = [];
  tasks = [];
  jobs = [];
  actions = [];
  is_open = false;
}

-- a task that ripens at 50, a main task that ripens at 30, one that is ripe at once, and one that was refused
abbrev posted : List Entry
posted = by 0 (kinds.Post 0 0 50 true) ∷ by 0 (kinds.Main 1 0 30 true) ∷ by 0 (kinds.Post 2 0 0 true) ∷ by 0 (kinds.Post 3 0 10 false) ∷ []

first_ripens_at_30 : next_moment two_workers posted ≡ 30
unfolding next_moment ripe_moments counts_from fold_past now_of
first_ripens_at_30 = refl

then_at_50 : next_moment two_workers (posted ++ by 0 (kinds.Tick 30) ∷ []) ≡ 50
unfolding next_moment ripe_moments counts_from fold_past now_of
then_at_50 = refl

-- nothing more is awaited
then_it_stays : next_moment two_workers (posted ++ by 0 (kinds.Tick 30) ∷ by 0 (kinds.Tick 60) ∷ []) ≡ 60
unfolding next_moment ripe_moments counts_from fold_past now_of
then_it_stays = refl

-- worker 2 opens a scope at 30, which counts from 35 on, before the task ripens
abbrev in_scope : List Entry
in_scope = posted ++ by 0 (kinds.Tick 30) ∷ by 2 (kinds.Take 2 0 0) ∷ by 2 (kinds.Enter 2 scopes.May) ∷ []

scope_counts_at_35 : next_moment two_workers in_scope ≡ 35
unfolding next_moment ripe_moments counts_from fold_past now_of
scope_counts_at_35 = refl

-- once it is closed it doesn't
closed_scope_counts_not : next_moment two_workers (in_scope ++ by 2 (kinds.Leave 2) ∷ []) ≡ 50
unfolding next_moment ripe_moments counts_from fold_past now_of
closed_scope_counts_not = refl

-- one that will block counts at once, so no moment is awaited for it
will_block_counts_at_once : next_moment two_workers (posted ++ by 0 (kinds.Tick 50) ∷ by 1 (kinds.Take 2 0 0) ∷ by 1 (kinds.Enter 2 scopes.Will) ∷ []) ≡ 50
unfolding next_moment ripe_moments counts_from fold_past now_of
will_block_counts_at_once = refl
