-- What a past leaves whose entries fit: what seats run and hold, what cells have, and what was accepted fits too.
-- Cited by `Laws/Fitting/Entries`.
use Rattle.std.proofs.Common.{◌≡◌, ℕ, ◌+◌, ◌<◌, ◌%◌, ◌^◌, Bool, true, false, cond, eqb, List, [], ◌∷◌, ◌++◌, sym, subst, Option, Some, None, arith}
use Rattle.std.specs.Prelude.{◌&&◌, Contains}
use Rattle.std.specs.Option.{IfSome, option_map_or}
use Rattle.std.specs.List.{AllByRecursion}
use Rattle.task_base.specs.Plan.{Plan}
use Rattle.task_base.specs.declared.entry.Entry.{Entry}
use Rattle.task_base.specs.declared.entry.Kind.{Kind}
use Rattle.task_base.specs.declared.entry.Kind.TheVariants as kinds
use Rattle.list_laws.specs.Lists.{holds_of}
use Rattle.list_laws.proofs.Elements.{AllByRecursion-append, AllByRecursion-at, AllByRecursion-contains, AllByRecursion-front, push_induction}
use Rattle.log_model.specs.Fits.{KindFits, Fits}
use Rattle.task_model.specs.Past.{fold_past}
use Rattle.task_model.specs.Posts.{Posted, posts, posted_by, main_posts, main_posted_by}
use Rattle.task_model.specs.Seats.{Running, Holding, running, running_after, holding, holding_after, runs_of}
use Rattle.task_model.specs.Cells.{cell_of, cell_after, main_cell_of, main_cell_after}
use Rattle.task_model.specs.Jobs.{job_sum, value_by}
use Rattle.task_model.proofs.Growth.{cell_of_push, holding_push, job_sum_push, main_cell_of_push, main_posts_push, posts_push, running_push}

-- what holds of nothing, and stays so with each entry that fits, holds of each past whose entries fit
fitting_induction : (P : List Entry → Type 0) → P [] → ((past : List Entry) (e : Entry) → Fits e → P past → P (past ++ e ∷ [])) → (past : List Entry)
    → AllByRecursion Fits past → P past
fitting_induction P start step = push_induction (λ past. AllByRecursion Fits past → P past) (λ all. start)
    (λ past e before all. step past e (AllByRecursion-at Fits past e [] all) (before (AllByRecursion-front Fits past (e ∷ []) all)))

-- ---- what seats run and hold

abbrev pub RunningFits : Running → Type 0
RunningFits w = (w.task < 2 ^ 32) × (w.found < 2 ^ 64)

running_fits_after : (now : Option Running) (kind : Kind) → KindFits kind → IfSome now RunningFits → IfSome (running_after now kind) RunningFits
running_fits_after now (kinds.Take task runner found) fits known = (fits.0, fits.2)
running_fits_after now (kinds.MainTake task queue found) fits known = (fits.0, fits.2)
running_fits_after now (kinds.End task left) fits known = tt
running_fits_after now (kinds.MainEnd task left) fits known = tt
running_fits_after now kind fits known = known

running_fits_next : (past : List Entry) (e : Entry) (seat : ℕ) → Fits e → IfSome (running past seat) RunningFits
    → IfSome (running (past ++ e ∷ []) seat) RunningFits
running_fits_next past e seat fits known = rw (running_push past e seat) (by_seat (eqb e.seat seat))
  where
    by_seat : (b : Bool) → IfSome (cond b (running_after (running past seat) e.kind) (running past seat)) RunningFits
    by_seat true = running_fits_after (running past seat) e.kind fits.kind known
    by_seat false = known

pub running_fits : (past : List Entry) (seat : ℕ) (w : Running) → AllByRecursion Fits past → running past seat ≡ Some w → RunningFits w
unfolding running
running_fits past seat w all is = subst (λ o. IfSome o RunningFits) is
    (fitting_induction (λ before. IfSome (running before seat) RunningFits) tt (λ before e. running_fits_next before e seat) past all)

abbrev pub HoldingFits : Holding → Type 0
HoldingFits h = (h.job < 2 ^ 32) × (h.id < 2 ^ 32) × (h.item < 2 ^ 32)

holding_fits_after : (now : Option Holding) (kind : Kind) → KindFits kind → IfSome now HoldingFits → IfSome (holding_after now kind) HoldingFits
holding_fits_after now (kinds.JobTake job id item) fits known = fits
holding_fits_after now (kinds.JobStep job id item value (Some after)) fits known = (fits.0, fits.1, fits.4)
holding_fits_after now (kinds.JobStep job id item value None) fits known = tt
holding_fits_after now kind fits known = known

holding_fits_next : (past : List Entry) (e : Entry) (seat : ℕ) → Fits e → IfSome (holding past seat) HoldingFits
    → IfSome (holding (past ++ e ∷ []) seat) HoldingFits
holding_fits_next past e seat fits known = rw (holding_push past e seat) (by_seat (eqb e.seat seat))
  where
    by_seat : (b : Bool) → IfSome (cond b (holding_after (holding past seat) e.kind) (holding past seat)) HoldingFits
    by_seat true = holding_fits_after (holding past seat) e.kind fits.kind known
    by_seat false = known

pub holding_fits : (past : List Entry) (seat : ℕ) (h : Holding) → AllByRecursion Fits past → holding past seat ≡ Some h → HoldingFits h
unfolding holding
holding_fits past seat h all is = subst (λ o. IfSome o HoldingFits) is
    (fitting_induction (λ before. IfSome (holding before seat) HoldingFits) tt (λ before e. holding_fits_next before e seat) past all)

-- ---- what cells have, and what items add up to

either_fits : (b : Bool) (left value : ℕ) → left < 2 ^ 64 → value < 2 ^ 64 → cond b left value < 2 ^ 64
either_fits true left value first second = first
either_fits false left value first second = second

cell_fits_next : (script : Plan) (past : List Entry) (e : Entry) (s : ℕ) → Fits e → cell_of script past s < 2 ^ 64 → cell_of script (past ++ e ∷ []) s < 2 ^ 64
cell_fits_next script past e s fits known = rw (cell_of_push script past e s) (by_kind e.kind fits.kind)
  where
    by_kind : (kind : Kind) → KindFits kind → cell_after script s past (cell_of script past s) e.seat kind < 2 ^ 64
    by_kind (kinds.End task left) fit = either_fits (holds_of (runs_of script s) (running past e.seat)) left (cell_of script past s) fit.1 known
    by_kind kind fit = known

pub cell_fits : (script : Plan) (past : List Entry) (s : ℕ) → AllByRecursion Fits past → cell_of script past s < 2 ^ 64
unfolding cell_of fold_past
cell_fits script past s = fitting_induction (λ before. cell_of script before s < 2 ^ 64) (omega arith) (λ before e. cell_fits_next script before e s) past

main_cell_fits_next : (past : List Entry) (e : Entry) (q : ℕ) → Fits e → main_cell_of past q < 2 ^ 64 → main_cell_of (past ++ e ∷ []) q < 2 ^ 64
main_cell_fits_next past e q fits known = rw (main_cell_of_push past e q) (by_kind e.kind fits.kind)
  where
    by_kind : (kind : Kind) → KindFits kind → main_cell_after q past (main_cell_of past q) e.seat kind < 2 ^ 64
    by_kind (kinds.MainEnd task left) fit = either_fits (holds_of (λ w. w.is_main && eqb w.home q) (running past e.seat)) left (main_cell_of past q) fit.1 known
    by_kind kind fit = known

pub main_cell_fits : (past : List Entry) (q : ℕ) → AllByRecursion Fits past → main_cell_of past q < 2 ^ 64
unfolding main_cell_of fold_past
main_cell_fits past q = fitting_induction (λ before. main_cell_of before q < 2 ^ 64) (omega arith) (λ before e. main_cell_fits_next before e q) past

job_sum_fits_next : (past : List Entry) (e : Entry) (j : ℕ) → job_sum past j < 2 ^ 64 → job_sum (past ++ e ∷ []) j < 2 ^ 64
job_sum_fits_next past e j known = rw (job_sum_push past e j) (by_value (value_by j e.kind))
  where
    by_value : (o : Option ℕ) → option_map_or (λ value. (job_sum past j + value) % 2 ^ 64) o (job_sum past j) < 2 ^ 64
    by_value None = known
    by_value (Some value) = omega arith

-- in whatever past
pub job_sum_fits : (past : List Entry) (j : ℕ) → job_sum past j < 2 ^ 64
unfolding job_sum
job_sum_fits past j = push_induction (λ before. job_sum before j < 2 ^ 64) (omega arith) (λ before e. job_sum_fits_next before e j) past

-- ---- what was accepted

abbrev pub PostedFits : Posted → Type 0
PostedFits p = (p.task < 2 ^ 32) × (p.home < 2 ^ 32)

posted_by_fits : (before : List Entry) (kind : Kind) → KindFits kind → AllByRecursion PostedFits (posted_by before kind)
posted_by_fits before (kinds.Post task runner delay true) fits = ((fits.0, fits.1), tt)
posted_by_fits before (kinds.Post task runner delay false) fits = tt
posted_by_fits before kind fits = tt

posts_fit : (past : List Entry) → AllByRecursion Fits past → AllByRecursion PostedFits (posts past)
unfolding posts fold_past
posts_fit = fitting_induction (λ past. AllByRecursion PostedFits (posts past)) tt (λ past e fits known.
    subst (AllByRecursion PostedFits) (sym (posts_push past e))
    (AllByRecursion-append PostedFits (posts past) (posted_by past e.kind) known (posted_by_fits past e.kind fits.kind)))

pub posted_fits : (past : List Entry) (p : Posted) → AllByRecursion Fits past → Contains (posts past) p → PostedFits p
posted_fits past p all = AllByRecursion-contains PostedFits (posts past) p (posts_fit past all)

main_posted_by_fits : (before : List Entry) (kind : Kind) → KindFits kind → AllByRecursion PostedFits (main_posted_by before kind)
main_posted_by_fits before (kinds.Main task queue delay true) fits = ((fits.0, fits.1), tt)
main_posted_by_fits before (kinds.Main task queue delay false) fits = tt
main_posted_by_fits before kind fits = tt

main_posts_fit : (past : List Entry) → AllByRecursion Fits past → AllByRecursion PostedFits (main_posts past)
unfolding main_posts fold_past
main_posts_fit = fitting_induction (λ past. AllByRecursion PostedFits (main_posts past)) tt (λ past e fits known.
    subst (AllByRecursion PostedFits) (sym (main_posts_push past e))
    (AllByRecursion-append PostedFits (main_posts past) (main_posted_by past e.kind) known (main_posted_by_fits past e.kind fits.kind)))

pub main_posted_fits : (past : List Entry) (p : Posted) → AllByRecursion Fits past → Contains (main_posts past) p → PostedFits p
main_posted_fits past p all = AllByRecursion-contains PostedFits (main_posts past) p (main_posts_fit past all)
