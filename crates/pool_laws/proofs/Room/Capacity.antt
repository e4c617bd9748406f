-- What a seat that is free does, and what an entry leaves of open scopes: one that opens and closes no scope of a task leaves its
-- scope.
-- Cited by `env_core`, `env_explain`, `env_step`, `hist_model`, `next_entry`, `pool_core`, `run_summary`.
use Rattle.std.proofs.Common.{◌≡◌, ℕ, true, false, List, [], ◌∷◌, ◌++◌, refl, sym, ◌∙◌, Option, Some, None}
use Rattle.std.specs.Prelude.{◌&&◌, is_none}
use Rattle.std.proofs.lemmas.Bool.{true≢false}
use Rattle.task_base.specs.declared.entry.Entry.{Entry}
use Rattle.task_base.specs.declared.entry.Kind.{Kind}
use Rattle.task_base.specs.declared.entry.Kind.TheVariants.{Enter, Leave}
use Rattle.task_model.specs.Seats.{Running, Holding, running, holding, is_free}
use Rattle.task_model.specs.Capacity.{OpenScope, open_scope, scope_after}
use Rattle.pool_laws.specs.Room.{scopes}
use Rattle.task_model.proofs.Growth.{open_scope_push}

-- a seat that is free does no work
pub free_parts : (past : List Entry) (seat : ℕ) → is_free past seat ≡ true → (running past seat ≡ None) × (holding past seat ≡ None)
free_parts past seat free = by_running (running past seat) (holding past seat) free
  where
    by_running : (r : Option Running) (h : Option Holding) → (is_none r && is_none h) ≡ true → (r ≡ None) × (h ≡ None)
    by_running None None is = (refl, refl)
    by_running None (Some h) is = absurd (true≢false (sym is))
    by_running (Some r) h is = absurd (true≢false (sym is))

pub scope_stays : (t : ℕ) (past : List Entry) (now : Option OpenScope) (kind : Kind) → scopes t kind ≡ false → scope_after t past now kind ≡ now
scope_stays t past now (Enter task scope) h = rw h refl
scope_stays t past now (Leave task) h = rw h refl
scope_stays t past now kind h = refl

pub scope_kept : (past : List Entry) (e : Entry) (t : ℕ) → scopes t e.kind ≡ false → open_scope (past ++ e ∷ []) t ≡ open_scope past t
scope_kept past e t quiet = open_scope_push past e t ∙ scope_stays t past (open_scope past t) e.kind quiet
