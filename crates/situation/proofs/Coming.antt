-- The situation decides what may come.
-- Cited by `Counts`, `Futures`, `decides.rt`.
use Rattle.std.proofs.Common.{◌≡◌, ℕ, ◌≤◌, true, List}
use Rattle.std.specs.Option.{option_map}
use Rattle.task_base.specs.Plan.{Plan}
use Rattle.task_base.specs.declared.entry.Entry.{Entry}
use Rattle.task_base.specs.declared.entry.Kind.{Kind}
use Rattle.script_model.specs.Laws.Sound.{IsSound}
use Rattle.hist_model.specs.Allowed.{may_come}
use Rattle.hist_model.specs.Legal.{IsLegal}
use Rattle.hist_model.specs.Script.{is_whole}
use Rattle.hist_model.specs.Laws.Ways.{is_due, way_on}
use Rattle.situation.specs.Alike.{without_items}
use Rattle.situation.specs.Situation.{is_pool_script, situation_of}
use Rattle.situation.proofs.Same.{same_work}
use Rattle.situation.proofs.Ways.{way_told, due_same, whole_same, comes_alike}

module _ (script : Plan) (past other : List Entry) (sound : IsSound script) (pool : is_pool_script script ≡ true) (legal : IsLegal script past)
    (legal_other : IsLegal script other) (same : situation_of script past ≡ situation_of script other) where
  pub decides_way : (seat : ℕ) → option_map without_items (way_on script past seat) ≡ option_map without_items (way_on script other seat)
  decides_way seat = way_told script past other sound pool legal legal_other (same_work script past other sound legal legal_other same) seat

  pub decides_due : (kind like : Kind) → without_items kind ≡ without_items like → is_due script past kind ≡ is_due script other like
  decides_due kind like alike = due_same script past other sound pool legal legal_other
      (same_work script past other sound legal legal_other same) kind like alike

  pub decides_whole : is_whole script past ≡ is_whole script other
  decides_whole = whole_same script past other sound pool legal legal_other (same_work script past other sound legal legal_other same)

  pub decides_coming : (seat : ℕ) (kind : Kind) → seat ≤ script.workers → may_come script past seat kind ≡ true
      → (like : Kind) × (without_items kind ≡ without_items like) × (may_come script other seat like ≡ true)
  decides_coming seat kind known may =
      comes_alike script past other sound pool legal legal_other (same_work script past other sound legal legal_other same) seat kind known may
