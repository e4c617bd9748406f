-- How the driver moves on in its actions.
-- Cited by `drive`, `perform`, `pump`, `tick`, `Done`, `Joins`, `Pump`.
use Rattle.std.proofs.Common.{◌≡◌, ℕ, zero, suc, ◌+◌, ◌<◌, Bool, true, false, List, [], ◌∷◌, ◌++◌}
use Rattle.std.proofs.Common.{length, refl, sym, ap, subst, ◌∙◌, Some, None, append-nil, append_assoc, arith, get_or, drop, drop-cons}
use Rattle.std.specs.Option.{option_map_or}
use Rattle.std.specs.Prelude.{is_none}
use Rattle.list_laws.proofs.Values.{eqb-same}
use Rattle.list_laws.specs.Lists.{holds_of}
use Rattle.task_base.specs.Plan.{Plan}
use Rattle.task_base.specs.declared.entry.Entry.{Entry}
use Rattle.task_base.specs.declared.entry.Kind.{Kind}
use Rattle.task_base.specs.declared.entry.Kind.TheVariants as kinds
use Rattle.task_base.specs.Groups.{importance}
use Rattle.task_traits.specs.declared.traits.Priority.{Priority}
use Rattle.task_base.specs.declared.script.Action.{Action}
use Rattle.task_base.specs.declared.script.Action.TheVariants as actions
use Rattle.task_base.specs.declared.script.FenceAt.{FenceAt}
use Rattle.task_base.specs.declared.script.FenceAt.TheVariants as fences
use Rattle.task_model.specs.Seats.{running, holding, is_free}
use Rattle.hist_model.specs.Open.{IsClosed}
use Rattle.hist_model.specs.Script.{behind, behind_action, wants, current, is_wanted, is_finished}
use Rattle.hist_model.specs.Views.{own_entries}
use Rattle.hist_model.specs.Laws.Agenda.{agenda, agenda_from, agenda_after, current_of}
use Rattle.hist_model.proofs.Laws.Agenda.{agenda_push, current_is_first}
use Rattle.hist_model.proofs.Laws.Open.{closed_finished, closed_wanted}
use Rattle.env_crew.specs.Desk.{DeskView, mine}
use Rattle.env_crew.specs.Driving.{AreLeft, IsWanted}

-- one more entry of an agenda
from_push : (script : Plan) (actions : List Action) (made : List Entry) (e : Entry)
    → agenda_from actions (made ++ e ∷ []) ≡ agenda_after (agenda_from actions made) e
unfolding agenda
from_push script actions made e = agenda_push (record script { actions = actions }) made e

-- the first of the actions makes more entries
pub at_more : (old new : DeskView) (actions : List Action) (made more : List Entry) → new.script ≡ old.script → mine new ≡ mine old ++ more
    → AreLeft old actions made → AreLeft new actions (made ++ more)
unfolding AreLeft
at_more old new actions made more same own at = (
  ap (λ s. s.is_open) same ∙ at.0,
  ap (λ s. agenda s (mine new)) same ∙ ap (λ all. agenda old.script all) own ∙ grown (mine old) made more at.1,
)
  where
    grown : (own made more : List Entry) → agenda old.script own ≡ agenda_from actions made
        → agenda old.script (own ++ more) ≡ agenda_from actions (made ++ more)
    grown own made [] at = ap (λ all. agenda old.script all) (append-nil own) ∙ at ∙ ap (λ all. agenda_from actions all) (sym (append-nil made))
    grown own made (e ∷ more) at = ap (λ all. agenda old.script all) (sym (append_assoc own (e ∷ []) more))
        ∙ grown (own ++ e ∷ []) (made ++ e ∷ []) more
        (agenda_push old.script own e ∙ ap (λ a. agenda_after a e) at ∙ sym (from_push old.script actions made e))
        ∙ ap (λ all. agenda_from actions all) (append_assoc made (e ∷ []) more)

-- what the first of the actions wants is wanted next
pub wanted_at : (d : DeskView) (action : Action) (rest : List Action) (made : List Entry) (kind : Kind) → d.seat ≡ 0 → AreLeft d (action ∷ rest) made
    → behind_action action made ≡ None → wants (mine d) action made kind ≡ true → IsWanted d kind
unfolding AreLeft
wanted_at d action rest made kind driver at more is = record {
  driver = driver;
  wanted = subst (λ n. is_wanted d.script (own_entries n d.seen) kind ≡ true) driver (closed_wanted d.script (mine d) kind at.0
      ∙ ap (λ c. holds_of (λ c. wants (mine d) c.action c.made kind) c) (current_is_first d.script (mine d) ∙ ap current_of at.1
      ∙ ap (λ o. current_of (option_map_or (λ left. agenda_from rest left) o (record { actions = action ∷ rest; made = made }))) more) ∙ is);
}

-- an action that has made nothing wants its first entry
pub wanted_first : (d : DeskView) (given action : Action) (kind : Kind) → d.seat ≡ 0 → given ≡ action → (rest : List Action) × AreLeft d (given ∷ rest) []
    → behind_action action [] ≡ None → wants (mine d) action [] kind ≡ true → IsWanted d kind
wanted_first d given action kind driver is at more wanted =
    wanted_at d action at.0 [] kind driver (subst (λ x. AreLeft d (x ∷ at.0) []) is at.1) more wanted

-- the first of the actions is complete, and the next one begins
pub at_next : (d : DeskView) (action : Action) (rest : List Action) (made left : List Entry) → AreLeft d (action ∷ rest) made
    → behind_action action made ≡ Some left → AreLeft d rest left
unfolding AreLeft
at_next d action rest made left at done =
    (at.0, at.1 ∙ ap (λ o. option_map_or (λ left. agenda_from rest left) o (record { actions = action ∷ rest; made = made })) done)

-- a count of entries that was not made
pub behind_short : (n : ℕ) (made : List Entry) → length made < n → behind n made ≡ None
behind_short zero made h = absurd (omega arith)
behind_short (suc n) [] h = refl
behind_short (suc n) (e ∷ made) h = behind_short n made (omega arith)

-- a count of entries that was made
pub behind_all : (n : ℕ) (made : List Entry) → length made ≡ n → behind n made ≡ Some []
behind_all zero [] h = refl
behind_all zero (e ∷ made) h = absurd (omega arith)
behind_all (suc n) [] h = absurd (omega arith)
behind_all (suc n) (e ∷ made) h = behind_all n made (omega arith)

-- a post is what a post's action wants
pub wants_post : (own : List Entry) (t r d : ℕ) (ok : Bool) → wants own (actions.Post t r d) [] (kinds.Post t r d ok) ≡ true
wants_post own t r d ok = rw (eqb-same t, eqb-same r, eqb-same d) refl

-- and so to a main queue
pub wants_main : (own : List Entry) (t q d : ℕ) (ok : Bool) → wants own (actions.Main t q d) [] (kinds.Main t q d ok) ≡ true
wants_main own t q d ok = rw (eqb-same t, eqb-same q, eqb-same d) refl

-- a fence that stands there
pub wants_fence : (own : List Entry) (q : ℕ) (at : FenceAt) → wants own (actions.Fence q at) [] (kinds.Fence q at) ≡ true
wants_fence own q fences.Now = rw (eqb-same q) refl
wants_fence own q fences.Start = rw (eqb-same q) refl

-- a vote for it, or against it
pub wants_vote : (own : List Entry) (q v : ℕ) (on : Bool) → wants own (actions.Vote q v on) [] (kinds.Vote q v on) ≡ true
wants_vote own q v true = rw (eqb-same q, eqb-same v) refl
wants_vote own q v false = rw (eqb-same q, eqb-same v) refl

-- the class
pub wants_rank : (own : List Entry) (q c : ℕ) → wants own (actions.Rank q c) [] (kinds.Rank q c) ≡ true
wants_rank own q c = rw (eqb-same q, eqb-same c) refl

-- a changed priority
pub wants_reprio : (own : List Entry) (r : ℕ) (p : Priority) → wants own (actions.Reprio r p) [] (kinds.Reprio r p) ≡ true
wants_reprio own r p = rw (eqb-same r, eqb-same (importance p)) refl

-- at the start all actions are left
pub at_start : (d : DeskView) (script : Plan) (actions : List Action) → IsClosed script → d.script ≡ script → actions ≡ script.actions → mine d ≡ []
    → AreLeft d actions []
unfolding AreLeft agenda
at_start d script actions closed same all none = (
  ap (λ s. s.is_open) same ∙ closed,
  ap (λ s. agenda s (mine d)) same ∙ ap (λ own. agenda script own) none ∙ ap (λ xs. agenda_from xs []) (sym all),
)

-- nothing is left, so the script is finished
pub finished_at : (d : DeskView) → d.seat ≡ 0 → AreLeft d [] [] → is_finished d.script d.seen ≡ true
unfolding AreLeft
finished_at d driver at = closed_finished d.script d.seen at.0 ∙ subst (λ n. is_none (current d.script (own_entries n d.seen)) ≡ true) driver
    (ap is_none (current_is_first d.script (mine d) ∙ ap current_of at.1))

-- the next action of a list
pub at_action : (d : DeskView) (xs : List Action) (i : ℕ) (x : Action) → i < length xs → AreLeft d (drop i xs) []
    → AreLeft d (get_or xs i x ∷ drop (i + 1) xs) []
at_action d xs i x below at =
    let next : suc i ≡ i + 1 = omega arith in
    subst (λ n. AreLeft d (get_or xs i x ∷ drop n xs) []) next (subst (λ l. AreLeft d l []) (drop-cons xs i x below) at)

-- a driver with no entry runs and holds nothing
pub nothing_rests : (d : DeskView) → mine d ≡ [] → is_free (mine d) 0 ≡ true
unfolding running holding
nothing_rests d none = rw none refl
