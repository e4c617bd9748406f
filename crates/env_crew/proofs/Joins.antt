-- How the driver moves on in a join.
-- Cited by `join`.
use Rattle.std.proofs.Common.{◌≡◌, ℕ, true, false, List, [], ◌∷◌, ◌++◌, refl, sym, ap, ◌∙◌, append-nil, append_assoc, Option, Some, None, arith}
use Rattle.std.specs.Prelude.{◌==◌, ◌&&◌, is_none}
use Rattle.std.specs.List.{AllByRecursion}
use Rattle.std.proofs.lemmas.Bool.{and_parts}
use Rattle.list_laws.proofs.Elements.{AllByRecursion-append, AllByRecursion-map}
use Rattle.list_laws.proofs.Values.{eqb-same}
use Rattle.task_base.specs.declared.entry.Entry.{Entry}
use Rattle.task_base.specs.declared.entry.JobReply.{JobReply}
use Rattle.task_base.specs.declared.entry.Kind.{Kind}
use Rattle.task_base.specs.declared.entry.Kind.TheVariants as kinds
use Rattle.task_base.specs.declared.script.Action.{Action}
use Rattle.task_base.specs.declared.script.Action.TheVariants as actions
use Rattle.task_model.specs.Orders.{moment_of}
use Rattle.task_model.specs.Seats.{holding, is_free, running}
use Rattle.hist_model.specs.Moments.{ticks_of}
use Rattle.hist_model.specs.Script.{behind_join, is_joined, wants}
use Rattle.task_body.specs.Passes.{PassView}
use Rattle.env_core.specs.Jobs.{HasJoinedIn}
use Rattle.env_core.specs.Views.{Enters}
use Rattle.env_crew.specs.Desk.{DeskView, Holds, IsLater, as_seen, mine, view_at}
use Rattle.env_crew.specs.Driving.{HasDone, AreLeft, IsWanted}
use Rattle.env_crew.specs.Items.{HasDoneItems, is_step}
use Rattle.env_crew.proofs.Holds.{later_entered, later_kept, later_trans, mine_entered, mine_kept}
use Rattle.env_crew.proofs.Visits.{EndsItems, gone_in, has_visited}
use Rattle.env_crew.proofs.Moves.{at_more, at_next, wanted_at}
use Rattle.env_crew.proofs.Rests.{free_stays}
use Rattle.env_crew.proofs.Time.{no_ticks, time_stays}

-- an entry inside a join: the join is not complete behind it, and it is no tick
abbrev IsInside : Kind → Type 0
IsInside kind = (is_joined kind ≡ false) × (moment_of kind ≡ None)

step_inside : (kind : Kind) → is_step kind ≡ true → IsInside kind
step_inside (kinds.JobStep job id item value next) step = (refl, refl)
step_inside kind step = absurd cc

inside_first : (made entries : List Entry) → AllByRecursion (λ e. IsInside e.kind) made → behind_join (made ++ entries) ≡ behind_join entries
inside_first [] entries inside = refl
inside_first (e ∷ made) entries inside = rw inside.0.0 (inside_first made entries inside.1)

-- the driver is inside a join since the start, where it held nothing, and holds nothing again
pub record Joining (start now : DeskView) : Type 0 where
  pub later : IsLater start now
  pub made : List Entry
  pub inside : AllByRecursion (λ e. IsInside e.kind) made
  pub grows : mine now ≡ mine start ++ made
  pub rests : is_free (mine now) 0 ≡ true

-- the driver entered nothing meanwhile
pub join_stays : (start now new : DeskView) → Joining start now → IsLater now new → mine new ≡ mine now → Joining start new
join_stays start now new was later same = record {
  later = later_trans start now new was.later later;
  made = was.made;
  inside = was.inside;
  grows = same ∙ was.grows;
  rests = ap (λ own. is_free own 0) same ∙ was.rests;
}

-- a call that entered nothing
pub join_waits : (start now new : DeskView) (past : List Entry) → Joining start now → Holds now past new → as_seen new ≡ view_at now past → Joining start new
join_waits start now new past was holds kept = join_stays start now new was (later_kept holds kept) (mine_kept holds kept)

-- the driver, which has gone in, may end its item
pub join_enters : (start now inside : DeskView) (past : List Entry) (job : ℕ) (pass : PassView) → Joining start now → start.seat ≡ 0 → Holds now past inside
    → HasJoinedIn (view_at now past) (as_seen inside) now.seat job pass → EndsItems inside inside (Some pass)
join_enters start now inside past job pass was driver holds joined =
    let seat = was.later.seat_is ∙ driver in
    gone_in now inside past pass (omega (arith, seat)) (ap (λ s. is_free (mine now) s) seat ∙ was.rests) holds joined.goes_in

-- and once it has left, the join goes on
pub join_goes_on : (start now inside new : DeskView) (past : List Entry) (job : ℕ) (pass : PassView) → Joining start now → start.seat ≡ 0
    → Holds now past inside → HasJoinedIn (view_at now past) (as_seen inside) now.seat job pass → HasDoneItems inside new
    → is_free (mine new) new.seat ≡ true → Joining start new
join_goes_on start now inside new past job pass was driver holds joined did free =
    let t : Entry = record { seat = now.seat; kind = kinds.JobTake pass.job pass.id pass.item } in
    let visit = has_visited now inside new past pass holds joined.goes_in did in
    record {
      later = later_trans start now new was.later visit.later;
      made = was.made ++ (t ∷ visit.steps);
      inside = AllByRecursion-append (λ (e : Entry). IsInside e.kind) was.made (t ∷ visit.steps) was.inside (
        (refl, refl),
        AllByRecursion-map (λ (e : Entry). is_step e.kind ≡ true) (λ (e : Entry). IsInside e.kind) visit.steps
            (λ e step. step_inside e.kind step) visit.stepping,
      );
      grows = visit.grows ∙ ap (λ own. own ++ (t ∷ visit.steps)) was.grows ∙ append_assoc (mine start) was.made (t ∷ visit.steps);
      rests = ap (λ s. is_free (mine new) s) (sym (visit.later.seat_is ∙ was.later.seat_is ∙ driver)) ∙ free;
    }

-- what a join wants of its job, while the driver holds nothing
pub wants_inside : {start now : DeskView} (job : ℕ) → Joining start now → (job == job && is_none (holding (mine now) 0)) ≡ true
wants_inside {now = now} job was = rw (eqb-same job) (and_parts (is_none (running (mine now) 0)) (is_none (holding (mine now) 0)) was.rests).1

-- it is what the script wants next
pub wanted_inside : {start now : DeskView} (job : ℕ) (rest : List Action) (kind : Kind) → Joining start now → start.seat ≡ 0
    → AreLeft start (actions.Join job ∷ rest) [] → ((made : List Entry) → wants (mine now) (actions.Join job) made kind ≡ true) → IsWanted now kind
wanted_inside {start} {now} job rest kind was driver at wanted =
    wanted_at now (actions.Join job) rest was.made kind (was.later.seat_is ∙ driver)
    (at_more start now (actions.Join job ∷ rest) [] was.made was.later.script_is was.grows at)
    (ap behind_join (sym (append-nil was.made)) ∙ inside_first was.made [] was.inside) (wanted was.made)

-- the job has its reply, so the join is done
pub join_ends : (start now new : DeskView) (past : List Entry) (job : ℕ) (reply : JobReply) (clock : ℕ → Option ℕ) → Joining start now → Holds now past new
    → Enters (view_at now past) (as_seen new) now.seat (kinds.Joined job reply) → HasDone (actions.Join job) start new clock clock
join_ends start now new past job reply clock was holds enters =
    let kind = kinds.Joined job reply in
    let e : Entry = record { seat = now.seat; kind = kind } in
    let own = mine_entered holds kind enters in
    let all : mine new ≡ mine start ++ (was.made ++ e ∷ []) = own ∙ ap (λ xs. xs ++ e ∷ []) was.grows ∙ append_assoc (mine start) was.made (e ∷ []) in
    record {
      later = later_trans start now new was.later (later_entered holds kind enters);
      next = λ rest at. at_next new (actions.Join job) rest (was.made ++ e ∷ []) []
          (at_more start new (actions.Join job ∷ rest) [] (was.made ++ e ∷ []) (holds.script_is ∙ was.later.script_is) all at)
          (inside_first was.made (e ∷ []) was.inside);
      rests = ap (λ xs. is_free xs 0) own ∙ free_stays (mine now) (e ∷ []) 0 (λ run. refl, tt) (λ held. refl, tt) ∙ was.rests;
      time = λ told keeps. time_stays told clock (mine start) (mine new) (ap (λ xs. ticks_of xs) all
          ∙ no_ticks (mine start) (was.made ++ e ∷ []) (AllByRecursion-append (λ (x : Entry). moment_of x.kind ≡ None) was.made (e ∷ [])
          (AllByRecursion-map (λ (x : Entry). IsInside x.kind) (λ (x : Entry). moment_of x.kind ≡ None) was.made (λ x inside. inside.1) was.inside)
          (refl, tt))) keeps;
    }
