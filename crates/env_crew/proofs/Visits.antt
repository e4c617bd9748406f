-- A seat inside a job: how it goes in, and the items that it ends there.
-- Cited by `do_items`, `serve_or`, `Joins`.
use Rattle.std.proofs.Common.{◌≡◌, ℕ, ◌<◌, ◌≤◌, true, List, [], ◌∷◌, ◌++◌, length, refl, sym, ap, ◌∙◌, append-nil, append_assoc, Option, Some, None, arith}
use Rattle.std.specs.Prelude.{is_none, nat_lt, slice_get}
use Rattle.std.specs.List.{AllByRecursion}
use Rattle.std.specs.Option.{option_map_or}
use Rattle.std.proofs.lemmas.Bool.{and_parts, ltb-true}
use Rattle.std.proofs.lemmas.List.{length-append}
use Rattle.std.proofs.lemmas.Option.{slice_get_within}
use Rattle.list_laws.proofs.Places.{AllByRecursion-push}
use Rattle.task_base.specs.Plan.{Plan, JobPlan}
use Rattle.task_base.specs.declared.entry.Entry.{Entry}
use Rattle.task_base.specs.declared.entry.Kind.{Kind}
use Rattle.task_base.specs.declared.entry.Kind.TheVariants as kinds
use Rattle.task_model.specs.Jobs.{claimed, has_unclaimed, may_enter}
use Rattle.task_model.specs.Seats.{holding, is_free, running}
use Rattle.hist_model.proofs.Laws.JobEntries.{none_is}
use Rattle.task_body.specs.Passes.{PassView}
use Rattle.env_core.specs.Jobs.{HasGoneIn, IsHeld}
use Rattle.env_core.specs.Views.{Enters}
use Rattle.env_crew.specs.Calls.{HasStepped}
use Rattle.env_crew.specs.Desk.{DeskView, Holds, IsLater, as_seen, mine, view_at}
use Rattle.env_crew.specs.Items.{HasDoneItems, is_step}
use Rattle.env_crew.proofs.Holds.{holding_entered, later_entered, later_refl, later_trans, mine_entered, running_entered}

-- a job that may be gone into is declared
pub declared_where_entered : (script : Plan) (past : List Entry) (j : ℕ) → may_enter script past j ≡ true → j < length script.jobs
unfolding may_enter
declared_where_entered script past j may =
    within (slice_get script.jobs j) refl (and_parts _ (has_unclaimed script past j) (and_parts _ _ may).0).1
  where
    within : (found : Option JobPlan) → slice_get script.jobs j ≡ found
        → nat_lt (claimed past j) (option_map_or (λ (job : JobPlan). job.items) found 0) ≡ true → j < length script.jobs
    within None none unclaimed = absurd (omega (arith, ltb-true (claimed past j) 0 unclaimed))
    within (Some job) here unclaimed = slice_get_within script.jobs j job here

-- the item of this pass is the seat's, and its job is declared; with no pass it holds nothing
abbrev pub HoldsPass : DeskView → Option PassView → Type 0
HoldsPass d (Some pass) = IsHeld (as_seen d) d.seat pass × (pass.job < length d.script.jobs)
HoldsPass d None = holding (mine d) d.seat ≡ None

-- the seat has ended items since the start; it runs no task, and holds the item of this pass
pub record EndsItems (start now : DeskView) (pass : Option PassView) : Type 0 where
  pub did : HasDoneItems start now
  pub idle : running (mine now) now.seat ≡ None
  pub holds : HoldsPass now pass

-- at first it has ended none
pub items_start : (d : DeskView) (pass : PassView) → IsHeld (as_seen d) d.seat pass → pass.job < length d.script.jobs → running (mine d) d.seat ≡ None
    → EndsItems d d (Some pass)
items_start d pass held declared idle = record {
  did = record { later = later_refl d; made = []; grows = sym (append-nil (mine d)); steps = tt };
  idle = idle;
  holds = (held, declared);
}

-- one end of an item more
one_item_more : (start now new : DeskView) (past : List Entry) (kind : Kind) → is_step kind ≡ true → HasDoneItems start now → Holds now past new
    → Enters (view_at now past) (as_seen new) now.seat kind → HasDoneItems start new
one_item_more start now new past kind step did holds entered =
    let e : Entry = record { seat = now.seat; kind = kind } in
    record {
      later = later_trans start now new did.later (later_entered holds kind entered);
      made = did.made ++ e ∷ [];
      grows = mine_entered holds kind entered ∙ ap (λ own. own ++ e ∷ []) did.grows ∙ append_assoc (mine start) did.made (e ∷ []);
      steps = AllByRecursion-push (λ (x : Entry). is_step x.kind ≡ true) did.made e did.steps step;
    }

-- the seat goes on with the next item, or leaves
pub items_go_on : (start now new : DeskView) (past : List Entry) (pass : PassView) (value : ℕ) (got : Option PassView) → EndsItems start now (Some pass)
    → Holds now past new → HasStepped now.seat pass value got (view_at now past) (as_seen new) → EndsItems start new got
items_go_on start now new past pass value (Some next) was holds stepped =
    let kind = kinds.JobStep pass.job pass.id pass.item value (Some next.item) in
    let job : next.job ≡ pass.job = ap (λ (p : PassView). p.job) stepped.next_is in
    let id : next.id ≡ pass.id = ap (λ (p : PassView). p.id) stepped.next_is in
    record {
      did = one_item_more start now new past kind refl was.did holds stepped.enters;
      idle = running_entered holds kind stepped.enters ∙ was.idle;
      holds = (
        record { known = rw (holds.seat_is, holds.script_is) was.holds.0.known; holds = holding_entered holds kind stepped.enters ∙ rw (job, id) refl },
        rw (job, holds.script_is) was.holds.1,
      );
    }
items_go_on start now new past pass value None was holds stepped =
    let kind = kinds.JobStep pass.job pass.id pass.item value None in
    record {
      did = one_item_more start now new past kind refl was.did holds stepped.enters;
      idle = running_entered holds kind stepped.enters ∙ was.idle;
      holds = holding_entered holds kind stepped.enters;
    }

-- a seat that ran nothing has gone into a job
pub gone_in : (old new : DeskView) (past : List Entry) (pass : PassView) → old.seat ≤ old.script.workers → is_free (mine old) old.seat ≡ true
    → Holds old past new → HasGoneIn (view_at old past) (as_seen new) old.seat pass → EndsItems new new (Some pass)
gone_in old new past pass known free holds gone =
    let kind = kinds.JobTake pass.job pass.id pass.item in
    let ran = none_is (running (mine old) old.seat) (and_parts (is_none (running (mine old) old.seat)) (is_none (holding (mine old) old.seat)) free).0 in
    items_start new pass
    (record { known = rw (holds.seat_is, holds.script_is) known; holds = holding_entered holds kind gone.enters })
    (rw holds.script_is (declared_where_entered old.script past pass.job gone.may)) (running_entered holds kind gone.enters ∙ ran)

-- the seat went into a job by one entry, and ended items
pub record HasVisited (old new : DeskView) (pass : PassView) : Type 0 where
  pub later : IsLater old new
  pub turned : old.turns < new.turns
  pub steps : List Entry
  pub stepping : AllByRecursion (λ e. is_step e.kind ≡ true) steps
  pub grows : mine new ≡ mine old ++ (record { seat = old.seat; kind = kinds.JobTake pass.job pass.id pass.item } ∷ steps)

pub has_visited : (old inside new : DeskView) (past : List Entry) (pass : PassView) → Holds old past inside
    → HasGoneIn (view_at old past) (as_seen inside) old.seat pass → HasDoneItems inside new → HasVisited old new pass
has_visited old inside new past pass holds gone did =
    let kind = kinds.JobTake pass.job pass.id pass.item in
    let t : Entry = record { seat = old.seat; kind = kind } in
    record {
      later = later_trans old inside new (later_entered holds kind gone.enters) did.later;
      turned = omega (arith, holds.turned, did.later.turned);
      steps = did.made;
      stepping = did.steps;
      grows = did.grows ∙ ap (λ own. own ++ did.made) (mine_entered holds kind gone.enters) ∙ append_assoc (mine old) (t ∷ []) did.made;
    }

-- it then has more entries
pub longer_behind_visit : {old new : DeskView} {pass : PassView} → HasVisited old new pass → length (mine old) < length (mine new)
longer_behind_visit {old} {new} {pass} visit = omega (
  arith,
  ap length visit.grows
      ∙ length-append (mine old) (record { seat = old.seat; kind = kinds.JobTake pass.job pass.id pass.item } ∷ visit.steps),
)

-- and is free, by the number that the seat had before
pub free_behind_visit : {old new : DeskView} {pass : PassView} → HasVisited old new pass → is_free (mine new) new.seat ≡ true
    → is_free (mine new) old.seat ≡ true
free_behind_visit {new = new} visit free = ap (λ s. is_free (mine new) s) (sym visit.later.seat_is) ∙ free
