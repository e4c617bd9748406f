-- What is known of a desk behind one hold of the turn.
-- Cited by `drive`, `perform`, `tick`, `finish_cancel`, `finish_shutdown`, `flush`, `work`, `Done`, `Joins`, `Pump`, `Spares`, `Tasks`,
-- `Visits`.
use Rattle.std.proofs.Common.{◌≡◌, ◌+◌, false, List, [], ◌∷◌, ◌++◌, length, refl, sym, ap, ◌∙◌, append-nil, append_assoc, arith}
use Rattle.std.proofs.lemmas.List.{length-append}
use Rattle.list_laws.proofs.Values.{eqb-same}
use Rattle.task_base.specs.declared.entry.Entry.{Entry}
use Rattle.task_base.specs.declared.entry.Kind.{Kind}
use Rattle.task_model.specs.Seats.{running, running_after, holding, holding_after, acts_done, acts_after}
use Rattle.task_model.proofs.Growth.{running_push, holding_push, acts_done_push}
use Rattle.hist_model.proofs.Laws.Own.{own_entries_push}
use Rattle.env_core.specs.Views.{Enters}
use Rattle.env_crew.specs.Desk.{DeskView, IsLater, Holds, as_seen, mine, view_at, with_own}

-- a desk is itself later on
pub later_refl : (d : DeskView) → IsLater d d
later_refl d = record {
  script_is = refl;
  seat_is = refl;
  origin_is = refl;
  grows = ([], sym (append-nil d.seen));
  turned = omega arith;
  loads_is = refl;
  last_is = refl;
  told_on = λ told. told;
}

-- later than later is later
pub later_trans : (a b c : DeskView) → IsLater a b → IsLater b c → IsLater a c
later_trans a b c first second = record {
  script_is = second.script_is ∙ first.script_is;
  seat_is = second.seat_is ∙ first.seat_is;
  origin_is = second.origin_is ∙ first.origin_is;
  grows = (
    first.grows.0 ++ second.grows.0,
    second.grows.1 ∙ ap (λ s. s ++ second.grows.0) first.grows.1 ∙ append_assoc a.seen first.grows.0 second.grows.0,
  );
  turned = omega (arith, first.turned, second.turned);
  loads_is = second.loads_is ∙ first.loads_is;
  last_is = second.last_is ∙ first.last_is;
  told_on = λ told. second.told_on (first.told_on told);
}

-- a desk that has slept is later
pub later_asleep : (old new : DeskView) → IsLater old new → IsLater old (record new { rests = false })
later_asleep old new later = record {
  script_is = later.script_is;
  seat_is = later.seat_is;
  origin_is = later.origin_is;
  grows = later.grows;
  turned = later.turned;
  loads_is = later.loads_is;
  last_is = later.last_is;
  told_on = later.told_on;
}

module _ {old new : DeskView} {past : List Entry} (holds : Holds old past new) where
  -- a desk is later where its hold left the past as it was, or longer
  later_held : (rest : List Entry) → new.seen ≡ past ++ rest → IsLater old new
  later_held rest is = record {
    script_is = holds.script_is;
    seat_is = holds.seat_is;
    origin_is = holds.origin_is;
    grows = (holds.begins.0 ++ rest, is ∙ ap (λ s. s ++ rest) holds.begins.1 ∙ append_assoc old.seen holds.begins.0 rest);
    turned = omega (arith, holds.turned);
    loads_is = holds.loads_is;
    last_is = holds.last_is;
    told_on = holds.told_on;
  }

  -- a desk is later where nothing was entered
  pub later_kept : as_seen new ≡ view_at old past → IsLater old new
  later_kept kept = later_held [] (ap (λ v. v.history) kept ∙ sym (append-nil past))

  -- a desk is later where an entry was made
  pub later_entered : (kind : Kind) → Enters (view_at old past) (as_seen new) old.seat kind → IsLater old new
  later_entered kind entered = later_held (record { seat = old.seat; kind = kind } ∷ []) (ap (λ v. v.history) entered.entered)

  -- the seat's entries stay where nothing was entered
  pub mine_kept : as_seen new ≡ view_at old past → mine new ≡ mine old
  mine_kept kept = rw (holds.seat_is, ap (λ v. v.history) kept) holds.own

  -- an entry is one more of the seat's own
  pub mine_entered : (kind : Kind) → Enters (view_at old past) (as_seen new) old.seat kind → mine new ≡ with_own old kind
  mine_entered kind entered = rw (
    holds.seat_is,
    ap (λ v. v.history) entered.entered,
    own_entries_push past (record { seat = old.seat; kind = kind }) old.seat,
    eqb-same old.seat,
    holds.own,
  ) refl

  -- the seat then has one entry more
  pub length_entered : (kind : Kind) → Enters (view_at old past) (as_seen new) old.seat kind → length (mine new) ≡ length (mine old) + 1
  length_entered kind entered = ap length (mine_entered kind entered) ∙ length-append (mine old) (record { seat = old.seat; kind = kind } ∷ [])

  -- what the seat runs behind its entry
  pub running_entered : (kind : Kind) → Enters (view_at old past) (as_seen new) old.seat kind
      → running (mine new) new.seat ≡ running_after (running (mine old) old.seat) kind
  running_entered kind entered = ap (λ s. running (mine new) s) holds.seat_is ∙ ap (λ own. running own old.seat) (mine_entered kind entered)
      ∙ running_push (mine old) (record { seat = old.seat; kind = kind }) old.seat ∙ rw (eqb-same old.seat) refl

  -- what it holds
  pub holding_entered : (kind : Kind) → Enters (view_at old past) (as_seen new) old.seat kind
      → holding (mine new) new.seat ≡ holding_after (holding (mine old) old.seat) kind
  holding_entered kind entered = ap (λ s. holding (mine new) s) holds.seat_is ∙ ap (λ own. holding own old.seat) (mine_entered kind entered)
      ∙ holding_push (mine old) (record { seat = old.seat; kind = kind }) old.seat ∙ rw (eqb-same old.seat) refl

  -- how many act steps of its task were entered
  pub acts_entered : (kind : Kind) → Enters (view_at old past) (as_seen new) old.seat kind
      → acts_done (mine new) new.seat ≡ acts_after (acts_done (mine old) old.seat) kind
  acts_entered kind entered = ap (λ s. acts_done (mine new) s) holds.seat_is ∙ ap (λ own. acts_done own old.seat) (mine_entered kind entered)
      ∙ acts_done_push (mine old) (record { seat = old.seat; kind = kind }) old.seat ∙ rw (eqb-same old.seat) refl
