use Rattle.env_core.proofs.MadeWithin.{few_entries_made}
use Rattle.env_core.specs.Agenda.{shifted}
use Rattle.env_core.specs.Ledger.{IsKept, MayEnter}
use Rattle.env_core.specs.Views.{Enters, spare_of}
use Rattle.env_core.specs.declared.agenda.Agenda.{Agenda}
use Rattle.env_core.specs.declared.agenda.Shift.{Shift}
use Rattle.hist_model.proofs.Laws.Entries.Bound.{entries_within, entries_within_limit}
use Rattle.hist_model.proofs.Laws.Legal.{legal_next}
use Rattle.hist_model.specs.Legal.{IsLegal}
use Rattle.script_model.specs.Laws.Sound.{IsSound}
use Rattle.std.proofs.Common.{List, [], arith, length-append, refl, ℕ, ◌++◌, ◌+◌, ◌<◌, ◌∷◌, ◌≡◌}
use Rattle.task_base.specs.Plan.{Plan}
use Rattle.task_base.specs.Rows.{Listed}
use Rattle.task_base.specs.declared.entry.Entry.{Entry}
use Rattle.task_base.specs.declared.entry.Kind.{Kind}
use Rattle.env_core.proofs.ledger.Ledger.enter.Goals as goal

-- there is room for one less behind an entry
spare_falls : (script : Plan) (past : List Entry) (e : Entry) → IsSound script → IsLegal script (past ++ e ∷ [])
    → spare_of (record { script = script; history = past ++ e ∷ [] }) + 1 ≡ spare_of (record { script = script; history = past })
unfolding spare_of
spare_falls script past e plan legal = omega (arith, length-append past (e ∷ []), entries_within script (past ++ e ∷ []) plan legal)

module _ {script : Plan} {log : Listed Entry} {agenda : Agenda} (kept : IsKept script log agenda) (seat : ℕ) (kind : Kind) (shift : Shift)
    (may : MayEnter (record { script = script; history = log.items }) seat kind shift) where
  legal_now : IsLegal script (log.items ++ (record { seat = seat; kind = kind }) ∷ [])
  legal_now = legal_next script log.items (record { seat = seat; kind = kind }) kept.run.legal (may.allowed kept.run.plan)

  -- there is room for the entry
  has_room : 0 < log.spare
  has_room = omega (
    arith,
    kept.room,
    length-append log.items ((record { seat = seat; kind = kind }) ∷ []),
    entries_within script (log.items ++ (record { seat = seat; kind = kind }) ∷ []) kept.run.plan legal_now,
  )

  -- it has entered where it was put at the end
  enters : {items : List Entry} → items ≡ log.items ++ (record { seat = seat; kind = kind }) ∷ []
      → Enters (record { script = script; history = log.items }) (record { script = script; history = items }) seat kind
  enters is = rw is (record {
    entered = refl;
    allowed = may.allowed kept.run.plan;
    legal = legal_now;
    bounded = entries_within_limit script (log.items ++ (record { seat = seat; kind = kind }) ∷ []) kept.run.plan legal_now;
    room = spare_falls script log.items (record { seat = seat; kind = kind }) kept.run.plan legal_now;
  })

  -- and the ledger is in order behind it
  kept_next : {later : Listed Entry} {now : Agenda} → later.items ≡ log.items ++ (record { seat = seat; kind = kind }) ∷ []
      → later.spare + 1 ≡ log.spare → now ≡ shifted shift script.actions agenda → IsKept script later now
  kept_next is spare moved = record {
    run = rw (is, moved) (record { plan = kept.run.plan; legal = legal_now; driver = may.place agenda kept.run });
    room = rw is (omega (arith, kept.room, spare, length-append log.items ((record { seat = seat; kind = kind }) ∷ [])));
  }

pub follow-requires-clause-few : goal.follow-requires-clause-few
follow-requires-clause-few c =
    few_entries_made _ _ c.self.inside.agenda c.self.invariant.run.plan c.self.invariant.run.legal c.self.invariant.run.driver

pub push_spare-requires : goal.push_spare-requires
push_spare-requires c = has_room c.self.invariant c.args.seat c.args.kind c.args.shift (rw c.self.view_is c.requires)

pub invariant_of-self : goal.invariant_of-self
invariant_of-self c = kept_next c.self.invariant c.args.seat c.args.kind c.args.shift (rw c.self.view_is c.requires) c.push_spare.ensures.items
    c.push_spare.ensures.spare c.follow.ensures

pub returns : goal.returns
returns c = rw (← c.self.view_is) (enters c.self.invariant c.args.seat c.args.kind c.args.shift (rw c.self.view_is c.requires)
    c.push_spare.ensures.items)
