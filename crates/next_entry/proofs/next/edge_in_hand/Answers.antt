use Rattle.next_entry.proofs.next.edge_in_hand.Goals as goal

pub edge_of-requires-clause-seats_next : goal.edge_of-requires-clause-seats_next
edge_of-requires-clause-seats_next c = c.inside_of.ensures (record { script = c.args.script.now; history = c.args.past.now }) c.requires.hands

pub edge_of-requires-clause-seats_kind : goal.edge_of-requires-clause-seats_kind
edge_of-requires-clause-seats_kind c = c.inside_of-2.ensures (record { script = c.args.script.now; history = c.args.past.now }) c.requires.hands
