use Rattle.explain_text.proofs.plain.add_words.Goals as goal

pub returns-in-Runs-clause-items : goal.returns-in-Runs-clause-items
returns-in-Runs-clause-items c = rw c.in-Runs.is c.add_two.ensures.items

pub returns-in-Holds-clause-items : goal.returns-in-Holds-clause-items
returns-in-Holds-clause-items c = rw c.in-Holds.is c.add_two-in-Holds.ensures.items

pub returns-in-Best-clause-items : goal.returns-in-Best-clause-items
returns-in-Best-clause-items c = rw (c.in-Best.is, ← c.edge_words.ensures.words) c.add_one-in-Best.ensures.items

pub returns-in-NoSource-clause-items : goal.returns-in-NoSource-clause-items
returns-in-NoSource-clause-items c = rw (c.in-NoSource.is, ← c.bar_words.ensures.words) c.add_one-in-NoSource.ensures.items

pub returns-in-Finished-clause-items : goal.returns-in-Finished-clause-items
returns-in-Finished-clause-items c = rw c.in-Finished.is c.add_one-in-Finished.ensures.items

pub returns-in-Inside-clause-items : goal.returns-in-Inside-clause-items
returns-in-Inside-clause-items c = rw c.in-Inside.is c.add_two-in-Inside.ensures.items

pub returns-in-Blocked-clause-items : goal.returns-in-Blocked-clause-items
returns-in-Blocked-clause-items c = rw c.in-Blocked.is c.add_one-in-Blocked.ensures.items
