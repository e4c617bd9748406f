use Rattle.worked_calls.proofs.texts.assert_log.Goals as goal

pub returns : goal.returns
returns c =
    rw (← c.len-2.ensures.count, ← c.in_ok-text.ensures.ok, ← c.as_str.ensures.value, ← c.in_ok-written.ensures, ← c.deref.ensures.value)
    c.assert_text.ensures
