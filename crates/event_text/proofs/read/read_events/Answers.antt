use Rattle.std.proofs.Common.{rules, ◌≡◌, ◌+◌, ◌<◌, ◌∷◌, ◌++◌, [], length, sym, ap, ◌∙◌, arith, length-append}
use Rattle.std.proofs.lemmas.List.Elements.{All-push}
use Rattle.event_text.specs.EventText.{EventFits}
use Rattle.event_text.proofs.EventLines.{bad_is_no_text, line_is_some, no_line_begins, one_more, same_events, whole_text}
use Rattle.event_text.proofs.read.read_events.Goals as goal

pub returns-in_default-clause-bad : goal.returns-in_default-clause-bad
returns-in_default-clause-bad c line same =
    let number : c.len.result + 1 ≡ line = cc in
    let count : c.len.result ≡ length c.loop-rest.events.items = cc in
    let some : 0 < length c.loop-rest.rest.now = search rules in
    record {
      events = c.loop-rest.events.items;
      rest = c.loop-rest.rest.now;
      same = c.loop-rest.invariant.same;
      fit = c.loop-rest.invariant.fit;
      some = λ none. let empty : length c.loop-rest.rest.now ≡ 0 = ap length none in absurd (omega (arith, some, empty));
      no_further = no_line_begins c.loop-rest.rest.now c.first_line.result.0.now c.first_line.result.1.now c.first_line.ensures.first
          (c.event_at.ensures.none c.in_default.is);
      number = omega (arith, number, count);
    }

pub returns-in_default-clause-no_text : goal.returns-in_default-clause-no_text
returns-in_default-clause-no_text c line same = bad_is_no_text c.args.bytes.now line (returns-in_default-clause-bad c line same)

pub loop-rest-preserved : goal.loop-rest-preserved
loop-rest-preserved c =
    let read = c.in-Some.ensures.found in
    let some : 0 < length c.first_line.result.0.now = line_is_some _ _ read in
    let whole : length c.loop-rest.rest.now ≡ length (c.first_line.result.0.now ++ c.first_line.result.1.now) = ap length c.first_line.ensures.whole in
    record {
      same = rw c.in_ok-push.ensures.items (one_more _ _ _ _ _ _ c.loop-rest.invariant.same c.first_line.ensures.whole read);
      fit = rw c.in_ok-push.ensures.items (All-push EventFits _ _ c.loop-rest.invariant.fit read.fits);
      few = rw c.in_ok-push.ensures.items (omega (
        arith,
        some,
        length-append c.loop-rest.events.items (c.in-Some.event ∷ []),
        whole,
        length-append c.first_line.result.0.now c.first_line.result.1.now,
      ));
    }

pub returns-clause-only : goal.returns-clause-only
returns-clause-only c events fits same =
    same_events events c.loop-rest.events.items fits c.loop-rest.invariant.fit
    (same ∙ whole_text c.args.bytes.now c.loop-rest.events.items c.loop-rest.rest.now c.loop-rest.invariant.same
    (sym c.is_empty.ensures ∙ c.loop-rest-test.false))
