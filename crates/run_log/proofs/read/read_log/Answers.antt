use Rattle.std.proofs.Common.{◌≡◌, ◌+◌, true, length, sym, ap, ◌∙◌, refl}
use Rattle.std.specs.Str.{bytes_eq}
use Rattle.std.proofs.lemmas.Bool.{not-true, not-false}
use Rattle.std.proofs.lemmas.Slice.Eq.{bytes_eq-Decides}
use Rattle.log_model.specs.LogText.{end_of, version_of, text_in}
use Rattle.run_log.proofs.LogLines.{text_of_entries, bad_is_no_log}
use Rattle.run_log.proofs.read.read_log.Goals as goal

pub returns-then-ne-clause-bad : goal.returns-then-ne-clause-bad
returns-then-ne-clause-bad c line same =
    let version = c.split_head-version.ensures.version in
    let count : c.len-count.result ≡ length c.in_ok-entries.entries.items = cc in
    let end : c.as_slice.result.now ≡ end_of (version_of c.args.bytes.now) (length c.in_ok-entries.entries.items) =
    c.as_slice.ensures.value ∙ c.end_of.ensures ∙ rw (version, count) refl in
    let other = not-true _ (sym c.ne.ensures ∙ c.if-ne.true) in
    let number : c.lines_before.result + c.len-count.result + 1 ≡ line = cc in
    record {
      entries = c.in_ok-entries.entries.items;
      rest = c.in_ok-entries.rest.now;
      lines = c.split_head-version.result.1.now;
      headed = c.split_head-version.ensures.lines;
      read = c.in_ok-entries.ensures.read;
      no_end = λ left. let equal : bytes_eq c.in_ok-entries.rest.now c.as_slice.result.now ≡ true = (bytes_eq-Decides _ _).1 (left ∙ sym end) in cc;
      number = sym number ∙ rw (c.lines_before.ensures, version, count) refl;
    }

pub returns-then-ne-clause-no_log : goal.returns-then-ne-clause-no_log
returns-then-ne-clause-no_log c line same = bad_is_no_log c.args.bytes.now line (returns-then-ne-clause-bad c line same)

pub returns-clause-text : goal.returns-clause-text
returns-clause-text c =
    let version = c.split_head-version.ensures.version in
    let count : c.len-count.result ≡ length c.in_ok-entries.entries.items = cc in
    let end : c.as_slice.result.now ≡ end_of (version_of c.args.bytes.now) (length c.in_ok-entries.entries.items) =
    c.as_slice.ensures.value ∙ c.end_of.ensures ∙ rw (version, count) refl in
    let equal = not-false _ (sym c.ne.ensures ∙ c.if-ne.false) in
    ap (text_in (version_of c.args.bytes.now)) c.from_vec.ensures.items
    ∙ text_of_entries c.args.bytes.now c.split_head-version.result.1.now c.in_ok-entries.entries.items c.in_ok-entries.rest.now
    c.split_head-version.ensures.lines c.in_ok-entries.ensures.read ((bytes_eq-Decides _ _).0 equal ∙ end)
