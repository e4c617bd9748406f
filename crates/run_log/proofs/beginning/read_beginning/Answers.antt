use Rattle.std.proofs.Common.{◌≡◌, false, length, sym, ◌∙◌}
use Rattle.log_model.specs.LogText.{version_of}
use Rattle.run_log.specs.Beginnings.{is_cut_off, is_end}
use Rattle.run_log.proofs.Beginnings.{begins_no_log, no_tail}
use Rattle.run_log.proofs.beginning.read_beginning.Goals as goal

pub returns-clause-no_log : goal.returns-clause-no_log
returns-clause-no_log c line same log cut fits begun =
    let text = c.args.bytes.now in
    let entries = c.in_ok-entries.entries.items in
    let rest = c.in_ok-entries.rest.now in
    let version = c.split_head-version.ensures.version in
    let count : c.len-count.result ≡ length entries = cc in
    let whole : is_cut_off (version_of text) (length entries) rest ≡ false =
    rw (← version, ← count) (sym c.is_cut_off.ensures ∙ c.if-is_cut_off.false) in
    let more : is_end (version_of text) (length entries) rest ≡ false = rw (← version, ← count) (sym c.is_end.ensures ∙ c.if-is_end.false) in
    begins_no_log text c.split_head-version.result.1.now entries rest c.split_head-version.ensures.lines c.in_ok-entries.ensures.read
    (no_tail (version_of text) (length entries) rest whole more) log cut fits begun
