use Rattle.std.proofs.Common.{◌≡◌, ◌+◌, length, min, sym, ◌∙◌}
use Rattle.std.specs.List.{position_or_len}
use Rattle.run_log.proofs.LinesOfText.{first_line, is_feed, line_end-Some, line_end-None}
use Rattle.event_text.proofs.read.first_line.Goals.{in-Some, in-None}
use Rattle.event_text.proofs.read.first_line.Goals as goal

pub returns-clause-first : goal.returns-clause-first
returns-clause-first c =
    let text = c.args.bytes.now in
    let ends : c.match-first_feed.end ≡ min (position_or_len is_feed text + 1) (length text) = elim c.match-first_feed.branch [
      | in-Some w ↦ w.end-is ∙ line_end-Some text w.in-Some.feed (sym c.first_feed.ensures ∙ w.in-Some.is)
      | in-None w ↦ w.end-is ∙ line_end-None text (sym c.first_feed.ensures ∙ w.in-None.is)
    ] in
    rw (c.split_at.ensures.front, c.split_at.ensures.back) (first_line text c.match-first_feed.end ends c.requires)
