use Rattle.run_log.proofs.LinesOfText.{first_feed-is}
use Rattle.event_text.proofs.read.first_feed.Goals as goal

pub returns : goal.returns
returns c = first_feed-is c.args.bytes.now c.memchr.result c.memchr.ensures
