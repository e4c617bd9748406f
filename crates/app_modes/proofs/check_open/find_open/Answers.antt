use Rattle.app_modes.proofs.check_open.find_open.Goals as goal

pub returns : goal.returns
returns c = λ plan stands. c.found_in.ensures c.args.prefix plan c.args.text.now (c.in_ok-judged.ensures plan stands)
