use Rattle.std.proofs.Common.{refl}
use Rattle.env_step.proofs.UnderWay.{at_main_taken}
use Rattle.env_step.proofs.Behind.{takes_nothing}
use Rattle.env_step.proofs.Wants.{wants_front}
use Rattle.env_step.proofs.driver.pump.Goals as goal

pub main_take-requires : goal.main_take-requires
main_take-requires c = wants_front c.requires.0 c.requires.1

pub returns-in-None : goal.returns-in-None
returns-in-None c reading = takes_nothing reading c.requires.1.free (λ now. refl) (λ now. refl) tt c.in-None.ensures.enters

pub returns-in-Some : goal.returns-in-Some
returns-in-Some c reading =
    let taken = c.in-Some.ensures in
    record {
      in_hand = at_main_taken c.in-Some.work c.advance.result.work c.advance.result.next taken (record {
        same = c.advance.ensures.same;
        reaches = c.advance.ensures.acts;
        stops = c.advance.ensures.stops;
        ends = c.advance.ensures.ends;
      });
      steps = (rw (c.task.ensures, c.home.ensures, c.found.ensures) taken.enters, tt);
    }
