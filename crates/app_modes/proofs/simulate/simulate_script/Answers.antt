use Rattle.command_line.specs.declared.words.Command.TheVariants.{Simulate}
use Rattle.app_streams.specs.Ends.{ends}
use Rattle.app_streams.specs.Written.{output_of}
use Rattle.app_modes.proofs.Outcomes.{ends_written}
use Rattle.app_modes.proofs.simulate.simulate_script.Goals as goal

pub returns-clause-outcome : goal.returns-clause-outcome
returns-clause-outcome g c told =
    let source = ends (g.S.Source.left c.args.source.now) (g.S.Source.left c.take_all.new.source) (g.S.Source.faults c.args.source.now)
    (g.S.Source.faults c.take_all.new.source) in
    let took = c.in_ok-bytes.ensures.whole in
    let run = c.in-Ok.ensures in
    ends_written (Simulate c.args.seed c.args.favour c.args.step c.args.json) told source _ (output_of c.args.json c.in-Ok.log.items) c.write.result
    (λ takes. took.end)
    (λ Holds holds. record {
      bytes = c.in_ok-bytes.bytes.items;
      took = took;
      holds = record {
        script = c.in_ok-script.script;
        reads = rw c.deref.ensures.value at c.in_ok-script.ensures.read;
        legal = rw (run.simulated, c.lots_of.ensures.lots) at run.legal;
        whole = rw (run.simulated, c.lots_of.ensures.lots) at run.whole;
        written = rw (run.simulated, c.lots_of.ensures.lots) at holds;
      };
    })
    (record { all = c.write.ensures.written; cut = c.write.ensures.cut; failed = c.write.ensures.failed; faults = c.write.ensures.faults })
