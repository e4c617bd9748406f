use Rattle.std.proofs.Common.{false}
use Rattle.std.proofs.lemmas.Result.{err_from_is_err_and}
use Rattle.command_line.specs.declared.words.Command.TheVariants.{Reply}
use Rattle.app_streams.specs.Ends.{ends}
use Rattle.app_streams.specs.Written.{output_of}
use Rattle.app_modes.proofs.Outcomes.{ends_cut}
use Rattle.app_modes.proofs.replies.run_replies.Goals as goal

pub returns-in_err-write-clause-outcome : goal.returns-in_err-write-clause-outcome
returns-in_err-write-clause-outcome g c =
    let told = g.C.Clock.readings c.args.clock.now in
    let source = ends (g.S.Source.left c.args.source.now) (g.S.Source.left c.take_all.new.source) (g.S.Source.faults c.args.source.now)
    (g.S.Source.faults c.take_all.new.source) in
    let took = c.in_ok-bytes.ensures.whole in
    let run = c.in-Ok.ensures in
    let put = c.in_err-write.ensures in
    let failure = err_from_is_err_and c.from_residual-in_err-write.result c.from_residual-in_err-write.ensures.1 in
    rw (failure.1, failure.2) (ends_cut Reply told source _ 0 (output_of false c.in-Ok.log.items) _ (λ takes. took.end) (λ Holds holds. record {
      bytes = c.in_ok-bytes.bytes.items;
      took = took;
      holds = record {
        script = c.in_ok-script.script;
        elaborated = c.in_ok-script-2.script;
        log = c.in-Ok.log.items;
        reads = rw (c.parts_of.ensures.script, c.deref.ensures.value) at c.in_ok-script.ensures.read;
        elaborates = rw (c.parts_of.ensures.behind, c.deref.ensures.value) at c.in_ok-script-2.ensures.elaborated;
        sound = c.in_ok-script-2.ensures.sound;
        legal = run.legal;
        whole = run.whole;
        moments = run.moments;
        written = holds;
      };
    })
    (record { all = put.written; cut = put.cut; failed = put.failed; faults = put.faults }))
