use Rattle.suite_run.proofs.SuiteEnds.{cut_printed}
use Rattle.suite_run.proofs.printing.print_text.Goals as goal

pub returns-in-Err : goal.returns-in-Err
returns-in-Err g c =
    cut_printed c.args.text.now c.args.status (g.K.Sink.written c.args.out.now) (g.K.Sink.written c.write_all.new.sink) (g.K.Sink.faults c.args.out.now)
    (g.K.Sink.faults c.write_all.new.sink) c.in-Err.field-0 c.in-Err.ensures.by_fault c.in-Err.ensures.risen
