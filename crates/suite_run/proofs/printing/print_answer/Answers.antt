use Rattle.std.proofs.Common.{subst}
use Rattle.suite_run.specs.Prints.{IsPrinted, answered}
use Rattle.suite_run.specs.Views.{came_of}
use Rattle.suite_run.proofs.printing.print_answer.Goals as goal

pub returns-in-Ok : goal.returns-in-Ok
returns-in-Ok g c =
    let came = c.in-Ok.came in
    answered (came_of came) c.in-Ok.ensures.answer
    (subst (λ t. IsPrinted t came.status (g.K.Sink.written c.args.out.now) (g.K.Sink.written c.print_text.new.out) (g.K.Sink.faults c.args.out.now)
    (g.K.Sink.faults c.print_text.new.out) c.print_text.result) c.deref.ensures.value c.print_text.ensures)
