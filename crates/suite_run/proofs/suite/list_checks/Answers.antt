use Rattle.std.proofs.Common.{◌≡◌, ◌∙◌, map, subst}
use Rattle.suite_file.specs.Views.{check_view}
use Rattle.suite_run.specs.Chosen.{list_text}
use Rattle.suite_run.specs.Prints.{IsPrinted}
use Rattle.suite_run.proofs.suite.list_checks.Goals as goal

pub returns : goal.returns
returns g c =
    let text = list_text (map (λ x. check_view x.now) c.args.checks.now) in
    let said : c.deref.result.now ≡ text = c.deref.ensures.value ∙ c.in-Ok.ensures in
    subst (λ t. IsPrinted t 0 (g.K.Sink.written c.args.out.now) (g.K.Sink.written c.print_text.new.out) (g.K.Sink.faults c.args.out.now)
    (g.K.Sink.faults c.print_text.new.out) c.print_text.result) said c.print_text.ensures
