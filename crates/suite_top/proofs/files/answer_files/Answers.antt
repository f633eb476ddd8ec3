use Rattle.std.proofs.Common.{◌≡◌, ◌∙◌, ap, map, string_bytes, subst, sym, true}
use Rattle.io_edges.specs.Met.{met, seen}
use Rattle.suite_file.specs.Suites.{Check}
use Rattle.suite_line.specs.Views.{files_of}
use Rattle.suite_run.specs.Prints.{IsPrintedAnswer}
use Rattle.suite_top.specs.Ends.{asked_about}
use Rattle.suite_top.specs.FileChecks.{is_lawful, option_words}
use Rattle.suite_top.proofs.files.answer_files.Goals as goal

pub returns-in-Ok-true : goal.returns-in-Ok-true
returns-in-Ok-true g c =
    let answers = g.V.Verifier.is_answer c.args.verifier.now in
    let s = met (seen (g.H.Shelf.holds c.args.shelf.now) (g.H.Shelf.faults c.args.shelf.now) (g.H.Shelf.faults c.print_answer.new.shelf))
    (g.K.Sink.written c.args.out.now) (g.K.Sink.written c.print_answer.new.out) (g.K.Sink.faults c.args.out.now) (g.K.Sink.faults c.print_answer.new.out) in
    let lawful : is_lawful (option_words (files_of c.args.files)) ≡ true =
    ap (λ (k : Check). is_lawful k.options) (sym c.in-Ok.ensures) ∙ ap (λ os. is_lawful (map string_bytes os)) (sym c.deref.ensures.value)
    ∙ sym c.in-Ok-true.ensures ∙ c.in-Ok-true.field-0-test in
    asked_about lawful (subst (λ (k : Check). IsPrintedAnswer answers s k c.print_answer.result) c.in-Ok.ensures c.print_answer.ensures)
