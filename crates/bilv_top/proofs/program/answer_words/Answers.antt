use Rattle.std.proofs.Common.{map, string_bytes, subst}
use Rattle.command_line.specs.Lines.{lawful_command}
use Rattle.io_edges.specs.Begun.{AreBegun}
use Rattle.io_edges.specs.Met.{met, seen}
use Rattle.bilv_top.specs.Answers.{evidence_of}
use Rattle.bilv_top.specs.Ends.{IsProgramEnd}
use Rattle.bilv_top.specs.Reads.{files_of_line}
use Rattle.bilv_top.proofs.program.answer_words.Goals as goal

pub returns-clause-answered : goal.returns-clause-answered
returns-clause-answered g c =
    let s = met (seen (g.H.Shelf.holds c.args.shelf.now) (g.H.Shelf.faults c.args.shelf.now) (g.H.Shelf.faults c.bilv-outcome.new.shelf))
    (g.K.Sink.written c.args.out.now) (g.K.Sink.written c.bilv-outcome.new.out) (g.K.Sink.faults c.args.out.now) (g.K.Sink.faults c.bilv-outcome.new.out) in
    let end = subst (λ x. IsProgramEnd s (map (λ w. string_bytes w) x) c.bilv-outcome.result.status) c.deref.ensures.value
    (evidence_of c.bilv-outcome.result.evidence, c.bilv-outcome.ensures.outcome) in
    rw c.new-2.ensures (rw c.in-Ok.is end)

pub returns-clause-begun : goal.returns-clause-begun
returns-clause-begun g c =
    let begun = subst (λ x. AreBegun (g.H.Shelf.begun c.args.shelf.now) (g.H.Shelf.begun c.bilv-outcome.new.shelf)
    (files_of_line (lawful_command (map (λ w. string_bytes w) x)))) c.deref.ensures.value c.bilv-outcome.ensures.begun in
    rw c.in-Ok.is begun
