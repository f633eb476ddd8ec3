use Rattle.std.proofs.Common.{refl, ap, ◌∙◌, Some}
use Rattle.bilv_spec.specs.Run as run
use Rattle.program_value.specs.Programs.{program_of}
use Rattle.flow_graph.proofs.Nodal.{no_row, with_row, row_of_word, asserted_is}
use Rattle.flow_graph.proofs.node.node.Goals as goal

pub returns-in-None-clause-is : goal.returns-in-None-clause-is
returns-in-None-clause-is g c =
    let p = program_of c.args.p.now in
    no_row p _ c.in-None.ensures refl (c.is_fetchable-fetchable.ensures ∙ ap (λ w. run.fetchable p w c.args.at) c.word-word.ensures) refl c.new.ensures.items refl refl refl
    (asserted_is p c.args.at c.asserted-asserted.result c.args.p.now.notes.now.asserts.items _ c.deref.ensures.value
    refl c.asserted-asserted.ensures)

pub returns-clause-is : goal.returns-clause-is
returns-clause-is g c =
    let p = program_of c.args.p.now in
    with_row p _ (g.M.Machine.row c.in-Some.insn) c.successors-ways.result c.in-Some.ensures
    (c.length-length.ensures.of_row _ (ap p.machine.row c.word-word.ensures ∙ row_of_word _ _ _ c.in-Some.ensures))
    (c.is_fetchable-fetchable.ensures ∙ ap (λ w. run.fetchable p w c.args.at) c.word-word.ensures)
    (ap Some c.word-word.ensures) c.in_ok-successors.ensures c.successors-ways.ensures c.may_return.ensures c.links.ensures c.flags-flags.ensures
    (asserted_is p c.args.at c.asserted-asserted.result c.args.p.now.notes.now.asserts.items _ c.deref.ensures.value
    refl c.asserted-asserted.ensures)
