use Rattle.std.proofs.Common.{◌∙◌, ap, map, subst, sym, List}
use Rattle.std.proofs.lemmas.Result.{IfOk-weaker}
use Rattle.answer_spec.specs.FrameGraphs.{IsFrameGraphText}
use Rattle.contract_graph.specs.Wholes as graphs
use Rattle.notes_value.specs.FrameViews.{contract_of}
use Rattle.notes_value.specs.declared.notes.Contract.{Contract}
use Rattle.program_value.specs.Programs.{program_of}
use Rattle.bilv_top.specs.Answers.{answer_of}
use Rattle.bilv_top.specs.Frames.{whole_with}
use Rattle.bilv_top.proofs.Segments.{graphed_framed, graphed_plain, no_contract, none_of, some_of}
use Rattle.bilv_top.proofs.graph.graph_frames_by.Goals as goal

pub returns-then-is_empty : goal.returns-then-is_empty
returns-then-is_empty g c =
    let f = c.args.framed.now in
    let free = none_of f.contracts.items _ f.contracts.ok.0 (sym c.is_empty.ensures ∙ c.if-is_empty.true) in
    IfOk-weaker c.graph_by.result _ _
    (λ a is. graphed_plain (whole_with (program_of c.args.program.now) f) (answer_of a) (ap (map contract_of) free) is) c.graph_by.ensures

pub returns : goal.returns
returns g c =
    let f = c.args.framed.now in
    let m = g.M.Machine.machine in
    let some = some_of f.contracts.items _ f.contracts.ok.0 (sym c.is_empty.ensures ∙ c.if-is_empty.false) in
    graphed_framed (whole_with (program_of c.args.program.now) f) c.in_ok-text.text.items (λ none. some (no_contract f.contracts.items none))
    (subst (λ (l : List Contract).
    IsFrameGraphText (graphs.whole_with (program_of c.args.program.now) f.invariants.items l) c.in_ok-text.text.items)
    c.as_slice-contracts.ensures.value (c.in_ok-text.ensures f.invariants.items))
