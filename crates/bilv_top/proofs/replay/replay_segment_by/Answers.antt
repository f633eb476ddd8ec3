use Rattle.std.proofs.Common.{◌∙◌, ℕ, List, ap, sym, subst, false}
use Rattle.std.specs.Prelude.{All}
use Rattle.std.proofs.lemmas.List.Elements.{All-map}
use Rattle.answer_laws.proofs.OfLayout.{contracts_are_of_layout}
use Rattle.frame_texts_spec.specs.CallReplays.{call_replay_answer}
use Rattle.frame_texts_spec.specs.CallTextLaws.{HasContracts}
use Rattle.notes_lang.specs.Framed.{IsContractOver}
use Rattle.notes_value.specs.FrameViews.{contract_of}
use Rattle.notes_value.specs.Reads.{IsReadableContract}
use Rattle.notes_value.specs.declared.notes.Contract.{Contract}
use Rattle.call_replay.specs.Readings as called
use Rattle.table_run.specs.FrameEnds.{whole_of}
use Rattle.program_value.specs.Programs.{program_of}
use Rattle.bilv_top.specs.Answers.{answer_of}
use Rattle.bilv_top.specs.Frames.{whole_with}
use Rattle.bilv_top.proofs.Founds.{without_contracts}
use Rattle.bilv_top.proofs.Segments.{none_of, replayed_heads, replayed_plain, some_of}
use Rattle.bilv_top.proofs.replay.replay_segment_by.Goals as goal

pub replay_called-requires-clause-contracts : goal.replay_called-requires-clause-contracts
replay_called-requires-clause-contracts g c =
    subst (λ (l : List Contract). All (λ x. IsReadableContract g.M.Machine.machine.has_register (contract_of x)) l) (sym c.as_slice-contracts.ensures.value)
    c.requires.contracts.readable

pub replay_called-requires-clause-changes : goal.replay_called-requires-clause-changes
replay_called-requires-clause-changes g c =
    let f = c.args.framed.now in
    let m = g.M.Machine.machine in
    subst (λ (l : List Contract). HasContracts g.M.Machine.form (called.whole_with (program_of c.args.program.now) l))
    (sym c.as_slice-contracts.ensures.value)
    (contracts_are_of_layout m g.M.Machine.form (called.whole_with (program_of c.args.program.now) f.contracts.items) g.met.M.Machine.fitted
    (All-map (IsContractOver m.has_register m.has_flag) contract_of f.contracts.items
    c.requires.contracts.over))

pub returns-then-is_empty : goal.returns-then-is_empty
returns-then-is_empty g c =
    let f = c.args.framed.now in
    let m = g.M.Machine.machine in
    let none = none_of f.invariants.items _ f.invariants.ok.0 (sym c.is_empty.ensures ∙ c.if-is_empty.true) in
    replayed_plain (whole_with (program_of c.args.program.now) f) g.M.Machine.form c.args.text.now (answer_of c.answered.result) none
    (c.answered.ensures ∙ c.in_ok-replayed.ensures (λ x. false)
    ∙ ap (λ (l : List Contract).
    call_replay_answer (called.whole_with (program_of c.args.program.now) l) (λ x. false) g.M.Machine.form c.args.text.now)
    c.as_slice-contracts.ensures.value)

pub returns : goal.returns
returns g c =
    let f = c.args.framed.now in
    let m = g.M.Machine.machine in
    let w = whole_with (program_of c.args.program.now) f in
    let some = some_of f.invariants.items _ f.invariants.ok.0 (sym c.is_empty.ensures ∙ c.if-is_empty.false) in
    let told = c.in_ok-replayed-2.ensures.told in
    replayed_heads w g.M.Machine.form c.args.text.now (answer_of c.answered-2.result) told.0 some (without_contracts w c.requires.fitted some) told.1
    (c.answered-2.ensures ∙ c.in_ok-replayed-2.ensures.answer told.0 told.1
    ∙ ap (λ (l : List ℕ). call_replay_answer (whole_of (program_of c.args.program.now) l) told.0 g.M.Machine.form c.args.text.now)
    c.as_slice-invariants.ensures.value)
