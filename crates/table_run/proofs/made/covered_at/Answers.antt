use Rattle.std.proofs.Common.{◌≡◌, ◌∙◌, List, [], Some, true, false, ap, map, sym, subst}
use Rattle.std.specs.Prelude.{is_some, nat_eq}
use Rattle.std.specs.List.{list_any}
use Rattle.std.specs.Option.{option_map}
use Rattle.word_spec.specs.Memory.{Endian}
use Rattle.word_spec.specs.State.{State}
use Rattle.bilv_spec.specs.Run.{Place, Program}
use Rattle.frame_spec.specs.Frames as frames
use Rattle.frame_spec.specs.Frames.{contract_at, written}
use Rattle.frame_spec.specs.FrameReports.{WrittenCall}
use Rattle.notes_value.specs.FrameViews.{contract_of, writes_of}
use Rattle.notes_value.specs.Reads.{IsReadable}
use Rattle.state_text.specs.Starts.{written_call_of}
use Rattle.state_text.specs.declared.start.CallState.{CallState}
use Rattle.program_value.specs.Programs.{program_of}
use Rattle.table_run.specs.Spans.{bytes_of}
use Rattle.table_run.specs.CalledFrames.{IsBlock, frame_in, own_of}
use Rattle.table_run.specs.MadeCalls.{covered}
use Rattle.table_run.proofs.ContractSteps.{readable_at}
use Rattle.table_run.proofs.Lists.{unmapped}
use Rattle.table_run.proofs.MadeTurns.{covered_is}
use Rattle.table_run.proofs.ShownRuns.{filtered_block}
use Rattle.table_run.proofs.made.covered_at.Goals as goal

pub writable-requires : goal.writable-requires
writable-requires g c =
    let readable = readable_at g.M.State.View.has_register c.args.frame.now.stepped.now c.in-Some-contract_at.contract.now c.requires.frame.stepped
    c.in-Some-contract_at.ensures.listed in
    unmapped (λ w. IsReadable g.M.State.View.has_register w.says) writes_of c.in-Some-contract_at.contract.now.writes.items c.deref.result.now
    c.deref.ensures.value readable.writes

pub returns-in-None-clause-handed : goal.returns-in-None-clause-handed
returns-in-None-clause-handed g c called =
    let here : Place = record { state = g.M.State.View.view c.args.state.now; stack = [] } in
    ap (option_map (covered (frame_in c.args.frame.now) here)) c.in-None.ensures.first

pub returns-in-None-contract_at-clause-handed : goal.returns-in-None-contract_at-clause-handed
returns-in-None-contract_at-clause-handed g c called =
    let stepped : List frames.Contract = map contract_of c.args.frame.now.stepped.now in
    let no : false ≡ true = ap is_some c.in-None-contract_at.ensures.first ∙ ap (λ a. is_some (contract_at stepped a)) c.pc.ensures ∙ called in absurd (cc)

pub returns-clause-handed : goal.returns-clause-handed
returns-clause-handed g c called =
    let m = g.M.Machine.machine in
    let p : Program = program_of c.args.frame.now.program in
    let stepped : List frames.Contract = map contract_of c.args.frame.now.stepped.now in
    let s : State = g.M.State.View.view c.args.state.now in
    let here : Place = record { state = s; stack = [] } in
    let x : frames.Contract = contract_of c.in-Some-contract_at.contract.now in
    let found : contract_at stepped s.pc ≡ Some x = ap (contract_at stepped) (sym c.pc.ensures) ∙ sym c.in-Some-contract_at.ensures.first in
    let places : bytes_of c.deref-2.result.now ≡ written m.endian x.writes s =
    ap bytes_of c.deref-2.ensures.value ∙ c.in_ok-spans.ensures
    ∙ ap (λ (z : Endian). written z (map writes_of c.deref.result.now) s) c.args.frame.now.program.big_is
    ∙ ap (λ l. written m.endian (map writes_of l) s) c.deref.ensures.value in
    ap (λ (w : WrittenCall). Some w) (c.in_ok-block.ensures
    ∙ covered_is p stepped (own_of c.args.frame.now.own) s x (written_call_of c.in-Some.call.now) (bytes_of c.deref-2.result.now) found places)
    ∙ ap (option_map (covered (frame_in c.args.frame.now) here)) c.in-Some.ensures.first

pub returns-clause-block : goal.returns-clause-block
returns-clause-block g c =
    let listed = c.in-Some.ensures.listed in
    let own : IsBlock g.M.Machine.form (written_call_of c.in-Some.call.now) =
    subst (λ (z : CallState). IsBlock g.M.Machine.form (written_call_of z)) (sym listed.2) (c.requires.blocks listed.0 c.in-Some.call.now listed.1) in
    subst (IsBlock g.M.Machine.form) (sym c.in_ok-block.ensures)
    (filtered_block g.M.Machine.form (λ a. list_any (nat_eq a) (bytes_of c.deref-2.result.now)) (written_call_of c.in-Some.call.now) own)
