use Rattle.std.proofs.Common.{◌≡◌, ℕ, ◌≤◌, ◌∙◌, List, length, map, sym, ap, arith}
use Rattle.std.specs.Prelude.{◌==◌, ◌&&◌, Option, Some, nat_eq, reverse}
use Rattle.frame_spec.specs.FrameReports.{WrittenCall}
use Rattle.std.specs.Option.{option_map}
use Rattle.std.specs.List.{list_all, list_any}
use Rattle.word_spec.specs.Memory.{Endian, endian}
use Rattle.word_spec.specs.State.{State}
use Rattle.bilv_spec.specs.Run.{Program}
use Rattle.frame_spec.specs.Frames as frames
use Rattle.bilv_spec.specs.Elf.{is_kept}
use Rattle.frame_spec.specs.Frames.{contract_at, is_outside, written}
use Rattle.notes_value.specs.FrameViews.{contract_of, writes_of}
use Rattle.notes_value.specs.NoteViews.{note_line_of}
use Rattle.notes_value.specs.Reads.{IsReadable}
use Rattle.state_text.specs.Starts.{written_call_of}
use Rattle.program_value.specs.Programs.{program_of}
use Rattle.table_run.specs.Spans.{bytes_of}
use Rattle.table_run.specs.CalledFrames.{own_of}
use Rattle.table_run.proofs.ContractSteps.{readable_at, turn_kept, turn_needs, turn_not_given, turn_other, turn_outside, turn_returns}
use Rattle.table_run.proofs.LinesMeant.{line_meant}
use Rattle.table_run.proofs.Lists.{unmapped}
use Rattle.table_run.proofs.contract_steps.contract_turn.Goals as goal

pub false_line-requires : goal.false_line-requires
false_line-requires g c =
    let readable = readable_at g.M.State.View.has_register c.args.frame.now.stepped.now c.in-Some.contract.now c.requires.frame.stepped
    c.in-Some.ensures.listed in
    unmapped (λ l. IsReadable g.M.State.View.has_register l.says) note_line_of c.in-Some.contract.now.needs.items c.deref.result.now c.deref.ensures.value
    readable.needs

pub writable-requires : goal.writable-requires
writable-requires g c =
    let readable = readable_at g.M.State.View.has_register c.args.frame.now.stepped.now c.in-Some.contract.now c.requires.frame.stepped
    c.in-Some.ensures.listed in
    unmapped (λ w. IsReadable g.M.State.View.has_register w.says) writes_of c.in-Some.contract.now.writes.items c.deref-2.result.now c.deref-2.ensures.value
    readable.writes

pub come_back-requires-clause-contract : goal.come_back-requires-clause-contract
come_back-requires-clause-contract g c =
    readable_at g.M.State.View.has_register c.args.frame.now.stepped.now c.in-Some.contract.now c.requires.frame.stepped c.in-Some.ensures.listed

pub returns-in-Some-false_line-clause-end : goal.returns-in-Some-false_line-clause-end
returns-in-Some-false_line-clause-end g c entry given at gift has =
    let m = g.M.Machine.machine in
    let p : Program = program_of c.args.frame.now.program in
    let stepped : List frames.Contract = map contract_of c.args.frame.now.stepped.now in
    let own = own_of c.args.frame.now.own in
    let s : State = g.M.State.View.view c.args.state.now in
    let items : List ℕ = c.args.stack.now.items in
    let some = c.requires.returns in
    let len : 1 ≤ length items = omega (arith, some) in
    let x : frames.Contract = contract_of c.in-Some.contract.now in
    let found : contract_at stepped s.pc ≡ Some x = ap (contract_at stepped) (sym c.pc-at.ensures) ∙ sym c.in-Some.ensures.first in
    turn_needs p stepped own s entry items len x given found c.in-Some-false_line.line
    (sym c.in-Some-false_line.is
    ∙ line_meant (endian c.args.frame.now.program.big) m.endian c.deref.result.now c.in-Some.contract.now.needs.items s s c.false_line.result
    c.args.frame.now.program.big_is c.deref.ensures.value c.false_line.ensures)

pub returns-then-any_kept_of-clause-end : goal.returns-then-any_kept_of-clause-end
returns-then-any_kept_of-clause-end g c entry given at gift has =
    let m = g.M.Machine.machine in
    let p : Program = program_of c.args.frame.now.program in
    let stepped : List frames.Contract = map contract_of c.args.frame.now.stepped.now in
    let own = own_of c.args.frame.now.own in
    let s : State = g.M.State.View.view c.args.state.now in
    let items : List ℕ = c.args.stack.now.items in
    let some = c.requires.returns in
    let len : 1 ≤ length items = omega (arith, some) in
    let x : frames.Contract = contract_of c.in-Some.contract.now in
    let found : contract_at stepped s.pc ≡ Some x = ap (contract_at stepped) (sym c.pc-at.ensures) ∙ sym c.in-Some.ensures.first in
    let needs = sym c.in_default.is
    ∙ line_meant (endian c.args.frame.now.program.big) m.endian c.deref.result.now c.in-Some.contract.now.needs.items s s c.false_line.result
    c.args.frame.now.program.big_is c.deref.ensures.value c.false_line.ensures in
    let bytes : List ℕ = bytes_of c.in_ok-spans.spans.items in
    let is_bytes : bytes ≡ written m.endian x.writes s =
    c.in_ok-spans.ensures ∙ ap (λ (z : Endian). written z (map writes_of c.deref-2.result.now) s) c.args.frame.now.program.big_is
    ∙ ap (λ l. written m.endian (map writes_of l) s) c.deref-2.ensures.value in
    turn_kept p stepped own s entry items len x given found bytes is_bytes needs
    (c.if-any_kept_of.ensures ∙ ap (λ l. list_any (λ a. is_kept (p.loaded a)) (bytes_of l)) c.deref-3.ensures.value)

pub returns-then-leaves_own-clause-end : goal.returns-then-leaves_own-clause-end
returns-then-leaves_own-clause-end g c entry given at gift has =
    let m = g.M.Machine.machine in
    let p : Program = program_of c.args.frame.now.program in
    let stepped : List frames.Contract = map contract_of c.args.frame.now.stepped.now in
    let own = own_of c.args.frame.now.own in
    let s : State = g.M.State.View.view c.args.state.now in
    let items : List ℕ = c.args.stack.now.items in
    let some = c.requires.returns in
    let len : 1 ≤ length items = omega (arith, some) in
    let x : frames.Contract = contract_of c.in-Some.contract.now in
    let found : contract_at stepped s.pc ≡ Some x = ap (contract_at stepped) (sym c.pc-at.ensures) ∙ sym c.in-Some.ensures.first in
    let needs = sym c.in_default.is
    ∙ line_meant (endian c.args.frame.now.program.big) m.endian c.deref.result.now c.in-Some.contract.now.needs.items s s c.false_line.result
    c.args.frame.now.program.big_is c.deref.ensures.value c.false_line.ensures in
    let bytes : List ℕ = bytes_of c.in_ok-spans.spans.items in
    let is_bytes : bytes ≡ written m.endian x.writes s =
    c.in_ok-spans.ensures ∙ ap (λ (z : Endian). written z (map writes_of c.deref-2.result.now) s) c.args.frame.now.program.big_is
    ∙ ap (λ l. written m.endian (map writes_of l) s) c.deref-2.ensures.value in
    let kept = c.if-any_kept_of.ensures ∙ ap (λ l. list_any (λ a. is_kept (p.loaded a)) (bytes_of l)) c.deref-3.ensures.value in
    turn_outside p stepped own s entry items len x given found bytes is_bytes needs kept
    (c.if-leaves_own.ensures m.endian entry at ∙ ap (λ l. is_outside own m.endian entry (bytes_of l)) c.deref-4.ensures.value)

pub returns-in-None-block-clause-end : goal.returns-in-None-block-clause-end
returns-in-None-block-clause-end g c entry given at gift has =
    let m = g.M.Machine.machine in
    let p : Program = program_of c.args.frame.now.program in
    let stepped : List frames.Contract = map contract_of c.args.frame.now.stepped.now in
    let own = own_of c.args.frame.now.own in
    let s : State = g.M.State.View.view c.args.state.now in
    let items : List ℕ = c.args.stack.now.items in
    let some = c.requires.returns in
    let len : 1 ≤ length items = omega (arith, some) in
    let x : frames.Contract = contract_of c.in-Some.contract.now in
    let found : contract_at stepped s.pc ≡ Some x = ap (contract_at stepped) (sym c.pc-at.ensures) ∙ sym c.in-Some.ensures.first in
    let needs = sym c.in_default.is
    ∙ line_meant (endian c.args.frame.now.program.big) m.endian c.deref.result.now c.in-Some.contract.now.needs.items s s c.false_line.result
    c.args.frame.now.program.big_is c.deref.ensures.value c.false_line.ensures in
    let bytes : List ℕ = bytes_of c.in_ok-spans.spans.items in
    let is_bytes : bytes ≡ written m.endian x.writes s =
    c.in_ok-spans.ensures ∙ ap (λ (z : Endian). written z (map writes_of c.deref-2.result.now) s) c.args.frame.now.program.big_is
    ∙ ap (λ l. written m.endian (map writes_of l) s) c.deref-2.ensures.value in
    let kept = c.if-any_kept_of.ensures ∙ ap (λ l. list_any (λ a. is_kept (p.loaded a)) (bytes_of l)) c.deref-3.ensures.value in
    let within = c.if-leaves_own.ensures m.endian entry at ∙ ap (λ l. is_outside own m.endian entry (bytes_of l)) c.deref-4.ensures.value in
    turn_not_given p stepped own s entry items len x given found bytes is_bytes needs kept within
    (option_map (λ c. written_call_of c.now) c.args.block) (ap (option_map (λ c. written_call_of c.now)) c.in-None-block.is)

pub returns-then-not-is_of-clause-end : goal.returns-then-not-is_of-clause-end
returns-then-not-is_of-clause-end g c entry given at gift has =
    let m = g.M.Machine.machine in
    let p : Program = program_of c.args.frame.now.program in
    let stepped : List frames.Contract = map contract_of c.args.frame.now.stepped.now in
    let own = own_of c.args.frame.now.own in
    let s : State = g.M.State.View.view c.args.state.now in
    let items : List ℕ = c.args.stack.now.items in
    let some = c.requires.returns in
    let len : 1 ≤ length items = omega (arith, some) in
    let x : frames.Contract = contract_of c.in-Some.contract.now in
    let found : contract_at stepped s.pc ≡ Some x = ap (contract_at stepped) (sym c.pc-at.ensures) ∙ sym c.in-Some.ensures.first in
    let needs = sym c.in_default.is
    ∙ line_meant (endian c.args.frame.now.program.big) m.endian c.deref.result.now c.in-Some.contract.now.needs.items s s c.false_line.result
    c.args.frame.now.program.big_is c.deref.ensures.value c.false_line.ensures in
    let bytes : List ℕ = bytes_of c.in_ok-spans.spans.items in
    let is_bytes : bytes ≡ written m.endian x.writes s =
    c.in_ok-spans.ensures ∙ ap (λ (z : Endian). written z (map writes_of c.deref-2.result.now) s) c.args.frame.now.program.big_is
    ∙ ap (λ l. written m.endian (map writes_of l) s) c.deref-2.ensures.value in
    let kept = c.if-any_kept_of.ensures ∙ ap (λ l. list_any (λ a. is_kept (p.loaded a)) (bytes_of l)) c.deref-3.ensures.value in
    let within = c.if-leaves_own.ensures m.endian entry at ∙ ap (λ l. is_outside own m.endian entry (bytes_of l)) c.deref-4.ensures.value in
    let w : WrittenCall = written_call_of c.in-Some-block.call.now in
    let o : Option WrittenCall = option_map (λ c. written_call_of c.now) c.args.block in
    let here : o ≡ Some w = ap (option_map (λ c. written_call_of c.now)) c.in-Some-block.is in
    let test = c.if-not-is_of.ensures ∙ ap (λ a. (w.at == a) && list_all (λ (b : ℕ × ℕ). list_any (nat_eq b.0)
    (bytes_of c.deref-5.result.now)) w.bytes) c.pc-at.ensures
    ∙ ap (λ l. (w.at == s.pc) && list_all (λ (b : ℕ × ℕ). list_any (nat_eq b.0) (bytes_of l)) w.bytes) c.deref-5.ensures.value in
    turn_other p stepped own s entry items len x given found bytes is_bytes needs kept within o w here test

pub returns-clause-end : goal.returns-clause-end
returns-clause-end g c entry given at gift has =
    let m = g.M.Machine.machine in
    let p : Program = program_of c.args.frame.now.program in
    let stepped : List frames.Contract = map contract_of c.args.frame.now.stepped.now in
    let own = own_of c.args.frame.now.own in
    let s : State = g.M.State.View.view c.args.state.now in
    let items : List ℕ = c.args.stack.now.items in
    let some = c.requires.returns in
    let len : 1 ≤ length items = omega (arith, some) in
    let x : frames.Contract = contract_of c.in-Some.contract.now in
    let found : contract_at stepped s.pc ≡ Some x = ap (contract_at stepped) (sym c.pc-at.ensures) ∙ sym c.in-Some.ensures.first in
    let needs = sym c.in_default.is
    ∙ line_meant (endian c.args.frame.now.program.big) m.endian c.deref.result.now c.in-Some.contract.now.needs.items s s c.false_line.result
    c.args.frame.now.program.big_is c.deref.ensures.value c.false_line.ensures in
    let bytes : List ℕ = bytes_of c.in_ok-spans.spans.items in
    let is_bytes : bytes ≡ written m.endian x.writes s =
    c.in_ok-spans.ensures ∙ ap (λ (z : Endian). written z (map writes_of c.deref-2.result.now) s) c.args.frame.now.program.big_is
    ∙ ap (λ l. written m.endian (map writes_of l) s) c.deref-2.ensures.value in
    let kept = c.if-any_kept_of.ensures ∙ ap (λ l. list_any (λ a. is_kept (p.loaded a)) (bytes_of l)) c.deref-3.ensures.value in
    let within = c.if-leaves_own.ensures m.endian entry at ∙ ap (λ l. is_outside own m.endian entry (bytes_of l)) c.deref-4.ensures.value in
    let w : WrittenCall = written_call_of c.in-Some-block.call.now in
    let o : Option WrittenCall = option_map (λ c. written_call_of c.now) c.args.block in
    let here : o ≡ Some w = ap (option_map (λ c. written_call_of c.now)) c.in-Some-block.is in
    let test = c.if-not-is_of.ensures ∙ ap (λ a. (w.at == a) && list_all (λ (b : ℕ × ℕ). list_any (nat_eq b.0)
    (bytes_of c.deref-5.result.now)) w.bytes) c.pc-at.ensures
    ∙ ap (λ l. (w.at == s.pc) && list_all (λ (b : ℕ × ℕ). list_any (nat_eq b.0) (bytes_of l)) w.bytes) c.deref-5.ensures.value in
    turn_returns p stepped own s entry items len x given found bytes is_bytes needs kept within o w here test gift c.in_ok-end.end
    (g.M.State.View.view c.come_back.new.state) (reverse c.come_back.new.stack.items)
    (λ to below stacked. c.in_ok-end.ensures.end to below stacked has (sym (kept ∙ ap (list_any (λ a. is_kept (p.loaded a))) is_bytes)))
