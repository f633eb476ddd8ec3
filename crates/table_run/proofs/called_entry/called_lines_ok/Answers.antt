use Rattle.std.proofs.Common.{◌≡◌, ℕ, ◌<◌, ◌∙◌, List, Some, length, map, get_or, ap, arith}
use Rattle.std.specs.Prelude.{slice_get}
use Rattle.std.specs.Option.{option_map}
use Rattle.std.proofs.lemmas.Option.{slice_get-get_or, slice_get-map}
use Rattle.program_value.specs.Programs.{program_of}
use Rattle.frame_spec.specs.Frames.{Contract}
use Rattle.notes_value.specs.FrameViews.{contract_of}
use Rattle.table_run.specs.Endings.{fault_of}
use Rattle.table_run.proofs.RankedEntries.{entry_of_contract, fault_of_contract, own_is_at, right_of_own}
use Rattle.table_run.proofs.called_entry.called_lines_ok.Goals as goal

pub returns-in-Ok-own_lines_ok-clause-ok : goal.returns-in-Ok-own_lines_ok-clause-ok
returns-in-Ok-own_lines_ok-clause-ok g c right =
    let rank : ℕ = c.args.frame.now.rank in
    let before = c.if-frame.false in
    let inside : rank < length c.args.frame.now.contracts.now = omega (arith, before) in
    let contracts : List Contract = map contract_of c.args.frame.now.contracts.now in
    let x : Contract = contract_of (get_or c.args.frame.now.contracts.now rank c.index-frame-frame.result) in
    let some : slice_get contracts rank ≡ Some x = slice_get-map contract_of c.args.frame.now.contracts.now rank
    ∙ ap (option_map contract_of) (slice_get-get_or c.args.frame.now.contracts.now rank c.index-frame-frame.result inside) in
    let p = program_of c.args.frame.now.program in
    let s = g.M.State.View.view c.args.state.now in
    entry_of_contract p contracts rank s x some
    (c.in-Ok-own_lines_ok.ensures.ok (c.requires.pc ∙ own_is_at p contracts rank s x some) (right_of_own p contracts rank s x some right))

pub returns-in-Err-own_lines_ok-clause-fault : goal.returns-in-Err-own_lines_ok-clause-fault
returns-in-Err-own_lines_ok-clause-fault g c =
    let rank : ℕ = c.args.frame.now.rank in
    let before = c.if-frame.false in
    let inside : rank < length c.args.frame.now.contracts.now = omega (arith, before) in
    let contracts : List Contract = map contract_of c.args.frame.now.contracts.now in
    let x : Contract = contract_of (get_or c.args.frame.now.contracts.now rank c.index-frame-frame.result) in
    let some : slice_get contracts rank ≡ Some x = slice_get-map contract_of c.args.frame.now.contracts.now rank
    ∙ ap (option_map contract_of) (slice_get-get_or c.args.frame.now.contracts.now rank c.index-frame-frame.result inside) in
    let p = program_of c.args.frame.now.program in
    fault_of_contract p contracts rank (g.M.State.View.view c.args.state.now) x some (fault_of c.in-Err-own_lines_ok.fault)
    c.in-Err-own_lines_ok.ensures.fault
