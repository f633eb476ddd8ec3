use Rattle.std.proofs.Common.{◌≡◌, true, rules}
use Rattle.arm_step.specs.States.{state_of}
use Rattle.arm_step.proofs.LoadedRows.{refused, word_loaded}
use Rattle.arm_step.proofs.transfers.loaded_bytes.Goals as goal

pub returns-then-is_unaligned : goal.returns-then-is_unaligned
returns-then-is_unaligned c = λ w x.
    let r = c.args.fields in
    let loads : r.is_load ≡ true = search (rules, c.if-not-fields.false) in
    refused w (state_of c.args.state.now) r.is_load c.is_unaligned.result r.rd.number c.transfer_address-a.result x.is_load loads x.rd
    (c.transfer_address-a.ensures w x) c.is_unaligned.ensures c.if-is_unaligned.true

pub returns : goal.returns
returns c = λ w x.
    let r = c.args.fields in
    let loads : r.is_load ≡ true = search (rules, c.if-not-fields.false) in
    word_loaded w (state_of c.args.state.now) r.is_load c.is_unaligned.result r.is_byte r.rd.number c.transfer_address-a.result c.access_of.result
    x.is_load loads x.rd (c.transfer_address-a.ensures w x) c.is_unaligned.ensures c.if-is_unaligned.false x.is_byte c.access_of.ensures
