use Rattle.std.proofs.Common.{arith, length}
use Rattle.frame_start.proofs.CellInputs.{placed}
use Rattle.frame_start.proofs.reads.reads_of_part.Goals as goal

pub list_read-requires-clause-place : goal.list_read-requires-clause-place
list_read-requires-clause-place c = placed c.args.reads.now _ c.requires.places c.loop-i.i _ c.loop-i-test.true

pub list_read-requires-clause-byte : goal.list_read-requires-clause-byte
list_read-requires-clause-byte c =
    let l = placed c.args.reads.now (length c.args.addresses.now) c.requires.places c.loop-i.i (record { part = 0; address = 0 }) c.loop-i-test.true in
    omega (arith, l, c.requires.count)

pub list_read-requires-clause-within : goal.list_read-requires-clause-within
list_read-requires-clause-within c = λ d. c.requires.within _ d (placed c.args.reads.now _ c.requires.places c.loop-i.i _ c.loop-i-test.true)

pub list_read-requires-clause-small : goal.list_read-requires-clause-small
list_read-requires-clause-small c = c.requires.small _ (placed c.args.reads.now _ c.requires.places c.loop-i.i _ c.loop-i-test.true)
