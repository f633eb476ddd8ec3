use Rattle.std.proofs.Common.{length, ap, arith}
use Rattle.mem_cells.proofs.Growing.{grown_on, grown_width}
use Rattle.mem_cells.proofs.Chains.{pieces_kept, split_kept, byte_before}
use Rattle.mem_cells.proofs.building.Build.byte_at.Goals as goal

pub chain-requires-clause-pieces : goal.chain-requires-clause-pieces
chain-requires-clause-pieces c = pieces_kept c.make.new.self c.number_for.new.self _ _ _ _ c.in_ok-number.ensures.grown
    (pieces_kept c.args.self.now c.make.new.self _ _ _ _ c.in_ok-zero.ensures.grown c.requires.pieces)

pub number_for-requires-clause-pieces : goal.number_for-requires-clause-pieces
number_for-requires-clause-pieces c = pieces_kept c.args.self.now c.make.new.self _ _ _ _ c.in_ok-zero.ensures.grown c.requires.pieces

pub returns-clause-byte : goal.returns-clause-byte
returns-clause-byte c =
    byte_before c.args.self.now c.number_for.new.self c.chain.new.self _ _ _ _ c.args.memory _ _ _
    (grown_on c.args.self.now c.make.new.self c.number_for.new.self _ _ _ _ c.in_ok-zero.ensures.grown c.in_ok-number.ensures.grown)
    c.requires.pieces c.requires.address.0
    (omega (arith, ap length c.deref-3.ensures.value, c.in_ok-marks.ensures.count)) c.in_ok-byte.ensures.byte

pub chain-requires-clause-split : goal.chain-requires-clause-split
chain-requires-clause-split c =
    split_kept c.make.new.self c.number_for.new.self _ _ c.args.address.0 c.sum_of-at.result.base.0 c.sum_of-at.result.offset c.in_ok-number.ensures.grown
    (grown_width c.args.self.now c.make.new.self _ _ 32 c.args.address.0 c.in_ok-zero.ensures.grown c.requires.address).0 c.sum_of-at.ensures
