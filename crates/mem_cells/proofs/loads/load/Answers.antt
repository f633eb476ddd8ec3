use Rattle.std.proofs.Common.{◌+◌, ◌*◌, arith}
use Rattle.std.specs.Prelude.{sum_by}
use Rattle.word_spec.specs.Memory.{endian}
use Rattle.mem_cells.specs.Pieces.{piece_gates}
use Rattle.mem_cells.proofs.Growing.{grown_on, grown_more}
use Rattle.mem_cells.proofs.Chains.{pieces_kept}
use Rattle.mem_cells.proofs.LoadedBytes.{first_load, next_load, one_more_of}
use Rattle.mem_cells.proofs.loads.load.Goals as goal

pub loop-i-init : goal.loop-i-init
loop-i-init c =
    let p = 64 + sum_by piece_gates c.args.memories.now.pieces.items in
    record {
      grown = grown_more c.args.build.now c.byte_behind.new.build p 1 (1 * p) 1 (omega arith) (omega arith) c.in_ok-word.ensures.grown;
      word = first_load c.args.build.now c.byte_behind.new.build _ _ _ c.args.address.0 _ (endian c.args.big) c.in_ok-word.ensures.byte;
    }

pub byte_behind-requires-in-loop-i-clause-pieces : goal.byte_behind-requires-in-loop-i-clause-pieces
byte_behind-requires-in-loop-i-clause-pieces c = pieces_kept c.args.build.now c.loop-i.build _ _ _ _ c.loop-i.invariant.grown c.requires.pieces

pub loop-i-preserved : goal.loop-i-preserved
loop-i-preserved c =
    let h = c.loop-i.invariant in
    let a = c.args.build.now in
    let m = c.loop-i.build in
    let l = c.byte_behind-in-loop-i.new.build in
    let n = c.joined.new.build in
    let p = 64 + sum_by piece_gates c.args.memories.now.pieces.items in
    let i = c.loop-i.i in
    let e = one_more_of i p in
    record {
      grown = grown_more a n (i * p + (p + 0)) (i + (1 + 0)) ((i + 1) * p) (i + 1) (omega (arith, e)) (omega arith)
          (grown_on a m n (i * p) i (p + 0) (1 + 0) h.grown (grown_on m l n p 1 0 0 c.in_ok-byte.ensures.grown c.in_ok-word-2.ensures.grown));
      word = next_load a m l n (i * p) i p 1 0 0 _ _ _ c.args.address.0 i _ _ _
          (endian c.args.big) c.requires.pieces c.requires.address h.grown c.in_ok-byte.ensures.grown c.in_ok-word-2.ensures.grown
          h.word c.in_ok-byte.ensures.byte c.in_ok-word-2.ensures.word;
    }
