use Rattle.mem_cells.proofs.Chains.{pieces_kept}
use Rattle.mem_cells.proofs.LoadedBytes.{behind}
use Rattle.mem_cells.proofs.loads.byte_behind.Goals as goal

pub byte_at-requires-clause-pieces : goal.byte_at-requires-clause-pieces
byte_at-requires-clause-pieces c = pieces_kept c.args.build.now c.raised.new.build _ _ _ _ c.in_ok-at.ensures.grown c.requires.pieces

pub returns-clause-byte : goal.returns-clause-byte
returns-clause-byte c =
    behind c.args.build.now c.raised.new.build c.byte_at.new.self _ _ _ _ _ _ _ _ _ c.in_ok-at.ensures.grown c.requires.pieces c.in_ok-at.ensures.word
    c.in_ok-byte.ensures.byte
