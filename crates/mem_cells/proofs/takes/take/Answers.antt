use Rattle.std.proofs.Common.{refl, arith}
use Rattle.mem_cells.proofs.TakenBytes.{is_taken_of}
use Rattle.mem_cells.proofs.takes.take.Goals as goal

pub returns-clause-piece : goal.returns-clause-piece
returns-clause-piece c = (
  refl,
  refl,
  refl,
  refl,
  is_taken_of c.args.build.now c.second_of.new.build c.make.new.self _ _ _ _
      (record { part = c.args.part; bytes = c.args.bytes; first = c.args.first; second = c.in_ok-second.second; at = c.sum_of-at.result })
      c.in_ok-second.ensures.grown c.in_ok-zero.ensures.grown c.requires.part c.requires.first c.requires.some (omega arith) c.in_ok-second.ensures.second
      c.sum_of-at.ensures,
)
