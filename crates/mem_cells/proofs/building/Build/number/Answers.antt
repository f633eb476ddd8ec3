use Rattle.std.proofs.Common.{arith}
use Rattle.mem_cells.proofs.Growing.{grown_none, grown_more}
use Rattle.mem_cells.proofs.building.Build.number.Goals as goal

pub returns-in-Some-clause-grown : goal.returns-in-Some-clause-grown
returns-in-Some-clause-grown c =
    grown_more c.args.self.now c.args.self.now 0 0 0 1 (omega arith) (omega arith) (grown_none c.args.self.now c.requires.built)
