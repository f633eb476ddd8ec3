use Rattle.std.proofs.Common.{[], refl, sym, append-nil, arith}
use Rattle.mem_cells.specs.Building.{read_places}
use Rattle.mem_cells.proofs.Growing.{kept_cellular, read_byte}
use Rattle.mem_cells.proofs.building.Build.read.Goals as goal

pub returns-clause-grown : goal.returns-clause-grown
returns-clause-grown c =
    let m = c.in_ok-byte.ensures in
    record {
      question = refl;
      built = kept_cellular _ _ _ _ _ _ _ c.requires.built m
          (record { typed = tt; word = omega arith; loads = refl; named = (c.requires.part, c.requires.number) });
      extends = m.extends;
      more = ([], sym (append-nil (read_places c.args.self.now)));
      gates = m.cost.gates;
      reads = omega arith;
    }

pub returns-clause-byte : goal.returns-clause-byte
returns-clause-byte c =
    read_byte c.args.self.now _ 0 0 c.args.part c.args.number _ c.requires.built (returns-clause-grown c) c.in_ok-byte.ensures c.requires.number
