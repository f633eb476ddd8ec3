use Rattle.std.proofs.Common.{[], refl, sym, append-nil, arith}
use Rattle.term_spec.specs.Terms.{BaseNode}
use Rattle.mem_cells.specs.Building.{read_places}
use Rattle.mem_cells.proofs.Growing.{made_cellular}
use Rattle.mem_cells.proofs.building.Build.make.Goals as goal

pub returns-clause-grown : goal.returns-clause-grown
returns-clause-grown c =
    let m = c.in_ok-term.ensures in
    record {
      question = refl;
      built = made_cellular _ _ _ _ _ _ _ c.requires.built m c.requires.own;
      extends = m.extends;
      more = ([], sym (append-nil (read_places c.args.self.now)));
      gates = m.cost.gates;
      reads = omega arith;
    }

pub returns-clause-parts : goal.returns-clause-parts
returns-clause-parts c p j h = c.in_ok-term.ensures.named (BaseNode p j) h tt
