use Rattle.std.proofs.Common.{◌≡◌, ◌-◌, length, arith}
use Rattle.sat_core.proofs.Visiting.{item-contains}
use Rattle.sat_core.proofs.solver.propagator_of.Goals as goal

pub add-requires-clause-over : goal.add-requires-clause-over
add-requires-clause-over c =
    let x = c.clause-item.result in
    let n : length c.loop-clause.propagator.trail.table.items - 1 ≡ c.args.variables = (let e = c.loop-clause.invariant.size in omega arith) in
    rw (c.in_ok-from_slice.ensures, c.lits.ensures, n) (c.requires.over x
    (item-contains c.args.clauses.now c.loop-clause.clause-index x c.loop-clause-test.true c.clause-item.is))
