use Rattle.std.proofs.Common.{◌≤◌, length, arith}
use Rattle.mem_cells.proofs.FileBytes.{found_asked}
use Rattle.mem_cells.proofs.file_bytes.asked_addresses.Goals as goal

pub returns-clause-asked : goal.returns-clause-asked
returns-clause-asked c = λ a.
    let l : length c.args.literals.now ≤ c.loop-first.first-index = omega (arith, c.loop-first-test.false) in
    found_asked c.loop-first.found.items c.in_ok-asked.asked.items c.args.added.now c.args.literals.now c.loop-first.first-index a l (c.loop-first.invariant a)
    (c.in_ok-asked.ensures.same a)
