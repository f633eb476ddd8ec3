use Rattle.std.proofs.Common.{◌≡◌, arith}
use Rattle.std.proofs.lemmas.Bool.Decides.{nat_tests}
use Rattle.mem_cells.proofs.TakenBytes.{one_word, two_word}
use Rattle.mem_cells.proofs.building.Build.is_taken.Goals as goal

pub returns-then-taken-eq1-clause-bit : goal.returns-then-taken-eq1-clause-bit
returns-then-taken-eq1-clause-bit c =
    let one : c.args.taken.bytes ≡ 1 = (let h = c.if-taken-eq1.true in grind (arith, nat_tests)) in
    one_word c.args.self.now c.make.new.self c.args.address.0 c.args.taken c.in_ok-is_first.is_first.0 c.requires.built c.requires.taken c.requires.address
    one c.in_ok-is_first.ensures.word

pub returns-then-taken-eq2-clause-bit : goal.returns-then-taken-eq2-clause-bit
returns-then-taken-eq2-clause-bit c =
    let two : c.args.taken.bytes ≡ 2 = (let h = c.if-taken-eq2.true in grind (arith, nat_tests)) in
    two_word c.args.self.now c.is_either.new.self c.args.address.0 c.args.taken c.in_ok-either.either.0 c.requires.built c.requires.taken c.requires.address
    two c.in_ok-either.ensures.bit
