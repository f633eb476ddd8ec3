use Rattle.std.proofs.Common.{◌≡◌, ap, sym, arith}
use Rattle.std.proofs.lemmas.Bool.Decides.{nat_tests}
use Rattle.bit_blast.specs.Places.{first_of}
use Rattle.bit_blast.proofs.PartPlaces.{part_of_head, behind_head}
use Rattle.bit_blast.proofs.inputs.first_of.Goals as goal

pub returns-then-part-eq0-clause-is : goal.returns-then-part-eq0-clause-is
returns-then-part-eq0-clause-is c = let e : c.args.part ≡ 0 = (let h = c.if-part-eq0.true in grind (arith, nat_tests)) in ap (first_of c.args.places.now) (sym e)

pub returns-else-part-eq0-clause-is : goal.returns-else-part-eq0-clause-is
returns-else-part-eq0-clause-is c = sym (part_of_head c.args.places.now c.args.part c.requires.part c.if-part-eq0.false).1

pub returns-then-part-eq0-clause-within : goal.returns-then-part-eq0-clause-within
returns-then-part-eq0-clause-within c = let e = c.requires.order.choice in omega arith

pub returns-else-part-eq0-clause-within : goal.returns-else-part-eq0-clause-within
returns-else-part-eq0-clause-within c =
    let e = behind_head c.args.places.now c.requires.order (part_of_head c.args.places.now c.args.part c.requires.part c.if-part-eq0.false).0 in omega arith
