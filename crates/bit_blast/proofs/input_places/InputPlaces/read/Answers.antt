use Rattle.std.proofs.Common.{ap, ◌∙◌, arith}
use Rattle.std.specs.Global.{Vec}
use Rattle.bit_blast.specs.declared.input_places.PartRead.{PartRead}
use Rattle.bit_blast.specs.Places.{number_in}
use Rattle.bit_blast.proofs.ReadNumbers.{number_out, number_there}
use Rattle.bit_blast.proofs.input_places.InputPlaces.read.Goals as goal

pub returns-then-address-len : goal.returns-then-address-len
returns-then-address-len c =
    c.number_in-number.ensures
    ∙ ap (number_in c.args.part) (c.deref.ensures.value ∙ ap (λ (z : Vec PartRead). z.items) c.index.ensures)
    ∙ number_there c.args.self.now.part_reads.items c.args.part c.args.address c.index.result.now (omega arith)

pub returns : goal.returns
returns c = number_out c.args.self.now.part_reads.items c.args.part c.args.address (omega arith)
