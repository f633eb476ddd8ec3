use Rattle.std.proofs.Common.{◌++◌, ◌∷◌, [], ap, ◌∙◌, arith}
use Rattle.bit_blast.specs.declared.input_places.PartRead.{PartRead}
use Rattle.bit_blast.proofs.ReadNumbers.{set_is, set_none}
use Rattle.bit_blast.proofs.laying.add_read.Goals as goal

pub returns-then-read-len : goal.returns-then-read-len
returns-then-read-len c =
    let r : PartRead = record { part = c.args.read.part; number = c.args.number } in
    set_is c.args.reads.now.items c.args.read.address r _ _ (omega arith)
    (c.in_ok-push.ensures.items ∙ ap (λ z. z.items ++ r ∷ []) c.index_mut.ensures.value)

pub returns : goal.returns
returns c = set_none c.args.reads.now.items c.args.read.address (record { part = c.args.read.part; number = c.args.number }) (omega arith)
