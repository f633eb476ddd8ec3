use Rattle.std.proofs.Common.{ap, ◌∙◌, arith}
use Rattle.mem_cells.specs.Parts.{and_part}
use Rattle.mem_cells.proofs.PartReads.{set_is, set_none}
use Rattle.mem_cells.proofs.parts.note.Goals as goal

pub returns-then-read-len : goal.returns-then-read-len
returns-then-read-len c =
    rw c.in-Base.is
    (set_is c.args.parts.now.items c.in-Base.part c.in-Base.read c.add_part.new.parts _ (omega arith)
    (c.in_ok-add_part.ensures ∙ ap (λ z. and_part z.items c.in-Base.part) c.index_mut.ensures.value))

pub returns-else-read-len : goal.returns-else-read-len
returns-else-read-len c = rw c.in-Base.is (set_none c.args.parts.now.items c.in-Base.part c.in-Base.read (omega arith))
