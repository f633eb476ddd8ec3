use Rattle.std.proofs.Common.{ap, sym, ◌∙◌}
use Rattle.word_spec.specs.Memory.{endian, place}
use Rattle.mem_cells.proofs.StoredWords.{extracted}
use Rattle.mem_cells.proofs.stores.stored_byte.Goals as goal
use Rattle.mem_cells.proofs.stores.stored_byte.Goals.{then-big, else-big}

pub returns-clause-byte : goal.returns-clause-byte
returns-clause-byte c =
    extracted c.args.build.now c.make.new.self _ _ c.args.bytes c.args.place c.if-big.from_lowest (endian c.args.big)
    (elim c.if-big.branch [
      | then-big w ↦ w.from_lowest-is ∙ ap (λ z. place (endian z) c.args.bytes c.args.place) (sym w.if-big.true)
      | else-big w ↦ w.from_lowest-is ∙ ap (λ z. place (endian z) c.args.bytes c.args.place) (sym w.if-big.false)
    ])
    c.in_ok-term.ensures.word
