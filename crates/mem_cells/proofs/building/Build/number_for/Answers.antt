use Rattle.std.proofs.Common.{ap, ◌∙◌, sym, arith}
use Rattle.mem_cells.specs.Pieces.{part_read, piece_at}
use Rattle.mem_cells.proofs.TakenBytes.{part_of_piece}
use Rattle.mem_cells.proofs.building.Build.number_for.Goals as goal

pub number-requires-clause-part : goal.number-requires-clause-part
number-requires-clause-part c =
    let m = c.args.memories.now in
    let s = c.in-Some.ensures.some in
    let q = s.0 in
    part_of_piece c.args.self.now m.stored.items q c.in-Some.part (piece_at m.pieces.items q) c.args.at (c.requires.pieces q (omega (arith, s.1, c.requires.few)))
    (ap (λ z. part_read c.args.at (piece_at z q)) (sym c.deref.ensures.value) ∙ s.2)

pub returns-in-None-clause-number : goal.returns-in-None-clause-number
returns-in-None-clause-number c q p l m e =
    absurd (c.in-None.ensures.none q p l m (ap (λ z. part_read c.args.at (piece_at z q)) c.deref.ensures.value ∙ e))
