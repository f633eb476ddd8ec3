use Rattle.std.proofs.Common.{◌≡◌, ◌+◌, ◌*◌, ◌∙◌, ap, sym, arith}
use Rattle.machine_spec.specs.Machine.{width}
use Rattle.lift_text.proofs.Givens.{two_found}
use Rattle.lift_text.proofs.candidates.row_in_part.Goals as goal

pub returns-then-width-eq2 : goal.returns-then-width-eq2
returns-then-width-eq2 g c =
    let half : c.half_of.result ≡ c.part_byte-first.result + c.part_byte-second.result * 256 = omega (arith, c.half_of.ensures) in
    two_found g.M.Machine.machine g.met.M.Machine.lawful c.args.image.now c.args.part.now.first c.part_byte-first.result c.part_byte-second.result
    c.part_byte-first.ensures c.part_byte-second.ensures c.requires.aligned
    (sym (ap (width g.M.Machine.machine.narrow) half) ∙ (sym c.width.ensures ∙ c.if-width-eq2.true))
