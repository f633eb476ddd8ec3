use Rattle.std.proofs.Common.{◌+◌, ◌*◌, sym}
use Rattle.clause_spec.specs.Clauses.{valuation}
use Rattle.term_spec.specs.ClauseForm.{bits_from}
use Rattle.bit_blast.proofs.Drawn.{mapped_push}
use Rattle.frame_start.proofs.inputs.registers_from.Goals as goal

pub loop-i-preserved : goal.loop-i-preserved
loop-i-preserved c =
    rw (c.in_ok-push.ensures.items, c.loop-i.invariant, c.number_at.ensures.value)
    (sym (mapped_push (λ q. bits_from (valuation c.args.values.now) (c.args.first + 32 * q) 32) c.loop-i.i))
