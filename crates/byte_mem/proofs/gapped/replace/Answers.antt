use Rattle.std.proofs.Common.{arith, refl}
use Rattle.byte_mem.proofs.Gaps.{total, replaced_below, replaced_above}
use Rattle.byte_mem.proofs.gapped.replace.Goals as goal

pub returns-then-i-below-clause-replaced : goal.returns-then-i-below-clause-replaced
returns-then-i-below-clause-replaced c =
    let g = c.args.g.now in
    let one = g.below.ok.0 in
    replaced_below g.below.items g.above.items c.args.i c.args.with _ (omega arith) refl

pub returns-clause-replaced : goal.returns-clause-replaced
returns-clause-replaced c =
    let g = c.args.g.now in
    let one = g.below.ok.0 in
    let other = g.above.ok.0 in
    let all = total g.below.items g.above.items in
    replaced_above g.below.items g.above.items c.args.i _ c.args.with _ (omega arith) (omega arith) (omega arith) refl
