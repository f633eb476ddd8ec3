use Rattle.std.proofs.Common.{◌∙◌, ◌≡◌, ◌+◌, ◌*◌, ◌^◌, arith}
use Rattle.std.specs.Prelude.{min}
use Rattle.cnf_form.proofs.Capped.{capped-more, digits-more}
use Rattle.cnf_form.proofs.number.digits_size.Goals as goal

pub loop-byte-preserved : goal.loop-byte-preserved
loop-byte-preserved c =
    let ds = c.args.digits.now in
    let i = c.loop-byte.byte-index in
    let inv = c.loop-byte.invariant in
    let e = c.in-Some.ensures in
    let size : c.min-size.result ≡ min (c.loop-byte.size * 10 + c.in-Some.next) (2 ^ 62 + 1) = omega
    (arith, c.min-size.ensures, c.saturating_add.ensures, c.saturating_mul.ensures, inv.small, e.2) in
    record {
      digits = inv.digits ∙ digits-more ds i c.loop-byte-test.true e.0;
      value = inv.value ∙ capped-more ds i c.loop-byte.size c.min-size.result c.in-Some.next c.loop-byte-test.true e.1 size;
      small = omega arith;
    }
