use Rattle.std.proofs.Common.{◌∙◌, ◌≡◌, ◌+◌, ◌*◌, arith}
use Rattle.model_spec.specs.ModelText.{is_hex}
use Rattle.model_text.specs.Bits.{capped}
use Rattle.model_text.proofs.Capped.{steps_16, capped_more, digits_more}
use Rattle.model_text.proofs.digits.hex_digits.Goals as goal

pub loop-byte-preserved : goal.loop-byte-preserved
loop-byte-preserved c =
    let ds = c.args.digits.now in
    let i = c.loop-byte.byte-index in
    let inv = c.loop-byte.invariant in
    let e = c.in-Some.ensures in
    let size : c.min-number.result ≡ capped (c.loop-byte.number * 16 + c.in-Some.digit) = omega arith in
    record {
      digits = inv.digits ∙ digits_more is_hex ds i c.loop-byte-test.true e.0;
      value = inv.value ∙ capped_more 16 steps_16 ds i c.loop-byte.number c.min-number.result c.in-Some.digit c.loop-byte-test.true e.1 size;
      small = omega arith;
    }
