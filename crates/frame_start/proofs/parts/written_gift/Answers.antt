use Rattle.std.proofs.Common.{◌≤◌, ◌^◌, ◌∙◌, ap, refl, arith, pow_mono}
use Rattle.word_spec.specs.Words.{bit_at}
use Rattle.frame_start.proofs.GiftInputs.{bits_number}
use Rattle.frame_start.proofs.parts.written_gift.Goals as goal

pub overflow_cast-flags : goal.overflow_cast-flags
overflow_cast-flags c =
    let m : 2 ^ c.args.places.now.flags ≤ 2 ^ 8 = pow_mono c.requires.flags in
    let b = c.number_at-flags.ensures.below in
    omega arith

pub returns : goal.returns
returns c =
    let number = rw (c.deref.ensures.value) at c.number_at-flags.ensures.value in
    record {
      regs = c.in_ok-regs.ensures;
      flags_are = λ x at f l. ap (bit_at f) number ∙ bits_number c.in_ok-bits.bits.items c.args.places.now.flags f l ∙ c.in_ok-bits.ensures.each x at f l;
      fit = c.number_at-flags.ensures.below;
      bytes_are = refl;
      choices = c.new.ensures.items;
    }
