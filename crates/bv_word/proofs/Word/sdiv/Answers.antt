use Rattle.std.proofs.Common.{◌≡◌, ◌<◌, ◌^◌, subst}
use Rattle.word_spec.specs.Words as words
use Rattle.bv_word.proofs.Bits.{sdiv_of}
use Rattle.bv_word.proofs.Word.sdiv.Goals as goal

pub returns-clause-bits : goal.returns-clause-bits
returns-clause-bits c =
    let n = c.args.self.width in
    let b = c.args.other.bits in
    let q = c.udiv-quotient.result.bits in
    let same : c.args.other.width ≡ n = cc in
    let wide : c.udiv-quotient.result.width ≡ n = cc in
    let below : b < 2 ^ n = subst (λ k. b < 2 ^ k) same c.args.other.below in
    let small : q < 2 ^ n = subst (λ k. q < 2 ^ k) wide c.udiv-quotient.result.below in
    let quotient : q ≡ words.udiv n (words.magnitude n c.args.self.bits) (words.magnitude n b) = cc in
    let signed : c.with_sign.result.bits ≡ words.with_sign n (words.differ (words.is_negative n c.args.self.bits) (words.is_negative n b)) q = cc in
    sdiv_of n c.args.self.bits b q c.with_sign.result.bits c.if-other-eq0.false below small quotient signed
