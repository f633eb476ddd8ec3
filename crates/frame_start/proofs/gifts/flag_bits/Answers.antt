use Rattle.std.proofs.Common.{◌≡◌, ◌+◌, ◌∷◌, [], false, ℕ, Bool, ap, ◌∙◌, length, arith}
use Rattle.std.proofs.lemmas.List.{length-append}
use Rattle.word_spec.specs.Words.{bit}
use Rattle.frame_start.specs.Changes.{changed_flags, flag_among}
use Rattle.frame_start.proofs.SegmentLists.{each_pushed}
use Rattle.frame_start.proofs.gifts.flag_bits.Goals as goal

pub loop-number-preserved : goal.loop-number-preserved
loop-number-preserved c =
    let old = c.loop-number.bits.items in
    let new = c.push.new.self.items in
    let inv = c.loop-number.invariant in
    let long = ap length c.in_ok-push.ensures.items ∙ length-append old (c.given_flag.result ∷ []) in
    record {
      len = (let k = inv.len in let e : length new ≡ c.loop-number.number + 1 = omega arith in e);
      each = λ x at. each_pushed (λ (f : ℕ) (b : Bool). bit b ≡ flag_among x c.args.part (changed_flags c.args.changed) f) old new c.given_flag.result false
          c.loop-number.number inv.len c.in_ok-push.ensures.items (inv.each x at) (c.given_flag.ensures x at);
    }
