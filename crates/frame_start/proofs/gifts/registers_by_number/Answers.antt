use Rattle.std.proofs.Common.{◌≡◌, ◌+◌, ◌∷◌, [], true, ℕ, ap, ◌∙◌, length, arith}
use Rattle.std.proofs.lemmas.List.{length-append}
use Rattle.frame_start.specs.Changes.{changed_registers, is_given}
use Rattle.frame_start.proofs.SegmentLists.{each_pushed}
use Rattle.frame_start.proofs.gifts.registers_by_number.Goals as goal

pub loop-number-preserved : goal.loop-number-preserved
loop-number-preserved c =
    let old = c.loop-number.registers.items in
    let new = c.push.new.self.items in
    let inv = c.loop-number.invariant in
    let long = ap length c.in_ok-push.ensures.items ∙ length-append old (c.given_register.result ∷ []) in
    record {
      len = (let k = inv.len in let e : length new ≡ c.loop-number.number + 1 = omega arith in e);
      each = λ x at. each_pushed (λ (n a : ℕ). is_given c.args.places.now (changed_registers c.args.changed) n ≡ true → a ≡ x.regs c.args.part n) old new
          c.given_register.result 0 c.loop-number.number inv.len c.in_ok-push.ensures.items (inv.each x at) (λ g. c.given_register.ensures g x at);
    }
