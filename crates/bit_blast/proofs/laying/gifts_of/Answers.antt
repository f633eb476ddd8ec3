use Rattle.std.proofs.Common.{◌≡◌, ◌∙◌, ◌<◌, sym, subst, length, arith}
use Rattle.question_form.specs.FrameViews.{frame_unrolled_of}
use Rattle.bit_blast.specs.Places.{lists_of}
use Rattle.bit_blast.specs.Laid.{AreGifts}
use Rattle.bit_blast.proofs.Drawn.{few_flags}
use Rattle.bit_blast.proofs.GivenInputs.{few_numbers, gifts_behind, gifts_step, no_gifts, points_count}
use Rattle.bit_blast.proofs.laying.gifts_of.Goals as goal

pub add_registers-requires-clause-range : goal.add_registers-requires-clause-range
add_registers-requires-clause-range c =
    let few = few_numbers c.args.unrolled.now.form in omega (arith, few, c.registers-from.ensures.first, c.register_count-registers.ensures)

pub add_flags-requires-clause-range : goal.add_flags-requires-clause-range
add_flags-requires-clause-range c = let few = few_flags c.args.unrolled.now.form in omega (arith, few, c.flag_count-flags.ensures)

pub loop-i-init : goal.loop-i-init
loop-i-init c = (
  no_gifts (frame_unrolled_of c.args.unrolled.now) c.args.first c.new.result.items c.new-2.result.items c.new.ensures.items c.new-2.ensures.items,
  omega (arith, c.requires.few),
)

pub loop-i-preserved : goal.loop-i-preserved
loop-i-preserved c =
    let v = c.args.unrolled.now in
    let l : c.loop-i.i < length v.points.items = omega (arith, c.len-i-end.ensures, c.loop-i-test.true) in (
      gifts_step v c.args.first c.loop-i.i c.registers-from.result.0 c.register_count-registers.result c.flag_count-flags.result c.index.result.now
          c.given_sets-register_set.result c.loop-i.gifts.registers c.loop-i.gifts.flags c.add_registers.new.self.registers c.add_registers.new.self.flags
          c.add_flags.new.self.registers c.add_flags.new.self.flags c.loop-i.gifts.behind c.add_registers.new.self.behind c.add_flags.new.self.behind
          c.registers-from.ensures.first c.register_count-registers.ensures c.flag_count-flags.ensures l c.index.ensures c.given_sets-register_set.ensures
          c.loop-i.invariant.0 c.in_ok-add_registers.ensures.added c.in_ok-add_registers.ensures.flags c.in_ok-add_flags.ensures.added
          c.in_ok-add_flags.ensures.registers,
      omega (arith, c.in_ok-add_registers.ensures.few, c.in_ok-add_flags.ensures.few, c.if-gifts-gt-LAST_GIVEN.false),
    )

pub returns-clause-are : goal.returns-clause-are
returns-clause-are c =
    let v = c.args.unrolled.now in
    subst (λ n. AreGifts (frame_unrolled_of v) c.args.first n (lists_of c.loop-i.gifts.registers.items) (lists_of c.loop-i.gifts.flags.items) c.loop-i.gifts.behind)
    (let e : c.loop-i.i ≡ length v.points.items = omega (arith, c.len-i-end.ensures, c.loop-i-test.false)
    in e ∙ sym (points_count v v.points.items)) c.loop-i.invariant.0

pub returns-clause-behind : goal.returns-clause-behind
returns-clause-behind c =
    gifts_behind (frame_unrolled_of c.args.unrolled.now) c.args.first c.loop-i.i (lists_of c.loop-i.gifts.registers.items)
    (lists_of c.loop-i.gifts.flags.items) c.loop-i.gifts.behind c.loop-i.invariant.0
