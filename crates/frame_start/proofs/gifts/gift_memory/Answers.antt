use Rattle.std.proofs.Common.{ap, sym, ◌∙◌, arith}
use Rattle.word_spec.specs.Memory.{memory_of}
use Rattle.word_spec.specs.State.{Written}
use Rattle.frame_start.proofs.GiftInputs.{gift_listed, gift_past}
use Rattle.frame_start.proofs.gifts.gift_memory.Goals as goal

pub returns-then-place-gifts-clause-value : goal.returns-then-place-gifts-clause-value
returns-then-place-gifts-clause-value c x =
    let value = rw (c.deref.ensures.value) at c.in_ok-memory.ensures.value in
    value x ∙ sym (ap (λ (w : Written). memory_of w.bytes x) (gift_listed c.args.gifts.now c.args.place _ (omega arith)))

pub returns-clause-value : goal.returns-clause-value
returns-clause-value c x =
    (c.in_ok-memory-2).ensures.value x ∙ sym (ap (λ (w : Written). memory_of w.bytes x) (gift_past c.args.gifts.now c.args.place (omega arith)))
