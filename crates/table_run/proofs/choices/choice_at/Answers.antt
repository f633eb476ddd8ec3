use Rattle.std.proofs.Common.{◌<◌, length, sym, arith}
use Rattle.byte_mem.proofs.Places.{nowhere}
use Rattle.byte_mem.proofs.Spans.{byte_at, byte_none}
use Rattle.table_run.proofs.choices.choice_at.Goals as goal

pub returns-then-i-choices : goal.returns-then-i-choices
returns-then-i-choices c =
    sym (byte_none c.args.choices.now c.args.step (λ k d h is. let b = c.place-i.ensures.below k d (omega arith) in absurd (omega arith)))

pub returns-then-choices-i : goal.returns-then-choices-i
returns-then-choices-i c =
    let inside : c.place-i.result < length c.args.choices.now = omega arith in
    sym (byte_none c.args.choices.now c.args.step
    (nowhere _ _ _ (0, 0) c.requires c.place-i.ensures.below c.place-i.ensures.from inside c.if-choices-i.true))

pub returns : goal.returns
returns c =
    let inside : c.place-i.result < length c.args.choices.now = omega arith in
    sym (byte_at c.args.choices.now c.place-i.result c.args.step (0, 0) c.place-i.ensures.below inside c.if-choices-i.false)
