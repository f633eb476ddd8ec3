use Rattle.std.proofs.Common.{◌≡◌, ◌-◌, take, sym, ap, ◌∙◌, arith}
use Rattle.bil_eval.specs.Views.{values}
use Rattle.bil_eval.proofs.Locals.{held_word, read_hit, read_miss}
use Rattle.bil_eval.proofs.env.read_local.Goals as goal

pub returns-then-is_of-clause-value : goal.returns-then-is_of-clause-value
returns-then-is_of-clause-value c =
    read_hit c.args.locals.now c.loop-i.i (c.loop-i.i - 1) c.index-locals-i.result _ _ _ (omega arith) (omega arith) c.index-locals-i.is
    (sym c.is_of.ensures ∙ c.if-is_of.true) c.loop-i.invariant.value

pub loop-i-preserved : goal.loop-i-preserved
loop-i-preserved c = record {
  within = omega arith;
  value = read_miss c.args.locals.now c.loop-i.i (c.loop-i.i - 1) c.index-locals-i.result _ _ _ (omega arith) (omega arith) c.index-locals-i.is
      (sym c.is_of.ensures ∙ c.if-is_of.false) c.loop-i.invariant.value;
}

pub unreachable-requires : goal.unreachable-requires
unreachable-requires c =
    let none : c.loop-i.i ≡ 0 = omega arith in
    held_word c.args.locals.now c.args.local.number c.args.local.width.bits c.requires
    (sym (ap (λ i. values (take i c.args.locals.now) c.args.local.number c.args.local.width.bits) none) ∙ c.loop-i.invariant.value)
