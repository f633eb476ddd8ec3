use Rattle.std.proofs.Common.{◌≡◌, ◌-◌, List, take, refl, sym, ap, ◌∙◌, arith}
use Rattle.std.proofs.lemmas.Bool.{eqb-true}
use Rattle.machine_spec.proofs.BilSound.{both}
use Rattle.machine_spec.specs.Bil.{Local}
use Rattle.machine_spec.specs.BilMeaning.{put_local}
use Rattle.bil_eval.specs.declared.env.LocalWord.{LocalWord}
use Rattle.bil_eval.specs.Views.{held, values}
use Rattle.bil_eval.proofs.Locals.{apart_more, held_set, held_word, read_miss, values_set}
use Rattle.bil_eval.proofs.env.write_local.Goals as goal

pub returns-then-is_of-clause-values : goal.returns-then-is_of-clause-values
returns-then-is_of-clause-values c =
    let hit = both _ _ (sym c.is_of.ensures ∙ c.if-is_of.true) in
    values_set c.loop-i.locals c.loop-i.i (c.loop-i.i - 1) c.index-locals-i.result _ c.args.local.number c.args.local.width.bits (omega arith) (omega arith)
    c.index-locals-i.is (sym (eqb-true _ _ hit.0)) (sym (eqb-true _ _ hit.1)) refl c.requires.width c.loop-i.invariant.apart
    ∙ ap (λ (z : List LocalWord). put_local c.args.local.number c.args.local.width.bits c.args.value.bits (values z)) c.loop-i.invariant.same

pub returns-then-is_of-clause-held : goal.returns-then-is_of-clause-held
returns-then-is_of-clause-held c =
    let hit = both _ _ (sym c.is_of.ensures ∙ c.if-is_of.true) in
    held_set c.loop-i.locals (c.loop-i.i - 1) c.index-locals-i.result _ (omega arith) c.index-locals-i.is (eqb-true _ _ hit.0)
    (c.requires.width ∙ eqb-true _ _ hit.1)
    ∙ ap held c.loop-i.invariant.same

pub loop-i-preserved : goal.loop-i-preserved
loop-i-preserved c = record {
  within = omega arith;
  same = c.loop-i.invariant.same;
  value = read_miss c.loop-i.locals c.loop-i.i (c.loop-i.i - 1) c.index-locals-i.result _ _ _ (omega arith) (omega arith) c.index-locals-i.is
      (sym c.is_of.ensures ∙ c.if-is_of.false) c.loop-i.invariant.value;
  apart = apart_more c.args.local.number c.args.local.width.bits c.loop-i.i (c.loop-i.i - 1) c.loop-i.locals c.index-locals-i.result (omega arith) (omega arith)
      c.index-locals-i.is (sym c.is_of.ensures ∙ c.if-is_of.false) c.loop-i.invariant.apart;
}

pub unreachable-requires : goal.unreachable-requires
unreachable-requires c =
    let none : c.loop-i.i ≡ 0 = omega arith in
    held_word c.loop-i.locals c.args.local.number c.args.local.width.bits
    (ap (λ (z : List LocalWord). held z (Local c.args.local.number c.args.local.width.bits)) c.loop-i.invariant.same ∙ c.requires.known)
    (sym (ap (λ i. values (take i c.loop-i.locals) c.args.local.number c.args.local.width.bits) none) ∙ c.loop-i.invariant.value)
