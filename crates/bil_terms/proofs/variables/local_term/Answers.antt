use Rattle.std.proofs.Common.{◌-◌, refl, sym, ap, ◌∙◌, arith}
use Rattle.std.proofs.Math.Seq.{take-length}
use Rattle.bil_terms.specs.Naming.{known, values}
use Rattle.machine_spec.specs.Bil as bil
use Rattle.bil_terms.proofs.Locals.{hit, miss, none_before}
use Rattle.bil_terms.proofs.variables.local_term.Goals as goal

pub loop-i-init : goal.loop-i-init
loop-i-init c =
    let ls = c.args.locals.now in
    let y = c.args.local.number in let n = c.args.local.width.bits in record {
      within = omega arith;
      value = λ x. ap (λ z. values c.args.dag.now x z y n) (take-length ls);
      known = ap (λ z. known c.args.names.now z (bil.Local y n)) (take-length ls) ∙ c.requires.known;
    }

pub returns-then-is_of : goal.returns-then-is_of
returns-then-is_of c =
    hit c.args.dag.now c.args.names.now c.args.locals.now c.loop-i.i (c.loop-i.i - 1) _ c.args.local.number c.args.local.width.bits c.loop-i.invariant
    (omega arith) refl
    (sym c.is_of.ensures ∙ c.if-is_of.true) c.requires.locals

pub loop-i-preserved : goal.loop-i-preserved
loop-i-preserved c =
    miss c.args.dag.now c.args.names.now c.args.locals.now c.loop-i.i (c.loop-i.i - 1) _ c.args.local.number c.args.local.width.bits c.loop-i.invariant
    (omega arith) refl
    (sym c.is_of.ensures ∙ c.if-is_of.false)

pub unreachable-requires : goal.unreachable-requires
unreachable-requires c = none_before c.args.dag.now c.args.names.now c.args.locals.now c.loop-i.i c.args.local.number c.args.local.width.bits c.loop-i.invariant
    (omega arith)
