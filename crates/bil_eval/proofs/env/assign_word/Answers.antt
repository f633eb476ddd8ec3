use Rattle.std.proofs.Common.{rules, ◌≡◌, length, ap, ◌∙◌, arith}
use Rattle.machine_spec.specs.BilMeaning.{Word, assign}
use Rattle.bil_ast.specs.declared.names.Var.{Var}
use Rattle.bil_ast.specs.Views.{bank_of, variable_of}
use Rattle.bil_eval.specs.Views.{env_of}
use Rattle.bil_eval.proofs.Locals.{assign_flag, assign_register, flag_below, register_below, same_bits}
use Rattle.bil_eval.proofs.env.assign_word.Goals as goal

pub bounds-env-number : goal.bounds-env-number
bounds-env-number c = register_below c.args.env.now.locals.items _ c.in-Register.number (rw c.in-Register.is at c.requires.known)

pub bounds-env-number-in-Flag : goal.bounds-env-number-in-Flag
bounds-env-number-in-Flag c = flag_below c.args.env.now.locals.items c.in-Flag.number (rw c.in-Flag.is at c.requires.known)

pub returns-in-Register-clause-assigned : goal.returns-in-Register-clause-assigned
returns-in-Register-clause-assigned c =
    let below = register_below c.args.env.now.locals.items _ c.in-Register.number (rw c.in-Register.is at c.requires.known) in
    let many : length c.args.env.now.machine.registers ≡ 32 = search rules in
    ap (λ (z : Var). assign (variable_of z) (Word c.args.value.width c.args.value.bits)
    (env_of c.args.env.now.machine c.args.env.now.locals.items)) c.in-Register.is
    ∙ assign_register c.args.env.now.machine c.args.env.now.locals.items
    (bank_of c.in-Register.field-0) c.in-Register.number c.args.value.bits c.args.value.width
    (same_bits _ _ (rw c.in-Register.is at c.requires.width)) (omega (arith, below, many))

pub returns-in-Flag-clause-assigned : goal.returns-in-Flag-clause-assigned
returns-in-Flag-clause-assigned c =
    let below = flag_below c.args.env.now.locals.items c.in-Flag.number (rw c.in-Flag.is at c.requires.known) in
    let many : length c.args.env.now.machine.flags ≡ 4 = search rules in
    ap (λ (z : Var). assign (variable_of z) (Word c.args.value.width c.args.value.bits)
    (env_of c.args.env.now.machine c.args.env.now.locals.items)) c.in-Flag.is
    ∙ assign_flag c.args.env.now.machine c.args.env.now.locals.items c.in-Flag.number c.args.value.bits c.args.value.width
    (same_bits _ _ (rw c.in-Flag.is at c.requires.width)) c.args.value.below (omega (arith, below, many))
