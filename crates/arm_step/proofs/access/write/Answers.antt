use Rattle.std.proofs.Common.{◌<◌, subst, ℕ}
use Rattle.arm_step.specs.States.{state_of}
use Rattle.arm_step.proofs.Operands.{wrote, jumped}
use Rattle.arm_step.proofs.access.write.Goals as goal

pub returns-in-Some-clause-step : goal.returns-in-Some-clause-step
returns-in-Some-clause-step c = λ old e.
    wrote old (state_of c.args.state.now) (state_of c.set.new.self) (state_of c.go_on.new.self) c.go_on.result c.args.rd.number c.in-Some.rd.number c.args.value
    (subst (λ (n : ℕ). n < 15) c.in-Some.ensures c.in-Some.rd.in_range) c.in-Some.ensures e c.set.ensures.state c.go_on.ensures.state c.go_on.ensures.out

pub returns-in-None-clause-step : goal.returns-in-None-clause-step
returns-in-None-clause-step c = λ old e.
    jumped old (state_of c.args.state.now) (state_of c.jump.new.self) c.jump.result c.args.rd.number c.args.value c.in-None.ensures c.jump.ensures.state
    c.jump.ensures.out
