use Rattle.std.proofs.Common.{◌<◌, ◌^◌, sym, subst, lit<}
use Rattle.std.proofs.Math.Path.{fun_ext}
use Rattle.rv_step.proofs.X0.{all_zero}
use Rattle.rv_step.proofs.registers.Registers.new.Goals as goal

pub returns : goal.returns
returns c = fun_ext (all_zero 32)

pub invariant_of-result-clause-in_range : goal.invariant_of-result-clause-in_range
invariant_of-result-clause-in_range c r = subst (λ n. n < 2 ^ 32) (sym (all_zero 32 r)) (lit< tt)
