use Rattle.std.proofs.Common.{◌≡◌, ◌+◌, ◌-◌, ◌++◌, map}
use Rattle.word_spec.specs.RowFiles.{from_to}
use Rattle.seen_step.proofs.values.registers.Given as goal

abbrev pub invariant-loop-i : goal.invariant-loop-i
invariant-loop-i g l =
    l.out.items ++ map (g.M.State.View.view l.state).regs (from_to (l.first + l.i) (l.count - l.i))
    ≡ map (g.M.State.View.view l.state).regs (from_to l.first l.count)
