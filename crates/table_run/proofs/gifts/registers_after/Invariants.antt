use Rattle.std.proofs.Common.{◌≡◌, ◌+◌, ◌-◌, ◌++◌, map}
use Rattle.word_spec.specs.RowFiles.{from_to}
use Rattle.table_run.specs.CalledFrames.{register_after}
use Rattle.table_run.proofs.gifts.registers_after.Given as goal

abbrev pub invariant-loop-i : goal.invariant-loop-i
invariant-loop-i g l =
    l.out.items ++ map (register_after l.contract.registers (g.M.State.View.view l.state) l.values) (from_to (l.first + l.i) (l.count - l.i))
    ≡ map (register_after l.contract.registers (g.M.State.View.view l.state) l.values) (from_to l.first l.count)
