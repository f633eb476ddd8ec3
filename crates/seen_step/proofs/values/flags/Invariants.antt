use Rattle.std.proofs.Common.{◌≡◌, ◌-◌, ◌++◌, map}
use Rattle.word_spec.specs.RowFiles.{from_to}
use Rattle.seen_step.proofs.values.flags.Given as goal

abbrev pub invariant-loop-n : goal.invariant-loop-n
invariant-loop-n g l =
    l.out.items ++ map (g.M.State.View.view l.state).flags (from_to l.n (l.count - l.n)) ≡ map (g.M.State.View.view l.state).flags (from_to 0 l.count)
