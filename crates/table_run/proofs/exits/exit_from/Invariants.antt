use Rattle.std.proofs.Common.{◌≡◌, ◌≤◌, ◌-◌, ◌+◌}
use Rattle.std.specs.Prelude.{reverse}
use Rattle.word_spec.specs.Memory.{byte_in}
use Rattle.bilv_spec.specs.Run.{run, Going}
use Rattle.program_value.specs.Programs.{program_of}
use Rattle.table_run.proofs.exits.exit_from.Given as goal

abbrev pub invariant-loop-stack : goal.invariant-loop-stack
invariant-loop-stack g l = record {
  few : l.turns ≤ l.n;
  within : l.n ≤ l.number;
  run :
      run (program_of l.p) (l.number + 1) (record { state = g.M.State.View.view l.entry; choices = byte_in l.choices }) l.n
      ≡ Going l.turns l.n (record { state = g.M.State.View.view l.state; stack = reverse l.stack.items });
}

abbrev pub decreases-loop-stack : goal.decreases-loop-stack
decreases-loop-stack g l = l.number - l.n
