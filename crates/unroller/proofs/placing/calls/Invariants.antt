use Rattle.std.proofs.Common.{◌≡◌, ◌≤◌, ◌++◌, List, length}
use Rattle.program_points.specs.declared.values.Frame.{Frame}
use Rattle.program_points.specs.Tables.{IsTable}
use Rattle.unroller.specs.Led.{AreCalled}
use Rattle.unroller.proofs.placing.calls.Given as goal

abbrev pub invariant-loop-key : goal.invariant-loop-key
invariant-loop-key l = record {
  table : IsTable l.stacks.frames.items l.stacks.numbers;
  begins : (rest : List Frame) × (l.stacks.frames.items ≡ l.fn.stacks.frames.items ++ rest) × (length rest ≤ l.key-index);
  called : AreCalled l.graph l.keys l.stacks.frames.items l.key-index l.found.items;
}
