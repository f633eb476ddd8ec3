use Rattle.std.proofs.Common.{◌≡◌, ◌++◌, drop, map}
use Rattle.std.specs.List.{flat_map}
use Rattle.trace_texts_spec.specs.StepLines.{register_change}
use Rattle.value_steps.specs.Called.{names_of}
use Rattle.seen_step.specs.Views.{change_of}
use Rattle.trace_text.proofs.changes.push_registers.Given as goal

abbrev pub invariant-loop-change : goal.invariant-loop-change
invariant-loop-change l =
    l.out.items ++ flat_map (register_change (names_of l.layout)) (map change_of (drop l.change-index l.changes))
    ≡ l.initial.out.items ++ flat_map (register_change (names_of l.layout)) (map change_of l.changes)
