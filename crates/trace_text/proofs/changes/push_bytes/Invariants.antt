use Rattle.std.proofs.Common.{◌≡◌, ◌++◌, drop, map}
use Rattle.std.specs.List.{flat_map}
use Rattle.trace_texts_spec.specs.StepLines.{byte_change}
use Rattle.seen_step.specs.Views.{change_of}
use Rattle.trace_text.proofs.changes.push_bytes.Given as goal

abbrev pub invariant-loop-change : goal.invariant-loop-change
invariant-loop-change l =
    l.out.items ++ flat_map byte_change (map change_of (drop l.change-index l.changes))
    ≡ l.initial.out.items ++ flat_map byte_change (map change_of l.changes)
