use Rattle.std.proofs.Common.{◌≡◌, ◌-◌, ◌≤◌, ◌^◌}
use Rattle.machine_spec.specs.Machine.{IsAtPlace}
use Rattle.lift_text.specs.Progress.{IsTextTo}
use Rattle.lift_text.proofs.words.text_by.Given as goal

abbrev pub invariant-loop-at : goal.invariant-loop-at
invariant-loop-at g l = record {
  within : l.at ≤ 2 ^ 32;
  aligned : IsAtPlace g.M.Machine.machine.narrow l.at;
  text : IsTextTo g.M.Machine.machine g.M.Machine.bank l.image l.at l.out.items;
}

abbrev pub decreases-loop-at : goal.decreases-loop-at
decreases-loop-at g l = 4294967296 - l.at
