use Rattle.std.proofs.Common.{◌≡◌, ◌+◌, ◌-◌, ◌≤◌, false, drop, length}
use Rattle.note_template.specs.Templates.{behind, spelled}
use Rattle.note_template.proofs.spelling.spell.Given as goal

abbrev pub invariant-loop-at : goal.invariant-loop-at
invariant-loop-at l = record {
  said : spelled l.symbols false 0 1 l.text ≡ behind l.out.items (spelled l.symbols l.joined 0 (l.at + 1) (drop l.at l.text));
  within : l.at ≤ length l.text;
}

abbrev pub decreases-loop-at : goal.decreases-loop-at
decreases-loop-at l = length l.text - l.at
