use Rattle.std.proofs.Common.{length, drop, map, ◌-◌, ◌≤◌}
use Rattle.notes_lang.specs.Named.{vocabulary_of}
use Rattle.notes_lang.specs.Parsing.{IsSoFar, scope_at}
use Rattle.notes_lang.specs.Scoping.{constant_of}
use Rattle.notes_lang.proofs.notes_text.read_lines.Given as goal

-- the lines so far are good, the draft is what they say, and the constants are those that they declare
abbrev pub invariant-loop-at : goal.invariant-loop-at
invariant-loop-at l = record {
  within : l.at ≤ length l.text;
  so_far : IsSoFar (vocabulary_of l.words) l.text (drop l.at l.text) l.line l.draft
      (scope_at (vocabulary_of l.words) (map constant_of l.consts.items) l.is_second l.is_first);
}

abbrev pub decreases-loop-at : goal.decreases-loop-at
decreases-loop-at l = length l.text - l.at
