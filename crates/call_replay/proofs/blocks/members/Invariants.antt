use Rattle.std.proofs.Common.{◌≡◌, ◌++◌, drop}
use Rattle.std.specs.Prelude.{filter}
use Rattle.notes_value.specs.FrameViews.{is_in}
use Rattle.call_replay.proofs.blocks.members.Given as goal

abbrev pub invariant-loop-number : goal.invariant-loop-number
invariant-loop-number l = l.out.items ++ filter (is_in l.set) (drop l.number-index l.numbers) ≡ filter (is_in l.set) l.numbers
