use Rattle.std.proofs.Common.{◌-◌, ◌^◌, map}
use Rattle.notes_value.specs.NoteViews.{fixed_of}
use Rattle.table_run.specs.Known.{HasGiven}
use Rattle.table_run.proofs.memory.memory_given.Given as goal

abbrev pub invariant-loop-memory : goal.invariant-loop-memory
invariant-loop-memory l = HasGiven l.image (map fixed_of l.ranges) l.bytes l.at l.memory.entries

abbrev pub decreases-loop-memory : goal.decreases-loop-memory
decreases-loop-memory l = 2 ^ 32 - l.at
