use Rattle.std.proofs.Common.{◌++◌, map}
use Rattle.word_spec.specs.Memory.{endian}
use Rattle.model_spec.specs.Reads.{assert_reads}
use Rattle.notes_value.specs.NoteViews.{assert_of}
use Rattle.table_run.proofs.AssertGroups.{IsLeft}
use Rattle.table_run.proofs.reads.add_assert_reads.Given as goal

abbrev pub invariant-loop-i : goal.invariant-loop-i
invariant-loop-i g l =
    IsLeft assert_of (endian l.big) (g.V.View.view l.now) (g.V.View.view l.entry) l.asserts l.index l.high l.i l.places.items
    (l.fn.places.items ++ assert_reads (endian l.big) (map assert_of l.asserts) (g.V.View.view l.now) (g.V.View.view l.entry))
