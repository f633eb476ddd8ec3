use Rattle.std.proofs.Common.{ℕ, List, refl, subst}
use Rattle.bilv_spec.specs.ElfFaults.{FileFaultApplies, BadSegmentRange, BadFileSize, SegmentsOverlap}
use Rattle.elf32_reader.specs.Refusals.{IsClear}
use Rattle.elf32_reader.specs.Loads.{IsApart}
use Rattle.elf32_reader.proofs.Order.{clear_more, first_after}
use Rattle.elf32_reader.proofs.Tied.{header_table, tied, overlap_fault, no_overlap}
use Rattle.elf32_reader.proofs.image.load_segments.Goals as goal

pub passes_memory-requires-clause-table : goal.passes_memory-requires-clause-table
passes_memory-requires-clause-table c = header_table c.args.file.now c.requires

pub passes_file-requires-clause-table : goal.passes_file-requires-clause-table
passes_file-requires-clause-table c = header_table c.args.file.now c.requires

pub sorted_segments-requires-clause-table : goal.sorted_segments-requires-clause-table
sorted_segments-requires-clause-table c = header_table c.args.file.now c.requires

clear_ten : (file : List ℕ) → IsClear file 8 → ¬ FileFaultApplies file BadSegmentRange → ¬ FileFaultApplies file BadFileSize → IsClear file 10
clear_ten file clear range size =
    clear_more file 9 BadFileSize refl (clear_more file 8 BadSegmentRange refl clear range) size

pub returns-then-overlaps-clause-refused : goal.returns-then-overlaps-clause-refused
returns-then-overlaps-clause-refused c =
    first_after c.args.file.now 10 SegmentsOverlap refl (clear_ten c.args.file.now c.requires c.if-passes_memory.ensures c.if-passes_file.ensures)
    (overlap_fault c.args.file.now c.deref.result.now (rw c.deref.ensures.value c.in-Ok.ensures) c.if-overlaps.ensures)

pub returns-else-overlaps-clause-tied : goal.returns-else-overlaps-clause-tied
returns-else-overlaps-clause-tied c =
    tied c.args.file.now c.in-Ok.found.items c.in-Ok.ensures (subst IsApart c.deref.ensures.value c.if-overlaps.ensures) c.if-passes_memory.ensures
    c.if-passes_file.ensures

pub returns-else-overlaps-clause-clear : goal.returns-else-overlaps-clause-clear
returns-else-overlaps-clause-clear c =
    clear_more c.args.file.now 10 SegmentsOverlap refl (clear_ten c.args.file.now c.requires c.if-passes_memory.ensures c.if-passes_file.ensures)
    (no_overlap c.args.file.now c.in-Ok.found.items c.in-Ok.ensures (subst IsApart c.deref.ensures.value c.if-overlaps.ensures))
