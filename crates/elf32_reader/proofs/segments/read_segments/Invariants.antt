use Rattle.std.proofs.Common.{◌≡◌, map}
use Rattle.std.specs.List.{filter}
use Rattle.bilv_spec.specs.Elf.{field, segments_from}
use Rattle.elf32_reader.specs.Loads.{segment, has_addresses}
use Rattle.elf32_reader.proofs.segments.read_segments.Given as goal

abbrev pub invariant-loop-i : goal.invariant-loop-i
invariant-loop-i l = map segment l.found.items ≡ filter has_addresses (segments_from l.file (field l.file 4 28) l.i)
