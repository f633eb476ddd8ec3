use Rattle.std.proofs.Common.{◌≡◌, take}
use Rattle.call_spec.specs.Outside.{Absent}
use Rattle.io_edges.specs.Files.{held_by}
use Rattle.io_edges.proofs.files.find_file.Given as goal

abbrev pub invariant-loop-i : goal.invariant-loop-i
invariant-loop-i l = held_by (take l.i l.files) l.name ≡ Absent
