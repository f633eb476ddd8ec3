-- Programs as definitions see them.
use Rattle.std.specs.Prelude.{ℕ}
use Rattle.bilv_spec.specs.Files as files
use Rattle.bilv_spec.specs.Run as run
use Rattle.notes_value.specs.NoteViews.{notes_of}
use Rattle.program_value.specs.declared.program.Program.{Program}

-- the program, were its function at an address
abbrev pub program_at : {M I S : _} {m : _} {v : _} → Program M I S m v → ℕ → run.Program
program_at {m = m} p at = files.program_of m.machine p.image.now (notes_of p.notes.now) at

-- and where it is
abbrev pub program_of : {M I S : _} {m : _} {v : _} → Program M I S m v → run.Program
program_of p = program_at p p.entry
