-- What was written before a write failed.
use Rattle.std.specs.Prelude.{ℕ, ◌≡◌, List, Option}
use Rattle.call_spec.specs.Outside.{Rose, FailedWrite, StuckWrite}
use Rattle.io_edges.specs.declared.WriteFault.{WriteFault}
use Rattle.io_edges.specs.declared.WriteFault.TheVariants.{Failed, Stuck}

-- the writing stopped at a fault, which says how much of the bytes was written
abbrev pub Stopped : Option (List ℕ) → List ℕ → Option (List ℕ) → WriteFault → Type 0
Stopped before bytes after (Failed written) = FailedWrite before bytes after written
Stopped before bytes after (Stuck written offered) = StuckWrite before bytes after written offered

-- the count of the writes that failed has risen where the last one failed, and is as it was where the last one took nothing
abbrev pub CountsError : (before after : ℕ) → WriteFault → Type 0
CountsError before after (Failed written) = Rose before after
CountsError before after (Stuck written offered) = after ≡ before
