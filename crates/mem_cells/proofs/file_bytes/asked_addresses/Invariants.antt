use Rattle.std.proofs.Common.{◌≡◌, ℕ}
use Rattle.term_spec.specs.WalkQuestions.{is_asked}
use Rattle.mem_cells.proofs.FileBytes.{is_found}
use Rattle.mem_cells.proofs.file_bytes.asked_addresses.Given as goal

abbrev pub invariant-loop-first : goal.invariant-loop-first
invariant-loop-first l = (a : ℕ) → is_found l.found.items l.literals l.first-index a ≡ is_asked l.added l.literals a
