use Rattle.std.proofs.Common.{◌≡◌, ℕ, true, List, map, sym, subst}
use Rattle.std.specs.Prelude.{◌↔◌, Contains}
use Rattle.term_spec.specs.WalkQuestions.{is_asked}
use Rattle.known_bytes.specs.Runs.{run_of}
use Rattle.mem_cells.specs.Asked.{head_asks}
use Rattle.mem_cells.proofs.FileBytes.{file_same}
use Rattle.mem_cells.proofs.file_bytes.asked_bytes.Goals as goal

pub returns-clause-are : goal.returns-clause-are
returns-clause-are c =
    let are = λ (a : ℕ). is_asked c.args.added.now c.args.literals.now a ≡ true in
    file_same (map run_of c.args.known.now) (Contains c.deref.result.now) are (head_asks c.args.of_heads c.args.kept.now) c.in_ok-bytes.bytes.items
    (subst (λ (z : List ℕ). (a : ℕ) → Contains z a ↔ are a) (sym c.deref.ensures.value) c.in_ok-asked.ensures.asked) c.in_ok-bytes.ensures.are
