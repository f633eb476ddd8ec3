use Rattle.std.proofs.Common.{ℕ, ap, sym, ◌∙◌, arith}
use Rattle.std.proofs.lemmas.Bool.{eqb-true, eqb-false}
use Rattle.byte_mem.proofs.bytes.is_at.Goals as goal

pub returns-clause-at : goal.returns-clause-at
returns-clause-at c is = (omega arith, ap (λ (e : ℕ × ℕ). e.0) (c.entry.ensures (0, 0)) ∙ eqb-true _ _ is)

pub returns-clause-away : goal.returns-clause-away
returns-clause-away c is at = eqb-false _ _ is (sym (ap (λ (e : ℕ × ℕ). e.0) (c.entry.ensures (0, 0))) ∙ at.1)
