-- How a text of clauses is read, word by word and line by line.
use Rattle.std.proofs.Common.{◌≡◌, ℕ, true, List, ◌∷◌, ◌++◌, Option, Some, None, ap, ◌∙◌}
use Rattle.std.specs.Prelude.{codes}
use Rattle.std.specs.Str.{bytes_eq}
use Rattle.clause_spec.specs.CertificateGrammar.{Integer, CnfFault, numbers_line, numbers_in, Header, line_fault, CnfAnswer, at_proof, answer_from}

-- what comes of a line of numbers: all numbers up to its end, or its fault
pub data Outcome : Type 0 where
  Goes : List Integer → Outcome
  Stops : CnfFault → Outcome

abbrev pub outcome_by : Option CnfFault → List Integer → Outcome
outcome_by None ns = Goes ns
outcome_by (Some f) ns = Stops f

-- behind numbers, the line of these
abbrev pub outcome : Header → List Integer → Option (List Integer) → Outcome
outcome h before o = outcome_by (line_fault (Some h) (numbers_line o)) (before ++ numbers_in (numbers_line o))

-- what stands before the line proof is judged there
pub proof-line : (answer there : CnfAnswer) (n : ℕ) (header : Option Header) (before : List Integer) (lines more : List (List ℕ)) (line : List ℕ) →
    answer ≡ answer_from n header before lines → lines ≡ line ∷ more → bytes_eq line (codes "proof") ≡ true → at_proof n header before ≡ there → answer ≡ there
proof-line answer there n header before lines more line is cut proof at =
    is ∙ ap (answer_from n header before) cut ∙ rw proof at
