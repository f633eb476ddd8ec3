-- A printed certificate of a refutation is accepted.
use Rattle.std.proofs.Common.{◌≡◌, ℕ, ◌+◌, ◌≤◌, Bool, true, false, not, List, [], ◌∷◌, Option, Some, None, refl, subst, ap, ◌∙◌, length}
use Rattle.std.specs.Prelude.{codes}
use Rattle.std.specs.List.{list_all}
use Rattle.std.proofs.lemmas.Bool.{and_from}
use Rattle.clause_spec.specs.Clauses.{Cnf}
use Rattle.clause_spec.specs.Refutation.{LogLine, Cause, NotOfGrammar, Known, known_at_start, known_after, first_of_two, judge, judge_of_grammar, is_of_grammar, after_judge, first_refusal, IsRefutation, refusal}
use Rattle.word_spec.specs.Texts.{line}
use Rattle.clause_spec.specs.Certificates.{IsPrintable, certificate_text, check_text}
use Rattle.clause_spec.specs.Checks.{IsChecked, checked, check_status, log_refusal}
use Rattle.clause_spec.proofs.PrintedClauses.{read_again}

first_false : (b : Bool) (e : Cause) (rest : Option Cause) → first_of_two (not b) e rest ≡ None → b ≡ true
first_false true e rest h = refl
first_false false e rest h = cc

judged_none : (o : Option Cause) (n : ℕ) (rest : Option (ℕ × Cause)) → after_judge o n rest ≡ None → (o ≡ None) × (rest ≡ None)
judged_none None n rest h = (refl, h)
judged_none (Some e) n rest h = cc

-- each line of a refutation is of the grammar
lines_of_grammar : (n : ℕ) (ls : List LogLine) (k : Known) (i : ℕ) → first_refusal n k i ls ≡ None → list_all is_of_grammar ls ≡ true
lines_of_grammar n [] k i h = refl
lines_of_grammar n (l ∷ ls) k i h =
    let g = judged_none (judge n k l) i (first_refusal n (known_after k l) (i + 1) ls) h in
    and_from (is_of_grammar l) (list_all is_of_grammar ls) (first_false (is_of_grammar l) NotOfGrammar (judge_of_grammar n k l) g.0)
    (lines_of_grammar n ls (known_after k l) (i + 1) g.1)

pub printed_is_accepted : (cnf : Cnf) (log : List LogLine) → IsPrintable cnf → IsRefutation cnf.variables cnf.clauses log →
    length (certificate_text cnf log) ≤ 268435456 → IsChecked (certificate_text cnf log) 0 (line (codes "accepted"))
printed_is_accepted cnf log is h small =
    let r = read_again cnf log is (lines_of_grammar cnf.variables log (known_at_start cnf.clauses) 1 h) in
    let e : log_refusal (certificate_text cnf log) cnf r.before ≡ None = ap (λ (ls : List LogLine). refusal cnf.variables cnf.clauses ls) r.proof ∙ h in
    subst (λ o. IsChecked (certificate_text cnf log) (check_status o) (check_text o)) e (checked cnf r.before small r.clauses)
