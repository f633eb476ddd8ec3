-- A certificate has one status and one text of its check.
use Rattle.std.proofs.Common.{◌≡◌, ℕ, ◌≤◌, Bool, true, false, List, [], ◌∷◌, ◌++◌, Option, None, refl, sym, ap, ◌∙◌, length, arith, inl, inr}
use Rattle.std.specs.Prelude.{nat_le, codes}
use Rattle.std.proofs.lemmas.Bool.{cases_Bool}
use Rattle.std.proofs.lemmas.Bool.Decides.{nat_tests}
use Rattle.clause_spec.specs.Refutation.{Cause}
use Rattle.clause_spec.specs.Certificates.{check_text}
use Rattle.clause_spec.specs.CertificateGrammar.{CnfAnswer, Clauses, RefusedAt, cnf_of}
use Rattle.clause_spec.specs.Checks.{IsChecked, large, refused, checked, check_status, log_refusal, cnf_fault_words}
use Rattle.word_spec.specs.Texts.{line, spaced, number_text}

-- the status and the text where the clauses are read
answered : (text : List ℕ) → length text ≤ 268435456 → (a : CnfAnswer) → cnf_of text ≡ a → (status : ℕ) × (written : List ℕ) × IsChecked text status written
answered text h (Clauses cnf n) e = (_, _, checked cnf n h e)
answered text h (RefusedAt n f) e = (_, _, refused n f h e)

some_check : (text : List ℕ) → (status : ℕ) × (written : List ℕ) × IsChecked text status written
some_check text = elim (cases_Bool (nat_le (length text) 268435456)) [
  | inl e ↦ answered text (grind (arith, nat_tests, e)) (cnf_of text) refl
  | inr e ↦ (_, _, large (grind (arith, nat_tests, e)))
]

abbrev answer_text : CnfAnswer → List ℕ
answer_text (Clauses cnf n) = []
answer_text (RefusedAt n f) = line (codes "cnf: line" ++ spaced (number_text n ∷ cnf_fault_words f ∷ []))

abbrev answer_refusal : List ℕ → CnfAnswer → Option (ℕ × Cause)
answer_refusal text (Clauses cnf n) = log_refusal text cnf n
answer_refusal text (RefusedAt n f) = None

abbrev is_read : CnfAnswer → Bool
is_read (Clauses cnf n) = true
is_read (RefusedAt n f) = false

same_check : (text : List ℕ) (status other : ℕ) (written text_of_other : List ℕ) → IsChecked text status written → IsChecked text other text_of_other →
    (status ≡ other) × (written ≡ text_of_other)
same_check text s o w x (large a) (large b) = (refl, refl)
same_check text s o w x (large a) (refused m g b e) = absurd (omega arith)
same_check text s o w x (large a) (checked d m b e) = absurd (omega arith)
same_check text s o w x (refused n f a e) (large b) = absurd (omega arith)
same_check text s o w x (refused n f a e) (refused m g b i) = (refl, ap answer_text (sym e ∙ i))
same_check text s o w x (refused n f a e) (checked d m b i) = let q = ap is_read (sym e ∙ i) in absurd (cc)
same_check text s o w x (checked c n a e) (large b) = absurd (omega arith)
same_check text s o w x (checked c n a e) (refused m g b i) = let q = ap is_read (sym e ∙ i) in absurd (cc)
same_check text s o w x (checked c n a e) (checked d m b i) =
    let q = ap (answer_refusal text) (sym e ∙ i) in (ap check_status q, ap check_text q)

-- there is one status and one text
pub one_check : (text : List ℕ) → ((status : ℕ) × (written : List ℕ) × IsChecked text status written)
    × ((status other : ℕ) (written text_of_other : List ℕ) → IsChecked text status written → IsChecked text other text_of_other →
    (status ≡ other) × (written ≡ text_of_other))
one_check text = (some_check text, same_check text)
