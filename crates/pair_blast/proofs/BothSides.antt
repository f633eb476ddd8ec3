-- Where the ties hold, the second side is read by its own inputs, whatever stands for them.
use Rattle.std.proofs.Common.{◌≡◌, ◌==◌, ◌↔◌, ℕ, ◌+◌, ◌<◌, Bool, true, ◌&&◌, List, length, ap, sym, ◌∙◌, subst, arith}
use Rattle.std.specs.Global.{Vec}
use Rattle.std.proofs.lemmas.Bool.{and_parts, and_from}
use Rattle.clause_spec.specs.Clauses.{AgreeUpTo, valuation}
use Rattle.term_spec.specs.Terms.{TermReading, TermNode, term_word, value_at}
use Rattle.walk_spec.specs.Unrolled.{UnrolledProgram}
use Rattle.term_spec.specs.Cells.{Cells, IsAllowed}
use Rattle.term_spec.specs.ClauseForm.{MakesTrue, reading}
use Rattle.gates.specs.declared.bit.Bit.{Bit}
use Rattle.term_dag.specs.declared.nodes.Term.{Term}
use Rattle.word_gates.specs.Numbers.{input_number, number}
use Rattle.pair_spec.specs.PairEvidence.{behind}
use Rattle.pair_spec.specs.PairTerms.{same_words}
use Rattle.bit_blast.specs.declared.input_places.InputPlaces.{InputPlaces}
use Rattle.bit_blast.specs.BitWords.{values_of}
use Rattle.bit_blast.specs.Laid.{ArePlaces}
use Rattle.bit_blast.specs.Places.{IsReadingAt, seen, truths}
use Rattle.bit_blast.proofs.InputNumbers.{reading_same}
use Rattle.bit_blast.proofs.Placed.{inputs_are, reading_at}
use Rattle.bit_blast.proofs.Seen.{same_truths, seen_agrees}
use Rattle.pair_blast.specs.PairWords.{AreAlike, words_read, words_under}
use Rattle.pair_blast.proofs.StandIns.{equal_is, is_equal, number_same, words_are}

-- what is said of the base reads holds under a reading, and the question is true
abbrev pub HoldsBy : Cells → TermReading → Type 0
HoldsBy d z = IsAllowed d z × (term_word z d.nodes d.root ≡ 1)

-- the reading by the first inputs
pub first_read : (u : UnrolledProgram) (c : Cells) (p : InputPlaces) → ArePlaces u c p → (v : ℕ → Bool) (own : List Bit) → length own ≡ p.inputs →
    number v own ≡ input_number v 0 p.inputs → reading u c (seen own v) ≡ reading u c v
first_read u c p placed v own l e =
    reading_same u c (seen own v) v (subst (λ (m : ℕ). AgreeUpTo m (seen own v) v) (inputs_are u c p placed)
    (λ i h k. seen_agrees v own 0 p.inputs l e i h k ∙ ap v (let f : 0 + i ≡ i = omega arith in f)))

-- the reading by inputs from a place on
pub own_reading : (w : UnrolledProgram) (d : Cells) (p : InputPlaces) → ArePlaces w d p → (v : ℕ → Bool) (own : List Bit) (n : ℕ) → length own ≡ p.inputs →
    number v own ≡ input_number v n p.inputs → reading w d (seen own v) ≡ reading w d (behind n v)
own_reading w d p placed v own n l e =
    reading_same w d (seen own v) (behind n v) (subst (λ (m : ℕ). AgreeUpTo m (seen own v) (behind n v)) (inputs_are w d p placed)
    (seen_agrees v own n p.inputs l e))

module _ (w : UnrolledProgram) (d : Cells) (p : InputPlaces) (placed : ArePlaces w d p) (v : ℕ → Bool) (n : ℕ) (own bits : List Bit)
    (count : length own ≡ p.inputs) (stands : number v own ≡ input_number v n p.inputs) (as_many : length bits ≡ length own)
    (x : TermReading) (ms : List TermNode) (ws : List (Vec Bit)) (xs ys : List Term) (alike : AreAlike ms d.nodes xs ys)
    (words : (t : ℕ) → t < length ms → (value_at (values_of v ws) t).word ≡ term_word x ms t)
    (linked : (y : TermReading) → IsReadingAt p (seen own v) y → same_words (words_under v ws xs) (words_read y d.nodes ys) ≡ true →
    truths v bits ≡ truths v own) where
  abbrev y : TermReading
  y = reading w d (behind n v)

  own_read : reading w d (seen own v) ≡ y
  own_read = own_reading w d p placed v own n count stands

  reading_of : truths v bits ≡ truths v own → reading w d (seen bits v) ≡ y
  reading_of e = ap (λ (z : List Bool). reading w d (valuation z)) e ∙ own_read

  from_number : (number v own == number v bits) ≡ true → reading w d (seen bits v) ≡ y
  from_number h = reading_of (sym (same_truths v own bits (sym as_many) (is_equal (number v own) (number v bits) h)))

  first_are : words_under v ws xs ≡ words_read x ms xs
  first_are = words_are v ws x ms words xs alike.first

  from_links : same_words (words_read x ms xs) (words_read y d.nodes ys) ≡ true → truths v bits ≡ truths v own
  from_links h = linked y (subst (λ (z : TermReading). IsReadingAt p (seen own v) z) own_read (reading_at w d p placed (seen own v)))
      (ap (λ z. same_words z (words_read y d.nodes ys)) first_are ∙ h)

  module _ (vs : List (Vec Bit)) (others : (t : ℕ) → t < length d.nodes → (value_at (values_of v vs) t).word ≡ term_word (reading w d (seen bits v)) d.nodes t)
      (r s t q : Bool) (tied : s ≡ (r && (number v own == number v bits))) (made : (t ≡ true) ↔ ((s ≡ true) × MakesTrue w d (seen bits v)))
      (entered : q ≡ (t && same_words (words_under v ws xs) (words_under v vs ys))) where
    second_are : words_under v vs ys ≡ words_read (reading w d (seen bits v)) d.nodes ys
    second_are = words_are v vs (reading w d (seen bits v)) d.nodes others ys alike.second

    met : q ≡ true → (t ≡ true) × (same_words (words_under v ws xs) (words_under v vs ys) ≡ true)
    met h = and_parts t (same_words (words_under v ws xs) (words_under v vs ys)) (sym entered ∙ h)

    numbers : q ≡ true → (r ≡ true) × ((number v own == number v bits) ≡ true)
    numbers h = and_parts r (number v own == number v bits) (sym tied ∙ (made.0 (met h).0).0)

    pub read_so : q ≡ true → reading w d (seen bits v) ≡ y
    read_so h = from_number (numbers h).1

    pub both_sides : (q ≡ true) ↔ ((r ≡ true) × MakesTrue w d (behind n v) × (same_words (words_read x ms xs) (words_read y d.nodes ys) ≡ true))
    both_sides = (
      (λ h.
          let e = read_so h in (
            (numbers h).0,
            subst (HoldsBy d) e (made.0 (met h).0).1,
            sym (ap (λ z. same_words z (words_read y d.nodes ys)) first_are) ∙ sym (ap (λ z. same_words (words_under v ws xs) z) (second_are ∙ ap
                (λ z. words_read z d.nodes ys) e)) ∙ (met h).1,
          )),
      (λ h.
          let g = from_links h.2 in
          let e = reading_of g in
          let s_true : s ≡ true = tied ∙ and_from r (number v own == number v bits) h.0
          (equal_is (number v own) (number v bits) (sym (number_same v bits own g)))
          in
          entered ∙ and_from t _ (made.1 (s_true, subst (HoldsBy d) (sym e) h.1))
          (ap (λ z. same_words (words_under v ws xs) z) (second_are ∙ ap (λ z. words_read z d.nodes ys) e)
          ∙ ap (λ z. same_words z (words_read y d.nodes ys)) first_are ∙ h.2)),
    )
