-- Values that break bytes of the file, and those that break none.
use Rattle.std.proofs.Common.{◌≡◌, sym, subst, arith, ℕ, ◌<◌, Bool, true, false, List, length}
use Rattle.std.specs.Prelude.{◌↔◌, ◌==◌, Contains}
use Rattle.std.specs.List.Sorted.{IsStrictlyIncreasing}
use Rattle.std.proofs.lemmas.Bool.Decides.{nat_tests}
use Rattle.std.proofs.lemmas.List.Elements.{at_from_Contains}
use Rattle.term_spec.specs.Terms.{TermReading}
use Rattle.frame_terms.specs.FrameCells.{Cells}
use Rattle.frame_terms.specs.FrameStarts.{IsBroken}
use Rattle.known_bytes.proofs.Ordered.{rises}
use Rattle.question_form.specs.FrameQuestions.{is_of_heads}
use Rattle.mem_cells.specs.declared.cells.Celled.{Celled}
use Rattle.mem_cells.specs.FrameViews.{frame_cells_of, frame_of_cells}
use Rattle.frame_start.specs.declared.reads.Reads.{Reads}
use Rattle.frame_start.specs.Files.{AreBroken, AreOne, AreWhole, ForSomeValues, UnderValues}
use Rattle.frame_start.specs.Reads.{HaveReads}

module _ (c k : Celled) (values bits : List Bool) (same : (k ≡ c) × (bits ≡ values)) (r : Reads)
    (have : UnderValues k bits (λ x. HaveReads (frame_of_cells k) (frame_cells_of k) (is_of_heads k.question.now) x r)) (items : List ℕ)
    (tells : (cells : Cells) (of_head : Bool) (x : TermReading) → HaveReads (frame_of_cells c) cells of_head x r → (a : ℕ) →
    Contains items a ↔ IsBroken (frame_of_cells c) of_head cells x a) where
  have_reads : UnderValues c values (λ x. HaveReads (frame_of_cells c) (frame_cells_of c) (is_of_heads c.question.now) x r)
  have_reads =
      subst (λ (z : List Bool). UnderValues c z (λ x. HaveReads (frame_of_cells c) (frame_cells_of c) (is_of_heads c.question.now) x r)) same.1
      (subst (λ (z : Celled). UnderValues z bits (λ x. HaveReads (frame_of_cells z) (frame_cells_of z) (is_of_heads z.question.now) x r)) same.0 have)

  told : UnderValues c values (λ x. (a : ℕ) → Contains items a ↔ IsBroken (frame_of_cells c) (is_of_heads c.question.now) (frame_cells_of c) x a)
  told x hx = tells (frame_cells_of c) (is_of_heads c.question.now) x (have_reads x hx)

  -- the addresses are those of the bytes that are broken
  pub broken_values : IsStrictlyIncreasing items → AreBroken c values items
  broken_values up = record { rise = rises items up; broken = told }

  -- where no broken address was found, none is broken
  pub whole_values : (n : ℕ) → length items ≡ n → (n == 0) ≡ true → ForSomeValues c values (AreOne (is_of_heads c.question.now) (frame_cells_of c)) →
      ForSomeValues k bits (AreWhole k)
  whole_values n count none (x, has, one) =
      subst (λ (z : Celled). ForSomeValues z bits (AreWhole z)) (sym same.0)
      (subst (λ (z : List Bool). ForSomeValues c z (AreWhole c)) (sym same.1) (x, has, record { one = one; unbroken = unbroken }))
    where
      unbroken : (a : ℕ) → IsBroken (frame_of_cells c) (is_of_heads c.question.now) (frame_cells_of c) x a → ⊥
      unbroken a b =
          let found = at_from_Contains items a ((told x has a).1 b) in
          let zero : n ≡ 0 = grind (arith, nat_tests) in
          omega (arith, found.1, count, zero)

pub some_left : (items : List ℕ) (n : ℕ) → length items ≡ n → (n == 0) ≡ false → 0 < length items
some_left items n e f = grind (arith, nat_tests)
