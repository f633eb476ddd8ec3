-- Cells of programs as cells of frames, and the places of their inputs.
use Rattle.std.proofs.Common.{◌≡◌, ap, sym, ◌∙◌, arith, ℕ, ◌+◌, ◌<◌, List, Option, Some, None, length, map}
use Rattle.std.specs.Prelude.{slice_get, slice_index_or}
use Rattle.word_spec.specs.RowFiles.{from_to}
use Rattle.frame_terms.specs.FrameCells.{BaseRead}
use Rattle.frame_terms.specs.HeadlessTerms.{as_cells, as_read}
use Rattle.walk_laws.proofs.InputOrder.{row_get, row_is, row_length}
use Rattle.question_form.specs.FrameViews.{IsHeadless}
use Rattle.mem_cells.specs.declared.cells.Celled.{Celled}
use Rattle.mem_cells.specs.FrameViews.{frame_cells_of}
use Rattle.mem_cells.specs.Views.{cells_of}
use Rattle.std.proofs.lemmas.List.{length-map}
use Rattle.bit_blast.specs.Laid.{ArePartReads, IsFlat}

-- cells of a program are flat
pub flat_places : (c : Celled) → frame_cells_of c ≡ as_cells (cells_of c) → IsHeadless c.question.now.passive.now.unrolled.now → IsFlat c
flat_places c flat headless = record {
  heads = headless.heads;
  deeds = headless.deeds;
  reads = ap (λ z. z.reads) flat ∙ ap (λ n. map as_read (from_to 0 n)) (length-map c.addresses.items (λ t. t.0));
}

-- the reads of a program, which are all at entry, one at each address
module _ (n : ℕ) (reads : List BaseRead) (are : reads ≡ map as_read (from_to 0 n)) where
  pub reads_count : length reads ≡ n
  reads_count = ap length are ∙ row_length as_read 0 n

  read_at : (k part j : ℕ) → slice_get reads k ≡ Some (record { part = part; address = j }) → (k < n) × (part ≡ 0) × (j ≡ k)
  read_at k part j e =
      let r = row_is as_read n k (record { part = part; address = j }) (ap (λ z. slice_get z k) (sym are) ∙ e) in
      (r.0, ap (λ z. z.part) r.1, ap (λ z. z.address) r.1)

  at_read : (j : ℕ) → j < n → slice_get reads j ≡ Some (record { part = 0; address = j })
  at_read j l = ap (λ z. slice_get z j) are ∙ row_get as_read 0 n j l ∙ ap (λ z. Some (as_read z)) (let e : 0 + j ≡ j = omega arith in e)

  module _ (places : List (Option ℕ)) where
    pub entry_of : ArePartReads 0 n reads places → (j : ℕ) → j < n → slice_index_or places j None ≡ Some j
    entry_of h j l =
        let q = h.each j j l (at_read j l) in
        let r = read_at q.0 0 j (h.right j q.0 q.1) in
        q.1 ∙ ap Some (sym r.2)

    pub entry_only : (part : ℕ) → ArePartReads part n reads places → (j k : ℕ) → slice_index_or places j None ≡ Some k →
        (part ≡ 0) × (k ≡ j) × (j < n)
    entry_only part h j k e =
        let r = read_at k part j (h.right j k e) in (r.1, sym r.2, (let l = r.0 in let m = r.2 in omega arith))
