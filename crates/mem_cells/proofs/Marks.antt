-- Which memories are marked, as one after another is looked at, from the last on.
use Rattle.std.proofs.Common.{◌≡◌, inl, inr, ap, sym, ◌∙◌, subst, arith, ℕ, ◌-◌, ◌≤◌, Bool, true, List, length}
use Rattle.std.proofs.lemmas.Bool.{cases_lt}
use Rattle.mem_cells.specs.declared.pieces.Piece.{Piece}
use Rattle.mem_cells.specs.declared.pieces.Piece.TheVariants.{Entry, Store, Take, Join}
use Rattle.mem_cells.specs.declared.pieces.Split.{Split}
use Rattle.mem_cells.specs.Pieces.{bool_at, piece_at, AreClosed, AreRising, IsRising, Needs}

-- what a piece needs stays marked
needs_more : (ms ns : List Bool) (at : Split) (piece : Piece) → ((j : ℕ) → bool_at ms j ≡ true → bool_at ns j ≡ true) → Needs ms at piece → Needs ns at piece
needs_more ms ns at (Entry p) f h = tt
needs_more ms ns at (Store m s k n) f h = λ e. f m (h e)
needs_more ms ns at (Take m t) f h = λ e. f m (h e)
needs_more ms ns at (Join c a b) f h = (f a h.0, f b h.1)

pub marks_next : (ms ns : List Bool) (ps : List Piece) (at : Split) (left : ℕ) (piece : Piece) → AreRising ps → left ≤ length ps → length ns ≡ length ms →
    1 ≤ left → piece ≡ piece_at ps (left - 1) → Needs ns at piece → ((j : ℕ) → bool_at ms j ≡ true → bool_at ns j ≡ true) →
    ((q j : ℕ) → IsRising q piece → q ≤ j → bool_at ns j ≡ bool_at ms j) → AreClosed ms ps at left → AreClosed ns ps at (left - 1)
marks_next ms ns ps at left piece rising few count some is needs more below closed q l m h = elim (cases_lt q left) [
  | inl less ↦ (let e : left - 1 ≡ q = omega (arith, l, less) in subst (λ (z : Piece). Needs ns at z) (is ∙ ap (piece_at ps) e) needs)
  | inr over ↦ (
      let r : IsRising (left - 1) piece = subst (IsRising (left - 1)) (sym is) (rising (left - 1) (omega (arith, few, some))) in
      let old : bool_at ms q ≡ true = sym (below (left - 1) q r (omega (arith, over))) ∙ h in
      needs_more ms ns at (piece_at ps q) more (closed q (omega (arith, over)) (omega (arith, m, count)) old))
]
