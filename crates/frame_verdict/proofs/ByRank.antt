-- Lists of what ranks have, in their order.
use Rattle.std.proofs.Common.{◌≡◌, ◌⊎◌, inl, inr, sym, ap, ◌∙◌, subst, arith, ℕ, ◌+◌, ◌<◌, ◌≤◌, List, [], ◌∷◌, ◌++◌, length, get_or}
use Rattle.std.proofs.lemmas.Bool.{cases_lt}
use Rattle.std.proofs.lemmas.List.{get_or_append_left, length-append}
use Rattle.std.proofs.Math.Seq.{get_or-append_seam}
use Rattle.machine_spec.specs.StateText.{Layout}
use Rattle.frame_spec.specs.FrameReports.{last_rank}
use Rattle.frame_spec.specs.FrameVerdict.{Whole, frame_of}
use Rattle.notes_value.specs.NoteViews.{notes_of}
use Rattle.notes_value.specs.declared.notes.Notes.{Notes as Held}
use Rattle.question_form.specs.declared.unrolled.Unrolled.{Unrolled}
use Rattle.frame_verdict.specs.FrameFunctions.{AreNotesTo, IsNotesAt}
use Rattle.frame_verdict.specs.FrameMeasures.{AreAllUnrolled, AreUnrolledTo, IsFrameUnrolled}
use Rattle.frame_verdict.specs.declared.framed.Framed.{Framed}
use Rattle.frame_verdict.specs.declared.measuring.Frames.{Frames}

-- one more
module _ {B : Type 0} (P : ℕ → B → Type 0) (n : ℕ) (before after : List B) (y : B) (count : length before ≡ n)
    (each : (r : ℕ) (d : B) → r < n → P r (get_or before r d)) (one : P n y) (is : after ≡ before ++ y ∷ []) where
  pub more_counted : length after ≡ n + 1
  more_counted = ap length is ∙ (let e = length-append before (y ∷ []) in omega (arith, e, count))

  pub more_each : (r : ℕ) (d : B) → r < n + 1 → P r (get_or after r d)
  more_each r d low = subst (λ (z : List B). P r (get_or z r d)) (sym is) (by (cases_lt r n))
    where
      by : (r < n) ⊎ (n ≤ r) → P r (get_or (before ++ y ∷ []) r d)
      by (inl l) = subst (P r) (sym (get_or_append_left before (y ∷ []) d r (omega (arith, l, count)))) (each r d l)
      by (inr m) =
          let e : n ≡ r = omega (arith, m, low) in
          let at : get_or (before ++ y ∷ []) n d ≡ y =
          ap (λ (z : ℕ). get_or (before ++ y ∷ []) z d) (sym count) ∙ get_or-append_seam before y [] d in
          subst (λ (z : ℕ). P z (get_or (before ++ y ∷ []) z d)) e (subst (P n) (sym at) one)

module _ {M I S : Type 0} {ms : _} {vs : _} (x : Framed M I S ms vs) where
  pub none_noted : (list : List Held) → list ≡ [] → AreNotesTo x 0 list
  none_noted list is = record { count = ap length is; each = λ r z low. absurd (omega arith) }

  pub more_noted : (n : ℕ) (before after : List Held) (y : Held) → AreNotesTo x n before → IsNotesAt x n (notes_of y) → after ≡ before ++ y ∷ [] →
      AreNotesTo x (n + 1) after
  more_noted n before after y all one is = record {
    count = more_counted (λ r z. IsNotesAt x r (notes_of z)) n before after y all.count all.each one is;
    each = more_each (λ r z. IsNotesAt x r (notes_of z)) n before after y all.count all.each one is;
  }

module _ (w : Whole) (k : ℕ) (layout : Layout) where
  pub none_unrolled : (list : List Unrolled) → list ≡ [] → AreUnrolledTo w k 0 layout list
  none_unrolled list is = record { count = ap length is; each = λ r z low. absurd (omega arith) }

  pub more_unrolled : (n : ℕ) (before after : List Unrolled) (y : Unrolled) → AreUnrolledTo w k n layout before →
      IsFrameUnrolled (frame_of w n) w.contracts k layout y → after ≡ before ++ y ∷ [] → AreUnrolledTo w k (n + 1) layout after
  more_unrolled n before after y all one is = record {
    count = more_counted (λ r z. IsFrameUnrolled (frame_of w r) w.contracts k layout z) n before after y all.count all.each one is;
    each = more_each (λ r z. IsFrameUnrolled (frame_of w r) w.contracts k layout z) n before after y all.count all.each one is;
  }

  -- the frame of a rank, of all
  pub own_of_all : (x : Frames) → AreAllUnrolled w k layout x → (rank : ℕ) → rank ≤ last_rank w → length x.contracts.items ≤ rank →
      IsFrameUnrolled (frame_of w rank) w.contracts k layout x.own
  own_of_all x all rank low high =
      let e : last_rank w ≡ rank = (let n = all.contracts.count in omega (arith, n, low, high)) in
      subst (λ (r : ℕ). IsFrameUnrolled (frame_of w r) w.contracts k layout x.own) e all.own

  pub one_of_all : (x : Frames) → AreAllUnrolled w k layout x → (rank : ℕ) → rank < length x.contracts.items → (d : Unrolled) →
      IsFrameUnrolled (frame_of w rank) w.contracts k layout (get_or x.contracts.items rank d)
  one_of_all x all rank low d = all.contracts.each rank d (let n = all.contracts.count in omega (arith, n, low))
