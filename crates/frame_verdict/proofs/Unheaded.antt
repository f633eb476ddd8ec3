-- Frames of notes without invariants have no heads, and the last frame is the function's own.
use Rattle.std.proofs.Common.{◌≡◌, refl, sym, ap, ◌∙◌, ℕ, zero, suc, Bool, true, false, List, [], ◌∷◌, Option, Some, None, length}
use Rattle.std.specs.Prelude.{◌&&◌, ◌||◌, ◌==◌, nat_eq, if◌then◌else◌, slice_get, take}
use Rattle.std.specs.List.{list_any}
use Rattle.bilv_spec.specs.Notes.{Assert}
use Rattle.machine_spec.specs.StateText.{Layout}
use Rattle.frame_spec.specs.Frames.{Contract, Frame, invariants_of, is_head, is_invariant}
use Rattle.frame_spec.specs.FramePoints.{has_heads}
use Rattle.frame_spec.specs.FrameReports.{Shown, WrittenHead, head_of, last_rank, shown_start}
use Rattle.frame_spec.specs.FrameVerdict.{IsOrigin, IsStart, Whole, entry_frame, frame_by, frame_of}

module _ (f : Frame) (plain : f.invariants ≡ []) where
  kept_by : (b : Bool) → b ≡ false → (x : Assert) (rest : List Assert) → (if b then x ∷ rest else rest) ≡ rest
  kept_by b e x rest = ap (λ t. if t then x ∷ rest else rest) e

  no_invariants : (l : List Assert) → invariants_of f l ≡ []
  no_invariants [] = refl
  no_invariants (x ∷ l) = kept_by (is_invariant f x) (ap (list_any (nat_eq x.line)) plain) x (invariants_of f l) ∙ no_invariants l

  both_false : (b : Bool) → (b && false) ≡ false
  both_false true = refl
  both_false false = refl

  pub no_head : (a : ℕ) → is_head f a ≡ false
  no_head a =
      ap (λ (l : List Assert). f.cuts && list_any (λ x. x.at == a) l) (no_invariants f.program.notes.asserts) ∙ both_false f.cuts

  none_of : (l : List Assert) → list_any (λ x. is_head f x.at) l ≡ false
  none_of [] = refl
  none_of (x ∷ l) = ap (λ b. b || list_any (λ y. is_head f y.at) l) (no_head x.at) ∙ none_of l

  pub no_heads : has_heads f ≡ false
  no_heads = none_of f.program.notes.asserts

  -- so nothing that is shown begins in a head state
  pub none_shown : (w : Whole) (k : ℕ) (layout : Layout) (s : Shown) → IsStart f k (shown_start w f layout s) → s.head ≡ None
  none_shown w k layout s is = by s.head is.origin
    where
      by : (o : Option WrittenHead) → IsOrigin f k (shown_start w f layout s).state (head_of f layout o) → o ≡ None
      by None origin = refl
      by (Some h) origin = let z : true ≡ false = sym origin.1.head ∙ no_head h.at in absurd (cc)

none_at : {A : Type 0} (xs : List A) → slice_get xs (length xs) ≡ None
none_at [] = refl
none_at (x ∷ xs) = none_at xs

-- the frame of the last rank
pub last_is : (w : Whole) → frame_of w (last_rank w) ≡ entry_frame w
last_is w = ap (frame_by w (last_rank w)) (none_at w.contracts)

invariants_by : (w : Whole) (rank : ℕ) (o : Option Contract) → (frame_by w rank o).invariants ≡ w.invariants
invariants_by w rank None = refl
invariants_by w rank (Some x) = refl

pub invariants_same : (w : Whole) (rank : ℕ) → (frame_of w rank).invariants ≡ w.invariants
invariants_same w rank = invariants_by w rank (slice_get w.contracts rank)

none_taken : (n : ℕ) (xs : List Contract) → xs ≡ [] → take n xs ≡ []
none_taken zero [] e = refl
none_taken zero (x ∷ xs) e = absurd (cc)
none_taken (suc n) [] e = refl
none_taken (suc n) (x ∷ xs) e = absurd (cc)

stepped_by : (w : Whole) (rank : ℕ) (o : Option Contract) → w.contracts ≡ [] → (frame_by w rank o).stepped ≡ []
stepped_by w rank None e = e
stepped_by w rank (Some x) e = none_taken rank w.contracts e

-- no frame steps over contracts where there are none
pub none_stepped_by : (w : Whole) (rank : ℕ) → w.contracts ≡ [] → (frame_of w rank).stepped ≡ []
none_stepped_by w rank e = stepped_by w rank (slice_get w.contracts rank) e
