-- Two numbers of the same point are the same.
use Rattle.std.proofs.Common.{◌≡◌, inl, inr, refl, ap, sym, ◌∙◌, arith, ℕ, ◌-◌, ◌/◌, ◌%◌, ◌<◌, ◌≤◌, Bool, true, false, Option, Some, None, List, length, get_or}
use Rattle.std.specs.Prelude.{◌==◌, if◌then◌else◌}
use Rattle.std.specs.BTreeMap.{BTreeMap}
use Rattle.std.proofs.lemmas.Bool.Decides.{nat_tests}
use Rattle.std.proofs.lemmas.Bool.{cases_lt}
use Rattle.frame_spec.specs.Frames as specs
use Rattle.frame_spec.specs.FramePoints as spec
use Rattle.frame_spec.specs.FramePoints.{Anchor, AtEntry, AtHead, first, is_entry}
use Rattle.program_points.specs.declared.values.Frame.{Frame}
use Rattle.program_points.specs.declared.values.Root.{Root}
use Rattle.program_points.specs.Listed.{anchor_of}
use Rattle.program_points.specs.Tables.{is_root_within, stack_at, stacks_of, IsTable}
use Rattle.program_points.proofs.Stacked.{one_number}
use Rattle.unroller.specs.Keys.{root_of, stack_of, head_number, head_of, anchor_by, point_of, AreSegments}
use Rattle.unroller.proofs.Numbered.{key_parts}

pub zero_test : (n : ℕ) → n ≡ 0 → (n == 0) ≡ true
zero_test n e = grind (arith, nat_tests)

pub test_zero : (n : ℕ) → (n == 0) ≡ true → n ≡ 0
test_zero n e = grind (arith, nat_tests)

module _ (f : specs.Frame) (k : ℕ) (frames : List Frame) (numbers : BTreeMap (ℕ × ℕ) ℕ) (segments : List ℕ) (table : IsTable frames numbers)
    (segs : AreSegments f k frames segments) where
  one_head : (a b : Option Root) → is_root_within (length frames) a → is_root_within (length frames) b →
      anchor_of (stacks_of frames) a ≡ anchor_of (stacks_of frames) b → a ≡ b
  one_head None None x y e = refl
  one_head None (Some r) x y e = absurd (cc)
  one_head (Some r) None x y e = absurd (cc)
  one_head (Some r) (Some s) x y e =
      let parts = head_parts (stack_at frames r.stack) (stack_at frames s.stack) r.at s.at e in
      let number = one_number frames numbers table r.stack r.stack s.stack (omega arith) x y parts.0 in
      ap (λ (z : ℕ). let t : Root = record { stack = z; at = r.at } in Some t) number
      ∙ ap (λ (z : ℕ). let t : Root = record { stack = s.stack; at = z } in Some t) parts.1
    where
      head_parts : (s t : List ℕ) (a b : ℕ) → AtHead s a ≡ AtHead t b → (s ≡ t) × (a ≡ b)
      head_parts s t a b e = ((cc), (cc))

  pub same_anchor : (m n : ℕ) → m < length segments → n < length segments → anchor_by frames segments m ≡ anchor_by frames segments n → m ≡ n
  same_anchor m n a b e =
      let same : get_or segments m 0 ≡ get_or segments n 0 =
      sym (segs.exact m a)
      ∙ ap head_number (one_head (head_of (get_or segments m 0)) (head_of (get_or segments n 0)) (segs.fits m a) (segs.fits n b) e) ∙ segs.exact n b in
      elim (cases_lt m n) as (λ _. m ≡ n) [
        | inl l ↦ absurd (let up = segs.rise m n l b in omega arith)
        | inr le ↦ elim (cases_lt n m) as (λ _. m ≡ n) [ inl l ↦ absurd (let up = segs.rise n m l a in omega arith) | inr ge ↦ omega arith ]
      ]

  pub same_key : (x y : ℕ) → root_of x < length segments → root_of y < length segments → stack_of x ≤ length frames → stack_of y ≤ length frames →
      point_of frames segments x ≡ point_of frames segments y → x ≡ y
  same_key x y g h a b e =
      let r = same_anchor (root_of x) (root_of y) g h (ap (λ (z : spec.Point). z.anchor) e) in
      let q : stack_at frames (stack_of x) ≡ stack_at frames (stack_of y) = ap (λ (z : spec.Point). z.stack) e in
      let s = one_number frames numbers table (stack_of x) (stack_of x) (stack_of y) (omega arith) a b q in
      key_parts x y r (ap (λ (z : spec.Point). z.turns) e) (ap (λ (z : spec.Point). z.at) e) s (ap (λ (z : spec.Point). z.contract) e)

  -- the first root is the entry's, and no other is
  entry_by : (o : Option Root) → anchor_of (stacks_of frames) o ≡ AtEntry → o ≡ None
  entry_by None e = refl
  entry_by (Some r) e = absurd (cc)

  pub entry_root : (0 < length segments) × (get_or segments 0 0 ≡ 0)
  entry_root =
      let e = segs.all AtEntry first in
      let n = e.0 in
      let low = e.1 in
      let zero_is : get_or segments n 0 ≡ 0 = sym (segs.exact n low) ∙ ap head_number (entry_by (head_of (get_or segments n 0)) e.2) in
      elim (cases_lt 0 n) as (λ _. (0 < length segments) × (get_or segments 0 0 ≡ 0)) [
        | inl l ↦ absurd (let up = segs.rise 0 n l low in omega arith)
        | inr le ↦ (let same : n ≡ 0 = omega arith in ((omega arith), ap (λ (z : ℕ). get_or segments z 0) (sym same) ∙ zero_is))
      ]

  abbrev made : ℕ → Option Root
  made n = Some (record { stack = (n - 1) % 18446744073709551616; at = (n - 1) / 18446744073709551616 % 4294967296 })

  number_by : (x : ℕ) (b : Bool) → is_entry (anchor_of (stacks_of frames) (if b then None else made x)) ≡ b
  number_by x true = refl
  number_by x false = refl

  some_test : (n : ℕ) → 0 < n → (n == 0) ≡ false
  some_test n l = grind (arith, nat_tests)

  pub entry_is : (n : ℕ) → n < length segments → is_entry (anchor_by frames segments n) ≡ (n == 0)
  entry_is n w =
      let x = get_or segments n 0 in
      let r = entry_root in
      number_by x (x == 0) ∙ elim (cases_lt 0 n) as (λ _. (x == 0) ≡ (n == 0)) [
        | inl l ↦ some_test x (let up = segs.rise 0 n l w in let z = r.1 in omega arith) ∙ sym (some_test n l)
        | inr le ↦
            let same : n ≡ 0 = omega arith in
            zero_test x (ap (λ (z : ℕ). get_or segments z 0) same ∙ r.1) ∙ sym (zero_test n same)
      ]
