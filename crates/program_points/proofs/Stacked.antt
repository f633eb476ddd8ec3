-- The stacks by their numbers.
use Rattle.std.proofs.Common.{◌≡◌, ℕ, zero, suc, ◌+◌, ◌<◌, ◌≤◌, refl, ap, sym, ◌∙◌, arith, List, [], ◌∷◌, ◌++◌, length, get_or, Some}
use Rattle.std.specs.Prelude.{slice_get}
use Rattle.std.specs.BTreeMap.{BTreeMap}
use Rattle.std.specs.BTreeMap as tree
use Rattle.std.proofs.Math.ListN.{length-append}
use Rattle.std.proofs.lemmas.Option.{slice_get_within, slice_get-get_or}
use Rattle.program_points.specs.declared.values.Frame.{Frame}
use Rattle.program_points.specs.Listed.{AreStacks}
use Rattle.program_points.specs.Tables.{pair_cmp, frame, stacks_from, stacks_of, stack_at, IsTable}
use Rattle.program_points.proofs.Lists.{or_left, or_last}

from_append : (known : List (List ℕ)) (fs gs : List Frame) → stacks_from known (fs ++ gs) ≡ stacks_from (stacks_from known fs) gs
from_append known [] gs = refl
from_append known (f ∷ fs) gs = from_append (known ++ (f.top ∷ get_or known f.below []) ∷ []) fs gs

from_length : (known : List (List ℕ)) (fs : List Frame) → length (stacks_from known fs) ≡ length known + length fs
from_length known [] = (let z : length known + 0 ≡ length known = omega arith in sym z)
from_length known (f ∷ fs) =
    let x : List ℕ = f.top ∷ get_or known f.below [] in
    let a = from_length (known ++ x ∷ []) fs in
    let b : length (known ++ x ∷ []) ≡ length known + 1 = length-append known (x ∷ []) in
    omega arith

from_keeps : (known : List (List ℕ)) (fs : List Frame) (i : ℕ) → i < length known → get_or (stacks_from known fs) i [] ≡ get_or known i []
from_keeps known [] i h = refl
from_keeps known (f ∷ fs) i h =
    let x : List ℕ = f.top ∷ get_or known f.below [] in
    let b : length (known ++ x ∷ []) ≡ length known + 1 = length-append known (x ∷ []) in
    from_keeps (known ++ x ∷ []) fs i (omega arith) ∙ or_left known (x ∷ []) i [] h

from_at : (known : List (List ℕ)) (fs : List Frame) (i : ℕ) (f : Frame) → slice_get fs i ≡ Some f → f.below < length known + i
    → get_or (stacks_from known fs) (length known + i) [] ≡ f.top ∷ get_or (stacks_from known fs) f.below []
from_at known [] i f e low = absurd (let l = slice_get_within [] i f e in omega arith)
from_at known (g ∷ fs) zero f e low =
    let x : List ℕ = g.top ∷ get_or known g.below [] in
    let same : g ≡ f = (cc) in
    let b : length (known ++ x ∷ []) ≡ length known + 1 = length-append known (x ∷ []) in
    let z : length known + 0 ≡ length known = omega arith in
    let under : g.below < length known = (let q : g.below ≡ f.below = ap (λ (y : Frame). y.below) same in omega arith) in
    ap (λ n. get_or (stacks_from (known ++ x ∷ []) fs) n []) z ∙ from_keeps (known ++ x ∷ []) fs (length known) (omega arith) ∙ or_last known x []
    ∙ ap (λ l. g.top ∷ l) (sym (from_keeps (known ++ x ∷ []) fs g.below (omega arith) ∙ or_left known (x ∷ []) g.below [] under))
    ∙ ap (λ (y : Frame). y.top ∷ get_or (stacks_from (known ++ x ∷ []) fs) y.below []) same
from_at known (g ∷ fs) (suc i) f e low =
    let x : List ℕ = g.top ∷ get_or known g.below [] in
    let b : length (known ++ x ∷ []) ≡ length known + 1 = length-append known (x ∷ []) in
    let z : length known + suc i ≡ length (known ++ x ∷ []) + i = omega arith in
    ap (λ n. get_or (stacks_from (known ++ x ∷ []) fs) n []) z ∙ from_at (known ++ x ∷ []) fs i f e (omega arith)

pub stacks_length : (frames : List Frame) → length (stacks_of frames) ≡ length frames + 1
unfolding stacks_of
stacks_length frames = (let a = from_length ([] ∷ []) frames in omega arith)

pub stack_none : (frames : List Frame) → stack_at frames 0 ≡ []
unfolding stacks_of
stack_none frames = from_keeps ([] ∷ []) frames 0 (omega arith)

-- more frames leave the stacks as they are
pub stack_keeps : (old rest : List Frame) (n : ℕ) → n ≤ length old → stack_at (old ++ rest) n ≡ stack_at old n
unfolding stacks_of
stack_keeps old rest n h =
    ap (λ l. get_or l n []) (from_append ([] ∷ []) old rest)
    ∙ from_keeps (stacks_from ([] ∷ []) old) rest n (let a = from_length ([] ∷ []) old in omega arith)

pub stack_next : (frames : List Frame) (i : ℕ) (f : Frame) → slice_get frames i ≡ Some f → f.below ≤ i →
    stack_at frames (suc i) ≡ f.top ∷ stack_at frames f.below
unfolding stacks_of
stack_next frames i f e low =
    let none : List (List ℕ) = [] ∷ [] in
    let z : suc i ≡ length none + i = omega arith in
    ap (λ n. get_or (stacks_from ([] ∷ []) frames) n []) z ∙ from_at ([] ∷ []) frames i f e (omega arith)

top_same : (a b : ℕ) (xs ys : List ℕ) → a ∷ xs ≡ b ∷ ys → (a ≡ b) × (xs ≡ ys)
top_same a b xs ys e = ((cc), (cc))

module _ (frames : List Frame) (numbers : BTreeMap (ℕ × ℕ) ℕ) (is : IsTable frames numbers) where
  frame_of : (i : ℕ) → i < length frames → (f : Frame) × (slice_get frames i ≡ Some f)
  frame_of i h = let e = slice_get-get_or frames i (frame 0 0) h in (get_or frames i (frame 0 0), e)

  -- stacks that are equal have one number
  pub one_number : (fuel i j : ℕ) → i ≤ fuel → i ≤ length frames → j ≤ length frames → stack_at frames i ≡ stack_at frames j → i ≡ j
  one_number fuel zero zero le a b e = refl
  one_number fuel zero (suc j) le a b e =
      absurd (let f = frame_of j (omega arith) in
      let q : [] ≡ f.0.top ∷ stack_at frames f.0.below = sym (stack_none frames) ∙ e ∙ stack_next frames j f.0 f.1 (is.below j f.0 f.1) in cc)
  one_number fuel (suc i) zero le a b e =
      absurd (let f = frame_of i (omega arith) in
      let q : [] ≡ f.0.top ∷ stack_at frames f.0.below = sym (stack_none frames) ∙ sym e ∙ stack_next frames i f.0 f.1 (is.below i f.0 f.1) in cc)
  one_number zero (suc i) (suc j) le a b e = absurd (omega arith)
  one_number (suc fuel) (suc i) (suc j) le a b e =
      let f = frame_of i (omega arith) in
      let g = frame_of j (omega arith) in
      let lf : f.0.below ≤ i = is.below i f.0 f.1 in
      let lg : g.0.below ≤ j = is.below j g.0 g.1 in
      let q = top_same f.0.top g.0.top (stack_at frames f.0.below) (stack_at frames g.0.below)
      (sym (stack_next frames i f.0 f.1 lf) ∙ e ∙ stack_next frames j g.0 g.1 lg) in
      let r = one_number fuel f.0.below g.0.below (omega arith) (omega arith) (omega arith) q.1 in
      let s : Some (i + 1) ≡ Some (j + 1) =
      sym (is.known i f.0 f.1) ∙ ap (λ z. tree.get pair_cmp numbers (z, f.0.below)) q.0 ∙ ap
      (λ z. tree.get pair_cmp numbers (g.0.top, z)) r ∙ is.known j g.0 g.1 in
      let t : i + 1 ≡ j + 1 = (cc) in
      omega arith

  get_at : (n : ℕ) → n ≤ length frames → slice_get (stacks_of frames) n ≡ Some (stack_at frames n)
  get_at n h = slice_get-get_or (stacks_of frames) n [] (let a = stacks_length frames in omega arith)

  pub are_stacks : AreStacks frames (stacks_of frames)
  are_stacks = record {
    count = stacks_length frames;
    empty = get_at 0 (omega arith) ∙ ap Some (stack_none frames);
    each = λ i f e. (
      is.below i f e,
      (let l = slice_get_within frames i f e in let z : i + 1 ≡ suc i = omega arith in
          get_at (i + 1) (omega arith) ∙ ap Some (ap (stack_at frames) z ∙ stack_next frames i f e (is.below i f e))),
    );
    once = λ i j lt w e.
        let a = stacks_length frames in
        let q : Some (stack_at frames i) ≡ Some (stack_at frames j) = sym (get_at i (omega arith)) ∙ e ∙ get_at j (omega arith) in
        let r : stack_at frames i ≡ stack_at frames j = (cc) in
        (let s = one_number i i j (omega arith) (omega arith) (omega arith) r in omega arith);
  }
