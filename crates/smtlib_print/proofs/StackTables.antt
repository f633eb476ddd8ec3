-- Stacks by their numbers; a frame that stands on no stack of a lower number stands on the empty one.
use Rattle.std.proofs.Common.{◌≡◌, ℕ, zero, suc, ◌+◌, ◌<◌, ◌≤◌, refl, ap, sym, ◌∙◌, arith, List, [], ◌∷◌, ◌++◌, length, get_or, Some}
use Rattle.std.specs.Prelude.{slice_get}
use Rattle.std.proofs.Math.ListN.{length-append}
use Rattle.std.proofs.lemmas.List.{get_or_past}
use Rattle.std.proofs.lemmas.Option.{slice_get_within, slice_get-get_or}
use Rattle.program_points.specs.declared.values.Frame.{Frame}
use Rattle.program_points.specs.Tables.{stack_at, stacks_from, stacks_of}
use Rattle.program_points.proofs.Lists.{or_left, or_last}
use Rattle.program_points.proofs.Stacked.{stack_next, stack_none, stacks_length}

-- the stack of a frame, behind those of some numbers
abbrev stack_of : List (List ℕ) → Frame → List ℕ
stack_of known f = f.top ∷ get_or known f.below []

keeps : (known : List (List ℕ)) (fs : List Frame) (i : ℕ) → i < length known → get_or (stacks_from known fs) i [] ≡ get_or known i []
keeps known [] i h = refl
keeps known (f ∷ fs) i h =
    let b : length (known ++ stack_of known f ∷ []) ≡ length known + 1 = length-append known (stack_of known f ∷ []) in
    keeps (known ++ stack_of known f ∷ []) fs i (omega arith) ∙ or_left known (stack_of known f ∷ []) i [] h

off_at : (known : List (List ℕ)) (fs : List Frame) (i : ℕ) (f : Frame) → slice_get fs i ≡ Some f → length known + i ≤ f.below →
    get_or (stacks_from known fs) (length known + i) [] ≡ f.top ∷ []
off_at known [] i f e high = absurd (let l = slice_get_within [] i f e in omega arith)
off_at known (g ∷ fs) zero f e high =
    let same : g ≡ f = cc in
    let b : length (known ++ stack_of known g ∷ []) ≡ length known + 1 = length-append known (stack_of known g ∷ []) in
    let z : length known + 0 ≡ length known = omega arith in
    let past : length known ≤ g.below = (let q : g.below ≡ f.below = ap (λ (y : Frame). y.below) same in omega arith) in
    ap (λ n. get_or (stacks_from (known ++ stack_of known g ∷ []) fs) n []) z ∙ keeps (known ++ stack_of known g ∷ []) fs (length known) (omega arith)
    ∙ or_last known (stack_of known g) [] ∙ ap (λ l. g.top ∷ l) (get_or_past known g.below [] past) ∙ ap (λ (y : Frame). y.top ∷ []) same
off_at known (g ∷ fs) (suc i) f e high =
    let b : length (known ++ stack_of known g ∷ []) ≡ length known + 1 = length-append known (stack_of known g ∷ []) in
    let z : length known + suc i ≡ length (known ++ stack_of known g ∷ []) + i = omega arith in
    ap (λ n. get_or (stacks_from (known ++ stack_of known g ∷ []) fs) n []) z ∙ off_at (known ++ stack_of known g ∷ []) fs i f e (omega arith)

pub stack_off : (frames : List Frame) (i : ℕ) (f : Frame) → slice_get frames i ≡ Some f → i < f.below → stack_at frames (suc i) ≡ f.top ∷ stack_at frames 0
unfolding stacks_of
stack_off frames i f e high =
    let none : List (List ℕ) = [] ∷ [] in
    let z : suc i ≡ length none + i = omega arith in
    ap (λ n. get_or (stacks_from ([] ∷ []) frames) n []) z ∙ off_at ([] ∷ []) frames i f e (omega arith) ∙ ap (λ l. f.top ∷ l) (sym (stack_none frames))

pub stack_past : (frames : List Frame) (n : ℕ) → length frames < n → stack_at frames n ≡ []
stack_past frames n h = get_or_past (stacks_of frames) n [] (let l = stacks_length frames in omega arith)

-- the stack of a number by the frame before it, which stands on a stack of a lower number, or on the empty one
pub framed : (frames : List Frame) (n i : ℕ) (d : Frame) → n ≡ suc i → n ≤ length frames → (get_or frames i d).below < n →
    stack_at frames n ≡ (get_or frames i d).top ∷ stack_at frames (get_or frames i d).below
framed frames n i d e m low =
    ap (stack_at frames) e ∙ stack_next frames i (get_or frames i d) (slice_get-get_or frames i d (omega (arith, e, m))) (omega (arith, e, low))

pub loose : (frames : List Frame) (n i : ℕ) (d : Frame) → n ≡ suc i → n ≤ length frames → n ≤ (get_or frames i d).below →
    stack_at frames n ≡ (get_or frames i d).top ∷ stack_at frames 0
loose frames n i d e m high =
    ap (stack_at frames) e ∙ stack_off frames i (get_or frames i d) (slice_get-get_or frames i d (omega (arith, e, m))) (omega (arith, e, high))
