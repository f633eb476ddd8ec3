-- The top of a stack by its number, and the stack below it.
use Rattle.std.proofs.Common.{◌≡◌, ℕ, zero, suc, ◌+◌, ◌-◌, ◌<◌, ◌≤◌, refl, ap, sym, ◌∙◌, arith, List, [], ◌∷◌, ◌++◌, append_assoc, append-nil, length, get_or, Some}
use Rattle.std.specs.Prelude.{slice_get, reverse}
use Rattle.std.proofs.Math.ListN.{length-append}
use Rattle.std.proofs.lemmas.List.{get_or_past}
use Rattle.std.proofs.lemmas.Option.{slice_get-get_or}
use Rattle.program_points.specs.declared.values.Frame.{Frame}
use Rattle.program_points.specs.Tables.{frame, stacks_from, stacks_of, stack_at}
use Rattle.program_points.proofs.Lists.{or_left, or_last}
use Rattle.program_points.proofs.Stacked.{stack_next, stack_none, stacks_length}

-- a stack that is numbered is not changed by those behind it
from_keeps : (known : List (List ℕ)) (fs : List Frame) (i : ℕ) → i < length known → get_or (stacks_from known fs) i [] ≡ get_or known i []
from_keeps known [] i h = refl
from_keeps known (f ∷ fs) i h =
    let x : List ℕ = f.top ∷ get_or known f.below [] in
    let b : length (known ++ x ∷ []) ≡ length known + 1 = length-append known (x ∷ []) in
    from_keeps (known ++ x ∷ []) fs i (omega arith) ∙ or_left known (x ∷ []) i [] h

-- a frame on a stack that is not before it is on the empty one
from_alone : (known : List (List ℕ)) (fs : List Frame) (i : ℕ) (f : Frame) → slice_get fs i ≡ Some f → length known + i ≤ f.below →
    get_or (stacks_from known fs) (length known + i) [] ≡ f.top ∷ []
from_alone known [] i f e high = absurd (cc)
from_alone known (g ∷ fs) zero f e high =
    let x : List ℕ = g.top ∷ get_or known g.below [] in
    let same : g ≡ f = (cc) in
    let b : length (known ++ x ∷ []) ≡ length known + 1 = length-append known (x ∷ []) in
    let z : length known + 0 ≡ length known = omega arith in
    let over : length known ≤ g.below = (let q : g.below ≡ f.below = ap (λ (y : Frame). y.below) same in omega arith) in
    ap (λ n. get_or (stacks_from (known ++ x ∷ []) fs) n []) z ∙ from_keeps (known ++ x ∷ []) fs (length known) (omega arith) ∙ or_last known x []
    ∙ ap (λ l. g.top ∷ l) (get_or_past known g.below [] over) ∙ ap (λ (y : Frame). y.top ∷ []) same
from_alone known (g ∷ fs) (suc i) f e high =
    let x : List ℕ = g.top ∷ get_or known g.below [] in
    let b : length (known ++ x ∷ []) ≡ length known + 1 = length-append known (x ∷ []) in
    let z : length known + suc i ≡ length (known ++ x ∷ []) + i = omega arith in
    ap (λ n. get_or (stacks_from (known ++ x ∷ []) fs) n []) z ∙ from_alone (known ++ x ∷ []) fs i f e (omega arith)

stack_alone : (frames : List Frame) (i : ℕ) (f : Frame) → slice_get frames i ≡ Some f → i < f.below → stack_at frames (suc i) ≡ f.top ∷ []
unfolding stacks_of
stack_alone frames i f e high =
    let none : List (List ℕ) = [] ∷ [] in
    let z : suc i ≡ length none + i = omega arith in
    ap (λ n. get_or (stacks_from ([] ∷ []) frames) n []) z ∙ from_alone ([] ∷ []) frames i f e (omega arith)

-- a number that no stack has
pub beyond : (frames : List Frame) (n : ℕ) (found : List ℕ) → length frames < n → found ++ stack_at frames 0 ≡ found ++ stack_at frames n
beyond frames n found h =
    let l = stacks_length frames in
    ap (λ z. found ++ z) (stack_none frames ∙ sym (get_or_past (stacks_of frames) n [] (omega arith)))

pushed : (frames : List Frame) (n below top : ℕ) (found : List ℕ) → stack_at frames n ≡ top ∷ stack_at frames below →
    (found ++ top ∷ []) ++ stack_at frames below ≡ found ++ stack_at frames n
pushed frames n below top found e = append_assoc found (top ∷ []) (stack_at frames below) ∙ ap (λ z. found ++ z) (sym e)

module _ (frames : List Frame) (n : ℕ) (found grown : List ℕ) (some : 0 < n) (within : n ≤ length frames) where
  abbrev own : Frame
  own = get_or frames (n - 1) (frame 0 0)

  got : slice_get frames (n - 1) ≡ Some own
  got = slice_get-get_or frames (n - 1) (frame 0 0) (omega arith)

  number_is : suc (n - 1) ≡ n
  number_is = omega arith

  -- the stack below the top
  pub on_below : grown ≡ found ++ own.top ∷ [] → own.below < n → grown ++ stack_at frames own.below ≡ found ++ stack_at frames n
  on_below is low =
      ap (λ z. z ++ stack_at frames own.below) is
      ∙ pushed frames n own.below own.top found (ap (stack_at frames) (sym number_is) ∙ stack_next frames (n - 1) own got (omega arith))

  -- the top stands alone
  pub on_none : grown ≡ found ++ own.top ∷ [] → n ≤ own.below → grown ++ stack_at frames 0 ≡ found ++ stack_at frames n
  on_none is high =
      ap (λ z. z ++ stack_at frames 0) is
      ∙ pushed frames n 0 own.top found
      (ap (stack_at frames) (sym number_is) ∙ stack_alone frames (n - 1) own got (omega arith) ∙ ap (λ z. own.top ∷ z) (sym (stack_none frames)))

-- all that is found is the stack, from its top
pub found_all : (frames : List Frame) (n rest : ℕ) (found : List ℕ) → found ++ stack_at frames rest ≡ stack_at frames n → rest ≤ 0 →
    reverse found ≡ reverse (stack_at frames n)
found_all frames n rest found e low =
    let none : rest ≡ 0 = omega arith in
    ap reverse (sym (append-nil found) ∙ ap (λ z. found ++ z) (sym (ap (stack_at frames) none ∙ stack_none frames)) ∙ e)
