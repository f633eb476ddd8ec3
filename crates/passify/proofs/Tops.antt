-- The top of a stack by its number.
use Rattle.std.proofs.Common.{◌≡◌, ℕ, zero, suc, ◌+◌, ◌<◌, ◌≤◌, List, [], ◌∷◌, ◌++◌, length, get_or, refl, ap, sym, ◌∙◌, arith, length-append}
use Rattle.std.specs.Prelude.{slice_index_or}
use Rattle.program_points.specs.declared.values.Frame.{Frame}
use Rattle.program_points.specs.Tables.{stack_at, stacks_from, stacks_of}
use Rattle.question_form.specs.FrameViews.{top_of}

before : (xs ys : List (List ℕ)) (n : ℕ) → n < length xs → get_or (xs ++ ys) n [] ≡ get_or xs n []
before [] ys n l = absurd (omega (arith, l))
before (x ∷ xs) ys zero l = refl
before (x ∷ xs) ys (suc n) l = before xs ys n (omega (arith, l))

behind : (xs : List (List ℕ)) (y : List ℕ) → get_or (xs ++ y ∷ []) (length xs) [] ≡ y
behind [] y = refl
behind (x ∷ xs) y = behind xs y

past : (xs : List (List ℕ)) (n : ℕ) → length xs ≤ n → get_or xs n [] ≡ []
past [] zero l = refl
past [] (suc n) l = refl
past (x ∷ xs) zero l = absurd (omega (arith, l))
past (x ∷ xs) (suc n) l = past xs n (omega (arith, l))

-- stacks that are known stay so
kept : (known : List (List ℕ)) (frames : List Frame) (n : ℕ) → n < length known → get_or (stacks_from known frames) n [] ≡ get_or known n []
kept known [] n l = refl
kept known (f ∷ rest) n l =
    let x : List ℕ = f.top ∷ slice_index_or known f.below [] in
    let e = length-append known (x ∷ []) in
    kept (known ++ x ∷ []) rest n (omega (arith, e, l)) ∙ before known (x ∷ []) n l

top_from : (known : List (List ℕ)) (frames : List Frame) (i : ℕ) (d : Frame) → i < length frames →
    top_of (get_or (stacks_from known frames) (length known + i) []) ≡ (get_or frames i d).top
top_from known [] i d l = absurd (omega (arith, l))
top_from known (f ∷ rest) zero d l =
    let x : List ℕ = f.top ∷ slice_index_or known f.below [] in
    let e = length-append known (x ∷ []) in
    ap top_of (kept (known ++ x ∷ []) rest (length known + 0) (omega (arith, e))
    ∙ ap (λ n. get_or (known ++ x ∷ []) n []) (let z : length known + 0 ≡ length known = omega arith in z) ∙ behind known x)
top_from known (f ∷ rest) (suc i) d l =
    let x : List ℕ = f.top ∷ slice_index_or known f.below [] in
    let e = length-append known (x ∷ []) in
    ap (λ n. top_of (get_or (stacks_from (known ++ x ∷ []) rest) n []))
    (let z : length known + suc i ≡ length (known ++ x ∷ []) + i = omega (arith, e) in z)
    ∙ top_from (known ++ x ∷ []) rest i d (omega (arith, l))

count : (known : List (List ℕ)) (frames : List Frame) → length (stacks_from known frames) ≡ length known + length frames
count known [] = omega arith
count known (f ∷ rest) =
    let x : List ℕ = f.top ∷ slice_index_or known f.below [] in
    let e = length-append known (x ∷ []) in
    let r = count (known ++ x ∷ []) rest in
    omega (arith, e, r)

-- the stack of number 0 is empty
pub top_none : (frames : List Frame) (n : ℕ) → n ≡ 0 → 0 ≡ top_of (stack_at frames n)
unfolding stacks_of
top_none frames n e = sym (ap (λ k. top_of (stack_at frames k)) e ∙ ap top_of (kept ([] ∷ []) frames 0 (omega arith)))

-- each other one has the top of its frame
pub top_some : (frames : List Frame) (n i : ℕ) (d : Frame) → n ≡ 1 + i → i < length frames → (get_or frames i d).top ≡ top_of (stack_at frames n)
unfolding stacks_of
top_some frames n i d e l = sym (ap (λ k. top_of (stack_at frames k)) e ∙ top_from ([] ∷ []) frames i d l)

-- and there are no more
pub top_past : (frames : List Frame) (n : ℕ) → length frames < n → 0 ≡ top_of (stack_at frames n)
unfolding stacks_of
top_past frames n l = let c = count ([] ∷ []) frames in sym (ap top_of (past (stacks_from ([] ∷ []) frames) n (omega (arith, c, l))))
