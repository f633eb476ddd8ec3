-- The names in front of texts, byte by byte.
use Rattle.std.proofs.Common.{◌≡◌, ◌≢◌, ℕ, zero, suc, ◌+◌, ◌≤◌, ◌<◌, refl, ap, sym, ◌∙◌, arith, Bool, true, false, List, [], ◌∷◌, length, get_or, drop, drop-cons, nat_eq, add-one}
use Rattle.std.specs.Prelude.{◌==◌}
use Rattle.std.specs.Str.{bytes_eq}
use Rattle.std.proofs.lemmas.List.{drop_all}
use Rattle.std.proofs.lemmas.List.Sums.{take_while-cons}
use Rattle.std.proofs.lemmas.Bool.Decides.{nat_tests}
use Rattle.symbol_table.specs.Symbols.{is_letter, name_of, shared}

name_stop : (x : ℕ) (xs : List ℕ) → x ≡ 0 → name_of (x ∷ xs) ≡ []
name_stop x xs e =
    let t : is_letter x ≡ false = grind (arith, nat_tests) in
    take_while-cons is_letter x xs ∙ rw t

name_go : (x : ℕ) (xs : List ℕ) → x ≢ 0 → name_of (x ∷ xs) ≡ x ∷ name_of xs
name_go x xs e =
    let t : is_letter x ≡ true = grind (arith, nat_tests) in
    take_while-cons is_letter x xs ∙ rw t

-- the name ends where a NUL stands, or the text
pub name_ends : (text : List ℕ) (i : ℕ) → get_or text i 0 ≡ 0 → name_of (drop i text) ≡ []
name_ends [] zero e = refl
name_ends [] (suc i) e = refl
name_ends (x ∷ xs) zero e = name_stop x xs e
name_ends (x ∷ xs) (suc i) e = name_ends xs i e

-- and goes on elsewhere
name_goes : (text : List ℕ) (i : ℕ) → get_or text i 0 ≢ 0 → name_of (drop i text) ≡ get_or text i 0 ∷ name_of (drop (suc i) text)
name_goes [] zero e = absurd (e refl)
name_goes [] (suc i) e = absurd (e refl)
name_goes (x ∷ xs) zero e = name_go x xs e
name_goes (x ∷ xs) (suc i) e = name_goes xs i e

same_go : (x y : ℕ) (xs ys : List ℕ) → x ≡ y → bytes_eq (x ∷ xs) (y ∷ ys) ≡ bytes_eq xs ys
same_go x y xs ys e = let t : nat_eq x y ≡ true = grind (arith, nat_tests) in rw t

same_not : (x y : ℕ) (xs ys : List ℕ) → x ≢ y → bytes_eq (x ∷ xs) (y ∷ ys) ≡ false
same_not x y xs ys other = let t : nat_eq x y ≡ false = grind (arith, nat_tests) in rw t

shared_go : (x y : ℕ) (xs ys : List ℕ) → x ≡ y → shared (y ∷ ys) (x ∷ xs) ≡ 1 + shared ys xs
shared_go x y xs ys e = let t : nat_eq y x ≡ true = grind (arith, nat_tests) in rw t

shared_not : (x y : ℕ) (xs ys : List ℕ) → x ≢ y → shared (y ∷ ys) (x ∷ xs) ≡ 0
shared_not x y xs ys other = let t : nat_eq y x ≡ false = grind (arith, nat_tests) in rw t

module _ (text name : List ℕ) (i : ℕ) (within : i < length name) where
  front : drop i name ≡ get_or name i 0 ∷ drop (suc i) name
  front = drop-cons name i 0 within

  -- a further byte is the same
  pub same_more : get_or text i 0 ≢ 0 → get_or text i 0 ≡ get_or name i 0 →
      bytes_eq (name_of (drop i text)) (drop i name) ≡ bytes_eq (name_of (drop (i + 1) text)) (drop (i + 1) name)
  same_more some e =
      ap (λ t. bytes_eq t (drop i name)) (name_goes text i some)
      ∙ ap (λ n. bytes_eq (get_or text i 0 ∷ name_of (drop (suc i) text)) n) front
      ∙ same_go (get_or text i 0) (get_or name i 0) (name_of (drop (suc i) text)) (drop (suc i) name) e
      ∙ ap (λ k. bytes_eq (name_of (drop k text)) (drop k name)) (sym (add-one i))

  -- the text's name ends before the name does
  pub same_ended : get_or text i 0 ≡ 0 → bytes_eq (name_of (drop i text)) (drop i name) ≡ false
  same_ended e =
      ap (λ t. bytes_eq t (drop i name)) (name_ends text i e) ∙ ap (λ n. bytes_eq [] n) front

  -- a byte is another one
  pub same_differs : get_or text i 0 ≢ 0 → get_or text i 0 ≢ get_or name i 0 → bytes_eq (name_of (drop i text)) (drop i name) ≡ false
  same_differs some other =
      ap (λ t. bytes_eq t (drop i name)) (name_goes text i some)
      ∙ ap (λ n. bytes_eq (get_or text i 0 ∷ name_of (drop (suc i) text)) n) front
      ∙ same_not (get_or text i 0) (get_or name i 0) (name_of (drop (suc i) text)) (drop (suc i) name) other

  pub shared_more : get_or text i 0 ≢ 0 → get_or text i 0 ≡ get_or name i 0 →
      shared (drop i name) (name_of (drop i text)) ≡ 1 + shared (drop (i + 1) name) (name_of (drop (i + 1) text))
  shared_more some e =
      ap (λ t. shared (drop i name) t) (name_goes text i some)
      ∙ ap (λ n. shared n (get_or text i 0 ∷ name_of (drop (suc i) text))) front
      ∙ shared_go (get_or text i 0) (get_or name i 0) (name_of (drop (suc i) text)) (drop (suc i) name) e
      ∙ ap (λ k. 1 + shared (drop k name) (name_of (drop k text))) (sym (add-one i))

  pub shared_ended : get_or text i 0 ≡ 0 → shared (drop i name) (name_of (drop i text)) ≡ 0
  shared_ended e = ap (λ t. shared (drop i name) t) (name_ends text i e) ∙ ap (λ n. shared n []) front

  pub shared_differs : get_or text i 0 ≢ 0 → get_or text i 0 ≢ get_or name i 0 → shared (drop i name) (name_of (drop i text)) ≡ 0
  shared_differs some other =
      ap (λ t. shared (drop i name) t) (name_goes text i some)
      ∙ ap (λ n. shared n (get_or text i 0 ∷ name_of (drop (suc i) text))) front
      ∙ shared_not (get_or text i 0) (get_or name i 0) (name_of (drop (suc i) text)) (drop (suc i) name) other

-- behind the name's end
pub same_at_end : (text : List ℕ) (n : ℕ) → bytes_eq (name_of (drop n text)) [] ≡ (get_or text n 0 == 0)
same_at_end text n = by_cases (get_or text n 0 == 0) refl
  where
    some : (get_or text n 0 == 0) ≡ false → get_or text n 0 ≢ 0
    some e = grind (arith, nat_tests)

    none : (get_or text n 0 == 0) ≡ true → get_or text n 0 ≡ 0
    none e = grind (arith, nat_tests)

    by_cases : (b : Bool) → (get_or text n 0 == 0) ≡ b → bytes_eq (name_of (drop n text)) [] ≡ (get_or text n 0 == 0)
    by_cases true e = ap (λ t. bytes_eq t []) (name_ends text n (none e)) ∙ sym e
    by_cases false e = ap (λ t. bytes_eq t []) (name_goes text n (some e)) ∙ sym e

-- each byte of the name is the same
pub same_all : (text name : List ℕ) (i : ℕ) → length name ≤ i → i ≤ length name →
    bytes_eq (name_of (drop i text)) (drop i name) ≡ (get_or text (length name) 0 == 0)
same_all text name i low high =
    let same : i ≡ length name = omega arith in
    ap (λ n. bytes_eq (name_of (drop i text)) n) (drop_all i name low) ∙ same_at_end text i ∙ ap (λ k. get_or text k 0 == 0) same

pub shared_all : (text name : List ℕ) (i : ℕ) → length name ≤ i → i ≤ length name → i + shared (drop i name) (name_of (drop i text)) ≡ length name
shared_all text name i low high =
    let same : i + 0 ≡ length name = omega arith in
    ap (λ n. i + shared n (name_of (drop i text))) (drop_all i name low) ∙ same
