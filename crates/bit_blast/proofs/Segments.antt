-- Bits of a reading that variables have, from a variable on.
use Rattle.std.proofs.Common.{◌≡◌, refl, ap, sym, ◌∙◌, subst, arith, ℕ, zero, suc, ◌+◌, ◌*◌, ◌^◌, ◌<◌, ◌≤◌, Bool, true, false, List, [], ◌∷◌, ◌++◌, Some, length}
use Rattle.std.specs.Prelude.{◌==◌, map, slice_get}
use Rattle.std.specs.List.{flat_map}
use Rattle.word_spec.specs.Words.{bit, bit_at}
use Rattle.word_spec.specs.RowFiles.{from_to}
use Rattle.clause_spec.specs.Clauses.{AgreeUpTo}
use Rattle.term_spec.specs.Terms.{TermReading}
use Rattle.frame_terms.specs.FrameClauseForm.{PartInput, HasBits, bit_of}
use Rattle.walk_laws.proofs.InputBits.{bit_is, same_bits}
use Rattle.walk_laws.proofs.InputOrder.{length_append}
use Rattle.word_gates.specs.Numbers.{input_number}
use Rattle.bit_blast.proofs.InputNumbers.{bits_are}

bit_few : (b : Bool) → bit b < 2
bit_few true = omega arith
bit_few false = omega arith

twice : (n : ℕ) → 2 ^ suc n ≡ 2 * 2 ^ n
twice n = grind arith

-- the number of inputs has their width
pub number_few : (v : ℕ → Bool) (f n : ℕ) → input_number v f n < 2 ^ n
number_few v f zero = omega arith
number_few v f (suc n) =
    let a = number_few v (suc f) n in let b = bit_few (v (suc f)) in let c = twice n in omega arith

-- valuations that agree give inputs one number
pub numbers_same : (m : ℕ) (v w : ℕ → Bool) → AgreeUpTo m v w → (f n : ℕ) → f + n ≤ m → input_number v f n ≡ input_number w f n
numbers_same m v w a f zero l = refl
numbers_same m v w a f (suc n) l =
    ap (λ z. bit z + 2 * input_number v (suc f) n) (a (suc f) (omega arith) (omega arith))
    ∙ ap (λ z. bit (w (suc f)) + 2 * z) (numbers_same m v w a (suc f) n (omega arith))

module _ (v : ℕ → Bool) (x : TermReading) where
  -- a variable has a bit
  abbrev pub HasBit : ℕ → PartInput → Type 0
  HasBit f y = v (suc f) ≡ (bit_of x y == 1)

  -- and so variables on from one
  abbrev pub HasFrom : ℕ → List PartInput → Type 0
  HasFrom f [] = Unit {0}
  HasFrom f (y ∷ ys) = HasBit f y × HasFrom (suc f) ys

  at : (f g : ℕ) (y : PartInput) → f ≡ g → HasBit f y → HasBit g y
  at f g y e h = subst (λ (z : ℕ). HasBit z y) e h

  pub from_at : (f g : ℕ) (ys : List PartInput) → f ≡ g → HasFrom f ys → HasFrom g ys
  from_at f g ys e h = subst (λ (z : ℕ). HasFrom z ys) e h

  each_of : (ys : List PartInput) (f : ℕ) → HasFrom f ys → (i : ℕ) (y : PartInput) → slice_get ys i ≡ Some y → HasBit (f + i) y
  each_of [] f h i y e = absurd (cc)
  each_of (z ∷ ys) f h zero y e = let same : z ≡ y = some e in subst (HasBit (f + 0)) same (at f (f + 0) z (omega arith) h.0)
    where
      some : {a b : PartInput} → Some a ≡ Some b → a ≡ b
      some h = (cc)
  each_of (z ∷ ys) f h (suc i) y e = at (suc f + i) (f + suc i) y (omega arith) (each_of ys (suc f) h.1 i y e)

  of_each : (ys : List PartInput) (f : ℕ) → ((i : ℕ) (y : PartInput) → slice_get ys i ≡ Some y → HasBit (f + i) y) → HasFrom f ys
  of_each [] f h = tt
  of_each (z ∷ ys) f h = (
    at (f + 0) f z (omega arith) (h 0 z refl),
    of_each ys (suc f) (λ i y e. at (f + suc i) (suc f + i) y (omega arith) (h (suc i) y e)),
  )

  -- as the definitions say it
  pub bits_from_first : (ys : List PartInput) → HasBits ys v x → HasFrom 0 ys
  bits_from_first ys h = of_each ys 0 (λ i y e. at i (0 + i) y (omega arith) (ap v (let z : suc i ≡ i + 1 = omega arith in z) ∙ h i y e))

  pub first_from_bits : (ys : List PartInput) → HasFrom 0 ys → HasBits ys v x
  first_from_bits ys h i y e = ap v (let z : i + 1 ≡ suc (0 + i) = omega arith in z) ∙ each_of ys 0 h i y e

  -- two lists
  pub split : (xs bs : List PartInput) (f : ℕ) → HasFrom f (xs ++ bs) → HasFrom f xs × HasFrom (f + length xs) bs
  split [] bs f h = (tt, from_at f (f + 0) bs (omega arith) h)
  split (a ∷ xs) bs f h =
      let q = split xs bs (suc f) h.1 in ((h.0, q.0), from_at (suc f + length xs) (f + suc (length xs)) bs (omega arith) q.1)

  pub joined : (xs bs : List PartInput) (f : ℕ) → HasFrom f xs → HasFrom (f + length xs) bs → HasFrom f (xs ++ bs)
  joined [] bs f h k = from_at (f + 0) f bs (omega arith) k
  joined (a ∷ xs) bs f h k = (h.0, joined xs bs (suc f) h.1 (from_at (f + suc (length xs)) (suc f + length xs) bs (omega arith) k))

  -- a row of bits
  pub row_to : (make : ℕ → PartInput) (a n f : ℕ) → HasFrom f (map make (from_to a n)) → (k : ℕ) → k < n → HasBit (f + k) (make (a + k))
  row_to make a zero f h k l = absurd (omega arith)
  row_to make a (suc n) f h zero l =
      subst (λ (z : ℕ). HasBit (f + 0) (make z)) (let e : a ≡ a + 0 = omega arith in e) (at f (f + 0) (make a) (omega arith) h.0)
  row_to make a (suc n) f h (suc k) l =
      subst (λ (z : ℕ). HasBit (f + suc k) (make z)) (let e : a + 1 + k ≡ a + suc k = omega arith in e)
      (at (suc f + k) (f + suc k) (make (a + 1 + k)) (omega arith) (row_to make (a + 1) n (suc f) h.1 k (omega arith)))

  pub row_from : (make : ℕ → PartInput) (a n f : ℕ) → ((k : ℕ) → k < n → HasBit (f + k) (make (a + k))) → HasFrom f (map make (from_to a n))
  row_from make a zero f h = tt
  row_from make a (suc n) f h = (
    subst (λ (z : ℕ). HasBit f (make z)) (let e : a + 0 ≡ a = omega arith in e) (at (f + 0) f (make (a + 0)) (omega arith) (h 0 (omega arith))),
    row_from make (a + 1) n (suc f) (λ k l.
        subst (λ (z : ℕ). HasBit (suc f + k) (make z)) (let e : a + suc k ≡ a + 1 + k = omega arith in e)
        (at (f + suc k) (suc f + k) (make (a + suc k)) (omega arith) (h (suc k) (omega arith)))),
  )

  -- a bit for each of a list
  pub list_to : (make : ℕ → PartInput) (ys : List ℕ) (f : ℕ) → HasFrom f (map make ys) → (k y : ℕ) → slice_get ys k ≡ Some y → HasBit (f + k) (make y)
  list_to make [] f h k y e = absurd (cc)
  list_to make (z ∷ ys) f h zero y e =
      let same : z ≡ y = cc in subst (λ (w : ℕ). HasBit (f + 0) (make w)) same (at f (f + 0) (make z) (omega arith) h.0)
  list_to make (z ∷ ys) f h (suc k) y e = at (suc f + k) (f + suc k) (make y) (omega arith) (list_to make ys (suc f) h.1 k y e)

  pub list_from : (make : ℕ → PartInput) (ys : List ℕ) (f : ℕ) → ((k y : ℕ) → slice_get ys k ≡ Some y → HasBit (f + k) (make y)) → HasFrom f (map make ys)
  list_from make [] f h = tt
  list_from make (z ∷ ys) f h = (
    at (f + 0) f (make z) (omega arith) (h 0 z refl),
    list_from make ys (suc f) (λ k y e. at (f + suc k) (suc f + k) (make y) (omega arith) (h (suc k) y e)),
  )

  -- the bits of a word
  module _ (make : ℕ → PartInput) (w n : ℕ) (is : (b : ℕ) → bit_of x (make b) ≡ bit_at b w) where
    number_bit : (f k : ℕ) → k < n → (bit_at k (input_number v f n) == 1) ≡ v (suc (f + k))
    number_bit f k l =
        ap (λ z. bit_at k z == 1) (sym (bits_are v f n)) ∙ bit_is v f n k l ∙ ap v (let e : f + k + 1 ≡ suc (f + k) = omega arith in e)

    made : (k : ℕ) → (bit_of x (make (0 + k)) == 1) ≡ (bit_at k w == 1)
    made k = ap (λ z. bit_of x (make z) == 1) (let e : 0 + k ≡ k = omega arith in e) ∙ ap (λ z. z == 1) (is k)

    pub word_to : (f : ℕ) → w < 2 ^ n → HasFrom f (map make (from_to 0 n)) → w ≡ input_number v f n
    word_to f l h =
        same_bits n w (input_number v f n) l (number_few v f n)
        (λ k m. sym (made k) ∙ sym (row_to make 0 n f h k m) ∙ sym (number_bit f k m))

    pub word_from : (f : ℕ) → w ≡ input_number v f n → HasFrom f (map make (from_to 0 n))
    word_from f e =
        row_from make 0 n f (λ k l. sym (number_bit f k l) ∙ ap (λ z. bit_at k z == 1) (sym e) ∙ sym (made k))

  -- rows of as many bits
  module _ {X : Type 0} (row : X → List PartInput) (m : ℕ) (long : (y : X) → length (row y) ≡ m) where
    more : (a k : ℕ) → a + m + m * k ≡ a + m * suc k
    more a k = grind arith

    pub rows_long : (xs : List X) → length (flat_map row xs) ≡ m * length xs
    rows_long [] = let e : 0 ≡ m * 0 = omega arith in e
    rows_long (y ∷ xs) =
        length_append (row y) (flat_map row xs) ∙ ap (λ z. z + length (flat_map row xs)) (long y) ∙ ap (λ z. m + z) (rows_long xs)
        ∙ (let e = more 0 (length xs) in let f : m + m * length xs ≡ m * suc (length xs) = omega arith in f)

    pub rows_to : (xs : List X) (f : ℕ) → HasFrom f (flat_map row xs) → (k : ℕ) (y : X) → slice_get xs k ≡ Some y → HasFrom (f + m * k) (row y)
    rows_to [] f h k y e = absurd (cc)
    rows_to (z ∷ xs) f h zero y e =
        subst (λ (w : X). HasFrom (f + m * 0) (row w)) (some e) (from_at f (f + m * 0) (row z) (omega arith) (split (row z) (flat_map row xs) f h).0)
      where
        some : {a b : X} → Some a ≡ Some b → a ≡ b
        some h = (cc)
    rows_to (z ∷ xs) f h (suc k) y e =
        from_at (f + m + m * k) (f + m * suc k) (row y) (more f k)
        (rows_to xs (f + m) (from_at (f + length (row z)) (f + m) (flat_map row xs) (ap (λ n. f + n) (long z)) (split (row z) (flat_map row xs) f h).1) k y e)

    pub rows_from : (xs : List X) (f : ℕ) → ((k : ℕ) (y : X) → slice_get xs k ≡ Some y → HasFrom (f + m * k) (row y)) → HasFrom f (flat_map row xs)
    rows_from [] f h = tt
    rows_from (z ∷ xs) f h =
        joined (row z) (flat_map row xs) f (from_at (f + m * 0) f (row z) (omega arith) (h 0 z refl))
        (from_at (f + m) (f + length (row z)) (flat_map row xs) (ap (λ n. f + n) (sym (long z)))
        (rows_from xs (f + m) (λ k y e. from_at (f + m * suc k) (f + m + m * k) (row y) (sym (more f k)) (h (suc k) y e))))
