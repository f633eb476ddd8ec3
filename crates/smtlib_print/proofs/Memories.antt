-- Loads and stores, byte by byte. A solver's memory is one of addresses below 2^32 alone.
use Rattle.std.proofs.Common.{◌≡◌, ℕ, zero, suc, ◌+◌, ◌-◌, ◌*◌, ◌/◌, ◌%◌, ◌^◌, ◌<◌, ◌≤◌, refl, ap, add_comm, sym, ◌∙◌, arith, true, false, Bool, List, [], ◌∷◌, ◌++◌, Option, Some, map, inl, inr}
use Rattle.std.specs.Prelude.{◌==◌, ◌||◌, codes, nat_eq, nat_lt, nat_le, if◌then◌else◌}
use Rattle.std.specs.List.{list_any}
use Rattle.std.proofs.lemmas.Bool.{cases_lt, cases_eq}
use Rattle.std.proofs.lemmas.Bool.Decides.{nat_tests}
use Rattle.word_spec.specs.Words as words
use Rattle.word_spec.specs.Memory.{Memory, Endian, Little, Big, little, number, load, place, byte_of}
use Rattle.word_spec.specs.RowFiles.{from_to}
use Rattle.word_spec.specs.Texts.{hex_digits}
use Rattle.term_spec.specs.Terms.{is_taken_at, take_bytes}
use Rattle.bilv_spec.specs.SmtLib.{SmtValue, WordValue, ArrayValue, atom_value, term_value, store_byte}
use Rattle.machine_spec.proofs.Spelling.{decimal_back}
use Rattle.smtlib_print.specs.Commands.{term_name, behind, selected, loading, storing, taking, extract}
use Rattle.smtlib_print.proofs.Constants.{eight, hex_constant, same_digits}

-- the memories are the same below 2^32
abbrev pub SameBelow : (f g : Memory) → Type 0
SameBelow f g = (x : ℕ) → x < 2 ^ 32 → f x ≡ g x

word_is : (m n u v : ℕ) → m ≡ n → u ≡ v → Some (WordValue m u) ≡ Some (WordValue n v)
word_is m n u v h k = ap (λ z. Some (WordValue z u)) h ∙ ap (λ z. Some (WordValue n z)) k

little_more : (at : ℕ → ℕ) (g : Memory) (i : ℕ) → words.concat (8 * suc i) (g (at (suc i))) (little (suc i) (λ j. g (at j)))
    ≡ little (suc (suc i)) (λ j. g (at j))
little_more at g i = ap (λ p. g (at (suc i)) * p + little (suc i) (λ j. g (at j))) (eight (suc i))
    ∙ add_comm (g (at (suc i)) * 256 ^ suc i) (little (suc i) (λ j. g (at j)))

-- a byte's place is one of them
place_below : (e : Endian) (n i : ℕ) → i < n → place e n i < n
place_below Little n i h = h
place_below Big n i h = omega arith

-- the byte at a place
byte_is : (e : Endian) (n v i : ℕ) → words.bits (8 * place e n i + 7) (8 * place e n i) v ≡ byte_of e n v i
byte_is e n v i =
    let p = place e n i in
    let w : 8 * p + 7 + 1 - 8 * p ≡ 8 = omega arith in
    ap (λ z. v / z % 2 ^ (8 * p + 7 + 1 - 8 * p)) (eight p) ∙ ap (λ z. v / 256 ^ p % 2 ^ z) w

module _ (symbols : List ℕ → Option SmtValue) (n v y : ℕ) (is_value : atom_value symbols (term_name v) ≡ Some (WordValue (8 * n) y)) (few : n < 2 ^ 32) where
  byte_value : (e : Endian) (i : ℕ) → i < n → term_value symbols (extract (8 * place e n i + 7) (8 * place e n i) v) ≡ Some (WordValue 8 (byte_of e n y i))
  byte_value e i h =
      let b = place_below e n i h in
      let p : 8 * place e n i + 7 < 2 ^ 64 = omega (arith, b) in
      let q : 8 * place e n i < 2 ^ 64 = omega (arith, b) in
      let l : nat_le (8 * place e n i) (8 * place e n i + 7) ≡ true = grind (arith, nat_tests) in
      let r : nat_lt (8 * place e n i + 7) (8 * n) ≡ true = grind (arith, nat_tests, b) in
      rw (is_value, decimal_back (8 * place e n i + 7) p, decimal_back (8 * place e n i) q, l, r) (word_is _ _ _ _ (omega arith) (byte_is e n y i))

-- one byte more is stored
not_below : (d i : ℕ) → (d ≡ i → ⊥) → nat_lt d i ≡ nat_lt d (suc i)
not_below d i n = elim (cases_lt d i) [
  | inl k ↦ (let a : nat_lt d i ≡ true = grind (arith, nat_tests) in let b : nat_lt d (suc i) ≡ true = grind (arith, nat_tests) in a ∙ sym b)
  | inr k ↦ (let a : nat_lt d i ≡ false = grind (arith, nat_tests) in let b : nat_lt d (suc i) ≡ false = grind (arith, nat_tests) in a ∙ sym b)
]

distance : (x i z : ℕ) → x < 2 ^ 32 → i < 2 ^ 32 → z ≡ words.add 32 x i → words.sub 32 z x ≡ i
distance x i z p q e = omega arith

address_of : (x i z : ℕ) → x < 2 ^ 32 → z < 2 ^ 32 → words.sub 32 z x ≡ i → z ≡ words.add 32 x i
address_of x i z p q e = omega arith

store_step : (h g : Memory) (at : ℕ → ℕ) (x i z : ℕ) → x < 2 ^ 32 → i < 2 ^ 32 → z < 2 ^ 32 →
    h z ≡ (if nat_lt (words.sub 32 z x) i then at (words.sub 32 z x) else g z) →
    store_byte h (words.add 32 x i) (at i) z ≡ (if nat_lt (words.sub 32 z x) (suc i) then at (words.sub 32 z x) else g z)
store_step h g at x i z p q r e = elim (cases_eq z (words.add 32 x i)) [
  | inl k ↦ (
      let d = distance x i z p q k in
      let a : (z == words.add 32 x i) ≡ true = grind (arith, nat_tests) in
      let b : nat_lt (words.sub 32 z x) (suc i) ≡ true = grind (arith, nat_tests, d) in
      rw (a, b) (ap at (sym d)))
  | inr k ↦ (
      let a : (z == words.add 32 x i) ≡ false = grind (arith, nat_tests) in
      let b = not_below (words.sub 32 z x) i (λ d. k (address_of x i z p r d)) in
      rw a (e ∙ ap (λ t. if t then at (words.sub 32 z x) else g z) b))
]

-- one byte more is taken
or_assoc : (a b c : Bool) → (a || (b || c)) ≡ ((a || b) || c)
or_assoc true b c = refl
or_assoc false b c = refl

or_false : (a : Bool) → (a || false) ≡ a
or_false true = refl
or_false false = refl

one_later : (p : ℕ → Bool) (first n : ℕ) → list_any p (from_to first (suc n)) ≡ (list_any p (from_to first n) || p (first + n))
one_later p first zero = let z : first ≡ first + 0 = omega arith in or_false (p first) ∙ ap p z
one_later p first (suc n) =
    let z : first + 1 + n ≡ first + suc n = omega arith in
    ap (λ b. p first || b) (one_later p (first + 1) n ∙ ap (λ k. list_any p (from_to (first + 1) n) || p k) z)
    ∙ or_assoc (p first) (list_any p (from_to (first + 1) n)) (p (first + suc n))

any_map : (z : ℕ) (to : ℕ → ℕ) (ns : List ℕ) → list_any (nat_eq z) (map to ns) ≡ list_any (λ i. nat_eq z (to i)) ns
any_map z to [] = refl
any_map z to (n ∷ ns) = ap (λ b. nat_eq z (to n) || b) (any_map z to ns)

taken_more : (x i z : ℕ) → is_taken_at (suc i) x z ≡ (is_taken_at i x z || nat_eq z (words.add 32 x i))
taken_more x i z =
    any_map z (words.add 32 x) (from_to 0 (suc i)) ∙ one_later (λ j. nat_eq z (words.add 32 x j)) 0 i
    ∙ ap (λ b. b || nat_eq z (words.add 32 x (0 + i))) (sym (any_map z (words.add 32 x) (from_to 0 i)))
    ∙ (let e : 0 + i ≡ i = omega arith in ap (λ j. is_taken_at i x z || nat_eq z (words.add 32 x j)) e)

picked : (here before : Bool) (new old u w : ℕ) → (here ≡ true → new ≡ u) → old ≡ (if before then u else w) →
    (if here then new else old) ≡ (if before || here then u else w)
picked true true new old u w f e = f refl
picked true false new old u w f e = f refl
picked false true new old u w f e = e
picked false false new old u w f e = e

take_step : (k g h : Memory) (x i z : ℕ) → k z ≡ take_bytes i x g h z →
    store_byte k (words.add 32 x i) (h (words.add 32 x i)) z ≡ take_bytes (suc i) x g h z
take_step k g h x i z e =
    let at = words.add 32 x i in
    let same : (z == at) ≡ true → h at ≡ h z = λ t. (let s : at ≡ z = grind (arith, nat_tests) in ap h s) in
    picked (z == at) (is_taken_at i x z) (h at) (k z) (h z) (g z) same e ∙ ap (λ b. if b then h z else g z) (sym (taken_more x i z))

none_stored : (d u w : ℕ) → w ≡ (if nat_lt d 0 then u else w)
none_stored d u w = let a : nat_lt d 0 ≡ false = grind (arith, nat_tests) in rw a refl

module _ (symbols : List ℕ → Option SmtValue) (a x : ℕ) (is_address : atom_value symbols (term_name a) ≡ Some (WordValue 32 x)) (small : x < 2 ^ 32) where
  behind_value : (i : ℕ) → i < 2 ^ 32 → term_value symbols (behind a i) ≡ Some (WordValue 32 (words.add 32 x i))
  behind_value zero h = let z : x ≡ (x + 0) % 2 ^ 32 = omega arith in is_address ∙ ap (λ z. Some (WordValue 32 z)) z
  behind_value (suc i) h = rw (is_address, hex_constant symbols 8 (suc i) (omega arith) (omega arith)) refl

  -- at any distance, which counts by its lowest 32 bits
  behind_any : (i : ℕ) → term_value symbols (behind a i) ≡ Some (WordValue 32 (words.add 32 x i))
  behind_any zero = behind_value zero (omega arith)
  behind_any (suc i) =
      let r = suc i % 2 ^ 32 in
      let d : hex_digits 8 (suc i) ≡ hex_digits 8 r = same_digits 8 (suc i) r (suc i / 2 ^ 32) (omega arith) in
      let e : (x + r) % 2 ^ 32 ≡ (x + suc i) % 2 ^ 32 = omega arith in
      let c = ap (λ l. atom_value symbols (codes "#x" ++ l)) d ∙ hex_constant symbols 8 r (omega arith) (omega arith) in
      rw (is_address, c) (ap (λ z. Some (WordValue 32 z)) e)

  module _ (m : ℕ) (f g : Memory) (is_memory : atom_value symbols (term_name m) ≡ Some (ArrayValue f)) (same : SameBelow f g) where
    selected_value : (i : ℕ) → i < 2 ^ 32 → term_value symbols (selected m a i) ≡ Some (WordValue 8 (g (words.add 32 x i)))
    selected_value i h =
        rw (is_memory, behind_value i h) (ap (λ z. Some (WordValue 8 z)) (same (words.add 32 x i) (omega arith)))

    first_byte : (e : Endian) (h : ℕ → ℕ) → h 0 ≡ number e 1 h
    first_byte Little h = omega arith
    first_byte Big h = omega arith

    pub loading_value : (e : Endian) (i : ℕ) → i < 2 ^ 32 → term_value symbols (loading e m a i) ≡ Some (WordValue (8 * suc i) (load e (suc i) g x))
    loading_value e zero h = selected_value 0 h ∙ ap (λ z. Some (WordValue 8 z)) (first_byte e (λ i. g (words.add 32 x i)))
    loading_value Little (suc i) h =
        rw (selected_value (suc i) h, loading_value Little i (omega arith))
        (word_is _ _ _ _ (omega arith) (little_more (words.add 32 x) g i))
    loading_value Big (suc i) h =
        rw (selected_value (suc i) h, loading_value Big i (omega arith)) (word_is _ _ _ _ (omega arith) refl)

    -- the memory with some bytes stored
    abbrev stored_to : (e : Endian) (n y i : ℕ) → Memory
    stored_to e n y i z = if nat_lt (words.sub 32 z x) i then byte_of e n y (words.sub 32 z x) else g z

    module _ (e : Endian) (n v y : ℕ) (is_value : atom_value symbols (term_name v) ≡ Some (WordValue (8 * n) y)) (few : n < 2 ^ 32) where
      pub storing_value : (i : ℕ) → i ≤ n → (h : Memory) × (term_value symbols (storing e n m a v i) ≡ Some (ArrayValue h)) × SameBelow h (stored_to e n y i)
      storing_value zero l = (f, is_memory, λ z k. same z k ∙ none_stored (words.sub 32 z x) (byte_of e n y (words.sub 32 z x)) (g z))
      storing_value (suc i) l =
          let before = storing_value i (omega arith) in (
            store_byte before.0 (words.add 32 x i) (byte_of e n y i),
            rw (before.1, behind_value i (omega arith), byte_value symbols n v y is_value few e i (omega arith)) refl,
            λ z k. store_step before.0 g (byte_of e n y) x i z small (omega arith) k (before.2 z k),
          )

    -- the byte of another memory
    module _ (from : List ℕ) (h : Memory) (is_from : atom_value symbols from ≡ Some (ArrayValue h)) where
      pub taking_value : (i : ℕ) → (k : Memory) × (term_value symbols (taking from m a i) ≡ Some (ArrayValue k)) × SameBelow k (take_bytes i x g h)
      taking_value zero = (f, is_memory, same)
      taking_value (suc i) =
          let before = taking_value i in (
            store_byte before.0 (words.add 32 x i) (h (words.add 32 x i)),
            rw (before.1, behind_any i, is_from) refl,
            λ z k. take_step before.0 g h x i z (before.2 z k),
          )
