-- The numbers of inputs, and the readings of valuations that have the same inputs.
use Rattle.std.proofs.Common.{◌≡◌, ℕ, zero, suc, ◌+◌, ◌-◌, ◌*◌, ◌^◌, ◌<◌, ◌≤◌, Bool, true, false, List, [], ◌∷◌, length, refl, ap, sym, ◌∙◌, arith, inl, inr}
use Rattle.std.specs.Prelude.{◌==◌, ◌||◌, nat_lt, nat_eq, slice_index_or, if◌then◌else◌}
use Rattle.std.specs.List.{list_any}
use Rattle.std.proofs.Math.Path.{fun_ext}
use Rattle.std.proofs.lemmas.Bool.{cases_lt}
use Rattle.std.proofs.lemmas.Bool.Decides.{nat_tests}
use Rattle.word_spec.specs.Words.{bit}
use Rattle.word_spec.specs.RowFiles.{from_to}
use Rattle.clause_spec.specs.Clauses.{AgreeUpTo}
use Rattle.bilv_spec.proofs.Pigeons.{truth}
use Rattle.walk_spec.specs.Unrolled.{UnrolledPoint, UnrolledProgram, no_point, point_at, is_register_of, is_flag_of}
use Rattle.term_spec.specs.Cells.{Cells}
use Rattle.term_spec.specs.ClauseForm.{bits_from, drawn_below, first_flag, first_choice, first_byte, inputs, place_in, reading}
use Rattle.walk_laws.proofs.InputPlaces.{place_found}
use Rattle.word_gates.specs.Numbers.{input_number}
use Rattle.word_gates.proofs.Constants.{input_more}

-- the number of inputs is that of a valuation
pub bits_are : (v : ℕ → Bool) (i n : ℕ) → bits_from v i n ≡ input_number v i n
bits_are v i zero = refl
bits_are v i (suc n) =
    let e : suc n ≡ n + 1 = omega arith in
    let f : i + n + 1 ≡ suc (i + n) = omega arith in
    ap (λ z. z + bit (v (i + n + 1)) * 2 ^ n) (bits_are v i n) ∙ ap
    (λ z. input_number v i n + bit (v z) * 2 ^ n) f ∙ turn (input_number v i n) (bit (v (suc (i + n)))) (2 ^ n)
    ∙ sym (ap (input_number v i) e ∙ input_more v i n)
  where
    turn : (a b c : ℕ) → a + b * c ≡ a + c * b
    turn a b c = grind arith

-- ---- numbers in a range

pub in_range : (f k n : ℕ) → list_any (nat_eq n) (from_to f k) ≡ true → (f ≤ n) × (n < f + k)
in_range f zero n h = absurd (cc)
in_range f (suc k) n h = elim (truth (nat_eq n f)) [
  | inl t ↦ (let e : n ≡ f = grind (arith, nat_tests) in (omega arith, omega arith))
  | inr g ↦ (let q = in_range (f + 1) k n (sym (ap (λ z. z || list_any (nat_eq n) (from_to (f + 1) k)) g) ∙ h) in let a = q.0 in let b = q.1
      in (omega arith, omega arith))
]

pub any_in_range : (f k n : ℕ) → f ≤ n → n < f + k → list_any (nat_eq n) (from_to f k) ≡ true
any_in_range f zero n l m = absurd (omega arith)
any_in_range f (suc k) n l m = elim (truth (nat_eq n f)) [
  | inl t ↦ ap (λ z. z || list_any (nat_eq n) (from_to (f + 1) k)) t
  | inr g ↦ (let e : (n ≡ f → ⊥) = grind (arith, nat_tests) in
      ap (λ z. z || list_any (nat_eq n) (from_to (f + 1) k)) g ∙ any_in_range (f + 1) k n (omega arith) (omega arith))
]

pub place_in_range : (f k n : ℕ) → f ≤ n → n < f + k → place_in (from_to f k) n ≡ n - f
place_in_range f zero n l m = absurd (omega arith)
place_in_range f (suc k) n l m = elim (truth (f == n)) [
  | inl t ↦ (let e : f ≡ n = grind (arith, nat_tests) in ap (λ z. if z then 0 else place_in (from_to (f + 1) k) n + 1) t ∙ (let g : 0
      ≡ n - f = omega arith in g))
  | inr g ↦ (let e : (f ≡ n → ⊥) = grind (arith, nat_tests) in
      let q = place_in_range (f + 1) k n (omega arith) (omega arith) in
      ap (λ z. if z then 0 else place_in (from_to (f + 1) k) n + 1) g ∙ (let r : place_in (from_to (f + 1) k) n + 1 ≡ n - f = omega arith in r))
]

-- ---- choices

pub drawn_more : (u : UnrolledProgram) (i k : ℕ) → drawn_below u i ≤ drawn_below u (k + i)
drawn_more u i zero = let e : 0 + i ≡ i = omega arith in let f = ap (drawn_below u) e in omega arith
drawn_more u i (suc k) =
    let e : suc k + i ≡ suc (k + i) = omega arith in let f = ap (drawn_below u) e in let q = drawn_more u i k in omega arith

-- a place that draws comes before the next
pub drawn_less : (u : UnrolledProgram) (i n : ℕ) → (point_at u i).draws ≡ true → i < n → drawn_below u i + 1 ≤ drawn_below u n
drawn_less u i n d l =
    let q = drawn_more u (suc i) (n - suc i) in
    let e : (n - suc i) + suc i ≡ n = omega arith in
    let f = ap (drawn_below u) e in
    let g : drawn_below u (suc i) ≡ drawn_below u i + 1 = ap (λ z. drawn_below u i + bit z) d in
    omega arith

behind : (qs : List UnrolledPoint) (i : ℕ) → length qs ≤ i → slice_index_or qs i no_point ≡ no_point
behind [] i l = refl
behind (q ∷ qs) zero l = absurd (omega arith)
behind (q ∷ qs) (suc i) l = behind qs i (omega arith)

-- ---- two valuations with the same inputs

bits_same : (m : ℕ) (v w : ℕ → Bool) → AgreeUpTo m v w → (i n : ℕ) → i + n ≤ m → bits_from v i n ≡ bits_from w i n
bits_same m v w a i zero l = refl
bits_same m v w a i (suc n) l =
    ap (λ z. z + bit (v (i + n + 1)) * 2 ^ n) (bits_same m v w a i n (omega arith)) ∙ ap
    (λ z. bits_from w i n + bit z * 2 ^ n) (a (i + n + 1) (omega arith) (omega arith))

module _ (u : UnrolledProgram) (c : Cells) (v w : ℕ → Bool) (a : AgreeUpTo (inputs u c) v w) where
  abbrev m : ℕ
  m = inputs u c

  regs : (n : ℕ) (b : Bool) → is_register_of u n ≡ b →
      (if b then bits_from v (32 * place_in u.registers n) 32 else 0) ≡ (if b then bits_from w (32 * place_in u.registers n) 32 else 0)
  regs n true h = bits_same m v w a (32 * place_in u.registers n) 32 (let q = (place_found u.registers n h).0 in omega arith)
  regs n false h = refl

  flags : (f : ℕ) (b : Bool) → is_flag_of u f ≡ b → (if b then bits_from v (first_flag u + f) 1 else 0) ≡ (if b then bits_from w (first_flag u + f) 1 else 0)
  flags f true h = bits_same m v w a (first_flag u + f) 1 (let l : f < u.flags = grind (arith, nat_tests) in omega arith)
  flags f false h = refl

  choice : (i : ℕ) (b : Bool) → (point_at u i).draws ≡ b →
      (if b then bits_from v (first_choice u + 2 * drawn_below u i) 2 else 0) ≡ (if b then bits_from w (first_choice u + 2 * drawn_below u i) 2 else 0)
  choice i true h = elim (cases_lt i (length u.points)) [
    | inl l ↦ bits_same m v w a (first_choice u + 2 * drawn_below u i) 2 (let q = drawn_less u i (length u.points) h l in omega arith)
    | inr l ↦ absurd (let e : false ≡ true = sym (ap (λ (q : UnrolledPoint). q.draws) (behind u.points i l)) ∙ h in cc)
  ]
  choice i false h = refl

  base : (j : ℕ) (b : Bool) → nat_lt j (length c.addresses) ≡ b →
      (if b then bits_from v (first_byte u + 8 * j) 8 else 0) ≡ (if b then bits_from w (first_byte u + 8 * j) 8 else 0)
  base j true h = bits_same m v w a (first_byte u + 8 * j) 8 (let l : j < length c.addresses = grind (arith, nat_tests) in omega arith)
  base j false h = refl

  pub reading_same : reading u c v ≡ reading u c w
  reading_same =
      let rv = reading u c v in let rw' = reading u c w in
      ap (λ z. record { regs = z; flags = rv.flags; mem = rv.mem; choice = rv.choice; base = rv.base }) (fun_ext (λ p.
      fun_ext (λ n. regs n (is_register_of u n) refl)))
      ∙ ap (λ z. record { regs = rw'.regs; flags = z; mem = rv.mem; choice = rv.choice; base = rv.base }) (fun_ext (λ p.
      fun_ext (λ f. flags f (is_flag_of u f) refl)))
      ∙ ap (λ z. record { regs = rw'.regs; flags = rw'.flags; mem = rv.mem; choice = z; base = rv.base }) (fun_ext (λ i. choice i (point_at u i).draws refl))
      ∙ ap (λ z. record { regs = rw'.regs; flags = rw'.flags; mem = rv.mem; choice = rw'.choice; base = z }) (fun_ext (λ p.
      fun_ext (λ j. base j (nat_lt j (length c.addresses)) refl)))
