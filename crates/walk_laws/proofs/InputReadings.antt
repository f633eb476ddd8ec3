-- The readings of valuations, and the inputs of readings.
use Rattle.std.proofs.Common.{◌≡◌, refl, ap, sym, ◌∙◌, arith, ℕ, ◌+◌, ◌*◌, ◌%◌, ◌^◌, ◌<◌, ◌≤◌, Some, Bool, true, length}
use Rattle.std.specs.Prelude.{◌==◌, nat_lt, slice_get, if◌then◌else◌}
use Rattle.std.proofs.lemmas.Bool.Decides.{nat_tests}
use Rattle.std.proofs.lemmas.Bool.{lt-ltb}
use Rattle.std.proofs.lemmas.Option.{slice_get_within}
use Rattle.word_spec.specs.Words.{bit_at}
use Rattle.bilv_spec.specs.Run.{Program}
use Rattle.bilv_spec.specs.Questions.{Reading, IsReading}
use Rattle.bilv_spec.specs.Evidence.{Input, OfRegister, OfFlag, OfChoice, OfByte, Addresses, input_value, ComesFrom, AgreeOnFirst}
use Rattle.term_spec.specs.Terms.{TermReading, InRange}
use Rattle.walk_spec.specs.Unrolled.{UnrolledProgram, point_at}
use Rattle.walk_spec.specs.Unrolling.{IsUnrolling}
use Rattle.term_spec.specs.WalkQuestions.{term_reading}
use Rattle.term_spec.specs.Cells.{Cells, AreFormed, read_address}
use Rattle.term_spec.specs.ClauseForm.{drawn_below, first_flag, first_choice, first_byte, input_list, place_in, bits_from, reading}
use Rattle.walk_laws.proofs.CellValues.{Agree, address_same, word_fits}
use Rattle.walk_laws.proofs.BaseBytes.{filled, filled_in_range, gives}
use Rattle.walk_laws.proofs.InputBits.{same_bits, one_bit_same, bit_is, flag_is}
use Rattle.walk_laws.proofs.InputPlaces.{IsInputOf, place, place_found, spot, spot_is, drawn_before, stands_at, in_list}
use Rattle.walk_laws.proofs.InputsWithin.{reading_in_range}

-- a base read is below a number
abbrev pub IsBelow : ℕ → Input → Type 0
IsBelow k (OfByte j b) = j < k
IsBelow k x = Unit {0}

pub term_reading_in_range : (u : UnrolledProgram) (r : Reading) → IsReading r → InRange (term_reading u r)
term_reading_in_range u r is = record {
  regs = λ p. is.state.regs;
  flags = λ p. is.state.flags;
  mem = λ p. is.state.mem;
  choice = λ i. is.choice (point_at u i).point;
  base = λ p j. omega arith;
}

module _ (p : Program) (k : ℕ) (u : UnrolledProgram) (un : IsUnrolling p k u) (c : Cells) (formed : AreFormed u c) where
  -- the bit that a reading of terms has of an input
  abbrev pub bit_of : TermReading → Input → Bool
  bit_of y (OfRegister n b) = bit_at b (y.regs 0 n) == 1
  bit_of y (OfFlag f) = y.flags 0 f == 1
  bit_of y (OfChoice x b) = bit_at b (y.choice (spot p k u un c x)) == 1
  bit_of y (OfByte j b) = bit_at b (y.base 0 j) == 1

  -- of a valuation's reading it is the variable's
  pub valuation_bit : (v : ℕ → Bool) (x : Input) → IsInputOf p k u un c x → bit_of (reading u c v) x ≡ v (place p k u un c x + 1)
  valuation_bit v (OfRegister n b) (h, l) =
      ap (λ z. bit_at b (if z then bits_from v (32 * place_in u.registers n) 32 else 0) == 1) h ∙ bit_is v (32 * place_in u.registers n) 32 b l
  valuation_bit v (OfFlag f) h = ap (λ z. (if z then bits_from v (first_flag u + f) 1 else 0) == 1) h ∙ flag_is v (first_flag u + f)
  valuation_bit v (OfChoice x b) (i, d, e, l) =
      let s = ap (spot p k u un c) (sym e) ∙ spot_is p k u un c i d.0 in
      let drawn : (point_at u (spot p k u un c x)).draws ≡ true = ap (λ z. (point_at u z).draws) s ∙ d.1 in
      ap (λ z. bit_at b (if z then bits_from v (first_choice u + 2 * drawn_below u (spot p k u un c x)) 2 else 0) == 1) drawn
      ∙ bit_is v (first_choice u + 2 * drawn_below u (spot p k u un c x)) 2 b l
  valuation_bit v (OfByte j b) (h, l) =
      let t : nat_lt j (length c.addresses) ≡ true = lt-ltb j (length c.addresses) h in
      ap (λ z. bit_at b (if z then bits_from v (first_byte u + 8 * j) 8 else 0) == 1) t ∙ bit_is v (first_byte u + 8 * j) 8 b l

  -- readings with the same bits have the same inputs
  pub from_bits : (m : ℕ) → m ≤ length c.addresses → (y z : TermReading) → InRange y → InRange z →
      ((x : Input) → IsInputOf p k u un c x → IsBelow m x → bit_of y x ≡ bit_of z x) → Agree u m y z
  from_bits m few y z iy iz f = record {
    regs = λ n h. same_bits 32 (y.regs 0 n) (z.regs 0 n) (iy.regs 0 n) (iz.regs 0 n) (λ i l. f (OfRegister n i) (h, l) tt);
    flags = λ n h. one_bit_same (y.flags 0 n) (z.flags 0 n) (iy.flags 0 n) (iz.flags 0 n) (f (OfFlag n) h tt);
    choice = λ i d. same_bits 2 (y.choice i) (z.choice i) (iy.choice i) (iz.choice i) (λ b l.
        (let s = spot_is p k u un c i d.0 in
        ap (λ q. bit_at b (y.choice q) == 1) (sym s) ∙ f (OfChoice (point_at u i).point b) (i, d, refl, l) tt ∙ ap (λ q. bit_at b (z.choice q) == 1) s));
    base = λ j h. same_bits 8 (y.base 0 j) (z.base 0 j) (iy.base 0 j) (iz.base 0 j)
        (λ b l. f (OfByte j b) ((let a : j < length c.addresses = omega arith in a), l) h);
  }

  -- and back
  pub agree_bits : (y z : TermReading) → Agree u (length c.addresses) y z → (x : Input) → IsInputOf p k u un c x → bit_of y x ≡ bit_of z x
  agree_bits y z a (OfRegister n b) h = ap (λ q. bit_at b q == 1) (a.regs n h.0)
  agree_bits y z a (OfFlag f) h = ap (λ q. q == 1) (a.flags f h)
  agree_bits y z a (OfChoice x b) (i, d, e, l) =
      let s = ap (spot p k u un c) (sym e) ∙ spot_is p k u un c i d.0 in
      ap (λ q. bit_at b (y.choice q) == 1) s ∙ ap (λ q. bit_at b q == 1) (a.choice i d) ∙ ap (λ q. bit_at b (z.choice q) == 1) (sym s)
  agree_bits y z a (OfByte j b) h = ap (λ q. bit_at b q == 1) (a.base j h.0)

  -- the reading of terms that a reading gives, with the bytes of its memory
  abbrev pub of : Reading → TermReading
  of r = filled u c formed (term_reading u r)

  pub of_in_range : (r : Reading) → IsReading r → InRange (of r)
  of_in_range r is = filled_in_range u c formed (term_reading u r) (term_reading_in_range u r is)

  -- where its base reads read
  abbrev pub address : Addresses
  address r j = read_address c (of r) j % 2 ^ 32

  small_mod : (a : ℕ) → a < 2 ^ 32 → a % 2 ^ 32 ≡ a
  small_mod a l = omega arith

  pub address_is : (r : Reading) → IsReading r → (j : ℕ) → j < length c.addresses → address r j ≡ read_address c (of r) j
  address_is r is j l = small_mod (read_address c (of r) j) (word_fits u c formed (of r) (of_in_range r is) 32 _ (formed.addresses j l))

  -- the value of an input is its bit
  pub input_is : (r : Reading) → IsReading r → (x : Input) → IsInputOf p k u un c x → input_value address r x ≡ bit_of (of r) x
  input_is r is (OfRegister n b) h = refl
  input_is r is (OfFlag f) h = refl
  input_is r is (OfChoice x b) (i, d, e, l) =
      let s = ap (spot p k u un c) (sym e) ∙ spot_is p k u un c i d.0 in
      ap (λ z. bit_at b (r.choice z) == 1) (sym e ∙ ap (λ z. (point_at u z).point) (sym s))
  input_is r is (OfByte j b) h = ap (λ z. bit_at b z == 1) (ap r.state.mem (address_is r is j h.0) ∙ sym (gives u c formed (term_reading u r) j h.0))

  -- a valuation comes from a reading exactly where it has its inputs
  pub comes_to : (v : ℕ → Bool) (r : Reading) → IsReading r → ComesFrom (input_list u c) address v r → Agree u (length c.addresses) (reading u c v) (of r)
  comes_to v r is f =
      from_bits (length c.addresses) (omega arith) (reading u c v) (of r) (reading_in_range u c v) (of_in_range r is)
      (λ x h b. valuation_bit v x h ∙ f (place p k u un c x) x (stands_at p k u un c x h) ∙ input_is r is x h)

  pub comes_from : (v : ℕ → Bool) (r : Reading) → IsReading r → Agree u (length c.addresses) (reading u c v) (of r) → ComesFrom (input_list u c) address v r
  comes_from v r is a i x e =
      let q = in_list p k u un c i x e in
      ap (λ z. v (z + 1)) (sym q.1) ∙ sym (valuation_bit v x q.0) ∙ agree_bits (reading u c v) (of r) a x q.0 ∙ sym (input_is r is x q.0)

  -- what stands before the bits of a base read
  before : (m : ℕ) (x : Input) → IsInputOf p k u un c x → IsBelow m x → place p k u un c x < first_byte u + 8 * m
  before m (OfRegister n b) h l = let q = (place_found u.registers n h.0).0 in let s = h.1 in omega arith
  before m (OfFlag f) h l = let t : f < u.flags = below f u.flags h in omega arith
    where
      below : (f n : ℕ) → nat_lt f n ≡ true → f < n
      below f n e = grind (arith, nat_tests)
  before m (OfChoice x b) (i, d, e, s) l =
      let q = drawn_before p k u un c i d in
      let t = ap (spot p k u un c) (sym e) ∙ spot_is p k u un c i d.0 in
      let w = ap (drawn_below u) t in omega arith
  before m (OfByte j b) h l = let s = h.1 in omega arith

  first_bits : (n : ℕ) (r t : Reading) → IsReading r → IsReading t → AgreeOnFirst n (input_list u c) address r t → (x : Input) → IsInputOf p k u un c x →
      place p k u un c x < n →
      bit_of (of r) x ≡ bit_of (of t) x
  first_bits n r t ir it f x h l = sym (input_is r ir x h) ∙ f (place p k u un c x) x l (stands_at p k u un c x h) ∙ input_is t it x h

  -- the address of a base read hangs on the inputs before it
  pub earlier : (r t : Reading) (n read i : ℕ) → slice_get (input_list u c) n ≡ Some (OfByte read i) → IsReading r → IsReading t →
      AgreeOnFirst n (input_list u c) address r t →
      address r read ≡ address t read
  earlier r t n read i e ir it f =
      let q = in_list p k u un c n (OfByte read i) e in
      let l : read < length c.addresses = q.0.0 in
      let at : first_byte u + 8 * read + i ≡ n = q.1 in
      let a = from_bits read (omega arith) (of r) (of t) (of_in_range r ir) (of_in_range t it)
      (λ x h b. first_bits n r t ir it f x h (let s = before read x h b in omega arith)) in
      ap (λ z. z % 2 ^ 32) (address_same u c formed (of r) (of t) read l a)

  -- all inputs decide all
  pub decided : (r t : Reading) → IsReading r → IsReading t → AgreeOnFirst (length (input_list u c)) (input_list u c) address r t →
      Agree u (length c.addresses) (of r) (of t)
  decided r t ir it f =
      from_bits (length c.addresses) (omega arith) (of r) (of t) (of_in_range r ir) (of_in_range t it)
      (λ x h b. first_bits (length (input_list u c)) r t ir it f x h (slice_get_within (input_list u c) (place p k u un c x) x (stands_at p k u un c x h)))
