-- What contract steps are given, by the inputs: which of it has places, and the data that have it.
use Rattle.std.proofs.Common.{◌≡◌, inl, inr, refl, ap, sym, ◌∙◌, subst, arith, ℕ, zero, suc, ◌+◌, ◌%◌, ◌^◌, ◌<◌, ◌≤◌, [], ◌∷◌, ◌++◌, List, Some, Bool, true, false, length}
use Rattle.std.specs.Prelude.{◌==◌, nat_eq, nat_lt, slice_get, slice_index, slice_index_or, if◌then◌else◌}
use Rattle.std.specs.List.{list_any}
use Rattle.std.proofs.lemmas.Bool.{cases_lt}
use Rattle.std.proofs.lemmas.List.{length-append}
use Rattle.start_value.specs.declared.start.Start.{Start}
use Rattle.word_spec.specs.Words.{bit, bit_at}
use Rattle.term_spec.specs.ClauseForm.{bits_from}
use Rattle.walk_laws.proofs.InputBits.{bit_is, one_bit_same}
use Rattle.word_spec.specs.Memory.{memory_of}
use Rattle.clause_spec.specs.Clauses.{valuation}
use Rattle.frame_spec.specs.FrameWalk.{Gift, UnrolledProgram}
use Rattle.term_spec.specs.Terms.{TermReading}
use Rattle.frame_terms.specs.PassiveFrames.{gift_part, IsGiftAt}
use Rattle.frame_terms.specs.FrameCells.{Cells}
use Rattle.term_dag.specs.declared.values.Reading.{Reading}
use Rattle.term_dag.specs.Readings.{part_in}
use Rattle.bit_blast.specs.declared.input_places.InputPlaces.{InputPlaces}
use Rattle.bit_blast.specs.Laid.{AreFramePlaces}
use Rattle.bit_blast.specs.Places.{IsReadingAt}
use Rattle.bit_blast.proofs.FramePlaces.{flag_there, register_there}
use Rattle.bilv_spec.proofs.PointSteps.{in_any}
use Rattle.frame_spec.proofs.Within.{in_range}
use Rattle.frame_terms.proofs.FrameInputs.{found_in}
use Rattle.word_spec.specs.RowFiles.{from_to}
use Rattle.std.proofs.lemmas.Bool.Decides.{nat_tests}
use Rattle.frame_start.specs.Inputs.{byte_by, read_of}
use Rattle.bit_blast.specs.Stored.{AreBytes}
use Rattle.start_value.specs.Starts.{written_of}
use Rattle.frame_start.specs.declared.changed.Changed.{Changed}
use Rattle.frame_start.specs.Changes.{AreChanges, AreGiftsNamed, AreNamed, AreOthers, HasGift, IsListedGift, IsOfGift, changed_flags, changed_registers, flag_among, gift_in, is_given, no_written}
use Rattle.frame_start.proofs.ChangedSets.{given_by, one_gift}
use Rattle.frame_start.proofs.PartInputs.{byte_is, memory_is}

-- what contract steps may change has places among the inputs
pub gifts_named : (u : UnrolledProgram) (heads : Bool) (c : Cells) (p : InputPlaces) → AreFramePlaces u heads c p → AreGiftsNamed u p
gifts_named u heads c p is i g at = record {
  registers = λ n h. (let q = given_by p g.registers n h in
      register_there u heads c p is i n (in_frame n q.low q.high, (g, at, in_any n g.registers q.is_in)));
  flags = λ f l h. flag_there u heads c p is i f
      ((let e : f < u.flags = omega (arith, is.flags) in let t : nat_lt f u.flags ≡ true = grind (arith, nat_tests) in t), (g, at, in_any f g.flags h));
}
  where
    in_frame : (n : ℕ) → p.first_register ≤ n → n < p.first_register + p.registers → list_any (nat_eq n) u.registers ≡ true
    in_frame n l m =
        subst (λ (z : List ℕ). list_any (nat_eq n) z ≡ true) (sym is.registers)
        (found_in (from_to p.first_register p.registers) n (in_range p.first_register p.registers n l m))

-- so where the sets of a point are given
pub named_at : (u : UnrolledProgram) (p : InputPlaces) → AreGiftsNamed u p → (i part : ℕ) → part ≡ gift_part i → (x : Changed) → AreChanges u i (Some x) →
    AreNamed p part (changed_registers x) (changed_flags x)
named_at u p named i part e x (g, at, rs, fs) =
    subst (λ (q : ℕ). AreNamed p q (changed_registers x) (changed_flags x)) (sym e)
    (subst (λ (r : List ℕ). AreNamed p (gift_part i) r (changed_flags x)) rs
    (subst (λ (f : List ℕ). AreNamed p (gift_part i) g.registers f) fs (named i g at)))

small_word : (a b : ℕ) → b < 2 ^ 32 → a ≡ b → a % 2 ^ 32 ≡ b
small_word a b l e = omega arith

small_flag : (a b : ℕ) → b < 2 → a ≡ b → a % 2 ≡ b
small_flag a b l e = omega arith

pub among : (x : TermReading) (part : ℕ) (flags : List ℕ) (f : ℕ) → list_any (nat_eq f) flags ≡ true → flag_among x part flags f ≡ x.flags part f
among x part flags f h = ap (λ b. if b then x.flags part f else 0) h

pub not_among : (x : TermReading) (part : ℕ) (flags : List ℕ) (f : ℕ) → list_any (nat_eq f) flags ≡ false → flag_among x part flags f ≡ 0
not_among x part flags f h = ap (λ b. if b then x.flags part f else 0) h

-- data with these registers, flags and bytes
module _ (p : InputPlaces) (values : List Bool) (part addresses : ℕ) (registers flags : List ℕ) (low : (n : ℕ) → is_given p registers n ≡ true → n < 32)
    (r : Reading) (bits : List Bool)
    (regs : (x : TermReading) → IsReadingAt p (valuation values) x → (n : ℕ) → n < 32 → is_given p registers n ≡ true →
    slice_index r.registers.items n ≡ x.regs part n)
    (count : length bits ≡ p.flags)
    (each : (x : TermReading) → IsReadingAt p (valuation values) x → (f : ℕ) → f < p.flags → bit (slice_index_or bits f false) ≡ flag_among x part flags f)
    (digits : (f : ℕ) → f < length bits → slice_index r.flags.items f ≡ bit (slice_index_or bits f false))
    (bytes : (j : ℕ) → j < addresses → slice_index r.base.items j ≡ byte_by p (valuation values) (read_of p part j)) where
  pub gift_has : HasGift p values part addresses registers flags r
  gift_has x range at = record {
    regs = λ n h. small_word (slice_index r.registers.items n) (x.regs part n) (range.regs part n) (regs x at n (low n h) h);
    flags = λ f l h. small_flag (slice_index r.flags.items f) (x.flags part f) (range.flags part f)
        (digits f (omega arith) ∙ each x at f l ∙ among x part flags f h);
    base = λ j k l read. byte_is (valuation values) x p part range at j k _ read (bytes j l);
  }

-- so with the memory that is written
pub gift_is : (u : UnrolledProgram) (p : InputPlaces) (values : List Bool) (i part addresses : ℕ) (x : Changed) → part ≡ gift_part i →
    AreChanges u i (Some x) → (r : Reading) (entries bytes : List (ℕ × ℕ)) →
    HasGift p values part addresses (changed_registers x) (changed_flags x) r → r.memory.entries ≡ entries → r.fill ≡ 0 →
    ((a : ℕ) → memory_of entries a ≡ memory_of bytes a) → AreBytes (memory_of entries) → length r.base.items ≡ addresses → (h : Gift) → IsGiftAt u i h →
    IsOfGift p values i addresses h bytes r
gift_is u p values i part addresses x e (g, at, rs, fs) r entries bytes has same fill value below base h there =
    subst (λ (k : Gift). IsOfGift p values i addresses k bytes r) (one_gift u i g h at there) (record {
      has = subst (λ (f : List ℕ). HasGift p values (gift_part i) addresses g.registers f r) (sym fs)
          (subst (λ (l : List ℕ). HasGift p values (gift_part i) addresses l (changed_flags x) r) (sym rs)
          (subst (λ (q : ℕ). HasGift p values q addresses (changed_registers x) (changed_flags x) r) e has));
      memory = λ a. memory_is r entries same fill a (memory_of bytes a) (below a) (value a);
      base = base;
    })

-- gifts by their places
pub gift_listed : (gifts : List Start) (i : ℕ) (d : Start) → i < length gifts → gift_in gifts i ≡ written_of (slice_index_or gifts i d)
gift_listed [] i d l = absurd (omega arith)
gift_listed (x ∷ gifts) zero d l = refl
gift_listed (x ∷ gifts) (suc i) d l = gift_listed gifts i d (omega arith)

pub gift_past : (gifts : List Start) (i : ℕ) → length gifts ≤ i → gift_in gifts i ≡ no_written
gift_past [] i l = refl
gift_past (x ∷ gifts) zero l = absurd (omega arith)
gift_past (x ∷ gifts) (suc i) l = gift_past gifts i (omega arith)

-- the data of parts in a list
pub part_first : (first : Reading) (others : List Reading) → part_in first others 0 ≡ first
part_first first [] = refl
part_first first (r ∷ rest) = refl

get_is : (others : List Reading) (q : ℕ) (d r : Reading) → slice_get others q ≡ Some r → slice_index_or others q d ≡ r
get_is [] q d r e = absurd (cc)
get_is (x ∷ rest) zero d r e = some e
  where
    some : Some x ≡ Some r → x ≡ r
    some t = (cc)
get_is (x ∷ rest) (suc q) d r e = get_is rest q d r e

pub listed : (others : List Reading) (q : ℕ) (d r : Reading) → slice_get others q ≡ Some r → slice_index_or others q d ≡ r
listed = get_is

pub part_at : (first : Reading) (others : List Reading) (q : ℕ) (r : Reading) → slice_get others q ≡ Some r → part_in first others (suc q) ≡ r
part_at first [] q r e = absurd (cc)
part_at first (x ∷ rest) q r e = get_is (x ∷ rest) q first r e

-- a digit as a test
pub digit_is : (n a : ℕ) → n < 2 ^ 1 → n ≡ a → bit (n == 1) ≡ a
digit_is zero a l e = e
digit_is (suc zero) a l e = e
digit_is (suc (suc n)) a l e = absurd (omega arith)

-- the data of the head, and of one gift more
module _ (u : UnrolledProgram) (p : InputPlaces) (values : List Bool) (addresses : ℕ) (head : Reading) (gifts : List Start) where
  pub no_others : (others : List Reading) → others ≡ [] ++ head ∷ [] → AreOthers u p values addresses 0 head gifts others
  no_others others e = subst (AreOthers u p values addresses 0 head gifts) (sym e) (record { first = refl; count = refl; each = λ i l. absurd (omega arith) })

  get_before : (xs : List Reading) (r : Reading) (i : ℕ) (y : Reading) → slice_get xs i ≡ Some y → slice_get (xs ++ r ∷ []) i ≡ Some y
  get_before [] r i y e = absurd (cc)
  get_before (x ∷ xs) r zero y e = e
  get_before (x ∷ xs) r (suc i) y e = get_before xs r i y e

  get_last : (xs : List Reading) (r : Reading) → slice_get (xs ++ r ∷ []) (length xs) ≡ Some r
  get_last [] r = refl
  get_last (x ∷ xs) r = get_last xs r

  pub others_more : (n : ℕ) (others more : List Reading) (r : Reading) → AreOthers u p values addresses n head gifts others → more ≡ others ++ r ∷ [] →
      ((g : Gift) → IsGiftAt u n g → IsOfGift p values n addresses g (gift_in gifts n).bytes r) → AreOthers u p values addresses (n + 1) head gifts more
  others_more n others more r h e is = subst (AreOthers u p values addresses (n + 1) head gifts) (sym e) (record {
    first = get_before others r 0 head h.first;
    count = length-append others (r ∷ []) ∙ (let k = h.count in omega arith);
    each = λ i l. elim (cases_lt i n) [
      | inl before ↦ λ g at. (let q = h.each i before g at in (q.0, get_before others r (suc i) q.0 q.1, q.2))
      | inr behind ↦ (let own : n ≡ i = omega arith in
          subst (IsListedGift u p values addresses gifts (others ++ r ∷ [])) own (λ g at. (
            r,
            ap (slice_get (others ++ r ∷ [])) (sym h.count) ∙ get_last others r,
            is g at,
          )))
    ];
  })

-- the number of bits has each of them
pub bits_number : (bits : List Bool) (n f : ℕ) → f < n → bit_at f (bits_from (valuation bits) 0 n) ≡ bit (slice_index_or bits f false)
bits_number bits n f l =
    one_bit_same (bit_at f (bits_from (valuation bits) 0 n)) (bit (slice_index_or bits f false))
    (let z : bit_at f (bits_from (valuation bits) 0 n) < 2 = omega arith in z) (bit_small (slice_index_or bits f false))
    (bit_is (valuation bits) 0 n f l
    ∙ ap (valuation bits) (let e : 0 + f + 1 ≡ suc f = omega arith in e) ∙ sym (bit_one (slice_index_or bits f false)))
  where
    bit_small : (b : Bool) → bit b < 2
    bit_small true = omega arith
    bit_small false = omega arith

    bit_one : (b : Bool) → (bit b == 1) ≡ b
    bit_one true = refl
    bit_one false = refl
