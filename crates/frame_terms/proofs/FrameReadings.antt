-- The readings of terms that readings of a frame give, with the bytes of its memories at the addresses of the base reads; and the bits of such readings.
use Rattle.std.proofs.Common.{◌≡◌, refl, ap, sym, ◌∙◌, subst, arith, ℕ, zero, suc, ◌+◌, ◌-◌, ◌%◌, ◌^◌, ◌<◌, ◌≤◌, Bool, true, false, length}
use Rattle.std.specs.Prelude.{Contains, ◌==◌, slice_index, if◌then◌else◌}
use Rattle.std.proofs.lemmas.Bool.Decides.{nat_tests}
use Rattle.word_spec.specs.Words.{bit_at}
use Rattle.term_spec.specs.Terms.{TermReading, InRange, node_at, term_word}
use Rattle.walk_laws.proofs.CellValues.{node_in, same_term, words_fit}
use Rattle.walk_laws.proofs.InputBits.{same_bits}
use Rattle.frame_spec.specs.FrameQuestions as questions
use Rattle.frame_spec.specs.FrameQuestions.{Reading, IsReading, Addresses, input_value}
use Rattle.frame_spec.specs.FrameWalk.{UnrolledProgram, point_at}
use Rattle.frame_terms.specs.PassiveFrames.{part_reading, IsNamedBelow}
use Rattle.frame_terms.specs.FrameCells.{BaseRead, Cells, read_address, Gives, AreFormed}
use Rattle.frame_terms.specs.FrameClauseForm.{PartInput, RegisterBit, FlagBit, ChoiceBit, ByteBit, bit_of, part_named, named}
use Rattle.frame_terms.specs.FrameAgreement.{HaveSameInputs}
use Rattle.frame_terms.specs.FrameLayers.{IsReadingOf}
use Rattle.frame_terms.proofs.PartValues.{node_same}
use Rattle.frame_terms.proofs.FrameInputs.{IsPartInput, IsBelow}

-- two readings have the same inputs, and the same bytes of those base reads that are made, of addresses below a number
pub record Agree (u : UnrolledProgram) (heads : Bool) (c : Cells) (m : ℕ) (x y : TermReading) : Type 0 where
  pub same : HaveSameInputs u heads 0 x y
  pub base : (b : BaseRead) → Contains c.reads b → b.address < m → x.base b.part b.address ≡ y.base b.part b.address

pub fewer : (u : UnrolledProgram) (heads : Bool) (c : Cells) (m n : ℕ) (x y : TermReading) → m ≤ n → Agree u heads c n x y → Agree u heads c m x y
fewer u heads c m n x y l a = record { same = a.same; base = λ b inside s. a.base b inside (omega arith) }

-- readings that have the same inputs but for base reads
pub same_but_reads : (u : UnrolledProgram) (heads : Bool) (x : TermReading) (base : ℕ → ℕ → ℕ) → HaveSameInputs u heads 0 x (record x { base = base })
same_but_reads u heads x base = record { regs = λ p n h. refl; flags = λ p n h. refl; choice = λ i d. refl; base = λ p j h l. absurd (omega arith) }

-- a reading of a frame is in range
pub part_range : (u : UnrolledProgram) (r : Reading) → IsReading r → InRange (part_reading u r)
part_range u r is = record {
  regs = regs;
  flags = flags;
  mem = bytes;
  choice = λ i. is.choice (point_at u i).point;
  base = λ p j. omega arith;
}
  where
    regs : (p n : ℕ) → (part_reading u r).regs p n < 2 ^ 32
    regs zero n = is.state.regs n
    regs (suc zero) n = is.head.regs n
    regs (suc (suc i)) n = (is.given (point_at u i).point).regs n

    flags : (p f : ℕ) → (part_reading u r).flags p f < 2
    flags zero f = is.state.flags f
    flags (suc zero) f = is.head.flags f
    flags (suc (suc i)) f = (is.given (point_at u i).point).flags f

    bytes : (p a : ℕ) → (part_reading u r).mem p a < 256
    bytes zero a = is.state.mem a
    bytes (suc zero) a = is.head.mem a
    bytes (suc (suc i)) a = (is.given (point_at u i).point).mem a

module _ (u : UnrolledProgram) (heads : Bool) (c : Cells) (formed : AreFormed u heads c) where
  -- so the words of the cells are the same
  place_same : (m : ℕ) (x y : TermReading) → Agree u heads c m x y → (t : ℕ) → t < length c.nodes →
      ((i : ℕ) → i ≤ t → IsNamedBelow u heads m (node_at c.nodes i)) → term_word x c.nodes t ≡ term_word y c.nodes t
  place_same m x y a t l h =
      same_term x y c.nodes t (λ i le vs. (let inside = node_in c.nodes i (omega arith) in
      node_same u heads m x y a.same vs (node_at c.nodes i) (h i le)
      (λ p j has s e. a.base (record { part = p; address = j }) (formed.bases p j (subst (Contains c.nodes) e inside)) s)
      (λ p has w. absurd (w (formed.words (node_at c.nodes i) inside))))) l

  pub word_same : (x y : TermReading) → Agree u heads c (length c.addresses) x y → (t : ℕ) → t < length c.nodes → term_word x c.nodes t ≡ term_word y c.nodes t
  word_same x y a t l = place_same (length c.addresses) x y a t l (λ i le. formed.named (node_at c.nodes i) (node_in c.nodes i (omega arith)))

  pub address_same : (x y : TermReading) (j : ℕ) → j < length c.addresses → Agree u heads c j x y → read_address c x j ≡ read_address c y j
  address_same x y j l a = place_same j x y a (slice_index c.addresses j) (formed.addresses j l).0 (λ i le. formed.early j i l le)

  -- the reading with the bytes of its memories at some addresses
  abbrev pub at_addresses : TermReading → (ℕ → ℕ) → TermReading
  at_addresses x a = record x { base = λ p j. x.mem p (a j) }

  module _ (x : TermReading) where
    -- the addresses of the first reads
    pub first_at : ℕ → ℕ → ℕ
    first_at zero j = 0
    first_at (suc k) j = if j == k then read_address c (at_addresses x (first_at k)) k else first_at k j

    stays : (k j d : ℕ) → j < k → first_at (d + k) j ≡ first_at k j
    unfolding first_at
    stays k j zero l = ap (λ z. first_at z j) (let e : 0 + k ≡ k = omega arith in e)
    stays k j (suc d) l =
        ap (λ z. first_at z j) (let e : suc d + k ≡ suc (d + k) = omega arith in e)
        ∙ ap (λ z. if z then read_address c (at_addresses x (first_at (d + k))) (d + k) else first_at (d + k) j)
        (let e : (j == d + k) ≡ false = grind (arith, nat_tests) in e)
        ∙ stays k j d l

    latest : (k : ℕ) → first_at (suc k) k ≡ read_address c (at_addresses x (first_at k)) k
    unfolding first_at
    latest k =
        ap (λ z. if z then read_address c (at_addresses x (first_at k)) k else first_at k k) (let e : (k == k) ≡ true = grind (arith, nat_tests) in e)

    to_end : (k : ℕ) → k ≤ length c.addresses → (length c.addresses - k) + k ≡ length c.addresses
    to_end k l = omega arith

    settled : (k j : ℕ) → k ≤ length c.addresses → j < k → first_at (length c.addresses) j ≡ first_at k j
    settled k j l s = ap (λ z. first_at z j) (sym (to_end k l)) ∙ stays k j (length c.addresses - k) s

    -- the reading with the bytes that its memories have
    abbrev pub filled : TermReading
    filled = at_addresses x (first_at (length c.addresses))

    filled_address : (j : ℕ) → j < length c.addresses → first_at (length c.addresses) j ≡ read_address c filled j
    filled_address j l =
        settled (suc j) j (omega arith) (omega arith) ∙ latest j
        ∙ address_same (at_addresses x (first_at j)) filled j l (record {
          same = same_but_reads u heads (at_addresses x (first_at j)) (λ p i. x.mem p (first_at (length c.addresses) i));
          base = λ b inside s. ap (x.mem b.part) (sym (settled j b.address (omega arith) s));
        })

    pub gives_filled : Gives c filled
    gives_filled b inside = ap (x.mem b.part) (filled_address b.address (formed.reads b inside).1)

    pub filled_in_range : InRange x → InRange filled
    filled_in_range is = record {
      regs = is.regs;
      flags = is.flags;
      mem = is.mem;
      choice = is.choice;
      base = λ p j. is.mem p (first_at (length c.addresses) j);
    }

  -- the reading of terms that a reading of the frame gives
  abbrev pub of : Reading → TermReading
  of r = filled (part_reading u r)

  pub of_in_range : (r : Reading) → IsReading r → InRange (of r)
  of_in_range r is = filled_in_range (part_reading u r) (part_range u r is)

  -- where its base reads read
  abbrev pub address : Addresses
  address r part j = read_address c (of r) j % 2 ^ 32

  small_mod : (a : ℕ) → a < 2 ^ 32 → a % 2 ^ 32 ≡ a
  small_mod a l = omega arith

  address_is : (r : Reading) → IsReading r → (part : questions.Part) (j : ℕ) → j < length c.addresses → address r part j ≡ read_address c (of r) j
  address_is r is part j l =
      small_mod (read_address c (of r) j) (words_fit c.nodes formed.typed formed.words (of r) (of_in_range r is) 32 _ (formed.addresses j l))

  -- readings of the frame that have the bits of a valuation agree with it
  module _ (v : ℕ → Bool) (r : Reading) (o : IsReadingOf u heads c v r) where
    inputs_same : HaveSameInputs u heads 0 o.reading (of r)
    inputs_same = record { regs = o.same.regs; flags = o.same.flags; choice = o.same.choice; base = λ p j h l. absurd (omega arith) }

    upto : (m : ℕ) → m ≤ length c.addresses → Agree u heads c m o.reading (of r)
    upto zero l = record { same = inputs_same; base = λ b inside s. absurd (omega arith) }
    upto (suc m) l = record {
      same = inputs_same;
      base = λ b inside s. o.gives b inside
          ∙ ap ((part_reading u r).mem b.part) (address_same o.reading (of r) b.address (formed.reads b inside).1
          (fewer u heads c b.address m o.reading (of r) (omega arith) (upto m (omega arith))))
          ∙ sym (gives_filled (part_reading u r) b inside);
    }

    pub reading_agrees : Agree u heads c (length c.addresses) o.reading (of r)
    reading_agrees = upto (length c.addresses) (omega arith)

  -- bits of readings that agree are the same
  pub bits_same : (x y : TermReading) → Agree u heads c (length c.addresses) x y → (z : PartInput) → IsPartInput u heads c z → bit_of x z ≡ bit_of y z
  bits_same x y a (RegisterBit p n b) h = ap (bit_at b) (a.same.regs p n h.0)
  bits_same x y a (FlagBit p f) h = a.same.flags p f h
  bits_same x y a (ChoiceBit i b) h = ap (bit_at b) (a.same.choice i h.0)
  bits_same x y a (ByteBit part j b) h =
      ap (bit_at b) (a.base (record { part = part; address = j }) h.0 (formed.reads (record { part = part; address = j }) h.0).1)

  -- and back
  pub from_bits : (m : ℕ) (x y : TermReading) → InRange x → InRange y →
      ((z : PartInput) → IsPartInput u heads c z → IsBelow m z → bit_of x z ≡ bit_of y z) → Agree u heads c m x y
  from_bits m x y ix iy f = record {
    same = record {
      regs = λ p n h. same_bits 32 (x.regs p n) (y.regs p n) (ix.regs p n) (iy.regs p n) (λ i l. ap (λ z. z == 1) (f (RegisterBit p n i) (h, l) tt));
      flags = λ p n h. f (FlagBit p n) h tt;
      choice = λ i d. same_bits 2 (x.choice i) (y.choice i) (ix.choice i) (iy.choice i) (λ b l. ap (λ z. z == 1) (f (ChoiceBit i b) (d, l) tt));
      base = λ p j h l. absurd (omega arith);
    };
    base = λ b inside s. same_bits 8 (x.base b.part b.address) (y.base b.part b.address) (ix.base b.part b.address) (iy.base b.part b.address)
        (λ i l. ap (λ z. z == 1) (f (ByteBit b.part b.address i) (inside, l) s));
  }

  -- the value of an input is its bit
  memory_is : (r : Reading) (p : ℕ) → (questions.part_of r (part_named u p)).mem ≡ (part_reading u r).mem p
  memory_is r zero = refl
  memory_is r (suc zero) = refl
  memory_is r (suc (suc i)) = refl

  pub input_is : (r : Reading) → IsReading r → (z : PartInput) → IsPartInput u heads c z → input_value address r (named u z) ≡ bit_of (of r) z
  input_is r is (RegisterBit zero n b) h = refl
  input_is r is (RegisterBit (suc zero) n b) h = refl
  input_is r is (RegisterBit (suc (suc i)) n b) h = refl
  input_is r is (FlagBit zero f) h = refl
  input_is r is (FlagBit (suc zero) f) h = refl
  input_is r is (FlagBit (suc (suc i)) f) h = refl
  input_is r is (ChoiceBit i b) h = refl
  input_is r is (ByteBit part j b) h =
      let at = formed.reads (record { part = part; address = j }) h.0 in
      ap (bit_at b) (ap (λ z. z (address r (part_named u part) j)) (memory_is r part)
      ∙ ap ((part_reading u r).mem part) (address_is r is (part_named u part) j at.1)
      ∙ sym (gives_filled (part_reading u r) (record { part = part; address = j }) h.0))
