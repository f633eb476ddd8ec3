-- Readings whose inputs have places, and what is said of their base reads.
use Rattle.std.proofs.Common.{◌≡◌, ◌↔◌, refl, ap, sym, ◌∙◌, subst, arith, ℕ, zero, suc, ◌+◌, ◌-◌, ◌*◌, ◌^◌, ◌<◌, Bool, true, ◌&&◌, List, [], Option, Some, None, map, length}
use Rattle.std.specs.Prelude.{◌==◌, Contains, slice_index_or}
use Rattle.std.specs.List.{list_all}
use Rattle.std.specs.Global.{Vec}
use Rattle.std.proofs.lemmas.Bool.{and_parts, and_from}
use Rattle.std.proofs.lemmas.Bool.Decides.{nat_tests}
use Rattle.clause_spec.specs.Clauses.{AgreeUpTo, Clause, Cnf, ExtendsOnceWhere, Satisfies}
use Rattle.term_spec.specs.Terms.{TermReading, InRange, HasWidth, term_word, value_at}
use Rattle.frame_terms.specs.FrameCells.{Cells, IsAllowed}
use Rattle.gates.specs.declared.bit.Bit.{Bit}
use Rattle.gates.specs.Circuits.{Holds, Netlist, bit_value, next}
use Rattle.gates.specs.Defined.{IsDefined}
use Rattle.gates.specs.Pushes.{satisfied}
use Rattle.gates.proofs.Definitions.{extends_once_where}
use Rattle.gates.proofs.Pushes.{satisfies-from, satisfies-to}
use Rattle.word_gates.specs.Numbers.{input_number, number}
use Rattle.mem_cells.specs.declared.cells.Agreement.{Agreement}
use Rattle.mem_cells.specs.declared.cells.AskedByte.{AskedByte}
use Rattle.mem_cells.specs.FrameViews.{frame_agreement_of, frame_asked_of}
use Rattle.bit_blast.specs.declared.input_places.InputPlaces.{InputPlaces}
use Rattle.bit_blast.specs.BitWords.{AreBlasted, values_of}
use Rattle.bit_blast.specs.CellClauses.{AreClauses, AreReadsOf, IsTrueAt}
use Rattle.bit_blast.specs.Places.{AreInOrder, HasPart, HasRead, IsReadingAt, first_of, gift_flag, gift_register, reads_of, seen}
use Rattle.bit_blast.specs.Said.{agrees_at, asked_at, byte_at}
use Rattle.bit_blast.proofs.Allowed.{AreMeant, agree_all, all_agree, all_asked, asked_all}
use Rattle.bit_blast.proofs.Lists.{word_is}
use Rattle.bit_blast.proofs.PartPlaces.{read_number, state_within}
use Rattle.bit_blast.proofs.Seen.{seen_agrees}
use Rattle.bit_blast.proofs.Segments.{number_few, numbers_same}

module _ (p : InputPlaces) where
  -- the reading that a valuation gives
  abbrev choice_number : (ℕ → Bool) → Option ℕ → ℕ
  choice_number v None = 0
  choice_number v (Some k) = input_number v (p.first_choice + 2 * k) 2

  abbrev byte_number : (ℕ → Bool) → Option ℕ → ℕ
  byte_number v None = 0
  byte_number v (Some k) = input_number v (p.first_byte + 8 * k) 8

  abbrev given_number : (ℕ → Bool) → (width : ℕ) → Option ℕ → ℕ
  given_number v w None = 0
  given_number v w (Some k) = input_number v k w

  abbrev register_number : (ℕ → Bool) → (part n : ℕ) → ℕ
  register_number v zero n = input_number v (first_of p 0 + 32 * (n - p.first_register)) 32
  register_number v (suc zero) n = input_number v (first_of p 1 + 32 * (n - p.first_register)) 32
  register_number v (suc (suc i)) n = given_number v 32 (gift_register p i n)

  abbrev flag_number : (ℕ → Bool) → (part f : ℕ) → ℕ
  flag_number v zero f = input_number v (first_of p 0 + p.first_flag + f) 1
  flag_number v (suc zero) f = input_number v (first_of p 1 + p.first_flag + f) 1
  flag_number v (suc (suc i)) f = given_number v 1 (gift_flag p i f)

  abbrev pub reading_of : (ℕ → Bool) → TermReading
  reading_of v = record {
    regs = register_number v;
    flags = flag_number v;
    mem = λ part a. 0;
    choice = λ i. choice_number v (slice_index_or p.drawn.items i None);
    base = λ part j. byte_number v (slice_index_or (reads_of p part) j None);
  }

  registers_at : (v : ℕ → Bool) (part n : ℕ) → HasPart p part →
      register_number v part n ≡ input_number v (first_of p part + 32 * (n - p.first_register)) 32
  registers_at v zero n h = refl
  registers_at v (suc zero) n h = refl
  registers_at v (suc (suc i)) n h = absurd h

  flags_at : (v : ℕ → Bool) (part f : ℕ) → HasPart p part → flag_number v part f ≡ input_number v (first_of p part + p.first_flag + f) 1
  flags_at v zero f h = refl
  flags_at v (suc zero) f h = refl
  flags_at v (suc (suc i)) f h = absurd h

  pub reading_is_at : (v : ℕ → Bool) → IsReadingAt p v (reading_of v)
  reading_is_at v = record {
    registers = λ part n h l m. registers_at v part n h;
    flags = λ part f h l. flags_at v part f h;
    gift_registers = λ i n k h. ap (given_number v 32) h.0;
    gift_flags = λ i f k h. ap (given_number v 1) h.0;
    choices = λ i k d. ap (choice_number v) d.1;
    bytes = λ part j k h. ap (byte_number v) h.0;
  }

  choice_few : (v : ℕ → Bool) (o : Option ℕ) → choice_number v o < 4
  choice_few v None = omega arith
  choice_few v (Some k) = number_few v (p.first_choice + 2 * k) 2

  byte_few : (v : ℕ → Bool) (o : Option ℕ) → byte_number v o < 256
  byte_few v None = omega arith
  byte_few v (Some k) = number_few v (p.first_byte + 8 * k) 8

  number_above : {a b : ℕ} → a < b → 0 < b
  number_above l = omega arith

  given_few : (v : ℕ → Bool) (w : ℕ) (o : Option ℕ) → given_number v w o < 2 ^ w
  given_few v w None = number_above (number_few v 0 w)
  given_few v w (Some k) = number_few v k w

  register_few : (v : ℕ → Bool) (part n : ℕ) → register_number v part n < 2 ^ 32
  register_few v zero n = number_few v (first_of p 0 + 32 * (n - p.first_register)) 32
  register_few v (suc zero) n = number_few v (first_of p 1 + 32 * (n - p.first_register)) 32
  register_few v (suc (suc i)) n = given_few v 32 (gift_register p i n)

  flag_few : (v : ℕ → Bool) (part f : ℕ) → flag_number v part f < 2
  flag_few v zero f = number_few v (first_of p 0 + p.first_flag + f) 1
  flag_few v (suc zero) f = number_few v (first_of p 1 + p.first_flag + f) 1
  flag_few v (suc (suc i)) f = given_few v 1 (gift_flag p i f)

  pub reading_in_range : (v : ℕ → Bool) → InRange (reading_of v)
  reading_in_range v = record {
    regs = register_few v;
    flags = flag_few v;
    mem = λ part a. omega arith;
    choice = λ i. choice_few v (slice_index_or p.drawn.items i None);
    base = λ part j. byte_few v (slice_index_or (reads_of p part) j None);
  }

  -- valuations that agree on the inputs have the same readings
  module _ (order : AreInOrder p) where
    pub moves : (v w : ℕ → Bool) (x : TermReading) → AgreeUpTo p.inputs v w → IsReadingAt p v x → IsReadingAt p w x
    moves v w x a at = record {
      registers = λ part n h l m.
          (let s = state_within p part order h in
          at.registers part n h l m
          ∙ numbers_same p.inputs v w a (first_of p part + 32 * (n - p.first_register)) 32
          (omega (arith, order.flag, order.head, order.gift, order.byte, order.all)));
      flags = λ part f h l.
          (let s = state_within p part order h in
          at.flags part f h l
          ∙ numbers_same p.inputs v w a (first_of p part + p.first_flag + f) 1
          (omega (arith, order.flag, order.head, order.gift, order.byte, order.all)));
      gift_registers = λ i n k h.
          (let l = h.1 in at.gift_registers i n k h ∙ numbers_same p.inputs v w a k 32 (omega (arith, order.all)));
      gift_flags = λ i f k h.
          (let l = h.1 in at.gift_flags i f k h ∙ numbers_same p.inputs v w a k 1 (omega (arith, order.all)));
      choices = λ i k d.
          (let l = d.2 in
          at.choices i k d ∙ numbers_same p.inputs v w a (p.first_choice + 2 * k) 2 (omega (arith, order.gift, order.byte, order.all)));
      bytes = λ part j k h.
          (let l = h.1 in
          at.bytes part j k h ∙ numbers_same p.inputs v w a (p.first_byte + 8 * k) 8 (omega (arith, order.all)));
    }

-- the byte of a read
pub bytes_meant : (p : InputPlaces) (bits : List Bit) (v : ℕ → Bool) (x : TermReading) → IsReadingAt p (seen bits v) x → (part j : ℕ) → HasRead p part j →
    byte_at p bits v part j ≡ x.base part j
bytes_meant p bits v x at part j h =
    ap (λ z. input_number (seen bits v) (p.first_byte + 8 * z) 8) (read_number p part j h.0 h.1) ∙ sym (at.bytes part j h.0 h.1)

-- the ties say what is said
module _ (c : Cells) (p : InputPlaces) (reads : AreReadsOf p c) (bits : List Bit) (ws : List (Vec Bit)) (agreements : List Agreement) (asked : List AskedByte)
    (agreements_are : map frame_agreement_of agreements ≡ c.agrees) (asked_are : map frame_asked_of asked ≡ c.asked) (v : ℕ → Bool) (x : TermReading)
    (meant : AreMeant c p bits ws v x) where
  said_to : (list_all (agrees_at p bits ws v) agreements && list_all (asked_at p bits ws v) asked) ≡ true → IsAllowed c x
  said_to s =
      let q = and_parts (list_all (agrees_at p bits ws v) agreements) (list_all (asked_at p bits ws v) asked) s in
      record {
        agrees = λ y k. all_agree c p bits ws v x meant agreements (λ z n. reads.agrees z (subst (λ l. Contains l z) agreements_are n)) q.0 y
            (subst (λ l. Contains l y) (sym agreements_are) k);
        asked = λ y k. all_asked c p bits ws v x meant asked (λ z n. reads.asked z (subst (λ l. Contains l z) asked_are n)) q.1 y
            (subst (λ l. Contains l y) (sym asked_are) k);
      }

  said_from : IsAllowed c x → (list_all (agrees_at p bits ws v) agreements && list_all (asked_at p bits ws v) asked) ≡ true
  said_from f =
      and_from _ _
      (agree_all c p bits ws v x meant agreements (λ z n. reads.agrees z (subst (λ l. Contains l z) agreements_are n))
      (λ y n. f.agrees y (subst (λ l. Contains l y) agreements_are n)))
      (asked_all c p bits ws v x meant asked (λ z n. reads.asked z (subst (λ l. Contains l z) asked_are n))
      (λ y n. f.asked y (subst (λ l. Contains l y) asked_are n)))

  pub said : (r t : Bool) → t ≡ ((r && list_all (agrees_at p bits ws v) agreements) && list_all (asked_at p bits ws v) asked) →
      (t ≡ true) ↔ ((r ≡ true) × IsAllowed c x)
  said r t e = (
    (λ k.
        let q = and_parts (r && list_all (agrees_at p bits ws v) agreements) (list_all (asked_at p bits ws v) asked) (sym e ∙ k) in
        let m = and_parts r (list_all (agrees_at p bits ws v) agreements) q.0 in
        (m.0, said_to (and_from _ _ m.1 q.1))),
    (λ k.
        let q = and_parts _ _ (said_from k.1) in
        e ∙ and_from _ _ (and_from _ _ k.0 q.0) q.1),
  )

is_one : (n : ℕ) → (n == 1) ≡ true → n ≡ 1
is_one n h = grind (arith, nat_tests)

one_is : (n : ℕ) → n ≡ 1 → (n == 1) ≡ true
one_is n h = grind (arith, nat_tests)

-- the clauses
module _ (c : Cells) (p : InputPlaces) (order : AreInOrder p) (reads : AreReadsOf p c) (root_bit : HasWidth c.nodes 1 c.root) (bits : List Bit)
    (count : length bits ≡ p.inputs) (stand : (v : ℕ → Bool) → number v bits ≡ input_number v 0 p.inputs) (a b : Netlist)
    (empty : a ≡ record { inputs = p.inputs; gates = [] }) (ws : List (Vec Bit)) (made : AreBlasted p bits a b c.nodes ws) (ties : List Clause)
    (agreements : List Agreement) (asked : List AskedByte) (agreements_are : map frame_agreement_of agreements ≡ c.agrees)
    (asked_are : map frame_asked_of asked ≡ c.asked)
    (say : (v : ℕ → Bool) → satisfied v ties ≡ ((true && list_all (agrees_at p bits ws v) agreements) && list_all (asked_at p bits ws v) asked))
    (root : Bit) (is_root : (v : ℕ → Bool) → bit_value v root ≡ ((value_at (values_of v ws) c.root).word == 1)) (cnf : Cnf)
    (defined : IsDefined b ties root cnf) where
  see : (v : ℕ → Bool) → AgreeUpTo p.inputs v (seen bits v)
  see v i h k = sym (seen_agrees v bits 0 p.inputs count (stand v) i h k ∙ ap v (let e : 0 + i ≡ i = omega arith in e))

  word_at : (v : ℕ → Bool) → Holds v b → (x : TermReading) → IsReadingAt p (seen bits v) x → (t : ℕ) → t < length c.nodes →
      (value_at (values_of v ws) t).word ≡ term_word x c.nodes t
  word_at v h x at t l = word_is v ws t ∙ (made.values v x h at).each t l

  said_by : (v : ℕ → Bool) → Holds v b → (x : TermReading) → IsReadingAt p (seen bits v) x → (satisfied v ties ≡ true) ↔ ((true ≡ true) × IsAllowed c x)
  said_by v h x at =
      said c p reads bits ws agreements asked agreements_are asked_are v x (record { words = word_at v h x at; bytes = bytes_meant p bits v x at }) true
      (satisfied v ties) (say v)

  inputs_of : b.inputs ≡ p.inputs
  inputs_of = made.grows.same_inputs ∙ ap (λ (n : Netlist). n.inputs) empty

  same_fact : (v w : ℕ → Bool) → AgreeUpTo b.inputs v w → IsTrueAt p c v → IsTrueAt p c w
  same_fact v w g h = record {
    reading = h.reading;
    in_range = h.in_range;
    at = moves p order v w h.reading (subst (λ (n : ℕ). AgreeUpTo n v w) inputs_of g) h.at;
    allowed = h.allowed;
    root = h.root;
  }

  to_fact : (v : ℕ → Bool) → Holds v b → Satisfies v ties → bit_value v root ≡ true → IsTrueAt p c v
  to_fact v h s t =
      let x = reading_of p v in
      let at = moves p order v (seen bits v) x (see v) (reading_is_at p v) in
      record {
        reading = x;
        in_range = reading_in_range p v;
        at = reading_is_at p v;
        allowed = ((said_by v h x at).0 (satisfies-to v ties s)).1;
        root = sym (word_at v h x at c.root root_bit.0) ∙ is_one _ (sym (is_root v) ∙ t);
      }

  from_fact : (v : ℕ → Bool) → Holds v b → IsTrueAt p c v → Satisfies v ties × (bit_value v root ≡ true)
  from_fact v h f =
      let at = moves p order v (seen bits v) f.reading (see v) f.at in (
        satisfies-from v ties ((said_by v h f.reading at).1 (refl, f.allowed)),
        is_root v ∙ one_is _ (word_at v h f.reading at c.root root_bit.0 ∙ f.root),
      )

  pub clauses_are : AreClauses p c cnf
  clauses_are =
      let e = defined.variables in
      let g = made.grows.more in
      let k = made.grows.cost in
      let n : next a ≡ p.inputs + 1 = ap next empty ∙ (let z : p.inputs + 1 + 0 ≡ p.inputs + 1 = omega arith in z) in
      record {
        extends = subst (λ (m : ℕ). ExtendsOnceWhere m cnf (IsTrueAt p c)) inputs_of
            (extends_once_where b ties root cnf (IsTrueAt p c) defined same_fact to_fact from_fact);
        all = omega arith;
        few = omega arith;
      }
