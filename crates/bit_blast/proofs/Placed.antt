-- The places of the inputs of cells: the reading of a valuation is at them, and the cells' nodes name inputs that have places.
use Rattle.std.proofs.Common.{◌≡◌, ℕ, zero, suc, ◌+◌, ◌-◌, ◌*◌, ◌<◌, ◌≤◌, Bool, true, false, List, length, refl, ap, sym, ◌∙◌, subst, arith}
use Rattle.std.specs.Prelude.{nat_lt, nat_eq, slice_index_or, if◌then◌else◌, Option, Some, None, unwrap_or}
use Rattle.std.specs.List.{list_any}
use Rattle.std.proofs.lemmas.Bool.{false≢true}
use Rattle.std.proofs.lemmas.Bool.Decides.{nat_tests}
use Rattle.term_spec.specs.Terms.{TermNode, RegisterNode, FlagNode, ChoiceNode, BaseNode, MemoryNode, ConstantNode, BinaryNode, NotNode, SelectNode, ExtractNode, ConcatNode, ExtendNode, LoadNode, StoreNode, JoinNode, TakeNode}
use Rattle.walk_spec.specs.Unrolled.{UnrolledProgram, point_at, is_register_of, is_flag_of}
use Rattle.term_spec.specs.WalkQuestions.{IsNamedBelow}
use Rattle.term_spec.specs.Cells.{Cells}
use Rattle.term_spec.specs.ClauseForm.{bits_from, drawn_below, first_flag, first_choice, first_byte, inputs, place_in, reading}
use Rattle.walk_laws.proofs.InputPlaces.{range_length}
use Rattle.word_gates.specs.Numbers.{input_number}
use Rattle.bit_blast.specs.declared.input_places.InputPlaces.{InputPlaces}
use Rattle.bit_blast.specs.Places.{HasFlag, HasPart, HasRead, HasRegister, IsNamed, IsRead, IsReadingAt, first_of}
use Rattle.bit_blast.specs.Laid.{ArePlaces}
use Rattle.bit_blast.proofs.PartPlaces.{behind_entry}
use Rattle.bit_blast.proofs.InputNumbers.{bits_are, in_range, any_in_range, place_in_range, drawn_less}

module _ (u : UnrolledProgram) (c : Cells) (p : InputPlaces) (is : ArePlaces u c p) where
  registers_are : length u.registers ≡ p.registers
  registers_are = ap length is.registers ∙ range_length p.first_register p.registers

  pub flag_first : p.first_flag ≡ first_flag u
  flag_first = omega (arith, is.order.flag, registers_are)

  pub choice_first : p.first_choice ≡ first_choice u
  choice_first = omega (arith, is.order.head, behind_entry p is.order is.heads, flag_first, is.flags)

  pub byte_first : p.first_byte ≡ first_byte u
  byte_first = omega (arith, is.order.gift, is.given, choice_first, is.drawn.all)

  pub inputs_are : p.inputs ≡ inputs u c
  inputs_are = omega (arith, is.order.all, byte_first, is.reads)

  -- each address is read at entry
  pub entry_read : (j : ℕ) → j < length c.addresses → HasRead p 0 j
  entry_read j l = (j, (is.entry j l, omega (arith, is.reads)))

  -- a node of the cells names an input that has a place
  pub named : (n : TermNode) → IsNamedBelow u (length c.addresses) n → IsNamed p n
  named (RegisterNode part n) h =
      let q = in_range p.first_register p.registers n (subst (λ (z : List ℕ). list_any (nat_eq n) z ≡ true) is.registers h.1) in subst (λ (z : ℕ). HasRegister p z n) (sym h.0) (q.0, q.1)
  named (FlagNode part f) h = let k = h.1 in let l : f < u.flags = grind (arith, nat_tests) in (let m : f < p.flags = omega (arith, is.flags) in subst (λ (z : ℕ). HasFlag p z f) (sym h.0) m)
  named (ChoiceNode i) h =
      let e = is.drawn.each i h.0 ∙ ap (λ z. if z then Some (drawn_below u i) else None) h.1 in
      (drawn_below u i, (omega (arith, h.0, is.drawn.places), e, omega (arith, is.drawn.all, drawn_less u i (length u.points) h.1 h.0)))
  named (BaseNode part j) h = subst (λ (z : ℕ). HasRead p z j) (sym h.0) (entry_read j h.1)
  named (MemoryNode part) h = tt
  named (ConstantNode w v) h = tt
  named (BinaryNode o w a b) h = tt
  named (NotNode w a) h = tt
  named (SelectNode w d a b) h = tt
  named (ExtractNode hi lo a) h = tt
  named (ConcatNode high low a b) h = tt
  named (ExtendNode s n m a) h = tt
  named (LoadNode n e m a) h = tt
  named (StoreNode n e m a v) h = tt
  named (JoinNode d a b) h = tt
  named (TakeNode n m a part) h = absurd h

  chosen : (v : ℕ → Bool) (i k : ℕ) (b : Bool) (o : Option ℕ) → o ≡ (if b then Some (drawn_below u i) else None) → o ≡ Some k →
      (if b then bits_from v (first_choice u + 2 * drawn_below u i) 2 else 0) ≡ input_number v (p.first_choice + 2 * k) 2
  chosen v i k true o e f =
      let g : drawn_below u i ≡ k = ap (λ z. unwrap_or z 0) (sym e ∙ f) in
      let h : first_choice u + 2 * drawn_below u i ≡ p.first_choice + 2 * k = omega (arith, choice_first) in
      bits_are v (first_choice u + 2 * drawn_below u i) 2 ∙ ap (λ z. input_number v z 2) h
  chosen v i k false o e f = absurd (let g : None ≡ Some k = sym e ∙ f in cc)

  -- the numbers of the reading of a valuation
  module _ (v : ℕ → Bool) where
    pub register_at : (n : ℕ) → p.first_register ≤ n → n < p.first_register + p.registers →
        (reading u c v).regs 0 n ≡ input_number v (32 * (n - p.first_register)) 32
    register_at n l m =
        let e : is_register_of u n ≡ true = subst (λ (z : List ℕ). list_any (nat_eq n) z
        ≡ true) (sym is.registers) (any_in_range p.first_register p.registers n l m) in
        let f : place_in u.registers n ≡ n - p.first_register = ap (λ z. place_in z n) is.registers ∙ place_in_range p.first_register p.registers n l m in
        ap (λ z. if z then bits_from v (32 * place_in u.registers n) 32 else 0) e ∙ ap
        (λ z. bits_from v (32 * z) 32) f ∙ bits_are v (32 * (n - p.first_register)) 32

    pub flag_at : (f : ℕ) → f < p.flags → (reading u c v).flags 0 f ≡ input_number v (p.first_flag + f) 1
    flag_at f l =
        let e : is_flag_of u f ≡ true = (let k : f < u.flags = omega (arith, is.flags) in grind (arith, nat_tests)) in
        ap (λ z. if z then bits_from v (first_flag u + f) 1 else 0) e ∙ ap (λ z. bits_from v (z + f) 1) (sym flag_first) ∙ bits_are v (p.first_flag + f) 1

    pub byte_at : (j : ℕ) → j < length c.addresses → (reading u c v).base 0 j ≡ input_number v (p.first_byte + 8 * j) 8
    byte_at j l =
        let e : nat_lt j (length c.addresses) ≡ true = grind (arith, nat_tests) in
        ap (λ z. if z then bits_from v (first_byte u + 8 * j) 8 else 0) e ∙ ap
        (λ z. bits_from v (z + 8 * j) 8) (sym byte_first) ∙ bits_are v (p.first_byte + 8 * j) 8

    -- there is no part but the entry's
    origin : (part : ℕ) → HasPart p part → first_of p part ≡ 0
    origin zero h = refl
    origin (suc zero) h = absurd (false≢true (sym is.heads ∙ h))
    origin (suc (suc i)) h = absurd h

    byte_of : (part j k : ℕ) → IsRead p part j k → (reading u c v).base part j ≡ input_number v (p.first_byte + 8 * k) 8
    byte_of part j k h =
        let q = is.entry_only part j k h.0 in byte_at j q.2 ∙ ap (λ z. input_number v (p.first_byte + 8 * z) 8) (sym q.1)

  -- the reading of a valuation
  pub reading_at : (v : ℕ → Bool) → IsReadingAt p v (reading u c v)
  reading_at v = record {
    registers = λ part n h l m.
        register_at v n l m
        ∙ ap (λ z. input_number v z 32) (let o = origin v part h in let e : 32 * (n - p.first_register) ≡ first_of p part + 32 * (n - p.first_register) = omega arith
        in e);
    flags = λ part f h l.
        flag_at v f l ∙ ap (λ z. input_number v z 1) (let o = origin v part h in let e : p.first_flag + f ≡ first_of p part + p.first_flag + f = omega arith in e);
    gift_registers = λ i n k h. absurd (is.no_register i n k h.0);
    gift_flags = λ i f k h. absurd (is.no_flag i f k h.0);
    choices = λ i k d. chosen v i k ((point_at u i).draws) (slice_index_or p.drawn.items i None) (is.drawn.each i (omega (arith, d.0, is.drawn.places))) d.1;
    bytes = byte_of v;
  }
