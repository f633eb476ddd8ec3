-- What a part gives of a state, one by one.
use Rattle.std.proofs.Common.{◌≡◌, inl, inr, ℕ, ◌+◌, ◌≤◌, ◌<◌, Bool, true, false, List, [], ◌∷◌, ◌++◌, length, refl, ap, sym, ◌∙◌, subst, arith, length-append}
use Rattle.std.specs.Prelude.{slice_index, if◌then◌else◌}
use Rattle.std.proofs.lemmas.List.{length-map, map-append}
use Rattle.term_spec.specs.Terms.{TermReading, TermNode, RegisterNode, FlagNode, HasWidth, term_word}
use Rattle.term_dag.specs.Made.{IsInterned, Grew, InputsFrom}
use Rattle.term_dag.specs.declared.nodes.Term.{Term}
use Rattle.term_dag.proofs.Growth.{grew_none, grew_on, grew_more, grew_width, interned_grew, interned_width, inputs_none, inputs_on, inputs_more, interned_inputs}
use Rattle.term_names.specs.Choices.{places, AreWide}
use Rattle.term_names.specs.Gifts.{is_in, given_node, given_width, given_word, IsGiven, AreGiven, AreGiftNames, IsGiftNumber}
use Rattle.term_names.specs.declared.names.Names.{Names}
use Rattle.term_names.proofs.Choices.{each_more}

first_of : (b : Bool) (x y : ℕ) → b ≡ true → (if b then x else y) ≡ x
first_of true x y h = refl
first_of false x y h = absurd (cc)

second_of : (b : Bool) (x y : ℕ) → b ≡ false → (if b then x else y) ≡ y
second_of true x y h = absurd (cc)
second_of false x y h = refl

pub not_given : (ns : List TermNode) (flag : Bool) (p set n t : ℕ) → is_in set n ≡ false → HasWidth ns (given_width flag) t → IsGiven ns ns flag p set n t t
not_given ns flag p set n t e h = record {
  grew = grew_more ns ns 0 0 0 0 0 0 0 0 0 1 (omega arith) (omega arith) (omega arith) (omega arith) (omega arith) (grew_none ns);
  inputs = inputs_none ns (λ m. (is_in set n ≡ true) × (m ≡ given_node flag p n));
  place = h;
  value = λ x. sym (second_of (is_in set n) (given_word flag p n x) (term_word x ns t) e);
}

pub flag_given : (old new : List TermNode) (flag : Bool) (p set n before t : ℕ) → is_in set n ≡ true → flag ≡ true → IsInterned old new (FlagNode p n) t →
    IsGiven old new flag p set n before t
flag_given old new false p set n before t e f q = absurd (cc)
flag_given old new true p set n before t e f q = record {
  grew = interned_grew old new (FlagNode p n) t q;
  inputs = interned_inputs old new (FlagNode p n) t (λ m. (is_in set n ≡ true) × (m ≡ FlagNode p n)) q (λ i. (e, refl));
  place = interned_width old new (FlagNode p n) t 1 q refl;
  value = λ x. ap (λ z. z.word) (q.value x) ∙ sym (first_of (is_in set n) (x.flags p n) (term_word x old before) e);
}

pub register_given : (old new : List TermNode) (flag : Bool) (p set n before t : ℕ) → is_in set n ≡ true → flag ≡ false →
    IsInterned old new (RegisterNode p n) t →
    IsGiven old new flag p set n before t
register_given old new true p set n before t e f q = absurd (cc)
register_given old new false p set n before t e f q = record {
  grew = interned_grew old new (RegisterNode p n) t q;
  inputs = interned_inputs old new (RegisterNode p n) t (λ m. (is_in set n ≡ true) × (m ≡ RegisterNode p n)) q (λ i. (e, refl));
  place = interned_width old new (RegisterNode p n) t 32 q refl;
  value = λ x. ap (λ z. z.word) (q.value x) ∙ sym (first_of (is_in set n) (x.regs p n) (term_word x old before) e);
}

pub none_given : (ns : List TermNode) (flag : Bool) (p set low : ℕ) (before : List ℕ) → AreGiven ns ns flag p set low 0 before []
none_given ns flag p set low before = record {
  grew = grew_none ns;
  inputs = inputs_none ns (λ m. (i : ℕ) × (i < 0) × (is_in set (low + i) ≡ true) × (m ≡ given_node flag p (low + i)));
  count = refl;
  wide = λ i h. absurd (omega arith);
  value = λ x i h. absurd (omega arith);
}

pub more_given : (old mid new : List TermNode) (flag : Bool) (p set low n : ℕ) (before : List ℕ) (ts us : List Term) (t : Term) → us ≡ ts ++ t ∷ [] →
    AreWide old (given_width flag) before → n < length before → AreGiven old mid flag p set low n before (places ts) →
    IsGiven mid new flag p set (low + n) (slice_index before n) t.0 → AreGiven old new flag p set low (n + 1) before (places us)
more_given old mid new flag p set low n before ts us t e wide l k q =
    let m : length (places ts ++ t.0 ∷ []) ≡ length (places ts) + 1 = length-append (places ts) (t.0 ∷ []) in
    let says = λ (new : List TermNode) (x : TermReading) (j v : ℕ). term_word x new v
    ≡ (if is_in set (low + j) then given_word flag p (low + j) x else term_word x old (slice_index before j)) in
    let all : AreGiven old new flag p set low (n + 1) before (places ts ++ t.0 ∷ []) = record {
      grew = grew_on old mid new _ _ _ _ _ _ _ _ _ _ k.grew q.grew;
      inputs = inputs_on old mid new (λ m. (i : ℕ) × (i < n + 1) × (is_in set (low + i) ≡ true) × (m ≡ given_node flag p (low + i)))
          (inputs_more old mid (λ m. (i : ℕ) × (i < n) × (is_in set (low + i) ≡ true) × (m ≡ given_node flag p (low + i))) _
          (λ m i h. (h.0, omega (arith, h.1), h.2, h.3)) k.inputs)
          (inputs_more mid new (λ m. (is_in set (low + n) ≡ true) × (m ≡ given_node flag p (low + n))) _
          (λ m i h. (n, omega arith, h.0, h.1)) q.inputs);
      count = omega (arith, k.count, m);
      wide = λ i h. each_more (λ j v. HasWidth new (given_width flag) v) (places ts) t.0
          (λ j r. grew_width mid new _ _ _ _ _ (given_width flag) (slice_index (places ts) j) q.grew (k.wide j r)) q.place i (omega (arith, m));
      value = λ x i h. each_more (λ j v. says new x j v) (places ts) t.0
          (λ j r. ap (λ z. z.word) (q.grew.keeps x (slice_index (places ts) j) (k.wide j r).0) ∙ k.value x j (omega (arith, r, k.count)))
          (subst (λ (j : ℕ). says new x j t.0) (sym k.count)
          (q.value x ∙ ap (λ z. if is_in set (low + n) then given_word flag p (low + n) x else z)
          (ap (λ z. z.word) (k.grew.keeps x (slice_index before n) (wide n l).0)))) i (omega (arith, h, k.count, m));
    } in
    subst (λ z. AreGiven old new flag p set low (n + 1) before z) (sym (ap places e ∙ map-append (λ (t : Term). t.0) ts (t ∷ []))) all

places_count : (ts : List Term) → length (places ts) ≡ length ts
places_count ts = length-map ts (λ (t : Term). t.0)

pub gift_named : (old mid new : List TermNode) (p registers flags : ℕ) (b n : Names) → AreWide old 32 (places b.registers.items) →
    AreWide old 1 (places b.flags.items) → n.first ≡ b.first → n.memory ≡ b.memory →
    AreGiven old mid false p registers b.first (length b.registers.items) (places b.registers.items) (places n.registers.items) →
    AreGiven mid new true p flags 0 (length b.flags.items) (places b.flags.items) (places n.flags.items) → AreGiftNames old new p registers flags b n
gift_named old mid new p registers flags b n ws bs e m r f = record {
  form = record {
    first = sym e;
    registers = sym (sym (places_count n.registers.items) ∙ r.count);
    flags = sym (sym (places_count n.flags.items) ∙ f.count);
  };
  grew = grew_on old mid new _ _ _ _ _ _ _ _ _ _ r.grew f.grew;
  inputs = inputs_on old mid new _
      (inputs_more old mid _ (λ m. (g : Bool) × (i : ℕ) × (m ≡ given_node g p i) × IsGiftNumber b registers flags g i)
      (λ m i h. (false, b.first + h.0, h.3, (omega arith, omega (arith, h.1), h.2))) r.inputs)
      (inputs_more mid new _ (λ m. (g : Bool) × (i : ℕ) × (m ≡ given_node g p i) × IsGiftNumber b registers flags g i)
      (λ m i h. (true, 0 + h.0, h.3, (omega (arith, h.1), h.2))) f.inputs);
  words = λ i h. grew_width mid new _ _ _ _ _ 32 (slice_index (places n.registers.items) i) f.grew (r.wide i h);
  bits = f.wide;
  memory = m;
  word_value = λ x i h. ap (λ z. z.word) (f.grew.keeps x (slice_index (places n.registers.items) i) (r.wide i (omega (arith, h, r.count))).0) ∙ r.value x i h;
  bit_value = λ x i h.
      f.value x i h
      ∙ ap (λ j. if is_in flags j then x.flags p j else term_word x mid (slice_index (places b.flags.items) i)) (let z : 0 + i ≡ i = omega arith in z)
      ∙ ap (λ z. if is_in flags i then x.flags p i else z)
      (ap (λ z. z.word) (r.grew.keeps x (slice_index (places b.flags.items) i) (bs i (omega (arith, h, places_count b.flags.items))).0));
}
