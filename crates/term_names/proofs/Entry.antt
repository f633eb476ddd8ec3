-- The terms of the state of a part, one by one.
use Rattle.std.proofs.Common.{◌≡◌, ℕ, ◌+◌, ◌≤◌, List, [], ◌∷◌, ◌++◌, length, refl, ap, sym, ◌∙◌, subst, arith, length-append}
use Rattle.std.specs.Prelude.{slice_index}
use Rattle.std.proofs.lemmas.List.{map-append}
use Rattle.term_spec.specs.Terms.{TermNode, RegisterNode, FlagNode, ChoiceNode, BaseNode, MemoryNode, TakeNode, HasWidth, term_word}
use Rattle.term_dag.specs.Nodes.{IsInput}
use Rattle.term_dag.specs.Made.{IsInterned}
use Rattle.term_dag.specs.declared.nodes.Term.{Term}
use Rattle.term_dag.proofs.Growth.{grew_none, grew_on, grew_width, interned_grew, interned_width, inputs_none, inputs_on, inputs_more, interned_inputs}
use Rattle.term_names.specs.Choices.{places}
use Rattle.term_names.specs.Chosen.{IsOfPart, ArePartRegisters, ArePartFlags}
use Rattle.term_names.proofs.Choices.{each_more}

pub no_registers : (ns : List TermNode) (p low : ℕ) → ArePartRegisters ns ns p low 0 []
no_registers ns p low = record {
  grew = grew_none ns;
  inputs = inputs_none ns (IsOfPart p low 0 0);
  count = refl;
  wide = λ i h. absurd (omega arith);
  value = λ x i h. absurd (omega arith);
}

pub more_of_part : (p low n k f g : ℕ) → n ≤ k → f ≤ g → (m : TermNode) → IsInput m → IsOfPart p low n f m → IsOfPart p low k g m
more_of_part p low n k f g h e (RegisterNode q r) i c = (c.0, c.1, omega (arith, c.2, h))
more_of_part p low n k f g h e (FlagNode q b) i c = (c.0, omega (arith, c.1, e))
more_of_part p low n k f g h e (ChoiceNode b) i c = c
more_of_part p low n k f g h e (BaseNode q b) i c = c
more_of_part p low n k f g h e (MemoryNode q) i c = c
more_of_part p low n k f g h e (TakeNode m a b q) i c = c
more_of_part p low n k f g h e m i c = absurd i

pub more_registers : (old mid new : List TermNode) (p low n : ℕ) (ts us : List Term) (t : Term) → us ≡ ts ++ t ∷ [] →
    ArePartRegisters old mid p low n (places ts) →
    IsInterned mid new (RegisterNode p (low + n)) t.0 → ArePartRegisters old new p low (n + 1) (places us)
more_registers old mid new p low n ts us t e k q =
    let grew = interned_grew mid new (RegisterNode p (low + n)) t.0 q in
    let m : length (places ts ++ t.0 ∷ []) ≡ length (places ts) + 1 = length-append (places ts) (t.0 ∷ []) in
    let all : ArePartRegisters old new p low (n + 1) (places ts ++ t.0 ∷ []) = record {
      grew = grew_on old mid new _ _ _ _ _ _ _ _ _ _ k.grew grew;
      inputs = inputs_on old mid new (IsOfPart p low (n + 1) 0)
          (inputs_more old mid (IsOfPart p low n 0) (IsOfPart p low (n + 1) 0) (more_of_part p low n (n + 1) 0 0 (omega arith) (omega arith)) k.inputs)
          (interned_inputs mid new (RegisterNode p (low + n)) t.0 (IsOfPart p low (n + 1) 0) q (λ i. (refl, omega arith, omega arith)));
      count = omega (arith, k.count, m);
      wide = λ i h. each_more (λ j v. HasWidth new 32 v) (places ts) t.0 (λ j l. grew_width mid new _ _ _ _ _ 32 (slice_index (places ts) j) grew (k.wide j l))
          (interned_width mid new (RegisterNode p (low + n)) t.0 32 q refl) i (omega (arith, m));
      value = λ x i h. each_more (λ j v. term_word x new v ≡ x.regs p (low + j)) (places ts) t.0
          (λ j l. ap (λ z. z.word) (grew.keeps x (slice_index (places ts) j) (k.wide j l).0) ∙ k.value x j (omega (arith, k.count)))
          (ap (λ z. z.word) (q.value x) ∙ ap (λ z. x.regs p (low + z)) (sym k.count)) i (omega (arith, k.count, m));
    } in
    subst (λ z. ArePartRegisters old new p low (n + 1) z) (sym (ap places e ∙ map-append (λ (t : Term). t.0) ts (t ∷ []))) all

pub no_flags : (ns : List TermNode) (p : ℕ) → ArePartFlags ns ns p 0 []
no_flags ns p = record {
  grew = grew_none ns;
  inputs = inputs_none ns (IsOfPart p 0 0 0);
  count = refl;
  wide = λ i h. absurd (omega arith);
  value = λ x i h. absurd (omega arith);
}

pub more_flags : (old mid new : List TermNode) (p n : ℕ) (ts us : List Term) (t : Term) → us ≡ ts ++ t ∷ [] → ArePartFlags old mid p n (places ts) →
    IsInterned mid new (FlagNode p n) t.0 → ArePartFlags old new p (n + 1) (places us)
more_flags old mid new p n ts us t e k q =
    let grew = interned_grew mid new (FlagNode p n) t.0 q in
    let m : length (places ts ++ t.0 ∷ []) ≡ length (places ts) + 1 = length-append (places ts) (t.0 ∷ []) in
    let all : ArePartFlags old new p (n + 1) (places ts ++ t.0 ∷ []) = record {
      grew = grew_on old mid new _ _ _ _ _ _ _ _ _ _ k.grew grew;
      inputs = inputs_on old mid new (IsOfPart p 0 0 (n + 1)) (inputs_more old mid (IsOfPart p 0 0 n) (IsOfPart p 0 0 (n + 1))
          (more_of_part p 0 0 0 n (n + 1) (omega arith) (omega arith)) k.inputs)
          (interned_inputs mid new (FlagNode p n) t.0 (IsOfPart p 0 0 (n + 1)) q (λ i. (refl, omega arith)));
      count = omega (arith, k.count, m);
      wide = λ i h. each_more (λ j v. HasWidth new 1 v) (places ts) t.0 (λ j l. grew_width mid new _ _ _ _ _ 1 (slice_index (places ts) j) grew (k.wide j l))
          (interned_width mid new (FlagNode p n) t.0 1 q refl) i (omega (arith, m));
      value = λ x i h. each_more (λ j v. term_word x new v ≡ x.flags p j) (places ts) t.0
          (λ j l. ap (λ z. z.word) (grew.keeps x (slice_index (places ts) j) (k.wide j l).0) ∙ k.value x j (omega (arith, k.count)))
          (ap (λ z. z.word) (q.value x) ∙ ap (x.flags p) (sym k.count)) i (omega (arith, k.count, m));
    } in
    subst (λ z. ArePartFlags old new p (n + 1) z) (sym (ap places e ∙ map-append (λ (t : Term). t.0) ts (t ∷ []))) all
