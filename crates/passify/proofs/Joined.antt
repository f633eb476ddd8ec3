-- The terms of one of two states.
use Rattle.std.proofs.Common.{◌≡◌, ℕ, ◌*◌, ◌≤◌, Bool, true, false, List, [], ◌∷◌, Some, None, length, ap, sym, ◌∙◌, subst, arith}
use Rattle.std.specs.Prelude.{◌==◌, if◌then◌else◌, map}
use Rattle.term_spec.specs.Terms.{TermReading, TermNode}
use Rattle.term_dag.specs.Made.{Separates}
use Rattle.term_dag.proofs.Growth.{grew_none, grew_more, inputs_none}
use Rattle.term_dag.specs.declared.nodes.Term.{Term}
use Rattle.term_spec.specs.Passive.{AreNames, Denotes}
use Rattle.term_spec.specs.Passive as walk
use Rattle.walk_spec.specs.Unrolled.{UnrolledProgram, Carried}
use Rattle.term_names.specs.declared.names.Names.{Names}
use Rattle.term_names.specs.Views.{form_of, names_of}
use Rattle.term_names.specs.Chosen.{HaveSameForm, HaveSameTerms, AreSelected, differing_bits, differing_memory, differing_terms}
use Rattle.term_names.specs.Choices.{differing}
use Rattle.note_terms.proofs.Valued.{form_same}
use Rattle.passify.specs.Sweeps.{AreTermsOf, IsJoined, bits_of, terms_of}

some_is : {X : Type 0} → (a b : X) → Some a ≡ Some b → a ≡ b
some_is a b e = cc

one_at_most : (b : Bool) → (if b then 0 else 1) ≤ 1
one_at_most true = omega arith
one_at_most false = omega arith

few_differ : (xs ys : List Term) → differing (map (λ t. t.0) xs) (map (λ t. t.0) ys) ≤ length xs
few_differ [] ys = omega arith
few_differ (x ∷ xs) [] = omega arith
few_differ (x ∷ xs) (y ∷ ys) = let h = one_at_most (x.0 == y.0) in let k = few_differ xs ys in omega (arith, h, k)

pub form_on : (a b c : Names) → HaveSameForm a b → HaveSameForm b c → HaveSameForm a c
form_on a b c p q = record { first = p.first ∙ q.first; registers = p.registers ∙ q.registers; flags = p.flags ∙ q.flags }

pub selected_joined : (old new : List TermNode) (hit met first : ℕ) (a b n : Names) → Separates old hit met first → AreSelected old new first a b n →
    IsJoined a old new hit met a (Some b) n
selected_joined old new hit met first a b n sep k = record {
  grew =
      (let r = few_differ a.registers.items b.registers.items in
      let f = few_differ a.flags.items b.flags.items in
      let m = one_at_most (a.memory.0 == b.memory.0) in
      grew_more old new (differing_bits a b) 0 0 (differing_memory a b) (2 * differing_terms a b) (bits_of a) 0 0 1 (2 * terms_of a)
      (omega (arith, r, f)) (omega arith) (omega arith) m (omega (arith, r, f, m)) k.grew);
  inputs = k.inputs;
  terms = record { same = k.form; names = k.names };
  first = λ x r h c d. k.when_true x r (sep.first x r h) c d;
  second = λ x r h m c d. (let e : b ≡ d.names = some_is b d.names (some_is (Some b) (Some d.names) d.is) in
      k.when_false x r (sep.second x r m h) c (subst (λ (z : Names). Denotes (form_of z) old x (names_of z) c) (sym e) d.denotes));
}

same_form : (a b : Names) → HaveSameTerms a b → HaveSameForm a b
same_form a b h = record { first = h.first; registers = ap (λ l. length l) h.registers; flags = ap (λ l. length l) h.flags }

terms_same : (a b : Names) → HaveSameTerms a b → names_of a ≡ names_of b
terms_same a b h = ap (λ (z : List Term). put z a.flags.items a.memory) h.registers ∙ ap (λ (z : List Term). put b.registers.items z a.memory) h.flags ∙ ap
    (λ (z : Term). put b.registers.items b.flags.items z) h.memory
  where
    put : List Term → List Term → Term → walk.Names
    put r f m = record { registers = map (λ t. t.0) r; flags = map (λ t. t.0) f; memory = m.0 }

pub denotes_same : (nodes : List TermNode) (x : TermReading) (a b : Names) (c : Carried) → HaveSameTerms a b → Denotes (form_of a) nodes x (names_of a) c →
    Denotes (form_of b) nodes x (names_of b) c
denotes_same nodes x a b c h d =
    subst (λ (z : walk.Names). Denotes (form_of b) nodes x z c) (terms_same a b h) (subst
    (λ (z : UnrolledProgram). Denotes z nodes x (names_of a) c) (form_same a b (same_form a b h)) d)

pub copied_joined : (ns : List TermNode) (hit met : ℕ) (a n : Names) → AreTermsOf a ns a → HaveSameTerms a n → IsJoined a ns ns hit met a None n
copied_joined ns hit met a n w h = record {
  grew = grew_more ns ns 0 0 0 0 0 (bits_of a) 0 0 1 (2 * terms_of a) (omega arith) (omega arith) (omega arith) (omega arith) (omega arith) (grew_none ns);
  inputs = inputs_none ns (λ m. ⊥);
  terms = record {
    same = same_form a n h;
    names = subst (λ (z : walk.Names). AreNames (form_of n) ns z) (terms_same a n h) (subst
        (λ (z : UnrolledProgram). AreNames z ns (names_of a)) (form_same a n (same_form a n h)) w.names);
  };
  first = λ x r q c d. denotes_same ns x a n c h d;
  second = λ x r q m c d. absurd (no d.names d.is);
}
  where
    no : (k : Names) → Some None ≡ Some (Some k) → ⊥
    no k e = cc

pub form_back : (a b : Names) → HaveSameForm a b → HaveSameForm b a
form_back a b h = record { first = sym h.first; registers = sym h.registers; flags = sym h.flags }

-- the same terms are for the same registers and flags
pub terms_alike : (nodes : List TermNode) (form a b : Names) → AreTermsOf form nodes a → HaveSameTerms a b → AreTermsOf form nodes b
terms_alike nodes form a b w h = record {
  same = form_on form a b w.same (same_form a b h);
  names = subst (λ (z : walk.Names). AreNames (form_of b) nodes z) (terms_same a b h) (subst
      (λ (z : UnrolledProgram). AreNames z nodes (names_of a)) (form_same a b (same_form a b h)) w.names);
}
