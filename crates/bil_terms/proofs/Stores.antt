-- What is stored, as nodes are added and as one step comes behind another.
use Rattle.std.proofs.Common.{◌≡◌, ℕ, List, ◌++◌, sym, ◌∙◌, subst, arith, inl, inr}
use Rattle.std.specs.Prelude.{◌↔◌, Contains}
use Rattle.std.proofs.lemmas.List.Elements.{Contains-append_left, Contains-append_right, Contains-append_cases}
use Rattle.word_spec.specs.Memory.{span}
use Rattle.term_spec.specs.Terms.{TermReading, TermNode, term_word}
use Rattle.term_dag.specs.Made.{Grew}
use Rattle.term_names.specs.declared.names.Names.{Names}
use Rattle.term_names.specs.Chosen.{HaveSameForm}
use Rattle.bil_terms.specs.declared.stored.Stored.{Stored}
use Rattle.bil_terms.specs.Gathered.{IsStore}
use Rattle.bil_terms.specs.Runs.{IsStoredBy}
use Rattle.bil_terms.proofs.Scopes.{word_kept}

pub same_form_on : (a b c : Names) → HaveSameForm a b → HaveSameForm b c → HaveSameForm a c
same_form_on a b c p q = record { first = p.first ∙ q.first; registers = p.registers ∙ q.registers; flags = p.flags ∙ q.flags }

-- where the run does not come by, nothing is stored
pub none_stored : (d : List TermNode) (x : TermReading) (more : List Stored) (a : ℕ) → ((t : Stored) → Contains more t → term_word x d t.guard.0 ≡ 0) →
    IsStoredBy d x more a → ⊥
none_stored d x more a h c = absurd (let z : 0 ≡ 1 = sym (h c.0 c.1) ∙ c.2 in omega arith)

-- what is stored stays so as nodes are added
pub stored_kept : (old new : List TermNode) (g l s j n : ℕ) (x : TermReading) (more : List Stored) (a : ℕ) → Grew old new g l s j n →
    ((t : Stored) → Contains more t → IsStore old t) →
    IsStoredBy old x more a ↔ IsStoredBy new x more a
stored_kept old new g l s j n x more a p h = (
  λ c. (
    c.0,
    c.1,
    word_kept old new g l s j n _ x p (h c.0 c.1).guard.0 ∙ c.2,
    subst (λ (z : ℕ). Contains (span z c.0.bytes) a) (sym (word_kept old new g l s j n c.0.address.0 x p (h c.0 c.1).address.0)) c.3,
  ),
  λ c. (
    c.0,
    c.1,
    sym (word_kept old new g l s j n _ x p (h c.0 c.1).guard.0) ∙ c.2,
    subst (λ (z : ℕ). Contains (span z c.0.bytes) a) (word_kept old new g l s j n c.0.address.0 x p (h c.0 c.1).address.0) c.3,
  ),
)

pub stored_both : (d : List TermNode) (x : TermReading) (xs ys : List Stored) (a : ℕ) (ps qs : List ℕ) → Contains ps a ↔ IsStoredBy d x xs a → Contains qs a ↔
    IsStoredBy d x ys a →
    Contains (ps ++ qs) a ↔ IsStoredBy d x (xs ++ ys) a
stored_both d x xs ys a ps qs p q = (
  λ c. elim (Contains-append_cases ps qs a c) [
    | inl k ↦ (let z = p.0 k in (z.0, Contains-append_left xs ys z.0 z.1, z.2, z.3))
    | inr k ↦ (let z = q.0 k in (z.0, Contains-append_right xs ys z.0 z.1, z.2, z.3))
  ],
  λ c. elim (Contains-append_cases xs ys c.0 c.1) [
    | inl k ↦ Contains-append_left ps qs a (p.1 (c.0, k, c.2, c.3))
    | inr k ↦ Contains-append_right ps qs a (q.1 (c.0, k, c.2, c.3))
  ],
)

pub stored_then : (d : List TermNode) (x : TermReading) (more : List Stored) (a : ℕ) (ps : List ℕ) (T : Type 0) → Contains ps a ↔ T → T ↔
    IsStoredBy d x more a →
    Contains ps a ↔ IsStoredBy d x more a
stored_then d x more a ps T p q = (λ c. q.0 (p.0 c), λ c. p.1 (q.1 c))
