-- What a refusal leaves of a list of nodes.
use Rattle.std.proofs.Common.{◌≡◌, refl, sym, ap, ◌∙◌, subst, ℕ, zero, suc, List, [], ◌∷◌, ◌++◌, length, take}
use Rattle.term_spec.specs.Terms.{TermNode, AreTyped, AreTypedFrom}
use Rattle.term_dag.specs.declared.nodes.Node.{Node}
use Rattle.term_dag.specs.Made.{Extends}
use Rattle.term_dag.specs.Nodes.{node_of, nodes_of}

-- the first nodes are typed over those before them
typed_first : (before ns : List TermNode) (k : ℕ) → AreTypedFrom before ns → AreTypedFrom before (take k ns)
typed_first before ns zero h = tt
typed_first before [] (suc k) h = tt
typed_first before (n ∷ ns) (suc k) h = (h.0, typed_first (before ++ n ∷ []) ns k h.1)

pub nodes_first : (k : ℕ) (ns : List Node) → nodes_of (take k ns) ≡ take k (nodes_of ns)
nodes_first zero ns = refl
nodes_first (suc k) [] = refl
nodes_first (suc k) (n ∷ ns) = ap (λ z. node_of n ∷ z) (nodes_first k ns)

-- so are those that are left
pub typed_left : (k : ℕ) (ns new : List Node) → new ≡ take k ns → AreTyped (nodes_of ns) → AreTyped (nodes_of new)
typed_left k ns new e h =
    subst AreTyped (sym (ap nodes_of e ∙ nodes_first k ns)) (typed_first [] (nodes_of ns) k h)

first_again : (old rest : List TermNode) → take (length old) (old ++ rest) ≡ old
first_again [] rest = refl
first_again (n ∷ old) rest = ap (λ z. n ∷ z) (first_again old rest)

-- of an extension the first terms are those that it extends
pub as_before : (old mid new : List TermNode) (k : ℕ) → Extends old mid → k ≡ length old → new ≡ take k mid → new ≡ old
as_before old mid new k (rest, e) l is =
    is ∙ ap (λ z. take z mid) l ∙ ap (take (length old)) e ∙ first_again old rest
