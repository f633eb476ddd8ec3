-- Nodes over other places: they are inputs as the nodes are, and can be moved again.
use Rattle.std.proofs.Common.{◌≡◌, ℕ, List, refl, sym, subst}
use Rattle.term_spec.specs.Terms.{TermNode, RegisterNode, FlagNode, ChoiceNode, BaseNode, MemoryNode, ConstantNode, BinaryNode, NotNode, SelectNode, ExtractNode, ConcatNode, ExtendNode, LoadNode, StoreNode, JoinNode, TakeNode}
use Rattle.term_spec.specs.WalkQuestions.{IsNamedBelow, AreNamedBelow}
use Rattle.walk_spec.specs.Unrolled.{UnrolledProgram}
use Rattle.term_dag.specs.Nodes.{IsInput}
use Rattle.term_dag.specs.Made.{moved}
use Rattle.term_dag.proofs.Copies.{moved_named}
use Rattle.weakest_pre.specs.Copies.{IsMoved}

-- only an input is moved to one
pub input_moved : (f : ℕ → ℕ) (n : TermNode) → IsInput (moved f n) → IsInput n
input_moved f (RegisterNode p r) h = h
input_moved f (FlagNode p r) h = h
input_moved f (ChoiceNode i) h = h
input_moved f (BaseNode p j) h = h
input_moved f (MemoryNode p) h = h
input_moved f (ConstantNode w v) h = h
input_moved f (BinaryNode o w a b) h = h
input_moved f (NotNode w a) h = h
input_moved f (SelectNode w c a b) h = h
input_moved f (ExtractNode hi lo a) h = h
input_moved f (ConcatNode high low a b) h = h
input_moved f (ExtendNode s n m a) h = h
input_moved f (LoadNode n e m a) h = h
input_moved f (StoreNode n e m a v) h = h
input_moved f (JoinNode c a b) h = h
input_moved f (TakeNode n m a p) h = tt

pub moved_twice : (f g : ℕ → ℕ) (n : TermNode) → moved f (moved g n) ≡ moved (λ a. f (g a)) n
moved_twice f g (RegisterNode p r) = refl
moved_twice f g (FlagNode p r) = refl
moved_twice f g (ChoiceNode i) = refl
moved_twice f g (BaseNode p j) = refl
moved_twice f g (MemoryNode p) = refl
moved_twice f g (ConstantNode w v) = refl
moved_twice f g (BinaryNode o w a b) = refl
moved_twice f g (NotNode w a) = refl
moved_twice f g (SelectNode w c a b) = refl
moved_twice f g (ExtractNode hi lo a) = refl
moved_twice f g (ConcatNode high low a b) = refl
moved_twice f g (ExtendNode s n m a) = refl
moved_twice f g (LoadNode n e m a) = refl
moved_twice f g (StoreNode n e m a v) = refl
moved_twice f g (JoinNode c a b) = refl
moved_twice f g (TakeNode n m a p) = refl

-- a copy of a node names the program's inputs where the nodes do
pub copied_named : (u : UnrolledProgram) (reads : ℕ) (source : List TermNode) (m : TermNode) → IsMoved source m → AreNamedBelow u reads source →
    IsNamedBelow u reads m
copied_named u reads source m h named = subst (IsNamedBelow u reads) (sym h.is) (moved_named u reads h.over h.node (named h.node h.there))
