-- The nodes of the code as those of the definitions, and which of them are inputs.
use Rattle.std.specs.Prelude.{ℕ, List, map, slice_index_or}
use Rattle.bil_ast.specs.Views.{binary_of}
use Rattle.word_spec.specs.Memory.{endian}
use Rattle.term_spec.specs.Terms.{TermNode, RegisterNode, FlagNode, ChoiceNode, BaseNode, MemoryNode, ConstantNode, BinaryNode, NotNode, SelectNode, ExtractNode, ConcatNode, ExtendNode, LoadNode, StoreNode, JoinNode, TakeNode}
use Rattle.term_dag.specs.declared.nodes.Term.{Term}
use Rattle.term_dag.specs.declared.nodes.Node.{Node}
use Rattle.term_dag.specs.declared.nodes.Node.TheVariants as node

-- a node
abbrev pub node_of : Node → TermNode
node_of (node.Register p r) = RegisterNode p r
node_of (node.Flag p f) = FlagNode p f
node_of (node.Choice i) = ChoiceNode i
node_of (node.Base p j) = BaseNode p j
node_of (node.Memory p) = MemoryNode p
node_of (node.Constant w v) = ConstantNode w v
node_of (node.Binary o w a b) = BinaryNode (binary_of o) w a.0 b.0
node_of (node.Not w a) = NotNode w a.0
node_of (node.Select w c a b) = SelectNode w c.0 a.0 b.0
node_of (node.Extract hi lo a) = ExtractNode hi lo a.0
node_of (node.Concat high low a b) = ConcatNode high low a.0 b.0
node_of (node.Extend signed n m a) = ExtendNode signed n m a.0
node_of (node.Load n big m a) = LoadNode n (endian big) m.0 a.0
node_of (node.Store n big m a v) = StoreNode n (endian big) m.0 a.0 v.0
node_of (node.Join c a b) = JoinNode c.0 a.0 b.0
node_of (node.Take n m a p) = TakeNode n m.0 a.0 p

-- the nodes of a list
abbrev pub nodes_of : List Node → List TermNode
nodes_of ns = map node_of ns

-- the place of the term at a place among some
abbrev pub term_at : List Term → ℕ → ℕ
term_at terms i = (slice_index_or terms i (record { 0 = 0 })).0

-- the node is an input that is a word
abbrev pub IsWordInput : TermNode → Type 0
IsWordInput (RegisterNode p n) = Unit {0}
IsWordInput (FlagNode p f) = Unit {0}
IsWordInput (ChoiceNode i) = Unit {0}
IsWordInput (BaseNode p j) = Unit {0}
IsWordInput n = ⊥

-- the node names what a reading gives: it is an input, or takes bytes of one
abbrev pub IsInput : TermNode → Type 0
IsInput (MemoryNode p) = Unit {0}
IsInput (TakeNode n m a p) = Unit {0}
IsInput n = IsWordInput n
