-- Nodes that `==` finds equal are equal, and so are nodes that are seen as one.
use Rattle.std.proofs.Common.{◌≡◌, ℕ, Bool, true, false, rules, refl, sym, ap, ◌∙◌, subst}
use Rattle.machine_spec.specs.Bil as bil
use Rattle.word_spec.specs.Memory as memory
use Rattle.term_spec.specs.Terms.{TermNode, RegisterNode, FlagNode, ChoiceNode, BaseNode, MemoryNode, ConstantNode, BinaryNode, NotNode, SelectNode, ExtractNode, ConcatNode, ExtendNode, LoadNode, StoreNode, JoinNode, TakeNode}
use Rattle.term_dag.specs.declared.nodes.Term.{Term}
use Rattle.bil_ast.specs.declared.names.BinaryOp.{BinaryOp}
use Rattle.bil_ast.specs.declared.names.BinaryOp.TheVariants as op
use Rattle.term_dag.specs.declared.nodes.Node.{Node}
use Rattle.term_dag.specs.declared.nodes.Node.TheVariants as node
use Rattle.term_dag.specs.contracts.nodes.NodePartialEq.TheImpl.{eq-value}
use Rattle.bil_ast.specs.Views.{binary_of}
use Rattle.term_dag.specs.Nodes.{node_of}

same_binary : (o p : BinaryOp) (w v : ℕ) (a b c d : Term) → (eq-value).it (node.Binary o w a b) (node.Binary p v c d) ≡ true →
    node.Binary o w a b ≡ node.Binary p v c d
same_binary op.Plus p w v a b c d h = search rules
same_binary op.Minus p w v a b c d h = search rules
same_binary op.Times p w v a b c d h = search rules
same_binary op.Divide p w v a b c d h = search rules
same_binary op.SignedDivide p w v a b c d h = search rules
same_binary op.Modulo p w v a b c d h = search rules
same_binary op.SignedModulo p w v a b c d h = search rules
same_binary op.And p w v a b c d h = search rules
same_binary op.Or p w v a b c d h = search rules
same_binary op.Xor p w v a b c d h = search rules
same_binary op.ShiftLeft p w v a b c d h = search rules
same_binary op.ShiftRight p w v a b c d h = search rules
same_binary op.ShiftSigned p w v a b c d h = search rules
same_binary op.Equal p w v a b c d h = search rules
same_binary op.NotEqual p w v a b c d h = search rules
same_binary op.Less p w v a b c d h = search rules
same_binary op.LessEqual p w v a b c d h = search rules
same_binary op.SignedLess p w v a b c d h = search rules
same_binary op.SignedLessEqual p w v a b c d h = search rules

same_as_binary : (o : BinaryOp) (w : ℕ) (a b : Term) (y : Node) → (eq-value).it (node.Binary o w a b) y ≡ true → node.Binary o w a b ≡ y
same_as_binary o w a b (node.Binary p v c d) h = same_binary o p w v a b c d h
same_as_binary o w a b (node.Register k r) h = search rules
same_as_binary o w a b (node.Flag k f) h = search rules
same_as_binary o w a b (node.Choice i) h = search rules
same_as_binary o w a b (node.Base k j) h = search rules
same_as_binary o w a b (node.Memory k) h = search rules
same_as_binary o w a b (node.Constant z v) h = search rules
same_as_binary o w a b (node.Not z x) h = search rules
same_as_binary o w a b (node.Select z t x y) h = search rules
same_as_binary o w a b (node.Extract hi lo x) h = search rules
same_as_binary o w a b (node.Concat high low x y) h = search rules
same_as_binary o w a b (node.Extend s n m x) h = search rules
same_as_binary o w a b (node.Load n big m x) h = search rules
same_as_binary o w a b (node.Store n big m x v) h = search rules
same_as_binary o w a b (node.Join t x y) h = search rules
same_as_binary o w a b (node.Take n m x p) h = search rules

pub same : (x y : Node) → (eq-value).it x y ≡ true → x ≡ y
same (node.Register k r) y h = search rules
same (node.Flag k f) y h = search rules
same (node.Choice i) y h = search rules
same (node.Base k j) y h = search rules
same (node.Memory k) y h = search rules
same (node.Constant w v) y h = search rules
same (node.Binary o w a b) y h = same_as_binary o w a b y h
same (node.Not w a) y h = search rules
same (node.Select w c a b) y h = search rules
same (node.Extract hi lo a) y h = search rules
same (node.Concat high low a b) y h = search rules
same (node.Extend s n m a) y h = search rules
same (node.Load n big m a) y h = search rules
same (node.Store n big m a v) y h = search rules
same (node.Join c a b) y h = search rules
same (node.Take n m a p) y h = search rules

itself : (x : Node) → (eq-value).it x x ≡ true
itself (node.Register k r) = search rules
itself (node.Flag k f) = search rules
itself (node.Choice i) = search rules
itself (node.Base k j) = search rules
itself (node.Memory k) = search rules
itself (node.Constant w v) = search rules
itself (node.Binary o w a b) = search rules
itself (node.Not w a) = search rules
itself (node.Select w c a b) = search rules
itself (node.Extract hi lo a) = search rules
itself (node.Concat high low a b) = search rules
itself (node.Extend s n m a) = search rules
itself (node.Load n big m a) = search rules
itself (node.Store n big m a v) = search rules
itself (node.Join c a b) = search rules
itself (node.Take n m a p) = search rules

-- the operator that is seen so
abbrev back_op : bil.BinaryOp → BinaryOp
back_op bil.Plus = op.Plus
back_op bil.Minus = op.Minus
back_op bil.Times = op.Times
back_op bil.Divide = op.Divide
back_op bil.SignedDivide = op.SignedDivide
back_op bil.Modulo = op.Modulo
back_op bil.SignedModulo = op.SignedModulo
back_op bil.And = op.And
back_op bil.Or = op.Or
back_op bil.Xor = op.Xor
back_op bil.ShiftLeft = op.ShiftLeft
back_op bil.ShiftRight = op.ShiftRight
back_op bil.ShiftSigned = op.ShiftSigned
back_op bil.Equal = op.Equal
back_op bil.NotEqual = op.NotEqual
back_op bil.Less = op.Less
back_op bil.LessEqual = op.LessEqual
back_op bil.SignedLess = op.SignedLess
back_op bil.SignedLessEqual = op.SignedLessEqual

back_op_of : (o : BinaryOp) → back_op (binary_of o) ≡ o
back_op_of op.Plus = refl
back_op_of op.Minus = refl
back_op_of op.Times = refl
back_op_of op.Divide = refl
back_op_of op.SignedDivide = refl
back_op_of op.Modulo = refl
back_op_of op.SignedModulo = refl
back_op_of op.And = refl
back_op_of op.Or = refl
back_op_of op.Xor = refl
back_op_of op.ShiftLeft = refl
back_op_of op.ShiftRight = refl
back_op_of op.ShiftSigned = refl
back_op_of op.Equal = refl
back_op_of op.NotEqual = refl
back_op_of op.Less = refl
back_op_of op.LessEqual = refl
back_op_of op.SignedLess = refl
back_op_of op.SignedLessEqual = refl

abbrev is_big : memory.Endian → Bool
is_big memory.Little = false
is_big memory.Big = true

is_big_of : (b : Bool) → is_big (memory.endian b) ≡ b
is_big_of true = refl
is_big_of false = refl

-- the node that is seen so
abbrev back : TermNode → Node
back (RegisterNode p r) = node.Register p r
back (FlagNode p f) = node.Flag p f
back (ChoiceNode i) = node.Choice i
back (BaseNode p j) = node.Base p j
back (MemoryNode p) = node.Memory p
back (ConstantNode w v) = node.Constant w v
back (BinaryNode o w a b) = node.Binary (back_op o) w (record { 0 = a }) (record { 0 = b })
back (NotNode w a) = node.Not w (record { 0 = a })
back (SelectNode w c a b) = node.Select w (record { 0 = c }) (record { 0 = a }) (record { 0 = b })
back (ExtractNode hi lo a) = node.Extract hi lo (record { 0 = a })
back (ConcatNode high low a b) = node.Concat high low (record { 0 = a }) (record { 0 = b })
back (ExtendNode s n m a) = node.Extend s n m (record { 0 = a })
back (LoadNode n e m a) = node.Load n (is_big e) (record { 0 = m }) (record { 0 = a })
back (StoreNode n e m a v) = node.Store n (is_big e) (record { 0 = m }) (record { 0 = a }) (record { 0 = v })
back (JoinNode c a b) = node.Join (record { 0 = c }) (record { 0 = a }) (record { 0 = b })
back (TakeNode n m a p) = node.Take n (record { 0 = m }) (record { 0 = a }) p

back_of : (x : Node) → back (node_of x) ≡ x
back_of (node.Register k r) = refl
back_of (node.Flag k f) = refl
back_of (node.Choice i) = refl
back_of (node.Base k j) = refl
back_of (node.Memory k) = refl
back_of (node.Constant w v) = refl
back_of (node.Binary o w a b) = ap (λ z. node.Binary z w a b) (back_op_of o)
back_of (node.Not w a) = refl
back_of (node.Select w c a b) = refl
back_of (node.Extract hi lo a) = refl
back_of (node.Concat high low a b) = refl
back_of (node.Extend s n m a) = refl
back_of (node.Load n big m a) = ap (λ z. node.Load n z m a) (is_big_of big)
back_of (node.Store n big m a v) = ap (λ z. node.Store n z m a v) (is_big_of big)
back_of (node.Join c a b) = refl
back_of (node.Take n m a p) = refl

-- nodes that are seen as one are found equal
pub seen_same : (x y : Node) → node_of x ≡ node_of y → (eq-value).it x y ≡ true
seen_same x y h =
    let e : x ≡ y = sym (back_of x) ∙ ap back h ∙ back_of y in
    subst (λ (z : Node). (eq-value).it x z ≡ true) e (itself x)
