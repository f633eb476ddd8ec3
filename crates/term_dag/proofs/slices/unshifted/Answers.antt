use Rattle.std.proofs.Common.{◌≡◌, ℕ, ◌+◌, ◌-◌, ◌<◌, ◌≤◌, List, length, Option, Some, None, ap, sym, subst, ◌∙◌, arith}
use Rattle.std.specs.Prelude.{IfSome}
use Rattle.machine_spec.specs.Bil as bil
use Rattle.term_spec.specs.Terms.{TermNode, BinaryNode, node_at, width_of, AreTyped}
use Rattle.term_dag.specs.declared.nodes.Term.{Term}
use Rattle.term_dag.specs.declared.slices.Slice.{Slice}
use Rattle.bil_ast.specs.Views.{binary_of}
use Rattle.term_dag.specs.Folds.{IsSlice, IsConstant}
use Rattle.term_dag.proofs.ListLaws.{typed_here}
use Rattle.term_dag.proofs.Shapes.{slice_of_shift}
use Rattle.term_dag.proofs.ShiftLaws.{shl_bits, shr_bits, sar_bits}
use Rattle.term_dag.proofs.slices.unshifted.Goals as goal

left_shift : (ns : List TermNode) (hi lo t w l r k : ℕ) → AreTyped ns → t < length ns → lo ≤ hi → hi < width_of (node_at ns t) →
    BinaryNode bil.ShiftLeft w l r ≡ node_at ns t → IsConstant ns r k → k ≤ lo →
    IsSlice ns hi lo t (hi - k) (lo - k) l
left_shift ns hi lo t w l r k y p q f e c g =
    let j : hi < w = subst (λ (n : TermNode). hi < width_of n) (sym e) f in
    slice_of_shift ns bil.ShiftLeft hi lo t w l r k (hi - k) (lo - k) y p e c (omega arith) (omega arith) (omega arith) (λ v b. shl_bits hi lo w v k q j g)

right_shift : (ns : List TermNode) (hi lo t w l r k : ℕ) → AreTyped ns → t < length ns → lo ≤ hi → BinaryNode bil.ShiftRight w l r ≡ node_at ns t →
    IsConstant ns r k → hi + k < w →
    IsSlice ns hi lo t (hi + k) (lo + k) l
right_shift ns hi lo t w l r k y p q e c g =
    slice_of_shift ns bil.ShiftRight hi lo t w l r k (hi + k) (lo + k) y p e c (omega arith) g (omega arith) (λ v b. shr_bits hi lo w v k (omega arith))

signed_shift : (ns : List TermNode) (hi lo t w l r k : ℕ) → AreTyped ns → t < length ns → lo ≤ hi → BinaryNode bil.ShiftSigned w l r ≡ node_at ns t →
    IsConstant ns r k → hi + k < w →
    IsSlice ns hi lo t (hi + k) (lo + k) l
signed_shift ns hi lo t w l r k y p q e c g =
    slice_of_shift ns bil.ShiftSigned hi lo t w l r k (hi + k) (lo + k) y p e c (omega arith) g (omega arith) (λ v b. sar_bits hi lo w v k q (omega arith) b)

higher_slice : (o : Option Slice) (ns : List TermNode) (hi lo t w k : ℕ) (l : Term) → (hi + k < w → IsSlice ns hi lo t (hi + k) (lo + k) l.0) →
    IfSome o (λ s. s.term ≡ l) → IfSome o (λ s. s.hi ≡ hi + k) →
    IfSome o (λ s. s.lo ≡ lo + k) → IfSome o (λ s. s.hi < w) → IfSome o (λ s. IsSlice ns hi lo t s.hi s.lo s.term.0)
higher_slice None ns hi lo t w k l f a b d c = tt
higher_slice (Some s) ns hi lo t w k l f a b d c =
    subst (λ (z : Term). IsSlice ns hi lo t s.hi s.lo z.0) (sym a) (subst
    (λ (z : ℕ). IsSlice ns hi lo t s.hi z l.0) (sym d) (subst (λ (z : ℕ). IsSlice ns hi lo t z (lo + k) l.0) (sym b) (f (omega (arith, b, c)))))

pub constant-requires : goal.constant-requires
constant-requires c = record {
  within = (typed_here _ _ _ c.args.nodes.now.typed c.requires.within c.in-Binary.ensures).2.0;
}

pub returns-else-amount-lo : goal.returns-else-amount-lo
returns-else-amount-lo c =
    let a = c.in-Binary in
    let e = ap (λ o. BinaryNode (binary_of o) a.width a.left.0 a.right.0) (sym c.in-ShiftLeft.is) ∙ a.ensures in
    left_shift _ _ _ _ _ _ _ _ c.args.nodes.now.typed c.requires.within c.requires.order c.requires.fits e c.in_ok-amount.ensures c.if-amount-lo.false

pub returns-in-ShiftRight : goal.returns-in-ShiftRight
returns-in-ShiftRight c =
    let a = c.in-Binary in
    let e = ap (λ o. BinaryNode (binary_of o) a.width a.left.0 a.right.0) (sym c.in-ShiftRight.is) ∙ a.ensures in
    higher_slice c.higher.result _ _ _ _ a.width _ _ (right_shift _ _ _ _ _ _ _ _ c.args.nodes.now.typed c.requires.within c.requires.order e c.in_ok-amount.ensures)
    c.higher.ensures.term c.higher.ensures.hi c.higher.ensures.lo c.higher.ensures.within

pub returns-in-ShiftSigned : goal.returns-in-ShiftSigned
returns-in-ShiftSigned c =
    let a = c.in-Binary in
    let e = ap (λ o. BinaryNode (binary_of o) a.width a.left.0 a.right.0) (sym c.in-ShiftSigned.is) ∙ a.ensures in
    higher_slice c.higher-in-ShiftSigned.result _ _ _ _ a.width _ _
    (signed_shift _ _ _ _ _ _ _ _ c.args.nodes.now.typed c.requires.within c.requires.order e c.in_ok-amount.ensures) c.higher-in-ShiftSigned.ensures.term
    c.higher-in-ShiftSigned.ensures.hi c.higher-in-ShiftSigned.ensures.lo c.higher-in-ShiftSigned.ensures.within
