-- What an expression has, and an `all` of it.
use Rattle.std.proofs.Common.{◌≡◌, ℕ, ◌+◌, ◌*◌, ◌-◌, ◌^◌, ◌≤◌, refl, ap, sym, ◌∙◌, arith, List, [], ◌∷◌, map, length}
use Rattle.std.proofs.Math.Nat.{mul-suc}
use Rattle.bilv_spec.specs.Notes.{Expr, Number, Register, Flag, Pc, Bound, Memory, Old, Not, Binary, Each, put_bound, each, values, written_out}
use Rattle.bilv_spec.specs.Points.{is_product, is_written, products, value_count, bytes_loaded}
use Rattle.notes_value.specs.declared.expressions.Operator.{Operator}
use Rattle.notes_value.specs.declared.expressions.Operator.TheVariants as operator
use Rattle.notes_value.specs.Views.{op_of}
use Rattle.notes_value.proofs.WrittenOut.{loads_put}
use Rattle.unroller.specs.declared.costs.Parts.{Parts}
use Rattle.unroller.specs.LineCosts.{capped, others, HasParts, IsJoined, IsRepeated}
use Rattle.unroller.proofs.Capped.{times_is}
use Rattle.unroller.proofs.Looked.{count_of}

-- an operator of the code is one of the text
written_one : (op : Operator) → is_written (op_of op) ≡ 1
written_one operator.Or = refl
written_one operator.And = refl
written_one operator.Equal = refl
written_one operator.NotEqual = refl
written_one operator.Below = refl
written_one operator.AtMost = refl
written_one operator.Above = refl
written_one operator.AtLeast = refl
written_one operator.SignedBelow = refl
written_one operator.SignedAtMost = refl
written_one operator.SignedAbove = refl
written_one operator.SignedAtLeast = refl
written_one operator.BitOr = refl
written_one operator.BitXor = refl
written_one operator.BitAnd = refl
written_one operator.ShiftLeft = refl
written_one operator.ShiftRight = refl
written_one operator.ShiftSigned = refl
written_one operator.Plus = refl
written_one operator.Minus = refl
written_one operator.Times = refl

-- the parts of two expressions under an operator
pub joined_has : (op : Operator) (a b p : Parts) (e f : Expr) → HasParts a e → HasParts b f → IsJoined (is_product (op_of op)) a b p →
    HasParts p (Binary (op_of op) e f)
joined_has op a b p e f h k j =
    let written = written_one op in
    record {
      products = let x = h.products in let y = k.products in let z = j.products in omega (arith, x, y, z);
      others = let x = h.others in let y = k.others in let z = j.others in omega (arith, x, y, z, written);
      values = let x = h.values in let y = k.values in let z = j.values in omega (arith, x, y, z, written);
      loads = let x = h.loads in let y = k.loads in let z = j.loads in omega (arith, x, y, z);
    }

-- a number in place of the bound name changes no part
products_put : (v : ℕ) (e : Expr) → products (put_bound v e) ≡ products e
products_put v (Number n) = refl
products_put v (Register r) = refl
products_put v (Flag f) = refl
products_put v Pc = refl
products_put v Bound = refl
products_put v (Memory n a) = products_put v a
products_put v (Old a) = products_put v a
products_put v (Not a) = products_put v a
products_put v (Binary op a b) = let h = products_put v a in let k = products_put v b in omega arith

others_put : (v : ℕ) (e : Expr) → others (put_bound v e) ≡ others e
others_put v (Number n) = refl
others_put v (Register r) = refl
others_put v (Flag f) = refl
others_put v Pc = refl
others_put v Bound = refl
others_put v (Memory n a) = others_put v a
others_put v (Old a) = others_put v a
others_put v (Not a) = ap (λ z. z + 1) (others_put v a)
others_put v (Binary op a b) = let h = others_put v a in let k = others_put v b in omega arith

values_put : (v : ℕ) (e : Expr) → value_count (put_bound v e) ≡ value_count e
values_put v (Number n) = refl
values_put v (Register r) = refl
values_put v (Flag f) = refl
values_put v Pc = refl
values_put v Bound = refl
values_put v (Memory n a) = values_put v a
values_put v (Old a) = values_put v a
values_put v (Not a) = values_put v a
values_put v (Binary op a b) = let h = values_put v a in let k = values_put v b in omega arith

-- A number of an expression that is summed over its parts, to which each value adds so many: an `all` has it once for each value.
module _ (f : Expr → ℕ) (c : ℕ) (put : (v : ℕ) (e : Expr) → f (put_bound v e) ≡ f e) (none : f (Number 1) ≡ 0)
    (more : (a b : Expr) → f (Binary Each a b) ≡ c + f a + f b) where
  joined_count : (e : Expr) (vs : List ℕ) → f (each (map (λ v. put_bound v e) vs)) ≡ (f e + c) * length vs
  joined_count e [] = none ∙ (omega arith)
  joined_count e (v ∷ vs) =
      let one = put v e in
      let rest = joined_count e vs in
      let whole = more (put_bound v e) (each (map (λ w. put_bound w e) vs)) in
      let times = mul-suc (f e + c) (length vs) in
      omega (arith, one, rest, whole, times)

  written_count : (low high : ℕ) (e : Expr) → f (written_out low high e) ≡ (f e + c) * (high - low + 1)
  written_count low high e =
      joined_count e (values low high)
      ∙ ap (λ z. (f e + c) * z) (let n = count_of (low + 1) (high - low) in let q : length (values low high) ≡ high - low + 1 = omega (arith, n) in q)

-- the parts of an `all`
pub repeated_has : (low high n : ℕ) (a p : Parts) (e : Expr) → n ≡ high - low + 1 → n ≤ 2 ^ 32 → HasParts a e → IsRepeated n a p →
    HasParts p (written_out low high e)
repeated_has low high n a p e is small h r =
    let size : n ≡ capped (high - low + 1) = omega arith in
    record {
      products = times_is a.products n (products e + 0) (high - low + 1) p.products (h.products ∙ (omega arith)) size r.products
          ∙ ap capped (sym (written_count products 0 products_put refl (λ x y. refl) low high e));
      others = times_is a.others n (others e + 0) (high - low + 1) p.others (h.others ∙ (omega arith)) size r.others
          ∙ ap capped (sym (written_count others 0 others_put refl (λ x y. (omega arith)) low high e));
      values = times_is (capped (a.values + 1)) n (value_count e + 1) (high - low + 1) p.values
          (ap (λ (z : ℕ). capped (z + 1)) h.values ∙ (omega arith)) size r.values
          ∙ ap capped (sym (written_count value_count 1 values_put refl (λ x y. refl) low high e));
      loads = times_is a.loads n (bytes_loaded e + 0) (high - low + 1) p.loads (h.loads ∙ (omega arith)) size r.loads
          ∙ ap capped (sym (written_count bytes_loaded 0 loads_put refl (λ x y. (omega arith)) low high e));
    }
