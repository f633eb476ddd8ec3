-- What the typing rules say of a node says the same of its operands.
use Rattle.std.proofs.Common.{◌≡◌, ℕ, ◌+◌, ◌-◌, ◌<◌, ◌≤◌, Bool, true, None, refl, sym, ap, ◌∙◌, subst, arith}
use Rattle.std.specs.Prelude.{◌&&◌, ◌||◌, nat_lt, nat_le}
use Rattle.std.proofs.lemmas.Bool.Decides.{nat_tests}
use Rattle.machine_spec.proofs.BilSound.{any_gave, bits_gave, both, fit_gave, memory_gave, neither, of_operand_gave, of_three, of_two, same, type_gave, wants_gave}
use Rattle.machine_spec.specs.Bil.{BilType, Bits, Memory, BilVariable, Register, Flag, Mem, Local, Expression, Var, Constant, Load, Store, Binary, Unary, Cast, Let, Unknown, Choose, Extract, Concat, type_of, size, list_size, Statements, Empty, Assign, JumpTo, Raise, Special, While, If}
use Rattle.machine_spec.specs.BilTyping.{list_fault, Has, type_or_fault, is_width, cast_fits, result_width, IsWellTyped}
use Rattle.machine_spec.specs.BilCounts.{names_only, list_names_only, is_local, width}
use Rattle.bil_eval.specs.Checked.{IsChecked, IsRunnable}

width_of_bits : (hi lo : ℕ) → lo ≤ hi → hi + 1 - lo ≡ hi - lo + 1
width_of_bits hi lo h = omega arith

-- an expression of another name of its type
as_type : (e : Expression) (known : BilVariable → Bool) (t u : BilType) → t ≡ u → IsChecked e t known → IsChecked e u known
as_type e known t u h p = subst (λ (z : BilType). IsChecked e z known) h p

-- an expression that has a type, over known variables
checked : (x : Expression) (at : ℕ) (k : BilType) (known : BilVariable → Bool) → type_or_fault at x ≡ Has k → names_only x known ≡ true → IsChecked x k known
checked (Var (Register b r)) at k known d n = as_type (Var (Register b r)) known (Bits 32) k (same d) (n, refl)
checked (Var (Flag f)) at k known d n = as_type (Var (Flag f)) known (Bits 1) k (same d) (n, refl)
checked (Var Mem) at k known d n = as_type (Var Mem) known Memory k (same d) tt
checked (Var (Local x m)) at k known d n = as_type (Var (Local x m)) known (Bits m) k (same (fit_gave _ _ _ _ _ d).1) (n, refl)
checked (Constant m v) at k known d n = as_type (Constant m v) known (Bits m) k (same (fit_gave _ _ _ _ _ d).1) (tt, refl)
checked (Load m a o w) at k known d n =
    let bs = both (names_only m known) (names_only a known) n in
    let i = of_two _ _ _ _ d in
    let f = memory_gave _ _ _ _ i.4 in
    let g = bits_gave _ _ _ _ _ f.1 in
    let l = fit_gave _ _ _ _ _ g.1 in
    let x = as_type m known _ Memory f.0 (checked m _ i.0 known i.2 bs.0) in
    let y = as_type a known _ (Bits 32) g.0 (checked a _ i.1 known i.3 bs.1) in
    as_type (Load m a o w) known (Bits w) k (same l.1) ((x, y.0, y.1, l.0), refl)
checked (Store m a o w v) at k known d n =
    let bs = both (names_only m known && names_only a known) (names_only v known) n in
    let bt = both (names_only m known) (names_only a known) bs.0 in
    let i = of_three _ _ _ _ _ d in
    let f = memory_gave _ _ _ _ i.6 in
    let g = bits_gave _ _ _ _ _ f.1 in
    let u = bits_gave _ _ _ _ _ g.1 in
    let l = fit_gave _ _ _ _ _ u.1 in
    let x = as_type m known _ Memory f.0 (checked m _ i.0 known i.3 bt.0) in
    let y = as_type a known _ (Bits 32) g.0 (checked a _ i.1 known i.4 bt.1) in
    let z = as_type v known _ (Bits w) u.0 (checked v _ i.2 known i.5 bs.1) in
    as_type (Store m a o w v) known Memory k (same l.1) (x, y.0, y.1, z.0, z.1, l.0)
checked (Binary o a b) at k known d n =
    let bs = both (names_only a known) (names_only b known) n in
    let i = of_two _ _ _ _ d in
    let f = any_gave _ _ _ _ i.4 in
    let g = bits_gave _ _ _ _ _ f.2 in
    let x = as_type a known _ (Bits f.0) f.1 (checked a _ i.0 known i.2 bs.0) in
    let y = as_type b known _ (Bits f.0) g.0 (checked b _ i.1 known i.3 bs.1) in
    as_type (Binary o a b) known (Bits (result_width o f.0)) k (same g.1) ((x.0, y.0, x.1 ∙ sym y.1), ap (result_width o) x.1)
checked (Unary o a) at k known d n =
    let i = of_operand_gave _ _ _ d in
    let f = any_gave _ _ _ _ i.2 in
    let x = as_type a known _ (Bits f.0) f.1 (checked a _ i.0 known i.1 n) in
    as_type (Unary o a) known (Bits f.0) k (same f.2) x
checked (Cast q m a) at k known d n =
    let i = of_operand_gave _ _ _ d in
    let f = any_gave _ _ _ _ i.2 in
    let l = fit_gave _ _ _ _ _ f.2 in
    let x = as_type a known _ (Bits f.0) f.1 (checked a _ i.0 known i.1 n) in
    as_type (Cast q m a) known (Bits m) k (same l.1)
    ((x.0, subst (λ (z : ℕ). cast_fits q m z ≡ true) (sym x.1) (both (cast_fits q m f.0) (is_width m) l.0).0), refl)
checked (Let y m a b) at (Bits w) known d n =
    let bs = both (names_only a known) (names_only b (λ z. is_local y m z || known z)) n in
    let i = of_two _ _ _ _ d in
    let f = bits_gave _ _ _ _ _ i.4 in
    let x = as_type a known _ (Bits m) f.0 (checked a _ i.0 known i.2 bs.0) in
    let p = checked b _ (Bits w) (λ z. is_local y m z || known z) (i.3 ∙ ap (λ z. Has z) (same f.1)) bs.1 in
    ((x.0, x.1, p.0), p.1)
checked (Let y m a b) at Memory known d n =
    let bs = both (names_only a known) (names_only b (λ z. is_local y m z || known z)) n in
    let i = of_two _ _ _ _ d in
    let f = bits_gave _ _ _ _ _ i.4 in
    let x = as_type a known _ (Bits m) f.0 (checked a _ i.0 known i.2 bs.0) in
    (x.0, x.1, checked b _ Memory (λ z. is_local y m z || known z) (i.3 ∙ ap (λ z. Has z) (same f.1)) bs.1)
checked (Unknown (Bits m)) at k known d n = as_type (Unknown (Bits m)) known (Bits m) k (same (fit_gave _ _ _ _ _ d).1) (tt, refl)
checked (Unknown Memory) at k known d n = cc
checked (Choose t a b) at (Bits w) known d n =
    let bs = both (names_only t known && names_only a known) (names_only b known) n in
    let bt = both (names_only t known) (names_only a known) bs.0 in
    let i = of_three _ _ _ _ _ d in
    let f = bits_gave _ _ _ _ _ i.6 in
    let g = type_gave _ _ _ _ _ f.1 in
    let u = as_type t known _ (Bits 1) f.0 (checked t _ i.0 known i.3 bt.0) in
    let x = as_type a known _ (Bits w) (same g.1) (checked a _ i.1 known i.4 bt.1) in
    let y = as_type b known _ (Bits w) (g.0 ∙ same g.1) (checked b _ i.2 known i.5 bs.1) in
    ((u.0, u.1, x.0, y.0, x.1 ∙ sym y.1), x.1)
checked (Choose t a b) at Memory known d n =
    let bs = both (names_only t known && names_only a known) (names_only b known) n in
    let bt = both (names_only t known) (names_only a known) bs.0 in
    let i = of_three _ _ _ _ _ d in
    let f = bits_gave _ _ _ _ _ i.6 in
    let g = type_gave _ _ _ _ _ f.1 in
    let u = as_type t known _ (Bits 1) f.0 (checked t _ i.0 known i.3 bt.0) in
    (u.0, u.1, as_type a known _ Memory (same g.1) (checked a _ i.1 known i.4 bt.1), as_type b known _ Memory (g.0 ∙ same g.1) (checked b _ i.2 known i.5 bs.1))
checked (Extract hi lo a) at k known d n =
    let i = of_operand_gave _ _ _ d in
    let f = any_gave _ _ _ _ i.2 in
    let l = fit_gave _ _ _ _ _ f.2 in
    let x = as_type a known _ (Bits f.0) f.1 (checked a _ i.0 known i.1 n) in
    let fits = both (nat_le lo hi) (nat_lt hi f.0) l.0 in
    let le : lo ≤ hi = (let g = fits.0 in grind (arith, nat_tests)) in
    let lt : hi < f.0 = (let g = fits.1 in grind (arith, nat_tests)) in
    as_type (Extract hi lo a) known (Bits (hi - lo + 1)) k (same l.1) ((x.0, le, subst (λ (z : ℕ). hi < z) (sym x.1) lt), width_of_bits hi lo le)
checked (Concat a b) at k known d n =
    let bs = both (names_only a known) (names_only b known) n in
    let i = of_two _ _ _ _ d in
    let f = any_gave _ _ _ _ i.4 in
    let g = any_gave _ _ _ _ f.2 in
    let l = fit_gave _ _ _ _ _ g.2 in
    let x = as_type a known _ (Bits f.0) f.1 (checked a _ i.0 known i.2 bs.0) in
    let y = as_type b known _ (Bits g.0) g.1 (checked b _ i.1 known i.3 bs.1) in
    let fits : nat_le (f.0 + g.0) 64 ≡ true = l.0 in
    let le : f.0 + g.0 ≤ 64 = grind (arith, nat_tests) in
    let p : width a ≡ f.0 = x.1 in
    let q : width b ≡ g.0 = y.1 in
    let e : width a + width b ≡ f.0 + g.0 = omega arith in
    as_type (Concat a b) known (Bits (f.0 + g.0)) k (same l.1) ((x.0, y.0, subst (λ (z : ℕ). z ≤ 64) (sym e) le), e)

-- and of lists
list_checked : (list : Statements) (at : ℕ) (known : BilVariable → Bool) → list_fault at list ≡ None → list_names_only list known ≡ true → IsRunnable list known
list_checked Empty at known d b = tt
list_checked (Assign x e rest) at known d b =
    let bs = both (known x && names_only e known) (list_names_only rest known) b in
    let bt = both (known x) (names_only e known) bs.0 in
    let i = neither _ _ d in
    (bt.0, checked e _ (type_of x) known (wants_gave _ _ _ i.0) bt.1, list_checked rest _ known i.1 bs.1)
list_checked (JumpTo e rest) at known d b =
    let bs = both (names_only e known) (list_names_only rest known) b in
    let i = neither _ _ d in
    (checked e (at + 1) (Bits 32) known (wants_gave at (Bits 32) _ i.0) bs.0, list_checked rest (at + 1 + size e) known i.1 bs.1)
list_checked (Raise n rest) at known d b = list_checked rest (at + 1) known d b
list_checked (Special t rest) at known d b = list_checked rest (at + 1) known d b
list_checked (While e body rest) at known d b =
    let bs = both (names_only e known && list_names_only body known) (list_names_only rest known) b in
    let bt = both (names_only e known) (list_names_only body known) bs.0 in
    let i = neither _ _ d in
    let j = neither _ _ i.1 in
    let k = neither _ _ j.1 in (
      checked e (at + 1) (Bits 1) known (wants_gave at (Bits 1) _ k.0) bt.0,
      list_checked body _ known j.0 bt.1,
      list_checked rest (at + 1 + size e + list_size body) known k.1 bs.1,
    )
list_checked (If e x y rest) at known d b =
    let bs = both (names_only e known && list_names_only x known && list_names_only y known) (list_names_only rest known) b in
    let bt = both (names_only e known && list_names_only x known) (list_names_only y known) bs.0 in
    let bu = both (names_only e known) (list_names_only x known) bt.0 in
    let i = neither _ _ d in
    let j = neither _ _ i.1 in
    let k = neither _ _ j.1 in
    let l = neither _ _ k.1 in (
      checked e (at + 1) (Bits 1) known (wants_gave at (Bits 1) _ l.0) bu.0,
      list_checked x _ known j.0 bu.1,
      list_checked y _ known k.0 bt.1,
      list_checked rest (at + 1 + size e + list_size x + list_size y) known l.1 bs.1,
    )

-- a well typed list over known variables can be run
pub runnable : (list : Statements) (known : BilVariable → Bool) → IsWellTyped list → list_names_only list known ≡ true → IsRunnable list known
runnable list known d b = list_checked list 0 known d b
