-- Sums and products that stay within 128 bits.
use Rattle.std.proofs.Common.{◌≡◌, ⊎_elim, refl, ap, sym, ◌∙◌, arith, ℕ, zero, suc, ◌+◌, ◌*◌, ◌-◌, ◌^◌, ◌<◌, ◌≤◌, Bool}
use Rattle.std.specs.Prelude.{min, ◌⊎◌, ◌==◌, ◌&&◌, if◌then◌else◌}
use Rattle.std.proofs.Math.Nat.{mul-le-mul_left}
use Rattle.std.proofs.lemmas.Bool.Decides.{nat_tests}
use Rattle.bilv_spec.specs.Notes as notes
use Rattle.bilv_spec.specs.Notes.{Op, Expr, Number, Register, Flag, Pc, Bound, Memory, Old, Not, Binary}
use Rattle.bilv_spec.specs.Points.{is_product, is_written, products, operations, value_count, line_price}
use Rattle.unroller.specs.LineCosts.{capped, others, parts_price}

pub capped_sum : (x y : ℕ) → capped (capped x + capped y) ≡ capped (x + y)
capped_sum x y = omega arith

-- the length of a list in memory
pub capped_length : (n m : ℕ) → n < 2 ^ 64 → m ≡ n → n ≡ capped m
capped_length n m h e = omega arith

least_left : (m a b : ℕ) → m ≤ a → 1 ≤ b → m ≤ a * b
least_left m a b h i = let e : a * 1 ≤ a * b = mul-le-mul_left a i in omega arith

least_right : (m a b : ℕ) → m ≤ b → 1 ≤ a → m ≤ a * b
least_right m a b h i = let e : b * 1 ≤ b * a = mul-le-mul_left b i in omega arith

module _ (m : ℕ) (some : 1 ≤ m) where
  big_left : (x y : ℕ) → m ≤ x → 1 ≤ y → min (min x m * min y m) m ≡ min (x * y) m
  big_left x y h i =
      let a : m ≤ min x m = omega arith in
      let b : 1 ≤ min y m = omega arith in
      let l = least_left m (min x m) (min y m) a b in
      let r = least_left m x y h i in
      let p : min (min x m * min y m) m ≡ m = omega arith in
      let q : min (x * y) m ≡ m = omega arith in p ∙ sym q

  big_right : (x y : ℕ) → m ≤ y → 1 ≤ x → min (min x m * min y m) m ≡ min (x * y) m
  big_right x y h i =
      let a : m ≤ min y m = omega arith in
      let b : 1 ≤ min x m = omega arith in
      let l = least_right m (min x m) (min y m) a b in
      let r = least_right m x y h i in
      let p : min (min x m * min y m) m ≡ m = omega arith in
      let q : min (x * y) m ≡ m = omega arith in p ∙ sym q

  small : (x y : ℕ) → x ≤ m → y ≤ m → min (min x m * min y m) m ≡ min (x * y) m
  small x y h i =
      let a : min x m ≡ x = omega arith in
      let b : min y m ≡ y = omega arith in
      ap (λ (z : ℕ). min (z * min y m) m) a ∙ ap (λ (z : ℕ). min (x * z) m) b

  sizes : (x : ℕ) → (x ≤ m) ⊎ (m ≤ x)
  sizes x = grind arith

  product : (x y : ℕ) → min (min x m * min y m) m ≡ min (x * y) m
  product zero y = let a : min zero m ≡ 0 = omega arith in ap (λ (z : ℕ). min (z * min y m) m) a ∙ (omega arith)
  product (suc x) zero = let a : min zero m ≡ 0 = omega arith in ap (λ (z : ℕ). min (min (suc x) m * z) m) a ∙ (omega arith)
  product (suc x) (suc y) =
      ⊎_elim (λ h. ⊎_elim (λ i. small (suc x) (suc y) h i) (λ i. big_right (suc x) (suc y) i (omega arith)) (sizes (suc y)))
      (λ h. big_left (suc x) (suc y) h (omega arith)) (sizes (suc x))

  pair_small : (x : ℕ) → x ≤ m → min (min x m * (min x m - 1)) m ≡ min (x * (x - 1)) m
  pair_small x h = let a : min x m ≡ x = omega arith in ap (λ (z : ℕ). min (z * (z - 1)) m) a

  pair_big : (x : ℕ) → 2 ≤ m → m ≤ x → min (min x m * (min x m - 1)) m ≡ min (x * (x - 1)) m
  pair_big x two h =
      let a : m ≤ min x m = omega arith in
      let b : 1 ≤ min x m - 1 = omega arith in
      let l = least_left m (min x m) (min x m - 1) a b in
      let r = least_left m x (x - 1) h (omega arith) in
      let p : min (min x m * (min x m - 1)) m ≡ m = omega arith in
      let q : min (x * (x - 1)) m ≡ m = omega arith in p ∙ sym q

  pair : (x : ℕ) → 2 ≤ m → min (min x m * (min x m - 1)) m ≡ min (x * (x - 1)) m
  pair x two = ⊎_elim (λ h. pair_small x h) (λ h. pair_big x two h) (sizes x)

pub capped_product : (x y : ℕ) → capped (capped x * capped y) ≡ capped (x * y)
capped_product x y = product (2 ^ 128 - 1) (omega arith) x y

pub capped_pairs : (x : ℕ) → capped (capped x * (capped x - 1)) ≡ capped (x * (x - 1))
capped_pairs x = pair (2 ^ 128 - 1) (omega arith) x (omega arith)

pub plus_is : (a b x y r : ℕ) → a ≡ capped x → b ≡ capped y → r ≡ capped (a + b) → r ≡ capped (x + y)
plus_is a b x y r p q e = e ∙ ap (λ (z : ℕ). capped (z + b)) p ∙ ap (λ (z : ℕ). capped (capped x + z)) q ∙ capped_sum x y

pub times_is : (a b x y r : ℕ) → a ≡ capped x → b ≡ capped y → r ≡ capped (a * b) → r ≡ capped (x * y)
times_is a b x y r p q e = e ∙ ap (λ (z : ℕ). capped (z * b)) p ∙ ap (λ (z : ℕ). capped (capped x * z)) q ∙ capped_product x y

pub pairs_is : (a x r : ℕ) → a ≡ capped x → r ≡ capped (a * (a - 1)) → r ≡ capped (x * (x - 1))
pairs_is a x r p e = e ∙ ap (λ (z : ℕ). capped (z * (z - 1))) p ∙ capped_pairs x

-- an operator of the text is at most one product, and the one that joins values is none
product_few : (op : Op) → is_product op ≤ is_written op
product_few notes.Or = omega arith
product_few notes.And = omega arith
product_few notes.Equal = omega arith
product_few notes.NotEqual = omega arith
product_few notes.Below = omega arith
product_few notes.AtMost = omega arith
product_few notes.Above = omega arith
product_few notes.AtLeast = omega arith
product_few notes.SignedBelow = omega arith
product_few notes.SignedAtMost = omega arith
product_few notes.SignedAbove = omega arith
product_few notes.SignedAtLeast = omega arith
product_few notes.BitOr = omega arith
product_few notes.BitXor = omega arith
product_few notes.BitAnd = omega arith
product_few notes.ShiftLeft = omega arith
product_few notes.ShiftRight = omega arith
product_few notes.ShiftSigned = omega arith
product_few notes.Plus = omega arith
product_few notes.Minus = omega arith
product_few notes.Times = omega arith
product_few notes.Each = omega arith

pub all_operations : (e : Expr) → operations e ≡ products e + others e
all_operations (Number n) = refl
all_operations (Register r) = refl
all_operations (Flag f) = refl
all_operations Pc = refl
all_operations Bound = refl
all_operations (Memory n e) = all_operations e
all_operations (Old e) = all_operations e
all_operations (Not e) = let h = all_operations e in omega arith
all_operations (Binary op a b) =
    let h = all_operations a in let i = all_operations b in let j = product_few op in omega arith

-- the price by the parts: cases for no operator
price_cases : (p o v : ℕ) (x y : Bool) → (p == 0) ≡ x → (o == 0) ≡ y →
    capped (capped (capped p * 8192) + capped (capped ((if (capped p == 0) && (capped o == 0) then 1 else capped o) + capped v) * 512))
    ≡ capped (8192 * p + 512 * ((if p + o == 0 then 1 else p + o - p) + v))
price_cases p o v x y h i = grind (arith, nat_tests)

pub parts_are : (e : Expr) → parts_price (capped (products e)) (capped (others e)) (capped (value_count e)) ≡ capped (line_price e)
parts_are e =
    price_cases (products e) (others e) (value_count e) (products e == 0) (others e == 0) refl refl
    ∙ ap (λ (z : ℕ). capped (8192 * products e + 512 * ((if z == 0 then 1 else z - products e) + value_count e))) (sym (all_operations e))
