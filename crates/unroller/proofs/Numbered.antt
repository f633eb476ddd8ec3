-- What the numbers of points say.
use Rattle.std.proofs.Common.{◌≡◌, refl, ap, sym, ◌∙◌, arith, ℕ, zero, suc, ◌+◌, ◌-◌, ◌*◌, ◌/◌, ◌%◌, ◌<◌, Bool, true, false, Option, Some, None, List, length, get_or}
use Rattle.std.specs.Prelude.{Contains, ◌==◌, if◌then◌else◌}
use Rattle.std.specs.List.Sorted.{IsStrictlyIncreasing}
use Rattle.std.proofs.lemmas.Bool.Decides.{nat_tests}
use Rattle.std.proofs.lemmas.List.{get_or_default}
use Rattle.program_points.specs.declared.values.Root.{Root}
use Rattle.unroller.specs.Keys.{key_of, root_of, turns_of, address_of, stack_of, contract_of, head_number, head_of, place_in}
use Rattle.unroller.proofs.Ordered.{place_is}

pub root_is : (r t a s : ℕ) (b : Bool) → t < 4294967296 → a < 4294967296 → s < 2147483648 → root_of (key_of r t a s b) ≡ r
root_is r t a s true g h i = omega arith
root_is r t a s false g h i = omega arith

pub turns_is : (r t a s : ℕ) (b : Bool) → t < 4294967296 → a < 4294967296 → s < 2147483648 → turns_of (key_of r t a s b) ≡ t
turns_is r t a s true g h i = omega arith
turns_is r t a s false g h i = omega arith

pub address_is : (r t a s : ℕ) (b : Bool) → t < 4294967296 → a < 4294967296 → s < 2147483648 → address_of (key_of r t a s b) ≡ a
address_is r t a s true g h i = omega arith
address_is r t a s false g h i = omega arith

pub stack_is : (r t a s : ℕ) (b : Bool) → t < 4294967296 → a < 4294967296 → s < 2147483648 → stack_of (key_of r t a s b) ≡ s
stack_is r t a s true g h i = omega arith
stack_is r t a s false g h i = omega arith

odd_test : (n : ℕ) → n % 2 ≡ 1 → (n % 2 == 1) ≡ true
odd_test n e = grind (arith, nat_tests)

even_test : (n : ℕ) → n % 2 ≡ 0 → (n % 2 == 1) ≡ false
even_test n e = grind (arith, nat_tests)

pub contract_is : (r t a s : ℕ) (b : Bool) → contract_of (key_of r t a s b) ≡ b
contract_is r t a s true = odd_test (key_of r t a s true) (omega arith)
contract_is r t a s false = even_test (key_of r t a s false) (omega arith)

-- two numbers that are both odd or both even
same_odd : (x y : ℕ) → contract_of x ≡ contract_of y → x % 2 ≡ y % 2
same_odd x y e = by (contract_of y) e refl
  where
    by : (b : Bool) → contract_of x ≡ b → contract_of y ≡ b → x % 2 ≡ y % 2
    by true h g = let i : x % 2 ≡ 1 = grind (arith, nat_tests) in let j : y % 2 ≡ 1 = grind (arith, nat_tests) in omega arith
    by false h g =
        let i : x % 2 ≡ 0 = even (x % 2) (omega arith) h in
        let j : y % 2 ≡ 0 = even (y % 2) (omega arith) g in
        omega arith
      where
        even : (n : ℕ) → n < 2 → (n == 1) ≡ false → n ≡ 0
        even zero l e = refl
        even (suc zero) l e = absurd (cc)
        even (suc (suc n)) l e = absurd (omega arith)

-- what a number says of its point is the number
pub key_parts : (x y : ℕ) → root_of x ≡ root_of y → turns_of x ≡ turns_of y → address_of x ≡ address_of y → stack_of x ≡ stack_of y →
    contract_of x ≡ contract_of y → x ≡ y
key_parts x y r t a s b = let o = same_odd x y b in omega arith

-- the first place of a number that is among rising ones has it
pub place_at : (xs : List ℕ) (x : ℕ) → IsStrictlyIncreasing xs → Contains xs x → (place_in xs x < length xs) × (get_or xs (place_in xs x) 0 ≡ x)
place_at xs x up (i, w, e) =
    let at : get_or xs i 0 ≡ x = get_or_default xs i 0 x w ∙ e in
    let same = place_is xs i x up w at in
    ((omega arith), ap (λ (n : ℕ). get_or xs n 0) (sym same) ∙ at)

-- a head in range
abbrev pub IsSmall : Option Root → Type 0
IsSmall None = Unit {0}
IsSmall (Some r) = (r.at < 4294967296) × (r.stack < 18446744073709551616)

abbrev made : ℕ → Option Root
made n = Some (record { stack = (n - 1) % 18446744073709551616; at = (n - 1) / 18446744073709551616 % 4294967296 })

head_by : (stack at n : ℕ) (b : Bool) → (n == 0) ≡ b → n ≡ at * 18446744073709551616 + stack + 1 → at < 4294967296 → stack < 18446744073709551616 →
    (if b then None else made n) ≡ Some (record { stack = stack; at = at })
head_by stack at n true e is h g = absurd (let z : n ≡ 0 = grind (arith, nat_tests) in omega arith)
head_by stack at n false e is h g =
    let a : (n - 1) / 18446744073709551616 % 4294967296 ≡ at = omega arith in
    let s : (n - 1) % 18446744073709551616 ≡ stack = omega arith in
    ap (λ (z : ℕ). let r : Root = record { stack = z; at = (n - 1) / 18446744073709551616 % 4294967296 } in Some r) s
    ∙ ap (λ (z : ℕ). let r : Root = record { stack = stack; at = z } in Some r) a

-- the head of a number is the one that has it
pub head_same : (o : Option Root) → IsSmall o → head_of (head_number o) ≡ o
head_same None h = refl
head_same (Some r) h = head_by r.stack r.at (head_number (Some r)) (head_number (Some r) == 0) refl refl h.0 h.1
