-- The lines of the ARM table are apart: fields of the word tell the line.
use Rattle.std.proofs.Common.{◌≡◌, ◌≢◌, ◌⊎◌, inl, inr, ℕ, zero, suc, ◌+◌, ◌*◌, ◌/◌, ◌%◌, ◌<◌, add-zero, refl, ap, sym, ◌∙◌, List, [], ◌∷◌, Some, true, false, Bool, arith}
use Rattle.std.specs.Prelude.{◌==◌, ◌&&◌, ◌||◌, not, slice_get, if◌then◌else◌}
use Rattle.std.proofs.lemmas.Bool.{eqb-true, ne_eqb}
use Rattle.std.proofs.lemmas.Bool.Decides.{nat_tests}
use Rattle.std.proofs.Math.Nat.{div-div-eq-div-mul}
use Rattle.word_spec.specs.Memory.{Endian}
use Rattle.word_spec.specs.Words.{bits}
use Rattle.word_spec.specs.Profiles.{Profile}
use Rattle.machine_spec.specs.Arm.{Instruction, table, is_computing, is_multiply, is_multiply_long, is_swap, is_transfer, is_halfword, is_block, is_branch, is_software_interrupt, is_exchange, is_count}

left : (a b : Bool) → (a && b) ≡ true → a ≡ true
left true b h = refl
left false b h = cc

right : (a b : Bool) → (a && b) ≡ true → b ≡ true
right true b h = h
right false b h = cc

-- the line, by bits 27 to 25, 24 to 23, 7 to 4 and 22 to 20
abbrev place : (u v c x : ℕ) → ℕ
place u v c x =
    if u == 0 then (if c % 2 == 0 then 0 else if c / 8 == 0 then (if (v == 2) && (x % 2 == 0) then 9 + x / 4 else 0) else
    if c / 2 % 4 == 0 then v + 1 else 5) else
    if u == 1 then 0 else if u == 4 then 6 else if u == 5 then 7 else if u == 7 then 8 else 4

abbrev line_of : ℕ → ℕ
line_of w = place (bits 27 25 w) (bits 24 23 w) (bits 7 4 w) (bits 22 20 w)

-- wider fields, by those
fields : (w : ℕ) → (w / 8388608 ≡ w / 4194304 / 2) × (w / 16777216 ≡ w / 4194304 / 4) × (w / 33554432 ≡ w / 4194304 / 8) × (w / 67108864 ≡ w / 4194304 / 16)
fields w = (
  sym (div-div-eq-div-mul w 4194304 2),
  sym (div-div-eq-div-mul w 4194304 4),
  sym (div-div-eq-div-mul w 4194304 8),
  sym
      (div-div-eq-div-mul w 4194304 16),
)

low_fields : (w : ℕ) → (w / 32 ≡ w / 16 / 2) × (w / 128 ≡ w / 16 / 8)
low_fields w = (sym (div-div-eq-div-mul w 16 2), sym (div-div-eq-div-mul w 16 8))

-- what each place asks of the four fields; a test that sets no flags is no computing row
first : (u v c x : ℕ) → u < 2 → ((v == 2) && (x % 2 == 0)) ≡ false → (u ≡ 1) ⊎ ((c % 2 ≡ 0) ⊎ (c / 8 ≡ 0)) → place u v c x ≡ 0
first u v c x l t (inl e) = rw e refl
first u v c x l t (inr (inl e)) = by_u (u == 0) refl
  where
    by_u : (b : Bool) → (u == 0) ≡ b → place u v c x ≡ 0
    by_u true h = rw (h, e) refl
    by_u false h = let one : u ≡ 1 = grind (arith, nat_tests) in rw one refl
first u v c x l t (inr (inr e)) = by_u (u == 0) (c % 2 == 0) refl refl
  where
    by_u : (a b : Bool) → (u == 0) ≡ a → (c % 2 == 0) ≡ b → place u v c x ≡ 0
    by_u true true h k = rw (h, k) refl
    by_u true false h k = rw (h, k, e, t) refl
    by_u false b h k = let one : u ≡ 1 = grind (arith, nat_tests) in rw one refl

multiplied : (u v c x : ℕ) → u ≡ 0 → c ≡ 9 → place u v c x ≡ v + 1
multiplied u v c x e h = rw (e, h) refl

half : (u v c x : ℕ) → u ≡ 0 → c % 2 ≡ 1 → c / 8 ≡ 1 → c / 2 % 4 ≢ 0 → place u v c x ≡ 5
half u v c x e a b n = let f : (c / 2 % 4 == 0) ≡ false = ne_eqb (c / 2 % 4) 0 n in rw (e, a, b, f) refl

moved : (u v c x : ℕ) → (u ≡ 2) ⊎ (u ≡ 3) → place u v c x ≡ 4
moved u v c x (inl e) = rw e refl
moved u v c x (inr e) = rw e refl

counted : (u v c x b : ℕ) → u ≡ 0 → v ≡ 2 → c ≡ 1 → x ≡ 4 * b + 2 → place u v c x ≡ 9 + b
counted u v c x b e h k same = rw (e, h, k, same) (let r : (4 * b + 2) % 2 ≡ 0 = omega arith in let q : (4 * b + 2) / 4 ≡ b = omega arith in rw (r, q) refl)

no_test : (t s d : Bool) (v x : ℕ) → (v == 2) ≡ t → (x % 2 == 1) ≡ s → not (t && (not s || d)) ≡ true → ((v == 2) && (x % 2 == 0)) ≡ false
no_test false s d v x p q h = rw p refl
no_test true true d v x p q h = let e = eqb-true (x % 2) 1 q in rw (p, e) refl
no_test true false d v x p q h = cc

-- the tests of a computing row's operand
operand : (u n c : ℕ) (a b d : Bool) → (u % 2 == 1) ≡ a → (c % 2 == 1) ≡ b → (c / 8 == 1) ≡ d → (a || not b || not d) ≡ true → u < 2 → c < 16 →
    (u ≡ 1) ⊎ ((c % 2 ≡ 0) ⊎ (c / 8 ≡ 0))
operand u n c true b d x y z h l k = let e = eqb-true _ _ x in inl (omega arith)
operand u n c false true true x y z h l k = absurd (cc)
operand u n c false false d x y z h l k = inr (inl (grind (arith, nat_tests)))
operand u n c false true false x y z h l k = inr (inr (grind (arith, nat_tests)))

computing : (w : ℕ) → is_computing w ≡ true → line_of w ≡ 0
computing w h =
    let a = left _ _ (left _ _ (left _ _ (left _ _ h))) in
    let upper : w / 67108864 % 4 ≡ 0 = eqb-true _ _ (left _ _ a) in
    let f = fields w in
    let g = low_fields w in
    let u : w / 33554432 % 8 % 2 ≡ w / 33554432 % 2 = omega arith in
    let b : w / 16 % 16 % 2 ≡ w / 16 % 2 = omega arith in
    let d : w / 16 % 16 / 8 ≡ w / 128 % 2 = omega arith in
    let small : w / 33554432 % 8 < 2 = omega arith in
    let t = right _ _ (left _ _ (left _ _ (left _ _ h))) in
    let x : w / 1048576 % 8 % 2 ≡ w / 1048576 % 2 = omega arith in
    first (bits 27 25 w) (bits 24 23 w) (bits 7 4 w) (bits 22 20 w) small
    (no_test _ _ _ (bits 24 23 w) (bits 22 20 w) refl (ap (λ n. n == 1) x) t)
    (operand (bits 27 25 w) 0 (bits 7 4 w) _ _ _ (ap (λ n. n == 1) u) (ap (λ n. n == 1) b) (ap (λ n. n == 1) d) (right _ _ a) small (omega arith))

multiply : (w : ℕ) → is_multiply w ≡ true → line_of w ≡ 1
multiply w h =
    let a = left _ _ (left _ _ (left _ _ h)) in
    let upper : w / 4194304 % 64 ≡ 0 = eqb-true _ _ (left _ _ a) in
    let c : w / 16 % 16 ≡ 9 = eqb-true _ _ (right _ _ a) in
    let f = fields w in
    let u : w / 33554432 % 8 ≡ 0 = omega arith in
    let v : w / 8388608 % 4 ≡ 0 = omega arith in
    multiplied (bits 27 25 w) (bits 24 23 w) (bits 7 4 w) (bits 22 20 w) u c ∙ ap (λ n. n + 1) v

multiply_long : (w : ℕ) → is_multiply_long w ≡ true → line_of w ≡ 2
multiply_long w h =
    let a = left _ _ (left _ _ (left _ _ (left _ _ h))) in
    let upper : w / 8388608 % 32 ≡ 1 = eqb-true _ _ (left _ _ a) in
    let c : w / 16 % 16 ≡ 9 = eqb-true _ _ (right _ _ a) in
    let f = fields w in
    let u : w / 33554432 % 8 ≡ 0 = omega arith in
    let v : w / 8388608 % 4 ≡ 1 = omega arith in
    multiplied (bits 27 25 w) (bits 24 23 w) (bits 7 4 w) (bits 22 20 w) u c ∙ ap (λ n. n + 1) v

swap : (w : ℕ) → is_swap w ≡ true → line_of w ≡ 3
swap w h =
    let a = left _ _ (left _ _ (left _ _ h)) in
    let upper : w / 8388608 % 32 ≡ 2 = eqb-true _ _ (left _ _ (left _ _ a)) in
    let low : w / 16 % 256 ≡ 9 = eqb-true _ _ (right _ _ a) in
    let f = fields w in
    let u : w / 33554432 % 8 ≡ 0 = omega arith in
    let v : w / 8388608 % 4 ≡ 2 = omega arith in
    let c : w / 16 % 16 ≡ 9 = omega arith in
    multiplied (bits 27 25 w) (bits 24 23 w) (bits 7 4 w) (bits 22 20 w) u c ∙ ap (λ n. n + 1) v

two_or_three : (u : ℕ) → u / 2 ≡ 1 → (u ≡ 2) ⊎ (u ≡ 3)
two_or_three zero e = absurd (omega arith)
two_or_three (suc zero) e = absurd (omega arith)
two_or_three (suc (suc zero)) e = inl refl
two_or_three (suc (suc (suc zero))) e = inr refl
two_or_three (suc (suc (suc (suc n)))) e = absurd (omega arith)

transfer : (w : ℕ) → is_transfer w ≡ true → line_of w ≡ 4
transfer w h =
    let upper : w / 67108864 % 4 ≡ 1 = eqb-true _ _ (left _ _ (left _ _ (left _ _ h))) in
    let f = fields w in
    let u : w / 33554432 % 8 / 2 ≡ 1 = omega arith in
    moved (bits 27 25 w) (bits 24 23 w) (bits 7 4 w) (bits 22 20 w) (two_or_three (bits 27 25 w) u)

not_zero : (n : ℕ) → not (n == 0) ≡ true → n ≢ 0
not_zero n h e = absurd (grind (arith, nat_tests))

halfword : (w : ℕ) → is_halfword w ≡ true → line_of w ≡ 5
halfword w h =
    let a = left _ _ (left _ _ (left _ _ (left _ _ h))) in
    let kind : w / 32 % 4 ≢ 0 = not_zero _ (right _ _ a) in
    let four : w / 16 % 2 ≡ 1 = eqb-true _ _ (right _ _ (left _ _ a)) in
    let seven : w / 128 % 2 ≡ 1 = eqb-true _ _ (right _ _ (left _ _ (left _ _ a))) in
    let u : w / 33554432 % 8 ≡ 0 = eqb-true _ _ (left _ _ (left _ _ (left _ _ a))) in
    let f = low_fields w in
    let low : w / 16 % 16 % 2 ≡ 1 = omega arith in
    let high : w / 16 % 16 / 8 ≡ 1 = omega arith in
    let same : w / 16 % 16 / 2 % 4 ≡ w / 32 % 4 = omega arith in
    half (bits 27 25 w) (bits 24 23 w) (bits 7 4 w) (bits 22 20 w) u low high (λ e. kind (sym same ∙ e))

block : (w : ℕ) → is_block w ≡ true → line_of w ≡ 6
block w h =
    let u : w / 33554432 % 8 ≡ 4 = eqb-true _ _ (left _ _ (left _ _ (left _ _ (left _ _ (left _ _ h))))) in
    ap (λ u. place u (bits 24 23 w) (bits 7 4 w) (bits 22 20 w)) u

branch : (w : ℕ) → is_branch w ≡ true → line_of w ≡ 7
branch w h = let u : w / 33554432 % 8 ≡ 5 = eqb-true _ _ h in ap (λ u. place u (bits 24 23 w) (bits 7 4 w) (bits 22 20 w)) u

interrupt : (w : ℕ) → is_software_interrupt w ≡ true → line_of w ≡ 8
interrupt w h =
    let e : w / 16777216 % 16 ≡ 15 = eqb-true _ _ h in
    let f = fields w in
    let u : w / 33554432 % 8 ≡ 7 = omega arith in ap (λ u. place u (bits 24 23 w) (bits 7 4 w) (bits 22 20 w)) u

high_fields : (w : ℕ) → (w / 33554432 ≡ w / 16 / 2097152) × (w / 8388608 ≡ w / 16 / 524288) × (w / 1048576 ≡ w / 16 / 65536)
high_fields w = (sym (div-div-eq-div-mul w 16 2097152), sym (div-div-eq-div-mul w 16 524288), sym (div-div-eq-div-mul w 16 65536))

exchange : (w : ℕ) → is_exchange w ≡ true → line_of w ≡ 9
exchange w h =
    let e : w / 16 % 16777216 ≡ 1245169 = eqb-true _ _ (left _ _ h) in
    let f = high_fields w in
    let u : w / 33554432 % 8 ≡ 0 = omega arith in
    let v : w / 8388608 % 4 ≡ 2 = omega arith in
    let c : w / 16 % 16 ≡ 1 = omega arith in
    let x : w / 1048576 % 8 ≡ 2 = omega arith in
    counted (bits 27 25 w) (bits 24 23 w) (bits 7 4 w) (bits 22 20 w) 0 u v c x

count : (w : ℕ) → is_count w ≡ true → line_of w ≡ 10
count w h =
    let a = left _ _ (left _ _ h) in
    let upper : w / 65536 % 4096 ≡ 367 = eqb-true _ _ (left _ _ a) in
    let low : w / 16 % 256 ≡ 241 = eqb-true _ _ (right _ _ a) in
    let p = div-div-eq-div-mul w 65536 512 in
    let q = div-div-eq-div-mul w 65536 128 in
    let r = div-div-eq-div-mul w 65536 16 in
    let u : w / 33554432 % 8 ≡ 0 = omega arith in
    let v : w / 8388608 % 4 ≡ 2 = omega arith in
    let c : w / 16 % 16 ≡ 1 = omega arith in
    let x : w / 1048576 % 8 ≡ 6 = omega arith in
    counted (bits 27 25 w) (bits 24 23 w) (bits 7 4 w) (bits 22 20 w) 1 u v c x

-- a list of tests that tell their places
Tells : List Instruction → (w n : ℕ) → Type 0
Tells [] w n = Unit {0}
Tells (x ∷ xs) w n = (x.is w ≡ true → line_of w ≡ n) × Tells xs w (n + 1)

told : (xs : List Instruction) (w n i : ℕ) (a : Instruction) → Tells xs w n → slice_get xs i ≡ Some a → a.is w ≡ true → line_of w ≡ n + i
unfolding Tells
told [] w n i a t at h = cc
told (x ∷ xs) w n zero a t at h = t.0 (let s : x ≡ a = cc in ap (λ y. y.is w) s ∙ h) ∙ sym (add-zero n)
told (x ∷ xs) w n (suc i) a t at h = told xs w (n + 1) i a t.1 at h ∙ omega arith

table_tells : (e : Endian) (profile : Profile) (w : ℕ) → Tells (table e profile) w 0
unfolding table Tells
table_tells e profile w = (
  computing w,
  (
    multiply w,
    (
      multiply_long w,
      (
        swap w,
        (
          transfer w,
          (halfword w, (block w, (branch w, (interrupt w, (λ h. exchange w (right _ _ h), (λ h. count w (right _ _ h), tt)))))),
        ),
      ),
    ),
  ),
)

pub one_row : (e : Endian) (profile : Profile) (w i j : ℕ) (a b : Instruction) → slice_get (table e profile) i ≡ Some a →
    slice_get (table e profile) j ≡ Some b → a.is w ≡ true → b.is w ≡ true → i ≡ j
one_row e profile w i j a b p q h k =
    let x = told (table e profile) w 0 i a (table_tells e profile w) p h in
    let y = told (table e profile) w 0 j b (table_tells e profile w) q k in omega arith
