-- The registers of rows that are not 15, and what kinds of rows there are.
use Rattle.std.proofs.Common.{◌≡◌, ℕ, ◌+◌, ◌*◌, ◌/◌, ◌%◌, ◌<◌, refl, sym, Bool, true, false, [], ◌∷◌, arith}
use Rattle.std.specs.Prelude.{◌≢◌, ◌==◌, ◌&&◌, ◌||◌, not, if◌then◌else◌}
use Rattle.std.proofs.lemmas.Bool.{eqb-true, eqb-false, le-leb, lt-leb}
use Rattle.std.proofs.lemmas.Bool.Decides.{nat_tests}
use Rattle.word_spec.specs.Words.{bits, sign_extend, is_negative}
use Rattle.machine_spec.specs.Arm.{is_computing, is_multiply, is_multiply_long, is_swap, is_transfer, is_halfword, is_block, is_exchange, is_count, is_pc_among, by_a_register, bit_i, has_bit, has_offset, is_load, kind_of}

left : (a b : Bool) → (a && b) ≡ true → a ≡ true
left true b h = refl
left false b h = cc

right : (a b : Bool) → (a && b) ≡ true → b ≡ true
right true b h = h
right false b h = cc

-- four registers, and three, of which none is 15
apart : (n d s m : ℕ) → n < 16 → d < 16 → s < 16 → m < 16 → not (is_pc_among (n ∷ d ∷ s ∷ m ∷ [])) ≡ true → (n < 15) × (d < 15) × (s < 15) × (m < 15)
apart n d s m p q r t h = (grind (arith, nat_tests), grind (arith, nat_tests), grind (arith, nat_tests), grind (arith, nat_tests))

apart_3 : (n d m : ℕ) → n < 16 → d < 16 → m < 16 → not (is_pc_among (n ∷ d ∷ m ∷ [])) ≡ true → (n < 15) × (d < 15) × (m < 15)
apart_3 n d m p q t h = (grind (arith, nat_tests), grind (arith, nat_tests), grind (arith, nat_tests))

under_16 : (a : ℕ) → a % 16 < 16
under_16 a = omega arith

without : (a b : Bool) → not (a && b) ≡ true → a ≡ true → not b ≡ true
without true b h e = h
without false b h e = cc

four : (w : ℕ) → not (is_pc_among (bits 19 16 w ∷ bits 15 12 w ∷ bits 11 8 w ∷ bits 3 0 w ∷ [])) ≡ true →
    (bits 19 16 w < 15) × (bits 15 12 w < 15) × (bits 11 8 w < 15) × (bits 3 0 w < 15)
four w h = apart (bits 19 16 w) (bits 15 12 w) (bits 11 8 w) (bits 3 0 w) (under_16 _) (under_16 _) (under_16 _) (under_16 _) h

computing_registers : (w : ℕ) → is_computing w ≡ true → bit_i w ≡ false → has_bit 4 w ≡ true →
    (bits 19 16 w < 15) × (bits 15 12 w < 15) × (bits 11 8 w < 15) × (bits 3 0 w < 15)
computing_registers w h i b = four w (without (by_a_register w) _ (right _ _ h) (rw (i, b) refl))

pub computing_s : (w : ℕ) → is_computing w ≡ true → bit_i w ≡ false → has_bit 4 w ≡ true → bits 11 8 w < 15
computing_s w h i b = (computing_registers w h i b).2

pub computing_m : (w : ℕ) → is_computing w ≡ true → bit_i w ≡ false → has_bit 4 w ≡ true → bits 3 0 w < 15
computing_m w h i b = (computing_registers w h i b).3

pub multiply_registers : (w : ℕ) → is_multiply w ≡ true → (bits 19 16 w < 15) × (bits 15 12 w < 15) × (bits 11 8 w < 15) × (bits 3 0 w < 15)
multiply_registers w h = four w (right _ _ (left _ _ (left _ _ h)))

pub multiply_long_registers : (w : ℕ) → is_multiply_long w ≡ true → (bits 19 16 w < 15) × (bits 15 12 w < 15) × (bits 11 8 w < 15) × (bits 3 0 w < 15)
multiply_long_registers w h = four w (right _ _ (left _ _ (left _ _ (left _ _ h))))

pub swap_registers : (w : ℕ) → is_swap w ≡ true → (bits 19 16 w < 15) × (bits 15 12 w < 15) × (bits 3 0 w < 15)
swap_registers w h = apart_3 (bits 19 16 w) (bits 15 12 w) (bits 3 0 w) (under_16 _) (under_16 _) (under_16 _) (right _ _ (left _ _ (left _ _ h)))

-- the register of an offset
offset_register : (p w m : Bool) (n : ℕ) → n < 16 → not (p || (m && (n == 15)) || w) ≡ true → m ≡ true → n < 15
offset_register p w m n l h e = grind (arith, nat_tests)

pub transfer_m : (w : ℕ) → is_transfer w ≡ true → bit_i w ≡ true → bits 3 0 w < 15
transfer_m w h i = offset_register _ _ (bit_i w) (bits 3 0 w) (under_16 _) (right _ _ (left _ _ h)) i

pub halfword_m : (w : ℕ) → is_halfword w ≡ true → has_offset w ≡ false → bits 3 0 w < 15
halfword_m w h i = offset_register _ _ (not (has_offset w)) (bits 3 0 w) (under_16 _) (right _ _ (left _ _ (left _ _ h))) (rw i refl)

not_15 : (n : ℕ) → n < 16 → not (n == 15) ≡ true → n < 15
not_15 n l h = grind (arith, nat_tests)

pub halfword_d : (w : ℕ) → is_halfword w ≡ true → bits 15 12 w < 15
halfword_d w h = not_15 (bits 15 12 w) (under_16 _) (right _ _ (left _ _ h))

pub exchange_m : (w : ℕ) → is_exchange w ≡ true → bits 3 0 w < 15
exchange_m w h = not_15 (bits 3 0 w) (under_16 _) (right _ _ h)

pub count_d : (w : ℕ) → is_count w ≡ true → bits 15 12 w < 15
count_d w h = not_15 (bits 15 12 w) (under_16 _) (right _ _ (left _ _ h))

pub count_m : (w : ℕ) → is_count w ≡ true → bits 3 0 w < 15
count_m w h = not_15 (bits 3 0 w) (under_16 _) (right _ _ h)

not_0 : (n : ℕ) → not (n == 0) ≡ true → n ≢ 0
not_0 n h = grind (arith, nat_tests)

pub halfword_kind : (w : ℕ) → is_halfword w ≡ true → kind_of w ≢ 0
halfword_kind w h = not_0 (kind_of w) (right _ _ (left _ _ (left _ _ (left _ _ (left _ _ h)))))

one_of : (a : Bool) (n : ℕ) → (a || (n == 1)) ≡ true → a ≡ false → n ≡ 1
one_of a n h e = grind (arith, nat_tests)

pub halfword_stored : (w : ℕ) → is_halfword w ≡ true → is_load w ≡ false → kind_of w ≡ 1
halfword_stored w h e = one_of (is_load w) (kind_of w) (right _ _ h) e

pub block_n : (w : ℕ) → is_block w ≡ true → bits 19 16 w < 15
block_n w h = not_15 (bits 19 16 w) (under_16 _) (right _ _ (left _ _ (left _ _ h)))

pub block_some : (w : ℕ) → is_block w ≡ true → bits 15 0 w ≢ 0
block_some w h = not_0 (bits 15 0 w) (right _ _ (left _ _ (left _ _ (left _ _ h))))

-- the sign of a branch's offset is its bit 23
pub signed_offset : (w : ℕ) (up : Bool) → up ≡ has_bit 23 w →
    (if up then 4 * bits 23 0 w + 0xfc00_0000 else 4 * bits 23 0 w) ≡ sign_extend 26 32 (4 * bits 23 0 w)
signed_offset w true e =
    let h : w / 8388608 % 2 ≡ 1 = eqb-true _ _ (sym e) in
    let t : is_negative 26 (4 * bits 23 0 w) ≡ true = le-leb 33554432 _ (omega arith) in
    rw t refl
signed_offset w false e =
    let h : w / 8388608 % 2 ≢ 1 = eqb-false _ _ (sym e) in
    let t : is_negative 26 (4 * bits 23 0 w) ≡ false = lt-leb 33554432 _ (omega arith) in
    rw t refl
