-- What a word of a load or a store says of its registers.
use Rattle.std.proofs.Common.{◌≡◌, ℕ, ◌%◌, ◌<◌, Bool, true, false, not, ◌&&◌, ◌||◌, refl, ap, arith}
use Rattle.std.specs.Prelude.{◌==◌}
use Rattle.std.proofs.lemmas.Bool.Decides.{nat_tests}
use Rattle.word_spec.specs.Words.{bits}
use Rattle.machine_spec.specs.Arm.{field_n, field_d, field_m, bit_i, bit_w, is_pre, is_byte, has_offset, writes_back, is_bad_base, is_transfer, is_halfword, is_swap}

left : (a b : Bool) → (a && b) ≡ true → a ≡ true
left true b h = refl
left false b h = cc

right : (a b : Bool) → (a && b) ≡ true → b ≡ true
right true b h = h
right false b h = cc

under_16 : (a : ℕ) → a % 16 < 16
under_16 a = omega arith

-- the base that is written is not r15, and no register of the offset
base_register : (a b t r q : Bool) (n : ℕ) → n < 16 → not ((a || b) || (t && (((n == 15) || r) || q))) ≡ true → t ≡ true → n < 15
base_register a b t r q n l h e = grind (arith, nat_tests)

other_register : (a b t p r q z : Bool) → not ((a || b) || (t && ((p || r) || (q && z)))) ≡ true → t ≡ true → q ≡ true → z ≡ false
other_register a b t p r q true h e f = grind (arith, nat_tests)
other_register a b t p r q false h e f = refl

good_base : (w : ℕ) (by : Bool) → not (is_bad_base w by) ≡ true → writes_back w ≡ true → field_n w < 15
good_base w by h t =
    base_register (not (is_pre w) && bit_w w) (by && (field_m w == 15)) (writes_back w) (field_n w == field_d w) (by && (field_n w == field_m w))
    (bits 19 16 w) (under_16 _) h t

good_offset : (w : ℕ) (by : Bool) → not (is_bad_base w by) ≡ true → writes_back w ≡ true → by ≡ true → (field_n w == field_m w) ≡ false
good_offset w by h t e =
    other_register (not (is_pre w) && bit_w w) (by && (field_m w == 15)) (writes_back w) (field_n w == 15) (field_n w == field_d w) by
    (field_n w == field_m w) h t e

pub transfer_n : (w : ℕ) → is_transfer w ≡ true → writes_back w ≡ true → field_n w < 15
transfer_n w h t = good_base w (bit_i w) (right _ _ (left _ _ h)) t

pub transfer_apart : (w : ℕ) → is_transfer w ≡ true → bit_i w ≡ true → writes_back w ≡ true → (field_n w == field_m w) ≡ false
transfer_apart w h i t = good_offset w (bit_i w) (right _ _ (left _ _ h)) t i

pub halfword_n : (w : ℕ) → is_halfword w ≡ true → writes_back w ≡ true → field_n w < 15
halfword_n w h t = good_base w (not (has_offset w)) (right _ _ (left _ _ (left _ _ h))) t

pub halfword_apart : (w : ℕ) → is_halfword w ≡ true → has_offset w ≡ false → writes_back w ≡ true → (field_n w == field_m w) ≡ false
halfword_apart w h i t = good_offset w (not (has_offset w)) (right _ _ (left _ _ (left _ _ h))) t (ap not i)

not_both : (a b : Bool) → not (a && b) ≡ true → b ≡ true → a ≡ false
not_both true true h e = cc
not_both true false h e = cc
not_both false b h e = refl

-- r15 takes and gives no byte
pub transfer_word : (w : ℕ) → is_transfer w ≡ true → (field_d w == 15) ≡ true → is_byte w ≡ false
transfer_word w h e = not_both (is_byte w) (field_d w == 15) (right _ _ h) e

not_true : (a : Bool) → not a ≡ true → a ≡ false
not_true true h = cc
not_true false h = refl

-- the registers of SWP: neither is the base
pub swap_n_m : (w : ℕ) → is_swap w ≡ true → (field_n w == field_m w) ≡ false
swap_n_m w h = not_true _ (right _ _ (left _ _ h))

pub swap_n_d : (w : ℕ) → is_swap w ≡ true → (field_n w == field_d w) ≡ false
swap_n_d w h = not_true _ (right _ _ h)
