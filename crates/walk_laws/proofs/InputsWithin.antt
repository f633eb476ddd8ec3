-- The inputs are within the price, and the reading of a valuation is in range.
use Rattle.std.proofs.Common.{◌≡◌, arith, ℕ, zero, suc, ◌+◌, ◌*◌, ◌^◌, ◌<◌, ◌≤◌, [], ◌∷◌, List, Bool, true, false, length}
use Rattle.std.specs.Prelude.{sum_by, slice_index_or, if◌then◌else◌, nat_lt}
use Rattle.std.proofs.lemmas.List.Sums.{sum_by-cons}
use Rattle.word_spec.specs.Words.{bit}
use Rattle.term_spec.specs.Terms.{InRange}
use Rattle.walk_spec.specs.Unrolled.{Action, Executes, UnrolledPoint, UnrolledProgram, no_point, point_at, is_register_of, is_flag_of}
use Rattle.walk_spec.specs.Unrolling.{CanBeTerms}
use Rattle.walk_spec.specs.Prices.{loads_of, term_price, unrolled_price}
use Rattle.term_spec.specs.Cells.{Cells}
use Rattle.term_spec.specs.ClauseForm.{bits_from, drawn_below, first_flag, first_choice, first_byte, place_in, inputs, reading}
use Rattle.walk_laws.specs.Layers.{IsFitting}

bit_small : (b : Bool) → bit b ≤ 1
bit_small true = omega arith
bit_small false = omega arith

drawn_few : (u : UnrolledProgram) (i : ℕ) → drawn_below u i ≤ i
drawn_few u zero = omega arith
drawn_few u (suc i) = let a = drawn_few u i in let b = bit_small ((point_at u i).draws) in omega arith

rows_cost : (qs : List UnrolledPoint) → ((i : ℕ) → i < length qs → 64 ≤ (slice_index_or qs i no_point).row) → 64 * length qs ≤ sum_by (λ q. q.row) qs
rows_cost [] each = omega arith
rows_cost (q ∷ qs) each =
    let a : 64 ≤ q.row = each 0 (omega arith) in let b = rows_cost qs (λ i l. each (suc i) (omega arith)) in let c = sum_by-cons
    (λ (x : UnrolledPoint). x.row) q qs in omega arith

-- the row of a point costs at least 64, since its list leaves so much
row_least : (u : UnrolledProgram) (q : UnrolledPoint) (a : Action) → CanBeTerms u q a → 64 ≤ q.row
row_least u q (Executes list) h = let w = h.weight in omega arith

-- what a machine has to be for it is enough, but for the bytes of base reads
pub first_within : (u : UnrolledProgram) → IsFitting u → ((i : ℕ) → i < length u.points → CanBeTerms u (point_at u i) (point_at u i).does) →
    first_byte u ≤ term_price u
first_within u fit terms =
    let a = rows_cost u.points (λ i l. row_least u (point_at u i) (point_at u i).does (terms i l)) in let b = drawn_few u (length u.points) in
    let r = fit.registers in let f = fit.flags in omega arith

-- and with these
pub inputs_within : (u : UnrolledProgram) (c : Cells) → IsFitting u → ((i : ℕ) → i < length u.points → CanBeTerms u (point_at u i) (point_at u i).does) →
    length c.addresses ≤ loads_of u → inputs u c ≤ unrolled_price u
inputs_within u c fit terms few = let a = first_within u fit terms in omega arith

one_bit : (b : Bool) (n : ℕ) → bit b * 2 ^ n ≤ 2 ^ n
one_bit true n = omega arith
one_bit false n = omega arith

doubles : (n : ℕ) → 2 ^ suc n ≡ 2 * 2 ^ n
doubles n = grind arith

bits_small : (v : ℕ → Bool) (i n : ℕ) → bits_from v i n < 2 ^ n
bits_small v i zero = omega arith
bits_small v i (suc n) =
    let a = bits_small v i n in let b = one_bit (v (i + n + 1)) n in let c = doubles n in omega arith

or_zero : (b : Bool) (x n : ℕ) → x < n → (if b then x else 0) < n
or_zero true x n l = l
or_zero false x n l = omega arith

pub reading_in_range : (u : UnrolledProgram) (c : Cells) (v : ℕ → Bool) → InRange (reading u c v)
reading_in_range u c v = record {
  regs = λ p n. or_zero (is_register_of u n) _ (2 ^ 32) (bits_small v (32 * place_in u.registers n) 32);
  flags = λ p f. or_zero (is_flag_of u f) _ 2 (bits_small v (first_flag u + f) 1);
  mem = λ p a. omega arith;
  choice = λ i. or_zero ((point_at u i).draws) _ 4 (bits_small v (first_choice u + 2 * drawn_below u i) 2);
  base = λ p j. or_zero (nat_lt j (length c.addresses)) _ 256 (bits_small v (first_byte u + 8 * j) 8);
}
