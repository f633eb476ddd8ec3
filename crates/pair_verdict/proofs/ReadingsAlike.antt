-- The reading of the values after some is that of the valuation from there on.
use Rattle.std.proofs.Common.{◌≡◌, ℕ, zero, suc, ◌+◌, ◌*◌, ◌^◌, refl, ap, sym, ◌∙◌, Bool, false, List, drop, arith}
use Rattle.std.proofs.Math.Path.{fun_ext}
use Rattle.std.specs.Prelude.{◌∷◌, if◌then◌else◌, slice_index_or, nat_lt, length}
use Rattle.std.proofs.lemmas.List.{get_or-drop}
use Rattle.word_spec.specs.Words.{bit}
use Rattle.clause_spec.specs.Clauses.{valuation}
use Rattle.term_spec.specs.Terms.{TermReading}
use Rattle.walk_spec.specs.Unrolled.{UnrolledProgram, is_register_of, is_flag_of, point_at}
use Rattle.term_spec.specs.Cells.{Cells}
use Rattle.term_spec.specs.ClauseForm.{bits_from, drawn_below, first_flag, first_choice, first_byte, place_in, reading}
use Rattle.pair_spec.specs.PairEvidence.{behind}

-- the same variables, which count from 1
abbrev pub AreSame : (v w : ℕ → Bool) → Type 0
AreSame v w = (i : ℕ) → v (i + 1) ≡ w (i + 1)

bits_same : (v w : ℕ → Bool) → AreSame v w → (first count : ℕ) → bits_from v first count ≡ bits_from w first count
bits_same v w h first zero = refl
bits_same v w h first (suc n) =
    ap (λ x. x + bit (v (first + n + 1)) * 2 ^ n) (bits_same v w h first n) ∙ ap (λ b. bits_from w first n + bit b * 2 ^ n) (h (first + n))

pub reading_same : (u : UnrolledProgram) (c : Cells) (v w : ℕ → Bool) → AreSame v w → reading u c v ≡ reading u c w
reading_same u c v w h =
    let r : TermReading = reading u c v in
    let s : TermReading = reading u c w in
    let regs : r.regs ≡ s.regs =
    fun_ext (λ p. fun_ext (λ n. ap (λ x. if is_register_of u n then x else 0) (bits_same v w h (32 * place_in u.registers n) 32))) in
    let flags : r.flags ≡ s.flags =
    fun_ext (λ p. fun_ext (λ f. ap (λ x. if is_flag_of u f then x else 0) (bits_same v w h (first_flag u + f) 1))) in
    let choice : r.choice ≡ s.choice =
    fun_ext (λ i. ap (λ x. if (point_at u i).draws then x else 0) (bits_same v w h (first_choice u + 2 * drawn_below u i) 2)) in
    let base : r.base ≡ s.base =
    fun_ext (λ p. fun_ext (λ j. ap (λ x. if nat_lt j (length c.addresses) then x else 0) (bits_same v w h (first_byte u + 8 * j) 8))) in
    ap (λ f. record { regs = f; flags = r.flags; mem = r.mem; choice = r.choice; base = r.base }) regs
    ∙ ap (λ f. record { regs = s.regs; flags = f; mem = r.mem; choice = r.choice; base = r.base }) flags
    ∙ ap (λ f. record { regs = s.regs; flags = s.flags; mem = r.mem; choice = f; base = r.base }) choice
    ∙ ap (λ f. record { regs = s.regs; flags = s.flags; mem = r.mem; choice = s.choice; base = f }) base

-- the values after some are those of the valuation from there on
pub behind_values : (n : ℕ) (vs : List Bool) → AreSame (valuation (drop n vs)) (behind n (valuation vs))
behind_values n vs i =
    let after : slice_index_or (drop n vs) i false ≡ slice_index_or vs (n + i) false = get_or-drop n vs i false in
    let here : i + 1 ≡ suc i = omega arith in
    let there : n + (i + 1) ≡ suc (n + i) = omega arith in
    ap (λ k. slice_index_or (false ∷ drop n vs) k false) here ∙ after ∙ ap (λ k. slice_index_or (false ∷ vs) k false) (sym there)
