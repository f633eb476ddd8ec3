-- Flags are read bit by bit, the last as flag 0.
use Rattle.std.proofs.Common.{◌≡◌, ℕ, zero, suc, ◌+◌, ◌-◌, ◌*◌, ◌/◌, ◌%◌, ◌^◌, ◌<◌, arith, List, [], ◌∷◌, ◌++◌, Option, None, sym, ap, ◌∙◌, subst, length, take, add-one}
use Rattle.std.specs.Prelude.{slice_index_or}
use Rattle.std.proofs.lemmas.List.{length-append, get_or_append_left, get_or-append-add, take_more}
use Rattle.std.proofs.lemmas.Nat.{shr-shr}
use Rattle.word_spec.specs.Words.{bit_at}
use Rattle.model_text.specs.Drafts.{or_zero, AreFlags}

higher_bit : (n b f : ℕ) → b < 2 → bit_at (suc f) (n * 2 + b) ≡ bit_at f n
higher_bit n b f l =
    let two : 2 ^ suc f ≡ 2 ^ (1 + f) = ap (λ (z : ℕ). 2 ^ z) (let e : suc f ≡ 1 + f = omega arith in e) in
    let low : (n * 2 + b) / 2 ^ 1 ≡ n = omega arith in
    ap (λ (z : ℕ). (n * 2 + b) / z % 2) two ∙ ap (λ (z : ℕ). z % 2) (sym (shr-shr (n * 2 + b) 1 f)) ∙ ap (λ (z : ℕ). z / 2 ^ f % 2) low

lowest_bit : (n b : ℕ) → b < 2 → bit_at 0 (n * 2 + b) ≡ b
lowest_bit n b l = omega arith

twice_below : (k n b : ℕ) → n < 2 ^ k → b < 2 → n * 2 + b < 2 ^ suc k
twice_below k n b h l = omega (arith, h, l)

-- one more flag
pub flags_more : (ws : List (Option ℕ)) (n b : ℕ) (o : Option ℕ) → AreFlags ws n → b ≡ or_zero o % 2 → AreFlags (ws ++ o ∷ []) (n * 2 + b)
flags_more ws n b o h e = record {
  small = subst (λ (z : ℕ). n * 2 + b < 2 ^ z) (sym size) (twice_below (length ws) n b h.small less);
  bits = λ f l. at f l;
}
  where
    less : b < 2
    less = omega arith

    size : length (ws ++ o ∷ []) ≡ suc (length ws)
    size = length-append ws (o ∷ []) ∙ (let x : length ws + 1 ≡ suc (length ws) = omega arith in x)

    at : (f : ℕ) → f < length (ws ++ o ∷ []) → bit_at f (n * 2 + b) ≡ or_zero (slice_index_or (ws ++ o ∷ []) (length (ws ++ o ∷ []) - 1 - f) None) % 2
    at zero l =
        let place : length (ws ++ o ∷ []) - 1 - 0 ≡ length ws + 0 = omega (arith, size) in
        lowest_bit n b less ∙ e
        ∙ sym (ap (λ (z : ℕ). or_zero (slice_index_or (ws ++ o ∷ []) z None) % 2) place
        ∙ ap (λ (z : Option ℕ). or_zero z % 2) (get_or-append-add ws (o ∷ []) 0 None))
    at (suc f) l =
        let place : length (ws ++ o ∷ []) - 1 - suc f ≡ length ws - 1 - f = omega (arith, size) in
        let within : length ws - 1 - f < length ws = omega (arith, size, l) in
        higher_bit n b f less ∙ h.bits f (omega (arith, size, l))
        ∙ sym (ap (λ (z : ℕ). or_zero (slice_index_or (ws ++ o ∷ []) z None) % 2) place
        ∙ ap (λ (z : Option ℕ). or_zero z % 2) (get_or_append_left ws (o ∷ []) None (length ws - 1 - f) within))

-- the flags of one more word
pub flags_step : (ws : List (Option ℕ)) (i n v : ℕ) → i < length ws → v ≡ or_zero (slice_index_or ws i None) → AreFlags (take i ws) n × (n < 2 ^ i) →
    AreFlags (take (i + 1) ws) (n * 2 + v % 2) × (n * 2 + v % 2 < 2 ^ (i + 1))
flags_step ws i n v l e h =
    let more = flags_more (take i ws) n (v % 2) (slice_index_or ws i None) h.0 (ap (λ (z : ℕ). z % 2) e) in
    let longer : take i ws ++ slice_index_or ws i None ∷ [] ≡ take (i + 1) ws = sym (take_more ws i None l) in
    let bound : n * 2 + v % 2 < 2 ^ suc i = twice_below i n (v % 2) h.1 (omega arith) in
    (subst (λ (z : List (Option ℕ)). AreFlags z (n * 2 + v % 2)) longer more, subst (λ (z : ℕ). n * 2 + v % 2 < 2 ^ z) (sym (add-one i)) bound)
