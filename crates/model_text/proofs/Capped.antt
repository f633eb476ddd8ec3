-- Digits are read with the number so far capped.
use Rattle.std.proofs.Common.{◌≡◌, ℕ, ◌<◌, ◌+◌, ◌*◌, Bool, true, List, [], ◌∷◌, refl, arith, sym, ap, ◌∙◌, length, drop, drop-cons, add-one, get_or}
use Rattle.std.specs.List.{list_all}
use Rattle.std.specs.Char.{digit_value}
use Rattle.std.specs.Str.Parse.{digits_value_after}
use Rattle.model_text.specs.Bits.{capped}

-- the cap shows in no digit: of a base
abbrev Steps : ℕ → Type 0
Steps r = (m d : ℕ) → capped (m * r + d) ≡ capped (capped m * r + d)

pub steps_16 : Steps 16
steps_16 m d = omega arith

pub steps_2 : Steps 2
steps_2 m d = omega arith

module _ (r : ℕ) (steps : Steps r) where
  -- the cap of what is read so far does not show
  pub capped_after : (m : ℕ) (ds : List ℕ) → capped (digits_value_after r m ds) ≡ capped (digits_value_after r (capped m) ds)
  capped_after m [] = omega arith
  capped_after m (c ∷ cs) =
      capped_after (m * r + digit_value c) cs ∙ ap (λ k. capped (digits_value_after r k cs)) (steps m (digit_value c))
      ∙ sym (capped_after (capped m * r + digit_value c) cs)

  -- one more digit
  pub capped_more : (ds : List ℕ) (i m n d : ℕ) → i < length ds → digit_value (get_or ds i 0) ≡ d → n ≡ capped (m * r + d) →
      capped (digits_value_after r m (drop i ds)) ≡ capped (digits_value_after r n (drop (i + 1) ds))
  capped_more ds i m n d lt e q =
      let s : drop i ds ≡ get_or ds i 0 ∷ drop (i + 1) ds = rw (add-one, drop-cons ds i 0) refl in
      ap (λ (xs : List ℕ). capped (digits_value_after r m xs)) s ∙ ap (λ v. capped (digits_value_after r (m * r + v) (drop (i + 1) ds))) e
      ∙ capped_after (m * r + d) (drop (i + 1) ds) ∙ ap (λ v. capped (digits_value_after r v (drop (i + 1) ds))) (sym q)

pub digits_more : (is : ℕ → Bool) (ds : List ℕ) (i : ℕ) → i < length ds → is (get_or ds i 0) ≡ true → list_all is (drop i ds) ≡ list_all is (drop (i + 1) ds)
digits_more is ds i lt h =
    let s : drop i ds ≡ get_or ds i 0 ∷ drop (i + 1) ds = rw (add-one, drop-cons ds i 0) refl in
    ap (list_all is) s ∙ rw h refl
