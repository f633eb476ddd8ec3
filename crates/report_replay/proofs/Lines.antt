-- What a text says by the lines of its bytes.
use Rattle.std.proofs.Common.{◌≡◌, ℕ, suc, ◌+◌, ◌<◌, List, length, get_or, drop, drop-cons, true, false, ap, sym, ◌∙◌, arith}
use Rattle.std.specs.Prelude.{Bool, if◌then◌else◌}
use Rattle.machine_spec.specs.StateText.{Told, StateRefused, StateByteFault}
use Rattle.state_text.specs.Readings.{told_but}

-- the byte at a place of the list is known, or it is not
module _ (known : ℕ → Bool) (first : ℕ) (bytes : List (ℕ × ℕ)) (i : ℕ) (d : ℕ × ℕ) (told : Told) (below : i < length bytes) where
  abbrev next : Bool → Told
  next b = if b then StateRefused (first + i) StateByteFault else told_but known (first + i + 1) (drop (suc i) bytes) told

  split : told_but known (first + i) (drop i bytes) told ≡ next (known (get_or bytes i d).0)
  split = ap (λ l. told_but known (first + i) l told) (drop-cons bytes i d below)

  pub told_here : known (get_or bytes i d).0 ≡ true → told_but known (first + i) (drop i bytes) told ≡ StateRefused (first + i) StateByteFault
  told_here is = split ∙ ap next is

  pub told_next : known (get_or bytes i d).0 ≡ false → told_but known (first + i) (drop i bytes) told
      ≡ told_but known (first + (i + 1)) (drop (i + 1) bytes) told
  told_next is =
      let line : first + i + 1 ≡ first + (i + 1) = omega arith in
      let place : suc i ≡ i + 1 = omega arith in
      split
      ∙ ap next is
      ∙ ap (λ n. told_but known n (drop (suc i) bytes) told) line
      ∙ ap (λ k. told_but known (first + (i + 1)) (drop k bytes) told) place

-- what is told is what the same bytes on the same lines leave
pub told_left : (known : ℕ → Bool) (first line : ℕ) (seen bytes : List (ℕ × ℕ)) (all told left : Told) → first ≡ line → seen ≡ bytes
    → all ≡ told_but known line bytes told → told_but known first seen told ≡ left → all ≡ left
told_left known first line seen bytes all told left lines same is leaves =
    is ∙ sym (ap (λ n. told_but known n seen told) lines ∙ ap (λ l. told_but known line l told) same) ∙ leaves
