-- The line of the first words that are not the same is that on which the states differ.
use Rattle.std.proofs.Common.{◌≡◌, ℕ, refl, ap, sym, ◌∙◌, Bool, true, false, List, [], ◌∷◌, Option, Some, None}
use Rattle.std.specs.Prelude.{◌==◌, ◌&&◌, if◌then◌else◌, ◌++◌, map}
use Rattle.word_spec.specs.State.{State}
use Rattle.word_spec.specs.Memory.{Memory, Little}
use Rattle.bilv_spec.specs.Notes.{value}
use Rattle.pair_spec.specs.Links.{Link, EqualAtEntry, EqualAtExit, SharedBytes, SameBytes, addresses, have_bytes, have_equal, line_of, agrees_at_exit, differing_line}
use Rattle.pair_verdict.specs.ExitLines.{all_lined_words, first_apart}

-- before others, the words at some addresses
bytes_apart : (n : ℕ) (s t : State) (places : List ℕ) (xs ys : List (ℕ × ℕ)) →
    first_apart (map (λ (f : State → ℕ). (n, f s)) (map (λ a (z : State). z.mem a) places) ++ xs) (map (λ (f : State → ℕ). (n, f t)) (map (λ a (z : State). z.mem a) places) ++ ys)
    ≡ (if have_bytes places s.mem t.mem then first_apart xs ys else Some n)
bytes_apart n s t [] xs ys = refl
bytes_apart n s t (a ∷ places) xs ys = by (s.mem a == t.mem a) _ _ (bytes_apart n s t places xs ys)
  where
    by : (b : Bool) (o p : Option ℕ) → o ≡ (if have_bytes places s.mem t.mem then p else Some n) →
        (if b then o else Some n) ≡ (if (b && have_bytes places s.mem t.mem) then p else Some n)
    by true o p e = e
    by false o p e = refl

pub apart_is_differing : (links : List Link) (s t : State) → first_apart (all_lined_words false s links) (all_lined_words true t links) ≡ differing_line links s t
apart_is_differing [] s t = refl
apart_is_differing (EqualAtEntry n x y ∷ rest) s t = apart_is_differing rest s t
apart_is_differing (SharedBytes n low high ∷ rest) s t = apart_is_differing rest s t
apart_is_differing (EqualAtExit n x y ∷ rest) s t = ap (λ o. if have_equal x y s t then o else Some n) (apart_is_differing rest s t)
apart_is_differing (SameBytes n low high ∷ rest) s t =
    bytes_apart n s t (addresses low high) (all_lined_words false s rest) (all_lined_words true t rest)
    ∙ ap (λ o. if have_bytes (addresses low high) s.mem t.mem then o else Some n) (apart_is_differing rest s t)
