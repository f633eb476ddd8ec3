-- Parts of JSON objects.
use Rattle.std.proofs.Common.{◌≡◌, ℕ, ◌+◌, ◌<◌, Bool, true, false, List, [], ◌∷◌, ◌++◌, append_assoc, codes, drop, length, nat_eq, refl, sym, ◌∙◌}
use Rattle.std.proofs.lemmas.List.{at_drop_more, drop_more}
use Rattle.std.specs.List.{starts_with}
use Rattle.suite_report.specs.Objects.{first_word, place_word}

-- a text that begins with the part has its word there
pub place_here : (text : List ℕ) → starts_with nat_eq text (codes " at ") ≡ true → place_word text ≡ first_word (drop 4 text)
place_here [] stands = absurd (cc stands)
place_here (b ∷ bs) stands = rw stands refl

-- a place where the part does not stand is passed over
pub place_more : (text : List ℕ) (i : ℕ) → i < length text → starts_with nat_eq (drop i text) (codes " at ") ≡ false →
    place_word (drop i text) ≡ place_word (drop (i + 1) text)
place_more text i h absent =
    let here = rw (drop_more text i 0 h) at absent in
    at_drop_more place_word text i 0 h ∙ rw here refl

pub four_parts : (old a b c d w x y z : List ℕ) → w ≡ old ++ a → x ≡ w ++ b → y ≡ x ++ c → z ≡ y ++ d → z ≡ old ++ (a ++ b ++ c ++ d)
four_parts old a b c d w x y z p q r s = rw (s, r, q, p) (simp append_assoc)

pub five_parts : (old a b c d e v w x y z : List ℕ) → old ≡ [] → v ≡ old ++ a → w ≡ v ++ b → x ≡ w ++ c → y ≡ x ++ d → z ≡ y ++ e →
    z ≡ a ++ b ++ c ++ d ++ e
five_parts old a b c d e v w x y z none p q r s t = rw (t, s, r, q, p, none) (simp append_assoc)
