-- Texts to which texts are appended.
use Rattle.std.proofs.Common.{◌≡◌, ℕ, zero, suc, ◌-◌, ◌/◌, ◌%◌, ◌≢◌, refl, ap, ◌∙◌, arith, List, [], ◌∷◌, ◌++◌, append_assoc}
use Rattle.word_spec.specs.Texts.{hex_digit, hex_digits}

-- one text behind another
pub two : (start first all a b : List ℕ) → first ≡ start ++ a → all ≡ first ++ b → all ≡ start ++ (a ++ b)
two start first all a b e f = f ∙ ap (λ t. t ++ b) e ∙ append_assoc start a b

-- the lowest digit stands last
pub hex_more : (count v : ℕ) → count ≢ 0 → hex_digits (count - 1) (v / 16) ++ hex_digit (v % 16) ∷ [] ≡ hex_digits count v
hex_more zero v some = absurd (some refl)
hex_more (suc n) v some = let same : suc n - 1 ≡ n = omega arith in ap (λ k. hex_digits k (v / 16) ++ hex_digit (v % 16) ∷ []) same

-- several texts, one behind another
pub three : (start t u all a b c : List ℕ) → t ≡ start ++ a → u ≡ t ++ b → all ≡ u ++ c → all ≡ start ++ (a ++ b ++ c)
three start t u all a b c p q r = two start u all (a ++ b) c (two start t u a b p q) r

pub five : (start t u v w all a b c d e : List ℕ) → t ≡ start ++ a → u ≡ t ++ b → v ≡ u ++ c → w ≡ v ++ d → all ≡ w ++ e →
    all ≡ start ++ (a ++ b ++ c ++ d ++ e)
five start t u v w all a b c d e p q r s x = two start w all (a ++ b ++ c ++ d) e (two start v w (a ++ b ++ c) d (three start t u v a b c p q r) s) x

pub seven : (start t u v w x y all a b c d e f g : List ℕ) → t ≡ start ++ a → u ≡ t ++ b → v ≡ u ++ c → w ≡ v ++ d → x ≡ w ++ e → y ≡ x ++ f →
    all ≡ y ++ g → all ≡ start ++ (a ++ b ++ c ++ d ++ e ++ f ++ g)
seven start t u v w x y all a b c d e f g p q r s h i j =
    two start y all (a ++ b ++ c ++ d ++ e ++ f) g (two start x y (a ++ b ++ c ++ d ++ e) f (five start t u v w x a b c d e p q r s h) i) j
