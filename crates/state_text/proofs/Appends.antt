-- Texts to which texts are appended.
use Rattle.std.proofs.Common.{◌≡◌, ℕ, zero, suc, ◌-◌, ◌/◌, ◌%◌, ◌≢◌, refl, ap, ◌∙◌, arith, List, [], ◌∷◌, ◌++◌, append_assoc, append-nil}
use Rattle.std.specs.Prelude.{codes}
use Rattle.word_spec.specs.Texts.{hex_digit, hex_digits, joined, spaced, number_text}
use Rattle.machine_spec.specs.Endings.{Event, AssertFails, FetchFails, NoRow, HalfwordFails, CodeWritten, Trapped, AlignFails, JumpFails, EnsureFails, FailsBy, event_words, place_words, named_line}

-- one text behind another
pub two : (start first all a b : List ℕ) → first ≡ start ++ a → all ≡ first ++ b → all ≡ start ++ (a ++ b)
two start first all a b e f = f ∙ ap (λ t. t ++ b) e ∙ append_assoc start a b

-- three texts
pub three : (start first second all a b c : List ℕ) → first ≡ start ++ a → second ≡ first ++ b → all ≡ second ++ c → all ≡ start ++ (a ++ (b ++ c))
three start first second all a b c e f g = two start first all a (b ++ c) e (two first second all b c f g)

-- four texts
pub four : (start first second third all a b c d : List ℕ) → first ≡ start ++ a → second ≡ first ++ b → third ≡ second ++ c → all ≡ third ++ d →
    all ≡ start ++ (a ++ (b ++ (c ++ d)))
four start first second third all a b c d e f g h = three start first second all a b (c ++ d) e f (two second third all c d g h)

-- five texts
pub five : (start first second third fourth all a b c d t : List ℕ) → first ≡ start ++ a → second ≡ first ++ b → third ≡ second ++ c → fourth ≡ third ++ d →
    all ≡ fourth ++ t → all ≡ start ++ (a ++ (b ++ (c ++ (d ++ t))))
five start first second third fourth all a b c d t e f g h i =
    three start first second all a b (c ++ (d ++ t)) e f (three second third fourth all c d t g h i)

-- the lowest digit stands last
pub hex_more : (count v : ℕ) → count ≢ 0 → hex_digits (count - 1) (v / 16) ++ hex_digit (v % 16) ∷ [] ≡ hex_digits count v
hex_more zero v some = absurd (some refl)
hex_more (suc n) v some = let same : suc n - 1 ≡ n = omega arith in ap (λ k. hex_digits k (v / 16) ++ hex_digit (v % 16) ∷ []) same

unended : (n s : List ℕ) → (n ++ []) ++ s ≡ n ++ s
unended n s = ap (λ l. l ++ s) (append-nil n)

-- the line of an event
pub fails_line : (e : Event) (at step : ℕ) → codes "fails " ++ (joined (event_words e) ++ (codes " " ++ joined (place_words at step)))
    ≡ named_line (FailsBy e at step)
fails_line (AssertFails n) at step = ap (λ l. codes "fails assert " ++ l) (unended (number_text n) (spaced (place_words at step)))
fails_line FetchFails at step = refl
fails_line NoRow at step = refl
fails_line HalfwordFails at step = refl
fails_line CodeWritten at step = refl
fails_line Trapped at step = refl
fails_line AlignFails at step = refl
fails_line JumpFails at step = refl
fails_line (EnsureFails n) at step = ap (λ l. codes "fails ensure " ++ l) (unended (number_text n) (spaced (place_words at step)))

-- six texts
pub six : (start first second third fourth fifth all a b c d t u : List ℕ) → first ≡ start ++ a → second ≡ first ++ b → third ≡ second ++ c →
    fourth ≡ third ++ d → fifth ≡ fourth ++ t → all ≡ fifth ++ u → all ≡ start ++ (a ++ (b ++ (c ++ (d ++ (t ++ u)))))
six start first second third fourth fifth all a b c d t u e f g h i j =
    two start first all a (b ++ (c ++ (d ++ (t ++ u)))) e (five first second third fourth fifth all b c d t u f g h i j)

-- seven texts
pub seven : (start first second third fourth fifth sixth all a b c d t u v : List ℕ) → first ≡ start ++ a → second ≡ first ++ b → third ≡ second ++ c →
    fourth ≡ third ++ d → fifth ≡ fourth ++ t → sixth ≡ fifth ++ u → all ≡ sixth ++ v → all ≡ start ++ (a ++ (b ++ (c ++ (d ++ (t ++ (u ++ v))))))
seven start first second third fourth fifth sixth all a b c d t u v e f g h i j k =
    two start first all a (b ++ (c ++ (d ++ (t ++ (u ++ v))))) e (six first second third fourth fifth sixth all b c d t u v f g h i j k)
