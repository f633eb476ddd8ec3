-- What lines say by their words.
use Rattle.std.proofs.Common.{◌≡◌, ℕ, ◌<◌, ◌≤◌, refl, ap, arith, List, [], ◌∷◌, Option, Some, None, Bor, length, map, take}
use Rattle.std.specs.Option.{option_map}
use Rattle.machine_spec.specs.StateText.{Layout, after_fails, after_unknown, register_line, place_in, value_names, line_of_words}
use Rattle.std.specs.Prelude.{if◌then◌else◌, codes}
use Rattle.std.specs.Str.{bytes_eq}
use Rattle.state_text.specs.Lines.{capped_line}

-- a line of few words names no event
pub few_words : (ws : List (Bor (List ℕ))) → length ws < 5 → None ≡ option_map capped_line (after_fails (map (λ word. word.now) ws))
few_words [] few = refl
few_words (a ∷ []) few = refl
few_words (a ∷ b ∷ []) few = refl
few_words (a ∷ b ∷ c ∷ []) few = refl
few_words (a ∷ b ∷ c ∷ d ∷ []) few = refl
few_words (a ∷ b ∷ c ∷ d ∷ e ∷ ws) few = absurd (omega arith)

-- nor does one of many words
pub many_words : (ws : List (Bor (List ℕ))) → 7 ≤ length ws → None ≡ option_map capped_line (after_fails (map (λ word. word.now) ws))
many_words [] many = absurd (omega arith)
many_words (a ∷ []) many = absurd (omega arith)
many_words (a ∷ b ∷ []) many = absurd (omega arith)
many_words (a ∷ b ∷ c ∷ []) many = absurd (omega arith)
many_words (a ∷ b ∷ c ∷ d ∷ []) many = absurd (omega arith)
many_words (a ∷ b ∷ c ∷ d ∷ e ∷ []) many = absurd (omega arith)
many_words (a ∷ b ∷ c ∷ d ∷ e ∷ f ∷ []) many = absurd (omega arith)
many_words (a ∷ b ∷ c ∷ d ∷ e ∷ f ∷ g ∷ ws) many = refl

-- the number of backward transfers stands in a line of six words
pub fewer_words : (ws : List (Bor (List ℕ))) → length ws < 6 → None ≡ option_map capped_line (after_unknown (map (λ word. word.now) ws))
fewer_words [] few = refl
fewer_words (a ∷ []) few = refl
fewer_words (a ∷ b ∷ []) few = refl
fewer_words (a ∷ b ∷ c ∷ []) few = refl
fewer_words (a ∷ b ∷ c ∷ d ∷ []) few = refl
fewer_words (a ∷ b ∷ c ∷ d ∷ e ∷ []) few = refl
fewer_words (a ∷ b ∷ c ∷ d ∷ e ∷ f ∷ ws) few = absurd (omega arith)

pub more_words : (ws : List (Bor (List ℕ))) → 7 ≤ length ws → None ≡ option_map capped_line (after_unknown (map (λ word. word.now) ws))
more_words [] many = absurd (omega arith)
more_words (a ∷ []) many = absurd (omega arith)
more_words (a ∷ b ∷ []) many = absurd (omega arith)
more_words (a ∷ b ∷ c ∷ []) many = absurd (omega arith)
more_words (a ∷ b ∷ c ∷ d ∷ []) many = absurd (omega arith)
more_words (a ∷ b ∷ c ∷ d ∷ e ∷ []) many = absurd (omega arith)
more_words (a ∷ b ∷ c ∷ d ∷ e ∷ f ∷ []) many = absurd (omega arith)
more_words (a ∷ b ∷ c ∷ d ∷ e ∷ f ∷ g ∷ ws) many = refl

-- a register has one value
more_values : (layout : Layout) (o : Option ℕ) (a b : List ℕ) (vs ws : List (List ℕ)) →
    register_line layout o (a ∷ b ∷ vs) ≡ register_line layout o (a ∷ b ∷ ws)
more_values layout None a b vs ws = refl
more_values layout (Some i) a b vs ws = refl

-- no line of the grammar has eight words, so that the first eight say whether a line is one
pub first_eight : (layout : Layout) (ws : List (List ℕ)) → line_of_words layout (take 8 ws) ≡ line_of_words layout ws
first_eight layout [] = refl
first_eight layout (a ∷ []) = refl
first_eight layout (a ∷ b ∷ []) = refl
first_eight layout (a ∷ b ∷ c ∷ []) = refl
first_eight layout (a ∷ b ∷ c ∷ d ∷ []) = refl
first_eight layout (a ∷ b ∷ c ∷ d ∷ e ∷ []) = refl
first_eight layout (a ∷ b ∷ c ∷ d ∷ e ∷ f ∷ []) = refl
first_eight layout (a ∷ b ∷ c ∷ d ∷ e ∷ f ∷ g ∷ []) = refl
first_eight layout (a ∷ b ∷ c ∷ d ∷ e ∷ f ∷ g ∷ h ∷ ws) =
    ap
    (λ r.
    if bytes_eq a (codes "fails") then None else if bytes_eq a (codes "unknown") then None else if bytes_eq a (codes "state") then None else
    if bytes_eq a (codes "byte") then None else if bytes_eq a (codes "choice") then None else if bytes_eq a (codes "end") then None else r)
    (more_values layout (place_in (value_names layout) a) b c (d ∷ e ∷ f ∷ g ∷ h ∷ []) (d ∷ e ∷ f ∷ g ∷ h ∷ ws))
