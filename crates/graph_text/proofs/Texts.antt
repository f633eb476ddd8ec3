-- Texts to which texts are appended.
use Rattle.std.proofs.Common.{◌≡◌, ℕ, suc, ◌+◌, ◌<◌, refl, ap, sym, ◌∙◌, List, [], ◌∷◌, ◌++◌, length, get_or, ◌≤◌, drop, map, append_assoc, append-nil, add-one, drop-cons}
use Rattle.std.specs.List.{flat_map}
use Rattle.std.proofs.lemmas.List.{drop_all}
use Rattle.word_spec.specs.Texts.{blank, spaced}
use Rattle.bilv_spec.specs.GraphText.{successor_words}
use Rattle.graph_nodes.specs.declared.nodes.Successor.{Successor}
use Rattle.graph_nodes.specs.Graphs.{successor_of}

-- one text behind another
two : (start first all a b : List ℕ) → first ≡ start ++ a → all ≡ first ++ b → all ≡ start ++ (a ++ b)
two start first all a b e f = f ∙ ap (λ t. t ++ b) e ∙ append_assoc start a b

-- three texts
pub three : (start first second all a b c : List ℕ) → first ≡ start ++ a → second ≡ first ++ b → all ≡ second ++ c → all ≡ start ++ (a ++ (b ++ c))
three start first second all a b c e f g = two start first all a (b ++ c) e (two first second all b c f g)

-- four texts
pub four : (start first second third all a b c d : List ℕ) → first ≡ start ++ a → second ≡ first ++ b → third ≡ second ++ c → all ≡ third ++ d →
    all ≡ start ++ (a ++ (b ++ (c ++ d)))
four start first second third all a b c d e f g h = three start first second all a b (c ++ d) e f (two second third all c d g h)

-- the text of the next element of a list
pub next : {X : Type 0} (f : X → List ℕ) (xs : List X) (i : ℕ) (d : X) (out first all : List ℕ) → i < length xs → first ≡ out ++ f (get_or xs i d) →
    out ++ flat_map f (drop i xs) ≡ all → first ++ flat_map f (drop (i + 1) xs) ≡ all
next f xs i d out first all below e inv =
    ap (λ k. first ++ flat_map f (drop k xs)) (add-one i) ∙ ap (λ l. l ++ flat_map f (drop (suc i) xs)) e
    ∙ append_assoc out (f (get_or xs i d)) (flat_map f (drop (suc i) xs)) ∙ ap (λ l. out ++ flat_map f l) (sym (drop-cons xs i d below)) ∙ inv

-- words behind words
pub spaced_append : (a b : List (List ℕ)) → spaced (a ++ b) ≡ spaced a ++ spaced b
spaced_append [] b = refl
spaced_append (w ∷ ws) b = ap (λ t. blank ∷ (w ++ t)) (spaced_append ws b) ∙ ap (λ t. blank ∷ t) (sym (append_assoc w (spaced ws) (spaced b)))

-- the words of successors, one successor behind the other
pub spaced_successors : (xs : List Successor) → flat_map (λ x. spaced (successor_words (successor_of x))) xs
    ≡ spaced (flat_map successor_words (map successor_of xs))
spaced_successors [] = refl
spaced_successors (x ∷ xs) =
    ap (λ t. spaced (successor_words (successor_of x)) ++ t) (spaced_successors xs)
    ∙ sym (spaced_append (successor_words (successor_of x)) (flat_map successor_words (map successor_of xs)))

-- three lists of words
pub spaced_three : (a b c : List (List ℕ)) → spaced a ++ (spaced b ++ spaced c) ≡ spaced (a ++ b ++ c)
spaced_three a b c = sym (spaced_append (a ++ b) c ∙ ap (λ t. t ++ spaced c) (spaced_append a b) ∙ append_assoc (spaced a) (spaced b) (spaced c))

-- the text behind the last element
pub done : {X : Type 0} (f : X → List ℕ) (xs : List X) (i : ℕ) (out all : List ℕ) → length xs ≤ i → out ++ flat_map f (drop i xs) ≡ all → out ≡ all
done f xs i out all end inv = sym (append-nil out) ∙ ap (λ l. out ++ flat_map f l) (sym (drop_all i xs end)) ∙ inv
