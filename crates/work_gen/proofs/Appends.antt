-- Texts that were appended one by one, and the steps of items.
use Rattle.std.proofs.Common.{◌≡◌, ℕ, zero, suc, ◌-◌, ◌<◌, List, [], ◌∷◌, ◌++◌, codes, ap, ◌∙◌, sym, arith, append_assoc, append-nil}
use Rattle.word_spec.specs.Texts.{lines, spaced}
use Rattle.command_spec.specs.Work.{item_word, item_words, next_item, result_from, result_of}

pub seven_texts : (u v w x y z o : List ℕ) (a b c d e f g : List ℕ) → u ≡ a → v ≡ u ++ b → w ≡ v ++ c → x ≡ w ++ d → y ≡ x ++ e → z ≡ y ++ f → o ≡ z ++ g →
    o ≡ a ++ (b ++ (c ++ (d ++ (e ++ (f ++ g)))))
seven_texts u v w x y z o a b c d e f g p q r s t k l = rw (l, k, t, s, r, q, p) (simp append_assoc)

pub nine_texts : (u v w x y z m n o : List ℕ) (a b c d e f g h i : List ℕ) → u ≡ a → v ≡ u ++ b → w ≡ v ++ c → x ≡ w ++ d → y ≡ x ++ e → z ≡ y ++ f →
    m ≡ z ++ g → n ≡ m ++ h →
    o ≡ n ++ i → o ≡ a ++ (b ++ (c ++ (d ++ (e ++ (f ++ (g ++ (h ++ i)))))))
nine_texts u v w x y z m n o a b c d e f g h i p q r s t k l j e9 = rw (e9, j, l, k, t, s, r, q, p) (simp append_assoc)

-- the end of a line
ended : (s t : List ℕ) → ((s ++ []) ++ 10 ∷ []) ++ t ≡ s ++ 10 ∷ t
ended s t = ap (λ z. (z ++ 10 ∷ []) ++ t) (append-nil s) ∙ append_assoc s (10 ∷ []) t

pub notes_are : (s c r : List ℕ) →
    (codes "entry 0x10000" ++ 10 ∷ codes "require a0 = ") ++ (s ++ ((10 ∷ codes "require a1 = ") ++ (c ++ ((10 ∷ codes "ensure a0 = ") ++ (r ++ 10 ∷ [])))))
    ≡ lines (codes "entry 0x10000" ∷ (codes "require a0 =" ++ spaced (s ∷ [])) ∷ (codes "require a1 =" ++ spaced (c ∷ []))
    ∷ (codes "ensure a0 =" ++ spaced (r ∷ [])) ∷ [])
notes_are s c r =
    let last : List ℕ = ((r ++ []) ++ 10 ∷ []) ++ [] in
    let middle : List ℕ = ((c ++ []) ++ 10 ∷ []) ++ (codes "ensure a0 = " ++ last) in
    let h : r ++ 10 ∷ [] ≡ last = sym (ended r []) in
    let g : c ++ 10 ∷ (codes "ensure a0 = " ++ (r ++ 10 ∷ []))
    ≡ middle = ap (λ z. c ++ 10 ∷ (codes "ensure a0 = " ++ z)) h ∙ sym (ended c (codes "ensure a0 = " ++ last)) in
    let e : s ++ 10 ∷ (codes "require a1 = " ++ (c ++ 10 ∷ (codes "ensure a0 = " ++ (r ++ 10 ∷ [])))) ≡ ((s ++ []) ++ 10 ∷ [])
    ++ (codes "require a1 = " ++ middle) =
    ap (λ z. s ++ 10 ∷ (codes "require a1 = " ++ z)) g ∙ sym (ended s (codes "require a1 = " ++ middle)) in
    ap (λ z. (codes "entry 0x10000" ++ 10 ∷ codes "require a0 = ") ++ z) e

pub front_is : (s c n r : List ℕ) →
    codes "selfrun " ++ (s ++ (codes " " ++ (c ++ (codes " words " ++ (n ++ (codes " a0 " ++ (r ++ codes " ")))))))
    ≡ codes "selfrun" ++ spaced (s ∷ c ∷ codes "words" ∷ n ∷ codes "a0" ∷ r ∷ []) ++ 32 ∷ []
front_is s c n r = ap (λ z. codes "selfrun " ++ z) (
    ap (λ z. s ++ (codes " " ++ z)) (
    ap (λ z. c ++ (codes " words " ++ z)) (
    ap (λ z. n ++ (codes " a0 " ++ z)) (ap (λ z. z ++ 32 ∷ []) (sym (append-nil r)))
    ∙ sym (append_assoc n (codes " a0 " ++ (r ++ [])) (32 ∷ [])))
    ∙ sym (append_assoc c (codes " words " ++ (n ++ (codes " a0 " ++ (r ++ [])))) (32 ∷ [])))
    ∙ sym (append_assoc s (codes " " ++ (c ++ (codes " words " ++ (n ++ (codes " a0 " ++ (r ++ [])))))) (32 ∷ [])))

pub words_step : (x n : ℕ) → 0 < n → item_words x n ≡ item_word (next_item x) ∷ item_words (next_item x) (n - 1)
words_step x zero h = absurd (omega arith)
words_step x (suc n) h = let e : n ≡ suc n - 1 = omega arith in ap (λ k. item_word (next_item x) ∷ item_words (next_item x) k) e

pub result_step : (x a b n : ℕ) → 0 < n → result_from x a b n ≡ result_from (next_item x) (result_of (next_item x) a b) b (n - 1)
result_step x a b zero h = absurd (omega arith)
result_step x a b (suc n) h = let e : n ≡ suc n - 1 = omega arith in ap (λ k. result_from (next_item x) (result_of (next_item x) a b) b k) e

-- an item more
pub words_kept : (words after : List ℕ) (x y w n : ℕ) → 0 < n → y ≡ next_item x → w ≡ item_word y → after ≡ words ++ w ∷ [] →
    after ++ item_words y (n - 1) ≡ words ++ item_words x n
words_kept words after x y w n h e k p =
    ap (λ z. z ++ item_words y (n - 1)) p ∙ append_assoc words (w ∷ []) (item_words y (n - 1))
    ∙ ap (λ v. words ++ v ∷ item_words y (n - 1)) k ∙ ap (λ z. words ++ item_word z ∷ item_words z (n - 1)) e ∙ ap (λ z. words ++ z) (sym (words_step x n h))

pub result_kept : (x y a b d n : ℕ) → 0 < n → y ≡ next_item x → d ≡ result_of y a b → result_from y d b (n - 1) ≡ result_from x a b n
result_kept x y a b d n h e k =
    ap (λ z. result_from y z b (n - 1)) k ∙ ap (λ z. result_from z (result_of z a b) b (n - 1)) e ∙ sym (result_step x a b n h)
