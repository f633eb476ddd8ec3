-- Lists that are copied element by element.
use Rattle.std.proofs.Common.{◌≡◌, ℕ, suc, ◌+◌, ◌<◌, List, [], ◌∷◌, ◌++◌, length, map, drop, get_or, sym, ap, ◌∙◌, add-one, append_assoc}
use Rattle.std.proofs.Math.Seq.{drop-cons}

module _ {A B : Type 0} (f : A → B) where
  swap : (before : List A) (c s : A) (after : List A) → f c ≡ f s → map f (before ++ c ∷ after) ≡ map f (before ++ s ∷ after)
  swap [] c s after same = ap (λ z. z ∷ map f after) same
  swap (x ∷ before) c s after same = ap (λ z. f x ∷ z) (swap before c s after same)

  -- one more is copied
  pub copied_next : (list copies after : List A) (i : ℕ) (s c : A) (all : List B) → i < length list → s ≡ get_or list i s → f c ≡ f s →
      after ≡ copies ++ c ∷ [] → map f (copies ++ drop i list) ≡ all → map f (after ++ drop (i + 1) list) ≡ all
  copied_next list copies after i s c all h e same a inv =
      let rest = drop (suc i) list in
      let d : drop i list ≡ s ∷ rest = drop-cons list i s h ∙ ap (λ z. z ∷ rest) (sym e) in
      rw (add-one, a) (ap (map f) (append_assoc copies (c ∷ []) rest) ∙ swap copies c s rest same ∙ ap (λ z. map f (copies ++ z)) (sym d) ∙ inv)
