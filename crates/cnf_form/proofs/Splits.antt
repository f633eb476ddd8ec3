-- Numbers are cut at a 0.
use Rattle.std.proofs.Common.{◌≡◌, ℕ, ◌<◌, ◌+◌, ◌-◌, true, not, List, [], ◌∷◌, ◌++◌, refl, arith, sym, ap, ◌∙◌, length, take, drop, drop-cons, length-drop, get_or, add-one, take-append-drop}
use Rattle.std.specs.List.{list_all}
use Rattle.std.proofs.lemmas.List.{take_all}
use Rattle.clause_spec.specs.CertificateGrammar.{Integer, parts, is_zero, is_ended}
use Rattle.clause_spec.proofs.PrintedWords.{parts_cut}

pub ended-behind : (xs : List Integer) (x : Integer) (rest : List Integer) → is_zero x ≡ true → is_ended (xs ++ x ∷ rest) ≡ is_ended rest
ended-behind [] x [] h = h
ended-behind [] x (y ∷ rest) h = refl
ended-behind (y ∷ []) x rest h = ended-behind [] x rest h
ended-behind (y ∷ z ∷ zs) x rest h = ended-behind (z ∷ zs) x rest h

module _ (ns : List Integer) (i : ℕ) (x : Integer) (lt : i < length ns) (is : x ≡ get_or ns i x) (zero : is_zero x ≡ true) where
  around : ns ≡ take i ns ++ x ∷ drop (i + 1) ns
  around =
      let d : drop i ns ≡ x ∷ drop (i + 1) ns = rw (add-one, drop-cons ns i x, ← is) refl in
      sym (take-append-drop i ns) ∙ ap (λ (ys : List Integer). take i ns ++ ys) d

  behind : take (length ns - (i + 1)) (drop (i + 1) ns) ≡ drop (i + 1) ns
  behind = take_all (length ns - (i + 1)) (drop (i + 1) ns) (omega (arith, length-drop (i + 1) ns))

  pub parts-at : list_all (λ n. not (is_zero n)) (take i ns) ≡ true →
      parts is_zero ns ≡ take i ns ∷ parts is_zero (take (length ns - (i + 1)) (drop (i + 1) ns))
  parts-at h =
      ap (parts is_zero) around ∙ parts_cut is_zero (take i ns) x (drop (i + 1) ns) h zero
      ∙ ap (λ (ys : List Integer). take i ns ∷ parts is_zero ys) (sym behind)

  pub ended-at : is_ended ns ≡ is_ended (take (length ns - (i + 1)) (drop (i + 1) ns))
  ended-at = ap is_ended around ∙ ended-behind (take i ns) x (drop (i + 1) ns) zero ∙ ap is_ended (sym behind)
