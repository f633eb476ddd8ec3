-- Nodes each of which is one of others.
use Rattle.std.proofs.Common.{◌≡◌, ℕ, ◌<◌, ap, sym, ◌∙◌, subst, arith, refl, List, [], ◌∷◌, length, get_or}
use Rattle.std.specs.Prelude.{All}
use Rattle.std.specs.List.{AllZip}
use Rattle.std.proofs.lemmas.List.{length-map}
use Rattle.std.proofs.lemmas.List.Elements.{All-cons, All-head, All-tail}
use Rattle.graph_nodes.specs.Places.{ats, AreRising}
use Rattle.graph_nodes.specs.declared.nodes.Node.{Node}

-- what nodes say, and their addresses, where each is one of others
module _ (R : Node → Node → Type 0) where
  pub said : (P Q : Node → Type 0) → ((o n : Node) → R o n → P o → Q n) → (olds news : List Node) → AllZip R olds news → All P olds → All Q news
  said P Q up [] [] zip is = λ k d w. absurd (omega arith)
  said P Q up [] (n ∷ news) zip is = absurd zip
  said P Q up (o ∷ olds) [] zip is = absurd zip
  said P Q up (o ∷ olds) (n ∷ news) zip is =
      All-cons Q n news (up o n zip.0 (All-head P o olds is)) (said P Q up olds news zip.1 (All-tail P o olds is))

  module _ (same : (o n : Node) → R o n → n.at ≡ o.at) where
    pub same_ats : (olds news : List Node) → AllZip R olds news → ats news ≡ ats olds
    same_ats [] [] zip = refl
    same_ats [] (n ∷ news) zip = absurd zip
    same_ats (o ∷ olds) [] zip = absurd zip
    same_ats (o ∷ olds) (n ∷ news) zip = ap (λ a. a ∷ ats news) (same o n zip.0) ∙ ap (λ l. o.at ∷ l) (same_ats olds news zip.1)

    pub rising_too : (olds news : List Node) → AllZip R olds news → AreRising olds → AreRising news
    rising_too olds news zip rising i j less w =
        let e = same_ats olds news zip in
        let one = length-map olds (λ (n : Node). n.at) in
        let two = length-map news (λ (n : Node). n.at) in
        let sizes = ap (λ (l : List ℕ). length l) e in
        subst (λ (l : List ℕ). get_or l i 0 < get_or l j 0) (sym e) (rising i j less (omega arith))

-- nodes that are others of the same ones are so of one another
module _ (R S T : Node → Node → Type 0) (join : (o x y : Node) → R o x → S o y → T x y) where
  pub joined_zip : (olds xs ys : List Node) → AllZip R olds xs → AllZip S olds ys → AllZip T xs ys
  joined_zip [] [] [] a b = tt
  joined_zip [] [] (y ∷ ys) a b = absurd b
  joined_zip [] (x ∷ xs) ys a b = absurd a
  joined_zip (o ∷ olds) [] ys a b = absurd a
  joined_zip (o ∷ olds) (x ∷ xs) [] a b = absurd b
  joined_zip (o ∷ olds) (x ∷ xs) (y ∷ ys) a b = (join o x y a.0 b.0, joined_zip olds xs ys a.1 b.1)
