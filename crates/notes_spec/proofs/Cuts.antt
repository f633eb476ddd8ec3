-- A list that is cut at an element twice.
use Rattle.std.proofs.Common.{◌≡◌, refl, ap, ap₂, sym, List, [], ◌∷◌, ◌++◌}

-- both cuts are at one place, or one is in what the other leaves
pub data Cuts {X : Type 0} (xs : List X) (t : X) (ys vs : List X) (u : X) (ws : List X) : Type 0 where
  same : xs ≡ vs → t ≡ u → ys ≡ ws → Cuts xs t ys vs u ws
  earlier : (zs : List X) → vs ≡ xs ++ t ∷ zs → ys ≡ zs ++ u ∷ ws → Cuts xs t ys vs u ws
  later : (zs : List X) → xs ≡ vs ++ u ∷ zs → ws ≡ zs ++ t ∷ ys → Cuts xs t ys vs u ws

behind : {X : Type 0} (x v : X) (xs : List X) (t : X) (ys vs : List X) (u : X) (ws : List X) → x ≡ v → Cuts xs t ys vs u ws → Cuts (x ∷ xs) t ys (v ∷ vs) u ws
behind x v xs t ys vs u ws e (same a b c) = same (ap₂ (λ h r. h ∷ r) e a) b c
behind x v xs t ys vs u ws e (earlier zs a b) = earlier zs (ap₂ (λ h r. h ∷ r) (sym e) a) b
behind x v xs t ys vs u ws e (later zs a b) = later zs (ap₂ (λ h r. h ∷ r) e a) b

pub cuts : {X : Type 0} (xs : List X) (t : X) (ys vs : List X) (u : X) (ws : List X) → xs ++ t ∷ ys ≡ vs ++ u ∷ ws → Cuts xs t ys vs u ws
cuts [] t ys [] u ws is = let h : t ≡ u = cc in let r : ys ≡ ws = cc in same refl h r
cuts [] t ys (v ∷ vs) u ws is = let h : t ≡ v = cc in let r : ys ≡ vs ++ u ∷ ws = cc in earlier vs (ap (λ y. y ∷ vs) (sym h)) r
cuts (x ∷ xs) t ys [] u ws is = let h : x ≡ u = cc in let r : xs ++ t ∷ ys ≡ ws = cc in later xs (ap (λ y. y ∷ xs) h) (sym r)
cuts (x ∷ xs) t ys (v ∷ vs) u ws is =
    let h : x ≡ v = cc in let r : xs ++ t ∷ ys ≡ vs ++ u ∷ ws = cc in behind x v xs t ys vs u ws h (cuts xs t ys vs u ws r)
