-- Signs of operands.
use Rattle.std.proofs.Common.{◌≡◌, Bool, true, false, refl, sym, ◌∙◌, ap}
use Rattle.word_spec.specs.Words.{differ}
use Rattle.gates.specs.Circuits.{parity}

differ_last : (a p b : Bool) → differ (differ a p) b ≡ differ (differ a b) p
differ_last true true true = refl
differ_last true true false = refl
differ_last true false true = refl
differ_last true false false = refl
differ_last false true true = refl
differ_last false true false = refl
differ_last false false true = refl
differ_last false false false = refl

differ_assoc : (a b p : Bool) → differ a (differ b p) ≡ differ (differ a b) p
differ_assoc true true true = refl
differ_assoc true true false = refl
differ_assoc true false true = refl
differ_assoc true false false = refl
differ_assoc false b p = refl

pub parity_signs : (x y z p q r : Bool) → differ (differ (differ (parity x y z) p) q) r ≡ parity (differ x p) (differ y q) (differ z r)
parity_signs x y z p q r =
    sym
    (differ_assoc (differ (differ x p) (differ y q)) z r
    ∙ ap (λ t. differ t r)
    (ap (λ t. differ t z) (differ_assoc (differ x p) y q ∙ ap (λ t. differ t q) (differ_last x p y))
    ∙ (differ_last (differ (differ x y) p) q z ∙ ap (λ t. differ t q) (differ_last (differ x y) p z))))
