-- Each text with blocks is told once.
use Rattle.std.proofs.Common.{◌≡◌, ℕ, refl, sym, ◌∙◌, ◌⊎◌, inl, inr}
use Rattle.frame_texts_spec.specs.CallTexts.{CallText, CallTextFault, CallTold, CallIs, CallRefused, call_text_of}
use Rattle.frame_texts_spec.specs.CallTextLaws.{IsCallToldOnce, OneCallReading}

either_told : (told : CallTold) → ((t : CallText) × (told ≡ CallIs t)) ⊎ ((n : ℕ) × (f : CallTextFault) × (told ≡ CallRefused n f))
either_told (CallIs t) = inl (t, refl)
either_told (CallRefused n f) = inr (n, f, refl)

never_both : (told : CallTold) (t : CallText) (n : ℕ) (f : CallTextFault) → told ≡ CallIs t → told ≡ CallRefused n f → ⊥
never_both told t n f a b = let z : CallIs t ≡ CallRefused n f = sym a ∙ b in cc

one_text : (told : CallTold) (t u : CallText) → told ≡ CallIs t → told ≡ CallIs u → t ≡ u
one_text told t u a b = let z : CallIs t ≡ CallIs u = sym a ∙ b in cc

one_fault : (told : CallTold) (n m : ℕ) (f g : CallTextFault) → told ≡ CallRefused n f → told ≡ CallRefused m g → (n ≡ m) × (f ≡ g)
one_fault told n m f g a b = let z : CallRefused n f ≡ CallRefused m g = sym a ∙ b in (cc, cc)

told_once : (told : CallTold) → IsCallToldOnce told
told_once told = (either_told told, never_both told, one_text told, one_fault told)

pub one_call_reading : OneCallReading
one_call_reading layout c text = told_once (call_text_of layout c text)
