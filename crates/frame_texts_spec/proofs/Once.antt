-- Each text is told once.
use Rattle.std.proofs.Common.{◌≡◌, ℕ, refl, sym, ◌∙◌, ◌⊎◌, inl, inr}
use Rattle.frame_texts_spec.specs.FrameTexts.{FramedText, FrameFault, FramedTold, FramedIs, FramedRefused, framed_of}
use Rattle.frame_texts_spec.specs.FrameTextLaws.{IsToldOnce, OneReading}

either_told : (told : FramedTold) → ((t : FramedText) × (told ≡ FramedIs t)) ⊎ ((n : ℕ) × (f : FrameFault) × (told ≡ FramedRefused n f))
either_told (FramedIs t) = inl (t, refl)
either_told (FramedRefused n f) = inr (n, f, refl)

never_both : (told : FramedTold) (t : FramedText) (n : ℕ) (f : FrameFault) → told ≡ FramedIs t → told ≡ FramedRefused n f → ⊥
never_both told t n f a b = let z : FramedIs t ≡ FramedRefused n f = sym a ∙ b in cc

one_text : (told : FramedTold) (t u : FramedText) → told ≡ FramedIs t → told ≡ FramedIs u → t ≡ u
one_text told t u a b = let z : FramedIs t ≡ FramedIs u = sym a ∙ b in cc

one_fault : (told : FramedTold) (n m : ℕ) (f g : FrameFault) → told ≡ FramedRefused n f → told ≡ FramedRefused m g → (n ≡ m) × (f ≡ g)
one_fault told n m f g a b = let z : FramedRefused n f ≡ FramedRefused m g = sym a ∙ b in (cc, cc)

pub told_once : (told : FramedTold) → IsToldOnce told
told_once told = (either_told told, never_both told, one_text told, one_fault told)

pub one_reading : OneReading
one_reading layout c text = told_once (framed_of layout c text)
