-- What a text says is printed, and each text says a state or is refused.
use Rattle.std.proofs.Common.{◌≡◌, ℕ, refl, sym, ◌∙◌, Bool, List, ◌⊎◌, inl, inr}
use Rattle.machine_spec.specs.StateText.{Layout, StateText, StateFault, IsWritten, IsNamed, state_lines, Told, StateIs, StateRefused, state_of}
use Rattle.word_spec.specs.Texts.{split_lines}
use Rattle.machine_spec.proofs.StateExact.{told_exact}

pub told_is_printed : (layout : Layout) (known : ℕ → Bool) (text : List ℕ) (t : StateText) → state_of layout known text ≡ StateIs t →
    IsWritten layout known t.start × IsNamed t.named × (split_lines text ≡ state_lines layout t)
told_is_printed layout known text t e = let x = told_exact layout known text t e in (x.written, x.named, x.lines)

abbrev IsTold : Told → Type 0
IsTold told = ((t : StateText) × (told ≡ StateIs t)) ⊎ ((n : ℕ) × (f : StateFault) × (told ≡ StateRefused n f))

either : (told : Told) → IsTold told
either (StateIs t) = inl (t, refl)
either (StateRefused n f) = inr (n, f, refl)

never_both : (told : Told) (t : StateText) (n : ℕ) (f : StateFault) → told ≡ StateIs t → told ≡ StateRefused n f → ⊥
never_both told t n f a b = let z : StateIs t ≡ StateRefused n f = sym a ∙ b in cc

pub told_or_refused : (layout : Layout) (known : ℕ → Bool) (text : List ℕ) →
    IsTold (state_of layout known text)
    × ((t : StateText) (n : ℕ) (f : StateFault) → state_of layout known text ≡ StateIs t → state_of layout known text ≡ StateRefused n f → ⊥)
told_or_refused layout known text = (either (state_of layout known text), never_both (state_of layout known text))
