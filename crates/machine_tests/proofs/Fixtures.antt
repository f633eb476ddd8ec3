-- What the contracts of tests may change.
use Rattle.std.proofs.Common.{◌≡◌, ℕ, zero, suc, ◌-◌, ◌≤◌, ◌<◌, ap, sym, ◌∙◌, subst, arith, Bool, true, false, List, [], ◌∷◌, Option, Some, None, length, AllPairs}
use Rattle.std.specs.Prelude.{◌==◌, if◌then◌else◌}
use Rattle.std.proofs.lemmas.List.Elements.{All-cons, All-nil}
use Rattle.machine_spec.specs.StateText.{Layout, arm_layout}
use Rattle.word_spec.specs.Memory.{Big}
use Rattle.word_spec.specs.Profiles.{V4}
use Rattle.frame_texts_spec.specs.CallTexts.{Changes, HasChanges}
use Rattle.call_text.specs.Texts.{changes_at, changes_of}
use Rattle.call_text.specs.declared.text.ContractChanges.{ContractChanges}

abbrev arm : Layout
arm = arm_layout Big V4

-- r0, r1, N and V
abbrev some : Changes
some = record { registers = 0 ∷ 1 ∷ []; flags = 3 ∷ 0 ∷ [] }

abbrev IsRegister : ℕ → Type 0
IsRegister r = (arm.first ≤ r) × (r - arm.first < length arm.registers)

abbrev IsFlag : ℕ → Type 0
IsFlag f = f < length arm.flags

falls : AllPairs (λ f g. g < f) (3 ∷ 0 ∷ [])
falls zero zero d h k = absurd (omega arith)
falls zero (suc zero) d h k = omega arith
falls zero (suc (suc j)) d h k = absurd (omega arith)
falls (suc zero) zero d h k = absurd (omega arith)
falls (suc zero) (suc j) d h k = absurd (omega arith)
falls (suc (suc i)) j d h k = absurd (omega arith)

has_some : HasChanges arm some
has_some = record {
  registers = All-cons IsRegister 0 (1 ∷ []) (omega arith, omega arith) (All-cons IsRegister 1 [] (omega arith, omega arith) (All-nil IsRegister));
  flags = All-cons IsFlag 3 (0 ∷ []) (omega arith) (All-cons IsFlag 0 [] (omega arith) (All-nil IsFlag));
  flags_fall = falls;
}

-- one contract that may change them
pub one_contract : (contracts : List ContractChanges) (c : ContractChanges) → contracts ≡ c ∷ [] → c.registers.items ≡ 0 ∷ 1 ∷ [] →
    c.flags.items ≡ 3 ∷ 0 ∷ [] → (a : ℕ) (x : Changes) → changes_at contracts a ≡ Some x → HasChanges arm x
one_contract contracts c one registers flags a x is = by_test (c.at == a) (sym (ap (λ (l : List ContractChanges). changes_at l a) one) ∙ is)
  where
    by_test : (t : Bool) → (if t then Some (changes_of c) else None) ≡ Some x → HasChanges arm x
    by_test false is = absurd (let z : ◌≡◌ {A = Option Changes} None (Some x) = is in cc)
    by_test true is =
        let same : changes_of c ≡ x = cc in
        subst (HasChanges arm)
        (sym (ap (λ (l : List ℕ). record { registers = l; flags = c.flags.items }) registers
        ∙ ap (λ (l : List ℕ). record { registers = 0 ∷ 1 ∷ []; flags = l }) flags) ∙ same) has_some
