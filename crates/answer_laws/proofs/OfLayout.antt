-- What contracts over a machine may change is of a layout that fits it.
use Rattle.std.proofs.Common.{◌≡◌, ℕ, ◌+◌, ◌-◌, ◌<◌, ◌≤◌, refl, sym, ◌∙◌, subst, arith, true, false, Bool, List, [], ◌∷◌, Option, Some, All, length}
use Rattle.std.specs.Prelude.{◌==◌, ◌&&◌, ◌||◌, nat_eq, nat_le, nat_lt, if◌then◌else◌}
use Rattle.std.specs.List.{list_any}
use Rattle.std.proofs.lemmas.Bool.Decides.{nat_tests}
use Rattle.std.proofs.lemmas.List.Elements.{All-nil, All-cons, All-head, All-tail}
use Rattle.machine_spec.specs.Machine.{Machine}
use Rattle.machine_spec.specs.MachineLaws.{IsFitted}
use Rattle.machine_spec.specs.StateText.{Layout}
use Rattle.frame_spec.specs.Frames.{Contract, contract_at}
use Rattle.notes_lang.specs.Framed.{IsContractOver}
use Rattle.answer_laws.specs.LayoutContracts.{ContractsAreOfLayout}

or_true : (a b : Bool) → b ≡ true → (a || b) ≡ true
or_true true b h = refl
or_true false b h = h

itself : (n : ℕ) → nat_eq n n ≡ true
itself n = grind (arith, nat_tests)

-- what holds of each number of a list by a test
all_of : (P : ℕ → Type 0) (ns : List ℕ) → ((n : ℕ) → list_any (nat_eq n) ns ≡ true → P n) → All P ns
all_of P [] h = All-nil P
all_of P (n ∷ ns) h =
    All-cons P n ns (h n (rw (itself n) refl)) (all_of P ns (λ m e. h m (or_true (nat_eq m n) (list_any (nat_eq m) ns) e)))

-- the contract of an address is one of them
one_by : (P : Contract → Type 0) (here : Bool) (x y : Contract) (rest : Option Contract) → P x → (rest ≡ Some y → P y) →
    (if here then Some x else rest) ≡ Some y → P y
one_by P true x y rest h more e = let same : x ≡ y = cc in subst P same h
one_by P false x y rest h more e = more e

one_of : (P : Contract → Type 0) (xs : List Contract) (a : ℕ) (y : Contract) → All P xs → contract_at xs a ≡ Some y → P y
one_of P [] a y all e = absurd (cc e)
one_of P (x ∷ xs) a y all e =
    one_by P (x.at == a) x y (contract_at xs a) (All-head P x xs all) (one_of P xs a y (All-tail P x xs all)) e

both : (a b : Bool) → (a && b) ≡ true → (a ≡ true) × (b ≡ true)
both true b h = (refl, h)
both false b h = absurd (cc h)

module _ (m : Machine) (layout : Layout) (fitted : IsFitted m layout) (x : Contract) (over : IsContractOver m.has_register m.has_flag x) where
  register_is : (r : ℕ) → list_any (nat_eq r) x.registers ≡ true → (layout.first ≤ r) × (r - layout.first < length layout.registers)
  register_is r e =
      let t = both (nat_le layout.first r) (nat_lt r (layout.first + length layout.registers)) (sym (fitted.registers r) ∙ over.registers r e) in
      let low : layout.first ≤ r = grind (arith, nat_tests, t.0) in
      let high : r < layout.first + length layout.registers = grind (arith, nat_tests, t.1) in
      (low, omega (arith, low, high))

  flag_is : (f : ℕ) → list_any (nat_eq f) x.flags ≡ true → f < length layout.flags
  flag_is f e =
      let t = sym (fitted.flags f) ∙ over.flags f e in grind (arith, nat_tests, t)

pub contracts_are_of_layout : ContractsAreOfLayout
contracts_are_of_layout m layout w fitted all a x found =
    let over = one_of (IsContractOver m.has_register m.has_flag) w.contracts a x all found in (
      all_of (λ r. (layout.first ≤ r) × (r - layout.first < length layout.registers)) x.registers (register_is m layout fitted x over),
      all_of (λ f. f < length layout.flags) x.flags (flag_is m layout fitted x over),
    )
