-- What a contract may change, and whether it has changed.
use Rattle.std.proofs.Common.{◌≡◌, inl, inr, ℕ, zero, suc, ◌+◌, ◌-◌, ◌<◌, ◌≤◌, List, ◌∷◌, length, get_or, drop, drop-cons, add-one, map, Bool, true, false, Some, refl, sym, ap, ◌∙◌, arith, eq-eqb, ne_eqb}
use Rattle.std.specs.Prelude.{◌==◌, ◌&&◌, ◌||◌, not, filter, nat_eq, nat_lt, if◌then◌else◌}
use Rattle.std.specs.List.{list_any}
use Rattle.std.proofs.lemmas.Bool.{cases_eq}
use Rattle.std.proofs.lemmas.Bool.Decides.{nat_tests}
use Rattle.std.proofs.lemmas.Map.Views.{any-filter_same}
use Rattle.word_spec.specs.RowFiles.{from_to}
use Rattle.word_spec.specs.State.{State}
use Rattle.machine_spec.specs.Machine.{Machine}
use Rattle.machine_spec.specs.MachineLaws.{IsFitted}
use Rattle.machine_spec.specs.StateText.{Layout}
use Rattle.bilv_spec.proofs.PointSteps.{same_number}
use Rattle.frame_spec.specs.Frames as frames
use Rattle.frame_spec.specs.Frames.{Frame, contract_at, keeps_register, keeps_flag}
use Rattle.notes_value.specs.FrameViews.{contract_of, is_in}
use Rattle.notes_value.specs.declared.notes.Contract.{Contract}
use Rattle.table_run.specs.CalledFrames.{flag_differs, flags_differ, register_differs, registers_differ}

-- ---- sets

pub in_range : (n r k : ℕ) → k ≤ r → r < k + n → list_any (nat_eq r) (from_to k n) ≡ true
in_range zero r k from upto = absurd (omega arith)
in_range (suc n) r k from upto = elim (cases_eq r k) as (λ _. list_any (nat_eq r) (from_to k (suc n)) ≡ true) [
  | inl same ↦ ap (λ b. b || list_any (nat_eq r) (from_to (k + 1) n)) (eq-eqb r k same)
  | inr other ↦ ap (λ b. b || list_any (nat_eq r) (from_to (k + 1) n)) (ne_eqb r k other)
      ∙ in_range n r (k + 1) (omega (arith, other)) (omega arith)
]

pub out_of_range : (n r k : ℕ) → k + n ≤ r → list_any (nat_eq r) (from_to k n) ≡ false
out_of_range zero r k over = refl
out_of_range (suc n) r k over =
    ap (λ b. b || list_any (nat_eq r) (from_to (k + 1) n)) (ne_eqb r k (λ same. absurd (omega (arith, same))))
    ∙ out_of_range n r (k + 1) (omega arith)

and_true : (b : Bool) → (b && true) ≡ b
and_true true = refl
and_true false = refl

-- a number of a set that is a list of those below a bound
pub listed : (P : ℕ → Bool) (r n : ℕ) → r < n → list_any (nat_eq r) (filter P (from_to 0 n)) ≡ P r
listed P r n below =
    any-filter_same (nat_eq r) P (P r) (λ k same. ap P (sym (same_number r k same))) (from_to 0 n)
    ∙ ap (λ b. P r && b) (in_range n r 0 (omega arith) (omega arith)) ∙ and_true (P r)

-- a set without a number of which a test is false
pub unlisted : (P : ℕ → Bool) (r : ℕ) (l : List ℕ) → P r ≡ false → list_any (nat_eq r) (filter P l) ≡ false
unlisted P r l none = any-filter_same (nat_eq r) P false (λ k same. ap P (sym (same_number r k same)) ∙ none) l

pub keeps_register_is : (f : Frame) (m : Machine) (x : Contract) (r : ℕ) (a b : Bool) → f.program.machine ≡ m → r < 32 → a ≡ m.has_register r →
    b ≡ is_in x.registers r → (a && not b) ≡ keeps_register f (contract_of x) r
keeps_register_is f m x r a b machine below has set =
    ap (λ z. z && not b) has ∙ ap (λ z. m.has_register r && not z) (set ∙ sym (listed (is_in x.registers) r 32 below))
    ∙ ap (λ (z : Machine). z.has_register r && not (list_any (nat_eq r) (contract_of x).registers)) (sym machine)

pub keeps_flag_is : (f : Frame) (m : Machine) (x : Contract) (n : ℕ) (a b : Bool) → f.program.machine ≡ m → n < 4 → a ≡ m.has_flag n →
    b ≡ is_in x.flags n → (a && not b) ≡ keeps_flag f (contract_of x) n
keeps_flag_is f m x n a b machine below has set =
    ap (λ z. z && not b) has ∙ ap (λ z. m.has_flag n && not z) (set ∙ sym (listed (is_in x.flags) n 4 below))
    ∙ ap (λ (z : Machine). z.has_flag n && not (list_any (nat_eq n) (contract_of x).flags)) (sym machine)

-- the machine has a flag of its form
pub flag_there : (m : Machine) (form : Layout) (n count : ℕ) → IsFitted m form → count ≡ length form.flags → n < count → true ≡ m.has_flag n
flag_there m form n count fitted is below =
    let test : nat_lt n count ≡ true = grind (arith, nat_tests) in
    sym (fitted.flags n ∙ ap (nat_lt n) (sym is) ∙ test)

-- ---- what has changed

module _ (f : Frame) (x : frames.Contract) (entry new : State) where
  pub next_register : (k end : ℕ) → k < end → (b : Bool) → b ≡ register_differs f x entry new k →
      registers_differ f x entry new k (end - k) ≡ (b || registers_differ f x entry new (k + 1) (end - (k + 1)))
  unfolding registers_differ
  next_register k end below b is =
      let more : end - k ≡ suc (end - (k + 1)) = omega arith in
      ap (λ n. list_any (register_differs f x entry new) (from_to k n)) more
      ∙ ap (λ z. z || list_any (register_differs f x entry new) (from_to (k + 1) (end - (k + 1)))) (sym is)

  pub no_registers : (k n : ℕ) → n ≡ 0 → registers_differ f x entry new k n ≡ false
  unfolding registers_differ
  no_registers k n none = ap (λ n. list_any (register_differs f x entry new) (from_to k n)) none

  pub next_flag : (k end : ℕ) → k < end → (b : Bool) → b ≡ flag_differs f x entry new k →
      flags_differ f x entry new k (end - k) ≡ (b || flags_differ f x entry new (k + 1) (end - (k + 1)))
  unfolding flags_differ
  next_flag k end below b is =
      let more : end - k ≡ suc (end - (k + 1)) = omega arith in
      ap (λ n. list_any (flag_differs f x entry new) (from_to k n)) more
      ∙ ap (λ z. z || list_any (flag_differs f x entry new) (from_to (k + 1) (end - (k + 1)))) (sym is)

  pub no_flags : (k n : ℕ) → n ≡ 0 → flags_differ f x entry new k n ≡ false
  unfolding flags_differ
  no_flags k n none = ap (λ n. list_any (flag_differs f x entry new) (from_to k n)) none

  pub changed_is : (a b : Bool) → a ≡ registers_differ f x entry new 0 32 → b ≡ flags_differ f x entry new 0 4 → (a || b) ≡ frames.has_changed f x entry new
  unfolding registers_differ flags_differ
  changed_is a b one two =
      ap (λ z. z || b) one ∙ ap (λ z. list_any (register_differs f x entry new) (from_to 0 32) || z) two

  pub changed_first : true ≡ registers_differ f x entry new 0 32 → true ≡ frames.has_changed f x entry new
  changed_first one = changed_is true (flags_differ f x entry new 0 4) one refl

-- ---- the contract of an address

module _ (xs : List Contract) (i at : ℕ) (x : Contract) (below : i < length xs) (item : x ≡ get_or xs i x)
    (inv : contract_at (map contract_of (drop i xs)) at ≡ contract_at (map contract_of xs) at) where
  split : contract_at (map contract_of xs) at ≡ (if x.at == at then Some (contract_of x) else contract_at (map contract_of (drop (i + 1) xs)) at)
  split =
      sym inv ∙ ap (λ l. contract_at (map contract_of l) at) (drop-cons xs i x below)
      ∙ ap (λ (y : Contract). contract_at (contract_of y ∷ map contract_of (drop (suc i) xs)) at) (sym item)
      ∙ ap (λ k. if x.at == at then Some (contract_of x) else contract_at (map contract_of (drop k xs)) at) (sym (add-one i))

  pub contract_found : x.at ≡ at → Some (contract_of x) ≡ contract_at (map contract_of xs) at
  contract_found same =
      sym (split ∙ ap (λ b. if b then Some (contract_of x) else contract_at (map contract_of (drop (i + 1) xs)) at) (eq-eqb x.at at same))

  pub contract_not : (x.at ≡ at → ⊥) → contract_at (map contract_of (drop (i + 1) xs)) at ≡ contract_at (map contract_of xs) at
  contract_not other =
      sym (split ∙ ap (λ b. if b then Some (contract_of x) else contract_at (map contract_of (drop (i + 1) xs)) at) (ne_eqb x.at at other))
