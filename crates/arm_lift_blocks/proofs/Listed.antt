-- The registers of a word's list.
use Rattle.std.proofs.Common.{◌≡◌, ◌⊎◌, ℕ, zero, suc, ◌+◌, ◌-◌, ◌*◌, ◌^◌, ◌<◌, ◌≤◌, Bool, true, false, refl, ap, sym, ◌∙◌, arith, List, ◌∷◌, length, Option, Some, inl, inr}
use Rattle.std.specs.Prelude.{◌==◌}
use Rattle.std.proofs.lemmas.Bool.{eq-eqb, ne_eqb, cases_eq}
use Rattle.word_spec.specs.Words.{add}
use Rattle.word_spec.specs.Memory.{Endian, Memory, load}
use Rattle.machine_spec.specs.Arm.{has_bit, listed_from}
use Rattle.arm_lift_blocks.proofs.Runs.{one_jump, jump_by}
use Rattle.arm_lift_blocks.proofs.Parts.{AreRegisters, drawn}

-- a test holds or fails
pub holds_or : (t : Bool) → (t ≡ true) ⊎ (t ≡ false)
holds_or true = inl refl
holds_or false = inr refl

pub hit : (w r n : ℕ) → has_bit r w ≡ true → listed_from w r (suc n) ≡ r ∷ listed_from w (r + 1) n
hit w r n h = rw h refl

pub miss : (w r n : ℕ) → has_bit r w ≡ false → listed_from w r (suc n) ≡ listed_from w (r + 1) n
miss w r n h = rw h refl

pub are_registers : (w r n : ℕ) → r + n ≤ 16 → AreRegisters (listed_from w r n)
are_registers w r zero h = tt
are_registers w r (suc n) h = elim (holds_or (has_bit r w)) [
  | inl t ↦ rw (hit w r n t) (omega arith, are_registers w (r + 1) n (omega arith))
  | inr f ↦ rw (miss w r n f) (are_registers w (r + 1) n (omega arith))
]

pub few_listed : (w r n : ℕ) → length (listed_from w r n) ≤ n
few_listed w r zero = omega arith
few_listed w r (suc n) = let h = few_listed w (r + 1) n in elim (holds_or (has_bit r w)) [
  | inl t ↦ rw (hit w r n t) (omega arith)
  | inr f ↦ rw (miss w r n f) (omega arith)
]

-- where r15 is not listed, nothing unknown is stored
not_pc : (w r : ℕ) → has_bit r w ≡ true → has_bit 15 w ≡ false → (r == 15) ≡ false
not_pc w r h k = elim (cases_eq r 15) [
  | inl is ↦ (let t : has_bit 15 w ≡ true = ap (λ z. has_bit z w) (sym is) ∙ h in absurd (let z : true ≡ false = sym t ∙ k in cc))
  | inr ne ↦ ne_eqb r 15 ne
]

pub none_drawn : (w r n : ℕ) → has_bit 15 w ≡ false → drawn (listed_from w r n) ≡ 0
none_drawn w r zero h = refl
none_drawn w r (suc n) h = elim (holds_or (has_bit r w)) [
  | inl t ↦ rw (hit w r n t) (let q = not_pc w r t h in rw q (let k = none_drawn w (r + 1) n h in omega arith))
  | inr f ↦ rw (miss w r n f) (none_drawn w (r + 1) n h)
]

-- no jump to a register that is not r15
stays : (p q : Bool) (j : Option ℕ) (x : ℕ) → q ≡ false → one_jump p q j x ≡ j
stays true q j x h = refl
stays false true j x h = cc
stays false false j x h = refl

pub no_jump : (e : Endian) (m : Memory) (a b w r n : ℕ) (j : Option ℕ) → has_bit 15 w ≡ false → jump_by e m a b (listed_from w r n) j ≡ j
no_jump e m a b w r zero j h = refl
no_jump e m a b w r (suc n) j h = elim (holds_or (has_bit r w)) [
  | inl t ↦
      let x : ℕ = load e 4 m a in
      ap (λ rs. jump_by e m a b rs j) (hit w r n t)
      ∙ ap (jump_by e m (add 32 a 4) b (listed_from w (r + 1) n)) (stays (r == b) (r == 15) j x (not_pc w r t h))
      ∙ no_jump e m (add 32 a 4) b w (r + 1) n j h
  | inr f ↦ ap (λ rs. jump_by e m a b rs j) (miss w r n f) ∙ no_jump e m a b w (r + 1) n j h
]

-- r15 is the last of the list that has it
some_listed : (w r n : ℕ) → r + suc n ≡ 16 → has_bit 15 w ≡ true → 1 ≤ length (listed_from w r (suc n))
some_listed w r zero h k =
    let is : r ≡ 15 = omega arith in
    let t : has_bit r w ≡ true = ap (λ z. has_bit z w) is ∙ k in
    rw (hit w r zero t) (omega arith)
some_listed w r (suc n) h k = let i = some_listed w (r + 1) n (omega arith) k in elim (holds_or (has_bit r w)) [
  | inl t ↦ rw (hit w r (suc n) t) (omega arith)
  | inr f ↦ rw (miss w r (suc n) f) i
]

last_one : (b r x : ℕ) (j : Option ℕ) → r ≡ 15 → (b == 15) ≡ false → one_jump (r == b) (r == 15) j x ≡ Some x
last_one b r x j is n = elim (cases_eq r b) [
  | inl same ↦ absurd (let t : (b == 15) ≡ true = eq-eqb b 15 (sym same ∙ is) in let z : true ≡ false = sym t ∙ n in cc)
  | inr ne ↦ rw (ne_eqb r b ne, eq-eqb r 15 is) refl
]

pub last_jump : (e : Endian) (m : Memory) (a b w r n : ℕ) (j : Option ℕ) → r + suc n ≡ 16 → has_bit 15 w ≡ true → (b == 15) ≡ false → a < 2 ^ 32 →
    jump_by e m a b (listed_from w r (suc n)) j ≡ Some (load e 4 m (add 32 a (4 * length (listed_from w r (suc n)) - 4)))
last_jump e m a b w r zero j h k n low =
    let is : r ≡ 15 = omega arith in
    let t : has_bit r w ≡ true = ap (λ z. has_bit z w) is ∙ k in
    let same : a ≡ add 32 a 0 = omega arith in
    ap (λ rs. jump_by e m a b rs j) (hit w r zero t) ∙ last_one b r (load e 4 m a) j is n
    ∙ ap (λ z. Some (load e 4 m z)) same ∙ ap (λ (rs : List ℕ). Some (load e 4 m (add 32 a (4 * length rs - 4)))) (sym (hit w r zero t))
last_jump e m a b w r (suc k) j h i n low = elim (holds_or (has_bit r w)) [
  | inl t ↦
      let rs : List ℕ = listed_from w (r + 1) (suc k) in
      let x : ℕ = load e 4 m a in
      let some = some_listed w (r + 1) k (omega arith) i in
      let away : (r == 15) ≡ false = ne_eqb r 15 (λ z. omega arith) in
      let next : add 32 (add 32 a 4) (4 * length rs - 4) ≡ add 32 a (4 * length (r ∷ rs) - 4) = omega arith in
      ap (λ rs. jump_by e m a b rs j) (hit w r (suc k) t)
      ∙ ap (jump_by e m (add 32 a 4) b rs) (stays (r == b) (r == 15) j x away)
      ∙ last_jump e m (add 32 a 4) b w (r + 1) k j (omega arith) i n (omega arith)
      ∙ ap (λ z. Some (load e 4 m z)) next
      ∙ ap (λ (rs : List ℕ). Some (load e 4 m (add 32 a (4 * length rs - 4)))) (sym (hit w r (suc k) t))
  | inr f ↦
      ap (λ rs. jump_by e m a b rs j) (miss w r (suc k) f)
      ∙ last_jump e m a b w (r + 1) k j (omega arith) i n low
      ∙ ap (λ (rs : List ℕ). Some (load e 4 m (add 32 a (4 * length rs - 4)))) (sym (miss w r (suc k) f))
]
