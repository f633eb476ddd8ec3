-- The places of the inputs of parts.
use Rattle.std.proofs.Common.{◌≡◌, refl, ap, sym, ◌∙◌, subst, arith, ℕ, zero, suc, ◌+◌, ◌-◌, ◌*◌, ◌<◌, ◌≤◌, Bool, true, false, Some, None, if◌then◌else◌}
use Rattle.std.specs.Prelude.{slice_index_or, unwrap_or}
use Rattle.term_spec.specs.Terms.{TermReading}
use Rattle.word_gates.specs.Numbers.{input_number}
use Rattle.bit_blast.specs.declared.input_places.InputPlaces.{InputPlaces}
use Rattle.bit_blast.specs.Places.{AreInOrder, HasFlag, HasPart, HasRead, HasRegister, IsGivenFlag, IsGivenRegister, IsRead, IsReadingAt, first_of, gift_flag, gift_register, reads_of}

-- a part that is not the entry's is the head's
pub part_of_head : (p : InputPlaces) (part : ℕ) → HasPart p part → (part ≡ 0 → ⊥) → (p.heads ≡ true) × (first_of p part ≡ p.first_head)
part_of_head p zero h e = absurd (e refl)
part_of_head p (suc zero) h e = (h, refl)
part_of_head p (suc (suc i)) h e = absurd h

-- where the choices begin
pub behind_head : (p : InputPlaces) → AreInOrder p → p.heads ≡ true → p.first_choice ≡ p.first_head + p.first_head
behind_head p order e = order.choice ∙ ap (λ b. p.first_head + (if b then p.first_head else 0)) e

pub behind_entry : (p : InputPlaces) → AreInOrder p → p.heads ≡ false → p.first_choice ≡ p.first_head
behind_entry p order e = order.choice ∙ ap (λ b. p.first_head + (if b then p.first_head else 0)) e ∙ (let z : p.first_head + 0 ≡ p.first_head = omega arith in z)

-- a part's state is before the choices
pub state_within : (p : InputPlaces) (part : ℕ) → AreInOrder p → HasPart p part → first_of p part + p.first_head ≤ p.first_choice
state_within p zero order h = let e = order.choice in omega arith
state_within p (suc zero) order h = let e = behind_head p order h in omega arith
state_within p (suc (suc i)) order h = absurd h

-- a register or a flag of a part has its place as all of the part have, or it is given
pub state_register : (p : InputPlaces) (part n : ℕ) → part < 2 → HasRegister p part n →
    HasPart p part × (p.first_register ≤ n) × (n < p.first_register + p.registers)
state_register p zero n l h = (tt, h.0, h.1)
state_register p (suc zero) n l h = h
state_register p (suc (suc i)) n l h = absurd (omega arith)

pub given_register : (p : InputPlaces) (part n : ℕ) → 2 ≤ part → HasRegister p part n → (k : ℕ) × IsGivenRegister p (part - 2) n k
given_register p zero n l h = absurd (omega arith)
given_register p (suc zero) n l h = absurd (omega arith)
given_register p (suc (suc i)) n l h =
    let e : i ≡ suc (suc i) - 2 = omega arith in (h.0, subst (λ (z : ℕ). IsGivenRegister p z n h.0) e h.1)

pub state_flag : (p : InputPlaces) (part f : ℕ) → part < 2 → HasFlag p part f → HasPart p part × (f < p.flags)
state_flag p zero f l h = (tt, h)
state_flag p (suc zero) f l h = h
state_flag p (suc (suc i)) f l h = absurd (omega arith)

pub given_flag : (p : InputPlaces) (part f : ℕ) → 2 ≤ part → HasFlag p part f → (k : ℕ) × IsGivenFlag p (part - 2) f k
given_flag p zero f l h = absurd (omega arith)
given_flag p (suc zero) f l h = absurd (omega arith)
given_flag p (suc (suc i)) f l h =
    let e : i ≡ suc (suc i) - 2 = omega arith in (h.0, subst (λ (z : ℕ). IsGivenFlag p z f h.0) e h.1)

-- there is but one first input
pub one_register : (p : InputPlaces) (i n k j : ℕ) → IsGivenRegister p i n k → gift_register p i n ≡ Some j → j ≡ k
one_register p i n k j h e = ap (λ z. unwrap_or z 0) (sym e ∙ h.0)

pub one_flag : (p : InputPlaces) (i f k j : ℕ) → IsGivenFlag p i f k → gift_flag p i f ≡ Some j → j ≡ k
one_flag p i f k j h e = ap (λ z. unwrap_or z 0) (sym e ∙ h.0)

-- the input of a register of a state, and of one that is given
pub state_register_at : (p : InputPlaces) (part n : ℕ) → AreInOrder p → part < 2 → HasRegister p part n →
    (first_of p part + 32 * (n - p.first_register) + 32 ≤ p.inputs)
    × ((v : ℕ → Bool) (x : TermReading) → IsReadingAt p v x → input_number v (first_of p part + 32 * (n - p.first_register)) 32 ≡ x.regs part n)
state_register_at p part n order l h =
    let q = state_register p part n l h in
    let s = state_within p part order q.0 in
    let low = q.1 in
    let high = q.2 in
    (omega (arith, order.flag, order.head, order.gift, order.byte, order.all), (λ v x at. sym (at.registers part n q.0 q.1 q.2)))

pub given_register_at : (p : InputPlaces) (part n first : ℕ) → AreInOrder p → 2 ≤ part → HasRegister p part n → gift_register p (part - 2) n ≡ Some first →
    (first + 32 ≤ p.inputs) × ((v : ℕ → Bool) (x : TermReading) → IsReadingAt p v x → input_number v first 32 ≡ x.regs part n)
given_register_at p part n first order l h e =
    let q = given_register p part n l h in
    let same = one_register p (part - 2) n q.0 first q.1 e in
    let within = q.1.1 in (
      omega (arith, order.all),
      (λ v x at.
          ap (λ z. input_number v z 32) same ∙ sym (at.gift_registers (part - 2) n q.0 q.1)
          ∙ ap (λ z. x.regs z n) (let f : suc (suc (part - 2)) ≡ part = omega arith in f)),
    )

pub register_is_given : (p : InputPlaces) (part n : ℕ) → 2 ≤ part → HasRegister p part n → gift_register p (part - 2) n ≡ None → ⊥
register_is_given p part n l h e = let q = given_register p part n l h in let f : Some q.0 ≡ None = sym q.1.0 ∙ e in cc

-- so the input of a flag
pub state_flag_at : (p : InputPlaces) (part f : ℕ) → AreInOrder p → part < 2 → HasFlag p part f →
    (first_of p part + p.first_flag + f + 1 ≤ p.inputs)
    × ((v : ℕ → Bool) (x : TermReading) → IsReadingAt p v x → input_number v (first_of p part + p.first_flag + f) 1 ≡ x.flags part f)
state_flag_at p part f order l h =
    let q = state_flag p part f l h in
    let s = state_within p part order q.0 in
    let high = q.1 in
    (omega (arith, order.head, order.gift, order.byte, order.all), (λ v x at. sym (at.flags part f q.0 q.1)))

pub given_flag_at : (p : InputPlaces) (part f input : ℕ) → AreInOrder p → 2 ≤ part → HasFlag p part f → gift_flag p (part - 2) f ≡ Some input →
    (input + 1 ≤ p.inputs) × ((v : ℕ → Bool) (x : TermReading) → IsReadingAt p v x → input_number v input 1 ≡ x.flags part f)
given_flag_at p part f input order l h e =
    let q = given_flag p part f l h in
    let same = one_flag p (part - 2) f q.0 input q.1 e in
    let within = q.1.1 in (
      omega (arith, order.all),
      (λ v x at.
          ap (λ z. input_number v z 1) same ∙ sym (at.gift_flags (part - 2) f q.0 q.1)
          ∙ ap (λ z. x.flags z f) (let g : suc (suc (part - 2)) ≡ part = omega arith in g)),
    )

pub flag_is_given : (p : InputPlaces) (part f : ℕ) → 2 ≤ part → HasFlag p part f → gift_flag p (part - 2) f ≡ None → ⊥
flag_is_given p part f l h e = let q = given_flag p part f l h in let g : Some q.0 ≡ None = sym q.1.0 ∙ e in cc

-- the number of a read
pub read_number : (p : InputPlaces) (part j k : ℕ) → IsRead p part j k → unwrap_or (slice_index_or (reads_of p part) j None) 0 ≡ k
read_number p part j k h = ap (λ z. unwrap_or z 0) h.0

-- it is the only one
pub one_read : (p : InputPlaces) (part j place : ℕ) → HasRead p part j → slice_index_or (reads_of p part) j None ≡ Some place → place < p.reads
one_read p part j place h e =
    let same : h.0 ≡ place = ap (λ z. unwrap_or z 0) (sym h.1.0 ∙ e) in let l = h.1.1 in omega arith
