-- The offsets of accesses.
use Rattle.std.proofs.Common.{◌≡◌, ℕ, ◌+◌, ◌*◌, ◌^◌, ◌<◌, Bool, true, false, ◌&&◌, refl, ap, sym, subst, ◌∙◌, arith, if◌then◌else◌}
use Rattle.std.proofs.lemmas.Bool.Decides.{nat_tests}
use Rattle.std.specs.Prelude.{◌==◌}
use Rattle.word_spec.specs.Words.{bits}
use Rattle.word_spec.specs.State.{State, IsState, flag_c}
use Rattle.machine_spec.specs.Arm as rows
use Rattle.machine_spec.specs.Arm.{reg, bit_i, has_offset, field_m, field_s, kind_of, amount_of, flag_set, is_transfer, is_halfword, transfer_offset, halfword_offset, none}
use Rattle.machine_spec.proofs.ArmRanges.{reg_small}
use Rattle.arm_decode.specs.declared.parts.ShiftKind.{ShiftKind}
use Rattle.arm_decode.specs.declared.parts.ShiftKind.TheVariants.{Lsl, Lsr, Asr, Ror}
use Rattle.arm_decode.specs.declared.register.Register.{Register}
use Rattle.arm_decode.specs.declared.register.AnyRegister.{AnyRegister}
use Rattle.arm_decode.specs.declared.parts.Operand.TheVariants as operand
use Rattle.arm_decode.specs.declared.parts.Offset as offsets
use Rattle.arm_decode.specs.declared.parts.Offset.TheVariants as offset
use Rattle.arm_decode.specs.declared.parts.HalfwordOffset as halves
use Rattle.arm_decode.specs.declared.parts.HalfwordOffset.TheVariants as half
use Rattle.arm_decode.specs.Parts.{kind_number, HasOffset, HasHalfwordOffset}
use Rattle.arm_lift_alu.specs.declared.shifter.CarryIn.TheVariants.{Flag}
use Rattle.arm_lift_alu.specs.Operands.{through_carry}
use Rattle.arm_lift_alu.proofs.Plain.{IsPlain, number_plain, lighter}
use Rattle.arm_lift_alu.proofs.Weights.{HasCarry, register_plain, operand_plain}
use Rattle.arm_lift_alu.proofs.Values.{Gives, operand_gives, small}
use Rattle.arm_lift_mem.specs.Accesses as lifts
use Rattle.arm_lift_mem.specs.Halfwords as halfwords
use Rattle.arm_lift_mem.proofs.Values.{IsWord, word_is}
use Rattle.arm_lift_mem.proofs.Bases.{based, register_value, other_behind}
use Rattle.arm_lift_mem.proofs.Facts.{transfer_apart, halfword_apart}

-- the row reads the carry: the offset is a rotation through it
abbrev pub is_rrx : ℕ → Bool
is_rrx w = bit_i w && (kind_of w == 3) && (amount_of w == 0)

-- the flags that the row reads beside those of its condition
abbrev pub offset_reads : ℕ → ℕ → Bool
offset_reads w = flag_set false (is_rrx w) false

through_number : (kind : ShiftKind) (n : ℕ) → through_carry kind n ≡ ((kind_number kind == 3) && (n == 0))
through_number Lsl n = refl
through_number Lsr n = refl
through_number Asr n = refl
through_number Ror n = refl

needed : (c : Bool) → c ≡ true → HasCarry Flag (flag_set false c false)
needed true h f e = grind (arith, nat_tests)
needed false h f e = cc

-- a number of 12 bits
twelve : (w : ℕ) → bits 11 0 w < 2 ^ 12
twelve w = omega arith

-- a register that is not r15, as one that may be
abbrev any : Register → AnyRegister
any r = record { number = r.number; in_range = (let h = r.in_range in omega arith) }

pub offset_plain : (w : ℕ) (o : offsets.Offset) (at : ℕ) → HasOffset w o → IsPlain 32 512 (offset_reads w) (lifts.offset_of o at)
offset_plain w (offset.Number n) at h =
    let few : n < 2 ^ 12 = subst (λ (z : ℕ). z < 2 ^ 12) (sym h.1) (twelve w) in
    lighter 32 0 512 _ _ (number_plain n (offset_reads w) (omega arith)) (omega arith)
offset_plain w (offset.Shifted r kind amount) at h =
    operand_plain (operand.ByNumber (any r) kind amount) Flag at (offset_reads w)
    (λ t. needed (is_rrx w) (
    rw h.0 (ap (λ k. (k == 3) && (amount_of w == 0)) (sym h.2) ∙ ap (λ n. (kind_number kind == 3) && (n == 0)) (sym h.3)
    ∙ sym (through_number kind amount.bits) ∙ t)
    )) tt

shift_from : (k l n m v u c : ℕ) → k ≡ l → n ≡ m → v ≡ u → (rows.by_number k n v c).value ≡ (rows.by_number l m u c).value
shift_from k l n m v u c a b e =
    ap (λ k. (rows.by_number k n v c).value) a ∙ ap (λ n. (rows.by_number l n v c).value) b ∙ ap (λ v. (rows.by_number l m v c).value) e

-- what the offset is by the row
numbered : (w : ℕ) (s : State) (n : ℕ) → bit_i w ≡ false → n ≡ bits 11 0 w → n ≡ transfer_offset w s
numbered w s n h e = rw h e

offset_gives : (w at : ℕ) (o : offsets.Offset) (s : State) → IsState s → s.pc ≡ at → HasOffset w o →
    Gives Flag s 32 (lifts.offset_of o at) (transfer_offset w s)
offset_gives w at (offset.Number n) s is here h = record { is = λ f g c l. word_is 32 _ _ (numbered w s n h.0 h.1) }
offset_gives w at (offset.Shifted r kind amount) s is here h =
    let same : (rows.by_number (kind_number kind) amount.bits (reg s r.number) (s.flags flag_c)).value ≡ transfer_offset w s
    = rw h.0 (shift_from _ _ _ _ _ _ (s.flags flag_c) h.2 h.3 (ap (reg s) h.1)) in
    subst (λ (a : ℕ). Gives Flag s 32 (lifts.offset_of (offset.Shifted r kind amount) at) a) same
    (operand_gives (operand.ByNumber (any r) kind amount) Flag s at is here)

pub offset_value : (w at : ℕ) (o : offsets.Offset) (c : ℕ) (s : State) → IsState s → s.pc ≡ at → HasOffset w o →
    IsWord (lifts.offset_of o at) c s (transfer_offset w s)
offset_value w at o c s is here h l = (offset_gives w at o s is here h).is s.flags refl c l

pub offset_below : (w at : ℕ) (o : offsets.Offset) (s : State) → IsState s → s.pc ≡ at → HasOffset w o → transfer_offset w s < 2 ^ 32
offset_below w at o s is here h = small 32 512 (offset_reads w) (lifts.offset_of o at) _ Flag s is (offset_plain w o at h) refl
    (offset_gives w at o s is here h)

-- the write-back changes no offset
pub offset_behind : (w : ℕ) (s : State) (x : ℕ) → is_transfer w ≡ true → transfer_offset w (based w s x) ≡ transfer_offset w s
offset_behind w s x row = by (bit_i w) (λ i. other_behind w s x (field_m w) (transfer_apart w row i))
  where
    by : (b : Bool) → (b ≡ true → reg (based w s x) (field_m w) ≡ reg s (field_m w)) →
        (if b then (rows.by_number (kind_of w) (amount_of w) (reg (based w s x) (field_m w)) (s.flags flag_c)).value else bits 11 0 w)
        ≡ (if b then (rows.by_number (kind_of w) (amount_of w) (reg s (field_m w)) (s.flags flag_c)).value else bits 11 0 w)
    by true h = ap (λ v. (rows.by_number (kind_of w) (amount_of w) v (s.flags flag_c)).value) (h refl)
    by false h = refl

-- the offset of a halfword's access
eight : (w : ℕ) → field_s w * 16 + field_m w < 2 ^ 8
eight w = omega arith

pub half_plain : (w : ℕ) (o : halves.HalfwordOffset) (at : ℕ) → HasHalfwordOffset w o → IsPlain 32 0 none (halfwords.offset_of o at)
half_plain w (half.Number n) at h =
    let few : n < 2 ^ 8 = subst (λ (z : ℕ). z < 2 ^ 8) (sym h.1) (eight w) in
    number_plain n none (omega arith)
half_plain w (half.Register r) at h = register_plain r.number at none (let k = r.in_range in omega arith)

pub half_value : (w at : ℕ) (o : halves.HalfwordOffset) (c : ℕ) (s : State) → s.pc ≡ at → HasHalfwordOffset w o →
    IsWord (halfwords.offset_of o at) c s (halfword_offset w s)
half_value w at (half.Number n) c s here h l = rw h.0 (word_is 32 _ _ h.1)
half_value w at (half.Register r) c s here h l = rw h.0 (register_value s r.number at c here l ∙ word_is 32 _ _ (ap (reg s) h.1))

pub half_below : (w : ℕ) (s : State) → IsState s → halfword_offset w s < 2 ^ 32
half_below w s is = by (has_offset w)
  where
    by : (b : Bool) → (if b then field_s w * 16 + field_m w else reg s (field_m w)) < 2 ^ 32
    by true = omega (arith, eight w)
    by false = reg_small s (field_m w) is

pub half_behind : (w : ℕ) (s : State) (x : ℕ) → is_halfword w ≡ true → halfword_offset w (based w s x) ≡ halfword_offset w s
half_behind w s x row = by (has_offset w) (λ i. other_behind w s x (field_m w) (halfword_apart w row i))
  where
    by : (b : Bool) → (b ≡ false → reg (based w s x) (field_m w) ≡ reg s (field_m w)) →
        (if b then field_s w * 16 + field_m w else reg (based w s x) (field_m w)) ≡ (if b then field_s w * 16 + field_m w else reg s (field_m w))
    by true h = refl
    by false h = h refl
