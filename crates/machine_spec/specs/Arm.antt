-- The instruction table of ARM state by profile: version 4, version 4T with BX, version 5 with BX and CLZ (ARM Architecture Reference Manual, ARM DDI 0100I,
-- chapters A2 to A5).
use Rattle.std.specs.Prelude.{ℕ, zero, suc, ◌+◌, ◌-◌, ◌*◌, ◌/◌, ◌%◌, ◌^◌, Bool, true, false, List, [], ◌∷◌, Option, Some, None, ◌==◌, ◌&&◌, ◌||◌, not, nat_le, if◌then◌else◌, bit_and, bit_or, bit_xor, length}
use Rattle.std.specs.List.{list_any}
use Rattle.std.specs.Int.Count.{count_leading_zeros}
use Rattle.word_spec.specs.Words.{add, sub, mul, bits, bit, bit_at, sign_extend, complement, shl, shr, sar, ror, aligned}
use Rattle.word_spec.specs.Memory.{Endian, Memory, load, store}
use Rattle.word_spec.specs.State.{State, put, with_pc, flag_n, flag_z, flag_c, flag_v}
use Rattle.machine_spec.specs.Machine.{On, Direct, DirectCall, Indirect, Outcome, Goes, Raises, SoftwareInterrupt, OddHalfword, UnalignedLoad, Successors, only_next, Cost, FlagUse, Row, Machine}
pub use Rattle.word_spec.specs.Profiles.{Profile, V4, V4T, V5}

-- BX comes with version 4T
abbrev pub has_exchange : Profile → Bool
has_exchange V4 = false
has_exchange V4T = true
has_exchange V5 = true

-- CLZ comes with version 5, from which on a multiply that sets the flags keeps C and V
abbrev pub is_fifth : Profile → Bool
is_fifth V4 = false
is_fifth V4T = false
is_fifth V5 = true

-- the profile of a number: 0 version 4, 1 version 4T, any other version 5
abbrev pub profile_of : ℕ → Profile
profile_of n = if n == 0 then V4 else if n == 1 then V4T else V5

-- the register in bits 19 to 16
abbrev pub field_n : ℕ → ℕ
field_n w = bits 19 16 w

-- the register in bits 15 to 12
abbrev pub field_d : ℕ → ℕ
field_d w = bits 15 12 w

-- the register in bits 11 to 8
abbrev pub field_s : ℕ → ℕ
field_s w = bits 11 8 w

-- the register in bits 3 to 0
abbrev pub field_m : ℕ → ℕ
field_m w = bits 3 0 w

-- one bit of the word is set
abbrev pub has_bit : ℕ → ℕ → Bool
has_bit i w = bit_at i w == 1

-- the number bit I of data processing and of LDR and STR
abbrev pub bit_i : ℕ → Bool
bit_i w = has_bit 25 w

-- the bit P of accesses: the offset is added before the access
abbrev pub is_pre : ℕ → Bool
is_pre w = has_bit 24 w

-- the bit U of accesses: the offset is added, else subtracted
abbrev pub is_up : ℕ → Bool
is_up w = has_bit 23 w

-- the bit B of accesses, and of SWP: one byte, else a word
abbrev pub is_byte : ℕ → Bool
is_byte w = has_bit 22 w

-- the bit W of accesses
abbrev pub bit_w : ℕ → Bool
bit_w w = has_bit 21 w

-- the bit A of multiplies: they add
abbrev pub accumulates : ℕ → Bool
accumulates w = has_bit 21 w

-- the bit L of accesses
abbrev pub is_load : ℕ → Bool
is_load w = has_bit 20 w

-- register 15 reads as the row's address and 8 (section A2.4)
abbrev pub reg : State → ℕ → ℕ
reg s r = if r == 15 then add 32 s.pc 8 else s.regs r

-- a stored register 15 is the address and 8, or, by the choice's low bit, 12
abbrev pub stored_reg : State → ℕ → ℕ → ℕ
stored_reg s c r = if r == 15 then add 32 s.pc (if has_bit 0 c then 12 else 8) else s.regs r

-- the conditions in the order of their codes (section A3.2); with bits 31 to 28 all set a word has no row
abbrev pub conditions : State → List Bool
conditions s =
    let n = s.flags flag_n == 1 in
    let z = s.flags flag_z == 1 in
    let c = s.flags flag_c == 1 in
    let v = s.flags flag_v == 1 in
    let ge = s.flags flag_n == s.flags flag_v in
    z ∷ not z ∷ c ∷ not c ∷ n ∷ not n ∷ v ∷ not v ∷ (c && not z) ∷ not (c && not z) ∷ ge ∷ not ge ∷ (not z && ge) ∷ not (not z && ge) ∷ true ∷ []

-- the test at a place of a list
abbrev pub nth : List Bool → ℕ → Bool
nth [] i = false
nth (b ∷ bs) zero = b
nth (b ∷ bs) (suc i) = nth bs i

-- the condition's code
abbrev pub condition_code : ℕ → ℕ
condition_code w = bits 31 28 w

-- the condition AL
abbrev pub is_always : ℕ → Bool
is_always w = condition_code w == 14

-- the word's condition holds in a state
abbrev pub holds : ℕ → State → Bool
holds w s = if is_always w then true else nth (conditions s) (condition_code w)

-- one of the four flags is among these
abbrev pub among : List ℕ → ℕ → Bool
among flags f = list_any (λ g. g == f) flags

-- the flags that each condition names, in the order of their codes
abbrev pub condition_flags : List (List ℕ)
condition_flags =
    (flag_z ∷ []) ∷ (flag_z ∷ []) ∷ (flag_c ∷ []) ∷ (flag_c ∷ []) ∷ (flag_n ∷ []) ∷ (flag_n ∷ []) ∷ (flag_v ∷ []) ∷ (flag_v ∷ []) ∷
    (flag_c ∷ flag_z ∷ []) ∷ (flag_c ∷ flag_z ∷ []) ∷ (flag_n ∷ flag_v ∷ []) ∷ (flag_n ∷ flag_v ∷ []) ∷
    (flag_n ∷ flag_z ∷ flag_v ∷ []) ∷ (flag_n ∷ flag_z ∷ flag_v ∷ []) ∷ [] ∷ []

-- the flag is named by the condition
abbrev pub condition_reads : List (List ℕ) → ℕ → ℕ → Bool
condition_reads [] code f = false
condition_reads (flags ∷ rest) zero f = among flags f
condition_reads (flags ∷ rest) (suc code) f = condition_reads rest code f

-- a row whose condition is false only goes on
abbrev pub on : State → State → Outcome
on old new = Goes On (with_pc new (add 32 old.pc 4))

-- what is done where the condition holds, and else the step to the next address
abbrev pub when : Bool → State → Outcome → Outcome
when true s done = done
when false s done = on s s

-- the bytes that are loaded or stored where the condition holds
abbrev pub when_stored : Bool → ℕ × ℕ → Option (ℕ × ℕ)
when_stored true bytes = Some bytes
when_stored false bytes = None

-- a written register 15 is an indirect jump, every other one is set
abbrev pub write_by : (to_pc : Bool) → State → State → ℕ → ℕ → Outcome
write_by true old new r v = Goes Indirect (with_pc new v)
write_by false old new r v = on old (record new { regs = put new.regs r v })

-- a register is written
abbrev pub write : State → State → ℕ → ℕ → Outcome
write old new r v = write_by (r == 15) old new r v

-- static successors: the next address unless the row always jumps, and an indirect jump where it writes register 15
abbrev pub may_write_pc : ℕ → Bool → ℕ → Successors
may_write_pc w writes at = record { next = not (writes && is_always w); direct = None; indirect = writes; call = false }

-- an operand and the carry out of the shifter (section A5.1)
pub record Shifted : Type 0 where
  pub value : ℕ
  pub carry : ℕ

-- a shift by an amount that is not 0, of type 0 LSL, 1 LSR, 2 ASR, 3 ROR
abbrev pub shifts : ℕ → ℕ → List Shifted
shifts v n =
    record { value = shl 32 v n; carry = if nat_le n 32 then bit_at (32 - n) v else 0 } ∷
    record { value = shr 32 v n; carry = if nat_le n 32 then bit_at (n - 1) v else 0 } ∷
    record { value = sar 32 v n; carry = if nat_le n 32 then bit_at (n - 1) v else bit_at 31 v } ∷
    record { value = ror 32 v n; carry = if n % 32 == 0 then bit_at 31 v else bit_at (n % 32 - 1) v } ∷ []

-- the shift of a type
abbrev pub shift_of : List Shifted → ℕ → Shifted
shift_of [] k = record { value = 0; carry = 0 }
shift_of (x ∷ xs) zero = x
shift_of (x ∷ xs) (suc k) = shift_of xs k

-- by the number 0: nothing, as 32, as 32, and a rotation through the carry
abbrev pub shifts_by_0 : ℕ → ℕ → List Shifted
shifts_by_0 v c =
    record { value = v; carry = c } ∷ record { value = 0; carry = bit_at 31 v } ∷ record { value = sar 32 v 32; carry = bit_at 31 v } ∷
    record { value = c * 2 ^ 31 + v / 2; carry = bit_at 0 v } ∷ []

-- a shift by a number
abbrev pub by_number : (kind amount value carry : ℕ) → Shifted
by_number k zero v c = shift_of (shifts_by_0 v c) k
by_number k (suc n) v c = shift_of (shifts v (suc n)) k

-- by a register's low byte: 0 leaves value and carry as they are
abbrev pub by_register : (kind amount value carry : ℕ) → Shifted
by_register k zero v c = record { value = v; carry = c }
by_register k (suc n) v c = shift_of (shifts v (suc n)) k

-- the shift's type
abbrev pub kind_of : ℕ → ℕ
kind_of w = bits 6 5 w

-- the shift's number
abbrev pub amount_of : ℕ → ℕ
amount_of w = bits 11 7 w

-- a number of 8 bits, rotated to the right by twice a number of 4
abbrev pub rotated : ℕ → ℕ → Shifted
rotated w c =
    let v = ror 32 (bits 7 0 w) (2 * bits 11 8 w) in
    record { value = v; carry = if bits 11 8 w == 0 then c else bit_at 31 v }

-- a register, shifted by a register or by a number
abbrev pub register_operand : (by_register : Bool) → ℕ → State → Shifted
register_operand true w s = by_register (kind_of w) (reg s (field_s w) % 256) (reg s (field_m w)) (s.flags flag_c)
register_operand false w s = by_number (kind_of w) (amount_of w) (reg s (field_m w)) (s.flags flag_c)

-- the operand: a number, or a register that is shifted by a register where bit 4 is set
abbrev pub operand_by : (number : Bool) → ℕ → State → Shifted
operand_by true w s = rotated w (s.flags flag_c)
operand_by false w s = register_operand (has_bit 4 w) w s

-- the operand of data processing (section A5.1)
abbrev pub operand : ℕ → State → Shifted
operand w s = operand_by (bit_i w) w s

-- the operand is a rotation through the carry; it leaves the carry as it is
abbrev pub is_rrx : ℕ → Bool
is_rrx w = not (bit_i w) && not (has_bit 4 w) && (kind_of w == 3) && (amount_of w == 0)

-- the shifter's carry is the flag C, whatever the registers are
abbrev pub keeps_carry : ℕ → Bool
keeps_carry w = if bit_i w then bits 11 8 w == 0 else not (has_bit 4 w) && (kind_of w == 0) && (amount_of w == 0)

-- the operand is shifted by a register
abbrev pub by_a_register : ℕ → Bool
by_a_register w = not (bit_i w) && has_bit 4 w

-- A result of data processing (section A3.4), with the flags C and V. The opcodes are 0 AND, 1 EOR, 2 SUB, 3 RSB, 4 ADD, 5 ADC, 6 SBC, 7 RSC, 8 TST, 9 TEQ, 10
-- CMP, 11 CMN, 12 ORR, 13 MOV,
-- 14 BIC, 15 MVN.
pub record Result : Type 0 where
  pub value : ℕ
  pub carry : ℕ
  pub overflow : ℕ

-- a logical row takes the shifter's carry and keeps V
abbrev pub logical : State → Shifted → ℕ → Result
logical s o v = record { value = v; carry = o.carry; overflow = s.flags flag_v }

-- x and y and a carry: the sum, the carry out, the signed overflow
abbrev pub sum : ℕ → ℕ → ℕ → Result
sum x y c =
    let v = (x + y + c) % 2 ^ 32 in
    record {
      value = v;
      carry = bit (nat_le (2 ^ 32) (x + y + c));
      overflow = bit ((bit_at 31 x == bit_at 31 y) && not (bit_at 31 x == bit_at 31 v));
    }

-- a difference is the sum with the complement; its carry is that there is no borrow
abbrev pub difference : ℕ → ℕ → ℕ → Result
difference x y c = sum x (complement 32 y) c

-- the results of the sixteen opcodes
abbrev pub results : State → ℕ → Shifted → List Result
results s x o =
    let y = o.value in
    let c = s.flags flag_c in
    logical s o (bit_and x y) ∷ logical s o (bit_xor x y) ∷ difference x y 1 ∷ difference y x 1 ∷
    sum x y 0 ∷ sum x y c ∷ difference x y c ∷ difference y x c ∷
    logical s o (bit_and x y) ∷ logical s o (bit_xor x y) ∷ difference x y 1 ∷ sum x y 0 ∷
    logical s o (bit_or x y) ∷ logical s o y ∷ logical s o (bit_and x (complement 32 y)) ∷ logical s o (complement 32 y) ∷ []

-- the result of an opcode
abbrev pub result_at : List Result → ℕ → Result
result_at [] k = record { value = 0; carry = 0; overflow = 0 }
result_at (x ∷ xs) zero = x
result_at (x ∷ xs) (suc k) = result_at xs k

-- the opcode
abbrev pub opcode : ℕ → ℕ
opcode w = bits 24 21 w

-- the bit S
abbrev pub sets_flags : ℕ → Bool
sets_flags w = has_bit 20 w

-- the four flags
abbrev pub with_flags : (ℕ → ℕ) → (n z c v : ℕ) → ℕ → ℕ
with_flags f n z c v = put (put (put (put f flag_n n) flag_z z) flag_c c) flag_v v

-- the flags after a computing row
abbrev pub flags_of : ℕ → State → Result → ℕ → ℕ
flags_of w s r = if sets_flags w then with_flags s.flags (bit_at 31 r.value) (bit (r.value == 0)) r.carry r.overflow else s.flags

-- TST, TEQ, CMP and CMN write no register
abbrev pub is_test : ℕ → Bool
is_test w = bits 24 23 w == 2

-- the logical opcodes
abbrev pub is_logical : ℕ → Bool
is_logical w = list_any (λ k. k == opcode w) (0 ∷ 1 ∷ 8 ∷ 9 ∷ 12 ∷ 13 ∷ 14 ∷ 15 ∷ [])

-- ADC, SBC and RSC read the carry
abbrev pub adds_carry : ℕ → Bool
adds_carry w = list_any (λ k. k == opcode w) (5 ∷ 6 ∷ 7 ∷ [])

-- what a row does with a result: the flags, and the register unless it is a test
abbrev pub computed_by : (test : Bool) → ℕ → State → Result → Outcome
computed_by true w s r = on s (record s { flags = flags_of w s r })
computed_by false w s r = write s (record s { flags = flags_of w s r }) (field_d w) r.value

-- what a computing row does
abbrev pub computed : ℕ → State → Outcome
computed w s = computed_by (is_test w) w s (result_at (results s (reg s (field_n w)) (operand w s)) (opcode w))

-- N and Z, C, V, as far as they are in a set
abbrev pub flag_set : (nz c v : Bool) → ℕ → Bool
flag_set nz c v f = (nz && among (flag_n ∷ flag_z ∷ []) f) || (c && (f == flag_c)) || (v && (f == flag_v))

-- no flag
abbrev pub none : ℕ → Bool
none f = false

-- the flags that a row reads beside those of its condition, those that it assigns, and those that it surely assigns where its condition is always true
abbrev pub flag_use : ℕ → (reads assigns surely : ℕ → Bool) → FlagUse
flag_use w reads assigns surely = record {
  reads = λ f. condition_reads condition_flags (condition_code w) f || reads f;
  assigns = assigns;
  surely = λ f. is_always w && surely f;
}

-- the flags that a computing row uses
abbrev pub computing_flags : ℕ → FlagUse
computing_flags w =
    let s = sets_flags w in
    let l = is_logical w in
    flag_use w (flag_set false (adds_carry w || is_rrx w) false)
    (flag_set s (s && not (l && keeps_carry w)) (s && not l))
    (flag_set s (s && not (l && (keeps_carry w || by_a_register w))) (s && not l))

-- what most rows have
abbrev pub plain_cost : Cost
plain_cost = record { row = 4096; loads = 0; stores = 0 }

-- a row from its effect, with what most rows have
abbrev pub row_of : ℕ → (State → ℕ → Outcome) → Row
row_of w effect = record {
  length = 4;
  effect = λ s c. when (holds w s) s (effect s c);
  stored = λ s. None;
  successors = only_next;
  literal = λ at. None;
  cost = plain_cost;
  flags = flag_use w none none none;
  draws = false;
  adds_pc = None;
  jumps_to = None;
  links = false;
  loaded = λ s. None;
}

-- register 15 is at one of these places
abbrev pub is_pc_among : List ℕ → Bool
is_pc_among rs = list_any (λ r. r == 15) rs

-- a word has a computing row
abbrev pub is_computing : ℕ → Bool
is_computing w =
    (bits 27 26 w == 0) && (bit_i w || not (has_bit 4 w) || not (has_bit 7 w))
    && not (is_test w && (not (sets_flags w) || not (field_d w == 0)))
    && not (((opcode w == 13) || (opcode w == 15)) && not (field_n w == 0))
    && not (sets_flags w && (field_d w == 15))
    && not (by_a_register w && is_pc_among (field_n w ∷ field_d w ∷ field_s w ∷ field_m w ∷ []))

-- the computing row of a word
abbrev pub computing : ℕ → Row
computing w = record (row_of w (λ s c. computed w s)) {
  successors = may_write_pc w (not (is_test w) && (field_d w == 15));
  flags = computing_flags w;
}

-- a word has a row of MUL or MLA (section A3.5)
abbrev pub is_multiply : ℕ → Bool
is_multiply w =
    (bits 27 22 w == 0) && (bits 7 4 w == 9)
    && not (is_pc_among (field_n w ∷ field_d w ∷ field_s w ∷ field_m w ∷ []))
    && not (field_n w == field_m w) && (accumulates w || (field_d w == 0))

-- a multiply that sets the flags, unless it keeps C and V, takes them from the choice
abbrev pub by_choice : (keeps : Bool) → ℕ → Bool
by_choice keeps w = not keeps && sets_flags w

-- The destination is in bits 19 to 16 and the addend in bits 15 to 12. With S, N and Z are the result's; C is kept, or is the choice's low bit; V is kept.
abbrev pub multiplied : (keeps : Bool) → ℕ → State → ℕ → Outcome
multiplied keeps w s c =
    let v = add 32 (mul 32 (reg s (field_m w)) (reg s (field_s w))) (if accumulates w then reg s (field_d w) else 0) in
    let carry = if keeps then s.flags flag_c else bit_at 0 c in
    on s (record s {
      regs = put s.regs (field_n w) v;
      flags = (if sets_flags w then with_flags s.flags (bit_at 31 v) (bit (v == 0)) carry (s.flags flag_v) else s.flags);
    })

-- the row of MUL and MLA
abbrev pub multiply : (keeps : Bool) → ℕ → Row
multiply keeps w = record (row_of w (multiplied keeps w)) {
  cost = record { row = 20000; loads = 0; stores = 0 };
  flags = flag_use w none (flag_set (sets_flags w) (by_choice keeps w) false) (flag_set (sets_flags w) (by_choice keeps w) false);
  draws = by_choice keeps w;
}

-- a word has a row of UMULL, UMLAL, SMULL or SMLAL
abbrev pub is_multiply_long : ℕ → Bool
is_multiply_long w =
    (bits 27 23 w == 1) && (bits 7 4 w == 9)
    && not (is_pc_among (field_n w ∷ field_d w ∷ field_s w ∷ field_m w ∷ []))
    && not (field_n w == field_d w) && not (field_n w == field_m w) && not (field_d w == field_m w)

-- The upper half goes to the register in bits 19 to 16, the lower to that in bits 15 to 12. Bit 22 is set for signed ones. With S, C and V are kept, or are the
-- choice's bits.
abbrev pub multiplied_long : (keeps : Bool) → ℕ → State → ℕ → Outcome
multiplied_long keeps w s c =
    let wide = λ (x : ℕ). if has_bit 22 w then sign_extend 32 64 x else x in
    let product = mul 64 (wide (reg s (field_m w))) (wide (reg s (field_s w))) in
    let v = add 64 product (if accumulates w then reg s (field_n w) * 2 ^ 32 + reg s (field_d w) else 0) in
    let carry = if keeps then s.flags flag_c else bit_at 0 c in
    let overflow = if keeps then s.flags flag_v else bit_at 1 c in
    on s (record s {
      regs = put (put s.regs (field_d w) (v % 2 ^ 32)) (field_n w) (v / 2 ^ 32);
      flags = (if sets_flags w then with_flags s.flags (bit_at 63 v) (bit (v == 0)) carry overflow else s.flags);
    })

-- the row of UMULL, UMLAL, SMULL and SMLAL
abbrev pub multiply_long : (keeps : Bool) → ℕ → Row
multiply_long keeps w = record (row_of w (multiplied_long keeps w)) {
  cost = record { row = 20000; loads = 0; stores = 0 };
  flags = flag_use w none (flag_set (sets_flags w) (by_choice keeps w) (by_choice keeps w)) (flag_set (sets_flags w) (by_choice keeps w) (by_choice keeps w));
  draws = by_choice keeps w;
}

-- a word's load: the aligned word, rotated so that the addressed byte is the lowest (section A3.11)
abbrev pub load_word : Endian → Memory → ℕ → ℕ
load_word e m a = ror 32 (load e 4 m (aligned a)) (8 * (a % 4))

-- a word, stored at its aligned address
abbrev pub store_word : Endian → Memory → ℕ → ℕ → Memory
store_word e m a v = store e 4 m (aligned a) v

-- a byte or a word, word_loaded
abbrev pub load_by : (byte : Bool) → Endian → Memory → ℕ → ℕ
load_by true e m a = load e 1 m a
load_by false e m a = load_word e m a

-- a byte or a word, stored
abbrev pub store_by : (byte : Bool) → Endian → Memory → ℕ → ℕ → Memory
store_by true e m a v = store e 1 m a v
store_by false e m a v = store_word e m a v

-- the first address and the number of the bytes of an access to a byte or a word
abbrev pub access_of : (byte : Bool) → ℕ → ℕ × ℕ
access_of true a = (a, 1)
access_of false a = (aligned a, 4)

-- a word has a row of SWP or SWPB (section A3.13)
abbrev pub is_swap : ℕ → Bool
is_swap w =
    (bits 27 23 w == 2) && (bits 21 20 w == 0) && (bits 11 4 w == 9)
    && not (is_pc_among (field_n w ∷ field_d w ∷ field_m w ∷ []))
    && not (field_n w == field_m w) && not (field_n w == field_d w)

-- what SWP and SWPB do
abbrev pub swapped : Endian → ℕ → State → Outcome
swapped e w s =
    let a = reg s (field_n w) in
    let v = reg s (field_m w) in
    on s (record s { regs = put s.regs (field_d w) (load_by (is_byte w) e s.mem a); mem = store_by (is_byte w) e s.mem a v })

-- the row of SWP and SWPB; where Rd is Rm its loads count three times
abbrev pub swap : Endian → ℕ → Row
swap e w =
    let n = if is_byte w then 1 else 4 in
    record (row_of w (λ s c. swapped e w s)) {
      stored = λ s. when_stored (holds w s) (access_of (is_byte w) (reg s (field_n w)));
      cost = record { row = 4096; loads = if field_d w == field_m w then 3 * n else n; stores = n };
      loaded = λ s. when_stored (holds w s) (access_of (is_byte w) (reg s (field_n w)));
    }

-- the base with the offset added or subtracted (section A5.2)
abbrev pub moved : ℕ → ℕ → ℕ → ℕ
moved w base offset = if is_up w then add 32 base offset else sub 32 base offset

-- the base is written back
abbrev pub writes_back : ℕ → Bool
writes_back w = not (is_pre w) || bit_w w

-- the address of an access
abbrev pub address : ℕ → ℕ → ℕ → ℕ
address w base offset = if is_pre w then moved w base offset else base

-- the registers after the write-back
abbrev pub base_written : ℕ → State → ℕ → ℕ → ℕ
base_written w s offset = if writes_back w then put s.regs (field_n w) (moved w (s.regs (field_n w)) offset) else s.regs

-- no row has write-back with these registers, or a post-indexed form with W
abbrev pub is_bad_base : ℕ → (by_register : Bool) → Bool
is_bad_base w by_register =
    (not (is_pre w) && bit_w w) || (by_register && (field_m w == 15))
    || (writes_back w && ((field_n w == 15) || (field_n w == field_d w) || (by_register && (field_n w == field_m w))))

-- a word has a row of LDR, LDRB, STR or STRB (section A3.11)
abbrev pub is_transfer : ℕ → Bool
is_transfer w =
    (bits 27 26 w == 1) && not (bit_i w && has_bit 4 w) && not (is_bad_base w (bit_i w)) && not (is_byte w && (field_d w == 15))

-- the offset: a number, or a register shifted by a number
abbrev pub transfer_offset : ℕ → State → ℕ
transfer_offset w s =
    if bit_i w then (by_number (kind_of w) (amount_of w) (reg s (field_m w)) (s.flags flag_c)).value else bits 11 0 w

-- the address of LDR and STR
abbrev pub transfer_address : ℕ → State → ℕ
transfer_address w s = address w (reg s (field_n w)) (transfer_offset w s)

-- a load to register 15 from an unaligned address
abbrev pub is_unaligned : ℕ → State → Bool
is_unaligned w s = (field_d w == 15) && not (transfer_address w s % 4 == 0)

-- a load, unless it is one to register 15 from an unaligned address
abbrev pub loaded_by : (unaligned : Bool) → Endian → ℕ → State → Outcome
loaded_by true e w s = Raises UnalignedLoad
loaded_by false e w s =
    write s (record s { regs = base_written w s (transfer_offset w s) }) (field_d w) (load_by (is_byte w) e s.mem (transfer_address w s))

-- what LDR and LDRB do; a word that is word_loaded to register 15 is taken as it is
abbrev pub word_loaded : Endian → ℕ → State → Outcome
word_loaded e w s = loaded_by (is_unaligned w s) e w s

-- what STR and STRB do
abbrev pub stored : Endian → ℕ → State → ℕ → Outcome
stored e w s c = on s (record s {
  regs = base_written w s (transfer_offset w s);
  mem = store_by (is_byte w) e s.mem (transfer_address w s) (stored_reg s c (field_d w));
})

-- what a row of LDR, LDRB, STR or STRB does
abbrev pub transferred : (load : Bool) → Endian → ℕ → State → ℕ → Outcome
transferred true e w s c = word_loaded e w s
transferred false e w s c = stored e w s c

-- LDR Rd,[pc,#n] reads the word at its address
abbrev pub literal_address : ℕ → ℕ → Option ℕ
literal_address w at =
    if is_load w && not (bit_i w) && not (is_byte w) && (field_n w == 15) && not (writes_back w)
    then Some (aligned (moved w (add 32 at 8) (bits 11 0 w))) else None

-- the row of LDR, LDRB, STR and STRB
abbrev pub single_transfer : Endian → ℕ → Row
single_transfer e w =
    let n = if is_byte w then 1 else 4 in
    record (row_of w (transferred (is_load w) e w)) {
      stored = λ s. when_stored (holds w s && not (is_load w)) (access_of (is_byte w) (transfer_address w s));
      successors = may_write_pc w (is_load w && (field_d w == 15));
      literal = literal_address w;
      cost = record { row = 4096; loads = if is_load w then n else 0; stores = if is_load w then 0 else n };
      flags = flag_use w (flag_set false (bit_i w && (kind_of w == 3) && (amount_of w == 0)) false) none none;
      draws = not (is_load w) && (field_d w == 15);
      loaded = λ s. when_stored (holds w s && is_load w && not (is_unaligned w s)) (access_of (is_byte w) (transfer_address w s));
    }

-- the bit 22 of halfword accesses: the offset is a number, in bits 11 to 8 and 3 to 0
abbrev pub has_offset : ℕ → Bool
has_offset w = has_bit 22 w

-- A word has a row of LDRH, STRH, LDRSB or LDRSH (section A3.11). Bits 6 to 5 are 1 for an unsigned halfword, 2 for a signed byte, 3 for a signed halfword.
abbrev pub is_halfword : ℕ → Bool
is_halfword w =
    (bits 27 25 w == 0) && has_bit 7 w && has_bit 4 w && not (kind_of w == 0)
    && (has_offset w || (field_s w == 0)) && not (is_bad_base w (not (has_offset w))) && not (field_d w == 15)
    && (is_load w || (kind_of w == 1))

-- the offset of a halfword access
abbrev pub halfword_offset : ℕ → State → ℕ
halfword_offset w s = if has_offset w then field_s w * 16 + field_m w else reg s (field_m w)

-- the address of a halfword access
abbrev pub halfword_address : ℕ → State → ℕ
halfword_address w s = address w (reg s (field_n w)) (halfword_offset w s)

-- how many bytes it accesses
abbrev pub halfword_size : ℕ → ℕ
halfword_size w = if kind_of w == 2 then 1 else 2

-- a halfword has an even address
abbrev pub is_even : ℕ → State → Bool
is_even w s = halfword_address w s % halfword_size w == 0

-- what it loads
abbrev pub halfword_value : Endian → ℕ → Memory → ℕ → ℕ
halfword_value e w m a =
    if kind_of w == 1 then load e 2 m a else
    if kind_of w == 2 then sign_extend 8 32 (load e 1 m a) else sign_extend 16 32 (load e 2 m a)

-- the access of a halfword or a signed byte, unless a halfword has an odd address
abbrev pub halfword_by : (even load : Bool) → Endian → ℕ → State → Outcome
halfword_by false load e w s = Raises OddHalfword
halfword_by true true e w s = on s (record s {
  regs = put (base_written w s (halfword_offset w s)) (field_d w) (halfword_value e w s.mem (halfword_address w s));
})
halfword_by true false e w s = on s (record s {
  regs = base_written w s (halfword_offset w s);
  mem = store e 2 s.mem (halfword_address w s) (s.regs (field_d w));
})

-- what LDRH, STRH, LDRSB and LDRSH do
abbrev pub halfword_done : Endian → ℕ → State → Outcome
halfword_done e w s = halfword_by (is_even w s) (is_load w) e w s

-- the row of LDRH, STRH, LDRSB and LDRSH
abbrev pub halfword : Endian → ℕ → Row
halfword e w = record (row_of w (λ s c. halfword_done e w s)) {
  stored = λ s. when_stored (holds w s && not (is_load w) && (halfword_address w s % 2 == 0)) (halfword_address w s, 2);
  cost = record { row = 4096; loads = if is_load w then halfword_size w else 0; stores = if is_load w then 0 else 2 };
  loaded = λ s. when_stored (holds w s && is_load w && is_even w s) (halfword_address w s, halfword_size w);
}

-- the registers from r on, of which there are n, that the list has (section A3.12)
abbrev pub listed_from : ℕ → ℕ → ℕ → List ℕ
listed_from w r zero = []
listed_from w r (suc n) = if has_bit r w then r ∷ listed_from w (r + 1) n else listed_from w (r + 1) n

-- the registers of the list, the lowest first
abbrev pub listed : ℕ → List ℕ
listed w = listed_from w 0 16

-- the lowest register of the list
abbrev pub first_of : List ℕ → ℕ
first_of [] = 16
first_of (r ∷ rs) = r

-- a word has a row of LDM or STM
abbrev pub is_block : ℕ → Bool
is_block w =
    (bits 27 25 w == 4) && not (has_bit 22 w) && not (bits 15 0 w == 0) && not (field_n w == 15)
    && not (is_load w && bit_w w && has_bit (field_n w) w)
    && not (not (is_load w) && bit_w w && has_bit (field_n w) w && not (first_of (listed w) == field_n w))

-- the first address, by the four modes IA, IB, DA and DB (section A5.4)
abbrev pub block_start : ℕ → State → ℕ
block_start w s =
    let base = reg s (field_n w) in
    let n = length (listed w) in
    aligned (if is_up w then add 32 base (if is_pre w then 4 else 0) else sub 32 base (4 * n - (if is_pre w then 0 else 4)))

-- the registers after the write-back
abbrev pub block_base : ℕ → State → ℕ → ℕ
block_base w s = if bit_w w then put s.regs (field_n w) (moved w (s.regs (field_n w)) (4 * length (listed w))) else s.regs

-- the words from an address on go to the registers, register 15 being left out
abbrev pub load_all : Endian → Memory → ℕ → List ℕ → (ℕ → ℕ) → ℕ → ℕ
load_all e m a [] f = f
load_all e m a (r ∷ rs) f = load_all e m (add 32 a 4) rs (if r == 15 then f else put f r (load e 4 m a))

-- the words from an address on take the registers
abbrev pub store_all : Endian → State → ℕ → ℕ → List ℕ → Memory → Memory
store_all e s c a [] m = m
store_all e s c a (r ∷ rs) m = store_all e s c (add 32 a 4) rs (store e 4 m a (stored_reg s c r))

-- LDM goes on, or jumps to the word of register 15, which is the last of the list
abbrev pub block_loaded : (to_pc : Bool) → Endian → ℕ → State → Outcome
block_loaded true e w s = Goes Indirect (record s {
  pc = load e 4 s.mem (add 32 (block_start w s) (4 * length (listed w) - 4));
  regs = load_all e s.mem (block_start w s) (listed w) (block_base w s);
})
block_loaded false e w s = on s (record s { regs = load_all e s.mem (block_start w s) (listed w) (block_base w s) })

-- what LDM and STM do
abbrev pub block_done : (load : Bool) → Endian → ℕ → State → ℕ → Outcome
block_done true e w s c = block_loaded (has_bit 15 w) e w s
block_done false e w s c = on s (record s { regs = block_base w s; mem = store_all e s c (block_start w s) (listed w) s.mem })

-- the row of LDM and STM
abbrev pub block : Endian → ℕ → Row
block e w =
    let n = length (listed w) in
    record (row_of w (block_done (is_load w) e w)) {
      stored = λ s. when_stored (holds w s && not (is_load w)) (block_start w s, 4 * n);
      successors = may_write_pc w (is_load w && has_bit 15 w);
      cost = record { row = 4096 + 512 * n; loads = if is_load w then 4 * n else 0; stores = if is_load w then 0 else 4 * n };
      draws = not (is_load w) && has_bit 15 w;
      loaded = λ s. when_stored (holds w s && is_load w) (block_start w s, 4 * n);
    }

-- a word has a row of B or BL (section A3.3)
abbrev pub is_branch : ℕ → Bool
is_branch w = bits 27 25 w == 5

-- the bit L of branches
abbrev pub is_linked : ℕ → Bool
is_linked w = has_bit 24 w

-- the target of a branch at an address
abbrev pub branch_target : ℕ → ℕ → ℕ
branch_target w at = add 32 (add 32 at 8) (sign_extend 26 32 (4 * bits 23 0 w))

-- B goes to its target, BL keeps the address behind it in register 14
abbrev pub branched : (linked : Bool) → ℕ → State → Outcome
branched true w s = Goes DirectCall (record s { pc = branch_target w s.pc; regs = put s.regs 14 (add 32 s.pc 4) })
branched false w s = Goes Direct (with_pc s (branch_target w s.pc))

-- the row of B and BL
abbrev pub branch : ℕ → Row
branch w = record (row_of w (λ s c. branched (is_linked w) w s)) {
  successors = λ at. record { next = not (is_always w); direct = Some (branch_target w at); indirect = false; call = is_linked w };
  links = is_linked w;
}

-- a word has a row of SWI (section A3.14)
abbrev pub is_software_interrupt : ℕ → Bool
is_software_interrupt w = bits 27 24 w == 15

-- the row of SWI
abbrev pub software_interrupt : ℕ → Row
software_interrupt w = record (row_of w (λ s c. Raises SoftwareInterrupt)) {
  successors = λ at. record { next = not (is_always w); direct = None; indirect = false; call = false };
}

-- a word has a row of BX (section A4.1.10)
abbrev pub is_exchange : ℕ → Bool
is_exchange w = (bits 27 4 w == 0x12fff1) && not (field_m w == 15)

-- The row of BX: an indirect jump to the register with its low bits, and no call. There is no other state to go to, so an address with a low bit is not
-- aligned.
abbrev pub exchange : ℕ → Row
exchange w = record (row_of w (λ s c. Goes Indirect (with_pc s (reg s (field_m w))))) { successors = may_write_pc w true }

-- a word has a row of CLZ (section A4.1.13)
abbrev pub is_count : ℕ → Bool
is_count w = (bits 27 16 w == 0x16f) && (bits 11 4 w == 0xf1) && not (field_d w == 15) && not (field_m w == 15)

-- what CLZ does: the number of bits above the highest one bit, 32 for 0
abbrev pub counted : ℕ → State → Outcome
counted w s = on s (record s { regs = put s.regs (field_d w) (count_leading_zeros 32 (reg s (field_m w))) })

-- the row of CLZ
abbrev pub count : ℕ → Row
count w = row_of w (λ s c. counted w s)

-- instructions: which words they have, and their rows
pub record Instruction : Type 0 where
  pub is : ℕ → Bool
  pub row : ℕ → Row

-- The table of a profile: data processing, MUL and MLA, UMULL to SMLAL, SWP, LDR and STR, halfwords and signed bytes, LDM and STM, B and BL, SWI, BX, CLZ. No
-- word is of two lines.
unfoldable pub table : Endian → Profile → List Instruction
table e profile =
    record { is = is_computing; row = computing } ∷
    record { is = is_multiply; row = multiply (is_fifth profile) } ∷
    record { is = is_multiply_long; row = multiply_long (is_fifth profile) } ∷
    record { is = is_swap; row = swap e } ∷
    record { is = is_transfer; row = single_transfer e } ∷
    record { is = is_halfword; row = halfword e } ∷
    record { is = is_block; row = block e } ∷
    record { is = is_branch; row = branch } ∷
    record { is = is_software_interrupt; row = software_interrupt } ∷
    record { is = λ w. has_exchange profile && is_exchange w; row = exchange } ∷
    record { is = λ w. is_fifth profile && is_count w; row = count } ∷ []

-- the row of a word by a table
abbrev pub row_in : List Instruction → ℕ → Option Row
row_in [] w = None
row_in (x ∷ rest) w = if x.is w then Some (x.row w) else row_in rest w

-- the row of a word, in a byte order and a profile
unfoldable pub arm_row : Endian → Profile → ℕ → Option Row
arm_row e profile w = if condition_code w == 15 then None else row_in (table e profile) w

-- the machine, in a byte order and a profile
abbrev pub arm : Endian → Profile → Machine
arm e profile = record {
  endian = e;
  link = 14;
  has_register = λ r. nat_le r 14;
  has_flag = λ f. nat_le f 3;
  narrow = false;
  row = arm_row e profile;
}
