-- Rows on single states, by computation: registers, flags and bytes after a word.
use Rattle.std.proofs.Common.{◌≡◌, ℕ, ◌+◌, ◌*◌, refl, List, [], ◌∷◌, ◌++◌, Bool, Option, Some, None}
use Rattle.std.specs.Prelude.{map}
use Rattle.std.specs.Int.Count.{count_leading_zeros}
use Rattle.word_spec.specs.Words.{bit}
use Rattle.word_spec.specs.State.{State}
use Rattle.word_spec.specs.Memory.{Little, Big, memory_of, byte_in}
use Rattle.machine_spec.specs.Machine.{Row, Outcome, Goes, Raises, OddHalfword}
use Rattle.machine_spec.specs.Rv.{table, rv_row}
use Rattle.word_spec.specs.Profiles.{Profile, V4, V4T, V5}
use Rattle.machine_spec.specs.Arm.{arm, arm_row}
use Rattle.machine_spec.specs.Arm as arm_rows

-- the state at 0x10000 with these registers, flags (N, Z, C and V are 3, 2, 1 and 0) and bytes
abbrev state : (regs flags bytes : List (ℕ × ℕ)) → State
state regs flags bytes = record { pc = 0x10000; regs = byte_in regs; flags = byte_in flags; mem = memory_of bytes }

-- what is seen of an outcome: the next address, some registers, flags N to V and some bytes
abbrev seen : (regs bytes : List ℕ) → Outcome → List ℕ
seen regs bytes (Goes how s) = s.pc ∷ map s.regs regs ++ map s.flags (3 ∷ 2 ∷ 1 ∷ 0 ∷ []) ++ map s.mem bytes
seen regs bytes other = []

abbrev effect : Option Row → State → ℕ → Option Outcome
effect None s c = None
effect (Some row) s c = Some (row.effect s c)

abbrev shown : (regs bytes : List ℕ) → Option Outcome → List ℕ
shown regs bytes None = []
shown regs bytes (Some o) = seen regs bytes o

abbrev rv : ℕ → State → List ℕ
rv w s = shown (10 ∷ []) [] (effect (rv_row w) s 0)

abbrev two : ℕ → ℕ → State
two a b = state ((11, a) ∷ (12, b) ∷ []) [] []

-- RV32IM on x10, x11 and x12
rv_sub : rv 0x40c58533 (two 0x5 0x7) ≡ 0x10004 ∷ 0xfffffffe ∷ 0 ∷ 0 ∷ 0 ∷ 0 ∷ []
unfolding table rv_row
rv_sub = refl

rv_sll : rv 0xc59533 (two 0x80000001 0x24) ≡ 0x10004 ∷ 0x10 ∷ 0 ∷ 0 ∷ 0 ∷ 0 ∷ []
unfolding table rv_row
rv_sll = refl

rv_slt : rv 0xc5a533 (two 0x80000000 0x1) ≡ 0x10004 ∷ 0x1 ∷ 0 ∷ 0 ∷ 0 ∷ 0 ∷ []
unfolding table rv_row
rv_slt = refl

rv_sltu : rv 0xc5b533 (two 0x80000000 0x1) ≡ 0x10004 ∷ 0x0 ∷ 0 ∷ 0 ∷ 0 ∷ 0 ∷ []
unfolding table rv_row
rv_sltu = refl

rv_xor : rv 0xc5c533 (two 0xff00ff00 0xff00ff0) ≡ 0x10004 ∷ 0xf0f0f0f0 ∷ 0 ∷ 0 ∷ 0 ∷ 0 ∷ []
unfolding table rv_row
rv_xor = refl

rv_srl : rv 0xc5d533 (two 0x80000000 0xffffffe4) ≡ 0x10004 ∷ 0x8000000 ∷ 0 ∷ 0 ∷ 0 ∷ 0 ∷ []
unfolding table rv_row
rv_srl = refl

rv_sra : rv 0x40c5d533 (two 0x80000000 0x4) ≡ 0x10004 ∷ 0xf8000000 ∷ 0 ∷ 0 ∷ 0 ∷ 0 ∷ []
unfolding table rv_row
rv_sra = refl

rv_mul : rv 0x2c58533 (two 0xffffffff 0xffffffff) ≡ 0x10004 ∷ 0x1 ∷ 0 ∷ 0 ∷ 0 ∷ 0 ∷ []
unfolding table rv_row
rv_mul = refl

rv_mulh : rv 0x2c59533 (two 0x80000000 0x2) ≡ 0x10004 ∷ 0xffffffff ∷ 0 ∷ 0 ∷ 0 ∷ 0 ∷ []
unfolding table rv_row
rv_mulh = refl

rv_mulhsu : rv 0x2c5a533 (two 0xffffffff 0xffffffff) ≡ 0x10004 ∷ 0xffffffff ∷ 0 ∷ 0 ∷ 0 ∷ 0 ∷ []
unfolding table rv_row
rv_mulhsu = refl

rv_mulhu : rv 0x2c5b533 (two 0xffffffff 0xffffffff) ≡ 0x10004 ∷ 0xfffffffe ∷ 0 ∷ 0 ∷ 0 ∷ 0 ∷ []
unfolding table rv_row
rv_mulhu = refl

rv_div : rv 0x2c5c533 (two 0xfffffff9 0x2) ≡ 0x10004 ∷ 0xfffffffd ∷ 0 ∷ 0 ∷ 0 ∷ 0 ∷ []
unfolding table rv_row
rv_div = refl

rv_rem : rv 0x2c5e533 (two 0xfffffff9 0x2) ≡ 0x10004 ∷ 0xffffffff ∷ 0 ∷ 0 ∷ 0 ∷ 0 ∷ []
unfolding table rv_row
rv_rem = refl

rv_rem_sign : rv 0x2c5e533 (two 0x7 0xfffffffe) ≡ 0x10004 ∷ 0x1 ∷ 0 ∷ 0 ∷ 0 ∷ 0 ∷ []
unfolding table rv_row
rv_rem_sign = refl

rv_div_zero : rv 0x2c5c533 (two 0xfffffff9 0x0) ≡ 0x10004 ∷ 0xffffffff ∷ 0 ∷ 0 ∷ 0 ∷ 0 ∷ []
unfolding table rv_row
rv_div_zero = refl

rv_rem_zero : rv 0x2c5e533 (two 0xfffffff9 0x0) ≡ 0x10004 ∷ 0xfffffff9 ∷ 0 ∷ 0 ∷ 0 ∷ 0 ∷ []
unfolding table rv_row
rv_rem_zero = refl

rv_remu_zero : rv 0x2c5f533 (two 0x9 0x0) ≡ 0x10004 ∷ 0x9 ∷ 0 ∷ 0 ∷ 0 ∷ 0 ∷ []
unfolding table rv_row
rv_remu_zero = refl

rv_divu : rv 0x2c5d533 (two 0xfffffff9 0x2) ≡ 0x10004 ∷ 0x7ffffffc ∷ 0 ∷ 0 ∷ 0 ∷ 0 ∷ []
unfolding table rv_row
rv_divu = refl

rv_rem_least : rv 0x2c5e533 (two 0x80000000 0xffffffff) ≡ 0x10004 ∷ 0x0 ∷ 0 ∷ 0 ∷ 0 ∷ 0 ∷ []
unfolding table rv_row
rv_rem_least = refl

rv_slti : rv 0xfff5a513 (two 0xfffffffe 0x0) ≡ 0x10004 ∷ 0x1 ∷ 0 ∷ 0 ∷ 0 ∷ 0 ∷ []
unfolding table rv_row
rv_slti = refl

rv_sltiu : rv 0xfff5b513 (two 0x5 0x0) ≡ 0x10004 ∷ 0x1 ∷ 0 ∷ 0 ∷ 0 ∷ 0 ∷ []
unfolding table rv_row
rv_sltiu = refl

rv_xori : rv 0xfff5c513 (two 0xffff 0x0) ≡ 0x10004 ∷ 0xffff0000 ∷ 0 ∷ 0 ∷ 0 ∷ 0 ∷ []
unfolding table rv_row
rv_xori = refl

rv_srai : rv 0x4045d513 (two 0x80000010 0x0) ≡ 0x10004 ∷ 0xf8000001 ∷ 0 ∷ 0 ∷ 0 ∷ 0 ∷ []
unfolding table rv_row
rv_srai = refl

rv_lui : rv 0xfffff537 (two 0x0 0x0) ≡ 0x10004 ∷ 0xfffff000 ∷ 0 ∷ 0 ∷ 0 ∷ 0 ∷ []
unfolding table rv_row
rv_lui = refl

rv_auipc : rv 0xfffff517 (two 0x0 0x0) ≡ 0x10004 ∷ 0xf000 ∷ 0 ∷ 0 ∷ 0 ∷ 0 ∷ []
unfolding table rv_row
rv_auipc = refl

rv_jal : rv 0xff9ff56f (two 0x0 0x0) ≡ 0xfff8 ∷ 0x10004 ∷ 0 ∷ 0 ∷ 0 ∷ 0 ∷ []
unfolding table rv_row
rv_jal = refl

rv_jalr : rv 0x558567 (two 0x20000 0x0) ≡ 0x20004 ∷ 0x10004 ∷ 0 ∷ 0 ∷ 0 ∷ 0 ∷ []
unfolding table rv_row
rv_jalr = refl

rv_blt : rv 0x80c5c063 (two 0xffffffff 0x1) ≡ 0xf000 ∷ 0x0 ∷ 0 ∷ 0 ∷ 0 ∷ 0 ∷ []
unfolding table rv_row
rv_blt = refl

rv_bltu : rv 0x80c5e063 (two 0xffffffff 0x1) ≡ 0x10004 ∷ 0x0 ∷ 0 ∷ 0 ∷ 0 ∷ 0 ∷ []
unfolding table rv_row
rv_bltu = refl

rv_bge : rv 0xc5d1e3 (two 0x1 0xffffffff) ≡ 0x10802 ∷ 0x0 ∷ 0 ∷ 0 ∷ 0 ∷ 0 ∷ []
unfolding table rv_row
rv_bge = refl

-- loads with signs, and a store of a halfword
rv_lb : shown (10 ∷ []) [] (effect (rv_row 0xfff58503) (state ((11, 0) ∷ []) [] ((0xffffffff, 0x80) ∷ [])) 0) ≡ 0x10004 ∷ 0xffffff80 ∷ 0 ∷ 0 ∷ 0 ∷ 0 ∷ []
unfolding table rv_row
rv_lb = refl

rv_lhu : shown (10 ∷ []) [] (effect (rv_row 0xfff5d503) (state ((11, 0) ∷ []) [] ((0xffffffff, 0x80) ∷ (0, 0xff) ∷ [])) 0) ≡ 0x10004 ∷ 0xff80 ∷ 0 ∷ 0 ∷ 0 ∷ 0
    ∷ []
unfolding table rv_row
rv_lhu = refl

rv_sh : shown [] (0xffffffff ∷ 0 ∷ 1 ∷ []) (effect (rv_row 0xfec59fa3) (state ((11, 0) ∷ (12, 0x12345678) ∷ []) [] []) 0) ≡
    0x10004 ∷ 0 ∷ 0 ∷ 0 ∷ 0 ∷ 0x78 ∷ 0x56 ∷ 0 ∷ []
unfolding table rv_row
rv_sh = refl

-- ARM on r0, with r1, r2 and r3
abbrev regs_3 : ℕ → ℕ → ℕ → List (ℕ × ℕ)
regs_3 a b c = (1, a) ∷ (2, b) ∷ (3, c) ∷ []

abbrev arm_on : ℕ → (a b c carry : ℕ) → List ℕ
arm_on w a b c carry = shown (0 ∷ []) [] (effect ((arm Little V4).row w) (state (regs_3 a b c) ((1, carry) ∷ []) []) 0)

arm_adds : arm_on 0xe0910002 0x7fffffff 0x1 0x0 0 ≡ 0x10004 ∷ 0x80000000 ∷ 1 ∷ 0 ∷ 0 ∷ 1 ∷ []
unfolding arm_row arm_rows.table
arm_adds = refl

arm_adds_carry : arm_on 0xe0910002 0xffffffff 0x1 0x0 0 ≡ 0x10004 ∷ 0x0 ∷ 0 ∷ 1 ∷ 1 ∷ 0 ∷ []
unfolding arm_row arm_rows.table
arm_adds_carry = refl

arm_subs : arm_on 0xe0510002 0x5 0x5 0x0 0 ≡ 0x10004 ∷ 0x0 ∷ 0 ∷ 1 ∷ 1 ∷ 0 ∷ []
unfolding arm_row arm_rows.table
arm_subs = refl

arm_subs_borrow : arm_on 0xe0510002 0x3 0x5 0x0 0 ≡ 0x10004 ∷ 0xfffffffe ∷ 1 ∷ 0 ∷ 0 ∷ 0 ∷ []
unfolding arm_row arm_rows.table
arm_subs_borrow = refl

arm_rsb : arm_on 0xe0610002 0x3 0x5 0x0 0 ≡ 0x10004 ∷ 0x2 ∷ 0 ∷ 0 ∷ 0 ∷ 0 ∷ []
unfolding arm_row arm_rows.table
arm_rsb = refl

arm_adc : arm_on 0xe0a10002 0x3 0x5 0x0 1 ≡ 0x10004 ∷ 0x9 ∷ 0 ∷ 0 ∷ 1 ∷ 0 ∷ []
unfolding arm_row arm_rows.table
arm_adc = refl

arm_sbcs : arm_on 0xe0d10002 0x5 0x5 0x0 0 ≡ 0x10004 ∷ 0xffffffff ∷ 1 ∷ 0 ∷ 0 ∷ 0 ∷ []
unfolding arm_row arm_rows.table
arm_sbcs = refl

arm_rscs : arm_on 0xe0f10002 0x5 0x5 0x0 1 ≡ 0x10004 ∷ 0x0 ∷ 0 ∷ 1 ∷ 1 ∷ 0 ∷ []
unfolding arm_row arm_rows.table
arm_rscs = refl

arm_cmp : arm_on 0xe1510002 0x80000000 0x1 0x0 0 ≡ 0x10004 ∷ 0x0 ∷ 0 ∷ 0 ∷ 1 ∷ 1 ∷ []
unfolding arm_row arm_rows.table
arm_cmp = refl

arm_cmn : arm_on 0xe1710002 0xffffffff 0x1 0x0 0 ≡ 0x10004 ∷ 0x0 ∷ 0 ∷ 1 ∷ 1 ∷ 0 ∷ []
unfolding arm_row arm_rows.table
arm_cmn = refl

arm_tst : arm_on 0xe3110102 0x80000001 0x0 0x0 0 ≡ 0x10004 ∷ 0x0 ∷ 1 ∷ 0 ∷ 1 ∷ 0 ∷ []
unfolding arm_row arm_rows.table
arm_tst = refl

arm_bics : arm_on 0xe1d10002 0xff 0xf 0x0 1 ≡ 0x10004 ∷ 0xf0 ∷ 0 ∷ 0 ∷ 1 ∷ 0 ∷ []
unfolding arm_row arm_rows.table
arm_bics = refl

arm_mvn : arm_on 0xe1e00002 0x0 0xffff0000 0x0 0 ≡ 0x10004 ∷ 0xffff ∷ 0 ∷ 0 ∷ 0 ∷ 0 ∷ []
unfolding arm_row arm_rows.table
arm_mvn = refl

arm_rrx : arm_on 0xe1b00061 0x1 0x0 0x0 1 ≡ 0x10004 ∷ 0x80000000 ∷ 1 ∷ 0 ∷ 1 ∷ 0 ∷ []
unfolding arm_row arm_rows.table
arm_rrx = refl

arm_ror_33 : arm_on 0xe1b00271 0x1 0x21 0x0 0 ≡ 0x10004 ∷ 0x80000000 ∷ 1 ∷ 0 ∷ 1 ∷ 0 ∷ []
unfolding arm_row arm_rows.table
arm_ror_33 = refl

arm_ror_32 : arm_on 0xe1b00271 0x80000001 0x20 0x0 0 ≡ 0x10004 ∷ 0x80000001 ∷ 1 ∷ 0 ∷ 1 ∷ 0 ∷ []
unfolding arm_row arm_rows.table
arm_ror_32 = refl

arm_lsl_33 : arm_on 0xe1b00211 0xffffffff 0x21 0x0 1 ≡ 0x10004 ∷ 0x0 ∷ 0 ∷ 1 ∷ 0 ∷ 0 ∷ []
unfolding arm_row arm_rows.table
arm_lsl_33 = refl

arm_lsl_256 : arm_on 0xe1b00211 0x5 0x100 0x0 1 ≡ 0x10004 ∷ 0x5 ∷ 0 ∷ 0 ∷ 1 ∷ 0 ∷ []
unfolding arm_row arm_rows.table
arm_lsl_256 = refl

arm_asr_40 : arm_on 0xe1b00251 0x80000000 0x28 0x0 0 ≡ 0x10004 ∷ 0xffffffff ∷ 1 ∷ 0 ∷ 1 ∷ 0 ∷ []
unfolding arm_row arm_rows.table
arm_asr_40 = refl

arm_addeq : arm_on 0x810002 0x3 0x5 0x0 0 ≡ 0x10004 ∷ 0x0 ∷ 0 ∷ 0 ∷ 0 ∷ 0 ∷ []
unfolding arm_row arm_rows.table
arm_addeq = refl

arm_addhi : arm_on 0x80810002 0x3 0x5 0x0 1 ≡ 0x10004 ∷ 0x8 ∷ 0 ∷ 0 ∷ 1 ∷ 0 ∷ []
unfolding arm_row arm_rows.table
arm_addhi = refl

arm_mov_pc : arm_on 0xe1a0f001 0x20000 0x0 0x0 0 ≡ 0x20000 ∷ 0x0 ∷ 0 ∷ 0 ∷ 0 ∷ 0 ∷ []
unfolding arm_row arm_rows.table
arm_mov_pc = refl

arm_add_pc : arm_on 0xe28f0004 0x0 0x0 0x0 0 ≡ 0x10004 ∷ 0x1000c ∷ 0 ∷ 0 ∷ 0 ∷ 0 ∷ []
unfolding arm_row arm_rows.table
arm_add_pc = refl

arm_mul : arm_on 0xe0000291 0x10000 0x10001 0x0 0 ≡ 0x10004 ∷ 0x10000 ∷ 0 ∷ 0 ∷ 0 ∷ 0 ∷ []
unfolding arm_row arm_rows.table
arm_mul = refl

arm_mla : arm_on 0xe0203291 0x7 0x6 0x5 0 ≡ 0x10004 ∷ 0x2f ∷ 0 ∷ 0 ∷ 0 ∷ 0 ∷ []
unfolding arm_row arm_rows.table
arm_mla = refl

arm_b : arm_on 0xeafffffc 0x0 0x0 0x0 0 ≡ 0xfff8 ∷ 0x0 ∷ 0 ∷ 0 ∷ 0 ∷ 0 ∷ []
unfolding arm_row arm_rows.table
arm_b = refl

arm_beq : arm_on 0xafffffc 0x0 0x0 0x0 0 ≡ 0x10004 ∷ 0x0 ∷ 0 ∷ 0 ∷ 0 ∷ 0 ∷ []
unfolding arm_row arm_rows.table
arm_beq = refl

-- umull r0,r3,r1,r2; smulls r0,r3,r1,r2; umlal
umull : shown (0 ∷ 3 ∷ []) [] (effect ((arm Little V4).row 0xe0830291) (state (regs_3 0xffffffff 0xffffffff 0) [] []) 0) ≡
    0x10004 ∷ 1 ∷ 0xfffffffe ∷ 0 ∷ 0 ∷ 0 ∷ 0 ∷ []
unfolding arm_row arm_rows.table
umull = refl

smulls : shown (0 ∷ 3 ∷ []) [] (effect ((arm Little V4).row 0xe0d30291) (state (regs_3 0xffffffff 2 0) [] []) 3) ≡ 0x10004 ∷ 0xfffffffe ∷ 0xffffffff ∷ 1 ∷ 0 ∷ 1
    ∷ 1 ∷ []
unfolding arm_row arm_rows.table
smulls = refl

-- strh at an odd address; swp; ldrsb with write-back; stmdb with write-back of the base's old value; ldmib
strh_odd : effect ((arm Little V4).row 0xe1c100b0) (state (regs_3 0x8001 0 0) [] []) 0 ≡ Some (Raises OddHalfword)
unfolding arm_row arm_rows.table
strh_odd = refl

swp : shown (0 ∷ []) (0x8000 ∷ 0x8003 ∷ []) (effect ((arm Little V4).row 0xe1010092) (state (regs_3 0x8001 0x11223344 0) [] ((0x8000, 0xaa) ∷ (0x8001, 0xbb)
    ∷ [])) 0) ≡
    0x10004 ∷ 0xaa0000bb ∷ 0 ∷ 0 ∷ 0 ∷ 0 ∷ 0x44 ∷ 0x11 ∷ []
unfolding arm_row arm_rows.table
swp = refl

-- ldrsb r0,[r1,#-1]!
ldrsb : shown (0 ∷ 1 ∷ []) [] (effect ((arm Little V4).row 0xe17100d1) (state (regs_3 0x8001 0 0) [] ((0x8000, 0xfe) ∷ [])) 0) ≡
    0x10004 ∷ 0xfffffffe ∷ 0x8000 ∷ 0 ∷ 0 ∷ 0 ∷ 0 ∷ []
unfolding arm_row arm_rows.table
ldrsb = refl

-- ldr r0,[r1],-r2,lsl #2
ldr_post : shown (0 ∷ 1 ∷ []) [] (effect ((arm Little V4).row 0xe6110102) (state (regs_3 0x8000 3 0) [] ((0x8000, 0xfe) ∷ [])) 0) ≡
    0x10004 ∷ 0xfe ∷ 0x7ff4 ∷ 0 ∷ 0 ∷ 0 ∷ 0 ∷ []
unfolding arm_row arm_rows.table
ldr_post = refl

-- stmdb r1!,{r1,r2}
stmdb : shown (1 ∷ []) (0x7ff8 ∷ 0x7ff9 ∷ 0x7ffc ∷ []) (effect ((arm Little V4).row 0xe9210006) (state (regs_3 0x8000 3 0) [] []) 0) ≡
    0x10004 ∷ 0x7ff8 ∷ 0 ∷ 0 ∷ 0 ∷ 0 ∷ 0 ∷ 0x80 ∷ 3 ∷ []
unfolding arm_row arm_rows.table
stmdb = refl

-- ldmib r1,{r0,pc}
ldmib : shown (0 ∷ 1 ∷ []) [] (effect ((arm Big V4).row 0xe9918001) (state (regs_3 0x8000 3 0) [] ((0x8007, 5) ∷ (0x800b, 0x40) ∷ [])) 0) ≡
    0x40 ∷ 5 ∷ 0x8000 ∷ 0 ∷ 0 ∷ 0 ∷ 0 ∷ []
unfolding arm_row arm_rows.table
ldmib = refl

-- by profile: bx lr, bxeq lr with Z clear, clz r0,r1
abbrev arm_by : Profile → ℕ → (a carry overflow choice : ℕ) → List ℕ
arm_by profile w a carry overflow choice =
    shown (0 ∷ []) [] (effect ((arm Little profile).row w) (state ((14, 0x8001) ∷ regs_3 a 2 0) ((1, carry) ∷ (0, overflow) ∷ []) []) choice)

bx : arm_by V4T 0xe12fff1e 0 0 0 0 ≡ 0x8001 ∷ 0 ∷ 0 ∷ 0 ∷ 0 ∷ 0 ∷ []
unfolding arm_row arm_rows.table
bx = refl

bx_eq : arm_by V5 0x012fff1e 0 0 0 0 ≡ 0x10004 ∷ 0 ∷ 0 ∷ 0 ∷ 0 ∷ 0 ∷ []
unfolding arm_row arm_rows.table
bx_eq = refl

clz_0 : arm_by V5 0xe16f0f11 0 1 1 0 ≡ 0x10004 ∷ 32 ∷ 0 ∷ 0 ∷ 1 ∷ 1 ∷ []
unfolding arm_row arm_rows.table count_leading_zeros
clz_0 = refl

clz_1 : arm_by V5 0xe16f0f11 1 0 0 0 ≡ 0x10004 ∷ 31 ∷ 0 ∷ 0 ∷ 0 ∷ 0 ∷ []
unfolding arm_row arm_rows.table count_leading_zeros
clz_1 = refl

clz_2_16 : arm_by V5 0xe16f0f11 0x10000 0 0 0 ≡ 0x10004 ∷ 15 ∷ 0 ∷ 0 ∷ 0 ∷ 0 ∷ []
unfolding arm_row arm_rows.table count_leading_zeros
clz_2_16 = refl

clz_full : arm_by V5 0xe16f0f11 0xffffffff 0 0 0 ≡ 0x10004 ∷ 0 ∷ 0 ∷ 0 ∷ 0 ∷ 0 ∷ []
unfolding arm_row arm_rows.table count_leading_zeros
clz_full = refl

-- muls r0,r1,r2 and smulls r0,r3,r1,r2 where C and V are set and the choice is 0: under version 5 they stay
muls_by_choice : arm_by V4T 0xe0100291 0xffffffff 1 1 0 ≡ 0x10004 ∷ 0xfffffffe ∷ 1 ∷ 0 ∷ 0 ∷ 1 ∷ []
unfolding arm_row arm_rows.table
muls_by_choice = refl

muls_keeps : arm_by V5 0xe0100291 0xffffffff 1 1 0 ≡ 0x10004 ∷ 0xfffffffe ∷ 1 ∷ 0 ∷ 1 ∷ 1 ∷ []
unfolding arm_row arm_rows.table
muls_keeps = refl

smulls_keeps : arm_by V5 0xe0d30291 0xffffffff 1 1 0 ≡ 0x10004 ∷ 0xfffffffe ∷ 1 ∷ 0 ∷ 1 ∷ 1 ∷ []
unfolding arm_row arm_rows.table
smulls_keeps = refl

-- words without a row by profile: clz under version 4T, bx pc, clz of pc and to pc, bx and clz with another field
no_rows_by : map (arm Little V4T).row (0xe16f0f11 ∷ 0xe12fff1f ∷ []) ++
    map (arm Little V5).row (0xe12fff1f ∷ 0xe16f0f1f ∷ 0xe16fff11 ∷ 0xe12fff3e ∷ 0xe12f0f1e ∷ 0xe1600f11
    ∷ 0xe16f0011 ∷ []) ≡
    None ∷ None ∷ None ∷ None ∷ None ∷ None ∷ None ∷ None ∷ None ∷ []
unfolding arm_row arm_rows.table
no_rows_by = refl

-- words without a row: bx lr, mrs, msr, clz, cond 15, mul with rd = rm, ldr with write-back to its own base, stm of a base that is not the lowest
no_rows : map (arm Little V4).row (0xe12fff1e ∷ 0xe10f0000 ∷ 0xe129f000 ∷ 0xe16f0f11 ∷ 0xf0810002 ∷ 0xe0000190 ∷ 0xe5b11004 ∷ 0xe9210003 ∷ 0xe8d18000 ∷ []) ≡
    None ∷ None ∷ None ∷ None ∷ None ∷ None ∷ None ∷ None ∷ None ∷ []
unfolding arm_row arm_rows.table
no_rows = refl

-- the flags N, Z, C and V, as 8, 4, 2 and 1, that movs r0,r0,lsr #32, movs r0,r1,lsl r2, adc and addeqs use
abbrev sum_of : (ℕ → Bool) → ℕ
sum_of set = 8 * bit (set 3) + 4 * bit (set 2) + 2 * bit (set 1) + bit (set 0)

abbrev flags_of : Option Row → List ℕ
flags_of None = []
flags_of (Some row) = sum_of row.flags.reads ∷ sum_of row.flags.assigns ∷ sum_of row.flags.surely ∷ []

flags_are : map (λ w. flags_of ((arm Little V4).row w)) (0xe1b00020 ∷ 0xe1b00211 ∷ 0xe0a10002 ∷ 0x00910002 ∷ 0xe1b00001 ∷ []) ≡
    (0 ∷ 14 ∷ 14 ∷ []) ∷ (0 ∷ 14 ∷ 12 ∷ []) ∷ (2 ∷ 0 ∷ 0 ∷ []) ∷ (4 ∷ 15 ∷ 0 ∷ []) ∷ (0 ∷ 12 ∷ 12 ∷ []) ∷ []
unfolding arm_row arm_rows.table
flags_are = refl

-- the flags that muls and smulls use by profile
flags_by : map (λ profile. flags_of ((arm Little profile).row 0xe0100291) ++ flags_of ((arm Little profile).row 0xe0d30291)) (V4T ∷ V5 ∷ []) ≡
    (0 ∷ 14 ∷ 14 ∷ 0 ∷ 15 ∷ 15 ∷ []) ∷ (0 ∷ 12 ∷ 12 ∷ 0 ∷ 12 ∷ 12 ∷ []) ∷ []
unfolding arm_row arm_rows.table
flags_by = refl
