-- The compressed instructions of RV32C (RISC-V Unprivileged ISA 20191213, chapter 16): each halfword with a row has a word as its expansion, and does what
-- that word does, but that it has 2 bytes.
use Rattle.std.specs.Prelude.{ℕ, ◌+◌, ◌*◌, ◌%◌, ◌^◌, Bool, true, false, List, [], ◌∷◌, Option, Some, None, ◌==◌, ◌&&◌, not, nat_lt, if◌then◌else◌}
use Rattle.word_spec.specs.Words.{add, bits, sign_extend}
use Rattle.word_spec.specs.State.{State, with_pc}
use Rattle.machine_spec.specs.Machine.{On, Direct, DirectCall, Indirect, IndirectCall, Outcome, Goes, Raises, Row}
use Rattle.machine_spec.specs.Rv.{with_reg, rv_row}
use Rattle.machine_spec.specs.RvWords.{word_r, word_i, word_s, word_b, word_u, word_j}

-- the register in bits 11 to 7
abbrev pub full : ℕ → ℕ
full h = bits 11 7 h

-- the register, or the amount of a shift, in bits 6 to 2
abbrev pub back : ℕ → ℕ
back h = bits 6 2 h

-- the register of three bits, x8 to x15, in bits 4 to 2
abbrev pub low : ℕ → ℕ
low h = 8 + bits 4 2 h

-- the register of three bits, x8 to x15, in bits 9 to 7
abbrev pub middle : ℕ → ℕ
middle h = 8 + bits 9 7 h

-- the number of C.ADDI4SPN, a multiple of 4
abbrev pub imm_4spn : ℕ → ℕ
imm_4spn h = bits 12 11 h * 2 ^ 4 + bits 10 7 h * 2 ^ 6 + bits 6 6 h * 2 ^ 2 + bits 5 5 h * 2 ^ 3

-- the offset of C.LW and C.SW
abbrev pub imm_w : ℕ → ℕ
imm_w h = bits 12 10 h * 2 ^ 3 + bits 6 6 h * 2 ^ 2 + bits 5 5 h * 2 ^ 6

-- a number of six bits with its sign
abbrev pub imm_6 : ℕ → ℕ
imm_6 h = sign_extend 6 32 (bits 12 12 h * 2 ^ 5 + bits 6 2 h)

-- the offset of C.JAL and C.J
abbrev pub imm_j : ℕ → ℕ
imm_j h =
    sign_extend 12 32
    (bits 12 12 h * 2 ^ 11 + bits 11 11 h * 2 ^ 4 + bits 10 9 h * 2 ^ 8 + bits 8 8 h * 2 ^ 10 + bits 7 7 h * 2 ^ 6 + bits 6 6 h * 2 ^ 7
    + bits 5 3 h * 2 ^ 1 + bits 2 2 h * 2 ^ 5)

-- the number of C.ADDI16SP
abbrev pub imm_16sp : ℕ → ℕ
imm_16sp h =
    sign_extend 10 32 (bits 12 12 h * 2 ^ 9 + bits 6 6 h * 2 ^ 4 + bits 5 5 h * 2 ^ 6 + bits 4 3 h * 2 ^ 7 + bits 2 2 h * 2 ^ 5)

-- the number of C.LUI
abbrev pub imm_lui : ℕ → ℕ
imm_lui h = sign_extend 18 32 (bits 12 12 h * 2 ^ 17 + bits 6 2 h * 2 ^ 12)

-- the offset of C.BEQZ and C.BNEZ
abbrev pub imm_b : ℕ → ℕ
imm_b h =
    sign_extend 9 32 (bits 12 12 h * 2 ^ 8 + bits 11 10 h * 2 ^ 3 + bits 6 5 h * 2 ^ 6 + bits 4 3 h * 2 ^ 1 + bits 2 2 h * 2 ^ 5)

-- the offset of C.LWSP
abbrev pub imm_lwsp : ℕ → ℕ
imm_lwsp h = bits 12 12 h * 2 ^ 5 + bits 6 4 h * 2 ^ 2 + bits 3 2 h * 2 ^ 6

-- the offset of C.SWSP
abbrev pub imm_swsp : ℕ → ℕ
imm_swsp h = bits 12 9 h * 2 ^ 2 + bits 8 7 h * 2 ^ 6

-- A compressed instruction: the low two bits of its halfwords, their bits 15 to 13, what else they must be, and the word of the expansion.
pub record Short : Type 0 where
  pub quadrant : ℕ
  pub funct : ℕ
  pub is : ℕ → Bool
  pub word : ℕ → ℕ

-- a line of the table
abbrev pub short : (quadrant funct : ℕ) → (ℕ → Bool) → (ℕ → ℕ) → Short
short quadrant funct is word = record { quadrant = quadrant; funct = funct; is = is; word = word }

-- no other bits are asked
abbrev pub any : ℕ → Bool
any h = true

-- a number is not 0
abbrev pub some : ℕ → Bool
some n = not (n == 0)

-- bits 12 to 10 have this value
abbrev pub upper_is : ℕ → ℕ → Bool
upper_is n h = bits 12 10 h == n

-- bits 12 to 10 are 3, and bits 6 to 5 have this value
abbrev pub both_are : ℕ → ℕ → Bool
both_are n h = (bits 12 10 h == 3) && (bits 6 5 h == n)

-- a computation of two registers of three bits
abbrev pub of_two : (funct3 funct7 : ℕ) → ℕ → ℕ
of_two funct3 funct7 h = word_r 0b0110011 funct3 funct7 (middle h) (middle h) (low h)

-- bit 12 has this value
abbrev pub top_is : ℕ → ℕ → Bool
top_is n h = bits 12 12 h == n

-- The table, with the names of the manual. No halfword is of two instructions.
-- C.ADDI4SPN, C.LW, C.SW; C.ADDI, C.JAL, C.LI, C.ADDI16SP, C.LUI, C.SRLI, C.SRAI, C.ANDI, C.SUB, C.XOR, C.OR, C.AND, C.J, C.BEQZ, C.BNEZ;
-- C.SLLI, C.LWSP, C.JR, C.MV, C.EBREAK, C.JALR, C.ADD, C.SWSP.
unfoldable pub shorts : List Short
shorts =
    short 0 0 (λ h. some (imm_4spn h)) (λ h. word_i 0b0010011 0 (low h) 2 (imm_4spn h)) ∷
    short 0 2 any (λ h. word_i 0b0000011 2 (low h) (middle h) (imm_w h)) ∷
    short 0 6 any (λ h. word_s 0b0100011 2 (middle h) (low h) (imm_w h)) ∷
    short 1 0 any (λ h. word_i 0b0010011 0 (full h) (full h) (imm_6 h)) ∷
    short 1 1 any (λ h. word_j 0b1101111 1 (imm_j h)) ∷
    short 1 2 any (λ h. word_i 0b0010011 0 (full h) 0 (imm_6 h)) ∷
    short 1 3 (λ h. (full h == 2) && some (imm_16sp h)) (λ h. word_i 0b0010011 0 2 2 (imm_16sp h)) ∷
    short 1 3 (λ h. not (full h == 2) && some (imm_lui h)) (λ h. word_u 0b0110111 (full h) (imm_lui h)) ∷
    short 1 4 (upper_is 0) (λ h. word_r 0b0010011 5 0 (middle h) (middle h) (back h)) ∷
    short 1 4 (upper_is 1) (λ h. word_r 0b0010011 5 32 (middle h) (middle h) (back h)) ∷
    short 1 4 (λ h. bits 11 10 h == 2) (λ h. word_i 0b0010011 7 (middle h) (middle h) (imm_6 h)) ∷
    short 1 4 (both_are 0) (of_two 0 32) ∷
    short 1 4 (both_are 1) (of_two 4 0) ∷
    short 1 4 (both_are 2) (of_two 6 0) ∷
    short 1 4 (both_are 3) (of_two 7 0) ∷
    short 1 5 any (λ h. word_j 0b1101111 0 (imm_j h)) ∷
    short 1 6 any (λ h. word_b 0b1100011 0 (middle h) 0 (imm_b h)) ∷
    short 1 7 any (λ h. word_b 0b1100011 1 (middle h) 0 (imm_b h)) ∷
    short 2 0 (top_is 0) (λ h. word_r 0b0010011 1 0 (full h) (full h) (back h)) ∷
    short 2 2 (λ h. some (full h)) (λ h. word_i 0b0000011 2 (full h) 2 (imm_lwsp h)) ∷
    short 2 4 (λ h. top_is 0 h && (back h == 0) && some (full h)) (λ h. word_i 0b1100111 0 0 (full h) 0) ∷
    short 2 4 (λ h. top_is 0 h && some (back h)) (λ h. word_r 0b0110011 0 0 (full h) 0 (back h)) ∷
    short 2 4 (λ h. top_is 1 h && (back h == 0) && (full h == 0)) (λ h. 0x100073) ∷
    short 2 4 (λ h. top_is 1 h && (back h == 0) && some (full h)) (λ h. word_i 0b1100111 0 1 (full h) 0) ∷
    short 2 4 (λ h. top_is 1 h && some (back h)) (λ h. word_r 0b0110011 0 0 (full h) (full h) (back h)) ∷
    short 2 6 any (λ h. word_s 0b0100011 2 2 (back h) (imm_swsp h)) ∷ []

-- the halfword is one of the instruction
abbrev pub is_short : Short → ℕ → Bool
is_short x h = (bits 1 0 h == x.quadrant) && (bits 15 13 h == x.funct) && x.is h

-- the expansion of a halfword by a table
abbrev pub expansion_in : List Short → ℕ → Option ℕ
expansion_in [] h = None
expansion_in (x ∷ rest) h = if is_short x h then Some (x.word h) else expansion_in rest h

-- the expansion of a halfword
unfoldable pub expansion : ℕ → Option ℕ
expansion h = expansion_in shorts h

-- What a row of 4 bytes comes to, if it has 2: it goes on to the address behind the 2, and a call, of which x1 is the link register, keeps that address.
abbrev pub shortened : State → Outcome → Outcome
shortened s (Goes On new) = Goes On (with_pc new (add 32 s.pc 2))
shortened s (Goes Direct new) = Goes Direct new
shortened s (Goes DirectCall new) = Goes DirectCall (with_reg new 1 (add 32 s.pc 2))
shortened s (Goes Indirect new) = Goes Indirect new
shortened s (Goes IndirectCall new) = Goes IndirectCall (with_reg new 1 (add 32 s.pc 2))
shortened s (Raises e) = Raises e

-- the row with 2 bytes
abbrev pub short_row : Row → Row
short_row row = record row { length = 2; effect = λ s c. shortened s (row.effect s c) }

-- the row of the word that there is, with 2 bytes
abbrev pub short_row_of : Option Row → Option Row
short_row_of None = None
short_row_of (Some row) = Some (short_row row)

-- the row of an expansion
abbrev pub row_of_expansion : Option ℕ → Option Row
row_of_expansion None = None
row_of_expansion (Some w) = short_row_of (rv_row w)

-- The row of a word, with the compressed instructions or without them. One of 2 bytes is decoded from its halfword as a word whose upper half is 0.
abbrev pub rvc_row : (compressed : Bool) → ℕ → Option Row
rvc_row false w = rv_row w
rvc_row true w = if w % 4 == 3 then rv_row w else if nat_lt w (2 ^ 16) then row_of_expansion (expansion w) else None
