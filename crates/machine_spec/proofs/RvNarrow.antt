-- RV32IM with compressed instructions is a lawful machine.
use Rattle.std.proofs.Common.{◌≡◌, ℕ, zero, suc, ◌%◌, ◌^◌, ◌<◌, rules, refl, sym, ap, subst, ◌∙◌, true, false, Bool, arith, Some, None, List, [], ◌∷◌, Option, length}
use Rattle.std.specs.Prelude.{◌==◌, ◌&&◌, if◌then◌else◌, nat_lt, Contains, slice_index_or}
use Rattle.std.proofs.lemmas.Bool.Decides.{nat_tests}
use Rattle.std.proofs.lemmas.Bool.{eqb-true}
use Rattle.word_spec.specs.Words.{bits}
use Rattle.word_spec.specs.State.{State, IsState}
use Rattle.machine_spec.specs.Machine.{Row, width, first_half}
use Rattle.machine_spec.specs.MachineLaws.{IsLawful, IfGoes, IsCall}
use Rattle.machine_spec.specs.Rv.{Instruction, Fields, table, fits, fields, rv_row, jal, jalr, links, put_reg}
use Rattle.machine_spec.proofs.ShortJumps.{is_jump, jumps_low}
use Rattle.machine_spec.proofs.LinkRegister.{Linking, never, without_calls}
use Rattle.machine_spec.proofs.RvLawful.{rows_are_of_the_table, row_lawful}
use Rattle.machine_spec.specs.RvShort.{low, middle, full, back, imm_4spn, imm_w, imm_6, imm_j, imm_16sp, imm_lui, imm_b, imm_lwsp, imm_swsp, shorts, Short, is_short, expansion_in, expansion, short_row, row_of_expansion, short_row_of, rvc_row}
use Rattle.machine_spec.specs.RvWords.{word_r, word_i, word_s, word_b, word_u, word_j}
use Rattle.machine_spec.specs.RvMachineLaws.{RvIsLawful, ShortIsExpansion}
use Rattle.machine_spec.proofs.ShortLawful.{short_is_lawful, short_links, short_calls}

put_one : (f : ℕ → ℕ) (rd v : ℕ) → (rd == 1) ≡ true → put_reg f rd v 1 ≡ v
put_one f rd v e = let same : rd ≡ 1 = eqb-true rd 1 e in subst (λ (r : ℕ). put_reg f r v 1 ≡ v) (sym same) refl

put_other : (f : ℕ → ℕ) (rd v : ℕ) → (rd == 1) ≡ false → put_reg f rd v 1 ≡ f 1
put_other f zero v e = refl
put_other f (suc rd) v e = let t : (1 == suc rd) ≡ false = grind (arith, nat_tests) in rw t refl

jal_links : (x : Fields) → Linking 1 (jal x)
jal_links x = record {
  linked = λ e s c is call. put_one s.regs x.rd _ e;
  unlinked = λ e s c is call. put_other s.regs x.rd _ e;
}

jalr_links : (x : Fields) → Linking 1 (jalr x)
jalr_links x = record {
  linked = λ e s c is call. put_one s.regs x.rd _ e;
  unlinked = λ e s c is call. put_other s.regs x.rd _ e;
}

-- a row has 4 bytes, and a jump calls where it sets a link register and links where that is x1
record OfOpcode (opcode rd : ℕ) (row : Row) : Type 0 where
  length : row.length ≡ 4
  calls : (at : ℕ) → (row.successors at).call ≡ (is_jump opcode && links rd)
  links : row.links ≡ (is_jump opcode && (rd == 1))
  linking : is_jump opcode ≡ true → Linking 1 row

-- each line of the table has such rows, and words that end in 11
abbrev OfLine : Instruction → Type 0
OfLine i = (i.opcode % 4 ≡ 3) × ((x : Fields) → OfOpcode i.opcode x.rd (i.row x))

abbrev EachLine : List Instruction → Type 0
EachLine [] = Unit {0}
EachLine (i ∷ rest) = OfLine i × EachLine rest

table_lines : EachLine table
unfolding table
table_lines = search (rules, jal_links, jalr_links)

line_in : (is : List Instruction) → EachLine is → (i : Instruction) (k : ℕ) → k < length is → slice_index_or is k i ≡ i → OfLine i
line_in [] h i k l e = absurd (omega arith)
line_in (x ∷ rest) h i zero l e = subst OfLine e h.0
line_in (x ∷ rest) h i (suc k) l e = line_in rest h.1 i k (omega arith) e

-- every word with a row of its own has 4 bytes and ends in 11
pub long : (w : ℕ) (row : Row) → rv_row w ≡ Some row → (row.length ≡ 4) × (w % 4 ≡ 3)
long w row e = of_line (rows_are_of_the_table w row e) where
  of_line : ((i : Instruction) × Contains table i × (fits i w ≡ true) × (row ≡ i.row (fields i.imm w))) → (row.length ≡ 4) × (w % 4 ≡ 3)
  of_line (i, (k, l, at), f, r) =
      let h = line_in table table_lines i k l at in
      let o : bits 6 0 w ≡ i.opcode = grind (arith, nat_tests, f) in
      let q : i.opcode % 4 ≡ 3 = h.0 in
      let p : bits 6 0 w % 4 ≡ 3 = ap (λ z. z % 4) o ∙ q in
      (ap (λ (z : Row). z.length) r ∙ (h.1 (fields i.imm w)).length, omega arith)

-- a word with a row of its own links as the row says
row_links : (w : ℕ) (row : Row) → rv_row w ≡ Some row → Linking 1 row
row_links w row e = of_line (rows_are_of_the_table w row e) where
  by_jump : (opcode rd : ℕ) (b : Bool) → is_jump opcode ≡ b → OfOpcode opcode rd row → Linking 1 row
  by_jump opcode rd true j h = h.linking j
  by_jump opcode rd false j h =
      without_calls 1 row (row_lawful w row e) (λ at. h.calls at ∙ ap (λ (b : Bool). b && links rd) j)

  of_line : ((i : Instruction) × Contains table i × (fits i w ≡ true) × (row ≡ i.row (fields i.imm w))) → Linking 1 row
  of_line (i, (k, l, at), f, r) =
      let h = line_in table table_lines i k l at in
      by_jump i.opcode (bits 11 7 w) (is_jump i.opcode) refl (subst (OfOpcode i.opcode (bits 11 7 w)) (sym r) (h.1 (fields i.imm w)))

-- one that does not link never calls, if as a jump it sets x0 or x1 alone
no_call : (rd : ℕ) (jump : Bool) → (jump ≡ true → rd < 2) → (jump && (rd == 1)) ≡ false → (jump && links rd) ≡ false
no_call rd false low plain = refl
no_call zero true low plain = refl
no_call (suc zero) true low plain = cc
no_call (suc (suc rd)) true low plain = let l = low refl in absurd (omega arith)

never_calls : (w : ℕ) (row : Row) → rv_row w ≡ Some row → (is_jump (bits 6 0 w) ≡ true → bits 11 7 w < 2) → row.links ≡ false →
    (s : State) (c : ℕ) → IsState s → IfGoes (row.effect s c) (λ how new. IsCall how → ⊥)
never_calls w row e low plain s c is = of_line (rows_are_of_the_table w row e) where
  of_line : ((i : Instruction) × Contains table i × (fits i w ≡ true) × (row ≡ i.row (fields i.imm w))) →
      IfGoes (row.effect s c) (λ how new. IsCall how → ⊥)
  of_line (i, (k, l, at), f, r) =
      let o : bits 6 0 w ≡ i.opcode = grind (arith, nat_tests, f) in
      let h = subst (OfOpcode i.opcode (bits 11 7 w)) (sym r) ((line_in table table_lines i k l at).1 (fields i.imm w)) in
      let none = no_call (bits 11 7 w) (is_jump i.opcode) (λ j. low (ap is_jump o ∙ j)) (sym h.links ∙ plain) in
      never (row.successors s.pc) (row.effect s c) (λ new. ⊥) (h.calls s.pc ∙ none) ((row_lawful w row e).successors s c is)

wide_width : (n : Bool) (w : ℕ) → w % 4 ≡ 3 → width n (first_half w) ≡ 4
wide_width true w e = let t : (w % 2 ^ 16 % 4 == 3) ≡ true = grind (arith, nat_tests) in rw t refl
wide_width false w e = refl

short_width : (w : ℕ) → (w % 4 == 3) ≡ false → width true (first_half w) ≡ 2
short_width w e = let t : (w % 2 ^ 16 % 4 == 3) ≡ false = grind (arith, nat_tests) in rw t refl

of_short : (o : Option Row) (row : Row) → short_row_of o ≡ Some row → (long : Row) × (o ≡ Some long) × (row ≡ short_row long)
of_short None row e = cc
of_short (Some long) row e = (long, refl, cc)

of_expansion : (o : Option ℕ) (row : Row) → row_of_expansion o ≡ Some row → (w : ℕ) × (o ≡ Some w) × ((long : Row) × (rv_row w ≡ Some long) × (row ≡ short_row long))
of_expansion None row e = cc
of_expansion (Some w) row e = (w, refl, of_short (rv_row w) row e)

-- the words of formats are below 2 ^ 32
small_r : (op f3 f7 rd rs1 rs2 : ℕ) → op < 128 → f3 < 8 → f7 < 128 → rd < 32 → rs1 < 32 → rs2 < 32 → word_r op f3 f7 rd rs1 rs2 < 2 ^ 32
small_r op f3 f7 rd rs1 rs2 a b c d e f = omega arith

small_i : (op f3 rd rs1 imm : ℕ) → op < 128 → f3 < 8 → rd < 32 → rs1 < 32 → word_i op f3 rd rs1 imm < 2 ^ 32
small_i op f3 rd rs1 imm a b c d = omega arith

small_s : (op f3 rs1 rs2 imm : ℕ) → op < 128 → f3 < 8 → rs1 < 32 → rs2 < 32 → word_s op f3 rs1 rs2 imm < 2 ^ 32
small_s op f3 rs1 rs2 imm a b c d = omega arith

small_b : (op f3 rs1 rs2 imm : ℕ) → op < 128 → f3 < 8 → rs1 < 32 → rs2 < 32 → word_b op f3 rs1 rs2 imm < 2 ^ 32
small_b op f3 rs1 rs2 imm a b c d = omega arith

small_u : (op rd imm : ℕ) → op < 128 → rd < 32 → word_u op rd imm < 2 ^ 32
small_u op rd imm a b = omega arith

small_j : (op rd imm : ℕ) → op < 128 → rd < 32 → word_j op rd imm < 2 ^ 32
small_j op rd imm a b = omega arith

low_small : (h : ℕ) → low h < 32
low_small h = omega arith

middle_small : (h : ℕ) → middle h < 32
middle_small h = omega arith

full_small : (h : ℕ) → full h < 32
full_small h = omega arith

back_small : (h : ℕ) → back h < 32
back_small h = omega arith

-- each line of the table of compressed instructions has words of 32 bits
abbrev ExpandsSmall : Short → Type 0
ExpandsSmall x = (h : ℕ) → x.word h < 2 ^ 32

abbrev EachShort : List Short → Type 0
EachShort [] = Unit {0}
EachShort (x ∷ rest) = ExpandsSmall x × EachShort rest

pair_small : (f3 f7 h : ℕ) → f3 < 8 → f7 < 128 → word_r 0b0110011 f3 f7 (middle h) (middle h) (low h) < 2 ^ 32
pair_small f3 f7 h a b = small_r 0b0110011 f3 f7 (middle h) (middle h) (low h) (omega arith) a b (middle_small h) (middle_small h) (low_small h)

shorts_small : EachShort shorts
unfolding shorts
shorts_small = (
  (λ h. small_i 0b0010011 0 (low h) 2 (imm_4spn h) (omega arith) (omega arith) (low_small h) (omega arith)),
  (
    (λ h. small_i 0b0000011 2 (low h) (middle h) (imm_w h) (omega arith) (omega arith) (low_small h) (middle_small h)),
    (
      (λ h. small_s 0b0100011 2 (middle h) (low h) (imm_w h) (omega arith) (omega arith) (middle_small h) (low_small h)),
      (
        (λ h. small_i 0b0010011 0 (full h) (full h) (imm_6 h) (omega arith) (omega arith) (full_small h) (full_small h)),
        (
          (λ h. small_j 0b1101111 1 (imm_j h) (omega arith) (omega arith)),
          (
            (λ h. small_i 0b0010011 0 (full h) 0 (imm_6 h) (omega arith) (omega arith) (full_small h) (omega arith)),
            (
              (λ h. small_i 0b0010011 0 2 2 (imm_16sp h) (omega arith) (omega arith) (omega arith) (omega arith)),
              (
                (λ h. small_u 0b0110111 (full h) (imm_lui h) (omega arith) (full_small h)),
                (
                  (λ h. small_r 0b0010011 5 0 (middle h) (middle h) (back h) (omega arith) (omega arith) (omega arith) (middle_small h) (middle_small h) (back_small h)),
                  (
                    (λ h. small_r 0b0010011 5 32 (middle h) (middle h) (back h) (omega arith) (omega arith) (omega arith) (middle_small h) (middle_small h) (back_small h)),
                    (
                      (λ h. small_i 0b0010011 7 (middle h) (middle h) (imm_6 h) (omega arith) (omega arith) (middle_small h) (middle_small h)),
                      (
                        (λ h. pair_small 0 32 h (omega arith) (omega arith)),
                        (
                          (λ h. pair_small 4 0 h (omega arith) (omega arith)),
                          (
                            (λ h. pair_small 6 0 h (omega arith) (omega arith)),
                            (
                              (λ h. pair_small 7 0 h (omega arith) (omega arith)),
                              (
                                (λ h. small_j 0b1101111 0 (imm_j h) (omega arith) (omega arith)),
                                (
                                  (λ h. small_b 0b1100011 0 (middle h) 0 (imm_b h) (omega arith) (omega arith) (middle_small h) (omega arith)),
                                  (
                                    (λ h. small_b 0b1100011 1 (middle h) 0 (imm_b h) (omega arith) (omega arith) (middle_small h) (omega arith)),
                                    (
                                      (λ h. small_r 0b0010011 1 0 (full h) (full h) (back h)
                                          (omega arith) (omega arith) (omega arith) (full_small h) (full_small h) (back_small h)),
                                      (
                                        (λ h. small_i 0b0000011 2 (full h) 2 (imm_lwsp h) (omega arith) (omega arith) (full_small h) (omega arith)),
                                        (
                                          (λ h. small_i 0b1100111 0 0 (full h) 0 (omega arith) (omega arith) (omega arith) (full_small h)),
                                          (
                                            (λ h. small_r 0b0110011 0 0 (full h) 0 (back h) (omega arith) (omega arith) (omega arith) (full_small h) (omega arith) (back_small h)),
                                            (
                                              (λ h. omega arith),
                                              (
                                                (λ h. small_i 0b1100111 0 1 (full h) 0 (omega arith) (omega arith) (omega arith) (full_small h)),
                                                (
                                                  (λ h. small_r 0b0110011 0 0 (full h) (full h) (back h)
                                                      (omega arith) (omega arith) (omega arith) (full_small h) (full_small h) (back_small h)),
                                                  (
                                                    (λ h. small_s 0b0100011 2 2 (back h) (imm_swsp h) (omega arith) (omega arith) (omega arith) (back_small h)),
                                                    tt,
                                                  ),
                                                ),
                                              ),
                                            ),
                                          ),
                                        ),
                                      ),
                                    ),
                                  ),
                                ),
                              ),
                            ),
                          ),
                        ),
                      ),
                    ),
                  ),
                ),
              ),
            ),
          ),
        ),
      ),
    ),
  ),
)

chosen_small : (x : Short) (rest : List Short) (h w : ℕ) (b : Bool) → ExpandsSmall x → (expansion_in rest h ≡ Some w → w < 2 ^ 32) →
    (if b then Some (x.word h) else expansion_in rest h) ≡ Some w → w < 2 ^ 32
chosen_small x rest h w true small other k = let r : x.word h ≡ w = cc in subst (λ z. z < 2 ^ 32) r (small h)
chosen_small x rest h w false small other k = other k

expands_small : (is : List Short) → EachShort is → (h w : ℕ) → expansion_in is h ≡ Some w → w < 2 ^ 32
expands_small [] each h w e = cc
expands_small (x ∷ rest) each h w e = chosen_small x rest h w (is_short x h) each.0 (expands_small rest each.1 h w) e

expansion_small : (h w : ℕ) → expansion h ≡ Some w → w < 2 ^ 32
unfolding expansion
expansion_small h w e = expands_small shorts shorts_small h w e

short_linking : (h w : ℕ) (row : Row) → expansion h ≡ Some w → rv_row w ≡ Some row → Linking 1 (short_row row)
short_linking h w row e r = record {
  linked = λ l s c is. short_links row s c is;
  unlinked = λ l s c is. short_calls s (row.effect s c) (λ new. new.regs 1 ≡ s.regs 1) (never_calls w row r (jumps_low h w e) l s c is);
}

abbrev LawfulOf : ℕ → Row → Type 0
LawfulOf w row = IsLawful row × (row.length ≡ width true (first_half w)) × Linking 1 row

narrow_row : (w : ℕ) (row : Row) → w < 2 ^ 32 → rvc_row true w ≡ Some row → LawfulOf w row
narrow_row w row small e = by_end (w % 4 == 3) refl e where
  by_upper : (b : Bool) → (w % 4 == 3) ≡ false → (if b then row_of_expansion (expansion w) else None) ≡ Some row → LawfulOf w row
  by_upper true f k =
      let (v, x, (long_one, r, is)) = of_expansion (expansion w) row k in (
        subst IsLawful (sym is) (short_is_lawful long_one (row_lawful v long_one r)),
        ap (λ (z : Row). z.length) is ∙ sym (short_width w f),
        subst (Linking 1) (sym is) (short_linking w v long_one x r),
      )
  by_upper false f k = cc

  by_end : (b : Bool) → (w % 4 == 3) ≡ b →
      (if b then rv_row w else if nat_lt w (2 ^ 16) then row_of_expansion (expansion w) else None) ≡ Some row → LawfulOf w row
  by_end true t k = let l = long w row k in (row_lawful w row k, l.0 ∙ sym (wide_width true w l.1), row_links w row k)
  by_end false f k = by_upper (nat_lt w (2 ^ 16)) f k

pub rv_is_lawful : RvIsLawful
rv_is_lawful true = record {
  rows = λ w row small e. (narrow_row w row small e).0;
  lengths = λ w row small e. (narrow_row w row small e).1;
  little = λ t. refl;
  linked = λ w row small e. (narrow_row w row small e).2.linked;
  unlinked = λ w row small e. (narrow_row w row small e).2.unlinked;
}
rv_is_lawful false = record {
  rows = λ w row small e. row_lawful w row e;
  lengths = λ w row small e. (long w row e).0;
  little = λ t. refl;
  linked = λ w row small e. (row_links w row e).linked;
  unlinked = λ w row small e. (row_links w row e).unlinked;
}

-- no halfword of the table ends in 11
abbrev EndsShort : List Short → Type 0
EndsShort [] = Unit {0}
EndsShort (x ∷ rest) = (x.quadrant < 3) × EndsShort rest

shorts_end : EndsShort shorts
unfolding shorts
shorts_end = (omega arith, omega arith)

end_in : (xs : List Short) → EndsShort xs → (h w : ℕ) → expansion_in xs h ≡ Some w → (h % 4 == 3) ≡ false
end_in [] each h w e = cc
end_in (x ∷ rest) each h w e = by_line (is_short x h) refl e (end_in rest each.1 h w)
  where
    by_line : (b : Bool) → is_short x h ≡ b → (if b then Some (x.word h) else expansion_in rest h) ≡ Some w →
        (expansion_in rest h ≡ Some w → (h % 4 == 3) ≡ false) → (h % 4 == 3) ≡ false
    by_line true t k other =
        let q : bits 1 0 h ≡ x.quadrant = grind (arith, nat_tests, t) in
        let small : x.quadrant < 3 = each.0 in
        grind (arith, nat_tests)
    by_line false f k other = other k

pub ends_short : (h w : ℕ) → expansion h ≡ Some w → (h % 4 == 3) ≡ false
unfolding expansion
ends_short h w e = end_in shorts shorts_end h w e

pub short_is_expansion : ShortIsExpansion
short_is_expansion h w small e =
    let low : (h % 4 == 3) ≡ false = ends_short h w e in
    let half : nat_lt h (2 ^ 16) ≡ true = grind (arith, nat_tests) in (
      ap (λ (b : Bool). if b then rv_row h else if nat_lt h (2 ^ 16) then row_of_expansion (expansion h) else None) low
          ∙ (ap (λ (b : Bool). if b then row_of_expansion (expansion h) else None) half ∙ ap row_of_expansion e),
      expansion_small h w e,
    )
