-- The rows of made words, and their results.
use Rattle.std.proofs.Common.{◌≡◌, ◌≢◌, ℕ, zero, suc, ◌+◌, ◌*◌, ◌^◌, ◌<◌, refl, ap, sym, ◌∙◌, arith, lit<, Bool, true, false, length, get_or, Some, None}
use Rattle.std.specs.Prelude.{◌==◌, nat_le, if◌then◌else◌, bit_xor}
use Rattle.std.proofs.lemmas.Bool.{ne_eqb}
use Rattle.std.proofs.lemmas.Bool.Decides.{nat_tests}
use Rattle.word_spec.specs.Words.{add, shl, bits, sign_extend}
use Rattle.word_spec.specs.State.{State, put}
use Rattle.machine_spec.specs.Machine.{Row, On, Goes}
use Rattle.bilv_spec.specs.Notes.{BitXor}
use Rattle.machine_spec.specs.Rv.{reg, with_reg, on, rv_row, table, sets, fields, imm_i, jalr}
use Rattle.command_spec.specs.Work.{next_item, item_kind, item_number, item_word, result_of, item_words, result_from}
use Rattle.machine_spec.proofs.RvRows.{addi_row}
use Rattle.notes_spec.proofs.NotesWords.{apply_word}
use Rattle.machine_spec.proofs.WordBounds.{shl_below}

other : (w n m : ℕ) → bits 6 0 w ≡ m → bits 6 0 n ≢ m → (w == n) ≡ false
other w n m e ne = ne_eqb w n (λ same. ne (ap (λ x. bits 6 0 x) (sym same) ∙ e))

xori_row : (w : ℕ) → bits 6 0 w ≡ 0x13 → bits 14 12 w ≡ 4 → rv_row w ≡ Some (sets (λ x s. bit_xor (reg s x.rs1) x.imm) (fields imm_i w))
unfolding table rv_row
xori_row w op f3 =
    let a : (w == 0x73) ≡ false = other w 0x73 0x13 op (λ e. absurd (omega arith)) in
    let b : (w == 0x100073) ≡ false = other w 0x100073 0x13 op (λ e. absurd (omega arith)) in
    simp (a, b, op, f3)

slli_row : rv_row 0x151513 ≡ Some (sets (λ x s. shl 32 (reg s x.rs1) x.rs2) (fields imm_i 0x151513))
unfolding table rv_row
slli_row = refl

add_row : rv_row 0xb50533 ≡ Some (sets (λ x s. add 32 (reg s x.rs1) (reg s x.rs2)) (fields imm_i 0xb50533))
unfolding table rv_row
add_row = refl

pub return_row : rv_row 0x8067 ≡ Some (jalr (fields imm_i 0x8067))
unfolding table rv_row
return_row = refl

-- the state behind a row that sets a0 by a0 and a1
abbrev pub moved : (ℕ → ℕ → ℕ) → State → State
moved f s = record { pc = add 32 s.pc 4; regs = put s.regs 10 (f (s.regs 10) (s.regs 11)); flags = s.flags; mem = s.mem }

-- the word has a row that does so
pub record Sets (w : ℕ) (f : ℕ → ℕ → ℕ) : Type 0 where
  pub row : Row
  pub is_row : rv_row w ≡ Some row
  pub stored : (s : State) → row.stored s ≡ None
  pub effect : (s : State) (c : ℕ) → row.effect s c ≡ Goes On (moved f s)

small_number : (n : ℕ) → n < 2048 → sign_extend 12 32 n ≡ n
small_number n h = let t : nat_le 2048 n ≡ false = grind (arith, nat_tests) in rw t refl

-- a computation with a0 and an immediate, that sets a0
with_immediate : (f : ℕ → ℕ → ℕ) (w n : ℕ) → rv_row w ≡ Some (sets (λ x s. f (reg s x.rs1) x.imm) (fields imm_i w)) → bits 11 7 w ≡ 10 → bits 19 15 w ≡ 10 →
    bits 31 20 w ≡ n → n < 2048 → Sets w (λ a0 a1. f a0 n)
with_immediate f w n is rd rs1 imm small = record {
  row = sets (λ x s. f (reg s x.rs1) x.imm) (fields imm_i w);
  is_row = is;
  stored = λ s. refl;
  effect = λ s c.
      ap (λ r. on s (with_reg s r (f (reg s (bits 19 15 w)) (imm_i w)))) rd
      ∙ ap (λ r. on s (with_reg s 10 (f (reg s r) (imm_i w)))) rs1
      ∙ ap (λ v. on s (with_reg s 10 (f (s.regs 10) v))) (ap (sign_extend 12 32) imm ∙ small_number n small);
}

module _ (n : ℕ) (small : n < 2048) where
  addi : Sets (n * 2 ^ 20 + 0x50513) (λ a0 a1. add 32 a0 n)
  addi =
      let w = n * 2 ^ 20 + 0x50513 in
      with_immediate (add 32) w n (addi_row w (omega arith) (omega arith)) (omega arith) (omega arith) (omega arith) small

  xori : Sets (n * 2 ^ 20 + 0x54513) (λ a0 a1. bit_xor a0 n)
  xori =
      let w = n * 2 ^ 20 + 0x54513 in
      with_immediate bit_xor w n (xori_row w (omega arith) (omega arith)) (omega arith) (omega arith) (omega arith) small

slli : Sets 0x151513 (λ a0 a1. shl 32 a0 1)
slli = record { row = sets (λ x s. shl 32 (reg s x.rs1) x.rs2) (fields imm_i 0x151513); is_row = slli_row; stored = λ s. refl; effect = λ s c. refl }

adds : Sets 0xb50533 (λ a0 a1. add 32 a0 a1)
adds = record { row = sets (λ x s. add 32 (reg s x.rs1) (reg s x.rs2)) (fields imm_i 0xb50533); is_row = add_row; stored = λ s. refl; effect = λ s c. refl }

by_kind : (a b c : Bool) (n : ℕ) → n < 2048 →
    Sets (if a then n * 2 ^ 20 + 0x50513 else if b then n * 2 ^ 20 + 0x54513 else if c then 0x151513 else 0xb50533)
    (λ a0 a1. if a then add 32 a0 n else if b then bit_xor a0 n else if c then shl 32 a0 1 else add 32 a0 a1)
by_kind true b c n h = addi n h
by_kind false true c n h = xori n h
by_kind false false true n h = slli
by_kind false false false n h = adds

-- an item's word sets a0 to its result
pub item_sets : (x : ℕ) → Sets (item_word x) (result_of x)
item_sets x = by_kind (item_kind x == 0) (item_kind x == 1) (item_kind x == 2) (item_number x) (omega arith)

-- the words and the results are words of 32 bits
small_word : (a b c : Bool) (n : ℕ) → n < 2048 →
    (if a then n * 2 ^ 20 + 0x50513 else if b then n * 2 ^ 20 + 0x54513 else if c then 0x151513 else 0xb50533) < 2 ^ 32
small_word true b c n h = omega arith
small_word false true c n h = omega arith
small_word false false true n h = lit< tt
small_word false false false n h = lit< tt

pub item_small : (x : ℕ) → item_word x < 2 ^ 32
item_small x = small_word (item_kind x == 0) (item_kind x == 1) (item_kind x == 2) (item_number x) (omega arith)

small_result : (a b c : Bool) (n a0 a1 : ℕ) → n < 2048 → a0 < 2 ^ 32 →
    (if a then add 32 a0 n else if b then bit_xor a0 n else if c then shl 32 a0 1 else add 32 a0 a1) < 2 ^ 32
small_result true b c n a0 a1 h l = omega arith
small_result false true c n a0 a1 h l = apply_word BitXor a0 n l (omega arith)
small_result false false true n a0 a1 h l = shl_below 32 a0 1
small_result false false false n a0 a1 h l = omega arith

result_small : (x a0 a1 : ℕ) → a0 < 2 ^ 32 → result_of x a0 a1 < 2 ^ 32
result_small x a0 a1 h = small_result (item_kind x == 0) (item_kind x == 1) (item_kind x == 2) (item_number x) a0 a1 (omega arith) h

pub results_small : (x a0 a1 n : ℕ) → a0 < 2 ^ 32 → result_from x a0 a1 n < 2 ^ 32
results_small x a0 a1 zero h = h
results_small x a0 a1 (suc n) h = results_small (next_item x) (result_of (next_item x) a0 a1) a1 n (result_small (next_item x) a0 a1 h)

-- item i, counted from 0
abbrev pub item : ℕ → ℕ → ℕ
item x zero = next_item x
item x (suc i) = item (next_item x) i

pub words_long : (x n : ℕ) → length (item_words x n) ≡ suc n
words_long x zero = refl
words_long x (suc n) = ap suc (words_long (next_item x) n)

pub word_is : (x n i : ℕ) → i < n → get_or (item_words x n) i 0 ≡ item_word (item x i)
word_is x zero i h = absurd (omega arith)
word_is x (suc n) zero h = refl
word_is x (suc n) (suc i) h = word_is (next_item x) n i (omega arith)

pub last_word : (x n : ℕ) → get_or (item_words x n) n 0 ≡ 0x8067
last_word x zero = refl
last_word x (suc n) = last_word (next_item x) n

-- one more result
pub one_more_result : (x a0 a1 i : ℕ) → result_from x a0 a1 (suc i) ≡ result_of (item x i) (result_from x a0 a1 i) a1
one_more_result x a0 a1 zero = refl
one_more_result x a0 a1 (suc i) = one_more_result (next_item x) (result_of (next_item x) a0 a1) a1 i
