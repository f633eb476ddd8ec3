-- The fields of the words of the formats, so that each instruction whose immediate fits is of its word.
use Rattle.std.proofs.Common.{◌≡◌, ℕ, ◌+◌, ◌*◌, ◌%◌, ◌^◌, ◌<◌, true, Option, Some, None, refl, sym, ap, ◌∙◌, arith, lit<}
use Rattle.std.specs.Prelude.{◌==◌, ◌&&◌}
use Rattle.std.proofs.lemmas.Bool.{eq-eqb}
use Rattle.word_spec.specs.Words.{bits, sign_extend}
use Rattle.machine_spec.specs.Rv.{imm_u}
use Rattle.machine_spec.specs.RvWords.{word_r, word_i, word_s, word_b, word_u, word_j}
use Rattle.rv_decode.specs.declared.plain.BranchOp.{BranchOp}
use Rattle.rv_decode.specs.declared.plain.BranchOp.TheVariants.{Beq}
use Rattle.rv_decode.specs.declared.plain.LoadOp.{LoadOp}
use Rattle.rv_decode.specs.declared.plain.LoadOp.TheVariants.{Lb}
use Rattle.rv_decode.specs.declared.plain.StoreOp.{StoreOp}
use Rattle.rv_decode.specs.declared.plain.StoreOp.TheVariants.{Sb}
use Rattle.rv_decode.specs.declared.plain.Plain.{Plain}
use Rattle.rv_decode.specs.declared.plain.Plain.TheVariants.{Lui, Auipc, Jal, Jalr, Branch, Load, Store, Immediate, Shift, Computation, Fence, Ecall, Ebreak}
use Rattle.rv_decode.specs.Operations.{immediate_line, shift_line, register_line}
use Rattle.rv_decode.specs.Plains.{DecodesPlain, branch_code, load_code, store_code}
use Rattle.rv_decode.specs.Encodings.{encoded}
use Rattle.rv_decode.specs.Halves.{IsOfHalf}
use Rattle.rv_decode.specs.Insns.{DecodesBy}
use Rattle.rv_decode.specs.Formats.{FitsPlain, FitsBy, EachFitting}
use Rattle.rv_decode.proofs.Small.{immediate_small, shift_small, shift_upper_small, register_small, register_upper_small}

branch_small : (op : BranchOp) → branch_code op < 8
branch_small Beq = lit< tt
branch_small op = lit< tt

load_small : (op : LoadOp) → load_code op < 8
load_small Lb = lit< tt
load_small op = lit< tt

store_small : (op : StoreOp) → store_code op < 8
store_small Sb = lit< tt
store_small op = lit< tt

-- a word of six fields, cut again
cut : (o d f a b g : ℕ) → o < 128 → d < 32 → f < 8 → a < 32 → b < 32 → g < 128 → let w = word_r o f g d a b in
    (bits 6 0 w ≡ o) × (bits 11 7 w ≡ d) × (bits 14 12 w ≡ f) × (bits 19 15 w ≡ a) × (bits 24 20 w ≡ b) × (bits 31 25 w ≡ g) × (w < 2 ^ 32)
cut o d f a b g h0 h1 h2 h3 h4 h5 = (omega arith, omega arith, omega arith, omega arith, omega arith, omega arith, omega arith)

cut_i : (o d f a n : ℕ) → o < 128 → d < 32 → f < 8 → a < 32 → let w = word_i o f d a n in
    (bits 6 0 w ≡ o) × (bits 11 7 w ≡ d) × (bits 14 12 w ≡ f) × (bits 19 15 w ≡ a) × (bits 31 20 w ≡ n % 2 ^ 12) × (w < 2 ^ 32)
cut_i o d f a n h0 h1 h2 h3 = (omega arith, omega arith, omega arith, omega arith, omega arith, omega arith)

cut_s : (o f a b n : ℕ) → o < 128 → f < 8 → a < 32 → b < 32 → let w = word_s o f a b n in
    (bits 6 0 w ≡ o) × (bits 14 12 w ≡ f) × (bits 19 15 w ≡ a) × (bits 24 20 w ≡ b) × (bits 31 25 w * 2 ^ 5 + bits 11 7 w ≡ n % 2 ^ 12) × (w < 2 ^ 32)
cut_s o f a b n h0 h1 h2 h3 =
    let c = cut o (bits 4 0 n) f a b (bits 11 5 n) h0 (omega arith) h1 h2 h3 (omega arith) in
    (c.0, c.2, c.3, c.4, rw (c.5, c.1) (omega arith), c.6)

cut_u : (o d n : ℕ) → o < 128 → d < 32 → let w = word_u o d n in (bits 6 0 w ≡ o) × (bits 11 7 w ≡ d) × (imm_u w ≡ imm_u n) × (w < 2 ^ 32)
cut_u o d n h0 h1 = (omega arith, omega arith, omega arith, omega arith)

-- an even number by the bits of format B, and of format J
bits_b : (n : ℕ) → n % 2 ≡ 0 → bits 12 12 n * 2 ^ 12 + bits 11 11 n * 2 ^ 11 + bits 10 5 n * 2 ^ 5 + bits 4 1 n * 2 ≡ n % 2 ^ 13
bits_b n h = omega arith

bits_j : (n : ℕ) → n % 2 ≡ 0 → bits 20 20 n * 2 ^ 20 + bits 19 12 n * 2 ^ 12 + bits 11 11 n * 2 ^ 11 + bits 10 1 n * 2 ≡ n % 2 ^ 21
bits_j n h = omega arith

cut_b : (o f a b n : ℕ) → o < 128 → f < 8 → a < 32 → b < 32 → n % 2 ≡ 0 → let w = word_b o f a b n in
    (bits 6 0 w ≡ o) × (bits 14 12 w ≡ f) × (bits 19 15 w ≡ a) × (bits 24 20 w ≡ b)
    × (bits 31 31 w * 2 ^ 12 + bits 7 7 w * 2 ^ 11 + bits 30 25 w * 2 ^ 5 + bits 11 8 w * 2 ≡ n % 2 ^ 13) × (w < 2 ^ 32)
cut_b o f a b n h0 h1 h2 h3 e =
    let w = word_b o f a b n in
    let s : bits 31 31 w ≡ bits 12 12 n = omega arith in let p : bits 7 7 w ≡ bits 11 11 n = omega arith in
    let r : bits 30 25 w ≡ bits 10 5 n = omega arith in let q : bits 11 8 w ≡ bits 4 1 n = omega arith in
    (omega arith, omega arith, omega arith, omega arith, rw (s, p, r, q) (bits_b n e), omega arith)

cut_j : (o d n : ℕ) → o < 128 → d < 32 → n % 2 ≡ 0 → let w = word_j o d n in
    (bits 6 0 w ≡ o) × (bits 11 7 w ≡ d)
    × (bits 31 31 w * 2 ^ 20 + bits 19 12 w * 2 ^ 12 + bits 20 20 w * 2 ^ 11 + bits 30 21 w * 2 ≡ n % 2 ^ 21) × (w < 2 ^ 32)
cut_j o d n h0 h1 e =
    let w = word_j o d n in
    let s : bits 31 31 w ≡ bits 20 20 n = omega arith in let p : bits 19 12 w ≡ bits 19 12 n = omega arith in
    let r : bits 20 20 w ≡ bits 11 11 n = omega arith in let q : bits 30 21 w ≡ bits 10 1 n = omega arith in
    (omega arith, omega arith, rw (s, p, r, q) (bits_j n e), omega arith)

-- a line's tests of a word
fits_opcode : (w o : ℕ) → bits 6 0 w ≡ o → ((((bits 6 0 w == o) && true) && true) && true) ≡ true
fits_opcode w o h = rw (eq-eqb (bits 6 0 w) o h) refl

fits_3 : (w o f : ℕ) → bits 6 0 w ≡ o → bits 14 12 w ≡ f → ((((bits 6 0 w == o) && (bits 14 12 w == f)) && true) && true) ≡ true
fits_3 w o f h k = rw (eq-eqb (bits 6 0 w) o h, eq-eqb (bits 14 12 w) f k) refl

fits_7 : (w o f g : ℕ) → bits 6 0 w ≡ o → bits 14 12 w ≡ f → bits 31 25 w ≡ g →
    ((((bits 6 0 w == o) && (bits 14 12 w == f)) && (bits 31 25 w == g)) && true) ≡ true
fits_7 w o f g h k l = rw (eq-eqb (bits 6 0 w) o h, eq-eqb (bits 14 12 w) f k, eq-eqb (bits 31 25 w) g l) refl

fits_fence : (n : ℕ) → n < 2 ^ 22 → let w = encoded (Fence n) in
    (bits 6 0 w ≡ 0b0001111) × (bits 14 12 w ≡ 0) × (n ≡ bits 31 15 w * 2 ^ 5 + bits 11 7 w) × (w < 2 ^ 32)
fits_fence n h =
    let w = encoded (Fence n) in let u : bits 31 15 w ≡ bits 21 5 n = omega arith in let l : bits 11 7 w ≡ bits 4 0 n = omega arith in
    (omega arith, omega arith, rw (u, l) (omega arith), omega arith)

-- an instruction whose immediate fits is of its word
plain_fitting : (i : Plain) → FitsPlain i → (w : ℕ) × (w < 2 ^ 32) × DecodesPlain w i
plain_fitting (Lui rd imm) h =
    let b = rd.in_range in let c = cut_u 0b0110111 rd.number imm (lit< tt) b in
    (encoded (Lui rd imm), c.3, record { line = fits_opcode _ _ c.0; fields = (sym c.1, h ∙ sym c.2) })
plain_fitting (Auipc rd imm) h =
    let b = rd.in_range in let c = cut_u 0b0010111 rd.number imm (lit< tt) b in
    (encoded (Auipc rd imm), c.3, record { line = fits_opcode _ _ c.0; fields = (sym c.1, h ∙ sym c.2) })
plain_fitting (Jal rd offset) h =
    let c = cut_j 0b1101111 rd.number offset (lit< tt) rd.in_range h.1 in
    (encoded (Jal rd offset), c.3, record { line = fits_opcode _ _ c.0; fields = (sym c.1, h.0 ∙ ap (sign_extend 21 32) (sym c.2)) })
plain_fitting (Jalr rd rs1 offset) h =
    let c = cut_i 0b1100111 rd.number 0 rs1.number offset (lit< tt) rd.in_range (lit< tt) rs1.in_range in
    (encoded (Jalr rd rs1 offset), c.5, record { line = fits_3 _ _ _ c.0 c.2; fields = (sym c.1, sym c.3, h ∙ ap (sign_extend 12 32) (sym c.4)) })
plain_fitting (Branch op rs1 rs2 offset) h =
    let c = cut_b 0b1100011 (branch_code op) rs1.number rs2.number offset (lit< tt) (branch_small op) rs1.in_range rs2.in_range h.1 in
    (encoded (Branch op rs1 rs2 offset), c.5, record { line = fits_3 _ _ _ c.0 c.1; fields = (sym c.2, sym c.3, h.0 ∙ ap (sign_extend 13 32) (sym c.4)) })
plain_fitting (Load op rd rs1 offset) h =
    let c = cut_i 0b0000011 rd.number (load_code op) rs1.number offset (lit< tt) rd.in_range (load_small op) rs1.in_range in
    (encoded (Load op rd rs1 offset), c.5, record { line = fits_3 _ _ _ c.0 c.2; fields = (sym c.1, sym c.3, h ∙ ap (sign_extend 12 32) (sym c.4)) })
plain_fitting (Store op rs1 rs2 offset) h =
    let c = cut_s 0b0100011 (store_code op) rs1.number rs2.number offset (lit< tt) (store_small op) rs1.in_range rs2.in_range in
    (encoded (Store op rs1 rs2 offset), c.5, record { line = fits_3 _ _ _ c.0 c.1; fields = (sym c.2, sym c.3, h ∙ ap (sign_extend 12 32) (sym c.4)) })
plain_fitting (Immediate op rd rs1 imm) h =
    let c = cut_i 0b0010011 rd.number (immediate_line op).funct3 rs1.number imm (lit< tt) rd.in_range (immediate_small op) rs1.in_range in
    (encoded (Immediate op rd rs1 imm), c.5, record { line = fits_3 _ _ _ c.0 c.2; fields = (sym c.1, sym c.3, h ∙ ap (sign_extend 12 32) (sym c.4)) })
plain_fitting (Shift op rd rs1 amount) h =
    let c = cut 0b0010011 rd.number (shift_line op).funct3 rs1.number amount.bits (shift_line op).funct7
    (lit< tt) rd.in_range (shift_small op) rs1.in_range amount.in_range (shift_upper_small op) in
    (encoded (Shift op rd rs1 amount), c.6, record { line = fits_7 _ _ _ _ c.0 c.2 c.5; fields = (sym c.1, sym c.3, sym c.4) })
plain_fitting (Computation op rd rs1 rs2) h =
    let c = cut 0b0110011 rd.number (register_line op).funct3 rs1.number rs2.number (register_line op).funct7
    (lit< tt) rd.in_range (register_small op) rs1.in_range rs2.in_range (register_upper_small op) in
    (encoded (Computation op rd rs1 rs2), c.6, record { line = fits_7 _ _ _ _ c.0 c.2 c.5; fields = (sym c.1, sym c.3, sym c.4) })
plain_fitting (Fence fields) h =
    let c = fits_fence fields h in (encoded (Fence fields), c.3, record { line = fits_3 _ _ _ c.0 c.1; fields = c.2 })
plain_fitting Ecall h = (0x73, lit< tt, record { line = refl; fields = tt })
plain_fitting Ebreak h = (0x100073, lit< tt, record { line = refl; fields = tt })

-- so is one of a halfword
fitting_by : (i : Plain) (half : Option ℕ) → IsOfHalf i half → FitsBy i half → (w : ℕ) × (w < 2 ^ 32) × DecodesBy true w i half
fitting_by i None is h = plain_fitting i h
fitting_by i (Some n) is h = let small : n < 2 ^ 16 = is.0 in (n, omega arith, (refl, refl))

pub fitting : EachFitting
fitting i h = let (w, small, d) = fitting_by i.plain i.half i.of_half h in (true, w, small, d)
