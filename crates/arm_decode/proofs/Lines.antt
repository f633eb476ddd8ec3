-- An instruction has the row of its word, and each word one instruction at most.
use Rattle.std.proofs.Common.{◌≡◌, ◌⊎◌, inl, inr, ℕ, zero, suc, refl, sym, ap, subst, ◌∙◌, Bool, true, false, List, [], ◌∷◌, Option, Some, None}
use Rattle.std.specs.Prelude.{◌≢◌, slice_get, MatchOption, IfSome, ◌==◌, ◌&&◌, if◌then◌else◌}
use Rattle.std.specs.Option.{option_map}
use Rattle.std.proofs.lemmas.Bool.{ne_eqb}
use denote.Struct.Props.{props}
use Rattle.word_spec.specs.Memory.{Endian, Little}
use Rattle.machine_spec.specs.Arm as rows
use Rattle.word_spec.specs.Profiles.{Profile}
use Rattle.machine_spec.specs.Arm.{Instruction, table, row_in, arm_row, condition_code}
use Rattle.machine_spec.proofs.ArmTable.{one_row}
use Rattle.arm_decode.specs.declared.data.Computing as computing
use Rattle.arm_decode.specs.declared.multiplies.Multiply as multiply
use Rattle.arm_decode.specs.declared.long_multiplies.MultiplyLong as multiply_long
use Rattle.arm_decode.specs.declared.swaps.Swap as swap
use Rattle.arm_decode.specs.declared.transfers.Transfer as transfer
use Rattle.arm_decode.specs.declared.halfwords.Halfword as halfword
use Rattle.arm_decode.specs.declared.blocks.Block as block
use Rattle.arm_decode.specs.declared.branches.Branch as branch
use Rattle.arm_decode.specs.declared.interrupts.SoftwareInterrupt as interrupt
use Rattle.arm_decode.specs.declared.exchanges.Exchange as exchange
use Rattle.arm_decode.specs.declared.counts.Count as count
use Rattle.arm_decode.specs.declared.insn.Insn.{Insn}
use Rattle.arm_decode.specs.declared.insn.Insn.TheVariants.{Computing, Multiply, MultiplyLong, Swap, Transfer, Halfword, Block, Branch, SoftwareInterrupt, Exchange, Count}
use Rattle.arm_decode.specs.Insns.{word_of, row_of, IsOfProfile}

-- the condition code 15 has no row
pub no_condition : (profile : Profile) (w : ℕ) → condition_code w ≡ 15 → (e : Endian) → arm_row e profile w ≡ None
unfolding arm_row
no_condition profile w h e = rw h refl

-- a word of no line has no row
no_line : (profile : Profile) (w : ℕ) (never : Bool) → rows.is_computing w ≡ false → rows.is_multiply w ≡ false → rows.is_multiply_long w ≡ false →
    rows.is_swap w ≡ false → rows.is_transfer w ≡ false → rows.is_halfword w ≡ false → rows.is_block w ≡ false → rows.is_branch w ≡ false →
    rows.is_software_interrupt w ≡ false → (rows.has_exchange profile && rows.is_exchange w) ≡ false → (rows.is_fifth profile && rows.is_count w) ≡ false →
    (e : Endian) → (if never then None else row_in (table e profile) w) ≡ None
unfolding table
no_line profile w true a b c d f g h i j k l e = refl
no_line profile w false a b c d f g h i j k l e = rw (a, b, c, d, f, g, h, i, j, k, l) refl

pub no_row : (profile : Profile) (w : ℕ) → rows.is_computing w ≡ false → rows.is_multiply w ≡ false → rows.is_multiply_long w ≡ false →
    rows.is_swap w ≡ false → rows.is_transfer w ≡ false → rows.is_halfword w ≡ false → rows.is_block w ≡ false → rows.is_branch w ≡ false →
    rows.is_software_interrupt w ≡ false → (rows.has_exchange profile && rows.is_exchange w) ≡ false → (rows.is_fifth profile && rows.is_count w) ≡ false →
    (e : Endian) → arm_row e profile w ≡ None
unfolding arm_row
no_row profile w a b c d f g h i j k l e = no_line profile w (condition_code w == 15) a b c d f g h i j k l e

-- the place of its line in the table
abbrev place : Insn → ℕ
place (Computing x) = 0
place (Multiply x) = 1
place (MultiplyLong x) = 2
place (Swap x) = 3
place (Transfer x) = 4
place (Halfword x) = 5
place (Block x) = 6
place (Branch x) = 7
place (SoftwareInterrupt x) = 8
place (Exchange x) = 9
place (Count x) = 10

-- an instruction stands on the line at a place
record IsOn (e : Endian) (profile : Profile) (i : Insn) : Type 0 where
  line : Instruction
  at : slice_get (table e profile) (place i) ≡ Some line
  of_word : line.is (word_of i) ≡ true
  same_row : line.row (word_of i) ≡ row_of e i
  conditional : condition_code (word_of i) ≢ 15

-- both tests hold
both : (a b : Bool) → a ≡ true → b ≡ true → (a && b) ≡ true
both true b p q = q
both false b p q = cc

on_line : (e : Endian) (profile : Profile) (i : Insn) → IsOfProfile profile i → IsOn e profile i
unfolding table
on_line e profile (Computing x) f = record {
  line = record { is = rows.is_computing; row = rows.computing };
  at = refl;
  of_word = x.row.1;
  same_row = refl;
  conditional = x.row.0;
}
on_line e profile (Multiply x) f = record {
  line = record { is = rows.is_multiply; row = rows.multiply (rows.is_fifth profile) };
  at = refl;
  of_word = x.row.1;
  same_row = ap (λ k. rows.multiply k x.word) (sym f);
  conditional = x.row.0;
}
on_line e profile (MultiplyLong x) f = record {
  line = record { is = rows.is_multiply_long; row = rows.multiply_long (rows.is_fifth profile) };
  at = refl;
  of_word = x.row.1;
  same_row = ap (λ k. rows.multiply_long k x.word) (sym f);
  conditional = x.row.0;
}
on_line e profile (Swap x) f = record {
  line = record { is = rows.is_swap; row = rows.swap e };
  at = refl;
  of_word = x.row.1;
  same_row = refl;
  conditional = x.row.0;
}
on_line e profile (Transfer x) f = record {
  line = record { is = rows.is_transfer; row = rows.single_transfer e };
  at = refl;
  of_word = x.row.1;
  same_row = refl;
  conditional = x.row.0;
}
on_line e profile (Halfword x) f = record {
  line = record { is = rows.is_halfword; row = rows.halfword e };
  at = refl;
  of_word = x.row.1;
  same_row = refl;
  conditional = x.row.0;
}
on_line e profile (Block x) f = record {
  line = record { is = rows.is_block; row = rows.block e };
  at = refl;
  of_word = x.row.1;
  same_row = refl;
  conditional = x.row.0;
}
on_line e profile (Branch x) f = record {
  line = record { is = rows.is_branch; row = rows.branch };
  at = refl;
  of_word = x.row.1;
  same_row = refl;
  conditional = x.row.0;
}
on_line e profile (SoftwareInterrupt x) f = record {
  line = record { is = rows.is_software_interrupt; row = rows.software_interrupt };
  at = refl;
  of_word = x.row.1;
  same_row = refl;
  conditional = x.row.0;
}
on_line e profile (Exchange x) f = record {
  line = record { is = λ w. rows.has_exchange profile && rows.is_exchange w; row = rows.exchange };
  at = refl;
  of_word = both _ _ f x.row.1;
  same_row = refl;
  conditional = x.row.0;
}
on_line e profile (Count x) f = record {
  line = record { is = λ w. rows.is_fifth profile && rows.is_count w; row = rows.count };
  at = refl;
  of_word = both _ _ f x.row.1;
  same_row = refl;
  conditional = x.row.0;
}

truth : (b : Bool) → (b ≡ true) ⊎ (b ≡ false)
truth true = inl refl
truth false = inr refl

-- no word is of two lines
record One (is : List Instruction) (w : ℕ) : Type 0 where
  same : (i j : ℕ) (a b : Instruction) → slice_get is i ≡ Some a → slice_get is j ≡ Some b → a.is w ≡ true → b.is w ≡ true → i ≡ j

behind : (x : Instruction) (xs : List Instruction) (w : ℕ) → One (x ∷ xs) w → One xs w
behind x xs w one = record { same = λ i j a b p q r s. let e = one.same (suc i) (suc j) a b p q r s in cc }

-- the row of a word is that of its line
row_at : (is : List Instruction) (w k : ℕ) (a : Instruction) → One is w → slice_get is k ≡ Some a → a.is w ≡ true → row_in is w ≡ Some (a.row w)
row_at [] w k a one at h = cc
row_at (x ∷ xs) w zero a one at h =
    let e : x ≡ a = cc in let t : x.is w ≡ true = ap (λ y. y.is w) e ∙ h in rw t (ap (λ y. Some (y.row w)) e)
row_at (x ∷ xs) w (suc k) a one at h =
    elim (truth (x.is w)) [
      | inl t ↦ let e : zero ≡ suc k = one.same zero (suc k) x a refl at t h in cc
      | inr f ↦ rw f (row_at xs w k a (behind x xs w one) at h)
    ]

has_row : (e : Endian) (profile : Profile) (i : Insn) → IsOfProfile profile i → arm_row e profile (word_of i) ≡ Some (row_of e i)
unfolding arm_row
has_row e profile i f =
    let o = on_line e profile i f in
    rw (ne_eqb (condition_code (word_of i)) 15 o.conditional)
    (row_at (table e profile) (word_of i) (place i) o.line (record { same = one_row e profile (word_of i) }) o.at o.of_word ∙ ap Some o.same_row)

-- what the answer by classes says of a word
abbrev pub Answers : Profile → ℕ → Option Insn → Type 0
Answers profile w r = MatchOption r ((e : Endian) → arm_row e profile w ≡ None) (λ i. (word_of i ≡ w) × IsOfProfile profile i)

-- what `decode` ensures, from the answer by classes
pub row_is : (profile : Profile) (w : ℕ) (r : Option Insn) → Answers profile w r → (e : Endian) → option_map (row_of e) r ≡ arm_row e profile w
row_is profile w None h e = sym (h e)
row_is profile w (Some i) h e = sym (has_row e profile i h.1) ∙ ap (arm_row e profile) h.0

pub word_is : (profile : Profile) (w : ℕ) (r : Option Insn) → Answers profile w r → IfSome r (λ i. word_of i ≡ w)
word_is profile w None h = tt
word_is profile w (Some i) h = h.0

pub profile_is : (profile : Profile) (w : ℕ) (r : Option Insn) → Answers profile w r → IfSome r (IsOfProfile profile)
profile_is profile w None h = tt
profile_is profile w (Some i) h = h.1

-- what is made of a number and a fact of it is the same for the same number
same_made : {A : Type 0} (P : ℕ → Type 0) (make : (n : ℕ) → P n → A) → ((n : ℕ) → IsProp (P n)) → (n m : ℕ) → n ≡ m → (p : P n) (q : P m) → make n p ≡ make m q
same_made P make prop n m e = subst (λ k. (p : P n) (q : P k) → make n p ≡ make k q) e (λ p q. ap (make n) (prop n p q))

-- instructions of one line with one word
-- what the word of an instruction of a line is
abbrev Lined : (ℕ → Bool) → ℕ → Type 0
Lined is n = (condition_code n ≢ 15) × (is n ≡ true)

lined_prop : (is : ℕ → Bool) (n : ℕ) → IsProp (Lined is n)
lined_prop is n = hlevel props

same_insn : (profile : Profile) (i j : Insn) → IsOfProfile profile i → IsOfProfile profile j → place i ≡ place j → word_of i ≡ word_of j → i ≡ j
same_insn profile (Computing x) (Computing y) f g p h =
    ap Computing (same_made (Lined rows.is_computing) (λ n r. let a : computing.Computing = record { word = n; row = r }
    in a) (lined_prop rows.is_computing) x.word y.word h x.row y.row)
same_insn profile (Multiply x) (Multiply y) f g p h =
    let made : Bool → (n : ℕ) → Lined rows.is_multiply n → multiply.Multiply = λ k n r. record { word = n; keeps = k; row = r } in
    ap Multiply (same_made (Lined rows.is_multiply) (made x.keeps) (lined_prop rows.is_multiply) x.word y.word h x.row y.row
    ∙ ap (λ k. made k y.word y.row) (f ∙ sym g))
same_insn profile (MultiplyLong x) (MultiplyLong y) f g p h =
    let made : Bool → (n : ℕ) → Lined rows.is_multiply_long n → multiply_long.MultiplyLong = λ k n r. record { word = n; keeps = k; row = r } in
    ap MultiplyLong (same_made (Lined rows.is_multiply_long) (made x.keeps) (lined_prop rows.is_multiply_long) x.word y.word h x.row y.row
    ∙ ap (λ k. made k y.word y.row) (f ∙ sym g))
same_insn profile (Swap x) (Swap y) f g p h =
    ap Swap (same_made (Lined rows.is_swap) (λ n r. let a : swap.Swap = record { word = n; row = r }
    in a) (lined_prop rows.is_swap) x.word y.word h x.row y.row)
same_insn profile (Transfer x) (Transfer y) f g p h =
    ap Transfer (same_made (Lined rows.is_transfer) (λ n r. let a : transfer.Transfer = record { word = n; row = r }
    in a) (lined_prop rows.is_transfer) x.word y.word h x.row y.row)
same_insn profile (Halfword x) (Halfword y) f g p h =
    ap Halfword (same_made (Lined rows.is_halfword) (λ n r. let a : halfword.Halfword = record { word = n; row = r }
    in a) (lined_prop rows.is_halfword) x.word y.word h x.row y.row)
same_insn profile (Block x) (Block y) f g p h =
    ap Block (same_made (Lined rows.is_block) (λ n r. let a : block.Block = record { word = n; row = r }
    in a) (lined_prop rows.is_block) x.word y.word h x.row y.row)
same_insn profile (Branch x) (Branch y) f g p h =
    ap Branch (same_made (Lined rows.is_branch) (λ n r. let a : branch.Branch = record { word = n; row = r }
    in a) (lined_prop rows.is_branch) x.word y.word h x.row y.row)
same_insn profile (SoftwareInterrupt x) (SoftwareInterrupt y) f g p h =
    ap SoftwareInterrupt (same_made (Lined rows.is_software_interrupt)
    (λ n r. let a : interrupt.SoftwareInterrupt = record { word = n; row = r } in a) (lined_prop rows.is_software_interrupt) x.word y.word h x.row y.row)
same_insn profile (Exchange x) (Exchange y) f g p h =
    ap Exchange (same_made (Lined rows.is_exchange) (λ n r. let a : exchange.Exchange = record { word = n; row = r }
    in a) (lined_prop rows.is_exchange) x.word y.word h x.row y.row)
same_insn profile (Count x) (Count y) f g p h =
    ap Count (same_made (Lined rows.is_count) (λ n r. let a : count.Count = record { word = n; row = r }
    in a) (lined_prop rows.is_count) x.word y.word h x.row y.row)
same_insn profile (Computing x) j f g p h = cc
same_insn profile (Multiply x) j f g p h = cc
same_insn profile (MultiplyLong x) j f g p h = cc
same_insn profile (Swap x) j f g p h = cc
same_insn profile (Transfer x) j f g p h = cc
same_insn profile (Halfword x) j f g p h = cc
same_insn profile (Block x) j f g p h = cc
same_insn profile (Branch x) j f g p h = cc
same_insn profile (SoftwareInterrupt x) j f g p h = cc
same_insn profile (Exchange x) j f g p h = cc
same_insn profile (Count x) j f g p h = cc

one_insn : (profile : Profile) (i j : Insn) → IsOfProfile profile i → IsOfProfile profile j → word_of i ≡ word_of j → i ≡ j
one_insn profile i j f g h =
    let a = on_line Little profile i f in
    let b = on_line Little profile j g in
    same_insn profile i j f g (one_row Little profile (word_of i) (place i) (place j) a.line b.line a.at b.at a.of_word (ap b.line.is h ∙ b.of_word)) h

pub only_is : (profile : Profile) (w : ℕ) (r : Option Insn) → Answers profile w r → (i : Insn) → word_of i ≡ w → IsOfProfile profile i → r ≡ Some i
only_is profile w None h i k f =
    let e = has_row Little profile i f in let n = h Little in
    let g : arm_row Little profile (word_of i) ≡ arm_row Little profile w = ap (arm_row Little profile) k in cc
only_is profile w (Some j) h i k f = ap Some (one_insn profile j i h.1 f (h.0 ∙ sym k))
