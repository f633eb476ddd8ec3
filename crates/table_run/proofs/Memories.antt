-- Memories that have the bytes of a file and of a start.
use Rattle.std.proofs.Common.{◌≡◌, ℕ, zero, suc, ◌+◌, ◌-◌, ◌≤◌, ◌<◌, ◌^◌, List, [], ◌∷◌, length, get_or, true, false, Some, None, refl, sym, ap, ◌∙◌, arith, inl, inr, ne_eqb, eq-eqb}
use Rattle.std.specs.Prelude.{Option, ◌==◌, nat_lt, if◌then◌else◌}
use Rattle.std.specs.List.{All}
use Rattle.std.proofs.lemmas.Bool.{cases_lt, cases_eq}
use Rattle.std.proofs.lemmas.Bool.Decides.{nat_tests}
use Rattle.std.proofs.lemmas.List.{get_or_default, get_or_past}
use Rattle.std.proofs.Math.Nat.{eq-or-lt_of_le}
use Rattle.word_spec.specs.Words.{word, sub}
use Rattle.word_spec.specs.Memory.{Little, store, byte_of, byte_in, memory_of}
use Rattle.bilv_spec.specs.Elf.{loaded}
use Rattle.bilv_spec.specs.Points.{byte_of_cell}
use Rattle.bilv_spec.specs.Notes.{FixedRange}
use Rattle.machine_spec.specs.StateText.{AreRising, known_or}
use Rattle.byte_mem.proofs.Spans.{byte_none}
use Rattle.elf32_reader.specs.declared.parts.Part.{Part}
use Rattle.known_bytes.specs.Known.{is_known, given, IsFirstKnown}
use Rattle.table_run.specs.Known.{IsPut, HasFirst, HasByte, Fills, FillsTo, HasGiven}

-- a store of one byte
pub put_of : (old new : List (ℕ × ℕ)) (a value bits : ℕ) → a < 2 ^ 32 → value < 256 → bits ≡ value → memory_of new ≡ store Little 1 (memory_of old) a bits →
    IsPut old a value new
put_of old new a value bits low small is e = record {
  here =
      let at : sub 32 a a ≡ 0 = omega arith in
      let bottom : byte_of Little 1 bits 0 ≡ value = omega arith in
      ap (λ (f : ℕ → ℕ). f a) e ∙ ap (λ n. if nat_lt n 1 then byte_of Little 1 bits n else memory_of old a) at ∙ bottom;
  other = λ x below ne.
      let away : nat_lt (sub 32 x a) 1 ≡ false = grind (arith, nat_tests) in
      ap (λ (f : ℕ → ℕ). f x) e ∙ ap (λ b. if b then byte_of Little 1 bits (sub 32 x a) else memory_of old x) away;
}

-- one more byte of the list
pub first_more : (bytes old new : List (ℕ × ℕ)) (i : ℕ) (d : ℕ × ℕ) → AreRising bytes → i < length bytes → (get_or bytes i d).0 < 2 ^ 32
    → HasFirst bytes i old → IsPut old (get_or bytes i d).0 (get_or bytes i d).1 new → HasFirst bytes (i + 1) new
first_more bytes old new i d rising within fits has put = record {
  each = λ k e less.
      elim (eq-or-lt_of_le (let l : k ≤ i = omega arith in l)) as (λ _. memory_of new (get_or bytes k e).0 ≡ (get_or bytes k e).1) [
        | inl same ↦
            let at : get_or bytes k e ≡ get_or bytes i d = rw same (get_or_default bytes i e d within) in
            rw at put.here
        | inr before ↦
            let up = rising k i e before within in
            let there = ap (λ (x : ℕ × ℕ). x.0) (get_or_default bytes i e d within) in
            put.other (get_or bytes k e).0 (omega arith) (λ is. absurd (omega arith)) ∙ has.each k e before
      ];
  none = λ x below away.
      put.other x below (λ is. away i d (omega arith) (sym is)) ∙ has.none x below (λ k e less. away k e (omega arith));
}

-- a memory that agrees with the list at each of its addresses, and is 0 elsewhere
agrees : (mem : ℕ → ℕ) (bytes : List (ℕ × ℕ)) (x : ℕ) → ((k : ℕ) (d : ℕ × ℕ) → k < length bytes → mem (get_or bytes k d).0 ≡ (get_or bytes k d).1)
    → (((k : ℕ) (d : ℕ × ℕ) → k < length bytes → ¬ ((get_or bytes k d).0 ≡ x)) → mem x ≡ 0) → mem x ≡ byte_in bytes x
agrees mem [] x each none = none (λ k d w. absurd (omega arith))
agrees mem (b ∷ bytes) x each none =
    elim (cases_eq x b.0) as (λ _. mem x ≡ byte_in (b ∷ bytes) x) [
      | inl is ↦
          let t : (x == b.0) ≡ true = eq-eqb x b.0 is in
          rw t (ap mem is ∙ each 0 b (omega arith))
      | inr ne ↦
          let f : (x == b.0) ≡ false = ne_eqb x b.0 ne in
          rw f (agrees mem bytes x (λ k d w. each (suc k) d (omega arith))
          (λ away. none (first_apart ne away)))
    ]
  where
    first_apart : (x ≡ b.0 → ⊥) → ((k : ℕ) (d : ℕ × ℕ) → k < length bytes → ¬ ((get_or bytes k d).0 ≡ x)) →
        (k : ℕ) (d : ℕ × ℕ) → k < length (b ∷ bytes) → ¬ ((get_or (b ∷ bytes) k d).0 ≡ x)
    first_apart ne away zero d w is = ne (sym is)
    first_apart ne away (suc k) d w is = away k d (omega arith) is

same_word : (x : ℕ) → x < 2 ^ 32 → word 32 x ≡ x
same_word x below = omega arith

pub has_all : (bytes entries : List (ℕ × ℕ)) (x : ℕ) → x < 2 ^ 32 → HasFirst bytes (length bytes) entries → memory_of entries x ≡ memory_of bytes x
has_all bytes entries x below has = agrees (memory_of entries) bytes x has.each (has.none x below) ∙ ap (byte_in bytes) (sym (same_word x below))

-- all of a part's own bytes were stored
pub filled : (part : Part) (count : ℕ) (old new : List (ℕ × ℕ)) → part.first ≤ part.last → part.last < 2 ^ 32 → count ≤ part.last - part.first + 1
    → (count < part.last - part.first + 1 → length part.bytes.now ≤ count) → FillsTo part count old new → Fills part old new
filled part count old new some top few rest fills = record {
  within = λ x low high none.
      elim (cases_lt x (part.first + count)) as (λ _. HasByte (memory_of new) part x) [
        | inl less ↦ fills.within x low less
        | inr more ↦
            let short = rest (omega arith) in
            fills.without x (omega arith) (inr more) ∙ none ∙ sym (get_or_past part.bytes.now (x - part.first) 0 (omega arith))
      ];
  without = λ x below out. fills.without x below (elim out [ inl l ↦ inl l | inr l ↦ inr (omega arith) ]);
}

given_known : (file : List ℕ) (ranges : List FixedRange) (bytes : List (ℕ × ℕ)) (x : ℕ) → is_known file ranges x ≡ false →
    known_or (given file ranges x) bytes x ≡ memory_of bytes x
given_known file ranges bytes x h = rw h refl

-- a known address has no byte in the list
pub none_given : (file : List ℕ) (ranges : List FixedRange) (bytes : List (ℕ × ℕ)) (x : ℕ) → x < 2 ^ 32 → All (λ b. is_known file ranges b.0 ≡ false) bytes
    → is_known file ranges x ≡ true → memory_of bytes x ≡ 0
none_given file ranges bytes x below unknown known =
    ap (byte_in bytes) (same_word x below)
    ∙ byte_none bytes x (λ k d w is. let no = unknown k d w in let at = ap (is_known file ranges) is in absurd (cc (no, at, known)))

-- the memory once a known part is filled
pub given_more : (file : List ℕ) (ranges : List FixedRange) (bytes : List (ℕ × ℕ)) (at : ℕ) (part : Part) (old new : List (ℕ × ℕ))
    → All (λ b. is_known file ranges b.0 ≡ false) bytes → IsFirstKnown file ranges at part → HasGiven file ranges bytes at old → Fills part old new
    → HasGiven file ranges bytes (part.last + 1) new
given_more file ranges bytes at part old new unknown first has fills =
    let behind : at ≤ part.first = first.behind in
    let some : part.first ≤ part.last = first.some in
    record {
      before = λ x below less.
          elim (cases_lt x part.first) as (λ _. memory_of new x ≡ known_or (given file ranges x) bytes x) [
            | inl low ↦ fills.without x below (inl low) ∙ elim (cases_lt x at) as (λ _. memory_of old x ≡ known_or (given file ranges x) bytes x) [
              | inl l ↦ has.before x below l
              | inr r ↦ has.behind x below r ∙ sym (given_known file ranges bytes x (first.gap x r low))
            ]
            | inr high ↦
                let known = first.known x high (omega arith) in
                fills.within x high (omega arith) (has.behind x below (omega arith) ∙ none_given file ranges bytes x below unknown known)
                ∙ sym (first.bytes x high (omega arith))
                ∙ sym (ap (λ b. known_or (if b then Some (byte_of_cell (loaded file x)) else None) bytes x) known)
          ];
      behind = λ x below more. fills.without x below (inr (omega arith)) ∙ has.behind x below (omega arith);
    }

same_known : (known : Option ℕ) (bytes : List (ℕ × ℕ)) (x : ℕ) → word 32 x < 2 ^ 32 → known_or known bytes (word 32 x) ≡ known_or known bytes x
same_known None bytes x low = ap (byte_in bytes) (same_word (word 32 x) low)
same_known (Some b) bytes x low = refl

-- a memory that has all bytes has them at wrapped addresses
pub given_all : (file : List ℕ) (ranges : List FixedRange) (bytes entries : List (ℕ × ℕ)) →
    ((x : ℕ) → x < 2 ^ 32 → memory_of entries x ≡ known_or (given file ranges x) bytes x)
    → (x : ℕ) → memory_of entries x ≡ known_or (given file ranges (word 32 x)) bytes x
given_all file ranges bytes entries h x =
    let low : word 32 x < 2 ^ 32 = omega arith in
    ap (byte_in entries) (sym (same_word (word 32 x) low)) ∙ h (word 32 x) low ∙ same_known (given file ranges (word 32 x)) bytes x low
