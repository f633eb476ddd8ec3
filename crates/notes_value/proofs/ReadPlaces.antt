-- The addresses that an expression reads, one part after the other.
use Rattle.std.proofs.Common.{◌≡◌, ℕ, suc, ◌+◌, ◌<◌, ◌≤◌, List, [], ◌∷◌, ◌++◌, refl, sym, ap, ◌∙◌, map, append_assoc}
use Rattle.std.proofs.lemmas.List.{append-nil}
use Rattle.word_spec.specs.Words.{add, word}
use Rattle.word_spec.specs.Memory.{Endian, span}
use Rattle.word_spec.specs.State.{State}
use Rattle.bilv_spec.specs.Notes.{Expr, Number, Register, Flag, Pc, Bound, Memory, Old, Not, Binary, value, put_bound, each, written_out}
use Rattle.model_spec.specs.Reads.{expression_reads}
use Rattle.notes_value.proofs.Looped.{behind, behind_is, behind_none}
use Rattle.notes_value.proofs.WrittenOut.{put_zero}

-- one more address of a span
pub span_more : (places : List ℕ) (at n m : ℕ) → m ≡ suc n → (places ++ at ∷ []) ++ span (add 32 at 1) n ≡ places ++ span at m
span_more places at n m e = append_assoc places (at ∷ []) (span (add 32 at 1) n) ∙ ap (λ z. places ++ span at z) (sym e)

-- those of the expression for some numbers
abbrev pub tried_reads : Endian → Expr → State → State → List ℕ → List ℕ
tried_reads o e now entry vs = expression_reads o (each (map (λ v. put_bound v e) vs)) now entry

-- once the first number was tried
pub reads_begin : (o : Endian) (e : Expr) (now entry : State) (low high : ℕ) (old new : List ℕ) →
    new ≡ old ++ expression_reads o (put_bound low e) now entry →
    new ++ tried_reads o e now entry (behind high low) ≡ old ++ expression_reads o (written_out low high e) now entry
reads_begin o e now entry low high old new is =
    ap (λ z. z ++ tried_reads o e now entry (behind high low)) is
    ∙ append_assoc old (expression_reads o (put_bound low e) now entry) (tried_reads o e now entry (behind high low))

-- once one more was
pub reads_more : (o : Endian) (e : Expr) (now entry : State) (high v : ℕ) (old new all : List ℕ) → v < high →
    old ++ tried_reads o e now entry (behind high v) ≡ all → new ≡ old ++ expression_reads o (put_bound (v + 1) e) now entry →
    new ++ tried_reads o e now entry (behind high (v + 1)) ≡ all
reads_more o e now entry high v old new all lt had is =
    ap (λ z. z ++ tried_reads o e now entry (behind high (v + 1))) is
    ∙ append_assoc old (expression_reads o (put_bound (v + 1) e) now entry) (tried_reads o e now entry (behind high (v + 1)))
    ∙ sym (ap (λ z. old ++ tried_reads o e now entry z) (behind_is high v lt))
    ∙ had

-- and when none is left
pub reads_end : (o : Endian) (e : Expr) (now entry : State) (high v : ℕ) (places all : List ℕ) → high ≤ v →
    places ++ tried_reads o e now entry (behind high v) ≡ all → places ≡ all
reads_end o e now entry high v places all le had =
    sym (append-nil places) ∙ sym (ap (λ z. places ++ tried_reads o e now entry z) (behind_none high v le)) ∙ had

-- outside an `all` a bound name counts as 0
pub reads_zero : (o : Endian) (e : Expr) (now entry : State) → expression_reads o (put_bound 0 e) now entry ≡ expression_reads o e now entry
reads_zero o (Number n) now entry = refl
reads_zero o (Register r) now entry = refl
reads_zero o (Flag f) now entry = refl
reads_zero o Pc now entry = refl
reads_zero o Bound now entry = refl
reads_zero o (Memory n a) now entry =
    ap (λ z. z ++ span (word 32 (value o (put_bound 0 a) now entry)) n) (reads_zero o a now entry)
    ∙ ap (λ z. expression_reads o a now entry ++ span (word 32 z) n) (put_zero o a now entry)
reads_zero o (Old a) now entry = reads_zero o a entry entry
reads_zero o (Not a) now entry = reads_zero o a now entry
reads_zero o (Binary op a b) now entry =
    ap (λ z. z ++ expression_reads o (put_bound 0 b) now entry) (reads_zero o a now entry)
    ∙ ap (λ z. expression_reads o a now entry ++ z) (reads_zero o b now entry)
