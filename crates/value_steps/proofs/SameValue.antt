-- What is shown of an expression has its value.
use Rattle.std.proofs.Common.{◌≡◌, ℕ, Bool, true, false, List, [], ◌∷◌, refl, sym, ap, subst, ◌∙◌, map, ◌⊎◌, inl, inr, arith}
use Rattle.std.specs.Prelude.{◌==◌, ◌&&◌, not}
use Rattle.std.proofs.lemmas.Bool.Decides.{nat_tests}
use Rattle.word_spec.specs.Words.{bit}
use Rattle.word_spec.specs.Memory.{Endian, load}
use Rattle.word_spec.specs.State.{State}
use Rattle.bilv_spec.specs.Notes as notes
use Rattle.bilv_spec.specs.Notes.{Op, Each, Expr, Number, Register, Flag, Pc, Bound, Memory, Old, Not, Binary, apply, each, is_true, put_bound, value, values, written_out}
use Rattle.notes_value.specs.Views.{expr_of, op_of}
use Rattle.notes_value.specs.declared.expressions.Operator.{Operator}
use Rattle.notes_value.specs.declared.expressions.Operator.TheVariants as operator
use Rattle.notes_value.specs.declared.expressions.Expr as code
use Rattle.notes_value.specs.declared.expressions.Expr.TheVariants as expr
use Rattle.notes_value.proofs.WrittenOut.{put_written, put_zero}
use Rattle.trace_texts_spec.specs.ValueLines.{first_false, shown, shown_binary}

-- the value is 1 or 0
abbrev pub IsBitly : Endian → Expr → Type 0
IsBitly o e = (now entry : State) → bit (is_true (value o e now entry)) ≡ value o e now entry

-- the rest of each `all` is 1 or 0
abbrev pub IsChained : Endian → Expr → Type 0
IsChained o (Number n) = Unit {0}
IsChained o (Register r) = Unit {0}
IsChained o (Flag f) = Unit {0}
IsChained o Pc = Unit {0}
IsChained o Bound = Unit {0}
IsChained o (Memory n a) = IsChained o a
IsChained o (Old a) = IsChained o a
IsChained o (Not a) = IsChained o a
IsChained o (Binary op a b) = IsChained o a × IsChained o b × (op ≡ Each → IsBitly o b)

-- an operator joins the instances of an `all`, or stays
splits : (op : Op) → (op ≡ Each) ⊎ ((o : Endian) (now entry : State) (a b : Expr) → shown_binary o now entry op a b ≡ Binary op a b)
splits notes.Or = inr (λ o now entry a b. refl)
splits notes.And = inr (λ o now entry a b. refl)
splits notes.Equal = inr (λ o now entry a b. refl)
splits notes.NotEqual = inr (λ o now entry a b. refl)
splits notes.Below = inr (λ o now entry a b. refl)
splits notes.AtMost = inr (λ o now entry a b. refl)
splits notes.Above = inr (λ o now entry a b. refl)
splits notes.AtLeast = inr (λ o now entry a b. refl)
splits notes.SignedBelow = inr (λ o now entry a b. refl)
splits notes.SignedAtMost = inr (λ o now entry a b. refl)
splits notes.SignedAbove = inr (λ o now entry a b. refl)
splits notes.SignedAtLeast = inr (λ o now entry a b. refl)
splits notes.BitOr = inr (λ o now entry a b. refl)
splits notes.BitXor = inr (λ o now entry a b. refl)
splits notes.BitAnd = inr (λ o now entry a b. refl)
splits notes.ShiftLeft = inr (λ o now entry a b. refl)
splits notes.ShiftRight = inr (λ o now entry a b. refl)
splits notes.ShiftSigned = inr (λ o now entry a b. refl)
splits notes.Plus = inr (λ o now entry a b. refl)
splits notes.Minus = inr (λ o now entry a b. refl)
splits notes.Times = inr (λ o now entry a b. refl)
splits notes.Each = inl refl

false_is_zero : (n : ℕ) → is_true n ≡ false → n ≡ 0
false_is_zero n e = by (n == 0) refl e
  where
    by : (b : Bool) → (n == 0) ≡ b → not b ≡ false → n ≡ 0
    by true z h = grind (arith, nat_tests)
    by false z h = absurd (let b : ⊥ = cc in b)

-- one instance in front of the others
each_value : (o : Endian) (now entry : State) (a b x y : Expr) → value o x now entry ≡ value o a now entry → value o y now entry ≡ value o b now entry →
    IsBitly o b → value o (first_false (is_true (value o x now entry)) x y) now entry ≡ apply Each (value o a now entry) (value o b now entry)
each_value o now entry a b x y left right is_bit = by (is_true (value o x now entry)) refl
  where
    by : (t : Bool) → is_true (value o x now entry) ≡ t →
        value o (first_false t x y) now entry ≡ apply Each (value o a now entry) (value o b now entry)
    by true e =
        right ∙ sym (is_bit now entry)
        ∙ sym (ap (λ z. bit (z && is_true (value o b now entry))) (ap is_true (sym left) ∙ e))
    by false e =
        false_is_zero (value o x now entry) e
        ∙ sym (ap (λ z. bit (z && is_true (value o b now entry))) (ap is_true (sym left) ∙ e))

pub same_value : (o : Endian) (e : Expr) → IsChained o e → (now entry : State) → value o (shown o now entry e) now entry ≡ value o e now entry
same_value o (Number n) h now entry = refl
same_value o (Register r) h now entry = refl
same_value o (Flag f) h now entry = refl
same_value o Pc h now entry = refl
same_value o Bound h now entry = refl
same_value o (Memory n a) h now entry = ap (load o n now.mem) (same_value o a h now entry)
same_value o (Old a) h now entry = same_value o a h entry entry
same_value o (Not a) h now entry = ap (λ z. bit (not (is_true z))) (same_value o a h now entry)
same_value o (Binary op a b) h now entry =
    elim (splits op) as (λ _. value o (shown_binary o now entry op (shown o now entry a) (shown o now entry b)) now entry
    ≡ apply op (value o a now entry) (value o b now entry)) [
      | inl is ↦ subst (λ op. value o (shown_binary o now entry op (shown o now entry a) (shown o now entry b)) now entry
          ≡ apply op (value o a now entry) (value o b now entry)) (sym is)
          (each_value o now entry a b (shown o now entry a) (shown o now entry b) (same_value o a h.0 now entry) (same_value o b h.1 now entry) (h.2 is))
      | inr stays ↦ ap (λ x. value o x now entry) (stays o now entry (shown o now entry a) (shown o now entry b))
          ∙ ap (λ z. apply op z (value o (shown o now entry b) now entry)) (same_value o a h.0 now entry)
          ∙ ap (λ z. apply op (value o a now entry) z) (same_value o b h.1 now entry)
    ]

bit_of_bit : (b : Bool) → bit (is_true (bit b)) ≡ bit b
bit_of_bit true = refl
bit_of_bit false = refl

each_is_bit : (o : Endian) (e : Expr) (vs : List ℕ) → IsBitly o (each (map (λ v. put_bound v e) vs))
each_is_bit o e [] now entry = refl
each_is_bit o e (v ∷ vs) now entry = bit_of_bit _

each_chained : (o : Endian) (e : Expr) (vs : List ℕ) → ((v : ℕ) → IsChained o (put_bound v e)) → IsChained o (each (map (λ v. put_bound v e) vs))
each_chained o e [] h = tt
each_chained o e (v ∷ vs) h = (h v, each_chained o e vs h, λ is. each_is_bit o e vs)

not_each : (op : Operator) → op_of op ≡ Each → ⊥
not_each operator.Or e = let b : ⊥ = cc in b
not_each operator.And e = let b : ⊥ = cc in b
not_each operator.Equal e = let b : ⊥ = cc in b
not_each operator.NotEqual e = let b : ⊥ = cc in b
not_each operator.Below e = let b : ⊥ = cc in b
not_each operator.AtMost e = let b : ⊥ = cc in b
not_each operator.Above e = let b : ⊥ = cc in b
not_each operator.AtLeast e = let b : ⊥ = cc in b
not_each operator.SignedBelow e = let b : ⊥ = cc in b
not_each operator.SignedAtMost e = let b : ⊥ = cc in b
not_each operator.SignedAbove e = let b : ⊥ = cc in b
not_each operator.SignedAtLeast e = let b : ⊥ = cc in b
not_each operator.BitOr e = let b : ⊥ = cc in b
not_each operator.BitXor e = let b : ⊥ = cc in b
not_each operator.BitAnd e = let b : ⊥ = cc in b
not_each operator.ShiftLeft e = let b : ⊥ = cc in b
not_each operator.ShiftRight e = let b : ⊥ = cc in b
not_each operator.ShiftSigned e = let b : ⊥ = cc in b
not_each operator.Plus e = let b : ⊥ = cc in b
not_each operator.Minus e = let b : ⊥ = cc in b
not_each operator.Times e = let b : ⊥ = cc in b

-- an expression of the code, with a number in place of its bound name
pub chained : (o : Endian) (v : ℕ) (e : code.Expr) → IsChained o (put_bound v (expr_of e))
chained o v (expr.Number n) = tt
chained o v (expr.Register r) = tt
chained o v (expr.Flag f) = tt
chained o v expr.Pc = tt
chained o v expr.Bound = tt
chained o v (expr.Memory' n p a) = chained o v a
chained o v (expr.Old' p a) = chained o v a
chained o v (expr.Not' p a) = chained o v a
chained o v (expr.Binary' op p a q b) = (chained o v a, chained o v b, λ is. absurd (not_each op is))
chained o v (expr.All' low high p a) =
    subst (IsChained o) (sym (put_written v low high (expr_of a))) (each_chained o (expr_of a) (values low high) (λ u. chained o u a))

-- what is shown of an expression of the code has its value
pub shown_value : (o : Endian) (e : code.Expr) (x : Expr) (now entry : State) → x ≡ shown o now entry (put_bound 0 (expr_of e)) →
    value o x now entry ≡ value o (expr_of e) now entry
shown_value o e x now entry is =
    ap (λ z. value o z now entry) is ∙ same_value o (put_bound 0 (expr_of e)) (chained o 0 e) now entry ∙ put_zero o (expr_of e) now entry
