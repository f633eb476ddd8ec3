-- The texts of expressions, piece by piece.
use Rattle.std.proofs.Common.{◌≡◌, ℕ, ◌+◌, refl, sym, ap, ◌∙◌, Bool, List, [], ◌∷◌, ◌++◌, append_assoc, codes}
use Rattle.std.proofs.lemmas.List.{append-nil}
use Rattle.std.specs.Prelude.{nat_le}
use Rattle.word_spec.specs.Memory.{Endian}
use Rattle.word_spec.specs.State.{State}
use Rattle.word_spec.specs.Texts.{line}
use Rattle.machine_spec.specs.BilText.{bracketed}
use Rattle.bilv_spec.specs.Notes.{Expr, Number, Register, Flag, Pc, Bound, Memory, Old, Not, Binary, put_bound, written_out}
use Rattle.trace_texts_spec.specs.Names.{Names}
use Rattle.trace_texts_spec.specs.NoteTexts.{binary_text, left_level, level_of, load_text, text_at}
use Rattle.trace_texts_spec.specs.ValueLines.{operands, part_lines, parts, value_line, within}
use Rattle.notes_value.specs.Views.{op_of}
use Rattle.notes_value.proofs.WrittenOut.{put_written}
use Rattle.notes_value.specs.declared.expressions.Operator.{Operator}
use Rattle.notes_value.specs.declared.expressions.Operator.TheVariants as operator

-- outside an `all` a bound name counts as 0
pub text_zero : (n : Names) (level : ℕ) (e : Expr) → text_at n level (put_bound 0 e) ≡ text_at n level e
text_zero n level (Number v) = refl
text_zero n level (Register r) = refl
text_zero n level (Flag f) = refl
text_zero n level Pc = refl
text_zero n level Bound = refl
text_zero n level (Memory k a) = ap (λ t. load_text k ++ t ++ codes "]") (text_zero n 1 a)
text_zero n level (Old a) = ap (λ t. codes "old(" ++ t ++ codes ")") (text_zero n 1 a)
text_zero n level (Not a) = ap (λ t. bracketed (nat_le level 3) (codes "not " ++ t)) (text_zero n 3 a)
text_zero n level (Binary op a b) =
    ap (λ t. binary_text level op t (text_at n (level_of op + 1) (put_bound 0 b))) (text_zero n (left_level op) a)
    ∙ ap (λ t. binary_text level op (text_at n (left_level op) a) t) (text_zero n (level_of op + 1) b)

-- the pieces of an `all`
pub all_text : (n : Names) (level bound low high : ℕ) (a : Expr) (out first second third : List ℕ) → first ≡ out ++ codes "all(" →
    second ≡ first ++ text_at n 1 (put_bound low a) → third ≡ second ++ codes ", ..)" →
    third ≡ out ++ text_at n level (put_bound bound (written_out low high a))
all_text n level bound low high a out first second third one two three =
    three ∙ ap (λ z. z ++ codes ", ..)") two ∙ ap (λ z. (z ++ text_at n 1 (put_bound low a)) ++ codes ", ..)") one
    ∙ append_assoc (out ++ codes "all(") (text_at n 1 (put_bound low a)) (codes ", ..)")
    ∙ append_assoc out (codes "all(") (text_at n 1 (put_bound low a) ++ codes ", ..)")
    ∙ ap (λ z. out ++ text_at n level z) (sym (put_written bound low high a))

-- an operator of the code is no `all`
pub plain_operands : (op : Operator) (inner : List Expr) → operands (op_of op) inner ≡ inner
plain_operands operator.Or inner = refl
plain_operands operator.And inner = refl
plain_operands operator.Equal inner = refl
plain_operands operator.NotEqual inner = refl
plain_operands operator.Below inner = refl
plain_operands operator.AtMost inner = refl
plain_operands operator.Above inner = refl
plain_operands operator.AtLeast inner = refl
plain_operands operator.SignedBelow inner = refl
plain_operands operator.SignedAtMost inner = refl
plain_operands operator.SignedAbove inner = refl
plain_operands operator.SignedAtLeast inner = refl
plain_operands operator.BitOr inner = refl
plain_operands operator.BitXor inner = refl
plain_operands operator.BitAnd inner = refl
plain_operands operator.ShiftLeft inner = refl
plain_operands operator.ShiftRight inner = refl
plain_operands operator.ShiftSigned inner = refl
plain_operands operator.Plus inner = refl
plain_operands operator.Minus inner = refl
plain_operands operator.Times inner = refl

-- the lines of parts behind others
pub parts_append : (n : Names) (e : Endian) (now entry : State) (xs ys : List Expr) →
    part_lines n e now entry (xs ++ ys) ≡ part_lines n e now entry xs ++ part_lines n e now entry ys
parts_append n e now entry [] ys = refl
parts_append n e now entry (x ∷ xs) ys =
    ap (λ l. line (value_line n e now entry x) ++ l) (parts_append n e now entry xs ys)
    ∙ sym (append_assoc (line (value_line n e now entry x)) (part_lines n e now entry xs) (part_lines n e now entry ys))

-- the lines of an operation and of its operands
pub binary_parts : (n : Names) (e : Endian) (now entry : State) (o : Bool) (op : Operator) (a b : Expr) (out first second third : List ℕ) →
    first ≡ out ++ line (value_line n e now entry (within o (Binary (op_of op) a b))) → second ≡ first ++ part_lines n e now entry (parts o a) →
    third ≡ second ++ part_lines n e now entry (parts o b) →
    third ≡ out ++ part_lines n e now entry (parts o (Binary (op_of op) a b))
binary_parts n e now entry o op a b out first second third one two three =
    let x : Expr = within o (Binary (op_of op) a b) in
    three ∙ ap (λ z. z ++ part_lines n e now entry (parts o b)) two
    ∙ append_assoc first (part_lines n e now entry (parts o a)) (part_lines n e now entry (parts o b))
    ∙ ap (λ z. first ++ z) (sym (parts_append n e now entry (parts o a) (parts o b)))
    ∙ ap (λ z. z ++ part_lines n e now entry (parts o a ++ parts o b)) one
    ∙ append_assoc out (line (value_line n e now entry x)) (part_lines n e now entry (parts o a ++ parts o b))
    ∙ ap (λ z. out ++ part_lines n e now entry (x ∷ z)) (sym (plain_operands op (parts o a ++ parts o b)))

-- one piece behind another
behind : (out a b first second : List ℕ) → first ≡ out ++ a → second ≡ first ++ b → second ≡ out ++ (a ++ b)
behind out a b first second one two = two ∙ ap (λ z. z ++ b) one ∙ append_assoc out a b

-- the pieces of a part's line
pub value_pieces : (out w t first second third fourth fifth : List ℕ) → first ≡ out ++ codes "value " → second ≡ first ++ w → third ≡ second ++ codes " " →
    fourth ≡ third ++ t → fifth ≡ fourth ++ codes "\n" → fifth ≡ out ++ line (codes "value " ++ w ++ codes " " ++ t)
value_pieces out w t first second third fourth fifth one two three four five =
    behind out (codes "value " ++ w ++ codes " " ++ t) (codes "\n") fourth fifth
    (behind out (codes "value " ++ w ++ codes " ") t third fourth
    (behind out (codes "value " ++ w) (codes " ") second third (behind out (codes "value ") w first second one two) three) four) five

-- a part without parts of its own
pub one_line : (n : Names) (e : Endian) (now entry : State) (o : Bool) (x : Expr) (out new : List ℕ) → within o x ∷ [] ≡ parts o x →
    new ≡ out ++ line (value_line n e now entry (within o x)) → new ≡ out ++ part_lines n e now entry (parts o x)
one_line n e now entry o x out new alone is =
    is ∙ ap (λ z. out ++ z) (sym (append-nil (line (value_line n e now entry (within o x))))) ∙ ap (λ z. out ++ part_lines n e now entry z) alone

-- a part with one of its own
pub two_lines : (n : Names) (e : Endian) (now entry : State) (o : Bool) (x a : Expr) (out first second : List ℕ) → within o x ∷ parts o a ≡ parts o x →
    first ≡ out ++ line (value_line n e now entry (within o x)) → second ≡ first ++ part_lines n e now entry (parts o a) →
    second ≡ out ++ part_lines n e now entry (parts o x)
two_lines n e now entry o x a out first second both one two =
    two ∙ ap (λ z. z ++ part_lines n e now entry (parts o a)) one
    ∙ append_assoc out (line (value_line n e now entry (within o x))) (part_lines n e now entry (parts o a))
    ∙ ap (λ z. out ++ part_lines n e now entry z) both
