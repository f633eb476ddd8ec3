-- Scripts of SMT-LIB 2.6 in the logic QF_ABV: what one says of values for the symbols that it declares.
-- Read are the forms that this program writes: declarations and definitions of constants, assertions, and the operators listed here.
use Rattle.std.specs.Prelude.{ℕ, ◌+◌, ◌-◌, ◌*◌, ◌^◌, Bool, true, false, ◌==◌, ◌&&◌, ◌||◌, not, nat_lt, nat_le, nat_eq, if◌then◌else◌, List, [], ◌∷◌, ◌++◌, Option, Some, None, length, codes, bit_and, bit_or, bit_xor}
use Rattle.std.specs.List.{list_all}
use Rattle.std.specs.Str.{bytes_eq}
use Rattle.std.specs.Str.Parse.{digits_value}
use Rattle.word_spec.specs.Words.{add, sub, mul, neg, complement, udiv, urem, srem, is_negative, with_sign, magnitude, differ, signed_lt, signed_le, shl, shr, sar, bits, sign_extend, concat}
use Rattle.word_spec.specs.Texts.{decimal_word, is_hex_digit}

-- an S-expression (SMT-LIB 2.6, section 3.2): a word, or a list
pub data Sexp : Type 0 where
  Atom : List ℕ → Sexp
  Nil : Sexp
  Cons : Sexp → Sexp → Sexp

-- the opening bracket
abbrev pub opening : List ℕ
opening = codes "("

-- the closing bracket
abbrev pub closing : List ℕ
closing = codes ")"

-- a word that ends, if it has bytes
abbrev pub with_word : List ℕ → List (List ℕ) → List (List ℕ)
with_word [] rest = rest
with_word (b ∷ w) rest = (b ∷ w) ∷ rest

-- the words and brackets of a text, parted by blanks and line feeds (section 3.1); the first argument is the word so far
abbrev pub words_after : List ℕ → List ℕ → List (List ℕ)
words_after w [] = with_word w []
words_after w (b ∷ rest) =
    if (b == 32) || (b == 10) then with_word w (words_after [] rest) else
    if (b == 40) || (b == 41) then with_word w ((b ∷ []) ∷ words_after [] rest) else words_after (w ++ b ∷ []) rest

-- an element in front of the innermost open list
abbrev pub in_innermost : Sexp → List Sexp → List Sexp
in_innermost e [] = []
in_innermost e (list ∷ outer) = Cons e list ∷ outer

-- an opening bracket makes the innermost list an element of the next one
abbrev pub close_list : List Sexp → List Sexp
close_list [] = []
close_list (list ∷ outer) = in_innermost list outer

-- the lists that are open in front of some words, the innermost first: read from the end of a text, a closing bracket opens one
abbrev pub open_lists : List (List ℕ) → List Sexp
open_lists [] = Nil ∷ []
open_lists (w ∷ ws) =
    if bytes_eq w closing then Nil ∷ open_lists ws else if bytes_eq w opening then close_list (open_lists ws) else in_innermost (Atom w) (open_lists ws)

-- the S-expressions of a text, where its brackets match
abbrev pub only_list : List Sexp → Option Sexp
only_list (list ∷ []) = Some list
only_list other = None

-- the S-expressions of a text, as one list
abbrev pub sexps_of : List ℕ → Option Sexp
sexps_of text = only_list (open_lists (words_after [] text))

-- a value: a truth value, a word of a width, or an array from words of 32 bits to bytes
pub data SmtValue : Type 0 where
  TruthValue : Bool → SmtValue
  WordValue : (width value : ℕ) → SmtValue
  ArrayValue : (ℕ → ℕ) → SmtValue

-- the words are the same
abbrev pub same_words : Sexp → List (List ℕ) → Bool
same_words Nil [] = true
same_words (Cons (Atom w) rest) (v ∷ vs) = bytes_eq w v && same_words rest vs
same_words other ws = false

-- the width of a sort (_ BitVec n)
abbrev pub width_of : Sexp → Option ℕ
width_of (Cons u (Cons b (Cons (Atom n) Nil))) = if same_words (Cons u (Cons b Nil)) (codes "_" ∷ codes "BitVec" ∷ []) then decimal_word n else None
width_of other = None

-- a word has this width
abbrev pub has_width : ℕ → Option ℕ → Bool
has_width n None = false
has_width n (Some m) = n == m

-- the sort is (Array (_ BitVec 32) (_ BitVec 8))
abbrev pub is_array : Sexp → Bool
is_array (Cons (Atom w) (Cons index (Cons element Nil))) = bytes_eq w (codes "Array") && has_width 32 (width_of index) && has_width 8 (width_of element)
is_array other = false

-- the value is of a sort (sections 3.7.3 and 3.7.4, and the theories of fixed-size bit vectors and of arrays)
abbrev pub is_of_sort : SmtValue → Sexp → Bool
is_of_sort (TruthValue b) (Atom w) = bytes_eq w (codes "Bool")
is_of_sort (TruthValue b) other = false
is_of_sort (WordValue n v) sort = has_width n (width_of sort) && nat_lt v (2 ^ n)
is_of_sort (ArrayValue f) sort = is_array sort

-- binary digits
abbrev pub is_binary_digit : ℕ → Bool
is_binary_digit b = (b == 48) || (b == 49)

-- #b and binary digits, or #x and hexadecimal digits in lower case: constants of one or four bits for each digit
abbrev pub constant_of : List ℕ → Option SmtValue
constant_of (h ∷ b ∷ d ∷ ds) =
    if (h == 35) && (b == 98) && list_all is_binary_digit (d ∷ ds) then Some (WordValue (length (d ∷ ds)) (digits_value 2 (d ∷ ds))) else
    if (h == 35) && (b == 120) && list_all is_hex_digit (d ∷ ds) then Some (WordValue (4 * length (d ∷ ds)) (digits_value 16 (d ∷ ds))) else None
constant_of other = None

-- a first value, or else a second
abbrev pub or_value : Option SmtValue → Option SmtValue → Option SmtValue
or_value (Some v) other = Some v
or_value None other = other

-- the value of a word: true, false, a constant, or a symbol's value
abbrev pub atom_value : (symbols : List ℕ → Option SmtValue) → List ℕ → Option SmtValue
atom_value symbols w =
    if bytes_eq w (codes "true") then Some (TruthValue true) else if bytes_eq w (codes "false") then Some (TruthValue false) else
    or_value (constant_of w) (symbols w)

-- signed division cut toward 0; by 0 it gives 1 for a negative dividend and else all ones (theory of fixed-size bit vectors, bvsdiv)
abbrev pub smt_sdiv : ℕ → ℕ → ℕ → ℕ
smt_sdiv n a b = with_sign n (differ (is_negative n a) (is_negative n b)) (udiv n (magnitude n a) (magnitude n b))

-- operators on two words of one width that give such a word
abbrev pub word_operator : List ℕ → Option (ℕ → ℕ → ℕ → ℕ)
word_operator w =
    if bytes_eq w (codes "bvadd") then Some add else if bytes_eq w (codes "bvsub") then Some sub else if bytes_eq w (codes "bvmul") then Some mul else
    if bytes_eq w (codes "bvudiv") then Some udiv else if bytes_eq w (codes "bvurem") then Some urem else
    if bytes_eq w (codes "bvsdiv") then Some smt_sdiv else if bytes_eq w (codes "bvsrem") then Some srem else
    if bytes_eq w (codes "bvand") then Some (λ n. bit_and) else if bytes_eq w (codes "bvor") then Some (λ n. bit_or) else
    if bytes_eq w (codes "bvxor") then Some (λ n. bit_xor) else if bytes_eq w (codes "bvshl") then Some shl else
    if bytes_eq w (codes "bvlshr") then Some shr else if bytes_eq w (codes "bvashr") then Some sar else None

-- comparisons of two words of one width
abbrev pub comparison : List ℕ → Option (ℕ → ℕ → ℕ → Bool)
comparison w =
    if bytes_eq w (codes "bvult") then Some (λ n. nat_lt) else if bytes_eq w (codes "bvule") then Some (λ n. nat_le) else
    if bytes_eq w (codes "bvslt") then Some signed_lt else if bytes_eq w (codes "bvsle") then Some signed_le else
    if bytes_eq w (codes "=") then Some (λ n. nat_eq) else None

-- operators on truth values
abbrev pub truth_operator : List ℕ → Option (Bool → Bool → Bool)
truth_operator w =
    if bytes_eq w (codes "and") then Some (λ a b. a && b) else if bytes_eq w (codes "or") then Some (λ a b. a || b) else
    if bytes_eq w (codes "xor") then Some differ else if bytes_eq w (codes "=>") then Some (λ a b. not a || b) else
    if bytes_eq w (codes "=") then Some (λ a b. not (differ a b)) else None

-- an operator's word
abbrev pub by_word_operator : Option (ℕ → ℕ → ℕ → ℕ) → ℕ → ℕ → ℕ → Option SmtValue
by_word_operator None n a b = None
by_word_operator (Some f) n a b = Some (WordValue n (f n a b))

-- a comparison's truth value
abbrev pub by_comparison : Option (ℕ → ℕ → ℕ → Bool) → ℕ → ℕ → ℕ → Option SmtValue
by_comparison None n a b = None
by_comparison (Some f) n a b = Some (TruthValue (f n a b))

-- an operator's truth value
abbrev pub by_truth_operator : Option (Bool → Bool → Bool) → Bool → Bool → Option SmtValue
by_truth_operator None a b = None
by_truth_operator (Some f) a b = Some (TruthValue (f a b))

-- two words
abbrev pub of_two_words : List ℕ → (m a n b : ℕ) → Option SmtValue
of_two_words op m a n b =
    if bytes_eq op (codes "concat") then Some (WordValue (m + n) (concat n a b)) else
    if m == n then or_value (by_word_operator (word_operator op) n a b) (by_comparison (comparison op) n a b) else None

-- an array with one byte changed
abbrev pub store_byte : (ℕ → ℕ) → ℕ → ℕ → ℕ → ℕ
store_byte f at v a = if a == at then v else f a

-- one of two values of one sort
abbrev pub ite_value : Bool → SmtValue → SmtValue → Option SmtValue
ite_value c (TruthValue a) (TruthValue b) = Some (TruthValue (if c then a else b))
ite_value c (WordValue m a) (WordValue n b) = if m == n then Some (WordValue n (if c then a else b)) else None
ite_value c (ArrayValue f) (ArrayValue g) = Some (ArrayValue (λ a. if c then f a else g a))
ite_value c other value = None

-- the value of an operator's application (theory Core, theory of fixed-size bit vectors, theory of arrays)
abbrev pub applied : List ℕ → List SmtValue → Option SmtValue
applied op (TruthValue a ∷ []) = if bytes_eq op (codes "not") then Some (TruthValue (not a)) else None
applied op (WordValue n a ∷ []) =
    if bytes_eq op (codes "bvnot") then Some (WordValue n (complement n a)) else if bytes_eq op (codes "bvneg") then Some (WordValue n (neg n a)) else None
applied op (TruthValue a ∷ TruthValue b ∷ []) = by_truth_operator (truth_operator op) a b
applied op (WordValue m a ∷ WordValue n b ∷ []) = of_two_words op m a n b
applied op (ArrayValue f ∷ WordValue n a ∷ []) = if bytes_eq op (codes "select") && (n == 32) then Some (WordValue 8 (f a)) else None
applied op (ArrayValue f ∷ WordValue n a ∷ WordValue m v ∷ []) =
    if bytes_eq op (codes "store") && (n == 32) && (m == 8) then Some (ArrayValue (store_byte f a v)) else None
applied op (TruthValue c ∷ a ∷ b ∷ []) = if bytes_eq op (codes "ite") then ite_value c a b else None
applied op other = None

-- the two numbers of (_ extract hi lo), the one of (_ zero_extend n) and (_ sign_extend n)
abbrev pub indexed_value : List ℕ → Option ℕ → Option ℕ → List SmtValue → Option SmtValue
indexed_value op (Some hi) (Some lo) (WordValue n a ∷ []) =
    if bytes_eq op (codes "extract") && nat_le lo hi && nat_lt hi n then Some (WordValue (hi + 1 - lo) (bits hi lo a)) else None
indexed_value op (Some more) None (WordValue n a ∷ []) =
    if bytes_eq op (codes "zero_extend") then Some (WordValue (n + more) a) else
    if bytes_eq op (codes "sign_extend") then Some (WordValue (n + more) (sign_extend n (n + more) a)) else None
indexed_value op first second values = None

-- the value of an indexed operator's application
abbrev pub applied_indexed : Sexp → List SmtValue → Option SmtValue
applied_indexed (Cons (Atom u) (Cons (Atom op) (Cons (Atom i) Nil))) values =
    if bytes_eq u (codes "_") then indexed_value op (decimal_word i) None values else None
applied_indexed (Cons (Atom u) (Cons (Atom op) (Cons (Atom i) (Cons (Atom j) Nil)))) values =
    if bytes_eq u (codes "_") then indexed_value op (decimal_word i) (decimal_word j) values else None
applied_indexed other values = None

-- a value in front of values
abbrev pub with_value : Option SmtValue → Option (List SmtValue) → Option (List SmtValue)
with_value (Some v) (Some vs) = Some (v ∷ vs)
with_value (Some v) None = None
with_value None vs = None

-- the value of an application by its head
abbrev pub by_head : Sexp → Option (List SmtValue) → Option SmtValue
by_head (Atom op) (Some values) = applied op values
by_head (Cons u rest) (Some values) = applied_indexed (Cons u rest) values
by_head other values = None

-- the value of a term under values of symbols (sections 3.6 and 5.3), and the values of the terms of a list; None where one isn't well sorted
abbrev mutual
  -- the value of a term
  pub term_value : (symbols : List ℕ → Option SmtValue) → Sexp → Option SmtValue
  term_value symbols (Atom w) = atom_value symbols w
  term_value symbols Nil = None
  term_value symbols (Cons head operands) = by_head head (term_values symbols operands)

  -- the values of terms
  pub term_values : (symbols : List ℕ → Option SmtValue) → Sexp → Option (List SmtValue)
  term_values symbols Nil = Some []
  term_values symbols (Cons term rest) = with_value (term_value symbols term) (term_values symbols rest)
  term_values symbols (Atom w) = None

-- the values of symbols with one more
abbrev pub binds : (symbols : List ℕ → Option SmtValue) → List ℕ → SmtValue → List ℕ → Option SmtValue
binds symbols x v w = if bytes_eq w x then Some v else symbols w

-- a symbol that has no value yet
abbrev pub is_new : Option SmtValue → Bool
is_new None = true
is_new (Some v) = false

-- a declared symbol takes the model's value, if that is of its sort (declare-const, declare-fun: section 4.2.3)
abbrev pub declared : Option SmtValue → (sort : Sexp) → (SmtValue → Option Bool) → Option Bool
declared None sort go = None
declared (Some v) sort go = if is_of_sort v sort then go v else None

-- a definition without parameters gives a symbol its term's value (define-fun: section 4.2.3)
abbrev pub defined : Option SmtValue → (sort : Sexp) → (SmtValue → Option Bool) → Option Bool
defined v sort go = declared v sort go

-- an assertion holds where its term is true (assert: section 4.2.5)
abbrev pub asserted : Option SmtValue → Option Bool → Option Bool
asserted (Some (TruthValue a)) (Some b) = Some (a && b)
asserted other b = None

-- the end of the commands
abbrev pub if_last : Sexp → Option Bool
if_last Nil = Some true
if_last other = None

-- What the commands of a script say of a model's values for the symbols that they declare: whether all assertions hold, or nothing where the script isn't well
-- formed.
-- symbols: those that have a value so far.
abbrev pub truth_of : (model symbols : List ℕ → Option SmtValue) → Sexp → Option Bool
truth_of model symbols (Cons (Cons (Atom c) Nil) rest) = if bytes_eq c (codes "check-sat") then if_last rest else None
truth_of model symbols (Cons (Cons (Atom c) (Cons (Atom x) Nil)) rest) =
    if bytes_eq c (codes "set-logic") && bytes_eq x (codes "QF_ABV") then truth_of model symbols rest else
    if bytes_eq c (codes "assert") then asserted (atom_value symbols x) (truth_of model symbols rest) else None
truth_of model symbols (Cons (Cons (Atom c) (Cons term Nil)) rest) =
    if bytes_eq c (codes "assert") then asserted (term_value symbols term) (truth_of model symbols rest) else None
truth_of model symbols (Cons (Cons (Atom c) (Cons (Atom x) (Cons sort Nil))) rest) =
    if bytes_eq c (codes "declare-const") && is_new (symbols x) then declared (model x) sort (λ v. truth_of model (binds symbols x v) rest) else None
truth_of model symbols (Cons (Cons (Atom c) (Cons (Atom x) (Cons Nil (Cons sort Nil)))) rest) =
    if bytes_eq c (codes "declare-fun") && is_new (symbols x) then declared (model x) sort (λ v. truth_of model (binds symbols x v) rest) else None
truth_of model symbols (Cons (Cons (Atom c) (Cons (Atom x) (Cons Nil (Cons sort (Cons term Nil))))) rest) =
    if bytes_eq c (codes "define-fun") && is_new (symbols x) then defined (term_value symbols term) sort (λ v. truth_of model (binds symbols x v) rest)
    else None
truth_of model symbols other = None

-- the same where no symbol has a value yet: whether the values satisfy the script of these commands, or nothing where it isn't well formed
unfoldable pub commands_truth : (model : List ℕ → Option SmtValue) → Sexp → Option Bool
commands_truth model commands = truth_of model (λ x. None) commands

-- the symbols that commands declare
abbrev pub declared_symbols : Sexp → List (List ℕ)
declared_symbols (Cons (Cons (Atom c) (Cons (Atom x) others)) rest) =
    (if bytes_eq c (codes "declare-const") || bytes_eq c (codes "declare-fun") then x ∷ [] else []) ++ declared_symbols rest
declared_symbols (Cons command rest) = declared_symbols rest
declared_symbols other = []

-- the symbols that commands define
abbrev pub defined_symbols : Sexp → List (List ℕ)
defined_symbols (Cons (Cons (Atom c) (Cons (Atom x) others)) rest) = (if bytes_eq c (codes "define-fun") then x ∷ [] else []) ++ defined_symbols rest
defined_symbols (Cons command rest) = defined_symbols rest
defined_symbols other = []
