-- The values of expressions are words.
use Rattle.std.proofs.Common.{◌≡◌, ℕ, zero, suc, ◌<◌, ◌≤◌, ◌+◌, ◌-◌, ◌*◌, ◌/◌, ◌^◌, min, refl, subst, arith, List, [], ◌∷◌, ◌++◌, Option, Some, None, map, bytes_eq, Bool, true, false, if◌then◌else◌, codes, All, Contains, div-le_self, pow-suc, mul-le-mul_right, lt_of_le_of_lt, lt_of_lt_of_le, lit<, lit≤, nat_le}
use Rattle.std.specs.List.{list_any}
use Rattle.std.proofs.lemmas.Nat.{or_lt, xor_lt, and_le_l}
use Rattle.word_spec.specs.Words.{bit, is_negative, complement}
use Rattle.word_spec.specs.Memory.{Endian, Little, Big, little, big, number}
use Rattle.word_spec.specs.State.{State, IsState}
use Rattle.bilv_spec.specs.Notes.{Op, Or, And, Equal, NotEqual, Below, AtMost, Above, AtLeast, SignedBelow, SignedAtMost, SignedAbove, SignedAtLeast, BitOr, BitXor, BitAnd, ShiftLeft, ShiftRight, ShiftSigned, Plus, Minus, Times, Each, Expr, Number, Register, Flag, Pc, Bound, Old, Not, Binary, apply, value, put_bound, each, written_out}
use Rattle.bilv_spec.specs.Notes as notes
use Rattle.word_spec.specs.Tokens.{Token, NumberToken, NameToken, SignToken, BadByte, BadText}
use Rattle.notes_spec.specs.NotesGrammar.{load_words, left_of, number_at, IsGood, Parses, tighter, binary_of, not_of, number_of, name_of, memory_of, old_of, all_of, in_brackets}
use Rattle.notes_spec.specs.Scopes.{Scope, Mode, Strict, Lenient, Loose, Constant, const_of, const_or, meaning, name_by, named, number_by, is_reserved, binding}
use Rattle.word_spec.specs.RowFiles.{from_to}
use Rattle.bilv_spec.proofs.Decided.{none_some}
use Rattle.notes_spec.specs.NotesLaws.{IsOfWords}
use Rattle.notes_spec.proofs.NotesTables.{of_each}
use Rattle.std.proofs.lemmas.List.Elements.{Contains-append_left, Contains-append_right}

bit_small : (b : Bool) → bit b < 2 ^ 32
bit_small true = lit< tt
bit_small false = lit< tt

of_sar : (b : Bool) (a n : ℕ) → a < 2 ^ 32 → (if b then complement 32 (complement 32 a / 2 ^ min n 32) else a / 2 ^ min n 32) < 2 ^ 32
of_sar true a n less = omega arith
of_sar false a n less = lt_of_le_of_lt (div-le_self a (2 ^ min n 32)) less

pub apply_word : (op : Op) (a b : ℕ) → a < 2 ^ 32 → b < 2 ^ 32 → apply op a b < 2 ^ 32
apply_word Or a b p q = bit_small _
apply_word And a b p q = bit_small _
apply_word Equal a b p q = bit_small _
apply_word NotEqual a b p q = bit_small _
apply_word Below a b p q = bit_small _
apply_word AtMost a b p q = bit_small _
apply_word Above a b p q = bit_small _
apply_word AtLeast a b p q = bit_small _
apply_word SignedBelow a b p q = bit_small _
apply_word SignedAtMost a b p q = bit_small _
apply_word SignedAbove a b p q = bit_small _
apply_word SignedAtLeast a b p q = bit_small _
apply_word BitOr a b p q = or_lt 32 a b p q
apply_word BitXor a b p q = xor_lt 32 a b p q
apply_word BitAnd a b p q = lt_of_le_of_lt (and_le_l a b) p
apply_word ShiftLeft a b p q = omega arith
apply_word ShiftRight a b p q = lt_of_le_of_lt (div-le_self a (2 ^ min b 32)) p
apply_word ShiftSigned a b p q = of_sar (is_negative 32 a) a b p
apply_word Plus a b p q = omega arith
apply_word Minus a b p q = omega arith
apply_word Times a b p q = omega arith
apply_word Each a b p q = bit_small _

little_small : (n : ℕ) (f : ℕ → ℕ) → ((i : ℕ) → f i < 256) → little n f < 256 ^ n
little_small zero f small = omega arith
little_small (suc n) f small =
    let ih = little_small n f small in
    let power = pow-suc 256 n in
    let most : f n * 256 ^ n ≤ 255 * 256 ^ n = let less = small n in mul-le-mul_right (256 ^ n) (omega (arith, less)) in omega (arith, ih, power, most)

big_small : (n : ℕ) (f : ℕ → ℕ) → ((i : ℕ) → f i < 256) → big n f < 256 ^ n
big_small zero f small = omega arith
big_small (suc n) f small = let ih = big_small n f small in let power = pow-suc 256 n in let least = small n in omega (arith, ih, power, least)

power_small : (n : ℕ) → n ≤ 4 → 256 ^ n ≤ 2 ^ 32
power_small zero le = lit≤ tt
power_small (suc zero) le = lit≤ tt
power_small (suc (suc zero)) le = lit≤ tt
power_small (suc (suc (suc zero))) le = lit≤ tt
power_small (suc (suc (suc (suc zero)))) le = lit≤ tt
power_small (suc (suc (suc (suc (suc n))))) le = absurd (omega (arith, le))

number_small : (order : Endian) (n : ℕ) (f : ℕ → ℕ) → ((i : ℕ) → f i < 256) → number order n f < 256 ^ n
number_small Little n f small = little_small n f small
number_small Big n f small = big_small n f small

-- the value of an expression of words is a word
pub word_value : (order : Endian) (e : Expr) (now entry : State) → IsOfWords e → IsState now → IsState entry → value order e now entry < 2 ^ 32
word_value order (Number n) now entry w p q = w
word_value order (Register r) now entry w p q = p.regs r
word_value order (Flag f) now entry w p q = let less = p.flags f in omega (arith, less)
word_value order Pc now entry w p q = p.pc
word_value order Bound now entry w p q = lit< tt
word_value order (notes.Memory n a) now entry w p q = lt_of_lt_of_le (number_small order n _ (λ i. p.mem _)) (power_small n w.0)
word_value order (Old a) now entry w p q = word_value order a entry entry w q q
word_value order (Not a) now entry w p q = bit_small _
word_value order (Binary op a b) now entry w p q = apply_word op (value order a now entry) (value order b now entry) (word_value order a now entry w.0 p q)
    (word_value order b now entry w.1 p q)

-- numbers in tokens are words
abbrev Small : List Token → Type 0
Small ts = (n : ℕ) → Contains ts (NumberToken n) → n < 2 ^ 32

small_left : (xs ys : List Token) → Small (xs ++ ys) → Small xs
small_left xs ys s n c = s n (Contains-append_left xs ys (NumberToken n) c)

small_right : (xs ys : List Token) → Small (xs ++ ys) → Small ys
small_right xs ys s n c = s n (Contains-append_right xs ys (NumberToken n) c)

load_small : (n : ℕ) (w : List ℕ) → Contains {X = ℕ × List ℕ} load_words (n, w) → nat_le n 4 ≡ true
load_small n w c = of_each {X = ℕ × List ℕ} (λ o. nat_le o.0 4 ≡ true) load_words (n, w) (refl, (refl, (refl, tt))) c

within : (o c : Token) (ts us : List Token) → ts ≡ o ∷ us ++ c ∷ [] → Small ts → Small us
within o c ts us is s = small_left us (c ∷ []) (small_right (o ∷ []) (us ++ c ∷ []) (subst Small is s))

within_call : (t o c : Token) (ts us : List Token) → ts ≡ t ∷ o ∷ us ++ c ∷ [] → Small ts → Small us
within_call t o c ts us is s = within o c (o ∷ us ++ c ∷ []) us refl (small_right (t ∷ []) (o ∷ us ++ c ∷ []) (subst Small is s))

-- numbers that are put for a bound name are words
put_words : (v : ℕ) (e : Expr) → v < 2 ^ 32 → IsOfWords e → IsOfWords (put_bound v e)
put_words v (Number n) less w = w
put_words v (Register r) less w = tt
put_words v (Flag f) less w = tt
put_words v Pc less w = tt
put_words v Bound less w = less
put_words v (notes.Memory n a) less w = (w.0, put_words v a less w.1)
put_words v (Old a) less w = put_words v a less w
put_words v (Not a) less w = put_words v a less w
put_words v (Binary op a b) less w = (put_words v a less w.0, put_words v b less w.1)

each_words : (first count : ℕ) (e : Expr) → first + count ≤ 2 ^ 32 → IsOfWords e → IsOfWords (each (map (λ v. put_bound v e) (from_to first count)))
each_words first zero e le w = lit< tt
each_words first (suc count) e le w = (put_words first e (omega (arith, le)) w, each_words (first + 1) count e (omega (arith, le)) w)

written_words : (low high : ℕ) (e : Expr) → low < 2 ^ 32 → high < 2 ^ 32 → IsOfWords e → IsOfWords (written_out low high e)
written_words low high e l h w = (put_words low e l w, each_words (low + 1) (high - low) e (omega (arith, l, h)) w)

-- the numbers of constants are words
abbrev SmallConsts : List Constant → Type 0
SmallConsts cs = (c : Constant) → Contains cs c → c.number < 2 ^ 32

const_small : (cs : List Constant) (w : List ℕ) (n : ℕ) → SmallConsts cs → const_of cs w ≡ Some n → n < 2 ^ 32
const_small [] w n small is = absurd (none_some ℕ n is)
const_small (c ∷ cs) w n small is =
    by (bytes_eq w c.word) is (λ rest. const_small cs w n (λ d in_rest. small d (suc in_rest.0, omega (arith, in_rest.1), in_rest.2)) rest) where
      by : (b : Bool) → (if b then Some c.number else const_of cs w) ≡ Some n → (const_of cs w ≡ Some n → n < 2 ^ 32) → n < 2 ^ 32
      by true e f = let same : c.number ≡ n = cc in subst (λ n. n < 2 ^ 32) same (small c (0, omega arith, refl))
      by false e f = f e

abbrev NamesWords : (List ℕ → Option Expr) → Type 0
NamesWords names = (w : List ℕ) (e : Expr) → names w ≡ Some e → IsOfWords e

meaning_words : (s : Scope) → NamesWords s.names → SmallConsts s.consts → (w : List ℕ) (e : Expr) → meaning s w ≡ Some e → IsOfWords e
meaning_words s named small w e is = by (list_any (bytes_eq w) s.bound) is where
  of_const : (o : Option ℕ) → ((n : ℕ) → o ≡ Some n → n < 2 ^ 32) → const_or o (s.names w) ≡ Some e → IsOfWords e
  of_const (Some n) f e_is = let same : Number n ≡ e = cc in subst IsOfWords same (f n refl)
  of_const None f e_is = named w e e_is

  by : (b : Bool) → (if b then Some Bound else const_or (const_of s.consts w) (s.names w)) ≡ Some e → IsOfWords e
  by true e_is = let same : Bound ≡ e = cc in subst IsOfWords same tt
  by false e_is = of_const (const_of s.consts w) (λ n. const_small s.consts w n small) e_is

by_mode : (m : Mode) (s : Scope) → NamesWords s.names → SmallConsts s.consts → (w : List ℕ) (e : Expr) → name_by m s w ≡ Some e → IsOfWords e
by_mode Strict s names small w e is = meaning_words s names small w e is
by_mode Lenient s names small w e is = meaning_words s names small w e is
by_mode Loose s names small w e is = let same : Number 0 ≡ e = cc in subst IsOfWords same (lit< tt)

named_words : (s : Scope) → NamesWords s.names → SmallConsts s.consts → (w : List ℕ) (e : Expr) → named s w ≡ Some e → IsOfWords e
named_words s names small w e is = by (is_reserved s w) is where
  by : (b : Bool) → (if b then None else name_by s.mode s w) ≡ Some e → IsOfWords e
  by true e_is = absurd (none_some Expr e e_is)
  by false e_is = by_mode s.mode s names small w e e_is

number_mode : (m : Mode) (s : Scope) → SmallConsts s.consts → (w : List ℕ) (n : ℕ) → number_by m s w ≡ Some n → n < 2 ^ 32
number_mode Strict s small w n is = const_small s.consts w n small is
number_mode Lenient s small w n is = const_small s.consts w n small is
number_mode Loose s small w n is = let same : 0 ≡ n = cc in omega (arith, same)

number_small_at : (s : Scope) → SmallConsts s.consts → (t : Token) (n : ℕ) → IsGood t → number_at s t ≡ Some n → n < 2 ^ 32
number_small_at s small (NumberToken m) n good is = let same : m ≡ n = cc in subst (λ n. n < 2 ^ 32) same good
number_small_at s small (NameToken w) n good is = by s.is_second is where
  by : (b : Bool) → (if b then number_by s.mode s w else None) ≡ Some n → n < 2 ^ 32
  by true e = number_mode s.mode s small w n e
  by false e = absurd (none_some ℕ n e)
number_small_at s small (SignToken w) n good is = absurd (none_some ℕ n is)
number_small_at s small BadByte n good is = absurd (none_some ℕ n is)
number_small_at s small BadText n good is = absurd (none_some ℕ n is)

-- a number that stands among tokens
small_at : (s : Scope) → SmallConsts s.consts → (ts : List Token) (t : Token) (n : ℕ) → Small ts → Contains ts t → number_at s t ≡ Some n → n < 2 ^ 32
small_at s small ts (NumberToken m) n all c is = number_small_at s small (NumberToken m) n (all m c) is
small_at s small ts (NameToken w) n all c is = number_small_at s small (NameToken w) n tt is
small_at s small ts (SignToken w) n all c is = absurd (none_some ℕ n is)
small_at s small ts BadByte n all c is = absurd (none_some ℕ n is)
small_at s small ts BadText n all c is = absurd (none_some ℕ n is)

words_of : (s : Scope) → NamesWords s.names → SmallConsts s.consts → (l : ℕ) (ts : List Token) (e : Expr) → Small ts → Parses s l ts e → IsOfWords e
words_of s names consts l ts e small (tighter below p) = words_of s names consts (l + 1) ts e small p
words_of s names consts l ts e small (binary_of {xs = xs} {ys = ys} {t = t} {a = a} {b = b} c p q is) =
    let whole = subst Small is small in (
      words_of s names consts (left_of l) xs a (small_left xs (t ∷ ys) whole) p,
      words_of s names consts (l + 1) ys b (small_right (t ∷ []) ys (small_right xs (t ∷ ys) whole)) q,
    )
words_of s names consts l ts e small (not_of {ts = us} {e = a} p) =
    words_of s names consts 3 us a (small_right (NameToken (codes "not") ∷ []) us small) p
words_of s names consts l ts e small (number_of {n = n}) = small n (0, omega arith, refl)
words_of s names consts l ts e small (name_of {w = w} {e = a} is) = named_words s names consts w a is
words_of s names consts l ts e small (memory_of {n = n} {w = w} {us = us} {e = a} c p is) =
    let le = load_small n w c in
    (grind (arith, le), words_of s names consts 1 us a (within_call (NameToken w) (SignToken (codes "[")) (SignToken (codes "]")) ts us is small) p)
words_of s names consts l ts e small (old_of {us = us} {e = a} p is) =
    words_of s names consts 1 us a (within_call (NameToken (codes "old")) (SignToken (codes "(")) (SignToken (codes ")")) ts us is small) p
words_of s names consts l ts e small (all_of {w = w} {b = b} {c = c} low high {us = us} a two p q may r is) =
    let tokens = NameToken (codes "all") ∷ NameToken w ∷ b ∷ c ∷ SignToken (codes "(") ∷ us ++ SignToken (codes ")") ∷ [] in
    let whole : Small tokens = subst Small is small in
    let inner = within (SignToken (codes "(")) (SignToken (codes ")")) (SignToken (codes "(") ∷ us ++ SignToken (codes ")") ∷ []) us refl
    (small_right (NameToken (codes "all") ∷ NameToken w ∷ b ∷ c ∷ []) (SignToken (codes "(") ∷ us ++ SignToken (codes ")") ∷ []) whole) in
    written_words low high a (small_at s consts tokens b low whole (2, omega arith, refl) p)
    (small_at s consts tokens c high whole (3, omega arith, refl) q)
    (words_of (binding s w) names consts 1 us a inner r)
words_of s names consts l ts e small (in_brackets {us = us} {e = a} p is) =
    words_of s names consts 1 us a (within (SignToken (codes "(")) (SignToken (codes ")")) ts us is small) p

good_small : (ts : List Token) → All IsGood ts → Small ts
good_small ts all n c = let g : IsGood (NumberToken n) = subst IsGood c.2 (all c.0 (NumberToken n) c.1) in g

-- what tokens say that may stand in a line is of words
pub words_said : (s : Scope) → NamesWords s.names → SmallConsts s.consts → (l : ℕ) (ts : List Token) (e : Expr) → All IsGood ts → Parses s l ts e → IsOfWords e
words_said s names consts l ts e all p = words_of s names consts l ts e (good_small ts all) p
