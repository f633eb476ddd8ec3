-- Values of single nodes, over plain numbers.
use Rattle.std.proofs.Common.{◌≡◌, ℕ, zero, suc, ◌+◌, ◌-◌, ◌/◌, ◌%◌, ◌^◌, ◌<◌, ◌≤◌, Bool, true, false, refl, sym, ap, ◌∙◌, subst, arith}
use Rattle.std.specs.Prelude.{nat_le, nat_lt, ◌&&◌, if◌then◌else◌}
use Rattle.std.proofs.lemmas.Bool.Decides.{nat_tests}
use Rattle.std.proofs.lemmas.Bool.{eq-eqb}
use Rattle.std.proofs.Math.Nat.{mod-eq_of_lt, div-lt_iff_lt-mul}
use Rattle.std.proofs.lemmas.Nat.{pow-add, pow_pos}
use Rattle.word_spec.specs.Words as words
use Rattle.word_spec.specs.Memory.{Endian, Memory, load, store}
use Rattle.machine_spec.specs.Bil.{BinaryOp, Plus, Minus, Times, Divide, SignedDivide, Modulo, SignedModulo, And, Or, Xor, ShiftLeft, ShiftRight, ShiftSigned, Equal, NotEqual, Less, LessEqual, SignedLess, SignedLessEqual, CastKind, Low, High, Signed, Unsigned}
use Rattle.machine_spec.specs.BilTyping.{result_width, cast_fits}
use Rattle.machine_spec.specs.BilMeaning.{Word, Bytes, Stuck, binary, on_words, cast_to, choose, extract_from, load_from, store_to, store_value}
use Rattle.term_spec.specs.Terms.{operate, select, extend}

pub on_words_is : (o : BinaryOp) (n a b : ℕ) → on_words o n a b ≡ Word (result_width o n) (operate o n a b)
on_words_is Plus n a b = refl
on_words_is Minus n a b = refl
on_words_is Times n a b = refl
on_words_is Divide n a b = refl
on_words_is SignedDivide n a b = refl
on_words_is Modulo n a b = refl
on_words_is SignedModulo n a b = refl
on_words_is And n a b = refl
on_words_is Or n a b = refl
on_words_is Xor n a b = refl
on_words_is ShiftLeft n a b = refl
on_words_is ShiftRight n a b = refl
on_words_is ShiftSigned n a b = refl
on_words_is Equal n a b = refl
on_words_is NotEqual n a b = refl
on_words_is Less n a b = refl
on_words_is LessEqual n a b = refl
on_words_is SignedLess n a b = refl
on_words_is SignedLessEqual n a b = refl

pub binary_is : (o : BinaryOp) (n m a b : ℕ) → n ≡ m → binary o (Word n a) (Word m b) ≡ Word (result_width o n) (operate o n a b)
binary_is o n m a b e = ap (λ (z : Bool). if z then on_words o n a b else Stuck) (eq-eqb n m e) ∙ on_words_is o n a b

pub load_is : (e : Endian) (w k : ℕ) (m : Memory) (a : ℕ) → k ≡ 32 → load_from e w (Bytes m) (Word k a) ≡ Word w (load e (w / 8) m a)
load_is e w k m a h = ap (λ (z : Bool). if z then Word w (load e (w / 8) m a) else Stuck) (eq-eqb k 32 h)

pub store_is : (e : Endian) (w k j : ℕ) (m : Memory) (a v : ℕ) → k ≡ 32 → j ≡ w → store_to e w (Bytes m) (Word k a) (Word j v) ≡ Bytes (store e (w / 8) m a v)
store_is e w k j m a v h i =
    ap (λ (z : Bool). if z then store_value e w m a (Word j v) else Stuck) (eq-eqb k 32 h)
    ∙ ap (λ (z : Bool). if z then Bytes (store e (w / 8) m a v) else Stuck) (eq-eqb j w i)

picked : (n c a b : ℕ) → choose (Word 1 c) (Word n a) (Word n b) ≡ Word n (select c a b)
picked n zero a b = refl
picked n (suc c) a b = refl

pub choose_is : (k n m c a b : ℕ) → k ≡ 1 → n ≡ m → choose (Word k c) (Word n a) (Word m b) ≡ Word n (select c a b)
choose_is k n m c a b e h =
    ap (λ (z : ℕ). choose (Word z c) (Word n a) (Word m b)) e ∙ ap (λ (z : ℕ). choose (Word 1 c) (Word n a) (Word z b)) (sym h) ∙ picked n c a b

pub extract_is : (hi lo n a : ℕ) → lo ≤ hi → hi < n → extract_from hi lo (Word n a) ≡ Word (hi + 1 - lo) (words.bits hi lo a)
extract_is hi lo n a h l =
    let t : nat_le lo hi ≡ true = grind (arith, nat_tests) in
    let u : nat_lt hi n ≡ true = grind (arith, nat_tests) in
    ap (λ (z : Bool). if z && nat_lt hi n then Word (hi - lo + 1) (words.bits hi lo a) else Stuck) t
    ∙ ap (λ (z : Bool). if z then Word (hi - lo + 1) (words.bits hi lo a) else Stuck) u
    ∙ ap (λ z. Word z (words.bits hi lo a)) (let e : hi - lo + 1 ≡ hi + 1 - lo = omega arith in e)

-- the word that a cast gives
abbrev pub cast_word : CastKind → (from to a : ℕ) → ℕ
cast_word Low n m a = words.bits (m - 1) 0 a
cast_word High n m a = words.bits (n - 1) (n - m) a
cast_word Signed n m a = extend true n m a
cast_word Unsigned n m a = extend false n m a

pub cast_is : (k : CastKind) (n m a : ℕ) → cast_fits k m n ≡ true → 1 ≤ m → a < 2 ^ n → cast_to k m (Word n a) ≡ Word m (cast_word k n m a)
cast_is Low n m a f h l =
    ap (λ (z : Bool). if z then Word m (words.word m a) else Stuck) f
    ∙ ap (Word m) (let d : a / 1 ≡ a = omega arith in let e : m
    ≡ m - 1 + 1 - 0 = omega arith in ap (λ z. a % 2 ^ z) e ∙ ap (λ z. z % 2 ^ (m - 1 + 1 - 0)) (sym d))
cast_is High n m a f h l =
    let le : m ≤ n = grind (arith, nat_tests) in
    let s : m + (n - m) ≡ n = omega arith in
    let b : a / 2 ^ (n - m) < 2 ^ m = (div-lt_iff_lt-mul (pow_pos (n - m))).1 (subst (λ (z : ℕ). a < z) (ap (λ z. 2 ^ z) (sym s) ∙ pow-add 2 m (n - m)) l) in
    ap (λ (z : Bool). if z then Word m (words.high n m a) else Stuck) f
    ∙ ap (Word m) (sym (mod-eq_of_lt b) ∙ ap (λ z. a / 2 ^ (n - m) % 2 ^ z) (let e : m ≡ n - 1 + 1 - (n - m) = omega arith in e))
cast_is Signed n m a f h l = ap (λ (z : Bool). if z then Word m (words.sign_extend n m a) else Stuck) f
cast_is Unsigned n m a f h l = ap (λ (z : Bool). if z then Word m a else Stuck) f
