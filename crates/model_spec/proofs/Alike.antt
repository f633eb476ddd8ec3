-- Values of expressions, and the first false line, over memories that are the same where the lines read.
use Rattle.std.proofs.Common.{◌≡◌, ℕ, zero, suc, ◌+◌, ◌*◌, ◌^◌, ◌<◌, refl, ap, sym, ◌∙◌, subst, arith, List, [], ◌∷◌, ◌++◌, Some, Bool, true, false}
use Rattle.std.specs.Prelude.{Contains, ◌==◌, ◌&&◌, not, if◌then◌else◌}
use Rattle.word_spec.specs.Words as Words
use Rattle.word_spec.specs.Words.{add, word}
use Rattle.word_spec.specs.Memory.{Endian, Little, Big, Memory, little, big, number, load, span}
use Rattle.word_spec.specs.State.{State}
use Rattle.machine_spec.specs.MachineLaws.{with_memory}
use Rattle.bilv_spec.specs.Notes as notes
use Rattle.bilv_spec.specs.Notes.{Expr, Number, Register, Flag, Pc, Bound, Old, Not, Binary, NoteLine, Assert, value, is_true}
use Rattle.bilv_spec.specs.Run.{false_line, false_assert}
use Rattle.bilv_spec.proofs.PointSteps.{in_left, in_right}
use Rattle.model_spec.specs.Reads.{expression_reads, line_reads, assert_reads}

-- the addresses are all among those of which something is known
abbrev pub Among : (ℕ → Type 0) → List ℕ → Type 0
Among A places = (a : ℕ) → Contains places a → A a

-- memories have the same bytes there
abbrev pub Agree : (ℕ → Type 0) → Memory → Memory → Type 0
Agree A m n = (a : ℕ) → a < 2 ^ 32 → A a → m a ≡ n a

pub left_among : (A : ℕ → Type 0) (xs ys : List ℕ) → Among A (xs ++ ys) → Among A xs
left_among A xs ys h a c = h a (in_left xs ys a c)

pub right_among : (A : ℕ → Type 0) (xs ys : List ℕ) → Among A (xs ++ ys) → Among A ys
right_among A xs ys h a c = h a (in_right xs ys a c)

-- numbers of bytes that are the same
little_same : (n : ℕ) (f g : ℕ → ℕ) → ((i : ℕ) → i < n → f i ≡ g i) → little n f ≡ little n g
little_same zero f g h = refl
little_same (suc n) f g h =
    ap (λ x. x + f n * 256 ^ n) (little_same n f g (λ i l. h i (omega arith))) ∙ ap (λ y. little n g + y * 256 ^ n) (h n (omega arith))

big_same : (n : ℕ) (f g : ℕ → ℕ) → ((i : ℕ) → i < n → f i ≡ g i) → big n f ≡ big n g
big_same zero f g h = refl
big_same (suc n) f g h = ap (λ x. x * 256 + f n) (big_same n f g (λ i l. h i (omega arith))) ∙ ap (λ y. big n g * 256 + y) (h n (omega arith))

number_same : (e : Endian) (n : ℕ) (f g : ℕ → ℕ) → ((i : ℕ) → i < n → f i ≡ g i) → number e n f ≡ number e n g
number_same Little n f g h = little_same n f g h
number_same Big n f g h = big_same n f g h

add_next : (a i : ℕ) → add 32 (add 32 a 1) i ≡ add 32 a (suc i)
add_next a i = omega arith

contains_next : (a : ℕ) (rest : List ℕ) (x : ℕ) → Contains rest x → Contains (a ∷ rest) x
contains_next a rest x (k, l, e) = (suc k, omega arith, e)

-- the addresses of a span, whose first is a word
in_span : (n a i : ℕ) → a < 2 ^ 32 → i < n → Contains (span a n) (add 32 a i)
in_span zero a i w l = absurd (omega arith)
in_span (suc n) a zero w l = (0, omega arith, omega arith)
in_span (suc n) a (suc i) w l = contains_next a (span (add 32 a 1) n) (add 32 a (suc i))
    (subst (λ (x : ℕ). Contains (span (add 32 a 1) n) x) (add_next a i) (in_span n (add 32 a 1) i (omega arith) (omega arith)))

word_add : (a i : ℕ) → add 32 (word 32 a) i ≡ add 32 a i
word_add a i = omega arith

module _ (A : ℕ → Type 0) (e : Endian) (s entry : State) (m n : Memory) (agree : Agree A s.mem m) (before : Agree A entry.mem n) where
  load_same : (bytes a : ℕ) (k l : Memory) → Agree A k l → Among A (span (word 32 a) bytes) → load e bytes k a ≡ load e bytes l a
  load_same bytes a k l g h =
      number_same e bytes (λ i. k (add 32 a i)) (λ i. l (add 32 a i))
      (λ i b. g (add 32 a i) (omega arith)
      (subst A (word_add a i) (h (add 32 (word 32 a) i) (in_span bytes (word 32 a) i (omega arith) b))))

-- the value of an expression is the same where the memories are so at the addresses that it reads
module _ (A : ℕ → Type 0) (e : Endian) where
  pub value_same : (x : Expr) (s entry : State) (m n : Memory) → Agree A s.mem m → Agree A entry.mem n → Among A (expression_reads e x s entry) →
      value e x s entry ≡ value e x (with_memory s m) (with_memory entry n)
  value_same (Number v) s entry m n g b h = refl
  value_same (Register r) s entry m n g b h = refl
  value_same (Flag f) s entry m n g b h = refl
  value_same Pc s entry m n g b h = refl
  value_same Bound s entry m n g b h = refl
  value_same (notes.Memory bytes x) s entry m n g b h =
      load_same A e s entry m n g b bytes (value e x s entry) s.mem m g
      (right_among A (expression_reads e x s entry) (span (word 32 (value e x s entry)) bytes) h)
      ∙ ap (load e bytes m) (value_same x s entry m n g b (left_among A (expression_reads e x s entry) (span (word 32 (value e x s entry)) bytes) h))
  value_same (Old x) s entry m n g b h = value_same x entry entry n n b b h
  value_same (Not x) s entry m n g b h = ap (λ z. Words.bit (not (is_true z))) (value_same x s entry m n g b h)
  value_same (Binary op x y) s entry m n g b h =
      ap (λ z. notes.apply op z (value e y s entry))
      (value_same x s entry m n g b (left_among A (expression_reads e x s entry) (expression_reads e y s entry) h))
      ∙ ap (notes.apply op (value e x (with_memory s m) (with_memory entry n)))
      (value_same y s entry m n g b (right_among A (expression_reads e x s entry) (expression_reads e y s entry) h))

module _ (A : ℕ → Type 0) (e : Endian) (s entry : State) (m n : Memory) (agree : Agree A s.mem m) (before : Agree A entry.mem n) where
  abbrev t : State
  t = with_memory s m

  abbrev old : State
  old = with_memory entry n

  -- so is the first false line
  pub lines_same : (ls : List NoteLine) → Among A (line_reads e ls s entry) → false_line e ls s entry ≡ false_line e ls t old
  lines_same [] h = refl
  lines_same (l ∷ rest) h =
      by (λ r. lines_same rest r) (is_true (value e l.says s entry)) refl (right_among A (expression_reads e l.says s entry) more h)
    where
      more : List ℕ
      more = if is_true (value e l.says s entry) then line_reads e rest s entry else []

      test : is_true (value e l.says s entry) ≡ is_true (value e l.says t old)
      test = ap is_true (value_same A e l.says s entry m n agree before (left_among A (expression_reads e l.says s entry) more h))

      by : (Among A (line_reads e rest s entry) → false_line e rest s entry ≡ false_line e rest t old) →
          (b : Bool) → is_true (value e l.says s entry) ≡ b → Among A (if is_true (value e l.says s entry) then line_reads e rest s entry else []) →
          (if is_true (value e l.says s entry) then false_line e rest s entry else Some l.line)
          ≡ (if is_true (value e l.says t old) then false_line e rest t old else Some l.line)
      by later true q r =
          ap (λ (b : Bool). if b then false_line e rest s entry else Some l.line) q
          ∙ later (subst (λ (b : Bool). Among A (if b then line_reads e rest s entry else [])) q r)
          ∙ sym (ap (λ (b : Bool). if b then false_line e rest t old else Some l.line) (sym test ∙ q))
      by later false q r =
          ap (λ (b : Bool). if b then false_line e rest s entry else Some l.line) q
          ∙ sym (ap (λ (b : Bool). if b then false_line e rest t old else Some l.line) (sym test ∙ q))

  -- and the first false assert line
  pub asserts_same : (l : List Assert) → Among A (assert_reads e l s entry) → false_assert e l s entry ≡ false_assert e l t old
  asserts_same [] h = refl
  asserts_same (a ∷ rest) h = at (λ r. asserts_same rest r) (a.at == s.pc) refl h
    where
      by : (Among A (assert_reads e rest s entry) → false_assert e rest s entry ≡ false_assert e rest t old) →
          (b : Bool) → is_true (value e a.says s entry) ≡ b → Among A (expression_reads e a.says s entry) →
          Among A (if is_true (value e a.says s entry) then assert_reads e rest s entry else []) →
          (if true && not (is_true (value e a.says s entry)) then Some a.line else false_assert e rest s entry)
          ≡ (if true && not (is_true (value e a.says t old)) then Some a.line else false_assert e rest t old)
      by later true q v r =
          let test : is_true (value e a.says s entry) ≡ is_true (value e a.says t old) = ap is_true (value_same A e a.says s entry m n agree before v) in
          ap (λ (b : Bool). if true && not b then Some a.line else false_assert e rest s entry) q
          ∙ later (subst (λ (b : Bool). Among A (if b then assert_reads e rest s entry else [])) q r)
          ∙ sym (ap (λ (b : Bool). if true && not b then Some a.line else false_assert e rest t old) (sym test ∙ q))
      by later false q v r =
          let test : is_true (value e a.says s entry) ≡ is_true (value e a.says t old) = ap is_true (value_same A e a.says s entry m n agree before v) in
          ap (λ (b : Bool). if true && not b then Some a.line else false_assert e rest s entry) q
          ∙ sym (ap (λ (b : Bool). if true && not b then Some a.line else false_assert e rest t old) (sym test ∙ q))

      at : (Among A (assert_reads e rest s entry) → false_assert e rest s entry ≡ false_assert e rest t old) → (b : Bool) → (a.at == s.pc) ≡ b →
          Among A (if a.at == s.pc
          then expression_reads e a.says s entry ++ (if is_true (value e a.says s entry) then assert_reads e rest s entry else [])
          else assert_reads e rest s entry) →
          (if (a.at == s.pc) && not (is_true (value e a.says s entry)) then Some a.line else false_assert e rest s entry)
          ≡ (if (a.at == s.pc) && not (is_true (value e a.says t old)) then Some a.line else false_assert e rest t old)
      at later true q r =
          let all : Among A (expression_reads e a.says s entry ++ (if is_true (value e a.says s entry) then assert_reads e rest s entry else [])) =
          subst (λ (b : Bool). Among A (if b
          then expression_reads e a.says s entry ++ (if is_true (value e a.says s entry) then assert_reads e rest s entry else [])
          else assert_reads e rest s entry)) q r in
          ap (λ (b : Bool). if b && not (is_true (value e a.says s entry)) then Some a.line else false_assert e rest s entry) q
          ∙ by later (is_true (value e a.says s entry)) refl
          (left_among A (expression_reads e a.says s entry) (if is_true (value e a.says s entry) then assert_reads e rest s entry else []) all)
          (right_among A (expression_reads e a.says s entry) (if is_true (value e a.says s entry) then assert_reads e rest s entry else []) all)
          ∙ sym (ap (λ (b : Bool). if b && not (is_true (value e a.says t old)) then Some a.line else false_assert e rest t old) q)
      at later false q r =
          ap (λ (b : Bool). if b && not (is_true (value e a.says s entry)) then Some a.line else false_assert e rest s entry) q
          ∙ later (subst (λ (b : Bool). Among A (if b
          then expression_reads e a.says s entry ++ (if is_true (value e a.says s entry) then assert_reads e rest s entry else [])
          else assert_reads e rest s entry)) q r)
          ∙ sym (ap (λ (b : Bool). if b && not (is_true (value e a.says t old)) then Some a.line else false_assert e rest t old) q)
