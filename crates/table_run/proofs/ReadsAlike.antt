-- What lines read is the same over memories that are the same there.
use Rattle.std.proofs.Common.{◌≡◌, ℕ, refl, ap, ◌∙◌, List, [], ◌∷◌, ◌++◌, Bool, true, false}
use Rattle.std.specs.Prelude.{◌==◌, if◌then◌else◌}
use Rattle.word_spec.specs.Words.{word}
use Rattle.word_spec.specs.Memory.{Endian, Memory, span}
use Rattle.word_spec.specs.State.{State}
use Rattle.machine_spec.specs.MachineLaws.{with_memory}
use Rattle.bilv_spec.specs.Notes as notes
use Rattle.bilv_spec.specs.Notes.{Expr, Number, Register, Flag, Pc, Bound, Old, Not, Binary, NoteLine, Assert, value, is_true}
use Rattle.model_spec.specs.Reads.{expression_reads, line_reads, assert_reads}
use Rattle.model_spec.proofs.Alike.{Among, Agree, left_among, right_among, value_same}

module _ (A : ℕ → Type 0) (e : Endian) where
  expression_alike : (x : Expr) (s entry : State) (m n : Memory) → Agree A s.mem m → Agree A entry.mem n → Among A (expression_reads e x s entry) →
      expression_reads e x s entry ≡ expression_reads e x (with_memory s m) (with_memory entry n)
  expression_alike (Number v) s entry m n g b h = refl
  expression_alike (Register r) s entry m n g b h = refl
  expression_alike (Flag f) s entry m n g b h = refl
  expression_alike Pc s entry m n g b h = refl
  expression_alike Bound s entry m n g b h = refl
  expression_alike (notes.Memory bytes x) s entry m n g b h =
      let inner = left_among A (expression_reads e x s entry) (span (word 32 (value e x s entry)) bytes) h in
      ap (λ z. z ++ span (word 32 (value e x s entry)) bytes) (expression_alike x s entry m n g b inner)
      ∙ ap (λ z. expression_reads e x (with_memory s m) (with_memory entry n) ++ span (word 32 z) bytes) (value_same A e x s entry m n g b inner)
  expression_alike (Old x) s entry m n g b h = expression_alike x entry entry n n b b h
  expression_alike (Not x) s entry m n g b h = expression_alike x s entry m n g b h
  expression_alike (Binary op x y) s entry m n g b h =
      ap (λ z. z ++ expression_reads e y s entry)
      (expression_alike x s entry m n g b (left_among A (expression_reads e x s entry) (expression_reads e y s entry) h))
      ∙ ap (λ z. expression_reads e x (with_memory s m) (with_memory entry n) ++ z)
      (expression_alike y s entry m n g b (right_among A (expression_reads e x s entry) (expression_reads e y s entry) h))

module _ (A : ℕ → Type 0) (e : Endian) (s entry : State) (m n : Memory) (agree : Agree A s.mem m) (before : Agree A entry.mem n) where
  abbrev t : State
  t = with_memory s m

  abbrev old : State
  old = with_memory entry n

  -- what a line reads, and the others where it is true
  one_alike : (x : Expr) (rest other : List ℕ) → Among A (expression_reads e x s entry ++ (if is_true (value e x s entry) then rest else [])) →
      (Among A rest → rest ≡ other) →
      expression_reads e x s entry ++ (if is_true (value e x s entry) then rest else [])
      ≡ expression_reads e x t old ++ (if is_true (value e x t old) then other else [])
  one_alike x rest other h later =
      let reads : List ℕ = expression_reads e x s entry in
      let first = left_among A reads (if is_true (value e x s entry) then rest else []) h in
      let test : is_true (value e x s entry) ≡ is_true (value e x t old) = ap is_true (value_same A e x s entry m n agree before first) in
      ap (λ z. z ++ (if is_true (value e x s entry) then rest else [])) (expression_alike A e x s entry m n agree before first)
      ∙ ap (λ z. expression_reads e x t old ++ z)
      (by (is_true (value e x s entry)) (right_among A reads (if is_true (value e x s entry) then rest else []) h)
      ∙ ap (λ (b : Bool). if b then other else []) test)
    where
      by : (b : Bool) → Among A (if b then rest else []) → (if b then rest else []) ≡ (if b then other else [])
      by true h = later h
      by false h = refl

  pub lines_alike : (ls : List NoteLine) → Among A (line_reads e ls s entry) → line_reads e ls s entry ≡ line_reads e ls t old
  lines_alike [] h = refl
  lines_alike (l ∷ rest) h = one_alike l.says (line_reads e rest s entry) (line_reads e rest t old) h (lines_alike rest)

  pub asserts_alike : (ls : List Assert) → Among A (assert_reads e ls s entry) → assert_reads e ls s entry ≡ assert_reads e ls t old
  asserts_alike [] h = refl
  asserts_alike (a ∷ rest) h = at (asserts_alike rest) (a.at == s.pc) h
    where
      at : (Among A (assert_reads e rest s entry) → assert_reads e rest s entry ≡ assert_reads e rest t old) → (b : Bool) → Among A (if b
          then expression_reads e a.says s entry ++ (if is_true (value e a.says s entry) then assert_reads e rest s entry else [])
          else assert_reads e rest s entry) →
          (if b then expression_reads e a.says s entry ++ (if is_true (value e a.says s entry) then assert_reads e rest s entry else [])
          else assert_reads e rest s entry)
          ≡ (if b then expression_reads e a.says t old ++ (if is_true (value e a.says t old) then assert_reads e rest t old else [])
          else assert_reads e rest t old)
      at later true h = one_alike a.says (assert_reads e rest s entry) (assert_reads e rest t old) h later
      at later false h = later h
