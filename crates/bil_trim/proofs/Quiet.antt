-- A list that stores nothing leaves the memory, and does the same with a known word in place of its loads.
use Rattle.std.proofs.Common.{◌≡◌, refl, ap, sym, ◌∙◌, arith, ℕ, zero, suc, ◌+◌, ◌++◌, List, [], Option, Some, None, Bool, true, false}
use Rattle.std.specs.Prelude.{if◌then◌else◌, ◌&&◌, ◌==◌, ◌/◌, ◌-◌, nat_lt, nat_le}
use Rattle.std.proofs.lemmas.Bool.Decides.{nat_tests}
use mathlib.Core.Path.{fun_ext}
use Rattle.word_spec.specs.Words.{sub}
use Rattle.word_spec.specs.Words as words
use Rattle.word_spec.specs.Memory.{Endian, Memory, load, store, span, byte_of}
use Rattle.machine_spec.specs.Bil.{BilType, Bits, BilVariable, Register, Flag, Mem, Local, BinaryOp, Plus, Minus, Times, Divide, SignedDivide, Modulo, SignedModulo, And, Or, Xor, ShiftLeft, ShiftRight, ShiftSigned, Equal, NotEqual, Less, LessEqual, SignedLess, SignedLessEqual, UnaryOp, Negate, Not, CastKind, Low, High, Signed, Unsigned, Expression, Var, Constant, Load, Store, Binary, Unary, Cast, Let, Unknown, Choose, Extract, Concat, Statements, Empty, Assign, JumpTo, Raise, Special, While, If, total}
use Rattle.machine_spec.specs.Bil as bil
use Rattle.machine_spec.specs.BilCounts.{own_stores, byte_stores, has_no_loop}
use Rattle.machine_spec.specs.BilMeaning.{Value, Word, Bytes, Stuck, Env, get, assign, put_local, load_from, store_value, store_to, on_words, binary, unary, cast_to, unknown, in_env, choose, extract_from, concat_of, evaluate, Position, Ending, Ends, RaisesException, OutOfTurns, Wrong, then_do, assigned, jumped, branch_on, execute}
use Rattle.machine_spec.specs.BilStores.{bytes_at, chosen, stored_in, stored_by, then_stored, list_stored}
use Rattle.bil_trim.specs.Literals.{is_load_of, put_literal, with_literal, IsNoOther, LiteralsKeepMeaning}
use Rattle.bil_trim.proofs.Loads.{all_three, that_load}
use Rattle.bil_trim.proofs.Counted.{either}

-- what a list that stores nothing stores

no_bytes : (n : ℕ) (v : Value) → n ≡ 0 → bytes_at n v ≡ []
no_bytes n (Word k a) e = ap (span a) e
no_bytes n (Bytes m) e = refl
no_bytes n Stuck e = refl

no_env : (o : Option Env) (f : Env → List ℕ) → ((t : Env) → f t ≡ []) → stored_in o f ≡ []
no_env None f h = refl
no_env (Some t) f h = h t

no_side : (v : Value) (x y : List ℕ) → x ≡ [] → y ≡ [] → chosen v x y ≡ []
no_side (Word n zero) x y h i = i
no_side (Word n (suc k)) x y h i = h
no_side (Bytes m) x y h i = refl
no_side Stuck x y h i = refl

two : (x y : List ℕ) → x ≡ [] → y ≡ [] → x ++ y ≡ []
two x y h i = ap (λ (z : List ℕ). z ++ y) h ∙ i

no_then : (d : Ending) (f : Position → List ℕ) → ((t : Position) → f t ≡ []) → then_stored d f ≡ []
no_then (Ends t) f h = h t
no_then (RaisesException n t) f h = refl
no_then (OutOfTurns t) f h = refl
no_then Wrong f h = refl

nothing_by : (x : Expression) (c : ℕ) (t : Env) → total own_stores x ≡ 0 → stored_by x c t ≡ []
nothing_by (Var x) c t h = refl
nothing_by (Constant n w) c t h = refl
nothing_by (Load m b o n) c t h = two _ _ (nothing_by m c t (omega arith)) (nothing_by b c t (omega arith))
nothing_by (Store m b o n w) c t h =
    two _ _ (two _ _ (two _ _ (nothing_by m c t (omega arith)) (nothing_by b c t (omega arith))) (nothing_by w c t (omega arith)))
    (no_bytes (n / 8) (evaluate b c t) (omega arith))
nothing_by (Binary o x y) c t h = two _ _ (nothing_by x c t (omega arith)) (nothing_by y c t (omega arith))
nothing_by (Unary o x) c t h = nothing_by x c t (omega arith)
nothing_by (Cast k n x) c t h = nothing_by x c t (omega arith)
nothing_by (Let k n x y) c t h =
    two _ _ (nothing_by x c t (omega arith)) (no_env (assign (Local k n) (evaluate x c t) t) (stored_by y c) (λ s. nothing_by y c s (omega arith)))
nothing_by (Unknown w) c t h = refl
nothing_by (Choose w x y) c t h =
    two _ _ (nothing_by w c t (omega arith)) (no_side (evaluate w c t) _ _ (nothing_by x c t (omega arith)) (nothing_by y c t (omega arith)))
nothing_by (Extract hi lo x) c t h = nothing_by x c t (omega arith)
nothing_by (Concat x y) c t h = two _ _ (nothing_by x c t (omega arith)) (nothing_by y c t (omega arith))

-- a list without stores stores nothing
pub nothing_stored : (list : Statements) (c : ℕ) (s : Position) → byte_stores list ≡ 0 → list_stored list c s ≡ []
nothing_stored Empty c s h = refl
nothing_stored (Assign x w rest) c s h =
    two _ _ (nothing_by w c s.env (omega arith)) (no_then _ (list_stored rest c) (λ t. nothing_stored rest c t (omega arith)))
nothing_stored (JumpTo w rest) c s h =
    two _ _ (nothing_by w c s.env (omega arith)) (no_then _ (list_stored rest c) (λ t. nothing_stored rest c t (omega arith)))
nothing_stored (Raise n rest) c s h = refl
nothing_stored (Special t rest) c s h = nothing_stored rest c s h
nothing_stored (While w body rest) c s h = refl
nothing_stored (If w x y rest) c s h =
    two _ _ (two _ _ (nothing_by w c s.env (omega arith))
    (no_side (evaluate w c s.env) _ _ (nothing_stored x c s (omega arith)) (nothing_stored y c s (omega arith))))
    (no_then _ (list_stored rest c) (λ t. nothing_stored rest c t (omega arith)))

-- the memories that there are

module _ (m : Memory) where
  abbrev Own : Value → Type 0
  Own v = IsNoOther m v

  -- the memory is this one, and no local word is another
  pub record IsQuiet (t : Env) : Type 0 where
    pub mem : t.mem ≡ m
    pub locals : (x n : ℕ) → IsNoOther m (t.locals x n)

  own_if : (b : Bool) (v w : Value) → Own v → Own w → Own (if b then v else w)
  own_if true v w h i = h
  own_if false v w h i = i

  own_words : (o : BinaryOp) (n x y : ℕ) → Own (on_words o n x y)
  own_words Plus n x y = tt
  own_words Minus n x y = tt
  own_words Times n x y = tt
  own_words Divide n x y = tt
  own_words SignedDivide n x y = tt
  own_words Modulo n x y = tt
  own_words SignedModulo n x y = tt
  own_words And n x y = tt
  own_words Or n x y = tt
  own_words Xor n x y = tt
  own_words ShiftLeft n x y = tt
  own_words ShiftRight n x y = tt
  own_words ShiftSigned n x y = tt
  own_words Equal n x y = tt
  own_words NotEqual n x y = tt
  own_words Less n x y = tt
  own_words LessEqual n x y = tt
  own_words SignedLess n x y = tt
  own_words SignedLessEqual n x y = tt

  own_binary : (o : BinaryOp) (v w : Value) → Own (binary o v w)
  own_binary o (Word n x) (Word k y) = own_if (n == k) (on_words o n x y) Stuck (own_words o n x y) tt
  own_binary o (Word n x) (Bytes b) = tt
  own_binary o (Word n x) Stuck = tt
  own_binary o (Bytes b) w = tt
  own_binary o Stuck w = tt

  own_unary : (o : UnaryOp) (v : Value) → Own (unary o v)
  own_unary Negate (Word n x) = tt
  own_unary Not (Word n x) = tt
  own_unary Negate (Bytes b) = tt
  own_unary Negate Stuck = tt
  own_unary Not (Bytes b) = tt
  own_unary Not Stuck = tt

  own_cast : (k : CastKind) (n : ℕ) (v : Value) → Own (cast_to k n v)
  own_cast Low n (Word w x) = own_if (nat_le n w) (Word n (words.word n x)) Stuck tt tt
  own_cast High n (Word w x) = own_if (nat_le n w) (Word n (words.high w n x)) Stuck tt tt
  own_cast Signed n (Word w x) = own_if (nat_le w n) (Word n (words.sign_extend w n x)) Stuck tt tt
  own_cast Unsigned n (Word w x) = own_if (nat_le w n) (Word n x) Stuck tt tt
  own_cast Low n (Bytes b) = tt
  own_cast High n (Bytes b) = tt
  own_cast Signed n (Bytes b) = tt
  own_cast Unsigned n (Bytes b) = tt
  own_cast Low n Stuck = tt
  own_cast High n Stuck = tt
  own_cast Signed n Stuck = tt
  own_cast Unsigned n Stuck = tt

  own_load : (o : Endian) (n : ℕ) (v w : Value) → Own (load_from o n v w)
  own_load o n (Bytes b) (Word k x) = own_if (k == 32) (Word n (load o (n / 8) b x)) Stuck tt tt
  own_load o n (Bytes b) (Bytes d) = tt
  own_load o n (Bytes b) Stuck = tt
  own_load o n (Word k x) w = tt
  own_load o n Stuck w = tt

  never_below : (x : ℕ) → nat_lt x 0 ≡ false
  never_below x = grind (arith, nat_tests)

  no_store : (o : Endian) (b : Memory) (x y : ℕ) → store o 0 b x y ≡ b
  no_store o b x y = fun_ext (λ i. ap (λ (z : Bool). if z then byte_of o 0 y (sub 32 i x) else b i) (never_below (sub 32 i x)))

  own_bytes : (o : Endian) (n k : ℕ) (b : Memory) (x y : ℕ) → k ≡ 0 → b ≡ m → store o k b x y ≡ m
  own_bytes o n k b x y e h = ap (λ (z : ℕ). store o z b x y) e ∙ no_store o b x y ∙ h

  own_value : (o : Endian) (n : ℕ) (b : Memory) (x : ℕ) (v : Value) → n / 8 ≡ 0 → b ≡ m → Own (store_value o n b x v)
  own_value o n b x (Word k y) e h = own_if (k == n) (Bytes (store o (n / 8) b x y)) Stuck (own_bytes o n (n / 8) b x y e h) tt
  own_value o n b x (Bytes d) e h = tt
  own_value o n b x Stuck e h = tt

  own_store : (o : Endian) (n : ℕ) (u v w : Value) → n / 8 ≡ 0 → Own u → Own (store_to o n u v w)
  own_store o n (Bytes b) (Word k x) w e h = own_if (k == 32) (store_value o n b x w) Stuck (own_value o n b x w e h) tt
  own_store o n (Bytes b) (Bytes d) w e h = tt
  own_store o n (Bytes b) Stuck w e h = tt
  own_store o n (Word k x) v w e h = tt
  own_store o n Stuck v w e h = tt

  own_unknown : (t : BilType) (c : ℕ) → Own (unknown t c)
  own_unknown (Bits n) c = tt
  own_unknown bil.Memory c = tt

  own_choose : (u v w : Value) → Own v → Own w → Own (choose u v w)
  own_choose (Word zero x) v w h i = tt
  own_choose (Word (suc zero) zero) v w h i = i
  own_choose (Word (suc zero) (suc x)) v w h i = h
  own_choose (Word (suc (suc n)) x) v w h i = tt
  own_choose (Bytes b) v w h i = tt
  own_choose Stuck v w h i = tt

  own_extract : (hi lo : ℕ) (v : Value) → Own (extract_from hi lo v)
  own_extract hi lo (Word n x) = own_if (nat_le lo hi && nat_lt hi n) (Word (hi - lo + 1) (words.bits hi lo x)) Stuck tt tt
  own_extract hi lo (Bytes b) = tt
  own_extract hi lo Stuck = tt

  own_concat : (v w : Value) → Own (concat_of v w)
  own_concat (Word n x) (Word k y) = tt
  own_concat (Word n x) (Bytes b) = tt
  own_concat (Word n x) Stuck = tt
  own_concat (Bytes b) w = tt
  own_concat Stuck w = tt

  quiet_local : (t : Env) (x n v : ℕ) → IsQuiet t → IsQuiet (record t { locals = put_local x n v t.locals })
  quiet_local t x n v q = record { mem = q.mem; locals = λ y k. own_if ((y == x) && (k == n)) (Word n v) (t.locals y k) tt (q.locals y k) }

  -- what holds of each value in a quiet environment
  in_if : (b : Bool) (t : Env) (f : Env → Value) → ((s : Env) → IsQuiet s → Own (f s)) → IsQuiet t → Own (in_env (if b then Some t else None) f)
  in_if true t f h q = h t q
  in_if false t f h q = tt

  in_let : (x n : ℕ) (v : Value) (t : Env) (f : Env → Value) → ((s : Env) → IsQuiet s → Own (f s)) → IsQuiet t → Own (in_env (assign (Local x n) v t) f)
  in_let x n (Word k w) t f h q = in_if (k == n) (record t { locals = put_local x n w t.locals }) f h (quiet_local t x n w q)
  in_let x n (Bytes b) t f h q = tt
  in_let x n Stuck t f h q = tt

  own_variable : (x : BilVariable) (t : Env) → IsQuiet t → Own (get x t)
  own_variable (Register b r) t q = tt
  own_variable (Flag f) t q = tt
  own_variable Mem t q = q.mem
  own_variable (Local x n) t q = q.locals x n

  -- an expression without stores is no other memory
  own_result : (x : Expression) (c : ℕ) (t : Env) → total own_stores x ≡ 0 → IsQuiet t → Own (evaluate x c t)
  own_result (Var x) c t h q = own_variable x t q
  own_result (Constant n w) c t h q = tt
  own_result (Load b d o n) c t h q = own_load o n (evaluate b c t) (evaluate d c t)
  own_result (Store b d o n w) c t h q =
      own_store o n (evaluate b c t) (evaluate d c t) (evaluate w c t) (omega arith) (own_result b c t (omega arith) q)
  own_result (Binary o x y) c t h q = own_binary o (evaluate x c t) (evaluate y c t)
  own_result (Unary o x) c t h q = own_unary o (evaluate x c t)
  own_result (Cast k n x) c t h q = own_cast k n (evaluate x c t)
  own_result (Let k n x y) c t h q = in_let k n (evaluate x c t) t (evaluate y c) (λ s p. own_result y c s (omega arith) p) q
  own_result (Unknown w) c t h q = own_unknown w c
  own_result (Choose w x y) c t h q =
      own_choose (evaluate w c t) (evaluate x c t) (evaluate y c t) (own_result x c t (omega arith) q) (own_result y c t (omega arith) q)
  own_result (Extract hi lo x) c t h q = own_extract hi lo (evaluate x c t)
  own_result (Concat x y) c t h q = own_concat (evaluate x c t) (evaluate y c t)

  -- an end is quiet
  abbrev EndsQuiet : Ending → Type 0
  EndsQuiet (Ends s) = IsQuiet s.env
  EndsQuiet (RaisesException n s) = Unit {0}
  EndsQuiet (OutOfTurns s) = Unit {0}
  EndsQuiet Wrong = Unit {0}

  quiet_if : (b : Bool) (t : Env) (s : Position) → IsQuiet t → EndsQuiet (assigned (if b then Some t else None) s)
  quiet_if true t s q = q
  quiet_if false t s q = tt

  quiet_assigned : (x : BilVariable) (v : Value) (s : Position) → Own v → IsQuiet s.env → EndsQuiet (assigned (assign x v s.env) s)
  quiet_assigned (Register b r) (Word n v) s h q = quiet_if (n == 32) _ s (record { mem = q.mem; locals = q.locals })
  quiet_assigned (Register b r) (Bytes d) s h q = tt
  quiet_assigned (Register b r) Stuck s h q = tt
  quiet_assigned (Flag f) (Word n v) s h q = quiet_if (n == 1) _ s (record { mem = q.mem; locals = q.locals })
  quiet_assigned (Flag f) (Bytes d) s h q = tt
  quiet_assigned (Flag f) Stuck s h q = tt
  quiet_assigned Mem (Bytes d) s h q = record { mem = h; locals = q.locals }
  quiet_assigned Mem (Word n v) s h q = tt
  quiet_assigned Mem Stuck s h q = tt
  quiet_assigned (Local x k) (Word n v) s h q = quiet_if (n == k) _ s (quiet_local s.env x k v q)
  quiet_assigned (Local x k) (Bytes d) s h q = tt
  quiet_assigned (Local x k) Stuck s h q = tt

  quiet_to : (b : Bool) (v : ℕ) (s : Position) → IsQuiet s.env → EndsQuiet (if b then Ends (record s { jump = Some v }) else Wrong)
  quiet_to true v s q = q
  quiet_to false v s q = tt

  quiet_jumped : (v : Value) (s : Position) → IsQuiet s.env → EndsQuiet (jumped v s)
  quiet_jumped (Word n v) s q = quiet_to (n == 32) v s q
  quiet_jumped (Bytes d) s q = tt
  quiet_jumped Stuck s q = tt

  quiet_branch : (v : Value) (x y : Ending) → EndsQuiet x → EndsQuiet y → EndsQuiet (branch_on v x y)
  quiet_branch (Word zero w) x y h i = tt
  quiet_branch (Word (suc zero) zero) x y h i = i
  quiet_branch (Word (suc zero) (suc w)) x y h i = h
  quiet_branch (Word (suc (suc n)) w) x y h i = tt
  quiet_branch (Bytes d) x y h i = tt
  quiet_branch Stuck x y h i = tt

  quiet_then : (d : Ending) (f : Position → Ending) → EndsQuiet d → ((s : Position) → IsQuiet s.env → EndsQuiet (f s)) → EndsQuiet (then_do d f)
  quiet_then (Ends s) f q h = h s q
  quiet_then (RaisesException n s) f q h = tt
  quiet_then (OutOfTurns s) f q h = tt
  quiet_then Wrong f q h = tt

  -- a list without loops and stores ends with the memory that it began with
  pub quiet_end : (list : Statements) (c : ℕ) (s : Position) → has_no_loop list ≡ true → byte_stores list ≡ 0 → IsQuiet s.env → EndsQuiet (execute list c s)
  quiet_end Empty c s free h q = q
  quiet_end (Assign x w rest) c s free h q =
      quiet_then _ (execute rest c) (quiet_assigned x (evaluate w c s.env) s (own_result w c s.env (omega arith) q) q)
      (λ t p. quiet_end rest c t free (omega arith) p)
  quiet_end (JumpTo w rest) c s free h q =
      quiet_then _ (execute rest c) (quiet_jumped (evaluate w c s.env) s q) (λ t p. quiet_end rest c t free (omega arith) p)
  quiet_end (Raise n rest) c s free h q = tt
  quiet_end (Special t rest) c s free h q = quiet_end rest c s free h q
  quiet_end (While w body rest) c s free h q = absurd (cc)
  quiet_end (If w x y rest) c s free h q =
      let o = all_three (has_no_loop x) (has_no_loop y) (has_no_loop rest) free in
      quiet_then _ (execute rest c)
      (quiet_branch (evaluate w c s.env) (execute x c s) (execute y c s) (quiet_end x c s o.0 (omega arith) q) (quiet_end y c s o.1 (omega arith) q))
      (λ t p. quiet_end rest c t o.2 (omega arith) p)

  then_same : (d : Ending) (f g : Position → Ending) → EndsQuiet d → ((s : Position) → IsQuiet s.env → f s ≡ g s) → then_do d f ≡ then_do d g
  then_same (Ends s) f g q h = h s q
  then_same (RaisesException n s) f g q h = refl
  then_same (OutOfTurns s) f g q h = refl
  then_same Wrong f g q h = refl

  module _ (e : Endian) (a v : ℕ) (has : load e 4 m a ≡ v) where
    env_if : (b : Bool) (t : Env) (f g : Env → Value) → ((s : Env) → s.mem ≡ m → f s ≡ g s) → t.mem ≡ m →
        in_env (if b then Some t else None) f ≡ in_env (if b then Some t else None) g
    env_if true t f g h q = h t q
    env_if false t f g h q = refl

    env_let : (x n : ℕ) (w : Value) (t : Env) (f g : Env → Value) → ((s : Env) → s.mem ≡ m → f s ≡ g s) → t.mem ≡ m →
        in_env (assign (Local x n) w t) f ≡ in_env (assign (Local x n) w t) g
    env_let x n (Word k w) t f g h q = env_if (k == n) (record t { locals = put_local x n w t.locals }) f g h q
    env_let x n (Bytes b) t f g h q = refl
    env_let x n Stuck t f g h q = refl

    -- the load of the word gives it
    loaded : (b d : Expression) (o : Endian) (n c : ℕ) (t : Env) → t.mem ≡ m → b ≡ Var Mem → d ≡ Constant 32 a → o ≡ e → n ≡ 32 →
        evaluate (Constant 32 v) c t ≡ evaluate (Load b d o n) c t
    loaded b d o n c t q p r s l =
        ap (λ (z : ℕ). Word 32 z) (sym has ∙ ap (λ (z : Memory). load e 4 z a) (sym q))
        ∙ ap (λ (z : Endian). evaluate (Load (Var Mem) (Constant 32 a) z 32) c t) (sym s)
        ∙ ap (λ (z : Expression). evaluate (Load z (Constant 32 a) o 32) c t) (sym p)
        ∙ ap (λ (z : Expression). evaluate (Load b z o 32) c t) (sym r)
        ∙ ap (λ (z : ℕ). evaluate (Load b d o z) c t) (sym l)

    -- an expression has the same value with the word in place of its loads
    value_same : (x : Expression) (c : ℕ) (t : Env) → t.mem ≡ m → evaluate (put_literal e a v x) c t ≡ evaluate x c t
    value_same (Var x) c t q = refl
    value_same (Constant n w) c t q = refl
    value_same (Load b d o n) c t q =
        either e a v (λ z. evaluate z c t ≡ evaluate (Load b d o n) c t) (is_load_of e a b d o n) (Constant 32 v)
        (Load (put_literal e a v b) (put_literal e a v d) o n)
        (λ h. let l = that_load e a b d o n h in loaded b d o n c t q l.0 l.1 l.2 l.3)
        (λ h. ap (λ (z : Value). load_from o n z (evaluate (put_literal e a v d) c t)) (value_same b c t q)
        ∙ ap (λ (z : Value). load_from o n (evaluate b c t) z) (value_same d c t q))
    value_same (Store b d o n w) c t q =
        ap (λ (z : Value). store_to o n z (evaluate (put_literal e a v d) c t) (evaluate (put_literal e a v w) c t)) (value_same b c t q)
        ∙ ap (λ (z : Value). store_to o n (evaluate b c t) z (evaluate (put_literal e a v w) c t)) (value_same d c t q)
        ∙ ap (λ (z : Value). store_to o n (evaluate b c t) (evaluate d c t) z) (value_same w c t q)
    value_same (Binary o x y) c t q =
        ap (λ (z : Value). binary o z (evaluate (put_literal e a v y) c t)) (value_same x c t q)
        ∙ ap (λ (z : Value). binary o (evaluate x c t) z) (value_same y c t q)
    value_same (Unary o x) c t q = ap (λ (z : Value). unary o z) (value_same x c t q)
    value_same (Cast k n x) c t q = ap (λ (z : Value). cast_to k n z) (value_same x c t q)
    value_same (Let k n x y) c t q =
        ap (λ (z : Value). in_env (assign (Local k n) z t) (evaluate (put_literal e a v y) c)) (value_same x c t q)
        ∙ env_let k n (evaluate x c t) t (evaluate (put_literal e a v y) c) (evaluate y c) (λ s p. value_same y c s p) q
    value_same (Unknown w) c t q = refl
    value_same (Choose w x y) c t q =
        ap (λ (z : Value). choose z (evaluate (put_literal e a v x) c t) (evaluate (put_literal e a v y) c t)) (value_same w c t q)
        ∙ ap (λ (z : Value). choose (evaluate w c t) z (evaluate (put_literal e a v y) c t)) (value_same x c t q)
        ∙ ap (λ (z : Value). choose (evaluate w c t) (evaluate x c t) z) (value_same y c t q)
    value_same (Extract hi lo x) c t q = ap (λ (z : Value). extract_from hi lo z) (value_same x c t q)
    value_same (Concat x y) c t q =
        ap (λ (z : Value). concat_of z (evaluate (put_literal e a v y) c t)) (value_same x c t q)
        ∙ ap (λ (z : Value). concat_of (evaluate x c t) z) (value_same y c t q)

    pub list_same : (list : Statements) (c : ℕ) (s : Position) → has_no_loop list ≡ true → byte_stores list ≡ 0 → IsQuiet s.env →
        execute (with_literal e a v list) c s ≡ execute list c s
    list_same Empty c s free h q = refl
    list_same (Assign x w rest) c s free h q =
        ap (λ (z : Value). then_do (assigned (assign x z s.env) s) (execute (with_literal e a v rest) c)) (value_same w c s.env q.mem)
        ∙ then_same _ (execute (with_literal e a v rest) c) (execute rest c)
        (quiet_assigned x (evaluate w c s.env) s (own_result w c s.env (omega arith) q) q) (λ t p. list_same rest c t free (omega arith) p)
    list_same (JumpTo w rest) c s free h q =
        ap (λ (z : Value). then_do (jumped z s) (execute (with_literal e a v rest) c)) (value_same w c s.env q.mem)
        ∙ then_same _ (execute (with_literal e a v rest) c) (execute rest c) (quiet_jumped (evaluate w c s.env) s q)
        (λ t p. list_same rest c t free (omega arith) p)
    list_same (Raise n rest) c s free h q = refl
    list_same (Special t rest) c s free h q = list_same rest c s free h q
    list_same (While w body rest) c s free h q = absurd (cc)
    list_same (If w x y rest) c s free h q =
        let o = all_three (has_no_loop x) (has_no_loop y) (has_no_loop rest) free in
        ap (λ (z : Value). then_do (branch_on z (execute (with_literal e a v x) c s) (execute (with_literal e a v y) c s))
        (execute (with_literal e a v rest) c))
        (value_same w c s.env q.mem)
        ∙ ap (λ (z : Ending). then_do (branch_on (evaluate w c s.env) z (execute (with_literal e a v y) c s)) (execute (with_literal e a v rest) c))
        (list_same x c s o.0 (omega arith) q)
        ∙ ap (λ (z : Ending). then_do (branch_on (evaluate w c s.env) (execute x c s) z) (execute (with_literal e a v rest) c))
        (list_same y c s o.1 (omega arith) q)
        ∙ then_same _ (execute (with_literal e a v rest) c) (execute rest c)
        (quiet_branch (evaluate w c s.env) (execute x c s) (execute y c s) (quiet_end x c s o.0 (omega arith) q) (quiet_end y c s o.1 (omega arith) q))
        (λ t p. list_same rest c t o.2 (omega arith) p)

pub literals_keep_meaning : LiteralsKeepMeaning
literals_keep_meaning e a v list c s free h has locals = list_same s.env.mem e a v has list c s free h (record { mem = refl; locals = locals })
