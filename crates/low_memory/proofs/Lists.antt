-- Lists of statements see no more of the memory than machines.
use Rattle.std.proofs.Common.{◌≡◌, ℕ, zero, suc, ◌+◌, ◌-◌, ◌%◌, ◌/◌, ◌^◌, Bool, true, false, List, [], ◌++◌, Option, Some, None, refl, ap, ◌∙◌, arith}
use Rattle.std.specs.Prelude.{nat_lt, nat_le, ◌==◌, ◌&&◌, if◌then◌else◌}
use Rattle.std.proofs.Math.Path.{fun_ext}
use Rattle.word_spec.specs.Words as words
use Rattle.word_spec.specs.State as state
use Rattle.word_spec.specs.Memory as memory
use Rattle.word_spec.specs.Memory.{Endian}
use Rattle.machine_spec.specs.Bil.{BilType, Bits, Memory, BilVariable, Register, Flag, Mem, Local, BinaryOp, Plus, Minus, Times, Divide, SignedDivide, Modulo, SignedModulo, And, Or, Xor, ShiftLeft, ShiftRight, ShiftSigned, Equal, NotEqual, Less, LessEqual, SignedLess, SignedLessEqual, UnaryOp, Negate, Not, CastKind, Low, High, Signed, Unsigned, Expression, Var, Constant, Load, Store, Binary, Unary, Cast, Let, Unknown, Choose, Extract, Concat, Statements, Empty, Assign, JumpTo, Raise, Special, While, If}
use Rattle.machine_spec.specs.BilMeaning.{Value, Word, Bytes, Stuck, Env, Position, Ending, Ends, RaisesException, OutOfTurns, Wrong, get, put_local, assign, on_words, binary, unary, cast_to, load_from, store_value, store_to, extract_from, concat_of, unknown, choose, in_env, evaluate, then_do, assigned, jumped, branch_on, spend, loop, execute}
use Rattle.machine_spec.specs.BilStores.{bytes_at, chosen, stored_in, stored_by, then_stored, list_stored}
use Rattle.low_memory.specs.LowMemory.{low, low_value, low_env, low_some, low_position, low_ending, ListsSeeLow}

pub low_again : (k : ℕ) → k % 2 ^ 32 % 2 ^ 32 ≡ k % 2 ^ 32
low_again k = omega arith

low_distance : (x a : ℕ) → words.sub 32 x a ≡ words.sub 32 (x % 2 ^ 32) a
low_distance x a = omega arith

pub load_low : (e : Endian) (n : ℕ) (m : memory.Memory) (a : ℕ) → memory.load e n (low m) a ≡ memory.load e n m a
load_low e n m a = ap (λ f. memory.number e n f) (fun_ext (λ i. ap m (low_again (a + i))))

store_low : (e : Endian) (n : ℕ) (m : memory.Memory) (a v : ℕ) → memory.store e n (low m) a v ≡ low (memory.store e n m a v)
store_low e n m a v = fun_ext (λ x. ap (λ k. if nat_lt k n then memory.byte_of e n v k else m (x % 2 ^ 32)) (low_distance x a))

value_if : (b : Bool) (x y : Value) → x ≡ low_value y → (if b then x else Stuck) ≡ low_value (if b then y else Stuck)
value_if true x y h = h
value_if false x y h = refl

on_words_low : (o : BinaryOp) (n a b : ℕ) → on_words o n a b ≡ low_value (on_words o n a b)
on_words_low Plus n a b = refl
on_words_low Minus n a b = refl
on_words_low Times n a b = refl
on_words_low Divide n a b = refl
on_words_low SignedDivide n a b = refl
on_words_low Modulo n a b = refl
on_words_low SignedModulo n a b = refl
on_words_low And n a b = refl
on_words_low Or n a b = refl
on_words_low Xor n a b = refl
on_words_low ShiftLeft n a b = refl
on_words_low ShiftRight n a b = refl
on_words_low ShiftSigned n a b = refl
on_words_low Equal n a b = refl
on_words_low NotEqual n a b = refl
on_words_low Less n a b = refl
on_words_low LessEqual n a b = refl
on_words_low SignedLess n a b = refl
on_words_low SignedLessEqual n a b = refl

binary_low : (o : BinaryOp) (a b : Value) → binary o (low_value a) (low_value b) ≡ low_value (binary o a b)
binary_low o (Word n a) (Word m b) = value_if (n == m) _ (on_words o n a b) (on_words_low o n a b)
binary_low o (Word n a) (Bytes m) = refl
binary_low o (Word n a) Stuck = refl
binary_low o (Bytes m) b = refl
binary_low o Stuck b = refl

unary_low : (o : UnaryOp) (a : Value) → unary o (low_value a) ≡ low_value (unary o a)
unary_low Negate (Word n a) = refl
unary_low Negate (Bytes m) = refl
unary_low Negate Stuck = refl
unary_low Not (Word n a) = refl
unary_low Not (Bytes m) = refl
unary_low Not Stuck = refl

cast_low : (k : CastKind) (m : ℕ) (a : Value) → cast_to k m (low_value a) ≡ low_value (cast_to k m a)
cast_low Low m (Word n a) = value_if (nat_le m n) _ (Word m (words.word m a)) refl
cast_low Low m (Bytes b) = refl
cast_low Low m Stuck = refl
cast_low High m (Word n a) = value_if (nat_le m n) _ (Word m (words.high n m a)) refl
cast_low High m (Bytes b) = refl
cast_low High m Stuck = refl
cast_low Signed m (Word n a) = value_if (nat_le n m) _ (Word m (words.sign_extend n m a)) refl
cast_low Signed m (Bytes b) = refl
cast_low Signed m Stuck = refl
cast_low Unsigned m (Word n a) = value_if (nat_le n m) _ (Word m a) refl
cast_low Unsigned m (Bytes b) = refl
cast_low Unsigned m Stuck = refl

load_from_low : (e : Endian) (n : ℕ) (m a : Value) → load_from e n (low_value m) (low_value a) ≡ low_value (load_from e n m a)
load_from_low e n (Bytes m) (Word k a) = value_if (k == 32) _ (Word n (memory.load e (n / 8) m a)) (ap (λ v. Word n v) (load_low e (n / 8) m a))
load_from_low e n (Bytes m) (Bytes b) = refl
load_from_low e n (Bytes m) Stuck = refl
load_from_low e n (Word k a) v = refl
load_from_low e n Stuck v = refl

store_value_low : (e : Endian) (n : ℕ) (m : memory.Memory) (a : ℕ) (v : Value) → store_value e n (low m) a (low_value v) ≡ low_value (store_value e n m a v)
store_value_low e n m a (Word k v) = value_if (k == n) _ (Bytes (memory.store e (n / 8) m a v)) (ap (λ z. Bytes z) (store_low e (n / 8) m a v))
store_value_low e n m a (Bytes b) = refl
store_value_low e n m a Stuck = refl

store_to_low : (e : Endian) (n : ℕ) (m a v : Value) → store_to e n (low_value m) (low_value a) (low_value v) ≡ low_value (store_to e n m a v)
store_to_low e n (Bytes m) (Word k a) v = value_if (k == 32) _ (store_value e n m a v) (store_value_low e n m a v)
store_to_low e n (Bytes m) (Bytes b) v = refl
store_to_low e n (Bytes m) Stuck v = refl
store_to_low e n (Word k a) w v = refl
store_to_low e n Stuck w v = refl

extract_low : (hi lo : ℕ) (a : Value) → extract_from hi lo (low_value a) ≡ low_value (extract_from hi lo a)
extract_low hi lo (Word n a) = value_if (nat_le lo hi && nat_lt hi n) _ (Word (hi - lo + 1) (words.bits hi lo a)) refl
extract_low hi lo (Bytes m) = refl
extract_low hi lo Stuck = refl

concat_low : (a b : Value) → concat_of (low_value a) (low_value b) ≡ low_value (concat_of a b)
concat_low (Word n a) (Word m b) = refl
concat_low (Word n a) (Bytes m) = refl
concat_low (Word n a) Stuck = refl
concat_low (Bytes m) v = refl
concat_low Stuck v = refl

unknown_low : (t : BilType) (c : ℕ) → unknown t c ≡ low_value (unknown t c)
unknown_low (Bits n) c = refl
unknown_low Memory c = refl

choose_low : (c a b : Value) → choose (low_value c) (low_value a) (low_value b) ≡ low_value (choose c a b)
choose_low (Word zero v) a b = refl
choose_low (Word (suc zero) zero) a b = refl
choose_low (Word (suc zero) (suc v)) a b = refl
choose_low (Word (suc (suc n)) v) a b = refl
choose_low (Bytes m) a b = refl
choose_low Stuck a b = refl

some_if : (b : Bool) (x : Option Env) (y : Env) → x ≡ Some (low_env y) → (if b then x else None) ≡ low_some (if b then Some y else None)
some_if true x y h = h
some_if false x y h = refl

either_if : (b : Bool) (x y : Value) → (if b then low_value x else low_value y) ≡ low_value (if b then x else y)
either_if true x y = refl
either_if false x y = refl

put_low : (x n v : ℕ) (f : ℕ → ℕ → Value) → put_local x n v (λ y m. low_value (f y m)) ≡ (λ y m. low_value (put_local x n v f y m))
put_low x n v f = fun_ext (λ y. fun_ext (λ m. either_if ((y == x) && (m == n)) (Word n v) (f y m)))

assign_low : (x : BilVariable) (v : Value) (e : Env) → assign x (low_value v) (low_env e) ≡ low_some (assign x v e)
assign_low (Register b r) (Word n v) e = some_if (n == 32) _ (record e { regs = state.put e.regs r v }) refl
assign_low (Register b r) (Bytes m) e = refl
assign_low (Register b r) Stuck e = refl
assign_low (Flag f) (Word n v) e = some_if (n == 1) _ (record e { flags = state.put e.flags f v }) refl
assign_low (Flag f) (Bytes m) e = refl
assign_low (Flag f) Stuck e = refl
assign_low Mem (Bytes m) e = refl
assign_low Mem (Word n v) e = refl
assign_low Mem Stuck e = refl
assign_low (Local x k) (Word n v) e =
    some_if (n == k) _ (record e { locals = put_local x k v e.locals })
    (ap (λ (l : ℕ → ℕ → Value). Some (record { regs = e.regs; flags = e.flags; mem = low e.mem; locals = l })) (put_low x k v e.locals))
assign_low (Local x k) (Bytes m) e = refl
assign_low (Local x k) Stuck e = refl

in_low : (o : Option Env) (f : Env → Value) → ((e : Env) → f (low_env e) ≡ low_value (f e)) → in_env (low_some o) f ≡ low_value (in_env o f)
in_low None f h = refl
in_low (Some e) f h = h e

get_low : (x : BilVariable) (e : Env) → get x (low_env e) ≡ low_value (get x e)
get_low (Register b r) e = refl
get_low (Flag f) e = refl
get_low Mem e = refl
get_low (Local x n) e = refl

pub evaluate_low : (e : Expression) (c : ℕ) (v : Env) → evaluate e c (low_env v) ≡ low_value (evaluate e c v)
evaluate_low (Var x) c v = get_low x v
evaluate_low (Constant n k) c v = refl
evaluate_low (Load m a o n) c v =
    ap (λ z. load_from o n z (evaluate a c (low_env v))) (evaluate_low m c v) ∙ ap (λ z. load_from o n (low_value (evaluate m c v)) z) (evaluate_low a c v)
    ∙ load_from_low o n (evaluate m c v) (evaluate a c v)
evaluate_low (Store m a o n w) c v =
    ap (λ z. store_to o n z (evaluate a c (low_env v)) (evaluate w c (low_env v))) (evaluate_low m c v)
    ∙ ap (λ z. store_to o n (low_value (evaluate m c v)) z (evaluate w c (low_env v))) (evaluate_low a c v)
    ∙ ap (λ z. store_to o n (low_value (evaluate m c v)) (low_value (evaluate a c v)) z) (evaluate_low w c v)
    ∙ store_to_low o n (evaluate m c v) (evaluate a c v) (evaluate w c v)
evaluate_low (Binary o a b) c v =
    ap (λ z. binary o z (evaluate b c (low_env v))) (evaluate_low a c v) ∙ ap (λ z. binary o (low_value (evaluate a c v)) z) (evaluate_low b c v)
    ∙ binary_low o (evaluate a c v) (evaluate b c v)
evaluate_low (Unary o a) c v = ap (λ z. unary o z) (evaluate_low a c v) ∙ unary_low o (evaluate a c v)
evaluate_low (Cast k n a) c v = ap (λ z. cast_to k n z) (evaluate_low a c v) ∙ cast_low k n (evaluate a c v)
evaluate_low (Let x n a b) c v =
    ap (λ z. in_env (assign (Local x n) z (low_env v)) (evaluate b c)) (evaluate_low a c v)
    ∙ ap (λ o. in_env o (evaluate b c)) (assign_low (Local x n) (evaluate a c v) v)
    ∙ in_low (assign (Local x n) (evaluate a c v) v) (evaluate b c) (λ w. evaluate_low b c w)
evaluate_low (Unknown t) c v = unknown_low t c
evaluate_low (Choose t a b) c v =
    ap (λ z. choose z (evaluate a c (low_env v)) (evaluate b c (low_env v))) (evaluate_low t c v)
    ∙ ap (λ z. choose (low_value (evaluate t c v)) z (evaluate b c (low_env v))) (evaluate_low a c v)
    ∙ ap (λ z. choose (low_value (evaluate t c v)) (low_value (evaluate a c v)) z) (evaluate_low b c v)
    ∙ choose_low (evaluate t c v) (evaluate a c v) (evaluate b c v)
evaluate_low (Extract hi lo a) c v = ap (λ z. extract_from hi lo z) (evaluate_low a c v) ∙ extract_low hi lo (evaluate a c v)
evaluate_low (Concat a b) c v =
    ap (λ z. concat_of z (evaluate b c (low_env v))) (evaluate_low a c v) ∙ ap (λ z. concat_of (low_value (evaluate a c v)) z) (evaluate_low b c v)
    ∙ concat_low (evaluate a c v) (evaluate b c v)

ending_if : (b : Bool) (x y : Ending) → x ≡ low_ending y → (if b then x else Wrong) ≡ low_ending (if b then y else Wrong)
ending_if true x y h = h
ending_if false x y h = refl

then_low : (x : Ending) (f : Position → Ending) → ((p : Position) → f (low_position p) ≡ low_ending (f p)) →
    then_do (low_ending x) f ≡ low_ending (then_do x f)
then_low (Ends p) f h = h p
then_low (RaisesException n p) f h = refl
then_low (OutOfTurns p) f h = refl
then_low Wrong f h = refl

assigned_low : (o : Option Env) (s : Position) → assigned (low_some o) (low_position s) ≡ low_ending (assigned o s)
assigned_low None s = refl
assigned_low (Some e) s = refl

jumped_low : (v : Value) (s : Position) → jumped (low_value v) (low_position s) ≡ low_ending (jumped v s)
jumped_low (Word n v) s = ending_if (n == 32) _ (Ends (record s { jump = Some v })) refl
jumped_low (Bytes m) s = refl
jumped_low Stuck s = refl

branch_low : (v : Value) (a b x y : Ending) → a ≡ low_ending x → b ≡ low_ending y → branch_on (low_value v) a b ≡ low_ending (branch_on v x y)
branch_low (Word zero v) a b x y p q = refl
branch_low (Word (suc zero) zero) a b x y p q = q
branch_low (Word (suc zero) (suc v)) a b x y p q = p
branch_low (Word (suc (suc n)) v) a b x y p q = refl
branch_low (Bytes m) a b x y p q = refl
branch_low Stuck a b x y p q = refl

spend_low : (t : ℕ) (s : Position) (f : Position → Ending) → ((p : Position) → f (low_position p) ≡ low_ending (f p)) →
    spend t (low_position s) f ≡ low_ending (spend t s f)
spend_low zero s f h = refl
spend_low (suc t) s f h = h (record s { turns = t })

loop_low : (n : ℕ) (test : Position → Value) (body : Position → Ending) → ((p : Position) → test (low_position p) ≡ low_value (test p)) →
    ((p : Position) → body (low_position p) ≡ low_ending (body p)) → (s : Position) → loop n test body (low_position s) ≡ low_ending (loop n test body s)
loop_low zero test body t b s =
    ap (λ v. branch_on v (OutOfTurns (low_position s)) (Ends (low_position s))) (t s)
    ∙ branch_low (test s) _ _ (OutOfTurns s) (Ends s) refl refl
loop_low (suc n) test body t b s =
    ap (λ v. branch_on v (spend s.turns (low_position s) (λ p. then_do (body p) (loop n test body))) (Ends (low_position s))) (t s)
    ∙ branch_low (test s) _ _ (spend s.turns s (λ p. then_do (body p) (loop n test body))) (Ends s)
    (spend_low s.turns s (λ p. then_do (body p) (loop n test body))
    (λ p. ap (λ z. then_do z (loop n test body)) (b p) ∙ then_low (body p) (loop n test body) (λ q. loop_low n test body t b q))) refl

pub execute_low : (l : Statements) (c : ℕ) (s : Position) → execute l c (low_position s) ≡ low_ending (execute l c s)
execute_low Empty c s = refl
execute_low (Assign x e rest) c s =
    ap (λ v. then_do (assigned (assign x v (low_env s.env)) (low_position s)) (execute rest c)) (evaluate_low e c s.env)
    ∙ ap (λ o. then_do (assigned o (low_position s)) (execute rest c)) (assign_low x (evaluate e c s.env) s.env)
    ∙ ap (λ z. then_do z (execute rest c)) (assigned_low (assign x (evaluate e c s.env) s.env) s)
    ∙ then_low (assigned (assign x (evaluate e c s.env) s.env) s) (execute rest c) (λ p. execute_low rest c p)
execute_low (JumpTo e rest) c s =
    ap (λ v. then_do (jumped v (low_position s)) (execute rest c)) (evaluate_low e c s.env)
    ∙ ap (λ z. then_do z (execute rest c)) (jumped_low (evaluate e c s.env) s)
    ∙ then_low (jumped (evaluate e c s.env) s) (execute rest c) (λ p. execute_low rest c p)
execute_low (Raise n rest) c s = refl
execute_low (Special t rest) c s = execute_low rest c s
execute_low (While e body rest) c s =
    ap (λ z. then_do z (execute rest c)) (loop_low s.turns (λ t. evaluate e c t.env) (execute body c) (λ p. evaluate_low e c p.env)
    (λ p. execute_low body c p) s)
    ∙ then_low (loop s.turns (λ t. evaluate e c t.env) (execute body c) s) (execute rest c) (λ p. execute_low rest c p)
execute_low (If e a b rest) c s =
    ap (λ v. then_do (branch_on v (execute a c (low_position s)) (execute b c (low_position s))) (execute rest c)) (evaluate_low e c s.env)
    ∙ ap (λ z. then_do z (execute rest c)) (branch_low (evaluate e c s.env) _ _ (execute a c s) (execute b c s) (execute_low a c s) (execute_low b c s))
    ∙ then_low (branch_on (evaluate e c s.env) (execute a c s) (execute b c s)) (execute rest c) (λ p. execute_low rest c p)

bytes_low : (n : ℕ) (v : Value) → bytes_at n (low_value v) ≡ bytes_at n v
bytes_low n (Word k a) = refl
bytes_low n (Bytes m) = refl
bytes_low n Stuck = refl

chosen_low : (v : Value) (a b x y : List ℕ) → a ≡ x → b ≡ y → chosen (low_value v) a b ≡ chosen v x y
chosen_low (Word n zero) a b x y p q = q
chosen_low (Word n (suc v)) a b x y p q = p
chosen_low (Bytes m) a b x y p q = refl
chosen_low Stuck a b x y p q = refl

stored_in_low : (o : Option Env) (f : Env → List ℕ) → ((e : Env) → f (low_env e) ≡ f e) → stored_in (low_some o) f ≡ stored_in o f
stored_in_low None f h = refl
stored_in_low (Some e) f h = h e

then_stored_low : (x : Ending) (f : Position → List ℕ) → ((p : Position) → f (low_position p) ≡ f p) → then_stored (low_ending x) f ≡ then_stored x f
then_stored_low (Ends p) f h = h p
then_stored_low (RaisesException n p) f h = refl
then_stored_low (OutOfTurns p) f h = refl
then_stored_low Wrong f h = refl

both : (a b x y : List ℕ) → a ≡ x → b ≡ y → a ++ b ≡ x ++ y
both a b x y p q = ap (λ z. z ++ b) p ∙ ap (λ z. x ++ z) q

stored_by_low : (e : Expression) (c : ℕ) (v : Env) → stored_by e c (low_env v) ≡ stored_by e c v
stored_by_low (Var x) c v = refl
stored_by_low (Constant n k) c v = refl
stored_by_low (Load m a o n) c v = both _ _ _ _ (stored_by_low m c v) (stored_by_low a c v)
stored_by_low (Store m a o n w) c v =
    both _ _ _ _ (both _ _ _ _ (both _ _ _ _ (stored_by_low m c v) (stored_by_low a c v)) (stored_by_low w c v))
    (ap (λ z. bytes_at (n / 8) z) (evaluate_low a c v) ∙ bytes_low (n / 8) (evaluate a c v))
stored_by_low (Binary o a b) c v = both _ _ _ _ (stored_by_low a c v) (stored_by_low b c v)
stored_by_low (Unary o a) c v = stored_by_low a c v
stored_by_low (Cast k n a) c v = stored_by_low a c v
stored_by_low (Let x n a b) c v =
    both _ _ _ _ (stored_by_low a c v)
    (ap (λ z. stored_in (assign (Local x n) z (low_env v)) (stored_by b c)) (evaluate_low a c v)
    ∙ ap (λ o. stored_in o (stored_by b c)) (assign_low (Local x n) (evaluate a c v) v)
    ∙ stored_in_low (assign (Local x n) (evaluate a c v) v) (stored_by b c) (λ w. stored_by_low b c w))
stored_by_low (Unknown t) c v = refl
stored_by_low (Choose t a b) c v =
    both _ _ _ _ (stored_by_low t c v)
    (ap (λ z. chosen z (stored_by a c (low_env v)) (stored_by b c (low_env v))) (evaluate_low t c v)
    ∙ chosen_low (evaluate t c v) _ _ _ _ (stored_by_low a c v) (stored_by_low b c v))
stored_by_low (Extract hi lo a) c v = stored_by_low a c v
stored_by_low (Concat a b) c v = both _ _ _ _ (stored_by_low a c v) (stored_by_low b c v)

pub list_stored_low : (l : Statements) (c : ℕ) (s : Position) → list_stored l c (low_position s) ≡ list_stored l c s
list_stored_low Empty c s = refl
list_stored_low (Assign x e rest) c s =
    both _ _ _ _ (stored_by_low e c s.env)
    (ap (λ v. then_stored (assigned (assign x v (low_env s.env)) (low_position s)) (list_stored rest c)) (evaluate_low e c s.env)
    ∙ ap (λ o. then_stored (assigned o (low_position s)) (list_stored rest c)) (assign_low x (evaluate e c s.env) s.env)
    ∙ ap (λ z. then_stored z (list_stored rest c)) (assigned_low (assign x (evaluate e c s.env) s.env) s)
    ∙ then_stored_low (assigned (assign x (evaluate e c s.env) s.env) s) (list_stored rest c) (λ p. list_stored_low rest c p))
list_stored_low (JumpTo e rest) c s =
    both _ _ _ _ (stored_by_low e c s.env)
    (ap (λ v. then_stored (jumped v (low_position s)) (list_stored rest c)) (evaluate_low e c s.env)
    ∙ ap (λ z. then_stored z (list_stored rest c)) (jumped_low (evaluate e c s.env) s)
    ∙ then_stored_low (jumped (evaluate e c s.env) s) (list_stored rest c) (λ p. list_stored_low rest c p))
list_stored_low (Raise n rest) c s = refl
list_stored_low (Special t rest) c s = list_stored_low rest c s
list_stored_low (While e body rest) c s = refl
list_stored_low (If e a b rest) c s =
    both _ _ _ _ (both _ _ _ _ (stored_by_low e c s.env)
    (ap (λ z. chosen z (list_stored a c (low_position s)) (list_stored b c (low_position s))) (evaluate_low e c s.env)
    ∙ chosen_low (evaluate e c s.env) _ _ _ _ (list_stored_low a c s) (list_stored_low b c s)))
    (ap (λ v. then_stored (branch_on v (execute a c (low_position s)) (execute b c (low_position s))) (list_stored rest c)) (evaluate_low e c s.env)
    ∙ ap (λ z. then_stored z (list_stored rest c)) (branch_low (evaluate e c s.env) _ _ (execute a c s) (execute b c s) (execute_low a c s) (execute_low b c s))
    ∙ then_stored_low (branch_on (evaluate e c s.env) (execute a c s) (execute b c s)) (list_stored rest c) (λ p. list_stored_low rest c p))

pub lists_see_low : (list : Statements) (choice : ℕ) (s : Position) → ListsSeeLow list choice s
lists_see_low list choice s = record { ends = execute_low list choice s; stores = list_stored_low list choice s }
