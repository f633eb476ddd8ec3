-- A list of statements runs one after another.
use Rattle.std.proofs.Common.{◌≡◌, ℕ, zero, suc, ◌+◌, ◌-◌, ◌<◌, ◌≢◌, Bool, true, false, List, [], ◌∷◌, length, get_or, drop, Result, Ok, Err, Vec, Global, refl, sym, ap, ◌∙◌, subst, add-one, arith}
use Rattle.std.specs.Prelude.{if◌then◌else◌}
use Rattle.std.proofs.Math.Seq.{drop-cons}
use Rattle.word_spec.specs.Words.{bit}
use Rattle.machine_spec.specs.Bil.{Bits, BilVariable, Expression, Statements, Empty, While, If}
use Rattle.machine_spec.specs.BilMeaning.{Value, Word, Env, Position, Ending, Ends, RaisesException, OutOfTurns, Wrong, execute, evaluate, assign, then_do, assigned, jumped, branch_on, loop, spend}
use Rattle.bil_ast.proofs.Blocks.{statement_if, statement_while}
use Rattle.bil_ast.specs.declared.expressions.Exp.{Exp}
use Rattle.bil_ast.specs.declared.statements.Stmt.{Stmt}
use Rattle.bil_ast.specs.declared.statements.Stmt.TheVariants as stmt
use Rattle.bil_ast.specs.Views.{variable_of, expression, statement, statements, block}
use Rattle.bil_eval.specs.declared.env.LocalWord.{LocalWord}
use Rattle.bil_eval.specs.declared.env.Machine.{Machine}
use Rattle.bil_eval.specs.declared.faults.EvalFault.{EvalFault}
use Rattle.bil_eval.specs.declared.faults.EvalFault.TheVariants as fault
use Rattle.bil_eval.specs.declared.statements.Flow.{Flow}
use Rattle.bil_eval.specs.declared.statements.Flow.TheVariants.{On, Raised}
use Rattle.bil_eval.specs.Checked.{IsChecked, IsRunnable}
use Rattle.bil_eval.specs.Passes.{Passes, AtStart, InFront, Behind, InThen, InElse, InTurn, NextTurn, join}
use Rattle.bil_eval.specs.Views.{env_of}
use Rattle.bil_eval.specs.Runs.{test, Comes, IfWanting}

-- of a list that can be run, the first statement can, and the rest
first_runs : (s : Stmt) (rest : Statements) (known : BilVariable → Bool) → IsRunnable (statement s rest) known →
    IsRunnable (statement s Empty) known × IsRunnable rest known
first_runs (stmt.Assign x e) rest known r = ((r.0, r.1, tt), r.2)
first_runs (stmt.Jump e) rest known r = ((r.0, tt), r.1)
first_runs (stmt.Raise n) rest known r = (tt, r)
first_runs (stmt.Special t) rest known r = (tt, r)
first_runs (stmt.While' e m body) rest known r = ((r.0, r.1, tt), r.2)
first_runs (stmt.If' e m a k b) rest known r = ((r.0, r.1, r.2, tt), r.3)

-- each statement of such a list can be run
one_runs : (xs : List Stmt) (i : ℕ) (s : Stmt) (known : BilVariable → Bool) → IsRunnable (statements xs) known → i < length xs → s ≡ get_or xs i s →
    IsRunnable (statement s Empty) known
one_runs [] i s known r h e = absurd (omega arith)
one_runs (x ∷ xs) zero s known r h e = subst (λ (z : Stmt). IsRunnable (statement z Empty) known) (sym e) (first_runs x (statements xs) known r).0
one_runs (x ∷ xs) (suc i) s known r h e = one_runs xs i s known (first_runs x (statements xs) known r).1 (omega arith) e

pub runs_at : (xs : List Stmt) (i : ℕ) (s : Stmt) (known held : BilVariable → Bool) → IsRunnable (statements xs) known → i < length xs → s ≡ get_or xs i s →
    held ≡ known → IsRunnable (statement s Empty) held
runs_at xs i s known held r h e k = subst (λ (z : BilVariable → Bool). IsRunnable (statement s Empty) z) (sym k) (one_runs xs i s known r h e)

-- the parts of a loop that can be run
pub while_parts : (s : Stmt) (e : Exp) (a : Vec Stmt Global) (xs : List Stmt) (known : BilVariable → Bool) → s ≡ stmt.While e a → xs ≡ a.items →
    IsRunnable (statement s Empty) known → IsChecked (expression e) (Bits 1) known × IsRunnable (statements xs) known
while_parts s e a xs known p x r =
    let f : statement s Empty ≡ While (expression e) (statements a.items) Empty = ap (λ (z : Stmt). statement z Empty) p ∙ statement_while e a Empty in
    let g = subst (λ (z : Statements). IsRunnable z known) f r in
    (g.0, subst (λ (z : List Stmt). IsRunnable (statements z) known) (sym x) g.1)

-- the parts of a choice that can be run
pub if_parts : (s : Stmt) (e : Exp) (a b : Vec Stmt Global) (known : BilVariable → Bool) → s ≡ stmt.If e a b → IsRunnable (statement s Empty) known →
    IsChecked (expression e) (Bits 1) known × IsRunnable (statements a.items) known × IsRunnable (statements b.items) known
if_parts s e a b known p r =
    let f : statement s Empty ≡ If (expression e) (statements a.items) (statements b.items) Empty = ap
    (λ (z : Stmt). statement z Empty) p ∙ statement_if e a b Empty in
    let g = subst (λ (z : Statements). IsRunnable z known) f r in
    (g.0, g.1, g.2)

-- a part in another environment's words
pub same_known : (xs ys : List Stmt) (known held : BilVariable → Bool) → xs ≡ ys → held ≡ known → IsRunnable (statements ys) known →
    IsRunnable (statements xs) held
same_known xs ys known held x k r =
    subst (λ (z : BilVariable → Bool). IsRunnable (statements xs) z) (sym k) (subst (λ (z : List Stmt). IsRunnable (statements z) known) (sym x) r)

then_assoc : (o : Ending) (f : Position → Ending) → then_do o f ≡ then_do (then_do o Ends) f
then_assoc (Ends s) f = refl
then_assoc (RaisesException n s) f = refl
then_assoc (OutOfTurns s) f = refl
then_assoc Wrong f = refl

then_same : (o : Ending) → then_do o Ends ≡ o
then_same (Ends s) = refl
then_same (RaisesException n s) = refl
then_same (OutOfTurns s) = refl
then_same Wrong = refl

-- one statement, and then the rest
one_first : (s : Stmt) (rest : Statements) (c : ℕ) (t : Position) →
    execute (statement s rest) c t ≡ then_do (execute (statement s Empty) c t) (execute rest c)
one_first (stmt.Assign x e) rest c t = then_assoc (assigned (assign (variable_of x) (evaluate (expression e) c t.env) t.env) t) (execute rest c)
one_first (stmt.Jump e) rest c t = then_assoc (jumped (evaluate (expression e) c t.env) t) (execute rest c)
one_first (stmt.Raise n) rest c t = refl
one_first (stmt.Special r) rest c t = refl
one_first (stmt.While' e m body) rest c t = then_assoc (loop t.turns (λ s. evaluate (expression e) c s.env) (execute (block body) c) t) (execute rest c)
one_first (stmt.If' e m a k b) rest c t = then_assoc (branch_on (evaluate (expression e) c t.env) (execute (block a) c t) (execute (block b) c t))
    (execute rest c)

-- from a place of a list on: its statement, and then what comes behind it
from_place : (xs : List Stmt) (i : ℕ) (s : Stmt) (c : ℕ) (t : Position) → i < length xs → s ≡ get_or xs i s →
    execute (statements (drop i xs)) c t ≡ then_do (execute (statement s Empty) c t) (execute (statements (drop (suc i) xs)) c)
from_place xs i s c t h e =
    ap (λ (z : List Stmt). execute (statements z) c t) (drop-cons xs i s h ∙ ap (λ (z : Stmt). z ∷ drop (suc i) xs) (sym e))
    ∙ one_first s (statements (drop (suc i) xs)) c t

-- the statement ended, and the list goes on
pub goes_on : (xs : List Stmt) (i : ℕ) (s : Stmt) (c d : ℕ) (t u : Position) (all : Ending) → i < length xs → s ≡ get_or xs i s → d ≡ c →
    execute (statement s Empty) d t ≡ Ends u → execute (statements (drop i xs)) c t ≡ all → execute (statements (drop (i + 1) xs)) c u ≡ all
goes_on xs i s c d t u all h e q g k =
    let here : execute (statement s Empty) c t ≡ Ends u = ap (λ (z : ℕ). execute (statement s Empty) z t) (sym q) ∙ g in
    rw add-one (sym (from_place xs i s c t h e ∙ ap (λ (o : Ending). then_do o (execute (statements (drop (suc i) xs)) c)) here) ∙ k)

-- what ends a statement early ends all
ends_early : (r : Result Flow EvalFault) (u : Position) (f : Position → Ending) (o : Ending) → r ≢ Ok On → Comes r u o → Comes r u (then_do o f)
ends_early (Ok On) u f o d h = absurd (d refl)
ends_early (Ok (Raised n)) u f o d h = rw h refl
ends_early (Err fault.OutOfTurns) u f o d h = rw h refl
ends_early (Err fault.Memory) u f o d h = tt

pub ends_there : (xs : List Stmt) (i : ℕ) (s : Stmt) (c d : ℕ) (t u : Position) (r : Result Flow EvalFault) (all : Ending) → i < length xs → s ≡ get_or xs i s →
    d ≡ c → r ≢ Ok On → Comes r u (execute (statement s Empty) d t) → execute (statements (drop i xs)) c t ≡ all → Comes r u all
ends_there xs i s c d t u r all h e q n g k =
    subst (λ (o : Ending). Comes r u o) (sym (from_place xs i s c t h e) ∙ k)
    (ends_early r u (execute (statements (drop (suc i) xs)) c) (execute (statement s Empty) c t) n
    (subst (λ (z : ℕ). Comes r u (execute (statement s Empty) z t)) q g))

-- a choice runs one of its lists
if_runs : (s : Stmt) (e : Exp) (a b : Vec Stmt Global) (c : ℕ) (t : Position) (v : Bool) → s ≡ stmt.If e a b →
    evaluate (expression e) c t.env ≡ Word 1 (bit v) →
    execute (statement s Empty) c t ≡ (if v then execute (statements a.items) c t else execute (statements b.items) c t)
if_runs s e a b c t v p w =
    ap (λ (z : Stmt). execute (statement z Empty) c t) p ∙ ap (λ (z : Statements). execute z c t) (statement_if e a b Empty)
    ∙ then_same (branch_on (evaluate (expression e) c t.env) (execute (statements a.items) c t) (execute (statements b.items) c t))
    ∙ ap (λ (z : Value). branch_on z (execute (statements a.items) c t) (execute (statements b.items) c t)) w ∙ by_bit v
  where
    by_bit : (x : Bool) → branch_on (Word 1 (bit x)) (execute (statements a.items) c t) (execute (statements b.items) c t)
        ≡ (if x then execute (statements a.items) c t else execute (statements b.items) c t)
    by_bit true = refl
    by_bit false = refl

pub then_runs : (s : Stmt) (e : Exp) (a b : Vec Stmt Global) (c d : ℕ) (t u : Position) (v : Bool) (xs : List Stmt) (r : Result Flow EvalFault) (o : Position) →
    s ≡ stmt.If e a b → evaluate (expression e) c t.env ≡ Word 1 (bit v) → v ≡ true → xs ≡ a.items → d ≡ c → u ≡ t →
    Comes r o (execute (statements xs) d u) → Comes r o (execute (statement s Empty) c t)
then_runs s e a b c d t u v xs r o p w k x q same h =
    let f : execute (statements xs) d u ≡ execute (statement s Empty) c t =
    ap (λ (z : List Stmt). execute (statements z) d u) x ∙ ap (λ (z : ℕ). execute (statements a.items) z u) q ∙ ap (execute (statements a.items) c) same
    ∙ sym (if_runs s e a b c t v p w ∙ ap (λ (z : Bool). if z then execute (statements a.items) c t else execute (statements b.items) c t) k) in
    subst (λ (z : Ending). Comes r o z) f h

pub else_runs : (s : Stmt) (e : Exp) (a b : Vec Stmt Global) (c d : ℕ) (t u : Position) (v : Bool) (xs : List Stmt) (r : Result Flow EvalFault) (o : Position) →
    s ≡ stmt.If e a b → evaluate (expression e) c t.env ≡ Word 1 (bit v) → v ≡ false → xs ≡ b.items → d ≡ c → u ≡ t →
    Comes r o (execute (statements xs) d u) → Comes r o (execute (statement s Empty) c t)
else_runs s e a b c d t u v xs r o p w k x q same h =
    let f : execute (statements xs) d u ≡ execute (statement s Empty) c t =
    ap (λ (z : List Stmt). execute (statements z) d u) x ∙ ap (λ (z : ℕ). execute (statements b.items) z u) q ∙ ap (execute (statements b.items) c) same
    ∙ sym (if_runs s e a b c t v p w ∙ ap (λ (z : Bool). if z then execute (statements a.items) c t else execute (statements b.items) c t) k) in
    subst (λ (z : Ending). Comes r o z) f h

pub while_runs : (s : Stmt) (e : Exp) (a : Vec Stmt Global) (c : ℕ) (t : Position) (xs : List Stmt) (r : Result Flow EvalFault) (u : Position) →
    s ≡ stmt.While e a → xs ≡ a.items → Comes r u (loop t.turns (test (expression e) c) (execute (statements xs) c) t) →
    Comes r u (execute (statement s Empty) c t)
while_runs s e a c t xs r u p x h =
    let f : execute (statement s Empty) c t ≡ loop t.turns (test (expression e) c) (execute (statements a.items) c) t =
    ap (λ (z : Stmt). execute (statement z Empty) c t) p ∙ ap (λ (z : Statements). execute z c t) (statement_while e a Empty) ∙ then_same _ in
    subst (λ (z : Ending). Comes r u z) (ap (λ (z : List Stmt). loop t.turns (test (expression e) c) (execute (statements z) c) t) x ∙ sym f) h

spend_some : (t : ℕ) (s : Position) (f : Position → Ending) → (t ≡ 0 → ⊥) → spend t s f ≡ f (record s { turns = t - 1 })
spend_some zero s f h = absurd (h refl)
spend_some (suc t) s f h = ap (λ (z : ℕ). f (record s { turns = z })) (omega arith)

-- one turn of a loop, and then the rest of them
turn_runs : (m i : ℕ) (e : Expression) (c : ℕ) (body : Position → Ending) (s : Position) → i < m → evaluate e c s.env ≡ Word 1 1 → (s.turns ≡ 0 → ⊥) →
    loop (m - i) (test e c) body s ≡ then_do (body (record s { turns = s.turns - 1 })) (loop (m - (i + 1)) (test e c) body)
turn_runs m i e c body s l h d =
    let k : m - i ≡ suc (m - (i + 1)) = omega arith in
    rw (k, h) (spend_some s.turns s (λ t. then_do (body t) (loop (m - (i + 1)) (test e c) body)) d)

-- the same, by what the code has at hand
turn_then : (m i : ℕ) (e : Expression) (xs : List Stmt) (c d k : ℕ) (s v : Position) (b : Bool) → i < m → d ≡ c → k ≡ c →
    evaluate e d s.env ≡ Word 1 (bit b) → b ≡ true → (s.turns ≡ 0 → ⊥) → v ≡ record s { turns = s.turns - 1 } →
    loop (m - i) (test e c) (execute (statements xs) c) s ≡ then_do (execute (statements xs) k v) (loop (m - (i + 1)) (test e c) (execute (statements xs) c))
turn_then m i e xs c d k s v b l q f w t n z =
    let one : evaluate e c s.env ≡ Word 1 1 = ap (λ (x : ℕ). evaluate e x s.env) (sym q) ∙ w ∙ ap (λ (x : Bool). Word 1 (bit x)) t in
    let rest : Position → Ending = loop (m - (i + 1)) (test e c) (execute (statements xs) c) in
    turn_runs m i e c (execute (statements xs) c) s l one n
    ∙ ap (λ (x : Position). then_do (execute (statements xs) c x) rest) (sym z) ∙ ap (λ (x : ℕ). then_do (execute (statements xs) x v) rest) (sym f)

pub turn_goes : (m i : ℕ) (e : Expression) (xs : List Stmt) (c d k : ℕ) (s v u : Position) (b : Bool) (all : Ending) → i < m → d ≡ c → k ≡ c →
    evaluate e d s.env ≡ Word 1 (bit b) → b ≡ true → (s.turns ≡ 0 → ⊥) → v ≡ record s { turns = s.turns - 1 } → execute (statements xs) k v ≡ Ends u →
    loop (m - i) (test e c) (execute (statements xs) c) s ≡ all → loop (m - (i + 1)) (test e c) (execute (statements xs) c) u ≡ all
turn_goes m i e xs c d k s v u b all l q f w t n z g a =
    sym (turn_then m i e xs c d k s v b l q f w t n z ∙ ap (λ (o : Ending). then_do o (loop (m - (i + 1)) (test e c) (execute (statements xs) c))) g) ∙ a

pub turn_ends : (m i : ℕ) (e : Expression) (xs : List Stmt) (c d k : ℕ) (s v u : Position) (b : Bool) (r : Result Flow EvalFault) (all : Ending) → i < m →
    d ≡ c →
    k ≡ c → evaluate e d s.env ≡ Word 1 (bit b) → b ≡ true → (s.turns ≡ 0 → ⊥) → v ≡ record s { turns = s.turns - 1 } → r ≢ Ok On →
    Comes r u (execute (statements xs) k v) → loop (m - i) (test e c) (execute (statements xs) c) s ≡ all → Comes r u all
turn_ends m i e xs c d k s v u b r all l q f w t n z o g a =
    subst (λ (y : Ending). Comes r u y) (sym (turn_then m i e xs c d k s v b l q f w t n z) ∙ a)
    (ends_early r u (loop (m - (i + 1)) (test e c) (execute (statements xs) c)) _ o g)

joined : (s : Stmt) (rest : Statements) → join (statement s Empty) rest ≡ statement s rest
joined (stmt.Assign x e) rest = refl
joined (stmt.Jump e) rest = refl
joined (stmt.Raise n) rest = refl
joined (stmt.Special t) rest = refl
joined (stmt.While' e m body) rest = refl
joined (stmt.If' e m a k b) rest = refl

-- from a place of a list on
at_place : (xs : List Stmt) (i : ℕ) (s : Stmt) → i < length xs → s ≡ get_or xs i s →
    statements (drop i xs) ≡ join (statement s Empty) (statements (drop (suc i) xs))
at_place xs i s h e =
    ap statements (drop-cons xs i s h ∙ ap (λ (z : Stmt). z ∷ drop (suc i) xs) (sym e)) ∙ sym (joined s (statements (drop (suc i) xs)))

-- what comes by in a statement of a list comes by in the list
pub passes_there : (xs : List Stmt) (i : ℕ) (s : Stmt) (c d : ℕ) (e : Env) (t : Position) → i < length xs → s ≡ get_or xs i s → d ≡ c →
    Passes d e (statement s Empty) t → Passes c e (statements (drop i xs)) t
passes_there xs i s c d e t h k q p =
    InFront (statement s Empty) (statements (drop (suc i) xs)) (at_place xs i s h k) (subst (λ (z : ℕ). Passes z e (statement s Empty) t) q p)

-- and so does what comes by behind it
pub passes_on : (xs : List Stmt) (i : ℕ) (s : Stmt) (c d : ℕ) (e : Env) (t u : Position) → i < length xs → s ≡ get_or xs i s → d ≡ c →
    execute (statement s Empty) d t ≡ Ends u → Passes c e (statements (drop (i + 1) xs)) u → Passes c e (statements (drop i xs)) t
passes_on xs i s c d e t u h k q g p =
    Behind (statement s Empty) (statements (drop (suc i) xs)) (at_place xs i s h k) (subst (λ (z : ℕ). execute (statement s Empty) z t ≡ Ends u) q g)
    (subst (λ (z : ℕ). Passes c e (statements (drop z xs)) u) (add-one i) p)

-- what comes by in the chosen list comes by in the choice
pub passes_then : (s : Stmt) (f : Exp) (a b : Vec Stmt Global) (c d : ℕ) (e : Env) (t u : Position) (v : Bool) (xs : List Stmt) →
    s ≡ stmt.If f a b → evaluate (expression f) c t.env ≡ Word 1 (bit v) → v ≡ true → xs ≡ a.items → d ≡ c → u ≡ t →
    Passes d e (statements xs) u → Passes c e (statement s Empty) t
passes_then s f a b c d e t u v xs p w k x q same h =
    let g : If (expression f) (statements a.items) (statements b.items) Empty ≡ statement s Empty =
    sym (ap (λ (z : Stmt). statement z Empty) p ∙ statement_if f a b Empty) in
    let i : Passes c e (statements a.items) t = subst (λ (z : Position). Passes c e (statements a.items) z) same
    (subst (λ (z : ℕ). Passes z e (statements a.items) u) q (subst (λ (z : List Stmt). Passes d e (statements z) u) x h)) in
    subst (λ (z : Statements). Passes c e z t) g (InThen {b = statements b.items} (w ∙ ap (λ (z : Bool). Word 1 (bit z)) k) i)

pub passes_else : (s : Stmt) (f : Exp) (a b : Vec Stmt Global) (c d : ℕ) (e : Env) (t u : Position) (v : Bool) (xs : List Stmt) →
    s ≡ stmt.If f a b → evaluate (expression f) c t.env ≡ Word 1 (bit v) → v ≡ false → xs ≡ b.items → d ≡ c → u ≡ t →
    Passes d e (statements xs) u → Passes c e (statement s Empty) t
passes_else s f a b c d e t u v xs p w k x q same h =
    let g : If (expression f) (statements a.items) (statements b.items) Empty ≡ statement s Empty =
    sym (ap (λ (z : Stmt). statement z Empty) p ∙ statement_if f a b Empty) in
    let i : Passes c e (statements b.items) t = subst (λ (z : Position). Passes c e (statements b.items) z) same
    (subst (λ (z : ℕ). Passes z e (statements b.items) u) q (subst (λ (z : List Stmt). Passes d e (statements z) u) x h)) in
    subst (λ (z : Statements). Passes c e z t) g (InElse {a = statements a.items} (w ∙ ap (λ (z : Bool). Word 1 (bit z)) k) i)

pub passes_while : (s : Stmt) (f : Exp) (a : Vec Stmt Global) (c : ℕ) (e : Env) (t : Position) (xs : List Stmt) → s ≡ stmt.While f a → xs ≡ a.items →
    Passes c e (While (expression f) (statements xs) Empty) t → Passes c e (statement s Empty) t
passes_while s f a c e t xs p x h =
    let g : While (expression f) (statements xs) Empty ≡ statement s Empty =
    ap (λ (z : List Stmt). While (expression f) (statements z) Empty) x
    ∙ sym (ap (λ (z : Stmt). statement z Empty) p ∙ statement_while f a Empty) in
    subst (λ (z : Statements). Passes c e z t) g h

spent : (t : ℕ) → (t ≡ 0 → ⊥) → t ≡ suc (t - 1)
spent t h = omega arith

-- what comes by in a turn, or behind it, comes by in the loop
pub passes_turn : (f : Expression) (xs : List Stmt) (c d k : ℕ) (e : Env) (s v : Position) (b : Bool) → d ≡ c → k ≡ c → evaluate f d s.env ≡ Word 1 (bit b) →
    b ≡ true → (s.turns ≡ 0 → ⊥) → v ≡ record s { turns = s.turns - 1 } → Passes k e (statements xs) v → Passes c e (While f (statements xs) Empty) s
passes_turn f xs c d k e s v b q g w t n z h =
    InTurn {turns = s.turns - 1} (ap (λ (x : ℕ). evaluate f x s.env) (sym q) ∙ w ∙ ap (λ (x : Bool). Word 1 (bit x)) t) (spent s.turns n)
    (subst (λ (x : Position). Passes c e (statements xs) x) z (subst (λ (x : ℕ). Passes x e (statements xs) v) g h))

pub passes_next : (f : Expression) (xs : List Stmt) (c d k : ℕ) (e : Env) (s v u : Position) (b : Bool) → d ≡ c → k ≡ c → evaluate f d s.env ≡ Word 1 (bit b) →
    b ≡ true → (s.turns ≡ 0 → ⊥) → v ≡ record s { turns = s.turns - 1 } → execute (statements xs) k v ≡ Ends u → Passes c e (While f (statements xs) Empty) u →
    Passes c e (While f (statements xs) Empty) s
passes_next f xs c d k e s v u b q g w t n z r h =
    NextTurn {q = u} {turns = s.turns - 1} (ap (λ (x : ℕ). evaluate f x s.env) (sym q) ∙ w ∙ ap (λ (x : Bool). Word 1 (bit x)) t) (spent s.turns n)
    (ap (execute (statements xs) c) (sym z) ∙ ap (λ (x : ℕ). execute (statements xs) x v) (sym g) ∙ r) h

pub wanting : (r : Result Flow EvalFault) (P : Type 0) → P → IfWanting r P
wanting (Ok f) P h = tt
wanting (Err fault.OutOfTurns) P h = tt
wanting (Err fault.Memory) P h = h

pub wanting_more : (r : Result Flow EvalFault) (P Q : Type 0) → (P → Q) → IfWanting r P → IfWanting r Q
wanting_more (Ok f) P Q m h = tt
wanting_more (Err fault.OutOfTurns) P Q m h = tt
wanting_more (Err fault.Memory) P Q m h = m h

-- where nothing was assigned, the environment is the one at the start
pub stayed : (r : Result Flow EvalFault) (m : Machine) (ls ms : List LocalWord) (c : ℕ) (list : Statements) (p : Position) → p.env ≡ env_of m ls → ms ≡ ls →
    IfWanting r (Passes c (env_of m ms) list p)
stayed r m ls ms c list p e h = wanting r (Passes c (env_of m ms) list p) (AtStart (ap (env_of m) h ∙ sym e))
