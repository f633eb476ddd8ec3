-- The first fault of a list, one statement at a time.
use Rattle.std.proofs.Common.{◌≡◌, ℕ, suc, ◌+◌, ◌-◌, ◌^◌, ◌<◌, ◌≤◌, min, Option, Some, None, List, [], ◌∷◌, length, get_or, drop, refl, sym, ap, ◌∙◌, arith, add-one}
use Rattle.std.proofs.Math.Seq.{drop-cons}
use Rattle.std.proofs.Math.ListN.{drop_of_length-le}
use Rattle.machine_spec.specs.Bil.{BilType, Bits, Statements, Empty, Assign, JumpTo, Raise, Special, While, If, size, list_size, type_of}
use Rattle.machine_spec.specs.BilTyping.{TypeFault, Typed, Has, of_operand, type_or_fault, fault_in, or_fault, wants, list_fault}
use Rattle.bil_ast.specs.declared.statements.Stmt.{Stmt}
use Rattle.bil_ast.specs.declared.statements.Stmt.TheVariants as stmt
use Rattle.bil_ast.specs.Views.{variable_of, expression, statement, block, statements}
use Rattle.bil_ast.proofs.Lists.{size_first}
use Rattle.bil_types.proofs.Numbers.{Alike, further, alike, bits, same}

-- a rule over a place, an operand and three lists
all : (rule : ℕ → Typed → Option TypeFault → Option TypeFault → Option TypeFault → Option TypeFault) (p q : ℕ) (x y : Typed) (a b c d e f : Option TypeFault) →
    p ≡ q → x ≡ y → a ≡ b → c ≡ d → e ≡ f → rule p x a c e ≡ rule q y b d f
all rule p q x y a b c d e f h i j k l =
    ap (λ v. rule v x a c e) h ∙ ap (λ v. rule q v a c e) i ∙ ap (λ v. rule q y v c e) j ∙ ap (λ v. rule q y b v e) k ∙ ap (λ v. rule q y b d v) l

pub list_alike : (list : Statements) (p q : ℕ) → Alike p q → list_fault p list ≡ list_fault q list
list_alike Empty p q h = refl
list_alike (Assign x e rest) p q h =
    all (λ v y a b c. or_fault (fault_in (of_operand y (λ u. same v (type_of x) u (Has u)))) c) _ _ _ _ None None None None _ _ h
    (alike e (p + 1) (q + 1) (further p q 1 h)) refl refl
    (list_alike rest (p + 1 + size e) (q + 1 + size e) (further (p + 1) (q + 1) (size e) (further p q 1 h)))
list_alike (JumpTo e rest) p q h =
    all (λ v y a b c. or_fault (fault_in (of_operand y (λ u. bits v 32 u (Has u)))) c) _ _ _ _ None None None None _ _ h
    (alike e (p + 1) (q + 1) (further p q 1 h)) refl refl
    (list_alike rest (p + 1 + size e) (q + 1 + size e) (further (p + 1) (q + 1) (size e) (further p q 1 h)))
list_alike (Raise n rest) p q h = list_alike rest (p + 1) (q + 1) (further p q 1 h)
list_alike (Special t rest) p q h = list_alike rest (p + 1) (q + 1) (further p q 1 h)
list_alike (While e body rest) p q h =
    let i = further (p + 1) (q + 1) (size e) (further p q 1 h) in
    all (λ v y a b c. or_fault (fault_in y) (or_fault a (or_fault (fault_in (of_operand y (λ u. bits v 1 u (Has u)))) c))) _ _ _ _ _ _ None None _ _ h
    (alike e (p + 1) (q + 1) (further p q 1 h))
    (list_alike body (p + 1 + size e) (q + 1 + size e) i) refl
    (list_alike rest (p + 1 + size e + list_size body) (q + 1 + size e + list_size body) (further (p + 1 + size e) (q + 1 + size e) (list_size body) i))
list_alike (If e one other rest) p q h =
    let i = further (p + 1) (q + 1) (size e) (further p q 1 h) in
    let j = further (p + 1 + size e) (q + 1 + size e) (list_size one) i in
    all (λ v y a b c. or_fault (fault_in y) (or_fault a (or_fault b (or_fault (fault_in (of_operand y (λ u. bits v 1 u (Has u)))) c)))) _ _ _ _ _ _ _ _ _ _ h
    (alike e (p + 1) (q + 1) (further p q 1 h))
    (list_alike one (p + 1 + size e) (q + 1 + size e) i)
    (list_alike other (p + 1 + size e + list_size one) (q + 1 + size e + list_size one) j)
    (list_alike rest (p + 1 + size e + list_size one + list_size other) (q + 1 + size e + list_size one + list_size other)
    (further (p + 1 + size e + list_size one) (q + 1 + size e + list_size one) (list_size other) j))

-- a number that is counted over one expression up to 2 ^ 64 - 1 serves as well
pub list_second : (p s : ℕ) (list : Statements) → list_fault (min (min (p + 1) (2 ^ 64 - 1) + s) (2 ^ 64 - 1)) list ≡ list_fault (p + 1 + s) list
list_second p s list = list_alike list (min (min (p + 1) (2 ^ 64 - 1) + s) (2 ^ 64 - 1)) (p + 1 + s) (omega arith)

-- and one that is counted over an expression and a list
pub list_third : (p s r : ℕ) (list : Statements) →
    list_fault (min (min (min (p + 1) (2 ^ 64 - 1) + s) (2 ^ 64 - 1) + r) (2 ^ 64 - 1)) list ≡ list_fault (p + 1 + s + r) list
list_third p s r list = list_alike list (min (min (min (p + 1) (2 ^ 64 - 1) + s) (2 ^ 64 - 1) + r) (2 ^ 64 - 1)) (p + 1 + s + r) (omega arith)

-- faults before the rest's
before : (a b c d rest : Option TypeFault) → or_fault a (or_fault b (or_fault c (or_fault d rest)))
    ≡ or_fault (or_fault a (or_fault b (or_fault c (or_fault d None)))) rest
before (Some f) b c d rest = refl
before None (Some f) c d rest = refl
before None None (Some f) d rest = refl
before None None None (Some f) rest = refl
before None None None None rest = refl

-- the first fault is the first statement's, or else the first of the others
fault_first : (s : Stmt) (rest : Statements) (p : ℕ) →
    list_fault p (statement s rest) ≡ or_fault (list_fault p (statement s Empty)) (list_fault (p + list_size (statement s Empty)) rest)
fault_first (stmt.Assign x e) rest p =
    before (wants p (type_of (variable_of x)) (type_or_fault (p + 1) (expression e))) None None None (list_fault (p + 1 + size (expression e)) rest)
    ∙ ap (λ n. or_fault (or_fault (wants p (type_of (variable_of x)) (type_or_fault (p + 1) (expression e))) None) (list_fault n rest)) (omega arith)
fault_first (stmt.Jump e) rest p =
    before (wants p (Bits 32) (type_or_fault (p + 1) (expression e))) None None None (list_fault (p + 1 + size (expression e)) rest)
    ∙ ap (λ n. or_fault (or_fault (wants p (Bits 32) (type_or_fault (p + 1) (expression e))) None) (list_fault n rest)) (omega arith)
fault_first (stmt.Raise n) rest p = ap (λ k. list_fault k rest) (omega arith)
fault_first (stmt.Special t) rest p = ap (λ k. list_fault k rest) (omega arith)
fault_first (stmt.While' e m a) rest p =
    let t = type_or_fault (p + 1) (expression e) in
    let first = list_fault (p + 1 + size (expression e)) (block a) in
    before (fault_in t) first (wants p (Bits 1) t) None (list_fault (p + 1 + size (expression e) + list_size (block a)) rest)
    ∙ ap (λ n. or_fault (or_fault (fault_in t) (or_fault first (or_fault (wants p (Bits 1) t) None))) (list_fault n rest)) (omega arith)
fault_first (stmt.If' e m a k b) rest p =
    let t = type_or_fault (p + 1) (expression e) in
    let first = list_fault (p + 1 + size (expression e)) (block a) in
    let second = list_fault (p + 1 + size (expression e) + list_size (block a)) (block b) in
    before (fault_in t) first second (wants p (Bits 1) t) (list_fault (p + 1 + size (expression e) + list_size (block a) + list_size (block b)) rest)
    ∙ ap (λ n. or_fault (or_fault (fault_in t) (or_fault first (or_fault second (or_fault (wants p (Bits 1) t) None)))) (list_fault n rest)) (omega arith)

-- What is known before the statement i of a list, whose number is counted up to 2 ^ 64 - 1: the list's first fault is one of those to come.
pub record IsChecked (list : List Stmt) (at i next : ℕ) : Type 0 where
  pub fits : next < 2 ^ 64
  pub number : min (at + list_size (statements list)) (2 ^ 64 - 1) ≡ min (next + list_size (statements (drop i list))) (2 ^ 64 - 1)
  pub fault : list_fault at (statements list) ≡ list_fault next (statements (drop i list))

-- the statements from i on are that at i and the others
split : (list : List Stmt) (i : ℕ) (s : Stmt) → i < length list → s ≡ get_or list i s →
    statements (drop i list) ≡ statement s (statements (drop (suc i) list))
split list i s h e = ap statements (drop-cons list i s h) ∙ ap (λ z. statement z (statements (drop (suc i) list))) (sym e)

-- the first fault from i on is that of the statement at i, or one of those to come
pub fault_at : (list : List Stmt) (at i next : ℕ) (s : Stmt) (f : Option TypeFault) → i < length list → s ≡ get_or list i s →
    f ≡ list_fault next (statement s Empty) → IsChecked list at i next →
    or_fault f (list_fault (next + list_size (statement s Empty)) (statements (drop (suc i) list))) ≡ list_fault at (statements list)
fault_at list at i next s f h e k inv =
    let rest = statements (drop (suc i) list) in
    ap (λ z. or_fault z (list_fault (next + list_size (statement s Empty)) rest)) k ∙ sym (fault_first s rest next)
    ∙ ap (list_fault next) (sym (split list i s h e)) ∙ sym inv.fault

-- a statement without a fault
pub checked_next : (list : List Stmt) (at i next n : ℕ) (s : Stmt) → i < length list → s ≡ get_or list i s →
    None ≡ list_fault next (statement s Empty) → n ≡ min (next + list_size (statement s Empty)) (2 ^ 64 - 1) →
    IsChecked list at i next → IsChecked list at (i + 1) n
checked_next list at i next n s h e k m inv =
    let rest = statements (drop (suc i) list) in
    let one = list_size (statement s Empty) in
    let sizes : list_size (statements (drop i list)) ≡ one + list_size rest = ap list_size (split list i s h e) ∙ size_first s rest in
    let number = inv.number in
    rw add-one (record {
      fits = omega arith;
      number = omega arith;
      fault = sym (fault_at list at i next s None h e k inv) ∙ sym (list_alike rest n (next + one) (omega arith));
    })

-- all statements are checked
pub checked_all : (list : List Stmt) (at i next : ℕ) → length list ≤ i → IsChecked list at i next →
    (None ≡ list_fault at (statements list)) × (next ≡ min (at + list_size (statements list)) (2 ^ 64 - 1))
checked_all list at i next h inv =
    let none : statements (drop i list) ≡ Empty = ap statements (drop_of_length-le list h) in
    let sizes : list_size (statements (drop i list)) ≡ 0 = ap list_size none in
    let number = inv.number in
    let fits = inv.fits in
    (sym (inv.fault ∙ ap (list_fault next) none), omega arith)
