-- Lists of statements, one statement at a time.
use Rattle.std.proofs.Common.{◌≡◌, ℕ, ◌+◌, ◌-◌, ◌^◌, ◌<◌, ◌≤◌, min, suc, List, [], ◌∷◌, ◌++◌, length, get_or, drop, sym, ap, ◌∙◌, arith, add-one, append_assoc}
use Rattle.std.proofs.Math.Seq.{drop-cons}
use Rattle.std.proofs.Math.ListN.{drop_of_length-le}
use Rattle.machine_spec.specs.Bil.{Statements, Empty, list_size}
use Rattle.bil_ast.specs.declared.statements.Stmt.{Stmt}
use Rattle.bil_ast.specs.declared.statements.Stmt.TheVariants as stmt
use Rattle.bil_ast.specs.Views.{statement, statements}

-- a list's nodes are the first statement's and the others'
pub size_first : (s : Stmt) (rest : Statements) → list_size (statement s rest) ≡ list_size (statement s Empty) + list_size rest
size_first (stmt.Assign x e) rest = omega arith
size_first (stmt.Jump e) rest = omega arith
size_first (stmt.Raise n) rest = omega arith
size_first (stmt.Special t) rest = omega arith
size_first (stmt.While' e m a) rest = omega arith
size_first (stmt.If' e m a k b) rest = omega arith

-- one more statement counted
pub size_next : (list : List Stmt) (i : ℕ) (s : Stmt) (n total after all : ℕ) → i < length list → s ≡ get_or list i s →
    n ≡ min (list_size (statement s Empty)) (2 ^ 64 - 1) → after ≡ min (total + n) (2 ^ 64 - 1) →
    min (total + list_size (statements (drop i list))) (2 ^ 64 - 1) ≡ all →
    (after < 2 ^ 64) × (min (after + list_size (statements (drop (i + 1) list))) (2 ^ 64 - 1) ≡ all)
size_next list i s n total after all h e k m inv =
    let rest = statements (drop (suc i) list) in
    let first : list_size (statements (drop i list)) ≡ list_size (statement s Empty) + list_size rest
    = ap (λ z. list_size (statements z)) (drop-cons list i s h) ∙ ap (λ z. list_size (statement z rest)) (sym e) ∙ size_first s rest in
    (omega arith, rw add-one (let goal : min (after + list_size rest) (2 ^ 64 - 1) ≡ all = omega arith in goal))

-- all statements counted
pub size_end : (list : List Stmt) (i total all : ℕ) → length list ≤ i → total < 2 ^ 64 →
    min (total + list_size (statements (drop i list))) (2 ^ 64 - 1) ≡ all → total ≡ all
size_end list i total all h l inv =
    let none : list_size (statements (drop i list)) ≡ 0 = ap (λ z. list_size (statements z)) (drop_of_length-le list h) in
    omega arith

-- equal statements in the middle of a list
swap : (before : List Stmt) (c s : Stmt) (after : List Stmt) → ((rest : Statements) → statement c rest ≡ statement s rest) →
    statements (before ++ c ∷ after) ≡ statements (before ++ s ∷ after)
swap [] c s after same = same (statements after)
swap (x ∷ before) c s after same = ap (statement x) (swap before c s after same)

-- one more statement copied
pub copy_next : (list copies after : List Stmt) (i : ℕ) (s c : Stmt) (all : Statements) → i < length list → s ≡ get_or list i s →
    ((rest : Statements) → statement c rest ≡ statement s rest) → after ≡ copies ++ c ∷ [] →
    statements (copies ++ drop i list) ≡ all → statements (after ++ drop (i + 1) list) ≡ all
copy_next list copies after i s c all h e same a inv =
    let rest = drop (suc i) list in
    let d : drop i list ≡ s ∷ rest = drop-cons list i s h ∙ ap (λ z. z ∷ rest) (sym e) in
    rw (add-one, a) (ap statements (append_assoc copies (c ∷ []) rest) ∙ swap copies c s rest same ∙ ap (λ z. statements (copies ++ z)) (sym d) ∙ inv)
