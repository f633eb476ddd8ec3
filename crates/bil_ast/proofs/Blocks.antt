-- The lists inside a statement, read as lists.
use Rattle.std.proofs.Common.{◌≡◌, ◌+◌, List, Vec, Global, refl, sym, ap, ◌∙◌, add-zero}
use mathlib.Core.Former.{Count}
use Rattle.machine_spec.specs.Bil.{Statements, Empty, While, If, size, list_size}
use Rattle.bil_ast.specs.declared.expressions.Exp.{Exp}
use Rattle.bil_ast.specs.declared.statements.Stmt.{Stmt, Row_of-Stmt, end_of-Stmt, more_of-Stmt, items-the_row-Stmt, items_hidden-the_row-Stmt-0}
use Rattle.bil_ast.specs.declared.statements.Stmt.TheVariants as stmt
use Rattle.bil_ast.specs.Views.{expression, statement, block, statements}

block_items : (n : _) (row : Row_of-Stmt n) → block row ≡ statements (items-the_row-Stmt n row)
block_items n end_of-Stmt = refl
block_items n (more_of-Stmt s rest) = ap (statement s) (block_items _ rest)

-- the first list of a statement, as it stands there
abbrev first_row : Stmt → (n : Count) × Row_of-Stmt n
first_row (stmt.If' e m a k b) = (_, a)
first_row (stmt.While' e m a) = (_, a)
first_row _ = (_, end_of-Stmt)

-- the second list of a statement, as it stands there
abbrev second_row : Stmt → (n : Count) × Row_of-Stmt n
second_row (stmt.If' e m a k b) = (_, b)
second_row _ = (_, end_of-Stmt)

pub statement_if : (e : Exp) (a b : Vec Stmt Global) (rest : Statements) →
    statement (stmt.If e a b) rest ≡ If (expression e) (statements a.items) (statements b.items) rest
statement_if e a b rest =
    let p = first_row (stmt.If e a b) in
    let q = second_row (stmt.If e a b) in
    let x : block p.1 ≡ statements a.items = block_items p.0 p.1 ∙ ap statements (items_hidden-the_row-Stmt-0 a) in
    let y : block q.1 ≡ statements b.items = block_items q.0 q.1 ∙ ap statements (items_hidden-the_row-Stmt-0 b) in
    ap (λ z. If (expression e) z (block q.1) rest) x ∙ ap (λ z. If (expression e) (statements a.items) z rest) y

pub statement_while : (e : Exp) (a : Vec Stmt Global) (rest : Statements) →
    statement (stmt.While e a) rest ≡ While (expression e) (statements a.items) rest
statement_while e a rest =
    let p = first_row (stmt.While e a) in
    let x : block p.1 ≡ statements a.items = block_items p.0 p.1 ∙ ap statements (items_hidden-the_row-Stmt-0 a) in
    ap (λ z. While (expression e) z rest) x

-- a loop, seen as the definition's
pub seen_while : (s : Stmt) (e : Exp) (a : Vec Stmt Global) (xs : List Stmt) (rest : Statements) → s ≡ stmt.While e a → xs ≡ a.items →
    While (expression e) (statements xs) rest ≡ statement s rest
seen_while s e a xs rest p x =
    ap (λ z. While (expression e) (statements z) rest) x ∙ sym (statement_while e a rest) ∙ ap (λ z. statement z rest) (sym p)

-- a choice, seen as the definition's
pub seen_if : (s : Stmt) (e : Exp) (a b : Vec Stmt Global) (xs ys : List Stmt) (rest : Statements) → s ≡ stmt.If e a b → xs ≡ a.items → ys ≡ b.items →
    If (expression e) (statements xs) (statements ys) rest ≡ statement s rest
seen_if s e a b xs ys rest p x y =
    ap (λ z. If (expression e) (statements z) (statements ys) rest) x ∙ ap (λ z. If (expression e) (statements a.items) (statements z) rest) y
    ∙ sym (statement_if e a b rest) ∙ ap (λ z. statement z rest) (sym p)

-- a loop whose condition and body are another's
pub while_copied : (s r : Stmt) (e f : Exp) (a b : Vec Stmt Global) (xs : List Stmt) → s ≡ stmt.While e a → xs ≡ a.items →
    ((rest : Statements) → statement r rest ≡ While (expression f) (statements b.items) rest) →
    expression f ≡ expression e → statements b.items ≡ statements xs → (rest : Statements) → statement r rest ≡ statement s rest
while_copied s r e f a b xs p x h j k rest =
    h rest ∙ ap (λ z. While z (statements b.items) rest) j ∙ ap (λ z. While (expression e) z rest) k ∙ seen_while s e a xs rest p x

-- a choice whose condition and lists are another's
pub if_copied : (s r : Stmt) (e f : Exp) (a b c d : Vec Stmt Global) (xs ys : List Stmt) → s ≡ stmt.If e a b → xs ≡ a.items → ys ≡ b.items →
    ((rest : Statements) → statement r rest ≡ If (expression f) (statements c.items) (statements d.items) rest) →
    expression f ≡ expression e → statements c.items ≡ statements xs → statements d.items ≡ statements ys →
    (rest : Statements) → statement r rest ≡ statement s rest
if_copied s r e f a b c d xs ys p x y h j k l rest =
    h rest ∙ ap (λ z. If z (statements c.items) (statements d.items) rest) j
    ∙ ap (λ z. If (expression e) z (statements d.items) rest) k ∙ ap (λ z. If (expression e) (statements xs) z rest) l ∙ seen_if s e a b xs ys rest p x y

-- the nodes of a loop
pub size_while : (s : Stmt) (e : Exp) (a : Vec Stmt Global) (xs : List Stmt) → s ≡ stmt.While e a → xs ≡ a.items →
    list_size (statement s Empty) ≡ 1 + size (expression e) + list_size (statements xs)
size_while s e a xs p x =
    ap list_size (sym (seen_while s e a xs Empty p x)) ∙ add-zero _

-- the nodes of a choice
pub size_if : (s : Stmt) (e : Exp) (a b : Vec Stmt Global) (xs ys : List Stmt) → s ≡ stmt.If e a b → xs ≡ a.items → ys ≡ b.items →
    list_size (statement s Empty) ≡ 1 + size (expression e) + list_size (statements xs) + list_size (statements ys)
size_if s e a b xs ys p x y =
    ap list_size (sym (seen_if s e a b xs ys Empty p x y)) ∙ add-zero _
