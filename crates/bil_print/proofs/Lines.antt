-- Lines of statements, one statement at a time.
use Rattle.std.proofs.Common.{◌≡◌, ℕ, zero, suc, ◌+◌, ◌<◌, List, [], ◌∷◌, ◌++◌, length, get_or, drop, codes, append_assoc, add-one, refl, sym, ap, ◌∙◌, Vec, Global, Result, Ok, Err, OnOk}
use Rattle.std.proofs.Math.Seq.{drop-cons}
use Rattle.machine_spec.specs.Bil.{Statements}
use Rattle.machine_spec.specs.BilText.{indent, line_at, list_text, text_of}
use Rattle.bil_ast.specs.declared.expressions.Exp.{Exp}
use Rattle.bil_ast.specs.declared.statements.Stmt.{Stmt}
use Rattle.bil_ast.specs.declared.statements.Stmt.TheVariants as stmt
use Rattle.bil_ast.specs.Views.{expression, statement, statements}
use Rattle.bil_ast.proofs.Blocks.{statement_if, statement_while}

-- the blanks of the next depth
pub deeper : (n : ℕ) → indent n ++ 32 ∷ 32 ∷ [] ≡ indent (suc n)
deeper zero = refl
deeper (suc n) = ap (λ z. 32 ∷ 32 ∷ z) (deeper n)

-- one statement more
pub statement_more : (list : List Stmt) (i : ℕ) (s : Stmt) (depth : ℕ) (out new old : List ℕ) → i < length list → s ≡ get_or list i s →
    new ++ list_text depth (statements (drop (suc i) list)) ≡ out ++ list_text depth (statement s (statements (drop (suc i) list))) →
    out ++ list_text depth (statements (drop i list)) ≡ old ++ list_text depth (statements list) →
    new ++ list_text depth (statements (drop (i + 1) list)) ≡ old ++ list_text depth (statements list)
statement_more list i s depth out new old h e step inv =
    let d : drop i list ≡ s ∷ drop (suc i) list = drop-cons list i s h ∙ ap (λ z. z ∷ drop (suc i) list) (sym e) in
    rw add-one (step ∙ ap (λ z. out ++ list_text depth (statements z)) (sym d) ∙ inv)

-- the text of the block behind its blanks
pub block_lines : (xs : List Stmt) (depth : ℕ) (blanks more old new : List ℕ) → more ≡ blanks ++ 32 ∷ 32 ∷ [] → blanks ≡ indent depth →
    ((d : ℕ) → more ≡ indent d → new ≡ old ++ list_text d (statements xs)) → new ≡ old ++ list_text (depth + 1) (statements xs)
block_lines xs depth blanks more old new m b h = rw add-one (h (suc depth) (m ∙ ap (λ z. z ++ 32 ∷ 32 ∷ []) b ∙ deeper depth))

three : (old a b c r w1 w2 new : List ℕ) → w1 ≡ old ++ a → w2 ≡ w1 ++ b → new ≡ w2 ++ c → new ++ r ≡ old ++ (a ++ b ++ c ++ r)
three old a b c r w1 w2 new p q s = rw (s, q, p) (simp append_assoc)

five : (old a b c d e r w1 w2 w3 w4 new : List ℕ) → w1 ≡ old ++ a → w2 ≡ w1 ++ b → w3 ≡ w2 ++ c → w4 ≡ w3 ++ d → new ≡ w4 ++ e →
    new ++ r ≡ old ++ (a ++ b ++ c ++ d ++ e ++ r)
five old a b c d e r w1 w2 w3 w4 new p q s t u = rw (u, t, s, q, p) (simp append_assoc)

-- the lines of a loop
pub while_lines : (s : Stmt) (e : Exp) (body : Vec Stmt Global) (xs : List Stmt) (depth : ℕ) (rest : Statements) (old w1 w2 new : List ℕ) →
    s ≡ stmt.While e body → xs ≡ body.items →
    w1 ≡ old ++ line_at depth (codes "while " ++ text_of (expression e) ++ codes " {") →
    w2 ≡ w1 ++ list_text (depth + 1) (statements xs) → new ≡ w2 ++ line_at depth (codes "}") →
    new ++ list_text depth rest ≡ old ++ list_text depth (statement s rest)
while_lines s e body xs depth rest old w1 w2 new is items p q r =
    let q1 : w2 ≡ w1 ++ list_text (suc depth) (statements body.items) = q ∙ ap (λ z. w1 ++ list_text z (statements xs)) (add-one depth) ∙ ap
    (λ z. w1 ++ list_text (suc depth) (statements z)) items in
    three old _ _ _ (list_text depth rest) w1 w2 new p q1 r
    ∙ ap (λ z. old ++ list_text depth z) (sym (statement_while e body rest)) ∙ ap (λ z. old ++ list_text depth (statement z rest)) (sym is)

-- the lines of a choice
pub if_lines : (s : Stmt) (e : Exp) (a b : Vec Stmt Global) (xs ys : List Stmt) (depth : ℕ) (rest : Statements) (old w1 w2 w3 w4 new : List ℕ) →
    s ≡ stmt.If e a b → xs ≡ a.items → ys ≡ b.items →
    w1 ≡ old ++ line_at depth (codes "if " ++ text_of (expression e) ++ codes " {") →
    w2 ≡ w1 ++ list_text (depth + 1) (statements xs) → w3 ≡ w2 ++ line_at depth (codes "} else {") →
    w4 ≡ w3 ++ list_text (depth + 1) (statements ys) → new ≡ w4 ++ line_at depth (codes "}") →
    new ++ list_text depth rest ≡ old ++ list_text depth (statement s rest)
if_lines s e a b xs ys depth rest old w1 w2 w3 w4 new is x y p q r t u =
    let q1 : w2 ≡ w1 ++ list_text (suc depth) (statements a.items) = q ∙ ap (λ z. w1 ++ list_text z (statements xs)) (add-one depth) ∙ ap
    (λ z. w1 ++ list_text (suc depth) (statements z)) x in
    let t1 : w4 ≡ w3 ++ list_text (suc depth) (statements b.items) = t ∙ ap (λ z. w3 ++ list_text z (statements ys)) (add-one depth) ∙ ap
    (λ z. w3 ++ list_text (suc depth) (statements z)) y in
    five old _ _ _ _ _ (list_text depth rest) w1 w2 w3 w4 new p q1 r t1 u
    ∙ ap (λ z. old ++ list_text depth z) (sym (statement_if e a b rest)) ∙ ap (λ z. old ++ list_text depth (statement z rest)) (sym is)

-- what follows from the fact of an Ok
pub on_ok : {A E : Type 0} (r : Result A E) (P Q : Type 0) → (P → Q) → OnOk r P → OnOk r Q
on_ok (Ok a) P Q f h = f h
on_ok (Err e) P Q f h = h
