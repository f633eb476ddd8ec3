-- Lists of statements that are made one by one with a known word in place of its loads.
use Rattle.std.proofs.Common.{◌≡◌, ℕ, ◌+◌, ◌<◌, ◌≤◌, suc, List, [], ◌∷◌, ◌++◌, Vec, Global, length, get_or, drop, refl, sym, ap, ◌∙◌, add-one}
use Rattle.std.proofs.Math.Seq.{drop-cons}
use Rattle.std.proofs.Math.ListN.{drop_of_length-le}
use Rattle.word_spec.specs.Memory.{Endian}
use Rattle.machine_spec.specs.Bil.{Statements, Empty, While, If}
use Rattle.bil_ast.specs.declared.expressions.Exp.{Exp}
use Rattle.bil_ast.specs.declared.statements.Stmt.{Stmt}
use Rattle.bil_ast.specs.declared.statements.Stmt.TheVariants as stmt
use Rattle.bil_ast.specs.Views.{expression, statement, statements}
use Rattle.bil_ast.proofs.Blocks.{seen_while, seen_if}
use Rattle.bil_trim.specs.Literals.{put_literal, with_literal}

-- statements before a list
abbrev pub before : List Stmt → Statements → Statements
before [] rest = rest
before (s ∷ xs) rest = statement s (before xs rest)

pub before_more : (xs : List Stmt) (c : Stmt) (rest : Statements) → before (xs ++ c ∷ []) rest ≡ before xs (statement c rest)
before_more [] c rest = refl
before_more (x ∷ xs) c rest = ap (statement x) (before_more xs c rest)

pub before_none : (xs : List Stmt) → before xs Empty ≡ statements xs
before_none [] = refl
before_none (x ∷ xs) = ap (statement x) (before_none xs)

-- one more statement made, where what is made of a list is a function of it
pub made_next : (f : Statements → Statements) (list made more : List Stmt) (i : ℕ) (s c : Stmt) → i < length list → s ≡ get_or list i s →
    ((rest : Statements) → statement c (f rest) ≡ f (statement s rest)) → more ≡ made ++ c ∷ [] →
    before made (f (statements (drop i list))) ≡ f (statements list) → before more (f (statements (drop (i + 1) list))) ≡ f (statements list)
made_next f list made more i s c h e same is inv =
    let rest = drop (suc i) list in
    let d : drop i list ≡ s ∷ rest = drop-cons list i s h ∙ ap (λ z. z ∷ rest) (sym e) in
    rw (add-one, is) (before_more made c (f (statements rest)) ∙ ap (before made) (same (statements rest))
    ∙ ap (λ z. before made (f (statements z))) (sym d) ∙ inv)

-- no statement made
pub made_none : (f : Statements → Statements) (list made : List Stmt) → made ≡ [] → before made (f (statements list)) ≡ f (statements list)
made_none f list made is = ap (λ z. before z (f (statements list))) is

-- all statements made
pub made_all : (f : Statements → Statements) (list made : List Stmt) (i : ℕ) → f Empty ≡ Empty → length list ≤ i →
    before made (f (statements (drop i list))) ≡ f (statements list) → statements made ≡ f (statements list)
made_all f list made i none l inv =
    sym (before_none made) ∙ ap (before made) (sym none) ∙ ap (λ z. before made (f (statements z))) (sym (drop_of_length-le list l)) ∙ inv

module _ (o : Endian) (a v : ℕ) where
  -- a loop whose condition and body are another's, with the word
  pub while_made : (s r : Stmt) (e g : Exp) (x y : Vec Stmt Global) (xs : List Stmt) → s ≡ stmt.While e x → xs ≡ x.items →
      ((rest : Statements) → statement r rest ≡ While (expression g) (statements y.items) rest) →
      expression g ≡ put_literal o a v (expression e) → statements y.items ≡ with_literal o a v (statements xs) → (rest : Statements) →
      statement r (with_literal o a v rest) ≡ with_literal o a v (statement s rest)
  while_made s r e g x y xs p q h j k rest =
      h (with_literal o a v rest) ∙ ap (λ z. While z (statements y.items) (with_literal o a v rest)) j
      ∙ ap (λ z. While (put_literal o a v (expression e)) z (with_literal o a v rest)) k ∙ ap (with_literal o a v) (seen_while s e x xs rest p q)

  -- a choice whose condition and lists are another's, with the word
  pub if_made : (s r : Stmt) (e g : Exp) (x y u w : Vec Stmt Global) (xs ys : List Stmt) → s ≡ stmt.If e x y → xs ≡ x.items → ys ≡ y.items →
      ((rest : Statements) → statement r rest ≡ If (expression g) (statements u.items) (statements w.items) rest) →
      expression g ≡ put_literal o a v (expression e) → statements u.items ≡ with_literal o a v (statements xs) →
      statements w.items ≡ with_literal o a v (statements ys) → (rest : Statements) →
      statement r (with_literal o a v rest) ≡ with_literal o a v (statement s rest)
  if_made s r e g x y u w xs ys p q t h j k l rest =
      h (with_literal o a v rest) ∙ ap (λ z. If z (statements u.items) (statements w.items) (with_literal o a v rest)) j
      ∙ ap (λ z. If (put_literal o a v (expression e)) z (statements w.items) (with_literal o a v rest)) k
      ∙ ap (λ z. If (put_literal o a v (expression e)) (with_literal o a v (statements xs)) z (with_literal o a v rest)) l
      ∙ ap (with_literal o a v) (seen_if s e x y xs ys rest p q t)
