-- Lists that are made one by one, some statements of a list left out.
use Rattle.std.proofs.Common.{◌≡◌, ℕ, Bool, List, [], ◌∷◌, ◌++◌, Vec, Global, length, Option, Some, refl, sym, ap, ◌∙◌, arith}
use Rattle.machine_spec.specs.Bil.{Statements, Empty, While, If}
use Rattle.bil_ast.specs.declared.expressions.Exp.{Exp}
use Rattle.bil_ast.specs.declared.statements.Stmt.{Stmt}
use Rattle.bil_ast.specs.declared.statements.Stmt.TheVariants as stmt
use Rattle.bil_ast.specs.Views.{expression, statement, statements}
use Rattle.bil_ast.proofs.Blocks.{seen_while, seen_if}
use Rattle.bil_trim.specs.Before.{maybe_statement}
use Rattle.bil_trim.specs.Flags.{with_flags}
use Rattle.bil_trim.proofs.Copies.{before, before_more, before_none}

-- one more statement made of the first that was left
pub added_next : (f : Statements → Statements) (list old left made more : List Stmt) (s c : Stmt) (o : Option Stmt) → old ≡ s ∷ left → o ≡ Some c →
    ((rest : Statements) → maybe_statement o (f rest) ≡ f (statement s rest)) → more ≡ made ++ c ∷ [] →
    before made (f (statements old)) ≡ f (statements list) → before more (f (statements left)) ≡ f (statements list)
added_next f list old left made more s c o first one same is inv =
    ap (λ z. before z (f (statements left))) is ∙ before_more made c (f (statements left))
    ∙ ap (before made) (ap (λ z. maybe_statement z (f (statements left))) (sym one) ∙ same (statements left))
    ∙ ap (λ z. before made (f (statements z))) (sym first) ∙ inv

none_left : (xs : List Stmt) → length xs ≡ 0 → xs ≡ []
none_left [] h = refl
none_left (x ∷ xs) h = absurd (omega arith)

-- all statements made
pub added_all : (f : Statements → Statements) (list left made : List Stmt) → f Empty ≡ Empty → length left ≡ 0 →
    before made (f (statements left)) ≡ f (statements list) → statements made ≡ f (statements list)
added_all f list left made none l inv =
    sym (before_none made) ∙ ap (before made) (sym none) ∙ ap (λ z. before made (f (statements z))) (sym (none_left left l)) ∙ inv

module _ (k : ℕ → Bool) where
  -- a loop whose body is another's without assignments of flags
  pub while_left : (s r : Stmt) (e : Exp) (x y : Vec Stmt Global) → s ≡ stmt.While e x →
      ((rest : Statements) → statement r rest ≡ While (expression e) (statements y.items) rest) →
      statements y.items ≡ with_flags k (statements x.items) → (rest : Statements) → statement r (with_flags k rest) ≡ with_flags k (statement s rest)
  while_left s r e x y p h j rest =
      h (with_flags k rest) ∙ ap (λ z. While (expression e) z (with_flags k rest)) j ∙ ap (with_flags k) (seen_while s e x x.items rest p refl)

  -- a choice whose lists are another's without assignments of flags
  pub if_left : (s r : Stmt) (e : Exp) (x y u w : Vec Stmt Global) → s ≡ stmt.If e x y →
      ((rest : Statements) → statement r rest ≡ If (expression e) (statements u.items) (statements w.items) rest) →
      statements u.items ≡ with_flags k (statements x.items) → statements w.items ≡ with_flags k (statements y.items) → (rest : Statements) →
      statement r (with_flags k rest) ≡ with_flags k (statement s rest)
  if_left s r e x y u w p h j l rest =
      h (with_flags k rest) ∙ ap (λ z. If (expression e) z (statements w.items) (with_flags k rest)) j
      ∙ ap (λ z. If (expression e) (with_flags k (statements x.items)) z (with_flags k rest)) l
      ∙ ap (with_flags k) (seen_if s e x y x.items y.items rest p refl refl)
