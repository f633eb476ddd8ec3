-- Whether tokens are an expression.
use Rattle.std.proofs.Common.{◌≡◌, ℕ, ◌<◌, refl, ap, sym, ◌∙◌, subst, arith, List, [], ◌∷◌, Option, Some, None, Bool, true, false, length, ◌==◌}
use Rattle.bilv_spec.specs.Notes.{Expr}
use Rattle.word_spec.specs.Tokens.{Token}
use Rattle.notes_spec.specs.NotesGrammar.{Parses}
use Rattle.notes_spec.specs.Scopes.{Scope}
use Rattle.bilv_spec.proofs.Decided.{none_some}
use Rattle.notes_spec.proofs.NotesParser.{Level, Read, Fails, Reads, Ends, all_read, is_ready}
use Rattle.notes_spec.proofs.ParserFinds.{reads_all}
use Rattle.notes_spec.proofs.ParserEnds.{by_reading}
use Rattle.line_tokens.specs.declared.lexer.Token as code
use Rattle.notes_lang.specs.declared.parser.Reading.{Reading}
use Rattle.notes_value.specs.Views.{expr_of}
use Rattle.notes_lang.specs.Reading.{read_of, tokens_view}

-- a length by its test
pub some_of : (n : ℕ) (b : Bool) → b ≡ (n == 0) → b ≡ false → 0 < n
some_of n b is empty = grind arith

pub none_of : (n : ℕ) (b : Bool) → b ≡ (n == 0) → b ≡ true → n ≡ 0
none_of n b is empty = grind arith

not_all : (names : Scope) (ts : List Token) (r : Read) → Ends names (Level 1) ts r → is_ready r ≡ true → all_read r ≡ None → (e : Expr) →
    Parses names 1 ts e → ⊥
not_all names ts r p ready none e q =
    let is = p.1 p.0 (omega arith) in
    none_some Expr e (sym none ∙ (sym (ap all_read is) ∙ reads_all names p.0 ts e (ap is_ready is ∙ ready) q))

pub nothing_read : (names : Scope) (ts : List Token) (o : Option Reading) → Ends names (Level 1) ts (read_of o) → o ≡ None → (e : Expr) →
    Parses names 1 ts e → ⊥
nothing_read names ts o p none = not_all names ts Fails (subst (λ o. Ends names (Level 1) ts (read_of o)) none p) refl refl

some_left : (names : Scope) (ts : List Token) (a : Expr) (us : List code.Token) → 0 < length us →
    Ends names (Level 1) ts (Reads a (tokens_view us)) → (e : Expr) → Parses names 1 ts e → ⊥
some_left names ts a [] more p = absurd (omega (arith, more))
some_left names ts a (u ∷ us) more p = not_all names ts (Reads a (tokens_view (u ∷ us))) p refl refl

pub more_left : (names : Scope) (ts : List Token) (o : Option Reading) (r : Reading) → Ends names (Level 1) ts (read_of o) → o ≡ Some r →
    0 < length r.rest.now → (e : Expr) → Parses names 1 ts e → ⊥
more_left names ts o r p some more =
    some_left names ts (expr_of r.expr) r.rest.now more (subst (λ o. Ends names (Level 1) ts (read_of o)) some p)

none_left : (names : Scope) (ts : List Token) (a : Expr) (us : List code.Token) → length us ≡ 0 →
    Ends names (Level 1) ts (Reads a (tokens_view us)) → Parses names 1 ts a
none_left names ts a [] none p = by_reading names p.0 ts a (p.1 p.0 (omega arith))
none_left names ts a (u ∷ us) none p = absurd (omega (arith, none))

pub all_of_it : (names : Scope) (ts : List Token) (o : Option Reading) (r : Reading) → Ends names (Level 1) ts (read_of o) → o ≡ Some r →
    length r.rest.now ≡ 0 → Parses names 1 ts (expr_of r.expr)
all_of_it names ts o r p some none = none_left names ts (expr_of r.expr) r.rest.now none (subst (λ o. Ends names (Level 1) ts (read_of o)) some p)
