-- Clauses of the cells of one flag, and the start of a valuation: what clauses and starts have to be can be had.
use Rattle.std.proofs.Common.{◌≡◌, refl, ap, sym, ◌∙◌, subst, arith, ℕ, zero, suc, ◌+◌, ◌*◌, ◌<◌, ◌≤◌, [], ◌∷◌, Bool, true, false}
use Rattle.std.specs.Prelude.{Contains, ◌==◌, ◌||◌, ◌&&◌}
use Rattle.std.proofs.lemmas.Bool.Decides.{nat_tests}
use Rattle.word_spec.specs.Words.{bit, bit_at}
use Rattle.word_spec.specs.Memory.{Little}
use Rattle.clause_spec.specs.Clauses.{Literal, Clause, Cnf, IsOnVariables, has, same_sign, clause_value, Satisfies}
use Rattle.word_spec.specs.State.{Written}
use Rattle.term_spec.specs.Terms.{FlagNode, values_from}
use Rattle.walk_spec.specs.Unrolled.{UnrolledProgram}
use Rattle.term_spec.specs.Cells.{Cells}
use Rattle.term_spec.specs.ClauseForm.{reading, TellsClauses, IsStartOf}

-- a program with one flag
abbrev u : UnrolledProgram
u = record {
  endian = Little;
  narrow = false;
  registers = [];
  flags = 1;
  link = 0;
  entry = 0;
  requires = [];
  ensures = [];
  kept = [];
  known = [];
  literals = [];
  points = [];
}

-- the flag is 1
abbrev c : Cells
c = record { nodes = FlagNode 0 0 ∷ []; addresses = []; agrees = []; asked = []; root = 0 }

abbrev first : Literal
first = record { variable = 1; positive = true }

-- its clauses: variable 1
abbrev cnf : Cnf
cnf = record { variables = 1; clauses = (first ∷ []) ∷ [] }

in_first : (l : Literal) → has (first ∷ []) l ≡ true → (1 ≤ l.variable) × (l.variable ≤ 1)
in_first l h = one l.variable h
  where
    one : (n : ℕ) → (((1 == n) && same_sign true l.positive) || false) ≡ true → (1 ≤ n) × (n ≤ 1)
    one zero h = absurd (cc)
    one (suc zero) h = (omega arith, omega arith)
    one (suc (suc n)) h = absurd (let e : (1 == suc (suc n)) ≡ false = grind (arith, nat_tests) in
        let f : false ≡ true = ap (λ z. (z && same_sign true l.positive) || false) (sym e) ∙ h in cc)

true_first : (v : ℕ → Bool) → Satisfies v cnf.clauses → v 1 ≡ true
true_first v s = plain (v 1) (s (first ∷ []) (0, omega arith, refl))
  where
    plain : (b : Bool) → (same_sign b true || false) ≡ true → b ≡ true
    plain true h = refl
    plain false h = absurd (cc)

no_read : {A : Type 0} (n : ℕ) → n < 0 → A
no_read n l = absurd (omega arith)

pub tells : TellsClauses u c cnf
unfolding values_from
tells = record {
  extends = record {
    over = over;
    once = λ v w a s t. a;
    only = λ v s. (record { agrees = λ a (n, l, e). no_read n l; asked = λ a (n, l, e). no_read n l }, ap (λ z. 0 + bit z * 1) (true_first v s));
    where_true = λ a f. (a, (λ i l m. refl), sat a f.1);
  };
  all = omega arith;
  few = omega arith;
}
  where
    over : (d : Clause) → Contains cnf.clauses d → IsOnVariables 1 d
    over d (zero, l, e) = subst (IsOnVariables 1) e in_first
    over d (suc n, l, e) = absurd (omega arith)

    value : (b : Bool) → 0 + bit b * 1 ≡ 1 → (same_sign b true || false) ≡ true
    value true h = refl
    value false h = absurd (omega arith)

    sat : (a : ℕ → Bool) → 0 + bit (a 1) * 1 ≡ 1 → Satisfies a cnf.clauses
    sat a h d (zero, l, e) = subst (λ (z : Clause). clause_value a z ≡ true) e (value (a 1) h)
    sat a h d (suc n, l, e) = absurd (omega arith)

-- the start of the valuation in which the flag is 1
abbrev w : Written
w = record { regs = []; flags = 1; bytes = []; choices = [] }

pub starts : IsStartOf u c (λ i. true) w
starts = record {
  regs = refl;
  flags = flag;
  flags_fit = omega arith;
  bytes = λ n d l. no_read n l;
  bytes_rise = λ i j d a l. no_read j l;
  unknown = λ n d l. no_read n l;
  gives = λ j l. no_read j l;
  choices = λ n d l. no_read n l;
  choices_rise = λ i j d a l. no_read j l;
  follows = λ r is step i d h. refl;
}
  where
    flag : (f : ℕ) → f < 1 → bit_at f 1 ≡ (reading u c (λ i. true)).flags 0 f
    flag zero l = refl
    flag (suc f) l = absurd (omega arith)
