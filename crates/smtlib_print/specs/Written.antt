-- The text of S-expressions: words as they are, one blank between two elements of a list; each command stands on its line.
use Rattle.std.specs.Prelude.{ℕ, List, [], ◌∷◌, ◌++◌, codes}
use Rattle.bilv_spec.specs.SmtLib.{Sexp, Atom, Nil, Cons}

-- the text of an S-expression, and of the elements of a list that follow one, with its closing bracket
abbrev mutual
  -- the text of an S-expression
  pub written : Sexp → List ℕ
  written (Atom w) = w
  written Nil = codes "()"
  written (Cons e rest) = 40 ∷ written e ++ rest_written rest

  -- the text of the elements that follow
  pub rest_written : Sexp → List ℕ
  rest_written (Atom w) = []
  rest_written Nil = codes ")"
  rest_written (Cons e rest) = 32 ∷ written e ++ rest_written rest

-- the lines of commands
abbrev pub commands_text : List Sexp → List ℕ
commands_text [] = []
commands_text (c ∷ rest) = written c ++ 10 ∷ commands_text rest

-- commands as one list, before others
abbrev pub before : List Sexp → Sexp → Sexp
before [] rest = rest
before (c ∷ cs) rest = Cons c (before cs rest)

-- lists of one to five elements
abbrev pub one : Sexp → Sexp
one a = Cons a Nil

abbrev pub two : Sexp → Sexp → Sexp
two a b = Cons a (one b)

abbrev pub three : Sexp → Sexp → Sexp → Sexp
three a b c = Cons a (two b c)

abbrev pub four : Sexp → Sexp → Sexp → Sexp → Sexp
four a b c d = Cons a (three b c d)

abbrev pub five : Sexp → Sexp → Sexp → Sexp → Sexp → Sexp
five a b c d f = Cons a (four b c d f)
