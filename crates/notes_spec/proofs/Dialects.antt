-- Lines that are neither invariants nor of contracts say the same in every dialect.
use Rattle.std.proofs.Common.{◌≡◌, ℕ, refl, ap, ◌∙◌, List, [], ◌∷◌, Some, Bool, true, false, ◌||◌}
use Rattle.std.specs.List.{list_any}
use Rattle.bilv_spec.specs.Notes.{Expr, At, Named, Notes}
use Rattle.word_spec.specs.Tokens.{Token, NumberToken, NameToken, SignToken, BadByte, BadText, tokens_of}
use Rattle.notes_spec.specs.NotesGrammar.{number_at, AreNumbers, Parses, tighter, binary_of, not_of, number_of, name_of, memory_of, old_of, all_of, in_brackets, lines_of, is_second, Says, Nothing, EntryIs, RequireIs, EnsureIs, AssertIs, TargetsAre, FixedIs, VersionIs, ConstIs, LoadedIs, InvariantIs, NeedIs, GiveIs, ModifiesAre, WritesAre, IsSaid, IsVersion, IsNew, IsLine, AreLines, after, is_invariant, is_of_contract, IsNotesText}
use Rattle.notes_spec.specs.NotesLaws.{PairedIsPlain}
use Rattle.notes_spec.specs.Scopes.{Vocabulary, Scope, Dialect, Plain, Paired, Strict, begin, binding, in_dialect}

-- an invariant, or a line of a contract
abbrev pub is_framing : Says → Bool
is_framing x = is_invariant x || is_of_contract x

-- a scope, in a dialect
abbrev pub spoken : Dialect → Scope → Scope
spoken d s = record s { dialect = d; mode = Strict }

module _ (d e : Dialect) where
  number_spoken : (s : Scope) (t : Token) (n : ℕ) → number_at (spoken d s) t ≡ Some n → number_at (spoken e s) t ≡ Some n
  number_spoken s (NumberToken m) n is = is
  number_spoken s (NameToken w) n is = is
  number_spoken s (SignToken w) n is = is
  number_spoken s BadByte n is = is
  number_spoken s BadText n is = is

  parses_spoken : (s : Scope) (l : ℕ) (ts : List Token) (x : Expr) → Parses (spoken d s) l ts x → Parses (spoken e s) l ts x
  parses_spoken s l ts x (tighter below p) = tighter below (parses_spoken s _ ts x p)
  parses_spoken s l ts x (binary_of {xs = xs} {ys = ys} {a = a} {b = b} c p q is) =
      binary_of c (parses_spoken s _ xs a p) (parses_spoken s _ ys b q) is
  parses_spoken s l ts x (not_of {ts = us} {e = a} p) = not_of (parses_spoken s _ us a p)
  parses_spoken s l ts x number_of = number_of
  parses_spoken s l ts x (name_of is) = name_of is
  parses_spoken s l ts x (memory_of {us = us} {e = a} c p is) = memory_of c (parses_spoken s _ us a p) is
  parses_spoken s l ts x (old_of {us = us} {e = a} p is) = old_of (parses_spoken s _ us a p) is
  parses_spoken s l ts x (all_of {w = w} {b = b} {c = c} low high {us = us} a two p q may r is) =
      all_of low high a two (number_spoken s b low p) (number_spoken s c high q) may (parses_spoken (binding s w) 1 us a r) is
  parses_spoken s l ts x (in_brackets {us = us} p is) = in_brackets (parses_spoken s _ us x p) is

  numbers_spoken : (s : Scope) (ts : List Token) (ns : List ℕ) → AreNumbers (spoken d s) ts ns → AreNumbers (spoken e s) ts ns
  numbers_spoken s [] [] h = tt
  numbers_spoken s (t ∷ ts) (n ∷ ns) h = (number_spoken s t n h.0, numbers_spoken s ts ns h.1)
  numbers_spoken s [] (n ∷ ns) h = absurd h
  numbers_spoken s (t ∷ ts) [] h = absurd h

  said_spoken : (s : Scope) (ts : List Token) (x : Says) → is_framing x ≡ false → IsSaid (spoken d s) ts x → IsSaid (spoken e s) ts x
  said_spoken s ts Nothing free is = is
  said_spoken s ts (EntryIs (At a)) free (t, is, n) = (t, is, number_spoken s t a n)
  said_spoken s ts (EntryIs (Named w)) free is = is
  said_spoken s ts (RequireIs x) free (rest, is, p) = (rest, is, parses_spoken s 1 rest x p)
  said_spoken s ts (EnsureIs x) free (rest, is, p) = (rest, is, parses_spoken s 1 rest x p)
  said_spoken s ts (AssertIs a x) free (t, rest, is, n, p) = (t, rest, is, number_spoken s t a n, parses_spoken s 1 rest x p)
  said_spoken s ts (TargetsAre a to) free (t, rest, is, n, ns, some) = (t, rest, is, number_spoken s t a n, numbers_spoken s rest to ns, some)
  said_spoken s ts (FixedIs low high) free (t, u, is, n, m) = (t, u, is, number_spoken s t low n, number_spoken s u high m)
  said_spoken s ts (VersionIs b) free is = is
  said_spoken s ts (ConstIs w v) free is = is
  said_spoken s ts LoadedIs free is = is
  said_spoken s ts x free is = absurd (let b : ⊥ = cc in b)

  version_spoken : (s : Scope) (x : Says) → IsVersion (spoken d s) x → IsVersion (spoken e s) x
  version_spoken s (VersionIs b) h = h
  version_spoken s x h = tt

  new_spoken : (s : Scope) (x : Says) → IsNew (spoken d s) x → IsNew (spoken e s) x
  new_spoken s (ConstIs w v) h = h
  new_spoken s x h = tt

  line_spoken : (s : Scope) (text : List ℕ) (x : Says) → is_framing x ≡ false → IsLine (spoken d s) text x → IsLine (spoken e s) text x
  line_spoken s text x free line = record {
    short = line.short;
    good = line.good;
    depth = line.depth;
    said = said_spoken s (tokens_of text) x free line.said;
    aligned = line.aligned;
    range = line.range;
    version = version_spoken s x line.version;
    new = new_spoken s x line.new;
    alone = λ is. free;
  }

  -- where the lines of a dialect are neither invariants nor of contracts, they are lines of every dialect
  lines_spoken : ((s : Scope) (text : List ℕ) (x : Says) → IsLine (spoken d s) text x → is_framing x ≡ false) →
      (s : Scope) (texts : List (List ℕ)) (says : List Says) → AreLines (spoken d s) texts says → AreLines (spoken e s) texts says
  lines_spoken free s [] [] h = tt
  lines_spoken free s [] (x ∷ says) h = absurd h
  lines_spoken free s (text ∷ texts) [] h = absurd h
  lines_spoken free s (text ∷ texts) (Nothing ∷ says) h = (line_spoken s text Nothing refl h.0, lines_spoken free s texts says h.1)
  lines_spoken free s (text ∷ texts) (x ∷ says) h = (line_spoken s text x (free s text x h.0) h.0, lines_spoken free (after s x) texts says h.1)

  notes_spoken : ((s : Scope) (text : List ℕ) (x : Says) → IsLine (spoken d s) text x → is_framing x ≡ false) →
      (v : Vocabulary) (text : List ℕ) (notes : Notes) → IsNotesText (in_dialect d v) text notes → IsNotesText (in_dialect e v) text notes
  notes_spoken free v text notes is = record {
    short = is.short;
    says = is.says;
    lines = lines_spoken free (begin v (is_second (lines_of text))) (lines_of text) is.says is.lines;
    unmixed = is.unmixed;
    notes_are = is.notes_are;
  }

-- no plain line is an invariant or of a contract, and no line of a function that is compared
plain_said : (s : Scope) (ts : List Token) (x : Says) → IsSaid (spoken Plain s) ts x → is_framing x ≡ false
plain_said s ts (InvariantIs a e) is = absurd (let x : false ≡ true = is.1.1 in let b : ⊥ = cc in b)
plain_said s ts (NeedIs a e) is = absurd (let x : false ≡ true = is.1.1 in let b : ⊥ = cc in b)
plain_said s ts (GiveIs a e) is = absurd (let x : false ≡ true = is.1.1 in let b : ⊥ = cc in b)
plain_said s ts (ModifiesAre a cs) (t, rest, is, n, changed, some, may) = absurd (let x : false ≡ true = may.1 in let b : ⊥ = cc in b)
plain_said s ts (WritesAre a e n) (t, u, us, is, m, p, k, may) = absurd (let x : false ≡ true = may.1 in let b : ⊥ = cc in b)
plain_said s ts x is = refl

pub plain_line : (s : Scope) (text : List ℕ) (x : Says) → IsLine (spoken Plain s) text x → is_framing x ≡ false
plain_line s text x line = plain_said s (tokens_of text) x line.said

paired_line : (s : Scope) (text : List ℕ) (x : Says) → IsLine (spoken Paired s) text x → is_framing x ≡ false
paired_line s text x line = line.alone refl

pub paired_is_plain : PairedIsPlain
paired_is_plain v text notes = (notes_spoken Paired Plain paired_line v text notes, notes_spoken Plain Paired plain_line v text notes)

-- so no line of them is
pub plain_lines : (s : Scope) (texts : List (List ℕ)) (says : List Says) → AreLines (spoken Plain s) texts says → list_any is_framing says ≡ false
plain_lines s [] [] h = refl
plain_lines s [] (x ∷ says) h = absurd h
plain_lines s (text ∷ texts) [] h = absurd h
plain_lines s (text ∷ texts) (Nothing ∷ says) h = plain_lines s texts says h.1
plain_lines s (text ∷ texts) (x ∷ says) h =
    ap (λ b. b || list_any is_framing says) (plain_line s text x h.0) ∙ plain_lines (after s x) texts says h.1
