-- Scopes, as definitions see them.
use Rattle.std.specs.Prelude.{ℕ, List, map, Option, None}
use Rattle.std.specs.Borrow.{Bor}
use Rattle.notes_spec.specs.Scopes as scopes
use Rattle.notes_lang.specs.declared.scopes.Mode.{Mode}
use Rattle.notes_lang.specs.declared.scopes.Mode.TheVariants.{Strict, Lenient, Loose}
use Rattle.notes_lang.specs.declared.scopes.Constant.{Constant}
use Rattle.notes_lang.specs.declared.scopes.Changed.{Changed}
use Rattle.notes_lang.specs.declared.scopes.Changed.TheVariants.{Register, Flag}
use Rattle.notes_lang.specs.declared.scopes.Scope.{Scope}
use Rattle.word_spec.specs.Tokens as tokens
use Rattle.notes_lang.specs.Named.{vocabulary_of}

-- how a line is read
abbrev pub mode_of : Mode → scopes.Mode
mode_of Strict = scopes.Strict
mode_of Lenient = scopes.Lenient
mode_of Loose = scopes.Loose

-- a constant
abbrev pub constant_of : Constant → scopes.Constant
constant_of c = record { word = c.word.now; number = c.number }

-- a name that is bound
abbrev pub text_of : Bor (List ℕ) → List ℕ
text_of w = w.now

-- a scope
abbrev pub scope_of : Scope → scopes.Scope
scope_of s = record {
  names = (vocabulary_of s.words).names;
  narrow = (vocabulary_of s.words).narrow;
  dialect = (vocabulary_of s.words).dialect;
  consts = map constant_of s.consts.now;
  bound = map text_of s.bound.now;
  is_second = s.is_second;
  is_first = s.is_first;
  mode = mode_of s.mode;
}

-- a register or a flag that may change
abbrev pub changed_of : Changed → scopes.Changed
changed_of (Register r) = scopes.ChangedRegister r
changed_of (Flag f) = scopes.ChangedFlag f

-- the register or the flag that a token is
abbrev pub changed_at : scopes.Scope → tokens.Token → Option scopes.Changed
changed_at s (tokens.NameToken w) = scopes.changed_by s.mode s w
changed_at s (tokens.NumberToken n) = None
changed_at s (tokens.SignToken w) = None
changed_at s tokens.BadByte = None
changed_at s tokens.BadText = None
