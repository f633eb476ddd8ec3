-- The words of a state that links compare.
use Rattle.std.specs.Prelude.{ℕ, ◌≤◌, Bool, true, false, List, IsTrue, All, map}
use Rattle.word_spec.specs.State.{State}
use Rattle.links_lang.specs.declared.links.Link.{Link}
use Rattle.links_lang.specs.declared.links.Link.TheVariants.{Exit}
use Rattle.links_lang.specs.declared.links.Named.{Named}
use Rattle.links_lang.specs.declared.links.Named.TheVariants.{Zero, Register, Flag}
use Rattle.start_value.specs.declared.layout.Layout.{Layout}
use Rattle.links_lang.specs.Views.{IsOfForm}

-- what a line names on a side
abbrev pub named_in : (second : Bool) → Named → Named → Named
named_in true x y = y
named_in false x y = x

-- states of a form have what a link compares of the exit state of a side
abbrev pub IsExitLink : (second : Bool) → Layout → Link → Type 0
IsExitLink side form (Exit line x y) = IsOfForm form (named_in side x y)
IsExitLink side form other = Unit {0}

abbrev pub AreExitLinks : (second : Bool) → Layout → List Link → Type 0
AreExitLinks side form links = All (IsExitLink side form) links

-- a register that passes a test, or one of the four flags
abbrev pub IsNamedOf : (has_register : ℕ → Bool) → Named → Type 0
IsNamedOf has Zero = Unit {0}
IsNamedOf has (Register r) = IsTrue (has r)
IsNamedOf has (Flag f) = f ≤ 3

-- what a link compares of an exit state of a side
abbrev pub IsWordOf : (second : Bool) → (has_register : ℕ → Bool) → Link → Type 0
IsWordOf side has (Exit line x y) = IsNamedOf has (named_in side x y)
IsWordOf side has other = Unit {0}

abbrev pub AreWordsOf : (second : Bool) → (has_register : ℕ → Bool) → List Link → Type 0
AreWordsOf side has links = All (IsWordOf side has) links

-- the bytes at some addresses, each after the number of a line
abbrev pub lined_bytes : (line : ℕ) → State → List ℕ → List (ℕ × ℕ)
lined_bytes n s places = map (λ a. (n, s.mem a)) places
