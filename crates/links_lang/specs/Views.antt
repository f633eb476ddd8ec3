-- The links of the definitions that values stand for.
use Rattle.std.specs.Prelude.{◌≡◌, ◌≤◌, ◌<◌, ◌+◌, true, List, All, map}
use Rattle.bilv_spec.specs.Notes.{Expr, Number}
use Rattle.bilv_spec.specs.Notes as notes
use Rattle.pair_spec.specs.Links.{AreAlike, kind_of}
use Rattle.pair_spec.specs.Links as spec
use Rattle.start_value.specs.declared.layout.Layout.{Layout}
use Rattle.notes_lang.specs.Parsing.{layout_registers, layout_flags}
use Rattle.links_lang.specs.declared.links.Named.{Named}
use Rattle.links_lang.specs.declared.links.Named.TheVariants.{Zero, Register, Flag}
use Rattle.links_lang.specs.declared.links.Link.{Link}
use Rattle.links_lang.specs.declared.links.Link.TheVariants.{Entry, Exit, Share, Same}

-- what a line names
abbrev pub named_of : Named → Expr
named_of Zero = Number 0
named_of (Register r) = notes.Register r
named_of (Flag f) = notes.Flag f

-- a link
abbrev pub link_of : Link → spec.Link
link_of (Entry line first second) = spec.EqualAtEntry line (named_of first) (named_of second)
link_of (Exit line first second) = spec.EqualAtExit line (named_of first) (named_of second)
link_of (Share line low high) = spec.SharedBytes line low high
link_of (Same line low high) = spec.SameBytes line low high

abbrev pub links_of : List Link → List spec.Link
links_of links = map link_of links

-- a register or a flag that states of a form have
abbrev pub IsOfForm : Layout → Named → Type 0
IsOfForm form Zero = Unit {0}
IsOfForm form (Register r) = layout_registers form r ≡ true
IsOfForm form (Flag f) = layout_flags form f ≡ true

-- registers or flags of both sides, alike
abbrev pub AreOfForms : (first second : Layout) → Named → Named → Type 0
AreOfForms first second x y = IsOfForm first x × IsOfForm second y × AreAlike (kind_of (named_of x)) (kind_of (named_of y))

-- a link between states of two forms
abbrev pub IsLinkOf : (first second : Layout) → Link → Type 0
IsLinkOf first second (Entry line x y) = AreOfForms first second x y
IsLinkOf first second (Exit line x y) = AreOfForms first second x y
IsLinkOf first second (Share line low high) = (low ≤ high) × (high < low + 256)
IsLinkOf first second (Same line low high) = (low ≤ high) × (high < low + 256)

abbrev pub AreLinksOf : (first second : Layout) → List Link → Type 0
AreLinksOf first second links = All (IsLinkOf first second) links
