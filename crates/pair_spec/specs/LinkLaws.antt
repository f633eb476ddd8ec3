-- Laws of the texts of links.
use Rattle.std.specs.Prelude.{ℕ, ◌≡◌, List, Option, All}
use Rattle.bilv_spec.specs.Notes.{Expr}
use Rattle.pair_spec.specs.Links.{Link, ComparesAlike, IsLinksText, LinkFault, IsFirstLinkFault}

-- a text says one list of links
abbrev pub OneLinks : Type 0
OneLinks = (first second : List ℕ → Option Expr) (text : List ℕ) (links others : List Link) → IsLinksText first second text links →
    IsLinksText first second text others → links ≡ others

-- a text that says links has no fault
abbrev pub LinksHaveNoFault : Type 0
LinksHaveNoFault = (first second : List ℕ → Option Expr) (text : List ℕ) (links : List Link) (n : ℕ) (f : LinkFault) → IsLinksText first second text links →
    ¬ IsFirstLinkFault first second text n f

-- a text has at most one first fault
abbrev pub OneLinkFault : Type 0
OneLinkFault = (first second : List ℕ → Option Expr) (text : List ℕ) (n m : ℕ) (f g : LinkFault) → IsFirstLinkFault first second text n f →
    IsFirstLinkFault first second text m g → (n ≡ m) × (f ≡ g)

-- the links of a text compare registers and flags alone
abbrev pub LinksCompareAlike : Type 0
LinksCompareAlike = (first second : List ℕ → Option Expr) (text : List ℕ) (links : List Link) → IsLinksText first second text links → All ComparesAlike links
