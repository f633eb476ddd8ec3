-- What lines say, or why they are refused.
use Rattle.std.specs.Global.{Vec}
use Rattle.std.specs.Prelude.{ℕ, ◌≡◌, ◌+◌, ◌<◌, ◌++◌, codes, List, [], ◌∷◌, Option, Some, None, Result, Ok, Err, length}
use Rattle.word_spec.specs.Tokens.{Token}
use Rattle.notes_spec.specs.NotesGrammar.{lines_of}
use Rattle.pair_spec.specs.Links.{Says, Nothing, LinkIs, HasForm, IsSaid, IsRange, IsLine, AreLines, links_in, LinkFaultApplies, IsFirstLinkFault, IsLinksText, fault_rank}
use Rattle.pair_spec.specs.Links as spec
use Rattle.line_tokens.specs.declared.lexer.Token as code
use Rattle.line_tokens.specs.Tokens.{token_of}
use Rattle.start_value.specs.declared.layout.Layout.{Layout}
use Rattle.notes_lang.specs.Parsing.{layout_names}
use Rattle.links_lang.specs.declared.faults.LinkFault.{LinkFault}
use Rattle.links_lang.specs.declared.faults.LinkFault.TheVariants.{Limit, Syntax, Name, Range}
use Rattle.links_lang.specs.declared.faults.LinksError.{LinksError}
use Rattle.links_lang.specs.declared.faults.LinksError.TheVariants.{Refused, Memory}
use Rattle.links_lang.specs.declared.lines.Moment.{Moment}
use Rattle.links_lang.specs.declared.lines.Moment.TheVariants.{Entry, Exit}
use Rattle.links_lang.specs.declared.links.Link.{Link}
use Rattle.links_lang.specs.Views.{AreLinksOf, link_of, links_of}

-- a kind of fault
abbrev pub fault_of : LinkFault → spec.LinkFault
fault_of Limit = spec.LimitFault
fault_of Syntax = spec.SyntaxFault
fault_of Name = spec.NameFault
fault_of Range = spec.RangeFault

-- the word that two names follow, and the one that two numbers follow
abbrev pub names_word : Moment → List ℕ
names_word Entry = codes "in"
names_word Exit = codes "out"

abbrev pub range_word : Moment → List ℕ
range_word Entry = codes "share"
range_word Exit = codes "same"

-- three tokens
abbrev pub three_tokens : (word left right : code.Token) → List Token
three_tokens word left right = token_of word ∷ token_of left ∷ token_of right ∷ []

-- what a line says
abbrev pub says_of : Option Link → Says
says_of None = Nothing
says_of (Some l) = LinkIs (link_of l)

-- what the tokens of line n say, or why they say nothing that a line may say
abbrev pub IsTold : (first second : Layout) → ℕ → List Token → Result (Option Link) LinkFault → Type 0
IsTold first second n ts (Ok o) = IsSaid (layout_names first) (layout_names second) n ts (says_of o) × IsRange (says_of o)
IsTold first second n ts (Err Limit) = ⊥
IsTold first second n ts (Err Syntax) = ¬ HasForm ts
IsTold first second n ts (Err Name) = HasForm ts × ((s : Says) → ¬ IsSaid (layout_names first) (layout_names second) n ts s)
IsTold first second n ts (Err Range) = (s : Says) × IsSaid (layout_names first) (layout_names second) n ts s × ¬ IsRange s

-- line n has a fault, and none that is less
pub record IsLeastFault (first second : Layout) (n : ℕ) (text : List ℕ) (f : spec.LinkFault) : Type 0 where
  pub applies : LinkFaultApplies (layout_names first) (layout_names second) n text f
  pub least : (g : spec.LinkFault) → fault_rank g < fault_rank f → ¬ LinkFaultApplies (layout_names first) (layout_names second) n text g

-- what line n says, or its least fault
abbrev pub IsJudged : (first second : Layout) → ℕ → List ℕ → Result (Option Link) LinkFault → Type 0
IsJudged first second n text (Ok o) = IsLine (layout_names first) (layout_names second) n text (says_of o)
IsJudged first second n text (Err k) = IsLeastFault first second n text (fault_of k)

-- lines so far, the text that is left, and the links that they say
pub record AreSoFar (first second : Layout) (text rest : List ℕ) (line : ℕ) (links : List Link) : Type 0 where
  pub texts : List (List ℕ)
  pub says : List Says
  pub split : lines_of text ≡ texts ++ lines_of rest
  pub number : line ≡ length texts + 1
  pub lines : AreLines (layout_names first) (layout_names second) 1 texts says
  pub links_are : links_in says ≡ links_of links
  pub forms : AreLinksOf first second links

-- why links were not read: the first fault of the text, or out of memory, of which nothing is said
abbrev pub IsRefused : (first second : Layout) → List ℕ → LinksError → Type 0
IsRefused first second text (Refused line fault) = IsFirstLinkFault (layout_names first) (layout_names second) text line (fault_of fault)
IsRefused first second text Memory = Unit {0}

-- the links of a text, or why it is refused
abbrev pub AreRead : (first second : Layout) → List ℕ → Result (Vec Link) LinksError → Type 0
AreRead first second text (Ok v) = IsLinksText (layout_names first) (layout_names second) text (links_of v.items) × AreLinksOf first second v.items
AreRead first second text (Err error) = IsRefused first second text error
