-- The words of links, as terms over a state.
use Rattle.std.specs.Prelude.{ℕ, ◌≡◌, ◌<◌, ◌≤◌, ◌+◌, ◌-◌, ◌*◌, Bool, true, false, List, [], ◌∷◌, length, map}
use Rattle.word_spec.specs.State.{State}
use Rattle.word_spec.specs.Memory.{Little}
use Rattle.bilv_spec.specs.Notes.{value}
use Rattle.term_spec.specs.Terms.{TermReading, InRange, TermNode, AreTyped}
use Rattle.walk_spec.specs.Unrolled.{Carried, UnrolledProgram, state_at}
use Rattle.term_spec.specs.Passive.{Names, Denotes}
use Rattle.term_dag.specs.Made.{Grew, InputsFrom}
use Rattle.pair_spec.specs.Links.{addresses}
use Rattle.pair_spec.specs.Links as spec
use Rattle.pair_spec.specs.Pairs.{shared_bytes, same_bytes}
use Rattle.pair_spec.specs.PairTerms.{HaveWords, HaveWidths, bits_of, entry_words, exit_words, entry_widths, exit_widths}
use Rattle.start_value.specs.declared.layout.Layout.{Layout}
use Rattle.start_value.specs.Starts.{layout_of}
use Rattle.links_lang.specs.declared.links.Named.{Named}
use Rattle.links_lang.specs.declared.links.Named.TheVariants.{Zero, Register, Flag}
use Rattle.links_lang.specs.declared.links.Link.{Link}
use Rattle.links_lang.specs.declared.links.Link.TheVariants.{Entry, Exit, Share, Same}
use Rattle.links_lang.specs.Views.{AreLinksOf, IsLinkOf, named_of}
use Rattle.term_names.specs.declared.names.Names as declared
use Rattle.pair_terms.specs.declared.words.Part.{Part}
use Rattle.pair_terms.specs.declared.words.Part.TheVariants.{Nothing, Word, Bytes}

-- links between states of a form, which is that of the side, and of another
abbrev pub AreLinksOfSide : (second : Bool) → Layout → List Link → Type 0
AreLinksOfSide false form links = (other : Layout) × AreLinksOf form other links
AreLinksOfSide true form links = (other : Layout) × AreLinksOf other form links

-- a link between states of a form, which is that of the side, and of another
abbrev pub IsLinkOfSide : (second : Bool) → Layout → Link → Type 0
IsLinkOfSide false form l = (other : Layout) × IsLinkOf form other l
IsLinkOfSide true form l = (other : Layout) × IsLinkOf other form l

-- the words of a link at the exit or at entry, and their widths
abbrev pub link_words : (at_exit second : Bool) → spec.Link → List (State → ℕ)
link_words true second l = exit_words second l
link_words false second l = entry_words second l

abbrev pub link_widths : (at_exit : Bool) → spec.Link → List ℕ
link_widths true l = exit_widths l
link_widths false l = entry_widths l

-- the words of a part, and their widths
abbrev pub part_words : Part → List (State → ℕ)
part_words Nothing = []
part_words (Word n) = (λ s. value Little (named_of n) s s) ∷ []
part_words (Bytes low high) = map (λ a s. s.mem a) (addresses low high)

abbrev pub part_widths : Part → List ℕ
part_widths Nothing = []
part_widths (Word n) = bits_of (named_of n) ∷ []
part_widths (Bytes low high) = map (λ a. 8) (addresses low high)

-- the bytes that it loads, and a bound on its nodes: one for a word, and three for each byte
abbrev pub part_loads : Part → ℕ
part_loads Nothing = 0
part_loads (Word n) = 0
part_loads (Bytes low high) = high + 1 - low

abbrev pub part_nodes : Part → ℕ
part_nodes Nothing = 0
part_nodes (Word n) = 1
part_nodes (Bytes low high) = 3 * (high + 1 - low)

-- what a line names on one of the two sides
abbrev pub named_on : (second : Bool) → Named → Named → Named
named_on true x y = y
named_on false x y = x

-- what a link says of the state of a side at the exit or at entry
abbrev pub part_of : (at_exit second : Bool) → Link → Part
part_of true second (Exit line x y) = Word (named_on second x y)
part_of true second (Same line low high) = Bytes low high
part_of true second (Entry line x y) = Nothing
part_of true second (Share line low high) = Nothing
part_of false second (Entry line x y) = Word (named_on second x y)
part_of false second (Share line low high) = Bytes low high
part_of false second (Exit line x y) = Nothing
part_of false second (Same line low high) = Nothing

-- a register or a flag that terms are for
abbrev pub IsNamedIn : declared.Names → Named → Type 0
IsNamedIn n Zero = Unit {0}
IsNamedIn n (Register r) = (n.first ≤ r) × (r < n.first + length n.registers.items)
IsNamedIn n (Flag f) = f < length n.flags.items

-- a part of states that terms are for
abbrev pub IsPartIn : declared.Names → Part → Type 0
IsPartIn n Nothing = Unit {0}
IsPartIn n (Word x) = IsNamedIn n x
IsPartIn n (Bytes low high) = (low ≤ high) × (high < low + 256)

-- terms are for states of a form
pub record AreOfForm (form : Layout) (n : declared.Names) : Type 0 where
  pub first : n.first ≡ (layout_of form).first
  pub registers : length n.registers.items ≡ length (layout_of form).registers
  pub flags : length n.flags.items ≡ length (layout_of form).flags

-- the bytes that the words of links load at the exit or at entry
abbrev pub links_loads : (at_exit : Bool) → List spec.Link → ℕ
links_loads true links = same_bytes links
links_loads false links = shared_bytes links

-- Terms are words of a state that names denote, each a function of the state. They are within so many byte loads and nodes, and cost no gate.
pub record AreWordTerms (old new : List TermNode) (form : UnrolledProgram) (names : Names) (wide : List ℕ) (words : List (State → ℕ)) (terms : List ℕ)
    (loads nodes : ℕ) : Type 0 where
  pub grew : Grew old new 0 loads 0 0 nodes
  pub inputs : InputsFrom old new (λ m. ⊥)
  pub typed : AreTyped new
  pub widths : HaveWidths new terms wide
  pub values : (x : TermReading) → InRange x → (c : Carried) (at : ℕ) → Denotes form old x names c →
      HaveWords x new terms (map (λ f. f (state_at c at)) words)

-- constants of some widths, within so many nodes
pub record AreBlankTerms (old new : List TermNode) (wide : List ℕ) (nodes : ℕ) (terms : List ℕ) : Type 0 where
  pub grew : Grew old new 0 0 0 0 nodes
  pub inputs : InputsFrom old new (λ m. ⊥)
  pub typed : AreTyped new
  pub widths : HaveWidths new terms wide

-- the range of a part has 1 to 256 bytes
abbrev pub IsRange : Part → Type 0
IsRange Nothing = Unit {0}
IsRange (Word x) = Unit {0}
IsRange (Bytes low high) = (low ≤ high) × (high < low + 256)
