-- Readings that agree on what nodes name give the nodes the same values. So the values of the inputs decide what the cells of a frame say.
use Rattle.std.specs.Prelude.{ℕ, ◌≡◌, ◌<◌, Bool, List, length}
use Rattle.frame_spec.specs.FrameWalk.{UnrolledProgram}
use Rattle.term_spec.specs.Terms.{TermReading, TermNode, term_word}
use Rattle.frame_terms.specs.PassiveFrames.{DrawsAt, NamesRegister, NamesFlag, NamesMemory, AreNamedBelow}
use Rattle.frame_terms.specs.FrameCells.{Cells, AreFormed, read_address}

-- two readings have the same inputs, with base reads of addresses below a number
pub record HaveSameInputs (u : UnrolledProgram) (heads : Bool) (reads : ℕ) (x y : TermReading) : Type 0 where
  pub regs : (p n : ℕ) → NamesRegister u heads p n → x.regs p n ≡ y.regs p n
  pub flags : (p f : ℕ) → NamesFlag u heads p f → x.flags p f ≡ y.flags p f
  pub choice : (i : ℕ) → DrawsAt u i → x.choice i ≡ y.choice i
  pub base : (p j : ℕ) → NamesMemory u heads p → j < reads → x.base p j ≡ y.base p j

-- they have the same memories
abbrev pub HaveSameMemories : UnrolledProgram → (heads : Bool) → TermReading → TermReading → Type 0
HaveSameMemories u heads x y = (p : ℕ) → NamesMemory u heads p → x.mem p ≡ y.mem p

-- terms that name these have the same words
abbrev pub FrameTermsAgree : Type 0
FrameTermsAgree = (u : UnrolledProgram) (heads : Bool) (reads : ℕ) (nodes : List TermNode) → AreNamedBelow u heads reads nodes → (x y : TermReading) →
    HaveSameInputs u heads reads x y → HaveSameMemories u heads x y → (t : ℕ) → t < length nodes → term_word x nodes t ≡ term_word y nodes t

-- the words of cells are the same whatever the memories are
abbrev pub FrameCellsAgree : Type 0
FrameCellsAgree = (u : UnrolledProgram) (heads : Bool) (c : Cells) → AreFormed u heads c → (x y : TermReading) →
    HaveSameInputs u heads (length c.addresses) x y → (t : ℕ) → t < length c.nodes → term_word x c.nodes t ≡ term_word y c.nodes t

-- and an address hangs on the base reads of addresses before it alone
abbrev pub FrameAddressesAgree : Type 0
FrameAddressesAgree = (u : UnrolledProgram) (heads : Bool) (c : Cells) → AreFormed u heads c → (x y : TermReading) (j : ℕ) → j < length c.addresses →
    HaveSameInputs u heads j x y → read_address c x j ≡ read_address c y j
