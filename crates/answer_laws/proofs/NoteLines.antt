-- The lines that events name are lines of the notes, whose numbers are small.
use Rattle.std.proofs.Common.{◌≡◌, ℕ, suc, ◌+◌, ◌<◌, ◌≤◌, ◌^◌, refl, ap, sym, subst, arith, Bool, true, false, List, [], ◌∷◌, Option, Some, None, length, map}
use Rattle.std.specs.Prelude.{◌==◌, ◌&&◌, not, if◌then◌else◌}
use Rattle.word_spec.specs.Memory.{Endian}
use Rattle.word_spec.specs.State.{State}
use Rattle.machine_spec.specs.Machine.{Row, How, On, Direct, DirectCall, Indirect, IndirectCall, Exception, EnvironmentCall, Breakpoint, SoftwareInterrupt, OddHalfword, UnalignedLoad, Outcome, Goes, Raises}
use Rattle.bilv_spec.specs.Notes.{Notes, NoteLine, Assert, value, is_true}
use Rattle.notes_spec.specs.NotesGrammar.{Says, Nothing, EntryIs, RequireIs, EnsureIs, AssertIs, TargetsAre, FixedIs, VersionIs, ConstIs, LoadedIs, InvariantIs, NeedIs, GiveIs, ModifiesAre, WritesAre, AreLines, after, is_second, line_limit, lines_of, ensures_of, asserts_of, IsNotesText}
use Rattle.notes_spec.specs.Scopes.{Vocabulary, Scope, begin}
use Rattle.notes_spec.specs.FrameNotes.{FrameNotes, IsFrameText, contract_of, each_once, gives_at, needs_at, places_of}
use Rattle.frame_spec.specs.Frames.{Contract}
use Rattle.call_spec.specs.Calls.{Options}
use Rattle.notes_spec.specs.Programs.{IsProgram, vocabulary_of}
use Rattle.machine_spec.specs.StateText.{IsEvent}
use Rattle.bilv_spec.specs.Run.{Program, Place, Step, Stops, Arrives, Exits, false_assert, false_line, step, after_asserts, by_fetch, by_row, after_row, exception_event, going_on, aligned_transfer, transfer, leave, exit_or, exit_by, return_or, allowed, exit}

-- the numbers of lines are small
abbrev pub AreFewAsserts : List Assert → Type 0
AreFewAsserts [] = Unit {0}
AreFewAsserts (a ∷ rest) = (a.line < 2 ^ 64) × AreFewAsserts rest

abbrev pub AreFewLines : List NoteLine → Type 0
AreFewLines [] = Unit {0}
AreFewLines (l ∷ rest) = (l.line < 2 ^ 64) × AreFewLines rest

pub record HasFewLines (p : Program) : Type 0 where
  pub asserts : AreFewAsserts p.notes.asserts
  pub ensures : AreFewLines p.notes.ensures

few_asserts : (n : ℕ) (says : List Says) → n + length says ≤ 8192 → AreFewAsserts (asserts_of n says)
few_asserts n [] h = tt
few_asserts n (Nothing ∷ says) h = few_asserts (n + 1) says (omega arith)
few_asserts n (EntryIs e ∷ says) h = few_asserts (n + 1) says (omega arith)
few_asserts n (RequireIs e ∷ says) h = few_asserts (n + 1) says (omega arith)
few_asserts n (EnsureIs e ∷ says) h = few_asserts (n + 1) says (omega arith)
few_asserts n (AssertIs a e ∷ says) h = (omega arith, few_asserts (n + 1) says (omega arith))
few_asserts n (TargetsAre a to ∷ says) h = few_asserts (n + 1) says (omega arith)
few_asserts n (FixedIs low high ∷ says) h = few_asserts (n + 1) says (omega arith)
few_asserts n (VersionIs b ∷ says) h = few_asserts (n + 1) says (omega arith)
few_asserts n (ConstIs w v ∷ says) h = few_asserts (n + 1) says (omega arith)
few_asserts n (LoadedIs ∷ says) h = few_asserts (n + 1) says (omega arith)
few_asserts n (InvariantIs a e ∷ says) h = (omega arith, few_asserts (n + 1) says (omega arith))
few_asserts n (NeedIs a e ∷ says) h = few_asserts (n + 1) says (omega arith)
few_asserts n (GiveIs a e ∷ says) h = few_asserts (n + 1) says (omega arith)
few_asserts n (ModifiesAre a cs ∷ says) h = few_asserts (n + 1) says (omega arith)
few_asserts n (WritesAre a e count ∷ says) h = few_asserts (n + 1) says (omega arith)

few_lines : (n : ℕ) (says : List Says) → n + length says ≤ 8192 → AreFewLines (ensures_of n says)
few_lines n [] h = tt
few_lines n (Nothing ∷ says) h = few_lines (n + 1) says (omega arith)
few_lines n (EntryIs e ∷ says) h = few_lines (n + 1) says (omega arith)
few_lines n (RequireIs e ∷ says) h = few_lines (n + 1) says (omega arith)
few_lines n (EnsureIs e ∷ says) h = (omega arith, few_lines (n + 1) says (omega arith))
few_lines n (AssertIs a e ∷ says) h = few_lines (n + 1) says (omega arith)
few_lines n (TargetsAre a to ∷ says) h = few_lines (n + 1) says (omega arith)
few_lines n (FixedIs low high ∷ says) h = few_lines (n + 1) says (omega arith)
few_lines n (VersionIs b ∷ says) h = few_lines (n + 1) says (omega arith)
few_lines n (ConstIs w v ∷ says) h = few_lines (n + 1) says (omega arith)
few_lines n (LoadedIs ∷ says) h = few_lines (n + 1) says (omega arith)
few_lines n (InvariantIs a e ∷ says) h = few_lines (n + 1) says (omega arith)
few_lines n (NeedIs a e ∷ says) h = few_lines (n + 1) says (omega arith)
few_lines n (GiveIs a e ∷ says) h = few_lines (n + 1) says (omega arith)
few_lines n (ModifiesAre a cs ∷ says) h = few_lines (n + 1) says (omega arith)
few_lines n (WritesAre a e count ∷ says) h = few_lines (n + 1) says (omega arith)

-- the lines of contracts
few_if : (b : Bool) (l : NoteLine) (rest : List NoteLine) → l.line < 2 ^ 64 → AreFewLines rest → AreFewLines (if b then l ∷ rest else rest)
few_if true l rest h few = (h, few)
few_if false l rest h few = few

few_needs : (at n : ℕ) (says : List Says) → n + length says ≤ 8192 → AreFewLines (needs_at at n says)
few_needs at n [] h = tt
few_needs at n (Nothing ∷ says) h = few_needs at (n + 1) says (omega arith)
few_needs at n (EntryIs e ∷ says) h = few_needs at (n + 1) says (omega arith)
few_needs at n (RequireIs e ∷ says) h = few_needs at (n + 1) says (omega arith)
few_needs at n (EnsureIs e ∷ says) h = few_needs at (n + 1) says (omega arith)
few_needs at n (AssertIs a e ∷ says) h = few_needs at (n + 1) says (omega arith)
few_needs at n (TargetsAre a to ∷ says) h = few_needs at (n + 1) says (omega arith)
few_needs at n (FixedIs low high ∷ says) h = few_needs at (n + 1) says (omega arith)
few_needs at n (VersionIs b ∷ says) h = few_needs at (n + 1) says (omega arith)
few_needs at n (ConstIs w v ∷ says) h = few_needs at (n + 1) says (omega arith)
few_needs at n (LoadedIs ∷ says) h = few_needs at (n + 1) says (omega arith)
few_needs at n (InvariantIs a e ∷ says) h = few_needs at (n + 1) says (omega arith)
few_needs at n (NeedIs a e ∷ says) h = few_if (a == at) (record { line = n; says = e }) (needs_at at (n + 1) says) (omega arith) (few_needs at (n + 1) says (omega arith))
few_needs at n (GiveIs a e ∷ says) h = few_needs at (n + 1) says (omega arith)
few_needs at n (ModifiesAre a cs ∷ says) h = few_needs at (n + 1) says (omega arith)
few_needs at n (WritesAre a e count ∷ says) h = few_needs at (n + 1) says (omega arith)

few_gives : (at n : ℕ) (says : List Says) → n + length says ≤ 8192 → AreFewLines (gives_at at n says)
few_gives at n [] h = tt
few_gives at n (Nothing ∷ says) h = few_gives at (n + 1) says (omega arith)
few_gives at n (EntryIs e ∷ says) h = few_gives at (n + 1) says (omega arith)
few_gives at n (RequireIs e ∷ says) h = few_gives at (n + 1) says (omega arith)
few_gives at n (EnsureIs e ∷ says) h = few_gives at (n + 1) says (omega arith)
few_gives at n (AssertIs a e ∷ says) h = few_gives at (n + 1) says (omega arith)
few_gives at n (TargetsAre a to ∷ says) h = few_gives at (n + 1) says (omega arith)
few_gives at n (FixedIs low high ∷ says) h = few_gives at (n + 1) says (omega arith)
few_gives at n (VersionIs b ∷ says) h = few_gives at (n + 1) says (omega arith)
few_gives at n (ConstIs w v ∷ says) h = few_gives at (n + 1) says (omega arith)
few_gives at n (LoadedIs ∷ says) h = few_gives at (n + 1) says (omega arith)
few_gives at n (InvariantIs a e ∷ says) h = few_gives at (n + 1) says (omega arith)
few_gives at n (NeedIs a e ∷ says) h = few_gives at (n + 1) says (omega arith)
few_gives at n (GiveIs a e ∷ says) h = few_if (a == at) (record { line = n; says = e }) (gives_at at (n + 1) says) (omega arith) (few_gives at (n + 1) says (omega arith))
few_gives at n (ModifiesAre a cs ∷ says) h = few_gives at (n + 1) says (omega arith)
few_gives at n (WritesAre a e count ∷ says) h = few_gives at (n + 1) says (omega arith)

pub record HasFewOwn (x : Contract) : Type 0 where
  pub needs : AreFewLines x.needs
  pub gives : AreFewLines x.gives

abbrev pub HaveFewLines : List Contract → Type 0
HaveFewLines [] = Unit {0}
HaveFewLines (x ∷ rest) = HasFewOwn x × HaveFewLines rest

few_contracts : (says : List Says) → 1 + length says ≤ 8192 → (places : List ℕ) → HaveFewLines (map (contract_of says) places)
few_contracts says h [] = tt
few_contracts says h (a ∷ rest) = (record { needs = few_needs a 1 says h; gives = few_gives a 1 says h }, few_contracts says h rest)

as_many : (s : Scope) (texts : List (List ℕ)) (says : List Says) → AreLines s texts says → length says ≡ length texts
as_many s [] [] lines = refl
as_many s [] (x ∷ says) lines = absurd lines
as_many s (t ∷ texts) [] lines = absurd lines
as_many s (t ∷ texts) (x ∷ says) lines = ap suc (as_many (after s x) texts says lines.1)

few_texts : (is_second : Bool) (n : ℕ) → n ≤ line_limit is_second → n ≤ 4097
few_texts true n h = h
few_texts false n h = omega arith

-- a text says few lines
pub text_lines : (v : Vocabulary) (text : List ℕ) (notes : Notes) → IsNotesText v text notes → AreFewAsserts notes.asserts × AreFewLines notes.ensures
text_lines v text notes is =
    let count = as_many (begin v (is_second (lines_of text))) (lines_of text) is.says is.lines in
    let short = few_texts (is_second (lines_of text)) (length (lines_of text)) is.short in
    let few : 1 + length is.says ≤ 8192 = omega arith in
    (subst AreFewAsserts is.notes_are.3 (few_asserts 1 is.says few), subst AreFewLines is.notes_are.2 (few_lines 1 is.says few))

-- so of its contracts
pub contract_lines : (v : Vocabulary) (text : List ℕ) (n : FrameNotes) → IsFrameText v text n → HaveFewLines n.contracts
contract_lines v text n framed =
    let is = framed.is_notes in
    let count = as_many (begin v (is_second (lines_of text))) (lines_of text) is.says is.lines in
    let short = few_texts (is_second (lines_of text)) (length (lines_of text)) is.short in
    let few : 1 + length is.says ≤ 8192 = omega arith in
    subst HaveFewLines framed.contracts_are (few_contracts is.says few (each_once (places_of is.says)))

pub few_note_lines : (o : Options) (file text : List ℕ) (p : Program) → IsProgram o file text p → HasFewLines p
few_note_lines o file text p is =
    let few = text_lines (vocabulary_of o file) text is.0 is.2 in subst HasFewLines (sym is.4) (record { asserts = few.0; ensures = few.1 })

some_line : (b : Bool) (o : Option ℕ) (n l : ℕ) → n < 2 ^ 64 → (o ≡ Some l → l < 2 ^ 64) → (if b then o else Some n) ≡ Some l → l < 2 ^ 64
some_line true o n l h f e = f e
some_line false o n l h f e = let same : n ≡ l = cc in omega arith

other_line : (b : Bool) (o : Option ℕ) (n l : ℕ) → n < 2 ^ 64 → (o ≡ Some l → l < 2 ^ 64) → (if b then Some n else o) ≡ Some l → l < 2 ^ 64
other_line true o n l h f e = let same : n ≡ l = cc in omega arith
other_line false o n l h f e = f e

pub line_is_few : (e : Endian) (lines : List NoteLine) (now entry : State) (l : ℕ) → AreFewLines lines → false_line e lines now entry ≡ Some l → l < 2 ^ 64
line_is_few e [] now entry l few is = absurd (cc)
line_is_few e (x ∷ rest) now entry l few is =
    some_line (is_true (value e x.says now entry)) (false_line e rest now entry) x.line l few.0 (λ i. line_is_few e rest now entry l few.1 i) is

pub assert_is_few : (e : Endian) (asserts : List Assert) (now entry : State) (l : ℕ) → AreFewAsserts asserts →
    false_assert e asserts now entry ≡ Some l → l < 2 ^ 64
assert_is_few e [] now entry l few is = absurd (cc)
assert_is_few e (a ∷ rest) now entry l few is =
    other_line ((a.at == now.pc) && not (is_true (value e a.says now entry))) (false_assert e rest now entry) a.line l few.0
    (λ i. assert_is_few e rest now entry l few.1 i) is

-- the event of a step can be written
abbrev pub IsFineStep : Step → Type 0
IsFineStep (Stops e) = IsEvent e
IsFineStep (Arrives c) = Unit {0}
IsFineStep (Exits s) = Unit {0}

raised : (w : Bool) (e : Exception) → IsEvent (exception_event w e)
raised true EnvironmentCall = tt
raised true Breakpoint = tt
raised true SoftwareInterrupt = tt
raised true OddHalfword = tt
raised true UnalignedLoad = tt
raised false EnvironmentCall = tt
raised false Breakpoint = tt
raised false SoftwareInterrupt = tt
raised false OddHalfword = tt
raised false UnalignedLoad = tt

may_go : (b : Bool) (c : Place) → IsFineStep (allowed b c)
may_go true c = tt
may_go false c = tt

module _ (p : Program) (few : HasFewLines p) (entry : State) where
  judged : (o : Option ℕ) (s : State) → ((l : ℕ) → o ≡ Some l → l < 2 ^ 64) → IsFineStep (exit_by o s)
  judged None s h = tt
  judged (Some l) s h = h l refl

  exits : (new : State) → IsFineStep (exit p entry new)
  exits new = judged (false_line p.machine.endian p.notes.ensures new entry) new (λ l. line_is_few p.machine.endian p.notes.ensures new entry l few.ensures)

  left : (b c : Bool) (old new : State) → IsFineStep (exit_or b p entry new c)
  left true c old new = exits new
  left false c old new = may_go c (record { state = new; stack = [] })

  returned : (b c : Bool) (top : ℕ) (below : List ℕ) (new : State) → IsFineStep (return_or b top below new c)
  returned true c top below new = tt
  returned false c top below new = may_go c (record { state = new; stack = top ∷ below })

  leaves : (row : Row) (old : State) (stack : List ℕ) (new : State) → IsFineStep (leave p entry row old stack new)
  leaves row old [] new = left _ _ old new
  leaves row old (top ∷ below) new = returned _ _ top below new

  goes : (row : Row) (old : State) (stack : List ℕ) (how : How) (new : State) → IsFineStep (transfer p entry row old stack how new)
  goes row old stack On new = tt
  goes row old stack Direct new = tt
  goes row old stack DirectCall new = tt
  goes row old stack Indirect new = leaves row old stack new
  goes row old stack IndirectCall new = may_go _ _

  aligned : (b : Bool) (row : Row) (old : State) (stack : List ℕ) (how : How) (new : State) → IsFineStep (aligned_transfer b p entry row old stack how new)
  aligned true row old stack how new = goes row old stack how new
  aligned false row old stack how new = tt

  on : (w : Bool) (row : Row) (old : State) (stack : List ℕ) (how : How) (new : State) → IsFineStep (going_on w p entry row old stack how new)
  on true row old stack how new = tt
  on false row old stack how new = aligned _ row old stack how new

  behind : (row : Row) (old : State) (stack : List ℕ) (w : Bool) (o : Outcome) → IsFineStep (after_row p entry row old stack w o)
  behind row old stack w (Raises e) = raised w e
  behind row old stack w (Goes how new) = on w row old stack how new

  by : (c : Place) (choice : ℕ) (o : Option Row) → IsFineStep (by_row p entry c choice o)
  by c choice None = tt
  by c choice (Some row) = behind row c.state c.stack _ (row.effect c.state choice)

  fetched : (b : Bool) (c : Place) (choice : ℕ) → IsFineStep (by_fetch b p entry c choice)
  fetched true c choice = by c choice (p.machine.row (p.word c.state c.state.pc))
  fetched false c choice = tt

  asserted : (o : Option ℕ) (c : Place) (choice : ℕ) → ((l : ℕ) → o ≡ Some l → l < 2 ^ 64) → IsFineStep (after_asserts o p entry c choice)
  asserted (Some l) c choice h = h l refl
  asserted None c choice h = fetched _ c choice

  pub steps_are_fine : (c : Place) (choice : ℕ) → IsFineStep (step p entry c choice)
  steps_are_fine c choice =
      asserted (false_assert p.machine.endian p.notes.asserts c.state entry) c choice
      (λ l. assert_is_few p.machine.endian p.notes.asserts c.state entry l few.asserts)
