-- The first faulty line of notes, with its least fault.
use Rattle.std.specs.Prelude.{ℕ, ◌≡◌, ◌≢◌, ◌≤◌, ◌<◌, ◌+◌, ◌^◌, ◌⊎◌, Bool, true, false, List, [], ◌∷◌, ◌++◌, length, codes, count_by, Contains}
use Rattle.notes_spec.specs.Scopes.{Vocabulary, Scope, reads_frames, begin, lenient, loose}
use Rattle.word_spec.specs.Tokens.{Token, NumberToken, NameToken, SignToken, BadByte, BadText, tokens_of}
use Rattle.notes_spec.specs.NotesGrammar.{is_depth, Says, EntryIs, TargetsAre, IsSaid, AreAligned, IsRange, IsVersion, IsNew, IsAlone, is_mixed, AreLines, after_all, is_second, line_limit, lines_of, entries, targets_of}

-- why a line is refused
pub data NoteFault : Type 0 where
  LimitFault : NoteFault
  ByteFault : NoteFault
  TokenFault : NoteFault
  NumberFault : NoteFault
  DepthFault : NoteFault
  WordFault : NoteFault
  SyntaxFault : NoteFault
  NameFault : NoteFault
  AlignFault : NoteFault
  RangeFault : NoteFault
  EntryFault : NoteFault
  VersionFault : NoteFault
  ConstFault : NoteFault
  AllFault : NoteFault
  MixedFault : NoteFault
  PairFault : NoteFault

-- the faults in their order
abbrev pub note_fault_rank : NoteFault → ℕ
note_fault_rank LimitFault = 1
note_fault_rank ByteFault = 2
note_fault_rank TokenFault = 3
note_fault_rank NumberFault = 4
note_fault_rank DepthFault = 5
note_fault_rank WordFault = 6
note_fault_rank SyntaxFault = 7
note_fault_rank NameFault = 8
note_fault_rank AlignFault = 9
note_fault_rank RangeFault = 10
note_fault_rank EntryFault = 11
note_fault_rank VersionFault = 12
note_fault_rank ConstFault = 13
note_fault_rank AllFault = 14
note_fault_rank MixedFault = 15
note_fault_rank PairFault = 16

-- the words that begin lines; that of the version does in both
abbrev pub line_words_first : List (List ℕ)
line_words_first =
    codes "entry" ∷ codes "function" ∷ codes "require" ∷ codes "ensure" ∷ codes "assert" ∷ codes "targets" ∷ codes "fixed" ∷ codes "notes" ∷ []

-- those of invariants and contracts
abbrev pub frame_words : List (List ℕ)
frame_words = codes "invariant" ∷ codes "needs" ∷ codes "gives" ∷ codes "modifies" ∷ codes "writes" ∷ []

-- those of version 2, with invariants and contracts or without them
abbrev pub line_words_second : (framed : Bool) → List (List ℕ)
line_words_second false = codes "const" ∷ codes "loaded" ∷ line_words_first
line_words_second true = codes "const" ∷ codes "loaded" ∷ line_words_first ++ frame_words

abbrev pub line_words : (is_second framed : Bool) → List (List ℕ)
line_words false framed = line_words_first
line_words true framed = line_words_second framed

-- a token that begins a line
abbrev pub IsLineWord : Scope → Token → Type 0
IsLineWord s (NameToken w) = Contains (line_words s.is_second (reads_frames s.dialect)) w
IsLineWord s (NumberToken n) = ⊥
IsLineWord s (SignToken w) = ⊥
IsLineWord s BadByte = ⊥
IsLineWord s BadText = ⊥

-- the first token is none of those words
abbrev pub BeginsBadly : Scope → List Token → Type 0
BeginsBadly s [] = ⊥
BeginsBadly s (t ∷ ts) = ¬ IsLineWord s t

-- what is said repeats what earlier lines said: a second entry or function, or the same address of targets
abbrev pub Repeats : List Says → Says → Type 0
Repeats earlier (EntryIs e) = entries earlier ≢ []
Repeats earlier (TargetsAre a to) = (t : _) × Contains (targets_of earlier) t × (t.at ≡ a)
Repeats earlier _ = ⊥

-- A fault applies to the line n with this text, where s is what words mean after the lines before, which say what is given. Several may apply: the least one
-- counts. That a line has no form is asked as if every word had a meaning; from NameFault to ConstFault any name and bounds of an `all` will do.
abbrev pub NoteFaultApplies : Scope → ℕ → List Says → List ℕ → NoteFault → Type 0
NoteFaultApplies s n earlier text LimitFault = (line_limit s.is_second < n) ⊎ (1024 < length text)
NoteFaultApplies s n earlier text ByteFault = Contains (tokens_of text) BadByte
NoteFaultApplies s n earlier text TokenFault = Contains (tokens_of text) BadText
NoteFaultApplies s n earlier text NumberFault = (v : ℕ) × Contains (tokens_of text) (NumberToken v) × (2 ^ 32 ≤ v)
NoteFaultApplies s n earlier text DepthFault = 64 < count_by (is_depth s.is_second) (tokens_of text)
NoteFaultApplies s n earlier text WordFault = BeginsBadly s (tokens_of text)
NoteFaultApplies s n earlier text SyntaxFault = (x : Says) → ¬ IsSaid (loose s) (tokens_of text) x
NoteFaultApplies s n earlier text NameFault = (x : Says) → ¬ IsSaid (lenient s) (tokens_of text) x
NoteFaultApplies s n earlier text AlignFault = (x : Says) × IsSaid (lenient s) (tokens_of text) x × ¬ AreAligned s.narrow x
NoteFaultApplies s n earlier text RangeFault = (x : Says) × IsSaid (lenient s) (tokens_of text) x × ¬ IsRange x
NoteFaultApplies s n earlier text EntryFault = (x : Says) × IsSaid (lenient s) (tokens_of text) x × Repeats earlier x
NoteFaultApplies s n earlier text VersionFault = (x : Says) × IsSaid (lenient s) (tokens_of text) x × ¬ IsVersion s x
NoteFaultApplies s n earlier text ConstFault = (x : Says) × IsSaid (lenient s) (tokens_of text) x × ¬ IsNew s x
NoteFaultApplies s n earlier text AllFault = (x : Says) → ¬ IsSaid s (tokens_of text) x
NoteFaultApplies s n earlier text MixedFault = (x : Says) × IsSaid s (tokens_of text) x × (is_mixed (earlier ++ x ∷ []) ≡ true)
NoteFaultApplies s n earlier text PairFault = (x : Says) × IsSaid s (tokens_of text) x × ¬ IsAlone s x

-- no line of a list repeats what lines before it said
abbrev pub NoneRepeats : List Says → List Says → Type 0
NoneRepeats earlier [] = Unit {0}
NoneRepeats earlier (x ∷ says) = ¬ Repeats earlier x × NoneRepeats (earlier ++ x ∷ []) says

-- lines without fault, and what they say
pub record AreGood (s : Scope) (texts : List (List ℕ)) (says : List Says) : Type 0 where
  pub count : length texts ≤ line_limit s.is_second
  pub lines : AreLines s texts says
  pub none_repeats : NoneRepeats [] says
  pub unmixed : is_mixed says ≡ false

-- what words mean at the first line of a text
abbrev pub begin_of : Vocabulary → List ℕ → Scope
begin_of v text = begin v (is_second (lines_of text))

-- The first faulty line is line n, and this is its least fault. Where each line is good but none names the function, it is the line after the last.
pub data IsFirstNoteFault (v : Vocabulary) (text : List ℕ) : ℕ → NoteFault → Type 0 where
  at_line : (good rest : List (List ℕ)) (bad : List ℕ) (says : List Says) {f : NoteFault} →
      lines_of text ≡ good ++ bad ∷ rest → AreGood (begin_of v text) good says →
      NoteFaultApplies (after_all (begin_of v text) says) (length good + 1) says bad f →
      ((g : NoteFault) → note_fault_rank g < note_fault_rank f → ¬ NoteFaultApplies (after_all (begin_of v text) says) (length good + 1) says bad g) →
      IsFirstNoteFault v text (length good + 1) f
  no_entry : (says : List Says) → AreGood (begin_of v text) (lines_of text) says → entries says ≡ [] →
      IsFirstNoteFault v text (length (lines_of text) + 1) EntryFault
