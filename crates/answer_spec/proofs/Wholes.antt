-- Notes that may have invariants or contracts: by which dialect they are read, and what is found of them.
use Rattle.std.proofs.Common.{◌≡◌, ◌≢◌, ℕ, zero, suc, ◌+◌, ◌≤◌, ◌<◌, refl, ap, sym, ◌∙◌, subst, arith, suc-add, Bool, true, false, ◌||◌, List, [], ◌∷◌, Option, Some, None, map, length}
use Rattle.std.specs.List.Sorted.{IsStrictlyIncreasing}
use Rattle.machine_spec.specs.Machine.{Machine, IsAtPlace}
use Rattle.std.specs.Prelude.{All, filter, if◌then◌else◌, ◌↔◌, nat_lt, slice_index, slice_get}
use Rattle.std.proofs.lemmas.List.Elements.{All-nil, All-cons, All-head, All-tail}
use Rattle.word_spec.specs.RowFiles.{from_to}
use Rattle.std.proofs.lemmas.Bool.Decides.{nat_tests}
use Rattle.clause_spec.specs.Checks.{text_limit}
use Rattle.std.specs.List.{list_any}
use Rattle.word_spec.specs.Texts.{split_lines}
use Rattle.bilv_spec.specs.Files.{machine_of, program_of, IsFunctionAt}
use Rattle.bilv_spec.specs.Notes.{Notes, Function, At, Named}
use Rattle.bilv_spec.specs.Run.{Program}
use Rattle.bilv_spec.specs.Answers.{IsReported}
use Rattle.bilv_spec.specs.Replays.{replay_answer}
use Rattle.call_spec.specs.Calls.{Options, Question, program_question, Answer}
use Rattle.bilv_spec.specs.Certified.{IsCertified}
use Rattle.bilv_spec.specs.Scripts.{IsScriptAnswer}
use Rattle.frame_texts_spec.specs.CallTexts.{Changes}
use Rattle.frame_texts_spec.specs.CallTextLaws.{IsFramedFirst}
use Rattle.frame_texts_spec.specs.CallReplays.{changes_by, changes_of, call_replay_answer, call_sized_answer}
use Rattle.frame_texts_spec.proofs.BlocklessReplays.{blockless_replay}
use Rattle.frame_texts_spec.proofs.HeadlessReplays.{headless_replay}
use Rattle.frame_spec.specs.Frames.{Contract, contract_at}
use Rattle.frame_spec.specs.FrameVerdict.{Whole}
use Rattle.word_spec.specs.Tokens.{Token, tokens_of}
use Rattle.notes_spec.specs.Scopes.{Vocabulary, Scope, Plain, Framed, begin, in_dialect}
use Rattle.notes_spec.specs.NotesGrammar.{Says, Nothing, EntryIs, RequireIs, EnsureIs, AssertIs, TargetsAre, FixedIs, VersionIs, ConstIs, LoadedIs, InvariantIs, NeedIs, GiveIs, ModifiesAre, WritesAre, IsSaid, AreLines, after, entries, lines_of, is_second, is_invariant, is_of_contract, IsNotesText}
use Rattle.notes_spec.specs.FrameNotes.{FrameNotes, IsFrameText, invariants_of, places_of, each_once, is_register, is_flag, changes_at, contract_of, whole_of}
use Rattle.notes_spec.specs.Programs.{vocabulary_of}
use Rattle.notes_spec.specs.Verified.{AreNotesRefusedIn, AfterNotes, notes_refused, program_found, IsFound}
use Rattle.notes_spec.proofs.Dialects.{spoken, plain_line}
use Rattle.notes_spec.proofs.FrameReadings.{one_frame_reading, notes_are_framed, plain_has_none, contracts_are_apart}
use Rattle.answer_spec.specs.FrameAnswers.{invariant_words, contract_words, begins_line, has_line, dialect_by, dialect_for, IsFrameFound, AfterFrames, frames_refused, frames_found, ByInvariants, ByFrames, ByQuestion, IsFrameReplayed, too_long, judged, IsVerifiedWhole, IsReplayedWhole, IsCertifiedWhole, IsScriptWhole}
use Rattle.answer_spec.specs.Outcomes.{ByContracts, IsGraphed, IsGraphedWhole, upgrade_answer}
use Rattle.answer_spec.specs.FrameAnswerLaws.{IsPlainText, VerifiedAsBefore, ReplayedAsBefore, ReplayedWithoutCalls, ReplayedByFrames, CertifiedAsBefore, ScriptedAsBefore, GraphedAsBefore, UpgradedAsBefore, ProgramsAreWhole, OneWhole, IsFittedContract, WholesAreFitted}
use Rattle.answer_spec.proofs.CallReplays.{no_returns_in_calls}

-- ---- the words with which lines begin

-- a line that is no invariant begins with another word
begins_otherwise : (s : Scope) (ts : List Token) (x : Says) → is_invariant x ≡ false → IsSaid s ts x → begins_line invariant_words ts ≡ false
begins_otherwise s ts Nothing other is = ap (begins_line invariant_words) is
begins_otherwise s ts (EntryIs (At a)) other (t, is, n) = ap (begins_line invariant_words) is
begins_otherwise s ts (EntryIs (Named w)) other is = ap (begins_line invariant_words) is
begins_otherwise s ts (RequireIs x) other (rest, is, p) = ap (begins_line invariant_words) is
begins_otherwise s ts (EnsureIs x) other (rest, is, p) = ap (begins_line invariant_words) is
begins_otherwise s ts (AssertIs a x) other (t, rest, is, n, p) = ap (begins_line invariant_words) is
begins_otherwise s ts (TargetsAre a to) other (t, rest, is, n, ns, some) = ap (begins_line invariant_words) is
begins_otherwise s ts (FixedIs low high) other (t, u, is, n, m) = ap (begins_line invariant_words) is
begins_otherwise s ts (VersionIs b) other (rest, is, two) = ap (begins_line invariant_words) is
begins_otherwise s ts (ConstIs w v) other is = ap (begins_line invariant_words) is.0
begins_otherwise s ts LoadedIs other is = ap (begins_line invariant_words) is.0
begins_otherwise s ts (NeedIs a e) other is = ap (begins_line invariant_words) is.0.2
begins_otherwise s ts (GiveIs a e) other is = ap (begins_line invariant_words) is.0.2
begins_otherwise s ts (ModifiesAre a cs) other is = ap (begins_line invariant_words) is.2
begins_otherwise s ts (WritesAre a e n) other is = ap (begins_line invariant_words) is.3
begins_otherwise s ts (InvariantIs a e) other is = absurd (let b : ⊥ = cc in b)

-- so one that is not of a contract
begins_apart : (s : Scope) (ts : List Token) (x : Says) → is_of_contract x ≡ false → IsSaid s ts x → begins_line contract_words ts ≡ false
begins_apart s ts Nothing other is = ap (begins_line contract_words) is
begins_apart s ts (EntryIs (At a)) other (t, is, n) = ap (begins_line contract_words) is
begins_apart s ts (EntryIs (Named w)) other is = ap (begins_line contract_words) is
begins_apart s ts (RequireIs x) other (rest, is, p) = ap (begins_line contract_words) is
begins_apart s ts (EnsureIs x) other (rest, is, p) = ap (begins_line contract_words) is
begins_apart s ts (AssertIs a x) other (t, rest, is, n, p) = ap (begins_line contract_words) is
begins_apart s ts (TargetsAre a to) other (t, rest, is, n, ns, some) = ap (begins_line contract_words) is
begins_apart s ts (FixedIs low high) other (t, u, is, n, m) = ap (begins_line contract_words) is
begins_apart s ts (VersionIs b) other (rest, is, two) = ap (begins_line contract_words) is
begins_apart s ts (ConstIs w v) other is = ap (begins_line contract_words) is.0
begins_apart s ts LoadedIs other is = ap (begins_line contract_words) is.0
begins_apart s ts (InvariantIs a e) other is = ap (begins_line contract_words) is.0.2
begins_apart s ts (NeedIs a e) other is = absurd (let b : ⊥ = cc in b)
begins_apart s ts (GiveIs a e) other is = absurd (let b : ⊥ = cc in b)
begins_apart s ts (ModifiesAre a cs) other is = absurd (let b : ⊥ = cc in b)
begins_apart s ts (WritesAre a e n) other is = absurd (let b : ⊥ = cc in b)

either_of : (a b : Bool) → (a || b) ≡ false → (a ≡ false) × (b ≡ false)
either_of false b h = (refl, h)
either_of true b h = absurd (let x : ⊥ = cc in x)

-- lines where invariants and contracts are unknown begin with no word of an invariant
plain_lines_begin : (s : Scope) (texts : List (List ℕ)) (says : List Says) → AreLines (spoken Plain s) texts says →
    list_any (λ l. begins_line invariant_words (tokens_of l)) texts ≡ false
plain_lines_begin s [] [] h = refl
plain_lines_begin s [] (x ∷ says) h = absurd h
plain_lines_begin s (text ∷ texts) [] h = absurd h
plain_lines_begin s (text ∷ texts) (Nothing ∷ says) h =
    ap (λ b. b || list_any (λ l. begins_line invariant_words (tokens_of l)) texts) (begins_otherwise (spoken Plain s) (tokens_of text) Nothing refl h.0.said)
    ∙ plain_lines_begin s texts says h.1
plain_lines_begin s (text ∷ texts) (x ∷ says) h =
    ap (λ b. b || list_any (λ l. begins_line invariant_words (tokens_of l)) texts)
    (begins_otherwise (spoken Plain s) (tokens_of text) x (either_of (is_invariant x) (is_of_contract x) (plain_line s text x h.0)).0 h.0.said)
    ∙ plain_lines_begin (after s x) texts says h.1

-- and with no word of a contract
plain_lines_apart : (s : Scope) (texts : List (List ℕ)) (says : List Says) → AreLines (spoken Plain s) texts says →
    list_any (λ l. begins_line contract_words (tokens_of l)) texts ≡ false
plain_lines_apart s [] [] h = refl
plain_lines_apart s [] (x ∷ says) h = absurd h
plain_lines_apart s (text ∷ texts) [] h = absurd h
plain_lines_apart s (text ∷ texts) (Nothing ∷ says) h =
    ap (λ b. b || list_any (λ l. begins_line contract_words (tokens_of l)) texts) (begins_apart (spoken Plain s) (tokens_of text) Nothing refl h.0.said)
    ∙ plain_lines_apart s texts says h.1
plain_lines_apart s (text ∷ texts) (x ∷ says) h =
    ap (λ b. b || list_any (λ l. begins_line contract_words (tokens_of l)) texts)
    (begins_apart (spoken Plain s) (tokens_of text) x (either_of (is_invariant x) (is_of_contract x) (plain_line s text x h.0)).1 h.0.said)
    ∙ plain_lines_apart (after s x) texts says h.1

-- lines of which one begins so have an invariant
marked : (s : Scope) (texts : List (List ℕ)) (says : List Says) (n : ℕ) → AreLines s texts says →
    list_any (λ l. begins_line invariant_words (tokens_of l)) texts ≡ true → invariants_of n says ≡ [] → ⊥
marked s [] [] n h some none = let x : ⊥ = cc in x
marked s [] (x ∷ says) n h some none = h
marked s (text ∷ texts) [] n h some none = h
marked s (text ∷ texts) (InvariantIs a e ∷ says) n h some none = let x : ⊥ = cc in x
marked s (text ∷ texts) (x ∷ says) n h some none =
    marked (after s x) texts says (n + 1) h.1
    (sym (ap (λ b. b || list_any (λ l. begins_line invariant_words (tokens_of l)) texts) (begins_otherwise s (tokens_of text) x refl h.0.said)) ∙ some)
    none

-- and lines of which one begins with a word of a contract have one
marked_apart : (s : Scope) (texts : List (List ℕ)) (says : List Says) → AreLines s texts says →
    list_any (λ l. begins_line contract_words (tokens_of l)) texts ≡ true → places_of says ≡ [] → ⊥
marked_apart s [] [] h some none = let x : ⊥ = cc in x
marked_apart s [] (x ∷ says) h some none = h
marked_apart s (text ∷ texts) [] h some none = h
marked_apart s (text ∷ texts) (NeedIs a e ∷ says) h some none = let x : ⊥ = cc in x
marked_apart s (text ∷ texts) (GiveIs a e ∷ says) h some none = let x : ⊥ = cc in x
marked_apart s (text ∷ texts) (ModifiesAre a cs ∷ says) h some none = let x : ⊥ = cc in x
marked_apart s (text ∷ texts) (WritesAre a e n ∷ says) h some none = let x : ⊥ = cc in x
marked_apart s (text ∷ texts) (x ∷ says) h some none =
    marked_apart (after s x) texts says h.1
    (sym (ap (λ b. b || list_any (λ l. begins_line contract_words (tokens_of l)) texts) (begins_apart s (tokens_of text) x refl h.0.said)) ∙ some)
    none

-- so they are read in that dialect
unmarked : (b c : Bool) → b ≡ false → c ≡ false → dialect_by b c ≡ Plain
unmarked b c none free = ap (λ d. dialect_by d c) none ∙ ap (dialect_by false) free

plain_for : (o : Options) (file text : List ℕ) (notes : Notes) → IsNotesText (in_dialect Plain (vocabulary_of o file)) text notes → dialect_for text ≡ Plain
plain_for o file text notes is =
    let s = begin (in_dialect Plain (vocabulary_of o file)) (is_second (lines_of text)) in
    unmarked (has_line invariant_words text) (has_line contract_words text) (plain_lines_begin s (lines_of text) is.says is.lines)
    (plain_lines_apart s (lines_of text) is.says is.lines)

-- a text that has no line of an invariant and none of a contract is
plain_text : (text : List ℕ) → IsPlainText text → dialect_for text ≡ Plain
plain_text text plain = unmarked (has_line invariant_words text) (has_line contract_words text) plain.0 plain.1

-- ---- without contracts there are no lines of them

no_place : (says : List Says) (places : List ℕ) → map (contract_of says) (each_once places) ≡ [] → places ≡ []
no_place says [] none = refl
no_place says (a ∷ rest) none = absurd (let x : ⊥ = cc in x)

-- where a text has neither invariants nor contracts, lines of either are unknown
plain_by : (b c : Bool) (v : Vocabulary) (text : List ℕ) (n : FrameNotes) → has_line invariant_words text ≡ b → has_line contract_words text ≡ c →
    IsFrameText (in_dialect (dialect_by b c) v) text n → n.invariants ≡ [] → n.contracts ≡ [] → dialect_by b c ≡ Plain
plain_by true c v text n is also framed none free =
    absurd (marked (begin (in_dialect Framed v) (is_second (lines_of text))) (lines_of text) framed.is_notes.says 1 framed.is_notes.lines is (framed.invariants_are ∙ none))
plain_by false true v text n is also framed none free =
    absurd (marked_apart (begin (in_dialect Framed v) (is_second (lines_of text))) (lines_of text) framed.is_notes.says framed.is_notes.lines also
    (no_place framed.is_notes.says (places_of framed.is_notes.says) (framed.contracts_are ∙ free)))
plain_by false false v text n is also framed none free = refl

-- ---- what two files are

same_entry : (narrow : Bool) (file : List ℕ) (f : Function) (a b : ℕ) → IsFunctionAt narrow file f a → IsFunctionAt narrow file f b → a ≡ b
same_entry narrow file (At n) a b x y = sym x ∙ y
same_entry narrow file (Named name) a b x y = y.1 a x.0

pub one_whole : OneWhole
one_whole o file text w v found also =
    let is = found.2 in
    let it = also.2 in
    let notes = one_frame_reading (in_dialect (dialect_for text) (vocabulary_of o file)) text it.0 is.0 it.2 is.2 in
    let at = same_entry (machine_of o file).narrow file is.0.notes.entry it.1 is.1
    (subst (λ (n : FrameNotes). IsFunctionAt (machine_of o file).narrow file n.notes.entry it.1) notes it.3) is.3 in
    it.4 ∙ ap (λ n. whole_of (machine_of o file) file n it.1) notes ∙ ap (whole_of (machine_of o file) file is.0) at ∙ sym is.4

-- numbers that rise from one on
abbrev Rise : ℕ → List ℕ → Type 0
Rise low [] = Unit {0}
Rise low (n ∷ rest) = (low ≤ n) × Rise (n + 1) rest

rise_sooner : (low high : ℕ) (ns : List ℕ) → low ≤ high → Rise high ns → Rise low ns
rise_sooner low high [] le h = tt
rise_sooner low high (n ∷ rest) le h = (let l = h.0 in omega (arith, le, l), h.1)

numbers_rise : (n : ℕ) (says : List Says) → Rise n (invariants_of n says)
numbers_rise n [] = tt
numbers_rise n (InvariantIs a e ∷ says) = ((let l : n ≤ n = omega arith in l), numbers_rise (n + 1) says)
numbers_rise n (x ∷ says) = rise_sooner n (n + 1) (invariants_of (n + 1) says) (omega arith) (numbers_rise (n + 1) says)

rising : (low : ℕ) (ns : List ℕ) → Rise low ns → IsStrictlyIncreasing ns
rising low [] h k l = absurd (omega (arith, l))
rising low (n ∷ []) h k l = absurd (omega (arith, l))
rising low (n ∷ m ∷ rest) h zero l = let le = h.1.0 in omega (arith, le)
rising low (n ∷ m ∷ rest) h (suc k) l =
    subst (λ j. slice_index (m ∷ rest) k < slice_index (n ∷ m ∷ rest) j) (sym (suc-add k 1))
    (rising (n + 1) (m ∷ rest) h.1 k (omega (arith, l)))

-- the address that the one line says which names the function
said_aligned : (s : Scope) (texts : List (List ℕ)) (says : List Says) (a : ℕ) → AreLines s texts says → entries says ≡ At a ∷ [] → IsAtPlace s.narrow a
said_aligned s [] [] a lines e = absurd (let x : ⊥ = cc in x)
said_aligned s [] (x ∷ says) a lines e = absurd lines
said_aligned s (t ∷ texts) [] a lines e = absurd lines
said_aligned s (t ∷ texts) (EntryIs (At b) ∷ says) a lines e = let same : b ≡ a = cc in subst (IsAtPlace s.narrow) same lines.0.aligned
said_aligned s (t ∷ texts) (EntryIs (Named n) ∷ says) a lines e = absurd (let x : ⊥ = cc in x)
said_aligned s (t ∷ texts) (x ∷ says) a lines e = said_aligned (after s x) texts says a lines.1 e

at_aligned : (file text : List ℕ) (s : Scope) (says : List Says) (f : Function) (entry : ℕ) → AreLines s (lines_of text) says → entries says ≡ f ∷ [] →
    IsFunctionAt s.narrow file f entry → IsAtPlace s.narrow entry
at_aligned file text s says (At a) entry lines e is = subst (IsAtPlace s.narrow) is (said_aligned s (lines_of text) says a lines e)
at_aligned file text s says (Named name) entry lines e is = is.0.4.4

-- the invariants of a text rise
pub invariants_rise : (v : Vocabulary) (text : List ℕ) (n : FrameNotes) → IsFrameText v text n → IsStrictlyIncreasing n.invariants
invariants_rise v text n framed =
    subst IsStrictlyIncreasing framed.invariants_are (rising 1 (invariants_of 1 framed.is_notes.says) (numbers_rise 1 framed.is_notes.says))

-- a row can stand at the address of its function
pub entry_of_text : (v : Vocabulary) (file text : List ℕ) (n : FrameNotes) (entry : ℕ) → IsFrameText v text n →
    IsFunctionAt v.narrow file n.notes.entry entry → IsAtPlace v.narrow entry
entry_of_text v file text n entry framed at =
    let is = framed.is_notes in at_aligned file text (begin v (is_second (lines_of text))) is.says n.notes.entry entry is.lines is.notes_are.0 at

-- numbers of a range, and those of them that pass a test
below_from : (n count bound : ℕ) → n + count ≤ bound → All (λ r. r < bound) (from_to n count)
below_from n zero bound h = All-nil (λ r. r < bound)
below_from n (suc count) bound h =
    All-cons (λ r. r < bound) n (from_to (n + 1) count) (omega (arith, h)) (below_from (n + 1) count bound (omega (arith, h)))

filtered : (P : ℕ → Type 0) (test : ℕ → Bool) (xs : List ℕ) → All P xs → All P (filter test xs)
filtered P test [] all = All-nil P
filtered P test (x ∷ xs) all = by (test x) (filtered P test xs (All-tail P x xs all))
  where
    by : (t : Bool) → All P (filter test xs) → All P (if t then x ∷ filter test xs else filter test xs)
    by true rest = All-cons P x (filter test xs) (All-head P x xs all) rest
    by false rest = rest

of_mapped : (f : ℕ → Contract) (xs : List ℕ) (i : ℕ) (x : Contract) → slice_get (map f xs) i ≡ Some x → (a : ℕ) × (f a ≡ x)
of_mapped f [] i x is = absurd (let no : ⊥ = cc in no)
of_mapped f (a ∷ xs) zero x is = (a, (let same : f a ≡ x = cc in same))
of_mapped f (a ∷ xs) (suc i) x is = of_mapped f xs i x is

-- what a contract may change
registers_below : (says : List Says) (a : ℕ) → All (λ r. r < 32) (contract_of says a).registers
registers_below says a =
    filtered (λ r. r < 32) (λ r. list_any (is_register r) (changes_at a says)) (from_to 0 32) (below_from 0 32 32 (omega arith))

flags_below : (says : List Says) (a : ℕ) → All (λ g. g < 4) (contract_of says a).flags
flags_below says a = filtered (λ g. g < 4) (λ g. list_any (is_flag g) (changes_at a says)) (from_to 0 4) (below_from 0 4 4 (omega arith))

-- what is asked of its contracts
pub fitted_contract : (m : Machine) (file text : List ℕ) (v : Vocabulary) (n : FrameNotes) (entry : ℕ) → v.narrow ≡ m.narrow → IsFrameText v text n →
    (rank : ℕ) (x : Contract) → slice_get n.contracts rank ≡ Some x → IsFittedContract (whole_of m file n entry) rank x
fitted_contract m file text v n entry narrow framed rank x at =
    let apart = contracts_are_apart v text n framed rank x at in
    let says = framed.is_notes.says in
    let from = of_mapped (contract_of says) (each_once (places_of says)) rank x (ap (λ (l : List Contract). slice_get l rank) framed.contracts_are ∙ at) in
    record {
      place = subst (λ b. IsAtPlace b x.at) narrow apart.2;
      once = apart.3;
      registers = subst (λ (c : Contract). All (λ r. r < 32) c.registers) from.1 (registers_below says from.0);
      flags = subst (λ (c : Contract). All (λ g. g < 4) c.flags) from.1 (flags_below says from.0);
      no_invariants = apart.0;
      of_now = apart.1;
    }

abbrev IsFitted : Whole → Type 0
IsFitted w =
    IsAtPlace w.program.machine.narrow w.program.entry × IsStrictlyIncreasing w.invariants
    × ((rank : ℕ) (x : Contract) → slice_get w.contracts rank ≡ Some x → IsFittedContract w rank x)

pub wholes_are_fitted : WholesAreFitted
wholes_are_fitted o file text w found =
    let is = found.2 in
    let words = in_dialect (dialect_for text) (vocabulary_of o file) in
    subst IsFitted (sym is.4) (
      entry_of_text words file text is.0 is.1 is.2 is.3,
      invariants_rise words text is.0 is.2,
      fitted_contract (machine_of o file) file text words is.0 is.1 refl is.2,
    )

-- what is found where a text is read without invariants and contracts is a program
plain_found : (o : Options) (file text : List ℕ) (w : Whole) → dialect_for text ≡ Plain → IsFrameFound o file text w →
    IsFound o file text w.program × (w.invariants ≡ []) × (w.contracts ≡ [])
plain_found o file text w plain found =
    let is = found.2 in
    let framed : IsFrameText (in_dialect Plain (vocabulary_of o file)) text is.0 =
    subst (λ d. IsFrameText (in_dialect d (vocabulary_of o file)) text is.0) plain is.2 in
    let none = plain_has_none (vocabulary_of o file) text is.0 framed in (
      (found.0, found.1, (is.0.notes, is.1, framed.is_notes, is.3, ap (λ (x : Whole). x.program) is.4)),
      ap (λ (x : Whole). x.invariants) is.4 ∙ none.0,
      ap (λ (x : Whole). x.contracts) is.4 ∙ none.1,
    )

pub found_program : (o : Options) (file text : List ℕ) (w : Whole) → w.invariants ≡ [] → w.contracts ≡ [] → IsFrameFound o file text w →
    IsFound o file text w.program
found_program o file text w none free found =
    let is = found.2 in
    let plain = plain_by (has_line invariant_words text) (has_line contract_words text) (vocabulary_of o file) text is.0 refl refl is.2
    (sym (ap (λ (x : Whole). x.invariants) is.4) ∙ none) (sym (ap (λ (x : Whole). x.contracts) is.4) ∙ free) in
    (plain_found o file text w plain found).0

-- and a program is found so
pub found_whole : (o : Options) (file text : List ℕ) (p : Program) → IsFound o file text p →
    (w : Whole) × IsFrameFound o file text w × (w.program ≡ p) × (w.invariants ≡ []) × (w.contracts ≡ [])
found_whole o file text p found =
    let is = found.2 in
    let framed = notes_are_framed (vocabulary_of o file) text is.0 is.2 in
    let n = framed.0 in
    let w = whole_of (machine_of o file) file n is.1 in
    let plain = plain_for o file text is.0 is.2 in
    let read : IsFrameText (in_dialect (dialect_for text) (vocabulary_of o file)) text n =
    subst (λ d. IsFrameText (in_dialect d (vocabulary_of o file)) text n) (sym plain) framed.2 in
    let at = subst (λ (m : Notes). IsFunctionAt (machine_of o file).narrow file m.entry is.1) (sym framed.1) is.3 in
    let none = plain_has_none (vocabulary_of o file) text n framed.2 in (
      w,
      (found.0, found.1, (n, is.1, read, at, refl)),
      ap (λ m. program_of (machine_of o file) file m is.1) framed.1 ∙ sym is.4,
      none.0,
      none.1,
    )

pub programs_are_whole : ProgramsAreWhole
programs_are_whole o file text p found =
    let whole = found_whole o file text p found in (
      plain_for o file text found.2.0 found.2.2,
      λ w also.
          let same : w ≡ whole.0 = one_whole o file text whole.0 w whole.1 also in (
            ap (λ (x : Whole). x.program) same ∙ whole.2,
            ap (λ (x : Whole). x.invariants) same ∙ whole.3,
            ap (λ (x : Whole). x.contracts) same ∙ whole.4,
          ),
    )

-- ---- notes with neither invariants nor contracts

-- by whether there are some
pub by_frames : (invariants : List ℕ) (contracts : List Contract) (A B C : Type 0) → (invariants ≡ [] → contracts ≡ [] → A → C) →
    ((invariants ≡ [] → contracts ≡ [] → ⊥) → B → C) → ByFrames invariants contracts A B → C
by_frames [] [] A B C none some is = none refl refl is
by_frames [] (x ∷ rest) A B C none some is = some (λ h i. (let y : ⊥ = cc in y)) is
by_frames (n ∷ rest) contracts A B C none some is = some (λ h i. (let y : ⊥ = cc in y)) is

pub by_invariants : (invariants : List ℕ) (A B C : Type 0) → (invariants ≡ [] → A → C) → (invariants ≢ [] → B → C) → ByInvariants invariants A B → C
by_invariants [] A B C none some is = none refl is
by_invariants (n ∷ rest) A B C none some is = some (λ h. (let x : ⊥ = cc in x)) is

-- what is due where there are none
pub without_invariants : (invariants : List ℕ) (A B : Type 0) → invariants ≡ [] → ByInvariants invariants A B ↔ A
without_invariants [] A B none = (λ x. x, λ x. x)
without_invariants (n ∷ rest) A B none = absurd (let x : ⊥ = cc in x)

pub without_frames : (invariants : List ℕ) (contracts : List Contract) (A B : Type 0) → invariants ≡ [] → contracts ≡ [] → ByFrames invariants contracts A B ↔ A
without_frames [] [] A B none free = (λ x. x, λ x. x)
without_frames [] (x ∷ rest) A B none free = absurd (let y : ⊥ = cc in y)
without_frames (n ∷ rest) contracts A B none free = absurd (let y : ⊥ = cc in y)

without_contracts : (contracts : List Contract) (A B : Type 0) → contracts ≡ [] → ByContracts contracts A B ↔ A
without_contracts [] A B free = (λ x. x, λ x. x)
without_contracts (x ∷ rest) A B free = absurd (let y : ⊥ = cc in y)

module _ (o : Options) (file text : List ℕ) (a : Answer) (plain : dialect_for text ≡ Plain) where
  refused_before : (written : List ℕ) → AreNotesRefusedIn (dialect_for text) o file text written → AreNotesRefusedIn Plain o file text written
  refused_before written h = subst (λ d. AreNotesRefusedIn d o file text written) plain h

  refused_now : (written : List ℕ) → AreNotesRefusedIn Plain o file text written → AreNotesRefusedIn (dialect_for text) o file text written
  refused_now written h = subst (λ d. AreNotesRefusedIn d o file text written) (sym plain) h

  module _ (Over : Whole → Answer → Type 0) (Of : Program → Answer → Type 0)
      (same : (w : Whole) → w.invariants ≡ [] → w.contracts ≡ [] → Over w a ↔ Of w.program a) where
    is_before : AfterFrames o file text Over a → AfterNotes o file text Of a
    is_before (frames_refused written h is) = notes_refused written (refused_before written h) is
    is_before (frames_found w found next) =
        let p = plain_found o file text w plain found in
        program_found w.program p.0 ((same w p.1 p.2).0 next)

    is_now : AfterNotes o file text Of a → AfterFrames o file text Over a
    is_now (notes_refused written h is) = frames_refused written (refused_now written h) is
    is_now (program_found p found next) =
        let w = found_whole o file text p found in
        frames_found w.0 w.1 ((same w.0 w.3 w.4).1 (subst (λ q. Of q a) (sym w.2) next))

    as_before : AfterFrames o file text Over a ↔ AfterNotes o file text Of a
    as_before = (is_before, is_now)

-- two answers are one where what is due to both is
same_due : (a due other : Answer) → due ≡ other → (a ≡ due) ↔ (a ≡ other)
same_due a due other e = (λ h. h ∙ e, λ h. h ∙ sym e)

-- what is due to a question of a program where there are neither
pub question_of : (invariants : List ℕ) (contracts : List Contract) (o : Option Question) (kind : Question) (Due : Question → Type 0) (Other : Type 0) →
    invariants ≡ [] → contracts ≡ [] → o ≡ Some kind → ByQuestion invariants contracts o Due Other ↔ Due kind
question_of invariants contracts o kind Due Other none free is =
    subst (λ (i : List ℕ). ByQuestion i contracts o Due Other ↔ Due kind) (sym none)
    (subst (λ (c : List Contract). ByQuestion [] c o Due Other ↔ Due kind) (sym free)
    (subst (λ (q : Option Question). ByQuestion [] [] q Due Other ↔ Due kind) (sym is) (λ x. x, λ x. x)))

pub verified_as_before : VerifiedAsBefore
verified_as_before o file text layout b a plain =
    as_before o file text a (plain_text text plain) (IsVerifiedWhole layout b) (λ p. IsReported p layout b)
    (λ w none free. without_frames w.invariants w.contracts _ _ none free)

-- a report without blocks, where there are no contracts
pub replayed_without_calls : ReplayedWithoutCalls
replayed_without_calls w layout report free none returns =
    let same : changes_of w ≡ (λ a. None) = ap (λ (cs : List Contract). λ a. changes_by w a (contract_at cs a)) free in
    blockless_replay w returns layout report free (subst (λ (c : ℕ → Option Changes). IsFramedFirst c (split_lines report)) (sym same) none.0) none.1

pub replayed_as_before : ReplayedAsBefore
replayed_as_before o file text report layout a plain first no_head no_call =
    as_before o file text a (plain_text text plain) (IsReplayedWhole layout report) (λ p x. x ≡ replay_answer p layout report)
    (λ w none free.
    let by = without_invariants w.invariants (a ≡ call_replay_answer w (λ x. false) layout report) (IsFrameReplayed w layout report a) none in
    let same = same_due a _ _
    (replayed_without_calls w layout report free no_call (λ x. false) ∙ headless_replay w none free (λ x. false) layout report first no_head) in
    (λ h. same.0 (by.0 h), λ h. by.1 (same.1 h)))

-- what is due by whether there are invariants
due_by : (invariants : List ℕ) (A B : Type 0) → (invariants ≡ [] → A) → (invariants ≢ [] → B) → ByInvariants invariants A B
due_by [] A B none some = none refl
due_by (n ∷ rest) A B none some = some (λ h. (let x : ⊥ = cc in x))

pub replayed_by_frames : ReplayedByFrames
replayed_by_frames w layout report a h =
    due_by w.invariants (a ≡ call_replay_answer w (λ x. false) layout report) (IsFrameReplayed w layout report a) (λ none. by_case none h) (λ some. h)
  where
    by_case : w.invariants ≡ [] → IsFrameReplayed w layout report a → a ≡ call_replay_answer w (λ x. false) layout report
    by_case none (too_long long is) =
        let large : nat_lt text_limit (length report) ≡ true = grind (arith, nat_tests, long) in
        is ∙ sym (ap (λ b. call_sized_answer b w (λ x. false) layout report) large)
    by_case none (judged returns tells is) = is ∙ no_returns_in_calls w none returns (λ x. false) layout report

pub certified_as_before : CertifiedAsBefore
certified_as_before o file text b question kind a plain is =
    as_before o file text a (plain_text text plain) (IsCertifiedWhole b None question) (λ p x. IsCertified p b kind x.status x.text x.evidence)
    (λ w none free. question_of w.invariants w.contracts (program_question question) kind (λ q. IsCertified w.program b q a.status a.text a.evidence) _ none free
    is)

pub scripted_as_before : ScriptedAsBefore
scripted_as_before o file text layout b question kind a plain is =
    as_before o file text a (plain_text text plain) (IsScriptWhole layout b None question) (λ p. IsScriptAnswer p layout b kind)
    (λ w none free. question_of w.invariants w.contracts (program_question question) kind (λ q. IsScriptAnswer w.program layout b q a) _ none free is)

pub graphed_as_before : GraphedAsBefore
graphed_as_before o file text a plain =
    as_before o file text a (plain_text text plain) IsGraphedWhole IsGraphed (λ w none free. without_contracts w.contracts _ _ free)

pub upgraded_as_before : UpgradedAsBefore
upgraded_as_before o file text a plain =
    as_before o file text a (plain_text text plain) (λ w x. x ≡ upgrade_answer text) (λ p x. x ≡ upgrade_answer text) (λ w none free. (λ h. h, λ h. h))
