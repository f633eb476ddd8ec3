-- Functions whose notes may have invariants or contracts: what is found of them, and what is answered about them.
use Rattle.std.proofs.Common.{◌≡◌, ◌≢◌, ℕ, suc, ◌≤◌, ◌==◌, arith, refl, ap, sym, subst, ◌∙◌, false, true, List, [], ◌∷◌, Option, Some, None, length}
use Rattle.std.proofs.lemmas.Bool.Decides.{nat_tests}
use Rattle.std.specs.Prelude.{All, Bool, codes, map}
use Rattle.std.specs.Option.{option_map}
use Rattle.std.specs.List.Sorted.{IsStrictlyIncreasing}
use Rattle.answer_spec.specs.FrameAnswers.{dialect_for, AfterFrame, AfterFrames, asked_rank, frames_refused, frames_found, ByInvariants, IsReplayedWhole, judged, too_long}
use Rattle.answer_spec.specs.FrameGraphs.{IsFrameGraphText}
use Rattle.answer_spec.specs.Outcomes.{AfterElf, ByContracts, IsFrameGraphed, IsGraphed, IsGraphedWhole}
use Rattle.answer_spec.proofs.Wholes.{entry_of_text, fitted_contract, replayed_by_frames}
use Rattle.bilv_spec.specs.Files.{machine_of, IsFunctionAt}
use Rattle.call_spec.specs.Calls.{Options, Answer, plain_answer, Surroundings, AfterRead, read_failed, was_read}
use Rattle.frame_spec.specs.Frames as frames
use Rattle.call_spec.specs.Outside.{Held, Agrees}
use Rattle.clause_spec.specs.Checks.{text_limit}
use Rattle.frame_spec.specs.FrameVerdict.{Whole}
use Rattle.machine_spec.specs.Machine.{Machine}
use Rattle.machine_spec.specs.StateText.{Layout}
use Rattle.frame_texts_spec.specs.CallReplays.{call_replay_answer}
use Rattle.frame_texts_spec.specs.FrameReplays.{TellsReturns}
use Rattle.notes_spec.specs.FrameNotes.{IsFrameText}
use Rattle.notes_spec.specs.Programs.{vocabulary_of}
use Rattle.notes_spec.specs.Scopes.{in_dialect}
use Rattle.notes_spec.specs.Verified.{AfterImage, elf_refused, elf_accepted, IsAccepted, notes_large, notes_limit}
use Rattle.notes_lang.specs.Named.{dialect_of}
use Rattle.notes_lang.specs.Parsing.{layout_flags, layout_registers, layout_vocabulary}
use Rattle.notes_lang.specs.declared.notes.Dialect as dialects
use Rattle.notes_value.specs.NoteViews.{notes_of}
use Rattle.notes_lang.specs.Framed.{IsContractOver}
use Rattle.notes_value.specs.FrameViews.{contract_of}
use Rattle.notes_value.specs.Reads.{AreOver, AreReadable, IsReadableContract}
use Rattle.notes_value.specs.declared.notes.Contract.{Contract}
use Rattle.start_value.specs.declared.layout.Layout as forms
use Rattle.word_spec.specs.Texts.{line}
use Rattle.bilv_top.specs.Answers.{IfStep}
use Rattle.bilv_top.specs.Due.{AreNotesAnsweredIn, IsFramesAnswer, IsOverFile, IsUnread, failed, longer, unread, refused}
use Rattle.bilv_top.specs.Frames.{framed_of, frame_named, whole_by, AreContractsOver, IsFramedBy, IsFramedDone, IsSegmented}
use Rattle.bilv_top.specs.declared.answer.Step.{Step}
use Rattle.bilv_top.specs.declared.answer.Step.TheVariants.{Answered, Go}
use Rattle.bilv_top.specs.declared.frame_tasks.FrameTask.{FrameTask}
use Rattle.bilv_top.specs.declared.frame_tasks.FrameTask.TheVariants.{Report, Graph, Script, Certificate, Replay}
use Rattle.bilv_top.specs.declared.framed.Framed.{Framed}
use Rattle.bilv_top.proofs.Refused.{answer_since, elf_accepts, read_since}

-- ---- what is found

-- notes over a machine's registers and flags
over_file : (file : List ℕ) (layout : forms.Layout) (f : Framed) → ((o : Options) → layout_registers layout ≡ (machine_of o file).has_register) →
    ((o : Options) → layout_flags layout ≡ (machine_of o file).has_flag) → AreReadable (layout_registers layout) (notes_of f.found.notes) →
    AreOver (layout_registers layout) (layout_flags layout) (notes_of f.found.notes) → IsOverFile file f.found
over_file file layout f registers flags readable over = record {
  readable = λ o. subst (λ r. AreReadable r (notes_of f.found.notes)) (registers o) readable;
  over = λ o.
      subst (λ r. AreOver r (machine_of o file).has_flag (notes_of f.found.notes)) (registers o)
      (subst (λ g. AreOver (layout_registers layout) g (notes_of f.found.notes)) (flags o) over);
}

-- and contracts
contracts_file : (file : List ℕ) (layout : forms.Layout) (cs : List Contract) →
    ((o : Options) → layout_registers layout ≡ (machine_of o file).has_register) → ((o : Options) → layout_flags layout ≡ (machine_of o file).has_flag) →
    All (λ x. IsReadableContract (layout_registers layout) (contract_of x)) cs →
    All (λ x. IsContractOver (layout_registers layout) (layout_flags layout) (contract_of x)) cs → AreContractsOver file cs
contracts_file file layout cs registers flags readable over = record {
  readable = λ o. subst (λ r. All (λ x. IsReadableContract r (contract_of x)) cs) (registers o) readable;
  over = λ o.
      subst (λ r. All (λ x. IsContractOver r (machine_of o file).has_flag (contract_of x)) cs) (registers o)
      (subst (λ g. All (λ x. IsContractOver (layout_registers layout) g (contract_of x)) cs) (flags o) over);
}

pub framed_found : (o : Options) (file bytes : List ℕ) (layout : forms.Layout) (d : dialects.Dialect) (f : Framed) →
    layout_vocabulary layout d ≡ in_dialect (dialect_of d) (vocabulary_of o file) →
    ((o : Options) → layout_registers layout ≡ (machine_of o file).has_register) → ((o : Options) → layout_flags layout ≡ (machine_of o file).has_flag) →
    bytes ≡ f.found.text.items → IsFrameText (in_dialect (dialect_for bytes) (layout_vocabulary layout d)) bytes (framed_of f) →
    IsFunctionAt (machine_of o file).narrow file (notes_of f.found.notes).entry f.found.entry → IsStrictlyIncreasing f.invariants.items →
    AreReadable (layout_registers layout) (notes_of f.found.notes) → AreOver (layout_registers layout) (layout_flags layout) (notes_of f.found.notes) →
    All (λ x. IsReadableContract (layout_registers layout) (contract_of x)) f.contracts.items →
    All (λ x. IsContractOver (layout_registers layout) (layout_flags layout) (contract_of x)) f.contracts.items → IsFramedBy o file f
framed_found o file bytes layout d f words registers flags same said at rises readable over contracts changes =
    let v = in_dialect (dialect_for f.found.text.items) (vocabulary_of o file) in
    let says : IsFrameText v f.found.text.items (framed_of f) =
    subst (λ t. IsFrameText (in_dialect (dialect_for t) (vocabulary_of o file)) t (framed_of f)) same
    (subst (λ v. IsFrameText (in_dialect (dialect_for bytes) v) bytes (framed_of f)) words said) in
    record {
      says = says;
      at = at;
      place = entry_of_text v file f.found.text.items (framed_of f) f.found.entry says at;
      rising = rises;
      over_file = over_file file layout f registers flags readable over;
      contracts_over = contracts_file file layout f.contracts.items registers flags contracts changes;
      fitted = fitted_contract (machine_of o file) file f.found.text.items v (framed_of f) f.found.entry refl says;
    }

-- a step that found them in the text of notes, or answered
pub framed_step : (held : Held) (before after : ℕ) (o : Options) (file text : List ℕ) (step : Step Framed) → Agrees held text → length text ≤ notes_limit →
    IfStep step (AreNotesAnsweredIn (dialect_for text) o file text) (λ f. (f.found.text.items ≡ text) × IsFramedBy o file f) →
    IfStep step (IsFramesAnswer held before after o file)
    (λ f. Agrees held f.found.text.items × (length f.found.text.items ≤ notes_limit) × IsFramedBy o file f)
framed_step held before after o file text (Answered a) agrees le is = refused text agrees is
framed_step held before after o file text (Go f) agrees le is =
    (subst (Agrees held) (sym is.0) agrees, subst (λ t. length t ≤ notes_limit) (sym is.0) le, is.1)

-- what was found over a file by some options
abbrev pub whole_found : Options → (file : List ℕ) → Framed → Whole
whole_found o file f = whole_by (machine_of o file) file f

-- ---- the answer after both files

module _ (s : Surroundings) (o : Options) (notes file : List ℕ) (Next : List ℕ → Whole → Answer → Type 0) (a : Answer) where
  -- no function is found
  notes_answered : IsFramesAnswer (s.held notes) (s.shelf_before notes) (s.shelf_after notes) o file a →
      AfterRead s notes (λ text. AfterFrames o file text (Next text)) a
  notes_answered (unread (failed rose is)) = read_failed rose is
  notes_answered (unread (longer long is)) = was_read long.0 long.1 (frames_refused (line (codes "notes: TooLarge")) (notes_large long.2) is)
  notes_answered (refused text agrees answered) = was_read text agrees (frames_refused answered.0 answered.1 answered.2)

  -- a function is found
  notes_found : (f : Framed) → Agrees (s.held notes) f.found.text.items → length f.found.text.items ≤ notes_limit → IsAccepted file → IsFramedBy o file f →
      Next f.found.text.items (whole_found o file f) a → AfterRead s notes (λ text. AfterFrames o file text (Next text)) a
  notes_found f agrees short accepted by next =
      was_read f.found.text.items agrees
      (frames_found (whole_found o file f) (accepted, short, (framed_of f, f.found.entry, by.says, by.at, refl)) next)

module _ (s : Surroundings) (o : Options) (elf notes file : List ℕ) (Next : (file text : List ℕ) → Whole → Answer → Type 0) (a : Answer) (held : Held)
    (before : ℕ) (agrees : Agrees (s.held elf) file) (same : held ≡ s.held notes) (le : s.shelf_before notes ≤ before) where
  -- no function is found over an ELF file that was read, by what is told of the notes behind that
  pub framed_answered : AfterImage file (IsFramesAnswer held before (s.shelf_after notes) o file) a →
      AfterElf s elf (λ file. AfterRead s notes (λ text. AfterFrames o file text (Next file text))) a
  framed_answered (elf_refused written is a_is) = was_read file agrees (elf_refused written is a_is)
  framed_answered (elf_accepted accepted is) =
      elf_accepts s elf (λ file. AfterRead s notes (λ text. AfterFrames o file text (Next file text))) a file agrees accepted
      (notes_answered s o notes file (Next file) a
      (answer_since dialect_for (s.held notes) (s.shelf_before notes) before (s.shelf_after notes) o file a le
      (subst (λ h. IsFramesAnswer h before (s.shelf_after notes) o file a) same is)))

  -- a function is found
  pub framed_read : (f : Framed) → IsAccepted file → Agrees held f.found.text.items → length f.found.text.items ≤ notes_limit → IsFramedBy o file f →
      Next file f.found.text.items (whole_found o file f) a → AfterElf s elf (λ file. AfterRead s notes (λ text. AfterFrames o file text (Next file text))) a
  framed_read f accepted told short by next =
      elf_accepts s elf (λ file. AfterRead s notes (λ text. AfterFrames o file text (Next file text))) a file agrees accepted
      (notes_found s o notes file (Next file) a f (subst (λ h. Agrees h f.found.text.items) same told) short accepted by next)

-- ---- the answer to a task

-- of a file that is known by two names
pub framed_done_of : (s : Surroundings) (t : FrameTask) (machine : List ℕ → Machine) (layout : List ℕ → Layout) (image file : List ℕ) (f : Framed) (a : Answer) →
    image ≡ file → IsFramedDone s t (layout image) (whole_by (machine image) image f) a → IsFramedDone s t (layout file) (whole_by (machine file) file f) a
framed_done_of s t machine layout image file f a same done = subst (λ x. IsFramedDone s t (layout x) (whole_by (machine x) x f) a) same done

-- what is due to the frame of a rank, which a word names
named_due : (o : Option ℕ) (rank : ℕ) (Next : ℕ → Type 0) (a : Answer) → o ≡ Some rank → Next rank → AfterFrame o Next a
named_due o rank Next a is next = subst (λ (x : Option ℕ). AfterFrame x Next a) (sym is) next

-- the answer about the frame of a rank is that about the one that is named
pub segmented_done : (s : Surroundings) (t : FrameTask) (rank : ℕ) (layout : Layout) (w : Whole) (a : Answer) → asked_rank w (frame_named t) ≡ Some rank →
    IsSegmented s t rank layout w a → IsFramedDone s t layout w a
segmented_done s (Report budget) rank layout w a asked done = done
segmented_done s Graph rank layout w a asked done = done
segmented_done s (Script question budget frame) rank layout w a asked done = named_due (asked_rank w (option_map (λ x. x.now) frame)) rank _ a asked done
segmented_done s (Certificate question budget frame) rank layout w a asked done = named_due (asked_rank w (option_map (λ x. x.now) frame)) rank _ a asked done
segmented_done s (Replay name) rank layout w a asked done = done

-- what is due where no frame has the name
unnamed_due : (o : Option ℕ) (Next : ℕ → Type 0) (a : Answer) → o ≡ None → a ≡ plain_answer 5 (line (codes "notes: NoFrame")) → AfterFrame o Next a
unnamed_due o Next a none is = subst (λ (x : Option ℕ). AfterFrame x Next a) (sym none) is

-- the answer where no frame has the name that is asked about
pub no_frame : (s : Surroundings) (t : FrameTask) (layout : Layout) (w : Whole) (a : Answer) → asked_rank w (frame_named t) ≡ None →
    a ≡ plain_answer 5 (line (codes "notes: NoFrame")) → IsFramedDone s t layout w a
no_frame s (Report budget) layout w a none is = absurd (let no : ⊥ = cc in no)
no_frame s Graph layout w a none is = absurd (let no : ⊥ = cc in no)
no_frame s (Script question budget frame) layout w a none is = unnamed_due (asked_rank w (option_map (λ x. x.now) frame)) _ a none is
no_frame s (Certificate question budget frame) layout w a none is = unnamed_due (asked_rank w (option_map (λ x. x.now) frame)) _ a none is
no_frame s (Replay name) layout w a none is = absurd (let no : ⊥ = cc in no)

-- a list of no elements
pub none_of : {T : Type 0} (xs : List T) (n : ℕ) → n ≡ length xs → (n == 0) ≡ true → xs ≡ []
none_of [] n count is = refl
none_of (x ∷ xs) n count is =
    let e : n ≡ 0 = grind (arith, nat_tests) in let c : n ≡ suc (length xs) = count in absurd (omega (arith, e, c))

-- with some
pub some_of : {T : Type 0} (xs : List T) (n : ℕ) → n ≡ length xs → (n == 0) ≡ false → xs ≢ []
some_of xs n count is none = let e : n ≢ 0 = grind (arith, nat_tests) in e (count ∙ ap length none)

-- contracts as they are seen are none where there are none
pub no_contract : (cs : List Contract) → map contract_of cs ≡ [] → cs ≡ []
no_contract [] none = refl
no_contract (x ∷ rest) none = absurd (let no : ⊥ = cc in no)

-- since before other files were read
pub framed_since : (s t : Surroundings) (asked : FrameTask) (layout : Layout) (w : Whole) (a : Answer) → ((n : List ℕ) → s.held n ≡ t.held n) →
    ((n : List ℕ) → t.shelf_before n ≤ s.shelf_before n) → ((n : List ℕ) → s.shelf_after n ≡ t.shelf_after n) → IsFramedDone s asked layout w a →
    IsFramedDone t asked layout w a
framed_since s t (Report budget) layout w a held before after done = done
framed_since s t Graph layout w a held before after done = done
framed_since s t (Script question budget frame) layout w a held before after done = done
framed_since s t (Certificate question budget frame) layout w a held before after done = done
framed_since s t (Replay name) layout w a held before after done =
    read_since s t name.now _ a (held name.now) (before name.now) (after name.now) done

-- a report over frames that was not read
pub segment_unread : (s : Surroundings) (name : List ℕ) (w : Whole) (layout : Layout) (a : Answer) →
    IsUnread (s.held name) (s.shelf_before name) (s.shelf_after name) text_limit (plain_answer 9 (line (codes "state: TooLarge"))) a →
    AfterRead s name (λ report. IsReplayedWhole layout report w) a
segment_unread s name w layout a (failed rose is) = read_failed rose is
segment_unread s name w layout a (longer long is) = was_read long.0 long.1 (replayed_by_frames w layout long.0 a (too_long long.2 is))

-- ---- the replay of a report

-- what is due without invariants, and with some
pub due_without : (invariants : List ℕ) (A B : Type 0) → invariants ≡ [] → A → ByInvariants invariants A B
due_without invariants A B none is = subst (λ (i : List ℕ). ByInvariants i A B) (sym none) is

pub due_heads : (invariants : List ℕ) (A B : Type 0) → invariants ≢ [] → B → ByInvariants invariants A B
due_heads [] A B some is = absurd (some refl)
due_heads (n ∷ rest) A B some is = is

-- of a whole without contracts, by what it is
pub replayed_heads : (w : Whole) (layout : Layout) (report : List ℕ) (a : Answer) (returns : ℕ → Bool) → w.invariants ≢ [] → w.contracts ≡ [] →
    TellsReturns w.program returns → a ≡ call_replay_answer (record w { contracts = [] }) returns layout report → IsReplayedWhole layout report w a
replayed_heads w layout report a returns some free tells is =
    due_heads w.invariants _ _ some
    (judged returns tells (subst (λ (cs : List frames.Contract). a ≡ call_replay_answer (record w { contracts = cs }) returns layout report) (sym free) is))

pub replayed_plain : (w : Whole) (layout : Layout) (report : List ℕ) (a : Answer) → w.invariants ≡ [] →
    a ≡ call_replay_answer (record w { invariants = [] }) (λ x. false) layout report → IsReplayedWhole layout report w a
replayed_plain w layout report a none is =
    due_without w.invariants _ _ none
    (subst (λ (ns : List ℕ). a ≡ call_replay_answer (record w { invariants = ns }) (λ x. false) layout report) (sym none) is)

-- ---- graphs

pub graphed_plain : (w : Whole) (a : Answer) → w.contracts ≡ [] → IsGraphed w.program a → IsGraphedWhole w a
graphed_plain w a free is = subst (λ (cs : List frames.Contract). ByContracts cs (IsGraphed w.program a) (IsFrameGraphed w a)) (sym free) is

pub graphed_framed : (w : Whole) (text : List ℕ) → w.contracts ≢ [] → IsFrameGraphText w text → IsGraphedWhole w (plain_answer 0 text)
graphed_framed w text some is = by w.contracts some
  where
    by : (cs : List frames.Contract) → cs ≢ [] → ByContracts cs (IsGraphed w.program (plain_answer 0 text)) (IsFrameGraphed w (plain_answer 0 text))
    by [] some = absurd (some refl)
    by (x ∷ rest) some = (text, is, refl)
