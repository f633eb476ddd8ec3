-- Functions whose notes may have invariants or contracts, what is asked about them, and its answer.
use Rattle.std.specs.Prelude.{ℕ, ◌≡◌, All, List, [], ◌∷◌, Option, Some, None, map, slice_get}
use Rattle.std.specs.Option.{option_map}
use Rattle.std.specs.List.Sorted.{IsStrictlyIncreasing}
use Rattle.answer_spec.specs.FrameAnswerLaws.{IsFittedContract}
use Rattle.answer_spec.specs.FrameAnswers.{ByQuestion, dialect_for, IsReplayedWhole, IsVerifiedWhole, IsCertifiedWhole, IsScriptWhole}
use Rattle.answer_spec.specs.Outcomes.{IsGraphedWhole}
use Rattle.bilv_spec.specs.Files.{machine_of, IsFunctionAt}
use Rattle.bilv_spec.specs.Certified.{IsCertified}
use Rattle.bilv_spec.specs.Run.{Program}
use Rattle.bilv_spec.specs.Scripts.{IsScriptAnswer}
use Rattle.call_spec.specs.Calls.{Answer, Budget, Options, Surroundings, AfterRead, program_question}
use Rattle.call_spec.specs.Framed as framed
use Rattle.frame_spec.specs.Frames as frames
use Rattle.frame_spec.specs.FrameCertified.{IsFrameCertified}
use Rattle.frame_spec.specs.FrameScripts.{IsFrameScriptAnswer}
use Rattle.frame_spec.specs.FrameVerdict.{Whole}
use Rattle.machine_spec.specs.Machine.{Machine, IsAtPlace}
use Rattle.machine_spec.specs.StateText.{Layout}
use Rattle.notes_spec.specs.FrameNotes.{FrameNotes, IsFrameText, whole_of}
use Rattle.notes_spec.specs.Scopes.{in_dialect}
use Rattle.notes_spec.specs.Programs.{vocabulary_of}
use Rattle.command_line.specs.Commands.{budget_of, frame_question}
use Rattle.notes_lang.specs.Framed.{IsContractOver}
use Rattle.notes_value.specs.FrameViews.{contract_of}
use Rattle.notes_value.specs.NoteViews.{notes_of}
use Rattle.notes_value.specs.Reads.{IsReadableContract}
use Rattle.notes_value.specs.declared.notes.Contract.{Contract}
use Rattle.bilv_top.specs.Due.{IsOverFile}
use Rattle.bilv_top.specs.declared.framed.Framed.{Framed}
use Rattle.bilv_top.specs.declared.frame_tasks.FrameTask.{FrameTask}
use Rattle.bilv_top.specs.declared.frame_tasks.FrameTask.TheVariants.{Report, Graph, Script, Certificate, Replay}

-- the notes with their invariants and contracts, as the definition of their text sees them
abbrev pub framed_of : Framed → FrameNotes
framed_of f = record { notes = notes_of f.found.notes; invariants = f.invariants.items; contracts = map contract_of f.contracts.items }

-- the whole that they are over a file of a machine
abbrev pub whole_by : Machine → (file : List ℕ) → Framed → Whole
whole_by m file f = whole_of m file (framed_of f) f.found.entry

-- and over a program
abbrev pub whole_with : Program → Framed → Whole
whole_with p f = record { program = p; invariants = f.invariants.items; contracts = map contract_of f.contracts.items }

-- a machine has the registers and flags that contracts name
pub record AreContractsOn (m : Machine) (contracts : List Contract) : Type 0 where
  pub readable : All (λ x. IsReadableContract m.has_register (contract_of x)) contracts
  pub over : All (λ x. IsContractOver m.has_register m.has_flag (contract_of x)) contracts

-- the file's machine has the registers and flags that contracts name, whatever its options
pub record AreContractsOver (file : List ℕ) (contracts : List Contract) : Type 0 where
  pub readable : (o : Options) → All (λ x. IsReadableContract (machine_of o file).has_register (contract_of x)) contracts
  pub over : (o : Options) → All (λ x. IsContractOver (machine_of o file).has_register (machine_of o file).has_flag (contract_of x)) contracts

-- a row can stand at the address of each contract, which is that of no other one, and with contracts there are no invariants
abbrev pub AreFitted : Whole → Type 0
AreFitted w = (rank : ℕ) (x : frames.Contract) → slice_get w.contracts rank ≡ Some x → IsFittedContract w rank x

-- What was found over a file by some options: the notes that the text says, with their invariants, whose numbers rise, and their contracts; the address of their
-- function, at which a row can stand; and that they are over its machine.
pub record IsFramedBy (o : Options) (file : List ℕ) (f : Framed) : Type 0 where
  pub says : IsFrameText (in_dialect (dialect_for f.found.text.items) (vocabulary_of o file)) f.found.text.items (framed_of f)
  pub at : IsFunctionAt (machine_of o file).narrow file (notes_of f.found.notes).entry f.found.entry
  pub place : IsAtPlace (machine_of o file).narrow f.found.entry
  pub rising : IsStrictlyIncreasing f.invariants.items
  pub over_file : IsOverFile file f.found
  pub contracts_over : AreContractsOver file f.contracts.items
  pub fitted : AreFitted (whole_by (machine_of o file) file f)

-- the word by which a task names the frame that it is about
abbrev pub frame_named : FrameTask → Option (List ℕ)
frame_named (Report budget) = None
frame_named Graph = None
frame_named (Script question budget frame) = option_map (λ w. w.now) frame
frame_named (Certificate question budget frame) = option_map (λ w. w.now) frame
frame_named (Replay name) = None

-- there are invariants, or there are contracts
abbrev pub HasSome : {T : Type 0} → (invariants : List ℕ) → (contracts : List T) → Type 0
HasSome invariants contracts = ¬ ((invariants ≡ []) × (contracts ≡ []))

-- the right answer to a question about the frame of a rank: its certificate, and its script
abbrev pub IsCertifiedAt : Whole → (rank : ℕ) → Budget → framed.Question → Answer → Type 0
IsCertifiedAt w rank b question a =
    ByQuestion w.invariants w.contracts (program_question question) (λ kind. IsCertified w.program b kind a.status a.text a.evidence)
    (IsFrameCertified w rank b question a.status a.text a.evidence)

abbrev pub IsScriptAt : Whole → (rank : ℕ) → Layout → Budget → framed.Question → Answer → Type 0
IsScriptAt w rank layout b question a =
    ByQuestion w.invariants w.contracts (program_question question) (λ kind. IsScriptAnswer w.program layout b kind a)
    (IsFrameScriptAnswer w rank layout b question a)

-- the right answer to a task about a function as one about the frame of a rank, whose state texts have this layout
abbrev pub IsSegmented : Surroundings → FrameTask → (rank : ℕ) → Layout → Whole → Answer → Type 0
IsSegmented s (Report budget) rank layout w a = IsVerifiedWhole layout (budget_of budget) w a
IsSegmented s Graph rank layout w a = IsGraphedWhole w a
IsSegmented s (Script question budget frame) rank layout w a = IsScriptAt w rank layout (budget_of budget) (frame_question question) a
IsSegmented s (Certificate question budget frame) rank layout w a = IsCertifiedAt w rank (budget_of budget) (frame_question question) a
IsSegmented s (Replay name) rank layout w a = AfterRead s name.now (λ report. IsReplayedWhole layout report w) a

-- and as one about the frame that it names
abbrev pub IsFramedDone : Surroundings → FrameTask → Layout → Whole → Answer → Type 0
IsFramedDone s (Report budget) layout w a = IsVerifiedWhole layout (budget_of budget) w a
IsFramedDone s Graph layout w a = IsGraphedWhole w a
IsFramedDone s (Script question budget frame) layout w a =
    IsScriptWhole layout (budget_of budget) (option_map (λ w. w.now) frame) (frame_question question) w a
IsFramedDone s (Certificate question budget frame) layout w a =
    IsCertifiedWhole (budget_of budget) (option_map (λ w. w.now) frame) (frame_question question) w a
IsFramedDone s (Replay name) layout w a = AfterRead s name.now (λ report. IsReplayedWhole layout report w) a

-- the files that a task names besides the program's
abbrev pub names_of_frame_task : FrameTask → List (List ℕ)
names_of_frame_task (Report budget) = []
names_of_frame_task Graph = []
names_of_frame_task (Script question budget frame) = []
names_of_frame_task (Certificate question budget frame) = []
names_of_frame_task (Replay name) = name.now ∷ []
