-- What is known of notes that were read: what they read and change is of their machine, and with contracts they have what is asked of frames.
use Rattle.std.proofs.Common.{◌≡◌, ◌≢◌, ℕ, refl, ap, sym, ◌∙◌, subst, Bool, true, false, List, [], ◌∷◌, Some}
use Rattle.std.specs.Prelude.{All, slice_get, if◌then◌else◌}
use Rattle.word_spec.specs.Memory.{Endian}
use Rattle.machine_spec.specs.Arm.{arm}
use Rattle.machine_spec.specs.RvMachine.{rv32}
use Rattle.machine_spec.specs.Machine.{Machine}
use Rattle.bilv_spec.specs.Elf.{file_endian}
use Rattle.bilv_spec.specs.Files.{is_rv, layout_of, machine_of}
use Rattle.bilv_spec.proofs.ProgramRows.{cell_small, machine_lawful}
use Rattle.call_spec.specs.Calls.{Options}
use Rattle.frame_spec.specs.Frames.{Contract}
use Rattle.frame_spec.specs.FrameVerdict.{Whole}
use Rattle.frame_spec.specs.Theorems.{IsContracted}
use Rattle.frame_spec.proofs.Machines.{machine_is_contracted}
use Rattle.notes_lang.specs.Framed.{IsContractOver}
use Rattle.notes_lang.specs.Named.{dialect_of}
use Rattle.notes_lang.specs.declared.notes.Dialect.{Dialect}
use Rattle.notes_lang.specs.declared.notes.Dialect.TheVariants as dialect
use Rattle.notes_lang.proofs.Readable.{contracts_over, contracts_readable, notes_over, notes_readable}
use Rattle.notes_value.specs.Reads.{AreOver, AreReadable, IsReadableContract}
use Rattle.notes_spec.specs.ArmNames.{arm_names}
use Rattle.notes_spec.specs.RvNames.{rv_names}
use Rattle.notes_spec.specs.FrameNotes.{FrameNotes, IsFrameText, whole_of}
use Rattle.notes_spec.specs.Programs.{vocabulary_of}
use Rattle.notes_spec.specs.Scopes as scopes
use Rattle.notes_spec.specs.Scopes.{Plain, Framed, Paired, in_dialect}
use Rattle.start_value.specs.declared.layout.Layout.TheVariants as layouts
use Rattle.start_value.specs.declared.layout.Profile.TheVariants as profiles
use Rattle.answer_spec.specs.FrameAnswers.{dialect_for, IsFrameFound}
use Rattle.answer_spec.proofs.Wholes.{wholes_are_fitted}
use Rattle.answer_laws.specs.Contracted.{IsOfMachine, WholesAreOfMachine, WholesAreContracted}
use Rattle.answer_laws.specs.Replayed.{AreBytes}
use Rattle.answer_laws.proofs.FoundFrames.{fitted_by, reads_of, word_small}
use Rattle.answer_laws.proofs.OfLayout.{contracts_are_of_layout}

-- ---- of their machine

-- a dialect of the code for each
dialect_back : (d : scopes.Dialect) → (c : Dialect) × (dialect_of c ≡ d)
dialect_back Plain = (dialect.Plain, refl)
dialect_back Framed = (dialect.Framed, refl)
dialect_back Paired = (dialect.Paired, refl)

abbrev machine_by : (rv : Bool) → Endian → Options → Machine
machine_by rv e o = if rv then rv32 o.compressed else arm e o.profile

-- what its words are in notes
abbrev vocabulary_by : (rv : Bool) → Endian → Options → scopes.Dialect → scopes.Vocabulary
vocabulary_by rv e o d =
    record { names = λ w. if rv then rv_names w else arm_names w; narrow = (machine_by rv e o).narrow; dialect = d }

record AreOfMachine (m : Machine) (n : FrameNotes) : Type 0 where
  readable : AreReadable m.has_register n.notes
  over : AreOver m.has_register m.has_flag n.notes
  contracts : All (IsReadableContract m.has_register) n.contracts
  changes : All (IsContractOver m.has_register m.has_flag) n.contracts

of_machine : (o : Options) (text : List ℕ) (rv : Bool) (e : Endian) (d : Dialect) (n : FrameNotes) →
    IsFrameText (vocabulary_by rv e o (dialect_of d)) text n → AreOfMachine (machine_by rv e o) n
of_machine o text true e d n is =
    let layout = layouts.Rv32 o.compressed in
    record {
      readable = notes_readable layout d text n.notes is.is_notes;
      over = notes_over layout d text n.notes is.is_notes;
      contracts = contracts_readable layout d text n is;
      changes = contracts_over layout d text n is;
    }
of_machine o text false e d n is =
    let layout = layouts.Arm false profiles.V4 in
    record {
      readable = notes_readable layout d text n.notes is.is_notes;
      over = notes_over layout d text n.notes is.is_notes;
      contracts = contracts_readable layout d text n is;
      changes = contracts_over layout d text n is;
    }

of_notes : (o : Options) (file text : List ℕ) (n : FrameNotes) → IsFrameText (in_dialect (dialect_for text) (vocabulary_of o file)) text n →
    AreOfMachine (machine_of o file) n
of_notes o file text n is =
    let d = dialect_back (dialect_for text) in
    of_machine o text (is_rv file) (file_endian file) d.0 n
    (subst (λ (x : scopes.Dialect). IsFrameText (in_dialect x (vocabulary_of o file)) text n) (sym d.1) is)

pub wholes_are_of_machine : WholesAreOfMachine
wholes_are_of_machine o file text w found =
    let is = found.2 in
    let of = of_notes o file text is.0 is.2 in
    subst (IsOfMachine o file) (sym is.4) (record {
      readable = of.readable;
      over = of.over;
      contracts = of.contracts;
      changes = of.changes;
      written = contracts_are_of_layout (machine_of o file) (layout_of o file) (whole_of (machine_of o file) file is.0 is.1)
          (fitted_by (is_rv file) (file_endian file) o) of.changes;
    })

-- ---- what is asked of frames

some_contract : (contracts : List Contract) → contracts ≢ [] → (x : Contract) × (slice_get contracts 0 ≡ Some x)
some_contract [] some = absurd (some refl)
some_contract (x ∷ rest) some = (x, refl)

contracted : (o : Options) (file text : List ℕ) (bytes : AreBytes file) (n : FrameNotes) (entry : ℕ) →
    IsFrameFound o file text (whole_of (machine_of o file) file n entry) → n.contracts ≢ [] → IsContracted (whole_of (machine_of o file) file n entry)
contracted o file text bytes n entry found some =
    let w = whole_of (machine_of o file) file n entry in
    let fitted = wholes_are_fitted o file text w found in
    let first = some_contract n.contracts some in
    let one = fitted.2 0 first.0 first.1 in
    let form = fitted_by (is_rv file) (file_endian file) o in
    machine_is_contracted w (machine_lawful (is_rv file) (file_endian file) o) (layout_of o file) form form.low_registers
    (word_small w.program (λ a. cell_small file bytes a _)) (reads_of o file text w bytes found) one.no_invariants one.of_now fitted.0
    (λ rank x is. (fitted.2 rank x is).place)

pub wholes_are_contracted : WholesAreContracted
wholes_are_contracted o file text w bytes found some =
    let is = found.2 in
    let same = is.4 in
    subst IsContracted (sym same)
    (contracted o file text bytes is.0 is.1 (subst (IsFrameFound o file text) same found) (λ none. some (ap (λ (v : Whole). v.contracts) same ∙ none)))
