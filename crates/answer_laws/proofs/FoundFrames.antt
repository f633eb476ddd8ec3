-- What is known of two files with invariants or contracts: their rows and words, and where rows stand.
use Rattle.std.proofs.Common.{ℕ, ◌<◌, ◌^◌, refl, sym, subst, arith, Bool, true, false, List, []}
use Rattle.std.specs.Prelude.{◌==◌, if◌then◌else◌}
use Rattle.word_spec.specs.Memory.{Endian, number}
use Rattle.word_spec.specs.Words.{add}
use Rattle.machine_spec.specs.Machine.{IsAtPlace, width, first_half, taken}
use Rattle.machine_spec.specs.MachineLaws.{IsLawfulMachine, IsFitted}
use Rattle.machine_spec.specs.StateText.{Layout, rv_layout, arm_layout}
use Rattle.machine_spec.specs.RvMachine.{rv32}
use Rattle.machine_spec.specs.Arm.{arm}
use Rattle.machine_spec.proofs.Fitted.{rv_is_fitted, arm_is_fitted}
use Rattle.machine_spec.proofs.WordBounds.{load_below}
use Rattle.bilv_spec.specs.Elf.{file_endian}
use Rattle.bilv_spec.specs.Files.{is_rv, layout_of, machine_of, program_of}
use Rattle.bilv_spec.specs.Notes.{Notes}
use Rattle.bilv_spec.specs.Points.{byte_of_cell, file_word}
use Rattle.bilv_spec.specs.PointLaws.{HasLawfulRows, ReadsMemory}
use Rattle.bilv_spec.specs.Run.{Program}
use Rattle.bilv_spec.proofs.ProgramRows.{cell_small, rows_lawful, machine_lawful}
use Rattle.call_spec.specs.Calls.{Options}
use Rattle.frame_spec.specs.FrameLaws.{HasPlaces}
use Rattle.frame_spec.specs.FrameVerdict.{Whole}
use Rattle.frame_spec.proofs.Machines.{machine_is_contracted}
use Rattle.notes_spec.specs.Programs.{vocabulary_of}
use Rattle.notes_spec.specs.Scopes.{in_dialect}
use Rattle.answer_spec.specs.FrameAnswers.{dialect_for, IsFrameFound}
use Rattle.answer_spec.proofs.Wholes.{wholes_are_fitted}
use Rattle.answer_laws.specs.Replayed.{AreBytes}
use Rattle.answer_laws.proofs.NoteLines.{HasFewLines, HaveFewLines, contract_lines, text_lines}

module _ (o : Options) (file : List ℕ) (bytes : AreBytes file) (notes : Notes) (entry : ℕ) where
  rows : HasLawfulRows (program_of (machine_of o file) file notes entry)
  rows =
      rows_lawful (program_of (machine_of o file) file notes entry) (machine_lawful (is_rv file) (file_endian file) o) (λ a. cell_small file bytes a _)

  reads : ReadsMemory (program_of (machine_of o file) file notes entry)
  reads = record { word = λ s a. refl; little = (machine_lawful (is_rv file) (file_endian file) o).little }

pub rows_of : (o : Options) (file text : List ℕ) (w : Whole) → AreBytes file → IsFrameFound o file text w → HasLawfulRows w.program
rows_of o file text w bytes found =
    let is = found.2 in subst (λ (v : Whole). HasLawfulRows v.program) (sym is.4) (rows o file bytes is.0.notes is.1)

pub reads_of : (o : Options) (file text : List ℕ) (w : Whole) → AreBytes file → IsFrameFound o file text w → ReadsMemory w.program
reads_of o file text w bytes found =
    let is = found.2 in subst (λ (v : Whole). ReadsMemory v.program) (sym is.4) (reads o file bytes is.0.notes is.1)

-- the words of a file of bytes
taken_small : (narrow : Bool) (w : ℕ) → w < 2 ^ 32 → taken narrow w < 2 ^ 32
taken_small narrow w small = by (width narrow (first_half w) == 2)
  where
    by : (b : Bool) → (if b then first_half w else w) < 2 ^ 32
    by true = omega arith
    by false = small

pub word_small : (p : Program) → ((a : ℕ) → byte_of_cell (p.loaded a) < 256) → (a : ℕ) → file_word p a < 2 ^ 32
word_small p small a =
    taken_small p.machine.narrow (number p.machine.endian 4 (λ i. byte_of_cell (p.loaded (add 32 a i))))
    (load_below p.machine.endian 32 (λ x. byte_of_cell (p.loaded x)) a refl small)

pub fitted_by : (b : Bool) (e : Endian) (o : Options) →
    IsFitted (if b then rv32 o.compressed else arm e o.profile) (if b then rv_layout o.compressed else arm_layout e o.profile)
fitted_by true e o = rv_is_fitted o.compressed
fitted_by false e o = arm_is_fitted e o.profile

-- rows stand at the entry, and after each row
places_by : (p : Program) (form : Layout) → IsLawfulMachine p.machine → IsFitted p.machine form → ReadsMemory p → ((a : ℕ) → file_word p a < 2 ^ 32) →
    IsAtPlace p.machine.narrow p.entry → HasPlaces p
places_by p form lawful fitted memory small entry =
    let q : Program = record p { notes = record p.notes { asserts = [] } } in
    let is = machine_is_contracted (record { program = q; invariants = []; contracts = [] }) lawful form fitted fitted.low_registers small
    (record { word = memory.word; little = memory.little }) refl (λ a c. absurd (let l = c.1 in omega arith)) entry (λ rank x e. absurd (cc)) in
    record { entry = entry; lengths = is.lengths }

pub places_of : (o : Options) (file text : List ℕ) (w : Whole) → AreBytes file → IsFrameFound o file text w → HasPlaces w.program
places_of o file text w bytes found =
    let is = found.2 in
    let p = program_of (machine_of o file) file is.0.notes is.1 in
    let entry = subst (λ (v : Whole). IsAtPlace v.program.machine.narrow v.program.entry) is.4 (wholes_are_fitted o file text w found).0 in
    subst (λ (v : Whole). HasPlaces v.program) (sym is.4)
    (places_by p (layout_of o file) (machine_lawful (is_rv file) (file_endian file) o) (fitted_by (is_rv file) (file_endian file) o)
    (reads o file bytes is.0.notes is.1) (word_small p (λ a. cell_small file bytes a _)) entry)

-- their notes have few lines
pub lines_of_whole : (o : Options) (file text : List ℕ) (w : Whole) → IsFrameFound o file text w → HasFewLines w.program
lines_of_whole o file text w found =
    let is = found.2 in
    let few = text_lines (in_dialect (dialect_for text) (vocabulary_of o file)) text is.0.notes is.2.is_notes in
    subst (λ (v : Whole). HasFewLines v.program) (sym is.4) (record { asserts = few.0; ensures = few.1 })

-- and so have their contracts
pub lines_of_contracts : (o : Options) (file text : List ℕ) (w : Whole) → IsFrameFound o file text w → HaveFewLines w.contracts
lines_of_contracts o file text w found =
    let is = found.2 in
    subst (λ (v : Whole). HaveFewLines v.contracts) (sym is.4) (contract_lines (in_dialect (dialect_for text) (vocabulary_of o file)) text is.0 is.2)
