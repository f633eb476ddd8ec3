-- The program of two texts: its entry is aligned, and its rows are lawful.
use Rattle.std.proofs.Common.{◌≡◌, ℕ, ◌<◌, List, [], ◌∷◌, sym, subst}
use Rattle.std.specs.Prelude.{slice_index}
use Rattle.bilv_spec.specs.Elf.{file_endian}
use Rattle.machine_spec.specs.Machine.{IsAtPlace}
use Rattle.bilv_spec.specs.Run.{Program}
use Rattle.bilv_spec.specs.Notes.{Function, At, Named}
use Rattle.notes_spec.specs.NotesGrammar.{Says, EntryIs, AreLines, after, entries, lines_of}
use Rattle.notes_spec.specs.Scopes.{Scope}
use Rattle.call_spec.specs.Calls.{Options}
use Rattle.bilv_spec.specs.Files.{machine_of, is_rv, IsFunctionAt, program_of}
use Rattle.notes_spec.specs.Programs.{IsProgram}
use Rattle.bilv_spec.specs.PointLaws.{HasLawfulRows}
use Rattle.bilv_spec.proofs.ProgramRows.{cell_small, rows_lawful, machine_lawful}

-- the function's address of lines that say one is aligned
said_aligned : (s : Scope) (texts : List (List ℕ)) (says : List Says) (a : ℕ) → AreLines s texts says → entries says ≡ At a ∷ [] → IsAtPlace s.narrow a
said_aligned s [] [] a lines e = absurd (cc)
said_aligned s [] (x ∷ says) a lines e = absurd lines
said_aligned s (t ∷ texts) [] a lines e = absurd lines
said_aligned s (t ∷ texts) (EntryIs (At b) ∷ says) a lines e = let same : b ≡ a = cc in subst (IsAtPlace s.narrow) same lines.0.aligned
said_aligned s (t ∷ texts) (EntryIs (Named n) ∷ says) a lines e = absurd (cc)
said_aligned s (t ∷ texts) (x ∷ says) a lines e = said_aligned (after s x) texts says a lines.1 e

at_aligned : (file text : List ℕ) (s : Scope) (says : List Says) (f : Function) (entry : ℕ) →
    AreLines s (lines_of text) says → entries says ≡ f ∷ [] → IsFunctionAt s.narrow file f entry → IsAtPlace s.narrow entry
at_aligned file text s says (At a) entry lines e is = subst (IsAtPlace s.narrow) is (said_aligned s (lines_of text) says a lines e)
at_aligned file text s says (Named name) entry lines e is = is.0.4.4

pub entry_is_aligned : (o : Options) (file text : List ℕ) (p : Program) → IsProgram o file text p → IsAtPlace p.machine.narrow p.entry
entry_is_aligned o file text p is =
    subst (λ (q : Program). IsAtPlace q.machine.narrow q.entry) (sym is.4)
    (at_aligned file text _ is.2.says is.0.entry is.1 is.2.lines is.2.notes_are.0 is.3)

pub program_rows_are_lawful : (o : Options) (file text : List ℕ) (p : Program) → ((i : ℕ) → slice_index file i < 256) → IsProgram o file text p →
    HasLawfulRows p
program_rows_are_lawful o file text p small is =
    subst HasLawfulRows (sym is.4)
    (rows_lawful (program_of (machine_of o file) file is.0 is.1) (machine_lawful (is_rv file) (file_endian file) o) (λ a. cell_small file small a _))
