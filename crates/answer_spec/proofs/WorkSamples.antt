-- Worked work that is made from a number, by computation alone.
use Rattle.std.proofs.Common.{◌≡◌, refl, [], ◌∷◌, ◌++◌, None, false}
use Rattle.std.specs.Prelude.{codes, replicate}
use Rattle.std.specs.Fmt.{digits}
use Rattle.bilv_spec.specs.Elf.{loaded}
use Rattle.bilv_spec.specs.Notes.{Register, Number, Binary, Equal}
use Rattle.machine_spec.specs.Rv.{table, rv_row}
use Rattle.machine_spec.specs.RvMachine.{rv32}
use Rattle.bilv_spec.specs.Run.{Program, in_memory, run}
use Rattle.bilv_spec.specs.Reports.{FoundExit, found}
use Rattle.word_spec.specs.State.{Written}
use Rattle.machine_spec.specs.StateText.{rv_layout}
use Rattle.bilv_spec.specs.Answers.{start_in}
use Rattle.command_spec.specs.Commands.{usage_text}
use Rattle.word_spec.specs.Texts.{lines, line}
use Rattle.command_spec.specs.Work.{result, work_file, work_notes, work_text}
use Rattle.notes_spec.proofs.StateSamples.{notes}

usage : usage_text ≡ line (codes "usage: bilv verify|lift|graph|smt|replay|cert|check|selfrun|upgrade|equal|differ|model")
usage = refl

-- work of three items: a0 after it, its words, its notes and the text before the verdict's line
work_result : result 1 3 ≡ 0x1e4
work_result = refl

work_begins : work_text 1 3 ≡ codes "selfrun 1 3 words 4 a0 0x000001e4 "
unfolding digits
work_begins = refl

work_says : work_notes 1 3 ≡ lines (codes "entry 0x10000" ∷ codes "require a0 = 1" ∷ codes "require a1 = 3" ∷ codes "ensure a0 = 0x000001e4" ∷ [])
unfolding digits
work_says = refl

-- its rows compute that number: the run from 1 and 3 exits, and the note that names it is true
abbrev pub work_program : Program
work_program = record {
  machine = rv32 false;
  word = in_memory (rv32 false);
  loaded = loaded (work_file 1 3);
  out = λ f. false;
  entry = 0x10000;
  notes = record notes { ensures = record { line = 4; says = Binary Equal (Register 10) (Number 0x1e4) } ∷ [] };
}

abbrev work_state : Written
work_state = record { regs = replicate 9 0 ++ 1 ∷ 3 ∷ replicate 20 0; flags = 0; bytes = []; choices = [] }

work_runs : found work_program None (start_in work_program (rv_layout false) work_state) 9 ≡ FoundExit 0x1000c 3
unfolding run table rv_row
work_runs = refl
