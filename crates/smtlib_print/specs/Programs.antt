-- A script that tells a question over an unrolled program is one of the program that it is of.
use Rattle.std.specs.Prelude.{ℕ, List}
use Rattle.bilv_spec.specs.PointLaws.{HasLawfulRows}
use Rattle.call_spec.specs.Calls.{Question}
use Rattle.bilv_spec.specs.Run.{Program}
use Rattle.bilv_spec.specs.Scripts.{IsScript}
use Rattle.machine_spec.specs.StateText.{Layout}
use Rattle.walk_spec.specs.Unrolled.{UnrolledProgram}
use Rattle.walk_spec.specs.Unrolling.{IsUnrolling}
use Rattle.smtlib_print.specs.Told.{TellsScript}

-- what a script tells of a question over the unrolled program of a program, it says of the program's question
abbrev pub ScriptsAreOfPrograms : Type 0
ScriptsAreOfPrograms = (p : Program) → HasLawfulRows p → (k : ℕ) (u : UnrolledProgram) → IsUnrolling p k u →
    (layout : Layout) (question : Question) (text : List ℕ) → TellsScript u layout question text → IsScript p layout k question text
