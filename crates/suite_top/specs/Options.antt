-- The options of words that verify, and what is told by them.
use Rattle.std.specs.Prelude.{ℕ, ◌≡◌, List, [], Option, Some, None}
use Rattle.call_spec.specs.Calls.{Options}
use Rattle.command_spec.specs.Commands.{Command, Verify}
use Rattle.command_line.specs.Lines.{lawful_command}
use Rattle.note_check.specs.declared.warning.Warning.{Warning}
use Rattle.suite_check.specs.Warned.{IsChecked}

abbrev pub verify_options : Option Command → Option Options
verify_options (Some (Verify o elf notes b)) = Some o
verify_options other = None

abbrev pub asked_options : List (List ℕ) → Option Options
asked_options words = verify_options (lawful_command words)

-- by options that are not lawful nothing is told
abbrev pub IsCheckedBy : Option Options → (file text : List ℕ) → (status : ℕ) → (refusal : List ℕ) → List Warning → Type 0
IsCheckedBy None file text status refusal found = (status ≡ 2) × (refusal ≡ []) × (found ≡ [])
IsCheckedBy (Some o) file text status refusal found = IsChecked o file text status refusal found
