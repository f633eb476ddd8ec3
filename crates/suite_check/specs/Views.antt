-- What is told, in the code.
use Rattle.std.specs.Prelude.{ℕ, List}
use Rattle.call_spec.specs.Calls.{Options}
use Rattle.suite_check.specs.Warned.{IsChecked}
use Rattle.suite_check.specs.declared.checking.Checked.{Checked}

abbrev pub IsCheckedSo : Options → (file text : List ℕ) → Checked → Type 0
IsCheckedSo o file text c = IsChecked o file text c.status c.refusal.items c.warnings.items
