-- All warnings about a function and its notes.
use Rattle.std.specs.Prelude.{ℕ, ◌≡◌, ◌++◌, Bool, List}
use Rattle.frame_spec.specs.FrameVerdict.{Whole}
use Rattle.note_check.specs.Constants.{constant_warnings}
use Rattle.note_check.specs.Options.{AreWrongOptions}
use Rattle.note_check.specs.Ranges.{writable_ranges}
use Rattle.note_check.specs.Reached.{AreUnreached}
use Rattle.note_check.specs.declared.warning.Warning.{Warning}

-- what was found is the warnings of what is not reached, of code that may be written, of options and of lines of constants alone, in this order
pub record AreWarnings (rvc : Bool) (file : List ℕ) (w : Whole) (found : List Warning) : Type 0 where
  pub unreached : List Warning
  pub options : List Warning
  pub unreached_are : AreUnreached w unreached
  pub options_are : AreWrongOptions rvc file w.program.notes.entry options
  pub found_is : found ≡ unreached ++ writable_ranges file ++ options ++ constant_warnings w.program.notes
