-- Notes as definitions see them.
use Rattle.std.specs.Prelude.{map}
use Rattle.bilv_spec.specs.Notes as notes
use Rattle.notes_value.specs.Views.{expr_of}
use Rattle.notes_value.specs.declared.notes.Function.{Function}
use Rattle.notes_value.specs.declared.notes.Function.TheVariants.{At, Named}
use Rattle.notes_value.specs.declared.notes.NoteLine.{NoteLine}
use Rattle.notes_value.specs.declared.notes.Assert.{Assert}
use Rattle.notes_value.specs.declared.notes.Targets.{Targets}
use Rattle.notes_value.specs.declared.notes.FixedRange.{FixedRange}
use Rattle.notes_value.specs.declared.notes.Notes.{Notes}

-- where the function begins
abbrev pub function_of : Function → notes.Function
function_of (At a) = notes.At a
function_of (Named w) = notes.Named w.items

-- a line with its number
abbrev pub note_line_of : NoteLine → notes.NoteLine
note_line_of l = record { line = l.line; says = expr_of l.says }

-- an assert line
abbrev pub assert_of : Assert → notes.Assert
assert_of a = record { line = a.line; at = a.at; says = expr_of a.says }

-- a targets line
abbrev pub targets_of : Targets → notes.Targets
targets_of t = record { at = t.at; to = t.to.items }

-- a fixed line
abbrev pub fixed_of : FixedRange → notes.FixedRange
fixed_of r = record { low = r.low; high = r.high }

-- notes
abbrev pub notes_of : Notes → notes.Notes
notes_of n = record {
  entry = function_of n.entry;
  requires = map note_line_of n.required.items;
  ensures = map note_line_of n.ensured.items;
  asserts = map assert_of n.asserts.items;
  targets = map targets_of n.targets.items;
  fixed = map fixed_of n.fixed.items;
}
