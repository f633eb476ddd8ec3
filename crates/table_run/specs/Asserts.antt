-- Assert lines in a state.
use Rattle.std.specs.Prelude.{◌==◌, ◌&&◌, not, Bool}
use Rattle.word_spec.specs.Memory.{Endian}
use Rattle.word_spec.specs.State.{State}
use Rattle.bilv_spec.specs.Notes as notes
use Rattle.notes_value.specs.Views.{expr_of}
use Rattle.notes_value.specs.declared.notes.Assert.{Assert}

-- an assert line is one of the state's address, and is false
abbrev pub is_hit : Endian → State → State → Assert → Bool
is_hit e now entry a = (a.at == now.pc) && not (notes.is_true (notes.value e (expr_of a.says) now entry))
