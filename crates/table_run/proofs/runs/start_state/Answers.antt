use Rattle.std.proofs.Common.{◌≡◌, ℕ, List, map, subst}
use Rattle.word_spec.specs.Words.{word}
use Rattle.word_spec.specs.Memory.{memory_of}
use Rattle.program_value.specs.Programs.{program_of}
use Rattle.machine_spec.specs.StateText.{known_or}
use Rattle.start_value.specs.Starts.{written_of}
use Rattle.notes_value.specs.NoteViews.{fixed_of}
use Rattle.known_bytes.specs.Known.{given}
use Rattle.table_run.proofs.Founds.{state_is}
use Rattle.table_run.proofs.runs.start_state.Goals as goal

pub returns : goal.returns
returns g c =
    let memory =
    subst
    (λ (bytes : List (ℕ × ℕ)).
    (x : ℕ) → memory_of c.in_ok-memory.memory.entries x ≡ known_or (given c.args.program.now.image.now (map fixed_of c.args.program.now.notes.now.fixed.items) (word 32 x)) bytes x)
    c.deref.ensures.value c.in_ok-memory.ensures.bytes in
    state_is (program_of c.args.program.now) g.M.Machine.form (written_of c.args.start.now)
    c.in_ok-memory.memory.entries
    (g.M.State.View.view c.make.result) c.make.ensures.view memory
