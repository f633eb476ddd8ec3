use Rattle.std.proofs.Common.{◌≡◌, ℕ, List, [], subst}
use Rattle.word_spec.specs.Words.{word}
use Rattle.word_spec.specs.Memory.{memory_of}
use Rattle.machine_spec.specs.StateText.{known_or}
use Rattle.start_value.specs.Starts.{written_of}
use Rattle.known_bytes.specs.Known.{given}
use Rattle.table_run.proofs.FrameStarts.{head_is, head_kept}
use Rattle.table_run.proofs.heads.head_state.Goals as goal

pub returns-clause-state : goal.returns-clause-state
returns-clause-state g c notes entry =
    head_is g.M.Machine.machine c.args.image.now notes entry g.M.Machine.form (written_of c.args.head.now.start) c.args.head.now.at
    c.in_ok-memory.memory.entries (g.M.State.View.view c.make.result) c.make.ensures.view
    (subst (λ (bytes : List (ℕ × ℕ)). (x : ℕ) → memory_of c.in_ok-memory.memory.entries x ≡ known_or (given c.args.image.now [] (word 32 x)) bytes x)
    c.deref.ensures.value c.in_ok-memory.ensures.bytes)

pub returns-clause-kept : goal.returns-clause-kept
returns-clause-kept g c notes entry =
    head_kept g.M.Machine.machine c.args.image.now notes entry g.M.Machine.form (written_of c.args.head.now.start) c.args.head.now.at
    c.in_ok-memory.memory.entries (g.M.State.View.view c.make.result) c.make.ensures.view
    (subst (λ (bytes : List (ℕ × ℕ)). (x : ℕ) → memory_of c.in_ok-memory.memory.entries x ≡ known_or (given c.args.image.now [] (word 32 x)) bytes x)
    c.deref.ensures.value c.in_ok-memory.ensures.bytes)
