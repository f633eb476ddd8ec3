use Rattle.std.proofs.Common.{◌≡◌, ℕ, ◌<◌, ◌∙◌, List, [], Some, length, map, get_or, ap, subst, arith}
use Rattle.std.proofs.lemmas.Option.{slice_get-get_or, slice_get-map}
use Rattle.std.specs.Prelude.{slice_get}
use Rattle.std.specs.Option.{option_map}
use Rattle.word_spec.specs.Words.{word}
use Rattle.word_spec.specs.Memory.{memory_of}
use Rattle.machine_spec.specs.StateText.{known_or}
use Rattle.frame_spec.specs.Frames.{Contract}
use Rattle.known_bytes.specs.Known.{given}
use Rattle.notes_value.specs.FrameViews.{contract_of}
use Rattle.notes_value.specs.NoteViews.{notes_of}
use Rattle.start_value.specs.Starts.{written_of}
use Rattle.table_run.proofs.Ranks.{own_state}
use Rattle.table_run.proofs.called.called_state.Goals as goal

pub returns : goal.returns
returns g c calls =
    let few = c.args.frame.now.ranked in
    let other = c.if-frame.false in
    let rank : ℕ = c.args.frame.now.rank in
    let inside : rank < length c.args.frame.now.contracts.now = omega (arith, few, other) in
    let x : Contract = contract_of (get_or c.args.frame.now.contracts.now rank c.index-frame-frame.result) in
    let some : slice_get (map contract_of c.args.frame.now.contracts.now) rank ≡ Some x =
    slice_get-map contract_of c.args.frame.now.contracts.now rank
    ∙ ap (option_map contract_of) (slice_get-get_or c.args.frame.now.contracts.now rank c.index-frame-frame.result inside) in
    own_state g.M.Machine.machine c.args.frame.now.program.image.now (notes_of c.args.frame.now.program.notes.now) c.args.frame.now.program.entry
    (map contract_of c.args.frame.now.contracts.now) rank x some g.M.Machine.form (written_of c.args.start.now) c.in_ok-memory.memory.entries
    (g.M.State.View.view c.make.result) c.make.ensures.view
    (subst (λ (bytes : List (ℕ × ℕ)). (a : ℕ) → memory_of c.in_ok-memory.memory.entries a ≡ known_or (given c.args.frame.now.program.image.now [] (word 32 a)) bytes a)
    c.deref.ensures.value c.in_ok-memory.ensures.bytes)
