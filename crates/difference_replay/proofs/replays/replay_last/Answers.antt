use Rattle.std.proofs.Common.{◌≡◌, ◌∙◌, ◌∷◌, ap, subst, arith, IfOk, map}
use Rattle.word_spec.specs.Texts.{split_lines}
use Rattle.machine_spec.specs.StateText.{StateRefused, line_of, told_of}
use Rattle.machine_spec.proofs.StateRead.{told_is_printed}
use Rattle.call_spec.specs.Calls.{Answer, plain_answer}
use Rattle.bilv_spec.specs.Points.{is_known_at}
use Rattle.pair_spec.specs.Differs.{some_ending}
use Rattle.state_text.specs.Readings.{fault_of}
use Rattle.start_value.specs.Starts.{layout_of, written_of}
use Rattle.state_text.specs.Starts.{text_of}
use Rattle.report_replay.specs.Readings as readings
use Rattle.pair_sides.specs.Sides.{machine_in, program_of_side}
use Rattle.difference_replay.specs.Named.{named_of}
use Rattle.difference_replay.specs.Pairs.{first_of, second_of, links_in}
use Rattle.difference_replay.proofs.BothBlocks.{read_block, refused_soon, second_is_refused, second_is_told}
use Rattle.difference_replay.proofs.replays.replay_last.Goals as goal

pub overflow_add-lines : goal.overflow_add-lines
overflow_add-lines c =
    let side = c.args.pair.now.second.now in
    let layout = layout_of side.layout in
    let known = is_known_at (program_of_side side) in
    let f = fault_of c.in-Refused.kind in
    let told = read_block layout known c.deref.result.now (split_lines c.args.text.now) (StateRefused c.in-Refused.line f)
    (ap split_lines c.deref.ensures.value ∙ c.in_ok-block.ensures)
    (c.in_ok-line.ensures (machine_in side.layout) side.entry ∙ ap readings.told_of c.in-Refused.is) in
    omega (arith, refused_soon layout known c.args.text.now c.in-Refused.line f told, c.requires.few)

pub returns-in-Refused : goal.returns-in-Refused
returns-in-Refused c =
    let pair = c.args.pair.now in
    let side = pair.second.now in
    let layout = layout_of side.layout in
    let known = is_known_at (program_of_side side) in
    let f = fault_of c.in-Refused.kind in
    let told = read_block layout known c.deref.result.now (split_lines c.args.text.now) (StateRefused c.in-Refused.line f)
    (ap split_lines c.deref.ensures.value ∙ c.in_ok-block.ensures)
    (c.in_ok-line.ensures (machine_in side.layout) side.entry ∙ ap readings.told_of c.in-Refused.is) in
    subst (λ (a : Answer). IfOk c.refused.result (λ r. plain_answer r.status r.text.items ≡ a))
    (second_is_refused (first_of pair) (second_of pair) (links_in pair) (named_of c.args.named) (written_of c.args.x.now) c.args.lines
    (told_of layout known (some_ending ∷ map (line_of layout) (split_lines c.args.text.now))) c.in-Refused.line f told)
    (c.refused.ensures (program_of_side side) layout)

pub replay_starts-requires-clause-second : goal.replay_starts-requires-clause-second
replay_starts-requires-clause-second c =
    let side = c.args.pair.now.second.now in
    record {
      sided = c.requires.pair.second;
      written = (told_is_printed (layout_of side.layout) (is_known_at (program_of_side side)) c.deref.result.now (text_of c.in-State.state)
          (c.in_ok-line.ensures (machine_in side.layout) side.entry ∙ ap readings.told_of c.in-State.is)).0;
    }

pub returns : goal.returns
returns c =
    let pair = c.args.pair.now in
    let side = pair.second.now in
    let layout = layout_of side.layout in
    let known = is_known_at (program_of_side side) in
    let t = text_of c.in-State.state in
    let told = read_block layout known c.deref.result.now (split_lines c.args.text.now) (readings.told_of c.in_ok-line.field-0)
    (ap split_lines c.deref.ensures.value ∙ c.in_ok-block.ensures) (c.in_ok-line.ensures (machine_in side.layout) side.entry) in
    subst (λ (a : Answer). IfOk c.replay_starts.result (λ r. plain_answer r.status r.text.items ≡ a))
    (second_is_told (first_of pair) (second_of pair) (links_in pair) (named_of c.args.named) (written_of c.args.x.now) c.args.lines
    (told_of layout known (some_ending ∷ map (line_of layout) (split_lines c.args.text.now))) t (told ∙ ap readings.told_of c.in-State.is))
    c.replay_starts.ensures
