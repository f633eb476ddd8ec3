use Rattle.std.proofs.Common.{◌≡◌, ◌∙◌, ap, subst, arith, IfOk, take}
use Rattle.word_spec.specs.Texts.{split_lines}
use Rattle.machine_spec.specs.StateText.{StateIs, StateRefused}
use Rattle.machine_spec.proofs.StateRead.{told_is_printed}
use Rattle.call_spec.specs.Calls.{Answer, plain_answer}
use Rattle.bilv_spec.specs.Points.{is_known_at}
use Rattle.state_text.specs.Readings.{fault_of}
use Rattle.start_value.specs.Starts.{layout_of}
use Rattle.state_text.specs.Starts.{text_of}
use Rattle.report_replay.specs.Readings as readings
use Rattle.pair_sides.specs.Sides.{machine_in, program_of_side}
use Rattle.difference_replay.specs.Blocks.{lines_to_end}
use Rattle.difference_replay.specs.Named.{named_of}
use Rattle.difference_replay.specs.Pairs.{first_of, second_of, links_in}
use Rattle.difference_replay.proofs.BothBlocks.{read_block, first_is_refused, first_is_told}
use Rattle.difference_replay.proofs.replays.replay_blocks.Goals as goal

pub returns-in-Refused : goal.returns-in-Refused
returns-in-Refused c =
    let pair = c.args.pair.now in
    let side = pair.first.now in
    let ls = split_lines c.args.text.now in
    let f = fault_of c.in-Refused.kind in
    let told = read_block (layout_of side.layout) (is_known_at (program_of_side side)) c.deref.result.now (take (lines_to_end ls) ls)
    (StateRefused c.in-Refused.line f) (ap split_lines c.deref.ensures.value ∙ c.in_ok-block.ensures.text)
    (c.in_ok-line.ensures (machine_in side.layout) side.entry ∙ ap readings.told_of c.in-Refused.is) in
    subst (λ (a : Answer). IfOk c.refused.result (λ r. plain_answer r.status r.text.items ≡ a))
    (first_is_refused (first_of pair) (second_of pair) (links_in pair) (named_of c.args.named) ls c.in-Refused.line f told)
    (c.refused.ensures (program_of_side side) (layout_of side.layout))

pub replay_last-requires-clause-first : goal.replay_last-requires-clause-first
replay_last-requires-clause-first c =
    let side = c.args.pair.now.first.now in
    record {
      sided = c.requires.pair.first;
      written = (told_is_printed (layout_of side.layout) (is_known_at (program_of_side side)) c.deref.result.now (text_of c.in-State.state)
          (c.in_ok-line.ensures (machine_in side.layout) side.entry ∙ ap readings.told_of c.in-State.is)).0;
    }

pub replay_last-requires-clause-few : goal.replay_last-requires-clause-few
replay_last-requires-clause-few c = omega (arith, c.in_ok-block.ensures.few, c.in_ok-block.ensures.shorter, c.requires.few)

pub returns : goal.returns
returns c =
    let pair = c.args.pair.now in
    let side = pair.first.now in
    let ls = split_lines c.args.text.now in
    let t = text_of c.in-State.state in
    let told = read_block (layout_of side.layout) (is_known_at (program_of_side side)) c.deref.result.now (take (lines_to_end ls) ls) (StateIs t)
    (ap split_lines c.deref.ensures.value ∙ c.in_ok-block.ensures.text)
    (c.in_ok-line.ensures (machine_in side.layout) side.entry ∙ ap readings.told_of c.in-State.is) in
    subst (λ (a : Answer). IfOk c.replay_last.result (λ r. plain_answer r.status r.text.items ≡ a))
    (first_is_told (first_of pair) (second_of pair) (links_in pair) (named_of c.args.named) ls t c.in_ok-block.block.lines
    (split_lines c.in_ok-block.block.rest.now) told c.in_ok-block.ensures.lines c.in_ok-block.ensures.rest)
    c.replay_last.ensures
