use Rattle.std.proofs.Common.{◌≡◌, ◌+◌, ap, subst, MatchOption}
use Rattle.std.specs.Prelude.{option_map}
use Rattle.start_value.specs.Starts.{layout_of}
use Rattle.frame_texts_spec.specs.FrameTexts.{FramedTold}
use Rattle.frame_replay.specs.Readings.{checks_by, judged_lines, refusal_of}
use Rattle.frame_replay.proofs.Judged.{known_first, no_head, no_byte, with_head}
use Rattle.frame_replay.proofs.judging.refused_line.Goals as goal

pub returns-in-Some : goal.returns-in-Some
returns-in-Some c m entry told =
    known_first (layout_of c.args.layout) (checks_by m c.args.image.now c.args.notes.now c.args.invariants.now c.args.returns.now entry)
    (c.head_lines-first.result + 1) c.args.bytes.now told (ap (λ n. n + 1) c.head_lines-first.ensures) (option_map judged_lines c.args.head) c.in-Some.line
    (c.in-Some.ensures m entry no_byte)

pub returns-in-None : goal.returns-in-None
returns-in-None c m entry told =
    no_head (layout_of c.args.layout) (checks_by m c.args.image.now c.args.notes.now c.args.invariants.now c.args.returns.now entry)
    (c.head_lines-first.result + 1) c.args.bytes.now told (ap (λ n. n + 1) c.head_lines-first.ensures) (option_map judged_lines c.args.head)
    (ap (option_map judged_lines) c.in-None.is) (c.in_default.ensures m entry no_byte)

pub returns-in-Some-head : goal.returns-in-Some-head
returns-in-Some-head c m entry told =
    subst (λ (t : FramedTold). MatchOption c.refused_head.result (t ≡ told) (λ r. t ≡ refusal_of r))
    (with_head (layout_of c.args.layout) (checks_by m c.args.image.now c.args.notes.now c.args.invariants.now c.args.returns.now entry)
    (c.head_lines-first.result + 1) c.args.bytes.now told (ap (λ n. n + 1) c.head_lines-first.ensures) (option_map judged_lines c.args.head)
    (judged_lines c.in-Some-head.part) (ap (option_map judged_lines) c.in-Some-head.is) (c.in_default.ensures m entry no_byte))
    (c.refused_head.ensures m entry told)
