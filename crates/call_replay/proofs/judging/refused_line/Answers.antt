use Rattle.std.proofs.Common.{◌+◌, refl, ap, ◌∙◌}
use Rattle.bilv_spec.specs.Files.{program_of}
use Rattle.start_value.specs.Starts.{layout_of}
use Rattle.notes_value.specs.NoteViews.{notes_of}
use Rattle.call_replay.specs.Readings.{known_in}
use Rattle.call_replay.proofs.Judged.{byte_first, head_then, none_judged}
use Rattle.call_replay.proofs.judging.refused_line.Goals as goal

pub returns-in-Some : goal.returns-in-Some
returns-in-Some c m entry checks h told known free some =
    let p = program_of m c.args.image.now (notes_of c.args.notes.now) entry in
    byte_first (layout_of c.args.layout) checks (known_in p c.args.own) (c.head_lines-first.result + 1) c.args.bytes.now
    (ap (λ n. n + 1) c.head_lines-first.ensures) known c.in-Some.line (λ t. c.in-Some.ensures m entry t) h told

pub returns-then-has_head : goal.returns-then-has_head
returns-then-has_head c m entry checks h told known free some =
    let p = program_of m c.args.image.now (notes_of c.args.notes.now) entry in
    head_then (layout_of c.args.layout) checks (known_in p c.args.own) (c.head_lines-first.result + 1) c.args.bytes.now
    (ap (λ n. n + 1) c.head_lines-first.ensures) known _ (λ t. c.in_default.ensures m entry t) free refl h (some ∙ c.if-has_head.true) told

pub returns : goal.returns
returns c m entry checks h told known free some =
    let p = program_of m c.args.image.now (notes_of c.args.notes.now) entry in
    none_judged (layout_of c.args.layout) checks (known_in p c.args.own) (c.head_lines-first.result + 1) c.args.bytes.now
    (ap (λ n. n + 1) c.head_lines-first.ensures) known (λ t. c.in_default.ensures m entry t) h (some ∙ c.if-has_head.false) told
