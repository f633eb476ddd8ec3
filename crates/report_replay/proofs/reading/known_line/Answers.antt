use Rattle.std.proofs.Common.{get_or, ◌∙◌}
use Rattle.bilv_spec.specs.Files.{program_of}
use Rattle.bilv_spec.specs.Points.{is_known_at}
use Rattle.notes_value.specs.NoteViews.{notes_of}
use Rattle.report_replay.proofs.Lines.{told_here, told_next}
use Rattle.report_replay.proofs.reading.known_line.Goals as goal

pub returns-then-seen : goal.returns-then-seen
returns-then-seen c m entry told =
    let known = is_known_at (program_of m c.args.image.now (notes_of c.args.notes.now) entry) in
    let at = (get_or c.args.bytes.now c.loop-i.i (0, 0)).0 in
    c.loop-i.invariant.same m entry told
    ∙ told_here known c.args.first c.args.bytes.now c.loop-i.i (0, 0) told c.loop-i-test.true
    (c.alike_at-seen.ensures.alike m entry at c.alike_at-seen.ensures.low c.alike_at-seen.ensures.high ∙ c.if-seen.true)

pub loop-i-preserved : goal.loop-i-preserved
loop-i-preserved c = record {
  alike = c.alike_at-seen.ensures.alike;
  same = λ m entry told.
      let known = is_known_at (program_of m c.args.image.now (notes_of c.args.notes.now) entry) in
      let at = (get_or c.args.bytes.now c.loop-i.i (0, 0)).0 in
      c.loop-i.invariant.same m entry told
      ∙ told_next known c.args.first c.args.bytes.now c.loop-i.i (0, 0) told c.loop-i-test.true
      (c.alike_at-seen.ensures.alike m entry at c.alike_at-seen.ensures.low c.alike_at-seen.ensures.high ∙ c.if-seen.false);
}
