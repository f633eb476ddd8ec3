use Rattle.std.proofs.Common.{◌≡◌, sym, subst, Bool, false, MatchOption}
use Rattle.bilv_spec.specs.Files.{program_of}
use Rattle.machine_spec.specs.StateText.{StateByteFault}
use Rattle.frame_texts_spec.specs.FrameTexts.{FramedRefused, OfPart}
use Rattle.frame_text.specs.Readings.{known_but}
use Rattle.notes_value.specs.NoteViews.{notes_of}
use Rattle.call_replay.specs.Readings.{known_in}
use Rattle.frame_replay.proofs.Judged.{no_byte}
use Rattle.call_replay.proofs.Judged.{line_known}
use Rattle.call_replay.proofs.judging.byte_line.Goals as goal

pub returns-then-own : goal.returns-then-own
returns-then-own c m entry told =
    let p = program_of m c.args.image.now (notes_of c.args.notes.now) entry in
    subst (λ (b : Bool). MatchOption c.kept_line.result (known_but (known_in p b) c.args.first c.args.bytes.now told ≡ told)
    (λ n. known_but (known_in p b) c.args.first c.args.bytes.now told ≡ FramedRefused n (OfPart StateByteFault))) (sym c.if-own.true)
    (c.kept_line.ensures told)

pub returns : goal.returns
returns c m entry told =
    let p = program_of m c.args.image.now (notes_of c.args.notes.now) entry in
    subst (λ (b : Bool). MatchOption c.known_line.result (known_but (known_in p b) c.args.first c.args.bytes.now told ≡ told)
    (λ n. known_but (known_in p b) c.args.first c.args.bytes.now told ≡ FramedRefused n (OfPart StateByteFault))) (sym c.if-own.false)
    (line_known (known_in p false) c.args.first c.args.bytes.now told c.known_line.result (c.known_line.ensures m entry no_byte))
