use Rattle.std.proofs.Common.{◌≡◌, ◌<◌, ◌∙◌, length, get_or, map, ap, arith}
use Rattle.std.proofs.lemmas.Option.{get_or_from_slice_get}
use Rattle.word_spec.specs.Memory.{endian}
use Rattle.frame_spec.specs.Frames.{written}
use Rattle.notes_value.specs.FrameViews.{writes_of}
use Rattle.notes_value.specs.Reads.{IsReadable}
use Rattle.notes_value.specs.declared.notes.Contract.{Contract}
use Rattle.table_run.proofs.Lists.{unmapped}
use Rattle.table_run.proofs.called.own_spans.Goals as goal

pub writable-requires : goal.writable-requires
writable-requires g c =
    let inside : c.args.rank < length c.args.contracts.now = omega arith in
    let readable = c.requires c.args.rank c.index-contracts-rank.result inside in
    unmapped (λ w. IsReadable g.V.View.has_register w.says) writes_of
    (get_or c.args.contracts.now c.args.rank c.index-contracts-rank.result).writes.items c.deref.result.now c.deref.ensures.value readable.writes

pub returns : goal.returns
returns g c x is =
    let same : get_or c.args.contracts.now c.args.rank c.index-contracts-rank.result ≡ x =
    get_or_from_slice_get c.args.contracts.now c.args.rank x c.index-contracts-rank.result is in
    c.in_ok-spans.ensures ∙ ap (λ l. written (endian c.args.big) (map writes_of l) (g.V.View.view c.args.state.now)) c.deref.ensures.value
    ∙ ap (λ (x : Contract). written (endian c.args.big) (map writes_of x.writes.items) (g.V.View.view c.args.state.now)) same
