use Rattle.std.proofs.Common.{sym, ◌∙◌}
use Rattle.frame_start.proofs.WholeValues.{broken_values, some_left, whole_values}
use Rattle.frame_start.proofs.meaning.meaning_of.Goals as goal

pub segments_of-requires-clause-whole : goal.segments_of-requires-clause-whole
segments_of-requires-clause-whole c =
    let e = c.in_ok-evaluated.evaluated in
    whole_values c.args.c.now e.celled.now c.args.values.now e.values.now c.in_ok-evaluated.ensures.of e.reads c.in_ok-evaluated.ensures.is.reads
    c.in_ok-broken.broken.items c.in_ok-broken.ensures.broken _ (sym c.in_ok-broken.broken.ok.0) (sym c.is_empty.ensures ∙ c.if-is_empty.true) c.requires.one

pub returns : goal.returns
returns c =
    let e = c.in_ok-evaluated.evaluated in (
      broken_values c.args.c.now e.celled.now c.args.values.now e.values.now c.in_ok-evaluated.ensures.of e.reads c.in_ok-evaluated.ensures.is.reads
          c.in_ok-broken.broken.items c.in_ok-broken.ensures.broken c.in_ok-broken.ensures.rise,
      some_left c.in_ok-broken.broken.items _ (sym c.in_ok-broken.broken.ok.0) (sym c.is_empty.ensures ∙ c.if-is_empty.false),
    )
