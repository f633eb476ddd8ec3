use Rattle.frame_start.proofs.WholeValues.{broken_values}
use Rattle.frame_start.proofs.meaning.broken_bytes.Goals as goal

pub returns : goal.returns
returns c =
    let e = c.in_ok-evaluated.evaluated in
    broken_values c.args.c.now e.celled.now c.args.values.now e.values.now c.in_ok-evaluated.ensures.of e.reads c.in_ok-evaluated.ensures.is.reads
    c.in_ok-broken.broken.items c.in_ok-broken.ensures.broken c.in_ok-broken.ensures.rise
