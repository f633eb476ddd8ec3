use Rattle.std.proofs.Common.{ap, map}
use Rattle.frame_verdict.specs.FrameFunctions.{contracts_of}
use Rattle.notes_value.specs.FrameViews.{contract_of}
use Rattle.notes_value.specs.NoteViews.{notes_of}
use Rattle.frame_verdict.proofs.Grounding.{unrolled_rank}
use Rattle.frame_verdict.proofs.RankedParts.{callable_of, few_of, more_of, words_of}
use Rattle.frame_verdict.proofs.ranks.unroll_rank.Goals as goal

pub returns-clause-unrolled : goal.returns-clause-unrolled
returns-clause-unrolled g c =
    let is = c.unroll_contracted.ensures in
    let parts = c.parts_of-parts in
    unrolled_rank g.M.Machine.machine g.M.Machine.form g.met.M.Machine.lawful g.met.M.Machine.fitted c.args.framed.now.program.image.now c.bytes.ensures
    (notes_of c.args.framed.now.program.notes.now) c.args.framed.now.program.entry c.args.framed.now.invariants.now (contracts_of c.args.framed.now) c.args.framed.now.program.over
    c.requires.runs.place (callable_of g.M.Machine.machine c.args.framed.now c.requires.runs.callable) c.args.rank c.args.k c.args.max c.requires.max _
    parts.ensures.frame _ (ap (map contract_of) parts.ensures.contracts)
    (words_of c.args.notes.now parts.result.program.notes.now parts.ensures.notes c.places_are_words.ensures) parts.result.program.placed c.unroll_contracted.result is.unrolled
    is.formed is.roots is.steps is.heads is.few is.form is.addresses is.layout is.runs is.beyond is.own is.first is.headed

pub unroll_contracted-requires-clause-few : goal.unroll_contracted-requires-clause-few
unroll_contracted-requires-clause-few g c x h = few_of g.M.Machine.machine c.args.framed.now c.requires.runs.callable x (c.parts_of-parts.ensures.stepped x h)

pub returns-clause-more : goal.returns-clause-more
returns-clause-more g c =
    more_of c.unroll_contracted.result _ _ c.args.k c.args.max c.parts_of-parts.ensures.frame c.unroll_contracted.ensures.more
