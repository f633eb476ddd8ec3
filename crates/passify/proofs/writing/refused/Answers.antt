use Rattle.std.proofs.Common.{ap}
use Rattle.std.specs.Prelude.{option_map}
use Rattle.notes_value.specs.FrameViews.{contract_of}
use Rattle.passify.proofs.Outside.{refused_none, refused_some, spans_keep}
use Rattle.passify.proofs.writing.refused.Goals as goal

pub returns-in-None : goal.returns-in-None
returns-in-None c =
    refused_none c.args.unrolled.now c.args.dag.now c.writes_kept.new.dag c.args.spans.now c.args.own.now c.in_ok-kept.kept.0 c.in_ok-kept.ensures
    (ap (option_map (λ x. contract_of x.now)) c.in-None.is)

pub outside-requires-clause-spans : goal.outside-requires-clause-spans
outside-requires-clause-spans c =
    spans_keep c.args.dag.now c.writes_kept.new.dag _ _ _ _ _ c.args.spans.now c.in_ok-kept.ensures.grew c.requires.spans

pub outside-requires-clause-own : goal.outside-requires-clause-own
outside-requires-clause-own c =
    spans_keep c.args.dag.now c.writes_kept.new.dag _ _ _ _ _ c.args.own.now c.in_ok-kept.ensures.grew c.requires.own

pub outside-requires-clause-before : goal.outside-requires-clause-before
outside-requires-clause-before c = c.in_ok-kept.ensures.width

pub returns-in_ok-some-in-Some : goal.returns-in_ok-some-in-Some
returns-in_ok-some-in-Some c =
    refused_some c.args.unrolled.now c.args.dag.now c.writes_kept.new.dag c.args.spans.now c.args.own.now c.in_ok-kept.kept.0 c.in_ok-kept.ensures _
    (ap (option_map (λ x. contract_of x.now)) c.in-Some.is) c.outside.new.dag c.in_ok-some-in-Some.some.0 c.requires.spans c.requires.own
    c.in_ok-some-in-Some.ensures
