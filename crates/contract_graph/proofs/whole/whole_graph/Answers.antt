use Rattle.std.proofs.Common.{◌∙◌, sym}
use Rattle.frame_spec.specs.Frames.{Contract}
use Rattle.notes_value.specs.FrameViews.{contract_of}
use Rattle.flow_graph.proofs.Members.{maps}
use Rattle.program_value.specs.Programs.{program_of}
use Rattle.contract_graph.specs.Wholes.{whole_with}
use Rattle.contract_graph.proofs.Live.{whole_made}
use Rattle.contract_graph.proofs.whole.whole_graph.Goals as goal

pub returns-clause-graph : goal.returns-clause-graph
returns-clause-graph g c heads =
    (whole_made (whole_with (program_of c.args.program.now) heads c.args.contracts.now) c.deref.result.now c.in_ok-graph.graph c.in_ok-live.live
    (c.deref.ensures.value ∙ c.in_ok-others.ensures ∙ sym (maps (λ (x : Contract). x.at) contract_of c.args.contracts.now)) c.in_ok-graph.ensures.graph
    c.in_ok-live.ensures.same c.in_ok-live.ensures.asked c.in_ok-live.ensures.alive).0

pub returns-clause-live : goal.returns-clause-live
returns-clause-live g c heads =
    (whole_made (whole_with (program_of c.args.program.now) heads c.args.contracts.now) c.deref.result.now c.in_ok-graph.graph c.in_ok-live.live
    (c.deref.ensures.value ∙ c.in_ok-others.ensures ∙ sym (maps (λ (x : Contract). x.at) contract_of c.args.contracts.now)) c.in_ok-graph.ensures.graph
    c.in_ok-live.ensures.same c.in_ok-live.ensures.asked c.in_ok-live.ensures.alive).1
