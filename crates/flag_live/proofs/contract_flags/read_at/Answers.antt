use Rattle.std.proofs.Common.{◌∙◌, ap, sym, map}
use Rattle.std.proofs.lemmas.List.{drop_all}
use Rattle.frame_spec.specs.Frames.{contract_at}
use Rattle.frame_spec.specs.FrameUnrolling.{contract_reads}
use Rattle.notes_value.specs.FrameViews.{contract_of}
use Rattle.flow_graph.proofs.FlagSets.{flags_as, flags_none}
use Rattle.flag_live.proofs.ContractFlags.{contract_here, contract_later}
use Rattle.flag_live.proofs.contract_flags.read_at.Goals as goal

pub loop-contract-preserved : goal.loop-contract-preserved
loop-contract-preserved c =
    contract_later c.args.contracts.now c.loop-contract.contract-index c.args.at c.contract-item.result c.loop-contract-test.true c.contract-item.is
    c.if-contract-at.false
    ∙ c.loop-contract.invariant

pub returns-then-contract-at : goal.returns-then-contract-at
returns-then-contract-at c =
    flags_as _ _ _
    (λ f. ap (contract_reads f)
    (sym (contract_here c.args.contracts.now c.loop-contract.contract-index c.args.at c.contract-item.result c.loop-contract-test.true c.contract-item.is
    c.if-contract-at.true)
    ∙ c.loop-contract.invariant))
    c.reads.ensures

pub returns : goal.returns
returns c =
    flags_as _ _ _
    (λ f. ap (contract_reads f)
    (sym (ap (λ l. contract_at (map contract_of l) c.args.at) (drop_all c.loop-contract.contract-index c.args.contracts.now c.loop-contract-test.false))
    ∙ c.loop-contract.invariant))
    flags_none
