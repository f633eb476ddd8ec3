use Rattle.table_run.proofs.Changed.{contract_found, contract_not}
use Rattle.table_run.proofs.changes.contract_at.Goals as goal

pub returns-then-contract-at-clause-listed : goal.returns-then-contract-at-clause-listed
returns-then-contract-at-clause-listed c = (c.loop-contract.contract-index, c.loop-contract-test.true, c.contract-item.is)

pub returns-then-contract-at-clause-first : goal.returns-then-contract-at-clause-first
returns-then-contract-at-clause-first c =
    contract_found c.args.contracts.now c.loop-contract.contract-index c.args.at c.contract-item.result c.loop-contract-test.true c.contract-item.is
    c.loop-contract.invariant c.if-contract-at.true

pub loop-contract-preserved : goal.loop-contract-preserved
loop-contract-preserved c =
    contract_not c.args.contracts.now c.loop-contract.contract-index c.args.at c.contract-item.result c.loop-contract-test.true c.contract-item.is
    c.loop-contract.invariant c.if-contract-at.false
