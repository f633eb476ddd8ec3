use Rattle.machine_tests.proofs.Fixtures.{one_contract}
use Rattle.machine_tests.proofs.called_texts.contracts.Goals as goal

pub returns : goal.returns
returns c =
    one_contract c.in_ok-contracts.contracts.items _ c.in_ok-contracts.ensures.items c.in_ok-vec.ensures.items c.in_ok-vec-2.ensures.items
