use Rattle.std.proofs.Common.{◌≡◌, drop}
use Rattle.call_text.specs.Texts.{changes_at}
use Rattle.call_text.proofs.changes.changes_at.Given as goal

abbrev pub invariant-loop-contract : goal.invariant-loop-contract
invariant-loop-contract l = changes_at (drop l.contract-index l.contracts) l.at ≡ changes_at l.contracts l.at
