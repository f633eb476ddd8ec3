use Rattle.std.proofs.Common.{ap, ◌∙◌}
use Rattle.notes_value.specs.declared.notes.Contract.{Contract}
use Rattle.notes_lang.proofs.Contracted.{place_next, place_end, same_element}
use Rattle.notes_lang.proofs.contracts.place_of.Goals as goal

pub loop-place-preserved : goal.loop-place-preserved
loop-place-preserved c =
    place_next c.args.at c.args.contracts.now c.loop-place.place c.index-contracts-place.result _ c.loop-place-test.true c.if-contracts-place.false
    c.loop-place.invariant

pub returns-clause-none : goal.returns-clause-none
returns-clause-none c = place_end c.args.at c.args.contracts.now c.loop-place.place _ c.loop-place-test.false c.loop-place.invariant

pub returns-then-contracts-place-clause-found : goal.returns-then-contracts-place-clause-found
returns-then-contracts-place-clause-found c = (
  c.loop-place-test.true,
  λ d. ap (λ (x : Contract). x.at) (same_element c.args.contracts.now c.loop-place.place d c.index-contracts-place.result c.loop-place-test.true)
      ∙ c.if-contracts-place.true,
)
