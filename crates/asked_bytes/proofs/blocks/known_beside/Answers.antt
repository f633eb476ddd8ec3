use Rattle.std.proofs.Common.{arith}
use Rattle.asked_bytes.proofs.Beside.{beside_none, beside_later}
use Rattle.asked_bytes.proofs.Found.{all_found, block_begins, block_ends, none_found, one_found}
use Rattle.asked_bytes.proofs.blocks.known_beside.Goals as goal

pub loop-address-init : goal.loop-address-init
loop-address-init c = record {
  beside = beside_none c.args.known.now c.args.added.now c.new-found.result.items c.new-found.ensures.items;
  asked = λ runs rise. none_found c.args.known.now c.args.added.now c.args.broken.now c.new-found.result.items;
}

pub list_stretch-requires-clause-before : goal.list_stretch-requires-clause-before
list_stretch-requires-clause-before c =
    beside_later c.args.known.now c.args.added.now c.loop-address.next c.max-from.result c.loop-address.found.items c.loop-address.invariant.beside
    (let is = c.max-from.ensures in omega (arith, is))

pub loop-address-preserved : goal.loop-address-preserved
loop-address-preserved c = record {
  beside = c.in_ok-next.ensures.beside;
  asked = λ runs rise. one_found c.args.known.now c.args.added.now c.args.broken.now rise c.loop-address.address-index c.loop-address.next c.max-from.result
      c.in_ok-next.next c.loop-address.found.items c.list_stretch.new.found.items c.loop-address-test.true (c.loop-address.invariant.asked runs rise)
      c.in_ok-next.ensures.kept (c.in_ok-next.ensures.asked runs) (λ a. block_begins _ _ _ _ a c.max-from.ensures)
      (block_ends _ _ _ c.in_ok-next.ensures.reached);
}

pub returns-clause-asked : goal.returns-clause-asked
returns-clause-asked c runs rise =
    all_found c.args.known.now c.args.added.now c.args.broken.now c.loop-address.address-index c.loop-address.next c.loop-address.found.items
    (c.loop-address.invariant.asked runs rise) c.loop-address-test.false
