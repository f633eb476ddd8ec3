use Rattle.std.proofs.Common.{◌+◌, ◌∙◌, arith}
use Rattle.known_bytes.proofs.Reaches.{other, same, goes_on}
use Rattle.known_bytes.proofs.stretches.known_stretch.Goals as goal

pub returns-then-next-seen-clause-end : goal.returns-then-next-seen-clause-end
returns-then-next-seen-clause-end c = λ m entry below.
    c.stretch_from-next.ensures.same m entry (c.loop-seen.seen.last + 1) (omega arith) c.stretch_from-next.ensures.last ∙ other _ _ c.if-next-seen.true

pub loop-seen-preserved : goal.loop-seen-preserved
loop-seen-preserved c = record {
  last = (let a = c.stretch_from-next.ensures.last in let b = c.loop-seen.invariant.last in omega arith);
  same = λ m entry. goes_on _ _ _ _ _ _ (same _ _ c.if-next-seen.false) (c.loop-seen.invariant.same m entry) (c.stretch_from-next.ensures.same m entry);
}
