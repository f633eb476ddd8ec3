use Rattle.std.proofs.Common.{ap, sym, ◌∙◌, subst, eq-eqb, ne_eqb}
use Rattle.std.specs.Prelude.{◌++◌}
use Rattle.std.specs.Map.Iter.{deref}
use Rattle.std.proofs.lemmas.List.{append-nil}
use Rattle.std.proofs.lemmas.Map.Iter.{rest_more, rest_all}
use Rattle.machine_spec.specs.StateText.{AreRising}
use Rattle.table_run.specs.Traces.{bytes_over}
use Rattle.table_run.proofs.Listings.{listed_skip, listed_push, rising_over}
use Rattle.table_run.proofs.tracing.listed.Goals as goal

pub loop-a-init : goal.loop-a-init
loop-a-init c =
    ap (λ z. z ++ bytes_over c.args.model.now.fill c.args.model.now.bytes.now c.into_iter-a-iterator.result) c.new-bytes.ensures.items
    ∙ ap (bytes_over c.args.model.now.fill c.args.model.now.bytes.now) c.into_iter-a-iterator.ensures.into_iter_gives.0

pub loop-a-preserved-then-byte-eq0 : goal.loop-a-preserved-then-byte-eq0
loop-a-preserved-then-byte-eq0 c =
    listed_skip c.args.model.now.fill c.args.model.now.bytes.now c.loop-a.bytes.items _ _ c.byte_of-byte.result c.loop-a.a-iterator c.next.new.self
    (rest_more deref _ _ _ _ c.in-Some.is c.next.ensures.steps) c.byte_of-byte.ensures (eq-eqb c.byte_of-byte.result 0 c.if-byte-eq0.true) c.loop-a.invariant

pub loop-a-preserved : goal.loop-a-preserved
loop-a-preserved c =
    listed_push c.args.model.now.fill c.args.model.now.bytes.now c.loop-a.bytes.items c.push.new.self.items _ _ c.byte_of-byte.result c.loop-a.a-iterator
    c.next.new.self (rest_more deref _ _ _ _ c.in-Some.is c.next.ensures.steps) c.byte_of-byte.ensures
    (ne_eqb c.byte_of-byte.result 0 c.if-byte-eq0.false) c.in_ok-push.ensures.items c.loop-a.invariant

pub returns : goal.returns
returns c =
    let end = rest_all deref _ _ _ c.in-None.is c.next.ensures.steps in
    let all =
    sym (append-nil c.loop-a.bytes.items) ∙ sym (ap (λ z. c.loop-a.bytes.items ++ bytes_over c.args.model.now.fill c.args.model.now.bytes.now z) end)
    ∙ c.loop-a.invariant in
    record {
      bytes = all;
      rising =
          subst AreRising (sym all)
          (rising_over c.args.model.now.fill c.args.model.now.bytes.now c.args.read.now.keys c.into_iter-a-iterator.ensures.into_iter_gives.4);
    }
