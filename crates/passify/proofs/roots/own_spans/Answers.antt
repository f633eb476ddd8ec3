use Rattle.std.proofs.Common.{refl, ap, map}
use Rattle.std.specs.Prelude.{option_map}
use Rattle.notes_value.specs.FrameViews.{contract_of, writes_of}
use Rattle.passify.proofs.Owned.{own_read, owned_none, owned_some}
use Rattle.passify.proofs.roots.own_spans.Goals as goal

pub returns-in_default : goal.returns-in_default
returns-in_default c =
    owned_none c.args.unrolled.now c.args.dag.now c.args.entry.now c.args.pc.0 c.new-none.result.items (ap (option_map (λ x. contract_of x.now)) c.in_default.is)
    c.nodes-typed.ensures.typed c.new-none.ensures.items

pub spans-requires-clause-reads : goal.spans-requires-clause-reads
spans-requires-clause-reads c w at =
    (own_read c.args.unrolled.now (contract_of c.in-Some.own.now) (ap (option_map (λ x. contract_of x.now)) c.in-Some.is) c.requires.walkable c.args.entry.now
    c.requires.form c.deref.result.now (ap (map writes_of) c.deref.ensures.value) w at).0

pub spans-requires-clause-some : goal.spans-requires-clause-some
spans-requires-clause-some c w at =
    (own_read c.args.unrolled.now (contract_of c.in-Some.own.now) (ap (option_map (λ x. contract_of x.now)) c.in-Some.is) c.requires.walkable c.args.entry.now
    c.requires.form c.deref.result.now (ap (map writes_of) c.deref.ensures.value) w at).1

pub spans-requires-clause-now : goal.spans-requires-clause-now
spans-requires-clause-now c = record { names = c.requires.names; pc = c.requires.pc }

pub returns : goal.returns
returns c =
    owned_some c.args.unrolled.now (contract_of c.in-Some.own.now) (ap (option_map (λ x. contract_of x.now)) c.in-Some.is) c.args.dag.now c.spans.new.dag
    c.args.entry.now c.args.pc.0 c.args.yes.0 _ c.in_ok-spans.spans.items _ c.in_ok-spans.ensures (ap (map writes_of) c.deref.ensures.value) refl refl
