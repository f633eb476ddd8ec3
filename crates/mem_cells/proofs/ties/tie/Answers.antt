use Rattle.std.proofs.Common.{◌<◌, inl, inr, length, refl, ap, sym, ◌∙◌, subst, arith}
use Rattle.term_spec.specs.Terms.{HasWidth}
use Rattle.mem_cells.specs.Building.{read_places}
use Rattle.mem_cells.specs.Parts.{lists_of}
use Rattle.mem_cells.proofs.PartReads.{parts_here}
use Rattle.mem_cells.proofs.Growing.{grown_none, grown_more, mapped_length}
use Rattle.mem_cells.proofs.Agreements.{mapped_at, tied, unshared, untied}
use Rattle.mem_cells.proofs.ties.tie.Goals as goal

pub returns-then-is_apart-clause-grown : goal.returns-then-is_apart-clause-grown
returns-then-is_apart-clause-grown c = grown_more c.args.build.now c.args.build.now 0 0 32 0 (omega arith) (omega arith)
    (grown_none c.args.build.now c.requires.built)

pub returns-then-is_apart-clause-ties : goal.returns-then-is_apart-clause-ties
returns-then-is_apart-clause-ties c =
    untied c.args.build.now (lists_of c.args.parts.now) _ c.args.sums.now c.args.other c.args.read c.requires.built c.requires.sums c.requires.read c.requires.other
    (sym c.is_apart.ensures ∙ c.if-is_apart.true) c.requires.ties

pub make-requires-clause-own : goal.make-requires-clause-own
make-requires-clause-own c =
    let a = c.args.build.now in
    let n = mapped_length a.addresses.items in
    let l : c.args.read < length (read_places a) = omega (arith, c.requires.read, c.requires.other) in
    let el = ap (λ t. t.0) c.index-left.ensures ∙ mapped_at a.addresses.items c.args.read _ (omega (arith, l, n)) in
    let er = ap (λ t. t.0) c.index-right.ensures ∙ mapped_at a.addresses.items c.args.other _ (omega (arith, c.requires.other, n)) in
    record {
      typed = (
        (omega arith, omega arith),
        subst (HasWidth a.dag 32) (sym el) (c.requires.built.addresses c.args.read l),
        subst (HasWidth a.dag 32) (sym er)
            (c.requires.built.addresses c.args.other c.requires.other),
      );
      word = omega arith;
      loads = refl;
      named = tt;
    }

pub returns-clause-ties : goal.returns-clause-ties
returns-clause-ties c =
    let a = c.args.build.now in
    let n = mapped_length a.addresses.items in
    let l : c.args.read < length (read_places a) = omega (arith, c.requires.read, c.requires.other) in
    let el = ap (λ t. t.0) c.index-left.ensures ∙ mapped_at a.addresses.items c.args.read _ (omega (arith, l, n)) in
    let er = ap (λ t. t.0) c.index-right.ensures ∙ mapped_at a.addresses.items c.args.other _ (omega (arith, c.requires.other, n)) in
    tied a c.make.new.self 32 (lists_of c.args.parts.now) _ _ _ _ _ c.index-left.result.now.0 c.index-right.result.now.0 c.args.other c.args.read
    c.requires.built c.in_ok-condition.ensures.grown c.in_ok-agree.ensures
    (parts_here c.args.parts.now c.args.read _ _ c.deref-3.ensures.value c.index-parts-read-2.is (omega (arith, l, c.requires.parts)))
    (parts_here c.args.parts.now c.args.other _ _ c.deref-4.ensures.value c.index-parts-other-2.is (omega (arith, c.requires.other, c.requires.parts)))
    c.requires.read c.requires.other el er c.in_ok-condition.ensures.word c.requires.ties

pub returns-then-not-is_shared-clause-grown : goal.returns-then-not-is_shared-clause-grown
returns-then-not-is_shared-clause-grown c = grown_more c.args.build.now c.args.build.now 0 0 32 0 (omega arith) (omega arith)
    (grown_none c.args.build.now c.requires.built)

pub returns-then-not-is_shared-clause-ties : goal.returns-then-not-is_shared-clause-ties
returns-then-not-is_shared-clause-ties c =
    let l : c.args.read < length (read_places c.args.build.now) = omega (arith, c.requires.read, c.requires.other) in
    unshared c.args.build.now (lists_of c.args.parts.now) c.args.agrees.now.items _ _ c.args.other c.args.read
    (parts_here c.args.parts.now c.args.read _ _ c.deref.ensures.value c.index-parts-read.is (omega (arith, l, c.requires.parts)))
    (parts_here c.args.parts.now c.args.other _ _ c.deref-2.ensures.value c.index-parts-other.is (omega (arith, c.requires.other, c.requires.parts)))
    (c.is_shared.ensures c.if-not-is_shared.true) c.requires.ties

pub returns-clause-kept : goal.returns-clause-kept
returns-clause-kept c p j h = elim (c.in_ok-condition.ensures.parts p j h) [ inl k ↦ k | inr e ↦ absurd (cc) ]
