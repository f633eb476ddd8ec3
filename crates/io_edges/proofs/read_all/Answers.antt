use Rattle.std.proofs.Common.{◌≡◌, ◌∙◌, length, length-take, sym, subst, arith}
use Rattle.call_spec.specs.Outside.{Reads}
use Rattle.io_edges.proofs.Beginning.{NoneFrom, begun_piece, none_after}
use Rattle.io_edges.proofs.Fronts.{IsFront, front_more, front_over}
use Rattle.io_edges.proofs.read_all.Goals as goal

pub returns-then-count-limit-clause-too_large : goal.returns-then-count-limit-clause-too_large
returns-then-count-limit-clause-too_large g c e =
    let held = g.H.Shelf.holds c.args.shelf.now c.args.name.now in
    let reads = subst (λ h. Reads h c.len-at.result c.read.new.into c.in-Ok.count) (c.loop-count.invariant.keeps c.args.name.now) c.in-Ok.ensures.ok in
    let same : c.len-at.result ≡ length c.loop-count.bytes.items = omega (arith, c.len-at.ensures) in
    front_over held c.loop-count.bytes.items c.read.new.into c.in-Ok.count c.args.limit c.in-Ok.ensures.within (omega (arith, c.loop-count.invariant.within))
    (omega arith)
    c.loop-count.invariant.front (subst (λ at. Reads held at c.read.new.into c.in-Ok.count) same reads)

pub loop-count-preserved : goal.loop-count-preserved
loop-count-preserved g c =
    let held = g.H.Shelf.holds c.args.shelf.now c.args.name.now in
    let reads = subst (λ h. Reads h c.len-at.result c.read.new.into c.in-Ok.count) (c.loop-count.invariant.keeps c.args.name.now) c.in-Ok.ensures.ok in
    let same : c.len-at.result ≡ length c.loop-count.bytes.items = omega (arith, c.len-at.ensures) in
    let none = subst (λ m. NoneFrom (g.H.Shelf.begun c.args.shelf.now) (g.H.Shelf.begun c.loop-count.shelf) m) (sym same) c.loop-count.invariant.none in
    record {
      keeps = λ n. c.in-Ok.ensures.keeps n ∙ c.loop-count.invariant.keeps n;
      steady = λ n. c.in-Ok.ensures.steady n ∙ c.loop-count.invariant.steady n;
      begun = begun_piece _ _ _ c.args.name.now c.len-at.result c.loop-count.invariant.begun none c.read.ensures.begins;
      none = none_after _ _ _ c.args.name.now c.len-at.result _ none c.read.ensures.begins
          (omega (arith, c.in-Ok-extend_from_slice.ensures.len, c.len-at.ensures, length-take c.in-Ok.count c.read.new.into));
      front =
          subst (IsFront held) (sym c.in-Ok-extend_from_slice.ensures.items)
          (front_more held c.loop-count.bytes.items c.read.new.into c.in-Ok.count c.in-Ok.ensures.within c.loop-count.invariant.front
          (subst (λ at. Reads held at c.read.new.into c.in-Ok.count) same reads));
      room = omega arith;
      within = omega (arith, c.in-Ok-extend_from_slice.ensures.len, c.len-at.ensures, length-take c.in-Ok.count c.read.new.into);
    }
