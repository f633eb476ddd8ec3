use Rattle.std.proofs.Common.{◌≡◌, ℕ, List, Bool, ◌+◌, ◌-◌, sym, subst, arith}
use Rattle.weakest_pre.specs.Copies.{AreMarkedFrom}
use Rattle.weakest_pre.proofs.Marks.{roots_marked, visited_step}
use Rattle.weakest_pre.proofs.copies.mark_reached.Goals as goal

pub loop-place-init : goal.loop-place-init
loop-place-init c =
    roots_marked c.args.source.now c.args.roots.now c.mark_roots.new.marks (omega (arith, c.requires.within, c.mark_roots.auto.marks))
    (omega (arith, c.requires.numbered, c.mark_roots.auto.marks)) c.mark_roots.ensures

pub overflow_cast-place : goal.overflow_cast-place
overflow_cast-place c =
    let few = c.loop-place.invariant.few in
    let numbered = c.loop-place.invariant.numbered in
    omega (arith, few, numbered)

pub visit-requires-clause-place : goal.visit-requires-clause-place
visit-requires-clause-place c = let few = c.loop-place.invariant.few in omega (arith, few)

pub visit-requires-clause-within : goal.visit-requires-clause-within
visit-requires-clause-within c =
    let few = c.loop-place.invariant.few in
    let within = c.loop-place.invariant.within in
    omega (arith, few, within)

pub loop-place-preserved : goal.loop-place-preserved
loop-place-preserved c =
    let source = c.args.source.now in
    let roots = c.args.roots.now in
    let k = c.loop-place.place in
    let marks = c.loop-place.marks in
    let few = c.loop-place.invariant.few in
    let within = c.loop-place.invariant.within in
    let same : k - 1 + 1 ≡ k = omega arith in
    let before = subst (λ (i : ℕ). AreMarkedFrom source roots i marks) (sym same) c.loop-place.invariant in
    subst (λ (l : List Bool). AreMarkedFrom source roots (k - 1) l) (sym c.visit.ensures)
    (visited_step source roots (k - 1) marks c.nodes-typed.ensures.typed (omega (arith, few, within)) (omega (arith, few)) before)
