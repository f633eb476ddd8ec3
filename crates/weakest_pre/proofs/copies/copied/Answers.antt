use Rattle.std.proofs.Common.{◌≡◌, ◌<◌, List, Bool, length, subst, arith}
use Rattle.term_dag.specs.declared.nodes.Term.{Term}
use Rattle.weakest_pre.specs.Copies.{ArePicked, IsCopy}
use Rattle.weakest_pre.proofs.Copying.{copying_more, copying_done}
use Rattle.weakest_pre.proofs.copies.copied.Goals as goal

pub loop-place-preserved : goal.loop-place-preserved
loop-place-preserved c =
    let source = c.args.source.now in
    let marks = c.in_ok-marks.marks in
    let place = c.loop-place.place in
    let few = c.in_ok-marks.ensures.within in
    let within : place < length source = omega (arith, few, marks.ok.0) in
    copying_more source c.args.dag.now c.loop-place.dag _ marks.items c.loop-place.copies.items _ place c.in_ok-term.term within c.loop-place.invariant
    (subst (λ (l : List Bool). IsCopy source c.loop-place.dag c.kept.new.dag l place c.in_ok-term.term.0) c.deref.ensures.value c.in_ok-term.ensures)
    c.in_ok-push.ensures.items

pub overflow_cast-place : goal.overflow_cast-place
overflow_cast-place c =
    let marks = c.in_ok-marks.marks in
    let numbered = c.in_ok-marks.ensures.numbered in
    omega (arith, numbered, marks.ok.0)

pub returns : goal.returns
returns c =
    let roots = c.args.roots.now in
    let marks = c.in_ok-marks.marks in
    let all : c.loop-place.place ≡ length marks.items = omega (arith, marks.ok.0) in
    copying_done c.args.source.now c.args.dag.now c.loop-place.dag marks.items c.loop-place.copies.items roots c.in_ok-terms.terms.items c.loop-place.place all
    c.in_ok-marks.ensures c.loop-place.invariant
    (subst (λ (l : List Term). ArePicked l roots (length roots) c.in_ok-terms.terms.items) c.deref-2.ensures.value c.in_ok-terms.ensures)
