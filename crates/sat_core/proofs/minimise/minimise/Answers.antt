use Rattle.std.proofs.Common.{◌∙◌, ap, refl, subst, inl, inr}
use Rattle.std.proofs.lemmas.List.{take_all}
use Rattle.clause_spec.specs.Clauses.{Literal, Clause, has}
use Rattle.sat_core.specs.Kept.{others, IsNeeded}
use Rattle.sat_core.proofs.Literals.{others-part, others-plain, has-taken}
use Rattle.sat_core.proofs.Shorter.{kept-drop, needed-drop, needed-dropped, needed-stays}
use Rattle.sat_core.proofs.minimise.minimise.Goals as goal
use Rattle.sat_core.proofs.minimise.minimise.Goals.{in-Some-2, in_default}

pub refute-requires-in-loop-lit-clause-within : goal.refute-requires-in-loop-lit-clause-within
refute-requires-in-loop-lit-clause-within c =
    let i = c.loop-lit.invariant.kept in
    rw (c.deref-in-loop-lit.ensures.value, c.in_ok-fewer.ensures, c.deref.ensures.value)
    (rw c.loop-lit.invariant.size (λ l h. c.requires.within l (i.part l (others-part c.loop-lit.kept.items c.lit-item.result l h))))

pub refute-requires-in-loop-lit-clause-plain : goal.refute-requires-in-loop-lit-clause-plain
refute-requires-in-loop-lit-clause-plain c =
    rw (c.deref-in-loop-lit.ensures.value, c.in_ok-fewer.ensures, c.deref.ensures.value)
    (others-plain c.loop-lit.kept.items c.lit-item.result c.loop-lit.invariant.kept.plain)

pub loop-lit-preserved : goal.loop-lit-preserved
loop-lit-preserved c =
    let cs = c.args.propagator.now.clauses.items in
    let full = c.args.full.now in
    let y = c.lit-item.result in
    let kept = c.loop-lit.kept.items in
    let inv = c.loop-lit.invariant in
    let old = has-taken full c.loop-lit.lit-index y c.loop-lit-test.true c.lit-item.is in
    let f = rw c.deref.ensures.value at c.in_ok-fewer.ensures in
    let e = c.in_ok-found.ensures in
    elim c.match-branch-7.branch [
      | in-Some-2 w ↦
          let a = rw (w.in-Some-2.is, c.deref-in-loop-lit.ensures.value, f, inv.clauses) at e.hints in
          rw (w.kept-is, w.hints-is, f) record {
            sound = e.sound;
            empty = e.empty;
            clauses = e.clauses ∙ inv.clauses;
            size = e.size ∙ inv.size;
            kept = kept-drop cs kept full c.loop-lit.hints.items y _ inv.kept a;
            tested = λ m h. elim (old m h) [
              | inl d ↦ needed-drop cs kept y m (inv.tested m d)
              | inr d ↦ subst (IsNeeded cs (others kept y)) d (needed-dropped cs kept y)
            ];
          }
      | in_default w ↦
          let n = rw (w.in_default.is, c.deref-in-loop-lit.ensures.value, f, inv.clauses) at e.hints in
          rw (w.kept-is, w.hints-is) record {
            sound = e.sound;
            empty = e.empty;
            clauses = e.clauses ∙ inv.clauses;
            size = e.size ∙ inv.size;
            kept = inv.kept;
            tested = λ m h. elim (old m h) [
              | inl d ↦ inv.tested m d
              | inr d ↦ subst (IsNeeded cs kept) d (needed-stays cs kept y n)
            ];
          }
    ]

pub returns-clause-minimal : goal.returns-clause-minimal
returns-clause-minimal c = λ l h.
    c.loop-lit.invariant.tested l (ap (λ (z : Clause). has z l)
    (take_all c.loop-lit.lit-index c.args.full.now c.loop-lit-test.false) ∙ c.loop-lit.invariant.kept.part l h) h

pub returns-then-is_least-clause-minimal : goal.returns-then-is_least-clause-minimal
returns-then-is_least-clause-minimal c =
    let n : (l : Literal) → IsNeeded c.args.propagator.now.clauses.items c.args.full.now l = rw c.in_ok-hints.ensures.clauses at
    (c.if-is_least.ensures.needed refl) in
    rw c.in_ok-lits.ensures.items n
