use Rattle.std.proofs.Common.{◌<◌, ℕ, false, List, refl, ap, subst, sym, ◌∙◌, length}
use Rattle.std.specs.Prelude.{slice_index_or, slice_range}
use Rattle.term_spec.specs.Terms.{ConstantNode}
use Rattle.term_dag.proofs.Growth.{interned_grew}
use Rattle.frame_spec.specs.FrameWalk.{Check}
use Rattle.question_form.specs.FrameViews.{checks_between}
use Rattle.passify.specs.Edges.{AreRead}
use Rattle.passify.specs.Situations.{checks_of, said}
use Rattle.passify.proofs.Followed.{all_judged, head_hands, head_steps}
use Rattle.passify.proofs.Kept.{terms_keep, well_keeps}
use Rattle.passify.proofs.Standing.{places_in}
use Rattle.passify.proofs.edges.into_head.Goals as goal

pub asserts-requires-clause-well : goal.asserts-requires-clause-well
asserts-requires-clause-well c =
    well_keeps (interned_grew c.args.dag.now c.keep.new.self (ConstantNode 32 c.from.result) c.in_ok-pc.pc.0 c.in_ok-pc.ensures) c.args.sweep.now
    c.in_ok-pc.ensures.typed c.requires.well

pub asserts-requires-clause-places : goal.asserts-requires-clause-places
asserts-requires-clause-places c =
    let u = c.args.unrolled.now in
    let b = c.args.bounds in
    subst (λ (z : List (ℕ × ℕ)). (i : ℕ) → i < length (slice_range z b.0 b.1) →
    (slice_index_or (slice_range z b.0 b.1) i (0, 0)).1 < length u.notes.now.asserts.items) (sym c.deref.ensures.value)
    (places_in u c.requires.formed b c.requires.goes.formed)

pub asserts-requires-clause-reads : goal.asserts-requires-clause-reads
asserts-requires-clause-reads c =
    let u = c.args.unrolled.now in
    let b = c.args.bounds in
    subst (λ (z : List (ℕ × ℕ)). AreRead c.args.next.now.names.now (said (checks_of u false (slice_range z b.0 b.1)))) (sym c.deref.ensures.value)
    (subst (λ (cs : List Check). AreRead c.args.next.now.names.now (said cs)) (sym (all_judged (checks_between u b))) c.requires.goes.reads)

pub asserts-requires-clause-now : goal.asserts-requires-clause-now
asserts-requires-clause-now c =
    terms_keep (interned_grew c.args.dag.now c.keep.new.self (ConstantNode 32 c.from.result) c.in_ok-pc.pc.0 c.in_ok-pc.ensures) c.args.sweep.now.entry
    c.args.next.now.names.now c.requires.next

pub returns-clause-steps : goal.returns-clause-steps
returns-clause-steps c =
    let u = c.args.unrolled.now in
    let b = c.args.bounds in
    head_steps u c.args.dag.now c.keep.new.self c.asserts.new.dag c.args.sweep.now c.asserts.new.sweep c.args.hit.0 c.in_ok-asserts.field-0.0 c.args.at
    c.from.result c.in_ok-pc.pc.0 b c.args.next.now _ c.requires.well c.requires.next c.requires.hit c.from.ensures c.in_ok-pc.ensures refl refl _
    (ap (λ (z : List (ℕ × ℕ)). checks_of u false (slice_range z b.0 b.1)) c.deref.ensures.value ∙ all_judged (checks_between u b)) c.in_ok-asserts.ensures

pub returns-clause-hands : goal.returns-clause-hands
returns-clause-hands c =
    let u = c.args.unrolled.now in
    let b = c.args.bounds in
    head_hands u c.args.dag.now c.keep.new.self c.asserts.new.dag c.args.sweep.now c.asserts.new.sweep c.args.hit.0 c.in_ok-asserts.field-0.0 c.args.at
    c.from.result c.in_ok-pc.pc.0 b c.args.next.now _ c.requires.well c.requires.next c.requires.hit c.from.ensures c.in_ok-pc.ensures refl refl _
    (ap (λ (z : List (ℕ × ℕ)). checks_of u false (slice_range z b.0 b.1)) c.deref.ensures.value ∙ all_judged (checks_between u b)) c.in_ok-asserts.ensures
