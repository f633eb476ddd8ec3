use Rattle.std.proofs.Common.{ℕ, List, map, refl, subst, rules, []}
use Rattle.bilv_spec.specs.Run.{Program}
use Rattle.frame_spec.specs.FrameUnrolling.{IsUnrolling}
use Rattle.frame_spec.specs.FrameWalk.{UnrolledProgram}
use Rattle.frame_spec.specs.Theorems.{headless}
use Rattle.frame_laws.proofs.HeadlessUnrolled.{headless_unrolling}
use Rattle.bilv_spec.proofs.PointsInGraph.{none_in}
use Rattle.notes_value.specs.declared.notes.Contract.{Contract}
use Rattle.std.specs.Prelude.{Contains}
use Rattle.program_points.specs.Listed.{HasTooMany}
use Rattle.program_points.proofs.Plain.{plain_fault}
use Rattle.question_form.proofs.FrameValues.{headless_values}
use Rattle.question_form.specs.FrameViews.{frame_unrolled_of}
use Rattle.question_form.specs.Views.{unrolled_of}
use Rattle.program_value.specs.Programs.{program_of}
use Rattle.notes_value.specs.FrameViews.{contract_of}
use Rattle.unroller.specs.Asking.{asking, frame_of}
use Rattle.unroller.specs.Rows.{AssignsLiveOnly, HasListsOf}
use Rattle.unroller.proofs.Fronts.{as_plain, plain_many}
use Rattle.unroller.proofs.unrolling.unroll_asking.Goals as goal

pub returns-clause-unrolled : goal.returns-clause-unrolled
returns-clause-unrolled g c asked is =
    let p : Program = asking (program_of c.args.program.now) asked in
    let u = c.in_ok-unrolled.unrolled in
    ((headless_unrolling p c.args.k).0 (unrolled_of u)).1
    (subst (λ (z : UnrolledProgram). IsUnrolling (headless p) [] c.args.k z)
    (headless_values u (c.in_ok-unrolled.ensures.headless c.no_invariants.ensures c.no_contracts.ensures refl))
    (subst (λ (l : List ℕ). IsUnrolling (frame_of p l) [] c.args.k (frame_unrolled_of u)) c.no_invariants.ensures
    (as_plain p c.no_invariants.result.now c.no_contracts.result.now c.no_contracts-2.result.now c.no_contracts.ensures c.no_contracts-2.ensures c.args.k
    (frame_unrolled_of u) (c.in_ok-unrolled.ensures.unrolled asked is))))

pub returns-clause-lists : goal.returns-clause-lists
returns-clause-lists g c asked is =
    subst (λ (l : List Contract). HasListsOf (asking (program_of c.args.program.now) asked) g.M.Machine.bank (map contract_of l)
    (frame_unrolled_of c.in_ok-unrolled.unrolled)) c.no_contracts-2.ensures (c.in_ok-unrolled.ensures.lists asked is)

pub returns-clause-lean : goal.returns-clause-lean
returns-clause-lean g c asked is =
    subst (λ (l : List Contract). AssignsLiveOnly (asking (program_of c.args.program.now) asked) (map contract_of l)
    (frame_unrolled_of c.in_ok-unrolled.unrolled)) c.no_contracts-2.ensures (c.in_ok-unrolled.ensures.lean asked is)

pub returns-clause-headless : goal.returns-clause-headless
returns-clause-headless g c = c.in_ok-unrolled.ensures.headless c.no_invariants.ensures c.no_contracts.ensures refl

pub returns-in_err-unrolled-clause-more : goal.returns-in_err-unrolled-clause-more
returns-in_err-unrolled-clause-more g c asked is =
    let p : Program = asking (program_of c.args.program.now) asked in
    let more = plain_fault p c.args.k c.args.max c.in_err-unrolled.field-0.0
    (subst (λ (l : List ℕ). HasTooMany (frame_of p l) c.args.k c.args.max c.in_err-unrolled.field-0.0) c.no_invariants.ensures
    (plain_many p c.no_invariants.result.now c.no_contracts.result.now c.no_contracts-2.result.now c.no_contracts.ensures c.no_contracts-2.ensures c.args.k
    c.args.max c.in_err-unrolled.field-0.0 (c.in_err-unrolled.ensures.more asked is))) in
    search rules

pub unroll_with-requires-clause-few : goal.unroll_with-requires-clause-few
unroll_with-requires-clause-few g c x h = none_in x (subst (λ (l : List Contract). Contains l x) c.no_contracts.ensures h)
