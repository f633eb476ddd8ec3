use Rattle.std.proofs.Common.{List, map, subst, rules}
use Rattle.program_value.specs.Programs.{program_of}
use Rattle.bilv_spec.specs.Run.{Program}
use Rattle.bilv_spec.proofs.PointsInGraph.{none_in}
use Rattle.notes_value.specs.declared.notes.Contract.{Contract}
use Rattle.question_form.specs.FrameViews.{frame_unrolled_of}
use Rattle.std.specs.Prelude.{Contains}
use Rattle.notes_value.specs.FrameViews.{contract_of}
use Rattle.unroller.specs.Rows.{AssignsLiveOnly, HasListsOf}
use Rattle.unroller.proofs.Fronts.{as_plain, plain_many}
use Rattle.unroller.proofs.unrolling.unroll_frame.Goals as goal

pub unroll_contracted-requires-clause-few : goal.unroll_contracted-requires-clause-few
unroll_contracted-requires-clause-few g c x h = none_in x (subst (λ (l : List Contract). Contains l x) c.no_contracts.ensures h)

pub returns-clause-unrolled : goal.returns-clause-unrolled
returns-clause-unrolled g c =
    let p : Program = program_of c.args.program.now in
    as_plain p c.args.invariants.now c.no_contracts.result.now c.no_contracts-2.result.now c.no_contracts.ensures c.no_contracts-2.ensures c.args.k
    (frame_unrolled_of c.in_ok-unrolled.unrolled) c.in_ok-unrolled.ensures.unrolled

pub returns-clause-lists : goal.returns-clause-lists
returns-clause-lists g c =
    subst (λ (l : List Contract). HasListsOf (program_of c.args.program.now) g.M.Machine.bank (map contract_of l)
    (frame_unrolled_of c.in_ok-unrolled.unrolled)) c.no_contracts-2.ensures c.in_ok-unrolled.ensures.lists

pub returns-clause-lean : goal.returns-clause-lean
returns-clause-lean g c =
    subst (λ (l : List Contract). AssignsLiveOnly (program_of c.args.program.now) (map contract_of l)
    (frame_unrolled_of c.in_ok-unrolled.unrolled)) c.no_contracts-2.ensures c.in_ok-unrolled.ensures.lean

pub returns-in_err-unrolled-clause-more : goal.returns-in_err-unrolled-clause-more
returns-in_err-unrolled-clause-more g c =
    let p : Program = program_of c.args.program.now in
    let more = plain_many p c.args.invariants.now c.no_contracts.result.now c.no_contracts-2.result.now c.no_contracts.ensures c.no_contracts-2.ensures c.args.k
    c.args.max c.in_err-unrolled.field-0.0 c.in_err-unrolled.ensures.more in
    search rules

pub returns-clause-beyond : goal.returns-clause-beyond
returns-clause-beyond g c x far = c.in_ok-unrolled.ensures.beyond x far
