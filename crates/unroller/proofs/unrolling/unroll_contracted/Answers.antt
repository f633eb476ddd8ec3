use Rattle.std.proofs.Common.{rules}
use Rattle.std.specs.Prelude.{IfErr, false}
use Rattle.program_value.specs.Programs.{program_of}
use Rattle.bilv_spec.specs.Run.{Program}
use Rattle.flag_live.proofs.FlagSets.{no_flags}
use Rattle.program_points.specs.Listed.{HasTooMany}
use Rattle.program_points.specs.declared.values.PointsFault.{PointsFault}
use Rattle.unroller.specs.Frames.{parts_frame}
use Rattle.unroller.proofs.Looked.{frame_words}
use Rattle.unroller.proofs.unrolling.unroll_contracted.Given as given
use Rattle.unroller.proofs.unrolling.unroll_contracted.Goals as goal

pub returns-clause-unrolled : goal.returns-clause-unrolled
returns-clause-unrolled g c = c.in_ok-unrolled.ensures.unrolled (λ f. false) no_flags

pub returns-clause-lists : goal.returns-clause-lists
returns-clause-lists g c = c.in_ok-unrolled.ensures.lists (λ f. false) no_flags

pub returns-clause-lean : goal.returns-clause-lean
returns-clause-lean g c = c.in_ok-unrolled.ensures.lean (λ f. false) no_flags

pub returns-clause-addresses : goal.returns-clause-addresses
returns-clause-addresses g c = frame_words c.in_ok-unrolled.unrolled c.in_ok-unrolled.ensures.addresses

-- what holds of the fault holds where it is handed on
handed_on : (g : given.Over) (c : goal.After-from_residual g) (P : PointsFault → Type 0) → P c.in_err-unrolled.field-0.0 → IfErr c.from_residual.result P
handed_on g c P more = search rules

pub returns-in_err-unrolled-clause-more : goal.returns-in_err-unrolled-clause-more
returns-in_err-unrolled-clause-more g c =
    let p : Program = program_of c.args.parts.now.program in
    handed_on g c (HasTooMany (parts_frame p c.args.parts.now) c.args.k c.args.max) (c.in_err-unrolled.ensures.more (λ f. false) no_flags)
