-- A frame that steps over no contract is the frame of a program with invariants.
use Rattle.std.proofs.Common.{◌≡◌, ℕ, subst, true, None, List, [], map}
use Rattle.bilv_spec.specs.Run.{Program}
use Rattle.frame_spec.specs.Frames.{Frame}
use Rattle.frame_spec.specs.FrameUnrolling.{IsUnrolling}
use Rattle.frame_spec.specs.FrameWalk.{UnrolledProgram}
use Rattle.notes_value.specs.declared.notes.Contract.{Contract}
use Rattle.notes_value.specs.FrameViews.{contract_of}
use Rattle.program_points.specs.Listed.{HasTooMany}
use Rattle.program_points.specs.declared.values.PointsFault.{PointsFault}
use Rattle.unroller.specs.Asking.{frame_of}

module _ (p : Program) (invariants : List ℕ) (stepped contracts : List Contract) (a : stepped ≡ []) (b : contracts ≡ []) where
  abbrev with_contracts : List Contract → Frame
  with_contracts l = record { program = p; invariants = invariants; cuts = true; stepped = map contract_of l; own = None }

  pub as_plain : (k : ℕ) (u : UnrolledProgram) → IsUnrolling (with_contracts stepped) (map contract_of contracts) k u → IsUnrolling (frame_of p invariants) [] k u
  as_plain k u h =
      subst (λ (l : List Contract). IsUnrolling (with_contracts []) (map contract_of l) k u) b
      (subst (λ (l : List Contract). IsUnrolling (with_contracts l) (map contract_of contracts) k u) a h)

  pub plain_many : (k max : ℕ) (fault : PointsFault) → HasTooMany (with_contracts stepped) k max fault → HasTooMany (frame_of p invariants) k max fault
  plain_many k max fault h = subst (λ (l : List Contract). HasTooMany (with_contracts l) k max fault) a h
