-- What reports over frames say of runs of the tables.
use Rattle.std.proofs.Common.{◌≡◌, ℕ, zero, suc, ◌<◌, refl, subst, arith, List, [], ◌∷◌, length, Some}
use Rattle.std.specs.Prelude.{slice_get}
use Rattle.frame_spec.specs.Frames.{Contract}
use Rattle.frame_spec.specs.FrameVerdict.{Whole, Passes, ContractsPass, frame_by, entry_frame}
use Rattle.frame_spec.specs.FrameReports.{PassedBy, Frames, ShownBy, SpentOn, Count, PassBelow, last_rank}
use Rattle.frame_spec.specs.ReportLaws.{HoldsMeans, PartialMeans}
use Rattle.frame_spec.proofs.Contracts.{frames_hold}
use Rattle.frame_spec.proofs.Partial.{partial_never_fails}

within : (l : List Contract) (i : ℕ) (x : Contract) → slice_get l i ≡ Some x → i < length l
within [] i x h = absurd (cc)
within (y ∷ l) zero x h = omega arith
within (y ∷ l) (suc i) x h = let n = within l i x h in omega arith

none_to_pass : (w : Whole) (k : ℕ) → w.contracts ≡ [] → ContractsPass w k
none_to_pass w k none rank x h = absurd (let c : slice_get [] rank ≡ Some x = subst (λ z. slice_get z rank ≡ Some x) none h in cc)

all_pass : (w : Whole) (k : ℕ) → PassBelow w k (last_rank w) → ContractsPass w k
all_pass w k pass rank x h = subst (λ z. Passes (frame_by w rank z) k) h (pass rank (within w.contracts rank x h))

pub holds_means : HoldsMeans
holds_means w con layout b (PassedBy e) r start is = frames_hold w con b.unroll (none_to_pass w b.unroll r.1) r.2 start is
holds_means w con layout b (Frames list) r start is = frames_hold w con b.unroll (all_pass w b.unroll r.2) r.3 start is
holds_means w con layout b (ShownBy s) r start is = absurd r
holds_means w con layout b (SpentOn rank kind proof) r start is = absurd r
holds_means w con layout b (Count n) r start is = absurd r

pub partial_means : PartialMeans
partial_means w lawful memory layout b (PassedBy e) r start is bound =
    partial_never_fails (entry_frame w) lawful memory r.1 refl b.unroll r.2 start is bound
partial_means w lawful memory layout b (Frames list) r start is bound = absurd r
partial_means w lawful memory layout b (ShownBy s) r start is bound = absurd r
partial_means w lawful memory layout b (SpentOn rank kind proof) r start is bound = absurd r
partial_means w lawful memory layout b (Count n) r start is bound = absurd r
