-- Programs that are the same with their exits as places: no point of one is that of the exit's place where none of the other is.
use Rattle.std.proofs.Common.{◌≡◌, sym, ap, subst, ◌∙◌, ◌+◌, ◌<◌, false, arith}
use Rattle.std.specs.Prelude.{length}
use Rattle.bilv_spec.specs.Points.{Point}
use Rattle.walk_spec.specs.Unrolled.{UnrolledPoint, UnrolledProgram, point_at}
use Rattle.pair_spec.specs.ExitPlaces.{HasOwnExit, is_exit_point}
use Rattle.pair_spec.specs.PairTerms.{with_exit_place}
use Rattle.pair_spec.proofs.ExitPlaces.{early, size}

pub own_as : (u v w : UnrolledProgram) → w ≡ with_exit_place u → w ≡ with_exit_place v → HasOwnExit u → HasOwnExit v
own_as u v w e f own i l =
    let placed : with_exit_place u ≡ with_exit_place v = sym e ∙ f in
    let sizes : length u.points + 1 ≡ length v.points + 1 = sym (size u) ∙ ap (λ (z : UnrolledProgram). length z.points) placed ∙ size v in
    let low : i < length u.points = omega (arith, sizes, l) in
    let same : (point_at u i).point ≡ (point_at v i).point =
    ap (λ (q : UnrolledPoint). q.point) (sym (early u i low) ∙ ap (λ (z : UnrolledProgram). point_at z i) placed ∙ early v i l) in
    subst (λ (q : Point). is_exit_point q ≡ false) same (own i low)
