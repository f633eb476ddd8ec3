-- A run that exits does so by one step, in one state.
use Rattle.std.proofs.Common.{◌≡◌, suc}
use Rattle.bilv_spec.specs.Run.{Exited}
use Rattle.bilv_spec.proofs.Over.{one_end}
use Rattle.pair_spec.specs.PairLaws.{RunHasExit, OneExit}
use Rattle.pair_spec.proofs.ExitStates.{exited_in, in_exited, one_state}

pub run_has_exit : RunHasExit
run_has_exit p k start at n = ((λ h. exited_in p k start h.0 at n h.1), (λ h. (suc n, in_exited p k start at n h.0 h.1)))

pub one_exit : OneExit
one_exit p k start at n b m s t x y =
    let same : Exited at n ≡ Exited b m =
    one_end p k start (suc n) (suc m) (Exited at n) (Exited b m) tt tt (in_exited p k start at n s x) (in_exited p k start b m t y) in
    let both = one_state p k start at n b m s t x y in
    (cc, both.0, both.1)
