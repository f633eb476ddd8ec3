-- What `clap` says of the program's line.
use Rattle.std.proofs.Common.{◌≡◌, true, refl}
use Rattle.clap.specs.Words.{is_simple, is_simple_and_free}
use Rattle.cnf_solver.specs.Requests.{solve_app}

-- the program is one of which the matches and the faults are known
pub is_simple_solve : is_simple_and_free solve_app ≡ true
unfolding solve_app
is_simple_solve = refl

pub is_simple_alone : is_simple solve_app ≡ true
unfolding solve_app
is_simple_alone = refl
