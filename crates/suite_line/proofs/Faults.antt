-- What `clap` says of the program's line.
use Rattle.std.proofs.Common.{◌≡◌, true, refl}
use Rattle.clap.specs.Words.{is_simple, is_simple_and_free}
use Rattle.suite_line.specs.Requests.{suite_app}

-- the program is one of which the matches and the faults are known
pub is_simple_suite : is_simple_and_free suite_app ≡ true
unfolding suite_app
is_simple_suite = refl

pub is_simple_alone : is_simple suite_app ≡ true
unfolding suite_app
is_simple_alone = refl
