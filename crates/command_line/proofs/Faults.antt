-- What `clap` says of the program's line.
use Rattle.std.proofs.Common.{◌≡◌, [], ◌∷◌, true, false, arith, length, refl}
use Rattle.std.proofs.lemmas.Bool.{ne_eqb}
use Rattle.clap.specs.Words.{IsAmong, Kinds, is_simple, is_simple_and_free}
use Rattle.clap.specs.Walk.{is_empty}
use Rattle.clap.specs.declared.error.kind.ErrorKind.{ErrorKind}
use Rattle.command_line.specs.Lines.{bilv_app}

-- the program is one of which the matches and the faults are known
pub is_simple_bilv : is_simple_and_free bilv_app ≡ true
unfolding bilv_app
is_simple_bilv = refl

pub is_simple_alone : is_simple bilv_app ≡ true
unfolding bilv_app
is_simple_alone = refl

-- a kind that may come is no empty list's
pub some_fault : (k : ErrorKind) (kinds : Kinds) → IsAmong k kinds → is_empty kinds ≡ false
some_fault k [] h = absurd h
some_fault k (x ∷ xs) h = ne_eqb (length (x ∷ xs)) 0 (λ e. omega arith)
