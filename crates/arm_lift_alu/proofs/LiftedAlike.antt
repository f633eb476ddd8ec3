-- The list of a row is one of the row that tells otherwise what it loads, or whether it links.
use Rattle.std.proofs.Common.{ℕ, Bool, Option}
use Rattle.word_spec.specs.State.{State}
use Rattle.machine_spec.specs.Machine.{Machine, Row}
use Rattle.machine_spec.specs.Bil.{Bank, Statements}
use Rattle.machine_spec.specs.MachineLaws.{IsLifting}

pub lifting_alike : (m : Machine) (bank : Bank) (row : Row) (at : ℕ) (list : Statements) (links : Bool) (loaded : State → Option (ℕ × ℕ)) →
    IsLifting m bank row at list → IsLifting m bank (record row { links = links; loaded = loaded }) at list
lifting_alike m bank row at list links loaded is = record {
  simulates = is.simulates;
  stored = is.stored;
  typed = is.typed;
  no_loop = is.no_loop;
  no_special = is.no_special;
  nests = is.nests;
  names = is.names;
  assigns = is.assigns;
  surely = is.surely;
  reads = is.reads;
  reads_first = is.reads_first;
  draws = is.draws;
  picks = is.picks;
  steady = is.steady;
  literal = is.literal;
  weight = is.weight;
  loads = is.loads;
  stores = is.stores;
}
