-- The list of a row that is no call is a lifting of the row with 2 bytes too.
use Rattle.std.proofs.Common.{◌≡◌, ℕ, refl, ◌∙◌}
use Rattle.word_spec.specs.State.{State}
use Rattle.machine_spec.specs.Machine.{How, On, Direct, DirectCall, Indirect, IndirectCall, Outcome, Goes, Raises, Row, Machine}
use Rattle.machine_spec.specs.Bil.{Bank, Statements}
use Rattle.machine_spec.specs.Simulation.{Locals, of_row}
use Rattle.machine_spec.specs.MachineLaws.{IfGoes, IsLifting}
use Rattle.machine_spec.specs.RvShort.{shortened, short_row}

-- how a row goes on that is no call
abbrev pub IsNoCall : How → Type 0
IsNoCall DirectCall = ⊥
IsNoCall IndirectCall = ⊥
IsNoCall how = Unit {0}

-- a row that is never a call
abbrev pub CallsNever : Row → Type 0
CallsNever row = (s : State) (c : ℕ) → IfGoes (row.effect s c) (λ how new. IsNoCall how)

same : (l : Locals) (turns : ℕ) (s : State) (o : Outcome) → IfGoes o (λ how new. IsNoCall how) → of_row l turns o ≡ of_row l turns (shortened s o)
same l turns s (Goes On new) h = refl
same l turns s (Goes Direct new) h = refl
same l turns s (Goes DirectCall new) h = absurd h
same l turns s (Goes Indirect new) h = refl
same l turns s (Goes IndirectCall new) h = absurd h
same l turns s (Raises e) h = refl

pub short_lifting : (m : Machine) (bank : Bank) (row : Row) (at : ℕ) (list : Statements) → CallsNever row → IsLifting m bank row at list →
    IsLifting m bank (short_row row) at list
short_lifting m bank row at list never is = record {
  simulates = λ s ok here c turns few l. is.simulates s ok here c turns few l ∙ same l turns s (row.effect s c) (never s c);
  stored = is.stored;
  typed = is.typed;
  no_loop = is.no_loop;
  no_special = is.no_special;
  nests = is.nests;
  names = is.names;
  assigns = is.assigns;
  surely = is.surely;
  reads = is.reads;
  reads_first = is.reads_first;
  draws = is.draws;
  picks = is.picks;
  steady = is.steady;
  literal = is.literal;
  weight = is.weight;
  loads = is.loads;
  stores = is.stores;
}
