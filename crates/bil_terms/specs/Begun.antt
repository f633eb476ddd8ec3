-- The beginning of a list.
use Rattle.std.specs.Prelude.{ℕ, List, None}
use Rattle.machine_spec.specs.BilMeaning.{Stuck}
use Rattle.machine_spec.specs.Simulation.{position}
use Rattle.term_spec.specs.Terms.{TermReading, TermNode}
use Rattle.walk_spec.specs.Unrolled.{Carried, state_at}
use Rattle.term_spec.specs.Passive.{Denotes}
use Rattle.term_dag.specs.Made.{Grew, InputsFrom}
use Rattle.term_names.specs.Views.{form_of, names_of}
use Rattle.term_names.specs.Chosen.{HaveSameTerms}
use Rattle.term_names.specs.declared.names.Names.{Names}
use Rattle.bil_terms.specs.declared.left.Begun.{Begun}
use Rattle.bil_terms.specs.Runs.{IsRun, AreBits, Stands}

-- Over names a run begins, for which three constants are made: under each reading it stands where a list begins in the state that the names denote.
pub record HasBegun (old new : List TermNode) (n : Names) (b : Begun) : Type 0 where
  pub grew : Grew old new 0 0 0 0 3
  pub inputs : InputsFrom old new (λ m. ⊥)
  pub same : HaveSameTerms n b.run.names
  pub run : IsRun new b.run
  pub bits : AreBits new b.bits
  pub stands : (x : TermReading) (c : Carried) → Denotes (form_of n) old x (names_of n) c → (at : ℕ) →
      Stands new x b.run (position (λ y w. Stuck) 0 None (state_at c at))
