-- The sides of an if before they are run.
use Rattle.std.specs.Prelude.{ℕ, List, []}
use Rattle.machine_spec.specs.Bil.{Expression}
use Rattle.term_spec.specs.Terms.{TermNode}
use Rattle.bil_terms.specs.declared.lists.Sides.{Sides}
use Rattle.bil_terms.specs.declared.run.Run.{Run}
use Rattle.bil_terms.specs.declared.stored.Stored.{Stored}
use Rattle.bil_terms.specs.Lowered.{IsWordTerm}
use Rattle.bil_terms.specs.Merged.{IsSide, IsSplit}

-- the condition has become a term, and a run enters the sides by its bits
pub record AreEntered (old new : List TermNode) (place : ℕ) (r : Run) (before after : List Stored) (e : Expression) (s : Sides) : Type 0 where
  pub middle : List TermNode
  pub condition : IsWordTerm old middle r.names [] place r.live.0 before after e s.condition.0
  pub split : IsSplit middle new s.condition.0 r.live.0 s.first.live.0 s.second.live.0
  pub first : IsSide r s.first.live.0 s.first
  pub second : IsSide r s.second.live.0 s.second
