-- Trials: literals are made false, and taken back.
use Rattle.std.specs.Prelude.{◌≡◌, ◌++◌, Bool, true, false, ◌||◌, List, [], length}
use Rattle.clause_spec.specs.Clauses.{Literal, Clause, same, opposite, has}
use Rattle.clause_spec.specs.UnitPropagation.{Includes}
use Rattle.sat_core.specs.declared.propagator.Propagator.{Propagator}
use Rattle.sat_core.specs.declared.trail.Step.{Step}
use Rattle.sat_core.specs.ClosedSets.{IsQuiet}
use Rattle.sat_core.specs.Tables.{true_in}
use Rattle.sat_core.specs.Links.{AreKept}
use Rattle.sat_core.specs.Propagators.{IsSound}

-- propagation has nothing to do
pub record IsCalm (p : Propagator) : Type 0 where
  pub kept : AreKept p.watches.watched.items [] (true_in p.trail.table.items) (true_in p.trail.table.items)
  pub quiet : IsQuiet p.clauses.items (true_in p.trail.table.items)

-- more steps over the same clauses; what was kept of all that was true before is kept
pub record IsLater (old new : Propagator) : Type 0 where
  pub sound : IsSound new
  pub clauses : new.clauses ≡ old.clauses
  pub size : length new.trail.table.items ≡ length old.trail.table.items
  pub more : List Step
  pub steps : new.trail.steps.items ≡ old.trail.steps.items ++ more
  pub cuts : (done holds : Literal → Bool) → Includes done (true_in old.trail.table.items) → Includes holds (true_in old.trail.table.items) →
      AreKept old.watches.watched.items [] done holds → AreKept new.watches.watched.items [] done holds

-- the negations of a clause's literals too
abbrev pub also : (Literal → Bool) → Clause → Literal → Bool
also given c m = given m || has c (opposite m)

-- in some set that includes the literals given, propagation has nothing to do, and all literals of the clause but this one are false
pub record IsTestedAt (cs : List Clause) (given : Literal → Bool) (c : Clause) (l : Literal) : Type 0 where
  pub holds : Literal → Bool
  pub quiet : IsQuiet cs holds
  pub included : Includes given holds
  pub denied : (m : Literal) → has c m ≡ true → same l m ≡ false → holds (opposite m) ≡ true

abbrev pub AreTested : List Clause → (Literal → Bool) → Clause → Type 0
AreTested cs given c = (l : Literal) → has c l ≡ true → IsTestedAt cs given c l
