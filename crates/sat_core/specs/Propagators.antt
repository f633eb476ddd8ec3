-- Clauses with their watches and a trail.
use Rattle.std.specs.Prelude.{length, vec_capacity}
use Rattle.sat_core.specs.declared.propagator.Propagator.{Propagator}
use Rattle.sat_core.specs.Trails.{IsTrail}
use Rattle.sat_core.specs.Moves.{AreReady}

-- the clauses can be propagated
pub record IsSound (p : Propagator) : Type 0 where
  pub ready : AreReady p.clauses.items p.watches.heads.items p.watches.links.items p.watches.owners.items p.short.items p.watches.watched.items
      (length p.trail.table.items)
  pub trail : IsTrail p.trail.table.items p.trail.steps.items (vec_capacity p.trail.steps)
