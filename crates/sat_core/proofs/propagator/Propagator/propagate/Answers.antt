use Rattle.sat_core.proofs.propagator.Propagator.propagate.Goals as goal

pub returns-clause-met : goal.returns-clause-met
returns-clause-met c = rw (c.deref.ensures.value, c.deref-2.ensures.value) at c.propagate.ensures.met
