use Rattle.clause_spec.specs.Clauses.{valuation}
use Rattle.frame_start.proofs.PartInputs.{register_is, flag_is, byte_is}
use Rattle.frame_start.proofs.inputs.part_inputs.Goals as goal

pub returns-clause-inputs : goal.returns-clause-inputs
returns-clause-inputs c x range at =
    let v = valuation c.args.values.now in
    let p = c.args.places.now in
    record {
      regs = λ n has low high. register_is v x p c.args.part range at c.first_of-first.result n _ c.first_of-first.ensures has low high
          (c.in_ok-registers.ensures n low high);
      flags = λ f has l. flag_is v x p c.args.part range at c.first_flag_of.result f _ c.first_flag_of.ensures has l (c.in_ok-flags.ensures f l);
      base = λ j k l read. byte_is v x p c.args.part range at j k _ read (c.in_ok-base.ensures.each j l);
    }
