use Rattle.std.proofs.Common.{ap, sym, ◌∙◌, arith}
use Rattle.frame_spec.specs.Frames.{Contract}
use Rattle.frame_start.proofs.ChangedSets.{flags_are, registers_are, stepped_in, stepped_out}
use Rattle.frame_start.proofs.changed.changed_by.Goals as goal

pub returns-then-number-stepped-clause-registers : goal.returns-then-number-stepped-clause-registers
returns-then-number-stepped-clause-registers c =
    ap (λ (x : Contract). x.registers) (stepped_in c.args.stepped.now c.args.number _ (omega arith)) ∙ sym (registers_are _)

pub returns-then-number-stepped-clause-flags : goal.returns-then-number-stepped-clause-flags
returns-then-number-stepped-clause-flags c =
    ap (λ (x : Contract). x.flags) (stepped_in c.args.stepped.now c.args.number _ (omega arith)) ∙ sym (flags_are _)

pub returns-else-number-stepped-clause-registers : goal.returns-else-number-stepped-clause-registers
returns-else-number-stepped-clause-registers c =
    ap (λ (x : Contract). x.registers) (stepped_out c.args.stepped.now c.args.number (omega arith)) ∙ sym (registers_are _)

pub returns-else-number-stepped-clause-flags : goal.returns-else-number-stepped-clause-flags
returns-else-number-stepped-clause-flags c =
    ap (λ (x : Contract). x.flags) (stepped_out c.args.stepped.now c.args.number (omega arith)) ∙ sym (flags_are _)
