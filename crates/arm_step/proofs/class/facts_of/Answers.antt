use Rattle.std.proofs.Common.{◌∙◌, ap, sym, subst}
use Rattle.machine_law.specs.Facts.{IsFlagUse}
use Rattle.arm_decode.specs.declared.insn.Insn.{Insn}
use Rattle.arm_decode.specs.Insns.{row_of}
use Rattle.arm_step.proofs.class.facts_of.Goals as goal

pub returns-clause-successors : goal.returns-clause-successors
returns-clause-successors g c = λ e. c.facts.ensures.successors e ∙ ap (λ (i : Insn). (row_of e i).successors c.args.at) (sym c.requires)

pub returns-clause-literal : goal.returns-clause-literal
returns-clause-literal g c = λ e. c.facts.ensures.literal e ∙ ap (λ (i : Insn). (row_of e i).literal c.args.at) (sym c.requires)

pub returns-clause-cost : goal.returns-clause-cost
returns-clause-cost g c = λ e. c.facts.ensures.cost e ∙ ap (λ (i : Insn). (row_of e i).cost) (sym c.requires)

pub returns-clause-flags : goal.returns-clause-flags
returns-clause-flags g c = λ e. subst (λ (i : Insn). IsFlagUse c.facts.result.flags (row_of e i).flags) (sym c.requires) (c.facts.ensures.flags e)

pub returns-clause-draws : goal.returns-clause-draws
returns-clause-draws g c = λ e. c.facts.ensures.draws e ∙ ap (λ (i : Insn). (row_of e i).draws) (sym c.requires)
