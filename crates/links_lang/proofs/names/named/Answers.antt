use Rattle.std.proofs.Common.{subst, sym}
use Rattle.notes_lang.specs.Parsing.{layout_names}
use Rattle.links_lang.specs.Naming.{IsMeaning}
use Rattle.links_lang.proofs.Tables.{of_form}
use Rattle.links_lang.proofs.names.named.Goals as goal

pub returns-in-Rv32-clause-form : goal.returns-in-Rv32-clause-form
returns-in-Rv32-clause-form c =
    of_form c.args.layout c.args.word.now c.find_rv.result
    (subst (λ l. IsMeaning (layout_names l c.args.word.now) c.find_rv.result) (sym c.in-Rv32.is) c.find_rv.ensures)

pub returns-in-Arm-clause-form : goal.returns-in-Arm-clause-form
returns-in-Arm-clause-form c =
    of_form c.args.layout c.args.word.now c.find_arm.result
    (subst (λ l. IsMeaning (layout_names l c.args.word.now) c.find_arm.result) (sym c.in-Arm.is) c.find_arm.ensures)
