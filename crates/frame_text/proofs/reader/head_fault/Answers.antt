use Rattle.std.proofs.Common.{Some, ap, ◌∙◌, subst}
use Rattle.machine_spec.specs.StateText.{StateRefused}
use Rattle.state_text.specs.Readings.{IsRefusedBy, fault_of}
use Rattle.state_text.specs.declared.state_fault.ParseFault.{ParseFault}
use Rattle.frame_text.specs.Readings.{framed_but}
use Rattle.frame_text.proofs.Tests.{begun_through, registers_fault}
use Rattle.frame_text.proofs.reader.head_fault.Goals as goal

pub returns-in-Refused : goal.returns-in-Refused
returns-in-Refused c layout tests n w closed told place h =
    begun_through layout tests c.args.bytes.items n w c.args.at c.args.stack.items c.args.before closed c.in-Refused.others.items told
    (StateRefused c.in-Refused.line (fault_of c.in-Refused.kind)) place
    (subst (λ (f : ParseFault). IsRefusedBy tests.kept layout told f) c.in-Refused.is h)
    ∙ ap
    (framed_but layout tests c.args.bytes.items
    (Some (record { at = c.args.at; stack = c.args.stack.items; bytes = c.in-Refused.others.items })))
    (registers_fault n w c.args.at c.args.stack.items c.args.before closed c.in-Refused.line (fault_of c.in-Refused.kind))
