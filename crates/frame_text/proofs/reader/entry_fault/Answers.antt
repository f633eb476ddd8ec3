use Rattle.std.proofs.Common.{subst}
use Rattle.state_text.specs.Readings.{IsRefusedBy, fault_of}
use Rattle.state_text.specs.declared.state_fault.ParseFault.{ParseFault}
use Rattle.frame_text.proofs.Behind.{mark_refused, plain_refused}
use Rattle.frame_text.proofs.reader.entry_fault.Goals as goal

pub returns-in-Refused-clause-plain : goal.returns-in-Refused-clause-plain
returns-in-Refused-clause-plain c layout tests n told h =
    plain_refused layout tests n told c.in-Refused.line (fault_of c.in-Refused.kind) c.in-Refused.bytes.items
    (subst (λ (f : ParseFault). IsRefusedBy tests.known layout told f) c.in-Refused.is h)

pub returns-in-Refused-clause-mark : goal.returns-in-Refused-clause-mark
returns-in-Refused-clause-mark c layout tests n place m rest told h =
    mark_refused layout tests n place m rest told c.in-Refused.line (fault_of c.in-Refused.kind) c.in-Refused.bytes.items
    (subst (λ (f : ParseFault). IsRefusedBy tests.known layout told f) c.in-Refused.is h)
