use Rattle.std.proofs.Common.{subst}
use Rattle.std.specs.Option.{option_map}
use Rattle.frame_texts_spec.specs.CallTexts.{frame_name}
use Rattle.frame_text.specs.Readings.{IsRefusedAs, frame_fault_of, seen_head}
use Rattle.frame_text.specs.declared.fault.FramedFault.{FramedFault}
use Rattle.call_text.specs.Texts.{frame_name_of}
use Rattle.call_text.proofs.Reading.{refused_before}
use Rattle.call_text.proofs.reader.before_fault.Goals as goal

pub returns-in-Refused : goal.returns-in-Refused
returns-in-Refused c layout frames n told blocks same h =
    refused_before layout frames n told blocks (frame_name_of c.args.frame) c.in-Refused.seen.bytes.items (option_map seen_head c.in-Refused.seen.head)
    c.in-Refused.line (frame_fault_of c.in-Refused.kind) same
    (subst (λ (f : FramedFault). IsRefusedAs layout (frames (frame_name n)) told f) c.in-Refused.is h)
