use Rattle.std.proofs.Common.{subst}
use Rattle.std.specs.Option.{option_map}
use Rattle.frame_text.specs.Readings.{seen_head}
use Rattle.frame_text.specs.Texts.{framed_text_of}
use Rattle.call_text.specs.Blocks.{IsBlocksRefused, call_fault_of}
use Rattle.call_text.specs.Texts.{frame_name_of}
use Rattle.call_text.proofs.Reading.{refused_in_blocks}
use Rattle.call_text.proofs.reader.block_fault.Goals as goal

pub returns-in-Refused : goal.returns-in-Refused
returns-in-Refused c layout frames n told blocks same h refused =
    refused_in_blocks layout frames n told (framed_text_of c.args.framed) h blocks (frame_name_of c.args.frame) c.seen_of.result.bytes.items
    (option_map seen_head c.seen_of.result.head) c.in-Refused.line (call_fault_of c.in-Refused.kind) same
    (subst (IsBlocksRefused blocks) c.in-Refused.is refused) c.seen_of.ensures.bytes c.seen_of.ensures.head
