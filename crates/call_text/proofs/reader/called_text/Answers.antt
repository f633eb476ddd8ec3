use Rattle.std.proofs.Common.{map}
use Rattle.frame_text.specs.Texts.{framed_text_of}
use Rattle.state_text.specs.Starts.{written_call_of}
use Rattle.call_text.specs.Texts.{called_ending_of}
use Rattle.call_text.proofs.Reading.{all_read}
use Rattle.call_text.proofs.reader.called_text.Goals as goal

pub returns : goal.returns
returns c layout frames told h =
    all_read layout frames (called_ending_of c.args.named) told (framed_text_of c.args.framed) h (map written_call_of c.args.calls.items)
