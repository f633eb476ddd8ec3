use Rattle.std.proofs.Common.{map}
use Rattle.std.specs.Option.{option_map}
use Rattle.frame_text.specs.Texts.{framed_ending_of, framed_event_of}
use Rattle.call_text.proofs.EndingWords.{event_said, no_event_said}
use Rattle.call_text.proofs.ending.after_frame.Goals as goal

pub returns-in-Some : goal.returns-in-Some
returns-in-Some c = event_said (map (λ word. word.now) c.args.words.now) (framed_event_of c.in-Some.event) c.in-Some.at c.in-Some.step c.in-Some.ensures

pub returns : goal.returns
returns c = no_event_said (map (λ word. word.now) c.args.words.now) (option_map framed_ending_of c.turns_in.result) c.in_default.ensures c.turns_in.ensures
