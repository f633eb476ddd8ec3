use Rattle.std.proofs.Common.{◌<◌, ◌^◌, take}
use Rattle.model_text.specs.Drafts.{AreFlags}
use Rattle.model_text.proofs.read.flags.Given as goal

abbrev pub invariant-loop-word : goal.invariant-loop-word
invariant-loop-word l = AreFlags (take l.word-index l.words) l.flags × (l.flags < 2 ^ l.word-index)
