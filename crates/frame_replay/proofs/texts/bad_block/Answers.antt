use Rattle.std.proofs.Common.{◌≡◌, IfOk, ap, subst}
use Rattle.word_spec.specs.Texts.{number_text}
use Rattle.call_spec.specs.Calls.{Answer, plain_answer}
use Rattle.frame_replay.proofs.Replayed.{block_text}
use Rattle.frame_replay.proofs.texts.bad_block.Goals as goal

pub returns : goal.returns
returns c w layout =
    subst (λ (a : Answer). IfOk c.numbered.result (λ r. plain_answer r.status r.text.items ≡ a))
    (ap (plain_answer 9) (block_text (number_text c.args.line))) c.numbered.ensures
