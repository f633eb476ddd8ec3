use Rattle.std.proofs.Common.{sym, ap, ◌∙◌}
use Rattle.std.proofs.lemmas.List.{length-map}
use Rattle.frame_texts_spec.specs.CallReplays.{rank_named}
use Rattle.notes_value.specs.FrameViews.{contract_of}
use Rattle.call_text.specs.Texts.{frame_name_of}
use Rattle.call_text.specs.declared.text.FrameName.{FrameName}
use Rattle.call_replay.specs.Readings.{whole_with}
use Rattle.call_replay.proofs.ranks.rank_of.Goals as goal

pub returns-in-Entry-clause-rank : goal.returns-in-Entry-clause-rank
returns-in-Entry-clause-rank c p =
    sym (length-map c.args.contracts.now contract_of)
    ∙ sym (ap (λ (f : FrameName). rank_named (whole_with p c.args.contracts.now) (frame_name_of f)) c.in-Entry.is)

pub returns-in-Contract-clause-rank : goal.returns-in-Contract-clause-rank
returns-in-Contract-clause-rank c p =
    c.rank_at.ensures.rank ∙ sym (ap (λ (f : FrameName). rank_named (whole_with p c.args.contracts.now) (frame_name_of f)) c.in-Contract.is)
