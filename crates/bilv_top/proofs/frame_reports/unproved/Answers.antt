use Rattle.std.proofs.Common.{ℕ, ap, refl, sym}
use Rattle.frame_texts_spec.specs.CallTexts.{UnprovedTurns}
use Rattle.call_text.specs.Texts.{frame_name_of}
use Rattle.bilv_top.proofs.frame_reports.unproved.Goals as goal

pub returns-in-Failed : goal.returns-in-Failed
returns-in-Failed c b same = rw c.in-Failed.is refl

pub returns-in-Turned : goal.returns-in-Turned
returns-in-Turned c b same =
    rw c.in-Turned.is (ap (λ (k : ℕ). UnprovedTurns (frame_name_of c.args.frame) k c.in-Turned.at c.in-Turned.step) (sym same))
