use Rattle.std.proofs.Common.{◌≡◌, ℕ, ◌++◌, List, OnOk, ap, sym, subst, ◌∙◌, false}
use Rattle.word_spec.specs.Texts.{joined}
use Rattle.frame_spec.specs.Frames.{FrameEvent}
use Rattle.frame_texts_spec.specs.CallReplays.{call_found_words}
use Rattle.frame_texts_spec.specs.FrameTexts.{FramedFails}
use Rattle.call_text.specs.Texts.{frame_name_of}
use Rattle.table_run.specs.declared.ending.CalledEnding.{CalledEnding}
use Rattle.call_replay.specs.Found.{called_found}
use Rattle.call_replay.proofs.Found.{left_words, named_by}
use Rattle.call_replay.proofs.texts.push_found.Goals as goal

pub returns-in-Failed : goal.returns-in-Failed
returns-in-Failed c =
    let f = frame_name_of c.args.frame in
    subst (λ (ws : List (List ℕ)). OnOk c.push_called_ending.result (c.push_called_ending.new.out.items ≡ c.args.out.now.items ++ joined ws))
    (c.ended.ensures ∙ ap (λ (e : FrameEvent). named_by f c.args.called (FramedFails e c.in-Failed.at c.in-Failed.step)) c.framed-event.ensures
    ∙ sym (ap (λ (e : CalledEnding). call_found_words f c.args.called false c.args.k (called_found e)) c.in-Failed.is)) c.push_called_ending.ensures

pub returns-in-Turned : goal.returns-in-Turned
returns-in-Turned c =
    let f = frame_name_of c.args.frame in
    subst (λ (ws : List (List ℕ)). OnOk c.push_called_ending-in-Turned.result
    (c.push_called_ending-in-Turned.new.out.items ≡ c.args.out.now.items ++ joined ws))
    (c.ended-in-Turned.ensures ∙ sym (ap (λ (e : CalledEnding). call_found_words f c.args.called false c.args.k (called_found e)) c.in-Turned.is))
    c.push_called_ending-in-Turned.ensures

pub returns-in-Left : goal.returns-in-Left
returns-in-Left c =
    subst (λ (ws : List (List ℕ)). OnOk c.push_place-in-Left.result (c.push_place-in-Left.new.out.items ≡ c.args.out.now.items ++ joined ws))
    (left_words (frame_name_of c.args.frame) c.args.called c.args.k c.args.ending c.in-Left.at c.in-Left.step c.in-Left.is) c.push_place-in-Left.ensures
