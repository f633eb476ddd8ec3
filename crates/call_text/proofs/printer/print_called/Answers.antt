use Rattle.std.proofs.Common.{ℕ, Option, ap, ◌∙◌, ◌++◌, [], codes, map}
use Rattle.word_spec.specs.Texts.{joined, lines}
use Rattle.machine_spec.specs.StateText as texts
use Rattle.frame_texts_spec.specs.FrameTexts.{lines_of_parts}
use Rattle.frame_texts_spec.specs.CallTexts.{CallText, Changes, blocks, but_last, call_ending_words}
use Rattle.start_value.specs.Starts.{layout_of}
use Rattle.state_text.proofs.Appends.{five}
use Rattle.state_text.specs.Starts.{written_call_of}
use Rattle.call_text.specs.Texts.{called_text_of, changes_at}
use Rattle.call_text.proofs.Pieces.{whole_text}
use Rattle.call_text.proofs.printer.print_called.Goals as goal

pub returns : goal.returns
returns c =
    let layout : texts.Layout = layout_of c.args.layout in
    let changes : ℕ → Option Changes = changes_at c.args.contracts.now in
    let t : CallText = called_text_of c.args.text.now in
    five [] c.push_called_ending.new.out.items c.push_text.new.out.items c.push_open_parts.new.out.items c.push_calls.new.out.items c.push_text-2.new.out.items
    (joined (call_ending_words t.named)) (codes "\n") (lines (but_last (lines_of_parts layout t.start t.head)))
    (lines (blocks layout changes t.calls)) (codes "end\n")
    (c.in_ok-push_called_ending.ensures ∙ ap (λ l. l ++ joined (call_ending_words t.named)) c.new-out.ensures.items)
    c.in_ok-push_text.ensures c.in_ok-push_open_parts.ensures
    (c.in_ok-push_calls.ensures
    ∙ ap (λ calls. c.push_open_parts.new.out.items ++ lines (blocks layout changes (map written_call_of calls))) c.as_slice.ensures.value)
    c.in_ok-push_text-2.ensures
    ∙ whole_text layout changes t
