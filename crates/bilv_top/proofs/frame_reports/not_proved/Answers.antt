use Rattle.std.proofs.Common.{◌∙◌, ap, map, sym, List}
use Rattle.std.specs.Option.{option_map}
use Rattle.call_spec.specs.Calls.{WithCalls}
use Rattle.frame_spec.specs.Frames.{Contract, contract_at}
use Rattle.frame_texts_spec.specs.CallReplays.{changes_of}
use Rattle.frame_texts_spec.specs.CallTexts.{call_printed}
use Rattle.call_replay.specs.Readings.{changes_in}
use Rattle.call_replay.proofs.Changes.{changes_whole}
use Rattle.call_text.specs.Texts.{called_ending_of, called_text_of}
use Rattle.start_value.specs.Starts.{layout_of, written_of}
use Rattle.state_text.specs.Starts.{written_call_of, written_head_of}
use Rattle.bilv_top.proofs.frame_reports.not_proved.Goals as goal

pub returns : goal.returns
returns c w same headless =
    let form = layout_of c.args.form in
    let t = c.args.shown in
    let changes = changes_whole w c.deref.result.now c.in_ok-changes.changes.items c.deref.ensures.value
    (λ a. c.in_ok-changes.ensures a ∙ ap (λ (cs : List Contract). option_map changes_in (contract_at cs a)) (sym same)) in
    ap (λ text. record {
      status = c.args.status;
      text = text;
      evidence = WithCalls c.args.rank (written_of t.start) (map written_call_of t.calls.items);
    })
    (c.in_ok-text.ensures ∙ ap (λ f. call_printed form f (called_text_of t)) changes
    ∙ ap (λ h. call_printed form (changes_of w) (record {
      named = called_ending_of t.named;
      start = written_of t.start;
      head = option_map written_head_of h;
      calls = map written_call_of t.calls.items;
    })) headless)
