use Rattle.std.proofs.Common.{arith, ℕ, ◌+◌, [], List, Option, ap, append-nil, map, subst, sym, ◌∙◌}
use Rattle.word_spec.specs.Texts.{split_lines}
use Rattle.machine_spec.specs.StateText.{Layout}
use Rattle.frame_spec.specs.FrameReports.{WrittenCall}
use Rattle.frame_texts_spec.specs.CallTexts.{BlocksAre, BlocksTold, Changes}
use Rattle.start_value.specs.Starts.{layout_of}
use Rattle.call_text.specs.Blocks.{IsBlocksRefused, next_told, told_from, whole_told}
use Rattle.state_text.specs.Starts.{written_call_of}
use Rattle.call_text.specs.Texts.{changes_at}
use Rattle.call_text.proofs.BlockLines.{whole_refused, whole_then}
use Rattle.call_text.proofs.calls.read_later.Goals as goal

pub returns-in-Err-clause-refused : goal.returns-in-Err-clause-refused
returns-in-Err-clause-refused c =
    let layout : Layout = layout_of c.args.layout in
    let changes : ℕ → Option Changes = changes_at c.args.contracts.now in
    let rest : List (List ℕ) = split_lines c.loop-next.next.rest.now in
    whole_refused (map written_call_of c.loop-next.calls.items) (next_told layout changes c.loop-next.least c.loop-next.next)
    (next_told layout changes 0 c.args.first) c.in-Err.fault c.loop-next.invariant.told
    (subst (λ (begins : Option (ℕ × ℕ)). IsBlocksRefused (told_from layout changes c.loop-next.least c.loop-next.next.line begins rest) c.in-Err.fault)
    (sym c.in-Some.is) c.in-Err.ensures.refused)

pub returns-in-Err-read_after-clause-refused : goal.returns-in-Err-read_after-clause-refused
returns-in-Err-read_after-clause-refused c =
    let layout : Layout = layout_of c.args.layout in
    let changes : ℕ → Option Changes = changes_at c.args.contracts.now in
    let rest : List (List ℕ) = split_lines c.loop-next.next.rest.now in
    whole_refused (map written_call_of c.loop-next.calls.items) (next_told layout changes c.loop-next.least c.loop-next.next)
    (next_told layout changes 0 c.args.first) c.in-Err-read_after.fault c.loop-next.invariant.told
    (subst
    (λ (begins : Option (ℕ × ℕ)). IsBlocksRefused (told_from layout changes c.loop-next.least c.loop-next.next.line begins rest) c.in-Err-read_after.fault)
    (sym c.in_default.is) (c.in-Err-read_after.ensures.refused changes))

pub returns-in-Ok-read_after-clause-told : goal.returns-in-Ok-read_after-clause-told
returns-in-Ok-read_after-clause-told c =
    let layout : Layout = layout_of c.args.layout in
    let changes : ℕ → Option Changes = changes_at c.args.contracts.now in
    let calls : List WrittenCall = map written_call_of c.loop-next.calls.items in
    let rest : List (List ℕ) = split_lines c.loop-next.next.rest.now in
    c.loop-next.invariant.told
    ∙ ap (λ (begins : Option (ℕ × ℕ)). whole_told calls (told_from layout changes c.loop-next.least c.loop-next.next.line begins rest)) c.in_default.is
    ∙ ap (whole_told calls) (c.in-Ok-read_after.ensures.told changes) ∙ ap (BlocksAre [] []) (append-nil calls)

pub loop-next-preserved : goal.loop-next-preserved
loop-next-preserved c = record {
  told =
      let layout : Layout = layout_of c.args.layout in
      let changes : ℕ → Option Changes = changes_at c.args.contracts.now in
      let calls : List WrittenCall = map written_call_of c.loop-next.calls.items in
      let rest : List (List ℕ) = split_lines c.loop-next.next.rest.now in
      let told : BlocksTold = next_told layout changes (c.in-Some.call.0 + 1) c.in-Ok.read.1 in
      c.loop-next.invariant.told
      ∙ ap (λ (begins : Option (ℕ × ℕ)). whole_told calls (told_from layout changes c.loop-next.least c.loop-next.next.line begins rest)) c.in-Some.is
      ∙ ap (whole_told calls) c.in-Ok.ensures.told
      ∙ whole_then calls (written_call_of c.in-Ok.read.0) told
      ∙ ap (λ (l : List WrittenCall). whole_told l told) (sym c.in_ok-add_call.ensures);
  room = omega (arith, c.in-Ok.ensures.room, c.loop-next.invariant.room);
}
