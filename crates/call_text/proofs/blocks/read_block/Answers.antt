use Rattle.std.proofs.Common.{ℕ, ◌+◌, ◌++◌, ◌∷◌, [], drop, ap, append_assoc, subst, sym, ◌∙◌, arith, List}
use Rattle.std.specs.Option.{option_map}
use Rattle.word_spec.specs.Texts.{split_lines}
use Rattle.machine_spec.specs.StateText as starts
use Rattle.frame_texts_spec.specs.CallTexts.{BlocksTold, InBlocks, blocks_told}
use Rattle.start_value.specs.Starts.{layout_of}
use Rattle.call_text.specs.Lines.{block_said}
use Rattle.frame_texts_spec.proofs.BlocksBack.{AllFit}
use Rattle.call_text.specs.Blocks.{IsDue, prepended}
use Rattle.call_text.proofs.BlockLines.{act_told, byte_prepended, line_told, value_prepended}
use Rattle.call_text.proofs.Values.{all_fit, value_fits}
use Rattle.call_text.proofs.blocks.read_block.Goals as goal

pub returns-in-Err-clause-refused : goal.returns-in-Err-clause-refused
returns-in-Err-clause-refused c changes step =
    let layout : starts.Layout = layout_of c.args.layout in
    c.loop-due.invariant.told changes step
    ∙ ap (prepended c.loop-due.values.items c.loop-due.bytes.items)
    (line_told layout changes c.loop-due.n step c.loop-due.due.now c.loop-due.byte c.first_line.result.0.now (split_lines c.first_line.result.1.now)
    (split_lines c.loop-due.rest.now) (option_map block_said c.in_ok-said.said) _ c.first_line.ensures.line c.in_ok-said.ensures
    (c.in-Err.ensures.refused layout changes c.loop-due.n step _))

pub loop-due-preserved-in-Value : goal.loop-due-preserved-in-Value
loop-due-preserved-in-Value c = record {
  told = λ changes step.
      let layout : starts.Layout = layout_of c.args.layout in
      let bytes : List (ℕ × ℕ) = c.loop-due.bytes.items in
      let told : List ℕ → BlocksTold =
      λ due. blocks_told layout changes (InBlocks step due c.loop-due.byte) (c.loop-due.n + 1) (split_lines c.first_line.result.1.now) in
      c.loop-due.invariant.told changes step
      ∙ ap (prepended c.loop-due.values.items c.loop-due.bytes.items)
      (act_told layout changes c.loop-due.n step c.loop-due.due.now c.loop-due.byte c.first_line.result.0.now (split_lines c.first_line.result.1.now)
      (split_lines c.loop-due.rest.now) (option_map block_said c.in_ok-said.said) c.in-Ok.act _ c.first_line.ensures.line c.in_ok-said.ensures
      (c.in-Ok.ensures.acts layout changes c.loop-due.n step
      (λ next. blocks_told layout changes next (c.loop-due.n + 1) (split_lines c.first_line.result.1.now))) c.in-Value.is)
      ∙ value_prepended c.loop-due.values.items bytes c.in-Value.value (told (drop 1 c.loop-due.due.now))
      ∙ ap (λ l. prepended l bytes (told (drop 1 c.loop-due.due.now))) (sym c.in_ok-add_value-in-Value.ensures)
      ∙ ap (λ due. prepended c.add_value.new.values.items bytes (told due)) (sym c.after_first-due.ensures);
  fit = λ more fit.
      subst (λ (values : List ℕ). AllFit (layout_of c.args.layout) c.args.places.now (values ++ more)) (sym c.in_ok-add_value-in-Value.ensures)
      (subst (AllFit (layout_of c.args.layout) c.args.places.now) (sym (append_assoc c.loop-due.values.items (c.in-Value.value ∷ []) more))
      (c.loop-due.invariant.fit (c.in-Value.value ∷ more)
      (value_fits (layout_of c.args.layout) c.first_line.result.0.now (option_map block_said c.in_ok-said.said) c.loop-due.due.now c.in-Value.value more
      (subst (IsDue (option_map block_said c.in_ok-said.said) c.loop-due.due.now) c.in-Value.is c.in-Ok.ensures.due) c.in_ok-said.ensures
      (subst (λ (due : List ℕ). AllFit (layout_of c.args.layout) due more) c.after_first-due.ensures fit))));
  room = omega (arith, c.first_line.ensures.shorter, c.loop-due.invariant.room);
  shorter = omega (arith, c.first_line.ensures.shorter, c.loop-due.invariant.shorter);
}

pub loop-due-preserved : goal.loop-due-preserved
loop-due-preserved c = record {
  told = λ changes step.
      let layout : starts.Layout = layout_of c.args.layout in
      let told : BlocksTold =
      blocks_told layout changes (InBlocks step c.loop-due.due.now (c.in-Byte.at + 1)) (c.loop-due.n + 1) (split_lines c.first_line.result.1.now) in
      c.loop-due.invariant.told changes step
      ∙ ap (prepended c.loop-due.values.items c.loop-due.bytes.items)
      (act_told layout changes c.loop-due.n step c.loop-due.due.now c.loop-due.byte c.first_line.result.0.now (split_lines c.first_line.result.1.now)
      (split_lines c.loop-due.rest.now) (option_map block_said c.in_ok-said.said) c.in-Ok.act _ c.first_line.ensures.line c.in_ok-said.ensures
      (c.in-Ok.ensures.acts layout changes c.loop-due.n step
      (λ next. blocks_told layout changes next (c.loop-due.n + 1) (split_lines c.first_line.result.1.now))) c.in-Byte.is)
      ∙ byte_prepended c.loop-due.values.items c.loop-due.bytes.items c.in-Byte.at c.in-Byte.value told
      ∙ ap (λ l. prepended c.loop-due.values.items l told) (sym c.in_ok-add_byte-in-Byte.ensures);
  fit = c.loop-due.invariant.fit;
  room = omega (arith, c.first_line.ensures.shorter, c.loop-due.invariant.room);
  shorter = omega (arith, c.first_line.ensures.shorter, c.loop-due.invariant.shorter);
}

pub returns-in-Closes-clause-told : goal.returns-in-Closes-clause-told
returns-in-Closes-clause-told c changes step =
    let layout : starts.Layout = layout_of c.args.layout in
    c.loop-due.invariant.told changes step
    ∙ ap (prepended c.loop-due.values.items c.loop-due.bytes.items)
    (act_told layout changes c.loop-due.n step c.loop-due.due.now c.loop-due.byte c.first_line.result.0.now (split_lines c.first_line.result.1.now)
    (split_lines c.loop-due.rest.now) (option_map block_said c.in_ok-said.said) c.in-Ok.act _ c.first_line.ensures.line c.in_ok-said.ensures
    (c.in-Ok.ensures.acts layout changes c.loop-due.n step
    (λ next. blocks_told layout changes next (c.loop-due.n + 1) (split_lines c.first_line.result.1.now))) c.in-Closes.is)

pub returns-in-Closes-clause-fit : goal.returns-in-Closes-clause-fit
returns-in-Closes-clause-fit c =
    all_fit (layout_of c.args.layout) c.loop-due.due.now c.args.places.now c.loop-due.values.items
    (subst (IsDue (option_map block_said c.in_ok-said.said) c.loop-due.due.now) c.in-Closes.is c.in-Ok.ensures.due) c.loop-due.invariant.fit
