use Rattle.std.proofs.Common.{ap, ◌∙◌}
use Rattle.notes_lang.specs.Parsing.{layout_names}
use Rattle.notes_lang.proofs.Judged.{not_true}
use Rattle.links_lang.specs.Telling.{range_word}
use Rattle.links_lang.proofs.Told.{no_range, same_said, shares_said}
use Rattle.links_lang.proofs.lines.range_said.Goals as goal

pub returns-then-not-is_range-clause-told : goal.returns-then-not-is_range-clause-told
returns-then-not-is_range-clause-told c = λ first second.
    no_range (layout_names first) (layout_names second) c.in-Some.moment c.args.line c.args.word.now c.args.low c.args.high c.in-Some.ensures.some
    (not_true _ _ c.is_range.ensures c.if-not-is_range.true)

pub returns-in-Entry-clause-told : goal.returns-in-Entry-clause-told
returns-in-Entry-clause-told c = λ first second. (
  shares_said (layout_names first) (layout_names second) c.args.line c.args.word.now c.args.low c.args.high
      (c.in-Some.ensures.some ∙ ap range_word c.in-Entry.is),
  c.is_range.ensures.0 c.if-not-is_range.false,
)

pub returns-in-Exit-clause-told : goal.returns-in-Exit-clause-told
returns-in-Exit-clause-told c = λ first second. (
  same_said (layout_names first) (layout_names second) c.args.line c.args.word.now c.args.low c.args.high
      (c.in-Some.ensures.some ∙ ap range_word c.in-Exit.is),
  c.is_range.ensures.0 c.if-not-is_range.false,
)
