use Rattle.std.proofs.Common.{ap, ◌∙◌}
use Rattle.notes_lang.specs.Parsing.{layout_names}
use Rattle.links_lang.specs.Telling.{names_word}
use Rattle.links_lang.specs.Views.{named_of}
use Rattle.links_lang.proofs.Told.{enters_said, leaves_said, names_form, none_said}
use Rattle.links_lang.proofs.lines.names_said.Goals as goal

pub returns-in_default-pair-clause-told : goal.returns-in_default-pair-clause-told
returns-in_default-pair-clause-told c =
    let a = c.args in (
      names_form c.in-Some.moment a.word.now a.left.now a.right.now c.in-Some.ensures.some,
      none_said (layout_names a.first) (layout_names a.second) a.line a.word.now a.left.now a.right.now c.in_default-pair.ensures.none,
    )

pub returns-in-Entry-clause-told : goal.returns-in-Entry-clause-told
returns-in-Entry-clause-told c =
    let a = c.args in (
      enters_said (layout_names a.first) (layout_names a.second) a.line a.word.now a.left.now a.right.now (named_of c.in-Some-pair.first)
          (named_of c.in-Some-pair.second) (c.in-Some.ensures.some ∙ ap names_word c.in-Entry.is) c.in-Some-pair.ensures.some,
      tt,
    )

pub returns-in-Exit-clause-told : goal.returns-in-Exit-clause-told
returns-in-Exit-clause-told c =
    let a = c.args in (
      leaves_said (layout_names a.first) (layout_names a.second) a.line a.word.now a.left.now a.right.now (named_of c.in-Some-pair.first)
          (named_of c.in-Some-pair.second) (c.in-Some.ensures.some ∙ ap names_word c.in-Exit.is) c.in-Some-pair.ensures.some,
      tt,
    )
