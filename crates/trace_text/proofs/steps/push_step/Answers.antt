use Rattle.std.proofs.Common.{◌++◌, refl, ap, ◌∙◌}
use Rattle.word_spec.specs.Texts.{line}
use Rattle.trace_texts_spec.specs.Names.{names_of}
use Rattle.trace_texts_spec.specs.StepLines.{changes_text, head_text}
use Rattle.seen_step.specs.Views.{seen_of}
use Rattle.trace_text.specs.Appending.{near_in}
use Rattle.trace_text.proofs.Growing.{line_pieces}
use Rattle.trace_text.proofs.steps.push_step.Goals as goal

pub returns : goal.returns
returns g c =
    let s = seen_of c.args.step.now in
    let head = head_text (near_in c.args.symbols.now s.at) s in
    let k = c.in_ok-push_kind.ensures in
    let changes = changes_text (names_of g.M.Machine.form) s in (
      line (head ++ k.0 ++ changes),
      (k.0, k.1, refl),
      line_pieces c.args.out.now.items head k.0 changes _ _ _ _ c.in_ok-push_head.ensures k.2
          (c.in_ok-push_changes.ensures ∙ ap (λ f. c.push_kind.new.out.items ++ changes_text (names_of f) s) c.layout.ensures)
          c.in_ok-push_text.ensures,
    )
