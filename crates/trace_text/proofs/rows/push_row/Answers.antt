use Rattle.std.proofs.Common.{◌≡◌, ◌++◌, ◌∷◌, refl, ap, subst, ◌∙◌}
use Rattle.word_spec.specs.Words.{add}
use Rattle.word_spec.specs.Memory.{number}
use Rattle.machine_spec.specs.Machine.{first_half, offsets, taken, width}
use Rattle.bilv_spec.specs.Elf.{loaded}
use Rattle.bilv_spec.specs.Points.{byte_of_cell}
use Rattle.trace_texts_spec.specs.StepLines.{IsMeaning, bytes_in_line, row_bytes, word_of_file}
use Rattle.trace_text.proofs.Growing.{blank_pieces}
use Rattle.trace_text.proofs.rows.push_row.Goals as goal

pub returns : goal.returns
returns g c =
    let m = g.M.Machine.machine in
    let file = c.args.image.now in
    let at = c.args.at in
    let a = c.in_ok-push_meaning.ensures in
    let word : c.taken-word.result ≡ word_of_file m file at =
    c.taken-word.ensures ∙ ap (taken m.narrow) (c.file_word.ensures ∙ ap (λ e. number e 4 (λ i. byte_of_cell (loaded file (add 32 at i)))) c.requires.order) in (
      32 ∷ row_bytes m file at ++ 32 ∷ a.0,
      (a.0, subst (λ w. IsMeaning m g.M.Machine.bank (m.row w) at a.0) word a.1, refl),
      blank_pieces c.args.out.now.items (row_bytes m file at) a.0 _ _ _ _ c.in_ok-push.ensures.items
          (c.in_ok-push_row_bytes.ensures ∙ ap (λ n. c.push.new.self.items ++ bytes_in_line file at (offsets n))
          (c.length.ensures.is ∙ ap (λ w. width m.narrow (first_half w)) word))
          c.in_ok-push-2.ensures.items a.2,
    )
