use Rattle.std.proofs.Common.{ap, ◌∙◌, ◌-◌, Some, refl, length, drop, take}
use Rattle.notes_spec.specs.NotesGrammar.{is_second, lines_of}
use Rattle.notes_lang.specs.Reading.{tokens_view}
use Rattle.notes_lang.proofs.FirstLines.{rest_is}
use Rattle.notes_lang.proofs.VersionLines.{told}
use Rattle.notes_lang.proofs.versions.is_second_text.Goals as goal

pub returns-in-Some : goal.returns-in-Some
returns-in-Some c =
    told (take (length c.args.text.now - c.loop-at.at) (drop c.loop-at.at c.args.text.now)) c.first_line.result.0.now c.first_line.result.1.now _
    (Some c.in-Some.is_second) c.in-Some.is_second c.first_line.ensures.lines (ap tokens_view c.deref.ensures.value ∙ c.in_ok-tokens.ensures)
    c.in-Some.ensures refl
    ∙ (ap (λ r. is_second (lines_of r)) (rest_is c.args.text.now c.loop-at.at) ∙ c.loop-at.invariant.left)
