use Rattle.std.proofs.Common.{ap, ◌∙◌}
use Rattle.call_spec.specs.Calls.{Answer}
use Rattle.bilv_top.specs.Answers.{elf_text_of}
use Rattle.bilv_top.specs.Pairs.{with_word}
use Rattle.bilv_top.proofs.Refused.{elf_is_refused}
use Rattle.bilv_top.proofs.pair.open_elf.Goals as goal

pub returns-in_ok-answer-in-Err : goal.returns-in_ok-answer-in-Err
returns-in_ok-answer-in-Err c =
    let is = c.in_ok-refusal-in-Err.ensures in (
      elf_text_of c.in-Err.fault,
      elf_is_refused c.args.file.now c.in-Err.fault is.0 c.requires.short c.in-Err.ensures.refused,
      c.in_ok-answer-in-Err.ensures ∙ ap (λ (x : Answer). record x { text = with_word c.args.which x.text }) is.1,
    )
