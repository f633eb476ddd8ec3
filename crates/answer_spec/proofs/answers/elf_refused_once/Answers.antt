use Rattle.answer_spec.proofs.AnswersOnce.{elf_refused_once}
use Rattle.answer_spec.proofs.answers.elf_refused_once.Goals as goal

pub returns : goal.returns
returns c = elf_refused_once
