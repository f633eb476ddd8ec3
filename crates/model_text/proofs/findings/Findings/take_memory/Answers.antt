use Rattle.std.proofs.Common.{Some, refl}
use Rattle.model_text.proofs.GivenWords.{memory_new, memory_again}
use Rattle.model_text.proofs.findings.Findings.take_memory.Goals as goal

pub returns-then-is_none : goal.returns-then-is_none
returns-then-is_none c = λ layout count kept ds sort v is h. memory_new layout count kept ds sort v c.args.self.now (record c.args.self.now {
  memory = Some
      c.args.stored;
}) c.args.stored h (c.if-is_none.ensures) is refl refl refl

pub returns-else-is_none : goal.returns-else-is_none
returns-else-is_none c = λ layout count kept ds sort v is h. memory_again layout count kept ds sort v c.args.self.now h (c.if-is_none.ensures)
