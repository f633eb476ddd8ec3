use Rattle.bilv_spec.proofs.EntryOnce.{one_entry_fault}
use Rattle.answer_spec.proofs.answers.one_entry_fault.Goals as goal

pub returns : goal.returns
returns c = one_entry_fault
