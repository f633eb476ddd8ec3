use Rattle.std.proofs.Common.{refl}
use Rattle.cnf_form.specs.Faults.{fault_of}
use Rattle.cnf_form.specs.Views.{cnf_of}
use Rattle.refutation_checker.specs.Answers.{refusal_of}
use Rattle.cnf_form.specs.Views.{lines_of}
use Rattle.bilv_top.proofs.Checked.{refused_by, checked_by}
use Rattle.bilv_top.proofs.certificate.judge.Goals as goal

pub returns-in-Err-Refused : goal.returns-in-Err-Refused
returns-in-Err-Refused c = (
  refused_by c.args.text.now c.cnf_fault_text.result.now c.in_ok-text-in-Err-Refused.text.items c.in-Err-Refused.line (fault_of c.in-Err-Refused.fault)
      c.requires (rw c.in-Err-Refused.field-0-is at c.in-Err-Refused.ensures.refused) c.cnf_fault_text.ensures c.in_ok-text-in-Err-Refused.ensures,
  refl,
)

pub returns : goal.returns
returns c = (
  checked_by c.args.text.now c.behind_lines.result.now c.in_ok-answer.answer.text.items (cnf_of c.in-Ok.read.0) c.in-Ok.read.1 c.in_ok-answer.answer.status
      (lines_of c.in_ok-log.log) (refusal_of c.in_ok-checked.checked) c.requires c.in-Ok.ensures.read c.behind_lines.ensures.lines c.in_ok-log.ensures
      c.in_ok-checked.ensures.exact c.in_ok-answer.ensures.status c.in_ok-answer.ensures.text,
  c.in_ok-answer.ensures.bare,
)
