-- Answers, as the definitions have them.
use Rattle.call_spec.specs.Calls as spec
use Rattle.cnf_solver.specs.declared.answer.Answer.{Answer}

-- an answer
abbrev pub answer_of : Answer → spec.Answer
answer_of a = spec.plain_answer a.status a.text.items
