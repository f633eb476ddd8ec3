-- What is asked about a program, and its answer.
use Rattle.call_spec.specs.Calls.{Answer, Surroundings, AfterRead, program_question}
use Rattle.bilv_spec.specs.Run.{Program}
use Rattle.machine_spec.specs.StateText.{Layout}
use Rattle.model_spec.specs.Models.{AfterBudgets, IsAskedModelAnswer}
use Rattle.command_line.specs.Commands.{budget_of, frame_question}
use Rattle.bilv_top.specs.declared.tasks.Task.{Task}

-- the right answer to it about a program, whose state texts have this layout
abbrev pub IsDone : Surroundings → Task → Layout → Program → Answer → Type 0
IsDone s t layout p a =
    AfterBudgets p (budget_of t.budget)
    (AfterRead s t.values.now (IsAskedModelAnswer p layout (budget_of t.budget) (program_question (frame_question t.question)))) a
