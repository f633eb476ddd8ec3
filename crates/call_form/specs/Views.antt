-- The questions and budgets of the code as those of the definitions.
use Rattle.call_spec.specs.Calls as calls
use Rattle.call_spec.specs.Framed as framed
use Rattle.call_form.specs.declared.budget.Budget.{Budget}
use Rattle.call_form.specs.declared.kind.Asked as declared
use Rattle.call_form.specs.declared.kind.Asked.TheVariants as asked
use Rattle.call_form.specs.declared.kind.Kind.{Kind}
use Rattle.call_form.specs.declared.kind.Kind.TheVariants.{Entry, Fail, Turn}

-- a question
abbrev pub kind_of : Kind → calls.Question
kind_of Entry = calls.EntryQuestion
kind_of Fail = calls.FailQuestion
kind_of Turn = calls.TurnQuestion

-- a question of a program as one of its frame
abbrev pub asked_of : Kind → declared.Asked
asked_of Entry = asked.Entry
asked_of Fail = asked.Fail
asked_of Turn = asked.Turn

-- a question of a frame
abbrev pub frame_question : declared.Asked → framed.Question
frame_question asked.Entry = framed.EntryQuestion
frame_question asked.Fail = framed.FailQuestion
frame_question asked.Step = framed.StepQuestion
frame_question asked.Turn = framed.TurnQuestion

-- the budgets
abbrev pub budget_of : Budget → calls.Budget
budget_of b = record { unroll = b.unroll; points = b.points; size = b.size; conflicts = b.conflicts }
