-- Passive programs and questions as those of the definitions.
use Rattle.std.specs.Prelude.{map}
use Rattle.call_spec.specs.Calls as questions
use Rattle.term_spec.specs.Passive as walk
use Rattle.walk_spec.specs.Unrolled.{UnrolledProgram}
use Rattle.term_spec.specs.WalkQuestions.{QuestionTerm}
use Rattle.question_form.specs.declared.questions.Passive.{Passive}
use Rattle.question_form.specs.declared.questions.Question.{Question}
use Rattle.question_form.specs.Asked.{program_question}
use Rattle.question_form.specs.Views.{unrolled_of}

-- a passive program
abbrev pub passive_of : Passive → walk.Passive
passive_of p = record { nodes = p.dag; met = map (λ t. t.0) p.met.items; fails = p.fails.0; turns = p.turns.0 }

-- the unrolled program that a question is of
abbrev pub program_of_question : Question → UnrolledProgram
program_of_question q = unrolled_of q.passive.now.unrolled.now

-- the term of a question
abbrev pub term_of : Question → QuestionTerm
term_of q = record { nodes = q.dag; root = q.root.0 }

-- which question it is
abbrev pub question_of : Question → questions.Question
question_of q = program_question q.asked
