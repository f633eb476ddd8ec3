-- Passive programs and questions as those of unrolled frames.
use Rattle.std.specs.Prelude.{Bool, ◌&&◌, map}
use Rattle.frame_spec.specs.FrameQuestions as questions
use Rattle.frame_spec.specs.FrameQuestions.{asks_head}
use Rattle.frame_spec.specs.FrameWalk.{UnrolledProgram}
use Rattle.frame_terms.specs.PassiveFrames as frames
use Rattle.question_form.specs.declared.questions.Passive.{Passive}
use Rattle.question_form.specs.declared.questions.Question.{Question}
use Rattle.question_form.specs.Asked.{frame_question}
use Rattle.question_form.specs.FrameViews.{frame_unrolled_of}

-- a passive program
abbrev pub frame_passive_of : Passive → frames.Passive
frame_passive_of p = record { nodes = p.dag; met = map (λ t. t.0) p.met.items; fails = p.fails.0; steps = p.steps.0; turns = p.turns.0 }

-- the unrolled frame that a question is of, and whether it has a head
abbrev pub frame_of_question : Question → UnrolledProgram
frame_of_question q = frame_unrolled_of q.passive.now.unrolled.now

abbrev pub heads_of_question : Question → Bool
heads_of_question q = q.passive.now.unrolled.now.heads

-- which question of the frame it is
abbrev pub frame_question_of : Question → questions.Question
frame_question_of q = frame_question q.asked

-- the question speaks of head states, which the frame has
abbrev pub is_of_heads : Question → Bool
is_of_heads q = heads_of_question q && asks_head (frame_question_of q)
