-- The questions of frames and of programs.
use Rattle.call_spec.specs.Calls as calls
pub use Rattle.call_form.specs.Views.{asked_of, frame_question}
use Rattle.call_form.specs.declared.kind.Asked as declared
use Rattle.call_form.specs.declared.kind.Asked.TheVariants.{Entry, Fail, Step, Turn}

-- A question of a program. It has no heads, so that all its events are of the entry's segment.
abbrev pub program_question : declared.Asked → calls.Question
program_question Entry = calls.EntryQuestion
program_question Fail = calls.FailQuestion
program_question Step = calls.FailQuestion
program_question Turn = calls.TurnQuestion
