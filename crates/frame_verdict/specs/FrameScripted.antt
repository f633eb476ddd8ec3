-- What the command that prints the script of a question of a frame comes to, of a function whose notes may have invariants or contracts.
use Rattle.std.specs.Prelude.{ℕ, string_bytes}
use Rattle.call_spec.specs.Calls.{Budget}
use Rattle.frame_spec.specs.FrameQuestions.{Question}
use Rattle.frame_spec.specs.FrameReports.{IsWithin}
use Rattle.frame_spec.specs.FrameScripts.{IsFrameScript}
use Rattle.frame_spec.specs.FrameVerdict.{Whole, frame_of}
use Rattle.machine_spec.specs.StateText.{Layout}
use Rattle.verdict.specs.declared.verdicts.Scripted.{Scripted}
use Rattle.verdict.specs.declared.verdicts.Scripted.TheVariants.{Exceeded, Script}
use Rattle.frame_verdict.specs.FrameCertificates.{IsFrameExceeded}

-- the budget that does not suffice for any question, or a script of the question of the frame of a rank
abbrev pub IsFrameScripted : Whole → (rank : ℕ) → Layout → Budget → Question → Scripted → Type 0
IsFrameScripted w rank layout b question (Exceeded e) = IsFrameExceeded w b e
IsFrameScripted w rank layout b question (Script text) =
    IsWithin w b × IsFrameScript (frame_of w rank) layout b.unroll question (string_bytes text)
