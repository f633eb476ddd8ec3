-- The commands of the code as the definitions have them.
use Rattle.std.specs.Option.{option_map}
use Rattle.call_spec.specs.Calls as asked
use Rattle.command_spec.specs.Commands as outcomes
use Rattle.start_value.specs.Starts.{profile_in}
pub use Rattle.call_form.specs.Views.{budget_of, frame_question}
use Rattle.command_line.specs.declared.command.Options.{Options}
use Rattle.command_line.specs.declared.command.PairNames.{PairNames}
use Rattle.command_line.specs.declared.command.Command.{Command}
use Rattle.command_line.specs.declared.command.Command.TheVariants.{Verify, Lift, Graph, Script, Replay, Certify, Check, SelfRun, Upgrade, Model, Equal, Differ}

abbrev pub options_of : Options → asked.Options
options_of o = record { profile = profile_in o.profile; compressed = o.compressed }

abbrev pub names_of : PairNames → outcomes.PairNames
names_of n = record {
  elf = n.elf.now;
  notes = n.notes.now;
  other_elf = n.other_elf.now;
  other_notes = n.other_notes.now;
  links = n.links.now;
}

abbrev pub command_of : Command → outcomes.Command
command_of (Verify elf notes options budget) = outcomes.Verify (options_of options) elf.now notes.now (budget_of budget)
command_of (Lift elf options) = outcomes.Lift (options_of options) elf.now
command_of (Graph elf notes options) = outcomes.Graph (options_of options) elf.now notes.now
command_of (Script elf notes options question frame budget) =
    outcomes.Script (options_of options) elf.now notes.now (frame_question question) (option_map (λ w. w.now) frame) (budget_of budget)
command_of (Replay elf notes options state) = outcomes.Replay (options_of options) elf.now notes.now state.now
command_of (Certify elf notes options question frame budget) =
    outcomes.Certify (options_of options) elf.now notes.now (frame_question question) (option_map (λ w. w.now) frame) (budget_of budget)
command_of (Check certificate) = outcomes.Check certificate.now
command_of (SelfRun seed count) = outcomes.SelfRun seed count
command_of (Upgrade elf notes options) = outcomes.Upgrade (options_of options) elf.now notes.now
command_of (Equal names options budget) = outcomes.Equal (options_of options) (names_of names) (budget_of budget)
command_of (Differ names options report) = outcomes.Differ (options_of options) (names_of names) report.now
command_of (Model elf notes answer options question budget) =
    outcomes.Model (options_of options) elf.now notes.now answer.now (frame_question question) (budget_of budget)
