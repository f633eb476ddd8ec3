-- What the code's answers say.
use Rattle.std.specs.Prelude.{ℕ, ◌≡◌, List, Result, Err}
use Rattle.std.specs.Option.{option_map}
use Rattle.std.specs.String.{string_bytes}
use Rattle.note_template.specs.declared.machine.TemplateMachine.{TemplateMachine}
use Rattle.note_template.specs.declared.machine.TemplateMachine.TheVariants.{RiscV, Arm}
use Rattle.note_template.specs.declared.fault.Refusal.{Refusal}
use Rattle.note_template.specs.declared.fault.Refusal.TheVariants.{UnknownSymbol, AmbiguousSymbol, WrongForm, LongLine}
use Rattle.note_template.specs.declared.fault.TemplateFault.{TemplateFault}
use Rattle.note_template.specs.declared.fault.TemplateFault.TheVariants.{Refused, Memory}
use Rattle.note_template.specs.Templates as templates
use Rattle.note_template.specs.TemplateLines as lines

-- the machine
abbrev pub machine_of : TemplateMachine → lines.Machine
machine_of RiscV = lines.RiscV
machine_of Arm = lines.Arm

-- the refusal
abbrev pub refusal_of : Refusal → templates.Refusal
refusal_of (UnknownSymbol near) = templates.UnknownSymbol (option_map string_bytes near)
refusal_of AmbiguousSymbol = templates.AmbiguousSymbol
refusal_of WrongForm = templates.WrongForm
refusal_of LongLine = templates.LongLine

-- a template is refused so; want of memory says nothing of it
abbrev pub IsRefused : Result (List ℕ) lines.Refused → TemplateFault → Type 0
IsRefused answer (Refused line column refusal) =
    answer ≡ Err (record { line = line; fault = record { column = column; refusal = refusal_of refusal } })
IsRefused answer Memory = Unit {0}
