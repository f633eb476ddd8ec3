-- What is answered to a text, and that it is right.
use Rattle.std.specs.Prelude.{ℕ, ◌≡◌, Bool, List}
use Rattle.machine_spec.specs.StateText.{Layout}
use Rattle.model_spec.specs.ModelText.{Declared, IsAnswer, IsModelFault, line_after, placed_tokens}
use Rattle.model_text.specs.declared.fault.ModelFault.{ModelFault}
use Rattle.model_text.specs.declared.fault.ModelFault.TheVariants.{Text, Memory}
use Rattle.model_text.specs.Faults.{fault_of, found}
use Rattle.model_text.specs.declared.symbol.Others.{Others}
use Rattle.model_text.specs.Symbols.{symbol_in}
use Rattle.model_text.specs.Traces.{Outcome, Whole, Refused, start, judged}

-- what is answered to a text
abbrev pub answer_to : Layout → List Bool → Others → List ℕ → Outcome
answer_to layout drawn o t = judged (symbol_in layout drawn o) (line_after t) start (placed_tokens t)

-- the error says it; want of memory says nothing
abbrev pub IsRefused : Outcome → ModelFault → Type 0
IsRefused o (Text line kind) = o ≡ Refused (found line (fault_of kind))
IsRefused o Memory = Unit {0}

-- it is the answer's definitions, or the first fault
abbrev pub IsRight : List Declared → List ℕ → Outcome → Type 0
IsRight declared t (Whole ds) = IsAnswer declared t ds
IsRight declared t (Refused f) = IsModelFault declared t f.line f.fault
