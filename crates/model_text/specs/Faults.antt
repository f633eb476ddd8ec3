-- The faults that errors name.
use Rattle.std.specs.Prelude.{ℕ, ◌==◌, ◌&&◌, ◌||◌, nat_lt, List, Option, Some, None, if◌then◌else◌}
use Rattle.model_spec.specs.ModelText as text
use Rattle.model_spec.specs.ModelText.{Declared, IsModelFault, fault_rank}
use Rattle.model_text.specs.declared.fault.ModelFaultKind.{ModelFaultKind}
use Rattle.model_text.specs.declared.fault.ModelFaultKind.TheVariants.{Answer, Syntax, Sort, Twice}
use Rattle.model_text.specs.declared.fault.ModelFault.{ModelFault}
use Rattle.model_text.specs.declared.fault.ModelFault.TheVariants.{Text, Memory}
use Rattle.model_text.specs.declared.kept.Kept.{Kept}

-- the fault
abbrev pub fault_of : ModelFaultKind → text.ModelFault
fault_of Answer = text.AnswerFault
fault_of Syntax = text.SyntaxFault
fault_of Sort = text.SortFault
fault_of Twice = text.TwiceFault

-- the error is the refusal of a text; want of memory is none
abbrev pub IsRefusal : List Declared → List ℕ → ModelFault → Type 0
IsRefusal declared t (Text line kind) = IsModelFault declared t line (fault_of kind)
IsRefusal declared t Memory = Unit {0}

-- a fault at a line
pub record Found : Type 0 where
  pub line : ℕ
  pub fault : text.ModelFault

abbrev pub found : ℕ → text.ModelFault → Found
found n f = record { line = n; fault = f }

abbrev pub kept_of : Kept → Found
kept_of k = record { line = k.line; fault = fault_of k.kind }

-- the first of two faults: the earlier line, and on one line the lesser kind; the first where they are alike
abbrev pub sooner : Found → Found → Found
sooner a b = if nat_lt b.line a.line || ((b.line == a.line) && nat_lt (fault_rank b.fault) (fault_rank a.fault)) then b else a

abbrev pub first_fault : Option Found → Found → Found
first_fault None b = b
first_fault (Some a) b = sooner a b

-- what is kept with a further fault, if there is one
abbrev pub with_fault : Option text.ModelFault → ℕ → Option Found → Option Found
with_fault None n kept = kept
with_fault (Some f) n kept = Some (first_fault kept (found n f))
