-- What contracts may change, in state texts.
use Rattle.std.specs.Prelude.{All}
use Rattle.machine_spec.specs.Machine.{Machine}
use Rattle.machine_spec.specs.MachineLaws.{IsFitted}
use Rattle.machine_spec.specs.StateText.{Layout}
use Rattle.frame_spec.specs.FrameVerdict.{Whole}
use Rattle.frame_texts_spec.specs.CallTextLaws.{HasContracts}
use Rattle.notes_lang.specs.Framed.{IsContractOver}

-- What contracts over a machine may change are registers and flags of each layout that fits the machine.
abbrev pub ContractsAreOfLayout : Type 0
ContractsAreOfLayout = (m : Machine) (layout : Layout) (w : Whole) → IsFitted m layout → All (IsContractOver m.has_register m.has_flag) w.contracts →
    HasContracts layout w
