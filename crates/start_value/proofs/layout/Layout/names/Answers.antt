use Rattle.std.proofs.Common.{ap, sym}
use Rattle.std.specs.Fmt.{digits}
use Rattle.machine_spec.specs.StateText.{value_names}
use Rattle.start_value.specs.Starts.{layout_of}
use Rattle.start_value.specs.declared.layout.Layout.{Layout}
use Rattle.start_value.proofs.layout.Layout.names.Goals as goal

pub returns-in-Rv32 : goal.returns-in-Rv32
unfolding digits
returns-in-Rv32 c = ap (λ (l : Layout). value_names (layout_of l)) (sym c.in-Rv32.is)

pub returns-in-Arm : goal.returns-in-Arm
unfolding digits
returns-in-Arm c = ap (λ (l : Layout). value_names (layout_of l)) (sym c.in-Arm.is)
