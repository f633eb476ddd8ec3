-- Laws of the machine of ARM.
use Rattle.word_spec.specs.Memory.{Endian}
use Rattle.word_spec.specs.Profiles.{Profile}
use Rattle.machine_spec.specs.Arm.{arm}
use Rattle.machine_spec.specs.StateText.{arm_layout}
use Rattle.machine_spec.specs.MachineLaws.{IsLawfulMachine, IsFitted}

-- each row of ARM state is lawful, in both byte orders and each profile
abbrev pub ArmIsLawful : Type 0
ArmIsLawful = (e : Endian) (profile : Profile) → IsLawfulMachine (arm e profile)

-- its state texts name its registers and flags, in both byte orders and each profile
abbrev pub ArmIsFitted : Type 0
ArmIsFitted = (e : Endian) (profile : Profile) → IsFitted (arm e profile) (arm_layout e profile)
