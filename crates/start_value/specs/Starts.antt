-- The definitions' values that layouts and starts stand for.
use Rattle.word_spec.specs.Memory.{endian}
use Rattle.machine_spec.specs.Arm as rows
use Rattle.machine_spec.specs.StateText as texts
use Rattle.word_spec.specs.State as state
use Rattle.start_value.specs.declared.layout.Layout.{Layout}
use Rattle.start_value.specs.declared.layout.Layout.TheVariants.{Rv32, Arm}
use Rattle.start_value.specs.declared.layout.Profile.{Profile}
use Rattle.start_value.specs.declared.layout.Profile.TheVariants.{V4, V4T, V5}
use Rattle.start_value.specs.declared.start.Start.{Start}

-- the profile
abbrev pub profile_in : Profile → rows.Profile
profile_in V4 = rows.V4
profile_in V4T = rows.V4T
profile_in V5 = rows.V5

-- the layout
abbrev pub layout_of : Layout → texts.Layout
layout_of (Rv32 compressed) = texts.rv_layout compressed
layout_of (Arm big profile) = texts.arm_layout (endian big) (profile_in profile)

-- the start as it is written
abbrev pub written_of : Start → state.Written
written_of s = record { regs = s.regs.items; flags = s.flags; bytes = s.bytes.items; choices = s.choices.items }
