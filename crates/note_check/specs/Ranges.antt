-- Segments whose code may be written (System V ABI, program header: p_type, p_vaddr, p_memsz, p_flags).
use Rattle.std.specs.Prelude.{ℕ, ◌+◌, ◌-◌, ◌==◌, ◌&&◌, nat_lt, Bool, List, map, filter}
use Rattle.bilv_spec.specs.Elf.{Segment, segments, executable, writable}
use Rattle.note_check.specs.declared.warning.Warning.{Warning}
use Rattle.note_check.specs.declared.warning.Warning.TheVariants.{WritableCode}

-- the segment is loaded, as PT_LOAD, which is 1, says, has addresses, and both PF_X and PF_W
abbrev pub is_writable_code : Segment → Bool
is_writable_code s = (s.kind == 1) && nat_lt 0 s.in_memory && executable s.flags && writable s.flags

-- the warning of its first and its last address
abbrev pub range_warning : Segment → Warning
range_warning s = WritableCode s.address (s.address + s.in_memory - 1)

-- the warnings of such segments, in the order of the file's program headers
abbrev pub writable_ranges : (file : List ℕ) → List Warning
writable_ranges file = map range_warning (filter is_writable_code (segments file))
