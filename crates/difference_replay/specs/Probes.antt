-- What links compare, place by place.
use Rattle.std.specs.Prelude.{ℕ, ◌==◌, ◌++◌, Bool, List, [], ◌∷◌, Option, Some, None, All, map, if◌then◌else◌}
use Rattle.word_spec.specs.Memory.{Little}
use Rattle.word_spec.specs.State.{State}
use Rattle.bilv_spec.specs.Notes.{value}
use Rattle.notes_value.specs.Reads.{IsReadable}
use Rattle.pair_spec.specs.Links as spec
use Rattle.pair_spec.specs.Links.{addresses}
use Rattle.links_lang.specs.Views.{named_of}
use Rattle.links_lang.specs.declared.links.Link.{Link}
use Rattle.links_lang.specs.declared.links.Link.TheVariants as link
use Rattle.difference_replay.specs.declared.probes.Half.{Half}
use Rattle.difference_replay.specs.declared.probes.Half.TheVariants.{First, Second}
use Rattle.difference_replay.specs.declared.probes.RunEnd.{RunEnd}
use Rattle.difference_replay.specs.declared.probes.RunEnd.TheVariants.{Entry, Exit}
use Rattle.difference_replay.specs.declared.probes.Place.{Place}
use Rattle.difference_replay.specs.declared.probes.Place.TheVariants.{Named, Byte}
use Rattle.difference_replay.specs.declared.probes.Probe.{Probe}

-- the same byte of both states, and the bytes from one address up to another
abbrev pub byte_probe : (line at : ℕ) → Probe
byte_probe line at = record { line = line; first = Byte at; second = Byte at }

abbrev pub byte_probes : (line low high : ℕ) → List Probe
byte_probes line low high = map (byte_probe line) (addresses low high)

-- the probes of a link at an end of the runs, and those of links
abbrev pub probes_of : RunEnd → Link → List Probe
probes_of Entry (link.Entry line x y) = record { line = line; first = Named x; second = Named y } ∷ []
probes_of Entry (link.Exit line x y) = []
probes_of Entry (link.Share line low high) = byte_probes line low high
probes_of Entry (link.Same line low high) = []
probes_of Exit (link.Entry line x y) = []
probes_of Exit (link.Exit line x y) = record { line = line; first = Named x; second = Named y } ∷ []
probes_of Exit (link.Share line low high) = []
probes_of Exit (link.Same line low high) = byte_probes line low high

abbrev pub all_probes : RunEnd → List Link → List Probe
all_probes at [] = []
all_probes at (l ∷ rest) = probes_of at l ++ all_probes at rest

-- the value of a place of a state
abbrev pub value_at : State → Place → ℕ
value_at s (Named n) = value Little (named_of n) s s
value_at s (Byte a) = s.mem a

-- the place of a probe on a side
abbrev pub place_on : Half → Probe → Place
place_on First p = p.first
place_on Second p = p.second

-- the values of a state at the places of a side
abbrev pub values_on : Half → State → List Probe → List ℕ
values_on half s probes = map (λ p. value_at s (place_on half p)) probes

-- the line of the first probe whose values differ
abbrev pub first_unlike : List Probe → List ℕ → List ℕ → Option ℕ
first_unlike (p ∷ ps) (x ∷ xs) (y ∷ ys) = if x == y then first_unlike ps xs ys else Some p.line
first_unlike ps xs ys = None

-- the place is no register that the machine lacks, and the places of a side are none
abbrev pub IsReadablePlace : (has_register : ℕ → Bool) → Place → Type 0
IsReadablePlace has (Named n) = IsReadable has (named_of n)
IsReadablePlace has (Byte a) = Unit {0}

abbrev pub AreReadableOn : (has_register : ℕ → Bool) → Half → List Probe → Type 0
AreReadableOn has half probes = All (λ p. IsReadablePlace has (place_on half p)) probes

-- two states agree on a link at an end of the runs
abbrev pub agrees_at : RunEnd → State → State → spec.Link → Bool
agrees_at Entry s t l = spec.agrees_at_entry s t l
agrees_at Exit s t l = spec.agrees_at_exit s t l
