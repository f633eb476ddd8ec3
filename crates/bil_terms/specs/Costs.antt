-- What a list of statements may cost as terms. What the sides of an if leave different is selected behind it, so that what a side assigns is paid for once
-- more.
use Rattle.std.specs.Prelude.{ℕ, ◌+◌, ◌*◌}
use Rattle.machine_spec.specs.Bil.{Statements, Empty, Assign, JumpTo, Raise, Special, While, If, type_of, total}
use Rattle.machine_spec.specs.BilTyping.{type_width}
use Rattle.machine_spec.specs.BilCounts.{weight, byte_stores}
use Rattle.bil_terms.specs.Gathered.{own_nodes}

-- the bits that a list assigns: those of registers and flags, of the target of a jump, and whether the run goes on
abbrev pub changed_bits : Statements → ℕ
changed_bits Empty = 0
changed_bits (Assign x e rest) = type_width (type_of x) + changed_bits rest
changed_bits (JumpTo e rest) = 32 + changed_bits rest
changed_bits (Raise n rest) = 1 + changed_bits rest
changed_bits (Special t rest) = changed_bits rest
changed_bits (While e body rest) = changed_bits body + changed_bits rest
changed_bits (If e a b rest) = changed_bits a + changed_bits b + changed_bits rest

-- how often it assigns something, jumps, or raises an exception
abbrev pub changes : Statements → ℕ
changes Empty = 0
changes (Assign x e rest) = 1 + changes rest
changes (JumpTo e rest) = 1 + changes rest
changes (Raise n rest) = 1 + changes rest
changes (Special t rest) = changes rest
changes (While e body rest) = changes body + changes rest
changes (If e a b rest) = changes a + changes b + changes rest

-- the gates of a list
abbrev pub list_gates : Statements → ℕ
list_gates Empty = 0
list_gates (Assign x e rest) = weight e + list_gates rest
list_gates (JumpTo e rest) = weight e + list_gates rest
list_gates (Raise n rest) = list_gates rest
list_gates (Special t rest) = list_gates rest
list_gates (While e body rest) = list_gates body + list_gates rest
list_gates (If e a b rest) = 3 + weight e + list_gates a + list_gates b + changed_bits a + changed_bits b + list_gates rest

-- its nodes
abbrev pub list_nodes : Statements → ℕ
list_nodes Empty = 0
list_nodes (Assign x e rest) = total own_nodes e + list_nodes rest
list_nodes (JumpTo e rest) = total own_nodes e + list_nodes rest
list_nodes (Raise n rest) = list_nodes rest
list_nodes (Special t rest) = list_nodes rest
list_nodes (While e body rest) = list_nodes body + list_nodes rest
list_nodes (If e a b rest) = 6 + total own_nodes e + list_nodes a + list_nodes b + 2 * (changes a + changes b) + list_nodes rest

-- its joins of memories
abbrev pub list_joins : Statements → ℕ
list_joins Empty = 0
list_joins (Assign x e rest) = list_joins rest
list_joins (JumpTo e rest) = list_joins rest
list_joins (Raise n rest) = list_joins rest
list_joins (Special t rest) = list_joins rest
list_joins (While e body rest) = list_joins body + list_joins rest
list_joins (If e a b rest) = list_joins a + list_joins b + byte_stores a + byte_stores b + list_joins rest
