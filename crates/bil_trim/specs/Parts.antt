-- Lists that have no more in them than others.
use Rattle.std.specs.Prelude.{ℕ, ◌≡◌, ◌≤◌, ◌<◌, ◌^◌, Bool, true}
use Rattle.word_spec.specs.Memory.{Endian}
use Rattle.machine_spec.specs.Bil.{BilVariable, Statements}
use Rattle.machine_spec.specs.BilTyping.{IsWellTyped}
use Rattle.machine_spec.specs.BilCounts.{list_weight, byte_loads, byte_stores, memory_choices, chosen_stores, other_loads, unknowns, has_no_loop, has_no_special, nesting, list_names_only}
use Rattle.bil_trim.specs.Literals.{with_literal}

-- a list is well typed and without loops and specials if another is, names no more, and has no more of what is counted
pub record HasNoMore (list old : Statements) : Type 0 where
  pub typed : IsWellTyped old → IsWellTyped list
  pub no_loop : has_no_loop old ≡ true → has_no_loop list ≡ true
  pub no_special : has_no_special old ≡ true → has_no_special list ≡ true
  pub nests : nesting list ≤ nesting old
  pub names : (known : BilVariable → Bool) → list_names_only old known ≡ true → list_names_only list known ≡ true
  pub weight : list_weight list ≤ list_weight old
  pub loads : byte_loads list ≤ byte_loads old
  pub stores : byte_stores list ≤ byte_stores old
  pub picks : memory_choices list ≤ memory_choices old
  pub steady : chosen_stores list ≤ chosen_stores old
  pub draws : unknowns list ≤ unknowns old

-- a list with the value of a word in place of its loads has no more, and none of its loads where all were of that word
abbrev pub LiteralsAddNothing : Type 0
LiteralsAddNothing = (e : Endian) (a v : ℕ) (list : Statements) → v < 2 ^ 32 →
    HasNoMore (with_literal e a v list) list × (other_loads e a list ≡ 0 → byte_loads (with_literal e a v list) ≡ 0)
