-- What environments stand for.
use Rattle.std.specs.Prelude.{ℕ, nat_lt, Bool, true, false, ◌||◌, List, [], ◌∷◌, get_or, slice_index}
use Rattle.word_spec.specs.Words.{bit}
use Rattle.word_spec.specs.Memory.{memory_of}
use Rattle.machine_spec.specs.Bil.{BilVariable, Register, Flag, Mem, Local}
use Rattle.machine_spec.specs.BilCounts.{is_local}
use Rattle.machine_spec.specs.BilMeaning as means
use Rattle.bil_eval.specs.declared.env.LocalWord.{LocalWord}
use Rattle.bil_eval.specs.declared.env.Machine.{Machine}

-- the values of locals after further words; the last word of a local counts
abbrev pub values_after : (ℕ → ℕ → means.Value) → List LocalWord → ℕ → ℕ → means.Value
values_after f [] = f
values_after f (l ∷ ls) = values_after (means.put_local l.number l.value.width l.value.bits f) ls

-- the values of locals; a local with no word has none
abbrev pub values : List LocalWord → ℕ → ℕ → means.Value
values ls = values_after (λ x n. means.Stuck) ls

-- the variables that a machine holds: 32 registers, 4 flags and the memory
abbrev pub is_machine : BilVariable → Bool
is_machine (Register b r) = nat_lt r 32
is_machine (Flag f) = nat_lt f 4
is_machine Mem = true
is_machine (Local x n) = false

-- the variables that are held with the words of further locals
abbrev pub held_after : (BilVariable → Bool) → List LocalWord → BilVariable → Bool
held_after known [] = known
held_after known (l ∷ ls) = held_after (λ y. is_local l.number l.value.width y || known y) ls

-- the variables that an environment holds: the machine's, and the locals that have a word
abbrev pub held : List LocalWord → BilVariable → Bool
held ls = held_after is_machine ls

-- the variables of a machine and of local words
abbrev pub env_of : Machine → List LocalWord → means.Env
env_of m ls = record {
  regs = λ r. slice_index m.registers r;
  flags = λ f. bit (get_or m.flags f false);
  mem = memory_of m.memory.entries;
  locals = values ls;
}
