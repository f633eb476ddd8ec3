-- Printed states are told, so that a text is printed of one state alone.
use Rattle.std.proofs.Common.{◌≡◌, ℕ, ap, sym, ◌∙◌, Bool, true, false, List, if◌then◌else◌}
use Rattle.word_spec.specs.Memory.{Endian}
use Rattle.bilv_spec.specs.Elf.{file_endian}
use Rattle.call_spec.specs.Calls.{Options}
use Rattle.bilv_spec.specs.Files.{is_rv, layout_of}
use Rattle.machine_spec.specs.StateText.{rv_layout, arm_layout, StateText, IsWritten, IsNamed, printed, Told, StateIs, StateRefused, state_of}
use Rattle.machine_spec.proofs.StateLines.{IsLayout, rv_is_layout, arm_is_layout}
use Rattle.machine_spec.proofs.StateBack.{printed_back}

layout_by : (b : Bool) (e : Endian) (o : Options) → IsLayout (if b then rv_layout o.compressed else arm_layout e o.profile)
layout_by true e o = rv_is_layout o.compressed
layout_by false e o = arm_is_layout e o.profile

pub file_layout : (o : Options) (file : List ℕ) → IsLayout (layout_of o file)
file_layout o file = layout_by (is_rv file) (file_endian file) o

pub printed_is_told : (o : Options) (file : List ℕ) (known : ℕ → Bool) (t : StateText) → IsWritten (layout_of o file) known t.start → IsNamed t.named →
    state_of (layout_of o file) known (printed (layout_of o file) t) ≡ StateIs t
printed_is_told o file known t w n = printed_back (layout_of o file) (file_layout o file) known t w n

same_state : (t u : StateText) → StateIs t ≡ StateIs u → t ≡ u
same_state t u e = ap (state_in t) e
  where
    state_in : StateText → Told → StateText
    state_in d (StateIs x) = x
    state_in d (StateRefused n f) = d

pub printed_once : (o : Options) (file : List ℕ) (known : ℕ → Bool) (t u : StateText) → IsWritten (layout_of o file) known t.start → IsNamed t.named →
    IsWritten (layout_of o file) known u.start → IsNamed u.named → printed (layout_of o file) t ≡ printed (layout_of o file) u → t ≡ u
printed_once o file known t u w n x m e =
    same_state t u (sym (printed_is_told o file known t w n) ∙ ap (state_of (layout_of o file) known) e ∙ printed_is_told o file known u x m)
