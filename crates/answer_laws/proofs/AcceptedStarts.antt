-- The start that is printed of a reading of a file's program is a start, whatever the reading's other registers and flags are.
use Rattle.std.proofs.Common.{◌≡◌, ℕ, zero, suc, ◌+◌, ◌-◌, ◌^◌, ◌≤◌, ◌<◌, refl, ap, sym, ◌∙◌, subst, arith, Bool, true, false, List, [], ◌∷◌, Some, length}
use Rattle.std.specs.Prelude.{not, nat_le, nat_lt, slice_index, if◌then◌else◌}
use Rattle.std.specs.List.{All}
use Rattle.std.proofs.lemmas.Bool.{and_parts}
use Rattle.std.proofs.lemmas.Bool.Decides.{nat_tests}
use Rattle.std.proofs.lemmas.List.Elements.{All-head, All-tail}
use Rattle.word_spec.specs.Words as Words
use Rattle.word_spec.specs.Memory.{Endian, load}
use Rattle.word_spec.specs.State.{State, Written, IsState}
use Rattle.machine_spec.specs.Arm.{arm}
use Rattle.machine_spec.specs.Machine.{IsAtPlace, Machine}
use Rattle.machine_spec.specs.MachineLaws.{with_memory}
use Rattle.machine_spec.specs.RvMachine.{rv32}
use Rattle.machine_spec.specs.StateText.{Layout, arm_layout, register_at, rv_layout}
use Rattle.machine_spec.proofs.ArmFlags.{bit_at_small}
use Rattle.bilv_spec.specs.Answers.{start_in}
use Rattle.notes_spec.specs.ArmNames.{arm_names}
use Rattle.bilv_spec.specs.Elf.{file_endian}
use Rattle.bilv_spec.specs.Files.{is_rv, layout_of, machine_of, program_of}
use Rattle.notes_spec.specs.Programs.{IsProgram}
use Rattle.bilv_spec.specs.Notes as notes
use Rattle.bilv_spec.specs.Notes.{Binary, Bound, Expr, Flag, Not, NoteLine, Notes, Number, Old, Pc, Register, is_true, value}
use Rattle.notes_spec.specs.NotesGrammar.{IsNotesText}
use Rattle.bilv_spec.specs.Questions.{IsReading, Reading}
use Rattle.bilv_spec.specs.Run.{Program, false_line}
use Rattle.notes_spec.specs.RvNames.{rv_names}
use Rattle.notes_spec.specs.Scopes.{Vocabulary, Plain}
use Rattle.bilv_spec.specs.Verdict.{IsEntryState, IsStart}
use Rattle.call_spec.specs.Calls.{Options}
use Rattle.model_spec.specs.Models.{IsPrinted}
use Rattle.model_spec.proofs.Printed.{choices_small, enters}
use Rattle.start_value.specs.declared.layout.Layout.TheVariants as forms
use Rattle.start_value.specs.declared.layout.Profile.TheVariants as profiles
use Rattle.notes_value.specs.Reads.{AreOver, IsOver}
use Rattle.notes_lang.specs.declared.notes.Dialect.TheVariants as dialects
use Rattle.notes_lang.proofs.Readable.{notes_over}

-- ---- states that are the same but for the registers and flags that a machine does not have

pub record IsAlike (has_register has_flag : ℕ → Bool) (s t : State) : Type 0 where
  pub pc : s.pc ≡ t.pc
  pub regs : (r : ℕ) → has_register r ≡ true → s.regs r ≡ t.regs r
  pub flags : (f : ℕ) → has_flag f ≡ true → s.flags f ≡ t.flags f
  pub mem : s.mem ≡ t.mem

module _ (e : Endian) (has_register has_flag : ℕ → Bool) (a b : State) (before : IsAlike has_register has_flag a b) where
  value_alike : (x : Expr) → IsOver has_register has_flag x → (s t : State) → IsAlike has_register has_flag s t → value e x s a ≡ value e x t b
  value_alike (Number n) over s t now = refl
  value_alike (Register r) over s t now = now.regs r over
  value_alike (Flag f) over s t now = now.flags f over
  value_alike Pc over s t now = now.pc
  value_alike Bound over s t now = refl
  value_alike (notes.Memory n x) over s t now =
      ap (λ m. load e n m (value e x s a)) now.mem ∙ ap (load e n t.mem) (value_alike x over.2 s t now)
  value_alike (Old x) over s t now = value_alike x over a b before
  value_alike (Not x) over s t now = ap (λ z. Words.bit (not (is_true z))) (value_alike x over s t now)
  value_alike (Binary op x y) over s t now =
      ap (λ z. notes.apply op z (value e y s a)) (value_alike x over.0 s t now) ∙ ap (notes.apply op (value e x t b)) (value_alike y over.1 s t now)

  lines_alike : (ls : List NoteLine) → All (λ l. IsOver has_register has_flag l.says) ls → (s t : State) → IsAlike has_register has_flag s t →
      false_line e ls s a ≡ false_line e ls t b
  lines_alike [] over s t now = refl
  lines_alike (l ∷ rest) over s t now =
      ap (λ z. if is_true z then false_line e rest s a else Some l.line)
      (value_alike l.says (All-head (λ (x : NoteLine). IsOver has_register has_flag x.says) l rest over) s t now)
      ∙ ap (λ z. if is_true (value e l.says t b) then z else Some l.line)
      (lines_alike rest (All-tail (λ (x : NoteLine). IsOver has_register has_flag x.says) l rest over) s t now)

-- such a state is an entry state as well
pub entry_alike : (p : Program) → All (λ l. IsOver p.machine.has_register p.machine.has_flag l.says) p.notes.requires →
    p.machine.has_register p.machine.link ≡ true → (s t : State) → IsAlike p.machine.has_register p.machine.has_flag s t → IsState t → IsEntryState p s → IsEntryState p t
entry_alike p over link s t same state entry = record {
  state = state;
  pc = sym same.pc ∙ entry.pc;
  link = subst (IsAtPlace p.machine.narrow) (same.regs p.machine.link link) entry.link;
  kept_bytes = λ a c l e q. ap (λ m. m a) (sym same.mem) ∙ entry.kept_bytes a c l e q;
  fixed_bytes = λ a c l e q. ap (λ m. m a) (sym same.mem) ∙ entry.fixed_bytes a c l e q;
  requires =
      sym (lines_alike p.machine.endian p.machine.has_register p.machine.has_flag s t same p.notes.requires over s t same) ∙ entry.requires;
}

-- ---- a layout shows the registers and flags that its machine has

pub record IsShownBy (layout : Layout) (m : Machine) : Type 0 where
  pub registers : (n : ℕ) → m.has_register n ≡ true → (layout.first ≤ n) × (n < layout.first + length layout.registers)
  pub flags : (f : ℕ) → m.has_flag f ≡ true → f < length layout.flags
  pub link : m.has_register m.link ≡ true

from_le : (a b : ℕ) → nat_le a b ≡ true → a ≤ b
from_le a b h = grind (arith, nat_tests)

pub shown_by : (b : Bool) (e : Endian) (o : Options) →
    IsShownBy (if b then rv_layout o.compressed else arm_layout e o.profile) (if b then rv32 o.compressed else arm e o.profile)
shown_by true e o = record {
  registers = λ n h.
      (let both = and_parts (nat_le 1 n) (nat_le n 31) h in
      let low : 1 ≤ n = from_le 1 n both.0 in
      let high : n < 1 + 31 = (let m = from_le n 31 both.1 in omega (arith, m)) in
      (low, high));
  flags = λ f h. absurd (cc);
  link = refl;
}
shown_by false e o = record {
  registers = λ n h.
      (let low : 0 ≤ n = omega arith in
      let high : n < 0 + 15 = (let m = from_le n 14 h in omega (arith, m)) in
      (low, high));
  flags = λ f h. (let few : f < 4 = (let m = from_le f 3 h in omega (arith, m)) in few);
  link = refl;
}

-- ---- notes are over the registers and flags of the machine of their file

abbrev words_by : (b : Bool) → Endian → Options → Vocabulary
words_by b e o = record { names = λ w. if b then rv_names w else arm_names w; narrow = (if b then rv32 o.compressed else arm e o.profile).narrow; dialect = Plain }

over_by : (b : Bool) (e : Endian) (o : Options) (text : List ℕ) (n : Notes) → IsNotesText (words_by b e o) text n →
    AreOver (if b then rv32 o.compressed else arm e o.profile).has_register (if b then rv32 o.compressed else arm e o.profile).has_flag n
over_by true e o text n is = notes_over (forms.Rv32 o.compressed) dialects.Plain text n is
over_by false e o text n is = notes_over (forms.Arm false profiles.V4) dialects.Plain text n is

-- ---- the printed start

small_at : (xs : List ℕ) (i : ℕ) → All (λ v. v < 2 ^ 32) xs → slice_index xs i < 2 ^ 32
small_at [] i h = omega arith
small_at (x ∷ xs) zero h = All-head (λ v. v < 2 ^ 32) x xs h
small_at (x ∷ xs) (suc i) h = small_at xs i (All-tail (λ v. v < 2 ^ 32) x xs h)

small_or : (b : Bool) (v : ℕ) → v < 2 ^ 32 → (if b then 0 else v) < 2 ^ 32
small_or true v l = omega arith
small_or false v l = l

module _ (p : Program) (layout : Layout) (shown : IsShownBy layout p.machine) (over : AreOver p.machine.has_register p.machine.has_flag p.notes) (k steps : ℕ)
    (r : Reading) (w : Written) (reading : IsReading r) (entry : IsEntryState p r.state) (printed : IsPrinted p layout k r steps w) where
  abbrev printed_state : State
  printed_state = (start_in p layout w).state

  entered : IsEntryState p (with_memory r.state printed_state.mem)
  entered = enters p layout k steps r w reading entry printed

  register_is : (n : ℕ) → p.machine.has_register n ≡ true → r.state.regs n ≡ register_at layout w.regs n
  register_is n has =
      let within = shown.registers n has in
      let behind : nat_lt n layout.first ≡ false = (let l : layout.first ≤ n = within.0 in grind (arith, nat_tests)) in
      let there : layout.first + (n - layout.first) ≡ n = omega (arith, within.0) in
      ap r.state.regs (sym there) ∙ sym (printed.regs (n - layout.first) (omega (arith, within.0, within.1)))
      ∙ ap (λ (b : Bool). if b then 0 else slice_index w.regs (n - layout.first)) (sym behind)

  is_alike : IsAlike p.machine.has_register p.machine.has_flag (with_memory r.state printed_state.mem) printed_state
  is_alike = record { pc = entry.pc; regs = register_is; flags = λ f has. sym (printed.flags f (shown.flags f has)); mem = refl }

  is_state : IsState printed_state
  is_state = record {
    pc = subst (λ z. z < 2 ^ 32) entry.pc reading.state.pc;
    regs = λ n. small_or (nat_lt n layout.first) (slice_index w.regs (n - layout.first)) (small_at w.regs (n - layout.first) printed.written.words);
    flags = λ f. bit_at_small f w.flags;
    mem = entered.state.mem;
  }

  is_start : IsStart p (start_in p layout w)
  is_start = record {
    entry = entry_alike p over.requires shown.link (with_memory r.state printed_state.mem) printed_state is_alike is_state entered;
    choices = choices_small p layout k steps r w reading entry printed;
  }

-- of a file's program
pub printed_is_start : (o : Options) (file text : List ℕ) (p : Program) → IsProgram o file text p → (k steps : ℕ) (r : Reading) (w : Written) → IsReading r →
    IsEntryState p r.state → IsPrinted p (layout_of o file) k r steps w → IsStart p (start_in p (layout_of o file) w)
printed_is_start o file text p (n, address, says, at, is) k steps r w reading =
    subst (λ (q : Program). IsEntryState q r.state → IsPrinted q (layout_of o file) k r steps w → IsStart q (start_in q (layout_of o file) w)) (sym is)
    (is_start (program_of (machine_of o file) file n address) (layout_of o file) (shown_by (is_rv file) (file_endian file) o)
    (over_by (is_rv file) (file_endian file) o text n says) k steps r w reading)
