-- The entry condition of an unrolled program is that of its program.
use Rattle.std.proofs.Common.{◌≡◌, ℕ, ◌^◌, ◌<◌, refl, ap, sym, ◌∙◌, subst, Option, Some, None, Bool, true, false}
use Rattle.std.specs.Prelude.{◌↔◌, ◌&&◌, ◌||◌, is_some, if◌then◌else◌}
use Rattle.word_spec.specs.State.{State}
use Rattle.bilv_spec.specs.Elf.{Cell, kept}
use Rattle.machine_spec.specs.Machine.{IsAtPlace}
use Rattle.bilv_spec.specs.Run.{Program, is_kept, false_line}
use Rattle.bilv_spec.specs.Verdict.{IsEntryState, fixed}
use Rattle.bilv_spec.specs.Points.{is_known_at, byte_of_cell}
use Rattle.bilv_spec.specs.Questions.{IsEntryStateOver}
use Rattle.walk_spec.specs.Unrolled.{UnrolledProgram, byte_of_runs}
use Rattle.term_spec.specs.WalkQuestions.{MeetsEntry, MeetsEntryOver}
use Rattle.walk_spec.specs.Unrolling.{IsUnrolling}
use Rattle.term_spec.specs.TermLaws.{AsksKnown, EntryIsSame, EntryIsSameOver}
use Rattle.bilv_spec.proofs.AskedBytes.{known}

or_right : (b c : Bool) → c ≡ true → (b || c) ≡ true
or_right true c e = refl
or_right false c e = e

module _ (p : Program) (k : ℕ) (u : UnrolledProgram) (un : IsUnrolling p k u) (s : State) where
  requires_same : false_line u.endian u.requires s s ≡ false_line p.machine.endian p.notes.requires s s
  requires_same = ap (λ z. false_line z u.requires s s) un.endian ∙ ap (λ z. false_line p.machine.endian z s s) un.requires

  kept_known : (a : ℕ) (c : Cell) → p.loaded a ≡ Some c → kept c ≡ true → is_known_at p a ≡ true
  kept_known a c e h = ap (λ z. is_kept z || (is_some z && fixed p.notes.fixed a)) e ∙ ap (λ z. z || (true && fixed p.notes.fixed a)) h

  fixed_known : (a : ℕ) (c : Cell) → p.loaded a ≡ Some c → fixed p.notes.fixed a ≡ true → is_known_at p a ≡ true
  fixed_known a c e h = ap (λ z. is_kept z || (is_some z && fixed p.notes.fixed a)) e ∙ or_right (kept c) (fixed p.notes.fixed a) h

  byte_is : (a : ℕ) (c : Cell) → a < 2 ^ 32 → p.loaded a ≡ Some c → is_known_at p a ≡ true → byte_of_runs u.known a ≡ Some c.byte
  byte_is a c l e h = un.known a l ∙ ap (λ z. if z then Some (byte_of_cell (p.loaded a)) else None) h ∙ ap (λ z. Some (byte_of_cell z)) e

  place_from : IsAtPlace u.narrow (s.regs u.link) → IsAtPlace p.machine.narrow (s.regs p.machine.link)
  place_from h = subst (λ (z : ℕ). IsAtPlace p.machine.narrow (s.regs z)) un.link (subst (λ (n : Bool). IsAtPlace n (s.regs u.link)) un.narrow h)

  place_to : IsAtPlace p.machine.narrow (s.regs p.machine.link) → IsAtPlace u.narrow (s.regs u.link)
  place_to h = subst (λ (z : ℕ). IsAtPlace u.narrow (s.regs z)) (sym un.link) (subst (λ (n : Bool). IsAtPlace n (s.regs p.machine.link)) (sym un.narrow) h)

  entry_from : MeetsEntry u s → IsEntryState p s
  entry_from m = record {
    state = m.state;
    pc = m.pc ∙ un.entry;
    link = place_from m.lines.link;
    kept_bytes = λ a c l e h. m.bytes a c.byte l (byte_is a c l e (kept_known a c e h)) refl;
    fixed_bytes = λ a c l e h. m.bytes a c.byte l (byte_is a c l e (fixed_known a c e h)) refl;
    requires = sym requires_same ∙ m.lines.requires;
  }

  byte_by : (is : IsEntryState p s) (a b : ℕ) (o : Option Cell) (t : Bool) → a < 2 ^ 32 → p.loaded a ≡ o → is_known_at p a ≡ t →
      (if t then Some (byte_of_cell o) else None) ≡ Some b → s.mem a ≡ b
  byte_by is a b o false l e h g = absurd (cc)
  byte_by is a b (Some c) true l e h g = known p s is a c l e h ∙ (cc)
  byte_by is a b None true l e h g = absurd (let f : false ≡ true = ap (λ z. is_kept z || (is_some z && fixed p.notes.fixed a)) (sym e) ∙ h in cc)

  entry_to : IsEntryState p s → MeetsEntry u s
  entry_to is = record {
    state = is.state;
    pc = is.pc ∙ sym un.entry;
    lines = record { link = place_to is.link; requires = requires_same ∙ is.requires };
    bytes = λ a b l e t. byte_by is a b (p.loaded a) (is_known_at p a) l refl refl (sym (un.known a l) ∙ e);
  }

  pub entry_same : MeetsEntry u s ↔ IsEntryState p s
  entry_same = (entry_from, entry_to)

pub entry_is_same : EntryIsSame
entry_is_same p k u un s = entry_same p k u un s

-- so it is over the known bytes that are asked
module _ (p : Program) (k : ℕ) (u : UnrolledProgram) (un : IsUnrolling p k u) (asked : ℕ → Bool) (asks : AsksKnown p asked) (s : State) where
  over_from : MeetsEntryOver u asked s → IsEntryStateOver p asked s
  over_from m = record {
    state = m.state;
    pc = m.pc ∙ un.entry;
    link = place_from p k u un s m.lines.link;
    bytes = λ a c l e t. m.bytes a c.byte l (byte_is p k u un s a c l e (asks a t)) t;
    requires = sym (requires_same p k u un s) ∙ m.lines.requires;
  }

  byte_over : (is : IsEntryStateOver p asked s) (a b : ℕ) (o : Option Cell) (t : Bool) → a < 2 ^ 32 → asked a ≡ true → p.loaded a ≡ o → is_known_at p a ≡ t →
      (if t then Some (byte_of_cell o) else None) ≡ Some b → s.mem a ≡ b
  byte_over is a b o false l ask e h g = absurd (cc)
  byte_over is a b (Some c) true l ask e h g = is.bytes a c l e ask ∙ (cc)
  byte_over is a b None true l ask e h g = absurd (let f : false ≡ true = ap (λ z. is_kept z || (is_some z && fixed p.notes.fixed a)) (sym e) ∙ h in cc)

  over_to : IsEntryStateOver p asked s → MeetsEntryOver u asked s
  over_to is = record {
    state = is.state;
    pc = is.pc ∙ sym un.entry;
    lines = record { link = place_to p k u un s is.link; requires = requires_same p k u un s ∙ is.requires };
    bytes = λ a b l e t. byte_over is a b (p.loaded a) (is_known_at p a) l t refl refl (sym (un.known a l) ∙ e);
  }

  pub entry_over : MeetsEntryOver u asked s ↔ IsEntryStateOver p asked s
  entry_over = (over_from, over_to)

pub entry_is_same_over : EntryIsSameOver
entry_is_same_over p k u un asked asks s = entry_over p k u un asked asks s
