-- Entry states of frames by their ranks.
use Rattle.std.proofs.Common.{inl, inr, ◌≡◌, ℕ, ◌^◌, List, true, false, Option, Some, None, sym, ap, ◌∙◌, subst}
use Rattle.std.specs.Prelude.{◌||◌, ◌&&◌, is_some, slice_get}
use Rattle.std.proofs.lemmas.Bool.{cases_eq}
use Rattle.word_spec.specs.State.{State, IsState}
use Rattle.machine_spec.specs.Machine.{IsAtPlace, Machine}
use Rattle.bilv_spec.specs.Elf.{Cell, is_kept, kept, loaded}
use Rattle.bilv_spec.specs.Files.{program_of}
use Rattle.bilv_spec.specs.Notes.{Notes}
use Rattle.bilv_spec.specs.Points.{byte_of_cell}
use Rattle.bilv_spec.specs.EntryFaults.{EntryStateFault, IsEntryStateFault}
use Rattle.bilv_spec.specs.Run.{Program, false_line}
use Rattle.bilv_spec.specs.Verdict.{IsEntryState}
use Rattle.frame_spec.specs.Frames.{Contract, Frame}
use Rattle.frame_spec.specs.FrameVerdict.{frame_of}
use Rattle.table_run.specs.CalledFrames.{program_in}
use Rattle.table_run.specs.CalledRuns.{bare_program}
use Rattle.table_run.specs.Known.{IsRightTo}
use Rattle.table_run.proofs.Ranks.{own_rank, whole}

module _ (p : Program) (contracts : List Contract) (rank : ℕ) (s : State) where
  module _ (x : Contract) (is : slice_get contracts rank ≡ Some x) where
    pub entry_of_contract : IsEntryState (program_in p (Some x)) s → IsEntryState (frame_of (whole p contracts) rank).program s
    entry_of_contract e = subst (λ (f : Frame). IsEntryState f.program s) (own_rank p contracts rank x is) e

    pub fault_of_contract : (f : EntryStateFault) → IsEntryStateFault (program_in p (Some x)) s f →
        IsEntryStateFault (frame_of (whole p contracts) rank).program s f
    fault_of_contract e h = subst (λ (f : Frame). IsEntryStateFault f.program s e) (own_rank p contracts rank x is) h

    pub right_of_own : IsRightTo (frame_of (whole p contracts) rank).program s (2 ^ 32) → IsRightTo (program_in p (Some x)) s (2 ^ 32)
    right_of_own right = subst (λ (f : Frame). IsRightTo f.program s (2 ^ 32)) (sym (own_rank p contracts rank x is)) right

    pub own_is_at : (frame_of (whole p contracts) rank).program.entry ≡ x.at
    own_is_at = sym (ap (λ (f : Frame). f.program.entry) (own_rank p contracts rank x is))

-- ---- a contract's frame

module _ (m : Machine) (file : List ℕ) (notes : Notes) (entry : ℕ) (x : Contract) (s : State) where
  abbrev q : Program
  q = program_in (program_of m file notes entry) (Some x)

  kept_is : (o : Option Cell) (c : Cell) → o ≡ Some c → kept c ≡ true → (is_kept o || (is_some o && false)) ≡ true
  kept_is o c is kept_so = ap (λ (o : Option Cell). is_kept o || (is_some o && false)) is ∙ ap (λ b. b || (true && false)) kept_so

  pub own_entry : IsState s → s.pc ≡ x.at → IsAtPlace m.narrow (s.regs m.link) → None ≡ false_line m.endian x.needs s s →
      IsRightTo (bare_program m file) s (2 ^ 32) → IsEntryState q s
  own_entry is at link needs right = record {
    state = is;
    pc = at;
    link = link;
    kept_bytes = λ a c low cell kept_so. (elim (cases_eq (s.mem a) c.byte) [
      | inl same ↦ same
      | inr other ↦ absurd (right a low (low, kept_is (loaded file a) c cell kept_so, λ is. other (is ∙ ap byte_of_cell cell)))
    ]);
    fixed_bytes = λ a c low cell none. absurd (let no_such : false ≡ true = none in cc);
    requires = sym needs;
  }
