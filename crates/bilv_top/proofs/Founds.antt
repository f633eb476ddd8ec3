-- What is known of a program that was found: its notes are over the registers and flags of the machine.
use Rattle.std.proofs.Common.{◌≡◌, ◌≢◌, ◌≤◌, ℕ, suc, List, [], ◌∷◌, None, Some, Bool, true, false, refl, subst, sym, ◌∙◌, ap, arith}
use Rattle.std.specs.Prelude.{All, if◌then◌else◌, map, slice_get}
use Rattle.std.specs.List.Sorted.{IsStrictlyIncreasing}
use Rattle.answer_spec.specs.FrameAnswers.{IsVerifiedWhole}
use Rattle.answer_spec.proofs.Wholes.{entry_of_text, without_frames}
use Rattle.bilv_spec.specs.Answers.{IsReported}
use Rattle.bilv_spec.specs.Notes.{Notes}
use Rattle.std.proofs.lemmas.List.Elements.{All-nil, All-cons, All-head, All-tail, All-weaker}
use Rattle.frame_verdict.specs.FrameFunctions.{IsCallable}
use Rattle.frame_spec.specs.Frames as frames
use Rattle.frame_spec.specs.FrameVerdict.{Whole}
use Rattle.notes_lang.specs.Framed.{IsContractOver}
use Rattle.machine_spec.specs.Arm.{arm}
use Rattle.bilv_spec.specs.Elf.{file_endian}
use Rattle.call_spec.specs.Calls.{Answer, Budget, Options}
use Rattle.bilv_spec.specs.Run.{Program}
use Rattle.bilv_spec.specs.Files.{IsFunctionAt, is_rv, machine_of, order_of, program_of}
use Rattle.machine_spec.specs.Machine.{Machine, IsAtPlace}
use Rattle.machine_spec.specs.StateText.{Layout}
use Rattle.notes_spec.specs.Programs.{vocabulary_of}
use Rattle.notes_spec.specs.Scopes.{Plain, in_dialect}
use Rattle.notes_spec.proofs.FrameReadings.{notes_are_framed}
use Rattle.word_spec.specs.Memory.{Endian, Little}
use Rattle.machine_spec.specs.RvMachine.{rv32}
use Rattle.notes_value.specs.NoteViews.{notes_of}
use Rattle.notes_value.specs.FrameViews.{contract_of}
use Rattle.notes_value.specs.Reads.{AreOver, AreReadable, IsOver, IsReadableContract}
use Rattle.notes_value.specs.declared.notes.Contract.{Contract}
use Rattle.bilv_top.specs.Frames.{AreContractsOn, AreContractsOver, AreFitted, whole_by, whole_with}
use Rattle.bilv_top.specs.declared.framed.Framed.{Framed}
use Rattle.bilv_top.proofs.Segments.{no_contract}
use Rattle.bilv_top.specs.declared.inputs.Found.{Found}
use Rattle.bilv_top.specs.Chosen.{IsMachineOf}
use Rattle.bilv_top.specs.Due.{IsFoundBy, IsOverFile}

by_kind : (b : Bool) (e : Endian) (o : Options) → (if b then Little else e) ≡ (if b then rv32 o.compressed else arm e o.profile).endian
by_kind true e o = refl
by_kind false e o = refl

-- the byte order of the machine
pub machine_order : (file : List ℕ) (m : Machine) → IsMachineOf file m → order_of file ≡ m.endian
machine_order file m (o, is) = by_kind (is_rv file) (file_endian file) o ∙ ap (λ (n : Machine). n.endian) is

-- what the notes over it read
pub found_readable : (file : List ℕ) (f : Found) (m : Machine) → IsMachineOf file m → IsOverFile file f → AreReadable m.has_register (notes_of f.notes)
found_readable file f m (o, is) by = subst (λ (m : Machine). AreReadable m.has_register (notes_of f.notes)) is (by.readable o)

pub found_over : (file : List ℕ) (f : Found) (m : Machine) → IsMachineOf file m → IsOverFile file f → AreOver m.has_register m.has_flag (notes_of f.notes)
found_over file f m (o, is) by = subst (λ (m : Machine). AreOver m.has_register m.has_flag (notes_of f.notes)) is (by.over o)

-- and what the contracts over it read and change
module _ (file : List ℕ) (cs : List Contract) (m : Machine) (of : IsMachineOf file m) (by : AreContractsOver file cs) where
  pub contracts_readable : All (λ x. IsReadableContract m.has_register (contract_of x)) cs
  contracts_readable = subst (λ (n : Machine). All (λ x. IsReadableContract n.has_register (contract_of x)) cs) of.1 (by.readable of.0)

  pub contracts_over : All (λ x. IsContractOver m.has_register m.has_flag (contract_of x)) cs
  contracts_over = subst (λ (n : Machine). All (λ x. IsContractOver n.has_register n.has_flag (contract_of x)) cs) of.1 (by.over of.0)

  pub contracts_on : AreContractsOn m cs
  contracts_on = record { readable = contracts_readable; over = contracts_over }

-- with invariants there are no contracts
pub without_contracts : (w : Whole) → AreFitted w → w.invariants ≢ [] → w.contracts ≡ []
without_contracts w fitted some = by w.contracts refl
  where
    by : (cs : List frames.Contract) → w.contracts ≡ cs → cs ≡ []
    by [] is = refl
    by (x ∷ rest) is = absurd (some (fitted 0 x (ap (λ (l : List frames.Contract). slice_get l 0) is)).no_invariants)

-- and with contracts no invariants
pub without_invariants : (w : Whole) → AreFitted w → w.contracts ≢ [] → w.invariants ≡ []
without_invariants w fitted some = by w.contracts refl
  where
    by : (cs : List frames.Contract) → w.contracts ≡ cs → w.invariants ≡ []
    by [] is = absurd (some is)
    by (x ∷ rest) is = (fitted 0 x (ap (λ (l : List frames.Contract). slice_get l 0) is)).no_invariants

-- what was found with neither invariants nor contracts, where the notes of one function say so
module _ (o : Options) (file : List ℕ) (found : Found) (by : IsFoundBy o file found) (f : Framed) (same : f.found ≡ found)
    (none : f.invariants.items ≡ []) (free : f.contracts.items ≡ []) where
  pub found_over_file : IsOverFile file f.found
  found_over_file = subst (IsOverFile file) (sym same) by.over_file

  pub found_place : IsAtPlace (machine_of o file).narrow f.found.entry
  found_place =
      let v = in_dialect Plain (vocabulary_of o file) in
      let it = notes_are_framed v found.text.items (notes_of found.notes) by.says in
      subst (λ (x : Found). IsAtPlace (machine_of o file).narrow x.entry) (sym same)
      (entry_of_text v file found.text.items it.0 found.entry it.2
      (subst (λ (n : Notes). IsFunctionAt (machine_of o file).narrow file n.entry found.entry) (sym it.1) by.at))

  pub found_rising : IsStrictlyIncreasing f.invariants.items
  found_rising = subst IsStrictlyIncreasing (sym none) (λ k l. absurd (omega (arith, l)))

  pub found_contracts : AreContractsOver file f.contracts.items
  found_contracts =
      subst (AreContractsOver file) (sym free)
      (record {
        readable = λ o. All-nil (λ x. IsReadableContract (machine_of o file).has_register (contract_of x));
        over = λ o. All-nil (λ x. IsContractOver (machine_of o file).has_register (machine_of o file).has_flag (contract_of x));
      })

  pub found_fitted : AreFitted (whole_by (machine_of o file) file f)
  found_fitted rank x at =
      absurd (let e : None ≡ Some x = subst (λ (cs : List Contract). slice_get (map contract_of cs) rank ≡ Some x) free at in cc)

  -- and its verdict is one on its program
  pub found_reported : (layout : Layout) (b : Budget) (a : Answer) → IsVerifiedWhole layout b (whole_by (machine_of o file) file f) a →
      IsReported (program_of (machine_of o file) file (notes_of found.notes) found.entry) layout b a
  found_reported layout b a verified =
      let w = whole_by (machine_of o file) file f in
      subst (λ (x : Found). IsReported (program_of (machine_of o file) file (notes_of x.notes) x.entry) layout b a) same
      ((without_frames w.invariants w.contracts _ _ none (ap (map contract_of) free)).0 verified)

-- with contracts there are no invariants, of what was found
pub alone_with : (p : Program) (f : Framed) → AreFitted (whole_with p f) → f.contracts.items ≢ [] → f.invariants.items ≡ []
alone_with p f fitted some = without_invariants (whole_with p f) fitted (λ none. some (no_contract f.contracts.items none))

callables : (m : Machine) (cs : List Contract) → All (λ x. IsContractOver m.has_register m.has_flag (contract_of x)) cs →
    ((rank : ℕ) (x : frames.Contract) → slice_get (map contract_of cs) rank ≡ Some x → IsAtPlace m.narrow x.at) → All (λ x. IsCallable m (contract_of x)) cs
callables m [] over places = All-nil (λ x. IsCallable m (contract_of x))
callables m (c ∷ cs) over places =
    let is = All-head (λ x. IsContractOver m.has_register m.has_flag (contract_of x)) c cs over in
    All-cons (λ x. IsCallable m (contract_of x)) c cs
    (record {
      needs = is.needs;
      gives = is.gives;
      writes =
          All-weaker (λ w. IsOver m.has_register m.has_flag w.says × (1 ≤ w.count) × (w.count ≤ 256))
          (λ w. IsOver m.has_register m.has_flag w.says × (1 ≤ w.count)) (λ w h. (h.0, h.1)) (contract_of c).writes is.writes;
      few = is.few;
      registers = is.registers;
      flags = is.flags;
      place = places 0 (contract_of c) refl;
    })
    (callables m cs (All-tail (λ x. IsContractOver m.has_register m.has_flag (contract_of x)) c cs over) (λ rank x is. places (suc rank) x is))

-- contracts that were found can be called
pub callable_contracts : (p : Program) (f : Framed) → AreContractsOn p.machine f.contracts.items → AreFitted (whole_with p f) →
    All (λ x. IsCallable p.machine (contract_of x)) f.contracts.items
callable_contracts p f on fitted = callables p.machine f.contracts.items on.over (λ rank x is. (fitted rank x is).place)

-- what holds of the whole that slices are holds of what was found
pub whole_same : (P : Whole → Type 0) (p : Program) (f : Framed) (ns : List ℕ) (cs : List Contract) → ns ≡ f.invariants.items →
    cs ≡ f.contracts.items → P (record { program = p; invariants = ns; contracts = map contract_of cs }) → P (whole_with p f)
whole_same P p f ns cs same also is =
    subst (λ (l : List Contract). P (record { program = p; invariants = f.invariants.items; contracts = map contract_of l })) also
    (subst (λ (l : List ℕ). P (record { program = p; invariants = l; contracts = map contract_of cs })) same is)
