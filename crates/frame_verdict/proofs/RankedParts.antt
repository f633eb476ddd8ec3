-- What makes the frame of a rank.
use Rattle.std.proofs.Common.{◌≡◌, refl, sym, ap, ◌∙◌, subst, arith, ℕ, zero, suc, ◌<◌, ◌^◌, true, List, [], ◌∷◌, Option, Some, None, Result, IfErr, length, map, get_or}
use Rattle.std.specs.Prelude.{All, Contains, slice_get, take}
use Rattle.std.proofs.lemmas.List.Elements.{All-contains}
use Rattle.std.proofs.lemmas.Option.{get_or_from_slice_get, slice_get_past, slice_get_within}
use Rattle.std.proofs.lemmas.List.{length-map}
use Rattle.bilv_spec.specs.Files.{program_of}
use Rattle.bilv_spec.specs.Notes.{Assert, Notes}
use Rattle.bilv_spec.specs.Run.{Program}
use Rattle.bilv_spec.proofs.PointsInGraph.{of_map}
use Rattle.machine_spec.specs.Machine.{Machine}
use Rattle.machine_spec.specs.MachineLaws.{IsFitted}
use Rattle.machine_spec.specs.StateText.{Layout}
use Rattle.frame_spec.specs.Frames.{Contract, Frame}
use Rattle.frame_spec.specs.FrameVerdict.{Whole, frame_by, frame_of}
use Rattle.notes_value.specs.FrameViews.{contract_of}
use Rattle.notes_value.specs.NoteViews.{notes_of}
use Rattle.notes_value.specs.Reads.{AreOver, IsReadableContract}
use Rattle.notes_value.specs.declared.notes.Contract.{Contract as Listed}
use Rattle.notes_value.specs.declared.notes.Notes.{Notes as Held}
use Rattle.program_points.specs.Listed.{HasTooMany}
use Rattle.program_value.proofs.Readable.{can_read}
use Rattle.program_points.specs.declared.values.PointsFault.{PointsFault}
use Rattle.question_form.specs.declared.unrolled.Unrolled.{Unrolled}
use Rattle.unroller.specs.Steps.{WritesFew}
use Rattle.frame_verdict.specs.FrameFunctions.{IsCallable, IsNotesAt, contracts_of, frame_at, notes_by, whole_of_framed}
use Rattle.frame_verdict.specs.declared.framed.Framed.{Framed}

module _ {A B : Type 0} (f : A → B) where
  pub take_map : (n : ℕ) (xs : List A) → map f (take n xs) ≡ take n (map f xs)
  take_map zero xs = refl
  take_map (suc n) [] = refl
  take_map (suc n) (x ∷ xs) = ap (λ z. f x ∷ z) (take_map n xs)

  pub some_at : (xs : List A) (n : ℕ) (d : A) → n < length xs → slice_get (map f xs) n ≡ Some (f (get_or xs n d))
  some_at [] n d l = absurd (omega arith)
  some_at (x ∷ xs) zero d l = refl
  some_at (x ∷ xs) (suc n) d l = some_at xs n d (omega arith)

module _ (m : Machine) (file : List ℕ) (notes : Notes) (entry : ℕ) (invariants : List ℕ) (contracts : List Contract) (rank : ℕ) (n : Notes)
    (is : n ≡ notes_by notes (slice_get contracts rank)) where
  abbrev w : Whole
  w = record { program = program_of m file notes entry; invariants = invariants; contracts = contracts }

  -- a contract's
  pub own_frame_is : (x : Contract) (stepped : List Contract) → slice_get contracts rank ≡ Some x → stepped ≡ take rank contracts →
      record { program = program_of m file n x.at; invariants = invariants; cuts = true; stepped = stepped; own = Some x } ≡ frame_of w rank
  own_frame_is x stepped some those =
      ap (λ (z : Notes). record { program = program_of m file z x.at; invariants = invariants; cuts = true; stepped = stepped; own = Some x })
      (is ∙ ap (notes_by notes) some)
      ∙ ap (λ (z : List Contract). record { program = program_of m file (notes_by notes (Some x)) x.at; invariants = invariants; cuts = true; stepped = z; own = Some x })
      those
      ∙ sym (ap (frame_by w rank) some)

-- ---- of a function of two files

module _ {M I S : Type 0} {ms : _} {vs : _} (x : Framed M I S ms vs) (rank : ℕ) (n : Notes) where
  module _ (d : Listed) (low : rank < length x.contracts.now) where
    abbrev its_own : Listed
    its_own = get_or x.contracts.now rank d

    pub own_parts : IsNotesAt x rank n → (stepped : List Listed) → stepped ≡ take rank x.contracts.now →
        record {
          program = program_of ms.machine x.program.image.now n its_own.at;
          invariants = x.invariants.now;
          cuts = true;
          stepped = map contract_of stepped;
          own = Some (contract_of its_own);
        } ≡ frame_at x rank
    own_parts is stepped those =
        own_frame_is ms.machine x.program.image.now (notes_of x.program.notes.now) x.program.entry x.invariants.now (contracts_of x) rank n is (contract_of its_own) (map contract_of stepped)
        (some_at contract_of x.contracts.now rank d low) (ap (map contract_of) those ∙ take_map contract_of rank x.contracts.now)

    -- so of a program that is the frame's, told by an equation
    pub own_parts_by : IsNotesAt x rank n → (stepped : List Listed) → stepped ≡ take rank x.contracts.now → (p : Program) →
        p ≡ program_of ms.machine x.program.image.now n its_own.at →
        record {
          program = p;
          invariants = x.invariants.now;
          cuts = true;
          stepped = map contract_of stepped;
          own = Some (contract_of its_own);
        } ≡ frame_at x rank
    own_parts_by is stepped those p same =
        ap (λ (z : Program). record {
          program = z;
          invariants = x.invariants.now;
          cuts = true;
          stepped = map contract_of stepped;
          own = Some (contract_of its_own);
        }) same ∙ own_parts is stepped those

  -- so of the program's function
  pub entry_parts_by : IsNotesAt x rank n → rank ≡ length x.contracts.now → (p : Program) →
      p ≡ program_of ms.machine x.program.image.now n x.program.entry →
      record { program = p; invariants = x.invariants.now; cuts = true; stepped = contracts_of x; own = None } ≡ frame_at x rank
  entry_parts_by is last p same =
      let none : slice_get (contracts_of x) rank ≡ None =
      slice_get_past (contracts_of x) rank (let l = length-map x.contracts.now contract_of in omega arith) in
      ap (λ (z : Program). record { program = z; invariants = x.invariants.now; cuts = true; stepped = contracts_of x; own = None })
      (same
      ∙ ap (λ (z : Notes). program_of ms.machine x.program.image.now z x.program.entry) (is ∙ ap (notes_by (notes_of x.program.notes.now)) none))
      ∙ sym (ap (frame_by (whole_of_framed x) rank) none)

-- the notes of the contract of a rank
pub own_notes : {M I S : Type 0} {ms : _} {vs : _} (x : Framed M I S ms vs) (rank : ℕ) (n : Notes) (d : Listed) → rank < length x.contracts.now →
    n ≡ notes_by (notes_of x.program.notes.now) (Some (contract_of (get_or x.contracts.now rank d))) → IsNotesAt x rank n
own_notes x rank n d low h = h ∙ ap (notes_by (notes_of x.program.notes.now)) (sym (some_at contract_of x.contracts.now rank d low))

-- what has too many points, told of an equal frame
pub more_of : (r : Result Unrolled PointsFault) (f g : Frame) (k max : ℕ) → f ≡ g → IfErr r (HasTooMany f k max) → IfErr r (HasTooMany g k max)
more_of r f g k max e h = subst (λ (z : Frame). IfErr r (HasTooMany z k max)) e h

-- the contracts of a function can be stepped over
pub callable_of : {M I S : Type 0} {ms : _} {vs : _} (m : Machine) (x : Framed M I S ms vs) → All (λ c. IsCallable m (contract_of c)) x.contracts.now → (y : Contract) → Contains (contracts_of x) y →
    IsCallable m y
callable_of m x all y c =
    let it = of_map contract_of x.contracts.now y c in
    subst (IsCallable m) it.2 (All-contains (λ (z : Listed). IsCallable m (contract_of z)) x.contracts.now it.0 all it.1)

-- the lines of the notes of a frame are over the words of the machine
pub over_at : {M I S : Type 0} {ms : _} {vs : _} (x : Framed M I S ms vs) (rank : ℕ) (n : Notes) → All (λ c. IsCallable ms.machine (contract_of c)) x.contracts.now →
    IsNotesAt x rank n → AreOver ms.machine.has_register ms.machine.has_flag n
over_at {ms = ms} x rank n all is = subst (AreOver ms.machine.has_register ms.machine.has_flag) (sym is) (by (slice_get (contracts_of x) rank) refl)
  where
    by : (o : Option Contract) → slice_get (contracts_of x) rank ≡ o →
        AreOver ms.machine.has_register ms.machine.has_flag (notes_by (notes_of x.program.notes.now) o)
    by None e = x.program.over
    by (Some y) e = record {
      requires = (callable_of ms.machine x all y (
        rank,
        slice_get_within (contracts_of x) rank y e,
        get_or_from_slice_get (contracts_of x) rank y y e,
      )).needs;
      ensures = λ k d low. absurd (omega arith);
      asserts = x.program.over.asserts;
    }

-- and read
read_by : (m : Machine) (form : Layout) → IsFitted m form → (c : Contract) → IsCallable m c → IsReadableContract m.has_register c
read_by m form fitted c is = record {
  needs = λ k d low. can_read m form fitted (get_or c.needs k d).says (is.needs k d low);
  gives = λ k d low. can_read m form fitted (get_or c.gives k d).says (is.gives k d low);
  writes = λ k d low. can_read m form fitted (get_or c.writes k d).says (is.writes k d low).0;
  registers = is.registers;
}

pub all_read : (m : Machine) (form : Layout) → IsFitted m form → (cs : List Listed) → All (λ x. IsCallable m (contract_of x)) cs →
    All (λ x. IsReadableContract m.has_register (contract_of x)) cs
all_read m form fitted cs all = λ k d low. read_by m form fitted (contract_of (get_or cs k d)) (all k d low)

-- those that are stepped over write few bytes
pub few_of : {M I S : Type 0} {ms : _} {vs : _} (m : Machine) (x : Framed M I S ms vs) → All (λ c. IsCallable m (contract_of c)) x.contracts.now → (y : Listed) → Contains x.contracts.now y → WritesFew y
few_of m x all y c = (All-contains (λ (z : Listed). IsCallable m (contract_of z)) x.contracts.now y all c).few

-- the assert lines of equal notes
pub words_of : (notes of : Held) → of ≡ notes → ((a : Assert) → Contains (notes_of notes).asserts a → a.at < 2 ^ 32) → (a : Assert) →
    Contains (notes_of of).asserts a → a.at < 2 ^ 32
words_of notes of e h a c = h a (subst (λ (z : Held). Contains (notes_of z).asserts a) e c)
