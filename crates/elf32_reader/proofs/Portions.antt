-- The parts of the loaded addresses.
use Rattle.std.proofs.Common.{◌≡◌, ℕ, zero, suc, ◌+◌, ◌-◌, ◌≤◌, ◌<◌, List, length, get_or, refl, ap, sym, subst, ◌∙◌, ◌&&◌, nat_lt, arith, true, Some, None, ◌^◌}
use Rattle.std.specs.Prelude.{slice_get}
use Rattle.std.specs.List.{AllWithin}
use Rattle.std.proofs.lemmas.List.{get_or_default}
use Rattle.bilv_spec.specs.Elf.{segments, loaded, is_kept, byte_in, flags_in, executable}
use Rattle.bilv_spec.specs.LiftText.{is_given_by}
use Rattle.elf32_reader.specs.declared.segments.ProgramHeader.{ProgramHeader}
use Rattle.elf32_reader.specs.declared.parts.Part.{Part}
use Rattle.elf32_reader.specs.Loads.{segment, has_addresses, IsApart, layers}
use Rattle.elf32_reader.specs.Images.{IsTied}
use Rattle.elf32_reader.specs.Portions.{IsFirstPart, IsPartOf}
use Rattle.elf32_reader.proofs.Apart.{none_before, none_across, covers_in, has-kind}
use Rattle.elf32_reader.proofs.Tied.{found_some, loaded_some, loaded_none}

-- an address that no segment covers: those that begin at or before a end at or before it, and the others begin behind the address
pub uncovered : (found : List ProgramHeader) (a x place : ℕ) → IsApart found → place ≤ length found → a ≤ x
    → AllWithin (λ h. h.address ≤ a) found 0 place
    → ((i : ℕ) (e : ProgramHeader) → place ≡ suc i → (get_or found i e).in_memory ≤ a - (get_or found i e).address)
    → ((k : ℕ) (d : ProgramHeader) → place ≤ k → k < length found → x < (get_or found k d).address) → layers x found ≡ 0
uncovered found a x zero apart within le before short above = none_before found x (λ k d w. above k d (omega arith) w)
uncovered found a x (suc i) apart within le before short above =
    let e : ProgramHeader = record { kind = 0; offset = 0; address = 0; in_file = 0; in_memory = 0; flags = 0 } in
    let low : (get_or found i e).address ≤ a = before i e (omega arith) (omega arith) in
    let ends = short i e refl in
    none_across found x i e apart (omega arith) (omega arith) (omega arith) (λ k d behind w. above k d (omega arith) w)

-- the segment before a place ends at or before an address
pub short_at : (found : List ProgramHeader) (a place i : ℕ) (d e : ProgramHeader) → place ≡ suc i → place ≤ length found
    → (get_or found (place - 1) d).in_memory ≤ a - (get_or found (place - 1) d).address
    → (get_or found i e).in_memory ≤ a - (get_or found i e).address
short_at found a place i d e is within h =
    let here : place - 1 ≡ i = omega arith in
    let same : get_or found i e ≡ get_or found (place - 1) d = rw here (get_or_default found i e d (omega arith)) in
    rw same h

-- a part of one of the segments, which no loaded address precedes
pub first_part : (file : List ℕ) (found : List ProgramHeader) (a first k : ℕ) (h : ProgramHeader) (part : Part) → IsTied file found
    → k < length found → get_or found k h ≡ h → a ≤ first → h.address ≤ first → first < h.address + h.in_memory → IsPartOf file h first part
    → ((x : ℕ) → a ≤ x → x < first → layers x found ≡ 0) → IsFirstPart file a part
first_part file found a first k h part tie within at behind low high is gap =
    let begins = is.first in
    let ends = is.last in
    let solid : has_addresses (segment h) ≡ true = subst (λ (y : ProgramHeader). has_addresses (segment y) ≡ true) at (tie.listed.solid k h within) in
    let over = λ (x : ℕ) (l : part.first ≤ x) (m : x ≤ part.last). covers_in x (segment h) (has-kind (segment h) solid) (omega arith) (omega arith) in
    let here = λ (x : ℕ) (l : part.first ≤ x) (m : x ≤ part.last). loaded_some file found x k h tie within at (over x l m) in
    record {
      behind = omega arith;
      some = omega arith;
      loads = segment h;
      of_file = subst (λ (y : ProgramHeader). (i : ℕ) × (slice_get (segments file) i ≡ Some (segment y))) at (tie.listed.members k h within);
      covered = over part.first (omega arith) (omega arith);
      ends = omega arith;
      stored = λ x l. is.given x (omega arith) ∙ ap (λ n. nat_lt (x - n) (length part.bytes.now)) (sym begins);
      gap = λ x l m. loaded_none file found x tie (gap x l (omega arith));
      kept = λ x l m. ap is_kept (here x l m) ∙ sym is.kept;
      flags = λ x l m. ap flags_in (here x l m) ∙ sym is.flags;
      given = λ x l m.
          ap (is_given_by x) (found_some file found x k h tie within at (over x l m))
          ∙ ap (λ b. executable h.flags && b) (is.given x (omega arith) ∙ ap (λ n. nat_lt (x - n) (length part.bytes.now)) (sym begins))
          ∙ ap (λ n. executable n && nat_lt (x - part.first) (length part.bytes.now)) (sym is.flags);
      bytes = λ x l m.
          ap byte_in (here x l m)
          ∙ sym (ap Some (ap (λ n. get_or part.bytes.now (x - n) 0) begins ∙ is.bytes x (omega arith)));
    }

-- no segment covers a number that is no address
pub beyond : (file : List ℕ) (found : List ProgramHeader) (x : ℕ) → IsTied file found → 2 ^ 32 ≤ x → loaded file x ≡ None
beyond file found x tie high =
    loaded_none file found x tie
    (uncovered found x x (length found) tie.apart (omega arith) (omega arith)
    (λ k d from upto. let end = tie.below k d upto in omega arith)
    (λ i e is. let end = tie.below i e (omega arith) in omega arith)
    (λ k d behind upto. absurd (omega arith)))
