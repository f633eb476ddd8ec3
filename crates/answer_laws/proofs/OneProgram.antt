-- Two files have one program or one refusal.
use Rattle.std.proofs.Common.{Bool, ◌≡◌, ◌⊎◌, inl, inr, ℕ, ◌<◌, ◌≤◌, refl, ap, sym, ◌∙◌, subst, arith, List, length}
use Rattle.bilv_spec.specs.Notes.{Notes, Function, At, Named}
use Rattle.notes_spec.specs.NotesGrammar.{IsNotesText}
use Rattle.notes_spec.specs.NotesFaults.{NoteFault, IsFirstNoteFault}
use Rattle.bilv_spec.specs.ElfFaults.{IsFunction, Finds, IsAmbiguous}
use Rattle.bilv_spec.specs.Run.{Program}
use Rattle.call_spec.specs.Calls.{Options}
use Rattle.bilv_spec.specs.Files.{machine_of, program_of, IsFunctionAt}
use Rattle.notes_spec.specs.Programs.{vocabulary_of, IsProgram}
use Rattle.notes_spec.specs.Verified.{IsAccepted, IsElfRefused, elf_large, elf_fault, elf_fault_text, AreNotesRefused, AreNotesRefusedIn, notes_limit, notes_large, notes_fault, no_function, ambiguous, note_fault_text, ambiguous_text, IsFound}
use Rattle.bilv_spec.proofs.Faults as elf
use Rattle.notes_spec.proofs.NotesFirst as notes
use Rattle.notes_spec.specs.Scopes.{Vocabulary, Dialect, Plain, Paired, in_dialect}
use Rattle.notes_spec.proofs.NotesSaid.{one_reading}
use Rattle.notes_spec.proofs.Dialects.{paired_is_plain}
use Rattle.frame_spec.specs.FrameVerdict.{Whole}
use Rattle.answer_spec.specs.FrameAnswers.{dialect_for, IsFrameFound}
use Rattle.answer_spec.proofs.Wholes.{programs_are_whole}

same_notes : (o : Options) (file text : List ℕ) (m n : Notes) → IsNotesText (vocabulary_of o file) text m → IsNotesText (vocabulary_of o file) text n → m ≡ n
same_notes o file text m n a b = one_reading (vocabulary_of o file) text m n a b

same_entry : (n : Bool) (file : List ℕ) (f : Function) (a b : ℕ) → IsFunctionAt n file f a → IsFunctionAt n file f b → a ≡ b
same_entry narrow file (At n) a b x y = sym x ∙ y
same_entry narrow file (Named name) a b x y = y.1 a x.0

pub one_program_of : (o : Options) (file text : List ℕ) (p q : Program) → IsProgram o file text p → IsProgram o file text q → p ≡ q
one_program_of o file text p q x y =
    let e = same_notes o file text x.0 y.0 x.2 y.2 in
    let at = same_entry (machine_of o file).narrow file y.0.entry x.1 y.1 (subst (λ (n : Notes). IsFunctionAt (machine_of o file).narrow file n.entry x.1) e x.3) y.3 in
    x.4 ∙ ap (λ n. program_of (machine_of o file) file n x.1) e ∙ ap (program_of (machine_of o file) file y.0) at ∙ sym y.4

pub one_program : (o : Options) (file text : List ℕ) (p q : Program) → IsFound o file text p → IsFound o file text q → p ≡ q
one_program o file text p q x y = one_program_of o file text p q x.2 y.2

pub one_elf_refusal : (file v w : List ℕ) → IsElfRefused file v → IsElfRefused file w → v ≡ w
one_elf_refusal file _ _ (elf_large h) (elf_large k) = refl
one_elf_refusal file _ _ (elf_large h) (elf_fault f k e) = absurd (omega (arith, h, k))
one_elf_refusal file _ _ (elf_fault f h e) (elf_large k) = absurd (omega (arith, h, k))
one_elf_refusal file _ _ (elf_fault f h e) (elf_fault g k d) = ap elf_fault_text (elf.one_fault file f g e d)

pub refused_or_accepted : (file w : List ℕ) → IsElfRefused file w → IsAccepted file → ⊥
refused_or_accepted file _ (elf_large h) a = omega (arith, h, a.0)
refused_or_accepted file _ (elf_fault f h e) a = a.1 f e.0

-- notes without a fault have no first fault
faultless : (v : Vocabulary) (text : List ℕ) (m : Notes) (n : ℕ) (f : NoteFault) → IsNotesText v text m → IsFirstNoteFault v text n f → ⊥
faultless v text m n f a b = notes.never_both v text m n f a b

same_name : (v : Vocabulary) (text : List ℕ) (m n : Notes) (x y : List ℕ) → IsNotesText v text m → IsNotesText v text n → m.entry ≡ Named x →
    n.entry ≡ Named y → x ≡ y
same_name v text m n x y a b e d = let same : Named x ≡ Named y = sym e ∙ ap (λ z. z.entry) (one_reading v text m n a b) ∙ d in cc

same_least : (narrow : Bool) (file name : List ℕ) (a b c d : ℕ) → IsAmbiguous narrow file name a b → IsAmbiguous narrow file name c d → (a ≡ c) × (b ≡ d)
same_least narrow file name a b c d x y =
    let first : a ≡ c = least (x.3 c y.0) (y.3 a x.0) in
    (first, second first (x.3 d y.1) (y.3 b x.1))
  where
    below : a < b
    below = x.2

    under : c < d
    under = y.2

    least : (c ≡ a) ⊎ (b ≤ c) → (a ≡ c) ⊎ (d ≤ a) → a ≡ c
    least (inl e) other = sym e
    least (inr h) (inl e) = e
    least (inr h) (inr g) = let l = below in let m = under in absurd (omega arith)

    second : a ≡ c → (d ≡ a) ⊎ (b ≤ d) → (b ≡ c) ⊎ (d ≤ b) → b ≡ d
    second e (inl h) other = let m = under in absurd (omega arith)
    second e (inr h) (inl g) = let l = below in absurd (omega arith)
    second e (inr h) (inr g) = omega arith

-- notes are refused with one text in a dialect
pub one_refusal_in : (d : Dialect) (o : Options) (file text v w : List ℕ) → AreNotesRefusedIn d o file text v → AreNotesRefusedIn d o file text w → v ≡ w
one_refusal_in d o file text _ _ (notes_large h) (notes_large k) = refl
one_refusal_in d o file text _ _ (notes_large h) (notes_fault n f k e) = absurd (omega arith)
one_refusal_in d o file text _ _ (notes_large h) (no_function n name k t e none) = absurd (omega arith)
one_refusal_in d o file text _ _ (notes_large h) (ambiguous n name a c k t e two) = absurd (omega arith)
one_refusal_in d o file text _ _ (notes_fault m f h x) (notes_large k) = absurd (omega arith)
one_refusal_in d o file text _ _ (notes_fault m f h x) (notes_fault n g k e) =
    let same = notes.one_fault (in_dialect d (vocabulary_of o file)) text m n f g x e in
    ap (λ z. note_fault_text z f) same.0 ∙ ap (note_fault_text n) same.1
one_refusal_in d o file text _ _ (notes_fault m f h x) (no_function n name k t e none) = absurd (faultless (in_dialect d (vocabulary_of o file)) text n m f t x)
one_refusal_in d o file text _ _ (notes_fault m f h x) (ambiguous n name a c k t e two) = absurd (faultless (in_dialect d (vocabulary_of o file)) text n m f t x)
one_refusal_in d o file text _ _ (no_function m name h t e none) (notes_large k) = absurd (omega arith)
one_refusal_in d o file text _ _ (no_function m name h t e none) (notes_fault n f k x) = absurd (faultless (in_dialect d (vocabulary_of o file)) text m n f t x)
one_refusal_in d o file text _ _ (no_function m name h t e none) (no_function n other k u j never) = refl
one_refusal_in d o file text _ _ (no_function m name h t e none) (ambiguous n other a c k u j two) =
    absurd (none a (subst (λ (z : List ℕ). IsFunction (machine_of o file).narrow file z a) (sym (same_name (in_dialect d (vocabulary_of o file)) text m n name other t u e j)) two.0))
one_refusal_in d o file text _ _ (ambiguous m name a c h t e two) (notes_large k) = absurd (omega arith)
one_refusal_in d o file text _ _ (ambiguous m name a c h t e two) (notes_fault n f k x) = absurd (faultless (in_dialect d (vocabulary_of o file)) text m n f t x)
one_refusal_in d o file text _ _ (ambiguous m name a c h t e two) (no_function n other k u j none) =
    absurd (none a (subst (λ (z : List ℕ). IsFunction (machine_of o file).narrow file z a) (same_name (in_dialect d (vocabulary_of o file)) text m n name other t u e j) two.0))
one_refusal_in d o file text _ _ (ambiguous m name a c h t e two) (ambiguous n other a' c' k u j few) =
    let second = subst (λ (z : List ℕ). IsAmbiguous (machine_of o file).narrow file z a c) (same_name (in_dialect d (vocabulary_of o file)) text m n name other t u e j) two in
    let same = same_least (machine_of o file).narrow file other a c a' c' second few in
    ap (λ z. ambiguous_text z c) same.0 ∙ ap (ambiguous_text a') same.1

-- the function that notes name, where it is found
found_named : (narrow : Bool) (file : List ℕ) (f : Function) (name : List ℕ) (entry : ℕ) → f ≡ Named name → IsFunctionAt narrow file f entry →
    Finds narrow file name entry
found_named narrow file f name entry e is = subst (λ (z : Function). IsFunctionAt narrow file z entry) e is

-- Notes that are refused in a dialect where they are notes in it too name no other program.
refused_by : (d : Dialect) (o : Options) (file text w : List ℕ) (m : Notes) (entry : ℕ) → AreNotesRefusedIn d o file text w → length text ≤ notes_limit →
    IsNotesText (in_dialect d (vocabulary_of o file)) text m →
    IsFunctionAt (machine_of o file).narrow file m.entry entry → ⊥
refused_by d o file text _ m entry (notes_large h) short is at = omega (arith, h, short)
refused_by d o file text _ m entry (notes_fault n f h x) short is at = notes.never_both (in_dialect d (vocabulary_of o file)) text m n f is x
refused_by d o file text _ m entry (no_function k name h t e none) short is at =
    let same : m.entry ≡ Named name = ap (λ z. z.entry) (one_reading (in_dialect d (vocabulary_of o file)) text m k is t) ∙ e in
    none entry (found_named (machine_of o file).narrow file m.entry name entry same at).0
refused_by d o file text _ m entry (ambiguous k name a c h t e two) short is at =
    let same : m.entry ≡ Named name = ap (λ z. z.entry) (one_reading (in_dialect d (vocabulary_of o file)) text m k is t) ∙ e in
    let finds = found_named (machine_of o file).narrow file m.entry name entry same at in
    let x = finds.1 a two.0 in let y = finds.1 c two.1 in let l = two.2 in omega arith

pub refused_or_found : (o : Options) (file text w : List ℕ) (p : Program) → AreNotesRefused o file text w → IsFound o file text p → ⊥
refused_or_found o file text w p refused is = refused_by Plain o file text w is.2.0 is.2.1 refused is.1 is.2.2 is.2.3

-- notes that are refused as they are read name no program
pub not_refused : (o : Options) (file text written : List ℕ) (p : Program) → AreNotesRefusedIn (dialect_for text) o file text written → IsFound o file text p → ⊥
not_refused o file text written p refused found =
    refused_or_found o file text written p (subst (λ d. AreNotesRefusedIn d o file text written) (programs_are_whole o file text p found).0 refused) found

-- so of what may have invariants or contracts
pub not_refused_whole : (o : Options) (file text written : List ℕ) (w : Whole) → AreNotesRefusedIn (dialect_for text) o file text written →
    IsFrameFound o file text w → ⊥
not_refused_whole o file text written w refused found =
    let is = found.2 in refused_by (dialect_for text) o file text written is.0.notes is.1 refused found.1 is.2.is_notes is.3

-- so where two functions are compared
pub paired_refused_or_found : (o : Options) (file text w : List ℕ) (p : Program) → AreNotesRefusedIn Paired o file text w → IsFound o file text p → ⊥
paired_refused_or_found o file text w p refused is =
    refused_by Paired o file text w is.2.0 is.2.1 refused is.1 ((paired_is_plain (vocabulary_of o file) text is.2.0).1 is.2.2) is.2.3
