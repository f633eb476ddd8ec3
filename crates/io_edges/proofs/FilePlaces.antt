-- What is held under a name, by the place of its file.
use Rattle.std.proofs.Common.{◌≡◌, ℕ, zero, suc, ◌<◌, List, [], ◌∷◌, ◌++◌, Bool, true, false, length, take, get_or, refl, ap, sym, ◌∙◌, arith, string_bytes}
use Rattle.std.specs.Prelude.{if◌then◌else◌}
use Rattle.std.specs.Str.{bytes_eq}
use Rattle.call_spec.specs.Outside.{Held, Absent, Bytes}
use Rattle.io_edges.specs.declared.files.MemFile.{MemFile}
use Rattle.io_edges.specs.Files.{held_by}
use Rattle.io_edges.specs.Places.{IsPlace}

-- the search's step: no file before has the name, and this one has it
pub place_here : (files : List MemFile) (i : ℕ) (f : MemFile) (name : List ℕ) → i < length files → f ≡ get_or files i f → held_by (take i files) name ≡ Absent →
    bytes_eq (string_bytes f.name) name ≡ true → IsPlace files name i
place_here [] i f name inside here none test = absurd (omega arith)
place_here (x ∷ files) zero f name inside here none test = ap (λ y. bytes_eq (string_bytes y.name) name) (sym here) ∙ test
place_here (x ∷ files) (suc i) f name inside here none test =
    let r = not_here (bytes_eq (string_bytes x.name) name) x (held_by (take i files) name) none in
    (r.0, place_here files i f name (omega arith) here r.1 test)
  where
    not_here : (t : Bool) (y : MemFile) (r : Held) → (if t then Bytes y.bytes.items else r) ≡ Absent → (t ≡ false) × (r ≡ Absent)
    not_here true y r e = cc
    not_here false y r e = (refl, e)

-- none of the files before has the name, and this one has another
pub none_more : (files : List MemFile) (f : MemFile) (name : List ℕ) → held_by files name ≡ Absent → bytes_eq (string_bytes f.name) name ≡ false →
    held_by (files ++ f ∷ []) name ≡ Absent
none_more [] f name none other = ap (λ t. if t then Bytes f.bytes.items else Absent) other
none_more (x ∷ files) f name none other =
    more (bytes_eq (string_bytes x.name) name) x (held_by files name) (held_by (files ++ f ∷ []) name) (λ k. none_more files f name k other) none
  where
    more : (t : Bool) (y : MemFile) (r s : Held) → (r ≡ Absent → s ≡ Absent) → (if t then Bytes y.bytes.items else r) ≡ Absent →
        (if t then Bytes y.bytes.items else s) ≡ Absent
    more true y r s step h = cc
    more false y r s step h = step h

pub held_here : (files : List MemFile) (name : List ℕ) (i : ℕ) (f : MemFile) → IsPlace files name i → f ≡ get_or files i f →
    held_by files name ≡ Bytes f.bytes.items
held_here [] name i f p e = absurd p
held_here (x ∷ files) name zero f p e = ap (λ t. if t then Bytes x.bytes.items else held_by files name) p ∙ ap (λ (y : MemFile). Bytes y.bytes.items) (sym e)
held_here (x ∷ files) name (suc i) f p e = ap (λ t. if t then Bytes x.bytes.items else held_by files name) p.0 ∙ held_here files name i f p.1 e
