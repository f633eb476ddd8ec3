-- The counts of files, and those that a failed read leaves.
use Rattle.std.proofs.Common.{◌≡◌, ◌≢◌, ℕ, zero, suc, ◌≤◌, List, [], ◌∷◌, Bool, true, false, length, get_or, set, replicate, refl, ap, sym, ◌∙◌, arith, string_bytes, ◌+◌, subst}
use Rattle.std.specs.Prelude.{◌==◌, ◌&&◌, if◌then◌else◌}
use Rattle.std.specs.Str.{bytes_eq}
use Rattle.std.proofs.Math.Nat.{le_refl}
use Rattle.std.proofs.lemmas.Bool.Decides.{nat_tests}
use Rattle.std.proofs.lemmas.Slice.Eq.{bytes_eq-Decides}
use Rattle.call_spec.specs.Outside.{Held, Absent, Bytes}
use Rattle.io_edges.specs.declared.files.MemFile.{MemFile}
use Rattle.io_edges.specs.Begun.{one_if, BeginsAt}
use Rattle.io_edges.specs.Counts.{count_begun, one_more, RaisesOnly}
use Rattle.io_edges.specs.Files.{held_by}
use Rattle.io_edges.specs.Places.{IsPlace}
use Rattle.io_edges.specs.Shelves.{begun_at, count_at}

-- a choice of two counts, by its test
chosen : (t : Bool) (a b c : ℕ) → a ≡ c → b ≡ c → (if t then a else b) ≡ c
chosen true a b c first second = first
chosen false a b c first second = second

same_else : (t : Bool) (a b c : ℕ) → b ≡ c → (if t then a else b) ≡ (if t then a else c)
same_else t a b c e = ap (λ x. if t then a else x) e

le_choice : (t : Bool) (a b c d : ℕ) → a ≤ c → b ≤ d → (if t then a else b) ≤ (if t then c else d)
le_choice true a b c d first second = first
le_choice false a b c d first second = second

-- the test of a name that is held, or not
not_here : (t : Bool) (bytes : List ℕ) (r : Held) → (if t then Bytes bytes else r) ≡ Absent → (t ≡ false) × (r ≡ Absent)
not_here true bytes r e = cc
not_here false bytes r e = (refl, e)

pub count_zero : (files : List MemFile) (n : ℕ) (name : List ℕ) → count_at files (replicate n 0) 0 name ≡ 0
count_zero [] n name = refl
count_zero (x ∷ files) zero name = refl
count_zero (x ∷ files) (suc n) name = chosen (bytes_eq (string_bytes x.name) name) 0 (count_at files (replicate n 0) 0 name) 0 refl (count_zero files n name)

pub count_here : (files : List MemFile) (counts : List ℕ) (absent : ℕ) (name : List ℕ) (i d : ℕ) → IsPlace files name i → length counts ≡ length files →
    count_at files counts absent name ≡ get_or counts i d
count_here [] counts absent name i d p long = absurd p
count_here (x ∷ files) [] absent name i d p long = absurd (omega arith)
count_here (x ∷ files) (c ∷ counts) absent name zero d p long = ap (λ t. if t then c else count_at files counts absent name) p
count_here (x ∷ files) (c ∷ counts) absent name (suc i) d p long =
    ap (λ t. if t then c else count_at files counts absent name) p.0 ∙ count_here files counts absent name i d p.1 (omega arith)

pub count_absent : (files : List MemFile) (counts : List ℕ) (absent : ℕ) (name : List ℕ) → held_by files name ≡ Absent →
    count_at files counts absent name ≡ absent
count_absent [] counts absent name none = refl
count_absent (x ∷ files) [] absent name none = refl
count_absent (x ∷ files) (c ∷ counts) absent name none =
    let r = not_here (bytes_eq (string_bytes x.name) name) x.bytes.items (held_by files name) none in
    ap (λ t. if t then c else count_at files counts absent name) r.0 ∙ count_absent files counts absent name r.1

-- the count of absent names is none of a name that is held
count_held : (files : List MemFile) (counts : List ℕ) (a b : ℕ) (name : List ℕ) → length counts ≡ length files → held_by files name ≢ Absent →
    count_at files counts a name ≡ count_at files counts b name
count_held [] counts a b name long held = absurd (held refl)
count_held (x ∷ files) [] a b name long held = absurd (omega arith)
count_held (x ∷ files) (c ∷ counts) a b name long held =
    by_test (bytes_eq (string_bytes x.name) name) x.bytes.items (held_by files name) _ _ (λ h. count_held files counts a b name (omega arith) h) held
  where
    by_test : (t : Bool) (bytes : List ℕ) (r : Held) (v w : ℕ) → (r ≢ Absent → v ≡ w) → (if t then Bytes bytes else r) ≢ Absent →
        (if t then c else v) ≡ (if t then c else w)
    by_test true bytes r v w rest h = refl
    by_test false bytes r v w rest h = rest h

pub count_never_falls : (files : List MemFile) (counts : List ℕ) (a b : ℕ) (name : List ℕ) → a ≤ b → count_at files counts a name ≤ count_at files counts b name
count_never_falls [] counts a b name h = h
count_never_falls (x ∷ files) [] a b name h = h
count_never_falls (x ∷ files) (c ∷ counts) a b name h = le_choice (bytes_eq (string_bytes x.name) name) c _ c _ (le_refl c)
    (count_never_falls files counts a b name h)

pub set_never_falls : (files : List MemFile) (counts : List ℕ) (absent i d c : ℕ) (name : List ℕ) → get_or counts i d ≤ c →
    count_at files counts absent name ≤ count_at files (set counts i c) absent name
set_never_falls [] counts absent i d c name h = le_refl absent
set_never_falls (x ∷ files) [] absent i d c name h = le_refl absent
set_never_falls (x ∷ files) (e ∷ counts) absent zero d c name h = le_choice (bytes_eq (string_bytes x.name) name) e _ c _ h (le_refl _)
set_never_falls (x ∷ files) (e ∷ counts) absent (suc i) d c name h =
    le_choice (bytes_eq (string_bytes x.name) name) e _ e _ (le_refl e) (set_never_falls files counts absent i d c name h)

pub set_here : (files : List MemFile) (counts : List ℕ) (absent : ℕ) (name : List ℕ) (i c : ℕ) → IsPlace files name i → length counts ≡ length files →
    count_at files (set counts i c) absent name ≡ c
set_here [] counts absent name i c p long = absurd p
set_here (x ∷ files) [] absent name i c p long = absurd (omega arith)
set_here (x ∷ files) (d ∷ counts) absent name zero c p long = ap (λ t. if t then c else count_at files counts absent name) p
set_here (x ∷ files) (d ∷ counts) absent name (suc i) c p long =
    ap (λ t. if t then d else count_at files (set counts i c) absent name) p.0 ∙ set_here files counts absent name i c p.1 (omega arith)

skipped : (t : Bool) (a b v : ℕ) (no : t ≢ true) → (if t then a else v) ≡ (if t then b else v)
skipped t a b v = elim t as (λ t. t ≢ true → (if t then a else v) ≡ (if t then b else v)) [ true ↦ λ no. absurd (no refl) | false ↦ λ no. refl ]

set_other : (files : List MemFile) (counts : List ℕ) (absent : ℕ) (name n : List ℕ) (i c : ℕ) → IsPlace files name i → n ≢ name →
    count_at files (set counts i c) absent n ≡ count_at files counts absent n
set_other [] counts absent name n i c p other = absurd p
set_other (x ∷ files) [] absent name n i c p other = refl
set_other (x ∷ files) (d ∷ counts) absent name n zero c p other =
    let named = (bytes_eq-Decides (string_bytes x.name) name).0 p in
    skipped (bytes_eq (string_bytes x.name) n) c d (count_at files counts absent n) (λ t. other (sym ((bytes_eq-Decides (string_bytes x.name) n).0 t) ∙ named))
set_other (x ∷ files) (d ∷ counts) absent name n (suc i) c p other =
    same_else (bytes_eq (string_bytes x.name) n) d _ _ (set_other files counts absent name n i c p.1 other)

-- a read of a name that is held failed
pub raises_here : (files : List MemFile) (counts : List ℕ) (absent : ℕ) (name : List ℕ) (i d c : ℕ) → IsPlace files name i → length counts ≡ length files →
    c ≡ one_more (get_or counts i d) →
    RaisesOnly (held_by files) (count_at files counts absent) (count_at files (set counts i c) absent) name
raises_here files counts absent name i d c p long more = record {
  risen = set_here files counts absent name i c p long ∙ more ∙ ap one_more (sym (count_here files counts absent name i d p long));
  others_held = λ n other held. set_other files counts absent name n i c p other;
  others_absent = λ n held none. set_other files counts absent name n i c p (λ same. held (ap (held_by files) (sym same) ∙ none));
}

-- a read of a name that no file has failed
pub raises_absent : (files : List MemFile) (counts : List ℕ) (a b : ℕ) (name : List ℕ) → held_by files name ≡ Absent → length counts ≡ length files →
    b ≡ one_more a →
    RaisesOnly (held_by files) (count_at files counts a) (count_at files counts b) name
raises_absent files counts a b name none long more = record {
  risen = count_absent files counts b name none ∙ more ∙ ap one_more (sym (count_absent files counts a name none));
  others_held = λ n other held. count_held files counts b a n long held;
  others_absent = λ n held none'. absurd (held none);
}

-- ---- reads that began

pub begun_zero : (files : List MemFile) (n : ℕ) (name : List ℕ) (place : ℕ) → begun_at files (replicate n 0) name place ≡ 0
begun_zero files n name place = chosen (place == 0) (count_at files (replicate n 0) 0 name) 0 0 (count_zero files n name) refl

-- a read of a name that is held raises its count, if it began at the first byte
pub begun_here : (files : List MemFile) (counts : List ℕ) (name : List ℕ) (i d c at : ℕ) → IsPlace files name i → length counts ≡ length files →
    c ≡ count_begun at (get_or counts i d) → count_at files (set counts i c) 0 name ≡ count_begun at (count_at files counts 0 name)
begun_here files counts name i d c at p long more =
    set_here files counts 0 name i c p long ∙ more ∙ ap (count_begun at) (sym (count_here files counts 0 name i d p long))

raised_by : (place at v w : ℕ) → (place == 0) ≡ true → w ≡ count_begun at v → w ≤ v + one_if (place == at)
raised_by place at v w first is = by (at == 0) refl
  where
    by : (t : Bool) → (at == 0) ≡ t → w ≤ v + one_if (place == at)
    by true e =
        let more : w ≡ one_more v = is ∙ ap (λ z. if z then one_more v else v) e in
        let here : (place == at) ≡ true = grind (arith, nat_tests) in
        let o : one_if (place == at) ≡ 1 = ap one_if here in
        omega (arith, more, o)
    by false e = let more : w ≡ v = is ∙ ap (λ z. if z then one_more v else v) e in omega (arith, more)

pub begins_here : (files : List MemFile) (counts : List ℕ) (name : List ℕ) (i d c at : ℕ) → IsPlace files name i → length counts ≡ length files →
    c ≡ count_begun at (get_or counts i d) → BeginsAt (begun_at files counts) (begun_at files (set counts i c)) name at
begins_here files counts name i d c at p long more n place = by (place == 0) refl
  where
    same : (t : Bool) → bytes_eq n name ≡ t → (place == 0) ≡ true →
        count_at files (set counts i c) 0 n ≤ count_at files counts 0 n + one_if (t && (place == at))
    same true e first =
        let is = (bytes_eq-Decides n name).0 e in
        raised_by place at (count_at files counts 0 n) (count_at files (set counts i c) 0 n) first
        (subst (λ x. count_at files (set counts i c) 0 x ≡ count_begun at (count_at files counts 0 x)) (sym is)
        (begun_here files counts name i d c at p long more))
    same false e first =
        let other : n ≢ name = λ is. let t = (bytes_eq-Decides n name).1 is in cc in
        let kept = set_other files counts 0 name n i c p other in
        omega (arith, kept)

    by : (t : Bool) → (place == 0) ≡ t →
        (if t then count_at files (set counts i c) 0 n else 0)
        ≤ (if t then count_at files counts 0 n else 0) + one_if (bytes_eq n name && (place == at))
    by true e = same (bytes_eq n name) refl e
    by false e = omega arith
