-- The warnings of program headers, by one header more.
use Rattle.std.proofs.Common.{◌≡◌, ℕ, zero, suc, ◌+◌, ◌*◌, List, [], ◌∷◌, ◌++◌, ap, sym, ◌∙◌, arith, map, true, false, cond}
use Rattle.std.specs.List.{filter}
use Rattle.std.proofs.lemmas.List.{map-append, append-nil}
use Rattle.std.proofs.lemmas.List.Elements.{filter-append}
use Rattle.bilv_spec.specs.Elf.{segment_at, segments_from}
use Rattle.note_check.specs.Ranges.{is_writable_code, range_warning}
use Rattle.note_check.specs.declared.warning.Warning.{Warning}

segments_from-suc : (file : List ℕ) (at n : ℕ) → segments_from file at (suc n) ≡ segments_from file at n ++ segment_at file (at + 32 * n) ∷ []
segments_from-suc file at zero = ap (λ x. segment_at file x ∷ []) (omega arith)
segments_from-suc file at (suc n) =
    ap (λ xs. segment_at file at ∷ xs)
    (segments_from-suc file (at + 32) n ∙ ap (λ x. segments_from file (at + 32) n ++ segment_at file x ∷ []) (omega arith))

segments_from-push : (file : List ℕ) (at n : ℕ) → segments_from file at (n + 1) ≡ segments_from file at n ++ segment_at file (at + 32 * n) ∷ []
segments_from-push file at n = let e : n + 1 ≡ suc n = omega arith in ap (segments_from file at) e ∙ segments_from-suc file at n

-- the warnings of the first n headers
abbrev pub warned_to : (file : List ℕ) → (at n : ℕ) → List Warning
warned_to file at n = map range_warning (filter is_writable_code (segments_from file at n))

split : (file : List ℕ) (at n : ℕ) → warned_to file at (n + 1)
    ≡ warned_to file at n ++ map range_warning (cond (is_writable_code (segment_at file (at + 32 * n))) (segment_at file (at + 32 * n) ∷ []) [])
split file at n =
    ap (λ l. map range_warning (filter is_writable_code l)) (segments_from-push file at n)
    ∙ ap (map range_warning) (filter-append is_writable_code (segments_from file at n) (segment_at file (at + 32 * n) ∷ []))
    ∙ map-append range_warning (filter is_writable_code (segments_from file at n)) _

pub warned_push : (file : List ℕ) (at n : ℕ) (xs : List Warning) (w : Warning) → xs ≡ warned_to file at n
    → is_writable_code (segment_at file (at + 32 * n)) ≡ true → w ≡ range_warning (segment_at file (at + 32 * n))
    → xs ++ w ∷ [] ≡ warned_to file at (n + 1)
warned_push file at n xs w before so is =
    ap (λ ys. ys ++ w ∷ []) before
    ∙ ap (λ y. warned_to file at n ++ y ∷ []) is
    ∙ sym (split file at n
    ∙ ap (λ b. warned_to file at n ++ map range_warning (cond b (segment_at file (at + 32 * n) ∷ []) [])) so)

pub warned_skip : (file : List ℕ) (at n : ℕ) (xs : List Warning) → xs ≡ warned_to file at n
    → is_writable_code (segment_at file (at + 32 * n)) ≡ false → xs ≡ warned_to file at (n + 1)
warned_skip file at n xs before so =
    before
    ∙ sym (split file at n
    ∙ ap (λ b. warned_to file at n ++ map range_warning (cond b (segment_at file (at + 32 * n) ∷ []) [])) so
    ∙ append-nil (warned_to file at n))
