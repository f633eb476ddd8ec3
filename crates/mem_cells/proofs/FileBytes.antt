-- The bytes of the file that are asked.
use Rattle.std.proofs.Common.{◌≡◌, inl, inr, ℕ, suc, ◌+◌, ◌-◌, ◌<◌, ◌≤◌, ◌==◌, Bool, true, false, List, [], ◌∷◌, ◌++◌, Option, Some, None, length, length-append, map, take, drop, get_or, refl, ap, sym, ◌∙◌, subst, arith}
use Rattle.std.specs.Prelude.{if◌then◌else◌, ◌&&◌, ◌||◌, ◌↔◌, nat_le, nat_lt, nat_eq, is_some, slice_index, sum_by, find, Contains, eqb}
use Rattle.std.specs.Ordering.{nat_cmp}
use Rattle.std.specs.List.{list_any, dedup}
use Rattle.std.specs.List.Sorted.{IsStrictlyIncreasing, IsPermutation, IsSorted}
use Rattle.std.proofs.lemmas.List.{drop_more, drop_all, take_more, take_all}
use Rattle.std.proofs.lemmas.List.Elements.{Contains-push_cases, Contains-push, Contains-append_left}
use Rattle.std.proofs.lemmas.List.Folds.{Any-from_list_any, list_any-from_Any}
use Rattle.std.proofs.lemmas.List.Sorted.{Contains-permutation, IsPermutation-sym}
use Rattle.std.proofs.lemmas.List.Sums.{sum_by-cons}
use Rattle.std.proofs.lemmas.List.Kept.{Contains-dedup_nat, Contains-from_dedup}
use Rattle.std.proofs.lemmas.Map.Keys.{IsStrictlyIncreasing-dedup}
use Rattle.std.proofs.lemmas.Bool.Decides.{nat_tests}
use Rattle.word_spec.specs.Words.{add}
use Rattle.walk_spec.specs.Unrolled.{ByteRun, byte_in_run, byte_of_runs, is_in}
use Rattle.term_spec.specs.WalkQuestions.{is_asked}
use Rattle.known_bytes.specs.declared.listing.Known.{Known}
use Rattle.known_bytes.specs.Runs.{run_of, sum_of}
use Rattle.question_form.specs.Views.{kept_of}
use Rattle.mem_cells.specs.declared.file_bytes.FileByte.{FileByte}
use Rattle.mem_cells.specs.Asked.{byte_of_run, file_byte, and_byte, AreFileBytes}

-- what a sort and the removal of equal neighbours leave
pub ordered_same : (xs ys zs : List ℕ) → IsPermutation xs ys → zs ≡ dedup eqb ys → (a : ℕ) → Contains xs a ↔ Contains zs a
ordered_same xs ys zs p e a = (
  (λ h. subst (λ (l : List ℕ). Contains l a) (sym e) (Contains-dedup_nat ys a (Contains-permutation xs ys a p h))),
  (λ h. Contains-permutation ys xs a (IsPermutation-sym xs ys p) (Contains-from_dedup eqb ys a (subst (λ (l : List ℕ). Contains l a) e h))),
)

pub ordered_rise : (ys zs : List ℕ) → IsSorted nat_cmp ys → zs ≡ dedup eqb ys → IsStrictlyIncreasing zs
ordered_rise ys zs h e = subst IsStrictlyIncreasing (sym e) (IsStrictlyIncreasing-dedup ys h)

-- an address is one of the four of a word
abbrev in_word : ℕ → ℕ → Bool
in_word a l = list_any (λ i. a == add 32 l i) (0 ∷ 1 ∷ 2 ∷ 3 ∷ [])

-- an address was found, or is of a literal from a place on
abbrev pub is_found : (found literals : List ℕ) → (from : ℕ) → ℕ → Bool
is_found found literals i a = list_any (nat_eq a) found || list_any (in_word a) (drop i literals)

or_none : (p : Bool) → (p || false) ≡ p
or_none true = refl
or_none false = refl

found_all : (found literals : List ℕ) (i a : ℕ) → length literals ≤ i → is_found found literals i a ≡ list_any (nat_eq a) found
found_all found literals i a l = ap (λ k. list_any (nat_eq a) found || list_any (in_word a) k) (drop_all i literals l) ∙ or_none (list_any (nat_eq a) found)

equal_is : (a b : ℕ) → nat_eq a b ≡ true → a ≡ b
equal_is a b h = grind (arith, nat_tests)

is_equal : (a b : ℕ) → a ≡ b → nat_eq a b ≡ true
is_equal a b h = grind (arith, nat_tests)

any_contains : (xs : List ℕ) (a : ℕ) → list_any (nat_eq a) xs ≡ true → Contains xs a
any_contains xs a h =
    let f = Any-from_list_any (nat_eq a) xs h in
    subst (Contains xs) (sym (equal_is a f.1 f.4)) (f.0, f.2, f.3)

contains_any : (xs : List ℕ) (a : ℕ) → Contains xs a → list_any (nat_eq a) xs ≡ true
contains_any xs a h = list_any-from_Any (nat_eq a) xs (h.0, a, h.1, h.2, is_equal a a refl)

-- all asked addresses
pub found_asked : (found v added literals : List ℕ) (i a : ℕ) → length literals ≤ i → is_found found literals i a ≡ is_asked added literals a →
    Contains found a ↔ Contains v a →
    Contains v a ↔ (is_asked added literals a ≡ true)
found_asked found v added literals i a l e s = (
  (λ h. sym e ∙ found_all found literals i a l ∙ contains_any found a (s.1 h)),
  (λ h. s.0 (any_contains found a (sym (found_all found literals i a l) ∙ e ∙ h))),
)

-- the first of two
abbrev or_else : Option ℕ → Option ℕ → Option ℕ
or_else (Some b) o = Some b
or_else None o = o

first_by : (t : Bool) (r : ByteRun) (o : Option ByteRun) (a : ℕ) →
    byte_in_run a (if t then Some r else o) ≡ or_else (if t then Some (slice_index r.bytes (a - r.at)) else None) (byte_in_run a o)
first_by true r o a = refl
first_by false r o a = refl

-- the byte of runs is that of the first run that has one
first_run : (r : ByteRun) (rs : List ByteRun) (a : ℕ) → byte_of_runs (r ∷ rs) a ≡ or_else (byte_of_run r a) (byte_of_runs rs a)
first_run r rs a = first_by (nat_le r.at a && nat_lt a (r.at + r.count)) r (find (λ q. nat_le q.at a && nat_lt a (q.at + q.count)) rs) a

next_run : (known : List Known) (i a : ℕ) (d : Known) → i < length known →
    byte_of_runs (map run_of (drop i known)) a ≡ or_else (byte_of_run (run_of (get_or known i d)) a) (byte_of_runs (map run_of (drop (i + 1) known)) a)
next_run known i a d l =
    ap (λ k. byte_of_runs (map run_of k) a) (drop_more known i d l) ∙ first_run (run_of (get_or known i d)) (map run_of (drop (i + 1) known)) a

none_by : (r : ByteRun) (a : ℕ) → (nat_le r.at a && nat_lt a (r.at + r.count)) ≡ false → byte_of_run r a ≡ None
none_by r a h = ap (λ t. if t then Some (slice_index r.bytes (a - r.at)) else None) h

-- a run that ends before an address
pub run_before : (k : Known) (at a : ℕ) → k.first < at → k.last < at → at ≤ a → byte_of_run (run_of k) a ≡ None
run_before k at a h l g = none_by (run_of k) a (let e : (nat_le k.first a &&
    nat_lt a (k.first + (k.last - k.first + 1))) ≡ false = grind (arith, nat_tests) in e)

-- how many numbers of a list pass a test
abbrev pub hits : (ℕ → Bool) → List ℕ → ℕ
hits p [] = 0
hits p (x ∷ xs) = (if p x then 1 else 0) + hits p xs

-- a byte is known at an address
abbrev pub is_known : List ByteRun → ℕ → Bool
is_known runs a = is_some (byte_of_runs runs a)

hits_push : (p : ℕ → Bool) (xs : List ℕ) (a : ℕ) → hits p (xs ++ a ∷ []) ≡ hits p xs + (if p a then 1 else 0)
hits_push p [] a = omega arith
hits_push p (x ∷ xs) a = omega (arith, hits_push p xs a)

-- numbers that rise from one on
abbrev Rises : (low : ℕ) → List ℕ → Type 0
Rises low [] = Unit {0}
Rises low (x ∷ xs) = (low ≤ x) × Rises (x + 1) xs

rises_by : (xs : List ℕ) (low : ℕ) → (0 < length xs → low ≤ slice_index xs 0) → IsStrictlyIncreasing xs → Rises low xs
rises_by [] low f h = tt
rises_by (x ∷ xs) low f h = (
  f (omega arith),
  rises_by xs (x + 1) (λ l. omega (arith, h 0 (omega (arith, l))))
      (λ k l. let e : suc k + 1 ≡ suc (k + 1) = omega arith in subst
      (λ (z : ℕ). slice_index (x ∷ xs) (suc k) < slice_index (x ∷ xs) z) e (h (suc k) (omega (arith, l)))),
)

hit_step : (t : Bool) (m x lo n low : ℕ) → (t ≡ true → (lo ≤ x) × (x < lo + n)) → m ≤ n → m ≤ lo + n - (x + 1) → low ≤ x →
    ((if t then 1 else 0) + m ≤ n) × ((if t then 1 else 0) + m ≤ lo + n - low)
hit_step true m x lo n low f a b c = (let g = f refl in omega (arith, g.0, g.1, b), let g = f refl in omega (arith, g.0, g.1, b, c))
hit_step false m x lo n low f a b c = (omega (arith, a), omega (arith, b, c))

in_range : (lo n x : ℕ) → (nat_le lo x && nat_lt x (lo + n)) ≡ true → (lo ≤ x) × (x < lo + n)
in_range lo n x h = (grind (arith, nat_tests), grind (arith, nat_tests))

-- a run has no more of them than addresses
hits_run : (lo n low : ℕ) (xs : List ℕ) → Rises low xs → (hits (λ a. nat_le lo a && nat_lt a (lo + n)) xs ≤ n) ×
    (hits (λ a. nat_le lo a && nat_lt a (lo + n)) xs ≤ lo + n - low)
hits_run lo n low [] r = (omega arith, omega arith)
hits_run lo n low (x ∷ xs) r =
    let h = hits_run lo n (x + 1) xs r.1 in
    hit_step (nat_le lo x && nat_lt x (lo + n)) (hits (λ a. nat_le lo a && nat_lt a (lo + n)) xs) x lo n low (in_range lo n x) h.0 h.1 r.0

one_or : (t : Bool) (b : ℕ) (o : Option ℕ) → (if is_some (or_else (if t then Some b else None) o) then 1 else 0)
    ≤ (if t then 1 else 0) + (if is_some o then 1 else 0)
one_or true b o = omega arith
one_or false b o = omega arith

hits_or : (r : ByteRun) (rs : List ByteRun) (xs : List ℕ) → hits (is_known (r ∷ rs)) xs ≤ hits (λ a. nat_le r.at a &&
    nat_lt a (r.at + r.count)) xs + hits (is_known rs) xs
hits_or r rs [] = omega arith
hits_or r rs (x ∷ xs) =
    let e = ap {B = ℕ} (λ o. if is_some o then 1 else 0) (first_run r rs x) in
    omega (arith, e, one_or (nat_le r.at x && nat_lt x (r.at + r.count)) (slice_index r.bytes (x - r.at)) (byte_of_runs rs x), hits_or r rs xs)

hits_none : (xs : List ℕ) → hits (is_known []) xs ≡ 0
hits_none [] = refl
hits_none (x ∷ xs) = omega (arith, hits_none xs)

hits_runs : (rs : List ByteRun) (xs : List ℕ) → Rises 0 xs → hits (is_known rs) xs ≤ sum_by (λ r. r.count) rs
hits_runs [] xs h = omega (arith, hits_none xs)
hits_runs (r ∷ rs) xs h = omega (arith, hits_or r rs xs, (hits_run r.at r.count 0 xs h).0, hits_runs rs xs h, sum_by-cons (λ (q : ByteRun). q.count) r rs)

-- of numbers that rise no more are known than there are known bytes
pub few_known : (known : List Known) (xs : List ℕ) (i n : ℕ) → IsStrictlyIncreasing xs → length xs ≤ i → n ≡ hits (is_known (map run_of known)) (take i xs) →
    n ≤ sum_of known
few_known known xs i n h l e =
    omega (arith, e, ap (hits (is_known (map run_of known))) (take_all i xs l), hits_runs (map run_of known) xs (rises_by xs 0 (λ k. omega arith) h))

and_more : (runs : List ByteRun) (heads : ℕ → Bool) (xs : List ℕ) (bytes : List FileByte) (a : ℕ) (o : Option ℕ) → o ≡ byte_of_runs runs a →
    AreFileBytes runs (Contains xs) heads bytes →
    AreFileBytes runs (Contains (xs ++ a ∷ [])) heads (and_byte bytes a (heads a) o)
and_more runs heads xs bytes a None e h = record {
  sound = λ f k. let s = h.sound f k in (Contains-append_left xs (a ∷ []) f.at s.0, s.1, s.2);
  complete = λ y b k g. elim (Contains-push_cases xs a y k) [
    | inl m ↦ h.complete y b m g
    | inr q ↦ (let z : None ≡ Some b = e ∙ ap (byte_of_runs runs) q ∙ g in absurd (cc))
  ];
}
and_more runs heads xs bytes a (Some c) e h = record {
  sound = λ f k. elim (Contains-push_cases bytes (file_byte heads a c) f k) [
    | inl m ↦ (let s = h.sound f m in (Contains-append_left xs (a ∷ []) f.at s.0, s.1, s.2))
    | inr q ↦ subst (λ (z : FileByte). Contains (xs ++ a ∷ []) z.at × (byte_of_runs runs z.at ≡ Some z.byte) × (z.head ≡ heads z.at)) q
        (Contains-push xs a, sym e, refl)
  ];
  complete = λ y b k g. elim (Contains-push_cases xs a y k) [
    | inl m ↦ Contains-append_left bytes (file_byte heads a c ∷ []) (file_byte heads y b) (h.complete y b m g)
    | inr q ↦ (
        let z : Some c ≡ Some b = e ∙ ap (byte_of_runs runs) q ∙ g in
        let w : c ≡ b = (cc) in
        subst (λ (i : ℕ). Contains (bytes ++ file_byte heads a c ∷ []) (file_byte heads i b)) q (subst
        (λ (i : ℕ). Contains (bytes ++ file_byte heads a c ∷ []) (file_byte heads a i)) w (Contains-push bytes (file_byte heads a c))))
  ];
}

-- the bytes of one address more
pub file_next : (runs : List ByteRun) (heads : ℕ → Bool) (xs : List ℕ) (i d : ℕ) (bytes more : List FileByte) (head : Bool) (o : Option ℕ) → i < length xs →
    more ≡ and_byte bytes (get_or xs i d) head o → head ≡ heads (get_or xs i d) → o ≡ byte_of_runs runs (get_or xs i d) →
    AreFileBytes runs (Contains (take i xs)) heads bytes → AreFileBytes runs (Contains (take (i + 1) xs)) heads more
file_next runs heads xs i d bytes more head o l e g f h =
    subst (λ (z : List FileByte). AreFileBytes runs (Contains (take (i + 1) xs)) heads z) (sym (e ∙ ap (λ t. and_byte bytes (get_or xs i d) t o) g))
    (subst (λ (z : List ℕ). AreFileBytes runs (Contains z) heads (and_byte bytes (get_or xs i d) (heads (get_or xs i d)) o)) (sym (take_more xs i d l))
    (and_more runs heads (take i xs) bytes (get_or xs i d) o f h))

count_by_found : (bytes : List FileByte) (a : ℕ) (head : Bool) (o : Option ℕ) → length (and_byte bytes a head o) ≡ length bytes + (if is_some o then 1 else 0)
count_by_found bytes a head None = omega arith
count_by_found bytes a head (Some b) = length-append bytes (file_byte (λ i. head) a b ∷ [])

-- their count
pub count_next : (runs : List ByteRun) (xs : List ℕ) (i d : ℕ) (bytes more : List FileByte) (head : Bool) (o : Option ℕ) → i < length xs →
    more ≡ and_byte bytes (get_or xs i d) head o → o ≡ byte_of_runs runs (get_or xs i d) →
    length bytes ≡ hits (is_known runs) (take i xs) → length more ≡ hits (is_known runs) (take (i + 1) xs)
count_next runs xs i d bytes more head o l e f h =
    ap length e ∙ count_by_found bytes (get_or xs i d) head o ∙ ap (λ z. z + (if is_some o then 1 else 0)) h ∙ ap
    (λ z. hits (is_known runs) (take i xs) + (if is_some z then 1 else 0)) f
    ∙ sym (hits_push (is_known runs) (take i xs) (get_or xs i d)) ∙ ap (hits (is_known runs)) (sym (take_more xs i d l))

-- of other words for the same addresses
pub file_same : (runs : List ByteRun) (p q : ℕ → Type 0) (heads : ℕ → Bool) (bytes : List FileByte) → ((a : ℕ) → p a ↔ q a) → AreFileBytes runs p heads bytes →
    AreFileBytes runs q heads bytes
file_same runs p q heads bytes f h = record {
  sound = λ y k. let s = h.sound y k in ((f y.at).0 s.0, s.1, s.2);
  complete = λ a b k g. h.complete a b ((f a).1 k) g;
}

-- the kept runs from a place on hold an address
abbrev pub kept_from : List (ℕ × ℕ) → (place at : ℕ) → Bool
kept_from kept i a = is_in (map kept_of (drop i kept)) a
