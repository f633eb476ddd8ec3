-- Terms of two sides that are as many and as wide, and how many bits they have.
use Rattle.std.proofs.Common.{◌≡◌, ℕ, zero, suc, ◌+◌, ◌*◌, ◌-◌, ◌<◌, ◌≤◌, List, [], ◌∷◌, length, map, get_or, refl, ap, sym, ◌∙◌, arith}
use Rattle.std.specs.Prelude.{sum_by}
use Rattle.std.specs.List.{flat_map}
use Rattle.std.proofs.lemmas.List.Sums.{sum_by-append, sum_by-cons}
use Rattle.bilv_spec.specs.Notes.{Expr, Number, Register, Flag, Pc, Bound, Memory, Old, Not, Binary}
use Rattle.term_spec.specs.Terms.{TermNode, HasWidth, node_at, width_of}
use Rattle.walk_laws.proofs.InputPlaces.{range_length}
use Rattle.term_dag.specs.declared.nodes.Term.{Term}
use Rattle.pair_spec.specs.Links.{Link, EqualAtEntry, EqualAtExit, SharedBytes, SameBytes, addresses}
use Rattle.pair_spec.specs.Pairs.{shared_bytes, same_bytes}
use Rattle.pair_spec.specs.PairTerms.{HaveWidths, bits_of, exit_widths}
use Rattle.pair_blast.specs.PairWords.{AreAlike, HaveSameWidths, bits_in}

abbrev places : List Term → List ℕ
places xs = map (λ t. t.0) xs

count_of : (ns : List TermNode) (xs : List Term) (ws : List ℕ) → HaveWidths ns (places xs) ws → length xs ≡ length ws
count_of ns [] [] h = refl
count_of ns [] (w ∷ ws) h = absurd h
count_of ns (x ∷ xs) [] h = absurd h
count_of ns (x ∷ xs) (w ∷ ws) h = let e = count_of ns xs ws h.1 in omega arith

width_at : (ns : List TermNode) (xs : List Term) (ws : List ℕ) → HaveWidths ns (places xs) ws → (k : ℕ) (d : Term) → k < length xs →
    HasWidth ns (get_or ws k 0) (get_or xs k d).0
width_at ns [] ws h k d l = absurd (omega arith)
width_at ns (x ∷ xs) [] h k d l = absurd h
width_at ns (x ∷ xs) (w ∷ ws) h zero d l = h.0
width_at ns (x ∷ xs) (w ∷ ws) h (suc k) d l = width_at ns xs ws h.1 k d (omega arith)

-- words with one list of widths are alike
pub alike_of : (ms ns : List TermNode) (xs ys : List Term) → HaveSameWidths ms (places xs) ns (places ys) → AreAlike ms ns xs ys
alike_of ms ns xs ys (ws, g, h) =
    let e : length xs ≡ length ys = count_of ms xs ws g ∙ sym (count_of ns ys ws h) in
    record {
      count = e;
      first = λ k d l. (width_at ms xs ws g k d l).0;
      second = λ k d l. (width_at ns ys ws h k d l).0;
      widths = λ k d f l. (width_at ms xs ws g k d l).1 ∙ sym (width_at ns ys ws h k f (omega arith)).1;
    }

-- nodes that have the widths of others
pub record AreAsWide (ms ns : List TermNode) : Type 0 where
  pub count : length ms ≡ length ns
  pub widths : (t : ℕ) → t < length ns → width_of (node_at ms t) ≡ width_of (node_at ns t)

pub as_wide_self : (ns : List TermNode) → AreAsWide ns ns
as_wide_self ns = record { count = refl; widths = λ t l. refl }

pub alike_as : (ms os ns ps : List TermNode) (xs ys : List Term) → AreAsWide ms os → AreAsWide ns ps → AreAlike os ps xs ys → AreAlike ms ns xs ys
alike_as ms os ns ps xs ys a b h = record {
  count = h.count;
  first = λ k d l. let e = h.first k d l in let f = a.count in omega arith;
  second = λ k d l. let e = h.second k d l in let f = b.count in omega arith;
  widths = λ k d e l.
      let m : k < length ys = (let z = h.count in omega arith) in
      a.widths (get_or xs k d).0 (h.first k d l) ∙ h.widths k d e l ∙ sym (b.widths (get_or ys k e).0 (h.second k e m));
}

pub bits_as : (ms ns : List TermNode) (xs : List Term) → AreAsWide ms ns → ((k : ℕ) (d : Term) → k < length xs → (get_or xs k d).0 < length ns) →
    bits_in ms xs ≡ bits_in ns xs
bits_as ms ns [] a h = refl
bits_as ms ns (x ∷ xs) a h =
    let e = a.widths x.0 (h 0 x (omega arith)) in
    let f = bits_as ms ns xs a (λ k d l. h (suc k) d (omega arith)) in
    sum_by-cons (λ (t : Term). width_of (node_at ms t.0)) x xs ∙ ap (λ z. z + bits_in ms xs) e ∙ ap (λ z. width_of (node_at ns x.0) + z) f
    ∙ sym (sum_by-cons (λ (t : Term). width_of (node_at ns t.0)) x xs)

-- ---- how many

abbrev total : List ℕ → ℕ
total ws = sum_by (λ w. w) ws

total_of : (ns : List TermNode) (xs : List Term) (ws : List ℕ) → HaveWidths ns (places xs) ws → bits_in ns xs ≡ total ws
total_of ns [] [] h = refl
total_of ns [] (w ∷ ws) h = absurd h
total_of ns (x ∷ xs) [] h = absurd h
total_of ns (x ∷ xs) (w ∷ ws) h =
    sum_by-cons (λ (t : Term). width_of (node_at ns t.0)) x xs ∙ ap (λ z. z + bits_in ns xs) h.0.1 ∙ ap (λ z. w + z) (total_of ns xs ws h.1)
    ∙ sym (sum_by-cons (λ (n : ℕ). n) w ws)

few_bits : (x : Expr) → bits_of x ≤ 32
few_bits (Number n) = omega arith
few_bits (Register n) = omega arith
few_bits (Flag n) = omega arith
few_bits Pc = omega arith
few_bits Bound = omega arith
few_bits (Memory n a) = omega arith
few_bits (Old a) = omega arith
few_bits (Not a) = omega arith
few_bits (Binary o a b) = omega arith

eights : (xs : List ℕ) → total (map (λ (a : ℕ). 8) xs) ≡ 8 * length xs
eights [] = refl
eights (x ∷ xs) = let e = eights xs in let f = sum_by-cons (λ (w : ℕ). w) 8 (map (λ (a : ℕ). 8) xs) in omega arith

few_in_link : (links : List Link) → total (flat_map exit_widths links) ≤ 32 * length links + 8 * same_bytes links
few_in_link [] = omega arith
few_in_link (EqualAtEntry n x y ∷ links) = let h = few_in_link links in omega arith
few_in_link (SharedBytes n low high ∷ links) = let h = few_in_link links in omega arith
few_in_link (EqualAtExit n x y ∷ links) =
    let h = few_in_link links in
    let e = few_bits x in
    let f = sum_by-cons (λ (w : ℕ). w) (bits_of x) (flat_map exit_widths links) in
    omega arith
few_in_link (SameBytes n low high ∷ links) =
    let h = few_in_link links in
    let e = sum_by-append (λ (w : ℕ). w) (map (λ (a : ℕ). 8) (addresses low high)) (flat_map exit_widths links) in
    let f = eights (addresses low high) in
    let g = range_length low (high + 1 - low) in
    omega arith

-- the words that links compare at the exits have few bits
pub few_compared : (ns : List TermNode) (xs : List Term) (links : List Link) → HaveWidths ns (places xs) (flat_map exit_widths links) →
    bits_in ns xs ≤ 512 * length links + 512 * (shared_bytes links + same_bytes links)
few_compared ns xs links h = let e = total_of ns xs (flat_map exit_widths links) h in let f = few_in_link links in omega arith
