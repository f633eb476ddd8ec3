-- The declarations of what contract steps are given, one after another.
use Rattle.std.proofs.Common.{◌≡◌, ◌≢◌, ℕ, zero, suc, ◌+◌, ◌-◌, ◌^◌, ◌<◌, refl, ap, sym, ◌∙◌, arith, true, false, Bool, List, [], ◌∷◌, ◌++◌, Option, length, map}
use Rattle.std.specs.Prelude.{◌==◌, not, codes, if◌then◌else◌, nat_eq, slice_index, slice_index_or}
use Rattle.std.specs.List.{list_any}
use Rattle.std.specs.Str.{bytes_eq}
use Rattle.std.proofs.lemmas.List.{map-append}
use Rattle.bilv_spec.specs.SmtLib.{Sexp, Atom, SmtValue}
use Rattle.machine_spec.proofs.Spelling.{same_text}
use Rattle.machine_spec.specs.StateText.{Layout}
use Rattle.frame_spec.specs.FrameScripts.{changed_flags, changed_registers, given_names, of_given, writes_some, written_memory}
use Rattle.smtlib_print.specs.Commands.{Given, all_given, array_sort, declarations, flag_symbols, given_declarations, memory_symbols, nothing, register_symbols, word_sort}
use Rattle.smtlib_print.proofs.Changed.{among_either, and_both, distinct_both, given_distinct, in_neither}
use Rattle.smtlib_print.proofs.Declared.{AreDeclared, AreSorted, IsDeclaring, IsSorted, are_new, both_true, declare_all, declare_both, declared_as, is_false, new_both, onto, onto-append}
use Rattle.smtlib_print.proofs.Defined.{among}
use Rattle.smtlib_print.proofs.Drawn.{neither_true, or_true}
use Rattle.smtlib_print.proofs.GivenNames.{IsOfNames, among_given, among_other, letter_none, of_names}
use Rattle.smtlib_print.proofs.Layouts.{IsUsable, among_left, among_right, are_distinct, name_at}
use Rattle.smtlib_print.proofs.Names.{other_text}

-- what is given at a place
abbrev pub given_at : List Given → ℕ → Given
given_at gs i = slice_index_or gs i nothing

-- its symbols
abbrev pub symbols_at : Layout → ℕ → Given → List (List ℕ)
symbols_at layout n g = register_symbols layout n g ++ (flag_symbols layout n g ++ memory_symbols n g)

-- those of all places
abbrev pub all_symbols : Layout → (numbers : List ℕ) → List Given → List (List ℕ)
all_symbols layout numbers [] = []
all_symbols layout [] (g ∷ gs) = []
all_symbols layout (n ∷ numbers) (g ∷ gs) = symbols_at layout n g ++ all_symbols layout numbers gs

-- the names of what is given
abbrev pub names_of : Layout → Given → List (List ℕ)
names_of layout g = given_names layout g.registers g.flags g.writes

pub symbols_are : (layout : Layout) (n : ℕ) (g : Given) → symbols_at layout n g ≡ map (of_given n) (names_of layout g)
symbols_are layout n g =
    let rs = changed_registers g.registers layout.first layout.registers in
    let fs = changed_flags g.flags layout.flags in
    let ms = written_memory (writes_some g.writes) in
    sym (map-append (of_given n) rs (fs ++ ms) ∙ ap (λ l. map (of_given n) rs ++ l) (map-append (of_given n) fs ms))

-- symbols of one place
pub place_among : (layout : Layout) (numbers : List ℕ) (gs : List Given) (j : ℕ) (w : List ℕ) → j < length numbers → j < length gs →
    among (symbols_at layout (slice_index numbers j) (given_at gs j)) w ≡ true → among (all_symbols layout numbers gs) w ≡ true
place_among layout numbers [] j w l k h = absurd (omega (arith, k))
place_among layout [] (g ∷ gs) j w l k h = absurd (omega (arith, l))
place_among layout (n ∷ ns) (g ∷ gs) zero w l k h = among_left (symbols_at layout n g) (all_symbols layout ns gs) w h
place_among layout (n ∷ ns) (g ∷ gs) (suc j) w l k h =
    among_right (symbols_at layout n g) (all_symbols layout ns gs) w (place_among layout ns gs j w (omega (arith, l)) (omega (arith, k)) h)

-- one of them is that of a place
pub record IsOfPlace (layout : Layout) (numbers : List ℕ) (gs : List Given) (w : List ℕ) : Type 0 where
  pub place : ℕ
  pub numbered : place < length numbers
  pub listed : place < length gs
  pub is : IsOfNames (slice_index numbers place) (names_of layout (given_at gs place)) w

pub of_place : (layout : Layout) (numbers : List ℕ) (gs : List Given) (w : List ℕ) → among (all_symbols layout numbers gs) w ≡ true →
    IsOfPlace layout numbers gs w
of_place layout numbers [] w h = absurd (cc h)
of_place layout [] (g ∷ gs) w h = absurd (cc h)
of_place layout (n ∷ ns) (g ∷ gs) w h =
    among_either (symbols_at layout n g) (all_symbols layout ns gs) w
    (λ a. record {
      place = 0;
      numbered = omega arith;
      listed = omega arith;
      is = of_names n (names_of layout g) w (ap (λ l. among l w) (sym (symbols_are layout n g)) ∙ a);
    })
    (λ a. (let q = of_place layout ns gs w a in
    record { place = suc q.place; numbered = omega (arith, q.numbered); listed = omega (arith, q.listed); is = q.is })) h

-- what begins with another letter is none of them
pub letter_nowhere : (layout : Layout) (b : ℕ) (v : List ℕ) (numbers : List ℕ) (gs : List Given) → (b == 103) ≡ false →
    among (all_symbols layout numbers gs) (b ∷ v) ≡ false
letter_nowhere layout b v numbers [] h = refl
letter_nowhere layout b v [] (g ∷ gs) h = refl
letter_nowhere layout b v (n ∷ ns) (g ∷ gs) h =
    in_neither (symbols_at layout n g) (all_symbols layout ns gs) (b ∷ v)
    (ap (λ l. among l (b ∷ v)) (symbols_are layout n g) ∙ letter_none b n v (names_of layout g) h) (letter_nowhere layout b v ns gs h)

-- no two are the same
distinct_given : (n : ℕ) (names : List (List ℕ)) → are_distinct names ≡ true → are_distinct (map (of_given n) names) ≡ true
distinct_given n [] d = refl
distinct_given n (w ∷ names) d =
    let t = both_true (not (among names w)) (are_distinct names) d in
    and_both (not (among (map (of_given n) names) (of_given n w))) (are_distinct (map (of_given n) names)) (ap not (among_given n names w) ∙ t.0)
    (distinct_given n names t.1)

others : (layout : Layout) (n : ℕ) (w : List ℕ) (numbers : List ℕ) (gs : List Given) → n < 2 ^ 64 →
    ((i : ℕ) → i < length numbers → slice_index numbers i < 2 ^ 64) → ((i : ℕ) → i < length numbers → slice_index numbers i ≢ n) →
    among (all_symbols layout numbers gs) (of_given n w) ≡ false
others layout n w numbers [] small few other = refl
others layout n w [] (g ∷ gs) small few other = refl
others layout n w (m ∷ ns) (g ∷ gs) small few other =
    in_neither (symbols_at layout m g) (all_symbols layout ns gs) (of_given n w)
    (ap (λ l. among l (of_given n w)) (symbols_are layout m g) ∙ among_other m n (names_of layout g) w (few 0 (omega arith)) small (other 0 (omega arith)))
    (others layout n w ns gs small (λ i l. few (suc i) (omega (arith, l))) (λ i l. other (suc i) (omega (arith, l))))

pub all_distinct : (layout : Layout) → IsUsable layout → (numbers : List ℕ) (gs : List Given) →
    ((i : ℕ) → i < length numbers → slice_index numbers i < 2 ^ 64) →
    ((i j : ℕ) → i < j → j < length numbers → slice_index numbers i ≢ slice_index numbers j) → are_distinct (all_symbols layout numbers gs) ≡ true
all_distinct layout usable numbers [] few distinct = refl
all_distinct layout usable [] (g ∷ gs) few distinct = refl
all_distinct layout usable (n ∷ ns) (g ∷ gs) few distinct =
    distinct_both (symbols_at layout n g) (all_symbols layout ns gs)
    (ap are_distinct (symbols_are layout n g) ∙ distinct_given n (names_of layout g) (given_distinct layout usable g.registers g.flags g.writes))
    (all_distinct layout usable ns gs (λ i l. few (suc i) (omega (arith, l))) (λ i j k l. distinct (suc i) (suc j) (omega (arith, k)) (omega (arith, l))))
    (λ w h. (let q = of_names n (names_of layout g) w (ap (λ l. among l w) (sym (symbols_are layout n g)) ∙ h) in
    ap (among (all_symbols layout ns gs)) q.is
    ∙ others layout n q.name ns gs (few 0 (omega arith)) (λ i l. few (suc i) (omega (arith, l)))
    (λ i l e. distinct 0 (suc i) (omega arith) (omega (arith, l)) (sym e))))

-- names of which no two are the same, and none is done, are new
pub new_from : (done names : List (List ℕ)) → are_distinct names ≡ true → ((w : List ℕ) → among names w ≡ true → among done w ≡ false) →
    are_new done names ≡ true
new_from done [] d none = refl
new_from done (w ∷ ws) d none =
    let t = both_true (not (among ws w)) (are_distinct ws) d in
    rw (none w (rw (same_text w) refl))
    (new_from (w ∷ done) ws t.1 (λ v h. neither_true (bytes_eq v w) (among done v)
    (other_text v w (λ e. absurd (let z : true ≡ false = sym h ∙ ap (among ws) e ∙ is_false (among ws w) t.0 in cc)))
    (none v (or_true (bytes_eq v w) (among ws v) h))))

-- their values are of the sorts that are declared
if_sorted : (model : List ℕ → Option SmtValue) (sort : Sexp) (t : Bool) (n : ℕ) (w : List ℕ) (ws : List (List ℕ)) →
    (t ≡ true → IsSorted model sort (of_given n w)) → AreSorted model sort (map (of_given n) ws) →
    AreSorted model sort (map (of_given n) (if t then w ∷ ws else ws))
if_sorted model sort true n w ws h k = (h refl, k)
if_sorted model sort false n w ws h k = k

pub registers_sorted : (model : List ℕ → Option SmtValue) (sort : Sexp) (n : ℕ) (changed : List ℕ) (r : ℕ) (names : List (List ℕ)) →
    ((i : ℕ) → i < length names → list_any (nat_eq (r + i)) changed ≡ true → IsSorted model sort (of_given n (name_at names i))) →
    AreSorted model sort (map (of_given n) (changed_registers changed r names))
registers_sorted model sort n changed r [] h = tt
registers_sorted model sort n changed r (w ∷ names) h =
    if_sorted model sort (list_any (nat_eq r) changed) n w (changed_registers changed (r + 1) names)
    (λ e. h 0 (omega arith) (let z : r + 0 ≡ r = omega arith in ap (λ q. list_any (nat_eq q) changed) z ∙ e))
    (registers_sorted model sort n changed (r + 1) names
    (λ i l e. h (suc i) (omega (arith, l)) (let z : r + suc i ≡ r + 1 + i = omega arith in ap (λ q. list_any (nat_eq q) changed) z ∙ e)))

pub flags_sorted : (model : List ℕ → Option SmtValue) (sort : Sexp) (n : ℕ) (changed : List ℕ) (names : List (List ℕ)) →
    ((i : ℕ) → i < length names → list_any (nat_eq (length names - 1 - i)) changed ≡ true → IsSorted model sort (of_given n (name_at names i))) →
    AreSorted model sort (map (of_given n) (changed_flags changed names))
flags_sorted model sort n changed [] h = tt
flags_sorted model sort n changed (w ∷ names) h =
    if_sorted model sort (list_any (nat_eq (length names)) changed) n w (changed_flags changed names)
    (λ e. h 0 (omega arith) (let z : length (w ∷ names) - 1 - 0 ≡ length names = omega arith in ap (λ q. list_any (nat_eq q) changed) z ∙ e))
    (flags_sorted model sort n changed names
    (λ i l e. h (suc i) (omega (arith, l))
    (let z : length (w ∷ names) - 1 - suc i ≡ length names - 1 - i = omega (arith, l) in ap (λ q. list_any (nat_eq q) changed) z ∙ e)))

pub memory_sorted : (model : List ℕ → Option SmtValue) (sort : Sexp) (n : ℕ) (t : Bool) → (t ≡ true → IsSorted model sort (of_given n (codes "mem"))) →
    AreSorted model sort (map (of_given n) (written_memory t))
memory_sorted model sort n true h = (h refl, tt)
memory_sorted model sort n false h = tt

-- what is given at a place has values of its sorts
pub record IsSortedAt (model : List ℕ → Option SmtValue) (layout : Layout) (n : ℕ) (g : Given) : Type 0 where
  pub registers : AreSorted model (word_sort (Atom (codes "32"))) (register_symbols layout n g)
  pub flags : AreSorted model (word_sort (Atom (codes "1"))) (flag_symbols layout n g)
  pub memory : AreSorted model array_sort (memory_symbols n g)

module _ (model : List ℕ → Option SmtValue) (layout : Layout) where
  -- three lists of declarations
  pub three_declared : (rs fs ms done : List (List ℕ)) (symbols : List ℕ → Option SmtValue) → AreSorted model (word_sort (Atom (codes "32"))) rs →
      AreSorted model (word_sort (Atom (codes "1"))) fs → AreSorted model array_sort ms → AreDeclared model symbols done →
      are_new done (rs ++ (fs ++ ms)) ≡ true →
      IsDeclaring model symbols (onto done (rs ++ (fs ++ ms)))
      (declarations (word_sort (Atom (codes "32"))) rs ++ (declarations (word_sort (Atom (codes "1"))) fs ++ declarations array_sort ms))
  three_declared rs fs ms done symbols words bits arrays d new =
      let n = new_both done rs (fs ++ ms) new in
      let m = new_both (onto done rs) fs ms n.1 in
      let a = declare_all model (word_sort (Atom (codes "32"))) rs done symbols words n.0 d in
      let b = declare_all model (word_sort (Atom (codes "1"))) fs (onto done rs) a.after bits m.0 a.declared in
      let c = declare_all model array_sort ms (onto (onto done rs) fs) b.after arrays m.1 b.declared in
      declared_as model symbols (onto (onto (onto done rs) fs) ms) (onto done (rs ++ (fs ++ ms)))
      (declarations (word_sort (Atom (codes "32"))) rs ++ (declarations (word_sort (Atom (codes "1"))) fs ++ declarations array_sort ms))
      (sym (onto-append done rs (fs ++ ms) ∙ onto-append (onto done rs) fs ms))
      (declare_both model symbols (onto done rs) (onto (onto (onto done rs) fs) ms) (declarations (word_sort (Atom (codes "32"))) rs)
      (declarations (word_sort (Atom (codes "1"))) fs ++ declarations array_sort ms) a
      (declare_both model a.after (onto (onto done rs) fs) (onto (onto (onto done rs) fs) ms) (declarations (word_sort (Atom (codes "1"))) fs)
      (declarations array_sort ms) b c))

  pub all_declared : (numbers : List ℕ) (gs : List Given) →
      ((i : ℕ) → i < length numbers → i < length gs → IsSortedAt model layout (slice_index numbers i) (given_at gs i)) → (done : List (List ℕ))
      (symbols : List ℕ → Option SmtValue) → AreDeclared model symbols done → are_new done (all_symbols layout numbers gs) ≡ true →
      IsDeclaring model symbols (onto done (all_symbols layout numbers gs)) (all_given layout numbers gs)
  all_declared numbers [] sorted done symbols d new = record { after = symbols; declared = d; runs = λ rest. refl }
  all_declared [] (g ∷ gs) sorted done symbols d new = record { after = symbols; declared = d; runs = λ rest. refl }
  all_declared (n ∷ ns) (g ∷ gs) sorted done symbols d new =
      let t = new_both done (symbols_at layout n g) (all_symbols layout ns gs) new in
      let s = sorted 0 (omega arith) (omega arith) in
      let first = three_declared (register_symbols layout n g) (flag_symbols layout n g) (memory_symbols n g) done symbols s.registers s.flags s.memory d t.0 in
      let rest = all_declared ns gs (λ i l k. sorted (suc i) (omega (arith, l)) (omega (arith, k))) (onto done (symbols_at layout n g)) first.after
      first.declared t.1 in
      declared_as model symbols (onto (onto done (symbols_at layout n g)) (all_symbols layout ns gs))
      (onto done (symbols_at layout n g ++ all_symbols layout ns gs)) (given_declarations layout n g ++ all_given layout ns gs)
      (sym (onto-append done (symbols_at layout n g) (all_symbols layout ns gs)))
      (declare_both model symbols (onto done (symbols_at layout n g)) (onto (onto done (symbols_at layout n g)) (all_symbols layout ns gs))
      (given_declarations layout n g) (all_given layout ns gs) first rest)
