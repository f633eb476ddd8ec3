-- The texts of the declarations of what contract steps are given.
use Rattle.std.proofs.Common.{◌≡◌, ℕ, zero, suc, ◌+◌, ◌-◌, ◌<◌, ◌≤◌, refl, ap, sym, ◌∙◌, arith, true, false, Bool, List, [], ◌∷◌, ◌++◌, length, map, drop, get_or, append_assoc, append-nil, add-one}
use Rattle.std.specs.Prelude.{◌&&◌, codes, filter, if◌then◌else◌, nat_eq, slice_index_or}
use Rattle.std.specs.List.{list_any}
use Rattle.std.proofs.Math.Seq.{drop-cons}
use Rattle.std.proofs.lemmas.Bool.Decides.{nat_tests}
use Rattle.std.proofs.lemmas.List.{get_or-map, length-map}
use Rattle.std.proofs.lemmas.Map.Views.{any-filter_same}
use Rattle.word_spec.specs.RowFiles.{from_to}
use Rattle.bilv_spec.specs.SmtLib.{Sexp, Atom}
use Rattle.frame_spec.specs.Frames as frames
use Rattle.machine_spec.specs.StateText as texts
use Rattle.notes_value.specs.declared.notes.Contract.{Contract}
use Rattle.notes_value.specs.FrameViews.{contract_of, is_in}
use Rattle.question_form.specs.FrameViews.{no_contract, stepped_at}
use Rattle.question_form.specs.declared.unrolled.Unrolled.{Unrolled}
use Rattle.question_form.specs.declared.unrolled.Point.{Point}
use Rattle.start_value.specs.declared.layout.Layout.{Layout}
use Rattle.start_value.specs.declared.layout.Layout.TheVariants.{Rv32, Arm}
use Rattle.start_value.specs.Starts.{layout_of}
use Rattle.state_text.proofs.Appends.{three}
use Rattle.frame_spec.specs.FrameScripts.{changed_flags, changed_registers, given_prefix, of_given, written_memory}
use Rattle.smtlib_print.specs.Commands.{Given, all_given, array_sort, declaration, declarations, flag_symbols, given_declarations, memory_symbols, nothing, register_symbols, word_sort}
use Rattle.smtlib_print.specs.Scripted.{given_by, given_of}
use Rattle.smtlib_print.specs.Written.{commands_text, written}
use Rattle.smtlib_print.proofs.Appended.{text-append}
use Rattle.smtlib_print.proofs.GiftPlaces.{no_flags, no_registers}
use Rattle.smtlib_print.proofs.GivenSymbols.{given_at}
use Rattle.smtlib_print.proofs.Layouts.{name_at}
use Rattle.smtlib_print.proofs.Printed.{flag_added, memory_added, part_added, register_added}

-- a declaration in its parts
pub given_register_added : (start first second third all p name : List ℕ) (changes : Bool) → changes ≡ true → first ≡ start ++ codes "(declare-const " →
    second ≡ first ++ p → third ≡ second ++ name → all ≡ third ++ codes " (_ BitVec 32))\n" →
    all ≡ start ++ commands_text (declarations (word_sort (Atom (codes "32"))) (if changes then (p ++ name) ∷ [] else []))
given_register_added start first second third all p name true z e f g h =
    register_added start first third all (p ++ name) e (part_added first second third p name f g) h
given_register_added start first second third all p name false z e f g h = absurd (cc z)

pub given_flag_added : (start first second third all p name : List ℕ) (changes : Bool) → changes ≡ true → first ≡ start ++ codes "(declare-const " →
    second ≡ first ++ p → third ≡ second ++ name → all ≡ third ++ codes " (_ BitVec 1))\n" →
    all ≡ start ++ commands_text (declarations (word_sort (Atom (codes "1"))) (if changes then (p ++ name) ∷ [] else []))
given_flag_added start first second third all p name true z e f g h =
    flag_added start first third all (p ++ name) e (part_added first second third p name f g) h
given_flag_added start first second third all p name false z e f g h = absurd (cc z)

pub given_memory_added : (start first second all : List ℕ) (n : ℕ) (writes : Bool) → writes ≡ true → first ≡ start ++ codes "(declare-const " →
    second ≡ first ++ given_prefix n → all ≡ second ++ codes "mem (Array (_ BitVec 32) (_ BitVec 8)))\n" →
    all ≡ start ++ commands_text (declarations array_sort (map (of_given n) (written_memory writes)))
given_memory_added start first second all n true z e f h =
    memory_added start first (second ++ codes "mem") all (of_given n (codes "mem")) e
    (part_added first second (second ++ codes "mem") (given_prefix n) (codes "mem") f refl)
    (h ∙ sym (append_assoc second (codes "mem") (codes " (Array (_ BitVec 32) (_ BitVec 8)))\n")))
given_memory_added start first second all n false z e f h = absurd (cc z)

-- the declarations that are left from a place on
abbrev pub registers_left : (sort : Sexp) → (n : ℕ) → (changed : List ℕ) → (r : ℕ) → (names : List (List ℕ)) → ℕ → List ℕ
registers_left sort n changed r names i = commands_text (declarations sort (map (of_given n) (changed_registers changed (r + i) (drop i names))))

abbrev pub flags_left : (sort : Sexp) → (n : ℕ) → (changed : List ℕ) → (names : List (List ℕ)) → ℕ → List ℕ
flags_left sort n changed names i = commands_text (declarations sort (map (of_given n) (changed_flags changed (drop i names))))

abbrev pub one_text : (sort : Sexp) → (n : ℕ) → Bool → List ℕ → List ℕ
one_text sort n b w = commands_text (declarations sort (if b then of_given n w ∷ [] else []))

if_text : (sort : Sexp) (n : ℕ) (b : Bool) (w : List ℕ) (ws : List (List ℕ)) →
    commands_text (declarations sort (map (of_given n) (if b then w ∷ ws else ws)))
    ≡ one_text sort n b w ++ commands_text (declarations sort (map (of_given n) ws))
if_text sort n true w ws =
    sym (append_assoc (written (declaration (of_given n w) sort)) (10 ∷ []) (commands_text (declarations sort (map (of_given n) ws))))
if_text sort n false w ws = refl

drop_length : (names : List (List ℕ)) (i : ℕ) → i < length names → length (drop (suc i) names) ≡ length names - 1 - i
drop_length [] i l = absurd (omega (arith, l))
drop_length (w ∷ names) zero l = omega arith
drop_length (w ∷ names) (suc i) l = drop_length names i (omega (arith, l)) ∙ (let e : length names - 1 - i ≡ length (w ∷ names) - 1 - suc i = omega (arith, l) in e)

pub register_more : (sort : Sexp) (n : ℕ) (changed : List ℕ) (r : ℕ) (names : List (List ℕ)) (i : ℕ) (b : Bool) (w out new all : List ℕ) →
    i < length names → w ≡ name_at names i → b ≡ list_any (nat_eq (r + i)) changed → new ≡ out ++ one_text sort n b w →
    out ++ registers_left sort n changed r names i ≡ all → new ++ registers_left sort n changed r names (i + 1) ≡ all
register_more sort n changed r names i b w out new all l e t step inv =
    let d : drop i names ≡ w ∷ drop (suc i) names = drop-cons names i [] l ∙ ap (λ m. m ∷ drop (suc i) names) (sym e) in
    let rest = drop (suc i) names in
    let z : r + suc i ≡ r + i + 1 = omega arith in
    let left : List ℕ = commands_text (declarations sort (map (of_given n) (changed_registers changed (r + i + 1) rest))) in
    rw add-one
    (ap (λ k. new ++ commands_text (declarations sort (map (of_given n) (changed_registers changed k rest)))) z
    ∙ ap (λ x. x ++ left) step ∙ append_assoc out (one_text sort n b w) left
    ∙ ap (λ c. out ++ (one_text sort n c w ++ left)) t
    ∙ ap (λ x. out ++ x) (sym (if_text sort n (list_any (nat_eq (r + i)) changed) w (changed_registers changed (r + i + 1) rest)))
    ∙ ap (λ ws. out ++ commands_text (declarations sort (map (of_given n) (changed_registers changed (r + i) ws)))) (sym d) ∙ inv)

pub flag_more : (sort : Sexp) (n : ℕ) (changed : List ℕ) (names : List (List ℕ)) (i : ℕ) (b : Bool) (w out new all : List ℕ) →
    i < length names → w ≡ name_at names i → b ≡ list_any (nat_eq (length names - 1 - i)) changed → new ≡ out ++ one_text sort n b w →
    out ++ flags_left sort n changed names i ≡ all → new ++ flags_left sort n changed names (i + 1) ≡ all
flag_more sort n changed names i b w out new all l e t step inv =
    let d : drop i names ≡ w ∷ drop (suc i) names = drop-cons names i [] l ∙ ap (λ m. m ∷ drop (suc i) names) (sym e) in
    let rest = drop (suc i) names in
    let left : List ℕ = commands_text (declarations sort (map (of_given n) (changed_flags changed rest))) in
    let c : b ≡ list_any (nat_eq (length rest)) changed = t ∙ ap (λ k. list_any (nat_eq k) changed) (sym (drop_length names i l)) in
    rw add-one
    (ap (λ x. x ++ left) step ∙ append_assoc out (one_text sort n b w) left
    ∙ ap (λ c. out ++ (one_text sort n c w ++ left)) c
    ∙ ap (λ x. out ++ x) (sym (if_text sort n (list_any (nat_eq (length rest)) changed) w (changed_flags changed rest)))
    ∙ ap (λ ws. out ++ commands_text (declarations sort (map (of_given n) (changed_flags changed ws)))) (sym d) ∙ inv)

none_left : (names : List (List ℕ)) (i : ℕ) → i ≡ length names → drop i names ≡ []
none_left [] zero e = refl
none_left [] (suc i) e = refl
none_left (n ∷ names) zero e = absurd (omega (arith, e))
none_left (n ∷ names) (suc i) e = none_left names i (omega (arith, e))

pub registers_done : (sort : Sexp) (n : ℕ) (changed : List ℕ) (r : ℕ) (names : List (List ℕ)) (i : ℕ) (out all : List ℕ) → i ≡ length names →
    out ++ registers_left sort n changed r names i ≡ all → out ≡ all
registers_done sort n changed r names i out all e inv =
    sym (append-nil out)
    ∙ ap (λ ws. out ++ commands_text (declarations sort (map (of_given n) (changed_registers changed (r + i) ws)))) (sym (none_left names i e)) ∙ inv

-- from the first place on
pub registers_first : (sort : Sexp) (n : ℕ) (changed : List ℕ) (r : ℕ) (names : List (List ℕ)) →
    registers_left sort n changed r names 0 ≡ commands_text (declarations sort (map (of_given n) (changed_registers changed r names)))
registers_first sort n changed r names =
    let z : r + 0 ≡ r = omega arith in ap (λ k. commands_text (declarations sort (map (of_given n) (changed_registers changed k names)))) z

-- a number among those of a set below a bound
and_true : (b : Bool) → (b && true) ≡ b
and_true true = refl
and_true false = refl

in_range_by : (r first count : ℕ) (b : Bool) → nat_eq r first ≡ b → first ≤ r → (first + 1 ≤ r → list_any (nat_eq r) (from_to (first + 1) count) ≡ true) →
    list_any (nat_eq r) (from_to first (suc count)) ≡ true
in_range_by r first count true e h more = rw e refl
in_range_by r first count false e h more = let d : first + 1 ≤ r = grind (arith, nat_tests, h, e) in rw e (more d)

in_range : (r first count : ℕ) → first ≤ r → r < first + count → list_any (nat_eq r) (from_to first count) ≡ true
in_range r first zero h k = absurd (omega (arith, h, k))
in_range r first (suc count) h k = in_range_by r first count (nat_eq r first) refl h (λ d. in_range r (first + 1) count d (omega (arith, k)))

pub in_set : (set r bound : ℕ) → r < bound → is_in set r ≡ list_any (nat_eq r) (filter (is_in set) (from_to 0 bound))
in_set set r bound l =
    sym (any-filter_same (nat_eq r) (is_in set) (is_in set r) (λ k same. (let equal : k ≡ r = grind (arith, nat_tests) in ap (is_in set) equal)) (from_to 0 bound)
    ∙ ap (λ b. is_in set r && b) (in_range r 0 bound (omega arith) (omega (arith, l))) ∙ and_true (is_in set r))

-- the declarations at a place
pub given_text : (layout : texts.Layout) (n : ℕ) (g : Given) (start first second all : List ℕ) →
    first ≡ start ++ commands_text (declarations (word_sort (Atom (codes "32"))) (register_symbols layout n g)) →
    second ≡ first ++ commands_text (declarations (word_sort (Atom (codes "1"))) (flag_symbols layout n g)) →
    all ≡ second ++ commands_text (declarations array_sort (memory_symbols n g)) → all ≡ start ++ commands_text (given_declarations layout n g)
given_text layout n g start first second all e f h =
    let rs = declarations (word_sort (Atom (codes "32"))) (register_symbols layout n g) in
    let fs = declarations (word_sort (Atom (codes "1"))) (flag_symbols layout n g) in
    let ms = declarations array_sort (memory_symbols n g) in
    three start first second all (commands_text rs) (commands_text fs) (commands_text ms) e f h
    ∙ ap (λ t. start ++ t) (sym (text-append rs (fs ++ ms) ∙ ap (λ t. commands_text rs ++ t) (text-append fs ms)))

-- nothing is declared where nothing is given
pub nothing_text : (layout : texts.Layout) (n : ℕ) → commands_text (given_declarations layout n nothing) ≡ []
nothing_text layout n =
    ap (λ ws. commands_text (declarations (word_sort (Atom (codes "32"))) (map (of_given n) ws)
    ++ (declarations (word_sort (Atom (codes "1"))) (flag_symbols layout n nothing) ++ []))) (no_registers layout.first layout.registers)
    ∙ ap (λ ws. commands_text (declarations (word_sort (Atom (codes "1"))) (map (of_given n) ws) ++ [])) (no_flags layout.flags)

past : (xs : List frames.Contract) (n : ℕ) (d : frames.Contract) → length xs ≤ n → slice_index_or xs n d ≡ d
past [] n d l = refl
past (x ∷ xs) zero d l = absurd (omega (arith, l))
past (x ∷ xs) (suc n) d l = past xs n d (omega (arith, l))

-- what is left of all places
abbrev pub steps_left : (layout : texts.Layout) → (numbers : List ℕ) → List Given → ℕ → List ℕ
steps_left layout numbers gs i = commands_text (all_given layout (drop i numbers) (drop i gs))

pub step_more : (layout : texts.Layout) (numbers : List ℕ) (gs : List Given) (i n : ℕ) (g : Given) (out new all : List ℕ) → i < length numbers → i < length gs →
    n ≡ get_or numbers i 0 → g ≡ given_at gs i → new ≡ out ++ commands_text (given_declarations layout n g) → out ++ steps_left layout numbers gs i ≡ all →
    new ++ steps_left layout numbers gs (i + 1) ≡ all
step_more layout numbers gs i n g out new all l k e f step inv =
    let a : drop i numbers ≡ n ∷ drop (suc i) numbers = drop-cons numbers i 0 l ∙ ap (λ m. m ∷ drop (suc i) numbers) (sym e) in
    let b : drop i gs ≡ g ∷ drop (suc i) gs = drop-cons gs i nothing k ∙ ap (λ m. m ∷ drop (suc i) gs) (sym f) in
    let rest = all_given layout (drop (suc i) numbers) (drop (suc i) gs) in
    rw add-one
    (ap (λ t. t ++ commands_text rest) step ∙ append_assoc out (commands_text (given_declarations layout n g)) (commands_text rest)
    ∙ ap (λ t. out ++ t) (sym (text-append (given_declarations layout n g) rest))
    ∙ ap (λ t. out ++ commands_text (all_given layout t (g ∷ drop (suc i) gs))) (sym a)
    ∙ ap (λ t. out ++ commands_text (all_given layout (drop i numbers) t)) (sym b) ∙ inv)

-- what is given at a place is by what is done there
pub given_there : (u : Unrolled) (qs : List Point) (i : ℕ) (d : Point) → i < length qs → d ≡ get_or qs i d →
    given_by u d.deed ≡ given_at (map (λ q. given_by u q.deed) qs) i
given_there u [] i d l e = absurd (omega (arith, l))
given_there u (q ∷ qs) zero d l e = ap (λ (x : Point). given_by u x.deed) e
given_there u (q ∷ qs) (suc i) d l e = given_there u qs i d (omega (arith, l)) e

pub givens_count : (u : Unrolled) (qs : List Point) → length (map (λ q. given_by u q.deed) qs) ≡ length qs
givens_count u [] = refl
givens_count u (q ∷ qs) = ap suc (givens_count u qs)

-- a layout has few registers and flags
pub few_registers : (form : Layout) → (layout_of form).first + length (layout_of form).registers ≤ 32
few_registers (Rv32 compressed) = let e : length (layout_of (Rv32 compressed)).registers ≡ 31 = refl in omega (arith, e)
few_registers (Arm big profile) = let e : length (layout_of (Arm big profile)).registers ≡ 15 = refl in omega (arith, e)

pub few_flags : (form : Layout) → length (layout_of form).flags ≤ 4
few_flags (Rv32 compressed) = omega arith
few_flags (Arm big profile) = omega arith

-- the contract of a number, where there is none of the number and where there is one
pub no_step : (u : Unrolled) (layout : texts.Layout) (number n : ℕ) (out : List ℕ) → length u.stepped.now ≤ n →
    out ≡ out ++ commands_text (given_declarations layout number (given_of (stepped_at u n)))
no_step u layout number n out l =
    let k : length (map contract_of u.stepped.now) ≤ n = omega (arith, l, length-map u.stepped.now contract_of) in
    sym (ap (λ t. out ++ t) (ap (λ x. commands_text (given_declarations layout number (given_of x))) (past (map contract_of u.stepped.now) n no_contract k)
    ∙ nothing_text layout number) ∙ append-nil out)

pub no_deed : (layout : texts.Layout) (number : ℕ) (out : List ℕ) → out ≡ out ++ commands_text (given_declarations layout number nothing)
no_deed layout number out = sym (ap (λ t. out ++ t) (nothing_text layout number) ∙ append-nil out)

pub the_step : (u : Unrolled) (n : ℕ) (x : Contract) → n < length u.stepped.now → x ≡ slice_index_or u.stepped.now n x →
    given_of (contract_of x) ≡ given_of (stepped_at u n)
the_step u n x l e = ap given_of (ap contract_of e ∙ sym (get_or-map contract_of u.stepped.now n x no_contract l))
