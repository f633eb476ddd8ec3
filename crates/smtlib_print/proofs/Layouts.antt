-- The names of registers, flags, the memory and choices, and their values under a reading.
use Rattle.std.proofs.Common.{◌≡◌, ℕ, zero, suc, ◌+◌, ◌<◌, refl, ap, sym, ◌∙◌, arith, true, false, Bool, List, [], ◌∷◌, ◌++◌, Some, None, length}
use Rattle.std.specs.Prelude.{◌==◌, ◌&&◌, ◌||◌, not, codes, if◌then◌else◌, slice_index_or}
use Rattle.std.specs.List.{list_all}
use Rattle.std.specs.Option.{option_map}
use Rattle.std.specs.Str.{bytes_eq}
use Rattle.std.proofs.lemmas.Bool.Decides.{nat_tests}
use Rattle.std.proofs.lemmas.List.{get_or-map, length-map}
use Rattle.std.proofs.lemmas.List.Folds.{list_all-append}
use Rattle.frame_spec.specs.FrameScripts.{of_head}
use Rattle.word_spec.specs.Memory.{Endian, endian}
use Rattle.word_spec.specs.Profiles.{Profile}
use Rattle.machine_spec.specs.StateText.{Layout, value_names, place_in, rv_layout, arm_layout}
use Rattle.machine_spec.proofs.Spelling.{same_text}
use Rattle.std.specs.Fmt.{digits}
use Rattle.start_value.specs.declared.layout.Layout as forms
use Rattle.start_value.specs.declared.layout.Layout.TheVariants.{Rv32, Arm}
use Rattle.start_value.specs.Starts.{layout_of, profile_in}
use Rattle.smtlib_print.specs.Commands.{memory_name, part_name, part_names}
use Rattle.smtlib_print.proofs.Declared.{are_new, both_true, is_false}
use Rattle.smtlib_print.proofs.Defined.{among}
use Rattle.smtlib_print.proofs.Names.{is_symbol, other_text}
use Rattle.smtlib_print.proofs.ReadBack.{is_word}

-- the first letter is that of a term or of a choice
abbrev pub is_lettered : List ℕ → Bool
is_lettered [] = true
is_lettered (b ∷ w) = (b == 116) || (b == 99)

-- a name that can be a symbol beside those of terms, choices and the memory
abbrev pub is_own : List ℕ → Bool
is_own w = is_symbol w && (is_word w && (not (is_lettered w) && not (bytes_eq w (codes "mem"))))

-- no two names are the same
abbrev pub are_distinct : List (List ℕ) → Bool
are_distinct [] = true
are_distinct (n ∷ ns) = not (among ns n) && are_distinct ns

-- the first letter is that of the names of the head state
abbrev pub is_headed : List ℕ → Bool
is_headed [] = false
is_headed (b ∷ w) = b == 104

-- the first letter is that of the symbols of what contract steps are given
abbrev pub is_gifted : List ℕ → Bool
is_gifted [] = false
is_gifted (b ∷ w) = b == 103

-- a name that can be a symbol beside those of terms and choices
abbrev pub is_fixed : List ℕ → Bool
is_fixed w = is_symbol w && (is_word w && not (is_lettered w))

-- the symbols of what a part has
abbrev pub part_symbols : Layout → (part : ℕ) → List (List ℕ)
part_symbols layout p = part_names p layout.registers ++ (part_names p layout.flags ++ (memory_name p ∷ []))

-- the symbols of what the head has, where there is one
abbrev pub head_parts : Layout → (heads : Bool) → List (List ℕ)
head_parts layout false = []
head_parts layout true = part_symbols layout 1

-- the symbols of both
abbrev pub fixed_names : Layout → (heads : Bool) → List (List ℕ)
fixed_names layout heads = part_symbols layout 0 ++ head_parts layout heads

-- the names of a layout serve as symbols
pub record IsUsable (layout : Layout) : Type 0 where
  pub own : list_all is_own (value_names layout) ≡ true
  pub bare : list_all (λ w. not (is_headed w)) (value_names layout) ≡ true
  pub distinct : are_distinct (value_names layout) ≡ true
  pub fixed : (heads : Bool) → list_all is_fixed (fixed_names layout heads) ≡ true
  pub new : (heads : Bool) → are_new [] (fixed_names layout heads) ≡ true
  pub own_ungiven : list_all (λ w. not (is_gifted w)) (value_names layout) ≡ true
  pub ungiven : (heads : Bool) → list_all (λ w. not (is_gifted w)) (fixed_names layout heads) ≡ true

rv_fixed : (compressed heads : Bool) → list_all is_fixed (fixed_names (rv_layout compressed) heads) ≡ true
unfolding digits
rv_fixed compressed false = refl
rv_fixed compressed true = refl

rv_new : (compressed heads : Bool) → are_new [] (fixed_names (rv_layout compressed) heads) ≡ true
unfolding digits
rv_new compressed false = refl
rv_new compressed true = refl

rv_ungiven : (compressed heads : Bool) → list_all (λ w. not (is_gifted w)) (fixed_names (rv_layout compressed) heads) ≡ true
unfolding digits
rv_ungiven compressed false = refl
rv_ungiven compressed true = refl

pub rv_usable : (compressed : Bool) → IsUsable (rv_layout compressed)
unfolding digits
rv_usable compressed = record {
  own = refl;
  bare = refl;
  distinct = refl;
  fixed = rv_fixed compressed;
  new = rv_new compressed;
  own_ungiven = refl;
  ungiven = rv_ungiven compressed;
}

arm_fixed : (e : Endian) (profile : Profile) (heads : Bool) → list_all is_fixed (fixed_names (arm_layout e profile) heads) ≡ true
unfolding digits
arm_fixed e profile false = refl
arm_fixed e profile true = refl

arm_new : (e : Endian) (profile : Profile) (heads : Bool) → are_new [] (fixed_names (arm_layout e profile) heads) ≡ true
unfolding digits
arm_new e profile false = refl
arm_new e profile true = refl

arm_ungiven : (e : Endian) (profile : Profile) (heads : Bool) →
    list_all (λ w. not (is_gifted w)) (fixed_names (arm_layout e profile) heads) ≡ true
unfolding digits
arm_ungiven e profile false = refl
arm_ungiven e profile true = refl

pub arm_usable : (e : Endian) (profile : Profile) → IsUsable (arm_layout e profile)
unfolding digits
arm_usable e profile = record {
  own = refl;
  bare = refl;
  distinct = refl;
  fixed = arm_fixed e profile;
  new = arm_new e profile;
  own_ungiven = refl;
  ungiven = arm_ungiven e profile;
}

pub usable_of : (form : forms.Layout) → IsUsable (layout_of form)
usable_of (Rv32 compressed) = rv_usable compressed
usable_of (Arm big profile) = arm_usable (endian big) (profile_in profile)

-- a name by its place
abbrev pub name_at : List (List ℕ) → ℕ → List ℕ
name_at names i = slice_index_or names i []

pub each_own : (p : List ℕ → Bool) (names : List (List ℕ)) (i : ℕ) → list_all p names ≡ true → i < length names → p (name_at names i) ≡ true
each_own p [] i h l = absurd (omega arith)
each_own p (n ∷ ns) zero h l = (both_true (p n) (list_all p ns) h).0
each_own p (n ∷ ns) (suc i) h l = each_own p ns i (both_true (p n) (list_all p ns) h).1 (omega arith)

pub among_at : (names : List (List ℕ)) (i : ℕ) → i < length names → among names (name_at names i) ≡ true
among_at [] i l = absurd (omega arith)
among_at (n ∷ ns) zero l = rw (same_text n) refl
among_at (n ∷ ns) (suc i) l = or_true (bytes_eq (name_at ns i) n) _ (among_at ns i (omega arith))
  where
    or_true : (a b : Bool) → b ≡ true → (a || b) ≡ true
    or_true true b h = refl
    or_true false b h = h

pub place_at : (names : List (List ℕ)) (i : ℕ) → are_distinct names ≡ true → i < length names → place_in names (name_at names i) ≡ Some i
place_at [] i h l = absurd (omega arith)
place_at (n ∷ ns) zero h l = rw (same_text n) refl
place_at (n ∷ ns) (suc i) h l =
    let d = both_true (not (among ns n)) (are_distinct ns) h in
    let f = other_text (name_at ns i) n (λ e. true_false (sym (ap (among ns) (sym e) ∙ among_at ns i (omega arith)) ∙ is_false (among ns n) d.0)) in
    rw (f, place_at ns i d.1 (omega arith)) (ap Some (omega arith))
  where
    true_false : true ≡ false → ⊥
    true_false e = cc e

pub place_none : (names : List (List ℕ)) (w : List ℕ) → among names w ≡ false → place_in names w ≡ None
place_none [] w h = refl
place_none (n ∷ ns) w h = by_first (bytes_eq w n) h (place_none ns w)
  where
    by_first : (b : Bool) → (b || among ns w) ≡ false → (among ns w ≡ false → place_in ns w ≡ None) →
        (if b then Some 0 else option_map (λ i. i + 1) (place_in ns w)) ≡ None
    by_first true h f = absurd (cc h)
    by_first false h f = ap (option_map (λ i. i + 1)) (f h)

-- what passes a test on two lists
pub all_both : (p : List ℕ → Bool) (v w : List (List ℕ)) → list_all p (v ++ w) ≡ true → (list_all p v ≡ true) × (list_all p w ≡ true)
all_both p v w h = both_true (list_all p v) (list_all p w) (sym (list_all-append p v w) ∙ h)

-- a name is among itself
pub among_first : (w : List ℕ) → among (w ∷ []) w ≡ true
among_first w = rw (same_text w) refl

-- what is among two lists
pub among_left : (v w : List (List ℕ)) (n : List ℕ) → among v n ≡ true → among (v ++ w) n ≡ true
among_left [] w n h = absurd (cc h)
among_left (m ∷ v) w n h = by_first (bytes_eq n m) h (among_left v w n)
  where
    by_first : (b : Bool) → (b || among v n) ≡ true → (among v n ≡ true → among (v ++ w) n ≡ true) → (b || among (v ++ w) n) ≡ true
    by_first true h f = refl
    by_first false h f = f h

pub among_right : (v w : List (List ℕ)) (n : List ℕ) → among w n ≡ true → among (v ++ w) n ≡ true
among_right [] w n h = h
among_right (m ∷ v) w n h = or_true (bytes_eq n m) (among (v ++ w) n) (among_right v w n h)
  where
    or_true : (a b : Bool) → b ≡ true → (a || b) ≡ true
    or_true true b h = refl
    or_true false b h = h

-- the symbols of a part by their places
pub part_count : (p : ℕ) (names : List (List ℕ)) → length (part_names p names) ≡ length names
part_count zero names = refl
part_count (suc p) names = length-map names of_head

pub part_at : (p : ℕ) (names : List (List ℕ)) (i : ℕ) → i < length names → name_at (part_names p names) i ≡ part_name p (name_at names i)
part_at zero names i l = refl
part_at (suc p) names i l = get_or-map of_head names i [] [] l

pub part_among : (p : ℕ) (names : List (List ℕ)) (i : ℕ) → i < length names → among (part_names p names) (part_name p (name_at names i)) ≡ true
part_among p names i l =
    ap (among (part_names p names)) (sym (part_at p names i l)) ∙ among_at (part_names p names) i (let c = part_count p names in omega (arith, l, c))

-- no name that begins otherwise is a symbol of what is given
ungifted : (w n : List ℕ) → is_gifted n ≡ false → bytes_eq (103 ∷ w) n ≡ false
ungifted w [] h = refl
ungifted w (b ∷ n) h = rw (other b h) refl
  where
    other : (c : ℕ) → (c == 103) ≡ false → (103 == c) ≡ false
    other c e = grind (arith, nat_tests)

pub no_gift : (names : List (List ℕ)) (w : List ℕ) → list_all (λ n. not (is_gifted n)) names ≡ true → among names (103 ∷ w) ≡ false
no_gift [] w h = refl
no_gift (n ∷ ns) w h =
    let t = both_true (not (is_gifted n)) (list_all (λ m. not (is_gifted m)) ns) h in
    rw (ungifted w n (is_false (is_gifted n) t.0)) (no_gift ns w t.1)
