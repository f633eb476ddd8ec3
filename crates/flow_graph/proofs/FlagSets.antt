-- Sets of flags.
use Rattle.std.proofs.Common.{◌≡◌, inl, inr, ℕ, zero, suc, ◌+◌, ◌-◌, ◌^◌, ◌<◌, ◌≤◌, refl, ap, sym, ◌∙◌, subst, arith, List, [], ◌∷◌, length, get_or, map, take, Bool, true, false, eq-eqb, ne_eqb, bit_or}
use Rattle.std.specs.Prelude.{◌==◌, ◌||◌, ◌&&◌, max}
use Rattle.std.specs.List.{list_any}
use Rattle.std.specs.Int.{bit_at}
use Rattle.std.proofs.lemmas.Bool.{cases_eq}
use Rattle.std.proofs.lemmas.Nat.{or_lt}
use Rattle.std.proofs.lemmas.Nat.Bits.{bit_at_or, bit_at-zero, bit_at_ones, bit_at-pow_same, bit_at-pow_other}
use Rattle.std.proofs.lemmas.List.Folds.{list_any_more}
use Rattle.bilv_spec.specs.LiveFlags.{names_flag}
use Rattle.notes_value.specs.Views.{expr_of}
use Rattle.notes_value.specs.declared.expressions.Expr.{Expr}
use Rattle.notes_value.specs.NoteViews.{assert_of, note_line_of}
use Rattle.notes_value.specs.declared.notes.Assert.{Assert}
use Rattle.notes_value.specs.declared.notes.NoteLine.{NoteLine}
use Rattle.notes_index.specs.Indexed.{ArePlacesOf, assert_places}
use Rattle.graph_nodes.specs.Graphs.{IsFlagSet, has_flag}
use Rattle.flow_graph.proofs.Members.{any_map}
use Rattle.flow_graph.proofs.Groups.{any_within, hits, hit_at, fits_at, grouped, within_more}

pub flags_as : (set : ℕ) (s t : ℕ → Bool) → ((f : ℕ) → s f ≡ t f) → IsFlagSet set s → IsFlagSet set t
flags_as set s t e is = record { small = is.small; exact = λ f w. is.exact f w ∙ e f }

max_one : (x y : ℕ) → x < 2 → y < 2 → (max x y == 1) ≡ ((x == 1) || (y == 1))
max_one zero zero v w = refl
max_one zero (suc zero) v w = refl
max_one zero (suc (suc y)) v w = absurd (omega arith)
max_one (suc zero) zero v w = refl
max_one (suc zero) (suc zero) v w = refl
max_one (suc zero) (suc (suc y)) v w = absurd (omega arith)
max_one (suc (suc x)) y v w = absurd (omega arith)

bit_small : (n i : ℕ) → bit_at n i < 2
bit_small n i = omega arith

pub flags_or : (a b : ℕ) (s t : ℕ → Bool) → IsFlagSet a s → IsFlagSet b t → IsFlagSet (bit_or a b) (λ f. s f || t f)
flags_or a b s t is it = record {
  small = or_lt 4 a b is.small it.small;
  exact = λ f w.
      ap (λ n. n == 1) (bit_at_or a b f) ∙ max_one (bit_at a f) (bit_at b f) (bit_small a f) (bit_small b f)
      ∙ ap (λ v. v || has_flag b f) (is.exact f w) ∙ ap (λ v. s f || v) (it.exact f w);
}

pub flags_none : IsFlagSet 0 (λ f. false)
flags_none = record { small = omega arith; exact = λ f w. ap (λ n. n == 1) (bit_at-zero f) }

pub flags_all : IsFlagSet 15 (λ f. true)
flags_all = record { small = omega arith; exact = λ f w. ap (λ n. n == 1) (bit_at_ones 4 f w) }

pub flag_only : (k flag set : ℕ) → flag ≡ k → set ≡ 2 ^ k → set < 16 → IsFlagSet set (λ f. flag == f)
flag_only k flag set e p small = record {
  small = small;
  exact = λ f w.
      elim (cases_eq k f) as (λ _. has_flag set f ≡ (flag == f)) [
        | inl same ↦ ap (λ n. has_flag n f) p ∙ ap (λ n. has_flag (2 ^ k) n) (sym same) ∙ ap (λ n. n == 1) (bit_at-pow_same k) ∙ sym (eq-eqb flag f (e ∙ same))
        | inr other ↦
            ap (λ n. has_flag n f) p ∙ ap (λ n. n == 1) (bit_at-pow_other k f (λ q. other (sym q))) ∙ sym (ne_eqb flag f (λ q. other (sym e ∙ q)))
      ];
}

pub asserts_more : (asserts : List Assert) (index : List (ℕ × ℕ)) (at low high i set more : ℕ) (x : Assert) →
    ArePlacesOf (assert_places asserts) index at low high → low ≤ i → i < high
    → IsFlagSet more (λ f. names_flag f (expr_of (get_or asserts (get_or index i (0, 0)).1 x).says))
    → IsFlagSet set (λ f. any_within (hits (λ x. names_flag f (expr_of x.says)) asserts index) low (i - low))
    → IsFlagSet (bit_or set more) (λ f. any_within (hits (λ x. names_flag f (expr_of x.says)) asserts index) low (i + 1 - low))
asserts_more asserts index at low high i set more x group le lt here so_far =
    let fits = fits_at (λ (y : Assert). y.at) asserts index at low high i group le lt in
    flags_as (bit_or set more) _ _
    (λ f.
    ap (λ b. any_within (hits (λ y. names_flag f (expr_of y.says)) asserts index) low (i - low) || b)
    (sym (hit_at (λ y. names_flag f (expr_of y.says)) asserts index i x fits))
    ∙ sym (within_more (hits (λ y. names_flag f (expr_of y.says)) asserts index) low i le))
    (flags_or set more (λ f. any_within (hits (λ y. names_flag f (expr_of y.says)) asserts index) low (i - low))
    (λ f. names_flag f (expr_of (get_or asserts (get_or index i (0, 0)).1 x).says)) so_far here)

pub asserts_all : (asserts : List Assert) (index : List (ℕ × ℕ)) (at low high i set : ℕ) → ArePlacesOf (assert_places asserts) index at low high → low ≤ high →
    i ≡ high
    → IsFlagSet set (λ f. any_within (hits (λ x. names_flag f (expr_of x.says)) asserts index) low (i - low))
    → IsFlagSet set (λ f. list_any (λ x. (x.at == at) && names_flag f x.says) (map assert_of asserts))
asserts_all asserts index at low high i set group le end is =
    flags_as set _ _
    (λ f.
    grouped (λ (x : Assert). x.at) (λ (x : Assert). names_flag f (expr_of x.says)) at asserts index low high i group le end
    ∙ sym (any_map (λ x. (x.at == at) && names_flag f x.says) assert_of asserts))
    is

pub lines_more : (lines : List NoteLine) (i set more : ℕ) (x : NoteLine) (e : Expr) → i < length lines → x ≡ get_or lines i x → e ≡ x.says
    → IsFlagSet more (λ f. names_flag f (expr_of e)) → IsFlagSet set (λ f. list_any (λ l. names_flag f (expr_of l.says)) (take i lines))
    → IsFlagSet (bit_or set more) (λ f. list_any (λ l. names_flag f (expr_of l.says)) (take (i + 1) lines))
lines_more lines i set more x e fits is says here so_far =
    flags_as (bit_or set more) _ _
    (λ f.
    ap (λ b. list_any (λ l. names_flag f (expr_of l.says)) (take i lines) || b)
    (ap (λ z. names_flag f (expr_of z)) says ∙ ap (λ (y : NoteLine). names_flag f (expr_of y.says)) is)
    ∙ sym (list_any_more (λ l. names_flag f (expr_of l.says)) lines i x fits))
    (flags_or set more (λ f. list_any (λ l. names_flag f (expr_of l.says)) (take i lines)) (λ f. names_flag f (expr_of e)) so_far here)

pub take_whole : {X : Type 0} (xs : List X) (i : ℕ) → length xs ≤ i → take i xs ≡ xs
take_whole [] zero le = refl
take_whole [] (suc i) le = refl
take_whole (x ∷ xs) zero le = absurd (omega arith)
take_whole (x ∷ xs) (suc i) le = ap (λ l. x ∷ l) (take_whole xs i (omega arith))

pub lines_all : (lines : List NoteLine) (i set : ℕ) → length lines ≤ i → IsFlagSet set (λ f. list_any (λ l. names_flag f (expr_of l.says)) (take i lines))
    → IsFlagSet set (λ f. list_any (λ l. names_flag f l.says) (map note_line_of lines))
lines_all lines i set le is =
    flags_as set _ _
    (λ f. ap (list_any (λ l. names_flag f (expr_of l.says))) (take_whole lines i le) ∙ sym (any_map (λ l. names_flag f l.says) note_line_of lines))
    is

-- the flags of the lines that a reference shows
pub lines_are : (lines shown : List NoteLine) (set : ℕ) → shown ≡ lines → IsFlagSet set (λ f. list_any (λ l. names_flag f l.says) (map note_line_of shown))
    → IsFlagSet set (λ f. list_any (λ l. names_flag f l.says) (map note_line_of lines))
lines_are lines shown set e is = subst (λ xs. IsFlagSet set (λ f. list_any (λ l. names_flag f l.says) (map note_line_of xs))) e is
