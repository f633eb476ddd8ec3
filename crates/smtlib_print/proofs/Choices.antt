-- The declarations of the choices that are drawn, one after another.
use Rattle.std.proofs.Common.{◌≡◌, ℕ, zero, suc, ◌+◌, ◌<◌, Bool, true, false, List, [], ◌∷◌, ◌++◌, length, map, get_or, drop, refl, ap, sym, ◌∙◌, arith, append_assoc, append-nil, add-one}
use Rattle.std.specs.Prelude.{codes, slice_index_or}
use Rattle.std.proofs.Math.Seq.{drop-cons}
use Rattle.bilv_spec.specs.SmtLib.{Atom}
use Rattle.bilv_spec.specs.Scripts.{choice_name}
use Rattle.word_spec.specs.Texts.{number_text}
use Rattle.question_form.specs.declared.unrolled.Point.{Point}
use Rattle.question_form.specs.declared.unrolled.Unrolled.{Unrolled}
use Rattle.question_form.specs.FrameViews as views
use Rattle.question_form.specs.FrameViews.{frame_unrolled_of}
use Rattle.question_form.specs.Views.{code_of, no_code, points_of, unrolled_of}
use Rattle.smtlib_print.specs.Commands.{declaration, declarations, drawn, word_sort}
use Rattle.smtlib_print.specs.Scripted.{draws_of}
use Rattle.smtlib_print.specs.Written.{written, commands_text}
use Rattle.smtlib_print.proofs.Printed.{ended}

-- the declarations of choices
abbrev pub chosen : (numbers : List ℕ) → (draws : List Bool) → List ℕ
chosen numbers draws = commands_text (declarations (word_sort (Atom (codes "2"))) (drawn numbers draws))

-- those that are left from a place on
abbrev pub unchosen : (numbers : List ℕ) → (draws : List Bool) → ℕ → List ℕ
unchosen numbers draws i = chosen (drop i numbers) (drop i draws)

one_chosen : (n : ℕ) (d : Bool) (ns : List ℕ) (ds : List Bool) → chosen (n ∷ ns) (d ∷ ds) ≡ chosen (n ∷ []) (d ∷ []) ++ chosen ns ds
one_chosen n true ns ds = sym (append_assoc (written (declaration (choice_name n) (word_sort (Atom (codes "2"))))) (10 ∷ []) (chosen ns ds))
one_chosen n false ns ds = refl

-- one choice more
pub choice_more : (numbers : List ℕ) (draws : List Bool) (i n : ℕ) (d : Bool) (out new all : List ℕ) → i < length numbers → i < length draws →
    n ≡ get_or numbers i 0 → d ≡ get_or draws i false → new ≡ out ++ chosen (n ∷ []) (d ∷ []) → out ++ unchosen numbers draws i ≡ all →
    new ++ unchosen numbers draws (i + 1) ≡ all
choice_more numbers draws i n d out new all l k e f step inv =
    let a : drop i numbers ≡ n ∷ drop (suc i) numbers = drop-cons numbers i 0 l ∙ ap (λ m. m ∷ drop (suc i) numbers) (sym e) in
    let b : drop i draws ≡ d ∷ drop (suc i) draws = drop-cons draws i false k ∙ ap (λ m. m ∷ drop (suc i) draws) (sym f) in
    rw add-one
    (ap (λ t. t ++ chosen (drop (suc i) numbers) (drop (suc i) draws)) step
    ∙ append_assoc out (chosen (n ∷ []) (d ∷ [])) (chosen (drop (suc i) numbers) (drop (suc i) draws))
    ∙ ap (λ t. out ++ t) (sym (one_chosen n d (drop (suc i) numbers) (drop (suc i) draws)))
    ∙ ap (λ t. out ++ chosen t (d ∷ drop (suc i) draws)) (sym a) ∙ ap (λ t. out ++ chosen (drop i numbers) t) (sym b) ∙ inv)

none_left : (xs : List Bool) (ns : List ℕ) (i : ℕ) → i ≡ length ns → drop i ns ≡ []
none_left xs [] zero e = refl
none_left xs [] (suc i) e = refl
none_left xs (n ∷ ns) zero e = absurd (omega (arith, e))
none_left xs (n ∷ ns) (suc i) e = none_left xs ns i (omega (arith, e))

drawn_none : (ds : List Bool) → drawn [] ds ≡ []
drawn_none [] = refl
drawn_none (d ∷ ds) = refl

pub choices_done : (numbers : List ℕ) (draws : List Bool) (i : ℕ) (out all : List ℕ) → i ≡ length numbers → out ++ unchosen numbers draws i ≡ all → out ≡ all
choices_done numbers draws i out all e inv =
    sym (append-nil out) ∙ ap (λ w. out ++ commands_text (declarations (word_sort (Atom (codes "2"))) w)) (sym (drawn_none (drop i draws)))
    ∙ ap (λ t. out ++ chosen t (drop i draws)) (sym (none_left draws numbers i e)) ∙ inv

-- the declaration of a choice in its parts
pub choice_added : (n : ℕ) → codes "(declare-const c" ++ (number_text n ++ codes " (_ BitVec 2))\n") ≡ chosen (n ∷ []) (true ∷ [])
choice_added n = ended (codes "(declare-const c") (number_text n) (codes " (_ BitVec 2))")

-- whether a point draws
pub point_draws : (u : Unrolled) (qs : List Point) (i : ℕ) (d : Point) (b : Bool) → i < length qs → d ≡ get_or qs i d →
    b ≡ (slice_index_or u.codes.items d.code no_code).draws →
    b ≡ get_or (map (λ q. (code_of u q).draws) qs) i false
point_draws u [] i d b l e f = absurd (omega (arith, l))
point_draws u (q ∷ qs) zero d b l e f = f ∙ ap (λ (x : Point). (slice_index_or u.codes.items x.code no_code).draws) e
point_draws u (q ∷ qs) (suc i) d b l e f = point_draws u qs i d b (omega (arith, l)) e f

pub draws_count : (u : Unrolled) (qs : List Point) → length (map (λ q. (code_of u q).draws) qs) ≡ length qs
draws_count u [] = refl
draws_count u (q ∷ qs) = ap suc (draws_count u qs)

-- so do the points of the unrolled program and of the unrolled frame
draws_are : (u : Unrolled) (qs : List Point) → map (λ q. q.draws) (points_of u qs) ≡ map (λ q. (code_of u q).draws) qs
draws_are u [] = refl
draws_are u (q ∷ qs) = ap (λ l. (code_of u q).draws ∷ l) (draws_are u qs)

pub program_draws : (u : Unrolled) → map (λ q. q.draws) (unrolled_of u).points ≡ draws_of u
program_draws u = draws_are u u.points.items

frame_draws_are : (u : Unrolled) (qs : List Point) → map (λ q. q.draws) (views.points_of u qs) ≡ map (λ q. (code_of u q).draws) qs
frame_draws_are u [] = refl
frame_draws_are u (q ∷ qs) = ap (λ l. (code_of u q).draws ∷ l) (frame_draws_are u qs)

pub frame_draws : (u : Unrolled) → map (λ q. q.draws) (frame_unrolled_of u).points ≡ draws_of u
frame_draws u = frame_draws_are u u.points.items

pub points_count : (u : Unrolled) (qs : List Point) → length (points_of u qs) ≡ length qs
points_count u [] = refl
points_count u (q ∷ qs) = ap suc (points_count u qs)
