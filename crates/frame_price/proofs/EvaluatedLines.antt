-- Costs of the lines that are evaluated at points, heads and roots.
use Rattle.std.proofs.Common.{◌≡◌, refl, ap, sym, ◌∙◌, subst, ℕ, ◌+◌, ◌<◌, Bool, true, false, List, [], ◌∷◌, ◌++◌, length, take, get_or}
use Rattle.std.specs.Prelude.{filter, if◌then◌else◌, map}
use Rattle.std.specs.List.{flat_map}
use Rattle.std.proofs.lemmas.List.{append-nil, map-append, take_more}
use Rattle.std.proofs.lemmas.List.Concat.{flat_map-append}
use Rattle.bilv_spec.specs.Notes.{Expr}
use Rattle.frame_spec.specs.FramePoints.{Anchor, AtEntry, AtHead, says_of}
use Rattle.frame_spec.specs.FrameWalk.{Check, FalseCheck}
use Rattle.frame_laws.specs.FramePrices.{line_of}
use Rattle.question_form.specs.declared.unrolled.Root.{Root}
use Rattle.question_form.specs.declared.unrolled.Unrolled.{Unrolled}
use Rattle.question_form.specs.FrameViews.{assumed_of, checks_between, is_judged, root_of}
use Rattle.unroller.specs.LineCosts.{AreLineCosts}
use Rattle.unroller.specs.Totals.{IsSum}
use Rattle.unroller.specs.declared.costs.LineCost.{LineCost}
use Rattle.unroller.proofs.Totalled.{costs_on}
use Rattle.frame_price.specs.declared.lines.Chosen.TheVariants.{All, Asserts, Invariants}
use Rattle.frame_price.specs.Evaluated.{chosen_by, evaluated_lines, is_chosen, lines_if}

-- what the kept elements of a list say
kept_by : (f : Check → Bool) (b : Bool) (x : Check) (xs : List Check) → map (λ y. y.says) (filter f xs) ≡ flat_map (λ y. lines_if (f y) y.says) xs →
    map (λ y. y.says) (if b then x ∷ filter f xs else filter f xs) ≡ lines_if b x.says ++ flat_map (λ y. lines_if (f y) y.says) xs
kept_by f true x xs e = ap (λ (l : List Expr). x.says ∷ l) e
kept_by f false x xs e = e

kept_lines : (f : Check → Bool) (xs : List Check) → map (λ y. y.says) (filter f xs) ≡ flat_map (λ y. lines_if (f y) y.says) xs
kept_lines f [] = refl
kept_lines f (x ∷ xs) = kept_by f (f x) x xs (kept_lines f xs)

exit_lines : (xs : List Check) → flat_map line_of (map FalseCheck xs) ≡ map (λ y. y.says) xs
exit_lines [] = refl
exit_lines (x ∷ xs) = ap (λ (l : List Expr). x.says ∷ l) (exit_lines xs)

-- the lines that are judged at a point of an anchor
pub judged_lines : (a : Anchor) (xs : List Check) → flat_map line_of (map FalseCheck (filter (is_judged a) xs)) ≡ evaluated_lines (chosen_by a) xs
judged_lines AtEntry xs = exit_lines (filter (is_judged AtEntry) xs) ∙ kept_lines (λ x. is_chosen All x.invariant) xs
judged_lines (AtHead stack at) xs = exit_lines (filter (is_judged (AtHead stack at)) xs) ∙ kept_lines (λ x. is_chosen Asserts x.invariant) xs

assumed_lines : (xs : List Check) → says_of (map assumed_of xs) ≡ map (λ y. y.says) xs
assumed_lines [] = refl
assumed_lines (x ∷ xs) = ap (λ (l : List Expr). x.says ∷ l) (assumed_lines xs)

-- the lines that a root assumes
root_lines : (u : Unrolled) (x : Root) → says_of (root_of u x).assumes ≡ evaluated_lines Invariants (checks_between u x.asserts)
root_lines u x =
    assumed_lines (filter (λ c. c.invariant) (checks_between u x.asserts)) ∙ kept_lines (λ c. is_chosen Invariants c.invariant) (checks_between u x.asserts)

-- the lines of one more root
pub roots_on : (u : Unrolled) (xs : List Root) (i : ℕ) (d : Root) (a b t : LineCost) → i < length xs →
    AreLineCosts a (flat_map (λ x. says_of x.assumes) (map (root_of u) (take i xs))) →
    AreLineCosts b (evaluated_lines Invariants (checks_between u (get_or xs i d).asserts)) → IsSum a b t →
    AreLineCosts t (flat_map (λ x. says_of x.assumes) (map (root_of u) (take (i + 1) xs)))
roots_on u xs i d a b t w x y s =
    let one = get_or xs i d in
    let before = map (root_of u) (take i xs) in
    let e : flat_map (λ x. says_of x.assumes) (map (root_of u) (take (i + 1) xs))
    ≡ flat_map (λ x. says_of x.assumes) before ++ evaluated_lines Invariants (checks_between u one.asserts) =
    ap (λ (l : List Root). flat_map (λ x. says_of x.assumes) (map (root_of u) l)) (take_more xs i d w)
    ∙ ap (λ l. flat_map (λ x. says_of x.assumes) l) (map-append (root_of u) (take i xs) (one ∷ []))
    ∙ flat_map-append (λ x. says_of x.assumes) before (root_of u one ∷ [])
    ∙ ap (λ (l : List Expr). flat_map (λ x. says_of x.assumes) before ++ l) (append-nil (says_of (root_of u one).assumes) ∙ root_lines u one) in
    subst (AreLineCosts t) (sym e)
    (costs_on (flat_map (λ x. says_of x.assumes) before) (evaluated_lines Invariants (checks_between u one.asserts)) a b t x y s)
