-- Without heads and contracts that are stepped over, the points of a frame are those of its program.
use Rattle.std.proofs.Common.{◌≡◌, ℕ, ◌+◌, ◌<◌, ◌≤◌, refl, ap, sym, ◌∙◌, subst, arith, List, [], ◌∷◌, ◌++◌, length, map, take, get_or}
use Rattle.std.specs.Prelude.{slice_get, Contains, option_map}
use Rattle.std.proofs.lemmas.Option.{slice_get-map}
use Rattle.std.proofs.lemmas.List.{length-map, map-append, take_more}
use Rattle.program_points.proofs.Lists.{take_whole}
use Rattle.bilv_spec.specs.Run.{Program}
use Rattle.bilv_spec.specs.Points as tables
use Rattle.bilv_spec.proofs.PointsInGraph.{of_map}
use Rattle.frame_spec.specs.FramePoints as frame_points
use Rattle.frame_spec.specs.FramePoints.{triple}
use Rattle.frame_spec.specs.Theorems.{headless}
use Rattle.frame_spec.proofs.Headless.{no_head}
use Rattle.frame_laws.specs.HeadlessLaws.{as_point}
use Rattle.frame_laws.proofs.HeadlessPoints.{to, are_flat, flat_list}
use Rattle.program_points.specs.declared.stacks.Stacks.{Stacks}
use Rattle.program_points.specs.declared.values.FramePoint.{FramePoint}
use Rattle.program_points.specs.declared.values.FramePoints.{FramePoints}
use Rattle.program_points.specs.declared.values.Point.{Point}
use Rattle.program_points.specs.declared.values.Points.{Points}
use Rattle.program_points.specs.declared.values.PointsFault.{PointsFault}
use Rattle.program_points.specs.declared.values.PointsFault.TheVariants.{TooMany, Memory}
use Rattle.program_points.specs.Listed.{AreStacks, AreCuts, AreFramePointsOf, ArePointsOf, HasTooMany, IsTooMany, frame_point_of, plain_of, point_of}

-- nothing is cut
pub no_cuts : (p : Program) → AreCuts (headless p) [] []
no_cuts p = record { heads = λ a. no_head p a; stepped = λ a. refl }

same_points : (stacks : List (List ℕ)) (xs : List FramePoint) → map triple (map (frame_point_of stacks) xs) ≡ map (point_of stacks) (map plain_of xs)
same_points stacks [] = refl
same_points stacks (x ∷ xs) = ap (λ l. triple (frame_point_of stacks x) ∷ l) (same_points stacks xs)

module _ (p : Program) (k : ℕ) where
  pub plain_points : (v : FramePoints) (w : Points) → w.stacks ≡ v.stacks → w.points.items ≡ map plain_of v.points.items → AreFramePointsOf (headless p) k v →
      ArePointsOf p k w
  plain_points v w same items (stacks, are, all) =
      let list = map (frame_point_of stacks) v.points.items in
      let flat : map as_point (map triple list) ≡ list = flat_list p k list all.only in
      let e : map triple list ≡ map (point_of stacks) w.points.items = same_points stacks v.points.items ∙ ap (map (point_of stacks)) (sym items) in (
        stacks,
        subst (λ (s : Stacks). AreStacks s.frames.items stacks) (sym same) are,
        subst (λ z. tables.ArePoints p k z) e
            (are_flat p k (map triple list) (subst (λ z. frame_points.ArePoints (headless p) k z) (sym flat) all)),
      )

  plain_more : (max : ℕ) → frame_points.HasMore (headless p) k max → tables.HasMore p k max
  plain_more max (list, long, only, once) =
      let flat : map as_point (map triple list) ≡ list = flat_list p k list only in
      let count = length-map list triple in (
        map triple list,
        omega arith,
        (λ x c. (let q = of_map triple list x c in
            let it = to p k q.0 (only q.0 q.1) in
            subst (λ z. tables.IsPoint p k z) (sym (ap triple it.2) ∙ q.2) it.1)),
        (λ i j lt h e. once i j lt (omega arith)
            (ap (λ l. slice_get l i) (sym flat) ∙ slice_get-map as_point (map triple list) i ∙ ap (option_map as_point) e
            ∙ sym (slice_get-map as_point (map triple list) j) ∙ ap (λ l. slice_get l j) flat)),
      )

  pub plain_fault : (max : ℕ) (e : PointsFault) → HasTooMany (headless p) k max e → IsTooMany p k max e
  plain_fault max (TooMany c) (more, count) = (plain_more max more, count)
  plain_fault max Memory is = is

-- the stack of each point has a number
pub plain_numbered : (xs : List FramePoint) (ys : List Point) (most : ℕ) → ys ≡ map plain_of xs → ((q : FramePoint) → Contains xs q → q.stack ≤ most) →
    (q : Point) → Contains ys q → q.stack ≤ most
plain_numbered xs ys most e low q h =
    let it = of_map plain_of xs q (subst (λ (l : List Point). Contains l q) e h) in
    subst (λ (z : Point). z.stack ≤ most) it.2 (low it.0 it.1)

pub plain_count : (xs : List FramePoint) (ys : List Point) → ys ≡ map plain_of xs → length ys ≡ length xs
plain_count xs ys e = ap length e ∙ length-map xs plain_of

-- the points so far, and one more
pub plain_next : (xs : List FramePoint) (i : ℕ) (d : FramePoint) (found grown : List Point) → i < length xs → found ≡ map plain_of (take i xs) →
    grown ≡ found ++ plain_of (get_or xs i d) ∷ [] → grown ≡ map plain_of (take (i + 1) xs)
plain_next xs i d found grown fits e more =
    more ∙ ap (λ l. l ++ plain_of (get_or xs i d) ∷ []) e ∙ sym (map-append plain_of (take i xs) (get_or xs i d ∷ []))
    ∙ sym (ap (map plain_of) (take_more xs i d fits))

pub plain_whole : (xs : List FramePoint) (i : ℕ) (found : List Point) → length xs ≤ i → found ≡ map plain_of (take i xs) → found ≡ map plain_of xs
plain_whole xs i found le e = e ∙ ap (map plain_of) (take_whole xs i le)
