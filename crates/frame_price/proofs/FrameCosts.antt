-- The parts of the price of an unrolled frame.
use Rattle.std.proofs.Common.{◌≡◌, refl, ap, ◌∙◌, arith, ℕ, ◌+◌, ◌*◌, Bool, true, false, Option, Some, None, List, [], ◌∷◌, ◌++◌, length}
use Rattle.std.specs.Prelude.{if◌then◌else◌, sum_by}
use Rattle.std.specs.List.{list_any}
use Rattle.std.proofs.lemmas.List.Sums.{sum_by-cons, sum_by-append}
use Rattle.bilv_spec.specs.Notes.{Expr}
use Rattle.bilv_spec.specs.Points.{line_price, bytes_loaded}
use Rattle.frame_spec.specs.FramePoints.{says_of}
use Rattle.frame_spec.specs.FrameWalk.{UnrolledPoint, UnrolledProgram}
use Rattle.frame_spec.specs.Frames.{Contract}
use Rattle.frame_spec.specs.FrameUnrolling.{own_of}
use Rattle.frame_laws.specs.FramePrices.{edges_of, entry_lines, goes_out, lines_of, loads_of, own_exit, own_exits, own_writes, point_lines, root_lines, stores_of, term_price}
use Rattle.frame_price.specs.Evaluated.{own_lines}
use Rattle.frame_price.specs.Totals.{row_with_exit}
use Rattle.question_form.specs.declared.unrolled.Unrolled.{Unrolled}
use Rattle.question_form.specs.FrameViews.{frame_unrolled_of, own_contract}
use Rattle.unroller.specs.LineCosts.{capped}

pub heads_within : (b : Bool) (n : ℕ) → n ≡ (if b then 1024 else 0) → n ≡ capped (if b then 1024 else 0)
heads_within true n e = omega (arith, e)
heads_within false n e = omega (arith, e)

sum_terms : (h r e l a b o t : ℕ) → t ≡ r + o → h + (1024 + t + 1280 * e + l + 128 * a) + 512 * b ≡ 1024 + h + r + 1280 * e + l + o + 512 * b + 128 * a
sum_terms h r e l a b o t is = omega (arith, is)

regroup : (r p f a : ℕ) → a ≡ f + p → r + p + f ≡ r + a
regroup r p f a e = omega (arith, e)

rows_split : (u : UnrolledProgram) (xs : List UnrolledPoint) →
    sum_by (row_with_exit u) xs ≡ sum_by (λ q. q.row) xs + sum_by (λ q. own_exit u.own (list_any goes_out q.exits)) xs
rows_split u [] = refl
rows_split u (q ∷ xs) =
    let a = sum_by-cons (row_with_exit u) q xs in
    let b = sum_by-cons (λ (q : UnrolledPoint). q.row) q xs in
    let c = sum_by-cons (λ (q : UnrolledPoint). own_exit u.own (list_any goes_out q.exits)) q xs in
    let d = rows_split u xs in
    omega arith

entry_by : (u : UnrolledProgram) (o : Option Contract) → entry_lines (record u { own = own_of o }) ≡ says_of u.requires ++ own_lines o
entry_by u None = refl
entry_by u (Some x) = refl

module _ (v : Unrolled) where
  abbrev u : UnrolledProgram
  u = frame_unrolled_of v

  -- the lines that are evaluated at the entry and at roots
  abbrev pub first_lines : List Expr
  first_lines = says_of u.requires ++ own_lines (own_contract v) ++ root_lines u

  entry_is : entry_lines u ≡ says_of u.requires ++ own_lines (own_contract v)
  entry_is = entry_by u (own_contract v)

  pub all_lines : (g : Expr → ℕ) → sum_by g (lines_of u) ≡ sum_by g first_lines + sum_by g (point_lines u)
  all_lines g = ap (λ (l : List Expr). sum_by g (l ++ root_lines u ++ point_lines u)) entry_is ∙ sum_by-append g first_lines (point_lines u)

  pub all_loads : sum_by (λ q. q.loads) u.points + sum_by bytes_loaded (point_lines u) + sum_by bytes_loaded first_lines ≡ loads_of u
  all_loads =
      regroup (sum_by (λ q. q.loads) u.points) (sum_by bytes_loaded (point_lines u)) (sum_by bytes_loaded first_lines) (sum_by bytes_loaded (lines_of u))
      (all_lines bytes_loaded)

  pub terms_are : (heads : Bool) →
      (if heads then 1024 else 0)
      + (1024 + sum_by (row_with_exit u) u.points + 1280 * edges_of u + sum_by line_price (lines_of u) + 128 * (stores_of u * length u.kept))
      + 512 * (stores_of u * own_writes u)
      ≡ term_price u heads
  terms_are heads =
      sum_terms (if heads then 1024 else 0) (sum_by (λ q. q.row) u.points) (edges_of u) (sum_by line_price (lines_of u)) (stores_of u * length u.kept)
      (stores_of u * own_writes u) (own_exits u) (sum_by (row_with_exit u) u.points) (rows_split u u.points)
