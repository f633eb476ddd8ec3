-- Without invariants and contracts the points and the price of all frames are the program's.
use Rattle.std.proofs.Common.{◌≡◌, ℕ, ◌+◌, refl, sym, ◌∙◌, subst, arith, [], ◌∷◌, false}
use Rattle.std.specs.Prelude.{sum_by}
use Rattle.std.proofs.lemmas.List.Sums.{sum_by-cons}
use Rattle.machine_spec.specs.StateText.{Layout, rv_layout}
use Rattle.call_spec.specs.Calls as calls
use Rattle.bilv_spec.specs.Answers as answers
use Rattle.bilv_spec.specs.Points as points
use Rattle.bilv_spec.specs.Run.{Program}
use Rattle.frame_spec.specs.FrameReports.{HasMore, IsWholePrice, IsWithin}
use Rattle.frame_spec.specs.FrameVerdict.{Whole}
use Rattle.frame_laws.specs.HeadlessLaws.{headless_whole}
use Rattle.frame_laws.proofs.HeadlessPoints.{headless_price}
use Rattle.frame_laws.proofs.HeadlessReports.{headless_reports}

module _ (p : Program) (b : calls.Budget) where
  abbrev w : Whole
  w = headless_whole p

  abbrev k : ℕ
  k = b.unroll

  -- the reports on budgets are those of any layout
  abbrev form : Layout
  form = rv_layout false

  pub more_from : HasMore w k b.points → points.HasMore p k b.points
  more_from h = ((headless_reports p form b answers.PointsReport (calls.Count (b.points + 1))).0 (h, refl)).0

  pub more_to : points.HasMore p k b.points → HasMore w k b.points
  more_to h = ((headless_reports p form b answers.PointsReport (calls.Count (b.points + 1))).1 (h, refl)).0

  one_sum : (n : ℕ) → sum_by (λ (m : ℕ). m) (n ∷ []) ≡ n
  one_sum n = let e = sum_by-cons (λ (m : ℕ). m) n [] in omega arith

  pub price_from : (n : ℕ) → IsWholePrice w k n → points.IsPrice p k n
  price_from n ([], zip, e) = absurd zip
  price_from n (m ∷ [], zip, e) = subst (points.IsPrice p k) (sym (e ∙ one_sum m)) ((headless_price p k m).0 zip.0)
  price_from n (m ∷ o ∷ rest, zip, e) = absurd zip.1

  pub within_from : IsWithin w b → answers.IsWithin p b
  within_from h = record { points = λ m. h.points (more_to m); price = h.price; is_price = price_from h.price h.is_price; size = h.size }
