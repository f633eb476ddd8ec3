-- The edges out of the function are taken at the value that the link register has at entry.
use Rattle.std.proofs.Common.{◌≡◌, ℕ, zero, suc, ◌<◌, Bool, List, [], ◌∷◌, ◌++◌, Option, None, Some, length, get_or, refl, sym, subst, arith}
use Rattle.std.specs.Prelude.{◌==◌, map, filter}
use Rattle.std.specs.List.{AllByRecursion, AllZip}
use Rattle.std.proofs.lemmas.Bool.{false≢true}
use Rattle.machine_spec.specs.Machine.{Row}
use Rattle.bilv_spec.specs.Notes.{Assert}
use Rattle.bilv_spec.specs.Run.{Program}
use Rattle.bilv_spec.specs.Points.{Point, EdgeEnd, ToAddress, ToExit, file_row}
use Rattle.walk_spec.specs.Unrolled.{Aim, OnTo, Outward, OverLast, ToEvent, PointExit, FalseAssert, Always, Raising, WritingKept, Unaligned, Along, UnrolledPoint, UnrolledProgram, point_at}
use Rattle.walk_spec.specs.Unrolling.{IsAim, IsEdge, DoesPlace, address_of, assert_exits}
use Rattle.pair_terms.specs.Places.{IsByLink, UnrollingLeavesByLink}

abbrev AreByLink : List PointExit → Type 0
AreByLink xs = AllByRecursion IsByLink xs

both : (xs ys : List PointExit) → AreByLink xs → AreByLink ys → AreByLink (xs ++ ys)
both [] ys h k = k
both (x ∷ xs) ys h k = (h.0, both xs ys h.1 k)

at : (xs : List PointExit) (i : ℕ) (x : PointExit) → AreByLink xs → i < length xs → get_or xs i x ≡ x → IsByLink x
at [] i x h l e = absurd (omega arith)
at (y ∷ xs) zero x h l e = subst IsByLink e h.0
at (y ∷ xs) (suc i) x h l e = at xs i x h.1 (omega arith) e

asserts : (xs : List Assert) → AreByLink (map (λ a. FalseAssert a.line a.says) xs)
asserts [] = tt
asserts (a ∷ xs) = (tt, asserts xs)

module _ (p : Program) (k : ℕ) (u : UnrolledProgram) (i : ℕ) (point : Point) (row : Row) where
  edge : (t : EdgeEnd) (a : Aim) (falls jumps : Bool) → IsAim u k i point t a → IsByLink (Along falls jumps (address_of t) a)
  edge ToExit Outward falls jumps h = λ q. refl
  edge (ToAddress s to) Outward falls jumps h = absurd h
  edge t (OnTo j) falls jumps h = λ q. absurd (false≢true q)
  edge t OverLast falls jumps h = λ q. absurd (false≢true q)
  edge t (ToEvent e) falls jumps h = λ q. absurd (false≢true q)

  edge_is : (t : EdgeEnd) (a : Aim) (falls jumps : Bool) (x : PointExit) → IsAim u k i point t a → x ≡ Along falls jumps (address_of t) a → IsByLink x
  edge_is t a falls jumps x h e = subst IsByLink (sym e) (edge t a falls jumps h)

  edges : (ends : List EdgeEnd) (xs : List PointExit) → AllZip (IsEdge p k u i point row) ends xs → AreByLink xs
  edges [] [] h = tt
  edges [] (x ∷ xs) h = absurd h
  edges (t ∷ ends) [] h = absurd h
  edges (t ∷ ends) (x ∷ xs) h = (edge_is t h.0.aim _ _ x h.0.leads h.0.is, edges ends xs h.1)

place : (p : Program) (k : ℕ) (u : UnrolledProgram) (i : ℕ) (q : UnrolledPoint) (row : Option Row) → DoesPlace p k u i q row → AreByLink q.exits
place p k u i q None h = subst AreByLink (sym h.1) (both (assert_exits p q.point) (Always _ ∷ []) (asserts (filter (λ x. x.at == q.point.at) p.notes.asserts)) (tt, tt))
place p k u i q (Some row) h =
    subst AreByLink (sym h.1) (both (assert_exits p q.point) (Raising ∷ WritingKept ∷ Unaligned ∷ h.0) (asserts (filter (λ x. x.at == q.point.at) p.notes.asserts))
    (tt, (tt, (tt, edges p k u i q.point row h.2.0 h.0 h.2.2))))

pub unrolling_leaves_by_link : UnrollingLeavesByLink
unrolling_leaves_by_link p k u h i x l c =
    at (point_at u i).exits c.0 x (place p k u i (point_at u i) (file_row p (point_at u i).point.at) (h.places i l).does) c.1 c.2
