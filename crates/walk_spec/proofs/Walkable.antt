-- An unrolled program of a program is walkable.
use Rattle.std.proofs.Common.{◌≡◌, ⊎_elim, refl, ap, sym, ◌∙◌, subst, arith, ℕ, zero, suc, ◌+◌, ◌^◌, ◌≤◌, ◌<◌, [], ◌∷◌, List, Option, Some, None, Bool, true, false, length}
use Rattle.std.specs.Prelude.{Contains, ◌==◌, map, filter, sum_by}
use Rattle.std.specs.List.{AllZip}
use Rattle.std.proofs.lemmas.List.Sums.{sum_by-cons, sum_by-append}
use Rattle.word_spec.specs.Words.{bit}
use Rattle.word_spec.specs.RowFiles.{from_to}
use Rattle.machine_spec.specs.Machine.{Row}
use Rattle.bilv_spec.specs.Notes.{NoteLine, Assert}
use Rattle.bilv_spec.specs.Run.{Program, fetchable}
use Rattle.bilv_spec.specs.Points.{Point, EdgeEnd, ToAddress, ToExit, file_row, file_word}
use Rattle.bilv_spec.proofs.PointsInGraph.{split_in, of_filter, of_map}
use Rattle.walk_spec.specs.Unrolled.{Aim, OnTo, Outward, OverLast, ToEvent, PointExit, FalseAssert, Always, Raising, WritingKept, Unaligned, UnrolledPoint, UnrolledProgram, goes_out, is_outward, is_register_of, point_at}
use Rattle.walk_spec.specs.Unrolling.{DoesPlace, IsEdge, IsAim, AreReadableBy, ExitIsReadable, assert_exits, stop_event}
use Rattle.walk_spec.specs.WalkLaws.{UnrollingIsWalkable}
use Rattle.walk_spec.proofs.WalkOrder.{places_rise}

pub count_of : (n count : ℕ) → length (from_to n count) ≡ count
count_of n zero = refl
count_of n (suc count) = let e = count_of (n + 1) count in omega arith

abbrev outs : List PointExit → ℕ
outs xs = sum_by (λ x. bit (goes_out x)) xs

outs_in_asserts : (asserts : List Assert) → outs (map (λ a. FalseAssert a.line a.says) asserts) ≡ 0
outs_in_asserts [] = refl
outs_in_asserts (a ∷ asserts) =
    let h = sum_by-cons (λ x. bit (goes_out x)) (FalseAssert a.line a.says) (map (λ b. FalseAssert b.line b.says) asserts) in let e = outs_in_asserts asserts
    in omega arith

at_most : (b : Bool) → bit b ≤ 1
at_most true = omega arith
at_most false = omega arith

module _ (p : Program) (k : ℕ) (u : UnrolledProgram) (i : ℕ) where
  out_only : (point : Point) (t : EdgeEnd) (aim : Aim) → IsAim u k i point t aim → (t ≡ ToExit → ⊥) → is_outward aim ≡ false
  out_only point t (OnTo n) h ne = refl
  out_only point t OverLast h ne = refl
  out_only point t (ToEvent e) h ne = refl
  out_only point ToExit Outward h ne = absurd (ne refl)
  out_only point (ToAddress stack a) Outward h ne = absurd h

  module _ (point : Point) (row : Row) where
    none_out : (ends : List EdgeEnd) (xs : List PointExit) → AllZip (IsEdge p k u i point row) ends xs → (Contains ends ToExit → ⊥) → outs xs ≡ 0
    none_out [] [] z n = refl
    none_out [] (x ∷ xs) z n = absurd z
    none_out (t ∷ ends) [] z n = absurd z
    none_out (t ∷ ends) (x ∷ xs) z n =
        let h = sum_by-cons (λ y. bit (goes_out y)) x xs in
        let here : bit (goes_out x) ≡ 0 = ap (λ y. bit (goes_out y)) z.0.is ∙ ap bit (out_only point t z.0.aim z.0.leads (λ e. n (0, omega arith, e))) in
        let rest = none_out ends xs z.1 (λ (j, l, e). n (suc j, omega arith, e)) in
        omega arith

    one_out : (ends : List EdgeEnd) (xs : List PointExit) → AllZip (IsEdge p k u i point row) ends xs →
        ((t : EdgeEnd) (rest : List EdgeEnd) → ends ≡ t ∷ rest → Contains rest ToExit → ⊥) →
        outs xs ≤ 1
    one_out [] [] z first = omega arith
    one_out [] (x ∷ xs) z first = absurd z
    one_out (t ∷ ends) [] z first = absurd z
    one_out (t ∷ ends) (x ∷ xs) z first =
        let h = sum_by-cons (λ y. bit (goes_out y)) x xs in
        let here = at_most (goes_out x) in
        let rest = none_out ends xs z.1 (first t ends refl) in
        omega arith

  place_outs : (q : UnrolledPoint) (o : Option Row) → DoesPlace p k u i q o → outs q.exits ≤ 1
  place_outs q None h =
      let xs = filter (λ a. a.at == q.point.at) p.notes.asserts in
      let e = ap (λ z. outs z) h.1 ∙ sum_by-append (λ x. bit (goes_out x)) (assert_exits p q.point) (Always (stop_event (fetchable p (file_word p q.point.at) q.point.at)) ∷ []) in
      let a = outs_in_asserts (filter (λ a. a.at == q.point.at) p.notes.asserts) in omega arith
  place_outs q (Some row) h =
      let e = ap (λ z. outs z) h.1 ∙ sum_by-append (λ x. bit (goes_out x)) (assert_exits p q.point) (Raising ∷ WritingKept ∷ Unaligned ∷ h.0) in
      let a = outs_in_asserts (filter (λ a. a.at == q.point.at) p.notes.asserts) in
      let x = sum_by-cons (λ y. bit (goes_out y)) Raising (WritingKept ∷ Unaligned ∷ h.0) in
      let y = sum_by-cons (λ y. bit (goes_out y)) WritingKept (Unaligned ∷ h.0) in
      let z = sum_by-cons (λ y. bit (goes_out y)) Unaligned h.0 in
      let along = one_out q.point row h.2.0 h.0 h.2.2 (λ t rest c. h.2.1.exit_first t rest c) in omega arith

  module _ (readable : AreReadableBy u p.notes) where
    asserts_read : (q : UnrolledPoint) (x : PointExit) → Contains (assert_exits p q.point) x → ExitIsReadable u x
    asserts_read q x c =
        let s = of_map (λ a. FalseAssert a.line a.says) (filter (λ a. a.at == q.point.at) p.notes.asserts) x c in
        let a = of_filter (λ a. a.at == q.point.at) p.notes.asserts s.0 s.1 in
        subst (ExitIsReadable u) s.2 (readable.asserts s.0 a.0)

    edges_read : (point : Point) (row : Row) (ends : List EdgeEnd) (xs : List PointExit) → AllZip (IsEdge p k u i point row) ends xs → (x : PointExit) →
        Contains xs x → ExitIsReadable u x
    edges_read point row ends [] z x (n, l, e) = absurd (omega arith)
    edges_read point row [] (y ∷ xs) z x h = absurd z
    edges_read point row (t ∷ ends) (y ∷ xs) z x (zero, l, e) = subst (ExitIsReadable u) (sym z.0.is ∙ e) tt
    edges_read point row (t ∷ ends) (y ∷ xs) z x (suc n, l, e) = edges_read point row ends xs z.1 x (n, omega arith, e)

    tail_read : (xs : List PointExit) (x : PointExit) → ((y : PointExit) → Contains xs y → ExitIsReadable u y) →
        Contains (Raising ∷ WritingKept ∷ Unaligned ∷ xs) x → ExitIsReadable u x
    tail_read xs x f (zero, l, e) = subst (ExitIsReadable u) e tt
    tail_read xs x f (suc zero, l, e) = subst (ExitIsReadable u) e tt
    tail_read xs x f (suc (suc zero), l, e) = subst (ExitIsReadable u) e tt
    tail_read xs x f (suc (suc (suc n)), l, e) = f x (n, omega arith, e)

    stop_read : (q : UnrolledPoint) (x : PointExit) → Contains (Always (stop_event (fetchable p (file_word p q.point.at) q.point.at)) ∷ []) x → ExitIsReadable u x
    stop_read q x (zero, l, e) = subst (ExitIsReadable u) e tt
    stop_read q x (suc n, l, e) = absurd (omega arith)

    place_reads : (q : UnrolledPoint) (o : Option Row) → DoesPlace p k u i q o → (x : PointExit) → Contains q.exits x → ExitIsReadable u x
    place_reads q None h x c =
        ⊎_elim (asserts_read q x) (stop_read q x)
        (split_in (assert_exits p q.point) (Always (stop_event (fetchable p (file_word p q.point.at) q.point.at)) ∷ []) x (subst (λ (z : List PointExit). Contains z x) h.1 c))
    place_reads q (Some row) h x c =
        ⊎_elim (asserts_read q x) (tail_read h.0 x (edges_read q.point row h.2.0 h.0 h.2.2))
        (split_in (assert_exits p q.point) (Raising ∷ WritingKept ∷ Unaligned ∷ h.0) x (subst (λ (z : List PointExit). Contains z x) h.1 c))

pub unrolling_is_walkable : UnrollingIsWalkable
unrolling_is_walkable p k u un form fits laid readable entry at =
    let order = places_rise p k u un in
    let count : length u.registers ≡ length form.registers = ap (λ (z : List ℕ). length z) laid.registers ∙ count_of form.first (length form.registers) in
    let few = fits.few_registers in
    record {
      sized = record {
        enough = subst (λ (z : ℕ). 15 ≤ z) (sym count) fits.enough_registers;
        registers = subst
            (λ (z : ℕ). z ≤ 31) (sym count) few;
        flags = subst (λ (z : ℕ). z ≤ 4) (sym laid.flags) fits.few_flags;
      };
      some = order.0;
      later = order.1;
      one_out = λ i l. place_outs p k u i (point_at u i) (file_row p (point_at u i).point.at) (un.places i l).does;
      terms = λ i l. (un.places i l).terms;
      at = at;
      runs = un.runs;
      entry = subst (λ (z : ℕ). z < 2 ^ 32) (sym un.entry) entry;
      link = subst (λ (z : ℕ). is_register_of u z ≡ true) (sym un.link) (un.registers p.machine.link ∙ fits.link);
      requires = λ l c. readable.requires l (subst (λ (z : List NoteLine). Contains z l) un.requires c);
      ensures = λ l c. readable.ensures l (subst (λ (z : List NoteLine). Contains z l) un.ensures c);
      asserts = λ i x l c. place_reads p k u i readable (point_at u i) (file_row p (point_at u i).point.at) (un.places i l).does x c;
    }
