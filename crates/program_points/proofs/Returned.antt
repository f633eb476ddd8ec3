-- The return of a contract step: the end of a stack's frame is the edge to its top.
use Rattle.std.proofs.Common.{◌≡◌, ℕ, zero, suc, ◌≤◌, refl, ap, sym, ◌∙◌, subst, arith, List, [], ◌∷◌, length, Option, Some, None, Bool, true, false}
use Rattle.std.specs.Prelude.{slice_get, Contains, filter, nat_lt, if◌then◌else◌}
use Rattle.std.proofs.lemmas.Bool.Decides.{nat_tests}
use Rattle.machine_spec.specs.Machine.{is_place}
use Rattle.bilv_spec.specs.Points.{EdgeEnd, ToAddress, ToExit, leads_on}
use Rattle.bilv_spec.proofs.PointSteps.{in_filter}
use Rattle.bilv_spec.proofs.PointsInGraph.{none_in, of_filter}
use Rattle.frame_spec.specs.FramePoints.{top_ends}
use Rattle.program_points.specs.declared.values.Frame.{Frame}
use Rattle.program_points.specs.declared.values.End.{End}
use Rattle.program_points.specs.Tables.{end, frame_at, stack_at, return_end, listed}
use Rattle.program_points.proofs.Ended.{stack_frame, no_frame}

-- where an edge leads
abbrev stack_of : EdgeEnd → List ℕ
stack_of ToExit = []
stack_of (ToAddress s a) = s

abbrev at_of : EdgeEnd → ℕ
at_of ToExit = 0
at_of (ToAddress s a) = a

module _ (frames : List Frame) (low : (i : ℕ) (f : Frame) → slice_get frames i ≡ Some f → f.below ≤ i) (narrow : Bool) (stack : ℕ) (fits : stack ≤ length frames) where
  abbrev edges : List ℕ → List EdgeEnd
  edges own = filter (leads_on narrow) (top_ends own)

  abbrev ends : Option Frame → List End
  ends o = listed (return_end narrow o)

  -- the end is that of a frame, to whose top a row can return
  abbrev IsReturn : Frame → End → Type 0
  IsReturn f e = (is_place narrow f.top ≡ true) × (e ≡ end f.below f.top)

  of_end : (f : Frame) (b : Bool) → is_place narrow f.top ≡ b → (e : End) → Contains (listed (if b then Some (end f.below f.top) else None)) e → IsReturn f e
  of_end f false p e (i, l, q) = absurd (omega arith)
  of_end f true p e (suc i, l, q) = absurd (omega arith)
  of_end f true p e (zero, l, q) = (p, sym q)

  found : (o : Option Frame) → frame_at frames stack ≡ o → (e : End) → Contains (ends o) e → (f : Frame) × (frame_at frames stack ≡ Some f) × (is_place narrow f.top ≡ true) ×
      (e ≡ end f.below f.top)
  found None is e (i, l, q) = absurd (omega arith)
  found (Some f) is e h = (let r = of_end f (is_place narrow f.top) refl e h in (f, is, r.0, r.1))

  -- an end is an edge
  pub return_edge : (e : End) → Contains (ends (frame_at frames stack)) e → Contains (edges (stack_at frames stack)) (ToAddress (stack_at frames e.stack) e.at)
  return_edge e h =
      let it = found (frame_at frames stack) refl e h in
      let f = it.0 in
      let x : EdgeEnd = ToAddress (stack_at frames f.below) f.top in
      let c : Contains (edges (f.top ∷ stack_at frames f.below)) x = in_filter (leads_on narrow) (x ∷ []) x (0, omega arith, refl) it.2 in
      subst (λ (z : End). Contains (edges (stack_at frames stack)) (ToAddress (stack_at frames z.stack) z.at)) (sym it.3)
      (subst (λ (z : List ℕ). Contains (edges z) x) (sym (stack_frame frames low stack f it.1)) c)

  -- whose stack has a number
  pub return_low : (e : End) → Contains (ends (frame_at frames stack)) e → e.stack ≤ length frames
  return_low e h =
      let it = found (frame_at frames stack) refl e h in
      let b : it.0.below ≤ length frames = by stack fits it.0 it.1 in
      subst (λ (z : End). z.stack ≤ length frames) (sym it.3) b
    where
      by : (n : ℕ) → n ≤ length frames → (f : Frame) → frame_at frames n ≡ Some f → f.below ≤ length frames
      by zero le f e = absurd (cc)
      by (suc i) le f e = (let l = low i f e in omega arith)

  -- and leads to no deeper stack
  pub return_shallow : (e : End) → Contains (ends (frame_at frames stack)) e → nat_lt (length (stack_at frames stack)) (length (stack_at frames e.stack)) ≡ false
  return_shallow e h =
      let it = found (frame_at frames stack) refl e h in
      let f = it.0 in
      let l : length (stack_at frames stack) ≡ suc (length (stack_at frames f.below)) = ap length (stack_frame frames low stack f it.1) in
      let s : length (stack_at frames e.stack) ≡ length (stack_at frames f.below) = ap (λ (z : End). length (stack_at frames z.stack)) it.3 in
      grind (arith, nat_tests)

  returned_by : (f : Frame) → frame_at frames stack ≡ Some f → (s : List ℕ) (a : ℕ) → Contains (edges (f.top ∷ stack_at frames f.below)) (ToAddress s a) →
      (e : End) × Contains (ends (Some f)) e × (stack_at frames e.stack ≡ s) × (e.at ≡ a)
  returned_by f is s a h =
      let it = of_filter (leads_on narrow) (ToAddress (stack_at frames f.below) f.top ∷ []) (ToAddress s a) h in one it.0 it.1
    where
      one : Contains (ToAddress (stack_at frames f.below) f.top ∷ []) (ToAddress s a) → is_place narrow a ≡ true →
          (e : End) × Contains (ends (Some f)) e × (stack_at frames e.stack ≡ s) × (e.at ≡ a)
      one (suc i, l, q) p = absurd (omega arith)
      one (zero, l, q) p =
          let same : f.top ≡ a = ap at_of q in
          let t : is_place narrow f.top ≡ true = ap (is_place narrow) same ∙ p in
          let c : Contains (listed (Some (end f.below f.top))) (end f.below f.top) = (0, omega arith, refl) in (
            end f.below f.top,
            subst (λ (b : Bool). Contains (listed (if b then Some (end f.below f.top) else None)) (end f.below f.top)) (sym t) c,
            ap stack_of q,
            same,
          )

  -- an edge is an end
  pub edge_return : (s : List ℕ) (a : ℕ) → Contains (edges (stack_at frames stack)) (ToAddress s a) →
      (e : End) × Contains (ends (frame_at frames stack)) e × (stack_at frames e.stack ≡ s) × (e.at ≡ a)
  edge_return s a h = by (frame_at frames stack) refl
    where
      by : (o : Option Frame) → frame_at frames stack ≡ o → (e : End) × Contains (ends o) e × (stack_at frames e.stack ≡ s) × (e.at ≡ a)
      by None is = none_in (ToAddress s a) (subst (λ (z : List ℕ). Contains (edges z) (ToAddress s a)) (no_frame frames low stack fits is) h)
      by (Some f) is = returned_by f is s a (subst (λ (z : List ℕ). Contains (edges z) (ToAddress s a)) (stack_frame frames low stack f is) h)
