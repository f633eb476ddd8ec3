-- The edge of the point of a number at which a contract step is made is the one that a frame has at its place.
use Rattle.std.proofs.Common.{◌≡◌, refl, ap, sym, subst, arith, ℕ, zero, suc, ◌<◌, ◌≤◌, Bool, true, false, None, List, [], ◌∷◌, ◌++◌, length, get_or, map}
use Rattle.std.specs.Prelude.{Contains, ◌&&◌, filter, is_some, nat_lt, if◌then◌else◌}
use Rattle.std.specs.BTreeMap.{BTreeMap}
use Rattle.bilv_spec.specs.Points.{EdgeEnd, ToAddress, ToExit, edges, leads_on, file_row}
use Rattle.bilv_spec.proofs.Pigeons.{Once}
use Rattle.bilv_spec.proofs.PointsInGraph.{of_filter}
use Rattle.frame_spec.specs.Frames.{Frame, contract_at, is_head}
use Rattle.frame_spec.specs.FramePoints as spec
use Rattle.frame_spec.specs.FramePoints.{frame_edges, is_contract_end, is_cut, top_ends, triple}
use Rattle.frame_spec.specs.FrameRuns.{links_by}
use Rattle.frame_spec.specs.FrameUnrolling.{AreAlong, checks_at}
use Rattle.frame_spec.specs.FrameWalk.{point_at}
use Rattle.program_points.specs.declared.values.Frame as stack
use Rattle.program_points.specs.declared.values.End.{End}
use Rattle.program_points.specs.Tables as tables
use Rattle.program_points.specs.Tables.{frame_at, listed, return_end, stack_at, IsTable}
use Rattle.program_points.proofs.Returned.{edge_return, return_edge, return_low, return_shallow}
use Rattle.question_form.specs.declared.unrolled.Edge.{Edge}
use Rattle.question_form.specs.declared.unrolled.Unrolled.{Unrolled}
use Rattle.question_form.specs.FrameViews.{checks_between, edge_of, frame_unrolled_of}
use Rattle.unroller.specs.Keys.{contract_of, stack_of, point_of, AreKeys, AreSegments}
use Rattle.unroller.specs.Led.{AreBackLed}
use Rattle.unroller.specs.Places.{IsGroup}
use Rattle.unroller.proofs.Leads.{edges_at}

nothing_more : (xs : List End) (e : End) → Contains (xs ++ []) e → Contains xs e
nothing_more xs e h = subst (λ (l : List End). Contains l e) (whole xs) h
  where
    whole : (xs : List End) → xs ++ [] ≡ xs
    whole [] = refl
    whole (x ∷ xs) = ap (λ (l : List End). x ∷ l) (whole xs)

and_more : (xs : List End) (e : End) → Contains xs e → Contains (xs ++ []) e
and_more xs e h = subst (λ (l : List End). Contains l e) (sym (whole xs)) h
  where
    whole : (xs : List End) → xs ++ [] ≡ xs
    whole [] = refl
    whole (x ∷ xs) = ap (λ (l : List End). x ∷ l) (whole xs)

not_deeper : (a b c : Bool) → b ≡ false → (a && b && c) ≡ false
not_deeper true true c h = absurd (cc)
not_deeper true false c h = refl
not_deeper false b c h = refl

no_top_exit : (own : List ℕ) → Contains (top_ends own) ToExit → ⊥
no_top_exit [] (i, w, e) = omega arith
no_top_exit (to ∷ below) (zero, w, e) = absurd (cc)
no_top_exit (to ∷ below) (suc i, w, e) = omega arith

once_by : (narrow : Bool) (own : List ℕ) → Once (filter (leads_on narrow) (top_ends own))
once_by narrow [] i j l w e = omega arith
once_by narrow (to ∷ below) i j l w e = by (leads_on narrow (ToAddress below to)) i j l w
  where
    by : (b : Bool) (i j : ℕ) → i < j → j < length (if b then ToAddress below to ∷ [] else []) → ⊥
    by true i j l w = omega arith
    by false i j l w = omega arith

module _ (f : Frame) (k : ℕ) (frames : List stack.Frame) (numbers : BTreeMap (ℕ × ℕ) ℕ) (heads stepped : List ℕ) (asserts : List (ℕ × ℕ))
    (segments keys : List ℕ) (own i : ℕ) (cuts : (a : ℕ) → is_head f a ≡ tables.is_among heads a) (table : IsTable frames numbers)
    (few : length frames < 2147483648) (k_low : k ≤ 4096) (segs : AreSegments f k frames segments) (are : AreKeys f k frames segments keys)
    (within : i < length keys) (place : get_or keys i 0 ≡ own) (u : Unrolled) (size : length (frame_unrolled_of u).points ≡ length keys)
    (points : (j : ℕ) → j < length keys → (point_at (frame_unrolled_of u) j).point ≡ point_of frames segments (get_or keys j 0))
    (lines : (a : ℕ) (bounds : ℕ × ℕ) → IsGroup asserts a bounds → checks_between u bounds ≡ checks_at f a) (step : contract_of own ≡ true)
    (fits : stack_of own ≤ length frames) (led : List Edge)
    (leads : AreBackLed heads stepped asserts f.program.machine.narrow frames keys own led) where
  abbrev narrow : Bool
  narrow = f.program.machine.narrow

  abbrev q : spec.Point
  q = point_of frames segments own

  abbrev jumps : List End
  jumps = listed (return_end narrow (frame_at frames (stack_of own)))

  abbrev own_edges : List EdgeEnd
  own_edges = filter (leads_on narrow) (top_ends q.stack)

  edges_same : frame_edges f q ≡ own_edges
  edges_same = ap (λ (b : Bool). if b then own_edges else if is_cut f q then [] else edges f.program (triple q)) step

  abbrev end_at : End → EdgeEnd
  end_at e = ToAddress (stack_at frames e.stack) e.at

  no_exit : Contains (frame_edges f q) ToExit → ⊥
  no_exit h = no_top_exit q.stack (of_filter (leads_on narrow) (top_ends q.stack) ToExit (subst (λ (l : List EdgeEnd). Contains l ToExit) edges_same h)).0

  pub back_edges_at : AreAlong f k (frame_unrolled_of u) i q None (map (edge_of u) led)
  back_edges_at =
      edges_at f k frames numbers heads stepped asserts segments keys own i None None jumps None false cuts table few k_low segs are within place u size points
      lines led leads (record {
        in_edges = λ e h.
            subst (λ (l : List EdgeEnd). Contains l (end_at e)) (sym edges_same)
            (return_edge frames table.below narrow (stack_of own) fits e (nothing_more jumps e h));
        edge_all = λ s a h.
            let x = edge_return frames table.below narrow (stack_of own) fits s a (subst (λ (l : List EdgeEnd). Contains l (ToAddress s a)) edges_same h) in
            (x.0, and_more jumps x.0 x.1, x.2, x.3);
        low = λ e h. return_low frames table.below narrow (stack_of own) fits e (nothing_more jumps e h);
        next_small = λ e (j, w, z). absurd (omega (arith, w));
        step = λ e h.
            not_deeper (is_some (contract_at f.stepped e.at)) (nat_lt (length q.stack) (length (stack_at frames e.stack)))
            (links_by (file_row f.program q.at)) (return_shallow frames table.below narrow (stack_of own) fits e (nothing_more jumps e h));
        falls = λ e h. ((λ t. absurd (cc)), (λ (j, w, z). absurd (omega (arith, w))));
        jumped = λ e h. ((λ t. nothing_more jumps e h), (λ c. refl));
        exit = ((λ h. absurd (no_exit h)), (λ h. absurd (cc)));
        exit_falls = λ h. absurd (cc);
        exit_jumps = λ h. absurd (cc);
        once = subst (λ (l : List EdgeEnd). Once l) (sym edges_same) (once_by narrow q.stack);
      })
