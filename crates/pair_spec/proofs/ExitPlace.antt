-- A walk comes out where the walk of the program with the exit as a place comes to that place.
use Rattle.std.proofs.Common.{◌≡◌, ⊎_elim, inl, inr, refl, ℕ, zero, suc, ◌<◌, ap, sym, ◌∙◌, subst, arith, List, [], ◌∷◌, length, Option, Some, None, Bool, true, false, ◌⊎◌}
use Rattle.std.specs.Prelude.{if◌then◌else◌, map}
use Rattle.std.specs.List.{list_any}
use Rattle.std.proofs.lemmas.List.{length-map, get_or-map, get_or_append_left, get_or_push}
use Rattle.word_spec.specs.State.{State}
use Rattle.machine_spec.specs.BilMeaning.{Ending, Ends, RaisesException, OutOfTurns, Wrong, execute}
use Rattle.bilv_spec.specs.Questions.{Reading}
use Rattle.walk_spec.specs.Unrolled.{Carried, state_at, Aim, OnTo, Outward, OverLast, ToEvent, PointExit, FalseAssert, Always, Raising, WritingKept, Unaligned, Along, Action, Executes, UnrolledPoint, UnrolledProgram, no_point, is_in, point_at, Leaving, goes_on, leaving_by, left_by, begins, leaving, stored_by, stored_at, first_aim, is_taken, aim_of, carried_on, next_address, Walk, WalkIsAt, WalkExits, WalkFails, WalkTurns, out_by, walk_to, walk_from, walk_on, walk, ExitsLeadLater}
use Rattle.walk_spec.proofs.WalkOrder.{Inside, inside}
use Rattle.pair_spec.specs.PairTerms.{WalkComesOut, ExitIsPlace, aimed, exit_aimed, exit_place, point_aimed, with_exit_place}

-- a walk that stands nowhere
abbrev NotAt : Walk → Type 0
NotAt (WalkIsAt i c) = ⊥
NotAt w = Unit {0}

abbrev place_by : Walk → ℕ
place_by (WalkIsAt i c) = i
place_by w = 0

abbrev carried_by : Carried → Walk → Carried
carried_by d (WalkIsAt i c) = c
carried_by d w = d

out_not_at : (o : Option ℕ) → NotAt (out_by o)
out_not_at None = tt
out_not_at (Some line) = tt

if_aimed : (n : ℕ) (b : Bool) (x y : Aim) → (if b then aimed n x else aimed n y) ≡ aimed n (if b then x else y)
if_aimed n true x y = refl
if_aimed n false x y = refl

-- the walk does not go on from the place of the exit
chosen_not_at : (u : UnrolledProgram) (entry next : State) (b : Bool) (x y : Aim) → NotAt (walk_to u entry next x) → NotAt (walk_to u entry next y) →
    NotAt (walk_to u entry next (if b then x else y))
chosen_not_at u entry next true x y p q = p
chosen_not_at u entry next false x y p q = q

exit_not_at : (u : UnrolledProgram) (entry now next : State) (w : Bool) (l : Leaving) →
    NotAt (walk_to u entry next (first_aim u entry now w l exit_place.exits))
exit_not_at u entry now next w l =
    chosen_not_at u entry next (is_taken u entry now w l Raising) _ _ tt
    (chosen_not_at u entry next w _ _ tt (chosen_not_at u entry next (is_taken u entry now w l Unaligned) _ _ tt tt))

module _ (u : UnrolledProgram) (some : 0 < length u.points) (later : ExitsLeadLater u) (r : Reading) where
  abbrev last : ℕ
  last = length u.points

  abbrev form : UnrolledProgram
  form = with_exit_place u

  early : (i : ℕ) → i < last → point_at form i ≡ point_aimed last (point_at u i)
  early i l =
      let long : length (map (point_aimed last) u.points) ≡ last = length-map u.points (point_aimed last) in
      get_or_append_left (map (point_aimed last) u.points) (exit_place ∷ []) no_point i (omega arith)
      ∙ get_or-map (point_aimed last) u.points i no_point no_point l

  at_last : point_at form last ≡ exit_place
  at_last = get_or_push (map (point_aimed last) u.points) exit_place no_point last (length-map u.points (point_aimed last))

  -- a point of the form is left as the point is
  goes_same : (q : UnrolledPoint) (o : Option ℕ) (c : Carried) → goes_on (point_aimed last q) o c ≡ goes_on q o c
  goes_same q None c = refl
  goes_same q (Some a) c = refl

  by_same : (q : UnrolledPoint) (e : Ending) → leaving_by (point_aimed last q) e ≡ leaving_by q e
  by_same q (Ends p) = goes_same q p.jump _
  by_same q (RaisesException n p) = refl
  by_same q (OutOfTurns p) = refl
  by_same q Wrong = refl

  left_same : (q : UnrolledPoint) (choice : ℕ) (c : Carried) (a : Action) → left_by (point_aimed last q) choice c a ≡ left_by q choice c a
  left_same q choice c (Executes list) = by_same q (execute list choice (begins q c))

  stored_same : (q : UnrolledPoint) (choice : ℕ) (c : Carried) (a : Action) → stored_by (point_aimed last q) choice c a ≡ stored_by q choice c a
  stored_same q choice c (Executes list) = refl

  -- its exits lead where those of the point lead, but for those that lead out
  taken_same : (entry now : State) (w : Bool) (l : Leaving) (x : PointExit) →
      is_taken form entry now w l (exit_aimed last x) ≡ is_taken u entry now w l x
  taken_same entry now w l (FalseAssert line e) = refl
  taken_same entry now w l (Always e) = refl
  taken_same entry now w l Raising = refl
  taken_same entry now w l WritingKept = refl
  taken_same entry now w l Unaligned = refl
  taken_same entry now w l (Along f j to aim) = refl

  leads_same : (l : Leaving) (x : PointExit) → aim_of l (exit_aimed last x) ≡ aimed last (aim_of l x)
  leads_same l (FalseAssert line e) = refl
  leads_same l (Always e) = refl
  leads_same l Raising = refl
  leads_same l WritingKept = refl
  leads_same l Unaligned = refl
  leads_same l (Along f j to aim) = refl

  first_same : (entry now : State) (w : Bool) (l : Leaving) (xs : List PointExit) →
      first_aim form entry now w l (map (exit_aimed last) xs) ≡ aimed last (first_aim u entry now w l xs)
  first_same entry now w l [] = refl
  first_same entry now w l (x ∷ xs) =
      (λ k. if taken_same entry now w l x k then leads_same l x k else first_same entry now w l xs k)
      ∙ if_aimed last (is_taken u entry now w l x) (aim_of l x) (first_aim u entry now w l xs)

  -- how a place of the program is left, and where its first exit leads
  abbrev left : ℕ → Carried → Leaving
  left i c = leaving (point_at u i) (r.choice (point_at u i).point) c

  abbrev next : ℕ → Carried → State
  next i c = state_at (carried_on (left i c) c) (next_address (left i c))

  abbrev aim_at : ℕ → Carried → Leaving → Aim
  aim_at i c l =
      first_aim u r.state (state_at c (point_at u i).point.at) (list_any (is_in u.kept) (stored_at (point_at u i) (r.choice (point_at u i).point) c)) l
      (point_at u i).exits

  from_point : (q : UnrolledPoint) (choice : ℕ) (c : Carried) →
      walk_from form r.state (point_aimed last q) choice c
      ≡ walk_to form r.state (state_at (carried_on (leaving q choice c) c) (next_address (leaving q choice c)))
      (aimed last (first_aim u r.state (state_at c q.point.at) (list_any (is_in u.kept) (stored_at q choice c)) (leaving q choice c) q.exits))
  from_point q choice c =
      (λ k. walk_to form r.state (state_at (carried_on (left_same q choice c q.does k) c) (next_address (left_same q choice c q.does k)))
      (first_aim form r.state (state_at c q.point.at) (list_any (is_in u.kept) (stored_same q choice c q.does k)) (left_same q choice c q.does k)
      (map (exit_aimed last) q.exits)))
      ∙ ap (walk_to form r.state (state_at (carried_on (leaving q choice c) c) (next_address (leaving q choice c))))
      (first_same r.state (state_at c q.point.at) (list_any (is_in u.kept) (stored_at q choice c)) (leaving q choice c) q.exits)

  from_early : (i : ℕ) (c : Carried) → i < last → walk_on form r (WalkIsAt i c) ≡ walk_to form r.state (next i c) (aimed last (aim_at i c (left i c)))
  from_early i c l =
      ap (λ q. walk_from form r.state q (r.choice q.point) c) (early i l) ∙ from_point (point_at u i) (r.choice (point_at u i).point) c

  is_inside : (n i : ℕ) (c : Carried) → walk u r n ≡ WalkIsAt i c → i < last
  is_inside n i c e = subst (Inside u some later r) e (inside u some later r n)

  -- where the walk stands, that of the form stands
  to_same : (s : State) (a : Aim) (i : ℕ) (c : Carried) → walk_to u r.state s a ≡ WalkIsAt i c → walk_to form r.state s (aimed last a) ≡ WalkIsAt i c
  to_same s (OnTo m) i c e = e
  to_same s Outward i c e = absurd (subst NotAt e (out_not_at _))
  to_same s OverLast i c e = absurd (subst NotAt e tt)
  to_same s (ToEvent x) i c e = absurd (subst NotAt e tt)

  step_same : (v w : Walk) (i : ℕ) (c : Carried) → ((j : ℕ) (d : Carried) → v ≡ WalkIsAt j d → (w ≡ WalkIsAt j d) × (j < last)) →
      walk_on u r v ≡ WalkIsAt i c → walk_on form r w ≡ WalkIsAt i c
  step_same (WalkIsAt j d) w i c f e =
      let here = f j d refl in ap (walk_on form r) here.0 ∙ from_early j d here.1 ∙ to_same (next j d) (aim_at j d (left j d)) i c e
  step_same WalkExits w i c f e = absurd (subst NotAt e tt)
  step_same (WalkFails x) w i c f e = absurd (subst NotAt e tt)
  step_same WalkTurns w i c f e = absurd (subst NotAt e tt)

  pub walk_same : (n i : ℕ) (c : Carried) → walk u r n ≡ WalkIsAt i c → walk form r n ≡ WalkIsAt i c
  unfolding walk
  walk_same zero i c e = e
  walk_same (suc n) i c e = step_same (walk u r n) (walk form r n) i c (λ j d g. (walk_same n j d g, is_inside n j d g)) e

  -- where the walk of the form stands, the walk stands, or has come out
  abbrev Came : Carried → Type 0
  Came out = (pc : ℕ) × WalkComesOut u r out pc

  abbrev Stands : ℕ → ℕ → Carried → Type 0
  Stands n i c = ((walk u r n ≡ WalkIsAt i c) × (i < last)) ⊎ ((i ≡ last) × Came c)

  from_aim : (n j i : ℕ) (d c : Carried) → walk u r n ≡ WalkIsAt j d → (a : Aim) → aim_at j d (left j d) ≡ a →
      walk_to form r.state (next j d) (aimed last a) ≡ WalkIsAt i c → Stands (suc n) i c
  unfolding walk
  from_aim n j i d c at_j (OnTo m) ea e =
      let there : walk u r (suc n) ≡ WalkIsAt i c = ap (walk_on u r) at_j ∙ ap (walk_to u r.state (next j d)) ea ∙ e in
      inl (there, is_inside (suc n) i c there)
  from_aim n j i d c at_j Outward ea e = inr (
    ap place_by (sym e),
    (
      next_address (left j d),
      record {
        points = n;
        place = j;
        carried = d;
        is_at = at_j;
        leaving_is = left j d;
        left_so = refl;
        aim = ea;
        out_is = ap (carried_by c) (sym e);
        pc_is = refl;
      },
    ),
  )
  from_aim n j i d c at_j OverLast ea e = absurd (subst NotAt e tt)
  from_aim n j i d c at_j (ToEvent x) ea e = absurd (subst NotAt e tt)

  step_back : (n : ℕ) (w : Walk) (i : ℕ) (c : Carried) → ((j : ℕ) (d : Carried) → w ≡ WalkIsAt j d → Stands n j d) →
      walk_on form r w ≡ WalkIsAt i c → Stands (suc n) i c
  step_back n (WalkIsAt j d) i c f e =
      ⊎_elim (λ g. from_aim n j i d c g.0 (aim_at j d (left j d)) refl (sym (from_early j d g.1) ∙ e))
      (λ g. absurd (subst NotAt (sym (ap (λ x. walk_from form r.state x (r.choice x.point) d) (ap (point_at form) g.0 ∙ at_last)) ∙ e)
      (exit_not_at form r.state (state_at d exit_place.point.at) _ (list_any (is_in form.kept) (stored_at exit_place (r.choice exit_place.point) d))
      (leaving exit_place (r.choice exit_place.point) d))))
      (f j d refl)
  step_back n WalkExits i c f e = absurd (subst NotAt e tt)
  step_back n (WalkFails x) i c f e = absurd (subst NotAt e tt)
  step_back n WalkTurns i c f e = absurd (subst NotAt e tt)

  stands : (n i : ℕ) (c : Carried) → walk form r n ≡ WalkIsAt i c → Stands n i c
  unfolding walk
  stands zero i c e = inl (e, subst (λ (z : ℕ). z < last) (ap place_by e) some)
  stands (suc n) i c e = step_back n (walk form r n) i c (λ j d g. stands n j d g) e

  comes_to : (out : Carried) (pc : ℕ) (o : WalkComesOut u r out pc) → walk form r (suc o.points) ≡ WalkIsAt last out
  unfolding walk
  comes_to out pc o =
      let same : o.leaving_is ≡ left o.place o.carried = o.left_so in
      ap (walk_on form r) (walk_same o.points o.place o.carried o.is_at)
      ∙ from_early o.place o.carried (is_inside o.points o.place o.carried o.is_at)
      ∙ ap (λ z. walk_to form r.state (next o.place o.carried) (aimed last z)) (ap (aim_at o.place o.carried) (sym same) ∙ o.aim)
      ∙ ap (WalkIsAt last) (ap (λ z. carried_on z o.carried) (sym same) ∙ sym o.out_is)

  came : (n : ℕ) (out : Carried) → walk form r n ≡ WalkIsAt last out → Came out
  came n out e = ⊎_elim (λ g. let l = g.1 in absurd (omega arith)) (λ g. g.1) (stands n last out e)

pub exit_is_place : ExitIsPlace
exit_is_place u some later r out =
    ((λ h. (suc h.1.points, comes_to u some later r out h.0 h.1)), (λ h. came u some later r h.0 out h.1))
