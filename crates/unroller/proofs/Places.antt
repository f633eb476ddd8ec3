-- Points that are placed one by one.
use Rattle.std.proofs.Common.{◌≡◌, inl, inr, refl, ap, sym, ◌∙◌, subst, arith, ℕ, zero, suc, ◌+◌, ◌-◌, ◌<◌, ◌≤◌, Bool, true, false, Option, None, List, [], ◌∷◌, ◌++◌, length, get_or, take, drop}
use Rattle.std.specs.Prelude.{Contains, slice_range, ◌==◌, ◌&&◌, if◌then◌else◌}
use Rattle.std.specs.List.{AllZip}
use Rattle.std.proofs.Math.ListN.{length-append}
use Rattle.std.proofs.lemmas.Bool.{cases_lt}
use Rattle.graph_nodes.specs.declared.nodes.Graph.{Graph}
use Rattle.program_points.specs.declared.values.Frame.{Frame}
use Rattle.program_points.proofs.Lists.{take_whole, or_left, or_last, grown as push_length, longer}
use Rattle.program_points.specs.declared.values.End.{End}
use Rattle.program_points.specs.Tables as tables
use Rattle.program_points.specs.Tables.{frame_at, jumps_of, linked, listed, return_end}
use Rattle.bilv_spec.proofs.PointsInGraph.{none_in, split_in}
use Rattle.question_form.specs.declared.unrolled.Aim.{Aim}
use Rattle.question_form.specs.declared.unrolled.Aim.TheVariants.{OnTo, IntoHead, Outward, OverLast}
use Rattle.question_form.specs.declared.unrolled.Deed.{Deed}
use Rattle.question_form.specs.declared.unrolled.Deed.TheVariants.{Row, Arrival, Contract}
use Rattle.question_form.specs.declared.unrolled.Edge.{Edge}
use Rattle.question_form.specs.declared.unrolled.Point.{Point}
use Rattle.unroller.specs.Keys.{address_of, root_of, stack_of, turns_of, IsAimAt}
use Rattle.unroller.specs.Led.{next_of, is_both, exit_edge, exits_by, IsAimFor, IsLedTo, AreLed, begins_at, deed_at, IsCoded, IsLeft, AreLeft, IsPlacedAt, ArePlaced}

take_left : {X : Type 0} (xs ys : List X) (n : ℕ) → n ≤ length xs → take n (xs ++ ys) ≡ take n xs
take_left [] ys zero le = refl
take_left [] ys (suc n) le = absurd (omega arith)
take_left (x ∷ xs) ys zero le = refl
take_left (x ∷ xs) ys (suc n) le = ap (λ l. x ∷ l) (take_left xs ys n (omega arith))

drop_left : {X : Type 0} (xs ys : List X) (n : ℕ) → n ≤ length xs → drop n (xs ++ ys) ≡ drop n xs ++ ys
drop_left [] ys zero le = refl
drop_left [] ys (suc n) le = absurd (omega arith)
drop_left (x ∷ xs) ys zero le = refl
drop_left (x ∷ xs) ys (suc n) le = drop_left xs ys n (omega arith)

drop_length : {X : Type 0} (xs : List X) (n : ℕ) → n ≤ length xs → length (drop n xs) + n ≡ length xs
drop_length [] zero le = refl
drop_length [] (suc n) le = absurd (omega arith)
drop_length (x ∷ xs) zero le = omega arith
drop_length (x ∷ xs) (suc n) le = let a = drop_length xs n (omega arith) in omega arith

drop_all : {X : Type 0} (xs ys : List X) → drop (length xs) (xs ++ ys) ≡ ys
drop_all [] ys = refl
drop_all (x ∷ xs) ys = drop_all xs ys

slice_left : {X : Type 0} (xs ys : List X) (a b : ℕ) → a ≤ b → b ≤ length xs → slice_range (xs ++ ys) a b ≡ slice_range xs a b
slice_left xs ys a b le w =
    let l = drop_length xs a (omega arith) in
    ap (take (b - a)) (drop_left xs ys a (omega arith)) ∙ take_left (drop a xs) ys (b - a) (omega arith)

slice_right : {X : Type 0} (xs ys : List X) → slice_range (xs ++ ys) (length xs) (length (xs ++ ys)) ≡ ys
slice_right xs ys = let a = length-append xs ys in ap (take (length (xs ++ ys) - length xs)) (drop_all xs ys) ∙ take_whole ys (length (xs
    ++ ys) - length xs) (omega arith)

begins_by : (edges grown : List Edge) (q : Point) (ps : List Point) → q.edges ≡ length edges → begins_at grown (ps ++ q ∷ []) ≡ begins_at edges ps
begins_by edges grown q [] e = e
begins_by edges grown q (p ∷ ps) e = refl

begins_keep : (edges grown : List Edge) (q : Point) (ps : List Point) (j : ℕ) → j < length ps → q.edges ≡ length edges →
    begins_at grown (drop (suc j) (ps ++ q ∷ [])) ≡ begins_at edges (drop (suc j) ps)
begins_keep edges grown q [] j w e = absurd (omega arith)
begins_keep edges grown q (p ∷ ps) zero w e = begins_by edges grown q ps e
begins_keep edges grown q (p ∷ ps) (suc j) w e = begins_keep edges grown q ps j (omega arith) e

pub drop_past : {X : Type 0} (xs : List X) (n : ℕ) → length xs ≤ n → drop n xs ≡ []
drop_past [] zero le = refl
drop_past [] (suc n) le = refl
drop_past (x ∷ xs) zero le = absurd (omega arith)
drop_past (x ∷ xs) (suc n) le = drop_past xs n (omega arith)

aim_for : (heads : List ℕ) (asserts : List (ℕ × ℕ)) (keys : List ℕ) (key : ℕ) (a : Aim) → IsAimAt heads asserts keys key a → IsAimFor heads asserts a
aim_for heads asserts keys key (OnTo j) h = tt
aim_for heads asserts keys key (IntoHead at bounds) h = (ap (λ (z : ℕ). tables.is_among heads z) h.1 ∙ h.0, h.2)
aim_for heads asserts keys key Outward h = tt
aim_for heads asserts keys key OverLast h = tt

rest_for : (heads : List ℕ) (asserts : List (ℕ × ℕ)) (keys : List ℕ) (next : Option End) (both : Bool) (xs : List ℕ) (ds : List Edge) →
    AllZip (IsLedTo heads asserts keys next both) xs ds → (e : Edge) → Contains ds e → IsAimFor heads asserts e.aim
rest_for heads asserts keys next both xs [] z e (i, l, q) = absurd (omega (arith, l))
rest_for heads asserts keys next both [] (d ∷ ds) z e h = absurd z
rest_for heads asserts keys next both (x ∷ xs) (d ∷ ds) z e (zero, l, q) =
    subst (λ (b : Edge). IsAimFor heads asserts b.aim) q (aim_for heads asserts keys x d.aim z.0.aim)
rest_for heads asserts keys next both (x ∷ xs) (d ∷ ds) z e (suc i, l, q) = rest_for heads asserts keys next both xs ds z.1 e (i, omega (arith, l), q)

exit_for : (heads : List ℕ) (asserts : List (ℕ × ℕ)) (b : Bool) (e : Edge) → Contains (if b then exit_edge ∷ [] else []) e → IsAimFor heads asserts e.aim
exit_for heads asserts true e (zero, l, q) = subst (λ (b : Edge). IsAimFor heads asserts b.aim) q tt
exit_for heads asserts true e (suc i, l, q) = absurd (omega (arith, l))
exit_for heads asserts false e (i, l, q) = absurd (omega (arith, l))

led_for : (heads stepped : List ℕ) (asserts : List (ℕ × ℕ)) (keys : List ℕ) (own : ℕ) (linked : Option ℕ) (jumps : List End) (next : Option End) (exits : Bool)
    (led : List Edge) → AreLed heads stepped asserts keys own linked jumps next exits led → (e : Edge) → Contains led e → IsAimFor heads asserts e.aim
led_for heads stepped asserts keys own linked jumps next exits led are e h =
    elim (split_in (exits_by exits) are.rest e (subst (λ (l : List Edge). Contains l e) are.is h)) as (λ _. IsAimFor heads asserts e.aim) [
      | inl q ↦ exit_for heads asserts exits e q
      | inr q ↦ rest_for heads asserts keys next (is_both jumps next) are.targets are.rest are.each e q
    ]

left_for : (deed : Deed) (g : Graph) (heads stepped : List ℕ) (asserts : List (ℕ × ℕ)) (frames : List Frame) (keys : List ℕ) (own number : ℕ)
    (led : List Edge) → IsLeft deed g heads stepped asserts frames keys own number led → (e : Edge) → Contains led e → IsAimFor heads asserts e.aim
left_for Row g heads stepped asserts frames keys own number led is e h =
    led_for heads stepped asserts keys own (linked is.0.links number) (jumps_of g.narrow is.0 (frame_at frames (stack_of own)) (stack_of own) number)
    (next_of is.0 (stack_of own)) (is.0.returns && (stack_of own == 0)) led is.3 e h
left_for Arrival g heads stepped asserts frames keys own number led is e h = none_in e (subst (λ (l : List Edge). Contains l e) is h)
left_for (Contract n) g heads stepped asserts frames keys own number led is e h =
    led_for heads stepped asserts keys own None (listed (return_end g.narrow (frame_at frames (stack_of own)))) None false led is e h

module _ (g : Graph) (heads stepped : List ℕ) (asserts : List (ℕ × ℕ)) (frames : List Frame) (keys rows steps called : List ℕ) where
  kept : (key number : ℕ) (q : Point) (bound new_bound : ℕ) (edges led grown : List Edge) → grown ≡ edges ++ led → new_bound ≡ bound →
      IsPlacedAt g heads stepped asserts frames keys rows steps key number q bound edges
      → IsPlacedAt g heads stepped asserts frames keys rows steps key number q new_bound grown
  kept key number q bound new_bound edges led grown is same at =
      let long = longer edges led grown is in
      let within = at.within in
      subst (λ (z : ℕ). IsPlacedAt g heads stepped asserts frames keys rows steps key number q z grown) (sym same) (record {
        root = at.root;
        turns = at.turns;
        stack = at.stack;
        deed = at.deed;
        code = at.code;
        ordered = at.ordered;
        within = omega arith;
        led =
            subst (λ (l : List Edge). IsLeft (deed_at heads stepped key) g heads stepped asserts frames keys key number l)
            (sym (ap (λ (l : List Edge). slice_range l q.edges bound) is ∙ slice_left edges led q.edges bound at.ordered at.within)) at.led;
      })

  pub placed_none : (points : List Point) (edges : List Edge) → points ≡ [] → edges ≡ [] → ArePlaced g heads stepped asserts frames keys rows steps called 0 points edges
  placed_none points edges e f = record {
    count = ap length e;
    each = λ i d w. absurd (omega arith);
    aims = λ d h. none_in d (subst (λ (l : List Edge). Contains l d) f h);
  }

  pub placed_more : (i : ℕ) (points more : List Point) (edges grown : List Edge) (q : Point) →
      ArePlaced g heads stepped asserts frames keys rows steps called i points edges → more ≡ points ++ q ∷ [] →
      q.root ≡ root_of (get_or keys i 0) → q.turns ≡ turns_of (get_or keys i 0) → q.stack ≡ stack_of (get_or keys i 0) →
      q.deed ≡ deed_at heads stepped (get_or keys i 0) → IsCoded (deed_at heads stepped (get_or keys i 0)) rows steps (address_of (get_or keys i 0)) q.code →
      q.edges ≡ length edges →
      AreLeft (deed_at heads stepped (get_or keys i 0)) g heads stepped asserts frames keys (get_or keys i 0) (get_or called i 0) edges grown →
      ArePlaced g heads stepped asserts frames keys rows steps called (i + 1) more grown
  placed_more i points more edges grown q are is root turns stack deed code begin led =
      let count = are.count in
      let long = longer edges led.0 grown led.1 in
      record {
        count = (let a = push_length points more q is in omega arith);
        each = λ j d w. elim (cases_lt j i) as (λ _. IsPlacedAt g heads stepped asserts frames keys rows steps (get_or keys j 0) (get_or called j 0) (get_or more j d)
            (begins_at grown (drop (j + 1) more)) grown) [
              | inl low ↦
                  let inside : j < length points = omega arith in
                  let next : suc j ≡ j + 1 = omega arith in
                  let bound : begins_at grown (drop (j + 1) more) ≡ begins_at edges (drop (j + 1) points) =
                  ap (λ (l : List Point). begins_at grown (drop (j + 1) l)) is ∙ ap (λ (z : ℕ). begins_at grown (drop z (points ++ q ∷ []))) (sym next)
                  ∙ begins_keep edges grown q points j inside begin ∙ ap (λ (z : ℕ). begins_at edges (drop z points)) next in
                  let same : get_or more j d ≡ get_or points j d = ap (λ (l : List Point). get_or l j d) is ∙ or_left points (q ∷ []) j d inside in
                  subst (λ (z : Point). IsPlacedAt g heads stepped asserts frames keys rows steps (get_or keys j 0) (get_or called j 0) z (begins_at grown (drop (j
                  + 1) more)) grown)
                  (sym same)
                  (kept (get_or keys j 0) (get_or called j 0) (get_or points j d) (begins_at edges (drop (j + 1) points))
                  (begins_at grown (drop (j + 1) more)) edges led.0 grown led.1 bound (are.each j d low))
              | inr high ↦
                  let here : j ≡ i = omega arith in
                  let size = push_length points more q is in
                  let last : get_or more i d ≡ q =
                  ap (λ (l : List Point). get_or l i d) is ∙ ap (λ (z : ℕ). get_or (points ++ q ∷ []) z d) (sym are.count) ∙ or_last points q d in
                  let bound : begins_at grown (drop (i + 1) more) ≡ length grown = ap (begins_at grown) (drop_past more (i + 1) (omega arith)) in
                  let slice : slice_range grown q.edges (length grown) ≡ led.0 =
                  ap (λ (z : ℕ). slice_range grown z (length grown)) begin ∙ ap
                  (λ (l : List Edge). slice_range l (length edges) (length l)) led.1 ∙ slice_right edges led.0 in
                  subst (λ (z : ℕ). IsPlacedAt g heads stepped asserts frames keys rows steps (get_or keys z 0) (get_or called z 0) (get_or more z d)
                  (begins_at grown (drop (z + 1) more)) grown) (sym here)
                  (subst (λ (z : Point). IsPlacedAt g heads stepped asserts frames keys rows steps (get_or keys i 0) (get_or called i 0) z (begins_at grown (drop (i
                  + 1) more)) grown)
                  (sym last)
                  (subst (λ (z : ℕ). IsPlacedAt g heads stepped asserts frames keys rows steps (get_or keys i 0) (get_or called i 0) q z grown) (sym bound) (record {
                    root = root;
                    turns = turns;
                    stack = stack;
                    deed = deed;
                    code = code;
                    ordered = (let b = begin in omega arith);
                    within = omega arith;
                    led =
                        subst (λ (l : List Edge). IsLeft (deed_at heads stepped (get_or keys i 0)) g heads stepped asserts frames keys (get_or keys i 0)
                        (get_or called i 0) l)
                        (sym slice) led.2;
                  })))
            ];
        aims = λ e h. elim (split_in edges led.0 e (subst (λ (l : List Edge). Contains l e) led.1 h)) as (λ _. IsAimFor heads asserts e.aim) [
          | inl z ↦ are.aims e z
          | inr z ↦ left_for (deed_at heads stepped (get_or keys i 0)) g heads stepped asserts frames keys (get_or keys i 0) (get_or called i 0) led.0 led.2 e z
        ];
      }
