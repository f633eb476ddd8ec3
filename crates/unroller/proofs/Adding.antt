-- Edges that are added one by one, and calls.
use Rattle.std.proofs.Common.{◌≡◌, inl, inr, refl, ap, sym, ◌∙◌, subst, arith, ℕ, zero, suc, ◌+◌, ◌<◌, ◌≤◌, Bool, true, false, Option, Some, List, [], ◌∷◌, ◌++◌, length, get_or, take, drop, map}
use Rattle.std.specs.Prelude.{Contains, ◌↔◌, ◌⊎◌, ◌||◌}
use Rattle.std.proofs.Math.ListN.{length-append}
use Rattle.std.specs.List.{AllZip}
use Rattle.std.specs.List.Sorted.{IsStrictlyIncreasing}
use Rattle.std.proofs.lemmas.List.{take_more}
use Rattle.std.proofs.lemmas.Bool.{cases_lt}
use Rattle.word_spec.specs.Words.{add}
use Rattle.bilv_spec.proofs.PointsInGraph.{split_in}
use Rattle.graph_nodes.specs.declared.nodes.Node.{Node}
use Rattle.graph_nodes.specs.declared.nodes.Graph.{Graph}
use Rattle.program_points.specs.declared.values.Frame.{Frame}
use Rattle.program_points.specs.declared.values.End.{End}
use Rattle.program_points.specs.declared.values.FramePoint.{FramePoint}
use Rattle.program_points.specs.Tables.{frame, frame_at, listed, IsCalled}
use Rattle.program_points.proofs.Lists.{regroup, take_whole, keeps, or_left, or_last, grown as push_length, nothing_more}
use Rattle.question_form.specs.declared.unrolled.Deed.{Deed}
use Rattle.question_form.specs.declared.unrolled.Deed.TheVariants.{Row}
use Rattle.question_form.specs.declared.unrolled.Edge.{Edge}
use Rattle.unroller.specs.Keys.{address_of, stack_of, target_key}
use Rattle.unroller.proofs.Ordered.{map_append}
use Rattle.unroller.specs.Led.{is_same, is_among, is_both, exits_by, IsLedTo, AreAddedTo, HasLed, HasRowLed, IsCalledBy, IsNoneCalled, AreCalled, AreLeft}

-- the numbers of some ends and of one more, if there is one
pub map_listed : (f : End → ℕ) (jumps : List End) (i : ℕ) (next o : Option End) (found grown : List ℕ) → length jumps ≤ i → found ≡ map f (take i jumps) →
    next ≡ o
    → grown ≡ found ++ map f (listed o) → grown ≡ map f (jumps ++ listed next)
map_listed f jumps i next o found grown le is e more =
    more ∙ ap (λ (l : List ℕ). l ++ map f (listed o)) (is ∙ ap (map f) (take_whole jumps i le)) ∙ sym (map_append f jumps (listed o)) ∙ ap
    (λ (z : Option End). map f (jumps ++ listed z)) (sym e)

-- an end is looked for from the front on
any_drop : (other : End) (ends : List End) (i : ℕ) (d : End) → i < length ends →
    is_among (drop i ends) other ≡ (is_same (get_or ends i d) other || is_among (drop (i + 1) ends) other)
any_drop other [] i d w = absurd (omega arith)
any_drop other (e ∷ ends) zero d w = refl
any_drop other (e ∷ ends) (suc i) d w = let z : suc (i + 1) ≡ suc i + 1 = omega arith in any_drop other ends i d (omega arith) ∙ ap
    (λ (n : ℕ). is_same (get_or ends i d) other || is_among (drop n (e ∷ ends)) other) z

pub found_here : (other : End) (ends : List End) (i : ℕ) (d : End) → i < length ends → is_among ends other ≡ is_among (drop i ends) other →
    is_same (get_or ends i d) other ≡ true → is_among ends other ≡ true
found_here other ends i d w so e = so ∙ any_drop other ends i d w ∙ ap (λ (b : Bool). b || is_among (drop (i + 1) ends) other) e

pub not_here : (other : End) (ends : List End) (i : ℕ) (d : End) → i < length ends → is_among ends other ≡ is_among (drop i ends) other →
    is_same (get_or ends i d) other ≡ false
    → is_among ends other ≡ is_among (drop (i + 1) ends) other
not_here other ends i d w so e = so ∙ any_drop other ends i d w ∙ ap (λ (b : Bool). b || is_among (drop (i + 1) ends) other) e

pub none_left : (other : End) (ends : List End) (i : ℕ) → length ends ≤ i → is_among (drop i ends) other ≡ false
none_left other [] zero le = refl
none_left other [] (suc i) le = refl
none_left other (e ∷ ends) zero le = absurd (omega arith)
none_left other (e ∷ ends) (suc i) le = none_left other ends i (omega arith)

zip_more : {A B : Type 0} (R : A → B → Type 0) (xs : List A) (ys : List B) (x : A) (y : B) → AllZip R xs ys → R x y → AllZip R (xs ++ x ∷ []) (ys ++ y ∷ [])
zip_more R [] [] x y h r = (r, tt)
zip_more R [] (b ∷ ys) x y h r = absurd h
zip_more R (a ∷ xs) [] x y h r = absurd h
zip_more R (a ∷ xs) (b ∷ ys) x y h r = (h.0, zip_more R xs ys x y h.1 r)

pub added_none : (heads : List ℕ) (asserts : List (ℕ × ℕ)) (keys : List ℕ) (next : Option End) (both : Bool) (targets : List ℕ) (old : List Edge) →
    AreAddedTo heads asserts keys next both (take 0 targets) old old
added_none heads asserts keys next both [] old = ([], nothing_more old, tt)
added_none heads asserts keys next both (t ∷ targets) old = ([], nothing_more old, tt)

pub added_more : (heads : List ℕ) (asserts : List (ℕ × ℕ)) (keys : List ℕ) (next : Option End) (both : Bool) (targets : List ℕ) (i : ℕ) (old new newer :
    List Edge) (e : Edge) → i < length targets
    → IsLedTo heads asserts keys next both (get_or targets i 0) e → AreAddedTo heads asserts keys next both (take i targets) old new → newer ≡ new ++ e ∷ [] →
    AreAddedTo heads asserts keys next both (take (i + 1) targets) old newer
added_more heads asserts keys next both targets i old new newer e w led so more = (
  so.0 ++ e ∷ [],
  more ∙ ap (λ (l : List Edge). l ++ e ∷ []) so.1 ∙ regroup old so.0 (e ∷ []),
  subst (λ (l : List ℕ). AllZip (IsLedTo heads asserts keys next both) l (so.0 ++ e
      ∷ [])) (sym (take_more targets i 0 w)) (zip_more (IsLedTo heads asserts keys next both) (take i targets) so.0 (get_or targets i 0) e so.2 led),
)

pub added_all : (heads : List ℕ) (asserts : List (ℕ × ℕ)) (keys : List ℕ) (next : Option End) (both : Bool) (targets : List ℕ) (i : ℕ) (old new : List
    Edge) → length targets ≤ i →
    AreAddedTo heads asserts keys next both (take i targets) old new
    → AreAddedTo heads asserts keys next both targets old new
added_all heads asserts keys next both targets i old new le so = subst (λ (l : List ℕ). AreAddedTo heads asserts keys next both l old new) (take_whole
    targets i le) so

-- one frame more at most
pub pushed_few : (old rest : List Frame) (f : Frame) (n : ℕ) → length old ≤ n → (rest ≡ []) ⊎ (rest ≡ f ∷ []) → length (old ++ rest) ≤ n + 1
pushed_few old rest f n le only =
    let b = length-append old rest in
    elim only as (λ _. length (old ++ rest) ≤ n + 1) [
      | inl e ↦ (let c = ap length e in omega arith)
      | inr e ↦ (let c = ap length e in omega arith)
    ]

frame_keeps : (frames rest : List Frame) (n : ℕ) (f : Frame) → frame_at frames n ≡ Some f → frame_at (frames ++ rest) n ≡ Some f
frame_keeps frames rest zero f e = absurd (cc)
frame_keeps frames rest (suc i) f e = keeps frames rest i f e

called_keeps : (n : Node) (stack : ℕ) (frames rest grown : List Frame) (called : ℕ) → grown ≡ frames ++ rest → IsCalledBy n stack frames called →
    IsCalledBy n stack grown called
called_keeps n stack frames rest grown called is by x c l =
    subst (λ (z : List Frame). frame_at z called ≡ Some (frame (add 32 n.at n.length) stack)) (sym is)
    (frame_keeps frames rest called (frame (add 32 n.at n.length) stack) (by x c l))

pub called_more : (g : Graph) (keys : List ℕ) (frames grown : List Frame) (i : ℕ) (found more : List ℕ) (n : Node) (number : ℕ) →
    AreCalled g keys frames i found
    → more ≡ found ++ number ∷ [] → Contains g.nodes.items n → n.at ≡ address_of (get_or keys i 0) →
    IsCalled n (stack_of (get_or keys i 0)) frames grown number → IsNoneCalled n number → AreCalled g keys grown (i + 1) more
called_more g keys frames grown i found more n number are is among at called none =
    let count = are.count in
    record {
      count = grown_by ∙ ap (λ (z : ℕ). z + 1) are.count;
      each = λ j w. elim (cases_lt j i) as (λ _. (m : Node) × Contains g.nodes.items m × (m.at ≡ address_of (get_or keys j 0)) ×
          IsCalledBy m (stack_of (get_or keys j 0)) grown (get_or more j 0) × IsNoneCalled m (get_or more j 0)) [
            | inl low ↦
                let q = are.each j low in
                let same : get_or more j 0 ≡ get_or found j 0 = ap (λ (l : List ℕ). get_or l j 0) is ∙ or_left found (number ∷ []) j 0 (omega arith) in (
                  q.0,
                  q.1,
                  q.2,
                  subst (λ (z : ℕ). IsCalledBy q.0 (stack_of (get_or keys j 0)) grown z) (sym same)
                      (called_keeps q.0 (stack_of (get_or keys j 0)) frames called.rest grown (get_or found j 0) called.begins q.3),
                  subst (λ (z : ℕ). IsNoneCalled q.0 z) (sym same) q.4,
                )
            | inr high ↦
                let here : j ≡ i = omega arith in
                let last : get_or more i 0 ≡ number =
                ap (λ (l : List ℕ). get_or l i 0) is ∙ ap (λ (z : ℕ). get_or (found ++ number ∷ []) z 0) (sym are.count) ∙ or_last found number 0 in
                subst (λ (z : ℕ). (m : Node) × Contains g.nodes.items m × (m.at ≡ address_of (get_or keys z 0)) ×
                IsCalledBy m (stack_of (get_or keys z 0)) grown (get_or more z 0) × IsNoneCalled m (get_or more z 0)) (sym here) (
                  n,
                  among,
                  at,
                  subst (λ (z : ℕ). IsCalledBy n (stack_of (get_or keys i 0)) grown z) (sym last) called.pushes,
                  subst (λ (z : ℕ). IsNoneCalled n z) (sym last) none,
                )
          ];
    }
  where
    grown_by : length more ≡ length found + 1
    grown_by = push_length found more number is

-- the edges of a point, from those to its targets and the one out of the function
pub led_all : (heads stepped : List ℕ) (asserts : List (ℕ × ℕ)) (keys : List ℕ) (own : ℕ) (linked : Option ℕ) (jumps : List End) (next : Option End)
    (both exits : Bool) (targets : List ℕ) (old mid new : List Edge) → both ≡ is_both jumps next → IsStrictlyIncreasing targets →
    ((x : ℕ) → Contains (map (target_key stepped linked own) (jumps ++ listed next)) x ↔ Contains targets x) →
    ((e : End) → Contains jumps e → e.at < 4294967296) → mid ≡ old ++ exits_by exits → AreAddedTo heads asserts keys next both targets mid new →
    HasLed heads stepped asserts keys own linked jumps next exits old new
led_all heads stepped asserts keys own linked jumps next both exits targets old mid new g rise same small exit so = (
  exits_by exits ++ so.0,
  so.1 ∙ ap (λ (l : List Edge). l ++ so.0) exit ∙ regroup old (exits_by exits) so.0,
  record {
    targets = targets;
    rise = rise;
    same = same;
    small = small;
    rest = so.0;
    is = refl;
    each = subst (λ (b : Bool). AllZip (IsLedTo heads asserts keys next b) targets so.0) g so.2;
  },
)

-- the edges that are added at a node, where its row is executed
pub left_on : (deed : Deed) (g : Graph) (heads stepped : List ℕ) (asserts : List (ℕ × ℕ)) (frames : List Frame) (keys : List ℕ) (key called : ℕ) (n : Node)
    (old new : List Edge) → deed ≡ Row → Contains g.nodes.items n → n.at ≡ address_of key →
    HasRowLed heads stepped asserts g.narrow n frames keys key called old new → AreLeft deed g heads stepped asserts frames keys key called old new
left_on deed g heads stepped asserts frames keys key called n old new is among at led =
    subst (λ (d : Deed). AreLeft d g heads stepped asserts frames keys key called old new) (sym is) (led.0, led.1, (n, among, at, led.2))

pub take_none : {X : Type 0} (xs : List X) → take 0 xs ≡ []
take_none [] = refl
take_none (x ∷ xs) = refl

-- one more end has an address in range
pub small_more : (jumps : List End) (i : ℕ) → i < length jumps → (none : End) → (get_or jumps i none).at < 4294967296
    → ((e : End) → Contains (take i jumps) e → e.at < 4294967296) → (e : End) → Contains (take (i + 1) jumps) e → e.at < 4294967296
small_more jumps i w none small before e h =
    elim (split_in (take i jumps) (get_or jumps i none ∷ []) e (subst (λ (l : List End). Contains l e) (take_more jumps i none w) h)) [
      | inl q ↦ before e q
      | inr q ↦ last q
    ]
  where
    last : Contains (get_or jumps i none ∷ []) e → e.at < 4294967296
    last (zero, l, q) = subst (λ (z : End). z.at < 4294967296) q small
    last (suc i, l, q) = absurd (omega arith)

-- so one more point
pub point_small : (points : List FramePoint) (i : ℕ) → i < length points → (none : FramePoint) → (get_or points i none).at < 4294967296
    → ((q : FramePoint) → Contains (take i points) q → q.at < 4294967296) → (q : FramePoint) → Contains (take (i + 1) points) q → q.at < 4294967296
point_small points i w none small before q h =
    elim (split_in (take i points) (get_or points i none ∷ []) q (subst (λ (l : List FramePoint). Contains l q) (take_more points i none w) h)) [
      | inl c ↦ before q c
      | inr c ↦ last c
    ]
  where
    last : Contains (get_or points i none ∷ []) q → q.at < 4294967296
    last (zero, l, e) = subst (λ (z : FramePoint). z.at < 4294967296) e small
    last (suc j, l, e) = absurd (omega arith)
