-- What a mark does to a walk.
use Rattle.std.proofs.Common.{◌≡◌, ℕ, suc, zero, ◌≤◌, ◌<◌, ◌+◌, List, [], ◌∷◌, ◌++◌, length, get_or, set, Bool, true, false, refl, sym, ap, ◌∙◌, subst, arith, inl, inr, length-set, get_or-set_same, get_or-set_other}
use Rattle.std.specs.Prelude.{◌↔◌, replicate, Contains, if◌then◌else◌}
use Rattle.std.specs.List.{AllWithin}
use Rattle.std.proofs.lemmas.Bool.{cases_lt, cases_eq}
use Rattle.std.proofs.lemmas.List.{get_or_append_left, get_or_push, length_push, get_or_default, get_or_past, get_or-replicate, length-replicate}
use Rattle.std.proofs.lemmas.List.Elements.{Contains-append_left, Contains-push, Contains-get_or}
use Rattle.flag_live.specs.Reachable.{count_marked, IsMarked, IsMark, same, more, Extends, IsWalk, Reaches, start, along, IsFollowed}

carry_one : (n : ℕ) → 1 + n ≡ 0 + n + 1
carry_one n = omega arith

carry : (a m n : ℕ) → m ≡ n + 1 → a + m ≡ a + n + 1
carry a m n e = omega arith

-- one more mark is one more in the count
pub count_set : (xs : List Bool) (i : ℕ) → i < length xs → get_or xs i false ≡ false → count_marked (set xs i true) ≡ count_marked xs + 1
count_set [] i w e = absurd (omega arith)
count_set (false ∷ xs) zero w e = carry_one (count_marked xs)
count_set (true ∷ xs) zero w e = cc
count_set (b ∷ xs) (suc i) w e = carry (if b then 1 else 0) _ _ (count_set xs i (omega arith) e)

count_short : (xs : List Bool) → count_marked xs ≤ length xs
count_short [] = omega arith
count_short (false ∷ xs) = (let rest = count_short xs in omega (arith, rest))
count_short (true ∷ xs) = (let rest = count_short xs in omega (arith, rest))

-- a marked vertex is one of the vertices
pub marked_below : (marked : List Bool) (v : ℕ) → IsMarked marked v → v < length marked
marked_below marked v is = elim (cases_lt v (length marked)) as (λ _. v < length marked) [
  | inl less ↦ less
  | inr past ↦ (let e = get_or_past marked v false past in let bad : false ≡ true = sym e ∙ is in cc)
]

-- a mark stays under another
pub set_kept : (marked : List Bool) (i v : ℕ) → IsMarked marked v → IsMarked (set marked i true) v
set_kept marked i v is = elim (cases_eq v i) as (λ _. IsMarked (set marked i true) v) [
  | inl e ↦ (let less = marked_below marked v is in let here : i
      < length marked = omega arith in subst (λ (x : ℕ). IsMarked (set marked i true) x) (sym e) (get_or-set_same marked i true false here))
  | inr ne ↦ get_or-set_other marked i v true false ne ∙ is
]

pub extends_same : (marked : List Bool) (queue : List ℕ) → Extends marked queue marked queue
extends_same marked queue = record { size = refl; kept = λ v is. is; longer = omega arith; before = λ k d w. refl }

pub extends_more : (m : List Bool) (q : List ℕ) (m1 : List Bool) (q1 : List ℕ) (m2 : List Bool) (q2 : List ℕ) → Extends m q m1 q1 → Extends m1 q1 m2 q2 →
    Extends m q m2 q2
extends_more m q m1 q1 m2 q2 one two =
    let longer = one.longer in
    record {
      size = two.size ∙ one.size;
      kept = λ v is. two.kept v (one.kept v is);
      longer = (let further = two.longer in omega arith);
      before = λ k d w. two.before k d (omega arith) ∙ one.before k d w;
    }

pub mark_extends : (m : List Bool) (q : List ℕ) (v : ℕ) (m' : List Bool) (q' : List ℕ) → IsMark m q v m' q' → Extends m q m' q'
mark_extends m q v m' q' (same known em eq) = subst (λ (x : List Bool). Extends m q x q') (sym em) (subst
    (λ (x : List ℕ). Extends m q m x) (sym eq) (extends_same m q))
mark_extends m q v m' q' (more less free em eq) =
    let pushed = length_push q v in
    subst (λ (x : List Bool). Extends m q x q') (sym em)
    (subst (λ (x : List ℕ). Extends m q (set m v true) x) (sym eq)
    (record {
      size = length-set m v true;
      kept = λ u is. set_kept m v u is;
      longer = omega (arith, pushed);
      before = λ k d w. get_or_append_left q (v ∷ []) d k w;
    }))

pub mark_led : (m : List Bool) (q : List ℕ) (v : ℕ) (m' : List Bool) (q' : List ℕ) → IsMark m q v m' q' → v < length m → IsMarked m' v
mark_led m q v m' q' (same (inl past) em eq) less = absurd (omega arith)
mark_led m q v m' q' (same (inr is) em eq) less = subst (λ (x : List Bool). IsMarked x v) (sym em) is
mark_led m q v m' q' (more l free em eq) less = subst (λ (x : List Bool). IsMarked x v) (sym em) (get_or-set_same m v true false less)

walk_more : (edges : List (ℕ × ℕ)) (starts : List ℕ) (m : List Bool) (q : List ℕ) (v : ℕ) → v < length m → get_or m v false ≡ false
    → IsWalk edges starts m q → Reaches (length m) edges starts v → IsWalk edges starts (set m v true) (q ++ v ∷ [])
walk_more edges starts m q v less free is there =
    let size : length (set m v true) ≡ length m = length-set m v true in
    record {
      once = (let pushed = length_push q v in let counted = count_set m v less free in let before = is.once in omega (arith, pushed, counted, before));
      queued = λ u marked. elim (cases_eq u v) as (λ _. Contains (q ++ v ∷ []) u) [
        | inl e ↦ subst (λ (x : ℕ). Contains (q ++ v ∷ []) x) (sym e) (Contains-push q v)
        | inr ne ↦ Contains-append_left q (v ∷ []) u (is.queued u (sym (get_or-set_other m v u true false ne) ∙ marked))
      ];
      only = λ k d w. elim (cases_lt k (length q)) as (λ _. IsMarked (set m v true) (get_or (q ++ v ∷ []) k d)) [
        | inl l ↦ subst (λ (x : ℕ). IsMarked (set m v true) x) (sym (get_or_append_left q (v ∷ []) d k l)) (set_kept m v (get_or q k d) (is.only k d l))
        | inr r ↦ (let pushed = length_push q v in let at : length q ≡ k = omega (arith, pushed) in
            subst (λ (x : ℕ). IsMarked (set m v true) x) (sym (get_or_push q v d k at)) (get_or-set_same m v true false less))
      ];
      reached = λ k d w. subst (λ (n : ℕ). Reaches n edges starts (get_or (q ++ v ∷ []) k d)) (sym size)
          (elim (cases_lt k (length q)) as (λ _. Reaches (length m) edges starts (get_or (q ++ v ∷ []) k d)) [
            | inl l ↦ subst (λ (x : ℕ). Reaches (length m) edges starts x) (sym (get_or_append_left q (v ∷ []) d k l)) (is.reached k d l)
            | inr r ↦ (let pushed = length_push q v in let at : length q ≡ k = omega (arith, pushed) in
                subst (λ (x : ℕ). Reaches (length m) edges starts x) (sym (get_or_push q v d k at)) there)
          ]);
    }

pub mark_walk : (edges : List (ℕ × ℕ)) (starts : List ℕ) (m : List Bool) (q : List ℕ) (v : ℕ) (m' : List Bool) (q' : List ℕ) → IsMark m q v m' q'
    → IsWalk edges starts m q → (v < length m → Reaches (length m) edges starts v) → IsWalk edges starts m' q'
mark_walk edges starts m q v m' q' (same known em eq) is there =
    subst (λ (x : List Bool). IsWalk edges starts x q') (sym em) (subst (λ (x : List ℕ). IsWalk edges starts m x) (sym eq) is)
mark_walk edges starts m q v m' q' (more less free em eq) is there =
    subst (λ (x : List Bool). IsWalk edges starts x q') (sym em)
    (subst (λ (x : List ℕ). IsWalk edges starts (set m v true) x) (sym eq) (walk_more edges starts m q v less free is (there less)))

-- nothing is marked as a walk begins
no_mark : (marked : List Bool) (v : ℕ) → ((k : ℕ) → k < length marked → get_or marked k false ≡ false) → IsMarked marked v → ⊥
no_mark marked v none is = let less = marked_below marked v is in let bad : false ≡ true = sym (none v less) ∙ is in cc

count_none : (marked : List Bool) → ((k : ℕ) → k < length marked → get_or marked k false ≡ false) → count_marked marked ≡ 0
count_none [] none = refl
count_none (true ∷ xs) none = (let bad : true ≡ false = none 0 (omega arith) in cc)
count_none (false ∷ xs) none = (let rest = count_none xs (λ k w. none (suc k) (omega arith)) in omega (arith, rest))

walk_begins : (edges : List (ℕ × ℕ)) (starts : List ℕ) (marked : List Bool) → ((k : ℕ) → k < length marked → get_or marked k false ≡ false) →
    IsWalk edges starts marked []
walk_begins edges starts marked none = record {
  once = sym (count_none marked none);
  queued = λ v is. absurd (no_mark marked v none is);
  only = λ k d w. absurd (omega arith);
  reached = λ k d w. absurd (omega arith);
}

pub walk_of_none : (edges : List (ℕ × ℕ)) (starts : List ℕ) (marked : List Bool) (queue : List ℕ) (count : ℕ) → marked ≡ replicate count false → queue ≡ []
    → (length marked ≡ count) × IsWalk edges starts marked queue
walk_of_none edges starts marked queue count em eq =
    let size : length marked ≡ count = ap length em ∙ length-replicate count false in (
      size,
      subst (λ (x : List ℕ). IsWalk edges starts marked x) (sym eq)
          (walk_begins edges starts marked (λ k w. ap (λ (x : List Bool). get_or x k false) em ∙ get_or-replicate count k false false (omega arith))),
    )

-- a walk's queue is no longer than its marks
pub queue_short : (edges : List (ℕ × ℕ)) (starts : List ℕ) (m : List Bool) (q : List ℕ) → IsWalk edges starts m q → length q ≤ length m
queue_short edges starts m q is = let e = is.once in omega (arith, count_short m)

-- what was followed from a vertex of the queue is followed from all before it
pub followed_more : (edges : List (ℕ × ℕ)) (m : List Bool) (q : List ℕ) (m' : List Bool) (q' : List ℕ) (n v : ℕ) → n < length q → v ≡ get_or q n v →
    Extends m q m' q'
    → IsFollowed edges m q n → ((to : ℕ) → Contains edges (v, to) → to < length m → IsMarked m' to) → IsFollowed edges m' q' (n + 1)
followed_more edges m q m' q' n v less at one done led k d to w has below =
    let size = one.size in
    let here : k < length q = omega arith in
    let has_old = subst (λ (x : ℕ). Contains edges (x, to)) (one.before k d here) has in
    elim (cases_lt k n) as (λ _. IsMarked m' to) [
      | inl l ↦ one.kept to (done k d to l has_old (omega arith))
      | inr r ↦ (let e : k ≡ n = omega arith in
          led to (subst (λ (x : ℕ). Contains edges (x, to)) (ap (λ (i : ℕ). get_or q i d) e ∙ get_or_default q n d v less ∙ sym at) has_old) (omega arith))
    ]

-- the edges from a vertex stand between two bounds
pub led_all : (edges : List (ℕ × ℕ)) (v first above n : ℕ) (P : ℕ → Type 0) → above ≤ n
    → AllWithin (λ e. e.0 < v) edges 0 first → AllWithin (λ e. v < e.0) edges above (length edges)
    → ((k : ℕ) (d : ℕ × ℕ) → first ≤ k → k < n → P (get_or edges k d).1) → (to : ℕ) → Contains edges (v, to) → P to
led_all edges v first above n P upto before behind all to has =
    let k = has.0 in
    let within : k < length edges = has.1 in
    let d : ℕ × ℕ = (v, to) in
    let at : (get_or edges k d).0 ≡ v = ap (λ (e : ℕ × ℕ). e.0) has.2 in
    let low : first ≤ k = elim (cases_lt k first) as (λ _. first ≤ k) [ inl l ↦ (let b = before k d (omega arith) l in absurd (omega arith)) | inr r ↦ r ] in
    let high : k < above = elim (cases_lt k above) as (λ _. k < above) [ inl l ↦ l | inr r ↦ (let b = behind k d r within in absurd (omega arith)) ] in
    subst (λ (e : ℕ × ℕ). P e.1) has.2 (all k d low (omega arith))

-- an edge at a place leads on from what is reached
pub led_reached : (edges : List (ℕ × ℕ)) (starts : List ℕ) (n n' v i : ℕ) (d : ℕ × ℕ) → n' ≡ n → i < length edges → (get_or edges i d).0 ≡ v
    → Reaches n edges starts v → (get_or edges i d).1 < n' → Reaches n' edges starts (get_or edges i d).1
led_reached edges starts n n' v i d e w at there less =
    along (subst (λ (x : ℕ). Reaches x edges starts v) (sym e) there) less
    (subst (λ (a : ℕ). Contains edges (a, (get_or edges i d).1)) at (Contains-get_or edges i d w))

-- the ends of the edges from one place on are marked, one edge more
pub led_more : (edges : List (ℕ × ℕ)) (first i n : ℕ) (m m' : List Bool) (d : ℕ × ℕ) → i < length edges
    → ((k : ℕ) (e : ℕ × ℕ) → first ≤ k → k < i → (get_or edges k e).1 < n → IsMarked m (get_or edges k e).1)
    → ((v : ℕ) → IsMarked m v → IsMarked m' v) → ((get_or edges i d).1 < n → IsMarked m' (get_or edges i d).1)
    → (k : ℕ) (e : ℕ × ℕ) → first ≤ k → k < i + 1 → (get_or edges k e).1 < n → IsMarked m' (get_or edges k e).1
led_more edges first i n m m' d w before kept here k e low high less =
    elim (cases_lt k i) as (λ _. IsMarked m' (get_or edges k e).1) [
      | inl l ↦ kept (get_or edges k e).1 (before k e low l less)
      | inr r ↦ (let at : k ≡ i = omega arith in
          let one : get_or edges k e ≡ get_or edges i d = ap (λ (x : ℕ). get_or edges x e) at ∙ get_or_default edges i e d w in
          let less' : (get_or edges i d).1 < n = subst (λ (x : ℕ × ℕ). x.1 < n) one less in
          subst (λ (x : ℕ × ℕ). IsMarked m' x.1) (sym one) (here less'))
    ]

-- the starts are marked, one more
pub begun_more : (starts : List ℕ) (i n : ℕ) (m m' : List Bool) (d : ℕ) → i < length starts
    → ((k e : ℕ) → k < i → get_or starts k e < n → IsMarked m (get_or starts k e))
    → ((v : ℕ) → IsMarked m v → IsMarked m' v) → (get_or starts i d < n → IsMarked m' (get_or starts i d))
    → (k e : ℕ) → k < i + 1 → get_or starts k e < n → IsMarked m' (get_or starts k e)
begun_more starts i n m m' d w before kept here k e high less =
    elim (cases_lt k i) as (λ _. IsMarked m' (get_or starts k e)) [
      | inl l ↦ kept (get_or starts k e) (before k e l less)
      | inr r ↦ (let at : k ≡ i = omega arith in
          let one : get_or starts k e ≡ get_or starts i d = ap (λ (x : ℕ). get_or starts x e) at ∙ get_or_default starts i e d w in
          let less' : get_or starts i d < n = omega arith in
          subst (λ (x : ℕ). IsMarked m' x) (sym one) (here less'))
    ]

-- a start of a list is one that is reached
pub start_reached : (edges : List (ℕ × ℕ)) (starts : List ℕ) (n i d : ℕ) → i < length starts → get_or starts i d < n →
    Reaches n edges starts (get_or starts i d)
start_reached edges starts n i d w less = start less (Contains-get_or starts i d w)

-- once all of the queue is followed, marked are those that are reached
pub all_marked : (edges : List (ℕ × ℕ)) (starts : List ℕ) (m : List Bool) (q : List ℕ) (n : ℕ) → IsWalk edges starts m q → length q ≤ n
    → ((v : ℕ) → Contains starts v → v < length m → IsMarked m v) → IsFollowed edges m q n → (v : ℕ) → Reaches (length m) edges starts v → IsMarked m v
all_marked edges starts m q n is all begun done v (start less has) = begun v has less
all_marked edges starts m q n is all begun done v (along {u = u} there less led) =
    let at = is.queued u (all_marked edges starts m q n is all begun done u there) in
    let within = at.1 in
    done at.0 u v (omega arith) (subst (λ (x : ℕ). Contains edges (x, v)) (sym at.2) led) less

pub marked_reached : (edges : List (ℕ × ℕ)) (starts : List ℕ) (m : List Bool) (q : List ℕ) → IsWalk edges starts m q → (v : ℕ) → IsMarked m v →
    Reaches (length m) edges starts v
marked_reached edges starts m q is v marked = let at = is.queued v marked in subst (λ (x : ℕ). Reaches (length m) edges starts x) at.2 (is.reached at.0 v at.1)

pub reach_is : (edges : List (ℕ × ℕ)) (starts : List ℕ) (m : List Bool) (q : List ℕ) (count n : ℕ) → length m ≡ count → IsWalk edges starts m q → length q ≤ n
    → ((v : ℕ) → Contains starts v → v < count → IsMarked m v) → IsFollowed edges m q n → (v : ℕ) → IsMarked m v ↔ Reaches count edges starts v
reach_is edges starts m q count n size is all begun done v = (
  λ marked. subst (λ (x : ℕ). Reaches x edges starts v) size (marked_reached edges starts m q is v marked),
  λ there. all_marked edges starts m q n is all (λ u has less. begun u has (omega arith)) done v (subst (λ (x : ℕ). Reaches x edges starts v) (sym size) there),
)
