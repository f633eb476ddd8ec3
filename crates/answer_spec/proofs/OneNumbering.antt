-- The points of a frame have one order in scripts.
use Rattle.std.proofs.Common.{◌≡◌, ℕ, zero, suc, ◌<◌, Bool, true, false, List, [], ◌∷◌, length, refl, ap, sym, ◌∙◌, subst, arith}
use Rattle.std.specs.Prelude.{◌==◌, ◌&&◌, ◌||◌, not, nat_lt, slice_index_or, AllPairs, Contains}
use Rattle.std.specs.Str.{bytes_eq}
use Rattle.std.proofs.lemmas.Bool.{eqb-true}
use Rattle.std.proofs.lemmas.Bool.Decides.{nat_tests}
use Rattle.std.proofs.lemmas.Slice.Eq.{bytes_eq-Decides}
use Rattle.bilv_spec.specs.Points as plain
use Rattle.bilv_spec.specs.Scripts.{is_below_from_end, is_stack_below, is_point_below}
use Rattle.frame_spec.specs.FramePoints.{Anchor, AtEntry, AtHead, Point, triple}
use Rattle.frame_spec.specs.FrameScripts.{is_anchor_below, is_frame_point_below, is_same_anchor, is_same_triple}
use Rattle.answer_spec.specs.FrameAnswerLaws.{OneFrameNumbering}

-- two ways round by a first test, and where it ties by a second one
ordered : (x e y x' e' y' : Bool) → (x ≡ true → x' ≡ true → ⊥) → (x ≡ true → e' ≡ true → ⊥) → (e ≡ true → x' ≡ true → ⊥) →
    (e ≡ true → y ≡ true → y' ≡ true → ⊥) → (x || (e && y)) ≡ true → (x' || (e' && y')) ≡ true → ⊥
ordered true e y true e' y' a b c d h k = a refl refl
ordered true e y false true y' a b c d h k = b refl refl
ordered true e y false false y' a b c d h k = cc
ordered false true y true e' y' a b c d h k = c refl refl
ordered false true y false true y' a b c d h k = d refl h k
ordered false true y false false y' a b c d h k = cc
ordered false false y x' e' y' a b c d h k = cc

both : (a b : Bool) → (a && b) ≡ true → (a ≡ true) × (b ≡ true)
both true b h = (refl, h)
both false b h = absurd (cc)

texts_same : (s t : List ℕ) → bytes_eq s t ≡ true → s ≡ t
texts_same s t h = (bytes_eq-Decides s t).0 h

less_one_way : (m n : ℕ) → nat_lt m n ≡ true → nat_lt n m ≡ true → ⊥
less_one_way m n h k = let a : m < n = grind (arith, nat_tests, h) in let b : n < m = grind (arith, nat_tests, k) in omega (arith, a, b)

less_no_tie : (m n : ℕ) → nat_lt m n ≡ true → (n == m) ≡ true → ⊥
less_no_tie m n h k = let a : m < n = grind (arith, nat_tests, h) in let b : n ≡ m = eqb-true n m k in omega (arith, a, b)

tie_no_less : (m n : ℕ) → (m == n) ≡ true → nat_lt n m ≡ true → ⊥
tie_no_less m n h k = let a : m ≡ n = eqb-true m n h in let b : n < m = grind (arith, nat_tests, k) in omega (arith, a, b)

-- stacks
ends_one_way : (s t : List ℕ) → is_below_from_end s t ≡ true → is_below_from_end t s ≡ true → ⊥
ends_one_way [] t h k = cc
ends_one_way (a ∷ s) [] h k = cc
ends_one_way (a ∷ s) (b ∷ t) h k =
    ordered (is_below_from_end s t) (bytes_eq s t) (nat_lt a b) (is_below_from_end t s) (bytes_eq t s) (nat_lt b a) (ends_one_way s t)
    (λ x e. (let same = texts_same t s e in
    ends_one_way s s (subst (λ (z : List ℕ). is_below_from_end s z ≡ true) same x) (subst (λ (z : List ℕ). is_below_from_end s z ≡ true) same x)))
    (λ e x. (let same = texts_same s t e in
    ends_one_way s s (subst (λ (z : List ℕ). is_below_from_end z s ≡ true) (sym same) x) (subst (λ (z : List ℕ). is_below_from_end z s ≡ true) (sym same) x)))
    (λ e y z. less_one_way a b y z) h k

stacks_one_way : (s t : List ℕ) → is_stack_below s t ≡ true → is_stack_below t s ≡ true → ⊥
stacks_one_way s t h k =
    ordered (nat_lt (length s) (length t)) (length s == length t) (is_below_from_end s t) (nat_lt (length t) (length s)) (length t == length s)
    (is_below_from_end t s) (less_one_way (length s) (length t)) (less_no_tie (length s) (length t)) (tie_no_less (length s) (length t))
    (λ e y z. ends_one_way s t y z) h k

stack_no_tie : (s t : List ℕ) → is_stack_below s t ≡ true → bytes_eq t s ≡ true → ⊥
stack_no_tie s t h e =
    let x : is_stack_below s s ≡ true = subst (λ (z : List ℕ). is_stack_below s z ≡ true) (texts_same t s e) h in stacks_one_way s s x x

tie_no_stack : (s t : List ℕ) → bytes_eq s t ≡ true → is_stack_below t s ≡ true → ⊥
tie_no_stack s t e h =
    let x : is_stack_below s s ≡ true = subst (λ (z : List ℕ). is_stack_below z s ≡ true) (sym (texts_same s t e)) h in stacks_one_way s s x x

-- points of a program
points_one_way : (p q : plain.Point) → is_point_below p q ≡ true → is_point_below q p ≡ true → ⊥
points_one_way p q h k =
    ordered (nat_lt p.turns q.turns) (p.turns == q.turns) (is_stack_below p.stack q.stack || (bytes_eq p.stack q.stack && nat_lt p.at q.at))
    (nat_lt q.turns p.turns) (q.turns == p.turns) (is_stack_below q.stack p.stack || (bytes_eq q.stack p.stack && nat_lt q.at p.at))
    (less_one_way p.turns q.turns) (less_no_tie p.turns q.turns) (tie_no_less p.turns q.turns)
    (λ e y z. ordered (is_stack_below p.stack q.stack) (bytes_eq p.stack q.stack) (nat_lt p.at q.at) (is_stack_below q.stack p.stack)
    (bytes_eq q.stack p.stack) (nat_lt q.at p.at) (stacks_one_way p.stack q.stack) (stack_no_tie p.stack q.stack) (tie_no_stack p.stack q.stack)
    (λ f v w. less_one_way p.at q.at v w) y z) h k

-- points of one anchor that are the same but for contract steps
triples_same : (p q : Point) → is_same_triple p q ≡ true → triple p ≡ triple q
triples_same p q h =
    let a = both (p.turns == q.turns) (bytes_eq p.stack q.stack && (p.at == q.at)) h in
    let b = both (bytes_eq p.stack q.stack) (p.at == q.at) a.1 in
    let turns : p.turns ≡ q.turns = eqb-true p.turns q.turns a.0 in
    let at : p.at ≡ q.at = eqb-true p.at q.at b.1 in
    let stack = texts_same p.stack q.stack b.0 in
    ap (λ (n : ℕ). (let x : plain.Point = record { turns = n; stack = p.stack; at = p.at } in x)) turns
    ∙ ap (λ (s : List ℕ). (let x : plain.Point = record { turns = q.turns; stack = s; at = p.at } in x)) stack
    ∙ ap (λ (n : ℕ). (let x : plain.Point = record { turns = q.turns; stack = q.stack; at = n } in x)) at

steps_one_way : (a b : Bool) → (not a && b) ≡ true → (not b && a) ≡ true → ⊥
steps_one_way true b h k = cc
steps_one_way false true h k = cc
steps_one_way false false h k = cc

-- anchors
anchors_one_way : (a b : Anchor) → is_anchor_below a b ≡ true → is_anchor_below b a ≡ true → ⊥
anchors_one_way AtEntry AtEntry h k = cc
anchors_one_way AtEntry (AtHead t b) h k = cc
anchors_one_way (AtHead s a) AtEntry h k = cc
anchors_one_way (AtHead s a) (AtHead t b) h k =
    ordered (is_stack_below s t) (bytes_eq s t) (nat_lt a b) (is_stack_below t s) (bytes_eq t s) (nat_lt b a) (stacks_one_way s t) (stack_no_tie s t)
    (tie_no_stack s t) (λ e y z. less_one_way a b y z) h k

anchors_same : (a b : Anchor) → is_same_anchor a b ≡ true → a ≡ b
anchors_same AtEntry AtEntry h = refl
anchors_same AtEntry (AtHead t b) h = absurd (cc)
anchors_same (AtHead s a) AtEntry h = absurd (cc)
anchors_same (AtHead s a) (AtHead t b) h =
    let e = both (bytes_eq s t) (a == b) h in ap (λ (z : List ℕ). AtHead z a) (texts_same s t e.0) ∙ ap (λ (n : ℕ). AtHead t n) (eqb-true a b e.1)

anchor_no_tie : (a b : Anchor) → is_anchor_below a b ≡ true → is_same_anchor b a ≡ true → ⊥
anchor_no_tie a b h e =
    let x : is_anchor_below a a ≡ true = subst (λ (z : Anchor). is_anchor_below a z ≡ true) (anchors_same b a e) h in anchors_one_way a a x x

tie_no_anchor : (a b : Anchor) → is_same_anchor a b ≡ true → is_anchor_below b a ≡ true → ⊥
tie_no_anchor a b e h =
    let x : is_anchor_below a a ≡ true = subst (λ (z : Anchor). is_anchor_below z a ≡ true) (sym (anchors_same a b e)) h in anchors_one_way a a x x

triple_no_tie : (p q : Point) → is_point_below (triple p) (triple q) ≡ true → is_same_triple q p ≡ true → ⊥
triple_no_tie p q h e =
    let x : is_point_below (triple p) (triple p) ≡ true = subst (λ (z : plain.Point). is_point_below (triple p) z ≡ true) (triples_same q p e) h in
    points_one_way (triple p) (triple p) x x

tie_no_triple : (p q : Point) → is_same_triple p q ≡ true → is_point_below (triple q) (triple p) ≡ true → ⊥
tie_no_triple p q e h =
    let x : is_point_below (triple p) (triple p) ≡ true =
    subst (λ (z : plain.Point). is_point_below z (triple p) ≡ true) (sym (triples_same p q e)) h in points_one_way (triple p) (triple p) x x

frame_points_one_way : (p q : Point) → is_frame_point_below p q ≡ true → is_frame_point_below q p ≡ true → ⊥
frame_points_one_way p q h k =
    ordered (is_anchor_below p.anchor q.anchor) (is_same_anchor p.anchor q.anchor)
    (is_point_below (triple p) (triple q) || (is_same_triple p q && (not p.contract && q.contract)))
    (is_anchor_below q.anchor p.anchor) (is_same_anchor q.anchor p.anchor)
    (is_point_below (triple q) (triple p) || (is_same_triple q p && (not q.contract && p.contract)))
    (anchors_one_way p.anchor q.anchor) (anchor_no_tie p.anchor q.anchor) (tie_no_anchor p.anchor q.anchor)
    (λ e y z. ordered (is_point_below (triple p) (triple q)) (is_same_triple p q) (not p.contract && q.contract) (is_point_below (triple q) (triple p))
    (is_same_triple q p) (not q.contract && p.contract) (points_one_way (triple p) (triple q)) (triple_no_tie p q) (tie_no_triple p q)
    (λ f v w. steps_one_way p.contract q.contract v w) y z) h k

-- ---- lists in an order

module _ {A : Type 0} (R : A → A → Type 0) (one_way : (x y : A) → R x y → R y x → ⊥) where
  tail_ordered : (x : A) (xs : List A) → AllPairs R (x ∷ xs) → AllPairs R xs
  tail_ordered x xs h i j d l m = h (suc i) (suc j) d (omega (arith, l)) (omega (arith, m))

  first_is : (x : A) (xs : List A) (y : A) (ys : List A) → AllPairs R (x ∷ xs) → AllPairs R (y ∷ ys) → Contains (y ∷ ys) x → Contains (x ∷ xs) y → x ≡ y
  first_is x xs y ys h k (zero, l, e) c = sym e
  first_is x xs y ys h k (suc i, l, e) (zero, m, f) = f
  first_is x xs y ys h k (suc i, l, e) (suc j, m, f) =
      absurd (one_way x y (later x xs y h (suc j, m, f) (omega arith)) (later y ys x k (suc i, l, e) (omega arith)))
    where
      at_is : (zs : List A) (i : ℕ) (d z : A) → i < length zs → slice_index_or zs i z ≡ z → slice_index_or zs i d ≡ z
      at_is [] i d z l e = absurd (omega (arith, l))
      at_is (v ∷ zs) zero d z l e = e
      at_is (v ∷ zs) (suc i) d z l e = at_is zs i d z (omega (arith, l)) e

      later : (x : A) (xs : List A) (z : A) → AllPairs R (x ∷ xs) → (c : Contains (x ∷ xs) z) → 0 < c.0 → R x z
      later x xs z h c l = subst (λ (v : A). R x v) (at_is (x ∷ xs) c.0 z z c.1 c.2) (h 0 c.0 z l c.1)

  pub one_order : (xs ys : List A) → AllPairs R xs → AllPairs R ys → ((z : A) → Contains xs z → Contains ys z) → ((z : A) → Contains ys z → Contains xs z) →
      xs ≡ ys
  one_order [] [] h k to from = refl
  one_order [] (y ∷ ys) h k to from = absurd (let c = from y (0, omega arith, refl) in omega (arith, c.1))
  one_order (x ∷ xs) [] h k to from = absurd (let c = to x (0, omega arith, refl) in omega (arith, c.1))
  one_order (x ∷ xs) (y ∷ ys) h k to from =
      let same = first_is x xs y ys h k (to x (0, omega arith, refl)) (from y (0, omega arith, refl)) in
      ap (λ (v : A). v ∷ xs) same ∙ ap (λ (zs : List A). y ∷ zs) (one_order xs ys (tail_ordered x xs h) (tail_ordered y ys k)
      (λ z c. behind z x xs y ys same h (to z (later z x xs c)) c) (λ z c. behind z y ys x xs (sym same) k (from z (later z y ys c)) c))
    where
      later : (z x : A) (xs : List A) → Contains xs z → Contains (x ∷ xs) z
      later z x xs (i, l, e) = (suc i, omega (arith, l), e)

      at_is : (zs : List A) (i : ℕ) (d z : A) → i < length zs → slice_index_or zs i z ≡ z → slice_index_or zs i d ≡ z
      at_is [] i d z l e = absurd (omega (arith, l))
      at_is (v ∷ zs) zero d z l e = e
      at_is (v ∷ zs) (suc i) d z l e = at_is zs i d z (omega (arith, l)) e

      behind : (z x : A) (xs : List A) (y : A) (ys : List A) → x ≡ y → AllPairs R (x ∷ xs) → Contains (y ∷ ys) z → Contains xs z → Contains ys z
      behind z x xs y ys same h (suc i, l, e) c = (i, omega (arith, l), e)
      behind z x xs y ys same h (zero, l, e) (j, m, f) =
          let first : x ≡ z = same ∙ e in
          let r : R x z = subst (λ (v : A). R x v) (at_is (x ∷ xs) (suc j) z z (omega (arith, m)) f) (h 0 (suc j) z (omega arith) (omega (arith, m))) in
          absurd (one_way z z (subst (λ (v : A). R v z) first r) (subst (λ (v : A). R v z) first r))

pub one_numbering : OneFrameNumbering
one_numbering f k xs ys h g =
    one_order (λ (x y : Point). is_frame_point_below x y ≡ true) frame_points_one_way xs ys h.1 g.1 (λ z c. g.0.all z (h.0.only z c))
    (λ z c. h.0.all z (g.0.only z c))
