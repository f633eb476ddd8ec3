-- Points are compared as their keys, and stacks from the bottom.
use Rattle.std.proofs.Common.{◌≡◌, ℕ, suc, refl, ap, sym, ◌∙◌, arith, Bool, true, false, List, [], ◌∷◌, length}
use Rattle.std.specs.Cmp.Lexicographic.{slice_cmp}
use Rattle.std.specs.Ordering.{bool_cmp, nat_cmp, ordering_then}
use Rattle.std.specs.declared.cmp.Ordering.{Ordering}
use Rattle.std.specs.declared.cmp.Ordering.TheVariants.{Less, Equal, Greater}
use Rattle.std.proofs.lemmas.Bool.Decides.{nat_tests}
use Rattle.std.proofs.lemmas.Cmp.{nat_list_cmp_total, tied_itself}
use Rattle.word_spec.specs.Words.{bit}
use Rattle.frame_spec.specs.FramePoints.{Anchor, AtEntry, AtHead, Point}
use Rattle.smtlib_print.specs.Orders.{anchor_key, anchor_order, from_bottom, point_order, spot_key, spot_order, stack_order}

then_equal : (x : Ordering) → ordering_then x Equal ≡ x
then_equal Less = refl
then_equal Equal = refl
then_equal Greater = refl

then_then : (x y z : Ordering) → ordering_then (ordering_then x y) z ≡ ordering_then x (ordering_then y z)
then_then Less y z = refl
then_then Equal y z = refl
then_then Greater y z = refl

-- stacks that have as many addresses are compared first, and then what stands behind
pub bottom_then : (s t u v : List ℕ) → length s ≡ length t →
    slice_cmp nat_cmp (from_bottom s u) (from_bottom t v) ≡ ordering_then (stack_order s t) (slice_cmp nat_cmp u v)
bottom_then [] [] u v h = refl
bottom_then [] (b ∷ t) u v h = absurd (omega (arith, h))
bottom_then (a ∷ s) [] u v h = absurd (omega (arith, h))
bottom_then (a ∷ s) (b ∷ t) u v h =
    let l : length s ≡ length t = omega (arith, h) in
    bottom_then s t (a ∷ u) (b ∷ v) l
    ∙ ap (λ x. ordering_then (stack_order s t) (ordering_then x (slice_cmp nat_cmp u v))) (sym (then_equal (nat_cmp a b)))
    ∙ sym (then_then (stack_order s t) (ordering_then (nat_cmp a b) Equal) (slice_cmp nat_cmp u v))
    ∙ ap (λ x. ordering_then x (slice_cmp nat_cmp u v)) (sym (bottom_then s t (a ∷ []) (b ∷ []) l))

pub stack_itself : (s : List ℕ) → stack_order s s ≡ Equal
stack_itself s = tied_itself nat_list_cmp_total (from_bottom s [])

-- the tops decide behind what is below
pub tops_then : (s t : List ℕ) (a b : ℕ) (o : Ordering) → length s ≡ length t →
    ordering_then (stack_order (a ∷ s) (b ∷ t)) o ≡ ordering_then (stack_order s t) (ordering_then (nat_cmp a b) o)
tops_then s t a b o h =
    ap (λ x. ordering_then x o) (bottom_then s t (a ∷ []) (b ∷ []) h)
    ∙ then_then (stack_order s t) (ordering_then (nat_cmp a b) Equal) o
    ∙ ap (λ x. ordering_then (stack_order s t) (ordering_then x o)) (then_equal (nat_cmp a b))

-- two stacks with an address each are compared first, and then what follows
spot_by : (s : List ℕ) (a : ℕ) (t : List ℕ) (b : ℕ) (u v : List ℕ) (o : Ordering) → nat_cmp (length s) (length t) ≡ o →
    slice_cmp nat_cmp (spot_key s a u) (spot_key t b v) ≡ ordering_then (spot_order s a t b) (slice_cmp nat_cmp u v)
spot_by s a t b u v Less e = rw e refl
spot_by s a t b u v Greater e = rw e refl
spot_by s a t b u v Equal e =
    let same : length s ≡ length t = grind (arith, nat_tests) in
    rw e
    (bottom_then s t (a ∷ u) (b ∷ v) same
    ∙ ap (λ x. ordering_then (stack_order s t) (ordering_then x (slice_cmp nat_cmp u v))) (sym (then_equal (nat_cmp a b)))
    ∙ sym (then_then (stack_order s t) (ordering_then (nat_cmp a b) Equal) (slice_cmp nat_cmp u v))
    ∙ ap (λ x. ordering_then x (slice_cmp nat_cmp u v)) (sym (bottom_then s t (a ∷ []) (b ∷ []) same)))

pub spot_then : (s : List ℕ) (a : ℕ) (t : List ℕ) (b : ℕ) (u v : List ℕ) →
    slice_cmp nat_cmp (spot_key s a u) (spot_key t b v) ≡ ordering_then (spot_order s a t b) (slice_cmp nat_cmp u v)
spot_then s a t b u v = spot_by s a t b u v (nat_cmp (length s) (length t)) refl

-- so are anchors
pub anchor_then : (x y : Anchor) (u v : List ℕ) →
    slice_cmp nat_cmp (anchor_key x u) (anchor_key y v) ≡ ordering_then (anchor_order x y) (slice_cmp nat_cmp u v)
anchor_then AtEntry AtEntry u v = refl
anchor_then AtEntry (AtHead t b) u v = refl
anchor_then (AtHead s a) AtEntry u v = refl
anchor_then (AtHead s a) (AtHead t b) u v = spot_then s a t b u v

-- where one of two points has a contract step, it comes behind
contracts_compared : (b c : Bool) → slice_cmp nat_cmp (bit b ∷ []) (bit c ∷ []) ≡ bool_cmp b c
contracts_compared false false = refl
contracts_compared false true = refl
contracts_compared true false = refl
contracts_compared true true = refl

-- the order of where two points stand and of their contract steps
abbrev pub place_order : Point → Point → Ordering
place_order x y = ordering_then (spot_order x.stack x.at y.stack y.at) (bool_cmp x.contract y.contract)

-- and points by their anchors, then by their backward transfers, and then by where they stand
pub points_then : (x y : Point) →
    point_order x y ≡ ordering_then (ordering_then (anchor_order x.anchor y.anchor) (nat_cmp x.turns y.turns)) (place_order x y)
points_then x y =
    anchor_then x.anchor y.anchor (x.turns ∷ spot_key x.stack x.at (bit x.contract ∷ [])) (y.turns ∷ spot_key y.stack y.at (bit y.contract ∷ []))
    ∙ ap (λ z. ordering_then (anchor_order x.anchor y.anchor) (ordering_then (nat_cmp x.turns y.turns) z))
    (spot_then x.stack x.at y.stack y.at (bit x.contract ∷ []) (bit y.contract ∷ [])
    ∙ ap (λ z. ordering_then (spot_order x.stack x.at y.stack y.at) z) (contracts_compared x.contract y.contract))
    ∙ sym (then_then (anchor_order x.anchor y.anchor) (nat_cmp x.turns y.turns) (place_order x y))

-- where stacks have as many addresses, they and the addresses decide
pub stacks_decide : (s : List ℕ) (a : ℕ) (t : List ℕ) (b : ℕ) → nat_cmp (length s) (length t) ≡ Equal →
    ordering_then (stack_order s t) (nat_cmp a b) ≡ spot_order s a t b
stacks_decide s a t b e =
    let same : length s ≡ length t = grind (arith, nat_tests) in
    rw e
    (ap (λ z. ordering_then (stack_order s t) z) (sym (then_equal (nat_cmp a b))) ∙ sym (bottom_then s t (a ∷ []) (b ∷ []) same))

-- the depths of stacks are compared as their lengths
pub depths_compared : (m n x y : ℕ) → m ≡ x → n ≡ y → nat_cmp m n ≡ nat_cmp x y
depths_compared m n x y e f = ap (λ z. nat_cmp z n) e ∙ ap (nat_cmp x) f

-- and else their lengths do
pub lengths_decide : (s : List ℕ) (a : ℕ) (t : List ℕ) (b : ℕ) (o : Ordering) → nat_cmp (length s) (length t) ≡ o → (o ≡ Equal → ⊥) → o ≡ spot_order s a t b
lengths_decide s a t b Less e other = rw e refl
lengths_decide s a t b Equal e other = absurd (other refl)
lengths_decide s a t b Greater e other = rw e refl

-- the order of anchors and then of backward transfers
both_orders : (x y : Point) (o anchors turns : Ordering) → o ≡ ordering_then anchors turns → anchors ≡ anchor_order x.anchor y.anchor →
    turns ≡ nat_cmp x.turns y.turns → o ≡ ordering_then (anchor_order x.anchor y.anchor) (nat_cmp x.turns y.turns)
both_orders x y o anchors turns e f g =
    e ∙ ap (λ z. ordering_then z turns) f ∙ ap (λ z. ordering_then (anchor_order x.anchor y.anchor) z) g

-- where neither anchors nor backward transfers decide, what follows does
pub points_decide : (x y : Point) (o anchors turns place : Ordering) → o ≡ ordering_then anchors turns → anchors ≡ anchor_order x.anchor y.anchor →
    turns ≡ nat_cmp x.turns y.turns → o ≡ Equal → place ≡ place_order x y → place ≡ point_order x y
points_decide x y o anchors turns place e f g is h =
    h ∙ sym (points_then x y ∙ ap (λ z. ordering_then z (place_order x y)) (sym (both_orders x y o anchors turns e f g) ∙ is))

decided : (o all : Ordering) → (o ≡ Equal → ⊥) → o ≡ ordering_then o all
decided Less all other = refl
decided Equal all other = absurd (other refl)
decided Greater all other = refl

-- and else they do
pub points_settle : (x y : Point) (o anchors turns : Ordering) → o ≡ ordering_then anchors turns → anchors ≡ anchor_order x.anchor y.anchor →
    turns ≡ nat_cmp x.turns y.turns → (o ≡ Equal → ⊥) → o ≡ point_order x y
points_settle x y o anchors turns e f g other =
    decided o (place_order x y) other
    ∙ ap (λ z. ordering_then z (place_order x y)) (both_orders x y o anchors turns e f g) ∙ sym (points_then x y)

-- stacks and addresses, each as another
pub spots_are : (s s' : List ℕ) (a a' : ℕ) (t t' : List ℕ) (b b' : ℕ) → s ≡ s' → a ≡ a' → t ≡ t' → b ≡ b' → spot_order s a t b ≡ spot_order s' a' t' b'
spots_are s s' a a' t t' b b' e f g h =
    ap (λ z. spot_order z a t b) e ∙ ap (λ z. spot_order s' z t b) f ∙ ap (λ z. spot_order s' a' z b) g ∙ ap (λ z. spot_order s' a' t' z) h

pub then_nothing : (x : Ordering) → ordering_then x Equal ≡ x
then_nothing x = then_equal x

pub bare : (s t : List ℕ) → t ≡ [] → length s ≡ length t → s ≡ []
bare [] t e h = refl
bare (a ∷ s) t e h = absurd (let z : length t ≡ 0 = ap length e in omega (arith, h, z))

-- where one of two stacks that have as many addresses has none, what was found is the order
pub both_bare : (s t : List ℕ) (o all : Ordering) → s ≡ [] → length s ≡ length t → ordering_then (stack_order s t) o ≡ all → o ≡ all
both_bare s t o all e h is =
    let f : t ≡ [] = bare t s e (sym h) in
    sym (ap (λ x. ordering_then (stack_order x t) o) e ∙ ap (λ x. ordering_then (stack_order [] x) o) f) ∙ is

-- the same where they are one stack
pub one_stack : (s t : List ℕ) (o all : Ordering) → s ≡ t → ordering_then (stack_order s t) o ≡ all → o ≡ all
one_stack s t o all e is = sym (ap (λ x. ordering_then (stack_order x t) o) e ∙ ap (λ x. ordering_then x o) (stack_itself t)) ∙ is

-- the tops of two stacks are compared, and then what is below them
pub tops_meet : (s t below under : List ℕ) (a b : ℕ) (o all : Ordering) → s ≡ a ∷ below → t ≡ b ∷ under → length s ≡ length t →
    ordering_then (stack_order s t) o ≡ all →
    (length below ≡ length under) × (ordering_then (stack_order below under) (ordering_then (nat_cmp a b) o) ≡ all)
tops_meet s t below under a b o all e f h is =
    let x : length s ≡ suc (length below) = ap length e in
    let y : length t ≡ suc (length under) = ap length f in
    let same : length below ≡ length under = omega (arith, x, y, h) in (
      same,
      sym (ap (λ z. ordering_then (stack_order z t) o) e ∙ ap (λ z. ordering_then (stack_order (a ∷ below) z) o) f
          ∙ tops_then below under a b o same) ∙ is,
    )
