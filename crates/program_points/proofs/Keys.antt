-- The orders of keys: two keys are tied where they are the same.
use Rattle.std.proofs.Common.{◌≡◌, ℕ, refl, ap, sym, ◌∙◌, arith, Bool, true, false, Option, Some, None}
use Rattle.std.specs.Prelude.{◌&&◌}
use Rattle.std.specs.Ordering.{nat_cmp, bool_cmp, ordering_then, is_eq}
use Rattle.std.specs.Option.{option_cmp}
use Rattle.std.specs.declared.cmp.Ordering.{Ordering}
use Rattle.std.specs.declared.cmp.Ordering.TheVariants.{Less, Equal, Greater}
use Rattle.std.proofs.lemmas.Bool.Decides.{nat_tests}
use Rattle.program_points.specs.declared.values.FramePoint.{FramePoint}
use Rattle.program_points.specs.declared.values.Root.{Root}
use Rattle.program_points.specs.Tables.{pair_cmp, Key, key_cmp, key_of, root_key}

and_both : (a b : Bool) → (a && b) ≡ true → (a ≡ true) × (b ≡ true)
and_both true b h = (refl, h)
and_both false b h = absurd (cc)

then_eq : (x y : Ordering) → is_eq (ordering_then x y) ≡ (is_eq x && is_eq y)
then_eq Less y = refl
then_eq Equal y = refl
then_eq Greater y = refl

tied : (a b : ℕ) → is_eq (nat_cmp a b) ≡ true → a ≡ b
tied a b h = grind (arith, nat_tests)

itself : (a : ℕ) → is_eq (nat_cmp a a) ≡ true
itself a = grind (arith, nat_tests)

pub pair_tied : (a b c d : ℕ) → is_eq (pair_cmp (a, b) (c, d)) ≡ true → (a ≡ c) × (b ≡ d)
pair_tied a b c d h =
    let q = and_both (is_eq (nat_cmp a c)) (is_eq (nat_cmp b d)) (sym (then_eq (nat_cmp a c) (nat_cmp b d)) ∙ h) in
    (tied a c q.0, tied b d q.1)

pub pair_itself : (a b : ℕ) → is_eq (pair_cmp (a, b) (a, b)) ≡ true
pair_itself a b = then_eq (nat_cmp a a) (nat_cmp b b) ∙ ap (λ t. t && is_eq (nat_cmp b b)) (itself a) ∙ itself b

bools_tied : (a b : Bool) → is_eq (bool_cmp a b) ≡ true → a ≡ b
bools_tied false false h = refl
bools_tied true true h = refl
bools_tied false true h = absurd (cc)
bools_tied true false h = absurd (cc)

bool_itself : (a : Bool) → is_eq (bool_cmp a a) ≡ true
bool_itself false = refl
bool_itself true = refl

options_tied : (a b : Option (ℕ × ℕ)) → is_eq (option_cmp pair_cmp a b) ≡ true → a ≡ b
options_tied None None h = refl
options_tied None (Some y) h = absurd (cc)
options_tied (Some x) None h = absurd (cc)
options_tied (Some (a, b)) (Some (c, d)) h = (let q = pair_tied a b c d h in ap (λ z. Some (z, b)) q.0 ∙ ap (λ z. Some (c, z)) q.1)

option_itself : (a : Option (ℕ × ℕ)) → is_eq (option_cmp pair_cmp a a) ≡ true
option_itself None = refl
option_itself (Some (a, b)) = pair_itself a b

then_both : (x y : Ordering) → is_eq (ordering_then x y) ≡ true → (is_eq x ≡ true) × (is_eq y ≡ true)
then_both x y h = and_both (is_eq x) (is_eq y) (sym (then_eq x y) ∙ h)

both_then : (x y : Ordering) → is_eq x ≡ true → is_eq y ≡ true → is_eq (ordering_then x y) ≡ true
both_then x y g h = then_eq x y ∙ ap (λ t. t && is_eq y) g ∙ h

-- two keys
record IsSame (x y : Key) : Type 0 where
  pub turns : x.0 ≡ y.0
  pub stack : x.1 ≡ y.1
  pub at : x.2 ≡ y.2
  pub contract : x.3 ≡ y.3
  pub root : x.4 ≡ y.4

keys_tied : (x y : Key) → is_eq (key_cmp x y) ≡ true → IsSame x y
keys_tied x y h =
    let turns = nat_cmp x.0 y.0 in
    let stacks = ordering_then turns (nat_cmp x.1 y.1) in
    let places = ordering_then stacks (nat_cmp x.2 y.2) in
    let deeds = ordering_then places (bool_cmp x.3 y.3) in
    let r = then_both deeds (option_cmp pair_cmp x.4 y.4) h in
    let c = then_both places (bool_cmp x.3 y.3) r.0 in
    let a = then_both stacks (nat_cmp x.2 y.2) c.0 in
    let s = then_both turns (nat_cmp x.1 y.1) a.0 in
    record {
      turns = tied x.0 y.0 s.0;
      stack = tied x.1 y.1 s.1;
      at = tied x.2 y.2 a.1;
      contract = bools_tied x.3 y.3 c.1;
      root = options_tied x.4 y.4 r.1;
    }

pub key_itself : (x : Key) → is_eq (key_cmp x x) ≡ true
key_itself x =
    let turns = nat_cmp x.0 x.0 in
    let stacks = ordering_then turns (nat_cmp x.1 x.1) in
    let places = ordering_then stacks (nat_cmp x.2 x.2) in
    let deeds = ordering_then places (bool_cmp x.3 x.3) in
    both_then deeds (option_cmp pair_cmp x.4 x.4) (both_then places (bool_cmp x.3 x.3) (both_then stacks (nat_cmp x.2 x.2)
    (both_then turns (nat_cmp x.1 x.1) (itself x.0) (itself x.1)) (itself x.2)) (bool_itself x.3)) (option_itself x.4)

some_same : (x y : ℕ × ℕ) → Some x ≡ Some y → x ≡ y
some_same x y e = (cc)

same_root : (x y : Option Root) → root_key x ≡ root_key y → x ≡ y
same_root None None e = refl
same_root None (Some y) e = absurd (cc)
same_root (Some x) None e = absurd (cc)
same_root (Some x) (Some y) e =
    let p = some_same (x.stack, x.at) (y.stack, y.at) e in
    ap (λ z. Some (record { stack = z; at = x.at })) (ap (λ (z : ℕ × ℕ). z.0) p)
    ∙ ap (λ z. Some (record { stack = y.stack; at = z })) (ap (λ (z : ℕ × ℕ). z.1) p)

pub same_point : (x y : FramePoint) → x.root ≡ y.root → x.turns ≡ y.turns → x.contract ≡ y.contract → x.stack ≡ y.stack → x.at ≡ y.at → x ≡ y
same_point x y r t c s a =
    ap (λ z. record { root = z; turns = x.turns; contract = x.contract; stack = x.stack; at = x.at }) r
    ∙ ap (λ z. record { root = y.root; turns = z; contract = x.contract; stack = x.stack; at = x.at }) t
    ∙ ap (λ z. record { root = y.root; turns = y.turns; contract = z; stack = x.stack; at = x.at }) c
    ∙ ap (λ z. record { root = y.root; turns = y.turns; contract = y.contract; stack = z; at = x.at }) s
    ∙ ap (λ z. record { root = y.root; turns = y.turns; contract = y.contract; stack = y.stack; at = z }) a

-- points whose keys are tied are the same
pub tied_points : (x y : FramePoint) → is_eq (key_cmp (key_of x) (key_of y)) ≡ true → x ≡ y
tied_points x y h =
    let k = keys_tied (key_of x) (key_of y) h in same_point x y (same_root x.root y.root k.root) k.turns k.contract k.stack k.at
