-- Registers that are loaded, the base last.
use Rattle.std.proofs.Common.{◌≡◌, ℕ, Bool, true, false, refl, ap, sym, ◌∙◌, List, [], ◌∷◌, Option, Some, None, inl, inr}
use Rattle.std.specs.Prelude.{◌==◌, if◌then◌else◌}
use Rattle.std.proofs.lemmas.Bool.{cases_eq, eq-eqb, ne_eqb}
use Rattle.std.proofs.Math.Path.{fun_ext}
use Rattle.word_spec.specs.Words.{add}
use Rattle.word_spec.specs.Memory.{Endian, Memory, load}
use Rattle.word_spec.specs.State.{put}
use Rattle.machine_spec.specs.Arm.{load_all}
use Rattle.arm_lift_blocks.specs.Lifted as lifts
use Rattle.arm_lift_blocks.proofs.Numbers.{next_word}

-- the registers after one that is loaded, unless it is the base or r15
abbrev pub one_put : (is_base is_pc : Bool) → (ℕ → ℕ) → (r x : ℕ) → ℕ → ℕ
one_put true is_pc f r x = f
one_put false true f r x = f
one_put false false f r x = put f r x

-- the words from an address on go to the registers, the base and r15 left out
abbrev pub load_others : Endian → Memory → (a b : ℕ) → List ℕ → (ℕ → ℕ) → ℕ → ℕ
load_others e m a b [] f = f
load_others e m a b (r ∷ rs) f = load_others e m (add 32 a 4) b rs (one_put (r == b) (r == 15) f r (load e 4 m a))

-- a register changed twice
put_twice : (f : ℕ → ℕ) (b x y : ℕ) → put (put f b x) b y ≡ put f b y
put_twice f b x y = fun_ext (λ v. twice (v == b) y x (f v))
  where
    twice : (t : Bool) (y x z : ℕ) → (if t then y else (if t then x else z)) ≡ (if t then y else z)
    twice true y x z = refl
    twice false y x z = refl

-- a register that was changed
put_same : (f : ℕ → ℕ) (b x : ℕ) → put f b x b ≡ x
put_same f b x = let t : (b == b) ≡ true = eq-eqb b b refl in rw t refl

-- two registers changed, in either order
put_swap : (f : ℕ → ℕ) (r b x y : ℕ) → (r == b) ≡ false → put (put f b y) r x ≡ put (put f r x) b y
put_swap f r b x y h = fun_ext (λ v. elim (cases_eq v r) [
  | inl is ↦ (let t = eq-eqb v r is in let u : (v == b) ≡ false = ap (λ z. z == b) is ∙ h in rw (t, u) refl)
  | inr ne ↦ (let t = ne_eqb v r ne in rw t refl)
])

-- a register that keeps its value
pub put_kept : (f : ℕ → ℕ) (b x : ℕ) → f b ≡ x → f ≡ put f b x
put_kept f b x h = fun_ext (λ v. elim (cases_eq v b) [
  | inl is ↦ (let t = eq-eqb v b is in rw t (ap f is ∙ h))
  | inr ne ↦ (let t = ne_eqb v b ne in rw t refl)
])

base_put : (p q : Bool) (f : ℕ → ℕ) (r b x y : ℕ) → (r == b) ≡ p → one_put p q (put f b y) r x ≡ put (one_put p q f r x) b y
base_put true q f r b x y h = refl
base_put false true f r b x y h = refl
base_put false false f r b x y h = put_swap f r b x y h

-- the base may be changed before
pub base_first : (e : Endian) (m : Memory) (a b y : ℕ) (rs : List ℕ) (f : ℕ → ℕ) → load_others e m a b rs (put f b y) ≡ put (load_others e m a b rs f) b y
base_first e m a b y [] f = refl
base_first e m a b y (r ∷ rs) f =
    ap (load_others e m (add 32 a 4) b rs) (base_put (r == b) (r == 15) f r b (load e 4 m a) y refl)
    ∙ base_first e m (add 32 a 4) b y rs (one_put (r == b) (r == 15) f r (load e 4 m a))

pub one_kept : (p q : Bool) (f : ℕ → ℕ) (r b x : ℕ) → (r == b) ≡ p → one_put p q f r x b ≡ f b
one_kept true q f r b x h = refl
one_kept false true f r b x h = refl
one_kept false false f r b x h = elim (cases_eq b r) [
  | inl is ↦ (let t : (r == b) ≡ true = eq-eqb r b (sym is) in cc)
  | inr ne ↦ (let t = ne_eqb b r ne in rw t refl)
]

-- the base keeps its value
pub base_kept : (e : Endian) (m : Memory) (a b : ℕ) (rs : List ℕ) (f : ℕ → ℕ) → load_others e m a b rs f b ≡ f b
base_kept e m a b [] f = refl
base_kept e m a b (r ∷ rs) f =
    base_kept e m (add 32 a 4) b rs (one_put (r == b) (r == 15) f r (load e 4 m a)) ∙ one_kept (r == b) (r == 15) f r b (load e 4 m a) refl

-- what the base comes to have
abbrev pub base_of : Endian → Memory → (a b : ℕ) → List ℕ → ℕ → ℕ
base_of e m a b [] v = v
base_of e m a b (r ∷ rs) v = base_of e m (add 32 a 4) b rs (if r == b then load e 4 m a else v)

-- one register of all: the others, and the base
one_of_all : (p q : Bool) (f : ℕ → ℕ) (r b x : ℕ) → (r == b) ≡ p → (r == 15) ≡ q → (b == 15) ≡ false →
    (if q then f else put f r x) ≡ put (one_put p q f r x) b (if p then x else f b)
one_of_all true true f r b x h k n = elim (cases_eq r b) [
  | inl is ↦ (let t : (b == 15) ≡ true = ap (λ z. z == 15) (sym is) ∙ k in cc)
  | inr ne ↦ (let t = ne_eqb r b ne in cc)
]
one_of_all true false f r b x h k n = elim (cases_eq r b) [
  | inl is ↦ ap (λ z. put f z x) is
  | inr ne ↦ (let t = ne_eqb r b ne in cc)
]
one_of_all false true f r b x h k n = put_kept f b (f b) refl
one_of_all false false f r b x h k n = put_kept (put f r x) b (f b) (one_kept false false f r b x h)

-- all registers: the others, and then the base
pub all_loaded : (e : Endian) (m : Memory) (a b : ℕ) (rs : List ℕ) (f : ℕ → ℕ) → (b == 15) ≡ false →
    load_all e m a rs f ≡ put (load_others e m a b rs f) b (base_of e m a b rs (f b))
all_loaded e m a b [] f n = put_kept f b (f b) refl
all_loaded e m a b (r ∷ rs) f n =
    let x : ℕ = load e 4 m a in
    let g : ℕ → ℕ = one_put (r == b) (r == 15) f r x in
    let y : ℕ = if r == b then x else f b in
    ap (load_all e m (add 32 a 4) rs) (one_of_all (r == b) (r == 15) f r b x refl refl n)
    ∙ all_loaded e m (add 32 a 4) b rs (put g b y) n
    ∙ ap (λ h. put h b (base_of e m (add 32 a 4) b rs (put g b y b))) (base_first e m (add 32 a 4) b y rs g)
    ∙ put_twice (load_others e m (add 32 a 4) b rs g) b y (base_of e m (add 32 a 4) b rs (put g b y b))
    ∙ ap (λ z. put (load_others e m (add 32 a 4) b rs g) b (base_of e m (add 32 a 4) b rs z)) (put_same g b y)

-- all registers, where the base was changed before
pub all_written : (e : Endian) (m : Memory) (a b y : ℕ) (rs : List ℕ) (f : ℕ → ℕ) → (b == 15) ≡ false →
    load_all e m a rs (put f b y) ≡ put (load_others e m a b rs f) b (base_of e m a b rs y)
all_written e m a b y rs f n =
    all_loaded e m a b rs (put f b y) n
    ∙ ap (λ h. put h b (base_of e m a b rs (put f b y b))) (base_first e m a b y rs f)
    ∙ put_twice (load_others e m a b rs f) b y (base_of e m a b rs (put f b y b))
    ∙ ap (λ z. put (load_others e m a b rs f) b (base_of e m a b rs z)) (put_same f b y)

-- the value at a place, or else another
abbrev pub value_at : Endian → Memory → (start v : ℕ) → Option ℕ → ℕ
value_at e m a v None = v
value_at e m a v (Some d) = load e 4 m (add 32 a d)

at_place : (p : Bool) (e : Endian) (m : Memory) (a v d : ℕ) (found : Option ℕ) →
    (if p then load e 4 m (add 32 a d) else value_at e m a v found) ≡ value_at e m a v (if p then Some d else found)
at_place true e m a v d found = refl
at_place false e m a v d found = refl

-- what the base comes to have is at its place
pub base_placed : (e : Endian) (m : Memory) (a v b d : ℕ) (rs : List ℕ) (found : Option ℕ) →
    base_of e m (add 32 a d) b rs (value_at e m a v found) ≡ value_at e m a v (lifts.place_of b d rs found)
base_placed e m a v b d [] found = refl
base_placed e m a v b d (r ∷ rs) found =
    ap (base_of e m (add 32 (add 32 a d) 4) b rs) (at_place (r == b) e m a v d found)
    ∙ ap (λ x. base_of e m x b rs (value_at e m a v (if r == b then Some d else found))) (next_word a d)
    ∙ base_placed e m a v b (add 32 d 4) rs (if r == b then Some d else found)
