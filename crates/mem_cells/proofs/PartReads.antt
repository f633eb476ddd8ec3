-- Which parts are read at which addresses, and the reads in their order.
use Rattle.std.proofs.Common.{◌≡◌, ◌⊎◌, inl, inr, ℕ, zero, suc, ◌+◌, ◌-◌, ◌*◌, ◌<◌, ◌≤◌, Bool, true, false, List, [], ◌∷◌, ◌++◌, Some, length, length-append, append_assoc, drop, get_or, take, refl, ap, sym, ◌∙◌, subst, arith}
use Rattle.std.specs.Prelude.{◌||◌, ◌==◌, cond, filter, if◌then◌else◌, map, nat_eq, nat_lt, replicate, slice_get, slice_index_or, slice_set, sum_by, Contains}
use Rattle.std.specs.List.{list_any}
use Rattle.std.specs.Global.{Vec}
use Rattle.std.proofs.lemmas.Bool.{cases_lt}
use Rattle.std.proofs.lemmas.Bool.Decides.{nat_tests}
use Rattle.std.proofs.lemmas.List.{drop_more, get_or_default, take-append-drop, take_more}
use Rattle.std.proofs.lemmas.List.Sums.{sum_by-append}
use Rattle.std.proofs.lemmas.List.Elements.{Contains-append_left, Contains-append_right, Contains-append_cases}
use Rattle.word_spec.specs.RowFiles.{from_to}
use Rattle.term_spec.specs.Terms.{TermNode, RegisterNode, FlagNode, ChoiceNode, BaseNode, MemoryNode, ConstantNode, BinaryNode, NotNode, SelectNode, ExtractNode, ConcatNode, ExtendNode, LoadNode, StoreNode, JoinNode, TakeNode, node_at}
use Rattle.frame_spec.specs.FrameWalk.{UnrolledPoint, UnrolledProgram, no_point}
use Rattle.frame_laws.specs.FramePrices.{stores_of}
use Rattle.frame_terms.specs.PassiveFrames.{NamesMemory}
use Rattle.frame_terms.specs.HeadlessTerms.{as_read}
use Rattle.mem_cells.specs.declared.building.Build.{Build}
use Rattle.mem_cells.specs.declared.cells.BaseRead.{BaseRead}
use Rattle.mem_cells.specs.Building.{IsBuilt}
use Rattle.mem_cells.specs.FrameViews.{read_of}
use Rattle.mem_cells.specs.Parts.{CountsGifts, Rise, and_part, has_part, is_read, lists_of, noted, one_if, parts_at, read_at, reads_at, reads_from, with_read, AreParts}
use Rattle.mem_cells.proofs.Growing.{node_in, mapped_length}

or_cases : (a b : Bool) → (a || b) ≡ true → a ≡ true ⊎ (b ≡ true)
or_cases true b h = inl refl
or_cases false b h = inr h

or_left : (a b : Bool) → a ≡ true → (a || b) ≡ true
or_left true b h = refl
or_left false b h = absurd (cc)

or_right : (a b : Bool) → b ≡ true → (a || b) ≡ true
or_right true b h = refl
or_right false b h = h

is_equal : (a b : ℕ) → nat_eq a b ≡ true → a ≡ b
is_equal a b h = grind (arith, nat_tests)

equal_is : (a b : ℕ) → a ≡ b → nat_eq a b ≡ true
equal_is a b h = grind (arith, nat_tests)

is_less : (a b : ℕ) → nat_lt a b ≡ true → a < b
is_less a b h = grind (arith, nat_tests)

is_greater : (a b : ℕ) → nat_lt a b ≡ false → nat_eq a b ≡ false → b < a
is_greater a b h k = grind (arith, nat_tests)

equal_back : (x y : ℕ) → (y == x) ≡ nat_eq x y
equal_back x y = grind (arith, nat_tests)

-- a list has a number
pub among : (x : ℕ) (xs : List ℕ) → list_any (λ y. y == x) xs ≡ list_any (nat_eq x) xs
among x [] = refl
among x (y ∷ xs) = ap (λ b. b || list_any (λ z. z == x) xs) (equal_back x y) ∙ ap (λ b. nat_eq x y || b) (among x xs)

-- where a part goes in some that rise
put_in : (P : List ℕ → Type 0) (q : ℕ) (qs : List ℕ) (p : ℕ) → (p < q → P (p ∷ q ∷ qs)) → (p ≡ q → P (q ∷ qs)) → (q < p → P (q ∷ and_part qs p)) →
    P (and_part (q ∷ qs) p)
put_in P q qs p f g h = by (nat_lt p q) (nat_eq p q) refl refl
  where
    by : (a b : Bool) → nat_lt p q ≡ a → nat_eq p q ≡ b → P (if a then p ∷ q ∷ qs else (if b then q ∷ qs else q ∷ and_part qs p))
    by true b e k = f (is_less p q e)
    by false true e k = g (is_equal p q k)
    by false false e k = h (is_greater p q e k)

-- one part more
pub part_more : (r : List ℕ) (p x : ℕ) → has_part r x ≡ true → has_part (and_part r p) x ≡ true
part_more [] p x h = absurd (cc)
part_more (q ∷ qs) p x h =
    put_in (λ z. has_part z x ≡ true) q qs p (λ l. or_right (nat_eq x p) (has_part (q ∷ qs) x) h) (λ e. h)
    (λ l. elim (or_cases (nat_eq x q) (has_part qs x) h) [
      | inl k ↦ or_left (nat_eq x q) (has_part (and_part qs p) x) k
      | inr k ↦ or_right (nat_eq x q) (has_part (and_part qs p) x) (part_more qs p x k)
    ])

pub part_only : (r : List ℕ) (p x : ℕ) → has_part (and_part r p) x ≡ true → has_part r x ≡ true ⊎ (x ≡ p)
part_only [] p x h = elim (or_cases (nat_eq x p) false h) [ inl k ↦ inr (is_equal x p k) | inr k ↦ absurd (cc) ]
part_only (q ∷ qs) p x h =
    (put_in (λ z. has_part z x ≡ true → has_part (q ∷ qs) x ≡ true ⊎ (x ≡ p)) q qs p
    (λ l k. elim (or_cases (nat_eq x p) (has_part (q ∷ qs) x) k) [ inl m ↦ inr (is_equal x p m) | inr m ↦ inl m ])
    (λ e k. inl k)
    (λ l k. elim (or_cases (nat_eq x q) (has_part (and_part qs p) x) k) [
      | inl m ↦ inl (or_left (nat_eq x q) (has_part qs x) m)
      | inr m ↦ elim (part_only qs p x m) [ inl o ↦ inl (or_right (nat_eq x q) (has_part qs x) o) | inr o ↦ inr o ]
    ])) h

pub part_here : (r : List ℕ) (p : ℕ) → has_part (and_part r p) p ≡ true
part_here [] p = or_left (nat_eq p p) false (equal_is p p refl)
part_here (q ∷ qs) p =
    put_in (λ z. has_part z p ≡ true) q qs p (λ l. or_left (nat_eq p p) (has_part (q ∷ qs) p) (equal_is p p refl))
    (λ e. or_left (nat_eq p q) (has_part qs p) (equal_is p q e))
    (λ l. or_right (nat_eq p q) (has_part (and_part qs p) p) (part_here qs p))

pub part_rise : (n : ℕ) (r : List ℕ) (p : ℕ) → n ≤ p → Rise n r → Rise n (and_part r p)
part_rise n [] p l h = (l, tt)
part_rise n (q ∷ qs) p l h =
    put_in (Rise n) q qs p (λ k. (l, (omega (arith, k), h.1))) (λ e. h) (λ k. (h.0, part_rise (q + 1) qs p (omega (arith, k)) h.1))

-- each is at least the least
rise_least : (n : ℕ) (r : List ℕ) (x : ℕ) → Rise n r → has_part r x ≡ true → n ≤ x
rise_least n [] x h k = absurd (cc)
rise_least n (p ∷ ps) x h k = elim (or_cases (nat_eq x p) (has_part ps x) k) [
  | inl e ↦ (let q = is_equal x p e in omega (arith, q, h.0))
  | inr e ↦ (let q = rise_least (p + 1) ps x h.1 e in omega (arith, q, h.0))
]

-- a part is one of a list
pub part_in : (r : List ℕ) (p : ℕ) → has_part r p ≡ true → Contains r p
part_in [] p h = absurd (cc)
part_in (q ∷ qs) p h = elim (or_cases (nat_eq p q) (has_part qs p) h) [
  | inl e ↦ (0, omega arith, sym (is_equal p q e))
  | inr e ↦ (let k = part_in qs p e in (suc k.0, omega (arith, k.1), k.2))
]

pub read_more : (parts : List (List ℕ)) (p j q i : ℕ) → is_read parts q i ≡ true → is_read (with_read parts p j) q i ≡ true
read_more [] p j q i h = h
read_more (r ∷ rs) p zero q zero h = part_more r p q h
read_more (r ∷ rs) p zero q (suc i) h = h
read_more (r ∷ rs) p (suc j) q zero h = h
read_more (r ∷ rs) p (suc j) q (suc i) h = read_more rs p j q i h

pub read_only : (parts : List (List ℕ)) (p j q i : ℕ) → is_read (with_read parts p j) q i ≡ true → is_read parts q i ≡ true ⊎ (q ≡ p) × (i ≡ j)
read_only [] p j q i h = inl h
read_only (r ∷ rs) p zero q zero h = elim (part_only r p q h) [ inl k ↦ inl k | inr k ↦ inr (k, refl) ]
read_only (r ∷ rs) p zero q (suc i) h = inl h
read_only (r ∷ rs) p (suc j) q zero h = inl h
read_only (r ∷ rs) p (suc j) q (suc i) h = elim (read_only rs p j q i h) [ inl k ↦ inl k | inr k ↦ inr (k.0, ap suc k.1) ]

pub read_here : (parts : List (List ℕ)) (p j : ℕ) → j < length parts → is_read (with_read parts p j) p j ≡ true
read_here [] p j k = absurd (omega arith)
read_here (r ∷ rs) p zero k = part_here r p
read_here (r ∷ rs) p (suc j) k = read_here rs p j (omega arith)

read_rise : (parts : List (List ℕ)) (p j i : ℕ) → ((k : ℕ) → Rise 0 (parts_at parts k)) → Rise 0 (parts_at (with_read parts p j) i)
read_rise [] p j i h = tt
read_rise (r ∷ rs) p zero zero h = part_rise 0 r p (omega arith) (h 0)
read_rise (r ∷ rs) p zero (suc i) h = h (suc i)
read_rise (r ∷ rs) p (suc j) zero h = h 0
read_rise (r ∷ rs) p (suc j) (suc i) h = read_rise rs p j i (λ k. h (suc k))

-- as a list that is written
pub set_is : (parts : List (Vec ℕ)) (p j : ℕ) (z d : Vec ℕ) → j < length parts → z.items ≡ and_part (slice_index_or parts j d).items p →
    lists_of (slice_set parts j z) ≡ with_read (lists_of parts) p j
set_is [] p j z d l e = absurd (omega arith)
set_is (r ∷ rs) p zero z d l e = ap (λ k. k ∷ lists_of rs) e
set_is (r ∷ rs) p (suc j) z d l e = ap (λ k. r.items ∷ k) (set_is rs p j z d (omega arith) e)

pub set_none : (parts : List (Vec ℕ)) (p j : ℕ) → length parts ≤ j → lists_of parts ≡ with_read (lists_of parts) p j
set_none [] p j l = refl
set_none (r ∷ rs) p zero l = absurd (omega arith)
set_none (r ∷ rs) p (suc j) l = ap (λ k. r.items ∷ k) (set_none rs p j (omega arith))

-- the parts of an address of a list
pub lists_at : (parts : List (Vec ℕ)) (i : ℕ) (d : Vec ℕ) → i < length parts → (slice_index_or parts i d).items ≡ parts_at (lists_of parts) i
lists_at [] i d l = absurd (omega arith)
lists_at (r ∷ rs) zero d l = refl
lists_at (r ∷ rs) (suc i) d l = lists_at rs i d (omega arith)

-- as a call has them
pub parts_here : (parts : List (Vec ℕ)) (i : ℕ) (d v : Vec ℕ) {r : List ℕ} → r ≡ v.items → v ≡ slice_index_or parts i d → i < length parts →
    r ≡ parts_at (lists_of parts) i
parts_here parts i d v e f l = e ∙ ap (λ z. z.items) f ∙ lists_at parts i d l

pub lists_length : (parts : List (Vec ℕ)) → length (lists_of parts) ≡ length parts
lists_length [] = refl
lists_length (r ∷ rs) = omega (arith, lists_length rs)

with_length : (parts : List (List ℕ)) (p j : ℕ) → length (with_read parts p j) ≡ length parts
with_length [] p j = refl
with_length (r ∷ rs) p zero = refl
with_length (r ∷ rs) p (suc j) = omega (arith, with_length rs p j)

-- a node reads nothing, or is a base read
noted_by : (P : List (List ℕ) → Type 0) (parts : List (List ℕ)) (n : TermNode) → P parts → ((p j : ℕ) → n ≡ BaseNode p j → P (with_read parts p j)) →
    P (noted parts n)
noted_by P parts (RegisterNode p r) h f = h
noted_by P parts (FlagNode p r) h f = h
noted_by P parts (ChoiceNode i) h f = h
noted_by P parts (BaseNode p j) h f = f p j refl
noted_by P parts (MemoryNode p) h f = h
noted_by P parts (ConstantNode w v) h f = h
noted_by P parts (BinaryNode o w a b) h f = h
noted_by P parts (NotNode w a) h f = h
noted_by P parts (SelectNode w c a b) h f = h
noted_by P parts (ExtractNode hi lo a) h f = h
noted_by P parts (ConcatNode high low a b) h f = h
noted_by P parts (ExtendNode g n m a) h f = h
noted_by P parts (LoadNode n e m a) h f = h
noted_by P parts (StoreNode n e m a v) h f = h
noted_by P parts (JoinNode c a b) h f = h
noted_by P parts (TakeNode n m a p) h f = h

-- the nodes before a place are noted
pub record AreNoted (nodes : List TermNode) (place count : ℕ) (parts : List (List ℕ)) : Type 0 where
  pub all : length parts ≡ count
  pub rise : (j : ℕ) → Rise 0 (parts_at parts j)
  pub sound : (p j : ℕ) → is_read parts p j ≡ true → Contains nodes (BaseNode p j)
  pub complete : (i p j : ℕ) → i < place → node_at nodes i ≡ BaseNode p j → j < count → is_read parts p j ≡ true

-- one node more
pub noted_next : (nodes : List TermNode) (place count : ℕ) (parts more : List (List ℕ)) (n : TermNode) → place < length nodes → n ≡ node_at nodes place →
    more ≡ noted parts n → AreNoted nodes place count parts → AreNoted nodes (place + 1) count more
noted_next nodes place count parts more n l e m h = record {
  all = ap length m ∙ noted_by (λ z. length z ≡ length parts) parts n refl (λ p j q. with_length parts p j) ∙ h.all;
  rise = λ j. subst (λ (z : List (List ℕ)). Rise 0 (parts_at z j)) (sym m)
      (noted_by (λ z. Rise 0 (parts_at z j)) parts n (h.rise j) (λ p i q. read_rise parts p i j h.rise));
  sound = λ p j q. noted_by (λ z. is_read z p j ≡ true → Contains nodes (BaseNode p j)) parts n (h.sound p j)
      (λ s i d k. elim (read_only parts s i p j k) [
        | inl o ↦ h.sound p j o
        | inr o ↦ node_in nodes (BaseNode p j) place l (sym e ∙ d ∙ ap (λ z. BaseNode z i) (sym o.0) ∙ ap (BaseNode p) (sym o.1))
      ]) (ap (λ z. is_read z p j) (sym m) ∙ q);
  complete = λ i p j k d within. ap (λ z. is_read z p j) m ∙ elim (cases_lt i place) [
    | inl o ↦ noted_by (λ z. is_read z p j ≡ true) parts n (h.complete i p j o d within) (λ s t q. read_more parts s t p j (h.complete i p j o d within))
    | inr o ↦ (
        let x : i ≡ place = omega (arith, k, o) in
        let y : n ≡ BaseNode p j = e ∙ ap (node_at nodes) (sym x) ∙ d in
        ap (λ z. is_read (noted parts z) p j) y ∙ read_here parts p j (omega (arith, within, h.all)))
  ];
}

none_read : (n p j : ℕ) → is_read (replicate n []) p j ≡ true → ⊥
none_read zero p j h = absurd (cc)
none_read (suc n) p zero h = absurd (cc)
none_read (suc n) p (suc j) h = none_read n p j h

none_rise : (n j : ℕ) → Rise 0 (parts_at (replicate n []) j)
none_rise zero j = tt
none_rise (suc n) zero = tt
none_rise (suc n) (suc j) = none_rise n j

-- no node
pub noted_none : (nodes : List TermNode) (n : ℕ) (parts : List (List ℕ)) → parts ≡ replicate n [] → AreNoted nodes 0 n parts
noted_none nodes n parts e = record {
  all = ap length e ∙ repeat_length n [];
  rise = λ j. subst (λ (z : List (List ℕ)). Rise 0 (parts_at z j)) (sym e) (none_rise n j);
  sound = λ p j q. absurd (none_read n p j (ap (λ z. is_read z p j) (sym e) ∙ q));
  complete = λ i p j k d within. absurd (omega (arith, k));
}
  where
    repeat_length : (n : ℕ) (x : List ℕ) → length (replicate n x) ≡ n
    repeat_length zero x = refl
    repeat_length (suc n) x = omega (arith, repeat_length n x)

-- all nodes
pub noted_all : (b : Build) (parts : List (List ℕ)) (place : ℕ) → IsBuilt b → length b.dag ≤ place → AreNoted b.dag place (length b.addresses.items) parts →
    AreParts b parts
noted_all b parts place c l h = record {
  rise = h.rise;
  sound = h.sound;
  complete = λ p j inside.
      (let n = c.named (BaseNode p j) inside in
      h.complete inside.0 p j (omega (arith, inside.1, l)) (get_or_default b.dag inside.0 (MemoryNode 0) (BaseNode p j) inside.1 ∙ inside.2)
      (omega (arith, n.1, mapped_length b.addresses.items)));
}

-- what is read is at an address that is there
pub read_within : (parts : List (List ℕ)) (p j : ℕ) → is_read parts p j ≡ true → j < length parts
read_within [] p j h = absurd (cc)
read_within (r ∷ rs) p zero h = omega arith
read_within (r ∷ rs) p (suc j) h = let k = read_within rs p j h in omega (arith, k)

-- what is said of those of some parts that pass a test
pub record IsOfPassed (X : Type 0) (f : ℕ → X) (g : ℕ → Bool) (r : List ℕ) (x : X) : Type 0 where
  pub part : ℕ
  pub inside : has_part r part ≡ true
  pub passes : g part ≡ true
  pub is : x ≡ f part

passed_later : (X : Type 0) (f : ℕ → X) (g : ℕ → Bool) (q : ℕ) (qs : List ℕ) (x : X) → IsOfPassed X f g qs x → IsOfPassed X f g (q ∷ qs) x
passed_later X f g q qs x o =
    record { part = o.part; inside = or_right (nat_eq o.part q) (has_part qs o.part) o.inside; passes = o.passes; is = o.is }

passed_by : (X : Type 0) (f : ℕ → X) (g : ℕ → Bool) (q : ℕ) (qs : List ℕ) (x : X) → (Contains (map f (filter g qs)) x → IsOfPassed X f g qs x) → (b : Bool) →
    g q ≡ b → Contains (map f (cond b (q ∷ filter g qs) (filter g qs))) x → IsOfPassed X f g (q ∷ qs) x
passed_by X f g q qs x k true e (zero, l, d) =
    record { part = q; inside = or_left (nat_eq q q) (has_part qs q) (equal_is q q refl); passes = e; is = sym d }
passed_by X f g q qs x k true e (suc i, l, d) = passed_later X f g q qs x (k (i, omega (arith, l), d))
passed_by X f g q qs x k false e h = passed_later X f g q qs x (k h)

pub passed_of : (X : Type 0) (f : ℕ → X) (g : ℕ → Bool) (r : List ℕ) (x : X) → Contains (map f (filter g r)) x → IsOfPassed X f g r x
passed_of X f g [] x h = absurd (omega (arith, h.1))
passed_of X f g (q ∷ qs) x h = passed_by X f g q qs x (passed_of X f g qs x) (g q) refl h

of_passed_by : {X : Type 0} (f : ℕ → X) (g : ℕ → Bool) (q : ℕ) (qs : List ℕ) (p : ℕ) →
    (has_part qs p ≡ true → Contains (map f (filter g qs)) (f p)) → has_part (q ∷ qs) p ≡ true → g p ≡ true → (b : Bool) → g q ≡ b →
    Contains (map f (cond b (q ∷ filter g qs) (filter g qs))) (f p)
of_passed_by f g q qs p later h k true e = elim (or_cases (nat_eq p q) (has_part qs p) h) [
  | inl m ↦ (0, omega arith, ap f (sym (is_equal p q m)))
  | inr m ↦ (let o = later m in (suc o.0, omega (arith, o.1), o.2))
]
of_passed_by f g q qs p later h k false e = elim (or_cases (nat_eq p q) (has_part qs p) h) [
  | inl m ↦ absurd (let z : false ≡ true = sym e ∙ ap g (sym (is_equal p q m)) ∙ k in (cc))
  | inr m ↦ later m
]

pub of_passed : {X : Type 0} (f : ℕ → X) (g : ℕ → Bool) (r : List ℕ) (p : ℕ) → has_part r p ≡ true → g p ≡ true → Contains (map f (filter g r)) (f p)
of_passed f g [] p h k = absurd (cc)
of_passed f g (q ∷ qs) p h k = of_passed_by f g q qs p (λ m. of_passed f g qs p m k) h k (g q) refl

-- one passes, so there are some
pub some_passed : (g : ℕ → Bool) (r : List ℕ) (p : ℕ) → filter g r ≡ [] → has_part r p ≡ true → g p ≡ true → ⊥
some_passed g r p e h k = let o = subst (λ (z : List ℕ). Contains (map (λ x. x) z) p) e (of_passed (λ x. x) g r p h k) in omega (arith, o.1)

-- those of a list, one after another
pub passed_next : {X : Type 0} (f : ℕ → X) (g : ℕ → Bool) (q : ℕ) (qs : List ℕ) → map f (filter g (q ∷ qs)) ≡ one_if (g q) (f q) ++ map f (filter g qs)
passed_next f g q qs = by (g q)
  where
    by : (b : Bool) → map f (cond b (q ∷ filter g qs) (filter g qs)) ≡ one_if b (f q) ++ map f (filter g qs)
    by true = refl
    by false = refl

pub passed_on : {X : Type 0} (f : ℕ → X) (g : ℕ → Bool) (r : List ℕ) (k p d : ℕ) (xs ys all : List X) → k < length r → p ≡ get_or r k d →
    ys ≡ xs ++ one_if (g p) (f p) → xs ++ map f (filter g (drop k r)) ≡ all → ys ++ map f (filter g (drop (k + 1) r)) ≡ all
passed_on f g r k p d xs ys all l e h i =
    ap (λ z. z ++ map f (filter g (drop (k + 1) r))) h
    ∙ append_assoc xs (one_if (g p) (f p)) (map f (filter g (drop (k + 1) r)))
    ∙ ap (λ z. xs ++ z) (sym (passed_next f g p (drop (k + 1) r)))
    ∙ ap (λ z. xs ++ map f (filter g (z ∷ drop (k + 1) r))) e
    ∙ ap (λ z. xs ++ map f (filter g z)) (sym (drop_more r k d l))
    ∙ i

pub skipped_on : (g : ℕ → Bool) (r : List ℕ) (k p d : ℕ) → k < length r → p ≡ get_or r k d → g p ≡ false →
    filter g (drop k r) ≡ filter g (drop (k + 1) r)
skipped_on g r k p d l e h =
    ap (filter g) (drop_more r k d l)
    ∙ ap (λ z. filter g (z ∷ drop (k + 1) r)) (sym e)
    ∙ ap (λ b. cond b (p ∷ filter g (drop (k + 1) r)) (filter g (drop (k + 1) r))) h

-- a part goes in behind those that are less
pub put_on : (r : List ℕ) (p k d : ℕ) → k < length r → get_or r k d < p →
    take k r ++ and_part (drop k r) p ≡ take (k + 1) r ++ and_part (drop (k + 1) r) p
put_on r p k d l h =
    let q = get_or r k d in
    let rest = drop (k + 1) r in
    ap (λ z. take k r ++ and_part z p) (drop_more r k d l)
    ∙ ap (λ b. take k r ++ (if b then p ∷ q ∷ rest else (if nat_eq p q then q ∷ rest else q ∷ and_part rest p))) (not_less p q h)
    ∙ ap (λ b. take k r ++ (if b then q ∷ rest else q ∷ and_part rest p)) (not_equal p q h)
    ∙ sym (append_assoc (take k r) (q ∷ []) (and_part rest p))
    ∙ ap (λ z. z ++ and_part rest p) (sym (take_more r k d l))
  where
    not_less : (a b : ℕ) → b < a → nat_lt a b ≡ false
    not_less a b h = grind (arith, nat_tests)

    not_equal : (a b : ℕ) → b < a → nat_eq a b ≡ false
    not_equal a b h = grind (arith, nat_tests)

-- or before the first that is greater
pub put_here : (r : List ℕ) (p k d : ℕ) → k < length r → p < get_or r k d → take k r ++ p ∷ drop k r ≡ take k r ++ and_part (drop k r) p
put_here r p k d l h =
    let q = get_or r k d in
    let rest = drop (k + 1) r in
    sym (
    ap (λ z. take k r ++ and_part z p) (drop_more r k d l)
    ∙ ap (λ b. take k r ++ (if b then p ∷ q ∷ rest else (if nat_eq p q then q ∷ rest else q ∷ and_part rest p))) (less p q h)
    ∙ ap (λ z. take k r ++ p ∷ z) (sym (drop_more r k d l)))
  where
    less : (a b : ℕ) → a < b → nat_lt a b ≡ true
    less a b h = grind (arith, nat_tests)

-- one that is there stays
pub put_same : (r : List ℕ) (p k d : ℕ) → k < length r → p ≡ get_or r k d → r ≡ take k r ++ and_part (drop k r) p
put_same r p k d l h =
    let q = get_or r k d in
    let rest = drop (k + 1) r in
    sym (
    ap (λ z. take k r ++ and_part z p) (drop_more r k d l)
    ∙ ap (λ b. take k r ++ (if b then p ∷ q ∷ rest else (if nat_eq p q then q ∷ rest else q ∷ and_part rest p))) (not_less p q h)
    ∙ ap (λ b. take k r ++ (if b then q ∷ rest else q ∷ and_part rest p)) (equal_is p q h)
    ∙ ap (λ z. take k r ++ z) (sym (drop_more r k d l))
    ∙ take-append-drop k r)
  where
    not_less : (a b : ℕ) → a ≡ b → nat_lt a b ≡ false
    not_less a b h = grind (arith, nat_tests)

-- or at the end
pub put_last : (r : List ℕ) (p k : ℕ) → length r ≤ k → r ++ p ∷ [] ≡ take k r ++ and_part (drop k r) p
put_last [] p zero l = refl
put_last [] p (suc k) l = refl
put_last (x ∷ r) p zero l = absurd (omega arith)
put_last (x ∷ r) p (suc k) l = ap (λ z. x ∷ z) (put_last r p k (omega arith))

-- the reads are those that are read
in_at : (r : List ℕ) (p j : ℕ) → has_part r p ≡ true → Contains (reads_at r j) (read_at p j)
in_at [] p j h = absurd (cc)
in_at (q ∷ qs) p j h = elim (or_cases (nat_eq p q) (has_part qs p) h) [
  | inl e ↦ (0, omega arith, ap (λ z. read_at z j) (sym (is_equal p q e)))
  | inr e ↦ (let k = in_at qs p j e in (suc k.0, omega (arith, k.1), k.2))
]

of_at : (r : List ℕ) (j : ℕ) (x : BaseRead) → Contains (reads_at r j) x → (x.address ≡ j) × (has_part r x.part ≡ true)
of_at [] j x h = absurd (omega (arith, h.1))
of_at (q ∷ qs) j x (zero, l, e) =
    (ap (λ z. z.address) (sym e), or_left (nat_eq x.part q) (has_part qs x.part) (equal_is x.part q (ap (λ z. z.part) (sym e))))
of_at (q ∷ qs) j x (suc i, l, e) =
    let o = of_at qs j x (i, omega (arith, l), e) in (o.0, or_right (nat_eq x.part q) (has_part qs x.part) o.1)

reads_in : (parts : List (List ℕ)) (from p j : ℕ) → is_read parts p j ≡ true → Contains (reads_from from parts) (read_at p (from + j))
reads_in [] from p j h = absurd (cc)
reads_in (r ∷ rs) from p zero h =
    let e : from + 0 ≡ from = omega arith in
    subst (λ (z : ℕ). Contains (reads_from from (r ∷ rs)) (read_at p z)) (sym e) (Contains-append_left (reads_at r from) (reads_from (from + 1) rs)
    (read_at p from) (in_at r p from h))
reads_in (r ∷ rs) from p (suc j) h =
    let e : from + 1 + j ≡ from + suc j = omega arith in
    subst (λ (z : ℕ). Contains (reads_from from (r ∷ rs)) (read_at p z)) e
    (Contains-append_right (reads_at r from) (reads_from (from + 1) rs) (read_at p (from + 1 + j)) (reads_in rs (from + 1) p j h))

pub reads_have : (parts : List (List ℕ)) (p j : ℕ) → is_read parts p j ≡ true → Contains (reads_from 0 parts) (read_at p j)
reads_have parts p j h = let e : 0 + j ≡ j = omega arith in subst (λ (z : ℕ). Contains (reads_from 0 parts) (read_at p z)) e (reads_in parts 0 p j h)

reads_of : (parts : List (List ℕ)) (from : ℕ) (x : BaseRead) → Contains (reads_from from parts) x →
    (j : ℕ) × (x.address ≡ from + j) × (is_read parts x.part j ≡ true)
reads_of [] from x h = absurd (omega (arith, h.1))
reads_of (r ∷ rs) from x h = elim (Contains-append_cases (reads_at r from) (reads_from (from + 1) rs) x h) [
  | inl k ↦ (let o = of_at r from x k in (0, omega (arith, o.0), o.1))
  | inr k ↦ (let o = reads_of rs (from + 1) x k in (suc o.0, omega (arith, o.1), o.2))
]

pub reads_are : (parts : List (List ℕ)) (x : BaseRead) → Contains (reads_from 0 parts) x → is_read parts x.part x.address ≡ true
reads_are parts x h =
    let o = reads_of parts 0 x h in
    let e : x.address ≡ o.0 = omega (arith, o.1) in ap (is_read parts x.part) e ∙ o.2

-- a read comes at an address and a part, or behind: at a greater address, or at this one for the part or a greater one
abbrev pub Comes : (address part : ℕ) → BaseRead → Type 0
Comes a p x = (a < x.address) ⊎ (a ≡ x.address) × (p ≤ x.part)

abbrev Climbs : (address part : ℕ) → List BaseRead → Type 0
Climbs a p [] = Unit {0}
Climbs a p (x ∷ xs) = Comes a p x × Climbs x.address (x.part + 1) xs

comes_on : (a p : ℕ) (x y : BaseRead) → Comes a p x → Comes x.address (x.part + 1) y → Comes a p y
comes_on a p x y (inl h) (inl k) = inl (omega (arith, h, k))
comes_on a p x y (inl h) (inr k) = inl (omega (arith, h, k.0))
comes_on a p x y (inr h) (inl k) = inl (omega (arith, h.0, k))
comes_on a p x y (inr h) (inr k) = inr (h.0 ∙ k.0, omega (arith, h.1, k.1))

climbs_lower : (a p b q : ℕ) (xs : List BaseRead) → ((x : BaseRead) → Comes a p x → Comes b q x) → Climbs a p xs → Climbs b q xs
climbs_lower a p b q [] f h = tt
climbs_lower a p b q (x ∷ xs) f h = (f x h.0, h.1)

before : (j least : ℕ) (x : BaseRead) → Comes (j + 1) 0 x → Comes j least x
before j least x (inl h) = inl (omega (arith, h))
before j least x (inr h) = inl (omega (arith, h.0))

climbs_row : (r : List ℕ) (j least : ℕ) (rest : List BaseRead) → Rise least r → Climbs (j + 1) 0 rest → Climbs j least (reads_at r j ++ rest)
climbs_row [] j least rest h c = climbs_lower (j + 1) 0 j least rest (before j least) c
climbs_row (p ∷ ps) j least rest h c = (inr (refl, h.0), climbs_row ps j (p + 1) rest h.1 c)

climbs_from : (j : ℕ) (parts : List (List ℕ)) → ((i : ℕ) → Rise 0 (parts_at parts i)) → Climbs j 0 (reads_from j parts)
climbs_from j [] h = tt
climbs_from j (r ∷ rs) h = climbs_row r j 0 (reads_from (j + 1) rs) (h 0) (climbs_from (j + 1) rs (λ i. h (suc i)))

climbs_at : (a p : ℕ) (xs : List BaseRead) (i : ℕ) (x : BaseRead) → Climbs a p xs → slice_get xs i ≡ Some x → Comes a p x
climbs_at a p [] i x h e = absurd (cc)
climbs_at a p (y ∷ ys) zero x h e = let z : y ≡ x = (cc) in subst (Comes a p) z h.0
climbs_at a p (y ∷ ys) (suc i) x h e = comes_on a p y x h.0 (climbs_at y.address (y.part + 1) ys i x h.1 e)

climbs_pair : (a p : ℕ) (xs : List BaseRead) (i k : ℕ) (x y : BaseRead) → Climbs a p xs → i < k → slice_get xs i ≡ Some x → slice_get xs k ≡ Some y →
    Comes x.address (x.part + 1) y
climbs_pair a p [] i k x y h l e f = absurd (cc)
climbs_pair a p (z ∷ zs) i zero x y h l e f = absurd (omega arith)
climbs_pair a p (z ∷ zs) zero (suc k) x y h l e f =
    let w : z ≡ x = (cc) in subst (λ (c : BaseRead). Comes c.address (c.part + 1) y) w (climbs_at z.address (z.part + 1) zs k y h.1 f)
climbs_pair a p (z ∷ zs) (suc i) (suc k) x y h l e f = climbs_pair z.address (z.part + 1) zs i k x y h.1 (omega arith) e f

pub reads_climb : (parts : List (List ℕ)) (i k : ℕ) (x y : BaseRead) → ((j : ℕ) → Rise 0 (parts_at parts j)) → i < k →
    slice_get (reads_from 0 parts) i ≡ Some x → slice_get (reads_from 0 parts) k ≡ Some y → Comes x.address (x.part + 1) y
reads_climb parts i k x y h l e f = climbs_pair 0 0 (reads_from 0 parts) i k x y (climbs_from 0 parts h) l e f

-- parts that rise are no more than one, and those that rise from the next on
one_less : (k n : ℕ) (r : List ℕ) → Rise k r →
    ((s : List ℕ) → Rise (k + 1) s → ((x : ℕ) → has_part s x ≡ true → has_part r x ≡ true) → length s ≤ n) → length r ≤ n + 1
one_less k n [] h f = omega arith
one_less k n (p ∷ ps) h f = elim (cases_lt k p) [
  | inl l ↦ (let q = f (p ∷ ps) (omega (arith, l), h.1) (λ x e. e) in omega (arith, q))
  | inr l ↦ (
      let e : p ≡ k = omega (arith, l, h.0) in
      let q = f ps (subst (λ (z : ℕ). Rise (z + 1) ps) e h.1) (λ x m. or_right (nat_eq x p) (has_part ps x) m) in omega (arith, q))
]

-- each of parts that rise is counted by a point
abbrev ArePaid : List UnrolledPoint → (from : ℕ) → List ℕ → Type 0
ArePaid points k r = (i : ℕ) → has_part r (k + i) ≡ true → (i < length points) × (1 ≤ (slice_index_or points i no_point).stores)

paid_later : (q : UnrolledPoint) (qs : List UnrolledPoint) (k : ℕ) (r s : List ℕ) → ((x : ℕ) → has_part s x ≡ true → has_part r x ≡ true) →
    ArePaid (q ∷ qs) k r → ArePaid qs (k + 1) s
paid_later q qs k r s f h i e =
    let m : k + 1 + i ≡ k + suc i = omega arith in
    let o = h (suc i) (ap (has_part r) (sym m) ∙ f (k + 1 + i) e) in (omega (arith, o.0), o.1)

few_paid : (points : List UnrolledPoint) (k : ℕ) (r : List ℕ) → Rise k r → ArePaid points k r → length r ≤ sum_by (λ q. q.stores) points
few_paid [] k [] h f = omega arith
few_paid [] k (p ∷ ps) h f =
    let i = p - k in
    let e : k + i ≡ p = omega (arith, h.0) in
    let o = f i (ap (has_part (p ∷ ps)) e ∙ or_left (nat_eq p p) (has_part ps p) (equal_is p p refl)) in absurd (omega (arith, o.0))
few_paid (q ∷ qs) k [] h f = omega arith
few_paid (q ∷ qs) k (p ∷ ps) h f = elim (cases_lt k p) [
  | inl l ↦ (let o = few_paid qs (k + 1) (p ∷ ps) (omega (arith, l), h.1) (paid_later q qs k (p ∷ ps) (p ∷ ps) (λ x e. e) f) in omega (arith, o, sum_by-append (λ (z : UnrolledPoint). z.stores) (q ∷ []) qs))
  | inr l ↦ (
      let e : p ≡ k = omega (arith, l, h.0) in
      let z : k + 0 ≡ p = omega (arith, e) in
      let here = f 0 (ap (has_part (p ∷ ps)) z ∙ or_left (nat_eq p p) (has_part ps p) (equal_is p p refl)) in
      let o = few_paid qs (k + 1) ps (subst (λ (y : ℕ). Rise (y + 1) ps) e h.1)
      (paid_later q qs k (p ∷ ps) ps (λ x m. or_right (nat_eq x p) (has_part ps x) m) f) in
      omega (arith, here.1, o, sum_by-append (λ (z : UnrolledPoint). z.stores) (q ∷ []) qs))
]

-- so are the parts of an address
pub few_parts : (u : UnrolledProgram) (heads : Bool) (r : List ℕ) → CountsGifts u → Rise 0 r → ((p : ℕ) → has_part r p ≡ true → NamesMemory u heads p) →
    length r ≤ 2 + stores_of u
few_parts u heads r c h f =
    let n = stores_of u in
    let o = one_less 0 (n + 1) r h (λ s hs fs. one_less 1 n s hs (λ t ht ft. few_paid u.points 2 t ht (λ i e.
    (let m : 2 + i ≡ suc (suc i) = omega arith in
    let g = subst (λ (z : ℕ). NamesMemory u heads z) m (f (2 + i) (fs (2 + i) (ft (2 + i) e))) in
    (g.2.place, c i g))))) in
    omega (arith, o)

-- their count
pub reads_few : (j n : ℕ) (parts : List (List ℕ)) → ((i : ℕ) → i < length parts → length (parts_at parts i) ≤ n) →
    length (reads_from j parts) ≤ length parts * n
reads_few j n [] h = omega arith
reads_few j n (r ∷ rs) h =
    let e : suc (length rs) * n ≡ n + length rs * n = grind arith in
    omega (
      arith,
      length-append (reads_at r j) (reads_from (j + 1) rs),
      row_length r j,
      h 0 (omega arith),
      reads_few (j + 1) n rs (λ i l. h (suc i) (omega (arith, l))),
      e,
    )
  where
    row_length : (r : List ℕ) (j : ℕ) → length (reads_at r j) ≡ length r
    row_length [] j = refl
    row_length (p ∷ ps) j = omega (arith, row_length ps j)

-- where the entry's part alone is read at each address
one_entry : (r : List ℕ) → Rise 0 r → has_part r 0 ≡ true → ((p : ℕ) → has_part r p ≡ true → p ≡ 0) → r ≡ 0 ∷ []
one_entry [] h e f = absurd (cc)
one_entry (p ∷ []) h e f = ap (λ z. z ∷ []) (f p (or_left (nat_eq p p) false (equal_is p p refl)))
one_entry (p ∷ q ∷ qs) h e f =
    let o = f q (or_right (nat_eq q p) (has_part (q ∷ qs) q) (or_left (nat_eq q q) (has_part qs q) (equal_is q q refl))) in
    absurd (omega (arith, o, h.1.0))

pub reads_flat : (j : ℕ) (parts : List (List ℕ)) → ((i : ℕ) → Rise 0 (parts_at parts i)) → ((i : ℕ) → i < length parts → is_read parts 0 i ≡ true) →
    ((i p : ℕ) → is_read parts p i ≡ true → p ≡ 0) → map read_of (reads_from j parts) ≡ map as_read (from_to j (length parts))
reads_flat j [] r e h = refl
reads_flat j (x ∷ xs) r e h =
    ap (λ z. map read_of (reads_at z j ++ reads_from (j + 1) xs)) (one_entry x (r 0) (e 0 (omega arith)) (h 0))
    ∙ ap (λ z. as_read j ∷ z) (reads_flat (j + 1) xs (λ i. r (suc i)) (λ i l. e (suc i) (omega (arith, l))) (λ i. h (suc i)))
