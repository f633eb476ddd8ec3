-- The graph has the address of each point, and each edge is a static path.
use Rattle.std.proofs.Common.{◌≡◌, ◌≢◌, ◌⊎◌, ⊎_elim, inl, inr, ℕ, zero, suc, ◌%◌, refl, ap, sym, ◌∙◌, subst, arith, List, [], ◌∷◌, ◌++◌, Option, Some, None, Bool, true, false}
use Rattle.std.specs.Prelude.{Contains, ◌==◌, ◌&&◌, ◌||◌, not, nat_lt, if◌then◌else◌, map, filter}
use Rattle.std.proofs.lemmas.Bool.Decides.{nat_tests}
use Rattle.std.proofs.lemmas.Bool.{eq-eqb}
use Rattle.word_spec.specs.Words.{add}
use Rattle.machine_spec.specs.Machine.{Row, Successors, IsAtPlace, is_place, unit}
use Rattle.bilv_spec.specs.Run.{Program, named, some_of}
use Rattle.bilv_spec.specs.Points.{Point, EdgeEnd, ToAddress, ToExit, edges, edges_of, edges_by, fall_ends, jump_ends, indirect_ends, return_ends, after_call, is_top, leads_on, distinct, same_end, file_row, file_word, IsPoint, first, next}
use Rattle.bilv_spec.specs.Graph.{Letter, NextLetter, JumpLetter, CallLetter, ReturnLetter, letter_order, Successor, successor, successors_of, successors_by, comes_before, insert, sort, successors_at, may_return, returns_by, IsAddress, entry, listed, LeadsTo, along, back}
use Rattle.bilv_spec.specs.PointLaws.{IsReturnAddress, IsInGraph}
use Rattle.bilv_spec.proofs.PointSteps.{same_number, here, there, in_left, in_right, in_filter, in_map}

module _ {X : Type 0} where
  pub none_in : {P : Type 0} (x : X) → Contains [] x → P
  none_in x (i, h, e) = absurd (omega arith)

  pub split_in : (xs ys : List X) (x : X) → Contains (xs ++ ys) x → Contains xs x ⊎ Contains ys x
  split_in [] ys x h = inr h
  split_in (y ∷ xs) ys x (zero, h, e) = inl (0, omega arith, e)
  split_in (y ∷ xs) ys x (suc i, h, e) = ⊎_elim (λ q. inl (there y xs x q)) (λ q. inr q) (split_in xs ys x (i, omega arith, e))

  filter_by : (f : X → Bool) (y : X) (xs : List X) (x : X) (b : Bool) → f y ≡ b → (Contains (filter f xs) x → Contains xs x × (f x ≡ true)) →
      Contains (if b then y ∷ filter f xs else filter f xs) x → Contains (y ∷ xs) x × (f x ≡ true)
  filter_by f y xs x true t g (zero, h, e) = ((0, omega arith, e), ap f (sym e) ∙ t)
  filter_by f y xs x true t g (suc i, h, e) = let q = g (i, omega arith, e) in (there y xs x q.0, q.1)
  filter_by f y xs x false t g h = let q = g h in (there y xs x q.0, q.1)

  pub of_filter : (f : X → Bool) (xs : List X) (x : X) → Contains (filter f xs) x → Contains xs x × (f x ≡ true)
  of_filter f [] x h = none_in x h
  of_filter f (y ∷ xs) x h = filter_by f y xs x (f y) refl (of_filter f xs x) h

module _ {X Y : Type 0} where
  pub of_map : (f : X → Y) (xs : List X) (y : Y) → Contains (map f xs) y → (x : X) × Contains xs x × (f x ≡ y)
  of_map f [] y h = none_in y h
  of_map f (x ∷ xs) y (zero, h, e) = (x, here x xs, e)
  of_map f (x ∷ xs) y (suc i, h, e) = let q = of_map f xs y (i, omega arith, e) in (q.0, there x xs q.0 q.1, q.2)

pub of_distinct : (xs : List EdgeEnd) (x : EdgeEnd) → Contains (distinct xs) x → Contains xs x
of_distinct [] x h = none_in x h
of_distinct (t ∷ xs) x (zero, h, e) = (0, omega arith, e)
of_distinct (t ∷ xs) x (suc i, h, e) =
    there t xs x (of_distinct xs x (of_filter (λ u. not (same_end t u)) (distinct xs) x (i, omega arith, e)).0)

-- successors in order are the same successors
same_order : (l m : Letter) → letter_order l ≡ letter_order m → l ≡ m
same_order NextLetter NextLetter e = refl
same_order JumpLetter JumpLetter e = refl
same_order CallLetter CallLetter e = refl
same_order ReturnLetter ReturnLetter e = refl
same_order NextLetter JumpLetter e = absurd (omega arith)
same_order NextLetter CallLetter e = absurd (omega arith)
same_order NextLetter ReturnLetter e = absurd (omega arith)
same_order JumpLetter NextLetter e = absurd (omega arith)
same_order JumpLetter CallLetter e = absurd (omega arith)
same_order JumpLetter ReturnLetter e = absurd (omega arith)
same_order CallLetter NextLetter e = absurd (omega arith)
same_order CallLetter JumpLetter e = absurd (omega arith)
same_order CallLetter ReturnLetter e = absurd (omega arith)
same_order ReturnLetter NextLetter e = absurd (omega arith)
same_order ReturnLetter JumpLetter e = absurd (omega arith)
same_order ReturnLetter CallLetter e = absurd (omega arith)

numbers_same : (a b m n : ℕ) → (nat_lt a b || ((a == b) && nat_lt m n)) ≡ false → (nat_lt b a || ((b == a) && nat_lt n m)) ≡ false → (a ≡ b) × (m ≡ n)
numbers_same a b m n h g = (grind (arith, nat_tests), grind (arith, nat_tests))

same_place : (x y : Successor) → comes_before x y ≡ false → comes_before y x ≡ false → y ≡ x
same_place x y h g =
    let e = numbers_same x.to y.to (letter_order x.letter) (letter_order y.letter) h g in
    ap (λ z. record { letter = z; to = y.to }) (sym (same_order x.letter y.letter e.1)) ∙ ap (λ z. record { letter = x.letter; to = z }) (sym e.0)

insert_by : (x y : Successor) (ys zs : List Successor) (b c : Bool) → comes_before x y ≡ b → comes_before y x ≡ c → Contains zs x →
    Contains (if b then x ∷ y ∷ ys else if c then y ∷ zs else y ∷ ys) x
insert_by x y ys zs true c h g i = here x (y ∷ ys)
insert_by x y ys zs false true h g i = there y zs x i
insert_by x y ys zs false false h g i = (0, omega arith, same_place x y h g)

pub inserted : (x : Successor) (ys : List Successor) → Contains (insert x ys) x
inserted x [] = here x []
inserted x (y ∷ ys) = insert_by x y ys (insert x ys) (comes_before x y) (comes_before y x) refl refl (inserted x ys)

keep_by : (x y : Successor) (ys zs : List Successor) (z : Successor) (b c : Bool) → (Contains ys z → Contains zs z) → Contains (y ∷ ys) z →
    Contains (if b then x ∷ y ∷ ys else if c then y ∷ zs else y ∷ ys) z
keep_by x y ys zs z true c f h = there x (y ∷ ys) z h
keep_by x y ys zs z false true f (zero, h, e) = (0, omega arith, e)
keep_by x y ys zs z false true f (suc i, h, e) = there y zs z (f (i, omega arith, e))
keep_by x y ys zs z false false f h = h

pub insert_keeps : (x : Successor) (ys : List Successor) (z : Successor) → Contains ys z → Contains (insert x ys) z
insert_keeps x [] z h = none_in z h
insert_keeps x (y ∷ ys) z h = keep_by x y ys (insert x ys) z (comes_before x y) (comes_before y x) (insert_keeps x ys z) h

pub in_sort : (xs : List Successor) (x : Successor) → Contains xs x → Contains (sort xs) x
in_sort [] x h = h
in_sort (y ∷ xs) x (zero, h, e) = subst (λ (z : Successor). Contains (insert y (sort xs)) z) e (inserted y (sort xs))
in_sort (y ∷ xs) x (suc i, h, e) = insert_keeps y (sort xs) x (in_sort xs x (i, omega arith, e))

letter_of : (call : Bool) → Letter
letter_of call = if call then CallLetter else JumpLetter

no_return : (call : Bool) → (if call then CallLetter else JumpLetter) ≢ ReturnLetter
no_return true e = let t = ap letter_order e in absurd (omega arith)
no_return false e = let t = ap letter_order e in absurd (omega arith)

abbrev stack_of : EdgeEnd → List ℕ
stack_of ToExit = []
stack_of (ToAddress s a) = s

abbrev at_of : EdgeEnd → ℕ
at_of ToExit = 0
at_of (ToAddress s a) = a

abbrev is_address : EdgeEnd → Bool
is_address ToExit = false
is_address (ToAddress s a) = true

module _ (p : Program) where
  abbrev Returns : List ℕ → Type 0
  Returns stack = (b : ℕ) → Contains stack b → IsAtPlace p.machine.narrow b → IsReturnAddress p b

  -- what an edge's end is to be
  record Follows (at : ℕ) (stack : List ℕ) (a : ℕ) : Type 0 where
    leads : LeadsTo p at a
    returns : Returns stack

  leads_address : (at a : ℕ) → IsAddress p at → LeadsTo p at a → IsAddress p a
  leads_address at a h (along x c n e) = subst (λ (z : ℕ). IsAddress p z) e (listed h c)
  leads_address at a h (back {c} m is i) = listed is i

  module _ (row : Row) (at : ℕ) (stack : List ℕ) (is : file_row p at ≡ Some row) (address : IsAddress p at) (old : Returns stack) where
    abbrev s : Successors
    s = row.successors at

    abbrev names : List ℕ
    names = named p (file_word p) row at

    abbrev letter : Letter
    letter = if s.call then CallLetter else JumpLetter

    abbrev ons : Bool → List Successor
    ons b = if b then successor NextLetter (add 32 at row.length) ∷ [] else []

    abbrev jumps : List Successor
    jumps = map (successor letter) (some_of s.direct)

    abbrev throughs : Bool → List Successor
    throughs b = if b then map (successor letter) names else []

    abbrev backs : Bool → List Successor
    backs b = if b then successor ReturnLetter (add 32 at row.length) ∷ [] else []

    in_successors : (x : Successor) → IsAtPlace p.machine.narrow x.to → Contains (successors_of p at row s) x → Contains (successors_at p at) x
    in_successors x e h =
        let t : is_place p.machine.narrow x.to ≡ true = eq-eqb (x.to % unit p.machine.narrow) 0 e in
        subst (λ (z : Option Row). Contains (sort (successors_by p at z)) x) (sym is)
        (in_sort (filter (λ y. is_place p.machine.narrow y.to) (successors_of p at row s)) x (in_filter (λ y. is_place p.machine.narrow y.to) (successors_of p at row s) x h t))

    next_in : (a : ℕ) → IsAtPlace p.machine.narrow a → s.next ≡ true → a ≡ add 32 at row.length → LeadsTo p at a
    next_in a e t q =
        let x : Successor = successor NextLetter a in
        let h : Contains (ons true) x = (0, omega arith, ap (successor NextLetter) (sym q)) in
        along x (in_successors x e (in_left (ons s.next ++ jumps ++ throughs s.indirect) (backs s.call) x
        (in_left (ons s.next ++ jumps) (throughs s.indirect) x (in_left (ons s.next) jumps x (subst (λ (z : Bool). Contains (ons z) x) (sym t) h)))))
        (λ c. let d = ap letter_order c in absurd (omega arith)) refl

    direct_in : (a : ℕ) → IsAtPlace p.machine.narrow a → Contains (some_of s.direct) a → LeadsTo p at a
    direct_in a e h =
        let x : Successor = successor letter a in
        along x (in_successors x e (in_left (ons s.next ++ jumps ++ throughs s.indirect) (backs s.call) x
        (in_left (ons s.next ++ jumps) (throughs s.indirect) x (in_right (ons s.next) jumps x (in_map (successor letter) (some_of s.direct) a h)))))
        (no_return s.call) refl

    named_in : (a : ℕ) → IsAtPlace p.machine.narrow a → s.indirect ≡ true → Contains names a → LeadsTo p at a
    named_in a e t h =
        let x : Successor = successor letter a in
        let g : Contains (throughs true) x = in_map (successor letter) names a h in
        along x (in_successors x e (in_left (ons s.next ++ jumps ++ throughs s.indirect) (backs s.call) x
        (in_right (ons s.next ++ jumps) (throughs s.indirect) x (subst (λ (z : Bool). Contains (throughs z) x) (sym t) g))))
        (no_return s.call) refl

    pushed : (b : ℕ) → IsAtPlace p.machine.narrow b → s.call ≡ true → b ≡ add 32 at row.length → IsReturnAddress p b
    pushed b e t q =
        let x : Successor = successor ReturnLetter b in
        let h : Contains (backs true) x = (0, omega arith, ap (successor ReturnLetter) (sym q)) in (
          at,
          address,
          in_successors x e (in_right (ons s.next ++ jumps
              ++ throughs s.indirect) (backs s.call) x (subst (λ (z : Bool). Contains (backs z) x) (sym t) h)),
        )

    -- the stack after a row
    called : (call : Bool) → s.call ≡ call → Returns (after_call call row.length at stack)
    called false t b h e = old b h e
    called true t b (zero, l, q) e = pushed b e t (sym q)
    called true t b (suc i, l, q) e = old b (i, omega arith, q) e

    pops : (call indirect : Bool) → s.call ≡ call → s.indirect ≡ indirect → (indirect && not call) ≡ true → may_return p at ≡ true
    pops call indirect c i h = ap (returns_by at) is ∙ ap (λ z. z && not s.call) i ∙ ap (λ z. indirect && not z) c ∙ h

    return_follows : (l : List ℕ) → Returns l → s.call ≡ false → s.indirect ≡ true → (below : List ℕ) (a : ℕ) → IsAtPlace p.machine.narrow a →
        Contains (return_ends l) (ToAddress below a) →
        Follows at below a
    return_follows [] r c i below a e (zero, l, q) = absurd (let t : false ≡ true = ap is_address q in cc)
    return_follows [] r c i below a e (suc n, l, q) = absurd (omega arith)
    return_follows (top ∷ rest) r c i below a e (suc n, l, q) = absurd (omega arith)
    return_follows (top ∷ rest) r c i below a e (zero, l, q) =
        let same_at : top ≡ a = ap at_of q in
        let same_stack : rest ≡ below = ap stack_of q in
        let back_at = r a (0, omega arith, same_at) e in
        record {
          leads = back (pops false true c i refl) back_at.1 back_at.2;
          returns = λ b h g. r b (there top rest b (subst (λ (z : List ℕ). Contains z b) (sym same_stack) h)) g;
        }

    indirect_follows : (call : Bool) → s.call ≡ call → s.indirect ≡ true → (new : List ℕ) (a : ℕ) → IsAtPlace p.machine.narrow a →
        Contains (indirect_ends call row.length at stack names) (ToAddress new a) →
        Follows at new a
    indirect_follows true c i new a e h =
        let q = of_map (λ a. ToAddress (after_call true row.length at stack) a) names (ToAddress new a) h in
        record {
          leads = named_in a e i (subst (λ (z : ℕ). Contains names z) (ap at_of q.2) q.1);
          returns = subst Returns (ap stack_of q.2) (called true c);
        }
    indirect_follows false c i new a e h =
        let rest : List ℕ = filter (λ a. not (is_top stack a)) names in
        elim (split_in (return_ends stack) (map (λ a. ToAddress stack a) rest) (ToAddress new a) h) [
          | inl g ↦ return_follows stack old c i new a e g
          | inr g ↦ (let q = of_map (λ a. ToAddress stack a) rest (ToAddress new a) g in
              let n = of_filter (λ a. not (is_top stack a)) names q.0 q.1 in
              record {
                leads = named_in a e i (subst (λ (z : ℕ). Contains names z) (ap at_of q.2) n.0);
                returns = subst Returns (ap stack_of q.2) old;
              })
        ]

    through_by : (b : Bool) → s.indirect ≡ b → (new : List ℕ) (a : ℕ) → IsAtPlace p.machine.narrow a →
        Contains (if b then indirect_ends s.call row.length at stack names else []) (ToAddress new a) → Follows at new a
    through_by false i new a e h = none_in (ToAddress new a) h
    through_by true i new a e h = indirect_follows s.call refl i new a e h

    fall_by : (b : Bool) → s.next ≡ b → (new : List ℕ) (a : ℕ) → IsAtPlace p.machine.narrow a →
        Contains (if b then ToAddress stack (add 32 at row.length) ∷ [] else []) (ToAddress new a) → Follows at new a
    fall_by false n new a e h = none_in (ToAddress new a) h
    fall_by true n new a e (suc i, l, q) = absurd (omega arith)
    fall_by true n new a e (zero, l, q) = record { leads = next_in a e n (sym (ap at_of q)); returns = subst Returns (ap stack_of q) old }

    abbrev point : ℕ → Point
    point turns = record { turns = turns; stack = stack; at = at }

    edge_follows : (turns : ℕ) (new : List ℕ) (a : ℕ) → IsAtPlace p.machine.narrow a → Contains (edges_of p (point turns) row s) (ToAddress new a) → Follows at new a
    edge_follows turns new a e h = elim (split_in (jump_ends p (point turns) row s) (fall_ends (point turns) row s) (ToAddress new a) h) [
      | inr f ↦ fall_by s.next refl new a e f
      | inl j ↦ elim (split_in (map (λ a. ToAddress (after_call s.call row.length at stack) a) (some_of s.direct)) (if s.indirect
          then indirect_ends s.call row.length at stack names else []) (ToAddress new a) j) [
            | inl d ↦ (let q = of_map (λ a. ToAddress (after_call s.call row.length at stack) a) (some_of s.direct) (ToAddress new a) d in
                record {
                  leads = direct_in a e (subst (λ (z : ℕ). Contains (some_of s.direct) z) (ap at_of q.2) q.1);
                  returns = subst Returns (ap stack_of q.2) (called s.call refl);
                })
            | inr i ↦ through_by s.indirect refl new a e i
          ]
    ]

    not_exit : {P : Type 0} (f : ℕ → List ℕ) (xs : List ℕ) → Contains (map (λ a. ToAddress (f a) a) xs) ToExit → P
    not_exit f xs h = let q = of_map (λ a. ToAddress (f a) a) xs ToExit h in absurd (let t : true ≡ false = ap is_address q.2 in cc)

    exit_through : (b call : Bool) → s.indirect ≡ b → s.call ≡ call → Contains (if b then indirect_ends call row.length at stack names else []) ToExit →
        may_return p at ≡ true
    exit_through false call i c h = none_in ToExit h
    exit_through true true i c h = not_exit (λ a. after_call true row.length at stack) names h
    exit_through true false i c h = pops false true c i refl

    exit_fall : (b : Bool) → Contains (if b then ToAddress stack (add 32 at row.length) ∷ [] else []) ToExit → may_return p at ≡ true
    exit_fall false h = none_in ToExit h
    exit_fall true h = not_exit (λ a. stack) (add 32 at row.length ∷ []) h

    exit_returns : (turns : ℕ) → Contains (edges_of p (point turns) row s) ToExit → may_return p at ≡ true
    exit_returns turns h = elim (split_in (jump_ends p (point turns) row s) (fall_ends (point turns) row s) ToExit h) [
      | inr f ↦ exit_fall s.next f
      | inl j ↦ elim (split_in (map (λ a. ToAddress (after_call s.call row.length at stack) a) (some_of s.direct)) (if s.indirect
          then indirect_ends s.call row.length at stack names else []) ToExit j) [
            | inl d ↦ not_exit (λ a. after_call s.call row.length at stack) (some_of s.direct) d
            | inr i ↦ exit_through s.indirect s.call refl refl i
          ]
    ]

  exit_by_row : (o : Option Row) (turns at : ℕ) (stack : List ℕ) → file_row p at ≡ o → IsAddress p at → Returns stack →
      Contains (distinct (filter (leads_on p.machine.narrow) (edges_by p (record { turns = turns; stack = stack; at = at }) o))) ToExit → may_return p at ≡ true
  exit_by_row None turns at stack e is r h = none_in ToExit h
  exit_by_row (Some row) turns at stack e is r h =
      let all : List EdgeEnd = edges_of p (record { turns = turns; stack = stack; at = at }) row (row.successors at) in
      exit_returns row at stack e is r turns (of_filter (leads_on p.machine.narrow) all ToExit (of_distinct (filter (leads_on p.machine.narrow) all) ToExit h)).0

  edge_by : (o : Option Row) (turns at : ℕ) (stack : List ℕ) → file_row p at ≡ o → IsAddress p at → Returns stack → (new : List ℕ) (a : ℕ) →
      Contains (distinct (filter (leads_on p.machine.narrow) (edges_by p (record { turns = turns; stack = stack; at = at }) o))) (ToAddress new a) → Follows at new a
  edge_by None turns at stack e is r new a h = none_in (ToAddress new a) h
  edge_by (Some row) turns at stack e is r new a h =
      let all : List EdgeEnd = edges_of p (record { turns = turns; stack = stack; at = at }) row (row.successors at) in
      let q = of_filter (leads_on p.machine.narrow) all (ToAddress new a) (of_distinct (filter (leads_on p.machine.narrow) all) (ToAddress new a) h) in
      edge_follows row at stack e is r turns new a (same_number (a % unit p.machine.narrow) 0 q.1) q.0

  edge_of_point : (point : Point) → IsAddress p point.at → Returns point.stack → (new : List ℕ) (a : ℕ) → Contains (edges p point) (ToAddress new a) →
      Follows point.at new a
  edge_of_point point is r new a h = edge_by (file_row p point.at) point.turns point.at point.stack refl is r new a h

  module _ (k : ℕ) where
    known : (point : Point) → IsPoint p k point → IsAddress p point.at × Returns point.stack
    known q first = (entry, λ b h e. none_in b h)
    known q (next {point = from} {stack} {a} h edge l) =
        let old = known from h in
        let f = edge_of_point from old.0 old.1 stack a edge in
        (leads_address from.at a old.0 f.leads, f.returns)

    in_graph : (point : Point) → IsPoint p k point → IsInGraph p point
    in_graph point h =
        let q = known point h in
        record {
          at = q.0;
          stack = q.1;
          leads = λ stack a e. (edge_of_point point q.0 q.1 stack a e).leads;
          exits = exit_by_row (file_row p point.at) point.turns point.at point.stack refl q.0 q.1;
        }

pub points_are_in_graph : (p : Program) (k : ℕ) (point : Point) → IsPoint p k point → IsInGraph p point
points_are_in_graph p k point h = in_graph p k point h
