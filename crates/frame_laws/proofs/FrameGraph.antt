-- The graph has the address of each point of a frame, and each edge of a row is a static path.
use Rattle.std.proofs.Common.{◌≡◌, ◌≢◌, inl, inr, ℕ, zero, suc, ◌%◌, refl, ap, sym, ◌∙◌, subst, arith, List, [], ◌∷◌, ◌++◌, Option, Some, None, Bool, true, false}
use Rattle.std.specs.Prelude.{Contains, ◌&&◌, not, if◌then◌else◌, map, filter}
use Rattle.std.proofs.lemmas.Bool.{eq-eqb}
use Rattle.word_spec.specs.Words.{add}
use Rattle.machine_spec.specs.Machine.{Row, Successors, IsAtPlace, is_place, unit}
use Rattle.bilv_spec.specs.Run.{Program, named, some_of}
use Rattle.bilv_spec.specs.Points as points
use Rattle.bilv_spec.specs.Points.{EdgeEnd, ToAddress, ToExit, edges, edges_of, edges_by, fall_ends, jump_ends, indirect_ends, return_ends, after_call, is_top, leads_on, file_row, file_word}
use Rattle.bilv_spec.specs.Graph.{Letter, NextLetter, JumpLetter, CallLetter, ReturnLetter, letter_order, Successor, successor, successors_of, successors_by, sort, successors_at, may_return, returns_by, IsAddress, entry, listed, LeadsTo, along, back}
use Rattle.bilv_spec.specs.PointLaws.{IsReturnAddress}
use Rattle.bilv_spec.proofs.PointSteps.{same_number, there, in_left, in_right, in_filter, in_map}
use Rattle.bilv_spec.proofs.PointsInGraph.{none_in, split_in, of_filter, of_map, of_distinct, in_sort}
use Rattle.frame_spec.specs.Frames.{Frame, is_head}
use Rattle.frame_spec.specs.FramePoints.{AtHead, Point, IsPoint, first, entry_head, next, first_of, point_to, is_contract_end, is_cut, top_ends, triple}

-- each address on the stack, at which a row can stand, is behind a call
abbrev pub Returns : Program → List ℕ → Type 0
Returns p stack = (b : ℕ) → Contains stack b → IsAtPlace p.machine.narrow b → IsReturnAddress p b

-- where an edge leads is a static path
abbrev IsPath : Program → (at : ℕ) → EdgeEnd → Type 0
IsPath p at ToExit = may_return p at ≡ true
IsPath p at (ToAddress stack a) = IsAtPlace p.machine.narrow a → LeadsTo p at a × Returns p stack

no_return : (call : Bool) → (if call then CallLetter else JumpLetter) ≢ ReturnLetter
no_return true e = let t = ap letter_order e in absurd (omega arith)
no_return false e = let t = ap letter_order e in absurd (omega arith)

leads_address : (p : Program) (at a : ℕ) → IsAddress p at → LeadsTo p at a → IsAddress p a
leads_address p at a h (along x c n e) = subst (λ (z : ℕ). IsAddress p z) e (listed h c)
leads_address p at a h (back {c} m is i) = listed is i

module _ (p : Program) (row : Row) (q : points.Point) (is : file_row p q.at ≡ Some row) (address : IsAddress p q.at) (old : Returns p q.stack) where
  abbrev s : Successors
  s = row.successors q.at

  abbrev names : List ℕ
  names = named p (file_word p) row q.at

  abbrev behind : ℕ
  behind = add 32 q.at row.length

  abbrev letter : Letter
  letter = if s.call then CallLetter else JumpLetter

  abbrev ons : Bool → List Successor
  ons b = if b then successor NextLetter behind ∷ [] else []

  abbrev jumps : List Successor
  jumps = map (successor letter) (some_of s.direct)

  abbrev throughs : Bool → List Successor
  throughs b = if b then map (successor letter) names else []

  abbrev backs : Bool → List Successor
  backs b = if b then successor ReturnLetter behind ∷ [] else []

  listed_here : (x : Successor) → IsAtPlace p.machine.narrow x.to → Contains (successors_of p q.at row s) x → Contains (successors_at p q.at) x
  listed_here x e h =
      let t : is_place p.machine.narrow x.to ≡ true = eq-eqb (x.to % unit p.machine.narrow) 0 e in
      subst (λ (z : Option Row). Contains (sort (successors_by p q.at z)) x) (sym is)
      (in_sort (filter (λ y. is_place p.machine.narrow y.to) (successors_of p q.at row s)) x
      (in_filter (λ y. is_place p.machine.narrow y.to) (successors_of p q.at row s) x h t))

  next_leads : (b : Bool) → s.next ≡ b → (a : ℕ) → Contains (if b then behind ∷ [] else []) a → IsAtPlace p.machine.narrow a → LeadsTo p q.at a
  next_leads false t a c e = none_in a c
  next_leads true t a (suc i, l, h) e = absurd (omega arith)
  next_leads true t a (zero, l, h) e =
      let x : Successor = successor NextLetter a in
      let g : Contains (ons true) x = (0, omega arith, ap (successor NextLetter) h) in
      along x (listed_here x e (in_left (ons s.next ++ jumps ++ throughs s.indirect) (backs s.call) x
      (in_left (ons s.next ++ jumps) (throughs s.indirect) x (in_left (ons s.next) jumps x (subst (λ (z : Bool). Contains (ons z) x) (sym t) g)))))
      (λ c. let d = ap letter_order c in absurd (omega arith)) refl

  direct_leads : (a : ℕ) → Contains (some_of s.direct) a → IsAtPlace p.machine.narrow a → LeadsTo p q.at a
  direct_leads a h e =
      let x : Successor = successor letter a in
      along x (listed_here x e (in_left (ons s.next ++ jumps ++ throughs s.indirect) (backs s.call) x
      (in_left (ons s.next ++ jumps) (throughs s.indirect) x (in_right (ons s.next) jumps x (in_map (successor letter) (some_of s.direct) a h)))))
      (no_return s.call) refl

  named_leads : s.indirect ≡ true → (a : ℕ) → Contains names a → IsAtPlace p.machine.narrow a → LeadsTo p q.at a
  named_leads t a h e =
      let x : Successor = successor letter a in
      let g : Contains (throughs true) x = in_map (successor letter) names a h in
      along x (listed_here x e (in_left (ons s.next ++ jumps ++ throughs s.indirect) (backs s.call) x
      (in_right (ons s.next ++ jumps) (throughs s.indirect) x (subst (λ (z : Bool). Contains (throughs z) x) (sym t) g))))
      (no_return s.call) refl

  -- the stack after the row
  pushed : (call : Bool) → s.call ≡ call → Returns p (after_call call row.length q.at q.stack)
  pushed false t b h e = old b h e
  pushed true t b (suc i, l, h) e = old b (i, omega arith, h) e
  pushed true t b (zero, l, h) e =
      let x : Successor = successor ReturnLetter b in
      let g : Contains (backs true) x = (0, omega arith, ap (successor ReturnLetter) h) in (
        q.at,
        address,
        listed_here x e (in_right (ons s.next ++ jumps ++ throughs s.indirect) (backs s.call) x (subst (λ (z : Bool). Contains (backs z) x) (sym t) g)),
      )

  may : s.indirect ≡ true → s.call ≡ false → may_return p q.at ≡ true
  may i c = ap (returns_by q.at) is ∙ ap (λ z. z && not s.call) i ∙ ap not c

  mapped : (stack : List ℕ) → Returns p stack → (l : List ℕ) → ((a : ℕ) → Contains l a → IsAtPlace p.machine.narrow a → LeadsTo p q.at a) →
      (t : EdgeEnd) → Contains (map (λ a. ToAddress stack a) l) t → IsPath p q.at t
  mapped stack h l leads t c =
      let m = of_map (λ a. ToAddress stack a) l t c in subst (IsPath p q.at) m.2 (λ e. (leads m.0 m.1 e, h))

  returned : may_return p q.at ≡ true → (l : List ℕ) → Returns p l → (t : EdgeEnd) → Contains (return_ends l) t → IsPath p q.at t
  returned m [] h t (zero, l, e) = subst (IsPath p q.at) e m
  returned m [] h t (suc i, l, e) = absurd (omega arith)
  returned m (top ∷ below) h t (suc i, l, e) = absurd (omega arith)
  returned m (top ∷ below) h t (zero, l, e) =
      subst (IsPath p q.at) e (λ g. (let r = h top (0, omega arith, refl) g in (back m r.1 r.2, λ b c. h b (there top below b c))))

  indirect : (call : Bool) → s.call ≡ call → s.indirect ≡ true → (t : EdgeEnd) → Contains (indirect_ends call row.length q.at q.stack names) t → IsPath p q.at t
  indirect true c i t h = mapped (after_call true row.length q.at q.stack) (pushed true c) names (named_leads i) t h
  indirect false c i t h =
      let rest : List ℕ = filter (λ a. not (is_top q.stack a)) names in
      elim (split_in (return_ends q.stack) (map (λ a. ToAddress q.stack a) rest) t h) [
        | inl g ↦ returned (may i c) q.stack old t g
        | inr g ↦ mapped q.stack old rest (λ a n. named_leads i a (of_filter (λ a. not (is_top q.stack a)) names a n).0) t g
      ]

  through : (b : Bool) → s.indirect ≡ b → (t : EdgeEnd) → Contains (if b then indirect_ends s.call row.length q.at q.stack names else []) t → IsPath p q.at t
  through false i t h = none_in t h
  through true i t h = indirect s.call refl i t h

  fallen : (b : Bool) → s.next ≡ b → (t : EdgeEnd) → Contains (if b then ToAddress q.stack behind ∷ [] else []) t → IsPath p q.at t
  fallen false n t h = none_in t h
  fallen true n t h = mapped q.stack old (behind ∷ []) (next_leads true n) t h

  of_row : (t : EdgeEnd) → Contains (edges_of p q row s) t → IsPath p q.at t
  of_row t h = elim (split_in (jump_ends p q row s) (fall_ends q row s) t h) [
    | inr g ↦ fallen s.next refl t g
    | inl g ↦ elim (split_in (map (λ a. ToAddress (after_call s.call row.length q.at q.stack) a) (some_of s.direct)) (if s.indirect
        then indirect_ends s.call row.length q.at q.stack names else []) t g) [
          | inl d ↦ mapped (after_call s.call row.length q.at q.stack) (pushed s.call refl) (some_of s.direct) direct_leads t d
          | inr i ↦ through s.indirect refl t i
        ]
  ]

-- a point at an address of the graph
module _ (p : Program) (q : points.Point) (address : IsAddress p q.at) (old : Returns p q.stack) where
  by_row : (o : Option Row) → file_row p q.at ≡ o → (t : EdgeEnd) → Contains (edges_by p q o) t → IsPath p q.at t
  by_row None is t h = none_in t h
  by_row (Some row) is t h = of_row p row q is address old t h

  of_edges : (t : EdgeEnd) → Contains (edges p q) t → IsPath p q.at t × (leads_on p.machine.narrow t ≡ true)
  of_edges t h =
      let all : List EdgeEnd = edges_by p q (file_row p q.at) in
      let it = of_filter (leads_on p.machine.narrow) all t (of_distinct (filter (leads_on p.machine.narrow) all) t h) in
      (by_row (file_row p q.at) refl t it.0, it.1)

  led : (stack : List ℕ) (a : ℕ) → Contains (edges p q) (ToAddress stack a) → LeadsTo p q.at a × Returns p stack
  led stack a h = let it = of_edges (ToAddress stack a) h in it.0 (same_number (a % unit p.machine.narrow) 0 it.1)

module _ (f : Frame) (k : ℕ) where
  abbrev p : Program
  p = f.program

  abbrev IsIn : ℕ → List ℕ → Type 0
  IsIn a stack = IsAddress p a × Returns p stack

  topped : (l : List ℕ) → Returns p l → (stack : List ℕ) (a : ℕ) → Contains (filter (leads_on p.machine.narrow) (top_ends l)) (ToAddress stack a) → IsIn a stack
  topped [] h stack a c = none_in (ToAddress stack a) c
  topped (to ∷ below) h stack a c =
      let it = of_filter (leads_on p.machine.narrow) (ToAddress below to ∷ []) (ToAddress stack a) c in
      at_top it.0 (same_number (a % unit p.machine.narrow) 0 it.1)
    where
      at_of : EdgeEnd → ℕ
      at_of ToExit = 0
      at_of (ToAddress s b) = b

      stack_of : EdgeEnd → List ℕ
      stack_of ToExit = []
      stack_of (ToAddress s b) = s

      at_top : Contains (ToAddress below to ∷ []) (ToAddress stack a) → IsAtPlace p.machine.narrow a → IsIn a stack
      at_top (suc i, l, e) g = absurd (omega arith)
      at_top (zero, l, e) g =
          let same : to ≡ a = ap at_of e in
          let r = h a (0, omega arith, same) g in
          (listed r.1 r.2, λ b i. h b (there to below b (subst (λ (z : List ℕ). Contains z b) (sym (ap stack_of e)) i)))

  by_kind : (contract cut : Bool) (q : Point) → IsAddress p q.at → Returns p q.stack → (stack : List ℕ) (a : ℕ) →
      Contains (if contract then filter (leads_on p.machine.narrow) (top_ends q.stack) else if cut then [] else edges p (triple q)) (ToAddress stack a) →
      IsIn a stack
  by_kind true cut q at h stack a c = topped q.stack h stack a c
  by_kind false true q at h stack a c = none_in (ToAddress stack a) c
  by_kind false false q at h stack a c = let l = led p (triple q) at h stack a c in (leads_address p q.at a at l.0, l.1)

  ended : (b : Bool) (q : Point) (stack : List ℕ) (a : ℕ) → IsIn a stack →
      let e : Point = if b then first_of p.entry (AtHead stack a) else point_to (is_contract_end f q stack a) q stack a in IsIn e.at e.stack
  ended true q stack a h = h
  ended false q stack a h = h

  -- its address is one of the graph, and so is each one on its stack at which a row can stand
  pub of_point : (q : Point) → IsPoint f k q → IsIn q.at q.stack
  of_point q first = (entry, λ b h e. none_in b h)
  of_point q (entry_head h) = (entry, λ b h e. none_in b h)
  of_point q (next {q = from} {stack} {a} is edge l) =
      let old = of_point from is in ended (is_head f a) from stack a (by_kind from.contract (is_cut f from) from old.0 old.1 stack a edge)

  -- an edge of the row at a point is a static path, and where it is the exit, the row may return
  pub leads : (q : Point) → IsPoint f k q → (stack : List ℕ) (a : ℕ) → Contains (edges p (triple q)) (ToAddress stack a) → LeadsTo p q.at a
  leads q is stack a h = let old = of_point q is in (led p (triple q) old.0 old.1 stack a h).0

  pub exits : (q : Point) → IsPoint f k q → Contains (edges p (triple q)) ToExit → may_return p q.at ≡ true
  exits q is h = let old = of_point q is in (of_edges p (triple q) old.0 old.1 ToExit h).0
