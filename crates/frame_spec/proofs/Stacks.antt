-- The addresses on a stack are those that calls push.
use Rattle.std.proofs.Common.{◌≡◌, inl, inr, ℕ, zero, suc, ◌^◌, ◌<◌, ◌%◌, refl, sym, subst, arith, List, [], ◌∷◌, Option, Some, None, Bool, true, false}
use Rattle.std.specs.Prelude.{Contains, not, if◌then◌else◌, map, filter}
use Rattle.std.proofs.lemmas.Bool.{eq-eqb}
use Rattle.word_spec.specs.Words.{add}
use Rattle.machine_spec.specs.Machine.{unit, is_place, IsAtPlace, Row, Successors, How}
use Rattle.word_spec.specs.State.{State}
use Rattle.bilv_spec.specs.Run.{Program, named, some_of}
use Rattle.bilv_spec.specs.Points as points
use Rattle.bilv_spec.specs.Points.{EdgeEnd, ToAddress, ToExit, edges, edges_of, edges_by, jump_ends, fall_ends, indirect_ends, return_ends, after_call, is_top, leads_on, file_row, file_word}
use Rattle.bilv_spec.proofs.PointSteps.{same_number}
use Rattle.bilv_spec.proofs.PointsInGraph.{none_in, split_in, of_filter, of_map, of_distinct}
use Rattle.frame_spec.specs.Frames.{Frame, is_head}
use Rattle.frame_spec.specs.FramePoints.{AtHead, Point, IsPoint, first, entry_head, next, IsAnchor, first_of, point_to, is_contract_end, is_cut, top_ends, triple}
use Rattle.frame_spec.proofs.Steps.{IsStacked}

-- the address after a row at a place, of a length that is one, is a place
pub pushed_place : (narrow : Bool) (a length : ℕ) → IsAtPlace narrow length → IsAtPlace narrow a → IsAtPlace narrow (add 32 a length)
pushed_place true a length h g = omega (arith, h, g)
pushed_place false a length h g = omega (arith, h, g)

-- a place passes the test
pub place_passes : (narrow : Bool) (a : ℕ) → IsAtPlace narrow a → is_place narrow a ≡ true
place_passes narrow a h = eq-eqb (a % unit narrow) 0 h

-- each of these addresses has a property
abbrev pub AreAll : (ℕ → Type 0) → List ℕ → Type 0
AreAll P [] = Unit {0}
AreAll P (a ∷ rest) = P a × AreAll P rest

-- where edges lead, what is on the stack has the property
abbrev IsEndIn : (ℕ → Type 0) → EdgeEnd → Type 0
IsEndIn P ToExit = Unit {0}
IsEndIn P (ToAddress stack a) = AreAll P stack

module _ (P : ℕ → Type 0) (p : Program) (q : points.Point) (row : Row) (s : Successors) (old : AreAll P q.stack) (push : P (add 32 q.at row.length)) where
  abbrev names : List ℕ
  names = named p (file_word p) row q.at

  pushed : (call : Bool) → AreAll P (after_call call row.length q.at q.stack)
  pushed true = (push, old)
  pushed false = old

  returned : (l : List ℕ) → AreAll P l → (t : EdgeEnd) → Contains (return_ends l) t → IsEndIn P t
  returned [] h t (zero, l, e) = subst (IsEndIn P) e tt
  returned [] h t (suc i, l, e) = absurd (omega arith)
  returned (top ∷ below) h t (zero, l, e) = subst (IsEndIn P) e h.1
  returned (top ∷ below) h t (suc i, l, e) = absurd (omega arith)

  mapped : (stack : List ℕ) → AreAll P stack → (l : List ℕ) (t : EdgeEnd) → Contains (map (λ a. ToAddress stack a) l) t → IsEndIn P t
  mapped stack h l t c = let m = of_map (λ a. ToAddress stack a) l t c in subst (IsEndIn P) m.2 h

  indirect : (call : Bool) (t : EdgeEnd) → Contains (indirect_ends call row.length q.at q.stack names) t → IsEndIn P t
  indirect true t c = mapped (after_call true row.length q.at q.stack) (pushed true) names t c
  indirect false t c =
      let rest : List ℕ = filter (λ a. not (is_top q.stack a)) names in
      elim (split_in (return_ends q.stack) (map (λ a. ToAddress q.stack a) rest) t c) [
        | inl g ↦ returned q.stack old t g
        | inr g ↦ mapped q.stack old rest t g
      ]

  through : (b : Bool) (t : EdgeEnd) → Contains (if b then indirect_ends s.call row.length q.at q.stack names else []) t → IsEndIn P t
  through true t c = indirect s.call t c
  through false t c = none_in t c

  fallen : (b : Bool) (t : EdgeEnd) → Contains (if b then ToAddress q.stack (add 32 q.at row.length) ∷ [] else []) t → IsEndIn P t
  fallen true t (zero, l, e) = subst (IsEndIn P) e old
  fallen true t (suc i, l, e) = absurd (omega arith)
  fallen false t c = none_in t c

  of_row : (t : EdgeEnd) → Contains (edges_of p q row s) t → IsEndIn P t
  of_row t c = elim (split_in (jump_ends p q row s) (fall_ends q row s) t c) [
    | inr g ↦ fallen s.next t g
    | inl g ↦ elim (split_in (map (λ a. ToAddress (after_call s.call row.length q.at q.stack) a) (some_of s.direct)) (if s.indirect
        then indirect_ends s.call row.length q.at q.stack names else []) t g) [
          | inl d ↦ mapped (after_call s.call row.length q.at q.stack) (pushed s.call) (some_of s.direct) t d
          | inr i ↦ through s.indirect t i
        ]
  ]

-- At: what is known of addresses of points. push: so what a call from there pushes has the property.
module _ (At P : ℕ → Type 0) (f : Frame) (led : (a : ℕ) → IsAtPlace f.program.machine.narrow a → At a) (entry : At f.program.entry)
    (push : (a : ℕ) (row : Row) → At a → file_row f.program a ≡ Some row → P (add 32 a row.length)) (k : ℕ) where
  by_row : (q : points.Point) (o : Option Row) → file_row f.program q.at ≡ o → At q.at → AreAll P q.stack → (t : EdgeEnd) →
      Contains (edges_by f.program q o) t → IsEndIn P t
  by_row q None e a h t c = none_in t c
  by_row q (Some row) e a h t c = of_row P f.program q row (row.successors q.at) h (push q.at row a e) t c

  of_edges : (q : points.Point) → At q.at → AreAll P q.stack → (t : EdgeEnd) → Contains (edges f.program q) t →
      IsEndIn P t × (leads_on f.program.machine.narrow t ≡ true)
  of_edges q a h t c =
      let all : List EdgeEnd = edges_by f.program q (file_row f.program q.at) in
      let it = of_filter (leads_on f.program.machine.narrow) all t (of_distinct (filter (leads_on f.program.machine.narrow) all) t c) in
      (by_row q (file_row f.program q.at) refl a h t it.0, it.1)

  of_top : (l : List ℕ) → AreAll P l → (t : EdgeEnd) → Contains (top_ends l) t → IsEndIn P t
  of_top [] h t c = none_in t c
  of_top (to ∷ below) h t (zero, l, e) = subst (IsEndIn P) e h.1
  of_top (to ∷ below) h t (suc i, l, e) = absurd (omega arith)

  by_kind : (contract cut : Bool) (q : Point) → At q.at → AreAll P q.stack → (t : EdgeEnd) →
      Contains (if contract then filter (leads_on f.program.machine.narrow) (top_ends q.stack) else if cut then [] else edges f.program (triple q)) t →
      IsEndIn P t × (leads_on f.program.machine.narrow t ≡ true)
  by_kind true cut q a h t c = let it = of_filter (leads_on f.program.machine.narrow) (top_ends q.stack) t c in (of_top q.stack h t it.0, it.1)
  by_kind false true q a h t c = none_in t c
  by_kind false false q a h t c = of_edges (triple q) a h t c

  ended : (b : Bool) (q : Point) (stack : List ℕ) (a : ℕ) → AreAll P stack → At a →
      let e : Point = if b then first_of f.program.entry (AtHead stack a) else point_to (is_contract_end f q stack a) q stack a in At e.at × AreAll P e.stack
  ended true q stack a h i = (i, h)
  ended false q stack a h i = (i, h)

  -- so the stack of a point
  pub of_point : (q : Point) → IsPoint f k q → At q.at × AreAll P q.stack
  of_point q first = (entry, tt)
  of_point q (entry_head h) = (entry, tt)
  of_point q (next {q = from} {stack} {a} is edge l) =
      let old = of_point from is in
      let it = by_kind from.contract (is_cut f from) from old.0 old.1 (ToAddress stack a) edge in
      ended (is_head f a) from stack a it.0 (led a (same_number (a % unit f.program.machine.narrow) 0 it.1))

-- and the stack behind a step
pub stacked : (P : ℕ → Type 0) (row : Row) (old : State) (before : List ℕ) (how : How) (after : List ℕ) → IsStacked row old before how after →
    P (add 32 old.pc row.length) → AreAll P before → AreAll P after
stacked P row old before how after (inl (i, e)) new h = subst (AreAll P) (sym e) (new, h)
stacked P row old before how after (inr (inl e)) new h = subst (AreAll P) (sym e) h
stacked P row old before how after (inr (inr (top, e))) new h = let l : AreAll P (top ∷ after) = subst (AreAll P) e h in l.1

-- they are words
abbrev pub AreWords : List ℕ → Type 0
AreWords = AreAll (λ a. a < 2 ^ 32)

pub anchor_words : (f : Frame) (k : ℕ) (stack : List ℕ) (a : ℕ) → IsAnchor f k (AtHead stack a) → AreWords stack
anchor_words f k stack a h =
    (of_point (λ a. Unit {0}) (λ a. a < 2 ^ 32) f (λ a l. tt) tt (λ a row i e. omega arith) k (first_of f.program.entry (AtHead stack a)) h).1

pub stacked_words : (row : Row) (old : State) (before : List ℕ) (how : How) (after : List ℕ) → IsStacked row old before how after → AreWords before →
    AreWords after
stacked_words row old before how after s h = stacked (λ a. a < 2 ^ 32) row old before how after s (omega arith) h
