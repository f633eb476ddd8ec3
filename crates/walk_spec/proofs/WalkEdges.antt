-- Which edge of a point is taken first.
use Rattle.std.proofs.Common.{◌≡◌, inl, inr, ℕ, zero, suc, ◌%◌, refl, ap, sym, ◌∙◌, subst, arith, List, [], ◌∷◌, ◌++◌, Option, Some, None, Bool, true, false}
use Rattle.std.specs.Prelude.{Contains, ◌==◌, ◌&&◌, ◌||◌, not, nat_eq, if◌then◌else◌, map, filter}
use Rattle.std.specs.List.{list_any}
use Rattle.std.proofs.lemmas.Bool.Decides.{nat_tests}
use Rattle.std.proofs.lemmas.Bool.{eqb-true, eq-eqb}
use Rattle.word_spec.specs.Words.{add}
use Rattle.word_spec.specs.State.{State}
use Rattle.machine_spec.specs.Machine.{unit, is_place, IsAtPlace, Row, Successors, How, On, Direct, DirectCall, Indirect, IndirectCall, Goes}
use Rattle.machine_spec.specs.MachineLaws.{IsSuccessor}
use Rattle.bilv_spec.specs.Run.{Program, Step, Stops, Arrives, named, is_named, some_of, exit, exit_or, return_or, allowed, leave, transfer}
use Rattle.machine_spec.specs.Endings.{JumpFails}
use Rattle.bilv_spec.specs.Points.{Point, EdgeEnd, ToAddress, ToExit, edges, edges_by, fall_ends, jump_ends, indirect_ends, return_ends, after_call, is_top, leads_on, distinct, same_end, file_row, file_word}
use Rattle.bilv_spec.specs.Questions.{by_file}
use Rattle.walk_spec.specs.Unrolled.{UnrolledProgram, edge_address}
use Rattle.walk_spec.specs.Unrolling.{address_of, jumps}
use Rattle.bilv_spec.proofs.Pigeons.{truth}
use Rattle.bilv_spec.proofs.PointSteps.{same_number, and_both, same_end_is, same_end_self, here, there}
use Rattle.bilv_spec.proofs.PointTests.{any_is, not_any}

-- the first end that passes a test
abbrev pub first_hit : (EdgeEnd → Bool) → List EdgeEnd → Option EdgeEnd
first_hit h [] = None
first_hit h (t ∷ ts) = if h t then Some t else first_hit h ts

abbrev pub or_else : Option EdgeEnd → Option EdgeEnd → Option EdgeEnd
or_else None o = o
or_else (Some t) o = Some t

if_or : (b : Bool) (t : EdgeEnd) (o q : Option EdgeEnd) → (if b then Some t else or_else o q) ≡ or_else (if b then Some t else o) q
if_or true t o q = refl
if_or false t o q = refl

module _ (h : EdgeEnd → Bool) where
  drop_by : (f : EdgeEnd → Bool) (t : EdgeEnd) (ts : List EdgeEnd) (b : Bool) → f t ≡ b → (f t ≡ false → h t ≡ false) →
      first_hit h (filter f ts) ≡ first_hit h ts →
      first_hit h (if b then t ∷ filter f ts else filter f ts) ≡ (if h t then Some t else first_hit h ts)
  drop_by f t ts true e g i = ap (λ z. if h t then Some t else z) i
  drop_by f t ts false e g i = i ∙ ap (λ z. if z then Some t else first_hit h ts) (sym (g e))

  pub drops : (f : EdgeEnd → Bool) (ts : List EdgeEnd) → ((t : EdgeEnd) → f t ≡ false → h t ≡ false) → first_hit h (filter f ts) ≡ first_hit h ts
  drops f [] g = refl
  drops f (t ∷ ts) g = drop_by f t ts (f t) refl (g t) (drops f ts g)

  once_by : (t : EdgeEnd) (ts : List EdgeEnd) (b : Bool) → h t ≡ b → first_hit h (distinct ts) ≡ first_hit h ts →
      (if b then Some t else first_hit h (filter (λ u. not (same_end t u)) (distinct ts))) ≡ (if b then Some t else first_hit h ts)
  once_by t ts true e i = refl
  once_by t ts false e i = drops (λ u. not (same_end t u)) (distinct ts) (λ u n. by (same_end t u) refl n u refl) ∙ i
    where
      by : (b : Bool) {u : EdgeEnd} → same_end t u ≡ b → not b ≡ false → (v : EdgeEnd) → v ≡ u → h v ≡ false
      by true {u} s n v q = ap h (q ∙ sym (same_end_is t u s)) ∙ e
      by false {u} s n v q = absurd (let c : true ≡ false = n in cc)

  pub once : (ts : List EdgeEnd) → first_hit h (distinct ts) ≡ first_hit h ts
  once [] = refl
  once (t ∷ ts) = once_by t ts (h t) refl (once ts)

  pub appended : (xs ys : List EdgeEnd) → first_hit h (xs ++ ys) ≡ or_else (first_hit h xs) (first_hit h ys)
  appended [] ys = refl
  appended (t ∷ xs) ys = ap (λ z. if h t then Some t else z) (appended xs ys) ∙ if_or (h t) t (first_hit h xs) (first_hit h ys)

  pub no_hit : (xs : List EdgeEnd) → ((t : EdgeEnd) → Contains xs t → h t ≡ false) → first_hit h xs ≡ None
  no_hit [] g = refl
  no_hit (t ∷ xs) g = ap (λ z. if z then Some t else first_hit h xs) (g t (here t xs)) ∙ no_hit xs (λ u c. g u (there t xs u c))

  last_by : (t f : EdgeEnd) (xs : List EdgeEnd) (b : Bool) → h t ≡ b → (h t ≡ true → t ≡ f) → first_hit h (xs ++ f ∷ []) ≡ Some f →
      (if b then Some t else first_hit h (xs ++ f ∷ [])) ≡ Some f
  last_by t f xs true e g i = ap Some (g e)
  last_by t f xs false e g i = i

  pub last_hit : (xs : List EdgeEnd) (f : EdgeEnd) → h f ≡ true → ((t : EdgeEnd) → h t ≡ true → t ≡ f) → first_hit h (xs ++ f ∷ []) ≡ Some f
  last_hit [] f e g = ap (λ z. if z then Some f else None) e
  last_hit (t ∷ xs) f e g = last_by t f xs (h t) refl (g t) (last_hit xs f e g)

  found_by : (t u : EdgeEnd) (xs : List EdgeEnd) (b : Bool) → h t ≡ b → (first_hit h xs ≡ Some u → (h u ≡ true) × Contains xs u) →
      (if b then Some t else first_hit h xs) ≡ Some u →
      (h u ≡ true) × Contains (t ∷ xs) u
  found_by t u xs true e g i = let s : t ≡ u = cc in (subst (λ (z : EdgeEnd). h z ≡ true) s e, (0, omega arith, s))
  found_by t u xs false e g i = let q = g i in (q.0, there t xs u q.1)

  -- the first end that passes is one, and passes
  pub found : (xs : List EdgeEnd) (u : EdgeEnd) → first_hit h xs ≡ Some u → (h u ≡ true) × Contains xs u
  found [] u e = absurd (cc)
  found (t ∷ xs) u e = found_by t u xs (h t) refl (found xs u) e

  missed_by : (t u : EdgeEnd) (xs : List EdgeEnd) (b : Bool) → h t ≡ b → (first_hit h xs ≡ None → Contains xs u → h u ≡ false) →
      (if b then Some t else first_hit h xs) ≡ None → Contains (t ∷ xs) u →
      h u ≡ false
  missed_by t u xs true e g i c = absurd (cc)
  missed_by t u xs false e g i (zero, l, q) = ap h (sym q) ∙ e
  missed_by t u xs false e g i (suc n, l, q) = g i (n, omega arith, q)

  pub missed : (xs : List EdgeEnd) (u : EdgeEnd) → first_hit h xs ≡ None → Contains xs u → h u ≡ false
  missed [] u e (i, l, q) = absurd (omega arith)
  missed (t ∷ xs) u e c = missed_by t u xs (h t) refl (missed xs u) e c

pub same_hits : (h g : EdgeEnd → Bool) (xs : List EdgeEnd) → ((t : EdgeEnd) → Contains xs t → h t ≡ g t) → first_hit h xs ≡ first_hit g xs
same_hits h g [] f = refl
same_hits h g (t ∷ xs) f =
    ap (λ z. if z then Some t else first_hit h xs) (f t (here t xs)) ∙ ap (λ z. if g t then Some t else z) (same_hits h g xs (λ u c. f u (there t xs u c)))

any_end : (xs : List EdgeEnd) (t : EdgeEnd) → Contains xs t → list_any (same_end t) xs ≡ true
any_end xs t c = elim (truth (list_any (same_end t) xs)) [
  | inl e ↦ e
  | inr e ↦ absurd (not_any (same_end t) xs e t c (same_end_self t))
]

-- the ends of a row's edges from a point, and which of them a list that goes on may take
module _ (p : Program) (u : UnrolledProgram) (entry old new : State) (row : Row) (turns : ℕ) (stack : List ℕ) (link : u.link ≡ p.machine.link) where
  abbrev pub point : Point
  point = record { turns = turns; stack = stack; at = old.pc }

  abbrev s : Successors
  s = row.successors old.pc

  abbrev names : List ℕ
  names = named p (file_word p) row old.pc

  abbrev jump_list : List EdgeEnd
  jump_list = jump_ends p point row s

  abbrev fall_list : List EdgeEnd
  fall_list = fall_ends point row s

  abbrev lands : EdgeEnd → Bool
  lands t = new.pc == edge_address u entry (address_of t)

  -- the list goes on along the edge of an end
  abbrev pub takes : Bool → EdgeEnd → Bool
  takes jumped t = (if jumped then list_any (same_end t) jump_list else list_any (same_end t) fall_list) && lands t

  -- the step that an end stands for
  abbrev pub step_of : Option EdgeEnd → Step
  step_of None = Stops JumpFails
  step_of (Some ToExit) = exit (by_file p) entry new
  step_of (Some (ToAddress l a)) = Arrives (record { state = new; stack = l })

  off_edge : IsAtPlace p.machine.narrow new.pc → (jumped : Bool) (t : EdgeEnd) → leads_on p.machine.narrow t ≡ false → takes jumped t ≡ false
  off_edge e jumped ToExit h = absurd (let c : true ≡ false = h in cc)
  off_edge e jumped (ToAddress l a) h = by (if jumped then list_any (same_end (ToAddress l a)) jump_list
      else list_any (same_end (ToAddress l a)) fall_list) (other (new.pc == a) refl)
    where
      other : (b : Bool) → (new.pc == a) ≡ b → b ≡ false
      other true q =
          let same : new.pc ≡ a = eqb-true new.pc a q in
          let there : is_place p.machine.narrow a ≡ true = eq-eqb (a % unit p.machine.narrow) 0 (subst (IsAtPlace p.machine.narrow) same e) in
          sym there ∙ h
      other false q = refl

      by : (b : Bool) → (new.pc == a) ≡ false → (b && (new.pc == a)) ≡ false
      by true g = g
      by false g = refl

  -- the first of the point's edges is the first of the row's ends
  pub of_row : IsAtPlace p.machine.narrow new.pc → file_row p old.pc ≡ Some row → (jumped : Bool) →
      first_hit (takes jumped) (edges p point) ≡ first_hit (takes jumped) (jump_list ++ fall_list)
  of_row e is jumped =
      ap (λ z. first_hit (takes jumped) (distinct (filter (leads_on p.machine.narrow) (edges_by p point z)))) is
      ∙ once (takes jumped) (filter (leads_on p.machine.narrow) (jump_list ++ fall_list))
      ∙ drops (takes jumped) (leads_on p.machine.narrow) (jump_list ++ fall_list) (off_edge e jumped)

  -- a row that goes on without a jump
  fall_end : EdgeEnd
  fall_end = ToAddress stack (add 32 old.pc row.length)

  and_true : (b : Bool) → b ≡ true → (true && b) ≡ true
  and_true b e = e

  only_fall : (ends : List EdgeEnd) → ends ≡ ToAddress stack (add 32 old.pc row.length) ∷ [] → (t : EdgeEnd) → (list_any (same_end t) ends && lands t) ≡ true →
      t ≡ ToAddress stack (add 32 old.pc row.length)
  only_fall ends e t h =
      let q = any_is (same_end t) ends (and_both (list_any (same_end t) ends) (lands t) h).0 in
      same_end_is t q.0 q.2 ∙ one q.0 (subst (λ (z : List EdgeEnd). Contains z q.0) e q.1)
    where
      one : (x : EdgeEnd) → Contains (ToAddress stack (add 32 old.pc row.length) ∷ []) x → x ≡ ToAddress stack (add 32 old.pc row.length)
      one x (zero, l, r) = sym r
      one x (suc i, l, r) = absurd (omega arith)

  pub falls : s.next ≡ true → new.pc ≡ add 32 old.pc row.length →
      first_hit (takes false) (jump_list ++ fall_list) ≡ Some (ToAddress stack (add 32 old.pc row.length))
  falls n e =
      let f : EdgeEnd = ToAddress stack (add 32 old.pc row.length) in
      let ends : fall_list ≡ f ∷ [] = ap (λ z. if z then f ∷ [] else []) n in
      let lands_there : lands f ≡ true = grind (arith, nat_tests) in
      let in_there : list_any (same_end f) fall_list ≡ true = any_end fall_list f (subst (λ (z : List EdgeEnd). Contains z f) (sym ends) (here f [])) in
      ap (λ z. first_hit (takes false) (jump_list ++ z)) ends
      ∙ last_hit (takes false) jump_list f (ap (λ z. z && lands f) in_there ∙ and_true (lands f) lands_there) (λ t h. only_fall fall_list ends t h)

  -- a row that jumps takes the first of its jumps' ends that lands there
  by_landing : (t : EdgeEnd) → Contains jump_list t → takes true t ≡ lands t
  by_landing t c = ap (λ z. z && lands t) (any_end jump_list t c)

  not_else : first_hit lands jump_list ≡ None → (t : EdgeEnd) → takes true t ≡ false
  not_else e t = elim (truth (takes true t)) [
    | inr f ↦ f
    | inl h ↦ (let b = and_both (list_any (same_end t) jump_list) (lands t) h in
        let q = any_is (same_end t) jump_list b.0 in
        let same : t ≡ q.0 = same_end_is t q.0 q.2 in
        let no : lands q.0 ≡ false = missed lands jump_list q.0 e q.1 in
        let yes_it : lands q.0 ≡ true = ap lands (sym same) ∙ b.1 in
        absurd (let c : false ≡ true = sym no ∙ yes_it in cc))
  ]

  or_none : (o : Option EdgeEnd) → first_hit lands jump_list ≡ o → or_else o (first_hit (takes true) fall_list) ≡ o
  or_none (Some t) e = refl
  or_none None e = no_hit (takes true) fall_list (λ t c. not_else e t)

  pub leaps : first_hit (takes true) (jump_list ++ fall_list) ≡ first_hit lands jump_list
  leaps =
      appended (takes true) jump_list fall_list
      ∙ ap (λ z. or_else z (first_hit (takes true) fall_list)) (same_hits (takes true) lands jump_list by_landing)
      ∙ or_none (first_hit lands jump_list) refl

  landed : (a : ℕ) → new.pc ≡ a → (new.pc == a) ≡ true
  landed a e = grind (arith, nat_tests)

  direct : (call : Bool) → s.direct ≡ Some new.pc → s.call ≡ call →
      first_hit lands jump_list ≡ Some (ToAddress (after_call call row.length old.pc stack) new.pc)
  direct call d c =
      ap (λ z. first_hit lands (map (λ a. ToAddress (after_call s.call row.length old.pc stack) a) (some_of z)
      ++ (if s.indirect then indirect_ends s.call row.length old.pc stack names else []))) d
      ∙ ap (λ z. if z then Some (ToAddress (after_call s.call row.length old.pc stack) new.pc)
      else first_hit lands (if s.indirect then indirect_ends s.call row.length old.pc stack names else [])) (landed new.pc refl)
      ∙ ap (λ z. Some (ToAddress (after_call z row.length old.pc stack) new.pc)) c

  indirect : (call : Bool) → s.direct ≡ None → s.indirect ≡ true → s.call ≡ call →
      first_hit lands jump_list ≡ first_hit lands (indirect_ends call row.length old.pc stack names)
  indirect call d i c =
      ap (λ z. first_hit lands (map (λ a. ToAddress (after_call s.call row.length old.pc stack) a) (some_of z)
      ++ (if s.indirect then indirect_ends s.call row.length old.pc stack names else []))) d
      ∙ ap (λ z. first_hit lands (if z then indirect_ends s.call row.length old.pc stack names else [])) i
      ∙ ap (λ z. first_hit lands (indirect_ends z row.length old.pc stack names)) c

  -- named targets
  named_by : (l : List ℕ) (a : ℕ) (xs : List ℕ) (b : Bool) → (new.pc == a) ≡ b →
      first_hit lands (map (λ a. ToAddress l a) xs) ≡ (if list_any (nat_eq new.pc) xs then Some (ToAddress l new.pc) else None) →
      (if b then Some (ToAddress l a) else first_hit lands (map (λ a. ToAddress l a) xs)) ≡ (if b ||
      list_any (nat_eq new.pc) xs then Some (ToAddress l new.pc) else None)
  named_by l a xs true e i = ap (λ z. Some (ToAddress l z)) (sym (same_number new.pc a e))
  named_by l a xs false e i = i

  named_hit : (l xs : List ℕ) → first_hit lands (map (λ a. ToAddress l a) xs) ≡ (if list_any (nat_eq new.pc) xs then Some (ToAddress l new.pc) else None)
  named_hit l [] = refl
  named_hit l (a ∷ xs) = named_by l a xs (new.pc == a) refl (named_hit l xs)

  any_by : (f : ℕ → Bool) (a : ℕ) (xs : List ℕ) (b : Bool) → f a ≡ b → (f a ≡ false → nat_eq new.pc a ≡ false) →
      list_any (nat_eq new.pc) (filter f xs) ≡ list_any (nat_eq new.pc) xs →
      list_any (nat_eq new.pc) (if b then a ∷ filter f xs else filter f xs) ≡ (nat_eq new.pc a || list_any (nat_eq new.pc) xs)
  any_by f a xs true e g i = ap (λ z. nat_eq new.pc a || z) i
  any_by f a xs false e g i = i ∙ ap (λ z. z || list_any (nat_eq new.pc) xs) (sym (g e))

  any_drops : (f : ℕ → Bool) (xs : List ℕ) → ((a : ℕ) → f a ≡ false → nat_eq new.pc a ≡ false) →
      list_any (nat_eq new.pc) (filter f xs) ≡ list_any (nat_eq new.pc) xs
  any_drops f [] g = refl
  any_drops f (a ∷ xs) g = any_by f a xs (f a) refl (g a) (any_drops f xs g)

  passing : (l : List ℕ) → is_top l new.pc ≡ false → (a : ℕ) → not (is_top l a) ≡ false → nat_eq new.pc a ≡ false
  passing [] e a h = absurd (let c : true ≡ false = h in cc)
  passing (top ∷ below) e a h = elim (truth (top == a)) [
    | inr f ↦ absurd (let c : true ≡ false = ap not (sym f) ∙ h in cc)
    | inl t ↦ (let q : top ≡ a = same_number top a t in grind (arith, nat_tests))
  ]

  -- the ends that the notes name, where the stack's top is not gone to
  abbrev others : List ℕ → List EdgeEnd
  others l = map (λ a. ToAddress l a) (filter (λ a. not (is_top l a)) names)

  others_hit : (l : List ℕ) → is_top l new.pc ≡ false → first_hit lands (others l)
      ≡ (if is_named (by_file p) old row new.pc then Some (ToAddress l new.pc) else None)
  others_hit l e =
      named_hit l (filter (λ a. not (is_top l a)) names)
      ∙ ap (λ z. if z then Some (ToAddress l new.pc) else None) (any_drops (λ a. not (is_top l a)) names (passing l e))

  step_named : (b : Bool) (l : List ℕ) → step_of (if b then Some (ToAddress l new.pc) else None) ≡ allowed b (record { state = new; stack = l })
  step_named true l = refl
  step_named false l = refl

  leave_empty : (b : Bool) → (new.pc == edge_address u entry None) ≡ b →
      step_of (if b then Some ToExit else first_hit lands (others [])) ≡ exit_or b (by_file p) entry new (is_named (by_file p) old row new.pc)
  leave_empty true e = refl
  leave_empty false e = ap step_of (others_hit [] refl) ∙ step_named (is_named (by_file p) old row new.pc) []

  leave_full : (top : ℕ) (below : List ℕ) (b : Bool) → (new.pc == top) ≡ b →
      step_of (if b then Some (ToAddress below top) else first_hit lands (others (top ∷ below)))
      ≡ return_or b top below new (is_named (by_file p) old row new.pc)
  leave_full top below true e = refl
  leave_full top below false e =
      let differs : (top == new.pc) ≡ false = grind (arith, nat_tests) in
      ap step_of (others_hit (top ∷ below) differs) ∙ step_named (is_named (by_file p) old row new.pc) (top ∷ below)

  leaves : (l : List ℕ) → step_of (first_hit lands (return_ends l ++ others l)) ≡ leave (by_file p) entry row old l new
  leaves [] = leave_empty (new.pc == entry.regs u.link) refl ∙ ap
      (λ z. exit_or (new.pc == entry.regs z) (by_file p) entry new (is_named (by_file p) old row new.pc)) link
  leaves (top ∷ below) = leave_full top below (new.pc == top) refl

  calls : step_of (first_hit lands (indirect_ends true row.length old.pc stack names))
      ≡ allowed (is_named (by_file p) old row new.pc) (record { state = new; stack = add 32 old.pc row.length ∷ stack })
  calls = ap step_of (named_hit (add 32 old.pc row.length ∷ stack) names) ∙ step_named (is_named (by_file p) old row new.pc) (add 32 old.pc row.length ∷ stack)

  -- the first edge that is taken is the step's
  pub step_is : (how : How) → IsSuccessor s (Goes how new) → (how ≡ On → new.pc ≡ add 32 old.pc row.length) → (s.indirect ≡ true → s.direct ≡ None) →
      step_of (first_hit (takes (jumps how)) (jump_list ++ fall_list)) ≡ transfer (by_file p) entry row old stack how new
  step_is On h n w = ap step_of (falls h (n refl))
  step_is Direct h n w = ap step_of (leaps ∙ direct false h.0 h.1)
  step_is DirectCall h n w = ap step_of (leaps ∙ direct true h.0 h.1)
  step_is Indirect h n w = ap step_of (leaps ∙ indirect false (w h.0) h.0 h.1) ∙ leaves stack
  step_is IndirectCall h n w = ap step_of (leaps ∙ indirect true (w h.0) h.0 h.1) ∙ calls
