-- Whatever the order of a point's edges is, as long as the exit comes first, the same one is taken.
use Rattle.std.proofs.Common.{◌≡◌, ◌⊎◌, ⊎_elim, inl, inr, ℕ, zero, suc, refl, ap, sym, ◌∙◌, subst, arith, List, [], ◌∷◌, ◌++◌, Option, Some, None, Bool, true, false}
use Rattle.std.specs.Prelude.{Contains, ◌==◌, ◌&&◌, ◌↔◌, not, if◌then◌else◌, map, filter}
use Rattle.std.specs.List.{list_any}
use Rattle.std.proofs.lemmas.Bool.Decides.{nat_tests}
use Rattle.word_spec.specs.Words.{add}
use Rattle.word_spec.specs.State.{State}
use Rattle.machine_spec.specs.Machine.{Row, Successors}
use Rattle.bilv_spec.specs.Run.{Program, named, some_of}
use Rattle.bilv_spec.specs.Points.{Point, EdgeEnd, ToAddress, ToExit, edges, edges_by, indirect_ends, return_ends, after_call, is_top, leads_on, distinct, same_end, file_row, file_word}
use Rattle.walk_spec.specs.Unrolled.{UnrolledProgram, edge_address}
use Rattle.walk_spec.specs.Unrolling.{address_of, AreEdgesOf}
use Rattle.bilv_spec.proofs.PointSteps.{same_number, and_both, same_end_is}
use Rattle.bilv_spec.proofs.PointTests.{any_is}
use Rattle.bilv_spec.proofs.PointsInGraph.{split_in, of_filter, of_map}
use Rattle.walk_spec.proofs.WalkEdges.{first_hit, found, missed, takes}

-- the exit is in the list only as its first end
abbrev ExitLeads : List EdgeEnd → Type 0
ExitLeads [] = Unit {0}
ExitLeads (t ∷ rest) = Contains rest ToExit → ⊥

-- the exit is not in the list
abbrev NoExit : List EdgeEnd → Type 0
NoExit xs = Contains xs ToExit → ⊥

leads_none : (xs : List EdgeEnd) → NoExit xs → ExitLeads xs
leads_none [] n = tt
leads_none (t ∷ rest) n = λ (i, l, e). n (suc i, omega arith, e)

-- an end that passes is the exit or this one
abbrev Passes : (EdgeEnd → Bool) → List EdgeEnd → EdgeEnd → Type 0
Passes h xs w = (t : EdgeEnd) → Contains xs t → h t ≡ true → (t ≡ ToExit) ⊎ (t ≡ w)

module _ (h : EdgeEnd → Bool) where
  exit_hit : (xs : List EdgeEnd) → ExitLeads xs → Contains xs ToExit → h ToExit ≡ true → first_hit h xs ≡ Some ToExit
  exit_hit [] e (n, l, q) g = absurd (omega arith)
  exit_hit (t ∷ rest) e (zero, l, q) g = ap (λ z. if h z then Some z else first_hit h rest) q ∙ ap (λ z. if z then Some ToExit else first_hit h rest) g
  exit_hit (t ∷ rest) e (suc n, l, q) g = absurd (e (n, omega arith, q))

  -- lists with the same ends, of which one besides the exit may pass, hit the same
  same_by : (xs ys : List EdgeEnd) (w : EdgeEnd) (o q : Option EdgeEnd) → first_hit h xs ≡ o → first_hit h ys ≡ q →
      ((t : EdgeEnd) → Contains xs t ↔ Contains ys t) →
      ExitLeads xs → ExitLeads ys → Passes h xs w → o ≡ q
  same_by xs ys w None None a b s lx ly p = refl
  same_by xs ys w None (Some v) a b s lx ly p =
      let f = found h ys v b in let n = missed h xs v a ((s v).1 f.1) in absurd (let c : true ≡ false = sym f.0 ∙ n in cc)
  same_by xs ys w (Some t) None a b s lx ly p =
      let f = found h xs t a in let n = missed h ys t b ((s t).0 f.1) in absurd (let c : true ≡ false = sym f.0 ∙ n in cc)
  same_by xs ys w (Some t) (Some v) a b s lx ly p =
      let f = found h xs t a in
      let g = found h ys v b in
      elim (p t f.1 f.0) [
        | inl e ↦ (let inside : Contains ys ToExit = subst (λ (z : EdgeEnd). Contains ys z) e ((s t).0 f.1) in
            ap Some e ∙ sym (exit_hit ys ly inside (ap h (sym e) ∙ f.0)) ∙ b)
        | inr e ↦ elim (p v ((s v).1 g.1) g.0) [
          | inl d ↦ (let inside : Contains xs ToExit = subst (λ (z : EdgeEnd). Contains xs z) d ((s v).1 g.1) in
              sym a ∙ exit_hit xs lx inside (ap h (sym d) ∙ g.0) ∙ ap Some (sym d))
          | inr d ↦ ap Some (e ∙ sym d)
        ]
      ]

  pub same_hit : (xs ys : List EdgeEnd) (w : EdgeEnd) → ((t : EdgeEnd) → Contains xs t ↔ Contains ys t) → ExitLeads xs → ExitLeads ys → Passes h xs w →
      first_hit h xs ≡ first_hit h ys
  same_hit xs ys w s lx ly p = same_by xs ys w (first_hit h xs) (first_hit h ys) refl refl s lx ly p

-- what is kept of a list, or is distinct of it, is in it
kept_leads : (f : EdgeEnd → Bool) (xs : List EdgeEnd) → ExitLeads xs → ExitLeads (filter f xs)
kept_leads f [] e = tt
kept_leads f (t ∷ rest) e = by (f t)
  where
    by : (b : Bool) → ExitLeads (if b then t ∷ filter f rest else filter f rest)
    by true = λ c. e (of_filter f rest ToExit c).0
    by false = leads_none (filter f rest) (λ c. e (of_filter f rest ToExit c).0)

of_distinct : (xs : List EdgeEnd) (t : EdgeEnd) → Contains (distinct xs) t → Contains xs t
of_distinct [] t c = c
of_distinct (x ∷ xs) t (zero, l, e) = (0, omega arith, e)
of_distinct (x ∷ xs) t (suc n, l, e) =
    let q = of_distinct xs t (of_filter (λ u. not (same_end x u)) (distinct xs) t (n, omega arith, e)).0 in (suc q.0, let m = q.1 in omega arith, q.2)

distinct_leads : (xs : List EdgeEnd) → ExitLeads xs → ExitLeads (distinct xs)
distinct_leads [] e = tt
distinct_leads (t ∷ rest) e = λ c. e (of_distinct rest ToExit (of_filter (λ u. not (same_end t u)) (distinct rest) ToExit c).0)

-- ends at addresses
addresses_only : (stack xs : List ℕ) → NoExit (map (λ a. ToAddress stack a) xs)
addresses_only stack xs c = let q = of_map (λ a. ToAddress stack a) xs ToExit c in let e = q.2 in absurd (cc)

append_none : (xs ys : List EdgeEnd) → NoExit xs → NoExit ys → NoExit (xs ++ ys)
append_none xs ys f g c = ⊎_elim f g (split_in xs ys ToExit c)

module _ (p : Program) (u : UnrolledProgram) (entry old new : State) (row : Row) (turns : ℕ) (stack : List ℕ) (link : u.link ≡ p.machine.link) where
  abbrev point : Point
  point = record { turns = turns; stack = stack; at = old.pc }

  abbrev s : Successors
  s = row.successors old.pc

  abbrev names : List ℕ
  names = named p (file_word p) row old.pc

  abbrev lands : EdgeEnd → Bool
  lands t = new.pc == edge_address u entry (address_of t)

  -- the ends of the jumps, by what the successors are
  abbrev leaps : Option ℕ → Bool → Bool → List EdgeEnd
  leaps d i c = map (λ a. ToAddress (after_call c row.length old.pc stack) a) (some_of d) ++ (if i then indirect_ends c row.length old.pc stack names else [])

  abbrev falls : Bool → List EdgeEnd
  falls n = if n then ToAddress stack (add 32 old.pc row.length) ∷ [] else []

  fall_none : (n : Bool) → NoExit (falls n)
  fall_none true (zero, l, e) = absurd (cc)
  fall_none true (suc i, l, e) = absurd (omega arith)
  fall_none false (i, l, e) = absurd (omega arith)

  -- the exit is the first of the row's ends
  leave_first : (n : Bool) (l : List ℕ) → ExitLeads ((return_ends l ++ map (λ a. ToAddress l a) (filter (λ a. not (is_top l a)) names)) ++ falls n)
  leave_first n [] = append_none (map (λ a. ToAddress [] a) (filter (λ a. not (is_top [] a)) names)) (falls n) (addresses_only [] (filter
      (λ a. not (is_top [] a)) names)) (fall_none n)
  leave_first n (top ∷ below) =
      append_none (map (λ a. ToAddress (top ∷ below) a) (filter (λ a. not (is_top (top ∷ below) a)) names)) (falls n)
      (addresses_only (top ∷ below) (filter (λ a. not (is_top (top ∷ below) a)) names)) (fall_none n)

  exit_first : (d : Option ℕ) (i c n : Bool) → (i ≡ true → d ≡ None) → ExitLeads (leaps d i c ++ falls n)
  exit_first (Some a) true c n w = absurd (let e = w refl in cc)
  exit_first (Some a) false c n w = fall_none n
  exit_first None false c n w = leads_none (falls n) (fall_none n)
  exit_first None true true n w =
      leads_none (map (λ a. ToAddress (after_call true row.length old.pc stack) a) names ++ falls n)
      (append_none (map (λ a. ToAddress (after_call true row.length old.pc stack) a) names) (falls n)
      (addresses_only (after_call true row.length old.pc stack) names) (fall_none n))
  exit_first None true false n w = leave_first n stack

  edges_first : file_row p old.pc ≡ Some row → (s.indirect ≡ true → s.direct ≡ None) → ExitLeads (edges p point)
  edges_first is w =
      subst (λ (z : Option Row). ExitLeads (distinct (filter (leads_on p.machine.narrow) (edges_by p point z)))) (sym is)
      (distinct_leads (filter (leads_on p.machine.narrow) (leaps s.direct s.indirect s.call ++ falls s.next))
      (kept_leads (leads_on p.machine.narrow) (leaps s.direct s.indirect s.call ++ falls s.next) (exit_first s.direct s.indirect s.call s.next w)))

  -- besides the exit one end is landed on
  to_address : (l xs : List ℕ) → Passes lands (map (λ a. ToAddress l a) xs) (ToAddress l new.pc)
  to_address l xs t c h =
      let q = of_map (λ a. ToAddress l a) xs t c in
      let e : new.pc ≡ q.0 = same_number new.pc q.0 (ap lands q.2 ∙ h) in
      inr (sym q.2 ∙ ap (ToAddress l) (sym e))

  leave_one : (l : List ℕ) → (w : EdgeEnd) × Passes lands (return_ends l ++ map (λ a. ToAddress l a) (filter (λ a. not (is_top l a)) names)) w
  leave_one [] = (ToAddress [] new.pc, passes)
    where
      passes : Passes lands (return_ends [] ++ map (λ a. ToAddress [] a) (filter (λ a. not (is_top [] a)) names)) (ToAddress [] new.pc)
      passes t (zero, l, e) h = inl (sym e)
      passes t (suc n, l, e) h = to_address [] (filter (λ a. not (is_top [] a)) names) t (n, omega arith, e) h
  leave_one (top ∷ below) = by (new.pc == top) refl
    where
      rest : List EdgeEnd
      rest = map (λ a. ToAddress (top ∷ below) a) (filter (λ a. not (is_top (top ∷ below) a)) names)

      other : (t : EdgeEnd) → Contains (map (λ a. ToAddress (top ∷ below) a) (filter (λ a. not (is_top (top ∷ below) a)) names)) t → lands t ≡ true →
          (new.pc == top) ≡ true → ⊥
      other t c h e =
          let q = of_map (λ a. ToAddress (top ∷ below) a) (filter (λ a. not (is_top (top ∷ below) a)) names) t c in
          let f = (of_filter (λ a. not (is_top (top ∷ below) a)) names q.0 q.1).1 in
          let a : new.pc ≡ q.0 = same_number new.pc q.0 (ap lands q.2 ∙ h) in
          let b : new.pc ≡ top = same_number new.pc top e in
          let d : (top == q.0) ≡ true = grind (arith, nat_tests) in
          let g : false ≡ true = ap not (sym d) ∙ f in cc

      by : (b : Bool) → (new.pc == top) ≡ b →
          (w : EdgeEnd) × Passes lands (return_ends (top ∷ below) ++ map (λ a. ToAddress (top ∷ below) a) (filter (λ a. not (is_top (top ∷ below) a)) names)) w
      by true e = (ToAddress below top, passes)
        where
          passes : Passes lands (return_ends (top ∷ below) ++ map
              (λ a. ToAddress (top ∷ below) a) (filter (λ a. not (is_top (top ∷ below) a)) names)) (ToAddress below top)
          passes t (zero, l, q) h = inr (sym q)
          passes t (suc n, l, q) h = absurd (other t (n, omega arith, q) h e)
      by false e = (ToAddress (top ∷ below) new.pc, passes)
        where
          passes : Passes lands (return_ends (top ∷ below) ++ map
              (λ a. ToAddress (top ∷ below) a) (filter (λ a. not (is_top (top ∷ below) a)) names)) (ToAddress (top ∷ below) new.pc)
          passes t (zero, l, q) h = absurd (let g : false ≡ true = sym e ∙ ap lands q ∙ h in cc)
          passes t (suc n, l, q) h = to_address (top ∷ below) (filter (λ a. not (is_top (top ∷ below) a)) names) t (n, omega arith, q) h

  leap_one : (d : Option ℕ) (i c : Bool) → (i ≡ true → d ≡ None) → (w : EdgeEnd) × Passes lands (leaps d i c) w
  leap_one (Some a) true c w = absurd (let e = w refl in cc)
  leap_one (Some a) false c w = (ToAddress (after_call c row.length old.pc stack) a, passes)
    where
      passes : Passes lands (leaps (Some a) false c) (ToAddress (after_call c row.length old.pc stack) a)
      passes t (zero, l, e) h = inr (sym e)
      passes t (suc n, l, e) h = absurd (omega arith)
  leap_one None false c w = (ToExit, λ t (n, l, e) h. absurd (omega arith))
  leap_one None true true w = (ToAddress (after_call true row.length old.pc stack) new.pc, to_address (after_call true row.length old.pc stack) names)
  leap_one None true false w = leave_one stack

  fall_one : (n : Bool) → Passes lands (falls n) (ToAddress stack (add 32 old.pc row.length))
  fall_one true t (zero, l, e) h = inr (sym e)
  fall_one true t (suc n, l, e) h = absurd (omega arith)
  fall_one false t (n, l, e) h = absurd (omega arith)

  -- an end of one of the lists that is landed on is in the list
  inside : (xs : List EdgeEnd) (w t : EdgeEnd) → Passes lands xs w → (list_any (same_end t) xs && lands t) ≡ true → (t ≡ ToExit) ⊎ (t ≡ w)
  inside xs w t f h =
      let b = and_both (list_any (same_end t) xs) (lands t) h in
      let q = any_is (same_end t) xs b.0 in
      let e : t ≡ q.0 = same_end_is t q.0 q.2 in
      f t (subst (λ (z : EdgeEnd). Contains xs z) (sym e) q.1) b.1

  one_taken : (jumped : Bool) → (s.indirect ≡ true → s.direct ≡ None) → (w : EdgeEnd) ×
      ((t : EdgeEnd) → takes p u entry old new row turns stack link jumped t ≡ true → (t ≡ ToExit) ⊎ (t ≡ w))
  one_taken true one_way =
      let q = leap_one s.direct s.indirect s.call one_way in (q.0, λ t h. inside (leaps s.direct s.indirect s.call) q.0 t q.1 h)
  one_taken false one_way = (
    ToAddress stack (add 32 old.pc row.length),
    λ t h. inside (falls s.next) (ToAddress stack (add 32 old.pc row.length)) t (fall_one s.next) h,
  )

  leads_of : (ends xs : List EdgeEnd) → ends ≡ xs → AreEdgesOf p point ends → ExitLeads xs
  leads_of ends [] e are = tt
  leads_of ends (t ∷ rest) e are = are.exit_first t rest e

  -- so the edges in another order hit the same
  pub any_order : file_row p old.pc ≡ Some row → (s.indirect ≡ true → s.direct ≡ None) → (jumped : Bool) (ends : List EdgeEnd) → AreEdgesOf p point ends →
      first_hit (takes p u entry old new row turns stack link jumped) (edges p point) ≡ first_hit (takes p u entry old new row turns stack link jumped) ends
  any_order is one_way jumped ends are =
      let q = one_taken jumped one_way in
      same_hit (takes p u entry old new row turns stack link jumped) (edges p point) ends q.0 are.same (edges_first is one_way) (leads_of ends ends refl are)
      (λ t c h. q.1 t h)
