-- An unrolled frame of a frame is walkable.
use Rattle.std.proofs.Common.{◌≡◌, refl, ap, sym, ◌∙◌, subst, arith, ℕ, zero, suc, ◌^◌, ◌≤◌, ◌<◌, [], ◌∷◌, ◌++◌, List, Option, Some, None, Bool, true, false, length}
use Rattle.std.specs.Prelude.{Contains, ◌==◌, ◌&&◌, not, map, filter, sum_by, nat_eq, if◌then◌else◌}
use Rattle.std.specs.List.{list_any, AllZip}
use Rattle.std.proofs.lemmas.List.Sums.{sum_by-cons}
use Rattle.word_spec.specs.Words.{bit}
use Rattle.machine_spec.specs.Machine.{Row}
use Rattle.machine_spec.specs.MachineLaws.{IsFitted}
use Rattle.machine_spec.specs.StateText.{Layout}
use Rattle.bilv_spec.specs.Notes.{Expr, NoteLine, Assert}
use Rattle.bilv_spec.specs.Run.{fetchable}
use Rattle.bilv_spec.specs.Points.{EdgeEnd, ToAddress, ToExit, file_row, file_word}
use Rattle.bilv_spec.proofs.PointsInGraph.{none_in, of_filter, of_map}
use Rattle.walk_spec.specs.Unrolling.{AreReadableBy, IsLaidOut, IsSized, stop_event}
use Rattle.walk_spec.proofs.Walkable.{count_of}
use Rattle.frame_spec.specs.Frames.{Contract, Frame, OfStep, contract_at, is_head, is_invariant, invariants_of}
use Rattle.frame_spec.specs.FramePoints.{Anchor, AtEntry, AtHead, Point, first, is_cut, is_entry}
use Rattle.frame_spec.specs.FrameWalk.{Aim, OnTo, IntoHead, Outward, OverLast, ToEvent, Cutting, Nowhere, Check, PointExit, FalseCheck, FalseNeed, Always, Raising, WritingKept, WritingOutside, NotGiven, Unaligned, Root, UnrolledPoint, UnrolledProgram, point_at}
use Rattle.frame_spec.specs.FrameUnrolling.{IsAim, IsEdge, AreAlong, DoesContract, DoesAddress, DoesBy, checks_by, checks_of, outside_exit, assumed_at, own_of, IsUnrolling}
use Rattle.frame_spec.proofs.Rooted.{same_place, unrolling_is_rooted}
use Rattle.frame_laws.specs.FramePrices.{line_of, lines_into, is_outward, goes_out}
use Rattle.frame_terms.specs.PassiveFrames.{inputs_of, CanRead, CanReadLines, CanReadWrites, CanReadOwn, CanReadAction}
use Rattle.frame_terms.specs.FrameLayers.{FrameUnrollingIsWalkable}
use Rattle.frame_terms.proofs.CountedStores.{counts_gift, keeps_row}

abbrev outs : List PointExit → ℕ
outs xs = sum_by (λ x. bit (goes_out x)) xs

at_most : (b : Bool) → bit b ≤ 1
at_most true = omega arith
at_most false = omega arith

-- exits of which at most so many lead out, and whose lines can be read
record Fine (u : UnrolledProgram) (most : ℕ) (xs : List PointExit) : Type 0 where
  out : outs xs ≤ most
  read : (x : PointExit) → Contains xs x → (e : Expr) → Contains (line_of x) e → CanRead u e

module _ (u : UnrolledProgram) where
  abbrev Reads : PointExit → Type 0
  Reads x = (e : Expr) → Contains (line_of x) e → CanRead u e

  none_read : (x : PointExit) → line_of x ≡ [] → Reads x
  none_read x n e c = none_in e (subst (λ (z : List Expr). Contains z e) n c)

  one_read : (says : Expr) → CanRead u says → (e : Expr) → Contains (says ∷ []) e → CanRead u e
  one_read says h e (zero, l, same) = subst (CanRead u) same h
  one_read says h e (suc n, l, same) = absurd (omega arith)

  also_read : (x : PointExit) (xs : List PointExit) → Reads x → ((y : PointExit) → Contains xs y → Reads y) → (y : PointExit) → Contains (x ∷ xs) y → Reads y
  also_read x xs h f y (zero, l, same) = subst Reads same h
  also_read x xs h f y (suc n, l, same) = f y (n, omega arith, same)

  nothing : Fine u 1 []
  nothing = record { out = omega arith; read = λ x c. none_in x c }

  -- one exit more that does not lead out
  idle : (x : PointExit) (xs : List PointExit) → goes_out x ≡ false → Reads x → Fine u 1 xs → Fine u 1 (x ∷ xs)
  idle x xs o h f = record {
    out = let s = sum_by-cons (λ y. bit (goes_out y)) x xs in let z : bit (goes_out x) ≡ 0 = ap bit o in let m = f.out in omega arith;
    read = also_read x xs h f.read;
  }

  outside : (o : Option Contract) (xs : List PointExit) → Fine u 1 xs → Fine u 1 (outside_exit o ++ xs)
  outside None xs f = f
  outside (Some x) xs f = idle WritingOutside xs refl (none_read WritingOutside refl) f

  checks : (l : List Check) (xs : List PointExit) → ((x : Check) → Contains l x → CanRead u x.says) → Fine u 1 xs → Fine u 1 (map FalseCheck l ++ xs)
  checks [] xs h f = f
  checks (x ∷ l) xs h f =
      idle (FalseCheck x) (map FalseCheck l ++ xs) refl (one_read x.says (h x (0, omega arith, refl)))
      (checks l xs (λ y (n, m, e). h y (suc n, omega arith, e)) f)

  needs : (l : List NoteLine) (xs : List PointExit) → CanReadLines u l → Fine u 1 xs → Fine u 1 (map (λ l. FalseNeed l.line l.says) l ++ xs)
  needs [] xs h f = f
  needs (x ∷ l) xs h f =
      idle (FalseNeed x.line x.says) (map (λ l. FalseNeed l.line l.says) l ++ xs) refl (one_read x.says (h x (0, omega arith, refl)))
      (needs l xs (λ y (n, m, e). h y (suc n, omega arith, e)) f)

-- the invariants are among the assert lines
module _ (f : Frame) where
  kept_of : (a : Assert) (l : List Assert) (b : Bool) (x : Assert) → (Contains (invariants_of f l) x → Contains l x) →
      Contains (if b then a ∷ invariants_of f l else invariants_of f l) x → Contains (a ∷ l) x
  kept_of a l true x h (zero, m, e) = (0, omega arith, e)
  kept_of a l true x h (suc n, m, e) = let q = h (n, omega arith, e) in let r = q.1 in (suc q.0, omega arith, q.2)
  kept_of a l false x h c = let q = h c in let r = q.1 in (suc q.0, omega arith, q.2)

  of_invariants : (l : List Assert) (x : Assert) → Contains (invariants_of f l) x → Contains l x
  of_invariants [] x c = c
  of_invariants (a ∷ l) x c = kept_of a l (is_invariant f a) x (of_invariants l x) c

module _ (f : Frame) (contracts : List Contract) (k : ℕ) (u : UnrolledProgram) (readable : AreReadableBy (inputs_of u) f.program.notes) where
  -- checks are assert lines
  checked : (g : Assert → Bool) (x : Check) → Contains (checks_by f (filter g f.program.notes.asserts)) x → CanRead u x.says
  checked g x c =
      let q = of_map (λ a. record { line = a.line; invariant = is_invariant f a; says = a.says }) (filter g f.program.notes.asserts) x c in
      subst (λ (z : Check). CanRead u z.says) q.2 (readable.asserts q.0 (of_filter g f.program.notes.asserts q.0 q.1).0)

  assumed : (a : Anchor) → CanReadLines u (assumed_at f a)
  assumed AtEntry x c = none_in x c
  assumed (AtHead stack a) x c =
      let l = invariants_of f f.program.notes.asserts in
      let q = of_map (λ x. record { line = x.line; says = x.says }) (filter (λ x. x.at == a) l) x c in
      let m = of_filter (λ x. x.at == a) l q.0 q.1 in
      subst (λ (z : NoteLine). CanRead u z.says) q.2 (readable.asserts q.0 (of_invariants f f.program.notes.asserts q.0 m.0))

  module _ (i : ℕ) (q : Point) (row : Option Row) where
    out_only : (t : EdgeEnd) (aim : Aim) → IsAim f k u i q t aim → (t ≡ ToExit → ⊥) → is_outward aim ≡ false
    out_only t (OnTo n) h ne = refl
    out_only t (IntoHead at l) h ne = refl
    out_only t OverLast h ne = refl
    out_only t (ToEvent e) h ne = refl
    out_only t Cutting h ne = refl
    out_only t Nowhere h ne = refl
    out_only ToExit Outward h ne = absurd (ne refl)
    out_only (ToAddress stack a) Outward h ne = absurd h

    aim_reads : (t : EdgeEnd) (aim : Aim) → IsAim f k u i q t aim → (e : Expr) → Contains (lines_into aim) e → CanRead u e
    aim_reads t (OnTo n) h e c = none_in e c
    aim_reads t Outward h e c = none_in e c
    aim_reads t OverLast h e c = none_in e c
    aim_reads t (ToEvent v) h e c = none_in e c
    aim_reads t Cutting h e c = none_in e c
    aim_reads t Nowhere h e c = none_in e c
    aim_reads ToExit (IntoHead at l) h e c = absurd h
    aim_reads (ToAddress stack a) (IntoHead at l) h e c =
        let g = of_map (λ x. x.says) l e c in
        subst (CanRead u) g.2 (checked (λ x. x.at == a) g.0 (subst (λ (z : List Check). Contains z g.0) h.2 g.1))

    edge_reads : (t : EdgeEnd) (x : PointExit) → IsEdge f k u i q row t x → Reads u x
    edge_reads t x h = subst (Reads u) (sym h.is) (aim_reads t h.aim h.leads)

    edges_read : (ends : List EdgeEnd) (xs : List PointExit) → AllZip (IsEdge f k u i q row) ends xs → (x : PointExit) → Contains xs x → Reads u x
    edges_read [] [] z x c = none_in x c
    edges_read [] (y ∷ xs) z x c = absurd z
    edges_read (t ∷ ends) [] z x c = absurd z
    edges_read (t ∷ ends) (y ∷ xs) z x c = also_read u y xs (edge_reads t y z.0) (edges_read ends xs z.1) x c

    none_out : (ends : List EdgeEnd) (xs : List PointExit) → AllZip (IsEdge f k u i q row) ends xs → (Contains ends ToExit → ⊥) → outs xs ≡ 0
    none_out [] [] z n = refl
    none_out [] (x ∷ xs) z n = absurd z
    none_out (t ∷ ends) [] z n = absurd z
    none_out (t ∷ ends) (x ∷ xs) z n =
        let h = sum_by-cons (λ y. bit (goes_out y)) x xs in
        let here : bit (goes_out x) ≡ 0 = ap (λ y. bit (goes_out y)) z.0.is ∙ ap bit (out_only t z.0.aim z.0.leads (λ e. n (0, omega arith, e))) in
        let rest = none_out ends xs z.1 (λ (j, l, e). n (suc j, omega arith, e)) in
        omega arith

    one_out : (ends : List EdgeEnd) (xs : List PointExit) → AllZip (IsEdge f k u i q row) ends xs →
        ((t : EdgeEnd) (rest : List EdgeEnd) → ends ≡ t ∷ rest → Contains rest ToExit → ⊥) → outs xs ≤ 1
    one_out [] [] z alone = omega arith
    one_out [] (x ∷ xs) z alone = absurd z
    one_out (t ∷ ends) [] z alone = absurd z
    one_out (t ∷ ends) (x ∷ xs) z alone =
        let h = sum_by-cons (λ y. bit (goes_out y)) x xs in
        let here = at_most (goes_out x) in
        let rest = none_out ends xs z.1 (alone t ends refl) in
        omega arith

    along : (xs : List PointExit) → AreAlong f k u i q row xs → Fine u 1 xs
    along xs (ends, are, zip) = record { out = one_out ends xs zip are.exit_first; read = edges_read ends xs zip }

  module _ (steps : (a : ℕ) (x : Contract) → contract_at f.stepped a ≡ Some x →
      CanReadLines u x.needs × CanReadLines u x.gives × CanReadWrites u x.writes) where
    contract_fine : (i : ℕ) (q : UnrolledPoint) (o : Option Contract) (stack : List ℕ) → contract_at f.stepped q.point.at ≡ o →
        DoesContract f k u i q o stack → Fine u 1 q.exits × CanReadAction u q.does
    contract_fine i q None stack at d = absurd d
    contract_fine i q (Some x) [] at d = absurd d
    contract_fine i q (Some x) (to ∷ below) at d =
        let r = steps q.point.at x at in (
          subst (Fine u 1) (sym d.2) (needs u x.needs (WritingKept ∷ (outside_exit f.own ++ NotGiven ∷ d.0)) r.0
              (idle u WritingKept (outside_exit f.own ++ NotGiven ∷ d.0) refl (none_read u WritingKept refl)
              (outside u f.own (NotGiven ∷ d.0) (idle u NotGiven d.0 refl (none_read u NotGiven refl) (along i q.point None d.0 d.3))))),
          subst (CanReadAction u) (sym d.1) (r.1, r.2),
        )

    ended : (q : UnrolledPoint) (x : PointExit) → goes_out x ≡ false → line_of x ≡ [] → q.exits ≡ map FalseCheck (checks_of f q.point) ++ x ∷ [] →
        Fine u 1 q.exits
    ended q x o n e =
        subst (Fine u 1) (sym e) (checks u (checks_of f q.point) (x ∷ [])
        (checked (λ x. (x.at == q.point.at) && not (is_head f q.point.at && not (is_entry q.point.anchor) && is_invariant f x)))
        (idle u x [] o (none_read u x n) (nothing u)))

    address_fine : (i : ℕ) (q : UnrolledPoint) (o : Option Row) → DoesAddress f contracts k u i q o → Fine u 1 q.exits × CanReadAction u q.does
    address_fine i q None d =
        let stop : PointExit = Always (ToEvent (OfStep (stop_event (fetchable f.program (file_word f.program q.point.at) q.point.at)))) in
        (ended q stop refl refl d.1, subst (CanReadAction u) (sym d.0) tt)
    address_fine i q (Some row) d = (
      subst (Fine u 1) (sym d.1) (checks u (checks_of f q.point) (Raising ∷ WritingKept ∷ (outside_exit f.own ++ Unaligned ∷ d.0))
          (checked (λ x. (x.at == q.point.at) && not (is_head f q.point.at && not (is_entry q.point.anchor) && is_invariant f x)))
          (idle u Raising (WritingKept ∷ (outside_exit f.own ++ Unaligned ∷ d.0)) refl (none_read u Raising refl)
          (idle u WritingKept (outside_exit f.own ++ Unaligned ∷ d.0) refl (none_read u WritingKept refl)
          (outside u f.own (Unaligned ∷ d.0) (idle u Unaligned d.0 refl (none_read u Unaligned refl) (along i q.point (Some row) d.0 d.2)))))),
      subst (CanReadAction u) (sym d.3.lists.1) tt,
    )

    place_fine : (contract cut : Bool) (i : ℕ) (q : UnrolledPoint) → DoesBy contract cut f contracts k u i q → Fine u 1 q.exits × CanReadAction u q.does
    place_fine true cut i q d = contract_fine i q (contract_at f.stepped q.point.at) q.point.stack refl d
    place_fine false true i q d = (ended q (Always Cutting) refl refl d.1, subst (CanReadAction u) (sym d.0) tt)
    place_fine false false i q d = address_fine i q (file_row f.program q.point.at) d

own_read : (u : UnrolledProgram) (o : Option Contract) → ((x : Contract) → o ≡ Some x → CanReadLines u x.gives × CanReadWrites u x.writes) →
    CanReadOwn u (own_of o)
own_read u None h = tt
own_read u (Some x) h = h x refl

-- the entry's root is at place 0
entry_begins : (f : Frame) (contracts : List Contract) (k : ℕ) (u : UnrolledProgram) → IsUnrolling f contracts k u →
    (x : Root) × Contains u.roots x × (x.place ≡ 0)
entry_begins f contracts k u un =
    let q = un.rooted AtEntry first in
    let l = q.2.place in
    (q.0, q.1, same_place f contracts k u un q.0.place 0 l (omega arith) (q.2.point ∙ sym un.first))

sized : (f : Frame) (u : UnrolledProgram) (form : Layout) → IsFitted f.program.machine form → IsLaidOut form (inputs_of u) → IsSized (inputs_of u)
sized f u form fits laid =
    let count : length u.registers ≡ length form.registers = ap (λ (z : List ℕ). length z) laid.registers ∙ count_of form.first (length form.registers) in
    record {
      enough = subst (λ (z : ℕ). 15 ≤ z) (sym count) fits.enough_registers;
      registers = subst (λ (z : ℕ). z ≤ 31) (sym count) fits.few_registers;
      flags = subst (λ (z : ℕ). z ≤ 4) (sym laid.flags) fits.few_flags;
    }

pub frame_unrolling_is_walkable : FrameUnrollingIsWalkable
frame_unrolling_is_walkable f contracts k u un form fits laid readable own steps entry at =
    let place : (i : ℕ) → i < length u.points → Fine u 1 (point_at u i).exits × CanReadAction u (point_at u i).does =
    λ i l. place_fine f contracts k u readable steps (point_at u i).point.contract (is_cut f (point_at u i).point) i (point_at u i) (un.places i l).does in
    record {
      sized = sized f u form fits laid;
      rooted = unrolling_is_rooted f contracts k u un;
      begins = entry_begins f contracts k u un;
      one_out = λ i l. (place i l).0.out;
      terms = λ i l. (un.places i l).terms;
      at = at;
      runs = un.runs;
      entry = subst (λ (z : ℕ). z < 2 ^ 32) (sym un.entry) entry;
      link = subst (λ (z : ℕ). list_any (nat_eq z) u.registers ≡ true) (sym un.link) (un.registers f.program.machine.link ∙ fits.link);
      requires = λ l c. readable.requires l (subst (λ (z : List NoteLine). Contains z l) un.requires c);
      ensures = λ l c. readable.ensures l (subst (λ (z : List NoteLine). Contains z l) un.ensures c);
      own = subst (CanReadOwn u) (sym un.own) (own_read u f.own own);
      assumes = λ x c.
          (let r = un.roots x c in subst (CanReadLines u) (sym r.2.assumes) (assumed f contracts k u readable r.0));
      exits = λ i x l c. (place i l).0.read x c;
      does = λ i l. (place i l).1;
      gifts = λ i x l e. counts_gift f contracts k u un i x l e;
      kept_stores = λ x own i list l e some. keeps_row f contracts k u un i list l e some;
    }
