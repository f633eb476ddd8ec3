-- A step by the words of the file goes along an edge of its point.
use Rattle.std.proofs.Common.{◌≡◌, inl, inr, ℕ, zero, suc, ◌%◌, refl, ap, sym, ◌∙◌, subst, arith, List, [], ◌∷◌, ◌++◌, Option, Some, None, Bool, true, false}
use Rattle.std.specs.Prelude.{Contains, ◌==◌, ◌&&◌, ◌||◌, not, nat_eq, if◌then◌else◌, map, filter}
use Rattle.std.specs.List.{list_any}
use Rattle.std.specs.Str.{bytes_eq}
use Rattle.std.proofs.lemmas.Bool.Decides.{nat_tests}
use Rattle.std.proofs.lemmas.Slice.Eq.{bytes_eq-Decides}
use Rattle.word_spec.specs.Words.{add}
use Rattle.word_spec.specs.State.{State, IsState}
use Rattle.machine_spec.specs.Machine.{is_place, Row, Successors, How, On, Direct, DirectCall, Indirect, IndirectCall, Outcome, Goes, Raises, Exception, EnvironmentCall, Breakpoint, SoftwareInterrupt, OddHalfword, UnalignedLoad}
use Rattle.machine_spec.specs.MachineLaws.{IsLawful, IsSuccessor, ComesNext, LeavesState}
use Rattle.bilv_spec.specs.Run.{Program, Place, Stops, step, named, is_named, some_of, exit_by, exit_or, return_or, allowed, leave, transfer, aligned_transfer, going_on, after_row, by_row, by_fetch, after_asserts, false_line, false_assert, fetchable, writes_kept, exception_event}
use Rattle.bilv_spec.specs.Points.{Point, EdgeEnd, ToAddress, ToExit, edges, edges_of, jump_ends, edges_by, file_row, file_word, distinct, leads_on, same_end, is_top, after_call, return_ends, indirect_ends}
use Rattle.bilv_spec.specs.Questions.{by_file, point_of}
use Rattle.bilv_spec.specs.PointLaws.{HasLawfulRows, GoesAlong}
use Rattle.bilv_spec.proofs.Pigeons.{truth}

pub same_number : (a b : ℕ) → (a == b) ≡ true → a ≡ b
same_number a b h = grind (arith, nat_tests)

-- where an element stands
module _ {X : Type 0} where
  pub here : (x : X) (xs : List X) → Contains (x ∷ xs) x
  here x xs = (0, omega arith, refl)

  pub there : (y : X) (xs : List X) (x : X) → Contains xs x → Contains (y ∷ xs) x
  there y xs x (i, h, e) = (suc i, omega arith, e)

  pub in_left : (xs ys : List X) (x : X) → Contains xs x → Contains (xs ++ ys) x
  in_left [] ys x (i, h, e) = absurd (omega arith)
  in_left (y ∷ xs) ys x (zero, h, e) = (0, omega arith, e)
  in_left (y ∷ xs) ys x (suc i, h, e) = there y (xs ++ ys) x (in_left xs ys x (i, omega arith, e))

  pub in_right : (xs ys : List X) (x : X) → Contains ys x → Contains (xs ++ ys) x
  in_right [] ys x h = h
  in_right (y ∷ xs) ys x h = there y (xs ++ ys) x (in_right xs ys x h)

  kept_by : (b : Bool) (y : X) (xs : List X) → b ≡ true → Contains (if b then y ∷ xs else xs) y
  kept_by true y xs e = here y xs
  kept_by false y xs e = absurd (cc)

  passed_by : (b : Bool) (y : X) (xs : List X) (x : X) → Contains xs x → Contains (if b then y ∷ xs else xs) x
  passed_by true y xs x h = there y xs x h
  passed_by false y xs x h = h

  pub in_filter : (f : X → Bool) (xs : List X) (x : X) → Contains xs x → f x ≡ true → Contains (filter f xs) x
  in_filter f [] x (i, h, e) t = absurd (omega arith)
  in_filter f (y ∷ xs) x (zero, h, e) t = subst (λ (z : X). Contains (filter f (y ∷ xs)) z) e (kept_by (f y) y (filter f xs) (ap f e ∙ t))
  in_filter f (y ∷ xs) x (suc i, h, e) t = passed_by (f y) y (filter f xs) x (in_filter f xs x (i, omega arith, e) t)

module _ {X Y : Type 0} where
  pub in_map : (f : X → Y) (xs : List X) (x : X) → Contains xs x → Contains (map f xs) (f x)
  in_map f [] x (i, h, e) = absurd (omega arith)
  in_map f (y ∷ xs) x (zero, h, e) = (0, omega arith, ap f e)
  in_map f (y ∷ xs) x (suc i, h, e) = there (f y) (map f xs) (f x) (in_map f xs x (i, omega arith, e))

any_by : (b : Bool) (to a : ℕ) (xs : List ℕ) → nat_eq to a ≡ b → (list_any (nat_eq to) xs ≡ true → Contains xs to) → (b || list_any (nat_eq to) xs) ≡ true →
    Contains (a ∷ xs) to
any_by true to a xs e f h = (0, omega arith, sym (same_number to a e))
any_by false to a xs e f h = there a xs to (f h)

pub in_any : (to : ℕ) (xs : List ℕ) → list_any (nat_eq to) xs ≡ true → Contains xs to
in_any to [] h = absurd (let c : false ≡ true = h in cc)
in_any to (a ∷ xs) h = any_by (nat_eq to a) to a xs refl (in_any to xs) h

pub and_both : (a b : Bool) → (a && b) ≡ true → (a ≡ true) × (b ≡ true)
and_both true b h = (refl, h)
and_both false b h = absurd (let c : false ≡ true = h in cc)

pub same_list : (xs ys : List ℕ) → bytes_eq xs ys ≡ true → xs ≡ ys
same_list xs ys h = grind (arith, bytes_eq-Decides)

same_list_self : (xs : List ℕ) → bytes_eq xs xs ≡ true
same_list_self xs = elim (truth (bytes_eq xs xs)) [ inl e ↦ e | inr e ↦ absurd (grind (arith, bytes_eq-Decides)) ]

pub same_end_self : (t : EdgeEnd) → same_end t t ≡ true
same_end_self ToExit = refl
same_end_self (ToAddress s a) = let e : (a == a) ≡ true = grind (arith, nat_tests) in rw (e, same_list_self s) refl

pub same_end_is : (t u : EdgeEnd) → same_end t u ≡ true → t ≡ u
same_end_is ToExit ToExit h = refl
same_end_is (ToAddress s a) (ToAddress t b) h =
    let q = and_both (a == b) (bytes_eq s t) h in
    ap (λ z. ToAddress z a) (same_list s t q.1) ∙ ap (ToAddress t) (same_number a b q.0)
same_end_is ToExit (ToAddress t b) h = absurd (let c : false ≡ true = h in cc)
same_end_is (ToAddress s a) ToExit h = absurd (let c : false ≡ true = h in cc)

pub in_distinct : (xs : List EdgeEnd) (x : EdgeEnd) → Contains xs x → Contains (distinct xs) x
in_distinct [] x (i, h, e) = absurd (omega arith)
in_distinct (t ∷ xs) x (zero, h, e) = (0, omega arith, e)
in_distinct (t ∷ xs) x (suc i, h, e) = elim (truth (same_end t x)) [
  | inl y ↦ (0, omega arith, same_end_is t x y)
  | inr n ↦ there t (filter (λ u. not (same_end t u)) (distinct xs)) x (in_filter
      (λ u. not (same_end t u)) (distinct xs) x (in_distinct xs x (i, omega arith, e)) (ap not n))
]

module _ (p : Program) (row : Row) (turns at : ℕ) (stack : List ℕ) where
  abbrev point : Point
  point = record { turns = turns; stack = stack; at = at }

  abbrev s : Successors
  s = row.successors at

  abbrev names : List ℕ
  names = named p (file_word p) row at

  abbrev nexts : Bool → List EdgeEnd
  nexts b = if b then ToAddress stack (add 32 at row.length) ∷ [] else []

  abbrev directs : Bool → Option ℕ → List EdgeEnd
  directs call o = map (λ a. ToAddress (after_call call row.length at stack) a) (some_of o)

  abbrev indirects : Bool → Bool → List EdgeEnd
  indirects call b = if b then indirect_ends call row.length at stack names else []

  in_next : s.next ≡ true → Contains (edges_of p point row s) (ToAddress stack (add 32 at row.length))
  in_next e =
      let t : EdgeEnd = ToAddress stack (add 32 at row.length) in
      in_right (jump_ends p point row s) (nexts s.next) t (subst (λ (z : Bool). Contains (nexts z) t) (sym e) (here t []))

  jump_direct : (call : Bool) (a : ℕ) → s.direct ≡ Some a → s.call ≡ call →
      Contains (jump_ends p point row s) (ToAddress (after_call call row.length at stack) a)
  jump_direct call a d c =
      let t : EdgeEnd = ToAddress (after_call call row.length at stack) a in
      in_left (directs s.call s.direct) (indirects s.call s.indirect) t
      (subst (λ (z : Bool). Contains (directs z s.direct) t) (sym c) (subst (λ (z : Option ℕ). Contains (directs call z) t) (sym d) (here t [])))

  jump_indirect : (call : Bool) (t : EdgeEnd) → s.indirect ≡ true → s.call ≡ call → Contains (indirect_ends call row.length at stack names) t →
      Contains (jump_ends p point row s) t
  jump_indirect call t i c h =
      in_right (directs s.call s.direct) (indirects s.call s.indirect) t
      (subst (λ (z : Bool). Contains (indirects s.call z) t) (sym i) (subst (λ (z : Bool). Contains (indirect_ends z row.length at stack names) t) (sym c) h))

  in_direct : (call : Bool) (a : ℕ) → s.direct ≡ Some a → s.call ≡ call → Contains (edges_of p point row s) (ToAddress (after_call call row.length at stack) a)
  in_direct call a d c = in_left (jump_ends p point row s) (nexts s.next) (ToAddress (after_call call row.length at stack) a) (jump_direct call a d c)

  in_indirect : (call : Bool) (t : EdgeEnd) → s.indirect ≡ true → s.call ≡ call → Contains (indirect_ends call row.length at stack names) t →
      Contains (edges_of p point row s) t
  in_indirect call t i c h = in_left (jump_ends p point row s) (nexts s.next) t (jump_indirect call t i c h)

  pub in_edges : file_row p at ≡ Some row → (t : EdgeEnd) → leads_on p.machine.narrow t ≡ true → Contains (edges_of p point row s) t → Contains (edges p point) t
  in_edges e t l h =
      let all : List EdgeEnd = edges_of p point row s in
      subst (λ (z : Option Row). Contains (distinct (filter (leads_on p.machine.narrow) (edges_by p point z))) t) (sym e)
      (in_distinct (filter (leads_on p.machine.narrow) all) t (in_filter (leads_on p.machine.narrow) all t h l))

  named_return : (a : ℕ) → is_top stack a ≡ false → Contains names a → Contains (indirect_ends false row.length at stack names) (ToAddress stack a)
  named_return a e h =
      let passed : List ℕ = filter (λ a. not (is_top stack a)) names in
      in_right (return_ends stack) (map (λ a. ToAddress stack a) passed) (ToAddress stack a)
      (in_map (λ a. ToAddress stack a) passed a (in_filter (λ a. not (is_top stack a)) names a h (ap not e)))

  named_call : (a : ℕ) → Contains names a → Contains (indirect_ends true row.length at stack names) (ToAddress (add 32 at row.length ∷ stack) a)
  named_call a h = in_map (λ a. ToAddress (after_call true row.length at stack) a) names a h

-- an exit is judged where an edge is the exit
exit_along : (p : Program) (q : Point) (o : Option ℕ) (new : State) → Contains (edges p q) ToExit → GoesAlong p q (exit_by o new)
exit_along p q None new h = h
exit_along p q (Some line) new h = h

allowed_along : (p : Program) (q : Point) (b : Bool) (c : Place) → (b ≡ true → Contains (edges p q) (ToAddress c.stack c.state.pc)) → IsState c.state →
    GoesAlong p q (allowed b c)
allowed_along p q true c h ok = (h refl, ok)
allowed_along p q false c h ok = tt

module _ (p : Program) (row : Row) (turns : ℕ) (entry old new : State) (at : file_row p old.pc ≡ Some row) (ok : IsState new)
    (aligned : is_place p.machine.narrow new.pc ≡ true) where
  abbrev from : List ℕ → Point
  from stack = point p row turns old.pc stack

  return_along : (top : ℕ) (below : List ℕ) (b : Bool) → (new.pc == top) ≡ b → (row.successors old.pc).indirect ≡ true → (row.successors old.pc).call ≡ false →
      GoesAlong p (from (top ∷ below)) (return_or b top below new (is_named (by_file p) old row new.pc))
  return_along top below true e i c = (
    let same : top ≡ new.pc = sym (same_number new.pc top e) in
        in_edges p row turns old.pc (top ∷ below) at (ToAddress below new.pc) aligned
        (in_indirect p row turns old.pc (top ∷ below) false (ToAddress below new.pc) i c (0, omega arith, ap (ToAddress below) same)),
    ok,
  )
  return_along top below false e i c =
      let differs : (top == new.pc) ≡ false = grind (arith, nat_tests) in
      allowed_along p (from (top ∷ below)) (is_named (by_file p) old row new.pc) (record { state = new; stack = top ∷ below })
      (λ h. in_edges p row turns old.pc (top ∷ below) at (ToAddress (top ∷ below) new.pc) aligned
      (in_indirect p row turns old.pc (top ∷ below) false (ToAddress (top ∷ below) new.pc) i c
      (named_return p row turns old.pc (top ∷ below) new.pc differs (in_any new.pc (named p (file_word p) row old.pc) h)))) ok

  exit_or_along : (b : Bool) → (row.successors old.pc).indirect ≡ true → (row.successors old.pc).call ≡ false →
      GoesAlong p (from []) (exit_or b (by_file p) entry new (is_named (by_file p) old row new.pc))
  exit_or_along true i c =
      exit_along p (from []) (false_line p.machine.endian p.notes.ensures new entry) new
      (in_edges p row turns old.pc [] at ToExit refl (in_indirect p row turns old.pc [] false ToExit i c (0, omega arith, refl)))
  exit_or_along false i c =
      allowed_along p (from []) (is_named (by_file p) old row new.pc) (record { state = new; stack = [] })
      (λ h. in_edges p row turns old.pc [] at (ToAddress [] new.pc) aligned
      (in_indirect p row turns old.pc [] false (ToAddress [] new.pc) i c
      (named_return p row turns old.pc [] new.pc refl (in_any new.pc (named p (file_word p) row old.pc) h)))) ok

  leave_along : (stack : List ℕ) → (row.successors old.pc).indirect ≡ true → (row.successors old.pc).call ≡ false →
      GoesAlong p (from stack) (leave (by_file p) entry row old stack new)
  leave_along [] i c = exit_or_along (new.pc == entry.regs p.machine.link) i c
  leave_along (top ∷ below) i c = return_along top below (new.pc == top) refl i c

  transfer_along : (how : How) (stack : List ℕ) → IsSuccessor (row.successors old.pc) (Goes how new) → ComesNext row.length old (Goes how new) →
      GoesAlong p (from stack) (transfer (by_file p) entry row old stack how new)
  transfer_along On stack h e = (
    let to : add 32 old.pc row.length ≡ new.pc = sym (e refl) in
        in_edges p row turns old.pc stack at (ToAddress stack new.pc) aligned
        (subst (λ (z : ℕ). Contains (edges_of p (from stack) row (row.successors old.pc)) (ToAddress stack z)) to (in_next p row turns old.pc stack h)),
    ok,
  )
  transfer_along Direct stack h e =
      (in_edges p row turns old.pc stack at (ToAddress stack new.pc) aligned (in_direct p row turns old.pc stack false new.pc h.0 h.1), ok)
  transfer_along DirectCall stack h e = (
    in_edges p row turns old.pc stack at (ToAddress (add 32 old.pc row.length
        ∷ stack) new.pc) aligned (in_direct p row turns old.pc stack true new.pc h.0 h.1),
    ok,
  )
  transfer_along Indirect stack h e = leave_along stack h.0 h.1
  transfer_along IndirectCall stack h e =
      allowed_along p (from stack) (is_named (by_file p) old row new.pc) (record { state = new; stack = add 32 old.pc row.length ∷ stack })
      (λ n. in_edges p row turns old.pc stack at (ToAddress (add 32 old.pc row.length ∷ stack) new.pc) aligned
      (in_indirect p row turns old.pc stack true (ToAddress (add 32 old.pc row.length ∷ stack) new.pc) h.0 h.1
      (named_call p row turns old.pc stack new.pc (in_any new.pc (named p (file_word p) row old.pc) n)))) ok

module _ (p : Program) (row : Row) (turns : ℕ) (entry old : State) (at : file_row p old.pc
    ≡ Some row) (law : IsLawful row) (ok : IsState old) (stack : List ℕ) where
  abbrev its_point : Point
  its_point = point p row turns old.pc stack

  aligned_along : (how : How) (new : State) (b : Bool) → is_place p.machine.narrow new.pc ≡ b → IsState new → IsSuccessor (row.successors old.pc) (Goes how new) →
      ComesNext row.length old (Goes how new) →
      GoesAlong p its_point (aligned_transfer b (by_file p) entry row old stack how new)
  aligned_along how new true b state h e = transfer_along p row turns entry old new at state b how stack h e
  aligned_along how new false b state h e = tt

  going_along : (how : How) (new : State) (writes : Bool) → IsState new → IsSuccessor (row.successors old.pc) (Goes how new) →
      ComesNext row.length old (Goes how new) →
      GoesAlong p its_point (going_on writes (by_file p) entry row old stack how new)
  going_along how new true state h e = tt
  going_along how new false state h e = aligned_along how new (is_place p.machine.narrow new.pc) refl state h e

  raised_along : (writes : Bool) (e : Exception) → GoesAlong p its_point (Stops (exception_event writes e))
  raised_along true EnvironmentCall = tt
  raised_along true Breakpoint = tt
  raised_along true SoftwareInterrupt = tt
  raised_along true OddHalfword = tt
  raised_along true UnalignedLoad = tt
  raised_along false EnvironmentCall = tt
  raised_along false Breakpoint = tt
  raised_along false SoftwareInterrupt = tt
  raised_along false OddHalfword = tt
  raised_along false UnalignedLoad = tt

  row_along : (writes : Bool) (o : Outcome) → IsSuccessor (row.successors old.pc) o → ComesNext row.length old o → LeavesState o →
      GoesAlong p its_point (after_row (by_file p) entry row old stack writes o)
  row_along writes (Raises e) h n state = raised_along writes e
  row_along writes (Goes how new) h n state = going_along how new writes state h n

module _ (p : Program) (lawful : HasLawfulRows p) (turns choice : ℕ) (entry : State) (c : Place) (ok : IsState c.state) where
  by_row_along : (o : Option Row) → file_row p c.state.pc ≡ o → GoesAlong p (point_of turns c) (by_row (by_file p) entry c choice o)
  by_row_along None e = tt
  by_row_along (Some row) e =
      let law = lawful c.state.pc row e in
      row_along p row turns entry c.state e law ok c.stack (writes_kept (by_file p) row c.state) (row.effect c.state choice)
      (law.successors c.state choice ok) (law.next c.state choice ok) (law.states c.state choice ok)

  by_fetch_along : (b : Bool) → fetchable p (file_word p c.state.pc) c.state.pc ≡ b → GoesAlong p (point_of turns c) (by_fetch b (by_file p) entry c choice)
  by_fetch_along false e = tt
  by_fetch_along true e =
      by_row_along (p.machine.row (file_word p c.state.pc)) (ap (λ z. if z then p.machine.row (file_word p c.state.pc) else None) e)

  after_asserts_along : (o : Option ℕ) → GoesAlong p (point_of turns c) (after_asserts o (by_file p) entry c choice)
  after_asserts_along (Some line) = tt
  after_asserts_along None = by_fetch_along (fetchable p (file_word p c.state.pc) c.state.pc) refl

  pub steps_along : GoesAlong p (point_of turns c) (step (by_file p) entry c choice)
  steps_along = after_asserts_along (false_assert p.machine.endian p.notes.asserts c.state entry)

pub steps_along_edges : (p : Program) → HasLawfulRows p → (turns choice : ℕ) (entry : State) (c : Place) → IsState c.state →
    GoesAlong p (point_of turns c) (step (by_file p) entry c choice)
steps_along_edges p lawful turns choice entry c ok = steps_along p lawful turns choice entry c ok
