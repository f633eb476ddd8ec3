-- The list of a lawful row as it is lifted does what the row does, as far as it is read later.
use Rattle.std.proofs.Common.{◌≡◌, refl, ap, sym, ◌∙◌, subst, arith, ℕ, zero, suc, ◌<◌, ◌≤◌, Option, None, Bool, true, false, List}
use Rattle.std.specs.Prelude.{if◌then◌else◌, ◌==◌, nat_lt, ◌↔◌, Contains, length}
use Rattle.std.proofs.lemmas.Bool.Decides.{nat_tests}
use mathlib.Core.Path.{fun_ext}
use Rattle.word_spec.specs.Words.{add}
use Rattle.word_spec.specs.State.{State, IsState}
use Rattle.machine_spec.specs.Machine.{Row, How, On, Direct, DirectCall, Indirect, IndirectCall, Outcome, Goes, Raises, addresses, exception_number}
use Rattle.machine_spec.specs.MachineLaws.{IsLawful, IsFitted, IsLifting, with_flag, AgreeBut, OutcomesAgreeBut, HaveSameFlag, IfGoes}
use Rattle.machine_spec.specs.StateText.{Layout}
use Rattle.machine_spec.specs.Bil.{Bank, Statements}
use Rattle.machine_spec.specs.Bil as bil
use Rattle.machine_spec.specs.BilCounts.{is_own}
use Rattle.machine_spec.specs.BilMeaning.{Stuck, Position, Ending, Ends, RaisesException, OutOfTurns, Wrong, execute}
use Rattle.machine_spec.specs.BilStores.{list_stored}
use Rattle.machine_spec.specs.Simulation.{position, jump_of, Finished, Raised, of_list, of_row}
use Rattle.bilv_spec.specs.Run.{Program}
use Rattle.frame_spec.specs.Frames.{Content, content_at}
use Rattle.frame_spec.specs.FrameUnrolling.{IsCarriedOf, LeavesAs}
use Rattle.frame_spec.specs.FrameWalk as walk
use Rattle.frame_spec.specs.FrameWalk.{UnrolledPoint, Leaving, GoesOn, RaisesOne, IsStuck, leaving_by}
use Rattle.walk_spec.specs.Unrolling.{jumps}
use Rattle.unroller.proofs.Mixed.{mix_end, list_same, list_stores_same}

-- where the list of a point begins
abbrev pub begins : UnrolledPoint → Content → Position
begins q c = position (λ x t. Stuck) 0 None (content_at c q.point.at)

-- a lawful row surely assigns no flag that no machine has
not_sure : (row : Row) → IsLawful row → (f : ℕ) → 4 ≤ f → (b : Bool) → row.flags.surely f ≡ b → row.flags.surely f ≡ false
not_sure row lawful f up true e = absurd (let low = lawful.sure_flags f e in omega arith)
not_sure row lawful f up false e = e

pub put_other : (f : ℕ → ℕ) (at v x : ℕ) (b : Bool) → (x == at) ≡ b → (x ≡ at → ⊥) → (if b then v else f x) ≡ f x
put_other f at v x true e ne = absurd (ne (grind arith))
put_other f at v x false e ne = refl

put_same_value : (f : ℕ → ℕ) (at v x : ℕ) (b : Bool) → (x == at) ≡ b → v ≡ f at → (if b then v else f x) ≡ f x
put_same_value f at v x true e is = let here : x ≡ at = grind arith in is ∙ ap f (sym here)
put_same_value f at v x false e is = refl

same_state : (s : State) (i v : ℕ) → v ≡ s.flags i → with_flag s i v ≡ s
same_state s i v is = ap (λ (z : ℕ → ℕ). let r : State = record { pc = s.pc; regs = s.regs; flags = z; mem = s.mem } in r) (fun_ext
    (λ x. put_same_value s.flags i v x (x == i) refl is))

-- what is read at the row, and after it
module _ (row : Row) (lawful : IsLawful row) (Reads After : ℕ → Type 0) (read_now : (i : ℕ) → row.flags.reads i ≡ true → Reads i)
    (read_later : (i : ℕ) → row.flags.surely i ≡ false → After i → Reads i) where
  -- two outcomes are the same as far as is read later
  abbrev Alike : Outcome → Outcome → Type 0
  Alike (Goes how s) (Goes other t) = (how ≡ other) × (s.pc ≡ t.pc) × (s.regs ≡ t.regs) × (s.mem ≡ t.mem) ×
      ((f : ℕ) → After f → s.flags f ≡ t.flags f)
  Alike (Raises d) (Raises e) = d ≡ e
  Alike (Goes how s) (Raises e) = ⊥
  Alike (Raises e) (Goes how s) = ⊥

  alike_self : (o : Outcome) → Alike o o
  alike_self (Goes how s) = (refl, refl, refl, refl, λ f r. refl)
  alike_self (Raises e) = refl

  alike_on : (a b c : Outcome) → Alike a b → Alike b c → Alike a c
  alike_on (Goes h s) (Goes i t) (Goes j u) x y = (x.0 ∙ y.0, x.1 ∙ y.1, x.2 ∙ y.2, x.3 ∙ y.3, λ f r. x.4 f r ∙ y.4 f r)
  alike_on (Raises d) (Raises e) (Raises f) x y = x ∙ y
  alike_on (Goes h s) (Goes i t) (Raises e) x y = absurd y
  alike_on (Goes h s) (Raises e) c x y = absurd x
  alike_on (Raises d) (Goes h s) c x y = absurd x
  alike_on (Raises d) (Raises e) (Goes h s) x y = absurd y

  same_flag_self : (f : ℕ) (o : Outcome) → HaveSameFlag f o o
  same_flag_self f (Goes how s) = refl
  same_flag_self f (Raises e) = tt

  flag_cases : (s t : State) (i f : ℕ) (b : Bool) → (f == i) ≡ b → AgreeBut i s t → s.flags i ≡ t.flags i → s.flags f ≡ t.flags f
  flag_cases s t i f true e agree same = let here : f ≡ i = grind arith in ap s.flags here ∙ same ∙ ap t.flags (sym here)
  flag_cases s t i f false e agree same = agree.flags f (λ x. let d : (f == i) ≡ true = grind arith in cc)

  other_flag : (s t : State) (i f : ℕ) (b : Bool) → (f == i) ≡ b → AgreeBut i s t → (After i → s.flags i ≡ t.flags i) → After f →
      s.flags f ≡ t.flags f
  other_flag s t i f true e agree same r = let here : f ≡ i = grind arith
      in flag_cases s t i f true e agree (same (subst (λ (z : ℕ). After z) here r))
  other_flag s t i f false e agree same r = agree.flags f (λ x. let d : (f == i) ≡ true = grind arith in cc)

  differ : (i : ℕ) (o q : Outcome) → OutcomesAgreeBut i o q → (After i → HaveSameFlag i o q) → Alike o q
  differ i (Goes how s) (Goes other t) h same = (h.0, h.1.pc, h.1.regs, h.1.mem, λ f r. other_flag s t i f (f == i) refl h.1 same r)
  differ i (Raises d) (Raises e) h same = h
  differ i (Goes how s) (Raises e) h same = absurd h
  differ i (Raises e) (Goes how s) h same = absurd h

  module _ (s : State) (i v : ℕ) (low : i < 4) (agrees : Reads i → v ≡ s.flags i) where
    sure_case : (c : ℕ) (b : Bool) → row.flags.surely i ≡ b → row.flags.reads i ≡ false → After i →
        HaveSameFlag i (row.effect s c) (row.effect (with_flag s i v) c)
    sure_case c true e n r = lawful.sure s c i v low n e
    sure_case c false e n r =
        subst (λ (z : State). HaveSameFlag i (row.effect s c) (row.effect z c)) (sym (same_state s i v (agrees (read_later i e r))))
        (same_flag_self i (row.effect s c))

    step_case : (c : ℕ) (b : Bool) → row.flags.reads i ≡ b → Alike (row.effect s c) (row.effect (with_flag s i v) c)
    step_case c true e = subst (λ (z : State). Alike (row.effect s c) (row.effect z c)) (sym (same_state s i v (agrees (read_now i e))))
        (alike_self (row.effect s c))
    step_case c false e = differ i (row.effect s c) (row.effect (with_flag s i v) c) (lawful.unread s c i v low e) (sure_case c (row.flags.surely i) refl e)

    stored_case : (b : Bool) → row.flags.reads i ≡ b → row.stored s ≡ row.stored (with_flag s i v)
    stored_case true e = ap (λ (z : State). row.stored z) (sym (same_state s i v (agrees (read_now i e))))
    stored_case false e = lawful.stored_unread s i v low e

    flag_step : (c : ℕ) → Alike (row.effect s c) (row.effect (with_flag s i v) c)
    flag_step c = step_case c (row.flags.reads i) refl

    flag_stores : row.stored s ≡ row.stored (with_flag s i v)
    flag_stores = stored_case (row.flags.reads i) refl

  -- the state with the four lowest flags changed
  abbrev lower : State → (ℕ → ℕ) → State
  lower s g = with_flag (with_flag (with_flag (with_flag s 0 (g 0)) 1 (g 1)) 2 (g 2)) 3 (g 3)

  lower_step : (s : State) (g : ℕ → ℕ) → ((f : ℕ) → Reads f → g f ≡ s.flags f) → (c : ℕ) → Alike (row.effect s c) (row.effect (lower s g) c)
  lower_step s g agrees c =
      let a = with_flag s 0 (g 0) in
      let b = with_flag a 1 (g 1) in
      let d = with_flag b 2 (g 2) in
      alike_on (row.effect s c) (row.effect a c) (row.effect (lower s g) c) (flag_step s 0 (g 0) (omega arith) (agrees 0) c)
      (alike_on (row.effect a c) (row.effect b c) (row.effect (lower s g) c) (flag_step a 1 (g 1) (omega arith) (agrees 1) c)
      (alike_on (row.effect b c) (row.effect d c) (row.effect (lower s g) c) (flag_step b 2 (g 2) (omega arith) (agrees 2) c)
      (flag_step d 3 (g 3) (omega arith) (agrees 3) c)))

  lower_stores : (s : State) (g : ℕ → ℕ) → ((f : ℕ) → Reads f → g f ≡ s.flags f) → row.stored s ≡ row.stored (lower s g)
  lower_stores s g agrees =
      let a = with_flag s 0 (g 0) in
      let b = with_flag a 1 (g 1) in
      let d = with_flag b 2 (g 2) in
      flag_stores s 0 (g 0) (omega arith) (agrees 0) ∙ flag_stores a 1 (g 1) (omega arith) (agrees 1) ∙ flag_stores b 2 (g 2) (omega arith) (agrees 2)
      ∙ flag_stores d 3 (g 3) (omega arith) (agrees 3)

abbrev low_flag : ℕ → Bool
low_flag f = nat_lt f 4

pub high : (n : ℕ) → nat_lt (suc (suc (suc (suc n)))) 4 ≡ false
high n = grind (arith, nat_tests)

lower_below : (s : State) (g : ℕ → ℕ) (f : ℕ) → low_flag f ≡ true →
    (with_flag (with_flag (with_flag (with_flag s 0 (g 0)) 1 (g 1)) 2 (g 2)) 3 (g 3)).flags f ≡ g f
lower_below s g zero h = refl
lower_below s g (suc zero) h = refl
lower_below s g (suc (suc zero)) h = refl
lower_below s g (suc (suc (suc zero))) h = refl
lower_below s g (suc (suc (suc (suc n)))) h = absurd (let e = high n in cc)

lower_beyond : (s : State) (g : ℕ → ℕ) (f : ℕ) → low_flag f ≡ false →
    (with_flag (with_flag (with_flag (with_flag s 0 (g 0)) 1 (g 1)) 2 (g 2)) 3 (g 3)).flags f ≡ s.flags f
lower_beyond s g f h =
    let up : 4 ≤ f = grind (arith, nat_tests) in
    let a = with_flag s 0 (g 0) in
    let b = with_flag a 1 (g 1) in
    let d = with_flag b 2 (g 2) in
    put_other d.flags 3 (g 3) f (f == 3) refl (λ e. omega arith) ∙ put_other b.flags 2 (g 2) f (f == 2) refl
    (λ e. omega arith) ∙ put_other a.flags 1 (g 1) f (f == 1) refl (λ e. omega arith)
    ∙ put_other s.flags 0 (g 0) f (f == 0) refl (λ e. omega arith)

pub pick : (b : Bool) (x y z : ℕ) → (b ≡ true → x ≡ z) → (b ≡ false → y ≡ z) → (if b then x else y) ≡ z
pick true x y z t f = t refl
pick false x y z t f = f refl

pub pick_below : (b : Bool) (x y : ℕ) → x < 2 → y < 2 → (if b then x else y) < 2
pick_below true x y t f = t
pick_below false x y t f = f

ends_is : (d : Ending) (e : Position) → of_list d ≡ Finished e → d ≡ Ends e
ends_is (Ends q) e h = cc
ends_is (RaisesException n q) e h = absurd (cc)
ends_is (OutOfTurns q) e h = absurd (cc)
ends_is Wrong e h = absurd (cc)

raises_is : (d : Ending) (n : ℕ) → of_list d ≡ Raised n → (q : Position) × (d ≡ RaisesException n q)
raises_is (Ends q) n h = absurd (cc)
raises_is (RaisesException m q) n h = let e : m ≡ n = cc in (q, ap (λ (z : ℕ). RaisesException z q) e)
raises_is (OutOfTurns q) n h = absurd (cc)
raises_is Wrong n h = absurd (cc)

of_ends : (a b : Position) → Ends a ≡ Ends b → a ≡ b
of_ends a b h = cc

-- how a point is left after a list that ended as a row goes on
module _ (reads : ℕ → Type 0) (q : UnrolledPoint) (how : How) (new : State) (c : Content) (is : IsCarriedOf reads new c) where
  left_as : (h : How) → (h ≡ On → new.pc ≡ add 32 q.point.at q.length) → LeavesAs reads (Goes h new) (walk.goes_on q (jump_of h new) c)
  left_as On next = (refl, sym (next refl), is)
  left_as Direct next = (refl, refl, is)
  left_as DirectCall next = (refl, refl, is)
  left_as Indirect next = (refl, refl, is)
  left_as IndirectCall next = (refl, refl, is)

carried_over : (reads : ℕ → Type 0) (s t : State) (c : Content) → s.pc ≡ t.pc → s.regs ≡ t.regs → s.mem ≡ t.mem → ((f : ℕ) → reads f → s.flags f ≡ t.flags f) →
    IsCarriedOf reads t c → IsCarriedOf reads s c
carried_over reads s t c pc regs mem flags h = record {
  state = subst (λ (z : ℕ). IsState (content_at c z)) (sym pc) h.state;
  regs = h.regs ∙ sym regs;
  mem = h.mem ∙ sym mem;
  flags = λ f r. h.flags f r ∙ sym (flags f r);
}

module _ (p : Program) (form : Layout) (bank : Bank) (q : UnrolledPoint) (row : Row) (list : Statements) (fitted : IsFitted p.machine form)
    (lawful : IsLawful row) (lifting : IsLifting p.machine bank row q.point.at list) (long : q.length ≡ row.length) (Reads After : ℕ → Type 0)
    (read_now : (i : ℕ) → row.flags.reads i ≡ true → Reads i) (read_later : (i : ℕ) → row.flags.surely i ≡ false → After i → Reads i) where
  own_low : (f : ℕ) → is_own p.machine bank (bil.Flag f) ≡ true → low_flag f ≡ true
  own_low f h = let e : nat_lt f (length form.flags) ≡ true = sym (fitted.flags f) ∙ h in let few = fitted.few_flags in grind (arith, nat_tests)

  module _ (s : State) (g : ℕ → ℕ) (choice : ℕ) (state : IsState s) (here : s.pc ≡ q.point.at) (few : choice < 4) (flags : (f : ℕ) →
      g f < 2) (agrees : (f : ℕ) → Reads f → g f ≡ s.flags f) where
    abbrev s4 : State
    s4 = with_flag (with_flag (with_flag (with_flag s 0 (g 0)) 1 (g 1)) 2 (g 2)) 3 (g 3)

    abbrev start : State → Position
    start t = position (λ x w. Stuck) 0 None t

    abbrev moved : State
    moved = record { pc = s.pc; regs = s.regs; flags = g; mem = s.mem }

    flag_two : (f : ℕ) (b : Bool) → low_flag f ≡ b → s4.flags f < 2
    flag_two f true e = subst (λ (z : ℕ). z < 2) (sym (lower_below s g f e)) (flags f)
    flag_two f false e = subst (λ (z : ℕ). z < 2) (sym (lower_beyond s g f e)) (state.flags f)

    state4 : IsState s4
    state4 = record { pc = state.pc; regs = state.regs; flags = λ f. flag_two f (low_flag f) refl; mem = state.mem }

    flags_of : (λ f. if low_flag f then s4.flags f else g f) ≡ g
    flags_of = fun_ext (λ f. pick (low_flag f) (s4.flags f) (g f) (g f) (lower_below s g f) (λ e. refl))

    flags_own : (λ f. if low_flag f then s4.flags f else s4.flags f) ≡ s4.flags
    flags_own = fun_ext (λ f. pick (low_flag f) (s4.flags f) (s4.flags f) (s4.flags f) (λ e. refl) (λ e. refl))

    start_with : (ℕ → ℕ) → Position
    start_with h = position (λ x w. Stuck) 0 None (record { pc = s.pc; regs = s.regs; flags = h; mem = s.mem })

    abbrev x4 : Ending
    x4 = execute list choice (start s4)

    moved_ends : execute list choice (start moved) ≡ mix_end low_flag g x4
    moved_ends =
        ap (λ (h : ℕ → ℕ). execute list choice (start (record { pc = s.pc; regs = s.regs; flags = h; mem = s.mem }))) (sym flags_of)
        ∙ list_same low_flag g list choice (start s4) (is_own p.machine bank) own_low lifting.no_loop lifting.names

    own_ends : x4 ≡ mix_end low_flag s4.flags x4
    own_ends =
        ap (λ (h : ℕ → ℕ). execute list choice (start (record { pc = s.pc; regs = s.regs; flags = h; mem = s.mem }))) (sym flags_own)
        ∙ list_same low_flag s4.flags list choice (start s4) (is_own p.machine bank) own_low lifting.no_loop lifting.names

    moved_stores : list_stored list choice (start moved) ≡ list_stored list choice (start s4)
    moved_stores =
        ap (λ (h : ℕ → ℕ). list_stored list choice (start (record { pc = s.pc; regs = s.regs; flags = h; mem = s.mem }))) (sym flags_of)
        ∙ list_stores_same low_flag g list choice (start s4) (is_own p.machine bank) own_low lifting.no_loop lifting.names

    abbrev mixed : State → Content
    mixed new = record { regs = new.regs; flags = λ f. if low_flag f then new.flags f else g f; mem = new.mem }

    high_flag : (new : State) (jump : Option ℕ) (f : ℕ) → x4 ≡ Ends (position (λ x w. Stuck) 0 jump new) → low_flag f ≡ false → After f → g f ≡ new.flags f
    high_flag new jump f ends e after =
        let up : 4 ≤ f = grind (arith, nat_tests) in
        let same = of_ends _ _ (sym ends ∙ own_ends ∙ ap (λ (z : Ending). mix_end low_flag s4.flags z) ends) in
        let flag : new.flags f ≡ (if low_flag f then new.flags f else s4.flags f) = ap (λ (z : Position). z.env.flags f) same in
        agrees f (read_later f (not_sure row lawful f up (row.flags.surely f) refl) after) ∙ sym (lower_beyond s g f e)
        ∙ sym (flag ∙ pick (low_flag f) (new.flags f) (s4.flags f) (s4.flags f) (λ t. absurd (cc)) (λ t. refl))

    carried_of_new : (how : How) (new : State) → row.effect s4 choice ≡ Goes how new → x4 ≡ Ends (position (λ x w. Stuck) 0 (jump_of how new) new) →
        IsCarriedOf After new (mixed new)
    carried_of_new how new e ends =
        let good : IsState new = subst (λ (o : Outcome). IfGoes o (λ h n. IsState n)) e (lawful.states s4 choice state4) in
        record {
          state = record { pc = good.pc; regs = good.regs; flags = λ f. pick_below (low_flag f) (new.flags f) (g f) (good.flags f) (flags f); mem = good.mem };
          regs = refl;
          mem = refl;
          flags = λ f after. pick (low_flag f) (new.flags f) (g f) (new.flags f) (λ t. refl) (λ t. high_flag new (jump_of how new) f ends t after);
        }

    leaves_by : (o : Outcome) → row.effect s4 choice ≡ o → LeavesAs After o (leaving_by q (mix_end low_flag g x4))
    leaves_by (Goes how new) e =
        let ends = ends_is x4 (position (λ x w. Stuck) 0 (jump_of how new) new) (lifting.simulates s4 state4 here choice 0 few (λ x w. Stuck) ∙ ap
        (λ (z : Outcome). of_row (λ x w. Stuck) 0 z) e) in
        let next : how ≡ On → new.pc ≡ add 32 q.point.at q.length =
        λ h. subst (λ (z : Outcome). IfGoes z (λ w n. w ≡ On → n.pc ≡ add 32 s4.pc row.length)) e (lawful.next s4 choice state4) h
        ∙ ap (λ (z : ℕ). add 32 z row.length) here ∙ ap (λ (z : ℕ). add 32 q.point.at z) (sym long) in
        subst (λ (z : Ending). LeavesAs After (Goes how new) (leaving_by q (mix_end low_flag g z))) (sym ends)
        (left_as After q how new (mixed new) (carried_of_new how new e ends) how next)
    leaves_by (Raises x) e =
        let raised = raises_is x4 (exception_number x) (lifting.simulates s4 state4 here choice 0 few (λ y w. Stuck) ∙ ap
        (λ (z : Outcome). of_row (λ y w. Stuck) 0 z) e) in
        subst (λ (z : Ending). LeavesAs After (Raises x) (leaving_by q (mix_end low_flag g z))) (sym raised.1) refl

    onward : (o n : Outcome) (l : Leaving) → Alike row lawful Reads After read_now read_later o n → LeavesAs After n l → LeavesAs After o l
    onward (Goes how new) (Goes other t) (GoesOn jumped to c) a h =
        (h.0 ∙ ap jumps (sym a.0), h.1 ∙ sym a.1, carried_over After new t c a.1 a.2 a.3 a.4 h.2)
    onward (Goes how new) (Goes other t) (RaisesOne n) a h = absurd h
    onward (Goes how new) (Goes other t) IsStuck a h = absurd h
    onward (Goes how new) (Raises e) l a h = absurd a
    onward (Raises e) (Goes how new) l a h = absurd a
    onward (Raises d) (Raises e) (RaisesOne n) a h = h ∙ ap exception_number (sym a)
    onward (Raises d) (Raises e) (GoesOn jumped to c) a h = absurd h
    onward (Raises d) (Raises e) IsStuck a h = absurd h

    leaves_moved : LeavesAs After (row.effect s choice) (leaving_by q (execute list choice (start moved)))
    leaves_moved =
        onward (row.effect s choice) (row.effect s4 choice) (leaving_by q (execute list choice (start moved)))
        (lower_step row lawful Reads After read_now read_later s g agrees choice)
        (subst (λ (z : Ending). LeavesAs After (row.effect s4 choice) (leaving_by q z)) (sym moved_ends) (leaves_by (row.effect s4 choice) refl))

    stores_moved : (a : ℕ) → Contains (list_stored list choice (start moved)) a ↔ Contains (addresses (row.stored s)) a
    stores_moved a =
        subst (λ (z : List ℕ). Contains z a ↔ Contains (addresses (row.stored s)) a) (sym moved_stores)
        (subst (λ (z : Option (ℕ × ℕ)). Contains (list_stored list choice (start s4)) a ↔
        Contains (addresses z) a) (sym (lower_stores row lawful Reads After read_now read_later s g agrees))
        (lifting.stored s4 state4 here choice 0 few (λ x w. Stuck) a))

  same_carried : (reads : ℕ → Type 0) (s : State) (c : Content) → IsCarriedOf reads s c → c ≡ record { regs = s.regs; flags = c.flags; mem = s.mem }
  same_carried reads s c h =
      ap (λ (z : ℕ → ℕ). let r : Content = record { regs = z; flags = c.flags; mem = c.mem } in r) h.regs
      ∙ ap (λ (z : ℕ → ℕ). let r : Content = record { regs = s.regs; flags = c.flags; mem = z } in r) h.mem

  pub leaves_lifted : (s : State) (c : Content) (choice : ℕ) → IsState s → s.pc ≡ q.point.at → choice < 4 → IsCarriedOf Reads s c →
      LeavesAs After (row.effect s choice) (leaving_by q (execute list choice (begins q c)))
  leaves_lifted s c choice state here few h =
      subst (λ (z : Content). LeavesAs After (row.effect s choice) (leaving_by q (execute list choice (begins q z)))) (sym (same_carried Reads s c h))
      (leaves_moved s c.flags choice state here few h.state.flags h.flags)

  pub stores_lifted : (s : State) (c : Content) (choice : ℕ) → IsState s → s.pc ≡ q.point.at → choice < 4 → IsCarriedOf Reads s c → (a : ℕ) →
      Contains (list_stored list choice (begins q c)) a ↔ Contains (addresses (row.stored s)) a
  stores_lifted s c choice state here few h a =
      subst (λ (z : Content). Contains (list_stored list choice (begins q z)) a ↔ Contains (addresses (row.stored s)) a) (sym (same_carried Reads s c h))
      (stores_moved s c.flags choice state here few h.state.flags h.flags a)
