-- The list of a lawful row without the assignments of flags that are not live does what the row does, as far as it is read later.
use Rattle.std.proofs.Common.{◌≡◌, ◌⊎◌, inl, inr, refl, sym, ◌∙◌, subst, arith, ℕ, zero, suc, ◌<◌, Option, Some, None, Bool, true, false}
use Rattle.std.specs.Prelude.{◌==◌, ◌&&◌, ◌||◌, nat_lt, ◌↔◌, Contains, length}
use Rattle.std.proofs.lemmas.Bool.Decides.{nat_tests}
use Rattle.word_spec.specs.State.{State, IsState}
use Rattle.machine_spec.specs.Machine.{Row, Outcome, Goes, Raises, addresses}
use Rattle.machine_spec.specs.MachineLaws.{IsLawful, IsFitted, IsLifting}
use Rattle.machine_spec.specs.StateText.{Layout}
use Rattle.machine_spec.specs.Bil.{Bank, BilVariable, Register, Flag, Mem, Local, Statements, Empty, Assign, JumpTo, Raise, Special, While, If}
use Rattle.machine_spec.specs.BilCounts.{names_only, list_names_only, has_no_loop, is_own, is_flag, may_assign, reads_first}
use Rattle.machine_spec.specs.BilMeaning.{Position, Ending, Ends, RaisesException, OutOfTurns, Wrong, execute}
use Rattle.machine_spec.specs.BilStores.{list_stored}
use Rattle.bilv_spec.specs.Run.{Program}
use Rattle.bilv_spec.proofs.PointsInGraph.{none_in}
use Rattle.graph_nodes.specs.Graphs.{has_flag}
use Rattle.bil_trim.specs.Flags.{kept_in, with_flags, position_with, ending_with, IsMeant, AreFree}
use Rattle.frame_spec.specs.Frames.{Content}
use Rattle.frame_spec.specs.FrameUnrolling.{IsCarriedOf, LeavesAs}
use Rattle.frame_spec.specs.FrameWalk.{UnrolledPoint, goes_on, leaving_by}
use Rattle.bil_trim.proofs.Fewer.{flags_add_nothing}
use Rattle.bil_trim.proofs.Leaves.{neither, other_flags_stay}
use Rattle.bil_trim.proofs.Unread.{flags_keep_meaning, flags_store_no_more}
use Rattle.unroller.proofs.Mixed.{both, all_three, all_four}
use Rattle.unroller.proofs.Named.{join}
use Rattle.unroller.proofs.Rows.{begins, pick, pick_below, high, leaves_lifted, stores_lifted}

none_of : (a b : Bool) → a ≡ false → b ≡ false → (a || b) ≡ false
none_of true b h i = absurd (cc)
none_of false b h i = i

other_number : (g f : ℕ) (known : BilVariable → Bool) (b : Bool) → (g == f) ≡ b → known (Flag g) ≡ true → known (Flag f) ≡ false → (g == f) ≡ false
other_number g f known true e h n =
    let same : g ≡ f = grind arith in
    absurd (let i = subst (λ (z : ℕ). known (Flag z) ≡ true) same h in cc)
other_number g f known false e h n = e

other_flag : (x : BilVariable) (f : ℕ) (known : BilVariable → Bool) → known x ≡ true → known (Flag f) ≡ false → is_flag f x ≡ false
other_flag (Register b r) f known h n = refl
other_flag (Flag g) f known h n = other_number g f known (g == f) refl h n
other_flag Mem f known h n = refl
other_flag (Local x w) f known h n = refl

-- a list that names only other variables does not assign a flag
unassigned : (list : Statements) (f : ℕ) (known : BilVariable → Bool) → known (Flag f) ≡ false → list_names_only list known ≡ true →
    may_assign f list ≡ false
unassigned Empty f known n h = refl
unassigned (Assign x e rest) f known n h =
    let l = all_three (known x) (names_only e known) (list_names_only rest known) h in
    none_of _ _ (other_flag x f known l.0 n) (unassigned rest f known n l.2)
unassigned (JumpTo e rest) f known n h = unassigned rest f known n (both (names_only e known) (list_names_only rest known) h).1
unassigned (Raise m rest) f known n h = unassigned rest f known n h
unassigned (Special t rest) f known n h = unassigned rest f known n h
unassigned (While e body rest) f known n h =
    let l = all_three (names_only e known) (list_names_only body known) (list_names_only rest known) h in
    none_of _ _ (unassigned body f known n l.1) (unassigned rest f known n l.2)
unassigned (If e a b rest) f known n h =
    let l = all_four (names_only e known) (list_names_only a known) (list_names_only b known) (list_names_only rest known) h in
    none_of _ _ (none_of _ _ (unassigned a f known n l.1) (unassigned b f known n l.2)) (unassigned rest f known n l.3)

-- a flag that is not assigned is not read after an assignment
unread : (list : Statements) (f : ℕ) → has_no_loop list ≡ true → may_assign f list ≡ false → reads_first f false list ≡ true
unread Empty f free h = refl
unread (Assign x e rest) f free h =
    let l = neither (is_flag f x) (may_assign f rest) h in
    subst (λ (b : Bool). reads_first f b rest ≡ true) (sym l.0) (unread rest f free l.1)
unread (JumpTo e rest) f free h = unread rest f free h
unread (Raise m rest) f free h = refl
unread (Special t rest) f free h = unread rest f free h
unread (While e body rest) f free h = absurd (cc)
unread (If e a b rest) f free h =
    let o = all_three (has_no_loop a) (has_no_loop b) (has_no_loop rest) free in
    let l = neither (may_assign f a || may_assign f b) (may_assign f rest) h in
    let r = neither (may_assign f a) (may_assign f b) l.0 in
    join _ _ (join _ _ (unread a f o.0 r.0) (unread b f o.1 r.1))
    (subst (λ (z : Bool). reads_first f z rest ≡ true) (sym l.0) (unread rest f o.2 l.1))

low : (f : ℕ) → nat_lt f 4 ≡ true → f < 4
low f e = grind (arith, nat_tests)

beyond : (f n : ℕ) → n < 5 → nat_lt f 4 ≡ false → nat_lt f n ≡ false
beyond f n few e = grind (arith, nat_tests)

module _ (p : Program) (form : Layout) (bank : Bank) (q : UnrolledPoint) (row : Row) (list : Statements) (fitted : IsFitted p.machine form)
    (lawful : IsLawful row) (lifting : IsLifting p.machine bank row q.point.at list) (long : q.length ≡ row.length) (Reads After : ℕ → Type 0)
    (read_now : (i : ℕ) → row.flags.reads i ≡ true → Reads i) (read_later : (i : ℕ) → row.flags.surely i ≡ false → After i → Reads i) (keeps : ℕ)
    (stays : (f : ℕ) → f < 4 → row.flags.assigns f ≡ true → After f → has_flag keeps f ≡ true) where
  abbrev kept : ℕ → Bool
  kept = kept_in keeps

  abbrev trimmed : Statements
  trimmed = with_flags kept list

  none_beyond : (f : ℕ) → nat_lt f 4 ≡ false → may_assign f list ≡ false
  none_beyond f e =
      let few = fitted.few_flags in
      unassigned list f (is_own p.machine bank) (fitted.flags f ∙ beyond f (length form.flags) (omega arith) e) lifting.names

  free_by : (f : ℕ) (b : Bool) → nat_lt f 4 ≡ b → reads_first f false list ≡ true
  free_by f true e = lifting.reads_first f (low f e)
  free_by f false e = unread list f lifting.no_loop (none_beyond f e)

  free : AreFree kept list
  free f h = free_by f (nat_lt f 4) refl

  dead : (f : ℕ) → f < 4 → has_flag keeps f ≡ false → After f → (b : Bool) → may_assign f list ≡ b → may_assign f list ≡ false
  dead f w e after true h =
      absurd (let z = stays f w (lifting.assigns f w h) after in cc)
  dead f w e after false h = h

  idle_by : (f : ℕ) (b : Bool) → nat_lt f 4 ≡ b → (b && has_flag keeps f) ≡ false → After f → may_assign f list ≡ false
  idle_by f true e h after = dead f (low f e) h after (may_assign f list) refl
  idle_by f false e h after = none_beyond f e

  -- the lifted list does not assign a flag that is read later and not kept
  idle : (f : ℕ) → kept f ≡ false → After f → may_assign f list ≡ false
  idle f h after = idle_by f (nat_lt f 4) refl h after

  meant : (reads : ℕ → Type 0) (o : Outcome) (d : Ending) → LeavesAs reads o (leaving_by q d) → IsMeant d
  meant reads o (Ends t) h = tt
  meant reads o (RaisesException n t) h = tt
  meant reads o (OutOfTurns t) h = tt
  meant reads (Goes how new) Wrong h = absurd h
  meant reads (Raises e) Wrong h = absurd h

  abbrev carried : Position → Content
  carried t = record { regs = t.env.regs; flags = t.env.flags; mem = t.env.mem }

  going : (reads : ℕ → Type 0) (o : Outcome) (j : Option ℕ) (a b : Content) → ((new : State) → IsCarriedOf reads new a → IsCarriedOf reads new b) →
      LeavesAs reads o (goes_on q j a) → LeavesAs reads o (goes_on q j b)
  going reads (Goes how new) None a b f h = (h.0, h.1, f new h.2)
  going reads (Goes how new) (Some x) a b f h = (h.0, h.1, f new h.2)
  going reads (Raises e) None a b f h = absurd h
  going reads (Raises e) (Some x) a b f h = absurd h

  module _ (c : Content) (choice : ℕ) where
    abbrev end : Ending
    end = execute list choice (begins q c)

    module _ (reads : ℕ → Type 0) (two : (f : ℕ) → c.flags f < 2) (after : (f : ℕ) → reads f → After f) where
      carries : (new : State) (t : Position) → end ≡ Ends t → IsCarriedOf reads new (carried t) →
          IsCarriedOf reads new (carried (position_with kept c.flags t))
      carries new t ends h = record {
        state = record {
          pc = h.state.pc;
          regs = h.state.regs;
          flags = λ f. pick_below (kept f) (t.env.flags f) (c.flags f) (h.state.flags f) (two f);
          mem = h.state.mem;
        };
        regs = h.regs;
        mem = h.mem;
        flags = λ f r. pick (kept f) (t.env.flags f) (c.flags f) (new.flags f) (λ e. h.flags f r)
            (λ e. sym (other_flags_stay list choice f (begins q c) t lifting.no_loop (idle f e (after f r)) ends) ∙ h.flags f r);
      }

      leaves_by : (o : Outcome) (d : Ending) → end ≡ d → LeavesAs reads o (leaving_by q d) → LeavesAs reads o (leaving_by q (ending_with kept c.flags d))
      leaves_by o (Ends t) e h = going reads o t.jump (carried t) (carried (position_with kept c.flags t)) (λ new. carries new t e) h
      leaves_by o (RaisesException n t) e h = h
      leaves_by o (OutOfTurns t) e h = h
      leaves_by o Wrong e h = h

      leaves_so : (o : Outcome) → LeavesAs reads o (leaving_by q end) → LeavesAs reads o (leaving_by q (execute trimmed choice (begins q c)))
      leaves_so o h =
          subst (λ (z : Ending). LeavesAs reads o (leaving_by q z))
          (sym (flags_keep_meaning kept list choice (begins q c) lifting.no_loop free (meant reads o end h))) (leaves_by o end refl h)

  pub leaves_trimmed : (s : State) (c : Content) (choice : ℕ) → IsState s → s.pc ≡ q.point.at → choice < 4 → IsCarriedOf Reads s c →
      LeavesAs After (row.effect s choice) (leaving_by q (execute trimmed choice (begins q c)))
  leaves_trimmed s c choice state here few h =
      leaves_so c choice After h.state.flags (λ f r. r) (row.effect s choice)
      (leaves_lifted p form bank q row list fitted lawful lifting long Reads After read_now read_later s c choice state here few h)

  -- the flag is kept if the list assigns it
  abbrev Stays : ℕ → Type 0
  Stays f = may_assign f list ≡ true → kept f ≡ true

  stays_by : (s : State) (f : ℕ) → f < 4 → (a b : Bool) → may_assign f list ≡ a → kept f ≡ b → Stays f ⊎ (row.stored s ≡ None)
  stays_by s f w a true e k = inl (λ h. k)
  stays_by s f w false false e k = inl (λ h. absurd (cc))
  stays_by s f w true false e k = inr (lawful.plain f w (lifting.assigns f w e) s)

  stays_or : (s : State) (f : ℕ) → f < 4 → Stays f ⊎ (row.stored s ≡ None)
  stays_or s f w = stays_by s f w (may_assign f list) (kept f) refl refl

  all_stay : Stays 0 → Stays 1 → Stays 2 → Stays 3 → (f : ℕ) → Stays f
  all_stay a b c d zero = a
  all_stay a b c d (suc zero) = b
  all_stay a b c d (suc (suc zero)) = c
  all_stay a b c d (suc (suc (suc zero))) = d
  all_stay a b c d (suc (suc (suc (suc n)))) = λ h. absurd (let e = none_beyond (suc (suc (suc (suc n)))) (high n) in cc)

  -- the list is the lifted one, or the row stores nothing
  same_or_none : (s : State) → ((f : ℕ) → Stays f) ⊎ (row.stored s ≡ None)
  same_or_none s = elim (stays_or s 0 (omega arith)) as (λ _. ((f : ℕ) → Stays f) ⊎ (row.stored s ≡ None)) [
    | inr none ↦ inr none
    | inl a ↦ elim (stays_or s 1 (omega arith)) as (λ _. ((f : ℕ) → Stays f) ⊎ (row.stored s ≡ None)) [
      | inr none ↦ inr none
      | inl b ↦ elim (stays_or s 2 (omega arith)) as (λ _. ((f : ℕ) → Stays f) ⊎ (row.stored s ≡ None)) [
        | inr none ↦ inr none
        | inl c ↦ elim (stays_or s 3 (omega arith)) as (λ _. ((f : ℕ) → Stays f) ⊎ (row.stored s ≡ None)) [
          | inr none ↦ inr none
          | inl d ↦ inl (all_stay a b c d)
        ]
      ]
    ]
  ]

  pub stores_trimmed : (s : State) (c : Content) (choice : ℕ) → IsState s → s.pc ≡ q.point.at → choice < 4 → IsCarriedOf Reads s c →
      (a : ℕ) → Contains (list_stored trimmed choice (begins q c)) a ↔ Contains (addresses (row.stored s)) a
  stores_trimmed s c choice state here few h a =
      let same = stores_lifted p form bank q row list fitted lawful lifting long Reads After read_now read_later s c choice state here few h a in
      let means = meant After (row.effect s choice) (end c choice)
      (leaves_lifted p form bank q row list fitted lawful lifting long Reads After read_now read_later s c choice state here few h) in
      elim (same_or_none s) as (λ _. Contains (list_stored trimmed choice (begins q c)) a ↔ Contains (addresses (row.stored s)) a) [
        | inl all ↦
            subst (λ (z : Statements). Contains (list_stored z choice (begins q c)) a ↔ Contains (addresses (row.stored s)) a)
            (sym ((flags_add_nothing kept list).same all)) same
        | inr none ↦ (
          (λ w. same.0 (flags_store_no_more kept list choice (begins q c) lifting.no_loop free means a w)),
          (λ w. none_in a (subst (λ (z : Option (ℕ × ℕ)). Contains (addresses z) a) none w)),
        )
      ]
