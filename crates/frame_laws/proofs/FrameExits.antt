-- How a frame is left, and which edge of a point is taken.
use Rattle.std.proofs.Common.{◌≡◌, inl, inr, ℕ, zero, suc, ◌<◌, refl, ap, sym, ◌∙◌, subst, arith, List, [], ◌∷◌, Option, Some, None, Bool, true, false}
use Rattle.std.specs.Prelude.{Contains, ◌==◌, ◌&&◌, ◌||◌, ◌↔◌, not, nat_eq, nat_lt, if◌then◌else◌}
use Rattle.std.specs.List.{list_any, AllZip}
use Rattle.std.proofs.lemmas.Bool.{and_from, or_left, or_right}
use Rattle.std.proofs.lemmas.Bool.Decides.{nat_tests}
use Rattle.word_spec.specs.RowFiles.{from_to}
use Rattle.word_spec.specs.State.{State}
use Rattle.machine_spec.specs.Machine.{Row}
use Rattle.machine_spec.specs.Endings.{JumpFails}
use Rattle.bilv_spec.specs.LiveFlags.{names_flag}
use Rattle.bilv_spec.specs.Notes.{NoteLine}
use Rattle.bilv_spec.specs.Points.{EdgeEnd, ToAddress, ToExit, fall_ends, jump_ends, same_end}
use Rattle.bilv_spec.specs.Run.{false_line}
use Rattle.bilv_spec.proofs.Pigeons.{truth}
use Rattle.bilv_spec.proofs.PointSteps.{same_number, and_both, in_any}
use Rattle.bilv_spec.proofs.PointTests.{any_is, not_any}
use Rattle.walk_spec.specs.Unrolled as tables
use Rattle.walk_spec.specs.Unrolling.{address_of}
use Rattle.walk_spec.proofs.WalkEdges.{first_hit, takes}
use Rattle.walk_spec.proofs.WalkSteps.{false_line_same}
use Rattle.frame_spec.specs.Frames as Frames
use Rattle.frame_spec.specs.Frames.{Content, Contract, Frame, OfStep, content_at, keeps_register, keeps_flag}
use Rattle.frame_spec.specs.FramePoints.{Anchor, Point}
use Rattle.frame_spec.specs.FrameWalk.{Aim, ToEvent, PointExit, Own, UnrolledProgram, GoesOn, Situation, is_taken, aim_of, first_aim, edge_address, has_changed, flags_below}
use Rattle.frame_spec.specs.FrameUnrolling.{exit_reads, IsAim, IsEdge, IsUnrolling}
use Rattle.frame_spec.proofs.Within.{in_range}
use Rattle.frame_laws.specs.RunOfFrame.{IsOwnAmong}

-- something passes in a list where an element does
pub some_passes : {X : Type 0} (h : X → Bool) (xs : List X) (x : X) → Contains xs x → h x ≡ true → list_any h xs ≡ true
some_passes h xs x c t = elim (truth (list_any h xs)) [ inl y ↦ y | inr n ↦ absurd (not_any h xs n x c t) ]

-- by the same elements
pub any_elements : (h : ℕ → Bool) (xs ys : List ℕ) → ((a : ℕ) → Contains xs a ↔ Contains ys a) → list_any h xs ≡ list_any h ys
any_elements h xs ys e = elim (truth (list_any h xs)) [
  | inl t ↦ (let q = any_is h xs t in t ∙ sym (some_passes h ys q.0 ((e q.0).0 q.1) q.2))
  | inr n ↦ elim (truth (list_any h ys)) [ inl y ↦ (let q = any_is h ys y in absurd (not_any h xs n q.0 ((e q.0).1 q.1) q.2)) | inr m ↦ n ∙ sym m ]
]

-- by the same test
pub any_test : (g h : ℕ → Bool) (xs : List ℕ) → ((a : ℕ) → g a ≡ h a) → list_any g xs ≡ list_any h xs
any_test g h [] e = refl
any_test g h (x ∷ xs) e = ap (λ z. z || list_any g xs) (e x) ∙ ap (λ z. h x || z) (any_test g h xs e)

-- where the lists have the same elements of those that may pass
any_within : (g h : ℕ → Bool) (xs ys : List ℕ) → ((a : ℕ) → Contains xs a → g a ≡ true → list_any h ys ≡ true) →
    ((a : ℕ) → Contains ys a → h a ≡ true → list_any g xs ≡ true) → list_any g xs ≡ list_any h ys
any_within g h xs ys to from = elim (truth (list_any g xs)) [
  | inl t ↦ (let q = any_is g xs t in t ∙ sym (to q.0 q.1 q.2))
  | inr n ↦ elim (truth (list_any h ys)) [
    | inl y ↦ (let q = any_is h ys y in absurd (let c : true ≡ false = sym (from q.0 q.1 q.2) ∙ n in cc))
    | inr m ↦ n ∙ sym m
  ]
]

equal_self : (a : ℕ) → (a == a) ≡ true
equal_self a = grind (arith, nat_tests)

is_less : (a b : ℕ) → a < b → nat_lt a b ≡ true
is_less a b h = grind (arith, nat_tests)

less_is : (a b : ℕ) → nat_lt a b ≡ true → a < b
less_is a b h = grind (arith, nat_tests)

in_below : (n g : ℕ) → g < n → Contains (flags_below n) g
in_below zero g l = absurd (omega arith)
in_below (suc n) g l = elim (truth (g == n)) [
  | inl t ↦ (0, omega arith, sym (same_number g n t))
  | inr t ↦ (let q = in_below n g (grind (arith, nat_tests)) in (suc q.0, (let m = q.1 in omega arith), q.2))
]

of_below : (n g : ℕ) → Contains (flags_below n) g → g < n
of_below zero g (i, l, h) = absurd (omega arith)
of_below (suc n) g (zero, l, h) = omega arith
of_below (suc n) g (suc i, l, h) = let m = of_below n g (i, omega arith, h) in omega arith

-- a contract's frame is left as the contract says
module _ (f : Frame) (contracts : List Contract) (k : ℕ) (u : UnrolledProgram) (un : IsUnrolling f contracts k u) (x : Contract)
    (own : IsOwnAmong f contracts x) (entry new : State) (c : Content) (regs : c.regs ≡ new.regs) (mem : c.mem ≡ new.mem)
    (flags : (n : ℕ) → exit_reads n contracts ≡ true → c.flags n ≡ new.flags n) where
  abbrev next : State
  next = content_at c new.pc

  abbrev its : Own
  its = record { gives = x.gives; writes = x.writes; registers = x.registers; flags = x.flags }

  abbrev names : ℕ → Contract → Bool
  names n y = not (list_any (nat_eq n) y.flags) || list_any (λ l. names_flag n l.says) y.gives

  pub gives_same : false_line u.endian x.gives next entry ≡ false_line f.program.machine.endian x.gives new entry
  gives_same =
      ap (λ z. false_line z x.gives next entry) un.endian
      ∙ false_line_same f.program.machine.endian x.gives next new entry (record {
        pc = refl;
        regs = regs;
        mem = mem;
        flags = λ n h. flags n (some_passes (names n) contracts x own.inside
            (or_right (not (list_any (nat_eq n) x.flags)) (list_any (λ l. names_flag n l.says) x.gives) h));
      })

  -- registers
  abbrev free_register : ℕ → Bool
  free_register r = not (list_any (nat_eq r) x.registers)

  abbrev differs : ℕ → Bool
  differs r = not (next.regs r == entry.regs r)

  abbrev changed : ℕ → Bool
  changed r = not (new.regs r == entry.regs r)

  differs_same : (r : ℕ) → differs r ≡ changed r
  differs_same r = ap (λ z. not (z r == entry.regs r)) regs

  its_register : (r : ℕ) → Contains u.registers r → (free_register r && differs r) ≡ true →
      list_any (λ r. keeps_register f x r && changed r) (from_to 0 32) ≡ true
  its_register r i h =
      let has : f.program.machine.has_register r ≡ true = sym (un.registers r) ∙ some_passes (nat_eq r) u.registers r i (equal_self r) in
      let b = and_both (free_register r) (differs r) h in
      some_passes (λ r. keeps_register f x r && changed r) (from_to 0 32) r
      (in_range 0 32 r (omega arith) (let l = own.registers r has in omega arith))
      (and_from (keeps_register f x r) (changed r) (and_from (f.program.machine.has_register r) (free_register r) has b.0) (sym (differs_same r) ∙ b.1))

  its_change : (r : ℕ) → Contains (from_to 0 32) r → (keeps_register f x r && changed r) ≡ true →
      list_any (λ r. free_register r && differs r) u.registers ≡ true
  its_change r i h =
      let b = and_both (keeps_register f x r) (changed r) h in
      let d = and_both (f.program.machine.has_register r) (free_register r) b.0 in
      some_passes (λ r. free_register r && differs r) u.registers r (in_any r u.registers (un.registers r ∙ d.0))
      (and_from (free_register r) (differs r) d.1 (differs_same r ∙ b.1))

  registers_same : list_any (λ r. free_register r && differs r) u.registers ≡ list_any (λ r. keeps_register f x r && changed r) (from_to 0 32)
  registers_same =
      any_within (λ r. free_register r && differs r) (λ r. keeps_register f x r && changed r) u.registers (from_to 0 32) its_register its_change

  -- flags
  abbrev free_flag : ℕ → Bool
  free_flag g = not (list_any (nat_eq g) x.flags)

  abbrev flag_differs : ℕ → Bool
  flag_differs g = not (next.flags g == entry.flags g)

  abbrev flag_changed : ℕ → Bool
  flag_changed g = not (new.flags g == entry.flags g)

  flag_same : (g : ℕ) → free_flag g ≡ true → flag_differs g ≡ flag_changed g
  flag_same g h =
      ap (λ z. not (z == entry.flags g))
      (flags g (some_passes (names g) contracts x own.inside (or_left (free_flag g) (list_any (λ l. names_flag g l.says) x.gives) h)))

  its_flag : (g : ℕ) → Contains (flags_below u.flags) g → (free_flag g && flag_differs g) ≡ true →
      list_any (λ g. keeps_flag f x g && flag_changed g) (from_to 0 4) ≡ true
  its_flag g i h =
      let has : f.program.machine.has_flag g ≡ true = sym (un.flags g) ∙ is_less g u.flags (of_below u.flags g i) in
      let b = and_both (free_flag g) (flag_differs g) h in
      some_passes (λ g. keeps_flag f x g && flag_changed g) (from_to 0 4) g
      (in_range 0 4 g (omega arith) (let l = own.flags g has in omega arith))
      (and_from (keeps_flag f x g) (flag_changed g) (and_from (f.program.machine.has_flag g) (free_flag g) has b.0) (sym (flag_same g b.0) ∙ b.1))

  its_flag_change : (g : ℕ) → Contains (from_to 0 4) g → (keeps_flag f x g && flag_changed g) ≡ true →
      list_any (λ g. free_flag g && flag_differs g) (flags_below u.flags) ≡ true
  its_flag_change g i h =
      let b = and_both (keeps_flag f x g) (flag_changed g) h in
      let d = and_both (f.program.machine.has_flag g) (free_flag g) b.0 in
      some_passes (λ g. free_flag g && flag_differs g) (flags_below u.flags) g (in_below u.flags g (less_is g u.flags (un.flags g ∙ d.0)))
      (and_from (free_flag g) (flag_differs g) d.1 (flag_same g d.1 ∙ b.1))

  flags_same : list_any (λ g. free_flag g && flag_differs g) (flags_below u.flags) ≡ list_any (λ g. keeps_flag f x g && flag_changed g) (from_to 0 4)
  flags_same =
      any_within (λ g. free_flag g && flag_differs g) (λ g. keeps_flag f x g && flag_changed g) (flags_below u.flags) (from_to 0 4) its_flag its_flag_change

  pub changed_same : has_changed u its entry next ≡ Frames.has_changed f x entry new
  changed_same =
      ap (λ z. z || list_any (λ g. free_flag g && flag_differs g) (flags_below u.flags)) registers_same
      ∙ ap (λ z. list_any (λ r. keeps_register f x r && changed r) (from_to 0 32) || z) flags_same

-- an unrolled program of the tables with the frame's link register, since which edge is taken is a matter of that register alone
abbrev pub shadow : UnrolledProgram → tables.UnrolledProgram
shadow u = record {
  endian = u.endian;
  narrow = u.narrow;
  registers = u.registers;
  flags = u.flags;
  link = u.link;
  entry = u.entry;
  requires = u.requires;
  ensures = u.ensures;
  kept = u.kept;
  known = u.known;
  literals = u.literals;
  points = [];
}

-- the exit that is taken is the edge of the end that is
abbrev pub Chosen : Frame → (k : ℕ) → UnrolledProgram → (i : ℕ) → Point → Option EdgeEnd → Aim → Type 0
Chosen f k u i q None aim = aim ≡ ToEvent (OfStep JumpFails)
Chosen f k u i q (Some t) aim = IsAim f k u i q t aim

module _ (f : Frame) (k i : ℕ) (u : UnrolledProgram) (entry now old new : State) (row : Row) (anchor : Anchor) (turns : ℕ) (stack : List ℕ)
    (link : u.link ≡ f.program.machine.link) (stored : List ℕ) (gives : List NoteLine) (jumped : Bool) (c : Content) where
  abbrev q : Point
  q = record { anchor = anchor; turns = turns; contract = false; stack = stack; at = old.pc }

  abbrev sit : Situation
  sit = record { entry = entry; now = now; next = content_at c new.pc; stored = stored; leaving = GoesOn jumped new.pc c; gives = gives }

  abbrev hit : EdgeEnd → Bool
  hit t = takes f.program (shadow u) entry old new row turns stack link jumped t

  chosen_by : (b : Bool) (t : EdgeEnd) (aim other : Aim) (o : Option EdgeEnd) → IsAim f k u i q t aim → Chosen f k u i q o other →
      Chosen f k u i q (if b then Some t else o) (if b then aim else other)
  chosen_by true t aim other o h g = h
  chosen_by false t aim other o h g = g

  address_same : (t : EdgeEnd) → edge_address u entry (address_of t) ≡ tables.edge_address (shadow u) entry (address_of t)
  address_same ToExit = refl
  address_same (ToAddress l a) = refl

  taken_is : (t : EdgeEnd) (x : PointExit) (e : IsEdge f k u i q (Some row) t x) → is_taken u sit x ≡ hit t
  taken_is t x e =
      ap (is_taken u sit) e.is
      ∙ ap (λ z. (if jumped then list_any (same_end t) (jump_ends f.program (record { turns = turns; stack = stack; at = old.pc }) row (row.successors old.pc))
      else list_any (same_end t) (fall_ends (record { turns = turns; stack = stack; at = old.pc }) row (row.successors old.pc)))
      && (new.pc == z)) (address_same t)

  pub chosen : (ends : List EdgeEnd) (xs : List PointExit) → AllZip (IsEdge f k u i q (Some row)) ends xs →
      Chosen f k u i q (first_hit hit ends) (first_aim u sit xs)
  chosen [] [] h = refl
  chosen [] (x ∷ xs) h = absurd h
  chosen (t ∷ ends) [] h = absurd h
  chosen (t ∷ ends) (x ∷ xs) h =
      let e = h.0 in
      let aim : e.aim ≡ aim_of (GoesOn jumped new.pc c) x = ap (aim_of (GoesOn jumped new.pc c)) (sym e.is) in
      subst (λ (z : Bool). Chosen f k u i q (first_hit hit (t ∷ ends)) (if z then aim_of (GoesOn jumped new.pc c) x else first_aim u sit xs))
      (sym (taken_is t x e))
      (chosen_by (hit t) t (aim_of (GoesOn jumped new.pc c) x) (first_aim u sit xs) (first_hit hit ends)
      (subst (λ (z : Aim). IsAim f k u i q t z) aim e.leads) (chosen ends xs h.1))
