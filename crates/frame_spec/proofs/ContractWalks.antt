-- What a contract step does at a contract's point of an unrolled frame is what the frame does there.
use Rattle.std.proofs.Common.{◌≡◌, inl, inr, ℕ, zero, suc, ◌<◌, refl, ap, sym, ◌∙◌, subst, arith, List, [], ◌∷◌, ◌++◌, length, Option, Some, None, Bool, true, false}
use Rattle.std.proofs.Math.Path.{fun_ext}
use Rattle.std.specs.Prelude.{Contains, ◌==◌, ◌&&◌, ◌||◌, not, nat_eq, nat_lt, is_some, map, filter, if◌then◌else◌}
use Rattle.std.specs.List.{list_any, AllZip}
use Rattle.std.proofs.lemmas.Bool.Decides.{nat_tests}
use Rattle.std.proofs.lemmas.Option.{slice_get-get_or}
use Rattle.word_spec.specs.Words.{add, bit}
use Rattle.word_spec.specs.Memory.{Endian, load}
use Rattle.word_spec.specs.RowFiles.{from_to}
use Rattle.word_spec.specs.State.{State}
use Rattle.bilv_spec.specs.Elf.{is_kept}
use Rattle.machine_spec.specs.Machine.{IsAtPlace}
use Rattle.bilv_spec.specs.Notes as notes
use Rattle.bilv_spec.specs.Notes.{Expr, Number, Register, Flag, Pc, Bound, Memory, Old, Not, Binary, NoteLine, value, is_true}
use Rattle.bilv_spec.specs.LiveFlags.{names_flag}
use Rattle.bilv_spec.specs.Run.{Program, Place, false_line}
use Rattle.machine_spec.specs.Endings.{CodeWritten}
use Rattle.bilv_spec.specs.Points.{edges, EdgeEnd, ToAddress, leads_on}
use Rattle.bilv_spec.proofs.Pigeons.{at_in}
use Rattle.bilv_spec.proofs.PointSteps.{in_map}
use Rattle.walk_spec.specs.Unrolled.{is_in}
use Rattle.frame_spec.specs.Frames as Frames
use Rattle.frame_spec.specs.Frames.{Content, Writes, Contract, Frame, OfStep, NeedsFails, WritesFails, content_at, content_of, is_head, contract_at, written, covers, keeps_register, keeps_flag, keeps_byte}
use Rattle.frame_spec.specs.FrameRuns.{FrameStep, GoesTo, Reaches, Calls, Breaks, lands, is_contract_call, links_by, row_of_place, contract_by, needs_by, writes_by, returns_by, contract_step, state_after}
use Rattle.frame_spec.specs.FramePoints.{IsPoint, frame_edges, top_ends, triple, is_cut}
use Rattle.frame_spec.specs.FrameWalk as walks
use Rattle.frame_spec.specs.FrameWalk.{Aim, OnTo, IntoHead, Outward, OverLast, ToEvent, Cutting, Nowhere, PointExit, FalseNeed, WritingKept, WritingOutside, NotGiven, Along, Gift, Action, StepsOver, UnrolledPoint, UnrolledProgram, no_point, point_at, Leaving, GoesOn, gifted, left_by, stored_by, next_state, gives_of, Situation, is_taken, aim_of, first_aim, is_line_false, Walk, WalkIsAt, WalkArrives, WalkFails, WalkTurns, WalkBreaks, walk_to, situation_at, walk_from, edge_address}
use Rattle.frame_spec.specs.FrameUnrolling.{names_old, names_any, contract_reads, IsRead, by_contract, IsCarriedOf, checks_at, IsAim, IsEdge, DoesContract, DoesBy, outside_exit, own_of, IsUnrolling, IsStep, ContractStepIsWalk}
use Rattle.frame_spec.specs.FrameLaws.{HasPlaces}
use Rattle.frame_spec.proofs.SegmentsMeet.{stack_places, and_false}
use Rattle.frame_spec.proofs.Stacks.{AreAll, place_passes}

-- two states that differ in flags that are not read alone
record IsAlike (reads : ℕ → Bool) (s t : State) : Type 0 where
  pc : s.pc ≡ t.pc
  regs : s.regs ≡ t.regs
  mem : s.mem ≡ t.mem
  flags : (f : ℕ) → reads f ≡ true → s.flags f ≡ t.flags f

or_left : (b c : Bool) → b ≡ true → (b || c) ≡ true
or_left b c e = ap (λ z. z || c) e

or_right : (b c : Bool) → c ≡ true → (b || c) ≡ true
or_right true c e = refl
or_right false c e = e

narrow : (more less : ℕ → Bool) → ((f : ℕ) → less f ≡ true → more f ≡ true) → (s t : State) → IsAlike more s t → IsAlike less s t
narrow more less h s t a = record { pc = a.pc; regs = a.regs; mem = a.mem; flags = λ f e. a.flags f (h f e) }

module _ (e : Endian) (s t : State) where
  same_self : (a : ℕ) → (a == a) ≡ true
  same_self a = grind (arith, nat_tests)

  abbrev left : (f g : ℕ → Bool) → (n : ℕ) → f n ≡ true → (f n || g n) ≡ true
  left f g n h = or_left (f n) (g n) h

  abbrev right : (f g : ℕ → Bool) → (n : ℕ) → g n ≡ true → (f n || g n) ≡ true
  right f g n h = or_right (f n) (g n) h

  -- by the state now
  now_same : (x : Expr) (one : State) → IsAlike (λ f. names_flag f x) s t → value e x s one ≡ value e x t one
  now_same (Number n) one a = refl
  now_same (Register r) one a = ap (λ z. z r) a.regs
  now_same (Flag f) one a = a.flags f (same_self f)
  now_same Pc one a = a.pc
  now_same Bound one a = refl
  now_same (Memory n x) one a = ap (λ z. load e n z (value e x s one)) a.mem ∙ ap (load e n t.mem) (now_same x one a)
  now_same (Old x) one a = refl
  now_same (Not x) one a = ap (λ z. bit (not (is_true z))) (now_same x one a)
  now_same (Binary op x y) one a =
      ap (λ z. notes.apply op z (value e y s one))
      (now_same x one (narrow (λ f. names_flag f x || names_flag f y) (λ f. names_flag f x) (left (λ f. names_flag f x) (λ f. names_flag f y)) s t a))
      ∙ ap (notes.apply op (value e x t one))
      (now_same y one (narrow (λ f. names_flag f x || names_flag f y) (λ f. names_flag f y) (right (λ f. names_flag f x) (λ f. names_flag f y)) s t a))

  -- by the state before
  old_same : (x : Expr) (one : State) → IsAlike (λ f. names_old f x) s t → value e x one s ≡ value e x one t
  old_same (Number n) one a = refl
  old_same (Register r) one a = refl
  old_same (Flag f) one a = refl
  old_same Pc one a = refl
  old_same Bound one a = refl
  old_same (Memory n x) one a = ap (load e n one.mem) (old_same x one a)
  old_same (Old x) one a =
      now_same x s (narrow (λ f. names_flag f x || names_old f x) (λ f. names_flag f x) (left (λ f. names_flag f x) (λ f. names_old f x)) s t a)
      ∙ old_same x t (narrow (λ f. names_flag f x || names_old f x) (λ f. names_old f x) (right (λ f. names_flag f x) (λ f. names_old f x)) s t a)
  old_same (Not x) one a = ap (λ z. bit (not (is_true z))) (old_same x one a)
  old_same (Binary op x y) one a =
      ap (λ z. notes.apply op z (value e y one s))
      (old_same x one (narrow (λ f. names_old f x || names_old f y) (λ f. names_old f x) (left (λ f. names_old f x) (λ f. names_old f y)) s t a))
      ∙ ap (notes.apply op (value e x one t))
      (old_same y one (narrow (λ f. names_old f x || names_old f y) (λ f. names_old f y) (right (λ f. names_old f x) (λ f. names_old f y)) s t a))

  both_same : (x : Expr) → IsAlike (λ f. names_any f x) s t → value e x s s ≡ value e x t t
  both_same x a =
      now_same x s (narrow (λ f. names_any f x) (λ f. names_flag f x) (left (λ f. names_flag f x) (λ f. names_old f x)) s t a)
      ∙ old_same x t (narrow (λ f. names_any f x) (λ f. names_old f x) (right (λ f. names_flag f x) (λ f. names_old f x)) s t a)

  lines_both : (ls : List NoteLine) → IsAlike (λ f. list_any (λ l. names_any f l.says) ls) s t → false_line e ls s s ≡ false_line e ls t t
  lines_both [] a = refl
  lines_both (l ∷ ls) a =
      ap (λ z. if is_true z then false_line e ls s s else Some l.line)
      (both_same l.says (narrow (λ f. names_any f l.says || list_any (λ l. names_any f l.says) ls) (λ f. names_any f l.says)
      (left (λ f. names_any f l.says) (λ f. list_any (λ l. names_any f l.says) ls)) s t a))
      ∙ ap (λ z. if is_true (value e l.says t t) then z else Some l.line)
      (lines_both ls (narrow (λ f. names_any f l.says || list_any (λ l. names_any f l.says) ls) (λ f. list_any (λ l. names_any f l.says) ls)
      (right (λ f. names_any f l.says) (λ f. list_any (λ l. names_any f l.says) ls)) s t a))

  lines_old : (ls : List NoteLine) (one : State) → IsAlike (λ f. list_any (λ l. names_old f l.says) ls) s t → false_line e ls one s ≡ false_line e ls one t
  lines_old [] one a = refl
  lines_old (l ∷ ls) one a =
      ap (λ z. if is_true z then false_line e ls one s else Some l.line)
      (old_same l.says one (narrow (λ f. names_old f l.says || list_any (λ l. names_old f l.says) ls) (λ f. names_old f l.says)
      (left (λ f. names_old f l.says) (λ f. list_any (λ l. names_old f l.says) ls)) s t a))
      ∙ ap (λ z. if is_true (value e l.says one t) then z else Some l.line)
      (lines_old ls one (narrow (λ f. names_old f l.says || list_any (λ l. names_old f l.says) ls) (λ f. list_any (λ l. names_old f l.says) ls)
      (right (λ f. names_old f l.says) (λ f. list_any (λ l. names_old f l.says) ls)) s t a))

  written_same : (ws : List Writes) → IsAlike (λ f. list_any (λ w. names_any f w.says) ws) s t → written e ws s ≡ written e ws t
  written_same [] a = refl
  written_same (w ∷ ws) a =
      ap (λ z. map (add 32 z) (from_to 0 w.count) ++ written e ws s)
      (both_same w.says (narrow (λ f. names_any f w.says || list_any (λ l. names_any f l.says) ws) (λ f. names_any f w.says)
      (left (λ f. names_any f w.says) (λ f. list_any (λ l. names_any f l.says) ws)) s t a))
      ∙ ap (λ z. map (add 32 (value e w.says t t)) (from_to 0 w.count) ++ z)
      (written_same ws (narrow (λ f. names_any f w.says || list_any (λ l. names_any f l.says) ws) (λ f. list_any (λ l. names_any f l.says) ws)
      (right (λ f. names_any f w.says) (λ f. list_any (λ l. names_any f l.says) ws)) s t a))

if_bool : (b : Bool) (x y : ℕ) → (b ≡ true → x ≡ y) → (z : ℕ) → (if b then x else z) ≡ (if b then y else z)
if_bool true x y h z = h refl
if_bool false x y h z = refl

any_test : (f g : ℕ → Bool) (xs : List ℕ) → ((a : ℕ) → f a ≡ g a) → list_any f xs ≡ list_any g xs
any_test f g [] h = refl
any_test f g (x ∷ xs) h = ap (λ z. z || list_any f xs) (h x) ∙ ap (λ z. g x || z) (any_test f g xs h)

and_left : (a b : Bool) → (a && b) ≡ true → b ≡ true
and_left true b e = e
and_left false b e = absurd (cc)

same_number : (a : ℕ) → (a == a) ≡ true
same_number a = grind (arith, nat_tests)

not_longer : (to : ℕ) (below : List ℕ) → nat_lt (length (to ∷ below)) (length below) ≡ false
not_longer to below = grind (arith, nat_tests)

-- the ends of the only edge
one_end : (t : EdgeEnd) (ends : List EdgeEnd) → ((x : EdgeEnd) → Contains (t ∷ []) x → Contains ends x) → length ends ≡ 1 → ends ≡ t ∷ []
one_end t [] h l = absurd (omega arith)
one_end t (x ∷ []) h l = ap (λ z. z ∷ []) (by (h t (0, omega arith, refl)))
  where
    by : Contains (x ∷ []) t → x ≡ t
    by (zero, m, e) = cc
    by (suc i, m, e) = absurd (omega arith)
one_end t (x ∷ y ∷ ends) h l = absurd (omega arith)

module _ (f : Frame) (contracts : List Contract) (k : ℕ) (u : UnrolledProgram) (un : IsUnrolling f contracts k u) (i : ℕ)
    (s e : State) (c g : Content) (choice : ℕ) (x : Contract) (to : ℕ) (below : List ℕ) where
  abbrev p : Program
  p = f.program

  abbrev E : Endian
  E = f.program.machine.endian

  abbrev d : Place
  d = record { state = state_after f x s to g; stack = below }

  abbrev from : Place
  from = record { state = s; stack = to ∷ below }

  abbrev gift : Gift
  gift = record { to = to; writes = x.writes; gives = x.gives; registers = x.registers; flags = x.flags }

  abbrev now : State
  now = content_at c s.pc

  module _ (q : UnrolledPoint) (does : DoesContract f k u i q (Some x) (to ∷ below)) (at : q.point.at ≡ s.pc) (is_place : IsAtPlace f.program.machine.narrow to)
      (is_contract : q.point.contract ≡ true) (stack : q.point.stack ≡ to ∷ below)
      (regs : c.regs ≡ s.regs) (mem : c.mem ≡ s.mem) (flags : (n : ℕ) → contract_reads n (Some x) ≡ true → c.flags n ≡ s.flags n) where
    abbrev kept_flag : ℕ → Bool
    kept_flag n = not (list_any (nat_eq n) x.flags)

    abbrev by_needs : ℕ → Bool
    by_needs n = list_any (λ l. names_any n l.says) x.needs

    abbrev by_writes : ℕ → Bool
    by_writes n = list_any (λ w. names_any n w.says) x.writes

    abbrev by_gives : ℕ → Bool
    by_gives n = list_any (λ l. names_old n l.says) x.gives

    needs_alike : IsAlike by_needs now s
    needs_alike = record {
      pc = refl;
      regs = regs;
      mem = mem;
      flags = λ n h. flags n (or_right (kept_flag n) (by_needs n || (by_writes n || by_gives n)) (or_left (by_needs n) (by_writes n || by_gives n) h));
    }

    writes_alike : IsAlike by_writes now s
    writes_alike = record {
      pc = refl;
      regs = regs;
      mem = mem;
      flags = λ n h. flags n (or_right (kept_flag n) (by_needs n || (by_writes n || by_gives n)) (or_right (by_needs n) (by_writes n || by_gives n)
          (or_left (by_writes n) (by_gives n) h)));
    }

    gives_alike : IsAlike by_gives now s
    gives_alike = record {
      pc = refl;
      regs = regs;
      mem = mem;
      flags = λ n h. flags n (or_right (kept_flag n) (by_needs n || (by_writes n || by_gives n)) (or_right (by_needs n) (by_writes n || by_gives n)
          (or_right (by_writes n) (by_gives n) h)));
    }

    -- what is written, and what comes back
    places_same : written u.endian x.writes now ≡ written E x.writes s
    places_same = ap (λ z. written z x.writes now) un.endian ∙ written_same E now s x.writes writes_alike

    abbrev gift_state : State
    gift_state = content_at (gifted u gift now g) to

    regs_after : gift_state.regs ≡ d.state.regs
    regs_after = fun_ext (λ r.
        ap (λ z. if z && not (list_any (nat_eq r) x.registers) then c.regs r else g.regs r) (un.registers r)
        ∙ ap (λ z. if keeps_register f x r then z r else g.regs r) regs)

    flags_after : gift_state.flags ≡ d.state.flags
    flags_after = fun_ext (λ n.
        ap (λ z. if z && not (list_any (nat_eq n) x.flags) then c.flags n else g.flags n) (un.flags n)
        ∙ if_bool (keeps_flag f x n) (c.flags n) (s.flags n)
        (λ h. flags n (or_left (kept_flag n) (by_needs n || (by_writes n || by_gives n)) (and_left (p.machine.has_flag n) (kept_flag n) h))) (g.flags n))

    mem_after : gift_state.mem ≡ d.state.mem
    mem_after = fun_ext (λ a.
        ap (λ z. if nat_lt a 4294967296 && not (list_any (nat_eq a) z) then c.mem a else g.mem a) places_same
        ∙ ap (λ z. if keeps_byte f x s a then z a else g.mem a) mem)

    after_same : gift_state ≡ d.state
    after_same =
        ap (λ z. record { pc = to; regs = z; flags = gift_state.flags; mem = gift_state.mem }) regs_after
        ∙ ap (λ z. record { pc = to; regs = d.state.regs; flags = z; mem = gift_state.mem }) flags_after
        ∙ ap (λ z. record { pc = to; regs = d.state.regs; flags = d.state.flags; mem = z }) mem_after

    -- what decides
    abbrev leaving : Leaving
    leaving = GoesOn true to (gifted u gift now g)

    abbrev sit : Situation
    sit = record { entry = e; now = now; next = gift_state; stored = written u.endian x.writes now; leaving = leaving; gives = x.gives }

    abbrev after_needs : List PointExit
    after_needs = WritingKept ∷ (outside_exit f.own ++ NotGiven ∷ does.0)

    abbrev need_or : Option ℕ → Aim → Aim
    need_or None a = a
    need_or (Some line) a = ToEvent (NeedsFails line)

    if_need : (b : Bool) (line : ℕ) (o : Option ℕ) (a : Aim) →
        (if not b then ToEvent (NeedsFails line) else need_or o a) ≡ need_or (if b then o else Some line) a
    if_need true line o a = refl
    if_need false line o a = refl

    needs_aim : (ls : List NoteLine) (rest : List PointExit) →
        first_aim u sit (map (λ l. FalseNeed l.line l.says) ls ++ rest) ≡ need_or (false_line u.endian ls now now) (first_aim u sit rest)
    needs_aim [] rest = refl
    needs_aim (l ∷ ls) rest =
        ap (λ z. if not (is_true (value u.endian l.says now now)) then ToEvent (NeedsFails l.line) else z) (needs_aim ls rest)
        ∙ if_need (is_true (value u.endian l.says now now)) l.line (false_line u.endian ls now now) (first_aim u sit rest)

    needs_same : false_line u.endian x.needs now now ≡ false_line E x.needs s s
    needs_same = ap (λ z. false_line z x.needs now now) un.endian ∙ lines_both E now s x.needs needs_alike

    kept_same : list_any (is_in u.kept) sit.stored ≡ list_any (λ a. is_kept (p.loaded a)) (written E x.writes s)
    kept_same = ap (list_any (is_in u.kept)) places_same ∙ any_test (is_in u.kept) (λ a. is_kept (p.loaded a)) (written E x.writes s) un.kept

    outside_same : (o : Option Contract) → walks.is_outside (own_of o) u.endian e sit.stored ≡ Frames.is_outside o E e (written E x.writes s)
    outside_same None = refl
    outside_same (Some y) =
        ap (λ z. list_any (λ a. not (covers z y.writes e a)) sit.stored) un.endian ∙ ap (list_any (λ a. not (covers E y.writes e a))) places_same

    gives_same : false_line u.endian x.gives gift_state now ≡ false_line E x.gives d.state s
    gives_same =
        ap (λ z. false_line z x.gives gift_state now) un.endian ∙ ap (λ z. false_line E x.gives z now) after_same
        ∙ lines_old E now s x.gives d.state gives_alike

    -- the way back
    abbrev Behind : FrameStep → Aim → Type 0
    Behind step aim = IsStep f k u q.point step (walk_to u e gift_state aim)

    abbrev content_same : Content → Type 0
    content_same z = z ≡ content_of d.state

    contents : content_of gift_state ≡ content_of d.state
    contents = ap content_of after_same

    no_call : is_contract_call f from d ≡ false
    no_call =
        let longer = not_longer to below in
        ap (λ z. is_some (contract_at f.stepped to) && z && links_by (row_of_place f from)) longer
        ∙ and_false (is_some (contract_at f.stepped to)) (links_by (row_of_place f from))

    lands_head : is_head f to ≡ true → lands f from d ≡ Reaches d
    lands_head h = ap (λ (z : Bool). if z then Reaches d else if is_contract_call f from d then Calls d else GoesTo d) h

    lands_on : is_head f to ≡ false → lands f from d ≡ GoesTo d
    lands_on h =
        ap (λ (z : Bool). if z then Reaches d else if is_contract_call f from d then Calls d else GoesTo d) h
        ∙ ap (λ (z : Bool). if z then Calls d else GoesTo d) no_call

    back_aim : (aim : Aim) → IsAim f k u i q.point (ToAddress below to) aim → Behind (lands f from d) aim
    back_aim (OnTo j) h =
        subst (λ z. Behind z (OnTo j)) (sym (lands_on h.0)) (inl (j, ap (WalkIsAt j) contents, h.2, h.3))
    back_aim (IntoHead b l) h =
        subst (λ z. Behind z (IntoHead b l)) (sym (lands_head h.0))
        (ap (λ z. WalkArrives z l (content_of gift_state)) h.1 ∙ ap (λ z. WalkArrives to z (content_of gift_state)) h.2
        ∙ ap (WalkArrives to (checks_at f to)) contents)
    back_aim OverLast h = subst (λ z. Behind z OverLast) (sym (lands_on h.0)) (inr (refl, h.1))
    back_aim Outward h = absurd h
    back_aim (ToEvent v) h = absurd h
    back_aim Cutting h = absurd h
    back_aim Nowhere h = absurd h

    edges_here : frame_edges f q.point ≡ ToAddress below to ∷ []
    edges_here =
        let t = place_passes p.machine.narrow to is_place in
        ap (λ (z : Bool). if z then filter (leads_on p.machine.narrow) (top_ends q.point.stack) else if is_cut f q.point then [] else edges p
        (triple q.point)) is_contract
        ∙ ap (λ z. filter (leads_on p.machine.narrow) (top_ends z)) stack ∙ ap (λ (z : Bool). if z then ToAddress below to ∷ [] else []) t

    edge_aim : (y : PointExit) → IsEdge f k u i q.point None (ToAddress below to) y → Behind (lands f from d) (first_aim u sit (y ∷ []))
    edge_aim y h =
        subst (λ z. Behind (lands f from d) (first_aim u sit (z ∷ []))) (sym h.is)
        (subst (λ (z : Bool). Behind (lands f from d) (if z then h.aim else first_aim u sit [])) (sym (same_number to)) (back_aim h.aim h.leads))

    along_aim : (ends : List EdgeEnd) (ys : List PointExit) → ends ≡ ToAddress below to ∷ [] → AllZip (IsEdge f k u i q.point None) ends ys →
        Behind (lands f from d) (first_aim u sit ys)
    along_aim [] ys e h = absurd (cc)
    along_aim (t ∷ ends) [] e h = absurd h
    along_aim (t ∷ []) (y ∷ []) e h =
        edge_aim y (subst (λ z. IsEdge f k u i q.point None z y) (let s : t ≡ ToAddress below to = cc in s) h.0)
    along_aim (t ∷ []) (y ∷ z ∷ ys) e h = absurd h.1
    along_aim (t ∷ v ∷ ends) (y ∷ ys) e h = absurd (cc)

    its_ends : does.3.0 ≡ ToAddress below to ∷ []
    its_ends =
        one_end (ToAddress below to) does.3.0
        (λ t h. (does.3.1.same t).0 (subst (λ z. Contains z t) (sym edges_here) h)) (does.3.1.count ∙ ap length edges_here)

    behind_gives : (o : Option ℕ) → false_line u.endian x.gives gift_state now ≡ o →
        Behind (returns_by o f from d) (first_aim u sit (NotGiven ∷ does.0))
    behind_gives (Some l) h =
        subst (λ z. Behind (Breaks l) (if is_line_false z then Nowhere else first_aim u sit does.0)) (sym h) refl
    behind_gives None h =
        subst (λ z. Behind (lands f from d) (if is_line_false z then Nowhere else first_aim u sit does.0)) (sym h)
        (along_aim does.3.0 does.0 its_ends does.3.2)

    returned : Behind (returns_by (false_line E x.gives d.state s) f from d) (first_aim u sit (NotGiven ∷ does.0))
    returned = subst (λ z. Behind (returns_by z f from d) (first_aim u sit (NotGiven ∷ does.0))) gives_same
        (behind_gives (false_line u.endian x.gives gift_state now) refl)

    behind_outside : (o : Option Contract) → u.own ≡ own_of o →
        Behind (writes_by false (Frames.is_outside o E e (written E x.writes s)) f x from d) (first_aim u sit (outside_exit o ++ NotGiven ∷ does.0))
    behind_outside None h = returned
    behind_outside (Some y) h =
        let same : walks.is_outside u.own u.endian e sit.stored ≡ Frames.is_outside (Some y) E e (written E x.writes s) =
        ap (λ z. walks.is_outside z u.endian e sit.stored) h ∙ outside_same (Some y) in
        by (Frames.is_outside (Some y) E e (written E x.writes s)) (walks.is_outside u.own u.endian e sit.stored) same
      where
        by : (a b : Bool) → b ≡ a → Behind (writes_by false a f x from d) (if b then ToEvent WritesFails else first_aim u sit (NotGiven ∷ does.0))
        by true true h = refl
        by false false h = returned
        by true false h = absurd (cc)
        by false true h = absurd (cc)

    behind_kept : (a b : Bool) → b ≡ a →
        Behind (writes_by a (Frames.is_outside f.own E e (written E x.writes s)) f x from d)
        (if b then ToEvent (OfStep CodeWritten) else first_aim u sit (outside_exit f.own ++ NotGiven ∷ does.0))
    behind_kept true true h = refl
    behind_kept false false h = behind_outside f.own un.own
    behind_kept true false h = absurd (cc)
    behind_kept false true h = absurd (cc)

    behind_needs : (o : Option ℕ) → Behind (needs_by o f e x from d) (need_or o (first_aim u sit after_needs))
    behind_needs (Some l) = refl
    behind_needs None =
        behind_kept (list_any (λ a. is_kept (p.loaded a)) (written E x.writes s)) (list_any (is_in u.kept) sit.stored) kept_same

    all : Behind (needs_by (false_line E x.needs s s) f e x from d) (first_aim u sit q.exits)
    all =
        let o = false_line E x.needs s s in
        subst (λ z. Behind (needs_by o f e x from d) (first_aim u sit z)) (sym does.2)
        (subst (Behind (needs_by o f e x from d)) (sym (needs_aim x.needs after_needs ∙ ap (λ z. need_or z (first_aim u sit after_needs)) needs_same))
        (behind_needs o))

    -- the walk is by what the point does, in the state there
    walk_is : walk_from u e q choice g c ≡ walk_to u e gift_state (first_aim u sit q.exits)
    walk_is =
        ap (λ z. walk_to u e (next_state (left_by u q choice g c z) c) (first_aim u (record {
          entry = e;
          now = content_at c q.point.at;
          next = next_state (left_by u q choice g c z) c;
          stored = stored_by u q choice c z;
          leaving = left_by u q choice g c z;
          gives = gives_of z;
        }) q.exits)) does.1
        ∙ ap (λ z. walk_to u e (content_at (gifted u gift (content_at c z) g) to) (first_aim u (record {
          entry = e;
          now = content_at c z;
          next = content_at (gifted u gift (content_at c z) g) to;
          stored = written u.endian x.writes (content_at c z);
          leaving = GoesOn true to (gifted u gift (content_at c z) g);
          gives = x.gives;
        }) q.exits)) at

    pub stepped : IsStep f k u q.point (needs_by (false_line E x.needs s s) f e x from d) (walk_from u e q choice g c)
    stepped = subst (IsStep f k u q.point (needs_by (false_line E x.needs s s) f e x from d)) (sym walk_is) all

module _ (f : Frame) (contracts : List Contract) (k : ℕ) (u : UnrolledProgram) (un : IsUnrolling f contracts k u) (places : HasPlaces f.program)
    (among : (a : ℕ) (x : Contract) → contract_at f.stepped a ≡ Some x → contract_at contracts a ≡ Some x) (i : ℕ) (inside : i < length u.points)
    (is : (point_at u i).point.contract ≡ true) (s e : State) (c g : Content) (choice : ℕ) (at : s.pc ≡ (point_at u i).point.at)
    (carried : IsCarriedOf (λ n. IsRead f.program contracts n s.pc) s c) where
  abbrev q : UnrolledPoint
  q = point_at u i

  does : DoesBy true (is_cut f q.point) f contracts k u i q
  does = subst (λ (z : Bool). DoesBy z (is_cut f q.point) f contracts k u i q) is (un.places i inside).does

  is_point : IsPoint f k q.point
  is_point = un.points.only q.point (in_map (λ z. z.point) u.points q (at_in u.points i q (slice_get-get_or u.points i no_point inside)))

  reads : (x : Contract) → contract_at f.stepped q.point.at ≡ Some x → (n : ℕ) → contract_reads n (Some x) ≡ true → c.flags n ≡ s.flags n
  reads x h n r =
      let here : contract_at contracts s.pc ≡ Some x = among s.pc x (ap (contract_at f.stepped) at ∙ h) in
      carried.flags n (by_contract (ap (contract_reads n) here ∙ r))

  by : (o : Option Contract) (stack : List ℕ) → contract_at f.stepped q.point.at ≡ o → q.point.stack ≡ stack → DoesContract f k u i q o stack →
      AreAll (IsAtPlace f.program.machine.narrow) stack → IsStep f k u q.point (contract_by o f e s stack g) (walk_from u e q choice g c)
  by None stack h t does even = absurd does
  by (Some x) [] h t does even = absurd does
  by (Some x) (to ∷ below) h t does even =
      stepped f contracts k u un i s e c g choice x to below q does (sym at) even.0 is t carried.regs carried.mem (reads x h)

  pub walk_is_step : IsStep f k u q.point (contract_step f e (record { state = s; stack = q.point.stack }) g) (walk_from u e q choice g c)
  walk_is_step =
      subst (λ z. IsStep f k u q.point (contract_by z f e s q.point.stack g) (walk_from u e q choice g c)) (ap (contract_at f.stepped) (sym at))
      (by (contract_at f.stepped q.point.at) q.point.stack refl refl does (aligned_stack))
    where
      aligned_stack : AreAll (IsAtPlace f.program.machine.narrow) q.point.stack
      aligned_stack = stack_places f k places q.point is_point

pub contract_step_is_walk : ContractStepIsWalk
contract_step_is_walk f contracts k u un places among i inside is s e c g choice at carried =
    walk_is_step f contracts k u un places among i inside is s e c g choice at carried
