-- Walks hang on no more of the memory than machines see.
use Rattle.std.proofs.Common.{◌≡◌, ℕ, zero, suc, ◌%◌, ◌^◌, Bool, true, false, List, [], ◌∷◌, Option, Some, None, refl, ap, sym, ◌∙◌}
use Rattle.std.specs.Prelude.{nat_lt, nat_eq, not, ◌&&◌, ◌==◌, if◌then◌else◌, map}
use Rattle.std.specs.List.{list_any, flat_map}
use Rattle.std.proofs.Math.Path.{fun_ext}
use Rattle.word_spec.specs.Words.{add, bit}
use Rattle.word_spec.specs.Memory.{Endian, Memory, load}
use Rattle.word_spec.specs.RowFiles.{from_to}
use Rattle.word_spec.specs.State.{State}
use Rattle.machine_spec.specs.BilMeaning.{Ending, Ends, RaisesException, OutOfTurns, Wrong, Stuck, execute}
use Rattle.machine_spec.specs.Simulation.{position}
use Rattle.machine_spec.specs.Endings.{EnsureFails}
use Rattle.bilv_spec.specs.Notes as notes
use Rattle.bilv_spec.specs.Notes.{Expr, Number, Register, Flag, Pc, Bound, Old, Not, Binary, NoteLine, value, is_true, apply}
use Rattle.bilv_spec.specs.Run.{false_line}
use Rattle.frame_spec.specs.Frames.{Content, Writes, OfStep, GivesFails, written, content_at, content_of}
use Rattle.frame_spec.specs.FramePoints.{Anchor, AtEntry, AtHead}
use Rattle.frame_spec.specs.FrameQuestions.{Reading}
use Rattle.frame_spec.specs.FrameWalk.{Check, Aim, OnTo, IntoHead, Outward, OverLast, ToEvent, Cutting, Nowhere, PointExit, FalseCheck, FalseNeed, Always, Raising, WritingKept, WritingOutside, NotGiven, Unaligned, Along, Gift, Action, Executes, Arrives, StepsOver, UnrolledPoint, UnrolledProgram, Own, Leaving, GoesOn, RaisesOne, IsStuck, Situation, Walk, WalkIsAt, WalkArrives, WalkExits, WalkFails, WalkTurns, WalkIsCut, WalkBreaks, Held, goes_on, leaving_by, gifted, left_by, stored_by, next_state, is_raised, raised_event, gives_of, is_line_false, is_taken, aim_of, first_aim, false_check, arrival_by, has_changed, out_by, walk_out, walk_to, walk_from, walk_on, point_at, content_if, held_if, hand_end, hand, sweep_on}
use Rattle.low_memory.specs.LowMemory.{low, low_position, low_ending}
use Rattle.low_memory.specs.LowWalks.{low_state, low_content, low_leaving, low_walk, low_held, SweepsSeeLow}
use Rattle.low_memory.proofs.Lists.{low_again, load_low, execute_low, list_stored_low}

value_low : (e : Endian) (x : Expr) (now entry : State) → value e x (low_state now) entry ≡ value e x now entry
value_low e (Number n) now entry = refl
value_low e (Register r) now entry = refl
value_low e (Flag f) now entry = refl
value_low e Pc now entry = refl
value_low e Bound now entry = refl
value_low e (notes.Memory n a) now entry =
    load_low e n now.mem (value e a (low_state now) entry) ∙ ap (λ k. load e n now.mem k) (value_low e a now entry)
value_low e (Old a) now entry = refl
value_low e (Not a) now entry = ap (λ v. bit (not (is_true v))) (value_low e a now entry)
value_low e (Binary o a b) now entry =
    ap (λ v. apply o v (value e b (low_state now) entry)) (value_low e a now entry) ∙ ap (λ v. apply o (value e a now entry) v) (value_low e b now entry)

entry_low : (e : Endian) (x : Expr) (now entry : State) → value e x now (low_state entry) ≡ value e x now entry
entry_low e (Number n) now entry = refl
entry_low e (Register r) now entry = refl
entry_low e (Flag f) now entry = refl
entry_low e Pc now entry = refl
entry_low e Bound now entry = refl
entry_low e (notes.Memory n a) now entry = ap (λ k. load e n now.mem k) (entry_low e a now entry)
entry_low e (Old a) now entry = value_low e a entry (low_state entry) ∙ entry_low e a entry entry
entry_low e (Not a) now entry = ap (λ v. bit (not (is_true v))) (entry_low e a now entry)
entry_low e (Binary o a b) now entry =
    ap (λ v. apply o v (value e b now (low_state entry))) (entry_low e a now entry) ∙ ap (λ v. apply o (value e a now entry) v) (entry_low e b now entry)

here_low : (e : Endian) (x : Expr) (s : State) → value e x (low_state s) (low_state s) ≡ value e x s s
here_low e x s = value_low e x s (low_state s) ∙ entry_low e x s s

line_low : (e : Endian) (lines : List NoteLine) (now entry : State) → false_line e lines (low_state now) entry ≡ false_line e lines now entry
line_low e [] now entry = refl
line_low e (l ∷ rest) now entry =
    ap (λ v. if is_true v then false_line e rest (low_state now) entry else Some l.line) (value_low e l.says now entry)
    ∙ ap (λ o. if is_true (value e l.says now entry) then o else Some l.line) (line_low e rest now entry)

line_entry_low : (e : Endian) (lines : List NoteLine) (now entry : State) → false_line e lines now (low_state entry) ≡ false_line e lines now entry
line_entry_low e [] now entry = refl
line_entry_low e (l ∷ rest) now entry =
    ap (λ v. if is_true v then false_line e rest now (low_state entry) else Some l.line) (entry_low e l.says now entry)
    ∙ ap (λ o. if is_true (value e l.says now entry) then o else Some l.line) (line_entry_low e rest now entry)

check_low : (e : Endian) (checks : List Check) (now entry : State) → false_check e checks (low_state now) entry ≡ false_check e checks now entry
check_low e [] now entry = refl
check_low e (x ∷ rest) now entry =
    ap (λ v. if is_true v then false_check e rest (low_state now) entry else Some x) (value_low e x.says now entry)
    ∙ ap (λ o. if is_true (value e x.says now entry) then o else Some x) (check_low e rest now entry)

pub written_low : (e : Endian) (writes : List Writes) (s : State) → written e writes (low_state s) ≡ written e writes s
written_low e writes s =
    ap (λ (f : Writes → List ℕ). flat_map f writes) (fun_ext (λ w. ap (λ v. map (add 32 v) (from_to 0 w.count)) (here_low e w.says s)))

low_twice : (m : Memory) → low (low m) ≡ low m
low_twice m = fun_ext (λ a. ap m (low_again a))

abbrev with_mem : Content → Memory → Content
with_mem c m = record { regs = c.regs; flags = c.flags; mem = m }

content_twice : (c : Content) → low_content (low_content c) ≡ low_content c
content_twice c = ap (λ (m : Memory). with_mem c m) (low_twice c.mem)

module _ (u : UnrolledProgram) where
  gifted_low : (x : Gift) (s : State) (g : Content) → low_content (gifted u x (low_state s) g) ≡ low_content (gifted u x s g)
  gifted_low x s g = ap (λ (m : Memory). with_mem (gifted u x s g) m) (fun_ext (λ a.
      ap (λ w. if nat_lt (a % 2 ^ 32) 4294967296 && not (list_any (nat_eq (a % 2 ^ 32)) w) then s.mem (a % 2 ^ 32 % 2 ^ 32) else g.mem (a % 2 ^ 32))
      (written_low u.endian x.writes s)
      ∙ ap (λ k. if nat_lt (a % 2 ^ 32) 4294967296 && not (list_any (nat_eq (a % 2 ^ 32)) (written u.endian x.writes s)) then s.mem k else g.mem (a % 2 ^ 32))
      (low_again a)))

  module _ (q : UnrolledPoint) (choice : ℕ) (g : Content) where
    goes_low : (j : Option ℕ) (c : Content) → low_leaving (goes_on q j (low_content c)) ≡ low_leaving (goes_on q j c)
    goes_low None c = ap (λ d. GoesOn false (add 32 q.point.at q.length) d) (content_twice c)
    goes_low (Some a) c = ap (λ d. GoesOn true a d) (content_twice c)

    leaving_low : (x : Ending) → low_leaving (leaving_by q (low_ending x)) ≡ low_leaving (leaving_by q x)
    leaving_low (Ends p) = goes_low p.jump (record { regs = p.env.regs; flags = p.env.flags; mem = p.env.mem })
    leaving_low (RaisesException n p) = refl
    leaving_low (OutOfTurns p) = refl
    leaving_low Wrong = refl

    left_low : (c : Content) (a : Action) → low_leaving (left_by u q choice g (low_content c) a) ≡ low_leaving (left_by u q choice g c a)
    left_low c (Executes list) =
        ap (λ x. low_leaving (leaving_by q x)) (execute_low list choice (position (λ x t. Stuck) 0 None (content_at c q.point.at)))
        ∙ leaving_low (execute list choice (position (λ x t. Stuck) 0 None (content_at c q.point.at)))
    left_low c Arrives = refl
    left_low c (StepsOver x) = ap (λ d. GoesOn true x.to d) (gifted_low x (content_at c q.point.at) g)

    stored_low : (c : Content) (a : Action) → stored_by u q choice (low_content c) a ≡ stored_by u q choice c a
    stored_low c (Executes list) = list_stored_low list choice (position (λ x t. Stuck) 0 None (content_at c q.point.at))
    stored_low c Arrives = refl
    stored_low c (StepsOver x) = written_low u.endian x.writes (content_at c q.point.at)

  next_low : (l : Leaving) (c : Content) → next_state (low_leaving l) (low_content c) ≡ low_state (next_state l c)
  next_low (GoesOn jumped to d) c = refl
  next_low (RaisesOne n) c = refl
  next_low IsStuck c = refl

  raised_low : (l : Leaving) → is_raised (low_leaving l) ≡ is_raised l
  raised_low (GoesOn jumped to d) = refl
  raised_low (RaisesOne n) = refl
  raised_low IsStuck = refl

  event_low : (l : Leaving) → raised_event (low_leaving l) ≡ raised_event l
  event_low (GoesOn jumped to d) = refl
  event_low (RaisesOne n) = refl
  event_low IsStuck = refl

  module _ (entry : State) (q : UnrolledPoint) where
    abbrev sit : Leaving → Content → List ℕ → Situation
    sit l c st = record { entry = entry; now = content_at c q.point.at; next = next_state l c; stored = st; leaving = l; gives = gives_of q.does }

    along_low : (falls jumps : Bool) (to : Option ℕ) (aim : Aim) (l : Leaving) (c : Content) (st : List ℕ) →
        is_taken u (sit (low_leaving l) (low_content c) st) (Along falls jumps to aim) ≡ is_taken u (sit l c st) (Along falls jumps to aim)
    along_low falls jumps to aim (GoesOn jumped k d) c st = refl
    along_low falls jumps to aim (RaisesOne n) c st = refl
    along_low falls jumps to aim IsStuck c st = refl

    odd_low : (l : Leaving) (c : Content) (st : List ℕ) →
        is_taken u (sit (low_leaving l) (low_content c) st) Unaligned ≡ is_taken u (sit l c st) Unaligned
    odd_low (GoesOn jumped k d) c st = refl
    odd_low (RaisesOne n) c st = refl
    odd_low IsStuck c st = refl

    taken_low : (l : Leaving) (c : Content) (st : List ℕ) (x : PointExit) →
        is_taken u (sit (low_leaving l) (low_content c) st) x ≡ is_taken u (sit l c st) x
    taken_low l c st (FalseCheck x) = ap (λ v. not (is_true v)) (value_low u.endian x.says (content_at c q.point.at) entry)
    taken_low l c st (FalseNeed line e) = ap (λ v. not (is_true v)) (here_low u.endian e (content_at c q.point.at))
    taken_low l c st (Always aim) = refl
    taken_low l c st Raising = raised_low l
    taken_low l c st WritingKept = refl
    taken_low l c st WritingOutside = refl
    taken_low l c st NotGiven =
        ap (λ s. is_line_false (false_line u.endian (gives_of q.does) s (low_state (content_at c q.point.at)))) (next_low l c)
        ∙ ap (λ o. is_line_false o) (line_low u.endian (gives_of q.does) (next_state l c) (low_state (content_at c q.point.at))
        ∙ line_entry_low u.endian (gives_of q.does) (next_state l c) (content_at c q.point.at))
    taken_low l c st Unaligned = odd_low l c st
    taken_low l c st (Along falls jumps to aim) = along_low falls jumps to aim l c st

    aim_low : (l : Leaving) (x : PointExit) → aim_of (low_leaving l) x ≡ aim_of l x
    aim_low l (FalseCheck x) = refl
    aim_low l (FalseNeed line e) = refl
    aim_low l (Always aim) = refl
    aim_low l Raising = ap (λ e. ToEvent e) (event_low l)
    aim_low l WritingKept = refl
    aim_low l WritingOutside = refl
    aim_low l NotGiven = refl
    aim_low l Unaligned = refl
    aim_low l (Along falls jumps to aim) = refl

    first_low : (l : Leaving) (c : Content) (st : List ℕ) (xs : List PointExit) →
        first_aim u (sit (low_leaving l) (low_content c) st) xs ≡ first_aim u (sit l c st) xs
    first_low l c st [] = refl
    first_low l c st (x ∷ rest) =
        ap (λ b. if b then aim_of (low_leaving l) x else first_aim u (sit (low_leaving l) (low_content c) st) rest) (taken_low l c st x)
        ∙ ap (λ a. if is_taken u (sit l c st) x then a else first_aim u (sit (low_leaving l) (low_content c) st) rest) (aim_low l x)
        ∙ ap (λ a. if is_taken u (sit l c st) x then aim_of l x else a) (first_low l c st rest)

    out_low : (o : Option Own) (next : State) → walk_out o u entry (low_state next) ≡ walk_out o u entry next
    out_low None next = ap (λ o. out_by o (λ n. OfStep (EnsureFails n)) false) (line_low u.endian u.ensures next entry)
    out_low (Some x) next = ap (λ o. out_by o GivesFails (has_changed u x entry next)) (line_low u.endian x.gives next entry)

    to_low : (aim : Aim) (next : State) → low_walk (walk_to u entry (low_state next) aim) ≡ low_walk (walk_to u entry next aim)
    to_low (OnTo i) next = ap (λ c. WalkIsAt i c) (content_twice (content_of next))
    to_low (IntoHead at checks) next = ap (λ c. WalkArrives at checks c) (content_twice (content_of next))
    to_low Outward next = ap low_walk (out_low u.own next)
    to_low OverLast next = refl
    to_low (ToEvent e) next = refl
    to_low Cutting next = refl
    to_low Nowhere next = refl

    abbrev walked : Leaving → Content → List ℕ → Walk
    walked l c st = walk_to u entry (next_state l c) (first_aim u (sit l c st) q.exits)

    walked_low : (l : Leaving) (c : Content) (st : List ℕ) → low_walk (walked (low_leaving l) (low_content c) st) ≡ low_walk (walked l c st)
    walked_low l c st =
        ap (λ s. low_walk (walk_to u entry s (first_aim u (sit (low_leaving l) (low_content c) st) q.exits))) (next_low l c)
        ∙ to_low (first_aim u (sit (low_leaving l) (low_content c) st) q.exits) (next_state l c)
        ∙ ap (λ a. low_walk (walk_to u entry (next_state l c) a)) (first_low l c st q.exits)

    from_low : (choice : ℕ) (g c : Content) → low_walk (walk_from u entry q choice g (low_content c)) ≡ low_walk (walk_from u entry q choice g c)
    from_low choice g c =
        let l = left_by u q choice g c q.does in
        let m = left_by u q choice g (low_content c) q.does in
        let st = stored_by u q choice c q.does in
        ap (λ z. low_walk (walked m (low_content c) z)) (stored_low q choice g c q.does)
        ∙ sym (walked_low m (low_content c) st)
        ∙ ap (λ z. low_walk (walked z (low_content (low_content c)) st)) (left_low q choice g c q.does)
        ∙ ap (λ z. low_walk (walked (low_leaving l) z st)) (content_twice c)
        ∙ walked_low l c st

    from_alike : (choice : ℕ) (g c d : Content) → low_content c ≡ low_content d →
        low_walk (walk_from u entry q choice g c) ≡ low_walk (walk_from u entry q choice g d)
    from_alike choice g c d e =
        sym (from_low choice g c) ∙ ap (λ z. low_walk (walk_from u entry q choice g z)) e ∙ from_low choice g d

  abbrev with_carried : Held → (ℕ → Content) → Held
  with_carried h f = record { met = h.met; carried = f; fails = h.fails; steps = h.steps; turns = h.turns }

  held_twice : (h : Held) → low_held (low_held h) ≡ low_held h
  held_twice h = ap (λ (f : ℕ → Content). with_carried h f) (fun_ext (λ i. content_twice (h.carried i)))

  end_low : (anchor : Anchor) (w : Walk) (h : Held) → low_held (hand_end anchor w (low_held h)) ≡ low_held (hand_end anchor w h)
  end_low AtEntry (WalkIsAt i c) h = held_twice h
  end_low AtEntry (WalkArrives at checks c) h = held_twice h
  end_low AtEntry WalkExits h = held_twice h
  end_low AtEntry (WalkFails e) h = held_twice (record h { fails = true })
  end_low AtEntry WalkTurns h = held_twice (record h { turns = true })
  end_low AtEntry WalkIsCut h = held_twice h
  end_low AtEntry WalkBreaks h = held_twice h
  end_low (AtHead s a) (WalkIsAt i c) h = held_twice h
  end_low (AtHead s a) (WalkArrives at checks c) h = held_twice h
  end_low (AtHead s a) WalkExits h = held_twice h
  end_low (AtHead s a) (WalkFails e) h = held_twice (record h { steps = true })
  end_low (AtHead s a) WalkTurns h = held_twice (record h { turns = true })
  end_low (AtHead s a) WalkIsCut h = held_twice h
  end_low (AtHead s a) WalkBreaks h = held_twice h

  if_low : (b : Bool) (c d : Content) → low_content (content_if b (low_content c) (low_content d)) ≡ low_content (content_if b c d)
  if_low b c d = ap (λ (m : Memory). with_mem (content_if b c d) m) (fun_ext (λ a. ap (λ k. if b then c.mem k else d.mem k) (low_again a)))

  module _ (r : Reading) (anchor : Anchor) where
    hand_low : (w : Walk) (h : Held) → low_held (hand u r anchor (low_walk w) (low_held h)) ≡ low_held (hand u r anchor w h)
    hand_low (WalkIsAt j c) h = ap (λ (f : ℕ → Content). with_carried (hand u r anchor (WalkIsAt j c) h) f) (fun_ext (λ i. if_low (i == j) c (h.carried i)))
    hand_low (WalkArrives at checks c) h =
        ap (λ o. low_held (hand_end anchor (arrival_by o) (low_held h))) (check_low u.endian checks (content_at c at) r.state)
        ∙ end_low anchor (arrival_by (false_check u.endian checks (content_at c at) r.state)) h
    hand_low WalkExits h = end_low anchor WalkExits h
    hand_low (WalkFails e) h = end_low anchor (WalkFails e) h
    hand_low WalkTurns h = end_low anchor WalkTurns h
    hand_low WalkIsCut h = end_low anchor WalkIsCut h
    hand_low WalkBreaks h = end_low anchor WalkBreaks h

    hand_alike : (v w : Walk) (g h : Held) → low_walk v ≡ low_walk w → low_held g ≡ low_held h → low_held (hand u r anchor v g) ≡ low_held (hand u r anchor w h)
    hand_alike v w g h p q =
        sym (hand_low v g) ∙ ap (λ z. low_held (hand u r anchor z (low_held g))) p ∙ ap (λ z. low_held (hand u r anchor (low_walk w) z)) q ∙ hand_low w h

  either_alike : (b : Bool) (f g h k : Held) → low_held f ≡ low_held h → low_held g ≡ low_held k → low_held (held_if b f g) ≡ low_held (held_if b h k)
  either_alike true f g h k p q = p
  either_alike false f g h k p q = q

-- what a contract step takes of what is given below those addresses is all that counts
module _ (u : UnrolledProgram) (entry : State) (q : UnrolledPoint) (choice : ℕ) where
  abbrev taken_from : Gift → State → Content → Content
  taken_from x s g = record {
    regs = λ r. if list_any (nat_eq r) u.registers && not (list_any (nat_eq r) x.registers) then s.regs r else g.regs r;
    flags = λ n. if nat_lt n u.flags && not (list_any (nat_eq n) x.flags) then s.flags n else g.flags n;
    mem = λ a. if nat_lt (a % 2 ^ 32) 4294967296 && not (list_any (nat_eq (a % 2 ^ 32)) (written u.endian x.writes s)) then s.mem (a % 2 ^ 32) else g.mem a;
  }

  left_alike : (a : Action) (g h c : Content) → low_content g ≡ low_content h →
      low_leaving (left_by u q choice g c a) ≡ low_leaving (left_by u q choice h c a)
  left_alike (Executes list) g h c e = refl
  left_alike Arrives g h c e = refl
  left_alike (StepsOver x) g h c e = ap (λ z. GoesOn true x.to (taken_from x (content_at c q.point.at) z)) e

  pub given_alike : (g h c : Content) → low_content g ≡ low_content h →
      low_walk (walk_from u entry q choice g c) ≡ low_walk (walk_from u entry q choice h c)
  given_alike g h c e =
      let st = stored_by u q choice c q.does in
      sym (walked_low u entry q (left_by u q choice g c q.does) c st)
      ∙ ap (λ z. low_walk (walked u entry q z (low_content c) st)) (left_alike q.does g h c e)
      ∙ walked_low u entry q (left_by u q choice h c q.does) c st

-- so the sweep with another gift of which machines see the same
pub sweeps_given : (u : UnrolledProgram) (r : Reading) (t : ℕ) (h : Held) (g : Content) → low_content g ≡ low_content (r.given (point_at u t).point) →
    low_held (held_if (h.met t) (hand u r (point_at u t).point.anchor
    (walk_from u r.state (point_at u t) (r.choice (point_at u t).point) g (h.carried t)) h) h)
    ≡ low_held (sweep_on u r t h)
sweeps_given u r t h g e =
    let q = point_at u t in
    let v = walk_from u r.state q (r.choice q.point) g (h.carried t) in
    let w = walk_from u r.state q (r.choice q.point) (r.given q.point) (h.carried t) in
    either_alike u (h.met t) (hand u r q.point.anchor v h) h (hand u r q.point.anchor w h) h
    (hand_alike u r q.point.anchor v w h h (given_alike u r.state q (r.choice q.point) g (r.given q.point) (h.carried t) e) refl) refl

pub sweeps_see_low : SweepsSeeLow
sweeps_see_low u r t g h e =
    let q = point_at u t in
    let v = walk_from u r.state q (r.choice q.point) (r.given q.point) (g.carried t) in
    let w = walk_from u r.state q (r.choice q.point) (r.given q.point) (h.carried t) in
    let walks = from_alike u r.state q (r.choice q.point) (r.given q.point) (g.carried t) (h.carried t) (ap (λ z. z.carried t) e) in
    ap (λ b. low_held (held_if b (hand u r q.point.anchor v g) g)) (ap (λ z. z.met t) e)
    ∙ either_alike u (h.met t) (hand u r q.point.anchor v g) g (hand u r q.point.anchor w h) h (hand_alike u r q.point.anchor v w g h walks e) e
