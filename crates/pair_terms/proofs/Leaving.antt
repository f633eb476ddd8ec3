-- A walk leaves the function where the last place of the program with the exit as a place is met, and the ensured lines are true there.
use Rattle.std.proofs.Common.{◌≡◌, ℕ, suc, ◌+◌, ◌<◌, Bool, true, false, ◌&&◌, List, [], ◌∷◌, Option, None, Some, length, refl, ap, sym, subst, ◌∙◌, arith, Contains}
use Rattle.std.specs.Prelude.{if◌then◌else◌, map}
use Rattle.std.specs.List.{list_any}
use Rattle.std.proofs.lemmas.Bool.{false≢true, eqb-true}
use Rattle.std.proofs.lemmas.List.{length-map, length_push, get_or_push}
use Rattle.word_spec.specs.State.{State}
use Rattle.word_spec.specs.Memory.{Endian}
use Rattle.bilv_spec.specs.Notes.{NoteLine, value, is_true}
use Rattle.bilv_spec.specs.Run.{false_line}
use Rattle.bilv_spec.specs.Questions.{Reading}
use Rattle.walk_spec.specs.Unrolled.{Carried, state_at, Aim, Outward, PointExit, FalseAssert, Always, Raising, WritingKept, Unaligned, Along, UnrolledPoint, UnrolledProgram, no_point, is_in, point_at, edge_address, Leaving, GoesOn, RaisesOne, IsStuck, leaving, stored_at, is_taken, is_outward, aim_of, first_aim, next_address, carried_on, Walk, WalkIsAt, WalkExits, WalkFails, WalkTurns, walk_to, walk_on, walk, ExitsLeadLater}
use Rattle.walk_spec.specs.Sweep.{Held, carried_if, held_if, hand, held, swept, met_below}
use Rattle.walk_spec.proofs.SweepWalk.{sweep_is_walk}
use Rattle.weakest_pre.specs.Entry.{all_hold}
use Rattle.weakest_pre.proofs.Told.{both_true, true_both}
use Rattle.pair_spec.specs.PairTerms.{WalkComesOut, WalkLeaves, exit_place, point_aimed, with_exit_place}
use Rattle.pair_spec.proofs.ExitPlace.{exit_is_place}
use Rattle.pair_terms.specs.Places.{IsByLink, LeavesByLink}
use Rattle.pair_terms.specs.Exits.{last_of, last_state, ensured_lines, leaves_last}

-- ---- the address at which a walk comes out

-- an edge out of the function is taken at the link value
taken_out : (u : UnrolledProgram) (entry now : State) (w : Bool) (l : Leaving) (x : PointExit) → IsByLink x → is_taken u entry now w l x ≡ true →
    aim_of l x ≡ Outward → next_address l ≡ entry.regs u.link
taken_out u entry now w l (FalseAssert line e) h t a = cc
taken_out u entry now w l (Always e) h t a = cc
taken_out u entry now w l Raising h t a = cc
taken_out u entry now w l WritingKept h t a = cc
taken_out u entry now w l Unaligned h t a = cc
taken_out u entry now w (GoesOn jumped at c) (Along falls jumps to aim) h t a =
    eqb-true _ _ (both_true _ _ t).1 ∙ ap (edge_address u entry) (h (ap is_outward a))
taken_out u entry now w (RaisesOne n) (Along falls jumps to aim) h t a = absurd (false≢true t)
taken_out u entry now w IsStuck (Along falls jumps to aim) h t a = absurd (false≢true t)

contains_later : (x y : PointExit) (xs : List PointExit) → Contains xs y → Contains (x ∷ xs) y
contains_later x y xs c = (suc c.0, omega (arith, c.1), c.2)

by_choice : (u : UnrolledProgram) (entry now : State) (w : Bool) (l : Leaving) (x : PointExit) (next : Aim) (b : Bool) → IsByLink x →
    (next ≡ Outward → next_address l ≡ entry.regs u.link) → is_taken u entry now w l x ≡ b → (if b then aim_of l x else next) ≡ Outward →
    next_address l ≡ entry.regs u.link
by_choice u entry now w l x next true h k t e = taken_out u entry now w l x h t e
by_choice u entry now w l x next false h k t e = k e

by_link : (u : UnrolledProgram) (entry now : State) (w : Bool) (l : Leaving) (xs : List PointExit) → ((x : PointExit) → Contains xs x → IsByLink x) →
    first_aim u entry now w l xs ≡ Outward → next_address l ≡ entry.regs u.link
by_link u entry now w l [] h e = cc
by_link u entry now w l (x ∷ xs) h e =
    by_choice u entry now w l x (first_aim u entry now w l xs) (is_taken u entry now w l x) (h x (0, omega arith, refl))
    (by_link u entry now w l xs (λ y c. h y (contains_later x y xs c))) refl e

-- ---- the ensured lines

no_line_by : (b all : Bool) (found : Option ℕ) (n : ℕ) → (b && all) ≡ true → (all ≡ true → found ≡ None) → (if b then found else Some n) ≡ None
no_line_by true all found n h k = k h
no_line_by false all found n h k = cc

none_false : (e : Endian) (lines : List NoteLine) (s t : State) → all_hold e (map (λ l. l.says) lines) s t ≡ true → false_line e lines s t ≡ None
none_false e [] s t h = refl
none_false e (l ∷ lines) s t h = no_line_by (is_true (value e l.says s t)) _ _ l.line h (none_false e lines s t)

all_lines_by : (b all : Bool) (found : Option ℕ) (n : ℕ) → (if b then found else Some n) ≡ None → (found ≡ None → all ≡ true) → (b && all) ≡ true
all_lines_by true all found n h k = k h
all_lines_by false all found n h k = cc

all_true_by : (e : Endian) (lines : List NoteLine) (s t : State) → false_line e lines s t ≡ None → all_hold e (map (λ l. l.says) lines) s t ≡ true
all_true_by e [] s t h = refl
all_true_by e (l ∷ lines) s t h = all_lines_by (is_true (value e l.says s t)) _ (false_line e lines s t) l.line h (all_true_by e lines s t)

-- ---- what is held before the last place is what is held in the end

-- the walk is at an event, or elsewhere but at a place
abbrev IsFailed : Walk → Type 0
IsFailed (WalkFails e) = Unit {0}
IsFailed w = ⊥

chosen_fails : (u : UnrolledProgram) (entry next : State) (b : Bool) (x y : Aim) → IsFailed (walk_to u entry next x) → IsFailed (walk_to u entry next y) →
    IsFailed (walk_to u entry next (if b then x else y))
chosen_fails u entry next true x y p q = p
chosen_fails u entry next false x y p q = q

exit_fails : (u : UnrolledProgram) (entry now next : State) (w : Bool) (l : Leaving) → IsFailed (walk_to u entry next (first_aim u entry now w l exit_place.exits))
exit_fails u entry now next w l =
    chosen_fails u entry next (is_taken u entry now w l Raising) _ _ tt
    (chosen_fails u entry next w _ _ tt (chosen_fails u entry next (is_taken u entry now w l Unaligned) _ _ tt tt))

if_same : (b : Bool) (c : Carried) → carried_if b c c ≡ c
if_same true c = refl
if_same false c = refl

met_after : (w : Walk) (h : Held) (i : ℕ) → IsFailed w → (held_if (h.met i) (hand w h) h).met i ≡ h.met i
met_after (WalkFails e) h i f = choose (h.met i) where
  choose : (b : Bool) → (if b then h.met i else h.met i) ≡ h.met i
  choose true = refl
  choose false = refl
met_after (WalkIsAt j c) h i f = absurd f
met_after WalkExits h i f = absurd f
met_after WalkTurns h i f = absurd f

carried_after : (w : Walk) (h : Held) (i : ℕ) → IsFailed w → (held_if (h.met i) (hand w h) h).carried i ≡ h.carried i
carried_after (WalkFails e) h i f = if_same (h.met i) (h.carried i)
carried_after (WalkIsAt j c) h i f = absurd f
carried_after WalkExits h i f = absurd f
carried_after WalkTurns h i f = absurd f

pub places : (u : UnrolledProgram) → length (with_exit_place u).points ≡ length u.points + 1
places u =
    length_push (map (point_aimed (length u.points)) u.points) exit_place ∙ ap (λ (k : ℕ). k + 1) (length-map u.points (point_aimed (length u.points)))

pub last_is : (u : UnrolledProgram) → last_of (with_exit_place u) ≡ length u.points
last_is u = let e = places u in omega arith

module _ (u : UnrolledProgram) (r : Reading) where
  abbrev n : ℕ
  n = length u.points

  abbrev w : UnrolledProgram
  w = with_exit_place u

  at_last : point_at w n ≡ exit_place
  at_last = get_or_push (map (point_aimed n) u.points) exit_place no_point n (length-map u.points (point_aimed n))

  -- the walk does not go on from the last place
  last_fails : (c : Carried) → IsFailed (walk_on w r (WalkIsAt n c))
  last_fails c =
      let next = state_at (carried_on (leaving (point_at w n) (r.choice (point_at w n).point) c) c) (next_address (leaving (point_at w n) (r.choice (point_at w n).point) c)) in
      subst (λ (q : UnrolledPoint). IsFailed (walk_to w r.state next (first_aim w r.state (state_at c (point_at w n).point.at)
      (list_any (is_in w.kept) (stored_at (point_at w n) (r.choice (point_at w n).point) c)) (leaving (point_at w n) (r.choice (point_at w n).point) c) q.exits)))
      (sym at_last) (exit_fails w r.state (state_at c (point_at w n).point.at) next (list_any (is_in w.kept) (stored_at (point_at w n) (r.choice (point_at w n).point) c))
      (leaving (point_at w n) (r.choice (point_at w n).point) c))

  swept_is : swept w r ≡ held w r (suc n)
  swept_is = ap (held w r) (places u ∙ (let e : n + 1 ≡ suc n = omega arith in e))

  abbrev before : Held
  before = held w r n

  met_same : (swept w r).met n ≡ before.met n
  unfolding held
  met_same = ap (λ (h : Held). h.met n) swept_is ∙ met_after (walk_on w r (WalkIsAt n (before.carried n))) before n (last_fails (before.carried n))

  carried_same : (swept w r).carried n ≡ before.carried n
  unfolding held
  carried_same = ap (λ (h : Held). h.carried n) swept_is ∙ carried_after (walk_on w r (WalkIsAt n (before.carried n))) before n (last_fails (before.carried n))

  module _ (some : 0 < length u.points) (later : ExitsLeadLater u) (links : LeavesByLink u) (form_some : 0 < length w.points) (form_later : ExitsLeadLater w)
      (inside : (k i : ℕ) (c : Carried) → walk u r k ≡ WalkIsAt i c → i < n) where
    -- where a walk comes out
    out_at : (out : Carried) (pc : ℕ) → WalkComesOut u r out pc → pc ≡ r.state.regs u.link
    out_at out pc o =
        o.pc_is ∙ by_link u r.state _ _ o.leaving_is (point_at u o.place).exits
        (λ x c. links o.place x (inside o.points o.place o.carried o.is_at) c) o.aim

    comes_met : (out : Carried) (pc : ℕ) → WalkComesOut u r out pc → (before.met n ≡ true) × (before.carried n ≡ out)
    comes_met out pc o =
        let at = (exit_is_place u some later r out).0 (pc, o) in
        let k = ((sweep_is_walk w form_some form_later r).2 at.0 n out).0 at.1 in
        (sym met_same ∙ k.1, sym carried_same ∙ k.2)

    met_comes : before.met n ≡ true → (pc : ℕ) × WalkComesOut u r (before.carried n) pc
    met_comes m =
        (exit_is_place u some later r (before.carried n)).1 (
          met_below (swept w r) n,
          ((sweep_is_walk w form_some form_later r).2 (met_below (swept w r) n) n (before.carried n)).1
              ((let e = places u in omega arith), met_same ∙ m, carried_same, refl),
        )

    -- ---- whether it leaves

    abbrev Leaves : Type 0
    Leaves = (out : Carried) × (pc : ℕ) × WalkLeaves u r out pc

    abbrev ends : ℕ → Bool
    ends i = (held w r i).met i && all_hold u.endian (ensured_lines u) (state_at ((held w r i).carried i) (r.state.regs u.link)) r.state

    leaves_by : ends n ≡ true → Leaves
    leaves_by h =
        let both = both_true _ _ h in
        let came = met_comes both.0 in
        let at = out_at (before.carried n) came.0 came.1 in (
          before.carried n,
          came.0,
          record {
            comes_out = came.1;
            ensured = ap (λ (p : ℕ). false_line u.endian u.ensures (state_at (before.carried n) p) r.state) at ∙ none_false u.endian u.ensures _ r.state both.1;
          },
        )

    by_leaving : (out : Carried) (pc : ℕ) → WalkLeaves u r out pc →
        (ends n ≡ true) × (state_at (before.carried n) (r.state.regs u.link) ≡ state_at out pc)
    by_leaving out pc l =
        let came = comes_met out pc l.comes_out in
        let at = out_at out pc l.comes_out in
        let same : state_at (before.carried n) (r.state.regs u.link) ≡ state_at out pc = (λ k. state_at (came.1 k) (sym at k)) in (
          true_both _ _ came.0
              (ap (λ (s : State). all_hold u.endian (ensured_lines u) s r.state) same ∙ all_true_by u.endian u.ensures (state_at out pc) r.state l.ensured),
          same,
        )

    pub leaves_last_by : leaves_last w r ≡ true → Leaves
    leaves_last_by h = leaves_by (subst (λ (i : ℕ). ends i ≡ true) (last_is u) h)

    pub by_leaves_last : (out : Carried) (pc : ℕ) → WalkLeaves u r out pc → (leaves_last w r ≡ true) × (last_state w r ≡ state_at out pc)
    by_leaves_last out pc l =
        let k = by_leaving out pc l in (
          subst (λ (i : ℕ). ends i ≡ true) (sym (last_is u)) k.0,
          ap (λ (i : ℕ). state_at ((held w r i).carried i) (r.state.regs u.link)) (last_is u) ∙ k.1,
        )
