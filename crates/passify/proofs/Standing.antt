-- What stands at a place.
use Rattle.std.proofs.Common.{◌≡◌, ℕ, zero, suc, ◌+◌, ◌-◌, ◌<◌, ◌≤◌, Bool, true, false, List, [], ◌∷◌, Option, Some, None, ◌++◌, length, map, drop, take, get_or, refl, ap, sym, ◌∙◌, subst, arith, nat_eq, nat_lt, Contains}
use Rattle.std.proofs.Math.Path.{fun_ext}
use Rattle.std.specs.Prelude.{slice_index, slice_index_or, slice_range, sum_by}
use Rattle.std.specs.List.{list_any}
use Rattle.std.specs.Global.{Vec}
use Rattle.std.proofs.lemmas.List.{get_or-map, get_or-take, get_or-drop, length-take, length-drop, length-map}
use Rattle.std.proofs.lemmas.List.Elements.{Contains-get_or, Contains-append_left, Contains-append_right}
use Rattle.word_spec.specs.Words.{bit}
use Rattle.bilv_spec.specs.Notes as notes
use Rattle.bilv_spec.specs.Notes.{Expr, NoteLine, Number}
use Rattle.machine_spec.specs.Bil as bil
use Rattle.machine_spec.specs.Bil.{BilVariable, Statements}
use Rattle.machine_spec.specs.BilCounts.{list_names_only}
use Rattle.word_spec.specs.RowFiles.{from_to}
use Rattle.bil_ast.specs.declared.statements.Stmt.{Stmt}
use Rattle.bil_terms.specs.Left.{CanBeLed}
use Rattle.term_spec.specs.Terms.{TermReading, InRange, TermNode, HasWidth, term_word}
use Rattle.walk_spec.specs.Unrolled.{UnrolledProgram, point_at, is_register_of}
use Rattle.walk_spec.specs.Unrolled as walk
use Rattle.walk_spec.specs.Unrolling.{IsReadable, is_variable_of}
use Rattle.frame_spec.specs.FrameWalk as frames
use Rattle.frame_spec.specs.FrameWalk.{Check, UnrolledProgram as FrameProgram, UnrolledPoint, PointExit, FalseCheck, FalseNeed, NotGiven, Raising, WritingKept, Unaligned, Executes, LeadsLater}
use Rattle.frame_spec.specs.Frames.{Contract}
use Rattle.frame_spec.specs.FrameUnrolling.{outside_exit, own_of, IsRunnable, CanBeTerms, is_variable_of as frame_is_variable}
use Rattle.frame_laws.specs.FramePrices.{exit_lines, goes_out, line_of}
use Rattle.frame_terms.specs.PassiveFrames.{CanRead, CanReadLines, CanReadOwn, IsWalkable, inputs_of}
use Rattle.start_value.specs.declared.layout.Layout.{Layout}
use Rattle.start_value.specs.declared.layout.Layout.TheVariants as layouts
use Rattle.start_value.specs.Starts.{layout_of}
use Rattle.notes_value.specs.NoteViews.{notes_of}
use Rattle.question_form.specs.declared.unrolled.Aim.{Aim}
use Rattle.question_form.specs.declared.unrolled.Aim.TheVariants.{OnTo, IntoHead, Outward, OverLast}
use Rattle.question_form.specs.declared.unrolled.Code.{Code}
use Rattle.question_form.specs.declared.unrolled.Deed.{Deed}
use Rattle.question_form.specs.declared.unrolled.Deed.TheVariants as deeds
use Rattle.question_form.specs.declared.unrolled.Deed.TheVariants.{Row, Arrival}
use Rattle.question_form.specs.declared.unrolled.Edge.{Edge}
use Rattle.question_form.specs.declared.unrolled.Point.{Point}
use Rattle.question_form.specs.declared.unrolled.Unrolled.{Unrolled}
use Rattle.question_form.specs.Views.{edges_from, no_code, point_of, points_of, unrolled_of}
use Rattle.question_form.specs.FrameViews.{exits_of, edge_of as frame_edge_of, own_contract, point_of as frame_point_of, points_of as frame_points_of, row_exits as frame_row_exits, stepped_at, frame_unrolled_of}
use Rattle.question_form.specs.Forms.{AreBounds, AreRootsFormed, IsFormed}
use Rattle.term_names.specs.declared.names.Names.{Names}
use Rattle.term_names.specs.Views.{AreFor, form_of, names_of}
use Rattle.term_names.specs.Chosen.{HaveSameForm}
use Rattle.note_terms.proofs.Valued.{form_same, in_range, range_at, range_length}
use Rattle.passify.specs.declared.sweep.Sweep.{Sweep}
use Rattle.passify.specs.Sweeps.{AreWell}
use Rattle.passify.specs.Situations.{no_line}
use Rattle.passify.specs.Edges.{AreLater, AreRead, CanGo, IsLater, IsPlaceOf, lines_out, lines_to}
use Rattle.passify.specs.Handled.{IsSweepOf}
use Rattle.passify.specs.Rows.{no_point, own_point, own_code, own_checks, own_edges, own_index, own_lines, framed, index_for, placed}
use Rattle.passify.proofs.Counted.{own_exits}
use Rattle.passify.proofs.Pushed.{other_default}

abbrev no_check : Check
no_check = record { line = 0; invariant = false; says = Number 0 }

pub points_length : (u : Unrolled) (ps : List Point) → length (points_of u ps) ≡ length ps
points_length u [] = refl
points_length u (q ∷ ps) = ap suc (points_length u ps)

looked_up : (u : Unrolled) (ps : List Point) (i : ℕ) (d : Point) → i < length ps →
    get_or (points_of u ps) i walk.no_point ≡ point_of u (get_or ps i d) (drop (suc i) ps)
looked_up u [] i d h = absurd (omega arith)
looked_up u (x ∷ ps) zero d h = refl
looked_up u (x ∷ ps) (suc i) d h = looked_up u ps i d (omega arith)

-- the point at a place
pub placed_is : (u : Unrolled) (i : ℕ) → i < length u.points.items → point_at (unrolled_of u) i ≡ placed u i
placed_is u i h = looked_up u u.points.items i no_point h ∙ ap
    (λ (z : ℕ). point_of u (own_point u i) (drop z u.points.items)) (let e : suc i ≡ i + 1 = omega arith in e)

-- an expression is read by registers and flags alone
reads_by : (u v : UnrolledProgram) (e : Expr) → u.registers ≡ v.registers → u.flags ≡ v.flags → IsReadable u e → IsReadable v e
reads_by u v (notes.Number n) p q h = h
reads_by u v (notes.Register r) p q h = subst (λ (l : List ℕ). list_any (nat_eq r) l ≡ true) p h
reads_by u v (notes.Flag f) p q h = subst (λ (n : ℕ). nat_lt f n ≡ true) q h
reads_by u v notes.Pc p q h = tt
reads_by u v notes.Bound p q h = tt
reads_by u v (notes.Memory n a) p q h = (h.0, h.1, reads_by u v a p q h.2)
reads_by u v (notes.Old a) p q h = reads_by u v a p q h
reads_by u v (notes.Not a) p q h = reads_by u v a p q h
reads_by u v (notes.Binary o a b) p q h = (reads_by u v a p q h.0, reads_by u v b p q h.1)

-- so is a variable
variable_by : (u v : UnrolledProgram) → u.registers ≡ v.registers → u.flags ≡ v.flags → (x : BilVariable) → is_variable_of u x ≡ is_variable_of v x
variable_by u v p q (bil.Register b r) = ap (λ (l : List ℕ). list_any (nat_eq r) l) p
variable_by u v p q (bil.Flag f) = ap (λ (n : ℕ). nat_lt f n) q
variable_by u v p q bil.Mem = refl
variable_by u v p q (bil.Local x n) = refl

module _ (u : UnrolledProgram) (a b : Names) (f : AreFor u a) (h : HaveSameForm a b) where
  pub registers_for : u.registers ≡ (form_of b).registers
  registers_for = f.registers ∙ ap (λ (v : UnrolledProgram). v.registers) (form_same a b h)

  pub flags_for : u.flags ≡ (form_of b).flags
  flags_for = f.flags ∙ ap (λ (v : UnrolledProgram). v.flags) (form_same a b h)

  pub reads_for : (e : Expr) → IsReadable u e → IsReadable (form_of b) e
  reads_for e r = reads_by u (form_of b) e registers_for flags_for r

-- so is a variable of a list
frame_variable : (u : FrameProgram) (x : BilVariable) → frame_is_variable u x ≡ is_variable_of (inputs_of u) x
frame_variable u (bil.Register b r) = refl
frame_variable u (bil.Flag f) = refl
frame_variable u bil.Mem = refl
frame_variable u (bil.Local x n) = refl

-- a list of a point can be made terms of
pub led_for : (u : FrameProgram) (a b : Names) → AreFor (inputs_of u) a → HaveSameForm a b → (p : UnrolledPoint) (list : Statements) → p.does ≡ Executes list →
    CanBeTerms u p p.does → CanBeLed (form_of b) list
led_for u a b f h p list e t =
    let r : IsRunnable u p list = subst (λ (x : frames.Action). CanBeTerms u p x) e t in
    record {
      typed = r.typed;
      no_loop = r.no_loop;
      no_special = r.no_special;
      nests = r.nests;
      picks = r.picks;
      steady = r.steady;
      names = subst (λ (g : BilVariable → Bool). list_names_only list g ≡ true)
          (fun_ext (λ x. frame_variable u x ∙ variable_by (inputs_of u) (form_of b) (registers_for (inputs_of u) a b f h) (flags_for (inputs_of u) a b f h) x))
          r.names;
    }

leads_place : (f : FrameProgram) (u : Unrolled) (i n : ℕ) (falls jumps : Bool) (t : Option ℕ) (a : Aim) → length f.points ≡ n →
    LeadsLater f i (frame_edge_of u (record { falls = falls; jumps = jumps; to = t; aim = a })) → IsPlaceOf n a
leads_place f u i n falls jumps t (OnTo k) e h = subst (λ (m : ℕ). k < m) e h.1
leads_place f u i n falls jumps t Outward e h = tt
leads_place f u i n falls jumps t (IntoHead at asserts) e h = tt
leads_place f u i n falls jumps t OverLast e h = tt

leads_later : (f : FrameProgram) (u : Unrolled) (i : ℕ) (falls jumps : Bool) (t : Option ℕ) (a : Aim) →
    LeadsLater f i (frame_edge_of u (record { falls = falls; jumps = jumps; to = t; aim = a })) → IsLater (suc i) a
leads_later f u i falls jumps t (OnTo k) h = let l : i < k = h.0 in omega (arith, l)
leads_later f u i falls jumps t Outward h = tt
leads_later f u i falls jumps t (IntoHead at asserts) h = tt
leads_later f u i falls jumps t OverLast h = tt

later_by : (f : FrameProgram) (u : Unrolled) (i : ℕ) (es : List Edge) → ((x : PointExit) → Contains (map (frame_edge_of u) es) x → LeadsLater f i x) →
    AreLater (suc i) es
later_by f u i [] h = tt
later_by f u i (e ∷ es) h = (
  leads_later f u i e.falls e.jumps e.to e.aim (h (frame_edge_of u e) (0, omega arith, refl)),
  later_by f u i es (λ x c. h x (suc c.0, (let l = c.1 in omega (arith, l)), c.2)),
)

range_within : {X : Type 0} → (xs : List X) (a b i : ℕ) → b ≤ length xs → i < length (slice_range xs a b) → a + i < b
range_within xs a b i l h = let t = length-take (b - a) (drop a xs) in let d = length-drop a xs in omega (arith, t, d, h)

range_element : {X : Type 0} → (xs : List X) (a b i : ℕ) (d : X) → a + i < b → get_or (slice_range xs a b) i d ≡ get_or xs (a + i) d
range_element xs a b i d h = get_or-take (b - a) (drop a xs) i d (omega arith) ∙ get_or-drop a xs i d

-- the assert lines of some entries of the lines by address
pub places_in : (u : Unrolled) → IsFormed u → (bounds : ℕ × ℕ) → AreBounds u bounds → (j : ℕ) → j < length (slice_range u.asserts.items bounds.0 bounds.1) →
    (slice_index_or (slice_range u.asserts.items bounds.0 bounds.1) j (0, 0)).1 < length u.notes.now.asserts.items
places_in u formed (a, b) h j l =
    let up = range_within u.asserts.items a b j h.1 l in
    subst (λ (x : ℕ × ℕ). x.1 < length u.notes.now.asserts.items) (sym (range_element u.asserts.items a b j (0, 0) up))
    (formed.lines (a + j) (0, 0) (let e = h.1 in omega (arith, up, e)))

pub framed_length : (u : Unrolled) (ps : List Point) → length (frame_points_of u ps) ≡ length ps
framed_length u [] = refl
framed_length u (q ∷ ps) = ap suc (framed_length u ps)

framed_up : (u : Unrolled) (ps : List Point) (i : ℕ) (d : Point) → i < length ps →
    get_or (frame_points_of u ps) i frames.no_point ≡ frame_point_of u (get_or ps i d) (drop (suc i) ps)
framed_up u [] i d h = absurd (omega arith)
framed_up u (x ∷ ps) zero d h = refl
framed_up u (x ∷ ps) (suc i) d h = framed_up u ps i d (omega arith)

-- the point at a place of the frame
pub framed_is : (u : Unrolled) (i : ℕ) → i < length u.points.items → frames.point_at (frame_unrolled_of u) i ≡ framed u i
framed_is u i h = framed_up u u.points.items i no_point h ∙ ap
    (λ (z : ℕ). frame_point_of u (own_point u i) (drop z u.points.items)) (let e : suc i ≡ i + 1 = omega arith in e)

-- an element of a part of a list is one of the list
range_contains : {X : Type 0} → (xs : List X) (a b : ℕ) (x : X) → Contains (slice_range xs a b) x → Contains xs x
range_contains xs a b x h = drop_contains a xs x (take_contains (b - a) (drop a xs) x h)
  where
    take_contains : {X : Type 0} → (n : ℕ) (xs : List X) (x : X) → Contains (take n xs) x → Contains xs x
    take_contains zero xs x (i, l, e) = absurd (omega (arith, l))
    take_contains (suc n) [] x (i, l, e) = absurd (omega (arith, l))
    take_contains (suc n) (y ∷ xs) x (zero, l, e) = (zero, omega arith, e)
    take_contains (suc n) (y ∷ xs) x (suc i, l, e) = let t = take_contains n xs x (i, omega (arith, l), e) in (suc t.0, omega (arith, t.1), t.2)

    drop_contains : {X : Type 0} → (n : ℕ) (xs : List X) (x : X) → Contains (drop n xs) x → Contains xs x
    drop_contains zero xs x h = h
    drop_contains (suc n) [] x h = h
    drop_contains (suc n) (y ∷ xs) x h = let t = drop_contains n xs x h in (suc t.0, omega (arith, t.1), t.2)

-- a line of the frame is read by the terms of a state
pub reads_of : (u : Unrolled) (s : Sweep) (n : Names) (e : Expr) → IsSweepOf u s → HaveSameForm s.entry n → CanRead (frame_unrolled_of u) e →
    IsReadable (form_of n) e
reads_of u s n e k h r = reads_for (inputs_of (frame_unrolled_of u)) s.entry n k.form h e r

nothing_read : (n : Names) → AreRead n []
nothing_read n e (m, l, at) = absurd (omega (arith, l))

-- what is read of lines is read of what they say
pub says_read : (u : Unrolled) (s : Sweep) (n : Names) (lines : List NoteLine) → IsSweepOf u s → HaveSameForm s.entry n →
    CanReadLines (frame_unrolled_of u) lines →
    AreRead n (map (λ l. l.says) lines)
says_read u s n lines k h r e (i, l, at) =
    let there : i < length lines = (let m = length-map lines (λ (z : NoteLine). z.says) in omega (arith, m, l)) in
    let line = slice_index_or lines i no_line in
    let same : line.says ≡ e = sym (get_or-map (λ (z : NoteLine). z.says) lines i no_line e there) ∙ at in
    subst (λ (z : Expr). IsReadable (form_of n) z) same (reads_of u s n line.says k h (r line (Contains-get_or lines i no_line there)))

-- the lines of the exit
pub out_lines : (u : Unrolled) (o : Option Contract) → own_contract u ≡ o → lines_out u ≡ exit_lines (record (frame_unrolled_of u) { own = own_of o })
out_lines u o e = ap (λ (q : Option Contract). exit_lines (record (frame_unrolled_of u) { own = own_of q })) e

pub out_read : (u : Unrolled) (s : Sweep) (n : Names) → IsSweepOf u s → HaveSameForm s.entry n → IsWalkable (frame_unrolled_of u) → (o : Option Contract) →
    own_contract u ≡ o → AreRead n (lines_out u)
out_read u s n k h walkable None e =
    subst (λ (l : List Expr). AreRead n l) (sym (out_lines u None e)) (says_read u s n (notes_of u.notes.now).ensures k h walkable.ensures)
out_read u s n k h walkable (Some x) e =
    subst (λ (l : List Expr). AreRead n l) (sym (out_lines u (Some x) e))
    (says_read u s n x.gives k h (subst (λ (q : Option Contract). CanReadOwn (frame_unrolled_of u) (own_of q)) e walkable.own).0)

-- behind one exit more
behind : (x y : PointExit) (xs : List PointExit) → Contains xs x → Contains (y ∷ xs) x
behind x y xs (i, l, e) = (suc i, omega (arith, l), e)

few_by : (a b n m : ℕ) → a ≡ n → b ≡ m → n + m ≤ 32 → a + b ≤ 32
few_by a b n m p q l = omega (arith, p, q, l)

-- the numbers of registers and flags are in their sets
layout_first : (f : Layout) → (layout_of f).first + length (layout_of f).registers ≤ 32
layout_first (layouts.Rv32 c) =
    few_by (layout_of (layouts.Rv32 c)).first (length (layout_of (layouts.Rv32 c)).registers) 1 31 refl refl (omega arith)
layout_first (layouts.Arm big profile) =
    few_by (layout_of (layouts.Arm big profile)).first (length (layout_of (layouts.Arm big profile)).registers) 0 15 refl refl (omega arith)

head_of : (a b n m : ℕ) → from_to a (suc n) ≡ from_to b m → a ≡ b
head_of a b n zero e = absurd (cc)
head_of a b n (suc m) e = cc

pub sets_for : (u : Unrolled) (s : Sweep) (n : Names) → IsWalkable (frame_unrolled_of u) → IsSweepOf u s → HaveSameForm s.entry n →
    (n.first + length n.registers.items ≤ 32) × (length n.flags.items ≤ 4)
sets_for u s n walkable k h =
    let form = layout_of u.form in
    let count = length form.registers in
    let e : length (from_to form.first count) ≡ length (from_to s.entry.first (length s.entry.registers.items)) = ap (λ (l : List ℕ). length l) k.form.registers in
    let a = range_length form.first count in
    let b = range_length s.entry.first (length s.entry.registers.items) in
    let enough : 15 ≤ length (from_to form.first count) = walkable.sized.enough in
    let first : form.first ≡ s.entry.first = first_by count k.form.registers (omega (arith, a, enough)) in
    let l = layout_first u.form in
    let f = walkable.sized.flags in
    (omega (arith, l, e, a, b, first, h.first, h.registers), omega (arith, f, k.form.flags, h.flags))
  where
    first_by : (c : ℕ) → from_to (layout_of u.form).first c ≡ from_to s.entry.first (length s.entry.registers.items) → 1 ≤ c → (layout_of u.form).first ≡ s.entry.first
    first_by zero e l = absurd (omega (arith, l))
    first_by (suc c) e l = head_of (layout_of u.form).first s.entry.first c (length s.entry.registers.items) e

module _ (u : Unrolled) (i : ℕ) (walkable : IsWalkable (frame_unrolled_of u)) (formed : IsFormed u) (within : i < length u.points.items) where
  pub there : i < length (frame_unrolled_of u).points
  there = let e = framed_length u u.points.items in omega (arith, e, within)

  pub code_within : (own_point u i).code < length u.codes.items
  code_within = formed.codes i no_point within

  exits_later : (x : PointExit) → Contains (framed u i).exits x → LeadsLater (frame_unrolled_of u) i x
  exits_later x c = walkable.rooted.later i x there (subst (λ (q : UnrolledPoint). Contains q.exits x) (sym (framed_is u i within)) c)

  pub point_terms : CanBeTerms (frame_unrolled_of u) (framed u i) (framed u i).does
  point_terms = subst (λ (q : UnrolledPoint). CanBeTerms (frame_unrolled_of u) q q.does) (framed_is u i within) (walkable.terms i there)

  pub one_out : sum_by (λ x. bit (goes_out x)) (framed u i).exits ≤ 1
  one_out = subst (λ (q : UnrolledPoint). sum_by (λ x. bit (goes_out x)) q.exits ≤ 1) (framed_is u i within) (walkable.one_out i there)

  pub code_bounds : AreBounds u (own_code u i).asserts
  code_bounds = formed.asserts (own_point u i).code no_code code_within

  abbrev by_address : List (ℕ × ℕ)
  by_address = slice_range u.asserts.items (own_code u i).asserts.0 (own_code u i).asserts.1

  places_for : (d : Deed) (j : ℕ) → j < length (index_for d by_address) → (slice_index_or (index_for d by_address) j (0, 0)).1 < length u.notes.now.asserts.items
  places_for Row j l = places_in u formed (own_code u i).asserts code_bounds j l
  places_for Arrival j l = places_in u formed (own_code u i).asserts code_bounds j l
  places_for (deeds.Contract n) j l = absurd (omega (arith, l))

  pub places_asserted : (j : ℕ) → j < length (own_index u i) → (slice_index_or (own_index u i) j (0, 0)).1 < length u.notes.now.asserts.items
  places_asserted = places_for (own_point u i).deed

  -- the line of an exit is read
  pub exit_read : (s : Sweep) (n : Names) → IsSweepOf u s → HaveSameForm s.entry n → (x : PointExit) → Contains (framed u i).exits x → AreRead n (line_of x)
  exit_read s n k h x c e m =
      reads_of u s n e k h (walkable.exits i x there (subst (λ (q : UnrolledPoint). Contains q.exits x) (sym (framed_is u i within)) c) e m)

  pub asserts_read : (s : Sweep) (n : Names) → IsSweepOf u s → HaveSameForm s.entry n → AreRead n (own_lines u i)
  asserts_read s n k h e (j, l, at) =
      let checks = own_checks u i in
      let there : j < length checks = (let m = length-map checks (λ (c : Check). c.says) in omega (arith, m, l)) in
      let c = slice_index_or checks j no_check in
      let same : c.says ≡ e = sym (get_or-map (λ (z : Check). z.says) checks j no_check e there) ∙ at in
      let exit = FalseCheck c in
      let among : Contains (map FalseCheck checks) exit = (
        j,
        (let m = length-map checks FalseCheck in omega (arith, m, there)),
        get_or-map FalseCheck checks j no_check exit there,
      ) in
      subst (λ (z : Expr). IsReadable (form_of n) z) same
      (exit_read s n k h exit (subst (λ (xs : List PointExit). Contains xs exit) (sym (own_exits u i))
      (Contains-append_left (map FalseCheck checks) (exits_of u (own_point u i).deed (own_code u i) (own_edges u i)) exit among)) c.says
      (0, omega arith, refl))

  -- an exit behind those of the assert lines
  pub behind_among : (x : PointExit) → Contains (exits_of u (own_point u i).deed (own_code u i) (own_edges u i)) x → Contains (framed u i).exits x
  behind_among x c = subst (λ (xs : List PointExit). Contains xs x) (sym (own_exits u i))
      (Contains-append_right (map FalseCheck (own_checks u i)) (exits_of u (own_point u i).deed (own_code u i) (own_edges u i)) x c)

  pub row_edges : (own_point u i).deed ≡ Row → (list : Vec Stmt) → (own_code u i).list ≡ Some list → (x : PointExit) →
      Contains (map (frame_edge_of u) (own_edges u i)) x → Contains (exits_of u (own_point u i).deed (own_code u i) (own_edges u i)) x
  row_edges row list code x c =
      let E = map (frame_edge_of u) (own_edges u i) in
      let M = outside_exit (own_contract u) ++ Unaligned ∷ E in
      subst (λ (d : Deed). Contains (exits_of u d (own_code u i) (own_edges u i)) x) (sym row)
      (subst (λ (o : Option (Vec Stmt)). Contains (frame_row_exits u (own_code u i).fetchable o (own_edges u i)) x) (sym code)
      (behind x Raising (WritingKept ∷ M) (behind x WritingKept M
      (Contains-append_right (outside_exit (own_contract u)) (Unaligned ∷ E) x (behind x Unaligned E c)))))

  pub contract_edges : (n : ℕ) → (own_point u i).deed ≡ deeds.Contract n → (x : PointExit) →
      Contains (map (frame_edge_of u) (own_edges u i)) x → Contains (exits_of u (own_point u i).deed (own_code u i) (own_edges u i)) x
  contract_edges n is x c =
      let E = map (frame_edge_of u) (own_edges u i) in
      let M = outside_exit (own_contract u) ++ NotGiven ∷ E in
      subst (λ (d : Deed). Contains (exits_of u d (own_code u i) (own_edges u i)) x) (sym is)
      (Contains-append_right (map (λ l. FalseNeed l.line l.says) (stepped_at u n).needs) (WritingKept ∷ M) x
      (behind x WritingKept M (Contains-append_right (outside_exit (own_contract u)) (NotGiven ∷ E) x (behind x NotGiven E c))))

  module _ (edge : (x : PointExit) → Contains (map (frame_edge_of u) (own_edges u i)) x →
      Contains (exits_of u (own_point u i).deed (own_code u i) (own_edges u i)) x) where
    -- an edge is an exit
    edge_among : (x : PointExit) → Contains (map (frame_edge_of u) (own_edges u i)) x → Contains (framed u i).exits x
    edge_among x c = behind_among x (edge x c)

    pub edges_later : AreLater (suc i) (own_edges u i)
    edges_later = later_by (frame_unrolled_of u) u i (own_edges u i) (λ x c. exits_later x (edge_among x c))

    lines_read : (s : Sweep) (n : Names) → IsSweepOf u s → HaveSameForm s.entry n → (falls jumps : Bool) (to : Option ℕ) (a : Aim) →
        Contains (framed u i).exits (frame_edge_of u (record { falls = falls; jumps = jumps; to = to; aim = a })) → AreRead n (lines_to u a)
    lines_read s n k h falls jumps to (OnTo j) c = nothing_read n
    lines_read s n k h falls jumps to Outward c = out_read u s n k h walkable (own_contract u) refl
    lines_read s n k h falls jumps to (IntoHead at asserts) c =
        exit_read s n k h (frame_edge_of u (record { falls = falls; jumps = jumps; to = to; aim = IntoHead at asserts })) c
    lines_read s n k h falls jumps to OverLast c = nothing_read n

    -- the walk can be handed on by each edge of a row
    pub edges_go : (s : Sweep) (n : Names) → AreRootsFormed u → IsSweepOf u s → HaveSameForm s.entry n → (e : Edge) → Contains (own_edges u i) e →
        CanGo u (length s.met.items) n e.aim
    edges_go s n roots k h e c =
        let exit = frame_edge_of u e in
        let among : Contains (framed u i).exits exit = edge_among exit (map_contains (own_edges u i) e c) in
        record {
          place = leads_place (frame_unrolled_of u) u i (length s.met.items) e.falls e.jumps e.to e.aim (framed_length u u.points.items ∙ sym k.places)
              (exits_later exit among);
          formed = roots.edges e (range_contains u.edges.items (own_point u i).edges (edges_from u (drop (i + 1) u.points.items)) e c);
          reads = lines_read s n k h e.falls e.jumps e.to e.aim among;
        }
      where
        map_contains : (es : List Edge) (e : Edge) → Contains es e → Contains (map (frame_edge_of u) es) (frame_edge_of u e)
        map_contains es e (j, l, at) = (
          j,
          (let m = length-map es (frame_edge_of u) in omega (arith, m, l)),
          get_or-map (frame_edge_of u) es j e (frame_edge_of u e) l ∙ ap (frame_edge_of u) at,
        )

-- the link register is one of the names
pub link_for : (u : Unrolled) (s : Sweep) → IsWalkable (frame_unrolled_of u) → IsSweepOf u s → is_register_of (form_of s.entry) u.link ≡ true
link_for u s walkable k = subst (λ (l : List ℕ). list_any (nat_eq u.link) l ≡ true) k.form.registers walkable.link

module _ (nodes : List TermNode) (s : Sweep) (w : AreWell nodes s) (link : ℕ) (h : is_register_of (form_of s.entry) link ≡ true) where
  link_place : link - s.entry.first < length (form_of s.entry).registers
  link_place =
      let r = in_range link s.entry.first (length s.entry.registers.items) h in
      let e = range_length s.entry.first (length s.entry.registers.items) in
      omega (arith, r.0, r.1, e)

  pub link_width : HasWidth nodes 32 (slice_index (names_of s.entry).registers (link - s.entry.first))
  link_width = w.entry.words (link - s.entry.first) link_place

  pub link_word : (x : TermReading) → InRange x → term_word x nodes (slice_index (names_of s.entry).registers (link - s.entry.first)) ≡ x.regs 0 link
  link_word x r =
      let l = in_range link s.entry.first (length s.entry.registers.items) h in
      let at : slice_index (from_to s.entry.first (length s.entry.registers.items)) (link - s.entry.first) ≡ link =
      range_at s.entry.first (length s.entry.registers.items) (link - s.entry.first) (omega (arith, l.0, l.1)) ∙ omega (arith, l.0) in
      (w.denotes x r).registers (link - s.entry.first) link_place ∙ ap (x.regs 0) at

-- what is read at a place is its own code
pub own_is : (u : Unrolled) (i : ℕ) (q : Point) (k : Code) → IsFormed u → i < length u.points.items → q ≡ get_or u.points.items i q →
    k ≡ get_or u.codes.items q.code k → k ≡ own_code u i
own_is u i q k formed within at is =
    let p : q ≡ own_point u i = at ∙ other_default u.points.items i q no_point within in
    is ∙ ap (λ (x : Point). get_or u.codes.items x.code k) p ∙ other_default u.codes.items (own_point u i).code k no_code (formed.codes i no_point within)
