-- What the exits of a point count: edges, lines, and a way out.
use Rattle.std.proofs.Common.{◌≡◌, ℕ, zero, suc, ◌+◌, refl, ap, sym, ◌∙◌, arith, List, [], ◌∷◌, ◌++◌, length, Option, Some, None, Bool, true, false}
use Rattle.std.specs.Prelude.{Contains, ◌==◌, ◌&&◌, ◌||◌, not, if◌then◌else◌, filter, map, sum_by}
use Rattle.std.specs.List.{list_any, flat_map, AllZip}
use Rattle.std.proofs.lemmas.List.Sums.{sum_by-cons, sum_by-append}
use Rattle.machine_spec.specs.Machine.{Row}
use Rattle.bilv_spec.specs.Notes.{Expr, NoteLine, Assert}
use Rattle.bilv_spec.specs.Points.{EdgeEnd, ToAddress, ToExit, edges, is_exit, leads_on, edges_by, file_row}
use Rattle.bilv_spec.proofs.Pigeons.{Once}
use Rattle.bilv_spec.proofs.PointSteps.{here, there}
use Rattle.frame_spec.specs.Frames.{Contract, Frame, is_head, is_invariant, invariants_of}
use Rattle.frame_spec.specs.FramePoints.{Point, frame_edges, lines_at, lines_of_end, says_of, top_ends, triple, is_cut, is_entry}
use Rattle.frame_spec.specs.FrameWalk.{Check, Aim, OnTo, IntoHead, Outward, OverLast, ToEvent, Cutting, Nowhere, PointExit, FalseCheck, FalseNeed, WritingOutside, UnrolledProgram}
use Rattle.frame_spec.specs.FrameUnrolling.{checks_by, checks_of, IsAim, IsEdge, AreAlong, outside_exit}
use Rattle.frame_laws.specs.FramePrices.{is_edge, is_outward, goes_out, lines_into, line_of}
use Rattle.frame_laws.proofs.OnceLists.{filter_once, same_count_sum, flat_sum, distinct_once}

-- so many edges, lines of such a sum, and a way out or none
pub record Tally (xs : List PointExit) (ends : ℕ) (total : (Expr → ℕ) → ℕ) (leaves : Bool) : Type 0 where
  pub edges : sum_by is_edge xs ≡ ends
  pub lines : (g : Expr → ℕ) → sum_by g (flat_map line_of xs) ≡ total g
  pub out : list_any goes_out xs ≡ leaves

abbrev pub says : List Check → List Expr
says l = map (λ x. x.says) l

pub checks_says : (f : Frame) (l : List Assert) → says (checks_by f l) ≡ map (λ x. x.says) l
checks_says f [] = refl
checks_says f (x ∷ l) = ap (λ z. x.says ∷ z) (checks_says f l)

module _ (ends : ℕ) (lines : (Expr → ℕ) → ℕ) (out : Bool) where
  -- an exit that is no edge and evaluates no line
  pub idle : (x : PointExit) (xs : List PointExit) → is_edge x ≡ 0 → line_of x ≡ [] → goes_out x ≡ false → Tally xs ends lines out →
      Tally (x ∷ xs) ends lines out
  idle x xs e l o h = record {
    edges = let c = sum_by-cons is_edge x xs in let d = h.edges in omega arith;
    lines = λ g. ap (λ z. sum_by g (z ++ flat_map line_of xs)) l ∙ h.lines g;
    out = ap (λ z. z || list_any goes_out xs) o ∙ h.out;
  }

  pub outside : (o : Option Contract) (xs : List PointExit) → Tally xs ends lines out → Tally (outside_exit o ++ xs) ends lines out
  outside None xs h = h
  outside (Some x) xs h = idle WritingOutside xs refl refl refl h

one_more_line : (g : Expr → ℕ) (e : Expr) (xs : List PointExit) (a b : ℕ) → sum_by g (flat_map line_of xs) ≡ a + b →
    sum_by g (e ∷ flat_map line_of xs) ≡ (g e + a) + b
one_more_line g e xs a b h = let c = sum_by-cons g e (flat_map line_of xs) in omega arith

module _ (ends : ℕ) (lines : (Expr → ℕ) → ℕ) (out : Bool) (xs : List PointExit) (h : Tally xs ends lines out) where
  plain_lines : (g : Expr → ℕ) → sum_by g (flat_map line_of xs) ≡ 0 + lines g
  plain_lines g = let e = h.lines g in omega arith

  -- the exits by lines
  pub checks : (l : List Check) → Tally (map FalseCheck l ++ xs) ends (λ g. sum_by g (says l) + lines g) out
  checks [] = record { edges = h.edges; lines = plain_lines; out = h.out }
  checks (x ∷ l) =
      let r = checks l in
      record {
        edges = let c = sum_by-cons is_edge (FalseCheck x) (map FalseCheck l ++ xs) in let d = r.edges in omega arith;
        lines = λ g. one_more_line g x.says (map FalseCheck l ++ xs) (sum_by g (says l)) (lines g) (r.lines g)
            ∙ ap (λ z. z + lines g) (sym (sum_by-cons g x.says (says l)));
        out = r.out;
      }

  pub needs : (l : List NoteLine) → Tally (map (λ l. FalseNeed l.line l.says) l ++ xs) ends (λ g. sum_by g (says_of l) + lines g) out
  needs [] = record { edges = h.edges; lines = plain_lines; out = h.out }
  needs (x ∷ l) =
      let r = needs l in
      record {
        edges = let c = sum_by-cons is_edge (FalseNeed x.line x.says) (map (λ l. FalseNeed l.line l.says) l ++ xs) in let d = r.edges in omega arith;
        lines = λ g. one_more_line g x.says (map (λ l. FalseNeed l.line l.says) l ++ xs) (sum_by g (says_of l)) (lines g) (r.lines g)
            ∙ ap (λ z. z + lines g) (sym (sum_by-cons g x.says (says_of l)));
        out = r.out;
      }

exit_is : (t : EdgeEnd) → is_exit t ≡ true → t ≡ ToExit
exit_is ToExit h = refl
exit_is (ToAddress stack a) h = absurd (cc)

-- a list has the exit where the test says so
has_exit : (ts : List EdgeEnd) → list_any is_exit ts ≡ true → Contains ts ToExit
has_exit [] h = absurd (cc)
has_exit (ToExit ∷ ts) h = here ToExit ts
has_exit (ToAddress stack a ∷ ts) h = there (ToAddress stack a) ts ToExit (has_exit ts h)

with_exit : (ts : List EdgeEnd) → Contains ts ToExit → list_any is_exit ts ≡ true
with_exit [] (n, l, e) = absurd (omega arith)
with_exit (ToExit ∷ ts) h = refl
with_exit (ToAddress stack a ∷ ts) (zero, l, e) = let q : is_exit (ToAddress stack a) ≡ is_exit ToExit = ap is_exit e in absurd (cc)
with_exit (ToAddress stack a ∷ ts) (suc n, l, e) = with_exit ts (n, omega arith, e)

same_bool : (a b : Bool) → (a ≡ true → b ≡ true) → (b ≡ true → a ≡ true) → a ≡ b
same_bool true b f g = sym (f refl)
same_bool false true f g = g refl
same_bool false false f g = refl

-- each edge once
frame_edges_once : (f : Frame) (contract cut : Bool) (q : Point) →
    Once (if contract then filter (leads_on f.program.machine.narrow) (top_ends q.stack) else if cut then [] else edges f.program (triple q))
frame_edges_once f true cut q = filter_once (leads_on f.program.machine.narrow) (top_ends q.stack) (one q.stack)
  where
    one : (l : List ℕ) → Once (top_ends l)
    one [] i j l h e = absurd (omega arith)
    one (to ∷ below) i j l h e = absurd (omega arith)
frame_edges_once f false true q = λ i j l h e. absurd (omega arith)
frame_edges_once f false false q =
    distinct_once (filter (leads_on f.program.machine.narrow) (edges_by f.program (triple q) (file_row f.program q.at)))

-- the edges
module _ (f : Frame) (k : ℕ) (u : UnrolledProgram) (i : ℕ) (q : Point) (row : Option Row) where
  out_by_aim : (t : EdgeEnd) (aim : Aim) → IsAim f k u i q t aim → is_outward aim ≡ is_exit t
  out_by_aim ToExit Outward h = refl
  out_by_aim ToExit (OnTo n) h = absurd h
  out_by_aim ToExit (IntoHead at l) h = absurd h
  out_by_aim ToExit OverLast h = absurd h
  out_by_aim ToExit (ToEvent e) h = absurd h
  out_by_aim ToExit Cutting h = absurd h
  out_by_aim ToExit Nowhere h = absurd h
  out_by_aim (ToAddress stack a) (OnTo n) h = refl
  out_by_aim (ToAddress stack a) (IntoHead at l) h = refl
  out_by_aim (ToAddress stack a) OverLast h = refl
  out_by_aim (ToAddress stack a) Outward h = absurd h
  out_by_aim (ToAddress stack a) (ToEvent e) h = absurd h
  out_by_aim (ToAddress stack a) Cutting h = absurd h
  out_by_aim (ToAddress stack a) Nowhere h = absurd h

  off_head : (a : ℕ) → is_head f a ≡ false → (if is_head f a then lines_at f a else []) ≡ []
  off_head a h = ap (λ (z : Bool). if z then lines_at f a else []) h

  lines_by_aim : (t : EdgeEnd) (aim : Aim) → IsAim f k u i q t aim → lines_into aim ≡ lines_of_end f t
  lines_by_aim ToExit Outward h = refl
  lines_by_aim ToExit (OnTo n) h = absurd h
  lines_by_aim ToExit (IntoHead at l) h = absurd h
  lines_by_aim ToExit OverLast h = absurd h
  lines_by_aim ToExit (ToEvent e) h = absurd h
  lines_by_aim ToExit Cutting h = absurd h
  lines_by_aim ToExit Nowhere h = absurd h
  lines_by_aim (ToAddress stack a) (OnTo n) h = sym (off_head a h.0)
  lines_by_aim (ToAddress stack a) (IntoHead at l) h =
      ap (λ z. says z) h.2 ∙ checks_says f (filter (λ x. x.at == a) f.program.notes.asserts)
      ∙ sym (ap (λ (z : Bool). if z then lines_at f a else []) h.0)
  lines_by_aim (ToAddress stack a) OverLast h = sym (off_head a h.0)
  lines_by_aim (ToAddress stack a) Outward h = absurd h
  lines_by_aim (ToAddress stack a) (ToEvent e) h = absurd h
  lines_by_aim (ToAddress stack a) Cutting h = absurd h
  lines_by_aim (ToAddress stack a) Nowhere h = absurd h

  abbrev end_lines : (Expr → ℕ) → EdgeEnd → ℕ
  end_lines g t = sum_by g (lines_of_end f t)

  tally_ends : (ends : List EdgeEnd) (xs : List PointExit) → AllZip (IsEdge f k u i q row) ends xs →
      Tally xs (length ends) (λ g. sum_by (end_lines g) ends) (list_any is_exit ends)
  tally_ends [] [] z = record { edges = refl; lines = λ g. refl; out = refl }
  tally_ends [] (x ∷ xs) z = absurd z
  tally_ends (t ∷ ts) [] z = absurd z
  tally_ends (t ∷ ts) (x ∷ xs) z =
      let r = tally_ends ts xs z.1 in
      let its : line_of x ≡ lines_of_end f t = ap line_of z.0.is ∙ lines_by_aim t z.0.aim z.0.leads in
      record {
        edges = let a = sum_by-cons is_edge x xs in let b = r.edges in let c : is_edge x ≡ 1 = ap is_edge z.0.is in omega arith;
        lines = λ g. sum_by-append g (line_of x) (flat_map line_of xs) ∙ ap (λ y. sum_by g y + sum_by g (flat_map line_of xs)) its
            ∙ ap (λ y. end_lines g t + y) (r.lines g) ∙ sym (sum_by-cons (end_lines g) t ts);
        out = ap (λ y. goes_out y || list_any goes_out xs) z.0.is ∙ ap (λ y. y || list_any goes_out xs) (out_by_aim t z.0.aim z.0.leads)
            ∙ ap (λ y. is_exit t || y) r.out;
      }

  -- in whatever order they stand
  pub along : (xs : List PointExit) → AreAlong f k u i q row xs →
      Tally xs (length (frame_edges f q)) (λ g. sum_by g (flat_map (lines_of_end f) (frame_edges f q))) (list_any is_exit (frame_edges f q))
  along xs (ends, are, zip) =
      let r = tally_ends ends xs zip in
      record {
        edges = r.edges ∙ are.count;
        lines = λ g. r.lines g
            ∙ sym (same_count_sum (end_lines g) (frame_edges f q) ends (frame_edges_once f q.contract (is_cut f q) q) (λ t c. (are.same t).0 c) are.count)
            ∙ sym (flat_sum g (lines_of_end f) (frame_edges f q));
        out = r.out ∙ same_bool (list_any is_exit ends) (list_any is_exit (frame_edges f q))
            (λ h. with_exit (frame_edges f q) ((are.same ToExit).1 (has_exit ends h)))
            (λ h. with_exit ends ((are.same ToExit).0 (has_exit (frame_edges f q) h)));
      }

-- the lines of a point, and those that its root assumes
module _ (f : Frame) (g : Expr → ℕ) (a : ℕ) where
  abbrev count : List Assert → ℕ
  count l = sum_by g (map (λ x. x.says) l)

  abbrev here_at : Assert → Bool
  here_at x = x.at == a

  counted : (x : Assert) (l : List Assert) → count (x ∷ l) ≡ g x.says + count l
  counted x l = sum_by-cons g x.says (map (λ x. x.says) l)

  split_by : (x : Assert) (l m n : List Assert) (p v : Bool) → count l + count (filter here_at m) ≡ count n → here_at x ≡ p →
      count (if p && not v then x ∷ l else l) + count (filter here_at (if v then x ∷ m else m)) ≡ count (if p then x ∷ n else n)
  split_by x l m n true false h e = let b = counted x l in let c = counted x n in omega arith
  split_by x l m n false false h e = h
  split_by x l m n true true h e =
      let d : count (filter here_at (x ∷ m)) ≡ count (x ∷ filter here_at m) =
      ap (λ (z : Bool). count (if z then x ∷ filter here_at m else filter here_at m)) e in
      let b = counted x (filter here_at m) in
      let c = counted x n in omega arith
  split_by x l m n false true h e =
      let d : count (filter here_at (x ∷ m)) ≡ count (filter here_at m) =
      ap (λ (z : Bool). count (if z then x ∷ filter here_at m else filter here_at m)) e in
      omega arith

  -- the invariants apart
  split : (l : List Assert) →
      count (filter (λ x. here_at x && not (is_invariant f x)) l) + count (filter here_at (invariants_of f l)) ≡ count (filter here_at l)
  split [] = refl
  split (x ∷ l) =
      split_by x (filter (λ x. here_at x && not (is_invariant f x)) l) (invariants_of f l) (filter here_at l) (here_at x) (is_invariant f x) (split l) refl

  and_true : (b : Bool) → (b && true) ≡ b
  and_true true = refl
  and_true false = refl

  whole_by : (x : Assert) (l m : List Assert) (b : Bool) → count l ≡ count m → count (if b then x ∷ l else l) ≡ count (if b then x ∷ m else m)
  whole_by x l m true h = counted x l ∙ ap (λ z. g x.says + z) h ∙ sym (counted x m)
  whole_by x l m false h = h

  -- none apart
  whole : (l : List Assert) → count (filter (λ x. here_at x && true) l) ≡ count (filter here_at l)
  whole [] = refl
  whole (x ∷ l) =
      ap (λ (z : Bool). count (if z then x ∷ filter (λ x. here_at x && true) l else filter (λ x. here_at x && true) l)) (and_true (here_at x))
      ∙ whole_by x (filter (λ x. here_at x && true) l) (filter here_at l) (here_at x) (whole l)

  abbrev asserts : List Assert
  asserts = f.program.notes.asserts

  abbrev apart : Bool → ℕ
  apart b = if b then count (filter here_at (invariants_of f asserts)) else 0

  lines_by : (h n : Bool) →
      count (filter (λ x. here_at x && not (h && not n && is_invariant f x)) asserts) + apart (h && not n) ≡ count (filter here_at asserts)
  lines_by true false = split asserts
  lines_by true true = let e = whole asserts in omega arith
  lines_by false n = let e = whole asserts in omega arith

-- the lines that the root of a point assumes there
abbrev pub assumed_sum : Frame → (Expr → ℕ) → Point → ℕ
assumed_sum f g q = apart f g q.at (is_head f q.at && not (is_entry q.anchor))

pub check_lines : (f : Frame) (g : Expr → ℕ) (q : Point) → sum_by g (says (checks_of f q)) + assumed_sum f g q ≡ sum_by g (lines_at f q.at)
check_lines f g q =
    ap (λ z. sum_by g z + assumed_sum f g q)
    (checks_says f (filter (λ x. (x.at == q.at) && not (is_head f q.at && not (is_entry q.anchor) && is_invariant f x)) f.program.notes.asserts))
    ∙ lines_by f g q.at (is_head f q.at) (is_entry q.anchor)
