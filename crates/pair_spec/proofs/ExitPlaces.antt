-- The points of the form with the exit as a place, and what they cost.
use Rattle.std.proofs.Common.{◌≡◌, inl, inr, refl, ℕ, zero, suc, ◌+◌, ◌*◌, ◌<◌, ◌≤◌, ◌^◌, ap, sym, ◌∙◌, subst, arith, List, [], ◌∷◌, ◌++◌, length, Bool, true, false}
use Rattle.std.specs.Prelude.{Contains, ◌||◌, if◌then◌else◌, map, filter, sum_by}
use Rattle.std.specs.List.{list_any, flat_map}
use Rattle.std.proofs.lemmas.Bool.{cases_lt}
use Rattle.std.proofs.lemmas.List.{length-map, length_push, get_or-map, get_or_append_left, get_or_push}
use Rattle.std.proofs.lemmas.List.Sums.{sum_by-append, sum_by-cons, sum_by_push}
use Rattle.std.proofs.lemmas.Grind.{flat_map-append}
use Rattle.word_spec.specs.Words.{bit}
use Rattle.machine_spec.specs.Bil.{Empty}
use Rattle.bilv_spec.specs.Notes.{Expr, Number, Register, Flag, Pc, Bound, Memory, Old, Not, Binary}
use Rattle.bilv_spec.specs.Points.{bytes_loaded, line_price}
use Rattle.bilv_spec.proofs.PointsInGraph.{of_map}
use Rattle.walk_spec.specs.Unrolled.{OnTo, Outward, OverLast, ToEvent, PointExit, FalseAssert, Always, Raising, WritingKept, Unaligned, Along, Action, Executes, UnrolledPoint, UnrolledProgram, no_point, point_at, is_edge, goes_out, LeadsLater, ExitsLeadLater}
use Rattle.walk_spec.specs.Unrolling.{IsReadable, IsRunnable, CanBeTerms, ExitIsReadable}
use Rattle.walk_spec.specs.Prices.{action_size, edges_of, entry_lines, line_of, line_size, lines_at, loads_of, point_lines, stores_of, variables_of}
use Rattle.pair_spec.specs.PairTerms.{exit_aimed, exit_place, exits_of, point_aimed, with_exit_place}
use Rattle.pair_spec.specs.ExitPlaces.{ExitPlaceCosts, ExitPlaceRooms, ExitPlaceWalks, exit_lines}

-- ---- exits that are aimed anew

edge_same : (n : ℕ) (x : PointExit) → is_edge (exit_aimed n x) ≡ is_edge x
edge_same n (FalseAssert line e) = refl
edge_same n (Always e) = refl
edge_same n Raising = refl
edge_same n WritingKept = refl
edge_same n Unaligned = refl
edge_same n (Along f j to aim) = refl

line_same : (n : ℕ) (x : PointExit) → line_of (exit_aimed n x) ≡ line_of x
line_same n (FalseAssert line e) = refl
line_same n (Always e) = refl
line_same n Raising = refl
line_same n WritingKept = refl
line_same n Unaligned = refl
line_same n (Along f j to aim) = refl

stays_in : (n : ℕ) (x : PointExit) → goes_out (exit_aimed n x) ≡ false
stays_in n (FalseAssert line e) = refl
stays_in n (Always e) = refl
stays_in n Raising = refl
stays_in n WritingKept = refl
stays_in n Unaligned = refl
stays_in n (Along f j to (OnTo i)) = refl
stays_in n (Along f j to Outward) = refl
stays_in n (Along f j to OverLast) = refl
stays_in n (Along f j to (ToEvent e)) = refl

edges_same : (n : ℕ) (xs : List PointExit) → sum_by is_edge (map (exit_aimed n) xs) ≡ sum_by is_edge xs
edges_same n [] = refl
edges_same n (x ∷ xs) =
    let a = sum_by-cons is_edge (exit_aimed n x) (map (exit_aimed n) xs) in
    let b = sum_by-cons is_edge x xs in
    let c = edge_same n x in
    let d = edges_same n xs in
    omega arith

exit_lines_same : (n : ℕ) (xs : List PointExit) → flat_map line_of (map (exit_aimed n) xs) ≡ flat_map line_of xs
exit_lines_same n [] = refl
exit_lines_same n (x ∷ xs) = (λ k. line_same n x k ++ exit_lines_same n xs k)

none_out : (n : ℕ) (xs : List PointExit) → list_any goes_out (map (exit_aimed n) xs) ≡ false
none_out n [] = refl
none_out n (x ∷ xs) = ap (λ b. b || list_any goes_out (map (exit_aimed n) xs)) (stays_in n x) ∙ none_out n xs

outs_none : (n : ℕ) (xs : List PointExit) → sum_by (λ x. bit (goes_out x)) (map (exit_aimed n) xs) ≡ 0
outs_none n [] = refl
outs_none n (x ∷ xs) =
    let a = sum_by-cons (λ y. bit (goes_out y)) (exit_aimed n x) (map (exit_aimed n) xs) in
    let b : bit (goes_out (exit_aimed n x)) ≡ 0 = ap bit (stays_in n x) in
    let c = outs_none n xs in
    omega arith

-- ---- what is counted of points

over_points : (n : ℕ) (f g : UnrolledPoint → ℕ) → ((q : UnrolledPoint) → f (point_aimed n q) ≡ g q) → (qs : List UnrolledPoint) →
    sum_by f (map (point_aimed n) qs) ≡ sum_by g qs
over_points n f g same [] = refl
over_points n f g same (q ∷ qs) =
    let a = sum_by-cons f (point_aimed n q) (map (point_aimed n) qs) in
    let b = sum_by-cons g q qs in
    let c = same q in
    let d = over_points n f g same qs in
    omega arith

over_form : (u : UnrolledProgram) (f g : UnrolledPoint → ℕ) (n : ℕ) → ((q : UnrolledPoint) → f (point_aimed (length u.points) q) ≡ g q) → f exit_place ≡ n →
    sum_by f (with_exit_place u).points ≡ sum_by g u.points + n
over_form u f g n same last =
    let a = sum_by_push f (map (point_aimed (length u.points)) u.points) exit_place in
    let b = over_points (length u.points) f g same u.points in
    omega arith

module _ (u : UnrolledProgram) (count : Expr → ℕ) where
  abbrev at_exit : ℕ
  at_exit = sum_by count (exit_lines u)

  abbrev goes : UnrolledPoint → Bool
  goes q = list_any goes_out q.exits

  abbrev lines_here : (b : Bool) → UnrolledPoint → ℕ
  lines_here b q = sum_by count (flat_map line_of q.exits ++ (if b then exit_lines u else []))

  -- the lines of a point, whose ensure lines count where it may exit
  here : (b : Bool) (q : UnrolledPoint) → lines_here b q ≡ sum_by count (flat_map line_of q.exits) + (if b then at_exit else 0)
  here true q = sum_by-append count (flat_map line_of q.exits) (exit_lines u)
  here false q = sum_by-append count (flat_map line_of q.exits) []

  form_here : (q : UnrolledPoint) →
      sum_by count (lines_at (with_exit_place u) (point_aimed (length u.points) q)) ≡ sum_by count (flat_map line_of q.exits)
  form_here q =
      ap (λ b. sum_by count (flat_map line_of (map (exit_aimed (length u.points)) q.exits) ++ (if b then exit_lines u else [])))
      (none_out (length u.points) q.exits)
      ∙ ap (λ (xs : List Expr). sum_by count (xs ++ [])) (exit_lines_same (length u.points) q.exits)
      ∙ sum_by-append count (flat_map line_of q.exits) []
      ∙ (let e : sum_by count (flat_map line_of q.exits) + 0 ≡ sum_by count (flat_map line_of q.exits) = omega arith in e)

  -- one more point that may exit, or may not
  counted : (b : Bool) (q : UnrolledPoint) (qs : List UnrolledPoint) →
      (if b then at_exit else 0) + length (filter goes qs) * at_exit ≡ length (if b then q ∷ filter goes qs else filter goes qs) * at_exit
  counted true q qs = grind (arith)
  counted false q qs = omega arith

  all_here : (qs : List UnrolledPoint) →
      sum_by count (flat_map (lines_at u) qs)
      ≡ sum_by count (flat_map (lines_at (with_exit_place u)) (map (point_aimed (length u.points)) qs)) + length (filter goes qs) * at_exit
  all_here [] = omega arith
  all_here (q ∷ qs) =
      let a = sum_by-append count (lines_at u q) (flat_map (lines_at u) qs) in
      let b = sum_by-append count (lines_at (with_exit_place u) (point_aimed (length u.points) q))
      (flat_map (lines_at (with_exit_place u)) (map (point_aimed (length u.points)) qs)) in
      let c = here (goes q) q in
      let d = form_here q in
      let e = all_here qs in
      let f = counted (goes q) q qs in
      omega arith

  pub lines_less : sum_by count (point_lines u) ≡ sum_by count (point_lines (with_exit_place u)) + exits_of u * at_exit
  lines_less =
      let a = all_here u.points in
      let b : sum_by count (point_lines (with_exit_place u))
      ≡ sum_by count (flat_map (lines_at (with_exit_place u)) (map (point_aimed (length u.points)) u.points)) =
      ap (sum_by count) (flat_map-append (lines_at (with_exit_place u)) (map (point_aimed (length u.points)) u.points) (exit_place ∷ []))
      ∙ sum_by-append count (flat_map (lines_at (with_exit_place u)) (map (point_aimed (length u.points)) u.points)) []
      ∙ (let e : sum_by count (flat_map (lines_at (with_exit_place u)) (map (point_aimed (length u.points)) u.points)) + 0
      ≡ sum_by count (flat_map (lines_at (with_exit_place u)) (map (point_aimed (length u.points)) u.points)) = omega arith in e) in
      omega arith

loads_less : (u : UnrolledProgram) → loads_of u ≡ loads_of (with_exit_place u) + exits_of u * sum_by bytes_loaded (exit_lines u)
loads_less u =
    let a = sum_by-append bytes_loaded (entry_lines u) (point_lines u) in
    let b = sum_by-append bytes_loaded (entry_lines u) (point_lines (with_exit_place u)) in
    let c = lines_less u bytes_loaded in
    let d = over_form u (λ q. q.loads) (λ q. q.loads) 0 (λ q. refl) refl in
    omega arith

stores_same : (u : UnrolledProgram) → stores_of (with_exit_place u) ≡ stores_of u
stores_same u = let a = over_form u (λ q. q.stores) (λ q. q.stores) 0 (λ q. refl) refl in omega arith

all_edges_same : (u : UnrolledProgram) → edges_of (with_exit_place u) ≡ edges_of u
all_edges_same u =
    let a = over_form u (λ q. sum_by is_edge q.exits) (λ q. sum_by is_edge q.exits) 0 (λ q. edges_same (length u.points) q.exits) refl in omega arith

pub exit_place_costs : ExitPlaceCosts
exit_place_costs u = (stores_same u, all_edges_same u, refl, loads_less u, lines_less u)

-- ---- the points at their places

module _ (u : UnrolledProgram) where
  pub size : length (with_exit_place u).points ≡ length u.points + 1
  size =
      length_push (map (point_aimed (length u.points)) u.points) exit_place
      ∙ ap (λ n. n + 1) (length-map u.points (point_aimed (length u.points)))

  pub early : (i : ℕ) → i < length u.points → point_at (with_exit_place u) i ≡ point_aimed (length u.points) (point_at u i)
  early i l =
      let long : length (map (point_aimed (length u.points)) u.points) ≡ length u.points = length-map u.points (point_aimed (length u.points)) in
      get_or_append_left (map (point_aimed (length u.points)) u.points) (exit_place ∷ []) no_point i (omega arith)
      ∙ get_or-map (point_aimed (length u.points)) u.points i no_point no_point l

  pub at_last : point_at (with_exit_place u) (length u.points) ≡ exit_place
  at_last =
      get_or_push (map (point_aimed (length u.points)) u.points) exit_place no_point (length u.points)
      (length-map u.points (point_aimed (length u.points)))

  -- a place of the form is one of the program, or the last
  pub by_place : (P : ℕ → UnrolledPoint → Type 0) → ((i : ℕ) → i < length u.points → P i (point_aimed (length u.points) (point_at u i))) →
      P (length u.points) exit_place → (i : ℕ) → i < length (with_exit_place u).points → P i (point_at (with_exit_place u) i)
  by_place P one last i l = elim (cases_lt i (length u.points)) as (λ _. P i (point_at (with_exit_place u) i)) [
    | inl low ↦ subst (P i) (sym (early i low)) (one i low)
    | inr high ↦ (let e : length u.points ≡ i = (let s = size in omega arith) in
        subst (λ j. P j (point_at (with_exit_place u) j)) e (subst (P (length u.points)) (sym at_last) last))
  ]

  -- that terms can be made of it
  readable : (e : Expr) → IsReadable u e → IsReadable (with_exit_place u) e
  readable (Number n) h = h
  readable (Register r) h = h
  readable (Flag f) h = h
  readable Pc h = h
  readable Bound h = h
  readable (Memory n a) h = (h.0, h.1, readable a h.2)
  readable (Old a) h = readable a h
  readable (Not a) h = readable a h
  readable (Binary op a b) h = (readable a h.0, readable b h.1)

  exit_readable : (x : PointExit) → ExitIsReadable u x → ExitIsReadable (with_exit_place u) (exit_aimed (length u.points) x)
  exit_readable (FalseAssert line e) h = readable e h
  exit_readable (Always e) h = tt
  exit_readable Raising h = tt
  exit_readable WritingKept h = tt
  exit_readable Unaligned h = tt
  exit_readable (Along f j to aim) h = tt

  exit_later : (i : ℕ) → i < length u.points → (x : PointExit) → LeadsLater u i x → LeadsLater (with_exit_place u) i (exit_aimed (length u.points) x)
  exit_later i l (FalseAssert line e) h = tt
  exit_later i l (Always e) h = tt
  exit_later i l Raising h = tt
  exit_later i l WritingKept h = tt
  exit_later i l Unaligned h = tt
  exit_later i l (Along f j to (OnTo n)) h = (h.0, (let a = h.1 in let s = size in omega arith))
  exit_later i l (Along f j to Outward) h = (l, (let s = size in omega arith))
  exit_later i l (Along f j to OverLast) h = tt
  exit_later i l (Along f j to (ToEvent e)) h = tt

  -- exits that lead nowhere
  bare : (Q : PointExit → Type 0) → Q Raising → Q WritingKept → Q Unaligned → (x : PointExit) → Contains exit_place.exits x → Q x
  bare Q a b c x (zero, l, e) = subst Q e a
  bare Q a b c x (suc zero, l, e) = subst Q e b
  bare Q a b c x (suc (suc zero), l, e) = subst Q e c
  bare Q a b c x (suc (suc (suc n)), l, e) = absurd (omega arith)

  terms_aimed : (q : UnrolledPoint) (a : Action) → CanBeTerms u q a → CanBeTerms (with_exit_place u) (point_aimed (length u.points) q) a
  terms_aimed q (Executes list) is = record {
    typed = is.typed;
    no_loop = is.no_loop;
    no_special = is.no_special;
    nests = is.nests;
    picks = is.picks;
    steady = is.steady;
    names = is.names;
    draws = is.draws;
    weight = is.weight;
    loads = is.loads;
    byte_stores = is.byte_stores;
  }

  bare_terms : IsRunnable (with_exit_place u) exit_place Empty
  bare_terms = record {
    typed = refl;
    no_loop = refl;
    no_special = refl;
    nests = omega arith;
    picks = refl;
    steady = refl;
    names = refl;
    draws = λ e. refl;
    weight = omega arith;
    loads = omega arith;
    byte_stores = omega arith;
  }

  of_aimed : (Q : PointExit → Type 0) (xs : List PointExit) → ((x : PointExit) → Contains xs x → Q (exit_aimed (length u.points) x)) →
      (y : PointExit) → Contains (map (exit_aimed (length u.points)) xs) y → Q y
  of_aimed Q xs all y h = let q = of_map (exit_aimed (length u.points)) xs y h in subst Q q.2 (all q.0 q.1)

  pub form_leads_later : ExitsLeadLater u → ExitsLeadLater (with_exit_place u)
  form_leads_later later i x w h =
      by_place (λ j q. Contains q.exits x → LeadsLater (with_exit_place u) j x)
      (λ j l. of_aimed (LeadsLater (with_exit_place u) j) (point_at u j).exits (λ y c. exit_later j l y (later j y l c)) x)
      (bare (LeadsLater (with_exit_place u) (length u.points)) tt tt tt x) i w h

pub exit_place_walks : ExitPlaceWalks
exit_place_walks u is = record {
  sized = record { enough = is.sized.enough; registers = is.sized.registers; flags = is.sized.flags };
  some = (let s = size u in omega arith);
  later = form_leads_later u is.later;
  one_out = by_place u (λ j q. sum_by (λ x. bit (goes_out x)) q.exits ≤ 1)
      (λ j l. let e = outs_none (length u.points) (point_at u j).exits in omega arith) (omega arith);
  terms = by_place u (λ j q. CanBeTerms (with_exit_place u) q q.does) (λ j l. terms_aimed u (point_at u j) (point_at u j).does (is.terms j l)) (bare_terms u);
  at = by_place u (λ j q. q.point.at < 2 ^ 32) is.at (omega arith);
  runs = is.runs;
  entry = is.entry;
  link = is.link;
  requires = λ l h. readable u l.says (is.requires l h);
  ensures = λ l h. readable u l.says (is.ensures l h);
  asserts = λ i x w h.
      by_place u (λ j q. Contains q.exits x → ExitIsReadable (with_exit_place u) x)
      (λ j l. of_aimed u (ExitIsReadable (with_exit_place u)) (point_at u j).exits (λ y c. exit_readable u y (is.asserts j y l c)) x)
      (bare u (ExitIsReadable (with_exit_place u)) tt tt tt x) i w h;
}

-- ---- the room of its points

pub exit_place_rooms : ExitPlaceRooms
exit_place_rooms u = (
  (let rows = over_form u (λ q. q.row) (λ q. q.row) 64 (λ q. refl) refl in
      let lines = lines_less u line_price in
      let edges = all_edges_same u in
      let stores : stores_of (with_exit_place u) * length u.kept ≡ stores_of u * length u.kept = ap (λ n. n * length u.kept) (stores_same u) in
      omega arith),
  (let loads = over_form u (λ q. q.loads) (λ q. q.loads) 0 (λ q. refl) refl in
      let lines = lines_less u bytes_loaded in
      omega arith),
  (let lists = over_form u (λ q. action_size q.does) (λ q. action_size q.does) 0 (λ q. refl) refl in
      let lines = lines_less u (λ e. line_size e + 4) in
      let edges : variables_of u * edges_of (with_exit_place u) ≡ variables_of u * edges_of u = ap (λ n. variables_of u * n) (all_edges_same u) in
      let stores : stores_of (with_exit_place u) * length u.kept ≡ stores_of u * length u.kept = ap (λ n. n * length u.kept) (stores_same u) in
      let count = size u in
      omega arith),
)
