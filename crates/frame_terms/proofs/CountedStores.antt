-- Points that may store: a contract step counts the bytes that it may write, and a row is made of kept bytes.
use Rattle.std.proofs.Common.{◌≡◌, refl, ap, sym, ◌∙◌, subst, arith, ℕ, zero, suc, ◌≤◌, ◌<◌, [], ◌∷◌, List, Option, Some, None, Bool, true, false, length}
use Rattle.std.specs.Prelude.{Contains, ◌==◌, ◌&&◌, ◌||◌, not, if◌then◌else◌, sum_by}
use Rattle.std.specs.List.{list_all}
use Rattle.std.proofs.lemmas.List.Sums.{sum_by-cons}
use Rattle.word_spec.specs.Words.{add}
use Rattle.machine_spec.specs.Bil.{Statements}
use Rattle.machine_spec.specs.Machine.{Row, width, first_half}
use Rattle.bilv_spec.specs.Elf.{Cell, writable, is_executable, is_kept}
use Rattle.bilv_spec.specs.Run.{Program, fetchable}
use Rattle.bilv_spec.specs.Points.{file_row, file_word, row_price, stores_at}
use Rattle.bilv_spec.proofs.PointsInGraph.{none_in}
use Rattle.walk_spec.specs.Unrolled.{AddressRun, is_in}
use Rattle.frame_spec.specs.Frames.{Contract, Frame, Writes, contract_at}
use Rattle.frame_spec.specs.FramePoints.{is_cut, bytes_of}
use Rattle.frame_spec.specs.FrameWalk.{Executes, StepsOver, Arrives, Gift, UnrolledPoint, UnrolledProgram, point_at}
use Rattle.frame_spec.specs.FrameUnrolling.{DoesContract, DoesAddress, DoesBy, IsUnrolling}
use Rattle.frame_terms.specs.PassiveFrames.{CanReadAction, GivesMemory, IsWalkable}

-- one that counts among others
pub one_counts : (xs : List Writes) (w : Writes) → Contains xs w → 1 ≤ w.count → 1 ≤ sum_by (λ x. x.count) xs
one_counts [] w c some = none_in w c
one_counts (x ∷ xs) w (zero, l, e) some =
    let s = sum_by-cons (λ (y : Writes). y.count) x xs in
    let here : 1 ≤ x.count = subst (λ (z : Writes). 1 ≤ z.count) (sym e) some in
    omega (arith, s, here)
one_counts (x ∷ xs) w (suc n, l, e) some =
    let s = sum_by-cons (λ (y : Writes). y.count) x xs in
    let rest = one_counts xs w (n, omega arith, e) some in
    omega (arith, s, rest)

-- an executable byte is kept
kept_cell : (c : Option Cell) → is_executable c ≡ true → is_kept c ≡ true
kept_cell None h = h
kept_cell (Some c) h = ap (λ b. b || not (writable c.flags)) h

left_of : (a b : Bool) → (a && b) ≡ true → a ≡ true
left_of true b h = refl
left_of false b h = h

fetched : (b : Bool) (row : Option Row) (found : Row) → (if b then row else None) ≡ Some found → b ≡ true
fetched true row found h = refl
fetched false row found h = absurd (cc)

in_some : (runs : List AddressRun) (a : ℕ) → is_in runs a ≡ true → 1 ≤ length runs
in_some [] a h = absurd (cc)
in_some (x ∷ runs) a h = omega arith

-- the first byte of a row is kept
row_kept : (p : Program) (a : ℕ) (row : Row) → file_row p a ≡ Some row → is_kept (p.loaded (add 32 a 0)) ≡ true
row_kept p a row h =
    let all = fetched (fetchable p (file_word p a) a) (p.machine.row (file_word p a)) row h in
    kept_cell (p.loaded (add 32 a 0))
    (left_of (is_executable (p.loaded (add 32 a 0)))
    (list_all (λ i. is_executable (p.loaded (add 32 a i))) (1 ∷ (if width p.machine.narrow (first_half (file_word p a)) == 2 then [] else 2 ∷ 3 ∷ []))) all)

module _ (f : Frame) (contracts : List Contract) (k : ℕ) (u : UnrolledProgram) (un : IsUnrolling f contracts k u) where
  -- a contract step by its contract
  abbrev Counts : (contract : Bool) → UnrolledPoint → Gift → Type 0
  Counts contract q x =
      (q.row ≡ (if contract then 1024 else row_price (file_row f.program q.point.at)))
      → (q.stores ≡ (if contract then bytes_of (contract_at f.stepped q.point.at) else stores_at (file_row f.program q.point.at)))
      → (64 ≤ q.row) × (sum_by (λ w. w.count) x.writes ≤ q.stores)

  given_by : (i : ℕ) (q : UnrolledPoint) (o : Option Contract) (stack : List ℕ) (x : Gift) → DoesContract f k u i q o stack →
      q.does ≡ StepsOver x → sum_by (λ w. w.count) x.writes ≤ bytes_of o
  given_by i q None stack x d e = absurd d
  given_by i q (Some y) [] x d e = absurd d
  given_by i q (Some y) (to ∷ below) x d e =
      let same : StepsOver (record { to = to; writes = y.writes; gives = y.gives; registers = y.registers; flags = y.flags }) ≡ StepsOver x = sym d.1 ∙ e in
      let lists : y.writes ≡ x.writes = cc in
      let counts = ap (λ (z : List Writes). sum_by (λ w. w.count) z) lists in
      omega (arith, counts)

  gift_by : (contract cut : Bool) (i : ℕ) (q : UnrolledPoint) (x : Gift) → DoesBy contract cut f contracts k u i q → q.does ≡ StepsOver x → Counts contract q x
  gift_by true cut i q x d e row n = (
    omega (arith, row),
    (let few = given_by i q (contract_at f.stepped q.point.at) q.point.stack x d e in omega (arith, few, n)),
  )
  gift_by false true i q x d e row n = absurd (let a : Arrives ≡ StepsOver x = sym d.0 ∙ e in cc)
  gift_by false false i q x d e row n = absurd (executed (file_row f.program q.point.at) d)
    where
      executed : (o : Option Row) → DoesAddress f contracts k u i q o → ⊥
      executed None a = let b = sym a.0 ∙ e in cc
      executed (Some row) a = let b = sym a.3.lists.1 ∙ e in cc

  -- a contract step counts as a row, and as the stores of the bytes that it may write
  pub counts_gift : (i : ℕ) (x : Gift) → i < length u.points → (point_at u i).does ≡ StepsOver x →
      (64 ≤ (point_at u i).row) × (sum_by (λ w. w.count) x.writes ≤ (point_at u i).stores)
  counts_gift i x l e =
      let counted = (un.places i l).counted in
      gift_by (point_at u i).point.contract (is_cut f (point_at u i).point) i (point_at u i) x (un.places i l).does e counted.row counted.stores

  row_by : (contract cut : Bool) (i : ℕ) (q : UnrolledPoint) (list : Statements) → DoesBy contract cut f contracts k u i q → q.does ≡ Executes list →
      q.stores ≡ (if contract then bytes_of (contract_at f.stepped q.point.at) else stores_at (file_row f.program q.point.at)) → 1 ≤ q.stores →
      1 ≤ length u.kept
  row_by true cut i q list d e n some = absurd (given (contract_at f.stepped q.point.at) q.point.stack d)
    where
      given : (o : Option Contract) (stack : List ℕ) → DoesContract f k u i q o stack → ⊥
      given None stack a = a
      given (Some y) [] a = a
      given (Some y) (to ∷ below) a = let b = sym a.1 ∙ e in cc
  row_by false true i q list d e n some = absurd (let a = sym d.0 ∙ e in cc)
  row_by false false i q list d e n some = by (file_row f.program q.point.at) refl
    where
      by : (o : Option Row) → file_row f.program q.point.at ≡ o → 1 ≤ length u.kept
      by None h = absurd (let z : q.stores ≡ 0 = n ∙ ap stores_at h in omega (arith, z, some))
      by (Some row) h = in_some u.kept (add 32 q.point.at 0) (un.kept (add 32 q.point.at 0) ∙ row_kept f.program q.point.at row h)

  -- a row that may store has kept bytes
  pub keeps_row : (i : ℕ) (list : Statements) → i < length u.points → (point_at u i).does ≡ Executes list → 1 ≤ (point_at u i).stores → 1 ≤ length u.kept
  keeps_row i list l e some =
      row_by (point_at u i).point.contract (is_cut f (point_at u i).point) i (point_at u i) list (un.places i l).does e (un.places i l).counted.stores some

-- a contract step that may write counts a store
pub gift_stores : (u : UnrolledProgram) → IsWalkable u → (i : ℕ) → GivesMemory u i → 1 ≤ (point_at u i).stores
gift_stores u h i g =
    let at = g.2 in
    let read : CanReadAction u (StepsOver g.0) = subst (CanReadAction u) at.does (h.does i at.place) in
    let some = one_counts g.0.writes g.1 g.3 (read.1 g.1 g.3).1 in
    let few = (h.gifts i g.0 at.place at.does).1 in
    omega (arith, some, few)
