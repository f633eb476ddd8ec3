-- What terms need of an unrolled program is what they need of its unrolled frame.
use Rattle.std.proofs.Common.{◌≡◌, refl, ap, sym, ◌∙◌, subst, arith, ℕ, zero, suc, ◌<◌, ◌≤◌, ◌^◌, [], ◌∷◌, length}
use Rattle.std.specs.Prelude.{Contains, map, sum_by}
use Rattle.word_spec.specs.Words.{bit}
use Rattle.bilv_spec.specs.Notes.{Expr, Number, Register, Flag, Pc, Bound, Memory, Old, Not, Binary}
use Rattle.bilv_spec.proofs.PointSteps.{in_map}
use Rattle.bilv_spec.proofs.PointsInGraph.{of_map}
use Rattle.walk_spec.specs.Unrolled as tables
use Rattle.walk_spec.specs.Unrolling as unrolling
use Rattle.walk_spec.specs.Unrolling.{IsReadable}
use Rattle.frame_spec.specs.FrameWalk.{PointExit, Root, Gift, StepsOver, UnrolledPoint, UnrolledProgram, point_at, LeadsLater}
use Rattle.frame_spec.specs.FrameUnrolling.{CanBeTerms}
use Rattle.frame_laws.specs.HeadlessLaws.{as_exit, as_action, entry_root, as_unrolled}
use Rattle.frame_laws.specs.FramePrices.{line_of, goes_out}
use Rattle.frame_terms.specs.PassiveFrames.{CanRead, CanReadAction, IsWalkable}
use Rattle.frame_terms.specs.HeadlessTerms.{HeadlessIsWalkable}
use Rattle.frame_laws.proofs.OnceLists.{mapped_sum}
use Rattle.frame_laws.proofs.FrameSums.{out_same}
use Rattle.frame_laws.proofs.HeadlessPlaces.{terms_as, terms_back}
use Rattle.frame_laws.proofs.HeadlessWalks.{place_same, count_same}

module _ (u : tables.UnrolledProgram) where
  abbrev v : UnrolledProgram
  v = as_unrolled u

  -- lines
  read_as : (e : Expr) → IsReadable u e → CanRead v e
  read_as (Number n) h = h
  read_as (Register r) h = h
  read_as (Flag f) h = h
  read_as Pc h = h
  read_as Bound h = h
  read_as (Memory n a) h = (h.0, h.1, read_as a h.2)
  read_as (Old a) h = read_as a h
  read_as (Not a) h = read_as a h
  read_as (Binary op a b) h = (read_as a h.0, read_as b h.1)

  read_back : (e : Expr) → CanRead v e → IsReadable u e
  read_back (Number n) h = h
  read_back (Register r) h = h
  read_back (Flag f) h = h
  read_back Pc h = h
  read_back Bound h = h
  read_back (Memory n a) h = (h.0, h.1, read_back a h.2)
  read_back (Old a) h = read_back a h
  read_back (Not a) h = read_back a h
  read_back (Binary op a b) h = (read_back a h.0, read_back b h.1)

  -- exits
  exit_as : (x : tables.PointExit) → unrolling.ExitIsReadable u x → (e : Expr) → Contains (line_of (as_exit x)) e → CanRead v e
  exit_as (tables.FalseAssert line says) h e (zero, l, same) = subst (λ z. CanRead v z) same (read_as says h)
  exit_as (tables.FalseAssert line says) h e (suc i, l, same) = absurd (omega arith)
  exit_as (tables.Always x) h e (i, l, same) = absurd (omega arith)
  exit_as tables.Raising h e (i, l, same) = absurd (omega arith)
  exit_as tables.WritingKept h e (i, l, same) = absurd (omega arith)
  exit_as tables.Unaligned h e (i, l, same) = absurd (omega arith)
  exit_as (tables.Along falls jumps to (tables.OnTo j)) h e (i, l, same) = absurd (omega arith)
  exit_as (tables.Along falls jumps to tables.Outward) h e (i, l, same) = absurd (omega arith)
  exit_as (tables.Along falls jumps to tables.OverLast) h e (i, l, same) = absurd (omega arith)
  exit_as (tables.Along falls jumps to (tables.ToEvent x)) h e (i, l, same) = absurd (omega arith)

  exit_back : (x : tables.PointExit) → ((e : Expr) → Contains (line_of (as_exit x)) e → CanRead v e) → unrolling.ExitIsReadable u x
  exit_back (tables.FalseAssert line says) h = read_back says (h says (0, omega arith, refl))
  exit_back (tables.Always x) h = tt
  exit_back tables.Raising h = tt
  exit_back tables.WritingKept h = tt
  exit_back tables.Unaligned h = tt
  exit_back (tables.Along falls jumps to aim) h = tt

  exits_of : (i : ℕ) → (point_at v i).exits ≡ map as_exit (tables.point_at u i).exits
  exits_of i = ap (λ z. z.exits) (place_same u i)

  inside_as : (i : ℕ) (x : tables.PointExit) → Contains (tables.point_at u i).exits x → Contains (point_at v i).exits (as_exit x)
  inside_as i x h = subst (λ z. Contains z (as_exit x)) (sym (exits_of i)) (in_map as_exit (tables.point_at u i).exits x h)

  inside_back : (i : ℕ) (x : PointExit) → Contains (point_at v i).exits x →
      (y : tables.PointExit) × Contains (tables.point_at u i).exits y × (as_exit y ≡ x)
  inside_back i x h = of_map as_exit (tables.point_at u i).exits x (subst (λ z. Contains z x) (exits_of i) h)

  outs_same : (i : ℕ) → sum_by (λ x. bit (goes_out x)) (point_at v i).exits ≡ sum_by (λ x. bit (tables.goes_out x)) (tables.point_at u i).exits
  outs_same i =
      ap (λ z. sum_by (λ x. bit (goes_out x)) z) (exits_of i)
      ∙ mapped_sum as_exit (λ x. bit (goes_out x)) (λ x. bit (tables.goes_out x)) (λ x. ap (λ z. bit z) (out_same x)) (tables.point_at u i).exits

  below_as : (i : ℕ) → i < length v.points → i < length u.points
  below_as i l = let c = count_same u in omega arith

  below_back : (i : ℕ) → i < length u.points → i < length v.points
  below_back i l = let c = count_same u in omega arith

  -- later places
  anchor_is : (i : ℕ) → (point_at v i).point.anchor ≡ (point_at v 0).point.anchor
  anchor_is i = ap (λ z. z.point.anchor) (place_same u i) ∙ sym (ap (λ z. z.point.anchor) (place_same u 0))

  later_as : (i : ℕ) (x : tables.PointExit) → tables.LeadsLater u i x → LeadsLater v i (as_exit x)
  later_as i (tables.FalseAssert line says) h = tt
  later_as i (tables.Always x) h = tt
  later_as i tables.Raising h = tt
  later_as i tables.WritingKept h = tt
  later_as i tables.Unaligned h = tt
  later_as i (tables.Along falls jumps to (tables.OnTo j)) h = (h.0, below_back j h.1, anchor_is j ∙ sym (anchor_is i))
  later_as i (tables.Along falls jumps to tables.Outward) h = tt
  later_as i (tables.Along falls jumps to tables.OverLast) h = tt
  later_as i (tables.Along falls jumps to (tables.ToEvent x)) h = tt

  later_back : (i : ℕ) (x : tables.PointExit) → LeadsLater v i (as_exit x) → tables.LeadsLater u i x
  later_back i (tables.FalseAssert line says) h = tt
  later_back i (tables.Always x) h = tt
  later_back i tables.Raising h = tt
  later_back i tables.WritingKept h = tt
  later_back i tables.Unaligned h = tt
  later_back i (tables.Along falls jumps to (tables.OnTo j)) h = (h.0, below_as j h.1)
  later_back i (tables.Along falls jumps to tables.Outward) h = tt
  later_back i (tables.Along falls jumps to tables.OverLast) h = tt
  later_back i (tables.Along falls jumps to (tables.ToEvent x)) h = tt

  only_root : (x : Root) → Contains (entry_root ∷ []) x → entry_root ≡ x
  only_root x (zero, l, e) = e
  only_root x (suc i, l, e) = absurd (omega arith)

  no_lines : (a : tables.Action) → CanReadAction v (as_action a)
  no_lines (tables.Executes list) = tt

  no_gift : (a : tables.Action) (x : Gift) → as_action a ≡ StepsOver x → ⊥
  no_gift (tables.Executes list) x e = cc

  walkable_as : unrolling.IsWalkable u → IsWalkable v
  walkable_as h = record {
    sized = record { enough = h.sized.enough; registers = h.sized.registers; flags = h.sized.flags };
    rooted = record {
      later = λ i x l inside.
          (let it = inside_back i x inside in subst (λ z. LeadsLater v i z) it.2 (later_as i it.0 (h.later i it.0 (below_as i l) it.1)));
      places = λ x inside. subst (λ (z : Root). z.place < length v.points) (only_root x inside) (below_back 0 h.some);
      one = λ x y left right same. sym (only_root x left) ∙ only_root y right;
    };
    begins = (entry_root, (0, omega arith, refl), refl);
    one_out = λ i l. subst (λ z. z ≤ 1) (sym (outs_same i)) (h.one_out i (below_as i l));
    terms = λ i l.
        subst (λ (z : UnrolledPoint). CanBeTerms v z z.does) (sym (place_same u i))
        (terms_as u (tables.point_at u i) (tables.point_at u i).does (h.terms i (below_as i l)));
    at = λ i l. subst (λ (z : UnrolledPoint). z.point.at < 2 ^ 32) (sym (place_same u i)) (h.at i (below_as i l));
    runs = h.runs;
    entry = h.entry;
    link = h.link;
    requires = λ l inside. read_as l.says (h.requires l inside);
    ensures = λ l inside. read_as l.says (h.ensures l inside);
    own = tt;
    assumes = λ x inside l among. absurd (let none = subst (λ (z : Root). Contains z.assumes l) (sym (only_root x inside)) among in not_in_none l none);
    exits = λ i x l inside e among.
        (let it = inside_back i x inside in
        exit_as it.0 (h.asserts i it.0 (below_as i l) it.1) e (subst (λ z. Contains (line_of z) e) (sym it.2) among));
    does = λ i l. subst (λ (z : UnrolledPoint). CanReadAction v z.does) (sym (place_same u i)) (no_lines (tables.point_at u i).does);
    gifts = λ i x l e. absurd (no_gift (tables.point_at u i).does x (subst (λ (z : UnrolledPoint). z.does ≡ StepsOver x) (place_same u i) e));
    kept_stores = λ x own. absurd (cc);
  }
    where
      not_in_none : {A : Type 0} (x : A) → Contains [] x → ⊥
      not_in_none x (i, l, e) = omega arith

  walkable_back : IsWalkable v → unrolling.IsWalkable u
  walkable_back h = record {
    sized = record { enough = h.sized.enough; registers = h.sized.registers; flags = h.sized.flags };
    some = below_as 0 (h.rooted.places entry_root (0, omega arith, refl));
    later = λ i x l inside. later_back i x (h.rooted.later i (as_exit x) (below_back i l) (inside_as i x inside));
    one_out = λ i l. subst (λ z. z ≤ 1) (outs_same i) (h.one_out i (below_back i l));
    terms = λ i l.
        terms_back u (tables.point_at u i) (tables.point_at u i).does
        (subst (λ (z : UnrolledPoint). CanBeTerms v z z.does) (place_same u i) (h.terms i (below_back i l)));
    at = λ i l. subst (λ (z : UnrolledPoint). z.point.at < 2 ^ 32) (place_same u i) (h.at i (below_back i l));
    runs = h.runs;
    entry = h.entry;
    link = h.link;
    requires = λ l inside. read_back l.says (h.requires l inside);
    ensures = λ l inside. read_back l.says (h.ensures l inside);
    asserts = λ i x l inside. exit_back x (λ e among. h.exits i (as_exit x) (below_back i l) (inside_as i x inside) e among);
  }

pub headless_is_walkable : HeadlessIsWalkable
headless_is_walkable u = ((λ h. walkable_as u h), (λ h. walkable_back u h))
