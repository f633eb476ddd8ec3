-- A program whose exit is a place has no heads, and its one root, where the program is so.
use Rattle.std.proofs.Common.{◌≡◌, ⊎_elim, ℕ, zero, suc, ◌+◌, ◌<◌, ◌≤◌, List, [], ◌∷◌, ◌++◌, length, refl, ap, sym, subst, ◌∙◌, arith}
use Rattle.std.specs.Prelude.{Contains, map}
use Rattle.std.specs.Global.{Vec}
use Rattle.bilv_spec.proofs.PointsInGraph.{none_in, split_in, of_map}
use Rattle.std.proofs.lemmas.List.{length_push}
use Rattle.question_form.specs.declared.unrolled.Aim.{Aim}
use Rattle.question_form.specs.declared.unrolled.Aim.TheVariants.{OnTo, IntoHead, Outward, OverLast}
use Rattle.question_form.specs.declared.unrolled.Deed.TheVariants.{Row}
use Rattle.question_form.specs.declared.unrolled.Edge.{Edge}
use Rattle.question_form.specs.declared.unrolled.Code.{Code}
use Rattle.question_form.specs.declared.unrolled.Point.{Point}
use Rattle.question_form.specs.declared.unrolled.Root.{Root}
use Rattle.question_form.specs.declared.unrolled.Unrolled.{Unrolled}
use Rattle.question_form.specs.Forms.{AreBounds, IsAimFormed, AreRootsFormed}
use Rattle.question_form.specs.FrameViews.{is_headless, IsHeadless}
use Rattle.pair_terms.specs.Places.{led_to, edge_led}

led_headless : (n : ℕ) (a : Aim) → is_headless a → is_headless (led_to n a)
led_headless n Outward h = tt
led_headless n (OnTo i) h = tt
led_headless n (IntoHead at asserts) h = h
led_headless n OverLast h = tt

-- the one of a list of one
only_one : {X : Type 0} (y x : X) → Contains (y ∷ []) x → x ≡ y
only_one y x (zero, h, e) = sym e
only_one y x (suc i, h, e) = absurd (omega (arith, h))

module _ (u : Unrolled) (codes : Vec Code) (points : Vec Point) (edges : Vec Edge) (n : ℕ) (q : Point) (points_are : points.items ≡ u.points.items ++ q ∷ [])
    (edges_are : edges.items ≡ map (edge_led n) u.edges.items) (first : q.root ≡ 0) (row : q.deed ≡ Row) where
  abbrev v : Unrolled
  v = record u { codes = codes; points = points; edges = edges }

  among : (x : Point) → Contains points.items x → Contains (u.points.items ++ q ∷ []) x
  among x h = subst (λ (l : List Point). Contains l x) points_are h

  led : (e : Edge) → Contains edges.items e → (d : Edge) × Contains u.edges.items d × (edge_led n d ≡ e)
  led e h = of_map (edge_led n) u.edges.items e (subst (λ (l : List Edge). Contains l e) edges_are h)

  pub placed_headless : IsHeadless u → IsHeadless v
  placed_headless h = record {
    invariants = h.invariants;
    heads = h.heads;
    own = h.own;
    roots = h.roots;
    deeds = λ x c.
        ⊎_elim (h.deeds x) (λ o. ap (λ (z : Point). z.deed) (only_one q x o) ∙ row) (split_in u.points.items (q ∷ []) x (among x c));
    edges = λ e c.
        (let d = led e c in subst (λ (z : Edge). is_headless z.aim) d.2 (led_headless n d.0.aim (h.edges d.0 d.1)));
  }

  led_formed : (a : Aim) → IsAimFormed u a → IsAimFormed v (led_to n a)
  led_formed Outward h = tt
  led_formed (OnTo i) h = tt
  led_formed (IntoHead at asserts) h = h
  led_formed OverLast h = tt

  -- a program has a root
  pub placed_roots : IsHeadless u → AreRootsFormed u → AreRootsFormed v
  placed_roots h r = record {
    points = λ x c.
        ⊎_elim (r.points x)
        (λ o. (let is = ap (λ (z : Point). z.root) (only_one q x o) ∙ first in let one = ap length h.roots in omega (arith, is, one)))
        (split_in u.points.items (q ∷ []) x (among x c));
    places = λ x c.
        (let p = r.places x c in let more = ap length points_are ∙ length_push u.points.items q in let l = p.0 in (omega (arith, more, l), p.1));
    edges = λ e c.
        (let d = led e c in subst (λ (z : Edge). IsAimFormed v z.aim) d.2 (led_formed d.0.aim (r.edges d.0 d.1)));
  }
