-- A place to which no exit leads is never met.
use Rattle.std.proofs.Common.{◌≡◌, inl, inr, ℕ, zero, suc, ◌<◌, ◌≤◌, Bool, true, false, None, Some, List, [], ◌∷◌, length, get_or, refl, ap, sym, ◌∙◌, arith, eq-eqb}
use Rattle.std.specs.Prelude.{◌||◌, if◌then◌else◌}
use Rattle.std.specs.List.{list_any}
use Rattle.std.proofs.lemmas.Bool.{false≢true}
use Rattle.std.proofs.lemmas.Bool.Decides.{eqb_tells}
use Rattle.word_spec.specs.State.{State}
use Rattle.bilv_spec.specs.Questions.{Reading}
use Rattle.walk_spec.specs.Unrolled.{Aim, OnTo, Outward, OverLast, ToEvent, PointExit, FalseAssert, Always, Raising, WritingKept, Unaligned, Along, UnrolledPoint, UnrolledProgram, no_point, point_at, Leaving, is_taken, aim_of, first_aim, out_by, Walk, WalkIsAt, WalkExits, WalkFails, WalkTurns, walk_to, walk_on}
use Rattle.walk_spec.specs.Sweep.{Held, held_if, hand, held}
use Rattle.bilv_spec.specs.Run.{false_line}
use Rattle.pair_terms.specs.Exits.{is_onto, leads_to, is_led_to}

-- the exit that leads on to a place
onto : (n : ℕ) (a : Aim) → a ≡ OnTo n → is_onto n a ≡ true
onto n (OnTo i) e = eq-eqb i n (ap place_of e) where
  place_of : Aim → ℕ
  place_of (OnTo j) = j
  place_of Outward = 0
  place_of OverLast = 0
  place_of (ToEvent x) = 0
onto n Outward e = cc
onto n OverLast e = cc
onto n (ToEvent x) e = cc

leads : (n : ℕ) (l : Leaving) (x : PointExit) → aim_of l x ≡ OnTo n → leads_to n x ≡ true
leads n l (FalseAssert line y) e = cc
leads n l (Always y) e = cc
leads n l Raising e = cc
leads n l WritingKept e = cc
leads n l Unaligned e = cc
leads n l (Along f j to a) e = onto n a e

or_left : (a b : Bool) → a ≡ true → (a || b) ≡ true
or_left true b h = refl
or_left false b h = absurd (false≢true h)

or_right : (a b : Bool) → b ≡ true → (a || b) ≡ true
or_right true b h = refl
or_right false b h = h

chosen_leads : (l : Leaving) (n : ℕ) (x : PointExit) (xs : List PointExit) (next : Aim) (b : Bool) → (next ≡ OnTo n → list_any (leads_to n) xs ≡ true) →
    (if b then aim_of l x else next) ≡ OnTo n → list_any (leads_to n) (x ∷ xs) ≡ true
chosen_leads l n x xs next true k e = or_left _ _ (leads n l x e)
chosen_leads l n x xs next false k e = or_right _ _ (k e)

first_leads : (u : UnrolledProgram) (entry now : State) (w : Bool) (l : Leaving) (n : ℕ) (xs : List PointExit) → first_aim u entry now w l xs ≡ OnTo n →
    list_any (leads_to n) xs ≡ true
first_leads u entry now w l n [] e = cc
first_leads u entry now w l n (x ∷ xs) e =
    chosen_leads l n x xs (first_aim u entry now w l xs) (is_taken u entry now w l x) (first_leads u entry now w l n xs) e

-- a walk that is at a place was led there
abbrev IsLed : Aim → Walk → Type 0
IsLed a (WalkIsAt j c) = a ≡ OnTo j
IsLed a w = Unit {0}

out_led : (a : Aim) (o : _) → IsLed a (out_by o)
out_led a None = tt
out_led a (Some line) = tt

to_led : (u : UnrolledProgram) (entry next : State) (a : Aim) → IsLed a (walk_to u entry next a)
to_led u entry next (OnTo i) = refl
to_led u entry next Outward = out_led Outward (false_line u.endian u.ensures next entry)
to_led u entry next OverLast = tt
to_led u entry next (ToEvent e) = tt

any_at : (n : ℕ) (ps : List UnrolledPoint) (t : ℕ) → t < length ps → list_any (leads_to n) (get_or ps t no_point).exits ≡ true →
    list_any (λ q. list_any (leads_to n) q.exits) ps ≡ true
any_at n [] t l h = absurd (omega arith)
any_at n (q ∷ ps) zero l h = or_left _ _ h
any_at n (q ∷ ps) (suc t) l h = or_right _ _ (any_at n ps t (omega arith) h)

-- a place is not met by what is handed on, unless the walk is led there
hand_other : (n : ℕ) (a : Aim) (w : Walk) (h : Held) → IsLed a w → (a ≡ OnTo n → ⊥) → h.met n ≡ false → (hand w h).met n ≡ false
hand_other n a (WalkIsAt j c) h led not_there is = elim (eqb_tells n j) [
  | inl e ↦ absurd (not_there (led ∙ ap OnTo (sym e.1)))
  | inr o ↦ ap (λ (b : Bool). b || h.met n) o.0 ∙ is
]
hand_other n a WalkExits h led not_there is = is
hand_other n a (WalkFails e) h led not_there is = is
hand_other n a WalkTurns h led not_there is = is

step_other : (n : ℕ) (b : Bool) (w : Walk) (h : Held) → (hand w h).met n ≡ false → h.met n ≡ false → (held_if b (hand w h) h).met n ≡ false
step_other n true w h p q = p
step_other n false w h p q = q

pub never_met : (u : UnrolledProgram) (r : Reading) (n : ℕ) → 0 < n → is_led_to u n ≡ false → (t : ℕ) → t ≤ length u.points → (held u r t).met n ≡ false
unfolding held
never_met u r n some led zero l = elim (eqb_tells n 0) [ inl e ↦ (let z = e.1 in absurd (omega (arith, z))) | inr o ↦ o.0 ]
never_met u r n some led (suc t) l =
    let h = held u r t in
    let c = h.carried t in
    let before = never_met u r n some led t (omega arith) in
    let w = walk_on u r (WalkIsAt t c) in
    step_other n (h.met t) w h
    (hand_other n _ w h (to_led u r.state _ _)
    (λ e. false≢true (sym led ∙ any_at n u.points t (omega arith) (first_leads u r.state _ _ _ n (point_at u t).exits e))) before) before
