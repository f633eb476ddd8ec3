-- The sweep of a frame is the walks of all its roots.
use Rattle.std.proofs.Common.{◌≡◌, inl, inr, ℕ, zero, suc, ◌+◌, ◌<◌, ◌≤◌, refl, ap, sym, ◌∙◌, subst, arith, List, [], ◌∷◌, length, Option, Some, None, Bool, true, false}
use Rattle.std.specs.Prelude.{Contains, ◌==◌, ◌&&◌, ◌||◌, nat_lt, if◌then◌else◌}
use Rattle.std.specs.List.{list_any}
use Rattle.std.specs.Str.{bytes_eq}
use Rattle.std.proofs.lemmas.Bool.Decides.{nat_tests}
use Rattle.word_spec.specs.State.{State}
use Rattle.machine_spec.specs.Endings.{EnsureFails}
use Rattle.bilv_spec.specs.Run.{false_line}
use Rattle.bilv_spec.proofs.Pigeons.{truth}
use Rattle.bilv_spec.proofs.PointSteps.{same_number, same_list, and_both, here, there}
use Rattle.bilv_spec.proofs.PointTests.{any_is}
use Rattle.frame_spec.specs.Frames.{Content, FrameEvent, OfStep, GivesFails, content_at}
use Rattle.frame_spec.specs.FramePoints.{Anchor, AtEntry, AtHead, is_entry}
use Rattle.frame_spec.specs.FrameQuestions.{Reading}
use Rattle.frame_spec.specs.FrameWalk.{Check, Aim, OnTo, IntoHead, Outward, OverLast, ToEvent, Cutting, Nowhere, PointExit, FalseCheck, FalseNeed, Always, Raising, WritingKept, WritingOutside, NotGiven, Unaligned, Along, Own, Root, UnrolledProgram, point_at, Leaving, Situation, first_aim, is_taken, aim_of, Walk, WalkIsAt, WalkArrives, WalkExits, WalkFails, WalkTurns, WalkIsCut, WalkBreaks, arrival_by, false_check, out_by, has_changed, walk_out, walk_to, situation_at, next_state, left_by, walk_on, root_content, walk_of, is_assumed, Held, content_if, held_if, hand_end, hand, is_begun, held, swept, SomeRoot, HasEvent, AimsLater, LeadsLater, IsRooted, same_anchor, met_of, is_head_anchor, SweepIsWalks}

same_anchor_is : (x y : Anchor) → same_anchor x y ≡ true → x ≡ y
same_anchor_is AtEntry AtEntry h = refl
same_anchor_is (AtHead s a) (AtHead t b) h =
    let q = and_both (a == b) (bytes_eq s t) h in ap (λ z. AtHead z a) (same_list s t q.1) ∙ ap (AtHead t) (same_number a b q.0)
same_anchor_is AtEntry (AtHead t b) h = absurd (cc)
same_anchor_is (AtHead s a) AtEntry h = absurd (cc)

same_stack : (s : List ℕ) → bytes_eq s s ≡ true
same_stack [] = refl
same_stack (a ∷ s) = let e : (a == a) ≡ true = grind (arith, nat_tests) in rw (e, same_stack s) refl

same_anchor_self : (x : Anchor) → same_anchor x x ≡ true
same_anchor_self AtEntry = refl
same_anchor_self (AtHead s a) = let e : (a == a) ≡ true = grind (arith, nat_tests) in rw (e, same_stack s) refl

or_right : (b : Bool) → (b || true) ≡ true
or_right true = refl
or_right false = refl

same_eq : (j : ℕ) → (j == j) ≡ true
same_eq j = grind (arith, nat_tests)

any_of : {X : Type 0} (f : X → Bool) (l : List X) (x : X) → Contains l x → f x ≡ true → list_any f l ≡ true
any_of f [] x (i, h, e) t = absurd (omega arith)
any_of f (a ∷ l) x (zero, h, e) t = ap (λ z. z || list_any f l) (ap f e ∙ t)
any_of f (a ∷ l) x (suc i, h, e) t = ap (λ z. f a || z) (any_of f l x (i, omega arith, e) t) ∙ or_right (f a)

-- what is held once is held on: places stay met, and ends stay noted
record Grows (g h : Held) : Type 0 where
  met : (i : ℕ) → g.met i ≡ true → h.met i ≡ true
  fails : g.fails ≡ true → h.fails ≡ true
  steps : g.steps ≡ true → h.steps ≡ true
  turns : g.turns ≡ true → h.turns ≡ true

same_grows : (h : Held) → Grows h h
same_grows h = record { met = λ i t. t; fails = λ t. t; steps = λ t. t; turns = λ t. t }

end_grows : (anchor : Anchor) (w : Walk) (h : Held) → Grows h (hand_end anchor w h)
end_grows AtEntry (WalkFails e) h = record { met = λ i t. t; fails = λ t. refl; steps = λ t. t; turns = λ t. t }
end_grows (AtHead s a) (WalkFails e) h = record { met = λ i t. t; fails = λ t. t; steps = λ t. refl; turns = λ t. t }
end_grows AtEntry WalkTurns h = record { met = λ i t. t; fails = λ t. t; steps = λ t. t; turns = λ t. refl }
end_grows (AtHead s a) WalkTurns h = record { met = λ i t. t; fails = λ t. t; steps = λ t. t; turns = λ t. refl }
end_grows AtEntry (WalkIsAt i c) h = same_grows h
end_grows (AtHead s a) (WalkIsAt i c) h = same_grows h
end_grows AtEntry (WalkArrives at l c) h = same_grows h
end_grows (AtHead s a) (WalkArrives at l c) h = same_grows h
end_grows AtEntry WalkExits h = same_grows h
end_grows (AtHead s a) WalkExits h = same_grows h
end_grows AtEntry WalkIsCut h = same_grows h
end_grows (AtHead s a) WalkIsCut h = same_grows h
end_grows AtEntry WalkBreaks h = same_grows h
end_grows (AtHead s a) WalkBreaks h = same_grows h

module _ (u : UnrolledProgram) (rooted : IsRooted u) (r : Reading) where
  abbrev anchor_at : ℕ → Anchor
  anchor_at i = (point_at u i).point.anchor

  -- a walk that leads from a place leads to a later one of its anchor
  abbrev Later : ℕ → Walk → Type 0
  Later i (WalkIsAt j c) = (i < j) × (j < length u.points) × (anchor_at j ≡ anchor_at i)
  Later i w = Unit {0}

  exit_later : (i : ℕ) (l : Leaving) (x : PointExit) → LeadsLater u i x → AimsLater u i (aim_of l x)
  exit_later i l (FalseCheck x) h = tt
  exit_later i l (FalseNeed n e) h = tt
  exit_later i l (Always aim) h = h
  exit_later i l Raising h = tt
  exit_later i l WritingKept h = tt
  exit_later i l WritingOutside h = tt
  exit_later i l NotGiven h = tt
  exit_later i l Unaligned h = tt
  exit_later i l (Along f j to aim) h = h

  one_of : (i : ℕ) (b : Bool) (x y : Aim) → AimsLater u i x → AimsLater u i y → AimsLater u i (if b then x else y)
  one_of i true x y h g = h
  one_of i false x y h g = g

  aim_later : (i : ℕ) (s : Situation) (xs : List PointExit) → ((x : PointExit) → Contains xs x → LeadsLater u i x) → AimsLater u i (first_aim u s xs)
  aim_later i s [] f = tt
  aim_later i s (x ∷ xs) f =
      one_of i (is_taken u s x) (aim_of s.leaving x) (first_aim u s xs) (exit_later i s.leaving x (f x (here x xs)))
      (aim_later i s xs (λ y c. f y (there x xs y c)))

  out_later : (i : ℕ) (o : Option Own) (entry next : State) → Later i (walk_out o u entry next)
  out_later i None entry next = by (false_line u.endian u.ensures next entry)
    where
      by : (l : Option ℕ) → Later i (out_by l (λ n. OfStep (EnsureFails n)) false)
      by None = tt
      by (Some l) = tt
  out_later i (Some x) entry next = by (false_line u.endian x.gives next entry) (has_changed u x entry next)
    where
      by : (l : Option ℕ) (b : Bool) → Later i (out_by l GivesFails b)
      by None true = tt
      by None false = tt
      by (Some l) b = tt

  to_later : (i : ℕ) (entry next : State) (aim : Aim) → AimsLater u i aim → Later i (walk_to u entry next aim)
  to_later i entry next (OnTo j) h = h
  to_later i entry next (IntoHead at l) h = tt
  to_later i entry next Outward h = out_later i u.own entry next
  to_later i entry next OverLast h = tt
  to_later i entry next (ToEvent e) h = tt
  to_later i entry next Cutting h = tt
  to_later i entry next Nowhere h = tt

  one_later : (i : ℕ) (c : Content) → i < length u.points → Later i (walk_on u r (WalkIsAt i c))
  one_later i c l =
      let q = point_at u i in
      let s = situation_at u r.state q (r.choice q.point) (r.given q.point) c in
      to_later i r.state (next_state (left_by u q (r.choice q.point) (r.given q.point) c q.does) c) (first_aim u s q.exits)
      (aim_later i s q.exits (λ x h. rooted.later i x l h))

  -- an arrival is over behind it
  abbrev IsEnd : Walk → Type 0
  IsEnd (WalkIsAt i c) = ⊥
  IsEnd (WalkArrives at l c) = ⊥
  IsEnd w = Unit {0}

  arrival_ends : (o : Option Check) → IsEnd (arrival_by o)
  arrival_ends None = tt
  arrival_ends (Some x) = tt

  end_on : (w : Walk) → IsEnd w → walk_on u r w ≡ w
  end_on (WalkIsAt i c) h = absurd h
  end_on (WalkArrives at l c) h = absurd h
  end_on WalkExits h = refl
  end_on (WalkFails e) h = refl
  end_on WalkTurns h = refl
  end_on WalkIsCut h = refl
  end_on WalkBreaks h = refl

  module _ (x : Root) (is : Contains u.roots x) where
    on : (n : ℕ) (w : Walk) → walk_of u r x n ≡ w → walk_of u r x (suc n) ≡ walk_on u r w
    unfolding walk_of
    on n w e = ap (walk_on u r) e

    begun : walk_of u r x 0 ≡ WalkIsAt x.place (root_content r (anchor_at x.place))
    unfolding walk_of
    begun = refl

    -- within the points, of the root's anchor
    abbrev Inside : Walk → Type 0
    Inside (WalkIsAt i c) = (i < length u.points) × (anchor_at i ≡ anchor_at x.place)
    Inside w = Unit {0}

    inside_later : (i : ℕ) (w : Walk) → anchor_at i ≡ anchor_at x.place → Later i w → Inside w
    inside_later i (WalkIsAt j c) e h = (h.1, h.2 ∙ e)
    inside_later i (WalkArrives at l c) e h = tt
    inside_later i WalkExits e h = tt
    inside_later i (WalkFails v) e h = tt
    inside_later i WalkTurns e h = tt
    inside_later i WalkIsCut e h = tt
    inside_later i WalkBreaks e h = tt

    inside_arrival : (o : Option Check) → Inside (arrival_by o)
    inside_arrival None = tt
    inside_arrival (Some y) = tt

    inside_on : (w : Walk) → Inside w → Inside (walk_on u r w)
    inside_on (WalkIsAt i c) h = inside_later i (walk_on u r (WalkIsAt i c)) h.1 (one_later i c h.0)
    inside_on (WalkArrives at l c) h = inside_arrival (false_check u.endian l (content_at c at) r.state)
    inside_on WalkExits h = tt
    inside_on (WalkFails v) h = tt
    inside_on WalkTurns h = tt
    inside_on WalkIsCut h = tt
    inside_on WalkBreaks h = tt

    inside : (n : ℕ) → Inside (walk_of u r x n)
    unfolding walk_of
    inside zero = (rooted.places x is, refl)
    inside (suc n) = inside_on (walk_of u r x n) (inside n)

    -- a walk that is at a place came from an earlier one
    record Came (m i : ℕ) (c : Content) : Type 0 where
      from : ℕ
      carried : Content
      was : walk_of u r x m ≡ WalkIsAt from carried
      goes : walk_on u r (WalkIsAt from carried) ≡ WalkIsAt i c

    came_by : (m i : ℕ) (c : Content) (w : Walk) → walk_of u r x m ≡ w → walk_on u r w ≡ WalkIsAt i c → Came m i c
    came_by m i c (WalkIsAt j d) e h = record { from = j; carried = d; was = e; goes = h }
    came_by m i c (WalkArrives at l d) e h = absurd (subst IsEnd h (arrival_ends (false_check u.endian l (content_at d at) r.state)))
    came_by m i c WalkExits e h = absurd (cc)
    came_by m i c (WalkFails v) e h = absurd (cc)
    came_by m i c WalkTurns e h = absurd (cc)
    came_by m i c WalkIsCut e h = absurd (cc)
    came_by m i c WalkBreaks e h = absurd (cc)

    came : (m i : ℕ) (c : Content) → walk_of u r x (suc m) ≡ WalkIsAt i c → Came m i c
    came m i c h = came_by m i c (walk_of u r x m) refl (sym (on m (walk_of u r x m) refl) ∙ h)

    came_later : (m i : ℕ) (c : Content) (v : Came m i c) → (v.from < i) × (v.from < length u.points)
    came_later m i c v =
        let at : Inside (WalkIsAt v.from v.carried) = subst Inside v.was (inside m) in
        let l : Later v.from (WalkIsAt i c) = subst (Later v.from) v.goes (one_later v.from v.carried at.0) in (l.0, at.0)

    -- places rise
    rises : (m n i j : ℕ) (c d : Content) → n < m → walk_of u r x n ≡ WalkIsAt i c → walk_of u r x m ≡ WalkIsAt j d → i < j
    rises zero n i j c d l e h = absurd (omega arith)
    rises (suc m) n i j c d l e h =
        let v = came m j d h in
        let w = came_later m j d v in
        elim (truth (nat_lt n m)) [
          | inl t ↦ (let s : i < v.from = rises m n i v.from c v.carried (grind (arith, nat_tests)) e v.was in let b = w.0 in omega arith)
          | inr t ↦ (let s : n ≡ m = grind (arith, nat_tests) in
              let q : WalkIsAt i c ≡ WalkIsAt v.from v.carried = sym e ∙ ap (walk_of u r x) s ∙ v.was in
              let z : i ≡ v.from = cc in let b = w.0 in omega arith)
        ]

    once : (m n i : ℕ) (c d : Content) → walk_of u r x n ≡ WalkIsAt i c → walk_of u r x m ≡ WalkIsAt i d → n ≡ m
    once m n i c d e h = elim (truth (nat_lt n m)) [
      | inl t ↦ (let s : i < i = rises m n i i c d (grind (arith, nat_tests)) e h in absurd (omega arith))
      | inr t ↦ elim (truth (nat_lt m n)) [
        | inl s ↦ (let z : i < i = rises n m i i d c (grind (arith, nat_tests)) h e in absurd (omega arith))
        | inr s ↦ grind (arith, nat_tests)
      ]
    ]

    -- where a walk has ended, it left a place, perhaps by an arrival
    record Left (w : Walk) : Type 0 where
      step : ℕ
      from : ℕ
      carried : Content
      was : walk_of u r x step ≡ WalkIsAt from carried
      handed : (h : Held) → hand u r (anchor_at from) (walk_on u r (WalkIsAt from carried)) h ≡ hand_end (anchor_at from) w h

    hands_end : (anchor : Anchor) (w : Walk) → IsEnd w → (h : Held) → hand u r anchor w h ≡ hand_end anchor w h
    hands_end anchor (WalkIsAt i c) e h = absurd e
    hands_end anchor (WalkArrives at l c) e h = absurd e
    hands_end anchor WalkExits e h = refl
    hands_end anchor (WalkFails v) e h = refl
    hands_end anchor WalkTurns e h = refl
    hands_end anchor WalkIsCut e h = refl
    hands_end anchor WalkBreaks e h = refl

    left_by_arrival : (m at : ℕ) (l : List Check) (c : Content) (w : Walk) → walk_of u r x (suc m) ≡ WalkArrives at l c → walk_on u r (WalkArrives at l c) ≡ w →
        (v : Walk) → walk_of u r x m ≡ v → Left w
    left_by_arrival m at l c w e g (WalkIsAt j d) q = record {
      step = m;
      from = j;
      carried = d;
      was = q;
      handed = λ h. ap (λ z. hand u r (anchor_at j) z h) (sym (on m (WalkIsAt j d) q) ∙ e) ∙ ap (λ z. hand_end (anchor_at j) z h) g;
    }
    left_by_arrival m at l c w e g (WalkArrives b k d) q =
        absurd (subst IsEnd (sym (on m (WalkArrives b k d) q) ∙ e) (arrival_ends (false_check u.endian k (content_at d b) r.state)))
    left_by_arrival m at l c w e g WalkExits q = let z = sym (on m WalkExits q) ∙ e in absurd (cc)
    left_by_arrival m at l c w e g (WalkFails v) q = let z = sym (on m (WalkFails v) q) ∙ e in absurd (cc)
    left_by_arrival m at l c w e g WalkTurns q = let z = sym (on m WalkTurns q) ∙ e in absurd (cc)
    left_by_arrival m at l c w e g WalkIsCut q = let z = sym (on m WalkIsCut q) ∙ e in absurd (cc)
    left_by_arrival m at l c w e g WalkBreaks q = let z = sym (on m WalkBreaks q) ∙ e in absurd (cc)

    left_from : (m : ℕ) (w v : Walk) → IsEnd w → (walk_of u r x m ≡ w → Left w) → walk_of u r x m ≡ v → walk_on u r v ≡ w → Left w
    left_from m w (WalkIsAt j d) e again q g = record {
      step = m;
      from = j;
      carried = d;
      was = q;
      handed = λ h. ap (λ z. hand u r (anchor_at j) z h) g ∙ hands_end (anchor_at j) w e h;
    }
    left_from zero w (WalkArrives at l c) e again q g = let z = sym begun ∙ q in absurd (cc)
    left_from (suc m) w (WalkArrives at l c) e again q g = left_by_arrival m at l c w q g (walk_of u r x m) refl
    left_from m w WalkExits e again q g = again (q ∙ g)
    left_from m w (WalkFails v) e again q g = again (q ∙ g)
    left_from m w WalkTurns e again q g = again (q ∙ g)
    left_from m w WalkIsCut e again q g = again (q ∙ g)
    left_from m w WalkBreaks e again q g = again (q ∙ g)

    left_of : (n : ℕ) (w : Walk) → IsEnd w → walk_of u r x n ≡ w → Left w
    left_of zero w e h = absurd (subst IsEnd (sym h ∙ begun) e)
    left_of (suc m) w e h = left_from m w (walk_of u r x m) e (left_of m w e) refl (sym (on m (walk_of u r x m) refl) ∙ h)

  -- a root whose invariants are true
  abbrev Begins : Root → Type 0
  Begins x = Contains u.roots x × (is_assumed u r x ≡ true)

  -- a place is met by the walk of one root alone, once
  one_root : (x y : Root) → Contains u.roots x → Contains u.roots y → (n m i : ℕ) (c d : Content) →
      walk_of u r x n ≡ WalkIsAt i c → walk_of u r y m ≡ WalkIsAt i d → y ≡ x
  one_root x y a b n m i c d e h =
      let p : Inside x a (WalkIsAt i c) = subst (Inside x a) e (inside x a n) in
      let q : Inside y b (WalkIsAt i d) = subst (Inside y b) h (inside y b m) in
      rooted.one y x b a (sym q.1 ∙ p.1)

  one_visit : (x y : Root) → Contains u.roots x → Contains u.roots y → (n m i : ℕ) (c d : Content) →
      walk_of u r x n ≡ WalkIsAt i c → walk_of u r y m ≡ WalkIsAt i d → (n ≡ m) × (c ≡ d)
  one_visit x y a b n m i c d e h =
      let same : walk_of u r x m ≡ WalkIsAt i d = ap (λ z. walk_of u r z m) (sym (one_root x y a b n m i c d e h)) ∙ h in
      let s : n ≡ m = once x a m n i c d e same in
      let q : WalkIsAt i c ≡ WalkIsAt i d = sym e ∙ ap (walk_of u r x) s ∙ same in (s, cc)

  -- what is held comes from walks
  abbrev Visited : ℕ → Content → Type 0
  Visited i c = (x : Root) × Begins x × ((n : ℕ) × (walk_of u r x n ≡ WalkIsAt i c))

  record IsSound (h : Held) : Type 0 where
    met : (i : ℕ) → h.met i ≡ true → Visited i (h.carried i)
    fails : h.fails ≡ true → SomeRoot u r is_entry HasEvent
    steps : h.steps ≡ true → SomeRoot u r is_head_anchor HasEvent
    turns : h.turns ≡ true → SomeRoot u r (λ a. true) (λ w. w ≡ WalkTurns)

  module _ (h : Held) (sound : IsSound h) (x : Root) (is : Begins x) (anchor : Anchor) (of : anchor ≡ anchor_at x.place) where
    end_sound : (n : ℕ) (w : Walk) → walk_of u r x n ≡ w → (a : Anchor) → anchor ≡ a → IsSound (hand_end a w h)
    end_sound n (WalkFails e) q AtEntry b = record {
      met = sound.met;
      fails = λ t. (x, is.0, ap is_entry (sym of ∙ b), is.1, (n, (e, q)));
      steps = sound.steps;
      turns = sound.turns;
    }
    end_sound n (WalkFails e) q (AtHead s a) b = record {
      met = sound.met;
      fails = sound.fails;
      steps = λ t. (x, is.0, ap is_head_anchor (sym of ∙ b), is.1, (n, (e, q)));
      turns = sound.turns;
    }
    end_sound n WalkTurns q AtEntry b = record { met = sound.met; fails = sound.fails; steps = sound.steps; turns = λ t. (x, is.0, refl, is.1, (n, q)) }
    end_sound n WalkTurns q (AtHead s a) b = record { met = sound.met; fails = sound.fails; steps = sound.steps; turns = λ t. (x, is.0, refl, is.1, (n, q)) }
    end_sound n (WalkIsAt i c) q AtEntry b = sound
    end_sound n (WalkIsAt i c) q (AtHead s a) b = sound
    end_sound n (WalkArrives at l c) q AtEntry b = sound
    end_sound n (WalkArrives at l c) q (AtHead s a) b = sound
    end_sound n WalkExits q AtEntry b = sound
    end_sound n WalkExits q (AtHead s a) b = sound
    end_sound n WalkIsCut q AtEntry b = sound
    end_sound n WalkIsCut q (AtHead s a) b = sound
    end_sound n WalkBreaks q AtEntry b = sound
    end_sound n WalkBreaks q (AtHead s a) b = sound

    visit_by : (n i j : ℕ) (c : Content) (b : Bool) → (i == j) ≡ b → walk_of u r x n ≡ WalkIsAt j c → (b || h.met i) ≡ true →
        Visited i (content_if b c (h.carried i))
    visit_by n i j c true e q t = (x, is, (n, q ∙ ap (λ z. WalkIsAt z c) (sym (same_number i j e))))
    visit_by n i j c false e q t = sound.met i t

    hand_sound : (n : ℕ) (w : Walk) → walk_of u r x n ≡ w → IsSound (hand u r anchor w h)
    hand_sound n (WalkIsAt j c) q = record {
      met = λ i t. visit_by n i j c (i == j) refl q t;
      fails = sound.fails;
      steps = sound.steps;
      turns = sound.turns;
    }
    hand_sound n (WalkArrives at l c) q =
        end_sound (suc n) (walk_on u r (WalkArrives at l c)) (on x is.0 n (WalkArrives at l c) q) anchor refl
    hand_sound n WalkExits q = end_sound n WalkExits q anchor refl
    hand_sound n (WalkFails e) q = end_sound n (WalkFails e) q anchor refl
    hand_sound n WalkTurns q = end_sound n WalkTurns q anchor refl
    hand_sound n WalkIsCut q = end_sound n WalkIsCut q anchor refl
    hand_sound n WalkBreaks q = end_sound n WalkBreaks q anchor refl

  more_sound : (t : ℕ) (h : Held) (b : Bool) → h.met t ≡ b → IsSound h →
      IsSound (held_if b (hand u r (anchor_at t) (walk_on u r (WalkIsAt t (h.carried t))) h) h)
  more_sound t h false e s = s
  more_sound t h true e s =
      let v = s.met t e in
      let x = v.0 in
      let at : Inside x v.1.0 (WalkIsAt t (h.carried t)) = subst (Inside x v.1.0) v.2.1 (inside x v.1.0 v.2.0) in
      hand_sound h s x v.1 (anchor_at t) at.1 (suc v.2.0) (walk_on u r (WalkIsAt t (h.carried t))) (on x v.1.0 v.2.0 (WalkIsAt t (h.carried t)) v.2.1)

  begun_by : (i : ℕ) → is_begun u r i ≡ true → Visited i (root_content r (anchor_at i))
  begun_by i t =
      let q = any_is (λ x. (x.place == i) && is_assumed u r x) u.roots t in
      let b = and_both (q.0.place == i) (is_assumed u r q.0) q.2 in
      let e : q.0.place ≡ i = same_number q.0.place i b.0 in
      (q.0, (q.1, b.1), (0, begun q.0 q.1 ∙ ap (λ z. WalkIsAt z (root_content r (anchor_at z))) e))

  sound : (t : ℕ) → IsSound (held u r t)
  unfolding held
  sound zero = record {
    met = begun_by;
    fails = λ e. absurd (cc);
    steps = λ e. absurd (cc);
    turns = λ e. absurd (cc);
  }
  sound (suc t) = more_sound t (held u r t) ((held u r t).met t) refl (sound t)

  -- what is held grows
  hand_grows : (anchor : Anchor) (w : Walk) (h : Held) → Grows h (hand u r anchor w h)
  hand_grows anchor (WalkIsAt j c) h = record {
    met = λ i t. ap (λ z. (i == j) || z) t ∙ or_right (i == j);
    fails = λ t. t;
    steps = λ t. t;
    turns = λ t. t;
  }
  hand_grows anchor (WalkArrives at l c) h = end_grows anchor (walk_on u r (WalkArrives at l c)) h
  hand_grows anchor WalkExits h = end_grows anchor WalkExits h
  hand_grows anchor (WalkFails e) h = end_grows anchor (WalkFails e) h
  hand_grows anchor WalkTurns h = end_grows anchor WalkTurns h
  hand_grows anchor WalkIsCut h = end_grows anchor WalkIsCut h
  hand_grows anchor WalkBreaks h = end_grows anchor WalkBreaks h

  more_grows : (t : ℕ) (h : Held) (b : Bool) → Grows h (held_if b (hand u r (anchor_at t) (walk_on u r (WalkIsAt t (h.carried t))) h) h)
  more_grows t h false = same_grows h
  more_grows t h true = hand_grows (anchor_at t) (walk_on u r (WalkIsAt t (h.carried t))) h

  grows : (t m : ℕ) → t ≤ m → Grows (held u r t) (held u r m)
  unfolding held
  grows t zero l = let e : t ≡ 0 = omega arith in subst (λ z. Grows (held u r z) (held u r 0)) (sym e) (same_grows (held u r 0))
  grows t (suc m) l = elim (truth (nat_lt m t)) [
    | inl b ↦ (let e : suc m ≡ t = grind (arith, nat_tests) in subst (λ z. Grows (held u r z) (held u r (suc m))) e (same_grows (held u r (suc m))))
    | inr b ↦ (let g = grows t m (grind (arith, nat_tests)) in
        let k = more_grows m (held u r m) ((held u r m).met m) in
        record {
          met = λ i e. k.met i (g.met i e);
          fails = λ e. k.fails (g.fails e);
          steps = λ e. k.steps (g.steps e);
          turns = λ e. k.turns (g.turns e);
        })
  ]

  -- what walks come to is held
  module _ (x : Root) (is : Begins x) where
    -- what is held behind a place that the walk is at
    handed : (n j : ℕ) (d : Content) → walk_of u r x n ≡ WalkIsAt j d → (held u r j).met j ≡ true →
        held u r (suc j) ≡ hand u r (anchor_at j) (walk_on u r (WalkIsAt j d)) (held u r j)
    unfolding held
    handed n j d e m =
        let v = (sound j).met j m in
        let same : (held u r j).carried j ≡ d = sym ((one_visit x v.0 is.0 v.1.0 n v.2.0 j d ((held u r j).carried j) e v.2.1).1) in
        ap (λ b. held_if b (hand u r (anchor_at j) (walk_on u r (WalkIsAt j ((held u r j).carried j))) (held u r j)) (held u r j)) m
        ∙ ap (λ z. hand u r (anchor_at j) (walk_on u r (WalkIsAt j z)) (held u r j)) same

    begun_met : (held u r 0).met x.place ≡ true
    unfolding held
    begun_met = any_of (λ y. (y.place == x.place) && is_assumed u r y) u.roots x is.0 (ap (λ z. z && is_assumed u r x) (same_eq x.place) ∙ is.1)

    is_met : (n i : ℕ) (c : Content) → walk_of u r x n ≡ WalkIsAt i c → (held u r i).met i ≡ true
    is_met zero i c e =
        let q : WalkIsAt x.place (root_content r (anchor_at x.place)) ≡ WalkIsAt i c = sym (begun x is.0) ∙ e in
        let s : x.place ≡ i = cc in
        subst (λ z. (held u r z).met z ≡ true) s ((grows 0 x.place (omega arith)).met x.place begun_met)
    is_met (suc m) i c e =
        let v = came x is.0 m i c e in
        let l = (came_later x is.0 m i c v).0 in
        let met_before : (held u r v.from).met v.from ≡ true = is_met m v.from v.carried v.was in
        let behind : (held u r (suc v.from)).met i ≡ true =
        ap (λ z. z.met i) (handed m v.from v.carried v.was met_before)
        ∙ ap (λ z. (hand u r (anchor_at v.from) z (held u r v.from)).met i) v.goes ∙ ap (λ z. z || (held u r v.from).met i) (same_eq i) in
        (grows (suc v.from) i (omega arith)).met i behind

    -- an end is noted
    noted : (w : Walk) (n : ℕ) → IsEnd w → walk_of u r x n ≡ w → (h : Held) × (t : ℕ) × (t ≤ length u.points) × (held u r t ≡ hand_end (anchor_at x.place) w h)
    noted w n e q =
        let v = left_of x is.0 n w e q in
        let at : Inside x is.0 (WalkIsAt v.from v.carried) = subst (Inside x is.0) v.was (inside x is.0 v.step) in
        let l = at.0 in (
          held u r v.from,
          suc v.from,
          omega arith,
          handed v.step v.from v.carried v.was (is_met v.step v.from v.carried v.was) ∙ v.handed (held u r v.from)
              ∙ ap (λ z. hand_end z w (held u r v.from)) at.1,
        )

    fails_noted : (e : FrameEvent) (n : ℕ) → walk_of u r x n ≡ WalkFails e → is_entry (anchor_at x.place) ≡ true → (swept u r).fails ≡ true
    fails_noted e n q t =
        let v = noted (WalkFails e) n tt q in
        (grows v.1 (length u.points) v.2).fails (ap (λ z. z.fails) v.3 ∙ by (anchor_at x.place) v.0 t)
      where
        by : (a : Anchor) (h : Held) → is_entry a ≡ true → (hand_end a (WalkFails e) h).fails ≡ true
        by AtEntry h t = refl
        by (AtHead s a) h t = absurd (cc)

    steps_noted : (e : FrameEvent) (n : ℕ) → walk_of u r x n ≡ WalkFails e → is_head_anchor (anchor_at x.place) ≡ true → (swept u r).steps ≡ true
    steps_noted e n q t =
        let v = noted (WalkFails e) n tt q in
        (grows v.1 (length u.points) v.2).steps (ap (λ z. z.steps) v.3 ∙ by (anchor_at x.place) v.0 t)
      where
        by : (a : Anchor) (h : Held) → is_head_anchor a ≡ true → (hand_end a (WalkFails e) h).steps ≡ true
        by AtEntry h t = absurd (cc)
        by (AtHead s a) h t = refl

    turns_noted : (n : ℕ) → walk_of u r x n ≡ WalkTurns → (swept u r).turns ≡ true
    turns_noted n q =
        let v = noted WalkTurns n tt q in
        (grows v.1 (length u.points) v.2).turns (ap (λ z. z.turns) v.3 ∙ by (anchor_at x.place) v.0)
      where
        by : (a : Anchor) (h : Held) → (hand_end a WalkTurns h).turns ≡ true
        by AtEntry h = refl
        by (AtHead s a) h = refl

    -- how many places of the anchor are met before
    abbrev counted : ℕ → Bool
    counted j = (swept u r).met j && same_anchor (anchor_at j) (anchor_at x.place)

    abbrev count : ℕ → ℕ
    count i = met_of u (swept u r) (anchor_at x.place) i

    no_more : (b a : ℕ) → a ≤ b → ((j : ℕ) → a ≤ j → j < b → counted j ≡ false) → count b ≡ count a
    no_more zero a l f = let e : a ≡ 0 = omega arith in ap count (sym e)
    no_more (suc b) a l f = elim (truth (nat_lt b a)) [
      | inl t ↦ (let e : suc b ≡ a = grind (arith, nat_tests) in ap count e)
      | inr t ↦ (let le : a ≤ b = grind (arith, nat_tests) in
          ap (λ z. if z then count b + 1 else count b) (f b le (omega arith)) ∙ no_more b a le (λ j p q. f j p (omega arith)))
    ]

    -- the walk is at each place that counts
    at_counted : (j : ℕ) → counted j ≡ true → (n : ℕ) × ((c : Content) × (walk_of u r x n ≡ WalkIsAt j c))
    at_counted j t =
        let b = and_both ((swept u r).met j) (same_anchor (anchor_at j) (anchor_at x.place)) t in
        let v = (sound (length u.points)).met j b.0 in
        let at : Inside v.0 v.1.0 (WalkIsAt j ((swept u r).carried j)) = subst (Inside v.0 v.1.0) v.2.1 (inside v.0 v.1.0 v.2.0) in
        let same : v.0 ≡ x = rooted.one v.0 x v.1.0 is.0 (sym at.1 ∙ same_anchor_is (anchor_at j) (anchor_at x.place) b.1) in
        (v.2.0, ((swept u r).carried j, ap (λ z. walk_of u r z v.2.0) (sym same) ∙ v.2.1))

    not_counted : (j : ℕ) → (counted j ≡ true → ⊥) → counted j ≡ false
    not_counted j f = elim (truth (counted j)) [ inl t ↦ absurd (f t) | inr t ↦ t ]

    is_counted : (n i : ℕ) (c : Content) → walk_of u r x n ≡ WalkIsAt i c → counted i ≡ true
    is_counted n i c e =
        let at : Inside x is.0 (WalkIsAt i c) = subst (Inside x is.0) e (inside x is.0 n) in
        let l = at.0 in
        ap (λ z. z && same_anchor (anchor_at i) (anchor_at x.place)) ((grows i (length u.points) (omega arith)).met i (is_met n i c e))
        ∙ ap (λ z. same_anchor z (anchor_at x.place)) at.1 ∙ same_anchor_self (anchor_at x.place)

    -- between a place and the next nothing counts
    none_between : (m j i : ℕ) (d c : Content) → walk_of u r x m ≡ WalkIsAt j d → walk_of u r x (suc m) ≡ WalkIsAt i c → (b : ℕ) → j < b → b < i →
        counted b ≡ true → ⊥
    none_between m j i d c e h b l g t =
        let v = at_counted b t in
        elim (truth (nat_lt v.0 (suc m))) [
          | inl s ↦ elim (truth (nat_lt v.0 m)) [
            | inl z ↦ (let y : b < j = rises x is.0 m v.0 b j v.1.0 d (grind (arith, nat_tests)) v.1.1 e in absurd (omega arith))
            | inr z ↦ (let y : v.0 ≡ m = grind (arith, nat_tests) in
                let k : WalkIsAt b v.1.0 ≡ WalkIsAt j d = sym v.1.1 ∙ ap (walk_of u r x) y ∙ e in let w : b ≡ j = cc in absurd (omega arith))
          ]
          | inr s ↦ elim (truth (nat_lt (suc m) v.0)) [
            | inl z ↦ (let y : i < b = rises x is.0 v.0 (suc m) i b c v.1.0 (grind (arith, nat_tests)) h v.1.1 in absurd (omega arith))
            | inr z ↦ (let y : v.0 ≡ suc m = grind (arith, nat_tests) in
                let k : WalkIsAt b v.1.0 ≡ WalkIsAt i c = sym v.1.1 ∙ ap (walk_of u r x) y ∙ h in let w : b ≡ i = cc in absurd (omega arith))
          ]
        ]

    none_before : (b : ℕ) → b < x.place → counted b ≡ true → ⊥
    none_before b l t =
        let v = at_counted b t in
        elim (truth (v.0 == 0)) [
          | inl z ↦ (let y : v.0 ≡ 0 = grind (arith, nat_tests) in
              let k : WalkIsAt b v.1.0 ≡ WalkIsAt x.place (root_content r (anchor_at x.place)) = sym v.1.1 ∙ ap (walk_of u r x) y ∙ begun x is.0 in
              let w : b ≡ x.place = cc in absurd (omega arith))
          | inr z ↦ (let y : x.place < b =
              rises x is.0 v.0 0 x.place b (root_content r (anchor_at x.place)) v.1.0 (grind (arith, nat_tests)) (begun x is.0) v.1.1 in absurd (omega arith))
        ]

    counts : (n i : ℕ) (c : Content) → walk_of u r x n ≡ WalkIsAt i c → count i ≡ n
    counts zero i c e =
        let q : WalkIsAt x.place (root_content r (anchor_at x.place)) ≡ WalkIsAt i c = sym (begun x is.0) ∙ e in
        let s : x.place ≡ i = cc in
        ap count (sym s) ∙ no_more x.place 0 (omega arith) (λ j p q. not_counted j (none_before j q))
    counts (suc m) i c e =
        let v = came x is.0 m i c e in
        let l = (came_later x is.0 m i c v).0 in
        let one : count (suc v.from) ≡ count v.from + 1 = ap (λ z. if z then count v.from + 1 else count v.from) (is_counted m v.from v.carried v.was) in
        no_more i (suc v.from) (omega arith) (λ j p q. not_counted j (none_between m v.from i v.carried c v.was e j (omega arith) q))
        ∙ one ∙ ap (λ z. z + 1) (counts m v.from v.carried v.was) ∙ (let y : m + 1 ≡ suc m = omega arith in y)

    holds : (n i : ℕ) (c : Content) → walk_of u r x n ≡ WalkIsAt i c →
        (i < length u.points) × (anchor_at i ≡ anchor_at x.place) × ((swept u r).met i ≡ true) × ((swept u r).carried i ≡ c) × (count i ≡ n)
    holds n i c e =
        let at : Inside x is.0 (WalkIsAt i c) = subst (Inside x is.0) e (inside x is.0 n) in
        let l = at.0 in
        let met : (swept u r).met i ≡ true = (grows i (length u.points) (omega arith)).met i (is_met n i c e) in
        let v = (sound (length u.points)).met i met in
        let same : c ≡ (swept u r).carried i = (one_visit x v.0 is.0 v.1.0 n v.2.0 i c ((swept u r).carried i) e v.2.1).1 in
        (at.0, at.1, met, sym same, counts n i c e)

    met_at : (n i : ℕ) (c : Content) →
        (i < length u.points) × (anchor_at i ≡ anchor_at x.place) × ((swept u r).met i ≡ true) × ((swept u r).carried i ≡ c) × (count i ≡ n) →
        walk_of u r x n ≡ WalkIsAt i c
    met_at n i c h =
        let v = (sound (length u.points)).met i h.2 in
        let at : Inside v.0 v.1.0 (WalkIsAt i ((swept u r).carried i)) = subst (Inside v.0 v.1.0) v.2.1 (inside v.0 v.1.0 v.2.0) in
        let same : v.0 ≡ x = rooted.one v.0 x v.1.0 is.0 (sym at.1 ∙ h.1) in
        let here_too : walk_of u r x v.2.0 ≡ WalkIsAt i ((swept u r).carried i) = ap (λ z. walk_of u r z v.2.0) (sym same) ∙ v.2.1 in
        let when : n ≡ v.2.0 = sym h.4 ∙ counts v.2.0 i ((swept u r).carried i) here_too in
        ap (walk_of u r x) when ∙ here_too ∙ ap (WalkIsAt i) h.3

pub sweep_is_walks : SweepIsWalks
sweep_is_walks u rooted r = (
  (
    (sound u rooted r (length u.points)).fails,
    (λ s. fails_noted u rooted r s.0 (s.1, s.3) s.4.1.0 s.4.0 s.4.1.1 s.2),
  ),
  (
    (sound u rooted r (length u.points)).steps,
    (λ s. steps_noted u rooted r s.0 (s.1, s.3) s.4.1.0 s.4.0 s.4.1.1 s.2),
  ),
  (
    (sound u rooted r (length u.points)).turns,
    (λ s. turns_noted u rooted r s.0 (s.1, s.3) s.4.0 s.4.1),
  ),
  (λ x c a n i d. (holds u rooted r x (c, a) n i d, met_at u rooted r x (c, a) n i d)),
)
