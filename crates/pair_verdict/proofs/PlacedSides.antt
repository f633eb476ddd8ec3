-- The unrolled program of a side with its exit as a place, and the terms at the exit.
use Rattle.std.proofs.Common.{◌≡◌, refl, sym, ap, subst, ◌∙◌, ℕ, ◌+◌, ◌≤◌, ◌^◌, Bool, true, false, List, arith, get_or}
use Rattle.std.specs.Prelude.{length}
use Rattle.std.proofs.lemmas.List.{length-append, length-map}
use Rattle.call_spec.specs.Calls.{Budget}
use Rattle.known_bytes.specs.Runs.{AreRuns}
use Rattle.machine_spec.specs.StateText as texts
use Rattle.links_lang.specs.Views.{AreLinksOf, IsLinkOf, IsOfForm, links_of}
use Rattle.links_lang.specs.declared.links.Link as declared
use Rattle.links_lang.specs.declared.links.Link.TheVariants.{Entry, Exit, Share, Same}
use Rattle.links_lang.specs.declared.links.Named.{Named}
use Rattle.links_lang.specs.declared.links.Named.TheVariants.{Zero, Register, Flag}
use Rattle.notes_lang.specs.Parsing.{layout_flags, layout_registers}
use Rattle.pair_sides.specs.Sides.{program_of_side}
use Rattle.pair_sides.specs.declared.sides.Sided.{Sided}
use Rattle.pair_spec.specs.Links.{Link, asking}
use Rattle.pair_spec.specs.PairTerms.{with_exit_place}
use Rattle.pair_spec.proofs.ExitInputs.{exit_is_own}
use Rattle.pair_spec.proofs.ExitPlaces.{exit_place_walks}
use Rattle.pair_terms.specs.Sides.{AreExitTerms, IsPlacedAs}
use Rattle.pair_terms.specs.Words.{AreLinksOfSide}
use Rattle.pair_terms.specs.declared.exits.ExitTerms.{ExitTerms}
use Rattle.pair_terms.proofs.ByLink.{unrolling_leaves_by_link}
use Rattle.passify.specs.Made.{IsPassiveOf}
use Rattle.question_form.specs.Forms.{IsFormed, AreRootsFormed}
use Rattle.question_form.specs.FrameViews.{IsHeadless}
use Rattle.question_form.specs.Views.{unrolled_of}
use Rattle.question_form.specs.declared.questions.Passive.{Passive}
use Rattle.question_form.specs.declared.unrolled.Unrolled.{Unrolled}
use Rattle.start_value.specs.Starts.{layout_of}
use Rattle.start_value.specs.declared.layout.Layout.{Layout}
use Rattle.start_value.specs.declared.layout.Layout.TheVariants.{Rv32, Arm}
use Rattle.verdict.specs.Measures.{IsUnrolledOf}
use Rattle.verdict.specs.Rounds.{HasBytes}
use Rattle.verdict.proofs.Grounding.{count_points, decidable}
use Rattle.walk_spec.specs.Unrolled.{UnrolledProgram}
use Rattle.walk_spec.specs.Unrolling.{IsWalkable}
use Rattle.pair_verdict.specs.PairRounds.{IsReady}
use Rattle.pair_verdict.specs.Settled.{IsPlaced}

-- one more place
more_points : (u : UnrolledProgram) → length (with_exit_place u).points ≡ length u.points + 1
more_points u = simp (length-append, length-map)

module _ (s : Sided) (second : Bool) (links : List Link) (b : Budget) (most : b.points ≤ 16777216) (u v : Unrolled)
    (is : IsUnrolledOf (asking second links (program_of_side s)) (layout_of s.layout) b u) (form : layout_of u.form ≡ layout_of s.layout)
    (placed : unrolled_of v ≡ with_exit_place (unrolled_of u)) (formed : IsFormed v) (same_form : v.form ≡ u.form) (known : v.known ≡ u.known)
    (headless : IsHeadless v) (roots : AreRootsFormed v) where
  counted : length v.points.items ≡ length (unrolled_of u).points + 1
  counted =
      sym (count_points v v.points.items) ∙ ap (λ (z : UnrolledProgram). length z.points) placed ∙ more_points (unrolled_of u)

  pub is_placed : IsPlaced s second links b.unroll v
  is_placed = record {
    asked = unrolled_of u;
    placed = record {
      is = placed;
      some = is.measurable.walkable.some;
      later = is.measurable.walkable.later;
      by_link = unrolling_leaves_by_link (asking second links (program_of_side s)) b.unroll (unrolled_of u) is.ground.unrolling;
    };
    ground = is.ground;
    measurable = record {
      walkable = subst IsWalkable (sym placed) (exit_place_walks (unrolled_of u) is.measurable.walkable);
      formed = formed;
      headless = headless;
      roots = roots;
      bytes = subst HasBytes (sym placed) is.measurable.bytes;
      runs = subst (λ k. AreRuns k.items) (sym known) is.measurable.runs;
    };
    form = ap layout_of same_form ∙ form;
    more = let some = is.measurable.walkable.some in let count = counted in omega (arith, some, count);
    few = let few = is.few in let count = counted in omega (arith, few, most, count);
  }

-- ---- links of forms that are laid out alike

zero_one : (m n : ℕ) → m ≡ 0 → n ≡ 1 → m ≡ n → ⊥
zero_one m n a b e = absurd (omega (arith, a, b, e))

registers_alike : (f g : Layout) → layout_of f ≡ layout_of g → layout_registers f ≡ layout_registers g
registers_alike (Rv32 a) (Rv32 b) e = refl
registers_alike (Arm a p) (Arm b q) e = refl
registers_alike (Rv32 a) (Arm b q) e = absurd (zero_one _ _ refl refl (sym (ap (λ (l : texts.Layout). l.first) e)))
registers_alike (Arm a p) (Rv32 b) e = absurd (zero_one _ _ refl refl (ap (λ (l : texts.Layout). l.first) e))

flags_alike : (f g : Layout) → layout_of f ≡ layout_of g → layout_flags f ≡ layout_flags g
flags_alike (Rv32 a) (Rv32 b) e = refl
flags_alike (Arm a p) (Arm b q) e = refl
flags_alike (Rv32 a) (Arm b q) e = absurd (zero_one _ _ refl refl (sym (ap (λ (l : texts.Layout). l.first) e)))
flags_alike (Arm a p) (Rv32 b) e = absurd (zero_one _ _ refl refl (ap (λ (l : texts.Layout). l.first) e))

named_alike : (f g : Layout) → layout_of f ≡ layout_of g → (x : Named) → IsOfForm f x → IsOfForm g x
named_alike f g e Zero h = tt
named_alike f g e (Register r) h = ap (λ t. t r) (sym (registers_alike f g e)) ∙ h
named_alike f g e (Flag n) h = ap (λ t. t n) (sym (flags_alike f g e)) ∙ h

first_link : (f g other : Layout) → layout_of f ≡ layout_of g → (l : declared.Link) → IsLinkOf f other l → IsLinkOf g other l
first_link f g other e (Entry line x y) h = (named_alike f g e x h.0, h.1, h.2)
first_link f g other e (Exit line x y) h = (named_alike f g e x h.0, h.1, h.2)
first_link f g other e (Share line low high) h = h
first_link f g other e (Same line low high) h = h

second_link : (f g other : Layout) → layout_of f ≡ layout_of g → (l : declared.Link) → IsLinkOf other f l → IsLinkOf other g l
second_link f g other e (Entry line x y) h = (h.0, named_alike f g e y h.1, h.2)
second_link f g other e (Exit line x y) h = (h.0, named_alike f g e y h.1, h.2)
second_link f g other e (Share line low high) h = h
second_link f g other e (Same line low high) h = h

pub first_links : (f g other : Layout) → layout_of g ≡ layout_of f → (links : List declared.Link) → AreLinksOf f other links → AreLinksOfSide false g links
first_links f g other e links h = (other, λ k d l. first_link f g other (sym e) (get_or links k d) (h k d l))

pub second_links : (f g other : Layout) → layout_of g ≡ layout_of f → (links : List declared.Link) → AreLinksOf other f links → AreLinksOfSide true g links
second_links f g other e links h = (other, λ k d l. second_link f g other (sym e) (get_or links k d) (h k d l))

-- the terms at the exit of a placed side, with a passive program of it
module _ (s : Sided) (second : Bool) (links : List declared.Link) (k : ℕ) (v : Unrolled) (h : IsPlaced s second (links_of links) k v) (e : ExitTerms)
    (q : Passive) (of : e.passive.unrolled.now ≡ v) (terms : AreExitTerms second (links_of links) e) (passive : IsPassiveOf v q)
    (linked : AreLinksOfSide second v.form links) where
  pub is_ready : k ≤ 4096 → IsReady second links e q
  is_ready few = record {
    same = ap unrolled_of (of ∙ sym passive.of);
    decidable = decidable v q h.measurable passive;
    headless = subst IsHeadless (sym of) h.measurable.headless;
    few = subst (λ (z : Unrolled). length z.points.items ≤ 2 ^ 28) (sym of) h.few;
    links_are = subst (λ (z : Unrolled). AreLinksOfSide second z.form links) (sym of) linked;
    terms = terms;
    some = (
      h.asked,
      subst (λ (z : Unrolled). IsPlacedAs h.asked (unrolled_of z)) (sym of) h.placed,
      exit_is_own (asking second (links_of links) (program_of_side s)) k h.asked h.ground.unrolling (omega (arith, few)),
    );
  }

  pub still_placed : IsPlaced s second (links_of links) k e.passive.unrolled.now
  still_placed = subst (λ (z : Unrolled). IsPlaced s second (links_of links) k z) (sym of) h
