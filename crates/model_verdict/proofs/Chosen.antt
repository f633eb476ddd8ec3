-- The choices of places that are met are those of the reading's run.
use Rattle.std.proofs.Common.{◌≡◌, inl, inr, ◌⊎◌, ℕ, zero, suc, ◌+◌, ◌%◌, ◌<◌, ◌≤◌, Bool, true, false, List, [], ◌∷◌, length, map, get_or, refl, ap, sym, ◌∙◌, subst, arith}
use Rattle.std.specs.Prelude.{◌==◌, Contains, slice_index, slice_index_or, if◌then◌else◌}
use Rattle.std.proofs.lemmas.Bool.{cases_lt}
use Rattle.word_spec.specs.Words.{bit}
use Rattle.word_spec.specs.Memory.{byte_in}
use Rattle.call_spec.specs.Calls.{Question}
use Rattle.machine_spec.specs.StateText.{Layout}
use Rattle.bilv_spec.specs.Run.{Program, Place, Going}
use Rattle.bilv_spec.specs.Points.{Point, file_row}
use Rattle.bilv_spec.specs.Questions.{Reading, IsTrue, point_of, read_run}
use Rattle.bilv_spec.specs.Scripts.{draws}
use Rattle.model_spec.specs.Models.{DrawsAt}
use Rattle.term_spec.specs.Terms.{TermReading}
use Rattle.walk_spec.specs.Unrolled.{UnrolledProgram, point_at}
use Rattle.term_spec.specs.Passive as walk
use Rattle.term_spec.specs.Passive.{IsPassive}
use Rattle.walk_spec.specs.Sweep.{met_below, swept}
use Rattle.term_dag.specs.declared.nodes.Term.{Term}
use Rattle.term_dag.specs.declared.values.Reading as terms
use Rattle.term_dag.specs.Readings.{AreWords, reading_of}
use Rattle.bit_blast.specs.Steps.{AreChoices, count_met, is_met_by}
use Rattle.bit_blast.proofs.StepChoices.{counts_same}
use Rattle.bit_blast.proofs.StartInputs.{choices_as, count_few, mapped_get, met_count, met_within}
use Rattle.question_form.specs.Questions.{passive_of}
use Rattle.question_form.specs.Views.{unrolled_of}
use Rattle.question_form.specs.declared.questions.Passive.{Passive}
use Rattle.smtlib_print.proofs.Programs.{place_draws}
use Rattle.verdict.specs.Grounds.{IsGround}
use Rattle.verdict.specs.Rounds.{IsAskable}
use Rattle.model_verdict.specs.Readings.{StandsFor}
use Rattle.model_verdict.specs.Runs.{AreRunChoices}
use Rattle.model_verdict.specs.Shown.{AreChoicesOf}
use Rattle.model_verdict.proofs.Agreeing.{word_is}
use Rattle.model_verdict.proofs.Bytes.{rising_at}
use Rattle.model_verdict.proofs.Steps.{met_at, run_at}

bit_one : (b : Bool) → (bit b == 1) ≡ b
bit_one true = refl
bit_one false = refl

-- so many places are met, so there is one with any smaller number below it
pub nth_met : (met : ℕ → Bool) (n s : ℕ) → s < count_met met n → (j : ℕ) × (j < n) × (met j ≡ true) × (count_met met j ≡ s)
nth_met met zero s l = absurd (omega arith)
nth_met met (suc n) s l = by (met n) refl l (λ m. nth_met met n s m)
  where
    by : (b : Bool) → met n ≡ b → s < (if b then count_met met n + 1 else count_met met n) →
        (s < count_met met n → (j : ℕ) × (j < n) × (met j ≡ true) × (count_met met j ≡ s)) → (j : ℕ) × (j < suc n) × (met j ≡ true) × (count_met met j ≡ s)
    by true e m earlier = elim (cases_lt s (count_met met n)) [
      | inl a ↦ (let q = earlier a in (q.0, omega (arith, q.1), q.2, q.3))
      | inr a ↦ (n, omega arith, e, omega (arith, m, a))
    ]
    by false e m earlier = let q = earlier m in (q.0, omega (arith, q.1), q.2, q.3)

taken : (b : Bool) (n c : ℕ) → c ≡ (if b then n else 0) → 1 ≤ c → (b ≡ true) × (c ≡ n)
taken true n c e l = (refl, e)
taken false n c e l = absurd (omega (arith, e, l))

given : (b : Bool) (n c : ℕ) → c ≡ (if b then n else 0) → b ≡ true → c ≡ n
given true n c e h = e
given false n c e h = absurd (cc)

module _ (u : UnrolledProgram) (y : TermReading) (r : Reading) (stands : StandsFor u y r) (p : Program) (k : ℕ) (layout : Layout)
    (ground : IsGround p k layout u) (question : Question) (is_true : IsTrue p k r question) where
  draws_is : (i : ℕ) → i < length u.points → draws (file_row p (point_at u i).point.at) ≡ (point_at u i).draws
  draws_is i l = place_draws p k u ground.unrolling i l

  -- no choice is listed, where all are 0
  pub none_chosen : ((i : ℕ) → i < length u.points → y.choice i ≡ 0) → AreRunChoices p k r []
  none_chosen zeros = record {
    within = λ i d l. absurd (omega (arith, l));
    rise = λ i j d l m. absurd (omega (arith, m));
    each = λ n turns d e drawn.
        (let at = met_at p k layout u ground question r is_true n turns n d e in
        let b : (point_at u at.place).draws ≡ true = sym (draws_is at.place at.within) ∙ ap (λ (z : Point). draws (file_row p z.at)) at.point ∙ drawn in
        given ((point_at u at.place).draws) (r.choice (point_at u at.place).point) 0 (sym (zeros at.place at.within) ∙ stands.choice at.place at.within) b
        ∙ ap r.choice at.point);
    only = λ i c h. absurd (omega (arith, h.1));
  }

module _ (u : UnrolledProgram) (q : walk.Passive) (passive : IsPassive u q) (y : TermReading) (ws : List ℕ) (words : AreWords y q.nodes ws) (r : Reading)
    (stands : StandsFor u y r) where
  -- the words tell which places are met
  met_is : (i : ℕ) → i < length u.points → (slice_index ws (slice_index q.met i) == 1) ≡ (swept u r).met i
  met_is i l =
      let t = slice_index q.met i in
      let w = words.each t (passive.bits i l).0 ∙ word_is u y r stands (record { nodes = q.nodes; root = t }) passive.terms.named t (passive.bits i l).0 in
      ap (λ n. n == 1) (w ∙ passive.mets r stands.reading stands.pc i l) ∙ bit_one ((swept u r).met i)

  module _ (p : Program) (k : ℕ) (layout : Layout) (ground : IsGround p k layout u) (question : Question) (is_true : IsTrue p k r question) where
    drawn_is : (i : ℕ) → i < length u.points → draws (file_row p (point_at u i).point.at) ≡ (point_at u i).draws
    drawn_is i l = place_draws p k u ground.unrolling i l

    module _ (choice : ℕ → ℕ) (same : (i : ℕ) → i < length u.points → choice i ≡ y.choice i) (steps : ℕ) (xs : List (ℕ × ℕ))
        (chosen : AreChoices (λ i. slice_index ws (slice_index q.met i) == 1) choice (length u.points) steps xs) where
      abbrev met : ℕ → Bool
      met i = slice_index ws (slice_index q.met i) == 1

      count_is : (i : ℕ) → i < length u.points → count_met met i ≡ met_below (swept u r) i
      count_is i l = counts_same (swept u r) met i (λ j m. met_is j (omega (arith, l, m)))

      choice_is : (i : ℕ) → i < length u.points → choice i ≡ (if (point_at u i).draws then r.choice (point_at u i).point else 0)
      choice_is i l = same i l ∙ stands.choice i l

      each : (n turns : ℕ) (d : Place) → read_run p k r n ≡ Going turns n d → draws (file_row p d.state.pc) ≡ true → byte_in xs n ≡ r.choice (point_of turns d)
      each n turns d e drawn =
          let at = met_at p k layout u ground question r is_true n turns n d e in
          let b : (point_at u at.place).draws ≡ true = sym (drawn_is at.place at.within) ∙ ap (λ (z : Point). draws (file_row p z.at)) at.point ∙ drawn in
          ap (byte_in xs) (sym (count_is at.place at.within ∙ at.below)) ∙ chosen.gives at.place at.within (met_is at.place at.within ∙ at.met)
          ∙ given ((point_at u at.place).draws) (r.choice (point_at u at.place).point) (choice at.place) (choice_is at.place at.within) b
          ∙ ap r.choice at.point

      only : (i c : ℕ) → Contains xs (i, c) → DrawsAt p k r i c
      only i c h =
          let in_list = chosen.within h.0 (i, c) h.1 in
          let is : get_or xs h.0 (i, c) ≡ (i, c) = h.2 in
          let first : i ≡ (get_or xs h.0 (i, c)).0 = ap (λ (z : ℕ × ℕ). z.0) (sym is) in
          let second : c ≡ (get_or xs h.0 (i, c)).1 = ap (λ (z : ℕ × ℕ). z.1) (sym is) in
          let few : i < count_met met (length u.points) = omega (arith, in_list.0, first, chosen.counted) in
          let j = nth_met met (length u.points) i few in
          let at = run_at p k layout u ground question r is_true j.0 j.1 (sym (met_is j.0 j.1) ∙ j.2) in
          let n : met_below (swept u r) j.0 ≡ i = sym (count_is j.0 j.1) ∙ j.3 in
          let listed : c ≡ choice j.0 = second ∙ sym (rising_at xs h.0 (i, c) chosen.rise h.1) ∙ ap (byte_in xs) (sym first) ∙ ap (byte_in xs) (sym j.3)
          ∙ chosen.gives j.0 j.1 j.2 in
          let t = taken ((point_at u j.0).draws) (r.choice (point_at u j.0).point) c (listed ∙ choice_is j.0 j.1) (omega (arith, in_list.1, second)) in
          record {
            turns = at.0;
            place = at.1;
            before = subst (λ (m : ℕ). read_run p k r m ≡ Going at.0 m at.1) n at.2;
            draws_there = ap (λ (z : Point). draws (file_row p z.at)) (sym at.3) ∙ drawn_is j.0 j.1 ∙ t.0;
            choice_is = t.1 ∙ ap r.choice at.3;
          }

      pub run_chosen : AreRunChoices p k r xs
      run_chosen = record {
        within = λ i d l.
            (let h = chosen.within i d l in
            let few = count_few met (length u.points) in
            let most = ground.steps in
            (omega (arith, h.0, few, most, chosen.counted), h.1, h.2));
        rise = chosen.rise;
        each = each;
        only = only;
      }

-- by the terms of the code
module _ (u : UnrolledProgram) (q : walk.Passive) (passive : IsPassive u q) (y : TermReading) (ws : List ℕ) (words : AreWords y q.nodes ws)
    (met : List Term) (mets : map (λ (t : Term). t.0) met ≡ q.met) where
  met_as : (i : ℕ) → is_met_by met ws i ≡ (slice_index ws (slice_index q.met i) == 1)
  met_as i = ap (λ z. slice_index ws z == 1) (sym (mapped_get met i) ∙ ap (λ (z : List ℕ). slice_index z i) mets)

  pub chosen_as : (choice : ℕ → ℕ) (steps : ℕ) (xs : List (ℕ × ℕ)) → AreChoices (is_met_by met ws) choice (length met) steps xs →
      AreChoices (λ i. slice_index ws (slice_index q.met i) == 1) choice (length u.points) steps xs
  chosen_as choice steps xs h =
      choices_as (is_met_by met ws) (λ i. slice_index ws (slice_index q.met i) == 1) choice choice (length met) (length u.points) steps xs
      (met_count u q passive met mets) (λ i l. met_as i) (λ i l. refl) h

-- ---- by the code

small_choice : (n : ℕ) → n ≤ 3 → n ≡ n % 4
small_choice n l = omega arith

-- the list of the choices of places that are met
pub by_terms : (q : Passive) → IsAskable q → (y : terms.Reading) (ws : List ℕ) (steps : ℕ) (xs : List (ℕ × ℕ)) → AreWords (reading_of y) q.dag ws →
    ((i : ℕ) → slice_index y.choices.items i ≤ 3) →
    AreChoices (is_met_by q.met.items ws) (slice_index y.choices.items) (length q.met.items) steps xs → AreChoicesOf q (reading_of y) xs
by_terms q askable y ws steps xs words few h p k layout question r ground stands is_true =
    run_chosen (unrolled_of q.unrolled.now) (passive_of q) askable.tells (reading_of y) ws words r stands p k layout ground question is_true
    (slice_index y.choices.items) (λ i l. small_choice (slice_index y.choices.items i) (few i)) steps xs
    (chosen_as (unrolled_of q.unrolled.now) (passive_of q) askable.tells (reading_of y) ws words q.met.items refl (slice_index y.choices.items) steps xs h)

-- and where all choices are 0
pub by_zeros : (q : Passive) → IsAskable q → (y : terms.Reading) (xs : List (ℕ × ℕ)) → ((i : ℕ) → slice_index y.choices.items i ≡ 0) → xs ≡ [] →
    AreChoicesOf q (reading_of y) xs
by_zeros q askable y xs zeros e p k layout question r ground stands is_true =
    subst (AreRunChoices p k r) (sym e)
    (none_chosen (unrolled_of q.unrolled.now) (reading_of y) r stands p k layout ground question is_true (λ i l. ap (λ n. n % 4) (zeros i)))

pub terms_within : (q : Passive) → IsAskable q → (ws : List ℕ) → length ws ≡ length q.dag → (i : ℕ) (d : Term) → i < length q.met.items →
    (slice_index_or q.met.items i d).0 < length ws
terms_within q askable ws count i d l = met_within (unrolled_of q.unrolled.now) (passive_of q) askable.tells q.met.items refl ws count i d l

pub terms_count : (q : Passive) → IsAskable q → length q.met.items ≡ length (unrolled_of q.unrolled.now).points
terms_count q askable = met_count (unrolled_of q.unrolled.now) (passive_of q) askable.tells q.met.items refl

-- a list of choices that has no other than 0
pub all_zero : (xs : List ℕ) (n : ℕ) → length xs ≤ n → ((i : ℕ) → i < n → slice_index xs i ≡ 0) → (i : ℕ) → slice_index xs i ≡ 0
all_zero [] n l h i = refl
all_zero (x ∷ xs) n l h zero = h 0 (omega (arith, l))
all_zero (x ∷ xs) n l h (suc i) = all_zero xs n (omega (arith, l)) (λ j m. none_behind j m (cases_lt (suc j) n)) i
  where
    none_behind : (j : ℕ) → j < n → (suc j < n) ⊎ (n ≤ suc j) → slice_index xs j ≡ 0
    none_behind j m (inl a) = h (suc j) a
    none_behind j m (inr a) = past xs j (omega (arith, a, l))
      where
        past : (ys : List ℕ) (i : ℕ) → length ys ≤ i → slice_index ys i ≡ 0
        past [] i l = refl
        past (y ∷ ys) zero l = absurd (omega (arith, l))
        past (y ∷ ys) (suc i) l = past ys i (omega (arith, l))
