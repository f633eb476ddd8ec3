-- The start that is printed of a reading.
use Rattle.std.proofs.Common.{◌≡◌, ℕ, zero, suc, ◌+◌, ◌-◌, ◌^◌, ◌<◌, ◌≤◌, Bool, false, List, [], ◌∷◌, length, get_or, refl, ap, sym, ◌∙◌, subst, arith}
use Rattle.std.specs.Prelude.{◌≢◌, ◌↔◌, All, Contains, nat_lt, slice_index, if◌then◌else◌}
use Rattle.std.proofs.lemmas.Bool.Decides.{nat_tests}
use Rattle.word_spec.specs.Memory.{byte_in}
use Rattle.word_spec.specs.State.{Written}
use Rattle.machine_spec.specs.StateText.{Layout, AreRising, IsWritten, last_step, register_at}
use Rattle.bilv_spec.specs.Run.{Program, Run, Going, Exited, Failed, Turned, IsOver, run}
use Rattle.machine_spec.specs.Endings.{Event}
use Rattle.bilv_spec.specs.Points.{is_known_at}
use Rattle.bilv_spec.specs.PointLaws.{HasLawfulRows, ReadsMemory}
use Rattle.bilv_spec.specs.Questions.{Reading, read_run}
use Rattle.bilv_spec.specs.Answers.{EndsAs, start_in}
use Rattle.call_spec.specs.Calls.{Question}
use Rattle.model_spec.specs.Models.{DrawsAt, IsPrinted, all_reads}
use Rattle.model_spec.specs.ModelLaws.{StandAlike}
use Rattle.model_spec.proofs.Printed.{printed_runs_alike}
use Rattle.table_run.specs.Traces.{AreListed}
use Rattle.bit_blast.proofs.StepChoices.{any_default}
use Rattle.model_verdict.specs.Runs.{AreRunChoices, IsStartBy}
use Rattle.model_verdict.proofs.Bytes.{found_in}
use Rattle.model_verdict.proofs.Steps.{before_end}

-- a register by its place
pub register_is : (layout : Layout) (regs : List ℕ) (i : ℕ) → register_at layout regs (layout.first + i) ≡ slice_index regs i
register_is layout regs i =
    let b : nat_lt (layout.first + i) layout.first ≡ false = grind (arith, nat_tests) in
    let n : layout.first + i - layout.first ≡ i = omega arith in
    ap (λ z. if z then 0 else slice_index regs (layout.first + i - layout.first)) b ∙ ap (slice_index regs) n

not_zero : (n : ℕ) → n ≢ 0 → 1 ≤ n
not_zero n h = let l : 0 < n = grind (arith, h) in omega (arith, l)

module _ (p : Program) (layout : Layout) (k : ℕ) (question : Question) (w : Written) (fill : ℕ) (bytes : List (ℕ × ℕ)) (r : Reading)
    (start : IsStartBy p layout k question w fill bytes r) where
  -- with these bytes
  abbrev with : List (ℕ × ℕ) → Written
  with listed = record w { bytes = listed }

  module _ (places : List ℕ) (listed : List (ℕ × ℕ)) (are : AreListed p r.state.mem places listed) (rise : AreRising listed) where
    entry_of : (n : ℕ) (d : ℕ × ℕ) → n < length listed → Contains listed ((get_or listed n d).0, (get_or listed n d).1)
    entry_of n d l = (n, l, any_default listed n ((get_or listed n d).0, (get_or listed n d).1) d l)

    written : All (λ x. (x.0 ≤ last_step) × (1 ≤ x.1) × (x.1 ≤ 3)) w.choices → AreRising w.choices → IsWritten layout (is_known_at p) (with listed)
    written within steps_rise = record {
      count = start.fit.registers;
      words = start.words;
      flags = start.fit.flags;
      bytes = λ n d l.
          (let e = get_or listed n d in
          let h = (are e.0 e.1).0 (entry_of n d l) in
          let small = start.reading.state.mem e.0 in
          (h.0, not_zero e.1 h.4, (let s = h.3 in omega (arith, small, s))));
      bytes_rise = rise;
      unknown = λ n d l. (let e = get_or listed n d in ((are e.0 e.1).0 (entry_of n d l)).2);
      choices = within;
      choices_rise = steps_rise;
    }

    -- without a run
    pub printed_entry : w.choices ≡ [] → places ≡ all_reads p k r 0 → IsPrinted p layout k r 0 (with listed)
    printed_entry none e = record {
      written = written (λ n d l. absurd (let z = ap (λ (xs : List (ℕ × ℕ)). length xs) none in omega (arith, l, z)))
          (λ i j d l m. absurd (let z = ap (λ (xs : List (ℕ × ℕ)). length xs) none in omega (arith, m, z)));
      regs = λ i l. sym (ap (λ (f : ℕ → ℕ). f (layout.first + i)) start.regs ∙ register_is layout w.regs i);
      flags = λ f l. sym (ap (λ (g : ℕ → ℕ). g f) start.flags);
      bytes = λ a b. subst (λ (z : List ℕ). Contains listed (a, b) ↔
          ((a < 2 ^ 32) × Contains z a × (is_known_at p a ≡ false) × (b ≡ r.state.mem a) × (b ≢ 0))) e (are a b);
      choices = λ i c. (
        λ h. absurd (let z = ap (λ (xs : List (ℕ × ℕ)). length xs) none in omega (arith, h.1, z)),
        λ h. absurd (omega (arith, h.0)),
      );
    }

    -- with a run that has ended after so many steps
    module _ (steps : ℕ) (chosen : AreRunChoices p k r w.choices) (over : IsOver (read_run p k r steps)) (e : places ≡ all_reads p k r steps) where
      chosen_to : (i c : ℕ) → Contains w.choices (i, c) → (i < steps) × DrawsAt p k r i c × (c ≢ 0)
      chosen_to i c h =
          let d = chosen.only i c h in
          let in_list = chosen.within h.0 (i, c) h.1 in
          let is : c ≡ (get_or w.choices h.0 (i, c)).1 = ap (λ (z : ℕ × ℕ). z.1) (sym h.2) in
          (before_end p k r i steps d.turns i d.place d.before over, d, (λ z. omega (arith, z, is, in_list.1)))

      chosen_from : (i c : ℕ) → (i < steps) × DrawsAt p k r i c × (c ≢ 0) → Contains w.choices (i, c)
      chosen_from i c h =
          let d = h.1 in
          let is : byte_in w.choices i ≡ c = chosen.each i d.turns d.place d.before d.draws_there ∙ sym d.choice_is in
          let there = found_in w.choices i (λ z. h.2 (sym is ∙ z)) in
          subst (λ (b : ℕ). Contains w.choices (i, b)) is there

      pub printed_run : IsPrinted p layout k r steps (with listed)
      printed_run = record {
        written = written chosen.within chosen.rise;
        regs = λ i l. sym (ap (λ (f : ℕ → ℕ). f (layout.first + i)) start.regs ∙ register_is layout w.regs i);
        flags = λ f l. sym (ap (λ (g : ℕ → ℕ). g f) start.flags);
        bytes = λ a b. subst (λ (z : List ℕ). Contains listed (a, b) ↔
            ((a < 2 ^ 32) × Contains z a × (is_known_at p a ≡ false) × (b ≡ r.state.mem a) × (b ≢ 0))) e (are a b);
        choices = λ i c. (chosen_to i c, chosen_from i c);
      }

-- ---- the run of a printed start

fails_alike : (e : Event) (at n : ℕ) (x : Run) → StandAlike (Failed e at n) x → x ≡ Failed e at n
fails_alike e at n (Going turns m c) h = absurd h
fails_alike e at n (Exited b m) h = absurd h
fails_alike e at n (Failed f b m) h = let x = h.0 in let y = h.1 in let z = h.2 in cc
fails_alike e at n (Turned b m) h = absurd h

turns_alike : (at n : ℕ) (x : Run) → StandAlike (Turned at n) x → x ≡ Turned at n
turns_alike at n (Going turns m c) h = absurd h
turns_alike at n (Exited b m) h = absurd h
turns_alike at n (Failed f b m) h = absurd h
turns_alike at n (Turned b m) h = let x = h.0 in let y = h.1 in cc

module _ (p : Program) (lawful : HasLawfulRows p) (memory : ReadsMemory p) (layout : Layout) (k : ℕ) (question : Question) (w : Written) (fill : ℕ)
    (bytes : List (ℕ × ℕ)) (r : Reading) (start : IsStartBy p layout k question w fill bytes r) (listed : List (ℕ × ℕ)) (steps : ℕ)
    (printed : IsPrinted p layout k r steps (record w { bytes = listed })) where
  alike : StandAlike (read_run p k r steps) (run p k (start_in p layout (record w { bytes = listed })) steps)
  alike =
      (printed_runs_alike p lawful memory layout k steps r (record w { bytes = listed }) start.reading start.is_true.entry printed start.regs
      start.flags).1 steps
      (omega arith)

  pub ends_failed : (e : Event) (at n : ℕ) → read_run p k r steps ≡ Failed e at n → EndsAs p k (start_in p layout (record w { bytes = listed })) (Failed e at n)
  ends_failed e at n is = (
    steps,
    fails_alike e at n (run p k (start_in p layout (record w { bytes = listed })) steps)
        (subst (λ (x : Run). StandAlike x (run p k (start_in p layout (record w { bytes = listed })) steps)) is alike),
  )

  pub ends_turned : (at n : ℕ) → read_run p k r steps ≡ Turned at n → EndsAs p k (start_in p layout (record w { bytes = listed })) (Turned at n)
  ends_turned at n is = (
    steps,
    turns_alike at n (run p k (start_in p layout (record w { bytes = listed })) steps)
        (subst (λ (x : Run). StandAlike x (run p k (start_in p layout (record w { bytes = listed })) steps)) is alike),
  )
