-- The reading that a model gives is that of the answer.
use Rattle.std.proofs.Common.{◌≡◌, ℕ, zero, suc, ◌+◌, ◌-◌, ◌^◌, ◌<◌, Bool, true, false, List, [], ◌∷◌, Option, Some, None, length, refl, ap, sym, ◌∙◌, subst, arith}
use Rattle.std.specs.List.{list_any}
use Rattle.std.specs.Prelude.{◌==◌, All, codes, nat_eq, nat_lt, slice_get, slice_index, if◌then◌else◌}
use Rattle.std.proofs.lemmas.Bool.Decides.{nat_tests}
use Rattle.std.proofs.lemmas.Option.{slice_get_within}
use Rattle.word_spec.specs.Words.{bit_at}
use Rattle.word_spec.specs.Memory.{Memory}
use Rattle.machine_spec.specs.StateText.{Layout, known_or, register_at}
use Rattle.bilv_spec.specs.Run.{Program}
use Rattle.bilv_spec.specs.Points.{Point}
use Rattle.bilv_spec.specs.Questions.{Reading, IsReading}
use Rattle.bilv_spec.specs.Answers.{known_byte}
use Rattle.bilv_spec.specs.Scripts.{choice_name}
use Rattle.model_spec.specs.ModelText.{Definition, Value}
use Rattle.model_spec.specs.Models.{IsReadingOf, given, known_or_zero, memory_of, word_of}
use Rattle.term_spec.specs.Cells.{Cells}
use Rattle.term_spec.specs.Terms.{TermReading}
use Rattle.walk_spec.specs.Unrolled.{UnrolledProgram, byte_of_runs, is_flag_of, is_register_of, point_at}
use Rattle.walk_spec.specs.Unrolling.{IsLaidOut, IsUnrolling}
use Rattle.walk_laws.proofs.InputPlaces.{spot, spot_is}
use Rattle.walk_laws.specs.Layers.{IsFitting}
use Rattle.bit_blast.proofs.InputNumbers.{in_range}
use Rattle.table_run.specs.Traces.{byte_over}
use Rattle.model_text.specs.Answers.{IsMemoryIf, IsModelOf}
use Rattle.model_text.specs.Stores.{byte_or}
use Rattle.model_text.specs.declared.model.Model.{Model}
use Rattle.model_text.specs.declared.model.ModelMemory.{ModelMemory}
use Rattle.smtlib_print.specs.Scripted.{AreNumbers}
use Rattle.smtlib_print.specs.Told.{AreInOrder}
use Rattle.model_verdict.specs.Models.{IsSound, IsSoundMemory, filler, memory_over}
use Rattle.model_verdict.specs.Readings.{IsModelled, IsOfModel, StandsFor, TakesNumbers}
use Rattle.model_verdict.proofs.Filled.{over_bytes, word_same}
use Rattle.model_verdict.proofs.Numbers.{as_many, at_number}
use Rattle.model_verdict.proofs.Printing.{register_is}

-- ---- its ranges

pub all_below : (xs : List ℕ) (i : ℕ) → All (λ v. v < 2 ^ 32) xs → slice_index xs i < 2 ^ 32
all_below [] i h = omega arith
all_below (x ∷ xs) zero h = h 0 x (omega arith)
all_below (x ∷ xs) (suc i) h = all_below xs i (λ n d l. h (suc n) d (omega (arith, l)))

register_below : (layout : Layout) (regs : List ℕ) (n : ℕ) → All (λ v. v < 2 ^ 32) regs → register_at layout regs n < 2 ^ 32
register_below layout regs n h = by (nat_lt n layout.first) (all_below regs (n - layout.first) h)
  where
    by : (b : Bool) → slice_index regs (n - layout.first) < 2 ^ 32 → (if b then 0 else slice_index regs (n - layout.first)) < 2 ^ 32
    by true l = omega arith
    by false l = l

small_choices : (xs : List ℕ) (i : ℕ) → All (λ c. c < 4) xs → slice_index xs i < 4
small_choices [] i h = omega arith
small_choices (x ∷ xs) zero h = h 0 x (omega arith)
small_choices (x ∷ xs) (suc i) h = small_choices xs i (λ n d l. h (suc n) d (omega (arith, l)))

words_all : (xs : List ℕ) → ((i : ℕ) → slice_index xs i < 2 ^ 32) → All (λ v. v < 2 ^ 32) xs
words_all [] h i d l = absurd (omega (arith, l))
words_all (x ∷ xs) h zero d l = h 0
words_all (x ∷ xs) h (suc i) d l = words_all xs (λ j. h (suc j)) i d (omega (arith, l))

sound_memory : (v : Option Value) (o : Option ModelMemory) → filler o < 256 → IsMemoryIf v o → IsSoundMemory o
sound_memory None None f h = (f, λ i j d l m. absurd (omega (arith, m)), λ i d l. absurd (omega (arith, l)))
sound_memory None (Some m) f h = absurd h
sound_memory (Some v) None f h = absurd h
sound_memory (Some v) (Some m) f h = (f, h.rising, h.ranges)

-- a model of definitions is one of their form
pub is_sound : (layout : Layout) (count : ℕ) (ds : List Definition) (m : Model) → ((i : ℕ) → slice_index m.registers.items i < 2 ^ 32) → filler m.memory < 256 →
    IsModelOf layout count ds m → IsSound layout count m
is_sound layout count ds m words fill is = record {
  registers = is.registers;
  words = words_all m.registers.items words;
  flags = is.flags;
  choices = is.choices;
  few = λ n. small_choices m.choices.items n is.small;
  memory = sound_memory (given ds (codes "mem")) m.memory fill is.memory;
}

-- ---- the reading

-- cells of no nodes
no_cells : Cells
no_cells = record { nodes = []; addresses = []; agrees = []; asked = []; root = 0 }

module _ (p : Program) (k : ℕ) (layout : Layout) (u : UnrolledProgram) (un : IsUnrolling p k u) (fitting : IsFitting u) (numbers : List ℕ) (m : Model)
    (sound : IsSound layout (length numbers) m) where
  pub reading_of : Reading
  reading_of = record {
    state = record { pc = u.entry; regs = register_at layout m.registers.items; flags = λ f. bit_at f m.flags; mem = memory_over u.known m.memory };
    choice = λ x. slice_index m.choices.items (slice_index numbers (spot p k u un no_cells x));
  }

  is_reading : IsReading reading_of
  unfolding reading_of
  is_reading = record {
    state = record {
      pc = fitting.entry;
      regs = λ n. register_below layout m.registers.items n sound.words;
      flags = λ f. (let b : bit_at f m.flags < 2 = omega arith in b);
      mem = over_bytes u.known m.memory sound.memory fitting.known;
    };
    choice = λ x. sound.few (slice_index numbers (spot p k u un no_cells x));
  }

  pub modelled : IsModelled u layout m reading_of
  unfolding reading_of
  modelled = record { reading = is_reading; pc = refl; regs = refl; flags = refl; mem = refl }

  pub takes : TakesNumbers u numbers m reading_of
  unfolding reading_of
  takes i l = ap (λ z. slice_index m.choices.items (slice_index numbers z)) (spot_is p k u un no_cells i l)

-- ---- data of the model stand for it

module _ (u : UnrolledProgram) (layout : Layout) (laid : IsLaidOut layout u) (fitting : IsFitting u) (numbers : List ℕ) (m : Model)
    (sound : IsSound layout (length numbers) m) (y : TermReading) (of : IsOfModel u layout numbers m y) (r : Reading) (modelled : IsModelled u layout m r)
    (takes : TakesNumbers u numbers m r) where
  regs_same : (n : ℕ) → is_register_of u n ≡ true → y.regs 0 n ≡ r.state.regs n
  regs_same n h =
      let q = in_range layout.first (length layout.registers) n (subst (λ (z : List ℕ). list_any (nat_eq n) z ≡ true) laid.registers h) in
      let at : layout.first + (n - layout.first) ≡ n = omega (arith, q.0) in
      let l : n - layout.first < length m.registers.items = omega (arith, q.0, q.1, sound.registers) in
      ap (y.regs 0) (sym at) ∙ of.regs (n - layout.first) l ∙ sym (register_is layout m.registers.items (n - layout.first))
      ∙ ap (register_at layout m.registers.items) at ∙ sym (ap (λ (f : ℕ → ℕ). f n) modelled.regs)

  flags_same : (f : ℕ) → is_flag_of u f ≡ true → y.flags 0 f ≡ r.state.flags f
  flags_same f h =
      let l : f < u.flags = grind (arith, nat_tests) in
      of.flags f (omega (arith, l, fitting.flags)) ∙ sym (ap (λ (g : ℕ → ℕ). g f) modelled.flags)

  pub stands_for : StandsFor u y r
  stands_for = record {
    reading = modelled.reading;
    pc = modelled.pc;
    regs = regs_same;
    flags = flags_same;
    mem = of.mem ∙ sym modelled.mem;
    choice = λ i l. of.choice i l ∙ ap (λ z. if (point_at u i).draws then z else 0) (sym (takes i l));
  }

-- ---- it is that of the answer

-- bytes over a fill, as they are read and as they are run over
over_or : (fill : ℕ) (xs : List (ℕ × ℕ)) (a : ℕ) → byte_over fill xs a ≡ byte_or fill xs a
over_or fill [] a = refl
over_or fill (e ∷ rest) a = ap (λ z. if a == e.0 then e.1 else z) (over_or fill rest a)

-- the memory that is given
memory_given : (p : Program) (k : ℕ) (u : UnrolledProgram) → IsUnrolling p k u → (v : Option Value) (o : Option ModelMemory) → IsMemoryIf v o → (a : ℕ) →
    a < 2 ^ 32 → memory_over u.known o a ≡ memory_of p v a
memory_given p k u un None None h a l =
    ap (λ z. known_or (byte_of_runs u.known z) [] a) (word_same a l) ∙ ap (λ z. known_or z [] a) (un.known a l) ∙ by (known_byte p a)
  where
    by : (o : Option ℕ) → known_or o [] a ≡ known_or_zero o
    by None = refl
    by (Some b) = refl
memory_given p k u un None (Some m) h a l = absurd h
memory_given p k u un (Some v) None h a l = absurd h
memory_given p k u un (Some v) (Some m) h a l =
    ap (byte_over m.fill m.bytes.items) (word_same a l) ∙ over_or m.fill m.bytes.items a ∙ h.bytes a

module _ (p : Program) (k : ℕ) (layout : Layout) (u : UnrolledProgram) (un : IsUnrolling p k u) (numbers : List ℕ) (points : List Point)
    (order : AreInOrder u points) (are : AreNumbers u points numbers) (m : Model) (ds : List Definition) (is : IsModelOf layout (length numbers) ds m)
    (r : Reading) (modelled : IsModelled u layout m r) (takes : TakesNumbers u numbers m r) where
  chosen : (n : ℕ) (point : Point) → slice_get points n ≡ Some point → r.choice point ≡ word_of (given ds (choice_name n))
  chosen n point e =
      let at = at_number p k u un numbers points order are n point e in
      let l = slice_get_within points n point e in
      let few : n < length numbers = omega (arith, l, as_many p k u un numbers points order are, are.count) in
      ap r.choice (sym at.2) ∙ takes at.0 at.1 ∙ ap (slice_index m.choices.items) (sym at.3) ∙ is.choice n few

  pub reading_is : IsReadingOf p layout points ds r
  reading_is = record {
    reading = modelled.reading;
    pc = modelled.pc ∙ un.entry;
    regs = λ i l. ap (λ (f : ℕ → ℕ). f (layout.first + i)) modelled.regs ∙ register_is layout m.registers.items i ∙ is.register i l;
    flags = λ f l. ap (λ (g : ℕ → ℕ). g f) modelled.flags ∙ is.flag f l;
    mem = λ a l. ap (λ (z : Memory). z a) modelled.mem ∙ memory_given p k u un (given ds (codes "mem")) m.memory is.memory a l;
    choice = chosen;
  }
