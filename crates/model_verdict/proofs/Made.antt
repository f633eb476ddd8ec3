-- What terms are read under by a model.
use Rattle.std.proofs.Common.{◌≡◌, inl, inr, ℕ, zero, suc, ◌+◌, ◌-◌, ◌%◌, ◌^◌, ◌<◌, ◌≤◌, Bool, true, false, List, [], ◌∷◌, Option, Some, None, length, drop, get_or, refl, ap, sym, ◌∙◌, subst, arith}
use Rattle.std.specs.Prelude.{◌==◌, bit_xor, if◌then◌else◌, slice_index, slice_index_or}
use Rattle.std.proofs.Math.Path.{fun_ext}
use Rattle.std.proofs.lemmas.Bool.{cases_lt}
use Rattle.word_spec.specs.Words.{bit_at, word}
use Rattle.word_spec.specs.Memory.{byte_in, memory_of}
use Rattle.machine_spec.specs.StateText.{Layout, known_or}
use Rattle.walk_spec.specs.Unrolled.{UnrolledProgram, ByteRun, byte_of_runs, point_at}
use Rattle.term_dag.specs.declared.values.Reading.{Reading}
use Rattle.term_dag.specs.Readings.{reading_of}
use Rattle.model_text.specs.declared.model.Model.{Model}
use Rattle.model_text.specs.declared.model.ModelMemory.{ModelMemory}
use Rattle.model_verdict.specs.Models.{filler, memory_over, turned, IsSound, IsSoundMemory}
use Rattle.model_verdict.specs.Readings.{AreDrawn, IsOfModel}
use Rattle.model_verdict.proofs.Bytes.{turned_byte}
use Rattle.model_verdict.proofs.Filled.{filled_none}
use Rattle.model_verdict.proofs.KnownRuns.{behind}
use Rattle.model_verdict.proofs.ModelReadings.{all_below}

-- ---- the memory

mapped_at : (fill : ℕ) (xs : List (ℕ × ℕ)) (i : ℕ) (d : ℕ × ℕ) → i < length xs →
    drop i (turned fill xs) ≡ ((get_or xs i d).0, bit_xor (get_or xs i d).1 fill) ∷ drop (suc i) (turned fill xs)
mapped_at fill [] i d l = absurd (omega (arith, l))
mapped_at fill (x ∷ xs) zero d l = refl
mapped_at fill (x ∷ xs) (suc i) d l = mapped_at fill xs i d (omega (arith, l))

-- one more byte in front
pub turned_front : (fill : ℕ) (bytes old new : List (ℕ × ℕ)) (i : ℕ) (d : ℕ × ℕ) → i < length bytes →
    ((x : ℕ) → memory_of old x ≡ memory_of (drop (suc i) (turned fill bytes)) x) →
    ((x : ℕ) → memory_of new x ≡ (if word 32 x == (get_or bytes i d).0 then bit_xor (get_or bytes i d).1 fill else memory_of old x)) → (x : ℕ) →
    memory_of new x ≡ memory_of (drop i (turned fill bytes)) x
turned_front fill bytes old new i d l h p x =
    p x ∙ ap (λ z. if word 32 x == (get_or bytes i d).0 then bit_xor (get_or bytes i d).1 fill else z) (h x)
    ∙ sym (ap (λ z. byte_in z (word 32 x)) (mapped_at fill bytes i d l))

none_left : (fill : ℕ) (bytes : List (ℕ × ℕ)) → drop (length bytes) (turned fill bytes) ≡ []
none_left fill [] = refl
none_left fill (b ∷ bytes) = none_left fill bytes

-- before the first byte
pub turned_none : (fill : ℕ) (bytes entries : List (ℕ × ℕ)) → entries ≡ [] → (x : ℕ) →
    memory_of entries x ≡ memory_of (drop (length bytes - 0) (turned fill bytes)) x
turned_none fill bytes entries e x =
    ap (λ z. memory_of z x) (e ∙ sym (none_left fill bytes))
    ∙ ap (λ n. memory_of (drop n (turned fill bytes)) x) (let h : length bytes ≡ length bytes - 0 = omega arith in h)

-- one more of them, from the last on
pub turned_more : (fill : ℕ) (bytes old new : List (ℕ × ℕ)) (i : ℕ) (d : ℕ × ℕ) → i < length bytes →
    ((x : ℕ) → memory_of old x ≡ memory_of (drop (length bytes - i) (turned fill bytes)) x) →
    ((x : ℕ) → memory_of new x ≡ (if word 32 x == (get_or bytes (length bytes - 1 - i) d).0 then bit_xor (get_or bytes (length bytes - 1 - i) d).1 fill
    else memory_of old x)) → (x : ℕ) →
    memory_of new x ≡ memory_of (drop (length bytes - (i + 1)) (turned fill bytes)) x
turned_more fill bytes old new i d l h p x =
    let before : length bytes - i ≡ suc (length bytes - 1 - i) = omega (arith, l) in
    let here : length bytes - 1 - i ≡ length bytes - (i + 1) = omega arith in
    turned_front fill bytes old new (length bytes - 1 - i) d (omega (arith, l))
    (λ y. h y ∙ ap (λ n. memory_of (drop n (turned fill bytes)) y) before) p x
    ∙ ap (λ n. memory_of (drop n (turned fill bytes)) x) here

-- behind all of them
pub turned_all : (fill : ℕ) (bytes entries : List (ℕ × ℕ)) (i : ℕ) → i ≡ length bytes →
    ((x : ℕ) → memory_of entries x ≡ memory_of (drop (length bytes - i) (turned fill bytes)) x) → (x : ℕ) →
    memory_of entries x ≡ memory_of (turned fill bytes) x
turned_all fill bytes entries i e h x =
    h x ∙ ap (λ n. memory_of (drop n (turned fill bytes)) x) (let z : length bytes - i ≡ 0 = omega (arith, e) in z)

-- a byte of the memory with the bits of the fill turned back
pub given_byte : (known : List ByteRun) (o : Option ModelMemory) (m : ModelMemory) (entries : List (ℕ × ℕ)) (x : ℕ) → IsSoundMemory o → o ≡ Some m →
    memory_of entries x ≡ memory_of (turned m.fill m.bytes.items) x → bit_xor (filler o % 256) (memory_of entries x % 256) ≡ memory_over known o x
given_byte known o m entries x sound e same =
    let here : IsSoundMemory (Some m) = subst IsSoundMemory e sound in
    subst (λ (z : Option ModelMemory). bit_xor (filler z % 256) (memory_of entries x % 256) ≡ memory_over known z x) (sym e)
    (ap (λ z. bit_xor (m.fill % 256) (z % 256)) same ∙ turned_byte m.fill m.bytes.items (word 32 x) here.0 here.2)

pub known_byte : (known : List ByteRun) (o : Option ModelMemory) (entries : List (ℕ × ℕ)) (x : ℕ) → o ≡ None → memory_of entries x < 256 →
    memory_of entries x ≡ known_or (byte_of_runs known (word 32 x)) [] x → bit_xor (filler o % 256) (memory_of entries x % 256) ≡ memory_over known o x
known_byte known o entries x e small same =
    subst (λ (z : Option ModelMemory). bit_xor (filler z % 256) (memory_of entries x % 256) ≡ memory_over known z x) (sym e)
    (filled_none (memory_of entries x) small ∙ same)

-- ---- all

small_word : (a b : ℕ) → a ≡ b → b < 2 ^ 32 → a % 2 ^ 32 ≡ b
small_word a b e l = omega (arith, e, l)

small_flag : (a f flags : ℕ) → a ≡ bit_at f flags → a % 2 ≡ bit_at f flags
small_flag a f flags e = let l : bit_at f flags < 2 = omega arith in omega (arith, e, l)

small_choice : (a b : ℕ) → a ≡ b → b < 4 → a % 4 ≡ b
small_choice a b e l = omega (arith, e, l)

if_small : (b : Bool) (n : ℕ) → n < 4 → (if b then n else 0) < 4
if_small true n l = l
if_small false n l = omega arith

pub is_of_model : (u : UnrolledProgram) (layout : Layout) (numbers : List ℕ) (drawn : List Bool) (m : Model) (y : Reading) → IsSound layout (length numbers) m →
    AreDrawn u numbers drawn → length numbers ≡ length u.points →
    ((i : ℕ) → i < length m.registers.items → slice_index y.registers.items (layout.first + i) ≡ slice_index m.registers.items i) →
    ((f : ℕ) → f < 8 → slice_index y.flags.items f ≡ bit_at f m.flags) →
    ((x : ℕ) → bit_xor (y.fill % 256) (memory_of y.memory.entries x % 256) ≡ memory_over u.known m.memory x) →
    ((i : ℕ) → i < length numbers → slice_index y.choices.items i
    ≡ (if slice_index_or drawn (slice_index numbers i) false then slice_index m.choices.items (slice_index numbers i) else 0)) →
    IsOfModel u layout numbers m (reading_of y)
is_of_model u layout numbers drawn m y sound are count regs flags mem choices = record {
  regs = λ i l. small_word _ _ (regs i l) (all_below m.registers.items i sound.words);
  flags = λ f l. small_flag _ f m.flags (flags f l);
  mem = fun_ext mem;
  choice = λ i l.
      (let c = slice_index m.choices.items (slice_index numbers i) in
      small_choice _ (if (point_at u i).draws then c else 0)
      (choices i (omega (arith, l, count)) ∙ ap (λ z. if z then c else 0) (are.each i l))
      (if_small ((point_at u i).draws) c (sound.few (slice_index numbers i))));
}

-- choices that are those of points by their places are choices
pub placed_few : (ws numbers choices : List ℕ) (drawn : List Bool) → length ws ≡ length numbers →
    ((i : ℕ) → i < length numbers → slice_index ws i
    ≡ (if slice_index_or drawn (slice_index numbers i) false then slice_index choices (slice_index numbers i) else 0)) →
    ((n : ℕ) → slice_index choices n < 4) → (i : ℕ) → slice_index ws i ≤ 3
placed_few ws numbers choices drawn count each few i = elim (cases_lt i (length numbers)) [
  | inl l ↦ (let h = if_small (slice_index_or drawn (slice_index numbers i) false) (slice_index choices (slice_index numbers i))
      (few (slice_index numbers i)) in
      omega (arith, each i l, h))
  | inr l ↦ (let h = behind ws i (omega (arith, l, count)) in omega (arith, h))
]
