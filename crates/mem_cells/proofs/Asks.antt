-- What is said of reads and bytes of the file, one pair after another.
use Rattle.std.proofs.Common.{◌≡◌, ◌⊎◌, inl, inr, ℕ, ◌+◌, ◌*◌, ◌<◌, ◌==◌, true, false, List, [], ◌++◌, length, take, refl, ap, sym, ◌∙◌, subst, arith}
use Rattle.std.specs.Prelude.{slice_index, Contains}
use Rattle.std.proofs.lemmas.Bool.{cases_lt}
use Rattle.std.proofs.lemmas.List.{take_more}
use Rattle.std.proofs.lemmas.List.Elements.{Contains-push_cases, Contains-append_left, Contains-append_right, Contains-append_cases, Contains-get_or}
use Rattle.word_spec.specs.Words.{bit}
use Rattle.term_spec.specs.Terms.{TermReading, InRange, HasWidth, term_word}
use Rattle.term_dag.specs.declared.nodes.Term.{Term}
use Rattle.mem_cells.specs.declared.building.Build.{Build}
use Rattle.mem_cells.specs.declared.cells.AskedByte.{AskedByte}
use Rattle.mem_cells.specs.declared.file_bytes.FileByte.{FileByte}
use Rattle.mem_cells.specs.Parts.{has_part, is_read, parts_at}
use Rattle.mem_cells.specs.Building.{read_places, IsBuilt, Grown, IsWord}
use Rattle.mem_cells.specs.Ties.{address_of}
use Rattle.mem_cells.specs.Asked.{asked, asked_of_parts, file_byte_at, is_of_part, parts_asked, AreAsked, AskedOf, AskedTo}
use Rattle.mem_cells.proofs.Growing.{grown_word, grown_width}
use Rattle.mem_cells.proofs.PartReads.{of_passed, passed_of, some_passed}
use Rattle.mem_cells.proofs.Agreements.{address_kept, same_reads, one_is, is_one}

-- what is said stays as nodes are added
pub asked_kept : (a b : Build) (g : ℕ) (parts : List (List ℕ)) (file : List FileByte) (xs : List AskedByte) (pairs : ℕ → FileByte → Type 0) → IsBuilt a →
    Grown a b g 0 →
    ((j : ℕ) (f : FileByte) → pairs j f → j < length (read_places a)) → AreAsked a parts file xs pairs → AreAsked b parts file xs pairs
asked_kept a b g parts file xs pairs c p within h =
    let e = same_reads a b g p in
    record {
      formed = λ t k. let f = h.formed t k in (grown_width a b g 0 1 t.condition.0 p f.0, omega (arith, f.1, ap length e), f.2);
      read = h.read;
      sound = λ x i t k o.
          let f = h.formed t k in
          let s = h.sound x i t k (sym (grown_word a b g 0 x t.condition.0 p f.0.0) ∙ o) in
          (s.0, s.1, address_kept a b g 0 x t.read c p e f.1 ∙ s.2);
      complete = λ x i base q part j f s r o z.
          h.complete x i base (λ t k o. q t k (grown_word a b g 0 x t.condition.0 p (h.formed t k).0.0 ∙ o)) part j f s r o
          (sym (address_kept a b g 0 x j c p e (within j f s)) ∙ z);
    }

-- one of the bytes that are asked of the parts of an address
pub record IsAskedOf (parts : List (List ℕ)) (t : Term) (j : ℕ) (f : FileByte) (a : AskedByte) : Type 0 where
  pub condition : a.condition ≡ t
  pub at : a.read ≡ j
  pub byte : f.byte ≡ a.byte
  pub read : is_read parts a.part a.read ≡ true
  pub of : is_of_part f a.part ≡ true

asked_by : (parts : List (List ℕ)) (t : Term) (j p : ℕ) (f : FileByte) (a : AskedByte) → is_read parts p j ≡ true → is_of_part f p ≡ true →
    a ≡ asked t p j f.byte → IsAskedOf parts t j f a
asked_by parts t j p f a r o e = subst (IsAskedOf parts t j f) (sym e) (record { condition = refl; at = refl; byte = refl; read = r; of = o })

asked_is : (parts : List (List ℕ)) (t : Term) (j : ℕ) (f : FileByte) (a : AskedByte) →
    Contains (asked_of_parts (parts_asked (parts_at parts j) f) t j f.byte) a → IsAskedOf parts t j f a
asked_is parts t j f a h =
    let o = passed_of AskedByte (λ p. asked t p j f.byte) (is_of_part f) (parts_at parts j) a h in asked_by parts t j o.part f a o.inside o.passes o.is

asked_for : (parts : List (List ℕ)) (t : Term) (j p : ℕ) (f : FileByte) → is_read parts p j ≡ true → is_of_part f p ≡ true →
    Contains (asked_of_parts (parts_asked (parts_at parts j) f) t j f.byte) (asked t p j f.byte)
asked_for parts t j p f h k = of_passed (λ q. asked t q j f.byte) (is_of_part f) (parts_at parts j) p h k

-- one more pair
asked_next : (b : Build) (parts : List (List ℕ)) (file : List FileByte) (xs : List AskedByte) (pairs : ℕ → FileByte → Type 0) (t : Term) (j : ℕ) (f : FileByte) →
    AreAsked b parts file xs pairs → Contains file f → j < length (read_places b) → IsWord b.dag 1 t.0 (λ x. bit (address_of b x j == f.at)) →
    AreAsked b parts file (xs ++ asked_of_parts (parts_asked (parts_at parts j) f) t j f.byte) (λ i g. pairs i g ⊎ (g ≡ f) × (i ≡ j))
asked_next b parts file xs pairs t j f h k l w =
    let ys = asked_of_parts (parts_asked (parts_at parts j) f) t j f.byte in
    record {
      formed = λ a m. elim (Contains-append_cases xs ys a m) [
        | inl n ↦ h.formed a n
        | inr n ↦ (
            let e = asked_is parts t j f a n in
            (subst (λ (z : Term). HasWidth b.dag 1 z.0) (sym e.condition) w.place, omega (arith, e.at, l), (f, record { inside = k; of = e.of; has = e.byte })))
      ];
      read = λ a m. elim (Contains-append_cases xs ys a m) [ inl n ↦ h.read a n | inr n ↦ (asked_is parts t j f a n).read ];
      sound = λ x i a m o. elim (Contains-append_cases xs ys a m) [
        | inl n ↦ h.sound x i a n o
        | inr n ↦ (
            let e = asked_is parts t j f a n in (
              f,
              record { inside = k; of = e.of; has = e.byte },
              ap (address_of b x) e.at ∙ one_is (address_of b x j) f.at (sym (w.value x i) ∙ ap (λ z. term_word x b.dag z.0) (sym e.condition) ∙ o),
            ))
      ];
      complete = λ x i base q p n g s r o z. elim s [
        | inl d ↦ h.complete x i base (λ a m. q a (Contains-append_left xs ys a m)) p n g d r o z
        | inr d ↦ (
            let inside = asked_for parts t j p f (ap (is_read parts p) (sym d.1) ∙ r) (ap (λ y. is_of_part y p) (sym d.0) ∙ o) in
            ap (base p) d.1 ∙ q (asked t p j f.byte) (Contains-append_right xs ys (asked t p j f.byte) inside)
            (w.value x i ∙ is_one (address_of b x j) f.at (ap (address_of b x) (sym d.1) ∙ z ∙ ap (λ y. y.at) d.0)) ∙ ap (λ y. y.byte) (sym d.0))
      ];
    }

-- a pair of which nothing has to be said
asked_never : (b : Build) (parts : List (List ℕ)) (file : List FileByte) (xs : List AskedByte) (pairs : ℕ → FileByte → Type 0) (f : FileByte) (j : ℕ) →
    ((x : TermReading) → InRange x → (p : ℕ) → is_read parts p j ≡ true → is_of_part f p ≡ true → address_of b x j ≡ f.at → ⊥) →
    AreAsked b parts file xs pairs → AreAsked b parts file xs (λ i g. pairs i g ⊎ (g ≡ f) × (i ≡ j))
asked_never b parts file xs pairs f j n h = record {
  formed = h.formed;
  read = h.read;
  sound = h.sound;
  complete = λ x i base q p m g s r o z. elim s [
    | inl d ↦ h.complete x i base q p m g d r o z
    | inr d ↦ absurd (n x i p (ap (is_read parts p) (sym d.1) ∙ r) (ap (λ y. is_of_part y p) (sym d.0) ∙ o) (ap (address_of b x) (sym d.1) ∙ z ∙ ap
        (λ y. y.at) d.0))
  ];
}

-- fewer pairs
pub asked_fewer : (b : Build) (parts : List (List ℕ)) (file : List FileByte) (xs : List AskedByte) (ps qs : ℕ → FileByte → Type 0) →
    ((j : ℕ) (f : FileByte) → qs j f → ps j f) → AreAsked b parts file xs ps → AreAsked b parts file xs qs
asked_fewer b parts file xs ps qs f h = record {
  formed = h.formed;
  read = h.read;
  sound = h.sound;
  complete = λ x i base q p j g s r o z. h.complete x i base q p j g (f j g s) r o z;
}

one_pair : (n : ℕ) (bytes : List FileByte) (now : FileByte) (read j : ℕ) (f : FileByte) → AskedTo n bytes now (read + 1) j f →
    AskedTo n bytes now read j f ⊎ (f ≡ now) × (j ≡ read)
one_pair n bytes now read j f (inl h) = inl (inl h)
one_pair n bytes now read j f (inr h) = elim (cases_lt j read) [
  | inl k ↦ inl (inr (h.0, k))
  | inr k ↦ inr (
    h.0,
    (let e : j
        ≡ read = omega (arith, h.1, k) in e),
  )
]

to_within : (n : ℕ) (bytes : List FileByte) (now : FileByte) (read : ℕ) → read < n → (j : ℕ) (f : FileByte) → AskedTo n bytes now read j f → j < n
to_within n bytes now read l j f (inl h) = h.0
to_within n bytes now read l j f (inr h) = omega (arith, l, h.1)

-- the condition of a read and a byte, later
moved_word : (a b : Build) (g left right read at t : ℕ) → IsBuilt a → Grown a b g 0 → read < length (read_places a) → left ≡ slice_index (read_places a) read →
    IsWord a.dag 32 right (λ x. at) →
    IsWord b.dag 1 t (λ x. bit (term_word x a.dag left == term_word x a.dag right)) → IsWord b.dag 1 t (λ x. bit (address_of b x read == at))
moved_word a b g left right read at t c p l hl r w =
    let s = same_reads a b g p in
    record {
      place = w.place;
      value = λ x i.
          w.value x i
          ∙ ap (λ z. bit (z == term_word x a.dag right)) (ap (term_word x a.dag) hl ∙ sym (address_kept a b g 0 x read c p s l))
          ∙ ap (λ z. bit (address_of b x read == z)) (r.value x i);
    }

-- an address and a byte
pub asked_one : (a b : Build) (g : ℕ) (parts : List (List ℕ)) (file : List FileByte) (xs ys : List AskedByte) (t : Term) (r : List ℕ) (left right k read : ℕ) →
    IsBuilt a →
    Grown a b g 0 → ys ≡ xs ++ asked_of_parts (parts_asked r (file_byte_at file k)) t read (file_byte_at file k).byte → r ≡ parts_at parts read →
    k < length file → read < length (read_places a) → left ≡ slice_index (read_places a) read →
    IsWord a.dag 32 right (λ x. (file_byte_at file k).at) →
    IsWord b.dag 1 t.0 (λ x. bit (term_word x a.dag left == term_word x a.dag right)) →
    AreAsked a parts file xs (AskedTo (length (read_places a)) (take k file) (file_byte_at file k) read) →
    AreAsked b parts file ys (AskedTo (length (read_places b)) (take k file) (file_byte_at file k) (read + 1))
asked_one a b g parts file xs ys t r left right k read c p e er lk lr hl rw w h =
    let s = ap length (same_reads a b g p) in
    let f = file_byte_at file k in
    let old = AskedTo (length (read_places a)) (take k file) f read in
    let more = asked_of_parts (parts_asked (parts_at parts read) f) t read f.byte in
    subst (λ (z : List AskedByte). AreAsked b parts file z (AskedTo (length (read_places b)) (take k file) f (read + 1)))
    (sym (e ∙ ap (λ z. xs ++ asked_of_parts (parts_asked z f) t read f.byte) er))
    (subst (λ (z : ℕ). AreAsked b parts file (xs ++ more) (AskedTo z (take k file) f (read + 1))) (sym s)
    (asked_fewer b parts file (xs ++ more) (λ j q. old j q ⊎ (q ≡ f) × (j ≡ read)) (AskedTo (length (read_places a)) (take k file) f (read + 1))
    (one_pair (length (read_places a)) (take k file) f read)
    (asked_next b parts file xs old t read f (asked_kept a b g parts file xs old c p (to_within (length (read_places a)) (take k file) f read lr) h)
    (Contains-get_or file k (record { at = 0; byte = 0; head = false }) lk) (omega (arith, lr, s)) (moved_word a b g left right read f.at t.0 c p lr hl rw w))))

zero_is : (a b : ℕ) → bit (a == b) ≡ 0 → a ≡ b → ⊥
zero_is a b h e = let o = is_one a b e in absurd (omega (arith, h, o))

-- an address that is surely not that of a byte
pub asked_none_of : (a b : Build) (g : ℕ) (parts : List (List ℕ)) (file : List FileByte) (xs : List AskedByte) (left right k read t : ℕ) → IsBuilt a →
    Grown a b g 0 →
    read < length (read_places a) →
    left ≡ slice_index (read_places a) read → IsWord a.dag 32 right (λ x. (file_byte_at file k).at) →
    IsWord b.dag 1 t (λ x. bit (term_word x a.dag left == term_word x a.dag right)) →
    ((x : TermReading) → term_word x b.dag t ≡ 0) → AreAsked a parts file xs (AskedTo (length (read_places a)) (take k file) (file_byte_at file k) read) →
    AreAsked b parts file xs (AskedTo (length (read_places b)) (take k file) (file_byte_at file k) (read + 1))
asked_none_of a b g parts file xs left right k read t c p lr hl r w z h =
    let s = ap length (same_reads a b g p) in
    let f = file_byte_at file k in
    let old = AskedTo (length (read_places a)) (take k file) f read in
    let m = moved_word a b g left right read f.at t c p lr hl r w in
    subst (λ (z : ℕ). AreAsked b parts file xs (AskedTo z (take k file) f (read + 1))) (sym s)
    (asked_fewer b parts file xs (λ j q. old j q ⊎ (q ≡ f) × (j ≡ read)) (AskedTo (length (read_places a)) (take k file) f (read + 1))
    (one_pair (length (read_places a)) (take k file) f read)
    (asked_never b parts file xs old f read (λ x i q rq oq e. zero_is (address_of b x read) f.at (sym (m.value x i) ∙ z x) e)
    (asked_kept a b g parts file xs old c p (to_within (length (read_places a)) (take k file) f read lr) h)))

-- the byte is asked of no part that is read there
pub asked_unread : (a : Build) (parts : List (List ℕ)) (file : List FileByte) (xs : List AskedByte) (r : List ℕ) (k read : ℕ) →
    r ≡ parts_at parts read → parts_asked r (file_byte_at file k) ≡ [] →
    AreAsked a parts file xs (AskedTo (length (read_places a)) (take k file) (file_byte_at file k) read) →
    AreAsked a parts file xs (AskedTo (length (read_places a)) (take k file) (file_byte_at file k) (read + 1))
asked_unread a parts file xs r k read e n h =
    let f = file_byte_at file k in
    let old = AskedTo (length (read_places a)) (take k file) f read in
    asked_fewer a parts file xs (λ j q. old j q ⊎ (q ≡ f) × (j ≡ read)) (AskedTo (length (read_places a)) (take k file) f (read + 1))
    (one_pair (length (read_places a)) (take k file) f read)
    (asked_never a parts file xs old f read (λ x i p m o z. some_passed (is_of_part f) r p n (ap (λ y. has_part y p) e ∙ m) o) h)

-- no pair of one byte more
pub asked_row : (a b : Build) (g : ℕ) (parts : List (List ℕ)) (file : List FileByte) (xs : List AskedByte) (now : FileByte) (bytes : List FileByte) → IsBuilt a →
    Grown a b g 0 → AreAsked a parts file xs (AskedOf (length (read_places a)) bytes) →
    AreAsked b parts file xs (AskedTo (length (read_places b)) bytes now 0)
asked_row a b g parts file xs now bytes c p h =
    subst (λ (z : ℕ). AreAsked b parts file xs (AskedTo z bytes now 0)) (sym (ap length (same_reads a b g p)))
    (asked_fewer b parts file xs (AskedOf (length (read_places a)) bytes) (AskedTo (length (read_places a)) bytes now 0) (none (length (read_places a)))
    (asked_kept a b g parts file xs (AskedOf (length (read_places a)) bytes) c p (λ j f s. s.0) h))
  where
    none : (n j : ℕ) (f : FileByte) → AskedTo n bytes now 0 j f → AskedOf n bytes j f
    none n j f (inl s) = s
    none n j f (inr s) = absurd (omega (arith, s.1))

-- all pairs of one byte more
pub asked_all : (b : Build) (parts : List (List ℕ)) (file : List FileByte) (xs : List AskedByte) (k : ℕ) → k < length file →
    AreAsked b parts file xs (AskedTo (length (read_places b)) (take k file) (file_byte_at file k) (length (read_places b))) →
    AreAsked b parts file xs (AskedOf (length (read_places b)) (take (k + 1) file))
asked_all b parts file xs k l h =
    asked_fewer b parts file xs (AskedTo (length (read_places b)) (take k file) (file_byte_at file k) (length (read_places b)))
    (AskedOf (length (read_places b)) (take (k + 1) file))
    (λ j f s. elim (Contains-push_cases (take k file) (file_byte_at file k) f (subst
    (λ (z : List FileByte). Contains z f) (take_more file k (record { at = 0; byte = 0; head = false }) l) s.1)) [
      | inl m ↦ inl (s.0, m)
      | inr m ↦ inr (sym m, s.0)
    ]) h

-- a word stays as nodes are added
pub word_kept : (a b : Build) (g w t : ℕ) (f : TermReading → ℕ) → Grown a b g 0 → IsWord a.dag w t f → IsWord b.dag w t f
word_kept a b g w t f p h = record { place = grown_width a b g 0 w t p h.place; value = λ x i. grown_word a b g 0 x t p h.place.0 ∙ h.value x i }

-- the gates of one byte more
pub byte_more : (r k n : ℕ) → n ≡ r → 32 * (r * k) + 32 * n ≡ 32 * (r * (k + 1))
byte_more r k n e = ap (λ z. 32 * (r * k) + 32 * z) e ∙ (let q : 32 * (r * k) + 32 * r ≡ 32 * (r * (k + 1)) = grind arith in q)
