-- The inputs of the cells of a program are those of the cells of its frame.
use Rattle.std.proofs.Common.{◌≡◌, refl, ap, sym, ◌∙◌, ℕ, List, [], ◌∷◌, ◌++◌, length, Bool, zero, false}
use Rattle.std.specs.Prelude.{map, filter, if◌then◌else◌}
use Rattle.std.specs.List.{flat_map}
use Rattle.word_spec.specs.RowFiles.{from_to}
use Rattle.bilv_spec.specs.Evidence as evidence
use Rattle.walk_spec.specs.Unrolled as tables
use Rattle.term_spec.specs.Cells as cells
use Rattle.term_spec.specs.ClauseForm as clauses
use Rattle.frame_spec.specs.FrameQuestions.{Input, OfChoice}
use Rattle.frame_spec.specs.FrameWalk.{UnrolledProgram, point_at}
use Rattle.frame_laws.specs.HeadlessLaws.{as_action, as_unrolled, as_input}
use Rattle.frame_terms.specs.FrameClauseForm.{PartInput, RegisterBit, FlagBit, ChoiceBit, ByteBit, named, register_bits, flag_bits, drawn_places, gift_bits, input_list}
use Rattle.frame_terms.specs.HeadlessTerms.{as_read, as_cells, HeadlessInputLists}
use Rattle.frame_laws.proofs.HeadlessWalks.{place_same, count_same}

module _ {X Y : Type 0} (f : X → Y) where
  mapped_append : (xs ys : List X) → map f (xs ++ ys) ≡ map f xs ++ map f ys
  mapped_append [] ys = refl
  mapped_append (x ∷ xs) ys = ap (λ z. f x ∷ z) (mapped_append xs ys)

-- lists of bits that are named alike
module _ (to : PartInput → Input) where
  row_same : (make : ℕ → PartInput) (its : ℕ → evidence.Input) → ((b : ℕ) → to (make b) ≡ as_input (its b)) → (bits : List ℕ) →
      map to (map make bits) ≡ map as_input (map its bits)
  row_same make its e [] = refl
  row_same make its e (b ∷ bits) = ap (λ z. z ∷ map to (map make bits)) (e b) ∙ ap (λ z. as_input (its b) ∷ z) (row_same make its e bits)

  blocks_same : {A B : Type 0} (move : B → A) (make : A → ℕ → PartInput) (its : B → ℕ → evidence.Input) →
      ((n : B) (b : ℕ) → to (make (move n) b) ≡ as_input (its n b)) → (bits : List ℕ) (names : List B) →
      map to (flat_map (λ n. map (make n) bits) (map move names)) ≡ map as_input (flat_map (λ n. map (its n) bits) names)
  blocks_same move make its e bits [] = refl
  blocks_same move make its e bits (n ∷ names) =
      mapped_append to (map (make (move n)) bits) (flat_map (λ n. map (make n) bits) (map move names))
      ∙ ap (λ z. z ++ map to (flat_map (λ n. map (make n) bits) (map move names))) (row_same (make (move n)) (its n) (e n) bits)
      ∙ ap (λ z. map as_input (map (its n) bits) ++ z) (blocks_same move make its e bits names)
      ∙ sym (mapped_append as_input (map (its n) bits) (flat_map (λ n. map (its n) bits) names))

map_id : (xs : List ℕ) → map (λ n. n) xs ≡ xs
map_id [] = refl
map_id (x ∷ xs) = ap (λ z. x ∷ z) (map_id xs)

filter_same : (f g : ℕ → Bool) → ((n : ℕ) → f n ≡ g n) → (xs : List ℕ) → filter f xs ≡ filter g xs
filter_same f g e [] = refl
filter_same f g e (x ∷ xs) =
    ap (λ z. if z then x ∷ filter f xs else filter f xs) (e x) ∙ ap (λ z. if g x then x ∷ z else z) (filter_same f g e xs)

none_flat : (f : ℕ → List PartInput) → ((i : ℕ) → f i ≡ []) → (xs : List ℕ) → flat_map f xs ≡ []
none_flat f e [] = refl
none_flat f e (x ∷ xs) = ap (λ z. z ++ flat_map f xs) (e x) ∙ none_flat f e xs

module _ (u : tables.UnrolledProgram) (c : cells.Cells) where
  abbrev v : UnrolledProgram
  v = as_unrolled u

  abbrev registers : List PartInput
  registers = register_bits zero u.registers

  abbrev flags : List PartInput
  flags = flag_bits zero (from_to 0 u.flags)

  abbrev choices : List ℕ → List PartInput
  choices places = flat_map (λ i. map (ChoiceBit i) (from_to 0 2)) places

  abbrev reads : List PartInput
  reads = flat_map (λ b. map (ByteBit b.part b.address) (from_to 0 8)) (as_cells c).reads

  abbrev gifts : List PartInput
  gifts = flat_map (λ i. gift_bits v i (point_at v i).does) (from_to 0 (length v.points))

  no_gift_by : (i : ℕ) (a : tables.Action) → gift_bits v i (as_action a) ≡ []
  no_gift_by i (tables.Executes list) = refl

  no_gift : gifts ≡ []
  no_gift =
      none_flat (λ i. gift_bits v i (point_at v i).does)
      (λ i. ap (λ z. gift_bits v i z.does) (place_same u i) ∙ no_gift_by i (tables.point_at u i).does) (from_to 0 (length v.points))

  places_same : drawn_places v ≡ clauses.drawn_places u
  places_same =
      ap (λ z. filter (λ i. (point_at v i).draws) (from_to 0 z)) (count_same u)
      ∙ filter_same (λ i. (point_at v i).draws) (λ i. (tables.point_at u i).draws) (λ i. ap (λ z. z.draws) (place_same u i)) (from_to 0 (length u.points))

  abbrev its_registers : List evidence.Input
  its_registers = flat_map (λ n. map (evidence.OfRegister n) (from_to 0 32)) u.registers

  abbrev its_flags : List evidence.Input
  its_flags = map evidence.OfFlag (from_to 0 u.flags)

  registers_same : map (named v) registers ≡ map as_input its_registers
  registers_same =
      ap (λ z. map (named v) (register_bits zero z)) (sym (map_id u.registers))
      ∙ blocks_same (named v) (λ n. n) (RegisterBit zero) evidence.OfRegister (λ n b. refl) (from_to 0 32) u.registers

  flags_same : map (named v) flags ≡ map as_input its_flags
  flags_same = row_same (named v) (FlagBit zero) evidence.OfFlag (λ b. refl) (from_to 0 u.flags)

  abbrev its_choices : List evidence.Input
  its_choices = flat_map (λ i. map (evidence.OfChoice (tables.point_at u i).point) (from_to 0 2)) (clauses.drawn_places u)

  choices_same : map (named v) (choices (drawn_places v)) ≡ map as_input its_choices
  choices_same =
      ap (λ z. map (named v) (choices z)) (places_same ∙ sym (map_id (clauses.drawn_places u)))
      ∙ blocks_same (named v) (λ n. n) ChoiceBit (λ i. evidence.OfChoice (tables.point_at u i).point)
      (λ i b. ap (λ z. OfChoice z.point b) (place_same u i)) (from_to 0 2) (clauses.drawn_places u)

  abbrev its_reads : List evidence.Input
  its_reads = flat_map (λ j. map (evidence.OfByte j) (from_to 0 8)) (from_to 0 (length c.addresses))

  reads_same : map (named v) reads ≡ map as_input its_reads
  reads_same =
      blocks_same (named v) as_read (λ b. ByteBit b.part b.address) evidence.OfByte (λ j b. refl) (from_to 0 8) (from_to 0 (length c.addresses))

  lists_same : map (named v) (input_list v false (as_cells c)) ≡ map as_input (clauses.input_list u c)
  lists_same =
      ap (λ z. map (named v) (registers ++ (flags ++ (choices (drawn_places v) ++ (z ++ reads))))) no_gift
      ∙ mapped_append (named v) registers (flags ++ (choices (drawn_places v) ++ reads))
      ∙ ap (λ z. map (named v) registers ++ z) (mapped_append (named v) flags (choices (drawn_places v) ++ reads))
      ∙ ap (λ z. map (named v) registers ++ (map (named v) flags ++ z)) (mapped_append (named v) (choices (drawn_places v)) reads)
      ∙ ap (λ z. z ++ (map (named v) flags ++ (map (named v) (choices (drawn_places v)) ++ map (named v) reads))) registers_same
      ∙ ap (λ z. map as_input its_registers ++ (z ++ (map (named v) (choices (drawn_places v)) ++ map (named v) reads))) flags_same
      ∙ ap (λ z. map as_input its_registers ++ (map as_input its_flags ++ (z ++ map (named v) reads))) choices_same
      ∙ ap (λ z. map as_input its_registers ++ (map as_input its_flags ++ (map as_input its_choices ++ z))) reads_same
      ∙ sym (mapped_append as_input its_registers (its_flags ++ (its_choices ++ its_reads))
      ∙ ap (λ z. map as_input its_registers ++ z) (mapped_append as_input its_flags (its_choices ++ its_reads)
      ∙ ap (λ z. map as_input its_flags ++ z) (mapped_append as_input its_choices its_reads)))

pub headless_input_lists : HeadlessInputLists
headless_input_lists u c = lists_same u c
