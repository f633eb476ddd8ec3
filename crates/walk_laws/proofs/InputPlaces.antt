-- The inputs of cells by their places: each is in the list at its place, and what is in the list is an input.
use Rattle.std.proofs.Common.{◌≡◌, inl, inr, refl, ap, sym, ◌∙◌, subst, arith, ℕ, zero, suc, ◌+◌, ◌*◌, ◌<◌, [], ◌∷◌, ◌++◌, List, Some, Bool, true, false, length}
use Rattle.std.specs.Prelude.{◌==◌, ◌||◌, nat_lt, nat_eq, slice_get, slice_index, slice_index_or, map, if◌then◌else◌}
use Rattle.std.specs.List.{list_any}
use Rattle.std.proofs.lemmas.Bool.Decides.{nat_tests}
use Rattle.std.proofs.lemmas.Bool.{lt-ltb, ltb-true, ltb-false}
use Rattle.std.proofs.lemmas.Option.{slice_get_within, slice_get-get_or, get_or_from_slice_get}
use Rattle.word_spec.specs.RowFiles.{from_to}
use Rattle.word_spec.specs.Words.{bit}
use Rattle.bilv_spec.specs.Run.{Program}
use Rattle.bilv_spec.specs.Points.{Point}
use Rattle.bilv_spec.specs.Evidence.{Input, OfRegister, OfFlag, OfChoice, OfByte}
use Rattle.bilv_spec.proofs.Pigeons.{truth, at_in}
use Rattle.bilv_spec.proofs.PointTests.{same_point, same_point_is, same_point_self, not_any}
use Rattle.walk_spec.specs.Unrolled.{UnrolledPoint, UnrolledProgram, no_point, point_at, is_register_of, is_flag_of}
use Rattle.walk_spec.specs.Unrolling.{IsUnrolling}
use Rattle.term_spec.specs.WalkQuestions.{DrawsAt}
use Rattle.term_spec.specs.Cells.{Cells}
use Rattle.term_spec.specs.ClauseForm.{drawn_below, drawn_places, first_flag, first_choice, first_byte, inputs, input_list, place_in}
use Rattle.walk_laws.proofs.InputOrder.{get_left, get_right, get_split, length_append, row_get, row_length, row_is, blocks, block_length, block_get, block_is, passed_below, passed_length, passed_get, passed_is}

-- the numbers from one on
pub range_get : (n count i : ℕ) → i < count → slice_get (from_to n count) i ≡ Some (n + i)
range_get n zero i l = absurd (omega arith)
range_get n (suc count) zero l = ap Some (let e : n ≡ n + 0 = omega arith in e)
range_get n (suc count) (suc i) l = range_get (n + 1) count i (omega arith) ∙ ap Some (let e : n + 1 + i ≡ n + suc i = omega arith in e)

pub range_length : (n count : ℕ) → length (from_to n count) ≡ count
range_length n zero = refl
range_length n (suc count) = let e = range_length (n + 1) count in omega arith

number_at : (xs : List ℕ) (i n : ℕ) → slice_get xs i ≡ Some n → slice_index xs i ≡ n
number_at xs i n e = get_or_from_slice_get xs i n 0 e

-- the place of a number that is in a list
pub place_found : (rs : List ℕ) (n : ℕ) → list_any (nat_eq n) rs ≡ true → (place_in rs n < length rs) × (slice_index rs (place_in rs n) ≡ n)
place_found [] n h = absurd (cc)
place_found (r ∷ rs) n h = by (r == n) refl (λ g. place_found rs n g)
  where
    by : (b : Bool) → (r == n) ≡ b → (list_any (nat_eq n) rs ≡ true → (place_in rs n < length rs) × (slice_index rs (place_in rs n) ≡ n)) →
        ((if b then 0 else place_in rs n + 1) < suc (length rs)) × (slice_index (r ∷ rs) (if b then 0 else place_in rs n + 1) ≡ n)
    by true e f = (omega arith, (let s : r ≡ n = grind (arith, nat_tests) in s))
    by false e f =
        let other : nat_eq n r ≡ false = grind (arith, nat_tests) in
        let q = f (ap (λ z. z || list_any (nat_eq n) rs) (sym other) ∙ h) in
        let l = q.0 in
        (omega arith, ap (slice_index (r ∷ rs)) (let s : place_in rs n + 1 ≡ suc (place_in rs n) = omega arith in s) ∙ q.1)

-- an element of a list is found
pub any_number : (rs : List ℕ) (q : ℕ) → q < length rs → list_any (nat_eq (slice_index rs q)) rs ≡ true
any_number rs q l = elim (truth (list_any (nat_eq (slice_index rs q)) rs)) [
  | inl t ↦ t
  | inr f ↦ absurd (not_any (nat_eq (slice_index rs q)) rs f (slice_index rs q) (at_in rs q (slice_index rs q) (slice_get-get_or rs q 0 l))
      (same (slice_index rs q)))
]
  where
    same : (n : ℕ) → nat_eq n n ≡ true
    same n = grind (arith, nat_tests)

-- where a point stands
pub spot_in : List UnrolledPoint → Point → ℕ
spot_in [] x = 0
spot_in (q ∷ qs) x = if same_point q.point x then 0 else spot_in qs x + 1

spot_found : (qs : List UnrolledPoint) (x : Point) (i : ℕ) → i < length qs → (slice_index_or qs i no_point).point ≡ x → (spot_in qs x < length qs) ×
    ((slice_index_or qs (spot_in qs x) no_point).point ≡ x)
unfolding spot_in
spot_found [] x i l e = absurd (omega arith)
spot_found (q ∷ qs) x i l e = by (same_point q.point x) refl i l e (λ j m f. spot_found qs x j m f)
  where
    by : (b : Bool) → same_point q.point x ≡ b → (i : ℕ) → i < suc (length qs) → (slice_index_or (q ∷ qs) i no_point).point ≡ x →
        ((j : ℕ) → j < length qs → (slice_index_or qs j no_point).point ≡ x → (spot_in qs x < length qs) ×
        ((slice_index_or qs (spot_in qs x) no_point).point ≡ x)) →
        ((if b then 0 else spot_in qs x + 1) < suc (length qs)) × ((slice_index_or (q ∷ qs) (if b then 0 else spot_in qs x + 1) no_point).point ≡ x)
    by true t i l e f = (omega arith, same_point_is q.point x t)
    by false t zero l e f = absurd (let c : true ≡ false = sym (ap (same_point q.point) (sym e) ∙ same_point_self q.point) ∙ t in cc)
    by false t (suc i) l e f =
        let r = f i (omega arith) e in
        let m = r.0 in
        (omega arith, ap (λ z. (slice_index_or (q ∷ qs) z no_point).point) (let s : spot_in qs x + 1 ≡ suc (spot_in qs x) = omega arith in s) ∙ r.1)

pub map_get : (qs : List UnrolledPoint) (i : ℕ) → i < length qs → slice_get (map (λ q. q.point) qs) i ≡ Some ((slice_index_or qs i no_point).point)
map_get [] i l = absurd (omega arith)
map_get (q ∷ qs) zero l = refl
map_get (q ∷ qs) (suc i) l = map_get qs i (omega arith)

map_length : (qs : List UnrolledPoint) → length (map (λ q. q.point) qs) ≡ length qs
map_length [] = refl
map_length (q ∷ qs) = ap suc (map_length qs)

module _ (p : Program) (k : ℕ) (u : UnrolledProgram) (un : IsUnrolling p k u) (c : Cells) where
  abbrev pub spot : Point → ℕ
  spot x = spot_in u.points x

  -- each point has one place
  pub one_place : (i j : ℕ) → i < length u.points → j < length u.points → (point_at u i).point ≡ (point_at u j).point → i ≡ j
  one_place i j l m e = elim (truth (nat_lt i j)) [
    | inl t ↦ absurd (apart i j (grind (arith, nat_tests)) m l e)
    | inr f ↦ elim (truth (nat_lt j i)) [
      | inl t ↦ absurd (apart j i (grind (arith, nat_tests)) l m (sym e))
      | inr g ↦ grind (arith, nat_tests)
    ]
  ]
    where
      apart : (i j : ℕ) → i < j → j < length u.points → i < length u.points → (point_at u i).point ≡ (point_at u j).point → ⊥
      apart i j h m l e =
          let n = map_length u.points in
          un.points.once i j h (omega arith) (map_get u.points i l ∙ ap Some e ∙ sym (map_get u.points j m))

  pub spot_is : (i : ℕ) → i < length u.points → spot (point_at u i).point ≡ i
  spot_is i l = let q = spot_found u.points (point_at u i).point i l refl in one_place (spot (point_at u i).point) i q.0 l q.1

  -- each register has one place
  one_register : (i j : ℕ) → i < length u.registers → j < length u.registers → slice_index u.registers i ≡ slice_index u.registers j → i ≡ j
  one_register i j l m e = elim (truth (nat_lt i j)) [
    | inl t ↦ absurd (let r = un.registers_rise i j (ltb-true i j t) m in omega arith)
    | inr f ↦ elim (truth (nat_lt j i)) [
      | inl t ↦ absurd (let r = un.registers_rise j i (ltb-true j i t) l in omega arith)
      | inr g ↦ (let a = ltb-false i j f in let b = ltb-false j i g in omega arith)
    ]
  ]

  register_is : (q : ℕ) → q < length u.registers → place_in u.registers (slice_index u.registers q) ≡ q
  register_is q l =
      let f = place_found u.registers (slice_index u.registers q) (any_number u.registers q l) in
      one_register (place_in u.registers (slice_index u.registers q)) q f.0 l f.1

  abbrev draws : ℕ → Bool
  draws i = (point_at u i).draws

  drawn_is : (i : ℕ) → drawn_below u i ≡ passed_below draws i
  unfolding passed_below
  drawn_is zero = refl
  drawn_is (suc i) = ap (λ z. z + bit (point_at u i).draws) (drawn_is i)

  -- an input, and its place
  abbrev pub IsInputOf : Input → Type 0
  IsInputOf (OfRegister n b) = (is_register_of u n ≡ true) × (b < 32)
  IsInputOf (OfFlag f) = is_flag_of u f ≡ true
  IsInputOf (OfChoice x b) = (i : ℕ) × DrawsAt u i × ((point_at u i).point ≡ x) × (b < 2)
  IsInputOf (OfByte j b) = (j < length c.addresses) × (b < 8)

  abbrev pub place : Input → ℕ
  place (OfRegister n b) = 32 * place_in u.registers n + b
  place (OfFlag f) = first_flag u + f
  place (OfChoice x b) = first_choice u + 2 * drawn_below u (spot x) + b
  place (OfByte j b) = first_byte u + 8 * j + b

  abbrev register_list : List Input
  register_list = blocks OfRegister 32 u.registers

  abbrev flag_list : List Input
  flag_list = map OfFlag (from_to 0 u.flags)

  abbrev choice_of : ℕ → ℕ → Input
  choice_of i b = OfChoice (point_at u i).point b

  abbrev choice_list : List Input
  choice_list = blocks choice_of 2 (drawn_places u)

  abbrev byte_list : List Input
  byte_list = blocks OfByte 8 (from_to 0 (length c.addresses))

  registers_long : length register_list ≡ 32 * length u.registers
  registers_long = block_length OfRegister 32 u.registers

  flags_long : length flag_list ≡ u.flags
  flags_long = row_length OfFlag 0 u.flags

  choices_long : length choice_list ≡ 2 * drawn_below u (length u.points)
  choices_long = block_length choice_of 2 (drawn_places u) ∙ ap (λ z. 2 * z) (passed_length draws (length u.points) ∙ sym (drawn_is (length u.points)))

  bytes_long : length byte_list ≡ 8 * length c.addresses
  bytes_long = block_length OfByte 8 (from_to 0 (length c.addresses)) ∙ ap (λ z. 8 * z) (range_length 0 (length c.addresses))

  pub all_long : length (input_list u c) ≡ inputs u c
  all_long =
      length_append register_list (flag_list ++ (choice_list ++ byte_list))
      ∙ (let e = length_append flag_list (choice_list ++ byte_list) in let f = length_append choice_list byte_list in
      let r = registers_long in let s = flags_long in let t = choices_long in let v = bytes_long in omega arith)

  -- the number of a drawn place among those that draw
  drawn_get : (i : ℕ) → DrawsAt u i → slice_get (drawn_places u) (drawn_below u i) ≡ Some i
  drawn_get i h = ap (slice_get (drawn_places u)) (drawn_is i) ∙ passed_get draws (length u.points) i h.0 h.1

  pub drawn_before : (i : ℕ) → DrawsAt u i → drawn_below u i < drawn_below u (length u.points)
  drawn_before i h =
      let l = slice_get_within (drawn_places u) (drawn_below u i) i (drawn_get i h) in
      subst (λ (z : ℕ). drawn_below u i < z) (passed_length draws (length u.points) ∙ sym (drawn_is (length u.points))) l

  -- an input stands at its place
  pub stands_at : (x : Input) → IsInputOf x → slice_get (input_list u c) (place x) ≡ Some x
  stands_at (OfRegister n b) h =
      let f = place_found u.registers n h.0 in
      get_left register_list (flag_list ++ (choice_list ++ byte_list)) (32 * place_in u.registers n + b) (let r = registers_long in let l = f.0 in let m = h.1
      in omega arith)
      ∙ block_get OfRegister 32 u.registers (place_in u.registers n) b f.0 h.1 ∙ ap (λ z. Some (OfRegister z b)) f.1
  stands_at (OfFlag f) h =
      let l : f < u.flags = below f u.flags h in
      ap (slice_get (input_list u c)) (let r = registers_long in let e : 32 * length u.registers + f ≡ length register_list + f = omega arith in e)
      ∙ get_right register_list (flag_list ++ (choice_list ++ byte_list)) f
      ∙ get_left flag_list (choice_list ++ byte_list) f (let s = flags_long in omega arith)
      ∙ row_get OfFlag 0 u.flags f l ∙ ap (λ z. Some (OfFlag z)) (let e : 0 + f ≡ f = omega arith in e)
    where
      below : (f n : ℕ) → nat_lt f n ≡ true → f < n
      below f n e = grind (arith, nat_tests)
  stands_at (OfChoice x b) (i, d, e, l) =
      let s : spot x ≡ i = ap spot (sym e) ∙ spot_is i d.0 in
      let g = drawn_get i d in
      let w = drawn_before i d in
      ap (λ z. slice_get (input_list u c) (first_choice u + 2 * drawn_below u z + b)) s
      ∙ ap (slice_get (input_list u c)) (let r = registers_long in let t = flags_long in
      let a : 32 * length u.registers + u.flags + 2 * drawn_below u i + b
      ≡ length register_list + (length flag_list + (2 * drawn_below u i + b)) = omega arith in a)
      ∙ get_right register_list (flag_list ++ (choice_list ++ byte_list)) (length flag_list + (2 * drawn_below u i + b))
      ∙ get_right flag_list (choice_list ++ byte_list) (2 * drawn_below u i + b)
      ∙ get_left choice_list byte_list (2 * drawn_below u i + b) (let t = choices_long in omega arith)
      ∙ block_get choice_of 2 (drawn_places u) (drawn_below u i) b (slice_get_within (drawn_places u) (drawn_below u i) i g) l
      ∙ ap (λ z. Some (OfChoice (point_at u z).point b)) (number_at (drawn_places u) (drawn_below u i) i g) ∙ ap (λ z. Some (OfChoice z b)) e
  stands_at (OfByte j b) h =
      ap (slice_get (input_list u c)) (let r = registers_long in let t = flags_long in let v = choices_long in
      let a : 32 * length u.registers + u.flags + 2 * drawn_below u (length u.points) + 8 * j + b
      ≡ length register_list + (length flag_list + (length choice_list + (8 * j + b))) = omega arith in a)
      ∙ get_right register_list (flag_list ++ (choice_list ++ byte_list)) (length flag_list + (length choice_list + (8 * j + b)))
      ∙ get_right flag_list (choice_list ++ byte_list) (length choice_list + (8 * j + b))
      ∙ get_right choice_list byte_list (8 * j + b)
      ∙ block_get OfByte 8 (from_to 0 (length c.addresses)) j b (subst (λ (z : ℕ). j < z) (sym (range_length 0 (length c.addresses))) h.0) h.1
      ∙ ap (λ z. Some (OfByte z b)) (number_at (from_to 0 (length c.addresses)) j (0 + j) (range_get 0 (length c.addresses) j h.0) ∙ (let e : 0 + j
      ≡ j = omega arith in e))

  -- what is in the list is an input, at its place
  abbrev Says : ℕ → Input → Type 0
  Says i x = IsInputOf x × (place x ≡ i)

  register_says : (i : ℕ) (x : Input) → slice_get register_list i ≡ Some x → Says i x
  register_says i x e =
      let r = block_is OfRegister 32 u.registers i x e in
      subst (Says i) (sym r.5) ((any_number u.registers r.0 r.2, r.3), ap (λ z. 32 * z + r.1) (register_is r.0 r.2) ∙ sym r.4)

  flag_says : (i : ℕ) (x : Input) → slice_get flag_list i ≡ Some x → Says (first_flag u + i) x
  flag_says i x e = let r = row_is OfFlag u.flags i x e in subst (Says (first_flag u + i)) (sym r.1) (lt-ltb i u.flags r.0, refl)

  choice_says : (i : ℕ) (x : Input) → slice_get choice_list i ≡ Some x → Says (first_choice u + i) x
  choice_says i x e =
      let r = block_is choice_of 2 (drawn_places u) i x e in
      let d = passed_is draws (length u.points) r.0 (slice_index (drawn_places u) r.0) (slice_get-get_or (drawn_places u) r.0 0 r.2) in
      let s = spot_is (slice_index (drawn_places u) r.0) d.0 in
      let n : drawn_below u (spot (point_at u (slice_index (drawn_places u) r.0)).point)
      ≡ r.0 = ap (drawn_below u) s ∙ drawn_is (slice_index (drawn_places u) r.0) ∙ sym d.2 in
      subst (Says (first_choice u + i)) (sym r.5) (
        (slice_index (drawn_places u) r.0, (d.0, d.1), refl, r.3),
        ap
            (λ z. first_choice u + 2 * z + r.1) n ∙ (let m = r.4 in let a : first_choice u + 2 * r.0 + r.1 ≡ first_choice u + i = omega arith in a),
      )

  byte_says : (i : ℕ) (x : Input) → slice_get byte_list i ≡ Some x → Says (first_byte u + i) x
  byte_says i x e =
      let r = block_is OfByte 8 (from_to 0 (length c.addresses)) i x e in
      let l : r.0 < length c.addresses = subst (λ (z : ℕ). r.0 < z) (range_length 0 (length c.addresses)) r.2 in
      let n : slice_index (from_to 0 (length c.addresses)) r.0
      ≡ r.0 = number_at (from_to 0 (length c.addresses)) r.0 (0 + r.0) (range_get 0 (length c.addresses) r.0 l) ∙ (let z : 0 + r.0
      ≡ r.0 = omega arith in z) in
      subst (Says (first_byte u + i)) (sym (r.5 ∙ ap (λ z. OfByte z r.1) n))
      ((l, r.3), (let m = r.4 in let a : first_byte u + 8 * r.0 + r.1 ≡ first_byte u + i = omega arith in a))

  moved : (i j : ℕ) (x : Input) → Says i x → i ≡ j → Says j x
  moved i j x h e = (h.0, h.1 ∙ e)

  pub in_list : (i : ℕ) (x : Input) → slice_get (input_list u c) i ≡ Some x → IsInputOf x × (place x ≡ i)
  in_list i x e = elim (get_split register_list (flag_list ++ (choice_list ++ byte_list)) i x e) [
    | inl h ↦ register_says i x h
    | inr h ↦ elim (get_split flag_list (choice_list ++ byte_list) h.0 x h.2) [
      | inl g ↦ moved (first_flag u + h.0) i x (flag_says h.0 x g) (let r = registers_long in let a = h.1 in omega arith)
      | inr g ↦ elim (get_split choice_list byte_list g.0 x g.2) [
        | inl f ↦ moved (first_choice u + g.0) i x (choice_says g.0 x f) (let r = registers_long in let s = flags_long in let a = h.1 in let b = g.1
            in omega arith)
        | inr f ↦ moved (first_byte u + f.0) i x (byte_says f.0 x f.2) (let r = registers_long in let s = flags_long in let t = choices_long in let a = h.1 in
            let b = g.1 in let d = f.1 in omega arith)
      ]
    ]
  ]
