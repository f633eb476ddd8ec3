-- Entries with a gap, as one list.
use Rattle.std.proofs.Common.{◌≡◌, ℕ, zero, suc, ◌+◌, ◌-◌, ◌≤◌, ◌<◌, List, [], ◌∷◌, ◌++◌, length, get_or, take, drop, set, refl, sym, ap, ◌∙◌, arith}
use Rattle.std.specs.Prelude.{reverse}
use Rattle.std.proofs.lemmas.List.{reverse-append, length-reverse, get_or-reverse, length-append, append_assoc, length-take-le}
use Rattle.byte_mem.specs.declared.gapped.Gapped.{Gapped}
use Rattle.byte_mem.specs.Gaps.{HasRoom, IsReplaced}

-- an entry before a seam and one behind it
pub or_front : (xs ys : List (ℕ × ℕ)) (i : ℕ) (d : ℕ × ℕ) → i < length xs → get_or (xs ++ ys) i d ≡ get_or xs i d
or_front [] ys i d h = absurd (omega arith)
or_front (x ∷ xs) ys zero d h = refl
or_front (x ∷ xs) ys (suc i) d h = or_front xs ys i d (omega arith)

or_back : (xs ys : List (ℕ × ℕ)) (i : ℕ) (d : ℕ × ℕ) → length xs ≤ i → get_or (xs ++ ys) i d ≡ get_or ys (i - length xs) d
or_back [] ys i d h = let z : i - 0 ≡ i = omega arith in ap (λ k. get_or ys k d) (sym z)
or_back (x ∷ xs) ys zero d h = absurd (omega arith)
or_back (x ∷ xs) ys (suc i) d h = or_back xs ys i d (omega arith) ∙ (let z : i - length xs ≡ suc i - suc (length xs) = omega arith in ap (λ k. get_or ys k d) z)

pub or_above : (xs ys : List (ℕ × ℕ)) (i : ℕ) (d : ℕ × ℕ) → length xs ≤ i → i < length xs + length ys →
    get_or (xs ++ reverse ys) i d ≡ get_or ys (length ys - 1 - (i - length xs)) d
or_above xs ys i d past within = or_back xs (reverse ys) i d past ∙ get_or-reverse ys (i - length xs) d (omega arith)

pub total : (xs ys : List (ℕ × ℕ)) → length (xs ++ reverse ys) ≡ length xs + length ys
total xs ys = length-append xs (reverse ys) ∙ ap (λ n. length xs + n) (length-reverse ys)

-- an entry that is moved over the gap
pub moved_up : (xs ys : List (ℕ × ℕ)) (x : ℕ × ℕ) → xs ++ reverse (ys ++ x ∷ []) ≡ (xs ++ x ∷ []) ++ reverse ys
moved_up xs ys x = ap (λ r. xs ++ r) (reverse-append ys (x ∷ [])) ∙ sym (append_assoc xs (x ∷ []) (reverse ys))

-- a list at a place
split_set : (xs : List (ℕ × ℕ)) (i : ℕ) (x : ℕ × ℕ) → i < length xs → set xs i x ≡ take i xs ++ x ∷ drop (suc i) xs
split_set [] i x h = absurd (omega arith)
split_set (y ∷ xs) zero x h = refl
split_set (y ∷ xs) (suc i) x h = ap (λ l. y ∷ l) (split_set xs i x (omega arith))

split_at : (xs : List (ℕ × ℕ)) (i : ℕ) → i < length xs → xs ≡ take i xs ++ get_or xs i (0, 0) ∷ drop (suc i) xs
split_at [] i h = absurd (omega arith)
split_at (y ∷ xs) zero h = refl
split_at (y ∷ xs) (suc i) h = ap (λ l. y ∷ l) (split_at xs i (omega arith))

-- another entry in a place below the gap, and above it
pub replaced_below : (xs ys : List (ℕ × ℕ)) (i : ℕ) (x : ℕ × ℕ) (new : List (ℕ × ℕ)) → i < length xs → new ≡ set xs i x →
    IsReplaced (xs ++ reverse ys) i x (new ++ reverse ys)
replaced_below xs ys i x new h e = record {
  front = take i xs;
  back = drop (suc i) xs ++ reverse ys;
  entry = get_or xs i (0, 0);
  place = length-take-le i xs (omega arith);
  was = ap (λ l. l ++ reverse ys) (split_at xs i h) ∙ append_assoc (take i xs) (get_or xs i (0, 0) ∷ drop (suc i) xs) (reverse ys);
  is = ap (λ l. l ++ reverse ys) (e ∙ split_set xs i x h) ∙ append_assoc (take i xs) (x ∷ drop (suc i) xs) (reverse ys);
}

turned : (xs front back : List (ℕ × ℕ)) (x : ℕ × ℕ) → xs ++ reverse (front ++ x ∷ back) ≡ (xs ++ reverse back) ++ x ∷ reverse front
turned xs front back x =
    ap (λ l. xs ++ l) (reverse-append front (x ∷ back) ∙ ap (λ l. l ++ reverse front) (reverse-append (x ∷ []) back) ∙ append_assoc (reverse back) (x
    ∷ []) (reverse front))
    ∙ sym (append_assoc xs (reverse back) (x ∷ reverse front))

pub replaced_above : (xs ys : List (ℕ × ℕ)) (i j : ℕ) (x : ℕ × ℕ) (new : List (ℕ × ℕ)) → length xs ≤ i → i < length xs + length ys →
    j ≡ length ys - 1 - (i - length xs) →
    new ≡ set ys j x → IsReplaced (xs ++ reverse ys) i x (xs ++ reverse new)
replaced_above xs ys i j x new past within at e =
    let inside : j < length ys = omega arith in
    record {
      front = xs ++ reverse (drop (suc j) ys);
      back = reverse (take j ys);
      entry = get_or ys j (0, 0);
      place =
          let behind : length (drop (suc j) ys) ≡ length ys - suc j = length_drop (suc j) ys in
          total xs (drop (suc j) ys) ∙ (let z : length xs + length (drop (suc j) ys) ≡ i = omega arith in z);
      was = ap (λ l. xs ++ reverse l) (split_at ys j inside) ∙ turned xs (take j ys) (drop (suc j) ys) (get_or ys j (0, 0));
      is = ap (λ l. xs ++ reverse l) (e ∙ split_set ys j x inside) ∙ turned xs (take j ys) (drop (suc j) ys) x;
    }
  where
    length_drop : (n : ℕ) (l : List (ℕ × ℕ)) → length (drop n l) ≡ length l - n
    length_drop zero l = let z : length l ≡ length l - 0 = omega arith in z
    length_drop (suc n) [] = let z : 0 ≡ 0 - suc n = omega arith in z
    length_drop (suc n) (x ∷ l) = length_drop n l ∙ (let z : length l - n ≡ suc (length l) - suc n = omega arith in z)

-- where the gap is
front_of : (xs ys es : List (ℕ × ℕ)) (n : ℕ) → xs ++ ys ≡ es → length xs ≡ n → (xs ≡ take n es) × (ys ≡ drop n es)
front_of [] ys es n e is = let z : n ≡ 0 = sym is in rw z (refl, e)
front_of (x ∷ xs) ys [] n e is = absurd (let l = ap length e in omega arith)
front_of (x ∷ xs) ys (y ∷ es) zero e is = absurd (omega arith)
front_of (x ∷ xs) ys (y ∷ es) (suc n) e is =
    let first : x ≡ y = cc in
    let others : xs ++ ys ≡ es = cc in
    let q = front_of xs ys es n others (omega arith) in
    (ap (λ l. x ∷ l) q.0 ∙ ap (λ z. z ∷ take n es) first, q.1)

pub inserted : (xs ys es : List (ℕ × ℕ)) (n : ℕ) (x : ℕ × ℕ) (new : List (ℕ × ℕ)) → xs ++ reverse ys ≡ es → length xs ≡ n → new ≡ xs ++ x ∷ [] →
    new ++ reverse ys ≡ take n es ++ x ∷ drop n es
inserted xs ys es n x new e is more =
    let q = front_of xs (reverse ys) es n e is in
    ap (λ l. l ++ reverse ys) more ∙ append_assoc xs (x ∷ []) (reverse ys) ∙ ap (λ l. l ++ x ∷ reverse ys) q.0 ∙ ap (λ l. take n es ++ x ∷ l) q.1

take_less : (n m : ℕ) (l : List (ℕ × ℕ)) → n ≤ m → take n (take m l) ≡ take n l
take_less zero m l h = refl
take_less (suc n) zero l h = absurd (omega arith)
take_less (suc n) (suc m) [] h = refl
take_less (suc n) (suc m) (x ∷ l) h = ap (λ t. x ∷ t) (take_less n m l (omega arith))

pub removed : (xs ys es : List (ℕ × ℕ)) (n : ℕ) (new : List (ℕ × ℕ)) → xs ++ reverse ys ≡ es → length xs ≡ n + 1 → new ≡ take (length xs - 1) xs →
    new ++ reverse ys ≡ take n es ++ drop (n + 1) es
removed xs ys es n new e is less =
    let q = front_of xs (reverse ys) es (n + 1) e is in
    let place : length xs - 1 ≡ n = omega arith in
    ap (λ l. l ++ reverse ys) (less ∙ ap (λ k. take k xs) place ∙ ap (take n) q.0 ∙ take_less n (n + 1) es (omega arith)) ∙ ap (λ l. take n es ++ l) q.1

-- a place whose entry was replaced
pub replaced_at : (es new : List (ℕ × ℕ)) (i : ℕ) (x : ℕ × ℕ) → IsReplaced es i x new → new ≡ take i es ++ x ∷ drop (i + 1) es
replaced_at es new i x r =
    let q = front_of r.front (r.entry ∷ r.back) es i (sym r.was) r.place in
    let more : (r.front ++ r.entry ∷ []) ++ r.back ≡ es = append_assoc r.front (r.entry ∷ []) r.back ∙ sym r.was in
    let longer : length (r.front ++ r.entry ∷ []) ≡ i + 1 = length-append r.front (r.entry ∷ []) ∙ ap (λ n. n + 1) r.place in
    let p = front_of (r.front ++ r.entry ∷ []) r.back es (i + 1) more longer in
    r.is ∙ ap (λ l. l ++ x ∷ r.back) q.0 ∙ ap (λ l. take i es ++ x ∷ l) p.1

pub less_room : (g : Gapped) (m n : ℕ) → n ≤ m → HasRoom g m → HasRoom g n
less_room g m n le room = record { below = let b = room.below in omega arith; above = let a = room.above in omega arith }
