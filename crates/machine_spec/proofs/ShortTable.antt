-- The lines of the table of compressed instructions are apart: a number of the halfword tells which line it is of.
use Rattle.std.proofs.Common.{◌≡◌, ℕ, zero, suc, ◌+◌, ◌*◌, refl, ap, sym, ◌∙◌, List, [], ◌∷◌, Some, true, false, Bool, if◌then◌else◌, arith}
use Rattle.std.specs.Prelude.{◌==◌, ◌&&◌, ◌||◌, not, slice_get}
use Rattle.std.specs.List.{list_any}
use Rattle.std.proofs.lemmas.Bool.{eqb-true, eq-eqb, ne_eqb, or_right}
use Rattle.word_spec.specs.Words.{bits}
use Rattle.machine_spec.specs.RvShort.{Short, shorts, is_short, full, back}
use Rattle.machine_spec.specs.RvMachineLaws.{OneShort}

-- which of the lines of one quadrant and funct
abbrev part : (quadrant funct : ℕ) → ℕ → ℕ
part q f h =
    if (q == 1) && (f == 3) then (if full h == 2 then 0 else 1)
    else if (q == 1) && (f == 4) then
    (if bits 12 10 h == 0 then 0 else if bits 12 10 h == 1 then 1 else if bits 11 10 h == 2 then 2 else 3 + bits 6 5 h)
    else if (q == 2) && (f == 4) then 4 * bits 12 12 h + (if back h == 0 then (if full h == 0 then 0 else 1) else 2)
    else 0

-- the number that tells the line
unfoldable key : ℕ → ℕ
key h = 1000 * bits 1 0 h + 100 * bits 15 13 h + part (bits 1 0 h) (bits 15 13 h) h

both : (a b : Bool) → (a && b) ≡ true → (a ≡ true) × (b ≡ true)
both true b h = (refl, h)
both false b h = cc

no : (b : Bool) → not b ≡ true → b ≡ false
no true h = cc
no false h = refl

line_key : (q f n h : ℕ) (b : Bool) → ((bits 1 0 h == q) && (bits 15 13 h == f) && b) ≡ true → (b ≡ true → part q f h ≡ n) →
    key h ≡ 1000 * q + 100 * f + n
unfolding key
line_key q f n h b e p =
    let x = both _ _ e in
    let y = both _ _ x.0 in
    let a : bits 1 0 h ≡ q = eqb-true (bits 1 0 h) q y.0 in
    let c : bits 15 13 h ≡ f = eqb-true (bits 15 13 h) f y.1 in
    ap (λ z. 1000 * z + 100 * bits 15 13 h + part z (bits 15 13 h) h) a
    ∙ (ap (λ z. 1000 * q + 100 * z + part q z h) c ∙ ap (λ z. 1000 * q + 100 * f + z) (p x.1))

-- the lines with quadrant 1 and funct 3
of_two : (h : ℕ) (b : Bool) → ((full h == 2) && b) ≡ true → part 1 3 h ≡ 0
of_two h b e = ap (λ (z : Bool). if z then 0 else 1) (both _ _ e).0

of_others : (h : ℕ) (b : Bool) → (not (full h == 2) && b) ≡ true → part 1 3 h ≡ 1
of_others h b e = ap (λ (z : Bool). if z then 0 else 1) (no _ (both _ _ e).0)

-- those with quadrant 1 and funct 4
abbrev picked : Bool → Bool → Bool → ℕ → ℕ
picked a b c n = if a then 0 else if b then 1 else if c then 2 else 3 + n

first_upper : (h : ℕ) → (bits 12 10 h == 0) ≡ true → part 1 4 h ≡ 0
first_upper h e = ap (λ (z : Bool). picked z (bits 12 10 h == 1) (bits 11 10 h == 2) (bits 6 5 h)) e

second_upper : (h : ℕ) → (bits 12 10 h == 1) ≡ true → part 1 4 h ≡ 1
second_upper h e =
    let v : bits 12 10 h ≡ 1 = eqb-true (bits 12 10 h) 1 e in
    ap (λ (n : ℕ). picked (n == 0) (n == 1) (bits 11 10 h == 2) (bits 6 5 h)) v

third_upper : (h : ℕ) → (bits 11 10 h == 2) ≡ true → part 1 4 h ≡ 2
third_upper h e =
    let v : bits 11 10 h ≡ 2 = eqb-true (bits 11 10 h) 2 e in
    let a : (bits 12 10 h == 0) ≡ false = ne_eqb (bits 12 10 h) 0 (λ q. absurd (omega arith)) in
    let b : (bits 12 10 h == 1) ≡ false = ne_eqb (bits 12 10 h) 1 (λ q. absurd (omega arith)) in
    ap (λ (z : Bool). picked z (bits 12 10 h == 1) (bits 11 10 h == 2) (bits 6 5 h)) a
    ∙ (ap (λ (z : Bool). picked false z (bits 11 10 h == 2) (bits 6 5 h)) b ∙ ap (λ (z : Bool). picked false false z (bits 6 5 h)) e)

of_pair : (n h : ℕ) → ((bits 12 10 h == 3) && (bits 6 5 h == n)) ≡ true → part 1 4 h ≡ 3 + n
of_pair n h e =
    let x = both _ _ e in
    let v : bits 12 10 h ≡ 3 = eqb-true (bits 12 10 h) 3 x.0 in
    let w : bits 6 5 h ≡ n = eqb-true (bits 6 5 h) n x.1 in
    let c : (bits 11 10 h == 2) ≡ false = ne_eqb (bits 11 10 h) 2 (λ q. absurd (omega arith)) in
    ap (λ (m : ℕ). picked (m == 0) (m == 1) (bits 11 10 h == 2) (bits 6 5 h)) v
    ∙ (ap (λ (z : Bool). picked false false z (bits 6 5 h)) c ∙ ap (λ m. 3 + m) w)

-- those with quadrant 2 and funct 4
abbrev last_part : ℕ → Bool → Bool → ℕ
last_part top b f = 4 * top + (if b then (if f then 0 else 1) else 2)

of_last : (h top : ℕ) (b f : Bool) → (bits 12 12 h == top) ≡ true → (back h == 0) ≡ b → (full h == 0) ≡ f → part 2 4 h ≡ last_part top b f
of_last h top b f x y z =
    ap (λ (t : ℕ). last_part t (back h == 0) (full h == 0)) (eqb-true (bits 12 12 h) top x)
    ∙ (ap (λ (t : Bool). last_part top t (full h == 0)) y ∙ ap (λ (t : Bool). last_part top b t) z)

last_zero : (h top : ℕ) → ((bits 12 12 h == top) && (back h == 0) && (full h == 0)) ≡ true → part 2 4 h ≡ 4 * top + 0
last_zero h top e = let x = both _ _ e in let y = both _ _ x.0 in of_last h top true true y.0 y.1 x.1

last_jump : (h top : ℕ) → ((bits 12 12 h == top) && (back h == 0) && not (full h == 0)) ≡ true → part 2 4 h ≡ 4 * top + 1
last_jump h top e = let x = both _ _ e in let y = both _ _ x.0 in of_last h top true false y.0 y.1 (no _ x.1)

last_value : (h top : ℕ) → ((bits 12 12 h == top) && not (back h == 0)) ≡ true → part 2 4 h ≡ 4 * top + 2
last_value h top e = let x = both _ _ e in of_last h top false (full h == 0) x.0 (no _ x.1) refl

-- each line has its number
abbrev HasKey : Short → ℕ → Type 0
HasKey x k = (h : ℕ) → is_short x h ≡ true → key h ≡ k

abbrev HaveKeys : List Short → List ℕ → Type 0
HaveKeys [] [] = Unit {0}
HaveKeys (x ∷ xs) (k ∷ ks) = HasKey x k × HaveKeys xs ks
HaveKeys [] (k ∷ ks) = ⊥
HaveKeys (x ∷ xs) [] = ⊥

abbrev keys : List ℕ
keys =
    0 ∷ 200 ∷ 600 ∷ 1000 ∷ 1100 ∷ 1200 ∷ 1300 ∷ 1301 ∷ 1400 ∷ 1401 ∷ 1402 ∷ 1403 ∷ 1404 ∷ 1405 ∷ 1406 ∷ 1500 ∷ 1600 ∷ 1700 ∷ 2000 ∷ 2200 ∷ 2401 ∷ 2402 ∷ 2404
    ∷ 2405 ∷ 2406 ∷ 2600 ∷ []

plain : (q f h : ℕ) (b : Bool) → ((bits 1 0 h == q) && (bits 15 13 h == f) && b) ≡ true → part q f h ≡ 0 → key h ≡ 1000 * q + 100 * f + 0
plain q f h b e p = line_key q f 0 h b e (λ t. p)

have_keys : HaveKeys shorts keys
unfolding shorts
have_keys = (
  (λ h e. plain 0 0 h _ e refl),
  (
    (λ h e. plain 0 2 h _ e refl),
    (
      (λ h e. plain 0 6 h _ e refl),
      (
        (λ h e. plain 1 0 h _ e refl),
        (
          (λ h e. plain 1 1 h _ e refl),
          (
            (λ h e. plain 1 2 h _ e refl),
            (
              (λ h e. line_key 1 3 0 h _ e (of_two h _)),
              (
                (λ h e. line_key 1 3 1 h _ e (of_others h _)),
                (
                  (λ h e. line_key 1 4 0 h _ e (first_upper h)),
                  (
                    (λ h e. line_key 1 4 1 h _ e (second_upper h)),
                    (
                      (λ h e. line_key 1 4 2 h _ e (third_upper h)),
                      (
                        (λ h e. line_key 1 4 3 h _ e (of_pair 0 h)),
                        (
                          (λ h e. line_key 1 4 4 h _ e (of_pair 1 h)),
                          (
                            (λ h e. line_key 1 4 5 h _ e (of_pair 2 h)),
                            (
                              (λ h e. line_key 1 4 6 h _ e (of_pair 3 h)),
                              (
                                (λ h e. plain 1 5 h _ e refl),
                                (
                                  (λ h e. plain 1 6 h _ e refl),
                                  (
                                    (λ h e. plain 1 7 h _ e refl),
                                    (
                                      (λ h e. plain 2 0 h _ e refl),
                                      (
                                        (λ h e. plain 2 2 h _ e refl),
                                        (
                                          (λ h e. line_key 2 4 1 h _ e (last_jump h 0)),
                                          (
                                            (λ h e. line_key 2 4 2 h _ e (last_value h 0)),
                                            (
                                              (λ h e. line_key 2 4 4 h _ e (last_zero h 1)),
                                              (
                                                (λ h e. line_key 2 4 5 h _ e (last_jump h 1)),
                                                (
                                                  (λ h e. line_key 2 4 6 h _ e (last_value h 1)),
                                                  (
                                                    (λ h e. plain 2 6 h _ e refl),
                                                    tt,
                                                  ),
                                                ),
                                              ),
                                            ),
                                          ),
                                        ),
                                      ),
                                    ),
                                  ),
                                ),
                              ),
                            ),
                          ),
                        ),
                      ),
                    ),
                  ),
                ),
              ),
            ),
          ),
        ),
      ),
    ),
  ),
)

at_line : (xs : List Short) (ks : List ℕ) → HaveKeys xs ks → (i : ℕ) (a : Short) (h : ℕ) → slice_get xs i ≡ Some a → is_short a h ≡ true →
    slice_get ks i ≡ Some (key h)
at_line [] ks d i a h e t = cc
at_line (x ∷ xs) [] d i a h e t = absurd d
at_line (x ∷ xs) (k ∷ ks) d zero a h e t = ap Some (sym (d.0 h (let s : x ≡ a = cc in ap (λ z. is_short z h) s ∙ t)))
at_line (x ∷ xs) (k ∷ ks) d (suc i) a h e t = at_line xs ks d.1 i a h e t

-- no number stands twice
abbrev are_apart : List ℕ → Bool
are_apart [] = true
are_apart (k ∷ ks) = not (list_any (λ n. n == k) ks) && are_apart ks

stands : (ks : List ℕ) (i n : ℕ) → slice_get ks i ≡ Some n → list_any (λ m. m == n) ks ≡ true
stands [] i n e = cc
stands (k ∷ ks) zero n e = let s : k ≡ n = cc in ap (λ (b : Bool). b || list_any (λ m. m == n) ks) (eq-eqb k n s)
stands (k ∷ ks) (suc i) n e = or_right (k == n) (list_any (λ m. m == n) ks) (stands ks i n e)

one_place : (ks : List ℕ) → are_apart ks ≡ true → (i j n : ℕ) → slice_get ks i ≡ Some n → slice_get ks j ≡ Some n → i ≡ j
one_place [] d i j n p q = cc
one_place (k ∷ ks) d zero zero n p q = refl
one_place (k ∷ ks) d zero (suc j) n p q =
    let s : n ≡ k = cc in
    let t = no _ (both _ _ d).0 in
    absurd (let f : true ≡ false = sym (stands ks j n q) ∙ (ap (λ z. list_any (λ m. m == z) ks) s ∙ t) in cc)
one_place (k ∷ ks) d (suc i) zero n p q =
    let s : n ≡ k = cc in
    let t = no _ (both _ _ d).0 in
    absurd (let f : true ≡ false = sym (stands ks i n p) ∙ (ap (λ z. list_any (λ m. m == z) ks) s ∙ t) in cc)
one_place (k ∷ ks) d (suc i) (suc j) n p q = ap suc (one_place ks (both _ _ d).1 i j n p q)

pub one_short : OneShort
one_short h i j a b p q x y = one_place keys refl i j (key h) (at_line shorts keys have_keys i a h p x) (at_line shorts keys have_keys j b h q y)
