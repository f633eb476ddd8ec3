-- The loops over the registers of a list, one register more.
use Rattle.std.proofs.Common.{◌≡◌, ℕ, suc, ◌+◌, ◌-◌, ◌<◌, ◌≤◌, true, false, refl, ap, sym, ◌∙◌, arith, List, [], ◌∷◌, length, Option, Some}
use Rattle.std.specs.Prelude.{◌==◌, if◌then◌else◌}
use Rattle.word_spec.specs.Words.{add}
use Rattle.machine_spec.specs.Arm.{has_bit, listed_from}
use Rattle.machine_spec.specs.Bil.{Statements}
use Rattle.bil_ast.specs.declared.statements.Stmt.{Stmt}
use Rattle.arm_lift_alu.specs.Before.{before}
use Rattle.arm_lift_blocks.specs.Lifted as lifts

hit : (w r n : ℕ) → r < n → has_bit r w ≡ true → listed_from w r (n - r) ≡ r ∷ listed_from w (r + 1) (n - (r + 1))
hit w r n l h = let e : n - r ≡ suc (n - (r + 1)) = omega arith in rw (e, h) refl

miss : (w r n : ℕ) → r < n → has_bit r w ≡ false → listed_from w r (n - r) ≡ listed_from w (r + 1) (n - (r + 1))
miss w r n l h = let e : n - r ≡ suc (n - (r + 1)) = omega arith in rw (e, h) refl

past : (w r n : ℕ) → n ≤ r → listed_from w r (n - r) ≡ []
past w r n l = let e : n - r ≡ 0 = omega arith in rw e refl

-- counting them
pub counted_hit : (w r n c k t : ℕ) → r < n → has_bit r w ≡ true → k ≡ c + 1 → c + length (listed_from w r (n - r)) ≡ t →
    k + length (listed_from w (r + 1) (n - (r + 1))) ≡ t
counted_hit w r n c k t l h i e = let f = ap length (hit w r n l h) in omega (arith, f)

pub counted_miss : (w r n c k t : ℕ) → r < n → has_bit r w ≡ false → k ≡ c → c + length (listed_from w r (n - r)) ≡ t →
    k + length (listed_from w (r + 1) (n - (r + 1))) ≡ t
counted_miss w r n c k t l h i e = let f = ap length (miss w r n l h) in omega (arith, f)

-- the place of one of them
pub placed_hit : (w r n b d x : ℕ) (f g t : Option ℕ) → r < n → has_bit r w ≡ true → x ≡ add 32 d 4 → g ≡ (if r == b then Some d else f) →
    lifts.place_of b d (listed_from w r (n - r)) f ≡ t → lifts.place_of b x (listed_from w (r + 1) (n - (r + 1))) g ≡ t
placed_hit w r n b d x f g t l h i j e =
    let rs : List ℕ = listed_from w (r + 1) (n - (r + 1)) in
    ap (λ x. lifts.place_of b x rs g) i ∙ ap (lifts.place_of b (add 32 d 4) rs) j ∙ sym (ap (λ rs. lifts.place_of b d rs f) (hit w r n l h)) ∙ e

pub placed_miss : (w r n b d x : ℕ) (f g t : Option ℕ) → r < n → has_bit r w ≡ false → x ≡ d → g ≡ f →
    lifts.place_of b d (listed_from w r (n - r)) f ≡ t → lifts.place_of b x (listed_from w (r + 1) (n - (r + 1))) g ≡ t
placed_miss w r n b d x f g t l h i j e =
    let rs : List ℕ = listed_from w (r + 1) (n - (r + 1)) in
    ap (λ x. lifts.place_of b x rs g) i ∙ ap (lifts.place_of b d rs) j ∙ sym (ap (λ rs. lifts.place_of b d rs f) (miss w r n l h)) ∙ e

pub placed : (w r n b d : ℕ) (f t : Option ℕ) → n ≤ r → lifts.place_of b d (listed_from w r (n - r)) f ≡ t → f ≡ t
placed w r n b d f t l e = sym (ap (λ rs. lifts.place_of b d rs f) (past w r n l)) ∙ e

-- statements for each of them, which are made one after the other
module _ (many : ℕ → List ℕ → Statements → Statements) (one : ℕ → ℕ → Statements → Statements)
    (none_left : (d : ℕ) (rest : Statements) → many d [] rest ≡ rest)
    (one_more : (d r : ℕ) (rs : List ℕ) (rest : Statements) → many d (r ∷ rs) rest ≡ one d r (many (add 32 d 4) rs rest)) where
  pub pushed_hit : (w r n d x : ℕ) (old new : List Stmt) (t : Statements → Statements) → r < n → has_bit r w ≡ true → x ≡ add 32 d 4 →
      ((rest : Statements) → before new rest ≡ before old (one d r rest)) →
      ((rest : Statements) → before old (many d (listed_from w r (n - r)) rest) ≡ t rest) →
      (rest : Statements) → before new (many x (listed_from w (r + 1) (n - (r + 1))) rest) ≡ t rest
  pushed_hit w r n d x old new t l h i made left rest =
      let rs : List ℕ = listed_from w (r + 1) (n - (r + 1)) in
      ap (λ x. before new (many x rs rest)) i ∙ made (many (add 32 d 4) rs rest)
      ∙ ap (before old) (sym (one_more d r rs rest) ∙ sym (ap (λ rs. many d rs rest) (hit w r n l h))) ∙ left rest

  pub pushed_miss : (w r n d x : ℕ) (old new : List Stmt) (t : Statements → Statements) → r < n → has_bit r w ≡ false → x ≡ d → new ≡ old →
      ((rest : Statements) → before old (many d (listed_from w r (n - r)) rest) ≡ t rest) →
      (rest : Statements) → before new (many x (listed_from w (r + 1) (n - (r + 1))) rest) ≡ t rest
  pushed_miss w r n d x old new t l h i same left rest =
      let rs : List ℕ = listed_from w (r + 1) (n - (r + 1)) in
      ap (λ x. before new (many x rs rest)) i ∙ ap (λ list. before list (many d rs rest)) same
      ∙ ap (before old) (sym (ap (λ rs. many d rs rest) (miss w r n l h))) ∙ left rest

  pub pushed_all : (w r n d : ℕ) (old : List Stmt) (t : Statements → Statements) → n ≤ r →
      ((rest : Statements) → before old (many d (listed_from w r (n - r)) rest) ≡ t rest) → (rest : Statements) → before old rest ≡ t rest
  pushed_all w r n d old t l left rest =
      ap (before old) (sym (none_left d rest) ∙ sym (ap (λ rs. many d rs rest) (past w r n l))) ∙ left rest
