-- A list that names the variables of a machine names those of its unrolled program.
use Rattle.std.proofs.Common.{◌≡◌, refl, ◌∙◌, ℕ, Bool, true, false}
use Rattle.std.specs.Prelude.{◌&&◌, ◌||◌, nat_eq, nat_lt}
use Rattle.std.specs.List.{list_any}
use Rattle.machine_spec.specs.Machine.{Machine}
use Rattle.machine_spec.specs.Bil.{Bank, BilVariable, Register, Flag, Mem, Local, Expression, Var, Constant, Load, Store, Binary, Unary, Cast, Let, Unknown, Choose, Extract, Concat, Statements, Empty, Assign, JumpTo, Raise, Special, While, If}
use Rattle.machine_spec.specs.BilCounts.{names_only, is_local, list_names_only, is_own, is_bank}
use Rattle.frame_spec.specs.FrameUnrolling.{is_variable_of}
use Rattle.frame_spec.specs.FrameWalk.{UnrolledProgram}
use Rattle.unroller.proofs.Mixed.{both, all_three, all_four}

pub join : (a b : Bool) → a ≡ true → b ≡ true → (a && b) ≡ true
join true b h i = i
join false b h i = absurd (cc)

abbrev Wider : (BilVariable → Bool) → (BilVariable → Bool) → Type 0
Wider k l = (x : BilVariable) → k x ≡ true → l x ≡ true

wider_or : (b k l : Bool) → (k ≡ true → l ≡ true) → (b || k) ≡ true → (b || l) ≡ true
wider_or true k l w h = refl
wider_or false k l w h = w h

names_wider : (e : Expression) (k l : BilVariable → Bool) → Wider k l → names_only e k ≡ true → names_only e l ≡ true
names_wider (Var x) k l w h = w x h
names_wider (Constant n v) k l w h = refl
names_wider (Load m a o n) k l w h = let b = both (names_only m k) (names_only a k) h in join _ _ (names_wider m k l w b.0) (names_wider a k l w b.1)
names_wider (Store m a o n v) k l w h =
    let b = all_three (names_only m k) (names_only a k) (names_only v k) h in
    join _ _ (join _ _ (names_wider m k l w b.0) (names_wider a k l w b.1)) (names_wider v k l w b.2)
names_wider (Binary o a b) k l w h = let c = both (names_only a k) (names_only b k) h in join _ _ (names_wider a k l w c.0) (names_wider b k l w c.1)
names_wider (Unary o a) k l w h = names_wider a k l w h
names_wider (Cast o n a) k l w h = names_wider a k l w h
names_wider (Let x n a b) k l w h =
    let c = both (names_only a k) (names_only b (λ y. is_local x n y || k y)) h in
    join _ _ (names_wider a k l w c.0) (names_wider b (λ y. is_local x n y || k y) (λ y. is_local x n y ||
    l y) (λ y i. wider_or (is_local x n y) (k y) (l y) (w y) i) c.1)
names_wider (Unknown t) k l w h = refl
names_wider (Choose t a b) k l w h =
    let c = all_three (names_only t k) (names_only a k) (names_only b k) h in
    join _ _ (join _ _ (names_wider t k l w c.0) (names_wider a k l w c.1)) (names_wider b k l w c.2)
names_wider (Extract hi lo a) k l w h = names_wider a k l w h
names_wider (Concat a b) k l w h = let c = both (names_only a k) (names_only b k) h in join _ _ (names_wider a k l w c.0) (names_wider b k l w c.1)

all_wider : (s : Statements) (k l : BilVariable → Bool) → Wider k l → list_names_only s k ≡ true → list_names_only s l ≡ true
all_wider Empty k l w h = refl
all_wider (Assign x e rest) k l w h =
    let c = all_three (k x) (names_only e k) (list_names_only rest k) h in join _ _ (join _ _ (w x c.0) (names_wider e k l w c.1)) (all_wider rest k l w c.2)
all_wider (JumpTo e rest) k l w h = let c = both (names_only e k) (list_names_only rest k) h in join _ _ (names_wider e k l w c.0) (all_wider rest k l w c.1)
all_wider (Raise n rest) k l w h = all_wider rest k l w h
all_wider (Special t rest) k l w h = all_wider rest k l w h
all_wider (While e body rest) k l w h =
    let c = all_three (names_only e k) (list_names_only body k) (list_names_only rest k) h in
    join _ _ (join _ _ (names_wider e k l w c.0) (all_wider body k l w c.1)) (all_wider rest k l w c.2)
all_wider (If e a b rest) k l w h =
    let c = all_four (names_only e k) (list_names_only a k) (list_names_only b k) (list_names_only rest k) h in
    join _ _ (join _ _ (join _ _ (names_wider e k l w c.0) (all_wider a k l w c.1)) (all_wider b k l w c.2)) (all_wider rest k l w c.3)

module _ (m : Machine) (bank : Bank) (u : UnrolledProgram) (registers : (r : ℕ) → list_any (nat_eq r) u.registers ≡ m.has_register r) (flags : (f : ℕ) →
    nat_lt f u.flags ≡ m.has_flag f) where
  own_wider : Wider (is_own m bank) (is_variable_of u)
  own_wider (Register b r) h = registers r ∙ (both (is_bank b bank) (m.has_register r) h).1
  own_wider (Flag f) h = flags f ∙ h
  own_wider Mem h = refl
  own_wider (Local x n) h = absurd (cc)

  pub list_wider : (s : Statements) → list_names_only s (is_own m bank) ≡ true → list_names_only s (is_variable_of u) ≡ true
  list_wider s h = all_wider s (is_own m bank) (is_variable_of u) own_wider h
