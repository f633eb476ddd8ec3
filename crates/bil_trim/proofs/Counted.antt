-- What a list has in it once a known word stands for its loads.
use Rattle.std.proofs.Common.{◌≡◌, refl, ap, sym, ◌∙◌, arith, ℕ, ◌+◌, ◌≤◌, Bool, true, false}
use Rattle.std.specs.Prelude.{◌==◌, ◌&&◌, ◌||◌, ◌*◌, ◌/◌, max, if◌then◌else◌}
use Rattle.word_spec.specs.Memory.{Endian}
use Rattle.machine_spec.specs.Bil.{BilVariable, Mem, Negate, Not, Expression, Var, Constant, Load, Store, Binary, Unary, Cast, Let, Unknown, Choose, Extract, Concat, Statements, Empty, Assign, JumpTo, Raise, Special, While, If, type_of, total, list_total}
use Rattle.machine_spec.specs.BilTyping.{result_width, type_width}
use Rattle.machine_spec.specs.BilCounts.{width, op_weight, own_weight, weight, list_weight, own_loads, own_stores, own_memory_choices, own_chosen_stores, own_other_loads, own_unknowns, has_no_loop, has_no_special, nesting, names_only, is_local, list_names_only, is_flag, may_assign}
use Rattle.bil_trim.specs.Literals.{is_load_of, put_literal, with_literal}
use Rattle.bil_trim.proofs.Loads.{both, all_three, all_four, join, that_load}

-- the number of a node is that of the node with the word, and none of a load that is replaced, of its memory and of its address
pub record IsSameOwn (e : Endian) (a v : ℕ) (f : Expression → ℕ) : Type 0 where
  pub same : (x : Expression) → f (put_literal e a v x) ≡ f x
  pub memory : f (Var Mem) ≡ 0
  pub constant : (n w : ℕ) → f (Constant n w) ≡ 0

module _ (e : Endian) (a v : ℕ) where
  -- what holds of the constant and of the load holds of what stands there
  pub either : (P : Expression → Type 0) (b : Bool) (x y : Expression) → (b ≡ true → P x) → (b ≡ false → P y) → P (if b then x else y)
  either P true x y t f = t refl
  either P false x y t f = f refl

  three : (x y z w : ℕ) → x ≡ 0 → y ≡ 0 → z ≡ 0 → w ≡ 0 → w ≡ x + y + z
  three x y z w p q r s = omega arith

  pub total_same : (f : Expression → ℕ) → IsSameOwn e a v f → (x : Expression) → total f (put_literal e a v x) ≡ total f x
  total_same f own (Var x) = refl
  total_same f own (Constant n w) = refl
  total_same f own (Load m b o n) =
      either (λ z. total f z ≡ total f (Load m b o n)) (is_load_of e a m b o n) (Constant 32 v) (Load (put_literal e a v m) (put_literal e a v b) o n)
      (λ t.
      let is = that_load e a m b o n t in
      three (f (Load m b o n)) (total f m) (total f b) (f (Constant 32 v))
      (sym (own.same (Load m b o n)) ∙ ap (λ (z : Bool). f (if z then Constant 32 v else Load (put_literal e a v m) (put_literal e a v b) o n)) t
      ∙ own.constant 32 v)
      (ap (total f) is.0 ∙ own.memory) (ap (total f) is.1 ∙ own.constant 32 a) (own.constant 32 v))
      (λ t.
      ap (λ (z : ℕ). z + total f (put_literal e a v m) + total f (put_literal e a v b))
      (ap (λ (z : Bool). f (if z then Constant 32 v else Load (put_literal e a v m) (put_literal e a v b) o n)) (sym t) ∙ own.same (Load m b o n))
      ∙ ap (λ (z : ℕ). f (Load m b o n) + z + total f (put_literal e a v b)) (total_same f own m)
      ∙ ap (λ (z : ℕ). f (Load m b o n) + total f m + z) (total_same f own b))
  total_same f own (Store m b o n w) =
      ap (λ (z : ℕ). z + total f (put_literal e a v m) + total f (put_literal e a v b) + total f (put_literal e a v w)) (own.same (Store m b o n w))
      ∙ ap (λ (z : ℕ). f (Store m b o n w) + z + total f (put_literal e a v b) + total f (put_literal e a v w)) (total_same f own m)
      ∙ ap (λ (z : ℕ). f (Store m b o n w) + total f m + z + total f (put_literal e a v w)) (total_same f own b)
      ∙ ap (λ (z : ℕ). f (Store m b o n w) + total f m + total f b + z) (total_same f own w)
  total_same f own (Binary o x y) =
      ap (λ (z : ℕ). z + total f (put_literal e a v x) + total f (put_literal e a v y)) (own.same (Binary o x y))
      ∙ ap (λ (z : ℕ). f (Binary o x y) + z + total f (put_literal e a v y)) (total_same f own x)
      ∙ ap (λ (z : ℕ). f (Binary o x y) + total f x + z) (total_same f own y)
  total_same f own (Unary o x) =
      ap (λ (z : ℕ). z + total f (put_literal e a v x)) (own.same (Unary o x)) ∙ ap (λ (z : ℕ). f (Unary o x) + z) (total_same f own x)
  total_same f own (Cast k n x) =
      ap (λ (z : ℕ). z + total f (put_literal e a v x)) (own.same (Cast k n x)) ∙ ap (λ (z : ℕ). f (Cast k n x) + z) (total_same f own x)
  total_same f own (Let k n x y) =
      ap (λ (z : ℕ). z + total f (put_literal e a v x) + total f (put_literal e a v y)) (own.same (Let k n x y))
      ∙ ap (λ (z : ℕ). f (Let k n x y) + z + total f (put_literal e a v y)) (total_same f own x)
      ∙ ap (λ (z : ℕ). f (Let k n x y) + total f x + z) (total_same f own y)
  total_same f own (Unknown t) = refl
  total_same f own (Choose c x y) =
      ap (λ (z : ℕ). z + total f (put_literal e a v c) + total f (put_literal e a v x) + total f (put_literal e a v y)) (own.same (Choose c x y))
      ∙ ap (λ (z : ℕ). f (Choose c x y) + z + total f (put_literal e a v x) + total f (put_literal e a v y)) (total_same f own c)
      ∙ ap (λ (z : ℕ). f (Choose c x y) + total f c + z + total f (put_literal e a v y)) (total_same f own x)
      ∙ ap (λ (z : ℕ). f (Choose c x y) + total f c + total f x + z) (total_same f own y)
  total_same f own (Extract hi lo x) =
      ap (λ (z : ℕ). z + total f (put_literal e a v x)) (own.same (Extract hi lo x)) ∙ ap (λ (z : ℕ). f (Extract hi lo x) + z) (total_same f own x)
  total_same f own (Concat x y) =
      ap (λ (z : ℕ). z + total f (put_literal e a v x) + total f (put_literal e a v y)) (own.same (Concat x y))
      ∙ ap (λ (z : ℕ). f (Concat x y) + z + total f (put_literal e a v y)) (total_same f own x)
      ∙ ap (λ (z : ℕ). f (Concat x y) + total f x + z) (total_same f own y)

  pub width_same : (x : Expression) → width (put_literal e a v x) ≡ width x
  width_same (Var x) = refl
  width_same (Constant n w) = refl
  width_same (Load m b o n) =
      either (λ z. width z ≡ n) (is_load_of e a m b o n) (Constant 32 v) (Load (put_literal e a v m) (put_literal e a v b) o n)
      (λ t. sym ((that_load e a m b o n t).3)) (λ t. refl)
  width_same (Store m b o n w) = refl
  width_same (Binary o x y) = ap (result_width o) (width_same x)
  width_same (Unary o x) = width_same x
  width_same (Cast k n x) = refl
  width_same (Let k n x y) = width_same y
  width_same (Unknown t) = refl
  width_same (Choose c x y) = width_same x
  width_same (Extract hi lo x) = refl
  width_same (Concat x y) = ap (λ (z : ℕ). z + width (put_literal e a v y)) (width_same x) ∙ ap (λ (z : ℕ). width x + z) (width_same y)

  weight_one : (x : Expression) → own_weight (put_literal e a v x) ≡ own_weight x
  weight_one (Var x) = refl
  weight_one (Constant n w) = refl
  weight_one (Load m b o n) =
      either (λ z. own_weight z ≡ 0) (is_load_of e a m b o n) (Constant 32 v) (Load (put_literal e a v m) (put_literal e a v b) o n) (λ t. refl) (λ t. refl)
  weight_one (Store m b o n w) = refl
  weight_one (Binary o x y) = ap (op_weight o) (width_same x)
  weight_one (Unary Negate x) = ap (λ (z : ℕ). 3 * z) (width_same x)
  weight_one (Unary Not x) = refl
  weight_one (Cast k n x) = refl
  weight_one (Let k n x y) = refl
  weight_one (Unknown t) = refl
  weight_one (Choose c x y) = width_same x
  weight_one (Extract hi lo x) = refl
  weight_one (Concat x y) = refl

  weight_own : IsSameOwn e a v own_weight
  weight_own = record { same = weight_one; memory = refl; constant = λ n w. refl }

  stores_one : (x : Expression) → own_stores (put_literal e a v x) ≡ own_stores x
  stores_one (Var x) = refl
  stores_one (Constant n w) = refl
  stores_one (Load m b o n) =
      either (λ z. own_stores z ≡ 0) (is_load_of e a m b o n) (Constant 32 v) (Load (put_literal e a v m) (put_literal e a v b) o n) (λ t. refl) (λ t. refl)
  stores_one (Store m b o n w) = refl
  stores_one (Binary o x y) = refl
  stores_one (Unary o x) = refl
  stores_one (Cast k n x) = refl
  stores_one (Let k n x y) = refl
  stores_one (Unknown t) = refl
  stores_one (Choose c x y) = refl
  stores_one (Extract hi lo x) = refl
  stores_one (Concat x y) = refl

  pub stores_own : IsSameOwn e a v own_stores
  stores_own = record { same = stores_one; memory = refl; constant = λ n w. refl }

  choices_one : (x : Expression) → own_memory_choices (put_literal e a v x) ≡ own_memory_choices x
  choices_one (Var x) = refl
  choices_one (Constant n w) = refl
  choices_one (Load m b o n) =
      either (λ z. own_memory_choices z ≡ 0) (is_load_of e a m b o n) (Constant 32 v) (Load (put_literal e a v m) (put_literal e a v b) o n)
      (λ t. refl) (λ t. refl)
  choices_one (Store m b o n w) = refl
  choices_one (Binary o x y) = refl
  choices_one (Unary o x) = refl
  choices_one (Cast k n x) = refl
  choices_one (Let k n x y) = refl
  choices_one (Unknown t) = refl
  choices_one (Choose c x y) = ap (λ (z : ℕ). if z == 0 then 1 else 0) (width_same x)
  choices_one (Extract hi lo x) = refl
  choices_one (Concat x y) = refl

  pub choices_own : IsSameOwn e a v own_memory_choices
  choices_own = record { same = choices_one; memory = refl; constant = λ n w. refl }

  chosen_one : (x : Expression) → own_chosen_stores (put_literal e a v x) ≡ own_chosen_stores x
  chosen_one (Var x) = refl
  chosen_one (Constant n w) = refl
  chosen_one (Load m b o n) =
      either (λ z. own_chosen_stores z ≡ 0) (is_load_of e a m b o n) (Constant 32 v) (Load (put_literal e a v m) (put_literal e a v b) o n)
      (λ t. refl) (λ t. refl)
  chosen_one (Store m b o n w) = refl
  chosen_one (Binary o x y) = refl
  chosen_one (Unary o x) = refl
  chosen_one (Cast k n x) = refl
  chosen_one (Let k n x y) = refl
  chosen_one (Unknown t) = refl
  chosen_one (Choose c x y) =
      ap (λ (z : ℕ). z + total own_stores (put_literal e a v y)) (total_same own_stores stores_own x)
      ∙ ap (λ (z : ℕ). total own_stores x + z) (total_same own_stores stores_own y)
  chosen_one (Extract hi lo x) = refl
  chosen_one (Concat x y) = refl

  pub chosen_own : IsSameOwn e a v own_chosen_stores
  chosen_own = record { same = chosen_one; memory = refl; constant = λ n w. refl }

  unknowns_one : (x : Expression) → own_unknowns (put_literal e a v x) ≡ own_unknowns x
  unknowns_one (Var x) = refl
  unknowns_one (Constant n w) = refl
  unknowns_one (Load m b o n) =
      either (λ z. own_unknowns z ≡ 0) (is_load_of e a m b o n) (Constant 32 v) (Load (put_literal e a v m) (put_literal e a v b) o n)
      (λ t. refl) (λ t. refl)
  unknowns_one (Store m b o n w) = refl
  unknowns_one (Binary o x y) = refl
  unknowns_one (Unary o x) = refl
  unknowns_one (Cast k n x) = refl
  unknowns_one (Let k n x y) = refl
  unknowns_one (Unknown t) = refl
  unknowns_one (Choose c x y) = refl
  unknowns_one (Extract hi lo x) = refl
  unknowns_one (Concat x y) = refl

  pub unknowns_own : IsSameOwn e a v own_unknowns
  unknowns_own = record { same = unknowns_one; memory = refl; constant = λ n w. refl }

  -- a list has as much as before of what no load has
  pub lists_same : (f : Expression → ℕ) → ((x : Expression) → f (put_literal e a v x) ≡ f x) → (list : Statements) →
      list_total f (with_literal e a v list) ≡ list_total f list
  lists_same f same Empty = refl
  lists_same f same (Assign x w rest) =
      ap (λ (z : ℕ). z + list_total f (with_literal e a v rest)) (same w) ∙ ap (λ (z : ℕ). f w + z) (lists_same f same rest)
  lists_same f same (JumpTo w rest) =
      ap (λ (z : ℕ). z + list_total f (with_literal e a v rest)) (same w) ∙ ap (λ (z : ℕ). f w + z) (lists_same f same rest)
  lists_same f same (Raise n rest) = lists_same f same rest
  lists_same f same (Special t rest) = lists_same f same rest
  lists_same f same (While w body rest) =
      ap (λ (z : ℕ). z + list_total f (with_literal e a v body) + list_total f (with_literal e a v rest)) (same w)
      ∙ ap (λ (z : ℕ). f w + z + list_total f (with_literal e a v rest)) (lists_same f same body)
      ∙ ap (λ (z : ℕ). f w + list_total f body + z) (lists_same f same rest)
  lists_same f same (If w x y rest) =
      ap (λ (z : ℕ). z + list_total f (with_literal e a v x) + list_total f (with_literal e a v y) + list_total f (with_literal e a v rest)) (same w)
      ∙ ap (λ (z : ℕ). f w + z + list_total f (with_literal e a v y) + list_total f (with_literal e a v rest)) (lists_same f same x)
      ∙ ap (λ (z : ℕ). f w + list_total f x + z + list_total f (with_literal e a v rest)) (lists_same f same y)
      ∙ ap (λ (z : ℕ). f w + list_total f x + list_total f y + z) (lists_same f same rest)

  pub weight_same : (list : Statements) → list_weight (with_literal e a v list) ≡ list_weight list
  weight_same Empty = refl
  weight_same (Assign x w rest) =
      ap (λ (z : ℕ). 2 * type_width (type_of x) + z + list_weight (with_literal e a v rest)) (total_same own_weight weight_own w)
      ∙ ap (λ (z : ℕ). 2 * type_width (type_of x) + weight w + z) (weight_same rest)
  weight_same (JumpTo w rest) =
      ap (λ (z : ℕ). 64 + z + list_weight (with_literal e a v rest)) (total_same own_weight weight_own w)
      ∙ ap (λ (z : ℕ). 64 + weight w + z) (weight_same rest)
  weight_same (Raise n rest) = ap (λ (z : ℕ). 4 + z) (weight_same rest)
  weight_same (Special t rest) = weight_same rest
  weight_same (While w body rest) =
      ap (λ (z : ℕ). z + list_weight (with_literal e a v body) + list_weight (with_literal e a v rest)) (total_same own_weight weight_own w)
      ∙ ap (λ (z : ℕ). weight w + z + list_weight (with_literal e a v rest)) (weight_same body)
      ∙ ap (λ (z : ℕ). weight w + list_weight body + z) (weight_same rest)
  weight_same (If w x y rest) =
      ap (λ (z : ℕ). 4 + z + list_weight (with_literal e a v x) + list_weight (with_literal e a v y) + list_weight (with_literal e a v rest))
      (total_same own_weight weight_own w)
      ∙ ap (λ (z : ℕ). 4 + weight w + z + list_weight (with_literal e a v y) + list_weight (with_literal e a v rest)) (weight_same x)
      ∙ ap (λ (z : ℕ). 4 + weight w + list_weight x + z + list_weight (with_literal e a v rest)) (weight_same y)
      ∙ ap (λ (z : ℕ). 4 + weight w + list_weight x + list_weight y + z) (weight_same rest)

  pub loop_same : (list : Statements) → has_no_loop (with_literal e a v list) ≡ has_no_loop list
  loop_same Empty = refl
  loop_same (Assign x w rest) = loop_same rest
  loop_same (JumpTo w rest) = loop_same rest
  loop_same (Raise n rest) = loop_same rest
  loop_same (Special t rest) = loop_same rest
  loop_same (While w body rest) = refl
  loop_same (If w x y rest) =
      ap (λ (z : Bool). z && has_no_loop (with_literal e a v y) && has_no_loop (with_literal e a v rest)) (loop_same x)
      ∙ ap (λ (z : Bool). has_no_loop x && z && has_no_loop (with_literal e a v rest)) (loop_same y)
      ∙ ap (λ (z : Bool). has_no_loop x && has_no_loop y && z) (loop_same rest)

  pub special_same : (list : Statements) → has_no_special (with_literal e a v list) ≡ has_no_special list
  special_same Empty = refl
  special_same (Assign x w rest) = special_same rest
  special_same (JumpTo w rest) = special_same rest
  special_same (Raise n rest) = special_same rest
  special_same (Special t rest) = refl
  special_same (While w body rest) =
      ap (λ (z : Bool). z && has_no_special (with_literal e a v rest)) (special_same body)
      ∙ ap (λ (z : Bool). has_no_special body && z) (special_same rest)
  special_same (If w x y rest) =
      ap (λ (z : Bool). z && has_no_special (with_literal e a v y) && has_no_special (with_literal e a v rest)) (special_same x)
      ∙ ap (λ (z : Bool). has_no_special x && z && has_no_special (with_literal e a v rest)) (special_same y)
      ∙ ap (λ (z : Bool). has_no_special x && has_no_special y && z) (special_same rest)

  pub nesting_same : (list : Statements) → nesting (with_literal e a v list) ≡ nesting list
  nesting_same Empty = refl
  nesting_same (Assign x w rest) = nesting_same rest
  nesting_same (JumpTo w rest) = nesting_same rest
  nesting_same (Raise n rest) = nesting_same rest
  nesting_same (Special t rest) = nesting_same rest
  nesting_same (While w body rest) =
      ap (λ (z : ℕ). max z (nesting (with_literal e a v rest))) (nesting_same body) ∙ ap (λ (z : ℕ). max (nesting body) z) (nesting_same rest)
  nesting_same (If w x y rest) =
      ap (λ (z : ℕ). max (1 + max z (nesting (with_literal e a v y))) (nesting (with_literal e a v rest))) (nesting_same x)
      ∙ ap (λ (z : ℕ). max (1 + max (nesting x) z) (nesting (with_literal e a v rest))) (nesting_same y)
      ∙ ap (λ (z : ℕ). max (1 + max (nesting x) (nesting y)) z) (nesting_same rest)

  pub assigns_same : (f : ℕ) (list : Statements) → may_assign f (with_literal e a v list) ≡ may_assign f list
  assigns_same f Empty = refl
  assigns_same f (Assign x w rest) = ap (λ (z : Bool). is_flag f x || z) (assigns_same f rest)
  assigns_same f (JumpTo w rest) = assigns_same f rest
  assigns_same f (Raise n rest) = assigns_same f rest
  assigns_same f (Special t rest) = assigns_same f rest
  assigns_same f (While w body rest) =
      ap (λ (z : Bool). z || may_assign f (with_literal e a v rest)) (assigns_same f body) ∙ ap (λ (z : Bool). may_assign f body || z) (assigns_same f rest)
  assigns_same f (If w x y rest) =
      ap (λ (z : Bool). z || may_assign f (with_literal e a v y) || may_assign f (with_literal e a v rest)) (assigns_same f x)
      ∙ ap (λ (z : Bool). may_assign f x || z || may_assign f (with_literal e a v rest)) (assigns_same f y)
      ∙ ap (λ (z : Bool). may_assign f x || may_assign f y || z) (assigns_same f rest)

  names_stay : (x : Expression) (k : BilVariable → Bool) → names_only x k ≡ true → names_only (put_literal e a v x) k ≡ true
  names_stay (Var x) k h = h
  names_stay (Constant n w) k h = refl
  names_stay (Load m b o n) k h =
      let l = both (names_only m k) (names_only b k) h in
      either (λ z. names_only z k ≡ true) (is_load_of e a m b o n) (Constant 32 v) (Load (put_literal e a v m) (put_literal e a v b) o n)
      (λ t. refl) (λ t. join _ _ (names_stay m k l.0) (names_stay b k l.1))
  names_stay (Store m b o n w) k h =
      let l = all_three (names_only m k) (names_only b k) (names_only w k) h in
      join _ _ (join _ _ (names_stay m k l.0) (names_stay b k l.1)) (names_stay w k l.2)
  names_stay (Binary o x y) k h = let l = both (names_only x k) (names_only y k) h in join _ _ (names_stay x k l.0) (names_stay y k l.1)
  names_stay (Unary o x) k h = names_stay x k h
  names_stay (Cast o n x) k h = names_stay x k h
  names_stay (Let i n x y) k h =
      let l = both (names_only x k) (names_only y (λ u. is_local i n u || k u)) h in
      join _ _ (names_stay x k l.0) (names_stay y (λ u. is_local i n u || k u) l.1)
  names_stay (Unknown t) k h = refl
  names_stay (Choose c x y) k h =
      let l = all_three (names_only c k) (names_only x k) (names_only y k) h in
      join _ _ (join _ _ (names_stay c k l.0) (names_stay x k l.1)) (names_stay y k l.2)
  names_stay (Extract hi lo x) k h = names_stay x k h
  names_stay (Concat x y) k h = let l = both (names_only x k) (names_only y k) h in join _ _ (names_stay x k l.0) (names_stay y k l.1)

  pub names_same : (list : Statements) (k : BilVariable → Bool) → list_names_only list k ≡ true → list_names_only (with_literal e a v list) k ≡ true
  names_same Empty k h = refl
  names_same (Assign x w rest) k h =
      let l = all_three (k x) (names_only w k) (list_names_only rest k) h in
      join _ _ (join _ _ l.0 (names_stay w k l.1)) (names_same rest k l.2)
  names_same (JumpTo w rest) k h = let l = both (names_only w k) (list_names_only rest k) h in join _ _ (names_stay w k l.0) (names_same rest k l.1)
  names_same (Raise n rest) k h = names_same rest k h
  names_same (Special t rest) k h = names_same rest k h
  names_same (While w body rest) k h =
      let l = all_three (names_only w k) (list_names_only body k) (list_names_only rest k) h in
      join _ _ (join _ _ (names_stay w k l.0) (names_same body k l.1)) (names_same rest k l.2)
  names_same (If w x y rest) k h =
      let l = all_four (names_only w k) (list_names_only x k) (list_names_only y k) (list_names_only rest k) h in
      join _ _ (join _ _ (join _ _ (names_stay w k l.0) (names_same x k l.1)) (names_same y k l.2)) (names_same rest k l.3)

  -- no load is left where all loads were of the word
  loads_gone : (x : Expression) → total (own_other_loads e a) x ≡ 0 → total own_loads (put_literal e a v x) ≡ 0
  loads_gone (Var x) h = refl
  loads_gone (Constant n w) h = refl
  loads_gone (Load m b o n) h =
      let t : is_load_of e a m b o n ≡ true =
      (let q : own_other_loads e a (Load m b o n) ≡ 0 = omega arith in ap (λ (z : ℕ). z == 0) q) in
      ap (λ (z : Bool). total own_loads (if z then Constant 32 v else Load (put_literal e a v m) (put_literal e a v b) o n)) t
  loads_gone (Store m b o n w) h =
      let p = loads_gone m (omega arith) in let q = loads_gone b (omega arith) in let r = loads_gone w (omega arith) in omega arith
  loads_gone (Binary o x y) h = let p = loads_gone x (omega arith) in let q = loads_gone y (omega arith) in omega arith
  loads_gone (Unary o x) h = let p = loads_gone x (omega arith) in omega arith
  loads_gone (Cast k n x) h = let p = loads_gone x (omega arith) in omega arith
  loads_gone (Let k n x y) h = let p = loads_gone x (omega arith) in let q = loads_gone y (omega arith) in omega arith
  loads_gone (Unknown t) h = refl
  loads_gone (Choose c x y) h =
      let p = loads_gone c (omega arith) in let q = loads_gone x (omega arith) in let r = loads_gone y (omega arith) in omega arith
  loads_gone (Extract hi lo x) h = let p = loads_gone x (omega arith) in omega arith
  loads_gone (Concat x y) h = let p = loads_gone x (omega arith) in let q = loads_gone y (omega arith) in omega arith

  pub no_loads : (list : Statements) → list_total (total (own_other_loads e a)) list ≡ 0 → list_total (total own_loads) (with_literal e a v list) ≡ 0
  no_loads Empty h = refl
  no_loads (Assign x w rest) h = let p = loads_gone w (omega arith) in let q = no_loads rest (omega arith) in omega arith
  no_loads (JumpTo w rest) h = let p = loads_gone w (omega arith) in let q = no_loads rest (omega arith) in omega arith
  no_loads (Raise n rest) h = no_loads rest h
  no_loads (Special t rest) h = no_loads rest h
  no_loads (While w body rest) h =
      let p = loads_gone w (omega arith) in let q = no_loads body (omega arith) in let r = no_loads rest (omega arith) in omega arith
  no_loads (If w x y rest) h =
      let p = loads_gone w (omega arith) in let q = no_loads x (omega arith) in let r = no_loads y (omega arith) in
      let s = no_loads rest (omega arith) in omega arith

  fewer : (x : Expression) → total own_loads (put_literal e a v x) ≤ total own_loads x
  fewer (Var x) = omega arith
  fewer (Constant n w) = omega arith
  fewer (Load m b o n) =
      let p = fewer m in let q = fewer b in
      either (λ z. total own_loads z ≤ n / 8 + total own_loads m + total own_loads b) (is_load_of e a m b o n) (Constant 32 v)
      (Load (put_literal e a v m) (put_literal e a v b) o n) (λ t. omega arith) (λ t. omega arith)
  fewer (Store m b o n w) = let p = fewer m in let q = fewer b in let r = fewer w in omega arith
  fewer (Binary o x y) = let p = fewer x in let q = fewer y in omega arith
  fewer (Unary o x) = let p = fewer x in omega arith
  fewer (Cast k n x) = let p = fewer x in omega arith
  fewer (Let k n x y) = let p = fewer x in let q = fewer y in omega arith
  fewer (Unknown t) = omega arith
  fewer (Choose c x y) = let p = fewer c in let q = fewer x in let r = fewer y in omega arith
  fewer (Extract hi lo x) = let p = fewer x in omega arith
  fewer (Concat x y) = let p = fewer x in let q = fewer y in omega arith

  pub fewer_loads : (list : Statements) → list_total (total own_loads) (with_literal e a v list) ≤ list_total (total own_loads) list
  fewer_loads Empty = omega arith
  fewer_loads (Assign x w rest) = let p = fewer w in let q = fewer_loads rest in omega arith
  fewer_loads (JumpTo w rest) = let p = fewer w in let q = fewer_loads rest in omega arith
  fewer_loads (Raise n rest) = fewer_loads rest
  fewer_loads (Special t rest) = fewer_loads rest
  fewer_loads (While w body rest) = let p = fewer w in let q = fewer_loads body in let r = fewer_loads rest in omega arith
  fewer_loads (If w x y rest) =
      let p = fewer w in let q = fewer_loads x in let r = fewer_loads y in let s = fewer_loads rest in omega arith
