-- A list without assignments of flags has no more in it.
use Rattle.std.proofs.Common.{◌≡◌, refl, ap, sym, ◌∙◌, arith, ℕ, ◌+◌, ◌≤◌, Bool, true, false, None}
use Rattle.std.specs.Prelude.{◌==◌, ◌&&◌, ◌||◌, ◌*◌, max, if◌then◌else◌}
use Rattle.std.proofs.Math.Nat.{le-max_left, le-max_right, max-le}
use Rattle.std.proofs.lemmas.Bool.Decides.{nat_tests}
use Rattle.machine_spec.specs.Bil.{Bits, BilVariable, Register, Flag, Mem, Local, Expression, Statements, Empty, Assign, JumpTo, Raise, Special, While, If, type_of, total, list_total}
use Rattle.machine_spec.specs.BilTyping.{list_fault, type_width}
use Rattle.machine_spec.specs.BilCounts.{weight, list_weight, own_loads, own_stores, own_memory_choices, own_chosen_stores, own_other_loads, own_unknowns, has_no_loop, has_no_special, nesting, names_only, list_names_only, may_assign}
use Rattle.bil_trim.specs.Flags.{stays, with_flags, FlagsAddNothing}
use Rattle.bil_trim.proofs.Loads.{both, all_three, all_four, join}
use Rattle.bil_trim.proofs.Typed.{anywhere, fault_follows, wants_follows, two_none, none_two}

-- what holds of both holds of what stands there
pub of_if : (P : Statements → Type 0) (b : Bool) (x y : Statements) → (b ≡ true → P x) → (b ≡ false → P y) → P (if b then x else y)
of_if P true x y t f = t refl
of_if P false x y t f = f refl

pub left_or : (a b : Bool) → a ≡ true → (a || b) ≡ true
left_or true b h = refl
left_or false b h = absurd (cc)

pub right_or : (a b : Bool) → b ≡ true → (a || b) ≡ true
right_or true b h = refl
right_or false b h = h

pub same_flag : (f : ℕ) → (f == f) ≡ true
same_flag f = grind (arith, nat_tests)

pub one_flag : (g f : ℕ) → (g == f) ≡ true → g ≡ f
one_flag g f h = grind (arith, nat_tests)

max_less : (a b c d : ℕ) → a ≤ c → b ≤ d → max a b ≤ max c d
max_less a b c d h i = let p = le-max_left c d in let q = le-max_right c d in max-le (omega arith) (omega arith)

one_more : (a b : ℕ) → a ≤ b → 1 + a ≤ 1 + b
one_more a b h = omega arith

or_kept : (p q r : Bool) → (p ≡ true → q ≡ true) → (p || (q && r)) ≡ (q && (p || r))
or_kept true true r h = refl
or_kept true false r h = let e = h refl in absurd (cc)
or_kept false q r h = refl

or_dropped : (p q r : Bool) → (p ≡ true → q ≡ false) → (q && r) ≡ (q && (p || r))
or_dropped true true r h = let e = h refl in absurd (cc)
or_dropped true false r h = refl
or_dropped false q r h = refl

none_kept : (b : Bool) → (b && false) ≡ false
none_kept true = refl
none_kept false = refl

or_both : (q a b : Bool) → ((q && a) || (q && b)) ≡ (q && (a || b))
or_both true a b = refl
or_both false a b = refl

or_three : (q a b c : Bool) → ((q && a) || (q && b) || (q && c)) ≡ (q && (a || b || c))
or_three true a b c = refl
or_three false a b c = refl

module _ (k : ℕ → Bool) where
  typed_less : (list : Statements) (at n : ℕ) → list_fault at list ≡ None → list_fault n (with_flags k list) ≡ None
  typed_less Empty at n h = refl
  typed_less (Assign x w rest) at n h =
      let l = two_none _ _ h in
      of_if (λ z. list_fault n z ≡ None) (stays k x) (Assign x w (with_flags k rest)) (with_flags k rest)
      (λ t. none_two _ _ (wants_follows at n (type_of x) _ _ ((anywhere w).follows (at + 1) (n + 1)) l.0) (typed_less rest _ _ l.1))
      (λ t. typed_less rest _ _ l.1)
  typed_less (JumpTo w rest) at n h =
      let l = two_none _ _ h in
      none_two _ _ (wants_follows at n (Bits 32) _ _ ((anywhere w).follows (at + 1) (n + 1)) l.0) (typed_less rest _ _ l.1)
  typed_less (Raise m rest) at n h = typed_less rest (at + 1) (n + 1) h
  typed_less (Special t rest) at n h = typed_less rest (at + 1) (n + 1) h
  typed_less (While w body rest) at n h =
      let l = two_none _ _ h in let m = two_none _ _ l.1 in let o = two_none _ _ m.1 in
      none_two _ _ (fault_follows _ _ ((anywhere w).follows (at + 1) (n + 1)) l.0)
      (none_two _ _ (typed_less body _ _ m.0)
      (none_two _ _ (wants_follows at n (Bits 1) _ _ ((anywhere w).follows (at + 1) (n + 1)) o.0) (typed_less rest _ _ o.1)))
  typed_less (If w x y rest) at n h =
      let l = two_none _ _ h in let m = two_none _ _ l.1 in let o = two_none _ _ m.1 in let p = two_none _ _ o.1 in
      none_two _ _ (fault_follows _ _ ((anywhere w).follows (at + 1) (n + 1)) l.0)
      (none_two _ _ (typed_less x _ _ m.0)
      (none_two _ _ (typed_less y _ _ o.0)
      (none_two _ _ (wants_follows at n (Bits 1) _ _ ((anywhere w).follows (at + 1) (n + 1)) p.0) (typed_less rest _ _ p.1))))

  total_less : (f : Expression → ℕ) (list : Statements) → list_total f (with_flags k list) ≤ list_total f list
  total_less f Empty = omega arith
  total_less f (Assign x w rest) =
      let p = total_less f rest in
      of_if (λ z. list_total f z ≤ f w + list_total f rest) (stays k x) (Assign x w (with_flags k rest)) (with_flags k rest)
      (λ t. omega arith) (λ t. omega arith)
  total_less f (JumpTo w rest) = let p = total_less f rest in omega arith
  total_less f (Raise n rest) = total_less f rest
  total_less f (Special t rest) = total_less f rest
  total_less f (While w body rest) = let p = total_less f body in let q = total_less f rest in omega arith
  total_less f (If w x y rest) = let p = total_less f x in let q = total_less f y in let r = total_less f rest in omega arith

  weight_less : (list : Statements) → list_weight (with_flags k list) ≤ list_weight list
  weight_less Empty = omega arith
  weight_less (Assign x w rest) =
      let p = weight_less rest in
      of_if (λ z. list_weight z ≤ 2 * type_width (type_of x) + weight w + list_weight rest) (stays k x) (Assign x w (with_flags k rest)) (with_flags k rest)
      (λ t. omega arith) (λ t. omega arith)
  weight_less (JumpTo w rest) = let p = weight_less rest in omega arith
  weight_less (Raise n rest) = let p = weight_less rest in omega arith
  weight_less (Special t rest) = weight_less rest
  weight_less (While w body rest) = let p = weight_less body in let q = weight_less rest in omega arith
  weight_less (If w x y rest) = let p = weight_less x in let q = weight_less y in let r = weight_less rest in omega arith

  loop_less : (list : Statements) → has_no_loop list ≡ true → has_no_loop (with_flags k list) ≡ true
  loop_less Empty h = h
  loop_less (Assign x w rest) h =
      of_if (λ z. has_no_loop z ≡ true) (stays k x) (Assign x w (with_flags k rest)) (with_flags k rest) (λ t. loop_less rest h) (λ t. loop_less rest h)
  loop_less (JumpTo w rest) h = loop_less rest h
  loop_less (Raise n rest) h = loop_less rest h
  loop_less (Special t rest) h = loop_less rest h
  loop_less (While w body rest) h = absurd (cc)
  loop_less (If w x y rest) h =
      let l = all_three (has_no_loop x) (has_no_loop y) (has_no_loop rest) h in
      join _ _ (join _ _ (loop_less x l.0) (loop_less y l.1)) (loop_less rest l.2)

  special_less : (list : Statements) → has_no_special list ≡ true → has_no_special (with_flags k list) ≡ true
  special_less Empty h = h
  special_less (Assign x w rest) h =
      of_if (λ z. has_no_special z ≡ true) (stays k x) (Assign x w (with_flags k rest)) (with_flags k rest)
      (λ t. special_less rest h) (λ t. special_less rest h)
  special_less (JumpTo w rest) h = special_less rest h
  special_less (Raise n rest) h = special_less rest h
  special_less (Special t rest) h = absurd (cc)
  special_less (While w body rest) h =
      let l = both (has_no_special body) (has_no_special rest) h in join _ _ (special_less body l.0) (special_less rest l.1)
  special_less (If w x y rest) h =
      let l = all_three (has_no_special x) (has_no_special y) (has_no_special rest) h in
      join _ _ (join _ _ (special_less x l.0) (special_less y l.1)) (special_less rest l.2)

  nesting_less : (list : Statements) → nesting (with_flags k list) ≤ nesting list
  nesting_less Empty = omega arith
  nesting_less (Assign x w rest) =
      of_if (λ z. nesting z ≤ nesting rest) (stays k x) (Assign x w (with_flags k rest)) (with_flags k rest) (λ t. nesting_less rest) (λ t. nesting_less rest)
  nesting_less (JumpTo w rest) = nesting_less rest
  nesting_less (Raise n rest) = nesting_less rest
  nesting_less (Special t rest) = nesting_less rest
  nesting_less (While w body rest) = max_less _ _ _ _ (nesting_less body) (nesting_less rest)
  nesting_less (If w x y rest) = max_less _ _ _ _ (one_more _ _ (max_less _ _ _ _ (nesting_less x) (nesting_less y))) (nesting_less rest)

  names_less : (list : Statements) (n : BilVariable → Bool) → list_names_only list n ≡ true → list_names_only (with_flags k list) n ≡ true
  names_less Empty n h = refl
  names_less (Assign x w rest) n h =
      let l = all_three (n x) (names_only w n) (list_names_only rest n) h in
      of_if (λ z. list_names_only z n ≡ true) (stays k x) (Assign x w (with_flags k rest)) (with_flags k rest)
      (λ t. join _ _ (join _ _ l.0 l.1) (names_less rest n l.2)) (λ t. names_less rest n l.2)
  names_less (JumpTo w rest) n h = let l = both (names_only w n) (list_names_only rest n) h in join _ _ l.0 (names_less rest n l.1)
  names_less (Raise m rest) n h = names_less rest n h
  names_less (Special t rest) n h = names_less rest n h
  names_less (While w body rest) n h =
      let l = all_three (names_only w n) (list_names_only body n) (list_names_only rest n) h in
      join _ _ (join _ _ l.0 (names_less body n l.1)) (names_less rest n l.2)
  names_less (If w x y rest) n h =
      let l = all_four (names_only w n) (list_names_only x n) (list_names_only y n) (list_names_only rest n) h in
      join _ _ (join _ _ (join _ _ l.0 (names_less x n l.1)) (names_less y n l.2)) (names_less rest n l.3)

  flag_assigns : (g f : ℕ) (w : Expression) (rest list : Statements) → may_assign f list ≡ (k f && may_assign f rest) →
      may_assign f (if k g then Assign (Flag g) w list else list) ≡ (k f && ((g == f) || may_assign f rest))
  flag_assigns g f w rest list h =
      of_if (λ z. may_assign f z ≡ (k f && ((g == f) || may_assign f rest))) (k g) (Assign (Flag g) w list) list
      (λ t. ap (λ (z : Bool). (g == f) || z) h ∙ or_kept (g == f) (k f) (may_assign f rest) (λ e. sym (ap k (one_flag g f e)) ∙ t))
      (λ t. h ∙ or_dropped (g == f) (k f) (may_assign f rest) (λ e. sym (ap k (one_flag g f e)) ∙ t))

  assigns_less : (f : ℕ) (list : Statements) → may_assign f (with_flags k list) ≡ (k f && may_assign f list)
  assigns_less f Empty = sym (none_kept (k f))
  assigns_less f (Assign (Register b r) w rest) = assigns_less f rest
  assigns_less f (Assign (Flag g) w rest) = flag_assigns g f w rest (with_flags k rest) (assigns_less f rest)
  assigns_less f (Assign Mem w rest) = assigns_less f rest
  assigns_less f (Assign (Local x n) w rest) = assigns_less f rest
  assigns_less f (JumpTo w rest) = assigns_less f rest
  assigns_less f (Raise n rest) = assigns_less f rest
  assigns_less f (Special t rest) = assigns_less f rest
  assigns_less f (While w body rest) =
      ap (λ (z : Bool). z || may_assign f (with_flags k rest)) (assigns_less f body)
      ∙ ap (λ (z : Bool). (k f && may_assign f body) || z) (assigns_less f rest)
      ∙ or_both (k f) (may_assign f body) (may_assign f rest)
  assigns_less f (If w x y rest) =
      ap (λ (z : Bool). z || may_assign f (with_flags k y) || may_assign f (with_flags k rest)) (assigns_less f x)
      ∙ ap (λ (z : Bool). (k f && may_assign f x) || z || may_assign f (with_flags k rest)) (assigns_less f y)
      ∙ ap (λ (z : Bool). (k f && may_assign f x) || (k f && may_assign f y) || z) (assigns_less f rest)
      ∙ or_three (k f) (may_assign f x) (may_assign f y) (may_assign f rest)

  -- a list that assigns no flag but those kept is itself
  all_stay : (list : Statements) → ((f : ℕ) → may_assign f list ≡ true → k f ≡ true) → with_flags k list ≡ list
  all_stay Empty h = refl
  all_stay (Assign (Register b r) w rest) h = ap (Assign (Register b r) w) (all_stay rest h)
  all_stay (Assign (Flag g) w rest) h =
      ap (λ (z : Bool). if z then Assign (Flag g) w (with_flags k rest) else with_flags k rest) (h g (left_or (g == g) (may_assign g rest) (same_flag g)))
      ∙ ap (Assign (Flag g) w) (all_stay rest (λ f t. h f (right_or (g == f) (may_assign f rest) t)))
  all_stay (Assign Mem w rest) h = ap (Assign Mem w) (all_stay rest h)
  all_stay (Assign (Local x n) w rest) h = ap (Assign (Local x n) w) (all_stay rest h)
  all_stay (JumpTo w rest) h = ap (JumpTo w) (all_stay rest h)
  all_stay (Raise n rest) h = ap (Raise n) (all_stay rest h)
  all_stay (Special t rest) h = ap (Special t) (all_stay rest h)
  all_stay (While w body rest) h =
      ap (λ (z : Statements). While w z (with_flags k rest)) (all_stay body (λ f t. h f (left_or (may_assign f body) (may_assign f rest) t)))
      ∙ ap (λ (z : Statements). While w body z) (all_stay rest (λ f t. h f (right_or (may_assign f body) (may_assign f rest) t)))
  all_stay (If w x y rest) h =
      ap (λ (z : Statements). If w z (with_flags k y) (with_flags k rest))
      (all_stay x (λ f t. h f (left_or (may_assign f x || may_assign f y) (may_assign f rest) (left_or (may_assign f x) (may_assign f y) t))))
      ∙ ap (λ (z : Statements). If w x z (with_flags k rest))
      (all_stay y (λ f t. h f (left_or (may_assign f x || may_assign f y) (may_assign f rest) (right_or (may_assign f x) (may_assign f y) t))))
      ∙ ap (λ (z : Statements). If w x y z) (all_stay rest (λ f t. h f (right_or (may_assign f x || may_assign f y) (may_assign f rest) t)))

pub flags_add_nothing : FlagsAddNothing
flags_add_nothing k list = record {
  no_more = record {
    typed = λ h. typed_less k list 0 0 h;
    no_loop = loop_less k list;
    no_special = special_less k list;
    nests = nesting_less k list;
    names = λ n h. names_less k list n h;
    weight = weight_less k list;
    loads = total_less k (total own_loads) list;
    stores = total_less k (total own_stores) list;
    picks = total_less k (total own_memory_choices) list;
    steady = total_less k (total own_chosen_stores) list;
    draws = total_less k (total own_unknowns) list;
  };
  loads = λ e a. total_less k (total (own_other_loads e a)) list;
  assigns = λ f. assigns_less k f list;
  same = all_stay k list;
}
