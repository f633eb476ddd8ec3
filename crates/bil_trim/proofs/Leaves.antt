-- A list without loops leaves the flags that it does not assign.
use Rattle.std.proofs.Common.{◌≡◌, refl, subst, ◌∙◌, arith, ℕ, zero, suc, Some, None, Bool, true, false}
use Rattle.std.specs.Prelude.{◌==◌, ◌||◌, if◌then◌else◌}
use Rattle.std.proofs.lemmas.Bool.Decides.{nat_tests}
use Rattle.word_spec.specs.State as state
use Rattle.machine_spec.specs.Bil.{BilVariable, Register, Flag, Mem, Local, Statements, Empty, Assign, JumpTo, Raise, Special, While, If}
use Rattle.machine_spec.specs.BilCounts.{has_no_loop, is_flag, may_assign}
use Rattle.machine_spec.specs.BilMeaning.{Value, Word, Bytes, Stuck, Env, assign, evaluate, put_local, Position, Ending, Ends, RaisesException, OutOfTurns, Wrong, then_do, assigned, jumped, branch_on, execute}
use Rattle.bil_trim.specs.Flags.{OtherFlagsStay}
use Rattle.bil_trim.proofs.Loads.{all_three}

pub neither : (a b : Bool) → (a || b) ≡ false → (a ≡ false) × (b ≡ false)
neither true b h = absurd (cc)
neither false b h = (refl, h)

pub none_of_three : (a b c : Bool) → (a || b || c) ≡ false → (a ≡ false) × (b ≡ false) × (c ≡ false)
none_of_three a b c h = let l = neither (a || b) c h in let r = neither a b l.0 in (r.0, r.1, l.1)

other_put : (b : Bool) (v x : ℕ) → b ≡ false → (if b then v else x) ≡ x
other_put true v x h = absurd (cc)
other_put false v x h = refl

turned : (f g : ℕ) → (g == f) ≡ false → (f == g) ≡ false
turned f g h = grind (arith, nat_tests)

module _ (f n : ℕ) where
  -- an end has the number in the flag
  abbrev pub EndsWith : Ending → Type 0
  EndsWith (Ends s) = s.env.flags f ≡ n
  EndsWith (RaisesException m s) = Unit {0}
  EndsWith (OutOfTurns s) = Unit {0}
  EndsWith Wrong = Unit {0}

  pub at_end : (d : Ending) (t : Position) → EndsWith d → d ≡ Ends t → t.env.flags f ≡ n
  at_end d t h e = subst EndsWith e h

  with_if : (b : Bool) (t : Env) (s : Position) → t.flags f ≡ n → EndsWith (assigned (if b then Some t else None) s)
  with_if true t s h = h
  with_if false t s h = tt

  pub with_assigned : (x : BilVariable) (v : Value) (s : Position) → is_flag f x ≡ false → s.env.flags f ≡ n → EndsWith (assigned (assign x v s.env) s)
  with_assigned (Register b r) (Word m v) s h q = with_if (m == 32) (record s.env { regs = state.put s.env.regs r v }) s q
  with_assigned (Register b r) (Bytes d) s h q = tt
  with_assigned (Register b r) Stuck s h q = tt
  with_assigned (Flag g) (Word m v) s h q =
      with_if (m == 1) (record s.env { flags = state.put s.env.flags g v }) s (other_put (f == g) v (s.env.flags f) (turned f g h) ∙ q)
  with_assigned (Flag g) (Bytes d) s h q = tt
  with_assigned (Flag g) Stuck s h q = tt
  with_assigned Mem (Bytes d) s h q = q
  with_assigned Mem (Word m v) s h q = tt
  with_assigned Mem Stuck s h q = tt
  with_assigned (Local x k) (Word m v) s h q = with_if (m == k) (record s.env { locals = put_local x k v s.env.locals }) s q
  with_assigned (Local x k) (Bytes d) s h q = tt
  with_assigned (Local x k) Stuck s h q = tt

  with_to : (b : Bool) (v : ℕ) (s : Position) → s.env.flags f ≡ n → EndsWith (if b then Ends (record s { jump = Some v }) else Wrong)
  with_to true v s q = q
  with_to false v s q = tt

  pub with_jumped : (v : Value) (s : Position) → s.env.flags f ≡ n → EndsWith (jumped v s)
  with_jumped (Word m v) s q = with_to (m == 32) v s q
  with_jumped (Bytes d) s q = tt
  with_jumped Stuck s q = tt

  pub with_branch : (v : Value) (x y : Ending) → EndsWith x → EndsWith y → EndsWith (branch_on v x y)
  with_branch (Word zero w) x y h i = tt
  with_branch (Word (suc zero) zero) x y h i = i
  with_branch (Word (suc zero) (suc w)) x y h i = h
  with_branch (Word (suc (suc m)) w) x y h i = tt
  with_branch (Bytes d) x y h i = tt
  with_branch Stuck x y h i = tt

  with_then : (d : Ending) (g : Position → Ending) → EndsWith d → ((s : Position) → s.env.flags f ≡ n → EndsWith (g s)) → EndsWith (then_do d g)
  with_then (Ends s) g q h = h s q
  with_then (RaisesException m s) g q h = tt
  with_then (OutOfTurns s) g q h = tt
  with_then Wrong g q h = tt

  pub leaves : (list : Statements) (c : ℕ) (s : Position) → has_no_loop list ≡ true → may_assign f list ≡ false → s.env.flags f ≡ n →
      EndsWith (execute list c s)
  leaves Empty c s free h q = q
  leaves (Assign x w rest) c s free h q =
      let l = neither (is_flag f x) (may_assign f rest) h in
      with_then _ (execute rest c) (with_assigned x (evaluate w c s.env) s l.0 q) (λ t p. leaves rest c t free l.1 p)
  leaves (JumpTo w rest) c s free h q = with_then _ (execute rest c) (with_jumped (evaluate w c s.env) s q) (λ t p. leaves rest c t free h p)
  leaves (Raise m rest) c s free h q = tt
  leaves (Special t rest) c s free h q = leaves rest c s free h q
  leaves (While w body rest) c s free h q = absurd (cc)
  leaves (If w x y rest) c s free h q =
      let o = all_three (has_no_loop x) (has_no_loop y) (has_no_loop rest) free in
      let l = none_of_three (may_assign f x) (may_assign f y) (may_assign f rest) h in
      with_then _ (execute rest c)
      (with_branch (evaluate w c s.env) (execute x c s) (execute y c s) (leaves x c s o.0 l.0 q) (leaves y c s o.1 l.1 q))
      (λ t p. leaves rest c t o.2 l.2 p)

pub other_flags_stay : OtherFlagsStay
other_flags_stay list c f s t free none ends = at_end f (s.env.flags f) (execute list c s) t (leaves f (s.env.flags f) list c s free none refl) ends
