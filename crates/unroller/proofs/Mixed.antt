-- A list does not depend on the flags that it does not name, and leaves them.
use Rattle.std.proofs.Common.{◌≡◌, refl, ap, sym, ◌∙◌, subst, arith, ℕ, zero, suc, ◌++◌, List, Option, Some, None, Bool, true, false}
use Rattle.std.specs.Prelude.{if◌then◌else◌, ◌&&◌, ◌||◌, ◌==◌, ◌/◌}
use Rattle.std.specs.Option.{option_map}
use mathlib.Core.Path.{fun_ext}
use Rattle.word_spec.specs.State as state
use Rattle.machine_spec.specs.Bil.{BilVariable, Register, Flag, Mem, Local, Expression, Var, Constant, Load, Store, Binary, Unary, Cast, Let, Unknown, Choose, Extract, Concat, Statements, Empty, Assign, JumpTo, Raise, Special, While, If}
use Rattle.machine_spec.specs.BilCounts.{names_only, is_local, list_names_only, has_no_loop}
use Rattle.machine_spec.specs.BilMeaning.{Value, Word, Bytes, Stuck, Env, get, assign, put_local, load_from, store_to, binary, unary, cast_to, in_env, choose, extract_from, concat_of, evaluate, Position, Ending, Ends, RaisesException, OutOfTurns, Wrong, then_do, assigned, jumped, branch_on, execute}
use Rattle.machine_spec.specs.BilStores.{bytes_at, chosen, stored_in, stored_by, then_stored, list_stored}

pub both : (a b : Bool) → (a && b) ≡ true → (a ≡ true) × (b ≡ true)
both true true h = (refl, refl)
both true false h = absurd (cc)
both false b h = absurd (cc)

pub all_three : (a b c : Bool) → (a && b && c) ≡ true → (a ≡ true) × (b ≡ true) × (c ≡ true)
all_three a b c h = let l = both (a && b) c h in let r = both a b l.0 in (r.0, r.1, l.1)

pub all_four : (a b c d : Bool) → (a && b && c && d) ≡ true → (a ≡ true) × (b ≡ true) × (c ≡ true) × (d ≡ true)
all_four a b c d h = let l = both (a && b && c) d h in let r = all_three a b c l.0 in (r.0, r.1, r.2, l.1)

module _ (k : ℕ → Bool) (h : ℕ → ℕ) where
  -- the flags of a set, and others for the rest
  abbrev pub mix : Env → Env
  mix e = record { regs = e.regs; flags = λ f. if k f then e.flags f else h f; mem = e.mem; locals = e.locals }

  abbrev pub mix_at : Position → Position
  mix_at s = record { env = mix s.env; jump = s.jump; turns = s.turns }

  abbrev pub mix_end : Ending → Ending
  mix_end (Ends s) = Ends (mix_at s)
  mix_end (RaisesException n s) = RaisesException n (mix_at s)
  mix_end (OutOfTurns s) = OutOfTurns (mix_at s)
  mix_end Wrong = Wrong

  kept_flag : (b : Bool) (x y : ℕ) → b ≡ true → (if b then x else y) ≡ x
  kept_flag true x y e = refl
  kept_flag false x y e = absurd (cc)

  get_same : (x : BilVariable) (e : Env) (known : BilVariable → Bool) → ((f : ℕ) → known (Flag f) ≡ true → k f ≡ true) → known x ≡ true →
      get x (mix e) ≡ get x e
  get_same (Register b r) e known kn n = refl
  get_same (Flag f) e known kn n = ap (λ (v : ℕ). Word 1 v) (kept_flag (k f) (e.flags f) (h f) (kn f n))
  get_same Mem e known kn n = refl
  get_same (Local x w) e known kn n = refl

  in_if : (b : Bool) (e : Env) (f : Env → Value) → ((t : Env) → f (mix t) ≡ f t) →
      in_env (if b then Some (mix e) else None) f ≡ in_env (if b then Some e else None) f
  in_if true e f same = same e
  in_if false e f same = refl

  let_same : (x n : ℕ) (v : Value) (e : Env) (f : Env → Value) → ((t : Env) → f (mix t) ≡ f t) →
      in_env (assign (Local x n) v (mix e)) f ≡ in_env (assign (Local x n) v e) f
  let_same x n (Word m w) e f same = in_if (m == n) (record e { locals = put_local x n w e.locals }) f same
  let_same x n (Bytes m) e f same = refl
  let_same x n Stuck e f same = refl

  pub value_same : (x : Expression) (c : ℕ) (e : Env) (known : BilVariable → Bool) → ((f : ℕ) → known (Flag f) ≡ true → k f ≡ true) →
      names_only x known ≡ true →
      evaluate x c (mix e) ≡ evaluate x c e
  value_same (Var x) c e known kn n = get_same x e known kn n
  value_same (Constant w v) c e known kn n = refl
  value_same (Load m a o w) c e known kn n =
      let b = both (names_only m known) (names_only a known) n in
      ap (λ (z : Value). load_from o w z (evaluate a c (mix e))) (value_same m c e known kn b.0) ∙ ap
      (λ (z : Value). load_from o w (evaluate m c e) z) (value_same a c e known kn b.1)
  value_same (Store m a o w v) c e known kn n =
      let b = all_three (names_only m known) (names_only a known) (names_only v known) n in
      ap (λ (z : Value). store_to o w z (evaluate a c (mix e)) (evaluate v c (mix e))) (value_same m c e known kn b.0)
      ∙ ap (λ (z : Value). store_to o w (evaluate m c e) z (evaluate v c (mix e))) (value_same a c e known kn b.1)
      ∙ ap (λ (z : Value). store_to o w (evaluate m c e) (evaluate a c e) z) (value_same v c e known kn b.2)
  value_same (Binary o a b) c e known kn n =
      let l = both (names_only a known) (names_only b known) n in
      ap (λ (z : Value). binary o z (evaluate b c (mix e))) (value_same a c e known kn l.0) ∙ ap
      (λ (z : Value). binary o (evaluate a c e) z) (value_same b c e known kn l.1)
  value_same (Unary o a) c e known kn n = ap (λ (z : Value). unary o z) (value_same a c e known kn n)
  value_same (Cast o w a) c e known kn n = ap (λ (z : Value). cast_to o w z) (value_same a c e known kn n)
  value_same (Let x w a b) c e known kn n =
      let l = both (names_only a known) (names_only b (λ y. is_local x w y || known y)) n in
      ap (λ (z : Value). in_env (assign (Local x w) z (mix e)) (evaluate b c)) (value_same a c e known kn l.0)
      ∙ let_same x w (evaluate a c e) e (evaluate b c) (λ t. value_same b c t (λ y. is_local x w y || known y) kn l.1)
  value_same (Unknown t) c e known kn n = refl
  value_same (Choose t a b) c e known kn n =
      let l = all_three (names_only t known) (names_only a known) (names_only b known) n in
      ap (λ (z : Value). choose z (evaluate a c (mix e)) (evaluate b c (mix e))) (value_same t c e known kn l.0)
      ∙ ap (λ (z : Value). choose (evaluate t c e) z (evaluate b c (mix e))) (value_same a c e known kn l.1)
      ∙ ap (λ (z : Value). choose (evaluate t c e) (evaluate a c e) z) (value_same b c e known kn l.2)
  value_same (Extract hi lo a) c e known kn n = ap (λ (z : Value). extract_from hi lo z) (value_same a c e known kn n)
  value_same (Concat a b) c e known kn n =
      let l = both (names_only a known) (names_only b known) n in
      ap (λ (z : Value). concat_of z (evaluate b c (mix e))) (value_same a c e known kn l.0) ∙ ap
      (λ (z : Value). concat_of (evaluate a c e) z) (value_same b c e known kn l.1)

  put_point : (b d : Bool) (v x y : ℕ) → (b ≡ true → d ≡ true) → (if b then v else (if d then x else y)) ≡ (if d then (if b then v else x) else y)
  put_point true true v x y i = refl
  put_point true false v x y i = absurd (let e = i refl in cc)
  put_point false d v x y i = refl

  same_number : (g f : ℕ) → (g == f) ≡ true → k f ≡ true → k g ≡ true
  same_number g f e n = let is : g ≡ f = grind arith in subst (λ (z : ℕ). k z ≡ true) (sym is) n

  put_same : (f v : ℕ) (flags : ℕ → ℕ) → k f ≡ true → state.put (λ g. if k g then flags g else h g) f v ≡ (λ g. if k g then state.put flags f v g else h g)
  put_same f v flags n = fun_ext (λ g. put_point (g == f) (k g) v (flags g) (h g) (λ e. same_number g f e n))

  some_if : (b : Bool) (e t : Env) → mix e ≡ t → (if b then Some t else None) ≡ option_map mix (if b then Some e else None)
  some_if true e t s = ap (λ (z : Env). Some z) (sym s)
  some_if false e t s = refl

  assign_same : (x : BilVariable) (v : Value) (e : Env) (known : BilVariable → Bool) → ((f : ℕ) → known (Flag f) ≡ true → k f ≡ true) → known x ≡ true →
      assign x v (mix e) ≡ option_map mix (assign x v e)
  assign_same (Register b r) (Word n v) e known kn is = some_if (n == 32) (record e { regs = state.put e.regs r v })
      (record (mix e) { regs = state.put e.regs r v }) refl
  assign_same (Register b r) (Bytes m) e known kn is = refl
  assign_same (Register b r) Stuck e known kn is = refl
  assign_same (Flag f) (Word n v) e known kn is =
      some_if (n == 1) (record e { flags = state.put e.flags f v }) (record (mix e) { flags = state.put (mix e).flags f v })
      (ap (λ (z : ℕ → ℕ). let r : Env = record { regs = e.regs; flags = z; mem = e.mem; locals = e.locals } in r) (sym (put_same f v e.flags (kn f is))))
  assign_same (Flag f) (Bytes m) e known kn is = refl
  assign_same (Flag f) Stuck e known kn is = refl
  assign_same Mem (Bytes m) e known kn is = refl
  assign_same Mem (Word n v) e known kn is = refl
  assign_same Mem Stuck e known kn is = refl
  assign_same (Local x w) (Word n v) e known kn is = some_if (n == w) (record e { locals = put_local x w v e.locals })
      (record (mix e) { locals = put_local x w v e.locals }) refl
  assign_same (Local x w) (Bytes m) e known kn is = refl
  assign_same (Local x w) Stuck e known kn is = refl

  then_same : (d : Ending) (f : Position → Ending) → ((s : Position) → f (mix_at s) ≡ mix_end (f s)) → then_do (mix_end d) f ≡ mix_end (then_do d f)
  then_same (Ends s) f same = same s
  then_same (RaisesException n s) f same = refl
  then_same (OutOfTurns s) f same = refl
  then_same Wrong f same = refl

  assigned_same : (o : Option Env) (s : Position) → assigned (option_map mix o) (mix_at s) ≡ mix_end (assigned o s)
  assigned_same None s = refl
  assigned_same (Some e) s = refl

  jump_if : (b : Bool) (v : ℕ) (s : Position) → (if b then Ends (record (mix_at s) { jump = Some v }) else Wrong)
      ≡ mix_end (if b then Ends (record s { jump = Some v }) else Wrong)
  jump_if true v s = refl
  jump_if false v s = refl

  jumped_same : (v : Value) (s : Position) → jumped v (mix_at s) ≡ mix_end (jumped v s)
  jumped_same (Word n v) s = jump_if (n == 32) v s
  jumped_same (Bytes m) s = refl
  jumped_same Stuck s = refl

  branch_same : (v : Value) (a b : Ending) → branch_on v (mix_end a) (mix_end b) ≡ mix_end (branch_on v a b)
  branch_same (Word zero v) a b = refl
  branch_same (Word (suc zero) zero) a b = refl
  branch_same (Word (suc zero) (suc v)) a b = refl
  branch_same (Word (suc (suc n)) v) a b = refl
  branch_same (Bytes m) a b = refl
  branch_same Stuck a b = refl

  pub list_same : (list : Statements) (c : ℕ) (s : Position) (known : BilVariable → Bool) → ((f : ℕ) → known (Flag f) ≡ true → k f ≡ true) →
      has_no_loop list ≡ true →
      list_names_only list known ≡ true → execute list c (mix_at s) ≡ mix_end (execute list c s)
  list_same Empty c s known kn free n = refl
  list_same (Assign x e rest) c s known kn free n =
      let l = all_three (known x) (names_only e known) (list_names_only rest known) n in
      ap (λ (z : Value). then_do (assigned (assign x z (mix s.env)) (mix_at s)) (execute rest c)) (value_same e c s.env known kn l.1)
      ∙ ap (λ (z : Option Env). then_do (assigned z (mix_at s)) (execute rest c)) (assign_same x (evaluate e c s.env) s.env known kn l.0)
      ∙ ap (λ (z : Ending). then_do z (execute rest c)) (assigned_same (assign x (evaluate e c s.env) s.env) s)
      ∙ then_same (assigned (assign x (evaluate e c s.env) s.env) s) (execute rest c) (λ t. list_same rest c t known kn free l.2)
  list_same (JumpTo e rest) c s known kn free n =
      let l = both (names_only e known) (list_names_only rest known) n in
      ap (λ (z : Value). then_do (jumped z (mix_at s)) (execute rest c)) (value_same e c s.env known kn l.0)
      ∙ ap (λ (z : Ending). then_do z (execute rest c)) (jumped_same (evaluate e c s.env) s)
      ∙ then_same (jumped (evaluate e c s.env) s) (execute rest c) (λ t. list_same rest c t known kn free l.1)
  list_same (Raise m rest) c s known kn free n = refl
  list_same (Special t rest) c s known kn free n = list_same rest c s known kn free n
  list_same (While e body rest) c s known kn free n = absurd (cc)
  list_same (If e a b rest) c s known kn free n =
      let l = all_four (names_only e known) (list_names_only a known) (list_names_only b known) (list_names_only rest known) n in
      let o = all_three (has_no_loop a) (has_no_loop b) (has_no_loop rest) free in
      ap (λ (z : Value). then_do (branch_on z (execute a c (mix_at s)) (execute b c (mix_at s))) (execute rest c)) (value_same e c s.env known kn l.0)
      ∙ ap (λ (z : Ending). then_do (branch_on (evaluate e c s.env) z (execute b c (mix_at s))) (execute rest c)) (list_same a c s known kn o.0 l.1)
      ∙ ap (λ (z : Ending). then_do (branch_on (evaluate e c s.env) (mix_end (execute a c s)) z) (execute rest c)) (list_same b c s known kn o.1 l.2)
      ∙ ap (λ (z : Ending). then_do z (execute rest c)) (branch_same (evaluate e c s.env) (execute a c s) (execute b c s))
      ∙ then_same (branch_on (evaluate e c s.env) (execute a c s) (execute b c s)) (execute rest c) (λ t. list_same rest c t known kn o.2 l.3)

  stored_if : (b : Bool) (e : Env) (f : Env → List ℕ) → ((t : Env) → f (mix t) ≡ f t) →
      stored_in (if b then Some (mix e) else None) f ≡ stored_in (if b then Some e else None) f
  stored_if true e f same = same e
  stored_if false e f same = refl

  let_stores : (x n : ℕ) (v : Value) (e : Env) (f : Env → List ℕ) → ((t : Env) → f (mix t) ≡ f t) →
      stored_in (assign (Local x n) v (mix e)) f ≡ stored_in (assign (Local x n) v e) f
  let_stores x n (Word m w) e f same = stored_if (m == n) (record e { locals = put_local x n w e.locals }) f same
  let_stores x n (Bytes m) e f same = refl
  let_stores x n Stuck e f same = refl

  append_both : (a b x y : List ℕ) → a ≡ b → x ≡ y → a ++ x ≡ b ++ y
  append_both a b x y p q = ap (λ (z : List ℕ). z ++ x) p ∙ ap (λ (z : List ℕ). b ++ z) q

  pub stores_same : (x : Expression) (c : ℕ) (e : Env) (known : BilVariable → Bool) → ((f : ℕ) → known (Flag f) ≡ true → k f ≡ true) →
      names_only x known ≡ true →
      stored_by x c (mix e) ≡ stored_by x c e
  stores_same (Var x) c e known kn n = refl
  stores_same (Constant w v) c e known kn n = refl
  stores_same (Load m a o w) c e known kn n =
      let b = both (names_only m known) (names_only a known) n in append_both _ _ _ _ (stores_same m c e known kn b.0) (stores_same a c e known kn b.1)
  stores_same (Store m a o w v) c e known kn n =
      let b = all_three (names_only m known) (names_only a known) (names_only v known) n in
      append_both _ _ _ _ (append_both _ _ _ _ (append_both _ _ _ _ (stores_same m c e known kn b.0) (stores_same a c e known kn b.1))
      (stores_same v c e known kn b.2))
      (ap (λ (z : Value). bytes_at (w / 8) z) (value_same a c e known kn b.1))
  stores_same (Binary o a b) c e known kn n =
      let l = both (names_only a known) (names_only b known) n in append_both _ _ _ _ (stores_same a c e known kn l.0) (stores_same b c e known kn l.1)
  stores_same (Unary o a) c e known kn n = stores_same a c e known kn n
  stores_same (Cast o w a) c e known kn n = stores_same a c e known kn n
  stores_same (Let x w a b) c e known kn n =
      let l = both (names_only a known) (names_only b (λ y. is_local x w y || known y)) n in
      append_both _ _ _ _ (stores_same a c e known kn l.0)
      (ap (λ (z : Value). stored_in (assign (Local x w) z (mix e)) (stored_by b c)) (value_same a c e known kn l.0)
      ∙ let_stores x w (evaluate a c e) e (stored_by b c) (λ t. stores_same b c t (λ y. is_local x w y || known y) kn l.1))
  stores_same (Unknown t) c e known kn n = refl
  stores_same (Choose t a b) c e known kn n =
      let l = all_three (names_only t known) (names_only a known) (names_only b known) n in
      append_both _ _ _ _ (stores_same t c e known kn l.0)
      (ap (λ (z : Value). chosen z (stored_by a c (mix e)) (stored_by b c (mix e))) (value_same t c e known kn l.0)
      ∙ ap (λ (z : List ℕ). chosen (evaluate t c e) z (stored_by b c (mix e))) (stores_same a c e known kn l.1)
      ∙ ap (λ (z : List ℕ). chosen (evaluate t c e) (stored_by a c e) z) (stores_same b c e known kn l.2))
  stores_same (Extract hi lo a) c e known kn n = stores_same a c e known kn n
  stores_same (Concat a b) c e known kn n =
      let l = both (names_only a known) (names_only b known) n in append_both _ _ _ _ (stores_same a c e known kn l.0) (stores_same b c e known kn l.1)

  then_stores : (d : Ending) (f : Position → List ℕ) → ((s : Position) → f (mix_at s) ≡ f s) → then_stored (mix_end d) f ≡ then_stored d f
  then_stores (Ends s) f same = same s
  then_stores (RaisesException n s) f same = refl
  then_stores (OutOfTurns s) f same = refl
  then_stores Wrong f same = refl

  pub list_stores_same : (list : Statements) (c : ℕ) (s : Position) (known : BilVariable → Bool) → ((f : ℕ) → known (Flag f) ≡ true → k f ≡ true) →
      has_no_loop list ≡ true →
      list_names_only list known ≡ true → list_stored list c (mix_at s) ≡ list_stored list c s
  list_stores_same Empty c s known kn free n = refl
  list_stores_same (Assign x e rest) c s known kn free n =
      let l = all_three (known x) (names_only e known) (list_names_only rest known) n in
      append_both _ _ _ _ (stores_same e c s.env known kn l.1)
      (ap (λ (z : Value). then_stored (assigned (assign x z (mix s.env)) (mix_at s)) (list_stored rest c)) (value_same e c s.env known kn l.1)
      ∙ ap (λ (z : Option Env). then_stored (assigned z (mix_at s)) (list_stored rest c)) (assign_same x (evaluate e c s.env) s.env known kn l.0)
      ∙ ap (λ (z : Ending). then_stored z (list_stored rest c)) (assigned_same (assign x (evaluate e c s.env) s.env) s)
      ∙ then_stores (assigned (assign x (evaluate e c s.env) s.env) s) (list_stored rest c) (λ t. list_stores_same rest c t known kn free l.2))
  list_stores_same (JumpTo e rest) c s known kn free n =
      let l = both (names_only e known) (list_names_only rest known) n in
      append_both _ _ _ _ (stores_same e c s.env known kn l.0)
      (ap (λ (z : Value). then_stored (jumped z (mix_at s)) (list_stored rest c)) (value_same e c s.env known kn l.0)
      ∙ ap (λ (z : Ending). then_stored z (list_stored rest c)) (jumped_same (evaluate e c s.env) s)
      ∙ then_stores (jumped (evaluate e c s.env) s) (list_stored rest c) (λ t. list_stores_same rest c t known kn free l.1))
  list_stores_same (Raise m rest) c s known kn free n = refl
  list_stores_same (Special t rest) c s known kn free n = list_stores_same rest c s known kn free n
  list_stores_same (While e body rest) c s known kn free n = refl
  list_stores_same (If e a b rest) c s known kn free n =
      let l = all_four (names_only e known) (list_names_only a known) (list_names_only b known) (list_names_only rest known) n in
      let o = all_three (has_no_loop a) (has_no_loop b) (has_no_loop rest) free in
      append_both _ _ _ _ (append_both _ _ _ _ (stores_same e c s.env known kn l.0)
      (ap (λ (z : Value). chosen z (list_stored a c (mix_at s)) (list_stored b c (mix_at s))) (value_same e c s.env known kn l.0)
      ∙ ap (λ (z : List ℕ). chosen (evaluate e c s.env) z (list_stored b c (mix_at s))) (list_stores_same a c s known kn o.0 l.1)
      ∙ ap (λ (z : List ℕ). chosen (evaluate e c s.env) (list_stored a c s) z) (list_stores_same b c s known kn o.1 l.2)))
      (ap (λ (z : Value). then_stored (branch_on z (execute a c (mix_at s)) (execute b c (mix_at s))) (list_stored rest c)) (value_same e c s.env known kn l.0)
      ∙ ap (λ (z : Ending). then_stored (branch_on (evaluate e c s.env) z (execute b c (mix_at s))) (list_stored rest c)) (list_same a c s known kn o.0 l.1)
      ∙ ap (λ (z : Ending). then_stored (branch_on (evaluate e c s.env) (mix_end (execute a c s)) z) (list_stored rest c)) (list_same b c s known kn o.1 l.2)
      ∙ ap (λ (z : Ending). then_stored z (list_stored rest c)) (branch_same (evaluate e c s.env) (execute a c s) (execute b c s))
      ∙ then_stores (branch_on (evaluate e c s.env) (execute a c s) (execute b c s)) (list_stored rest c) (λ t. list_stores_same rest c t known kn o.2 l.3))
