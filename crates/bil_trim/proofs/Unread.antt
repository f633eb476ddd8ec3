-- A list does the same without the assignments of flags that it reads only before them, but that it leaves those flags.
use Rattle.std.proofs.Common.{◌≡◌, refl, ap, sym, ◌∙◌, subst, ⊎_elim, ℕ, zero, suc, ◌++◌, List, Option, Some, None, Bool, true, false}
use Rattle.std.specs.Prelude.{Contains, if◌then◌else◌, ◌&&◌, ◌||◌, ◌==◌, ◌/◌, not}
use Rattle.std.specs.Option.{option_map}
use Rattle.std.proofs.lemmas.List.Elements.{Contains-append_left, Contains-append_right, Contains-append_cases}
use mathlib.Core.Path.{fun_ext}
use Rattle.word_spec.specs.State as state
use Rattle.machine_spec.specs.Bil.{BilVariable, Register, Flag, Mem, Local, Expression, Var, Constant, Load, Store, Binary, Unary, Cast, Let, Unknown, Choose, Extract, Concat, Statements, Empty, Assign, JumpTo, Raise, Special, While, If}
use Rattle.machine_spec.specs.BilCounts.{has_no_loop, is_flag, reads_flag, may_assign, reads_first}
use Rattle.machine_spec.specs.BilMeaning.{Value, Word, Bytes, Stuck, Env, get, assign, put_local, load_from, store_to, binary, unary, cast_to, in_env, choose, extract_from, concat_of, evaluate, Position, Ending, Ends, RaisesException, OutOfTurns, Wrong, then_do, assigned, jumped, branch_on, execute}
use Rattle.machine_spec.specs.BilStores.{bytes_at, chosen, stored_in, stored_by, then_stored, list_stored}
use Rattle.bil_trim.specs.Flags.{stays, with_flags, env_with, position_with, ending_with, IsMeant, FlagsKeepMeaning, FlagsStoreNoMore}
use Rattle.bil_trim.proofs.Loads.{both, all_three, all_four}
use Rattle.bil_trim.proofs.Fewer.{of_if, left_or, right_or, same_flag, one_flag}
use Rattle.bil_trim.proofs.Leaves.{neither, none_of_three, at_end, with_assigned, with_jumped, with_branch, leaves}

unread : (p q : Bool) → not (p && q) ≡ true → q ≡ true → p ≡ false
unread true true h i = absurd (cc)
unread true false h i = absurd (cc)
unread false q h i = refl

pick : (b : Bool) (x y : ℕ) → (b ≡ false → x ≡ y) → (if b then x else y) ≡ x
pick true x y h = refl
pick false x y h = sym (h refl)

put_kept : (b d : Bool) (v x y : ℕ) → (b ≡ true → d ≡ true) → (if b then v else (if d then x else y)) ≡ (if d then (if b then v else x) else y)
put_kept true true v x y i = refl
put_kept true false v x y i = let e = i refl in absurd (cc)
put_kept false d v x y i = refl

put_dropped : (b d : Bool) (v x y : ℕ) → (b ≡ true → d ≡ false) → (if d then (if b then v else x) else y) ≡ (if d then x else y)
put_dropped true true v x y i = let e = i refl in absurd (cc)
put_dropped true false v x y i = refl
put_dropped false d v x y i = refl

-- a list whose parts have no more than another's
append_less : (xs ys us vs : List ℕ) (a : ℕ) → xs ≡ us → (Contains ys a → Contains vs a) → Contains (xs ++ ys) a → Contains (us ++ vs) a
append_less xs ys us vs a same less h =
    ⊎_elim (λ q. Contains-append_left us vs a (subst (λ (z : List ℕ). Contains z a) same q)) (λ q. Contains-append_right us vs a (less q))
    (Contains-append_cases xs ys a h)

append_two : (xs ys us vs : List ℕ) (a : ℕ) → (Contains xs a → Contains us a) → (Contains ys a → Contains vs a) → Contains (xs ++ ys) a →
    Contains (us ++ vs) a
append_two xs ys us vs a first second h =
    ⊎_elim (λ q. Contains-append_left us vs a (first q)) (λ q. Contains-append_right us vs a (second q)) (Contains-append_cases xs ys a h)

append_both : (xs ys us vs : List ℕ) → xs ≡ us → ys ≡ vs → xs ++ ys ≡ us ++ vs
append_both xs ys us vs p q = ap (λ (z : List ℕ). z ++ ys) p ∙ ap (λ (z : List ℕ). us ++ z) q

module _ (k : ℕ → Bool) (h : ℕ → ℕ) where
  abbrev mix : Env → Env
  mix e = env_with k h e

  abbrev mix_at : Position → Position
  mix_at s = position_with k h s

  abbrev mix_end : Ending → Ending
  mix_end d = ending_with k h d

  -- of the flags that are read those that are not kept have the other values
  abbrev Agrees : (reads : ℕ → Bool) → (flags : ℕ → ℕ) → Type 0
  Agrees reads flags = (f : ℕ) → k f ≡ false → reads f ≡ true → flags f ≡ h f

  agrees_left : (p q : ℕ → Bool) (s : ℕ → ℕ) → Agrees (λ f. p f || q f) s → Agrees p s
  agrees_left p q s g f n r = g f n (left_or (p f) (q f) r)

  agrees_right : (p q : ℕ → Bool) (s : ℕ → ℕ) → Agrees (λ f. p f || q f) s → Agrees q s
  agrees_right p q s g f n r = g f n (right_or (p f) (q f) r)

  abbrev reads : Expression → ℕ → Bool
  reads x f = reads_flag f x

  agree_two : (x y : Expression) (s : ℕ → ℕ) → Agrees (λ f. reads_flag f x || reads_flag f y) s → Agrees (reads x) s × Agrees (reads y) s
  agree_two x y s g = (agrees_left (reads x) (reads y) s g, agrees_right (reads x) (reads y) s g)

  agree_three : (x y z : Expression) (s : ℕ → ℕ) → Agrees (λ f. reads_flag f x || reads_flag f y || reads_flag f z) s →
      Agrees (reads x) s × Agrees (reads y) s × Agrees (reads z) s
  agree_three x y z s g =
      let l = agree_two x y s (agrees_left (λ f. reads_flag f x || reads_flag f y) (reads z) s g) in
      (l.0, l.1, agrees_right (λ f. reads_flag f x || reads_flag f y) (reads z) s g)

  get_same : (x : BilVariable) (e : Env) → Agrees (λ f. is_flag f x) e.flags → get x (mix e) ≡ get x e
  get_same (Register b r) e g = refl
  get_same (Flag f) e g = ap (λ (v : ℕ). Word 1 v) (pick (k f) (e.flags f) (h f) (λ n. g f n (same_flag f)))
  get_same Mem e g = refl
  get_same (Local x w) e g = refl

  env_if : (b : Bool) (e : Env) (f : Env → Value) → f (mix e) ≡ f e → in_env (if b then Some (mix e) else None) f ≡ in_env (if b then Some e else None) f
  env_if true e f same = same
  env_if false e f same = refl

  let_same : (x n : ℕ) (v : Value) (e : Env) (f : Env → Value) →
      ((l : ℕ → ℕ → Value) → f (mix (record e { locals = l })) ≡ f (record e { locals = l })) →
      in_env (assign (Local x n) v (mix e)) f ≡ in_env (assign (Local x n) v e) f
  let_same x n (Word m w) e f same = env_if (m == n) (record e { locals = put_local x n w e.locals }) f (same (put_local x n w e.locals))
  let_same x n (Bytes m) e f same = refl
  let_same x n Stuck e f same = refl

  -- an expression has the same value where the flags that it reads do
  value_same : (x : Expression) (c : ℕ) (e : Env) → Agrees (reads x) e.flags → evaluate x c (mix e) ≡ evaluate x c e
  value_same (Var x) c e g = get_same x e g
  value_same (Constant w v) c e g = refl
  value_same (Load m a o w) c e g =
      let l = agree_two m a e.flags g in
      ap (λ (z : Value). load_from o w z (evaluate a c (mix e))) (value_same m c e l.0)
      ∙ ap (λ (z : Value). load_from o w (evaluate m c e) z) (value_same a c e l.1)
  value_same (Store m a o w v) c e g =
      let l = agree_three m a v e.flags g in
      ap (λ (z : Value). store_to o w z (evaluate a c (mix e)) (evaluate v c (mix e))) (value_same m c e l.0)
      ∙ ap (λ (z : Value). store_to o w (evaluate m c e) z (evaluate v c (mix e))) (value_same a c e l.1)
      ∙ ap (λ (z : Value). store_to o w (evaluate m c e) (evaluate a c e) z) (value_same v c e l.2)
  value_same (Binary o a b) c e g =
      let l = agree_two a b e.flags g in
      ap (λ (z : Value). binary o z (evaluate b c (mix e))) (value_same a c e l.0) ∙ ap (λ (z : Value). binary o (evaluate a c e) z) (value_same b c e l.1)
  value_same (Unary o a) c e g = ap (λ (z : Value). unary o z) (value_same a c e g)
  value_same (Cast o w a) c e g = ap (λ (z : Value). cast_to o w z) (value_same a c e g)
  value_same (Let x w a b) c e g =
      let l = agree_two a b e.flags g in
      ap (λ (z : Value). in_env (assign (Local x w) z (mix e)) (evaluate b c)) (value_same a c e l.0)
      ∙ let_same x w (evaluate a c e) e (evaluate b c) (λ t. value_same b c (record e { locals = t }) l.1)
  value_same (Unknown t) c e g = refl
  value_same (Choose t a b) c e g =
      let l = agree_three t a b e.flags g in
      ap (λ (z : Value). choose z (evaluate a c (mix e)) (evaluate b c (mix e))) (value_same t c e l.0)
      ∙ ap (λ (z : Value). choose (evaluate t c e) z (evaluate b c (mix e))) (value_same a c e l.1)
      ∙ ap (λ (z : Value). choose (evaluate t c e) (evaluate a c e) z) (value_same b c e l.2)
  value_same (Extract hi lo a) c e g = ap (λ (z : Value). extract_from hi lo z) (value_same a c e g)
  value_same (Concat a b) c e g =
      let l = agree_two a b e.flags g in
      ap (λ (z : Value). concat_of z (evaluate b c (mix e))) (value_same a c e l.0) ∙ ap (λ (z : Value). concat_of (evaluate a c e) z) (value_same b c e l.1)

  -- an assignment that stays
  put_same : (f v : ℕ) (flags : ℕ → ℕ) → k f ≡ true → state.put (λ g. if k g then flags g else h g) f v ≡ (λ g. if k g then state.put flags f v g else h g)
  put_same f v flags n = fun_ext (λ g. put_kept (g == f) (k g) v (flags g) (h g) (λ e. ap k (one_flag g f e) ∙ n))

  some_if : (b : Bool) (e t : Env) → mix e ≡ t → (if b then Some t else None) ≡ option_map mix (if b then Some e else None)
  some_if true e t s = ap (λ (z : Env). Some z) (sym s)
  some_if false e t s = refl

  assign_same : (x : BilVariable) (v : Value) (e : Env) → stays k x ≡ true → assign x v (mix e) ≡ option_map mix (assign x v e)
  assign_same (Register b r) (Word n v) e is = some_if (n == 32) (record e { regs = state.put e.regs r v })
      (record (mix e) { regs = state.put e.regs r v }) refl
  assign_same (Register b r) (Bytes m) e is = refl
  assign_same (Register b r) Stuck e is = refl
  assign_same (Flag f) (Word n v) e is =
      some_if (n == 1) (record e { flags = state.put e.flags f v }) (record (mix e) { flags = state.put (mix e).flags f v })
      (ap (λ (z : ℕ → ℕ). let r : Env = record { regs = e.regs; flags = z; mem = e.mem; locals = e.locals } in r) (sym (put_same f v e.flags is)))
  assign_same (Flag f) (Bytes m) e is = refl
  assign_same (Flag f) Stuck e is = refl
  assign_same Mem (Bytes m) e is = refl
  assign_same Mem (Word n v) e is = refl
  assign_same Mem Stuck e is = refl
  assign_same (Local x w) (Word n v) e is = some_if (n == w) (record e { locals = put_local x w v e.locals })
      (record (mix e) { locals = put_local x w v e.locals }) refl
  assign_same (Local x w) (Bytes m) e is = refl
  assign_same (Local x w) Stuck e is = refl

  assigned_same : (o : Option Env) (s : Position) → assigned (option_map mix o) (mix_at s) ≡ mix_end (assigned o s)
  assigned_same None s = refl
  assigned_same (Some e) s = refl

  kept_same : (x : BilVariable) (w : Expression) (c : ℕ) (s : Position) → stays k x ≡ true → Agrees (reads w) s.env.flags →
      assigned (assign x (evaluate w c (mix s.env)) (mix s.env)) (mix_at s) ≡ mix_end (assigned (assign x (evaluate w c s.env) s.env) s)
  kept_same x w c s is g =
      ap (λ (z : Value). assigned (assign x z (mix s.env)) (mix_at s)) (value_same w c s.env g)
      ∙ ap (λ (z : Option Env). assigned z (mix_at s)) (assign_same x (evaluate w c s.env) s.env is)
      ∙ assigned_same (assign x (evaluate w c s.env) s.env) s

  -- what comes after an assignment that is dropped
  dropped_flag : (f v : ℕ) (s : Position) → k f ≡ false → mix_at (record s { env = record s.env { flags = state.put s.env.flags f v } }) ≡ mix_at s
  dropped_flag f v s n =
      ap
      (λ (z : ℕ → ℕ).
      let r : Position = record {
        env = record { regs = s.env.regs; flags = z; mem = s.env.mem; locals = s.env.locals };
        jump = s.jump;
        turns = s.turns;
      } in r)
      (fun_ext (λ g. put_dropped (g == f) (k g) v (s.env.flags g) (h g) (λ e. ap k (one_flag g f e) ∙ n)))

  -- the position that an assignment left which is dropped, if it has one
  dropped_if : (b : Bool) (e : Env) (s : Position) (f : Position → Ending) → mix_at (record s { env = e }) ≡ mix_at s →
      IsMeant (then_do (assigned (if b then Some e else None) s) f) →
      (t : Position) × (assigned (if b then Some e else None) s ≡ Ends t) × (mix_at t ≡ mix_at s)
  dropped_if true e s f same m = (record s { env = e }, refl, same)
  dropped_if false e s f same m = absurd m

  dropped : (x : BilVariable) (v : Value) (s : Position) (f : Position → Ending) → stays k x ≡ false → IsMeant (then_do (assigned (assign x v s.env) s) f) →
      (t : Position) × (assigned (assign x v s.env) s ≡ Ends t) × (mix_at t ≡ mix_at s)
  dropped (Register b r) v s f is m = absurd (cc)
  dropped (Flag g) (Word n v) s f is m = dropped_if (n == 1) (record s.env { flags = state.put s.env.flags g v }) s f (dropped_flag g v s is) m
  dropped (Flag g) (Bytes d) s f is m = absurd m
  dropped (Flag g) Stuck s f is m = absurd m
  dropped Mem v s f is m = absurd (cc)
  dropped (Local x n) v s f is m = absurd (cc)

  jump_if : (b : Bool) (v : ℕ) (s : Position) →
      (if b then Ends (record (mix_at s) { jump = Some v }) else Wrong) ≡ mix_end (if b then Ends (record s { jump = Some v }) else Wrong)
  jump_if true v s = refl
  jump_if false v s = refl

  jumped_same : (v : Value) (s : Position) → jumped v (mix_at s) ≡ mix_end (jumped v s)
  jumped_same (Word n v) s = jump_if (n == 32) v s
  jumped_same (Bytes m) s = refl
  jumped_same Stuck s = refl

  jump_same : (w : Expression) (c : ℕ) (s : Position) → Agrees (reads w) s.env.flags →
      jumped (evaluate w c (mix s.env)) (mix_at s) ≡ mix_end (jumped (evaluate w c s.env) s)
  jump_same w c s g = ap (λ (z : Value). jumped z (mix_at s)) (value_same w c s.env g) ∙ jumped_same (evaluate w c s.env) s

  branch_same : (v : Value) (p q x y : Ending) → IsMeant (branch_on v p q) → (IsMeant p → x ≡ mix_end p) → (IsMeant q → y ≡ mix_end q) →
      branch_on v x y ≡ mix_end (branch_on v p q)
  branch_same (Word zero w) p q x y m f g = refl
  branch_same (Word (suc zero) zero) p q x y m f g = g m
  branch_same (Word (suc zero) (suc w)) p q x y m f g = f m
  branch_same (Word (suc (suc n)) w) p q x y m f g = refl
  branch_same (Bytes d) p q x y m f g = refl
  branch_same Stuck p q x y m f g = refl

  meant_first : (d : Ending) (f : Position → Ending) → IsMeant (then_do d f) → IsMeant d
  meant_first (Ends s) f m = tt
  meant_first (RaisesException n s) f m = tt
  meant_first (OutOfTurns s) f m = tt
  meant_first Wrong f m = m

  meant_next : (d : Ending) (f : Position → Ending) (t : Position) → d ≡ Ends t → IsMeant (then_do d f) → IsMeant (f t)
  meant_next d f t e m = subst (λ (z : Ending). IsMeant (then_do z f)) e m

  then_same : (d : Ending) (f g : Position → Ending) → IsMeant (then_do d f) → ((t : Position) → d ≡ Ends t → IsMeant (f t) → g (mix_at t) ≡ mix_end (f t)) →
      then_do (mix_end d) g ≡ mix_end (then_do d f)
  then_same (Ends s) f g m same = same s refl m
  then_same (RaisesException n s) f g m same = refl
  then_same (OutOfTurns s) f g m same = refl
  then_same Wrong f g m same = refl

  -- A flag that is not kept is read no more once it was assigned, and has its other value before.
  record IsFree (list : Statements) (a : ℕ → Bool) (s : Position) : Type 0 where
    pub reads : (f : ℕ) → k f ≡ false → reads_first f (a f) list ≡ true
    pub equal : (f : ℕ) → k f ≡ false → a f ≡ false → s.env.flags f ≡ h f

  agrees_at : (w : Expression) (a : ℕ → Bool) (s : Position) → ((f : ℕ) → k f ≡ false → not (a f && reads_flag f w) ≡ true) →
      ((f : ℕ) → k f ≡ false → a f ≡ false → s.env.flags f ≡ h f) → Agrees (reads w) s.env.flags
  agrees_at w a s free equal f n r = equal f n (unread (a f) (reads_flag f w) (free f n) r)

  assign_agrees : (x : BilVariable) (w : Expression) (rest : Statements) (a : ℕ → Bool) (s : Position) → IsFree (Assign x w rest) a s →
      Agrees (reads w) s.env.flags
  assign_agrees x w rest a s i =
      agrees_at w a s (λ f n. (both (not (a f && reads_flag f w)) (reads_first f (a f || is_flag f x) rest) (i.reads f n)).0) i.equal

  assign_free : (x : BilVariable) (w : Expression) (rest : Statements) (a : ℕ → Bool) (c : ℕ) (s t : Position) → IsFree (Assign x w rest) a s →
      assigned (assign x (evaluate w c s.env) s.env) s ≡ Ends t → IsFree rest (λ f. a f || is_flag f x) t
  assign_free x w rest a c s t i e = record {
    reads = λ f n. (both (not (a f && reads_flag f w)) (reads_first f (a f || is_flag f x) rest) (i.reads f n)).1;
    equal = λ f n z.
        let l = neither (a f) (is_flag f x) z in
        at_end f (h f) (assigned (assign x (evaluate w c s.env) s.env) s) t
        (with_assigned f (h f) x (evaluate w c s.env) s l.1 (i.equal f n l.0)) e;
  }

  jump_agrees : (w : Expression) (rest : Statements) (a : ℕ → Bool) (s : Position) → IsFree (JumpTo w rest) a s → Agrees (reads w) s.env.flags
  jump_agrees w rest a s i =
      agrees_at w a s (λ f n. (both (not (a f && reads_flag f w)) (reads_first f (a f) rest) (i.reads f n)).0) i.equal

  jump_free : (w : Expression) (rest : Statements) (a : ℕ → Bool) (c : ℕ) (s t : Position) → IsFree (JumpTo w rest) a s →
      jumped (evaluate w c s.env) s ≡ Ends t → IsFree rest a t
  jump_free w rest a c s t i e = record {
    reads = λ f n. (both (not (a f && reads_flag f w)) (reads_first f (a f) rest) (i.reads f n)).1;
    equal = λ f n z. at_end f (h f) (jumped (evaluate w c s.env) s) t (with_jumped f (h f) (evaluate w c s.env) s (i.equal f n z)) e;
  }

  special_free : (r : List ℕ) (rest : Statements) (a : ℕ → Bool) (s : Position) → IsFree (Special r rest) a s → IsFree rest a s
  special_free r rest a s i = record { reads = i.reads; equal = i.equal }

  -- the flags that an if may have assigned
  abbrev after_if : (ℕ → Bool) → Statements → Statements → ℕ → Bool
  after_if a x y f = a f || may_assign f x || may_assign f y

  if_reads : (w : Expression) (x y rest : Statements) (a : ℕ → Bool) (s : Position) (f : ℕ) → IsFree (If w x y rest) a s → k f ≡ false →
      (not (a f && reads_flag f w) ≡ true) × (reads_first f (a f) x ≡ true) × (reads_first f (a f) y ≡ true)
      × (reads_first f (after_if a x y f) rest ≡ true)
  if_reads w x y rest a s f i n =
      all_four (not (a f && reads_flag f w)) (reads_first f (a f) x) (reads_first f (a f) y) (reads_first f (after_if a x y f) rest) (i.reads f n)

  if_agrees : (w : Expression) (x y rest : Statements) (a : ℕ → Bool) (s : Position) → IsFree (If w x y rest) a s → Agrees (reads w) s.env.flags
  if_agrees w x y rest a s i = agrees_at w a s (λ f n. (if_reads w x y rest a s f i n).0) i.equal

  then_free : (w : Expression) (x y rest : Statements) (a : ℕ → Bool) (s : Position) → IsFree (If w x y rest) a s → IsFree x a s
  then_free w x y rest a s i = record { reads = λ f n. (if_reads w x y rest a s f i n).1; equal = i.equal }

  else_free : (w : Expression) (x y rest : Statements) (a : ℕ → Bool) (s : Position) → IsFree (If w x y rest) a s → IsFree y a s
  else_free w x y rest a s i = record { reads = λ f n. (if_reads w x y rest a s f i n).2; equal = i.equal }

  if_free : (w : Expression) (x y rest : Statements) (a : ℕ → Bool) (c : ℕ) (s t : Position) → IsFree (If w x y rest) a s → has_no_loop x ≡ true →
      has_no_loop y ≡ true → branch_on (evaluate w c s.env) (execute x c s) (execute y c s) ≡ Ends t → IsFree rest (after_if a x y) t
  if_free w x y rest a c s t i free_x free_y e = record {
    reads = λ f n. (if_reads w x y rest a s f i n).3;
    equal = λ f n z.
        let l = none_of_three (a f) (may_assign f x) (may_assign f y) z in
        let q = i.equal f n l.0 in
        at_end f (h f) (branch_on (evaluate w c s.env) (execute x c s) (execute y c s)) t
        (with_branch f (h f) (evaluate w c s.env) (execute x c s) (execute y c s) (leaves f (h f) x c s free_x l.1 q) (leaves f (h f) y c s free_y l.2 q)) e;
  }

  -- the side that is taken does the same if both sides do
  taken : (w : Expression) (x y rest : Statements) (c : ℕ) (s : Position) (a : ℕ → Bool) → IsFree (If w x y rest) a s →
      IsMeant (branch_on (evaluate w c s.env) (execute x c s) (execute y c s)) →
      (IsMeant (execute x c s) → execute (with_flags k x) c (mix_at s) ≡ mix_end (execute x c s)) →
      (IsMeant (execute y c s) → execute (with_flags k y) c (mix_at s) ≡ mix_end (execute y c s)) →
      branch_on (evaluate w c (mix s.env)) (execute (with_flags k x) c (mix_at s)) (execute (with_flags k y) c (mix_at s))
      ≡ mix_end (branch_on (evaluate w c s.env) (execute x c s) (execute y c s))
  taken w x y rest c s a i m f g =
      ap (λ (z : Value). branch_on z (execute (with_flags k x) c (mix_at s)) (execute (with_flags k y) c (mix_at s)))
      (value_same w c s.env (if_agrees w x y rest a s i))
      ∙ branch_same (evaluate w c s.env) (execute x c s) (execute y c s) (execute (with_flags k x) c (mix_at s)) (execute (with_flags k y) c (mix_at s)) m f g

  list_same : (list : Statements) (c : ℕ) (s : Position) (a : ℕ → Bool) → has_no_loop list ≡ true → IsFree list a s → IsMeant (execute list c s) →
      execute (with_flags k list) c (mix_at s) ≡ mix_end (execute list c s)
  list_same Empty c s a free i m = refl
  list_same (Assign x w rest) c s a free i m =
      of_if (λ z. execute z c (mix_at s) ≡ mix_end (execute (Assign x w rest) c s)) (stays k x) (Assign x w (with_flags k rest)) (with_flags k rest)
      (λ is.
      ap (λ (z : Ending). then_do z (execute (with_flags k rest) c)) (kept_same x w c s is (assign_agrees x w rest a s i))
      ∙ then_same (assigned (assign x (evaluate w c s.env) s.env) s) (execute rest c) (execute (with_flags k rest) c) m
      (λ t e n. list_same rest c t (λ f. a f || is_flag f x) free (assign_free x w rest a c s t i e) n))
      (λ is.
      let d = dropped x (evaluate w c s.env) s (execute rest c) is m in
      ap (execute (with_flags k rest) c) (sym d.2)
      ∙ list_same rest c d.0 (λ f. a f || is_flag f x) free (assign_free x w rest a c s d.0 i d.1) (meant_next _ (execute rest c) d.0 d.1 m)
      ∙ ap (λ (z : Ending). mix_end (then_do z (execute rest c))) (sym d.1))
  list_same (JumpTo w rest) c s a free i m =
      ap (λ (z : Ending). then_do z (execute (with_flags k rest) c)) (jump_same w c s (jump_agrees w rest a s i))
      ∙ then_same (jumped (evaluate w c s.env) s) (execute rest c) (execute (with_flags k rest) c) m
      (λ t e n. list_same rest c t a free (jump_free w rest a c s t i e) n)
  list_same (Raise n rest) c s a free i m = refl
  list_same (Special r rest) c s a free i m = list_same rest c s a free (special_free r rest a s i) m
  list_same (While w body rest) c s a free i m = absurd (cc)
  list_same (If w x y rest) c s a free i m =
      let o = all_three (has_no_loop x) (has_no_loop y) (has_no_loop rest) free in
      ap (λ (z : Ending). then_do z (execute (with_flags k rest) c))
      (taken w x y rest c s a i (meant_first _ (execute rest c) m) (λ n. list_same x c s a o.0 (then_free w x y rest a s i) n)
      (λ n. list_same y c s a o.1 (else_free w x y rest a s i) n))
      ∙ then_same (branch_on (evaluate w c s.env) (execute x c s) (execute y c s)) (execute rest c) (execute (with_flags k rest) c) m
      (λ t e n. list_same rest c t (after_if a x y) o.2 (if_free w x y rest a c s t i o.0 o.1 e) n)

  -- what an expression stores
  stored_if : (b : Bool) (e : Env) (f : Env → List ℕ) → f (mix e) ≡ f e →
      stored_in (if b then Some (mix e) else None) f ≡ stored_in (if b then Some e else None) f
  stored_if true e f same = same
  stored_if false e f same = refl

  let_stores : (x n : ℕ) (v : Value) (e : Env) (f : Env → List ℕ) →
      ((l : ℕ → ℕ → Value) → f (mix (record e { locals = l })) ≡ f (record e { locals = l })) →
      stored_in (assign (Local x n) v (mix e)) f ≡ stored_in (assign (Local x n) v e) f
  let_stores x n (Word m w) e f same = stored_if (m == n) (record e { locals = put_local x n w e.locals }) f (same (put_local x n w e.locals))
  let_stores x n (Bytes m) e f same = refl
  let_stores x n Stuck e f same = refl

  stores_same : (x : Expression) (c : ℕ) (e : Env) → Agrees (reads x) e.flags → stored_by x c (mix e) ≡ stored_by x c e
  stores_same (Var x) c e g = refl
  stores_same (Constant w v) c e g = refl
  stores_same (Load m a o w) c e g =
      let l = agree_two m a e.flags g in append_both _ _ _ _ (stores_same m c e l.0) (stores_same a c e l.1)
  stores_same (Store m a o w v) c e g =
      let l = agree_three m a v e.flags g in
      append_both _ _ _ _ (append_both _ _ _ _ (append_both _ _ _ _ (stores_same m c e l.0) (stores_same a c e l.1)) (stores_same v c e l.2))
      (ap (λ (z : Value). bytes_at (w / 8) z) (value_same a c e l.1))
  stores_same (Binary o a b) c e g =
      let l = agree_two a b e.flags g in append_both _ _ _ _ (stores_same a c e l.0) (stores_same b c e l.1)
  stores_same (Unary o a) c e g = stores_same a c e g
  stores_same (Cast o w a) c e g = stores_same a c e g
  stores_same (Let x w a b) c e g =
      let l = agree_two a b e.flags g in
      append_both _ _ _ _ (stores_same a c e l.0)
      (ap (λ (z : Value). stored_in (assign (Local x w) z (mix e)) (stored_by b c)) (value_same a c e l.0)
      ∙ let_stores x w (evaluate a c e) e (stored_by b c) (λ t. stores_same b c (record e { locals = t }) l.1))
  stores_same (Unknown t) c e g = refl
  stores_same (Choose t a b) c e g =
      let l = agree_three t a b e.flags g in
      append_both _ _ _ _ (stores_same t c e l.0)
      (ap (λ (z : Value). chosen z (stored_by a c (mix e)) (stored_by b c (mix e))) (value_same t c e l.0)
      ∙ ap (λ (z : List ℕ). chosen (evaluate t c e) z (stored_by b c (mix e))) (stores_same a c e l.1)
      ∙ ap (λ (z : List ℕ). chosen (evaluate t c e) (stored_by a c e) z) (stores_same b c e l.2))
  stores_same (Extract hi lo a) c e g = stores_same a c e g
  stores_same (Concat a b) c e g =
      let l = agree_two a b e.flags g in append_both _ _ _ _ (stores_same a c e l.0) (stores_same b c e l.1)

  chosen_less : (v : Value) (p q : Ending) (xs ys us vs : List ℕ) (b : ℕ) → IsMeant (branch_on v p q) → (IsMeant p → Contains xs b → Contains us b) →
      (IsMeant q → Contains ys b → Contains vs b) → Contains (chosen v xs ys) b → Contains (chosen v us vs) b
  chosen_less (Word zero w) p q xs ys us vs b m f g = absurd m
  chosen_less (Word (suc zero) zero) p q xs ys us vs b m f g = g m
  chosen_less (Word (suc zero) (suc w)) p q xs ys us vs b m f g = f m
  chosen_less (Word (suc (suc n)) w) p q xs ys us vs b m f g = absurd m
  chosen_less (Bytes d) p q xs ys us vs b m f g = absurd m
  chosen_less Stuck p q xs ys us vs b m f g = absurd m

  then_less : (d : Ending) (run : Position → Ending) (f g : Position → List ℕ) (b : ℕ) → IsMeant (then_do d run) →
      ((t : Position) → d ≡ Ends t → IsMeant (run t) → Contains (g (mix_at t)) b → Contains (f t) b) →
      Contains (then_stored (mix_end d) g) b → Contains (then_stored d f) b
  then_less (Ends s) run f g b m less = less s refl m
  then_less (RaisesException n s) run f g b m less = λ q. q
  then_less (OutOfTurns s) run f g b m less = λ q. q
  then_less Wrong run f g b m less = λ q. q

  stores_less : (list : Statements) (c : ℕ) (s : Position) (a : ℕ → Bool) (b : ℕ) → has_no_loop list ≡ true → IsFree list a s → IsMeant (execute list c s) →
      Contains (list_stored (with_flags k list) c (mix_at s)) b → Contains (list_stored list c s) b
  stores_less Empty c s a b free i m = λ q. q
  stores_less (Assign x w rest) c s a b free i m =
      of_if (λ z. Contains (list_stored z c (mix_at s)) b → Contains (list_stored (Assign x w rest) c s) b) (stays k x) (Assign x w (with_flags k rest))
      (with_flags k rest)
      (λ is.
      let g = assign_agrees x w rest a s i in
      append_less _ _ _ _ b (stores_same w c s.env g) (λ q.
      then_less (assigned (assign x (evaluate w c s.env) s.env) s) (execute rest c) (list_stored rest c) (list_stored (with_flags k rest) c) b m
      (λ t e n. stores_less rest c t (λ f. a f || is_flag f x) b free (assign_free x w rest a c s t i e) n)
      (subst (λ (z : Ending). Contains (then_stored z (list_stored (with_flags k rest) c)) b) (kept_same x w c s is g) q)))
      (λ is q.
      let d = dropped x (evaluate w c s.env) s (execute rest c) is m in
      Contains-append_right (stored_by w c s.env) _ b
      (subst (λ (z : Ending). Contains (then_stored z (list_stored rest c)) b) (sym d.1)
      (stores_less rest c d.0 (λ f. a f || is_flag f x) b free (assign_free x w rest a c s d.0 i d.1) (meant_next _ (execute rest c) d.0 d.1 m)
      (subst (λ (z : Position). Contains (list_stored (with_flags k rest) c z) b) (sym d.2) q))))
  stores_less (JumpTo w rest) c s a b free i m =
      let g = jump_agrees w rest a s i in
      append_less _ _ _ _ b (stores_same w c s.env g) (λ q.
      then_less (jumped (evaluate w c s.env) s) (execute rest c) (list_stored rest c) (list_stored (with_flags k rest) c) b m
      (λ t e n. stores_less rest c t a b free (jump_free w rest a c s t i e) n)
      (subst (λ (z : Ending). Contains (then_stored z (list_stored (with_flags k rest) c)) b) (jump_same w c s g) q))
  stores_less (Raise n rest) c s a b free i m = λ q. q
  stores_less (Special r rest) c s a b free i m = stores_less rest c s a b free (special_free r rest a s i) m
  stores_less (While w body rest) c s a b free i m = absurd (cc)
  stores_less (If w x y rest) c s a b free i m =
      let o = all_three (has_no_loop x) (has_no_loop y) (has_no_loop rest) free in
      let g = if_agrees w x y rest a s i in
      let first = meant_first (branch_on (evaluate w c s.env) (execute x c s) (execute y c s)) (execute rest c) m in
      let side = taken w x y rest c s a i first (λ n. list_same x c s a o.0 (then_free w x y rest a s i) n)
      (λ n. list_same y c s a o.1 (else_free w x y rest a s i) n) in
      append_two _ _ _ _ b
      (append_less _ _ _ _ b (stores_same w c s.env g) (λ q.
      chosen_less (evaluate w c s.env) (execute x c s) (execute y c s) _ _ (list_stored x c s) (list_stored y c s) b first
      (λ n. stores_less x c s a b o.0 (then_free w x y rest a s i) n) (λ n. stores_less y c s a b o.1 (else_free w x y rest a s i) n)
      (subst (λ (z : Value). Contains (chosen z (list_stored (with_flags k x) c (mix_at s)) (list_stored (with_flags k y) c (mix_at s))) b)
      (value_same w c s.env g) q)))
      (λ q.
      then_less (branch_on (evaluate w c s.env) (execute x c s) (execute y c s)) (execute rest c) (list_stored rest c) (list_stored (with_flags k rest) c) b m
      (λ t e n. stores_less rest c t (after_if a x y) b o.2 (if_free w x y rest a c s t i o.0 o.1 e) n)
      (subst (λ (z : Ending). Contains (then_stored z (list_stored (with_flags k rest) c)) b) side q))

keep_same : (b : Bool) (x : ℕ) → (if b then x else x) ≡ x
keep_same true x = refl
keep_same false x = refl

mixed_itself : (k : ℕ → Bool) (s : Position) → position_with k s.env.flags s ≡ s
mixed_itself k s =
    ap
    (λ (z : ℕ → ℕ).
    let r : Position = record {
      env = record { regs = s.env.regs; flags = z; mem = s.env.mem; locals = s.env.locals };
      jump = s.jump;
      turns = s.turns;
    } in r)
    (fun_ext (λ f. keep_same (k f) (s.env.flags f)))

pub flags_keep_meaning : FlagsKeepMeaning
flags_keep_meaning k list c s free late m =
    ap (execute (with_flags k list) c) (sym (mixed_itself k s))
    ∙ list_same k s.env.flags list c s (λ f. false) free (record { reads = late; equal = λ f n z. refl }) m

pub flags_store_no_more : FlagsStoreNoMore
flags_store_no_more k list c s free late m a q =
    stores_less k s.env.flags list c s (λ f. false) a free (record { reads = late; equal = λ f n z. refl }) m
    (subst (λ (z : Position). Contains (list_stored (with_flags k list) c z) a) (sym (mixed_itself k s)) q)
