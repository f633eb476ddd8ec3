-- The words of locals, of which the last counts.
use Rattle.std.proofs.Common.{◌≡◌, ℕ, zero, suc, ◌^◌, ◌<◌, Bool, true, false, List, [], ◌∷◌, ◌++◌, length, get_or, take, drop, set, add-one, Some, None, Result, Ok, Err, IfOk, refl, sym, ap, ◌∙◌, subst, arith}
use Rattle.std.specs.Prelude.{◌==◌, ◌&&◌, ◌||◌, if◌then◌else◌}
use mathlib.Core.Path.{fun_ext}
use Rattle.std.proofs.Math.Seq.{take-suc, drop-cons, drop-length}
use Rattle.std.proofs.lemmas.List.{drop-set, take-append-drop, take-set, get_or-set_same, get_or-set_other}
use borrow.Author.Tests.{ltb-true}
use Rattle.std.proofs.lemmas.Bool.{eq-eqb, eqb-true, eqb-false, false≢true}
use Rattle.machine_spec.proofs.BilSound.{both}
use Rattle.machine_spec.specs.Bil.{Bits, Bank, BilVariable, Register, Flag, Local, Let}
use Rattle.machine_spec.specs.BilCounts.{is_local}
use Rattle.word_spec.specs.State.{put}
use Rattle.word_spec.specs.Words.{bit}
use Rattle.machine_spec.specs.BilMeaning.{Value, Word, Stuck, put_local, evaluate, assign, in_env}
use Rattle.bil_ast.specs.declared.expressions.Exp.{Exp}
use Rattle.bil_ast.specs.Views.{expression}
use Rattle.bil_eval.specs.declared.env.Machine.{Machine}
use Rattle.bil_eval.specs.declared.env.LocalWord.{LocalWord}
use Rattle.bil_eval.specs.Views.{values, values_after, held, held_after, is_machine, env_of}

-- the values with one word more
values_more : (f : ℕ → ℕ → Value) (ls : List LocalWord) (l : LocalWord) →
    values_after f (ls ++ l ∷ []) ≡ put_local l.number l.value.width l.value.bits (values_after f ls)
values_more f [] l = refl
values_more f (x ∷ ls) l = values_more (put_local x.number x.value.width x.value.bits f) ls l

pub values_push : (ls : List LocalWord) (l : LocalWord) → values (ls ++ l ∷ []) ≡ put_local l.number l.value.width l.value.bits (values ls)
values_push ls l = values_more (λ x n. Stuck) ls l

-- the held variables with one word more
held_more : (k : BilVariable → Bool) (ls : List LocalWord) (l : LocalWord) →
    held_after k (ls ++ l ∷ []) ≡ (λ y. is_local l.number l.value.width y || held_after k ls y)
held_more k [] l = refl
held_more k (x ∷ ls) l = held_more (λ y. is_local x.number x.value.width y || k y) ls l

pub held_push : (ls : List LocalWord) (l : LocalWord) → held (ls ++ l ∷ []) ≡ (λ y. is_local l.number l.value.width y || held ls y)
held_push ls l = held_more is_machine ls l

-- the last word of those up to a place
last_word : (ls : List LocalWord) (i : ℕ) (l : LocalWord) (x n : ℕ) → i < length ls → l ≡ get_or ls i l →
    values (take (suc i) ls) x n ≡ (if (x == l.number) && (n == l.value.width) then Word l.value.width l.value.bits else values (take i ls) x n)
last_word ls i l x n h e =
    ap (λ z. values z x n) (take-suc ls i l h ∙ ap (λ z. take i ls ++ z ∷ []) (sym e))
    ∙ ap (λ (f : ℕ → ℕ → Value). f x n) (values_push (take i ls) l)

pub read_hit : (ls : List LocalWord) (i j : ℕ) (l : LocalWord) (x n : ℕ) (v : Value) → j < length ls → i ≡ suc j → l ≡ get_or ls j l →
    ((x == l.number) && (n == l.value.width)) ≡ true → values (take i ls) x n ≡ v → v ≡ Word l.value.width l.value.bits
read_hit ls i j l x n v h k e t is = sym is ∙ ap (λ z. values (take z ls) x n) k ∙ last_word ls j l x n h e ∙ rw t refl

pub read_miss : (ls : List LocalWord) (i j : ℕ) (l : LocalWord) (x n : ℕ) (v : Value) → j < length ls → i ≡ suc j → l ≡ get_or ls j l →
    ((x == l.number) && (n == l.value.width)) ≡ false → values (take i ls) x n ≡ v → values (take j ls) x n ≡ v
read_miss ls i j l x n v h k e t is = sym (ap (λ z. values (take z ls) x n) k ∙ last_word ls j l x n h e ∙ rw t refl) ∙ is

has_word : (b k : Bool) (n a : ℕ) (v : Value) → (b || k) ≡ true → (k ≡ true → v ≡ Stuck → ⊥) → (if b then Word n a else v) ≡ Stuck → ⊥
has_word true k n a v h f e = cc
has_word false k n a v h f e = f h e

some_value : (f : ℕ → ℕ → Value) (k : BilVariable → Bool) (ls : List LocalWord) (x n : ℕ) → (k (Local x n) ≡ true → f x n ≡ Stuck → ⊥) →
    held_after k ls (Local x n) ≡ true → values_after f ls x n ≡ Stuck → ⊥
some_value f k [] x n h t e = h t e
some_value f k (l ∷ ls) x n h t e =
    some_value (put_local l.number l.value.width l.value.bits f) (λ y. is_local l.number l.value.width y || k y) ls x n
    (λ g i. has_word ((x == l.number) && (n == l.value.width)) (k (Local x n)) l.value.width l.value.bits (f x n) g h i) t e

-- a held local has a word
pub held_word : (ls : List LocalWord) (x n : ℕ) → held ls (Local x n) ≡ true → Stuck ≡ values ls x n → ⊥
held_word ls x n h e = some_value (λ x n. Stuck) is_machine ls x n (λ g i. cc) h (sym e)

held_register : (k : BilVariable → Bool) (ls : List LocalWord) (b : Bank) (r : ℕ) → held_after k ls (Register b r) ≡ k (Register b r)
held_register k [] b r = refl
held_register k (l ∷ ls) b r = held_register (λ y. is_local l.number l.value.width y || k y) ls b r

-- a held register is one of 32
pub register_below : (ls : List LocalWord) (b : Bank) (r : ℕ) → held ls (Register b r) ≡ true → r < 32
register_below ls b r h = ltb-true r 32 (sym (held_register is_machine ls b r) ∙ h)

held_flag : (k : BilVariable → Bool) (ls : List LocalWord) (f : ℕ) → held_after k ls (Flag f) ≡ k (Flag f)
held_flag k [] f = refl
held_flag k (l ∷ ls) f = held_flag (λ y. is_local l.number l.value.width y || k y) ls f

-- a held flag is one of 4
pub flag_below : (ls : List LocalWord) (f : ℕ) → held ls (Flag f) ≡ true → f < 4
flag_below ls f h = ltb-true f 4 (sym (held_flag is_machine ls f) ∙ h)

-- the variables that are known under a let are held with its word
pub held_scope : (ls ms news : List LocalWord) (l : LocalWord) (x n : ℕ) → ms ≡ ls → news ≡ ms ++ l ∷ [] → l.number ≡ x → l.value.width ≡ n →
    (λ y. is_local x n y || held ls y) ≡ held news
held_scope ls ms news l x n e f g w =
    let by_number : ℕ → BilVariable → Bool = λ z y. is_local z l.value.width y || held ms y in
    let by_width : ℕ → BilVariable → Bool = λ z y. is_local x z y || held ms y in
    let by_words : List LocalWord → BilVariable → Bool = λ z y. is_local x n y || held z y in
    sym (ap held f ∙ held_push ms l ∙ ap by_number g ∙ ap by_width w ∙ ap by_words e)

-- the value of a let, by the value of its second expression with the word held
pub let_value : (m : Machine) (c : ℕ) (a b p q : Exp) (ls ms news : List LocalWord) (l : LocalWord) (x n : ℕ) (v : Value) →
    ms ≡ ls → news ≡ ms ++ l ∷ [] → l.number ≡ x → l.value.width ≡ n → p ≡ a → q ≡ b →
    evaluate (expression p) c (env_of m ls) ≡ Word l.value.width l.value.bits → evaluate (expression q) c (env_of m news) ≡ v →
    evaluate (Let x n (expression a) (expression b)) c (env_of m ls) ≡ v
let_value m c a b p q ls ms news l x n v e f g w pa qb first second =
    let t : (l.value.width == n) ≡ true = eq-eqb l.value.width n w in
    let k : values news ≡ put_local x n l.value.bits (values ls) =
    ap values f ∙ values_push ms l ∙ ap (λ (z : ℕ). put_local z l.value.width l.value.bits (values ms)) g
    ∙ ap (λ (z : ℕ). put_local x z l.value.bits (values ms)) w ∙ ap (λ (z : List LocalWord). put_local x n l.value.bits (values z)) e in
    ap (λ (z : Exp). evaluate (Let x n (expression z) (expression b)) c (env_of m ls)) (sym pa)
    ∙ ap (λ (z : Exp). evaluate (Let x n (expression p) (expression z)) c (env_of m ls)) (sym qb)
    ∙ ap (λ (z : Value). in_env (assign (Local x n) z (env_of m ls)) (evaluate (expression q) c)) first
    ∙ ap (λ (z : Bool). in_env (if z then Some (record (env_of m ls) { locals = put_local x n l.value.bits (values ls) })
    else None) (evaluate (expression q) c)) t
    ∙ ap (λ (z : ℕ → ℕ → Value). evaluate (expression q) c (record (env_of m ls) { locals = z })) (sym k)
    ∙ second

-- what follows from the fact of an Ok
pub if_ok : {A E : Type 0} (r : Result A E) (P Q : A → Type 0) → ((a : A) → P a → Q a) → IfOk r P → IfOk r Q
if_ok (Ok a) P Q f h = f a h
if_ok (Err e) P Q f h = h

values_append : (f : ℕ → ℕ → Value) (xs ys : List LocalWord) → values_after f (xs ++ ys) ≡ values_after (values_after f xs) ys
values_append f [] ys = refl
values_append f (x ∷ xs) ys = values_append (put_local x.number x.value.width x.value.bits f) xs ys

held_append : (k : BilVariable → Bool) (xs ys : List LocalWord) → held_after k (xs ++ ys) ≡ held_after (held_after k xs) ys
held_append k [] ys = refl
held_append k (x ∷ xs) ys = held_append (λ y. is_local x.number x.value.width y || k y) xs ys

exchanged : (p q : Bool) (u v w : Value) → (p ≡ true → q ≡ true → ⊥) → (if p then u else (if q then v else w)) ≡ (if q then v else (if p then u else w))
exchanged true true u v w h = absurd (h refl refl)
exchanged true false u v w h = refl
exchanged false true u v w h = refl
exchanged false false u v w h = refl

twice : (p : Bool) (u v w : Value) → (if p then u else (if p then v else w)) ≡ (if p then u else w)
twice true u v w = refl
twice false u v w = refl

other_local : (x n z k y m : ℕ) → ((x == z) && (n == k)) ≡ false → ((y == z) && (m == k)) ≡ true → ((y == x) && (m == n)) ≡ true → ⊥
other_local x n z k y m t p q =
    let a = both (y == z) (m == k) p in let b = both (y == x) (m == n) q in
    let e : x ≡ z = sym (eqb-true y x b.0) ∙ eqb-true y z a.0 in let f : n ≡ k = sym (eqb-true m n b.1) ∙ eqb-true m k a.1 in
    let g : (x == z) ≡ true = eq-eqb x z e in let h : (n == k) ≡ true = eq-eqb n k f in
    let s : ((x == z) && (n == k)) ≡ true = rw (g, h) refl in
    false≢true (sym t ∙ s)

-- two locals of different names are given words in either order
put_exchanged : (x n v z k w : ℕ) (f : ℕ → ℕ → Value) → ((x == z) && (n == k)) ≡ false →
    put_local z k w (put_local x n v f) ≡ put_local x n v (put_local z k w f)
put_exchanged x n v z k w f t =
    fun_ext (λ y. fun_ext (λ m. exchanged ((y == z) && (m == k)) ((y == x) && (m == n)) (Word k w) (Word n v) (f y m) (other_local x n z k y m t)))

put_twice : (x n v w : ℕ) (f : ℕ → ℕ → Value) → put_local x n v (put_local x n w f) ≡ put_local x n v f
put_twice x n v w f = fun_ext (λ y. fun_ext (λ m. twice ((y == x) && (m == n)) (Word n v) (Word n w) (f y m)))

-- words that are not the local's
abbrev pub IsApart : (x n : ℕ) → List LocalWord → Type 0
IsApart x n ls = (v : ℕ) (f : ℕ → ℕ → Value) → values_after (put_local x n v f) ls ≡ put_local x n v (values_after f ls)

pub none_apart : (x n : ℕ) (ls : List LocalWord) → IsApart x n (drop (length ls) ls)
none_apart x n ls = subst (λ (z : List LocalWord). IsApart x n z) (sym (drop-length ls)) (λ v f. refl)

pub apart_more : (x n i j : ℕ) (ls : List LocalWord) (l : LocalWord) → j < length ls → i ≡ suc j → l ≡ get_or ls j l →
    ((x == l.number) && (n == l.value.width)) ≡ false → IsApart x n (drop i ls) → IsApart x n (drop j ls)
apart_more x n i j ls l h k e t a =
    let d : drop j ls ≡ l ∷ drop (suc j) ls = drop-cons ls j l h ∙ ap (λ z. z ∷ drop (suc j) ls) (sym e) in
    subst (λ (z : List LocalWord). IsApart x n z) (sym d) (λ v f.
    ap (λ (g : ℕ → ℕ → Value). values_after g (drop (suc j) ls)) (put_exchanged x n v l.number l.value.width l.value.bits f t)
    ∙ subst (λ (z : ℕ). IsApart x n (drop z ls)) k a v (put_local l.number l.value.width l.value.bits f))

-- a word in the middle of a list changed
split : (ls : List LocalWord) (j : ℕ) (l : LocalWord) → j < length ls → set ls j l ≡ take j ls ++ l ∷ drop (suc j) ls
split ls j l h =
    sym (take-append-drop j (set ls j l)) ∙ ap (λ z. z ++ drop j (set ls j l)) (take-set ls j l)
    ∙ ap (λ z. take j ls ++ z) (drop-set ls j l h ∙ ap (λ z. l ∷ drop z ls) (add-one j))

whole : (ls : List LocalWord) (j : ℕ) (l : LocalWord) → j < length ls → l ≡ get_or ls j l → ls ≡ take j ls ++ l ∷ drop (suc j) ls
whole ls j l h e = sym (take-append-drop j ls) ∙ ap (λ z. take j ls ++ z) (drop-cons ls j l h ∙ ap (λ z. z ∷ drop (suc j) ls) (sym e))

-- the values with another word at the local's last place
pub values_set : (ls : List LocalWord) (i j : ℕ) (l new : LocalWord) (x n : ℕ) → j < length ls → i ≡ suc j → l ≡ get_or ls j l →
    l.number ≡ x → l.value.width ≡ n → new.number ≡ x → new.value.width ≡ n → IsApart x n (drop i ls) →
    values (set ls j new) ≡ put_local x n new.value.bits (values ls)
values_set ls i j l new x n h k e nx nw mx mw a =
    let before = values (take j ls) in
    let behind = drop (suc j) ls in
    let apart : IsApart x n behind = subst (λ (z : ℕ). IsApart x n (drop z ls)) k a in
    let named : (w : LocalWord) → w.number ≡ x → w.value.width ≡ n → put_local w.number w.value.width w.value.bits before ≡ put_local x n w.value.bits before =
    λ w p q. ap (λ (z : ℕ). put_local z w.value.width w.value.bits before) p ∙ ap (λ (z : ℕ). put_local x z w.value.bits before) q in
    let left : values (set ls j new) ≡ values_after (put_local x n new.value.bits before) behind =
    ap values (split ls j new h) ∙ values_append (λ x n. Stuck) (take j ls) (new ∷ behind)
    ∙ ap (λ (f : ℕ → ℕ → Value). values_after f behind) (named new mx mw) in
    let right : values ls ≡ values_after (put_local x n l.value.bits before) behind =
    ap values (whole ls j l h e) ∙ values_append (λ x n. Stuck) (take j ls) (l ∷ behind)
    ∙ ap (λ (f : ℕ → ℕ → Value). values_after f behind) (named l nx nw) in
    left ∙ ap (λ (f : ℕ → ℕ → Value). values_after f behind) (sym (put_twice x n new.value.bits l.value.bits before))
    ∙ apart new.value.bits (put_local x n l.value.bits before) ∙ ap (put_local x n new.value.bits) (sym right)

-- the held variables with another word of the same local at a place
pub held_set : (ls : List LocalWord) (j : ℕ) (l new : LocalWord) → j < length ls → l ≡ get_or ls j l → new.number ≡ l.number → new.value.width ≡ l.value.width →
    held (set ls j new) ≡ held ls
held_set ls j l new h e p q =
    let known = held_after is_machine (take j ls) in
    let by_number : ℕ → BilVariable → Bool = λ z y. is_local z new.value.width y || known y in
    let by_width : ℕ → BilVariable → Bool = λ z y. is_local l.number z y || known y in
    ap held (split ls j new h) ∙ held_append is_machine (take j ls) (new ∷ drop (suc j) ls)
    ∙ ap (λ (k : BilVariable → Bool). held_after k (drop (suc j) ls)) (ap by_number p ∙ ap by_width q)
    ∙ sym (ap held (whole ls j l h e) ∙ held_append is_machine (take j ls) (l ∷ drop (suc j) ls))

picked : {X : Type 0} (f : X → ℕ) (xs : List X) (r x : ℕ) (v d : X) (b : Bool) → (x == r) ≡ b → r < length xs →
    f (get_or (set xs r v) x d) ≡ (if b then f v else f (get_or xs x d))
picked f xs r x v d true t h = ap f (ap (λ z. get_or (set xs r v) z d) (eqb-true x r t) ∙ get_or-set_same xs r v d h)
picked f xs r x v d false t h = ap f (get_or-set_other xs r x v d (eqb-false x r t))

put_index : {X : Type 0} (f : X → ℕ) (xs : List X) (r : ℕ) (v d : X) → r < length xs → put (λ x. f (get_or xs x d)) r (f v) ≡ (λ x. f (get_or (set xs r v) x d))
put_index f xs r v d h = fun_ext (λ x. sym (picked f xs r x v d (x == r) refl h))

bit_of : (n : ℕ) → n < 2 → bit (n == 1) ≡ n
bit_of zero h = refl
bit_of (suc zero) h = refl
bit_of (suc (suc n)) h = absurd (omega arith)

-- a register takes a word
pub assign_register : (m : Machine) (ls : List LocalWord) (b : Bank) (r v w : ℕ) → 32 ≡ w → r < length m.registers →
    assign (Register b r) (Word w v) (env_of m ls) ≡ Some (env_of (record m { registers = set m.registers r v }) ls)
assign_register m ls b r v w e h =
    ap (λ (z : Bool). if z then Some (record (env_of m ls) { regs = put (env_of m ls).regs r v }) else None) (eq-eqb w 32 (sym e))
    ∙ ap (λ (f : ℕ → ℕ). Some (record (env_of m ls) { regs = f })) (put_index (λ x. x) m.registers r v 0 h)

-- a flag takes a word
pub assign_flag : (m : Machine) (ls : List LocalWord) (r v w : ℕ) → 1 ≡ w → v < 2 ^ w → r < length m.flags →
    assign (Flag r) (Word w v) (env_of m ls) ≡ Some (env_of (record m { flags = set m.flags r (v == 1) }) ls)
assign_flag m ls r v w e l h =
    let one : v < 2 = rw (← e) at l in
    ap (λ (z : Bool). if z then Some (record (env_of m ls) { flags = put (env_of m ls).flags r v }) else None) (eq-eqb w 1 (sym e))
    ∙ ap (λ (z : ℕ). Some (record (env_of m ls) { flags = put (env_of m ls).flags r z })) (sym (bit_of v one))
    ∙ ap (λ (f : ℕ → ℕ). Some (record (env_of m ls) { flags = f })) (put_index bit m.flags r (v == 1) false h)

pub same_bits : (a b : ℕ) → Bits a ≡ Bits b → a ≡ b
same_bits a b h = cc
