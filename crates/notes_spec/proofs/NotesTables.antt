-- The tables of operators and of load_words, by token.
use Rattle.std.proofs.Common.{◌≡◌, ℕ, zero, suc, ◌<◌, refl, ap, sym, subst, ◌∙◌, arith, List, [], ◌∷◌, Option, Some, None, Bool, true, false, ◌||◌, ◌&&◌, ◌==◌, nat_le, nat_lt, if◌then◌else◌, codes, bytes_eq, Contains, rules}
use Rattle.std.proofs.lemmas.Slice.Eq.{bytes_eq-Decides}
use Rattle.bilv_spec.specs.Notes.{Op, Expr}
use Rattle.word_spec.specs.Tokens.{Token, NameToken, SignToken}
use Rattle.notes_spec.specs.NotesGrammar.{load_words, left_of, operators}
use Rattle.std.specs.Prelude.{◌++◌}
use Rattle.std.specs.List.{list_any}
use Rattle.notes_spec.specs.Scopes.{Scope, reserved_first, is_reserved, reserved, named, name_by}

-- a fact of each element
abbrev pub Each : {X : Type 0} → (X → Type 0) → List X → Type 0
Each P [] = Unit {0}
Each P (x ∷ xs) = P x × Each P xs

-- a fact of each element is one of an element
pub of_each : {X : Type 0} (P : X → Type 0) (xs : List X) (x : X) → Each P xs → Contains xs x → P x
of_each P [] x all c = absurd (omega (arith, c.1))
of_each P (y ∷ xs) x all (zero, below, is) = subst P is all.0
of_each P (y ∷ xs) x all (suc k, below, is) = of_each P xs x all.1 (k, omega (arith, below), is)

-- what is not true is false
pub is_false : (b : Bool) → (b ≡ true → ⊥) → b ≡ false
is_false false f = refl
is_false true f = absurd (f refl)

-- the reserved words, and `all` in version 2
listed_any : (xs : List (List ℕ)) (x : List ℕ) → Contains xs x → list_any (bytes_eq x) xs ≡ true
listed_any [] x c = absurd (omega (arith, c.1))
listed_any (y ∷ ys) x (zero, below, is) = ap (λ z. z || list_any (bytes_eq x) ys) ((bytes_eq-Decides x y).1 (sym is))
listed_any (y ∷ ys) x (suc k, below, is) = or_true (bytes_eq x y) (list_any (bytes_eq x) ys) (listed_any ys x (k, omega (arith, below), is)) where
  or_true : (a b : Bool) → b ≡ true → (a || b) ≡ true
  or_true true b h = refl
  or_true false b h = h

more_any : (xs ys : List (List ℕ)) (x : List ℕ) → list_any (bytes_eq x) xs ≡ true → list_any (bytes_eq x) (xs ++ ys) ≡ true
more_any [] ys x h = absurd (let b : ⊥ = cc in b)
more_any (z ∷ xs) ys x h = by (bytes_eq x z) h (more_any xs ys x) where
  by : (b : Bool) → (b || list_any (bytes_eq x) xs) ≡ true → (list_any (bytes_eq x) xs ≡ true → list_any (bytes_eq x) (xs ++ ys) ≡ true) →
      (b || list_any (bytes_eq x) (xs ++ ys)) ≡ true
  by true h f = refl
  by false h f = f h

reserved_by : (b : Bool) (x : List ℕ) → Contains reserved_first x → list_any (bytes_eq x) (reserved b) ≡ true
reserved_by false x c = listed_any reserved_first x c
reserved_by true x c = more_any reserved_first (codes "all" ∷ []) x (listed_any reserved_first x c)

all_reserved : (b : Bool) → b ≡ true → list_any (bytes_eq (codes "all")) (reserved b) ≡ true
all_reserved b e = ap (λ z. list_any (bytes_eq (codes "all")) (reserved z)) e

nameless : (s : Scope) (w : List ℕ) → is_reserved s w ≡ true → named s w ≡ None
nameless s w h = ap (λ b. if b then None else name_by s.mode s w) h

differs : (s : Scope) (w v : List ℕ) (e : Expr) → named s w ≡ Some e → named s v ≡ None → bytes_eq w v ≡ false
differs s w v e is none =
    is_false (bytes_eq w v) (λ h. let x : named s v ≡ Some e = subst (λ x. named s x ≡ Some e) ((bytes_eq-Decides w v).0 h) is in
    let b : None ≡ Some e = sym none ∙ x in cc)

-- a word with a meaning is no reserved word
pub not_word : (s : Scope) → (w v : List ℕ) (e : Expr) → named s w ≡ Some e → Contains reserved_first v → bytes_eq w v ≡ false
not_word s w v e is c = differs s w v e is (nameless s v (reserved_by s.is_second v c))

-- nor `all`
and_false : (a b : Bool) → (a ≡ true → b ≡ false) → (a && b) ≡ false
and_false true b f = f refl
and_false false b f = refl

pub not_all : (s : Scope) → (w : List ℕ) (e : Expr) → named s w ≡ Some e → (s.is_second && bytes_eq w (codes "all")) ≡ false
not_all s w e is = and_false s.is_second (bytes_eq w (codes "all")) (λ b. differs s w (codes "all") e is (nameless s (codes "all") (all_reserved s.is_second b)))

-- the same token
abbrev pub same_token : Token → Token → Bool
same_token (NameToken v) (NameToken w) = bytes_eq v w
same_token (SignToken v) (SignToken w) = bytes_eq v w
same_token _ _ = false

-- a test of tokens is right
pub same_token_is : (t u : Token) → same_token t u ≡ true → t ≡ u
same_token_is (NameToken v) (NameToken w) e = ap (λ w. NameToken w) ((bytes_eq-Decides v w).0 e)
same_token_is (SignToken v) (SignToken w) e = ap (λ w. SignToken w) ((bytes_eq-Decides v w).0 e)
same_token_is t u e = absurd (let b : ⊥ = cc in b)

-- the line of the table with a token
abbrev pub line_of : List (ℕ × Token × Op) → Token → Option (ℕ × Op)
line_of [] t = None
line_of (o ∷ os) t = if same_token t o.1 then Some (o.0, o.2) else line_of os t

-- each line of the table is found by its token
pub each_found : Each (λ o. line_of operators o.1 ≡ Some (o.0, o.2)) operators
each_found = search rules

pub found_by : (l : ℕ) (t : Token) (op : Op) → Contains {X = ℕ × Token × Op} operators (l, t, op) → line_of operators t ≡ Some (l, op)
found_by l t op c = of_each (λ o. line_of operators o.1 ≡ Some (o.0, o.2)) operators (l, t, op) each_found c

-- the level, and the operator, of what is found
abbrev pub level_or : ℕ → Option (ℕ × Op) → ℕ
level_or n None = n
level_or n (Some o) = o.0

abbrev pub found_operator : Op → Option (ℕ × Op) → Op
found_operator op None = op
found_operator op (Some o) = o.1

-- what is found by a token is a line of the table
pub first_line : (o : ℕ × Token × Op) (os : List (ℕ × Token × Op)) (t : Token) (l : ℕ) (op : Op) (b : Bool) → same_token t o.1 ≡ b →
    (if b then Some (o.0, o.2) else line_of os t) ≡ Some (l, op) →
    (line_of os t ≡ Some (l, op) → Contains {X = ℕ × Token × Op} os (l, t, op)) → Contains {X = ℕ × Token × Op} (o ∷ os) (l, t, op)
first_line o os t l op true is e rest =
    let t_is = same_token_is t o.1 is in let a : o.0 ≡ l = ap (level_or 0) e in let b : o.2
    ≡ op = ap (found_operator op) e in (0, omega arith, λ i. (a i, sym t_is i, b i))
first_line o os t l op false is e rest = let c = rest e in (suc c.0, omega (arith, c.1), c.2)

pub listed : (os : List (ℕ × Token × Op)) (t : Token) (l : ℕ) (op : Op) → line_of os t ≡ Some (l, op) → Contains {X = ℕ × Token × Op} os (l, t, op)
listed [] t l op e = absurd (let b : ⊥ = cc in b)
listed (o ∷ os) t l op e = first_line o os t l op (same_token t o.1) refl e (λ r. listed os t l op r)

-- operators have a level below 11 that is not 3
pub operator_levels : (l : ℕ) (t : Token) (op : Op) → Contains {X = ℕ × Token × Op} operators (l, t, op) → ((l == 3) || nat_le 11 l) ≡ false
operator_levels l t op c = of_each {X = ℕ × Token × Op} (λ o. ((o.0 == 3) || nat_le 11 o.0) ≡ false) operators (l, t, op) (search rules) c

pub no_three : (l : ℕ) → ((l == 3) || nat_le 11 l) ≡ false → l ≡ 3 → ⊥
no_three l p is = grind arith

pub below_eleven : (l : ℕ) → ((l == 3) || nat_le 11 l) ≡ false → l < 11
below_eleven l p = grind arith

-- the level of a left operand
pub left_same : (l : ℕ) → (l ≡ 4 → ⊥) → left_of l ≡ l
left_same l other = grind arith

pub left_tight : (l : ℕ) → 3 < l → 3 < left_of l
left_tight l tight = grind arith

-- the size of a load by its word, and 0 for another word
abbrev pub size_of : List ℕ → ℕ
size_of w = if bytes_eq w (codes "mem8") then 1 else if bytes_eq w (codes "mem16") then 2 else if bytes_eq w (codes "mem32") then 4 else 0

pub size_is : (n : ℕ) (w : List ℕ) → Contains {X = ℕ × List ℕ} load_words (n, w) → size_of w ≡ n
size_is n w c =
    of_each {X = ℕ × List ℕ} (λ o. size_of o.1 ≡ o.0) load_words (n, w) (refl, (refl, (refl, tt))) c

pub a_size : (n : ℕ) (w : List ℕ) → Contains {X = ℕ × List ℕ} load_words (n, w) → nat_lt 0 n ≡ true
a_size n w c =
    of_each {X = ℕ × List ℕ} (λ o. nat_lt 0 o.0 ≡ true) load_words (n, w) (refl, (refl, (refl, tt))) c

pub load_other : (n : ℕ) (w : List ℕ) → Contains {X = ℕ × List ℕ} load_words (n, w) → bytes_eq w (codes "not") ≡ false
load_other n w c = of_each {X = ℕ × List ℕ} (λ o. bytes_eq o.1 (codes "not") ≡ false) load_words (n, w) (refl, (refl, (refl, tt))) c

-- a word with a size is that of a load
pub load_of : (k : ℕ) (w : List ℕ) (a b c : Bool) → bytes_eq w (codes "mem8") ≡ a → bytes_eq w (codes "mem16") ≡ b → bytes_eq w (codes "mem32") ≡ c →
    (if a then 1 else if b then 2 else if c then 4 else 0) ≡ suc k → Contains {X = ℕ × List ℕ} load_words (suc k, w)
load_of k w true b c p q r e = (0, omega arith, λ i. (e i, sym ((bytes_eq-Decides w (codes "mem8")).0 p) i))
load_of k w false true c p q r e = (1, omega arith, λ i. (e i, sym ((bytes_eq-Decides w (codes "mem16")).0 q) i))
load_of k w false false true p q r e = (2, omega arith, λ i. (e i, sym ((bytes_eq-Decides w (codes "mem32")).0 r) i))
load_of k w false false false p q r e = absurd (omega (arith, e))
