-- What the parser reads is right, and it comes to an end.
use Rattle.std.proofs.Common.{◌≡◌, ℕ, zero, suc, ◌<◌, ◌+◌, refl, ap, sym, ◌∙◌, subst, arith, List, [], ◌∷◌, ◌++◌, Option, Some, None, Bool, true, false, if◌then◌else◌, inl, inr, codes, bytes_eq, Contains, append_assoc, append-nil, nat_lt, ◌==◌, ◌&&◌}
use Rattle.bilv_spec.specs.Notes.{Op, Expr, Memory, Old, Not, Binary, written_out}
use Rattle.word_spec.specs.Tokens.{Token, NumberToken, NameToken, SignToken, BadByte, BadText}
use Rattle.notes_spec.specs.NotesGrammar.{left_of, operators, Parses, tighter, binary_of, not_of, number_of, name_of, memory_of, old_of, all_of, in_brackets, number_at}
use Rattle.notes_spec.specs.Scopes.{Scope, named, may_bind, binding}
use Rattle.bilv_spec.proofs.Decided.{Decided, same_number, none_some}
use Rattle.std.proofs.lemmas.Slice.Eq.{bytes_eq-Decides}
use Rattle.notes_spec.proofs.NotesTables.{same_token, same_token_is, line_of, listed, size_of, load_of, left_same}
use Rattle.notes_spec.proofs.NotesParser.{Task, Level, Behind, Read, Unready, Fails, Reads, then_read, closed, opened_if, opened, named_at, all_if, all_with, all_numbers, all_at, word_at, atom_at, negated_if, negated_at, Sort, Negation, Tightest, Chains, NoLevel, sort, level_at, of_level, again, behind_by, behind_at, step, work}

-- what may be read of tokens by a task
abbrev pub Right : Scope → Task → List Token → Read → Type 0
Right names task ts Unready = Unit {0}
Right names task ts Fails = Unit {0}
Right names (Level l) ts (Reads e rest) = (xs : List Token) × (ts ≡ xs ++ rest) × Parses names l xs e
Right names (Behind l a) ts (Reads e rest) =
    (xs : List Token) × (ts ≡ xs ++ rest) × ((first : List Token) → Parses names (left_of l) first a → Parses names l (first ++ xs) e)

-- within brackets
abbrev Within : Scope → Token → Token → (Expr → Expr) → List Token → Read → Type 0
Within names o c f ts Unready = Unit {0}
Within names o c f ts Fails = Unit {0}
Within names o c f ts (Reads e rest) = (us : List Token) × (a : Expr) × (ts ≡ o ∷ us ++ c ∷ rest) × Parses names 1 us a × (f a ≡ e)

abbrev AllRight : Scope → (Task → List Token → Read) → Type 0
AllRight names go = (task : Task) (ts : List Token) → Right names task ts (go task ts)

then_right : (Q : Read → Type 0) (r : Read) (f : Expr → List Token → Read) → Q Unready → Q Fails →
    ((e : Expr) (us : List Token) → r ≡ Reads e us → Q (f e us)) → Q (then_read r f)
then_right Q Unready f u v each = u
then_right Q Fails f u v each = v
then_right Q (Reads e us) f u v each = each e us refl

by_test : (Q : Read → Type 0) (b : Bool) (r : Read) → Q Fails → (b ≡ true → Q r) → Q (if b then r else Fails)
by_test Q true r fails holds = holds refl
by_test Q false r fails holds = fails

right_closed : (names : Scope) (o c : Token) (f : Expr → Expr) (ts us : List Token) (a : Expr) (more : List Token) → ts ≡ o ∷ us ++ more →
    Parses names 1 us a →
    Within names o c f ts (closed c f a more)
right_closed names o c f ts us a [] is p = tt
right_closed names o c f ts us a (t ∷ more) is p =
    by_test (Within names o c f ts) (same_token t c) (Reads (f a) more) tt (λ e. (us, a, is ∙ ap (λ x. o ∷ us ++ x ∷ more) (same_token_is t c e), p, refl))

right_opened_if : (names : Scope) (go : Task → List Token → Read) → AllRight names go →
    (b : Bool) (o c : Token) (f : Expr → Expr) (t : Token) (ts : List Token) → same_token t o ≡ b →
    Within names o c f (t ∷ ts) (opened_if go b c f ts)
right_opened_if names go right false o c f t ts e = tt
right_opened_if names go right true o c f t ts e =
    then_right (Within names o c f (t ∷ ts)) (go (Level 1) ts) (closed c f) tt tt (λ a more is.
    let r : Right names (Level 1) ts (Reads a more) = subst (Right names (Level 1) ts) is (right (Level 1) ts) in
    right_closed names o c f (t ∷ ts) r.0 a more (ap (λ x. x ∷ ts) (same_token_is t o e) ∙ ap (λ us. o ∷ us) r.1) r.2)

right_opened : (names : Scope) (go : Task → List Token → Read) → AllRight names go → (o c : Token) (f : Expr → Expr) (ts : List Token) →
    Within names o c f ts (opened go o c f ts)
right_opened names go right o c f [] = tt
right_opened names go right o c f (t ∷ ts) = right_opened_if names go right (same_token t o) o c f t ts refl

-- brackets make an atom
of_within : (names : Scope) (o c : Token) (f : Expr → Expr) (before ts : List Token) →
    ((us : List Token) (a : Expr) → Parses names 1 us a → Parses names 11 (before ++ (o ∷ us ++ c ∷ [])) (f a)) → (r : Read) → Within names o c f ts r →
    Right names (Level 11) (before ++ ts) r
of_within names o c f before ts make Unready w = tt
of_within names o c f before ts make Fails w = tt
of_within names o c f before ts make (Reads e rest) w = (
  before ++ (o ∷ w.0 ++ c ∷ []),
  ap (λ l. before ++ l) (w.2 ∙ ap (λ l. o ∷ l) (sym (append_assoc w.0 (c ∷ []) rest))) ∙ sym (append_assoc before (o ∷ w.0 ++ c ∷ []) rest),
  subst (λ x. Parses names 11 (before ++ (o ∷ w.0 ++ c ∷ [])) x) w.4 (make w.0 w.1 w.3),
)

right_named : (names : Scope) (w : List ℕ) (ts : List Token) (o : Option Expr) → named names w ≡ o →
    Right names (Level 11) (NameToken w ∷ ts) (named_at o ts)
right_named names w ts None is = tt
right_named names w ts (Some e) is = (NameToken w ∷ [], refl, name_of is)

-- the same, where the expression is read within an `all`
of_all : (names : Scope) (w : List ℕ) (o c : Token) (f : Expr → Expr) (before ts : List Token) →
    ((us : List Token) (a : Expr) → Parses (binding names w) 1 us a → Parses names 11 (before ++ (o ∷ us ++ c ∷ [])) (f a)) → (r : Read) →
    Within (binding names w) o c f ts r → Right names (Level 11) (before ++ ts) r
of_all names w o c f before ts make Unready h = tt
of_all names w o c f before ts make Fails h = tt
of_all names w o c f before ts make (Reads e rest) h = (
  before ++ (o ∷ h.0 ++ c ∷ []),
  ap (λ l. before ++ l) (h.2 ∙ ap (λ l. o ∷ l) (sym (append_assoc h.0 (c ∷ []) rest))) ∙ sym (append_assoc before (o ∷ h.0 ++ c ∷ []) rest),
  subst (λ x. Parses names 11 (before ++ (o ∷ h.0 ++ c ∷ [])) x) h.4 (make h.0 h.1 h.3),
)

abbrev AllInner : Scope → (List ℕ → Task → List Token → Read) → Type 0
AllInner names inner = (w : List ℕ) → AllRight (binding names w) (inner w)

-- the tokens of an `all` before its bracket
abbrev head : List ℕ → Token → Token → List Token
head w b c = NameToken (codes "all") ∷ NameToken w ∷ b ∷ c ∷ []

right_all_if : (names : Scope) (w : List ℕ) (go : Task → List Token → Read) → AllRight (binding names w) go → names.is_second ≡ true →
    (b c : Token) (low high : ℕ) → number_at names b ≡ Some low → number_at names c ≡ Some high → (t : Bool) → may_bind names w low high ≡ t →
    (ts : List Token) → Right names (Level 11) (head w b c ++ ts) (all_if go t low high ts)
right_all_if names w go right second b c low high p q true may ts =
    of_all names w (SignToken (codes "(")) (SignToken (codes ")")) (λ e. written_out low high e) (head w b c) ts
    (λ us a r. all_of low high a second p q may r refl)
    (opened go (SignToken (codes "(")) (SignToken (codes ")")) (λ e. written_out low high e) ts)
    (right_opened (binding names w) go right (SignToken (codes "(")) (SignToken (codes ")")) (λ e. written_out low high e) ts)
right_all_if names w go right second b c low high p q false may ts = tt

right_all_with : (names : Scope) (w : List ℕ) (go : Task → List Token → Read) → AllRight (binding names w) go → names.is_second ≡ true →
    (b c : Token) (low high : Option ℕ) → number_at names b ≡ low → number_at names c ≡ high → (ts : List Token) →
    Right names (Level 11) (head w b c ++ ts) (all_with names go w low high ts)
right_all_with names w go right second b c (Some low) (Some high) p q ts =
    right_all_if names w go right second b c low high p q (may_bind names w low high) refl ts
right_all_with names w go right second b c (Some low) None p q ts = tt
right_all_with names w go right second b c None high p q ts = tt

right_all_numbers : (names : Scope) (w : List ℕ) (go : Task → List Token → Read) → AllRight (binding names w) go → names.is_second ≡ true →
    (ts : List Token) → Right names (Level 11) (NameToken (codes "all") ∷ NameToken w ∷ ts) (all_numbers names go w ts)
right_all_numbers names w go right second [] = tt
right_all_numbers names w go right second (b ∷ []) = tt
right_all_numbers names w go right second (b ∷ c ∷ ts) =
    right_all_with names w go right second b c (number_at names b) (number_at names c) refl refl ts

right_all : (names : Scope) (inner : List ℕ → Task → List Token → Read) → AllInner names inner → names.is_second ≡ true → (ts : List Token) →
    Right names (Level 11) (NameToken (codes "all") ∷ ts) (all_at names inner ts)
right_all names inner right second [] = tt
right_all names inner right second (NameToken w ∷ ts) = right_all_numbers names w (inner w) (right w) second ts
right_all names inner right second (NumberToken n ∷ ts) = tt
right_all names inner right second (SignToken w ∷ ts) = tt
right_all names inner right second (BadByte ∷ ts) = tt
right_all names inner right second (BadText ∷ ts) = tt

both_true : (a b : Bool) → (a && b) ≡ true → (a ≡ true) × (b ≡ true)
both_true true b h = (refl, h)
both_true false b h = cc

right_word : (names : Scope) (go : Task → List Token → Read) (inner : List ℕ → Task → List Token → Read) → AllRight names go → AllInner names inner →
    (n : ℕ) (b a : Bool) (w : List ℕ) (ts : List Token) → size_of w ≡ n → bytes_eq w (codes "old") ≡ b → (names.is_second && bytes_eq w (codes "all")) ≡ a →
    Right names (Level 11) (NameToken w ∷ ts) (word_at names go inner n b a w ts)
right_word names go inner right within zero false false w ts p q r = right_named names w ts (named names w) refl
right_word names go inner right within zero false true w ts p q r =
    let h = both_true names.is_second (bytes_eq w (codes "all")) r in
    subst (λ v. Right names (Level 11) (NameToken v ∷ ts) (all_at names inner ts)) (sym ((bytes_eq-Decides w (codes "all")).0 h.1))
    (right_all names inner within h.0 ts)
right_word names go inner right within zero true x w ts p q y =
    let is = (bytes_eq-Decides w (codes "old")).0 q in
    of_within names (SignToken (codes "(")) (SignToken (codes ")")) (λ e. Old e) (NameToken w ∷ []) ts
    (λ us a r. old_of r (ap (λ v. NameToken v ∷ SignToken (codes "(") ∷ us ++ SignToken (codes ")") ∷ []) is))
    (opened go (SignToken (codes "(")) (SignToken (codes ")")) (λ e. Old e) ts) (right_opened names go right (SignToken (codes "(")) (SignToken (codes ")"))
    (λ e. Old e) ts)
right_word names go inner right within (suc k) b x w ts p q y =
    let c = load_of k w (bytes_eq w (codes "mem8")) (bytes_eq w (codes "mem16")) (bytes_eq w (codes "mem32")) refl refl refl p in
    of_within names (SignToken (codes "[")) (SignToken (codes "]")) (λ e. Memory (suc k) e) (NameToken w ∷ []) ts (λ us a r. memory_of c r refl)
    (opened go (SignToken (codes "[")) (SignToken (codes "]"))
    (λ e. Memory (suc k) e) ts) (right_opened names go right (SignToken (codes "[")) (SignToken (codes "]")) (λ e. Memory (suc k) e) ts)

right_atom : (names : Scope) (go : Task → List Token → Read) (inner : List ℕ → Task → List Token → Read) → AllRight names go → AllInner names inner →
    (ts : List Token) → Right names (Level 11) ts (atom_at names go inner ts)
right_atom names go inner right within [] = tt
right_atom names go inner right within (NumberToken n ∷ ts) = (NumberToken n ∷ [], refl, number_of)
right_atom names go inner right within (NameToken w ∷ ts) =
    right_word names go inner right within (size_of w) (bytes_eq w (codes "old")) (names.is_second && bytes_eq w (codes "all")) w ts refl refl refl
right_atom names go inner right within (SignToken s ∷ ts) =
    of_within names (SignToken (codes "(")) (SignToken (codes ")")) (λ e. e) [] (SignToken s ∷ ts) (λ us a r. in_brackets r refl)
    (opened go (SignToken (codes "(")) (SignToken (codes ")"))
    (λ e. e) (SignToken s ∷ ts)) (right_opened names go right (SignToken (codes "(")) (SignToken (codes ")")) (λ e. e) (SignToken s ∷ ts))
right_atom names go inner right within (BadByte ∷ ts) = tt
right_atom names go inner right within (BadText ∷ ts) = tt

looser_right : (names : Scope) (l : ℕ) (ts : List Token) (r : Read) → l < 11 → Right names (Level (l + 1)) ts r → Right names (Level l) ts r
looser_right names l ts Unready below p = tt
looser_right names l ts Fails below p = tt
looser_right names l ts (Reads e rest) below p = (p.0, p.1, tighter below p.2)

right_negated_if : (names : Scope) (go : Task → List Token → Read) → AllRight names go → (b : Bool) (t : Token) (ts : List Token) →
    same_token t (NameToken (codes "not")) ≡ b →
    Right names (Level 3) (t ∷ ts) (negated_if go b t ts)
right_negated_if names go right true t ts e =
    then_right (Right names (Level 3) (t ∷ ts)) (go (Level 3) ts) (λ e us. Reads (Not e) us) tt tt (λ a us is.
    let r : Right names (Level 3) ts (Reads a us) = subst (Right names (Level 3) ts) is (right (Level 3) ts) in
    (NameToken (codes "not") ∷ r.0, ap (λ x. x ∷ ts) (same_token_is t (NameToken (codes "not")) e) ∙ ap (λ l. NameToken (codes "not") ∷ l) r.1, not_of r.2))
right_negated_if names go right false t ts e = looser_right names 3 (t ∷ ts) (go (Level 4) (t ∷ ts)) (omega arith) (right (Level 4) (t ∷ ts))

right_negated : (names : Scope) (go : Task → List Token → Read) → AllRight names go → (ts : List Token) →
    Right names (Level 3) ts (negated_at go ts)
right_negated names go right [] = tt
right_negated names go right (t ∷ ts) = right_negated_if names go right (same_token t (NameToken (codes "not"))) t ts refl

-- the level of a left operand, and the level itself
to_left : (names : Scope) (l : ℕ) (ts : List Token) (a : Expr) → l < 11 → Decided (l ≡ 4) → Parses names (l + 1) ts a →
    Parses names (left_of l) ts a
to_left names l ts a below (inl four) p = subst (λ k. Parses names (left_of k) ts a) (sym four) (subst (λ k. Parses names (k + 1) ts a) four p)
to_left names l ts a below (inr four) p = subst (λ k. Parses names k ts a) (sym (left_same l four)) (tighter below p)

from_left : (names : Scope) (l : ℕ) (ts : List Token) (a : Expr) → Decided (l ≡ 4) → Parses names (left_of l) ts a → Parses names l ts a
from_left names l ts a (inl four) p =
    let q : Parses names 4 ts a = tighter (omega arith) (subst (λ k. Parses names (left_of k) ts a) four p) in subst (λ k. Parses names k ts a) (sym four) q
from_left names l ts a (inr four) p = subst (λ k. Parses names k ts a) (left_same l four) p

right_chain : (names : Scope) (l : ℕ) (ts us xs : List Token) (a : Expr) (r : Read) → ts ≡ xs ++ us → Parses names (left_of l) xs a →
    Right names (Behind l a) us r → Right names (Level l) ts r
right_chain names l ts us xs a Unready is p q = tt
right_chain names l ts us xs a Fails is p q = tt
right_chain names l ts us xs a (Reads e rest) is p q = (xs ++ q.0, is ∙ (ap (λ l. xs ++ l) q.1 ∙ sym (append_assoc xs q.0 rest)), q.2 xs p)

right_stop : (names : Scope) (l : ℕ) (a : Expr) (ts : List Token) → Right names (Behind l a) ts (Reads a ts)
right_stop names l a ts = ([], refl, λ first p. subst (λ us. Parses names l us a) (sym (append-nil first)) (from_left names l first a (same_number l 4) p))

right_more : (names : Scope) (l : ℕ) (t : Token) (op : Op) (a b : Expr) (ts ys us : List Token) → (l ≡ 4 → ⊥) →
    Contains {X = ℕ × Token × Op} operators (l, t, op) → ts ≡ ys ++ us →
    Parses names (l + 1) ys b → (r : Read) → Right names (Behind l (Binary op a b)) us r → Right names (Behind l a) (t ∷ ts) r
right_more names l t op a b ts ys us four c is q Unready w = tt
right_more names l t op a b ts ys us four c is q Fails w = tt
right_more names l t op a b ts ys us four c is q (Reads e rest) w = (
  t ∷ ys ++ w.0,
  ap (λ l. t ∷ l) (is ∙ (ap (λ l. ys ++ l) w.1 ∙ sym (append_assoc ys w.0 rest))),
  λ first p. subst (λ l_ts. Parses names l l_ts e) (append_assoc first (t ∷ ys) w.0)
      (w.2 (first ++ t ∷ ys) (subst (λ k. Parses names k (first ++ t ∷ ys) (Binary op a b)) (sym (left_same l four)) (binary_of c p q refl))),
)

abbrev op_or : Op → Option Op → Op
op_or op None = op
op_or op (Some o) = o

level_if : (b : Bool) (o : ℕ × Op) (l : ℕ) (op : Op) → (o.0 == l) ≡ b → (if b then Some o.1 else None) ≡ Some op → o ≡ (l, op)
level_if true o l op e is = let a : o.0 ≡ l = grind (arith, e) in let b : o.1 ≡ op = ap (op_or op) is in λ i. (a i, b i)
level_if false o l op e is = absurd (none_some Op op is)

level_is : (f : Option (ℕ × Op)) (l : ℕ) (op : Op) → of_level f l ≡ Some op → f ≡ Some (l, op)
level_is None l op is = absurd (none_some Op op is)
level_is (Some o) l op is = ap (λ o. Some o) (level_if (o.0 == l) o l op refl is)

right_again : (names : Scope) (go : Task → List Token → Read) → AllRight names go →
    (four : Bool) (l : ℕ) (t : Token) (op : Op) (a b : Expr) (ts ys us : List Token) → (l == 4) ≡ four →
    Contains {X = ℕ × Token × Op} operators (l, t, op) → ts ≡ ys ++ us → Parses names (l + 1) ys b →
    Right names (Behind l a) (t ∷ ts) (again go four l (Binary op a b) us)
right_again names go right true l t op a b ts ys us e c is q = (t ∷ ys, ap (λ l. t ∷ l) is, λ first p. binary_of c p q refl)
right_again names go right false l t op a b ts ys us e c is q =
    right_more names l t op a b ts ys us (λ four. let n : (l == 4) ≡ true = grind arith in let x : false
    ≡ true = sym e ∙ n in cc) c is q (go (Behind l (Binary op a b)) us) (right (Behind l (Binary op a b)) us)

right_by : (names : Scope) (go : Task → List Token → Read) → AllRight names go →
    (l : ℕ) (a : Expr) (o : Option Op) (t : Token) (ts : List Token) → of_level (line_of operators t) l ≡ o →
    Right names (Behind l a) (t ∷ ts) (behind_by go l a o t ts)
right_by names go right l a None t ts e = right_stop names l a (t ∷ ts)
right_by names go right l a (Some op) t ts e =
    then_right (Right names (Behind l a) (t ∷ ts)) (go (Level (l + 1)) ts) (λ b us. again go (l == 4) l (Binary op a b) us) tt tt (λ b us is.
    let r : Right names (Level (l + 1)) ts (Reads b us) = subst (Right names (Level (l + 1)) ts) is (right (Level (l + 1)) ts) in
    right_again names go right (l == 4) l t op a b ts r.0 us refl (listed operators t l op (level_is (line_of operators t) l op e)) r.1 r.2)

right_behind : (names : Scope) (go : Task → List Token → Read) → AllRight names go → (l : ℕ) (a : Expr) (ts : List Token) →
    Right names (Behind l a) ts (behind_at go l a ts)
right_behind names go right l a [] = right_stop names l a []
right_behind names go right l a (t ∷ ts) = right_by names go right l a (of_level (line_of operators t) l) t ts refl

-- the levels of the ways
abbrev sort_by : Bool → Bool → Bool → Sort
sort_by a b c = if a then Negation else if b then Tightest else if c then Chains else NoLevel

negation_if : (a b c : Bool) → sort_by a b c ≡ Negation → a ≡ true
negation_if true b c e = refl
negation_if false true c e = absurd (let x : ⊥ = cc in x)
negation_if false false true e = absurd (let x : ⊥ = cc in x)
negation_if false false false e = absurd (let x : ⊥ = cc in x)

tightest_if : (a b c : Bool) → sort_by a b c ≡ Tightest → b ≡ true
tightest_if true b c e = absurd (let x : ⊥ = cc in x)
tightest_if false true c e = refl
tightest_if false false true e = absurd (let x : ⊥ = cc in x)
tightest_if false false false e = absurd (let x : ⊥ = cc in x)

chains_if : (a b c : Bool) → sort_by a b c ≡ Chains → c ≡ true
chains_if true b c e = absurd (let x : ⊥ = cc in x)
chains_if false true c e = absurd (let x : ⊥ = cc in x)
chains_if false false true e = refl
chains_if false false false e = absurd (let x : ⊥ = cc in x)

pub negation_is : (l : ℕ) → sort l ≡ Negation → l ≡ 3
negation_is l e = let b = negation_if (l == 3) (l == 11) (nat_lt l 11) e in grind (arith, b)

pub tightest_is : (l : ℕ) → sort l ≡ Tightest → l ≡ 11
tightest_is l e = let b = tightest_if (l == 3) (l == 11) (nat_lt l 11) e in grind (arith, b)

pub chains_is : (l : ℕ) → sort l ≡ Chains → l < 11
chains_is l e = let b = chains_if (l == 3) (l == 11) (nat_lt l 11) e in grind (arith, b)

right_level : (names : Scope) (go : Task → List Token → Read) (inner : List ℕ → Task → List Token → Read) → AllRight names go → AllInner names inner →
    (s : Sort) (l : ℕ) (ts : List Token) → sort l ≡ s → Right names (Level l) ts (level_at names go inner s l ts)
right_level names go inner right within Negation l ts e =
    subst (λ k. Right names (Level k) ts (negated_at go ts)) (sym (negation_is l e)) (right_negated names go right ts)
right_level names go inner right within Tightest l ts e =
    subst (λ k. Right names (Level k) ts (atom_at names go inner ts)) (sym (tightest_is l e)) (right_atom names go inner right within ts)
right_level names go inner right within NoLevel l ts e = tt
right_level names go inner right within Chains l ts e =
    then_right (Right names (Level l) ts) (go (Level (l + 1)) ts) (λ a us. go (Behind l a) us) tt tt (λ a us is.
    let r : Right names (Level (l + 1)) ts (Reads a us) = subst (Right names (Level (l + 1)) ts) is (right (Level (l + 1)) ts) in
    right_chain names l ts us r.0 a (go (Behind l a) us) r.1 (to_left names l r.0 a (chains_is l e) (same_number l 4) r.2) (right (Behind l a) us))

right_step : (names : Scope) (go : Task → List Token → Read) (inner : List ℕ → Task → List Token → Read) → AllRight names go → AllInner names inner →
    AllRight names (step names go inner)
right_step names go inner right within (Level l) ts = right_level names go inner right within (sort l) l ts refl
right_step names go inner right within (Behind l a) ts = right_behind names go right l a ts

-- what is read is right
pub right : (names : Scope) (n : ℕ) → AllRight names (work names n)
right names zero task ts = tt
right names (suc n) task ts = right_step names (work names n) (λ w. work (binding names w) n) (right names n) (λ w. right (binding names w) n) task ts
