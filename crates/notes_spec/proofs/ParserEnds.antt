-- The parser comes to an end, so whether tokens are an expression can be decided.
use Rattle.std.proofs.Common.{◌≡◌, ℕ, zero, suc, ◌<◌, ◌≤◌, ◌+◌, ◌*◌, ◌-◌, refl, ap, sym, ◌∙◌, subst, arith, List, [], ◌∷◌, length, Option, Some, None, Bool, true, false, if◌then◌else◌, inl, inr, codes, bytes_eq, length-append, append-nil, ◌==◌, ◌&&◌}
use Rattle.bilv_spec.specs.Notes.{Op, Expr, Memory, Old, Not, Binary, written_out}
use Rattle.word_spec.specs.Tokens.{Token, NumberToken, NameToken, SignToken, BadByte, BadText}
use Rattle.notes_spec.specs.NotesGrammar.{operators, Parses, tighter, binary_of, not_of, number_of, name_of, memory_of, old_of, all_of, in_brackets, number_at}
use Rattle.notes_spec.specs.Scopes.{Scope, named, may_bind, binding}
use Rattle.bilv_spec.proofs.Decided.{Decided, none_some}
use Rattle.notes_spec.proofs.NotesTables.{same_token, line_of, size_of}
use Rattle.notes_spec.proofs.NotesParser.{Task, Level, Behind, Read, Unready, Fails, Reads, then_read, closed, opened_if, opened, named_at, all_if, all_with, all_numbers, all_at, word_at, atom_at, negated_if, negated_at, Sort, Negation, Tightest, Chains, NoLevel, sort, level_at, of_level, again, behind_by, behind_at, work, is_ready, all_read}
use Rattle.notes_spec.proofs.ParserFinds.{reads_all}
use Rattle.notes_spec.proofs.ParserRight.{Right, right, negation_is, chains_is}

-- steps that are enough
abbrev pub cost : Task → List Token → ℕ
cost (Level l) ts = 13 * length ts + (12 - l) + 1
cost (Behind l a) ts = 13 * length ts + 13

abbrev Ready : (Task → List Token → Read) → ℕ → Type 0
Ready go n = (task : Task) (ts : List Token) → cost task ts ≤ n → is_ready (go task ts) ≡ true

-- an expression has a token
some_token : (names : Scope) (l : ℕ) (ts : List Token) (e : Expr) → Parses names l ts e → 0 < length ts
some_token names l ts e (tighter below p) = some_token names (l + 1) ts e p
some_token names l ts e (binary_of {xs = xs} {ys = ys} {t = t} c p q is) = let n : length ts
    ≡ length xs + suc (length ys) = ap length is ∙ length-append xs (t ∷ ys) in omega (arith, n)
some_token names l ts e (not_of p) = omega arith
some_token names l ts e (number_of) = omega arith
some_token names l ts e (name_of is) = omega arith
some_token names l ts e (memory_of c p is) = let n = ap length is in omega (arith, n)
some_token names l ts e (old_of p is) = let n = ap length is in omega (arith, n)
some_token names l ts e (all_of low high a second p q may r is) = let n = ap length is in omega (arith, n)
some_token names l ts e (in_brackets p is) = let n = ap length is in omega (arith, n)

-- what is left of tokens behind an expression is shorter
left_shorter : (names : Scope) (l : ℕ) (ts us : List Token) (e : Expr) (r : Read) → Right names (Level l) ts r → r ≡ Reads e us →
    length us < length ts
left_shorter names l ts us e r p is =
    let q : Right names (Level l) ts (Reads e us) = subst (Right names (Level l) ts) is p in
    let n : length ts ≡ length q.0 + length us = ap length q.1 ∙ length-append q.0 us in
    let some = some_token names l q.0 e q.2 in omega (arith, n, some)

then_ready : (r : Read) (f : Expr → List Token → Read) → is_ready r ≡ true → ((e : Expr) (us : List Token) → r ≡ Reads e us → is_ready (f e us) ≡ true) →
    is_ready (then_read r f) ≡ true
then_ready Unready f p each = p
then_ready Fails f p each = refl
then_ready (Reads e us) f p each = each e us refl

test_ready : (b : Bool) (r : Read) → is_ready r ≡ true → is_ready (if b then r else Fails) ≡ true
test_ready true r p = p
test_ready false r p = refl

closed_ready : (c : Token) (f : Expr → Expr) (e : Expr) (ts : List Token) → is_ready (closed c f e ts) ≡ true
closed_ready c f e [] = refl
closed_ready c f e (t ∷ ts) = test_ready (same_token t c) (Reads (f e) ts) refl

opened_if_ready : (go : Task → List Token → Read) (n : ℕ) → Ready go n → (b : Bool) (c : Token) (f : Expr → Expr) (ts : List Token) → 13 * length ts + 12 ≤ n →
    is_ready (opened_if go b c f ts) ≡ true
opened_if_ready go n ready false c f ts le = refl
opened_if_ready go n ready true c f ts le = then_ready (go (Level 1) ts) (closed c f) (ready (Level 1) ts (omega (arith, le)))
    (λ e us is. closed_ready c f e us)

opened_ready : (go : Task → List Token → Read) (n : ℕ) → Ready go n → (o c : Token) (f : Expr → Expr) (ts : List Token) → 13 * length ts ≤ n →
    is_ready (opened go o c f ts) ≡ true
opened_ready go n ready o c f [] le = refl
opened_ready go n ready o c f (t ∷ ts) le = opened_if_ready go n ready (same_token t o) c f ts (omega (arith, le))

named_ready : (o : Option Expr) (ts : List Token) → is_ready (named_at o ts) ≡ true
named_ready None ts = refl
named_ready (Some e) ts = refl

-- within an `all`
abbrev ReadyWithin : (List ℕ → Task → List Token → Read) → ℕ → Type 0
ReadyWithin inner n = (w : List ℕ) → Ready (inner w) n

all_if_ready : (go : Task → List Token → Read) (n : ℕ) → Ready go n → (b : Bool) (low high : ℕ) (ts : List Token) → 13 * length ts ≤ n →
    is_ready (all_if go b low high ts) ≡ true
all_if_ready go n ready true low high ts le = opened_ready go n ready (SignToken (codes "(")) (SignToken (codes ")")) (λ e. written_out low high e) ts le
all_if_ready go n ready false low high ts le = refl

all_with_ready : (names : Scope) (go : Task → List Token → Read) (n : ℕ) → Ready go n → (w : List ℕ) (low high : Option ℕ) (ts : List Token) →
    13 * length ts ≤ n → is_ready (all_with names go w low high ts) ≡ true
all_with_ready names go n ready w (Some low) (Some high) ts le = all_if_ready go n ready (may_bind names w low high) low high ts le
all_with_ready names go n ready w (Some low) None ts le = refl
all_with_ready names go n ready w None high ts le = refl

all_numbers_ready : (names : Scope) (go : Task → List Token → Read) (n : ℕ) → Ready go n → (w : List ℕ) (ts : List Token) → 13 * length ts ≤ n →
    is_ready (all_numbers names go w ts) ≡ true
all_numbers_ready names go n ready w [] le = refl
all_numbers_ready names go n ready w (b ∷ []) le = refl
all_numbers_ready names go n ready w (b ∷ c ∷ ts) le = all_with_ready names go n ready w (number_at names b) (number_at names c) ts (omega (arith, le))

all_ready : (names : Scope) (inner : List ℕ → Task → List Token → Read) (n : ℕ) → ReadyWithin inner n → (ts : List Token) → 13 * length ts ≤ n →
    is_ready (all_at names inner ts) ≡ true
all_ready names inner n ready [] le = refl
all_ready names inner n ready (NameToken w ∷ ts) le = all_numbers_ready names (inner w) n (ready w) w ts (omega (arith, le))
all_ready names inner n ready (NumberToken v ∷ ts) le = refl
all_ready names inner n ready (SignToken v ∷ ts) le = refl
all_ready names inner n ready (BadByte ∷ ts) le = refl
all_ready names inner n ready (BadText ∷ ts) le = refl

word_ready : (names : Scope) (go : Task → List Token → Read) (inner : List ℕ → Task → List Token → Read) (n : ℕ) → Ready go n → ReadyWithin inner n →
    (k : ℕ) (b a : Bool) (w : List ℕ) (ts : List Token) → 13 * length ts ≤ n → is_ready (word_at names go inner k b a w ts) ≡ true
word_ready names go inner n ready within zero false false w ts le = named_ready (named names w) ts
word_ready names go inner n ready within zero false true w ts le = all_ready names inner n within ts le
word_ready names go inner n ready within zero true a w ts le =
    opened_ready go n ready (SignToken (codes "(")) (SignToken (codes ")")) (λ e. Old e) ts le
word_ready names go inner n ready within (suc k) b a w ts le =
    opened_ready go n ready (SignToken (codes "[")) (SignToken (codes "]")) (λ e. Memory (suc k) e) ts le

atom_ready : (names : Scope) (go : Task → List Token → Read) (inner : List ℕ → Task → List Token → Read) (n : ℕ) → Ready go n → ReadyWithin inner n →
    (ts : List Token) → 13 * length ts ≤ n → is_ready (atom_at names go inner ts) ≡ true
atom_ready names go inner n ready within [] le = refl
atom_ready names go inner n ready within (NumberToken v ∷ ts) le = refl
atom_ready names go inner n ready within (NameToken w ∷ ts) le =
    word_ready names go inner n ready within (size_of w) (bytes_eq w (codes "old")) (names.is_second && bytes_eq w (codes "all")) w ts (omega (arith, le))
atom_ready names go inner n ready within (SignToken s ∷ ts) le =
    opened_ready go n ready (SignToken (codes "(")) (SignToken (codes ")")) (λ e. e) (SignToken s ∷ ts) le
atom_ready names go inner n ready within (BadByte ∷ ts) le = refl
atom_ready names go inner n ready within (BadText ∷ ts) le = refl

negated_if_ready : (go : Task → List Token → Read) (n : ℕ) → Ready go n → (b : Bool) (t : Token) (ts : List Token) → 13 * length ts + 22 ≤ n →
    is_ready (negated_if go b t ts) ≡ true
negated_if_ready go n ready true t ts le = then_ready (go (Level 3) ts) (λ e us. Reads (Not e) us) (ready (Level 3) ts (omega (arith, le))) (λ e us is. refl)
negated_if_ready go n ready false t ts le = ready (Level 4) (t ∷ ts) (omega (arith, le))

negated_ready : (go : Task → List Token → Read) (n : ℕ) → Ready go n → (ts : List Token) → 13 * length ts + 9 ≤ n → is_ready (negated_at go ts) ≡ true
negated_ready go n ready [] le = refl
negated_ready go n ready (t ∷ ts) le = negated_if_ready go n ready (same_token t (NameToken (codes "not"))) t ts (omega (arith, le))

level_ready : (names : Scope) (n : ℕ) → ((x : Scope) → Ready (work x n) n) → (s : Sort) (l : ℕ) (ts : List Token) → sort l ≡ s →
    13 * length ts + (12 - l) ≤ n →
    is_ready (level_at names (work names n) (λ w. work (binding names w) n) s l ts) ≡ true
level_ready names n ready Negation l ts e le =
    let three = negation_is l e in negated_ready (work names n) n (ready names) ts (omega (arith, three, le))
level_ready names n ready Tightest l ts e le =
    atom_ready names (work names n) (λ w. work (binding names w) n) n (ready names) (λ w. ready (binding names w)) ts (omega (arith, le))
level_ready names n ready NoLevel l ts e le = refl
level_ready names n ready Chains l ts e le =
    let below = chains_is l e in
    then_ready (work names n (Level (l + 1)) ts) (λ a us. work names n (Behind l a) us) (ready names (Level (l + 1)) ts (omega (arith, le, below))) (λ a us is.
    let less = left_shorter names (l + 1) ts us a (work names n (Level (l + 1)) ts) (right names n (Level (l + 1)) ts) is in
    ready names (Behind l a) us (omega (arith, less, le)))

again_ready : (go : Task → List Token → Read) (n : ℕ) → Ready go n → (b : Bool) (l : ℕ) (a : Expr) (ts : List Token) → 13 * length ts + 13 ≤ n →
    is_ready (again go b l a ts) ≡ true
again_ready go n ready true l a ts le = refl
again_ready go n ready false l a ts le = ready (Behind l a) ts le

by_ready : (names : Scope) (n : ℕ) → Ready (work names n) n → (l : ℕ) (a : Expr) (o : Option Op) (t : Token) (ts : List Token) →
    13 * length ts + 25 ≤ n →
    is_ready (behind_by (work names n) l a o t ts) ≡ true
by_ready names n ready l a None t ts le = refl
by_ready names n ready l a (Some op) t ts le =
    then_ready (work names n (Level (l + 1)) ts) (λ b us. again (work names n) (l == 4) l (Binary op a b) us) (ready (Level (l + 1)) ts (omega (arith, le)))
    (λ b us is.
    let less = left_shorter names (l + 1) ts us b (work names n (Level (l + 1)) ts) (right names n (Level (l + 1)) ts) is in
    again_ready (work names n) n ready (l == 4) l (Binary op a b) us (omega (arith, less, le)))

behind_ready : (names : Scope) (n : ℕ) → Ready (work names n) n → (l : ℕ) (a : Expr) (ts : List Token) → 13 * length ts + 12 ≤ n →
    is_ready (behind_at (work names n) l a ts) ≡ true
behind_ready names n ready l a [] le = refl
behind_ready names n ready l a (t ∷ ts) le = by_ready names n ready l a (of_level (line_of operators t) l) t ts (omega (arith, le))

step_ready : (names : Scope) (n : ℕ) → ((x : Scope) → Ready (work x n) n) → Ready (work names (suc n)) (suc n)
step_ready names n ready (Level l) ts le = level_ready names n ready (sort l) l ts refl (omega (arith, le))
step_ready names n ready (Behind l a) ts le = behind_ready names n (ready names) l a ts (omega (arith, le))

pub ready : (names : Scope) (n : ℕ) → Ready (work names n) n
ready names zero (Level l) ts le = absurd (omega (arith, le))
ready names zero (Behind l a) ts le = absurd (omega (arith, le))
ready names (suc n) task ts le = step_ready names n (λ x. ready x n) task ts le

-- tokens are an expression
abbrev pub Parsed : Scope → List Token → Type 0
Parsed names ts = (e : Expr) × Parses names 1 ts e

by_read : (names : Scope) → (n : ℕ) (ts : List Token) (r : Read) → work names n (Level 1) ts ≡ r → is_ready r ≡ true →
    Right names (Level 1) ts r → Decided (Parsed names ts)
by_read names n ts Unready is p q = absurd (let x : ⊥ = cc in x)
by_read names n ts Fails is p q =
    inr (λ e. none_some Expr e.0 (sym (ap all_read is) ∙ reads_all names n ts e.0 (ap is_ready is) e.1))
by_read names n ts (Reads e []) is p q = inl (e, subst (λ us. Parses names 1 us e) (sym (q.1 ∙ append-nil q.0)) q.2)
by_read names n ts (Reads e (t ∷ us)) is p q =
    inr (λ e. none_some Expr e.0 (sym (ap all_read is) ∙ reads_all names n ts e.0 (ap is_ready is) e.1))

pub is_parsed : (names : Scope) → (ts : List Token) → Decided (Parsed names ts)
is_parsed names ts =
    let n = cost (Level 1) ts in by_read names n ts (work names n (Level 1) ts) refl (ready names n (Level 1) ts (omega arith))
    (right names n (Level 1) ts)

-- what is read of all tokens, they are
pub by_reading : (names : Scope) (n : ℕ) (ts : List Token) (e : Expr) → work names n (Level 1) ts ≡ Reads e [] → Parses names 1 ts e
by_reading names n ts e is =
    let r : Right names (Level 1) ts (Reads e []) = subst (Right names (Level 1) ts) is (right names n (Level 1) ts) in
    subst (λ us. Parses names 1 us e) (sym (r.1 ∙ append-nil r.0)) r.2
