-- The parser finds each expression, so tokens are one at most.
use Rattle.std.proofs.Common.{◌≡◌, ℕ, zero, suc, ◌<◌, ◌≤◌, ◌+◌, max, refl, ap, sym, ◌∙◌, subst, arith, List, [], ◌∷◌, ◌++◌, Option, Some, None, Bool, true, false, if◌then◌else◌, ◌⊎◌, inl, inr, codes, bytes_eq, Contains, append_assoc, append-nil, zero-add, suc-add, nat_lt, ◌==◌, ◌&&◌}
use Rattle.std.proofs.lemmas.List.{append_cancel_right}
use Rattle.std.specs.Prelude.{◌||◌}
use Rattle.bilv_spec.specs.Notes.{Op, Expr, Number, Memory, Old, Not, Binary, written_out}
use Rattle.word_spec.specs.Tokens.{Token, NumberToken, NameToken, SignToken, BadByte, BadText}
use Rattle.notes_spec.specs.NotesGrammar.{load_words, left_of, operators, Parses, tighter, binary_of, not_of, number_of, name_of, memory_of, old_of, all_of, in_brackets, number_at}
use Rattle.notes_spec.specs.Scopes.{Scope, named, may_bind, binding}
use Rattle.bilv_spec.proofs.Decided.{Decided, same_number, none_some}
use Rattle.notes_spec.proofs.NotesTables.{is_false, same_token, line_of, found_by, size_of, size_is, a_size, not_word, not_all, operator_levels, no_three, below_eleven, left_same, left_tight, load_other}
use Rattle.notes_spec.proofs.NotesParser.{Task, Level, Behind, Read, Unready, Fails, Reads, then_read, closed, opened_if, opened, named_at, all_if, all_with, all_numbers, all_at, word_at, atom_at, negated_if, negated_at, Sort, Negation, Tightest, Chains, NoLevel, sort, level_at, of_level, again, behind_by, behind_at, step, work, Ends, by_step, all_read, is_ready}

-- what may follow an expression of a level: nothing, a bracket that closes, or an operator that is looser
abbrev pub Follows : ℕ → List Token → Type 0
Follows l [] = Unit {0}
Follows l (t ∷ ts) = ((t ≡ SignToken (codes ")")) ⊎ (t ≡ SignToken (codes "]"))) ⊎ ((k : ℕ) × (op : Op) × Contains {X = ℕ × Token × Op} operators (k, t, op) ×
    (k < l))

-- what may follow a level, may follow a tighter one
pub follows_tighter : (l m : ℕ) (ts : List Token) → l ≤ m → Follows l ts → Follows m ts
follows_tighter l m [] le f = tt
follows_tighter l m (t ∷ ts) le (inl c) = inl c
follows_tighter l m (t ∷ ts) le (inr o) = inr (o.0, o.1, o.2, omega (arith, o.3, le))

pub operator_follows : (l k : ℕ) (t : Token) (op : Op) (ts : List Token) → Contains {X = ℕ × Token × Op} operators (k, t, op) → k < l → Follows l (t ∷ ts)
operator_follows l k t op ts c less = inr (k, op, c, less)

chains_by : (a b c : Bool) → a ≡ false → b ≡ false → c ≡ true →
    ◌≡◌ {A = Sort} (if a then Negation else if b then Tightest else if c then Chains else NoLevel) Chains
chains_by a b c p q r =
    ap (λ a. if a then Negation else if b then Tightest else if c then Chains else NoLevel) p
    ∙ (ap (λ b. if b then Tightest else if c then Chains else NoLevel) q ∙ ap (λ c. if c then Chains else NoLevel) r)

is_chains : (l : ℕ) → (l ≡ 3 → ⊥) → l < 11 → sort l ≡ Chains
is_chains l three below =
    chains_by (l == 3) (l == 11) (nat_lt l 11) (is_false _ (λ e. three (grind arith))) (is_false _ (λ e. grind arith)) (grind arith)

-- an operand, and what is behind it
read_chain : (names : Scope) (l : ℕ) (ts us : List Token) (a : Expr) (r : Read) → sort l ≡ Chains → Ends names (Level (l + 1)) ts (Reads a us) →
    Ends names (Behind l a) us r →
    Ends names (Level l) ts r
read_chain names l ts us a r is p q = by_step names (max p.0 q.0) (Level l) ts r (λ m le.
    ap (λ s. level_at names (work names m) (λ w. work (binding names w) m) s l ts) is ∙ (ap (λ r. then_read r
    (λ a us. work names m (Behind l a) us)) (p.1 m (omega (arith, le))) ∙ q.1 m (omega (arith, le))))

-- nothing of the level is behind an expression
other_level : (k l : ℕ) (op : Op) → k < l → of_level (Some (k, op)) l ≡ None
other_level k l op less = ap (λ b. if b then Some op else None) (is_false (k == l) (λ e. grind arith))

same_level : (l : ℕ) (op : Op) → of_level (Some (l, op)) l ≡ Some op
same_level l op = let e : (l == l) ≡ true = grind arith in ap (λ b. if b then Some op else None) e

none_behind : (l : ℕ) (t : Token) (ts : List Token) → Follows l (t ∷ ts) → of_level (line_of operators t) l ≡ None
none_behind l t ts (inl (inl is)) = ap (λ t. of_level (line_of operators t) l) is
none_behind l t ts (inl (inr is)) = ap (λ t. of_level (line_of operators t) l) is
none_behind l t ts (inr o) = ap (λ f. of_level f l) (found_by o.0 t o.1 o.2) ∙ other_level o.0 l o.1 o.3

stops_behind : (names : Scope) (l : ℕ) (a : Expr) (ts : List Token) → Follows l ts → Ends names (Behind l a) ts (Reads a ts)
stops_behind names l a [] f = by_step names 0 (Behind l a) [] (Reads a []) (λ m le. refl)
stops_behind names l a (t ∷ ts) f = by_step names 0 (Behind l a) (t ∷ ts) (Reads a (t ∷ ts))
    (λ m le. ap (λ o. behind_by (work names m) l a o t ts) (none_behind l t ts f))

-- an operator of the level, and its operand
is_behind : (names : Scope) (l : ℕ) (a b : Expr) (t : Token) (op : Op) (ts us : List Token) (r : Read) →
    Contains {X = ℕ × Token × Op} operators (l, t, op) →
    Ends names (Level (l + 1)) ts (Reads b us) → (n : ℕ) → ((m : ℕ) → n ≤ m → again (work names m) (l == 4) l (Binary op a b) us ≡ r) →
    Ends names (Behind l a) (t ∷ ts) r
is_behind names l a b t op ts us r c p n each = by_step names (max p.0 n) (Behind l a) (t ∷ ts) r (λ m le.
    ap (λ o. behind_by (work names m) l a o t ts) (ap (λ f. of_level f l) (found_by l t op c) ∙ same_level l op)
    ∙ (ap (λ r. then_read r (λ b us. again (work names m) (l == 4) l (Binary op a b) us)) (p.1 m (omega (arith, le))) ∙ each m (omega (arith, le))))

record Beginning (ts : List Token) : Type 0 where
  first : Token
  rest : List Token
  is : ts ≡ first ∷ rest
  other : same_token first (NameToken (codes "not")) ≡ false

-- an expression of level 4 begins with a token that is not `not`
begins_tighter : (names : Scope) → (l : ℕ) (ts : List Token) (e : Expr) → 3 < l → Parses names l ts e → Beginning ts
begins_tighter names l ts e tight (tighter below p) = begins_tighter names (l + 1) ts e (omega (arith, tight)) p
begins_tighter names l ts e tight (binary_of {xs = xs} {ys = ys} {t = t} {a = a} c p q is) =
    let r = begins_tighter names (left_of l) xs a (left_tight l tight) p in
    record { first = r.first; rest = r.rest ++ t ∷ ys; is = is ∙ ap (λ us. us ++ t ∷ ys) r.is; other = r.other }
begins_tighter names l ts e tight (not_of {ts = us} p) = absurd (omega (arith, tight))
begins_tighter names l ts e tight (number_of {n = n}) = record { first = NumberToken n; rest = []; is = refl; other = refl }
begins_tighter names l ts e tight (name_of {w = w} {e = a} is) =
    record { first = NameToken w; rest = []; is = refl; other = not_word names w (codes "not") a is (4, omega arith, refl) }
begins_tighter names l ts e tight (memory_of {n = n} {w = w} {us = us} c p is) =
    record { first = NameToken w; rest = SignToken (codes "[") ∷ us ++ SignToken (codes "]") ∷ []; is = is; other = load_other n w c }
begins_tighter names l ts e tight (old_of {us = us} p is) =
    record { first = NameToken (codes "old"); rest = SignToken (codes "(") ∷ us ++ SignToken (codes ")") ∷ []; is = is; other = refl }
begins_tighter names l ts e tight (all_of {w = w} {b = b} {c = c} low high {us = us} a second p q may r is) =
    record { first = NameToken (codes "all"); rest = NameToken w ∷ b ∷ c ∷ SignToken (codes "(") ∷ us ++ SignToken (codes ")") ∷ []; is = is; other = refl }
begins_tighter names l ts e tight (in_brackets {us = us} p is) =
    record { first = SignToken (codes "("); rest = us ++ SignToken (codes ")") ∷ []; is = is; other = refl }

-- what an expression is read as: itself, where something follows that may; and what is read behind it, where its level is of chains
abbrev Found : Scope → ℕ → List Token → Expr → Type 0
Found names l xs e = (rest : List Token) → Follows l rest → Ends names (Level l) (xs ++ rest) (Reads e rest)

abbrev Leads : Scope → ℕ → List Token → Expr → Type 0
Leads names l xs e = (l ≡ 3 → ⊥) → (l ≡ 4 → ⊥) → l < 11 → (rest : List Token) (r : Read) → Follows (l + 1) rest → Ends names (Behind l e) rest r →
    Ends names (Level l) (xs ++ rest) r

-- brackets
enclosed_reads : (names : Scope) (o c : Token) (f : Expr → Expr) (us rest : List Token) (a : Expr) → same_token o o ≡ true →
    same_token c c ≡ true →
    (p : Ends names (Level 1) (us ++ c ∷ rest) (Reads a (c ∷ rest))) → (m : ℕ) → p.0 ≤ m →
    opened (work names m) o c f (o ∷ (us ++ c ∷ []) ++ rest) ≡ Reads (f a) rest
enclosed_reads names o c f us rest a o_is c_is p m le =
    ap (λ b. opened_if (work names m) b c f ((us ++ c ∷ []) ++ rest)) o_is
    ∙ (ap (λ l. then_read (work names m (Level 1) l) (closed c f)) (append_assoc us (c ∷ []) rest)
    ∙ (ap (λ r. then_read r (closed c f)) (p.1 m le) ∙ ap (λ b. if b then Reads (f a) rest else Fails) c_is))

word_load : (names : Scope) (go : Task → List Token → Read) (inner : List ℕ → Task → List Token → Read) (n : ℕ) (b a : Bool) (w : List ℕ) (ts : List Token) →
    nat_lt 0 n ≡ true →
    word_at names go inner n b a w ts ≡ opened go (SignToken (codes "[")) (SignToken (codes "]")) (λ e. Memory n e) ts
word_load names go inner zero b a w ts some = absurd (let e : ⊥ = cc in e)
word_load names go inner (suc k) b a w ts some = refl

no_sizes : (a b c : Bool) → a ≡ false → b ≡ false → c ≡ false → ◌≡◌ {A = ℕ} (if a then 1 else if b then 2 else if c then 4 else 0) 0
no_sizes a b c p q r =
    ap (λ a. if a then 1 else if b then 2 else if c then 4 else 0) p ∙ (ap (λ b. if b then 2 else if c then 4 else 0) q ∙ ap (λ c. if c then 4 else 0) r)

word_named : (names : Scope) → (go : Task → List Token → Read) (inner : List ℕ → Task → List Token → Read) (w : List ℕ) (e : Expr)
    (ts : List Token) → named names w ≡ Some e →
    word_at names go inner (size_of w) (bytes_eq w (codes "old")) (names.is_second && bytes_eq w (codes "all")) w ts ≡ Reads e ts
word_named names go inner w e ts is =
    ap (λ n. word_at names go inner n (bytes_eq w (codes "old")) (names.is_second && bytes_eq w (codes "all")) w ts)
    (no_sizes _ _ _ (not_word names w (codes "mem8") e is (0, omega arith, refl)) (not_word names w (codes "mem16") e is (1, omega arith, refl))
    (not_word names w (codes "mem32") e is (2, omega arith, refl)))
    ∙ (ap (λ b. word_at names go inner 0 b (names.is_second && bytes_eq w (codes "all")) w ts) (not_word names w (codes "old") e is (3, omega arith, refl))
    ∙ (ap (λ b. word_at names go inner 0 false b w ts) (not_all names w e is) ∙ ap (λ o. named_at o ts) is))

-- level 3 over an expression of level 4
past_not : (names : Scope) (ts rest : List Token) (e : Expr) → Beginning ts → Ends names (Level 4) (ts ++ rest) (Reads e rest) →
    Ends names (Level 3) (ts ++ rest) (Reads e rest)
past_not names ts rest e b p = by_step names p.0 (Level 3) (ts ++ rest) (Reads e rest) (λ m le.
    ap (λ us. negated_at (work names m) (us ++ rest)) b.is ∙ (ap (λ o. negated_if (work names m) o b.first (b.rest ++ rest)) b.other
    ∙ (ap (λ us. work names m (Level 4) (us ++ rest)) (sym b.is) ∙ p.1 m le)))

-- an expression of a tighter level
looser_found : (names : Scope) → (l : ℕ) (ts : List Token) (e : Expr) → l < 11 → Parses names (l + 1) ts e →
    Found names (l + 1) ts e → Decided (l ≡ 3) → Found names l ts e
looser_found names l ts e below p found (inl three) rest follows =
    let up : l + 1 ≡ 4 = omega (arith, three) in
    let b = begins_tighter names (l + 1) ts e (omega (arith, up)) p in
    let q = subst (λ k. Ends names (Level k) (ts ++ rest) (Reads e rest)) up (found rest (follows_tighter l (l + 1) rest (omega arith) follows)) in
    subst (λ k. Ends names (Level k) (ts ++ rest) (Reads e rest)) (sym three) (past_not names ts rest e b q)
looser_found names l ts e below p found (inr three) rest follows =
    read_chain names l (ts ++ rest) rest e (Reads e rest) (is_chains l three below) (found rest (follows_tighter l (l + 1) rest (omega arith) follows))
    (stops_behind names l e rest follows)

looser_leads : (names : Scope) (l : ℕ) (ts : List Token) (e : Expr) → Found names (l + 1) ts e → Leads names l ts e
looser_leads names l ts e found three four below rest r follows p = read_chain names l (ts ++ rest) rest e r (is_chains l three below) (found rest follows) p

-- an operator between two expressions
pair_leads : (names : Scope) (l : ℕ) (xs ys : List Token) (t : Token) (op : Op) (a b : Expr) →
    Contains {X = ℕ × Token × Op} operators (l, t, op) →
    Leads names l xs a → Found names (l + 1) ys b → (l ≡ 4 → ⊥) → (rest : List Token) (r : Read) → Follows (l + 1) rest →
    Ends names (Behind l (Binary op a b)) rest r →
    Ends names (Level l) ((xs ++ t ∷ ys) ++ rest) r
pair_leads names l xs ys t op a b c left right four rest r follows p =
    let levels = operator_levels l t op c in
    subst (λ us. Ends names (Level l) us r) (sym (append_assoc xs (t ∷ ys) rest))
    (left (no_three l levels) four (below_eleven l levels) (t ∷ ys ++ rest) r (operator_follows (l + 1) l t op (ys ++ rest) c (omega arith))
    (is_behind names l a b t op (ys ++ rest) rest r c (right rest follows) p.0
    (λ m le. ap (λ o. again (work names m) o l (Binary op a b) rest) (is_false (l == 4) (λ e. four (grind arith))) ∙ p.1 m le)))

-- a comparison, which is not chained
comparison_found : (names : Scope) (xs ys : List Token) (t : Token) (op : Op) (a b : Expr) → Contains {X = ℕ × Token × Op} operators (4, t, op) →
    Found names 5 xs a → Found names 5 ys b → Found names 4 (xs ++ t ∷ ys) (Binary op a b)
comparison_found names xs ys t op a b c left right rest follows =
    subst (λ us. Ends names (Level 4) us (Reads (Binary op a b) rest)) (sym (append_assoc xs (t ∷ ys) rest))
    (read_chain names 4 (xs ++ (t ∷ ys ++ rest)) (t ∷ ys ++ rest) a (Reads (Binary op a b) rest) refl (left (t ∷ ys
    ++ rest) (operator_follows 5 4 t op (ys ++ rest) c (omega arith)))
    (is_behind names 4 a b t op (ys ++ rest) rest (Reads (Binary op a b) rest) c (right rest (follows_tighter 4 5 rest (omega arith) follows)) 0
    (λ m le. refl)))

pair_found : (names : Scope) (l : ℕ) (xs ys : List Token) (t : Token) (op : Op) (a b : Expr) →
    Contains {X = ℕ × Token × Op} operators (l, t, op) →
    Found names (left_of l) xs a → Leads names (left_of l) xs a → Found names (l + 1) ys b → Decided (l ≡ 4) → Found names l (xs ++ t ∷ ys) (Binary op a b)
pair_found names l xs ys t op a b c left leads right (inl four) =
    let left_4 : Found names 5 xs a = subst (λ k. Found names (left_of k) xs a) four left in
    let right_4 : Found names 5 ys b = subst (λ k. Found names (k + 1) ys b) four right in
    let c_4 = subst (λ k. Contains {X = ℕ × Token × Op} operators (k, t, op)) four c in
    subst (λ k. Found names k (xs ++ t ∷ ys) (Binary op a b)) (sym four) (comparison_found names xs ys t op a b c_4 left_4 right_4)
pair_found names l xs ys t op a b c left leads right (inr four) = λ rest follows.
    pair_leads names l xs ys t op a b c (subst (λ k. Leads names k xs a) (left_same l four) leads) right four rest (Reads (Binary op a b) rest)
    (follows_tighter l (l + 1) rest (omega arith) follows) (stops_behind names l (Binary op a b) rest follows)

-- `not` before an expression
not_found : (names : Scope) (ts : List Token) (e : Expr) → Found names 3 ts e → Found names 3 (NameToken (codes "not") ∷ ts) (Not e)
not_found names ts e found rest follows =
    let p = found rest follows in
    by_step names p.0 (Level 3) (NameToken (codes "not") ∷ ts ++ rest) (Reads (Not e) rest)
    (λ m le. ap (λ r. then_read r (λ e us. Reads (Not e) us)) (p.1 m le))

-- brackets, and what stands before them
closes_round : (ts : List Token) → Follows 1 (SignToken (codes ")") ∷ ts)
closes_round ts = inl (inl refl)

closes_square : (ts : List Token) → Follows 1 (SignToken (codes "]") ∷ ts)
closes_square ts = inl (inr refl)

bracket_found : (names : Scope) (us : List Token) (e : Expr) → Found names 1 us e →
    Found names 11 (SignToken (codes "(") ∷ us ++ SignToken (codes ")") ∷ []) e
bracket_found names us e found rest follows =
    let p = found (SignToken (codes ")") ∷ rest) (closes_round rest) in
    by_step names p.0 (Level 11) _ (Reads e rest) (λ m le. enclosed_reads names (SignToken (codes "(")) (SignToken (codes ")"))
    (λ e. e) us rest e refl refl p m le)

old_found : (names : Scope) (us : List Token) (e : Expr) → Found names 1 us e →
    Found names 11 (NameToken (codes "old") ∷ SignToken (codes "(") ∷ us ++ SignToken (codes ")") ∷ []) (Old e)
old_found names us e found rest follows =
    let p = found (SignToken (codes ")") ∷ rest) (closes_round rest) in
    by_step names p.0 (Level 11) _ (Reads (Old e) rest) (λ m le. enclosed_reads names (SignToken (codes "(")) (SignToken (codes ")"))
    (λ e. Old e) us rest e refl refl p m le)

memory_found : (names : Scope) (n : ℕ) (w : List ℕ) (us : List Token) (e : Expr) → Contains {X = ℕ × List ℕ} load_words (n, w) →
    Found names 1 us e →
    Found names 11 (NameToken w ∷ SignToken (codes "[") ∷ us ++ SignToken (codes "]") ∷ []) (Memory n e)
memory_found names n w us e c found rest follows =
    let p = found (SignToken (codes "]") ∷ rest) (closes_square rest) in
    let ts = SignToken (codes "[") ∷ (us ++ SignToken (codes "]") ∷ []) ++ rest in
    by_step names p.0 (Level 11) (NameToken w ∷ ts) (Reads (Memory n e) rest) (λ m le.
    ap (λ k. word_at names (work names m) (λ w. work (binding names w) m) k (bytes_eq w (codes "old")) (names.is_second && bytes_eq w (codes "all")) w ts) (size_is n w c)
    ∙ (word_load names (work names m) (λ w. work (binding names w) m) n (bytes_eq w (codes "old")) (names.is_second && bytes_eq w (codes "all")) w ts (a_size n w c)
    ∙ enclosed_reads names (SignToken (codes "[")) (SignToken (codes "]")) (λ e. Memory n e) us rest e refl refl p m le))

-- `all`, where its scope reads it
all_reads : (names : Scope) (w : List ℕ) (b c : Token) (low high m : ℕ) (us : List Token) (r : Read) → names.is_second ≡ true → number_at names b ≡ Some low →
    number_at names c ≡ Some high → may_bind names w low high ≡ true →
    opened (work (binding names w) m) (SignToken (codes "(")) (SignToken (codes ")")) (λ e. written_out low high e) us ≡ r →
    step names (work names m) (λ w. work (binding names w) m) (Level 11) (NameToken (codes "all") ∷ NameToken w ∷ b ∷ c ∷ us) ≡ r
all_reads names w b c low high m us r second p q may is =
    ap (λ x. word_at names (work names m) (λ w. work (binding names w) m) 0 false (x && true) (codes "all") (NameToken w ∷ b ∷ c ∷ us)) second
    ∙ (ap (λ x. all_with names (work (binding names w) m) w x (number_at names c) us) p
    ∙ (ap (λ x. all_with names (work (binding names w) m) w (Some low) x us) q ∙ (ap (λ x. all_if (work (binding names w) m) x low high us) may ∙ is)))

all_found : (names : Scope) (w : List ℕ) (b c : Token) (low high : ℕ) (us : List Token) (e : Expr) → names.is_second ≡ true → number_at names b ≡ Some low →
    number_at names c ≡ Some high → may_bind names w low high ≡ true → Found (binding names w) 1 us e →
    Found names 11 (NameToken (codes "all") ∷ NameToken w ∷ b ∷ c ∷ SignToken (codes "(") ∷ us ++ SignToken (codes ")") ∷ []) (written_out low high e)
all_found names w b c low high us e second n1 n2 may found rest follows =
    let p = found (SignToken (codes ")") ∷ rest) (closes_round rest) in
    by_step names p.0 (Level 11) _ (Reads (written_out low high e) rest) (λ m le.
    all_reads names w b c low high m _ (Reads (written_out low high e) rest) second n1 n2 may
    (enclosed_reads (binding names w) (SignToken (codes "(")) (SignToken (codes ")")) (λ e. written_out low high e) us rest e refl refl p m le))

or_true : (a b : Bool) → b ≡ true → (a || b) ≡ true
or_true true b h = refl
or_true false b h = h

-- each expression is read, where something follows that may
abbrev Both : Scope → ℕ → List Token → Expr → Type 0
Both names l ts e = Found names l ts e × Leads names l ts e

tightest : (names : Scope) (ts : List Token) (e : Expr) → Found names 11 ts e → Both names 11 ts e
tightest names ts e found = (found, λ three four below. absurd (omega (arith, below)))

complete : (names : Scope) → (l : ℕ) (ts : List Token) (e : Expr) → Parses names l ts e → Both names l ts e
complete names l ts e (tighter below p) =
    let q = complete names (l + 1) ts e p in (looser_found names l ts e below p q.0 (same_number l 3), looser_leads names l ts e q.0)
complete names l ts e (binary_of {xs = xs} {ys = ys} {t = t} {op = op} {a = a} {b = b} c p q is) =
    let r = complete names (left_of l) xs a p in let s = complete names (l + 1) ys b q in (
      subst (λ us. Found names l us (Binary op a b)) (sym is) (pair_found names l xs ys t op a b c r.0 r.1 s.0 (same_number l 4)),
      λ three four below rest out follows next. subst (λ us. Ends names (Level l) (us ++ rest) out) (sym is)
          (pair_leads names l xs ys t op a b c (subst (λ k. Leads names k xs a) (left_same l four) r.1) s.0 four rest out follows next),
    )
complete names l ts e (not_of {ts = us} {e = a} p) = let q = complete names 3 us a p
    in (not_found names us a q.0, λ three four below. absurd (three refl))
complete names l ts e (number_of {n = n}) =
    tightest names (NumberToken n ∷ []) (Number n) (λ rest follows. by_step names 0 (Level 11) (NumberToken n ∷ rest) (Reads (Number n) rest) (λ m le. refl))
complete names l ts e (name_of {w = w} {e = a} is) =
    tightest names (NameToken w ∷ []) a (λ rest follows. by_step names 0 (Level 11) (NameToken w ∷ rest) (Reads a rest)
    (λ m le. word_named names (work names m) (λ w. work (binding names w) m) w a rest is))
complete names l ts e (memory_of {n = n} {w = w} {us = us} {e = a} c p is) =
    tightest names ts (Memory n a) (subst (λ vs. Found names 11 vs (Memory n a)) (sym is) (memory_found names n w us a c (complete names 1 us a p).0))
complete names l ts e (old_of {us = us} {e = a} p is) =
    tightest names ts (Old a) (subst (λ vs. Found names 11 vs (Old a)) (sym is) (old_found names us a (complete names 1 us a p).0))
complete names l ts e (all_of {w = w} {b = b} {c = c} low high {us = us} a second n1 n2 may p is) =
    tightest names ts (written_out low high a) (subst (λ vs. Found names 11 vs (written_out low high a)) (sym is)
    (all_found names w b c low high us a second n1 n2 may (complete (binding names w) 1 us a p).0))
complete names l ts e (in_brackets {us = us} {e = a} p is) =
    tightest names ts a (subst (λ vs. Found names 11 vs a) (sym is) (bracket_found names us a (complete names 1 us a p).0))

-- what is read stays so with more steps
abbrev Keeps : Read → Read → Type 0
Keeps r s = (r ≡ Unready → ⊥) → s ≡ r

abbrev Refines : (Task → List Token → Read) → (Task → List Token → Read) → Type 0
Refines go more = (task : Task) (ts : List Token) → Keeps (go task ts) (more task ts)

keeps_then : (r s : Read) (f g : Expr → List Token → Read) → Keeps r s → ((e : Expr) (ts : List Token) → Keeps (f e ts) (g e ts)) →
    Keeps (then_read r f) (then_read s g)
keeps_then Unready s f g p q some = absurd (some refl)
keeps_then Fails s f g p q some = ap (λ r. then_read r g) (p (λ e. cc))
keeps_then (Reads e ts) s f g p q some = ap (λ r. then_read r g) (p (λ e. cc)) ∙ q e ts some

keeps_opened_if : (go more : Task → List Token → Read) → Refines go more → (b : Bool) (c : Token) (f : Expr → Expr) (ts : List Token) →
    Keeps (opened_if go b c f ts) (opened_if more b c f ts)
keeps_opened_if go more p true c f ts = keeps_then (go (Level 1) ts) (more (Level 1) ts) (closed c f) (closed c f) (p (Level 1) ts) (λ e us some. refl)
keeps_opened_if go more p false c f ts = λ some. refl

keeps_opened : (go more : Task → List Token → Read) → Refines go more → (o c : Token) (f : Expr → Expr) (ts : List Token) →
    Keeps (opened go o c f ts) (opened more o c f ts)
keeps_opened go more p o c f [] = λ some. refl
keeps_opened go more p o c f (t ∷ ts) = keeps_opened_if go more p (same_token t o) c f ts

abbrev RefinesInner : (inner more : List ℕ → Task → List Token → Read) → Type 0
RefinesInner inner more = (w : List ℕ) → Refines (inner w) (more w)

keeps_all_if : (go more : Task → List Token → Read) → Refines go more → (b : Bool) (low high : ℕ) (ts : List Token) →
    Keeps (all_if go b low high ts) (all_if more b low high ts)
keeps_all_if go more p true low high ts = keeps_opened go more p (SignToken (codes "(")) (SignToken (codes ")")) (λ e. written_out low high e) ts
keeps_all_if go more p false low high ts = λ some. refl

keeps_all_with : (names : Scope) (go more : Task → List Token → Read) → Refines go more → (w : List ℕ) (low high : Option ℕ) (ts : List Token) →
    Keeps (all_with names go w low high ts) (all_with names more w low high ts)
keeps_all_with names go more p w (Some low) (Some high) ts = keeps_all_if go more p (may_bind names w low high) low high ts
keeps_all_with names go more p w (Some low) None ts = λ some. refl
keeps_all_with names go more p w None high ts = λ some. refl

keeps_all_numbers : (names : Scope) (go more : Task → List Token → Read) → Refines go more → (w : List ℕ) (ts : List Token) →
    Keeps (all_numbers names go w ts) (all_numbers names more w ts)
keeps_all_numbers names go more p w [] = λ some. refl
keeps_all_numbers names go more p w (b ∷ []) = λ some. refl
keeps_all_numbers names go more p w (b ∷ c ∷ ts) = keeps_all_with names go more p w (number_at names b) (number_at names c) ts

keeps_all : (names : Scope) (inner more : List ℕ → Task → List Token → Read) → RefinesInner inner more → (ts : List Token) →
    Keeps (all_at names inner ts) (all_at names more ts)
keeps_all names inner more p [] = λ some. refl
keeps_all names inner more p (NameToken w ∷ ts) = keeps_all_numbers names (inner w) (more w) (p w) w ts
keeps_all names inner more p (NumberToken n ∷ ts) = λ some. refl
keeps_all names inner more p (SignToken w ∷ ts) = λ some. refl
keeps_all names inner more p (BadByte ∷ ts) = λ some. refl
keeps_all names inner more p (BadText ∷ ts) = λ some. refl

keeps_word : (names : Scope) (go more : Task → List Token → Read) (inner within : List ℕ → Task → List Token → Read) → Refines go more →
    RefinesInner inner within → (n : ℕ) (b a : Bool) (w : List ℕ) (ts : List Token) →
    Keeps (word_at names go inner n b a w ts) (word_at names more within n b a w ts)
keeps_word names go more inner within p q zero false false w ts = λ some. refl
keeps_word names go more inner within p q zero false true w ts = keeps_all names inner within q ts
keeps_word names go more inner within p q zero true a w ts = keeps_opened go more p (SignToken (codes "(")) (SignToken (codes ")")) (λ e. Old e) ts
keeps_word names go more inner within p q (suc k) b a w ts = keeps_opened go more p (SignToken (codes "[")) (SignToken (codes "]")) (λ e. Memory (suc k) e) ts

keeps_atom : (names : Scope) (go more : Task → List Token → Read) (inner within : List ℕ → Task → List Token → Read) → Refines go more →
    RefinesInner inner within → (ts : List Token) → Keeps (atom_at names go inner ts) (atom_at names more within ts)
keeps_atom names go more inner within p q [] = λ some. refl
keeps_atom names go more inner within p q (NumberToken n ∷ ts) = λ some. refl
keeps_atom names go more inner within p q (NameToken w ∷ ts) =
    keeps_word names go more inner within p q (size_of w) (bytes_eq w (codes "old")) (names.is_second && bytes_eq w (codes "all")) w ts
keeps_atom names go more inner within p q (SignToken s ∷ ts) = keeps_opened go more p (SignToken (codes "(")) (SignToken (codes ")")) (λ e. e) (SignToken s ∷ ts)
keeps_atom names go more inner within p q (BadByte ∷ ts) = λ some. refl
keeps_atom names go more inner within p q (BadText ∷ ts) = λ some. refl

keeps_negated_if : (go more : Task → List Token → Read) → Refines go more → (b : Bool) (t : Token) (ts : List Token) →
    Keeps (negated_if go b t ts) (negated_if more b t ts)
keeps_negated_if go more p true t ts = keeps_then (go (Level 3) ts) (more (Level 3) ts) _ _ (p (Level 3) ts) (λ e us some. refl)
keeps_negated_if go more p false t ts = p (Level 4) (t ∷ ts)

keeps_negated : (go more : Task → List Token → Read) → Refines go more → (ts : List Token) → Keeps (negated_at go ts) (negated_at more ts)
keeps_negated go more p [] = λ some. refl
keeps_negated go more p (t ∷ ts) = keeps_negated_if go more p (same_token t (NameToken (codes "not"))) t ts

keeps_level : (names : Scope) (go more : Task → List Token → Read) (inner within : List ℕ → Task → List Token → Read) → Refines go more →
    RefinesInner inner within → (s : Sort) (l : ℕ) (ts : List Token) → Keeps (level_at names go inner s l ts) (level_at names more within s l ts)
keeps_level names go more inner within p q Negation l ts = keeps_negated go more p ts
keeps_level names go more inner within p q Tightest l ts = keeps_atom names go more inner within p q ts
keeps_level names go more inner within p q NoLevel l ts = λ some. refl
keeps_level names go more inner within p q Chains l ts =
    keeps_then (go (Level (l + 1)) ts) (more (Level (l + 1)) ts) _ _ (p (Level (l + 1)) ts) (λ a us. p (Behind l a) us)

keeps_again : (go more : Task → List Token → Read) → Refines go more → (b : Bool) (l : ℕ) (a : Expr) (ts : List Token) →
    Keeps (again go b l a ts) (again more b l a ts)
keeps_again go more p true l a ts = λ some. refl
keeps_again go more p false l a ts = p (Behind l a) ts

keeps_by : (go more : Task → List Token → Read) → Refines go more → (l : ℕ) (a : Expr) (o : Option Op) (t : Token) (ts : List Token) →
    Keeps (behind_by go l a o t ts) (behind_by more l a o t ts)
keeps_by go more p l a None t ts = λ some. refl
keeps_by go more p l a (Some op) t ts =
    keeps_then (go (Level (l + 1)) ts) (more (Level (l + 1)) ts) _ _ (p (Level (l + 1)) ts) (λ b us. keeps_again go more p (l == 4) l (Binary op a b) us)

keeps_behind : (go more : Task → List Token → Read) → Refines go more → (l : ℕ) (a : Expr) (ts : List Token) →
    Keeps (behind_at go l a ts) (behind_at more l a ts)
keeps_behind go more p l a [] = λ some. refl
keeps_behind go more p l a (t ∷ ts) = keeps_by go more p l a (of_level (line_of operators t) l) t ts

keeps_step : (names : Scope) (go more : Task → List Token → Read) (inner within : List ℕ → Task → List Token → Read) → Refines go more →
    RefinesInner inner within → Refines (step names go inner) (step names more within)
keeps_step names go more inner within p q (Level l) ts = keeps_level names go more inner within p q (sort l) l ts
keeps_step names go more inner within p q (Behind l a) ts = keeps_behind go more p l a ts

one_more_step : (names : Scope) (n : ℕ) → Refines (work names n) (work names (suc n))
one_more_step names zero task ts some = absurd (some refl)
one_more_step names (suc n) task ts some =
    keeps_step names (work names n) (work names (suc n)) (λ w. work (binding names w) n) (λ w. work (binding names w) (suc n)) (one_more_step names n)
    (λ w. one_more_step (binding names w) n) task ts some

settled : (names : Scope) (n k : ℕ) (task : Task) (ts : List Token) → Keeps (work names n task ts) (work names (k + n) task ts)
settled names n zero task ts some = ap (λ m. work names m task ts) (zero-add n)
settled names n (suc k) task ts some =
    let before = settled names n k task ts some in
    let up = one_more_step names (k + n) task ts (λ e. some (sym before ∙ e)) in
    ap (λ m. work names m task ts) (suc-add k n) ∙ (up ∙ before)

-- what is read is what the tokens are
pub reads_all : (names : Scope) → (n : ℕ) (ts : List Token) (e : Expr) → is_ready (work names n (Level 1) ts) ≡ true →
    Parses names 1 ts e →
    all_read (work names n (Level 1) ts) ≡ Some e
reads_all names n ts e ready p =
    let q = (complete names 1 ts e p).0 [] tt in
    let late : work names (q.0 + n) (Level 1) ts ≡ Reads e [] = ap
    (λ us. work names (q.0 + n) (Level 1) us) (sym (append-nil ts)) ∙ q.1 (q.0 + n) (omega arith) in
    let early = settled names n q.0 (Level 1) ts (λ e. let b : false ≡ true = sym (ap is_ready e) ∙ ready in cc) in
    ap all_read (sym early ∙ late)

-- tokens that are read as nothing are no expression
pub no_expression : (names : Scope) → (n : ℕ) (ts : List Token) → is_ready (work names n (Level 1) ts) ≡ true →
    all_read (work names n (Level 1) ts) ≡ None →
    (e : Expr) → Parses names 1 ts e → ⊥
no_expression names n ts ready none e p = none_some Expr e (sym none ∙ reads_all names n ts e ready p)

-- what is read at last is one thing
one_reading : (names : Scope) (task : Task) (ts : List Token) (r s : Read) → Ends names task ts r → Ends names task ts s → r ≡ s
one_reading names task ts r s p q = sym (p.1 (max p.0 q.0) (omega arith)) ∙ q.1 (max p.0 q.0) (omega arith)

-- tokens begin with one expression of a level at most that something may follow
pub one_beginning : (names : Scope) → (l : ℕ) (xs rest vs more : List Token) (e f : Expr) → Parses names l xs e →
    Parses names l vs f →
    Follows l rest → Follows l more → xs ++ rest ≡ vs ++ more → (xs ≡ vs) × (rest ≡ more) × (e ≡ f)
one_beginning names l xs rest vs more e f p q follows others is =
    let r = one_reading names (Level l) (vs ++ more) (Reads e rest) (Reads f more)
    (subst (λ us. Ends names (Level l) us (Reads e rest)) is ((complete names l xs e p).0 rest follows))
    ((complete names l vs f q).0 more others) in
    let rest_is : rest ≡ more = cc in
    let e_is : e ≡ f = cc in
    (append_cancel_right xs vs more (ap (λ us. xs ++ us) (sym rest_is) ∙ is), rest_is, e_is)

-- tokens are one expression at most
pub one_expression : (names : Scope) → (l : ℕ) (ts : List Token) (e f : Expr) → Parses names l ts e → Parses names l ts f →
    e ≡ f
one_expression names l ts e f p q = (one_beginning names l ts [] ts [] e f p q tt tt refl).2
