-- Tokens that are numbers, registers and flags, or an expression and a number.
use Rattle.std.proofs.Common.{◌≡◌, ◌==◌, true, false, ℕ, zero, suc, ◌<◌, refl, ap, arith, sym, ◌∙◌, List, [], ◌∷◌, ◌++◌, Option, Some, None, length, get_or, take, ◌+◌, add-one, codes, subst, map, Vec, Global}
use Rattle.std.proofs.lemmas.List.{map_push, same_from_push}
use Rattle.notes_spec.specs.Scopes.{Scope, Changed}
use Rattle.word_spec.specs.Tokens.{Token, NumberToken, NameToken, SignToken, BadByte, BadText}
use Rattle.bilv_spec.specs.Notes.{Expr}
use Rattle.notes_spec.specs.NotesGrammar.{number_at, AreNumbers, AreChanged, IsGood, MayFrame, Parses, IsSaid, ModifiesAre, WritesAre}
use Rattle.bilv_spec.proofs.Decided.{none_some}
use Rattle.line_tokens.specs.declared.lexer.Token as code
use Rattle.line_tokens.specs.Tokens.{token_of}
use Rattle.notes_lang.specs.Reading.{AreGood, tokens_view}
use Rattle.notes_lang.proofs.Whole.{none_of}
use Rattle.notes_lang.specs.declared.scopes.Changed.{Changed as CodeChanged}
use Rattle.notes_lang.specs.Scoping.{changed_at, changed_of}
use Rattle.notes_lang.specs.Saying.{BeginsWith, IsOne, IsAddressed, IsCounted, Tells}
use Rattle.notes_value.specs.Views.{expr_of}
use Rattle.notes_value.specs.declared.expressions.Expr.{Expr as CodeExpr}

-- one token is none
pub not_numbers : (s : Scope) (ts : List code.Token) (i : ℕ) (d : code.Token) → i < length ts → None ≡ number_at s (token_of (get_or ts i d)) → (ns : List ℕ) →
    AreNumbers s (tokens_view ts) ns → ⊥
not_numbers s [] i d below none ns are = omega (arith, below)
not_numbers s (t ∷ ts) i d below none [] are = are
not_numbers s (t ∷ ts) zero d below none (n ∷ ns) are = none_some ℕ n (none ∙ are.0)
not_numbers s (t ∷ ts) (suc i) d below none (n ∷ ns) are = not_numbers s ts i d (omega (arith, below)) none ns are.1

-- one more number
pub numbers_and : (s : Scope) (ts : List Token) (t : Token) (ns : List ℕ) (n : ℕ) → AreNumbers s ts ns → Some n ≡ number_at s t →
    AreNumbers s (ts ++ t ∷ []) (ns ++ n ∷ [])
numbers_and s [] t [] n are is = (sym is, tt)
numbers_and s [] t (m ∷ ns) n are is = absurd are
numbers_and s (u ∷ ts) t [] n are is = absurd are
numbers_and s (u ∷ ts) t (m ∷ ns) n are is = (are.0, numbers_and s ts t ns n are.1 is)

-- each token of good ones is good
pub good_at : (ts : List code.Token) (i : ℕ) (d : code.Token) → i < length ts → AreGood ts → AreGood (get_or ts i d ∷ [])
good_at [] i d below good = absurd (omega (arith, below))
good_at (t ∷ ts) zero d below good = (good.0, tt)
good_at (t ∷ ts) (suc i) d below good = good_at ts i d (omega (arith, below)) good.1

-- the number with which tokens begin
pub no_first : (s : Scope) (ts : List Token) → ts ≡ [] → (p : ℕ × List Token) → BeginsWith s ts p → ⊥
no_first s ts none p (t, is, n) = let b : ⊥ = cc in b

pub no_number : (s : Scope) (t : Token) (ts us : List Token) → ts ≡ t ∷ us → number_at s t ≡ None → (p : ℕ × List Token) → BeginsWith s ts p → ⊥
no_number s t ts us is none p (u, begins, n) = let same : u ≡ t = cc in none_some ℕ p.0 (sym none ∙ (ap (number_at s) (sym same) ∙ n))

pub a_number : (s : Scope) (t : Token) (ts us : List Token) (n : ℕ) → ts ≡ t ∷ us → number_at s t ≡ Some n → BeginsWith s ts (n, us)
a_number s t ts us n is some = (t, is, some)

-- and whether it is all of them
pub none_one : (s : Scope) (ts : List Token) → ((p : ℕ × List Token) → BeginsWith s ts p → ⊥) → (n : ℕ) → IsOne s ts n → ⊥
none_one s ts none n one = none (n, []) one

pub more_than_one : (s : Scope) (ts : List Token) (n : ℕ) (rest : List code.Token) → 0 < length rest → BeginsWith s ts (n, tokens_view rest) → (m : ℕ) →
    IsOne s ts m → ⊥
more_than_one s ts n [] more begins m one = omega (arith, more)
more_than_one s ts n (r ∷ rest) more (t, is, p) m (u, one, q) = let b : ⊥ = cc in b

pub one_exactly : (s : Scope) (ts : List Token) (n : ℕ) (rest : List code.Token) → length rest ≡ 0 → BeginsWith s ts (n, tokens_view rest) → IsOne s ts n
one_exactly s ts n [] none begins = begins
one_exactly s ts n (r ∷ rest) none begins = absurd (omega (arith, none))

-- two numbers that are all of the tokens
pub both_numbers : (s : Scope) (ts us : List Token) (low high : ℕ) → BeginsWith s ts (low, us) → IsOne s us high →
    (t u : Token) × (ts ≡ t ∷ u ∷ []) × (number_at s t ≡ Some low) × (number_at s u ≡ Some high)
both_numbers s ts us low high (t, is, p) (u, one, q) = (t, u, is ∙ ap (λ l. t ∷ l) one, p, q)

pub same_rest : (s : Scope) (ts us vs : List Token) (m n : ℕ) → BeginsWith s ts (m, us) → BeginsWith s ts (n, vs) → us ≡ vs
same_rest s ts us vs m n (t, is, p) (u, other, q) = cc

-- the numbers of the tokens so far, and of one more
numbers_suc : (s : Scope) (ts : List code.Token) (i : ℕ) (d : code.Token) (ns : List ℕ) (n : ℕ) → i < length ts → AreNumbers s (tokens_view (take i ts)) ns →
    Some n ≡ number_at s (token_of (get_or ts i d)) → AreNumbers s (tokens_view (take (suc i) ts)) (ns ++ n ∷ [])
numbers_suc s [] i d ns n below are is = absurd (omega (arith, below))
numbers_suc s (t ∷ ts) zero d [] n below are is = (sym is, tt)
numbers_suc s (t ∷ ts) zero d (m ∷ ns) n below are is = absurd are
numbers_suc s (t ∷ ts) (suc i) d [] n below are is = absurd are
numbers_suc s (t ∷ ts) (suc i) d (m ∷ ns) n below are is = (are.0, numbers_suc s ts i d ns n (omega (arith, below)) are.1 is)

pub numbers_next : (s : Scope) (ts : List code.Token) (i : ℕ) (d : code.Token) (ns ms : List ℕ) (n : ℕ) → i < length ts →
    AreNumbers s (tokens_view (take i ts)) ns → Some n ≡ number_at s (token_of (get_or ts i d)) → ms ≡ ns ++ n ∷ [] →
    AreNumbers s (tokens_view (take (i + 1) ts)) ms
numbers_next s ts i d ns ms n below are is ms_are =
    subst (AreNumbers s (tokens_view (take (i + 1) ts))) (sym ms_are)
    (subst (λ k. AreNumbers s (tokens_view (take k ts)) (ns ++ n ∷ [])) (sym (add-one i)) (numbers_suc s ts i d ns n below are is))

one_list : (s : Scope) (ts : List Token) (ns ms : List ℕ) → AreNumbers s ts ns → AreNumbers s ts ms → length ns ≡ length ms
one_list s [] [] [] p q = refl
one_list s [] [] (m ∷ ms) p q = absurd q
one_list s [] (n ∷ ns) ms p q = absurd p
one_list s (t ∷ ts) [] ms p q = absurd p
one_list s (t ∷ ts) (n ∷ ns) [] p q = absurd q
one_list s (t ∷ ts) (n ∷ ns) (m ∷ ms) p q = ap suc (one_list s ts ns ms p.1 q.1)

-- no numbers stand behind the first
pub none_behind : (s : Scope) (ts us vs : List Token) (m n : ℕ) (ns to : List ℕ) → BeginsWith s ts (m, us) → AreNumbers s us ns → length ns ≡ 0 →
    BeginsWith s ts (n, vs) → AreNumbers s vs to → 0 < length to → ⊥
none_behind s ts us vs m n ns to p are none q others some =
    let same = same_rest s ts us vs m n p q in
    let count = one_list s vs ns to (subst (λ l. AreNumbers s l ns) same are) others in
    omega (arith, count, none, some)

pub numbers_told : (s : Scope) (ts : List Token) (o : Option (Vec ℕ Global)) (v : Vec ℕ Global) → Tells (λ (v : Vec ℕ Global). v.items) (AreNumbers s ts) o →
    o ≡ Some v → AreNumbers s ts v.items
numbers_told s ts o v tells some = subst (λ o. Tells (λ (v : Vec ℕ Global). v.items) (AreNumbers s ts) o) some tells

-- registers and flags, token by token
changed_first : (s : Scope) (t : Token) (ts : List Token) (c : Changed) (cs : List Changed) → AreChanged s (t ∷ ts) (c ∷ cs) →
    (changed_at s t ≡ Some c) × AreChanged s ts cs
changed_first s (NameToken w) ts c cs are = are
changed_first s (NumberToken n) ts c cs are = absurd are
changed_first s (SignToken w) ts c cs are = absurd are
changed_first s BadByte ts c cs are = absurd are
changed_first s BadText ts c cs are = absurd are

changed_cons : (s : Scope) (t : Token) (ts : List Token) (c : Changed) (cs : List Changed) → Some c ≡ changed_at s t → AreChanged s ts cs →
    AreChanged s (t ∷ ts) (c ∷ cs)
changed_cons s (NameToken w) ts c cs is are = (sym is, are)
changed_cons s (NumberToken n) ts c cs is are = absurd (none_some Changed c (sym is))
changed_cons s (SignToken w) ts c cs is are = absurd (none_some Changed c (sym is))
changed_cons s BadByte ts c cs is are = absurd (none_some Changed c (sym is))
changed_cons s BadText ts c cs is are = absurd (none_some Changed c (sym is))

changed_none : (s : Scope) (t : Token) (ts : List Token) → AreChanged s (t ∷ ts) [] → ⊥
changed_none s (NameToken w) ts are = are
changed_none s (NumberToken n) ts are = are
changed_none s (SignToken w) ts are = are
changed_none s BadByte ts are = are
changed_none s BadText ts are = are

pub not_changed : (s : Scope) (ts : List code.Token) (i : ℕ) (d : code.Token) → i < length ts → None ≡ changed_at s (token_of (get_or ts i d)) →
    (cs : List Changed) → AreChanged s (tokens_view ts) cs → ⊥
not_changed s [] i d below none cs are = omega (arith, below)
not_changed s (t ∷ ts) i d below none [] are = changed_none s (token_of t) (tokens_view ts) are
not_changed s (t ∷ ts) zero d below none (c ∷ cs) are =
    none_some Changed c (none ∙ (changed_first s (token_of t) (tokens_view ts) c cs are).0)
not_changed s (t ∷ ts) (suc i) d below none (c ∷ cs) are =
    not_changed s ts i d (omega (arith, below)) none cs (changed_first s (token_of t) (tokens_view ts) c cs are).1

-- one more register or flag
changed_suc : (s : Scope) (ts : List code.Token) (i : ℕ) (d : code.Token) (cs : List Changed) (c : Changed) → i < length ts →
    AreChanged s (tokens_view (take i ts)) cs → Some c ≡ changed_at s (token_of (get_or ts i d)) → AreChanged s (tokens_view (take (suc i) ts)) (cs ++ c ∷ [])
changed_suc s [] i d cs c below are is = absurd (omega (arith, below))
changed_suc s (t ∷ ts) zero d [] c below are is = changed_cons s (token_of t) [] c [] is tt
changed_suc s (t ∷ ts) zero d (b ∷ cs) c below are is = absurd are
changed_suc s (t ∷ ts) (suc i) d [] c below are is = absurd (changed_none s (token_of t) (tokens_view (take i ts)) are)
changed_suc s (t ∷ ts) (suc i) d (b ∷ cs) c below are is =
    let first = changed_first s (token_of t) (tokens_view (take i ts)) b cs are in
    changed_cons s (token_of t) (tokens_view (take (suc i) ts)) b (cs ++ c ∷ []) (sym first.0) (changed_suc s ts i d cs c (omega (arith, below)) first.1 is)

pub changed_next : (s : Scope) (ts : List code.Token) (i : ℕ) (d : code.Token) (xs ys : List CodeChanged) (x : CodeChanged) → i < length ts →
    AreChanged s (tokens_view (take i ts)) (map changed_of xs) → Some (changed_of x) ≡ changed_at s (token_of (get_or ts i d)) → ys ≡ xs ++ x ∷ [] →
    AreChanged s (tokens_view (take (i + 1) ts)) (map changed_of ys)
changed_next s ts i d xs ys x below are is ys_are =
    subst (AreChanged s (tokens_view (take (i + 1) ts))) (sym (ap (map changed_of) ys_are ∙ map_push changed_of xs x))
    (subst (λ k. AreChanged s (tokens_view (take k ts)) (map changed_of xs ++ changed_of x ∷ [])) (sym (add-one i))
    (changed_suc s ts i d (map changed_of xs) (changed_of x) below are is))

same_count : (s : Scope) (ts : List Token) (cs ds : List Changed) → AreChanged s ts cs → AreChanged s ts ds → length cs ≡ length ds
same_count s [] [] [] p q = refl
same_count s [] [] (d ∷ ds) p q = absurd q
same_count s [] (c ∷ cs) ds p q = absurd p
same_count s (t ∷ ts) [] ds p q = absurd (changed_none s t ts p)
same_count s (t ∷ ts) (c ∷ cs) [] p q = absurd (changed_none s t ts q)
same_count s (t ∷ ts) (c ∷ cs) (d ∷ ds) p q = ap suc (same_count s ts cs ds (changed_first s t ts c cs p).1 (changed_first s t ts d ds q).1)

-- none stand behind the first number
pub none_changed : (s : Scope) (ts us vs : List Token) (m n : ℕ) (cs ds : List Changed) → BeginsWith s ts (m, us) → AreChanged s us cs → length cs ≡ 0 →
    BeginsWith s ts (n, vs) → AreChanged s vs ds → 0 < length ds → ⊥
none_changed s ts us vs m n cs ds p are none q others some =
    let same = same_rest s ts us vs m n p q in
    let count = same_count s vs cs ds (subst (λ l. AreChanged s l cs) same are) others in
    omega (arith, count, none, some)

pub changes_told : (s : Scope) (ts : List Token) (o : Option (Vec CodeChanged Global)) (v : Vec CodeChanged Global) →
    Tells (λ (v : Vec CodeChanged Global). map changed_of v.items) (AreChanged s ts) o → o ≡ Some v → AreChanged s ts (map changed_of v.items)
changes_told s ts o v tells some = subst (λ o. Tells (λ (v : Vec CodeChanged Global). map changed_of v.items) (AreChanged s ts) o) some tells

pub a_change_line : (s : Scope) (ts us : List Token) (a : ℕ) (cs : List Changed) → BeginsWith s ts (a, us) → AreChanged s us cs → 0 < length cs → MayFrame s →
    IsSaid s (NameToken (codes "modifies") ∷ ts) (ModifiesAre a cs)
a_change_line s ts us a cs (t, is, n) are some may = (t, us, ap (λ l. NameToken (codes "modifies") ∷ l) is, n, are, some, may)

-- an expression, and the number behind it
pub good_ends : (ts us : List code.Token) (u : code.Token) → AreGood ts → ts ≡ us ++ u ∷ [] → AreGood us × IsGood (token_of u)
good_ends ts us u good is = parts us (subst AreGood is good) where
  parts : (us : List code.Token) → AreGood (us ++ u ∷ []) → AreGood us × IsGood (token_of u)
  parts [] good = (tt, good.0)
  parts (v ∷ us) good = let r = parts us good.1 in ((good.0, r.0), r.1)

pub counts_nothing : (s : Scope) (ts : List code.Token) → length ts ≡ 0 → (p : Expr × ℕ) → IsCounted s (tokens_view ts) p → ⊥
counts_nothing s [] none p (us, u, is, q, k) = no_end us is where
  no_end : (us : List Token) → [] ≡ us ++ u ∷ [] → ⊥
  no_end [] is = let b : ⊥ = cc in b
  no_end (v ∷ us) is = let b : ⊥ = cc in b
counts_nothing s (t ∷ ts) none p c = omega (arith, none)

pub end_is : (ts us : List code.Token) (u : code.Token) → ts ≡ us ++ u ∷ [] → tokens_view ts ≡ tokens_view us ++ token_of u ∷ []
end_is ts us u is = ap tokens_view is ∙ map_push token_of us u

pub counts_no_number : (s : Scope) (ts us : List code.Token) (u : code.Token) → ts ≡ us ++ u ∷ [] → None ≡ number_at s (token_of u) → (p : Expr × ℕ) →
    IsCounted s (tokens_view ts) p → ⊥
counts_no_number s ts us u is none p (vs, v, other, q, k) =
    let same = same_from_push (tokens_view us) vs (token_of u) v (sym (end_is ts us u is) ∙ other) in
    none_some ℕ p.1 (none ∙ (ap (number_at s) same.1 ∙ k))

pub counts_no_value : (s : Scope) (ts us : List code.Token) (u : code.Token) → ts ≡ us ++ u ∷ [] → ((e : Expr) → Parses s 1 (tokens_view us) e → ⊥) →
    (p : Expr × ℕ) → IsCounted s (tokens_view ts) p → ⊥
counts_no_value s ts us u is none p (vs, v, other, q, k) =
    let same = same_from_push (tokens_view us) vs (token_of u) v (sym (end_is ts us u is) ∙ other) in
    none p.0 (subst (λ l. Parses s 1 l p.0) (sym same.0) q)

pub counted : (s : Scope) (ts us : List code.Token) (u : code.Token) (e : Expr) (n : ℕ) → ts ≡ us ++ u ∷ [] → Some n ≡ number_at s (token_of u) →
    Parses s 1 (tokens_view us) e → IsCounted s (tokens_view ts) (e, n)
counted s ts us u e n is k q = (tokens_view us, token_of u, end_is ts us u is, q, sym k)

pub a_write_line : (s : Scope) (ts vs : List Token) (a : ℕ) (e : Expr) (n : ℕ) → BeginsWith s ts (a, vs) → IsCounted s vs (e, n) → MayFrame s →
    IsSaid s (NameToken (codes "writes") ∷ ts) (WritesAre a e n)
a_write_line s ts vs a e n (t, is, m) (us, u, end, q, k) may =
    (t, u, us, ap (λ l. NameToken (codes "writes") ∷ l) (is ∙ ap (λ l. t ∷ l) end), m, q, k, may)

pub no_count_told : (s : Scope) (ts : List Token) (o : Option (CodeExpr × ℕ)) → Tells (λ (p : CodeExpr × ℕ). (expr_of p.0, p.1)) (IsCounted s ts) o →
    o ≡ None → (p : Expr × ℕ) → IsCounted s ts p → ⊥
no_count_told s ts o tells none = subst (λ o. Tells (λ (p : CodeExpr × ℕ). (expr_of p.0, p.1)) (IsCounted s ts) o) none tells

pub count_told : (s : Scope) (ts : List Token) (o : Option (CodeExpr × ℕ)) (x : CodeExpr × ℕ) →
    Tells (λ (p : CodeExpr × ℕ). (expr_of p.0, p.1)) (IsCounted s ts) o → o ≡ Some x → IsCounted s ts (expr_of x.0, x.1)
count_told s ts o x tells some = subst (λ o. Tells (λ (p : CodeExpr × ℕ). (expr_of p.0, p.1)) (IsCounted s ts) o) some tells

-- what is told of an expression
pub told_no_expression : (s : Scope) (ts : List Token) (o : Option CodeExpr) → Tells expr_of (λ e. Parses s 1 ts e) o → o ≡ None → (e : Expr) →
    Parses s 1 ts e → ⊥
told_no_expression s ts o tells none = subst (λ o. Tells expr_of (λ e. Parses s 1 ts e) o) none tells

pub told_expression : (s : Scope) (ts : List Token) (o : Option CodeExpr) (x : CodeExpr) → Tells expr_of (λ e. Parses s 1 ts e) o → o ≡ Some x →
    Parses s 1 ts (expr_of x)
told_expression s ts o x tells some = subst (λ o. Tells expr_of (λ e. Parses s 1 ts e) o) some tells

-- an address, and an expression behind it
pub no_address : (s : Scope) (ts : List Token) → ((p : ℕ × List Token) → BeginsWith s ts p → ⊥) → (p : ℕ × Expr) → IsAddressed s ts p → ⊥
no_address s ts none p (t, us, is, n, q) = none (p.0, us) (t, is, n)

pub no_value_behind : (s : Scope) (ts vs : List Token) (a : ℕ) (o : Option CodeExpr) → BeginsWith s ts (a, vs) → Tells expr_of (λ e. Parses s 1 vs e) o →
    o ≡ None → (p : ℕ × Expr) → IsAddressed s ts p → ⊥
no_value_behind s ts vs a o begins tells none p (t, us, is, n, q) =
    told_no_expression s vs o tells none p.1 (subst (λ l. Parses s 1 l p.1) (same_rest s ts us vs p.0 a (t, is, n) begins) q)

pub an_address : (s : Scope) (ts vs : List Token) (a : ℕ) (o : Option CodeExpr) (x : CodeExpr) → BeginsWith s ts (a, vs) →
    Tells expr_of (λ e. Parses s 1 vs e) o → o ≡ Some x → IsAddressed s ts (a, expr_of x)
an_address s ts vs a o x (t, is, n) tells some = (t, vs, is, n, told_expression s vs o x tells some)

pub unaddressed : (s : Scope) (ts : List Token) (o : Option (ℕ × CodeExpr)) → Tells (λ (p : ℕ × CodeExpr). (p.0, expr_of p.1)) (IsAddressed s ts) o →
    o ≡ None → (p : ℕ × Expr) → IsAddressed s ts p → ⊥
unaddressed s ts o tells none = subst (λ o. Tells (λ (p : ℕ × CodeExpr). (p.0, expr_of p.1)) (IsAddressed s ts) o) none tells

pub addressed : (s : Scope) (ts : List Token) (o : Option (ℕ × CodeExpr)) (x : ℕ × CodeExpr) →
    Tells (λ (p : ℕ × CodeExpr). (p.0, expr_of p.1)) (IsAddressed s ts) o → o ≡ Some x → IsAddressed s ts (x.0, expr_of x.1)
addressed s ts o x tells some = subst (λ o. Tells (λ (p : ℕ × CodeExpr). (p.0, expr_of p.1)) (IsAddressed s ts) o) some tells

-- whether registers or flags are named
pub no_changes : (xs : List CodeChanged) → (length xs == 0) ≡ true → length (map changed_of xs) ≡ 0
no_changes [] is = refl
no_changes (x ∷ xs) is = absurd (let none = none_of (length (x ∷ xs)) true (sym is) refl in omega (arith, none))

pub some_changes : (xs : List CodeChanged) → (length xs == 0) ≡ false → 0 < length (map changed_of xs)
some_changes [] is = absurd (let b : ⊥ = cc in b)
some_changes (x ∷ xs) is = omega arith

pub no_changes_behind : (s : Scope) (ts us vs : List Token) (n a : ℕ) (cs : List Changed) (o : Option (Vec CodeChanged Global)) → BeginsWith s ts (n, us) →
    BeginsWith s ts (a, vs) → Tells (λ (v : Vec CodeChanged Global). map changed_of v.items) (AreChanged s vs) o → o ≡ None → AreChanged s us cs → ⊥
no_changes_behind s ts us vs n a cs o p q tells none are =
    let nothing : (cs : List Changed) → AreChanged s vs cs → ⊥ =
    subst (λ o. Tells (λ (v : Vec CodeChanged Global). map changed_of v.items) (AreChanged s vs) o) none tells in
    nothing cs (subst (λ l. AreChanged s l cs) (same_rest s ts us vs n a p q) are)
