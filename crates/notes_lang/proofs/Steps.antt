-- Steps of the definition's parser, as the functions that read take them.
use Rattle.std.proofs.Common.{◌≡◌, ◌≢◌, ℕ, suc, ◌<◌, ◌≤◌, ◌+◌, max, refl, ap, sym, ◌∙◌, subst, arith, List, [], ◌∷◌, Option, Some, None, Bool, true, false, if◌then◌else◌, codes, bytes_eq, length, drop, nat_lt, ◌==◌, ◌++◌, map}
use Rattle.bilv_spec.specs.Notes.{Op, Expr, Memory, Old, Binary, written_out}
use Rattle.word_spec.specs.Tokens.{Token, NameToken, SignToken}
use Rattle.notes_spec.specs.NotesGrammar.{number_at}
use Rattle.notes_spec.specs.Scopes.{Scope, binding, may_bind}
use Rattle.notes_spec.proofs.NotesTables.{is_false, same_token, same_token_is, size_of}
use Rattle.notes_spec.proofs.NotesParser.{Task, Level, Behind, Read, Fails, Reads, then_read, opened_if, opened, all_at, all_with, all_if, word_at, atom_at, negated_at, Sort, Negation, Tightest, Chains, NoLevel, sort, level_at, again, behind_by, work, Ends, by_step}
use Rattle.line_tokens.specs.declared.lexer.Token as code
use Rattle.line_tokens.specs.Tokens.{token_of}
use Rattle.notes_lang.specs.declared.parser.Reading.{Reading}
use Rattle.notes_value.specs.declared.expressions.Size.{Size}
use Rattle.notes_value.specs.declared.expressions.Size.TheVariants.{Byte, Half, Word}
use Rattle.notes_value.specs.Views.{bytes_of, expr_of}
use Rattle.notes_lang.specs.Reading.{Settles, AreGood, IsEnclosed, IsLeft, IsHead, begins, is_all_word, operator_at, read_as, read_of, tokens_view, within}
use Rattle.notes_lang.specs.declared.parser.AllHead.{AllHead}
use Rattle.notes_lang.specs.declared.scopes.Scope as code_scope
use Rattle.notes_lang.specs.Scoping.{scope_of, text_of}
use Rattle.std.specs.Borrow.{Bor}
use Rattle.std.proofs.lemmas.List.{map-append}

-- how the tokens of one level are read, as far as they were: what is read behind the expression so far is what is read of all
pub record Chained (names : Scope) (l : ℕ) (ts : List code.Token) (a : Expr) (rest : List code.Token) : Type 0 where
  pub follows : (r : Read) → Ends names (Behind l a) (tokens_view rest) r → Ends names (Level l) (tokens_view ts) r
  pub shorter : length rest < length ts
  pub good : AreGood rest

module _ (names : Scope) where
  -- a level by its sort
  chains_by : (a b c : Bool) → a ≡ false → b ≡ false → c ≡ true →
      ◌≡◌ {A = Sort} (if a then Negation else if b then Tightest else if c then Chains else NoLevel) Chains
  chains_by a b c p q r =
      ap (λ a. if a then Negation else if b then Tightest else if c then Chains else NoLevel) p
      ∙ (ap (λ b. if b then Tightest else if c then Chains else NoLevel) q ∙ ap (λ c. if c then Chains else NoLevel) r)

  is_chains : (l : ℕ) → l ≢ 3 → l < 11 → sort l ≡ Chains
  is_chains l three below =
      chains_by (l == 3) (l == 11) (nat_lt l 11) (is_false _ (λ e. three (grind arith))) (is_false _ (λ e. grind arith)) (grind arith)

  by_level : (s : Sort) (l : ℕ) (ts : List Token) (r : Read) → sort l ≡ s → Settles (λ m. level_at names (work names m) (within names m) s l ts) r →
      Ends names (Level l) ts r
  by_level s l ts r is p = by_step names p.0 (Level l) ts r (λ m le. ap (λ s. level_at names (work names m) (within names m) s l ts) is ∙ p.1 m le)

  pub negation_level : (ts : List Token) (r : Read) → Settles (λ m. negated_at (work names m) ts) r → Ends names (Level 3) ts r
  negation_level ts r p = by_level Negation 3 ts r refl p

  pub atom_level : (ts : List Token) (r : Read) → Settles (λ m. atom_at names (work names m) (within names m) ts) r → Ends names (Level 11) ts r
  atom_level ts r p = by_level Tightest 11 ts r refl p

  -- the first operand of a level
  pub first_fails : (l : ℕ) (ts : List Token) → l ≢ 3 → l < 11 → Ends names (Level (l + 1)) ts Fails → Ends names (Level l) ts Fails
  first_fails l ts three below p =
      by_level Chains l ts Fails (is_chains l three below) (p.0, λ m le. ap (λ r. then_read r (λ a us. work names m (Behind l a) us)) (p.1 m le))

  pub first_reads : (l : ℕ) (ts us : List Token) (a : Expr) → l ≢ 3 → l < 11 → Ends names (Level (l + 1)) ts (Reads a us) → (r : Read) →
      Ends names (Behind l a) us r → Ends names (Level l) ts r
  first_reads l ts us a three below p r q =
      by_level Chains l ts r (is_chains l three below)
      (max p.0 q.0, λ m le. ap (λ r. then_read r (λ a us. work names m (Behind l a) us)) (p.1 m (omega (arith, le))) ∙ q.1 m (omega (arith, le)))

  -- behind an expression
  pub none_behind : (l : ℕ) (a : Expr) (ts : List Token) → operator_at l ts ≡ None → Ends names (Behind l a) ts (Reads a ts)
  none_behind l a [] is = by_step names 0 (Behind l a) [] (Reads a []) (λ m le. refl)
  none_behind l a (t ∷ ts) is = by_step names 0 (Behind l a) (t ∷ ts) (Reads a (t ∷ ts)) (λ m le. ap (λ o. behind_by (work names m) l a o t ts) is)

  pub operand_fails : (l : ℕ) (a : Expr) (op : Op) (ts : List Token) → operator_at l ts ≡ Some op → Ends names (Level (l + 1)) (drop 1 ts) Fails →
      Ends names (Behind l a) ts Fails
  operand_fails l a op [] is p = absurd (let b : ⊥ = cc in b)
  operand_fails l a op (t ∷ ts) is p = by_step names p.0 (Behind l a) (t ∷ ts) Fails (λ m le.
      ap (λ o. behind_by (work names m) l a o t ts) is ∙ ap (λ r. then_read r (λ b us. again (work names m) (l == 4) l (Binary op a b) us)) (p.1 m le))

  operand_by : (l : ℕ) (a b : Expr) (op : Op) (ts us : List Token) (r : Read) → operator_at l ts ≡ Some op →
      Ends names (Level (l + 1)) (drop 1 ts) (Reads b us) →
      Settles (λ m. again (work names m) (l == 4) l (Binary op a b) us) r → Ends names (Behind l a) ts r
  operand_by l a b op [] us r is p q = absurd (let b : ⊥ = cc in b)
  operand_by l a b op (t ∷ ts) us r is p q = by_step names (max p.0 q.0) (Behind l a) (t ∷ ts) r (λ m le.
      ap (λ o. behind_by (work names m) l a o t ts) is
      ∙ (ap (λ r. then_read r (λ b us. again (work names m) (l == 4) l (Binary op a b) us)) (p.1 m (omega (arith, le))) ∙ q.1 m (omega (arith, le))))

  pub operand_last : (l : ℕ) (a b : Expr) (op : Op) (ts us : List Token) → l ≡ 4 → operator_at l ts ≡ Some op →
      Ends names (Level (l + 1)) (drop 1 ts) (Reads b us) →
      Ends names (Behind l a) ts (Reads (Binary op a b) us)
  operand_last l a b op ts us four is p =
      operand_by l a b op ts us (Reads (Binary op a b) us) is p (
        0,
        λ m le. let e : (l == 4)
            ≡ true = grind arith in ap (λ c. again (work names m) c l (Binary op a b) us) e,
      )

  pub operand_reads : (l : ℕ) (a b : Expr) (op : Op) (ts us : List Token) → l ≢ 4 → operator_at l ts ≡ Some op →
      Ends names (Level (l + 1)) (drop 1 ts) (Reads b us) →
      (r : Read) → Ends names (Behind l (Binary op a b)) us r → Ends names (Behind l a) ts r
  operand_reads l a b op ts us other is p r q =
      operand_by l a b op ts us r is p (
        q.0,
        λ m le. ap (λ c. again (work names m) c l (Binary op a b) us) (is_false (l == 4)
            (λ e. other (grind arith))) ∙ q.1 m le,
      )

  -- the word of a load, or `old`, with its brackets
  bracket_reads : (o c : Token) (f : Expr → Expr) (ts : List code.Token) (r : Option Reading) → true ≡ begins o (tokens_view ts) →
      IsEnclosed names c (tokens_view (drop 1 ts)) r →
      Settles (λ m. opened (work names m) o c f (tokens_view ts)) (read_as f r)
  bracket_reads o c f [] r is p = absurd (let b : ⊥ = cc in b)
  bracket_reads o c f (t ∷ ts) r is p = ((p f).0, λ m le. ap (λ b. opened_if (work names m) b c f (tokens_view ts)) (sym is) ∙ (p f).1 m le)

  load_by : (k : ℕ) (b c : Bool) (w : List ℕ) (ts : List code.Token) (r : Option Reading) → suc k ≡ size_of w →
      true ≡ begins (SignToken (codes "[")) (tokens_view ts) →
      IsEnclosed names (SignToken (codes "]")) (tokens_view (drop 1 ts)) r →
      Settles (λ m. word_at names (work names m) (within names m) (size_of w) b c w (tokens_view ts)) (read_as (λ e. Memory (suc k) e) r)
  load_by k b c w ts r size is p =
      let q = bracket_reads (SignToken (codes "[")) (SignToken (codes "]")) (λ e. Memory (suc k) e) ts r is p in
      (q.0, λ m le. ap (λ n. word_at names (work names m) (within names m) n b c w (tokens_view ts)) (sym size) ∙ q.1 m le)

  load_of : (size : Size) (b c : Bool) (w : List ℕ) (ts : List code.Token) (r : Option Reading) → bytes_of size ≡ size_of w →
      true ≡ begins (SignToken (codes "[")) (tokens_view ts) →
      IsEnclosed names (SignToken (codes "]")) (tokens_view (drop 1 ts)) r →
      Settles (λ m. word_at names (work names m) (within names m) (size_of w) b c w (tokens_view ts)) (read_as (λ e. Memory (bytes_of size) e) r)
  load_of Byte b c w ts r = load_by 0 b c w ts r
  load_of Half b c w ts r = load_by 1 b c w ts r
  load_of Word b c w ts r = load_by 3 b c w ts r

  pub load_none : (size : Size) (b c : Bool) (w : List ℕ) (ts behind : List code.Token) (r : Option Reading) → bytes_of size ≡ size_of w →
      true ≡ begins (SignToken (codes "[")) (tokens_view ts) → behind ≡ drop 1 ts →
      IsEnclosed names (SignToken (codes "]")) (tokens_view behind) r → r ≡ None →
      Settles (λ m. word_at names (work names m) (within names m) (size_of w) b c w (tokens_view ts)) Fails
  load_none size b c w ts behind r is opens behind_is p none =
      subst (λ r. Settles (λ m. word_at names (work names m) (within names m) (size_of w) b c w (tokens_view ts)) (read_as (λ e. Memory (bytes_of size) e) r))
      none
      (load_of size b c w ts r is opens (subst (λ us. IsEnclosed names (SignToken (codes "]")) (tokens_view us) r) behind_is p))

  pub load_some : (size : Size) (b c : Bool) (w : List ℕ) (ts behind : List code.Token) (r : Option Reading) (s : Reading) (x : Expr) →
      bytes_of size ≡ size_of w → true ≡ begins (SignToken (codes "[")) (tokens_view ts) →
      behind ≡ drop 1 ts → IsEnclosed names (SignToken (codes "]")) (tokens_view behind) r → r ≡ Some s → x ≡ expr_of s.expr →
      Settles (λ m. word_at names (work names m) (within names m) (size_of w) b c w (tokens_view ts))
      (Reads (Memory (bytes_of size) x) (tokens_view s.rest.now))
  load_some size b c w ts behind r s x is opens behind_is p some x_is =
      subst (λ x. Settles (λ m. word_at names (work names m) (within names m) (size_of w) b c w (tokens_view ts))
      (Reads (Memory (bytes_of size) x) (tokens_view s.rest.now)))
      (sym x_is)
      (subst (λ r. Settles (λ m. word_at names (work names m) (within names m) (size_of w) b c w (tokens_view ts)) (read_as (λ e. Memory (bytes_of size) e) r))
      some
      (load_of size b c w ts r is opens (subst (λ us. IsEnclosed names (SignToken (codes "]")) (tokens_view us) r) behind_is p)))

  old_of : (w : List ℕ) (ts behind : List code.Token) (r : Option Reading) → 0 ≡ size_of w → true ≡ bytes_eq w (codes "old") →
      true ≡ begins (SignToken (codes "(")) (tokens_view ts) → behind ≡ drop 1 ts →
      IsEnclosed names (SignToken (codes ")")) (tokens_view behind) r →
      Settles (λ m. word_at names (work names m) (within names m) (size_of w) (bytes_eq w (codes "old")) (is_all_word names.is_second w) w (tokens_view ts))
      (read_as (λ e. Old e) r)
  old_of w ts behind r size old opens behind_is p =
      let q = bracket_reads (SignToken (codes "(")) (SignToken (codes ")"))
      (λ e. Old e) ts r opens (subst (λ us. IsEnclosed names (SignToken (codes ")")) (tokens_view us) r) behind_is p) in (
        q.0,
        λ m le. ap (λ n. word_at names (work names m) (within names m) n (bytes_eq w (codes "old")) (is_all_word names.is_second w) w (tokens_view ts))
            (sym size) ∙ (ap
            (λ b. word_at names (work names m) (within names m) 0 b (is_all_word names.is_second w) w (tokens_view ts)) (sym old) ∙ q.1 m le),
      )

  pub old_none : (w : List ℕ) (ts behind : List code.Token) (r : Option Reading) → 0 ≡ size_of w → true ≡ bytes_eq w (codes "old") →
      true ≡ begins (SignToken (codes "(")) (tokens_view ts) → behind ≡ drop 1 ts →
      IsEnclosed names (SignToken (codes ")")) (tokens_view behind) r → r ≡ None →
      Settles (λ m. word_at names (work names m) (within names m) (size_of w) (bytes_eq w (codes "old")) (is_all_word names.is_second w) w (tokens_view ts))
      Fails
  old_none w ts behind r size old opens behind_is p none =
      subst (λ r. Settles (λ m. word_at names (work names m) (within names m) (size_of w) (bytes_eq w (codes "old")) (is_all_word names.is_second w) w
      (tokens_view ts)) (read_as (λ e. Old e) r)) none
      (old_of w ts behind r size old opens behind_is p)

  pub old_some : (w : List ℕ) (ts behind : List code.Token) (r : Option Reading) (s : Reading) (x : Expr) → 0 ≡ size_of w → true ≡ bytes_eq w (codes "old") →
      true ≡ begins (SignToken (codes "(")) (tokens_view ts) →
      behind ≡ drop 1 ts → IsEnclosed names (SignToken (codes ")")) (tokens_view behind) r → r ≡ Some s → x ≡ expr_of s.expr →
      Settles (λ m. word_at names (work names m) (within names m) (size_of w) (bytes_eq w (codes "old")) (is_all_word names.is_second w) w (tokens_view ts))
      (Reads (Old x) (tokens_view s.rest.now))
  old_some w ts behind r s x size old opens behind_is p some x_is =
      subst (λ x. Settles (λ m. word_at names (work names m) (within names m) (size_of w) (bytes_eq w (codes "old")) (is_all_word names.is_second w) w
      (tokens_view ts))
      (Reads (Old x) (tokens_view s.rest.now))) (sym x_is)
      (subst (λ r. Settles (λ m. word_at names (work names m) (within names m) (size_of w) (bytes_eq w (codes "old")) (is_all_word names.is_second w) w
      (tokens_view ts)) (read_as (λ e. Old e) r)) some
      (old_of w ts behind r size old opens behind_is p))

  -- a word that begins an `all`
  pub all_word : (w : List ℕ) (ts : List Token) (r : Read) → 0 ≡ size_of w → false ≡ bytes_eq w (codes "old") → true ≡ is_all_word names.is_second w →
      Settles (λ m. all_at names (within names m) ts) r →
      Settles (λ m. word_at names (work names m) (within names m) (size_of w) (bytes_eq w (codes "old")) (is_all_word names.is_second w) w ts) r
  all_word w ts r size old all p = (
    p.0,
    λ m le.
        ap (λ n. word_at names (work names m) (within names m) n (bytes_eq w (codes "old")) (is_all_word names.is_second w) w ts) (sym size)
        ∙ (ap (λ b. word_at names (work names m) (within names m) 0 b (is_all_word names.is_second w) w ts) (sym old)
        ∙ (ap (λ c. word_at names (work names m) (within names m) 0 false c w ts) (sym all) ∙ p.1 m le)),
  )

  -- what begins as no `all`
  pub all_none : (ts : List Token) (o : Option AllHead) → IsHead names ts o → o ≡ None → Settles (λ m. all_at names (within names m) ts) Fails
  all_none ts o p none = let h : IsHead names ts None = subst (IsHead names ts) none p in (0, λ m le. h (within names m))

  -- the bracket of an `all` and what is behind it
  all_open : (ts : List Token) (h : AllHead) (r : Option Reading) → IsHead names ts (Some h) →
      IsEnclosed (binding names h.word.now) (SignToken (codes ")")) (tokens_view h.rest.now) r →
      Settles (λ m. all_at names (within names m) ts) (read_as (λ e. written_out h.low h.high e) r)
  all_open ts h r (b, c, is, low, high, may) p =
      let us = SignToken (codes "(") ∷ tokens_view h.rest.now in
      let q = p (λ e. written_out h.low h.high e) in (
        q.0,
        λ m le.
            ap (all_at names (within names m)) is
            ∙ (ap (λ o. all_with names (within names m h.word.now) h.word.now o (number_at names c) us) low
            ∙ (ap (λ o. all_with names (within names m h.word.now) h.word.now (Some h.low) o us) high
            ∙ (ap (λ t. all_if (within names m h.word.now) t h.low h.high us) may ∙ q.1 m le))),
      )

  pub all_failed : (ts : List Token) (o : Option AllHead) (h : AllHead) (inner : Scope) (r : Option Reading) → IsHead names ts o → o ≡ Some h →
      inner ≡ binding names h.word.now → IsEnclosed inner (SignToken (codes ")")) (tokens_view h.rest.now) r → r ≡ None →
      Settles (λ m. all_at names (within names m) ts) Fails
  all_failed ts o h inner r p some inner_is q none =
      subst (λ r. Settles (λ m. all_at names (within names m) ts) (read_as (λ e. written_out h.low h.high e) r)) none
      (all_open ts h r (subst (IsHead names ts) some p) (subst (λ s. IsEnclosed s (SignToken (codes ")")) (tokens_view h.rest.now) r) inner_is q))

  pub all_read : (ts : List Token) (o : Option AllHead) (h : AllHead) (inner : Scope) (r : Option Reading) (s : Reading) (x : Expr) → IsHead names ts o →
      o ≡ Some h → inner ≡ binding names h.word.now → IsEnclosed inner (SignToken (codes ")")) (tokens_view h.rest.now) r → r ≡ Some s → x ≡ expr_of s.expr →
      Settles (λ m. all_at names (within names m) ts) (Reads (written_out h.low h.high x) (tokens_view s.rest.now))
  all_read ts o h inner r s x p some inner_is q one x_is =
      subst (λ x. Settles (λ m. all_at names (within names m) ts) (Reads (written_out h.low h.high x) (tokens_view s.rest.now))) (sym x_is)
      (subst (λ r. Settles (λ m. all_at names (within names m) ts) (read_as (λ e. written_out h.low h.high e) r)) one
      (all_open ts h r (subst (IsHead names ts) some p) (subst (λ s. IsEnclosed s (SignToken (codes ")")) (tokens_view h.rest.now) r) inner_is q)))

  -- what stands alone or in brackets
  pub name_atom : (first : code.Token) (ts rest : List code.Token) (w : List ℕ) (r : Read) → ts ≡ first ∷ rest → token_of first ≡ NameToken w →
      Settles (λ m. word_at names (work names m) (within names m) (size_of w) (bytes_eq w (codes "old")) (is_all_word names.is_second w) w (tokens_view rest))
      r →
      Settles (λ m. atom_at names (work names m) (within names m) (tokens_view ts)) r
  name_atom first ts rest w r is name p =
      let t_is : tokens_view ts ≡ NameToken w ∷ tokens_view rest = ap tokens_view is ∙ ap (λ t. t ∷ tokens_view rest) name in
      (p.0, λ m le. ap (λ us. atom_at names (work names m) (within names m) us) t_is ∙ p.1 m le)

  as_itself : (o : Option Reading) → read_as (λ e. e) o ≡ read_of o
  as_itself None = refl
  as_itself (Some r) = refl

  pub bracket_atom : (first : code.Token) (ts rest : List code.Token) (s : List ℕ) (b : Bool) (o : Option Reading) → ts ≡ first ∷ rest →
      token_of first ≡ SignToken s → b ≡ true →
      b ≡ same_token (token_of first) (SignToken (codes "(")) → IsEnclosed names (SignToken (codes ")")) (tokens_view rest) o →
      Settles (λ m. atom_at names (work names m) (within names m) (tokens_view ts)) (read_of o)
  bracket_atom first ts rest s b o is sign true_is opens p =
      let t_is : tokens_view ts ≡ SignToken s ∷ tokens_view rest = ap tokens_view is ∙ ap (λ t. t ∷ tokens_view rest) sign in
      let same : same_token (SignToken s) (SignToken (codes "(")) ≡ true = ap (λ t. same_token t (SignToken (codes "("))) (sym sign) ∙ (sym opens ∙ true_is) in
      let q = p (λ e. e) in (
        q.0,
        λ m le. ap (λ us. atom_at names (work names m) (within names m) us) t_is
            ∙ (ap (λ b. opened_if (work names m) b (SignToken (codes ")")) (λ e. e) (tokens_view rest)) same ∙ (q.1 m le ∙ as_itself o)),
      )

  -- a level, by what was read of it
  pub negation_read : (l : ℕ) (ts : List Token) (r : Read) → l ≡ 3 → Settles (λ m. negated_at (work names m) ts) r → Ends names (Level l) ts r
  negation_read l ts r is p = subst (λ k. Ends names (Level k) ts r) (sym is) (negation_level ts r p)

  pub atom_read : (l : ℕ) (ts : List Token) (r : Read) → l ≡ 11 → Settles (λ m. atom_at names (work names m) (within names m) ts) r → Ends names (Level l) ts r
  atom_read l ts r is p = subst (λ k. Ends names (Level k) ts r) (sym is) (atom_level ts r p)

  pub first_none : (l : ℕ) (ts : List code.Token) (o : Option Reading) → l ≢ 3 → l < 11 → o ≡ None → Ends names (Level (l + 1)) (tokens_view ts) (read_of o) →
      Ends names (Level l) (tokens_view ts) Fails
  first_none l ts o three below none p = first_fails l (tokens_view ts) three below (subst
      (λ o. Ends names (Level (l + 1)) (tokens_view ts) (read_of o)) none p)

  pub first_some : (l : ℕ) (ts : List code.Token) (o : Option Reading) (r : Reading) → l ≢ 3 → l < 11 → o ≡ Some r →
      Ends names (Level (l + 1)) (tokens_view ts) (read_of o) → IsLeft ts o →
      Chained names l ts (expr_of r.expr) r.rest.now
  first_some l ts o r three below some p left =
      let q = subst (λ o. Ends names (Level (l + 1)) (tokens_view ts) (read_of o)) some p in
      let s : IsLeft ts (Some r) = subst (IsLeft ts) some left in
      record { follows = first_reads l (tokens_view ts) (tokens_view r.rest.now) (expr_of r.expr) three below q; shorter = s.0; good = s.1 }

  view_drop : (ts : List code.Token) → tokens_view (drop 1 ts) ≡ drop 1 (tokens_view ts)
  view_drop [] = refl
  view_drop (t ∷ ts) = refl

  -- what is read behind an operator
  operand : (l : ℕ) (rest behind : List code.Token) (o : Option Reading) → behind ≡ drop 1 rest → Ends names (Level (l + 1)) (tokens_view behind) (read_of o) →
      Ends names (Level (l + 1)) (drop 1 (tokens_view rest)) (read_of o)
  operand l rest behind o is p = subst (λ us. Ends names (Level (l + 1)) us (read_of o)) (ap tokens_view is ∙ view_drop rest) p

  pub right_none : (l : ℕ) (ts rest behind : List code.Token) (a : Expr) (op : Op) (o : Option Reading) → Chained names l ts a rest →
      Some op ≡ operator_at l (tokens_view rest) → behind ≡ drop 1 rest → o ≡ None →
      Ends names (Level (l + 1)) (tokens_view behind) (read_of o) → Ends names (Level l) (tokens_view ts) Fails
  right_none l ts rest behind a op o c op_is is none p =
      c.follows Fails (operand_fails l a op (tokens_view rest) (sym op_is) (subst
      (λ o. Ends names (Level (l + 1)) (drop 1 (tokens_view rest)) (read_of o)) none (operand l rest behind o is p)))

  pub right_last : (l : ℕ) (ts rest behind : List code.Token) (a z : Expr) (op : Op) (o : Option Reading) (r : Reading) → Chained names l ts a rest →
      Some op ≡ operator_at l (tokens_view rest) → behind ≡ drop 1 rest →
      o ≡ Some r → Ends names (Level (l + 1)) (tokens_view behind) (read_of o) → z ≡ Binary op a (expr_of r.expr) → l ≡ 4 →
      Ends names (Level l) (tokens_view ts) (Reads z (tokens_view r.rest.now))
  right_last l ts rest behind a z op o r c op_is is some p z_is four =
      let q = subst (λ o. Ends names (Level (l + 1)) (drop 1 (tokens_view rest)) (read_of o)) some (operand l rest behind o is p) in
      let whole = c.follows (Reads (Binary op a (expr_of r.expr)) (tokens_view r.rest.now))
      (operand_last l a (expr_of r.expr) op (tokens_view rest) (tokens_view r.rest.now) four (sym op_is) q) in
      subst (λ z. Ends names (Level l) (tokens_view ts) (Reads z (tokens_view r.rest.now))) (sym z_is) whole

  drop_shorter : (ts : List code.Token) → length (drop 1 ts) ≤ length ts
  drop_shorter [] = omega arith
  drop_shorter (t ∷ ts) = omega arith

  pub right_some : (l : ℕ) (ts rest behind : List code.Token) (a z : Expr) (op : Op) (o : Option Reading) (r : Reading) → Chained names l ts a rest →
      Some op ≡ operator_at l (tokens_view rest) → behind ≡ drop 1 rest →
      o ≡ Some r → Ends names (Level (l + 1)) (tokens_view behind) (read_of o) → IsLeft behind o → z ≡ Binary op a (expr_of r.expr) → l ≢ 4 →
      Chained names l ts z r.rest.now
  right_some l ts rest behind a z op o r c op_is is some p left z_is other =
      let q = subst (λ o. Ends names (Level (l + 1)) (drop 1 (tokens_view rest)) (read_of o)) some (operand l rest behind o is p) in
      let s : IsLeft behind (Some r) = subst (IsLeft behind) some left in
      let n : length behind ≡ length (drop 1 rest) = ap length is in
      let m = drop_shorter rest in
      let whole : Chained names l ts (Binary op a (expr_of r.expr)) r.rest.now = record {
        follows = λ read e. c.follows read (operand_reads l a (expr_of r.expr) op (tokens_view rest) (tokens_view r.rest.now) other (sym op_is) q read e);
        shorter = omega (arith, s.0, n, m, c.shorter);
        good = s.1;
      } in
      subst (λ z. Chained names l ts z r.rest.now) (sym z_is) whole

  pub chain_ends : (l : ℕ) (ts rest : List code.Token) (a : Expr) → Chained names l ts a rest → None ≡ operator_at l (tokens_view rest) →
      Ends names (Level l) (tokens_view ts) (Reads a (tokens_view rest))
  chain_ends l ts rest a c none = c.follows (Reads a (tokens_view rest)) (none_behind l a (tokens_view rest) (sym none))

-- one more name that is bound
pub bound_more : (s : code_scope.Scope) (bs : List (Bor (List ℕ))) (w : Bor (List ℕ)) → bs ≡ s.bound.now ++ w ∷ [] →
    record (scope_of s) { bound = map text_of bs } ≡ binding (scope_of s) w.now
bound_more s bs w is = ap (λ l. record (scope_of s) { bound = l }) (ap (map text_of) is ∙ map-append text_of s.bound.now (w ∷ []))

-- the name and the numbers of an `all`, but no bracket
pub no_bracket : (s : Scope) (first second third : code.Token) (ts one two three : List code.Token) (w : List ℕ) (low high : ℕ) (b : Bool) →
    ts ≡ first ∷ one → token_of first ≡ NameToken w → one ≡ second ∷ two → two ≡ third ∷ three → Some low ≡ number_at s (token_of second) →
    Some high ≡ number_at s (token_of third) → b ≡ may_bind s w low high → b ≡ true → false ≡ begins (SignToken (codes "(")) (tokens_view three) →
    (inner : List ℕ → Task → List Token → Read) → all_at s inner (tokens_view ts) ≡ Fails
no_bracket s first second third ts one two three w low high b p name q r lows highs may yes_it_may none inner =
    ap (all_at s inner) (ap tokens_view p ∙ (ap (λ t. t ∷ tokens_view one) name ∙ ap (λ l. NameToken w ∷ tokens_view l) (q ∙ ap (λ l. second ∷ l) r)))
    ∙ (ap (λ o. all_with s (inner w) w o (number_at s (token_of third)) (tokens_view three)) (sym lows)
    ∙ (ap (λ o. all_with s (inner w) w (Some low) o (tokens_view three)) (sym highs)
    ∙ (ap (λ t. all_if (inner w) t low high (tokens_view three)) (sym may ∙ yes_it_may) ∙ unopened (inner w) low high three none))) where
      unopened : (go : Task → List Token → Read) (low high : ℕ) (three : List code.Token) → false ≡ begins (SignToken (codes "(")) (tokens_view three) →
          all_if go true low high (tokens_view three) ≡ Fails
      unopened go low high [] none = refl
      unopened go low high (t ∷ ts) none = ap (λ b. opened_if go b (SignToken (codes ")")) (λ e. written_out low high e) (tokens_view ts)) (sym none)

same_tokens : (t u : Token) → true ≡ same_token t u → t ≡ u
same_tokens t u same = same_token_is t u (sym same)

pub a_head : (s : Scope) (first second third : code.Token) (ts one two three rest : List code.Token) (w : List ℕ) (low high : ℕ) (b : Bool) →
    ts ≡ first ∷ one → token_of first ≡ NameToken w → one ≡ second ∷ two → two ≡ third ∷ three → Some low ≡ number_at s (token_of second) →
    Some high ≡ number_at s (token_of third) → b ≡ may_bind s w low high → b ≡ true → true ≡ begins (SignToken (codes "(")) (tokens_view three) →
    rest ≡ drop 1 three →
    (x y : Token) × (tokens_view ts ≡ NameToken w ∷ x ∷ y ∷ SignToken (codes "(") ∷ tokens_view rest) × (number_at s x ≡ Some low) ×
    (number_at s y ≡ Some high) × (may_bind s w low high ≡ true)
a_head s first second third ts one two [] rest w low high b p name q r lows highs may yes_it_may opens rest_is = absurd (let b : ⊥ = cc in b)
a_head s first second third ts one two (t ∷ three) rest w low high b p name q r lows highs may yes_it_may opens rest_is = (
  token_of second,
  token_of third,
  ap tokens_view p ∙ (ap (λ t. t ∷ tokens_view one) name ∙ (ap (λ l. NameToken w ∷ tokens_view l) (q ∙ ap (λ l. second ∷ l) r)
      ∙ (ap (λ t. NameToken w ∷ token_of second ∷ token_of third ∷ t ∷ tokens_view three) (same_tokens (token_of t) (SignToken (codes "(")) opens)
      ∙ ap (λ l. NameToken w ∷ token_of second ∷ token_of third ∷ SignToken (codes "(") ∷ tokens_view l) (sym rest_is)))),
  sym lows,
  sym highs,
  sym may ∙ yes_it_may,
)

pub head_rest : (first second third : code.Token) (ts one two three rest : List code.Token) → AreGood ts → ts ≡ first ∷ one → one ≡ second ∷ two →
    two ≡ third ∷ three → rest ≡ drop 1 three → (length rest < length ts) × AreGood rest
head_rest first second third ts one two three rest good p q r rest_is =
    let g : AreGood (first ∷ second ∷ third ∷ three) = subst AreGood (p ∙ ap (λ l. first ∷ l) (q ∙ ap (λ l. second ∷ l) r)) good in
    let n : length ts ≡ suc (suc (suc (length three))) = ap length (p ∙ ap (λ l. first ∷ l) (q ∙ ap (λ l. second ∷ l) r)) in
    let m = drop_less three in
    let k : length rest ≡ length (drop 1 three) = ap length rest_is in
    (omega (arith, n, m, k), subst AreGood (sym rest_is) (good_drop three g.1.1.1)) where
      drop_less : (ts : List code.Token) → length (drop 1 ts) ≤ length ts
      drop_less [] = omega arith
      drop_less (t ∷ ts) = omega arith

      good_drop : (ts : List code.Token) → AreGood ts → AreGood (drop 1 ts)
      good_drop [] good = tt
      good_drop (t ∷ ts) good = good.1
