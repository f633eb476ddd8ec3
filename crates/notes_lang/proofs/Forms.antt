-- What lines cannot say, by their word.
use Rattle.std.proofs.Common.{◌≡◌, ℕ, zero, suc, ◌<◌, refl, sym, ap, subst, arith, List, [], ◌∷◌, ◌++◌, length, codes, Bool, true, false, ◌&&◌, ◌||◌, bytes_eq, Contains, IsTrue, ◌↔◌}
use Rattle.std.specs.Prelude.{not}
use Rattle.std.specs.List.{list_any}
use Rattle.std.proofs.lemmas.List.Elements.{Contains-append_left, Contains-append_cases}
use Rattle.std.proofs.lemmas.Slice.Eq.{bytes_eq-Decides}
use Rattle.notes_spec.specs.Scopes.{Scope, Changed, reads_frames}
use Rattle.bilv_spec.specs.Notes.{Expr, At, Named}
use Rattle.bilv_spec.proofs.Decided.{neither}
use Rattle.word_spec.specs.Tokens.{Token, NumberToken, NameToken, SignToken, BadByte, BadText}
use Rattle.notes_spec.specs.NotesGrammar.{Parses, AreNumbers, AreChanged, MayFrame, Says, EntryIs, RequireIs, EnsureIs, AssertIs, TargetsAre, FixedIs, ConstIs, LoadedIs, InvariantIs, NeedIs, GiveIs, ModifiesAre, WritesAre, IsSaid, IsAtAddress}
use Rattle.notes_spec.specs.NotesFaults.{IsLineWord, BeginsBadly, line_words, line_words_first, frame_words}
use Rattle.notes_lang.specs.declared.line_words.FrameWord.{FrameWord}
use Rattle.notes_lang.specs.declared.line_words.FrameWord.TheVariants as frame
use Rattle.notes_lang.specs.declared.line_words.LineWord.{LineWord}
use Rattle.notes_lang.specs.declared.line_words.LineWord.TheVariants as word
use Rattle.notes_spec.proofs.NotesFirst.{begins_well}
use Rattle.notes_spec.proofs.NotesSaid.{kind_is}
use Rattle.notes_lang.specs.Saying.{BeginsWith, IsOne, IsAddressed, IsCounted}
use Rattle.notes_lang.specs.Wording.{IsSomeWord, begins_lines, frame_word_text, word_text}

-- a word of one text is a word of some text
words_of : (second framed : Bool) (w : List ℕ) → Contains (line_words second framed) w → Contains (line_words true true) w
words_of true true w c = c
words_of true false w c = Contains-append_left (line_words true false) frame_words w c
words_of false framed w c = Contains-append_left (line_words true false) frame_words w (suc (suc c.0), omega (arith, c.1), c.2)

pub some_word : (s : Scope) (t : Token) → IsLineWord s t → IsSomeWord t
some_word s (NameToken w) c = words_of s.is_second (reads_frames s.dialect) w c
some_word s (NumberToken n) c = c
some_word s (SignToken w) c = c
some_word s BadByte c = c
some_word s BadText c = c

-- neither kind of word
pub neither_word : (w : List ℕ) → (Contains (line_words true false) w → ⊥) → (Contains frame_words w → ⊥) → Contains (line_words true true) w → ⊥
neither_word w plain framed c = neither plain framed (Contains-append_cases (line_words true false) frame_words w c)

-- the words are those that begin lines
first_in : (second framed : Bool) (w : List ℕ) → Contains line_words_first w → Contains (line_words second framed) w
first_in false framed w c = c
first_in true false w c = (suc (suc c.0), omega (arith, c.1), c.2)
first_in true true w c = Contains-append_left (line_words true false) frame_words w (suc (suc c.0), omega (arith, c.1), c.2)

later_in : (framed : Bool) (w : List ℕ) → Contains (line_words true false) w → Contains (line_words true framed) w
later_in false w c = c
later_in true w c = Contains-append_left (line_words true false) frame_words w c

frame_in : (w : FrameWord) → Contains (line_words true true) (frame_word_text w)
frame_in frame.Invariant = (10, omega arith, refl)
frame_in frame.Needs = (11, omega arith, refl)
frame_in frame.Gives = (12, omega arith, refl)
frame_in frame.Modifies = (13, omega arith, refl)
frame_in frame.Writes = (14, omega arith, refl)

line_word : (b framed : Bool) (w : LineWord) → begins_lines b framed w ≡ true → Contains (line_words b framed) (word_text w)
line_word b framed word.Entry is = first_in b framed _ (0, omega arith, refl)
line_word b framed word.Function is = first_in b framed _ (1, omega arith, refl)
line_word b framed word.Require is = first_in b framed _ (2, omega arith, refl)
line_word b framed word.Ensure is = first_in b framed _ (3, omega arith, refl)
line_word b framed word.Assert is = first_in b framed _ (4, omega arith, refl)
line_word b framed word.Targets is = first_in b framed _ (5, omega arith, refl)
line_word b framed word.Fixed is = first_in b framed _ (6, omega arith, refl)
line_word b framed word.Notes is = first_in b framed _ (7, omega arith, refl)
line_word false framed word.Const is = absurd (let b : ⊥ = cc in b)
line_word false framed word.Loaded is = absurd (let b : ⊥ = cc in b)
line_word true framed word.Const is = later_in framed _ (0, omega arith, refl)
line_word true framed word.Loaded is = later_in framed _ (1, omega arith, refl)
line_word false framed (word.Frame w) is = absurd (let b : ⊥ = cc in b)
line_word true false (word.Frame w) is = absurd (let b : ⊥ = cc in b)
line_word true true (word.Frame w) is = frame_in w

-- a word that begins no lines of a text is none of its words
or_left : (b c : Bool) → b ≡ true → (b || c) ≡ false → ⊥
or_left true c e f = let b : ⊥ = cc in b
or_left false c e f = let b : ⊥ = cc in b

or_right : (b c : Bool) → (b || c) ≡ false → c ≡ false
or_right true c f = absurd (let b : ⊥ = cc in b)
or_right false c f = f

not_among : (w : List ℕ) (ws : List (List ℕ)) → list_any (bytes_eq w) ws ≡ false → Contains ws w → ⊥
not_among w [] is c = omega (arith, c.1)
not_among w (v ∷ ws) is (zero, below, same) = or_left (bytes_eq w v) (list_any (bytes_eq w) ws) ((bytes_eq-Decides w v).1 (sym same)) is
not_among w (v ∷ ws) is (suc k, below, same) =
    not_among w ws (or_right (bytes_eq w v) (list_any (bytes_eq w) ws) is) (k, omega (arith, below), same)

unframed : (w : FrameWord) → list_any (bytes_eq (frame_word_text w)) (line_words true false) ≡ false
unframed frame.Invariant = refl
unframed frame.Needs = refl
unframed frame.Gives = refl
unframed frame.Modifies = refl
unframed frame.Writes = refl

other_word : (b framed : Bool) (w : LineWord) → begins_lines b framed w ≡ false → Contains (line_words b framed) (word_text w) → ⊥
other_word false framed word.Const is c = not_among (codes "const") line_words_first refl c
other_word false framed word.Loaded is c = not_among (codes "loaded") line_words_first refl c
other_word false framed (word.Frame w) is c = not_among (frame_word_text w) (line_words true false) (unframed w) (first_in true false _ c)
other_word true false (word.Frame w) is c = not_among (frame_word_text w) (line_words true false) (unframed w) c
other_word true true (word.Frame w) is c = let b : ⊥ = cc in b
other_word true framed word.Const is c = let b : ⊥ = cc in b
other_word true framed word.Loaded is c = let b : ⊥ = cc in b
other_word b framed w is c = let b : ⊥ = cc in b

pub has_word : (s : Scope) (r : Bool) (w : LineWord) (t : Token) (ts us : List Token) → ts ≡ t ∷ us → t ≡ NameToken (word_text w) →
    r ≡ begins_lines s.is_second (reads_frames s.dialect) w → IsTrue (not r) ↔ BeginsBadly s ts
has_word s true w t ts us is word_is r_is = (
  λ e. absurd (let b : ⊥ = cc in b),
  λ bad. absurd (subst (BeginsBadly s) is bad (subst (IsLineWord s) (sym word_is) (line_word s.is_second (reads_frames s.dialect) w (sym r_is)))),
)
has_word s false w t ts us is word_is r_is = (
  λ e. subst (BeginsBadly s) (sym is) (λ c. other_word s.is_second (reads_frames s.dialect) w (sym r_is) (subst (IsLineWord s) word_is c)),
  λ bad. refl,
)

pub no_word : (s : Scope) (t : Token) (ts us : List Token) → ts ≡ t ∷ us → (IsSomeWord t → ⊥) → IsTrue true ↔ BeginsBadly s ts
no_word s t ts us is none = (λ e. subst (BeginsBadly s) (sym is) (λ c. none (some_word s t c)), λ bad. refl)

pub not_said : (s : Scope) (t : Token) (ts us : List Token) → ts ≡ t ∷ us → (IsSomeWord t → ⊥) → (x : Says) → IsSaid s ts x → ⊥
not_said s t ts us is none x p = begins_well s ts x p (subst (BeginsBadly s) (sym is) (λ c. none (some_word s t c)))

-- lines of invariants and contracts are read in version 2 alone, and in some dialects
pub may_frame : (s : Scope) (b c d : Bool) → b ≡ (c && d) → b ≡ true → s.is_second ≡ c → reads_frames s.dialect ≡ d → MayFrame s
may_frame s b true true is holds second reads = (second, reads)
may_frame s b true false is holds second reads = absurd (let b : ⊥ = cc in b)
may_frame s b false d is holds second reads = absurd (let b : ⊥ = cc in b)

not_framed : (b c d : Bool) → b ≡ (c && d) → b ≡ false → c ≡ true → d ≡ true → ⊥
not_framed b true true is fails first also = let f : ⊥ = cc in f
not_framed b true false is fails first also = let f : ⊥ = cc in f
not_framed b false d is fails first also = let f : ⊥ = cc in f

frame_kind : (s : Scope) (w : FrameWord) (ts : List Token) (x : Says) → IsSaid s (NameToken (frame_word_text w) ∷ ts) x → MayFrame s
frame_kind s w ts (InvariantIs a e) p = p.1
frame_kind s w ts (NeedIs a e) p = p.1
frame_kind s w ts (GiveIs a e) p = p.1
frame_kind s w ts (ModifiesAre a cs) (t, us, is, n, changed, some, may) = may
frame_kind s w ts (WritesAre a e n) (t, u, us, is, m, q, k, may) = may
frame_kind s frame.Invariant ts x p = let e = kind_is s _ x p in absurd (omega (arith, e))
frame_kind s frame.Needs ts x p = let e = kind_is s _ x p in absurd (omega (arith, e))
frame_kind s frame.Gives ts x p = let e = kind_is s _ x p in absurd (omega (arith, e))
frame_kind s frame.Modifies ts x p = let e = kind_is s _ x p in absurd (omega (arith, e))
frame_kind s frame.Writes ts x p = let e = kind_is s _ x p in absurd (omega (arith, e))

pub no_frame : (s : Scope) (b : Bool) (w : FrameWord) (ts : List Token) → b ≡ (s.is_second && reads_frames s.dialect) → b ≡ false → (x : Says) →
    IsSaid s (NameToken (frame_word_text w) ∷ ts) x → ⊥
no_frame s b w ts is fails x p =
    let may = frame_kind s w ts x p in not_framed b s.is_second (reads_frames s.dialect) is fails may.0 may.1

-- an address and an expression behind a word
pub behind_address : (s : Scope) (w : List ℕ) (ts : List Token) (a : ℕ) (e : Expr) → IsAddressed s ts (a, e) → IsAtAddress s w (NameToken w ∷ ts) a e
behind_address s w ts a e (t, us, is, n, p) = (t, us, ap (λ l. NameToken w ∷ l) is, n, p)

module _ (s : Scope) (ts : List Token) where
  pub no_entry : ((n : ℕ) → IsOne s ts n → ⊥) → (x : Says) → IsSaid s (NameToken (codes "entry") ∷ ts) x → ⊥
  no_entry none (EntryIs (At a)) (t, p, n) = none a (t, let e : ts ≡ t ∷ [] = cc in e, n)
  no_entry none (EntryIs (Named w)) p = let b : ⊥ = cc in b
  no_entry none x p = let e = kind_is s _ x p in omega (arith, e)

  pub no_function : ((w : List ℕ) → ts ≡ NameToken w ∷ [] → ⊥) → (x : Says) → IsSaid s (NameToken (codes "function") ∷ ts) x → ⊥
  no_function none (EntryIs (Named w)) p = none w (let e : ts ≡ NameToken w ∷ [] = cc in e)
  no_function none (EntryIs (At a)) (t, p, n) = let b : ⊥ = cc in b
  no_function none x p = let e = kind_is s _ x p in omega (arith, e)

  pub no_require : ((e : Expr) → Parses s 1 ts e → ⊥) → (x : Says) → IsSaid s (NameToken (codes "require") ∷ ts) x → ⊥
  no_require none (RequireIs e) p = let x = p.1 in let is : p.0 ≡ ts = cc in none e (subst (λ us. Parses s 1 us e) is p.2)
  no_require none x p = let e = kind_is s _ x p in omega (arith, e)

  pub no_ensure : ((e : Expr) → Parses s 1 ts e → ⊥) → (x : Says) → IsSaid s (NameToken (codes "ensure") ∷ ts) x → ⊥
  no_ensure none (EnsureIs e) p = let x = p.1 in let is : p.0 ≡ ts = cc in none e (subst (λ us. Parses s 1 us e) is p.2)
  no_ensure none x p = let e = kind_is s _ x p in omega (arith, e)

  at_address : (w : List ℕ) (a : ℕ) (e : Expr) → IsAtAddress s w (NameToken w ∷ ts) a e → IsAddressed s ts (a, e)
  at_address w a e (t, us, p, n, q) = (t, us, let is : ts ≡ t ∷ us = cc in is, n, q)

  pub no_assert : ((p : ℕ × Expr) → IsAddressed s ts p → ⊥) → (x : Says) → IsSaid s (NameToken (codes "assert") ∷ ts) x → ⊥
  no_assert none (AssertIs a e) p = none (a, e) (at_address (codes "assert") a e p)
  no_assert none x p = let e = kind_is s _ x p in omega (arith, e)

  pub no_invariant : ((p : ℕ × Expr) → IsAddressed s ts p → ⊥) → (x : Says) → IsSaid s (NameToken (codes "invariant") ∷ ts) x → ⊥
  no_invariant none (InvariantIs a e) p = none (a, e) (at_address (codes "invariant") a e p.0)
  no_invariant none x p = let e = kind_is s _ x p in omega (arith, e)

  pub no_needs : ((p : ℕ × Expr) → IsAddressed s ts p → ⊥) → (x : Says) → IsSaid s (NameToken (codes "needs") ∷ ts) x → ⊥
  no_needs none (NeedIs a e) p = none (a, e) (at_address (codes "needs") a e p.0)
  no_needs none x p = let e = kind_is s _ x p in omega (arith, e)

  pub no_gives : ((p : ℕ × Expr) → IsAddressed s ts p → ⊥) → (x : Says) → IsSaid s (NameToken (codes "gives") ∷ ts) x → ⊥
  no_gives none (GiveIs a e) p = none (a, e) (at_address (codes "gives") a e p.0)
  no_gives none x p = let e = kind_is s _ x p in omega (arith, e)

  pub no_modifies : ((n : ℕ) (us : List Token) (cs : List Changed) → BeginsWith s ts (n, us) → AreChanged s us cs → 0 < length cs → ⊥) → (x : Says) →
      IsSaid s (NameToken (codes "modifies") ∷ ts) x → ⊥
  no_modifies none (ModifiesAre a cs) (t, us, p, n, q, some, may) = none a us cs (t, let is : ts ≡ t ∷ us = cc in is, n) q some
  no_modifies none x p = let e = kind_is s _ x p in omega (arith, e)

  pub no_writes : ((n : ℕ) (us : List Token) (p : Expr × ℕ) → BeginsWith s ts (n, us) → IsCounted s us p → ⊥) → (x : Says) →
      IsSaid s (NameToken (codes "writes") ∷ ts) x → ⊥
  no_writes none (WritesAre a e n) (t, u, us, p, m, q, k, may) =
      none a (us ++ u ∷ []) (e, n) (t, let is : ts ≡ t ∷ us ++ u ∷ [] = cc in is, m) (us, u, refl, q, k)
  no_writes none x p = let e = kind_is s _ x p in omega (arith, e)

  pub no_targets : ((n : ℕ) (us : List Token) (to : List ℕ) → BeginsWith s ts (n, us) → AreNumbers s us to → 0 < length to → ⊥) → (x : Says) →
      IsSaid s (NameToken (codes "targets") ∷ ts) x → ⊥
  no_targets none (TargetsAre a to) (t, us, p, n, q, some) = none a us to (t, let is : ts ≡ t ∷ us = cc in is, n) q some
  no_targets none x p = let e = kind_is s _ x p in omega (arith, e)

  pub no_fixed : ((l h : ℕ) (us : List Token) → BeginsWith s ts (l, us) → IsOne s us h → ⊥) → (x : Says) →
      IsSaid s (NameToken (codes "fixed") ∷ ts) x → ⊥
  no_fixed none (FixedIs l h) (t, u, p, n, m) = none l h (u ∷ []) (t, let is : ts ≡ t ∷ u ∷ [] = cc in is, n) (u, refl, m)
  no_fixed none x p = let e = kind_is s _ x p in omega (arith, e)

  pub no_const : ((w : List ℕ) (v : ℕ) → ts ≡ NameToken w ∷ NumberToken v ∷ [] → s.is_second ≡ true → ⊥) → (x : Says) →
      IsSaid s (NameToken (codes "const") ∷ ts) x → ⊥
  no_const none (ConstIs w v) p = let x = p.0 in none w v (let is : ts ≡ NameToken w ∷ NumberToken v ∷ [] = cc in is) p.1
  no_const none x p = let e = kind_is s _ x p in omega (arith, e)

  pub no_loaded : (ts ≡ [] → s.is_second ≡ true → ⊥) → (x : Says) → IsSaid s (NameToken (codes "loaded") ∷ ts) x → ⊥
  no_loaded none LoadedIs p = let x = p.0 in none (let is : ts ≡ [] = cc in is) p.1
  no_loaded none x p = let e = kind_is s _ x p in omega (arith, e)
