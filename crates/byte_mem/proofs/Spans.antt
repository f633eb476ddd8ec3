-- Entries whose addresses rise from one address on and stay below another.
use Rattle.std.proofs.Common.{◌≡◌, ◌≢◌, ℕ, zero, suc, ◌+◌, ◌≤◌, ◌<◌, ◌^◌, List, [], ◌∷◌, ◌++◌, length, get_or, take, drop, true, false, refl, sym, ap, ◌∙◌, subst, arith, inl, inr}
use Rattle.std.specs.Prelude.{◌==◌, if◌then◌else◌}
use Rattle.std.proofs.lemmas.Bool.{ne_eqb, eq-eqb, cases_eq}
use Rattle.std.proofs.Math.Nat.{eq-or-lt_of_le}
use Rattle.std.proofs.Math.ListN.{take-append-drop}
use Rattle.word_spec.specs.Memory.{byte_in}
use Rattle.byte_mem.proofs.Places.{side}
use Rattle.byte_mem.specs.Kept.{IsKept, IsRising}
use Rattle.byte_mem.specs.Puts.{AreAround, IsMemory, IsPut, entries_at}

-- addresses from low on and below high, rising, with bytes that are not 0
abbrev pub Spans : ℕ → ℕ → List (ℕ × ℕ) → Type 0
Spans low high [] = low ≤ high
Spans low high (e ∷ es) = (low ≤ e.0) × (0 < e.1) × Spans (e.0 + 1) high es

pub ordered : (low high : ℕ) (es : List (ℕ × ℕ)) → Spans low high es → low ≤ high
ordered low high [] s = s
ordered low high (e ∷ es) s = let o = ordered (e.0 + 1) high es s.2 in let l = s.0 in omega arith

pub from_lower : (low less high : ℕ) (es : List (ℕ × ℕ)) → less ≤ low → Spans low high es → Spans less high es
from_lower low less high [] l s = omega arith
from_lower low less high (e ∷ es) l s = (let h = s.0 in omega arith, s.1, s.2)

-- what is not listed is 0
pub before : (low high : ℕ) (es : List (ℕ × ℕ)) (x : ℕ) → Spans low high es → x < low → byte_in es x ≡ 0
before low high [] x s l = refl
before low high (e ∷ es) x s l =
    let at = s.0 in
    let ne : (x == e.0) ≡ false = ne_eqb x e.0 (λ h. absurd (omega arith)) in
    rw ne (before (e.0 + 1) high es x s.2 (omega arith))

pub behind : (low high : ℕ) (es : List (ℕ × ℕ)) (x : ℕ) → Spans low high es → high ≤ x → byte_in es x ≡ 0
behind low high [] x s l = refl
behind low high (e ∷ es) x s l =
    let o = ordered (e.0 + 1) high es s.2 in
    let ne : (x == e.0) ≡ false = ne_eqb x e.0 (λ h. absurd (omega arith)) in
    rw ne (behind (e.0 + 1) high es x s.2 l)

-- two parts, one behind the other
pub joined : (low middle high : ℕ) (xs ys : List (ℕ × ℕ)) → Spans low middle xs → Spans middle high ys → Spans low high (xs ++ ys)
joined low middle high [] ys s t = from_lower middle low high ys s t
joined low middle high (e ∷ es) ys s t = (s.0, s.1, joined (e.0 + 1) middle high es ys s.2 t)

pub in_first : (low middle high : ℕ) (xs ys : List (ℕ × ℕ)) (x : ℕ) → Spans low middle xs → Spans middle high ys → x < middle →
    byte_in (xs ++ ys) x ≡ byte_in xs x
in_first low middle high [] ys x s t l = before middle high ys x t l
in_first low middle high (e ∷ es) ys x s t l = ap (λ m. if x == e.0 then e.1 else m) (in_first (e.0 + 1) middle high es ys x s.2 t l)

pub in_second : (low middle : ℕ) (xs ys : List (ℕ × ℕ)) (x : ℕ) → Spans low middle xs → middle ≤ x → byte_in (xs ++ ys) x ≡ byte_in ys x
in_second low middle [] ys x s l = refl
in_second low middle (e ∷ es) ys x s l =
    let o = ordered (e.0 + 1) middle es s.2 in
    let ne : (x == e.0) ≡ false = ne_eqb x e.0 (λ h. absurd (omega arith)) in
    rw ne (in_second (e.0 + 1) middle es ys x s.2 l)

-- cut at the place of an address
pub cut_front : (low high a i : ℕ) (es : List (ℕ × ℕ)) → Spans low high es → low ≤ a →
    ((k : ℕ) (d : ℕ × ℕ) → k < i → (get_or es k d).0 < a) → i ≤ length es → Spans low a (take i es)
cut_front low high a zero es s l below within = l
cut_front low high a (suc i) [] s l below within = absurd (omega arith)
cut_front low high a (suc i) (e ∷ es) s l below within =
    let first = below 0 (0, 0) (omega arith) in
    (s.0, s.1, cut_front (e.0 + 1) high a i es s.2 (omega arith) (λ k d h. below (suc k) d (omega arith)) (omega arith))

pub cut_back : (low high a i : ℕ) (es : List (ℕ × ℕ)) → Spans low high es → a ≤ high →
    ((k : ℕ) (d : ℕ × ℕ) → i ≤ k → k < length es → a ≤ (get_or es k d).0) → Spans a high (drop i es)
cut_back low high a zero [] s l from = l
cut_back low high a zero (e ∷ es) s l from = (from 0 (0, 0) (omega arith) (omega arith), s.1, s.2)
cut_back low high a (suc i) [] s l from = l
cut_back low high a (suc i) (e ∷ es) s l from =
    cut_back (e.0 + 1) high a i es s.2 l (λ k d h w. from (suc k) d (omega arith) (omega arith))

-- from and to the form by places
pub spans_of : (low : ℕ) (es : List (ℕ × ℕ)) → IsKept es → low ≤ 2 ^ 32 →
    ((k : ℕ) (d : ℕ × ℕ) → k < length es → low ≤ (get_or es k d).0) → Spans low (2 ^ 32) es
spans_of low [] kept l from = l
spans_of low (e ∷ es) kept l from =
    let under = kept.small 0 (0, 0) (omega arith) in (
      from 0 (0, 0) (omega arith),
      kept.nonzero 0 (0, 0) (omega arith),
      spans_of (e.0 + 1) es
          (record {
            rising = λ i j d h w. kept.rising (suc i) (suc j) d (omega arith) (omega arith);
            nonzero = λ i d w. kept.nonzero (suc i) d (omega arith);
            small = λ i d w. kept.small (suc i) d (omega arith);
          })
          (omega arith)
          (λ k d w. let r = kept.rising 0 (suc k) d (omega arith) (omega arith) in omega arith),
    )

spans_from : (low high : ℕ) (es : List (ℕ × ℕ)) → Spans low high es → (k : ℕ) (d : ℕ × ℕ) → k < length es → low ≤ (get_or es k d).0
spans_from low high [] s k d w = absurd (omega arith)
spans_from low high (e ∷ es) s zero d w = s.0
spans_from low high (e ∷ es) s (suc k) d w = let h = spans_from (e.0 + 1) high es s.2 k d (omega arith) in let l = s.0 in omega arith

rising_of : (low high : ℕ) (es : List (ℕ × ℕ)) → Spans low high es → IsRising es
rising_of low high [] s i j d h w = absurd (omega arith)
rising_of low high (e ∷ es) s zero zero d h w = absurd (omega arith)
rising_of low high (e ∷ es) s zero (suc j) d h w = let f = spans_from (e.0 + 1) high es s.2 j d (omega arith) in omega arith
rising_of low high (e ∷ es) s (suc i) zero d h w = absurd (omega arith)
rising_of low high (e ∷ es) s (suc i) (suc j) d h w = rising_of (e.0 + 1) high es s.2 i j d (omega arith) (omega arith)

nonzero_of : (low high : ℕ) (es : List (ℕ × ℕ)) → Spans low high es → (i : ℕ) (d : ℕ × ℕ) → i < length es → 0 < (get_or es i d).1
nonzero_of low high [] s i d w = absurd (omega arith)
nonzero_of low high (e ∷ es) s zero d w = s.1
nonzero_of low high (e ∷ es) s (suc i) d w = nonzero_of (e.0 + 1) high es s.2 i d (omega arith)

small_of : (low high : ℕ) (es : List (ℕ × ℕ)) → Spans low high es → (i : ℕ) (d : ℕ × ℕ) → i < length es → (get_or es i d).0 < high
small_of low high [] s i d w = absurd (omega arith)
small_of low high (e ∷ es) s zero d w = let o = ordered (e.0 + 1) high es s.2 in omega arith
small_of low high (e ∷ es) s (suc i) d w = small_of (e.0 + 1) high es s.2 i d (omega arith)

pub kept_of : (es : List (ℕ × ℕ)) → Spans 0 (2 ^ 32) es → IsKept es
kept_of es s = record { rising = rising_of 0 (2 ^ 32) es s; nonzero = nonzero_of 0 (2 ^ 32) es s; small = small_of 0 (2 ^ 32) es s }

some : (b : ℕ) → suc b ≢ 0
some b e = absurd (omega arith)

pub no_entry : (a b : ℕ) → b ≡ 0 → entries_at a b ≡ []
no_entry a b e = rw e refl

pub one_entry : (a b : ℕ) → b ≢ 0 → entries_at a b ≡ (a, b) ∷ []
one_entry a b ne = rw (ne_eqb b 0 ne) refl

at_spans : (a b : ℕ) → Spans a (a + 1) (entries_at a b)
at_spans a zero = omega arith
at_spans a (suc b) = subst (Spans a (a + 1)) (sym (one_entry a (suc b) (some b))) (omega arith, omega arith, omega arith)

at_reads : (a b x : ℕ) → x ≡ a → byte_in (entries_at a b) x ≡ b
at_reads a zero x e = refl
at_reads a (suc b) x e =
    let t : (x == a) ≡ true = eq-eqb x a e in
    ap (λ r. byte_in r x) (one_entry a (suc b) (some b)) ∙ rw t refl

-- entries with a run in the place of those at its addresses
pub replaced : (es run : List (ℕ × ℕ)) (low high a b : ℕ) → Spans 0 (2 ^ 32) es → low ≤ length es → high ≤ length es → a ≤ b → b ≤ 2 ^ 32 →
    ((k : ℕ) (d : ℕ × ℕ) → k < low → (get_or es k d).0 < a) → ((k : ℕ) (d : ℕ × ℕ) → low ≤ k → k < length es → a ≤ (get_or es k d).0) →
    ((k : ℕ) (d : ℕ × ℕ) → k < high → (get_or es k d).0 < b) → ((k : ℕ) (d : ℕ × ℕ) → high ≤ k → k < length es → b ≤ (get_or es k d).0) →
    Spans a b run → Spans 0 (2 ^ 32) (take low es ++ (run ++ drop high es))
replaced es run low high a b s w1 w2 ab top bl fl bh fh r =
    joined 0 a (2 ^ 32) _ _ (cut_front 0 (2 ^ 32) a low es s (omega arith) bl w1)
    (joined a b (2 ^ 32) _ _ r (cut_back 0 (2 ^ 32) b high es s top fh))

pub replaced_below : (es run : List (ℕ × ℕ)) (low high a b x : ℕ) → Spans 0 (2 ^ 32) es → low ≤ length es → high ≤ length es → a ≤ b → b ≤ 2 ^ 32 →
    ((k : ℕ) (d : ℕ × ℕ) → k < low → (get_or es k d).0 < a) → ((k : ℕ) (d : ℕ × ℕ) → low ≤ k → k < length es → a ≤ (get_or es k d).0) →
    ((k : ℕ) (d : ℕ × ℕ) → high ≤ k → k < length es → b ≤ (get_or es k d).0) →
    Spans a b run → x < a → byte_in (take low es ++ (run ++ drop high es)) x ≡ byte_in es x
replaced_below es run low high a b x s w1 w2 ab top bl fl fh r l =
    let front = cut_front 0 (2 ^ 32) a low es s (omega arith) bl w1 in
    in_first 0 a (2 ^ 32) _ _ x front (joined a b (2 ^ 32) _ _ r (cut_back 0 (2 ^ 32) b high es s top fh)) l
    ∙ sym (in_first 0 a (2 ^ 32) (take low es) (drop low es) x front (cut_back 0 (2 ^ 32) a low es s (omega arith) fl) l)
    ∙ ap (λ r. byte_in r x) (take-append-drop low es)

pub replaced_above : (es run : List (ℕ × ℕ)) (low high a b x : ℕ) → Spans 0 (2 ^ 32) es → low ≤ length es → high ≤ length es → a ≤ b →
    ((k : ℕ) (d : ℕ × ℕ) → k < low → (get_or es k d).0 < a) → ((k : ℕ) (d : ℕ × ℕ) → k < high → (get_or es k d).0 < b) →
    Spans a b run → b ≤ x → byte_in (take low es ++ (run ++ drop high es)) x ≡ byte_in es x
replaced_above es run low high a b x s w1 w2 ab bl bh r l =
    in_second 0 a (take low es) _ x (cut_front 0 (2 ^ 32) a low es s (omega arith) bl w1) (omega arith)
    ∙ in_second a b run (drop high es) x r l
    ∙ sym (in_second 0 b (take high es) (drop high es) x (cut_front 0 (2 ^ 32) b high es s (omega arith) bh w2) l)
    ∙ ap (λ r. byte_in r x) (take-append-drop high es)

pub replaced_within : (es run : List (ℕ × ℕ)) (low high a b x : ℕ) → Spans 0 (2 ^ 32) es → low ≤ length es → b ≤ 2 ^ 32 →
    ((k : ℕ) (d : ℕ × ℕ) → k < low → (get_or es k d).0 < a) → ((k : ℕ) (d : ℕ × ℕ) → high ≤ k → k < length es → b ≤ (get_or es k d).0) →
    Spans a b run → a ≤ x → x < b → byte_in (take low es ++ (run ++ drop high es)) x ≡ byte_in run x
replaced_within es run low high a b x s w1 top bl fh r l h =
    in_second 0 a (take low es) _ x (cut_front 0 (2 ^ 32) a low es s (omega arith) bl w1) l
    ∙ in_first a b (2 ^ 32) run (drop high es) x r (cut_back 0 (2 ^ 32) b high es s top fh) h

-- the byte of an entry that stands at its place, and of an address that has none
pub byte_at : (es : List (ℕ × ℕ)) (i a : ℕ) (d : ℕ × ℕ) → ((k : ℕ) (d : ℕ × ℕ) → k < i → (get_or es k d).0 < a) → i < length es →
    (get_or es i d).0 ≡ a → byte_in es a ≡ (get_or es i d).1
byte_at [] i a d below w e = absurd (omega arith)
byte_at (x ∷ es) zero a d below w e = let t : (a == x.0) ≡ true = eq-eqb a x.0 (sym e) in rw t refl
byte_at (x ∷ es) (suc i) a d below w e =
    let first = below 0 (0, 0) (omega arith) in
    let f : (a == x.0) ≡ false = ne_eqb a x.0 (λ q. absurd (omega arith)) in
    rw f (byte_at es i a d (λ k d h. below (suc k) d (omega arith)) (omega arith) e)

pub byte_none : (es : List (ℕ × ℕ)) (a : ℕ) → ((k : ℕ) (d : ℕ × ℕ) → k < length es → (get_or es k d).0 ≢ a) → byte_in es a ≡ 0
byte_none [] a none = refl
byte_none (x ∷ es) a none =
    let f : (a == x.0) ≡ false = ne_eqb a x.0 (λ q. none 0 (0, 0) (omega arith) (sym q)) in
    rw f (byte_none es a (λ k d h. none (suc k) d (omega arith)))

module _ (es : List (ℕ × ℕ)) (a b : ℕ) (new : List (ℕ × ℕ)) (low high : ℕ) (memory : IsMemory es) (w : AreAround es a low high) (under : a < 2 ^ 32) (fits : b
    < 256)
    (e : new ≡ take low es ++ (entries_at a b ++ drop high es)) where
  s : Spans 0 (2 ^ 32) es
  s = spans_of 0 es memory.kept (omega arith) (λ k d h. omega arith)

  w1 : low ≤ length es
  w1 = let o = w.ordered in let i = w.within in omega arith

  top : a + 1 ≤ 2 ^ 32
  top = omega arith

  up : a ≤ a + 1
  up = omega arith

  reads : (x : ℕ) → x ≢ a → byte_in new x ≡ byte_in es x
  reads x ne = ap (λ n. byte_in n x) e ∙ elim (side x a) [
    | inl le ↦
        replaced_below es (entries_at a b) low high a (a + 1) x s w1 w.within up top w.before_low w.from_low w.from_high (at_spans a b)
        (elim (eq-or-lt_of_le le) [ inl is ↦ absurd (ne is) | inr l ↦ l ])
    | inr l ↦ replaced_above es (entries_at a b) low high a (a + 1) x s w1 w.within up w.before_low w.before_high (at_spans a b) (omega arith)
  ]

  -- the entries with a byte written
  pub written : IsPut es a b new
  written x = elim (cases_eq x a) as (λ _. byte_in new x ≡ (if x == a then b else byte_in es x)) [
    | inl is ↦
        let t : (x == a) ≡ true = eq-eqb x a is in
        rw t (ap (λ n. byte_in n x) e ∙ replaced_within es (entries_at a b) low high a (a + 1) x s w1 top w.before_low w.from_high (at_spans a b) (omega arith)
        (omega arith) ∙ at_reads a b x is)
    | inr ne ↦ let f : (x == a) ≡ false = ne_eqb x a ne in rw f (reads x ne)
  ]

  pub still : IsMemory new
  still = record {
    kept = rw e (kept_of _ (replaced es (entries_at a b) low high a (a + 1) s w1 w.within up top w.before_low w.from_low w.before_high w.from_high
        (at_spans a b)));
    fits = λ x. elim (cases_eq x a) as (λ _. byte_in new x < 256) [
      | inl is ↦ let t : (x == a) ≡ true = eq-eqb x a is in let h = rw t at (written x) in omega arith
      | inr ne ↦ let h = reads x ne in let f = memory.fits x in omega arith
    ];
  }

-- an entry put in, put in the place of another, and taken out
pub put_in : (es : List (ℕ × ℕ)) (i a b : ℕ) (new : List (ℕ × ℕ)) → IsMemory es → AreAround es a i i → a < 2 ^ 32 → b < 256 → b ≢ 0 →
    new ≡ take i es ++ (a, b) ∷ drop i es → IsPut es a b new × IsMemory new
put_in es i a b new memory w under fits ne e =
    let f : new ≡ take i es ++ (entries_at a b ++ drop i es) = e ∙ ap (λ l. take i es ++ (l ++ drop i es)) (sym (one_entry a b ne)) in
    (written es a b new i i memory w under fits f, still es a b new i i memory w under fits f)

pub put_over : (es : List (ℕ × ℕ)) (i a b : ℕ) (new : List (ℕ × ℕ)) → IsMemory es → AreAround es a i (i + 1) → a < 2 ^ 32 → b < 256 → b ≢ 0 →
    new ≡ take i es ++ (a, b) ∷ drop (i + 1) es → IsPut es a b new × IsMemory new
put_over es i a b new memory w under fits ne e =
    let f : new ≡ take i es ++ (entries_at a b ++ drop (i + 1) es) = e ∙ ap (λ l. take i es ++ (l ++ drop (i + 1) es)) (sym (one_entry a b ne)) in
    (written es a b new i (i + 1) memory w under fits f, still es a b new i (i + 1) memory w under fits f)

pub taken_out : (es : List (ℕ × ℕ)) (i a b : ℕ) (new : List (ℕ × ℕ)) → IsMemory es → AreAround es a i (i + 1) → a < 2 ^ 32 → b ≡ 0 →
    new ≡ take i es ++ drop (i + 1) es → IsPut es a b new × IsMemory new
taken_out es i a b new memory w under nil e =
    let f : new ≡ take i es ++ (entries_at a b ++ drop (i + 1) es) = e ∙ ap (λ l. take i es ++ (l ++ drop (i + 1) es)) (sym (no_entry a b nil)) in
    let fits : b < 256 = omega arith in
    (written es a b new i (i + 1) memory w under fits f, still es a b new i (i + 1) memory w under fits f)

-- a 0 where there is no entry
pub put_nothing : (es : List (ℕ × ℕ)) (a b : ℕ) → b ≡ 0 → ((k : ℕ) (d : ℕ × ℕ) → k < length es → (get_or es k d).0 ≢ a) → IsPut es a b es
put_nothing es a b nil none x = elim (cases_eq x a) as (λ _. byte_in es x ≡ (if x == a then b else byte_in es x)) [
  | inl is ↦
      let t : (x == a) ≡ true = eq-eqb x a is in
      rw t (ap (byte_in es) is ∙ byte_none es a none ∙ sym nil)
  | inr ne ↦ let f : (x == a) ≡ false = ne_eqb x a ne in rw f refl
]

-- an entry whose address the other entries do not have
alone : (low : ℕ) (e : ℕ × ℕ) (es other : List (ℕ × ℕ)) → Spans low (2 ^ 32) (e ∷ es) → Spans (e.0 + 1) (2 ^ 32) other →
    ((a : ℕ) → a < 2 ^ 32 → byte_in (e ∷ es) a ≡ byte_in other a) → ⊥
alone low e es other s t equal =
    let o = ordered (e.0 + 1) (2 ^ 32) es s.2 in
    let some = s.1 in
    let here : byte_in (e ∷ es) e.0 ≡ e.1 = rw (eq-eqb e.0 e.0 refl) refl in
    let none = before (e.0 + 1) (2 ^ 32) other e.0 t (omega arith) in
    let same = equal e.0 (omega arith) in absurd (omega arith)

-- behind a common first entry the others read the same
rest : (e d : ℕ × ℕ) (es other : List (ℕ × ℕ)) → e.0 ≡ d.0 → Spans (e.0 + 1) (2 ^ 32) es → Spans (d.0 + 1) (2 ^ 32) other →
    ((a : ℕ) → a < 2 ^ 32 → byte_in (e ∷ es) a ≡ byte_in (d ∷ other) a) → (a : ℕ) → a < 2 ^ 32 → byte_in es a ≡ byte_in other a
rest e d es other at s t equal a l = elim (side a e.0) [
  | inl low ↦ before (e.0 + 1) (2 ^ 32) es a s (omega arith) ∙ sym (before (d.0 + 1) (2 ^ 32) other a t (omega arith))
  | inr high ↦
      let one : (a == e.0) ≡ false = ne_eqb a e.0 (λ q. absurd (omega arith)) in
      let two : (a == d.0) ≡ false = ne_eqb a d.0 (λ q. absurd (omega arith)) in
      rw one at (rw two at (equal a l))
]

-- lists of equal memories
pub one_list : (low : ℕ) (xs ys : List (ℕ × ℕ)) → Spans low (2 ^ 32) xs → Spans low (2 ^ 32) ys →
    ((a : ℕ) → a < 2 ^ 32 → byte_in xs a ≡ byte_in ys a) → xs ≡ ys
one_list low [] [] s t equal = refl
one_list low [] (y ∷ ys) s t equal = absurd (alone low y ys [] t (ordered _ _ ys t.2) (λ a l. sym (equal a l)))
one_list low (x ∷ xs) [] s t equal = absurd (alone low x xs [] s (ordered _ _ xs s.2) equal)
one_list low (x ∷ xs) (y ∷ ys) s t equal = elim (side x.0 y.0) [
  | inl le ↦ elim (eq-or-lt_of_le le) [
    | inl at ↦
        let o = ordered (x.0 + 1) (2 ^ 32) xs s.2 in
        let one : (x.0 == x.0) ≡ true = eq-eqb x.0 x.0 refl in
        let two : (x.0 == y.0) ≡ true = eq-eqb x.0 y.0 at in
        let byte : x.1 ≡ y.1 = rw two at (rw one at (equal x.0 (omega arith))) in
        let first : ◌≡◌ {A = ℕ × ℕ} (x.0, x.1) (y.0, y.1) = cc in
        let others : xs ≡ ys = one_list (x.0 + 1) xs ys s.2 (subst (λ a. Spans (a + 1) (2 ^ 32) ys) (sym at) t.2) (rest x y xs ys at s.2 t.2 equal) in
        ap (λ e. e ∷ xs) first ∙ ap (λ es. y ∷ es) others
    | inr less ↦ absurd (alone low x xs (y ∷ ys) s (omega arith, t.1, t.2) equal)
  ]
  | inr less ↦ absurd (alone low y ys (x ∷ xs) t (omega arith, s.1, s.2) (λ a l. sym (equal a l)))
]
