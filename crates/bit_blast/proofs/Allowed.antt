-- What is said of base reads is what the ties say.
use Rattle.std.proofs.Common.{◌≡◌, ℕ, zero, suc, ◌+◌, ◌*◌, ◌<◌, Bool, true, false, not, ◌||◌, ◌&&◌, List, [], ◌∷◌, ◌++◌, length, map, take, get_or, refl, ap, sym, ◌∙◌, subst, arith}
use Rattle.std.specs.Prelude.{◌==◌, Contains, All}
use Rattle.std.specs.List.{list_all}
use Rattle.std.specs.Global.{Vec}
use Rattle.std.proofs.lemmas.Bool.{and_parts, and_from}
use Rattle.std.proofs.lemmas.List.{take_more}
use Rattle.word_spec.specs.Words.{bit}
use Rattle.gates.specs.Circuits.{bit_value}
use Rattle.word_gates.specs.Numbers.{number}
use Rattle.word_gates.proofs.Words.{no_bit}
use Rattle.std.proofs.lemmas.Bool.Decides.{nat_tests}
use Rattle.term_spec.specs.Terms.{TermReading, TermNode, HasWidth, node_at, width_of, term_word, value_at}
use Rattle.frame_terms.specs.FrameCells as frames
use Rattle.frame_terms.specs.FrameCells.{Cells, Agrees, HasByte}
use Rattle.gates.specs.declared.bit.Bit.{Bit}
use Rattle.mem_cells.specs.declared.cells.Agreement.{Agreement}
use Rattle.mem_cells.specs.declared.cells.AskedByte.{AskedByte}
use Rattle.mem_cells.specs.FrameViews.{frame_agreement_of, frame_asked_of}
use Rattle.bit_blast.specs.declared.input_places.InputPlaces.{InputPlaces}
use Rattle.bit_blast.specs.BitWords.{shapes, values_of}
use Rattle.bit_blast.specs.Places.{HasRead}
use Rattle.bit_blast.specs.Said.{agrees_at, asked_at, byte_at, CanAgree, CanBeAsked}

implies_to : (w a b : ℕ) → (not (w == 1) || (a == b)) ≡ true → w ≡ 1 → a ≡ b
implies_to w a b h e = by (w == 1) (a == b) refl refl h
  where
    by : (s t : Bool) → (w == 1) ≡ s → (a == b) ≡ t → (not s || t) ≡ true → a ≡ b
    by true true i j h = grind (arith, nat_tests)
    by true false i j h = absurd (cc)
    by false t i j h = absurd (let k : (w ≡ 1 → ⊥) = grind (arith, nat_tests) in k e)

implies_from : (w a b : ℕ) → (w ≡ 1 → a ≡ b) → (not (w == 1) || (a == b)) ≡ true
implies_from w a b f = by (w == 1) refl
  where
    by : (s : Bool) → (w == 1) ≡ s → (not s || (a == b)) ≡ true
    by true i = let e = f (let k : w ≡ 1 = grind (arith, nat_tests) in k) in grind (arith, nat_tests)
    by false i = refl

-- what the words of cells and the bytes of reads are under a valuation
pub record AreMeant (c : Cells) (p : InputPlaces) (bits : List Bit) (ws : List (Vec Bit)) (v : ℕ → Bool) (x : TermReading) : Type 0 where
  pub words : (t : ℕ) → t < length c.nodes → (value_at (values_of v ws) t).word ≡ term_word x c.nodes t
  pub bytes : (part j : ℕ) → HasRead p part j → byte_at p bits v part j ≡ x.base part j

module _ (c : Cells) (p : InputPlaces) (bits : List Bit) (ws : List (Vec Bit)) (v : ℕ → Bool) (x : TermReading) (m : AreMeant c p bits ws v x) where
  agrees_to : (a : Agreement) → a.condition.0 < length c.nodes → HasRead p a.part a.read → HasRead p a.part a.other → agrees_at p bits ws v a ≡ true →
      Agrees c x (frame_agreement_of a)
  agrees_to a l r o h e =
      sym (m.bytes a.part a.read r) ∙ implies_to (value_at (values_of v ws) a.condition.0).word (byte_at p bits v a.part a.read) (byte_at p bits v a.part a.other) h
      (m.words a.condition.0 l ∙ e) ∙ m.bytes a.part a.other o

  agrees_from : (a : Agreement) → a.condition.0 < length c.nodes → HasRead p a.part a.read → HasRead p a.part a.other → Agrees c x (frame_agreement_of a) →
      agrees_at p bits ws v a ≡ true
  agrees_from a l r o f =
      implies_from (value_at (values_of v ws) a.condition.0).word (byte_at p bits v a.part a.read) (byte_at p bits v a.part a.other)
      (λ e. m.bytes a.part a.read r ∙ f (sym (m.words a.condition.0 l) ∙ e) ∙ sym (m.bytes a.part a.other o))

  asked_to : (a : AskedByte) → a.condition.0 < length c.nodes → HasRead p a.part a.read → asked_at p bits ws v a ≡ true → HasByte c x (frame_asked_of a)
  asked_to a l r h e = sym (m.bytes a.part a.read r) ∙ implies_to (value_at (values_of v ws) a.condition.0).word (byte_at p bits v a.part a.read) a.byte h
      (m.words a.condition.0 l ∙ e)

  asked_from : (a : AskedByte) → a.condition.0 < length c.nodes → HasRead p a.part a.read → HasByte c x (frame_asked_of a) → asked_at p bits ws v a ≡ true
  asked_from a l r f =
      implies_from (value_at (values_of v ws) a.condition.0).word (byte_at p bits v a.part a.read) a.byte
      (λ e. m.bytes a.part a.read r ∙ f (sym (m.words a.condition.0 l) ∙ e))

  -- what is formed of an agreement, and of an asked byte
  abbrev FormedAgreement : frames.Agreement → Type 0
  FormedAgreement a = HasWidth c.nodes 1 a.condition × HasRead p a.part a.read × HasRead p a.part a.other

  abbrev FormedByte : frames.AskedByte → Type 0
  FormedByte a = HasWidth c.nodes 1 a.condition × HasRead p a.part a.read

  pub all_agree : (xs : List Agreement) → ((a : frames.Agreement) → Contains (map frame_agreement_of xs) a → FormedAgreement a) →
      list_all (agrees_at p bits ws v) xs ≡ true → (a : frames.Agreement) → Contains (map frame_agreement_of xs) a → Agrees c x a
  all_agree [] f h a k = absurd (omega (arith, k.1))
  all_agree (y ∷ ys) f h a (zero, k, e) =
      let q = f (frame_agreement_of y) (0, omega arith, refl) in
      subst (Agrees c x) e (agrees_to y q.0.0 q.1 q.2 (and_parts (agrees_at p bits ws v y) (list_all (agrees_at p bits ws v) ys) h).0)
  all_agree (y ∷ ys) f h a (suc i, k, e) =
      all_agree ys (λ b n. f b (suc n.0, (let l = n.1 in omega arith), n.2)) (and_parts (agrees_at p bits ws v y) (list_all (agrees_at p bits ws v) ys) h).1 a
      (i, omega arith, e)

  pub agree_all : (xs : List Agreement) → ((a : frames.Agreement) → Contains (map frame_agreement_of xs) a → FormedAgreement a) →
      ((a : frames.Agreement) → Contains (map frame_agreement_of xs) a → Agrees c x a) → list_all (agrees_at p bits ws v) xs ≡ true
  agree_all [] f h = refl
  agree_all (y ∷ ys) f h =
      let q = f (frame_agreement_of y) (0, omega arith, refl) in
      and_from (agrees_at p bits ws v y) (list_all (agrees_at p bits ws v) ys)
      (agrees_from y q.0.0 q.1 q.2 (h (frame_agreement_of y) (0, omega arith, refl)))
      (agree_all ys (λ b n. f b (suc n.0, (let l = n.1 in omega arith), n.2)) (λ b n. h b (suc n.0, (let l = n.1 in omega arith), n.2)))

  pub all_asked : (xs : List AskedByte) → ((a : frames.AskedByte) → Contains (map frame_asked_of xs) a → FormedByte a) →
      list_all (asked_at p bits ws v) xs ≡ true → (a : frames.AskedByte) → Contains (map frame_asked_of xs) a → HasByte c x a
  all_asked [] f h a k = absurd (omega (arith, k.1))
  all_asked (y ∷ ys) f h a (zero, k, e) =
      let q = f (frame_asked_of y) (0, omega arith, refl) in
      subst (HasByte c x) e (asked_to y q.0.0 q.1 (and_parts (asked_at p bits ws v y) (list_all (asked_at p bits ws v) ys) h).0)
  all_asked (y ∷ ys) f h a (suc i, k, e) =
      all_asked ys (λ b n. f b (suc n.0, (let l = n.1 in omega arith), n.2)) (and_parts (asked_at p bits ws v y) (list_all (asked_at p bits ws v) ys) h).1 a
      (i, omega arith, e)

  pub asked_all : (xs : List AskedByte) → ((a : frames.AskedByte) → Contains (map frame_asked_of xs) a → FormedByte a) →
      ((a : frames.AskedByte) → Contains (map frame_asked_of xs) a → HasByte c x a) → list_all (asked_at p bits ws v) xs ≡ true
  asked_all [] f h = refl
  asked_all (y ∷ ys) f h =
      let q = f (frame_asked_of y) (0, omega arith, refl) in
      and_from (asked_at p bits ws v y) (list_all (asked_at p bits ws v) ys) (asked_from y q.0.0 q.1 (h (frame_asked_of y) (0, omega arith, refl)))
      (asked_all ys (λ b n. f b (suc n.0, (let l = n.1 in omega arith), n.2)) (λ b n. h b (suc n.0, (let l = n.1 in omega arith), n.2)))

-- ---- what is formed can be tied

has_width : (nodes : List TermNode) (ws : List (Vec Bit)) (t : ℕ) → length (shapes ws) ≡ length nodes →
    ((i : ℕ) → i < length nodes → width_of (node_at (shapes ws) i) ≡ width_of (node_at nodes i)) → HasWidth nodes 1 t → HasWidth (shapes ws) 1 t
has_width nodes ws t c f h = (omega (arith, c, h.0), f t h.0 ∙ h.1)

pub can_agree : (c : Cells) (p : InputPlaces) (ws : List (Vec Bit)) → length (shapes ws) ≡ length c.nodes →
    ((i : ℕ) → i < length c.nodes → width_of (node_at (shapes ws) i) ≡ width_of (node_at c.nodes i)) →
    (xs : List Agreement) →
    ((a : frames.Agreement) → Contains (map frame_agreement_of xs) a → HasWidth c.nodes 1 a.condition × HasRead p a.part a.read ×
    HasRead p a.part a.other) → All (CanAgree p ws) xs
can_agree c p ws l w [] f i d k = absurd (omega arith)
can_agree c p ws l w (y ∷ ys) f zero d k =
    let q = f (frame_agreement_of y) (0, omega arith, refl) in
    record { condition = has_width c.nodes ws y.condition.0 l w q.0; read = q.1; other = q.2 }
can_agree c p ws l w (y ∷ ys) f (suc i) d k = can_agree c p ws l w ys (λ b n. f b (suc n.0, (let m = n.1 in omega arith), n.2)) i d (omega arith)

pub can_be_asked : (c : Cells) (p : InputPlaces) (ws : List (Vec Bit)) → length (shapes ws) ≡ length c.nodes →
    ((i : ℕ) → i < length c.nodes → width_of (node_at (shapes ws) i) ≡ width_of (node_at c.nodes i)) →
    (xs : List AskedByte) →
    ((a : frames.AskedByte) → Contains (map frame_asked_of xs) a → HasWidth c.nodes 1 a.condition × HasRead p a.part a.read) →
    All (CanBeAsked p ws) xs
can_be_asked c p ws l w [] f i d k = absurd (omega arith)
can_be_asked c p ws l w (y ∷ ys) f zero d k =
    let q = f (frame_asked_of y) (0, omega arith, refl) in
    record { condition = has_width c.nodes ws y.condition.0 l w q.0; read = q.1 }
can_be_asked c p ws l w (y ∷ ys) f (suc i) d k = can_be_asked c p ws l w ys (λ b n. f b (suc n.0, (let m = n.1 in omega arith), n.2)) i d (omega arith)

-- ---- one more is said

-- what a read of a list past its end would give
abbrev pub no_agreement : Agreement
no_agreement = record { condition = record { 0 = 0 }; part = 0; read = 0; other = 0 }

abbrev pub no_asked : AskedByte
no_asked = record { condition = record { 0 = 0 }; part = 0; read = 0; byte = 0 }

and_assoc : (a b c : Bool) → ((a && b) && c) ≡ (a && (b && c))
and_assoc true b c = refl
and_assoc false b c = refl

and_true : (a : Bool) → (a && true) ≡ a
and_true true = refl
and_true false = refl

all_push : {X : Type 0} (f : X → Bool) (xs : List X) (x : X) → list_all f (xs ++ x ∷ []) ≡ (list_all f xs && f x)
all_push f [] x = and_true (f x)
all_push f (y ∷ ys) x = ap (λ z. f y && z) (all_push f ys x) ∙ sym (and_assoc (f y) (list_all f ys) (f x))

pub all_more : {X : Type 0} (f : X → Bool) (xs : List X) (i : ℕ) (d : X) (s t u : Bool) → i < length xs → s ≡ (t && list_all f (take i xs)) →
    u ≡ f (get_or xs i d) →
    (s && u) ≡ (t && list_all f (take (i + 1) xs))
all_more f xs i d s t u l e g =
    ap (λ z. z && u) e ∙ ap (λ z. (t && list_all f (take i xs)) && z) g ∙ and_assoc t (list_all f (take i xs)) (f (get_or xs i d))
    ∙ ap (λ z. t && z) (sym (all_push f (take i xs) (get_or xs i d))) ∙ ap (λ z. t && list_all f z) (sym (take_more xs i d l))

-- one bit is 1 where it is true
pub one_to : (v : ℕ → Bool) (bs : List Bit) (n : ℕ) → length bs ≡ 1 → number v bs ≡ n → bit_value v (get_or bs 0 no_bit) ≡ (n == 1)
one_to v [] n l f = absurd (omega arith)
one_to v (c ∷ []) n l f = by (bit_value v c) ∙ ap (λ z. z == 1) f
  where
    by : (t : Bool) → t ≡ (bit t + 2 * 0 == 1)
    by true = refl
    by false = refl
one_to v (c ∷ d ∷ bs) n l f = absurd (omega arith)

-- the condition's bit, and two numbers
pub asks_is : (v : ℕ → Bool) (cs : List Bit) (n x y m k : ℕ) → length cs ≡ 1 → number v cs ≡ n → x ≡ m → y ≡ k →
    (not (bit_value v (get_or cs 0 no_bit)) || (x == y)) ≡ (not (n == 1) || (m == k))
asks_is v cs n x y m k l e f g =
    ap (λ z. not z || (x == y)) (one_to v cs n l e) ∙ ap (λ z. not (n == 1) || (z == y)) f ∙ ap (λ z. not (n == 1) || (m == z)) g
