-- Blocks that are shown, as lists.
use Rattle.std.proofs.Common.{◌≡◌, ℕ, zero, suc, ◌<◌, List, [], ◌∷◌, ◌++◌, length, get_or, map, Bool, true, false, Some, None, refl, sym, ap, ◌∙◌, subst, arith}
use Rattle.std.specs.Prelude.{◌==◌, All, AllPairs, Contains, filter, if◌then◌else◌}
use Rattle.std.proofs.lemmas.Bool.Decides.{nat_tests}
use Rattle.std.proofs.lemmas.List.Elements.{All-cons, All-nil}
use Rattle.word_spec.specs.Memory.{byte_in}
use Rattle.machine_spec.specs.StateText.{Layout}
use Rattle.frame_spec.specs.Frames.{Content, IsContent}
use Rattle.frame_spec.specs.FrameReports.{WrittenCall, gifts}
use Rattle.frame_texts_spec.specs.CallReplays.{block_at}
use Rattle.state_text.specs.Starts.{written_call_of}
use Rattle.state_text.specs.declared.start.CallState.{CallState}
use Rattle.table_run.specs.CalledFrames.{IsBlock}
use Rattle.table_run.proofs.ContractSteps.{given_is}

abbrev pub AreInOrder : List WrittenCall → Type 0
AreInOrder calls = AllPairs (λ x y. x.step < y.step) calls

-- ---- blocks by their steps

-- the block of a step is one of the list
pub block_one : (P : WrittenCall → Type 0) (calls : List WrittenCall) (n : ℕ) (w : WrittenCall) → All P calls → block_at calls n ≡ Some w → P w × (w.step ≡ n)
block_one P [] n w all is = absurd (cc)
block_one P (c ∷ rest) n w all is = by (c.step == n) refl is (λ e. block_one P rest n w (λ i d l. all (suc i) d (omega (arith, l))) e)
  where
    by : (b : Bool) → (c.step == n) ≡ b → (if b then Some c else block_at rest n) ≡ Some w →
        (block_at rest n ≡ Some w → P w × (w.step ≡ n)) → P w × (w.step ≡ n)
    by true t is later =
        let e : c ≡ w = cc in
        let at : c.step ≡ n = grind (arith, nat_tests, t) in
        (subst P e (all 0 c (omega arith)), ap (λ (x : WrittenCall). x.step) (sym e) ∙ at)
    by false t is later = later is

-- a listed block is that of its step
pub block_listed : (calls : List WrittenCall) (n : ℕ) (w : WrittenCall) → AreInOrder calls → Contains calls w → w.step ≡ n → block_at calls n ≡ Some w
block_listed [] n w rising (i, l, e) at = absurd (omega (arith, l))
block_listed (c ∷ rest) n w rising (i, l, e) at =
    by (c.step == n) refl i l e
    (λ j h. block_listed rest n w (λ a b d less within. rising (suc a) (suc b) d (omega (arith, less)) (omega (arith, within))) (j, h.0, h.1) at)
  where
    by : (b : Bool) → (c.step == n) ≡ b → (i : ℕ) → i < length (c ∷ rest) → get_or (c ∷ rest) i w ≡ w →
        ((j : ℕ) → (j < length rest) × (get_or rest j w ≡ w) → block_at rest n ≡ Some w) → (if b then Some c else block_at rest n) ≡ Some w
    by true t zero l e more = ap (λ (x : WrittenCall). Some x) e
    by true t (suc i) l e more =
        let first : c.step ≡ n = grind (arith, nat_tests, t) in
        let less : c.step < (get_or rest i w).step = rising 0 (suc i) w (omega arith) l in
        let same : (get_or rest i w).step ≡ n = ap (λ (x : WrittenCall). x.step) e ∙ at in
        absurd (omega (arith, first, less, same))
    by false t zero l e more =
        let same : c.step ≡ n = ap (λ (x : WrittenCall). x.step) e ∙ at in absurd (grind (arith, nat_tests, t, same))
    by false t (suc i) l e more = more i (omega (arith, l), e)

-- no block of a later step
pub block_later : (calls : List WrittenCall) (n : ℕ) → All (λ w. w.step < n) calls → block_at calls n ≡ None
block_later [] n few = refl
block_later (c ∷ rest) n few =
    let less = few 0 c (omega arith) in
    let other : (c.step == n) ≡ false = grind (arith, nat_tests, less) in
    ap (λ b. if b then Some c else block_at rest n) other ∙ block_later rest n (λ i d l. few (suc i) d (omega (arith, l)))

-- of two lists in a row, the block is that of the first one where it has one
pub block_first : (xs ys : List WrittenCall) (n : ℕ) (w : WrittenCall) → block_at xs n ≡ Some w → block_at (xs ++ ys) n ≡ Some w
block_first [] ys n w is = absurd (cc)
block_first (x ∷ xs) ys n w is = by (x.step == n) is (block_first xs ys n w)
  where
    by : (b : Bool) → (if b then Some x else block_at xs n) ≡ Some w → (block_at xs n ≡ Some w → block_at (xs ++ ys) n ≡ Some w) →
        (if b then Some x else block_at (xs ++ ys) n) ≡ Some w
    by true is more = is
    by false is more = more is

pub block_second : (xs ys : List WrittenCall) (n : ℕ) → block_at xs n ≡ None → block_at (xs ++ ys) n ≡ block_at ys n
block_second [] ys n none = refl
block_second (x ∷ xs) ys n none = by (x.step == n) none (block_second xs ys n)
  where
    by : (b : Bool) → (if b then Some x else block_at xs n) ≡ None → (block_at xs n ≡ None → block_at (xs ++ ys) n ≡ block_at ys n) →
        (if b then Some x else block_at (xs ++ ys) n) ≡ block_at ys n
    by true none more = absurd (cc)
    by false none more = more none

pub block_only : (w : WrittenCall) (n : ℕ) → w.step ≡ n → block_at (w ∷ []) n ≡ Some w
block_only w n at = let same : (w.step == n) ≡ true = grind (arith, nat_tests, at) in ap (λ b. if b then Some w else None) same

-- ---- what blocks give

pub gift_content : (form : Layout) (registers : ℕ → List ℕ) (calls : List WrittenCall) (n : ℕ) → All (IsBlock form) calls →
    IsContent (gifts registers calls n)
gift_content form registers [] n all = record { regs = λ r. (omega arith); flags = λ i. (omega arith); mem = λ a. (omega arith) }
gift_content form registers (c ∷ rest) n all =
    by (c.step == n) (given_is form (registers c.at) c (all 0 c (omega arith)))
    (gift_content form registers rest n (λ i d l. all (suc i) d (omega (arith, l))))
  where
    below : (b : Bool) {u v m : ℕ} → u < m → v < m → (if b then u else v) < m
    below true one other = one
    below false one other = other

    by : (b : Bool) {g h : Content} → IsContent g → IsContent h → IsContent (record {
      regs = λ r. if b then g.regs r else h.regs r;
      flags = λ i. if b then g.flags i else h.flags i;
      mem = λ a. if b then g.mem a else h.mem a;
    })
    by b one other = record {
      regs = λ r. below b (one.regs r) (other.regs r);
      flags = λ i. below b (one.flags i) (other.flags i);
      mem = λ a. below b (one.mem a) (other.mem a);
    }

-- a byte of a block that passes a test of its address
pub byte_passed : (test : ℕ → Bool) (bytes : List (ℕ × ℕ)) (a : ℕ) → test a ≡ true → byte_in (filter (λ (b : ℕ × ℕ). test b.0) bytes) a ≡ byte_in bytes a
byte_passed test [] a passes = refl
byte_passed test (e ∷ rest) a passes = by (test e.0) refl (a == e.0) refl (byte_passed test rest a passes)
  where
    by : (t : Bool) → test e.0 ≡ t → (b : Bool) → (a == e.0) ≡ b → byte_in (filter (λ (x : ℕ × ℕ). test x.0) rest) a ≡ byte_in rest a →
        byte_in (if t then e ∷ filter (λ (x : ℕ × ℕ). test x.0) rest else filter (λ (x : ℕ × ℕ). test x.0) rest) a
        ≡ (if b then e.1 else byte_in rest a)
    by true t true s more = ap (λ b. if b then e.1 else byte_in (filter (λ (x : ℕ × ℕ). test x.0) rest) a) s
    by true t false s more = ap (λ b. if b then e.1 else byte_in (filter (λ (x : ℕ × ℕ). test x.0) rest) a) s ∙ more
    by false t true s more =
        let same : a ≡ e.0 = grind (arith, nat_tests, s) in
        let no : true ≡ false = sym passes ∙ ap test same ∙ t in absurd (cc)
    by false t false s more = more

-- and each byte that is left passes it
pub all_passed : (test : ℕ → Bool) (bytes : List (ℕ × ℕ)) → All (λ b. test b.0 ≡ true) (filter (λ (b : ℕ × ℕ). test b.0) bytes)
all_passed test [] = All-nil (λ (b : ℕ × ℕ). test b.0 ≡ true)
all_passed test (e ∷ rest) = by (test e.0) refl (all_passed test rest)
  where
    by : (t : Bool) → test e.0 ≡ t → All (λ b. test b.0 ≡ true) (filter (λ (b : ℕ × ℕ). test b.0) rest) →
        All (λ b. test b.0 ≡ true) (if t then e ∷ filter (λ (b : ℕ × ℕ). test b.0) rest else filter (λ (b : ℕ × ℕ). test b.0) rest)
    by true is more = All-cons (λ (b : ℕ × ℕ). test b.0 ≡ true) e (filter (λ (b : ℕ × ℕ). test b.0) rest) is more
    by false is more = more

-- ---- lists of the code

at_place : {X Y : Type 0} (f : X → Y) (xs : List X) (i : ℕ) (d : Y) (e : X) → i < length xs → get_or (map f xs) i d ≡ f (get_or xs i e)
at_place f [] i d e less = absurd (omega (arith, less))
at_place f (x ∷ xs) zero d e less = refl
at_place f (x ∷ xs) (suc i) d e less = at_place f xs i d e (omega (arith, less))

long_map : {X Y : Type 0} (f : X → Y) (xs : List X) → length (map f xs) ≡ length xs
long_map f [] = refl
long_map f (x ∷ xs) = ap suc (long_map f xs)

-- blocks in rising order
pub rising_calls : (calls : List CallState) → AllPairs (λ x y. x.step < y.step) calls → AreInOrder (map written_call_of calls)
rising_calls [] rising i j d less within = absurd (omega (arith, within))
rising_calls (c ∷ rest) rising i j d less within =
    let long = long_map written_call_of rest in
    let upto : j < length (c ∷ rest) = omega (arith, within, long) in
    let low : i < length (c ∷ rest) = omega (arith, less, upto) in
    let r = rising i j c less upto in
    let one = ap (λ (w : WrittenCall). w.step) (at_place written_call_of (c ∷ rest) i d c low) in
    let two = ap (λ (w : WrittenCall). w.step) (at_place written_call_of (c ∷ rest) j d c upto) in
    omega (arith, r, one, two)

pub calls_rising : (calls : List CallState) → AreInOrder (map written_call_of calls) → AllPairs (λ x y. x.step < y.step) calls
calls_rising calls rising i j d less within =
    let long = long_map written_call_of calls in
    let upto : j < length (map written_call_of calls) = omega (arith, within, long) in
    let low : i < length calls = omega (arith, less, within) in
    let r = rising i j (written_call_of d) less upto in
    let one = ap (λ (w : WrittenCall). w.step) (at_place written_call_of calls i (written_call_of d) d low) in
    let two = ap (λ (w : WrittenCall). w.step) (at_place written_call_of calls j (written_call_of d) d within) in
    omega (arith, r, one, two)
