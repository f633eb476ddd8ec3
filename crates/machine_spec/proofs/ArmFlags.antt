-- The rows of ARM that set flags are lawful: multiplies.
use Rattle.std.proofs.Common.{◌≡◌, ℕ, zero, suc, ◌/◌, ◌%◌, ◌^◌, ◌<◌, refl, sym, ◌∙◌, true, false, Bool, arith, None}
use Rattle.std.specs.Prelude.{◌==◌, ◌&&◌, ◌||◌, not, if◌then◌else◌}
use Rattle.std.proofs.lemmas.Bool.{ne_eqb, eqb-true}
use Rattle.machine_spec.proofs.WordBounds.{bit_below}
use Rattle.machine_spec.proofs.LoadedBytes.{kept_same}
use Rattle.machine_spec.proofs.ArmConditional.{conditional}
use Rattle.machine_spec.proofs.ArmRanges.{mod_word, put_below, with_flags_small}
use Rattle.word_spec.specs.Words.{bit_at}
use Rattle.word_spec.specs.State.{State, put}
use Rattle.machine_spec.specs.Machine.{only_next}
use Rattle.machine_spec.specs.Arm.{with_flags, sets_flags, by_choice, flag_set, none, multiplied, multiply, multiplied_long, multiply_long, field_n, field_d}
use Rattle.machine_spec.specs.MachineLaws.{IsLawful}

pub bit_at_small : (i v : ℕ) → bit_at i v < 2
bit_at_small i v = omega arith

-- a set of flags has none but the four lowest
-- as one test after another, a set of flags has none but the four lowest
set_by : (nz c v n z b d : Bool) → n ≡ false → z ≡ false → b ≡ false → d ≡ false → (nz && (n || (z || false))) || (c && b) || (v && d) ≡ false
set_by true true true n z b d p q r t = rw p (rw q (rw r (rw t refl)))
set_by true true false n z b d p q r t = rw p (rw q (rw r refl))
set_by true false true n z b d p q r t = rw p (rw q (rw t refl))
set_by true false false n z b d p q r t = rw p (rw q refl)
set_by false true true n z b d p q r t = rw r (rw t refl)
set_by false true false n z b d p q r t = rw r refl
set_by false false true n z b d p q r t = t
set_by false false false n z b d p q r t = refl

high_unset : (nz c v : Bool) (f : ℕ) → flag_set nz c v (suc (suc (suc (suc f)))) ≡ false
high_unset nz c v f =
    let g = suc (suc (suc (suc f))) in
    set_by nz c v (3 == g) (2 == g) (g == 1) (g == 0) (ne_eqb 3 g (λ e. omega arith)) (ne_eqb 2 g (λ e. omega arith)) (ne_eqb g 1
    (λ e. omega arith)) (ne_eqb g 0 (λ e. omega arith))

pub set_low : (nz c v : Bool) (f : ℕ) → flag_set nz c v f ≡ true → f < 4
set_low nz c v zero h = omega arith
set_low nz c v (suc zero) h = omega arith
set_low nz c v (suc (suc zero)) h = omega arith
set_low nz c v (suc (suc (suc zero))) h = omega arith
set_low nz c v (suc (suc (suc (suc f)))) h = let e : false ≡ true = sym (high_unset nz c v f) ∙ h in cc

-- the flags where a row sets them, or not
abbrev pub flags_if : (sets : Bool) → (ℕ → ℕ) → (n z c v : ℕ) → ℕ → ℕ
flags_if sets f n z c v = if sets then with_flags f n z c v else f

pub flags_if_small : (sets : Bool) (f : ℕ → ℕ) (n z c v : ℕ) → ((k : ℕ) → f k < 2) → n < 2 → z < 2 → c < 2 → v < 2 → (k : ℕ) → flags_if sets f n z c v k < 2
flags_if_small true f n z c v h p q r t k = with_flags_small f n z c v h p q r t k
flags_if_small false f n z c v h p q r t k = h k

pub kept_flag : (f : ℕ → ℕ) (at v k : ℕ) → (k ≡ at → ⊥) → f k ≡ put f at v k
kept_flag f at v k other = rw (ne_eqb k at other) refl

put_agree : (f g : ℕ → ℕ) (at v u k : ℕ) → (k ≡ at → v ≡ u) → f k ≡ g k → put f at v k ≡ put g at u k
put_agree f g at v u k p q = by_test (k == at) refl
  where
    by_test : (b : Bool) → (k == at) ≡ b → (if b then v else f k) ≡ (if b then u else g k)
    by_test true e = p (eqb-true k at e)
    by_test false e = q

-- two states' flags that are set are the same but for one, where what is set is the same but for it
pub flags_agree : (sets : Bool) (g : ℕ → ℕ) (f x n z c v m y d u : ℕ) → ((3 ≡ f → ⊥) → n ≡ m) → ((2 ≡ f → ⊥) → z ≡ y) → ((1 ≡ f → ⊥) → c ≡ d) →
    ((0 ≡ f → ⊥) → v ≡ u) →
    (k : ℕ) → (k ≡ f → ⊥) → flags_if sets g n z c v k ≡ flags_if sets (put g f x) m y d u k
flags_agree false g f x n z c v m y d u hn hz hc hv k other = kept_flag g f x k other
flags_agree true g f x n z c v m y d u hn hz hc hv k other =
    let h = put g f x in
    put_agree (put (put (put g 3 n) 2 z) 1 c) (put (put (put h 3 m) 2 y) 1 d) 0 v u k (λ e. hv (λ t. other (e ∙ t)))
    (put_agree (put (put g 3 n) 2 z) (put (put h 3 m) 2 y) 1 c d k (λ e. hc (λ t. other (e ∙ t)))
    (put_agree (put g 3 n) (put h 3 m) 2 z y k (λ e. hz (λ t. other (e ∙ t)))
    (put_agree g h 3 n m k (λ e. hn (λ t. other (e ∙ t))) (kept_flag g f x k other))))

-- a flag that is kept, or is the choice's bit
kept_or_small : (keeps : Bool) (a d : ℕ) → a < 2 → d < 2 → (if keeps then a else d) < 2
kept_or_small true a d p q = p
kept_or_small false a d p q = q

kept_or_same : (keeps : Bool) (g : ℕ → ℕ) (f x at d : ℕ) → (at ≡ f → ⊥) → (if keeps then g at else d) ≡ (if keeps then put g f x at else d)
kept_or_same true g f x at d other = kept_flag g f x at other
kept_or_same false g f x at d other = refl

-- MUL and MLA
mul_unassigned : (keeps sets : Bool) (g : ℕ → ℕ) (n z c f : ℕ) → f < 4 → flag_set sets (not keeps && sets) false f ≡ false →
    flags_if sets g n z (if keeps then g 1 else c) (g 0) f ≡ g f
mul_unassigned keeps false g n z c f lt h = refl
mul_unassigned keeps true g n z c zero lt h = refl
mul_unassigned true true g n z c (suc zero) lt h = refl
mul_unassigned false true g n z c (suc zero) lt h = cc
mul_unassigned keeps true g n z c (suc (suc zero)) lt h = cc
mul_unassigned keeps true g n z c (suc (suc (suc zero))) lt h = cc
mul_unassigned keeps true g n z c (suc (suc (suc (suc f)))) lt h = absurd (omega arith)

mul_sure : (keeps sets : Bool) (g h : ℕ → ℕ) (n z c v u f : ℕ) → f < 4 → flag_set sets (not keeps && sets) false f ≡ true →
    flags_if sets g n z (if keeps then g 1 else c) v f ≡ flags_if sets h n z (if keeps then h 1 else c) u f
mul_sure true false g h n z c v u zero lt e = cc
mul_sure true false g h n z c v u (suc f) lt e = cc
mul_sure false false g h n z c v u zero lt e = cc
mul_sure false false g h n z c v u (suc f) lt e = cc
mul_sure true true g h n z c v u zero lt e = cc
mul_sure false true g h n z c v u zero lt e = cc
mul_sure true true g h n z c v u (suc zero) lt e = cc
mul_sure false true g h n z c v u (suc zero) lt e = refl
mul_sure keeps true g h n z c v u (suc (suc zero)) lt e = refl
mul_sure keeps true g h n z c v u (suc (suc (suc zero))) lt e = refl
mul_sure keeps true g h n z c v u (suc (suc (suc (suc f)))) lt e = absurd (omega arith)

multiplied_draws : (keeps : Bool) (w : ℕ) → by_choice keeps w ≡ false → (s : State) (c d : ℕ) → multiplied keeps w s c ≡ multiplied keeps w s d
multiplied_draws true w h s c d = refl
multiplied_draws false w h s c d = let k : sets_flags w ≡ false = h in rw k refl

pub multiply_lawful : (keeps : Bool) (w : ℕ) → IsLawful (multiply keeps w)
multiply_lawful keeps w =
    conditional w (multiplied keeps w) (λ b s. None) (λ b s. None) only_next (λ at. None) (record { row = 20000; loads = 0; stores = 0 })
    none (flag_set (sets_flags w) (by_choice keeps w) false) (flag_set (sets_flags w) (by_choice keeps w) false) (by_choice keeps w) false
    (record { least = omega arith; most = omega arith; loads = omega arith; stores = omega arith }) (λ b s. omega arith) (λ b s is. tt) (λ l at. cc) (record {
      kept = λ s c is a lt out. refl;
      raised = λ s c is. tt;
      ways = λ s c is. (refl, refl);
      skips = λ at h. refl;
      one_way = λ at h. refl;
      states = λ s c is. record {
        pc = mod_word _;
        regs = put_below s.regs (field_n w) _ (2 ^ 32) is.regs (mod_word _);
        flags = flags_if_small (sets_flags w) s.flags _ _ _ (s.flags 0) is.flags (bit_at_small 31 _) (bit_below _)
            (kept_or_small keeps _ _ (is.flags 1) (bit_at_small 0 c)) (is.flags 0);
        mem = is.mem;
      };
      unassigned = λ s c f lt h. mul_unassigned keeps (sets_flags w) s.flags _ _ (bit_at 0 c) f lt h;
      unread = λ s c f v lt h. (
        refl,
        record {
          pc = refl;
          regs = refl;
          mem = refl;
          flags = flags_agree (sets_flags w) s.flags f v _ _ _ (s.flags 0) _ _ _ (put s.flags f v 0) (λ e. refl) (λ e. refl)
              (kept_or_same keeps s.flags f v 1 (bit_at 0 c)) (kept_flag s.flags f v 0);
        },
      );
      sure = λ s c f v lt h surely. mul_sure keeps (sets_flags w) s.flags (put s.flags f v) _ _ (bit_at 0 c) (s.flags 0) (put s.flags f v 0) f lt surely;
      sure_flags = λ f surely. set_low (sets_flags w) (by_choice keeps w) false f surely;
      draws = multiplied_draws keeps w;
      plain = λ f h b s. refl;
      stored_unread = λ b s f v h. refl;
      idle = λ s. refl;
      steady = λ b s m. (refl, refl);
      loads = λ s m c is same. (refl, refl, refl, refl, λ a lt e. kept_same a s.mem m e);
      unloaded = λ s c is. tt;
    })

-- UMULL to SMLAL
long_unassigned : (keeps sets : Bool) (g : ℕ → ℕ) (n z c v f : ℕ) → f < 4 → flag_set sets (not keeps && sets) (not keeps && sets) f ≡ false →
    flags_if sets g n z (if keeps then g 1 else c) (if keeps then g 0 else v) f ≡ g f
long_unassigned keeps false g n z c v f lt h = refl
long_unassigned true true g n z c v zero lt h = refl
long_unassigned false true g n z c v zero lt h = cc
long_unassigned true true g n z c v (suc zero) lt h = refl
long_unassigned false true g n z c v (suc zero) lt h = cc
long_unassigned keeps true g n z c v (suc (suc zero)) lt h = cc
long_unassigned keeps true g n z c v (suc (suc (suc zero))) lt h = cc
long_unassigned keeps true g n z c v (suc (suc (suc (suc f)))) lt h = absurd (omega arith)

long_sure : (keeps sets : Bool) (g h : ℕ → ℕ) (n z c v f : ℕ) → f < 4 → flag_set sets (not keeps && sets) (not keeps && sets) f ≡ true →
    flags_if sets g n z (if keeps then g 1 else c) (if keeps then g 0 else v) f ≡ flags_if sets h n z (if keeps then h 1 else c) (if keeps then h 0 else v) f
long_sure true false g h n z c v zero lt e = cc
long_sure true false g h n z c v (suc f) lt e = cc
long_sure false false g h n z c v zero lt e = cc
long_sure false false g h n z c v (suc f) lt e = cc
long_sure true true g h n z c v zero lt e = cc
long_sure false true g h n z c v zero lt e = refl
long_sure true true g h n z c v (suc zero) lt e = cc
long_sure false true g h n z c v (suc zero) lt e = refl
long_sure keeps true g h n z c v (suc (suc zero)) lt e = refl
long_sure keeps true g h n z c v (suc (suc (suc zero))) lt e = refl
long_sure keeps true g h n z c v (suc (suc (suc (suc f)))) lt e = absurd (omega arith)

multiplied_long_draws : (keeps : Bool) (w : ℕ) → by_choice keeps w ≡ false → (s : State) (c d : ℕ) → multiplied_long keeps w s c ≡ multiplied_long keeps w s d
multiplied_long_draws true w h s c d = refl
multiplied_long_draws false w h s c d = let k : sets_flags w ≡ false = h in rw k refl

upper_small : (a : ℕ) → a % 2 ^ 64 / 2 ^ 32 < 2 ^ 32
upper_small a = omega arith

pub multiply_long_lawful : (keeps : Bool) (w : ℕ) → IsLawful (multiply_long keeps w)
multiply_long_lawful keeps w =
    conditional w (multiplied_long keeps w) (λ b s. None) (λ b s. None) only_next (λ at. None) (record { row = 20000; loads = 0; stores = 0 })
    none (flag_set (sets_flags w) (by_choice keeps w) (by_choice keeps w)) (flag_set (sets_flags w) (by_choice keeps w) (by_choice keeps w)) (by_choice keeps w) false
    (record { least = omega arith; most = omega arith; loads = omega arith; stores = omega arith }) (λ b s. omega arith) (λ b s is. tt) (λ l at. cc) (record {
      kept = λ s c is a lt out. refl;
      raised = λ s c is. tt;
      ways = λ s c is. (refl, refl);
      skips = λ at h. refl;
      one_way = λ at h. refl;
      states = λ s c is. record {
        pc = mod_word _;
        regs = put_below _ (field_n w) _ (2 ^ 32) (put_below s.regs (field_d w) _ (2 ^ 32) is.regs (mod_word _)) (upper_small _);
        flags = flags_if_small (sets_flags w) s.flags _ _ _ _ is.flags (bit_at_small 63 _) (bit_below _)
            (kept_or_small keeps _ _ (is.flags 1) (bit_at_small 0 c)) (kept_or_small keeps _ _ (is.flags 0) (bit_at_small 1 c));
        mem = is.mem;
      };
      unassigned = λ s c f lt h. long_unassigned keeps (sets_flags w) s.flags _ _ (bit_at 0 c) (bit_at 1 c) f lt h;
      unread = λ s c f v lt h. (
        refl,
        record {
          pc = refl;
          regs = refl;
          mem = refl;
          flags = flags_agree (sets_flags w) s.flags f v _ _ _ _ _ _ _ _ (λ e. refl) (λ e. refl)
              (kept_or_same keeps s.flags f v 1 (bit_at 0 c)) (kept_or_same keeps s.flags f v 0 (bit_at 1 c));
        },
      );
      sure = λ s c f v lt h surely. long_sure keeps (sets_flags w) s.flags (put s.flags f v) _ _ (bit_at 0 c) (bit_at 1 c) f lt surely;
      sure_flags = λ f surely. set_low (sets_flags w) (by_choice keeps w) (by_choice keeps w) f surely;
      draws = multiplied_long_draws keeps w;
      plain = λ f h b s. refl;
      stored_unread = λ b s f v h. refl;
      idle = λ s. refl;
      steady = λ b s m. (refl, refl);
      loads = λ s m c is same. (refl, refl, refl, refl, λ a lt e. kept_same a s.mem m e);
      unloaded = λ s c is. tt;
    })
