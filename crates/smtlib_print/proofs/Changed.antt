-- The names of registers and flags that a contract may change.
use Rattle.std.proofs.Common.{◌≡◌, ℕ, zero, suc, ◌+◌, ◌-◌, ◌<◌, refl, ap, sym, ◌∙◌, arith, true, false, Bool, List, [], ◌∷◌, ◌++◌, length}
use Rattle.std.specs.Prelude.{◌&&◌, ◌||◌, not, codes, if◌then◌else◌, nat_eq}
use Rattle.std.specs.List.{list_any}
use Rattle.std.specs.Str.{bytes_eq}
use Rattle.machine_spec.proofs.Spelling.{same_text}
use Rattle.machine_spec.specs.StateText.{Layout, value_names}
use Rattle.frame_spec.specs.Frames.{Writes}
use Rattle.frame_spec.specs.FrameScripts.{changed_flags, changed_registers, given_names, writes_some, written_memory}
use Rattle.smtlib_print.proofs.Declared.{both_true, is_false}
use Rattle.smtlib_print.proofs.Defined.{among}
use Rattle.smtlib_print.proofs.Layouts.{IsUsable, among_left, among_right, are_distinct, name_at}
use Rattle.smtlib_print.proofs.Drawn.{or_true}
use Rattle.smtlib_print.proofs.Names.{text_of}
use Rattle.smtlib_print.proofs.Valued.{not_memory}

either : {P : Type 0} (a b : Bool) → (a ≡ true → P) → (b ≡ true → P) → (a || b) ≡ true → P
either true b f g h = f refl
either false b f g h = g h

pub and_both : (a b : Bool) → a ≡ true → b ≡ true → (a && b) ≡ true
and_both a b h k = rw h k

not_false : (a : Bool) → a ≡ false → not a ≡ true
not_false a h = ap not h

-- the first of a list, or none
one_among : (t : Bool) (w v : List ℕ) (ws : List (List ℕ)) → among (if t then w ∷ ws else ws) v ≡ true → among (w ∷ ws) v ≡ true
one_among true w v ws h = h
one_among false w v ws h = or_true (bytes_eq v w) (among ws v) h

later_among : (t : Bool) (w v : List ℕ) (ws : List (List ℕ)) → among ws v ≡ true → among (if t then w ∷ ws else ws) v ≡ true
later_among true w v ws h = or_true (bytes_eq v w) (among ws v) h
later_among false w v ws h = h

first_among : (t : Bool) (w : List ℕ) (ws : List (List ℕ)) → t ≡ true → among (if t then w ∷ ws else ws) w ≡ true
first_among t w ws h = rw (h, same_text w) refl

-- registers by their places
pub register_among : (changed : List ℕ) (r : ℕ) (names : List (List ℕ)) (i : ℕ) → i < length names → list_any (nat_eq (r + i)) changed ≡ true →
    among (changed_registers changed r names) (name_at names i) ≡ true
register_among changed r [] i l h = absurd (omega (arith, l))
register_among changed r (w ∷ names) zero l h =
    let z : r + 0 ≡ r = omega arith in
    first_among (list_any (nat_eq r) changed) w (changed_registers changed (r + 1) names) (sym (ap (λ q. list_any (nat_eq q) changed) z) ∙ h)
register_among changed r (w ∷ names) (suc i) l h =
    let z : r + 1 + i ≡ r + suc i = omega arith in
    later_among (list_any (nat_eq r) changed) w (name_at names i) (changed_registers changed (r + 1) names)
    (register_among changed (r + 1) names i (omega (arith, l)) (ap (λ q. list_any (nat_eq q) changed) z ∙ h))

-- flags by their places
pub flag_among : (changed : List ℕ) (names : List (List ℕ)) (i : ℕ) → i < length names → list_any (nat_eq (length names - 1 - i)) changed ≡ true →
    among (changed_flags changed names) (name_at names i) ≡ true
flag_among changed [] i l h = absurd (omega (arith, l))
flag_among changed (w ∷ names) zero l h =
    let z : length (w ∷ names) - 1 - 0 ≡ length names = omega arith in
    first_among (list_any (nat_eq (length names)) changed) w (changed_flags changed names) (sym (ap (λ q. list_any (nat_eq q) changed) z) ∙ h)
flag_among changed (w ∷ names) (suc i) l h =
    let z : length names - 1 - i ≡ length (w ∷ names) - 1 - suc i = omega (arith, l) in
    later_among (list_any (nat_eq (length names)) changed) w (name_at names i) (changed_flags changed names)
    (flag_among changed names i (omega (arith, l)) (ap (λ q. list_any (nat_eq q) changed) z ∙ h))

-- they are among all names
widened : (w : List ℕ) (ws vs : List (List ℕ)) → ((v : List ℕ) → among ws v ≡ true → among vs v ≡ true) → (v : List ℕ) → among (w ∷ ws) v ≡ true →
    among (w ∷ vs) v ≡ true
widened w ws vs more v h =
    either (bytes_eq v w) (among ws v) (λ e. rw e refl) (λ a. or_true (bytes_eq v w) (among vs v) (more v a)) h

pub registers_within : (changed : List ℕ) (r : ℕ) (names : List (List ℕ)) (v : List ℕ) → among (changed_registers changed r names) v ≡ true →
    among names v ≡ true
registers_within changed r [] v h = h
registers_within changed r (w ∷ names) v h =
    widened w (changed_registers changed (r + 1) names) names (registers_within changed (r + 1) names) v
    (one_among (list_any (nat_eq r) changed) w v (changed_registers changed (r + 1) names) h)

pub flags_within : (changed : List ℕ) (names : List (List ℕ)) (v : List ℕ) → among (changed_flags changed names) v ≡ true → among names v ≡ true
flags_within changed [] v h = h
flags_within changed (w ∷ names) v h =
    widened w (changed_flags changed names) names (flags_within changed names) v
    (one_among (list_any (nat_eq (length names)) changed) w v (changed_flags changed names) h)

-- no two are the same
not_listed : (ws vs : List (List ℕ)) (w : List ℕ) → ((v : List ℕ) → among ws v ≡ true → among vs v ≡ true) → among vs w ≡ false → among ws w ≡ false
not_listed ws vs w more h = by (among ws w) refl
  where
    by : (b : Bool) → among ws w ≡ b → among ws w ≡ false
    by true e = absurd (let t : true ≡ false = sym (more w e) ∙ h in cc)
    by false e = e

one_distinct : (t : Bool) (w : List ℕ) (ws : List (List ℕ)) → among ws w ≡ false → are_distinct ws ≡ true → are_distinct (if t then w ∷ ws else ws) ≡ true
one_distinct true w ws h d = and_both (not (among ws w)) (are_distinct ws) (not_false (among ws w) h) d
one_distinct false w ws h d = d

registers_distinct : (changed : List ℕ) (r : ℕ) (names : List (List ℕ)) → are_distinct names ≡ true → are_distinct (changed_registers changed r names) ≡ true
registers_distinct changed r [] d = refl
registers_distinct changed r (w ∷ names) d =
    let t = both_true (not (among names w)) (are_distinct names) d in
    one_distinct (list_any (nat_eq r) changed) w (changed_registers changed (r + 1) names)
    (not_listed (changed_registers changed (r + 1) names) names w (registers_within changed (r + 1) names) (is_false (among names w) t.0))
    (registers_distinct changed (r + 1) names t.1)

flags_distinct : (changed : List ℕ) (names : List (List ℕ)) → are_distinct names ≡ true → are_distinct (changed_flags changed names) ≡ true
flags_distinct changed [] d = refl
flags_distinct changed (w ∷ names) d =
    let t = both_true (not (among names w)) (are_distinct names) d in
    one_distinct (list_any (nat_eq (length names)) changed) w (changed_flags changed names)
    (not_listed (changed_flags changed names) names w (flags_within changed names) (is_false (among names w) t.0))
    (flags_distinct changed names t.1)

-- what is among two lists is among one of them
pub among_either : {P : Type 0} (v w : List (List ℕ)) (n : List ℕ) → (among v n ≡ true → P) → (among w n ≡ true → P) → among (v ++ w) n ≡ true → P
among_either [] w n f g h = g h
among_either (m ∷ v) w n f g h =
    either (bytes_eq n m) (among (v ++ w) n) (λ e. f (rw e refl)) (among_either v w n (λ e. f (or_true (bytes_eq n m) (among v n) e)) g) h

pub in_neither : (v w : List (List ℕ)) (n : List ℕ) → among v n ≡ false → among w n ≡ false → among (v ++ w) n ≡ false
in_neither v w n h k = by (among (v ++ w) n) refl
  where
    by : (b : Bool) → among (v ++ w) n ≡ b → among (v ++ w) n ≡ false
    by true e =
        among_either v w n (λ a. absurd (let t : true ≡ false = sym a ∙ h in cc)) (λ a. absurd (let t : true ≡ false = sym a ∙ k in cc)) e
    by false e = e

-- lists of which no name of the first is one of the second
pub distinct_both : (v w : List (List ℕ)) → are_distinct v ≡ true → are_distinct w ≡ true → ((n : List ℕ) → among v n ≡ true → among w n ≡ false) →
    are_distinct (v ++ w) ≡ true
distinct_both [] w d e apart = e
distinct_both (n ∷ v) w d e apart =
    let t = both_true (not (among v n)) (are_distinct v) d in
    and_both (not (among (v ++ w) n)) (are_distinct (v ++ w))
    (not_false (among (v ++ w) n) (in_neither v w n (is_false (among v n) t.0) (apart n (rw (same_text n) refl))))
    (distinct_both v w t.1 e (λ m h. apart m (or_true (bytes_eq m n) (among v m) h)))

-- the parts of a list of which no two names are the same
distinct_first : (v w : List (List ℕ)) → are_distinct (v ++ w) ≡ true → are_distinct v ≡ true
distinct_first [] w d = refl
distinct_first (n ∷ v) w d =
    let t = both_true (not (among (v ++ w) n)) (are_distinct (v ++ w)) d in
    and_both (not (among v n)) (are_distinct v)
    (not_false (among v n) (not_listed v (v ++ w) n (λ m h. among_left v w m h) (is_false (among (v ++ w) n) t.0))) (distinct_first v w t.1)

distinct_second : (v w : List (List ℕ)) → are_distinct (v ++ w) ≡ true → are_distinct w ≡ true
distinct_second [] w d = d
distinct_second (n ∷ v) w d = distinct_second v w (both_true (not (among (v ++ w) n)) (are_distinct (v ++ w)) d).1

distinct_apart : (v w : List (List ℕ)) → are_distinct (v ++ w) ≡ true → (n : List ℕ) → among v n ≡ true → among w n ≡ false
distinct_apart [] w d n h = absurd (cc h)
distinct_apart (m ∷ v) w d n h =
    let t = both_true (not (among (v ++ w) m)) (are_distinct (v ++ w)) d in
    either (bytes_eq n m) (among v n)
    (λ e. not_listed w (v ++ w) n (λ k a. among_right v w k a) (ap (among (v ++ w)) (text_of n m e) ∙ is_false (among (v ++ w) m) t.0))
    (distinct_apart v w t.1 n) h

-- that of the memory is another one
memory_within : (t : Bool) (v : List ℕ) → among (written_memory t) v ≡ true → v ≡ codes "mem"
memory_within true v h = either (bytes_eq v (codes "mem")) false (λ e. text_of v (codes "mem") e) (λ e. absurd (cc e)) h
memory_within false v h = absurd (cc h)

memory_distinct : (t : Bool) → are_distinct (written_memory t) ≡ true
memory_distinct true = refl
memory_distinct false = refl

memory_apart : (names : List (List ℕ)) (t : Bool) (n : List ℕ) → among names (codes "mem") ≡ false → among names n ≡ true → among (written_memory t) n ≡ false
memory_apart names t n none h =
    not_listed (written_memory t) (codes "mem" ∷ []) n (λ v a. (let e = memory_within t v a in rw (e) refl)) (single n none h)
  where
    single : (n : List ℕ) → among names (codes "mem") ≡ false → among names n ≡ true → among (codes "mem" ∷ []) n ≡ false
    single n none h = by (bytes_eq n (codes "mem")) refl
      where
        by : (b : Bool) → bytes_eq n (codes "mem") ≡ b → (bytes_eq n (codes "mem") || false) ≡ false
        by true e = absurd (let t : true ≡ false = sym h ∙ ap (among names) (text_of n (codes "mem") e) ∙ none in cc)
        by false e = rw e refl

module _ (layout : Layout) (usable : IsUsable layout) (registers flags : List ℕ) (writes : List Writes) where
  abbrev rs : List (List ℕ)
  rs = changed_registers registers layout.first layout.registers

  abbrev fs : List (List ℕ)
  fs = changed_flags flags layout.flags

  abbrev ms : List (List ℕ)
  ms = written_memory (writes_some writes)

  no_memory : among (value_names layout) (codes "mem") ≡ false
  no_memory = not_memory (value_names layout) usable.own

  -- the names of what is given are distinct
  pub given_distinct : are_distinct (given_names layout registers flags writes) ≡ true
  given_distinct =
      let a = distinct_first layout.registers layout.flags usable.distinct in
      let b = distinct_second layout.registers layout.flags usable.distinct in
      let apart = distinct_apart layout.registers layout.flags usable.distinct in
      let in_registers = registers_within registers layout.first layout.registers in
      let in_flags = flags_within flags layout.flags in
      distinct_both rs (fs ++ ms) (registers_distinct registers layout.first layout.registers a)
      (distinct_both fs ms (flags_distinct flags layout.flags b) (memory_distinct (writes_some writes))
      (λ n h. memory_apart (value_names layout) (writes_some writes) n no_memory (among_right layout.registers layout.flags n (in_flags n h))))
      (λ n h. in_neither fs ms n (not_listed fs layout.flags n in_flags (apart n (in_registers n h)))
      (memory_apart (value_names layout) (writes_some writes) n no_memory (among_left layout.registers layout.flags n (in_registers n h))))
