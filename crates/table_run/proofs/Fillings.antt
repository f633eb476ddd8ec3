-- Bytes that are filled, and sets of addresses.
use Rattle.std.proofs.Common.{Option, Some, None, ◌≡◌, ℕ, zero, suc, ◌+◌, ◌≤◌, ◌<◌, ◌^◌, refl, ap, sym, ◌∙◌, subst, arith, inl, inr, ◌⊎◌, List, [], ◌∷◌, ◌++◌, length, get_or, take, append_assoc, Bool, true, false, ne_eqb, eq-eqb}
use Rattle.std.specs.Prelude.{◌==◌, ◌||◌, nat_lt, if◌then◌else◌, Contains}
use Rattle.std.specs.Ordering.{nat_cmp, is_eq}
use Rattle.std.specs.BTreeSet.{BTreeSet, contains}
use Rattle.std.specs.List.{list_any}
use Rattle.std.proofs.lemmas.Bool.{cases_eq}
use Rattle.std.proofs.Math.Nat.{eq-or-lt_of_le}
use Rattle.std.proofs.lemmas.Bool.Decides.{nat_tests}
use Rattle.std.proofs.lemmas.List.{append-nil, get_or_default, take_all, take_more}
use Rattle.word_spec.specs.Words.{sub}
use Rattle.word_spec.specs.Memory.{Memory, Little, store, byte_of}
use Rattle.word_spec.specs.State.{State}
use Rattle.machine_spec.specs.Machine.{Row, addresses}
use Rattle.machine_spec.specs.MachineLaws.{with_memory}
use Rattle.bilv_spec.specs.Run.{Program}
use Rattle.bilv_spec.specs.Points.{is_known_at}
use Rattle.bilv_spec.proofs.PointSteps.{in_left, in_right}
use Rattle.table_run.specs.Traces.{byte_over, reached_row, row_stores, is_met, AreMet, IsFuller, IsReadSet}

-- ---- a byte that is stored

pub store_here : (m : Memory) (a b : ℕ) → a < 2 ^ 32 → b < 256 → store Little 1 m a b a ≡ b
store_here m a b low small =
    let at : sub 32 a a ≡ 0 = omega arith in
    let bottom : byte_of Little 1 b 0 ≡ b = omega arith in
    ap (λ n. if nat_lt n 1 then byte_of Little 1 b n else m a) at ∙ bottom

pub store_other : (m : Memory) (a b x : ℕ) → a < 2 ^ 32 → x < 2 ^ 32 → (x ≡ a → ⊥) → store Little 1 m a b x ≡ m x
store_other m a b x low below ne =
    let away : nat_lt (sub 32 x a) 1 ≡ false = grind (arith, nat_tests) in
    ap (λ t. if t then byte_of Little 1 b (sub 32 x a) else m x) away

-- ---- one more address

-- a set has one more address, if it had not
abbrev pub Adds : BTreeSet ℕ → (a : ℕ) → BTreeSet ℕ → Type 0
Adds met a more = (x : ℕ) → contains nat_cmp more x ≡ (if is_eq (nat_cmp a x) then true else contains nat_cmp met x)

flips : (a x : ℕ) → is_eq (nat_cmp a x) ≡ (x == a)
flips a x = grind (arith, nat_tests)

has_new : (met more : BTreeSet ℕ) (a : ℕ) → Adds met a more → contains nat_cmp more a ≡ true
has_new met more a adds = adds a ∙ ap (λ b. if b then true else contains nat_cmp met a) (flips a a ∙ eq-eqb a a refl)

has_other : (met more : BTreeSet ℕ) (a x : ℕ) → Adds met a more → (x ≡ a → ⊥) → contains nat_cmp more x ≡ contains nat_cmp met x
has_other met more a x adds ne = adds x ∙ ap (λ b. if b then true else contains nat_cmp met x) (flips a x ∙ ne_eqb x a ne)

or_true : (b c : Bool) → c ≡ true → (b || c) ≡ true
or_true true c h = refl
or_true false c h = h

or_false : (b c : Bool) → (b || c) ≡ false → (b ≡ false) × (c ≡ false)
or_false true c h = absurd (cc)
or_false false c h = (refl, h)

beside : (b c : Bool) → c ≡ false → b ≡ (b || c)
beside true c h = refl
beside false c h = sym h

-- an address that is not in the set is met only where the file gives its byte
pub known_only : (p : Program) (met : BTreeSet ℕ) (a : ℕ) (known : Bool) → known ≡ is_known_at p a → contains nat_cmp met a ≡ false → known ≡ is_met p met a
known_only p met a known is none = is ∙ beside (is_known_at p a) (contains nat_cmp met a) none

-- in a set that is empty is nothing
pub none_met : (p : Program) (met : BTreeSet ℕ) → met.keys ≡ [] → (a : ℕ) → is_met p met a ≡ (is_known_at p a || false)
none_met p met none a = ap (λ ks. is_known_at p a || list_any (λ x. is_eq (nat_cmp a x)) ks) none

module _ (p : Program) (fill : ℕ) (bytes : List (ℕ × ℕ)) where
  -- what is not met is not known, and not in the set
  pub unmet : (met : BTreeSet ℕ) (a : ℕ) → is_met p met a ≡ false → (is_known_at p a ≡ false) × (contains nat_cmp met a ≡ false)
  unmet met a h = or_false (is_known_at p a) (contains nat_cmp met a) h

  pub met_new : (met more : BTreeSet ℕ) (a : ℕ) → Adds met a more → is_met p more a ≡ true
  met_new met more a adds = or_true (is_known_at p a) (contains nat_cmp more a) (has_new met more a adds)

  met_other : (met more : BTreeSet ℕ) (a x : ℕ) → Adds met a more → (x ≡ a → ⊥) → is_met p more x ≡ is_met p met x
  met_other met more a x adds ne = ap (λ b. is_known_at p x || b) (has_other met more a x adds ne)

  met_keeps : (met more : BTreeSet ℕ) (a x : ℕ) → Adds met a more → is_met p met x ≡ true → is_met p more x ≡ true
  met_keeps met more a x adds h = elim (cases_eq x a) [
    | inl same ↦ subst (λ z. is_met p more z ≡ true) (sym same) (met_new met more a adds)
    | inr ne ↦ met_other met more a x adds ne ∙ h
  ]

  -- nothing was filled
  pub fuller_same : (met : BTreeSet ℕ) (entry now : State) → IsFuller p fill bytes met met entry entry now now
  fuller_same met entry now = record {
    entry_is = refl;
    now_is = refl;
    keeps = λ a h. h;
    filled = λ model m over is. is;
    grows = inl (refl, refl, refl);
  }

  -- more was filled, and then more
  pub fuller_then : (met some more : BTreeSet ℕ) (entry later last now next end : State) → IsFuller p fill bytes met some entry later now next →
      IsFuller p fill bytes some more later last next end → IsFuller p fill bytes met more entry last now end
  fuller_then met some more entry later last now next end x y = record {
    entry_is = y.entry_is ∙ ap (λ (z : State). with_memory z last.mem) x.entry_is;
    now_is = y.now_is ∙ ap (λ (z : State). with_memory z end.mem) x.now_is;
    keeps = λ a h. y.keeps a (x.keeps a h);
    filled = λ model m over is. y.filled model m over (x.filled model m over is);
    grows = both x.grows y.grows;
  }
    where
      both : ((some ≡ met) × (later ≡ entry) × (next ≡ now)) ⊎ (length met.keys < length some.keys) →
          ((more ≡ some) × (last ≡ later) × (end ≡ next)) ⊎ (length some.keys < length more.keys) →
          ((more ≡ met) × (last ≡ entry) × (end ≡ now)) ⊎ (length met.keys < length more.keys)
      both (inl (a, b, c)) (inl (d, e, f)) = inl (d ∙ a, e ∙ b, f ∙ c)
      both (inl (a, b, c)) (inr l) = inr (subst (λ (z : BTreeSet ℕ). length z.keys < length more.keys) a l)
      both (inr l) (inl (d, e, f)) = inr (subst (λ (z : BTreeSet ℕ). length met.keys < length z.keys) (sym d) l)
      both (inr l) (inr k) = inr (omega arith)

  -- a new address makes the set larger by one
  pub one_larger : (added : Bool) (new old : ℕ) → added ≡ true → new ≡ old + (if added then 1 else 0) → new ≡ old + 1
  one_larger added new old is grown = grown ∙ ap (λ (b : Bool). old + (if b then 1 else 0)) is

  -- one byte was filled
  pub fuller_put : (met more : BTreeSet ℕ) (entry later now next : State) (a byte : ℕ) → a < 2 ^ 32 → byte < 256 → is_met p met a ≡ false →
      Adds met a more → length more.keys ≡ length met.keys + 1 → byte ≡ byte_over fill bytes a →
      later ≡ with_memory entry (store Little 1 entry.mem a byte) → next ≡ with_memory now (store Little 1 now.mem a byte) →
      IsFuller p fill bytes met more entry later now next
  fuller_put met more entry later now next a byte low small unmet_there adds grown is e n = record {
    entry_is = e ∙ ap (with_memory entry) (sym (ap (λ (z : State). z.mem) e));
    now_is = n ∙ ap (with_memory now) (sym (ap (λ (z : State). z.mem) n));
    keeps = λ x h. met_keeps met more a x adds h;
    filled = λ model m over f. record {
      entry_same = λ x l h. at model entry later e over f.entry_same (over a low (unmet met a unmet_there).0 ∙ sym is) x l h;
      now_same = λ x l h. at m now next n over f.now_same (f.other a low unmet_there ∙ over a low (unmet met a unmet_there).0 ∙ sym is) x l h;
      other = λ x l h.
          f.other x l
          (elim (cases_eq x a) [
            | inl same ↦ absurd (let yes : is_met p more x ≡ true = subst (λ z. is_met p more z ≡ true) (sym same) (met_new met more a adds) in cc)
            | inr ne ↦ sym (met_other met more a x adds ne) ∙ h
          ]);
    };
    grows = inr (omega (arith, grown));
  }
    where
      at : (model : Memory) (old new : State) → new ≡ with_memory old (store Little 1 old.mem a byte) → {X : Type 0} → X →
          ((x : ℕ) → x < 2 ^ 32 → is_met p met x ≡ true → model x ≡ old.mem x) → model a ≡ byte →
          (x : ℕ) → x < 2 ^ 32 → is_met p more x ≡ true → model x ≡ new.mem x
      at model old new stored over same here x l h = elim (cases_eq x a) as (λ _. model x ≡ new.mem x) [
        | inl eq ↦
            let there : new.mem a ≡ byte = ap (λ (z : State). z.mem a) stored ∙ store_here old.mem a byte low small in
            subst (λ z. model z ≡ new.mem z) (sym eq) (here ∙ sym there)
        | inr ne ↦
            same x l (sym (met_other met more a x adds ne) ∙ h)
            ∙ sym (ap (λ (z : State). z.mem x) stored ∙ store_other old.mem a byte x low l ne)
      ]

  -- where the set is as large as it was, nothing was filled; and else it is larger
  pub not_grown : (met more : BTreeSet ℕ) (entry later now next : State) → IsFuller p fill bytes met more entry later now next →
      length more.keys ≡ length met.keys → (more ≡ met) × (later ≡ entry) × (next ≡ now)
  not_grown met more entry later now next f same = elim f.grows [ inl h ↦ h | inr l ↦ absurd (omega arith) ]

  pub has_grown : (met more : BTreeSet ℕ) (entry later now next : State) → IsFuller p fill bytes met more entry later now next →
      (length more.keys ≡ length met.keys → ⊥) → length met.keys < length more.keys
  has_grown met more entry later now next f other = elim f.grows [
    | inl h ↦ absurd (other (ap (λ (z : BTreeSet ℕ). length z.keys) h.0))
    | inr l ↦ l
  ]

  -- ---- addresses that are read

  next_in : (before : List ℕ) (a x : ℕ) → Contains (before ++ a ∷ []) x → Contains before x ⊎ (x ≡ a)
  next_in [] a x (zero, l, e) = inr (sym e)
  next_in [] a x (suc k, l, e) = absurd (omega arith)
  next_in (y ∷ before) a x (zero, l, e) = inl (0, omega arith, e)
  next_in (y ∷ before) a x (suc k, l, e) = elim (next_in before a x (k, omega arith, e)) [
    | inl (j, w, h) ↦ inl (suc j, omega arith, h)
    | inr same ↦ inr same
  ]

  at_end : (before : List ℕ) (a : ℕ) → Contains (before ++ a ∷ []) a
  at_end before a = in_right before (a ∷ []) a (0, omega arith, refl)

  -- a known one
  pub read_known : (before : List ℕ) (read : BTreeSet ℕ) (a : ℕ) → is_known_at p a ≡ true → IsReadSet p before read → IsReadSet p (before ++ a ∷ []) read
  read_known before read a known is x = (
    λ h. (let old = (is x).0 h in (old.0, in_left before (a ∷ []) x old.1, old.2)),
    λ h. elim (next_in before a x h.1) [
      | inl old ↦ (is x).1 (h.0, old, h.2)
      | inr same ↦ absurd (let yes : is_known_at p x ≡ true = ap (is_known_at p) same ∙ known in let no = h.2 in cc)
    ],
  )

  -- and another one
  pub read_new : (before : List ℕ) (read more : BTreeSet ℕ) (a : ℕ) → a < 2 ^ 32 → is_known_at p a ≡ false → Adds read a more → IsReadSet p before read →
      IsReadSet p (before ++ a ∷ []) more
  read_new before read more a low unknown adds is x = (
    λ h. elim (cases_eq x a) [
      | inl same ↦ (
        subst (λ z. z < 2 ^ 32) (sym same) low,
        subst (λ z. Contains (before ++ a ∷ []) z) (sym same) (at_end before a),
        ap (is_known_at p) same ∙ unknown,
      )
      | inr ne ↦
          let old = (is x).0 (sym (has_other read more a x adds ne) ∙ h) in (old.0, in_left before (a ∷ []) x old.1, old.2)
    ],
    λ h. elim (cases_eq x a) [
      | inl same ↦ subst (λ z. contains nat_cmp more z ≡ true) (sym same) (has_new read more a adds)
      | inr ne ↦ elim (next_in before a x h.1) [
        | inl old ↦ has_other read more a x adds ne ∙ (is x).1 (h.0, old, h.2)
        | inr same ↦ absurd (ne same)
      ]
    ],
  )

  -- the next of some addresses
  pub noted_next : (before places : List ℕ) (i a : ℕ) (read : BTreeSet ℕ) → i < length places → a ≡ get_or places i 0 →
      IsReadSet p ((before ++ take i places) ++ a ∷ []) read → IsReadSet p (before ++ take (i + 1) places) read
  noted_next before places i a read w at h =
      subst (λ z. IsReadSet p z read)
      (append_assoc before (take i places) (a ∷ []) ∙ ap (λ z. before ++ z) (ap (λ z. take i places ++ z ∷ []) at ∙ sym (take_more places i 0 w))) h

  -- all of them
  pub noted_all : (before places : List ℕ) (i : ℕ) (read : BTreeSet ℕ) → length places ≤ i → IsReadSet p (before ++ take i places) read →
      IsReadSet p (before ++ places) read
  noted_all before places i read le h = subst (λ z. IsReadSet p (before ++ z) read) (take_all i places le) h

  pub noted_none : (before places : List ℕ) (read : BTreeSet ℕ) → IsReadSet p before read → IsReadSet p (before ++ take 0 places) read
  noted_none before places read h = subst (λ z. IsReadSet p z read) (sym (append-nil before)) h

  -- addresses that are met one by one
  pub each_met : (met : BTreeSet ℕ) (places : List ℕ) → ((k : ℕ) → k < length places → is_met p met (get_or places k 0) ≡ true) → AreMet p met places
  each_met met places h a (k, l, e) =
      subst (λ z. is_met p met z ≡ true) (get_or_default places k 0 a l ∙ e) (h k l)

  pub met_next : (met more : BTreeSet ℕ) (places : List ℕ) (i a : ℕ) → a ≡ get_or places i 0 → is_met p more a ≡ true →
      ((x : ℕ) → is_met p met x ≡ true → is_met p more x ≡ true) → ((k : ℕ) → k < i → is_met p met (get_or places k 0) ≡ true) →
      (k : ℕ) → k < i + 1 → is_met p more (get_or places k 0) ≡ true
  met_next met more places i a at here keeps each k less =
      let le : k ≤ i = omega arith in
      elim (eq-or-lt_of_le le) [
        | inl same ↦ subst (λ z. is_met p more z ≡ true) (at ∙ sym (ap (λ n. get_or places n 0) same)) here
        | inr below ↦ keeps (get_or places k 0) (each k below)
      ]

  -- ---- the bytes that the next row stores

  -- no row stores none
  pub stored_none : (met : BTreeSet ℕ) (entry now : State) (o : Option Row) → o ≡ reached_row p entry now → o ≡ None →
      AreMet p met (row_stores (reached_row p entry now) now)
  stored_none met entry now o is none =
      subst (λ z. AreMet p met (row_stores z now)) (sym none ∙ is) (λ a i. (let w = i.1 in absurd (omega arith)))

  pub stored_some : (met : BTreeSet ℕ) (entry now : State) (o : Option Row) (row : Row) (places : List ℕ) → o ≡ reached_row p entry now → o ≡ Some row →
      places ≡ addresses (row.stored now) → AreMet p met places → AreMet p met (row_stores (reached_row p entry now) now)
  stored_some met entry now o row places is some same h =
      subst (λ z. AreMet p met (row_stores z now)) (sym some ∙ is) (subst (AreMet p met) same h)
