-- What one more line adds to contracts.
use Rattle.std.proofs.Common.{◌≡◌, ℕ, zero, suc, ◌<◌, ◌≤◌, ◌+◌, ◌*◌, ◌%◌, ◌^◌, max, refl, ap, sym, ◌∙◌, subst, arith, List, [], ◌∷◌, ◌++◌, Bool, true, false, ◌||◌, ◌==◌, not, nat_eq, if◌then◌else◌, length, map, filter, get_or, set, drop, append_assoc, append-nil, bit_or}
use Rattle.std.specs.List.{list_any}
use Rattle.std.proofs.lemmas.Bool.Decides.{nat_tests}
use Rattle.std.proofs.lemmas.List.{map-append}
use Rattle.std.proofs.lemmas.List.Folds.{list_any-append}
use Rattle.std.proofs.lemmas.Nat.{pow_below}
use Rattle.std.proofs.lemmas.Nat.Bits.{bit_at_or, bit_at-zero, bit_at-pow_same, bit_at-pow_other, bit_at-lt}
use Rattle.word_spec.specs.Words.{bit_at}
use Rattle.word_spec.specs.RowFiles.{from_to}
use Rattle.bilv_spec.specs.Notes.{NoteLine}
use Rattle.frame_spec.specs.Frames as frames
use Rattle.notes_spec.specs.Scopes as scopes
use Rattle.notes_spec.specs.NotesGrammar.{Says, NeedIs, GiveIs, ModifiesAre, WritesAre, is_of_contract}
use Rattle.notes_spec.specs.FrameNotes.{places_of, each_once, needs_at, gives_at, writes_at, changes_at, contract_of as contract_said, contracts_of, is_register, is_flag}
use Rattle.notes_spec.proofs.NotesTables.{Each}
use Rattle.notes_spec.proofs.FrameReadings.{Differ, once_differ}
use Rattle.notes_value.specs.declared.notes.Contract.{Contract}
use Rattle.notes_value.specs.Views.{expr_of}
use Rattle.notes_value.specs.NoteViews.{note_line_of}
use Rattle.notes_value.specs.FrameViews.{is_in, writes_of, contract_of}
use Rattle.notes_lang.specs.declared.scopes.Changed.{Changed}
use Rattle.notes_lang.specs.declared.sayings.ContractLine.{ContractLine}
use Rattle.notes_lang.specs.declared.sayings.ContractLine.TheVariants as contract
use Rattle.notes_lang.specs.Scoping.{changed_of}
use Rattle.notes_lang.specs.Saying.{contract_says}
use Rattle.notes_lang.specs.Contracting.{IsContract, EachContract, AreContracts}

-- lists by the number of their first line, one line longer
pub numbered : {Y : Type 0} (f : ℕ → List Says → List Y) (s : Says) (says : List Says) (line : ℕ) (whole before after : List Y) → line ≡ length says + 1 →
    whole ≡ f 1 says ++ f (1 + length says) (s ∷ []) →
    f 1 says ≡ before → after ≡ before ++ f line (s ∷ []) → whole ≡ after
numbered f s says line whole before after number is so_far then_is =
    is ∙ (ap (λ l. l ++ f (1 + length says) (s ∷ [])) so_far ∙ (ap
    (λ m. before ++ f m (s ∷ [])) (let e : 1 + length says ≡ line = omega (arith, number) in e) ∙ sym then_is))

-- one element more, or none, before some
if_first : {X : Type 0} (b : Bool) (x : X) (xs ys zs : List X) → xs ≡ ys ++ zs → (if b then x ∷ xs else xs) ≡ (if b then x ∷ ys else ys) ++ zs
if_first true x xs ys zs is = ap (λ l. x ∷ l) is
if_first false x xs ys zs is = is

if_more : {X : Type 0} (b : Bool) (front xs ys zs : List X) → xs ≡ ys ++ zs → (if b then front ++ xs else xs) ≡ (if b then front ++ ys else ys) ++ zs
if_more true front xs ys zs is = ap (λ l. front ++ l) is ∙ sym (append_assoc front ys zs)
if_more false front xs ys zs is = is

needs_and : (at n : ℕ) (xs : List Says) (y : Says) → needs_at at n (xs ++ y ∷ []) ≡ needs_at at n xs ++ needs_at at (n + length xs) (y ∷ [])
needs_and at n [] y = ap (λ m. needs_at at m (y ∷ [])) (let e : n ≡ n + 0 = omega arith in e)
needs_and at n (NeedIs a e ∷ xs) y =
    if_first {X = NoteLine} (a == at) (record { line = n; says = e }) _ _ _ (needs_and at (n + 1) xs y ∙ ap
    (λ m. needs_at at (n + 1) xs ++ needs_at at m (y ∷ [])) (let i : (n + 1) + length xs ≡ n + length (NeedIs a e ∷ xs) = omega arith in i))
needs_and at n (s ∷ xs) y =
    needs_and at (n + 1) xs y ∙ ap (λ m. needs_at at (n + 1) xs ++ needs_at at m (y ∷ [])) (let i : (n + 1) + length xs
    ≡ n + length (s ∷ xs) = omega arith in i)

gives_and : (at n : ℕ) (xs : List Says) (y : Says) → gives_at at n (xs ++ y ∷ []) ≡ gives_at at n xs ++ gives_at at (n + length xs) (y ∷ [])
gives_and at n [] y = ap (λ m. gives_at at m (y ∷ [])) (let e : n ≡ n + 0 = omega arith in e)
gives_and at n (GiveIs a e ∷ xs) y =
    if_first {X = NoteLine} (a == at) (record { line = n; says = e }) _ _ _ (gives_and at (n + 1) xs y ∙ ap
    (λ m. gives_at at (n + 1) xs ++ gives_at at m (y ∷ [])) (let i : (n + 1) + length xs ≡ n + length (GiveIs a e ∷ xs) = omega arith in i))
gives_and at n (s ∷ xs) y =
    gives_and at (n + 1) xs y ∙ ap (λ m. gives_at at (n + 1) xs ++ gives_at at m (y ∷ [])) (let i : (n + 1) + length xs
    ≡ n + length (s ∷ xs) = omega arith in i)

writes_and : (at n : ℕ) (xs : List Says) (y : Says) → writes_at at n (xs ++ y ∷ []) ≡ writes_at at n xs ++ writes_at at (n + length xs) (y ∷ [])
writes_and at n [] y = ap (λ m. writes_at at m (y ∷ [])) (let e : n ≡ n + 0 = omega arith in e)
writes_and at n (WritesAre a e count ∷ xs) y =
    if_first {X = frames.Writes} (a == at) (record { line = n; says = e; count = count }) _ _ _ (writes_and at (n + 1) xs y ∙ ap
    (λ m. writes_at at (n + 1) xs ++ writes_at at m (y ∷ [])) (let i : (n + 1) + length xs ≡ n + length (WritesAre a e count ∷ xs) = omega arith in i))
writes_and at n (s ∷ xs) y =
    writes_and at (n + 1) xs y ∙ ap (λ m. writes_at at (n + 1) xs ++ writes_at at m (y ∷ [])) (let i : (n + 1) + length xs
    ≡ n + length (s ∷ xs) = omega arith in i)

changes_and : (at : ℕ) (xs : List Says) (y : Says) → changes_at at (xs ++ y ∷ []) ≡ changes_at at xs ++ changes_at at (y ∷ [])
changes_and at [] y = refl
changes_and at (ModifiesAre a cs ∷ xs) y = if_more (a == at) cs _ _ _ (changes_and at xs y)
changes_and at (s ∷ xs) y = changes_and at xs y

places_and : (xs : List Says) (y : Says) → places_of (xs ++ y ∷ []) ≡ places_of xs ++ places_of (y ∷ [])
places_and [] y = refl
places_and (NeedIs a e ∷ xs) y = ap (λ l. a ∷ l) (places_and xs y)
places_and (GiveIs a e ∷ xs) y = ap (λ l. a ∷ l) (places_and xs y)
places_and (ModifiesAre a cs ∷ xs) y = ap (λ l. a ∷ l) (places_and xs y)
places_and (WritesAre a e n ∷ xs) y = ap (λ l. a ∷ l) (places_and xs y)
places_and (s ∷ xs) y = places_and xs y

or_false : (b : Bool) → (b || false) ≡ b
or_false true = refl
or_false false = refl

or_last : (a b c : Bool) → ((a || b) || c) ≡ (a || (b || c))
or_last true b c = refl
or_last false b c = refl

any_and : {X : Type 0} (p : X → Bool) (xs ys : List X) (b : Bool) → list_any p xs ≡ b → list_any p (xs ++ ys) ≡ (b || list_any p ys)
any_and p xs ys b is = list_any-append p xs ys ∙ ap (λ b. b || list_any p ys) is

-- a contract of the address of a line, or of another one
pub joined : (says : List Says) (s : Says) (c d : Contract) (line : ℕ) → line ≡ length says + 1 → IsContract says c → d.at ≡ c.at →
    map note_line_of d.needs.items ≡ map note_line_of c.needs.items ++ needs_at c.at line (s ∷ []) →
    map note_line_of d.gives.items ≡ map note_line_of c.gives.items ++ gives_at c.at line (s ∷ []) →
    map writes_of d.writes.items ≡ map writes_of c.writes.items ++ writes_at c.at line (s ∷ []) →
    ((r : ℕ) → r < 32 → is_in d.registers r ≡ (is_in c.registers r || list_any (is_register r) (changes_at c.at (s ∷ [])))) →
    ((f : ℕ) → f < 4 → is_in d.flags f ≡ (is_in c.flags f || list_any (is_flag f) (changes_at c.at (s ∷ [])))) → IsContract (says ++ s ∷ []) d
joined says s c d line number p same needs gives writes registers flags = record {
  needs = ap (λ a. needs_at a 1 (says ++ s ∷ [])) same ∙ numbered (needs_at c.at) s says line _ _ _ number (needs_and c.at 1 says s) p.needs needs;
  gives = ap (λ a. gives_at a 1 (says ++ s ∷ [])) same ∙ numbered (gives_at c.at) s says line _ _ _ number (gives_and c.at 1 says s) p.gives gives;
  writes = ap (λ a. writes_at a 1 (says ++ s ∷ [])) same ∙ numbered (writes_at c.at) s says line _ _ _ number (writes_and c.at 1 says s) p.writes writes;
  registers = λ r below. ap (list_any (is_register r)) changes
      ∙ (any_and (is_register r) (changes_at c.at says) (changes_at c.at (s ∷ [])) _ (p.registers r below) ∙ sym (registers r below));
  flags = λ f below. ap (list_any (is_flag f)) changes
      ∙ (any_and (is_flag f) (changes_at c.at says) (changes_at c.at (s ∷ [])) _ (p.flags f below) ∙ sym (flags f below));
} where
  changes : changes_at d.at (says ++ s ∷ []) ≡ changes_at c.at says ++ changes_at c.at (s ∷ [])
  changes = ap (λ a. changes_at a (says ++ s ∷ [])) same ∙ changes_and c.at says s

-- what a line adds to the contract of its address
same_place : {X : Type 0} (a : ℕ) (xs : List X) → (if a == a then xs else []) ≡ xs
same_place a xs = ap (λ b. if b then xs else []) (let e : (a == a) ≡ true = grind (arith, nat_tests) in e)

pub one_here : {X Y : Type 0} (view : X → Y) (xs ys : List X) (x : X) (y : Y) (a : ℕ) → ys ≡ xs ++ x ∷ [] → view x ≡ y →
    map view ys ≡ map view xs ++ (if a == a then y ∷ [] else [])
one_here view xs ys x y a is x_is =
    ap (map view) is ∙ (map-append view xs (x ∷ []) ∙ ap (λ v. map view xs ++ v) (ap (λ v. v ∷ []) x_is ∙ sym (same_place a (y ∷ []))))

pub changes_here : (p : scopes.Changed → Bool) (a : ℕ) (b c : Bool) (us vs : List Changed) → us ≡ vs → b ≡ (c || list_any p (map changed_of us)) →
    b ≡ (c || list_any p (if a == a then map changed_of vs ++ [] else []))
changes_here p a b c us vs same is =
    is ∙ (ap (λ us. c || list_any p (map changed_of us)) same
    ∙ ap (λ l. c || list_any p l) (sym (same_place a (map changed_of vs ++ []) ∙ append-nil (map changed_of vs))))

-- a line says nothing of an address
pub record IsSilent (at : ℕ) (s : Says) : Type 0 where
  pub needs : (m : ℕ) → needs_at at m (s ∷ []) ≡ []
  pub gives : (m : ℕ) → gives_at at m (s ∷ []) ≡ []
  pub writes : (m : ℕ) → writes_at at m (s ∷ []) ≡ []
  pub changes : changes_at at (s ∷ []) ≡ []

pub then_none : {X : Type 0} (xs ys : List X) → ys ≡ [] → xs ≡ xs ++ ys
then_none xs ys none = sym (append-nil xs) ∙ ap (λ ys. xs ++ ys) (sym none)

pub or_none : {X : Type 0} (p : X → Bool) (b : Bool) (xs : List X) → xs ≡ [] → b ≡ (b || list_any p xs)
or_none p b xs none = sym (or_false b) ∙ ap (λ xs. b || list_any p xs) (sym none)

kept : (says : List Says) (s : Says) (c : Contract) (line : ℕ) → line ≡ length says + 1 → IsSilent c.at s → IsContract says c → IsContract (says ++ s ∷ []) c
kept says s c line number q p =
    joined says s c c line number p refl (then_none _ _ (q.needs line)) (then_none _ _ (q.gives line)) (then_none _ _ (q.writes line))
    (λ r below. or_none (is_register r) _ _ q.changes) (λ f below. or_none (is_flag f) _ _ q.changes)

-- a line that is of no contract
quiet : (s : Says) (at : ℕ) → is_of_contract s ≡ false → IsSilent at s
quiet (NeedIs a e) at h = absurd (let x : ⊥ = cc in x)
quiet (GiveIs a e) at h = absurd (let x : ⊥ = cc in x)
quiet (ModifiesAre a cs) at h = absurd (let x : ⊥ = cc in x)
quiet (WritesAre a e n) at h = absurd (let x : ⊥ = cc in x)
quiet s at h = record { needs = λ m. refl; gives = λ m. refl; writes = λ m. refl; changes = refl }

no_place_of : (s : Says) → is_of_contract s ≡ false → places_of (s ∷ []) ≡ []
no_place_of (NeedIs a e) h = absurd (let x : ⊥ = cc in x)
no_place_of (GiveIs a e) h = absurd (let x : ⊥ = cc in x)
no_place_of (ModifiesAre a cs) h = absurd (let x : ⊥ = cc in x)
no_place_of (WritesAre a e n) h = absurd (let x : ⊥ = cc in x)
no_place_of s h = refl

pub all_kept : (says : List Says) (s : Says) (cs : List Contract) (line : ℕ) → line ≡ length says + 1 → is_of_contract s ≡ false →
    AreContracts says cs → AreContracts (says ++ s ∷ []) cs
all_kept says s cs line number none p = record {
  places = ap each_once (places_and says s ∙ (ap (λ l. places_of says ++ l) (no_place_of s none) ∙ append-nil (places_of says))) ∙ p.places;
  each = by cs p.each;
} where
  by : (cs : List Contract) → EachContract says cs → EachContract (says ++ s ∷ []) cs
  by [] h = tt
  by (c ∷ cs) h = (kept says s c line number (quiet s c.at none) h.0, by cs h.1)

-- a line of the contract of another address
elsewhere : (a : ℕ) (l : ContractLine) (at : ℕ) → (a == at) ≡ false → IsSilent at (contract_says a l)
elsewhere a (contract.Needs e) at is = record {
  needs = λ m. ap (λ b. if b then record { line = m; says = expr_of e } ∷ [] else []) is;
  gives = λ m. refl;
  writes = λ m. refl;
  changes = refl;
}
elsewhere a (contract.Gives e) at is = record {
  needs = λ m. refl;
  gives = λ m. ap (λ b. if b then record { line = m; says = expr_of e } ∷ [] else []) is;
  writes = λ m. refl;
  changes = refl;
}
elsewhere a (contract.Modifies cs) at is = record {
  needs = λ m. refl;
  gives = λ m. refl;
  writes = λ m. refl;
  changes = ap (λ b. if b then map changed_of cs.items ++ [] else []) is;
}
elsewhere a (contract.Writes e n) at is = record {
  needs = λ m. refl;
  gives = λ m. refl;
  writes = λ m. ap (λ b. if b then record { line = m; says = expr_of e; count = n } ∷ [] else []) is;
  changes = refl;
}

place_of_line : (a : ℕ) (l : ContractLine) → places_of (contract_says a l ∷ []) ≡ a ∷ []
place_of_line a (contract.Needs e) = refl
place_of_line a (contract.Gives e) = refl
place_of_line a (contract.Modifies cs) = refl
place_of_line a (contract.Writes e n) = refl

-- numbers that are each there once, and one more
filter_and : {X : Type 0} (p : X → Bool) (xs ys : List X) → filter p (xs ++ ys) ≡ filter p xs ++ filter p ys
filter_and p [] ys = refl
filter_and p (x ∷ xs) ys = if_first (p x) x _ _ _ (filter_and p xs ys)

other_way : (a b : ℕ) → (a == b) ≡ (b == a)
other_way a b = grind (arith, nat_tests)

differ : (x p a : ℕ) → (p == a) ≡ false → (x == p) ≡ true → (x == a) ≡ false
differ x p a h g = grind (arith, nat_tests)

any_filter : (p a : ℕ) (xs : List ℕ) → (p == a) ≡ false → list_any (λ b. b == a) (filter (λ b. not (b == p)) xs) ≡ list_any (λ b. b == a) xs
any_filter p a [] h = refl
any_filter p a (x ∷ xs) h = by (x == p) refl (any_filter p a xs h) where
  by : (c : Bool) → (x == p) ≡ c → list_any (λ b. b == a) (filter (λ b. not (b == p)) xs) ≡ list_any (λ b. b == a) xs →
      list_any (λ b. b == a) (if not c then x ∷ filter (λ b. not (b == p)) xs else filter (λ b. not (b == p)) xs) ≡ (x == a) || list_any (λ b. b == a) xs
  by true is rest = rest ∙ ap (λ c. c || list_any (λ b. b == a) xs) (sym (differ x p a h is))
  by false is rest = ap (λ c. (x == a) || c) rest

any_once : (a : ℕ) (ps : List ℕ) → list_any (λ b. b == a) (each_once ps) ≡ list_any (λ b. b == a) ps
any_once a [] = refl
any_once a (p ∷ ps) = by (p == a) refl (any_once a ps) where
  by : (c : Bool) → (p == a) ≡ c → list_any (λ b. b == a) (each_once ps) ≡ list_any (λ b. b == a) ps →
      (p == a) || list_any (λ b. b == a) (filter (λ b. not (b == p)) (each_once ps)) ≡ (p == a) || list_any (λ b. b == a) ps
  by true is rest =
      ap (λ c. c || list_any (λ b. b == a) (filter (λ b. not (b == p)) (each_once ps))) is ∙ ap (λ c. c || list_any (λ b. b == a) ps) (sym is)
  by false is rest = ap (λ c. (p == a) || c) (any_filter p a (each_once ps) is ∙ rest)

once_and : (ps : List ℕ) (a : ℕ) → each_once (ps ++ a ∷ []) ≡ each_once ps ++ (if list_any (λ b. b == a) ps then [] else a ∷ [])
once_and [] a = refl
once_and (p ∷ ps) a =
    ap (λ l. p ∷ filter (λ b. not (b == p)) l) (once_and ps a)
    ∙ ap (λ l. p ∷ l) (filter_and (λ b. not (b == p)) (each_once ps) (if list_any (λ b. b == a) ps then [] else a ∷ [])
    ∙ ap (λ l. filter (λ b. not (b == p)) (each_once ps) ++ l) (by (p == a) (list_any (λ b. b == a) ps) refl)) where
      by : (c d : Bool) → (p == a) ≡ c → filter (λ b. not (b == p)) (if d then [] else a ∷ []) ≡ (if c || d then [] else a ∷ [])
      by true true is = refl
      by false true is = refl
      by true false is = ap (λ c. if not c then a ∷ [] else []) (other_way a p ∙ is)
      by false false is = ap (λ c. if not c then a ∷ [] else []) (other_way a p ∙ is)

-- the addresses of contracts
any_place : (a : ℕ) (cs : List Contract) → list_any (λ b. b == a) (map (λ (c : Contract). c.at) cs) ≡ list_any (λ c. c.at == a) cs
any_place a [] = refl
any_place a (c ∷ cs) = ap (λ b. (c.at == a) || b) (any_place a cs)

pub any_said : (says : List Says) (cs : List Contract) (a : ℕ) → AreContracts says cs → list_any (λ c. c.at == a) cs ≡ list_any (λ b. b == a) (places_of says)
any_said says cs a p = sym (any_place a cs) ∙ (ap (list_any (λ b. b == a)) (sym p.places) ∙ any_once a (places_of says))

places_then : (says : List Says) (a : ℕ) (l : ContractLine) (cs : List Contract) (b : Bool) → AreContracts says cs → list_any (λ c. c.at == a) cs ≡ b →
    each_once (places_of (says ++ contract_says a l ∷ [])) ≡ map (λ (c : Contract). c.at) cs ++ (if b then [] else a ∷ [])
places_then says a l cs b p is =
    ap each_once (places_and says (contract_says a l) ∙ ap (λ l. places_of says ++ l) (place_of_line a l))
    ∙ (once_and (places_of says) a ∙ (ap (λ l. l ++ (if list_any (λ b. b == a) (places_of says) then [] else a ∷ [])) p.places
    ∙ ap (λ b. map (λ (c : Contract). c.at) cs ++ (if b then [] else a ∷ [])) (sym (any_said says cs a p) ∙ is)))

-- nothing is said of an address that no line names
neither_of : (a b : Bool) → (a || b) ≡ false → (a ≡ false) × (b ≡ false)
neither_of false b h = (refl, h)
neither_of true b h = absurd (let x : ⊥ = cc in x)

no_needs : (at n : ℕ) (says : List Says) → list_any (λ b. b == at) (places_of says) ≡ false → needs_at at n says ≡ []
no_needs at n [] h = refl
no_needs at n (NeedIs a e ∷ says) h =
    let q = neither_of (a == at) _ h in
    ap (λ b. if b then record { line = n; says = e } ∷ needs_at at (n + 1) says else needs_at at (n + 1) says) q.0 ∙ no_needs at (n + 1) says q.1
no_needs at n (GiveIs a e ∷ says) h = no_needs at (n + 1) says (neither_of (a == at) _ h).1
no_needs at n (ModifiesAre a cs ∷ says) h = no_needs at (n + 1) says (neither_of (a == at) _ h).1
no_needs at n (WritesAre a e count ∷ says) h = no_needs at (n + 1) says (neither_of (a == at) _ h).1
no_needs at n (s ∷ says) h = no_needs at (n + 1) says h

no_gives : (at n : ℕ) (says : List Says) → list_any (λ b. b == at) (places_of says) ≡ false → gives_at at n says ≡ []
no_gives at n [] h = refl
no_gives at n (GiveIs a e ∷ says) h =
    let q = neither_of (a == at) _ h in
    ap (λ b. if b then record { line = n; says = e } ∷ gives_at at (n + 1) says else gives_at at (n + 1) says) q.0 ∙ no_gives at (n + 1) says q.1
no_gives at n (NeedIs a e ∷ says) h = no_gives at (n + 1) says (neither_of (a == at) _ h).1
no_gives at n (ModifiesAre a cs ∷ says) h = no_gives at (n + 1) says (neither_of (a == at) _ h).1
no_gives at n (WritesAre a e count ∷ says) h = no_gives at (n + 1) says (neither_of (a == at) _ h).1
no_gives at n (s ∷ says) h = no_gives at (n + 1) says h

no_writes : (at n : ℕ) (says : List Says) → list_any (λ b. b == at) (places_of says) ≡ false → writes_at at n says ≡ []
no_writes at n [] h = refl
no_writes at n (WritesAre a e count ∷ says) h =
    let q = neither_of (a == at) _ h in
    ap (λ b. if b then record { line = n; says = e; count = count } ∷ writes_at at (n + 1) says else writes_at at (n + 1) says) q.0
    ∙ no_writes at (n + 1) says q.1
no_writes at n (NeedIs a e ∷ says) h = no_writes at (n + 1) says (neither_of (a == at) _ h).1
no_writes at n (GiveIs a e ∷ says) h = no_writes at (n + 1) says (neither_of (a == at) _ h).1
no_writes at n (ModifiesAre a cs ∷ says) h = no_writes at (n + 1) says (neither_of (a == at) _ h).1
no_writes at n (s ∷ says) h = no_writes at (n + 1) says h

no_changes : (at : ℕ) (says : List Says) → list_any (λ b. b == at) (places_of says) ≡ false → changes_at at says ≡ []
no_changes at [] h = refl
no_changes at (ModifiesAre a cs ∷ says) h =
    let q = neither_of (a == at) _ h in
    ap (λ b. if b then cs ++ changes_at at says else changes_at at says) q.0 ∙ no_changes at says q.1
no_changes at (NeedIs a e ∷ says) h = no_changes at says (neither_of (a == at) _ h).1
no_changes at (GiveIs a e ∷ says) h = no_changes at says (neither_of (a == at) _ h).1
no_changes at (WritesAre a e count ∷ says) h = no_changes at says (neither_of (a == at) _ h).1
no_changes at (s ∷ says) h = no_changes at says h

none_in : (n : ℕ) → is_in 0 n ≡ false
none_in n = ap (λ b. b == 1) (bit_at-zero n)

pub empty_is : (says : List Says) (c : Contract) → c.needs.items ≡ [] → c.gives.items ≡ [] → c.writes.items ≡ [] → c.registers ≡ 0 → c.flags ≡ 0 →
    list_any (λ b. b == c.at) (places_of says) ≡ false → IsContract says c
empty_is says c needs gives writes registers flags h = record {
  needs = no_needs c.at 1 says h ∙ sym (ap (map note_line_of) needs);
  gives = no_gives c.at 1 says h ∙ sym (ap (map note_line_of) gives);
  writes = no_writes c.at 1 says h ∙ sym (ap (map writes_of) writes);
  registers = λ r below. ap (list_any (is_register r)) (no_changes c.at says h) ∙ (sym (none_in r) ∙ ap (λ n. is_in n r) (sym registers));
  flags = λ f below. ap (list_any (is_flag f)) (no_changes c.at says h) ∙ (sym (none_in f) ∙ ap (λ n. is_in n f) (sym flags));
}

-- a contract in place of another one
at_place : (P : ℕ → Type 0) (cs : List Contract) (i : ℕ) (d : Contract) → Each P (map (λ (c : Contract). c.at) cs) → i < length cs → P (get_or cs i d).at
at_place P [] i d h below = absurd (omega (arith, below))
at_place P (c ∷ cs) zero d h below = h.0
at_place P (c ∷ cs) (suc i) d h below = at_place P cs i d h.1 (omega (arith, below))

module _ (says : List Says) (a : ℕ) (l : ContractLine) (line : ℕ) (number : line ≡ length says + 1) where
  abbrev Then : List Contract → Type 0
  Then cs = EachContract (says ++ contract_says a l ∷ []) cs

  kept_here : (c : Contract) → (a == c.at) ≡ false → IsContract says c → IsContract (says ++ contract_says a l ∷ []) c
  kept_here c is p = kept says (contract_says a l) c line number (elsewhere a l c.at is) p

  apart : (x y : ℕ) → x ≡ a → not (y == x) ≡ true → (a == y) ≡ false
  apart x y is h = grind (arith, nat_tests)

  apart_too : (x y : ℕ) → y ≡ a → not (y == x) ≡ true → (a == x) ≡ false
  apart_too x y is h = grind (arith, nat_tests)

  others : (x : ℕ) (cs : List Contract) → x ≡ a → Each (λ y. not (y == x) ≡ true) (map (λ (c : Contract). c.at) cs) → EachContract says cs → Then cs
  others x [] is h p = tt
  others x (c ∷ cs) is h p = (kept_here c (apart x c.at is h.0) p.0, others x cs is h.1 p.1)

  replaced : (cs : List Contract) (i : ℕ) (d new : Contract) → i < length cs → (get_or cs i d).at ≡ a → Differ (map (λ (c : Contract). c.at) cs) →
      EachContract says cs → IsContract (says ++ contract_says a l ∷ []) new → Then (set cs i new)
  replaced [] i d new below is h p q = absurd (omega (arith, below))
  replaced (c ∷ cs) zero d new below is h p q = (q, others c.at cs is h.0 p.1)
  replaced (c ∷ cs) (suc i) d new below is h p q = (
    kept_here c (apart_too c.at (get_or cs i d).at is (at_place (λ y. not (y == c.at) ≡ true) cs i d h.0 (omega (arith, below)))) p.0,
    replaced cs i d new (omega (arith, below)) is h.1 p.1 q,
  )

  same_places : (cs : List Contract) (i : ℕ) (d new : Contract) → i < length cs → (get_or cs i d).at ≡ a → new.at ≡ a →
      map (λ (c : Contract). c.at) (set cs i new) ≡ map (λ (c : Contract). c.at) cs
  same_places [] i d new below is at = absurd (omega (arith, below))
  same_places (c ∷ cs) zero d new below is at = ap (λ x. x ∷ map (λ (c : Contract). c.at) cs) (at ∙ sym is)
  same_places (c ∷ cs) (suc i) d new below is at = ap (λ l. c.at ∷ l) (same_places cs i d new (omega (arith, below)) is at)

  found : (cs : List Contract) (i : ℕ) (d : Contract) → i < length cs → (get_or cs i d).at ≡ a → list_any (λ c. c.at == a) cs ≡ true
  found [] i d below is = absurd (omega (arith, below))
  found (c ∷ cs) zero d below is =
      let h : (c.at == a) ≡ true = grind (arith, nat_tests) in ap (λ b. b || list_any (λ c. c.at == a) cs) h
  found (c ∷ cs) (suc i) d below is = by (c.at == a) (found cs i d (omega (arith, below)) is) where
    by : (b : Bool) → list_any (λ c. c.at == a) cs ≡ true → b || list_any (λ c. c.at == a) cs ≡ true
    by true e = refl
    by false e = e

  put_in : (cs : List Contract) (i : ℕ) (d new : Contract) → i < length cs → (get_or cs i d).at ≡ a → new.at ≡ a → AreContracts says cs →
      IsContract (says ++ contract_says a l ∷ []) new → AreContracts (says ++ contract_says a l ∷ []) (set cs i new)
  put_in cs i d new below is at p q = record {
    places = places_then says a l cs true p (found cs i d below is) ∙ (append-nil (map (λ (c : Contract). c.at) cs) ∙ sym (same_places cs i d new below is at));
    each = replaced cs i d new below is (subst Differ p.places (once_differ (places_of says))) p.each q;
  }

  -- a contract more
  added : (cs : List Contract) (new : Contract) → list_any (λ c. c.at == a) cs ≡ false → EachContract says cs →
      IsContract (says ++ contract_says a l ∷ []) new → Then (cs ++ new ∷ [])
  added [] new h p q = (q, tt)
  added (c ∷ cs) new h p q =
      let g = neither_of (c.at == a) (list_any (λ c. c.at == a) cs) h in
      (kept_here c (other_way a c.at ∙ g.0) p.0, added cs new g.1 p.1 q)

  put_on : (cs ds : List Contract) (new : Contract) → list_any (λ c. c.at == a) cs ≡ false → new.at ≡ a → AreContracts says cs →
      IsContract (says ++ contract_says a l ∷ []) new → ds ≡ cs ++ new ∷ [] → AreContracts (says ++ contract_says a l ∷ []) ds
  put_on cs ds new none at p q is = subst (AreContracts (says ++ contract_says a l ∷ [])) (sym is) (record {
    places = places_then says a l cs false p none ∙ (ap (λ x. map (λ (c : Contract). c.at) cs ++ x ∷ []) (sym at)
        ∙ sym (map-append (λ (c : Contract). c.at) cs (new ∷ [])));
    each = added cs new none p.each q;
  })

each_place : (says : List Says) (cs : List Contract) (i : ℕ) (d : Contract) → EachContract says cs → i < length cs → IsContract says (get_or cs i d)
each_place says [] i d h below = absurd (omega (arith, below))
each_place says (c ∷ cs) zero d h below = h.0
each_place says (c ∷ cs) (suc i) d h below = each_place says cs i d h.1 (omega (arith, below))

-- a contract with one more line in its place
pub put_back : (says : List Says) (a : ℕ) (l : ContractLine) (line : ℕ) → line ≡ length says + 1 → (cs : List Contract) (i : ℕ) (old new : Contract) →
    i < length cs → ((d : Contract) → (get_or cs i d).at ≡ a) → old ≡ get_or cs i old → new.at ≡ old.at → AreContracts says cs →
    (IsContract says old → IsContract (says ++ contract_says old.at l ∷ []) new) → AreContracts (says ++ contract_says a l ∷ []) (set cs i new)
put_back says a l line number cs i old new below at old_is same p then_is =
    let here : old.at ≡ a = ap (λ (x : Contract). x.at) old_is ∙ at old in
    put_in says a l line number cs i old new below (at old) (same ∙ here) p
    (subst (λ a. IsContract (says ++ contract_says a l ∷ []) new) here
    (then_is (subst (IsContract says) (sym old_is) (each_place says cs i old p.each below))))

-- a contract that begins with the line
pub put_last : (says : List Says) (a : ℕ) (l : ContractLine) (line : ℕ) → line ≡ length says + 1 → (cs ds : List Contract) (old new : Contract) →
    list_any (λ c. c.at == a) cs ≡ false → old.at ≡ a → (list_any (λ b. b == a) (places_of says) ≡ false → IsContract says old) → new.at ≡ old.at →
    (IsContract says old → IsContract (says ++ contract_says old.at l ∷ []) new) → AreContracts says cs → ds ≡ cs ++ new ∷ [] →
    AreContracts (says ++ contract_says a l ∷ []) ds
put_last says a l line number cs ds old new none at empty same then_is p is =
    put_on says a l line number cs ds new none (same ∙ at) p
    (subst (λ a. IsContract (says ++ contract_says a l ∷ []) new) at (then_is (empty (sym (any_said says cs a p) ∙ none)))) is

-- one bit more in a set
or_bit : (x : ℕ) (b : Bool) (y : ℕ) → x < 2 → y ≡ (if b then 1 else 0) → (max x y == 1) ≡ ((x == 1) || b)
or_bit zero true y below is = ap (λ y. max 0 y == 1) is
or_bit zero false y below is = ap (λ y. max 0 y == 1) is
or_bit (suc zero) true y below is = ap (λ y. max 1 y == 1) is
or_bit (suc zero) false y below is = ap (λ y. max 1 y == 1) is
or_bit (suc (suc x)) b y below is = absurd (omega (arith, below))

pow_bit : (k i : ℕ) → bit_at i (2 ^ k) ≡ (if nat_eq i k then 1 else 0)
pow_bit k i = by (nat_eq i k) refl where
  same : nat_eq i k ≡ true → i ≡ k
  same h = grind (arith, nat_tests)

  other : nat_eq i k ≡ false → i ≡ k → ⊥
  other h e = grind (arith, nat_tests)

  by : (b : Bool) → nat_eq i k ≡ b → bit_at i (2 ^ k) ≡ (if b then 1 else 0)
  by true h = ap (λ i. bit_at i (2 ^ k)) (same h) ∙ bit_at-pow_same k
  by false h = bit_at-pow_other k i (other h)

one_bit : (s k i m : ℕ) → m ≡ 2 ^ k → is_in (bit_or s m) i ≡ (is_in s i || nat_eq i k)
one_bit s k i m is =
    ap (λ m. is_in (bit_or s m) i) is ∙ (ap (λ x. x == 1) (bit_at_or s (2 ^ k) i)
    ∙ or_bit (bit_at i s) (nat_eq i k) (bit_at i (2 ^ k)) (bit_at-lt s i) (pow_bit k i))

pub register_bit : (s k i : ℕ) → k < 32 → is_in (bit_or s (1 * 2 ^ k % 4294967296)) i ≡ (is_in s i || nat_eq i k)
register_bit s k i below = one_bit s k i _ (let h : 2 ^ k < 4294967296 = pow_below k 32 below in omega (arith, h))

pub flag_bit : (s k i : ℕ) → k < 4 → is_in (bit_or s (1 * 2 ^ k % 256)) i ≡ (is_in s i || nat_eq i k)
flag_bit s k i below = one_bit s k i _ (let h : 2 ^ k < 16 = pow_below k 4 below in omega (arith, h))

-- changes one by one
any_step : (p : scopes.Changed → Bool) (cs : List Changed) (i : ℕ) (d : Changed) (x y z : Bool) → i < length cs →
    y ≡ (x || p (changed_of (get_or cs i d))) → (x || list_any p (map changed_of (drop i cs))) ≡ z → (y || list_any p (map changed_of (drop (suc i) cs))) ≡ z
any_step p [] i d x y z below is e = absurd (omega (arith, below))
any_step p (c ∷ cs) zero d x y z below is e =
    ap (λ y. y || list_any p (map changed_of cs)) is ∙ (or_last x (p (changed_of c)) (list_any p (map changed_of cs)) ∙ e)
any_step p (c ∷ cs) (suc i) d x y z below is e = any_step p cs i d x y z (omega (arith, below)) is e

pub any_next : (p : scopes.Changed → Bool) (cs : List Changed) (i : ℕ) (d : Changed) (x y z : Bool) → i < length cs →
    y ≡ (x || p (changed_of (get_or cs i d))) → (x || list_any p (map changed_of (drop i cs))) ≡ z → (y || list_any p (map changed_of (drop (i + 1) cs))) ≡ z
any_next p cs i d x y z below is e =
    let one : suc i ≡ i + 1 = omega arith in
    subst (λ j. (y || list_any p (map changed_of (drop j cs))) ≡ z) one (any_step p cs i d x y z below is e)

pub any_end : (p : scopes.Changed → Bool) (cs : List Changed) (i : ℕ) (x z : Bool) → length cs ≤ i → (x || list_any p (map changed_of (drop i cs))) ≡ z → x ≡ z
any_end p [] zero x z le e = sym (or_false x) ∙ e
any_end p [] (suc i) x z le e = sym (or_false x) ∙ e
any_end p (c ∷ cs) zero x z le e = absurd (omega (arith, le))
any_end p (c ∷ cs) (suc i) x z le e = any_end p cs i x z (omega (arith, le)) e

-- contracts one by one
place_step : (a : ℕ) (cs : List Contract) (i : ℕ) (d : Contract) (b : Bool) → i < length cs → ((get_or cs i d).at ≡ a → ⊥) →
    list_any (λ c. c.at == a) (drop i cs) ≡ b → list_any (λ c. c.at == a) (drop (suc i) cs) ≡ b
place_step a [] i d b below is e = absurd (omega (arith, below))
place_step a (c ∷ cs) zero d b below is e =
    let h : (c.at == a) ≡ false = grind (arith, nat_tests) in sym (ap (λ b. b || list_any (λ c. c.at == a) cs) h) ∙ e
place_step a (c ∷ cs) (suc i) d b below is e = place_step a cs i d b (omega (arith, below)) is e

pub place_next : (a : ℕ) (cs : List Contract) (i : ℕ) (d : Contract) (b : Bool) → i < length cs → ((get_or cs i d).at ≡ a → ⊥) →
    list_any (λ c. c.at == a) (drop i cs) ≡ b → list_any (λ c. c.at == a) (drop (i + 1) cs) ≡ b
place_next a cs i d b below is e =
    let one : suc i ≡ i + 1 = omega arith in subst (λ j. list_any (λ c. c.at == a) (drop j cs) ≡ b) one (place_step a cs i d b below is e)

pub place_end : (a : ℕ) (cs : List Contract) (i : ℕ) (b : Bool) → length cs ≤ i → list_any (λ c. c.at == a) (drop i cs) ≡ b → b ≡ false
place_end a [] zero b le e = sym e
place_end a [] (suc i) b le e = sym e
place_end a (c ∷ cs) zero b le e = absurd (omega (arith, le))
place_end a (c ∷ cs) (suc i) b le e = place_end a cs i b (omega (arith, le)) e

pub same_element : {X : Type 0} (xs : List X) (i : ℕ) (d e : X) → i < length xs → get_or xs i d ≡ get_or xs i e
same_element [] i d e below = absurd (omega (arith, below))
same_element (x ∷ xs) zero d e below = refl
same_element (x ∷ xs) (suc i) d e below = same_element xs i d e (omega (arith, below))

-- contracts of which all is said
same_contract : (x y : frames.Contract) → x.at ≡ y.at → x.needs ≡ y.needs → x.gives ≡ y.gives → x.writes ≡ y.writes → x.registers ≡ y.registers →
    x.flags ≡ y.flags → x ≡ y
same_contract x y a b c d e f = λ i. record { at = a i; needs = b i; gives = c i; writes = d i; registers = e i; flags = f i }

same_filter : (p q : ℕ → Bool) (n count : ℕ) → ((m : ℕ) → m < n + count → p m ≡ q m) → filter p (from_to n count) ≡ filter q (from_to n count)
same_filter p q n zero h = refl
same_filter p q n (suc count) h =
    ap (λ b. if b then n ∷ filter p (from_to (n + 1) count) else filter p (from_to (n + 1) count)) (h n (omega arith))
    ∙ ap (λ l. if q n then n ∷ l else l) (same_filter p q (n + 1) count (λ m below. h m (omega (arith, below))))

pub contracts_are : (says : List Says) (cs : List Contract) → AreContracts says cs → contracts_of says ≡ map contract_of cs
contracts_are says cs p = ap (map (contract_said says)) p.places ∙ by cs p.each where
  is : (c : Contract) → IsContract says c → contract_said says c.at ≡ contract_of c
  is c q =
      same_contract (contract_said says c.at) (contract_of c) refl q.needs q.gives q.writes (same_filter _ _ 0 32 q.registers) (same_filter _ _ 0 4 q.flags)

  by : (cs : List Contract) → EachContract says cs → map (contract_said says) (map (λ (c : Contract). c.at) cs) ≡ map contract_of cs
  by [] h = refl
  by (c ∷ cs) h = ap (λ x. x ∷ map (contract_said says) (map (λ (c : Contract). c.at) cs)) (is c h.0) ∙ ap (λ l. contract_of c ∷ l) (by cs h.1)
