-- What one more line adds to what was said.
use Rattle.std.proofs.Common.{◌≡◌, ℕ, ◌+◌, ◌-◌, ◌^◌, refl, ap, sym, ◌∙◌, subst, arith, List, [], ◌∷◌, ◌++◌, Option, Some, None, zero, suc, Bool, true, false, if◌then◌else◌, ◌||◌, ◌&&◌, ◌==◌, IsTrue, ◌↔◌, Contains, length, map, append-nil}
use Rattle.std.specs.List.{list_any}
use Rattle.std.specs.Ordering.{is_eq, nat_cmp}
use Rattle.std.specs.BTreeSet.{BTreeSet, contains}
use Rattle.notes_spec.specs.NotesFaults.{Repeats}
use Rattle.notes_value.specs.declared.notes.Targets.{Targets}
use Rattle.std.proofs.lemmas.Bool.Decides.{nat_tests}
use Rattle.std.proofs.lemmas.List.{map-append}
use Rattle.std.proofs.lemmas.List.Folds.{list_any-append}
use Rattle.word_spec.specs.RowFiles.{from_to}
use Rattle.bilv_spec.specs.Notes as notes
use Rattle.notes_spec.specs.NotesGrammar.{Says, EntryIs, RequireIs, EnsureIs, AssertIs, FixedIs, LoadedIs, InvariantIs, has_old, is_mixed, is_of_contract, is_of_entry, entries, requires_of, ensures_of, asserts_of, targets_of as targets_in, fixed_of as fixed_in}
use Rattle.notes_spec.proofs.NotesFirst.{entries_append, targets_append}
use Rattle.notes_lang.specs.declared.drafts.Draft.{Draft}
use Rattle.notes_value.specs.declared.notes.Function.{Function}
use Rattle.notes_lang.specs.declared.sayings.ContractLine.{ContractLine}
use Rattle.notes_lang.specs.declared.sayings.ContractLine.TheVariants as contract
use Rattle.notes_lang.specs.Saying.{contract_says}
use Rattle.notes_spec.specs.FrameNotes.{invariants_of}
use Rattle.notes_lang.specs.Contracting.{AreContracts}
use Rattle.notes_lang.proofs.Contracted.{numbered}
use Rattle.notes_lang.specs.Drafting.{HasAddresses, HasTargets, IsDraft, place_list}
use Rattle.notes_value.specs.NoteViews.{note_line_of, assert_of, targets_of, fixed_of}

requires_and : (n : ℕ) (xs : List Says) (y : Says) → requires_of n (xs ++ y ∷ []) ≡ requires_of n xs ++ requires_of (n + length xs) (y ∷ [])
requires_and n [] y = ap (λ m. requires_of m (y ∷ [])) (let e : n ≡ n + 0 = omega arith in e)
requires_and n (RequireIs e ∷ xs) y =
    ap (λ l. record { line = n; says = e } ∷ l) (requires_and (n + 1) xs y ∙ ap
    (λ m. requires_of (n + 1) xs ++ requires_of m (y ∷ [])) (let i : (n + 1) + length xs ≡ n + length (RequireIs e ∷ xs) = omega arith in i))
requires_and n (s ∷ xs) y =
    requires_and (n + 1) xs y ∙ ap (λ m. requires_of (n + 1) xs ++ requires_of m (y ∷ [])) (let i : (n + 1) + length xs
    ≡ n + length (s ∷ xs) = omega arith in i)

ensures_and : (n : ℕ) (xs : List Says) (y : Says) → ensures_of n (xs ++ y ∷ []) ≡ ensures_of n xs ++ ensures_of (n + length xs) (y ∷ [])
ensures_and n [] y = ap (λ m. ensures_of m (y ∷ [])) (let e : n ≡ n + 0 = omega arith in e)
ensures_and n (EnsureIs e ∷ xs) y =
    ap (λ l. record { line = n; says = e } ∷ l) (ensures_and (n + 1) xs y ∙ ap
    (λ m. ensures_of (n + 1) xs ++ ensures_of m (y ∷ [])) (let i : (n + 1) + length xs ≡ n + length (EnsureIs e ∷ xs) = omega arith in i))
ensures_and n (s ∷ xs) y =
    ensures_and (n + 1) xs y ∙ ap (λ m. ensures_of (n + 1) xs ++ ensures_of m (y ∷ [])) (let i : (n + 1) + length xs ≡ n + length (s ∷ xs) = omega arith in i)

asserts_and : (n : ℕ) (xs : List Says) (y : Says) → asserts_of n (xs ++ y ∷ []) ≡ asserts_of n xs ++ asserts_of (n + length xs) (y ∷ [])
asserts_and n [] y = ap (λ m. asserts_of m (y ∷ [])) (let e : n ≡ n + 0 = omega arith in e)
asserts_and n (AssertIs a e ∷ xs) y =
    ap (λ l. record { line = n; at = a; says = e } ∷ l) (asserts_and (n + 1) xs y ∙ ap
    (λ m. asserts_of (n + 1) xs ++ asserts_of m (y ∷ [])) (let i : (n + 1) + length xs ≡ n + length (AssertIs a e ∷ xs) = omega arith in i))
asserts_and n (InvariantIs a e ∷ xs) y =
    ap (λ l. record { line = n; at = a; says = e } ∷ l) (asserts_and (n + 1) xs y ∙ ap
    (λ m. asserts_of (n + 1) xs ++ asserts_of m (y ∷ [])) (let i : (n + 1) + length xs ≡ n + length (InvariantIs a e ∷ xs) = omega arith in i))
asserts_and n (s ∷ xs) y =
    asserts_and (n + 1) xs y ∙ ap (λ m. asserts_of (n + 1) xs ++ asserts_of m (y ∷ [])) (let i : (n + 1) + length xs ≡ n + length (s ∷ xs) = omega arith in i)

invariants_and : (n : ℕ) (xs : List Says) (y : Says) → invariants_of n (xs ++ y ∷ []) ≡ invariants_of n xs ++ invariants_of (n + length xs) (y ∷ [])
invariants_and n [] y = ap (λ m. invariants_of m (y ∷ [])) (let e : n ≡ n + 0 = omega arith in e)
invariants_and n (InvariantIs a e ∷ xs) y =
    ap (λ l. n ∷ l) (invariants_and (n + 1) xs y ∙ ap
    (λ m. invariants_of (n + 1) xs ++ invariants_of m (y ∷ [])) (let i : (n + 1) + length xs ≡ n + length (InvariantIs a e ∷ xs) = omega arith in i))
invariants_and n (s ∷ xs) y =
    invariants_and (n + 1) xs y ∙ ap (λ m. invariants_of (n + 1) xs ++ invariants_of m (y ∷ [])) (let i : (n + 1) + length xs
    ≡ n + length (s ∷ xs) = omega arith in i)

fixed_and : (xs : List Says) (y : Says) → fixed_in (xs ++ y ∷ []) ≡ fixed_in xs ++ fixed_in (y ∷ [])
fixed_and [] y = refl
fixed_and (FixedIs low high ∷ xs) y = ap (λ l. record { low = low; high = high } ∷ l) (fixed_and xs y)
fixed_and (LoadedIs ∷ xs) y = ap (λ l. record { low = 0; high = 2 ^ 32 - 1 } ∷ l) (fixed_and xs y)
fixed_and (s ∷ xs) y = fixed_and xs y

any_and : (p : Says → Bool) (xs : List Says) (y : Says) → list_any p (xs ++ y ∷ []) ≡ (list_any p xs || p y)
any_and p xs y = list_any-append p xs (y ∷ []) ∙ ap (λ b. list_any p xs || b) (or_false (p y)) where
  or_false : (b : Bool) → (b || false) ≡ b
  or_false true = refl
  or_false false = refl

-- a list to which the line adds nothing, or one element
pub same : {X Y : Type 0} (view : X → Y) (xs : List X) → map view xs ≡ map view xs ++ []
same view xs = sym (append-nil (map view xs))

pub more : {X Y : Type 0} (view : X → Y) (xs ys : List X) (x : X) (y : Y) → ys ≡ xs ++ x ∷ [] → view x ≡ y → map view ys ≡ map view xs ++ y ∷ []
more view xs ys x y is x_is = ap (map view) is ∙ (map-append view xs (x ∷ []) ∙ ap (λ v. map view xs ++ v ∷ []) x_is)

pub grows : (says : List Says) (s : Says) (d e : Draft) (line : ℕ) → line ≡ length says + 1 → IsDraft says d →
    place_list e.entry ≡ place_list d.entry ++ entries (s ∷ []) →
    map note_line_of e.required.items ≡ map note_line_of d.required.items ++ requires_of line (s ∷ []) →
    map note_line_of e.ensured.items ≡ map note_line_of d.ensured.items ++ ensures_of line (s ∷ []) →
    map assert_of e.asserts.items ≡ map assert_of d.asserts.items ++ asserts_of line (s ∷ []) →
    map targets_of e.targets.items ≡ map targets_of d.targets.items ++ targets_in (s ∷ []) →
    map fixed_of e.fixed.items ≡ map fixed_of d.fixed.items ++ fixed_in (s ∷ []) → HasAddresses e.targets.items e.addresses →
    e.is_of_entry ≡ (d.is_of_entry || is_of_entry s) → e.has_contract ≡ (d.has_contract || is_of_contract s) →
    e.invariants.items ≡ d.invariants.items ++ invariants_of line (s ∷ []) → AreContracts (says ++ s ∷ []) e.contracts.items → IsDraft (says ++ s ∷ []) e
grows says s d e line number p entry required ensured asserts targets fixed addresses of_entry contract invariants contracts = record {
  entry = entries_append says (s ∷ []) ∙ (ap (λ l. l ++ entries (s ∷ [])) p.entry ∙ sym entry);
  requires = numbered requires_of s says line _ (map note_line_of d.required.items) _ number (requires_and 1 says s) p.requires required;
  ensures = numbered ensures_of s says line _ (map note_line_of d.ensured.items) _ number (ensures_and 1 says s) p.ensures ensured;
  asserts = numbered asserts_of s says line _ (map assert_of d.asserts.items) _ number (asserts_and 1 says s) p.asserts asserts;
  targets = targets_append says (s ∷ []) ∙ (ap (λ l. l ++ targets_in (s ∷ [])) p.targets ∙ sym targets);
  fixed = fixed_and says s ∙ (ap (λ l. l ++ fixed_in (s ∷ [])) p.fixed ∙ sym fixed);
  invariants = numbered invariants_of s says line _ d.invariants.items _ number (invariants_and 1 says s) p.invariants invariants;
  contracts = contracts;
  addresses = addresses;
  of_entry = any_and is_of_entry says s ∙ (ap (λ b. b || is_of_entry s) p.of_entry ∙ sym of_entry);
  contract = any_and is_of_contract says s ∙ (ap (λ b. b || is_of_contract s) p.contract ∙ sym contract);
}

-- what is known of the kinds of lines
pub unchanged : (b : Bool) → b ≡ (b || false)
unchanged true = refl
unchanged false = refl

pub is_so : (b : Bool) → true ≡ (b || true)
is_so true = refl
is_so false = refl

-- a line of a contract is of no other kind
pub contract_grows : (says : List Says) (a : ℕ) (l : ContractLine) (d e : Draft) (line : ℕ) → line ≡ length says + 1 → IsDraft says d →
    e ≡ record d { contracts = e.contracts; has_contract = true } → AreContracts (says ++ contract_says a l ∷ []) e.contracts.items →
    IsDraft (says ++ contract_says a l ∷ []) e
contract_grows says a l d e line number p is contracts = subst (IsDraft (says ++ contract_says a l ∷ [])) (sym is) (by l contracts) where
  plain : (s : Says) → [] ≡ entries (s ∷ []) → [] ≡ requires_of line (s ∷ []) → [] ≡ ensures_of line (s ∷ []) → [] ≡ asserts_of line (s ∷ []) →
      [] ≡ targets_in (s ∷ []) → [] ≡ fixed_in (s ∷ []) → false ≡ is_of_entry s → true ≡ is_of_contract s → [] ≡ invariants_of line (s ∷ []) →
      AreContracts (says ++ s ∷ []) e.contracts.items → IsDraft (says ++ s ∷ []) (record d { contracts = e.contracts; has_contract = true })
  plain s entry required ensured asserts targets fixed of_entry contract invariants contracts =
      grows says s d (record d { contracts = e.contracts; has_contract = true }) line number p
      (sym (append-nil (place_list d.entry)) ∙ ap (λ l. place_list d.entry ++ l) entry)
      (same note_line_of d.required.items ∙ ap (λ l. map note_line_of d.required.items ++ l) required)
      (same note_line_of d.ensured.items ∙ ap (λ l. map note_line_of d.ensured.items ++ l) ensured)
      (same assert_of d.asserts.items ∙ ap (λ l. map assert_of d.asserts.items ++ l) asserts)
      (same targets_of d.targets.items ∙ ap (λ l. map targets_of d.targets.items ++ l) targets)
      (same fixed_of d.fixed.items ∙ ap (λ l. map fixed_of d.fixed.items ++ l) fixed) p.addresses
      (unchanged d.is_of_entry ∙ ap (λ b. d.is_of_entry || b) of_entry) (is_so d.has_contract ∙ ap (λ b. d.has_contract || b) contract)
      (sym (append-nil d.invariants.items) ∙ ap (λ l. d.invariants.items ++ l) invariants) contracts

  by : (l : ContractLine) → AreContracts (says ++ contract_says a l ∷ []) e.contracts.items →
      IsDraft (says ++ contract_says a l ∷ []) (record d { contracts = e.contracts; has_contract = true })
  by (contract.Needs x) cs = plain _ refl refl refl refl refl refl refl refl refl cs
  by (contract.Gives x) cs = plain _ refl refl refl refl refl refl refl refl refl cs
  by (contract.Modifies changes) cs = plain _ refl refl refl refl refl refl refl refl refl cs
  by (contract.Writes x n) cs = plain _ refl refl refl refl refl refl refl refl refl cs

-- whether lines are mixed, by what is known of those so far
pub mixed_by : (says : List Says) (s : Says) (d : Draft) (a b r : Bool) → IsDraft says d → a ≡ (d.has_contract || is_of_contract s) →
    b ≡ (d.is_of_entry || is_of_entry s) → r ≡ (a && b) → r ≡ is_mixed (says ++ s ∷ [])
mixed_by says s d a b r p a_is b_is is =
    is ∙ (ap (λ a. a && b) (a_is ∙ (ap (λ c. c || is_of_contract s) (sym p.contract) ∙ sym (any_and is_of_contract says s)))
    ∙ ap (λ b. list_any is_of_contract (says ++ s ∷ []) && b)
    (b_is ∙ (ap (λ c. c || is_of_entry s) (sym p.of_entry) ∙ sym (any_and is_of_entry says s))))

-- a number in place of the bound name is no value at entry
put_old : (v : ℕ) (e : notes.Expr) → has_old (notes.put_bound v e) ≡ has_old e
put_old v (notes.Number n) = refl
put_old v (notes.Register n) = refl
put_old v (notes.Flag f) = refl
put_old v notes.Pc = refl
put_old v notes.Bound = refl
put_old v (notes.Memory n a) = put_old v a
put_old v (notes.Old a) = refl
put_old v (notes.Not a) = put_old v a
put_old v (notes.Binary op a b) = ap (λ c. c || has_old (notes.put_bound v b)) (put_old v a) ∙ ap (λ c. has_old a || c) (put_old v b)

each_old : (vs : List ℕ) (e : notes.Expr) (b : Bool) → has_old e ≡ b → b || has_old (notes.each (map (λ v. notes.put_bound v e) vs)) ≡ b
each_old vs e true is = refl
each_old [] e false is = refl
each_old (v ∷ vs) e false is =
    ap (λ c. c || has_old (notes.each (map (λ v. notes.put_bound v e) vs))) (put_old v e ∙ is) ∙ each_old vs e false is

-- an `all` has a value at entry where its expression has
pub all_old : (low high : ℕ) (e : notes.Expr) → has_old (notes.written_out low high e) ≡ has_old e
all_old low high e =
    ap (λ c. c || has_old (notes.each (map (λ v. notes.put_bound v e) (from_to (low + 1) (high - low))))) (put_old low e)
    ∙ each_old (from_to (low + 1) (high - low)) e (has_old e) refl

-- one more address
at_either : (b c : Bool) → (if b then true else c) ≡ (c || (b || false))
at_either true true = refl
at_either true false = refl
at_either false true = refl
at_either false false = refl

same_address : (a q : ℕ) → is_eq (nat_cmp a q) ≡ (a == q)
same_address a q = grind (arith, nat_tests)

pub one_more : (old new : BTreeSet ℕ) (xs ys : List Targets) (t : Targets) (a : ℕ) → a ≡ t.at → ys ≡ xs ++ t ∷ [] →
    ((q : ℕ) → contains nat_cmp new q ≡ (if is_eq (nat_cmp a q) then true else contains nat_cmp old q)) →
    HasAddresses xs old → HasAddresses ys new
one_more old new xs ys t a is more updates has q =
    updates q ∙ (ap (λ b. if is_eq (nat_cmp a q) then true else b) (has q) ∙ (ap
    (λ b. if b then true else list_any (λ t. t.at == q) xs) (same_address a q ∙ ap (λ a. a == q) is)
    ∙ (at_either (t.at == q) (list_any (λ t. t.at == q) xs) ∙ (sym (list_any-append (λ t. t.at == q) xs (t ∷ [])) ∙ ap (list_any
    (λ t. t.at == q)) (sym more)))))

-- no place so far
place_by : (says : List Says) (o : Option Function) → entries says ≡ place_list o → ((entries says ≡ [] → ⊥) → ⊥) → place_list o ≡ []
place_by says None is none = refl
place_by says (Some f) is none = absurd (none (λ e. let b : ⊥ = cc in b))

pub no_place : (says : List Says) (o : Option Function) (s : Says) (f : notes.Function) → s ≡ EntryIs f → entries says ≡ place_list o → (Repeats says s → ⊥) →
    f ∷ [] ≡ place_list o ++ f ∷ []
no_place says o s f s_is is none = sym (ap (λ l. l ++ f ∷ []) (place_by says o is (subst (λ s. Repeats says s → ⊥) s_is none)))

-- the targets of an address
first_or : (b : Bool) (t : Targets) (ts : List Targets) (at : ℕ) → (t.at == at) ≡ b → b || list_any (λ t. t.at == at) ts ≡ true →
    (list_any (λ t. t.at == at) ts ≡ true → (u : notes.Targets) × Contains (map targets_of ts) u × (u.at ≡ at)) → (u : notes.Targets) ×
    Contains (map targets_of (t ∷ ts)) u × (u.at ≡ at)
first_or true t ts at is e rest = (targets_of t, (0, omega arith, refl), grind arith)
first_or false t ts at is e rest = let r = rest e in (r.0, (suc r.1.0, omega (arith, r.1.1), r.1.2), r.2)

later : (b c : Bool) → c ≡ true → b || c ≡ true
later true c e = refl
later false c e = e

any_by : (ts : List Targets) (at : ℕ) → list_any (λ t. t.at == at) ts ≡ true → (t : notes.Targets) × Contains (map targets_of ts) t × (t.at ≡ at)
any_by [] at e = absurd (let b : ⊥ = cc in b)
any_by (t ∷ ts) at e = first_or (t.at == at) t ts at refl e (λ r. any_by ts at r)

by_any : (ts : List Targets) (at : ℕ) (t : notes.Targets) → Contains (map targets_of ts) t → t.at ≡ at → list_any (λ t. t.at == at) ts ≡ true
by_any [] at t c is = absurd (omega (arith, c.1))
by_any (u ∷ ts) at t (zero, below, is) at_is =
    let e : u.at ≡ at = ap (λ t. t.at) is ∙ at_is in let same : (u.at == at) ≡ true = grind arith in ap (λ b. b || list_any (λ t. t.at == at) ts) same
by_any (u ∷ ts) at t (suc k, below, is) at_is = later (u.at == at) (list_any (λ t. t.at == at) ts) (by_any ts at t (k, omega (arith, below), is) at_is)

pub has_by : (says : List Says) (ts : List Targets) (at : ℕ) (b : Bool) → b ≡ list_any (λ t. t.at == at) ts → targets_in says ≡ map targets_of ts → IsTrue b ↔
    HasTargets says at
has_by says ts at b b_is is = (
  λ e. let f = any_by ts at (sym b_is ∙ e) in (f.0, subst (λ l. Contains l f.0) (sym is) f.1, f.2),
  λ h. b_is ∙ by_any ts at h.0 (subst (λ l. Contains l h.0) is h.1) h.2,
)
