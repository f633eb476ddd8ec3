-- Sets of the flags that contracts read.
use Rattle.std.proofs.Common.{◌≡◌, ◌≢◌, ℕ, zero, suc, ◌+◌, ◌-◌, ◌<◌, ◌≤◌, refl, ap, sym, ◌∙◌, arith, List, [], ◌∷◌, length, get_or, map, take, drop, drop-cons, add-one, Bool, true, false, Some, bit_or, eq-eqb, ne_eqb}
use Rattle.std.specs.Prelude.{◌==◌, ◌||◌, ◌%◌, not, nat_eq, filter, if◌then◌else◌}
use Rattle.std.specs.List.{list_any}
use Rattle.std.proofs.lemmas.List.Folds.{list_any_more}
use Rattle.word_spec.specs.Words.{bit_at}
use Rattle.word_spec.specs.RowFiles.{from_to}
use Rattle.bilv_spec.specs.LiveFlags.{names_flag}
use Rattle.frame_spec.specs.Frames as frames
use Rattle.frame_spec.specs.Frames.{contract_at}
use Rattle.frame_spec.specs.FrameUnrolling.{names_any, names_old, contract_reads}
use Rattle.notes_value.specs.FrameViews.{contract_of, is_in}
use Rattle.notes_value.specs.declared.notes.Contract.{Contract}
use Rattle.graph_nodes.specs.Graphs.{IsFlagSet, has_flag}
use Rattle.flow_graph.proofs.FlagSets.{flags_as, flags_or, take_whole}
use Rattle.flow_graph.proofs.Members.{any_map, any_filter}

-- what one item more names, and what all do
pub any_more : {X : Type 0} (test : ℕ → X → Bool) (xs : List X) (i set more : ℕ) (x : X) → i < length xs → x ≡ get_or xs i x → IsFlagSet more (λ f. test f x)
    → IsFlagSet set (λ f. list_any (test f) (take i xs)) → IsFlagSet (bit_or set more) (λ f. list_any (test f) (take (i + 1) xs))
any_more test xs i set more x fits is here so_far =
    flags_as (bit_or set more) _ _
    (λ f. ap (λ y. list_any (test f) (take i xs) || test f y) is ∙ sym (list_any_more (test f) xs i x fits))
    (flags_or set more (λ f. list_any (test f) (take i xs)) (λ f. test f x) so_far here)

pub any_all : {X Y : Type 0} (test : ℕ → Y → Bool) (v : X → Y) (xs : List X) (i set : ℕ) → length xs ≤ i
    → IsFlagSet set (λ f. list_any (λ x. test f (v x)) (take i xs)) → IsFlagSet set (λ f. list_any (test f) (map v xs))
any_all test v xs i set le is =
    flags_as set _ _ (λ f. ap (list_any (λ x. test f (v x))) (take_whole xs i le) ∙ sym (any_map (test f) v xs)) is

-- what passes one of two tests
four : (a b c d : Bool) → ((a || c) || (b || d)) ≡ ((a || b) || (c || d))
four true b c d = refl
four false true true d = refl
four false true false d = refl
four false false c d = refl

any_both : {X : Type 0} (p q : X → Bool) (xs : List X) → (list_any p xs || list_any q xs) ≡ list_any (λ x. p x || q x) xs
any_both p q [] = refl
any_both p q (x ∷ xs) = four (p x) (q x) (list_any p xs) (list_any q xs) ∙ ap (λ b. (p x || q x) || b) (any_both p q xs)

-- the flags of a set, listed
none_two : (c d : Bool) → ((if c then false else false) || ((if d then false else false) || false)) ≡ false
none_two true true = refl
none_two true false = refl
none_two false true = refl
none_two false false = refl

pick : (b : Bool) (rest : Bool) → rest ≡ false → ((if b then true else false) || rest) ≡ b
pick true rest e = refl
pick false rest e = e

pass : (b : Bool) (rest : Bool) → ((if b then false else false) || rest) ≡ rest
pass true rest = refl
pass false rest = refl

listed : (p : ℕ → Bool) (f : ℕ) → f < 4 → list_any (λ x. if p x then nat_eq f x else false) (from_to 0 4) ≡ p f
listed p zero w = pick (p 0) _ (pass (p 1) _ ∙ none_two (p 2) (p 3))
listed p (suc zero) w = pass (p 0) _ ∙ pick (p 1) _ (none_two (p 2) (p 3))
listed p (suc (suc zero)) w = pass (p 0) _ ∙ pass (p 1) _ ∙ pick (p 2) _ (pass (p 3) false)
listed p (suc (suc (suc zero))) w = pass (p 0) _ ∙ pass (p 1) _ ∙ pass (p 2) _ ∙ pick (p 3) false refl
listed p (suc (suc (suc (suc f)))) w = absurd (omega arith)

-- the flags that a set lacks
flip : (a b : ℕ) → a + b ≡ 1 → (a == 1) ≡ not (b == 1)
flip zero zero e = absurd (omega arith)
flip zero (suc zero) e = refl
flip zero (suc (suc b)) e = absurd (omega arith)
flip (suc zero) zero e = refl
flip (suc zero) (suc b) e = absurd (omega arith)
flip (suc (suc a)) b e = absurd (omega arith)

lacks : (set f : ℕ) → f < 4 → has_flag (15 - set % 16) f ≡ not (is_in set f)
lacks set zero w = flip (bit_at 0 (15 - set % 16)) (bit_at 0 set) (omega arith)
lacks set (suc zero) w = flip (bit_at 1 (15 - set % 16)) (bit_at 1 set) (omega arith)
lacks set (suc (suc zero)) w = flip (bit_at 2 (15 - set % 16)) (bit_at 2 set) (omega arith)
lacks set (suc (suc (suc zero))) w = flip (bit_at 3 (15 - set % 16)) (bit_at 3 set) (omega arith)
lacks set (suc (suc (suc (suc f)))) w = absurd (omega arith)

pub kept_is : (set : ℕ) → IsFlagSet (15 - set % 16) (λ f. not (list_any (nat_eq f) (filter (is_in set) (from_to 0 4))))
kept_is set = record {
  small = omega arith;
  exact = λ f w. lacks set f w ∙ ap not (sym (any_filter (nat_eq f) (is_in set) (from_to 0 4) ∙ listed (is_in set) f w));
}

-- what a step over a contract reads
three : (a b c d : Bool) → (((a || b) || c) || d) ≡ (a || (b || (c || d)))
three true b c d = refl
three false true c d = refl
three false false c d = refl

pub reads_is : (x : frames.Contract) (kept now old to given : ℕ) → IsFlagSet kept (λ f. not (list_any (nat_eq f) x.flags))
    → IsFlagSet now (λ f. list_any (λ l. names_flag f l.says) x.needs) → IsFlagSet old (λ f. list_any (λ l. names_old f l.says) x.needs)
    → IsFlagSet to (λ f. list_any (λ w. names_any f w.says) x.writes) → IsFlagSet given (λ f. list_any (λ l. names_old f l.says) x.gives)
    → IsFlagSet (bit_or (bit_or (bit_or kept (bit_or now old)) to) given) (λ f. contract_reads f (Some x))
reads_is x kept now old to given is_kept is_now is_old is_to is_given =
    let some_now : ℕ → Bool = λ f. list_any (λ l. names_flag f l.says) x.needs in
    let some_old : ℕ → Bool = λ f. list_any (λ l. names_old f l.says) x.needs in
    let lacking : ℕ → Bool = λ f. not (list_any (nat_eq f) x.flags) in
    let written : ℕ → Bool = λ f. list_any (λ w. names_any f w.says) x.writes in
    let gives : ℕ → Bool = λ f. list_any (λ l. names_old f l.says) x.gives in
    flags_as _ _ _
    (λ f.
    three (lacking f) (some_now f || some_old f) (written f) (gives f)
    ∙ ap (λ b. lacking f || (b || (written f || gives f))) (any_both (λ l. names_flag f l.says) (λ l. names_old f l.says) x.needs))
    (flags_or (bit_or (bit_or kept (bit_or now old)) to) given (λ f. (lacking f || (some_now f || some_old f)) || written f) gives
    (flags_or (bit_or kept (bit_or now old)) to (λ f. lacking f || (some_now f || some_old f)) written
    (flags_or kept (bit_or now old) lacking (λ f. some_now f || some_old f) is_kept (flags_or now old some_now some_old is_now is_old)) is_to) is_given)

-- the contract of an address, among those that are left
module _ (xs : List Contract) (i a : ℕ) (x : Contract) (fits : i < length xs) (is : x ≡ get_or xs i x) where
  split : map contract_of (drop i xs) ≡ contract_of x ∷ map contract_of (drop (i + 1) xs)
  split =
      ap (map contract_of) (drop-cons xs i x fits) ∙ ap (λ (y : Contract). contract_of y ∷ map contract_of (drop (suc i) xs)) (sym is)
      ∙ ap (λ k. contract_of x ∷ map contract_of (drop k xs)) (sym (add-one i))

  pub contract_here : x.at ≡ a → contract_at (map contract_of (drop i xs)) a ≡ Some (contract_of x)
  contract_here e =
      ap (λ cs. contract_at cs a) split
      ∙ ap (λ b. if b then Some (contract_of x) else contract_at (map contract_of (drop (i + 1) xs)) a) (eq-eqb x.at a e)

  pub contract_later : x.at ≢ a → contract_at (map contract_of (drop (i + 1) xs)) a ≡ contract_at (map contract_of (drop i xs)) a
  contract_later other =
      sym (ap (λ cs. contract_at cs a) split
      ∙ ap (λ b. if b then Some (contract_of x) else contract_at (map contract_of (drop (i + 1) xs)) a) (ne_eqb x.at a other))
