-- The successors and the node of an address.
use Rattle.std.proofs.Common.{◌≡◌, ℕ, ap, sym, ◌∙◌, subst, List, [], ◌∷◌, ◌++◌, map, Bool, true, false, Option, Some, None}
use Rattle.std.specs.Prelude.{nat_eq, ◌==◌, ◌||◌, ◌&&◌, not, filter, if◌then◌else◌, is_some}
use Rattle.std.specs.List.{list_any}
use Rattle.std.specs.Bool.{then_some}
use Rattle.std.proofs.lemmas.List.Folds.{list_any-append}
use Rattle.word_spec.specs.Words.{add}
use Rattle.machine_spec.specs.Machine as table
use Rattle.bilv_spec.specs.Run as run
use Rattle.bilv_spec.specs.Points.{file_row, file_word}
use Rattle.bilv_spec.specs.Graph as graph
use Rattle.bilv_spec.specs.LiveFlags.{reads_by, assigns_by, surely_by, asserts_flag, names_flag}
use Rattle.machine_law.specs.Facts as facts
use Rattle.notes_value.specs.NoteViews.{assert_of}
use Rattle.notes_value.specs.declared.notes.Assert.{Assert}
use Rattle.machine_law.specs.declared.facts.Succ.{Succ}
use Rattle.graph_nodes.specs.declared.nodes.Letter.{Letter}
use Rattle.graph_nodes.specs.declared.nodes.Letter.TheVariants as letter
use Rattle.graph_nodes.specs.declared.nodes.Node.{Node}
use Rattle.graph_nodes.specs.Graphs.{IsNode, IsFlagSet, IsFlagUseAt, successors_of, letter_of, row_length, row_links}
use Rattle.flow_graph.specs.Programs.{place, IsSameSet}
use Rattle.flow_graph.proofs.Members.{any_map, any_filter}
use Rattle.flow_graph.proofs.Orders.{unique, places_tell, any_sort, rises_sort}
use Rattle.flow_graph.proofs.FlagSets.{flags_as, flags_none, flags_all}

same_as : {X : Type 0} (xs ys : List X) → xs ≡ ys → IsSameSet xs ys
same_as xs ys e = record { any = λ test. ap (list_any test) e }

same_append : {X : Type 0} (us bs xs ys : List X) → IsSameSet us xs → IsSameSet bs ys → IsSameSet (us ++ bs) (xs ++ ys)
same_append us bs xs ys s t = record {
  any = λ test.
      list_any-append test us bs ∙ ap (λ b. b || list_any test bs) (s.any test) ∙ ap (λ b. list_any test xs ||
      b) (t.any test) ∙ sym (list_any-append test xs ys);
}

same_map : {X Y : Type 0} (f : X → Y) (b : Bool) (xs ys : List X) → IsSameSet xs (if b then ys else []) → IsSameSet (map f xs) (if b then map f ys else [])
same_map f true xs ys s = record { any = λ test. any_map test f xs ∙ s.any (λ x. test (f x)) ∙ sym (any_map test f ys) }
same_map f false xs ys s = record { any = λ test. any_map test f xs ∙ s.any (λ x. test (f x)) }

letters : (b : Bool) (l : Letter) → l ≡ (if b then letter.Call else letter.Jump) → letter_of l ≡ (if b then graph.CallLetter else graph.JumpLetter)
letters true l e = ap letter_of e
letters false l e = ap letter_of e

one_of : (b : Bool) (l : graph.Letter) (a to : ℕ) (o : Option ℕ) → o ≡ then_some b to → to ≡ a →
    map (graph.successor l) (run.some_of o) ≡ (if b then graph.successor l a ∷ [] else [])
one_of true l a to o e f = ap (λ x. map (graph.successor l) (run.some_of x)) e ∙ ap (λ t. graph.successor l t ∷ []) f
one_of false l a to o e f = ap (λ x. map (graph.successor l) (run.some_of x)) e

module _ (p : run.Program) (at : ℕ) (row : table.Row) (ways : Succ) where
  -- the successors that are pushed in turn
  pub all_is : (l : Letter) (targets : List ℕ) (behind : ℕ) (on back : Option ℕ) (none one two three four : List graph.Successor)
      → behind ≡ add 32 at row.length → l ≡ (if ways.call then letter.Call else letter.Jump)
      → IsSameSet targets (if ways.indirect then run.named p (file_word p) row at else [])
      → on ≡ then_some ways.next behind → back ≡ then_some ways.call behind
      → none ≡ []
      → one ≡ none ++ map (graph.successor graph.NextLetter) (run.some_of on)
      → two ≡ one ++ map (graph.successor (letter_of l)) (run.some_of ways.direct)
      → three ≡ two ++ map (graph.successor (letter_of l)) targets
      → four ≡ three ++ map (graph.successor graph.ReturnLetter) (run.some_of back)
      → IsSameSet four (graph.successors_of p at row (facts.successors_of ways))
  all_is l targets behind on back none one two three four next is_letter set is_on is_back e0 e1 e2 e3 e4 =
      let jump : letter_of l ≡ (if ways.call then graph.CallLetter else graph.JumpLetter) = letters ways.call l is_letter in
      let first = if ways.next then graph.successor graph.NextLetter (add 32 at row.length) ∷ [] else [] in
      let direct = map (graph.successor (if ways.call then graph.CallLetter else graph.JumpLetter)) (run.some_of ways.direct) in
      let indirect = if ways.indirect then map (graph.successor (if ways.call then graph.CallLetter else graph.JumpLetter)) (run.named p (file_word p) row at)
      else [] in
      let last = if ways.call then graph.successor graph.ReturnLetter (add 32 at row.length) ∷ [] else [] in
      let s1 : IsSameSet one first = same_as one first (e1 ∙ ap
      (λ xs. xs ++ map (graph.successor graph.NextLetter) (run.some_of on)) e0 ∙ one_of ways.next graph.NextLetter
      (add 32 at row.length) behind on is_on next) in
      let s2 : IsSameSet two (first ++ direct) =
      subst (λ xs. IsSameSet xs (first ++ direct)) (sym e2)
      (same_append one (map (graph.successor (letter_of l)) (run.some_of ways.direct)) first direct s1
      (same_as (map (graph.successor (letter_of l)) (run.some_of ways.direct)) direct (ap (λ x. map (graph.successor x) (run.some_of ways.direct)) jump))) in
      let s3 : IsSameSet three (first ++ direct ++ indirect) =
      subst (λ xs. IsSameSet xs (first ++ direct ++ indirect)) (sym e3)
      (same_append two (map (graph.successor (letter_of l)) targets) (first ++ direct) indirect s2
      (subst
      (λ x. IsSameSet (map (graph.successor (letter_of l)) targets) (if ways.indirect then map (graph.successor x) (run.named p (file_word p) row at)
      else [])) jump
      (same_map (graph.successor (letter_of l)) ways.indirect targets (run.named p (file_word p) row at) set))) in
      subst (λ xs. IsSameSet xs (first ++ direct ++ indirect ++ last)) (sym e4)
      (same_append three (map (graph.successor graph.ReturnLetter) (run.some_of back)) (first ++ direct ++ indirect) last s3
      (same_as (map (graph.successor graph.ReturnLetter) (run.some_of back)) last
      (one_of ways.call graph.ReturnLetter (add 32 at row.length) behind back is_back next)))

-- the same successors are the same in order
pub sort_same : (keep : graph.Successor → Bool) (xs ys : List graph.Successor) → IsSameSet xs ys → graph.sort (filter keep xs) ≡ graph.sort (filter keep ys)
sort_same keep xs ys s =
    places_tell (graph.sort (filter keep xs)) (graph.sort (filter keep ys))
    (unique (map place (graph.sort (filter keep xs))) (map place (graph.sort (filter keep ys))) (rises_sort (filter keep xs)) (rises_sort (filter keep ys))
    (λ z.
    any_sort z (filter keep xs) ∙ any_map (nat_eq z) place (filter keep xs) ∙ any_filter (λ x. nat_eq z (place x)) keep xs
    ∙ s.any (λ x. if keep x then nat_eq z (place x) else false) ∙ sym (any_filter (λ x. nat_eq z (place x)) keep ys)
    ∙ sym (any_map (nat_eq z) place (filter keep ys)) ∙ sym (any_sort z (filter keep ys))))

-- the flags of assert lines are the program's
pub asserted_is : (p : run.Program) (a set : ℕ) (asserts lines : List Assert) → lines ≡ asserts → p.notes.asserts ≡ map assert_of asserts
    → IsFlagSet set (λ f. list_any (λ x. (x.at == a) && names_flag f x.says) (map assert_of lines)) → IsFlagSet set (λ f. asserts_flag p f a)
asserted_is p a set asserts lines e is flags =
    flags_as set _ _ (λ f. ap (λ xs. list_any (λ x. (x.at == a) && names_flag f x.says) xs) (ap (map assert_of) e ∙ sym is)) flags

-- the node of an address without a row
pub no_row : (p : run.Program) (n : Node) → None ≡ file_row p n.at → n.length ≡ 4 → n.fetchable ≡ run.fetchable p (file_word p n.at) n.at →
    n.word ≡ None → n.successors.items ≡ [] → n.returns ≡ false → n.links ≡ false
    → n.flags ≡ record { reads = 0; assigns = 0; surely = 15 } → IsFlagSet n.asserted (λ f. asserts_flag p f n.at) → IsNode p n
no_row p n none length fetchable word successors returns links flags asserted = record {
  length = length ∙ ap row_length none;
  fetchable = fetchable;
  word = word ∙ ap (λ o. if is_some o then Some (file_word p n.at) else None) none;
  successors = ap (map _) successors ∙ ap (λ o. graph.sort (graph.successors_by p n.at o)) none;
  returns = returns ∙ ap (graph.returns_by n.at) none;
  links = links ∙ ap row_links none;
  flags =
      subst (IsFlagUseAt p n.at) (sym flags) (record {
        reads = flags_as 0 (λ f. false) _ (λ f. ap (reads_by f) none) flags_none;
        assigns = flags_as 0 (λ f. false) _ (λ f. ap (assigns_by f) none) flags_none;
        surely = flags_as 15 (λ f. true) _ (λ f. ap (surely_by f) none) flags_all;
      });
  asserted = asserted;
}

-- the node of an address with a row
pub with_row : (p : run.Program) (n : Node) (row : table.Row) (ways : Succ) → Some row ≡ file_row p n.at → n.length ≡ row.length →
    n.fetchable ≡ run.fetchable p (file_word p n.at) n.at →
    n.word ≡ Some (file_word p n.at)
    → successors_of n ≡ graph.sort (graph.successors_by p n.at (Some row)) → facts.successors_of ways ≡ row.successors n.at →
    n.returns ≡ (ways.indirect && not ways.call) → n.links ≡ row.links
    → facts.IsFlagUse n.flags row.flags → IsFlagSet n.asserted (λ f. asserts_flag p f n.at) → IsNode p n
with_row p n row ways here length fetchable word successors ways_are returns links flags asserted = record {
  length = length ∙ ap row_length here;
  fetchable = fetchable;
  word = word ∙ ap (λ o. if is_some o then Some (file_word p n.at) else None) here;
  successors = successors ∙ ap (λ o. graph.sort (graph.successors_by p n.at o)) here;
  returns = returns ∙ ap (λ (s : table.Successors). s.indirect && not s.call) ways_are ∙ ap (graph.returns_by n.at) here;
  links = links ∙ ap row_links here;
  flags = record {
    reads = flags_as n.flags.reads row.flags.reads _ (λ f. ap (reads_by f) here) (record { small = flags.small.0; exact = flags.reads });
    assigns = flags_as n.flags.assigns row.flags.assigns _ (λ f. ap (assigns_by f) here) (record { small = flags.small.1; exact = flags.assigns });
    surely = flags_as n.flags.surely row.flags.surely _ (λ f. ap (surely_by f) here) (record { small = flags.small.2; exact = flags.surely });
  };
  asserted = asserted;
}

-- a row at an address is that of the word there
pub row_of_word : (b : Bool) (o : Option table.Row) (row : table.Row) → Some row ≡ (if b then o else None) → o ≡ Some row
row_of_word true o row e = sym e
row_of_word false o row e = absurd (cc)
