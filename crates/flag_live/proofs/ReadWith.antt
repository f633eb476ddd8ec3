-- What a graph with what contracts read reads is what the frames of a program read.
use Rattle.std.proofs.Common.{◌≡◌, ℕ, ◌<◌, refl, ap, sym, ◌∙◌, subst, Bool, true, false, inl, inr, List, [], get_or}
use Rattle.std.specs.Prelude.{◌↔◌, ◌||◌, All, Contains}
use Rattle.std.proofs.lemmas.List.{get_or_default}
use Rattle.bilv_spec.specs.Run.{Program}
use Rattle.bilv_spec.specs.Graph as graph
use Rattle.bilv_spec.specs.Graph.{IsAddress, LeadsTo, successors_at, may_return}
use Rattle.bilv_spec.specs.LiveFlags as live
use Rattle.bilv_spec.specs.LiveFlags.{reads_by, assigns_by, surely_by, asserts_flag, ensures_flag}
use Rattle.bilv_spec.specs.Points.{file_row}
use Rattle.frame_spec.specs.Frames.{Contract, contract_at}
use Rattle.frame_spec.specs.FrameUnrolling as frames
use Rattle.frame_spec.specs.FrameUnrolling.{IsRead, IsReadAfter, contract_reads, exit_reads}
use Rattle.machine_law.specs.declared.facts.FlagUse.{FlagUse}
use Rattle.graph_nodes.specs.Graphs.{IsFlagSet, IsFlagUseAt, IsGraph, IsNode, LiveStay, addresses_of, successor_of, successors_of}
use Rattle.graph_nodes.specs.declared.nodes.Node.{Node}
use Rattle.graph_nodes.specs.declared.nodes.Graph.{Graph}
use Rattle.flow_graph.proofs.Members.{or_cases, or_left, or_right}
use Rattle.flag_live.specs.Contracted.{IsAsked, IsAskedBy, IsKeptWith, IsLiveWith, LiveStayWith}
use Rattle.flag_live.specs.GraphReads.{StandsAt, LeadsToIn, along, back, IsReadIn, by_assert, by_row, later, IsReadAfterIn, on_path, at_exit, IsLiveIn, LiveStayIn}
use Rattle.flag_live.proofs.Graphs.{stands_address, address_stands, goes_along, along_goes, call_has, has_call}
use Rattle.flag_live.proofs.Zipped.{said, same_ats}

-- a node says what the program has at its address, as far as flags are read; among the flags that are read there are those that a contract step reads
record IsReadNode (p : Program) (contracts : List Contract) (n : Node) : Type 0 where
  pub successors : successors_of n ≡ successors_at p n.at
  pub returns : n.returns ≡ may_return p n.at
  pub flags : IsFlagUseAt p n.at n.flags
  pub asserted : IsFlagSet n.asserted (λ f. asserts_flag p f n.at || contract_reads f (contract_at contracts n.at))

-- so does a graph
record IsReadGraph (p : Program) (contracts : List Contract) (g : Graph) : Type 0 where
  pub all : (a : ℕ) → Contains (addresses_of g) a ↔ IsAddress p a
  pub nodes : All (λ n. IsReadNode p contracts n) g.nodes.items
  pub ensured : IsFlagSet g.ensured (λ f. ensures_flag p f || exit_reads f contracts)

module _ (p : Program) (contracts : List Contract) where
  asked_says : (old new : Node) → IsAsked contracts old new → IsNode p old → IsReadNode p contracts new
  asked_says old new asked is =
      let same = asked.same in
      record {
        successors = same.successors ∙ is.successors ∙ ap (successors_at p) (sym same.at);
        returns = same.returns ∙ is.returns ∙ ap (may_return p) (sym same.at);
        flags = subst (λ a. IsFlagUseAt p a new.flags) (sym same.at) (subst (λ (u : FlagUse). IsFlagUseAt p old.at u) (sym same.flags) is.flags);
        asserted =
            subst (λ a. IsFlagSet new.asserted (λ f. asserts_flag p f a || contract_reads f (contract_at contracts a))) (sym same.at)
            (asked.asserted (λ f. asserts_flag p f old.at) is.asserted);
      }

  asked_reads : (old new : Graph) → IsAskedBy contracts old new → IsGraph p old → IsReadGraph p contracts new
  asked_reads old new asked is =
      let at = same_ats (IsAsked contracts) (λ o n s. s.same.at) old.nodes.items new.nodes.items asked.nodes in
      record {
        all = λ a. subst (λ (l : List ℕ). Contains l a ↔ IsAddress p a) (sym at) (is.all a);
        nodes =
            said (IsAsked contracts) (λ n. IsNode p n) (λ n. IsReadNode p contracts n) asked_says old.nodes.items new.nodes.items asked.nodes is.nodes;
        ensured = asked.ensured (λ f. ensures_flag p f) is.ensured;
      }

module _ (p : Program) (contracts : List Contract) (g : Graph) (is : IsReadGraph p contracts g) where
  -- the node that stands at an address says what the program has there
  node_of : (n : Node) → Contains g.nodes.items n → IsReadNode p contracts n
  node_of n among = subst (λ (m : Node). IsReadNode p contracts m) among.2 (is.nodes among.0 n among.1)

  path_out : (a b : ℕ) → LeadsToIn g a b → LeadsTo p a b
  path_out a b (along n s stands has goes e) =
      let there = goes_along n (successors_at p n.at) s (node_of n stands.among).successors has goes in
      graph.along (successor_of s) (subst (λ (x : ℕ). Contains (successors_at p x) (successor_of s)) stands.at there.0) there.1 e
  path_out a b (back n stands returns call) =
      let caller : StandsAt g call.call.at call.call = record { among = call.among; at = refl } in
      graph.back (ap (may_return p) (sym stands.at) ∙ sym (node_of n stands.among).returns ∙ returns)
      ((is.all call.call.at).0 (stands_address g call.call.at call.call caller))
      (call_has g b call (successors_at p call.call.at) (node_of call.call call.among).successors)

  module _ (f : ℕ) (few : f < 4) where
    asserted_out : (a : ℕ) → (asserts_flag p f a || contract_reads f (contract_at contracts a)) ≡ true → IsRead p contracts f a
    asserted_out a h = elim (or_cases (asserts_flag p f a) (contract_reads f (contract_at contracts a)) h) as (λ _. IsRead p contracts f a) [
      | inl asserts ↦ frames.by_assert asserts
      | inr reads ↦ frames.by_contract reads
    ]

    mutual
      -- what the graph reads the frames read
      read_out : (a : ℕ) → IsReadIn g f a → IsRead p contracts f a
      read_out a (by_assert n stands asserts) =
          asserted_out a (ap (λ (x : ℕ). asserts_flag p f x || contract_reads f (contract_at contracts x)) (sym stands.at)
          ∙ sym ((node_of n stands.among).asserted.exact f few) ∙ asserts)
      read_out a (by_row n stands reads) =
          frames.by_row (ap (λ (x : ℕ). reads_by f (file_row p x)) (sym stands.at) ∙ sym ((node_of n stands.among).flags.reads.exact f few) ∙ reads)
      read_out a (later n stands free after) =
          frames.later (ap (λ (x : ℕ). surely_by f (file_row p x)) (sym stands.at) ∙ sym ((node_of n stands.among).flags.surely.exact f few) ∙ free)
          (after_out a after)

      after_out : (a : ℕ) → IsReadAfterIn g f a → IsReadAfter p contracts f a
      after_out a (on_path {b = b} leads read) = frames.on_path (path_out a b leads) (read_out b read)
      after_out a (at_exit n stands returns has) =
          frames.at_exit (ap (may_return p) (sym stands.at) ∙ sym (node_of n stands.among).returns ∙ returns) (sym (is.ensured.exact f few) ∙ has)

  -- the node of an address
  node_at : (a : ℕ) → IsAddress p a → (n : Node) × StandsAt g a n × IsReadNode p contracts n
  node_at a address = (let found = address_stands g a ((is.all a).1 address) in (found.0, found.1, node_of found.0 found.1.among))

  path_in : (a b : ℕ) → IsAddress p a → LeadsTo p a b → LeadsToIn g a b × IsAddress p b
  path_in a b address (graph.along x has goes e) =
      let node = node_at a address in
      let there = along_goes node.0 (successors_at p a) x (node.2.successors ∙ ap (successors_at p) node.1.at) has goes in
      (along node.0 there.0 node.1 there.1 there.2 (there.3 ∙ e), subst (IsAddress p) e (graph.listed address has))
  path_in a b address (graph.back {c = c} may from has) =
      let node = node_at a address in
      let call = node_at c from in (
        back node.0 node.1 (node.2.returns ∙ ap (may_return p) node.1.at ∙ may)
            (has_call g c b call.0 (successors_at p c) call.1 (call.2.successors ∙ ap (successors_at p) call.1.at) has),
        graph.listed from has,
      )

  module _ (f : ℕ) (few : f < 4) where
    asserted_in : (a : ℕ) → IsAddress p a → (asserts_flag p f a || contract_reads f (contract_at contracts a)) ≡ true → IsReadIn g f a
    asserted_in a address h =
        let node = node_at a address in
        by_assert node.0 node.1 (node.2.asserted.exact f few
        ∙ ap (λ (x : ℕ). asserts_flag p f x || contract_reads f (contract_at contracts x)) node.1.at ∙ h)

    mutual
      -- and what the frames read from the addresses of the program on the graph reads
      read_in : (a : ℕ) → IsAddress p a → IsRead p contracts f a → IsReadIn g f a
      read_in a address (frames.by_assert asserts) =
          asserted_in a address (or_left (asserts_flag p f a) (contract_reads f (contract_at contracts a)) asserts)
      read_in a address (frames.by_contract reads) =
          asserted_in a address (or_right (asserts_flag p f a) (contract_reads f (contract_at contracts a)) reads)
      read_in a address (frames.by_row reads) =
          let node = node_at a address in
          by_row node.0 node.1 (node.2.flags.reads.exact f few ∙ ap (λ (x : ℕ). reads_by f (file_row p x)) node.1.at ∙ reads)
      read_in a address (frames.later free after) =
          let node = node_at a address in
          later node.0 node.1 (node.2.flags.surely.exact f few ∙ ap (λ (x : ℕ). surely_by f (file_row p x)) node.1.at ∙ free)
          (after_in a address after)

      after_in : (a : ℕ) → IsAddress p a → IsReadAfter p contracts f a → IsReadAfterIn g f a
      after_in a address (frames.on_path {b = b} leads read) =
          let path = path_in a b address leads in
          on_path path.0 (read_in b path.1 read)
      after_in a address (frames.at_exit may has) =
          let node = node_at a address in
          at_exit node.0 node.1 (node.2.returns ∙ ap (may_return p) node.1.at ∙ may) (is.ensured.exact f few ∙ has)

    -- at the addresses of the program the same assignments are live
    live_in : (a : ℕ) → Contains (addresses_of g) a → IsLiveIn g f a ↔ IsLiveWith p contracts f a
    live_in a has = (
      λ lives. record {
        assigns =
            ap (λ (x : ℕ). assigns_by f (file_row p x)) (sym lives.stands.at)
            ∙ sym ((node_of lives.node lives.stands.among).flags.assigns.exact f few) ∙ lives.assigns;
        read = after_out f few a lives.read;
      },
      λ lives. (let address = (is.all a).0 has in let node = node_at a address in record {
        node = node.0;
        stands = node.1;
        assigns = node.2.flags.assigns.exact f few ∙ ap (λ (x : ℕ). assigns_by f (file_row p x)) node.1.at ∙ lives.assigns;
        read = after_in a address lives.read;
      }),
    )

-- where the assignments stay that are live in the graph
pub stay_with : (p : Program) (contracts : List Contract) (old asked new : Graph) → IsAskedBy contracts old asked → IsGraph p old →
    addresses_of new ≡ addresses_of old → LiveStayIn asked new → LiveStayWith p contracts new
stay_with p contracts old asked new by is same live k d fits =
    let reads = asked_reads p contracts old asked by is in
    let ats = same_ats (IsAsked contracts) (λ o n s. s.same.at) old.nodes.items asked.nodes.items by.nodes in
    let n = get_or new.nodes.items k d in
    let kept = live k d fits in
    let stands : StandsAt new n.at n = record { among = (k, fits, get_or_default new.nodes.items k n d fits); at = refl } in
    let has = subst (λ (l : List ℕ). Contains l n.at) (same ∙ sym ats) (stands_address new n.at n stands) in
    record {
      small = kept.small;
      exact = λ f few. (
        λ h. (live_in p contracts asked reads f few n.at has).0 ((kept.exact f few).0 h),
        λ h. (kept.exact f few).1 ((live_in p contracts asked reads f few n.at has).1 h),
      );
    }

-- ---- without contracts

or_false : (b : Bool) → (b || false) ≡ true → b ≡ true
or_false true h = h
or_false false h = h

false_or : (b : Bool) → b ≡ true → (b || false) ≡ true
false_or true h = h
false_or false h = h

module _ (p : Program) (f : ℕ) where
  mutual
    plain_read : (a : ℕ) → IsRead p [] f a → live.IsRead p f a
    plain_read a (frames.by_assert h) = live.by_assert h
    plain_read a (frames.by_row h) = live.by_row h
    plain_read a (frames.by_contract h) = absurd (let c : false ≡ true = h in cc)
    plain_read a (frames.later h r) = live.later h (plain_after a r)

    pub plain_after : (a : ℕ) → IsReadAfter p [] f a → live.IsReadAfter p f a
    plain_after a (frames.on_path {b = b} l r) = live.on_path l (plain_read b r)
    plain_after a (frames.at_exit m e) = live.at_exit m (or_false (ensures_flag p f) e)

  mutual
    read_plain : (a : ℕ) → live.IsRead p f a → IsRead p [] f a
    read_plain a (live.by_assert h) = frames.by_assert h
    read_plain a (live.by_row h) = frames.by_row h
    read_plain a (live.later h r) = frames.later h (after_plain a r)

    after_plain : (a : ℕ) → live.IsReadAfter p f a → IsReadAfter p [] f a
    after_plain a (live.on_path {b = b} l r) = frames.on_path l (read_plain b r)
    after_plain a (live.at_exit m e) = frames.at_exit m (false_or (ensures_flag p f) e)

-- the assignments stay that are live in the program
pub stay_plain : (p : Program) (contracts : List Contract) (g : Graph) → contracts ≡ [] → LiveStayWith p contracts g → LiveStay p g
stay_plain p contracts g none live k d fits =
    let n = get_or g.nodes.items k d in
    let kept = subst (λ (l : List Contract). IsKeptWith p l n) none (live k d fits) in
    record {
      small = kept.small;
      exact = λ f few. (
        λ h. (let lives = (kept.exact f few).0 h in record { assigns = lives.assigns; read = plain_after p f n.at lives.read }),
        λ lives. (kept.exact f few).1 (record { assigns = lives.assigns; read = after_plain p f n.at lives.read }),
      );
    }
