-- What the graph of notes with contracts reads is what they read.
use Rattle.std.proofs.Common.{◌≡◌, ℕ, ◌<◌, refl, ap, sym, ◌∙◌, subst, true, inl, inr, List, get_or, map}
use Rattle.std.specs.Prelude.{◌↔◌, ◌||◌, All, Contains}
use Rattle.std.specs.List.{flat_map}
use Rattle.std.proofs.lemmas.List.{get_or_default}
use Rattle.answer_spec.specs.FrameGraphs as frames
use Rattle.answer_spec.specs.FrameGraphs.{IsAddress, LeadsTo, IsRead, IsReadAfter, IsLive, IsFrameGraphText}
use Rattle.bilv_spec.specs.Graph.{successors_at, may_return}
use Rattle.bilv_spec.specs.LiveFlags.{reads_by, assigns_by, surely_by, asserts_flag, ensures_flag}
use Rattle.bilv_spec.specs.Points.{file_row}
use Rattle.frame_spec.specs.Frames.{contract_at}
use Rattle.frame_spec.specs.FrameUnrolling.{contract_reads, exit_reads}
use Rattle.frame_spec.specs.FrameVerdict.{Whole}
use Rattle.machine_law.specs.declared.facts.FlagUse.{FlagUse}
use Rattle.graph_nodes.specs.Graphs.{IsFlagSet, IsFlagUseAt, IsNode, IsSameGraph, successor_of, successors_of, addresses_of, has_flag}
use Rattle.graph_nodes.specs.Places.{AreRising}
use Rattle.graph_nodes.specs.declared.nodes.Node.{Node}
use Rattle.graph_nodes.specs.declared.nodes.Graph.{Graph}
use Rattle.flow_graph.specs.Walks.{IsGraphFrom}
use Rattle.flow_graph.proofs.Members.{or_cases, or_left, or_right}
use Rattle.flag_live.specs.Asked.{ensuring}
use Rattle.flag_live.specs.Contracted.{IsAsked, IsAskedBy, LiveStayBy}
use Rattle.flag_live.specs.GraphReads.{StandsAt, LeadsToIn, along, back, IsReadIn, by_assert, by_row, later, IsReadAfterIn, on_path, at_exit, IsLiveIn, LiveStayIn}
use Rattle.flag_live.proofs.Graphs.{stands_address, address_stands, goes_along, along_goes, call_has, has_call}
use Rattle.flag_live.proofs.Zipped.{said, same_ats}
use Rattle.graph_text.specs.NodeText.{node_line}
use Rattle.graph_text.proofs.Graphs.{IsLineAt, line_same, lines_same, text_by}
use Rattle.contract_graph.specs.Wholes.{IsWholeGraph, LiveStayWhole}
use Rattle.contract_graph.proofs.Shapes.{same_addresses, whole_graph}

-- a node says what the program has at its address, as far as flags are read; among the flags that are read there are those that a contract step reads
pub record IsReadNode (w : Whole) (n : Node) : Type 0 where
  pub successors : successors_of n ≡ successors_at w.program n.at
  pub returns : n.returns ≡ may_return w.program n.at
  pub flags : IsFlagUseAt w.program n.at n.flags
  pub asserted : IsFlagSet n.asserted (λ f. asserts_flag w.program f n.at || contract_reads f (contract_at w.contracts n.at))

-- so does a graph
pub record IsReadGraph (w : Whole) (g : Graph) : Type 0 where
  pub all : (a : ℕ) → Contains (addresses_of g) a ↔ IsAddress w a
  pub nodes : All (λ n. IsReadNode w n) g.nodes.items
  pub ensured : IsFlagSet g.ensured (λ f. ensures_flag w.program f || exit_reads f w.contracts)

asked_says : (w : Whole) (old new : Node) → IsAsked w.contracts old new → IsNode w.program old → IsReadNode w new
asked_says w old new asked is =
    let same = asked.same in
    let p = w.program in
    record {
      successors = same.successors ∙ is.successors ∙ ap (successors_at p) (sym same.at);
      returns = same.returns ∙ is.returns ∙ ap (may_return p) (sym same.at);
      flags = subst (λ a. IsFlagUseAt p a new.flags) (sym same.at) (subst (λ (u : FlagUse). IsFlagUseAt p old.at u) (sym same.flags) is.flags);
      asserted =
          subst (λ a. IsFlagSet new.asserted (λ f. asserts_flag p f a || contract_reads f (contract_at w.contracts a))) (sym same.at)
          (asked.asserted (λ f. asserts_flag p f old.at) is.asserted);
    }

asked_reads : (w : Whole) (old asked : Graph) (flags : ℕ) → IsAskedBy w.contracts (ensuring old flags) asked →
    IsFlagSet flags (λ f. ensures_flag w.program f) → All (λ n. IsNode w.program n) old.nodes.items →
    ((a : ℕ) → Contains (addresses_of old) a ↔ IsAddress w a) → IsReadGraph w asked
asked_reads w old asked flags by ensures is all =
    let at = same_ats (IsAsked w.contracts) (λ o n s. s.same.at) old.nodes.items asked.nodes.items by.nodes in
    record {
      all = λ a. subst (λ (l : List ℕ). Contains l a ↔ IsAddress w a) (sym at) (all a);
      nodes =
          said (IsAsked w.contracts) (λ n. IsNode w.program n) (λ n. IsReadNode w n) (asked_says w) old.nodes.items asked.nodes.items by.nodes is;
      ensured = by.ensured (λ f. ensures_flag w.program f) ensures;
    }

module _ (w : Whole) (g : Graph) (is : IsReadGraph w g) where
  -- the node that stands at an address says what the program has there
  node_of : (n : Node) → Contains g.nodes.items n → IsReadNode w n
  node_of n among = subst (λ (m : Node). IsReadNode w m) among.2 (is.nodes among.0 n among.1)

  path_out : (a b : ℕ) → LeadsToIn g a b → LeadsTo w a b
  path_out a b (along n s stands has goes e) =
      let there = goes_along n (successors_at w.program n.at) s (node_of n stands.among).successors has goes in
      frames.along (successor_of s) (subst (λ (x : ℕ). Contains (successors_at w.program x) (successor_of s)) stands.at there.0) there.1 e
  path_out a b (back n stands returns call) =
      let caller : StandsAt g call.call.at call.call = record { among = call.among; at = refl } in
      frames.back (ap (may_return w.program) (sym stands.at) ∙ sym (node_of n stands.among).returns ∙ returns)
      ((is.all call.call.at).0 (stands_address g call.call.at call.call caller))
      (call_has g b call (successors_at w.program call.call.at) (node_of call.call call.among).successors)

  module _ (f : ℕ) (few : f < 4) where
    asserted_out : (a : ℕ) → (asserts_flag w.program f a || contract_reads f (contract_at w.contracts a)) ≡ true → IsRead w f a
    asserted_out a h = elim (or_cases (asserts_flag w.program f a) (contract_reads f (contract_at w.contracts a)) h) as (λ _. IsRead w f a) [
      | inl asserts ↦ frames.by_assert asserts
      | inr reads ↦ frames.by_contract reads
    ]

    mutual
      -- what the graph reads they read
      read_out : (a : ℕ) → IsReadIn g f a → IsRead w f a
      read_out a (by_assert n stands asserts) =
          asserted_out a (ap (λ (x : ℕ). asserts_flag w.program f x || contract_reads f (contract_at w.contracts x)) (sym stands.at)
          ∙ sym ((node_of n stands.among).asserted.exact f few) ∙ asserts)
      read_out a (by_row n stands reads) =
          frames.by_row (ap (λ (x : ℕ). reads_by f (file_row w.program x)) (sym stands.at) ∙ sym ((node_of n stands.among).flags.reads.exact f few) ∙ reads)
      read_out a (later n stands free after) =
          frames.later (ap (λ (x : ℕ). surely_by f (file_row w.program x)) (sym stands.at) ∙ sym ((node_of n stands.among).flags.surely.exact f few) ∙ free)
          (after_out a after)

      after_out : (a : ℕ) → IsReadAfterIn g f a → IsReadAfter w f a
      after_out a (on_path {b = b} leads read) = frames.on_path (path_out a b leads) (read_out b read)
      after_out a (at_exit n stands returns has) =
          frames.at_exit (ap (may_return w.program) (sym stands.at) ∙ sym (node_of n stands.among).returns ∙ returns) (sym (is.ensured.exact f few) ∙ has)

  -- the node of an address
  node_at : (a : ℕ) → IsAddress w a → (n : Node) × StandsAt g a n × IsReadNode w n
  node_at a address = (let found = address_stands g a ((is.all a).1 address) in (found.0, found.1, node_of found.0 found.1.among))

  path_in : (a b : ℕ) → IsAddress w a → LeadsTo w a b → LeadsToIn g a b × IsAddress w b
  path_in a b address (frames.along x has goes e) =
      let node = node_at a address in
      let there = along_goes node.0 (successors_at w.program a) x (node.2.successors ∙ ap (successors_at w.program) node.1.at) has goes in
      (along node.0 there.0 node.1 there.1 there.2 (there.3 ∙ e), subst (IsAddress w) e (frames.listed address has))
  path_in a b address (frames.back {c = c} may from has) =
      let node = node_at a address in
      let call = node_at c from in (
        back node.0 node.1 (node.2.returns ∙ ap (may_return w.program) node.1.at ∙ may)
            (has_call g c b call.0 (successors_at w.program c) call.1 (call.2.successors ∙ ap (successors_at w.program) call.1.at) has),
        frames.listed from has,
      )

  module _ (f : ℕ) (few : f < 4) where
    asserted_in : (a : ℕ) → IsAddress w a → (asserts_flag w.program f a || contract_reads f (contract_at w.contracts a)) ≡ true → IsReadIn g f a
    asserted_in a address h =
        let node = node_at a address in
        by_assert node.0 node.1 (node.2.asserted.exact f few
        ∙ ap (λ (x : ℕ). asserts_flag w.program f x || contract_reads f (contract_at w.contracts x)) node.1.at ∙ h)

    mutual
      -- and what they read from their addresses on the graph reads
      read_in : (a : ℕ) → IsAddress w a → IsRead w f a → IsReadIn g f a
      read_in a address (frames.by_assert asserts) =
          asserted_in a address (or_left (asserts_flag w.program f a) (contract_reads f (contract_at w.contracts a)) asserts)
      read_in a address (frames.by_contract reads) =
          asserted_in a address (or_right (asserts_flag w.program f a) (contract_reads f (contract_at w.contracts a)) reads)
      read_in a address (frames.by_row reads) =
          let node = node_at a address in
          by_row node.0 node.1 (node.2.flags.reads.exact f few ∙ ap (λ (x : ℕ). reads_by f (file_row w.program x)) node.1.at ∙ reads)
      read_in a address (frames.later free after) =
          let node = node_at a address in
          later node.0 node.1 (node.2.flags.surely.exact f few ∙ ap (λ (x : ℕ). surely_by f (file_row w.program x)) node.1.at ∙ free)
          (after_in a address after)

      after_in : (a : ℕ) → IsAddress w a → IsReadAfter w f a → IsReadAfterIn g f a
      after_in a address (frames.on_path {b = b} leads read) =
          let path = path_in a b address leads in
          on_path path.0 (read_in b path.1 read)
      after_in a address (frames.at_exit may has) =
          let node = node_at a address in
          at_exit node.0 node.1 (node.2.returns ∙ ap (may_return w.program) node.1.at ∙ may) (is.ensured.exact f few ∙ has)

    -- at their addresses the same assignments are live
    live_in : (a : ℕ) → Contains (addresses_of g) a → IsLiveIn g f a ↔ IsLive w f a
    live_in a has = (
      λ lives. record {
        assigns =
            ap (λ (x : ℕ). assigns_by f (file_row w.program x)) (sym lives.stands.at)
            ∙ sym ((node_of lives.node lives.stands.among).flags.assigns.exact f few) ∙ lives.assigns;
        read = after_out f few a lives.read;
      },
      λ lives. (let address = (is.all a).0 has in let node = node_at a address in record {
        node = node.0;
        stands = node.1;
        assigns = node.2.flags.assigns.exact f few ∙ ap (λ (x : ℕ). assigns_by f (file_row w.program x)) node.1.at ∙ lives.assigns;
        read = after_in a address lives.read;
      }),
    )

  -- where the assignments stay that are live in the graph
  pub live_stay : (new : Graph) → addresses_of new ≡ addresses_of g → LiveStayIn g new → LiveStayWhole w new
  live_stay new same live k d fits =
      let n = get_or new.nodes.items k d in
      let kept = live k d fits in
      let stands : StandsAt new n.at n = record { among = (k, fits, get_or_default new.nodes.items k n d fits); at = refl } in
      let has = subst (λ (l : List ℕ). Contains l n.at) same (stands_address new n.at n stands) in
      record {
        small = kept.small;
        exact = λ f few. (
          λ h. (live_in f few n.at has).0 ((kept.exact f few).0 h),
          λ h. (kept.exact f few).1 ((live_in f few n.at has).1 h),
        );
      }

-- the graph in which they stay
pub whole_made : (w : Whole) (others : List ℕ) (old live : Graph) → others ≡ map (λ x. x.at) w.contracts → IsGraphFrom w.program others old
    → IsSameGraph (ensuring old live.ensured) live → IsFlagSet live.ensured (λ f. has_flag 0 f || has_flag old.ensured f)
    → (AreRising old.nodes.items → LiveStayBy w.contracts (ensuring old live.ensured) live) → IsWholeGraph w live × LiveStayWhole w live
whole_made w others old live e is same flags alive =
    let whole = whole_graph w others old live e is flags same in
    let stays = alive is.rising in
    let ats = same_addresses (ensuring old live.ensured) live same in
    let reads = asked_reads w old stays.asked live.ensured stays.is whole.ensured is.nodes
    (λ a. subst (λ (l : List ℕ). Contains l a ↔ IsAddress w a) ats (whole.all a)) in
    let asked_ats = same_ats (IsAsked w.contracts) (λ o n s. s.same.at) old.nodes.items stays.asked.nodes.items stays.is.nodes in
    (whole, live_stay w stays.asked reads live (ats ∙ sym asked_ats) stays.live)

-- the text of the graph
pub text_is : (w : Whole) (g : Graph) (text : List ℕ) → IsWholeGraph w g → LiveStayWhole w g → text ≡ flat_map node_line g.nodes.items → IsFrameGraphText w text
text_is w g text is live e =
    let lines : All (λ n. IsLineAt w.program n) g.nodes.items =
    λ k d fits. (let at = is.nodes k d fits in line_same w.program (get_or g.nodes.items k d) at.word at.fetchable at.successors at.returns) in
    let by = text_by w.program (IsAddress w) (IsLive w) g text is.all is.rising (λ k d fits. (live k d fits).exact)
    (e ∙ lines_same w.program g.nodes.items lines) in
    record { addresses = by.addresses; keeps = by.keeps; all = by.all; rising = by.rising; live = by.live; text_is = by.text_is }
