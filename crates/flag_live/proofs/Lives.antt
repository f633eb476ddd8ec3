-- Nodes whose assignment of a flag is live, and a graph that keeps those.
use Rattle.std.proofs.Common.{◌≡◌, ℕ, suc, zero, ◌≤◌, ◌<◌, ◌+◌, List, [], ◌∷◌, ◌++◌, Bool, true, false, length, get_or, take, sym, ap, ◌∙◌, subst, arith, inl, inr}
use Rattle.std.specs.Prelude.{◌↔◌, All, Contains}
use Rattle.std.specs.List.{AllZip}
use Rattle.std.specs.List.Sorted.{IsPermutation}
use Rattle.std.proofs.lemmas.Bool.{cases_lt}
use Rattle.std.proofs.lemmas.List.{get_or_append_left, get_or_push, length_push, get_or_default, length-take-le, take_all}
use Rattle.std.proofs.lemmas.List.Elements.{length_all_zip, AllZip-get_or}
use Rattle.std.proofs.lemmas.List.Sorted.{Contains-permutation, IsPermutation-sym}
use Rattle.graph_nodes.specs.Graphs.{has_flag, IsSameNode}
use Rattle.graph_nodes.specs.declared.nodes.Successor.{Successor}
use Rattle.graph_nodes.specs.declared.nodes.Letter.TheVariants.{Return}
use Rattle.graph_nodes.specs.declared.nodes.Node.{Node}
use Rattle.graph_nodes.specs.declared.nodes.Graph.{Graph}
use Rattle.flag_live.specs.GraphReads.{IsLiveIn, IsKeptLiveIn}
use Rattle.flag_live.specs.Reachable.{Reaches, IsMarked}
use Rattle.flag_live.specs.Vertices.{IsNodeAt, IsEdge, IsStart}
use Rattle.graph_nodes.specs.Places.{AreRising}
use Rattle.flag_live.specs.Meanings.{AreReads, LeadsOn, IsOn, on_successor, on_exit, IsLiveNode, AreLiveBelow, AreLive}
use Rattle.flag_live.specs.Keeps.{IsSetOf}
use Rattle.flag_live.specs.Lives.{AreAllLive}
use Rattle.flag_live.specs.declared.trimmed.Lives.{Lives}
use Rattle.flag_live.proofs.Located.{node_is}
use Rattle.flag_live.proofs.Readings.{reads_are, live_is}

-- the marks of what is reached over sorted edges
pub readers_are : (g : Graph) (f : ℕ) (nodes : List Node) (edges moved edges' : List (ℕ ×
    ℕ)) (starts starts' : List ℕ) (count : ℕ) (marked : List Bool)
    → nodes ≡ g.nodes.items → edges' ≡ moved → starts' ≡ starts → count ≡ length g.nodes.items
    → ((e : ℕ × ℕ) → Contains edges e → IsEdge nodes f (length nodes) e) → (AreRising nodes → (e : ℕ × ℕ) → IsEdge nodes f (length nodes) e → Contains edges e)
    → IsPermutation edges moved → ((v : ℕ) → Contains starts v ↔ IsStart g f v) → ((v : ℕ) → IsMarked marked v ↔ Reaches (count + 1) edges' starts' v)
    → AreRising g.nodes.items → AreReads g f marked
readers_are g f nodes edges moved edges' starts starts' count marked en ee es ec found all is_moved begun reaches rising =
    reads_are g f moved starts marked rising
    (λ e has. subst (λ (xs : List Node). IsEdge xs f (length xs) e) en
    (found e (Contains-permutation moved edges e (IsPermutation-sym edges moved is_moved) has)))
    (λ e edge. Contains-permutation edges moved e is_moved
    (all (subst (λ (xs : List Node). AreRising xs) (sym en) rising) e (subst (λ (xs : List Node). IsEdge xs f (length xs) e) (sym en) edge)))
    begun
    (λ v. subst (λ (n : ℕ). IsMarked marked v ↔ Reaches (n + 1) moved starts v) ec
    (subst (λ (xs : List ℕ). IsMarked marked v ↔ Reaches (count + 1) moved xs v) es (subst (λ (xs : List (ℕ × ℕ)). IsMarked marked v ↔
    Reaches (count + 1) xs starts' v) ee (reaches v))))

-- where no successor leads on, the exit does
pub on_by_exit : (nodes : List Node) (marked : List Bool) (n : Node) (items : List Successor) (i : ℕ) → items ≡ n.successors.items → length items ≤ i
    → ((j : ℕ) (d : Successor) → j < i → ¬ LeadsOn nodes marked (get_or items j d)) → IsOn nodes marked n → (n.returns ≡ true) × IsMarked marked (length nodes)
on_by_exit nodes marked n items i e all none (on_exit returns marks) = (returns, marks)
on_by_exit nodes marked n items i e all none (on_successor among) =
    let d : Successor = record { letter = Return; to = 0 } in
    let low = among.below in
    let sizes = ap (λ (xs : List Successor). length xs) e in
    absurd (none among.index d (omega arith) (subst (λ (xs : List Successor). LeadsOn nodes marked (get_or xs among.index d)) (sym e) (among.leads d)))

-- one node more
pub live_more : (nodes : List Node) (marked : List Bool) (f k : ℕ) (live new : List Bool) (b : Bool) (m : Node) → IsNodeAt nodes k m → new ≡ live ++ b ∷ []
    → AreLiveBelow nodes marked f k live → (b ≡ true → IsLiveNode nodes marked f m) → (AreRising nodes → IsLiveNode nodes marked f m → b ≡ true)
    → AreLiveBelow nodes marked f (k + 1) new
live_more nodes marked f k live new b m here e before found only =
    let count = before.count in
    let last : (i : ℕ) → i ≡ k → get_or new i false ≡ b = λ i same. ap
    (λ (xs : List Bool). get_or xs i false) e ∙ get_or_push live b false i (count ∙ sym same) in
    let rest : (i : ℕ) → i < k → get_or new i false ≡ get_or live i false = λ i l. ap
    (λ (xs : List Bool). get_or xs i false) e ∙ get_or_append_left live (b ∷ []) false i (omega arith) in
    record {
      count = ap (λ (xs : List Bool). length xs) e ∙ length_push live b ∙ ap (λ (n : ℕ). n + 1) count;
      found = λ i n w at marks. elim (cases_lt i k) as (λ _. IsLiveNode nodes marked f n) [
        | inl l ↦ before.found i n l at (sym (rest i l) ∙ marks)
        | inr r ↦ (let same : i ≡ k = omega arith in
            subst (λ (x : Node). IsLiveNode nodes marked f x) (node_is nodes k m n here (subst (λ (j : ℕ). IsNodeAt nodes j n) same at))
            (found (sym (last i same) ∙ marks)))
      ];
      only = λ rising i n w at lives. elim (cases_lt i k) as (λ _. get_or new i false ≡ true) [
        | inl l ↦ rest i l ∙ before.only rising i n l at lives
        | inr r ↦ (let same : i ≡ k = omega arith in
            last i same ∙ only rising (subst (λ (x : Node). IsLiveNode nodes marked f x) (node_is nodes k n m (subst
            (λ (j : ℕ). IsNodeAt nodes j n) same at) here) lives))
      ];
    }

pub lives_are : (g : Graph) (f k : ℕ) (marked live : List Bool) → k ≡ length g.nodes.items → AreLiveBelow g.nodes.items marked f k live
    → AreRising g.nodes.items → AreReads g f marked → AreLive g f live
lives_are g f k marked live full below rising reads = record {
  each = λ i n at.
      let low = at.within in
      live_is g f i n marked (get_or live i false) rising reads at (below.found i n (omega arith) at, below.only rising i n (omega arith) at);
}

-- the keeps of one node more
pub kept_more : (nodes new : List Node) (y : Node) (i : ℕ) (n z c v : List Bool) → length nodes ≡ i → new ≡ nodes ++ y ∷ []
    → IsSetOf y.keeps (get_or n i false) (get_or z i false) (get_or c i false) (get_or v i false)
    → ((k : ℕ) (d : Node) → k < length nodes → IsSetOf (get_or nodes k d).keeps (get_or n k false) (get_or z k false) (get_or c k false) (get_or v k false))
    → (k : ℕ) (d : Node) → k < length new → IsSetOf (get_or new k d).keeps (get_or n k false) (get_or z k false) (get_or c k false) (get_or v k false)
kept_more nodes new y i n z c v count e here before k d w =
    let sizes = ap (λ (xs : List Node). length xs) e ∙ length_push nodes y in
    elim (cases_lt k i) as (λ _. IsSetOf (get_or new k d).keeps (get_or n k false) (get_or z k false) (get_or c k false) (get_or v k false)) [
      | inl l ↦
          let inside : k < length nodes = omega arith in
          let is : get_or nodes k d ≡ get_or new k d = sym (ap (λ (xs : List Node). get_or xs k d) e ∙ get_or_append_left nodes (y ∷ []) d k inside) in
          subst (λ (x : Node). IsSetOf x.keeps (get_or n k false) (get_or z k false) (get_or c k false) (get_or v k false)) is (before k d inside)
      | inr r ↦
          let same : i ≡ k = omega arith in
          let is : y ≡ get_or new k d = sym (ap (λ (xs : List Node). get_or xs k d) e ∙ get_or_push nodes y d k (count ∙ same)) in
          subst (λ (x : Node). IsSetOf x.keeps (get_or n k false) (get_or z k false) (get_or c k false) (get_or v k false)) is
          (subst (λ (j : ℕ). IsSetOf y.keeps (get_or n j false) (get_or z j false) (get_or c j false) (get_or v j false)) same here)
    ]

pub same_count : (old new : List Node) (i : ℕ) → i ≤ length old → AllZip IsSameNode (take i old) new → length new ≡ i
same_count old new i le same = sym (length_all_zip IsSameNode (take i old) new same) ∙ length-take-le i old le

pub same_all : (old new : List Node) (i : ℕ) → length old ≤ i → AllZip IsSameNode (take i old) new → AllZip IsSameNode old new
same_all old new i all same = subst (λ (xs : List Node). AllZip IsSameNode xs new) (take_all i old all) same

-- the bit of a flag is whether it is live
flag_live : (g : Graph) (set : ℕ) (a : ℕ) (n z c v : Bool) → IsSetOf set n z c v
    → (n ≡ true) ↔ IsLiveIn g 3 a → (z ≡ true) ↔ IsLiveIn g 2 a → (c ≡ true) ↔ IsLiveIn g 1 a → (v ≡ true) ↔ IsLiveIn g 0 a
    → (f : ℕ) → f < 4 → (has_flag set f ≡ true) ↔ IsLiveIn g f a
flag_live g set a n z c v is three two one none zero few = subst (λ (b : Bool). (b ≡ true) ↔ IsLiveIn g 0 a) (sym is.overflow) none
flag_live g set a n z c v is three two one none (suc zero) few = subst (λ (b : Bool). (b ≡ true) ↔ IsLiveIn g 1 a) (sym is.carry) one
flag_live g set a n z c v is three two one none (suc (suc zero)) few = subst (λ (b : Bool). (b ≡ true) ↔ IsLiveIn g 2 a) (sym is.zeroed) two
flag_live g set a n z c v is three two one none (suc (suc (suc zero))) few = subst (λ (b : Bool). (b ≡ true) ↔ IsLiveIn g 3 a) (sym is.negative) three
flag_live g set a n z c v is three two one none (suc (suc (suc (suc f)))) few = absurd (omega arith)

-- the assignments that stay are those that are live
pub stay_live : (g : Graph) (new : List Node) (live : Lives) → AllZip (λ (o n : Node). n.at ≡ o.at) g.nodes.items new
    → ((k : ℕ) (d : Node) → k < length new → IsSetOf (get_or new k d).keeps (get_or live.negative.items k false) (get_or live.zero.items k false)
    (get_or live.carry.items k false) (get_or live.overflow.items k false))
    → AreAllLive g live → All (λ m. IsKeptLiveIn g m) new
stay_live g new live same kept all k d w =
    let sizes = length_all_zip (λ (o n : Node). n.at ≡ o.at) g.nodes.items new same in
    let inside : k < length g.nodes.items = omega arith in
    let old = get_or g.nodes.items k d in
    let at : IsNodeAt g.nodes.items k old = record { within = inside; is = get_or_default g.nodes.items k old d inside } in
    let one_same = AllZip-get_or (λ (o n : Node). n.at ≡ o.at) g.nodes.items new k d d same inside in
    let set = kept k d w in
    record {
      small = set.small;
      exact = subst (λ (a : ℕ). (f : ℕ) → f < 4 → (has_flag (get_or new k d).keeps f ≡ true) ↔ IsLiveIn g f a) (sym one_same)
          (flag_live g (get_or new k d).keeps old.at _ _ _ _ set (all.negative.each k old at) (all.zero.each k old at) (all.carry.each k old at)
          (all.overflow.each k old at));
    }
