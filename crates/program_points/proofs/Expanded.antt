-- The points at the ends of a point are added.
use Rattle.std.proofs.Common.{◌≡◌, inl, inr, ℕ, Bool, ◌+◌, ◌≤◌, ap, sym, ◌∙◌, subst, arith, List, [], ◌∷◌, ◌++◌, length, Option, Some, None, Result, Ok, Err}
use Rattle.std.specs.declared.alloc.AllocError.{AllocError}
use Rattle.std.specs.Prelude.{◌⊎◌, Contains}
use Rattle.std.proofs.Math.ListN.{length-append}
use Rattle.std.specs.BTreeMap.{BTreeMap}
use Rattle.std.specs.BTreeSet.{BTreeSet}
use Rattle.word_spec.specs.Words.{add}
use Rattle.graph_nodes.specs.declared.nodes.Node.{Node}
use Rattle.graph_nodes.specs.declared.nodes.Graph.{Graph}
use Rattle.program_points.specs.declared.values.Frame.{Frame}
use Rattle.program_points.specs.declared.values.FramePoint.{FramePoint}
use Rattle.program_points.specs.declared.values.Root.{Root}
use Rattle.program_points.specs.declared.values.End.{End}
use Rattle.program_points.specs.Tables.{frame, frame_at, end, ends_of, entry_point, head_point, listed, return_end, is_root_within, Key, IsTable, IsListed, IsWithin, IsCalled, AreAdded}
use Rattle.program_points.specs.Walks.{IsStep, nowhere, stops, returns, somewhere}
use Rattle.program_points.proofs.Lists.{longer}
use Rattle.program_points.proofs.Ended.{end_low}
use Rattle.program_points.proofs.Returned.{return_low}

root_wider : (m n : ℕ) (r : Option Root) → m ≤ n → is_root_within m r → is_root_within n r
root_wider m n None a is = is
root_wider m n (Some r) a is = omega arith

pub within_wider : (k more m n : ℕ) (q : FramePoint) → k ≤ more → m ≤ n → IsWithin k m q → IsWithin more n q
within_wider k more m n q a b is = (let s = is.stack in let t = is.turns in
    record { stack = omega arith; turns = omega arith; root = root_wider m n q.root b is.root })

-- the same points, with more stacks or backward transfers
pub wider : (k more m n : ℕ) (points : List FramePoint) (seen : BTreeSet Key) → k ≤ more → m ≤ n → IsListed k m points seen → IsListed more n points seen
wider k more m n points seen a b is =
    record { has = is.has; once = is.once; within = λ q h. within_wider k more m n q a b (is.within q h) }

module _ (target : End → FramePoint) (k max : ℕ) (point : FramePoint) (old found : List FramePoint) (seen more : BTreeSet Key) (given : List End) where
  -- the points at the ends are added, where the stacks of these have numbers
  abbrev Adds : Type 0
  Adds =
      (stacks : ℕ) → IsListed k stacks old seen → IsWithin k stacks point → ((e : End) → Contains given e → e.stack ≤ stacks) →
      IsListed k stacks found more × AreAdded target k max given old found

  pub expanded : (narrow : Bool) (node : Node) (called : ℕ) (old_frames frames lent : List Frame) (numbers : BTreeMap (ℕ × ℕ) ℕ) (ends : List End) →
      IsTable frames numbers → IsListed k (length old_frames) old seen → Contains old point → IsCalled node point.stack old_frames frames called →
      lent ≡ frames → ends ≡ ends_of narrow node (frame_at lent point.stack) point.stack called → given ≡ ends → Adds →
      IsListed k (length frames) found more × AreAdded target k max (ends_of narrow node (frame_at frames point.stack) point.stack called) old found
  expanded narrow node called old_frames frames lent numbers ends table listing here pushed lend is give adds =
      let l = longer old_frames pushed.rest frames pushed.begins in
      let own = within_wider k k (length old_frames) (length frames) point (omega arith) l (listing.within point here) in
      let e : given ≡ ends_of narrow node (frame_at frames point.stack) point.stack called =
      give ∙ is ∙ ap (λ f. ends_of narrow node (frame_at f point.stack) point.stack called) lend in
      let r = adds (length frames) (wider k k (length old_frames) (length frames) old seen (omega arith) l listing) own
      (λ z h. end_low frames table.below narrow node.returns node.successors.items node.at (add 32 node.at node.length) point.stack called own.stack pushed.pushes z
      (subst (λ (y : List End). Contains y z) e h)) in
      (r.0, subst (λ (y : List End). AreAdded target k max y old found) e r.1)

  pub turned_back : (narrow : Bool) (frames lent : List Frame) (numbers : BTreeMap (ℕ × ℕ) ℕ) (ends : List End) → IsTable frames numbers →
      IsListed k (length frames) old seen → Contains old point → lent ≡ frames → ends ≡ listed (return_end narrow (frame_at lent point.stack)) → given ≡ ends →
      Adds → IsListed k (length frames) found more × AreAdded target k max (listed (return_end narrow (frame_at frames point.stack))) old found
  turned_back narrow frames lent numbers ends table listing here lend is give adds =
      let own = listing.within point here in
      let e : given ≡ listed (return_end narrow (frame_at frames point.stack)) = give ∙ is ∙ ap (λ f. listed (return_end narrow (frame_at f point.stack))) lend in
      let r = adds (length frames) listing own
      (λ z h. return_low frames table.below narrow point.stack own.stack z (subst (λ (y : List End). Contains y z) e h)) in
      (r.0, subst (λ (y : List End). AreAdded target k max y old found) e r.1)

-- no point is lost
called_few : (old rest frames : List Frame) (top below : ℕ) → frames ≡ old ++ rest → (rest ≡ []) ⊎ (rest ≡ frame top below ∷ []) →
    length frames ≤ length old + 1
called_few old rest frames top below begins only =
    let a = ap length begins in
    let b = length-append old rest in
    elim only as (λ _. length frames ≤ length old + 1) [
      | inl e ↦ (let c = ap length e in omega arith)
      | inr e ↦ (let c = ap length e in omega arith)
    ]

pub step_few : (g : Graph) (heads stepped : List ℕ) (k max : ℕ) (point : FramePoint) (old_frames frames : List Frame) (old found : List FramePoint) →
    IsStep g heads stepped k max point old_frames frames old found → length frames ≤ length old_frames + 1
step_few g heads stepped k max point old_frames frames old found (nowhere none row f e) = (let l = ap length f in omega arith)
step_few g heads stepped k max point old_frames frames old found (stops cut row f e) = (let l = ap length f in omega arith)
step_few g heads stepped k max point old_frames frames old found (returns step f added) = (let l = ap length f in omega arith)
step_few g heads stepped k max point old_frames frames old found (somewhere node called uncut row here there more none added) =
    called_few old_frames more.rest frames (add 32 node.at node.length) point.stack more.begins more.only

pub step_longer : (g : Graph) (heads stepped : List ℕ) (k max : ℕ) (point : FramePoint) (old_frames frames : List Frame) (old found : List FramePoint) →
    IsStep g heads stepped k max point old_frames frames old found → length old ≤ length found
step_longer g heads stepped k max point old_frames frames old found (nowhere none row f e) = (let l = ap length e in omega arith)
step_longer g heads stepped k max point old_frames frames old found (stops cut row f e) = (let l = ap length e in omega arith)
step_longer g heads stepped k max point old_frames frames old found (returns step f added) = longer old added.rest found added.begins
step_longer g heads stepped k max point old_frames frames old found (somewhere node called uncut row here there more none added) =
    longer old added.rest found added.begins

-- the first points have the empty stack
pub entry_within : (entry : ℕ) → IsWithin 0 0 (entry_point entry)
entry_within entry = record { stack = omega arith; turns = omega arith; root = tt }

pub head_within : (entry : ℕ) (q : FramePoint) → q ≡ head_point (end 0 entry) → IsWithin 0 0 q
head_within entry q e =
    subst (λ (z : FramePoint). IsWithin 0 0 z) (sym e) (record { stack = omega arith; turns = omega arith; root = omega arith })

abbrev number_of : Result ℕ AllocError → ℕ
number_of (Ok n) = n
number_of (Err e) = 0

-- the number that a call returned
pub ok_zero : (r : Result ℕ AllocError) (n : ℕ) → r ≡ Ok n → r ≡ Ok 0 → n ≡ 0
ok_zero r n a b = sym (ap number_of a) ∙ ap number_of b
