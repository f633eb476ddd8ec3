-- The roots of an unrolled frame as a value, and their anchors.
use Rattle.std.proofs.Common.{◌≡◌, refl, ap, sym, ◌∙◌, subst, arith, ℕ, ◌<◌, Bool, true, false, List, [], ◌∷◌, Option, Some, None, length}
use Rattle.std.specs.Prelude.{◌&&◌, Contains}
use Rattle.std.proofs.lemmas.List.{get_or_default, length-map}
use Rattle.program_points.specs.declared.values.Root as listed
use Rattle.program_points.specs.Listed.{anchor_of}
use Rattle.program_points.specs.Tables.{stacks_of}
use Rattle.machine_spec.specs.Machine.{Row}
use Rattle.bilv_spec.specs.Points.{file_row}
use Rattle.frame_spec.specs.Frames.{Contract, Frame, contract_at}
use Rattle.frame_spec.specs.FramePoints.{Anchor, AtEntry, AtHead, IsAnchor, first_of, has_heads, is_cut}
use Rattle.frame_spec.specs.FrameWalk.{Gift, Root, StepsOver, UnrolledProgram, no_root, point_at, root_at}
use Rattle.frame_spec.specs.FrameUnrolling.{DoesAddress, DoesBy, DoesContract, IsRootOf, IsUnrolling}
use Rattle.frame_spec.proofs.OfSegments.{heads}
use Rattle.frame_laws.proofs.FrameAnswers.{head_anchor}
use Rattle.frame_terms.specs.FrameStarts.{IsWrittenAnchor}
use Rattle.frame_terms.specs.PassiveFrames.{IsGiftAt, IsWalkable}
use Rattle.question_form.specs.declared.unrolled.Unrolled.{Unrolled}
use Rattle.question_form.specs.Forms.{AreRootsFormed}
use Rattle.question_form.specs.FrameViews.{anchor_at, frame_unrolled_of, root_of}
use Rattle.unroller.specs.RootPoints.{BeginAtOwn, IsEntryFirst}
use Rattle.frame_rounds.specs.FrameGrounds.{AreFitted, HasStepped}
use Rattle.frame_start.proofs.ChosenSteps.{root_anchor, root_inside}

-- the contract of a contract point, whose registers and flags the gift has
pub record IsOfContract (f : Frame) (u : UnrolledProgram) (i : ℕ) (g : Gift) : Type 0 where
  pub contract : Contract
  pub stepped : contract_at f.stepped (point_at u i).point.at ≡ Some contract
  pub registers : g.registers ≡ contract.registers
  pub flags : g.flags ≡ contract.flags

pub gift_contract : (f : Frame) (contracts : List Contract) (k : ℕ) (u : UnrolledProgram) → IsUnrolling f contracts k u → (i : ℕ) (g : Gift) →
    IsGiftAt u i g → IsOfContract f u i g
gift_contract f contracts k u un i g at =
    by (point_at u i).point.contract (is_cut f (point_at u i).point) (un.places i at.place).does
  where
    of_gift : {x y : Gift} → StepsOver x ≡ StepsOver y → x ≡ y
    of_gift e = (cc)

    by_contract : (o : Option Contract) (stack : List ℕ) → contract_at f.stepped (point_at u i).point.at ≡ o →
        DoesContract f k u i (point_at u i) o stack → IsOfContract f u i g
    by_contract None stack e does = absurd does
    by_contract (Some x) [] e does = absurd does
    by_contract (Some x) (to ∷ below) e (along, does, exits, are) =
        (let same = of_gift (sym at.does ∙ does) in record {
          contract = x;
          stepped = e;
          registers = ap (λ (z : Gift). z.registers) same;
          flags = ap (λ (z : Gift). z.flags) same;
        })

    by_address : (o : Option Row) → DoesAddress f contracts k u i (point_at u i) o → IsOfContract f u i g
    by_address None does = absurd (let e = sym does.0 ∙ at.does in cc)
    by_address (Some row) does = absurd (let e = sym does.3.lists.1 ∙ at.does in cc)

    by : (contract cut : Bool) → DoesBy contract cut f contracts k u i (point_at u i) → IsOfContract f u i g
    by true cut does = by_contract (contract_at f.stepped (point_at u i).point.at) (point_at u i).point.stack refl does
    by false true does = absurd (let e = sym does.0 ∙ at.does in cc)
    by false false does = by_address (file_row f.program (point_at u i).point.at) does

-- where no contract is stepped over, none stands at an address
pub none_stepped : (f : Frame) → f.stepped ≡ [] → (a : ℕ) (x : Contract) → ¬ (contract_at f.stepped a ≡ Some x)
none_stepped f alone a x e = let n = sym (ap (λ (z : List Contract). contract_at z a) alone) ∙ e in cc

-- and no point makes a contract step
pub no_gift : (f : Frame) (contracts : List Contract) (k : ℕ) (u : UnrolledProgram) → IsUnrolling f contracts k u → f.stepped ≡ [] → (i : ℕ) (g : Gift) →
    ¬ IsGiftAt u i g
no_gift f contracts k u un alone i g at =
    let is = gift_contract f contracts k u un i g at in none_stepped f alone (point_at u i).point.at is.contract is.stepped

-- so that nothing is asked of contracts
pub none_fit : (f : Frame) → f.stepped ≡ [] → (u : UnrolledProgram) → AreFitted f u
none_fit f alone u = record {
  registers = λ a n x e h. absurd (none_stepped f alone a x e);
  flags = λ a n x e h. absurd (none_stepped f alone a x e);
  low = λ a n x e h. absurd (none_stepped f alone a x e);
}

pub none_had : (f : Frame) → f.stepped ≡ [] → (contracts : List Contract) → HasStepped f contracts
none_had f alone contracts a x e = absurd (none_stepped f alone a x e)

first_anchor : (entry : ℕ) (anchor : Anchor) → (first_of entry anchor).anchor ≡ anchor
first_anchor entry AtEntry = refl
first_anchor entry (AtHead stack a) = refl

-- the first root is the entry's
pub entry_anchor : (un : Unrolled) → IsEntryFirst un → anchor_at un 0 ≡ AtEntry
entry_anchor un h = ap (λ (o : Option listed.Root). anchor_of (stacks_of un.frames.items) o) h.1

module _ (un : Unrolled) (walkable : IsWalkable (frame_unrolled_of un)) (formed : AreRootsFormed un) (own : BeginAtOwn un) (f : Frame)
    (contracts : List Contract) (k : ℕ) (unrolling : IsUnrolling f contracts k (frame_unrolled_of un)) where
  -- the anchor that a root is of is that of its number
  anchor_same : (n : ℕ) (anchor : Anchor) → n < length un.roots.items → IsRootOf f (frame_unrolled_of un) (root_at (frame_unrolled_of un) n) anchor →
      anchor ≡ anchor_at un n
  anchor_same n anchor l is =
      sym (first_anchor f.program.entry anchor) ∙ ap (λ (z : _). z.anchor) (sym is.point) ∙ root_anchor un walkable formed own n l

  -- a root of an anchor has a number
  pub numbered : (root : Root) (anchor : Anchor) → Contains (frame_unrolled_of un).roots root → IsRootOf f (frame_unrolled_of un) root anchor →
      (n : ℕ) × (n < length un.roots.items) × (root ≡ root_at (frame_unrolled_of un) n) × (anchor ≡ anchor_at un n)
  numbered root anchor (n, l, e) is =
      let inside : n < length un.roots.items = (let c = length-map un.roots.items (root_of un) in omega arith) in
      let same : root_at (frame_unrolled_of un) n ≡ root = get_or_default (frame_unrolled_of un).roots n no_root root l ∙ e in
      (n, inside, sym same, anchor_same n anchor inside (subst (λ (z : Root). IsRootOf f (frame_unrolled_of un) z anchor) (sym same) is))

  -- the root of a number is that of its anchor
  pub root_of_number : (n : ℕ) → n < length un.roots.items → IsAnchor f k (anchor_at un n) ×
      IsRootOf f (frame_unrolled_of un) (root_at (frame_unrolled_of un) n) (anchor_at un n)
  root_of_number n l =
      let q = unrolling.roots (root_at (frame_unrolled_of un) n) (root_inside un walkable formed own n l) in
      let same = anchor_same n q.0 l q.2 in (
        subst (λ (z : Anchor). IsAnchor f k z) same q.1,
        subst (λ (z : Anchor). IsRootOf f (frame_unrolled_of un) (root_at (frame_unrolled_of un) n) z) same q.2,
      )

  -- where a segment begins at a head there is one
  pub head_there : (stack : List ℕ) (a n : ℕ) → n < length un.roots.items → AtHead stack a ≡ anchor_at un n → has_heads f ≡ true
  head_there stack a n l e =
      heads f a (head_anchor f k (first_of f.program.entry (AtHead stack a)) (subst (λ (z : Anchor). IsAnchor f k z) (sym e) (root_of_number n l).0))

  pub head_written : (asks : Bool) → asks ≡ true → (stack : List ℕ) (a n : ℕ) → n < length un.roots.items → AtHead stack a ≡ anchor_at un n →
      IsWrittenAnchor (has_heads f && asks) (anchor_at un n)
  head_written asks is stack a n l e =
      subst (λ (z : Anchor). IsWrittenAnchor (has_heads f && asks) z) e (both (has_heads f) asks (head_there stack a n l e) is)
    where
      both : (a b : Bool) → a ≡ true → b ≡ true → (a && b) ≡ true
      both a b p q = ap (λ z. z && b) p ∙ q
