-- The first points of segments are among the points.
use Rattle.std.proofs.Common.{◌≡◌, refl, ap, sym, ◌∙◌, arith, ℕ, ◌<◌, ◌≤◌, Option, Some, None, List, length, get_or}
use Rattle.std.specs.Prelude.{Bool, Contains, false}
use Rattle.std.specs.BTreeMap.{BTreeMap}
use Rattle.std.proofs.lemmas.List.{get_or_default}
use Rattle.frame_spec.specs.Frames as specs
use Rattle.frame_spec.specs.FramePoints as spec
use Rattle.frame_spec.specs.FramePoints.{Anchor, AtHead, first_of}
use Rattle.program_points.specs.declared.values.Frame.{Frame}
use Rattle.program_points.specs.declared.values.Root.{Root}
use Rattle.program_points.specs.Listed.{anchor_of}
use Rattle.program_points.specs.Tables.{is_root_within, stack_at, stacks_of, IsTable}
use Rattle.program_points.proofs.Stacked.{stack_none}
use Rattle.unroller.specs.Keys.{address_of, contract_of, root_of, stack_of, turns_of, head_of, anchor_by, point_of, AreKeys, AreSegments}
use Rattle.unroller.specs.Roots.{first_key}
use Rattle.unroller.proofs.Numbered.{root_is, turns_is, address_is, stack_is, contract_is}
use Rattle.unroller.proofs.SameKeys.{same_key}

module _ (f : specs.Frame) (k : ℕ) (frames : List Frame) (numbers : BTreeMap (ℕ × ℕ) ℕ) (segments keys : List ℕ) (entry : ℕ) (table : IsTable frames numbers)
    (few : length frames < 2147483648) (segs : AreSegments f k frames segments) (are : AreKeys f k frames segments keys) (begins : f.program.entry ≡ entry)
  where
    abbrev key : ℕ → ℕ
    key n = first_key entry n (head_of (get_or segments n 0))

    -- the first point of a segment is that of some number
    its_key : (n : ℕ) → n < length segments → (i : ℕ) × (i < length keys) × (point_of frames segments (get_or keys i 0) ≡ first_of entry (anchor_by frames
        segments n))
    its_key n w =
        let x = are.all (first_of f.program.entry (anchor_by frames segments n)) (segs.only n w) in
        (x.0, x.1, x.2 ∙ ap (λ (z : ℕ). first_of z (anchor_by frames segments n)) begins)

    its_address : (n : ℕ) → n < length segments → (first_of entry (anchor_by frames segments n)).at < 4294967296
    its_address n w =
        let x = its_key n w in
        let e : address_of (get_or keys x.0 0) ≡ (first_of entry (anchor_by frames segments n)).at = ap (λ (z : spec.Point). z.at) x.2 in
        omega arith

    record IsFirst (n : ℕ) (o : Option Root) : Type 0 where
      root : root_of (first_key entry n o) ≡ n
      fits : stack_of (first_key entry n o) ≤ length frames
      turns : turns_of (first_key entry n o) ≡ 0
      stack : stack_at frames (stack_of (first_key entry n o)) ≡ (first_of entry (anchor_of (stacks_of frames) o)).stack
      at : address_of (first_key entry n o) ≡ (first_of entry (anchor_of (stacks_of frames) o)).at
      step : contract_of (first_key entry n o) ≡ false

    is_first : (n : ℕ) (o : Option Root) → is_root_within (length frames) o → (first_of entry (anchor_of (stacks_of frames) o)).at < 4294967296 → IsFirst n o
    is_first n None w h =
        let s = stack_is n 0 entry 0 false (omega arith) h (omega arith) in
        record {
          root = root_is n 0 entry 0 false (omega arith) h (omega arith);
          fits = omega arith;
          turns = turns_is n 0 entry 0 false (omega arith) h (omega arith);
          stack = ap (stack_at frames) s ∙ stack_none frames;
          at = address_is n 0 entry 0 false (omega arith) h (omega arith);
          step = contract_is n 0 entry 0 false;
        }
    is_first n (Some r) w h =
        let s = stack_is n 0 r.at r.stack false (omega arith) h (omega arith) in
        record {
          root = root_is n 0 r.at r.stack false (omega arith) h (omega arith);
          fits = omega arith;
          turns = turns_is n 0 r.at r.stack false (omega arith) h (omega arith);
          stack = ap (stack_at frames) s;
          at = address_is n 0 r.at r.stack false (omega arith) h (omega arith);
          step = contract_is n 0 r.at r.stack false;
        }

    first_is : (n : ℕ) → n < length segments → IsFirst n (head_of (get_or segments n 0))
    first_is n w = is_first n (head_of (get_or segments n 0)) (segs.fits n w) (its_address n w)

    pub first_root : (n : ℕ) → n < length segments → root_of (key n) ≡ n
    first_root n w = (first_is n w).root

    of_anchor : (o : Option Root) →
        first_of entry (anchor_of (stacks_of frames) o)
        ≡ record {
          anchor = anchor_of (stacks_of frames) o;
          turns = 0;
          contract = false;
          stack = (first_of entry (anchor_of (stacks_of frames) o)).stack;
          at = (first_of entry (anchor_of (stacks_of frames) o)).at;
        }
    of_anchor None = refl
    of_anchor (Some r) = refl

    pub first_point : (n : ℕ) → n < length segments → point_of frames segments (key n) ≡ first_of entry (anchor_by frames segments n)
    first_point n w =
        let x = first_is n w in
        let o = head_of (get_or segments n 0) in
        let to = first_of entry (anchor_by frames segments n) in
        ap (λ (z : ℕ). let y : spec.Point = record {
          anchor = anchor_by frames segments z;
          turns = turns_of (key n);
          contract = contract_of (key n);
          stack = stack_at frames (stack_of (key n));
          at = address_of (key n);
        } in y) x.root
        ∙ ap (λ (z : ℕ). let y : spec.Point = record {
          anchor = anchor_by frames segments n;
          turns = z;
          contract = contract_of (key n);
          stack = stack_at frames (stack_of (key n));
          at = address_of (key n);
        } in y) x.turns
        ∙ ap (λ (z : Bool). let y : spec.Point = record {
          anchor = anchor_by frames segments n;
          turns = 0;
          contract = z;
          stack = stack_at frames (stack_of (key n));
          at = address_of (key n);
        } in y) x.step
        ∙ ap (λ (z : List ℕ). let y : spec.Point = record {
          anchor = anchor_by frames segments n;
          turns = 0;
          contract = false;
          stack = z;
          at = address_of (key n);
        } in y) x.stack
        ∙ ap (λ (z : ℕ). let y : spec.Point = record { anchor = anchor_by frames segments n; turns = 0; contract = false; stack = to.stack; at = z } in y) x.at
        ∙ sym (of_anchor o)

    pub first_in : (n : ℕ) → n < length segments → Contains keys (key n)
    first_in n w =
        let x = its_key n w in
        let q = first_is n w in
        let rooted : root_of (key n) < length segments = (let r = q.root in omega arith) in (
          x.0,
          x.1,
          get_or_default keys x.0 (key n) 0 x.1
              ∙ same_key f k frames numbers segments table segs (get_or keys x.0 0) (key n) (are.rooted x.0 x.1) rooted (are.fits x.0 x.1) q.fits
              (x.2 ∙ sym (first_point n w)),
        )
