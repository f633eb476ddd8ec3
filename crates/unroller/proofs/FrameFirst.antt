-- The points of a frame within their segments.
use Rattle.std.proofs.Common.{◌≡◌, ⊎_elim, inl, inr, refl, ap, sym, ◌∙◌, arith, ℕ, ◌+◌, ◌<◌, ◌≤◌, Bool, true, false, List, []}
use Rattle.std.specs.Prelude.{◌⊎◌, ◌&&◌, nat_le, nat_lt, is_some, length, if◌then◌else◌}
use Rattle.std.proofs.lemmas.Bool.Decides.{nat_tests}
use Rattle.bilv_spec.specs.Points.{file_row}
use Rattle.frame_spec.specs.Frames.{Frame, is_head, contract_at}
use Rattle.frame_spec.specs.FrameRuns.{links_by}
use Rattle.frame_spec.specs.FramePoints.{AtHead, Point, IsPoint, first, entry_head, next, first_of, point_to, is_contract_end}
use Rattle.unroller.specs.FrameFirst.{IsOfSegment, PointsAreOfSegments}

rises : (b : Bool) (turns at a : ℕ) → nat_le a at ≡ b → (if b then turns + 1 else turns) ≡ 0 → (turns ≡ 0) × (at < a)
rises true turns at a e h = absurd (omega arith)
rises false turns at a e h = (h, grind (arith, nat_tests))

on_from : (entry : ℕ) (q : Point) (a : ℕ) → q.at < a → ((first_of entry q.anchor).at < q.at) ⊎ (q ≡ first_of entry q.anchor) → (first_of entry q.anchor).at < a
on_from entry q a up h =
    ⊎_elim (λ l. omega (arith, l, up)) (λ e. let s : q.at ≡ (first_of entry q.anchor).at = ap (λ (z : Point). z.at) e in omega (arith, s, up)) h

module _ (f : Frame) (k : ℕ) where
  pub no_step : f.stepped ≡ [] → (q : Point) (stack : List ℕ) (a : ℕ) → is_contract_end f q stack a ≡ false
  no_step none q stack a =
      ap (λ l. is_some (contract_at l a) && nat_lt (length q.stack) (length stack) && links_by (file_row f.program q.at)) none

  after : (q : Point) (stack : List ℕ) (a : ℕ) → IsOfSegment f k q → (b : Bool) → is_head f a ≡ b →
      IsPoint f k (if b then first_of f.program.entry (AtHead stack a) else point_to (is_contract_end f q stack a) q stack a) →
      (if b then first_of f.program.entry (AtHead stack a) else point_to (is_contract_end f q stack a) q stack a).turns ≤ k →
      IsOfSegment f k (if b then first_of f.program.entry (AtHead stack a) else point_to (is_contract_end f q stack a) q stack a)
  after q stack a of true e is low = record { contract = λ n. refl; few = low; anchor = is; up = λ h. inr refl; head = λ h. refl }
  after q stack a of false e is low = record {
    contract = λ n. no_step n q stack a;
    few = low;
    anchor = of.anchor;
    up = λ h. (let r = rises (nat_le a q.at) q.turns q.at a refl h in inl (on_from f.program.entry q a r.1 (of.up r.0)));
    head = λ h. absurd (let c : false ≡ true = sym e ∙ h in cc);
  }

  pub of_segment : (q : Point) → IsPoint f k q → IsOfSegment f k q
  of_segment q first = record { contract = λ n. refl; few = omega arith; anchor = first; up = λ h. inr refl; head = λ h. refl }
  of_segment q (entry_head h) = record { contract = λ n. refl; few = omega arith; anchor = entry_head h; up = λ t. inr refl; head = λ t. refl }
  of_segment q (next {q = from} {stack = stack} {a = a} is edge low) =
      after from stack a (of_segment from is) (is_head f a) refl (next {q = from} {stack = stack} {a = a} is edge low) low

-- where a contract step is made there is a contract, and the stack is not empty
abbrev IsStep : Frame → Point → Type 0
IsStep f q = (is_some (contract_at f.stepped q.at) ≡ true) × (0 < length q.stack)

both : (a b c : Bool) → (a && b && c) ≡ true → (a ≡ true) × (b ≡ true)
both true true c h = (refl, refl)
both true false c h = absurd (cc)
both false b c h = absurd (cc)

step_by : (f : Frame) (q : Point) (stack : List ℕ) (a : ℕ) (b : Bool) → is_head f a ≡ b →
    (if b then first_of f.program.entry (AtHead stack a) else point_to (is_contract_end f q stack a) q stack a).contract ≡ true →
    IsStep f (if b then first_of f.program.entry (AtHead stack a) else point_to (is_contract_end f q stack a) q stack a)
step_by f q stack a true e h = absurd (cc)
step_by f q stack a false e h =
    let z = both (is_some (contract_at f.stepped a)) (nat_lt (length q.stack) (length stack)) (links_by (file_row f.program q.at)) h in
    (z.0, (let d : length q.stack < length stack = (let t = z.1 in grind (arith, nat_tests)) in omega (arith, d)))

pub of_contract : (f : Frame) (k : ℕ) (q : Point) → IsPoint f k q → q.contract ≡ true → (is_some (contract_at f.stepped q.at) ≡ true) × (0 < length q.stack)
of_contract f k q first h = absurd (cc)
of_contract f k q (entry_head e) h = absurd (cc)
of_contract f k q (next {q = from} {stack = stack} {a = a} is edge low) h = step_by f from stack a (is_head f a) refl h

pub points_are_of_segments : PointsAreOfSegments
points_are_of_segments f k q is = of_segment f k q is
