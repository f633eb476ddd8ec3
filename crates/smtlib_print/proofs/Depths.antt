-- How many addresses stacks have, one by one.
use Rattle.std.proofs.Common.{◌≡◌, ℕ, ◌+◌, ◌≤◌, ◌<◌, ap, sym, ◌∙◌, subst, arith, List, [], ◌∷◌, ◌++◌, length, inl, inr}
use Rattle.std.specs.Prelude.{slice_index}
use Rattle.std.proofs.Math.ListN.{length-append}
use Rattle.std.proofs.lemmas.Bool.{cases_order}
use Rattle.std.proofs.lemmas.List.{get_or_past}
use Rattle.program_points.specs.declared.values.Frame.{Frame}
use Rattle.program_points.specs.Tables.{stack_at}
use Rattle.program_points.proofs.Lists.{or_left, or_last}
use Rattle.program_points.proofs.Stacked.{stack_none}
use Rattle.smtlib_print.specs.Orders.{AreDepths}
use Rattle.smtlib_print.proofs.StackTables.{stack_past}

-- a table has the depth of a stack, which is no more than its number
abbrev pub HasDepth : List Frame → List ℕ → ℕ → Type 0
HasDepth frames depths n = (slice_index depths n ≡ length (stack_at frames n)) × (slice_index depths n ≤ n)

-- so it has for the first stacks
pub record AreDepthsTo (frames : List Frame) (n : ℕ) (depths : List ℕ) : Type 0 where
  pub count : length depths ≡ n + 1
  pub each : (i : ℕ) → i < n + 1 → HasDepth frames depths i

pub depths_first : (frames : List Frame) (depths : List ℕ) → depths ≡ 0 ∷ [] → AreDepthsTo frames 0 depths
depths_first frames depths e = record {
  count = ap length e;
  each = λ i l. (let z : i ≡ 0 = omega (arith, l) in subst (HasDepth frames depths) (sym z) (
    ap (λ t. slice_index t 0) e ∙ sym (ap length (stack_none frames)),
    (let q : slice_index depths 0 ≡ 0 = ap (λ t. slice_index t 0) e in omega (arith, q)),
  ));
}

pub depths_more : (frames : List Frame) (n d : ℕ) (depths new : List ℕ) → new ≡ depths ++ d ∷ [] → (d ≡ length (stack_at frames (n + 1))) × (d ≤ n + 1) →
    AreDepthsTo frames n depths → AreDepthsTo frames (n + 1) new
depths_more frames n d depths new e is so_far =
    let long : length (depths ++ d ∷ []) ≡ length depths + 1 = length-append depths (d ∷ []) in
    let count : length new ≡ n + 1 + 1 = (let a = so_far.count in let b : length new ≡ length (depths ++ d ∷ []) = ap length e in omega (arith, a, b, long)) in
    record {
      count = count;
      each = λ i l. elim (cases_order i (n + 1)) [
        | inl t ↦ last i t
        | inr t ↦ elim t [ inl a ↦ earlier i a | inr a ↦ absurd (omega (arith, l, a)) ]
      ];
    }
  where
    last : (i : ℕ) → i ≡ n + 1 → HasDepth frames new i
    last i t =
        let z : i ≡ length depths = omega (arith, t, so_far.count) in
        let at : slice_index new i ≡ d = ap (λ l. slice_index l i) e ∙ ap (slice_index (depths ++ d ∷ [])) z ∙ or_last depths d 0 in
        (at ∙ is.0 ∙ ap (λ m. length (stack_at frames m)) (sym t), omega (arith, at, is.1, t))

    earlier : (i : ℕ) → i < n + 1 → HasDepth frames new i
    earlier i a =
        let at : slice_index new i ≡ slice_index depths i = ap (λ l. slice_index l i) e ∙ or_left depths (d ∷ []) i 0 (omega (arith, a, so_far.count)) in
        let was = so_far.each i a in
        (at ∙ was.0, omega (arith, at, was.1))

pub depths_done : (frames : List Frame) (n : ℕ) (depths : List ℕ) → n ≡ length frames → AreDepthsTo frames n depths → AreDepths frames depths
depths_done frames n depths e are i = elim (cases_order i (n + 1)) [
  | inl t ↦ past (omega (arith, t))
  | inr t ↦ elim t [ inl a ↦ (are.each i a).0 | inr a ↦ past (omega (arith, a)) ]
]
  where
    past : n + 1 ≤ i → slice_index depths i ≡ length (stack_at frames i)
    past h = get_or_past depths i 0 (omega (arith, h, are.count)) ∙ sym (ap length (stack_past frames i (omega (arith, h, e))))
