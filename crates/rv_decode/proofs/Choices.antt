-- What `decode` says, from what it finds in either table.
use Rattle.std.proofs.Common.{◌≡◌, ◌≢◌, ◌⊎◌, inl, inr, ℕ, ◌%◌, ◌^◌, ◌<◌, ◌≤◌, refl, sym, ap, subst, ◌∙◌, Bool, true, false, Option, Some, None, arith}
use Rattle.std.specs.Prelude.{◌==◌, nat_lt, MatchOption}
use Rattle.std.specs.Option.{option_map}
use Rattle.std.proofs.lemmas.Bool.Decides.{nat_tests}
use Rattle.machine_spec.specs.Rv.{rv_row}
use Rattle.machine_spec.specs.RvShort.{expansion, short_row, short_row_of, row_of_expansion, rvc_row}
use Rattle.machine_spec.proofs.RvNarrow.{long, ends_short, short_is_expansion}
use Rattle.rv_decode.specs.declared.plain.Plain.{Plain}
use Rattle.rv_decode.specs.declared.insn.Insn.{Insn}
use Rattle.rv_decode.specs.Plains.{plain_row, DecodesPlain}
use Rattle.rv_decode.specs.Halves.{IsExpansionOf, IsOfHalf, IsOfHalf-prop}
use Rattle.rv_decode.specs.Insns.{row_by, row_of, Decodes, DecodesBy}
use Rattle.rv_decode.proofs.Lines.{only_row, one_insn}

-- the words of instructions of 4 bytes end in 11
ends_long : (w : ℕ) (i : Plain) → DecodesPlain w i → w % 4 ≡ 3
ends_long w i d = (long w (plain_row i) (only_row w i d)).1

-- with the compressed instructions, a word that ends in 11 has the row of RV32IM
wide : (rvc : Bool) (w : ℕ) → w % 4 ≡ 3 → rvc_row rvc w ≡ rv_row w
wide false w e = refl
wide true w e = let t : (w % 4 == 3) ≡ true = grind (arith, nat_tests) in rw t refl

-- the row of a halfword
half_row : (h : ℕ) (i : Plain) (o : Option ℕ) → h < 2 ^ 16 → expansion h ≡ o → IsExpansionOf i o → rvc_row true h ≡ Some (short_row (plain_row i))
half_row h i None small e is = absurd is
half_row h i (Some w) small e is = (short_is_expansion h w small e).0 ∙ ap short_row_of (only_row w i is)

only_by : (rvc : Bool) (w : ℕ) (i : Plain) (half : Option ℕ) → IsOfHalf i half → DecodesBy rvc w i half → rvc_row rvc w ≡ Some (row_by i half)
only_by rvc w i None is d = wide rvc w (ends_long w i d) ∙ only_row w i d
only_by false w i (Some h) is d = cc
only_by true w i (Some h) is d = subst (λ n. rvc_row true n ≡ Some (row_by i (Some h))) (sym d.1) (half_row h i (expansion h) is.0 refl is.1)

-- two instructions with the same parts
same : (i j : Plain) (g h : Option ℕ) → i ≡ j → g ≡ h → (a : IsOfHalf i g) (b : IsOfHalf j h) →
    ◌≡◌ {A = Insn} (record { plain = i; half = g; of_half = a }) (record { plain = j; half = h; of_half = b })
same i j g h p q =
    subst (λ (k : Plain). (a : IsOfHalf i g) (b : IsOfHalf k h) →
    ◌≡◌ {A = Insn} (record { plain = i; half = g; of_half = a }) (record { plain = k; half = h; of_half = b })) p
    (subst (λ (o : Option ℕ). (a : IsOfHalf i g) (b : IsOfHalf i o) →
    ◌≡◌ {A = Insn} (record { plain = i; half = g; of_half = a }) (record { plain = i; half = o; of_half = b })) q
    (λ a b. ap (λ (x : IsOfHalf i g). let y : Insn = record { plain = i; half = g; of_half = x } in y) (IsOfHalf-prop i g a b)))

-- a word is of one instruction at most, and a halfword's expansion of one too
expansion_one : (i j : Plain) (o p : Option ℕ) → IsExpansionOf i o → IsExpansionOf j p → o ≡ p → i ≡ j
expansion_one i j None p a b e = absurd a
expansion_one i j (Some v) None a b e = cc
expansion_one i j (Some v) (Some u) a b e = let word : v ≡ u = cc in one_insn u i j (subst (λ n. DecodesPlain n i) word a) b

half_ends : (i : Plain) (h : ℕ) (o : Option ℕ) → expansion h ≡ o → IsExpansionOf i o → (h % 4 == 3) ≡ false
half_ends i h None e is = absurd is
half_ends i h (Some w) e is = ends_short h w e

apart : (w h : ℕ) (i : Plain) → DecodesPlain w i → w ≡ h → (h % 4 == 3) ≡ false → ⊥
apart w h i d e ends = let long_one = ends_long w i d in grind (arith, nat_tests)

one : (rvc : Bool) (w : ℕ) (i j : Plain) (g h : Option ℕ) (a : IsOfHalf i g) (b : IsOfHalf j h) → DecodesBy rvc w i g → DecodesBy rvc w j h →
    (i ≡ j) × (g ≡ h)
one rvc w i j None None a b d e = (one_insn w i j d e, refl)
one rvc w i j None (Some h) a b d e = absurd (apart w h i d e.1 (half_ends j h (expansion h) refl b.1))
one rvc w i j (Some g) None a b d e = absurd (apart w g j e d.1 (half_ends i g (expansion g) refl a.1))
one rvc w i j (Some g) (Some h) a b d e =
    let halves : g ≡ h = sym d.1 ∙ e.1 in (expansion_one i j (expansion g) (expansion h) a.1 b.1 (ap expansion halves), ap Some halves)

-- what `decode` ensures, from the answer of its parts
pub row_is : (rvc : Bool) (w : ℕ) (r : Option Insn) → MatchOption r (rvc_row rvc w ≡ None) (Decodes rvc w) → option_map row_of r ≡ rvc_row rvc w
row_is rvc w None h = sym h
row_is rvc w (Some i) h = sym (only_by rvc w i.plain i.half i.of_half h)

pub only_is : (rvc : Bool) (w : ℕ) (r : Option Insn) → MatchOption r (rvc_row rvc w ≡ None) (Decodes rvc w) → (i : Insn) → Decodes rvc w i → r ≡ Some i
only_is rvc w None h i d = let e = only_by rvc w i.plain i.half i.of_half d in cc
only_is rvc w (Some j) h i d =
    let e = one rvc w j.plain i.plain j.half i.half j.of_half i.of_half h d in
    ap Some (same j.plain i.plain j.half i.half e.0 e.1 j.of_half i.of_half)

-- the answer of either table is that of both
pub of_word : (rvc : Bool) (w : ℕ) (r : Option Insn) → (rvc ≡ false) ⊎ (w % 4 ≡ 3) → MatchOption r (rv_row w ≡ None) (Decodes false w) →
    MatchOption r (rvc_row rvc w ≡ None) (Decodes rvc w)
of_word false w r e h = h
of_word true w r (inl e) h = cc
of_word true w None (inr e) h = wide true w e ∙ h
of_word true w (Some i) (inr e) h = by_half i.plain i.half h where
  by_half : (p : Plain) (half : Option ℕ) → DecodesBy false w p half → DecodesBy true w p half
  by_half p None d = d
  by_half p (Some n) d = cc

pub of_none : (rvc : Bool) (w : ℕ) → rvc ≡ true → w % 4 ≢ 3 → 2 ^ 16 ≤ w → rvc_row rvc w ≡ None
of_none false w e n h = cc
of_none true w e n h =
    let f : (w % 4 == 3) ≡ false = grind (arith, nat_tests) in let g : nat_lt w (2 ^ 16) ≡ false = grind (arith, nat_tests) in rw (f, g) refl

pub of_half : (rvc : Bool) (w : ℕ) (r : Option Insn) → rvc ≡ true → w % 4 ≢ 3 → w < 2 ^ 16 →
    MatchOption r (row_of_expansion (expansion w) ≡ None) (Decodes true w) → MatchOption r (rvc_row rvc w ≡ None) (Decodes rvc w)
of_half false w r e n small h = cc
of_half true w None e n small h =
    let f : (w % 4 == 3) ≡ false = grind (arith, nat_tests) in let g : nat_lt w (2 ^ 16) ≡ true = grind (arith, nat_tests) in rw (f, g) h
of_half true w (Some i) e n small h = h
