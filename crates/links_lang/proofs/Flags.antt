-- The flags that links compare at the exit.
use Rattle.std.proofs.Common.{◌≡◌, ℕ, zero, suc, ◌%◌, ◌^◌, ◌<◌, ◌≤◌, inl, inr, refl, ap, sym, ◌∙◌, arith, List, [], ◌∷◌, Bool, true, false, ◌==◌, ◌||◌}
use Rattle.std.specs.List.{list_any}
use Rattle.std.proofs.lemmas.Bool.Decides.{nat_tests}
use Rattle.std.proofs.lemmas.List.Elements.{All-head, All-tail}
use Rattle.std.proofs.Math.Nat.{div-eq_of_lt, pow-le-pow_right}
use Rattle.bilv_spec.proofs.Decided.{Decided, is_less}
use Rattle.bilv_spec.specs.LiveFlags.{names_flag}
use Rattle.pair_spec.specs.Links.{compares_flag}
use Rattle.graph_nodes.specs.Graphs.{IsFlagSet, has_flag}
use Rattle.start_value.specs.declared.layout.Layout.{Layout}
use Rattle.start_value.specs.declared.layout.Layout.TheVariants.{Rv32, Arm}
use Rattle.notes_lang.specs.Parsing.{layout_flags}
use Rattle.links_lang.specs.declared.links.Named.{Named}
use Rattle.links_lang.specs.declared.links.Named.TheVariants.{Zero, Register, Flag}
use Rattle.links_lang.specs.declared.links.Link.{Link}
use Rattle.links_lang.specs.declared.links.Link.TheVariants.{Entry, Exit, Share, Same}
use Rattle.links_lang.specs.Views.{AreLinksOf, IsLinkOf, IsOfForm, link_of, links_of, named_of}

-- some link passes a test
pub any_link : (side : Bool) (f : ℕ) (links : List Link) → list_any (compares_flag side f) (links_of links) ≡ list_any (λ l. compares_flag side f (link_of l)) links
any_link side f [] = refl
any_link side f (l ∷ links) = ap (λ b. compares_flag side f (link_of l) || b) (any_link side f links)

pub flag_set : (set : ℕ) (test : ℕ → Bool) → set < 16 → has_flag set 3 ≡ test 3 → has_flag set 2 ≡ test 2 → has_flag set 1 ≡ test 1 → has_flag set 0 ≡ test 0 →
    IsFlagSet set test
flag_set set test small n z c v = record { small = small; exact = each }
  where
    each : (f : ℕ) → f < 4 → has_flag set f ≡ test f
    each zero below = v
    each (suc zero) below = c
    each (suc (suc zero)) below = z
    each (suc (suc (suc zero))) below = n
    each (suc (suc (suc (suc f)))) below = absurd (omega (arith, below))

-- the machines have the flags 0 to 3
few_flags : (form : Layout) (f : ℕ) → layout_flags form f ≡ true → f < 4
few_flags (Rv32 compressed) f is = absurd (let e : false ≡ true = is in cc)
few_flags (Arm big profile) f is = grind (arith, nat_tests)

other_flag : (form : Layout) (x : Named) (f : ℕ) → IsOfForm form x → 4 ≤ f → names_flag f (named_of x) ≡ false
other_flag form Zero f h above = refl
other_flag form (Register r) f h above = refl
other_flag form (Flag g) f h above = let below = few_flags form g h in grind (arith, nat_tests)

not_compared : (a b : Layout) (side : Bool) (f : ℕ) (l : Link) → IsLinkOf a b l → 4 ≤ f → compares_flag side f (link_of l) ≡ false
not_compared a b side f (Entry n x y) h above = refl
not_compared a b true f (Exit n x y) h above = other_flag b y f h.1 above
not_compared a b false f (Exit n x y) h above = other_flag a x f h.0 above
not_compared a b side f (Share n low high) h above = refl
not_compared a b side f (Same n low high) h above = refl

none_compared : (a b : Layout) (side : Bool) (f : ℕ) (links : List Link) → AreLinksOf a b links → 4 ≤ f → list_any (compares_flag side f) (links_of links) ≡ false
none_compared a b side f [] h above = refl
none_compared a b side f (l ∷ links) h above =
    ap (λ z. z || list_any (compares_flag side f) (links_of links)) (not_compared a b side f l (All-head (IsLinkOf a b) l links h) above)
    ∙ none_compared a b side f links (All-tail (IsLinkOf a b) l links h) above

-- a set of the four flags has no other
sixteen : (f : ℕ) → 4 ≤ f → 16 ≤ 2 ^ f
sixteen f above = pow-le-pow_right {n = 2} (omega arith) above

no_other : (set f : ℕ) → set < 16 → 4 ≤ f → has_flag set f ≡ false
no_other set f small above = ap (λ z. (z % 2) == 1) (div-eq_of_lt (let high = sixteen f above in omega (arith, small, high)))

pub all_flags : (a b : Layout) (side : Bool) (set : ℕ) (links : List Link) → IsFlagSet set (λ f. list_any (compares_flag side f) (links_of links)) →
    AreLinksOf a b links → (f : ℕ) → has_flag set f ≡ list_any (compares_flag side f) (links_of links)
all_flags a b side set links is forms f = by (is_less f 4)
  where
    by : Decided (f < 4) → has_flag set f ≡ list_any (compares_flag side f) (links_of links)
    by (inl below) = is.exact f below
    by (inr above) =
        let high : 4 ≤ f = omega (arith, above) in no_other set f is.small high ∙ sym (none_compared a b side f links forms high)
