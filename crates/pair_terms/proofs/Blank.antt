-- Constants of some widths.
use Rattle.std.proofs.Common.{◌≡◌, ℕ, zero, suc, ◌+◌, ◌<◌, ◌≤◌, Bool, true, false, List, [], ◌∷◌, ◌++◌, length, take, replicate, get_or, refl, ap, sym, subst, ◌∙◌, arith}
use Rattle.std.specs.Prelude.{map}
use Rattle.std.specs.List.{flat_map}
use Rattle.std.proofs.lemmas.List.{map-append}
use Rattle.word_spec.specs.RowFiles.{from_to}
use Rattle.term_spec.specs.Terms.{TermNode, ConstantNode, AreTyped, HasWidth}
use Rattle.term_dag.specs.declared.nodes.Term.{Term}
use Rattle.term_dag.specs.Made.{IsInterned}
use Rattle.term_dag.proofs.Growth.{grew_none, grew_on, grew_more, grew_width, inputs_none, inputs_on, interned_grew, interned_inputs, interned_width}
use Rattle.pair_spec.specs.PairTerms.{HaveWidths}
use Rattle.mem_cells.specs.Words.{places_of}
use Rattle.start_value.specs.declared.layout.Layout.{Layout}
use Rattle.links_lang.specs.declared.links.Link.{Link}
use Rattle.links_lang.specs.declared.links.Link.TheVariants.{Entry, Exit, Share, Same}
use Rattle.links_lang.specs.Views.{link_of, links_of}
use Rattle.pair_terms.specs.declared.words.Part.{Part}
use Rattle.pair_terms.specs.Words.{AreBlankTerms, AreLinksOfSide, IsLinkOfSide, IsRange, link_widths, part_of, part_widths}
use Rattle.pair_terms.specs.Exits.{IsBlank}
use Rattle.pair_terms.proofs.WordTerms.{widths_stay, widths_both, part_wide, links_next, flat_one, link_forms, link_at}

pub no_blanks : (nodes : List TermNode) (n : ℕ) → AreTyped nodes → AreBlankTerms nodes nodes [] n []
no_blanks nodes n typed = record {
  grew = grew_more nodes nodes 0 0 0 0 0 0 0 0 0 n (omega arith) (omega arith) (omega arith) (omega arith) (omega arith) (grew_none nodes);
  inputs = inputs_none nodes _;
  typed = typed;
  widths = tt;
}

pub blanks_on : (a b c : List TermNode) (ws vs : List ℕ) (n m k : ℕ) (ts us more : List Term) → AreBlankTerms a b ws n (places_of ts) →
    AreBlankTerms b c vs m (places_of us) → n + m ≤ k → more ≡ ts ++ us → AreBlankTerms a c (ws ++ vs) k (places_of more)
blanks_on a b c ws vs n m k ts us more h i l e = record {
  grew = grew_more a c 0 0 0 0 (n + m) 0 0 0 0 k (omega arith) (omega arith) (omega arith) (omega arith) l (grew_on a b c 0 0 0 0 n 0 0 0 0 m h.grew i.grew);
  inputs = inputs_on a b c _ h.inputs i.inputs;
  typed = i.typed;
  widths = subst (λ (z : List ℕ). HaveWidths c z (ws ++ vs)) (sym (ap places_of e ∙ map-append (λ (t : Term). t.0) ts us))
      (widths_both c (places_of ts) (places_of us) ws vs (widths_stay b c _ _ _ _ _ i.grew (places_of ts) ws h.widths) i.widths);
}

replicated : (nodes : List TermNode) (w n : ℕ) (t : Term) → HasWidth nodes w t.0 → HaveWidths nodes (places_of (replicate n t)) (replicate n w)
replicated nodes w zero t h = tt
replicated nodes w (suc n) t h = (h, replicated nodes w n t h)

pub blanks_made : (a b : List TermNode) (w n : ℕ) (t : Term) (ts : List Term) → IsInterned a b (ConstantNode w 0) t.0 → ts ≡ replicate n t →
    AreBlankTerms a b (replicate n w) 1 (places_of ts)
blanks_made a b w n t ts h e = record {
  grew = interned_grew a b (ConstantNode w 0) t.0 h;
  inputs = interned_inputs a b (ConstantNode w 0) t.0 _ h (λ i. i);
  typed = h.typed;
  widths = subst (λ (z : List Term). HaveWidths b (places_of z) (replicate n w)) (sym e)
      (replicated b w n t (interned_width a b (ConstantNode w 0) t.0 w h refl));
}

pub eights : (low n : ℕ) → replicate {A = ℕ} n 8 ≡ map (λ a. 8) (from_to low n)
eights low zero = refl
eights low (suc n) = ap (λ (z : List ℕ). 8 ∷ z) (eights (low + 1) n)

part_ranged : (second : Bool) (form : Layout) (l : Link) → IsLinkOfSide second form l → IsRange (part_of true second l)
part_ranged second form (Exit line x y) h = tt
part_ranged second form (Entry line x y) h = tt
part_ranged second form (Share line low high) h = tt
part_ranged true form (Same line low high) h = h.1
part_ranged false form (Same line low high) h = h.1

pub link_ranged : (second : Bool) (form : Layout) (links : List Link) (i : ℕ) (d : Link) (p : Part) → AreLinksOfSide second form links → i < length links →
    p ≡ part_of true second (get_or links i d) → IsRange p
link_ranged second form links i d p h l e = subst IsRange (sym e) (part_ranged second form (get_or links i d) (link_at second form links i d h l))

pub links_blank : (a b c : List TermNode) (second : Bool) (form : Layout) (links : List Link) (i : ℕ) (d : Link) (p : Part) (ts us more : List Term) →
    AreLinksOfSide second form links → i < length links → p ≡ part_of true second (get_or links i d) →
    AreBlankTerms a b (flat_map (link_widths true) (links_of (take i links))) i (places_of ts) → AreBlankTerms b c (part_widths p) 1 (places_of us) →
    more ≡ ts ++ us → AreBlankTerms a c (flat_map (link_widths true) (links_of (take (i + 1) links))) (i + 1) (places_of more)
links_blank a b c second form links i d p ts us more all within is h k e =
    let l = get_or links i d in
    let forms = link_forms second form l (link_at second form links i d all within) in
    let wide : part_widths p ≡ link_widths true (link_of l) = ap part_widths is ∙ part_wide true second forms.0 forms.1 l forms.2 in
    subst (λ (z : List ℕ). AreBlankTerms a c z (i + 1) (places_of more))
    (ap (λ (z : List ℕ). flat_map (link_widths true) (links_of (take i links)) ++ z) wide
    ∙ flat_one (link_widths true) (links_of (take i links)) (links_of (take (i + 1) links)) (link_of l) (links_next links i d within))
    (blanks_on a b c (flat_map (link_widths true) (links_of (take i links))) (part_widths p) i 1 (i + 1) ts us more h k (omega arith) e)

-- a bit that is 0, and constants
pub never_made : (a b c : List TermNode) (t : ℕ) (ws : List ℕ) (n : ℕ) (ts : List ℕ) → IsInterned a b (ConstantNode 1 0) t → AreBlankTerms b c ws n ts →
    IsBlank a c ws (1 + n) t ts
never_made a b c t ws n ts h k = record {
  grew = grew_on a b c 0 0 0 0 1 0 0 0 0 n (interned_grew a b (ConstantNode 1 0) t h) k.grew;
  inputs = inputs_on a b c _ (interned_inputs a b (ConstantNode 1 0) t _ h (λ i. i)) k.inputs;
  typed = k.typed;
  bit_of = grew_width b c 0 0 0 0 n 1 t k.grew (interned_width a b (ConstantNode 1 0) t 1 h refl);
  zero = λ x r. ap (λ v. v.word) (k.grew.keeps x t h.within ∙ h.value x);
  widths = k.widths;
}
