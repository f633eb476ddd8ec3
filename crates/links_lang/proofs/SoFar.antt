-- Lines so far, and what they say.
use Rattle.std.proofs.Common.{◌≡◌, ℕ, suc, ◌+◌, refl, ap, sym, ◌∙◌, subst, arith, List, [], ◌∷◌, ◌++◌, Option, Some, None, length, append_assoc}
use Rattle.std.specs.Prelude.{IfSome, option_to_list}
use Rattle.std.proofs.lemmas.List.Elements.{All-nil, All-push}
use Rattle.bilv_spec.specs.Notes.{Expr}
use Rattle.notes_spec.specs.NotesGrammar.{lines_of}
use Rattle.pair_spec.specs.Links.{AreLines, IsFirstLinkFault, IsLine, IsLinksText, LinkFaultApplies, Says, Nothing, LinkIs, at_line, fault_rank, links_in}
use Rattle.pair_spec.specs.Links as spec
use Rattle.start_value.specs.declared.layout.Layout.{Layout}
use Rattle.notes_lang.specs.Parsing.{layout_names}
use Rattle.links_lang.specs.declared.links.Link.{Link}
use Rattle.links_lang.specs.Views.{AreLinksOf, IsLinkOf, link_of, links_of}
use Rattle.links_lang.specs.Telling.{AreSoFar, IsLeastFault, says_of}

-- one more line
module _ (first second : List ℕ → Option Expr) where
  one_more : (n : ℕ) (texts : List (List ℕ)) (says : List Says) (t : List ℕ) (s : Says) → AreLines first second n texts says →
      IsLine first second (n + length texts) t s → AreLines first second n (texts ++ t ∷ []) (says ++ s ∷ [])
  one_more n [] [] t s h line = (subst (λ (z : ℕ). IsLine first second z t s) (let e : n + 0 ≡ n = omega arith in e) line, tt)
  one_more n [] (x ∷ says) t s h line = absurd h
  one_more n (x ∷ texts) [] t s h line = absurd h
  one_more n (x ∷ texts) (y ∷ says) t s h line = (
    h.0,
    one_more (n + 1) texts says t s h.1
        (subst (λ (z : ℕ). IsLine first second z t s) (let e : n + suc (length texts) ≡ n + 1 + length texts = omega arith in e) line),
  )

links_append : (says : List Says) (s : Says) → links_in (says ++ s ∷ []) ≡ links_in says ++ links_in (s ∷ [])
links_append [] s = refl
links_append (Nothing ∷ says) s = links_append says s
links_append (LinkIs l ∷ says) s = ap (λ z. l ∷ z) (links_append says s)

map_append : (links more : List Link) → links_of (links ++ more) ≡ links_of links ++ links_of more
map_append [] more = refl
map_append (l ∷ links) more = ap (λ z. link_of l ∷ z) (map_append links more)

said_links : (o : Option Link) → links_in (says_of o ∷ []) ≡ links_of (option_to_list o)
said_links None = refl
said_links (Some l) = refl

no_more : (xs : List (List ℕ)) → xs ++ [] ≡ xs
no_more [] = refl
no_more (x ∷ xs) = ap (λ z. x ∷ z) (no_more xs)

no_link : (links : List Link) → links ++ [] ≡ links
no_link [] = refl
no_link (x ∷ xs) = ap (λ z. x ∷ z) (no_link xs)

module _ (first second : Layout) (text : List ℕ) where
  pub none_so_far : (links : List Link) → links ≡ [] → AreSoFar first second text text 1 links
  none_so_far links none =
      subst (λ (z : List Link). AreSoFar first second text text 1 z) (sym none)
      (record { texts = []; says = []; split = refl; number = refl; lines = tt; links_are = refl; forms = All-nil (IsLinkOf first second) })

  more_forms : (links : List Link) (o : Option Link) → AreLinksOf first second links → IfSome o (λ l. IsLinkOf first second l) →
      AreLinksOf first second (links ++ option_to_list o)
  more_forms links None all h = subst (λ (z : List Link). AreLinksOf first second z) (sym (no_link links)) all
  more_forms links (Some l) all h = All-push (IsLinkOf first second) links l all h

  pub goes_on : (rest others line_text : List ℕ) (line : ℕ) (links more : List Link) (o : Option Link) → AreSoFar first second text rest line links →
      lines_of rest ≡ line_text ∷ lines_of others → IsLine (layout_names first) (layout_names second) line line_text (says_of o) →
      IfSome o (λ l. IsLinkOf first second l) → more ≡ links ++ option_to_list o → AreSoFar first second text others (line + 1) more
  goes_on rest others line_text line links more o so_far split here form more_is = record {
    texts = so_far.texts ++ line_text ∷ [];
    says = so_far.says ++ says_of o ∷ [];
    split = so_far.split ∙ ap (λ z. so_far.texts ++ z) split ∙ sym (append_assoc so_far.texts (line_text ∷ []) (lines_of others));
    number = count so_far.texts so_far.number;
    lines = one_more (layout_names first) (layout_names second) 1 so_far.texts so_far.says line_text (says_of o) so_far.lines
        (subst (λ (z : ℕ). IsLine (layout_names first) (layout_names second) z line_text (says_of o))
        (let n = so_far.number in let e : line ≡ 1 + length so_far.texts = omega (arith, n) in e) here);
    links_are =
        links_append so_far.says (says_of o) ∙ ap (λ z. z ++ links_in (says_of o ∷ [])) so_far.links_are
        ∙ ap (λ z. links_of links ++ z) (said_links o) ∙ sym (map_append links (option_to_list o)) ∙ ap links_of (sym more_is);
    forms = subst (λ (z : List Link). AreLinksOf first second z) (sym more_is) (more_forms links o so_far.forms form);
  }
    where
      longer : (xs : List (List ℕ)) → length (xs ++ line_text ∷ []) ≡ length xs + 1
      longer [] = refl
      longer (x ∷ xs) = let n = longer xs in omega (arith, n)

      count : (xs : List (List ℕ)) → line ≡ length xs + 1 → line + 1 ≡ length (xs ++ line_text ∷ []) + 1
      count xs n = let m = longer xs in omega (arith, n, m)

  pub refused : (rest others bad : List ℕ) (line : ℕ) (links : List Link) (f : spec.LinkFault) → AreSoFar first second text rest line links →
      lines_of rest ≡ bad ∷ lines_of others → IsLeastFault first second line bad f → IsFirstLinkFault (layout_names first) (layout_names second) text line f
  refused rest others bad line links f so_far split fault =
      let here = subst (λ (z : ℕ). IsLeastFault first second z bad f) so_far.number fault in
      subst (λ (z : ℕ). IsFirstLinkFault (layout_names first) (layout_names second) text z f) (sym so_far.number)
      (at_line so_far.texts (lines_of others) bad so_far.says (so_far.split ∙ ap (λ z. so_far.texts ++ z) split) so_far.lines here.applies here.least)

  nothing_left : (rest : List ℕ) → length rest ≡ 0 → rest ≡ []
  nothing_left [] none = refl
  nothing_left (b ∷ rest) none = absurd (omega (arith, none))

  pub finished : (rest : List ℕ) (line : ℕ) (links : List Link) → length rest ≡ 0 → AreSoFar first second text rest line links →
      IsLinksText (layout_names first) (layout_names second) text (links_of links) × AreLinksOf first second links
  finished rest line links none so_far =
      let all : so_far.texts ≡ lines_of text =
      sym (so_far.split ∙ ap (λ z. so_far.texts ++ lines_of z) (nothing_left rest none) ∙ no_more so_far.texts) in
      ((so_far.says, subst (λ z. AreLines (layout_names first) (layout_names second) 1 z so_far.says) all so_far.lines, so_far.links_are), so_far.forms)
