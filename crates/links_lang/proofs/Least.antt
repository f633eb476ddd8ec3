-- The least fault of a line.
use Rattle.std.proofs.Common.{◌≡◌, ℕ, ◌<◌, ◌≤◌, inl, inr, sym, subst, arith, List, [], ◌∷◌, Option, Result, Ok, Err, map, length, All}
use Rattle.std.proofs.lemmas.List.Elements.{All-nil, All-cons, All-head, All-tail}
use Rattle.word_spec.specs.Tokens.{Token, NumberToken, NameToken, SignToken, BadByte, BadText, tokens_of}
use Rattle.notes_spec.specs.NotesGrammar.{IsGood}
use Rattle.line_tokens.specs.declared.lexer.Token as code
use Rattle.line_tokens.specs.Tokens.{capped, token_of}
use Rattle.pair_spec.specs.Links.{LinkFaultApplies, LimitFault, SyntaxFault, NameFault, RangeFault, HasForm, IsSaid, Says, fault_rank}
use Rattle.pair_spec.specs.Links as spec
use Rattle.pair_spec.proofs.LinkTexts.{form_of}
use Rattle.start_value.specs.declared.layout.Layout.{Layout}
use Rattle.notes_lang.specs.Parsing.{layout_names}
use Rattle.notes_lang.specs.Reading.{AreGood, tokens_view}
use Rattle.notes_lang.proofs.Judged.{same_view}
use Rattle.links_lang.specs.declared.faults.LinkFault.{LinkFault}
use Rattle.links_lang.specs.declared.faults.LinkFault.TheVariants.{Limit, Syntax, Name, Range}
use Rattle.links_lang.specs.declared.links.Link.{Link}
use Rattle.links_lang.specs.Telling.{IsJudged, IsLeastFault, IsTold}

-- tokens that a line may have
pub good_of : (us : List code.Token) → All (λ t. IsGood (token_of t)) us → AreGood us
good_of [] h = tt
good_of (u ∷ us) h = (All-head (λ t. IsGood (token_of t)) u us h, good_of us (All-tail (λ t. IsGood (token_of t)) u us h))

all_view : (us : List code.Token) → All (λ t. IsGood (token_of t)) us → All IsGood (tokens_view us)
all_view [] h = All-nil IsGood
all_view (u ∷ us) h =
    All-cons IsGood (token_of u) (tokens_view us) (All-head (λ t. IsGood (token_of t)) u us h) (all_view us (All-tail (λ t. IsGood (token_of t)) u us h))

good_back : (t : Token) (u : code.Token) → token_of u ≡ capped t → IsGood t → IsGood (token_of u)
good_back (NumberToken n) u is good = subst IsGood (sym is) (omega (arith, good))
good_back (NameToken w) u is good = subst IsGood (sym is) tt
good_back (SignToken s) u is good = subst IsGood (sym is) tt
good_back BadByte u is good = absurd good
good_back BadText u is good = absurd good

all_back : (us : List code.Token) (ts : List Token) → tokens_view us ≡ map capped ts → All IsGood ts → All (λ t. IsGood (token_of t)) us
all_back [] ts is good = All-nil (λ t. IsGood (token_of t))
all_back (u ∷ us) [] is good = absurd (cc)
all_back (u ∷ us) (t ∷ ts) is good =
    let one : token_of u ≡ capped t = cc in let more : tokens_view us ≡ map capped ts = cc in
    All-cons (λ t. IsGood (token_of t)) u us (good_back t u one (All-head IsGood t ts good)) (all_back us ts more (All-tail IsGood t ts good))

-- no fault has a rank below that of Limit
none_below : (g : spec.LinkFault) → fault_rank g < 1 → ⊥
none_below LimitFault less = omega (arith, less)
none_below SyntaxFault less = omega (arith, less)
none_below NameFault less = omega (arith, less)
none_below RangeFault less = omega (arith, less)

module _ (first second : Layout) (n : ℕ) (text : List ℕ) where
  abbrev Applies : spec.LinkFault → Type 0
  Applies f = LinkFaultApplies (layout_names first) (layout_names second) n text f

  limit : Applies LimitFault → IsLeastFault first second n text LimitFault
  limit applies = record { applies = applies; least = λ g less _. none_below g less }

  pub bad_token : (us : List code.Token) → tokens_view us ≡ map capped (tokens_of text) → (All (λ t. IsGood (token_of t)) us → ⊥) →
      IsLeastFault first second n text LimitFault
  bad_token us is bad = limit (inr (inr (λ good. bad (all_back us (tokens_of text) is good))))

  module _ (few : n ≤ 256) (short : length text ≤ 1024) (good : All IsGood (tokens_of text)) where
    not_limit : Applies LimitFault → ⊥
    not_limit (inl h) = omega (arith, few, h)
    not_limit (inr (inl h)) = omega (arith, short, h)
    not_limit (inr (inr h)) = h good

    under_syntax : (g : spec.LinkFault) → fault_rank g < 2 → Applies g → ⊥
    under_syntax LimitFault less h = not_limit h
    under_syntax SyntaxFault less h = omega (arith, less)
    under_syntax NameFault less h = omega (arith, less)
    under_syntax RangeFault less h = omega (arith, less)

    under_name : HasForm (tokens_of text) → (g : spec.LinkFault) → fault_rank g < 3 → Applies g → ⊥
    under_name form LimitFault less h = not_limit h
    under_name form SyntaxFault less h = h form
    under_name form NameFault less h = omega (arith, less)
    under_name form RangeFault less h = omega (arith, less)

    under_range : (s : Says) → IsSaid (layout_names first) (layout_names second) n (tokens_of text) s → (g : spec.LinkFault) → fault_rank g < 4 → Applies g → ⊥
    under_range s said LimitFault less h = not_limit h
    under_range s said SyntaxFault less h = h (form_of said)
    under_range s said NameFault less h = h s said
    under_range s said RangeFault less h = omega (arith, less)

    -- what its tokens say is what the line says
    judged : (r : Result (Option Link) LinkFault) → IsTold first second n (tokens_of text) r → IsJudged first second n text r
    judged (Ok o) h = record { few = few; short = short; good = good; said = h.0; range = h.1 }
    judged (Err Limit) h = absurd h
    judged (Err Syntax) h = record { applies = h; least = under_syntax }
    judged (Err Name) h = record { applies = h.1; least = under_name h.0 }
    judged (Err Range) h = record { applies = h; least = under_range h.0 h.1 }

  pub is_judged : n ≤ 256 → length text ≤ 1024 → (us : List code.Token) → tokens_view us ≡ map capped (tokens_of text) →
      All (λ t. IsGood (token_of t)) us → (r : Result (Option Link) LinkFault) → IsTold first second n (tokens_view us) r → IsJudged first second n text r
  is_judged few short us is good r told =
      let are : AreGood us = good_of us good in
      let same : tokens_view us ≡ tokens_of text = same_view us (tokens_of text) are is in
      judged few short (subst (All IsGood) same (all_view us good)) r (subst (λ (z : List Token). IsTold first second n z r) same told)
