-- What is answered to the text of an answer.
use Rattle.std.proofs.Common.{◌≡◌, ◌≢◌, ℕ, ◌<◌, ◌^◌, Bool, true, false, List, [], ◌∷◌, Option, Some, None, Result, Ok, Err, refl, sym, ap, ◌∙◌, subst, length}
use Rattle.std.specs.Prelude.{IfErr, IsErrAnd, IsSomeAnd, MatchBool}
use Rattle.machine_spec.specs.StateText.{Layout}
use Rattle.start_value.specs.declared.layout.Layout as forms
use Rattle.start_value.specs.Starts.{layout_of}
use Rattle.model_spec.specs.ModelText.{Between, Placed, Declared, Definition, IsAnswer, line_after, placed_tokens, tokens_from}
use Rattle.model_text.specs.declared.fault.ModelFault.{ModelFault}
use Rattle.model_text.specs.declared.fault.ModelFault.TheVariants.{Text, Memory}
use Rattle.model_text.specs.declared.place.Place.TheVariants as places
use Rattle.model_text.specs.Faults.{Found, found, first_fault, IsRefusal}
use Rattle.model_text.specs.Judgements.{answer_to, IsRefused, IsRight}
use Rattle.model_text.specs.declared.symbol.Others.{Others}
use Rattle.model_text.specs.Symbols.{AreFrameSymbols, symbol_in}
use Rattle.model_text.specs.Traces.{Known, At, Outcome, Whole, Refused, start, next_at, fault_before, refused, whole, judged}
use Rattle.model_text.proofs.FirstFaults.{judged_on, judged_stop, judged_early, judged_whole}
use Rattle.model_text.proofs.Law.{AreSorted, answer_is_right, answer_is_sorted}
use Rattle.model_text.proofs.SymbolNames.{own_names, symbols_known}

-- before the first token
pub judged_start : (layout : Layout) (drawn : List Bool) (o : Others) (text : List ℕ) →
    judged (symbol_in layout drawn o) (line_after text) start (tokens_from 1 Between text) ≡ answer_to layout drawn o text
unfolding placed_tokens
judged_start layout drawn o text = refl

pub on_true : (A B : Type 0) (b : Bool) → b ≡ true → MatchBool b A B → A
on_true A B true e h = h
on_true A B false e h = absurd (cc)

pub on_false : (A B : Type 0) (b : Bool) → b ≡ false → MatchBool b A B → B
on_false A B false e h = h
on_false A B true e h = absurd (cc)

-- an error that is handed on
pub error_is : {A E : Type 0} (r : Result A E) (e : E) (P : E → Type 0) → IsErrAnd r (λ x. x ≡ e) → P e → IfErr r P
error_is (Ok x) e P h p = tt
error_is (Err x) e P h p = subst P (sym h) p

-- a fault that ends the reading
pub refused_by : (a : Outcome) (s : At) (line : ℕ) (k : Found) → refused s line ≡ a → k ≡ first_fault s.kept (found line (fault_before s.place)) → a ≡ Refused k
refused_by a s line k e f = sym e ∙ ap (λ (z : Found). Refused z) (sym f)

-- the next token, if there is one
pub token_taken : (known : Known) (last : ℕ) (a : Outcome) (s : At) (ts us : List Placed) (t : Placed) (P : At → Type 0) → judged known last s ts ≡ a →
    ts ≡ t ∷ us →
    IsSomeAnd (next_at known s t) P → (n : At) × P n × (judged known last n us ≡ a)
token_taken known last a s ts us t P e shape h = by (next_at known s t) refl h
  where
    by : (o : Option At) → next_at known s t ≡ o → IsSomeAnd o P → (n : At) × P n × (judged known last n us ≡ a)
    by None f g = absurd g
    by (Some n) f g = (n, g, sym (judged_on known last s n t us f) ∙ ap (judged known last s) (sym shape) ∙ e)

pub token_refused : (known : Known) (last : ℕ) (a : Outcome) (s : At) (ts us : List Placed) (t : Placed) → judged known last s ts ≡ a → ts ≡ t ∷ us →
    next_at known s t ≡ None → refused s t.line ≡ a
token_refused known last a s ts us t e shape none = sym (judged_stop known last s t us none) ∙ ap (judged known last s) (sym shape) ∙ e

pub end_refused : (known : Known) (last : ℕ) (a : Outcome) (s : At) (ts : List Placed) → judged known last s ts ≡ a → ts ≡ [] → s.place ≢ places.Done →
    refused s last ≡ a
end_refused known last a s ts e shape other = sym (judged_early known last s other) ∙ ap (judged known last s) (sym shape) ∙ e

pub end_whole : (known : Known) (last : ℕ) (a : Outcome) (s : At) (ts : List Placed) (k : Option Found) → judged known last s ts ≡ a → ts ≡ [] →
    s.place ≡ places.Done → k ≡ s.kept → a ≡ whole k s.trace.definitions
end_whole known last a s ts k e shape done kept =
    sym e ∙ ap (judged known last s) shape ∙ judged_whole known last s done ∙ ap (λ (z : Option Found). whole z s.trace.definitions) (sym kept)

-- ---- the law, of what is answered

module _ (form : forms.Layout) (drawn : List Bool) (o : Others) (few : length drawn < 2 ^ 64) (short : length o.given.items < 2 ^ 64) (declared : List Declared) (are : AreFrameSymbols (layout_of form) drawn o declared)
    (text : List ℕ) where
  abbrev layout : Layout
  layout = layout_of form

  right : IsRight declared text (answer_to layout drawn o text)
  right = answer_is_right (symbol_in layout drawn o) declared (symbols_known layout drawn o (own_names form) few short declared are) text

  pub whole_is_answer : (ds : List Definition) → answer_to layout drawn o text ≡ Whole ds → IsAnswer declared text ds
  whole_is_answer ds e = subst (IsRight declared text) e right

  pub whole_is_sorted : (ds : List Definition) → answer_to layout drawn o text ≡ Whole ds → AreSorted (symbol_in layout drawn o) ds
  whole_is_sorted ds e =
      answer_is_sorted (symbol_in layout drawn o) declared (symbols_known layout drawn o (own_names form) few short declared are) text ds e

  pub refused_is_fault : (e : ModelFault) → IsRefused (answer_to layout drawn o text) e → IsRefusal declared text e
  refused_is_fault (Text line kind) h = subst (IsRight declared text) h right
  refused_is_fault Memory h = tt
