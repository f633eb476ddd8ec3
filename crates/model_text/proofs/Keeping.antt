-- What is kept of an answer's tokens is kept behind one more token.
use Rattle.std.proofs.Common.{◌≡◌, ℕ, true, [], Option, Some, None, refl, sym, ap, ◌∙◌, subst}
use Rattle.std.specs.Prelude.{is_some, IsSomeAnd}
use Rattle.std.specs.Option.{option_map}
use Rattle.machine_spec.specs.StateText.{Layout}
use Rattle.model_spec.specs.ModelText.{Placed, ModelFault}
use Rattle.model_text.specs.declared.draft.Draft.{Draft}
use Rattle.model_text.specs.declared.findings.Findings.{Findings}
use Rattle.model_text.specs.declared.reading.Reading.{Reading}
use Rattle.model_text.specs.declared.place.Place.{Place}
use Rattle.model_text.specs.declared.place.Place.TheVariants as places
use Rattle.model_text.specs.declared.symbol.Symbol.{Symbol}
use Rattle.model_text.specs.Tokens.{name_text}
use Rattle.model_text.specs.Places.{next_place, begins, is_closing}
use Rattle.model_text.specs.Faults.{Found, kept_of, with_fault}
use Rattle.model_text.specs.Symbols.{IsNamedIf}
use Rattle.model_text.specs.Drafts.{IsDraft, IsLearnt, AreFindings, IsMemoryOf, Keeps}
use Rattle.model_text.specs.declared.stores.Stored.{Stored}
use Rattle.model_spec.specs.ModelText.{Value}
use Rattle.model_text.specs.Traces.{Trace, Known, At, start, empty_trace, symbol_at, traced, behind, begun_at, fault_at, next_at}
use Rattle.model_text.proofs.FirstFaults.{none_kept}
use Rattle.model_text.proofs.Steps.{step_good}

-- before the first token
pub start_keeps : (layout : Layout) (count : ℕ) (f : Findings) (d : Draft) → IsDraft d empty_trace → AreFindings layout count None f [] →
    Keeps layout count (record { place = places.Start; begun = 0; kept = None; draft = d; findings = f }) start
start_keeps layout count f d draft findings = record {
  place = refl;
  begun = refl;
  kept = refl;
  learnt = record { draft = draft; findings = findings; named = refl };
  closing = λ c. absurd (cc);
}

-- a fault that is kept makes nothing of a value known
module _ (layout : Layout) (count : ℕ) (k l : Option Found) (less : l ≡ None → k ≡ None) where
  memory_less : (o : Option Stored) (v : Option Value) → IsMemoryOf k o v → IsMemoryOf l o v
  memory_less None None h = tt
  memory_less None (Some v) h = absurd h
  memory_less (Some s) None h = absurd h
  memory_less (Some s) (Some v) h = λ e. h (less e)

  learnt_less : (d : Draft) (f : Findings) (tr : Trace) → IsLearnt layout count k d f tr → IsLearnt layout count l d f tr
  learnt_less d f tr h = record {
    draft = h.draft;
    findings = record {
      apart = h.findings.apart;
      count_is = h.findings.count_is;
      words = λ i m. record { given = (h.findings.words i m).given; word = λ e. (h.findings.words i m).word (less e) };
      memory = memory_less f.memory _ h.findings.memory;
      others = h.findings.others;
    };
    named = h.named;
  }

-- one more token
pub taken_keeps : (layout : Layout) (count : ℕ) (known : Known) (r e : Reading) (s : At) (t : Placed) (o : Option Symbol) (q : Place) (m : Option ModelFault) →
    Keeps layout count r s → o ≡ symbol_at known r.place t.token → IsNamedIf layout count o (name_text t.token) →
    Some q ≡ next_place (is_some o) r.place t.token →
    ((k : Option Found) (tr : Trace) → IsNamedIf layout count o (name_text t.token) → (is_closing r.place ≡ true → k ≡ None → r.draft.good ≡ true) →
    IsLearnt layout count k r.draft r.findings tr → IsLearnt layout count k e.draft e.findings (traced r.place o t.token tr)) →
    ((k : Option Found) (tr : Trace) → IsLearnt layout count k e.draft e.findings tr → m ≡ fault_at r.place o q tr) →
    e.place ≡ q → e.begun ≡ begun_at (begins r.place) t.line r.begun → option_map kept_of e.kept ≡ with_fault m e.begun (option_map kept_of r.kept) →
    IsSomeAnd (next_at known s t) (λ n. Keeps layout count e n)
taken_keeps layout count known r e s t o q m h symbol named next learn fault place begun kept =
    let here : Option Symbol = symbol_at known s.place t.token in
    let all : At = behind s here t q in
    let next_is : next_place (is_some here) s.place t.token ≡ Some q =
    subst (λ (p : Place). next_place (is_some (symbol_at known p t.token)) p t.token ≡ Some q) h.place
    (subst (λ (z : Option Symbol). next_place (is_some z) r.place t.token ≡ Some q) symbol (sym next)) in
    let there : next_at known s t ≡ Some all = ap (option_map (behind s here t)) next_is in
    let learnt : IsLearnt layout count s.kept e.draft e.findings all.trace =
    subst (λ (p : Place). IsLearnt layout count s.kept e.draft e.findings (traced p (symbol_at known p t.token) t.token s.trace)) h.place
    (subst (λ (z : Option Symbol). IsLearnt layout count s.kept e.draft e.findings (traced r.place z t.token s.trace)) symbol
    (learn s.kept s.trace named (λ c. h.closing (ap is_closing (sym h.place) ∙ c)) h.learnt)) in
    let shown : m ≡ fault_at s.place here q all.trace =
    subst (λ (p : Place). m ≡ fault_at p (symbol_at known p t.token) q (traced p (symbol_at known p t.token) t.token s.trace)) h.place
    (subst (λ (z : Option Symbol). m ≡ fault_at r.place z q (traced r.place z t.token s.trace)) symbol
    (fault s.kept (traced r.place o t.token s.trace) (learn s.kept s.trace named (λ c. h.closing (ap is_closing (sym h.place) ∙ c)) h.learnt))) in
    let begun_is : e.begun ≡ all.begun =
    begun ∙ ap (λ (p : Place). begun_at (begins p) t.line r.begun) h.place ∙ ap (λ (n : ℕ). begun_at (begins s.place) t.line n) h.begun in
    let kept_is : option_map kept_of e.kept ≡ all.kept =
    kept ∙ ap (λ (z : Option ModelFault). with_fault z e.begun (option_map kept_of r.kept)) shown
    ∙ ap (λ (n : ℕ). with_fault (fault_at s.place here q all.trace) n (option_map kept_of r.kept)) begun_is
    ∙ ap (λ (z : Option Found). with_fault (fault_at s.place here q all.trace) all.begun z) h.kept in
    let old : all.kept ≡ None → (s.kept ≡ None) × (fault_at s.place here q all.trace ≡ None) =
    λ x. none_kept s.kept (fault_at s.place here q all.trace) all.begun x in
    subst (λ (z : Option At). IsSomeAnd z (λ n. Keeps layout count e n)) (sym there) (record {
      place = place;
      begun = begun_is;
      kept = kept_is;
      learnt = learnt_less layout count s.kept all.kept (λ x. (old x).0) e.draft e.findings all.trace learnt;
      closing = λ c x. learnt.draft.good ∙ step_good known s.place s.trace t q next_is (old x).1 c;
    })
