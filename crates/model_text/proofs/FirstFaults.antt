-- Of the faults that are met the first is kept.
use Rattle.std.proofs.Common.{◌≡◌, ◌≢◌, ℕ, ◌≤◌, Bool, true, false, arith, List, [], ◌∷◌, ◌++◌, Option, Some, None, refl, sym, ap, ◌∙◌, subst}
use Rattle.std.specs.Prelude.{◌==◌, ◌&&◌, ◌||◌, nat_lt, if◌then◌else◌, is_some}
use Rattle.std.specs.Option.{option_map}
use Rattle.std.proofs.lemmas.Bool.Decides.{nat_tests}
use Rattle.model_spec.specs.ModelText.{Placed, Definition, ModelFault, fault_rank, bare}
use Rattle.model_text.specs.declared.place.Place.{Place}
use Rattle.model_text.specs.declared.place.Place.TheVariants as places
use Rattle.model_text.specs.Places.{next_place}
use Rattle.model_text.specs.Faults.{Found, found, sooner, first_fault, with_fault}
use Rattle.model_text.specs.Traces.{Known, Trace, At, Outcome, Whole, Refused, behind, symbol_at, next_at, traced, ended, refused, whole, moved, judged, fault_at, fault_before}
use Rattle.model_text.proofs.SortForms.{go}
use Rattle.model_text.proofs.Runs.{Stand, stand}
use Rattle.model_text.proofs.AnswerForms.{step_to, run}

-- ---- the order of faults

pub record NoLater (a b : Found) : Type 0 where
  pub line : a.line ≤ b.line
  pub rank : a.line ≡ b.line → fault_rank a.fault ≤ fault_rank b.fault

pub no_later : (a b c : Found) → NoLater a b → NoLater b c → NoLater a c
no_later a b c h k = record {
  line = omega (arith, h.line, k.line);
  rank = λ e.
      let first = h.rank (omega (arith, h.line, k.line, e)) in
      let second = k.rank (omega (arith, h.line, k.line, e)) in omega (arith, first, second);
}

pub itself : (a : Found) → NoLater a a
itself a = record { line = omega arith; rank = λ e. omega arith }

other_first : (m n r s : ℕ) → (nat_lt n m || ((n == m) && nat_lt s r)) ≡ true → (n ≤ m) × (n ≡ m → s ≤ r)
other_first m n r s h = (grind (arith, nat_tests), λ e. grind (arith, nat_tests))

this_first : (m n r s : ℕ) → (nat_lt n m || ((n == m) && nat_lt s r)) ≡ false → (m ≤ n) × (m ≡ n → r ≤ s)
this_first m n r s h = (grind (arith, nat_tests), λ e. grind (arith, nat_tests))

sooner_both : (a b : Found) → NoLater (sooner a b) a × NoLater (sooner a b) b
sooner_both a b = by (nat_lt b.line a.line || ((b.line == a.line) && nat_lt (fault_rank b.fault) (fault_rank a.fault))) refl
  where
    by : (t : Bool) → (nat_lt b.line a.line || ((b.line == a.line) && nat_lt (fault_rank b.fault) (fault_rank a.fault))) ≡ t →
        NoLater (if t then b else a) a × NoLater (if t then b else a) b
    by true h = let p = other_first a.line b.line (fault_rank a.fault) (fault_rank b.fault) h in (record { line = p.0; rank = p.1 }, itself b)
    by false h = let p = this_first a.line b.line (fault_rank a.fault) (fault_rank b.fault) h in (itself a, record { line = p.0; rank = p.1 })

-- a fault is kept that is no later
abbrev pub KeptBelow : Option Found → Found → Type 0
KeptBelow None b = ⊥
KeptBelow (Some a) b = NoLater a b

pub kept_before : (k : Option Found) (o : Option ModelFault) (n : ℕ) (b : Found) → KeptBelow k b → KeptBelow (with_fault o n k) b
kept_before k None n b h = h
kept_before None (Some f) n b h = absurd h
kept_before (Some a) (Some f) n b h = no_later (sooner a (found n f)) a b (sooner_both a (found n f)).0 h

pub kept_new : (k : Option Found) (f : ModelFault) (n : ℕ) → KeptBelow (with_fault (Some f) n k) (found n f)
kept_new None f n = itself (found n f)
kept_new (Some a) f n = (sooner_both a (found n f)).1

pub first_below : (k : Option Found) (b : Found) → NoLater (first_fault k b) b
first_below None b = itself b
first_below (Some a) b = (sooner_both a b).1

first_before : (k : Option Found) (b c : Found) → KeptBelow k c → NoLater (first_fault k b) c
first_before None b c h = absurd h
first_before (Some a) b c h = no_later (sooner a b) a c (sooner_both a b).0 h

-- what is kept is one of the faults that were met
pub kept_one : (P : Found → Type 0) (k : Option Found) (o : Option ModelFault) (n : ℕ) (a : Found) → ((b : Found) → k ≡ Some b → P b) →
    ((f : ModelFault) → o ≡ Some f → P (found n f)) → with_fault o n k ≡ Some a → P a
kept_one P k None n a old new e = old a e
kept_one P None (Some f) n a old new e = let same : found n f ≡ a = cc in subst P same (new f refl)
kept_one P (Some b) (Some f) n a old new e =
    let same : sooner b (found n f) ≡ a = cc in
    subst P same (by (nat_lt n b.line || ((n == b.line) && nat_lt (fault_rank f) (fault_rank b.fault))))
  where
    by : (t : Bool) → P (if t then found n f else b)
    by true = new f refl
    by false = old b refl

pub first_one : (P : Found → Type 0) (k : Option Found) (b : Found) → ((a : Found) → k ≡ Some a → P a) → P b → P (first_fault k b)
first_one P None b old new = new
first_one P (Some a) b old new = by (nat_lt b.line a.line || ((b.line == a.line) && nat_lt (fault_rank b.fault) (fault_rank a.fault)))
  where
    by : (t : Bool) → P (if t then b else a)
    by true = new
    by false = old a refl

pub none_kept : (k : Option Found) (o : Option ModelFault) (n : ℕ) → with_fault o n k ≡ None → (k ≡ None) × (o ≡ None)
none_kept k None n e = (e, refl)
none_kept None (Some f) n e = absurd (cc)
none_kept (Some a) (Some f) n e = absurd (cc)

-- ---- runs

abbrev pub at : Place → Trace → ℕ → Option Found → At
at p tr b k = record { place = p; trace = tr; begun = b; kept = k }

abbrev pub at_run : Known → At → List Placed → Option At
at_run known s [] = Some s
at_run known s (t ∷ ts) = go (next_at known s t) (λ n. at_run known n ts)

-- the answer is refused, with a fault no later
abbrev pub Below : Outcome → Found → Type 0
Below (Whole ds) b = ⊥
Below (Refused a) b = NoLater a b

pub ended_by : (P : Outcome → Type 0) (last : ℕ) (s : At) (p : Place) → (p ≡ places.Done → P (whole s.kept s.trace.definitions)) →
    (p ≢ places.Done → P (refused s last)) → P (ended last s p)
ended_by P last s places.Done h k = h refl
ended_by P last s places.Start h k = k (λ e. cc)
ended_by P last s places.Sat h k = k (λ e. cc)
ended_by P last s (places.List first) h k = k (λ e. cc)
ended_by P last s places.Begun h k = k (λ e. cc)
ended_by P last s places.Name h k = k (λ e. cc)
ended_by P last s (places.Passing d) h k = k (λ e. cc)
ended_by P last s places.Arguments h k = k (λ e. cc)
ended_by P last s places.NoArguments h k = k (λ e. cc)
ended_by P last s (places.Sort q) h k = k (λ e. cc)
ended_by P last s (places.Value d) h k = k (λ e. cc)
ended_by P last s (places.Opened d) h k = k (λ e. cc)
ended_by P last s (places.As d) h k = k (λ e. cc)
ended_by P last s (places.Const d) h k = k (λ e. cc)
ended_by P last s (places.ConstSort d q) h k = k (λ e. cc)
ended_by P last s (places.ConstClose d) h k = k (λ e. cc)
ended_by P last s (places.Bits role d q) h k = k (λ e. cc)
ended_by P last s (places.FillClose d) h k = k (λ e. cc)
ended_by P last s (places.StoreClose d) h k = k (λ e. cc)
ended_by P last s places.Closing h k = k (λ e. cc)

module _ (known : Known) where
  -- a step is to a next place
  pub step_at : (s : At) (t : Placed) (n : At) → next_at known s t ≡ Some n →
      (q : Place) × (next_place (is_some (symbol_at known s.place t.token)) s.place t.token ≡ Some q) × (behind s (symbol_at known s.place t.token) t q ≡ n)
  step_at s t n e = by (next_place (is_some (symbol_at known s.place t.token)) s.place t.token) refl e
    where
      by : (o : Option Place) → next_place (is_some (symbol_at known s.place t.token)) s.place t.token ≡ o →
          option_map (behind s (symbol_at known s.place t.token) t) o ≡ Some n →
          (q : Place) × (next_place (is_some (symbol_at known s.place t.token)) s.place t.token ≡ Some q) × (behind s (symbol_at known s.place t.token) t q ≡ n)
      by None f g = absurd (cc)
      by (Some q) f g = (q, f, cc)

  kept_step : (s : At) (t : Placed) (n : At) (b : Found) → next_at known s t ≡ Some n → KeptBelow s.kept b → KeptBelow n.kept b
  kept_step s t n b e h =
      let r = step_at s t n e in
      let next = behind s (symbol_at known s.place t.token) t r.0 in
      subst (λ (z : At). KeptBelow z.kept b) r.2 (kept_before s.kept (fault_at s.place (symbol_at known s.place t.token) r.0 next.trace) next.begun b h)

  at_append : (ts us : List Placed) (s : At) → at_run known s (ts ++ us) ≡ go (at_run known s ts) (λ n. at_run known n us)
  at_append [] us s = refl
  at_append (t ∷ ts) us s = by (next_at known s t) (λ n. at_append ts us n)
    where
      by : (o : Option At) → ((n : At) → at_run known n (ts ++ us) ≡ go (at_run known n ts) (λ m. at_run known m us)) →
          go o (λ n. at_run known n (ts ++ us)) ≡ go (go o (λ n. at_run known n ts)) (λ n. at_run known n us)
      by None ih = refl
      by (Some n) ih = ih n

  -- one run behind another
  pub at_then : (ts us : List Placed) (s n : At) (o : Option At) → at_run known s ts ≡ Some n → at_run known n us ≡ o → at_run known s (ts ++ us) ≡ o
  at_then ts us s n o h k = at_append ts us s ∙ ap (λ (z : Option At). go z (λ m. at_run known m us)) h ∙ k

  -- a run of the first tokens, where one of all is
  pub at_front : (ts us : List Placed) (s n : At) → at_run known s (ts ++ us) ≡ Some n → (m : At) × (at_run known s ts ≡ Some m) × (at_run known m us ≡ Some n)
  at_front ts us s n h = by (at_run known s ts) refl (sym (at_append ts us s) ∙ h)
    where
      by : (o : Option At) → at_run known s ts ≡ o → go o (λ m. at_run known m us) ≡ Some n → (m : At) × (at_run known s ts ≡ Some m) × (at_run known m us ≡
          Some n)
      by None e f = absurd (cc)
      by (Some m) e f = (m, e, f)

  -- the tokens decide where a run comes to
  pub runs : (ts : List Placed) (s : At) (st : Stand) → run known s.place s.trace (bare ts) ≡ Some st →
      (n : At) × (at_run known s ts ≡ Some n) × (n.place ≡ st.place) × (n.trace ≡ st.trace)
  runs [] s st h = let e : stand s.place s.trace ≡ st = cc in (s, refl, ap (λ (z : Stand). z.place) e, ap (λ (z : Stand). z.trace) e)
  runs (t ∷ ts) s st h =
      by (next_place (is_some (symbol_at known s.place t.token)) s.place t.token) h (λ q f. runs ts (behind s (symbol_at known s.place t.token) t q) st f)
    where
      by : (o : Option Place) → go (step_to known s.place s.trace t.token o) (λ x. run known x.place x.trace (bare ts)) ≡ Some st →
          ((q : Place) → run known q (traced s.place (symbol_at known s.place t.token) t.token s.trace) (bare ts) ≡ Some st → (n : At)
          × (at_run known (behind s (symbol_at known s.place t.token) t q) ts ≡ Some n) × (n.place ≡ st.place) × (n.trace ≡ st.trace)) →
          (n : At) × (go (option_map (behind s (symbol_at known s.place t.token) t) o) (λ m. at_run known m ts) ≡ Some n) × (n.place ≡ st.place)
          × (n.trace ≡ st.trace)
      by None f ih = absurd (cc)
      by (Some q) f ih = ih q f

  -- what is judged behind a run
  pub judged_behind : (last : ℕ) (ts us : List Placed) (s n : At) → at_run known s ts ≡ Some n → judged known last s (ts ++ us) ≡ judged known last n us
  unfolding judged
  judged_behind last [] us s n h = let e : s ≡ n = cc in ap (λ (z : At). judged known last z us) e
  judged_behind last (t ∷ ts) us s n h = by (next_at known s t) h (λ m e. judged_behind last ts us m n e)
    where
      by : (o : Option At) → go o (λ m. at_run known m ts) ≡ Some n →
          ((m : At) → at_run known m ts ≡ Some n → judged known last m (ts ++ us) ≡ judged known last n us) →
          moved o (λ m. judged known last m (ts ++ us)) (refused s t.line) ≡ judged known last n us
      by None e ih = absurd (cc)
      by (Some m) e ih = ih m e

  refused_below : (s : At) (line : ℕ) (b : Found) → KeptBelow s.kept b → Below (refused s line) b
  refused_below s line b h = first_before s.kept (found line (fault_before s.place)) b h

  whole_below : (k : Option Found) (ds : List Definition) (b : Found) → KeptBelow k b → Below (whole k ds) b
  whole_below None ds b h = absurd h
  whole_below (Some a) ds b h = h

  -- a fault that was met is not forgotten
  pub judged_below : (last : ℕ) (ts : List Placed) (s : At) (b : Found) → KeptBelow s.kept b → Below (judged known last s ts) b
  unfolding judged
  judged_below last [] s b h =
      ended_by (λ o. Below o b) last s s.place (λ _. whole_below s.kept s.trace.definitions b h) (λ _. refused_below s last b h)
  judged_below last (t ∷ ts) s b h = by (next_at known s t) refl (λ n e. judged_below last ts n b (kept_step s t n b e h))
    where
      by : (o : Option At) → next_at known s t ≡ o → ((n : At) → next_at known s t ≡ Some n → Below (judged known last n ts) b) →
          Below (moved o (λ m. judged known last m ts) (refused s t.line)) b
      by None e ih = refused_below s t.line b h
      by (Some n) e ih = ih n e

  -- ---- what is judged, step by step

  pub judged_on : (last : ℕ) (s n : At) (t : Placed) (ts : List Placed) → next_at known s t ≡ Some n → judged known last s (t ∷ ts) ≡ judged known last n ts
  unfolding judged
  judged_on last s n t ts e = ap (λ (o : Option At). moved o (λ m. judged known last m ts) (refused s t.line)) e

  pub judged_stop : (last : ℕ) (s : At) (t : Placed) (ts : List Placed) → next_at known s t ≡ None → judged known last s (t ∷ ts) ≡ refused s t.line
  unfolding judged
  judged_stop last s t ts e = ap (λ (o : Option At). moved o (λ m. judged known last m ts) (refused s t.line)) e

  pub judged_early : (last : ℕ) (s : At) → s.place ≢ places.Done → judged known last s [] ≡ refused s last
  unfolding judged
  judged_early last s other = ended_by (λ o. o ≡ refused s last) last s s.place (λ e. absurd (other e)) (λ _. refl)

  pub judged_whole : (last : ℕ) (s : At) → s.place ≡ places.Done → judged known last s [] ≡ whole s.kept s.trace.definitions
  unfolding judged
  judged_whole last s e = ap (ended last s) e
