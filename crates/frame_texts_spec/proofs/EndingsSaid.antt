-- What a first line says is what is written of it, and can be written.
use Rattle.std.proofs.Common.{◌≡◌, ℕ, ◌-◌, ◌^◌, ◌<◌, ◌≤◌, refl, ap, sym, ◌∙◌, subst, arith, Bool, true, false, List, [], ◌∷◌, ◌++◌, Option, Some, None}
use Rattle.std.specs.Prelude.{codes, is_some, if◌then◌else◌}
use Rattle.std.specs.Option.{option_map}
use Rattle.std.specs.Str.{bytes_eq}
use Rattle.std.proofs.lemmas.Slice.Eq.{bytes_eq-Decides}
use Rattle.word_spec.specs.Texts.{at_most, decimal_word, hex_word, joined, number_text, words_in}
use Rattle.machine_spec.specs.Endings.{Event, AssertFails, FetchFails, NoRow, HalfwordFails, CodeWritten, Trapped, AlignFails, JumpFails, EnsureFails, NamedEnding, FailsBy, UnknownBy, event_words, named_words, place_words}
use Rattle.machine_spec.specs.StateText.{IsEvent, IsNamed, Layout, StateLine, NamedLine, MachineLine, RegisterLine, ByteLine, ChoiceLine, EndLine, after_unknown, event_of_line, event_of_word, last_step, line_of, place_of, unknown_line}
use Rattle.machine_spec.proofs.StateSaid.{joined_words, line_said}
use Rattle.frame_spec.specs.Frames.{FrameEvent, OfStep, InvariantFails, NeedsFails, WritesFails, GivesFails, ModifiesFails}
use Rattle.frame_texts_spec.specs.FrameTexts.{FramedEnding, FramedFails, FramedTurns, NotInductiveBy, IsFrameEvent, IsFramedEnding, after_not, any_line, any_word, ending_after, ending_at, ending_of, ending_words, first_of, frame_event_words, frame_line, frame_word, framed, named_in, new_ending}
use Rattle.frame_texts_spec.specs.CallTexts.{CallChecks, CallEnding, ContractFrame, EntryFrame, FrameName, IsCallEnding, IsFrameName, Plain, after_frame, call_ending_of, call_ending_words, contract_name, frame_in, name_word, unproved, unproved_by, unproved_ending}
use Rattle.frame_texts_spec.proofs.WordsSaid.{IsPlaceSaid, bounded_is, hex_is, none_is, number_is, place_is, some_is, test_is, word_case}

-- ---- events

-- the words are an event's, which can be written
pub record IsEventSaid (ws : List (List ℕ)) (e : FrameEvent) : Type 0 where
  pub words : ws ≡ frame_event_words e
  pub event : IsFrameEvent e

-- a word that is one of an event
plain_said : (w n : List ℕ) (d e : FrameEvent) → w ≡ n → n ∷ [] ≡ frame_event_words d → IsFrameEvent d → ◌≡◌ {A = Option FrameEvent} (Some d) (Some e) →
    IsEventSaid (w ∷ []) e
plain_said w n d e is words event same =
    subst (IsEventSaid (w ∷ [])) (some_is d e same) (record { words = ap (λ x. x ∷ []) is ∙ words; event = event })

-- a word and a number
line_said_by : (w n m : List ℕ) (k : ℕ) (d e : FrameEvent) → w ≡ n → m ≡ number_text k → n ∷ number_text k ∷ [] ≡ frame_event_words d → IsFrameEvent d →
    ◌≡◌ {A = Option FrameEvent} (Some d) (Some e) → IsEventSaid (w ∷ m ∷ []) e
line_said_by w n m k d e is number words event same =
    subst (IsEventSaid (w ∷ m ∷ [])) (some_is d e same)
    (record { words = ap (λ x. x ∷ m ∷ []) is ∙ ap (λ x. n ∷ x ∷ []) number ∙ words; event = event })

step_word_said : (w : List ℕ) (d : Event) → event_of_word w ≡ Some d → IsEventSaid (w ∷ []) (OfStep d)
step_word_said w d h =
    word_case w (codes "fetch") (Some FetchFails) _ d h (λ is e. by is FetchFails refl tt e) (λ h.
    word_case w (codes "norow") (Some NoRow) _ d h (λ is e. by is NoRow refl tt e) (λ h.
    word_case w (codes "halfword") (Some HalfwordFails) _ d h (λ is e. by is HalfwordFails refl tt e) (λ h.
    word_case w (codes "codewrite") (Some CodeWritten) _ d h (λ is e. by is CodeWritten refl tt e) (λ h.
    word_case w (codes "trap") (Some Trapped) _ d h (λ is e. by is Trapped refl tt e) (λ h.
    word_case w (codes "align") (Some AlignFails) _ d h (λ is e. by is AlignFails refl tt e) (λ h.
    word_case w (codes "jump") (Some JumpFails) None d h (λ is e. by is JumpFails refl tt e) (λ h. none_is d h)))))))
  where
    by : {n : List ℕ} → w ≡ n → (x : Event) → n ∷ [] ≡ event_words x → IsEvent x → ◌≡◌ {A = Option Event} (Some x) (Some d) → IsEventSaid (w ∷ []) (OfStep d)
    by {n = n} is x words event e = plain_said w n (OfStep x) (OfStep d) is words event (ap (option_map OfStep) e)

-- an event of frames alone
frame_word_said : (w : List ℕ) (e : FrameEvent) → frame_word w ≡ Some e → IsEventSaid (w ∷ []) e
frame_word_said w e h =
    word_case w (codes "writes") (Some WritesFails) _ e h (λ is same. plain_said w (codes "writes") WritesFails e is refl tt same) (λ h.
    word_case w (codes "modifies") (Some ModifiesFails) None e h (λ is same. plain_said w (codes "modifies") ModifiesFails e is refl tt same) (λ h. none_is e h))

-- an event that one of two says
either_said : {ws : List (List ℕ)} (o : Option Event) (p : Option FrameEvent) (e : FrameEvent) → ((d : Event) → o ≡ Some d → IsEventSaid ws (OfStep d)) →
    (p ≡ Some e → IsEventSaid ws e) → first_of (option_map OfStep o) p ≡ Some e → IsEventSaid ws e
either_said {ws = ws} (Some d) p e left right h = subst (IsEventSaid ws) (some_is (OfStep d) e h) (left d refl)
either_said None p e left right h = right h

any_word_said : (w : List ℕ) (e : FrameEvent) → any_word w ≡ Some e → IsEventSaid (w ∷ []) e
any_word_said w e h = either_said (event_of_word w) (frame_word w) e (step_word_said w) (frame_word_said w e) h

-- a line of notes, by its number
step_line_said : (w m : List ℕ) (o : Option ℕ) (d : Event) → at_most (2 ^ 64 - 1) (decimal_word m) ≡ o → event_of_line w o ≡ Some d →
    IsEventSaid (w ∷ m ∷ []) (OfStep d)
step_line_said w m None d number h = none_is d h
step_line_said w m (Some k) d number h =
    let said = number_is m k number in
    word_case w (codes "assert") (Some (AssertFails k)) _ d h (λ is e.
    line_said_by w (codes "assert") m k (OfStep (AssertFails k)) (OfStep d) is said.0 refl said.1 (ap (option_map OfStep) e)) (λ h.
    word_case w (codes "ensure") (Some (EnsureFails k)) None d h (λ is e.
    line_said_by w (codes "ensure") m k (OfStep (EnsureFails k)) (OfStep d) is said.0 refl said.1 (ap (option_map OfStep) e)) (λ h. none_is d h))

frame_line_said : (w m : List ℕ) (o : Option ℕ) (e : FrameEvent) → at_most (2 ^ 64 - 1) (decimal_word m) ≡ o → frame_line w o ≡ Some e →
    IsEventSaid (w ∷ m ∷ []) e
frame_line_said w m None e number h = none_is e h
frame_line_said w m (Some k) e number h =
    let said = number_is m k number in
    word_case w (codes "invariant") (Some (InvariantFails k)) _ e h (λ is same.
    line_said_by w (codes "invariant") m k (InvariantFails k) e is said.0 refl said.1 same) (λ h.
    word_case w (codes "needs") (Some (NeedsFails k)) _ e h (λ is same.
    line_said_by w (codes "needs") m k (NeedsFails k) e is said.0 refl said.1 same) (λ h.
    word_case w (codes "gives") (Some (GivesFails k)) None e h (λ is same.
    line_said_by w (codes "gives") m k (GivesFails k) e is said.0 refl said.1 same) (λ h. none_is e h)))

any_line_said : (w m : List ℕ) (e : FrameEvent) → any_line w (at_most (2 ^ 64 - 1) (decimal_word m)) ≡ Some e → IsEventSaid (w ∷ m ∷ []) e
any_line_said w m e h =
    let o = at_most (2 ^ 64 - 1) (decimal_word m) in
    either_said (event_of_line w o) (frame_line w o) e (λ d k. step_line_said w m o d refl k) (frame_line_said w m o e refl) h

-- ---- an event at a place

-- the words are an event's and a place's, and make the ending
pub record IsEndingSaid (ending : FrameEvent → ℕ → ℕ → FramedEnding) (ws : List (List ℕ)) (n : FramedEnding) : Type 0 where
  pub event : FrameEvent
  pub at : ℕ
  pub step : ℕ
  pub is : ending event at step ≡ n
  pub words : ws ≡ frame_event_words event ++ place_words at step
  pub is_event : IsFrameEvent event
  pub small : (at < 2 ^ 32) × (step ≤ last_step)

module _ (ending : FrameEvent → ℕ → ℕ → FramedEnding) where
  at_place_said : (us place : List (List ℕ)) (o : Option FrameEvent) (q : Option (ℕ × ℕ)) (n : FramedEnding) → ((e : FrameEvent) → o ≡ Some e → IsEventSaid us e) →
      ((p : ℕ × ℕ) → q ≡ Some p → IsPlaceSaid place p) → ending_at ending o q ≡ Some n → IsEndingSaid ending (us ++ place) n
  at_place_said us place None q n event said h = none_is n h
  at_place_said us place (Some e) None n event said h = none_is n h
  at_place_said us place (Some e) (Some p) n event said h =
      let here = event e refl in
      let there = said p refl in
      record {
        event = e;
        at = p.0;
        step = p.1;
        is = some_is (ending e p.0 p.1) n h;
        words = ap (λ (x : List (List ℕ)). x ++ place) here.words ∙ ap (λ (x : List (List ℕ)). frame_event_words e ++ x) there.words;
        is_event = here.event;
        small = (there.at, there.step);
      }

  pub after_said : (word : List ℕ → Option FrameEvent) (line : List ℕ → Option ℕ → Option FrameEvent) (ws : List (List ℕ)) (n : FramedEnding) →
      ((w : List ℕ) (e : FrameEvent) → word w ≡ Some e → IsEventSaid (w ∷ []) e) →
      ((w m : List ℕ) (e : FrameEvent) → line w (at_most (2 ^ 64 - 1) (decimal_word m)) ≡ Some e → IsEventSaid (w ∷ m ∷ []) e) →
      ending_after ending word line ws ≡ Some n → IsEndingSaid ending ws n
  after_said word line [] n words lines h = none_is n h
  after_said word line (a ∷ []) n words lines h = none_is n h
  after_said word line (a ∷ b ∷ []) n words lines h = none_is n h
  after_said word line (a ∷ b ∷ c ∷ []) n words lines h = none_is n h
  after_said word line (a ∷ b ∷ c ∷ d ∷ []) n words lines h = none_is n h
  after_said word line (x ∷ at ∷ a ∷ step ∷ k ∷ []) n words lines h =
      at_place_said (x ∷ []) (at ∷ a ∷ step ∷ k ∷ []) (word x) (place_of at a step k) n (words x) (place_is at a step k) h
  after_said word line (x ∷ m ∷ at ∷ a ∷ step ∷ k ∷ []) n words lines h =
      at_place_said (x ∷ m ∷ []) (at ∷ a ∷ step ∷ k ∷ []) (line x (at_most (2 ^ 64 - 1) (decimal_word m))) (place_of at a step k) n (lines x m)
      (place_is at a step k) h
  after_said word line (a ∷ b ∷ c ∷ d ∷ e ∷ f ∷ g ∷ rest) n words lines h = none_is n h

-- ---- endings of texts without contracts

-- the words are an ending's, which can be written
pub record IsFramedSaid (ws : List (List ℕ)) (n : FramedEnding) : Type 0 where
  pub words : ws ≡ ending_words n
  pub ending : IsFramedEnding n

fails_said : (w : List ℕ) (ws : List (List ℕ)) (n : FramedEnding) → w ≡ codes "fails" → IsEndingSaid FramedFails ws n → IsFramedSaid (w ∷ ws) n
fails_said w ws n is said =
    subst (IsFramedSaid (w ∷ ws)) said.is
    (record {
      words = ap (λ x. x ∷ ws) is ∙ ap (λ (x : List (List ℕ)). codes "fails" ∷ x) said.words;
      ending = (said.is_event, said.small.0, said.small.1);
    })

not_said : (w v : List ℕ) (ws : List (List ℕ)) (n : FramedEnding) → w ≡ codes "not" → v ≡ codes "inductive" → IsEndingSaid NotInductiveBy ws n →
    IsFramedSaid (w ∷ v ∷ ws) n
not_said w v ws n is also said =
    subst (IsFramedSaid (w ∷ v ∷ ws)) said.is
    (record {
      words = ap (λ x. x ∷ v ∷ ws) is ∙ ap (λ x. codes "not" ∷ x ∷ ws) also ∙ ap (λ (x : List (List ℕ)). codes "not" ∷ codes "inductive" ∷ x) said.words;
      ending = (said.is_event, said.small.0, said.small.1);
    })

after_not_said : (w : List ℕ) (ws : List (List ℕ)) (n : FramedEnding) → w ≡ codes "not" → after_not ws ≡ Some n → IsFramedSaid (w ∷ ws) n
after_not_said w [] n is h = none_is n h
after_not_said w (v ∷ ws) n is h =
    word_case v (codes "inductive") (ending_after NotInductiveBy any_word any_line ws) None n h (λ also e.
    not_said w v ws n is also (after_said NotInductiveBy any_word any_line ws n any_word_said any_line_said e)) (λ h. none_is n h)

new_said : (ws : List (List ℕ)) (n : FramedEnding) → new_ending ws ≡ Some n → IsFramedSaid ws n
new_said [] n h = none_is n h
new_said (w ∷ ws) n h =
    word_case w (codes "fails") (ending_after FramedFails frame_word frame_line ws) _ n h (λ is e.
    fails_said w ws n is
    (after_said FramedFails frame_word frame_line ws n frame_word_said (λ u m x k. frame_line_said u m (at_most (2 ^ 64 - 1) (decimal_word m)) x refl k) e)) (λ h.
    word_case w (codes "not") (after_not ws) None n h (λ is e. after_not_said w ws n is e) (λ h. none_is n h))

-- a first line
pub record IsFirst (text : List ℕ) (n : FramedEnding) : Type 0 where
  pub line : text ≡ joined (ending_words n)
  pub ending : IsFramedEnding n

new_first : (text : List ℕ) (n : FramedEnding) → new_ending (words_in text) ≡ Some n → IsFirst text n
new_first text n h =
    let said = new_said (words_in text) n h in record { line = sym (joined_words text) ∙ ap joined said.words; ending = said.ending }

table_first : (text : List ℕ) (m : NamedEnding) → IsNamed m → text ≡ joined (ending_words (framed m)) → IsFirst text (framed m)
table_first text (FailsBy e at step) named is = record { line = is; ending = named }
table_first text (UnknownBy k at step) named is = record { line = is; ending = named }

table_words : (m : NamedEnding) (text : List ℕ) → IsNamed m → text ≡ joined (named_words m) → IsFirst text (framed m)
table_words (FailsBy e at step) text named is = table_first text (FailsBy e at step) named is
table_words (UnknownBy k at step) text named is = table_first text (UnknownBy k at step) named is

pub first_said : (layout : Layout) (text : List ℕ) (n : FramedEnding) → ending_of layout text ≡ Some n → IsFirst text n
first_said layout text n h = by_line (line_of layout text) refl h
  where
    by_line : (o : Option StateLine) → line_of layout text ≡ o → first_of (option_map framed (named_in o)) (new_ending (words_in text)) ≡ Some n → IsFirst text n
    by_line (Some (NamedLine m)) is h =
        let said = line_said layout text (NamedLine m) is tt in
        subst (IsFirst text) (some_is (framed m) n h) (table_words m text said.0 said.1)
    by_line None is h = new_first text n h
    by_line (Some MachineLine) is h = new_first text n h
    by_line (Some (RegisterLine i v)) is h = new_first text n h
    by_line (Some (ByteLine a v)) is h = new_first text n h
    by_line (Some (ChoiceLine s k)) is h = new_first text n h
    by_line (Some EndLine) is h = new_first text n h

-- ---- endings that only notes with contracts have

-- the words are an event's or a number of backward transfers', after a frame
pub record IsUnprovedSaid (c : CallChecks) (f : FrameName) (ws : List (List ℕ)) (n : FramedEnding) : Type 0 where
  pub words : codes "unproved" ∷ name_word f ∷ ws ≡ call_ending_words (unproved f n)
  pub ending : IsFrameName c f → IsCallEnding c (unproved f n)

turns_said : (c : CallChecks) (f : FrameName) (u k at a step x : List ℕ) (o : Option ℕ) (q : Option (ℕ × ℕ)) (n : FramedEnding) → u ≡ codes "unroll" →
    at_most 4096 (decimal_word k) ≡ o → place_of at a step x ≡ q → option_map framed (named_in (unknown_line o q)) ≡ Some n →
    IsUnprovedSaid c f (u ∷ k ∷ at ∷ a ∷ step ∷ x ∷ []) n
turns_said c f u k at a step x None q n is number place h = none_is n h
turns_said c f u k at a step x (Some j) None n is number place h = none_is n h
turns_said c f u k at a step x (Some j) (Some p) n is number place h =
    let turns = bounded_is 4096 k j (omega arith) number in
    let there = place_is at a step x p place in
    let line = codes "unproved" ∷ name_word f ∷ [] in
    subst (IsUnprovedSaid c f (u ∷ k ∷ at ∷ a ∷ step ∷ x ∷ [])) (some_is (FramedTurns j p.0 p.1) n h)
    (record {
      words =
          ap (λ y. codes "unproved" ∷ name_word f ∷ y ∷ k ∷ at ∷ a ∷ step ∷ x ∷ []) is
          ∙ ap (λ y. codes "unproved" ∷ name_word f ∷ codes "unroll" ∷ y ∷ at ∷ a ∷ step ∷ x ∷ []) turns.0
          ∙ ap (λ (y : List (List ℕ)). codes "unproved" ∷ name_word f ∷ codes "unroll" ∷ number_text j ∷ y) there.words;
      ending = λ named. (named, turns.1, there.at, there.step);
    })

event_said : (c : CallChecks) (f : FrameName) (ws : List (List ℕ)) (n : FramedEnding) → IsEndingSaid FramedFails ws n → IsUnprovedSaid c f ws n
event_said c f ws n said =
    subst (IsUnprovedSaid c f ws) said.is
    (record {
      words = ap (λ (y : List (List ℕ)). codes "unproved" ∷ name_word f ∷ y) said.words;
      ending = λ named. (named, said.is_event, said.small.0, said.small.1);
    })

module _ (c : CallChecks) (f : FrameName) where
  unroll_said : (ws : List (List ℕ)) (n : FramedEnding) → option_map framed (named_in (after_unknown ws)) ≡ Some n → IsUnprovedSaid c f ws n
  unroll_said [] n h = none_is n h
  unroll_said (a ∷ []) n h = none_is n h
  unroll_said (a ∷ b ∷ []) n h = none_is n h
  unroll_said (a ∷ b ∷ d ∷ []) n h = none_is n h
  unroll_said (a ∷ b ∷ d ∷ e ∷ []) n h = none_is n h
  unroll_said (a ∷ b ∷ d ∷ e ∷ g ∷ []) n h = none_is n h
  unroll_said (u ∷ k ∷ at ∷ a ∷ step ∷ x ∷ []) n h = by_word (bytes_eq u (codes "unroll")) refl h
    where
      by_word : (t : Bool) → bytes_eq u (codes "unroll") ≡ t →
          option_map framed (named_in (if t then unknown_line (at_most 4096 (decimal_word k)) (place_of at a step x) else None)) ≡ Some n →
          IsUnprovedSaid c f (u ∷ k ∷ at ∷ a ∷ step ∷ x ∷ []) n
      by_word true is h =
          turns_said c f u k at a step x (at_most 4096 (decimal_word k)) (place_of at a step x) n ((bytes_eq-Decides u (codes "unroll")).0 is) refl refl h
      by_word false is h = none_is n h
  unroll_said (a ∷ b ∷ d ∷ e ∷ g ∷ i ∷ j ∷ rest) n h = none_is n h

  after_frame_said : (ws : List (List ℕ)) (n : FramedEnding) → after_frame ws ≡ Some n → IsUnprovedSaid c f ws n
  after_frame_said ws n h = by_event (ending_after FramedFails any_word any_line ws) refl h
    where
      by_event : (o : Option FramedEnding) → ending_after FramedFails any_word any_line ws ≡ o →
          first_of o (option_map framed (named_in (after_unknown ws))) ≡ Some n → IsUnprovedSaid c f ws n
      by_event (Some m) is h =
          event_said c f ws n (after_said FramedFails any_word any_line ws n any_word_said any_line_said (is ∙ h))
      by_event None is h = unroll_said ws n h

-- a frame by its word
frame_said : (c : CallChecks) (w : List ℕ) (f : FrameName) → frame_in c.changes w ≡ Some f → (w ≡ name_word f) × IsFrameName c f
frame_said c w f h =
    word_case w (codes "entry") (Some EntryFrame) _ f h
    (λ is e. subst (λ (x : FrameName). (w ≡ name_word x) × IsFrameName c x) (some_is EntryFrame f e) (is, tt))
    (λ e. of_contract (hex_word 8 w) refl e)
  where
    of_contract : (o : Option ℕ) → hex_word 8 w ≡ o → contract_name c.changes o ≡ Some f → (w ≡ name_word f) × IsFrameName c f
    of_contract None is e = none_is f e
    of_contract (Some a) is e =
        let said = hex_is w a is in
        let there = test_is (is_some (c.changes a)) (ContractFrame a) f e in
        subst (λ (x : FrameName). (w ≡ name_word x) × IsFrameName c x) there.1 (said.0, (said.1, there.0))

-- a first line
pub record IsCallFirst (c : CallChecks) (text : List ℕ) (n : CallEnding) : Type 0 where
  pub line : text ≡ joined (call_ending_words n)
  pub ending : IsCallEnding c n

unproved_said : (c : CallChecks) (ws : List (List ℕ)) (n : CallEnding) → unproved_ending c.changes ws ≡ Some n → (ws ≡ call_ending_words n) × IsCallEnding c n
unproved_said c [] n h = none_is n h
unproved_said c (w ∷ []) n h = none_is n h
unproved_said c (w ∷ f ∷ ws) n h =
    word_case w (codes "unproved") (unproved_by (frame_in c.changes f) (after_frame ws)) None n h
    (λ is e. by_frame (frame_in c.changes f) (after_frame ws) refl refl is e) (λ e. none_is n e)
  where
    by_frame : (o : Option FrameName) (m : Option FramedEnding) → frame_in c.changes f ≡ o → after_frame ws ≡ m → w ≡ codes "unproved" →
        unproved_by o m ≡ Some n → (w ∷ f ∷ ws ≡ call_ending_words n) × IsCallEnding c n
    by_frame None m named after is e = none_is n e
    by_frame (Some x) None named after is e = none_is n e
    by_frame (Some x) (Some m) named after is e =
        let frame = frame_said c f x named in
        let said = after_frame_said c x ws m after in
        subst (λ (z : CallEnding). (w ∷ f ∷ ws ≡ call_ending_words z) × IsCallEnding c z) (some_is (unproved x m) n e)
        (ap (λ y. y ∷ f ∷ ws) is ∙ ap (λ y. codes "unproved" ∷ y ∷ ws) frame.0 ∙ said.words, said.ending frame.1)

pub call_first_said : (layout : Layout) (c : CallChecks) (text : List ℕ) (n : CallEnding) → call_ending_of layout c.changes text ≡ Some n → IsCallFirst c text n
call_first_said layout c text n h = by_table (ending_of layout text) refl h
  where
    by_table : (o : Option FramedEnding) → ending_of layout text ≡ o → first_of (option_map Plain o) (unproved_ending c.changes (words_in text)) ≡ Some n →
        IsCallFirst c text n
    by_table (Some m) is h =
        let said = first_said layout text m is in
        subst (IsCallFirst c text) (some_is (Plain m) n h) (record { line = said.line; ending = said.ending })
    by_table None is h =
        let said = unproved_said c (words_in text) n h in record { line = sym (joined_words text) ∙ ap joined said.0; ending = said.1 }
