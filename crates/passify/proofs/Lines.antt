-- Lines that are tried one by one.
use Rattle.std.proofs.Common.{◌≡◌, ℕ, zero, suc, ◌+◌, ◌*◌, ◌<◌, ◌≤◌, Bool, true, false, List, [], ◌∷◌, ◌++◌, Contains, take, length, refl, ap, sym, ◌∙◌, subst, arith, drop, get_or}
use Rattle.std.specs.Prelude.{not, if◌then◌else◌, map, Option, Some}
use Rattle.std.proofs.lemmas.List.{get_or-map, length-map, map-append, take_more}
use Rattle.std.proofs.lemmas.List.Sums.{sum_by-cons}
use Rattle.word_spec.specs.Memory.{endian, Endian}
use Rattle.word_spec.specs.State.{State}
use Rattle.bilv_spec.specs.Notes.{Expr, value, is_true, NoteLine}
use Rattle.machine_spec.specs.Endings.{JumpFails}
use Rattle.bilv_spec.specs.Run.{false_line}
use Rattle.bilv_spec.specs.Points.{line_price, bytes_loaded}
use Rattle.term_spec.specs.Terms.{TermReading, TermNode, HasWidth}
use Rattle.walk_spec.specs.Unrolled.{WalkFails, state_at, carried_of}
use Rattle.walk_spec.specs.Sweep.{Held, held_if, hand}
use Rattle.walk_spec.specs.Prices.{line_size}
use Rattle.frame_spec.specs.Frames.{FrameEvent, GivesFails, content_at, content_of}
use Rattle.frame_spec.specs.FrameWalk.{Check, UnrolledProgram, Aim, ToEvent, PointExit, check_event, false_check, walk_to, out_by}
use Rattle.term_dag.proofs.Growth.{grew_on, grew_none, grew_width, inputs_on, inputs_none}
use Rattle.term_names.specs.declared.names.Names.{Names}
use Rattle.term_names.specs.Views.{AreFor}
use Rattle.term_names.specs.Chosen.{at_entry}
use Rattle.frame_terms.specs.PassiveFrames.{inputs_of}
use Rattle.question_form.specs.declared.unrolled.Unrolled.{Unrolled}
use Rattle.question_form.specs.FrameViews.{frame_unrolled_of}
use Rattle.passify.specs.Handled.{IsSweepOf}
use Rattle.note_terms.specs.declared.Now.{Now}
use Rattle.note_terms.specs.Lines.{IsStateOf}
use Rattle.passify.specs.declared.sweep.Sweep.{Sweep}
use Rattle.passify.specs.Sweeps.{AreWell, AreLike, AreTermsOf, Steps, HasEvent}
use Rattle.passify.specs.Exits.{Tries, Narrows, LineFails}
use Rattle.passify.specs.Plain.{arrived, plain}
use Rattle.passify.specs.Situations.{Situation, IsThere, AreLines, LinesTried, Judging, ChecksTried, goes_checks, goes_out_by, said}
use Rattle.notes_value.specs.Views.{expr_of}
use Rattle.notes_value.specs.declared.notes.NoteLine.{NoteLine as SourceLine}
use Rattle.notes_value.specs.NoteViews.{note_line_of}
use Rattle.passify.proofs.Kept.{word_keeps, denotes_keep, terms_keep}

pub like_on : (a b c : Sweep) → AreLike a b → AreLike b c → AreLike a c
like_on a b c p q = record {
  entry = q.entry ∙ p.entry;
  pc = q.pc ∙ p.pc;
  at = q.at ∙ p.at;
  places = q.places ∙ p.places;
  steps = q.steps ∙ p.steps;
  own = q.own ∙ p.own;
}

-- what is kept of a frame stays so
pub like_sweep : (u : Unrolled) (s z : Sweep) → AreLike s z → IsSweepOf u s → IsSweepOf u z
like_sweep u s z l k = record { form = subst (AreFor (inputs_of (frame_unrolled_of u))) (sym l.entry) k.form; at = l.at ∙ k.at; places = l.places ∙ k.places }

pub steps_on : (a b c : List TermNode) (s t u : Sweep) (more : TermNode → Type 0) (g l st j n g' l' st' j' n' : ℕ) → Steps a b s t g l st j n more →
    Steps b c t u g' l' st' j' n' more →
    Steps a c s u (g + g') (l + l') (st + st') (j + j') (n + n') more
steps_on a b c s t u more g l st j n g' l' st' j' n' p q = record {
  grew = grew_on a b c g l st j n g' l' st' j' n' p.grew q.grew;
  inputs = inputs_on a b c more p.inputs q.inputs;
  well = q.well;
  like = like_on s t u p.like q.like;
}

pub lines_none : (ns : List TermNode) (s : Sweep) (all : List Expr) → AreWell ns s → AreLines ns ns s s all all
lines_none ns s all w = record {
  gates = 0;
  loads = 0;
  nodes = 0;
  steps = record {
    grew = grew_none ns;
    inputs = inputs_none ns (λ m. ⊥);
    well = w;
    like = record { entry = refl; pc = refl; at = refl; places = refl; steps = refl; own = refl };
  };
  few_gates = omega arith;
  few_loads = omega arith;
  few_nodes = omega arith;
}

pub lines_more : (a b c : List TermNode) (s t u : Sweep) (all others : List Expr) (e : Expr) → AreLines a b s t all (e ∷ others) →
    Steps b c t u (line_price e) (bytes_loaded e) 0 0 (4 * (line_size e + 4)) (λ m. ⊥) → AreLines a c s u all others
lines_more a b c s t u all others e p q = record {
  gates = p.gates + line_price e;
  loads = p.loads + bytes_loaded e;
  nodes = p.nodes + 4 * (line_size e + 4);
  steps = steps_on a b c s t u (λ m. ⊥) p.gates p.loads 0 0 p.nodes (line_price e) (bytes_loaded e) 0 0 (4 * (line_size e + 4)) p.steps q;
  few_gates = omega (arith, p.few_gates, sum_by-cons line_price e others);
  few_loads = omega (arith, p.few_loads, sum_by-cons bytes_loaded e others);
  few_nodes = omega (arith, p.few_nodes, sum_by-cons (λ z. line_size z + 4) e others);
}

module _ (old cur new : List TermNode) (s z y : Sweep) (rest left last : ℕ) (big : Bool) (n : Now) (state : Situation →
    State) (all others : List Expr) (e : Expr)
    (goes_all goes_here goes_on : Situation → List PointExit → Held → Held)
    (by : (S : Situation) (tail : List PointExit) (h : Held) →
    goes_here S tail h ≡ held_if (not (is_true (value S.program.endian e (state S) S.entry))) (hand (WalkFails JumpFails) h) (goes_on S tail h))
    (w : AreWell old s) (names : AreTermsOf s.entry old n.names.now) (pc : HasWidth old 32 n.pc.0)
    (k : LinesTried old cur s z rest left big n state all (e ∷ others) goes_all goes_here)
    (steps : Steps cur new z y (line_price e) (bytes_loaded e) 0 0 (4 * (line_size e + 4)) (λ m. ⊥)) (bit : HasWidth new 1 last)
    (tries : Tries cur new z y left last (LineFails cur z big e n) (λ from x v b. HasEvent v)) (narrows : Narrows cur new left last (λ x q. Unit {0})) where
  state_keeps : (x : TermReading) (S : Situation) → IsStateOf old x n (carried_of (state S)) (state S).pc →
      IsStateOf cur x n (carried_of (state S)) (state S).pc
  state_keeps x S i = record {
    carried = denotes_keep k.lines.steps.grew x n.names.now (carried_of (state S)) names.names i.carried;
    pc = word_keeps k.lines.steps.grew x n.pc.0 pc.0 ∙ i.pc;
  }

  fails_by : (x : TermReading) (S : Situation) → IsThere old s big n state x S →
      LineFails cur z big e n x (not (is_true (value S.program.endian e (state S) S.entry)))
  fails_by x S f = record {
    carried = carried_of (state S);
    at = (state S).pc;
    is = state_keeps x S f.is;
    fails = ap (λ (o : Endian). not (is_true (value o e (state S) S.entry))) f.endian ∙ ap
        (λ (q : State). not (is_true (value (endian big) e (state S) q))) (f.entry ∙ ap (state_at (at_entry x)) (sym k.lines.steps.like.at));
  }

  pub line_tried : LinesTried old new s y rest last big n state all others goes_all goes_on
  line_tried = record {
    lines = lines_more old cur new s z y all others e k.lines steps;
    bit = bit;
    tries = λ x r from S fits before after tail pending.
        tries x r from (WalkFails JumpFails) (not (is_true (value S.program.endian e (state S) S.entry))) (λ h. fails_by x S (fits (k.narrows x r h).0))
        (λ b h. (JumpFails, refl)) before after
        (goes_here S tail before) (goes_on S tail before) (by S tail before) (k.tries x r from S fits before after tail pending);
    narrows = λ x r h. k.narrows x r (narrows x r h).0;
  }

pub tried_none : (ns : List TermNode) (s : Sweep) (rest : ℕ) (big : Bool) (n : Now) (state : Situation → State) (all : List Expr) (go : Situation →
    List PointExit → Held → Held) → AreWell ns s → HasWidth ns 1 rest →
    LinesTried ns ns s s rest rest big n state all all go go
tried_none ns s rest big n state all go w b = record {
  lines = lines_none ns s all w;
  bit = b;
  tries = λ x r from S f before after tail p. p;
  narrows = λ x r h. (h, tt);
}

pub event_by : (q : Bool) (u : UnrolledProgram) (entry next : State) (ev : FrameEvent) (a : Aim) (h : Held) →
    hand (plain u entry (walk_to u entry next (if q then ToEvent ev else a))) h
    ≡ held_if q (hand (WalkFails JumpFails) h) (hand (plain u entry (walk_to u entry next a)) h)
event_by true u entry next ev a h = refl
event_by false u entry next ev a h = refl

-- lines are judged at a point by its exits
abbrev pub at_point : Judging
at_point = record {
  state = λ S. S.now;
  goes = goes_checks;
  by = λ x rest S tail h.
      event_by (not (is_true (value S.program.endian x.says S.now S.entry))) S.program S.entry S.next (check_event x) _ h;
}

pub arrival_event : (q : Bool) (x : Check) (o : Option Check) (h : Held) →
    hand (arrived (if q then o else Some x)) h ≡ held_if (not q) (hand (WalkFails JumpFails) h) (hand (arrived o) h)
arrival_event true x o h = refl
arrival_event false x o h = refl

-- and at a head in the state that comes to it
abbrev pub at_head : ℕ → Judging
at_head at = record {
  state = λ S. content_at (content_of S.next) at;
  goes = λ checks S tail h. hand (arrived (false_check S.program.endian checks (content_at (content_of S.next) at) S.entry)) h;
  by = λ x rest S tail h.
      arrival_event (is_true (value S.program.endian x.says (content_at (content_of S.next) at) S.entry)) x
      (false_check S.program.endian rest (content_at (content_of S.next) at) S.entry) h;
}

out_event : (u : UnrolledProgram) (entry : State) (q c : Bool) (line : ℕ) (o : Option ℕ) (h : Held) →
    hand (plain u entry (out_by (if q then o else Some line) GivesFails c)) h
    ≡ held_if (not q) (hand (WalkFails JumpFails) h) (hand (plain u entry (out_by o GivesFails c)) h)
out_event u entry true c line o h = refl
out_event u entry false c line o h = refl

-- an ensure line before others
pub ensure_by : (changed : Situation → Bool) (l : NoteLine) (lines : List NoteLine) (S : Situation) (tail : List PointExit) (h : Held) →
    goes_out_by changed (l ∷ lines) S tail h ≡ held_if (not (is_true (value S.program.endian l.says S.next S.entry))) (hand (WalkFails JumpFails) h)
    (goes_out_by changed lines S tail h)
ensure_by changed l lines S tail h =
    out_event S.program S.entry (is_true (value S.program.endian l.says S.next S.entry)) (changed S) l.line
    (false_line S.program.endian lines S.next S.entry) h

pub at_map : {X Y : Type 0} → (f : X → Y) (xs : List X) (i : ℕ) (x : X) (d : Y) → i < length xs → x ≡ get_or xs i x → get_or (map f xs) i d ≡ f x
at_map f [] i x d l e = absurd (omega arith)
at_map f (y ∷ xs) zero x d l e = ap f (sym e)
at_map f (y ∷ xs) (suc i) x d l e = at_map f xs i x d (omega arith) e

drop_next : {X : Type 0} → (xs : List X) (i : ℕ) (x : X) → i < length xs → x ≡ get_or xs i x → drop i xs ≡ x ∷ drop (suc i) xs
drop_next [] i x l e = absurd (omega arith)
drop_next (y ∷ xs) zero x l e = ap (λ z. z ∷ xs) (sym e)
drop_next (y ∷ xs) (suc i) x l e = drop_next xs i x (omega arith) e

pub drop_here : {X : Type 0} → (xs : List X) (i : ℕ) (x : X) → i < length xs → x ≡ get_or xs i x → drop i xs ≡ x ∷ drop (i + 1) xs
drop_here xs i x l e = drop_next xs i x l e ∙ ap (λ k. x ∷ drop k xs) (let q : suc i ≡ i + 1 = omega arith in q)

pub drop_all : {X : Type 0} → (xs : List X) (i : ℕ) → length xs ≤ i → drop i xs ≡ []
drop_all [] zero l = refl
drop_all [] (suc i) l = refl
drop_all (y ∷ xs) zero l = absurd (omega arith)
drop_all (y ∷ xs) (suc i) l = drop_all xs i (omega arith)

module _ (old cur : List TermNode) (s z : Sweep) (rest left : ℕ) (big : Bool) (n : Now) (state : Situation →
    State) (all others : List Expr) (go on : Situation → List PointExit → Held → Held)
    (k : LinesTried old cur s z rest left big n state all others go on) where
  pub tried_names : AreTermsOf s.entry old n.names.now → AreTermsOf z.entry cur n.names.now
  tried_names h = subst (λ (e : Names). AreTermsOf e cur n.names.now) (sym k.lines.steps.like.entry) (terms_keep k.lines.steps.grew s.entry n.names.now h)

  pub tried_pc : HasWidth old 32 n.pc.0 → HasWidth cur 32 n.pc.0
  tried_pc h = grew_width old cur _ _ _ _ _ 32 n.pc.0 k.lines.steps.grew h

-- one ensure line more
pub judged_on : (changed : Situation → Bool) (old cur new : List TermNode) (s z y : Sweep) (rest left last : ℕ) (big : Bool) (n : Now) (lines : List SourceLine) (i : ℕ) (l : SourceLine) →
    i < length lines → l ≡ get_or lines i l → AreWell old s →
    AreTermsOf s.entry old n.names.now → HasWidth old 32 n.pc.0 →
    LinesTried old cur s z rest left big n (λ S. S.next) (map (λ k. k.says) (map note_line_of lines)) (map
    (λ k. k.says) (map note_line_of (drop i lines))) (goes_out_by changed (map note_line_of lines)) (goes_out_by changed (map note_line_of (drop i lines))) →
    Steps cur new z y (line_price (expr_of l.says)) (bytes_loaded (expr_of l.says)) 0 0 (4 * (line_size (expr_of l.says) + 4)) (λ m. ⊥) → HasWidth new 1 last →
    Tries cur new z y left last (LineFails cur z big (expr_of l.says) n) (λ from x v b. HasEvent v) → Narrows cur new left last (λ x q. Unit {0}) →
    LinesTried old new s y rest last big n (λ S. S.next) (map (λ k. k.says) (map note_line_of lines)) (map
    (λ k. k.says) (map note_line_of (drop (i + 1) lines))) (goes_out_by changed (map note_line_of lines)) (goes_out_by changed (map note_line_of (drop (i + 1) lines)))
judged_on changed old cur new s z y rest left last big n lines i l within at w names pc k steps bit tries narrows =
    line_tried old cur new s z y rest left last big n (λ S. S.next) (map (λ k. k.says) (map note_line_of lines)) (map
    (λ k. k.says) (map note_line_of (drop (i + 1) lines))) (expr_of l.says)
    (goes_out_by changed (map note_line_of lines)) (goes_out_by changed (note_line_of l
    ∷ map note_line_of (drop (i + 1) lines))) (goes_out_by changed (map note_line_of (drop (i + 1) lines)))
    (ensure_by changed (note_line_of l) (map note_line_of (drop (i + 1) lines))) w names pc
    (subst (λ (q : List SourceLine). LinesTried old cur s z rest left big n
    (λ S. S.next) (map (λ k. k.says) (map note_line_of lines)) (map
    (λ k. k.says) (map note_line_of q)) (goes_out_by changed (map note_line_of lines)) (goes_out_by changed (map note_line_of q)))
    (drop_here lines i l within at) k)
    steps bit tries narrows

-- no line was tried
pub checks_none : (ns : List TermNode) (s : Sweep) (rest : ℕ) (big : Bool) (n : Now) (all : List Check) → AreWell ns s → HasWidth ns 1 rest →
    ChecksTried ns ns s s rest rest big n all all
checks_none ns s rest big n all w b J = tried_none ns s rest big n J.state (said all) (J.goes all) w b

-- one line more
pub checks_on : (old cur new : List TermNode) (s z y : Sweep) (rest left last : ℕ) (big : Bool) (n : Now) (all others : List Check) (x : Check) (says : Expr) →
    says ≡ x.says → AreWell old s → AreTermsOf s.entry old n.names.now → HasWidth old 32 n.pc.0 →
    ChecksTried old cur s z rest left big n all (x ∷ others) →
    Steps cur new z y (line_price says) (bytes_loaded says) 0 0 (4 * (line_size says + 4)) (λ m. ⊥) → HasWidth new 1 last →
    Tries cur new z y left last (LineFails cur z big says n) (λ from x v b. HasEvent v) → Narrows cur new left last (λ x q. Unit {0}) →
    ChecksTried old new s y rest last big n all others
checks_on old cur new s z y rest left last big n all others x says same w names pc k steps bit tries narrows J =
    line_tried old cur new s z y rest left last big n J.state (said all) (said others) x.says (J.goes all) (J.goes (x ∷ others)) (J.goes others) (J.by x others)
    w names pc (k J)
    (subst (λ (q : Expr). Steps cur new z y (line_price q) (bytes_loaded q) 0 0 (4 * (line_size q + 4)) (λ m. ⊥)) same steps) bit
    (subst (λ (q : Expr). Tries cur new z y left last (LineFails cur z big q n) (λ from x v b. HasEvent v)) same tries) narrows

-- one element more of a list that is mapped
pub map_more : {X Y : Type 0} → (f : X → Y) (xs : List X) (i : ℕ) (x : X) → i < length xs → x ≡ get_or xs i x → map f (take (i + 1) xs) ≡ map f (take i xs) ++ f x ∷ []
map_more f xs i x l e =
    ap (map f) (take_more xs i x l) ∙ map-append f (take i xs) (get_or xs i x ∷ []) ∙ ap (λ z. map f (take i xs) ++ f z ∷ []) (sym e)

-- an element of a list is mapped to one
pub map_among : {X Y : Type 0} → (f : X → Y) (xs : List X) (x : X) → Contains xs x → Contains (map f xs) (f x)
map_among f xs x (i, l, e) = (i, (let m = length-map xs f in omega (arith, m, l)), get_or-map f xs i x (f x) l ∙ ap f e)
