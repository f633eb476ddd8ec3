-- The ends of a node, so far, and the calls of it.
use Rattle.std.proofs.Common.{◌≡◌, inl, ℕ, zero, suc, ◌+◌, ◌<◌, ◌≤◌, refl, ap, sym, ◌∙◌, arith, List, [], ◌∷◌, ◌++◌, length, take, get_or, Option, Some, None, Bool, true, false}
use Rattle.std.specs.Prelude.{Contains, ◌||◌, not, filter, if◌then◌else◌}
use Rattle.std.specs.List.{filter_map, cons_option, list_any}
use Rattle.std.proofs.lemmas.List.{take_more}
use Rattle.std.proofs.lemmas.List.Elements.{filter_map-append}
use Rattle.word_spec.specs.Words.{add}
use Rattle.graph_nodes.specs.declared.nodes.Letter.TheVariants.{Call}
use Rattle.graph_nodes.specs.declared.nodes.Successor.{Successor}
use Rattle.graph_nodes.specs.declared.nodes.Node.{Node}
use Rattle.program_points.specs.declared.values.Frame.{Frame}
use Rattle.program_points.specs.declared.values.End.{End}
use Rattle.program_points.specs.Tables.{listed, is_call, is_next, frame_at, successor_end, way_end, back_end, ends_from, IsPushed, IsCalled}
use Rattle.program_points.proofs.Lists.{nothing_more, take_whole}

one : {X : Type 0} (f : X → Option End) (x : X) → filter_map f (x ∷ []) ≡ listed (f x)
one f x = by (f x)
  where
    by : (o : Option End) → filter_map (λ (y : Option End). y) (o ∷ []) ≡ listed o
    by None = refl
    by (Some e) = refl

pub ends_more : {X : Type 0} (f : X → Option End) (xs : List X) (i : ℕ) (d : X) (o : Option End) (found grown : List End) → i < length xs →
    f (get_or xs i d) ≡ o
    → found ≡ filter_map f (take i xs) → grown ≡ found ++ listed o → grown ≡ filter_map f (take (i + 1) xs)
ends_more f xs i d o found grown fits e is more =
    more ∙ ap (λ l. l ++ listed o) is ∙ ap (λ l. filter_map f (take i xs) ++ l) (sym (ap listed e) ∙ sym (one f (get_or xs i d)))
    ∙ sym (filter_map-append f (take i xs) (get_or xs i d ∷ [])) ∙ sym (ap (filter_map f) (take_more xs i d fits))

pub ends_whole : {X : Type 0} (f : X → Option End) (xs : List X) (i : ℕ) (back o : Option End) (found grown : List End) → length xs ≤ i → back ≡ o
    → found ≡ filter_map f (take i xs) → grown ≡ found ++ listed o → grown ≡ filter_map f xs ++ listed back
ends_whole f xs i back o found grown le e is more =
    more ∙ ap (λ l. l ++ listed o) (is ∙ ap (filter_map f) (take_whole xs i le)) ∙ ap (λ r. filter_map f xs ++ listed r) (sym e)

no_call : (xs : List Successor) (x : Successor) → list_any (λ s. is_call s.letter) xs ≡ false → Contains xs x → x.letter ≡ Call → ⊥
no_call [] x h (i, w, e) c = absurd (omega arith)
no_call (y ∷ xs) x h (zero, w, e) c = absurd (let t : is_call y.letter
    ≡ true = ap (λ (z : Successor). is_call z.letter) e ∙ ap is_call c in let u = ap (λ b. b || list_any (λ (s : Successor). is_call s.letter) xs) t in cc)
no_call (y ∷ xs) x h (suc i, w, e) c = no_call xs x (rest (is_call y.letter) (list_any (λ (s : Successor). is_call s.letter) xs) h) (i, omega arith, e) c
  where
    rest : (a b : Bool) → (a || b) ≡ false → b ≡ false
    rest true b q = absurd (cc)
    rest false b q = q

pub called_none : (n : Node) (stack : ℕ) (frames : List Frame) → list_any (λ s. is_call s.letter) n.successors.items ≡ false → IsCalled n stack frames frames 0
called_none n stack frames h = record {
  rest = [];
  begins = nothing_more frames;
  only = inl refl;
  pushes =
      λ x c l. absurd (no_call n.successors.items x h c l);
}

pub called_pushed : (n : Node) (stack number : ℕ) (old new : List Frame) → IsPushed old new (add 32 n.at n.length) stack number → IsCalled n stack old new number
called_pushed n stack number old new is = record {
  rest = is.rest;
  begins = is.begins;
  only = is.only;
  pushes = λ x c l. (let s : number ≡ suc is.index = (let q = is.number_is in omega arith) in ap (frame_at new) s ∙ is.frame_is);
}

kept_by : (f : Successor → Option End) (s : Successor) (b : Bool) (xs : List Successor) → is_next s.letter ≡ b →
    filter_map (λ x. if is_next x.letter then None else f x) xs ≡ filter_map f (filter (λ x. not (is_next x.letter)) xs) →
    cons_option (if b then None else f s) (filter_map (λ x. if is_next x.letter then None else f x) xs)
    ≡ filter_map f (if not b then s ∷ filter (λ x. not (is_next x.letter)) xs else filter (λ x. not (is_next x.letter)) xs)
kept_by f s true xs e h = h
kept_by f s false xs e h = ap (λ (l : List End). cons_option (f s) l) h

-- ends of successors that are not the next address
pub ways_kept : (f : Successor → Option End) (xs : List Successor) →
    filter_map (λ x. if is_next x.letter then None else f x) xs ≡ filter_map f (filter (λ x. not (is_next x.letter)) xs)
ways_kept f [] = refl
ways_kept f (s ∷ xs) = kept_by f s (is_next s.letter) xs refl (ways_kept f xs)

-- the ends so far and the return's are those of the successors that are not the next address
pub ways_whole : (narrow returns : Bool) (f o : Option Frame) (stack called : ℕ) (items xs : List Successor) (i : ℕ) (back : Option End) (found grown : List End) →
    xs ≡ items → f ≡ o → length xs ≤ i
    → back_end narrow returns f ≡ back → found ≡ filter_map (way_end returns f stack called) (take i xs) → grown ≡ found ++ listed back
    → grown ≡ ends_from narrow returns (filter (λ s. not (is_next s.letter)) items) o stack called
ways_whole narrow returns f o stack called items xs i back found grown same top le e is more =
    ends_whole (way_end returns f stack called) xs i (back_end narrow returns f) back found grown le e is more
    ∙ ap (λ (l : List End). l ++ listed (back_end narrow returns f)) (ways_kept (successor_end returns f stack called) xs)
    ∙ ap (λ (l : List Successor). ends_from narrow returns (filter (λ s. not (is_next s.letter)) l) f stack called) same
    ∙ ap (λ (t : Option Frame). ends_from narrow returns (filter (λ s. not (is_next s.letter)) items) t stack called) top
