-- The assert lines of a frame at an address, by their group among the lines by address.
use Rattle.std.proofs.Common.{◌≡◌, refl, ap, sym, ◌∙◌, arith, ℕ, zero, suc, Bool, true, false, List, [], ◌∷◌, map}
use Rattle.std.specs.Prelude.{◌==◌, ◌&&◌, not, nat_eq, Contains, filter, slice_range, if◌then◌else◌}
use Rattle.std.specs.List.{list_any}
use Rattle.bilv_spec.specs.Notes as notes
use Rattle.bilv_spec.specs.Notes.{Assert, NoteLine}
use Rattle.bilv_spec.proofs.PointSteps.{there}
use Rattle.frame_spec.specs.Frames.{Frame, is_head, is_invariant, invariants_of}
use Rattle.frame_spec.specs.FramePoints.{AtEntry, AtHead, Point, is_entry}
use Rattle.frame_spec.specs.FrameWalk.{Check}
use Rattle.frame_spec.specs.FrameUnrolling.{checks_by, checks_at, checks_of, assumed_at}
use Rattle.notes_value.specs.declared.notes.Assert as declared
use Rattle.notes_value.specs.NoteViews.{notes_of, assert_of}
use Rattle.notes_index.specs.Indexed.{assert_places, numbered_from}
use Rattle.question_form.specs.declared.unrolled.Unrolled.{Unrolled}
use Rattle.question_form.specs.FrameViews.{assumed_of, check_at, checks_between, is_judged}
use Rattle.unroller.specs.Places.{IsGroup}
use Rattle.unroller.proofs.CutHeads.{left_true, right_true}
use Rattle.unroller.proofs.Grouped.{group_are}

-- the line as one that is judged
abbrev check_by : (invariants : List ℕ) → Assert → Check
check_by invariants a = record { line = a.line; invariant = list_any (nat_eq a.line) invariants; says = a.says }

map_at : (xs : List declared.Assert) → map (λ (a : Assert). a.at) (map assert_of xs) ≡ map (λ (a : declared.Assert). a.at) xs
map_at [] = refl
map_at (x ∷ xs) = ap (λ (l : List ℕ). x.at ∷ l) (map_at xs)

-- an invariant at an address makes it a head
module _ (f : Frame) (a : ℕ) where
  abbrev is_at : Assert → Bool
  is_at x = x.at == a

  has_by : (x : Assert) (rest : List Assert) (b : Bool) → is_invariant f x ≡ b → b ≡ true → is_at x ≡ true →
      list_any is_at (if b then x ∷ invariants_of f rest else invariants_of f rest) ≡ true
  has_by x rest true e h t = left_true (is_at x) (list_any is_at (invariants_of f rest)) t
  has_by x rest false e h t = absurd (cc)

  more_by : (x : Assert) (rest : List Assert) (b : Bool) → list_any is_at (invariants_of f rest) ≡ true →
      list_any is_at (if b then x ∷ invariants_of f rest else invariants_of f rest) ≡ true
  more_by x rest true h = right_true (is_at x) (list_any is_at (invariants_of f rest)) h
  more_by x rest false h = h

  pub has_invariant : (l : List Assert) (x : Assert) → Contains l x → is_at x ≡ true → is_invariant f x ≡ true →
      list_any is_at (invariants_of f l) ≡ true
  has_invariant [] x (i, w, e) t h = absurd (omega arith)
  has_invariant (y ∷ l) x (zero, w, e) t h =
      has_by y l (is_invariant f y) refl (ap (is_invariant f) e ∙ h) (ap is_at e ∙ t)
  has_invariant (y ∷ l) x (suc i, w, e) t h = more_by y l (is_invariant f y) (has_invariant l x (i, omega arith, e) t h)

  pub is_head_by : f.cuts ≡ true → (x : Assert) → Contains f.program.notes.asserts x → is_at x ≡ true → is_invariant f x ≡ true → is_head f a ≡ true
  is_head_by cuts x c t h =
      ap (λ (b : Bool). b && list_any is_at (invariants_of f f.program.notes.asserts)) cuts ∙ has_invariant f.program.notes.asserts x c t h

  -- the lines that are judged at a point: an invariant there is judged only in the entry's segment
  abbrev is_kept : (head entry : Bool) → Assert → Bool
  is_kept head entry x = is_at x && not (head && not entry && is_invariant f x)

  abbrev judged : (entry : Bool) → Check → Bool
  judged entry c = not (not entry && c.invariant)

  judge_by : (head entry inv here : Bool) (x : Check) (rest : List Check) (kept : List Check) → x.invariant ≡ inv → (here ≡ true → inv ≡ true → head ≡ true) →
      filter (judged entry) rest ≡ kept →
      filter (judged entry) (if here then x ∷ rest else rest) ≡ (if here && not (head && not entry && inv) then x ∷ kept else kept)
  judge_by head entry inv false x rest kept e g h = h
  judge_by head true inv true x rest kept e g h =
      ap (λ (l : List Check). x ∷ l) h ∙ sym (ap (λ (b : Bool). if not b then x ∷ kept else kept) (never head inv))
    where
      never : (a b : Bool) → (a && not true && b) ≡ false
      never true b = refl
      never false b = refl
  judge_by head false true true x rest kept e g h =
      ap (λ (b : Bool). if not b then x ∷ filter (judged false) rest else filter (judged false) rest) e ∙ h
      ∙ sym (ap (λ (b : Bool). if not (b && not false && true) then x ∷ kept else kept) (g refl refl))
  judge_by head false false true x rest kept e g h =
      ap (λ (b : Bool). if not b then x ∷ filter (judged false) rest else filter (judged false) rest) e ∙ ap (λ (l : List Check). x ∷ l) h
      ∙ sym (ap (λ (b : Bool). if not b then x ∷ kept else kept) (never head))
    where
      never : (a : Bool) → (a && not false && false) ≡ false
      never true = refl
      never false = refl

  abbrev made : Assert → Check
  made x = record { line = x.line; invariant = is_invariant f x; says = x.says }

  map_if : (b : Bool) (x : Assert) (l : List Assert) → map made (if b then x ∷ l else l) ≡ (if b then made x ∷ map made l else map made l)
  map_if true x l = refl
  map_if false x l = refl

  pub judge : (head entry : Bool) (l : List Assert) → ((x : Assert) → Contains l x → is_at x ≡ true → is_invariant f x ≡ true → head ≡ true) →
      filter (judged entry) (map made (filter is_at l)) ≡ map made (filter (is_kept head entry) l)
  judge head entry [] g = refl
  judge head entry (x ∷ l) g =
      ap (filter (judged entry)) (map_if (is_at x) x (filter is_at l))
      ∙ judge_by head entry (is_invariant f x) (is_at x) (made x) (map made (filter is_at l)) (map made (filter (is_kept head entry) l)) refl
      (λ t h. g x (0, omega arith, refl) t h) (judge head entry l (λ y c t h. g y (there x l y c) t h))
      ∙ sym (map_if (is_kept head entry x) x (filter (is_kept head entry) l))

  -- the lines that are assumed at a head
  abbrev line : Assert → NoteLine
  line x = record { line = x.line; says = x.says }

  assume_by : (here inv : Bool) (x : Assert) → is_invariant f x ≡ inv → is_at x ≡ here → (rest kept : List Assert) →
      map assumed_of (filter (λ c. c.invariant) (map made rest)) ≡ map line (filter is_at kept) →
      map assumed_of (filter (λ c. c.invariant) (map made (if here then x ∷ rest else rest))) ≡ map line (filter is_at (if inv then x ∷ kept else kept))
  assume_by true true x e g rest kept h =
      ap (λ (b : Bool). map assumed_of (if b then made x ∷ filter (λ c. c.invariant) (map made rest) else filter (λ c. c.invariant) (map made rest))) e
      ∙ ap (λ (l : List NoteLine). line x ∷ l) h
      ∙ sym (ap (λ (b : Bool). map line (if b then x ∷ filter is_at kept else filter is_at kept)) g)
  assume_by true false x e g rest kept h =
      ap (λ (b : Bool). map assumed_of (if b then made x ∷ filter (λ c. c.invariant) (map made rest) else filter (λ c. c.invariant) (map made rest))) e ∙ h
  assume_by false true x e g rest kept h =
      h ∙ sym (ap (λ (b : Bool). map line (if b then x ∷ filter is_at kept else filter is_at kept)) g)
  assume_by false false x e g rest kept h = h

  pub assume : (l : List Assert) →
      map assumed_of (filter (λ c. c.invariant) (map made (filter is_at l))) ≡ map line (filter is_at (invariants_of f l))
  assume [] = refl
  assume (x ∷ l) = assume_by (is_at x) (is_invariant f x) x refl refl (filter is_at l) (invariants_of f l) (assume l)

module _ (u : Unrolled) (f : Frame) (cuts : f.cuts ≡ true) (invariants : u.invariants.now ≡ f.invariants) (noted : f.program.notes ≡ notes_of u.notes.now)
    (index : (at : ℕ) → filter (λ x. x.0 == at) u.asserts.items
    ≡ filter (λ x. x.0 == at) (numbered_from 0 (assert_places u.notes.now.asserts.items))) where
  -- those that are judged at an address
  pub lines_are : (a : ℕ) (bounds : ℕ × ℕ) → IsGroup u.asserts.items a bounds → checks_between u bounds ≡ checks_at f a
  lines_are a bounds group =
      group_are (check_by u.invariants.now) a (notes_of u.notes.now).asserts u.asserts.items bounds group
      (index a ∙ ap (λ (l : List ℕ). filter (λ (x : ℕ × ℕ). x.0 == a) (numbered_from 0 l)) (sym (map_at u.notes.now.asserts.items)))
      ∙ ap (λ (l : List ℕ). map (check_by l) (filter (λ (x : Assert). x.at == a) (notes_of u.notes.now).asserts)) invariants
      ∙ ap (λ (n : notes.Notes). checks_by f (filter (λ (x : Assert). x.at == a) n.asserts)) (sym noted)

  -- those that are judged at a point
  pub judged_are : (q : Point) (bounds : ℕ × ℕ) → IsGroup u.asserts.items q.at bounds → filter (is_judged q.anchor) (checks_between u bounds) ≡ checks_of f q
  judged_are q bounds group =
      ap (filter (is_judged q.anchor)) (lines_are q.at bounds group)
      ∙ judge f q.at (is_head f q.at) (is_entry q.anchor) f.program.notes.asserts (λ x c t h. is_head_by f q.at cuts x c t h)

  -- those that a head's root assumes
  pub assumed_are : (stack : List ℕ) (a : ℕ) (bounds : ℕ × ℕ) → IsGroup u.asserts.items a bounds →
      map assumed_of (filter (λ c. c.invariant) (checks_between u bounds)) ≡ assumed_at f (AtHead stack a)
  assumed_are stack a bounds group =
      ap (λ (l : List Check). map assumed_of (filter (λ c. c.invariant) l)) (lines_are a bounds group) ∙ assume f a f.program.notes.asserts

  -- the entry's root assumes none
  pub assumed_none : (bounds : ℕ × ℕ) → bounds ≡ (0, 0) → map assumed_of (filter (λ c. c.invariant) (checks_between u bounds)) ≡ assumed_at f AtEntry
  assumed_none bounds e =
      ap (λ (b : ℕ × ℕ). map assumed_of (filter (λ c. c.invariant) (checks_between u b))) e
      ∙ ap (λ (l : List (ℕ × ℕ)). map assumed_of (filter (λ c. c.invariant) (map (check_at u) l))) (none u.asserts.items)
    where
      none : (xs : List (ℕ × ℕ)) → slice_range xs 0 0 ≡ []
      none [] = refl
      none (x ∷ xs) = refl
