-- What is shown of a segment, by what is listed of its root.
use Rattle.std.proofs.Common.{◌≡◌, refl, sym, ap, ◌∙◌, arith, ℕ, zero, suc, ◌+◌, ◌<◌, ◌≤◌, List, [], ◌∷◌, ◌++◌, Option, Some, None, append-nil, append_assoc, drop, length, map, get_or}
use Rattle.std.specs.Prelude.{reverse}
use Rattle.std.specs.Global.{Vec}
use Rattle.std.proofs.lemmas.List.{drop_all, drop_more, get_or-map, get_or_default, get_or_past, length-map, map-append}
use Rattle.frame_spec.specs.FrameReports.{Shown, WrittenCall}
use Rattle.frame_spec.specs.FrameWalk.{UnrolledProgram, no_point, point_at}
use Rattle.frame_start.specs.Changes.{gift_in, no_written}
use Rattle.frame_start.specs.Segments.{calls_at, calls_by, choices_at, written_parts}
use Rattle.frame_start.specs.declared.meaning.Segments.{Segments}
use Rattle.frame_start.specs.declared.parts.Parts.{Parts}
use Rattle.frame_rounds.specs.FrameGrounds.{shown_at}
use Rattle.frame_terms.specs.FrameStarts as starts
use Rattle.frame_terms.specs.FrameStarts.{WrittenParts, call_of}
use Rattle.program_points.specs.Listed.{anchor_of}
use Rattle.program_points.specs.Tables.{stack_at, stacks_of}
use Rattle.program_points.specs.declared.values.Root.{Root as Head}
use Rattle.question_form.specs.FrameViews.{anchor_at, frame_unrolled_of, no_root, points_of}
use Rattle.question_form.specs.Views.{code_of, no_code}
use Rattle.question_form.specs.declared.unrolled.Code.{Code}
use Rattle.question_form.specs.declared.unrolled.Point.{Point}
use Rattle.question_form.specs.declared.unrolled.Root.{Root}
use Rattle.question_form.specs.declared.unrolled.Unrolled.{Unrolled}
use Rattle.start_value.specs.Starts.{written_of}
use Rattle.start_value.specs.declared.start.Start.{Start}
use Rattle.state_text.specs.Starts.{written_call_of}
use Rattle.state_text.specs.declared.start.CallState.{CallState}
use Rattle.word_spec.specs.State.{Written}
use Rattle.frame_verdict.specs.FrameVerdicts.{shown_with}

-- ---- the address of a point

module _ (u : Unrolled) where
  past_points : (qs : List Point) (i : ℕ) → length qs ≤ i → (get_or (points_of u qs) i no_point).point.at ≡ 0
  past_points [] i l = refl
  past_points (q ∷ qs) zero l = absurd (omega arith)
  past_points (q ∷ qs) (suc i) l = past_points qs i (omega arith)

  code_here : (qs : List Point) (i : ℕ) (q : Point) → i < length qs → q ≡ get_or qs i q → (get_or (points_of u qs) i no_point).point.at ≡ (code_of u q).at
  code_here [] i q l e = absurd (omega arith)
  code_here (p ∷ qs) zero q l e = ap (λ (z : Point). (code_of u z).at) (sym e)
  code_here (p ∷ qs) (suc i) q l e = code_here qs i q (omega arith) e

  pub no_point_at : (i : ℕ) → length u.points.items ≤ i → 0 ≡ (point_at (frame_unrolled_of u) i).point.at
  no_point_at i l = sym (past_points u.points.items i l)

  pub no_code_at : (i : ℕ) (q : Point) → i < length u.points.items → q ≡ get_or u.points.items i q → length u.codes.items ≤ q.code →
      0 ≡ (point_at (frame_unrolled_of u) i).point.at
  no_code_at i q l e past = sym (code_here u.points.items i q l e ∙ ap (λ z. z.at) (get_or_past u.codes.items q.code no_code past))

  pub code_at : (i : ℕ) (q : Point) → i < length u.points.items → q ≡ get_or u.points.items i q → (c : Code) → q.code < length u.codes.items →
      c ≡ get_or u.codes.items q.code c → c.at ≡ (point_at (frame_unrolled_of u) i).point.at
  code_at i q l e c low is =
      ap (λ (z : Code). z.at) (is ∙ get_or_default u.codes.items q.code c no_code low) ∙ sym (code_here u.points.items i q l e)

-- ---- contract steps

module _ (u : UnrolledProgram) (p : Parts) (step i at : ℕ) (is : at ≡ (point_at u i).point.at) where
  call_by : (w : Written) → gift_in p.gifts.items i ≡ w → (regs : List ℕ) (flags : ℕ) (bytes : List (ℕ × ℕ)) → regs ≡ w.regs → flags ≡ w.flags →
      bytes ≡ w.bytes → record { step = step; at = at; regs = regs; flags = flags; bytes = bytes } ≡ call_of u (written_parts p) step i
  call_by w e regs flags bytes a b c =
      ap (λ (z : ℕ). record { step = step; at = z; regs = regs; flags = flags; bytes = bytes }) is
      ∙ ap (λ (z : List ℕ). record { step = step; at = (point_at u i).point.at; regs = z; flags = flags; bytes = bytes }) a
      ∙ ap (λ (z : ℕ). record { step = step; at = (point_at u i).point.at; regs = w.regs; flags = z; bytes = bytes }) b
      ∙ ap (λ (z : List (ℕ × ℕ)). record { step = step; at = (point_at u i).point.at; regs = w.regs; flags = w.flags; bytes = z }) c
      ∙ ap (λ (z : Written). record { step = step; at = (point_at u i).point.at; regs = z.regs; flags = z.flags; bytes = z.bytes }) (sym e)

  -- nothing is written for it
  pub call_past : length p.gifts.items ≤ i → (regs : List ℕ) (bytes : List (ℕ × ℕ)) → regs ≡ [] → bytes ≡ [] →
      record { step = step; at = at; regs = regs; flags = 0; bytes = bytes } ≡ call_of u (written_parts p) step i
  call_past l regs bytes a b =
      call_by no_written (get_or_past (map written_of p.gifts.items) i no_written (let n = length-map p.gifts.items written_of in omega arith)) regs 0 bytes a
      refl b

  -- or this
  pub call_here : i < length p.gifts.items → (g : Start) → g ≡ get_or p.gifts.items i g → (regs : List ℕ) (bytes : List (ℕ × ℕ)) → regs ≡ g.regs.items →
      bytes ≡ g.bytes.items → record { step = step; at = at; regs = regs; flags = g.flags; bytes = bytes } ≡ call_of u (written_parts p) step i
  call_here l g e regs bytes a b =
      call_by (written_of g) (get_or-map written_of p.gifts.items i g no_written l ∙ ap written_of (sym e)) regs g.flags bytes a refl b

-- ---- lists

-- a copy
pub copied : {A : Type 0} (new old from xs : List A) → new ≡ old ++ from → old ≡ [] → from ≡ xs → new ≡ xs
copied new old from xs is none of = is ∙ ap (λ z. z ++ from) none ∙ of

module _ (u : UnrolledProgram) (p : WrittenParts) (steps : List (ℕ × ℕ)) where
  -- one more contract step
  pub calls_next : (i : ℕ) (calls more : List CallState) (c : CallState) (d : ℕ × ℕ) → i < length steps → more ≡ calls ++ c ∷ [] →
      written_call_of c ≡ call_of u p (get_or steps i d).0 (get_or steps i d).1 →
      map written_call_of calls ++ calls_by u p (drop i steps) ≡ calls_by u p steps →
      map written_call_of more ++ calls_by u p (drop (i + 1) steps) ≡ calls_by u p steps
  calls_next i calls more c d l grown is before =
      ap (λ (x : List CallState). map written_call_of x ++ calls_by u p (drop (i + 1) steps)) grown
      ∙ ap (λ (x : List WrittenCall). x ++ calls_by u p (drop (i + 1) steps)) (map-append written_call_of calls (c ∷ []))
      ∙ append_assoc (map written_call_of calls) (written_call_of c ∷ []) (calls_by u p (drop (i + 1) steps))
      ∙ ap (λ (x : WrittenCall). map written_call_of calls ++ x ∷ calls_by u p (drop (i + 1) steps)) is
      ∙ ap (λ (x : List (ℕ × ℕ)). map written_call_of calls ++ calls_by u p x) (sym (drop_more steps i d l))
      ∙ before

  -- and no more
  pub calls_all : (i : ℕ) (calls : List CallState) → length steps ≤ i → map written_call_of calls ++ calls_by u p (drop i steps) ≡ calls_by u p steps →
      map written_call_of calls ≡ calls_by u p steps
  calls_all i calls past all =
      sym (append-nil (map written_call_of calls))
      ∙ ap (λ (x : List (ℕ × ℕ)). map written_call_of calls ++ calls_by u p x) (sym (drop_all i steps past))
      ∙ all

pub listed_at : (lists : List (Vec (ℕ × ℕ))) (i : ℕ) (v : Vec (ℕ × ℕ)) → i < length lists → v ≡ get_or lists i v → v.items ≡ choices_at lists i
listed_at lists i v l e = ap (λ (z : Vec (ℕ × ℕ)). z.items) e ∙ sym (get_or-map (λ (z : Vec (ℕ × ℕ)). z.items) lists i v [] l)

-- ---- the segment of a root

module _ (u : Unrolled) (s : Segments) (i : ℕ) (x : Root) (inside : i < length u.roots.items) (is : x ≡ get_or u.roots.items i x)
    (calls : List CallState) (made : map written_call_of calls ≡ calls_at (frame_unrolled_of u) s.parts s.calls.items i) where
  anchor_is : anchor_of (stacks_of u.frames.items) x.head ≡ anchor_at u i
  anchor_is = ap (λ (z : Root). anchor_of (stacks_of u.frames.items) z.head) (is ∙ get_or_default u.roots.items i x no_root inside)

  abbrev by : Option Head → Shown
  by h = starts.shown_of (written_parts s.parts) (anchor_of (stacks_of u.frames.items) h) (choices_at s.choices.items i)
      (calls_at (frame_unrolled_of u) s.parts s.calls.items i)

  shown_is : by x.head ≡ shown_at u s i
  shown_is =
      ap (λ z. starts.shown_of (written_parts s.parts) z (choices_at s.choices.items i) (calls_at (frame_unrolled_of u) s.parts s.calls.items i)) anchor_is

  -- from the entry
  pub entry_shown : x.head ≡ None → (start : Start) → written_of start ≡ record (written_of s.parts.entry) { choices = choices_at s.choices.items i } →
      shown_with start None calls ≡ shown_at u s i
  entry_shown none start e =
      ap (λ (z : Written). record { start = z; head = None; calls = map written_call_of calls }) e
      ∙ ap (λ (z : List WrittenCall). record { start = record (written_of s.parts.entry) { choices = choices_at s.choices.items i }; head = None; calls = z }) made
      ∙ sym (ap by none)
      ∙ shown_is

  -- from a head
  pub head_shown : (h : Head) → x.head ≡ Some h → (start first : Start) (stack : List ℕ) → written_of start ≡ written_of s.parts.entry →
      written_of first ≡ record (written_of s.parts.head) { choices = choices_at s.choices.items i } → stack ≡ reverse (stack_at u.frames.items h.stack) →
      record { start = written_of start; head = Some (record { at = h.at; stack = stack; start = written_of first }); calls = map written_call_of calls }
      ≡ shown_at u s i
  head_shown h some start first stack a b c =
      ap (λ (z : Written). record { start = z; head = Some (record { at = h.at; stack = stack; start = written_of first }); calls = map written_call_of calls }) a
      ∙ ap (λ (z : List ℕ). record {
        start = written_of s.parts.entry;
        head = Some (record { at = h.at; stack = z; start = written_of first });
        calls = map written_call_of calls;
      }) c
      ∙ ap (λ (z : Written). record {
        start = written_of s.parts.entry;
        head = Some (record {
          at = h.at;
          stack = reverse (stack_at u.frames.items h.stack);
          start = z;
        });
        calls = map written_call_of calls;
      }) b
      ∙ ap (λ (z : List WrittenCall). record {
        start = written_of s.parts.entry;
        head = Some (record {
          at = h.at;
          stack = reverse (stack_at u.frames.items h.stack);
          start = record (written_of s.parts.head) { choices = choices_at s.choices.items i };
        });
        calls = z;
      }) made
      ∙ sym (ap by some)
      ∙ shown_is
