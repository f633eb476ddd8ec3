-- Parts of a text, as texts of their own.
use Rattle.std.proofs.Common.{◌≡◌, ℕ, ◌+◌, ◌≤◌, ap, sym, ◌∙◌, arith, Bool, List, [], ◌∷◌, ◌++◌, Option, Some, None, length, map, append_assoc, append-nil, codes, length-append, ◌<◌, ◌^◌}
use Rattle.std.proofs.lemmas.List.{map-append}
use Rattle.word_spec.specs.Memory.{endian}
use Rattle.word_spec.specs.Texts.{line, lines, split_lines}
use Rattle.machine_spec.specs.Endings.{named_line}
use Rattle.machine_spec.specs.StateText.{Layout, NamedLine, MachineLine, EndLine, line_of, state_of, told_of}
use Rattle.machine_spec.proofs.StateLines.{IsLayout, arm_is_layout, line_above, line_back, rv_is_layout}
use Rattle.frame_texts_spec.specs.FrameTexts.{Mark, closed, entry_part, head_part, mark_of, part_from, part_of, some_ending}
use Rattle.frame_texts_spec.proofs.PartsBack.{AllNoFeed, NoFeed, feeds-append, lines_split, no_feed, split_no_feed}
use Rattle.start_value.specs.Starts.{layout_of, profile_in}
use Rattle.start_value.specs.declared.layout.Layout.{Layout as Machine}
use Rattle.start_value.specs.declared.layout.Layout.TheVariants.{Rv32, Arm}
use Rattle.state_text.specs.Starts.{line_text}
use Rattle.frame_text.proofs.Pieces.{lines_then}

is_layout : (m : Machine) → IsLayout (layout_of m)
is_layout (Rv32 compressed) = rv_is_layout compressed
is_layout (Arm big profile) = arm_is_layout (endian big) (profile_in profile)

-- the lines of a part are lines
part_no_feed : (layout : Layout) (ls : List (List ℕ)) → AllNoFeed ls → AllNoFeed (part_of layout ls).lines
part_no_feed layout [] feeds = tt
part_no_feed layout (l ∷ ls) feeds = by_mark (mark_of layout l) (part_no_feed layout ls feeds.1)
  where
    by_mark : (o : Option Mark) → AllNoFeed (part_of layout ls).lines → AllNoFeed (part_from l o ls (part_of layout ls)).lines
    by_mark None later = (feeds.0, later)
    by_mark (Some m) later = tt

module _ (m : Machine) where
  abbrev layout : Layout
  layout = layout_of m

  abbrev first : List ℕ
  first = named_line some_ending

  abbrev machine : List ℕ
  machine = line_text layout MachineLine

  some_is_named : (0 ≤ 4096) × (0 < 2 ^ 32) × (0 ≤ 16777215)
  some_is_named = (omega arith, omega arith, omega arith)

  first_said : line_of layout first ≡ Some (NamedLine some_ending)
  first_said = line_back layout (is_layout m) (NamedLine some_ending) some_is_named

  machine_said : line_of layout machine ≡ Some MachineLine
  machine_said = line_back layout (is_layout m) MachineLine tt

  first_feed : NoFeed first
  first_feed = no_feed first (line_above layout (is_layout m) (NamedLine some_ending) some_is_named)

  machine_feed : NoFeed machine
  machine_feed = no_feed machine (line_above layout (is_layout m) MachineLine tt)

  end_feed : NoFeed (codes "end")
  end_feed = no_feed (codes "end") (line_above layout (is_layout m) EndLine tt)

  -- what lines say
  whole : (known : ℕ → Bool) (ls : List (List ℕ)) (out : List ℕ) → AllNoFeed ls → out ≡ lines ls →
      state_of layout known out ≡ told_of layout known (map (line_of layout) ls)
  unfolding state_of
  whole known ls out feeds e =
      ap (λ t. told_of layout known (map (line_of layout) (split_lines t))) e
      ∙ ap (λ x. told_of layout known (map (line_of layout) x)) (lines_split ls feeds)

  count : (ls : List (List ℕ)) (out : List ℕ) → AllNoFeed ls → out ≡ lines ls → length (split_lines out) ≡ length ls
  count ls out feeds e = ap (λ t. length (split_lines t)) e ∙ ap length (lines_split ls feeds)

  -- a part closed by the end
  with_end : (front ls : List (List ℕ)) → (lines front ++ lines ls) ++ codes "end\n" ≡ lines (front ++ (ls ++ codes "end" ∷ []))
  with_end front ls =
      append_assoc (lines front) (lines ls) (codes "end\n") ∙ ap (λ x. lines front ++ x) (sym (lines_then ls (codes "end" ∷ [])))
      ∙ sym (lines_then front (ls ++ codes "end" ∷ []))

  end_said : (ls : List (List ℕ)) → map (line_of layout) (ls ++ codes "end" ∷ []) ≡ closed (map (line_of layout) ls)
  end_said ls = map-append (line_of layout) ls (codes "end" ∷ [])

  entry_front : line first ≡ lines (first ∷ [])
  entry_front = sym (append-nil (line first))

  head_front : line first ++ line machine ≡ lines (first ∷ machine ∷ [])
  head_front = ap (λ x. line first ++ x) (sym (append-nil (line machine)))

  module _ (text : List ℕ) where
    abbrev part : List (List ℕ)
    part = (part_of layout (split_lines text)).lines

    part_feeds : AllNoFeed part
    part_feeds = part_no_feed layout (split_lines text) (split_no_feed text)

    closed_feeds : AllNoFeed (part ++ codes "end" ∷ [])
    closed_feeds = feeds-append part (codes "end" ∷ []) part_feeds (end_feed, tt)

    -- an entry part
    pub entry_open : (known : ℕ → Bool) (out : List ℕ) → out ≡ line first ++ lines part →
        state_of layout known out ≡ told_of layout known (entry_part layout part)
    entry_open known out e =
        whole known (first ∷ part) out (first_feed, part_feeds) e ∙ ap (λ o. told_of layout known (o ∷ map (line_of layout) part)) first_said

    entry_lines : (out : List ℕ) → out ≡ (line first ++ lines part) ++ codes "end\n" → out ≡ lines (first ∷ part ++ codes "end" ∷ [])
    entry_lines out e = e ∙ ap (λ x. (x ++ lines part) ++ codes "end\n") entry_front ∙ with_end (first ∷ []) part

    pub entry_closed : (known : ℕ → Bool) (out : List ℕ) → out ≡ (line first ++ lines part) ++ codes "end\n" →
        state_of layout known out ≡ told_of layout known (closed (entry_part layout part))
    entry_closed known out e =
        whole known (first ∷ part ++ codes "end" ∷ []) out (first_feed, closed_feeds) (entry_lines out e)
        ∙ ap (λ o. told_of layout known (o ∷ map (line_of layout) (part ++ codes "end" ∷ []))) first_said
        ∙ ap (λ x. told_of layout known (Some (NamedLine some_ending) ∷ x)) (end_said part)

    pub entry_count : (out : List ℕ) → out ≡ (line first ++ lines part) ++ codes "end\n" → length (split_lines out) ≡ length part + 2
    entry_count out e =
        count (first ∷ part ++ codes "end" ∷ []) out (first_feed, closed_feeds) (entry_lines out e) ∙ omega (arith, length-append part (codes "end" ∷ []))

    -- the lines of a head part behind the return addresses
    open_lines : (out : List ℕ) → out ≡ (line first ++ line machine) ++ lines part → out ≡ lines (first ∷ machine ∷ part)
    open_lines out e = e ∙ append_assoc (line first) (line machine) (lines part)

    pub head_open : (known : ℕ → Bool) (out : List ℕ) → out ≡ (line first ++ line machine) ++ lines part →
        state_of layout known out ≡ told_of layout known (head_part layout part)
    head_open known out e =
        whole known (first ∷ machine ∷ part) out (first_feed, (machine_feed, part_feeds)) (open_lines out e)
        ∙ ap (λ o. told_of layout known (o ∷ line_of layout machine ∷ map (line_of layout) part)) first_said
        ∙ ap (λ o. told_of layout known (Some (NamedLine some_ending) ∷ o ∷ map (line_of layout) part)) machine_said

    pub head_open_count : (out : List ℕ) → out ≡ (line first ++ line machine) ++ lines part → length (split_lines out) ≡ length part + 2
    head_open_count out e = count (first ∷ machine ∷ part) out (first_feed, (machine_feed, part_feeds)) (open_lines out e) ∙ omega arith

    closed_lines : (out : List ℕ) → out ≡ ((line first ++ line machine) ++ lines part) ++ codes "end\n" →
        out ≡ lines (first ∷ machine ∷ part ++ codes "end" ∷ [])
    closed_lines out e = e ∙ ap (λ x. (x ++ lines part) ++ codes "end\n") head_front ∙ with_end (first ∷ machine ∷ []) part

    pub head_closed : (known : ℕ → Bool) (out : List ℕ) → out ≡ ((line first ++ line machine) ++ lines part) ++ codes "end\n" →
        state_of layout known out ≡ told_of layout known (closed (head_part layout part))
    head_closed known out e =
        whole known (first ∷ machine ∷ part ++ codes "end" ∷ []) out (first_feed, (machine_feed, closed_feeds)) (closed_lines out e)
        ∙ ap (λ o. told_of layout known (o ∷ line_of layout machine ∷ map (line_of layout) (part ++ codes "end" ∷ []))) first_said
        ∙ ap (λ o. told_of layout known (Some (NamedLine some_ending) ∷ o ∷ map (line_of layout) (part ++ codes "end" ∷ []))) machine_said
        ∙ ap (λ x. told_of layout known (Some (NamedLine some_ending) ∷ Some MachineLine ∷ x)) (end_said part)

    pub head_closed_count : (out : List ℕ) → out ≡ ((line first ++ line machine) ++ lines part) ++ codes "end\n" → length (split_lines out) ≡ length part + 3
    head_closed_count out e =
        count (first ∷ machine ∷ part ++ codes "end" ∷ []) out (first_feed, (machine_feed, closed_feeds)) (closed_lines out e)
        ∙ omega (arith, length-append part (codes "end" ∷ []))
