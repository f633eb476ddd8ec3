-- What is told of two states by their values at the places of links.
use Rattle.std.proofs.Common.{◌≡◌, ℕ, refl, ap, Bool, true, false, List, [], ◌∷◌, ◌++◌, Option, Some, map}
use Rattle.std.specs.Prelude.{◌==◌, ◌&&◌, if◌then◌else◌}
use Rattle.word_spec.specs.State.{State}
use Rattle.pair_spec.specs.Links as spec
use Rattle.pair_spec.specs.Links.{addresses, have_bytes, have_equal, first_line, unlinked_line, differing_line}
use Rattle.links_lang.specs.Views.{named_of, link_of, links_of}
use Rattle.links_lang.specs.declared.links.Link.{Link}
use Rattle.links_lang.specs.declared.links.Link.TheVariants as link
use Rattle.difference_replay.specs.declared.probes.Half.TheVariants.{First, Second}
use Rattle.difference_replay.specs.declared.probes.RunEnd.{RunEnd}
use Rattle.difference_replay.specs.declared.probes.RunEnd.TheVariants.{Entry, Exit}
use Rattle.difference_replay.specs.declared.probes.Probe.{Probe}
use Rattle.difference_replay.specs.Probes.{byte_probe, probes_of, all_probes, values_on, first_unlike, agrees_at}

module _ (s t : State) where
  -- the line of the first probe at which the states differ
  abbrev unlike : List Probe → Option ℕ
  unlike ps = first_unlike ps (values_on First s ps) (values_on Second t ps)

  abbrev or_line : ℕ → Option ℕ → Bool → Option ℕ
  or_line n r b = if b then r else Some n

  bytes_unlike : (n : ℕ) (places : List ℕ) (ps : List Probe) (r : Option ℕ) → unlike ps ≡ r →
      unlike (map (byte_probe n) places ++ ps) ≡ or_line n r (have_bytes places s.mem t.mem)
  bytes_unlike n [] ps r h = h
  bytes_unlike n (a ∷ places) ps r h = by (s.mem a == t.mem a) (bytes_unlike n places ps r h)
    where
      by : (b : Bool) → unlike (map (byte_probe n) places ++ ps) ≡ or_line n r (have_bytes places s.mem t.mem) →
          or_line n (unlike (map (byte_probe n) places ++ ps)) b ≡ or_line n r (b && have_bytes places s.mem t.mem)
      by true g = g
      by false g = refl

  -- those of a link, before others
  link_unlike : (at : RunEnd) (l : Link) (ps : List Probe) (r : Option ℕ) → unlike ps ≡ r →
      unlike (probes_of at l ++ ps) ≡ or_line (spec.line_of (link_of l)) r (agrees_at at s t (link_of l))
  link_unlike Entry (link.Entry n x y) ps r h = ap (λ o. or_line n o (have_equal (named_of x) (named_of y) s t)) h
  link_unlike Entry (link.Exit n x y) ps r h = h
  link_unlike Entry (link.Share n low high) ps r h = bytes_unlike n (addresses low high) ps r h
  link_unlike Entry (link.Same n low high) ps r h = h
  link_unlike Exit (link.Entry n x y) ps r h = h
  link_unlike Exit (link.Exit n x y) ps r h = ap (λ o. or_line n o (have_equal (named_of x) (named_of y) s t)) h
  link_unlike Exit (link.Share n low high) ps r h = h
  link_unlike Exit (link.Same n low high) ps r h = bytes_unlike n (addresses low high) ps r h

  -- the first link on which the states do not agree is that of the first such probe
  pub unlike_is : (at : RunEnd) (links : List Link) → unlike (all_probes at links) ≡ first_line (agrees_at at s t) (links_of links)
  unlike_is at [] = refl
  unlike_is at (l ∷ rest) = link_unlike at l (all_probes at rest) _ (unlike_is at rest)
