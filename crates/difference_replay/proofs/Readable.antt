-- The places of links are ones that their machines have.
use Rattle.std.proofs.Common.{◌≡◌, ℕ, ◌≤◌, arith, true, false, List, [], ◌∷◌, All, map}
use Rattle.std.proofs.lemmas.Bool.Decides.{nat_tests}
use Rattle.std.proofs.lemmas.List.Elements.{All-nil, All-cons, All-append, All-head, All-tail}
use Rattle.pair_spec.specs.Links.{addresses}
use Rattle.notes_lang.specs.Parsing.{layout_registers, layout_flags}
use Rattle.links_lang.specs.Views.{IsOfForm, IsLinkOf, AreLinksOf}
use Rattle.links_lang.specs.declared.links.Link.{Link}
use Rattle.links_lang.specs.declared.links.Link.TheVariants as link
use Rattle.links_lang.specs.declared.links.Named.{Named}
use Rattle.links_lang.specs.declared.links.Named.TheVariants as named
use Rattle.pair_sides.specs.Sides.{machine_in}
use Rattle.start_value.specs.declared.layout.Layout.{Layout}
use Rattle.start_value.specs.declared.layout.Layout.TheVariants.{Rv32, Arm}
use Rattle.difference_replay.specs.declared.probes.Half.{Half}
use Rattle.difference_replay.specs.declared.probes.Half.TheVariants.{First, Second}
use Rattle.difference_replay.specs.declared.probes.RunEnd.{RunEnd}
use Rattle.difference_replay.specs.declared.probes.RunEnd.TheVariants.{Entry, Exit}
use Rattle.difference_replay.specs.declared.probes.Place.TheVariants as place
use Rattle.difference_replay.specs.declared.probes.Probe.{Probe}
use Rattle.difference_replay.specs.Probes.{byte_probe, probes_of, all_probes, place_on, IsReadablePlace, AreReadableOn}

flag_is : (form : Layout) (f : ℕ) → layout_flags form f ≡ true → f ≤ 3
flag_is (Rv32 compressed) f h = absurd (let e : false ≡ true = h in cc)
flag_is (Arm big profile) f h = grind (arith, nat_tests, h)

named_readable : (form : Layout) (n : Named) → IsOfForm form n → IsReadablePlace (layout_registers form) (place.Named n)
named_readable form named.Zero h = tt
named_readable form (named.Register r) h = h
named_readable form (named.Flag f) h = flag_is form f h

-- what a place is on a side whose states have a form
module _ (form : Layout) (half : Half) where
  abbrev IsFine : Probe → Type 0
  IsFine p = IsReadablePlace (layout_registers form) (place_on half p)

  byte_fine : (h : Half) (line a : ℕ) → IsReadablePlace (layout_registers form) (place_on h (byte_probe line a))
  byte_fine First line a = tt
  byte_fine Second line a = tt

  bytes_fine : (line : ℕ) (places : List ℕ) → All IsFine (map (byte_probe line) places)
  bytes_fine line [] = All-nil IsFine
  bytes_fine line (a ∷ places) =
      All-cons IsFine (byte_probe line a) (map (byte_probe line) places) (byte_fine half line a) (bytes_fine line places)

  one_fine : (p : Probe) → IsFine p → All IsFine (p ∷ [])
  one_fine p h = All-cons IsFine p [] h (All-nil IsFine)

-- the places of a link on a side
abbrev form_of : (first second : Layout) → Half → Layout
form_of first second First = first
form_of first second Second = second

module _ (first second : Layout) where
  pair_fine : (half : Half) (n : ℕ) (x y : Named) → IsOfForm first x → IsOfForm second y →
      IsFine (form_of first second half) half (record { line = n; first = place.Named x; second = place.Named y })
  pair_fine First n x y h k = named_readable first x h
  pair_fine Second n x y h k = named_readable second y k

  link_fine : (half : Half) (at : RunEnd) (l : Link) → IsLinkOf first second l → All (IsFine (form_of first second half) half) (probes_of at l)
  link_fine half Entry (link.Entry n x y) h = one_fine (form_of first second half) half _ (pair_fine half n x y h.0 h.1)
  link_fine half Entry (link.Exit n x y) h = All-nil (IsFine (form_of first second half) half)
  link_fine half Entry (link.Share n low high) h = bytes_fine (form_of first second half) half n (addresses low high)
  link_fine half Entry (link.Same n low high) h = All-nil (IsFine (form_of first second half) half)
  link_fine half Exit (link.Entry n x y) h = All-nil (IsFine (form_of first second half) half)
  link_fine half Exit (link.Exit n x y) h = one_fine (form_of first second half) half _ (pair_fine half n x y h.0 h.1)
  link_fine half Exit (link.Share n low high) h = All-nil (IsFine (form_of first second half) half)
  link_fine half Exit (link.Same n low high) h = bytes_fine (form_of first second half) half n (addresses low high)

  all_fine : (half : Half) (at : RunEnd) (links : List Link) → AreLinksOf first second links →
      All (IsFine (form_of first second half) half) (all_probes at links)
  all_fine half at [] h = All-nil (IsFine (form_of first second half) half)
  all_fine half at (l ∷ rest) h =
      All-append (IsFine (form_of first second half) half) (probes_of at l) (all_probes at rest)
      (link_fine half at l (All-head (IsLinkOf first second) l rest h))
      (all_fine half at rest (All-tail (IsLinkOf first second) l rest h))

  pub first_fine : (at : RunEnd) (links : List Link) → AreLinksOf first second links → AreReadableOn (machine_in first).has_register First (all_probes at links)
  first_fine at links h = by first (all_fine First at links h)
    where
      by : (form : Layout) → AreReadableOn (layout_registers form) First (all_probes at links) →
          AreReadableOn (machine_in form).has_register First (all_probes at links)
      by (Rv32 compressed) h = h
      by (Arm big profile) h = h

  pub second_fine : (at : RunEnd) (links : List Link) → AreLinksOf first second links →
      AreReadableOn (machine_in second).has_register Second (all_probes at links)
  second_fine at links h = by second (all_fine Second at links h)
    where
      by : (form : Layout) → AreReadableOn (layout_registers form) Second (all_probes at links) →
          AreReadableOn (machine_in form).has_register Second (all_probes at links)
      by (Rv32 compressed) h = h
      by (Arm big profile) h = h
