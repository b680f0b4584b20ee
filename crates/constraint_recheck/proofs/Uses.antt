-- A use from a mention's term is found where there is one.
use Rattle.std.proofs.Common.{◌≡◌, ℕ, ◌≤◌, [], ◌∷◌, refl}
use Rattle.std.specs.Prelude.{Bool, true, ◌&&◌, nat_le, Contains, All, Option, None, option_map}
use Rattle.std.specs.Bool.{Decides}
use Rattle.sd_value.specs.Names.{Name, Label}
use Rattle.rpe.specs.Regex.{Regex}
use Rattle.query_spec.specs.Query.{quoted}
use Rattle.site_spec.specs.Site.{Scope}
use Rattle.constraint_spec.specs.Placed.{PlacedLink, Mention, links_of}
use Rattle.constraint_spec.specs.Use.{LinkUse}
use Rattle.constraint_spec.specs.Certificate.{IsOf, IsUseFrom, ShowsLinkTo, ShowsLink}
use Rattle.constraint_recheck.specs.Entails.{Tests, IsKnown, AreKnown, AreTests}
use Rattle.constraint_recheck.specs.Recheck.{is_of, is_quoted}
use Rattle.query_parts.proofs.Bools.{both, always}
use Rattle.constraint_recheck.proofs.Links.{of_decides, quoted_decides}
use Rattle.constraint_recheck.proofs.Recheck.{link_known}
use Rattle.constraint_laws.proofs.Links.{numbered_within}
use Rattle.constraint_recheck.specs.Options.{Finds}
use Rattle.constraint_recheck.specs.Search.{Numbered, numbered_from, find_names, search_budget, within_budget, if_asked, use_by, find_use, use_tried, find_shown}
use Rattle.constraint_recheck.proofs.Recheck.{le_decides}
use Rattle.constraint_recheck.proofs.Options.{finds_as, finds_map, finds_if, first_finds}
use Rattle.constraint_recheck.proofs.Due.{IsUseWith, names_found}
use Rattle.constraint_recheck.proofs.Numbered.{is_numbered, has_numbered}

-- what is found within the budget
pub within_finds : {X : Type 0} (P : X → Type 0) (n : ℕ) (o : Option X) → Finds P o → Finds (λ x. P x × (n ≤ search_budget)) (within_budget n o)
within_finds {X} P n o h =
    finds_if (λ (x : X). P x × (n ≤ search_budget)) (n ≤ search_budget) (λ x g. g.1) (nat_le n search_budget) (le_decides n search_budget) o
    (λ le. finds_as P (λ (x : X). P x × (n ≤ search_budget)) (λ x g. (g, le)) (λ x g. g.0) o h)

module _ (known : Regex → Type 0) (tests : Tests) (are : AreTests known tests) (q : Scope) (ks : AreKnown known q) where
  abbrev Shown : Label → (PlacedLink → Type 0) → Mention → LinkUse → Type 0
  Shown l Good m u = (k : PlacedLink) × IsUseFrom q l m u k × Good k

  module _ (l : Label) (good : PlacedLink → Bool) (Good : PlacedLink → Type 0) (d : (k : PlacedLink) → Decides (good k) (Good k)) (m : Mention) (km : All (IsKnown known) m.conditions) where
    abbrev By : Numbered → LinkUse → Type 0
    By n u = (n.number ≡ u.link) × (IsUseFrom q l m u n.link × Good n.link)

    one_finds : (n : Numbered) → Contains (numbered_from 1 (links_of q)) n
        → Finds (By n) (if_asked l good (use_by tests q m) None n)
    one_finds n within =
        let numbered = is_numbered (links_of q) n within in
        let kk = link_known known tests are q ks n.link (numbered_within (links_of q) n.number n.link numbered) in
        finds_if (By n) ((n.link.link.label ≡ quoted l) × Good n.link) (λ u h. (h.1.0.label, h.1.1))
        (is_quoted l n.link.link.label && good n.link) (both (is_quoted l n.link.link.label) (good n.link) (quoted_decides l n.link.link.label) (d n.link))
        (option_map (λ ys. record { link = n.number; names = ys }) (find_names tests q.version m.conditions n.link m.term None))
        (λ h. finds_map (IsUseWith known tests are q.version m.conditions km n.link kk m.term None) (By n) (λ ys. record { link = n.number; names = ys })
        (λ ys w. (refl, (record { is_use = record { numbered = numbered; is_use = w.0 }; label = h.0; source = w.1 }, h.1)))
        (λ u w. (u.names, (w.1.0.is_use.is_use, w.1.0.source, tt)))
        (find_names tests q.version m.conditions n.link m.term None)
        (names_found known tests are q.version m.conditions km n.link kk m.term None))

    pub use_finds : Finds (Shown l Good m) (find_use tests q l good m)
    use_finds =
        finds_as (λ u. (n : Numbered) × Contains (numbered_from 1 (links_of q)) n × By n u) (Shown l Good m)
        (λ u h. (h.0.link, h.2.1.0, h.2.1.1))
        (λ u h. (record { number = u.link; link = h.0 }, has_numbered (links_of q) u.link h.0 h.1.is_use.numbered, (refl, (h.1, h.2))))
        (find_use tests q l good m)
        (first_finds (if_asked l good (use_by tests q m) None) By (numbered_from 1 (links_of q)) one_finds)

  pub link_to_finds : (l : Label) (h : Name) (m : Mention) → All (IsKnown known) m.conditions
      → Finds (λ uses. ShowsLinkTo q l h m uses × (use_tried tests q l (λ k. is_of h k.link.target) m ≤ search_budget)) (find_shown tests q l (λ k. is_of h k.link.target) m)
  link_to_finds l h m km =
      within_finds (ShowsLinkTo q l h m) (use_tried tests q l (λ k. is_of h k.link.target) m) (option_map (λ u. u ∷ []) (find_use tests q l (λ k. is_of h k.link.target) m))
      (finds_map (Shown l (λ k. IsOf h k.link.target) m) (ShowsLinkTo q l h m) (λ u. u ∷ [])
      (λ u s. record { given = u; alone = refl; link = s.0; is_use = s.1; target = s.2 })
      (λ uses s. (s.given, (s.link, s.is_use, s.target)))
      (find_use tests q l (λ k. is_of h k.link.target) m)
      (use_finds l (λ k. is_of h k.link.target) (λ k. IsOf h k.link.target) (λ k. of_decides h k.link.target) m km))

  pub link_finds : (l : Label) (m : Mention) → All (IsKnown known) m.conditions
      → Finds (λ uses. ShowsLink q l m uses × (use_tried tests q l (λ k. true) m ≤ search_budget)) (find_shown tests q l (λ k. true) m)
  link_finds l m km =
      within_finds (ShowsLink q l m) (use_tried tests q l (λ k. true) m) (option_map (λ u. u ∷ []) (find_use tests q l (λ k. true) m))
      (finds_map (Shown l (λ k. Unit {0}) m) (ShowsLink q l m) (λ u. u ∷ [])
      (λ u s. record { given = u; alone = refl; link = s.0; is_use = s.1 })
      (λ uses s. (s.given, (s.link, s.is_use, tt)))
      (find_use tests q l (λ k. true) m)
      (use_finds l (λ k. true) (λ k. Unit {0}) (λ k. always tt) m km))
