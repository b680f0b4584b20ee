-- Parts that give no kinds state what they say.
use Rattle.std.proofs.Common.{◌≡◌, refl, ap, ◌∙◌, List, [], ◌∷◌, ◌++◌}
use Rattle.std.specs.List.{flat_map}
use Rattle.ddl_text.specs.declared.tree.Kind.{Kind}
use Rattle.sd_ddl.specs.declared.part.Part.{Part}
use Rattle.sd_ddl.specs.declared.part.Part.TheVariants.{Gives, Node, Member, Edge}
use Rattle.sd_ddl.specs.declared.kinds.StatedKinds.{StatedKinds}
use Rattle.sd_ddl.specs.Kinds.{Name, given, collections, told}
use Rattle.sd_ddl.specs.Steps.{said, steps_from, steps, kinds_told}
use Rattle.sd_ddl.specs.Plain.{no_kinds}

abbrev pub NoGives : List Part → Type 0
NoGives [] = Unit {0}
NoGives (Gives g ∷ ps) = ⊥
NoGives (Node n ∷ ps) = NoGives ps
NoGives (Member c n ∷ ps) = NoGives ps
NoGives (Edge o l v ∷ ps) = NoGives ps

pub no_gives-append : (ps qs : List Part) → NoGives ps → NoGives qs → NoGives (ps ++ qs)
no_gives-append [] qs h k = k
no_gives-append (Gives g ∷ ps) qs h k = absurd h
no_gives-append (Node n ∷ ps) qs h k = no_gives-append ps qs h k
no_gives-append (Member c n ∷ ps) qs h k = no_gives-append ps qs h k
no_gives-append (Edge o l v ∷ ps) qs h k = no_gives-append ps qs h k

given_none : (ps : List Part) → NoGives ps → (c a : Name) → given ps c a ≡ []
given_none [] h c a = refl
given_none (Gives g ∷ ps) h c a = absurd h
given_none (Node n ∷ ps) h c a = given_none ps h c a
given_none (Member d n ∷ ps) h c a = given_none ps h c a
given_none (Edge o l v ∷ ps) h c a = given_none ps h c a

flat_none : (f : Name → List Kind) → ((c : Name) → f c ≡ []) → (cs : List Name) → flat_map f cs ≡ []
flat_none f none [] = refl
flat_none f none (c ∷ cs) = ap (λ ks. ks ++ flat_map f cs) (none c) ∙ flat_none f none cs

kinds_none : (ps : List Part) → NoGives ps → kinds_told ps ≡ no_kinds
kinds_none ps h = λ i o a. told (flat_none (λ c. given ps c a) (λ c. given_none ps h c a) (collections ps o) i)

steps_none : (kinds : Name → Name → StatedKinds) (front ps : List Part) → NoGives ps
    → steps_from kinds front ps ≡ flat_map (said kinds) ps
steps_none kinds front [] h = refl
steps_none kinds front (Gives g ∷ ps) h = absurd h
steps_none kinds front (Node n ∷ ps) h = ap (λ r. said kinds (Node n) ++ r)
    (steps_none kinds (front ++ Node n ∷ []) ps h)
steps_none kinds front (Member c n ∷ ps) h = ap (λ r. said kinds (Member c n) ++ r)
    (steps_none kinds (front ++ Member c n ∷ []) ps h)
steps_none kinds front (Edge o l v ∷ ps) h = ap (λ r. said kinds (Edge o l v) ++ r)
    (steps_none kinds (front ++ Edge o l v ∷ []) ps h)

-- all steps, one part after the other, with no kinds
pub steps_kindless : (ps : List Part) → NoGives ps → steps ps ≡ flat_map (said no_kinds) ps
steps_kindless ps h = steps_none (kinds_told ps) [] ps h ∙ ap (λ k. flat_map (said k) ps) (kinds_none ps h)
