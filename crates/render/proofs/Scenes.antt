-- What a template asks at given values of its loops is what it may ask.
use Rattle.std.proofs.Common.{◌≡◌, false, ◌⊎◌, ℕ, zero, suc, ◌<◌, List, [], ◌∷◌, ◌++◌, Option, Some, None, length, get_or, inl, inr, ⊎_elim, sym, ap, ◌∙◌, refl, subst, arith, true}
use Rattle.std.specs.Prelude.{Contains}
use Rattle.std.specs.Fmt.{decimal}
use Rattle.std.proofs.lemmas.List.Elements.{Contains-append_left, Contains-append_right, Contains-append_cases}
use Rattle.sd_value.specs.declared.Value.{Value}
use Rattle.sd_value.specs.Members.{Contains-here, Contains-there, Contains-nil, Contains-cons_cases, Contains-mapped}
use Rattle.page_spec.specs.Site.{Site, Env, IsBound, Starts, InRange}
use Rattle.page_spec.specs.Pieces.{Item, byte, embed, bytes, Expands, Joined, Formatted, delimiter, binding, HasTemplate}
use Rattle.page_spec.specs.Question.{Question, template}
use Rattle.tmpl.specs.Body.{Body, done, text, format, count, choice, repeat, TemplateFile, part_before, body_of}
use Rattle.tmpl.specs.declared.Part.{Part, Text, Format, Count, Choice', Repeat', Choice, Repeat}
use Rattle.tmpl.specs.declared.Format as formats
use Rattle.tmpl.specs.declared.Choice as choices
use Rattle.tmpl.specs.declared.Repeat as repeats
use Rattle.tmpl.proofs.Bodies.{choice_body, repeat_body}
use Rattle.tmpl.specs.declared.Expr.{Expr}
use Rattle.tmpl.specs.declared.Order.{Order}
use Rattle.tmpl.specs.declared.SortKey.{SortKey}
use Rattle.tmpl.specs.declared.Test.{Test}
use Rattle.tmpl.specs.declared.Test.TheVariants.{Any, Compares, Counts, Same}
use Rattle.tmpl.specs.declared.Mode.{Mode}
use Rattle.tmpl.specs.declared.Mode.TheVariants.{Written, Embed, Link, Labelled}
use Rattle.tmpl.specs.declared.WordRoot.{WordRoot}
use Rattle.tmpl.specs.declared.WordRoot.TheVariants.{Here, Loop, Collection}
use Rattle.tmpl.specs.Expressions.{Use, LoopOver, uses, bare_use, test_uses, loops, key_words, label_words, link_words, is_embed}
use Rattle.demand_spec.specs.Reads.{Word, Begins, at_here, at_collected, at_loop, Ranges, Passes, BodyAsks, MayAsk}
use Rattle.render.specs.Asks.{RangeAsks, KeyAsks, TestAsks, ArrangedAsks, ModeAsks, SceneAsks, ValueAsks, FrameAsks, LedAsks}
use Rattle.page_spec.specs.Page.{Embeds, Leads, nowhere}
use Rattle.sd_value.specs.declared.Term.{Term}
use Rattle.sd_value.specs.declared.Value.TheVariants.{Page}
use Rattle.render.proofs.Asked.{arranged_in}

-- ---- parts of a body

pub part_here : (s : Site) (e : Env) (p : Part) (rest : Body) (q : Question) → SceneAsks s e (part_before p done) q → SceneAsks s e (part_before p rest) q
part_here s e (Text t) rest q h = absurd h
part_here s e (Format f) rest q h = ⊎_elim inl (λ k. absurd k) h
part_here s e (Count x) rest q h = ⊎_elim inl (λ k. absurd k) h
part_here s e (Choice' neg v a m taken n other) rest q h = ⊎_elim inl (λ k. absurd k) h
part_here s e (Repeat' k v o n body) rest q h = ⊎_elim inl (λ k. absurd k) h

part_later : (s : Site) (e : Env) (p : Part) (rest : Body) (q : Question) → SceneAsks s e rest q → SceneAsks s e (part_before p rest) q
part_later s e (Text t) rest q h = h
part_later s e (Format f) rest q h = inr h
part_later s e (Count x) rest q h = inr h
part_later s e (Choice' neg v a m taken n other) rest q h = inr h
part_later s e (Repeat' k v o n body) rest q h = inr h

pub part_in : (s : Site) (e : Env) (parts : List Part) (i : ℕ) (p : Part) (q : Question) → i < length parts → p ≡ get_or parts i p → SceneAsks s e (part_before p done) q → SceneAsks s e (body_of parts) q
part_in s e [] i p q l is h = absurd (omega (arith, l))
part_in s e (x ∷ parts) zero p q l is h = part_here s e x (body_of parts) q (subst (λ (z : Part). SceneAsks s e (part_before z done) q) is h)
part_in s e (x ∷ parts) (suc i) p q l is h = part_later s e x (body_of parts) q (part_in s e parts i p q (omega (arith, l)) is h)

-- ---- what a part asks

pub format_asks : (s : Site) (e : Env) (part : Part) (f : formats.Format) (q : Question) → part ≡ Format f → (ArrangedAsks s e f.values f.order q ⊎ ((v : Value) × InRange s e f.values v × ModeAsks s f.mode v q)) → SceneAsks s e (part_before part done) q
format_asks s e part f q is h = subst (λ (z : Part). SceneAsks s e (part_before z done) q) (sym is) (inl h)

pub count_asks : (s : Site) (e : Env) (part : Part) (x : Expr) (q : Question) → part ≡ Count x → RangeAsks s e x q → SceneAsks s e (part_before part done) q
count_asks s e part x q is h = subst (λ (z : Part). SceneAsks s e (part_before z done) q) (sym is) (inl h)

pub choice_asks : (s : Site) (e : Env) (part : Part) (x : choices.Choice) (q : Question) → part ≡ Choice x → (TestAsks s e x.values x.test q ⊎ (SceneAsks s e (body_of x.taken.items) q ⊎ SceneAsks s e (body_of x.other.items) q)) → SceneAsks s e (part_before part done) q
choice_asks s e part x q is h = subst (λ (z : Body). SceneAsks s e z q) (sym (ap (λ p. part_before p done) is ∙ choice_body x done)) (inl h)

pub repeat_asks : (s : Site) (e : Env) (part : Part) (x : repeats.Repeat) (q : Question) → part ≡ Repeat x → (ArrangedAsks s e x.values x.order q ⊎ ((v : Value) × InRange s e x.values v × SceneAsks s (binding e x.number v) (body_of x.body.items) q)) → SceneAsks s e (part_before part done) q
repeat_asks s e part x q is h = subst (λ (z : Body). SceneAsks s e z q) (sym (ap (λ p. part_before p done) is ∙ repeat_body x done)) (inl h)

-- ---- scenes of a whole body

module _ (s : Site) (b : Body) (n : Value) where
  -- the scene presents n, and its loops' values are in the ranges of the body's loops
  pub record Fits (e : Env) : Type 0 where
    pub here : e.here ≡ n
    pub bound : (k : ℕ) (v : Value) → IsBound e.loops k v → (l : LoopOver) × (l.number ≡ k) × Contains (loops b) l × Ranges s b n l.expr v

  begins_root : (e : Env) (x : Expr) (root : WordRoot) (w : Value) → Fits e → x.root ≡ root → Starts s e root w → Begins s b n x w
  begins_root e x Here w fits is h = subst (Begins s b n x) (sym fits.here ∙ h) (at_here is)
  begins_root e x (Collection c) w fits is h = at_collected is h
  begins_root e x (Loop k) w fits is h =
      let (l, number, among, (u, begins, reaches)) = fits.bound k w h in
      at_loop (is ∙ ap Loop (sym number)) among begins reaches

  begins : (e : Env) (x : Expr) (w : Value) → Fits e → Starts s e x.root w → Begins s b n x w
  begins e x w fits h = begins_root e x x.root w fits refl h

  ranges : (e : Env) (x : Expr) (v : Value) → Fits e → InRange s e x v → Ranges s b n x v
  ranges e x v fits (u, start, reach) = (u, begins e x u fits start, reach)

  range_asks : (e : Env) (x : Use) (q : Question) → Fits e → Contains (uses b) x → RangeAsks s e x.expr q → BodyAsks s b n q
  range_asks e x q fits among (inl (c, root, is)) = subst (BodyAsks s b n) (sym is) (x, among, root)
  range_asks e x q fits among (inr (u, label, is, (w, start, passes))) = subst (BodyAsks s b n) (sym is) (x, among, inl (w, begins e x.expr w fits start, passes))

  key_asks : (e : Env) (x : Use) (word : Option Word) (v : Value) (q : Question) → Fits e → Contains (uses b) x → ((w : Word) → Contains (label_words word) w → Contains x.onward w) → InRange s e x.expr v → KeyAsks s word v q → BodyAsks s b n q
  key_asks e x None v q fits among onward r h = absurd h
  key_asks e x (Some word) v q fits among onward r (u, label, is, (w, same, passes)) =
      subst (BodyAsks s b n) (sym is) (x, among, inr (v, ranges e x.expr v fits r, (word, onward word (Contains-here word []), subst (λ z. Passes s z word u label) (sym same) passes)))

  only_word : (w z : Word) → Contains (w ∷ []) z → w ≡ z
  only_word w z c = ⊎_elim (λ e. e) (λ k. absurd (Contains-nil z k)) (Contains-cons_cases w [] z c)

  arranged_asks : (e : Env) (x : Use) (o : Order) (q : Question) → Fits e → Contains (uses b) x → ((w : Word) → Contains (key_words o.keys) w → Contains x.onward w) → ArrangedAsks s e x.expr o q → BodyAsks s b n q
  arranged_asks e x o q fits among onward (inl h) = range_asks e x q fits among h
  arranged_asks e x o q fits among onward (inr (v, r, (k, member, h))) =
      key_asks e x (Some k.word) v q fits among (λ w c. onward w (subst (Contains (key_words o.keys)) (only_word k.word w c) (Contains-mapped (λ (j : SortKey). j.word) o.keys k member))) r h

  mode_asks : (e : Env) (x : Expr) (m : Mode) (o : Order) (v : Value) (q : Question) → Fits e → Contains (uses b) record { expr = x; onward = key_words o.keys ++ link_words m; embeds = is_embed m } → InRange s e x v → ModeAsks s m v q → BodyAsks s b n q
  mode_asks e x (Written w) o v q fits among r h = absurd h
  mode_asks e x (Labelled label) o v q fits among r h = absurd h
  mode_asks e x Embed o v q fits among r h =
      let usage : Use = record { expr = x; onward = key_words o.keys ++ []; embeds = true } in
      subst (BodyAsks s b n) (sym h) (usage, among, refl, ranges e x v fits r)
  mode_asks e x (Link word) o v q fits among r h =
      let usage : Use = record { expr = x; onward = key_words o.keys ++ label_words word; embeds = is_embed (Link word) } in
      key_asks e usage word v q fits among (λ w k. Contains-append_right (key_words o.keys) (label_words word) w k) r h

  bound_more : (e : Env) (k : ℕ) (x : Expr) (v : Value) → Fits e → Contains (loops b) record { number = k; expr = x } → InRange s e x v → Fits (binding e k v)
  bound_more e k x v fits among r = record {
    here = fits.here;
    bound =
        λ j w h. ⊎_elim (λ (at : (k ≡ j) × (v ≡ w)). (record { number = k; expr = x }, at.0, among, subst (Ranges s b n x) at.1 (ranges e x v fits r))) (λ (other : (k ≡ j → ⊥) × IsBound e.loops j w). fits.bound j w other.1) h;
  }

  abbrev UsesWithin : Body → Type 0
  UsesWithin c = (x : Use) → Contains (uses c) x → Contains (uses b) x

  abbrev LoopsWithin : Body → Type 0
  LoopsWithin c = (l : LoopOver) → Contains (loops c) l → Contains (loops b) l

  test_asks : (e : Env) (x : Expr) (test : Test) (q : Question) → Fits e → ((y : Use) → Contains (test_uses x test) y → Contains (uses b) y) → TestAsks s e x test q → BodyAsks s b n q
  test_asks e x Any q fits us h = range_asks e (bare_use x) q fits (us (bare_use x) (Contains-here (bare_use x) [])) h
  test_asks e x (Compares a) q fits us h = range_asks e (bare_use x) q fits (us (bare_use x) (Contains-here (bare_use x) [])) h
  test_asks e x (Counts a) q fits us h = range_asks e (bare_use x) q fits (us (bare_use x) (Contains-here (bare_use x) [])) h
  test_asks e x (Same y) q fits us (inl h) = range_asks e (bare_use x) q fits (us (bare_use x) (Contains-here (bare_use x) (bare_use y ∷ []))) h
  test_asks e x (Same y) q fits us (inr h) =
      range_asks e (bare_use y) q fits (us (bare_use y) (Contains-there (bare_use x) (bare_use y ∷ []) (bare_use y) (Contains-here (bare_use y) []))) h

  scene_asks : (e : Env) (c : Body) (q : Question) → Fits e → UsesWithin c → LoopsWithin c → SceneAsks s e c q → BodyAsks s b n q
  scene_asks e done q fits us ls h = absurd h
  scene_asks e (text t rest) q fits us ls h = scene_asks e rest q fits us ls h
  scene_asks e (format x m o rest) q fits us ls (inl (inl h)) =
      let usage : Use = record { expr = x; onward = key_words o.keys ++ link_words m; embeds = is_embed m } in
      arranged_asks e usage o q fits (us usage (Contains-here usage (uses rest))) (λ w k. Contains-append_left (key_words o.keys) (link_words m) w k) h
  scene_asks e (format x m o rest) q fits us ls (inl (inr (v, r, h))) =
      let usage : Use = record { expr = x; onward = key_words o.keys ++ link_words m; embeds = is_embed m } in
      mode_asks e x m o v q fits (us usage (Contains-here usage (uses rest))) r h
  scene_asks e (format x m o rest) q fits us ls (inr h) =
      let usage : Use = record { expr = x; onward = key_words o.keys ++ link_words m; embeds = is_embed m } in
      scene_asks e rest q fits (λ y k. us y (Contains-there usage (uses rest) y k)) ls h
  scene_asks e (count x rest) q fits us ls (inl h) =
      let usage : Use = record { expr = x; onward = []; embeds = false } in
      range_asks e usage q fits (us usage (Contains-here usage (uses rest))) h
  scene_asks e (count x rest) q fits us ls (inr h) =
      let usage : Use = record { expr = x; onward = []; embeds = false } in
      scene_asks e rest q fits (λ y k. us y (Contains-there usage (uses rest) y k)) ls h
  scene_asks e (choice neg x test taken other rest) q fits us ls (inl (inl h)) =
      test_asks e x test q fits (λ y k. us y (Contains-append_left (test_uses x test) (uses taken ++ uses other ++ uses rest) y k)) h
  scene_asks e (choice neg x test taken other rest) q fits us ls (inl (inr (inl h))) =
      scene_asks e taken q fits
      (λ y k. us y (Contains-append_right (test_uses x test) (uses taken ++ uses other ++ uses rest) y (Contains-append_left (uses taken ++ uses other) (uses rest) y (Contains-append_left (uses taken) (uses other) y k))))
      (λ l k. ls l (Contains-append_left (loops taken ++ loops other) (loops rest) l (Contains-append_left (loops taken) (loops other) l k))) h
  scene_asks e (choice neg x test taken other rest) q fits us ls (inl (inr (inr h))) =
      scene_asks e other q fits
      (λ y k. us y (Contains-append_right (test_uses x test) (uses taken ++ uses other ++ uses rest) y (Contains-append_left (uses taken ++ uses other) (uses rest) y (Contains-append_right (uses taken) (uses other) y k))))
      (λ l k. ls l (Contains-append_left (loops taken ++ loops other) (loops rest) l (Contains-append_right (loops taken) (loops other) l k))) h
  scene_asks e (choice neg x test taken other rest) q fits us ls (inr h) =
      scene_asks e rest q fits
      (λ y k. us y (Contains-append_right (test_uses x test) (uses taken ++ uses other ++ uses rest) y (Contains-append_right (uses taken ++ uses other) (uses rest) y k)))
      (λ l k. ls l (Contains-append_right (loops taken ++ loops other) (loops rest) l k)) h
  scene_asks e (repeat k x o body rest) q fits us ls (inl (inl h)) =
      let usage : Use = record { expr = x; onward = key_words o.keys; embeds = false } in
      arranged_asks e usage o q fits (us usage (Contains-here usage (uses body ++ uses rest))) (λ w z. z) h
  scene_asks e (repeat k x o body rest) q fits us ls (inl (inr (v, r, h))) =
      let usage : Use = record { expr = x; onward = key_words o.keys; embeds = false } in
      let over : LoopOver = record { number = k; expr = x } in
      scene_asks (binding e k v) body q (bound_more e k x v fits (ls over (Contains-here over (loops body ++ loops rest))) r)
      (λ y z. us y (Contains-there usage (uses body ++ uses rest) y (Contains-append_left (uses body) (uses rest) y z)))
      (λ l z. ls l (Contains-there over (loops body ++ loops rest) l (Contains-append_left (loops body) (loops rest) l z))) h
  scene_asks e (repeat k x o body rest) q fits us ls (inr h) =
      let usage : Use = record { expr = x; onward = key_words o.keys; embeds = false } in
      let over : LoopOver = record { number = k; expr = x } in
      scene_asks e rest q fits
      (λ y z. us y (Contains-there usage (uses body ++ uses rest) y (Contains-append_right (uses body) (uses rest) y z)))
      (λ l z. ls l (Contains-there over (loops body ++ loops rest) l (Contains-append_right (loops body) (loops rest) l z))) h

pub whole_asks : (s : Site) (b : Body) (n : Value) (q : Question) → SceneAsks s record { here = n; loops = [] } b q → BodyAsks s b n q
whole_asks s b n q h =
    scene_asks s b n record { here = n; loops = [] } b q record { here = refl; bound = λ k v z. absurd z } (λ x k. k) (λ l k. k) h

-- ---- the template of what is embedded was asked for

no_embed : (t : List ℕ) (m : Value) → Contains (bytes t) (embed m) → ⊥
no_embed [] m h = Contains-nil (embed m) h
no_embed (b ∷ t) m h = ⊎_elim (λ e. cc) (no_embed t m) (Contains-cons_cases (byte b) (bytes t) (embed m) h)

no_embed_between : (d : Option (List ℕ)) (m : Value) → Contains (delimiter d) (embed m) → ⊥
no_embed_between None m h = Contains-nil (embed m) h
no_embed_between (Some t) m h = no_embed t m h

same_embed : (v m : Value) → Contains (embed v ∷ []) (embed m) → v ≡ m
same_embed v m h = ⊎_elim (λ e. cc) (λ k. absurd (Contains-nil (embed m) k)) (Contains-cons_cases (embed v) [] (embed m) h)

joined_embed : (P : Value → List Item → Type 0) (d : Option (List ℕ)) (vs : List Value) (ps : List Item) (m : Value) → Joined P (delimiter d) vs ps → Contains ps (embed m) → (v : Value) × (a : List Item) × Contains vs v × P v a × Contains a (embed m)
joined_embed P d [] ps m j h = absurd (Contains-nil (embed m) (subst (λ l. Contains l (embed m)) j h))
joined_embed P d (v ∷ []) ps m j h = (v, ps, Contains-here v [], j, h)
joined_embed P d (v ∷ w ∷ vs) ps m (a, b, p, j, e) h =
    ⊎_elim (λ k. ⊎_elim (λ i. (v, a, Contains-here v (w ∷ vs), p, i)) (λ i. absurd (no_embed_between d m i)) (Contains-append_cases a (delimiter d) (embed m) k))
    (λ k. let (x, c, among, q, i) = joined_embed P d (w ∷ vs) b m j k in (x, c, Contains-there v (w ∷ vs) x among, q, i))
    (Contains-append_cases (a ++ delimiter d) b (embed m) (subst (λ l. Contains l (embed m)) e h))

formatted_embed : (s : Site) (f : TemplateFile) (mode : Mode) (v : Value) (ps : List Item) (m : Value) → Formatted s f mode v ps → Contains ps (embed m) → ModeAsks s mode v (template m)
formatted_embed s f (Written w) v ps m h c = absurd (no_embed _ m (subst (λ l. Contains l (embed m)) h c))
formatted_embed s f (Link None) v ps m h c = absurd (no_embed _ m (subst (λ l. Contains l (embed m)) h c))
formatted_embed s f (Link (Some word)) v ps m (inl (label, key, h)) c = absurd (no_embed _ m (subst (λ l. Contains l (embed m)) h c))
formatted_embed s f (Link (Some word)) v ps m (inr (key, h)) c = absurd (no_embed _ m (subst (λ l. Contains l (embed m)) h c))
formatted_embed s f (Labelled label) v ps m h c = absurd (no_embed _ m (subst (λ l. Contains l (embed m)) h c))
formatted_embed s f Embed v ps m (inl (k, has, h)) c = ap template (sym (same_embed v m (subst (λ l. Contains l (embed m)) h c)))
formatted_embed s f Embed v ps m (inr (none, h)) c = absurd (no_embed _ m (subst (λ l. Contains l (embed m)) h c))

pub embed_asked : (s : Site) (f : TemplateFile) (e : Env) (b : Body) (ps : List Item) (m : Value) → Expands s f e b ps → Contains ps (embed m) → SceneAsks s e b (template m)
embed_asked s f e done ps m h c = absurd (Contains-nil (embed m) (subst (λ l. Contains l (embed m)) h c))
embed_asked s f e (text t rest) ps m (b, h, is) c =
    ⊎_elim (λ k. absurd (no_embed t m k)) (λ k. embed_asked s f e rest b m h k) (Contains-append_cases (bytes t) b (embed m) (subst (λ l. Contains l (embed m)) is c))
embed_asked s f e (format x mode o rest) ps m (vs, a, b, arranged, joined, h, is) c =
    ⊎_elim
    (λ k. let (v, p, among, formatted, i) = joined_embed (Formatted s f mode) o.delimiter vs a m joined k in inl (inr (v, arranged_in s e x o vs v arranged among, formatted_embed s f mode v p m formatted i)))
    (λ k. inr (embed_asked s f e rest b m h k)) (Contains-append_cases a b (embed m) (subst (λ l. Contains l (embed m)) is c))
embed_asked s f e (count x rest) ps m (vs, b, listing, h, is) c =
    ⊎_elim (λ k. absurd (no_embed (decimal (length vs)) m k)) (λ k. inr (embed_asked s f e rest b m h k)) (Contains-append_cases (bytes (decimal (length vs))) b (embed m) (subst (λ l. Contains l (embed m)) is c))
embed_asked s f e (choice neg x test taken other rest) ps m (a, b, inl (t, ha), h, is) c =
    ⊎_elim (λ k. inl (inr (inl (embed_asked s f e taken a m ha k)))) (λ k. inr (embed_asked s f e rest b m h k)) (Contains-append_cases a b (embed m) (subst (λ l. Contains l (embed m)) is c))
embed_asked s f e (choice neg x test taken other rest) ps m (a, b, inr (t, ha), h, is) c =
    ⊎_elim (λ k. inl (inr (inr (embed_asked s f e other a m ha k)))) (λ k. inr (embed_asked s f e rest b m h k)) (Contains-append_cases a b (embed m) (subst (λ l. Contains l (embed m)) is c))
embed_asked s f e (repeat k x o body rest) ps m (vs, a, b, arranged, joined, h, is) c =
    ⊎_elim
    (λ z. let (v, p, among, expands, i) = joined_embed (λ v. Expands s f (binding e k v) body) o.delimiter vs a m joined z in inl (inr (v, arranged_in s e x o vs v arranged among, embed_asked s f (binding e k v) body p m expands i)))
    (λ z. inr (embed_asked s f e rest b m h z)) (Contains-append_cases a b (embed m) (subst (λ l. Contains l (embed m)) is c))

-- ---- values that are presented

pub value_asks : (s : Site) (f : TemplateFile) (n : Value) (k : ℕ) (body : Body) (q : Question) → HasTemplate s f n k → body ≡ get_or f.bodies k done → SceneAsks s record { here = n; loops = [] } body q → ValueAsks s f n q
value_asks s f n k body q has is h = (body, (k, has, is), whole_asks s body n q h)

pub embed_value_asks : (s : Site) (f : TemplateFile) (n m : Value) → Embeds s f n m → ValueAsks s f n (template m)
embed_value_asks s f n m (ps, (k, has, expands), among) = value_asks s f n k (get_or f.bodies k done) (template m) has refl (embed_asked s f record { here = n; loops = [] } (get_or f.bodies k done) ps m expands among)

pub led_asks : (s : Site) (f : TemplateFile) (p n m : Value) (q : Question) → Leads s f p n → Leads s f p m → Embeds s f n m → FrameAsks s f m q → LedAsks s f p q
led_asks s f p n m q to_n to_m e (inl is) = (n, to_n, subst (ValueAsks s f n) (sym is) (embed_value_asks s f n m e))
led_asks s f p n m q to_n to_m e (inr h) = (m, to_m, h)

pub may_led : (s : Site) (f : TemplateFile) (p : Term) (v : Value) (q : Question) → s.has p → ((k : ℕ) × HasTemplate s f v k) → v ≡ Page p → LedAsks s f v q → MayAsk s f p q
may_led s f p v q there (k, has) is (m, leads, h) = inr (m, ((there, (k, subst (λ w. HasTemplate s f w k) is has)), subst (λ w. Leads s f w m) is leads), h)

pub may_frame : (s : Site) (f : TemplateFile) (p : Term) (v : Value) (q : Question) → s.has p → v ≡ Page p → FrameAsks s f v q → MayAsk s f p q
may_frame s f p v q there is (inl e) = inl (inr (e ∙ ap template is))
may_frame s f p v q there is (inr (b, (k, has, at), h)) = may_led s f p v q there (k, has) is (v, nowhere, (b, (k, has, at), h))
