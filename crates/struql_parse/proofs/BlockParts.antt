-- Clauses and blocks, with their readers.
use Rattle.std.proofs.Common.{◌≡◌, ℕ, zero, suc, ◌<◌, ◌≤◌, Bool, true, false, nat_eq, List, [], ◌∷◌, ◌++◌, length, refl, sym, subst, ap, ◌∙◌, inl, inr, arith}
use Rattle.std.specs.Prelude.{◌||◌, codes}
use Rattle.std.proofs.lemmas.List.{append-nil}
use Rattle.sd_lex.specs.declared.token.Token.{Token}
use Rattle.sd_lex.specs.declared.token.TokenKind.TheVariants as kinds
use Rattle.sd_lex.specs.declared.token.Sign.{Sign}
use Rattle.sd_lex.specs.declared.token.Sign.TheVariants as signs
use Rattle.struql_ast.specs.Written.{Condition, Term, Link, Collect, Blocks, no_blocks}
use Rattle.grammar.specs.Grammar as grammar
use Rattle.grammar.specs.Grammar.{nothing, one, either, iterated, guarded, steps, never}
use Rattle.grammar.proofs.Parts.{Opens, opens_then, first_is, Part, ◌>>=◌, give_part, then_part, then_opens, weaken_part, iterate_part, iterated_follow, some_part, Some_of, iterated_map, shrinks}
use Rattle.grammar.specs.Reading.{Outcome, Read, Past, starts, guard}
use Rattle.grammar.proofs.Laws.{Always, Stops}
use Rattle.grammar.proofs.Iterate.{iterate_reads}
use Rattle.struql_text.specs.declared.keyword.Keyword.{Keyword}
use Rattle.struql_text.specs.declared.keyword.Keyword.TheVariants as words
use Rattle.struql_text.specs.Terminals.{from_to, is_keyword, is_found, keyword_of, rank}
use Rattle.token_reader.specs.Terminals.{is_sign, number}
use Rattle.struql_text.specs.Expression.{sign, keyword}
use Rattle.struql_text.specs.Grammar.{listed, term, link, collect, condition}
use Rattle.struql_parse.specs.Blocks.{clause, optional, Body, empty_clauses, onto_end, braces, body_of, body}
use Rattle.struql_text.specs.Reading.{read_keyword, read_condition, read_term, read_link, read_collect}
use Rattle.struql_parse.specs.Reading.{read_clause, read_optional, read_braces, read_blocks, read_body_of, read_body, read_below, has_room}
use Rattle.struql_text.proofs.TokenParts.{somewhere, sign_part, sign_opens, is_that, sign_no_keyword, keyword_opens, keyword_no_sign, other_keyword, keyword_part}
use Rattle.token_reader.proofs.Terminals.{made, other_sign}
use Rattle.struql_text.proofs.ListParts.{AfterList, listed_part}
use Rattle.struql_text.proofs.TermParts.{maybe_part, ends_with, term_part, link_part, collect_part}
use Rattle.struql_text.proofs.ConditionParts.{E, S, condition_part}
use Rattle.token_reader.specs.Gives.{IsReal}
use Rattle.grammar.specs.Fault.{Every}

-- ---- the words of clauses

is_where : is_found words.Where (keyword_of (codes "WHERE")) ≡ true
unfolding keyword_of
is_where = refl

is_create : is_found words.Create (keyword_of (codes "CREATE")) ≡ true
unfolding keyword_of
is_create = refl

is_link : is_found words.Link (keyword_of (codes "LINK")) ≡ true
unfolding keyword_of
is_link = refl

is_collect : is_found words.Collect (keyword_of (codes "COLLECT")) ≡ true
unfolding keyword_of
is_collect = refl

pub where_part : Part IsReal (keyword words.Where) (keyword words.Where) Always (read_keyword words.Where)
where_part = keyword_part words.Where (codes "WHERE") is_where (refl, (refl, (refl, (refl, (refl, tt)))))

pub create_part : Part IsReal (keyword words.Create) (keyword words.Create) Always (read_keyword words.Create)
create_part = keyword_part words.Create (codes "CREATE") is_create (refl, (refl, (refl, (refl, (refl, (refl, tt))))))

pub link_word_part : Part IsReal (keyword words.Link) (keyword words.Link) Always (read_keyword words.Link)
link_word_part = keyword_part words.Link (codes "LINK") is_link (refl, (refl, (refl, (refl, tt))))

pub collect_word_part : Part IsReal (keyword words.Collect) (keyword words.Collect) Always (read_keyword words.Collect)
collect_word_part = keyword_part words.Collect (codes "COLLECT") is_collect (refl, (refl, (refl, (refl, (refl, (refl, (refl, tt)))))))

-- ---- what may stand behind a clause of each sort in a block

abbrev pub behind_collect : Token → Bool
behind_collect t = is_sign signs.OpenBrace t || is_sign signs.CloseBrace t

abbrev pub behind_link : Token → Bool
behind_link t = is_keyword words.Collect t || behind_collect t

abbrev pub behind_create : Token → Bool
behind_create t = is_keyword words.Link t || behind_link t

abbrev pub behind_where : Token → Bool
behind_where t = is_keyword words.Create t || behind_create t

either_way : (a b : Bool) (W : Type 0) → (a ≡ true → W) → (b ≡ true → W) → (a || b) ≡ true → W
either_way true b W f g e = f refl
either_way false b W f g e = g e

pub or_left : (a b : Bool) → a ≡ true → (a || b) ≡ true
or_left a b e = rw e refl

pub or_right : (a b : Bool) → b ≡ true → (a || b) ≡ true
or_right true b e = refl
or_right false b e = e

module _ (s : Sign) (no_open : nat_eq (number signs.OpenBrace) (number s) ≡ false) (no_close : nat_eq (number signs.CloseBrace) (number s) ≡ false) (t : Token) where
  no_sign_4 : behind_collect t ≡ true → is_sign s t ≡ false
  no_sign_4 = either_way (is_sign signs.OpenBrace t) (is_sign signs.CloseBrace t) _ (other_sign signs.OpenBrace s t.kind no_open) (other_sign signs.CloseBrace s t.kind no_close)

  no_sign_3 : behind_link t ≡ true → is_sign s t ≡ false
  no_sign_3 = either_way (is_keyword words.Collect t) (behind_collect t) _ (keyword_no_sign words.Collect s t.kind) no_sign_4

  no_sign_2 : behind_create t ≡ true → is_sign s t ≡ false
  no_sign_2 = either_way (is_keyword words.Link t) (behind_link t) _ (keyword_no_sign words.Link s t.kind) no_sign_3

  no_sign_1 : behind_where t ≡ true → is_sign s t ≡ false
  no_sign_1 = either_way (is_keyword words.Create t) (behind_create t) _ (keyword_no_sign words.Create s t.kind) no_sign_2

module _ (t : Token) where
  no_word_4 : (w : Keyword) → behind_collect t ≡ true → is_keyword w t ≡ false
  no_word_4 w = either_way (is_sign signs.OpenBrace t) (is_sign signs.CloseBrace t) _ (sign_no_keyword signs.OpenBrace w t.kind) (sign_no_keyword signs.CloseBrace w t.kind)

  no_word_3 : (w : Keyword) → nat_eq (rank words.Collect) (rank w) ≡ false → behind_link t ≡ true → is_keyword w t ≡ false
  no_word_3 w d = either_way (is_keyword words.Collect t) (behind_collect t) _ (other_keyword words.Collect w t.kind d) (no_word_4 w)

  no_word_2 : (w : Keyword) → nat_eq (rank words.Collect) (rank w) ≡ false → nat_eq (rank words.Link) (rank w) ≡ false → behind_create t ≡ true → is_keyword w t ≡ false
  no_word_2 w d e = either_way (is_keyword words.Link t) (behind_link t) _ (other_keyword words.Link w t.kind e) (no_word_3 w d)

  no_word_1 : (w : Keyword) → nat_eq (rank words.Collect) (rank w) ≡ false → nat_eq (rank words.Link) (rank w) ≡ false → nat_eq (rank words.Create) (rank w) ≡ false → behind_where t ≡ true → is_keyword w t ≡ false
  no_word_1 w d e f = either_way (is_keyword words.Create t) (behind_create t) _ (other_keyword words.Create w t.kind f) (no_word_2 w d e)

-- a token of this set stands first
abbrev pub Begins : (Token → Bool) → List Token → Type 0
Begins first rest = starts first rest ≡ true

pub stops_by : (first other : Token → Bool) → ((t : Token) → first t ≡ true → other t ≡ false) → (rest : List Token) → Begins first rest → Stops other rest
stops_by first other known [] f = refl
stops_by first other known (t ∷ rest) f = known t f

begins_by : (first other : Token → Bool) → ((t : Token) → first t ≡ true → other t ≡ true) → (rest : List Token) → Begins first rest → Begins other rest
begins_by first other known [] f = absurd cc
begins_by first other known (t ∷ rest) f = known t f

-- ---- clauses

module _ {A : Type 0} {P U : List Token → A → Type 0} {F : List Token → Type 0} {p : List Token → Outcome Token A} (k : Keyword) (word : Part IsReal (keyword k) (keyword k) Always (read_keyword k)) (part : Part IsReal P U F p)
    (may : (t : Token) (later : List Token) → is_sign signs.Comma t ≡ true → F (t ∷ later)) where
  clause_part : Part IsReal (clause k P) (clause k U) (AfterList F) (read_clause k p)
  unfolding read_clause
  clause_part = do
    _ ← word
    listed_part part may

  -- where a clause may stand before tokens of the set `after`
  optional_part : (after : Token → Bool) → ((rest : List Token) → Begins after rest → F rest) → ((t : Token) → after t ≡ true → is_sign signs.Comma t ≡ false) → ((t : Token) → after t ≡ true → is_keyword k t ≡ false)
      → Part IsReal (optional k P) (optional k U) (Begins after) (read_optional k p)
  unfolding read_optional
  optional_part after follow no_comma no_word =
      maybe_part (is_keyword k) [] (weaken_part (Begins after) (λ rest f. (follow rest f, stops_by after (is_sign signs.Comma) no_comma rest f)) clause_part)
      (opens_then (keyword k) _ _ (keyword_opens k _ (λ t is. is)))
      (stops_by after (is_keyword k) no_word)

wheres : (version : ℕ) → Part IsReal (optional words.Where (condition version E)) (optional words.Where (condition version S)) (Begins behind_where) (read_optional words.Where (read_condition version))
wheres version = optional_part words.Where where_part (condition_part version) (λ _ _ _. tt) behind_where (λ _ _. tt) (no_sign_1 signs.Comma refl refl) (λ t. no_word_1 t words.Where refl refl refl)

creates : (version : ℕ) → Part IsReal (optional words.Create (term version)) (optional words.Create (term version)) (Begins behind_create) (read_optional words.Create (read_term version))
creates version = optional_part words.Create create_part (term_part version) (λ _ _ _. tt) behind_create (λ _ _. tt) (no_sign_2 signs.Comma refl refl) (λ t. no_word_2 t words.Create refl refl)

links : (version : ℕ) → Part IsReal (optional words.Link (link version)) (optional words.Link (link version)) (Begins behind_link) (read_optional words.Link (read_link version))
links version =
    optional_part words.Link link_word_part (link_part version) (λ t later is. other_sign signs.Comma signs.OpenParen t.kind refl is) behind_link
    (stops_by behind_link (is_sign signs.OpenParen) (no_sign_3 signs.OpenParen refl refl)) (no_sign_3 signs.Comma refl refl) (λ t. no_word_3 t words.Link refl)

collects : (version : ℕ) → Part IsReal (optional words.Collect (collect version)) (optional words.Collect (collect version)) (Begins behind_collect) (read_optional words.Collect (read_collect version))
collects version = optional_part words.Collect collect_word_part (collect_part version) (λ _ _ _. tt) behind_collect (λ _ _. tt) (no_sign_4 signs.Comma refl refl) (λ t. no_word_4 t words.Collect)

-- ---- blocks

-- a closing brace stands behind a body
abbrev pub AfterBody : List Token → Type 0
AfterBody = Begins (is_sign signs.CloseBrace)

abbrev pub empty_body : Body
empty_body = record { clauses = empty_clauses; blocks = no_blocks }

nothing_in : (version : ℕ) (room : Bool) (inner : List Token → Body → Type 0) → body_of version S room inner [] empty_body
nothing_in version room inner = (
  [],
  [],
  [],
  refl,
  inr (refl, refl),
  (
    [],
    [],
    [],
    refl,
    inr (refl, refl),
    (
      [],
      [],
      [],
      refl,
      inr (refl, refl),
      (
        [],
        [],
        [],
        refl,
        inr (refl, refl),
        ([], [], no_blocks, refl, (0, (refl, refl)), (refl, refl)),
      ),
    ),
  ),
)

pub nothing_spelled : (version depth : ℕ) → body version S depth [] empty_body
nothing_spelled version zero = nothing_in version false never
nothing_spelled version (suc depth) = nothing_in version true (body version S depth)

braces_opens : (inner : List Token → Body → Type 0) (so_far : Blocks) → Opens (braces inner so_far) (λ t. is_sign signs.OpenBrace t ≡ true)
braces_opens inner so_far = opens_then (sign signs.OpenBrace) _ _ (sign_opens signs.OpenBrace _ (λ t is. is))

braces_opened : (inner : List Token → Body → Type 0) → inner [] empty_body → (so_far : Blocks) (t : Token) → is_sign signs.OpenBrace t ≡ true → (x : List Token) × (v : Blocks) × braces inner so_far (t ∷ x) v × Every IsReal x
braces_opened inner phrase so_far t is =
    let close = made (kinds.Sign signs.CloseBrace) in (
      close ∷ [],
      onto_end so_far empty_body (from_to t.span somewhere),
      (
        t ∷ [],
        close ∷ [],
        t.span,
        refl,
        is_that signs.OpenBrace t is,
        ([], close ∷ [], empty_body, refl, phrase, (close ∷ [], [], somewhere, refl, (close, refl, refl), (refl, refl))),
      ),
      ((125 ∷ [], refl), tt),
    )

close_no_open : (rest : List Token) → AfterBody rest → Stops (is_sign signs.OpenBrace) rest
close_no_open = stops_by (is_sign signs.CloseBrace) (is_sign signs.OpenBrace) (λ t. other_sign signs.CloseBrace signs.OpenBrace t.kind refl)

module _ {I V : List Token → Body → Type 0} {read : List Token → Outcome Token Body} (inner : Part IsReal I V AfterBody read) where
  pub braces_part : (so_far : Blocks) → Part IsReal (braces I so_far) (braces V so_far) Always (read_braces read so_far)
  unfolding read_braces
  braces_part so_far = do
    opening ← sign_part signs.OpenBrace refl
    then_opens (λ t. is_sign signs.CloseBrace t ≡ true) inner
        (λ b. do
          close ← sign_part signs.CloseBrace refl
          give_part (onto_end so_far b (from_to opening close)))
        (λ b. opens_then (sign signs.CloseBrace) _ _ (sign_opens signs.CloseBrace _ (λ t is. is)))
        (λ t later is. is)

  blocks_with_room : V [] empty_body → (state : Blocks) → Part IsReal (iterated (λ s. guarded true (braces I s)) state) (iterated (λ s. braces V s) state) AfterBody (read_blocks true read state)
  blocks_with_room phrase =
      iterate_part (is_sign signs.OpenBrace) (λ _. true) (λ s. braces I s) (λ s. braces V s) Always AfterBody (read_braces read) braces_part (braces_opens V) close_no_open (λ _ _ _. tt) (λ _ _. tt) (braces_opened V phrase)

-- no block fits on
blocks_without_room : (I V : List Token → Body → Type 0) (read : List Token → Outcome Token Body) → V [] empty_body → (state : Blocks) → Part IsReal (iterated (λ s. guarded false (braces I s)) state) (iterated (λ s. braces V s) state) AfterBody (read_blocks false read state)
blocks_without_room I V read phrase state = record {
  reads = iterate_reads IsReal (is_sign signs.OpenBrace) (λ _. false) (λ s. guarded false (braces I s)) (λ s. braces V s) Always AfterBody (λ s. guard false (read_braces read s)) (λ s. first_is (braces V s) (is_sign signs.OpenBrace) true (braces_opens V s)) close_no_open
      (λ y s last rest h f. iterated_follow (λ s. braces V s) (is_sign signs.OpenBrace) AfterBody Always (braces_opens V) (λ _ _ _. tt) (λ _ _. tt) y s last rest h f)
      (λ s is tokens. absurd cc) (λ s is tokens _. refl) (λ s x v is h. h) (braces_opened V phrase) state;
  phrase = ([], state, (0, (refl, refl)), tt);
}

-- what a body's parts begin with, or what stands behind it where they are empty

begins_optional : {A B : Type 0} (k : Keyword) (P : List Token → A → Type 0) (Q : List A → List Token → B → Type 0) (narrow wide : Token → Bool) → ((t : Token) → is_keyword k t ≡ true → wide t ≡ true) → ((t : Token) → narrow t ≡ true → wide t ≡ true)
    → ((v : List A) (y : List Token) (w : B) (rest : List Token) → Q v y w → AfterBody rest → Begins narrow (y ++ rest))
    → (y : List Token) (w : B) (rest : List Token) → grammar.◌>>=◌ (optional k P) Q y w → AfterBody rest → Begins wide (y ++ rest)
begins_optional k P Q narrow wide word wider later y w rest h f = by h.4
  where
    by : optional k P h.0 h.2 → Begins wide (y ++ rest)
    by (inl c) =
        let o = opens_then (keyword k) (λ _. listed P) (λ t. is_keyword k t ≡ true) (keyword_opens k _ (λ t is. is)) h.0 h.2 c in
        subst (λ x. Begins wide (x ++ rest)) (sym (h.3 ∙ ap (λ x. x ++ h.1) o.2)) (word o.0 o.3)
    by (inr c) = subst (λ x. Begins wide (x ++ rest)) (sym (h.3 ∙ ap (λ x. x ++ h.1) c.0)) (begins_by narrow wide wider (h.1 ++ rest) (later h.2 h.1 w rest h.5 f))

module _ (version : ℕ) (V : List Token → Body → Type 0) where
  abbrev tail_5 : List Condition → List Term → List Link → List Collect → List Token → Body → Type 0
  tail_5 cs ts ks os = grammar.◌>>=◌ (iterated (λ s. braces V s) no_blocks) (λ bs. nothing (record { clauses = record { conditions = cs; creates = ts; links = ks; collects = os }; blocks = bs }))

  abbrev tail_4 : List Condition → List Term → List Link → List Token → Body → Type 0
  tail_4 cs ts ks = grammar.◌>>=◌ (optional words.Collect (collect version)) (tail_5 cs ts ks)

  abbrev tail_3 : List Condition → List Term → List Token → Body → Type 0
  tail_3 cs ts = grammar.◌>>=◌ (optional words.Link (link version)) (tail_4 cs ts)

  abbrev tail_2 : List Condition → List Token → Body → Type 0
  tail_2 cs = grammar.◌>>=◌ (optional words.Create (term version)) (tail_3 cs)

  begins_5 : (cs : List Condition) (ts : List Term) (ks : List Link) (os : List Collect) (y : List Token) (w : Body) (rest : List Token) → tail_5 cs ts ks os y w → AfterBody rest → Begins behind_collect (y ++ rest)
  begins_5 cs ts ks os y w rest h f =
      subst (λ x. Begins behind_collect (x ++ rest)) (sym (h.3 ∙ ap (λ x. h.0 ++ x) h.5.0 ∙ append-nil h.0)) (by h.4.0 h.4.1)
    where
      by : (n : ℕ) → steps (λ s. braces V s) n no_blocks h.0 h.2 → Begins behind_collect (h.0 ++ rest)
      by zero k = subst (λ x. Begins behind_collect (x ++ rest)) (sym k.0) (begins_by (is_sign signs.CloseBrace) behind_collect (λ t. or_right (is_sign signs.OpenBrace t) (is_sign signs.CloseBrace t)) rest f)
      by (suc n) k =
          let o = braces_opens V no_blocks k.0 k.2 k.4 in
          subst (λ x. Begins behind_collect (x ++ rest)) (sym (k.3 ∙ ap (λ x. x ++ k.1) o.2)) (or_left (is_sign signs.OpenBrace o.0) (is_sign signs.CloseBrace o.0) o.3)

  begins_4 : (cs : List Condition) (ts : List Term) (ks : List Link) (y : List Token) (w : Body) (rest : List Token) → tail_4 cs ts ks y w → AfterBody rest → Begins behind_link (y ++ rest)
  begins_4 cs ts ks = begins_optional words.Collect (collect version) (tail_5 cs ts ks) behind_collect behind_link (λ t. or_left (is_keyword words.Collect t) (behind_collect t)) (λ t. or_right (is_keyword words.Collect t) (behind_collect t)) (begins_5 cs ts ks)

  begins_3 : (cs : List Condition) (ts : List Term) (y : List Token) (w : Body) (rest : List Token) → tail_3 cs ts y w → AfterBody rest → Begins behind_create (y ++ rest)
  begins_3 cs ts = begins_optional words.Link (link version) (tail_4 cs ts) behind_link behind_create (λ t. or_left (is_keyword words.Link t) (behind_link t)) (λ t. or_right (is_keyword words.Link t) (behind_link t)) (begins_4 cs ts)

  begins_2 : (cs : List Condition) (y : List Token) (w : Body) (rest : List Token) → tail_2 cs y w → AfterBody rest → Begins behind_where (y ++ rest)
  begins_2 cs = begins_optional words.Create (term version) (tail_3 cs) behind_create behind_where (λ t. or_left (is_keyword words.Create t) (behind_create t)) (λ t. or_right (is_keyword words.Create t) (behind_create t)) (begins_3 cs)

module _ (version : ℕ) (room : Bool) (I V : List Token → Body → Type 0) (read : List Token → Outcome Token Body) (blocks : Part IsReal (iterated (λ s. guarded room (braces I s)) no_blocks) (iterated (λ s. braces V s) no_blocks) AfterBody (read_blocks room read no_blocks)) where
  body_of_part : Part IsReal (body_of version E room I) (body_of version S true V) AfterBody (read_body_of version room read)
  unfolding read_body_of
  body_of_part =
      then_part (wheres version)
      (λ cs. then_part (creates version)
      (λ ts. then_part (links version)
      (λ ks. then_part (collects version)
      (λ os. then_part blocks
      (λ bs. weaken_part AfterBody (λ _ _. tt) (give_part (record { clauses = record { conditions = cs; creates = ts; links = ks; collects = os }; blocks = bs })))
      (λ bs y w rest h f. ends_with AfterBody _ y w rest h f))
      (λ os y w rest h f. begins_5 version V cs ts ks os y w rest h f))
      (λ ks y w rest h f. begins_4 version V cs ts ks y w rest h f))
      (λ ts y w rest h f. begins_3 version V cs ts y w rest h f))
      (λ cs y w rest h f. begins_2 version V cs y w rest h f)

-- with so many blocks one within another at most within the limits, and more of them beyond
pub body_part : (version depth deeper : ℕ) → depth < deeper → Part IsReal (body version E depth) (body version S deeper) AfterBody (read_body version depth)
unfolding read_body
body_part version zero zero less = absurd (omega arith)
body_part version (suc depth) zero less = absurd (omega arith)
body_part version zero (suc deeper) less = body_of_part version false never (body version S deeper) Past (blocks_without_room never (body version S deeper) Past (nothing_spelled version deeper) no_blocks)
body_part version (suc depth) (suc deeper) less =
    let inner = body_part version depth deeper (omega arith) in
    body_of_part version true (body version E depth) (body version S deeper) (read_body version depth) (blocks_with_room inner (nothing_spelled version deeper) no_blocks)

-- more of them spell more

braces_map : (I J : List Token → Body → Type 0) → ((x : List Token) (v : Body) → I x v → J x v) → (s : Blocks) (x : List Token) (v : Blocks) → braces I s x v → braces J s x v
braces_map I J more s x v h = (h.0, h.1, h.2, h.3, h.4, (h.5.0, h.5.1, h.5.2, h.5.3, more h.5.0 h.5.2 h.5.4, h.5.5))

body_of_map : (version : ℕ) (a b : Bool) (I J : List Token → Body → Type 0) → ((s : Blocks) (x : List Token) (v : Blocks) → guarded a (braces I s) x v → guarded b (braces J s) x v) → (x : List Token) (v : Body) → body_of version S a I x v → body_of version S b J x v
body_of_map version a b I J more x v h =
    let h1 = h.5 in let h2 = h1.5 in let h3 = h2.5 in let h4 = h3.5 in (
      h.0,
      h.1,
      h.2,
      h.3,
      h.4,
      (
        h1.0,
        h1.1,
        h1.2,
        h1.3,
        h1.4,
        (
          h2.0,
          h2.1,
          h2.2,
          h2.3,
          h2.4,
          (
            h3.0,
            h3.1,
            h3.2,
            h3.3,
            h3.4,
            (h4.0, h4.1, h4.2, h4.3, iterated_map (λ s. guarded a (braces I s)) (λ s. guarded b (braces J s)) more no_blocks h4.0 h4.2 h4.4, h4.5),
          ),
        ),
      ),
    )

body_grows : (version d e : ℕ) (x : List Token) (v : Body) → d ≤ e → body version S d x v → body version S e x v
body_grows version zero zero x v le h = h
body_grows version zero (suc e) x v le h = body_of_map version false true never (body version S e) (λ s x v k. absurd k) x v h
body_grows version (suc d) zero x v le h = absurd (omega arith)
body_grows version (suc d) (suc e) x v le h = body_of_map version true true (body version S d) (body version S e) (braces_map (body version S d) (body version S e) (λ x v. body_grows version d e x v (omega arith))) x v h

-- a body within the limits, and at any depth
pub some_body_part : (version depth : ℕ) → Part IsReal (body version E depth) (Some_of (body version S)) AfterBody (read_body version depth)
some_body_part version depth = some_part (body version E depth) (body version S) AfterBody (read_body version depth) (suc depth) (λ n le. body_part version depth n (omega arith)) (λ n m x v le h. body_grows version n m x v le h)

-- the loop over blocks shrinks its text
pub braces_shrinks : (version depth : ℕ) (s : Blocks) (ts : List Token) (next : Blocks) (rest : List Token) → starts (is_sign signs.OpenBrace) ts ≡ true → guard (has_room depth) (read_braces (read_below version depth) s) ts ≡ Read next rest → length rest < length ts
unfolding read_below
braces_shrinks version zero s ts next rest is was = absurd cc
braces_shrinks version (suc depth) s ts next rest is was =
    shrinks (is_sign signs.OpenBrace) (λ _. true) (read_braces (read_body version depth)) (braces_part (body_part version depth (suc depth) (omega arith))) (braces_opens (body version S (suc depth))) s ts next rest is was
