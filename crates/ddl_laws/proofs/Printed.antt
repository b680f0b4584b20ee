-- The written text spells statements.
use Rattle.std.proofs.Common.{◌≡◌, refl, sym, ap, ◌∙◌, inl, inr, ℕ, List, [], ◌∷◌, ◌++◌, ◌+◌, length, append_assoc, Some}
use Rattle.std.specs.Prelude.{codes}
use Rattle.std.specs.List.{flat_map}
use Rattle.std.specs.Fmt.{signed_decimal}
use Rattle.std.proofs.lemmas.List.{append-nil}
use Rattle.sd_lex.specs.declared.token.Token.{Token}
use Rattle.sd_lex.specs.declared.token.TokenKind.TheVariants as kinds
use Rattle.sd_lex.specs.declared.token.Sign.TheVariants as signs
use Rattle.sd_lex.specs.Lexing.{Spells}
use Rattle.grammar.specs.Grammar.{nothing, one, many, either, ◌>>=◌}
use Rattle.token_reader.specs.declared.reading.Word.{Word}
use Rattle.token_reader.specs.Terminals as terminals
use Rattle.sd_value.specs.declared.Datum.TheVariants.{Int, Text, Url, File, Node}
use Rattle.sd_value.specs.declared.Value.{Value}
use Rattle.sd_value.specs.declared.Value.TheVariants.{Data, Page}
use Rattle.graph_spec.specs.declared.Step.{Step}
use Rattle.ddl_text.specs.declared.tree.Kind.{Kind}
use Rattle.ddl_text.specs.declared.tree.Kind.TheVariants as kind
use Rattle.ddl_text.specs.declared.tree.KindWord.{KindWord}
use Rattle.ddl_text.specs.declared.tree.Given.{Given}
use Rattle.ddl_text.specs.declared.tree.Field.{Field}
use Rattle.ddl_text.specs.declared.tree.Statement.{Statement}
use Rattle.ddl_text.specs.declared.tree.Statement.TheVariants.{Object}
use Rattle.ddl_text.specs.declared.tree.Content.TheVariants as content
use Rattle.ddl_text.specs.Terminals.{kind_value, plain_value}
use Rattle.ddl_text.specs.DataText as grammar
use Rattle.sd_ddl.specs.declared.kinds.StatedKinds.TheVariants.{Nothing}
use Rattle.sd_ddl.specs.Steps.{kinded, value_of}
use Rattle.sd_ddl.specs.Written.{quoted, value_text, step_line, further_text, in_text, object_text}
use Rattle.ddl_laws.proofs.Pieces.{Prints, splits_blank, splits_both, splits_token, splits_token_blank, prints_nothing, prints_then, prints_as, prints_behind, Matches, Holds, holds_any, prints_many, quoted_spelled}

abbrev pub Any : {A : Type 0} → A → Type 0
Any v = Unit {0}

-- a text in quotes as a name
pub prints_name : (s : List ℕ) (at : ℕ) → Prints terminals.name (λ w. w.text ≡ s) at (quoted s)
prints_name s at = record {
  tokens = record { kind = kinds.Quoted s; span = record { start = at; «end» = at + length (quoted s) } } ∷ [];
  value = record { text = s; place = at };
  spelled = (_, refl, refl);
  is = refl;
  splits = splits_token at (quoted s) (kinds.Quoted s) (quoted_spelled s) (λ later. tt);
}

prints_object_word : (at : ℕ) → Prints (terminals.word (codes "object")) Any at (codes "object ")
prints_object_word at = record {
  tokens = record { kind = kinds.Name (codes "object"); span = record { start = at; «end» = at + 6 } } ∷ [];
  value = at;
  spelled = (_, refl, refl);
  is = tt;
  splits = splits_token_blank at (codes "object") (kinds.Name (codes "object")) 32 (refl, (refl, (refl, (refl, (refl, (refl, (refl, tt))))))) refl (λ later. refl);
}

prints_in_word : (at : ℕ) → Prints (terminals.word (codes "in")) Any at (codes "in ")
prints_in_word at = record {
  tokens = record { kind = kinds.Name (codes "in"); span = record { start = at; «end» = at + 2 } } ∷ [];
  value = at;
  spelled = (_, refl, refl);
  is = tt;
  splits = splits_token_blank at (codes "in") (kinds.Name (codes "in")) 32 (refl, (refl, (refl, tt))) refl (λ later. refl);
}

prints_open : (at : ℕ) → Prints (terminals.sign signs.OpenBrace) Any at (codes "{\n")
prints_open at = record {
  tokens = record { kind = kinds.Sign signs.OpenBrace; span = record { start = at; «end» = at + 1 } } ∷ [];
  value = at;
  spelled = (_, refl, refl);
  is = tt;
  splits = splits_token_blank at (codes "{") (kinds.Sign signs.OpenBrace) 10 refl refl (λ later. tt);
}

prints_close : (at : ℕ) → Prints (terminals.sign signs.CloseBrace) Any at (codes "}\n")
prints_close at = record {
  tokens = record { kind = kinds.Sign signs.CloseBrace; span = record { start = at; «end» = at + 1 } } ∷ [];
  value = at;
  spelled = (_, refl, refl);
  is = tt;
  splits = splits_token_blank at (codes "}") (kinds.Sign signs.CloseBrace) 10 refl refl (λ later. tt);
}

prints_comma : (at : ℕ) → Prints (terminals.sign signs.Comma) Any at (codes ", ")
prints_comma at = record {
  tokens = record { kind = kinds.Sign signs.Comma; span = record { start = at; «end» = at + 1 } } ∷ [];
  value = at;
  spelled = (_, refl, refl);
  is = tt;
  splits = splits_token_blank at (codes ",") (kinds.Sign signs.Comma) 32 refl refl (λ later. tt);
}

prints_amp : (at : ℕ) → Prints (terminals.sign signs.Amp) Any at (codes "&")
prints_amp at = record {
  tokens = record { kind = kinds.Sign signs.Amp; span = record { start = at; «end» = at + 1 } } ∷ [];
  value = at;
  spelled = (_, refl, refl);
  is = tt;
  splits = splits_token at (codes "&") (kinds.Sign signs.Amp) refl (λ later. tt);
}

-- a text in quotes and the line's end
prints_quoted_end : (s : List ℕ) (at : ℕ) → Prints terminals.quoted (λ w. w.text ≡ s) at (quoted s ++ codes "\n")
prints_quoted_end s at = record {
  tokens = record { kind = kinds.Quoted s; span = record { start = at; «end» = at + length (quoted s) } } ∷ [];
  value = record { text = s; place = at };
  spelled = (_, refl, refl);
  is = refl;
  splits = splits_token_blank at (quoted s) (kinds.Quoted s) 10 (quoted_spelled s) refl (λ later. tt);
}

prints_name_end : (s : List ℕ) (at : ℕ) → Prints terminals.name (λ w. w.text ≡ s) at (quoted s ++ codes "\n")
prints_name_end s at = record {
  tokens = record { kind = kinds.Quoted s; span = record { start = at; «end» = at + length (quoted s) } } ∷ [];
  value = record { text = s; place = at };
  spelled = (_, refl, refl);
  is = refl;
  splits = splits_token_blank at (quoted s) (kinds.Quoted s) 10 (quoted_spelled s) refl (λ later. tt);
}

prints_url_word : (at : ℕ) → Prints (one kind_value) (λ k. k.kind ≡ kind.Url) at (codes "url ")
prints_url_word at = record {
  tokens = record { kind = kinds.Name (codes "url"); span = record { start = at; «end» = at + 3 } } ∷ [];
  value = record { kind = kind.Url; place = at };
  spelled = (_, refl, refl);
  is = refl;
  splits = splits_token_blank at (codes "url") (kinds.Name (codes "url")) 32 (refl, (refl, (refl, (refl, tt)))) refl (λ later. refl);
}

prints_file_word : (at : ℕ) → Prints (one kind_value) (λ k. k.kind ≡ kind.File) at (codes "file ")
prints_file_word at = record {
  tokens = record { kind = kinds.Name (codes "file"); span = record { start = at; «end» = at + 4 } } ∷ [];
  value = record { kind = kind.File; place = at };
  spelled = (_, refl, refl);
  is = refl;
  splits = splits_token_blank at (codes "file") (kinds.Name (codes "file")) 32 (refl, (refl, (refl, (refl, (refl, tt))))) refl (λ later. refl);
}

-- with what stands behind, at the end of a part
prints_last : {A B : Type 0} (P : List Token → A → Type 0) (Q : A → Type 0) (S : B → Type 0) (at : ℕ) (text : List ℕ) (make : A → B) → Prints P Q at text → ((v : A) → Q v → S (make v))
    → Prints (P >>= λ v. nothing (make v)) S at text
prints_last P Q S at text make h is =
    prints_as (P >>= λ v. nothing (make v)) S at (text ++ []) text (append-nil text)
    (prints_then P (λ v. nothing (make v)) Q S at text [] h (λ v q. prints_nothing S (at + length text) (make v) (is v q)))

-- the given value is this one
abbrev pub IsValue : Value → Given → Type 0
IsValue v g = value_of Nothing g.content ≡ Some v

prints_kinded : (k : Kind) (word s : List ℕ) (at : ℕ) → Prints (one kind_value) (λ (x : KindWord). x.kind ≡ k) at word → Prints grammar.kinded (IsValue (kinded k s)) at (word ++ (quoted s ++ codes "\n"))
prints_kinded k word s at h =
    prints_then (one kind_value) (λ (x : KindWord). terminals.quoted >>= λ (text : Word). nothing (record { content = content.Kinded x.kind text.text; place = x.place }))
    (λ (x : KindWord). x.kind ≡ k) (IsValue (kinded k s)) at word (quoted s ++ codes "\n") h
    (λ x is. prints_last terminals.quoted (λ w. w.text ≡ s) (IsValue (kinded k s)) (at + length word) (quoted s ++ codes "\n")
    (λ (text : Word). record { content = content.Kinded x.kind text.text; place = x.place }) (prints_quoted_end s (at + length word)) (λ w same. λ i. Some (kinded (is i) (same i))))

prints_node : (n : List ℕ) (at : ℕ) → Prints grammar.node (IsValue (Data (Node n))) at (codes "&" ++ (quoted n ++ codes "\n"))
prints_node n at =
    prints_then (terminals.sign signs.Amp) (λ (place : ℕ). terminals.name >>= λ (w : Word). nothing (record { content = content.Node w.text; place = place }))
    Any (IsValue (Data (Node n))) at (codes "&") (quoted n ++ codes "\n") (prints_amp at)
    (λ place any. prints_last terminals.name (λ w. w.text ≡ n) (IsValue (Data (Node n))) (at + 1) (quoted n ++ codes "\n")
    (λ (w : Word). record { content = content.Node w.text; place = place }) (prints_name_end n (at + 1)) (λ w same. ap (λ m. Some (Data (Node m))) same))

-- an end of an edge, whose number the lexer reads
abbrev pub IsWritable : Value → Type 0
IsWritable (Data (Int n)) = Spells (signed_decimal n) (kinds.Int n)
IsWritable (Data d) = Unit {0}
IsWritable (Page p) = ⊥

either_left : {A : Type 0} (P R : List Token → A → Type 0) (Q : A → Type 0) (at : ℕ) (text : List ℕ) → Prints P Q at text → Prints (either P R) Q at text
either_left P R Q at text h = record { tokens = h.tokens; value = h.value; spelled = inl h.spelled; is = h.is; splits = h.splits }

either_right : {A : Type 0} (P R : List Token → A → Type 0) (Q : A → Type 0) (at : ℕ) (text : List ℕ) → Prints R Q at text → Prints (either P R) Q at text
either_right P R Q at text h = record { tokens = h.tokens; value = h.value; spelled = inr h.spelled; is = h.is; splits = h.splits }

pub prints_value : (v : Value) (at : ℕ) → IsWritable v → Prints grammar.value (IsValue v) at (value_text v ++ codes "\n")
prints_value (Data (Int n)) at w =
    either_left (one plain_value) (either grammar.node grammar.kinded) (IsValue (Data (Int n))) at (signed_decimal n ++ codes "\n") (record {
      tokens = record { kind = kinds.Int n; span = record { start = at; «end» = at + length (signed_decimal n) } } ∷ [];
      value = record { content = content.Number n; place = at };
      spelled = (_, refl, refl);
      is = refl;
      splits = splits_token_blank at (signed_decimal n) (kinds.Int n) 10 w refl (λ later. refl);
    })
prints_value (Data (Text s)) at w =
    either_left (one plain_value) (either grammar.node grammar.kinded) (IsValue (Data (Text s))) at (quoted s ++ codes "\n") (record {
      tokens = record { kind = kinds.Quoted s; span = record { start = at; «end» = at + length (quoted s) } } ∷ [];
      value = record { content = content.Plain s; place = at };
      spelled = (_, refl, refl);
      is = refl;
      splits = splits_token_blank at (quoted s) (kinds.Quoted s) 10 (quoted_spelled s) refl (λ later. tt);
    })
prints_value (Data (Url s)) at w =
    either_right (one plain_value) (either grammar.node grammar.kinded) (IsValue (Data (Url s))) at ((codes "url " ++ quoted s) ++ codes "\n")
    (either_right grammar.node grammar.kinded (IsValue (Data (Url s))) at ((codes "url " ++ quoted s) ++ codes "\n")
    (prints_as grammar.kinded (IsValue (Data (Url s))) at (codes "url " ++ (quoted s ++ codes "\n")) ((codes "url " ++ quoted s) ++ codes "\n") (sym (append_assoc (codes "url ") (quoted s) (codes "\n")))
    (prints_kinded kind.Url (codes "url ") s at (prints_url_word at))))
prints_value (Data (File s)) at w =
    either_right (one plain_value) (either grammar.node grammar.kinded) (IsValue (Data (File s))) at ((codes "file " ++ quoted s) ++ codes "\n")
    (either_right grammar.node grammar.kinded (IsValue (Data (File s))) at ((codes "file " ++ quoted s) ++ codes "\n")
    (prints_as grammar.kinded (IsValue (Data (File s))) at (codes "file " ++ (quoted s ++ codes "\n")) ((codes "file " ++ quoted s) ++ codes "\n") (sym (append_assoc (codes "file ") (quoted s) (codes "\n")))
    (prints_kinded kind.File (codes "file ") s at (prints_file_word at))))
prints_value (Data (Node n)) at w =
    either_right (one plain_value) (either grammar.node grammar.kinded) (IsValue (Data (Node n))) at ((codes "&" ++ quoted n) ++ codes "\n")
    (either_left grammar.node grammar.kinded (IsValue (Data (Node n))) at ((codes "&" ++ quoted n) ++ codes "\n")
    (prints_as grammar.node (IsValue (Data (Node n))) at (codes "&" ++ (quoted n ++ codes "\n")) ((codes "&" ++ quoted n) ++ codes "\n") (sym (append_assoc (codes "&") (quoted n) (codes "\n")))
    (prints_node n at)))
prints_value (Page p) at w = absurd w

-- the field has this label and end
abbrev pub IsField : Step → Field → Type 0
IsField s f = (f.name.text ≡ s.label) × IsValue s.end f.value

assoc_step : (a b c d e : List ℕ) → a ++ (b ++ (c ++ (d ++ e))) ≡ a ++ b ++ c ++ d ++ e
assoc_step a b c d e = sym (append_assoc (a ++ b ++ c) d e ∙ append_assoc (a ++ b) c (d ++ e) ∙ append_assoc a b (c ++ (d ++ e)))

assoc_object : (a b c d e f : List ℕ) → a ++ (b ++ (c ++ (d ++ (e ++ f)))) ≡ a ++ b ++ c ++ d ++ e ++ f
assoc_object a b c d e f =
    sym (append_assoc (a ++ b ++ c ++ d) e f ∙ append_assoc (a ++ b ++ c) d (e ++ f) ∙ append_assoc (a ++ b) c (d ++ (e ++ f)) ∙ append_assoc a b (c ++ (d ++ (e ++ f))))

pub prints_field : (s : Step) (at : ℕ) → IsWritable s.end → Prints grammar.field (IsField s) at (step_line s)
prints_field s at w =
    prints_as grammar.field (IsField s) at (codes "  " ++ (quoted s.label ++ (codes " " ++ (value_text s.end ++ codes "\n")))) (step_line s)
    (assoc_step (codes "  ") (quoted s.label) (codes " ") (value_text s.end) (codes "\n"))
    (prints_behind grammar.field (IsField s) at (codes "  ") (quoted s.label ++ (codes " " ++ (value_text s.end ++ codes "\n")))
    (splits_both at (32 ∷ []) (32 ∷ []) [] [] (splits_blank at 32 refl) (splits_blank (at + 1) 32 refl))
    (prints_then terminals.name (λ (n : Word). grammar.value >>= λ (v : Given). nothing (record { name = n; value = v }))
    (λ n. n.text ≡ s.label) (IsField s) (at + 2) (quoted s.label) (codes " " ++ (value_text s.end ++ codes "\n")) (prints_name s.label (at + 2))
    (λ n same. prints_last grammar.value (IsValue s.end) (IsField s) ((at + 2) + length (quoted s.label)) (codes " " ++ (value_text s.end ++ codes "\n"))
    (λ (v : Given). record { name = n; value = v })
    (prints_behind grammar.value (IsValue s.end) ((at + 2) + length (quoted s.label)) (codes " ") (value_text s.end ++ codes "\n") (splits_blank _ 32 refl) (prints_value s.end _ w))
    (λ v is. (same, is)))))

abbrev pub IsNamed : List ℕ → Word → Type 0
IsNamed s w = w.text ≡ s

prints_further : (c : List ℕ) (at : ℕ) → Unit {0} → Prints grammar.further_name (IsNamed c) at (further_text c)
prints_further c at any =
    prints_then (terminals.sign signs.Comma) (λ (place : ℕ). terminals.name) Any (IsNamed c) at (codes ", ") (quoted c) (prints_comma at) (λ place always. prints_name c (at + 2))

pub prints_in : (cs : List (List ℕ)) (at : ℕ) → Prints (either grammar.collections (nothing [])) (Matches IsNamed cs) at (in_text cs)
prints_in [] at = either_right grammar.collections (nothing []) (Matches IsNamed []) at [] (prints_nothing (Matches IsNamed []) at [] tt)
prints_in (c ∷ cs) at =
    either_left grammar.collections (nothing []) (Matches IsNamed (c ∷ cs)) at (in_text (c ∷ cs))
    (prints_behind grammar.collections (Matches IsNamed (c ∷ cs)) at (32 ∷ []) (codes "in " ++ (quoted c ++ flat_map further_text cs)) (splits_blank at 32 refl)
    (prints_then (terminals.word (codes "in")) (λ (place : ℕ). terminals.name >>= λ (first : Word). many grammar.further_name >>= λ (others : List Word). nothing (first ∷ others))
    Any (Matches IsNamed (c ∷ cs)) (at + 1) (codes "in ") (quoted c ++ flat_map further_text cs) (prints_in_word (at + 1))
    (λ place any. prints_then terminals.name (λ (first : Word). many grammar.further_name >>= λ (others : List Word). nothing (first ∷ others))
    (IsNamed c) (Matches IsNamed (c ∷ cs)) ((at + 1) + 3) (quoted c) (flat_map further_text cs) (prints_name c ((at + 1) + 3))
    (λ first same. prints_last (many grammar.further_name) (Matches IsNamed cs) (Matches IsNamed (c ∷ cs)) _ (flat_map further_text cs) (λ (others : List Word). first ∷ others)
    (prints_many grammar.further_name IsNamed further_text (λ x. Unit {0}) prints_further cs _ (holds_any cs)) (λ others is. (same, is))))))

-- the statement is this node's object
abbrev pub IsObjectOf : List ℕ → List (List ℕ) → List Step → Statement → Type 0
IsObjectOf n cs ss st = (w : Word) × (ws : List Word) × (fs : List Field) × (st ≡ Object w ws fs) × (w.text ≡ n) × Matches IsNamed cs ws × Matches IsField ss fs

pub prints_object : (n : List ℕ) (cs : List (List ℕ)) (ss : List Step) (at : ℕ) → Holds (λ (s : Step). IsWritable s.end) ss → Prints grammar.statement (IsObjectOf n cs ss) at (object_text n cs ss)
prints_object n cs ss at w =
    either_right grammar.directive grammar.object (IsObjectOf n cs ss) at (object_text n cs ss)
    (prints_as grammar.object (IsObjectOf n cs ss) at (codes "object " ++ (quoted n ++ (in_text cs ++ (codes " {\n" ++ (flat_map step_line ss ++ codes "}\n"))))) (object_text n cs ss)
    (assoc_object (codes "object ") (quoted n) (in_text cs) (codes " {\n") (flat_map step_line ss) (codes "}\n"))
    (prints_then (terminals.word (codes "object"))
    (λ (p : ℕ). terminals.name >>= λ (w : Word). either grammar.collections (nothing []) >>= λ (ws : List Word). terminals.sign signs.OpenBrace >>= λ (q : ℕ). many grammar.field >>= λ (fs : List Field).
    terminals.sign signs.CloseBrace >>= λ (r : ℕ). nothing (Object w ws fs))
    Any (IsObjectOf n cs ss) at (codes "object ") (quoted n ++ (in_text cs ++ (codes " {\n" ++ (flat_map step_line ss ++ codes "}\n")))) (prints_object_word at)
    (λ p always. prints_then terminals.name
    (λ (w : Word). either grammar.collections (nothing []) >>= λ (ws : List Word). terminals.sign signs.OpenBrace >>= λ (q : ℕ). many grammar.field >>= λ (fs : List Field).
    terminals.sign signs.CloseBrace >>= λ (r : ℕ). nothing (Object w ws fs))
    (IsNamed n) (IsObjectOf n cs ss) _ (quoted n) (in_text cs ++ (codes " {\n" ++ (flat_map step_line ss ++ codes "}\n"))) (prints_name n _)
    (λ word named. prints_then (either grammar.collections (nothing []))
    (λ (ws : List Word). terminals.sign signs.OpenBrace >>= λ (q : ℕ). many grammar.field >>= λ (fs : List Field). terminals.sign signs.CloseBrace >>= λ (r : ℕ). nothing (Object word ws fs))
    (Matches IsNamed cs) (IsObjectOf n cs ss) _ (in_text cs) (codes " {\n" ++ (flat_map step_line ss ++ codes "}\n")) (prints_in cs _)
    (λ ws in_them. prints_then (terminals.sign signs.OpenBrace)
    (λ (q : ℕ). many grammar.field >>= λ (fs : List Field). terminals.sign signs.CloseBrace >>= λ (r : ℕ). nothing (Object word ws fs))
    Any (IsObjectOf n cs ss) _ (codes " {\n") (flat_map step_line ss ++ codes "}\n")
    (prints_behind (terminals.sign signs.OpenBrace) Any _ (32 ∷ []) (codes "{\n") (splits_blank _ 32 refl) (prints_open _))
    (λ q always. prints_then (many grammar.field) (λ (fs : List Field). terminals.sign signs.CloseBrace >>= λ (r : ℕ). nothing (Object word ws fs))
    (Matches IsField ss) (IsObjectOf n cs ss) _ (flat_map step_line ss) (codes "}\n") (prints_many grammar.field IsField step_line (λ (s : Step). IsWritable s.end) prints_field ss _ w)
    (λ fs has. prints_last (terminals.sign signs.CloseBrace) Any (IsObjectOf n cs ss) _ (codes "}\n") (λ (r : ℕ). Object word ws fs) (prints_close _)
    (λ r always. (word, ws, fs, refl, named, in_them, has)))))))))
