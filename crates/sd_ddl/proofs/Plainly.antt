-- A text without directives, statement by statement.
use Rattle.std.proofs.Common.{◌≡◌, refl, sym, ap, subst, ◌∙◌, ℕ, ◌+◌, ◌<◌, ◌≤◌, List, [], ◌∷◌, ◌++◌, map, take}
use Rattle.std.proofs.Common.{get_or, length, arith, append_assoc, Result, Ok, Err}
use Rattle.std.specs.Prelude.{OnOk}
use Rattle.std.proofs.lemmas.List.{append-nil, map-append}
use Rattle.std.proofs.lemmas.Grind.{flat_map-append, take_at_read}
use Rattle.sd_lex.specs.declared.token.Token.{Token}
use Rattle.sd_lex.specs.declared.closing.Rest.{Rest}
use Rattle.sd_lex.specs.Lexing.{Lexes, here, blank, comment, token}
use Rattle.sd_lex.specs.Closing.{IsStart}
use Rattle.sd_lex.proofs.Gaps.{joined, spelled_some}
use Rattle.token_reader.specs.declared.reading.Word.{Word}
use Rattle.sd_graph.specs.declared.Limits.{Limits}
use Rattle.sd_graph.specs.Statement.{Building, IsEmpty}
use Rattle.sd_graph.specs.Built.{same_building}
use Rattle.sd_graph.specs.Stating.{Leads}
use Rattle.sd_graph.specs.StatingLaws.{Leads-append}
use Rattle.ddl_text.specs.declared.tree.Field.{Field}
use Rattle.ddl_text.specs.declared.tree.Statement.{Statement}
use Rattle.ddl_text.specs.declared.tree.Statement.TheVariants.{Collection, Object}
use Rattle.ddl_text.specs.DataText.{statement, file}
use Rattle.ddl_text.proofs.Parts.{statement_opens}
use Rattle.sd_ddl.specs.declared.conflict.Stop.{Stop}
use Rattle.sd_ddl.specs.declared.part.Part.{Part}
use Rattle.sd_ddl.specs.declared.part.Part.TheVariants.{Node}
use Rattle.sd_ddl.specs.Kinds.{Name}
use Rattle.sd_ddl.specs.Parts.{member_part, edge_part, parts_of, parts}
use Rattle.sd_ddl.specs.Steps.{said}
use Rattle.sd_ddl.specs.Stops.{all_said}
use Rattle.sd_ddl.specs.Plain.{no_kinds, IsObject, AreObjects, AddsNext, AddsAll, ReadsAll}
use Rattle.sd_ddl.specs.Reads.{Reads}
use Rattle.sd_ddl.proofs.Kindless.{NoGives, no_gives-append, steps_kindless}

-- Objects give no kinds.

members_give_none : (o : Name) (ws : List Word) → NoGives (map (member_part o) ws)
members_give_none o [] = tt
members_give_none o (w ∷ ws) = members_give_none o ws

edges_give_none : (o : Name) (fs : List Field) → NoGives (map (edge_part o) fs)
edges_give_none o [] = tt
edges_give_none o (f ∷ fs) = edges_give_none o fs

object_gives_none : (s : Statement) → IsObject s → NoGives (parts_of s)
object_gives_none (Collection n es) is = absurd is
object_gives_none (Object n cs fs) is =
    no_gives-append (map (member_part n.text) cs) (map (edge_part n.text) fs) (members_give_none n.text cs)
    (edges_give_none n.text fs)

objects_give_none : (ss : List Statement) → AreObjects ss → NoGives (parts ss)
objects_give_none [] are = tt
objects_give_none (s ∷ ss) are = no_gives-append (parts_of s) (parts ss) (object_gives_none s are.0)
    (objects_give_none ss are.1)

-- One more statement.

objects_more : (ss : List Statement) (s : Statement) → AreObjects ss → IsObject s → AreObjects (ss ++ s ∷ [])
objects_more [] s are is = (is, tt)
objects_more (r ∷ ss) s are is = (are.0, objects_more ss s are.1 is)

file_more : (xs ys : List Token) (vs : List Statement) (v : Statement) → file xs vs → statement ys v
    → file (xs ++ ys) (vs ++ v ∷ [])
file_more xs ys [] v h k = (ys, [], ap (λ x. x ++ ys) h ∙ sym (append-nil ys), k, refl)
file_more xs ys (w ∷ vs) v h k =
    (h.0, h.1 ++ ys, ap (λ x. x ++ ys) h.2 ∙ append_assoc h.0 h.1 ys, h.3, file_more h.1 ys vs v h.4 k)

said_more : (ss : List Statement) (s : Statement)
    → all_said no_kinds (parts (ss ++ s ∷ [])) ≡ all_said no_kinds (parts ss) ++ all_said no_kinds (parts_of s)
said_more ss s =
    ap (all_said no_kinds) (flat_map-append parts_of ss (s ∷ []) ∙ ap (λ ps. parts ss ++ ps) (append-nil (parts_of s)))
    ∙ flat_map-append (said no_kinds) (parts ss) (parts_of s)

-- each token takes a byte at least
tokens_within : {place : ℕ} {rest : List ℕ} {at : ℕ} {bytes : List ℕ} {tokens : List Token}
    → Lexes place rest at bytes tokens → at + length tokens ≤ place
tokens_within (here e f z) = omega (arith, ap length f, z)
tokens_within (blank b later e f g) = let h = tokens_within g in omega (arith, h)
tokens_within (comment line later e f g k) = let h = tokens_within k in omega (arith, h)
tokens_within (token text later t others e f g k) =
    let h = tokens_within k in
    let some : 0 < length text = spelled_some t.kind text f.spelled in
    omega (arith, h, some, ap length g)

-- The statements so far reach the rest, and what they state leads to the present graph.
pub record Reached (start : ℕ) (bytes : List ℕ) (b : Building) (at : ℕ) (rest : List ℕ) (c : Building) : Type 0 where
  pub tokens : List Token
  pub statements : List Statement
  pub lexed : Lexes at rest start bytes tokens
  pub spelled : file tokens statements
  pub objects : AreObjects statements
  pub added : Leads b (all_said no_kinds (parts statements)) c
  pub place : at + length rest ≡ start + length bytes

pub first_reached : (start : ℕ) (bytes : List ℕ) (b : Building) → Reached start bytes b start bytes b
first_reached start bytes b = record {
  tokens = [];
  statements = [];
  lexed = here refl refl refl;
  spelled = refl;
  objects = tt;
  added = refl;
  place = refl;
}

pub next_reached : (start : ℕ) (bytes : List ℕ) (b : Building) (at : ℕ) (rest : List ℕ) (c d : Building) (left : Rest)
    → Reached start bytes b at rest c → AddsNext at rest c d left
    → Reached start bytes b left.at left.bytes.now d
next_reached start bytes b at rest c d left so_far
    (found, (tokens, lexed, closed, spelled, place), is, added) = record {
      tokens = so_far.tokens ++ tokens;
      statements = so_far.statements ++ found ∷ [];
      lexed = joined left.at left.bytes.now tokens so_far.lexed lexed;
      spelled = file_more so_far.tokens tokens so_far.statements found so_far.spelled spelled;
      objects = objects_more so_far.statements found so_far.objects is;
      added = subst (λ steps. Leads b steps d) (sym (said_more so_far.statements found))
          (Leads-append b c d (all_said no_kinds (parts so_far.statements))
          (all_said no_kinds (parts_of found)) so_far.added added);
      place = place ∙ so_far.place;
    }

-- less is left
pub shrinks : (at : ℕ) (rest : List ℕ) (c d : Building) (left : Rest) → AddsNext at rest c d left
    → length left.bytes.now < length rest
shrinks at rest c d left (found, (tokens, lexed, closed, spelled, place), is, added) =
    let first = statement_opens tokens found spelled in
    let within = tokens_within lexed in
    omega (arith, within, place, ap length first.2)

pub all_reached : (start : ℕ) (bytes : List ℕ) (b : Building) (at : ℕ) (rest : List ℕ) (c : Building)
    → Reached start bytes b at rest c → rest ≡ [] → AddsAll start bytes b c
all_reached start bytes b at rest c r none = (
  r.tokens,
  r.statements,
  (at, subst (λ x. Lexes at x start bytes r.tokens) none r.lexed),
  r.spelled,
  r.objects,
  r.added,
)

-- the whole text
pub reads_all : (limit : ℕ) (bytes : List ℕ) (start : Rest) (limits : Limits) (b c : Building)
    → IsStart limit bytes (Ok start) → b.limits ≡ limits → IsEmpty b.graph
    → AddsAll start.at start.bytes.now b c → ReadsAll limit bytes limits c
reads_all limit bytes start limits b c (fits, at, is, place) same empty
    (tokens, statements, lexed, spelled, objects, added) =
    (b, statements, same, empty, (tokens, (fits, rw (sym at, sym is) lexed), spelled), objects, added)

-- the given graph was empty too
pub read_so : (limit : ℕ) (bytes : List ℕ) (b c : Building) → IsEmpty b.graph → ReadsAll limit bytes b.limits c
    → Reads limit bytes b c (Ok tt)
read_so limit bytes b c empty (start, statements, same, none, spelled, objects, added) =
    let was : start ≡ b = same_building b start same (none.0 ∙ sym empty.0) (none.1 ∙ sym empty.1)
    (none.2 ∙ sym empty.2) in (
      statements,
      spelled,
      rw (steps_kindless (parts statements) (objects_give_none statements objects))
          (subst (λ x. Leads x (all_said no_kinds (parts statements)) c) was added),
    )

-- One thing of an object after the other, each of which states what its part says.
module _ {X : Type 0} (part : X → Part) (xs : List X) (b : Building) where
  pub one_added : (c d : Building) (i : ℕ) (x : X) → i < length xs → x ≡ get_or xs i x
      → Leads b (all_said no_kinds (map part (take i xs))) c → Leads c (said no_kinds (part x)) d
      → Leads b (all_said no_kinds (map part (take (i + 1) xs))) d
  one_added c d i x lt is so_far one =
      let front : take (i + 1) xs ≡ take i xs ++ x ∷ [] = (take_at_read xs i x lt).1
      ∙ ap (λ y. take i xs ++ y ∷ []) (sym is) in
      let all : all_said no_kinds (map part (take (i + 1) xs)) ≡ all_said no_kinds
      (map part (take i xs)) ++ said no_kinds (part x) =
      ap (λ ys. all_said no_kinds (map part ys)) front ∙ ap (all_said no_kinds) (map-append part (take i xs) (x ∷ []))
      ∙ flat_map-append (said no_kinds) (map part (take i xs)) (part x ∷ [])
      ∙ ap (λ s. all_said no_kinds (map part (take i xs)) ++ s) (append-nil (said no_kinds (part x))) in
      subst (λ s. Leads b s d) (sym all)
      (Leads-append b c d (all_said no_kinds (map part (take i xs))) (said no_kinds (part x)) so_far one)

-- a node, its collections and its attributes
pub object_added : (n : Word) (cs : List Word) (fs : List Field) (b c d e : Building) (r : Result (Unit {0}) Stop)
    → Leads b (said no_kinds (Node n)) c
    → Leads c (all_said no_kinds (map (member_part n.text) cs)) d
    → OnOk r (Leads d (all_said no_kinds (map (edge_part n.text) fs)) e)
    → OnOk r (Leads b (all_said no_kinds (parts_of (Object n cs fs))) e)
object_added n cs fs b c d e (Ok u) node members edges =
    Leads-append b c e (said no_kinds (Node n))
    (all_said no_kinds (map (member_part n.text) cs ++ map (edge_part n.text) fs)) node
    (subst (λ s. Leads c s e)
    (sym (flat_map-append (said no_kinds) (map (member_part n.text) cs) (map (edge_part n.text) fs)))
    (Leads-append c d e (all_said no_kinds (map (member_part n.text) cs))
    (all_said no_kinds (map (edge_part n.text) fs)) members edges))
object_added n cs fs b c d e (Err stop) node members edges = tt
