-- Single tokens of the data text: kinds and plain values.
use Rattle.std.specs.Prelude.{ℕ, Bool, true, false, Option, Some, None, if◌then◌else◌, codes}
use Rattle.std.specs.Str.{bytes_eq}
use Rattle.sd_lex.specs.declared.token.Token.{Token}
use Rattle.sd_lex.specs.declared.token.TokenKind.{TokenKind}
use Rattle.sd_lex.specs.declared.token.TokenKind.TheVariants as kinds
use Rattle.ddl_text.specs.declared.tree.Kind.{Kind}
use Rattle.ddl_text.specs.declared.tree.Kind.TheVariants as kind
use Rattle.ddl_text.specs.declared.tree.KindWord.{KindWord}
use Rattle.ddl_text.specs.declared.tree.Given.{Given}
use Rattle.ddl_text.specs.declared.tree.Content.TheVariants as content

-- a word that is a kind
abbrev pub kind_word : TokenKind → Option Kind
kind_word (kinds.Name n) =
    if bytes_eq n (codes "text") then Some kind.Text
    else (if bytes_eq n (codes "url") then Some kind.Url
    else (if bytes_eq n (codes "file") then Some kind.File
    else None))
kind_word (kinds.Quoted q) = None
kind_word (kinds.Int i) = None
kind_word (kinds.Sign r) = None

abbrev pub kind_at : ℕ → Option Kind → Option KindWord
kind_at place (Some k) = Some (record { kind = k; place = place })
kind_at place None = None

abbrev pub kind_value : Token → Option KindWord
kind_value t = kind_at t.span.start (kind_word t.kind)

-- an integer, or a text without a kind
abbrev pub plain_content : ℕ → TokenKind → Option Given
plain_content place (kinds.Name n) = None
plain_content place (kinds.Quoted q) = Some (record { content = content.Plain q; place = place })
plain_content place (kinds.Int i) = Some (record { content = content.Number i; place = place })
plain_content place (kinds.Sign r) = None

abbrev pub plain_value : Token → Option Given
plain_value t = plain_content t.span.start t.kind

abbrev pub is_plain_kind : TokenKind → Bool
is_plain_kind (kinds.Name n) = false
is_plain_kind (kinds.Quoted q) = true
is_plain_kind (kinds.Int i) = true
is_plain_kind (kinds.Sign r) = false

abbrev pub is_plain : Token → Bool
is_plain t = is_plain_kind t.kind
