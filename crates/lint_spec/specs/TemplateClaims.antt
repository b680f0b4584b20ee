-- What a file of templates asks for, at each place of its text, in the text's order.
use Rattle.std.specs.Prelude.{ℕ, ◌+◌, ◌==◌, Bool, true, false, not, ◌&&◌, ◌||◌, List, [], ◌∷◌, ◌++◌}
use Rattle.std.specs.Prelude.{map, if◌then◌else◌, codes, Option, Some, None, nat_eq, nat_le}
use Rattle.std.specs.List.{starts_with}
use Rattle.std.specs.Char.{to_ascii_uppercase}
use Rattle.std.specs.Option.{is_some}
use Rattle.std.specs.Str.{bytes_eq}
use Rattle.sd_value.specs.Names.{Name, Label}
use Rattle.sd_lex.specs.declared.token.Sign.TheVariants as signs
use Rattle.sd_lex.specs.declared.token.TokenKind.TheVariants as tokens
use Rattle.template_items.specs.declared.item.Mark.TheVariants as marks
use Rattle.template_items.specs.declared.item.ItemKind.{ItemKind}
use Rattle.template_items.specs.declared.item.ItemKind.TheVariants as kinds
use Rattle.template_items.specs.declared.item.Item.{Item}
use Rattle.template_items.specs.Scanning.{tag_at}
use Rattle.template_layouts.specs.Written.{leads}
use Rattle.lint_spec.specs.declared.Asked.{Asked}
use Rattle.lint_spec.specs.declared.Asked.TheVariants as asked
use Rattle.lint_spec.specs.declared.Before.{Before}
use Rattle.lint_spec.specs.declared.Claim.{Claim}
use Rattle.lint_spec.specs.declared.Markup.{Markup}
use Rattle.lint_spec.specs.declared.Markup.TheVariants.{Content}
use Rattle.lint_spec.specs.Markup.{after_text, after_value, is_unsafe}
use Rattle.lint_spec.specs.QueryClaims.{claim}

-- ---- tags in other letters, and tags that there aren't

-- the bytes begin with this word
abbrev pub begins : Name → List ℕ → Bool
begins word bytes = starts_with nat_eq bytes word

-- the bytes begin with an element of HTML, of those from SAMP to SMALL
abbrev pub is_element_to_small : List ℕ → Bool
is_element_to_small bytes =
    begins (codes "SAMP") bytes || (begins (codes "SCRIPT") bytes
    || (begins (codes "SEARCH") bytes || (begins (codes "SECTION") bytes
    || (begins (codes "SELECT") bytes || (begins (codes "SLOT") bytes
    || begins (codes "SMALL") bytes)))))

-- of those from SOURCE to STRONG
abbrev pub is_element_to_strong : List ℕ → Bool
is_element_to_strong bytes =
    begins (codes "SOURCE") bytes || (begins (codes "SPACER") bytes
    || (begins (codes "SPAN") bytes || (begins (codes "STRIKE") bytes
    || begins (codes "STRONG") bytes)))

-- of those from STYLE to SVG
abbrev pub is_element_to_svg : List ℕ → Bool
is_element_to_svg bytes =
    begins (codes "STYLE") bytes || (begins (codes "SUB") bytes
    || (begins (codes "SUMMARY") bytes || (begins (codes "SUP") bytes
    || begins (codes "SVG") bytes)))

-- the bytes begin with the name of an element of HTML that begins with S
abbrev pub is_element : List ℕ → Bool
is_element bytes =
    is_element_to_small bytes || (is_element_to_strong bytes || is_element_to_svg bytes)

abbrev pub starts_capital : List ℕ → Bool
starts_capital [] = false
starts_capital (b ∷ bytes) = nat_le 65 b && nat_le b 90

-- the bytes begin with S and a further capital, and not with an element of HTML
abbrev pub is_unknown_name : List ℕ → Bool
is_unknown_name [] = false
is_unknown_name (b ∷ bytes) = b == 83 && (starts_capital bytes && not (is_element (b ∷ bytes)))

-- the bytes without a `/` in front
abbrev pub without_slash : List ℕ → List ℕ
without_slash [] = []
without_slash (b ∷ bytes) = if b == 47 then bytes else b ∷ bytes

-- the bytes begin with a tag that looks like one of templates
abbrev pub is_unknown_tag : List ℕ → Bool
is_unknown_tag [] = false
is_unknown_tag (b ∷ bytes) = b == 60 && is_unknown_name (without_slash bytes)

-- The bytes, in which no tag of templates begins, begin with one in other letters, namely with
-- capitals for small ones, or with one that there isn't.
abbrev pub is_misspelled : List ℕ → Bool
is_misspelled bytes = is_some (tag_at (map to_ascii_uppercase bytes)) || is_unknown_tag bytes

abbrev pub misspelled : ℕ → List ℕ → List Claim
misspelled at bytes = if is_misspelled bytes then claim asked.Tag at ∷ [] else []

-- the misspelled tags in a text between tags, of which the first byte is at this place
abbrev pub tag_claims : ℕ → List ℕ → List Claim
tag_claims at [] = []
tag_claims at (b ∷ bytes) = misspelled at (b ∷ bytes) ++ tag_claims (at + 1) bytes

-- ---- labels and collections

-- the name that an item is
abbrev pub name_of : ItemKind → Option Name
name_of (kinds.Token (tokens.Name n)) = Some n
name_of k = None

-- the label that an item is: a name or a quoted text
abbrev pub label_of : ItemKind → Option Label
label_of (kinds.Token (tokens.Name n)) = Some n
label_of (kinds.Token (tokens.Quoted q)) = Some q
label_of k = None

-- what is asked for by an item that may be a label
abbrev pub labelled : (Label → Asked) → Option Label → ℕ → List Claim
labelled ask None at = []
labelled ask (Some l) at = claim (ask l) at ∷ []

-- what is asked for by the label that the items begin with
abbrev pub label_claims : (Label → Asked) → List Item → List Claim
label_claims ask [] = []
label_claims ask (i ∷ items) = labelled ask (label_of i.kind) i.place

-- the item is `=`
abbrev pub is_equals : ItemKind → Bool
is_equals (kinds.Token (tokens.Sign signs.Eq)) = true
is_equals k = false

-- the first label of the word behind `KEY` or `LINK`
abbrev pub word_claims : List Item → List Claim
word_claims [] = []
word_claims (i ∷ items) = if is_equals i.kind then label_claims asked.Step items else []

-- a setting that a word may follow
abbrev pub is_word_setting : Name → Bool
is_word_setting n = bytes_eq n (codes "KEY") || bytes_eq n (codes "LINK")

-- behind `@`: a link of the function whose pages the template presents, or of whatever it presents
abbrev pub of_page : Option Name → Label → Asked
of_page None l = asked.Step l
of_page (Some f) l = asked.LinkOf f l

-- ---- labels by which words go on

-- the label, if there is one
abbrev pub one_label : Option Label → List Label
one_label None = []
one_label (Some l) = l ∷ []

-- the label that the items begin with, if they do
abbrev pub first_label : List Item → List Label
first_label [] = []
first_label (i ∷ items) = one_label (label_of i.kind)

-- the label behind an item that is `.`
abbrev pub label_behind : ItemKind → List Item → List Label
label_behind (kinds.Token (tokens.Sign signs.Dot)) items = first_label items
label_behind k items = []

-- the labels by which words go on from what they have reached: those behind a `.`
abbrev pub further_labels : List Item → List Label
further_labels [] = []
further_labels (i ∷ items) = label_behind i.kind items ++ further_labels items

-- ---- templates

-- the collection's name after a first name, which is then the word COLLECTION; an `IN` before `=` leads to a layout
abbrev pub has_label : List Item → Bool
has_label [] = false
has_label (i ∷ items) = is_some (label_of i.kind) && not (leads i items)

-- the function of a template whose first name is this: none where it is a collection's
abbrev pub function_of : Name → List Item → Option Name
function_of n items =
    if bytes_eq n (codes "COLLECTION") && has_label items then None else Some n

-- the same of a template with these items behind `<TEMPLATE`
abbrev pub named_function : Option Name → List Item → Option Name
named_function None items = None
named_function (Some n) items = function_of n items

abbrev pub title_function : List Item → Option Name
title_function [] = None
title_function (i ∷ items) = named_function (name_of i.kind) items

-- the function that a template presents, at its name
abbrev pub title_claims : List Item → List Claim
title_claims [] = []
title_claims (i ∷ items) = labelled asked.Presented (title_function (i ∷ items)) i.place

-- what is asked for by a tag that shows a value at such a place
abbrev pub shown_claims : Markup → ℕ → List Claim
shown_claims place at = if is_unsafe place then claim asked.Shown at ∷ [] else []

-- what is asked for by LINK
abbrev pub target_claims : Name → ℕ → List Claim
target_claims n at = if bytes_eq n (codes "LINK") then claim asked.Targets at ∷ [] else []

-- what is asked for by a mode that shows a value as it stands
abbrev pub raw_claims : Name → ℕ → List Claim
raw_claims n at =
    if bytes_eq n (codes "RAW") || bytes_eq n (codes "PLAIN") then claim asked.Raw at ∷ [] else []

-- what an item asks for, by what is before it and behind it
abbrev pub item_claims : Before → ItemKind → ℕ → List Item → List Claim
item_claims s (kinds.Text t) at items = tag_claims at t
item_claims s (kinds.Mark marks.OpenTemplate) at items = title_claims items
item_claims s (kinds.Mark marks.OpenFormat) at items = shown_claims s.markup at
item_claims s (kinds.Mark marks.HereOf) at items = label_claims (of_page s.function) items
item_claims s (kinds.Mark marks.Hash) at items = label_claims asked.Collection items
item_claims s (kinds.Token (tokens.Sign signs.Dot)) at items = label_claims asked.Step items
item_claims s (kinds.Token (tokens.Name n)) at items =
    if s.labelled then []
    else target_claims n at ++ (raw_claims n at ++ (if is_word_setting n then word_claims items else []))
item_claims s k at items = []

-- what is known further on in a template
abbrev pub known : Before → (labelled : Bool) → Markup → Before
known s labelled place = record { function = s.function; labelled = labelled; markup = place }

-- What is known after an item. A layout and a fragment are of no function: they present what the templates that they are put
-- round or into do.
abbrev pub before_next : Before → ItemKind → List Item → Before
before_next s (kinds.Mark marks.OpenTemplate) items =
    record { function = title_function items; labelled = false; markup = Content }
before_next s (kinds.Mark marks.OpenLayout) items =
    record { function = None; labelled = false; markup = Content }
before_next s (kinds.Mark marks.OpenFragment) items =
    record { function = None; labelled = false; markup = Content }
before_next s (kinds.Mark marks.OpenFormat) items = known s false (after_value s.markup)
before_next s (kinds.Mark marks.HereOf) items = known s true s.markup
before_next s (kinds.Mark marks.Hash) items = known s true s.markup
before_next s (kinds.Token (tokens.Sign signs.Dot)) items = known s true s.markup
before_next s (kinds.Token (tokens.Sign signs.Eq)) items = known s true s.markup
before_next s (kinds.Text t) items = known s false (after_text s.markup t)
before_next s k items = known s false s.markup

-- what items ask for
abbrev pub items_claims : Before → List Item → List Claim
items_claims s [] = []
items_claims s (i ∷ items) =
    item_claims s i.kind i.place items ++ items_claims (before_next s i.kind items) items

-- all that a file of templates asks for, by its items
abbrev pub template_claims : List Item → List Claim
template_claims = items_claims (record { function = None; labelled = false; markup = Content })
