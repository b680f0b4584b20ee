-- The chains of mentions.
use Rattle.std.proofs.Common.{◌≡◌, ℕ, ◌<◌, List, length, get_or, ap}
use Rattle.query_spec.specs.Query.{Chain}
use Rattle.query_spec.specs.Mentions.{chain_of}
use Rattle.query_links.specs.declared.written.Mention.{Mention}
use Rattle.query_links.specs.Mentions.{HaveChains}
use Rattle.tests_certificates.specs.Links.{HasOwnVariables}
use Rattle.tests_certificates.proofs.Steps.{all_at}

pub own_chain : (version : ℕ) (ms : List Mention) (i : ℕ) (m : Mention) → HaveChains version ms → i < length ms → m ≡ get_or ms i m → HasOwnVariables m.chain.now
own_chain version ms i m have lt at =
    let P : Mention → Type 0 = λ m. m.chain.now ≡ chain_of version m.chain.now.conditions in
    ap (λ (c : Chain). c.variables) (all_at P ms i m lt at have)
