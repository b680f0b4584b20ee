use Rattle.std.proofs.Common.{◌≡◌, ◌++◌, ℕ, List, string_bytes, codes, append_assoc, sym, subst}
use Rattle.std.specs.Prelude.{decimal}
use Rattle.http_spec.specs.Replies.{head_bytes}
use Rattle.http_reply.proofs.replies.head.Goals as goal

-- eleven pieces, joined from the left and from the right
regroup : (a b c d e f g h i j k : List ℕ) → a ++ b ++ c ++ d ++ e ++ f ++ g ++ h ++ i ++ j ++ k
    ≡ a ++ (b ++ (c ++ (d ++ (e ++ (f ++ (g ++ (h ++ (i ++ (j ++ k)))))))))
regroup a b c d e f g h i j k = simp append_assoc

pub returns : goal.returns
unfolding head_bytes
returns c =
    let status = c.args.status.now in
    let kind = c.args.content_type.now in
    let allow = c.args.allow.now in
    let length = decimal c.args.length in
    let said = c.connection-connection.result.now in
    let text : string_bytes c.in_ok-head.head ≡ codes "HTTP/1.1 " ++ (status ++ (codes "\r\nContent-Type: " ++ (kind ++ (codes "\r\n" ++ (allow
    ++ (codes "Content-Length: " ++ (length ++ (codes "\r\nConnection: " ++ (said ++ codes "\r\n\r\n"))))))))) = c.in_ok-head.ensures.ok in
    let Bytes : List ℕ → Type 0 = λ t. string_bytes c.in_ok-head.head ≡ t in
    let joined = subst Bytes (sym (regroup (codes "HTTP/1.1 ") status (codes "\r\nContent-Type: ") kind (codes "\r\n") allow (codes "Content-Length: ") length (codes "\r\nConnection: ") said (codes "\r\n\r\n"))) text in
    let Said : List ℕ → Type 0 = λ t. Bytes (codes "HTTP/1.1 " ++ status ++ codes "\r\nContent-Type: " ++ kind ++ codes "\r\n" ++ allow ++ codes "Content-Length: " ++ length ++ codes "\r\nConnection: " ++ t ++ codes "\r\n\r\n") in
    subst Said c.connection-connection.ensures joined
