use Rattle.std.proofs.Common.{◌≡◌, ◌++◌, [], ap, ◌∙◌, take, drop, List, ℕ}
use Rattle.std.proofs.lemmas.List.{append-nil, take-append-drop}
use Rattle.pw_text.proofs.Putting.{PutsText-as, PutsText-page, PutsText-stop, PutsText-then}
use Rattle.pw_text.proofs.page.Page.put_over.Goals as goal

-- the bytes are those that fit, nothing, and the rest
in_parts : (spare : ℕ) (first rest bytes : List ℕ) → first ≡ take spare bytes → rest ≡ drop spare bytes → (first ++ []) ++ rest ≡ bytes
in_parts spare first rest bytes e f = rw (append-nil first, e, f) (take-append-drop spare bytes)

pub returns-in_err-flush : goal.returns-in_err-flush
returns-in_err-flush g c =
    let a = c.args in
    let first = c.split_at.result.0.now in
    let rest = c.split_at.result.1.now in
    let filled : c.extend_from_slice.new.self.elements ≡ a.self.now ++ first = ap (λ r. r.elements) c.extend_from_slice.ensures ∙ ap (λ l. l ++ first) c.self.view_is in
    let put = PutsText-page a.sink.now a.self.now first in
    let flushed = rw filled at c.in_err-flush.ensures.puts in
    PutsText-as a.bytes.now (in_parts _ first rest a.bytes.now c.split_at.ensures.front c.split_at.ensures.back)
    (PutsText-stop rest c.from_residual.result c.from_residual.ensures.0 (PutsText-then put flushed))

pub returns : goal.returns
returns g c =
    let a = c.args in
    let first = c.split_at.result.0.now in
    let rest = c.split_at.result.1.now in
    let filled : c.extend_from_slice.new.self.elements ≡ a.self.now ++ first = ap (λ r. r.elements) c.extend_from_slice.ensures ∙ ap (λ l. l ++ first) c.self.view_is in
    let put = PutsText-page a.sink.now a.self.now first in
    let flushed = rw filled at c.in_ok-flush.ensures.puts in
    PutsText-as a.bytes.now (in_parts _ first rest a.bytes.now c.split_at.ensures.front c.split_at.ensures.back)
    (PutsText-then (PutsText-then put flushed) c.put_on_empty.ensures)
