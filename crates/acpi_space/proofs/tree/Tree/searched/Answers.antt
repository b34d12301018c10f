use Rattle.std.proofs.Common.{◌≡◌, ◌∷◌, [], length, get_or, sym, ◌∙◌, arith}
use Rattle.acpi_space.proofs.Known.{single_list, searched_answer}
use Rattle.acpi_space.proofs.tree.Tree.searched.Goals as goal

pub returns-in-len1-clause-found : goal.returns-in-len1-clause-found
returns-in-len1-clause-found c known knows =
    let path = c.args.path.now in
    let one : length c.as_slice.result.now ≡ 1 = (let least = c.in-len1.len_at_least in let most = c.in-len1.len_below in omega arith) in
    let none : path.ups ≡ 0 = (let f = c.if-path-ne0.false in omega arith) in
    let segs : path.segs ≡ c.seg-item.result ∷ [] = sym c.as_slice.ensures ∙ single_list c.as_slice.result.now c.seg-item.result one c.seg-item.is in
    searched_answer c.args.self.now known (get_or c.args.self.now c.args.scope []) path c.seg-item.result knows c.if-path.false none segs c.search.result c.search.ensures
