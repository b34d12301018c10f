use Rattle.std.proofs.Common.{◌≡◌, ◌<◌, length, sym, ap, ◌∙◌, arith}
use Rattle.std.proofs.lemmas.List.{length-map}
use Rattle.acpi_space.specs.inner.Standing.{entry_in}
use Rattle.acpi_space.proofs.Known.{path_is}
use Rattle.acpi_space.proofs.space.Space.fill_path.Goals as goal

pub fill-requires-clause-room : goal.fill-requires-clause-room
fill-requires-clause-room c =
    let places = c.self.inside.tree in
    let placed = c.self.inside.placed.items in
    let p = c.index-placed.result.now in
    let e = entry_in places p in
    let count : length c.args.self.now ≡ length placed = ap length (sym c.self.view_is) ∙ length-map placed (entry_in places) in
    let inside : c.args.index < length placed = omega (arith, c.requires.within, count) in
    let path = path_is places placed c.args.self.now c.args.index e p c.self.view_is inside c.index-placed.ensures in
    rw path (c.requires.room e)
